-- The numbers of the parts.
use Rattle.std.specs.Prelude.{◌≡◌, ℕ, ◌+◌, ◌*◌, ◌^◌, ◌<◌, ◌≤◌, List, [], ◌∷◌, All, length}
use Rattle.cell_model.specs.Schemas.{IsSchema}
use Rattle.cell_model.specs.declared.table.TableDecl.{TableDecl}

-- the number of each table's first body, where the first table's is `from`
abbrev pub first_bodies : ℕ → List TableDecl → List ℕ
first_bodies from [] = []
first_bodies from (table ∷ tables) = from ∷ first_bodies (from + table.blocks) tables

-- the number after those of all bodies
abbrev pub after_bodies : ℕ → List TableDecl → ℕ
after_bodies from [] = from
after_bodies from (table ∷ tables) = after_bodies (from + table.blocks) tables

-- What a core is made of: at most 16 tables, with at most 2 ^ 10 blocks of at most 2 ^ 15 slots
-- each and columns that are a schema, for at most 128 passes.
pub record IsOfSize (tables : List TableDecl) (passes : ℕ) : Type 0 where
  pub tables_few : length tables ≤ 16
  pub passes_few : passes ≤ 128
  pub blocks_few : All (λ (table : TableDecl). table.blocks ≤ 2 ^ 10) tables
  pub slots_few : All (λ (table : TableDecl). table.slots ≤ 2 ^ 15) tables
  pub schemas : All (λ (table : TableDecl). IsSchema table.schema) tables

-- Each table has a head and eight shards, then come the bodies, table by table, and then the desk.
pub record AreNumbers (tables : List TableDecl) (bodies : List ℕ) (desk : ℕ) : Type 0 where
  pub bodies_are : bodies ≡ first_bodies (9 * length tables) tables
  pub desk_is : desk ≡ after_bodies (9 * length tables) tables
  pub few : desk < 2 ^ 32
