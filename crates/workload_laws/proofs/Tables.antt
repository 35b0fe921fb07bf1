-- A table's line that is read is the table's line, and the table keeps its limits.
use Rattle.std.proofs.Common.{◌≡◌, ℕ, ◌%◌, true, false, List, [], ◌∷◌, ◌++◌, map, refl, subst}
use Rattle.std.specs.Prelude.{◌==◌, not, codes, decimal, Ok}
use Rattle.std.proofs.lemmas.Bool.{not-true}
use Rattle.cell_model.specs.declared.column.Column.{Column}
use Rattle.cell_model.specs.declared.table.TableDecl.{TableDecl}
use Rattle.cell_model.specs.Schemas.{most_slots_of}
use Rattle.workload_spec.specs.declared.script.Cause.TheVariants as cause
use Rattle.workload_spec.specs.Valid.{is_within, is_name, is_table, is_declared, least_slots, most_blocks}
use Rattle.workload_spec.specs.ScriptText.{column_text}
use Rattle.workload_spec.specs.Extents.{whole}
use Rattle.workload_spec.specs.Grammar.{rule, word, no_word, keyword, number, key_column, columns_from, table_of}
use Rattle.workload_laws.proofs.Results.{step, rule_of, word_is, no_word_is, keyword_is, number_is}
use Rattle.workload_laws.proofs.Lists.{joined}
use Rattle.workload_laws.proofs.Columns.{columns_are, ReadsAll}

-- the words of a table's line
abbrev pub table_words : TableDecl → List (List ℕ)
table_words table = codes "table" ∷ table.name ∷ (map column_text table.schema ++ codes "slots" ∷ decimal table.slots ∷ codes "blocks" ∷ decimal table.blocks ∷ [])

-- a table that is read behind others
pub record ReadsTable (tables : List TableDecl) (words : List (List ℕ)) (table : TableDecl) : Type 0 where
  pub text : words ≡ table_words table
  pub is : is_table table ≡ true
  pub own : is_declared table.name tables ≡ false

-- what is read, by its parts
made : (tables : List TableDecl) (words line : List (List ℕ)) (name : List ℕ × List (List ℕ)) (key : List (List ℕ)) (columns : List Column × List (List ℕ))
    (slots_word : List (List ℕ)) (slots : ℕ × List (List ℕ)) (blocks_word : List (List ℕ)) (blocks : ℕ × List (List ℕ))
    → words ≡ codes "table" ∷ line → line ≡ name.0 ∷ name.1 → is_name name.0 ≡ true → is_declared name.0 tables ≡ false
    → name.1 ≡ codes "key:i64" ∷ key → ReadsAll (key_column ∷ []) key columns → columns.1 ≡ codes "slots" ∷ slots_word
    → (slots_word ≡ decimal slots.0 ∷ slots.1) × (is_within least_slots (most_slots_of columns.0) slots.0 ≡ true) → slots.0 % 8 == 0 ≡ true
    → slots.1 ≡ codes "blocks" ∷ blocks_word → (blocks_word ≡ decimal blocks.0 ∷ blocks.1) × (is_within 1 most_blocks blocks.0 ≡ true) → blocks.1 ≡ []
    → ReadsTable tables words (record { name = name.0; schema = columns.0; slots = slots.0; blocks = blocks.0 })
made tables words line name key columns slots_word slots blocks_word blocks e1 e2 named own e3 all e4 e5 eighths e6 e7 e8 = record {
  text = rw (e1, e2, e3, all.text, e4, e5.0, e6, e7.0, e8, all.behind) refl;
  is = joined (joined (joined named (all.are refl)) (joined e5.1 eighths)) e7.1;
  own = own;
}

-- a table that is read is its line's words, and keeps its limits
pub table_is : (tables : List TableDecl) (words : List (List ℕ)) (table : TableDecl) → table_of whole tables words ≡ Ok table → ReadsTable tables words table
table_is tables words table e =
    step (keyword cause.Table (codes "table") words) _ table e (λ line is1 e1.
    step (word cause.Name line) _ table e1 (λ name is2 e2.
    step (rule cause.Name (is_name name.0)) _ table e2 (λ u is3 e3.
    step (rule cause.Twice (not (is_declared name.0 tables))) _ table e3 (λ v is4 e4.
    step (keyword cause.Key (codes "key:i64") name.1) _ table e4 (λ key is5 e5.
    step (columns_from whole (key_column ∷ []) key) _ table e5 (λ columns is6 e6.
    step (keyword cause.Slots (codes "slots") columns.1) _ table e6 (λ slots_word is7 e7.
    step (number cause.Slots least_slots (most_slots_of columns.0) slots_word) _ table e7 (λ slots is8 e8.
    step (rule cause.Slots (slots.0 % 8 == 0)) _ table e8 (λ w is9 e9.
    step (keyword cause.Blocks (codes "blocks") slots.1) _ table e9 (λ blocks_word is10 e10.
    step (number cause.Blocks 1 most_blocks blocks_word) _ table e10 (λ blocks is11 e11.
    step (no_word cause.Blocks blocks.1) _ table e11 (λ x is12 e12.
    let same : record { name = name.0; schema = columns.0; slots = slots.0; blocks = blocks.0 } ≡ table = cc in
    subst (ReadsTable tables words) same (made tables words line name key columns slots_word slots blocks_word blocks
    (keyword_is cause.Table (codes "table") words line is1)
    (word_is cause.Name line name is2)
    (rule_of cause.Name (is_name name.0) u is3)
    (not-true (is_declared name.0 tables) (rule_of cause.Twice (not (is_declared name.0 tables)) v is4))
    (keyword_is cause.Key (codes "key:i64") name.1 key is5)
    (columns_are key (key_column ∷ []) columns is6)
    (keyword_is cause.Slots (codes "slots") columns.1 slots_word is7)
    (number_is cause.Slots least_slots (most_slots_of columns.0) slots_word slots is8)
    (rule_of cause.Slots (slots.0 % 8 == 0) w is9)
    (keyword_is cause.Blocks (codes "blocks") slots.1 blocks_word is10)
    (number_is cause.Blocks 1 most_blocks blocks_word blocks is11)
    (no_word_is cause.Blocks blocks.1 x is12))))))))))))))
