-- What an export's reads told is what its transaction reads when the call ends, as far as it read.
use Rattle.std.proofs.Common.{◌≡◌, ℕ, Bool, true, false, cond, not, ◌&&◌, ◌||◌, List, [], ◌∷◌, ◌++◌, map, filter, length, refl, sym, ap, ◌∙◌, subst, arith}
use mathlib.Core.Logic.{inl, inr}
use Rattle.std.specs.List.{list_any}
use Rattle.std.proofs.lemmas.Bool.{or_parts}
use Rattle.block_spec.specs.Slots.{Row}
use Rattle.event_spec.specs.declared.event.Event.TheVariants as event
use Rattle.event_spec.specs.declared.own.OwnTransaction.{OwnTransaction}
use Rattle.event_spec.specs.declared.reply.Reply.TheVariants as reply
use Rattle.event_spec.specs.Effects.{CoreEvent}
use Rattle.event_spec.specs.Lawful.{Among}
use Rattle.event_spec.specs.Parts.{Parts, Shape}
use Rattle.event_spec.specs.Replies.{CoreReply, rows_read}
use Rattle.run_laws.specs.Explained.Reads.{Stands}
use Rattle.export_spec.specs.Calls.{groups_told}
use Rattle.run_spec.specs.Calls.{is_cut_short, is_final, is_memory, is_refused}
use Rattle.run_spec.specs.Occurrences.{Occurrence, events_in}
use Rattle.run_spec.specs.Told.{is_some_row, rows_told}
use Rattle.run_laws.proofs.Told.Splits.{heads, none_some, tails}

-- True and false are never the same.
true_false : true ≡ false → ⊥
true_false e = cc

-- a refusal tells no row
refused_none : (told : CoreReply) → is_memory told ≡ true → rows_told told ≡ []
refused_none (reply.Rows rows) e = absurd (true_false (sym e))
refused_none (reply.Shared rows) e = absurd (true_false (sym e))
refused_none _ e = refl

-- of events that were cut short only the last may have been refused
first_granted : (first next : Occurrence) (rest : List Occurrence) → is_cut_short (first ∷ next ∷ rest) ≡ true
    → (is_refused first ≡ false) × (is_cut_short (next ∷ rest) ≡ true)
first_granted first next rest cut = go (is_refused first) (is_final first.event) (is_cut_short (next ∷ rest)) cut
  where
    go : (a b c : Bool) → (not (a || b) && c) ≡ true → (a ≡ false) × (c ≡ true)
    go true b c e = absurd (true_false (sym e))
    go false true c e = absurd (true_false (sym e))
    go false false c e = (refl, e)

module _ (sh : Shape) (s : Parts) (session : ℕ) (own : OwnTransaction) (t : ℕ) where
  -- the groups of some blocks
  abbrev pub groups_at : List ℕ → List (List Row)
  groups_at blocks = filter is_some_row (map (rows_read sh s own t) blocks)

  -- what the reads told, and what is not read
  pub record TellsFirst (made : List Occurrence) (blocks : List ℕ) : Type 0 where
    pub more : List (List Row)
    pub split : groups_told made ++ more ≡ groups_at blocks
    pub all : length made ≡ length blocks → list_any is_refused made ≡ false → more ≡ []

  -- Where nothing was read, all groups of the blocks are still unread.
  none_read : (blocks : List ℕ) → TellsFirst [] blocks
  none_read [] = record { more = []; split = refl; all = λ same granted. refl }
  none_read (block ∷ blocks) = record {
    more = groups_at (block ∷ blocks);
    split = refl;
    all = λ same granted. absurd (let never : ⊥ = omega (arith, same) in never);
  }

  -- one more read, of a block with these rows
  one_more : (told here : List Row) (made : List Occurrence) (blocks : List ℕ) → told ≡ here → (b : Bool)
      → (first : TellsFirst made blocks)
      → cond b (told ∷ groups_told made) (groups_told made) ++ first.more ≡ cond b (here ∷ groups_at blocks) (groups_at blocks)
  one_more told here made blocks same true first = ap (λ rows. rows ∷ (groups_told made ++ first.more)) same ∙ ap (λ groups. here ∷ groups) first.split
  one_more told here made blocks same false first = first.split

  -- reads that were made tell the first groups of a table, and all where none is missing
  pub tells_first : (made : List Occurrence) (missed : List CoreEvent) (blocks : List ℕ)
      → map (event.Read own t) blocks ≡ events_in made ++ missed → is_cut_short made ≡ true
      → ((o : Occurrence) → Among o made → Stands sh s session o) → TellsFirst made blocks
  tells_first [] missed blocks e cut stands = none_read blocks
  tells_first (o ∷ made) missed [] e cut stands = absurd (none_some o.event (events_in made ++ missed) e)
  tells_first (o ∷ made) missed (block ∷ blocks) e cut stands = go (tells_first made missed blocks) (is_refused o) refl made refl
    where
      read : o.event ≡ event.Read own t block
      read = sym (heads (event.Read own t block) o.event (map (event.Read own t) blocks) (events_in made ++ missed) e)

      behind : map (event.Read own t) blocks ≡ events_in made ++ missed
      behind = tails (event.Read own t block) o.event (map (event.Read own t) blocks) (events_in made ++ missed) e

      granted : TellsFirst made blocks → is_refused o ≡ false → TellsFirst (o ∷ made) (block ∷ blocks)
      granted rest is =
          let rows : rows_told o.reply ≡ rows_read sh s own t block = (stands o (inl refl) own t block read).rows is in
          record {
            more = rest.more;
            split = one_more (rows_told o.reply) (rows_read sh s own t block) made blocks rows (is_some_row (rows_told o.reply)) rest
                ∙ ap (λ rows. cond (is_some_row rows) (rows_read sh s own t block ∷ groups_at blocks) (groups_at blocks)) rows;
            all = λ same all_granted. rest.all (let s = same in omega (arith, s)) (or_parts (is_refused o) (list_any is_refused made) all_granted).1;
          }

      go : (map (event.Read own t) blocks ≡ events_in made ++ missed → is_cut_short made ≡ true
          → ((other : Occurrence) → Among other made → Stands sh s session other) → TellsFirst made blocks)
          → (b : Bool) → is_refused o ≡ b → (others : List Occurrence) → made ≡ others → TellsFirst (o ∷ made) (block ∷ blocks)
      go again false is [] none = granted (again behind (subst (λ xs. is_cut_short xs ≡ true) (sym none) refl) (λ other a. stands other (inr a))) is
      go again false is (next ∷ others) same = granted
          (again behind (subst (λ xs. is_cut_short xs ≡ true) (sym same) (first_granted o next others (subst (λ xs. is_cut_short (o ∷ xs) ≡ true) same cut)).1) (λ other a. stands other (inr a))) is
      go again true is (next ∷ others) same =
          absurd (true_false (sym is ∙ (first_granted o next others (subst (λ xs. is_cut_short (o ∷ xs) ≡ true) same cut)).0))
      go again true is [] none = record {
        more = groups_at (block ∷ blocks);
        split = ap (λ groups. groups ++ groups_at (block ∷ blocks))
            (ap (λ rows. cond (is_some_row rows) (rows ∷ groups_told made) (groups_told made)) (refused_none o.reply is) ∙ ap groups_told none);
        all = λ same granted. absurd (true_false (sym is ∙ (or_parts (is_refused o) (list_any is_refused made) granted).0));
      }
