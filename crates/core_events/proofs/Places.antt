-- Slots of a hand, and going over places.
use Rattle.std.proofs.Common.{◌≡◌, ℕ, zero, suc, ◌+◌, ◌<◌, ◌≤◌, Bool, true, false, List, [], ◌∷◌, Option, None, Some, is_some, length, map, drop, get_or, refl, sym, ap, ◌∙◌, arith}
use mathlib.Core.Logic.{inl, inr}
use Rattle.std.specs.Prelude.{◌↔◌, IfOk, IsTrue, IsSome, Result, Ok, Err}
use Rattle.std.specs.Option.{option_or}
use Rattle.block_layout.specs.Place.{block_of, slot_of}
use Rattle.block_spec.specs.Bodies.{Body, slot_in}
use Rattle.block_spec.specs.Slots.{Row, Slot, bare}
use Rattle.block_spec.specs.declared.phase.Phase.{Phase}
use Rattle.event_spec.specs.declared.part.Head.{Head}
use Rattle.event_spec.specs.declared.reply.WriteFault.TheVariants.{Full, Missing}
use Rattle.event_spec.specs.Judged.{current_place, freezing_of, judged, next_place}
use Rattle.event_spec.specs.Parts.{HeadOf, body_at, head_at, slots_of}
use Rattle.std.specs.Prelude.{option_and_then}
use Rattle.core_parts.proofs.Telling.{body_is, head_is}
use Rattle.core_parts.specs.Hands.{Held, in_hand}
use Rattle.event_spec.specs.declared.part.Part.TheVariants as part
use Rattle.event_spec.specs.Judged.{first_at}
use Rattle.event_spec.specs.Lawful.{Among}
use Rattle.event_spec.specs.Parts.{Parts, Shape, BodyOf, slot_at}
use Rattle.hall_rule.specs.Hands.{Agrees}
use Rattle.core_laws.specs.Slots.Laws.{combined}
use Rattle.undo_chain.specs.declared.chain.Newer.{Newer}
use Rattle.undo_chain.specs.declared.chain.Newer.TheVariants as newer

-- the slot of a place, in a body that is in the hand
pub slot_told : (sh : Shape) (hand : Held) (s : Parts) (t p b j : ℕ) (x : Body) → Agrees hand s → b ≡ block_of p → j ≡ slot_of p → in_hand sh hand (BodyOf t b) ≡ Some (part.Body x)
    → slot_at sh s t p ≡ slot_in x j
slot_told sh hand s t p b j x agrees block slot is =
    ap (λ (y : Body). slot_in y (slot_of p)) (body_is sh hand s agrees t (block_of p) x (ap (λ n. in_hand sh hand (BodyOf t n)) (sym block) ∙ is)) ∙ ap (slot_in x) (sym slot)

-- the row at a place among the rows of slots is that slot's
pub row_at : (slots : List Slot) (j : ℕ) → get_or (map (λ slot. slot.row) slots) j None ≡ (get_or slots j bare).row
row_at [] j = refl
row_at (x ∷ slots) zero = refl
row_at (x ∷ slots) (suc j) = row_at slots j

-- what tells whether there is a row is that test
pub as_told : (b : Bool) (o : Option Row) → IsTrue b ↔ IsSome o → b ≡ is_some o
as_told true None told = absurd (none_some (told.0 refl))
  where
    none_some : false ≡ true → ⊥
    none_some e = cc
as_told true (Some x) told = refl
as_told false None told = refl
as_told false (Some x) told = absurd (none_some (told.1 refl))
  where
    none_some : false ≡ true → ⊥
    none_some e = cc

-- ---- going over places

-- the next of some places is one of them
pub next_among : (places : List ℕ) (i : ℕ) (p : ℕ) → i < length places → p ≡ get_or places i p → Among p places
next_among [] i p less is = absurd (omega (arith, less))
next_among (q ∷ places) zero p less is = inl is
next_among (q ∷ places) (suc i) p less is = inr (next_among places i p (omega (arith, less)) is)

-- the places from the next on are it and those behind it
pub drop_next : (places : List ℕ) (i : ℕ) (p : ℕ) → i < length places → p ≡ get_or places i p → drop i places ≡ p ∷ drop (i + 1) places
drop_next [] i p less is = absurd (omega (arith, less))
drop_next (q ∷ places) zero p less is = ap (λ x. x ∷ places) (sym is)
drop_next (q ∷ places) (suc i) p less is =
    drop_next places i p (omega (arith, less)) is ∙ ap (λ k. p ∷ drop k (q ∷ places)) (let e : suc (i + 1) ≡ suc i + 1 = omega arith in e)

-- at the end none is left
pub drop_end : (places : List ℕ) (i : ℕ) → length places ≤ i → drop i places ≡ []
drop_end [] zero le = refl
drop_end [] (suc i) le = refl
drop_end (y ∷ places) zero le = absurd (omega (arith, le))
drop_end (y ∷ places) (suc i) le = drop_end places i (omega (arith, le))

-- A place that answers is the first.
pub answers : {X : Type 0} (answer : ℕ → Option X) (places : List ℕ) (i p : ℕ) (o : Option X) → drop i places ≡ p ∷ drop (i + 1) places
    → first_at answer (drop i places) ≡ first_at answer places → answer p ≡ o → is_some o ≡ true → o ≡ first_at answer places
answers answer places i p None next so is some = absurd (none_some some)
  where
    none_some : false ≡ true → ⊥
    none_some e = cc
answers answer places i p (Some x) next so is some =
    sym (ap (λ o. option_or o (first_at answer (drop (i + 1) places))) is) ∙ ap (first_at answer) (sym next) ∙ so

-- One that doesn't is passed.
pub passed : {X : Type 0} (answer : ℕ → Option X) (places : List ℕ) (i p : ℕ) → drop i places ≡ p ∷ drop (i + 1) places
    → first_at answer (drop i places) ≡ first_at answer places → is_some (answer p) ≡ false → first_at answer (drop (i + 1) places) ≡ first_at answer places
passed {X} answer places i p next so none =
    ap (λ o. option_or o (first_at answer (drop (i + 1) places))) (sym (no_answer (answer p) none)) ∙ ap (first_at answer) (sym next) ∙ so
  where
    no_answer : (o : Option X) → is_some o ≡ false → o ≡ None
    no_answer None e = refl
    no_answer (Some x) e = cc

-- what follows of a value, where a result is one
pub ok_more : {A E : Type 0} (r : Result A E) (P Q : A → Type 0) → IfOk r P → ((a : A) → P a → Q a) → IfOk r Q
ok_more (Ok a) P Q is then = then a is
ok_more (Err e) P Q is then = tt

-- what is met at no further slot is what was met
pub combined_nothing : (n : Newer) → combined n newer.Nothing ≡ n
combined_nothing newer.Nothing = refl
combined_nothing (newer.Session w) = refl
combined_nothing (newer.Number k) = refl

-- ---- verdicts

-- what is said of a change of the current row
pub change_told : (sh : Shape) (hand : Held) (s : Parts) (t b p : ℕ) (places : List ℕ) (x : Body) (phase : Phase) → Agrees hand s → Some p ≡ current_place (slot_at sh s t) places
    → b ≡ block_of p → in_hand sh hand (BodyOf t b) ≡ Some (part.Body x) → x.phase ≡ phase
    → judged (freezing_of (block_of p) phase) (Some p) Missing ≡ judged (option_and_then (λ place. freezing_of (block_of place) (body_at sh s t (block_of place)).phase) (current_place (slot_at sh s t) places)) (current_place (slot_at sh s t) places) Missing
change_told sh hand s t b p places x phase agrees is block body same =
    ap (λ ph. judged (freezing_of (block_of p) ph) (Some p) Missing)
    (sym same ∙ ap (λ (y : Body). y.phase) (sym (body_is sh hand s agrees t (block_of p) x (ap (λ n. in_hand sh hand (BodyOf t n)) (sym block) ∙ body))))
    ∙ ap (λ o. judged (option_and_then (λ place. freezing_of (block_of place) (body_at sh s t (block_of place)).phase) o) o Missing) is

-- what is said of an insert where the key was not written
pub next_told : (sh : Shape) (hand : Held) (s : Parts) (t slots : ℕ) (written place : Option ℕ) (h : Head) → Agrees hand s → written ≡ None → in_hand sh hand (HeadOf t) ≡ Some (part.Head h)
    → slots ≡ slots_of sh t → place ≡ next_place h slots → judged None place (Full h.inserts) ≡ judged None (option_or written (next_place (head_at sh s t) (slots_of sh t))) (Full (head_at sh s t).inserts)
next_told sh hand s t slots written place h agrees none is many next =
    ap (λ o. judged None o (Full h.inserts)) (next ∙ ap (next_place h) many)
    ∙ ap (λ (h : Head). judged None (next_place h (slots_of sh t)) (Full h.inserts)) (sym (head_is sh hand s agrees t h is))
    ∙ ap (λ w. judged None (option_or w (next_place (head_at sh s t) (slots_of sh t))) (Full (head_at sh s t).inserts)) (sym none)
