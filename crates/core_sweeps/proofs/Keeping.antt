-- Pairs that are kept in place.
use Rattle.std.proofs.Common.{◌≡◌, ℕ, zero, suc, ◌+◌, ◌<◌, ◌≤◌, Bool, true, false, cond, List, [], ◌∷◌, ◌++◌, take, drop, length, get_or, refl, sym, ap, ◌∙◌, subst, arith}
use mathlib.Core.Logic.{inl, inr}
use Rattle.std.specs.Prelude.{filter}
use Rattle.std.proofs.Math.ListN.{length-set, set}
use Rattle.std.proofs.lemmas.List.{drop-set-lt, take_more_set}
use Rattle.std.proofs.lemmas.List.Elements.{filter_more}
use Rattle.block_body.specs.Keys.{HasKeys}
use Rattle.block_layout.specs.Place.{block_of}
use Rattle.block_spec.specs.Bodies.{slot_in}
use Rattle.block_spec.specs.Fitting.{columns_of}
use Rattle.block_spec.specs.Slots.{Slot, bare}
use Rattle.cell_model.specs.declared.column.Column.{Column}
use Rattle.cell_model.specs.Schemas.{IsSchema, begins_with_key}
use Rattle.core_sweeps.proofs.Moves.{places, source_is}
use Rattle.core_parts.specs.Hands.{Held, MayRun}
use Rattle.core_sweeps.proofs.Prunes.{keyed}
use Rattle.core_sweeps.specs.SweepSteps.{body_in}
use Rattle.core_laws.proofs.Events.Fitting.{current_fits}
use Rattle.event_spec.specs.declared.event.Event.TheVariants as event
use Rattle.event_spec.specs.declared.event.MovePair.{MovePair}
use Rattle.event_spec.specs.Lawful.{Among, HasBlock}
use Rattle.event_spec.specs.Parts.{Shape, body_at}
use Rattle.event_spec.specs.Replay.{columns_in}
use Rattle.event_spec.specs.SlotSound.{VersionsFit}
use Rattle.core_laws.proofs.Frames.Looks.{true_false}
use Rattle.core_laws.proofs.Sound.Calm.{index_all}

-- ---- kept in place

-- So many of the first elements pass, and stand in front; from there on all are as they were.
pub record Keeping {X : Type 0} (p : X → Bool) (all now : List X) (at kept : ℕ) : Type 0 where
  pub few : kept ≤ at
  pub long : length now ≡ length all
  pub front : take kept now ≡ filter p (take at all)
  pub back : drop at now ≡ drop at all

-- An element at a place is the first of those from there on.
got_drop : {X : Type 0} (xs : List X) (at : ℕ) (d : X) → get_or xs at d ≡ get_or (drop at xs) 0 d
got_drop [] zero d = refl
got_drop [] (suc at) d = refl
got_drop (x ∷ xs) zero d = refl
got_drop (x ∷ xs) (suc at) d = got_drop xs at d

-- What a list has from the next place on is what it has from this one without its first.
drop_next : {X : Type 0} (xs : List X) (at : ℕ) → drop (suc at) xs ≡ drop 1 (drop at xs)
drop_next [] zero = refl
drop_next [] (suc at) = refl
drop_next (x ∷ xs) zero = refl
drop_next (x ∷ xs) (suc at) = drop_next xs at

-- what was not looked at yet stands as it was
pub same_at : {X : Type 0} (p : X → Bool) (all now : List X) (at kept : ℕ) (d : X) → Keeping p all now at kept → get_or now at d ≡ get_or all at d
same_at p all now at kept d k = got_drop now at d ∙ ap (λ xs. get_or xs 0 d) k.back ∙ sym (got_drop all at d)

-- Lists that agree from a place on agree from the next one on.
next_back : {X : Type 0} (all now : List X) (at : ℕ) → drop at now ≡ drop at all → drop (at + 1) now ≡ drop (at + 1) all
next_back all now at same =
    let next : at + 1 ≡ suc at = omega arith in
    ap (λ n. drop n now) next ∙ drop_next now at ∙ ap (drop 1) same ∙ sym (drop_next all at) ∙ sym (ap (λ n. drop n all) next)

-- an element that passes is put behind those in front
pub keeps : {X : Type 0} (p : X → Bool) (all now : List X) (at kept : ℕ) (x : X) → Keeping p all now at kept → at < length now → x ≡ get_or now at x → p x ≡ true
    → Keeping p all (set now kept x) (at + 1) (kept + 1)
keeps p all now at kept x k less is passes =
    let few = k.few in let long = k.long in
    let here : get_or all at x ≡ x = sym (same_at p all now at kept x k) ∙ sym is in record {
      few = omega (arith, few);
      long = length-set now kept x ∙ k.long;
      front = take_more_set now kept x (omega (arith, few, less)) ∙ ap (λ ys. ys ++ x ∷ []) k.front
          ∙ sym (filter_more p all at x (omega (arith, less, long)) ∙ ap (λ y. filter p (take at all) ++ cond (p y) (y ∷ []) []) here ∙ ap (λ b. filter p (take at all) ++ cond b (x ∷ []) []) passes);
      back = drop-set-lt (at + 1) now kept x (omega (arith, few)) ∙ next_back all now at k.back;
    }

-- one that fails is passed over
pub skips : {X : Type 0} (p : X → Bool) (all now : List X) (at kept : ℕ) (x : X) → Keeping p all now at kept → at < length now → x ≡ get_or now at x → p x ≡ false
    → Keeping p all now (at + 1) kept
skips p all now at kept x k less is fails =
    let few = k.few in let long = k.long in
    let here : get_or all at x ≡ x = sym (same_at p all now at kept x k) ∙ sym is in record {
      few = omega (arith, few);
      long = k.long;
      front = k.front ∙ sym (filter_more p all at x (omega (arith, less, long)) ∙ ap (λ y. filter p (take at all) ++ cond (p y) (y ∷ []) []) here ∙ ap (λ b. filter p (take at all) ++ cond b (x ∷ []) []) fails ∙ nil (filter p (take at all)));
      back = next_back all now at k.back;
    }
  where
    nil : {X : Type 0} (xs : List X) → xs ++ [] ≡ xs
    nil [] = refl
    nil (x ∷ xs) = ap (λ ys. x ∷ ys) (nil xs)

-- one that passes, with the list and the count that a step leaves
pub kept_as : {X : Type 0} (p : X → Bool) (all next now : List X) (at kept count : ℕ) (x : X) → Keeping p all now at kept → at < length now → x ≡ get_or now at x → p x ≡ true
    → next ≡ set now kept x → count ≡ kept + 1 → Keeping p all next (at + 1) count
kept_as p all next now at kept count x k less is passes made more =
    subst (λ n. Keeping p all next (at + 1) n) (sym more) (subst (λ xs. Keeping p all xs (at + 1) (kept + 1)) (sym made) (keeps p all now at kept x k less is passes))

-- one that fails, with the list and the count that a step leaves
pub skipped_as : {X : Type 0} (p : X → Bool) (all next now : List X) (at kept count : ℕ) (x : X) → Keeping p all now at kept → at < length now → x ≡ get_or now at x → p x ≡ false
    → next ≡ now → count ≡ kept → Keeping p all next (at + 1) count
skipped_as p all next now at kept count x k less is fails same still =
    subst (λ n. Keeping p all next (at + 1) n) (sym still) (subst (λ xs. Keeping p all xs (at + 1) kept) (sym same) (skips p all now at kept x k less is fails))

-- at first nothing was looked at
pub starts : {X : Type 0} (p : X → Bool) (all : List X) → Keeping p all all 0 0
starts p all = record { few = omega arith; long = refl; front = refl; back = refl }

-- At the end those in front are the ones that pass.
pub ends : {X : Type 0} (p : X → Bool) (all now : List X) (at kept : ℕ) → Keeping p all now at kept → length now ≤ at → take kept now ≡ filter p all
ends p all now at kept k past = let long = k.long in k.front ∙ ap (filter p) (take_past all at (omega (arith, past, long)))
  where
    take_past : {X : Type 0} (xs : List X) (n : ℕ) → length xs ≤ n → take n xs ≡ xs
    take_past [] zero le = refl
    take_past [] (suc n) le = refl
    take_past (x ∷ xs) zero le = absurd (omega (arith, le))
    take_past (x ∷ xs) (suc n) le = ap (λ ys. x ∷ ys) (take_past xs n (omega (arith, le)))

-- an element at a place is among the list
pub among_at : {X : Type 0} (xs : List X) (at : ℕ) (d : X) → at < length xs → Among (get_or xs at d) xs
among_at [] at d less = absurd (omega (arith, less))
among_at (x ∷ xs) zero d less = inl refl
among_at (x ∷ xs) (suc at) d less = inr (among_at xs at d (omega (arith, less)))

-- the next pair to be looked at is one of all
pub is_among : (p : MovePair → Bool) (all now : List MovePair) (at kept : ℕ) (pair : MovePair) → Keeping p all now at kept → at < length now → pair ≡ get_or now at pair → Among pair all
is_among p all now at kept pair k less is =
    let long = k.long in
    let here : get_or all at pair ≡ pair = sym (same_at p all now at kept pair k) ∙ sym is in
    subst (λ (x : MovePair). Among x all) here (among_at all at pair (omega (arith, less, long)))

-- ---- keys

-- Columns that begin with the key are at least one.
key_first : (columns : List Column) → begins_with_key columns ≡ true → 0 < length (columns_of columns)
key_first [] key = absurd (true_false (sym key))
key_first (column ∷ columns) key = omega arith

-- the rows of a pair's source have keys where the table's columns are a schema
pub has_pair_keys : (sh : Shape) (t : ℕ) (moves : List MovePair) (old : Held) (m : MayRun sh (event.Move t moves) old) (pair : MovePair) → Among pair moves → IsSchema (columns_in sh t)
    → HasKeys (body_in sh old t (block_of pair.source))
has_pair_keys sh t moves old m pair among schema = subst HasKeys (sym (source_is sh t moves old m pair among)) (record {
  columns = subst (λ columns. 0 < length columns) (sym (m.holds.sound.bodies t (block_of pair.source) has).columns) (key_first (columns_in sh t) schema.key);
  rows = λ slot. keyed (columns_in sh t) (slot_in (body_at sh m.parts t (block_of pair.source)) slot).row schema.key
      (current_fits (columns_in sh t) (slot_in (body_at sh m.parts t (block_of pair.source)) slot).row (slot_in (body_at sh m.parts t (block_of pair.source)) slot).entries
      (index_all (λ (slot : Slot). VersionsFit (columns_in sh t) slot.row slot.entries) (body_at sh m.parts t (block_of pair.source)).slots bare slot tt (m.holds.sound.bodies t (block_of pair.source) has).versions));
})
  where
    has : HasBlock sh t (block_of pair.source)
    has = (places sh t moves old m pair among).0.0
