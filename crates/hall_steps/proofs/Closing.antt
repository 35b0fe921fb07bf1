-- What the slots have when a hall is closed.
use Rattle.std.proofs.Common.{◌≡◌, ℕ, zero, suc, ◌+◌, ◌*◌, ◌^◌, ◌<◌, List, [], ◌∷◌, Option, Some, length, get_or, sym, ap, ◌∙◌, arith}
use Rattle.std.specs.Prelude.{slice_get, slice_index}
use Rattle.std.proofs.lemmas.Option.{slice_get_within, get_or_from_slice_get}
use mathlib.Core.Option as maybe
use lib.ListN.{get_elem?}
use Rattle.atomic_table.specs.Table.{Final, Me, Seen, State}
use Rattle.hall_rule.specs.EventLog.{replay}
use Rattle.hall_rule.specs.HallInvariant.{block_word, hands_of, stage}
use Rattle.hall_rule.specs.Hands.{Holds, all_in}
use Rattle.hall_rule.specs.Rule.{Rule}
use Rattle.hall_rule.specs.Meaning.{Meaning}
use Rattle.hall_rule.specs.declared.view.Entry.{Entry}
use Rattle.hall_rule.specs.declared.view.View.{View}
use Rattle.hall_rule.specs.Slots.{places_in, slot_of}
use Rattle.hall_rule.proofs.Closes.{all_at, all_home, fourth_at, fourth_get, fourths-length, whole_log, word_rests}
use Rattle.hall_rule.proofs.Halves.{PartsHold, parts_of, words_of}
use Rattle.hall_steps.specs.Hall.{Knows}
use Rattle.hall_steps.proofs.Dividing.{none_read}

-- A place that some slots have stands in the slot of its part.
pub place_at : {A : Type 0} (xs : List A) (k slot : ℕ) (place : A) → slot ≡ slot_of k → slice_get (places_in xs) k ≡ Some place → (slot < length xs) × ((d : A) → get_or xs slot d ≡ place)
place_at xs k slot place is there =
    let here : slot_of k + 0 ≡ slot = omega (arith, is) in
    let found : slice_get xs slot ≡ Some place = ap (slice_get xs) (sym here) ∙ (sym (fourth_get 0 xs k) ∙ there) in
    (slice_get_within xs slot place found, λ d. get_or_from_slice_get xs slot place d found)

-- What is found among words is read there.
pub found_at : (ws : List ℕ) (i n : ℕ) → get_elem? ws i ≡ maybe.some n → n ≡ slice_index ws i
found_at [] i n there = absurd (maybe.some-ne-none n (sym there))
found_at (w ∷ ws) zero n there = sym (maybe.some-injective w n there)
found_at (w ∷ ws) (suc i) n there = found_at ws i n there

-- What is known of the slots and words that a table is closed with, where a pass has all hands, holds
-- nothing and has no claim.
module _ {P E T F : Type 0} (M : Meaning P E T F) (id : ℕ) (me : Me (Option P) (View E)) (hand : List (Option P)) (ws : List ℕ) (xs : List (Option P)) (knows : Knows M id me hand) (empty : (k : ℕ) → ¬ Holds hand k)
    (all : hands_of me.0 ≡ M.passes) (end' : Final (Seen (Rule M) id me.0) ws xs) where
  abbrev s : State (Option P) (View E)
  s = end'.0

  abbrev log : List (Entry E)
  log = end'.1.0.0

  kept : PartsHold M log end'.1.0.1 s
  kept = parts_of end'.1.0.2

  at : get_elem? s.views id ≡ maybe.some me.0
  at = end'.1.1

  nothing : (k : ℕ) → stage me.0 k ≡ 0
  nothing k = knows.away k (empty k)

  same : log ≡ me.0.log
  same = whole_log M log end'.1.0.1 s kept id me.0 at knows.live all nothing

  -- there is a place for each part
  pub closed_room : length (places_in xs) ≡ length (replay M me.0.log)
  closed_room =
      let deep : length xs ≡ slot_of (length M.start) = sym end'.3 ∙ kept.at_home.deep in
      let many = fourths-length 0 xs (omega arith) in
      let least = many.0 in
      let most = many.1 in
      let room = knows.room in
      omega (arith, deep, least, most, room)

  -- The places in the slots are the parts that the pass's log leaves.
  pub closed_parts : places_in xs ≡ all_in (replay M me.0.log)
  closed_parts = all_at (places_in xs) (replay M me.0.log) closed_room
      (λ k lt.
      let r = knows.room in
      let h = all_home M log end'.1.0.1 s kept id me.0 at knows.live all nothing k (omega (arith, lt, r)) in
      let here : slot_of k + 0 ≡ slot_of k = omega arith in
      (h.0, ap (λ l. slice_get (replay M l) k) (sym same) ∙ h.1, fourth_at 0 xs k ∙ (ap (get_elem? xs) here ∙ end'.4 (slot_of k) (Some h.0) h.2)))

  -- The words are the last ones. That of each part has its head, and no reader.
  pub closed_words : me.0.claim ≡ 0 → (k : ℕ) (p : P) → slice_get (replay M me.0.log) k ≡ Some p → slice_index ws (block_word k) ≡ M.head p * 2 ^ 32
  closed_words free k p there =
      let lt = slice_get_within (replay M me.0.log) k p there in
      let r = knows.room in
      let w = word_rests M log end'.1.0.1 s kept id me.0 at knows.live all nothing (words_of end'.1.0.2) (none_read me.0.claim me.0.bump free knows.no_bump) k p (omega (arith, lt, r)) (ap (λ l. slice_get (replay M l) k) same ∙ there) in
      let head = w.0 in
      let readers = w.1 in
      let same_word : slice_index ws (block_word k) ≡ slice_index s.words (block_word k) = ap (λ (l : List ℕ). slice_index l (block_word k)) (sym end'.2) in
      same_word ∙ omega (arith, head, readers)
