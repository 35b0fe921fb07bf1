-- Which candidates of a key decide what a session finds and meets.
use Rattle.std.proofs.Common.{◌≡◌, ℕ, zero, suc, ◌+◌, ◌-◌, ◌≤◌, ℤ, Bool, true, false, cond, ◌||◌, List, [], ◌∷◌, Option, None, Some, is_some, is_none, reverse, length, drop, take, refl, sym, ap, ◌∙◌, subst, arith}
use mathlib.Core.Logic.{inl, inr}
use Rattle.std.specs.Prelude.{All, IfSome, Result, option_and_then, slice_get}
use Rattle.std.specs.List.{list_any}
use Rattle.std.specs.Option.{option_map_or, option_or}
use Rattle.std.proofs.lemmas.Bool.Decides.{nat_tests}
use Rattle.std.proofs.lemmas.List.{reverse-append}
use Rattle.std.proofs.lemmas.List.Elements.{All-cons, All-head, All-nil, All-append, All-tail}
use Rattle.block_body.specs.Ages.{is_settled}
use Rattle.block_layout.specs.Place.{block_of}
use Rattle.block_spec.specs.declared.change.Before.{Before}
use Rattle.block_spec.specs.declared.phase.Phase.{Phase}
use Rattle.block_spec.specs.Slots.{Row, Slot, seen}
use Rattle.core_events.specs.Candidates.{deciding, from_last}
use Rattle.core_laws.proofs.Following.Firsts.{other_none}
use Rattle.core_laws.proofs.Slots.Ages.{above_later, no_row, no_writer, not_writer}
use Rattle.core_laws.proofs.Slots.Kept.{numbers_settled}
use Rattle.core_laws.proofs.Slots.Meetings.{newer_over}
use Rattle.core_laws.proofs.Slots.Views.{seen_settled}
use Rattle.core_laws.specs.Slots.Laws.{combined, combined_over}
use Rattle.event_spec.specs.declared.own.OwnKey.{OwnKey}
use Rattle.event_spec.specs.declared.part.Head.{Head}
use Rattle.event_spec.specs.declared.reply.WriteFault.{WriteFault}
use Rattle.event_spec.specs.declared.reply.WriteFault.TheVariants.{Exists, Full, Missing}
use Rattle.event_spec.specs.Follows.{IsOlder, StandsBefore}
use Rattle.event_spec.specs.Judged.{current_place, fault_of, first_at, found_at, found_by, freezing_of, judged, judged_change, judged_insert, newer_by, next_place}
use Rattle.event_spec.specs.Lawful.{Among}
use Rattle.event_spec.specs.Parts.{Parts, Shape, desk_at, places_at, slot_at}
use Rattle.event_spec.specs.Sound.{Sound}
use Rattle.event_spec.specs.SlotSound.{IsSoundSlot}
use Rattle.undo_chain.specs.Conflict.{conflict_by, conflict_of, largest, numbers_above}
use Rattle.undo_chain.specs.declared.chain.Newer.TheVariants as newer
use Rattle.undo_chain.specs.declared.undo.Undo.{Undo}
use Rattle.undo_chain.specs.Entry.{is_at_most, is_stamped_by}
use Rattle.undo_chain.specs.Lawful.{NoneStampedAbove}

-- ---- what an older candidate tells

-- what holds of each element does in reverse
all_reverse : {X : Type 0} (P : X → Type 0) (xs : List X) → All P xs → All P (reverse xs)
all_reverse P [] h = h
all_reverse P (x ∷ xs) h =
    subst (All P) (sym (reverse-append (x ∷ []) xs))
    (All-append P (reverse xs) (x ∷ []) (all_reverse P xs (All-tail P x xs h)) (All-cons P x [] (All-head P x xs h) (All-nil P)))

-- of an older slot no stamp is above a snapshot that has the oldest entry of the other
none_above : (one other : Slot) (stamp : ℕ) → IsOlder one other → is_settled other stamp ≡ true → NoneStampedAbove one.entries stamp
none_above one other stamp old is = go (reverse other.entries) (all_reverse (λ undo. IfSome undo.stamp (NoneStampedAbove one.entries)) other.entries old.stamps) is
  where
    at : (a : Option ℕ) → IfSome a (NoneStampedAbove one.entries) → is_at_most a stamp ≡ true → NoneStampedAbove one.entries stamp
    at None up is = cc
    at (Some n) up is = above_later one.entries n stamp (grind (arith, nat_tests)) up

    go : (es : List (Undo Before)) → All (λ undo. IfSome undo.stamp (NoneStampedAbove one.entries)) es
        → option_map_or (λ undo. is_stamped_by undo stamp) (slice_get es 0) false ≡ true → NoneStampedAbove one.entries stamp
    go [] all is = cc
    go (e ∷ es) all is = at e.stamp (All-head (λ undo. IfSome undo.stamp (NoneStampedAbove one.entries)) e es all) is

module _ (newest commits : ℕ) (one other : Slot) (stamp session : ℕ) (ok : IsSoundSlot newest commits one) (old : IsOlder one other) (is : is_settled other stamp ≡ true) where
  -- it shows no row
  pub shows_none : seen one stamp session ≡ None
  shows_none = seen_settled one.row one.entries stamp stamp session (none_above one other stamp old is) (omega arith) (no_writer one old.settled) ∙ no_row one old.settled

  -- and nothing there stands in the way of a write
  pub meets_nothing : conflict_of one.entries stamp session ≡ newer.Nothing
  meets_nothing =
      ap (λ w. conflict_by w (largest (numbers_above one.entries stamp)))
      (other_none one.entries session ok.lawful (λ w writes. absurd (not_writer one w old.settled writes)))
      ∙ ap (λ ns. conflict_by None (largest ns)) (numbers_settled one.entries stamp stamp (none_above one other stamp old is) (omega arith))

-- ---- going over places

-- a place that passes a test, where one does
any_at : (test : ℕ → Bool) (places : List ℕ) → list_any test places ≡ true → (p : ℕ) × Among p places × (test p ≡ true)
any_at test [] is = cc
any_at test (p ∷ ps) is = go (test p) refl is (any_at test ps)
  where
    go : (b : Bool) → test p ≡ b → (b || list_any test ps) ≡ true → (list_any test ps ≡ true → (q : ℕ) × Among q ps × (test q ≡ true)) → (q : ℕ) × Among q (p ∷ ps) × (test q ≡ true)
    go true here is rest = (p, inl refl, here)
    go false here is rest = let x = rest is in (x.0, inr x.1, x.2)

-- the first answer is the same where none before the last that passes answers
pub first_last : {X : Type 0} (answer : ℕ → Option X) (test : ℕ → Bool) (places : List ℕ)
    → ((one other : ℕ) → StandsBefore one other places → test other ≡ true → answer one ≡ None)
    → first_at answer (from_last test places) ≡ first_at answer places
first_last answer test [] none = refl
first_last {X} answer test (p ∷ ps) none = go (list_any test ps) refl (first_last answer test ps (λ one other b is. none one other (inr b) is))
  where
    go : (y : Bool) → list_any test ps ≡ y → first_at answer (from_last test ps) ≡ first_at answer ps → first_at answer (cond y (from_last test ps) (p ∷ ps)) ≡ first_at answer (p ∷ ps)
    go true is rest = let x = any_at test ps is in rest ∙ ap (λ o. option_or o (first_at answer ps)) (sym (none p x.0 (inl (refl, x.1)) x.2))
    go false is rest = refl

-- and so is what is met
pub met_last : (slot : ℕ → Slot) (test : ℕ → Bool) (places : List ℕ) (stamp session : ℕ)
    → ((one other : ℕ) → StandsBefore one other places → test other ≡ true → conflict_of (slot one).entries stamp session ≡ newer.Nothing)
    → combined_over slot (from_last test places) stamp session ≡ combined_over slot places stamp session
met_last slot test [] stamp session none = refl
met_last slot test (p ∷ ps) stamp session none = go (list_any test ps) refl (met_last slot test ps stamp session (λ one other b is. none one other (inr b) is))
  where
    go : (y : Bool) → list_any test ps ≡ y → combined_over slot (from_last test ps) stamp session ≡ combined_over slot ps stamp session
        → combined_over slot (cond y (from_last test ps) (p ∷ ps)) stamp session ≡ combined_over slot (p ∷ ps) stamp session
    go true is rest = let x = any_at test ps is in rest ∙ ap (λ n. combined n (combined_over slot ps stamp session)) (sym (none p x.0 (inl (refl, x.1)) x.2))
    go false is rest = refl

-- each place from the last that passes on is one of the places
pub last_among : (test : ℕ → Bool) (places : List ℕ) (r : ℕ) → Among r (from_last test places) → Among r places
last_among test [] r a = a
last_among test (p ∷ ps) r a = go (list_any test ps) a (last_among test ps r)
  where
    go : (y : Bool) → Among r (cond y (from_last test ps) (p ∷ ps)) → (Among r (from_last test ps) → Among r ps) → Among r (p ∷ ps)
    go true a rest = inr (rest a)
    go false a rest = a

-- ---- what is decided

module _ (sh : Shape) (s : Parts) (ok : Sound sh s) (own : OwnKey) (t : ℕ) (key : ℤ) where
  -- The candidates of the key, and those that decide.
  abbrev all : List ℕ
  all = places_at sh s t key

  abbrev few : List ℕ
  few = deciding (slot_at sh s t) own.snapshot.stamp (places_at sh s t key)

  -- An older candidate than one that is settled shows no row, and has none.
  no_rows : (one other : ℕ) → StandsBefore one other all → is_settled (slot_at sh s t other) own.snapshot.stamp ≡ true → seen (slot_at sh s t one) own.snapshot.stamp own.session ≡ None
  no_rows one other b is = shows_none (desk_at sh s).newest (desk_at sh s).commits (slot_at sh s t one) (slot_at sh s t other) own.snapshot.stamp own.session (ok.follows.1.slots t one) (ok.follows.1.aged t key one other b) is

  -- Nothing that stands there is met.
  no_meetings : (one other : ℕ) → StandsBefore one other all → is_settled (slot_at sh s t other) own.snapshot.stamp ≡ true → conflict_of (slot_at sh s t one).entries own.snapshot.stamp own.session ≡ newer.Nothing
  no_meetings one other b is = meets_nothing (desk_at sh s).newest (desk_at sh s).commits (slot_at sh s t one) (slot_at sh s t other) own.snapshot.stamp own.session (ok.follows.1.slots t one) (ok.follows.1.aged t key one other b) is

  -- what is found is what the deciding candidates show
  pub found_few : found_by (slot_at sh s t) few own ≡ found_by (slot_at sh s t) all own
  found_few = go own.written
    where
      go : (w : Option ℕ) → found_at (slot_at sh s t) (deciding (slot_at sh s t) own.snapshot.stamp (places_at sh s t key)) own w ≡ found_at (slot_at sh s t) (places_at sh s t key) own w
      go (Some p) = refl
      go None = first_last (λ p. seen (slot_at sh s t p) own.snapshot.stamp own.session) (λ p. is_settled (slot_at sh s t p) own.snapshot.stamp) (places_at sh s t key) no_rows

  -- what is met is what they have
  pub newer_few : newer_by (slot_at sh s t) few own ≡ newer_by (slot_at sh s t) all own
  newer_few =
      newer_over (slot_at sh s t) few own.snapshot.stamp own.session
      ∙ met_last (slot_at sh s t) (λ p. is_settled (slot_at sh s t p) own.snapshot.stamp) all own.snapshot.stamp own.session no_meetings
      ∙ sym (newer_over (slot_at sh s t) all own.snapshot.stamp own.session)

  -- and the current row is theirs
  pub current_few : current_place (slot_at sh s t) few ≡ current_place (slot_at sh s t) all
  current_few = first_last (λ p. cond (is_some (slot_at sh s t p).row) (Some p) None) (λ p. is_settled (slot_at sh s t p) own.snapshot.stamp) all
      (λ one other b is. ap (λ (o : Option Row). cond (is_some o) (Some one) None) (no_row (slot_at sh s t one) (ok.follows.1.aged t key one other b).settled))

  -- so an insert is judged by them
  pub insert_few : (head : Head) (slots : ℕ) → judged_insert (slot_at sh s t) few head slots own ≡ judged_insert (slot_at sh s t) all head slots own
  insert_few head slots =
      ap (λ n. judged (option_or (fault_of n) (cond (is_some (found_by (slot_at sh s t) few own)) (Some Exists) None)) (option_or own.written (next_place head slots)) (Full head.inserts)) newer_few
      ∙ ap (λ o. judged (option_or (fault_of (newer_by (slot_at sh s t) all own)) (cond (is_some o) (Some Exists) None)) (option_or own.written (next_place head slots)) (Full head.inserts)) found_few

  -- and an update or a delete
  pub change_few : (phase : ℕ → Phase) → judged_change (slot_at sh s t) few phase own ≡ judged_change (slot_at sh s t) all phase own
  change_few phase =
      ap (λ n. told n (found_by (slot_at sh s t) few own) (current_place (slot_at sh s t) few)) newer_few
      ∙ ap (λ o. told (newer_by (slot_at sh s t) all own) o (current_place (slot_at sh s t) few)) found_few
      ∙ ap (λ p. told (newer_by (slot_at sh s t) all own) (found_by (slot_at sh s t) all own) p) current_few
    where
      told : Rattle.undo_chain.specs.declared.chain.Newer.Newer → Option Row → Option ℕ → Result ℕ WriteFault
      told n row place = judged
          (option_or (fault_of n) (cond (is_none row) (Some Missing) (option_and_then (λ place. freezing_of (block_of place) (phase (block_of place))) place))) place Missing

-- ---- the loop that finds them

-- Of no places none is left.
drop_none : (i : ℕ) (places : List ℕ) → places ≡ [] → drop i places ≡ []
drop_none zero places none = none
drop_none (suc i) [] none = refl
drop_none (suc i) (p ∷ places) none = absurd (let never : p ∷ places ≡ [] = none in cc)

-- a place that passes is the last, where none behind it does
pub last_at : (test : ℕ → Bool) (places : List ℕ) (i p : ℕ) → drop i places ≡ p ∷ drop (i + 1) places → test p ≡ true → list_any test (drop (i + 1) places) ≡ false → from_last test places ≡ drop i places
last_at test [] i p next is none = absurd (let never : [] ≡ p ∷ drop (i + 1) [] = sym (drop_none i [] refl) ∙ next in cc)
last_at test (q ∷ places) zero p next is none = ap (λ b. cond b (from_last test places) (q ∷ places)) none
last_at test (q ∷ places) (suc i) p next is none =
    let shift : drop (i + 1) places ≡ drop (suc i + 1) (q ∷ places) = ap (λ k. drop k (q ∷ places)) (let e : suc (i + 1) ≡ suc i + 1 = omega arith in e) in
    let here : drop i places ≡ p ∷ drop (i + 1) places = next ∙ ap (λ ps. p ∷ ps) (sym shift) in
    ap (λ b. cond b (from_last test places) (q ∷ places)) (any_drop i places (ap (list_any test) here ∙ ap (λ b. b || list_any test (drop (i + 1) places)) is))
    ∙ last_at test places i p here is (ap (list_any test) shift ∙ none)
  where
    any_drop : (k : ℕ) (ps : List ℕ) → list_any test (drop k ps) ≡ true → list_any test ps ≡ true
    any_drop zero ps any = any
    any_drop (suc k) [] any = any
    any_drop (suc k) (x ∷ ps) any = go (test x) (any_drop k ps any)
      where
        go : (b : Bool) → list_any test ps ≡ true → (b || list_any test ps) ≡ true
        go true a = refl
        go false a = a

-- where none behind the first passes, all decide
pub all_from : (test : ℕ → Bool) (places : List ℕ) (i : ℕ) → i ≤ 1 → (i ≡ 0 → length places ≡ 0) → list_any test (drop i places) ≡ false → from_last test places ≡ places
all_from test [] i few some none = refl
all_from test (p ∷ ps) zero few some none = absurd (let e = some refl in omega (arith, e))
all_from test (p ∷ ps) (suc zero) few some none = ap (λ b. cond b (from_last test ps) (p ∷ ps)) none
all_from test (p ∷ ps) (suc (suc i)) few some none = absurd (omega (arith, few))

-- one place more in front that does not pass
pub none_from : (test : ℕ → Bool) (places : List ℕ) (i p : ℕ) → drop i places ≡ p ∷ drop (i + 1) places → test p ≡ false → list_any test (drop (i + 1) places) ≡ false → list_any test (drop i places) ≡ false
none_from test places i p next is none = ap (list_any test) next ∙ ap (λ b. b || list_any test (drop (i + 1) places)) is ∙ none

-- ---- the rest of a list

-- what is left from a place on is among all
pub drop_among : (places : List ℕ) (i r : ℕ) → Among r (drop i places) → Among r places
drop_among places zero r a = a
drop_among [] (suc i) r a = a
drop_among (p ∷ places) (suc i) r a = inr (drop_among places i r a)

-- Of a list that is no longer than so many elements all are taken.
take_short : (n : ℕ) (xs : List ℕ) → length xs ≤ n → take n xs ≡ xs
take_short zero [] le = refl
take_short (suc n) [] le = refl
take_short zero (x ∷ xs) le = absurd (omega (arith, le))
take_short (suc n) (x ∷ xs) le = ap (λ ys. x ∷ ys) (take_short n xs (omega (arith, le)))

-- all that is left from a place on is taken
pub rest_taken : (xs : List ℕ) (i : ℕ) → take (length xs - i) (drop i xs) ≡ drop i xs
rest_taken xs zero = take_short (length xs - 0) xs (omega arith)
rest_taken [] (suc i) = take_short (0 - suc i) [] (omega arith)
rest_taken (x ∷ xs) (suc i) = ap (λ n. take n (drop i xs)) (let e : length (x ∷ xs) - suc i ≡ length xs - i = omega arith in e) ∙ rest_taken xs i
