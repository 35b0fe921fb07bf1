-- Sessions that were just built, and parts that are there to be taken and given.
use Rattle.std.proofs.Common.{◌≡◌, ℕ, ◌+◌, ◌<◌, List, [], ◌∷◌, ◌++◌, length, Option, Some, refl, set, ap, ◌∙◌, arith}
use Rattle.std.specs.Prelude.{slice_get}
use Rattle.std.proofs.lemmas.List.{length-map}
use Rattle.event_spec.specs.declared.own.OwnTransaction.{OwnTransaction}
use Rattle.event_spec.specs.Parts.{CorePart, Name, Parts, names}
use Rattle.event_spec.specs.Replay.{opening, opening_part}
use Rattle.core_parts.proofs.Placing.{number_less}
use Rattle.hall_rule.proofs.Lists.{get_set_here}
use Rattle.hall_rule.specs.EventLog.{replay}
use Rattle.hall_rule.specs.Hands.{Holds}
use Rattle.hall_steps.specs.Hall.{first_of}
use Rattle.store_laws.specs.Logs.{store_meaning}
use Rattle.shared_store.specs.Store.{HandsView, IsStore, IsWithin, SeatView, StoreView, shape_in}
use Rattle.shared_store.specs.Building.{IsNewRow, IsNewSession}
use Rattle.shared_store.specs.declared.session.Session.{Session}
use Rattle.shared_store.proofs.Hands.{agrees_with}
use Rattle.shared_store.proofs.Made.{one_hand}

-- ---- parts

-- a number that a part has is one of the store's parts
pub part_there : (store : StoreView) → IsStore store → (w : Name) (k : ℕ) → slice_get (names (shape_in store)) k ≡ Some w → k < length store.core.parts
part_there store is w k at =
    let less = number_less (shape_in store) w k at in
    let parts : length store.core.parts ≡ length (opening (shape_in store)) = ap (λ (s : Parts). length s) is.opening.parts_are in
    let all = length-map (names (shape_in store)) (opening_part (shape_in store)) in
    omega (arith, less, parts, all)

module _ (store : StoreView) (session : ℕ) (seat : SeatView) (hands : HandsView) (own : Option OwnTransaction) (within : IsWithin store session seat hands own) where
  -- a part that was taken is held
  pub taken_there : (later : HandsView) (w : Name) (k : ℕ) (p : CorePart) → slice_get (names (shape_in store)) k ≡ Some w
      → first_of later ≡ set (first_of hands) k (Some p) → Holds (first_of later) k
  taken_there later w k p at took =
      let less = number_less (shape_in store) w k at in
      let room = (agrees_with store seat hands within.pass (one_hand store session seat hands own within)).0 in
      let places : length (replay (store_meaning (shape_in store)) seat.me.0.log) ≡ length (opening (shape_in store)) = within.pass.of.1.room in
      let all = length-map (names (shape_in store)) (opening_part (shape_in store)) in
      (p, ap (λ (hand : List (Option CorePart)). slice_get hand k) took ∙ get_set_here (first_of hands) k (Some p) (omega (arith, less, room, places, all)))

-- ---- sessions

-- The last session of a row is at its end.
last_there : (xs : List Session) (s : Session) → slice_get (xs ++ s ∷ []) (length xs) ≡ Some s
last_there [] s = refl
last_there (x ∷ xs) s = last_there xs s

-- The last session but one of a row is in front of its end.
next_there : (xs : List Session) (s t : Session) → slice_get ((xs ++ s ∷ []) ++ t ∷ []) (length xs) ≡ Some s
next_there [] s t = refl
next_there (x ∷ xs) s t = next_there xs s t

-- the last of a new row's sessions is new, and so is the one before it
pub last_new : (store : StoreView) (count : ℕ) (row xs : List Session) (s : Session) → row ≡ xs ++ s ∷ [] → IsNewRow store count row
    → (n : ℕ) × IsNewSession store n s
last_new store count row xs s is new =
    (length xs + 1, new.each (length xs) s (ap (λ (l : List Session). slice_get l (length xs)) is ∙ last_there xs s))

-- the last but one of a new row is a new session
pub next_new : (store : StoreView) (count : ℕ) (row xs ys : List Session) (s t : Session) → row ≡ xs ++ t ∷ [] → xs ≡ ys ++ s ∷ [] → IsNewRow store count row
    → (n : ℕ) × IsNewSession store n s
next_new store count row xs ys s t is front new =
    (length ys + 1, new.each (length ys) s (ap (λ (l : List Session). slice_get l (length ys)) (is ∙ ap (λ (l : List Session). l ++ t ∷ []) front) ∙ next_there ys s t))
