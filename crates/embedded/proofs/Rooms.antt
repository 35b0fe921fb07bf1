-- Room for the events of two sessions, and an answer that tells whether there is.
use Rattle.std.proofs.Common.{◌≡◌, ◌↔◌, ℕ, Bool, true, IsErrAnd, IsTrue, Result, Ok, Err}
use Rattle.shared_store.specs.Store.{HasRoomFor}
use Rattle.shared_store.specs.declared.faults.StoreFault.{StoreFault}
use Rattle.shared_store.specs.declared.session.Session.{Session}
use Rattle.embedded.specs.Room.{HaveRoom}
use Rattle.embedded.specs.declared.NotHanded.{NotHanded}
use Rattle.embedded.specs.declared.NotHanded.TheVariants as not_handed

module _ {A : Type 0} (one two : Session) (many few : ℕ) (a b : Bool)
    (is_one : IsTrue a ↔ HasRoomFor many one) (is_two : IsTrue b ↔ HasRoomFor few two)
    (found_one : a ≡ true) (found_two : b ≡ true) where
  -- where both were found to have room, an answer that is not `NoRoom` tells the truth
  told_room : (r : Result A NotHanded) → (r ≡ Err not_handed.NoRoom → ⊥) → (r ≡ Err not_handed.NoRoom) ↔ ¬ HaveRoom many one few two
  told_room r other = (
    (λ is. absurd (other is)),
    (λ none. absurd (none (is_one.0 found_one, is_two.0 found_two))),
  )

  pub told_done : (x : A) → (Ok x ≡ Err not_handed.NoRoom) ↔ ¬ HaveRoom many one few two
  told_done x = told_room (Ok x) (λ is. cc)

  pub told_memory : (r : Result A NotHanded) → IsErrAnd r (λ fault. fault ≡ not_handed.Memory) → (r ≡ Err not_handed.NoRoom) ↔ ¬ HaveRoom many one few two
  told_memory (Ok x) is = told_done x
  told_memory (Err fault) is = told_room (Err fault) (λ same. cc)

  pub told_refused : (r : Result A NotHanded) (fault : StoreFault) → IsErrAnd r (λ told. told ≡ not_handed.Refused fault) → (r ≡ Err not_handed.NoRoom) ↔ ¬ HaveRoom many one few two
  told_refused (Ok x) fault is = told_done x
  told_refused (Err told) fault is = told_room (Err told) (λ same. cc)
