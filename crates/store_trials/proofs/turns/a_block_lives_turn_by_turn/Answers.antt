use Rattle.std.proofs.Common.{◌≡◌, ℕ, ◌+◌, ◌<◌, List, get_or, take, drop, sym, ap, subst, ◌∙◌, arith}
use Rattle.std.proofs.lemmas.List.{get_or-drop, get_or-take}
use Rattle.std.proofs.lemmas.Option.{slice_get-get_or}
use Rattle.shared_store.specs.Building.{IsNewRow, IsNewSession}
use Rattle.shared_store.specs.Store.{StoreView}
use Rattle.shared_store.specs.declared.session.Session.{Session}
use Rattle.store_trials.proofs.turns.a_block_lives_turn_by_turn.Goals as goal

-- a session of a row of three
new_at : (store : StoreView) (row : List Session) (d s : Session) (at : ℕ) → IsNewRow store 3 row → at < 3 → s ≡ get_or row at d → IsNewSession store (at + 1) s
new_at store row d s at is less s_is =
    let many = is.many in
    subst (IsNewSession store (at + 1)) (sym s_is) (is.each at (get_or row at d) (slice_get-get_or row at d (omega (arith, less, many))))

first_new : (store : StoreView) (row one : List Session) (d : Session) → IsNewRow store 3 row → one ≡ take 1 row → IsNewSession store 1 (get_or one 0 d)
first_new store row one d is one_is = new_at store row d (get_or one 0 d) 0 is (omega arith)
    (ap (λ (xs : List Session). get_or xs 0 d) one_is ∙ get_or-take 1 row 0 d (omega arith))

second_new : (store : StoreView) (row others two : List Session) (d : Session) → IsNewRow store 3 row → others ≡ drop 1 row → two ≡ take 1 others
    → IsNewSession store 2 (get_or two 0 d)
second_new store row others two d is others_are two_is = new_at store row d (get_or two 0 d) 1 is (omega arith)
    (ap (λ (xs : List Session). get_or xs 0 d) two_is ∙ get_or-take 1 others 0 d (omega arith)
    ∙ ap (λ (xs : List Session). get_or xs 0 d) others_are ∙ get_or-drop 1 row 0 d)

third_new : (store : StoreView) (row others three : List Session) (d : Session) → IsNewRow store 3 row → others ≡ drop 1 row → three ≡ drop 1 others
    → IsNewSession store 3 (get_or three 0 d)
third_new store row others three d is others_are three_is = new_at store row d (get_or three 0 d) 2 is (omega arith)
    (ap (λ (xs : List Session). get_or xs 0 d) three_is ∙ get_or-drop 1 others 0 d
    ∙ ap (λ (xs : List Session). get_or xs 1 d) others_are ∙ get_or-drop 1 row 1 d)

pub live_and_read-requires-clause-session : goal.live_and_read-requires-clause-session
live_and_read-requires-clause-session g c κs =
    let row : c.in_ok-store.field-0.sessions.items ≡ c.deref_mut.result.now = cc in
    let new = first_new c.in_ok-store.field-0.store c.deref_mut.result.now c.split_at_mut-one.result.0.now c.index-one-0.result
    (subst (IsNewRow c.in_ok-store.field-0.store 3) row c.in_ok-store.ensures.sessions) c.split_at_mut-one.ensures.front in
    record { stands = new.session; free = new.free }

pub live_and_read-requires-clause-worker : goal.live_and_read-requires-clause-worker
live_and_read-requires-clause-worker g c κs =
    let row : c.in_ok-store.field-0.sessions.items ≡ c.deref_mut.result.now = cc in
    let new = second_new c.in_ok-store.field-0.store c.deref_mut.result.now c.split_at_mut-one.result.1.now c.split_at_mut-two.result.0.now c.index-two-0.result
    (subst (IsNewRow c.in_ok-store.field-0.store 3) row c.in_ok-store.ensures.sessions) c.split_at_mut-one.ensures.back c.split_at_mut-two.ensures.front in
    record { stands = new.session; free = new.free }

pub live_and_read-requires-clause-other : goal.live_and_read-requires-clause-other
live_and_read-requires-clause-other g c κs =
    let row : c.in_ok-store.field-0.sessions.items ≡ c.deref_mut.result.now = cc in
    (third_new c.in_ok-store.field-0.store c.deref_mut.result.now c.split_at_mut-one.result.1.now c.split_at_mut-two.result.1.now c.index-three-0.result
    (subst (IsNewRow c.in_ok-store.field-0.store 3) row c.in_ok-store.ensures.sessions) c.split_at_mut-one.ensures.back c.split_at_mut-two.ensures.back).session

pub live_and_read-requires-clause-room : goal.live_and_read-requires-clause-room
live_and_read-requires-clause-room g c κs =
    let row : c.in_ok-store.field-0.sessions.items ≡ c.deref_mut.result.now = cc in
    let made = (first_new c.in_ok-store.field-0.store c.deref_mut.result.now c.split_at_mut-one.result.0.now c.index-one-0.result
    (subst (IsNewRow c.in_ok-store.field-0.store 3) row c.in_ok-store.ensures.sessions) c.split_at_mut-one.ensures.front).made in
    omega (arith, made)

pub live_and_read-requires-clause-room_to_work : goal.live_and_read-requires-clause-room_to_work
live_and_read-requires-clause-room_to_work g c κs =
    let row : c.in_ok-store.field-0.sessions.items ≡ c.deref_mut.result.now = cc in
    let made = (second_new c.in_ok-store.field-0.store c.deref_mut.result.now c.split_at_mut-one.result.1.now c.split_at_mut-two.result.0.now c.index-two-0.result
    (subst (IsNewRow c.in_ok-store.field-0.store 3) row c.in_ok-store.ensures.sessions) c.split_at_mut-one.ensures.back c.split_at_mut-two.ensures.front).made in
    omega (arith, made)

pub live_and_read-requires-clause-room_to_get : goal.live_and_read-requires-clause-room_to_get
live_and_read-requires-clause-room_to_get g c κs =
    let row : c.in_ok-store.field-0.sessions.items ≡ c.deref_mut.result.now = cc in
    let made = (third_new c.in_ok-store.field-0.store c.deref_mut.result.now c.split_at_mut-one.result.1.now c.split_at_mut-two.result.1.now c.index-three-0.result
    (subst (IsNewRow c.in_ok-store.field-0.store 3) row c.in_ok-store.ensures.sessions) c.split_at_mut-one.ensures.back c.split_at_mut-two.ensures.back).made in
    omega (arith, made)
