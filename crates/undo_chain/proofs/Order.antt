-- What stays lawful, and what an entry at the head of a lawful list says of those below it.
use Rattle.std.proofs.Common.{◌≡◌, ℕ, ◌≤◌, Bool, None, true, false, List, [], ◌∷◌, map, refl, arith, zero, suc}
use Rattle.std.specs.Prelude.{All, AllPairs, IfSome, filter, find}
use Rattle.std.specs.List.{list_any}
use Rattle.std.proofs.lemmas.List.Elements.{All-nil, All-cons, All-head, All-tail, All-filter, All-weaker}
use Rattle.std.proofs.lemmas.List.Kept.{AllPairs-cons, AllPairs-filter}
use Rattle.undo_chain.specs.declared.undo.Undo.{Undo}
use Rattle.undo_chain.specs.Entry.{is_move, is_own, is_stamped_by, is_open_write_of_another}
use Rattle.undo_chain.specs.Lawful.{IsLawful, IsWriteOrStamped, MayStandAbove, NoneStampedAbove}
use Rattle.undo_chain.specs.Stamped.{stamped}
use Rattle.undo_chain.proofs.Pairs.{writes_after, above_after, above_trans, own_below, no_other_below, stamped_below}

-- Where each fails a test, none passes it.
none_by : {X : Type 0} (p : X → Bool) (xs : List X) → All (λ x. p x ≡ false) xs → list_any p xs ≡ false
none_by p [] all = refl
none_by p (x ∷ xs) all =
    rw (All-head (λ y. p y ≡ false) x xs all) (none_by p xs (All-tail (λ y. p y ≡ false) x xs all))

-- Where each fails a test, none is found.
find_none : {X : Type 0} (p : X → Bool) (xs : List X) → All (λ x. p x ≡ false) xs → find p xs ≡ None
find_none p [] all = refl
find_none p (x ∷ xs) all =
    rw (All-head (λ y. p y ≡ false) x xs all) (find_none p xs (All-tail (λ y. p y ≡ false) x xs all))

-- Where all pairs stand in a relation, the first does with each behind it.
AllPairs-head : {X : Type 0} (R : X → X → Type 0) (x : X) (xs : List X) → AllPairs R (x ∷ xs) → All (R x) xs
AllPairs-head R x xs pairs = λ k d within. pairs zero (suc k) d (omega arith) (omega arith)

-- Where all pairs stand in a relation, so do those behind the first.
AllPairs-tail : {X : Type 0} (R : X → X → Type 0) (x : X) (xs : List X) → AllPairs R (x ∷ xs) → AllPairs R xs
AllPairs-tail R x xs pairs = λ i j d before within. pairs (suc i) (suc j) d (omega arith) (omega arith)

-- a chain without an entry is lawful
pub IsLawful-nil : {D : Type 0} → IsLawful {D = D} []
IsLawful-nil {D} = record {
  writes = All-nil (IsWriteOrStamped {D = D});
  order = λ i j d before within. absurd (omega arith);
}

-- each entry may stand below the newest
pub IsLawful-below : {D : Type 0} (u : Undo D) (es : List (Undo D)) → IsLawful (u ∷ es) → All (MayStandAbove u) es
IsLawful-below u es lawful = AllPairs-head MayStandAbove u es lawful.order

-- the newest entry of a lawful chain is a write or stamped
pub IsLawful-head : {D : Type 0} (u : Undo D) (es : List (Undo D)) → IsLawful (u ∷ es) → IsWriteOrStamped u
IsLawful-head u es lawful = All-head IsWriteOrStamped u es lawful.writes

-- and the older ones are lawful
pub IsLawful-tail : {D : Type 0} (u : Undo D) (es : List (Undo D)) → IsLawful (u ∷ es) → IsLawful es
IsLawful-tail u es lawful = record {
  writes = All-tail IsWriteOrStamped u es lawful.writes;
  order = AllPairs-tail MayStandAbove u es lawful.order;
}

-- what a filter keeps of a lawful chain is lawful
pub IsLawful-filter : {D : Type 0} (p : Undo D → Bool) (es : List (Undo D)) → IsLawful es → IsLawful (filter p es)
IsLawful-filter p es lawful = record {
  writes = All-filter p IsWriteOrStamped es lawful.writes;
  order = AllPairs-filter MayStandAbove p es lawful.order;
}

-- the order of an entry that a commit stamps, or leaves, with those below it
above_stamped : {D : Type 0} (session commit number : ℕ) (u : Undo D) (es : List (Undo D)) →
    IsWriteOrStamped u → All IsWriteOrStamped es → IfSome u.stamp (λ stamp. stamp ≤ commit) → NoneStampedAbove es commit →
    All (MayStandAbove u) es →
    All (MayStandAbove (stamped session commit number u)) (map (stamped session commit number) es)
above_stamped session commit number u [] here writes limit limits above =
    All-nil (MayStandAbove (stamped session commit number u))
above_stamped session commit number u (e ∷ es) here writes limit limits above =
    let Limited : Undo _ → Type 0 = λ undo. IfSome undo.stamp (λ stamp. stamp ≤ commit) in
    All-cons
    (MayStandAbove (stamped session commit number u))
    (stamped session commit number e)
    (map (stamped session commit number) es)
    (above_after
    u.stamp
    e.stamp
    (is_move u.kind)
    (is_move e.kind)
    u.session
    e.session
    session
    commit
    here
    (All-head IsWriteOrStamped e es writes)
    limit
    (All-head Limited e es limits)
    (All-head (MayStandAbove u) e es above))
    (above_stamped
    session
    commit
    number
    u
    es
    here
    (All-tail IsWriteOrStamped e es writes)
    limit
    (All-tail Limited e es limits)
    (All-tail (MayStandAbove u) e es above))

-- an entry that may stand above each of a lawful chain
pub IsLawful-cons : {D : Type 0} (u : Undo D) (es : List (Undo D)) →
    IsWriteOrStamped u → All (MayStandAbove u) es → IsLawful es → IsLawful (u ∷ es)
IsLawful-cons u es here above lawful = record {
  writes = All-cons IsWriteOrStamped u es here lawful.writes;
  order = AllPairs-cons MayStandAbove u es above lawful.order;
}

-- a commit whose stamp is below no other keeps the order
pub IsLawful-stamped : {D : Type 0} (session commit number : ℕ) (es : List (Undo D)) →
    IsLawful es → NoneStampedAbove es commit → IsLawful (map (stamped session commit number) es)
IsLawful-stamped session commit number [] lawful limit = IsLawful-nil
IsLawful-stamped session commit number (u ∷ es) lawful limit =
    let Limited : Undo _ → Type 0 = λ undo. IfSome undo.stamp (λ stamp. stamp ≤ commit) in
    let here : IsWriteOrStamped u = IsLawful-head u es lawful in
    let rest : IsLawful es = IsLawful-tail u es lawful in
    IsLawful-cons
    (stamped session commit number u)
    (map (stamped session commit number) es)
    (writes_after u.stamp (is_move u.kind) u.session session commit here)
    (above_stamped
    session
    commit
    number
    u
    es
    here
    rest.writes
    (All-head Limited u es limit)
    (All-tail Limited u es limit)
    (IsLawful-below u es lawful))
    (IsLawful-stamped session commit number es rest (All-tail Limited u es limit))

-- where the newest entry isn't the session's own, none is
pub all_not_own : {D : Type 0} (session : ℕ) (u : Undo D) (es : List (Undo D)) →
    IsLawful (u ∷ es) → is_own u session ≡ false → All (λ undo. is_own undo session ≡ false) (u ∷ es)
all_not_own session u es lawful newest =
    All-cons
    (λ undo. is_own undo session ≡ false)
    u
    es
    newest
    (All-weaker
    (MayStandAbove u)
    (λ undo. is_own undo session ≡ false)
    (λ e above.
    own_below
    u.stamp
    e.stamp
    (is_move u.kind)
    (is_move e.kind)
    u.session
    e.session
    session
    (IsLawful-head u es lawful)
    above
    newest)
    es
    (IsLawful-below u es lawful))

-- where the newest entry is not the session's own, none is
pub none_own : {D : Type 0} (session : ℕ) (u : Undo D) (es : List (Undo D)) →
    IsLawful (u ∷ es) → is_own u session ≡ false → list_any (λ undo. is_own undo session) (u ∷ es) ≡ false
none_own session u es lawful newest =
    none_by (λ undo. is_own undo session) (u ∷ es) (all_not_own session u es lawful newest)

-- where the newest entry isn't another session's open write, none is
pub none_of_another : {D : Type 0} (session : ℕ) (u : Undo D) (es : List (Undo D)) →
    IsLawful (u ∷ es) → is_open_write_of_another u session ≡ false →
    find (λ undo. is_open_write_of_another undo session) (u ∷ es) ≡ None
none_of_another session u es lawful newest =
    find_none
    (λ undo. is_open_write_of_another undo session)
    (u ∷ es)
    (All-cons
    (λ undo. is_open_write_of_another undo session ≡ false)
    u
    es
    newest
    (All-weaker
    (MayStandAbove u)
    (λ undo. is_open_write_of_another undo session ≡ false)
    (λ e above.
    no_other_below
    u.stamp
    e.stamp
    (is_move u.kind)
    (is_move e.kind)
    u.session
    e.session
    session
    (IsLawful-head u es lawful)
    above
    newest)
    es
    (IsLawful-below u es lawful)))

-- where the newest entry is stamped by a limit, each is
pub all_stamped : {D : Type 0} (limit : ℕ) (u : Undo D) (es : List (Undo D)) →
    IsLawful (u ∷ es) → is_stamped_by u limit ≡ true → All (λ undo. is_stamped_by undo limit ≡ true) (u ∷ es)
all_stamped limit u es lawful newest =
    All-cons
    (λ undo. is_stamped_by undo limit ≡ true)
    u
    es
    newest
    (All-weaker
    (MayStandAbove u)
    (λ undo. is_stamped_by undo limit ≡ true)
    (λ e above. stamped_below u.stamp e.stamp u.session e.session limit above newest)
    es
    (IsLawful-below u es lawful))

-- what may stand above the newest entry may be the next
pub IsLawful-next : {D : Type 0} (undo u : Undo D) (es : List (Undo D)) →
    IsWriteOrStamped undo → MayStandAbove undo u → IsLawful (u ∷ es) → IsLawful (undo ∷ u ∷ es)
IsLawful-next undo u es here above lawful =
    IsLawful-cons
    undo
    (u ∷ es)
    here
    (All-cons
    (MayStandAbove undo)
    u
    es
    above
    (All-weaker
    (MayStandAbove u)
    (MayStandAbove undo)
    (λ e below. above_trans undo.stamp u.stamp e.stamp undo.session u.session e.session above below)
    es
    (IsLawful-below u es lawful)))
    lawful

-- the newest entry may stand above the next
pub IsLawful-above : {D : Type 0} (undo u : Undo D) (es : List (Undo D)) → IsLawful (undo ∷ u ∷ es) → MayStandAbove undo u
IsLawful-above undo u es lawful = All-head (MayStandAbove undo) u es (IsLawful-below undo (u ∷ es) lawful)
