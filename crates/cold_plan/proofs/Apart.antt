-- A plan over falling rows and rising gaps names no place twice.
use Rattle.std.proofs.Common.{◌≡◌, ◌≢◌, ℕ, ◌<◌, Bool, true, false, cond, List, [], ◌∷◌, ◌++◌, map, take, zero, suc, refl, sym, subst, arith, nat_lt, get_or, Result, Ok, Err, IfOk}
use Rattle.std.specs.Prelude.{All, AllPairs}
use Rattle.std.specs.List.{zip, take_while, prefix_len}
use Rattle.std.proofs.lemmas.Bool.Decides.{nat_tests}
use Rattle.std.proofs.lemmas.List.Elements.{All-nil, All-cons, All-head, All-tail, All-take, All-map, All-append}
use Rattle.std.proofs.lemmas.List.Kept.{AllPairs-cons}
use Rattle.std.proofs.lemmas.List.Sums.{take_while-cons}
use Rattle.cold_plan.specs.Plan.{moves_of, NoPlaceTwice}

-- An empty list stands in any order.
AllPairs-nil : {X : Type 0} (R : X → X → Type 0) → AllPairs R []
AllPairs-nil R = λ i j d before within. absurd (omega arith)

-- The first of a list that stands in an order stands so to each behind it.
AllPairs-head : {X : Type 0} (R : X → X → Type 0) (x : X) (xs : List X) → AllPairs R (x ∷ xs) → All (R x) xs
AllPairs-head R x xs pairs = λ k d within. pairs zero (suc k) d (omega arith) (omega arith)

-- Without its first a list stands in its order still.
AllPairs-tail : {X : Type 0} (R : X → X → Type 0) (x : X) (xs : List X) → AllPairs R (x ∷ xs) → AllPairs R xs
AllPairs-tail R x xs pairs = λ i j d before within. pairs (suc i) (suc j) d (omega arith) (omega arith)

-- The front of a list that stands in an order stands in it.
AllPairs-take : {X : Type 0} (R : X → X → Type 0) (n : ℕ) (xs : List X) → AllPairs R xs → AllPairs R (take n xs)
AllPairs-take R zero xs pairs = AllPairs-nil R
AllPairs-take R (suc n) [] pairs = AllPairs-nil R
AllPairs-take R (suc n) (x ∷ xs) pairs =
    AllPairs-cons
    R
    x
    (take n xs)
    (All-take (R x) n xs (AllPairs-head R x xs pairs))
    (AllPairs-take R n xs (AllPairs-tail R x xs pairs))

-- Images stand in an order where their elements do by it.
AllPairs-map : {X Y : Type 0} (R : Y → Y → Type 0) (f : X → Y) (xs : List X) →
    AllPairs (λ x y. R (f x) (f y)) xs → AllPairs R (map f xs)
AllPairs-map R f [] pairs = AllPairs-nil R
AllPairs-map R f (x ∷ xs) pairs =
    AllPairs-cons
    R
    (f x)
    (map f xs)
    (All-map (R (f x)) f xs (AllPairs-head (λ y z. R (f y) (f z)) x xs pairs))
    (AllPairs-map R f xs (AllPairs-tail (λ y z. R (f y) (f z)) x xs pairs))

-- Two lists in an order join to one where each of the first stands before each of the second.
AllPairs-append : {X : Type 0} (R : X → X → Type 0) (xs ys : List X) →
    AllPairs R xs → AllPairs R ys → All (λ x. All (R x) ys) xs → AllPairs R (xs ++ ys)
AllPairs-append R [] ys front back across = back
AllPairs-append R (x ∷ xs) ys front back across =
    AllPairs-cons
    R
    x
    (xs ++ ys)
    (All-append (R x) xs ys (AllPairs-head R x xs front) (All-head (λ y. All (R y) ys) x xs across))
    (AllPairs-append R xs ys (AllPairs-tail R x xs front) back (All-tail (λ y. All (R y) ys) x xs across))

-- what holds of the elements of one list holds of that half of the pairs
All-zip_first : {X Y : Type 0} (P : X → Type 0) (xs : List X) (ys : List Y) → All P xs → All (λ m. P m.0) (zip xs ys)
All-zip_first P [] ys all = All-nil (λ m. P m.0)
All-zip_first P (x ∷ xs) [] all = All-nil (λ m. P m.0)
All-zip_first P (x ∷ xs) (y ∷ ys) all =
    All-cons (λ m. P m.0) (x, y) (zip xs ys) (All-head P x xs all) (All-zip_first P xs ys (All-tail P x xs all))

-- What holds of the elements of the second list holds of that half of the pairs.
All-zip_second : {X Y : Type 0} (P : Y → Type 0) (xs : List X) (ys : List Y) → All P ys → All (λ m. P m.1) (zip xs ys)
All-zip_second P [] ys all = All-nil (λ m. P m.1)
All-zip_second P (x ∷ xs) [] all = All-nil (λ m. P m.1)
All-zip_second P (x ∷ xs) (y ∷ ys) all =
    All-cons (λ m. P m.1) (x, y) (zip xs ys) (All-head P y ys all) (All-zip_second P xs ys (All-tail P y ys all))

-- of two moves the earlier leaves the higher place
abbrev pub Falls : ℕ × ℕ → ℕ × ℕ → Type 0
Falls first later = later.0 < first.0

-- and fills the lower one
abbrev pub Rises : ℕ × ℕ → ℕ × ℕ → Type 0
Rises first later = first.1 < later.1

-- The pairs of falling rows with gaps leave falling places.
falls_zip : (rows gaps : List ℕ) → AllPairs (λ higher lower. lower < higher) rows → AllPairs Falls (zip rows gaps)
falls_zip [] gaps pairs = AllPairs-nil Falls
falls_zip (x ∷ rows) [] pairs = AllPairs-nil Falls
falls_zip (x ∷ rows) (y ∷ gaps) pairs =
    AllPairs-cons
    Falls
    (x, y)
    (zip rows gaps)
    (All-zip_first (λ lower. lower < x) rows gaps (AllPairs-head (λ higher lower. lower < higher) x rows pairs))
    (falls_zip rows gaps (AllPairs-tail (λ higher lower. lower < higher) x rows pairs))

-- The pairs of rows with rising gaps fill rising places.
rises_zip : (rows gaps : List ℕ) → AllPairs (λ lower higher. lower < higher) gaps → AllPairs Rises (zip rows gaps)
rises_zip [] gaps pairs = AllPairs-nil Rises
rises_zip (x ∷ rows) [] pairs = AllPairs-nil Rises
rises_zip (x ∷ rows) (y ∷ gaps) pairs =
    AllPairs-cons
    Rises
    (x, y)
    (zip rows gaps)
    (All-zip_second (λ higher. y < higher) rows gaps (AllPairs-head (λ lower higher. lower < higher) y gaps pairs))
    (rises_zip rows gaps (AllPairs-tail (λ lower higher. lower < higher) y gaps pairs))

-- a move goes to a lower place
abbrev pub GoesDown : ℕ × ℕ → Type 0
GoesDown move = move.1 < move.0

-- One move more goes down, or no move is taken from it on.
goes_down_by : (b : Bool) (x : ℕ × ℕ) (xs : List (ℕ × ℕ)) → nat_lt x.1 x.0 ≡ b → All GoesDown xs → All GoesDown (cond b (x ∷ xs) [])
goes_down_by true x xs below all =
    let here : x.1 < x.0 = grind (arith, nat_tests) in
    All-cons GoesDown x xs here all
goes_down_by false x xs below all = All-nil GoesDown

-- Moves that are taken as long as they go down all do.
goes_down : (moves : List (ℕ × ℕ)) → All GoesDown (take_while (λ move. nat_lt move.1 move.0) moves)
goes_down [] = All-nil GoesDown
goes_down (x ∷ moves) =
    let p : ℕ × ℕ → Bool = λ move. nat_lt move.1 move.0 in
    subst
    (λ (ms : List (ℕ × ℕ)). All GoesDown ms)
    (sym (take_while-cons p x moves))
    (goes_down_by (p x) x (take_while p moves) refl (goes_down moves))

-- each place that is left lies above each that is filled
across : (moves : List (ℕ × ℕ)) → AllPairs Falls moves → AllPairs Rises moves → All GoesDown moves →
    All (λ row. All (λ gap. row ≢ gap) (map (λ move. move.1) moves)) (map (λ move. move.0) moves)
across [] falls rises down = All-nil (λ row. All (λ gap. row ≢ gap) [])
across (x ∷ moves) falls rises down =
    let gaps : List ℕ = map (λ move. move.1) moves in
    let here : x.1 < x.0 = All-head GoesDown x moves down in
    let later : All GoesDown moves = All-tail GoesDown x moves down in
    let below : All (Falls x) moves = AllPairs-head Falls x moves falls in
    let above : All (Rises x) moves = AllPairs-head Rises x moves rises in
    let apart_here : x.0 ≢ x.1 = λ same. omega arith in
    let first : All (λ gap. x.0 ≢ gap) (x.1 ∷ gaps) =
    All-cons
    (λ gap. x.0 ≢ gap)
    x.1
    gaps
    apart_here
    (All-map
    (λ gap. x.0 ≢ gap)
    (λ move. move.1)
    moves
    (λ k d within same. omega (arith, later k d within, below k d within))) in
    let heads : All (λ row. row ≢ x.1) (map (λ move. move.0) moves) =
    All-map
    (λ row. row ≢ x.1)
    (λ move. move.0)
    moves
    (λ k d within same. omega (arith, later k d within, above k d within)) in
    let rest : All (λ row. All (λ gap. row ≢ gap) gaps) (map (λ move. move.0) moves) =
    across moves (AllPairs-tail Falls x moves falls) (AllPairs-tail Rises x moves rises) later in
    let others : All (λ row. All (λ gap. row ≢ gap) (x.1 ∷ gaps)) (map (λ move. move.0) moves) =
    λ k d within.
    All-cons
    (λ gap. get_or (map (λ move. move.0) moves) k d ≢ gap)
    x.1
    gaps
    (heads k d within)
    (rest k d within) in
    All-cons (λ row. All (λ gap. row ≢ gap) (x.1 ∷ gaps)) x.0 (map (λ move. move.0) moves) first others

-- the moves of falling rows into rising gaps name no place twice
pub NoPlaceTwice-moves_of : (rows gaps : List ℕ) → AllPairs (λ higher lower. lower < higher) rows →
    AllPairs (λ lower higher. lower < higher) gaps → NoPlaceTwice (moves_of rows gaps)
NoPlaceTwice-moves_of rows gaps falling rising =
    let p : ℕ × ℕ → Bool = λ move. nat_lt move.1 move.0 in
    let most : List (ℕ × ℕ) = take 64 (zip rows gaps) in
    let moves : List (ℕ × ℕ) = take_while p most in
    let falls : AllPairs Falls moves =
    AllPairs-take Falls (prefix_len p most) most (AllPairs-take Falls 64 (zip rows gaps) (falls_zip rows gaps falling)) in
    let rises : AllPairs Rises moves =
    AllPairs-take Rises (prefix_len p most) most (AllPairs-take Rises 64 (zip rows gaps) (rises_zip rows gaps rising)) in
    AllPairs-append
    (λ x y. x ≢ y)
    (map (λ move. move.0) moves)
    (map (λ move. move.1) moves)
    (AllPairs-map
    (λ x y. x ≢ y)
    (λ move. move.0)
    moves
    (λ i j d before within same. omega (arith, falls i j d before within)))
    (AllPairs-map
    (λ x y. x ≢ y)
    (λ move. move.1)
    moves
    (λ i j d before within same. omega (arith, rises i j d before within)))
    (across moves falls rises (goes_down most))

-- what follows for the value of an `Ok`
pub IfOk-weaker : {X E : Type 0} (P Q : X → Type 0) (r : Result X E) → ((x : X) → P x → Q x) → IfOk r P → IfOk r Q
IfOk-weaker P Q (Ok x) weaker holds = weaker x holds
IfOk-weaker P Q (Err e) weaker holds = tt
