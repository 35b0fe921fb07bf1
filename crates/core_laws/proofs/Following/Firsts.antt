-- The first answer of some places, the largest of some numbers, and what a search among
-- transactions finds.
use Rattle.std.proofs.Common.{◌≡◌, ◌≢◌, ◌⊎◌, ℕ, ◌≤◌, Bool, true, false, cond, not, ◌&&◌, ◌==◌, List, [], ◌∷◌, ◌++◌, Option, None, Some, is_some, is_none, max, fold, refl, sym, ap, ◌∙◌, arith, subst}
use mathlib.Core.Logic.{inl, inr}
use Rattle.std.specs.Prelude.{find, IfNone, option_map}
use Rattle.std.specs.List.{flat_map}
use Rattle.std.specs.Option.{option_or}
use Rattle.std.proofs.lemmas.Bool.Decides.{nat_tests}
use Rattle.isolation_spec.specs.Machine.{Transaction}
use Rattle.undo_chain.specs.declared.undo.Undo.{Undo}
use Rattle.undo_chain.specs.Entry.{is_move, is_open_write_of_another}
use Rattle.undo_chain.specs.Conflict.{other_writer, largest}
use Rattle.undo_chain.specs.Lawful.{IsLawful}
use Rattle.undo_chain.proofs.Order.{IsLawful-head, none_of_another}
use Rattle.block_spec.specs.declared.change.Before.{Before}
use Rattle.block_spec.specs.Slots.{writer_of}
use Rattle.event_spec.specs.Judged.{first_at}
use Rattle.event_spec.specs.Lawful.{Among}
use Rattle.event_spec.specs.Follows.{OneEach}
use Rattle.core_laws.proofs.Slots.Views.{writer_top}
use Rattle.core_laws.proofs.Following.Machines.{of}

-- True and false are never the same.
true_false : true ≡ false → ⊥
true_false e = cc

-- ---- the first answer

-- where no place answers, there is no first answer
pub first_none : {X : Type 0} (answer : ℕ → Option X) (ps : List ℕ) → ((p : ℕ) → Among p ps → answer p ≡ None) → first_at answer ps ≡ None
first_none answer [] none = refl
first_none answer (p ∷ ps) none = ap (λ a. option_or a (first_at answer ps)) (none p (inl refl)) ∙ first_none answer ps (λ p' a. none p' (inr a))

-- where all places that answer say the same, the first answer says it
pub first_is : {X : Type 0} (answer : ℕ → Option X) (ps : List ℕ) (p : ℕ) (x : X) → Among p ps → answer p ≡ Some x
    → ((p' : ℕ) (y : X) → Among p' ps → answer p' ≡ Some y → y ≡ x) → first_at answer ps ≡ Some x
first_is answer [] p x a is once = absurd a
first_is answer (p0 ∷ ps) p x a is once = go (answer p0) refl a (λ a'. first_is answer ps p x a' is (λ p' y b e. once p' y (inr b) e))
  where
    go : (found : Option _) → answer p0 ≡ found → Among p (p0 ∷ ps) → (Among p ps → first_at answer ps ≡ Some x) → option_or (answer p0) (first_at answer ps) ≡ Some x
    go (Some y) here a rest = ap (λ o. option_or o (first_at answer ps)) here ∙ ap Some (once p0 y (inl refl) here)
    go None here (inl e) rest = let h : answer p0 ≡ Some x = ap answer (sym e) ∙ is in cc
    go None here (inr b) rest = ap (λ o. option_or o (first_at answer ps)) here ∙ rest b

-- ---- the largest

-- The largest of a start and some numbers is below none of them.
fold_max : (ns : List ℕ) (x : ℕ) → (x ≤ fold max x ns) × ((k : ℕ) → Among k ns → k ≤ fold max x ns)
fold_max [] x = (omega arith, λ k a. absurd a)
fold_max (n ∷ ns) x =
    let rest = fold_max ns (max x n) in
    let first = rest.0 in
    (omega (arith, first), λ k a. go k a first rest.1)
  where
    go : (k : ℕ) → Among k (n ∷ ns) → max x n ≤ fold max (max x n) ns → ((k : ℕ) → Among k ns → k ≤ fold max (max x n) ns) → k ≤ fold max (max x n) ns
    go k (inl e) first rest = omega (arith, e, first)
    go k (inr a) first rest = rest k a

-- The largest of a start and some numbers is the start or one of them.
fold_among : (ns : List ℕ) (x : ℕ) → (fold max x ns ≡ x) ⊎ Among (fold max x ns) ns
fold_among [] x = inl refl
fold_among (n ∷ ns) x = go (fold_among ns (max x n)) (max_cases x n)
  where
    max_cases : (a b : ℕ) → (max a b ≡ a) ⊎ (max a b ≡ b)
    max_cases a b = grind arith

    go : (fold max (max x n) ns ≡ max x n) ⊎ Among (fold max (max x n) ns) ns → (max x n ≡ x) ⊎ (max x n ≡ n) → (fold max (max x n) ns ≡ x) ⊎ Among (fold max (max x n) ns) (n ∷ ns)
    go (inl e) (inl a) = inl (e ∙ a)
    go (inl e) (inr b) = inr (inl (e ∙ b))
    go (inr a) c = inr (inr a)

-- a number among others that none exceeds is their largest
pub largest_is : (ns : List ℕ) (x : ℕ) → Among x ns → ((k : ℕ) → Among k ns → k ≤ x) → largest ns ≡ Some x
largest_is [] x a all = absurd a
largest_is (n ∷ ns) x a all =
    let top = fold_max ns n in
    let up : x ≤ fold max n ns = above a top.0 top.1 in
    let down : fold max n ns ≤ x = below' (fold_among ns n) in
    ap Some (omega (arith, up, down))
  where
    above : Among x (n ∷ ns) → n ≤ fold max n ns → ((k : ℕ) → Among k ns → k ≤ fold max n ns) → x ≤ fold max n ns
    above (inl e) first rest = omega (arith, e, first)
    above (inr b) first rest = rest x b

    below' : (fold max n ns ≡ n) ⊎ Among (fold max n ns) ns → fold max n ns ≤ x
    below' (inl e) = let h = all n (inl refl) in omega (arith, e, h)
    below' (inr b) = all (fold max n ns) (inr b)

-- of no numbers there is no largest
pub largest_none : (ns : List ℕ) → ((k : ℕ) → Among k ns → ⊥) → largest ns ≡ None
largest_none [] none = refl
largest_none (n ∷ ns) none = absurd (none n (inl refl))

-- What is among two lists put together is among the first or the second.
among_append : (k : ℕ) (xs ys : List ℕ) → Among k (xs ++ ys) → Among k xs ⊎ Among k ys
among_append k [] ys a = inr a
among_append k (x ∷ xs) ys (inl e) = inl (inl e)
among_append k (x ∷ xs) ys (inr a) = go (among_append k xs ys a)
  where
    go : Among k xs ⊎ Among k ys → Among k (x ∷ xs) ⊎ Among k ys
    go (inl a) = inl (inr a)
    go (inr b) = inr b

-- What is among the first of two lists is among both put together.
append_left : (k : ℕ) (xs ys : List ℕ) → Among k xs → Among k (xs ++ ys)
append_left k [] ys a = absurd a
append_left k (x ∷ xs) ys (inl e) = inl e
append_left k (x ∷ xs) ys (inr a) = inr (append_left k xs ys a)

-- What is among the second of two lists is among both put together.
append_right : (k : ℕ) (xs ys : List ℕ) → Among k ys → Among k (xs ++ ys)
append_right k [] ys a = a
append_right k (x ∷ xs) ys a = inr (append_right k xs ys a)

-- what is among joined lists is in one of them
pub among_flat : {X : Type 0} (numbers : X → List ℕ) (ps : List X) (k : ℕ) → Among k (flat_map numbers ps) → (p : X) × Among p ps × Among k (numbers p)
among_flat numbers [] k a = absurd a
among_flat {X} numbers (p ∷ ps) k a = go (among_append k (numbers p) (flat_map numbers ps) a) (among_flat numbers ps k)
  where
    go : Among k (numbers p) ⊎ Among k (flat_map numbers ps) → (Among k (flat_map numbers ps) → (p' : X) × Among p' ps × Among k (numbers p'))
        → (p' : X) × Among p' (p ∷ ps) × Among k (numbers p')
    go (inl a) rest = (p, inl refl, a)
    go (inr b) rest = let r = rest b in (r.0, inr r.1, r.2)

-- what is in one of them is among the joined lists
pub flat_among : {X : Type 0} (numbers : X → List ℕ) (ps : List X) (p : X) (k : ℕ) → Among p ps → Among k (numbers p) → Among k (flat_map numbers ps)
flat_among numbers [] p k a n = absurd a
flat_among numbers (x ∷ ps) p k (inl e) n = append_left k (numbers x) (flat_map numbers ps) (subst (λ y. Among k (numbers y)) e n)
flat_among numbers (x ∷ ps) p k (inr a) n = append_right k (numbers x) (flat_map numbers ps) (flat_among numbers ps p k a n)

-- ---- another writer of a slot

-- An entry without a stamp passes the test of another writer's, where its session is another.
open_top : (stamp : Option ℕ) (move : Bool) (session w q : ℕ) → IfNone stamp (move ≡ false) → is_none stamp ≡ true → session ≡ w → w ≢ q → (is_none stamp && not move && not (session == q)) ≡ true
open_top (Some x) move session w q head n s ne = cc
open_top None true session w q head n s ne = cc
open_top None false session w q head n s ne = grind (arith, nat_tests)

-- a writer who is not this session is the other one
pub other_is : (es : List (Undo Before)) (w q : ℕ) → IsLawful es → writer_of es ≡ Some w → w ≢ q → other_writer es q ≡ Some w
other_is [] w q lawful is ne = cc
other_is (e ∷ es) w q lawful is ne =
    ap (λ b. option_map (λ (undo : Undo Before). undo.session) (cond b (Some e) (find (λ undo. is_open_write_of_another undo q) es)))
    (open_top e.stamp (is_move e.kind) e.session w q (IsLawful-head e es lawful) (writer_top e es w is).0 (writer_top e es w is).1 ne)
    ∙ ap Some (writer_top e es w is).1

-- An entry whose writer can only be this session fails the test of another writer's.
closed_top : (e : Undo Before) (stamp : Option ℕ) (move : Bool) (q : ℕ) → e.stamp ≡ stamp → ((w : ℕ) → cond (is_none e.stamp) (Some e.session) None ≡ Some w → w ≡ q) → (is_none stamp && not move && not (e.session == q)) ≡ false
closed_top e (Some x) move q st none = refl
closed_top e None true q st none = refl
closed_top e None false q st none =
    let same : e.session ≡ q = none e.session (ap (λ o. cond (is_none o) (Some e.session) None) st) in grind (arith, nat_tests)

-- where this session alone may be the writer, there is no other
pub other_none : (es : List (Undo Before)) (q : ℕ) → IsLawful es → ((w : ℕ) → writer_of es ≡ Some w → w ≡ q) → other_writer es q ≡ None
other_none [] q lawful none = refl
other_none (e ∷ es) q lawful none = ap (option_map (λ (undo : Undo Before). undo.session)) (none_of_another q e es lawful (closed_top e e.stamp (is_move e.kind) q refl none))

-- ---- a search among transactions

-- what a search finds is among the transactions and passes the test
pub find_among : (test : Transaction → Bool) (ts : List Transaction) (t : Transaction) → find test ts ≡ Some t → Among t ts × (test t ≡ true)
find_among test [] t is = cc
find_among test (x ∷ ts) t is = go (test x) refl is (find_among test ts t)
  where
    go : (b : Bool) → test x ≡ b → cond b (Some x) (find test ts) ≡ Some t → (find test ts ≡ Some t → Among t ts × (test t ≡ true)) → Among t (x ∷ ts) × (test t ≡ true)
    go true e is rest = let same : t ≡ x = cc in (inl same, ap test same ∙ e)
    go false e is rest = let r = rest is in (inr r.0, r.1)

-- where one passes the test, a search finds one
pub find_some : (test : Transaction → Bool) (ts : List Transaction) (t : Transaction) → Among t ts → test t ≡ true → is_some (find test ts) ≡ true
find_some test [] t a is = absurd a
find_some test (x ∷ ts) t a is = go (test x) refl a (λ b. find_some test ts t b is)
  where
    go : (b : Bool) → test x ≡ b → Among t (x ∷ ts) → (Among t ts → is_some (find test ts) ≡ true) → is_some (cond b (Some x) (find test ts)) ≡ true
    go true e a rest = refl
    go false e (inl s) rest = absurd (true_false (sym is ∙ ap test s ∙ e))
    go false e (inr b) rest = rest b

-- where each session has one transaction at most, one that is among them is its session's
pub of_among : (ts : List Transaction) (t : Transaction) → OneEach ts → Among t ts → of t.session ts ≡ Some t
of_among [] t one a = absurd a
of_among (x ∷ ts) t one a = go (x.session == t.session) refl a (λ b. of_among ts t one.1 b)
  where
    go : (b : Bool) → (x.session == t.session) ≡ b → Among t (x ∷ ts) → (Among t ts → of t.session ts ≡ Some t) → cond b (Some x) (of t.session ts) ≡ Some t
    go true e (inl s) rest = ap Some (sym s)
    go true e (inr b) rest =
        let same : x.session ≡ t.session = grind (arith, nat_tests) in
        let here : of t.session ts ≡ Some t = rest b in
        let none : of t.session ts ≡ None = ap (λ q. of q ts) (sym same) ∙ one.0 in cc
    go false e (inl s) rest = let same : x.session ≡ t.session = ap (λ (u : Transaction). u.session) (sym s) in absurd (true_false (sym (eq_refl x.session t.session same) ∙ e))
      where
        eq_refl : (a b : ℕ) → a ≡ b → (a == b) ≡ true
        eq_refl a b h = grind (arith, nat_tests)
    go false e (inr b) rest = rest b
