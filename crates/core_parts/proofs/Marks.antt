-- Which tables are marked, by the list of them.
use Rattle.std.proofs.Common.{◌≡◌, ℕ, zero, suc, ◌+◌, ◌<◌, ◌≤◌, ◌||◌, ◌==◌, Bool, true, false, cond, List, [], ◌∷◌, refl, sym, ap, ◌∙◌, arith}
use Rattle.std.specs.BTreeSet.{insert_key}
use Rattle.std.specs.declared.cmp.Ordering.{Ordering}
use Rattle.std.specs.declared.cmp.Ordering.TheVariants.{Less, Equal, Greater}
use Rattle.std.specs.FinMap.{nat_cmp-IsAntisymmetric}
use Rattle.std.specs.List.{filter, list_any, range_with_len}
use Rattle.std.specs.Ordering.{match_ordering, nat_cmp}
use Rattle.std.proofs.lemmas.Bool.Decides.{nat_tests}
use Rattle.txn_desk.specs.declared.marks.TableMarks.{TableMarks}
use Rattle.txn_desk.specs.Marks.{is_marked, marked_tables}

-- a number is one of the list
abbrev pub has : ℕ → List ℕ → Bool
has t ks = list_any (λ k. k == t) ks

-- Numbers above it are others.
none_above : (test : ℕ → Bool) (t at len : ℕ) → t < at → has t (filter test (range_with_len at len)) ≡ false
none_above test t at zero less = refl
none_above test t at (suc len) less = go (test at) (none_above test t (at + 1) len (omega (arith, less)))
  where
    other : (at == t) ≡ false
    other = grind (arith, nat_tests, less)

    go : (b : Bool) → has t (filter test (range_with_len (at + 1) len)) ≡ false
        → has t (cond b (at ∷ filter test (range_with_len (at + 1) len)) (filter test (range_with_len (at + 1) len))) ≡ false
    go true rest = ap (λ b. b || has t (filter test (range_with_len (at + 1) len))) other ∙ rest
    go false rest = rest

-- A number of a range is one of those that pass where it passes.
is_passed : (test : ℕ → Bool) (t at len : ℕ) → at ≤ t → t < at + len → has t (filter test (range_with_len at len)) ≡ test t
is_passed test t at zero low high = absurd (let g : t < at + 0 = high in omega (arith, low, g))
is_passed test t at (suc len) low high = go (at == t) refl (test at) refl (is_passed test t (at + 1) len)
  where
    go : (same : Bool) → (at == t) ≡ same → (b : Bool) → test at ≡ b
        → (at + 1 ≤ t → t < at + 1 + len → has t (filter test (range_with_len (at + 1) len)) ≡ test t)
        → has t (cond (test at) (at ∷ filter test (range_with_len (at + 1) len)) (filter test (range_with_len (at + 1) len))) ≡ test t
    go true is true passes rest =
        let e : at ≡ t = grind (arith, nat_tests, is) in
        ap (λ b. has t (cond b (at ∷ filter test (range_with_len (at + 1) len)) (filter test (range_with_len (at + 1) len)))) passes
        ∙ ap (λ b. b || has t (filter test (range_with_len (at + 1) len))) is ∙ sym passes ∙ ap test e
    go true is false fails rest =
        let e : at ≡ t = grind (arith, nat_tests, is) in
        ap (λ b. has t (cond b (at ∷ filter test (range_with_len (at + 1) len)) (filter test (range_with_len (at + 1) len)))) fails
        ∙ none_above test t (at + 1) len (omega (arith, e)) ∙ sym fails ∙ ap test e
    go false is true passes rest =
        let less : at < t = grind (arith, nat_tests, low, is) in
        ap (λ b. has t (cond b (at ∷ filter test (range_with_len (at + 1) len)) (filter test (range_with_len (at + 1) len)))) passes
        ∙ ap (λ b. b || has t (filter test (range_with_len (at + 1) len))) is ∙ rest (omega (arith, less)) (omega (arith, high))
    go false is false fails rest =
        let less : at < t = grind (arith, nat_tests, low, is) in
        ap (λ b. has t (cond b (at ∷ filter test (range_with_len (at + 1) len)) (filter test (range_with_len (at + 1) len)))) fails
        ∙ rest (omega (arith, less)) (omega (arith, high))

-- A table is marked where it is one of the marked ones.
pub told : (tables : TableMarks) (t : ℕ) → t < 16 → is_marked tables t ≡ has t (marked_tables tables)
unfolding marked_tables
told tables t few = sym (is_passed (is_marked tables) t 0 16 (omega arith) (omega (arith, few)))

-- What is entered is one of the list, besides those that were.
entered : (ks : List ℕ) (k t : ℕ) → has t (insert_key nat_cmp ks k) ≡ (has t ks || k == t)
entered [] k t = or_false (k == t)
  where
    or_false : (b : Bool) → (b || false) ≡ b
    or_false true = refl
    or_false false = refl
entered (x ∷ ks) k t = go (nat_cmp k x) refl (entered ks k t)
  where
    first : (a b c : Bool) → (a || (b || c)) ≡ ((b || c) || a)
    first true true c = refl
    first true false true = refl
    first true false false = refl
    first false b c = sym (or_false (b || c))
      where
        or_false : (b : Bool) → (b || false) ≡ b
        or_false true = refl
        or_false false = refl

    already : (b c : Bool) → (b || c) ≡ ((b || c) || b)
    already true c = refl
    already false true = refl
    already false false = refl

    behind : (b c a : Bool) → (b || (c || a)) ≡ ((b || c) || a)
    behind true c a = refl
    behind false c a = refl

    go : (r : Ordering) → nat_cmp k x ≡ r → has t (insert_key nat_cmp ks k) ≡ (has t ks || k == t)
        → has t (match_ordering r (k ∷ x ∷ ks) (x ∷ ks) (x ∷ insert_key nat_cmp ks k)) ≡ ((x == t || has t ks) || k == t)
    go Less is rest = first (k == t) (x == t) (has t ks)
    go Equal is rest =
        already (x == t) (has t ks) ∙ ap (λ (n : ℕ). (x == t || has t ks) || n == t) (sym (nat_cmp-IsAntisymmetric k x is))
    go Greater is rest = ap (λ b. x == t || b) rest ∙ behind (x == t) (has t ks) (k == t)

-- A mark more marks its table, besides those that were.
pub marks_more : (before after : TableMarks) (table t : ℕ) → t < 16 → marked_tables after ≡ insert_key nat_cmp (marked_tables before) table
    → is_marked after t ≡ (is_marked before t || table == t)
marks_more before after table t few is =
    told after t few ∙ ap (has t) is ∙ entered (marked_tables before) table t ∙ ap (λ b. b || table == t) (sym (told before t few))
