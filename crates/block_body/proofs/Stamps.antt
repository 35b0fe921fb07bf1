-- A commit's stamps, given twice or looked at again.
use Rattle.std.proofs.Common.{◌≡◌, ◌∙◌, ℕ, ◌≤◌, Bool, true, false, not, ◌&&◌, cond, List, [], ◌∷◌, Option, None, Some, map, eqb, refl, sym, ap, subst, arith}
use Rattle.std.specs.Prelude.{is_none, IfSome}
use Rattle.std.proofs.lemmas.List.Elements.{All-head, All-tail, All-cons, All-nil}
use Rattle.undo_chain.specs.declared.undo.Undo.{Undo}
use Rattle.undo_chain.specs.Entry.{is_own, is_move}
use Rattle.undo_chain.specs.Lawful.{NoneStampedAbove, IsStampedUpTo}
use Rattle.undo_chain.specs.Stamped.{stamped}

-- An entry to which a commit's stamp is given again stays as it is.
stamped_again : {D : Type 0} (session stamp number : ℕ) (u : Undo D) →
    stamped session stamp number (stamped session stamp number u) ≡ stamped session stamp number u
stamped_again {D} session stamp number u = go u.stamp u.number (is_move u.kind) (eqb u.session session)
  where
    given : Option ℕ → ℕ → Undo D
    given s n = record u { stamp = s; number = n }

    go : (s : Option ℕ) (n : ℕ) (moved same : Bool) →
        given
        (cond (is_none (cond (is_none s && not moved && same) (Some stamp) s) && not moved && same) (Some stamp) (cond (is_none s && not moved && same) (Some stamp) s))
        (cond (is_none (cond (is_none s && not moved && same) (Some stamp) s) && not moved && same) number (cond (is_none s && not moved && same) number n))
        ≡ given (cond (is_none s && not moved && same) (Some stamp) s) (cond (is_none s && not moved && same) number n)
    go None n true same = refl
    go None n false true = refl
    go None n false false = refl
    go (Some s) n moved same = refl

-- a commit's stamps that are given twice are given once
pub stamped_twice : {D : Type 0} (session stamp number : ℕ) (es : List (Undo D)) →
    map (stamped session stamp number) (map (stamped session stamp number) es) ≡ map (stamped session stamp number) es
stamped_twice session stamp number [] = refl
stamped_twice {D} session stamp number (e ∷ es) =
    ap (λ (u : Undo D). u ∷ map (stamped session stamp number) (map (stamped session stamp number) es)) (stamped_again session stamp number e)
    ∙ ap (λ (l : List (Undo D)). stamped session stamp number e ∷ l) (stamped_twice session stamp number es)

-- Given the limit as its stamp or left alone, an entry stays within the limit.
up_to : (own : Bool) (s : Option ℕ) (limit : ℕ) → IfSome s (λ n. n ≤ limit) → IfSome (cond own (Some limit) s) (λ n. n ≤ limit)
up_to true s limit is = omega arith
up_to false s limit is = is

-- where no stamp is above the commit's, none is after it gave its own
pub none_above-stamped : {D : Type 0} (session stamp number : ℕ) (es : List (Undo D)) → NoneStampedAbove es stamp →
    NoneStampedAbove (map (stamped session stamp number) es) stamp
none_above-stamped session stamp number [] none = All-nil (IsStampedUpTo stamp)
none_above-stamped session stamp number (e ∷ es) none =
    All-cons
    (IsStampedUpTo stamp)
    (stamped session stamp number e)
    (map (stamped session stamp number) es)
    (up_to (is_own e session) e.stamp stamp (All-head (IsStampedUpTo stamp) e es none))
    (none_above-stamped session stamp number es (All-tail (IsStampedUpTo stamp) e es none))

-- and so where it did or did not give them
pub none_above-either : {D : Type 0} (session stamp number : ℕ) (b : Bool) (es now : List (Undo D)) → NoneStampedAbove es stamp →
    now ≡ cond b (map (stamped session stamp number) es) es → NoneStampedAbove now stamp
none_above-either session stamp number true es now none is = subst (λ l. NoneStampedAbove l stamp) (sym is) (none_above-stamped session stamp number es none)
none_above-either session stamp number false es now none is = subst (λ l. NoneStampedAbove l stamp) (sym is) none
