-- What a piece that is laid leaves.
use Rattle.std.proofs.Common.{◌≡◌, ◌⊎◌, inl, inr, ⊎_elim, ℕ, ◌+◌, ◌-◌, ◌≤◌, min, zero, suc, refl}
use Rattle.std.proofs.Common.{List, [], ◌∷◌, ◌++◌, length, take, drop, sym, ◌∙◌, ap, arith}
use Rattle.std.proofs.Common.{append_assoc, length-append, take-append-drop}
use Rattle.std.proofs.lemmas.List.{take_all, drop_all, append-nil, nil_from_length, length-take}
use Rattle.std.proofs.lemmas.List.{length-drop, length-replicate}
use Rattle.std.proofs.lemmas.Bool.{cases_lt}
use Rattle.std.specs.Prelude.{replicate}
use Rattle.disk_ports.specs.FileSteps.{Lays, Tears}

-- the parts of a file with a piece laid, one behind the other
pub lays : (at end : ℕ) (piece old a b c new : List ℕ) → end ≡ at + length piece → a ≡ take at old
    → b ≡ a ++ replicate (at - length old) 0 → c ≡ b ++ piece → new ≡ c ++ drop end old
    → Lays at piece old new
lays at end piece old a b c new e ia ib ic is = record {
  gap = replicate (at - length old) 0;
  size = length-replicate (at - length old) 0;
  is = is
      ∙ ap (λ (l : List ℕ). l ++ drop end old) (ic ∙ ap (λ (l : List ℕ). l ++ piece)
      (ib ∙ ap (λ (l : List ℕ). l ++ replicate (at - length old) 0) ia))
      ∙ append_assoc (take at old ++ replicate (at - length old) 0) piece (drop end old)
      ∙ append_assoc (take at old) (replicate (at - length old) 0) (piece ++ drop end old)
      ∙ ap (λ (n : ℕ). take at old ++ (replicate (at - length old) 0 ++ (piece ++ drop n old))) e;
}

abbrev no_bytes : List ℕ
no_bytes = []

-- nothing is left of nothing
pub drop_nothing : (n : ℕ) → drop n (no_bytes) ≡ no_bytes
drop_nothing zero = refl
drop_nothing (suc n) = refl

-- what is left behind one place and behind another
pub drop_twice : (n m : ℕ) (xs : List ℕ) → drop n (drop m xs) ≡ drop (m + n) xs
drop_twice n zero xs = ap (λ k. drop k xs) (let e : n ≡ 0 + n = omega arith in e)
drop_twice n (suc m) [] = drop_nothing n ∙ sym (drop_nothing (suc m + n))
drop_twice n (suc m) (x ∷ xs) =
    drop_twice n m xs
    ∙ ap (λ k. drop k (x ∷ xs)) (let e : suc (m + n) ≡ suc m + n = omega arith in e)

-- nothing was written
pub tears_same : (at count : ℕ) (old : List ℕ) → Tears at count old old
tears_same at count old = record {
  any = take count (drop at old);
  past = [];
  size = length-take count (drop at old) ∙ ap (λ n. min count n) (length-drop at old);
  is = sym (take-append-drop at old) ∙ ap (λ (l : List ℕ). take at old ++ l)
      (sym (take-append-drop count (drop at old))
      ∙ ap (λ (l : List ℕ). take count (drop at old) ++ l)
      (drop_twice count at old ∙ sym (append-nil (drop (at + count) old))));
}

-- a torn range is part of a longer one
pub tears_more : (at count more : ℕ) (old new : List ℕ) → count ≤ more → Tears at count old new
    → Tears at more old new
tears_more at count more old new le torn = record {
  any = torn.any ++ between;
  past = torn.past;
  size = omega (
    arith,
    length-append torn.any between,
    torn.size,
    length-take (more - count) behind,
    length-drop (at + count) old,
  );
  is = torn.is
      ∙ ap (λ (l : List ℕ). take at old ++ (torn.any ++ (l ++ torn.past)))
      (sym (take-append-drop (more - count) behind) ∙ ap (λ (l : List ℕ). between ++ l) rest)
      ∙ ap (λ (l : List ℕ). take at old ++ (torn.any ++ l))
      (append_assoc between (drop (at + more) old) torn.past)
      ∙ ap (λ (l : List ℕ). take at old ++ l)
      (sym (append_assoc torn.any between (drop (at + more) old ++ torn.past)));
}
  where
    behind : List ℕ
    behind = drop (at + count) old

    between : List ℕ
    between = take (more - count) behind

    rest : drop (more - count) behind ≡ drop (at + more) old
    rest = drop_twice (more - count) (at + count) old
        ∙ ap (λ n. drop n old) (let e : at + count + (more - count) ≡ at + more = omega (arith, le) in e)

either : (a b : ℕ) → (a ≤ b) ⊎ (b ≤ a)
either a b = ⊎_elim (λ l. inl (omega (arith, l))) (λ g. inr g) (cases_lt a b)

-- a piece that is laid may have been torn
pub tears_laid : (at : ℕ) (piece old new : List ℕ) → Lays at piece old new
    → Tears at (length piece) old new
tears_laid at piece old new laid = go (either (length old) at)
  where
    behind : List ℕ
    behind = drop (at + length piece) old

    go : (length old ≤ at) ⊎ (at ≤ length old) → Tears at (length piece) old new
    go (inl past_end) = record {
      any = [];
      past = laid.gap ++ (piece ++ behind);
      size = omega (arith, past_end);
      is = laid.is
          ∙ ap (λ (l : List ℕ). take at old ++ (l ++ (laid.gap ++ (piece ++ behind))))
          (sym (drop_all (at + length piece) old (omega (arith, past_end))));
    }
    go (inr within) =
        let n = length old - at in
        let none : laid.gap ≡ [] = nil_from_length laid.gap (omega (arith, laid.size, within)) in
        record {
          any = take n piece;
          past = drop n piece;
          size = length-take n piece ∙ omega arith;
          is = laid.is ∙ ap (λ (l : List ℕ). take at old ++ (l ++ (piece ++ behind))) none
              ∙ ap (λ (l : List ℕ). take at old ++ l) (turned within);
        }
      where
        turned : at ≤ length old → piece ++ drop (at + length piece) old
            ≡ take (length old - at) piece
            ++ (drop (at + length piece) old ++ drop (length old - at) piece)
        turned within = ⊎_elim
            (λ short. ap (λ (l : List ℕ). piece ++ l)
            (drop_all (at + length piece) old (omega (arith, short)))
            ∙ append-nil piece ∙ sym (take-append-drop (length old - at) piece)
            ∙ ap (λ (l : List ℕ). take (length old - at) piece ++ (l ++ drop (length old - at) piece))
            (sym (drop_all (at + length piece) old (omega (arith, short)))))
            (λ long. ap (λ (l : List ℕ). l ++ drop (at + length piece) old)
            (sym (take_all (length old - at) piece (omega (arith, long, within))))
            ∙ ap (λ (l : List ℕ). take (length old - at) piece ++ l)
            (sym (append-nil (drop (at + length piece) old))
            ∙ ap (λ (l : List ℕ). drop (at + length piece) old ++ l)
            (sym (drop_all (length old - at) piece (omega (arith, long, within))))))
            (either (length old) (at + length piece))
