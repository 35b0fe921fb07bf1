-- Items that are put behind bytes one by one.
use Rattle.std.proofs.Common.{◌≡◌, ℕ, zero, suc, ◌+◌, ◌<◌, List, [], ◌∷◌, ◌++◌, get_or, length, take, sym, ◌∙◌, ap, arith, append_assoc, length-append}
use Rattle.std.specs.Prelude.{Result, Ok, Err, OnOk, is_ok, if◌then◌else◌}
use Rattle.std.specs.List.{flat_map}
use Rattle.std.proofs.lemmas.List.{flat_map_more, take_more}

-- bytes that were put behind others, where the call was Ok
pub put_ok : {T E : Type 0} (r : Result T E) (new old piece same : List ℕ) → new ≡ (if is_ok r then old ++ piece else old) → piece ≡ same → OnOk r (new ≡ old ++ same)
put_ok (Ok x) new old piece same is e = is ∙ ap (λ (l : List ℕ). old ++ l) e
put_ok (Err x) new old piece same is e = tt

-- the same behind a byte
pub put_behind : {T E : Type 0} (r : Result T E) (new old mid text same : List ℕ) (byte : ℕ) → OnOk r (new ≡ mid ++ text) → mid ≡ old ++ byte ∷ [] → byte ∷ text ≡ same → OnOk r (new ≡ old ++ same)
put_behind (Ok x) new old mid text same byte is before e =
    is ∙ ap (λ (l : List ℕ). l ++ text) before ∙ append_assoc old (byte ∷ []) text ∙ ap (λ (l : List ℕ). old ++ l) e
put_behind (Err x) new old mid text same byte is before e = tt

-- a place, that a row was left, and its cells, one behind the other
pub put_left : (old one two three all key cells : List ℕ) (table : ℕ) → one ≡ old ++ table ∷ [] → two ≡ one ++ key → three ≡ two ++ 1 ∷ [] → all ≡ three ++ cells
    → all ≡ old ++ (table ∷ (key ++ (1 ∷ cells)))
put_left old one two three all key cells table first second third fourth =
    fourth ∙ ap (λ (l : List ℕ). l ++ cells) (third ∙ ap (λ (l : List ℕ). l ++ 1 ∷ []) (second ∙ ap (λ (l : List ℕ). l ++ key) first))
    ∙ append_assoc ((old ++ table ∷ []) ++ key) (1 ∷ []) cells
    ∙ append_assoc (old ++ table ∷ []) key (1 ∷ cells)
    ∙ append_assoc old (table ∷ []) (key ++ (1 ∷ cells))

module _ {X : Type 0} (text : X → List ℕ) where
  -- one more item behind the bytes
  pub put_more : (items : List X) (i : ℕ) (d : X) (bytes : List ℕ) → i < length items
      → (bytes ++ flat_map text (take i items)) ++ text (get_or items i d) ≡ bytes ++ flat_map text (take (i + 1) items)
  put_more items i d bytes less =
      flat_map_more text bytes (take i items) (get_or items i d) ∙ ap (λ (l : List X). bytes ++ flat_map text l) (sym (take_more items i d less))

  -- how many bytes one more item makes
  pub length_more : (items : List X) (i : ℕ) (d : X) → i < length items
      → length (flat_map text (take (i + 1) items)) ≡ length (flat_map text (take i items)) + length (text (get_or items i d))
  length_more items i d less =
      ap length (sym (put_more items i d [] less)) ∙ length-append (flat_map text (take i items)) (text (get_or items i d))

  -- each item is short where all are
  pub one_short : (items : List X) (i : ℕ) (d : X) (n : ℕ) → i < length items → length (flat_map text items) < n → length (text (get_or items i d)) < n
  one_short [] i d n less short = absurd (omega (arith, less))
  one_short (x ∷ items) zero d n less short = omega (arith, short, length-append (text x) (flat_map text items))
  one_short (x ∷ items) (suc i) d n less short =
      one_short items i d n (omega (arith, less)) (omega (arith, short, length-append (text x) (flat_map text items)))
