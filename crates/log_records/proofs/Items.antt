-- Items that were read behind their count, and what they say of the others.
use Rattle.std.proofs.Common.{◌≡◌, ℕ, ◌+◌, ◌^◌, ◌<◌, List, [], ◌∷◌, ◌++◌, length, refl, sym, ◌∙◌, ap, arith, append_assoc, append-nil, length-append}
use Rattle.std.specs.List.{AllByRecursion, flat_map}
use Rattle.std.specs.Int.{w32, to_le_bytes}
use Rattle.std.proofs.lemmas.List.Concat.{flat_map-append}
use Rattle.log_spec.specs.LogText.{counted}
use Rattle.log_spec.proofs.Fronts.{items_front, next_front}
use Rattle.log_spec.proofs.Numbers.{count_front}
use Rattle.log_records.specs.Front.{AreCounted, NoneInFront}
use Rattle.log_records.proofs.Rows.{all_more}

-- The first so many items behind a count were read.
pub record ItemsSoFar {X : Type 0} (text : X → List ℕ) (P : X → Type 0) (count index : ℕ) (items : List X) (start now : List ℕ) : Type 0 where
  pub all : AllByRecursion P items
  pub long : length items ≡ index
  pub is : start ≡ to_le_bytes w32 count ++ (flat_map text items ++ now)

module _ {X : Type 0} (text : X → List ℕ) (P : X → Type 0) where
  pub items_none : (count : ℕ) (start now : List ℕ) → start ≡ to_le_bytes w32 count ++ now → ItemsSoFar text P count 0 [] start now
  items_none count start now is = record { all = tt; long = refl; is = is }

  pub items_more : (count index : ℕ) (items : List X) (item : X) (start now rest : List ℕ) → ItemsSoFar text P count index items start now → P item → now ≡ text item ++ rest
      → ItemsSoFar text P count (index + 1) (items ++ item ∷ []) start rest
  items_more count index items item start now rest so one is = record {
    all = all_more P items item so.all one;
    long = length-append items (item ∷ []) ∙ (let l = so.long in omega (arith, l));
    is = so.is ∙ ap (λ (l : List ℕ). to_le_bytes w32 count ++ l) printed;
  }
    where
      printed : flat_map text items ++ now ≡ flat_map text (items ++ item ∷ []) ++ rest
      printed = ap (λ (l : List ℕ). flat_map text items ++ l) is
          ∙ sym (append_assoc (flat_map text items) (text item) rest)
          ∙ ap (λ (l : List ℕ). (flat_map text items ++ l) ++ rest) (sym (append-nil (text item)))
          ∙ ap (λ (l : List ℕ). l ++ rest) (sym (flat_map-append text items (item ∷ [])))

  -- all of them were read
  pub items_all : (count : ℕ) (items : List X) (start now : List ℕ) → ItemsSoFar text P count count items start now → start ≡ counted text items ++ now
  items_all count items start now so =
      so.is ∙ ap (λ (n : ℕ). to_le_bytes w32 n ++ (flat_map text items ++ now)) (sym so.long)
      ∙ sym (append_assoc (to_le_bytes w32 (length items)) (flat_map text items) now)

  module _ (Q : X → Type 0) (front : (a b : X) (x y : List ℕ) → P a → Q b → text a ++ x ≡ text b ++ y → (a ≡ b) × (x ≡ y)) where
    -- other items behind the count: the next one stands where the reader is
    pub items_next : (count index : ℕ) (items others : List X) (start now rest : List ℕ) → count < 2 ^ 32 → index < count → ItemsSoFar text P count index items start now
        → AreCounted Q others → start ≡ counted text others ++ rest
        → (v : X) × (later : List X) × (others ≡ items ++ v ∷ later) × Q v × (now ≡ text v ++ (flat_map text later ++ rest))
    items_next count index items others start now rest few more so are is =
        next_front text P Q front items others now rest so.all are.each (let l = so.long in let c = counts.0 in omega (arith, l, c, more)) counts.1
      where
        counts : (count ≡ length others) × (flat_map text items ++ now ≡ flat_map text others ++ rest)
        counts = count_front count (length others) (flat_map text items ++ now) (flat_map text others ++ rest) few are.few
            (sym so.is ∙ is ∙ append_assoc (to_le_bytes w32 (length others)) (flat_map text others) rest)

    -- where the next item can't be read, neither can they
    pub items_refused : (count index : ℕ) (items : List X) (start now : List ℕ) → count < 2 ^ 32 → index < count → ItemsSoFar text P count index items start now
        → NoneInFront Q text now → NoneInFront (AreCounted Q) (counted text) start
    items_refused count index items start now few more so none others rest are is =
        let found = items_next count index items others start now rest few more so are is in
        none found.0 (flat_map text found.1 ++ rest) found.3 found.4

    -- where all were read, they are those, and the same is left
    pub items_same : (count : ℕ) (items others : List X) (start now rest : List ℕ) → count < 2 ^ 32 → ItemsSoFar text P count count items start now
        → AreCounted Q others → start ≡ counted text others ++ rest → (items ≡ others) × (now ≡ rest)
    items_same count items others start now rest few so are is =
        let counts = count_front count (length others) (flat_map text items ++ now) (flat_map text others ++ rest) few are.few
        (sym so.is ∙ is ∙ append_assoc (to_le_bytes w32 (length others)) (flat_map text others) rest) in
        items_front text P Q front items others now rest so.all are.each (so.long ∙ counts.0) counts.1

-- behind fewer than four bytes nothing was counted
pub uncounted : {X : Type 0} (text : X → List ℕ) (Q : X → Type 0) (start : List ℕ) → length start < 4 → NoneInFront (AreCounted Q) (counted text) start
uncounted text Q start few items rest are is =
    absurd (omega (arith, few, ap length is))
