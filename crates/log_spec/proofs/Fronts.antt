-- Of the texts of a log none is a front of another: what is printed in front of bytes is known by
-- the bytes.
use Rattle.std.proofs.Common.{◌≡◌, ℕ, ◌^◌, ◌<◌, ◌≤◌, Bool, true, false, eqb, List, [], ◌∷◌, ◌++◌, get_or, length, take, drop, refl, sym, ◌∙◌, ap, arith, append_assoc, length-append}
use Rattle.std.specs.Prelude.{if◌then◌else◌}
use Rattle.std.specs.List.{AllByRecursion, flat_map}
use Rattle.std.specs.Int.{w32, to_le_bytes}
use Rattle.std.proofs.lemmas.List.{take_at, drop_at}
use Rattle.cell_model.specs.declared.cell.Cell.{Cell}
use Rattle.cell_model.specs.declared.cell.Cell.TheVariants.{Null, Num, Truth, Text, Blob}
use Rattle.log_spec.specs.LogText.{cell_text, counted, sized}
use Rattle.log_spec.specs.Told.{IsTold}
use Rattle.log_spec.proofs.Numbers.{count_front, signed_front}

pub no_nil : {X : Type 0} (a : X) (xs : List X) → a ∷ xs ≡ [] → ⊥
no_nil a xs is = absurd (omega (arith, ap length is))

pub head_is : (a b : ℕ) (xs ys : List ℕ) → a ∷ xs ≡ b ∷ ys → a ≡ b
head_is a b xs ys is = ap (λ (l : List ℕ). get_or l 0 0) is

pub tail_is : (a b : ℕ) (xs ys : List ℕ) → a ∷ xs ≡ b ∷ ys → xs ≡ ys
tail_is a b xs ys is = ap (λ (l : List ℕ). drop 1 l) is

-- lists of other first numbers are apart
apart : {P : Type 0} (a b : ℕ) (xs ys : List ℕ) → eqb a b ≡ false → a ∷ xs ≡ b ∷ ys → P
apart a b xs ys other is =
    let same : eqb a b ≡ eqb b b = ap (λ (n : ℕ). eqb n b) (head_is a b xs ys is) in
    let itself : eqb b b ≡ true = grind arith in
    let no : true ≡ false = sym itself ∙ sym same ∙ other in
    cc

-- what stands behind its length, and what comes behind it, are known by the bytes
pub sized_front : (a b x y : List ℕ) → length a < 2 ^ 32 → length b < 2 ^ 32 → sized a ++ x ≡ sized b ++ y → (a ≡ b) × (x ≡ y)
sized_front a b x y la lb is = (same, rest)
  where
    found : (length a ≡ length b) × (a ++ x ≡ b ++ y)
    found = count_front (length a) (length b) (a ++ x) (b ++ y) la lb
        (sym (append_assoc (to_le_bytes w32 (length a)) a x) ∙ is ∙ append_assoc (to_le_bytes w32 (length b)) b y)

    same : a ≡ b
    same = sym (take_at a x (length a) refl) ∙ ap (λ (l : List ℕ). take (length a) l) found.1 ∙ take_at b y (length a) (sym found.0)

    rest : x ≡ y
    rest = sym (drop_at a x (length a) refl) ∙ ap (λ (l : List ℕ). drop (length a) l) found.1 ∙ drop_at b y (length a) (sym found.0)

-- ---- cells

truth_front : (s t : Bool) (x y : List ℕ) → (if s then 1 else 0) ∷ x ≡ (if t then 1 else 0) ∷ y → (s ≡ t) × (x ≡ y)
truth_front true true x y is = (refl, tail_is 1 1 x y is)
truth_front true false x y is = apart 1 0 x y refl is
truth_front false true x y is = apart 0 1 x y refl is
truth_front false false x y is = (refl, tail_is 0 0 x y is)

pub cell_front : (c d : Cell) (x y : List ℕ) → IsTold c → IsTold d → cell_text c ++ x ≡ cell_text d ++ y → (c ≡ d) × (x ≡ y)
cell_front Null Null x y tc td is = (refl, tail_is 0 0 x y is)
cell_front Null (Num n) x y tc td is = apart 0 1 _ _ refl is
cell_front Null (Truth t) x y tc td is = apart 0 2 _ _ refl is
cell_front Null (Text t) x y tc td is = apart 0 3 _ _ refl is
cell_front Null (Blob b) x y tc td is = apart 0 4 _ _ refl is
cell_front (Num m) Null x y tc td is = apart 1 0 _ _ refl is
cell_front (Num m) (Num n) x y tc td is =
    let found = signed_front m n x y tc td (ap (λ (l : List ℕ). drop 1 l) is) in (ap (λ v. Num v) found.0, found.1)
cell_front (Num m) (Truth t) x y tc td is = apart 1 2 _ _ refl is
cell_front (Num m) (Text t) x y tc td is = apart 1 3 _ _ refl is
cell_front (Num m) (Blob b) x y tc td is = apart 1 4 _ _ refl is
cell_front (Truth s) Null x y tc td is = apart 2 0 _ _ refl is
cell_front (Truth s) (Num n) x y tc td is = apart 2 1 _ _ refl is
cell_front (Truth s) (Truth t) x y tc td is =
    let found = truth_front s t x y (ap (λ (l : List ℕ). drop 1 l) is) in (ap (λ v. Truth v) found.0, found.1)
cell_front (Truth s) (Text t) x y tc td is = apart 2 3 _ _ refl is
cell_front (Truth s) (Blob b) x y tc td is = apart 2 4 _ _ refl is
cell_front (Text a) Null x y tc td is = apart 3 0 _ _ refl is
cell_front (Text a) (Num n) x y tc td is = apart 3 1 _ _ refl is
cell_front (Text a) (Truth t) x y tc td is = apart 3 2 _ _ refl is
cell_front (Text a) (Text b) x y tc td is =
    let found = sized_front a b x y tc td (ap (λ (l : List ℕ). drop 1 l) is) in
    (ap (λ v. Text v) found.0, found.1)
cell_front (Text a) (Blob b) x y tc td is = apart 3 4 _ _ refl is
cell_front (Blob a) Null x y tc td is = apart 4 0 _ _ refl is
cell_front (Blob a) (Num n) x y tc td is = apart 4 1 _ _ refl is
cell_front (Blob a) (Truth t) x y tc td is = apart 4 2 _ _ refl is
cell_front (Blob a) (Text b) x y tc td is = apart 4 3 _ _ refl is
cell_front (Blob a) (Blob b) x y tc td is =
    let found = sized_front a b x y tc td (ap (λ (l : List ℕ). drop 1 l) is) in
    (ap (λ v. Blob v) found.0, found.1)

-- ---- several items

module _ {X : Type 0} (text : X → List ℕ) where
  -- each text is short where all are
  pub each_short : (n : ℕ) (items : List X) → length (flat_map text items) < n → AllByRecursion (λ item. length (text item) < n) items
  each_short n [] short = tt
  each_short n (item ∷ items) short =
      let e = length-append (text item) (flat_map text items) in (omega (arith, e), each_short n items (omega (arith, e)))

  -- there are no more items than bytes
  pub few_items : ((item : X) → 0 < length (text item)) → (items : List X) → length items ≤ length (flat_map text items)
  few_items some [] = omega arith
  few_items some (item ∷ items) = omega (arith, length-append (text item) (flat_map text items), some item, few_items some items)

  module _ (P Q : X → Type 0) (front : (a b : X) (x y : List ℕ) → P a → Q b → text a ++ x ≡ text b ++ y → (a ≡ b) × (x ≡ y)) where
    -- so many items, and what stands behind them
    pub items_front : (us vs : List X) (x y : List ℕ) → AllByRecursion P us → AllByRecursion Q vs → length us ≡ length vs
        → flat_map text us ++ x ≡ flat_map text vs ++ y → (us ≡ vs) × (x ≡ y)
    items_front [] [] x y pu qv same is = (refl, is)
    items_front [] (v ∷ vs) x y pu qv same is = absurd (omega (arith, same))
    items_front (u ∷ us) [] x y pu qv same is = absurd (omega (arith, same))
    items_front (u ∷ us) (v ∷ vs) x y pu qv same is =
        let parted = sym (append_assoc (text u) (flat_map text us) x) ∙ is ∙ append_assoc (text v) (flat_map text vs) y in
        let first = front u v (flat_map text us ++ x) (flat_map text vs ++ y) pu.0 qv.0 parted in
        let others = items_front us vs x y pu.1 qv.1 (omega (arith, same)) first.1 in
        ((λ i. first.0 i ∷ others.0 i), others.1)

    -- items behind their count, and what stands behind them
    pub counted_front : (us vs : List X) (x y : List ℕ) → AllByRecursion P us → AllByRecursion Q vs → length us < 2 ^ 32 → length vs < 2 ^ 32
        → counted text us ++ x ≡ counted text vs ++ y → (us ≡ vs) × (x ≡ y)
    counted_front us vs x y pu qv lu lv is =
        let parted = sym (append_assoc (to_le_bytes w32 (length us)) (flat_map text us) x) ∙ is ∙ append_assoc (to_le_bytes w32 (length vs)) (flat_map text vs) y in
        let found = count_front (length us) (length vs) (flat_map text us ++ x) (flat_map text vs ++ y) lu lv parted in
        items_front us vs x y pu qv found.0 found.1

    -- what stands behind some first ones of the items: the next one, and the later ones
    pub next_front : (us vs : List X) (x y : List ℕ) → AllByRecursion P us → AllByRecursion Q vs → length us < length vs
        → flat_map text us ++ x ≡ flat_map text vs ++ y
        → (v : X) × (later : List X) × (vs ≡ us ++ v ∷ later) × Q v × (x ≡ text v ++ (flat_map text later ++ y))
    next_front [] [] x y pu qv few is = absurd (omega (arith, few))
    next_front [] (v ∷ vs) x y pu qv few is = (v, vs, refl, qv.0, is ∙ append_assoc (text v) (flat_map text vs) y)
    next_front (u ∷ us) [] x y pu qv few is = absurd (omega (arith, few))
    next_front (u ∷ us) (v ∷ vs) x y pu qv few is =
        let parted = sym (append_assoc (text u) (flat_map text us) x) ∙ is ∙ append_assoc (text v) (flat_map text vs) y in
        let first = front u v (flat_map text us ++ x) (flat_map text vs ++ y) pu.0 qv.0 parted in
        let found = next_front us vs x y pu.1 qv.1 (omega (arith, few)) first.1 in
        (found.0, found.1, (λ i. (sym first.0) i ∷ found.2 i), found.3, found.4)
