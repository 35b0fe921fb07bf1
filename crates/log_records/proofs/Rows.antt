-- A row's cells that were read, column by column, and what they say of the others.
use Rattle.std.proofs.Common.{◌≡◌, ℕ, ◌+◌, ◌-◌, ◌<◌, Bool, true, false, not, cond, List, [], ◌∷◌, ◌++◌, get_or, length, take, drop, refl, sym, ◌∙◌, ap, subst, arith, append_assoc, append-nil, length-take}
use Rattle.std.specs.Prelude.{ℤ, pos, negsuc, ◌^◌, ◌&&◌, int_le, FitsSigned, None, Some, nat_lt, bytes_eq, codes}
use Rattle.std.specs.List.{AllByRecursion, AllZip, flat_map}
use Rattle.std.specs.Int.{w64, w128, cast_signed, cast_unsigned}
use Rattle.std.proofs.lemmas.Int.{ints}
use Rattle.std.proofs.lemmas.List.{take_more}
use Rattle.std.proofs.lemmas.List.Concat.{flat_map-append}
use Rattle.cell_model.specs.declared.cell.Cell.{Cell}
use Rattle.cell_model.specs.declared.cell.Cell.TheVariants.{Num}
use Rattle.cell_model.specs.declared.column.Column.{Column}
use Rattle.cell_model.specs.declared.kind.Kind.{Kind}
use Rattle.cell_model.specs.declared.kind.Kind.TheVariants as kind
use Rattle.cell_model.specs.declared.row.RowFault.TheVariants.{LongAt, RangeAt}
use Rattle.cell_model.specs.Schemas.{begins_with_key, is_i64}
use Rattle.cell_model.specs.Values.{is_integer_of, is_value_of, most_bytes_of}
use Rattle.isolation_spec.specs.Contents.{key_of}
use Rattle.isolation_spec.specs.declared.place.Place.{Place}
use Rattle.log_spec.specs.LogText.{cell_text}
use Rattle.log_spec.specs.Told.{IsTold}
use Rattle.log_spec.proofs.Fronts.{cell_front, next_front}
use Rattle.log_spec.proofs.Values.{CellFits, behind_key, each_row, i64_is, parts, row_each, zip_length}
use Rattle.log_records.specs.Front.{IsCellOf, IsRowAt, NoneInFront, Takes, attributes_text}

-- one more of a list whose elements all hold a fact
pub all_more : {X : Type 0} (P : X → Type 0) (xs : List X) (x : X) → AllByRecursion P xs → P x → AllByRecursion P (xs ++ x ∷ [])
all_more P [] x all one = (one, tt)
all_more P (y ∷ xs) x all one = (all.0, all_more P xs x all.1 one)

zip_more : {X Y : Type 0} (P : X → Y → Type 0) (xs : List X) (ys : List Y) (x : X) (y : Y) → AllZip P xs ys → P x y → AllZip P (xs ++ x ∷ []) (ys ++ y ∷ [])
zip_more P [] [] x y all one = (one, tt)
zip_more P [] (b ∷ ys) x y all one = absurd all
zip_more P (a ∷ xs) [] x y all one = absurd all
zip_more P (a ∷ xs) (b ∷ ys) x y all one = (all.0, zip_more P xs ys x y all.1 one)

-- the pair at a place
zip_at : {X Y : Type 0} (P : X → Y → Type 0) (xs : List X) (ys later : List Y) (y : Y) (d : X) → AllZip P xs (ys ++ y ∷ later) → P (get_or xs (length ys) d) y
zip_at P [] [] later y d all = absurd all
zip_at P [] (b ∷ ys) later y d all = absurd all
zip_at P (a ∷ xs) [] later y d all = all.0
zip_at P (a ∷ xs) (b ∷ ys) later y d all = zip_at P xs ys later y d all.1

-- The cells of a row that were read: its key, and those of the first so many columns behind it.
pub record RowSoFar (attributes : List Column) (count : ℕ) (number : ℤ) (cells : List Cell) (start now : List ℕ) : Type 0 where
  pub key : cells ≡ Num number ∷ drop 1 cells
  pub fit : AllZip CellFits (take count attributes) (drop 1 cells)
  pub told : AllByRecursion IsTold (drop 1 cells)
  pub is : start ≡ flat_map cell_text (drop 1 cells) ++ now

pub row_none : (attributes : List Column) (key : ℤ) (start : List ℕ) → RowSoFar attributes 0 key (Num key ∷ []) start start
row_none attributes key start = record { key = refl; fit = tt; told = tt; is = refl }

-- the cells behind the key, and one more
behind_more : (key : ℤ) (cells : List Cell) (cell : Cell) → cells ≡ Num key ∷ drop 1 cells → drop 1 (cells ++ cell ∷ []) ≡ drop 1 cells ++ cell ∷ []
behind_more key [] cell is = absurd (omega (arith, ap length is))
behind_more key (k ∷ cells) cell is = refl

pub row_more : (attributes : List Column) (count : ℕ) (key : ℤ) (cells : List Cell) (start now rest : List ℕ) (d : Column) (cell : Cell)
    → RowSoFar attributes count key cells start now → count < length attributes → Takes (IsCellOf (get_or attributes count d)) cell_text now rest cell
    → RowSoFar attributes (count + 1) key (cells ++ cell ∷ []) start rest
row_more attributes count key cells start now rest d cell so few takes = record {
  key = ap (λ (l : List Cell). l ++ cell ∷ []) so.key ∙ ap (λ (l : List Cell). Num key ∷ l) (sym behind);
  fit = subst (λ (l : List Cell). AllZip CellFits (take (count + 1) attributes) l) (sym behind)
      (subst (λ (l : List Column). AllZip CellFits l (drop 1 cells ++ cell ∷ [])) (sym (take_more attributes count d few))
      (zip_more CellFits (take count attributes) (drop 1 cells) (get_or attributes count d) cell so.fit takes.one.fits));
  told = subst (λ (l : List Cell). AllByRecursion IsTold l) (sym behind) (all_more IsTold (drop 1 cells) cell so.told takes.one.told);
  is = so.is ∙ ap (λ (l : List ℕ). flat_map cell_text (drop 1 cells) ++ l) takes.printed
      ∙ sym (append_assoc (flat_map cell_text (drop 1 cells)) (cell_text cell) rest)
      ∙ ap (λ (l : List ℕ). (flat_map cell_text (drop 1 cells) ++ l) ++ rest) (sym (append-nil (cell_text cell)))
      ∙ ap (λ (l : List ℕ). l ++ rest) (sym (flat_map-append cell_text (drop 1 cells) (cell ∷ [])))
      ∙ ap (λ (l : List Cell). flat_map cell_text l ++ rest) (sym behind);
}
  where
    behind : drop 1 (cells ++ cell ∷ []) ≡ drop 1 cells ++ cell ∷ []
    behind = behind_more key cells cell so.key

-- a key of 64 bits is one of its kind
pub key_is : (n : ℤ) → FitsSigned w64 n → is_integer_of kind.I64 n ≡ true
key_is n fits = go (int_le (negsuc (2 ^ 63 - 1)) n) (int_le n (pos (2 ^ 63 - 1))) refl refl
  where
    go : (a b : Bool) → int_le (negsuc (2 ^ 63 - 1)) n ≡ a → int_le n (pos (2 ^ 63 - 1)) ≡ b → (int_le (negsuc (2 ^ 63 - 1)) n && int_le n (pos (2 ^ 63 - 1))) ≡ true
    go true true la lb = cc
    go true false la lb = grind (arith, ints)
    go false b la lb = grind (arith, ints)

-- a key keeps the rules of its column
key_fits : (column : Column) (n : ℤ) → column.kind ≡ kind.I64 → FitsSigned w64 n → CellFits column (Num n)
key_fits column n is fits =
    ap (λ (k : Kind). cond (not (is_value_of k (Num n))) (Some (RangeAt 0)) (cond (nat_lt (most_bytes_of k) 0) (Some (LongAt 0)) None)) is
    ∙ ap (λ (b : Bool). cond (not b) (Some (RangeAt 0)) None) (key_is n fits)

take_all : {X : Type 0} (xs : List X) → take (length xs) xs ≡ xs
take_all [] = refl
take_all {X = X} (x ∷ xs) = ap (λ (l : List X). x ∷ l) (take_all xs)

-- a key of 64 bits is the same in 128
pub widened : (n : ℤ) → FitsSigned w64 n → cast_signed w128 (cast_unsigned w128 (cast_signed w64 (cast_unsigned w64 n))) ≡ n
widened n fits = omega (arith, ints)

-- the row is whole: it fits its columns and its place
pub row_all : (columns attributes : List Column) (place : Place) (cells : List Cell) (start now : List ℕ) → begins_with_key columns ≡ true → attributes ≡ drop 1 columns
    → FitsSigned w64 place.key → RowSoFar attributes (length attributes) place.key cells start now → Takes (IsRowAt columns place) attributes_text start now cells
row_all [] attributes place cells start now begins same fits so = cc
row_all (column ∷ columns) attributes place cells start now begins same fits so = record {
  one = record {
    fits = record { cells = each_row (column ∷ columns) cells each; key = ap key_of so.key };
    told = so.told;
  };
  printed = so.is;
}
  where
    key : is_i64 column.kind ≡ true
    key = (parts (bytes_eq column.name (codes "key")) (is_i64 column.kind) (not column.nullable) begins).0

    others : AllZip CellFits columns (drop 1 cells)
    others = subst (λ (l : List Column). AllZip CellFits l (drop 1 cells)) (take_all attributes ∙ same) so.fit

    each : AllZip CellFits (column ∷ columns) cells
    each = subst (λ (l : List Cell). AllZip CellFits (column ∷ columns) l) (sym so.key) (key_fits column place.key (i64_is column.kind key) fits, others)

-- where the next cell can't be read, neither can the row
pub row_refused : (columns attributes : List Column) (count : ℕ) (place : Place) (cells : List Cell) (start now : List ℕ) (d : Column) → attributes ≡ drop 1 columns
    → RowSoFar attributes count place.key cells start now → count < length attributes → NoneInFront (IsCellOf (get_or attributes count d)) cell_text now
    → NoneInFront (IsRowAt columns place) attributes_text start
row_refused columns attributes count place cells start now d same so few none item rest is printed =
    none found.0 (flat_map cell_text found.1 ++ rest) (record { fits = fits; told = found.3 }) found.4
  where
    all : AllZip CellFits attributes (drop 1 item)
    all = subst (λ (l : List Column). AllZip CellFits l (drop 1 item)) (sym same) (behind_key columns item (row_each columns item is.fits.cells))

    read : length (drop 1 cells) ≡ count
    read = zip_length (take count attributes) (drop 1 cells) so.fit ∙ omega (arith, few, length-take count attributes)

    long : length (drop 1 item) ≡ length attributes
    long = zip_length attributes (drop 1 item) all

    found : (v : Cell) × (later : List Cell) × (drop 1 item ≡ drop 1 cells ++ v ∷ later) × IsTold v × (now ≡ cell_text v ++ (flat_map cell_text later ++ rest))
    found = next_front cell_text IsTold IsTold cell_front (drop 1 cells) (drop 1 item) now rest so.told is.told (omega (arith, read, long, few)) (sym so.is ∙ printed)

    fits : CellFits (get_or attributes count d) found.0
    fits = subst (λ (n : ℕ). CellFits (get_or attributes n d) found.0) read
        (zip_at CellFits attributes (drop 1 cells) found.1 found.0 d (subst (λ (l : List Cell). AllZip CellFits attributes l) found.2 all))
