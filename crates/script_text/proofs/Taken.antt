-- Columns that are read are a table's.
use Rattle.std.proofs.Common.{◌≡◌, ℕ, ◌+◌, ◌<◌, ◌≤◌, Bool, true, false, cond, List, [], ◌∷◌, ◌++◌, length, refl, ap, ◌∙◌}
use Rattle.std.specs.Prelude.{◌||◌, not, is_none, Some, None, bytes_eq, Result, Ok, Err}
use Rattle.std.specs.List.{list_any, position_from}
use Rattle.std.proofs.lemmas.Iterator.Adapters.{position_from-zero}
use Rattle.cell_model.specs.declared.column.Column.{Column}
use Rattle.cell_model.specs.Schemas.{place_of_name}
use Rattle.cell_model.specs.declared.kind.Kind.{Kind}
use Rattle.workload_spec.specs.declared.script.Cause.{Cause}
use Rattle.workload_spec.specs.declared.script.Cause.TheVariants as cause
use Rattle.workload_spec.specs.Valid.{is_name}
use Rattle.workload_spec.specs.declared.extent.Extent.{Extent}
use Rattle.workload_spec.specs.Grammar.{◌>>=◌, before_colon, after_colon, kind_of, has_colon, column_of, columns_from}
use Rattle.std.proofs.lemmas.Bool.{le-ltb, lt-ltb}

-- No place is found with one element more in front where neither it nor the others pass.
none_by : {X : Type 0} (p : X → Bool) (b : Bool) → b ≡ b → (x : X) (xs : List X) (i : ℕ) → is_none (position_from p (i + 1) xs) ≡ not (list_any p xs) → is_none (cond b (Some i) (position_from p (i + 1) xs)) ≡ not (b || list_any p xs)
none_by p true e x xs i h = refl
none_by p false e x xs i h = h

-- No place is found among elements exactly where none of them passes.
none_from : {X : Type 0} (p : X → Bool) (xs : List X) (i : ℕ) → is_none (position_from p i xs) ≡ not (list_any p xs)
none_from p [] i = refl
none_from p (x ∷ xs) i = none_by p (p x) refl x xs i (none_from p xs (i + 1))

-- a name has no place among the columns where none of them has it
pub taken_name : (name : List ℕ) (columns : List Column) → is_none (place_of_name name columns) ≡ not (list_any (λ column. bytes_eq column.name name) columns)
taken_name name columns = ap is_none (position_from-zero (λ (column : Column). bytes_eq column.name name) columns) ∙ none_from (λ (column : Column). bytes_eq column.name name) columns 0

-- a column that is read, by the answers of its tests
pub no_kind : (extent : Extent) (columns : List Column) (word : List ℕ) → is_name (before_colon word) ≡ true → list_any (λ column. bytes_eq column.name (before_colon word)) columns ≡ false
    → kind_of extent.later_kinds (after_colon word) ≡ None → column_of extent columns word ≡ Err cause.Kind
no_kind extent columns word named own kind = rw (named, taken_name (before_colon word) columns, own, kind) refl

-- a column more than there may be is a fault
pub no_room : (extent : Extent) (columns : List Column) (word : List ℕ) (kind : Kind × Bool) → is_name (before_colon word) ≡ true → list_any (λ column. bytes_eq column.name (before_colon word)) columns ≡ false
    → kind_of extent.later_kinds (after_colon word) ≡ Some kind → extent.columns ≤ length columns → column_of extent columns word ≡ Err cause.Columns
no_room extent columns word kind named own known full = rw (named, taken_name (before_colon word) columns, own, known, le-ltb (length columns) extent.columns full) refl

-- a column's word with a new name and a kind is a column
pub column_read : (extent : Extent) (columns : List Column) (word : List ℕ) (kind : Kind × Bool) → is_name (before_colon word) ≡ true → list_any (λ column. bytes_eq column.name (before_colon word)) columns ≡ false
    → kind_of extent.later_kinds (after_colon word) ≡ Some kind → length columns < extent.columns → column_of extent columns word ≡ Ok (record { name = before_colon word; kind = kind.0; nullable = kind.1 })
column_read extent columns word kind named own known room = rw (named, taken_name (before_colon word) columns, own, known, lt-ltb (length columns) extent.columns room) refl

-- Where a test holds and a reading gives a value, what follows goes on with it.
chosen : {A B : Type 0} (b : Bool) (r : Result A Cause) (value : A) (next : A → Result B Cause) (stop : Result B Cause) → b ≡ true → r ≡ Ok value → elim b [ true ↦ r >>= next | false ↦ stop ] ≡ next value
chosen true r value next stop e f = rw f refl
chosen false r value next stop e f = absurd cc

-- a column's word among the words adds its column
pub columns_step : (extent : Extent) (columns : List Column) (words : List (List ℕ)) (word : List ℕ) (behind : List (List ℕ)) (column : Column) → words ≡ word ∷ behind → has_colon word ≡ true → column_of extent columns word ≡ Ok column
    → columns_from extent columns words ≡ columns_from extent (columns ++ column ∷ []) behind
columns_step extent columns words word behind column first colon read = ap (columns_from extent columns) first ∙ chosen (has_colon word) (column_of extent columns word) column (λ (made : Column). columns_from extent (columns ++ made ∷ []) behind) (Ok (columns, word ∷ behind)) colon read

-- a name that a column has already is a fault
pub twice_taken : (extent : Extent) (columns : List Column) (word : List ℕ) → is_name (before_colon word) ≡ true → list_any (λ column. bytes_eq column.name (before_colon word)) columns ≡ true
    → column_of extent columns word ≡ Err cause.Twice
twice_taken extent columns word named taken = rw (named, taken_name (before_colon word) columns, taken) refl
