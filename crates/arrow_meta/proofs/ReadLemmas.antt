-- Reading one of a list after another.
use Rattle.std.proofs.Common.{◌≡◌, ℕ, suc, ◌+◌, ◌*◌, ◌-◌, ◌<◌, ◌≤◌, Bool, true, false, length, List, [], ◌∷◌, ◌++◌, map, Ok, Err, refl, sym, ap, ◌∙◌, arith}
use Rattle.std.specs.Prelude.{Result, IsErrOf, nat_le, if◌then◌else◌}
use Rattle.std.specs.List.{range_with_len}
use Rattle.std.proofs.Math.Nat.{mul_comm}
use Rattle.std.proofs.lemmas.List.{map-append}
use Rattle.std.proofs.lemmas.List.FromFn.{map-range_with_len_more}
use Rattle.std.proofs.lemmas.Bool.{leb-true}
use Rattle.flat_read.specs.Reading.{number_from, vector_at}
use Rattle.flat_read.specs.declared.FlatFault.{FlatFault}
use Rattle.arrow_spec.specs.declared.fields.Field.{Field}
use Rattle.stream_spec.specs.Checks.{◌>>=◌}
use Rattle.stream_spec.specs.Metadata.{fields_behind, schema_field_at}
use Rattle.stream_spec.specs.declared.fault.MetaFault.{MetaFault}

-- the first of the numbers that are left
pub next_range : (i n : ℕ) → i < n → range_with_len i (n - i) ≡ i ∷ range_with_len (i + 1) (n - (i + 1))
next_range i n lt = let e : n - i ≡ suc (n - (i + 1)) = omega (arith, lt) in ap (range_with_len i) e

-- what is made of a field that is read, or not
abbrev and_then : List ℕ → List Field → List ℕ → Result Field MetaFault → Result (List Field) MetaFault
and_then bytes before places read = do
  field ← read
  fields_behind bytes (before ++ field ∷ []) places

-- a field that is read goes behind those before it
pub field_next : (bytes : List ℕ) (before : List Field) (place : ℕ) (places : List ℕ) (field : Field)
    → schema_field_at bytes before place ≡ Ok field
    → fields_behind bytes before (place ∷ places) ≡ fields_behind bytes (before ++ field ∷ []) places
field_next bytes before place places field is = ap (and_then bytes before places) is

-- one that is not is the answer
pub field_fails : (bytes : List ℕ) (before : List Field) (place : ℕ) (places : List ℕ) (fault : MetaFault)
    → schema_field_at bytes before place ≡ Err fault
    → fields_behind bytes before (place ∷ places) ≡ Err fault
field_fails bytes before place places fault is = ap (and_then bytes before places) is

-- a fault is the same whatever was to be read
pub same_fault : {S T E : Type 0} (stood fault : E) → IsErrOf {T = S} (Err stood) fault → IsErrOf {T = T} (Err stood) fault
same_fault stood fault is = let e : stood ≡ fault = cc in ap Err e

-- the pair that is read
abbrev pair_of : Result (ℕ × ℕ) FlatFault → ℕ × ℕ
pair_of (Ok pair) = pair
pair_of (Err fault) = (0, 0)

-- the elements of a vector that is read lie in the bytes
module _ (bytes : List ℕ) (place width : ℕ) (first count : ℕ) where
  -- What is read of a vector, by whether its count and its elements lie in the bytes.
  abbrev answer : Bool → Bool → ℕ → Result (ℕ × ℕ) FlatFault
  answer whole part n =
      if whole then (if part then Ok (place + 4, n) else Err (record { place = place + 4; need = n * width })) else Err (record { place = place; need = 4 })

  -- The elements of a vector that is read end inside the bytes.
  inside_by : (whole part : Bool) (n : ℕ) → nat_le (place + 4 + n * width) (length bytes) ≡ part → answer whole part n ≡ Ok (first, count) → first + width * count ≤ length bytes
  inside_by false part n is e = absurd cc
  inside_by true false n is e = absurd cc
  inside_by true true n is e =
      let a : place + 4 ≡ first = ap (λ r. (pair_of r).0) e in
      let b : count ≡ n = sym (ap (λ r. (pair_of r).1) e) in
      let fits : place + 4 + n * width ≤ length bytes = leb-true (place + 4 + n * width) (length bytes) is in
      let product : width * count ≡ n * width = ap (λ m. width * m) b ∙ mul_comm width n in
      omega (arith, a, fits, product)

  -- the elements of a vector that is read lie in the bytes
  pub vector_inside : vector_at bytes place width ≡ Ok (first, count) → first + width * count ≤ length bytes
  vector_inside e = inside_by (nat_le (place + 4) (length bytes)) (nat_le (place + 4 + number_from bytes place 4 * width) (length bytes)) (number_from bytes place 4) refl e

-- one item more of those of the first numbers
pub map_next : {A B : Type 0} (g : A → B) (f : ℕ → A) (n : ℕ) → map g (map f (range_with_len 0 (n + 1))) ≡ map g (map f (range_with_len 0 n)) ++ g (f n) ∷ []
map_next g f n = ap (map g) (map-range_with_len_more f 0 n n (omega arith)) ∙ map-append g (map f (range_with_len 0 n)) (f n ∷ [])
