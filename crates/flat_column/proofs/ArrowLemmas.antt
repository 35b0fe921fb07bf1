-- The bytes of a number's two's complement are those of the Arrow definition.
use Rattle.std.proofs.Common.{◌≡◌, ℕ, ◌-◌, ◌*◌, ◌/◌, ◌^◌, List, [], ◌∷◌, ◌++◌, ℤ, pos, negsuc, suc, refl, ap, ◌∙◌, inl, inr}
use Rattle.std.specs.Int.{Width, w8, w16, w32, w64, w128, byte_len, bytes_low_first}
use Rattle.std.specs.List.{flat_map}
use Rattle.arrow_spec.specs.Bytes.{number_bytes}
use Rattle.flat_column.specs.Numbers.{IsWidth, numbers_bytes, width_of}

-- a number's two's complement at a width
abbrev pub twos_complement : ℕ → ℤ → ℕ
twos_complement width (pos n) = n
twos_complement width (negsuc n) = 2 ^ width - suc n

-- its bytes, the lowest first
abbrev pub bytes_of : ℕ → ℤ → List ℕ
bytes_of width value = bytes_low_first 0 (width / 8) (twos_complement width value)

-- a number's bytes at one of the four widths are Arrow's
pub arrow_number : (width : Width) (value : ℤ) → bytes_of (8 * byte_len width) value ≡ number_bytes width value
arrow_number w8 (pos n) = refl
arrow_number w8 (negsuc n) = refl
arrow_number w16 (pos n) = refl
arrow_number w16 (negsuc n) = refl
arrow_number w32 (pos n) = refl
arrow_number w32 (negsuc n) = refl
arrow_number w64 (pos n) = refl
arrow_number w64 (negsuc n) = refl
arrow_number w128 (pos n) = refl
arrow_number w128 (negsuc n) = refl

-- a number's bytes are Arrow's, by the width in bits
pub arrow_bytes : (width : ℕ) (value : ℤ) → IsWidth width → bytes_of width value ≡ number_bytes (width_of width) value
arrow_bytes width value (inl e) = rw e (arrow_number w8 value)
arrow_bytes width value (inr (inl e)) = rw e (arrow_number w16 value)
arrow_bytes width value (inr (inr (inl e))) = rw e (arrow_number w32 value)
arrow_bytes width value (inr (inr (inr e))) = rw e (arrow_number w64 value)

-- two that agree give the same joined lists
pub flat_map-same : {X Y : Type 0} (f g : X → List Y) → ((x : X) → f x ≡ g x) → (xs : List X) → flat_map f xs ≡ flat_map g xs
flat_map-same f g same [] = refl
flat_map-same f g same (x ∷ xs) = ap (λ (l : List _). l ++ flat_map f xs) (same x) ∙ ap (λ (l : List _). g x ++ l) (flat_map-same f g same xs)

-- the bytes of a list of numbers are Arrow's
pub arrow_numbers : (width : ℕ) (values : List ℤ) → IsWidth width → flat_map (bytes_of width) values ≡ numbers_bytes width values
arrow_numbers width values known = flat_map-same (bytes_of width) (number_bytes (width_of width)) (λ value. arrow_bytes width value known) values
