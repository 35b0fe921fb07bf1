-- Bytes that have a piece at a place, and the numbers that are read there.
use Rattle.std.proofs.Common.{ℤ, pos, negsuc, ◌≡◌, ℕ, ◌+◌, ◌-◌, ◌^◌, ◌<◌, ◌≤◌, List, [], ◌++◌, length, take, drop, get_or, sym, ap, ◌∙◌, arith, append-nil, length-append, length-drop}
use Rattle.std.proofs.lemmas.List.{get_or-take, get_or-drop, get_or_append_left, get_or-append-add, length-take-le, ext_get_or}
use Rattle.std.specs.Int.{Width, w8, w16, w32, w64, w128, byte_len, cast_signed, cast_unsigned, to_le_bytes}
use Rattle.std.proofs.lemmas.Int.{to_z-of_z}
use mir.Val.{SFits}
use Rattle.arrow_spec.specs.Bytes.{number_bytes}
use Rattle.byteorder.specs.Endian.{little_number}
use Rattle.byteorder.specs.Numbers.{length-bytes_low_first, little_from-take, little_number-reads_back}
use Rattle.flat_read.specs.Reading.{number_from}

-- The bytes have a piece at a place.
pub record Has (bytes : List ℕ) (place : ℕ) (piece : List ℕ) : Type 0 where
  pub within : place + length piece ≤ length bytes
  pub same : (i : ℕ) → i < length piece → get_or bytes (place + i) 0 ≡ get_or piece i 0

-- a piece between others
pub has-between : (front piece back : List ℕ) → Has (front ++ (piece ++ back)) (length front) piece
has-between front piece back = record {
  within = omega (arith, length-append front (piece ++ back), length-append piece back);
  same = λ i h. get_or-append-add front (piece ++ back) i 0 ∙ get_or_append_left piece back 0 i h;
}

-- the first part of a piece
pub has-left : (bytes : List ℕ) (place : ℕ) (one two : List ℕ) → Has bytes place (one ++ two)
    → Has bytes place one
has-left bytes place one two has =
    let long : length (one ++ two) ≡ length one + length two = length-append one two in
    record {
      within = omega (arith, has.within);
      same = λ i h. has.same i (omega arith) ∙ get_or_append_left one two 0 i h;
    }

-- the second part of a piece
pub has-right : (bytes : List ℕ) (place : ℕ) (one two : List ℕ) → Has bytes place (one ++ two)
    → Has bytes (place + length one) two
has-right bytes place one two has =
    let long : length (one ++ two) ≡ length one + length two = length-append one two in
    record {
      within = omega (arith, has.within);
      same = λ i h.
          ap (λ (n : ℕ). get_or bytes n 0) (omega arith)
          ∙ has.same (length one + i) (omega arith)
          ∙ get_or-append-add one two i 0;
    }

-- a piece is what is taken
pub has-taken : (bytes : List ℕ) (place : ℕ) (piece : List ℕ) → Has bytes place piece
    → take (length piece) (drop place bytes) ≡ piece
has-taken bytes place piece has =
    let left : length (drop place bytes) ≡ length bytes - place = length-drop place bytes in
    let long : length (take (length piece) (drop place bytes)) ≡ length piece =
    length-take-le (length piece) (drop place bytes) (omega (arith, has.within)) in
    ext_get_or 0 (take (length piece) (drop place bytes)) piece long
    (λ i h.
    get_or-take (length piece) (drop place bytes) i 0 (omega arith)
    ∙ get_or-drop place bytes i 0 ∙ has.same i (omega arith))

-- how many bytes a number has
pub length-number : (width : Width) (value : ℕ) → length (to_le_bytes width value) ≡ byte_len width
length-number width value = length-bytes_low_first 0 (byte_len width) value

-- A number that stands at a place is read there.
pub has-number : (bytes : List ℕ) (place : ℕ) (width : Width) (value : ℕ)
    → value < 256 ^ byte_len width
    → Has bytes place (to_le_bytes width value) → number_from bytes place (byte_len width) ≡ value
has-number bytes place width value small has =
    let size : ℕ = byte_len width in
    let piece : List ℕ = to_le_bytes width value in
    let taken : take size (drop place bytes) ≡ piece =
    ap (λ (n : ℕ). take n (drop place bytes)) (sym (length-number width value))
    ∙ has-taken bytes place piece has in
    sym (little_from-take 0 size size (drop place bytes) (omega arith))
    ∙ ap (little_number size) (taken ∙ sym (append-nil piece))
    ∙ little_number-reads_back size value [] small

-- a number with a sign fits a width as bits
signed-bits : (width : Width) (value : ℤ) → SFits width value
    → cast_unsigned width value < 256 ^ byte_len width
signed-bits w8 (pos n) fits = omega (arith, fits.sfits)
signed-bits w8 (negsuc n) fits = omega (arith, fits.sfits)
signed-bits w16 (pos n) fits = omega (arith, fits.sfits)
signed-bits w16 (negsuc n) fits = omega (arith, fits.sfits)
signed-bits w32 (pos n) fits = omega (arith, fits.sfits)
signed-bits w32 (negsuc n) fits = omega (arith, fits.sfits)
signed-bits w64 (pos n) fits = omega (arith, fits.sfits)
signed-bits w64 (negsuc n) fits = omega (arith, fits.sfits)
signed-bits w128 (pos n) fits = omega (arith, fits.sfits)
signed-bits w128 (negsuc n) fits = omega (arith, fits.sfits)

-- A number with a sign that stands at a place is read there.
pub has-signed : (bytes : List ℕ) (place : ℕ) (width : Width) (value : ℤ) → SFits width value
    → Has bytes place (number_bytes width value)
    → cast_signed width (number_from bytes place (byte_len width)) ≡ value
has-signed bytes place width value fits has =
    ap (cast_signed width) (has-number bytes place width (cast_unsigned width value)
    (signed-bits width value fits) has)
    ∙ to_z-of_z width value fits
