-- Pairs of 64-bit numbers, written one after another over zeros.
use Rattle.std.proofs.Common.{◌≡◌, ℕ, ◌+◌, ◌-◌, ◌*◌, ◌<◌, ◌≤◌, ℤ, List, [], ◌∷◌, ◌++◌, length, take, drop, replicate, get_or, refl, sym, ap, ◌∙◌, arith, append_assoc, append-nil, length-append, add-one, pos}
use Rattle.std.proofs.lemmas.List.{length-replicate, drop-replicate, length-take-le, take_all}
use Rattle.std.proofs.lemmas.Grind.{flat_map-append}
use Rattle.std.proofs.Math.Seq.{take-suc}
use Rattle.std.specs.Prelude.{flat_map}
use Rattle.std.specs.Int.{w32, w64, to_le_bytes}
use Rattle.flat_build.specs.Layout.{overwritten, with_piece, length_place}
use Rattle.arrow_spec.specs.Bytes.{number_bytes}
use Rattle.arrow_spec.specs.Flatbuffers as flat
use Rattle.arrow_meta.specs.Laying.{IsLaid}
use Rattle.arrow_meta.proofs.FieldLemmas.{overwritten-behind}

-- a struct of two 64-bit numbers
abbrev pub pair_bytes : (ℤ × ℤ) → List ℕ
pair_bytes pair = number_bytes w64 pair.0 ++ number_bytes w64 pair.1

-- the bytes up to the elements of a vector
abbrev pub vector_head : List ℕ → ℕ → List ℕ
vector_head old count = with_piece old (length_place old) (to_le_bytes w32 count)

-- a vector's head ends behind its count
pub length-head : (old : List ℕ) (count : ℕ) → length (vector_head old count) ≡ length_place old + 4
length-head old count =
    let word : List ℕ = to_le_bytes w32 count in
    let zeros : List ℕ = replicate (length_place old - length old) 0 in
    let long : length zeros ≡ length_place old - length old = length-replicate {A = ℕ} (length_place old - length old) 0 in
    rw (length-append (old ++ zeros) word, length-append old zeros, long) (omega arith)

-- each pair takes 16 bytes
pub length-pairs : (pairs : List (ℤ × ℤ)) → length (flat_map pair_bytes pairs) ≡ 16 * length pairs
length-pairs [] = refl
length-pairs (pair ∷ pairs) = omega (arith, length-pairs pairs)

-- the two numbers of a pair, over the first zeros behind a front
pub pair-written :
    (front : List ℕ) (at rest : ℕ) (pair : ℤ × ℤ) (before middle after : List ℕ)
    → before ≡ front ++ replicate (16 + rest) 0 → length front ≡ at
    → middle ≡ overwritten before at (number_bytes w64 pair.0)
    → after ≡ overwritten middle (at + 8) (number_bytes w64 pair.1)
    → after ≡ front ++ (pair_bytes pair ++ replicate rest 0)
pair-written front at rest pair before middle after start here first second =
    let one : List ℕ = number_bytes w64 pair.0 in
    let two : List ℕ = number_bytes w64 pair.1 in
    let here_0 : at ≡ length front + 0 = omega arith in
    let here_8 : at + 8 ≡ length front + 8 = omega arith in
    let left_8 : drop 8 (replicate (16 + rest) 0) ≡ replicate (8 + rest) 0 =
    drop-replicate 8 (16 + rest) 0 ∙ ap (λ (n : ℕ). replicate n 0) (omega arith) in
    let left_0 : drop 8 (replicate (8 + rest) 0) ≡ replicate rest 0 =
    drop-replicate 8 (8 + rest) 0 ∙ ap (λ (n : ℕ). replicate n 0) (omega arith) in
    let half : middle ≡ front ++ (one ++ replicate (8 + rest) 0) =
    first
    ∙ ap (λ (bytes : List ℕ). overwritten bytes at one) start
    ∙ ap (λ (n : ℕ). overwritten (front ++ replicate (16 + rest) 0) n one) here_0
    ∙ overwritten-behind front (replicate (16 + rest) 0) 0 one
    ∙ ap (λ (bytes : List ℕ). front ++ (one ++ bytes)) left_8 in
    second
    ∙ ap (λ (bytes : List ℕ). overwritten bytes (at + 8) two) half
    ∙ ap (λ (n : ℕ). overwritten (front ++ (one ++ replicate (8 + rest) 0)) n two) here_8
    ∙ overwritten-behind front (one ++ replicate (8 + rest) 0) 8 two
    ∙ ap (λ (bytes : List ℕ). front ++ (one ++ two ++ bytes)) left_0

-- one more pair after the first `i`
pub pair-added :
    (head : List ℕ) (pairs : List (ℤ × ℤ)) (i at : ℕ) (before middle after : List ℕ) → i < length pairs
    → before ≡ (head ++ flat_map pair_bytes (take i pairs)) ++ replicate (16 * (length pairs - i)) 0
    → at ≡ length head + 16 * i
    → middle ≡ overwritten before at (number_bytes w64 (get_or pairs i (pos 0, pos 0)).0)
    → after ≡ overwritten middle (at + 8) (number_bytes w64 (get_or pairs i (pos 0, pos 0)).1)
    → after ≡ (head ++ flat_map pair_bytes (take (i + 1) pairs)) ++ replicate (16 * (length pairs - (i + 1))) 0
pair-added head pairs i at before middle after inside start here first second =
    let pair : ℤ × ℤ = get_or pairs i (pos 0, pos 0) in
    let done : List ℕ = flat_map pair_bytes (take i pairs) in
    let rest : ℕ = 16 * (length pairs - (i + 1)) in
    let more : 16 * (length pairs - i) ≡ 16 + rest = omega arith in
    let reach : i ≤ length pairs = omega arith in
    let long_i : length (take i pairs) ≡ i = length-take-le i pairs reach in
    let long_done : length done ≡ 16 * i = length-pairs (take i pairs) ∙ ap (λ (n : ℕ). 16 * n) long_i in
    let long : length (head ++ done) ≡ at = length-append head done ∙ omega arith in
    let next : take (i + 1) pairs ≡ take i pairs ++ pair ∷ [] =
    ap (λ (n : ℕ). take n pairs) (add-one i) ∙ take-suc pairs i (pos 0, pos 0) inside in
    let joined : flat_map pair_bytes (take (i + 1) pairs) ≡ done ++ pair_bytes pair =
    ap (flat_map pair_bytes) next ∙ flat_map-append pair_bytes (take i pairs) (pair ∷ [])
    ∙ ap (λ (bytes : List ℕ). done ++ bytes) (append-nil (pair_bytes pair)) in
    pair-written (head ++ done) at rest pair before middle after
    (start ∙ ap (λ (n : ℕ). (head ++ done) ++ replicate n 0) more) long first second
    ∙ sym (append_assoc (head ++ done) (pair_bytes pair) (replicate rest 0))
    ∙ ap (λ (bytes : List ℕ). bytes ++ replicate rest 0) (append_assoc head done (pair_bytes pair))
    ∙ ap (λ (bytes : List ℕ). (head ++ bytes) ++ replicate rest 0) (sym joined)

-- all pairs were written
pub pairs-written :
    (old : List ℕ) (pairs : List (ℤ × ℤ)) (i : ℕ) (bytes : List ℕ) → length pairs ≤ i
    → bytes ≡ (vector_head old (length pairs) ++ flat_map pair_bytes (take i pairs)) ++ replicate (16 * (length pairs - i)) 0
    → bytes ≡ old ++ (flat.vector_of_pairs pairs (length old)).bytes
pairs-written old pairs i bytes past is =
    let elements : List ℕ = flat_map pair_bytes pairs in
    let none : 16 * (length pairs - i) ≡ 0 = omega arith in
    let all : take i pairs ≡ pairs = take_all i pairs past in
    is
    ∙ ap (λ (n : ℕ). (vector_head old (length pairs) ++ flat_map pair_bytes (take i pairs)) ++ replicate n 0) none
    ∙ append-nil (vector_head old (length pairs) ++ flat_map pair_bytes (take i pairs))
    ∙ ap (λ (ps : List (ℤ × ℤ)). vector_head old (length pairs) ++ flat_map pair_bytes ps) all
    ∙ simp append_assoc

-- A vector whose pairs were all written.
pub pairs-are :
    (old : List ℕ) (pairs : List (ℤ × ℤ)) (i place : ℕ) (last : List ℕ) → length pairs ≤ i
    → place ≡ length_place old
    → last ≡ (vector_head old (length pairs) ++ flat_map pair_bytes (take i pairs)) ++ replicate (16 * (length pairs - i)) 0
    → length last ≡ place + 4 + 16 * length pairs
    → IsLaid (flat.vector_of_pairs pairs) (11 + 16 * length pairs) old last place
pairs-are old pairs i place last past here is long = record {
  bytes = pairs-written old pairs i last past is;
  at = here;
  behind = omega arith;
  within = omega arith;
  short = omega arith;
}
