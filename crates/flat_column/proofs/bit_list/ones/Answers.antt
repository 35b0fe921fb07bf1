use Rattle.std.proofs.Common.{◌≡◌, ℕ, ◌*◌, ◌/◌, ◌+◌, List, length, drop, count_ones, arith, Fits, w8, get_or}
use Rattle.std.proofs.lemmas.List.Sums.{sum_by-take-drop}
use Rattle.std.specs.List.{sum_by}
use Rattle.std.specs.Simd.{first_chunks}
use Rattle.flat_column.specs.Bitmap.{AreBytes}
use Rattle.flat_column.proofs.BitmapLemmas.{AreBytes-first_chunks, sum_by-sum_by-first_chunks}
use Rattle.flat_column.proofs.bit_list.ones.Goals as goal

from_fits : (bytes : List ℕ) → ((i : ℕ) → Fits w8 (get_or bytes i 0)) → AreBytes bytes
from_fits bytes h = record { below = λ k. let byte = h k in omega arith }

-- the ones of the words and of the rest are all
parts : (bytes : List ℕ) (words : List (List ℕ)) (rest : List ℕ) → words ≡ first_chunks 8 (length bytes / 8) bytes
    → rest ≡ drop (length bytes / 8 * 8) bytes → sum_by (sum_by count_ones) words + sum_by count_ones rest ≡ sum_by count_ones bytes
parts bytes words rest front back =
    let turned : length bytes / 8 * 8 ≡ 8 * (length bytes / 8) = omega arith in
    rw (front, back, sum_by-sum_by-first_chunks, turned) (sum_by-take-drop count_ones bytes (8 * (length bytes / 8)))

pub ones_of_words-requires-clause-bytes : goal.ones_of_words-requires-clause-bytes
ones_of_words-requires-clause-bytes c =
    rw c.as_chunks.ensures.front (AreBytes-first_chunks (length c.args.bytes.now / 8) c.args.bytes.now (from_fits c.args.bytes.now c.type_inv.bytes))

pub ones_of_words-requires-clause-fits : goal.ones_of_words-requires-clause-fits
ones_of_words-requires-clause-fits c =
    let all = parts c.args.bytes.now c.as_chunks.result.0.now c.as_chunks.result.1.now c.as_chunks.ensures.front c.as_chunks.ensures.back in
    omega arith

pub ones_of_bytes-requires : goal.ones_of_bytes-requires
ones_of_bytes-requires c =
    let all = parts c.args.bytes.now c.as_chunks.result.0.now c.as_chunks.result.1.now c.as_chunks.ensures.front c.as_chunks.ensures.back in
    omega arith

pub overflow_add-result : goal.overflow_add-result
overflow_add-result c =
    let all = parts c.args.bytes.now c.as_chunks.result.0.now c.as_chunks.result.1.now c.as_chunks.ensures.front c.as_chunks.ensures.back in
    omega arith

pub returns : goal.returns
returns c =
    let all = parts c.args.bytes.now c.as_chunks.result.0.now c.as_chunks.result.1.now c.as_chunks.ensures.front c.as_chunks.ensures.back in
    omega arith
