use Rattle.std.proofs.Common.{◌≡◌, ℕ, ◌+◌, [], get_or, take, count_ones, sym, ap, ◌∙◌, arith}
use Rattle.std.proofs.lemmas.List.Sums.{sum_by_more, sum_by-take-le}
use Rattle.std.specs.List.{sum_by}
use Rattle.flat_column.proofs.BitmapLemmas.{count_ones-from_le_bytes}
use Rattle.flat_column.proofs.bit_list.ones_of_words.Goals as goal

-- one word more
pub loop-word-preserved : goal.loop-word-preserved
loop-word-preserved c =
    let word = get_or c.args.words.now c.loop-word.word-index [] in
    let ones : count_ones c.from_le_bytes.result ≡ sum_by count_ones word =
    ap count_ones c.from_le_bytes.ensures
    ∙ count_ones-from_le_bytes word (c.told-words c.loop-word.word-index c.loop-word-test.true) (c.requires.bytes c.loop-word.word-index) in
    ap (λ (n : ℕ). n + count_ones c.from_le_bytes.result) c.loop-word.invariant
    ∙ ap (λ (n : ℕ). sum_by (sum_by count_ones) (take c.loop-word.word-index c.args.words.now) + n) ones
    ∙ sym (sum_by_more (sum_by count_ones) c.args.words.now c.loop-word.word-index [] c.loop-word-test.true)

pub overflow_add-count : goal.overflow_add-count
overflow_add-count c =
    let word = get_or c.args.words.now c.loop-word.word-index [] in
    let ones : count_ones c.from_le_bytes.result ≡ sum_by count_ones word =
    ap count_ones c.from_le_bytes.ensures
    ∙ count_ones-from_le_bytes word (c.told-words c.loop-word.word-index c.loop-word-test.true) (c.requires.bytes c.loop-word.word-index) in
    let more = sum_by_more (sum_by count_ones) c.args.words.now c.loop-word.word-index [] c.loop-word-test.true in
    let most = sum_by-take-le (sum_by count_ones) c.args.words.now (c.loop-word.word-index + 1) in
    let now = c.loop-word.invariant in
    let fits = c.requires.fits in
    omega arith
