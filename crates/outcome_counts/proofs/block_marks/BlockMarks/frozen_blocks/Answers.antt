use Rattle.std.proofs.Common.{◌≡◌, ◌∙◌, ◌+◌, ◌<◌, ◌≤◌, ◌++◌, ◌∷◌, [], ℕ, Bool, List, true, false, cond, nat_lt, zero, suc, ap, sym, arith}
use Rattle.std.proofs.lemmas.Bool.Decides.{nat_tests}
use Rattle.std.specs.List.{count_by, range_with_len}
use Rattle.mark_index.proofs.Noted.{count-push}
use Rattle.outcome_spec.specs.Entries.{not_after}
use Rattle.outcome_spec.specs.Upkeep.{freezes_in}
use Rattle.output_read.specs.Kept.{entries_of}
use Rattle.outcome_counts.specs.Asked.{asked_at}
use Rattle.outcome_counts.proofs.block_marks.BlockMarks.frozen_blocks.Goals as goal
use Rattle.outcome_counts.proofs.block_marks.BlockMarks.frozen_blocks.Goals.{then-freezes-gt0, else-freezes-gt0}

range-next : (first n : ℕ) → range_with_len first (n + 1) ≡ range_with_len first n ++ (first + n) ∷ []
range-next first zero = let e : first ≡ first + 0 = omega arith in ap (λ (k : ℕ). k ∷ []) e
range-next first (suc n) =
    let e : suc n + 1 ≡ suc (n + 1) = omega arith in
    let f : (first + 1) + n ≡ first + suc n = omega arith in
    ap (range_with_len first) e ∙ ap (λ (xs : List ℕ). first ∷ xs) (range-next (first + 1) n ∙ ap (λ (k : ℕ). range_with_len (first + 1) n ++ k ∷ []) f)

count-next : (p : ℕ → Bool) (n : ℕ) (b : Bool) → p n ≡ b → count_by p (range_with_len 0 (n + 1)) ≡ count_by p (range_with_len 0 n) + cond b 1 0
count-next p n b is =
    let e : 0 + n ≡ n = omega arith in
    ap (count_by p) (range-next 0 n ∙ ap (λ (k : ℕ). range_with_len 0 n ++ k ∷ []) e) ∙ count-push p (range_with_len 0 n) n ∙ ap (λ (b : Bool). count_by p (range_with_len 0 n) + cond b 1 0) is

count-one : (p : ℕ → Bool) (n freezes was now : ℕ) (b : Bool) → p n ≡ nat_lt 0 freezes → nat_lt 0 freezes ≡ b → was ≡ count_by p (range_with_len 0 n) → now ≡ was + cond b 1 0
    → now ≡ count_by p (range_with_len 0 (n + 1))
count-one p n freezes was now b is test h k =
    let next = count-next p n b (is ∙ test) in
    omega (arith, next, h, k)

pub loop-block-preserved : goal.loop-block-preserved
loop-block-preserved c =
    let block : ℕ = c.loop-block.block in
    let freezes : ℕ = c.freezes_not_after-freezes.result in
    let low : c.loop-block.count ≤ block = c.loop-block.invariant.low in
    elim c.if-freezes-gt0.branch [
      | then-freezes-gt0 w ↦
          let more : 0 < freezes = w.if-freezes-gt0.true in
          let test : nat_lt 0 freezes ≡ true = grind (arith, nat_tests, more) in
          let is = w.count-is in
          record {
            low = omega (arith, low, is);
            counted = λ none.
                count-one (λ (b : ℕ). nat_lt 0 (freezes_in c.args.table b (not_after (entries_of c.args.replies.now) (asked_at c.args.replies.now c.args.at none)))) block freezes
                c.loop-block.count c.if-freezes-gt0.count true (ap (nat_lt 0) (sym (c.freezes_not_after-freezes.ensures none))) test (c.loop-block.invariant.counted none) is;
          }
      | else-freezes-gt0 w ↦
          let none_there : freezes ≤ 0 = w.if-freezes-gt0.false in
          let test : nat_lt 0 freezes ≡ false = grind (arith, nat_tests, none_there) in
          let is = w.count-is in
          record {
            low = omega (arith, low, is);
            counted = λ none.
                count-one (λ (b : ℕ). nat_lt 0 (freezes_in c.args.table b (not_after (entries_of c.args.replies.now) (asked_at c.args.replies.now c.args.at none)))) block freezes
                c.loop-block.count c.if-freezes-gt0.count false (ap (nat_lt 0) (sym (c.freezes_not_after-freezes.ensures none))) test (c.loop-block.invariant.counted none)
                (omega (arith, is));
          }
    ]

pub returns : goal.returns
returns c = λ none.
    let entries = not_after (entries_of c.args.replies.now) (asked_at c.args.replies.now c.args.at none) in
    let high : c.loop-block.block ≤ c.blocks_at-block-end.result = c.loop-block.auto.block-end in
    let past : c.blocks_at-block-end.result ≤ c.loop-block.block = c.loop-block-test.false in
    let end : c.loop-block.block ≡ c.blocks_at-block-end.result = omega (arith, high, past) in
    c.loop-block.invariant.counted none
    ∙ ap (λ (n : ℕ). count_by (λ (b : ℕ). nat_lt 0 (freezes_in c.args.table b entries)) (range_with_len 0 n)) (end ∙ c.blocks_at-block-end.ensures)
