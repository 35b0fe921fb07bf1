use Rattle.std.proofs.Common.{◌≡◌, ◌∙◌, List, ℕ, refl, ap, sym, drop, inl, inr, arith}
use Rattle.std.specs.Cmp.Lexicographic.{slice_cmp}
use Rattle.std.specs.Ordering.{nat_cmp}
use Rattle.dict_gather.specs.Heads.{head_of}
use Rattle.dict_gather.proofs.HeadLemmas.{AreBytes, drop-bytes, heads-decide, heads-same, level-on, short-decide, fits-bytes}
use Rattle.dict_gather.proofs.heads.compare_level.Goals as goal
use Rattle.dict_gather.proofs.heads.compare_level.Goals.{then-loop-first-test+else-second-gt-HEAD, else-loop-first-test}

pub loop-first-init : goal.loop-first-init
loop-first-init c = record {
  ones = fits-bytes c.args.first.now c.type_inv.first;
  twos = fits-bytes c.args.second.now c.type_inv.second;
  level = c.requires;
  same = refl;
}

pub loop-first-preserved : goal.loop-first-preserved
loop-first-preserved c =
    let ones : AreBytes c.split_at.result.1.now =
    drop-bytes c.loop-first.first.now c.split_at.result.1.now c.loop-first.invariant.ones c.split_at.ensures.back in
    let twos : AreBytes c.split_at-in-loop-first.result.1.now =
    drop-bytes c.loop-first.second.now c.split_at-in-loop-first.result.1.now c.loop-first.invariant.twos c.split_at-in-loop-first.ensures.back in
    let compared : c.cmp.result ≡ nat_cmp (head_of c.split_at.result.1.now) (head_of c.split_at-in-loop-first.result.1.now) = cc in
    record {
      ones = ones;
      twos = twos;
      level = heads-same c.split_at.result.1.now c.split_at-in-loop-first.result.1.now c.cmp.result compared c.in-Equal.is;
      same =
          c.loop-first.invariant.same
          ∙ level-on c.loop-first.first.now c.loop-first.second.now c.loop-first.invariant.ones c.loop-first.invariant.twos c.loop-first.invariant.level
          (omega arith) (omega arith)
          ∙ ap (λ (one : List ℕ). slice_cmp nat_cmp one (drop 16 c.loop-first.second.now)) (sym c.split_at.ensures.back)
          ∙ ap (slice_cmp nat_cmp c.split_at.result.1.now) (sym c.split_at-in-loop-first.ensures.back);
    }

pub returns-in_default : goal.returns-in_default
returns-in_default c =
    let ones : AreBytes c.split_at.result.1.now =
    drop-bytes c.loop-first.first.now c.split_at.result.1.now c.loop-first.invariant.ones c.split_at.ensures.back in
    let twos : AreBytes c.split_at-in-loop-first.result.1.now =
    drop-bytes c.loop-first.second.now c.split_at-in-loop-first.result.1.now c.loop-first.invariant.twos c.split_at-in-loop-first.ensures.back in
    let compared : c.cmp.result ≡ nat_cmp (head_of c.split_at.result.1.now) (head_of c.split_at-in-loop-first.result.1.now) = cc in
    heads-decide c.split_at.result.1.now c.split_at-in-loop-first.result.1.now c.cmp.result ones twos compared c.in_default.not-Equal
    ∙ ap (slice_cmp nat_cmp c.split_at.result.1.now) c.split_at-in-loop-first.ensures.back
    ∙ ap (λ (one : List ℕ). slice_cmp nat_cmp one (drop 16 c.loop-first.second.now)) c.split_at.ensures.back
    ∙ sym (level-on c.loop-first.first.now c.loop-first.second.now c.loop-first.invariant.ones c.loop-first.invariant.twos c.loop-first.invariant.level
    (omega arith) (omega arith))
    ∙ sym c.loop-first.invariant.same

pub returns : goal.returns
returns c =
    elim c.loop-first-test.branch [
      | then-loop-first-test+else-second-gt-HEAD w ↦
          short-decide c.loop-first.first.now c.loop-first.second.now c.cmp-2.result c.loop-first.invariant.ones c.loop-first.invariant.twos c.loop-first.invariant.level
          (inr (omega arith)) c.cmp-2.ensures
          ∙ sym c.loop-first.invariant.same
      | else-loop-first-test w ↦
          short-decide c.loop-first.first.now c.loop-first.second.now c.cmp-2.result c.loop-first.invariant.ones c.loop-first.invariant.twos c.loop-first.invariant.level
          (inl (omega arith)) c.cmp-2.ensures
          ∙ sym c.loop-first.invariant.same
    ]
