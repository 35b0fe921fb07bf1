use Rattle.std.proofs.Common.{◌≡◌, length}
use Rattle.std.specs.Cmp.Lexicographic.{slice_cmp}
use Rattle.std.specs.Ordering.{nat_cmp}
use Rattle.dict_gather.specs.Heads.{head_of}
use Rattle.dict_gather.proofs.HeadLemmas.{AreBytes}
use Rattle.dict_gather.proofs.heads.compare_level.Given as goal

abbrev pub invariant-loop-first : goal.invariant-loop-first
invariant-loop-first l = record {
  ones : AreBytes l.first;
  twos : AreBytes l.second;
  level : head_of l.first ≡ head_of l.second;
  same : slice_cmp nat_cmp l.fn.first l.fn.second ≡ slice_cmp nat_cmp l.first l.second;
}

abbrev pub decreases-loop-first : goal.decreases-loop-first
decreases-loop-first l = length l.first
