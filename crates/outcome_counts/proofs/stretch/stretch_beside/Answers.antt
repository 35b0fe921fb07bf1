use Rattle.std.proofs.Common.{◌≡◌, ◌∙◌, ◌-◌, ap, sym, subst, ℕ, List, Bool, rules, get_or, drop, take}
use Rattle.std.specs.List.{count_by}
use Rattle.std.specs.List.Sorted.{IsPartitionedBy}
use Rattle.std.proofs.lemmas.List.{get_or_read}
use Rattle.std.proofs.lemmas.List.Sorted.{IsPartitionPoint-from_clause}
use Rattle.order_laws.specs.Places.{is_up_to_own}
use Rattle.order_laws.proofs.Places.{own-parts}
use Rattle.mark_index.proofs.Parted.{passed-count}
use Rattle.output_read.specs.Kept.{entries_of, entry_of}
use Rattle.output_read.specs.declared.kept.KeptReply.{KeptReply as Kept}
use Rattle.outcome_counts.proofs.Beside.{ends-within, stretch-beside}
use Rattle.outcome_counts.proofs.Near.{parted-near}
use Rattle.outcome_counts.proofs.Parts.{parted-at, parted-map}
use Rattle.outcome_counts.proofs.stretch.stretch_beside.Goals as goal

pub between-others-requires-clause-inside : goal.between-others-requires-clause-inside
between-others-requires-clause-inside c = ends-within c.args.replies.now (c.args.at - 1) c.args.known c.requires.known

pub returns : goal.returns
returns c =
    let xs : List Kept = c.args.replies.now in
    let at : ℕ = c.args.at in
    let reply : Kept = c.index-replies-at.result in
    let p : Kept → Bool = λ k. is_up_to_own (entry_of reply) (entry_of k) in
    let others : List Kept = c.between-others.result.now in
    let is = c.between-others.ensures in
    let parted : IsPartitionedBy p others =
    subst (λ (ys : List Kept). IsPartitionedBy p ys) (sym is)
    (parted-at p _ (parted-near p at c.args.known.round_end xs (parted-map entry_of (is_up_to_own (entry_of reply)) xs (own-parts (entry_of reply) (entries_of xs) c.requires.known.rises)))) in
    let counted = passed-count p others c.partition_point-own.result c.partition_point-own.ensures.bound
    (IsPartitionPoint-from_clause p others c.partition_point-own.result c.partition_point-own.ensures.partitioned parted (λ a r f' t. search rules)) ∙ ap (count_by p) is in
    record {
      rises = c.requires.known.rises;
      inside = c.requires.inside;
      places = λ none.
          let there : reply ≡ get_or xs at none = get_or_read xs at reply c.requires.inside c.index-replies-at.is none in
          stretch-beside xs at none c.args.known c.requires.known.rises c.requires.inside (c.requires.known.places none) c.requires.apart c.requires.together c.partition_point-own.result
          (counted ∙ ap (λ (k : Kept). count_by (λ (other : Kept). is_up_to_own (entry_of k) (entry_of other)) (drop at (take c.args.known.round_end xs))) there);
    }
