use Rattle.std.proofs.Common.{◌≡◌, ◌∙◌, ◌+◌, ◌≤◌, ◌==◌, ap, sym, subst, refl, ℕ, List, Bool, true, false, not, nat_le, arith, rules, get_or, take, drop, length}
use Rattle.std.proofs.lemmas.Bool.Decides.{nat_tests}
use Rattle.std.specs.List.{count_by, list_all}
use Rattle.std.specs.List.Sorted.{IsPartitionedBy}
use Rattle.std.proofs.lemmas.List.Sorted.{IsPartitionPoint-from_clause}
use Rattle.std.proofs.lemmas.List.{get_or_read}
use Rattle.outcome_spec.specs.Entries.{Entry}
use Rattle.order_laws.specs.Sides.{is_past}
use Rattle.order_laws.specs.Places.{is_among, is_earlier, is_in_front, is_up_to, is_up_to_own}
use Rattle.order_laws.proofs.Pieces.{Parted, all-weaker}
use Rattle.workload_spec.specs.declared.reply.Who.{Who}
use Rattle.order_laws.proofs.Places.{past-parts, front-parts, own-parts, round-parts}
use Rattle.mark_index.proofs.Parted.{passed-count}
use Rattle.output_read.specs.Kept.{entries_of, entry_of}
use Rattle.output_read.specs.declared.kept.KeptReply.{KeptReply as Kept}
use Rattle.outcome_counts.specs.Stretch.{stretch_of}
use Rattle.outcome_counts.proofs.Near.{count-near, parted-near}
use Rattle.outcome_counts.proofs.Parts.{parted-at, parted-map, count-map}
use Rattle.outcome_counts.proofs.stretch.stretch_about.Goals as goal

-- a test is partitioned in a part of the replies, and what passes it there is counted
module _ (xs near : List Kept) (from to : ℕ) (is : near ≡ drop from (take to xs)) (test : Entry → Bool) where
  near-parted : Parted test (entries_of xs) → IsPartitionedBy (λ (k : Kept). test (entry_of k)) near
  near-parted parted =
      subst (λ (ys : List Kept). IsPartitionedBy (λ (k : Kept). test (entry_of k)) ys) (sym is)
      (parted-at (λ (k : Kept). test (entry_of k)) (drop from (take to xs)) (parted-near (λ (k : Kept). test (entry_of k)) from to xs (parted-map entry_of test xs parted)))

  counted : from ≤ to → to ≤ length xs → list_all (λ (k : Kept). test (entry_of k)) (take from xs) ≡ true → list_all (λ (k : Kept). not (test (entry_of k))) (drop to xs) ≡ true
      → (i : ℕ) → i ≡ count_by (λ (k : Kept). test (entry_of k)) near → from + i ≡ count_by test (entries_of xs)
  counted order inside front back i e =
      ap (λ (n : ℕ). from + n) (e ∙ ap (count_by (λ (k : Kept). test (entry_of k))) is)
      ∙ sym (count-near (λ (k : Kept). test (entry_of k)) from to xs order inside front back) ∙ sym (count-map entry_of test xs)

-- one of an earlier round is among those in front, one of a later round is not
past-among : (chosen : Who → Bool) (entry other : Entry) → is_past entry other ≡ true → is_among chosen entry other ≡ true
past-among chosen entry other h = rw h refl

later-not-among : (chosen : Who → Bool) (entry other : Entry) → not (nat_le other.reply.round entry.reply.round) ≡ true → not (is_among chosen entry other) ≡ true
later-not-among chosen entry other h =
    let low : is_past entry other ≡ false = grind (arith, nat_tests, h) in
    let apart : (other.reply.round == entry.reply.round) ≡ false = grind (arith, nat_tests, h) in
    rw (low, apart) refl

pub returns : goal.returns
returns c = λ none.
    let xs : List Kept = c.args.replies.now in
    let reply : Kept = c.index-replies-at.result in
    let entry : Entry = entry_of reply in
    let there : reply ≡ get_or xs c.args.at none = get_or_read xs c.args.at reply c.requires.inside c.index-replies-at.is none in
    let near : List Kept = c.between-near.result.now in
    let from : ℕ = c.part_about-around.result.from in
    let to : ℕ = c.part_about-around.result.to in
    let is : near ≡ drop from (take to xs) = c.between-near.ensures in
    let order = c.part_about-around.ensures.order in
    let inside = c.part_about-around.ensures.inside in
    let before = c.part_about-around.ensures.front in
    let behind = c.part_about-around.ensures.back in
    let up_to_round : Entry → Bool = λ e. nat_le e.reply.round entry.reply.round in
    let among-before = λ (chosen : Who → Bool). all-weaker (λ (k : Kept). is_past entry (entry_of k)) (λ (k : Kept). is_among chosen entry (entry_of k)) (λ k h. past-among chosen entry (entry_of k) h) (take from xs) before in
    let among-behind = λ (chosen : Who → Bool). all-weaker (λ (k : Kept). not (nat_le k.round reply.round)) (λ (k : Kept). not (is_among chosen entry (entry_of k))) (λ k h. later-not-among chosen entry (entry_of k) h) (drop to xs) behind in
    let past-behind = all-weaker (λ (k : Kept). not (nat_le k.round reply.round)) (λ (k : Kept). not (is_past entry (entry_of k))) (λ k h. grind (arith, nat_tests, h)) (drop to xs) behind in
    let round-before = all-weaker (λ (k : Kept). is_past entry (entry_of k)) (λ (k : Kept). nat_le k.round reply.round) (λ k h. grind (arith, nat_tests, h)) (take from xs) before in
    let past = near-parted xs near from to is (is_past entry) (past-parts entry (entries_of xs) c.requires.rises) in
    let front = near-parted xs near from to is (is_in_front entry) (front-parts entry (entries_of xs) c.requires.rises) in
    let own = near-parted xs near from to is (is_up_to_own entry) (own-parts entry (entries_of xs) c.requires.rises) in
    let round = near-parted xs near from to is up_to_round (round-parts entry (entries_of xs) c.requires.rises) in
    let first = counted xs near from to is (is_past entry) order inside before past-behind c.partition_point.result (passed-count (λ (k : Kept). is_past entry (entry_of k)) near c.partition_point.result c.partition_point.ensures.bound
    (IsPartitionPoint-from_clause (λ (k : Kept). is_past entry (entry_of k)) near c.partition_point.result c.partition_point.ensures.partitioned past (λ a r f' t. search rules))) in
    let second = counted xs near from to is (is_in_front entry) order inside (among-before (λ w. is_earlier w entry.reply.who)) (among-behind (λ w. is_earlier w entry.reply.who)) c.partition_point-2.result (passed-count (λ (k : Kept). is_in_front entry (entry_of k)) near c.partition_point-2.result c.partition_point-2.ensures.bound
    (IsPartitionPoint-from_clause (λ (k : Kept). is_in_front entry (entry_of k)) near c.partition_point-2.result c.partition_point-2.ensures.partitioned front (λ a r f' t. search rules))) in
    let third = counted xs near from to is (is_up_to_own entry) order inside (among-before (λ w. is_up_to w entry.reply.who)) (among-behind (λ w. is_up_to w entry.reply.who)) c.partition_point-3.result (passed-count (λ (k : Kept). is_up_to_own entry (entry_of k)) near c.partition_point-3.result c.partition_point-3.ensures.bound
    (IsPartitionPoint-from_clause (λ (k : Kept). is_up_to_own entry (entry_of k)) near c.partition_point-3.result c.partition_point-3.ensures.partitioned own (λ a r f' t. search rules))) in
    let fourth = counted xs near from to is up_to_round order inside round-before behind c.partition_point-4.result (passed-count (λ (k : Kept). nat_le k.round reply.round) near c.partition_point-4.result c.partition_point-4.ensures.bound
    (IsPartitionPoint-from_clause (λ (k : Kept). nat_le k.round reply.round) near c.partition_point-4.result c.partition_point-4.ensures.partitioned round (λ a r f' t. search rules))) in
    ap (λ (n : ℕ). record { round_start = n; own_start = from + c.partition_point-2.result; own_end = from + c.partition_point-3.result; round_end = from + c.partition_point-4.result }) first
    ∙ ap (λ (n : ℕ). record (stretch_of (entries_of xs) entry) { own_start = n; own_end = from + c.partition_point-3.result; round_end = from + c.partition_point-4.result }) second
    ∙ ap (λ (n : ℕ). record (stretch_of (entries_of xs) entry) { own_end = n; round_end = from + c.partition_point-4.result }) third
    ∙ ap (λ (n : ℕ). record (stretch_of (entries_of xs) entry) { round_end = n }) fourth
    ∙ ap (λ (k : Kept). stretch_of (entries_of xs) (entry_of k)) there
