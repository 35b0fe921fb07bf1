use Rattle.std.proofs.Common.{◌≡◌, ◌+◌, ◌-◌, ◌/◌, ◌≤◌, ◌^◌, ◌∷◌, ◌++◌, [], List, ℕ, ap, sym, ◌∙◌, subst, arith}
use Rattle.std.specs.List.{range_with_len}
use Rattle.core_parts.specs.Heads.{Rises}
use Rattle.core_parts.proofs.FirstHeads.{behind_few, head_behind, head_is}
use Rattle.core_parts.proofs.Heads.{range_more, rises_range}
use Rattle.core_parts.proofs.head_changes.TableHead.new.Goals as goal

pub loop-behind-preserved : goal.loop-behind-preserved
loop-behind-preserved c =
    let first = c.saturating_sub.result / c.args.slots + 1 in
    let i = c.loop-behind.invariant in
    let low : first ≤ c.loop-behind.behind = i.0 in
    let here : c.loop-behind.behind ≡ first + (c.loop-behind.behind - first) = omega (arith, low) in
    let next : c.loop-behind.behind - first + 1 ≡ c.loop-behind.behind + 1 - first = omega (arith, low) in
    let more = c.in_ok-push.ensures.capacity in
    let room = i.2 in (
      omega (arith, low),
      c.in_ok-push.ensures.items ∙ ap (λ xs. xs ++ c.loop-behind.behind ∷ []) i.1 ∙ ap (λ x. range_with_len first (c.loop-behind.behind - first) ++ x ∷ []) here
          ∙ range_more first (c.loop-behind.behind - first) ∙ ap (range_with_len first) next,
      omega (arith, more, room),
      omega arith,
    )

pub invariant_of-result : goal.invariant_of-result
invariant_of-result c =
    let first = c.saturating_sub.result / c.args.slots + 1 in
    let i = c.loop-behind.invariant in
    let few = behind_few c.args.blocks c.args.slots c.args.rows c.requires.slots c.requires.blocks c.requires.rows in
    let same : first ≡ (c.args.rows - 1) / c.args.slots + 1 = ap (λ n. n / c.args.slots + 1) c.saturating_sub.ensures in
    let most = i.3 in
    let blocks = c.requires.blocks in
    record {
      rises = subst (Rises 0 (2 ^ 10)) (sym i.1) (rises_range 0 (2 ^ 10) first (c.loop-behind.behind - first) (omega arith) (omega (arith, most, few, same, blocks)));
      room = i.2;
    }

pub returns : goal.returns
returns c =
    let first = c.saturating_sub.result / c.args.slots + 1 in
    let i = c.loop-behind.invariant in
    let most = i.3 in
    let low = i.0 in
    let same : c.saturating_sub.result ≡ c.args.rows - 1 = c.saturating_sub.ensures in
    let count : c.loop-behind.behind - first ≡ c.args.blocks - first = omega (arith, most, low) in
    ap (λ inserts. record (head_behind c.args.slots c.args.rows (c.saturating_sub.result / c.args.slots) 0) { inserts = inserts; empty = c.loop-behind.empty.items }) c.from.ensures
    ∙ ap (λ (empty : List ℕ). record (head_behind c.args.slots c.args.rows (c.saturating_sub.result / c.args.slots) 0) { empty = empty }) i.1
    ∙ ap (λ n. head_behind c.args.slots c.args.rows (n / c.args.slots) (c.loop-behind.behind - (n / c.args.slots + 1))) same
    ∙ head_is c.args.blocks c.args.slots c.args.rows (c.loop-behind.behind - ((c.args.rows - 1) / c.args.slots + 1)) c.requires.slots
    (ap (λ n. c.loop-behind.behind - (n / c.args.slots + 1)) (sym same) ∙ count ∙ ap (λ n. c.args.blocks - (n / c.args.slots + 1)) same)
