use Rattle.std.proofs.Common.{◌≡◌, ◌∙◌, ◌+◌, List, not, length, ap, sym, refl, arith}
use Rattle.std.specs.Prelude.{filter}
use Rattle.std.specs.List.{list_any}
use Rattle.undo_chain.specs.declared.undo.Undo.{Undo}
use Rattle.undo_chain.specs.Entry.{is_own, is_stamped_by}
use Rattle.block_spec.specs.declared.change.Before.{Before}
use Rattle.block_spec.specs.Slots.{Slot}
use Rattle.block_body.specs.Chains.{entries_at, stamped_below}
use Rattle.block_body.specs.Bodies.{body_value}
use Rattle.block_body.proofs.Slots.{slots-length}
use Rattle.block_body.proofs.After.{body_after, lawful_at, kept_pruned, filtered_fewer, pruned_slots, pruned_count}
use Rattle.block_body.proofs.body.Body.prune.Goals as goal

pub invariant_of-self : goal.invariant_of-self
invariant_of-self c =
    let i = c.self.inside in
    let new = c.prune.new.chains.entries in
    body_after i.rows i.rows i.chains.entries new i.written i.written i.phase i.last c.self.invariant
    c.prune.ensures.chains
    (λ k. kept_pruned i.rows k _ c.args.oldest (entries_at i.chains.entries k) (entries_at new k) (c.prune.ensures.entries k) (lawful_at i.chains.entries c.self.invariant.each k) (c.self.invariant.kept k))
    (λ k none. c.prune.ensures.entries k ∙ ap (filter (λ (undo : Undo Before). not (is_stamped_by undo c.args.oldest))) none)
    refl
    c.self.invariant.frozen
    (λ q k own. filtered_fewer (λ undo. not (is_stamped_by undo c.args.oldest)) q (entries_at i.chains.entries k) (sym (ap (λ (l : List (Undo Before)). list_any (λ undo. is_own undo q) l) (c.prune.ensures.entries k)) ∙ own))

pub returns-clause-pruned : goal.returns-clause-pruned
returns-clause-pruned c =
    let i = c.self.inside in
    rw (← c.self.view_is)
    (ap (λ (slots : List Slot). record (body_value i.rows i.chains.entries i.phase i.cooling i.rounds i.last) { slots = slots })
    (pruned_slots c.args.oldest i.chains.entries c.prune.new.chains.entries i.rows.rows c.prune.ensures.entries))

pub returns-clause-count : goal.returns-clause-count
returns-clause-count c =
    let i = c.self.inside in
    let n : c.slots-slots.result ≡ length i.rows.rows = c.slots-slots.ensures ∙ ap length c.columns.ensures.rows in
    let all = pruned_count (entries_at i.chains.entries) c.args.oldest 0 i.rows.rows in
    let zero_first : 0 + length i.rows.rows ≡ length i.rows.rows = omega arith in
    rw (← c.self.view_is)
    (c.prune.ensures.count ∙ ap (stamped_below (entries_at i.chains.entries) c.args.oldest) (n ∙ sym zero_first) ∙ sym all ∙ omega arith)

pub returns-clause-few : goal.returns-clause-few
returns-clause-few c =
    let i = c.self.inside in
    let n : c.slots-slots.result ≡ length i.rows.rows = c.slots-slots.ensures ∙ ap length c.columns.ensures.rows in
    let long = slots-length (entries_at i.chains.entries) 0 i.rows.rows in
    let few = c.prune.ensures.few in
    rw (← c.self.view_is) (omega (arith, n, long, few))
