use Rattle.std.proofs.Common.{◌%◌, ◌^◌, sym, ap, ◌∙◌, ◌-◌}
use Rattle.hall_rule.specs.Meaning.{meaning}
use Rattle.hall_rule.specs.Views.{turned}
use Rattle.hall_rule.proofs.OfParts.{laws_of}
use Rattle.hall_rule.proofs.Turning.{cleared_head, cleared_readers, settles}
use Rattle.std.specs.Prelude.{bit_and}
use Rattle.hall_steps.proofs.words.lower.Goals as goal

pub clear_as-requires-clause-keeps : goal.clear_as-requires-clause-keeps
clear_as-requires-clause-keeps g c κs within =
    let m = g.met.C.Parts in
    let key = c.args.board.now.key in
    let laws = laws_of g.C.Parts m.keeps m.frame m.room m.local m.depends m.leaves m.outlives m.small m.turns m.still key.core.value key.passes in
    let M = meaning g.C.Parts key.core.value key.passes in
    let v = c.args.seat.now.me.0 in
    let r = c.requires in
    let target = r.value.2 in
    rw r.none_out (λ s held deep at fits.
    let t = settles M laws c.args.board.now.table_id.slots c.args.seat.now.id v c.args.part r.at.live r.at.below (λ n. bit_and n (2 ^ 62 - 1)) r.value.0 r.held r.value.1
    (λ n small is. (cleared_head n small ∙ (ap (λ x. x % 2 ^ 30) is ∙ sym target), cleared_readers n small))
    s held deep at fits in
    (t.0, t.1, t.2, t.3, (t.4.0 ∙ ap (turned v c.args.part) target, t.4.1, t.4.2)))

pub returns-clause-turned : goal.returns-clause-turned
returns-clause-turned g c = let t = c.clear_as.ensures.told in λ i. (t.0 i, t.1 i)

pub returns-clause-found : goal.returns-clause-found
returns-clause-found g c = c.clear_as.ensures.told.2
