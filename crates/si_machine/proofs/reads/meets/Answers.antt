use Rattle.std.proofs.Common.{◌∙◌, ap, sym}
use Rattle.std.specs.List.{list_any}
use Rattle.std.proofs.lemmas.Bool.{or_left}
use Rattle.si_machine.specs.Met.{is_met_at}
use Rattle.si_machine.proofs.Meetings.{met-is}
use Rattle.si_machine.proofs.reads.meets.Goals as goal

pub returns-then-is_met_at : goal.returns-then-is_met_at
returns-then-is_met_at c =
    let what = c.args.what.now in
    sym (or_left (is_met_at what c.in-Some.place.now) (list_any (is_met_at what) c.next.new.self) (sym c.is_met_at.ensures ∙ c.if-is_met_at.true))
    ∙ ap (list_any (is_met_at what)) (sym c.in-Some.ensures.steps)
    ∙ c.loop-place.invariant
    ∙ ap (list_any (is_met_at what)) (c.into_iter-place-iterator.ensures.into_iter_gives ∙ c.keys-place-items.ensures.rest)
    ∙ met-is what c.args.writes.now.entries

pub returns : goal.returns
returns c =
    let what = c.args.what.now in
    ap (list_any (is_met_at what)) (sym c.in-None.ensures.steps.0)
    ∙ c.loop-place.invariant
    ∙ ap (list_any (is_met_at what)) (c.into_iter-place-iterator.ensures.into_iter_gives ∙ c.keys-place-items.ensures.rest)
    ∙ met-is what c.args.writes.now.entries
