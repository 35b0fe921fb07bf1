use Rattle.std.proofs.Common.{◌≡◌, Some, sym, ap, ◌∙◌}
use Rattle.core_parts.proofs.Telling.{only_told}
use Rattle.event_spec.specs.declared.event.Event.TheVariants as event
use Rattle.event_spec.specs.declared.reply.Reply.TheVariants as reply
use Rattle.event_spec.specs.Effects.{after_judged, stale_in}
use Rattle.event_spec.specs.Replies.{reply_to_commit}
use Rattle.engine_core.proofs.replies.committed.Goals as goal

pub returns-in-Some : goal.returns-in-Some
returns-in-Some c =
    let stale : stale_in c.args.shape.now c.requires.parts c.args.own.now c.args.reads.now ≡ Some (c.in-Some.read, c.in-Some.number) =
    sym (c.stale_read.ensures c.requires.parts c.requires.agrees) ∙ c.in-Some.is in
    only_told c.args.shape.now (event.Commit c.args.own.now c.args.reads.now) c.args.held.now (reply.Stale c.in-Some.read c.in-Some.number) c.requires
    (ap (after_judged c.args.shape.now c.requires.parts c.args.own.now) stale)
    (sym (ap (reply_to_commit c.args.shape.now c.requires.parts c.args.own.now) stale))

pub commit-requires : goal.commit-requires
commit-requires c = (
  c.args.reads.now,
  record { may = c.requires; fresh = sym (c.stale_read.ensures c.requires.parts c.requires.agrees) ∙ c.in-None.is },
)

pub returns-in-None : goal.returns-in-None
returns-in-None c = c.commit.ensures c.args.reads.now
    (record { may = c.requires; fresh = sym (c.stale_read.ensures c.requires.parts c.requires.agrees) ∙ c.in-None.is })
