use Rattle.std.proofs.Common.{ap, ◌∙◌, sym, refl}
use Rattle.core_parts.proofs.Telling.{desk_is, has_desk, only_told}
use Rattle.event_spec.specs.declared.event.Event.TheVariants as event
use Rattle.event_spec.specs.declared.reply.Reply.TheVariants as reply
use Rattle.txn_desk.specs.Oldest.{oldest_of}
use Rattle.core_events.proofs.sessions.oldest.Goals as goal

pub desk-requires : goal.desk-requires
desk-requires c = has_desk c.args.shape.now event.Oldest c.args.held.now c.requires refl

pub returns : goal.returns
returns c = only_told c.args.shape.now event.Oldest c.args.held.now (reply.Oldest c.oldest.result) c.requires refl
    (ap reply.Oldest (c.oldest.ensures ∙ ap oldest_of (sym (desk_is c.args.shape.now c.args.held.now c.requires.parts c.requires.agrees c.desk.result.now c.desk.ensures))))
