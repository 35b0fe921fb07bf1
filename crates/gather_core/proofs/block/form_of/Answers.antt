use Rattle.gather_core.proofs.Columns.{message_told}
use Rattle.gather_core.proofs.block.form_of.Goals as goal

pub returns-clause-small : goal.returns-clause-small
returns-clause-small c =
    message_told c.args.columns.now.columns c.args.buffers.items c.as_slice.result.now c.in_ok-message.message c.new.result c.new.ensures
    c.as_slice.ensures.value c.in_ok-message.ensures.small
