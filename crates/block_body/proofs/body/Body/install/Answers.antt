use Rattle.block_spec.specs.Slots.{image_before}
use Rattle.block_spec.specs.Bodies.{slot_in}
use Rattle.block_body.proofs.Installed.{free_lawful}
use Rattle.block_body.proofs.body.Body.install.Goals as goal

pub change-requires-clause-lawful : goal.change-requires-clause-lawful
change-requires-clause-lawful c = λ lawful.
    free_lawful c.args.session c.args.change c.kind_of.result (image_before (slot_in c.args.self.now c.args.slot).row c.args.change) (slot_in c.args.self.now c.args.slot).entries c.kind_of.ensures lawful
    c.requires.free
