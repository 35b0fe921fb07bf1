use Rattle.core_parts.specs.Hands.{MayRun}
use Rattle.engine_core.proofs.Told.{keeps_room, meets, refuses}
use Rattle.engine_core.proofs.engine.CoreParts.run.Goals as goal

pub returns-clause-room : goal.returns-clause-room
returns-clause-room g c =
    let may : MayRun c.args.shape.now c.args.event c.args.held.now = record {
      covers = c.requires.covered;
      parts = c.requires.lawful.0;
      holds = c.requires.lawful.1;
      agrees = c.requires.lawful.2;
      lawful = (c.requires.lawful.3, c.requires.lawful.4);
    } in
    keeps_room c.args.shape.now c.args.event c.args.held.now c.run.new.held c.run.result may c.run.ensures.made

pub returns-clause-meets : goal.returns-clause-meets
returns-clause-meets g c = λ s holds agrees stands fits.
    meets c.args.shape.now c.args.event c.args.held.now c.run.new.held c.run.result c.run.ensures.made s holds agrees stands fits

pub returns-clause-refuses : goal.returns-clause-refuses
returns-clause-refuses g c = λ is. refuses c.args.shape.now c.args.event c.args.held.now c.run.new.held c.run.result c.run.ensures.made is
