use Rattle.std.proofs.Common.{◌-◌, ◌*◌, arith, length}
use Rattle.dict_gather.proofs.SlotLemmas.{start-read}
use Rattle.dict_gather.proofs.slots.start.Goals as goal

pub returns : goal.returns
returns c =
    start-read c.read_u32.result c.args.slot (length c.args.offsets.now - 4 * c.args.slot) c.args.offsets.now c.read_u32.ensures (omega arith)
