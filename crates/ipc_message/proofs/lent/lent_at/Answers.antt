use Rattle.std.proofs.Common.{refl, arith}
use Rattle.block_columns.specs.Images.{apart, image_with}
use Rattle.ipc_message.proofs.ImageLemmas.{array_there}
use Rattle.ipc_message.proofs.lent.lent_at.Goals as goal

pub overflow_cast-result : goal.overflow_cast-result
overflow_cast-result c = omega (arith, c.nulls.ensures.few)

pub returns : goal.returns
returns c =
    array_there (image_with c.args.columns.now c.args.rows (apart c.args.buffers.now)) c.args.at c.nulls.result c.index-buffers-at.result _ c.requires.whole
    c.requires.at c.nulls.ensures.count c.index-buffers-at.is refl
