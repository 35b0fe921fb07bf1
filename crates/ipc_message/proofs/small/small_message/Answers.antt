use Rattle.std.proofs.Common.{◌∙◌, ◌≤◌, length, refl, arith}
use Rattle.arrow_array.proofs.ArrayLemmas.{arrays-few}
use Rattle.block_columns.specs.Images.{ImageValue, apart, image_with, rows_of}
use Rattle.ipc_message.proofs.SmallBatches.{message-whole}
use Rattle.ipc_message.proofs.small.small_message.Goals as goal

pub returns-then-not-each_is_small-clause-small : goal.returns-then-not-each_is_small-clause-small
returns-then-not-each_is_small-clause-small c = (
  (λ never. absurd (cc)),
  λ small. absurd (let told = c.each_is_small.ensures.1 small.1 in cc),
)

pub put_together-requires : goal.put_together-requires
put_together-requires c =
    let image : ImageValue = image_with c.args.columns.now c.args.rows (apart c.args.buffers.now) in
    let few : length c.args.columns.now.columns ≤ 32 = omega (arith, c.if-width-gt-MOST_COLUMNS.false, c.width.ensures) in
    arrays-few c.args.columns.now.columns (rows_of image) c.as_slice.result.now few (c.as_slice.ensures.value ∙ c.in_ok-arrays.ensures)

pub returns-clause-small : goal.returns-clause-small
returns-clause-small c = (
  (λ told. (
    omega (arith, c.if-width-gt-MOST_COLUMNS.false, c.width.ensures),
    c.each_is_small.ensures.0 (cc),
  )),
  λ small. refl,
)

pub returns-clause-message : goal.returns-clause-message
returns-clause-message c =
    let image : ImageValue = image_with c.args.columns.now c.args.rows (apart c.args.buffers.now) in
    message-whole image c.as_slice.result.now c.in_ok-put_together.field-0.items c.requires (c.as_slice.ensures.value ∙ c.in_ok-arrays.ensures)
    c.in_ok-put_together.ensures
