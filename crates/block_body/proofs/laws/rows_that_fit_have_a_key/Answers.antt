use Rattle.block_body.proofs.Keyed.{fits-has_key}
use Rattle.block_body.proofs.laws.rows_that_fit_have_a_key.Goals as goal

pub returns : goal.returns
returns c = fits-has_key
