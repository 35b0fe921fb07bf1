use Rattle.sole_trials.proofs.Rows.{fits_there}
use Rattle.sole_trials.proofs.owners.row_of.Goals as goal

pub returns-in-Ok-clause-fits : goal.returns-in-Ok-clause-fits
returns-in-Ok-clause-fits c = fits_there c.args.store.now.shape 0 c.from-row.result c.schema.result.now c.schema.ensures c.in-Ok.ensures
