use Rattle.core_laws.proofs.Frozen.Moments.{imaged_rows_stay}
use Rattle.core_laws.proofs.frozen_laws.an_image_stays.Goals as goal

pub returns : goal.returns
returns c = imaged_rows_stay
