use Rattle.run_laws.proofs.Counts.Stamps.{images_are_told, opens_loose, seals_are_told, stamps_are_counted}
use Rattle.run_laws.proofs.count_laws.stamps_are_counted.Goals as goal

pub returns-clause-opens : goal.returns-clause-opens
returns-clause-opens c = opens_loose

pub returns-clause-next : goal.returns-clause-next
returns-clause-next c = stamps_are_counted

pub returns-clause-seals : goal.returns-clause-seals
returns-clause-seals c = seals_are_told

pub returns-clause-images : goal.returns-clause-images
returns-clause-images c = images_are_told
