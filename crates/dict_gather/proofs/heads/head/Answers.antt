use Rattle.dict_gather.proofs.HeadLemmas.{head-read}
use Rattle.dict_gather.proofs.heads.head.Goals as goal

pub returns-then-value-ge-HEAD : goal.returns-then-value-ge-HEAD
returns-then-value-ge-HEAD c = head-read c.read_u128.result c.args.value.now c.read_u128.ensures
