use Rattle.dict_gather.proofs.HeadLemmas.{fits-bytes, heads-decide, heads-same}
use Rattle.dict_gather.proofs.heads.compare.Goals as goal

pub compare_level-requires : goal.compare_level-requires
compare_level-requires c = heads-same c.args.first.now c.args.second.now c.args.heads c.requires c.in-Equal.is

pub returns-in_default : goal.returns-in_default
returns-in_default c =
    heads-decide c.args.first.now c.args.second.now c.args.heads (fits-bytes c.args.first.now c.type_inv.first) (fits-bytes c.args.second.now c.type_inv.second)
    c.requires c.in_default.not-Equal
