use Rattle.std.proofs.Common.{rules}
use Rattle.dict_trials.proofs.streams.by_dictionaries.Goals as goal

pub gather_dict-requires : goal.gather_dict-requires
gather_dict-requires g c = (search rules, (c.args.schema.now, (c.args.rows.now, c.in_ok-batch.ensures)))
