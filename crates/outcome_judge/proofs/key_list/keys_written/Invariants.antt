use Rattle.std.proofs.Common.{◌≡◌, filter_map, map, take}
use Rattle.output_read.specs.Kept.{entry_of}
use Rattle.outcome_judge.specs.HistoryKept.{place_in}
use Rattle.outcome_judge.specs.Written.{written_by}
use Rattle.outcome_judge.proofs.key_list.keys_written.Given as goal

abbrev pub invariant-loop-reply : goal.invariant-loop-reply
invariant-loop-reply l = map place_in l.keys.items ≡ filter_map written_by (map entry_of (take l.reply-index l.replies))
