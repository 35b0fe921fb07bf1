use Rattle.std.proofs.Common.{◌≡◌, ◌++◌, drop, flat_map}
use Rattle.log_text.specs.Lines.{write_words}
use Rattle.word_text.specs.Words.{behind_spaces}
use Rattle.log_text.proofs.lines.put_writes.Given as goal

-- the writes so far, and then those that are left
abbrev pub invariant-loop-write : goal.invariant-loop-write
invariant-loop-write l = l.out.items
    ++ behind_spaces (flat_map (write_words l.tables) (drop l.write-index l.writes))
    ≡ l.initial.out.items ++ behind_spaces (flat_map (write_words l.tables) l.writes)
