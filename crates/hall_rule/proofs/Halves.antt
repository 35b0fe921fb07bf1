-- The invariant in two halves, which each step keeps one after the other: of the log, the parts and
-- the sessions, and of the words of blocks.
use Rattle.std.proofs.Common.{List, Option}
use Rattle.atomic_table.specs.Table.{State}
use Rattle.hall_rule.specs.HallInvariant.{ClaimsHold, DrainsHold, HallInvariant, Hands, LastingFacts, LawfulLog, OneLog, Owners, PartsAtHome, ReadersCounted, WordsFollow}
use Rattle.hall_rule.specs.Meaning.{Meaning}
use Rattle.hall_rule.specs.declared.view.Entry.{Entry}
use Rattle.hall_rule.specs.declared.view.View.{View}

module _ {P E T F : Type 0} (M : Meaning P E T F) (log : List (Entry E)) where
  pub record PartsHold (owners : Owners) (s : State (Option P) (View E)) : Type 0 where
    pub one_log : OneLog M log owners s
    pub at_home : PartsAtHome M log owners s
    pub lawful : LawfulLog M log owners s
    pub facts : LastingFacts M log s
    pub hands : Hands M log s

  pub record WordsHold (s : State (Option P) (View E)) : Type 0 where
    pub words : WordsFollow M log s
    pub readers : ReadersCounted M s
    pub claims : ClaimsHold M log s
    pub drains : DrainsHold s.views

module _ {P E T F : Type 0} {M : Meaning P E T F} {log : List (Entry E)} {owners : Owners} {s : State (Option P) (View E)} where
  pub parts_of : HallInvariant M log owners s → PartsHold M log owners s
  parts_of held = record { one_log = held.one_log; at_home = held.at_home; lawful = held.lawful; facts = held.facts; hands = held.hands }

  pub words_of : HallInvariant M log owners s → WordsHold M log s
  words_of held = record { words = held.words; readers = held.readers; claims = held.claims; drains = held.drains }

  pub both : PartsHold M log owners s → WordsHold M log s → HallInvariant M log owners s
  both parts words = record { one_log = parts.one_log; at_home = parts.at_home; lawful = parts.lawful; facts = parts.facts; hands = parts.hands; words = words.words; readers = words.readers; claims = words.claims; drains = words.drains }
