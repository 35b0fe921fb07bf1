-- How far an output was read, and what is read from there on.
use Rattle.std.specs.Prelude.{ℕ, ◌+◌, ◌^◌, ◌<◌, ◌≤◌, ◌≡◌, Bool, true, ◌&&◌, ◌==◌, List, ◌++◌}
use Rattle.std.specs.Prelude.{length, count_by, Result, Ok, Err}
use Rattle.workload_spec.specs.declared.reply.Who.{Who}
use Rattle.outcome_spec.specs.Entries.{Entry, is_same}
use Rattle.outcome_spec.specs.Lines.{lines_of}
use Rattle.outcome_spec.specs.Forms.{Due, next_line, reading}
use Rattle.output_read.specs.declared.fault.ReadFault.{ReadFault}
use Rattle.output_read.specs.declared.fault.ReadFault.TheVariants as fault
use Rattle.output_read.specs.declared.reader.Reader.{Reader}
use Rattle.output_read.specs.Kept.{entries_of, are_told}
use Rattle.output_read.specs.Turns.{begins_anew}

-- the replies that were read
abbrev pub read_by : Reader → List Entry
read_by reader = entries_of reader.replies.items

-- the lines that are left
abbrev pub lines_left : Reader → List (List ℕ)
lines_left reader = lines_of reader.rest.now

-- what these dues read from here on
abbrev pub reads : Reader → List Due → Result (List Entry) ℕ
reads reader dues = reading reader.tables.now dues (read_by reader) (lines_left reader)

-- The next line is behind those of the replies that were read.
pub record IsReading (reader : Reader) : Type 0 where
  pub line : reader.line ≡ next_line reader.tables.now (read_by reader)
  pub told : are_told reader.replies.items ≡ true
  pub room : reader.line + length reader.rest.now ≤ 2 ^ 32
  pub few : length reader.replies.items < reader.line

-- What was due was read: from here on the rest is read as from there with it, if the rest begins
-- anew.
abbrev pub Passes : Reader → Reader → List Due → Type 0
Passes old new passed = (dues : List Due) → begins_anew dues ≡ true → reads old (passed ++ dues)
    ≡ reads new dues

-- the same, whatever the rest
abbrev pub PassesAll : Reader → Reader → List Due → Type 0
PassesAll old new passed = (dues : List Due) → reads old (passed ++ dues) ≡ reads new dues

abbrev pub FailsAll : Reader → List Due → ℕ → Type 0
FailsAll old passed line = (dues : List Due) → reads old (passed ++ dues) ≡ Err line

-- With these dues it fails at this line.
abbrev pub FailsAt : Reader → List Due → ℕ → Type 0
FailsAt old passed line = (dues : List Due) → begins_anew dues ≡ true → reads old (passed ++ dues)
    ≡ Err line

-- the answer names a line, and this holds of it
abbrev pub OnLine : {X : Type 0} → Result X ReadFault → (ℕ → Type 0) → Type 0
OnLine (Ok value) fact = Unit {0}
OnLine (Err (fault.Line line)) fact = fact line
OnLine (Err (fault.Memory refused)) fact = Unit {0}

-- the replies of the round to one, and the index of the next
abbrev pub is_of : ℕ → Who → Entry → Bool
is_of round who entry = entry.reply.round == round && is_same entry.reply.who who

abbrev pub next_index : ℕ → Who → List Entry → ℕ
next_index round who entries = 1 + count_by (is_of round who) entries
