-- The lines of a run, share by share, and how they grow.
use Rattle.std.specs.Prelude.{◌≡◌, ℕ, ◌+◌, List, [], ◌∷◌, ◌++◌, map, Option, None, Some, length}
use Rattle.std.specs.List.{enumerate_from, filter_map, flat_map}
use Rattle.cell_model.specs.declared.table.TableDecl.{TableDecl}
use Rattle.workload_spec.specs.ReplyText.{replies_text, reply_text}
use Rattle.workload_spec.specs.declared.reply.ReplyLine.{ReplyLine}
use Rattle.workload_spec.specs.declared.reply.Said.{Said}
use Rattle.workload_spec.specs.declared.reply.Who.{Who}
use Rattle.run_spec.specs.Calls.{Call}
use Rattle.run_spec.specs.Ran.{RoundRun, Share}

-- what calls told; a silent one told nothing
abbrev pub told_by : List Call → List Said
told_by calls = filter_map (λ call. call.told) calls

abbrev pub line_of : ℕ → Who → ℕ → Said → ReplyLine
line_of round who index told =
    record { round = round; who = who; index = index; said = told }

-- The lines of one's calls in a round, counted from 1.
abbrev pub lines_told : ℕ → Who → List Call → List ReplyLine
lines_told round who calls =
    map (λ told. line_of round who told.0 told.1) (enumerate_from 1 (told_by calls))

-- Their text, of a call, of a round, and of rounds from a number on.
abbrev pub share_text : List TableDecl → ℕ → Share → List ℕ
share_text tables round share = replies_text tables (lines_told round share.who share.calls)

abbrev pub round_text : List TableDecl → ℕ → List Share → List ℕ
round_text tables round shares = flat_map (share_text tables round) shares

abbrev pub rounds_text : List TableDecl → ℕ → List RoundRun → List ℕ
rounds_text tables round rounds =
    flat_map (λ entry. round_text tables entry.0 entry.1.shares) (enumerate_from round rounds)

-- One call more of a share: its text grows by the call's line, if it has one.
abbrev pub line_behind : List TableDecl → ℕ → Who → List Call → Option Said → List ℕ
line_behind tables round who calls None = []
line_behind tables round who calls (Some told) =
    reply_text tables (line_of round who (1 + length (told_by calls)) told)

abbrev pub SharesGrow : Type 0
SharesGrow = (tables : List TableDecl) (round : ℕ) (who : Who) (calls : List Call) (call : Call)
    → share_text tables round (record { who = who; calls = calls ++ call ∷ [] })
    ≡ share_text tables round (record { who = who; calls = calls })
    ++ line_behind tables round who calls call.told

-- One round more: the text grows by the round's.
abbrev pub RoundsGrow : Type 0
RoundsGrow = (tables : List TableDecl) (number : ℕ) (rounds : List RoundRun) (round : RoundRun)
    → rounds_text tables number (rounds ++ round ∷ [])
    ≡ rounds_text tables number rounds
    ++ round_text tables (number + length rounds) round.shares
