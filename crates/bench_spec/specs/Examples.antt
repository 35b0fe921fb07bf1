-- Worked examples of generated workloads and of what is counted, as facts.
use Rattle.std.specs.Prelude.{◌≡◌, ℕ, Bool, true, false, List, [], ◌∷◌, ◌++◌, map, codes, length}
use Rattle.std.specs.Prelude.{pos, negsuc, Option, Some, option_map}
use Rattle.std.specs.Result.{result_ok}
use Rattle.workload_spec.specs.ScriptText.{line_text, script_text}
use Rattle.workload_spec.specs.Words.{lines_text}
use Rattle.outcome_spec.specs.Explained.{replies_of}
use Rattle.bench_spec.specs.Draws.{draw}
use Rattle.bench_spec.specs.Generated.{bench_table, generated, number_of, upkeep_round}
use Rattle.bench_spec.specs.Counted.{counted, counts_text, was_refused}
use Rattle.bench_spec.specs.declared.counts.Counts.{Counts}

-- the first draws of a seed
abbrev pub FirstDraws : Type 0
FirstDraws = map (draw 0) (1 ∷ 2 ∷ []) ≡ 167951807 ∷ 218396424 ∷ []

-- the least and the greatest number, and the draw behind it
abbrev pub NumbersOfDraws : Type 0
NumbersOfDraws = map number_of (0 ∷ 1000 ∷ 2000 ∷ 2001 ∷ [])
    ≡ negsuc 999 ∷ pos 0 ∷ pos 1000 ∷ negsuc 999 ∷ []

-- one round of writes, and the last round
abbrev pub workload_text : List ℕ
workload_text = lines_text (
    codes "store 1" ∷ codes "table bench key:i64 n:i64 t:utf8? slots 64 blocks 512" ∷ codes
    "sessions 4" ∷ codes "workers 0 0" ∷ codes "go"
    ∷ codes "1 begin" ∷ codes "1 insert bench 1 874 null" ∷ codes
    "1 update bench 1 -351 \"s823830125\"" ∷ codes "1 commit"
    ∷ codes "2 begin" ∷ codes "2 insert bench 2 -26 null" ∷ codes
    "2 update bench 2 128 \"s959018139\"" ∷ codes "2 commit"
    ∷ codes "3 begin" ∷ codes "3 insert bench 3 840 \"s784246482\"" ∷ codes
    "3 update bench 3 216 null" ∷ codes "3 commit"
    ∷ codes "4 begin" ∷ codes "4 insert bench 4 -154 \"s1102140745\"" ∷ codes
    "4 update bench 4 448 \"s881416483\"" ∷ codes "4 commit"
    ∷ codes "--" ∷ codes "1 begin" ∷ codes "1 scan bench" ∷ codes "1 export bench" ∷ codes
    "1 commit" ∷ [])

abbrev pub OneRoundIsGenerated : Type 0
OneRoundIsGenerated = script_text (generated 0 1) ≡ workload_text

-- how many rounds there are: upkeep stands behind each sixteenth, and one round is the last
abbrev pub RoundsAreGenerated : Type 0
RoundsAreGenerated = map (λ size. length (generated 7 size).rounds) (1 ∷ 15 ∷ 16 ∷ 32 ∷ [])
    ≡ 2 ∷ 16 ∷ 18 ∷ 35 ∷ []

-- the upkeep behind the sixteenth round, whose rows fill one block
abbrev pub UpkeepIsGenerated : Type 0
UpkeepIsGenerated = map (line_text (bench_table ∷ [])) (upkeep_round 16)
    ≡ codes "1 prune" ∷ codes "1 observe" ∷ codes "1 observe" ∷ codes "1 compact bench"
    ∷ codes "1 seal bench 0" ∷ codes "1 gather bench 0" ∷ codes "1 seal bench 1" ∷ codes
    "1 gather bench 1" ∷ []

-- an output of that workload: its last update is answered with this word, and its scan with these
-- lines
abbrev pub output_with : List ℕ → List (List ℕ) → List ℕ
output_with update scan = lines_text (
    codes "1 1 1 at 0" ∷ codes "1 1 2 ok" ∷ codes "1 1 3 ok" ∷ codes "1 1 4 committed 1"
    ∷ codes "1 2 1 at 1" ∷ codes "1 2 2 ok" ∷ codes "1 2 3 ok" ∷ codes "1 2 4 committed 2"
    ∷ codes "1 3 1 at 2" ∷ codes "1 3 2 ok" ∷ codes "1 3 3 ok" ∷ codes "1 3 4 committed 3"
    ∷ codes "1 4 1 at 3" ∷ codes "1 4 2 ok" ∷ (codes "1 4 3 " ++ update) ∷ codes "1 4 4 committed 4"
    ∷ codes "2 1 1 at 4" ∷ (scan ++ codes "2 1 3 export 4 rows 4 batches 1 frozen 0" ∷ codes
    "2 1 4 committed -" ∷ []))

-- the scan of its rows, the last with this number
abbrev pub scan_with : List ℕ → List (List ℕ)
scan_with number = codes "2 1 2 rows 4" ∷ codes "| 1 -351 \"s823830125\"" ∷ codes
    "| 2 128 \"s959018139\"" ∷ codes "| 3 216 null"
    ∷ (codes "| 4 " ++ number ++ codes " \"s881416483\"") ∷ []

-- what is counted of such an output
abbrev pub counts_of : List ℕ → Option Counts
counts_of output = option_map counted (result_ok (replies_of (generated 0 1) output))

abbrev pub RepliesAreCounted : Type 0
RepliesAreCounted = counts_of (output_with (codes "ok") (scan_with (codes "448")))
    ≡ Some (record { commits = 4; rows = 4; sum = pos 441; exported = 4 })

-- an output in which an update or the scan was refused memory, and one in which nothing was
abbrev pub refused : List ℕ → Option Bool
refused output = option_map was_refused (result_ok (replies_of (generated 0 1) output))

abbrev pub RefusalsAreFound : Type 0
RefusalsAreFound = map refused (output_with (codes "ok") (scan_with (codes "448"))
    ∷ output_with (codes "memory") (scan_with (codes "-154")) ∷ output_with (codes "ok")
    (codes "2 1 2 memory" ∷ []) ∷ [])
    ≡ Some false ∷ Some true ∷ Some true ∷ []

abbrev pub CountsAreTold : Type 0
CountsAreTold = counts_text (record { commits = 4; rows = 3; sum = negsuc 20; exported = 2 })
    ≡ codes "commits 4\nrows 3\nsum -21\nexported 2\n"
