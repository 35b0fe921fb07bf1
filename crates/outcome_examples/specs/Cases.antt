-- What is found of a workload with an output behind it, and the cases of the examples.
use Rattle.std.specs.Prelude.{◌≡◌, ℕ, List, ◌++◌, map, codes, Option, None, Some, Result, Ok, Err}
use Rattle.workload_spec.specs.Grammar.{Fault, checked_of}
use Rattle.outcome_spec.specs.Explained.{failing_line}

-- a workload, an output, and the line at which the output fails to be explained, if it does
pub record Case : Type 0 where
  pub workload : List ℕ
  pub output : List ℕ
  pub line : Option ℕ

-- the output of these lines behind a head is explained, or fails at a line
abbrev pub explained : List ℕ → List ℕ → List ℕ → Case
explained head lines output = record { workload = head ++ lines; output = output; line = None }

abbrev pub fails_at : ℕ → List ℕ → List ℕ → List ℕ → Case
fails_at number head lines output = record {
  workload = head ++ lines;
  output = output;
  line = Some number;
}

-- what is found: the workload's fault, or the output's line
abbrev pub judged : List ℕ → Result (Option ℕ) Fault
judged text = elim (checked_of text)
    [ Ok checked ↦ Ok (failing_line checked.0 checked.1) | Err fault ↦ Err fault ]

-- Each case is judged as it says.
abbrev pub AreJudged : List Case → Type 0
AreJudged cases = map (λ case. judged (case.workload ++ codes "====\n" ++ case.output)) cases
    ≡ map (λ case. Ok case.line) cases

-- heads of workloads
abbrev pub keys : List ℕ
keys = codes "store 1\ntable a key:i64 slots 8 blocks 2\nsessions 2\nworkers 0 0\ngo\n"

abbrev pub nullable_texts : List ℕ
nullable_texts = codes "store 1\ntable a key:i64 v:utf8? slots 8 blocks 2\nsessions 2\nworkers 0 0\ngo\n"

abbrev pub one_worker : List ℕ
one_worker = codes "store 1\ntable a key:i64 slots 8 blocks 1\ntable b key:i64 slots 8 blocks 1\nsessions 1\nworkers 1 1\ngo\n"

abbrev pub two_tables : List ℕ
two_tables = codes "store 1\ntable a key:i64 slots 8 blocks 1\ntable b key:i64 slots 8 blocks 1\nsessions 2\nworkers 0 0\ngo\n"

abbrev pub blobs : List ℕ
blobs = codes "store 1\ntable a key:i64 v:binary slots 8 blocks 2\nsessions 2\nworkers 0 0\ngo\n"

abbrev pub three_sessions : List ℕ
three_sessions = codes "store 1\ntable a key:i64 slots 8 blocks 2\nsessions 3\nworkers 0 0\ngo\n"

abbrev pub truths : List ℕ
truths = codes "store 1\ntable a key:i64 v:bool slots 8 blocks 2\nsessions 2\nworkers 0 0\ngo\n"

abbrev pub one_block : List ℕ
one_block = codes "store 1\ntable a key:i64 slots 8 blocks 1\nsessions 2\nworkers 0 0\ngo\n"

abbrev pub small_integers : List ℕ
small_integers = codes "store 1\ntable a key:i64 v:i8 slots 8 blocks 2\nsessions 2\nworkers 0 0\ngo\n"

abbrev pub two_turns : List ℕ
two_turns = codes "store 1\ntable a key:i64 slots 8 blocks 1\ntable b key:i64 slots 8 blocks 1\nsessions 1\nworkers 1 2\ngo\n"

abbrev pub texts : List ℕ
texts = codes "store 1\ntable a key:i64 v:utf8 slots 8 blocks 2\nsessions 2\nworkers 0 0\ngo\n"

abbrev pub large_integers : List ℕ
large_integers = codes "store 1\ntable a key:i64 v:u64 slots 8 blocks 2\nsessions 2\nworkers 0 0\ngo\n"

abbrev pub bytes : List ℕ
bytes = codes "store 1\ntable a key:i64 v:u8 slots 8 blocks 2\nsessions 2\nworkers 0 0\ngo\n"

abbrev pub three_idle_workers : List ℕ
three_idle_workers = codes "store 1\ntable a key:i64 slots 8 blocks 1\ntable b key:i64 slots 8 blocks 1\nsessions 1\nworkers 3 0\ngo\n"

abbrev pub two_workers : List ℕ
two_workers = codes "store 1\ntable a key:i64 slots 8 blocks 1\ntable b key:i64 slots 8 blocks 1\nsessions 1\nworkers 2 1\ngo\n"
