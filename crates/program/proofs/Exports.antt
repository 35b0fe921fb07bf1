-- That a workload has an export where its run stops at one.
use Rattle.std.proofs.Common.{◌≡◌, ℕ, Bool, true, false, cond, ◌||◌, ◌==◌, List, [], ◌∷◌, ◌++◌, refl, ap, sym, ◌∙◌}
use Rattle.std.specs.List.{flat_map, list_any}
use Rattle.std.proofs.lemmas.List.Folds.{list_any-append}
use Rattle.std.proofs.lemmas.Bool.{or_left, or_right}
use Rattle.export_spec.specs.Sent.{has_export}
use Rattle.run_laws.specs.Rounds.Fronts.{AreFirstLines, lines_of}
use Rattle.store_rounds.specs.Workloads.{LinesEndAtExport}
use Rattle.workload_spec.specs.Valid.{is_export}
use Rattle.workload_spec.specs.declared.script.Line.{Line}
use Rattle.workload_spec.specs.declared.script.Script.{Script}

-- Whether a line of the workload is an export.
abbrev exports : Line → Bool
exports line = is_export line.command

-- the exports of a workload are those of its rounds
pub rounds_export : (rounds : List (List Line)) → list_any (λ (lines : List Line). list_any (λ (line : Line). is_export line.command) lines) rounds
    ≡ list_any (λ (line : Line). is_export line.command) (flat_map (λ (round : List Line). round) rounds)
rounds_export [] = refl
rounds_export (round ∷ rounds) =
    ap (λ (b : Bool). list_any exports round || b) (rounds_export rounds)
    ∙ sym (list_any-append exports round (flat_map (λ (round : List Line). round) rounds))

-- A true disjunction is true with a second in place that its own second implies.
or_more : (a b c : Bool) → (b ≡ true → c ≡ true) → (a || b) ≡ true → (a || c) ≡ true
or_more true b c more any = refl
or_more false b c more any = more any

-- what one has, all have
any_in_front : {X : Type 0} (test : X → Bool) (front rest : List X) → list_any test front ≡ true → list_any test (front ++ rest) ≡ true
any_in_front test front rest any = list_any-append test front rest ∙ or_left (list_any test front) (list_any test rest) any

-- What one of those behind a front has, one of all has.
any_behind : {X : Type 0} (test : X → Bool) (front rest : List X) → list_any test rest ≡ true → list_any test (front ++ rest) ≡ true
any_behind test front rest any = list_any-append test front rest ∙ or_right (list_any test front) (list_any test rest) any

-- If an export among the kept lines is one of all, it is so with one line more in front.
kept_export : (kept : Bool) (line : Line) (some lines : List Line) → (list_any exports some ≡ true → list_any exports lines ≡ true)
    → list_any exports (cond kept (line ∷ some) some) ≡ true → list_any exports (line ∷ lines) ≡ true
kept_export true line some lines more any = or_more (exports line) (list_any exports some) (list_any exports lines) more any
kept_export false line some lines more any = or_right (exports line) (list_any exports lines) (more any)

-- a round has the exports of each of its sessions
session_exports : (session : ℕ) (lines : List Line) → list_any exports (lines_of session lines) ≡ true → list_any exports lines ≡ true
session_exports session [] any = any
session_exports session (line ∷ lines) any =
    kept_export (line.session == session) line (lines_of session lines) lines (session_exports session lines) any

-- the first lines of a round end at an export: the workload has one
pub export_asked : (script : Script) (whole rest : List (List Line)) (round lines : List Line) (session : ℕ) → script.rounds ≡ whole ++ round ∷ rest
    → AreFirstLines lines round → LinesEndAtExport lines session → has_export script ≡ true
export_asked script whole rest round lines session split first ends =
    let last = or_left (exports ends.last) false ends.asked in
    let own = ap (list_any exports) ends.lines_are ∙ any_behind exports ends.front (ends.last ∷ []) last in
    let behind = first session in
    let all = ap (list_any exports) behind.1 ∙ any_in_front exports (lines_of session lines) behind.0 own in
    let here = or_left (list_any exports round) (list_any (λ (ls : List Line). list_any exports ls) rest) (session_exports session round all) in
    sym (rounds_export script.rounds) ∙ ap (list_any (λ (ls : List Line). list_any exports ls)) split
    ∙ any_behind (λ (ls : List Line). list_any exports ls) whole (round ∷ rest) here
