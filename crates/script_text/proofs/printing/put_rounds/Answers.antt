use Rattle.std.proofs.Common.{◌≡◌, ◌++◌, ◌-◌, length, take, drop, arith, sym, ap, ◌∙◌, map, append_assoc}
use Rattle.std.proofs.lemmas.List.{take_all, length-drop}
use Rattle.std.proofs.lemmas.Result.{IfOk-equal}
use Rattle.workload_spec.specs.Words.{lines_text}
use Rattle.workload_spec.specs.ScriptText.{line_text}
use Rattle.script_text.specs.Rounds.{rounds_behind}
use Rattle.script_text.proofs.Spaces.{rounds_split}
use Rattle.script_text.proofs.printing.put_rounds.Goals as goal

pub returns-in_ok-put_lines-in-len1-up : goal.returns-in_ok-put_lines-in-len1-up
returns-in_ok-put_lines-in-len1-up c =
    let rounds = c.args.rounds.now in
    let tables = c.args.tables.now in
    let others : take (length rounds - 1) (drop 1 rounds) ≡ drop 1 rounds = take_all (length rounds - 1) (drop 1 rounds) (omega (arith, length-drop 1 rounds)) in
    let parts = rounds_split tables rounds c.first-item.result (take (length rounds - 1) (drop 1 rounds)) (omega arith) c.first-item.is others in
    let put = c.in_ok-put_lines-in-len1-up.ensures in
    let slice = c.as_slice.ensures in
    IfOk-equal c.put_further_rounds.result _ _ _ c.put_further_rounds.ensures
    (rw (put, slice) (append_assoc c.args.out.now.items (lines_text (map (line_text tables) c.first-item.result)) (rounds_behind tables (take (length rounds - 1) (drop 1 rounds))) ∙ ap (λ text. c.args.out.now.items ++ text) (sym parts)))
