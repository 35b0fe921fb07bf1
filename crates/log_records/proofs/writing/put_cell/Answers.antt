use Rattle.std.proofs.Common.{ℤ, ◌∷◌, rules, ◌∙◌, sym, ap}
use Rattle.std.specs.Prelude.{FitsSigned}
use Rattle.std.specs.Int.{w128, cast_signed, cast_unsigned, to_le_bytes}
use Rattle.std.proofs.lemmas.Int.{to_z-of_z}
use Rattle.cell_model.specs.declared.cell.Cell.{Cell}
use Rattle.log_spec.specs.LogText.{cell_text}
use Rattle.log_records.proofs.Written.{put_behind}
use Rattle.log_records.proofs.writing.put_cell.Goals as goal

pub returns-in_ok-push-in-Num : goal.returns-in_ok-push-in-Num
returns-in_ok-push-in-Num c =
    let fits : FitsSigned w128 c.in-Num.number = search rules in
    put_behind c.put_number.result c.put_number.new.bytes.items c.args.bytes.now.items c.push-in-Num.new.self.items
    (to_le_bytes w128 (cast_unsigned w128 (cast_signed w128 (cast_unsigned w128 c.in-Num.number)))) (cell_text c.args.cell.now) 1 c.put_number.ensures
    c.in_ok-push-in-Num.ensures.items
    (ap (λ (n : ℤ). 1 ∷ to_le_bytes w128 (cast_unsigned w128 n)) (to_z-of_z w128 c.in-Num.number fits) ∙ ap (λ (x : Cell). cell_text x) (sym c.in-Num.is))
