use Rattle.std.proofs.Common.{ℤ, ◌%◌, List, ◌∷◌, ◌++◌, rules, ◌∙◌, sym, ap}
use Rattle.std.specs.Prelude.{FitsSigned, Option}
use Rattle.std.specs.List.{flat_map}
use Rattle.std.specs.Int.{w64, cast_signed, cast_unsigned, to_le_bytes}
use Rattle.std.proofs.lemmas.Int.{to_z-of_z}
use Rattle.cell_model.specs.declared.cell.Cell.{Cell}
use Rattle.log_spec.specs.LogText.{cell_text, left_text}
use Rattle.log_records.proofs.Written.{put_left}
use Rattle.log_records.proofs.writing.put_write.Goals as goal

pub returns-in_ok-put_cells-in-Some : goal.returns-in_ok-put_cells-in-Some
returns-in_ok-put_cells-in-Some c =
    let write = c.args.write.now in
    let old = c.args.bytes.now.items in
    let table = write.0.table % 256 in
    let fits : FitsSigned w64 write.0.key = search rules in
    put_left old c.push.new.self.items c.put_key.new.bytes.items c.push-in-Some.new.self.items c.put_cells.new.bytes.items
    (to_le_bytes w64 (cast_unsigned w64 (cast_signed w64 (cast_unsigned w64 write.0.key)))) (flat_map cell_text c.attributes.result.now) table
    c.in_ok-push.ensures.items c.in_ok-put_key.ensures c.in_ok-push-in-Some.ensures.items c.in_ok-put_cells-in-Some.ensures
    ∙ ap (λ (n : ℤ). old ++ (table ∷ (to_le_bytes w64 (cast_unsigned w64 n) ++ (1 ∷ flat_map cell_text c.attributes.result.now)))) (to_z-of_z w64 write.0.key fits)
    ∙ ap (λ (l : List Cell). old ++ (table ∷ (to_le_bytes w64 (cast_unsigned w64 write.0.key) ++ (1 ∷ flat_map cell_text l)))) c.attributes.ensures
    ∙ ap (λ (o : Option (List Cell)). old ++ (table ∷ (to_le_bytes w64 (cast_unsigned w64 write.0.key) ++ left_text o))) (sym c.in-Some.is)
