use Rattle.std.proofs.Common.{ℕ, sym, ◌∙◌, arith}
use Rattle.workload_spec.specs.Reading.{natural_of}
use Rattle.workload_spec.specs.Valid.{is_block_of}
use Rattle.script_text.proofs.Blocks.{no_block}
use Rattle.script_text.proofs.commands.block_in.Goals as goal

pub returns-in_default-2 : goal.returns-in_default-2
returns-in_default-2 c = λ make.
    rw (c.in_ok-name.ensures, c.in_ok-block_word.ensures, c.in_ok-no_word.ensures, c.in_ok-table.ensures)
    (no_block (λ (block : ℕ). make c.in_ok-table.table block) (λ (block : ℕ). is_block_of c.args.tables.now c.in_ok-table.table block) (natural_of c.in_ok-block_word.block_word.now) c.blocks_at-blocks.result (omega arith)
    c.blocks_at-blocks.ensures (sym c.natural.ensures ∙ c.in_default.is))
