use Rattle.std.proofs.Common.{◌≡◌, ap, subst, ◌∙◌}
use Rattle.std.specs.Prelude.{slice_index}
use Rattle.std.specs.Slots.{slots_items}
use Rattle.hall_rule.specs.HallInvariant.{block_word}
use Rattle.hall_steps.proofs.Closing.{found_at}
use Rattle.hall_steps.proofs.closed.Closed.word.Goals as goal

pub returns : goal.returns
returns g c =
    let words = slots_items c.self.inside.table.words in
    subst (λ w. c.word.result ≡ slice_index w.words (block_word c.args.part)) c.self.view_is (found_at words c.block_word.result c.word.result c.word.ensures ∙ ap (slice_index words) c.block_word.ensures)
