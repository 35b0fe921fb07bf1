use Rattle.std.proofs.Common.{sym, ◌∙◌}
use Rattle.arrow_meta.proofs.ReadLemmas.{vector_inside}
use Rattle.arrow_meta.proofs.fields.elements.Goals as goal

pub returns-in_ok-first-in-Some-clause-inside : goal.returns-in_ok-first-in-Some-clause-inside
returns-in_ok-first-in-Some-clause-inside c =
    vector_inside c.args.bytes.now c.in-Some.place c.args.width c.in_ok-first-in-Some.first c.in_ok-first-in-Some.count (sym c.vector.ensures ∙ c.in_ok-first-in-Some.was)
