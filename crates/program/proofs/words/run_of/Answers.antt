use Rattle.std.proofs.Common.{◌∙◌, ap₂, codes, Some, Option}
use Rattle.clap.specs.Words.{Text, found_of}
use Rattle.clap.proofs.WalkLemmas.{first_value-rows}
use Rattle.program.specs.Words.{ToRun}
use Rattle.program.proofs.words.run_of.Goals as goal

pub returns-clause-asked : goal.returns-clause-asked
returns-clause-asked c =
    ap₂ (λ (e l : Option Text). Some (ToRun e l))
    (c.get_str.ensures ∙ first_value-rows (found_of c.args.matches.now) (codes "export"))
    (c.get_str-2.ensures ∙ first_value-rows (found_of c.args.matches.now) (codes "log"))
