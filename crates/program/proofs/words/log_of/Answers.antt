use Rattle.std.proofs.Common.{◌∙◌, ap, codes, sym, Bor, List, ℕ, option_map}
use Rattle.clap.specs.Words.{found_of}
use Rattle.clap.proofs.WalkLemmas.{first_value-rows}
use Rattle.program.specs.Words.{ToLog}
use Rattle.program.proofs.words.log_of.Goals as goal

pub returns-in-Some-clause-asked : goal.returns-in-Some-clause-asked
returns-in-Some-clause-asked c =
    ap (option_map ToLog)
    (ap (option_map (λ (s : Bor (List ℕ)). s.now)) (sym c.in-Some.is) ∙ c.get_str.ensures
    ∙ first_value-rows (found_of c.args.matches.now) (codes "path"))

pub returns-in-None-clause-asked : goal.returns-in-None-clause-asked
returns-in-None-clause-asked c =
    ap (option_map ToLog)
    (ap (option_map (λ (s : Bor (List ℕ)). s.now)) (sym c.in-None.is) ∙ c.get_str.ensures
    ∙ first_value-rows (found_of c.args.matches.now) (codes "path"))
