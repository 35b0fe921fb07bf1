use Rattle.std.proofs.Common.{◌≡◌, ap, ◌∙◌, sym, codes, cond, true, None, Some, option_map}
use Rattle.std.specs.Option.{option_map_or}
use Rattle.clap.specs.Words.{first_of, found_of, rows_of}
use Rattle.clap.proofs.WalkLemmas.{first_value-rows}
use Rattle.program.specs.Words.{ToHelp, is_command}
use Rattle.program.proofs.words.help_of.Goals as goal

pub returns-then-has_help-clause-asked : goal.returns-then-has_help-clause-asked
returns-then-has_help-clause-asked c =
    let read : option_map (λ p. p.now) c.get_str.result ≡ first_of (codes "command") (rows_of (found_of c.args.matches.now)) =
    c.get_str.ensures ∙ first_value-rows (found_of c.args.matches.now) (codes "command") in
    ap (λ b. cond b (Some ToHelp) None) (sym c.if-has_help.true ∙ c.is_command_or_none-has_help.ensures ∙ ap (λ o. option_map_or is_command o true) read)

pub returns-else-has_help-clause-asked : goal.returns-else-has_help-clause-asked
returns-else-has_help-clause-asked c =
    let read : option_map (λ p. p.now) c.get_str.result ≡ first_of (codes "command") (rows_of (found_of c.args.matches.now)) =
    c.get_str.ensures ∙ first_value-rows (found_of c.args.matches.now) (codes "command") in
    ap (λ b. cond b (Some ToHelp) None) (sym c.if-has_help.false ∙ c.is_command_or_none-has_help.ensures ∙ ap (λ o. option_map_or is_command o true) read)
