use Rattle.std.proofs.Common.{true, ap, ◌∙◌}
use Rattle.clap.specs.Simple.{Shape, app_of_fields, on_top}
use Rattle.program.proofs.words.named_command.Goals as goal

pub returns : goal.returns
returns c =
    ap app_of_fields c.disable_help_subcommand.ensures
    ∙ ap (λ fields. app_of_fields (record fields { disable_help_subcommand = true })) c.version.ensures
    ∙ ap (on_top (λ (top : Shape). record top { has_version = true; disable_help_subcommand = true })) c.new.ensures.app
