use Rattle.std.proofs.Common.{◌≡◌, ap, ap₂, ◌∙◌, codes}
use Rattle.std.proofs.lemmas.Result.{IfOk-weaker}
use Rattle.clap.specs.Words.{App, app_of, new_app, with_subcommand}
use Rattle.program.specs.Words.{bench_app, log_app, named_app, run_app}
use Rattle.program.proofs.words.command.Goals as goal

pub returns : goal.returns
returns c =
    let first : app_of c.in_ok-subcommand.field-0 ≡ with_subcommand named_app run_app.top =
    c.in_ok-subcommand.ensures.shape c.in_ok-run_command.ensures.plain
    ∙ ap₂ with_subcommand c.named_command.ensures (ap (λ (a : App). a.top) c.in_ok-run_command.ensures.app) in
    let second : app_of c.in_ok-subcommand-2.field-0 ≡ with_subcommand (with_subcommand named_app run_app.top) (new_app (codes "show")).top =
    c.in_ok-subcommand-2.ensures.shape c.new.ensures.local
    ∙ ap₂ with_subcommand first (ap (λ (a : App). a.top) c.new.ensures.app) in
    let third : app_of c.in_ok-subcommand-3.field-0 ≡ with_subcommand (with_subcommand (with_subcommand named_app run_app.top) (new_app (codes "show")).top) (new_app (codes "check")).top =
    c.in_ok-subcommand-3.ensures.shape c.new-2.ensures.local
    ∙ ap₂ with_subcommand second (ap (λ (a : App). a.top) c.new-2.ensures.app) in
    let fourth : app_of c.in_ok-subcommand-4.field-0
    ≡ with_subcommand (with_subcommand (with_subcommand (with_subcommand named_app run_app.top) (new_app (codes "show")).top) (new_app (codes "check")).top) bench_app.top =
    c.in_ok-subcommand-4.ensures.shape c.in_ok-bench_command.ensures.plain
    ∙ ap₂ with_subcommand third (ap (λ (a : App). a.top) c.in_ok-bench_command.ensures.app) in
    let fifth : app_of c.in_ok-subcommand-5.field-0
    ≡ with_subcommand (with_subcommand (with_subcommand (with_subcommand (with_subcommand named_app run_app.top) (new_app (codes "show")).top) (new_app (codes "check")).top) bench_app.top) log_app.top =
    c.in_ok-subcommand-5.ensures.shape c.in_ok-log_command.ensures.plain
    ∙ ap₂ with_subcommand fourth (ap (λ (a : App). a.top) c.in_ok-log_command.ensures.app) in
    IfOk-weaker c.subcommand-6.result _ _
    (λ command adds. adds.shape c.in_ok-help_command.ensures.plain
    ∙ ap₂ with_subcommand fifth (ap (λ (a : App). a.top) c.in_ok-help_command.ensures.app))
    c.subcommand-6.ensures
