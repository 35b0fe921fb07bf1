use Rattle.std.proofs.Common.{rules, ◌≡◌, ◌∙◌, length, ap}
use Rattle.block_body.specs.Frozen.{image_of}
use Rattle.block_body.proofs.Frozen.{whole_long}
use Rattle.block_body.proofs.rows.Rows.freeze_own.Goals as goal

pub of-requires-clause-each : goal.of-requires-clause-each
of-requires-clause-each c =
    let same : c.args.self.now.columns ≡ c.in-Some.columns.columns = search rules in
    whole_long (image_of c.args.self.now.columns c.args.self.now.rows c.args.form) c.requires.whole ∙ ap length same
