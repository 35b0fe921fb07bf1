use Rattle.std.proofs.Common.{rules}
use Rattle.block_body.specs.Frozen.{IsImageOf, image_of}
use Rattle.block_body.proofs.Frozen.{whole_is, whole_rows}
use Rattle.block_body.proofs.body.Body.freeze.Goals as goal

pub freeze_own-requires-clause-whole : goal.freeze_own-requires-clause-whole
freeze_own-requires-clause-whole c =
    let i = c.self.inside in
    whole_rows i.rows i.chains.entries i.phase i.cooling i.rounds i.last c.args.self.now c.args.form c.self.view_is c.requires.whole

pub invariant_of-self-in-Sealed : goal.invariant_of-self-in-Sealed
invariant_of-self-in-Sealed c =
    let i = c.self.inside in
    let frozen : IsImageOf i.rows.columns i.rows.rows (image_of i.rows.columns i.rows.rows c.args.form) =
    whole_is i.rows.columns i.rows.rows c.args.form
    (whole_rows i.rows i.chains.entries i.phase i.cooling i.rounds i.last c.args.self.now c.args.form c.self.view_is c.requires.whole) in
    search rules
