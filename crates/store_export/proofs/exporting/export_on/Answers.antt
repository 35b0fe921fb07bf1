use Rattle.store_export.proofs.exporting.export_on.Goals as goal

pub returns-clause-exports : goal.returns-clause-exports
returns-clause-exports g c = c.export.ensures.exports.exports
