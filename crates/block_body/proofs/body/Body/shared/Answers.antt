use Rattle.std.proofs.Common.{List, Option, sym, subst}
use Rattle.std.specs.Prelude.{IfSome}
use Rattle.block_spec.specs.Slots.{Row}
use Rattle.block_columns.specs.Images.{ImageValue}
use Rattle.block_body.specs.Chains.{entries_at}
use Rattle.block_body.specs.Frozen.{IsImageOf}
use Rattle.block_body.proofs.Slots.{slots-rows}
use Rattle.block_body.proofs.body.Body.shared.Goals as goal

pub returns-in_ok-share-in-Some-clause-image : goal.returns-in_ok-share-in-Some-clause-image
returns-in_ok-share-in-Some-clause-image c =
    let i = c.self.inside in
    let held : IsImageOf i.rows.columns i.rows.rows c.in-Some.shared.now =
    subst (λ (o : Option ImageValue). IfSome o (IsImageOf i.rows.columns i.rows.rows)) (sym c.in-Some.ensures) c.self.invariant.frozen in
    let given : IsImageOf i.rows.columns i.rows.rows c.in_ok-share-in-Some.field-0 =
    subst (IsImageOf i.rows.columns i.rows.rows) (sym c.in_ok-share-in-Some.ensures) held in
    rw (← c.self.view_is)
    (subst (λ (l : List (Option Row)). IsImageOf i.rows.columns l c.in_ok-share-in-Some.field-0) (sym (slots-rows (entries_at i.chains.entries) 0 i.rows.rows)) given)
