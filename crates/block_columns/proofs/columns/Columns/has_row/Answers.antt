use Rattle.std.proofs.Common.{◌≡◌, true, false, ◌∙◌, sym, get_or, arith}
use Rattle.std.proofs.lemmas.List.{get_or_past}
use Rattle.std.proofs.lemmas.Option.{get_or_from_slice_get}
use Rattle.std.proofs.lemmas.Bool.Decides.{nat_tests}
use Rattle.block_columns.proofs.Rowed.{row_here, row_bit}
use Rattle.block_columns.proofs.columns.Columns.has_row.Goals as goal

pub returns-then-at-len : goal.returns-then-at-len
returns-then-at-len c =
    let bit : get_or c.self.inside.taken c.args.slot false ≡ c.get.result = get_or_from_slice_get c.self.inside.taken c.args.slot c.get.result false c.get.ensures in (
      (λ h. row_bit c.self.inside.taken c.self.inside.columns.items c.self.inside.slots c.args.slot c.args.self.now c.self.view_is c.self.invariant (bit ∙ h)),
      (λ h. sym bit ∙ (row_here c.self.inside.taken c.self.inside.columns.items c.self.inside.slots c.args.slot c.args.self.now c.self.view_is c.self.invariant h).0),
    )

pub returns-else-at-len : goal.returns-else-at-len
returns-else-at-len c =
    let past : get_or c.self.inside.taken c.args.slot false ≡ false = get_or_past c.self.inside.taken c.args.slot false (omega (arith, c.len.ensures, c.if-at-len.false)) in (
      (λ h. absurd (grind (arith, nat_tests))),
      (λ h. let no : false ≡ true = sym past ∙ (row_here c.self.inside.taken c.self.inside.columns.items c.self.inside.slots c.args.slot c.args.self.now c.self.view_is c.self.invariant h).0 in cc),
    )
