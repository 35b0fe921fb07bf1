use Rattle.std.proofs.Common.{◌≡◌, ◌+◌, Some, length, ap, ◌∙◌, sym, subst}
use Rattle.std.specs.Prelude.{slice_get}
use Rattle.core_parts.proofs.Numbering.{desk_at_number, names_length}
use Rattle.event_spec.specs.Parts.{Shape, TheDesk, names}
use Rattle.core_parts.proofs.shape.Shape.desk.Goals as goal

pub returns-clause-number : goal.returns-clause-number
returns-clause-number c = subst (λ (sh : Shape). slice_get (names sh) c.self.inside.desk ≡ Some TheDesk) c.self.view_is
    (ap (slice_get (names (record { tables = c.self.inside.tables.items; passes = c.self.inside.passes; first = c.self.inside.first.value }))) c.self.invariant.0.desk_is ∙ desk_at_number (record { tables = c.self.inside.tables.items; passes = c.self.inside.passes; first = c.self.inside.first.value }))

pub returns-clause-last : goal.returns-clause-last
returns-clause-last c = subst (λ (sh : Shape). length (names sh) ≡ c.self.inside.desk + 1) c.self.view_is
    (names_length (record { tables = c.self.inside.tables.items; passes = c.self.inside.passes; first = c.self.inside.first.value }) ∙ ap (λ n. n + 1) (sym c.self.invariant.0.desk_is))
