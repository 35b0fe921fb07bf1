use Rattle.std.proofs.Common.{◌≡◌, ◌+◌, ◌<◌, Some, length, ap, ◌∙◌, arith, subst, get_or, ℕ, List, length}
use Rattle.std.specs.Prelude.{slice_get}
use Rattle.core_parts.proofs.Numbering.{body_number, start_there, got_is, got_within}
use Rattle.core_parts.specs.Numbers.{AreNumbers}
use Rattle.event_spec.specs.Lawful.{HasBlock}
use Rattle.event_spec.specs.Parts.{Shape, BodyOf, names}
use Rattle.core_parts.proofs.shape.Shape.body.Goals as goal

-- what the table's first number tells
told : (sh : Shape) (bodies : List ℕ) (desk t b : ℕ) → AreNumbers sh.tables bodies desk → HasBlock sh t b → (slice_get (names sh) (get_or bodies t 0 + b) ≡ Some (BodyOf t b)) × (get_or bodies t 0 + b < desk)
told sh bodies desk t b are has =
    let r = start_there sh bodies desk are t has.0 in body_number sh bodies desk are t b (get_or bodies t 0) has (got_is bodies t r.0 0 r.1)

pub bounds-bodies-table : goal.bounds-bodies-table
bounds-bodies-table c =
    let are = subst (λ (sh : Shape). AreNumbers sh.tables c.self.inside.bodies.items c.self.inside.desk) c.self.view_is c.self.invariant.0 in
    let r = start_there c.args.self.now c.self.inside.bodies.items c.self.inside.desk are c.args.table c.requires.0 in
    let less = got_within c.self.inside.bodies.items c.args.table r.0 r.1 in
    let same = ap (λ (xs : List ℕ). length xs) c.as_slice-bodies.ensures.value in omega (arith, less, same)

pub overflow_add-result : goal.overflow_add-result
overflow_add-result c =
    let are = subst (λ (sh : Shape). AreNumbers sh.tables c.self.inside.bodies.items c.self.inside.desk) c.self.view_is c.self.invariant.0 in
    let less = (told c.args.self.now c.self.inside.bodies.items c.self.inside.desk c.args.table c.args.block are c.requires).1 in
    let same = ap (λ (xs : List ℕ). get_or xs c.args.table 0) c.as_slice-bodies.ensures.value in
    let few = c.self.invariant.0.few in omega (arith, less, same, few)

pub returns : goal.returns
returns c =
    let are = subst (λ (sh : Shape). AreNumbers sh.tables c.self.inside.bodies.items c.self.inside.desk) c.self.view_is c.self.invariant.0 in
    ap (λ (xs : List ℕ). slice_get (names c.args.self.now) (get_or xs c.args.table 0 + c.args.block)) c.as_slice-bodies.ensures.value
    ∙ (told c.args.self.now c.self.inside.bodies.items c.self.inside.desk c.args.table c.args.block are c.requires).0
