use Rattle.std.proofs.Common.{◌≡◌, ◌∙◌, ℕ, None, Option, Some, ap, subst}
use Rattle.std.specs.Int.{w64}
use Rattle.std.proofs.lemmas.Int.{to_z-of_z}
use Rattle.event_spec.specs.Replies.{is_elsewhere}
use Rattle.isolation_spec.specs.Contents.{PlaceMap, at_place, place_at}
use Rattle.isolation_spec.specs.declared.place.Place.{Place}
use Rattle.core_events.proofs.reading.is_elsewhere.Goals as goal

pub returns-in-Some : goal.returns-in-Some
returns-in-Some c =
    let found = subst (λ (place : Place). Some c.in-Some.other.now ≡ at_place c.by_row.result.now.entries place)
    (ap (place_at c.args.table) (to_z-of_z w64 c.args.key c.ranges.key)) c.in-Some.ensures.value in
    c.ne.ensures
    ∙ ap (λ (o : Option ℕ). is_elsewhere o c.args.place)
    (found ∙ ap (λ (entries : PlaceMap ℕ). at_place entries (place_at c.args.table c.args.key)) c.by_row.ensures)

pub returns-in-None : goal.returns-in-None
returns-in-None c =
    let found = subst (λ (place : Place). None ≡ at_place c.by_row.result.now.entries place)
    (ap (place_at c.args.table) (to_z-of_z w64 c.args.key c.ranges.key)) c.in-None.ensures.value in
    ap (λ (o : Option ℕ). is_elsewhere o c.args.place)
    (found ∙ ap (λ (entries : PlaceMap ℕ). at_place entries (place_at c.args.table c.args.key)) c.by_row.ensures)
