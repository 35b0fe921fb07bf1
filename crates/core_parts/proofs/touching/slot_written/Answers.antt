use Rattle.std.proofs.Common.{◌≡◌, ◌∙◌, ℕ, [], ap, subst, sym}
use Rattle.std.specs.Int.{w64}
use Rattle.std.specs.Option.{option_copied, option_map_or}
use Rattle.std.proofs.lemmas.Int.{to_z-of_z}
use Rattle.isolation_spec.specs.Contents.{PlaceMap, at_place, place_at}
use Rattle.isolation_spec.specs.declared.place.Place.{Place}
use Rattle.core_parts.proofs.touching.slot_written.Goals as goal

pub returns-in_err-writes : goal.returns-in_err-writes
returns-in_err-writes c = c.from_residual.ensures
    ∙ ap (λ (entries : PlaceMap ℕ). at_place entries (place_at c.args.table c.args.key)) (sym (ap (λ o. option_map_or (λ writes. writes.now) o []) (c.in_err-writes.was {u = tt})))

pub returns : goal.returns
returns c =
    let found = subst (λ (place : Place). option_copied c.get.result ≡ at_place c.by_row.result.now.entries place)
    (ap (place_at c.args.table) (to_z-of_z w64 c.args.key c.ranges.key)) c.get.ensures.value in
    let handed = ap (λ o. option_map_or (λ writes. writes.now) o []) (c.in_ok-writes.was {u = tt}) in
    c.copied.ensures ∙ found
    ∙ ap (λ (entries : PlaceMap ℕ). at_place entries (place_at c.args.table c.args.key)) (c.by_row.ensures ∙ sym handed)
