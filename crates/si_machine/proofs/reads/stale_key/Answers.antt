use mir.Syntax.{w64}
use mir.Val.{of_z, to_z}
use Rattle.std.proofs.Common.{◌≡◌, ◌∙◌, ℕ, ℤ, List, map, Option, None, ap, sym, rules}
use Rattle.std.specs.Prelude.{option_map}
use Rattle.std.specs.Option.{option_or}
use Rattle.std.proofs.lemmas.Int.{to_z-of_z}
use Rattle.isolation_spec.specs.Contents.{History}
use Rattle.isolation_spec.specs.Reads.{first_stale, last_meeting}
use Rattle.isolation_spec.specs.declared.place.Place.{Place}
use Rattle.isolation_spec.specs.declared.read.Read.{Read}
use Rattle.isolation_spec.specs.declared.read.Read.TheVariants as read
use Rattle.si_machine.specs.Kept.{history_in}
use Rattle.si_machine.proofs.reads.stale_key.Goals as goal

-- the read of a place's key
abbrev key_of : Place → Read
key_of place = read.Key place.table place.key

pub loop-place-preserved : goal.loop-place-preserved
loop-place-preserved c =
    let history : History = history_in c.args.commits.now in
    let place : Place = c.in-Some.place.now in
    let last_of = last_meeting history c.args.snapshot in
    let key_is : to_z w64 (of_z w64 place.key) ≡ place.key = to_z-of_z w64 place.key (search rules) in
    let none : last_of (key_of place) ≡ None =
    ap (λ (key : ℤ). last_of (read.Key place.table key)) (sym key_is) ∙ sym c.last_meeting.ensures ∙ c.in_default.is in
    ap (λ (found : Option ℕ). option_or (option_map (λ (number : ℕ). (key_of place, number)) found) (first_stale last_of (map key_of c.next.new.self))) (sym none)
    ∙ ap (λ (places : List Place). first_stale last_of (map key_of places)) (sym c.in-Some.ensures.steps)
    ∙ c.loop-place.invariant
