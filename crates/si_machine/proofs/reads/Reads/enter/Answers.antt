use mir.Syntax.{w64}
use mir.Val.{of_z, to_z}
use Rattle.std.proofs.Common.{◌≡◌, ◌∙◌, ℤ, List, ap, sym, rules}
use Rattle.std.specs.BTreeSet.{insert_key}
use Rattle.std.proofs.lemmas.Int.{to_z-of_z}
use Rattle.isolation_spec.specs.Contents.{place_at, place_cmp}
use Rattle.isolation_spec.specs.Reads.{ReadSet, with_read}
use Rattle.isolation_spec.specs.declared.place.Place.{Place}
use Rattle.isolation_spec.specs.declared.read.Read.{Read}
use Rattle.si_machine.proofs.reads.Reads.enter.Goals as goal

pub returns-in_ok-insert-in-Key-clause-ok : goal.returns-in_ok-insert-in-Key-clause-ok
returns-in_ok-insert-in-Key-clause-ok c =
    let inside = c.self.inside in
    let before : ReadSet = record { places = inside.places.keys; tables = inside.tables.keys; ranges = inside.ranges.items } in
    let key_is : to_z w64 (of_z w64 c.in-Key.key) ≡ c.in-Key.key = to_z-of_z w64 c.in-Key.key (search rules) in
    ap (λ (places : List Place). record before { places = places })
    (c.in_ok-insert-in-Key.ensures.keys ∙ ap (λ (key : ℤ). insert_key place_cmp inside.places.keys (place_at c.in-Key.table key)) key_is)
    ∙ ap (λ (what : Read). with_read what before) (sym c.in-Key.is)
    ∙ ap (with_read c.args.what) c.self.view_is
