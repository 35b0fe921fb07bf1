use Rattle.std.proofs.Common.{rules, ◌≡◌, ℕ, ℤ, [], ◌∷◌, ◌++◌, Some, map, option_map, refl, sym, ap, ◌∙◌, to_z, of_z, w64}
use Rattle.std.specs.Prelude.{find}
use Rattle.std.specs.Map.Iter.{deref_pair}
use Rattle.std.proofs.lemmas.List.{map-append}
use Rattle.std.proofs.lemmas.Map.Iter.{iter_end, rest_more, rest_so_far}
use Rattle.isolation_spec.specs.Contents.{PlaceMap}
use Rattle.shared_store.proofs.Maps.{is_of, key_written, least_next, none_next}
use Rattle.shared_store.proofs.writes.Writes.least_key.Goals as goal

pub loop-place-init : goal.loop-place-init
loop-place-init c = refl

pub returns-then-place-table : goal.returns-then-place-table
returns-then-place-table c =
    let all : c.deref.result.now.entries ≡ c.args.self.now = cc in
    let began = c.into_iter-place-iterator.ensures.into_iter_gives ∙ c.iter-place-items.ensures.rest in
    let so_far = rest_so_far deref_pair c.loop-place.yielded c.into_iter-place-iterator.result c.loop-place.place-iterator c.loop-place.yielded_by in
    let more = rest_more deref_pair c.loop-place.place-iterator c.next.new.self c.next.result (c.in-Some.place, c.in-Some.field-0-1) c.in-Some.is c.next.ensures.steps in
    let split : c.args.self.now ≡ map deref_pair c.loop-place.yielded ++ (c.in-Some.place.now, c.in-Some.field-0-1.now) ∷ c.next.new.self =
    sym all ∙ sym began ∙ so_far ∙ ap (λ (rest : PlaceMap ℕ). map deref_pair c.loop-place.yielded ++ rest) more in
    let found = least_next c.args.table (map deref_pair c.loop-place.yielded) c.next.new.self (c.in-Some.place.now, c.in-Some.field-0-1.now) c.loop-place.invariant c.if-place-table.true in
    let key : to_z w64 (of_z w64 c.in-Some.place.now.key) ≡ c.in-Some.place.now.key = search rules in
    ap (λ (k : ℤ). Some k) key ∙ sym found ∙ ap (λ (writes : PlaceMap ℕ). option_map key_written (find (is_of c.args.table) writes)) (sym split)

pub loop-place-preserved : goal.loop-place-preserved
loop-place-preserved c =
    ap (find (is_of c.args.table)) (map-append deref_pair c.loop-place.yielded ((c.in-Some.place, c.in-Some.field-0-1) ∷ []))
    ∙ none_next c.args.table (map deref_pair c.loop-place.yielded) (c.in-Some.place.now, c.in-Some.field-0-1.now) c.loop-place.invariant c.if-place-table.false

pub returns : goal.returns
returns c =
    let all : c.deref.result.now.entries ≡ c.args.self.now = cc in
    let whole = iter_end deref_pair c.deref.result.now.entries c.loop-place.yielded c.into_iter-place-iterator.result c.loop-place.place-iterator c.next.new.self c.next.result
    (c.into_iter-place-iterator.ensures.into_iter_gives ∙ c.iter-place-items.ensures.rest) c.loop-place.yielded_by c.in-None.is c.next.ensures.steps in
    ap (option_map key_written) (sym (ap (find (is_of c.args.table)) (sym (whole.0 ∙ all)) ∙ c.loop-place.invariant))
