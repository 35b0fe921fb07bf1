use Rattle.std.proofs.Common.{◌≡◌, ◌+◌, ℕ, ℤ, List, Some, drop, length, map, rules, of_z, to_z, w64, sym, ap, ◌∙◌}
use Rattle.std.proofs.Math.Facts.{to_z-of_z}
use Rattle.std.proofs.lemmas.List.{length_push}
use Rattle.std.proofs.lemmas.Map.Iter.{iter_turn}
use Rattle.std.proofs.lemmas.Map.Views.{All-turn}
use Rattle.std.specs.Map.Iter.{deref}
use Rattle.core_events.proofs.Judging.{drop_at, first_behind, first_is, key_told}
use Rattle.core_events.specs.Candidates.{candidates_in}
use Rattle.core_events.specs.Stale.{HasGot, key_read, newest_at}
use Rattle.isolation_spec.specs.declared.place.Place.{Place}
use Rattle.isolation_spec.specs.declared.read.Read.TheVariants as read
use Rattle.isolation_spec.specs.Reads.{first_stale}
use Rattle.core_events.proofs.stale.stale_key.Goals as goal

pub returns-in-Some-newest : goal.returns-in-Some-newest
returns-in-Some-newest c = λ s agrees.
    let key : to_z w64 (of_z w64 c.in-Some.place.now.key) ≡ c.in-Some.place.now.key = to_z-of_z {w = w64} (search rules) in
    let start = c.into_iter-place-iterator.ensures.into_iter_gives ∙ c.iter-place-items.ensures.rest ∙ c.places.ensures in
    let turn = iter_turn deref c.args.reads.now.places c.loop-place.yielded c.into_iter-place-iterator.result c.loop-place.place-iterator c.next.new.self c.next.result start c.loop-place.yielded_by c.in-Some.place c.in-Some.is c.next.ensures.steps in
    let has = All-turn deref (HasGot c.args.shape.now c.args.held.now) c.args.reads.now.places c.loop-place.yielded c.into_iter-place-iterator.result c.loop-place.place-iterator c.next.new.self c.next.result c.in-Some.place c.requires start c.loop-place.yielded_by c.in-Some.is c.next.ensures.steps in
    let told = key_told c.args.shape.now c.args.held.now s c.args.snapshot c.in-Some.place.now has agrees c.candidates-places.result.now
    (c.candidates-places.ensures ∙ ap (candidates_in c.args.shape.now c.args.held.now c.in-Some.place.now.table) key) c.newest_among-newest.result (c.newest_among-newest.ensures s agrees) in
    ap (λ (k : ℤ). Some (read.Key c.in-Some.place.now.table k, c.in-Some-newest.number)) key
    ∙ sym (first_is (newest_at c.args.shape.now s c.args.snapshot) (key_read c.in-Some.place.now) (map key_read (drop (length c.loop-place.yielded + 1) c.args.reads.now.places)) c.in-Some-newest.number (told ∙ c.in-Some-newest.is))
    ∙ ap (λ (ps : List Place). first_stale (newest_at c.args.shape.now s c.args.snapshot) (map key_read ps)) (sym (drop_at c.args.reads.now.places (length c.loop-place.yielded) c.in-Some.place.now turn.1))
    ∙ c.loop-place.invariant s agrees

pub loop-place-preserved : goal.loop-place-preserved
loop-place-preserved c = λ s agrees.
    let key : to_z w64 (of_z w64 c.in-Some.place.now.key) ≡ c.in-Some.place.now.key = to_z-of_z {w = w64} (search rules) in
    let start = c.into_iter-place-iterator.ensures.into_iter_gives ∙ c.iter-place-items.ensures.rest ∙ c.places.ensures in
    let turn = iter_turn deref c.args.reads.now.places c.loop-place.yielded c.into_iter-place-iterator.result c.loop-place.place-iterator c.next.new.self c.next.result start c.loop-place.yielded_by c.in-Some.place c.in-Some.is c.next.ensures.steps in
    let has = All-turn deref (HasGot c.args.shape.now c.args.held.now) c.args.reads.now.places c.loop-place.yielded c.into_iter-place-iterator.result c.loop-place.place-iterator c.next.new.self c.next.result c.in-Some.place c.requires start c.loop-place.yielded_by c.in-Some.is c.next.ensures.steps in
    let told = key_told c.args.shape.now c.args.held.now s c.args.snapshot c.in-Some.place.now has agrees c.candidates-places.result.now
    (c.candidates-places.ensures ∙ ap (candidates_in c.args.shape.now c.args.held.now c.in-Some.place.now.table) key) c.newest_among-newest.result (c.newest_among-newest.ensures s agrees) in
    let rest : List Place = drop (length c.loop-place.yielded + 1) c.args.reads.now.places in
    ap (λ (n : ℕ). first_stale (newest_at c.args.shape.now s c.args.snapshot) (map key_read (drop n c.args.reads.now.places))) (length_push c.loop-place.yielded c.in-Some.place)
    ∙ sym (first_behind (newest_at c.args.shape.now s c.args.snapshot) (key_read c.in-Some.place.now) (map key_read rest) (told ∙ c.in_default.is))
    ∙ ap (λ (ps : List Place). first_stale (newest_at c.args.shape.now s c.args.snapshot) (map key_read ps)) (sym (drop_at c.args.reads.now.places (length c.loop-place.yielded) c.in-Some.place.now turn.1))
    ∙ c.loop-place.invariant s agrees
