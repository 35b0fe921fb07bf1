use Rattle.std.proofs.Common.{rules, ◌≡◌, ◌∙◌, ◌++◌, ◌∷◌, ℤ, Option, ℕ, ap, append_assoc, arith, length, map, of_z, option_to_list, refl, subst, sum_by, sym, to_z, w64}
use Rattle.std.proofs.Math.Facts.{to_z-of_z}
use Rattle.std.proofs.lemmas.Map.Iter.{iter_end, rest_so_far}
use Rattle.std.specs.List.{filter_map}
use Rattle.std.specs.Map.Iter.{deref}
use mathlib.Core.Logic.{inl}
use Rattle.block_spec.specs.Slots.{Row}
use Rattle.core_events.proofs.Ranging.{rows_more, sum_front, sum_more}
use Rattle.core_events.specs.Candidates.{candidates_in}
use Rattle.core_events.specs.Ranges.{HasRow, keys_in}
use Rattle.core_laws.proofs.Events.Lists.{in_right}
use Rattle.event_spec.specs.Effects.{found}
use Rattle.event_spec.specs.Judged.{own_key}
use Rattle.event_spec.specs.Lawful.{Among}
use Rattle.event_spec.specs.Newest.{keys_within}
use Rattle.event_spec.specs.Parts.{shard_from}
use Rattle.core_events.proofs.ranges.add_rows.Goals as goal

pub add_row-requires : goal.add_row-requires
add_row-requires g c =
    let sh = c.args.shape.now in
    let range = c.args.range.now in
    let keys = keys_in sh c.args.held.now range c.args.number in
    let first : c.into_iter-key-iterator.result ≡ keys_within range.low range.high c.shard.result.now = search rules in
    let start : c.into_iter-key-iterator.result ≡ keys = first ∙ ap (λ o. keys_within range.low range.high (shard_from o)) (sym c.shard.ensures) in
    let key : to_z w64 (of_z w64 c.in-Some.key.now) ≡ c.in-Some.key.now = to_z-of_z {w = w64} (search rules) in
    let parted : keys ≡ map (λ key. key.now) c.loop-key.yielded ++ c.in-Some.key.now ∷ c.next.new.self =
    sym start ∙ rest_so_far deref c.loop-key.yielded c.into_iter-key-iterator.result c.loop-key.key-iterator c.loop-key.yielded_by ∙ ap (λ rest. map (λ key. key.now) c.loop-key.yielded ++ rest) (c.in-Some.ensures {u = tt}).steps in
    let has = c.requires.keys c.in-Some.key.now (subst (Among c.in-Some.key.now) (sym parted) (in_right (map (λ key. key.now) c.loop-key.yielded) (c.in-Some.key.now ∷ c.next.new.self) c.in-Some.key.now (inl refl))) in
    subst (λ (k : ℤ). HasRow sh c.args.held.now c.args.own.now range.table k) (sym key) has

pub returns-in_err-add_row-clause-steps : goal.returns-in_err-add_row-clause-steps
returns-in_err-add_row-clause-steps g c =
    let sh = c.args.shape.now in
    let range = c.args.range.now in
    let keys = keys_in sh c.args.held.now range c.args.number in
    let first : c.into_iter-key-iterator.result ≡ keys_within range.low range.high c.shard.result.now = search rules in
    let start : c.into_iter-key-iterator.result ≡ keys = first ∙ ap (λ o. keys_within range.low range.high (shard_from o)) (sym c.shard.ensures) in
    let key : to_z w64 (of_z w64 c.in-Some.key.now) ≡ c.in-Some.key.now = to_z-of_z {w = w64} (search rules) in
    let parted : keys ≡ map (λ key. key.now) c.loop-key.yielded ++ c.in-Some.key.now ∷ c.next.new.self =
    sym start ∙ rest_so_far deref c.loop-key.yielded c.into_iter-key-iterator.result c.loop-key.key-iterator c.loop-key.yielded_by ∙ ap (λ rest. map (λ key. key.now) c.loop-key.yielded ++ rest) (c.in-Some.ensures {u = tt}).steps in
    let h : ℤ → ℕ = λ key. length (candidates_in sh c.args.held.now range.table key) in
    let before = c.loop-key.invariant.1 in
    let one = c.add_row.ensures.steps in
    let whole = sum_front h keys (map (λ key. key.now) c.loop-key.yielded) c.in-Some.key.now c.next.new.self parted in
    let same = ap h key in
    omega (arith, before, one, whole, same)

pub loop-key-preserved : goal.loop-key-preserved
loop-key-preserved g c =
    let sh = c.args.shape.now in
    let range = c.args.range.now in
    let keys = keys_in sh c.args.held.now range c.args.number in
    let first : c.into_iter-key-iterator.result ≡ keys_within range.low range.high c.shard.result.now = search rules in
    let start : c.into_iter-key-iterator.result ≡ keys = first ∙ ap (λ o. keys_within range.low range.high (shard_from o)) (sym c.shard.ensures) in
    let key : to_z w64 (of_z w64 c.in-Some.key.now) ≡ c.in-Some.key.now = to_z-of_z {w = w64} (search rules) in
    let h : ℤ → ℕ = λ key. length (candidates_in sh c.args.held.now range.table key) in
    let before = c.loop-key.invariant.1 in
    let one = c.add_row.ensures.steps in
    let more = sum_more h (λ key. key.now) c.loop-key.yielded c.in-Some.key in
    let same = ap h key in (
      λ s sound agrees.
          let f : ℤ → Option Row = λ key. found sh s (own_key range.table key c.args.own.now) range.table key in
          let told = filter_map f (map (λ key. key.now) c.loop-key.yielded) in
          let told_one = (c.in_ok-add_row.ensures {u = tt}).rows s sound agrees in
          told_one ∙ ap (λ (k : ℤ). c.loop-key.rows.items ++ option_to_list (f k)) key
          ∙ ap (λ rows. rows ++ option_to_list (f c.in-Some.key.now)) (c.loop-key.invariant.0 s sound agrees)
          ∙ append_assoc c.args.rows.now.items told (option_to_list (f c.in-Some.key.now))
          ∙ ap (λ rows. c.args.rows.now.items ++ rows) (sym (rows_more f (λ key. key.now) c.loop-key.yielded c.in-Some.key)),
      omega (arith, before, one, more, same),
    )

pub returns-clause-rows : goal.returns-clause-rows
returns-clause-rows g c = λ s sound agrees.
    let sh = c.args.shape.now in
    let range = c.args.range.now in
    let keys = keys_in sh c.args.held.now range c.args.number in
    let first : c.into_iter-key-iterator.result ≡ keys_within range.low range.high c.shard.result.now = search rules in
    let start : c.into_iter-key-iterator.result ≡ keys = first ∙ ap (λ o. keys_within range.low range.high (shard_from o)) (sym c.shard.ensures) in
    let all = (iter_end deref keys c.loop-key.yielded c.into_iter-key-iterator.result c.loop-key.key-iterator c.next.new.self c.next.result start c.loop-key.yielded_by c.in-None.is c.next.ensures.steps).0 in
    let f : ℤ → Option Row = λ key. found sh s (own_key range.table key c.args.own.now) range.table key in
    c.loop-key.invariant.0 s sound agrees ∙ ap (λ ks. c.args.rows.now.items ++ filter_map f ks) all

pub returns-clause-steps : goal.returns-clause-steps
returns-clause-steps g c =
    let sh = c.args.shape.now in
    let range = c.args.range.now in
    let keys = keys_in sh c.args.held.now range c.args.number in
    let first : c.into_iter-key-iterator.result ≡ keys_within range.low range.high c.shard.result.now = search rules in
    let start : c.into_iter-key-iterator.result ≡ keys = first ∙ ap (λ o. keys_within range.low range.high (shard_from o)) (sym c.shard.ensures) in
    let all = (iter_end deref keys c.loop-key.yielded c.into_iter-key-iterator.result c.loop-key.key-iterator c.next.new.self c.next.result start c.loop-key.yielded_by c.in-None.is c.next.ensures.steps).0 in
    let h : ℤ → ℕ = λ key. length (candidates_in sh c.args.held.now range.table key) in
    let before = c.loop-key.invariant.1 in
    let same = ap (sum_by h) all in
    omega (arith, before, same)
