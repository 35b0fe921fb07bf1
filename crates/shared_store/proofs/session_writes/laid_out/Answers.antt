use Rattle.std.proofs.Common.{List, [], ◌∷◌, ◌++◌, Option, length, sym, ap, ◌∙◌, append-nil, append_assoc, length-append, arith}
use Rattle.std.proofs.lemmas.Map.Iter.{rest_all, rest_more}
use Rattle.shared_store.specs.KeptCommits.{RowView}
use Rattle.isolation_spec.specs.declared.place.Place.{Place}
use Rattle.shared_store.proofs.session_writes.laid_out.Goals as goal

pub loop-write-init : goal.loop-write-init
loop-write-init c = record {
  split = ap (λ (laid : List (Place × Option RowView)). laid ++ c.into_iter-write-iterator.result) c.requires.empty ∙ c.into_iter-write-iterator.ensures.into_iter_gives.0;
  room = c.requires.room;
}

pub push_reserved-requires : goal.push_reserved-requires
push_reserved-requires c =
    let more = ap (λ (writes : List (Place × Option RowView)). length writes)
    (rest_more (λ (p : Place × Option RowView). p) c.loop-write.write-iterator c.next.new.self c.next.result c.in-Some.write c.in-Some.is c.next.ensures.steps) in
    let all = ap (λ (writes : List (Place × Option RowView)). length writes) c.loop-write.invariant.split in
    let both = length-append c.loop-write.room.items c.loop-write.write-iterator in
    let long = c.loop-write.room.ok.0 in
    let room = c.loop-write.invariant.room in
    omega (arith, more, all, both, long, room)

pub loop-write-preserved : goal.loop-write-preserved
loop-write-preserved c =
    let capacity = c.push_reserved.ensures.capacity in
    let room = c.loop-write.invariant.room in
    record {
      split = ap (λ (laid : List (Place × Option RowView)). laid ++ c.next.new.self) c.push_reserved.ensures.items
          ∙ append_assoc c.loop-write.room.items (c.in-Some.write ∷ []) c.next.new.self
          ∙ ap (λ (rest : List (Place × Option RowView)). c.loop-write.room.items ++ rest)
          (sym (rest_more (λ (p : Place × Option RowView). p) c.loop-write.write-iterator c.next.new.self c.next.result c.in-Some.write c.in-Some.is c.next.ensures.steps))
          ∙ c.loop-write.invariant.split;
      room = omega (arith, capacity, room);
    }

pub returns : goal.returns
returns c =
    c.from.ensures
    ∙ sym (append-nil c.loop-write.room.items)
    ∙ ap (λ (rest : List (Place × Option RowView)). c.loop-write.room.items ++ rest)
    (sym (rest_all (λ (p : Place × Option RowView). p) c.loop-write.write-iterator c.next.new.self c.next.result c.in-None.is c.next.ensures.steps))
    ∙ c.loop-write.invariant.split
