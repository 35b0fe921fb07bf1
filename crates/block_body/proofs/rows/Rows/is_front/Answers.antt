use Rattle.std.proofs.Common.{◌≡◌, ◌∙◌, ◌≤◌, List, Option, take, sym, ap, arith}
use Rattle.std.specs.Prelude.{is_some, count_by}
use Rattle.block_spec.specs.Slots.{Row}
use Rattle.block_body.proofs.Whole.{front_is, taken, taken_is, taken_room}
use Rattle.block_body.proofs.rows.Rows.is_front.Goals as goal

pub count_first-requires : goal.count_first-requires
count_first-requires c =
    let count : c.self.inside.count ≡ count_by is_some c.args.self.now.rows = c.self.invariant.count ∙ ap (λ v. count_by is_some v.rows) c.self.view_is in
    let few : taken c.columns-columns.result.now.rows ≤ c.room-room.result = taken_room c.columns-columns.result.now.rows c.room-room.result c.room-room.ensures.held in
    let same : taken c.columns-columns.result.now.rows ≡ c.self.inside.count =
    taken_is c.columns-columns.result.now.rows ∙ ap (λ (l : List (Option Row)). count_by is_some l) c.columns-columns.ensures.rows ∙ sym count in
    omega (arith, few, same, c.room-room.ensures.room)

pub returns : goal.returns
returns c = λ entries.
    let count : c.self.inside.count ≡ count_by is_some c.args.self.now.rows = c.self.invariant.count ∙ ap (λ v. count_by is_some v.rows) c.self.view_is in
    front_is entries 0 c.args.self.now.rows c.self.inside.count c.count_first.result count
    (c.count_first.ensures ∙ ap (λ (l : List (Option Row)). count_by is_some (take c.self.inside.count l)) c.columns-columns.ensures.rows)
