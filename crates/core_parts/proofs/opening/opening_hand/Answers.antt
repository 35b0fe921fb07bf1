use Rattle.std.proofs.Common.{◌≡◌, ◌*◌, ◌≤◌, ◌++◌, ◌∷◌, [], List, length, map, sym, ap, ◌∙◌, subst, arith}
use Rattle.std.specs.List.{flat_map}
use Rattle.std.proofs.Common.{below_more}
use Rattle.core_parts.specs.declared.first_rows.FirstRow.{FirstRow}
use Rattle.core_parts.proofs.FirstLent.{are_first, lent_all}
use Rattle.core_parts.proofs.Places.{opened, placed_more, placed_table}
use Rattle.core_parts.specs.FirstRows.{AreFirst, HasRoom, rows_at}
use Rattle.core_parts.specs.Hands.{Held}
use Rattle.core_parts.specs.Placed.{placed}
use Rattle.event_spec.specs.Parts.{BodyOf, HeadOf, ShardOf, below, blocks_of, slots_of, tables_of}
use Rattle.event_spec.specs.Replay.{rows_first}
use Rattle.isolation_spec.specs.Contents.{History, state_at}
use Rattle.core_parts.proofs.opening.opening_hand.Goals as goal

pub add_head-requires-clause-rows : goal.add_head-requires-clause-rows
add_head-requires-clause-rows c =
    let sh = c.args.shape.now in
    let left : rows_at c.in_ok-last.last.entries ≡ state_at sh.first (length sh.first) =
    c.in_ok-last.ensures ∙ ap (λ (first : History). state_at first (length first)) (c.as_slice-2.ensures ∙ c.requires.first) in
    let are = are_first sh c.requires.commits c.loop-table.table (rows_at c.in_ok-last.last.entries) c.in_ok-rows.rows.items left c.in_ok-rows.ensures.rows c.in_ok-rows.ensures.keys in
    subst (λ (rows : List FirstRow). AreFirst sh c.loop-table.table rows) (sym c.deref.ensures.value) are

pub add_shards-requires-clause-rows : goal.add_shards-requires-clause-rows
add_shards-requires-clause-rows c =
    let sh = c.args.shape.now in
    let left : rows_at c.in_ok-last.last.entries ≡ state_at sh.first (length sh.first) =
    c.in_ok-last.ensures ∙ ap (λ (first : History). state_at first (length first)) (c.as_slice-2.ensures ∙ c.requires.first) in
    let are = are_first sh c.requires.commits c.loop-table.table (rows_at c.in_ok-last.last.entries) c.in_ok-rows.rows.items left c.in_ok-rows.ensures.rows c.in_ok-rows.ensures.keys in
    subst (λ (rows : List FirstRow). AreFirst sh c.loop-table.table rows) (sym c.deref-in-loop-table.ensures.value) are

pub add_bodies-requires-clause-rows : goal.add_bodies-requires-clause-rows
add_bodies-requires-clause-rows c =
    let sh = c.args.shape.now in
    let left : rows_at c.in_ok-last.last.entries ≡ state_at sh.first (length sh.first) =
    c.in_ok-last.ensures ∙ ap (λ (first : History). state_at first (length first)) (c.as_slice-2.ensures ∙ c.requires.first) in
    let are = are_first sh c.requires.commits c.loop-table.table (rows_at c.in_ok-last.last.entries) c.in_ok-rows.rows.items left c.in_ok-rows.ensures.rows c.in_ok-rows.ensures.keys in
    subst (λ (rows : List FirstRow). AreFirst sh c.loop-table.table rows) (sym c.deref-in-loop-table-2.ensures.value) are

pub loop-table-preserved : goal.loop-table-preserved
loop-table-preserved c =
    let sh = c.args.shape.now in
    let left : rows_at c.in_ok-last.last.entries ≡ state_at sh.first (length sh.first) =
    c.in_ok-last.ensures ∙ ap (λ (first : History). state_at first (length first)) (c.as_slice-2.ensures ∙ c.requires.first) in
    let are = are_first sh c.requires.commits c.loop-table.table (rows_at c.in_ok-last.last.entries) c.in_ok-rows.rows.items left c.in_ok-rows.ensures.rows c.in_ok-rows.ensures.keys in
    let t = c.loop-table.table in
    let all = lent_all sh t c.in_ok-rows.rows.items are in
    let many = c.len.ensures in
    let fits : length (rows_first sh t) ≤ c.blocks-in-loop-table.result * c.slots.result = omega (arith, all, many) in
    let here : HasRoom sh t =
    subst (λ blocks. length (rows_first sh t) ≤ blocks * slots_of sh t) c.blocks-in-loop-table.ensures.blocks
    (subst (λ slots. length (rows_first sh t) ≤ c.blocks-in-loop-table.result * slots) c.slots.ensures.slots fits) in
    record {
      heads = c.in_ok-add_head.ensures ∙ ap (λ (more : Held). more ++ placed sh (HeadOf t ∷ [])) c.loop-table.invariant.heads ∙ sym (placed_more sh HeadOf t);
      shards = c.in_ok-add_shards.ensures ∙ ap (λ (more : Held). more ++ placed sh (map (ShardOf t) (below 8))) c.loop-table.invariant.shards
          ∙ sym (placed_table sh (λ table. map (ShardOf table) (below 8)) t);
      bodies = c.in_ok-add_bodies.ensures ∙ ap (λ (more : Held). more ++ placed sh (map (BodyOf t) (below (blocks_of sh t)))) c.loop-table.invariant.bodies
          ∙ sym (placed_table sh (λ table. map (BodyOf table) (below (blocks_of sh table))) t);
      room = below_more (HasRoom sh) t c.loop-table.invariant.room here;
    }

pub returns-clause-opening : goal.returns-clause-opening
returns-clause-opening c =
    let sh = c.args.shape.now in
    let tables = ap length c.tables.ensures.tables in
    let end : c.loop-table.table ≡ length sh.tables = omega (arith, tables) in
    let heads : c.loop-table.places.items ≡ placed sh (map HeadOf (tables_of sh)) = c.loop-table.invariant.heads ∙ ap (λ n. placed sh (map HeadOf (below n))) end in
    let shards : c.loop-table.shards.items ≡ placed sh (flat_map (λ table. map (ShardOf table) (below 8)) (tables_of sh)) =
    c.loop-table.invariant.shards ∙ ap (λ n. placed sh (flat_map (λ table. map (ShardOf table) (below 8)) (below n))) end in
    let bodies : c.loop-table.bodies.items ≡ placed sh (flat_map (λ table. map (BodyOf table) (below (blocks_of sh table))) (tables_of sh)) =
    c.loop-table.invariant.bodies ∙ ap (λ n. placed sh (flat_map (λ table. map (BodyOf table) (below (blocks_of sh table))) (below n))) end in
    c.in_ok-of.ensures
    ∙ opened sh c.loop-table.places.items c.append.new.self.items c.append-2.new.self.items c.add_desk.new.places.items heads
    (c.in_ok-append.ensures.items ∙ ap (λ (more : Held). c.loop-table.places.items ++ more) shards)
    (c.in_ok-append-2.ensures.items ∙ ap (λ (more : Held). c.append.new.self.items ++ more) bodies)
    c.in_ok-add_desk.ensures
