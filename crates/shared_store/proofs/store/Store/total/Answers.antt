use Rattle.std.proofs.Common.{◌≡◌, ℤ, ◌+◌, ◌+ℤ◌, ◌<◌, List, Option, Ok, is_some, length, sym, ap, subst, ◌∙◌, arith, rules}
use Rattle.std.proofs.lemmas.Int.{to_z-of_z}
use Rattle.std.proofs.lemmas.List.Sums.{count_by-le-length}
use Rattle.std.specs.Int.RustNames.{FitsSigned}
use mir.Syntax.{w128}
use mir.Val.{of_z, to_z}
use Rattle.cell_model.specs.declared.column.Column.{Column}
use Rattle.event_spec.specs.declared.own.OwnTransaction.{OwnTransaction}
use Rattle.event_spec.specs.Parts.{Shape, blocks_of}
use Rattle.event_spec.specs.Replay.{columns_in}
use Rattle.isolation_spec.specs.Reads.{ReadSet}
use Rattle.run_spec.specs.Told.{rows_told}
use Rattle.store_laws.specs.Stretches.{is_event}
use Rattle.workload_spec.specs.declared.command.Command.TheVariants.{Total}
use Rattle.workload_spec.specs.declared.reply.Said.{Said}
use Rattle.workload_spec.specs.declared.reply.Said.TheVariants.{Totalled}
use Rattle.shared_store.specs.Open.{FindsTotal}
use Rattle.shared_store.specs.Store.{Answers, IsSession, shape_in, swept}
use Rattle.shared_store.specs.Totalling.{IsWanted, TotalsOnce}
use Rattle.shared_store.proofs.Calls.{own_open}
use Rattle.shared_store.proofs.Claims.{free_on, keeps_none}
use Rattle.shared_store.proofs.Open.{measures_of}
use Rattle.shared_store.proofs.ReadSets.{swept_session}
use Rattle.shared_store.proofs.Scanned.{read_once, scans_count}
use Rattle.shared_store.proofs.Totalled.{TotalsBy, finds_as, once_as, room_for, totals_begin, totals_break, totals_end, totals_find, totals_go_on, totals_unread, untotalled}
use Rattle.shared_store.proofs.Totals.{has_table, wanted_small}
use Rattle.shared_store.proofs.store.Store.total.Goals as goal

pub blocks-block-end-requires : goal.blocks-block-end-requires
blocks-block-end-requires g c =
    subst (λ (sh : Shape). c.args.table < length sh.tables) (sym (c.shape-shape.ensures ∙ c.self.invariant.shape ∙ ap shape_in c.self.view_is))
    (has_table (shape_in c.args.self.now).tables c.args.table c.args.column c.args.low c.args.high c.requires.column)

pub loop-block-init : goal.loop-block-init
loop-block-init g c own is = totals_begin c.args.self.now own c.args.table c.wanted_of-wanted.result c.args.session.now c.args.steps.now c.requires.session

pub total_of_block-requires-clause-session : goal.total_of_block-requires-clause-session
total_of_block-requires-clause-session g c =
    let o = own_open c.args.session.now c.requires.busy in
    (c.loop-block.invariant o.0 o.1).scans.went.session

pub total_of_block-requires-clause-free : goal.total_of_block-requires-clause-free
total_of_block-requires-clause-free g c =
    let o = own_open c.args.session.now c.requires.busy in
    free_on (c.loop-block.invariant o.0 o.1).scans.went.reads c.requires.free

pub total_of_block-requires-clause-room : goal.total_of_block-requires-clause-room
total_of_block-requires-clause-room g c =
    let o = own_open c.args.session.now c.requires.busy in
    let s = c.loop-block.invariant o.0 o.1 in
    let many = scans_count c.args.self.now c.args.session.now c.loop-block.session o.0 c.args.table c.loop-block.block s.read s.scans in
    let count = s.scans.went.count in
    let events = count_by-le-length is_event s.scans.made in
    let room = c.requires.room in
    let few = c.blocks-block-end.ensures.few in
    let below = c.loop-block-test.true in
    let end' = c.loop-block.auto.block-end in
    omega (arith, many, count, events, room, few, below, end')

pub total_of_block-requires-clause-busy : goal.total_of_block-requires-clause-busy
total_of_block-requires-clause-busy g c =
    let o = own_open c.args.session.now c.requires.busy in
    ap (λ (x : Option OwnTransaction). is_some x) (c.loop-block.invariant o.0 o.1).scans.went.opened ∙ c.requires.busy

pub total_of_block-requires-clause-block : goal.total_of_block-requires-clause-block
total_of_block-requires-clause-block g c =
    let st = c.args.self.now in
    let blocks : c.blocks-block-end.result ≡ blocks_of (shape_in st) c.args.table = c.blocks-block-end.ensures.blocks ∙ ap (λ (sh : Shape). blocks_of sh c.args.table) (c.shape-shape.ensures ∙ c.self.invariant.shape ∙ ap shape_in c.self.view_is) in
    let below = c.loop-block-test.true in
    let end' = c.loop-block.auto.block-end in
    (has_table (shape_in st).tables c.args.table c.args.column c.args.low c.args.high c.requires.column, omega (arith, blocks, below, end'))

pub returns-in_err-more-clause-session : goal.returns-in_err-more-clause-session
returns-in_err-more-clause-session g c =
    let o = own_open c.args.session.now c.requires.busy in
    (c.total_of_block.ensures o.0 ((c.loop-block.invariant o.0 o.1).scans.went.opened ∙ o.1)).reads.session

pub returns-in_err-more-clause-same : goal.returns-in_err-more-clause-same
returns-in_err-more-clause-same g c =
    let o = own_open c.args.session.now c.requires.busy in
    let s = (c.loop-block.invariant o.0 o.1).scans in
    (c.total_of_block.ensures o.0 (s.went.opened ∙ o.1)).reads.same ∙ s.went.same

pub returns-in_err-more-clause-answers : goal.returns-in_err-more-clause-answers
returns-in_err-more-clause-answers g c =
    let st = c.args.self.now in
    let o = own_open c.args.session.now c.requires.busy in
    let s = c.loop-block.invariant o.0 o.1 in
    let r = c.total_of_block.ensures o.0 (s.scans.went.opened ∙ o.1) in
    let blocks : c.blocks-block-end.result ≡ blocks_of (shape_in st) c.args.table = c.blocks-block-end.ensures.blocks ∙ ap (λ (sh : Shape). blocks_of sh c.args.table) (c.shape-shape.ensures ∙ c.self.invariant.shape ∙ ap shape_in c.self.view_is) in
    let below = c.loop-block-test.true in
    let end' = c.loop-block.auto.block-end in
    subst (λ (line : Said). Answers st c.args.session.now c.total_of_block.new.session (Total c.args.table c.args.column c.args.low c.args.high) line) (sym (untotalled c.from_residual.result c.from_residual.ensures.0))
    (totals_break st o.0 c.args.table c.wanted_of-wanted.result c.args.session.now c.loop-block.session c.total_of_block.new.session c.loop-block.block c.loop-block.count (to_z w128 c.loop-block.sum-bits) r.told
    c.args.steps.now c.loop-block.steps c.total_of_block.new.steps s r.reads (keeps_none (free_on s.scans.went.reads c.requires.free) r.free) (omega (arith, blocks, below, end')) r.few
    c.args.column c.args.low c.args.high c.requires.session o.1 r.unlooked).answers

pub returns-in_err-more-clause-finds : goal.returns-in_err-more-clause-finds
returns-in_err-more-clause-finds g c =
    let st = c.args.self.now in
    let o = own_open c.args.session.now c.requires.busy in
    let s = c.loop-block.invariant o.0 o.1 in
    let r = c.total_of_block.ensures o.0 (s.scans.went.opened ∙ o.1) in
    let blocks : c.blocks-block-end.result ≡ blocks_of (shape_in st) c.args.table = c.blocks-block-end.ensures.blocks ∙ ap (λ (sh : Shape). blocks_of sh c.args.table) (c.shape-shape.ensures ∙ c.self.invariant.shape ∙ ap shape_in c.self.view_is) in
    let below = c.loop-block-test.true in
    let end' = c.loop-block.auto.block-end in
    totals_unread st o.0 c.args.table c.wanted_of-wanted.result c.args.session.now c.loop-block.session c.total_of_block.new.session c.loop-block.block c.loop-block.count (to_z w128 c.loop-block.sum-bits) r.told
    c.args.steps.now c.loop-block.steps c.total_of_block.new.steps s r.reads (keeps_none (free_on s.scans.went.reads c.requires.free) r.free) (omega (arith, blocks, below, end')) r.few
    c.args.column c.args.low c.args.high c.from_residual.result c.from_residual.ensures.0

pub returns-in_err-more-clause-few : goal.returns-in_err-more-clause-few
returns-in_err-more-clause-few g c =
    let o = own_open c.args.session.now c.requires.busy in
    let s = c.loop-block.invariant o.0 o.1 in
    let many = scans_count c.args.self.now c.args.session.now c.loop-block.session o.0 c.args.table c.loop-block.block s.read s.scans in
    let count = s.scans.went.count in
    let events = count_by-le-length is_event s.scans.made in
    let r = (c.total_of_block.ensures o.0 (s.scans.went.opened ∙ o.1)).reads in
    let one = r.count in
    let once = read_once c.loop-block.session.session o.0 c.args.table c.loop-block.block _ r.made r.is_read in
    let few = c.blocks-block-end.ensures.few in
    let below = c.loop-block-test.true in
    let end' = c.loop-block.auto.block-end in
    omega (arith, many, count, events, one, once, few, below, end')

pub returns-in_err-more-clause-steps : goal.returns-in_err-more-clause-steps
returns-in_err-more-clause-steps g c =
    let st = c.args.self.now in
    let o = own_open c.args.session.now c.requires.busy in
    let s = c.loop-block.invariant o.0 o.1 in
    let r = c.total_of_block.ensures o.0 (s.scans.went.opened ∙ o.1) in
    let blocks : c.blocks-block-end.result ≡ blocks_of (shape_in st) c.args.table = c.blocks-block-end.ensures.blocks ∙ ap (λ (sh : Shape). blocks_of sh c.args.table) (c.shape-shape.ensures ∙ c.self.invariant.shape ∙ ap shape_in c.self.view_is) in
    let below = c.loop-block-test.true in
    let end' = c.loop-block.auto.block-end in
    subst (λ (line : Said). TotalsOnce st c.args.session.now c.total_of_block.new.session c.args.table c.args.column c.args.low c.args.high line c.args.steps.now c.total_of_block.new.steps) (sym (untotalled c.from_residual.result c.from_residual.ensures.0))
    (totals_break st o.0 c.args.table c.wanted_of-wanted.result c.args.session.now c.loop-block.session c.total_of_block.new.session c.loop-block.block c.loop-block.count (to_z w128 c.loop-block.sum-bits) r.told
    c.args.steps.now c.loop-block.steps c.total_of_block.new.steps s r.reads (keeps_none (free_on s.scans.went.reads c.requires.free) r.free) (omega (arith, blocks, below, end')) r.few
    c.args.column c.args.low c.args.high c.requires.session o.1 r.unlooked)

pub overflow_add-count : goal.overflow_add-count
overflow_add-count g c =
    let st = c.args.self.now in
    let o = own_open c.args.session.now c.requires.busy in
    let s = c.loop-block.invariant o.0 o.1 in
    let r = c.in_ok-more.ensures o.0 (s.scans.went.opened ∙ o.1) in
    let has = has_table (shape_in st).tables c.args.table c.args.column c.args.low c.args.high c.requires.column in
    let slots = ((measures_of st c.args.session.now c.requires.session).slots c.args.table has).1 in
    let rows = r.reads.few in
    let columns = c.schema.ensures.columns ∙ ap (λ (sh : Shape). columns_in sh c.args.table) (c.shape-shape.ensures ∙ c.self.invariant.shape ∙ ap shape_in c.self.view_is) in
    let wanted = subst (λ (columns : List Column). IsWanted columns c.wanted_of-wanted.result) columns c.wanted_of-wanted.ensures.wanted in
    let few = c.blocks-block-end.ensures.few in
    let below = c.loop-block-test.true in
    let end' = c.loop-block.auto.block-end in
    let room = (room_for st o.0 c.args.table c.wanted_of-wanted.result c.args.session.now c.loop-block.session c.loop-block.block c.loop-block.count (to_z w128 c.loop-block.sum-bits) c.args.steps.now c.loop-block.steps
    (rows_told r.told) c.in_ok-more.more (wanted_small (columns_in (shape_in st) c.args.table) c.wanted_of-wanted.result wanted) (omega (arith, few, below, end')) s (omega (arith, rows, slots)) r.total).0 in
    record { fits = omega (arith, room) }

pub overflow_add-sum : goal.overflow_add-sum
overflow_add-sum g c =
    let st = c.args.self.now in
    let o = own_open c.args.session.now c.requires.busy in
    let s = c.loop-block.invariant o.0 o.1 in
    let r = c.in_ok-more.ensures o.0 (s.scans.went.opened ∙ o.1) in
    let has = has_table (shape_in st).tables c.args.table c.args.column c.args.low c.args.high c.requires.column in
    let slots = ((measures_of st c.args.session.now c.requires.session).slots c.args.table has).1 in
    let rows = r.reads.few in
    let columns = c.schema.ensures.columns ∙ ap (λ (sh : Shape). columns_in sh c.args.table) (c.shape-shape.ensures ∙ c.self.invariant.shape ∙ ap shape_in c.self.view_is) in
    let wanted = subst (λ (columns : List Column). IsWanted columns c.wanted_of-wanted.result) columns c.wanted_of-wanted.ensures.wanted in
    let few = c.blocks-block-end.ensures.few in
    let below = c.loop-block-test.true in
    let end' = c.loop-block.auto.block-end in
    let more : to_z w128 (of_z w128 c.in_ok-more.more.sum) ≡ c.in_ok-more.more.sum = to_z-of_z w128 c.in_ok-more.more.sum (search rules) in
    subst (λ (n : ℤ). FitsSigned w128 (to_z w128 c.loop-block.sum-bits +ℤ n)) (sym more)
    (room_for st o.0 c.args.table c.wanted_of-wanted.result c.args.session.now c.loop-block.session c.loop-block.block c.loop-block.count (to_z w128 c.loop-block.sum-bits) c.args.steps.now c.loop-block.steps
    (rows_told r.told) c.in_ok-more.more (wanted_small (columns_in (shape_in st) c.args.table) c.wanted_of-wanted.result wanted) (omega (arith, few, below, end')) s (omega (arith, rows, slots)) r.total).1

pub loop-block-preserved : goal.loop-block-preserved
loop-block-preserved g c own is =
    let st = c.args.self.now in
    let s = c.loop-block.invariant own is in
    let r = c.in_ok-more.ensures own (s.scans.went.opened ∙ is) in
    let has = has_table (shape_in st).tables c.args.table c.args.column c.args.low c.args.high c.requires.column in
    let slots = ((measures_of st c.args.session.now c.requires.session).slots c.args.table has).1 in
    let rows = r.reads.few in
    let columns = c.schema.ensures.columns ∙ ap (λ (sh : Shape). columns_in sh c.args.table) (c.shape-shape.ensures ∙ c.self.invariant.shape ∙ ap shape_in c.self.view_is) in
    let wanted = subst (λ (columns : List Column). IsWanted columns c.wanted_of-wanted.result) columns c.wanted_of-wanted.ensures.wanted in
    let blocks : c.blocks-block-end.result ≡ blocks_of (shape_in st) c.args.table = c.blocks-block-end.ensures.blocks ∙ ap (λ (sh : Shape). blocks_of sh c.args.table) (c.shape-shape.ensures ∙ c.self.invariant.shape ∙ ap shape_in c.self.view_is) in
    let few = c.blocks-block-end.ensures.few in
    let below = c.loop-block-test.true in
    let end' = c.loop-block.auto.block-end in
    let sum = to_z w128 c.loop-block.sum-bits in
    let fits = (room_for st own c.args.table c.wanted_of-wanted.result c.args.session.now c.loop-block.session c.loop-block.block c.loop-block.count sum c.args.steps.now c.loop-block.steps
    (rows_told r.told) c.in_ok-more.more (wanted_small (columns_in (shape_in st) c.args.table) c.wanted_of-wanted.result wanted) (omega (arith, few, below, end')) s (omega (arith, rows, slots)) r.total).1 in
    let more : to_z w128 (of_z w128 c.in_ok-more.more.sum) ≡ c.in_ok-more.more.sum = to_z-of_z w128 c.in_ok-more.more.sum (search rules) in
    subst (λ (n : ℤ). TotalsBy st c.args.session.now c.total_of_block.new.session own c.args.table (c.loop-block.block + 1) c.wanted_of-wanted.result (c.loop-block.count + c.in_ok-more.more.count) n c.args.steps.now c.total_of_block.new.steps)
    (sym (ap (λ n. to_z w128 (of_z w128 (sum +ℤ n))) more ∙ to_z-of_z w128 (sum +ℤ c.in_ok-more.more.sum) fits))
    (totals_go_on st own c.args.table c.wanted_of-wanted.result c.args.session.now c.loop-block.session c.total_of_block.new.session c.loop-block.block c.loop-block.count sum r.told
    c.args.steps.now c.loop-block.steps c.total_of_block.new.steps s r.reads (keeps_none (free_on s.scans.went.reads c.requires.free) r.free) (omega (arith, blocks, below, end')) r.few
    c.in_ok-more.more r.granted slots r.total)

pub mark-requires : goal.mark-requires
mark-requires g c =
    let tables = (measures_of c.args.self.now c.args.session.now c.requires.session).tables in
    let table = has_table (shape_in c.args.self.now).tables c.args.table c.args.column c.args.low c.args.high c.requires.column in
    omega (arith, tables, table)

pub returns-clause-session : goal.returns-clause-session
returns-clause-session g c =
    let o = own_open c.args.session.now c.requires.busy in
    let has = has_table (shape_in c.args.self.now).tables c.args.table c.args.column c.args.low c.args.high c.requires.column in
    subst (λ (reads : Option ReadSet). IsSession c.args.self.now (record { pass = c.loop-block.session.pass; session = c.loop-block.session.session; snapshot = c.loop-block.session.snapshot; writes = c.loop-block.session.writes; reads = reads; kept = c.loop-block.session.kept })) (sym c.mark.ensures)
    (swept_session c.args.self.now c.loop-block.session c.args.table has (c.loop-block.invariant o.0 o.1).scans.went.session)

pub returns-clause-same : goal.returns-clause-same
returns-clause-same g c =
    let o = own_open c.args.session.now c.requires.busy in
    (c.loop-block.invariant o.0 o.1).scans.went.same

pub returns-clause-answers : goal.returns-clause-answers
returns-clause-answers g c =
    let st = c.args.self.now in
    let o = own_open c.args.session.now c.requires.busy in
    let s = c.loop-block.invariant o.0 o.1 in
    let blocks : c.blocks-block-end.result ≡ blocks_of (shape_in st) c.args.table = c.blocks-block-end.ensures.blocks ∙ ap (λ (sh : Shape). blocks_of sh c.args.table) (c.shape-shape.ensures ∙ c.self.invariant.shape ∙ ap shape_in c.self.view_is) in
    let done = c.loop-block-test.false in
    let end' = c.loop-block.auto.block-end in
    let all : c.loop-block.block ≡ blocks_of (shape_in st) c.args.table = omega (arith, blocks, done, end') in
    subst (λ (reads : Option ReadSet). Answers st c.args.session.now (record { pass = c.loop-block.session.pass; session = c.loop-block.session.session; snapshot = c.loop-block.session.snapshot; writes = c.loop-block.session.writes; reads = reads; kept = c.loop-block.session.kept })
    (Total c.args.table c.args.column c.args.low c.args.high) (Totalled c.loop-block.count (to_z w128 c.loop-block.sum-bits))) (sym c.mark.ensures)
    (once_as st c.args.session.now (swept c.args.table c.loop-block.session) c.args.table c.wanted_of-wanted.result.column c.args.column c.wanted_of-wanted.result.low c.wanted_of-wanted.result.high c.args.low c.args.high
    (Totalled c.loop-block.count (to_z w128 c.loop-block.sum-bits)) c.args.steps.now c.loop-block.steps c.wanted_of-wanted.ensures.column
    (c.wanted_of-wanted.ensures.low ∙ to_z-of_z w128 c.args.low c.ranges.low) (c.wanted_of-wanted.ensures.high ∙ to_z-of_z w128 c.args.high c.ranges.high)
    (totals_end st o.0 c.args.table c.wanted_of-wanted.result c.args.session.now c.loop-block.session c.loop-block.count (to_z w128 c.loop-block.sum-bits) c.args.steps.now c.loop-block.steps c.requires.session o.1
    (subst (λ k. TotalsBy st c.args.session.now c.loop-block.session o.0 c.args.table k c.wanted_of-wanted.result c.loop-block.count (to_z w128 c.loop-block.sum-bits) c.args.steps.now c.loop-block.steps) all s))).answers

pub returns-clause-finds : goal.returns-clause-finds
returns-clause-finds g c =
    let st = c.args.self.now in
    let o = own_open c.args.session.now c.requires.busy in
    let s = c.loop-block.invariant o.0 o.1 in
    let blocks : c.blocks-block-end.result ≡ blocks_of (shape_in st) c.args.table = c.blocks-block-end.ensures.blocks ∙ ap (λ (sh : Shape). blocks_of sh c.args.table) (c.shape-shape.ensures ∙ c.self.invariant.shape ∙ ap shape_in c.self.view_is) in
    let done = c.loop-block-test.false in
    let end' = c.loop-block.auto.block-end in
    let all : c.loop-block.block ≡ blocks_of (shape_in st) c.args.table = omega (arith, blocks, done, end') in
    subst (λ (reads : Option ReadSet). FindsTotal st c.args.session.now (record { pass = c.loop-block.session.pass; session = c.loop-block.session.session; snapshot = c.loop-block.session.snapshot; writes = c.loop-block.session.writes; reads = reads; kept = c.loop-block.session.kept })
    c.args.table c.args.column c.args.low c.args.high (Ok (record { count = c.loop-block.count; sum = to_z w128 c.loop-block.sum-bits }))) (sym c.mark.ensures)
    (finds_as st c.args.session.now (swept c.args.table c.loop-block.session) c.args.table c.wanted_of-wanted.result.column c.args.column c.wanted_of-wanted.result.low c.wanted_of-wanted.result.high c.args.low c.args.high
    (Ok (record { count = c.loop-block.count; sum = to_z w128 c.loop-block.sum-bits })) c.wanted_of-wanted.ensures.column
    (c.wanted_of-wanted.ensures.low ∙ to_z-of_z w128 c.args.low c.ranges.low) (c.wanted_of-wanted.ensures.high ∙ to_z-of_z w128 c.args.high c.ranges.high)
    (totals_find st o.0 c.args.table c.wanted_of-wanted.result c.args.session.now c.loop-block.session c.loop-block.count (to_z w128 c.loop-block.sum-bits) c.args.steps.now c.loop-block.steps c.requires.session o.1
    (subst (λ k. TotalsBy st c.args.session.now c.loop-block.session o.0 c.args.table k c.wanted_of-wanted.result c.loop-block.count (to_z w128 c.loop-block.sum-bits) c.args.steps.now c.loop-block.steps) all s)))

pub returns-clause-few : goal.returns-clause-few
returns-clause-few g c =
    let o = own_open c.args.session.now c.requires.busy in
    let s = c.loop-block.invariant o.0 o.1 in
    let many = scans_count c.args.self.now c.args.session.now c.loop-block.session o.0 c.args.table c.loop-block.block s.read s.scans in
    let count = s.scans.went.count in
    let events = count_by-le-length is_event s.scans.made in
    let few = c.blocks-block-end.ensures.few in
    let end' = c.loop-block.auto.block-end in
    omega (arith, many, count, events, few, end')

pub returns-clause-steps : goal.returns-clause-steps
returns-clause-steps g c =
    let st = c.args.self.now in
    let o = own_open c.args.session.now c.requires.busy in
    let s = c.loop-block.invariant o.0 o.1 in
    let blocks : c.blocks-block-end.result ≡ blocks_of (shape_in st) c.args.table = c.blocks-block-end.ensures.blocks ∙ ap (λ (sh : Shape). blocks_of sh c.args.table) (c.shape-shape.ensures ∙ c.self.invariant.shape ∙ ap shape_in c.self.view_is) in
    let done = c.loop-block-test.false in
    let end' = c.loop-block.auto.block-end in
    let all : c.loop-block.block ≡ blocks_of (shape_in st) c.args.table = omega (arith, blocks, done, end') in
    subst (λ (reads : Option ReadSet). TotalsOnce st c.args.session.now (record { pass = c.loop-block.session.pass; session = c.loop-block.session.session; snapshot = c.loop-block.session.snapshot; writes = c.loop-block.session.writes; reads = reads; kept = c.loop-block.session.kept })
    c.args.table c.args.column c.args.low c.args.high (Totalled c.loop-block.count (to_z w128 c.loop-block.sum-bits)) c.args.steps.now c.loop-block.steps) (sym c.mark.ensures)
    (once_as st c.args.session.now (swept c.args.table c.loop-block.session) c.args.table c.wanted_of-wanted.result.column c.args.column c.wanted_of-wanted.result.low c.wanted_of-wanted.result.high c.args.low c.args.high
    (Totalled c.loop-block.count (to_z w128 c.loop-block.sum-bits)) c.args.steps.now c.loop-block.steps c.wanted_of-wanted.ensures.column
    (c.wanted_of-wanted.ensures.low ∙ to_z-of_z w128 c.args.low c.ranges.low) (c.wanted_of-wanted.ensures.high ∙ to_z-of_z w128 c.args.high c.ranges.high)
    (totals_end st o.0 c.args.table c.wanted_of-wanted.result c.args.session.now c.loop-block.session c.loop-block.count (to_z w128 c.loop-block.sum-bits) c.args.steps.now c.loop-block.steps c.requires.session o.1
    (subst (λ k. TotalsBy st c.args.session.now c.loop-block.session o.0 c.args.table k c.wanted_of-wanted.result c.loop-block.count (to_z w128 c.loop-block.sum-bits) c.args.steps.now c.loop-block.steps) all s)))
