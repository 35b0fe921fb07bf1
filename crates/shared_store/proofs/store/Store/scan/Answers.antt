use Rattle.std.proofs.Common.{◌≡◌, List, Option, is_some, sym, ap, subst, ◌∙◌, arith}
use Rattle.event_spec.specs.declared.own.OwnTransaction.{OwnTransaction}
use Rattle.event_spec.specs.Parts.{Shape, blocks_of}
use Rattle.block_spec.specs.Slots.{Row}
use Rattle.cell_model.specs.declared.column.Column.{Column}
use Rattle.cell_model.specs.Rows.{Fits}
use Rattle.event_spec.specs.Replay.{columns_in}
use Rattle.workload_spec.specs.declared.command.Command.TheVariants.{Scan}
use Rattle.workload_spec.specs.declared.reply.Said.{Said}
use Rattle.workload_spec.specs.declared.reply.Said.TheVariants.{Scanned}
use Rattle.shared_store.specs.Open.{FindsRows}
use Rattle.shared_store.specs.Reads.{ReadSet}
use Rattle.shared_store.specs.Scanning.{Scans}
use Rattle.shared_store.specs.Store.{Answers, IsSession, shape_in}
use Rattle.shared_store.proofs.Calls.{own_open}
use Rattle.std.proofs.lemmas.List.Sums.{count_by-le-length}
use Rattle.store_laws.specs.Stretches.{is_event}
use Rattle.shared_store.specs.Scanning.{ReadsOnce}
use Rattle.shared_store.proofs.Claims.{free_on, keeps_none}
use Rattle.shared_store.proofs.Scanned.{ScansBy, read_once, scan_ends, scan_unread, scans_count, steps_begin, steps_break, steps_end, steps_go_on, steps_unlaid, scan_unlaid, unscanned}
use Rattle.shared_store.proofs.Open.{measures_of}
use Rattle.shared_store.proofs.ReadSets.{swept_finds, swept_session}
use Rattle.shared_store.proofs.Stays.{scan_finds, scan_once, scan_unlaid_finds, scan_unread_finds}
use Rattle.std.specs.Prelude.{All, Ok}
use Rattle.shared_store.proofs.store.Store.scan.Goals as goal

pub loop-block-init : goal.loop-block-init
loop-block-init g c own is =
    subst (λ (read : List Row). ScansBy c.args.self.now c.args.session.now c.args.session.now own c.args.table 0 read c.args.steps.now c.args.steps.now) (sym c.new-read.ensures.items)
    (steps_begin c.args.self.now own c.args.table c.args.session.now c.args.steps.now c.requires.session)

pub read_into-requires-clause-session : goal.read_into-requires-clause-session
read_into-requires-clause-session g c =
    let o = own_open c.args.session.now c.requires.busy in
    (c.loop-block.invariant o.0 o.1).scans.went.session

pub read_into-requires-clause-room : goal.read_into-requires-clause-room
read_into-requires-clause-room g c =
    let o = own_open c.args.session.now c.requires.busy in
    let s = (c.loop-block.invariant o.0 o.1).scans in
    let many = scans_count c.args.self.now c.args.session.now c.loop-block.session o.0 c.args.table c.loop-block.block c.loop-block.read.items s in
    let count = s.went.count in
    let events = count_by-le-length is_event s.made in
    let room = c.requires.room in
    let few = c.blocks-block-end.ensures.few in
    let below = c.loop-block-test.true in
    let end' = c.loop-block.auto.block-end in
    omega (arith, many, count, events, room, few, below, end')

pub read_into-requires-clause-busy : goal.read_into-requires-clause-busy
read_into-requires-clause-busy g c =
    let o = own_open c.args.session.now c.requires.busy in
    let s = (c.loop-block.invariant o.0 o.1).scans in
    ap (λ (x : Option OwnTransaction). is_some x) s.went.opened ∙ c.requires.busy

pub returns-in_err-read_into-clause-session : goal.returns-in_err-read_into-clause-session
returns-in_err-read_into-clause-session g c =
    let o = own_open c.args.session.now c.requires.busy in
    let s = (c.loop-block.invariant o.0 o.1).scans in
    (c.read_into.ensures o.0 (s.went.opened ∙ o.1)).reads.session

pub returns-in_err-read_into-clause-same : goal.returns-in_err-read_into-clause-same
returns-in_err-read_into-clause-same g c =
    let o = own_open c.args.session.now c.requires.busy in
    let s = (c.loop-block.invariant o.0 o.1).scans in
    (c.read_into.ensures o.0 (s.went.opened ∙ o.1)).reads.same ∙ s.went.same

pub returns-in_err-read_into-clause-answers : goal.returns-in_err-read_into-clause-answers
returns-in_err-read_into-clause-answers g c =
    let st = c.args.self.now in
    let o = own_open c.args.session.now c.requires.busy in
    let s = (c.loop-block.invariant o.0 o.1).scans in
    let r = c.read_into.ensures o.0 (s.went.opened ∙ o.1) in
    let blocks : c.blocks-block-end.result ≡ blocks_of (shape_in st) c.args.table = c.blocks-block-end.ensures.blocks ∙ ap (λ (sh : Shape). blocks_of sh c.args.table) (c.shape-shape.ensures ∙ c.self.invariant.shape ∙ ap shape_in c.self.view_is) in
    let below = c.loop-block-test.true in
    let end' = c.loop-block.auto.block-end in
    subst (λ (line : Said). Answers st c.args.session.now c.read_into.new.session (Scan c.args.table) line) (sym (unscanned c.from_residual.result c.from_residual.ensures.0))
    (scan_unread st o.0 c.args.table c.args.session.now c.requires.session o.1 c.loop-block.session c.read_into.new.session c.loop-block.block c.loop-block.read.items r.told
    (omega (arith, blocks, below, end')) s r.reads (keeps_none (free_on s.went.reads c.requires.free) r.free))

pub returns-in_err-read_into-clause-steps : goal.returns-in_err-read_into-clause-steps
returns-in_err-read_into-clause-steps g c =
    let st = c.args.self.now in
    let o = own_open c.args.session.now c.requires.busy in
    let s = c.loop-block.invariant o.0 o.1 in
    let r = c.read_into.ensures o.0 (s.scans.went.opened ∙ o.1) in
    let blocks : c.blocks-block-end.result ≡ blocks_of (shape_in st) c.args.table = c.blocks-block-end.ensures.blocks ∙ ap (λ (sh : Shape). blocks_of sh c.args.table) (c.shape-shape.ensures ∙ c.self.invariant.shape ∙ ap shape_in c.self.view_is) in
    let below = c.loop-block-test.true in
    let end' = c.loop-block.auto.block-end in
    subst (λ (line : Said). ReadsOnce st c.args.session.now c.read_into.new.session c.args.table line c.args.steps.now c.read_into.new.steps) (sym (unscanned c.from_residual.result c.from_residual.ensures.0))
    (steps_break st o.0 c.args.table c.args.session.now c.loop-block.session c.read_into.new.session c.loop-block.block c.loop-block.read.items r.told
    c.args.steps.now c.loop-block.steps c.read_into.new.steps s r.reads (keeps_none (free_on s.scans.went.reads c.requires.free) r.free) (omega (arith, blocks, below, end')) r.few
    c.requires.session o.1 r.unlooked)

pub loop-block-preserved : goal.loop-block-preserved
loop-block-preserved g c own is =
    let st = c.args.self.now in
    let s = c.loop-block.invariant own is in
    let r = c.in_ok-read_into.ensures own (s.scans.went.opened ∙ is) in
    let blocks : c.blocks-block-end.result ≡ blocks_of (shape_in st) c.args.table = c.blocks-block-end.ensures.blocks ∙ ap (λ (sh : Shape). blocks_of sh c.args.table) (c.shape-shape.ensures ∙ c.self.invariant.shape ∙ ap shape_in c.self.view_is) in
    let below = c.loop-block-test.true in
    let end' = c.loop-block.auto.block-end in
    steps_go_on st own c.args.table c.args.session.now c.loop-block.session c.read_into.new.session c.loop-block.block c.loop-block.read.items r.told
    c.args.steps.now c.loop-block.steps c.read_into.new.steps s r.reads (keeps_none (free_on s.scans.went.reads c.requires.free) r.free) (omega (arith, blocks, below, end')) r.few
    c.read_into.new.rows.items r.granted r.rows

pub read_into-requires-clause-free : goal.read_into-requires-clause-free
read_into-requires-clause-free g c =
    let o = own_open c.args.session.now c.requires.busy in
    free_on (c.loop-block.invariant o.0 o.1).scans.went.reads c.requires.free

pub returns-in_err-read_into-clause-finds : goal.returns-in_err-read_into-clause-finds
returns-in_err-read_into-clause-finds g c =
    let o = own_open c.args.session.now c.requires.busy in
    let s = (c.loop-block.invariant o.0 o.1).scans in
    let r = c.read_into.ensures o.0 (s.went.opened ∙ o.1) in
    scan_unread_finds c.args.self.now c.args.session.now c.loop-block.session c.read_into.new.session o.0 c.args.table c.loop-block.block c.loop-block.read.items r.told
    c.from_residual.result s r.reads c.from_residual.ensures.0

pub returns-in_err-read_into-clause-few : goal.returns-in_err-read_into-clause-few
returns-in_err-read_into-clause-few g c =
    let o = own_open c.args.session.now c.requires.busy in
    let s = (c.loop-block.invariant o.0 o.1).scans in
    let many = scans_count c.args.self.now c.args.session.now c.loop-block.session o.0 c.args.table c.loop-block.block c.loop-block.read.items s in
    let count = s.went.count in
    let events = count_by-le-length is_event s.made in
    let r = (c.read_into.ensures o.0 (s.went.opened ∙ o.1)).reads in
    let one = r.count in
    let once = read_once c.loop-block.session.session o.0 c.args.table c.loop-block.block _ r.made r.is_read in
    let few = c.blocks-block-end.ensures.few in
    let below = c.loop-block-test.true in
    let end' = c.loop-block.auto.block-end in
    omega (arith, many, count, events, one, once, few, below, end')

pub returns-in_err-rows-clause-session : goal.returns-in_err-rows-clause-session
returns-in_err-rows-clause-session g c =
    let o = own_open c.args.session.now c.requires.busy in
    (c.loop-block.invariant o.0 o.1).scans.went.session

pub returns-in_err-rows-clause-same : goal.returns-in_err-rows-clause-same
returns-in_err-rows-clause-same g c =
    let o = own_open c.args.session.now c.requires.busy in
    (c.loop-block.invariant o.0 o.1).scans.went.same

pub returns-in_err-rows-clause-answers : goal.returns-in_err-rows-clause-answers
returns-in_err-rows-clause-answers g c =
    let st = c.args.self.now in
    let o = own_open c.args.session.now c.requires.busy in
    let s = (c.loop-block.invariant o.0 o.1).scans in
    let blocks : c.blocks-block-end.result ≡ blocks_of (shape_in st) c.args.table = c.blocks-block-end.ensures.blocks ∙ ap (λ (sh : Shape). blocks_of sh c.args.table) (c.shape-shape.ensures ∙ c.self.invariant.shape ∙ ap shape_in c.self.view_is) in
    let done = c.loop-block-test.false in
    let end' = c.loop-block.auto.block-end in
    let all : c.loop-block.block ≡ blocks_of (shape_in st) c.args.table = omega (arith, blocks, done, end') in
    subst (λ (line : Said). Answers st c.args.session.now c.loop-block.session (Scan c.args.table) line) (sym (unscanned c.from_residual-in_err-rows.result c.from_residual-in_err-rows.ensures.0))
    (scan_unlaid st o.0 c.args.table c.args.session.now c.requires.session o.1 c.loop-block.session c.loop-block.block c.loop-block.read.items (omega (arith, all)) s)

pub returns-in_err-rows-clause-steps : goal.returns-in_err-rows-clause-steps
returns-in_err-rows-clause-steps g c =
    let st = c.args.self.now in
    let o = own_open c.args.session.now c.requires.busy in
    let s = c.loop-block.invariant o.0 o.1 in
    let blocks : c.blocks-block-end.result ≡ blocks_of (shape_in st) c.args.table = c.blocks-block-end.ensures.blocks ∙ ap (λ (sh : Shape). blocks_of sh c.args.table) (c.shape-shape.ensures ∙ c.self.invariant.shape ∙ ap shape_in c.self.view_is) in
    let done = c.loop-block-test.false in
    let end' = c.loop-block.auto.block-end in
    let all : c.loop-block.block ≡ blocks_of (shape_in st) c.args.table = omega (arith, blocks, done, end') in
    subst (λ (line : Said). ReadsOnce st c.args.session.now c.loop-block.session c.args.table line c.args.steps.now c.loop-block.steps) (sym (unscanned c.from_residual-in_err-rows.result c.from_residual-in_err-rows.ensures.0))
    (steps_unlaid st o.0 c.args.table c.args.session.now c.loop-block.session c.loop-block.read.items c.args.steps.now c.loop-block.steps c.requires.session o.1
    (subst (λ k. ScansBy st c.args.session.now c.loop-block.session o.0 c.args.table k c.loop-block.read.items c.args.steps.now c.loop-block.steps) all s))

pub returns-in_err-rows-clause-finds : goal.returns-in_err-rows-clause-finds
returns-in_err-rows-clause-finds g c =
    let st = c.args.self.now in
    let o = own_open c.args.session.now c.requires.busy in
    let s = (c.loop-block.invariant o.0 o.1).scans in
    let blocks : c.blocks-block-end.result ≡ blocks_of (shape_in st) c.args.table = c.blocks-block-end.ensures.blocks ∙ ap (λ (sh : Shape). blocks_of sh c.args.table) (c.shape-shape.ensures ∙ c.self.invariant.shape ∙ ap shape_in c.self.view_is) in
    let done = c.loop-block-test.false in
    let end' = c.loop-block.auto.block-end in
    let all : c.loop-block.block ≡ blocks_of (shape_in st) c.args.table = omega (arith, blocks, done, end') in
    scan_unlaid_finds st c.args.session.now c.loop-block.session o.0 c.args.table c.loop-block.read.items c.from_residual-in_err-rows.result c.requires.session o.1
    (subst (λ k. Scans st c.args.session.now c.loop-block.session o.0 c.args.table k c.loop-block.read.items) all s) c.from_residual-in_err-rows.ensures.0

pub returns-in_err-rows-clause-few : goal.returns-in_err-rows-clause-few
returns-in_err-rows-clause-few g c =
    let o = own_open c.args.session.now c.requires.busy in
    let s = (c.loop-block.invariant o.0 o.1).scans in
    let many = scans_count c.args.self.now c.args.session.now c.loop-block.session o.0 c.args.table c.loop-block.block c.loop-block.read.items s in
    let count = s.went.count in
    let events = count_by-le-length is_event s.made in
    let few = c.blocks-block-end.ensures.few in
    let end' = c.loop-block.auto.block-end in
    omega (arith, many, count, events, few, end')

pub mark-requires : goal.mark-requires
mark-requires g c =
    let measures = measures_of c.args.self.now c.args.session.now c.requires.session in
    let tables = measures.tables in
    let table = c.requires.table in
    omega (arith, tables, table)

pub returns-clause-session : goal.returns-clause-session
returns-clause-session g c =
    let o = own_open c.args.session.now c.requires.busy in
    subst (λ (reads : Option ReadSet). IsSession c.args.self.now (record { pass = c.loop-block.session.pass; session = c.loop-block.session.session; snapshot = c.loop-block.session.snapshot; writes = c.loop-block.session.writes; reads = reads; kept = c.loop-block.session.kept })) (sym c.mark.ensures)
    (swept_session c.args.self.now c.loop-block.session c.args.table c.requires.table (c.loop-block.invariant o.0 o.1).scans.went.session)

pub returns-clause-same : goal.returns-clause-same
returns-clause-same g c =
    let o = own_open c.args.session.now c.requires.busy in
    (c.loop-block.invariant o.0 o.1).scans.went.same

pub returns-clause-answers : goal.returns-clause-answers
returns-clause-answers g c =
    let st = c.args.self.now in
    let o = own_open c.args.session.now c.requires.busy in
    let s = (c.loop-block.invariant o.0 o.1).scans in
    let blocks : c.blocks-block-end.result ≡ blocks_of (shape_in st) c.args.table = c.blocks-block-end.ensures.blocks ∙ ap (λ (sh : Shape). blocks_of sh c.args.table) (c.shape-shape.ensures ∙ c.self.invariant.shape ∙ ap shape_in c.self.view_is) in
    let done = c.loop-block-test.false in
    let end' = c.loop-block.auto.block-end in
    let all : c.loop-block.block ≡ blocks_of (shape_in st) c.args.table = omega (arith, blocks, done, end') in
    subst (λ (reads : Option ReadSet). Answers st c.args.session.now (record { pass = c.loop-block.session.pass; session = c.loop-block.session.session; snapshot = c.loop-block.session.snapshot; writes = c.loop-block.session.writes; reads = reads; kept = c.loop-block.session.kept }) (Scan c.args.table) (Scanned c.in_ok-rows.rows)) (sym c.mark.ensures)
    (scan_ends st o.0 c.args.table c.args.session.now c.loop-block.session c.loop-block.read.items c.in_ok-rows.rows c.requires.session o.1
    (subst (λ k. Scans st c.args.session.now c.loop-block.session o.0 c.args.table k c.loop-block.read.items) all s)
    (c.in_ok-rows.ensures c.args.table
    (scan_once st c.args.session.now c.loop-block.session o.0 c.args.table c.loop-block.read.items c.requires.session o.1 (subst (λ k. Scans st c.args.session.now c.loop-block.session o.0 c.args.table k c.loop-block.read.items) all s))))

pub returns-clause-steps : goal.returns-clause-steps
returns-clause-steps g c =
    let st = c.args.self.now in
    let o = own_open c.args.session.now c.requires.busy in
    let s = c.loop-block.invariant o.0 o.1 in
    let blocks : c.blocks-block-end.result ≡ blocks_of (shape_in st) c.args.table = c.blocks-block-end.ensures.blocks ∙ ap (λ (sh : Shape). blocks_of sh c.args.table) (c.shape-shape.ensures ∙ c.self.invariant.shape ∙ ap shape_in c.self.view_is) in
    let done = c.loop-block-test.false in
    let end' = c.loop-block.auto.block-end in
    let all : c.loop-block.block ≡ blocks_of (shape_in st) c.args.table = omega (arith, blocks, done, end') in
    subst (λ (reads : Option ReadSet). ReadsOnce st c.args.session.now (record { pass = c.loop-block.session.pass; session = c.loop-block.session.session; snapshot = c.loop-block.session.snapshot; writes = c.loop-block.session.writes; reads = reads; kept = c.loop-block.session.kept }) c.args.table (Scanned c.in_ok-rows.rows) c.args.steps.now c.loop-block.steps) (sym c.mark.ensures)
    (steps_end st o.0 c.args.table c.args.session.now c.loop-block.session c.loop-block.read.items c.args.steps.now c.loop-block.steps c.in_ok-rows.rows c.requires.session o.1
    (subst (λ k. ScansBy st c.args.session.now c.loop-block.session o.0 c.args.table k c.loop-block.read.items c.args.steps.now c.loop-block.steps) all s)
    (c.in_ok-rows.ensures c.args.table
    (scan_once st c.args.session.now c.loop-block.session o.0 c.args.table c.loop-block.read.items c.requires.session o.1 (subst (λ k. Scans st c.args.session.now c.loop-block.session o.0 c.args.table k c.loop-block.read.items) all s.scans))))

pub returns-clause-finds : goal.returns-clause-finds
returns-clause-finds g c =
    let st = c.args.self.now in
    let o = own_open c.args.session.now c.requires.busy in
    let s = (c.loop-block.invariant o.0 o.1).scans in
    let blocks : c.blocks-block-end.result ≡ blocks_of (shape_in st) c.args.table = c.blocks-block-end.ensures.blocks ∙ ap (λ (sh : Shape). blocks_of sh c.args.table) (c.shape-shape.ensures ∙ c.self.invariant.shape ∙ ap shape_in c.self.view_is) in
    let done = c.loop-block-test.false in
    let end' = c.loop-block.auto.block-end in
    let all : c.loop-block.block ≡ blocks_of (shape_in st) c.args.table = omega (arith, blocks, done, end') in
    subst (λ (reads : Option ReadSet). FindsRows st c.args.session.now (record { pass = c.loop-block.session.pass; session = c.loop-block.session.session; snapshot = c.loop-block.session.snapshot; writes = c.loop-block.session.writes; reads = reads; kept = c.loop-block.session.kept }) c.args.table (Ok c.in_ok-rows.rows)) (sym c.mark.ensures)
    (swept_finds st c.args.session.now c.loop-block.session c.args.table (Ok c.in_ok-rows.rows)
    (scan_finds st c.args.session.now c.loop-block.session o.0 c.args.table c.loop-block.read.items (Ok c.in_ok-rows.rows) c.requires.session o.1
    (subst (λ k. Scans st c.args.session.now c.loop-block.session o.0 c.args.table k c.loop-block.read.items) all s)
    (c.in_ok-rows.ensures c.args.table
    (scan_once st c.args.session.now c.loop-block.session o.0 c.args.table c.loop-block.read.items c.requires.session o.1 (subst (λ k. Scans st c.args.session.now c.loop-block.session o.0 c.args.table k c.loop-block.read.items) all s)))))

pub returns-clause-few : goal.returns-clause-few
returns-clause-few g c =
    let o = own_open c.args.session.now c.requires.busy in
    let s = (c.loop-block.invariant o.0 o.1).scans in
    let many = scans_count c.args.self.now c.args.session.now c.loop-block.session o.0 c.args.table c.loop-block.block c.loop-block.read.items s in
    let count = s.went.count in
    let events = count_by-le-length is_event s.made in
    let few = c.blocks-block-end.ensures.few in
    let end' = c.loop-block.auto.block-end in
    omega (arith, many, count, events, few, end')

pub rows_in_order-requires : goal.rows_in_order-requires
rows_in_order-requires g c =
    let o = own_open c.args.session.now c.requires.busy in
    let s = (c.loop-block.invariant o.0 o.1).scans in
    let columns = c.schema.ensures.columns ∙ ap (λ (sh : Shape). columns_in sh c.args.table) (c.shape-shape.ensures ∙ c.self.invariant.shape ∙ ap shape_in c.self.view_is) in
    subst (λ (columns : List Column). All (Fits columns) c.loop-block.read.items) (sym columns) s.fits
