use Rattle.std.proofs.Common.{◌≡◌, refl, sym, ap, ◌∙◌, Some, List, ℕ, drop, subst, arith}
use Rattle.workload_spec.specs.declared.reply.Who.TheVariants.{Session}
use Rattle.outcome_spec.specs.Tables.{columns_at}
use Rattle.output_read.specs.declared.reader.Heading.{Heading}
use Rattle.output_read.specs.declared.kept.Told.TheVariants as told
use Rattle.output_read.specs.Fronts.{count_first}
use Rattle.output_read.specs.Readers.{lines_left}
use Rattle.output_read.specs.Threads.{ThreadGoes}
use Rattle.output_read.proofs.RowLines.{above-short}
use Rattle.output_read.proofs.SessionReplies.{heading-low, scan-goes, scan-lacks, columns-is, columns-some, table-there, count-of, rows-most, taken-said, taken-told, taken-text}
use Rattle.output_read.proofs.reader.Reader.scan_reply.Goals as goal

pub rows_above-requires : goal.rows_above-requires
rows_above-requires c =
    let place = table-there c.args.self.now c.args.thread c.args.command.now c.requires.tables c.requires.reading c.requires.thread c.requires.command c.args.table c.requires.scan (columns_at c.args.self.now.tables.now c.args.table) refl in
    columns-some c.args.self.now c.args.thread c.args.command.now c.requires.tables c.requires.reading c.requires.thread c.requires.command c.args.table c.requires.scan _ (columns-is c.args.self.now.tables.now c.args.table c.index-tables-table.result place)

pub overflow_add-result-then-rows-count : goal.overflow_add-result-then-rows-count
overflow_add-result-then-rows-count c =
    let a = above-short _ c.in-Some.count c.in-Some.lines.now c.in_ok-rows.rows c.in_ok-rows.behind.now c.in_ok-rows.ensures in
    let b = c.in-Some.ensures.shorter in
    let d = c.requires.reading.room in
    omega (arith, a, b, d)

pub returns-then-rows-count-clause-failed : goal.returns-then-rows-count-clause-failed
returns-then-rows-count-clause-failed c =
    let old = c.args.self.now in
    let place = table-there old c.args.thread c.args.command.now c.requires.tables c.requires.reading c.requires.thread c.requires.command c.args.table c.requires.scan (columns_at old.tables.now c.args.table) refl in
    let count_is = c.in-Some.ensures.count ∙ ap (λ (h : Heading). count_first h.round h.who h.index (lines_left old)) c.next_heading-heading.ensures in
    let l = count-of c.args.thread.round (Session c.args.thread.session) _ (lines_left old) c.in-Some.count count_is in
    let lines_is = sym c.in-Some.ensures.behind ∙ ap (λ (ls : List (List ℕ)). drop 1 ls) l.is in
    scan-lacks old c.args.thread c.args.command.now c.requires.tables c.requires.reading c.requires.thread c.requires.command c.args.table c.requires.scan _ (columns-is old.tables.now c.args.table c.index-tables-table.result place)
    c.in-Some.count l.line l.behind l.is l.counts c.in-Some.lines.now c.in_ok-rows.behind.now c.in_ok-rows.rows c.in_ok-rows.ensures lines_is c.if-rows-count.true

pub overflow_add-count : goal.overflow_add-count
overflow_add-count c =
    let a = above-short _ c.in-Some.count c.in-Some.lines.now c.in_ok-rows.rows c.in_ok-rows.behind.now c.in_ok-rows.ensures in
    let b = c.in-Some.ensures.shorter in
    let d = c.requires.reading.room in
    let e = c.if-rows-count.false in
    omega (arith, a, b, d, e)

pub overflow_cast-told : goal.overflow_cast-told
overflow_cast-told c =
    let a = above-short _ c.in-Some.count c.in-Some.lines.now c.in_ok-rows.rows c.in_ok-rows.behind.now c.in_ok-rows.ensures in
    let b = c.in-Some.ensures.shorter in
    let d = c.requires.reading.room in
    let e = c.if-rows-count.false in
    omega (arith, a, b, d, e)

pub keep-requires : goal.keep-requires
keep-requires c =
    let a = above-short _ c.in-Some.count c.in-Some.lines.now c.in_ok-rows.rows c.in_ok-rows.behind.now c.in_ok-rows.ensures in
    let b = c.in-Some.ensures.shorter in
    let d = c.requires.reading.room in
    let e = c.if-rows-count.false in
    let f = heading-low c.args.self.now c.args.thread c.args.command.now c.requires.tables c.requires.reading c.requires.thread c.requires.command in
    let g = ap (λ (h : Heading). h.index) c.next_heading-heading.ensures in
    record { room = omega (arith, a, b, d, e); number = omega (arith, a, b, d, e); index = omega (arith, a, b, d, e, f, g) }

pub returns-clause-read : goal.returns-clause-read
returns-clause-read c =
    let old = c.args.self.now in
    let h = c.next_heading-heading.ensures in
    let place = table-there old c.args.thread c.args.command.now c.requires.tables c.requires.reading c.requires.thread c.requires.command c.args.table c.requires.scan (columns_at old.tables.now c.args.table) refl in
    let columns_are = columns-is old.tables.now c.args.table c.index-tables-table.result place in
    let count_is = c.in-Some.ensures.count ∙ ap (λ (x : Heading). count_first x.round x.who x.index (lines_left old)) h in
    let l = count-of c.args.thread.round (Session c.args.thread.session) _ (lines_left old) c.in-Some.count count_is in
    let lines_is = sym c.in-Some.ensures.behind ∙ ap (λ (ls : List (List ℕ)). drop 1 ls) l.is in
    let most = rows-most old c.args.thread c.args.command.now c.requires.tables c.requires.reading c.requires.thread c.requires.command c.args.table c.requires.scan _ columns_are
    c.in-Some.count l.line l.behind l.is l.counts c.in-Some.lines.now c.in_ok-rows.behind.now c.in_ok-rows.rows c.in_ok-rows.ensures lines_is in
    let least = c.if-rows-count.false in
    let full : c.in_ok-rows.rows ≡ c.in-Some.count = omega (arith, most, least) in
    let text = c.split_at.ensures.front ∙ taken-text old c.args.thread c.args.command.now c.requires.tables c.requires.reading c.requires.thread c.requires.command c.args.table c.requires.scan _ columns_are
    c.in-Some.count l.line l.behind l.is l.counts c.in-Some.lines.now c.in_ok-rows.behind.now c.in_ok-rows.rows c.in_ok-rows.ensures lines_is full _ refl in
    let said_is = taken-said old c.args.thread c.args.command.now c.requires.tables c.requires.reading c.requires.thread c.requires.command c.args.table c.requires.scan _ columns_are
    c.in-Some.count l.line l.behind l.is l.counts c.in-Some.lines.now c.in_ok-rows.behind.now c.in_ok-rows.rows c.in_ok-rows.ensures lines_is full _ text in
    let told_is = taken-told old c.args.thread c.args.command.now c.requires.tables c.requires.reading c.requires.thread c.requires.command c.args.table c.requires.scan _ columns_are
    c.in-Some.count l.line l.behind l.is l.counts c.in-Some.lines.now c.in_ok-rows.behind.now c.in_ok-rows.rows c.in_ok-rows.ensures lines_is full _ text in
    let goes = scan-goes old c.args.thread c.args.command.now c.requires.tables c.requires.reading c.requires.thread c.requires.command c.args.table c.requires.scan _ columns_are
    c.in-Some.count l.line l.behind l.is l.counts c.in-Some.lines.now c.in_ok-rows.behind.now c.in_ok-rows.rows c.in_ok-rows.ensures lines_is full
    c.keep.new.self _ _ c.keep.ensures.tables c.in_ok-keep.ensures.kept c.in_ok-keep.ensures.line c.in_ok-keep.ensures.rest c.in-Some.ensures.shorter
    (ap (λ (x : Heading). record { number = old.line; command = Some c.args.command; round = x.round; who = x.who; index = x.index; told = told.Scanned c.in-Some.count c.split_at.result.0 }) h) refl said_is
    told_is in
    subst (λ (x : Heading). ThreadGoes old c.keep.new.self c.args.thread (record { round = c.args.thread.round; session = c.args.thread.session; index = x.index; within = c.args.thread.within }) c.args.command.now) (sym h) goes
