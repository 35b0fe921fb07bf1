use Rattle.std.proofs.Common.{◌≡◌, All, Some, map, rules, sym, ap, ◌∙◌, subst}
use Rattle.std.specs.Prelude.{IfSome}
use Rattle.std.specs.Option.{option_or}
use Rattle.core_events.proofs.Judging.{by_reads, has_got, keys_then_tables, some_by, the_desk}
use Rattle.core_events.proofs.Ranging.{has_ranges}
use Rattle.core_events.specs.Ranges.{HasRange}
use Rattle.core_events.specs.Stale.{newest_at, range_read}
use Rattle.event_spec.specs.Lawful.{HasReads}
use Rattle.event_spec.specs.Newest.{judged_reads}
use Rattle.isolation_spec.specs.declared.read.Read.TheVariants as read
use Rattle.isolation_spec.specs.Reads.{first_stale}
use Rattle.core_events.proofs.stale.stale_read.Goals as goal

pub stale_key-requires : goal.stale_key-requires
stale_key-requires c =
    let judged : judged_reads c.args.own.now.writes c.args.reads.now ≡ Some c.in-Some.reads =
    by_reads c.args.own.now c.args.reads.now c.in-Some.reads (some_by c.args.own.now c.by_row.result.now.entries c.by_row.ensures (search rules)) c.in-Some.is in
    let lawful : HasReads c.args.shape.now c.in-Some.reads = subst (λ o. IfSome o (HasReads c.args.shape.now)) c.in-Some.is c.requires.lawful.1.1 in
    has_got c.args.shape.now c.args.own.now c.args.reads.now c.args.held.now c.requires c.in-Some.reads judged lawful

pub stale_table-requires : goal.stale_table-requires
stale_table-requires c = the_desk c.args.shape.now c.args.own.now c.args.reads.now c.args.held.now c.requires

pub stale_range-requires : goal.stale_range-requires
stale_range-requires c =
    let judged : judged_reads c.args.own.now.writes c.args.reads.now ≡ Some c.in-Some.reads =
    by_reads c.args.own.now c.args.reads.now c.in-Some.reads (some_by c.args.own.now c.by_row.result.now.entries c.by_row.ensures (search rules)) c.in-Some.is in
    let lawful : HasReads c.args.shape.now c.in-Some.reads = subst (λ o. IfSome o (HasReads c.args.shape.now)) c.in-Some.is c.requires.lawful.1.1 in
    subst (All (HasRange c.args.shape.now c.args.held.now)) (sym c.ranges-2.ensures) (has_ranges c.args.shape.now c.args.own.now c.args.reads.now c.args.held.now c.requires c.in-Some.reads judged lawful)

pub returns-in-Some-stale_key : goal.returns-in-Some-stale_key
returns-in-Some-stale_key c = λ s agrees.
    let judged : judged_reads c.args.own.now.writes c.args.reads.now ≡ Some c.in-Some.reads =
    by_reads c.args.own.now c.args.reads.now c.in-Some.reads (some_by c.args.own.now c.by_row.result.now.entries c.by_row.ensures (search rules)) c.in-Some.is in
    let last = newest_at c.args.shape.now s c.args.own.now.snapshot in
    let whole = keys_then_tables c.args.shape.now s c.args.own.now c.args.reads.now c.in-Some.reads judged in
    sym (whole
    ∙ ap (λ o. option_or (option_or o (first_stale last (map read.Table c.in-Some.reads.tables))) (first_stale last (map range_read c.in-Some.reads.ranges)))
    (sym (c.stale_key.ensures s agrees) ∙ c.in-Some-stale_key.is))

pub returns-in-Some-stale_table : goal.returns-in-Some-stale_table
returns-in-Some-stale_table c = λ s agrees.
    let judged : judged_reads c.args.own.now.writes c.args.reads.now ≡ Some c.in-Some.reads =
    by_reads c.args.own.now c.args.reads.now c.in-Some.reads (some_by c.args.own.now c.by_row.result.now.entries c.by_row.ensures (search rules)) c.in-Some.is in
    let last = newest_at c.args.shape.now s c.args.own.now.snapshot in
    let whole = keys_then_tables c.args.shape.now s c.args.own.now c.args.reads.now c.in-Some.reads judged in
    sym (whole
    ∙ ap (λ o. option_or (option_or o (first_stale last (map read.Table c.in-Some.reads.tables))) (first_stale last (map range_read c.in-Some.reads.ranges)))
    (sym (c.stale_key.ensures s agrees) ∙ c.in_default-stale_key.is)
    ∙ ap (λ o. option_or o (first_stale last (map range_read c.in-Some.reads.ranges)))
    (ap (λ tables. first_stale last (map read.Table tables)) (sym c.tables.ensures) ∙ sym (c.stale_table.ensures s agrees) ∙ c.in-Some-stale_table.is))

pub returns : goal.returns
returns c = λ s agrees.
    let judged : judged_reads c.args.own.now.writes c.args.reads.now ≡ Some c.in-Some.reads =
    by_reads c.args.own.now c.args.reads.now c.in-Some.reads (some_by c.args.own.now c.by_row.result.now.entries c.by_row.ensures (search rules)) c.in-Some.is in
    let last = newest_at c.args.shape.now s c.args.own.now.snapshot in
    let whole = keys_then_tables c.args.shape.now s c.args.own.now c.args.reads.now c.in-Some.reads judged in
    c.stale_range.ensures s agrees
    ∙ ap (λ ranges. first_stale last (map range_read ranges)) c.ranges-2.ensures
    ∙ sym (whole
    ∙ ap (λ o. option_or (option_or o (first_stale last (map read.Table c.in-Some.reads.tables))) (first_stale last (map range_read c.in-Some.reads.ranges)))
    (sym (c.stale_key.ensures s agrees) ∙ c.in_default-stale_key.is)
    ∙ ap (λ o. option_or o (first_stale last (map range_read c.in-Some.reads.ranges)))
    (ap (λ tables. first_stale last (map read.Table tables)) (sym c.tables.ensures) ∙ sym (c.stale_table.ensures s agrees) ∙ c.in_default-stale_table.is))
