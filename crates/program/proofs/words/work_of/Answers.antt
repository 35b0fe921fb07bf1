use Rattle.std.proofs.Common.{◌≡◌, List, Some, ap, ◌∙◌, sym, map, string_bytes}
use Rattle.clap.specs.Words.{Row, Text, app_of, found_of, is_simple, kind_of, rows_of, subcommand_of}
use Rattle.program.proofs.Asking.{mainline_is_simple, stopped_ask, stopped_ill, stopped_well, subcommand_met, taken_ask}
use Rattle.program.proofs.words.work_of.Goals as goal

pub returns-in-Some-named-clause-ok : goal.returns-in-Some-named-clause-ok
returns-in-Some-named-clause-ok c =
    let rows : List Row = rows_of (found_of c.in-Some.inner.now) in
    let words : List Text = map string_bytes c.args.words.now in
    let named : Some (c.in-Some.name.now, rows) ≡ subcommand_of (app_of c.in-Ok.command) words =
    sym (subcommand_met c.in-Ok-try_get_matches_from.matches c.in-Some.name.now rows c.in-Some.ensures.name c.in-Some.ensures.rows)
    ∙ (c.in-Ok-try_get_matches_from.ensures.matches (ap is_simple c.in-Ok.ensures ∙ mainline_is_simple)).1 in
    taken_ask (app_of c.in-Ok.command) words c.try_get_matches_from.result c.in-Ok-try_get_matches_from.matches (Some (c.in-Some.name.now, rows))
    c.in-Ok.ensures c.try_get_matches_from.ensures.kinds c.in-Ok-try_get_matches_from.is named
    ∙ sym c.in-Some-named.ensures.asked

pub returns-in-Some-clause-usage : goal.returns-in-Some-clause-usage
returns-in-Some-clause-usage c = λ _.
    let rows : List Row = rows_of (found_of c.in-Some.inner.now) in
    let words : List Text = map string_bytes c.args.words.now in
    let named : Some (c.in-Some.name.now, rows) ≡ subcommand_of (app_of c.in-Ok.command) words =
    sym (subcommand_met c.in-Ok-try_get_matches_from.matches c.in-Some.name.now rows c.in-Some.ensures.name c.in-Some.ensures.rows)
    ∙ (c.in-Ok-try_get_matches_from.ensures.matches (ap is_simple c.in-Ok.ensures ∙ mainline_is_simple)).1 in
    taken_ask (app_of c.in-Ok.command) words c.try_get_matches_from.result c.in-Ok-try_get_matches_from.matches (Some (c.in-Some.name.now, rows))
    c.in-Ok.ensures c.try_get_matches_from.ensures.kinds c.in-Ok-try_get_matches_from.is named
    ∙ sym c.in-None-named.ensures.asked

pub returns-clause-ok : goal.returns-clause-ok
returns-clause-ok c =
    stopped_well (map string_bytes c.args.words.now) (kind_of c.in-Err.fault)
    (stopped_ask (app_of c.in-Ok.command) (map string_bytes c.args.words.now) c.try_get_matches_from.result c.in-Err.fault
    c.in-Ok.ensures c.try_get_matches_from.ensures.kinds c.in-Err.is)
    c.stopped.result c.stopped.ensures.memory c.stopped.ensures.ok

pub returns-clause-usage : goal.returns-clause-usage
returns-clause-usage c =
    stopped_ill (map string_bytes c.args.words.now) (kind_of c.in-Err.fault)
    (stopped_ask (app_of c.in-Ok.command) (map string_bytes c.args.words.now) c.try_get_matches_from.result c.in-Err.fault
    c.in-Ok.ensures c.try_get_matches_from.ensures.kinds c.in-Err.is)
    c.stopped.result c.stopped.ensures.memory c.stopped.ensures.usage
