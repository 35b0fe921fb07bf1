use Rattle.isolation_laws.proofs.Keys.{are_distinct-push, are_distinct-front, has_key-append, is_some-row_at, row_at-None, has_key-false}
use Rattle.isolation_laws.proofs.laws.keys_go_on_from_row_to_row.Goals as goal

pub returns-clause-distinct : goal.returns-clause-distinct
returns-clause-distinct c = are_distinct-push

pub returns-clause-front : goal.returns-clause-front
returns-clause-front c = are_distinct-front

pub returns-clause-both : goal.returns-clause-both
returns-clause-both c = has_key-append

pub returns-clause-found : goal.returns-clause-found
returns-clause-found c = is_some-row_at

pub returns-clause-missed : goal.returns-clause-missed
returns-clause-missed c = λ key rows. (has_key-false key rows, row_at-None key rows)
