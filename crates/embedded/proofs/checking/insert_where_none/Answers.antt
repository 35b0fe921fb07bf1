use Rattle.std.proofs.Common.{ℕ, Option, [], sym, subst, ◌∙◌}
use Rattle.std.specs.Prelude.{Ok}
use Rattle.std.specs.Int.{w64}
use Rattle.std.proofs.lemmas.Int.{to_z-of_z}
use Rattle.isolation_spec.specs.Contents.{place_at, place_of}
use Rattle.shared_store.specs.Open.{Commits, commits_seen}
use Rattle.embedded.proofs.Tries.{error_unwritten, found, found_none, gets, inserted, is_numbered, more_calls, nothing, one_call, overtaken, reads_key, stale_none, written_none}
use Rattle.embedded.proofs.checking.insert_where_none.Goals as goal

pub returns-in-Some-clause-tried : goal.returns-in-Some-clause-tried
returns-in-Some-clause-tried g c =
    let st = c.args.store.now in
    let commits = commits_seen st c.args.session.now in
    let got = gets st c.args.session.now c.get.new.session commits c.args.table _ c.args.watched c.in_ok-found.field-0 (to_z-of_z w64 c.args.watched c.ranges.watched) c.in_ok-found.ensures.finds c.requires.fresh in
    found st c.args.session.now c.get.new.session (place_at c.args.table c.args.watched) c.in-Some.found got.0 (sym got.1 ∙ c.in-Some.is)

pub insert-requires-clause-busy : goal.insert-requires-clause-busy
insert-requires-clause-busy g c =
    let st = c.args.store.now in
    let commits = commits_seen st c.args.session.now in
    (gets st c.args.session.now c.get.new.session commits c.args.table _ c.args.watched c.in_ok-found.field-0 (to_z-of_z w64 c.args.watched c.ranges.watched) c.in_ok-found.ensures.finds c.requires.fresh).0.busy

pub commit-requires-clause-busy : goal.commit-requires-clause-busy
commit-requires-clause-busy g c =
    let st = c.args.store.now in
    let commits = commits_seen st c.args.session.now in
    let got = gets st c.args.session.now c.get.new.session commits c.args.table _ c.args.watched c.in_ok-found.field-0 (to_z-of_z w64 c.args.watched c.ranges.watched) c.in_ok-found.ensures.finds c.requires.fresh in
    (c.in_ok-insert.ensures.writes commits [] got.0).busy

pub unwrap-requires : goal.unwrap-requires
unwrap-requires g c =
    let st = c.args.store.now in
    let commits = commits_seen st c.args.session.now in
    let got = gets st c.args.session.now c.get.new.session commits c.args.table _ c.args.watched c.in_ok-found.field-0 (to_z-of_z w64 c.args.watched c.ranges.watched) c.in_ok-found.ensures.finds c.requires.fresh in
    is_numbered st c.args.session.now c.insert.new.session c.commit.new.session (place_of c.args.table c.args.row) c.args.row
    (c.in_ok-insert.ensures.writes commits [] got.0) c.in-Ok.number (subst (Commits st c.insert.new.session c.commit.new.session) c.in-Ok.is c.commit.ensures.commits)

pub returns-in-Ok-clause-tried : goal.returns-in-Ok-clause-tried
returns-in-Ok-clause-tried g c =
    let st = c.args.store.now in
    let commits = commits_seen st c.args.session.now in
    let key = to_z-of_z w64 c.args.watched c.ranges.watched in
    let got = gets st c.args.session.now c.get.new.session commits c.args.table _ c.args.watched c.in_ok-found.field-0 key c.in_ok-found.ensures.finds c.requires.fresh in
    inserted st c.args.session.now c.insert.new.session c.commit.new.session (place_at c.args.table c.args.watched) (place_of c.args.table c.args.row) c.args.row
    (sym got.1 ∙ nothing c.in_ok-found.field-0 c.in_default.not-Some)
    (c.in_ok-insert.ensures.writes commits [] got.0)
    (c.in_ok-insert.ensures.answers.keeps ∙ reads_key c.args.session.now c.get.new.session c.args.table _ c.args.watched c.in_ok-found.field-0 key c.requires.checked c.in_ok-found.ensures.answers.keeps)
    c.unwrap.result
    (subst (λ (number : Option ℕ). Commits st c.insert.new.session c.commit.new.session (Ok number)) c.unwrap.ensures
    (subst (Commits st c.insert.new.session c.commit.new.session) c.in-Ok.is c.commit.ensures.commits))

pub returns-in-Err-clause-tried : goal.returns-in-Err-clause-tried
returns-in-Err-clause-tried g c =
    let st = c.args.store.now in
    let commits = commits_seen st c.args.session.now in
    let key = to_z-of_z w64 c.args.watched c.ranges.watched in
    let got = gets st c.args.session.now c.get.new.session commits c.args.table _ c.args.watched c.in_ok-found.field-0 key c.in_ok-found.ensures.finds c.requires.fresh in
    overtaken st c.args.session.now c.insert.new.session c.commit.new.session (place_at c.args.table c.args.watched) (place_of c.args.table c.args.row) c.args.row
    (sym got.1 ∙ nothing c.in_ok-found.field-0 c.in_default.not-Some)
    (c.in_ok-insert.ensures.writes commits [] got.0)
    (c.in_ok-insert.ensures.answers.keeps ∙ reads_key c.args.session.now c.get.new.session c.args.table _ c.args.watched c.in_ok-found.field-0 key c.requires.checked c.in_ok-found.ensures.answers.keeps)
    c.in-Err.field-0
    (subst (Commits st c.insert.new.session c.commit.new.session) c.in-Err.is c.commit.ensures.commits)

pub returns-in_err-found-clause-unwritten : goal.returns-in_err-found-clause-unwritten
returns-in_err-found-clause-unwritten g c =
    error_unwritten c.args.store.now c.args.session.now c.get.new.session c.from_residual.result c.from_residual.ensures.0
    (one_call c.args.store.now c.args.session.now c.get.new.session _ _ c.get.ensures.answers (found_none c.get.result))

pub returns-in-Some-clause-unwritten : goal.returns-in-Some-clause-unwritten
returns-in-Some-clause-unwritten g c = one_call c.args.store.now c.args.session.now c.get.new.session _ _ c.get.ensures.answers (found_none c.get.result)

pub returns-in_err-insert-clause-unwritten : goal.returns-in_err-insert-clause-unwritten
returns-in_err-insert-clause-unwritten g c =
    let st = c.args.store.now in
    error_unwritten st c.args.session.now c.insert.new.session c.from_residual-in_err-insert.result c.from_residual-in_err-insert.ensures.0
    (more_calls st c.args.session.now c.get.new.session c.insert.new.session
    (one_call st c.args.session.now c.get.new.session _ _ c.get.ensures.answers (found_none c.get.result))
    (one_call st c.get.new.session c.insert.new.session _ _ c.insert.ensures.answers (written_none c.args.table c.insert.result)))

pub returns-in-Err-clause-unwritten : goal.returns-in-Err-clause-unwritten
returns-in-Err-clause-unwritten g c =
    let st = c.args.store.now in
    more_calls st c.args.session.now c.insert.new.session c.commit.new.session
    (more_calls st c.args.session.now c.get.new.session c.insert.new.session
    (one_call st c.args.session.now c.get.new.session _ _ c.get.ensures.answers (found_none c.get.result))
    (one_call st c.get.new.session c.insert.new.session _ _ c.insert.ensures.answers (written_none c.args.table c.insert.result)))
    (one_call st c.insert.new.session c.commit.new.session _ _ c.commit.ensures.answers (stale_none c.commit.result c.in-Err.field-0 c.in-Err.is))
