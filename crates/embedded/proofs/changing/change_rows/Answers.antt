use Rattle.std.proofs.Common.{ℕ, Option, None, Some, [], sym, subst, ◌∙◌, arith}
use Rattle.std.specs.Prelude.{Ok}
use Rattle.std.specs.BTreeMap.{insert_entry}
use Rattle.std.specs.Int.{w64}
use Rattle.std.proofs.lemmas.Int.{to_z-of_z}
use Rattle.isolation_spec.specs.Contents.{place_cmp, place_of}
use Rattle.shared_store.specs.Open.{Commits, commits_seen}
use Rattle.shared_store.proofs.Claims.{free_on}
use Rattle.embedded.proofs.Changes.{all_put, finds_changes, inserted, is_numbered}
use Rattle.embedded.proofs.Handing.{begins, opens}
use Rattle.embedded.proofs.Plain.{plain_begun, plain_scanned}
use Rattle.embedded.proofs.Rooms.{told_done, told_memory, told_refused}
use Rattle.embedded.proofs.changing.change_rows.Goals as goal

pub insert-requires-2-clause-busy : goal.insert-requires-2-clause-busy
insert-requires-2-clause-busy g c =
    let st = c.args.store.now in
    let commits = commits_seen st c.begin.new.session in
    let begun = opens st c.args.one.now c.begin.new.session c.begin.result c.unwrap-began.result c.unwrap-began.ensures c.begin.ensures.opens in
    (c.in_ok-insert.ensures.writes commits [] begun.is_open).busy

pub update-requires-clause-busy : goal.update-requires-clause-busy
update-requires-clause-busy g c =
    let st = c.args.store.now in
    let commits = commits_seen st c.begin.new.session in
    let begun = opens st c.args.one.now c.begin.new.session c.begin.result c.unwrap-began.result c.unwrap-began.ensures c.begin.ensures.opens in
    (c.in_ok-insert-2.ensures.writes commits _ (c.in_ok-insert.ensures.writes commits [] begun.is_open)).busy

pub delete-requires-clause-busy : goal.delete-requires-clause-busy
delete-requires-clause-busy g c =
    let st = c.args.store.now in
    let commits = commits_seen st c.begin.new.session in
    let begun = opens st c.args.one.now c.begin.new.session c.begin.result c.unwrap-began.result c.unwrap-began.ensures c.begin.ensures.opens in
    (c.in_ok-update.ensures.writes commits _ (c.in_ok-insert-2.ensures.writes commits _ (c.in_ok-insert.ensures.writes commits [] begun.is_open))).busy

pub scan_uncounted-requires-clause-busy : goal.scan_uncounted-requires-clause-busy
scan_uncounted-requires-clause-busy g c =
    let st = c.args.store.now in
    let commits = commits_seen st c.begin.new.session in
    let begun = opens st c.args.one.now c.begin.new.session c.begin.result c.unwrap-began.result c.unwrap-began.ensures c.begin.ensures.opens in
    let put = all_put st c.begin.new.session c.insert.new.session c.insert-2.new.session c.update.new.session c.delete.new.session c.args.table _ c.args.first c.args.second c.args.changed commits
    c.requires.kept (c.requires.dropped ∙ sym (to_z-of_z w64 c.args.key c.ranges.key)) begun.is_open
    c.in_ok-insert.ensures.writes c.in_ok-insert-2.ensures.writes c.in_ok-update.ensures.writes c.in_ok-delete.ensures.writes in
    put.busy

pub commit-requires-clause-busy : goal.commit-requires-clause-busy
commit-requires-clause-busy g c =
    let st = c.args.store.now in
    let commits = commits_seen st c.begin.new.session in
    let begun = opens st c.args.one.now c.begin.new.session c.begin.result c.unwrap-began.result c.unwrap-began.ensures c.begin.ensures.opens in
    let put = all_put st c.begin.new.session c.insert.new.session c.insert-2.new.session c.update.new.session c.delete.new.session c.args.table _ c.args.first c.args.second c.args.changed commits
    c.requires.kept (c.requires.dropped ∙ sym (to_z-of_z w64 c.args.key c.ranges.key)) begun.is_open
    c.in_ok-insert.ensures.writes c.in_ok-insert-2.ensures.writes c.in_ok-update.ensures.writes c.in_ok-delete.ensures.writes in
    (c.in_ok-own.ensures.finds commits _ put).is_open.busy

pub unwrap-stood-requires : goal.unwrap-stood-requires
unwrap-stood-requires g c =
    c.commit.ensures.plain
    (plain_scanned c.delete.new.session c.scan_uncounted.new.session c.args.table c.in_ok-own.own
    (c.in_ok-delete.ensures.answers.keeps ∙ c.in_ok-update.ensures.answers.keeps ∙ c.in_ok-insert-2.ensures.answers.keeps ∙ c.in_ok-insert.ensures.answers.keeps
    ∙ plain_begun c.args.one.now c.begin.new.session c.begin.result c.unwrap-began.result c.unwrap-began.ensures c.begin.ensures.answers.keeps)
    c.in_ok-own.ensures.answers.keeps)

pub unwrap-committed-requires : goal.unwrap-committed-requires
unwrap-committed-requires g c =
    let st = c.args.store.now in
    let commits = commits_seen st c.begin.new.session in
    let begun = opens st c.args.one.now c.begin.new.session c.begin.result c.unwrap-began.result c.unwrap-began.ensures c.begin.ensures.opens in
    let put = all_put st c.begin.new.session c.insert.new.session c.insert-2.new.session c.update.new.session c.delete.new.session c.args.table _ c.args.first c.args.second c.args.changed commits
    c.requires.kept (c.requires.dropped ∙ sym (to_z-of_z w64 c.args.key c.ranges.key)) begun.is_open
    c.in_ok-insert.ensures.writes c.in_ok-insert-2.ensures.writes c.in_ok-update.ensures.writes c.in_ok-delete.ensures.writes in
    let kept = place_of c.args.table c.args.first in
    let dropped = place_of c.args.table c.args.second in
    is_numbered st c.scan_uncounted.new.session c.commit.new.session commits (insert_entry place_cmp (inserted kept dropped c.args.first c.args.second) kept (Some c.args.changed)) dropped None c.unwrap-stood.result
    (c.in_ok-own.ensures.finds commits _ put).is_open
    (subst (Commits st c.scan_uncounted.new.session c.commit.new.session) c.unwrap-stood.ensures c.commit.ensures.commits)

pub unwrap-sees-requires : goal.unwrap-sees-requires
unwrap-sees-requires g c =
    begins c.args.store.now c.meet.new.b c.begin-2.new.session c.begin-2.result (c.meet.ensures.b.opened ∙ c.requires.rests_two) c.begin-2.ensures.opens

pub returns-clause-finds : goal.returns-clause-finds
returns-clause-finds g c =
    let st = c.args.store.now in
    let commits = commits_seen st c.begin.new.session in
    let begun = opens st c.args.one.now c.begin.new.session c.begin.result c.unwrap-began.result c.unwrap-began.ensures c.begin.ensures.opens in
    let put = all_put st c.begin.new.session c.insert.new.session c.insert-2.new.session c.update.new.session c.delete.new.session c.args.table _ c.args.first c.args.second c.args.changed commits
    c.requires.kept (c.requires.dropped ∙ sym (to_z-of_z w64 c.args.key c.ranges.key)) begun.is_open
    c.in_ok-insert.ensures.writes c.in_ok-insert-2.ensures.writes c.in_ok-update.ensures.writes c.in_ok-delete.ensures.writes in
    finds_changes st c.args.one.now c.begin.new.session c.scan_uncounted.new.session c.commit.new.session c.args.two.now c.meet.new.b c.begin-2.new.session c.scan_uncounted-2.new.session
    c.args.table c.args.key c.args.first c.args.second c.args.changed c.in_ok-own.own c.in_ok-other.other c.unwrap-began.result c.unwrap-committed.result c.unwrap-sees.result
    c.begin.ensures.session c.requires.kept c.requires.dropped c.requires.apart begun
    (c.in_ok-own.ensures.finds commits _ put)
    (subst (λ (number : Option ℕ). Commits st c.scan_uncounted.new.session c.commit.new.session (Ok number)) c.unwrap-committed.ensures
    (subst (Commits st c.scan_uncounted.new.session c.commit.new.session) c.unwrap-stood.ensures c.commit.ensures.commits))
    c.meet.ensures.commits_a c.meet.ensures.b.sees
    (opens st c.meet.new.b c.begin-2.new.session c.begin-2.result c.unwrap-sees.result c.unwrap-sees.ensures c.begin-2.ensures.opens)
    c.in_ok-other.ensures.finds

pub returns-in_err-update-clause-no_room : goal.returns-in_err-update-clause-no_room
returns-in_err-update-clause-no_room g c =
    told_refused c.args.one.now c.args.two.now 1032 1025 c.has_room.result c.has_room-else-not-has_room.result c.has_room.ensures c.has_room-else-not-has_room.ensures
    c.if-not-has_room.false c.if-not-has_room-2.false c.from_residual-in_err-update.result _ c.from_residual-in_err-update.ensures.1

pub delete-requires-clause-room : goal.delete-requires-clause-room
delete-requires-clause-room g c =
    let room = c.has_room.ensures.0 c.if-not-has_room.false in
    omega (arith, room, c.begin.ensures.few, c.insert.ensures.few, c.insert-2.ensures.few, c.update.ensures.few)

pub returns-in_err-delete-clause-no_room : goal.returns-in_err-delete-clause-no_room
returns-in_err-delete-clause-no_room g c =
    told_refused c.args.one.now c.args.two.now 1032 1025 c.has_room.result c.has_room-else-not-has_room.result c.has_room.ensures c.has_room-else-not-has_room.ensures
    c.if-not-has_room.false c.if-not-has_room-2.false c.from_residual-in_err-delete.result _ c.from_residual-in_err-delete.ensures.1

pub scan_uncounted-requires-clause-room : goal.scan_uncounted-requires-clause-room
scan_uncounted-requires-clause-room g c =
    let room = c.has_room.ensures.0 c.if-not-has_room.false in
    omega (arith, room, c.begin.ensures.few, c.insert.ensures.few, c.insert-2.ensures.few, c.update.ensures.few, c.delete.ensures.few)

pub returns-in_err-own-clause-no_room : goal.returns-in_err-own-clause-no_room
returns-in_err-own-clause-no_room g c =
    told_memory c.args.one.now c.args.two.now 1032 1025 c.has_room.result c.has_room-else-not-has_room.result c.has_room.ensures c.has_room-else-not-has_room.ensures
    c.if-not-has_room.false c.if-not-has_room-2.false c.from_residual-in_err-own.result c.from_residual-in_err-own.ensures.1

pub commit-requires-clause-room : goal.commit-requires-clause-room
commit-requires-clause-room g c =
    let room = c.has_room.ensures.0 c.if-not-has_room.false in
    omega (arith, room, c.begin.ensures.few, c.insert.ensures.few, c.insert-2.ensures.few, c.update.ensures.few, c.delete.ensures.few, c.scan_uncounted.ensures.few)

pub begin-requires-2-clause-room : goal.begin-requires-2-clause-room
begin-requires-2-clause-room g c =
    let room = c.has_room-else-not-has_room.ensures.0 c.if-not-has_room-2.false in
    omega (arith, room, c.meet.ensures.b.made)

pub scan_uncounted-requires-2-clause-room : goal.scan_uncounted-requires-2-clause-room
scan_uncounted-requires-2-clause-room g c =
    let room = c.has_room-else-not-has_room.ensures.0 c.if-not-has_room-2.false in
    omega (arith, room, c.meet.ensures.b.made, c.begin-2.ensures.few)

pub returns-in_err-other-clause-no_room : goal.returns-in_err-other-clause-no_room
returns-in_err-other-clause-no_room g c =
    told_memory c.args.one.now c.args.two.now 1032 1025 c.has_room.result c.has_room-else-not-has_room.result c.has_room.ensures c.has_room-else-not-has_room.ensures
    c.if-not-has_room.false c.if-not-has_room-2.false c.from_residual-in_err-other.result c.from_residual-in_err-other.ensures.1

pub returns-clause-few_one : goal.returns-clause-few_one
returns-clause-few_one g c =
    omega (arith, c.begin.ensures.few, c.insert.ensures.few, c.insert-2.ensures.few, c.update.ensures.few, c.delete.ensures.few, c.scan_uncounted.ensures.few, c.commit.ensures.few, c.meet.ensures.a.made)

pub returns-clause-no_room : goal.returns-clause-no_room
returns-clause-no_room g c =
    told_done c.args.one.now c.args.two.now 1032 1025 c.has_room.result c.has_room-else-not-has_room.result c.has_room.ensures c.has_room-else-not-has_room.ensures
    c.if-not-has_room.false c.if-not-has_room-2.false _

pub returns-in_err-insert-2-clause-no_room : goal.returns-in_err-insert-2-clause-no_room
returns-in_err-insert-2-clause-no_room g c =
    told_refused c.args.one.now c.args.two.now 1032 1025 c.has_room.result c.has_room-else-not-has_room.result c.has_room.ensures c.has_room-else-not-has_room.ensures
    c.if-not-has_room.false c.if-not-has_room-2.false c.from_residual-in_err-insert-2.result _ c.from_residual-in_err-insert-2.ensures.1

pub returns-in_err-other-clause-free_one : goal.returns-in_err-other-clause-free_one
returns-in_err-other-clause-free_one g c =
    free_on c.meet.ensures.a.reads (free_on c.commit.ensures.answers.reads (free_on c.scan_uncounted.ensures.answers.reads (free_on c.delete.ensures.answers.reads
    (free_on c.update.ensures.answers.reads (free_on c.insert-2.ensures.answers.reads (free_on c.insert.ensures.answers.reads (free_on c.begin.ensures.answers.reads c.requires.free_one)))))))

pub returns-in_err-other-clause-free_two : goal.returns-in_err-other-clause-free_two
returns-in_err-other-clause-free_two g c = free_on c.scan_uncounted-2.ensures.answers.reads (free_on c.begin-2.ensures.answers.reads (free_on c.meet.ensures.b.reads c.requires.free_two))

pub returns-clause-free_one : goal.returns-clause-free_one
returns-clause-free_one g c =
    free_on c.meet.ensures.a.reads (free_on c.commit.ensures.answers.reads (free_on c.scan_uncounted.ensures.answers.reads (free_on c.delete.ensures.answers.reads
    (free_on c.update.ensures.answers.reads (free_on c.insert-2.ensures.answers.reads (free_on c.insert.ensures.answers.reads (free_on c.begin.ensures.answers.reads c.requires.free_one)))))))

pub returns-clause-free_two : goal.returns-clause-free_two
returns-clause-free_two g c = free_on c.scan_uncounted-2.ensures.answers.reads (free_on c.begin-2.ensures.answers.reads (free_on c.meet.ensures.b.reads c.requires.free_two))
