use Rattle.std.proofs.Common.{ℕ, [], Option, sym, subst, ◌∙◌, arith}
use Rattle.std.specs.Prelude.{Ok}
use Rattle.std.specs.Int.{w64}
use Rattle.std.proofs.lemmas.Int.{to_z-of_z}
use Rattle.isolation_spec.specs.Contents.{place_of}
use Rattle.shared_store.specs.Open.{Commits, commits_seen}
use Rattle.embedded.proofs.Rooms.{told_done, told_memory}
use Rattle.embedded.proofs.Handing.{alone, begins, found_there, hands, numbered, only_commit, opens, own_read}
use Rattle.embedded.proofs.Plain.{plain_begun, plain_found}
use Rattle.embedded.proofs.hand_over.Goals as goal

pub returns-in_err-insert-clause-refused : goal.returns-in_err-insert-clause-refused
returns-in_err-insert-clause-refused g c = λ fault is.
    let st = c.args.store.now in
    let begun = opens st c.args.one.now c.begin.new.session c.begin.result c.unwrap.result c.unwrap.ensures c.begin.ensures.opens in
    (commits_seen st c.begin.new.session, c.in_err-insert.ensures.writes (commits_seen st c.begin.new.session) [] begun.is_open)

pub get-requires-clause-busy : goal.get-requires-clause-busy
get-requires-clause-busy g c =
    let st = c.args.store.now in
    let begun = opens st c.args.one.now c.begin.new.session c.begin.result c.unwrap.result c.unwrap.ensures c.begin.ensures.opens in
    (c.in_ok-insert.ensures.writes (commits_seen st c.begin.new.session) [] begun.is_open).busy

pub commit-requires-clause-busy : goal.commit-requires-clause-busy
commit-requires-clause-busy g c =
    let st = c.args.store.now in
    let begun = opens st c.args.one.now c.begin.new.session c.begin.result c.unwrap.result c.unwrap.ensures c.begin.ensures.opens in
    let put = c.in_ok-insert.ensures.writes (commits_seen st c.begin.new.session) [] begun.is_open in
    (found_there st c.insert.new.session c.get.new.session c.args.table _ c.args.row c.in_ok-own.own (c.requires.key ∙ sym (to_z-of_z w64 c.args.key c.ranges.key)) c.in_ok-own.ensures.finds (commits_seen st c.begin.new.session) (alone (place_of c.args.table c.args.row) c.args.row) put).0.busy

pub unwrap-stood-requires : goal.unwrap-stood-requires
unwrap-stood-requires g c =
    c.commit.ensures.plain
    (plain_found c.insert.new.session c.get.new.session c.args.table _ c.in_ok-own.own
    (c.in_ok-insert.ensures.answers.keeps ∙ plain_begun c.args.one.now c.begin.new.session c.begin.result c.unwrap.result c.unwrap.ensures c.begin.ensures.answers.keeps)
    c.in_ok-own.ensures.answers.keeps)

pub unwrap-committed-requires : goal.unwrap-committed-requires
unwrap-committed-requires g c =
    let st = c.args.store.now in
    let begun = opens st c.args.one.now c.begin.new.session c.begin.result c.unwrap.result c.unwrap.ensures c.begin.ensures.opens in
    let put = c.in_ok-insert.ensures.writes (commits_seen st c.begin.new.session) [] begun.is_open in
    let found = found_there st c.insert.new.session c.get.new.session c.args.table _ c.args.row c.in_ok-own.own (c.requires.key ∙ sym (to_z-of_z w64 c.args.key c.ranges.key)) c.in_ok-own.ensures.finds (commits_seen st c.begin.new.session) (alone (place_of c.args.table c.args.row) c.args.row) put in
    numbered st (place_of c.args.table c.args.row) c.args.row c.get.new.session c.commit.new.session (commits_seen st c.begin.new.session) c.unwrap-stood.result found.0
    (subst (Commits st c.get.new.session c.commit.new.session) c.unwrap-stood.ensures c.commit.ensures.commits)

pub unwrap-sees-requires : goal.unwrap-sees-requires
unwrap-sees-requires g c =
    begins c.args.store.now c.meet.new.b c.begin-2.new.session c.begin-2.result (c.meet.ensures.b.opened ∙ c.requires.rests_two) c.begin-2.ensures.opens

pub returns-clause-own : goal.returns-clause-own
returns-clause-own g c =
    let st = c.args.store.now in
    let begun = opens st c.args.one.now c.begin.new.session c.begin.result c.unwrap.result c.unwrap.ensures c.begin.ensures.opens in
    let put = c.in_ok-insert.ensures.writes (commits_seen st c.begin.new.session) [] begun.is_open in
    let found = found_there st c.insert.new.session c.get.new.session c.args.table _ c.args.row c.in_ok-own.own (c.requires.key ∙ sym (to_z-of_z w64 c.args.key c.ranges.key)) c.in_ok-own.ensures.finds (commits_seen st c.begin.new.session) (alone (place_of c.args.table c.args.row) c.args.row) put in
    own_read st (place_of c.args.table c.args.row) c.args.row (commits_seen st c.begin.new.session) c.in_ok-own.own found.1

pub returns-clause-handed : goal.returns-clause-handed
returns-clause-handed g c =
    let st = c.args.store.now in
    hands st c.args.one.now c.begin.new.session c.insert.new.session c.get.new.session c.commit.new.session c.args.two.now c.meet.new.b c.begin-2.new.session c.get-2.new.session
    c.args.table _ c.args.row c.in_ok-own.own c.in_ok-other.other c.unwrap.result c.unwrap-committed.result c.unwrap-sees.result
    (c.requires.key ∙ sym (to_z-of_z w64 c.args.key c.ranges.key))
    (opens st c.args.one.now c.begin.new.session c.begin.result c.unwrap.result c.unwrap.ensures c.begin.ensures.opens)
    c.in_ok-insert.ensures.writes
    c.in_ok-own.ensures.finds
    (subst (λ (number : Option ℕ). Commits st c.get.new.session c.commit.new.session (Ok number)) c.unwrap-committed.ensures
    (subst (Commits st c.get.new.session c.commit.new.session) c.unwrap-stood.ensures c.commit.ensures.commits))
    c.meet.ensures.commits_a
    c.meet.ensures.b.sees
    (opens st c.meet.new.b c.begin-2.new.session c.begin-2.result c.unwrap-sees.result c.unwrap-sees.ensures c.begin-2.ensures.opens)
    c.in_ok-other.ensures.finds

pub returns-clause-other : goal.returns-clause-other
returns-clause-other g c = λ same.
    let st = c.args.store.now in
    only_commit st (place_of c.args.table c.args.row) c.args.row c.args.one.now c.args.two.now c.get-2.new.session _
    (hands st c.args.one.now c.begin.new.session c.insert.new.session c.get.new.session c.commit.new.session c.args.two.now c.meet.new.b c.begin-2.new.session c.get-2.new.session
    c.args.table _ c.args.row c.in_ok-own.own c.in_ok-other.other c.unwrap.result c.unwrap-committed.result c.unwrap-sees.result
    (c.requires.key ∙ sym (to_z-of_z w64 c.args.key c.ranges.key))
    (opens st c.args.one.now c.begin.new.session c.begin.result c.unwrap.result c.unwrap.ensures c.begin.ensures.opens)
    c.in_ok-insert.ensures.writes
    c.in_ok-own.ensures.finds
    (subst (λ (number : Option ℕ). Commits st c.get.new.session c.commit.new.session (Ok number)) c.unwrap-committed.ensures
    (subst (Commits st c.get.new.session c.commit.new.session) c.unwrap-stood.ensures c.commit.ensures.commits))
    c.meet.ensures.commits_a
    c.meet.ensures.b.sees
    (opens st c.meet.new.b c.begin-2.new.session c.begin-2.result c.unwrap-sees.result c.unwrap-sees.ensures c.begin-2.ensures.opens)
    c.in_ok-other.ensures.finds)
    same

pub returns-in_err-other-clause-no_room : goal.returns-in_err-other-clause-no_room
returns-in_err-other-clause-no_room g c =
    told_memory c.args.one.now c.args.two.now 4 2 c.has_room.result c.has_room-else-not-has_room.result c.has_room.ensures c.has_room-else-not-has_room.ensures
    c.if-not-has_room.false c.if-not-has_room-2.false c.from_residual-in_err-other.result c.from_residual-in_err-other.ensures.1

pub returns-clause-no_room : goal.returns-clause-no_room
returns-clause-no_room g c =
    told_done c.args.one.now c.args.two.now 4 2 c.has_room.result c.has_room-else-not-has_room.result c.has_room.ensures c.has_room-else-not-has_room.ensures
    c.if-not-has_room.false c.if-not-has_room-2.false _

pub returns-in_err-own-clause-no_room : goal.returns-in_err-own-clause-no_room
returns-in_err-own-clause-no_room g c =
    told_memory c.args.one.now c.args.two.now 4 2 c.has_room.result c.has_room-else-not-has_room.result c.has_room.ensures c.has_room-else-not-has_room.ensures
    c.if-not-has_room.false c.if-not-has_room-2.false c.from_residual-in_err-own.result c.from_residual-in_err-own.ensures.1

pub begin-requires-2-clause-room : goal.begin-requires-2-clause-room
begin-requires-2-clause-room g c =
    let room = c.has_room-else-not-has_room.ensures.0 c.if-not-has_room-2.false in
    omega (arith, room, c.meet.ensures.b.made)

pub get-requires-2-clause-room : goal.get-requires-2-clause-room
get-requires-2-clause-room g c =
    let room = c.has_room-else-not-has_room.ensures.0 c.if-not-has_room-2.false in
    omega (arith, room, c.meet.ensures.b.made, c.begin-2.ensures.few)
