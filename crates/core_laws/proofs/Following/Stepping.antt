-- What each change keeps, by the machine's steps.
use Rattle.std.proofs.Common.{◌≡◌, ◌≢◌, ℕ, zero, suc, ◌+◌, ◌-◌, ◌<◌, false, List, [], ◌∷◌, ◌++◌, Option, None, Some, length, get_or, refl, sym, ap, ◌∙◌, subst, arith}
use Rattle.std.proofs.lemmas.Option.{same_Some}
use Rattle.block_spec.specs.Slots.{Row, committed, rolled_back, is_bare, writer_of}
use Rattle.event_spec.specs.Effects.{opened, closed, numbered}
use Rattle.event_spec.specs.Follows.{Follows}
use Rattle.core_laws.proofs.Following.Aborts.{abort_keeps}
use Rattle.core_laws.proofs.Following.Begins.{begin_keeps}
use Rattle.core_laws.proofs.Following.Commits.{commit_keeps}
use Rattle.core_laws.proofs.Following.Desks.{none_not}
use Rattle.core_laws.proofs.Following.Finds.{found_is}
use Rattle.core_laws.proofs.Following.Machines.{found_session}
use Rattle.core_laws.proofs.Following.Moves.{move_keeps}
use Rattle.core_laws.proofs.Following.Prunes.{prune_keeps}
use Rattle.core_laws.proofs.Following.Sessions as sessions
use Rattle.core_laws.proofs.Following.Writes.{write_keeps}
use Rattle.core_laws.specs.Following.Laws.{AbortFollows, BeginFollows, CommitFollows, EmptyCommitFollows, Judges, MoveFollows, PruneFollows, WriteFollows, answer_of, command_of}
use Rattle.core_laws.specs.Following.Owned.{HasOpen}
use Rattle.core_laws.specs.Following.Steps.{SlotMap, CandidateMap}
use Rattle.isolation_spec.specs.Contents.{PlaceMap, at_place}
use Rattle.isolation_spec.specs.declared.command.Act.TheVariants as act
use Rattle.isolation_spec.specs.declared.command.Answer.{Answer}
use Rattle.isolation_spec.specs.declared.command.Answer.TheVariants as answer
use Rattle.isolation_spec.specs.Machine.{IsolationMachine, Transaction, commit, step_of, without}
use Rattle.core_laws.proofs.Slots.Endings.{rolled_back_other}
use Rattle.txn_desk.specs.declared.Snapshot.{Snapshot}
use Rattle.txn_desk.specs.Desk.{DeskState}
use Rattle.txn_desk.specs.Oldest.{HasPass}
use Rattle.undo_chain.specs.Conflict.{conflict_by}

-- a session with an open snapshot is one of the desk's
get_inside : (snapshots : List (Option Snapshot)) (i : ℕ) (snapshot : Snapshot) → get_or snapshots i None ≡ Some snapshot → i < length snapshots
get_inside [] i snapshot is = absurd (none_not (get_or [] i None) snapshot refl is)
get_inside (first ∷ snapshots) zero snapshot is = omega arith
get_inside (first ∷ snapshots) (suc i) snapshot is = let less = get_inside snapshots i snapshot is in omega (arith, less)

-- a session with a snapshot has a place at the desk
pub has_pass : (desk : DeskState) (session : ℕ) (snapshot : Snapshot) → HasOpen desk session snapshot → HasPass desk session
has_pass desk session snapshot has =
    let less : session - 1 < length desk.open_snapshots = get_inside desk.open_snapshots (session - 1) snapshot has.is_open in
    (has.counted, let some = has.counted in omega (arith, less, some))

-- ---- what a session is told

-- both ways to say what a conflict is answered are one
pub answers : (rival number : Option ℕ) → answer_of (conflict_by rival number) ≡ sessions.answer_of rival number
answers (Some writer) number = refl
answers None (Some number) = refl
answers None None = refl

-- a session is told the machine's rows and conflicts
pub judges : Judges
judges slot places desk machine session snapshot table key written follows has own = record {
  open' = sessions.tr slot places desk machine follows session snapshot has;
  is_open = sessions.mine slot places desk machine follows session snapshot has;
  found = found_is slot places desk machine follows session snapshot has table key written own;
  conflict = answers _ _ ∙ sessions.conflict_is slot places desk machine follows session snapshot has table key;
}

-- ---- begins and writes

-- a begin follows the machine's
pub begin_follows : BeginFollows
begin_follows slot places desk machine session follows pass idle =
    subst (λ (x : Answer × IsolationMachine). Follows slot places (opened session desk) x.1)
    (sym (ap (step_of machine (command_of session (act.Begin false))) (follows.desked.idle session pass.0 idle)))
    (begin_keeps slot places desk machine follows session pass idle)

-- a write that the session may make follows the machine's
pub write_follows : WriteFollows
write_follows slot after places added desk machine session snapshot table place key change follows has may is more =
    write_keeps slot places desk machine follows session has.counted
    (sessions.tr slot places desk machine follows session snapshot has)
    (sessions.mine slot places desk machine follows session snapshot has)
    table place key change may.undone may.leaves may.row_there may.keyed may.one_key may.free may.alone may.current
    after added is.here is.others more.added more.kept more.more more.behind

-- ---- ends

-- a commit with writes follows the machine's
pub commit_follows : CommitFollows
commit_follows slot places desk machine session snapshot open' first rest writes follows has is own tables =
    subst (λ (x : Answer × IsolationMachine). Follows
    (λ table place. committed session (desk.newest + 1) (desk.commits + 1) (slot table place)) places (closed session (numbered writes desk)) x.1)
    (sym (ap (step_of machine (command_of session act.Commit)) is ∙ ap (commit machine open') own
    ∙ ap (λ n. (answer.Committed (Some (length machine.history + 1)), record (without n machine) { history = machine.history ++ open'.own ∷ [] }))
    (found_session session machine.open_transactions open' is)))
    (commit_keeps slot places desk machine follows session (has_pass desk session snapshot has) open' is writes tables)

-- nothing written leaves no entry of the session
pub no_entry : (slot : SlotMap) (places : CandidateMap) (desk : DeskState) (machine : IsolationMachine) (session : ℕ) (snapshot : Snapshot) (open' : Transaction)
    → (follows : Follows slot places desk machine) (has : HasOpen desk session snapshot)
    → (open' ≡ sessions.tr slot places desk machine follows session snapshot has) → open'.own ≡ []
    → (table place : ℕ) → writer_of (slot table place).entries ≢ Some session
no_entry slot places desk machine session snapshot open' follows has same none table place writes =
    let old = follows.own.writers table place session writes in
    none_not (at_place open'.own (record { table = table; key = old.2 })) (slot table place).row
    (ap (λ (own : PlaceMap (Option Row)). at_place own (record { table = table; key = old.2 })) none)
    (ap (λ (x : Transaction). at_place x.own (record { table = table; key = old.2 })) same
    ∙ sessions.wrote_here slot places desk machine follows session snapshot has table place old.2 old.3 writes)

-- a commit without writes follows the machine's
pub empty_commit_follows : EmptyCommitFollows
empty_commit_follows slot places desk machine session snapshot open' follows has is none =
    let mine = sessions.tr slot places desk machine follows session snapshot has in
    let same : open' ≡ mine = same_Some open' mine (sym is ∙ sessions.mine slot places desk machine follows session snapshot has) in
    let stays : (table place : ℕ) → rolled_back session (slot table place) ≡ slot table place =
    λ table place. rolled_back_other session (slot table place) (follows.slots table place).lawful
    (no_entry slot places desk machine session snapshot open' follows has same none table place) in
    subst (λ (x : Answer × IsolationMachine). Follows slot places (closed session desk) x.1)
    (sym (ap (step_of machine (command_of session act.Commit)) is ∙ ap (commit machine open') none
    ∙ ap (λ n. (answer.Committed None, without n machine)) (found_session session machine.open_transactions open' is)))
    (subst (λ (s : SlotMap). Follows s places (closed session desk) (without session machine)) (λ i table place. stays table place i)
    (abort_keeps slot places places desk machine follows session (has_pass desk session snapshot has)
    (λ table place key a. (a, ap is_bare (stays table place) ∙ follows.index.filled table place key a))
    (λ table place key a x. a)
    (λ table one other key x. x)))

-- an abort follows the machine's
pub abort_follows : AbortFollows
abort_follows slot places swept desk machine session snapshot follows has is =
    let open' = sessions.tr slot places desk machine follows session snapshot has in
    let mine = sessions.mine slot places desk machine follows session snapshot has in
    subst (λ (x : Answer × IsolationMachine). Follows (λ table place. rolled_back session (slot table place)) swept (closed session desk) x.1)
    (sym (ap (step_of machine (command_of session act.Abort)) mine
    ∙ ap (λ n. (answer.Aborted, without n machine)) (found_session session machine.open_transactions open' mine)))
    (abort_keeps slot places swept desk machine follows session (has_pass desk session snapshot has) is.kept is.stays is.order)

-- ---- upkeep

-- a pruning changes nothing of the machine
pub prune_follows : PruneFollows
prune_follows slot after places swept desk machine oldest follows old is sweep =
    prune_keeps slot places swept desk machine follows oldest old after is sweep.kept sweep.stays sweep.order

-- a move changes nothing of the machine
pub move_follows : MoveFollows
move_follows slot after places added desk machine stamp table source target key row follows newest later listed is more =
    move_keeps slot places desk machine follows stamp newest
    (λ session snapshot some has. later session snapshot (record { counted = some; is_open = has }))
    table source target key row is.source_before listed is.target_before
    after added is.source_after is.target_after is.others more.added more.kept more.more more.behind
