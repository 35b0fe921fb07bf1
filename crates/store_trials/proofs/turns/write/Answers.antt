use Rattle.std.proofs.Common.{ℕ, ℤ, ◌≤◌, List, [], ◌∷◌, ◌++◌, map, length, Option, None, Some, arith}
use Rattle.std.specs.Prelude.{OnOk, Result, Ok, Err, option_and_then, option_to_list}
use Rattle.block_spec.specs.Slots.{Row}
use Rattle.event_spec.specs.declared.event.Event.TheVariants as event
use Rattle.event_spec.specs.declared.own.OwnTransaction.{OwnTransaction}
use Rattle.event_spec.specs.Effects.{CoreEvent}
use Rattle.event_spec.specs.Parts.{Shape}
use Rattle.isolation_spec.specs.Contents.{key_of}
use Rattle.run_spec.specs.Asked.{by_own, imaged_block, parts_before}
use Rattle.run_spec.specs.Occurrences.{Occurrence}
use Rattle.run_spec.specs.Opened.{own_key}
use Rattle.shared_store.specs.Store.{Answers, MakesAtMost, StoreView, shape_in}
use Rattle.shared_store.specs.declared.session.Session.{Session}
use Rattle.workload_spec.specs.declared.command.Command.TheVariants as command
use Rattle.workload_spec.specs.declared.reply.Said.{Said}
use Rattle.store_rounds.proofs.Kept.{few_made}
use Rattle.store_trials.proofs.turns.write.Goals as goal

-- of a write's events there are one, or two where it thaws
one_few : (own : Option OwnTransaction) (e : OwnTransaction → CoreEvent) → length (by_own own (λ t. e t ∷ [])) ≤ 2
one_few None e = omega arith
one_few (Some t) e = omega arith

thaw_few : (own : Option OwnTransaction) (table : ℕ) (block : Option ℕ) (e : OwnTransaction → CoreEvent)
    → length (by_own own (λ t. map (event.Thaw table) (option_to_list block) ++ e t ∷ [])) ≤ 2
thaw_few None table block e = omega arith
thaw_few (Some t) table None e = omega arith
thaw_few (Some t) table (Some block) e = omega arith

-- the block that a change thaws, where it thaws one
abbrev thawed : Shape → ℤ → List Occurrence → Option ℕ
thawed shape key made = option_and_then (imaged_block shape 0 key) (parts_before made)

on_ok : {T E : Type 0} (result : Result T E) (P : Type 0) → P → OnOk result P
on_ok (Ok done) P p = p
on_ok (Err fault) P p = tt

-- each of them makes two events at most
insert_few : (store : StoreView) (old new : Session) (row : Row) (told : Said) → Answers store old new (command.Insert 0 row) told → MakesAtMost 2 old new
insert_few store old new row told answers = few_made store old new (command.Insert 0 row) told 2
    (λ own made. one_few own (λ t. event.Insert (own_key 0 (key_of row) t) 0 row)) answers

update_few : (store : StoreView) (old new : Session) (row : Row) (told : Said) → Answers store old new (command.Update 0 row) told → MakesAtMost 2 old new
update_few store old new row told answers = few_made store old new (command.Update 0 row) told 2
    (λ own made. thaw_few own 0 (thawed (shape_in store) (key_of row) made) (λ t. event.Update (own_key 0 (key_of row) t) 0 row)) answers

delete_few : (store : StoreView) (old new : Session) (key : ℤ) (told : Said) → Answers store old new (command.Delete 0 key) told → MakesAtMost 2 old new
delete_few store old new key told answers = few_made store old new (command.Delete 0 key) told 2
    (λ own made. thaw_few own 0 (thawed (shape_in store) key made) (λ t. event.Delete (own_key 0 key t) 0 key)) answers

pub returns-in_ok-row-in-Insert-clause-few : goal.returns-in_ok-row-in-Insert-clause-few
returns-in_ok-row-in-Insert-clause-few g c =
    on_ok c.accepted.result (MakesAtMost 2 c.args.session.now c.insert.new.session)
    (insert_few c.args.store.now c.args.session.now c.insert.new.session _ _ c.insert.ensures.answers)

pub returns-in_ok-row-in-Update-clause-few : goal.returns-in_ok-row-in-Update-clause-few
returns-in_ok-row-in-Update-clause-few g c =
    on_ok c.accepted-in-Update.result (MakesAtMost 2 c.args.session.now c.update.new.session)
    (update_few c.args.store.now c.args.session.now c.update.new.session _ _ c.update.ensures.answers)

pub returns-in-Delete-clause-few : goal.returns-in-Delete-clause-few
returns-in-Delete-clause-few g c =
    on_ok c.accepted-in-Delete.result (MakesAtMost 2 c.args.session.now c.delete.new.session)
    (delete_few c.args.store.now c.args.session.now c.delete.new.session _ _ c.delete.ensures.answers)
