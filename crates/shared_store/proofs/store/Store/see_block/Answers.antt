use Rattle.std.proofs.Common.{◌≡◌, Err, List, None, Option, Some, refl, sym, subst, ◌∙◌}
use Rattle.std.specs.declared.alloc.AllocError.{AllocError}
use Rattle.event_spec.specs.declared.event.Event.TheVariants as event
use Rattle.event_spec.specs.declared.own.OwnTransaction.{OwnTransaction}
use Rattle.event_spec.specs.declared.reply.Reply.TheVariants as reply
use Rattle.event_spec.specs.Effects.{CoreEvent}
use Rattle.event_spec.specs.Parts.{CorePart}
use Rattle.hall_steps.specs.Hall.{first_of}
use Rattle.shared_store.specs.Alone.{HoldsAlone}
use Rattle.shared_store.specs.Freezing.{imaging}
use Rattle.shared_store.specs.Lending.{LendsHeld}
use Rattle.shared_store.specs.Making.{MakesHeld}
use Rattle.shared_store.specs.Reading.{SeesBlock}
use Rattle.shared_store.specs.Store.{IsWithin, own_of, shape_in}
use Rattle.shared_store.specs.declared.lending.LendFault.{LendFault}
use Rattle.shared_store.specs.declared.session.Session.{Session}
use Rattle.shared_store.proofs.Alone.{alone_still, image_on_body}
use Rattle.shared_store.proofs.Seeing.{may_read, read_on_body, sees_err, sees_lent, sees_none, sees_refused, sees_rows}
use Rattle.shared_store.proofs.store.Store.see_block.Goals as goal

pub lend_held-requires : goal.lend_held-requires
lend_held-requires g c =
    let s = c.args.session.now in
    let takes = c.take_body-body.ensures.takes (imaging c.args.table c.args.block None) (image_on_body (shape_in c.args.self.now) c.args.table c.args.block None) s.session (own_of s) c.requires.session.stands in
    record {
      session = s.session;
      own = own_of s;
      within = takes.within;
      free = takes.sees.reads.0 ∙ c.requires.free;
      has = c.requires.block;
      number = c.take_body-body.ensures.number;
      holds = c.take_body-body.ensures.alone.holds;
      covers = takes.covers;
    }

pub give_alone-requires-clause-pass : goal.give_alone-requires-clause-pass
give_alone-requires-clause-pass g c =
    let s = c.args.session.now in
    let takes = c.take_body-body.ensures.takes (imaging c.args.table c.args.block None) (image_on_body (shape_in c.args.self.now) c.args.table c.args.block None) s.session (own_of s) c.requires.session.stands in
    (s.session, own_of s, (c.lend_held.ensures s.session (own_of s) takes.within).within)

pub give_alone-requires-clause-alone : goal.give_alone-requires-clause-alone
give_alone-requires-clause-alone g c =
    let s = c.args.session.now in
    let takes = c.take_body-body.ensures.takes (imaging c.args.table c.args.block None) (image_on_body (shape_in c.args.self.now) c.args.table c.args.block None) s.session (own_of s) c.requires.session.stands in
    subst (λ (h : List (Option CorePart)). HoldsAlone h c.take_body-body.result) (sym (c.lend_held.ensures s.session (own_of s) takes.within).hand) c.take_body-body.ensures.alone

pub give_alone-requires-in-Err-Memory-clause-pass : goal.give_alone-requires-in-Err-Memory-clause-pass
give_alone-requires-in-Err-Memory-clause-pass g c =
    let s = c.args.session.now in
    let takes = c.take_body-body.ensures.takes (imaging c.args.table c.args.block None) (image_on_body (shape_in c.args.self.now) c.args.table c.args.block None) s.session (own_of s) c.requires.session.stands in
    (s.session, own_of s, (c.lend_held.ensures s.session (own_of s) takes.within).within)

pub give_alone-requires-in-Err-Memory-clause-alone : goal.give_alone-requires-in-Err-Memory-clause-alone
give_alone-requires-in-Err-Memory-clause-alone g c =
    let s = c.args.session.now in
    let takes = c.take_body-body.ensures.takes (imaging c.args.table c.args.block None) (image_on_body (shape_in c.args.self.now) c.args.table c.args.block None) s.session (own_of s) c.requires.session.stands in
    subst (λ (h : List (Option CorePart)). HoldsAlone h c.take_body-body.result) (sym (c.lend_held.ensures s.session (own_of s) takes.within).hand) c.take_body-body.ensures.alone

pub read_held-read-requires : goal.read_held-read-requires
read_held-read-requires g c =
    let st = c.args.self.now in
    let s = c.args.session.now in
    let u = c.lend_held.new.pass in
    let own = c.own_all-own.result in
    let e : CoreEvent = event.Read own c.args.table c.args.block in
    let takes = c.take_body-body.ensures.takes e (read_on_body (shape_in st) own c.args.table c.args.block) s.session (own_of s) c.requires.session.stands in
    let held = subst (λ (f : LendFault). LendsHeld st s.session c.take_body-body.new.pass.seat u.seat c.take_body-body.new.pass.hands u.hands (own_of s) c.args.table c.args.block (Err f))
    c.in-Err-NotLent.field-0-is (c.in-Err-NotLent.ensures s.session (own_of s) takes.within) in
    may_read st s.session c.take_body-body.new.pass.seat u.seat c.take_body-body.new.pass.hands u.hands own c.args.table c.args.block s.pass.seat
    (subst (λ (o : Option OwnTransaction). IsWithin st s.session u.seat u.hands o) c.own_all-own.ensures held.within) c.requires.block
    takes.covers held.hand held.answers.1 takes.mine held.mine c.requires.room

pub give_alone-requires-in-Err-NotLent-clause-pass : goal.give_alone-requires-in-Err-NotLent-clause-pass
give_alone-requires-in-Err-NotLent-clause-pass g c =
    let st = c.args.self.now in
    let s = c.args.session.now in
    let own = c.own_all-own.result in
    let takes = c.take_body-body.ensures.takes (imaging c.args.table c.args.block None) (image_on_body (shape_in st) c.args.table c.args.block None) s.session (own_of s) c.requires.session.stands in
    let held = c.lend_held.ensures s.session (own_of s) takes.within in
    let u = c.lend_held.new.pass in
    (s.session, Some own, (c.read_held-read.ensures.reads s.session (subst (λ (o : Option OwnTransaction). IsWithin st s.session u.seat u.hands o) c.own_all-own.ensures held.within)).within)

pub give_alone-requires-in-Err-NotLent-clause-alone : goal.give_alone-requires-in-Err-NotLent-clause-alone
give_alone-requires-in-Err-NotLent-clause-alone g c =
    let st = c.args.self.now in
    let s = c.args.session.now in
    let u = c.lend_held.new.pass in
    let v = c.read_held-read.new.pass in
    let takes = c.take_body-body.ensures.takes (imaging c.args.table c.args.block None) (image_on_body (shape_in st) c.args.table c.args.block None) s.session (own_of s) c.requires.session.stands in
    let held = c.lend_held.ensures s.session (own_of s) takes.within in
    let made = c.read_held-read.ensures.reads s.session (subst (λ (o : Option OwnTransaction). IsWithin st s.session u.seat u.hands o) c.own_all-own.ensures held.within) in
    alone_still (first_of u.hands) (first_of v.hands) c.take_body-body.result
    (subst (λ (h : List (Option CorePart)). HoldsAlone h c.take_body-body.result) (sym held.hand) c.take_body-body.ensures.alone) made.room

pub returns-in-Ok-clause-sees : goal.returns-in-Ok-clause-sees
returns-in-Ok-clause-sees g c own is =
    let st = c.args.self.now in
    let s = c.args.session.now in
    let t = c.take_body-body.new.pass in
    let u = c.lend_held.new.pass in
    let new : Session = record { pass = c.give_alone.new.pass; session = s.session; snapshot = s.snapshot; writes = s.writes; reads = s.reads; kept = s.kept } in
    let e : CoreEvent = event.Read own c.args.table c.args.block in
    let takes = c.take_body-body.ensures.takes e (read_on_body (shape_in st) own c.args.table c.args.block) s.session (own_of s) c.requires.session.stands in
    let held = c.in-Ok.ensures s.session (own_of s) takes.within in
    sees_lent AllocError st s new c.args.table c.args.block own t.seat u.seat t.hands u.hands is c.requires.block takes refl refl (refl, c.requires.session.fits) c.in-Ok.lend c.args.steps.now held
    (c.give_alone.ensures s.session (own_of s) held.within)

pub returns-in-Err-Memory-clause-sees : goal.returns-in-Err-Memory-clause-sees
returns-in-Err-Memory-clause-sees g c own is =
    let st = c.args.self.now in
    let s = c.args.session.now in
    let t = c.take_body-body.new.pass in
    let u = c.lend_held.new.pass in
    let new : Session = record { pass = c.give_alone-in-Err-Memory.new.pass; session = s.session; snapshot = s.snapshot; writes = s.writes; reads = s.reads; kept = s.kept } in
    let e : CoreEvent = event.Read own c.args.table c.args.block in
    let takes = c.take_body-body.ensures.takes e (read_on_body (shape_in st) own c.args.table c.args.block) s.session (own_of s) c.requires.session.stands in
    let held = subst (λ (f : LendFault). LendsHeld st s.session t.seat u.seat t.hands u.hands (own_of s) c.args.table c.args.block (Err f)) c.in-Err-Memory.field-0-is
    (c.in-Err-Memory.ensures s.session (own_of s) takes.within) in
    sees_none AllocError st s new c.args.table c.args.block own t.seat u.seat t.hands u.hands is c.requires.block takes refl refl (refl, c.requires.session.fits) _ c.args.steps.now held
    (c.give_alone-in-Err-Memory.ensures s.session (own_of s) held.within)

pub returns-in_err-read-in-Err-NotLent-clause-sees : goal.returns-in_err-read-in-Err-NotLent-clause-sees
returns-in_err-read-in-Err-NotLent-clause-sees g c own is =
    let st = c.args.self.now in
    let s = c.args.session.now in
    let t = c.take_body-body.new.pass in
    let u = c.lend_held.new.pass in
    let v = c.read_held-read.new.pass in
    let new : Session = record { pass = c.give_alone-in-Err-NotLent.new.pass; session = s.session; snapshot = s.snapshot; writes = s.writes; reads = s.reads; kept = s.kept } in
    let e : CoreEvent = event.Read own c.args.table c.args.block in
    let takes = c.take_body-body.ensures.takes e (read_on_body (shape_in st) own c.args.table c.args.block) s.session (own_of s) c.requires.session.stands in
    let held = subst (λ (f : LendFault). LendsHeld st s.session t.seat u.seat t.hands u.hands (own_of s) c.args.table c.args.block (Err f)) c.in-Err-NotLent.field-0-is
    (c.in-Err-NotLent.ensures s.session (own_of s) takes.within) in
    let mine = c.own_all-own.ensures in
    let made = c.in_err-read-in-Err-NotLent.ensures.reads s.session (subst (λ (o : Option OwnTransaction). IsWithin st s.session u.seat u.hands o) mine held.within) in
    let made' = subst (λ (o : Option OwnTransaction). MakesHeld st s.session u.seat v.seat u.hands v.hands o (event.Read c.own_all-own.result c.args.table c.args.block) reply.Memory) (sym mine) made in
    let one = same_own c.own_all-own.result own (sym mine ∙ is) in
    let gives = c.give_alone-in-Err-NotLent.ensures s.session (own_of s) (subst (λ (o : Option OwnTransaction). IsWithin st s.session v.seat v.hands o) (sym mine) made.within) in
    sees_err AllocError (SeesBlock st s new own c.args.table c.args.block c.args.steps.now c.read_held-read.new.steps) c.from_residual.result c.from_residual.ensures.0
    (λ memory. sees_refused AllocError st s new c.args.table c.args.block own t.seat u.seat t.hands u.hands is c.requires.block takes refl refl (refl, c.requires.session.fits) c.in-Err-NotLent.field-0-0 held v.seat v.hands
    c.args.steps.now c.read_held-read.new.steps c.read_held-read.ensures.steps memory
    (subst (λ (x : OwnTransaction). MakesHeld st s.session u.seat v.seat u.hands v.hands (own_of s) (event.Read x c.args.table c.args.block) reply.Memory) one made') gives)
  where
    same_own : (a b : OwnTransaction) → Some a ≡ Some b → a ≡ b
    same_own a b e = cc

pub returns-in_ok-read-in-Err-NotLent-clause-sees : goal.returns-in_ok-read-in-Err-NotLent-clause-sees
returns-in_ok-read-in-Err-NotLent-clause-sees g c own is =
    let st = c.args.self.now in
    let s = c.args.session.now in
    let t = c.take_body-body.new.pass in
    let u = c.lend_held.new.pass in
    let v = c.read_held-read.new.pass in
    let new : Session = record { pass = c.give_alone-in-Err-NotLent.new.pass; session = s.session; snapshot = s.snapshot; writes = s.writes; reads = s.reads; kept = s.kept } in
    let e : CoreEvent = event.Read own c.args.table c.args.block in
    let takes = c.take_body-body.ensures.takes e (read_on_body (shape_in st) own c.args.table c.args.block) s.session (own_of s) c.requires.session.stands in
    let held = subst (λ (f : LendFault). LendsHeld st s.session t.seat u.seat t.hands u.hands (own_of s) c.args.table c.args.block (Err f)) c.in-Err-NotLent.field-0-is
    (c.in-Err-NotLent.ensures s.session (own_of s) takes.within) in
    let mine = c.own_all-own.ensures in
    let made = c.in_ok-read-in-Err-NotLent.ensures.reads s.session (subst (λ (o : Option OwnTransaction). IsWithin st s.session u.seat u.hands o) mine held.within) in
    let made' = subst (λ (o : Option OwnTransaction). MakesHeld st s.session u.seat v.seat u.hands v.hands o (event.Read c.own_all-own.result c.args.table c.args.block) (reply.Rows c.in_ok-read-in-Err-NotLent.field-0)) (sym mine) made in
    let one = same_own c.own_all-own.result own (sym mine ∙ is) in
    let gives = c.give_alone-in-Err-NotLent.ensures s.session (own_of s) (subst (λ (o : Option OwnTransaction). IsWithin st s.session v.seat v.hands o) (sym mine) made.within) in
    sees_rows AllocError st s new c.args.table c.args.block own t.seat u.seat t.hands u.hands is c.requires.block takes refl refl (refl, c.requires.session.fits) c.in-Err-NotLent.field-0-0 held v.seat v.hands
    c.args.steps.now c.read_held-read.new.steps c.read_held-read.ensures.steps c.in_ok-read-in-Err-NotLent.field-0
    (subst (λ (x : OwnTransaction). MakesHeld st s.session u.seat v.seat u.hands v.hands (own_of s) (event.Read x c.args.table c.args.block) (reply.Rows c.in_ok-read-in-Err-NotLent.field-0)) one made') gives
  where
    same_own : (a b : OwnTransaction) → Some a ≡ Some b → a ≡ b
    same_own a b e = cc
