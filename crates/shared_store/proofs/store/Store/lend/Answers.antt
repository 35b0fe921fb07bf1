use Rattle.std.proofs.Common.{List, None, Option, refl, sym, subst, ◌∙◌}
use Rattle.event_spec.specs.Effects.{CoreEvent}
use Rattle.event_spec.specs.Parts.{CorePart}
use Rattle.shared_store.specs.Alone.{HoldsAlone}
use Rattle.shared_store.specs.Freezing.{imaging}
use Rattle.shared_store.specs.Store.{own_of, shape_in}
use Rattle.shared_store.specs.declared.session.Session.{Session}
use Rattle.shared_store.proofs.Alone.{image_on_body}
use Rattle.shared_store.proofs.Seeing.{lent_whole}
use Rattle.shared_store.proofs.store.Store.lend.Goals as goal

pub lend_held-lent-requires : goal.lend_held-lent-requires
lend_held-lent-requires g c =
    let s = c.args.session.now in
    let takes = c.take_body-body.ensures.takes (imaging c.args.table c.args.block None) (image_on_body (shape_in c.args.self.now) c.args.table c.args.block None) s.session (own_of s) c.requires.session.stands in
    record {
      session = s.session;
      own = own_of s;
      within = takes.within;
      free = takes.sees.reads.0 ∙ c.requires.free;
      has = c.requires.block;
      number = c.take_body-body.ensures.number;
      holds = c.take_body-body.ensures.alone.holds;
      covers = takes.covers;
    }

pub give_alone-requires-clause-pass : goal.give_alone-requires-clause-pass
give_alone-requires-clause-pass g c =
    let s = c.args.session.now in
    let takes = c.take_body-body.ensures.takes (imaging c.args.table c.args.block None) (image_on_body (shape_in c.args.self.now) c.args.table c.args.block None) s.session (own_of s) c.requires.session.stands in
    (s.session, own_of s, (c.lend_held-lent.ensures s.session (own_of s) takes.within).within)

pub give_alone-requires-clause-alone : goal.give_alone-requires-clause-alone
give_alone-requires-clause-alone g c =
    let s = c.args.session.now in
    let takes = c.take_body-body.ensures.takes (imaging c.args.table c.args.block None) (image_on_body (shape_in c.args.self.now) c.args.table c.args.block None) s.session (own_of s) c.requires.session.stands in
    subst (λ (h : List (Option CorePart)). HoldsAlone h c.take_body-body.result) (sym (c.lend_held-lent.ensures s.session (own_of s) takes.within).hand) c.take_body-body.ensures.alone

pub returns : goal.returns
returns g c =
    let st = c.args.self.now in
    let s = c.args.session.now in
    let t = c.take_body-body.new.pass in
    let u = c.lend_held-lent.new.pass in
    let new : Session = record { pass = c.give_alone.new.pass; session = s.session; snapshot = s.snapshot; writes = s.writes; reads = s.reads; kept = s.kept } in
    let e : CoreEvent = imaging c.args.table c.args.block None in
    let takes = c.take_body-body.ensures.takes e (image_on_body (shape_in st) c.args.table c.args.block None) s.session (own_of s) c.requires.session.stands in
    let held = c.lend_held-lent.ensures s.session (own_of s) takes.within in
    let gives = c.give_alone.ensures s.session (own_of s) held.within in
    lent_whole st s new c.args.table c.args.block e t.seat u.seat t.hands u.hands c.lend_held-lent.result takes held gives refl refl (refl, c.requires.session.fits)
    c.take_body-body.result c.take_body-body.ensures.number c.take_body-body.ensures.took
