use Rattle.std.proofs.Common.{ℕ, ◌+◌, ◌-◌, [], ◌∷◌, ◌++◌, List, None, refl, sym, ap, subst, ◌∙◌, arith}
use Rattle.std.specs.Prelude.{All, reverse}
use Rattle.std.proofs.lemmas.List.Elements.{All-append, All-cons, All-nil}
use Rattle.compact_plan.proofs.Lists.{All-reverse}
use Rattle.shared_store.specs.Building.{HasSessions, IsNewRow, IsNewSession, StartsKeeping}
use Rattle.shared_store.specs.Store.{wrote_of}
use Rattle.shared_store.specs.declared.session.Session.{Session}
use Rattle.shared_store.proofs.Rows.{IsRowDown, first_is_new, new_session, row_begins, row_grows, row_turned}
use Rattle.shared_store.specs.Commits.{kept_first}
use Rattle.shared_store.proofs.store.Store.open_all.Goals as goal

pub loop-opened-init : goal.loop-opened-init
loop-opened-init c = record {
  has = subst (λ (n : ℕ). HasSessions c.args.self.now n c.args.pass.seat c.args.pass.hands) (omega arith) c.requires.has;
  row = subst (IsRowDown c.args.self.now c.args.count 0) (sym c.new-row.ensures.items) (row_begins c.args.self.now c.args.count);
  keeps = subst (All (StartsKeeping c.args.keeps)) (sym c.new-row.ensures.items) (All-nil (StartsKeeping c.args.keeps));
}

pub open_last-requires : goal.open_last-requires
open_last-requires c = record { has = c.loop-opened.invariant.has; more = omega arith }

pub loop-opened-preserved : goal.loop-opened-preserved
loop-opened-preserved c = record {
  has = subst (λ (n : ℕ). HasSessions c.args.self.now n c.open_last.new.pass.seat c.open_last.new.pass.hands) (omega arith) c.open_last.ensures.left;
  row = subst (IsRowDown c.args.self.now c.args.count (c.loop-opened.opened + 1)) (sym c.in_ok-push.ensures.items)
      (row_grows c.args.self.now c.args.count c.loop-opened.opened c.loop-opened.row.items c.in_ok-session.session c.loop-opened.invariant.row c.in_ok-session.ensures.new);
  keeps = subst (All (StartsKeeping c.args.keeps)) (sym c.in_ok-push.ensures.items)
      (All-append (StartsKeeping c.args.keeps) c.loop-opened.row.items (c.in_ok-session.session ∷ []) c.loop-opened.invariant.keeps
      (All-cons (StartsKeeping c.args.keeps) c.in_ok-session.session [] c.in_ok-session.ensures.keeps (All-nil (StartsKeeping c.args.keeps))));
}

pub returns-clause-row : goal.returns-clause-row
returns-clause-row c =
    let now = c.args.self.now in
    let count = c.args.count in
    let end' = c.loop-opened.auto.opened-end in
    let stop = c.loop-opened-test.false in
    let some = c.requires.some in
    let loop = c.loop-opened in
    let has : HasSessions now 1 loop.pass.seat loop.pass.hands = subst (λ (n : ℕ). HasSessions now n loop.pass.seat loop.pass.hands) (omega (arith, end', stop, some)) loop.invariant.has in
    let first : Session = record { pass = loop.pass; session = 1; snapshot = None; writes = []; reads = None; kept = kept_first c.args.keeps } in
    let new : IsNewSession now 1 first = new_session now 1 first (first_is_new now loop.pass.seat loop.pass.hands has) refl refl refl in
    let last : IsNewSession now (count - loop.opened) c.in_ok-first.first = subst (λ (n : ℕ). IsNewSession now n c.in_ok-first.first) (omega (arith, end', stop, some))
    (subst (IsNewSession now 1) (sym c.in_ok-first.ensures) new) in
    let row : IsRowDown now count count (loop.row.items ++ c.in_ok-first.first ∷ []) =
    subst (λ (n : ℕ). IsRowDown now count n (loop.row.items ++ c.in_ok-first.first ∷ [])) (omega (arith, end', stop, some))
    (row_grows now count loop.opened loop.row.items c.in_ok-first.first loop.invariant.row last) in
    subst (IsNewRow now count) (sym (c.reverse.ensures.items ∙ ap (λ (xs : List Session). reverse xs) c.in_ok-push-2.ensures.items))
    (row_turned now count (loop.row.items ++ c.in_ok-first.first ∷ []) row)

pub returns-clause-keeps : goal.returns-clause-keeps
returns-clause-keeps c =
    let P = StartsKeeping c.args.keeps in
    let last : StartsKeeping c.args.keeps c.in_ok-first.first = ap wrote_of c.in_ok-first.ensures in
    subst (All P) (sym (c.reverse.ensures.items ∙ ap (λ (xs : List Session). reverse xs) c.in_ok-push-2.ensures.items))
    (All-reverse P (c.loop-opened.row.items ++ c.in_ok-first.first ∷ [])
    (All-append P c.loop-opened.row.items (c.in_ok-first.first ∷ []) c.loop-opened.invariant.keeps (All-cons P c.in_ok-first.first [] last (All-nil P))))
