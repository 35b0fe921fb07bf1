use Rattle.std.proofs.Common.{◌≡◌, ◌∙◌, ◌+◌, ◌≤◌, eqb, Bool, true, false, not, cond, None, Some, ap, sym, subst, refl, arith}
use Rattle.std.proofs.lemmas.Bool.{eqb-false}
use Rattle.block_spec.specs.declared.phase.Phase.{Phase}
use Rattle.block_spec.specs.declared.phase.Phase.TheVariants.{Loose, Sealed, Imaged}
use Rattle.block_spec.specs.declared.phase.SealFault.TheVariants as fault
use Rattle.block_spec.specs.Bodies.{Body as BodyValue, is_loose, is_quiet, is_imaged, has_row, is_front, last_stamp}
use Rattle.block_body.specs.Bodies.{IsBody}
use Rattle.block_body.specs.Chains.{Chains}
use Rattle.block_body.proofs.Whole.{quiet_is, no_chains}
use Rattle.block_body.proofs.body.Body.seal.Goals as goal

judged : (loose head row front quiet cooling spent : Bool) →
    cond (not loose) (Some fault.Phase) (cond head (Some fault.Head) (cond (not row) (Some fault.Empty) (cond (not front) (Some fault.Gaps)
    (cond (not quiet) (Some fault.Versions) (cond (not cooling) (Some fault.Hot) (cond spent (Some fault.Last) None)))))) ≡ None →
    (loose ≡ true) × (quiet ≡ true) × (spent ≡ false)
judged false head row front quiet cooling spent is = cc
judged true true row front quiet cooling spent is = cc
judged true false false front quiet cooling spent is = cc
judged true false true false quiet cooling spent is = cc
judged true false true true false cooling spent is = cc
judged true false true true true false spent is = cc
judged true false true true true true true is = cc
judged true false true true true true false is = (refl, refl, refl)

not_imaged : (phase : Phase) → is_loose phase ≡ true → is_imaged phase ≡ false
not_imaged Loose is = refl
not_imaged (Sealed g) is = cc
not_imaged (Imaged g) is = cc

pub invariant_of-self : goal.invariant_of-self
invariant_of-self c =
    let i = c.self.inside in
    let v = c.args.self.now in
    let j = judged (is_loose v.phase) c.args.head (has_row v) (is_front v.slots) (is_quiet v) v.cooling (eqb v.last last_stamp) (sym c.seal_fault.ensures ∙ c.in_default.is) in
    let last : i.last ≡ v.last = ap (λ (b : BodyValue). b.last) c.self.view_is in
    let spent : v.last ≡ last_stamp → ⊥ = eqb-false v.last last_stamp j.2 in
    let least : i.last ≤ last_stamp = c.self.invariant.last in
    let whole : IsBody i.rows i.chains.entries i.written (Sealed (i.last + 1)) (i.last + 1) =
    record {
      each = c.self.invariant.each;
      kept = c.self.invariant.kept;
      listed = c.self.invariant.listed;
      quiet = λ frozen. no_chains i.chains.entries (sym (quiet_is i.rows i.chains.entries c.self.invariant.each c.self.invariant.kept) ∙ ap is_quiet c.self.view_is ∙ j.1);
      image = c.self.invariant.image ∙ not_imaged i.phase (ap (λ (b : BodyValue). is_loose b.phase) c.self.view_is ∙ j.0);
      frozen = c.self.invariant.frozen;
      last = omega arith;
    } in
    subst (λ (chains : Chains). IsBody i.rows chains i.written (Sealed (i.last + 1)) (i.last + 1)) (sym c.give_back.ensures) whole
