use Rattle.std.proofs.Common.{◌+◌, ◌<◌, sym, ap, ◌∙◌, subst, arith}
use Rattle.std.specs.Prelude.{IsTrue, nat_lt}
use Rattle.std.proofs.lemmas.Bool.Decides.{nat_tests}
use Rattle.event_spec.specs.Parts.{desk_at}
use Rattle.sole_store.specs.Sole.{SoleState}
use Rattle.sole_store.proofs.Blocks.{desk_there, has_desk}
use Rattle.txn_desk.specs.Desk.{DeskState}
use Rattle.sole_store.proofs.store.SoleStore.has_stamp.Goals as goal

pub desk-requires : goal.desk-requires
desk-requires c = has_desk c.self.inside.shape c.self.inside.hand c.self.invariant.whole

pub returns : goal.returns
returns c =
    let i = c.self.inside in
    let next = c.next.ensures in
    subst (λ (d : DeskState). (IsTrue (nat_lt c.next.result 9223372036854775808) → d.newest + 1 < 9223372036854775808)
    × (d.newest + 1 < 9223372036854775808 → IsTrue (nat_lt c.next.result 9223372036854775808)))
    (sym (desk_there i.shape i.hand c.self.invariant.whole c.desk.result.now c.desk.ensures) ∙ ap (λ (v : SoleState). desk_at v.shape v.parts) c.self.view_is)
    (λ less. grind (arith, nat_tests, next, less), λ less. grind (arith, nat_tests, next, less))
