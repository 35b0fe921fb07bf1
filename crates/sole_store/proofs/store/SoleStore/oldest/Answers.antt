use Rattle.std.proofs.Common.{sym, ap, ◌∙◌}
use Rattle.event_spec.specs.Parts.{desk_at}
use Rattle.sole_store.specs.Sole.{SoleState}
use Rattle.sole_store.proofs.Blocks.{desk_there, has_desk}
use Rattle.txn_desk.specs.Oldest.{oldest_of}
use Rattle.sole_store.proofs.store.SoleStore.oldest.Goals as goal

pub desk-requires : goal.desk-requires
desk-requires c = has_desk c.self.inside.shape c.self.inside.hand c.self.invariant.whole

pub returns : goal.returns
returns c =
    let i = c.self.inside in
    c.oldest.ensures
    ∙ ap oldest_of (sym (desk_there i.shape i.hand c.self.invariant.whole c.desk.result.now c.desk.ensures))
    ∙ ap (λ (v : SoleState). oldest_of (desk_at v.shape v.parts)) c.self.view_is
