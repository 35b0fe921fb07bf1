use Rattle.std.proofs.Common.{◌≡◌, ◌+◌, ◌*◌, ◌/◌, ◌%◌, ◌^◌, ◌<◌, sym, ap, ◌∙◌, arith}
use Rattle.std.proofs.lemmas.Nat.{shl-shr}
use Rattle.hall_rule.specs.Meaning.{meaning}
use Rattle.hall_rule.specs.HallInvariant.{worn_by}
use Rattle.hall_rule.specs.Views.{turned}
use Rattle.hall_rule.proofs.OfParts.{laws_of}
use Rattle.hall_rule.proofs.Turning.{raise_head, raise_readers, settles}
use Rattle.hall_steps.proofs.words.raise.Goals as goal

pub add_as-requires-clause-keeps : goal.add_as-requires-clause-keeps
add_as-requires-clause-keeps g c κs within =
    let m = g.met.C.Parts in
    let key = c.args.board.now.key in
    let laws = laws_of g.C.Parts m.keeps m.frame m.room m.local m.depends m.leaves m.outlives m.small m.turns m.still key.core.value key.passes in
    let M = meaning g.C.Parts key.core.value key.passes in
    let v = c.args.seat.now.me.0 in
    let r = c.requires in
    let more = c.args.more in
    let p = r.value.0 in
    let target : M.head p ≡ worn_by v c.args.part + more = r.value.2 in
    rw r.none_out (λ s held deep at fits.
    let t = settles M laws c.args.board.now.table_id.slots c.args.seat.now.id v c.args.part r.at.live r.at.below (λ n. (n + more * 2 ^ 32) % 2 ^ 64) p r.held r.value.1
    (λ n small is.
    let room : n / 2 ^ 32 + more < 2 ^ 32 = let q = r.room in omega (arith, q, is) in
    (raise_head n more small room ∙ (ap (λ x. x + more) is ∙ sym target), raise_readers n more small room))
    s held deep at fits in
    (t.0, t.1, t.2, t.3, (t.4.0 ∙ ap (turned v c.args.part) (target ∙ ap (λ x. worn_by v c.args.part + x) (sym (shl-shr more 32))), t.4.1, t.4.2)))

pub returns-clause-turned : goal.returns-clause-turned
returns-clause-turned g c =
    let t = c.add_as.ensures.told in
    let v = c.args.seat.now.me.0 in
    let e = t.0 ∙ ap (λ x. turned v c.args.part (worn_by v c.args.part + x)) (shl-shr c.args.more 32) in
    λ i. (e i, t.1 i)

pub returns-clause-found : goal.returns-clause-found
returns-clause-found g c = c.add_as.ensures.told.2
