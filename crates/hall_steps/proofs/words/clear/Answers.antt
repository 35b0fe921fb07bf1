use Rattle.std.proofs.Common.{ℕ, ◌%◌, ◌^◌, sym, subst, arith}
use Rattle.block_word.specs.Word.{IsLawfulMove, unpacked}
use Rattle.hall_rule.specs.Heads.{IsFrozen}
use Rattle.hall_rule.specs.Meaning.{meaning}
use Rattle.hall_rule.proofs.OfParts.{laws_of}
use Rattle.hall_rule.proofs.Turning.{clears}
use Rattle.hall_steps.specs.Hall.{with_head}
use Rattle.hall_steps.proofs.Lawful.{thawing_is_lawful}
use Rattle.hall_steps.proofs.words.clear.Goals as goal

pub clear_as-requires-clause-keeps : goal.clear_as-requires-clause-keeps
clear_as-requires-clause-keeps g c κs within =
    let m = g.met.C.Parts in
    let key = c.args.board.now.key in
    let laws = laws_of g.C.Parts m.keeps m.frame m.room m.local m.depends m.leaves m.outlives m.small m.turns m.still key.core.value key.passes in
    let M = meaning g.C.Parts key.core.value key.passes in
    let v = c.args.seat.now.me.0 in
    let r = c.requires in
    rw r.none_out (clears M laws c.args.board.now.table_id.slots c.args.seat.now.id v c.args.part r.at.live r.at.below r.held r.frozen)

pub returns-clause-hot : goal.returns-clause-hot
returns-clause-hot g c = let t = c.clear_as.ensures.told in λ i. (t.0 i, t.1 i)

pub returns-clause-found : goal.returns-clause-found
returns-clause-found g c = c.clear_as.ensures.told.2

pub returns-clause-lawful : goal.returns-clause-lawful
returns-clause-lawful g c =
    let v = c.args.seat.now.me.0 in
    let n = c.clear_as.result in
    let found = c.clear_as.ensures.told.2 in
    subst (λ (h : ℕ). IsLawfulMove (unpacked n) (unpacked (with_head n (h % 2 ^ 30)))) found
    (thawing_is_lawful n (omega arith) (subst IsFrozen (sym found) c.requires.frozen))
