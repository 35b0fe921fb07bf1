use Rattle.std.proofs.Common.{◌≡◌, ◌∙◌, ◌+◌, ◌<◌, ℕ, cond, Some, [], length, get_or, ap, sym, arith}
use Rattle.std.proofs.lemmas.List.{get_or_default}
use Rattle.isolation_spec.specs.Contents.{History}
use Rattle.isolation_spec.specs.Reads.{meets}
use Rattle.si_machine.specs.Kept.{history_in}
use Rattle.si_machine.proofs.Meetings.{last_up_to, last-more, last-whole}
use Rattle.si_machine.proofs.Parts.{get-map, length-kept}
use Rattle.si_machine.proofs.reads.last_meeting.Goals as goal
use Rattle.si_machine.proofs.reads.last_meeting.Goals.{then-meets, else-meets}

pub loop-number-preserved : goal.loop-number-preserved
loop-number-preserved c =
    let history : History = history_in c.args.commits.now in
    let number : ℕ = c.loop-number.number in
    let size : length history ≡ length c.args.commits.now = length-kept (λ writes. writes.entries) c.args.commits.now in
    let inside : number < length history = omega (arith, size, c.loop-number-test.true) in
    let set_is : get_or history number [] ≡ c.index-commits-number.result.entries =
    get_or_default history number [] c.index-commits-number.result.entries inside
    ∙ get-map (λ writes. writes.entries) c.args.commits.now number c.index-commits-number.result
    ∙ ap (λ writes. writes.entries) (sym c.index-commits-number.is) in
    let more = last-more history c.args.snapshot (meets c.args.what.now) number c.loop-number.auto.number inside in
    let passes : c.meets.result ≡ meets c.args.what.now (get_or history number []) = c.meets.ensures ∙ ap (meets c.args.what.now) (sym set_is) in
    elim c.if-meets.branch [
      | then-meets w ↦
          w.last-is ∙ ap (λ b. cond b (Some (number + 1)) (last_up_to history c.args.snapshot (meets c.args.what.now) number)) (sym w.if-meets.true ∙ passes) ∙ sym more
      | else-meets w ↦
          w.last-is ∙ c.loop-number.invariant
          ∙ ap (λ b. cond b (Some (number + 1)) (last_up_to history c.args.snapshot (meets c.args.what.now) number)) (sym w.if-meets.false ∙ passes) ∙ sym more
    ]

pub returns : goal.returns
returns c =
    let history : History = history_in c.args.commits.now in
    let size : length history ≡ length c.args.commits.now = length-kept (λ writes. writes.entries) c.args.commits.now in
    c.loop-number.invariant ∙ last-whole history c.args.snapshot c.loop-number.number c.args.what.now (omega (arith, size, c.loop-number-test.false))
