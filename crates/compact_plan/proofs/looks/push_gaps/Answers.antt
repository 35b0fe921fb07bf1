use Rattle.std.proofs.Common.{◌≡◌, ℕ, ◌<◌, List, [], ◌∷◌, ◌++◌, None, Some, length, get_or, map, take, sym, ap, ◌∙◌, arith}
use Rattle.std.proofs.lemmas.Option.{slice_get-get_or}
use Rattle.block_layout.specs.Place.{place_of}
use Rattle.compact_plan.proofs.Lists.{map_more}
use Rattle.compact_plan.proofs.looks.push_gaps.Goals.{in-Some+in_ok-push, in_default}
use Rattle.compact_plan.proofs.looks.push_gaps.Goals as goal

pub loop-at-preserved : goal.loop-at-preserved
loop-at-preserved c =
    let gaps : List ℕ = c.args.look.now.gaps in
    let within : c.loop-at.at < length gaps = omega (arith, c.loop-at-test.true, c.gap_count-at-end.ensures) in
    elim c.match-gap.branch [
      | in-Some+in_ok-push w ↦ rw (w.gaps-is, w.in_ok-push.ensures.items)
          (ap (λ (l : List ℕ). l ++ w.join.result ∷ []) c.loop-at.invariant
          ∙ ap (λ (place : ℕ). c.args.gaps.now.items ++ map (place_of c.args.block) (take c.loop-at.at gaps) ++ place ∷ []) w.join.ensures.place
          ∙ map_more (place_of c.args.block) c.args.gaps.now.items gaps c.loop-at.at w.in-Some.slot (sym w.in-Some.ensures))
      | in_default w ↦ let never : None ≡ Some (get_or gaps c.loop-at.at 0) = w.in_default.ensures ∙ slice_get-get_or gaps c.loop-at.at 0 within in cc
    ]
