use Rattle.std.proofs.Common.{◌≡◌, ℕ, ◌-◌, ◌++◌, ◌∷◌, [], length, take, drop, arith, ap, ◌∙◌}
use Rattle.std.proofs.lemmas.List.{take_all, length-drop}
use Rattle.word_read.proofs.TextPieces.{pair_read}
use Rattle.word_read.proofs.texts.bytes_of.Goals as goal

pub loop-rest-preserved : goal.loop-rest-preserved
loop-rest-preserved c =
    let s = c.loop-rest.rest.now in
    let old = c.loop-rest.bytes.items in
    let behind : take (length s - 2) (drop 2 s) ≡ drop 2 s = take_all (length s - 2) (drop 2 s) (omega (arith, length-drop 2 s)) in
    let pushed = c.in_ok-push-in-Some.ensures.items ∙ ap (λ (byte : ℕ). old ++ byte ∷ []) c.in-Some.ensures.1 in
    rw (pushed, behind) (c.loop-rest.invariant ∙ pair_read s old (omega arith) c.in-Some.ensures.0)
