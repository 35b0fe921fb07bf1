use Rattle.std.proofs.Common.{◌≡◌, ◌-◌, ℕ, List, length, take, drop, None, arith, sym, subst, ◌∙◌}
use Rattle.std.proofs.lemmas.List.{take_all, length-drop}
use Rattle.workload_spec.specs.Reading.{natural_of}
use Rattle.word_read.specs.Numbers.{small_natural}
use Rattle.word_read.proofs.Decimals.{negative_none}
use Rattle.word_read.proofs.numbers.integer.Goals as goal

pub returns-in-None : goal.returns-in-None
returns-in-None c =
    let w = c.args.word.now in
    let behind : take (length w - 1) (drop 1 w) ≡ drop 1 w = take_all (length w - 1) (drop 1 w) (omega (arith, length-drop 1 w)) in
    let none : small_natural (natural_of (drop 1 w)) ≡ None = subst (λ (x : List ℕ). small_natural (natural_of x) ≡ None) behind (sym c.natural.ensures ∙ c.in-None.is) in
    sym (negative_none w (omega arith) none)
