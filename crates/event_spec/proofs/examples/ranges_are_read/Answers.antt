use Rattle.std.proofs.Common.{◌≡◌, ℕ, ℤ, List, ap, ◌∙◌, pos, [], ◌∷◌}
use Rattle.std.specs.List.{filter_map, cons_option}
use Rattle.event_spec.specs.declared.own.OwnTransaction.{OwnTransaction}
use Rattle.event_spec.specs.declared.reply.Reply.TheVariants as reply
use Rattle.event_spec.specs.Effects.{found, range_found, range_keys}
use Rattle.event_spec.specs.Examples.{shape}
use Rattle.event_spec.specs.Judged.{own_key}
use Rattle.event_spec.specs.RangeExamples.{first, ranged, second}
use Rattle.event_spec.proofs.Ranged.{at_eight, at_five, at_nine, at_thirteen, found_of, keys_are, no_keys}
use Rattle.event_spec.proofs.examples.ranges_are_read.Goals as goal

over : (own : OwnTransaction) (table : ℕ) (low high : ℤ) (keys : List ℤ) → range_keys shape ranged table low high ≡ keys
    → range_found shape ranged own table low high ≡ filter_map (λ key. found shape ranged (own_key table key own) table key) keys
over own table low high keys is = ap (filter_map (λ key. found shape ranged (own_key table key own) table key)) is

pub returns-clause-rows : goal.returns-clause-rows
returns-clause-rows c =
    let one = over second 0 (pos 5) (pos 9) _ (keys_are (pos 5) (pos 9)) ∙ (λ i. cons_option (found_of second (pos 8) _ at_eight i)
    (cons_option (found_of second (pos 9) _ at_nine i) (cons_option (found_of second (pos 5) _ at_five i) []))) in
    let two = over second 0 (pos 6) (pos 8) _ (keys_are (pos 6) (pos 8)) ∙ (λ i. cons_option (found_of second (pos 8) _ at_eight i) []) in
    let three = over second 0 (pos 9) (pos 13) _ (keys_are (pos 9) (pos 13)) ∙ (λ i. cons_option (found_of second (pos 9) _ at_nine i)
    (cons_option (found_of second (pos 13) _ at_thirteen i) [])) in
    let four = over first 0 (pos 5) (pos 13) _ (keys_are (pos 5) (pos 13)) ∙ (λ i. cons_option (found_of first (pos 8) _ at_eight i)
    (cons_option (found_of first (pos 9) _ at_nine i) (cons_option (found_of first (pos 5) _ at_five i) (cons_option (found_of first (pos 13) _ at_thirteen i) [])))) in
    let five = over second 0 (pos 9) (pos 5) _ (keys_are (pos 9) (pos 5)) in
    let six = over second 1 (pos 5) (pos 9) _ (no_keys (pos 5) (pos 9)) in
    λ i. reply.Rows (one i) ∷ reply.Rows (two i) ∷ reply.Rows (three i) ∷ reply.Rows (four i) ∷ reply.Rows (five i) ∷ reply.Rows (six i) ∷ []
