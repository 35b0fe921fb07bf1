use Rattle.std.proofs.Common.{◌∙◌, ◌+◌, ◌≤◌, ℕ, List, Option, IfSome, ap, subst}
use Rattle.output_read.specs.declared.kept.KeptReply.{KeptReply as Kept}
use Rattle.outcome_counts.specs.Asked.{IsAsked}
use Rattle.outcome_counts.specs.declared.stretch.Stretch.{Stretch}
use Rattle.outcome_counts.proofs.Behind.{stretch-in-front}
use Rattle.outcome_counts.proofs.stretch.stretch_in_front.Goals as goal

pub returns-in-Some : goal.returns-in-Some
returns-in-Some c =
    let xs : List Kept = c.args.replies.now in
    let at : ℕ = c.args.at in
    let asked : IsAsked xs (at + 1) c.in-Some.stretch = subst (λ (known : Option Stretch). IfSome known (IsAsked xs (at + 1))) c.in-Some.is c.requires.known in
    record {
      rises = c.requires.rises;
      inside = c.requires.inside;
      places = λ none.
          asked.places none
          ∙ stretch-in-front xs at none c.requires.rises asked.inside
          (subst (λ (n : ℕ). n ≤ at) (ap (λ (s : Stretch). s.own_start) (asked.places none)) c.if-stretch-at.true);
    }
