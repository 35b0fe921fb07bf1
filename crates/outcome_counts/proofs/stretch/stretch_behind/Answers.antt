use Rattle.std.proofs.Common.{◌∙◌, ◌-◌, ◌<◌, ℕ, List, Option, IfSome, ap, subst}
use Rattle.output_read.specs.declared.kept.KeptReply.{KeptReply as Kept}
use Rattle.outcome_counts.specs.Asked.{IsAsked}
use Rattle.outcome_counts.specs.declared.stretch.Stretch.{Stretch}
use Rattle.outcome_counts.proofs.Behind.{stretch-behind}
use Rattle.outcome_counts.proofs.stretch.stretch_behind.Goals as goal

pub returns-in-Some : goal.returns-in-Some
returns-in-Some c =
    let xs : List Kept = c.args.replies.now in
    let at : ℕ = c.args.at in
    let asked : IsAsked xs (at - 1) c.in-Some.stretch = subst (λ (known : Option Stretch). IfSome known (IsAsked xs (at - 1))) c.in-Some.is c.requires.known in
    record {
      rises = c.requires.rises;
      inside = c.requires.inside;
      places = λ none.
          asked.places none
          ∙ stretch-behind xs at none c.requires.rises c.requires.inside
          (subst (λ (n : ℕ). at < n) (ap (λ (s : Stretch). s.own_end) (asked.places none)) c.if-at-stretch.true);
    }
