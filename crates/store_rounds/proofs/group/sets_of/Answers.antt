use Rattle.std.proofs.Common.{◌≡◌, List, [], ◌∷◌, ◌++◌, ap, sym, ◌∙◌, append_assoc, arith}
use Rattle.std.specs.Vec.Iter.{into_iter_items}
use Rattle.std.proofs.lemmas.List.{map-append}
use Rattle.isolation_spec.specs.Contents.{WriteSet}
use Rattle.run_spec.specs.Commits.{write_sets}
use Rattle.run_spec.specs.declared.commit.Commit.{Commit}
use Rattle.store_rounds.proofs.Turns.{none_left}
use Rattle.store_rounds.proofs.group.sets_of.Goals as goal

pub loop-commit-init : goal.loop-commit-init
loop-commit-init c = record { sets = c.in_ok-sets.ensures.items; split = c.into_iter-commit-iterator.ensures.into_iter_gives.0 }

pub loop-commit-preserved : goal.loop-commit-preserved
loop-commit-preserved c =
    let inv = c.loop-commit.invariant in
    let rest : List Commit = into_iter_items c.next.new.self in
    let split : c.loop-commit.yielded ++ c.in-Some.commit ∷ rest ≡ c.args.commits.items =
    ap (λ (commits : List Commit). c.loop-commit.yielded ++ commits) (sym c.in-Some.ensures.steps.0) ∙ inv.split in
    record {
      sets = c.in_ok-push.ensures.items
          ∙ ap (λ (front : List WriteSet). front ++ c.in-Some.commit.writes ∷ []) inv.sets
          ∙ sym (map-append (λ (commit : Commit). commit.writes) c.loop-commit.yielded (c.in-Some.commit ∷ []));
      split = append_assoc c.loop-commit.yielded (c.in-Some.commit ∷ []) rest ∙ split;
    }

pub returns : goal.returns
returns c =
    c.loop-commit.invariant.sets
    ∙ ap write_sets (none_left c.loop-commit.yielded (into_iter_items c.loop-commit.commit-iterator) c.args.commits.items
    (omega (arith, c.in-None.ensures.steps.0, c.loop-commit.commit-iterator.rest.ok.0)) c.loop-commit.invariant.split)
