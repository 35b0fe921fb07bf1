use Rattle.std.proofs.Common.{◌≡◌, ◌∷◌, ◌++◌, [], Some, cond, ℤ, unwrap_or, arith}
use Rattle.std.proofs.lemmas.Grind.{common_steps}
use Rattle.std.specs.Ordering.{int_eq}
use Rattle.std.specs.Map.{lookup}
use Rattle.key_index.proofs.Lookups.{candidates_of-seen, lookup-rewritten, seen-put, seen-same, OnErr-from, with_candidates-push}
use Rattle.key_index.proofs.Index.add.Goals as goal
use Rattle.key_index.proofs.Index.add.Goals.{in-Occupied+in_ok-push-in-Occupied, in-Vacant}

pub returns-in_err-push-in-Occupied-clause-err : goal.returns-in_err-push-in-Occupied-clause-err
returns-in_err-push-in-Occupied-clause-err c =
    let had : lookup (int_eq c.args.key) c.self.inside.by_key.entries ≡ Some c.push.new.self = grind (arith, common_steps) in
    OnErr-from _ c.from_residual-in_err-push-in-Occupied.result
    (rw (← c.self.view_is)
    (seen-same c.self.inside.by_key.entries _
    (λ q. grind (arith, common_steps, lookup-rewritten c.self.inside.by_key.entries c.args.key q (Some c.push.new.self) had))))

pub returns-clause-ok : goal.returns-clause-ok
returns-clause-ok c =
    let changed :
    (q : ℤ) →
    lookup (int_eq q) c.match-branch-2.self-inside.by_key.entries
    ≡ cond (int_eq c.args.key q) (Some (unwrap_or (lookup (int_eq c.args.key) c.self.inside.by_key.entries) [] ++ c.args.place ∷ [])) (lookup (int_eq q) c.self.inside.by_key.entries) =
    λ q.
    elim c.match-branch-2.branch [
      | in-Occupied+in_ok-push-in-Occupied w ↦ grind (arith, common_steps)
      | in-Vacant w ↦ grind (arith, common_steps)
    ] in
    rw (← c.self.view_is, candidates_of-seen c.self.inside.by_key.entries c.args.key, with_candidates-push)
    (seen-put c.self.inside.by_key.entries c.match-branch-2.self-inside.by_key.entries c.args.key _ changed)
