use Rattle.std.proofs.Common.{◌≡◌, List, [], ◌∷◌, Some, drop, length, option_map, refl, sym, ap, ◌∙◌, arith}
use Rattle.isolation_spec.specs.Contents.{WriteSet}
use Rattle.run_spec.specs.Commits.{SessionWrites}
use Rattle.run_spec.specs.declared.commit.Commit.{Commit}
use Rattle.shared_store.specs.Commits.{commits_in, without_commits}
use Rattle.shared_store.specs.Store.{own_writes}
use Rattle.shared_store.proofs.session.Session.take_commits.Goals as goal

-- What a session wrote, by its parts.
abbrev with_commits : WriteSet → List Commit → SessionWrites
with_commits own commits = record { own = own; commits = commits }

-- Nothing is behind the end of a list.
none_behind : (commits : List Commit) → drop (length commits) commits ≡ []
none_behind [] = refl
none_behind (commit ∷ commits) = none_behind commits

pub returns-clause-own : goal.returns-clause-own
returns-clause-own c store before keeps = c.take.ensures.taken ∙ ap commits_in keeps.kept

pub returns-clause-since : goal.returns-clause-since
returns-clause-since c store before keeps =
    let writes = own_writes store c.args.self.now in
    record {
      within = omega arith;
      kept = c.take.ensures.left ∙ ap (option_map without_commits) keeps.kept
          ∙ ap (λ (commits : List Commit). Some (with_commits writes.own commits)) (sym (none_behind writes.commits));
    }
