use Rattle.std.proofs.Common.{◌≡◌, Some, None, arith}
use Rattle.std.proofs.lemmas.Grind.{common_steps}
use Rattle.std.specs.Ordering.{int_eq}
use Rattle.std.specs.Map.{lookup}
use Rattle.key_index.proofs.Lookups.{candidates_of-seen}
use Rattle.key_index.proofs.Ordered.{none_in_order}
use Rattle.key_index.proofs.Index.ascending.Goals as goal

pub returns-in-Some : goal.returns-in-Some
returns-in-Some c =
    let found : lookup (int_eq c.args.key) c.self.inside.by_key.entries ≡ Some c.in-Some.candidates.now = grind (arith, common_steps) in
    rw (← c.self.view_is, candidates_of-seen c.self.inside.by_key.entries c.args.key, found) c.ascending.ensures

pub returns-in-None : goal.returns-in-None
returns-in-None c =
    let found : lookup (int_eq c.args.key) c.self.inside.by_key.entries ≡ None = grind (arith, common_steps) in
    rw (← c.self.view_is, candidates_of-seen c.self.inside.by_key.entries c.args.key, found) none_in_order
