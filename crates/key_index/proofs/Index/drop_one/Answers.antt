use Rattle.std.proofs.Common.{◌≡◌, ◌≢◌, [], Some, None, rules, arith}
use Rattle.std.proofs.lemmas.Grind.{common_steps}
use Rattle.std.specs.Ordering.{int_eq}
use Rattle.std.specs.Map.{lookup}
use Rattle.key_index.proofs.Lookups.{candidates_of-seen, lookup-rewritten, seen, seen-put, seen-remove, with_candidates-some}
use Rattle.key_index.proofs.Index.drop_one.Goals as goal

pub returns-in_default : goal.returns-in_default
returns-in_default c =
    let found : lookup (int_eq c.args.key) c.self.inside.by_key.entries ≡ None = grind (arith, common_steps) in
    rw (← c.self.view_is, candidates_of-seen c.self.inside.by_key.entries c.args.key, found)
    (seen-remove c.self.inside.by_key.entries c.get_mut.follows.lender-at-none.entries c.args.key
    (λ q. grind (arith, common_steps, lookup-rewritten c.self.inside.by_key.entries c.args.key q None found)))

pub returns-then-is_empty : goal.returns-then-is_empty
returns-then-is_empty c =
    let found : lookup (int_eq c.args.key) c.self.inside.by_key.entries ≡ Some c.in-Some.candidates.now = grind (arith, common_steps) in
    let none : c.drop_first.new.self ≡ [] = search rules in
    let left : c.match-remove.self ≡ seen c.remove.new.self.entries = grind (arith, common_steps) in
    rw (left, ← c.self.view_is, candidates_of-seen c.self.inside.by_key.entries c.args.key, found, ← c.drop_first.ensures, none)
    (seen-remove c.self.inside.by_key.entries c.remove.new.self.entries c.args.key (λ q. grind (arith, common_steps)))

pub returns-else-is_empty : goal.returns-else-is_empty
returns-else-is_empty c =
    let found : lookup (int_eq c.args.key) c.self.inside.by_key.entries ≡ Some c.in-Some.candidates.now = grind (arith, common_steps) in
    let some : c.drop_first.new.self ≢ [] = search rules in
    rw (← c.self.view_is, candidates_of-seen c.self.inside.by_key.entries c.args.key, found, ← c.drop_first.ensures, with_candidates-some _ c.args.key c.drop_first.new.self some)
    (seen-put c.self.inside.by_key.entries (c.get_mut.follows.lender c.drop_first.new.self).entries c.args.key c.drop_first.new.self
    (λ q. grind (arith, common_steps)))
