use Rattle.std.proofs.Common.{◌≡◌, ◌∷◌, ◌++◌, [], insert, rules}
use Rattle.key_index.proofs.Ordered.{added_in_order}
use Rattle.key_index.proofs.several.Several.push.Goals as goal

pub invariant_of-self-2 : goal.invariant_of-self-2
invariant_of-self-2 c =
    let added = c.self.inside.added.items in
    let ascending = c.self.inside.ascending.items in
    let place = c.args.place in
    let at = c.first_from-at.result in
    let one : c.push_reserved.new.self.items ≡ added ++ place ∷ [] = search rules in
    let other : c.insert.new.self.items ≡ insert ascending at place = search rules in
    let point = rw c.as_slice.ensures.value at c.first_from-at.ensures.point in
    let within = rw c.as_slice.ensures.value at c.first_from-at.ensures.bound in
    rw (one, other) (added_in_order added ascending at place c.self.invariant within point)
