use Rattle.std.proofs.Common.{◌≡◌, ◌≤◌, ◌++◌, map, take, drop, length, vec_capacity}
use Rattle.undo_chain.specs.Stamped.{stamped}
use Rattle.undo_chain.proofs.chain.Chain.stamp_all.Given as goal

abbrev pub invariant-loop-open : goal.invariant-loop-open
invariant-loop-open g l =
    (l.«open» ≤ length l.initial.self-inside.oldest_first.items)
    × (l.self-inside.oldest_first.items
    ≡ take l.«open» l.initial.self-inside.oldest_first.items
    ++ map (stamped l.session l.stamp l.number) (drop l.«open» l.initial.self-inside.oldest_first.items))
    × (vec_capacity l.self-inside.oldest_first ≡ vec_capacity l.initial.self-inside.oldest_first)

abbrev pub decreases-loop-open : goal.decreases-loop-open
decreases-loop-open g l = l.«open»
