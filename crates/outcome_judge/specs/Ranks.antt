-- Sessions and workers in an order, and what is kept for each of them.
use Rattle.std.specs.Prelude.{true, false}
use Rattle.std.specs.BTreeMap.{get}
use Rattle.std.specs.Option.{option_map_or}
use Rattle.std.specs.Ordering.{nat_cmp, bool_cmp, ordering_then}
use Rattle.std.specs.declared.cmp.Ordering.{Ordering}
use Rattle.workload_spec.specs.declared.reply.Who.{Who}
use Rattle.workload_spec.specs.declared.reply.Who.TheVariants.{Session, Worker}
use Rattle.outcome_judge.specs.declared.by_who.ByWho.{ByWho}
use Rattle.outcome_judge.specs.declared.by_who.Rank.{Rank}

-- sessions go first, and each of them by its number
abbrev pub rank_cmp : Rank → Rank → Ordering
rank_cmp a b = ordering_then (bool_cmp a.is_worker b.is_worker) (nat_cmp a.number b.number)

abbrev pub rank_of : Who → Rank
rank_of (Session number) = record { is_worker = false; number = number }
rank_of (Worker number) = record { is_worker = true; number = number }

-- what is kept for one, or else what is taken for it
abbrev pub kept_for : {T : Type 0} → ByWho T → Who → T → T
kept_for kept who otherwise = option_map_or (λ value. value)
    (get rank_cmp kept.values (rank_of who)) otherwise
