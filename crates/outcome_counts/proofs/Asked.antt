-- What each condition asks, by what the reply tells.
use Rattle.std.proofs.Common.{◌≡◌, ℕ, ◌+◌, ◌<◌, nat_le, Bool, true, List, length, refl, ap, arith}
use Rattle.std.specs.Option.{option_map_or}
use Rattle.std.specs.Prelude.{slice_index_or}
use Rattle.std.proofs.lemmas.List.{get_or_read}
use Rattle.workload_spec.specs.declared.reply.Said.{Said}
use Rattle.workload_spec.specs.declared.reply.Said.TheVariants as said
use Rattle.cell_model.specs.declared.table.TableDecl.{TableDecl}
use Rattle.outcome_spec.specs.Entries.{Entry, not_after}
use Rattle.outcome_spec.specs.Runs.{Run, run_of}
use Rattle.outcome_spec.specs.Upkeep.{capacity_at, freezing_reply_holds, full_reply_holds, inserted_table, inserts_in}
use Rattle.output_read.specs.Kept.{entry_of}
use Rattle.output_read.specs.declared.kept.KeptReply.{KeptReply}
use Rattle.outcome_counts.specs.Asked.{asked_at}
use Rattle.outcome_counts.specs.Blocks.{is_freezing, is_full}
use Rattle.outcome_counts.specs.Keys.{freezing_told, full_told}

-- the reply that is judged is the one that the code has
pub asked-is : (replies : List KeptReply) (at : ℕ) (reply none : KeptReply) → at < length replies → reply ≡ slice_index_or replies at reply → entry_of reply ≡ asked_at replies at none
asked-is replies at reply none within is = ap entry_of (get_or_read replies at reply within is none)

-- what is asked of a reply that says `freezing` is asked by its stamp
pub freezing-by : (run : Run) (entry : Entry) (told : Said) → freezing_reply_holds run entry told ≡ option_map_or (λ stamp. is_freezing run.entries stamp entry) (freezing_told told) true
freezing-by run entry (said.Freezing table block stamp) = refl
freezing-by run entry _ = refl

-- what is asked of a reply that says `full` is asked by its table, where the store began with nothing
pub full-by : (tables : List TableDecl) (entries : List Entry) (entry : Entry) (told : Said)
    → full_reply_holds (run_of tables entries) entry told ≡ option_map_or (λ table. is_full tables entries table entry) (full_told entry.command told) true
full-by tables entries entry said.Full =
    ap (λ (rule : ℕ → Bool). option_map_or rule (inserted_table entry.command) true)
    (λ i table. nat_le (capacity_at tables table) (none (inserts_in table (not_after entries entry)) i))
  where
    none : (n : ℕ) → 0 + n ≡ n
    none n = omega arith
full-by tables entries entry _ = refl
