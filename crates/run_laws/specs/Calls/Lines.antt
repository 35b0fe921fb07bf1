-- What a line that is made of one reply tells the machine's store.
use Rattle.std.specs.Prelude.{◌≡◌, ℕ, Some}
use Rattle.core_laws.specs.Events.Laws.{outcome_of}
use Rattle.event_spec.specs.Replies.{CoreReply}
use Rattle.isolation_spec.specs.declared.command.Act.{Act}
use Rattle.isolation_spec.specs.Store.{Outcome}
use Rattle.timeline_spec.specs.Timeline.{Tells}
use Rattle.workload_spec.specs.declared.reply.Said.{Said}
use Rattle.run_spec.specs.Told.{told_by}

-- What a reply to an act says by itself tells the outcome that it is to a store over the machine.
abbrev pub LinesTellOutcomes : Type 0
LinesTellOutcomes = (what : Act) (table block : ℕ) (told : CoreReply) (outcome : Outcome)
    (line : Said)
    → outcome_of what told ≡ Some outcome → told_by table block told ≡ Some line → Tells outcome line
