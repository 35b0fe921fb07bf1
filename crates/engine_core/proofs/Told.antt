-- What an event makes of a hand, as the trait of parts asks.
use Rattle.std.proofs.Common.{◌≡◌, ℕ, Bool, true, false, MatchBool, IfErr, IfOk, OnErr, Result, Ok, Err, sym, refl, subst}
use Rattle.core_parts.specs.Hands.{Held, Makes, MayRun}
use Rattle.core_parts.proofs.Changing.{agrees_after, same_room}
use Rattle.engine_core.specs.Core.{is_memory}
use Rattle.engine_core.specs.Runs.{Runs}
use Rattle.event_spec.specs.Effects.{CoreEvent, changes_of, effect}
use Rattle.event_spec.specs.Lawful.{FitsIn, Stands, takes_memory}
use Rattle.event_spec.specs.Parts.{Parts, Shape, names}
use Rattle.event_spec.specs.declared.reply.Reply.TheVariants as reply
use Rattle.event_spec.specs.declared.reply.WriteFault.{WriteFault}
use Rattle.event_spec.specs.Replies.{CoreReply, reply_to, reply_to_write}
use Rattle.core_laws.specs.Frames.Shards.{CoreHolds}
use Rattle.hall_rule.specs.Hands.{Agrees, SameRoom}

module _ (sh : Shape) (e : CoreEvent) (old new : Held) (said : CoreReply) where
  -- A refused event leaves the hand, and another makes of it what it is to.
  same_or_made : (refused : Bool) → MatchBool refused ((new ≡ old) × (takes_memory e ≡ true)) (Makes sh e old new said) → MatchBool refused (new ≡ old) (Makes sh e old new said)
  same_or_made true both = both.0
  same_or_made false made = made

  -- without what it tells of memory
  pub made_of : Runs sh e old new said → MatchBool (is_memory said) (new ≡ old) (Makes sh e old new said)
  made_of runs = same_or_made (is_memory said) runs

  -- An event that was refused is one that takes memory.
  refuses_by : (refused : Bool) → MatchBool refused ((new ≡ old) × (takes_memory e ≡ true)) (Makes sh e old new said) → refused ≡ true → takes_memory e ≡ true
  refuses_by true both is = both.1
  refuses_by false made is = cc

  -- only an event that takes memory is told that there is none
  pub refuses : Runs sh e old new said → is_memory said ≡ true → takes_memory e ≡ true
  refuses runs is = refuses_by (is_memory said) runs is

  -- A refused event leaves the hand, and behind another the hand agrees with the core.
  meets_by : (refused : Bool) → MatchBool refused ((new ≡ old) × (takes_memory e ≡ true)) (Makes sh e old new said)
      → (s : Parts) → CoreHolds sh s → Agrees old s → Stands sh e s → FitsIn sh e s
      → MatchBool refused (new ≡ old) (Agrees new (effect sh s e) × (said ≡ reply_to sh s e))
  meets_by true both s holds agrees stands fits = both.0
  meets_by false made s holds agrees stands fits =
      let both = made s holds agrees (stands, fits) in (
        subst (λ (h : Held). Agrees h (effect sh s e)) (sym both.0) (agrees_after (changes_of sh s e) (names sh) old s agrees),
        both.1,
      )

  -- an event that runs finds no memory and leaves the hand, or makes its effect and its reply
  pub meets : Runs sh e old new said
      → (s : Parts) → CoreHolds sh s → Agrees old s → Stands sh e s → FitsIn sh e s
      → MatchBool (is_memory said) (new ≡ old) (Agrees new (effect sh s e) × (said ≡ reply_to sh s e))
  meets runs = meets_by (is_memory said) runs

  -- Refused or not, an event leaves the same parts in the hand.
  room_by : (refused : Bool) → MayRun sh e old → MatchBool refused ((new ≡ old) × (takes_memory e ≡ true)) (Makes sh e old new said) → SameRoom old new
  room_by true may both = subst (SameRoom old) (sym both.0) (record { places = refl; away = λ k is. is; held = λ k is. is })
  room_by false may made =
      subst (SameRoom old) (sym (made may.parts may.holds may.agrees may.lawful).0) (same_room sh (changes_of sh may.parts e) old)

  -- an event that runs leaves the same parts in the hand
  pub keeps_room : MayRun sh e old → Runs sh e old new said → SameRoom old new
  keeps_room may runs = room_by (is_memory said) may runs

-- ---- what a write is replied

-- A write that makes what it is replied runs, as no such reply refuses memory.
written_by : (sh : Shape) (e : CoreEvent) (old new : Held) (w : Result ℕ WriteFault) → Makes sh e old new (reply_to_write w) → Runs sh e old new (reply_to_write w)
written_by sh e old new (Ok place) made = made
written_by sh e old new (Err fault) made = made

-- a write runs: it is replied what it made, or that there was no memory
pub written_runs : {E : Type 0} (sh : Shape) (e : CoreEvent) (old new : Held) (said : CoreReply) (r : Result (Result ℕ WriteFault) E)
    → IfOk r (λ w. said ≡ reply_to_write w) → IfErr r (λ fault. said ≡ reply.Memory)
    → IfOk r (λ w. Makes sh e old new (reply_to_write w)) → OnErr r (new ≡ old) → takes_memory e ≡ true → Runs sh e old new said
written_runs sh e old new said (Ok w) is none made same takes = subst (Runs sh e old new) (sym is) (written_by sh e old new w made)
written_runs sh e old new said (Err x) is none made same takes = subst (Runs sh e old new) (sym none) (same, takes)
