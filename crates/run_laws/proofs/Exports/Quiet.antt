-- Where no line of a script is an export, none of the calls of its run is one.
use Rattle.std.proofs.Common.{◌≡◌, ◌⊎◌, ℕ, ◌<◌, ◌≤◌, nat_le, Bool, true, false, cond, ◌||◌, ◌==◌, List, [], ◌∷◌, Option, None, Some, refl, sym, ap, ◌∙◌, subst, arith}
use mathlib.Core.Logic.{inl, inr}
use Rattle.std.specs.Prelude.{IfSome}
use Rattle.std.specs.List.{flat_map, list_any}
use Rattle.std.proofs.lemmas.Bool.Decides.{nat_tests}
use Rattle.std.proofs.lemmas.List.Folds.{list_any-append}
use Rattle.std.proofs.lemmas.Bool.{or_from}
use Rattle.core_laws.proofs.Events.Lists.{kept_member, member_flat}
use Rattle.event_spec.specs.Lawful.{Among}
use Rattle.run_laws.proofs.Explained.Scripts.{worker_upkeep}
use Rattle.run_laws.specs.Exports.Laws.{WithoutAnExportNothingIsSent}
use Rattle.export_spec.specs.Calls.{calls_in}
use Rattle.run_laws.proofs.Moments.Rounds.{each_call, runs_have_moments}
use Rattle.run_laws.proofs.Moments.Seats.{either}
use Rattle.run_laws.specs.Moments.Laws.{AreMoments, EachCall, EachEnds, EachOf, EachShare, IsAsked, Stands, with_event}
use Rattle.run_laws.specs.Moments.Moments.{moments_of, who_at}
use Rattle.outcome_spec.specs.Forms.{commands_of, is_upkeep}
use Rattle.run_laws.specs.Calls.Moments.{Lined, Moment}
use Rattle.run_spec.specs.Calls.{Call}
use Rattle.run_spec.specs.Occurrences.{Occurrence}
use Rattle.run_spec.specs.Ran.{RoundRun, Share, turns_of}
use Rattle.workload_spec.specs.declared.command.Command.{Command}
use Rattle.workload_spec.specs.declared.command.Command.TheVariants as command
use Rattle.workload_spec.specs.declared.reply.Who.{Who}
use Rattle.workload_spec.specs.declared.script.Line.{Line}
use Rattle.workload_spec.specs.declared.script.Script.{Script}
use Rattle.workload_spec.specs.Valid.{all_lines, is_export}

-- Where no element of a list passes a test, one that is among them fails it.
none_member : {X : Type 0} (p : X → Bool) (xs : List X) (x : X) → list_any p xs ≡ false → Among x xs → p x ≡ false
none_member p [] x none among = absurd among
none_member p (y ∷ xs) x none among = go (p y) refl (list_any p xs) none among (none_member p xs x)
  where
    go : (a : Bool) → p y ≡ a → (b : Bool) → (a || b) ≡ false → Among x (y ∷ xs) → (b ≡ false → Among x xs → p x ≡ false) → p x ≡ false
    go true is b e among rest = absurd (let never : true ≡ false = e in let no : ⊥ = cc in no)
    go false is b e (inl same) rest = ap p same ∙ is
    go false is b e (inr a) rest = rest e a

-- upkeep is no export
pub upkeep_no_export : (asked : Command) → is_upkeep asked ≡ true → is_export asked ≡ false
upkeep_no_export (command.Export table) e = absurd (let never : false ≡ true = e in let no : ⊥ = cc in no)
upkeep_no_export _ e = refl

module _ (script : Script) (quiet : list_any (λ (line : Line). is_export line.command) (all_lines script) ≡ false) where
  -- no command that one is asked is an export
  asked_none : (seat : ℕ) (asked : Command) → IsAsked script seat asked → is_export asked ≡ false
  asked_none seat asked is = go (either script seat)
    where
      same : (b : Bool) (c : Command) → cond b (Some c) None ≡ Some asked → c ≡ asked
      same true c e = cc
      same false c e = absurd (let never : ⊥ = cc e in never)

      go : (seat ≤ script.sessions) ⊎ (script.sessions < seat) → is_export asked ≡ false
      go (inr high) = upkeep_no_export asked (worker_upkeep script seat asked high is)
      go (inl low) =
          let e : nat_le seat script.sessions ≡ true = grind (arith, nat_tests, low) in
          let found = kept_member (λ (line : Line). cond (line.session == seat) (Some line.command) None) is.0 asked
          (subst (Among asked) (ap (λ b. cond b (commands_of seat is.0) (turns_of script)) e) is.2) in
          ap is_export (sym (same (found.0.session == seat) found.0.command found.2))
          ∙ none_member (λ (line : Line). is_export line.command) (all_lines script) found.0 quiet
          (member_flat (λ (round : List Line). round) script.rounds is.0 found.0 is.1 found.1)

  -- so is none that ends at a moment
  abbrev NoExport : Who → Call → Type 0
  NoExport who call = is_export call.command ≡ false

  -- No call that ends at one of the moments is an export.
  ends_none : (front : List Occurrence) (moments : List Moment) → AreMoments script front moments → EachEnds script NoExport moments
  ends_none front [] are = tt
  ends_none front (moment ∷ moments) are = (go moment.line are.0.stands, ends_none (with_event front moment.event) moments are.1)
    where
      go : (line : Option Lined) → Stands script front moment.session moment.event line → IfSome line (λ line. NoExport (who_at script moment.session) line.call)
      go None stands = tt
      go (Some line) stands = asked_none moment.session line.call.command stands.asked

-- ---- all calls

-- the call is an export
abbrev pub is_one : Call → Bool
is_one call = is_export call.command

-- Where each call of one session or worker is no export, none of these calls is one.
calls_none : (who : Who) (calls : List Call) → EachOf (λ who call. is_export call.command ≡ false) who calls → list_any is_one calls ≡ false
calls_none who [] each = refl
calls_none who (call ∷ calls) each = or_from (is_one call) (list_any is_one calls) each.0 (calls_none who calls each.1)

-- Where each call of some shares is no export, none of all their calls is one.
shares_none : (shares : List Share) → EachShare (λ who call. is_export call.command ≡ false) shares → list_any is_one (flat_map (λ share. share.calls) shares) ≡ false
shares_none [] each = refl
shares_none (share ∷ shares) each =
    list_any-append is_one share.calls (flat_map (λ share. share.calls) shares)
    ∙ or_from (list_any is_one share.calls) (list_any is_one (flat_map (λ share. share.calls) shares)) (calls_none share.who share.calls each.0) (shares_none shares each.1)

-- Where each call of some rounds is no export, none of all their calls is one.
rounds_none : (rounds : List RoundRun) → EachCall (λ who call. is_export call.command ≡ false) rounds → list_any is_one (calls_in rounds) ≡ false
rounds_none [] each = refl
rounds_none (round ∷ rounds) each =
    list_any-append is_one (flat_map (λ (share : Share). share.calls) round.shares) (calls_in rounds)
    ∙ or_from (list_any is_one (flat_map (λ (share : Share). share.calls) round.shares)) (list_any is_one (calls_in rounds)) (shares_none round.shares each.0) (rounds_none rounds each.1)

-- Where no line of a script is an export, its run sends nothing.
pub without_an_export_nothing_is_sent : WithoutAnExportNothingIsSent
without_an_export_nothing_is_sent script log text bytes ran sent quiet =
    let moments = runs_have_moments script log text ran in
    sent.quiet (rounds_none ran.rounds (each_call script log text ran (λ who call. is_export call.command ≡ false)
    (ends_none script quiet [] (moments_of script ran.rounds) moments.calls)))
