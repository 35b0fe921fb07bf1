-- A fact of each call of a run is one of each line at its moments.
use Rattle.std.proofs.Common.{ℕ, ◌+◌, Bool, true, false, cond, ◌==◌, List, [], ◌∷◌, ◌++◌, map, refl, sym, subst}
use mathlib.Core.Logic.{inl, inr}
use Rattle.std.specs.Prelude.{All, IfSome}
use Rattle.std.specs.List.{flat_map}
use Rattle.cell_model.specs.declared.table.TableDecl.{TableDecl}
use Rattle.core_laws.proofs.Events.Lists.{all_at, member_flat}
use Rattle.event_spec.specs.Lawful.{Among}
use Rattle.export_spec.specs.Calls.{calls_in}
use Rattle.run_laws.specs.Moments.Moments.{all_printed, due_of, lined, moments_from, moments_of, pending_at, pending_of, printed_by, printed_in, round_moments, seats_of, shares_lined, with_reply}
use Rattle.outcome_spec.specs.Entries.{Entry}
use Rattle.run_laws.specs.Calls.Moments.{Lined, Moment, Pending, advanced, advanced_by, ended_at, merged, with_pending}
use Rattle.run_spec.specs.Calls.{Call}
use Rattle.run_spec.specs.Occurrences.{Occurrence}
use Rattle.run_spec.specs.Ran.{RoundRun, Share}
use Rattle.workload_spec.specs.declared.reply.Who.{Who}
use Rattle.workload_spec.specs.declared.script.Script.{Script}

module _ (P : Lined → Type 0) where
  -- a fact of each line that stands at one of the moments
  abbrev pub EachLine : List Moment → Type 0
  EachLine [] = Unit {0}
  EachLine (moment ∷ moments) = IfSome moment.line P × EachLine moments

  -- A fact of each line at two lists of moments is one of each line at both.
  each_append : (xs ys : List Moment) → EachLine xs → EachLine ys → EachLine (xs ++ ys)
  each_append [] ys first rest = rest
  each_append (x ∷ xs) ys first rest = (first.0, each_append xs ys first.1 rest)

  -- a fact of each pending line
  abbrev Wait : List Pending → Type 0
  Wait calls = (call : Pending) → Among call calls → P call.line

  -- ---- the moments of one event

  record Goes (moments : List Moment) (pending : List Pending) : Type 0 where
    lines : EachLine moments
    wait : Wait pending

  -- The lines of one event's moments, and those then pending, have what all pending ones had.
  goes : (session : ℕ) (made : Occurrence) (calls : List Pending) → Wait calls
      → Goes (advanced session made calls).moments (advanced session made calls).pending
  goes session made [] wait = record { lines = tt; wait = λ call among. absurd among }
  goes session made (call ∷ calls) wait = go call.made (goes session made calls (λ other a. wait other (inr a)))
    where
      go : (events : List Occurrence) → Goes (advanced session made calls).moments (advanced session made calls).pending
          → Goes (advanced_by session made events call.line (advanced session made calls) calls).moments (advanced_by session made events call.line (advanced session made calls) calls).pending
      go [] rest = record { lines = (wait call (inl refl), rest.lines); wait = rest.wait }
      go (first ∷ []) rest = record { lines = (wait call (inl refl), tt); wait = λ other a. wait other (inr a) }
      go (first ∷ next ∷ more) rest = record { lines = (tt, tt); wait = still }
        where
          still : Wait (record { made = next ∷ more; line = call.line } ∷ calls)
          still other (inl e) = subst (λ (p : Pending). P p.line) (sym e) (wait call (inl refl))
          still other (inr a) = wait other (inr a)

  -- ---- the moments of a round

  -- Where a session's pending calls end, each line has the fact that it had when pending.
  ended : (session : ℕ) (calls : List Pending) → Wait calls → EachLine (map (ended_at session) calls)
  ended session [] wait = tt
  ended session (call ∷ calls) wait = (wait call (inl refl), ended session calls (λ other a. wait other (inr a)))

  -- Where the pending calls of all sessions end, each line has the fact that it had.
  all_ended : (sessions : List ℕ) (calls : ℕ → List Pending) → ((session : ℕ) → Wait (calls session))
      → EachLine (flat_map (λ session. map (ended_at session) (calls session)) sessions)
  all_ended [] calls wait = tt
  all_ended (session ∷ sessions) calls wait = each_append (map (ended_at session) (calls session)) (flat_map (λ session. map (ended_at session) (calls session)) sessions)
      (ended session (calls session) (wait session)) (all_ended sessions calls wait)

  -- Each line at the moments of a round has the fact that all pending calls had.
  merged_lines : (sessions : List ℕ) (made : List Occurrence) (calls : ℕ → List Pending) → ((session : ℕ) → Wait (calls session)) → EachLine (merged sessions made calls)
  merged_lines sessions [] calls wait = all_ended sessions calls wait
  merged_lines sessions (o ∷ made) calls wait =
      let first = goes o.session o (calls o.session) (wait o.session) in
      each_append (advanced o.session o (calls o.session)).moments
      (merged sessions made (with_pending calls o.session (advanced o.session o (calls o.session)).pending))
      first.lines
      (merged_lines sessions made (with_pending calls o.session (advanced o.session o (calls o.session)).pending) (λ other. go other (other == o.session) first.wait))
    where
      go : (other : ℕ) (b : Bool) → Wait (advanced o.session o (calls o.session)).pending → Wait (cond b (advanced o.session o (calls o.session)).pending (calls other))
      go other true here = here
      go other false here = wait other

  -- The calls that are pending at a seat have the fact that all lines of the shares have.
  pending_lines : (seats : List ℕ) (shares : List (List Lined)) (seat : ℕ) → ((lines : List Lined) → Among lines shares → (line : Lined) → Among line lines → P line)
      → Wait (pending_at seats shares seat)
  pending_lines [] shares seat each call among = absurd among
  pending_lines (first ∷ seats) [] seat each call among = absurd among
  pending_lines (first ∷ seats) (lines ∷ shares) seat each call among = go (first == seat) (pending_lines seats shares seat (λ other a. each other (inr a))) call among
    where
      here : (ls : List Lined) → ((line : Lined) → Among line ls → P line) → Wait (map pending_of ls)
      here [] own call among = absurd among
      here (line ∷ ls) own call (inl e) = subst (λ (p : Pending). P p.line) (sym e) (own line (inl refl))
      here (line ∷ ls) own call (inr a) = here ls (λ other b. own other (inr b)) call a

      go : (b : Bool) → Wait (pending_at seats shares seat) → Wait (cond b (map pending_of lines) (pending_at seats shares seat))
      go true rest = here lines (each lines (inl refl))
      go false rest = rest

-- ---- by a fact of calls

module _ (S : Call → Type 0) (tables : List TableDecl) where
  -- A fact of each call of one session or worker is one of each of their lines.
  lined_each : (earlier : List Entry) (number : ℕ) (who : Who) (calls : List Call) → ((call : Call) → Among call calls → S call)
      → (line : Lined) → Among line (lined tables earlier number who calls) → S line.call
  lined_each earlier number who [] each line among = absurd among
  lined_each earlier number who (call ∷ calls) each line (inl e) = subst (λ (l : Lined). S l.call) (sym e) (each call (inl refl))
  lined_each earlier number who (call ∷ calls) each line (inr a) =
      lined_each (with_reply earlier (printed_by tables earlier (due_of number who call) call.told)) number who calls (λ other b. each other (inr b)) line a

  -- A fact of each call of some shares is one of each of their lines.
  shares_each : (earlier : List Entry) (number : ℕ) (shares : List Share) → ((share : Share) → Among share shares → (call : Call) → Among call share.calls → S call)
      → (lines : List Lined) → Among lines (shares_lined tables earlier number shares) → (line : Lined) → Among line lines → S line.call
  shares_each earlier number [] each lines among line a = absurd among
  shares_each earlier number (share ∷ shares) each lines (inl e) line a =
      lined_each earlier number share.who share.calls (each share (inl refl)) line (subst (Among line) e a)
  shares_each earlier number (share ∷ shares) each lines (inr among) line a =
      shares_each (earlier ++ printed_in (lined tables earlier number share.who share.calls)) number shares (λ other b. each other (inr b)) lines among line a

-- A fact of each call of some rounds is one of each line at their moments.
rounds_each : (S : Call → Type 0) (script : Script) (earlier : List Entry) (number : ℕ) (rounds : List RoundRun)
    → ((round : RoundRun) → Among round rounds → (share : Share) → Among share round.shares → (call : Call) → Among call share.calls → S call)
    → EachLine (λ line. S line.call) (moments_from script earlier number rounds)
rounds_each S script earlier number [] each = tt
rounds_each S script earlier number (round ∷ rounds) each = each_append (λ line. S line.call)
    (round_moments script earlier number round)
    (moments_from script (earlier ++ all_printed (shares_lined script.tables earlier number round.shares)) (number + 1) rounds)
    (merged_lines (λ line. S line.call) (seats_of script) round.made (pending_at (seats_of script) (shares_lined script.tables earlier number round.shares))
    (λ seat. pending_lines (λ line. S line.call) (seats_of script) (shares_lined script.tables earlier number round.shares) seat
    (shares_each S script.tables earlier number round.shares (each round (inl refl)))))
    (rounds_each S script (earlier ++ all_printed (shares_lined script.tables earlier number round.shares)) (number + 1) rounds (λ other a. each other (inr a)))

-- A fact of each call of the rounds is one of each line.
pub lines_of_calls : (S : Call → Type 0) (script : Script) (rounds : List RoundRun) → All S (calls_in rounds) → EachLine (λ line. S line.call) (moments_of script rounds)
lines_of_calls S script rounds all = rounds_each S script [] 1 rounds
    (λ round r share s call c. all_at S (calls_in rounds) call all
    (member_flat (λ (round : RoundRun). flat_map (λ (share : Share). share.calls) round.shares) rounds round call r
    (member_flat (λ (share : Share). share.calls) round.shares share call s c)))
