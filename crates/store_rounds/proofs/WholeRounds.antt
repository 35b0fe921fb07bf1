-- A round of sessions and workers: each did what it was to do, and then all met.
use Rattle.std.proofs.Common.{◌≡◌, ℕ, ◌+◌, ◌*◌, ◌<◌, Bool, true, false, ◌||◌, List, [], ◌∷◌, ◌++◌, length, get_or, Option, Some, Ok, Err, refl, sym, ap, ◌∙◌, subst, append-nil, arith, true≢false}
use mathlib.Core.Logic.{inl, inr}
use Rattle.std.specs.Prelude.{◌⊎◌, OnOk, Result}
use Rattle.std.specs.List.{flat_map, list_any, range_with_len}
use Rattle.std.proofs.lemmas.Grind.{flat_map-append}
use Rattle.std.proofs.lemmas.List.Folds.{list_any-append, flat_map-map}
use Rattle.std.proofs.lemmas.List.{map-append}
use Rattle.std.proofs.lemmas.Bool.{not-false}
use Rattle.cell_model.specs.declared.table.TableDecl.{TableDecl}
use Rattle.outcome_spec.specs.Forms.{commands_of}
use Rattle.workload_spec.specs.Valid.{is_export}
use Rattle.workload_spec.specs.declared.command.Command.{Command}
use Rattle.workload_spec.specs.declared.reply.Who.{Who}
use Rattle.workload_spec.specs.declared.reply.Who.TheVariants.{Session as TheSession, Worker as TheWorker}
use Rattle.workload_spec.specs.declared.script.Line.{Line}
use Rattle.run_spec.specs.Calls.{Call}
use Rattle.run_laws.specs.Rounds.Lines.{round_text, share_text}
use Rattle.shared_store.specs.Store.{StoreView, shape_in}
use Rattle.shared_store.specs.declared.session.Session.{Session}
use Rattle.store_rounds.specs.Turns.{most_of_turn}
use Rattle.store_rounds.specs.Answered.{SentBy, most_events}
use Rattle.store_rounds.specs.Crews.{calls_of, crew_calls, crew_shares, shares_of, turns_in}
use Rattle.store_rounds.specs.Duties.{AreDuties, IsNew, duties_text, is_cut, is_lost, is_whole, is_whole_end}
use Rattle.store_rounds.specs.Row.{AreSessions, Met}
use Rattle.store_rounds.specs.Rounds.{AllTurned, AreNumbered, AskedAll, AskedUpToExport, OneEndsAtExport, RanRound, RanToExport, RowRan, CallsStopAtExport}
use Rattle.store_rounds.specs.Served.{CarriedOut, RowServed, ServedBy, is_of_worker, most_of_task, asked_of_task, who_of}
use Rattle.store_rounds.specs.Worked.{EndsAtExport, Worked, asked_in, share_of}
use Rattle.store_rounds.specs.declared.crew.Crew.{Crew}
use Rattle.store_rounds.specs.declared.duty.Duty.{Duty}
use Rattle.store_rounds.specs.declared.duty.Task.{Task}
use Rattle.store_rounds.specs.declared.duty.Task.TheVariants as task
use Rattle.store_rounds.specs.declared.fault.RunFault.{RunFault}
use Rattle.store_rounds.proofs.Duties.{duties_size, of_session_at, of_worker_at}
use Rattle.store_rounds.proofs.Quiet.{asks_none, none_at, none_of_both}
use Rattle.store_rounds.proofs.Ranges.{any_default, any_of, flat_at, flat_split, joined, joined_back, joined_flat, joined_front, shifted, some_place}
use Rattle.store_rounds.proofs.Runs.{Place, of_session, of_worker, place}

-- ---- ends

-- calls that end at an export have one
pub ends_exports : (calls : List Call) → EndsAtExport calls → list_any is_export (asked_in calls) ≡ true
ends_exports calls ends =
    ap (λ (cs : List Call). list_any is_export (asked_in cs)) ends.calls_are
    ∙ ap (list_any is_export) (map-append (λ (call : Call). call.command) ends.front (ends.last ∷ []))
    ∙ list_any-append is_export (asked_in ends.front) (ends.last.command ∷ [])
    ∙ ap (λ b. list_any is_export (asked_in ends.front) || (b || false)) ends.asked
    ∙ or_true (list_any is_export (asked_in ends.front))
  where
    or_true : (b : Bool) → b || (true || false) ≡ true
    or_true true = refl
    or_true false = refl

-- the text of one whose lines are whole
whole_text : {T : Type 0} (r : Result T RunFault) (P : Type 0) → is_whole_end r ≡ true → OnOk r P → P
whole_text (Ok value) P whole text = text
whole_text (Err failed) P whole text = absurd (true≢false (sym whole))

module _ (store : StoreView) (crew : Crew) (round : ℕ) (lines : List Line) (old ended new : List Session) (before after : List Duty) (exported exported_now : Option (List ℕ))
    (size : length old ≡ crew.sessions + crew.workers) (some : 0 < crew.sessions) (numbers : AreNumbered old)
    (are : AreDuties crew round lines before) (served : RowServed store old ended before after exported exported_now) where
  -- The tables that the store was built of.
  abbrev tables : List TableDecl
  tables = (shape_in store).tables

  -- the calls of each
  abbrev pub by_who : Who → List Call
  by_who (TheSession n) = served.calls n
  by_who (TheWorker n) = served.calls (crew.sessions + n)

  -- One of the duties, of which there is at least one.
  some_duty : Duty
  some_duty = any_of before 0 (let size = duties_size crew round lines before are in omega (arith, size, some))

  -- what a session did
  record SessionDid (k : ℕ) (d : Session) (e : Duty) : Type 0 where
    asked : List Command
    same : asked ≡ commands_of (k + 1) lines
    did : CarriedOut store false (TheSession (k + 1)) round (most_events * length (served.calls (k + 1))) (get_or old k d) (get_or ended k d)
        asked [] (get_or after k e).lines.text.items (get_or after k e).ended (served.calls (k + 1))

  -- what one did, told of its task
  told_of : (o n : Session) (b a : Duty) (to_do : Task) (calls : List Call) (number : ℕ) → IsNew round to_do b → o.session ≡ number → ServedBy store o n b a calls
      → CarriedOut store (is_of_worker (Some to_do)) (who_of (Some to_do) (record o { session = number })) round (most_of_task (Some to_do) calls) o n
      (asked_of_task tables (Some to_do)) [] a.lines.text.items a.ended calls
  told_of o n b a to_do calls number new numbered did =
      subst (λ m. CarriedOut store (is_of_worker (Some to_do)) (who_of (Some to_do) (record o { session = m })) round (most_of_task (Some to_do) calls) o n
      (asked_of_task tables (Some to_do)) [] a.lines.text.items a.ended calls) numbered
      (subst (λ (text : List ℕ). CarriedOut store (is_of_worker (Some to_do)) (who_of (Some to_do) o) round (most_of_task (Some to_do) calls) o n
      (asked_of_task tables (Some to_do)) text a.lines.text.items a.ended calls) (no_text b.lines.text.items new.no_lines)
      (subst (λ m. CarriedOut store (is_of_worker (Some to_do)) (who_of (Some to_do) o) m (most_of_task (Some to_do) calls) o n
      (asked_of_task tables (Some to_do)) b.lines.text.items a.lines.text.items a.ended calls) new.round_is
      (subst (λ (t : Option Task). CarriedOut store (is_of_worker t) (who_of t o) b.lines.round (most_of_task t calls) o n
      (asked_of_task tables t) b.lines.text.items a.lines.text.items a.ended calls) new.asked did)))
    where
      no_text : (text : List ℕ) → length text ≡ 0 → text ≡ []
      no_text [] none = refl
      no_text (x ∷ text) none = absurd (omega (arith, none))

  -- Each session carried out its commands of the round, unless it stopped at an export.
  session_did : (k : ℕ) (d : Session) (e : Duty) → k < crew.sessions → SessionDid k d e
  session_did k d e within =
      let asked = of_session_at crew round lines before are k some_duty within in
      let inside : k < length old = omega (arith, within, size) in
      record {
        asked = asked.commands.items;
        same = asked.same;
        did = subst (λ a. CarriedOut store false (TheSession (k + 1)) round (most_events * length (served.calls (k + 1))) (get_or old k d) (get_or ended k d)
            asked.commands.items [] a.lines.text.items a.ended (served.calls (k + 1)))
            (any_default after k some_duty e (let sizes = duties_size crew round lines before are in omega (arith, inside, served.duties, sizes, size)))
            (told_of (get_or old k d) (get_or ended k d) (get_or before k some_duty) (get_or after k some_duty) (task.Commands asked.commands) (served.calls (k + 1)) (k + 1)
            asked.new (numbers k d inside) (served.each k d some_duty inside));
      }

  -- Each worker carried out the commands of its turns of the round.
  worker_did : (n : ℕ) (d : Session) (e : Duty) → n < crew.workers
      → CarriedOut store true (TheWorker (n + 1)) round (most_of_turn * crew.turns) (get_or old (crew.sessions + n) d) (get_or ended (crew.sessions + n) d)
      (turns_in tables crew.turns) [] (get_or after (crew.sessions + n) e).lines.text.items (get_or after (crew.sessions + n) e).ended (served.calls (crew.sessions + n + 1))
  worker_did n d e within =
      let inside : crew.sessions + n < length old = omega (arith, within, size) in
      subst (λ a. CarriedOut store true (TheWorker (n + 1)) round (most_of_turn * crew.turns) (get_or old (crew.sessions + n) d) (get_or ended (crew.sessions + n) d)
      (turns_in tables crew.turns) [] a.lines.text.items a.ended (served.calls (crew.sessions + n + 1)))
      (any_default after (crew.sessions + n) some_duty e (let sizes = duties_size crew round lines before are in omega (arith, inside, served.duties, sizes, size)))
      (told_of (get_or old (crew.sessions + n) d) (get_or ended (crew.sessions + n) d) (get_or before (crew.sessions + n) some_duty) (get_or after (crew.sessions + n) some_duty)
      (task.Turns (n + 1) crew.turns) (served.calls (crew.sessions + n + 1)) (get_or old (crew.sessions + n) d).session
      (of_worker_at crew round lines before are n some_duty within) refl (served.each (crew.sessions + n) d some_duty inside))

  -- a worker's calls, by its number
  by_number : (n : ℕ) → served.calls (crew.sessions + n + 1) ≡ served.calls (crew.sessions + (n + 1))
  by_number n = ap served.calls (let e : crew.sessions + n + 1 ≡ crew.sessions + (n + 1) = omega arith in e)

  -- a worker does not stop at an export
  worker_whole : (n : ℕ) (d : Session) (e : Duty) → n < crew.workers → is_cut (get_or after (crew.sessions + n) e) ≡ false
  worker_whole n d e within = go (is_cut (get_or after (crew.sessions + n) e)) refl
    where
      go : (b : Bool) → is_cut (get_or after (crew.sessions + n) e) ≡ b → is_cut (get_or after (crew.sessions + n) e) ≡ false
      go false is = is
      go true is =
          let did = worker_did n d e within in
          let calls = served.calls (crew.sessions + n + 1) in
          let none = (none_of_both is_export (asked_in calls) did.rest (ap (list_any is_export) (sym did.asked) ∙ asks_none tables (Some (task.Turns (n + 1) crew.turns)) refl)).0 in
          absurd (true≢false (sym (ends_exports calls (did.last is)) ∙ none))

  -- The calls of each worker are those of its turns.
  turned : AllTurned tables crew by_who
  turned n within =
      let d : Session = any_of old 0 (omega (arith, size, some)) in
      let did = worker_did n d some_duty within in
      let calls = served.calls (crew.sessions + n + 1) in
      ap asked_in (sym (by_number n))
      ∙ sym (append-nil (asked_in calls))
      ∙ ap (λ (cs : List Command). asked_in calls ++ cs) (sym (did.whole (worker_whole n d some_duty within)))
      ∙ sym did.asked

  -- Each session carried out all its commands, or stopped at an export among them.
  asked_up_to : AskedUpToExport crew.sessions lines (λ n. by_who (TheSession n))
  asked_up_to k within =
      let d : Session = any_of old 0 (omega (arith, size, some)) in
      let did = session_did k d some_duty within in
      go did (is_cut (get_or after k some_duty)) refl
    where
      go : {d : Session} (did : SessionDid k d some_duty) (b : Bool) → is_cut (get_or after k some_duty) ≡ b
          → (asked_in (served.calls (k + 1)) ≡ commands_of (k + 1) lines) ⊎ CallsStopAtExport (served.calls (k + 1)) (commands_of (k + 1) lines)
      go did false is = inl (
          sym (append-nil (asked_in (served.calls (k + 1))))
          ∙ ap (λ (cs : List Command). asked_in (served.calls (k + 1)) ++ cs) (sym (did.did.whole is))
          ∙ sym did.did.asked ∙ did.same)
      go did true is = inr (record { rest = did.did.rest; asked = sym did.same ∙ did.did.asked; last = did.did.last is })

  -- Where no duty was cut off, each session carried out all its commands.
  asked_all : list_any is_cut after ≡ false → AskedAll crew.sessions lines (λ n. by_who (TheSession n))
  asked_all none k within =
      let d : Session = any_of old 0 (omega (arith, size, some)) in
      let did = session_did k d some_duty within in
      let sizes = duties_size crew round lines before are in
      sym (append-nil (asked_in (served.calls (k + 1))))
      ∙ ap (λ (cs : List Command). asked_in (served.calls (k + 1)) ++ cs)
      (sym (did.did.whole (none_at is_cut after none k some_duty (omega (arith, within, served.duties, sizes)))))
      ∙ sym did.did.asked ∙ did.same

  -- Where a duty was cut off, the calls of one session end at an export.
  one_ends : list_any is_cut after ≡ true → OneEndsAtExport crew.sessions (λ n. by_who (TheSession n))
  one_ends some_cut =
      let at' = some_place is_cut after some_cut in
      let sizes = duties_size crew round lines before are in
      go at'.0 (at'.2 some_duty) (place crew.sessions crew.workers at'.0 (omega (arith, at'.1, served.duties, sizes)))
    where
      go : (k : ℕ) → is_cut (get_or after k some_duty) ≡ true → Place crew.sessions crew.workers k → OneEndsAtExport crew.sessions (λ n. by_who (TheSession n))
      go k is (of_session inside) =
          let d : Session = any_of old 0 (omega (arith, size, some)) in
          record { place = k; within = inside; ends = (session_did k d some_duty inside).did.last is }
      go k is (of_worker n inside same) =
          let d : Session = any_of old 0 (omega (arith, size, some)) in
          absurd (true≢false (sym is ∙ ap (λ j. is_cut (get_or after j some_duty)) (sym same) ∙ worker_whole n d some_duty inside))

  -- what all sent
  sent : SentBy tables (crew_calls crew by_who) exported exported_now
  sent = subst (λ (cs : List Call). SentBy tables cs exported exported_now)
      (ap (λ n. calls_of n served.calls) size
      ∙ flat_split served.calls 1 crew.sessions crew.workers
      ∙ ap (λ (cs : List Call). calls_of crew.sessions served.calls ++ cs)
      (shifted served.calls (λ n. served.calls (crew.sessions + n)) crew.sessions 1 crew.workers (λ k low high. refl)))
      served.sent

  -- the text of all
  text_is : list_any is_lost after ≡ false → duties_text after ≡ round_text tables round (crew_shares crew by_who)
  text_is none_lost =
      let first : ℕ → List ℕ = λ n. share_text tables round (share_of (TheSession n) (served.calls n)) in
      let second : ℕ → List ℕ = λ n. share_text tables round (share_of (TheWorker n) (served.calls (crew.sessions + n))) in
      let sizes = duties_size crew round lines before are in
      flat_at (λ (duty : Duty). duty.lines.text.items) (joined crew.sessions first second) 1 after each
      ∙ ap (λ n. flat_map (joined crew.sessions first second) (range_with_len 1 n)) (served.duties ∙ sizes)
      ∙ joined_flat crew.sessions crew.workers first second
      ∙ ap (λ (text : List ℕ). text ++ flat_map second (range_with_len 1 crew.workers))
      (sym (flat_map-map (share_text tables round) (λ n. share_of (TheSession n) (served.calls n)) (range_with_len 1 crew.sessions)))
      ∙ ap (λ (text : List ℕ). flat_map (share_text tables round) (shares_of TheSession crew.sessions served.calls) ++ text)
      (sym (flat_map-map (share_text tables round) (λ n. share_of (TheWorker n) (served.calls (crew.sessions + n))) (range_with_len 1 crew.workers)))
      ∙ sym (flat_map-append (share_text tables round) (shares_of TheSession crew.sessions served.calls) (shares_of TheWorker crew.workers (λ n. served.calls (crew.sessions + n))))
    where
      whole_at : (k : ℕ) (e : Duty) → k < length after → is_whole (get_or after k e) ≡ true
      whole_at k e within = not-false (is_whole (get_or after k e)) (none_at is_lost after none_lost k e within)

      each : (k : ℕ) (e : Duty) → k < length after
          → (get_or after k e).lines.text.items
          ≡ joined crew.sessions (λ n. share_text tables round (share_of (TheSession n) (served.calls n)))
          (λ n. share_text tables round (share_of (TheWorker n) (served.calls (crew.sessions + n)))) (1 + k)
      each k e within =
          let sizes = duties_size crew round lines before are in
          go (place crew.sessions crew.workers k (omega (arith, within, served.duties, sizes)))
        where
          d : Session
          d = any_of old 0 (omega (arith, size, some))

          go : Place crew.sessions crew.workers k
              → (get_or after k e).lines.text.items
              ≡ joined crew.sessions (λ n. share_text tables round (share_of (TheSession n) (served.calls n)))
              (λ n. share_text tables round (share_of (TheWorker n) (served.calls (crew.sessions + n)))) (1 + k)
          go (of_session inside) =
              whole_text (get_or after k e).ended
              ((get_or after k e).lines.text.items ≡ [] ++ share_text tables round (share_of (TheSession (k + 1)) (served.calls (k + 1))))
              (whole_at k e within) (session_did k d e inside).did.text
              ∙ ap (λ n. share_text tables round (share_of (TheSession n) (served.calls n))) (let e : k + 1 ≡ 1 + k = omega arith in e)
              ∙ sym (joined_front crew.sessions (λ n. share_text tables round (share_of (TheSession n) (served.calls n)))
              (λ n. share_text tables round (share_of (TheWorker n) (served.calls (crew.sessions + n)))) (1 + k) (omega (arith, inside)))
          go (of_worker n inside same) =
              ap (λ j. (get_or after j e).lines.text.items) (sym same)
              ∙ whole_text (get_or after (crew.sessions + n) e).ended
              ((get_or after (crew.sessions + n) e).lines.text.items ≡ [] ++ share_text tables round (share_of (TheWorker (n + 1)) (served.calls (crew.sessions + n + 1))))
              (subst (λ j. is_whole (get_or after j e) ≡ true) (sym same) (whole_at k e within)) (worker_did n d e inside).text
              ∙ ap (λ (cs : List Call). share_text tables round (share_of (TheWorker (n + 1)) cs)) (by_number n)
              ∙ sym (joined_back crew.sessions (λ n. share_text tables round (share_of (TheSession n) (served.calls n)))
              (λ n. share_text tables round (share_of (TheWorker n) (served.calls (crew.sessions + n)))) (1 + k) (n + 1) (omega (arith, same)) (omega arith))

  -- those of the row that did their duties are still sessions of the store
  pub ended_sessions : AreSessions store ended
  ended_sessions k d within =
      let sizes = duties_size crew round lines before are in
      (served.each k d some_duty (omega (arith, within, served.size))).worked.is_session

  module _ (met : Met store ended new) where
    row_ran : RowRan store crew old new by_who
    row_ran = record {
      met = met.met;
      lawful = met.lawful;
      named = met.named;
      size = met.size ∙ served.size;
      sessions = λ k d within. record {
        ended = get_or ended k d;
        worked = (session_did k d some_duty within).did.worked;
        met_in = met.each k d (omega (arith, within, served.size, size));
      };
      workers = λ n d within. record {
        ended = get_or ended (crew.sessions + n) d;
        worked = subst (λ (cs : List Call). Worked store true (most_of_turn * crew.turns) (get_or old (crew.sessions + n) d) (get_or ended (crew.sessions + n) d) cs)
            (by_number n) (worker_did n d some_duty within).worked;
        met_in = met.each (crew.sessions + n) d (omega (arith, within, served.size, size));
      };
    }

    -- a round of whose duties none was cut off ran, and then all met
    pub ran_round : list_any is_cut after ≡ false → RanRound store round crew old new lines after exported exported_now
    ran_round none = record {
      calls = by_who;
      ran = row_ran;
      asked = asked_all none;
      turned = turned;
      text_is = text_is;
      sent = sent;
    }

    -- one with a duty that was ended at an export
    pub ran_to_export : list_any is_cut after ≡ true → RanToExport store crew old new lines exported exported_now
    ran_to_export cut = record { calls = by_who; ran = row_ran; asked = asked_up_to; turned = turned; sent = sent; last = one_ends cut }
