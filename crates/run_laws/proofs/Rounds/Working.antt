-- One's work in a round.
use Rattle.std.proofs.Common.{◌≡◌, ℕ, Bool, List, [], ◌∷◌, ◌++◌, refl, sym, ap, ◌∙◌, subst, append-nil, append_assoc}
use Rattle.event_spec.specs.Parts.{Shape}
use Rattle.outcome_spec.specs.Forms.{is_worker}
use Rattle.run_spec.specs.Calls.{Call, IsCall}
use Rattle.run_spec.specs.Handed.{Called, GoesOn, Stretch, Works, own_in}
use Rattle.run_spec.specs.Occurrences.{Logged, Occurrence}
use Rattle.run_spec.specs.Ran.{session_of, shape_of}
use Rattle.run_spec.specs.Traces.{log_in}
use Rattle.store_laws.proofs.Stretches.{nothing_is_a_stretch, stretches_join}
use Rattle.run_laws.proofs.Calls.Meeting.{between}
use Rattle.run_laws.specs.Rounds.Working.{GoesOnFurther, NothingDone, WorkEnds, WorkGoesOn}

-- A log that goes on twice goes on.
pub further : GoesOnFurther
further first second third a b = (
  a.0 ++ b.0,
  b.1 ∙ ap (λ (log : List Logged). log ++ b.0) a.1 ∙ append_assoc first a.0 b.0,
)

-- Before the first call of a round nothing was done.
pub nothing_done : NothingDone
nothing_done shape worker session seen = (([], sym (append-nil seen)), refl)

-- A call that made nothing is one behind the log as it was seen.
pub nothing_called : (shape : Shape) (worker : Bool) (session : ℕ) (seen : List Logged) (call : Call)
    → call.made ≡ [] → IsCall shape worker session (own_in shape session seen) call → Called shape worker session seen seen call
nothing_called shape worker session seen call none is = record {
  stretch = subst (Stretch shape session seen seen) (sym none) (nothing_is_a_stretch shape session seen seen ([], sym (append-nil seen)) refl);
  is_call = is;
}

-- A call behind more of the log that has no further event of one's own is a call behind less of it.
pub called_earlier : (shape : Shape) (worker : Bool) (session : ℕ) (old seen new : List Logged) (call : Call)
    → GoesOn old seen → own_in shape session seen ≡ own_in shape session old
    → Called shape worker session seen new call → Called shape worker session old new call
called_earlier shape worker session old seen new call more same called = record {
  stretch = stretches_join shape session old seen new [] call.made (nothing_is_a_stretch shape session old seen more same) called.stretch;
  is_call = subst (λ (front : List Occurrence). IsCall shape worker session front call) same called.is_call;
}

-- One call more is one's work too.
pub work_goes_on : WorkGoesOn
work_goes_on shape worker session began seen new [] call works called = (
  new,
  called_earlier shape worker session began seen new call works.0 works.1 called,
  nothing_done shape worker session new,
)
work_goes_on shape worker session began seen new (first ∷ calls) call works called =
    (works.0, works.1, work_goes_on shape worker session works.0 seen new calls call works.2 called)

-- who worked saw all that one had seen
works_go_on : (shape : Shape) (worker : Bool) (session : ℕ) (began ended : List Logged) (calls : List Call)
    → Works shape worker session began calls ended → GoesOn began ended
works_go_on shape worker session began ended [] works = works.0
works_go_on shape worker session began ended (call ∷ calls) works =
    further began works.0 ended (log_in works.1.stretch.trace, works.1.stretch.goes_on) (works_go_on shape worker session works.0 ended calls works.2)

-- Who works and then meets the others brings a share, and stands behind the round.
pub work_ends : WorkEnds
work_ends script finished began ended met later share stands works meets =
    let shape = shape_of script in
    let session = session_of script share.who in
    let went = further began ended met (works_go_on shape (is_worker share.who) session began ended share.calls works) meets.shown in
    record {
      goes_on = further finished began met stands.saw went;
      brings = record {
        began = began;
        ended = ended;
        later = later;
        saw = stands.saw;
        nothing_yet = stands.nothing_yet;
        works = works;
        in_met = meets.shown;
        seen = meets.saw;
        nothing_more = meets.nothing_more;
      };
      stands = record {
        saw = meets.saw;
        nothing_yet = meets.nothing_more ∙ sym (between shape session ended met later meets.shown meets.saw meets.nothing_more);
      };
    }
