-- The calls of a round end behind their own events.
use Rattle.std.proofs.Common.{◌≡◌, ◌≢◌, ◌⊎◌, ℕ, ◌+◌, ◌≤◌, Bool, true, false, cond, ◌==◌, List, [], ◌∷◌, ◌++◌, map, Option, None, Some, refl, sym, ap, ◌∙◌, subst, arith, append_assoc, append-nil}
use mathlib.Core.Logic.{inl, inr}
use Rattle.std.specs.List.{flat_map}
use Rattle.std.proofs.lemmas.Bool.Decides.{nat_tests}
use Rattle.std.proofs.lemmas.List.Elements.{filter-append}
use Rattle.outcome_spec.specs.Forms.{is_worker}
use Rattle.workload_spec.specs.declared.script.Script.{Script}
use Rattle.run_spec.specs.Calls.{IsCall}
use Rattle.run_spec.specs.Occurrences.{Occurrence, under}
use Rattle.run_spec.specs.Ran.{shape_of}
use Rattle.run_laws.proofs.Calls.Moments.{events_of_one, events_to_come, still_parted, no_tail, test_other, test_same}
use Rattle.run_laws.specs.Calls.Moments.{AreParted, Lined, Moment, Pending, advanced, advanced_by, ended_at, events_at, merged, with_pending}
use Rattle.run_laws.specs.Moments.Laws.{IsAsked, AreMoments, IsMoment, IsPrinted, with_event}
use Rattle.run_laws.specs.Moments.Moments.{who_at}

-- Calls that are to end, behind these events of their session; the first of them made some of its
-- events.
abbrev pub Awaits : Script → ℕ → List Occurrence → List Occurrence → List Pending → Type 0
Awaits script seat began done [] = Unit {0}
Awaits script seat began done (call ∷ calls) =
    (call.line.call.made ≡ done ++ call.made)
    × IsCall (shape_of script) (is_worker (who_at script seat)) seat began call.line.call
    × IsPrinted (who_at script seat) call.line.call call.line.printed
    × (call.made ≡ [] → done ≡ [])
    × IsAsked script seat call.line.call.command
    × Awaits script seat (began ++ call.line.call.made) [] calls

pub record Waits (script : Script) (seat : ℕ) (front : List Occurrence) (calls : List Pending) : Type 0 where
  pub began : List Occurrence
  pub done : List Occurrence
  pub behind : under seat front ≡ began ++ done
  pub awaits : Awaits script seat began done calls

-- The number is the seat of a session or a worker of the script.
abbrev IsSeat : Script → ℕ → Type 0
IsSeat script seat = (1 ≤ seat) × (seat ≤ script.sessions + script.workers)

-- an event of a session is the last of its own
pub own_last : (front : List Occurrence) (made : Occurrence) → under made.session (front ++ made ∷ []) ≡ under made.session front ++ made ∷ []
own_last front made =
    filter-append (λ (o : Occurrence). o.session == made.session) front (made ∷ [])
    ∙ ap (λ b. under made.session front ++ cond b (made ∷ []) []) (test_same made.session)

-- it leaves those of another
pub other_last : (seat : ℕ) (front : List Occurrence) (made : Occurrence) → made.session ≢ seat → under seat (front ++ made ∷ []) ≡ under seat front
other_last seat front made ne =
    filter-append (λ (o : Occurrence). o.session == seat) front (made ∷ [])
    ∙ ap (λ b. under seat front ++ cond b (made ∷ []) []) (test_other made.session seat ne)
    ∙ append-nil (under seat front)

-- Lists of events that are the same have the same first.
head_is : (a b : Occurrence) (xs ys : List Occurrence) → a ∷ xs ≡ b ∷ ys → a ≡ b
head_is a b xs ys e = cc

-- An event is never the same as none.
some_none : (o : Occurrence) → Some o ≡ None → ⊥
some_none o e = cc

-- A list of events with a first is not empty.
none_first : (o : Occurrence) (os : List Occurrence) → o ∷ os ≡ [] → ⊥
none_first o os e = cc

-- ---- one event

module _ (script : Script) (front : List Occurrence) (made : Occurrence) (seat : IsSeat script made.session) where
  -- A call that made no event ends at a moment without one.
  ended : (line : Lined) (began done : List Occurrence) → under made.session front ≡ began ++ done
      → line.call.made ≡ done ++ []
      → IsCall (shape_of script) (is_worker (who_at script made.session)) made.session began line.call
      → IsPrinted (who_at script made.session) line.call line.printed
      → done ≡ []
      → IsAsked script made.session line.call.command
      → IsMoment script front (record { session = made.session; event = None; line = Some line })
  ended line began done behind all is printed none asked = record {
    low = seat.0;
    high = seat.1;
    event_is = tt;
    stands = record { began = began; done = done; behind = behind; made = all; none = λ e. none; is_call = is; printed = printed; asked = asked };
  }

  -- the moments of one event, and what waits behind it
  one_event : (calls : List Pending) (rest : List Occurrence) (waits : Waits script made.session front calls)
      → made ∷ rest ≡ events_to_come calls
      → AreMoments script front (advanced made.session made calls).moments
      × Waits script made.session (front ++ made ∷ []) (advanced made.session made calls).pending
  one_event [] rest waits e = absurd (no_tail made rest e)
  one_event (call ∷ calls) rest waits e = go call.made refl (one_event calls rest)
    where
      Rest : Type 0
      Rest = Waits script made.session front calls → made ∷ rest ≡ events_to_come calls
          → AreMoments script front (advanced made.session made calls).moments
          × Waits script made.session (front ++ made ∷ []) (advanced made.session made calls).pending

      Goal : List Occurrence → Type 0
      Goal events =
          AreMoments script front (advanced_by made.session made events call.line (advanced made.session made calls) calls).moments
          × Waits script made.session (front ++ made ∷ []) (advanced_by made.session made events call.line (advanced made.session made calls) calls).pending

      whole : (events : List Occurrence) → call.made ≡ events → call.line.call.made ≡ waits.done ++ events
      whole events is = waits.awaits.0 ∙ ap (λ es. waits.done ++ es) is

      equals : (events : List Occurrence) → call.made ≡ events → made ∷ rest ≡ events ++ events_to_come calls
      equals events is = e ∙ ap (λ es. es ++ events_to_come calls) is

      go : (events : List Occurrence) → call.made ≡ events → Rest → Goal events
      go [] is later =
          let next : Waits script made.session front calls = record {
            began = waits.began ++ call.line.call.made;
            done = [];
            behind =
                waits.behind ∙ ap (λ es. waits.began ++ es) (sym (append-nil waits.done) ∙ sym (whole [] is))
                ∙ sym (append-nil (waits.began ++ call.line.call.made));
            awaits = waits.awaits.5;
          } in
          let behind = later next (equals [] is) in
          ((ended call.line waits.began waits.done waits.behind (whole [] is) waits.awaits.1 waits.awaits.2 (waits.awaits.3 is) waits.awaits.4, behind.0), behind.1)
      go (first ∷ []) is later =
          let same : made ≡ first = head_is made first rest (events_to_come calls) (equals (first ∷ []) is) in
          let all : call.line.call.made ≡ waits.done ++ made ∷ [] =
          whole (first ∷ []) is ∙ ap (λ (o : Occurrence). waits.done ++ o ∷ []) (sym same) in (
            (
              record {
                low = seat.0;
                high = seat.1;
                event_is = refl;
                stands = record {
                  began = waits.began;
                  done = waits.done;
                  behind = waits.behind;
                  made = all;
                  none = λ e. absurd (some_none made e);
                  is_call = waits.awaits.1;
                  printed = waits.awaits.2;
                  asked = waits.awaits.4;
                };
              },
              tt,
            ),
            record {
              began = waits.began ++ call.line.call.made;
              done = [];
              behind =
                  own_last front made ∙ ap (λ es. es ++ made ∷ []) waits.behind ∙ append_assoc waits.began waits.done (made ∷ [])
                  ∙ ap (λ es. waits.began ++ es) (sym all) ∙ sym (append-nil (waits.began ++ call.line.call.made));
              awaits = waits.awaits.5;
            },
          )
      go (first ∷ next ∷ more) is later =
          let same : made ≡ first = head_is made first rest (next ∷ more ++ events_to_come calls) (equals (first ∷ next ∷ more) is) in
          let all : call.line.call.made ≡ waits.done ++ made ∷ next ∷ more =
          whole (first ∷ next ∷ more) is ∙ ap (λ (o : Occurrence). waits.done ++ o ∷ next ∷ more) (sym same) in (
            (
              record {
                low = seat.0;
                high = seat.1;
                event_is = refl;
                stands = record {
                  began = waits.began;
                  done = waits.done;
                  next = next;
                  rest = more;
                  call = call.line.call;
                  behind = waits.behind;
                  made = all;
                  is_call = waits.awaits.1;
                };
              },
              tt,
            ),
            record {
              began = waits.began;
              done = waits.done ++ made ∷ [];
              behind = own_last front made ∙ ap (λ es. es ++ made ∷ []) waits.behind ∙ append_assoc waits.began waits.done (made ∷ []);
              awaits = (
                all ∙ sym (append_assoc waits.done (made ∷ []) (next ∷ more)),
                waits.awaits.1,
                waits.awaits.2,
                λ e. absurd (none_first next more e),
                waits.awaits.4,
                waits.awaits.5,
              );
            },
          )

-- ---- what is left at the end

-- Calls that are left with no event to come end at moments without one.
left_over : (script : Script) (front : List Occurrence) (seat : ℕ) → IsSeat script seat → (calls : List Pending) → Waits script seat front calls
    → events_to_come calls ≡ [] → AreMoments script front (map (ended_at seat) calls)
left_over script front seat is [] waits none = tt
left_over script front seat is (call ∷ calls) waits none =
    let empty : call.made ≡ [] = first_none call.made (events_to_come calls) none in
    let all : call.line.call.made ≡ waits.done ++ [] = waits.awaits.0 ∙ ap (λ es. waits.done ++ es) empty in (
      record {
        low = is.0;
        high = is.1;
        event_is = tt;
        stands = record {
          began = waits.began;
          done = waits.done;
          behind = waits.behind;
          made = all;
          none = λ e. waits.awaits.3 empty;
          is_call = waits.awaits.1;
          printed = waits.awaits.2;
          asked = waits.awaits.4;
        };
      },
      left_over script front seat is calls
          (record {
            began = waits.began ++ call.line.call.made;
            done = [];
            behind =
                waits.behind ∙ ap (λ es. waits.began ++ es) (sym (append-nil waits.done) ∙ sym all)
                ∙ sym (append-nil (waits.began ++ call.line.call.made));
            awaits = waits.awaits.5;
          })
          (ap (λ es. es ++ events_to_come calls) (sym empty) ∙ none),
    )
  where
    first_none : (xs ys : List Occurrence) → xs ++ ys ≡ [] → xs ≡ []
    first_none [] ys e = refl
    first_none (x ∷ xs) ys e = absurd (let never : ⊥ = cc e in never)

-- ---- appended moments

-- moments behind moments are moments
pub with_events : (script : Script) (front : List Occurrence) (xs ys : List Moment) → AreMoments script front xs
    → AreMoments script (front ++ events_at xs) ys → AreMoments script front (xs ++ ys)
with_events script front [] ys are more = subst (λ f. AreMoments script f ys) (append-nil front) more
with_events script front (x ∷ xs) ys are more = (
  are.0,
  with_events script (with_event front x.event) xs ys are.1 (subst (λ f. AreMoments script f ys) (sym (at x.event)) more),
)
  where
    at : (event : Option Occurrence) → with_event front event ++ events_at xs ≡ front ++ Rattle.std.specs.List.cons_option event (events_at xs)
    at None = refl
    at (Some made) = append_assoc front (made ∷ []) (events_at xs)

-- Two numbers are the same or not.
same_number : (a b : ℕ) → (a ≡ b) ⊎ (a ≢ b)
same_number a b = go (a == b) refl
  where
    go : (t : Bool) → (a == b) ≡ t → (a ≡ b) ⊎ (a ≢ b)
    go true e = inl (grind (arith, nat_tests))
    go false e = inr (λ s. absurd (grind (arith, nat_tests)))

-- Where no seat has an event to come, the calls left at all seats end without one.
all_seats : (script : Script) (front : List Occurrence) (seats : List ℕ) → Rattle.std.specs.Prelude.All (IsSeat script) seats → (calls : ℕ → List Pending)
    → ((seat : ℕ) → Waits script seat front (calls seat)) → ((seat : ℕ) → events_to_come (calls seat) ≡ [])
    → (AreMoments script front (flat_map (λ seat. map (ended_at seat) (calls seat)) seats))
    × (events_at (flat_map (λ seat. map (ended_at seat) (calls seat)) seats) ≡ [])
all_seats script front [] are calls waits none = (tt, refl)
all_seats script front (seat ∷ seats) are calls waits none =
    let here = left_over script front seat (Rattle.std.proofs.lemmas.List.Elements.All-head (IsSeat script) seat seats are) (calls seat) (waits seat) (none seat) in
    let no_events : events_at (map (ended_at seat) (calls seat)) ≡ [] = nothing (calls seat) in
    let rest = all_seats script front seats (Rattle.std.proofs.lemmas.List.Elements.All-tail (IsSeat script) seat seats are) calls waits none in (
      with_events script front (map (ended_at seat) (calls seat)) (flat_map (λ seat. map (ended_at seat) (calls seat)) seats) here
          (subst (λ f. AreMoments script f (flat_map (λ seat. map (ended_at seat) (calls seat)) seats))
          (sym (ap (λ es. front ++ es) no_events ∙ append-nil front)) rest.0),
      Rattle.std.proofs.lemmas.List.Elements.filter_map-append (λ (moment : Moment). moment.event) (map (ended_at seat) (calls seat)) (flat_map (λ seat. map (ended_at seat) (calls seat)) seats)
          ∙ ap (λ es. es ++ events_at (flat_map (λ seat. map (ended_at seat) (calls seat)) seats)) no_events ∙ rest.1,
    )
  where
    nothing : (calls : List Pending) → events_at (map (ended_at seat) calls) ≡ []
    nothing [] = refl
    nothing (call ∷ calls) = nothing calls

-- The moments of a round.
pub merged_are : (script : Script) (seats : List ℕ) → Rattle.std.specs.Prelude.All (IsSeat script) seats
    → (front made : List Occurrence) (calls : ℕ → List Pending)
    → Rattle.std.specs.Prelude.All (λ (o : Occurrence). IsSeat script o.session) made
    → AreParted made calls → ((seat : ℕ) → Waits script seat front (calls seat))
    → AreMoments script front (merged seats made calls)
merged_are script seats are front [] calls all parted waits =
    (all_seats script front seats are calls waits (λ seat. sym (parted seat))).0
merged_are script seats are front (made ∷ others) calls all parted waits =
    let first = Rattle.std.proofs.lemmas.List.Elements.All-head (λ (o : Occurrence). IsSeat script o.session) made others all in
    let own : made ∷ under made.session others ≡ events_to_come (calls made.session) =
    sym (ap (λ b. cond b (made ∷ under made.session others) (under made.session others)) (test_same made.session)) ∙ parted made.session in
    let one = one_event script front made first (calls made.session) (under made.session others) (waits made.session) own in
    let events = (events_of_one made.session made (under made.session others) (calls made.session) own).0 in
    with_events script front (advanced made.session made (calls made.session)).moments
    (merged seats others (with_pending calls made.session (advanced made.session made (calls made.session)).pending))
    one.0
    (subst (λ es. AreMoments script (front ++ es) (merged seats others (with_pending calls made.session (advanced made.session made (calls made.session)).pending)))
    (sym events)
    (merged_are script seats are (front ++ made ∷ []) others (with_pending calls made.session (advanced made.session made (calls made.session)).pending)
    (Rattle.std.proofs.lemmas.List.Elements.All-tail (λ (o : Occurrence). IsSeat script o.session) made others all)
    (still_parted made others calls parted)
    (λ seat. go seat (same_number seat made.session) one.1)))
  where
    go : (seat : ℕ) → (seat ≡ made.session) ⊎ (seat ≢ made.session)
        → Waits script made.session (front ++ made ∷ []) (advanced made.session made (calls made.session)).pending
        → Waits script seat (front ++ made ∷ []) (with_pending calls made.session (advanced made.session made (calls made.session)).pending seat)
    go seat (inl e) own = subst
        (λ n. Waits script n (front ++ made ∷ []) (with_pending calls made.session (advanced made.session made (calls made.session)).pending n))
        (sym e)
        (subst (λ b. Waits script made.session (front ++ made ∷ []) (cond b (advanced made.session made (calls made.session)).pending (calls made.session)))
        (sym (test_same made.session)) own)
    go seat (inr ne) own = subst
        (λ b. Waits script seat (front ++ made ∷ []) (cond b (advanced made.session made (calls made.session)).pending (calls seat)))
        (sym (test_other seat made.session ne))
        (let w = waits seat in record {
          began = w.began;
          done = w.done;
          behind = other_last seat front made (λ e. ne (sym e)) ∙ w.behind;
          awaits = w.awaits;
        })
