-- The moments of a round have its events and its lines.
use Rattle.std.proofs.Common.{◌≡◌, ◌≢◌, ◌⊎◌, ℕ, Bool, true, false, cond, ◌==◌, List, [], ◌∷◌, ◌++◌, map, Option, None, Some, refl, sym, ap, ◌∙◌, subst, arith, append-nil}
use mathlib.Core.Logic.{inl, inr}
use Rattle.std.specs.List.{filter, filter_map, flat_map}
use Rattle.std.proofs.lemmas.Bool.Decides.{nat_tests}
use Rattle.std.proofs.lemmas.List.Elements.{filter-append, filter_map-append}
use Rattle.run_spec.specs.Occurrences.{Occurrence, under}
use Rattle.run_laws.specs.Calls.Moments.{AreParted, Lined, Moment, MomentsAreTheRound, Pending, advanced, advanced_by, ended_at, events_at, lines_at, lines_of, merged, with_pending}

-- the events that pending calls have yet to make
abbrev pub events_to_come : List Pending → List Occurrence
events_to_come calls = flat_map (λ call. call.made) calls

-- a session is tested as itself
pub test_same : (q : ℕ) → (q == q) ≡ true
test_same q = grind (arith, nat_tests)

-- Two numbers are the same or not.
same_number : (a b : ℕ) → (a ≡ b) ⊎ (a ≢ b)
same_number a b = go (a == b) refl
  where
    go : (t : Bool) → (a == b) ≡ t → (a ≡ b) ⊎ (a ≢ b)
    go true e = inl (grind (arith, nat_tests))
    go false e = inr (λ s. absurd (grind (arith, nat_tests)))

-- another session is not tested as this one
pub test_other : (r q : ℕ) → r ≢ q → (r == q) ≡ false
test_other r q ne = go (r == q) refl
  where
    go : (b : Bool) → (r == q) ≡ b → b ≡ false
    go true e = absurd (ne (grind (arith, nat_tests)))
    go false e = refl

-- lists that are one are one behind their first elements
pub tail_is : (a b : Occurrence) (xs ys : List Occurrence) → a ∷ xs ≡ b ∷ ys → xs ≡ ys
tail_is a b xs ys e = cc

-- a list with an element is not empty
pub no_tail : (a : Occurrence) (xs : List Occurrence) → a ∷ xs ≡ [] → ⊥
no_tail a xs e = cc

-- what a line adds to the lines
abbrev with_line : Option Lined → List Lined → List Lined
with_line None lines = lines
with_line (Some line) lines = line ∷ lines

-- A moment of a session adds its line, if it has one, to those of the session.
line_at : (q : ℕ) (event : Option Occurrence) (line : Option Lined) (moments : List Moment) → lines_at q (record { session = q; event = event; line = line } ∷ moments) ≡ with_line line (lines_at q moments)
line_at q event line moments = ap (λ (b : Bool). filter_map (λ (moment : Moment). moment.line) (cond b (record { session = q; event = event; line = line } ∷ filter (λ (moment : Moment). moment.session == q) moments) (filter (λ (moment : Moment). moment.session == q) moments))) (test_same q) ∙ go line
  where
    go : (l : Option Lined) → filter_map (λ (moment : Moment). moment.line) (record { session = q; event = event; line = l } ∷ filter (λ (moment : Moment). moment.session == q) moments) ≡ with_line l (lines_at q moments)
    go None = refl
    go (Some l) = refl

-- the lines of one event's moments and those that are left are the lines
lines_of_one : (q : ℕ) (made : Occurrence) (calls : List Pending) → lines_at q (advanced q made calls).moments ++ lines_of (advanced q made calls).pending ≡ lines_of calls
lines_of_one q made [] = refl
lines_of_one q made (call ∷ calls) = go call.made (lines_of_one q made calls)
  where
    go : (events : List Occurrence) → lines_at q (advanced q made calls).moments ++ lines_of (advanced q made calls).pending ≡ lines_of calls
        → lines_at q (advanced_by q made events call.line (advanced q made calls) calls).moments ++ lines_of (advanced_by q made events call.line (advanced q made calls) calls).pending ≡ call.line ∷ lines_of calls
    go [] rest =
        ap (λ (xs : List Lined). xs ++ lines_of (advanced q made calls).pending) (line_at q None (Some call.line) (advanced q made calls).moments)
        ∙ ap (λ (xs : List Lined). call.line ∷ xs) rest
    go (first ∷ []) rest = ap (λ (xs : List Lined). xs ++ lines_of calls) (line_at q (Some made) (Some call.line) [])
    go (first ∷ next ∷ more) rest = ap (λ (xs : List Lined). xs ++ lines_of (record { made = next ∷ more; line = call.line } ∷ calls)) (line_at q (Some made) None [])

-- to other sessions they have no line
lines_of_others : (r q : ℕ) (made : Occurrence) (calls : List Pending) → r ≢ q → lines_at q (advanced r made calls).moments ≡ []
lines_of_others r q made [] ne = refl
lines_of_others r q made (call ∷ calls) ne = go call.made (lines_of_others r q made calls ne)
  where
    away : (event : Option Occurrence) (line : Option Lined) (moments : List Moment) → lines_at q (record { session = r; event = event; line = line } ∷ moments) ≡ lines_at q moments
    away event line moments = ap (λ (b : Bool). filter_map (λ (moment : Moment). moment.line) (cond b (record { session = r; event = event; line = line } ∷ filter (λ (moment : Moment). moment.session == q) moments) (filter (λ (moment : Moment). moment.session == q) moments))) (test_other r q ne)

    go : (events : List Occurrence) → lines_at q (advanced r made calls).moments ≡ [] → lines_at q (advanced_by r made events call.line (advanced r made calls) calls).moments ≡ []
    go [] rest = away None (Some call.line) (advanced r made calls).moments ∙ rest
    go (first ∷ []) rest = away (Some made) (Some call.line) []
    go (first ∷ next ∷ more) rest = away (Some made) None []

-- the event is theirs, and the others are to come
pub events_of_one : (q : ℕ) (made : Occurrence) (rest : List Occurrence) (calls : List Pending) → made ∷ rest ≡ events_to_come calls
    → (events_at (advanced q made calls).moments ≡ made ∷ []) × (rest ≡ events_to_come (advanced q made calls).pending)
events_of_one q made rest [] e = absurd (no_tail made rest e)
events_of_one q made rest (call ∷ calls) e = go call.made e (events_of_one q made rest calls)
  where
    go : (events : List Occurrence) → made ∷ rest ≡ events ++ events_to_come calls
        → (made ∷ rest ≡ events_to_come calls → (events_at (advanced q made calls).moments ≡ made ∷ []) × (rest ≡ events_to_come (advanced q made calls).pending))
        → (events_at (advanced_by q made events call.line (advanced q made calls) calls).moments ≡ made ∷ [])
        × (rest ≡ events_to_come (advanced_by q made events call.line (advanced q made calls) calls).pending)
    go [] e behind = behind e
    go (first ∷ []) e behind = (refl, tail_is made first rest (events_to_come calls) e)
    go (first ∷ next ∷ more) e behind = (refl, tail_is made first rest (next ∷ more ++ events_to_come calls) e)

-- ---- a round

-- An event stands first among those under its own session.
own_first : (made : Occurrence) (others : List Occurrence) → under made.session (made ∷ others) ≡ made ∷ under made.session others
own_first made others = ap (λ (b : Bool). cond b (made ∷ under made.session others) (under made.session others)) (test_same made.session)

-- An event of another session adds nothing to those under a session.
other_first : (q : ℕ) (made : Occurrence) (others : List Occurrence) → made.session ≢ q → under q (made ∷ others) ≡ under q others
other_first q made others ne = ap (λ (b : Bool). cond b (made ∷ under q others) (under q others)) (test_other made.session q ne)

module _ (made : Occurrence) (others : List Occurrence) (calls : ℕ → List Pending) (parted : AreParted (made ∷ others) calls) where
  -- the calls that are pending behind the event
  abbrev pub left : List Pending
  left = (advanced made.session made (calls made.session)).pending

  -- The event's moments have it alone, and those under its session behind it are to come.
  one : (events_at (advanced made.session made (calls made.session)).moments ≡ made ∷ []) × (under made.session others ≡ events_to_come left)
  one = events_of_one made.session made (under made.session others) (calls made.session) (sym (own_first made others) ∙ parted made.session)

  -- the events to come are those of the calls that are pending still
  pub still_parted : AreParted others (with_pending calls made.session left)
  still_parted r = go (same_number r made.session)
    where
      go : (r ≡ made.session) ⊎ (r ≢ made.session) → under r others ≡ events_to_come (with_pending calls made.session left r)
      go (inl e) = ap (λ n. under n others) e ∙ one.1 ∙ ap (λ (b : Bool). events_to_come (cond b left (calls r))) (sym (ap (λ n. n == made.session) e ∙ test_same made.session))
      go (inr ne) =
          sym (other_first r made others (λ e. ne (sym e))) ∙ parted r
          ∙ ap (λ (b : Bool). events_to_come (cond b left (calls r))) (sym (test_other r made.session ne))

-- what is left at the end
ended_events : (q : ℕ) (calls : List Pending) → events_at (map (ended_at q) calls) ≡ []
ended_events q [] = refl
ended_events q (call ∷ calls) = ended_events q calls

-- The moments of the calls that are left at the end have no events.
all_ended : (sessions : List ℕ) (calls : ℕ → List Pending) → events_at (flat_map (λ q. map (ended_at q) (calls q)) sessions) ≡ []
all_ended [] calls = refl
all_ended (q ∷ sessions) calls =
    filter_map-append (λ (moment : Moment). moment.event) (map (ended_at q) (calls q)) (flat_map (λ q. map (ended_at q) (calls q)) sessions)
    ∙ ap (λ (xs : List Occurrence). xs ++ events_at (flat_map (λ q. map (ended_at q) (calls q)) sessions)) (ended_events q (calls q)) ∙ all_ended sessions calls

-- The lines of moments in a row are those of the first and those of the second.
lines_append : (q : ℕ) (xs ys : List Moment) → lines_at q (xs ++ ys) ≡ lines_at q xs ++ lines_at q ys
lines_append q xs ys =
    ap (filter_map (λ (moment : Moment). moment.line)) (filter-append (λ (moment : Moment). moment.session == q) xs ys)
    ∙ filter_map-append (λ (moment : Moment). moment.line) (filter (λ (moment : Moment). moment.session == q) xs) (filter (λ (moment : Moment). moment.session == q) ys)

-- The calls that a session ends have their lines in its own, and in no other's.
ended_lines : (r q : ℕ) (calls : List Pending) → lines_at q (map (ended_at r) calls) ≡ cond (r == q) (lines_of calls) []
ended_lines r q calls = go (same_number r q)
  where
    same : (xs : List Pending) → lines_at q (map (ended_at q) xs) ≡ lines_of xs
    same [] = refl
    same (x ∷ xs) = line_at q None (Some x.line) (map (ended_at q) xs) ∙ ap (λ (ys : List Lined). x.line ∷ ys) (same xs)

    other : r ≢ q → (xs : List Pending) → lines_at q (map (ended_at r) xs) ≡ []
    other ne [] = refl
    other ne (x ∷ xs) =
        ap (λ (b : Bool). filter_map (λ (moment : Moment). moment.line) (cond b (ended_at r x ∷ filter (λ (moment : Moment). moment.session == q) (map (ended_at r) xs)) (filter (λ (moment : Moment). moment.session == q) (map (ended_at r) xs)))) (test_other r q ne)
        ∙ other ne xs

    go : (r ≡ q) ⊎ (r ≢ q) → lines_at q (map (ended_at r) calls) ≡ cond (r == q) (lines_of calls) []
    go (inl e) = ap (λ n. lines_at q (map (ended_at n) calls)) e ∙ same calls ∙ ap (λ (b : Bool). cond b (lines_of calls) []) (sym (ap (λ n. n == q) e ∙ test_same q))
    go (inr ne) = other ne calls ∙ ap (λ (b : Bool). cond b (lines_of calls) []) (sym (test_other r q ne))

-- The lines of calls left at the end are those of the session's, as often as it is listed.
left_lines : (q : ℕ) (sessions : List ℕ) (calls : ℕ → List Pending) → lines_at q (flat_map (λ r. map (ended_at r) (calls r)) sessions) ≡ flat_map (λ r. lines_of (calls r)) (filter (λ r. r == q) sessions)
left_lines q [] calls = refl
left_lines q (r ∷ sessions) calls =
    lines_append q (map (ended_at r) (calls r)) (flat_map (λ r. map (ended_at r) (calls r)) sessions)
    ∙ ap (λ (xs : List Lined). xs ++ lines_at q (flat_map (λ r. map (ended_at r) (calls r)) sessions)) (ended_lines r q (calls r))
    ∙ ap (λ (xs : List Lined). cond (r == q) (lines_of (calls r)) [] ++ xs) (left_lines q sessions calls) ∙ go (r == q)
  where
    go : (b : Bool) → cond b (lines_of (calls r)) [] ++ flat_map (λ r. lines_of (calls r)) (filter (λ r. r == q) sessions) ≡ flat_map (λ r. lines_of (calls r)) (cond b (r ∷ filter (λ r. r == q) sessions) (filter (λ r. r == q) sessions))
    go true = refl
    go false = refl

-- the moments of a round have its events in order, and each session's calls in theirs
pub moments_are_the_round : MomentsAreTheRound
moments_are_the_round sessions [] calls parted = (
  all_ended sessions calls,
  λ q once. left_lines q sessions calls ∙ ap (flat_map (λ r. lines_of (calls r))) once ∙ append-nil (lines_of (calls q)),
)
moments_are_the_round sessions (made ∷ others) calls parted =
    let behind = moments_are_the_round sessions others (with_pending calls made.session (left made others calls parted)) (still_parted made others calls parted) in (
      filter_map-append (λ (moment : Moment). moment.event) (advanced made.session made (calls made.session)).moments (merged sessions others (with_pending calls made.session (left made others calls parted)))
          ∙ ap (λ (xs : List Occurrence). xs ++ events_at (merged sessions others (with_pending calls made.session (left made others calls parted)))) (one made others calls parted).0
          ∙ ap (λ (xs : List Occurrence). made ∷ xs) behind.0,
      λ q once.
          lines_append q (advanced made.session made (calls made.session)).moments (merged sessions others (with_pending calls made.session (left made others calls parted)))
          ∙ ap (λ (xs : List Lined). lines_at q (advanced made.session made (calls made.session)).moments ++ xs) (behind.1 q once)
          ∙ of_any q (same_number q made.session),
    )
  where
    left' : List Pending
    left' = (advanced made.session made (calls made.session)).pending

    of_any : (q : ℕ) → (q ≡ made.session) ⊎ (q ≢ made.session) → lines_at q (advanced made.session made (calls made.session)).moments ++ lines_of (with_pending calls made.session left' q) ≡ lines_of (calls q)
    of_any q (inl e) = subst (λ n. lines_at n (advanced made.session made (calls made.session)).moments ++ lines_of (with_pending calls made.session left' n) ≡ lines_of (calls n)) (sym e)
        (ap (λ (b : Bool). lines_at made.session (advanced made.session made (calls made.session)).moments ++ lines_of (cond b left' (calls made.session))) (test_same made.session) ∙ lines_of_one made.session made (calls made.session))
    of_any q (inr ne) =
        ap (λ (b : Bool). lines_at q (advanced made.session made (calls made.session)).moments ++ lines_of (cond b left' (calls q))) (test_other q made.session ne)
        ∙ ap (λ (xs : List Lined). xs ++ lines_of (calls q)) (lines_of_others made.session q made (calls made.session) (λ e. ne (sym e)))
