-- The lends of many sessions are laid into one trace: in front of each event stand those of all
-- sessions that lent there, session by session.
use Rattle.std.proofs.Common.{◌≡◌, ◌≢◌, ◌⊎◌, ℕ, zero, suc, ◌+◌, ◌==◌, Bool, true, false, cond, List, [], ◌∷◌, ◌++◌, map, refl, sym, ap, ◌∙◌, subst, arith, append-nil, ne_eqb}
use mathlib.Core.Logic.{inl, inr}
use Rattle.std.specs.Prelude.{All, ⊤}
use Rattle.std.specs.List.{range_with_len}
use Rattle.std.proofs.lemmas.List.Elements.{All-cons, All-head, All-nil, All-tail, All-weaker, filter-append}
use Rattle.std.proofs.lemmas.Bool.Decides.{nat_tests}
use Rattle.event_spec.specs.Lawful.{Among}
use Rattle.event_spec.specs.Parts.{Parts, Shape}
use Rattle.event_spec.specs.Replay.{after}
use Rattle.run_spec.specs.Occurrences.{Logged, Occurrence, occurrence_of, occurrences_from, under}
use Rattle.run_spec.specs.Traces.{Action, EachAlong, FitsAt, LendsFit, OwnFitsAt, as_event, as_log, log_in}
use Rattle.store_laws.proofs.Lends.{lend_leaves}
use Rattle.store_laws.proofs.Entries.{left_by, occurrences_append}
use Rattle.store_laws.proofs.Traces.{Lawful, along_append, along_weaker, entries_append, own_lawful}
use Rattle.run_laws.specs.Calls.Laying.{HasOwn, IsTraceOf, IsOneOf, LendsAreLaid, OwnTrace}

-- What was lent of a trace whose actions stand at their points might be.
pub lends_lawful : (shape : Shape) (parts : Parts) (trace : List Action) → LendsFit shape parts trace → EachAlong shape (Lawful shape) parts trace
lends_lawful shape = along_weaker shape (FitsAt shape) (Lawful shape) (λ parts action fits. fits.lend)

-- ---- the lends in front of the first event, and what stands behind it

-- The lends in front of the first event.
abbrev lead : List Action → List Action
lead [] = []
lead (action ∷ trace) = cond action.lent (action ∷ lead trace) []

-- What stands behind the first event.
abbrev rest : List Action → List Action
rest [] = []
rest (action ∷ trace) = cond action.lent (rest trace) trace

abbrev AllLent : List Action → Type 0
AllLent [] = ⊤
AllLent (action ∷ trace) = (action.lent ≡ true) × AllLent trace

lead_lent : (trace : List Action) → AllLent (lead trace)
lead_lent [] = tt
lead_lent (action ∷ trace) = go (lead_lent trace) action.lent refl
  where
    go : AllLent (lead trace) → (b : Bool) → action.lent ≡ b → AllLent (cond b (action ∷ lead trace) [])
    go h true e = (e, h)
    go h false e = tt

some_entry : (x : Logged) (xs : List Logged) → x ∷ xs ≡ [] → ⊥
some_entry x xs e = cc

heads : (a b : Logged) (xs ys : List Logged) → a ∷ xs ≡ b ∷ ys → a ≡ b
heads a b xs ys e = cc

tails : (a b : Logged) (xs ys : List Logged) → a ∷ xs ≡ b ∷ ys → xs ≡ ys
tails a b xs ys e = cc

-- Where there is no event, all was lent.
all_lead : (trace : List Action) → log_in trace ≡ [] → trace ≡ lead trace
all_lead [] e = refl
all_lead (action ∷ trace) e = go (all_lead trace) action.lent refl e
  where
    go : (log_in trace ≡ [] → trace ≡ lead trace) → (b : Bool) → action.lent ≡ b → cond b (log_in trace) (action.entry ∷ log_in trace) ≡ [] → action ∷ trace ≡ cond b (action ∷ lead trace) []
    go h true is none = ap (λ actions. action ∷ actions) (h none)
    go h false is none = absurd (some_entry action.entry (log_in trace) none)

-- A trace parts at its first event.
pub record Parted (trace : List Action) (entry : Logged) (log : List Logged) : Type 0 where
  pub whole : trace ≡ lead trace ++ as_event entry ∷ rest trace
  pub behind : log_in (rest trace) ≡ log

part : (trace : List Action) (entry : Logged) (log : List Logged) → log_in trace ≡ entry ∷ log → Parted trace entry log
part [] entry log e = absurd (some_entry entry log (sym e))
part (action ∷ trace) entry log e = go (part trace entry log) action.lent refl e
  where
    go : (log_in trace ≡ entry ∷ log → Parted trace entry log) → (b : Bool) → action.lent ≡ b → cond b (log_in trace) (action.entry ∷ log_in trace) ≡ entry ∷ log
        → Parted (action ∷ trace) entry log
    go h true is more =
        let p = h more in
        record {
          whole = ap (λ actions. action ∷ actions) p.whole
              ∙ sym (ap (λ b. cond b (action ∷ lead trace) [] ++ as_event entry ∷ cond b (rest trace) trace) is);
          behind = ap (λ b. log_in (cond b (rest trace) trace)) is ∙ p.behind;
        }
    go h false is here =
        let same : action ≡ as_event entry = λ i. record { entry = heads action.entry entry (log_in trace) log here i; lent = is i } in
        record {
          whole = ap (λ a. a ∷ trace) same
              ∙ sym (ap (λ b. cond b (action ∷ lead trace) [] ++ as_event entry ∷ cond b (rest trace) trace) is);
          behind = ap (λ b. log_in (cond b (rest trace) trace)) is ∙ tails action.entry entry (log_in trace) log here;
        }

-- What was lent is not in the log.
no_events : (lends trace : List Action) → AllLent lends → log_in (lends ++ trace) ≡ log_in trace
no_events [] trace all = refl
no_events (action ∷ lends) trace all =
    ap (λ b. cond b (log_in (lends ++ trace)) (action.entry ∷ log_in (lends ++ trace))) all.0 ∙ no_events lends trace all.1

lent_append : (xs ys : List Action) → AllLent xs → AllLent ys → AllLent (xs ++ ys)
lent_append [] ys a b = b
lent_append (x ∷ xs) ys a b = (a.0, lent_append xs ys a.1 b)

module _ (shape : Shape) where
  -- the occurrences of a trace
  abbrev seen : Parts → List Action → List Occurrence
  seen parts trace = occurrences_from shape parts (as_log trace)

  -- The parts behind lends are those before them.
  lends_leave : (parts : Parts) (lends : List Action) → AllLent lends → EachAlong shape (Lawful shape) parts lends → left_by shape parts (as_log lends) ≡ parts
  lends_leave parts [] all along = refl
  lends_leave parts (action ∷ lends) all along =
      lends_leave (after shape parts action.entry.made) lends all.1 along.1 ∙ lend_leaves shape parts action.entry (along.0 all.0)

  along_front : (H : Parts → Action → Type 0) (parts : Parts) (xs ys : List Action) → EachAlong shape H parts (xs ++ ys) → EachAlong shape H parts xs
  along_front H parts [] ys along = tt
  along_front H parts (x ∷ xs) ys along = (along.0, along_front H (after shape parts x.entry.made) xs ys along.1)

  along_back : (H : Parts → Action → Type 0) (parts : Parts) (xs ys : List Action) → EachAlong shape H parts (xs ++ ys) → EachAlong shape H (left_by shape parts (as_log xs)) ys
  along_back H parts [] ys along = along
  along_back H parts (x ∷ xs) ys along = along_back H (after shape parts x.entry.made) xs ys along.1

  -- Lends in front change nothing of what holds along a trace, nor of what is seen.
  along_behind : (H : Parts → Action → Type 0) (parts : Parts) (lends trace : List Action) → AllLent lends → EachAlong shape (Lawful shape) parts lends
      → EachAlong shape H parts lends → EachAlong shape H parts trace → EachAlong shape H parts (lends ++ trace)
  along_behind H parts lends trace all lawful a b =
      along_append shape H parts lends trace a (subst (λ s. EachAlong shape H s trace) (sym (lends_leave parts lends all lawful)) b)

  seen_behind : (session : ℕ) (parts : Parts) (lends trace : List Action) → AllLent lends → EachAlong shape (Lawful shape) parts lends
      → under session (seen parts (lends ++ trace)) ≡ under session (seen parts lends) ++ under session (seen parts trace)
  seen_behind session parts lends trace all lawful =
      ap (λ log. under session (occurrences_from shape parts log)) (entries_append lends trace)
      ∙ ap (under session) (occurrences_append shape parts (as_log lends) (as_log trace))
      ∙ filter-append (λ (o : Occurrence). o.session == session) (seen parts lends) (seen (left_by shape parts (as_log lends)) trace)
      ∙ ap (λ s. under session (seen parts lends) ++ under session (seen s trace)) (lends_leave parts lends all lawful)

  -- ---- sessions

  module _ {Q : Type 0} (name : Q → ℕ) where
    -- no two have one session
    abbrev Distinct : List Q → Type 0
    Distinct [] = ⊤
    Distinct (q ∷ qs) = ((r : Q) → Among r qs → name r ≢ name q) × Distinct qs

    abbrev Own : Q → Parts → List Action → Type 0
    Own q parts trace = EachAlong shape (OwnFitsAt shape (name q)) parts trace

    own_is_lawful : (q : Q) (parts : Parts) (trace : List Action) → Own q parts trace → EachAlong shape (Lawful shape) parts trace
    own_is_lawful q = along_weaker shape (OwnFitsAt shape (name q)) (Lawful shape) (own_lawful shape (name q))

    -- One's own lends stand at their points.
    own_fit : (q : Q) (parts : Parts) (lends : List Action) → AllLent lends → Own q parts lends → LendsFit shape parts lends
    own_fit q parts [] all own = tt
    own_fit q parts (action ∷ lends) all own =
        (own.0.own (own.0.lent all.0), own_fit q (after shape parts action.entry.made) lends all.1 own.1)

    -- They stand under one's session,
    own_named : (N : ℕ → Type 0) (q : Q) (parts : Parts) (lends : List Action) → N (name q) → AllLent lends → Own q parts lends
        → EachAlong shape (λ s action. N action.entry.session) parts lends
    own_named N q parts [] n all own = tt
    own_named N q parts (action ∷ lends) n all own =
        (subst N (sym (own.0.lent all.0)) n, own_named N q (after shape parts action.entry.made) lends n all.1 own.1)

    -- and so under no other.
    others_none : (q r : Q) → name r ≢ name q → (parts : Parts) (lends : List Action) → AllLent lends → Own r parts lends
        → under (name q) (seen parts lends) ≡ []
    others_none q r ne parts [] all own = refl
    others_none q r ne parts (action ∷ lends) all own =
        let more = under (name q) (seen (after shape parts action.entry.made) lends) in
        ap (λ b. cond b (occurrence_of shape parts action.entry ∷ more) more)
        (ne_eqb action.entry.session (name q) (λ e. ne (sym (own.0.lent all.0) ∙ e)))
        ∙ others_none q r ne (after shape parts action.entry.made) lends all.1 own.1

    -- the lends of all sessions, session by session
    abbrev gathered : (Q → List Action) → List Q → List Action
    gathered f [] = []
    gathered f (q ∷ qs) = f q ++ gathered f qs

    module _ (parts : Parts) (f : Q → List Action) where
      -- Each of these lent only, and what it might.
      abbrev Lent : List Q → Type 0
      Lent qs = (q : Q) → Among q qs → AllLent (f q) × Own q parts (f q)

      later : (q : Q) (qs : List Q) → Lent (q ∷ qs) → Lent qs
      later q qs each r a = each r (inr a)

      all_lent : (qs : List Q) → Lent qs → AllLent (gathered f qs)
      all_lent [] each = tt
      all_lent (q ∷ qs) each = lent_append (f q) (gathered f qs) (each q (inl refl)).0 (all_lent qs (later q qs each))

      lawful_of : (q : Q) → AllLent (f q) × Own q parts (f q) → EachAlong shape (Lawful shape) parts (f q)
      lawful_of q is = own_is_lawful q parts (f q) is.1

      all_along : (H : Parts → Action → Type 0) (qs : List Q) → ((q : Q) → Among q qs → EachAlong shape H parts (f q)) → Lent qs → EachAlong shape H parts (gathered f qs)
      all_along H [] each lent = tt
      all_along H (q ∷ qs) each lent =
          along_behind H parts (f q) (gathered f qs) (lent q (inl refl)).0 (lawful_of q (lent q (inl refl))) (each q (inl refl))
          (all_along H qs (λ r a. each r (inr a)) (later q qs lent))

      all_lawful : (qs : List Q) → Lent qs → EachAlong shape (Lawful shape) parts (gathered f qs)
      all_lawful qs lent = all_along (Lawful shape) qs (λ q a. lawful_of q (lent q a)) lent

      split : (session : ℕ) (q : Q) (qs : List Q) → Lent (q ∷ qs)
          → under session (seen parts (gathered f (q ∷ qs))) ≡ under session (seen parts (f q)) ++ under session (seen parts (gathered f qs))
      split session q qs lent = seen_behind session parts (f q) (gathered f qs) (lent q (inl refl)).0 (lawful_of q (lent q (inl refl)))

      none_of : (q : Q) (qs : List Q) → ((r : Q) → Among r qs → name r ≢ name q) → Lent qs → under (name q) (seen parts (gathered f qs)) ≡ []
      none_of q [] away lent = refl
      none_of q (r ∷ qs) away lent =
          split (name q) r qs lent
          ∙ ap (λ os. os ++ under (name q) (seen parts (gathered f qs))) (others_none q r (away r (inl refl)) parts (f r) (lent r (inl refl)).0 (lent r (inl refl)).1)
          ∙ none_of q qs (λ s a. away s (inr a)) (later r qs lent)

      -- Of each session the lends of all have its own.
      one_of : (q : Q) (qs : List Q) → Distinct qs → Among q qs → Lent qs → under (name q) (seen parts (gathered f qs)) ≡ under (name q) (seen parts (f q))
      one_of q [] distinct a lent = absurd a
      one_of q (r ∷ qs) distinct (inl same) lent =
          split (name q) r qs lent
          ∙ ap (λ os. under (name q) (seen parts (f r)) ++ os)
          (none_of q qs (λ s a e. distinct.0 s a (e ∙ ap name same)) (later r qs lent))
          ∙ append-nil (under (name q) (seen parts (f r)))
          ∙ ap (λ x. under (name q) (seen parts (f x))) (sym same)
      one_of q (r ∷ qs) distinct (inr a) lent =
          split (name q) r qs lent
          ∙ ap (λ os. os ++ under (name q) (seen parts (gathered f qs)))
          (others_none q r (λ e. distinct.0 q a (sym e)) parts (f r) (lent r (inl refl)).0 (lent r (inl refl)).1)
          ∙ one_of q qs distinct.1 a (later r qs lent)

    -- ---- the law

    -- One of these has the entry's session.
    abbrev HasSession : List Q → Logged → Type 0
    HasSession qs entry = (q : Q) × Among q qs × (name q ≡ entry.session)

    abbrev Named : (ℕ → Type 0) → Parts → Action → Type 0
    Named N parts action = N action.entry.session

    pub record Laid (N : ℕ → Type 0) (parts : Parts) (log : List Logged) (qs : List Q) (traces : Q → List Action) : Type 0 where
      pub trace : List Action
      pub log_is : log_in trace ≡ log
      pub lends : LendsFit shape parts trace
      pub named : EachAlong shape (Named N) parts trace
      pub each : (q : Q) → Among q qs → under (name q) (seen parts trace) ≡ under (name q) (seen parts (traces q))

    pub record IsOf (parts : Parts) (log : List Logged) (q : Q) (trace : List Action) : Type 0 where
      pub log_is : log_in trace ≡ log
      pub own : Own q parts trace

    laid : (N : ℕ → Type 0) (qs : List Q) → Distinct qs → ((q : Q) → Among q qs → N (name q)) → (parts : Parts) (log : List Logged) (traces : Q → List Action)
        → All (HasSession qs) log → ((q : Q) → Among q qs → IsOf parts log q (traces q)) → Laid N parts log qs traces
    laid N qs distinct n parts [] traces has each =
        let lent : Lent parts traces qs = λ q a.
        (subst AllLent (sym (all_lead (traces q) (each q a).log_is)) (lead_lent (traces q)), (each q a).own) in
        record {
          trace = gathered traces qs;
          log_is = ap log_in (sym (append-nil (gathered traces qs))) ∙ no_events (gathered traces qs) [] (all_lent parts traces qs lent);
          lends = all_along parts traces (FitsAt shape) qs (λ q a. own_fit q parts (traces q) (lent q a).0 (lent q a).1) lent;
          named = all_along parts traces (Named N) qs (λ q a. own_named N q parts (traces q) (n q a) (lent q a).0 (lent q a).1) lent;
          each = λ q a. one_of parts traces q qs distinct a lent;
        }
    laid N qs distinct n parts (entry ∷ log) traces has each =
        let f : Q → List Action = λ q. lead (traces q) in
        let parted : (q : Q) → Among q qs → Parted (traces q) entry log = λ q a. part (traces q) entry log (each q a).log_is in
        let whole : (q : Q) → Among q qs → Own q parts (f q ++ as_event entry ∷ rest (traces q)) =
        λ q a. subst (Own q parts) (parted q a).whole (each q a).own in
        let lent : Lent parts f qs = λ q a.
        (lead_lent (traces q), along_front (OwnFitsAt shape (name q)) parts (f q) (as_event entry ∷ rest (traces q)) (whole q a)) in
        let behind : (q : Q) → Among q qs → Own q parts (as_event entry ∷ rest (traces q)) =
        λ q a. subst (λ s. Own q s (as_event entry ∷ rest (traces q))) (lends_leave parts (f q) (lent q a).0 (lawful_of parts f q (lent q a)))
        (along_back (OwnFitsAt shape (name q)) parts (f q) (as_event entry ∷ rest (traces q)) (whole q a)) in
        let next = laid N qs distinct n (after shape parts entry.made) log (λ q. rest (traces q)) (All-tail (HasSession qs) entry log has)
        (λ q a. record { log_is = (parted q a).behind; own = (behind q a).1 }) in
        let here = All-head (HasSession qs) entry log has in
        let all = all_lent parts f qs lent in
        let lawful = all_lawful parts f qs lent in
        record {
          trace = gathered f qs ++ as_event entry ∷ next.trace;
          log_is = no_events (gathered f qs) (as_event entry ∷ next.trace) all ∙ ap (λ more. entry ∷ more) next.log_is;
          lends = along_behind (FitsAt shape) parts (gathered f qs) (as_event entry ∷ next.trace) all lawful
              (all_along parts f (FitsAt shape) qs (λ q a. own_fit q parts (f q) (lent q a).0 (lent q a).1) lent)
              ((behind here.0 here.1).0.own (sym here.2), next.lends);
          named = along_behind (Named N) parts (gathered f qs) (as_event entry ∷ next.trace) all lawful
              (all_along parts f (Named N) qs (λ q a. own_named N q parts (f q) (n q a) (lent q a).0 (lent q a).1) lent)
              (subst N here.2 (n here.0 here.1), next.named);
          each = λ q a.
              let one : List Occurrence → List Occurrence = λ os. cond (entry.session == name q) (occurrence_of shape parts entry ∷ os) os in
              seen_behind (name q) parts (gathered f qs) (as_event entry ∷ next.trace) all lawful
              ∙ ap (λ os. os ++ one (under (name q) (seen (after shape parts entry.made) next.trace))) (one_of parts f q qs distinct a lent)
              ∙ ap (λ os. under (name q) (seen parts (f q)) ++ one os) (next.each q a)
              ∙ sym (ap (λ trace. under (name q) (seen parts trace)) (parted q a).whole
              ∙ seen_behind (name q) parts (f q) (as_event entry ∷ rest (traces q)) (lent q a).0 (lawful_of parts f q (lent q a)));
        }

-- ---- sessions in a row

no_name : (n : ℕ) (ns : List ℕ) → n ∷ ns ≡ [] → ⊥
no_name n ns e = cc

first_name : (n m : ℕ) (ns ms : List ℕ) → n ∷ ns ≡ m ∷ ms → n ≡ m
first_name n m ns ms e = cc

other_names : (n m : ℕ) (ns ms : List ℕ) → n ∷ ns ≡ m ∷ ms → ns ≡ ms
other_names n m ns ms e = cc

-- Two numbers are the same or not.
same_or_not : (a b : ℕ) → (a ≡ b) ⊎ (a ≢ b)
same_or_not a b = go (a == b) refl
  where
    go : (t : Bool) → (a == b) ≡ t → (a ≡ b) ⊎ (a ≢ b)
    go true e = inl (grind (arith, nat_tests))
    go false e = inr (λ s. absurd (grind (arith, nat_tests)))

-- The session of one's own trace.
abbrev name : OwnTrace → ℕ
name own = own.session

-- Each of a row of sessions is one of so many,
names_within : (qs : List OwnTrace) (first count : ℕ) → map name qs ≡ range_with_len first count → (q : OwnTrace) → Among q qs → IsOneOf first count (name q)
names_within [] first count e q a = absurd a
names_within (r ∷ qs) first zero e q a = absurd (no_name (name r) (map name qs) e)
names_within (r ∷ qs) first (suc n) e q (inl same) =
    let is : name q ≡ first = ap name same ∙ first_name (name r) first (map name qs) (range_with_len (first + 1) n) e in
    (omega (arith, is), omega (arith, is))
names_within (r ∷ qs) first (suc n) e q (inr a) =
    let more = names_within qs (first + 1) n (other_names (name r) first (map name qs) (range_with_len (first + 1) n) e) q a in
    let low = more.0 in
    let high = more.1 in
    (omega (arith, low), omega (arith, high))

-- no two of them are the same,
names_distinct : (shape : Shape) (qs : List OwnTrace) (first count : ℕ) → map name qs ≡ range_with_len first count → Distinct shape name qs
names_distinct shape [] first count e = tt
names_distinct shape (r ∷ qs) first zero e = absurd (no_name (name r) (map name qs) e)
names_distinct shape (r ∷ qs) first (suc n) e =
    let more = other_names (name r) first (map name qs) (range_with_len (first + 1) n) e in
    let here : name r ≡ first = first_name (name r) first (map name qs) (range_with_len (first + 1) n) e in (
      (λ s a same. let low = (names_within qs (first + 1) n more s a).0 in absurd (omega (arith, low, same, here))),
      names_distinct shape qs (first + 1) n more,
    )

-- and each of so many is one of them.
has_name : (shape : Shape) (qs : List OwnTrace) (first count : ℕ) → map name qs ≡ range_with_len first count → (entry : Logged) → IsOneOf first count entry.session
    → HasSession shape name qs entry
has_name shape qs first zero e entry within =
    let low = within.0 in
    let high = within.1 in
    absurd (omega (arith, low, high))
has_name shape [] first (suc n) e entry within = absurd (no_name first (range_with_len (first + 1) n) (sym e))
has_name shape (r ∷ qs) first (suc n) e entry within =
    go (same_or_not first entry.session) (λ ne.
    let low = within.0 in
    let high = within.1 in
    has_name shape qs (first + 1) n (other_names (name r) first (map name qs) (range_with_len (first + 1) n) e) entry (omega (arith, low, ne), omega (arith, high)))
  where
    go : (first ≡ entry.session) ⊎ (first ≢ entry.session) → (first ≢ entry.session → HasSession shape name qs entry) → HasSession shape name (r ∷ qs) entry
    go (inl same) later = (r, inl refl, first_name (name r) first (map name qs) (range_with_len (first + 1) n) e ∙ same)
    go (inr ne) later =
        let more = later ne in
        (more.0, inr more.1, more.2)

-- What holds of each of a list, all of it has.
all_of : (P : OwnTrace → Type 0) (qs : List OwnTrace) → ((q : OwnTrace) → Among q qs → P q) → All P qs
all_of P [] each = All-nil P
all_of P (q ∷ qs) each = All-cons P q qs (each q (inl refl)) (all_of P qs (λ r a. each r (inr a)))

each_of : (P : OwnTrace → Type 0) (qs : List OwnTrace) → All P qs → (q : OwnTrace) → Among q qs → P q
each_of P [] all q a = absurd a
each_of P (r ∷ qs) all q (inl same) = subst P (sym same) (All-head P r qs all)
each_of P (r ∷ qs) all q (inr a) = each_of P qs (All-tail P r qs all) q a

-- what holds of the session of each action does so of each occurrence
occurrences_named : (shape : Shape) (N : ℕ → Type 0) (parts : Parts) (trace : List Action) → EachAlong shape (λ s action. N action.entry.session) parts trace
    → All (λ (o : Occurrence). N o.session) (occurrences_from shape parts (as_log trace))
occurrences_named shape N parts [] named = All-nil (λ (o : Occurrence). N o.session)
occurrences_named shape N parts (action ∷ trace) named = All-cons (λ (o : Occurrence). N o.session)
    (occurrence_of shape parts action.entry)
    (occurrences_from shape (after shape parts action.entry.made) (as_log trace))
    named.0
    (occurrences_named shape N (after shape parts action.entry.made) trace named.1)

-- The lends of sessions in a row are laid into one trace.
pub lends_are_laid : LendsAreLaid
lends_are_laid shape parts log first count owns in_row within each =
    let whole = laid shape name (IsOneOf first count) owns (names_distinct shape owns first count in_row) (names_within owns first count in_row) parts log
    (λ own. own.trace)
    (All-weaker (λ (entry : Logged). IsOneOf first count entry.session) (HasSession shape name owns) (λ entry is. has_name shape owns first count in_row entry is) log within)
    (λ own a.
    let is = each_of (IsTraceOf shape parts log) owns each own a in
    record { log_is = is.log_is; own = is.lends }) in
    record {
      trace = whole.trace;
      log_is = whole.log_is;
      lends = whole.lends;
      within = occurrences_named shape (IsOneOf first count) parts whole.trace whole.named;
      each = all_of (HasOwn shape parts whole.trace) owns whole.each;
    }
