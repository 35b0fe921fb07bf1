-- The passes of a store that was just built, and its row of sessions.
use Rattle.std.proofs.Common.{◌≡◌, ◌⊎◌, ℕ, zero, suc, ◌+◌, ◌-◌, ◌<◌, ◌≤◌, ◌==◌, ◌||◌, ◌&&◌, max, Bool, true, false, cond, List, [], ◌∷◌, ◌++◌, Option, None, Some, option_map, length, drop, get_or, reverse, take, refl, sym, ap, subst, ◌∙◌, length-append, length-take, take-append-drop, true≢false, eq-eqb, arith}
use mathlib.Core.Logic.{inl, inr}
use Rattle.std.specs.Prelude.{IfOk, Result, Ok, Err, slice_get}
use Rattle.std.proofs.lemmas.List.{get_or-reverse, get_or-take, length-reverse}
use Rattle.std.proofs.lemmas.Option.{get_or_from_slice_get, slice_get_read, slice_get_within}
use Rattle.atomic_table.specs.Table.{Me}
use Rattle.engine_core.specs.Core.{CoreState, IsOpening}
use Rattle.event_spec.specs.Effects.{CoreEvent}
use Rattle.event_spec.specs.Lawful.{transaction}
use Rattle.event_spec.specs.Parts.{CorePart, Parts, Shape}
use Rattle.event_spec.specs.Replay.{opening}
use Rattle.core_laws.specs.Hall.Hall.{core_meaning}
use Rattle.hall_rule.specs.EventLog.{has, is_unnamed, replay}
use Rattle.hall_rule.specs.HallInvariant.{hands_of}
use Rattle.hall_rule.specs.Hands.{Holds}
use Rattle.hall_rule.specs.Opening.{first_view, sessions_to}
use Rattle.hall_rule.specs.Views.{dealt, fresh, greatest, without}
use Rattle.hall_rule.specs.declared.view.Entry.{Entry}
use Rattle.hall_rule.specs.declared.view.View.{View}
use Rattle.hall_rule.proofs.Lists.{by_cases, not_true}
use Rattle.hall_rule.proofs.Logs.{has_head}
use Rattle.hall_rule.proofs.Numbers.{has_left, has_right}
use Rattle.hall_rule.proofs.Opens.{below_to, sessions_to-length}
use Rattle.hall_steps.specs.Hall.{IsNew, IsPass, Knows, first_of}
use Rattle.run_spec.specs.Handed.{own_in}
use Rattle.run_spec.specs.Opened.{own_after}
use Rattle.store_laws.specs.Logs.{log_of, store_meaning}
use Rattle.store_laws.specs.Own.{KnowsOwn, StandsUnder}
use Rattle.store_laws.proofs.Entries.{own_stays}
use Rattle.store_laws.proofs.Knowing.{under_on}
use Rattle.shared_store.specs.Building.{HasSessions, IsNewRow, IsNewSession}
use Rattle.shared_store.specs.Store.{HandsView, IsAt, IsStore, SeatView, StoreView, opened_at, own_of, shape_in}
use Rattle.shared_store.specs.declared.session.Session.{Session}
use Rattle.shared_store.proofs.Sessions.{session_is}
use Rattle.shared_store.specs.Reads.{ReadsFit}

-- ---- the sessions 1 to n

-- The greatest of some sessions and one more is the greater of theirs and it.
greatest_end : (qs : List ℕ) (q : ℕ) → greatest (qs ++ q ∷ []) ≡ max (greatest qs) q
greatest_end [] q = omega arith
greatest_end (r ∷ rs) q = let h = greatest_end rs q in omega (arith, h)

-- The greatest of the sessions up to a number is that number.
greatest_to : (n : ℕ) → greatest (sessions_to n) ≡ n
greatest_to zero = refl
greatest_to (suc n) = let h = greatest_to n in let e = greatest_end (sessions_to n) (suc n) in omega (arith, h, e)

-- Sessions without a last one that is none of the others are the others.
without_end : (qs : List ℕ) (q : ℕ) → has q qs ≡ false → without q (qs ++ q ∷ []) ≡ qs
without_end [] q none' = ap (λ b. cond b [] (q ∷ [])) (eq-eqb q q refl)
without_end (r ∷ rs) q none' = go (q == r) refl (λ away. without_end rs q away)
  where
    go : (b : Bool) → (q == r) ≡ b → (has q rs ≡ false → without q (rs ++ q ∷ []) ≡ rs)
        → cond (q == r) (rs ++ q ∷ []) (r ∷ without q (rs ++ q ∷ [])) ≡ r ∷ rs
    go true is later = absurd (true≢false (sym (ap (λ b. b || has q rs) is) ∙ none'))
    go false is later = ap (λ b. cond b (rs ++ q ∷ []) (r ∷ without q (rs ++ q ∷ []))) is
        ∙ ap (λ (qs : List ℕ). r ∷ qs) (later (sym (ap (λ b. b || has q rs) is) ∙ none'))

-- without the greatest they are those up to the one before
without_to : (n : ℕ) → without (greatest (sessions_to (suc n))) (sessions_to (suc n)) ≡ sessions_to n
without_to n = ap (λ q. without q (sessions_to (suc n))) (greatest_to (suc n))
    ∙ without_end (sessions_to n) (suc n) (not_true (has (suc n) (sessions_to n)) (λ h. let b = below_to n (suc n) h in absurd (omega (arith, b))))

-- The sessions up to a number have each from one up to it.
has_to : (n q : ℕ) → 1 ≤ q → q ≤ n → has q (sessions_to n) ≡ true
has_to zero q some below = absurd (omega (arith, some, below))
has_to (suc n) q some below = by_cases q (suc n) (has q (sessions_to (suc n)) ≡ true)
    (λ is. has_right q (sessions_to n) (suc n ∷ []) (subst (λ r. has r (suc n ∷ []) ≡ true) (sym is) (has_head (suc n) [])))
    (λ ne. has_left q (sessions_to n) (suc n ∷ []) (has_to n q some (omega (arith, below, ne))))

-- ---- what the pass of a session knows that made no event

module _ (shape : Shape) (session id : ℕ) (me : Me (Option CorePart) (View CoreEvent)) (hand : List (Option CorePart))
    (knows : Knows (store_meaning shape) id me hand)
    (sessions : me.0.sessions ≡ session ∷ [])
    (sole : has session me.0.sole ≡ true)
    (mine : me.0.mine ≡ [])
    (under : StandsUnder session (log_of me.0.log))
    (rests : transaction shape (replay (store_meaning shape) me.0.log) session ≡ None)
  where
    no_events : own_in shape session (log_of me.0.log) ≡ []
    no_events = own_stays shape session (id ∷ me.0.joined) [] me.0.log (knows.mine ∙ mine)
        (knows.tied.alone session sole (ap (has session) sessions ∙ has_head session []))

    knows_rest : KnowsOwn shape session me.0 None
    knows_rest = record {
      sessions = sessions;
      sole = sole;
      under = under;
      own_is = sym (ap own_after no_events);
      opened = rests;
    }

-- The pass of a session that made no event and has nothing open. It took no part.
pub record IsNewPass (store : StoreView) (session : ℕ) (seat : SeatView) (hands : HandsView)
    : Type 0 where
  pub stands : IsAt store session seat hands None
  pub mine : seat.me.0.mine ≡ []
  pub none : own_in (shape_in store) session (log_of seat.me.0.log) ≡ []
  pub taken : seat.me.0.taken ≡ []
  pub free : seat.me.0.claim ≡ 0

-- A pass that has one session, under which no entry stands, and made no event.
new_pass : (store : StoreView) (session : ℕ) (seat : SeatView) (hands : HandsView)
    → IsPass (store_meaning (shape_in store)) store.id seat hands → ((part : ℕ) → ¬ Holds (first_of hands) part)
    → seat.me.0.sessions ≡ session ∷ [] → has session seat.me.0.sole ≡ true → seat.me.0.mine ≡ [] → seat.me.0.taken ≡ [] → seat.me.0.claim ≡ 0
    → StandsUnder session (log_of seat.me.0.log)
    → transaction (shape_in store) (replay (store_meaning (shape_in store)) seat.me.0.log) session ≡ None
    → IsNewPass store session seat hands
new_pass store session seat hands pass empty sessions sole mine taken free under rests = record {
  stands = record {
    within = record {
      pass = pass;
      knows = knows_rest (shape_in store) session seat.id seat.me (first_of hands) pass.of.1 sessions sole mine under rests;
    };
    empty = empty;
  };
  mine = mine;
  none = no_events (shape_in store) session seat.id seat.me (first_of hands) pass.of.1 sessions sole mine under rests;
  taken = taken;
  free = free;
}

-- a session of a pass without entries is fresh
fresh_has : (v : View CoreEvent) (q : ℕ) → has q v.sole ≡ true → v.mine ≡ [] → has q (fresh v (q ∷ [])) ≡ true
fresh_has v q sole mine =
    ap (λ b. has q (cond (b && is_unnamed q v.mine) (q ∷ []) [])) sole
    ∙ ap (λ (es : List (Entry CoreEvent)). has q (cond (is_unnamed q es) (q ∷ []) [])) mine
    ∙ has_head q []

-- The greatest session gets a pass of its own.
module _ (store : StoreView) (number n : ℕ) (s t u : SeatView) (hands held given : HandsView)
    (is : suc n ≡ number) (before : HasSessions store number s hands)
    (left : IsPass (store_meaning (shape_in store)) store.id t held)
    (deal : t.me.0 ≡ dealt s.me.0) (same_hand : first_of held ≡ first_of hands)
    (pass : IsPass (store_meaning (shape_in store)) store.id u given)
    (new : IsNew (store_meaning (shape_in store)) s.me.0 u.me.0 (greatest s.me.0.sessions ∷ []))
    (empty : (part : ℕ) → ¬ Holds (first_of given) part)
  where
    sessions_are : s.me.0.sessions ≡ sessions_to (suc n)
    sessions_are = before.sessions ∙ ap sessions_to (sym is)

    -- the pass that gave its greatest session away has those up to the one before
    pub left_has : HasSessions store n t held
    left_has = record {
      pass = left;
      empty = subst (λ (hand : List (Option CorePart)). (part : ℕ) → ¬ Holds hand part) (sym same_hand) before.empty;
      sessions = ap (λ (v : View CoreEvent). v.sessions) deal ∙ ap (λ (qs : List ℕ). without (greatest qs) qs) sessions_are ∙ without_to n;
      sole = ap (λ (v : View CoreEvent). v.sole) deal ∙ before.sole;
      few = let few = before.few in omega (arith, few, is);
      mine = ap (λ (v : View CoreEvent). v.mine) deal ∙ before.mine;
      taken = ap (λ (v : View CoreEvent). v.taken) deal ∙ before.taken;
      free = ap (λ (v : View CoreEvent). v.claim) deal ∙ before.free;
      under = λ session. subst (λ (v : View CoreEvent). StandsUnder session (log_of v.log)) (sym deal) (before.under session);
      rests = λ session. ap (λ (v : View CoreEvent). transaction (shape_in store) (replay (store_meaning (shape_in store)) v.log) session) deal ∙ before.rests session;
    }

    number_is : greatest s.me.0.sessions ≡ number
    number_is = ap greatest sessions_are ∙ greatest_to (suc n) ∙ is

    is_new : IsNew (store_meaning (shape_in store)) s.me.0 u.me.0 (number ∷ [])
    is_new = subst (λ q. IsNew (store_meaning (shape_in store)) s.me.0 u.me.0 (q ∷ [])) number_is new

    had : has number s.me.0.sole ≡ true
    had = ap (has number) before.sole ∙ has_to (shape_in store).passes number (omega (arith, is)) before.few

    -- the pass that was given the greatest session is new
    pub given_is_new : IsNewPass store number u given
    given_is_new = new_pass store number u given pass empty is_new.hands
        (ap (has number) is_new.sole ∙ fresh_has s.me.0 number had before.mine)
        is_new.mine is_new.taken is_new.free
        (under_on (shape_in store) number s.me.0.log u.me.0.log is_new.stays.goes_on (before.under number)
        (is_new.stays.spared number (has_head number [])))
        (is_new.stays.transactions number (has_head number []) ∙ before.rests number)

-- the first pass has a hand for each of its sessions
pub hands_are : (store : StoreView) (count : ℕ) (seat : SeatView) (hands : HandsView) → HasSessions store count seat hands → hands_of seat.me.0 ≡ count
hands_are store count seat hands is = ap (λ (qs : List ℕ). length qs) is.sessions ∙ sessions_to-length count

-- The first pass is at last the first session's alone.
pub first_is_new : (store : StoreView) (seat : SeatView) (hands : HandsView) → HasSessions store 1 seat hands → IsNewPass store 1 seat hands
first_is_new store seat hands is = new_pass store 1 seat hands is.pass is.empty is.sessions
    (ap (has 1) is.sole ∙ has_to (shape_in store).passes 1 (omega arith) is.few)
    is.mine is.taken is.free (is.under 1) (is.rests 1)

-- ---- sessions

-- a session with a new pass and without a snapshot is new
pub new_session : (store : StoreView) (number : ℕ) (s : Session) → IsNewPass store number s.pass.seat s.pass.hands
    → s.session ≡ number → s.snapshot ≡ None → s.reads ≡ None → IsNewSession store number s
new_session store number s new is shut unread = record {
  session = session_is store s (subst (λ q. IsAt store q s.pass.seat s.pass.hands (own_of s)) (sym is)
      (subst (IsAt store number s.pass.seat s.pass.hands) (sym rests) new.stands)) (subst (ReadsFit (shape_in store)) (sym unread) tt);
  numbered = is;
  rests = rests;
  unread = unread;
  made = ap (λ (es : List (Entry CoreEvent)). length es) new.mine;
  none = new.none;
  taken = new.taken;
  free = new.free;
}
  where
    rests : own_of s ≡ None
    rests = ap (option_map (opened_at s.session s.writes)) shut

-- a session that may be made is just this one
pub ok_is : {T E : Type 0} (P : T → Type 0) (r : Result T E) (x : T) → IfOk r (λ s. s ≡ x) → P x → IfOk r P
ok_is P (Ok s) x is holds = subst P (sym is) holds
ok_is P (Err e) x is holds = tt

-- what holds of one that may be made holds of it by a law
pub ok_on : {T E : Type 0} {P Q : T → Type 0} (r : Result T E) → ((x : T) → P x → Q x) → IfOk r P → IfOk r Q
ok_on (Ok x) law holds = law x holds
ok_on (Err e) law holds = tt

-- ---- rows

-- the last sessions of a row of so many, from the greatest down
pub record IsRowDown (store : StoreView) (count opened : ℕ) (row : List Session) : Type 0 where
  pub many : length row ≡ opened
  pub each : (k : ℕ) (s : Session) → slice_get row k ≡ Some s → IsNewSession store (count - k) s

-- before the first session is made the row is empty
pub row_begins : (store : StoreView) (count : ℕ) → IsRowDown store count 0 []
row_begins store count = record { many = refl; each = λ k s found. absurd (nothing k s found) }
  where
    nothing : (k : ℕ) (s : Session) → slice_get [] k ≡ Some s → ⊥
    nothing k s found = cc

-- an element of a list that grew is an old one or the new one
grown : (xs : List Session) (x y : Session) (k : ℕ) → slice_get (xs ++ x ∷ []) k ≡ Some y → (slice_get xs k ≡ Some y) ⊎ ((k ≡ length xs) × (x ≡ y))
grown [] x y zero found = inr (refl, let e : x ≡ y = cc in e)
grown [] x y (suc k) found = absurd (let e : ⊥ = cc in e)
grown (z ∷ xs) x y zero found = inl found
grown (z ∷ xs) x y (suc k) found = go (grown xs x y k found)
  where
    go : (slice_get xs k ≡ Some y) ⊎ ((k ≡ length xs) × (x ≡ y)) → (slice_get xs k ≡ Some y) ⊎ ((suc k ≡ length (z ∷ xs)) × (x ≡ y))
    go (inl old) = inl old
    go (inr new) = inr (let e = new.0 in omega (arith, e), new.1)

-- one session more, with the next lower number, stands behind the row
pub row_grows : (store : StoreView) (count opened : ℕ) (row : List Session) (s : Session) → IsRowDown store count opened row
    → IsNewSession store (count - opened) s → IsRowDown store count (opened + 1) (row ++ s ∷ [])
row_grows store count opened row s is new = record {
  many = let long = length-append row (s ∷ []) in let many = is.many in omega (arith, long, many);
  each = λ k t found. go k t (grown row s t k found);
}
  where
    go : (k : ℕ) (t : Session) → (slice_get row k ≡ Some t) ⊎ ((k ≡ length row) × (s ≡ t)) → IsNewSession store (count - k) t
    go k t (inl old) = is.each k t old
    go k t (inr at') = subst (λ j. IsNewSession store (count - j) t) (sym (at'.0 ∙ is.many)) (subst (IsNewSession store (count - opened)) at'.1 new)

-- the row that was made from the greatest down, turned around, is a new row
pub row_turned : (store : StoreView) (count : ℕ) (row : List Session) → IsRowDown store count count row → IsNewRow store count (reverse row)
row_turned store count row is = record {
  many = length-reverse row ∙ is.many;
  each = λ k s found. each k s found;
}
  where
    each : (k : ℕ) (s : Session) → slice_get (reverse row) k ≡ Some s → IsNewSession store (k + 1) s
    each k s found =
        let long = length-reverse row in
        let many = is.many in
        let within' = slice_get_within (reverse row) k s found in
        let within : k < length row = omega (arith, long, within') in
        let there : get_or row (length row - 1 - k) s ≡ s = sym (get_or-reverse row k s within) ∙ get_or_from_slice_get (reverse row) k s s found in
        let at' : slice_get row (length row - 1 - k) ≡ Some s = slice_get_read row (length row) (length row - 1 - k) s refl (omega (arith, within)) (sym there) in
        subst (λ n. IsNewSession store n s) (omega (arith, many, within)) (is.each (length row - 1 - k) s at')

-- The first ones of a new row are one too, and with those behind them they are that row.
pub row_parted : (store : StoreView) (sessions workers : ℕ) (row front back : List Session) → IsNewRow store (sessions + workers) row → front ≡ take sessions row → back ≡ drop sessions row
    → IsNewRow store sessions front × IsNewRow store (sessions + workers) (front ++ back)
row_parted store sessions workers row front back is front_is back_is = (
  subst (IsNewRow store sessions) (sym front_is) (record {
    many = let long = length-take sessions row in let many = is.many in omega (arith, long, many);
    each = λ k s found. is.each k s (kept k s found);
  }),
  subst (IsNewRow store (sessions + workers)) (sym (take-append-drop sessions row) ∙ ap (λ (xs : List Session). xs ++ drop sessions row) (sym front_is) ∙ ap (λ (xs : List Session). front ++ xs) (sym back_is)) is,
)
  where
    kept : (k : ℕ) (s : Session) → slice_get (take sessions row) k ≡ Some s → slice_get row k ≡ Some s
    kept k s found =
        let long = length-take sessions row in
        let many = is.many in
        let within = slice_get_within (take sessions row) k s found in
        let there : get_or row k s ≡ s = sym (get_or-take sessions row k s (omega (arith, within, long, many))) ∙ get_or_from_slice_get (take sessions row) k s s found in
        slice_get_read row (length row) k s refl (omega (arith, within, long, many)) (sym there)

-- ---- a store that was just built

module _ (hall : StoreView) (core : CoreState) (sessions : ℕ) (count : core.shape.passes ≡ sessions)
    (opening_is : IsOpening core.shape core.parts)
    (of : (hall.core ≡ core) × (hall.passes ≡ sessions) × (hall.shape ≡ core.shape))
  where
    passes_are : hall.core.shape.passes ≡ sessions
    passes_are = ap (λ (x : CoreState). x.shape.passes) of.0 ∙ count

    -- a hall that was built of a core before its first event is a store
    pub is_store : IsStore hall
    is_store = record {
      opening = subst (λ (x : CoreState). IsOpening x.shape x.parts) (sym of.0) opening_is;
      passes = of.1 ∙ sym passes_are;
      shape = of.2 ∙ sym (ap (λ (x : CoreState). x.shape) of.0);
    }

    built_meaning : core_meaning core.shape core.parts sessions ≡ store_meaning (shape_in hall)
    built_meaning =
        ap (λ (s : Parts). core_meaning core.shape s sessions) opening_is.parts_are
        ∙ ap (λ n. core_meaning core.shape (opening core.shape) n) (sym count)
        ∙ ap (λ (x : CoreState). store_meaning x.shape) (sym of.0)

    -- its first pass has all sessions
    pub first_has : (seat : SeatView) (hands : HandsView) → IsPass (core_meaning core.shape core.parts sessions) hall.id seat hands
        → seat.me.0 ≡ first_view core.parts sessions → ((part : ℕ) → ¬ Holds (first_of hands) part)
        → ((session : ℕ) → transaction core.shape (replay (core_meaning core.shape core.parts sessions) seat.me.0.log) session ≡ None)
        → HasSessions hall sessions seat hands
    first_has seat hands pass view empty rests = record {
      pass = subst (λ M. IsPass M hall.id seat hands) built_meaning pass;
      empty = empty;
      sessions = ap (λ (v : View CoreEvent). v.sessions) view;
      sole = ap (λ (v : View CoreEvent). v.sole) view ∙ ap sessions_to (sym passes_are);
      few = let many = passes_are in omega (arith, many);
      mine = ap (λ (v : View CoreEvent). v.mine) view;
      taken = ap (λ (v : View CoreEvent). v.taken) view;
      free = ap (λ (v : View CoreEvent). v.claim) view;
      under = λ session. subst (λ (v : View CoreEvent). StandsUnder session (log_of v.log)) (sym view) tt;
      rests = λ session.
          ap (λ (x : CoreState). transaction x.shape (replay (store_meaning (shape_in hall)) seat.me.0.log) session) of.0
          ∙ ap (λ M. transaction core.shape (replay M seat.me.0.log) session) (sym built_meaning)
          ∙ rests session;
    }
