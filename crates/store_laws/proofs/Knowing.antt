-- What a session knows of itself when it sees more of the log.
use Rattle.std.proofs.Common.{◌≡◌, ℕ, ◌+◌, ◌≤◌, ◌==◌, Bool, true, false, cond, ◌||◌, List, [], ◌∷◌, ◌++◌, Option, None, Some, length, drop, refl, sym, ap, ◌∙◌, subst, append-nil, length-append, true≢false, arith}
use Rattle.std.specs.Prelude.{IsSomeAnd}
use Rattle.std.proofs.lemmas.Bool.Decides.{nat_tests}
use Rattle.event_spec.specs.declared.own.OwnTransaction.{OwnTransaction}
use Rattle.event_spec.specs.Effects.{CoreEvent}
use Rattle.event_spec.specs.Lawful.{IsOwn, Opened, transaction}
use Rattle.event_spec.specs.Parts.{Parts, Shape}
use Rattle.hall_rule.specs.EventLog.{OnlyBy, Spares, has, own, replay}
use Rattle.hall_rule.specs.Views.{among}
use Rattle.hall_rule.specs.declared.view.Entry.{Entry}
use Rattle.hall_rule.specs.declared.view.View.{View}
use Rattle.hall_rule.proofs.Logs.{has_head, own_append}
use Rattle.store_laws.specs.OwnLaws.{HasOpened}
use Rattle.run_spec.specs.Handed.{own_in}
use Rattle.run_spec.specs.Occurrences.{Logged}
use Rattle.run_spec.specs.Opened.{own_after}
use Rattle.store_laws.specs.Laws.{JoinsGoOn, LooksGoOn}
use Rattle.store_laws.specs.Logs.{log_of, store_meaning}
use Rattle.store_laws.specs.Own.{StandsUnder}
use Rattle.store_laws.proofs.Entries.{log_append, own_stays}

-- what is open hangs on the transaction alone
pub opened_moves : (shape : Shape) (earlier later : Parts) (session : ℕ) (own : Option OwnTransaction)
    → transaction shape later session ≡ transaction shape earlier session → HasOpened shape earlier session own → HasOpened shape later session own
opened_moves shape earlier later session None same none' = same ∙ none'
opened_moves shape earlier later session (Some own) same opened = (opened.0, (opened.1.0, subst (λ o. IsSomeAnd o (IsOwn shape later own)) (sym there) (go (transaction shape earlier own.session) opened.1.1)))
  where
    there : transaction shape later own.session ≡ transaction shape earlier own.session
    there = ap (transaction shape later) opened.0 ∙ same ∙ ap (transaction shape earlier) (sym opened.0)

    go : (o : Option Opened) → IsSomeAnd o (IsOwn shape earlier own) → IsSomeAnd o (IsOwn shape later own)
    go None is = absurd is
    go (Some has) is = record { snapshot = is.snapshot; writes = is.writes }

-- entries that are not of a session stand behind those of its own
spared_under : (shape : Shape) (session : ℕ) (log : List (Entry CoreEvent)) → Spares (store_meaning shape) session log → StandsUnder session (log_of log)
spared_under shape session [] spared = tt
spared_under shape session (e ∷ log) spared = ((λ is. absurd (spared.0 is)), spared_under shape session log spared.1)

-- two parts of a log in turn
pub under_append : (session : ℕ) (log more : List Logged) → StandsUnder session log → StandsUnder session more → StandsUnder session (log ++ more)
under_append session [] more first rest = rest
under_append session (entry ∷ log) more first rest = (first.0, under_append session log more first.1 rest)

-- a log that goes on by none of the session's
pub under_on : (shape : Shape) (session : ℕ) (earlier later : List (Entry CoreEvent)) → later ≡ earlier ++ drop (length earlier) later
    → StandsUnder session (log_of earlier) → Spares (store_meaning shape) session (drop (length earlier) later) → StandsUnder session (log_of later)
under_on shape session earlier later goes first spared =
    subst (StandsUnder session) (sym (ap log_of goes ∙ log_append shape earlier (drop (length earlier) later)))
    (under_append session (log_of earlier) (log_of (drop (length earlier) later)) first (spared_under shape session (drop (length earlier) later) spared))

-- a session that sees more has the same of its own
pub looks_go_on : LooksGoOn
looks_go_on shape session id old new hand held own' k k' sees knows = record {
  goes_on = (log_of more, ap log_of goes ∙ log_append shape v.log more);
  same = same;
  knows = record {
    sessions = sees.sessions ∙ knows.sessions;
    sole = has_sole;
    under = under_on shape session v.log w.log goes knows.under
        (sees.stays.spared session (ap (has session) knows.sessions ∙ has_head session []));
    own_is = knows.own_is ∙ ap own_after (sym same);
    opened = opened_moves shape (replay (store_meaning shape) v.log) (replay (store_meaning shape) w.log) session own'
        (sees.stays.transactions session (ap (has session) knows.sessions ∙ has_head session [])) knows.opened;
  };
  reads = sees.reads;
}
  where
    v : View CoreEvent
    v = old.0

    w : View CoreEvent
    w = new.0

    more : List (Entry CoreEvent)
    more = drop (length v.log) w.log

    ids : List ℕ
    ids = id ∷ v.joined

    goes : w.log ≡ v.log ++ more
    goes = sees.stays.goes_on

    has_sole : has session w.sole ≡ true
    has_sole = ap (has session) sees.sole ∙ knows.sole

    among_own : has session w.sessions ≡ true
    among_own = ap (has session) (sees.sessions ∙ knows.sessions) ∙ has_head session []

    none_new : own ids w.log ≡ own ids v.log
    none_new = ap (λ js. own (id ∷ js) w.log) (sym sees.joined) ∙ k'.mine ∙ sees.mine ∙ sym k.mine

    alone : OnlyBy session ids w.log
    alone = subst (λ js. OnlyBy session (id ∷ js) w.log) sees.joined (k'.tied.alone session has_sole among_own)

    same : own_in shape session (log_of w.log) ≡ own_in shape session (log_of v.log)
    same = ap (λ l. own_in shape session (log_of l)) goes
        ∙ own_stays shape session ids v.log more (subst (λ l. own ids l ≡ own ids v.log) goes none_new) (subst (OnlyBy session ids) goes alone)

-- ---- a join of a pass without hands and events

-- a number of some and of others is among both
among_has : (q : ℕ) (sessions qs : List ℕ) → has q qs ≡ true → has q sessions ≡ true → has q (among sessions qs) ≡ true
among_has q sessions [] h in' = absurd (true≢false (sym h))
among_has q sessions (r ∷ rs) h in' = go (q == r) (has r sessions) refl refl h (λ later. among_has q sessions rs later in')
  where
    same : (q == r) ≡ true → q ≡ r
    same e = grind (arith, nat_tests, e)

    first : (b : Bool) → (q == r) ≡ b → (b || has q rs) ≡ true → (has q rs ≡ true → has q (among sessions rs) ≡ true) → ((q == r) || has q (among sessions rs)) ≡ true
    first true is h' later = ap (λ c. c || has q (among sessions rs)) is
    first false is h' later = ap (λ c. c || has q (among sessions rs)) is ∙ later h'

    go : (b c : Bool) → (q == r) ≡ b → has r sessions ≡ c → (b || has q rs) ≡ true → (has q rs ≡ true → has q (among sessions rs) ≡ true)
        → has q (cond (has r sessions) (r ∷ among sessions rs) (among sessions rs)) ≡ true
    go b true is there h' later = ap (λ c. has q (cond c (r ∷ among sessions rs) (among sessions rs))) there ∙ first b is h' later
    go true false is there h' later = absurd (true≢false (sym in' ∙ ap (λ s. has s sessions) (same is) ∙ there))
    go false false is there h' later = ap (λ c. has q (cond c (r ∷ among sessions rs) (among sessions rs))) there ∙ later h'

-- more passes have no fewer entries
own_more : (ids more : List ℕ) (log : List (Entry CoreEvent)) → ((i : ℕ) → has i ids ≡ true → has i more ≡ true) → length (own ids log) ≤ length (own more log)
own_more ids more [] sub = omega arith
own_more ids more (e ∷ log) sub = go (has e.pass ids) (has e.pass more) refl refl (own_more ids more log sub)
  where
    longer : (c : Bool) → length (own more log) ≤ length (cond c (e ∷ own more log) (own more log))
    longer true = omega arith
    longer false = omega arith

    go : (b c : Bool) → has e.pass ids ≡ b → has e.pass more ≡ c → length (own ids log) ≤ length (own more log)
        → length (cond (has e.pass ids) (e ∷ own ids log) (own ids log)) ≤ length (cond (has e.pass more) (e ∷ own more log) (own more log))
    go true false is there rest = absurd (true≢false (sym (sub e.pass is) ∙ there))
    go true true is there rest =
        let l = ap (λ b. length (cond b (e ∷ own ids log) (own ids log))) is in
        let m = ap (λ b. length (cond b (e ∷ own more log) (own more log))) there in
        omega (arith, l, m, rest)
    go false c is there rest =
        let l = ap (λ b. length (cond b (e ∷ own ids log) (own ids log))) is in
        let m = ap (λ b. length (cond b (e ∷ own more log) (own more log))) there in
        let n = longer c in
        omega (arith, l, m, n, rest)

-- a number of some is one of more
has_left : (q : ℕ) (xs ys : List ℕ) → has q xs ≡ true → has q (xs ++ ys) ≡ true
has_left q [] ys h = absurd (true≢false (sym h))
has_left q (x ∷ xs) ys h = go (q == x) h (has_left q xs ys)
  where
    go : (b : Bool) → (b || has q xs) ≡ true → (has q xs ≡ true → has q (xs ++ ys) ≡ true) → (b || has q (xs ++ ys)) ≡ true
    go true h' later = refl
    go false h' later = later h'

-- a session that was joined by a pass without hands and events has the same of its own
pub joins_go_on : JoinsGoOn
joins_go_on shape session id other old new note hand held own' k k' no_hands no_events joined knows = record {
  goes_on = (log_of more, ap log_of goes ∙ log_append shape v.log more);
  same = same;
  knows = record {
    sessions = sessions_are;
    sole = has_sole;
    under = under_on shape session v.log w.log goes knows.under (joined.stood.spared session among_old);
    own_is = knows.own_is ∙ ap own_after (sym same);
    opened = opened_moves shape (replay (store_meaning shape) v.log) (replay (store_meaning shape) w.log) session own'
        (joined.stood.transactions session among_old) knows.opened;
  };
  reads = joined.reads;
}
  where
    v : View CoreEvent
    v = old.0

    w : View CoreEvent
    w = new.0

    more : List (Entry CoreEvent)
    more = drop (length v.log) w.log

    goes : w.log ≡ v.log ++ more
    goes = joined.stood.goes_on

    among_old : has session v.sessions ≡ true
    among_old = ap (has session) knows.sessions ∙ has_head session []

    sessions_are : w.sessions ≡ session ∷ []
    sessions_are = joined.sessions ∙ ap (λ qs. v.sessions ++ qs) no_hands ∙ append-nil v.sessions ∙ knows.sessions

    among_own : has session w.sessions ≡ true
    among_own = ap (has session) sessions_are ∙ has_head session []

    has_sole : has session w.sole ≡ true
    has_sole = ap (has session) joined.sole ∙ has_left session (among v.sessions v.sole) (among note.sessions note.sole) (among_has session v.sessions v.sole knows.sole among_old)

    ids : List ℕ
    ids = id ∷ v.joined

    both : List ℕ
    both = id ∷ w.joined

    alone : OnlyBy session both w.log
    alone = k'.tied.alone session has_sole among_own

    within : (i : ℕ) → has i ids ≡ true → has i both ≡ true
    within i h = subst (λ js. has i (id ∷ js) ≡ true) (sym joined.joined) (has_left i ids (other ∷ note.joined) h)

    none_new : own both w.log ≡ own both v.log
    none_new = ap (own both) goes ∙ own_append both v.log more ∙ ap (λ es. own both v.log ++ es) quiet ∙ append-nil (own both v.log)
      where
        nil : (es : List (Entry CoreEvent)) → length es ≤ 0 → es ≡ []
        nil [] le = refl
        nil (e ∷ es) le = absurd (omega (arith, le))

        quiet : own both more ≡ []
        quiet =
            let all : length (own both w.log) ≡ length w.mine = ap (λ (es : List (Entry CoreEvent)). length es) k'.mine in
            let split : length (own both w.log) ≡ length (own both v.log) + length (own both more) =
            ap (λ (es : List (Entry CoreEvent)). length es) (ap (own both) goes ∙ own_append both v.log more) ∙ length-append (own both v.log) (own both more) in
            let entries = joined.entries in
            let none' : length note.mine ≡ 0 = ap (λ (es : List (Entry CoreEvent)). length es) no_events in
            let old' : length (own ids v.log) ≡ length v.mine = ap (λ (es : List (Entry CoreEvent)). length es) k.mine in
            let longer = own_more ids both v.log within in
            nil (own both more) (omega (arith, all, split, entries, none', old', longer))

    same : own_in shape session (log_of w.log) ≡ own_in shape session (log_of v.log)
    same = ap (λ l. own_in shape session (log_of l)) goes
        ∙ own_stays shape session both v.log more (subst (λ l. own both l ≡ own both v.log) goes none_new) (subst (OnlyBy session both) goes alone)
