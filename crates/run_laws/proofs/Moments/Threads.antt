-- The replies of the moments, one session or worker at a time, and their order.
use Rattle.std.proofs.Common.{◌≡◌, ◌⊎◌, ℕ, zero, suc, ◌+◌, ◌<◌, ◌≤◌, nat_le, nat_lt, Bool, true, false, cond, ◌&&◌, ◌||◌, ◌==◌, List, [], ◌∷◌, ◌++◌, map, Option, None, Some, refl, sym, ap, ◌∙◌, subst, arith}
use mathlib.Core.Logic.{inl, inr}
use Rattle.std.specs.Prelude.{IfSome}
use Rattle.std.specs.List.{cons_option, filter, filter_map, range_with_len}
use Rattle.std.proofs.lemmas.Bool.Decides.{nat_tests}
use Rattle.std.proofs.lemmas.List.Elements.{filter-append}
use Rattle.std.proofs.lemmas.Bool.{and_from}
use Rattle.cell_model.specs.declared.table.TableDecl.{TableDecl}
use Rattle.outcome_spec.specs.Entries.{Entry, is_same, thread}
use Rattle.timeline_laws.proofs.Order.{Each-append, same-is, same-itself}
use Rattle.timeline_spec.specs.Timeline.{Each, Follows, InOrder}
use Rattle.workload_spec.specs.declared.reply.Who.{Who}
use Rattle.workload_spec.specs.declared.script.Script.{Script}
use Rattle.run_spec.specs.Calls.{Call}
use Rattle.run_spec.specs.Occurrences.{Occurrence}
use Rattle.run_spec.specs.Ran.{Share, session_of}
use Rattle.run_laws.specs.Calls.Moments.{Lined, Moment, lines_at, lines_of}
use Rattle.run_laws.specs.Moments.Laws.{AreMoments, IsPrinted, with_event}
use Rattle.run_laws.specs.Moments.Moments.{all_printed, due_of, lined, pending_at, pending_of, printed_by, printed_in, replies_at, reply_of, shares_lined, who_at, with_reply}
use Rattle.run_laws.proofs.Moments.Seats.{Aligned, Seat, same_seat, stands_at}

-- ---- replies of moments

-- A moment's reply is to the session or worker at its seat.
reply_is : (script : Script) (front : List Occurrence) (seat : ℕ) (event : Option Occurrence) (line : Option Lined)
    → Rattle.run_laws.specs.Moments.Laws.Stands script front seat event line
    → IfSome (reply_of (record { session = seat; event = event; line = line })) (λ entry. entry.reply.who ≡ who_at script seat)
reply_is script front seat event None stands = tt
reply_is script front seat event (Some line) stands = go line.printed stands.printed
  where
    go : (o : Option Entry) → IsPrinted (who_at script seat) line.call o → IfSome o (λ entry. entry.reply.who ≡ who_at script seat)
    go None is = tt
    go (Some entry) is = is.1

-- A reply to one put in front of others is in front of the thread.
kept : (who : Who) (o : Option Entry) (xs : List Entry) → IfSome o (λ entry. is_same entry.reply.who who ≡ true)
    → thread who (cons_option o xs) ≡ cons_option o (thread who xs)
kept who None xs is = refl
kept who (Some entry) xs is = ap (λ b. cond b (entry ∷ thread who xs) (thread who xs)) is

-- A reply to another put in front leaves the thread.
dropped : (who : Who) (o : Option Entry) (xs : List Entry) → IfSome o (λ entry. is_same entry.reply.who who ≡ false)
    → thread who (cons_option o xs) ≡ thread who xs
dropped who None xs is = refl
dropped who (Some entry) xs is = ap (λ b. cond b (entry ∷ thread who xs) (thread who xs)) is

-- A fact of a reply, if there is one, may be weakened.
if_some : (P Q : Entry → Type 0) → ((e : Entry) → P e → Q e) → (o : Option Entry) → IfSome o P → IfSome o Q
if_some P Q f None is = tt
if_some P Q f (Some e) is = f e is

-- With a line in front, if there is one, its printed reply comes first.
line_printed : (o : Option Lined) (xs : List Lined)
    → printed_in (cons_option o xs) ≡ cons_option (Rattle.std.specs.Prelude.option_and_then (λ (line : Lined). line.printed) o) (printed_in xs)
line_printed None xs = refl
line_printed (Some line) xs = refl

-- numbers that pass the test for equality are the same
pub number_is : (a b : ℕ) → (a == b) ≡ true → a ≡ b
number_is a b e = grind (arith, nat_tests, e)

-- Numbers that fail the test for equality are not the same.
number_not : (a b : ℕ) → (a == b) ≡ false → a ≡ b → ⊥
number_not a b e s = absurd (let never : ⊥ = grind (arith, nat_tests, e, s) in never)

-- at different seats stand different sessions or workers
pub not_same : (script : Script) (a b : ℕ) → (a == b) ≡ false → is_same (who_at script a) (who_at script b) ≡ false
not_same script a b e = go (is_same (who_at script a) (who_at script b)) refl
  where
    go : (t : Bool) → is_same (who_at script a) (who_at script b) ≡ t → is_same (who_at script a) (who_at script b) ≡ false
    go true f = absurd (number_not a b e (same_seat script a b f))
    go false f = f

-- of one seat
pub thread_of_seat : (script : Script) (front : List Occurrence) (q : ℕ) (moments : List Moment) → AreMoments script front moments
    → thread (who_at script q) (replies_at moments) ≡ printed_in (lines_at q moments)
thread_of_seat script front q [] are = refl
thread_of_seat script front q (m ∷ ms) are =
    go (m.session == q) refl (thread_of_seat script (with_event front m.event) q ms are.1)
  where
    reply : IfSome (reply_of m) (λ entry. entry.reply.who ≡ who_at script m.session)
    reply = reply_is script front m.session m.event m.line are.0.stands

    go : (b : Bool) → (m.session == q) ≡ b → thread (who_at script q) (replies_at ms) ≡ printed_in (lines_at q ms)
        → thread (who_at script q) (cons_option (reply_of m) (replies_at ms))
        ≡ printed_in (filter_map (λ (moment : Moment). moment.line) (cond (m.session == q) (m ∷ filter (λ (moment : Moment). moment.session == q) ms) (filter (λ (moment : Moment). moment.session == q) ms)))
    go true e rest =
        kept (who_at script q) (reply_of m) (replies_at ms)
        (if_some (λ entry. entry.reply.who ≡ who_at script m.session) (λ entry. is_same entry.reply.who (who_at script q) ≡ true)
        (λ entry is. ap (λ w. is_same w (who_at script q)) (is ∙ ap (who_at script) (number_is m.session q e)) ∙ same-itself (who_at script q)) (reply_of m) reply)
        ∙ ap (cons_option (reply_of m)) rest
        ∙ sym (line_printed m.line (lines_at q ms))
        ∙ ap (λ b. printed_in (filter_map (λ (moment : Moment). moment.line) (cond b (m ∷ filter (λ (moment : Moment). moment.session == q) ms) (filter (λ (moment : Moment). moment.session == q) ms)))) (sym e)
    go false e rest =
        dropped (who_at script q) (reply_of m) (replies_at ms)
        (if_some (λ entry. entry.reply.who ≡ who_at script m.session) (λ entry. is_same entry.reply.who (who_at script q) ≡ false)
        (λ entry is. ap (λ w. is_same w (who_at script q)) is ∙ not_same script m.session q e) (reply_of m) reply)
        ∙ rest
        ∙ ap (λ b. printed_in (filter_map (λ (moment : Moment). moment.line) (cond b (m ∷ filter (λ (moment : Moment). moment.session == q) ms) (filter (λ (moment : Moment). moment.session == q) ms)))) (sym e)

-- of one who is not of the script
abbrev pub IsStranger : Script → Who → Type 0
IsStranger script who = (q : ℕ) → Seat script q → is_same (who_at script q) who ≡ false

-- one who is not of the script has no reply
pub thread_of_stranger : (script : Script) (front : List Occurrence) (who : Who) (moments : List Moment) → IsStranger script who → AreMoments script front moments
    → thread who (replies_at moments) ≡ []
thread_of_stranger script front who [] out are = refl
thread_of_stranger script front who (m ∷ ms) out are =
    dropped who (reply_of m) (replies_at ms)
    (if_some (λ entry. entry.reply.who ≡ who_at script m.session) (λ entry. is_same entry.reply.who who ≡ false)
    (λ entry is. ap (λ w. is_same w who) is ∙ out m.session (are.0.low, are.0.high)) (reply_of m)
    (reply_is script front m.session m.event m.line are.0.stands))
    ∙ thread_of_stranger script (with_event front m.event) who ms out are.1

-- each session or worker stands at a seat, or is not of the script
pub of_script : (script : Script) (who : Who) → ((q : ℕ) × Seat script q × (who ≡ who_at script q)) ⊎ IsStranger script who
of_script script who = go (nat_le 1 q && nat_le q n && is_same (who_at script q) who) refl
  where
    q : ℕ
    q = session_of script who

    n : ℕ
    n = script.sessions + script.workers

    go : (b : Bool) → (nat_le 1 (session_of script who) && nat_le (session_of script who) (script.sessions + script.workers) && is_same (who_at script (session_of script who)) who) ≡ b
        → ((q : ℕ) × Seat script q × (who ≡ who_at script q)) ⊎ IsStranger script who
    go true e =
        let a = Rattle.run_laws.proofs.Calls.Along.and_first (nat_le 1 (session_of script who) && nat_le (session_of script who) (script.sessions + script.workers)) (is_same (who_at script (session_of script who)) who) e in
        let b = Rattle.run_laws.proofs.Calls.Along.and_second (nat_le 1 (session_of script who) && nat_le (session_of script who) (script.sessions + script.workers)) (is_same (who_at script (session_of script who)) who) e in
        let c = Rattle.run_laws.proofs.Calls.Along.and_first (nat_le 1 (session_of script who)) (nat_le (session_of script who) (script.sessions + script.workers)) a in
        let d = Rattle.run_laws.proofs.Calls.Along.and_second (nat_le 1 (session_of script who)) (nat_le (session_of script who) (script.sessions + script.workers)) a in
        inl (session_of script who, (grind (arith, nat_tests, c), grind (arith, nat_tests, d)), sym (same-is (who_at script (session_of script who)) who b))
    go false e = inr (λ r seat. at r seat (is_same (who_at script r) who) refl)
      where
        at : (r : ℕ) → Seat script r → (t : Bool) → is_same (who_at script r) who ≡ t → is_same (who_at script r) who ≡ false
        at r seat false f = f
        at r seat true f =
            let w : who_at script r ≡ who = same-is (who_at script r) who f in
            let is : session_of script who ≡ r = ap (session_of script) (sym w) ∙ stands_at script r in
            let low : nat_le 1 r ≡ true = let l = seat.0 in grind (arith, nat_tests, l) in
            let high : nat_le r (script.sessions + script.workers) ≡ true = let h = seat.1 in grind (arith, nat_tests, h) in
            let all : (nat_le 1 r && nat_le r (script.sessions + script.workers) && is_same (who_at script r) who) ≡ true =
            and_from (nat_le 1 r && nat_le r (script.sessions + script.workers)) (is_same (who_at script r) who)
            (and_from (nat_le 1 r) (nat_le r (script.sessions + script.workers)) low high) f in
            let never : true ≡ false = sym all ∙ ap (λ x. nat_le 1 x && nat_le x (script.sessions + script.workers) && is_same (who_at script x) who) (sym is) ∙ e in
            absurd (let no : ⊥ = cc in no)

-- ---- printed replies

-- The printed replies of one's calls are all in the thread of the same one.
lined_kept : (tables : List TableDecl) (earlier : List Entry) (number : ℕ) (who other : Who) (calls : List Call) → is_same who other ≡ true
    → thread other (printed_in (lined tables earlier number who calls)) ≡ printed_in (lined tables earlier number who calls)
lined_kept tables earlier number who other [] same = refl
lined_kept tables earlier number who other (call ∷ calls) same =
    let o : Option Entry = printed_by tables earlier (due_of number who call) call.told in
    let more : List Entry = printed_in (lined tables (with_reply earlier o) number who calls) in
    kept other o more (go call.told) ∙ ap (cons_option o) (lined_kept tables (with_reply earlier o) number who other calls same)
  where
    go : (told : Option Rattle.workload_spec.specs.declared.reply.Said.Said) → IfSome (printed_by tables earlier (due_of number who call) told) (λ entry. is_same entry.reply.who other ≡ true)
    go None = tt
    go (Some said) = same

-- None of the printed replies of one's calls is in another's thread.
lined_dropped : (tables : List TableDecl) (earlier : List Entry) (number : ℕ) (who other : Who) (calls : List Call) → is_same who other ≡ false
    → thread other (printed_in (lined tables earlier number who calls)) ≡ []
lined_dropped tables earlier number who other [] same = refl
lined_dropped tables earlier number who other (call ∷ calls) same =
    let o : Option Entry = printed_by tables earlier (due_of number who call) call.told in
    let more : List Entry = printed_in (lined tables (with_reply earlier o) number who calls) in
    dropped other o more (go call.told) ∙ lined_dropped tables (with_reply earlier o) number who other calls same
  where
    go : (told : Option Rattle.workload_spec.specs.declared.reply.Said.Said) → IfSome (printed_by tables earlier (due_of number who call) told) (λ entry. is_same entry.reply.who other ≡ false)
    go None = tt
    go (Some said) = same

-- The thread of two lists is that of the first and then that of the second.
thread_append : (who : Who) (xs ys : List Entry) → thread who (xs ++ ys) ≡ thread who xs ++ thread who ys
thread_append who xs ys = filter-append (λ (entry : Entry). is_same entry.reply.who who) xs ys

module _ (script : Script) (asked_lines : List Rattle.workload_spec.specs.declared.script.Line.Line) (number : ℕ) where
  -- those of nobody among these seats
  pub shares_dropped : (a n : ℕ) (earlier : List Entry) (shares : List Share) (other : Who) → Aligned script asked_lines a n shares
      → ((q : ℕ) → a ≤ q → q < a + n → is_same (who_at script q) other ≡ false)
      → thread other (all_printed (shares_lined script.tables earlier number shares)) ≡ []
  shares_dropped a zero earlier [] other al out = refl
  shares_dropped a zero earlier (share ∷ shares) other al out = absurd al
  shares_dropped a (suc n) earlier [] other al out = absurd al
  shares_dropped a (suc n) earlier (share ∷ shares) other al out =
      let lines : List Lined = lined script.tables earlier number share.who share.calls in
      thread_append other (printed_in lines) (all_printed (shares_lined script.tables (earlier ++ printed_in lines) number shares))
      ∙ ap (λ xs. xs ++ thread other (all_printed (shares_lined script.tables (earlier ++ printed_in lines) number shares)))
      (lined_dropped script.tables earlier number share.who other share.calls (ap (λ w. is_same w other) al.0 ∙ out a (omega arith) (omega arith)))
      ∙ shares_dropped (a + 1) n (earlier ++ printed_in lines) shares other al.2 (λ q low high. out q (omega (arith, low)) (omega (arith, high)))

  -- The lines of calls that are pending for some lines are these.
  lines_back : (lines : List Lined) → lines_of (map pending_of lines) ≡ lines
  lines_back [] = refl
  lines_back (line ∷ lines) = ap (λ ls. line ∷ ls) (lines_back lines)

  -- those of one seat
  pub shares_kept : (a n : ℕ) (earlier : List Entry) (shares : List Share) (q : ℕ) → Aligned script asked_lines a n shares
      → thread (who_at script q) (all_printed (shares_lined script.tables earlier number shares))
      ≡ printed_in (lines_of (pending_at (range_with_len a n) (shares_lined script.tables earlier number shares) q))
  shares_kept a zero earlier [] q al = refl
  shares_kept a zero earlier (share ∷ shares) q al = absurd al
  shares_kept a (suc n) earlier [] q al = absurd al
  shares_kept a (suc n) earlier (share ∷ shares) q al =
      thread_append (who_at script q) (printed_in lines) (all_printed more)
      ∙ go (a == q) refl (shares_kept (a + 1) n (earlier ++ printed_in (lined script.tables earlier number share.who share.calls)) shares q al.2)
    where
      lines : List Lined
      lines = lined script.tables earlier number share.who share.calls

      more : List (List Lined)
      more = shares_lined script.tables (earlier ++ printed_in (lined script.tables earlier number share.who share.calls)) number shares

      go : (b : Bool) → (a == q) ≡ b
          → thread (who_at script q) (all_printed more) ≡ printed_in (lines_of (pending_at (range_with_len (a + 1) n) more q))
          → thread (who_at script q) (printed_in lines) ++ thread (who_at script q) (all_printed more)
          ≡ printed_in (lines_of (cond (a == q) (map pending_of lines) (pending_at (range_with_len (a + 1) n) more q)))
      go true e rest =
          let same : a ≡ q = number_is a q e in
          ap (λ xs. xs ++ thread (who_at script q) (all_printed more))
          (lined_kept script.tables earlier number share.who (who_at script q) share.calls
          (ap (λ w. is_same w (who_at script q)) (al.0 ∙ ap (who_at script) same) ∙ same-itself (who_at script q)))
          ∙ ap (λ xs. printed_in lines ++ xs)
          (shares_dropped (a + 1) n (earlier ++ printed_in (lined script.tables earlier number share.who share.calls)) shares (who_at script q) al.2
          (λ r low high. not_same script r q (let ne : (r == q) ≡ false = grind (arith, nat_tests, low, same) in ne)))
          ∙ Rattle.std.proofs.Common.append-nil (printed_in lines)
          ∙ ap printed_in (sym (lines_back lines))
          ∙ ap (λ b. printed_in (lines_of (cond b (map pending_of lines) (pending_at (range_with_len (a + 1) n) more q)))) (sym e)
      go false e rest =
          ap (λ xs. xs ++ thread (who_at script q) (all_printed more))
          (lined_dropped script.tables earlier number share.who (who_at script q) share.calls
          (ap (λ w. is_same w (who_at script q)) al.0 ∙ not_same script a q e))
          ∙ rest
          ∙ ap (λ b. printed_in (lines_of (cond b (map pending_of lines) (pending_at (range_with_len (a + 1) n) more q)))) (sym e)

  -- all of a round have its number
  abbrev pub IsIn : Entry → Type 0
  IsIn entry = entry.reply.round ≡ number

  -- Each printed reply of one's calls in the round has its number.
  lined_in : (tables : List TableDecl) (earlier : List Entry) (who : Who) (calls : List Call) → Each IsIn (printed_in (lined tables earlier number who calls))
  lined_in tables earlier who [] = tt
  lined_in tables earlier who (call ∷ calls) =
      go call.told (printed_in (lined tables (with_reply earlier (printed_by tables earlier (due_of number who call) call.told)) number who calls)) (lined_in tables (with_reply earlier (printed_by tables earlier (due_of number who call) call.told)) who calls)
    where
      go : (told : Option Rattle.workload_spec.specs.declared.reply.Said.Said) → (xs : List Entry) → Each IsIn xs → Each IsIn (cons_option (printed_by tables earlier (due_of number who call) told) xs)
      go None xs each = each
      go (Some said) xs each = (refl, each)

  -- each printed reply of a round has its number
  pub shares_in : (tables : List TableDecl) (earlier : List Entry) (shares : List Share) → Each IsIn (all_printed (shares_lined tables earlier number shares))
  shares_in tables earlier [] = tt
  shares_in tables earlier (share ∷ shares) = Each-append IsIn (printed_in (lined tables earlier number share.who share.calls))
      (all_printed (shares_lined tables (earlier ++ printed_in (lined tables earlier number share.who share.calls)) number shares))
      (lined_in tables earlier share.who share.calls)
      (shares_in tables (earlier ++ printed_in (lined tables earlier number share.who share.calls)) shares)

-- a number within a range stands in it once
pub once : (a n q : ℕ) → a ≤ q → q < a + n → filter (λ other. other == q) (range_with_len a n) ≡ q ∷ []
once a zero q low high = absurd (let never : ⊥ = omega (arith, low, high) in never)
once a (suc n) q low high = go (a == q) refl (λ ne. once (a + 1) n q ne (omega (arith, high)))
  where
    none : (b m : ℕ) → q < b → filter (λ other. other == q) (range_with_len b m) ≡ []
    none b zero more = refl
    none b (suc m) more =
        let e : (b == q) ≡ false = grind (arith, nat_tests, more) in
        ap (λ t. cond t (b ∷ filter (λ other. other == q) (range_with_len (b + 1) m)) (filter (λ other. other == q) (range_with_len (b + 1) m))) e
        ∙ none (b + 1) m (omega (arith, more))

    go : (t : Bool) → (a == q) ≡ t → (a + 1 ≤ q → filter (λ other. other == q) (range_with_len (a + 1) n) ≡ q ∷ [])
        → cond (a == q) (a ∷ filter (λ other. other == q) (range_with_len (a + 1) n)) (filter (λ other. other == q) (range_with_len (a + 1) n)) ≡ q ∷ []
    go true e rest =
        let same : a ≡ q = number_is a q e in
        ap (λ t. cond t (a ∷ filter (λ other. other == q) (range_with_len (a + 1) n)) (filter (λ other. other == q) (range_with_len (a + 1) n))) e
        ∙ ap (λ xs. a ∷ xs) (none (a + 1) n (omega (arith, same))) ∙ ap (λ x. x ∷ []) same
    go false e rest =
        let ne = number_not a q e in
        ap (λ t. cond t (a ∷ filter (λ other. other == q) (range_with_len (a + 1) n)) (filter (λ other. other == q) (range_with_len (a + 1) n))) e
        ∙ rest (let less : a < q = grind (arith, nat_tests, e, low) in omega (arith, less))

-- ---- order

-- the rounds of the replies never fall
abbrev pub Rises : List Entry → Type 0
Rises [] = Unit {0}
Rises (entry ∷ rest) = Each (λ later. entry.reply.round ≤ later.reply.round) rest × Rises rest

-- A fact of each reply that a test keeps is one of each that passes it.
each_kept : (P : Entry → Type 0) (test : Entry → Bool) (xs : List Entry) → Each P (filter test xs) → Each (λ x. test x ≡ true → P x) xs
each_kept P test [] each = tt
each_kept P test (x ∷ xs) each = go (test x) refl each (each_kept P test xs)
  where
    go : (b : Bool) → test x ≡ b → Each P (cond b (x ∷ filter test xs) (filter test xs)) → (Each P (filter test xs) → Each (λ x. test x ≡ true → P x) xs)
        → (test x ≡ true → P x) × Each (λ x. test x ≡ true → P x) xs
    go true e h rest = (λ is. h.0, rest h.1)
    go false e h rest = (λ is. absurd (let never : ⊥ = cc in never), rest h)

-- A later reply of no earlier round follows one, if it does where both are to the same.
follows_one : (e later : Entry) → e.reply.round ≤ later.reply.round → (is_same later.reply.who e.reply.who ≡ true → Follows e later) → Follows e later
follows_one e later low same = go (is_same later.reply.who e.reply.who) refl
  where
    go : (b : Bool) → is_same later.reply.who e.reply.who ≡ b → Follows e later
    go true is = same is
    go false is = record {
      not_before =
          let round : nat_lt later.reply.round e.reply.round ≡ false = grind (arith, nat_tests, low) in
          ap (λ b. b || ((later.reply.round == e.reply.round) && is_same later.reply.who e.reply.who && nat_lt later.reply.index e.reply.index)) round
          ∙ ap (λ b. (later.reply.round == e.reply.round) && b && nat_lt later.reply.index e.reply.index) is
          ∙ middle (later.reply.round == e.reply.round) (nat_lt later.reply.index e.reply.index);
      in_turn = λ t. absurd (let never : ⊥ = cc in never);
    }
      where
        middle : (a b : Bool) → (a && false && b) ≡ false
        middle true b = refl
        middle false b = refl

-- Replies of no earlier rounds each follow one, if those to the same do.
each_both : (e : Entry) (rest : List Entry) → Each (λ later. e.reply.round ≤ later.reply.round) rest
    → Each (λ later. is_same later.reply.who e.reply.who ≡ true → Follows e later) rest → Each (Follows e) rest
each_both e [] low same = tt
each_both e (later ∷ rest) low same = (follows_one e later low.0 same.0, each_both e rest low.1 same.1)

-- Replies whose rounds rise, each one's own in order, are in order.
pub in_order : (entries : List Entry) → Rises entries → ((who : Who) → InOrder (thread who entries)) → InOrder entries
in_order [] rises each = tt
in_order (e ∷ rest) rises each = (
  each_both e rest rises.0 (each_kept (Follows e) (λ later. is_same later.reply.who e.reply.who) rest own.0),
  in_order rest rises.1 (λ who. tail who (is_same e.reply.who who) (each who)),
)
  where
    own : InOrder (e ∷ thread e.reply.who rest)
    own = subst InOrder (ap (λ b. cond b (e ∷ thread e.reply.who rest) (thread e.reply.who rest)) (same-itself e.reply.who)) (each e.reply.who)

    tail : (who : Who) (b : Bool) → InOrder (cond b (e ∷ thread who rest) (thread who rest)) → InOrder (thread who rest)
    tail who true h = h.1
    tail who false h = h

-- replies of one round rise in front of those of no earlier one
pub rises_append : (number : ℕ) (xs ys : List Entry) → Each (λ entry. entry.reply.round ≡ number) xs → Each (λ entry. number ≤ entry.reply.round) ys → Rises ys
    → Rises (xs ++ ys)
rises_append number [] ys in_round later rises = rises
rises_append number (x ∷ xs) ys in_round later rises = (
  Each-append (λ entry. x.reply.round ≤ entry.reply.round) xs ys
      (Rattle.timeline_laws.proofs.Order.Each-weaker (λ entry. entry.reply.round ≡ number) (λ entry. x.reply.round ≤ entry.reply.round)
      (λ entry is. let own = in_round.0 in omega (arith, own, is)) xs in_round.1)
      (Rattle.timeline_laws.proofs.Order.Each-weaker (λ entry. number ≤ entry.reply.round) (λ entry. x.reply.round ≤ entry.reply.round)
      (λ entry low. let own = in_round.0 in omega (arith, own, low)) ys later),
  rises_append number xs ys in_round.1 later rises,
)
