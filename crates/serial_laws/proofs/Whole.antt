-- What an explained output has of a transaction: each of its replies belongs to it, and its snapshot
-- is below the number with which it commits.
use Rattle.std.proofs.Common.{◌≡◌, ℕ, ◌<◌, Bool, true, false, cond, ◌&&◌, ◌==◌, nat_lt, nat_le, List, [], ◌∷◌, ◌++◌, length, None, Some, unwrap_or, Result, Ok, Err, refl, sym, ap, ◌∙◌, subst, arith, ◌⊎◌, inl, inr}
use Rattle.std.specs.Prelude.{is_ok, find}
use Rattle.std.specs.Result.{result_ok}
use Rattle.std.specs.List.{list_all}
use Rattle.std.proofs.lemmas.Bool.Decides.{nat_tests}
use Rattle.std.proofs.lemmas.Option.{same_Some}
use Rattle.workload_spec.specs.declared.reply.Said.{Said}
use Rattle.workload_spec.specs.declared.reply.Said.TheVariants as said
use Rattle.workload_spec.specs.declared.reply.Who.{Who}
use Rattle.workload_spec.specs.declared.script.Script.{Script}
use Rattle.outcome_spec.specs.Entries.{Entry, is_same, is_before, before, after, thread, snapshot_in, commit_in, shown_in, is_end}
use Rattle.outcome_spec.specs.Explained.{Explained, replies_of, run_in, is_sound}
use Rattle.outcome_spec.specs.Forms.{dues_of}
use Rattle.outcome_spec.specs.Lines.{lines_of}
use Rattle.outcome_spec.specs.Numbers.{commit_numbers_hold, snapshot_numbers_hold, snapshot_holds, number_shown}
use Rattle.outcome_spec.specs.Answers.{reads_hold, writes_hold}
use Rattle.outcome_spec.specs.Conflicts.{conflicts_hold}
use Rattle.outcome_spec.specs.Upkeep.{freezing_holds, full_holds, exports_hold, upkeep_holds}
use Rattle.outcome_spec.specs.Stale.{reads_last}
use Rattle.outcome_spec.specs.Runs.{Run, Span, ending_of}
use Rattle.order_laws.proofs.Dues.{dues-rise, dues-upkeep}
use Rattle.order_laws.proofs.Order.{same-itself}
use Rattle.order_laws.proofs.Places.{Behind, Beside, Own, ahead-cases, earlier-itself}
use Rattle.order_laws.proofs.Walk.{read-rise, read-outside}
use Rattle.order_laws.specs.Opened.{OpensOutside}
use Rattle.order_laws.specs.Places.{Rises, is_ahead, is_earlier}
use Rattle.serial_laws.specs.Serial.{Among, IsOf, CommitsAs}
use Rattle.serial_laws.proofs.Members.{Opening, opened, printed, belongs, among-up_to, among-filter, among-behind, own-session, all-among, shown-among}

-- True is not the same as false.
true_false : true ≡ false → ⊥
true_false e = cc

-- Nothing is not something.
none_some : (n : ℕ) → None ≡ Some n → ⊥
none_some n e = cc

-- where something was read, it is this
ok-is : (r : Result (List Entry) ℕ) → is_ok r ≡ true → r ≡ Ok (unwrap_or (result_ok r) [])
ok-is (Ok entries) is = refl
ok-is (Err line) is = absurd (true_false (sym is))

-- of three parts that hold the last does
last-of : (a b c : Bool) → (a && b && c) ≡ true → c ≡ true
last-of true true c all = all
last-of true false c all = absurd (true_false (sym all))
last-of false b c all = absurd (true_false (sym all))

-- what is true of ten parts is true of the second
second-of : (a b c d e f g h i j : Bool) → (a && b && c && d && e && f && g && h && i && j) ≡ true → b ≡ true
second-of true true c d e f g h i j all = refl
second-of true false c d e f g h i j all = absurd (true_false (sym all))
second-of false b c d e f g h i j all = absurd (true_false (sym all))

-- A snapshot that is shown is below each commit number after.
below : (run : Run) (entry : Entry) (told : Said) (n : ℕ) → snapshot_in told ≡ Some n → snapshot_holds run entry told ≡ true
    → list_all (nat_lt n) (shown_in commit_in (after run.entries entry)) ≡ true
below run entry (said.At number) n opens holds =
    let same : number ≡ n = same_Some number n opens in
    subst (λ (k : ℕ). list_all (nat_lt k) (shown_in commit_in (after run.entries entry)) ≡ true) same
    (last-of (nat_le number (length run.history) && nat_le (length run.first) number) (list_all (λ earlier. nat_le earlier number) (shown_in number_shown (before run.entries entry)))
    (list_all (λ later. nat_lt number later) (shown_in commit_in (after run.entries entry))) holds)
below run entry (said.Committed number) n opens holds = absurd (none_some n opens)
below run entry (said.Stale what number) n opens holds = absurd (none_some n opens)
below run entry said.Aborted n opens holds = absurd (none_some n opens)
below run entry said.InTransaction n opens holds = absurd (none_some n opens)
below run entry said.NoTransaction n opens holds = absurd (none_some n opens)
below run entry (said.Found row) n opens holds = absurd (none_some n opens)
below run entry said.Absent n opens holds = absurd (none_some n opens)
below run entry (said.Scanned rows) n opens holds = absurd (none_some n opens)
below run entry (said.Totalled count sum) n opens holds = absurd (none_some n opens)
below run entry said.Accepted n opens holds = absurd (none_some n opens)
below run entry (said.ConflictSession session) n opens holds = absurd (none_some n opens)
below run entry (said.ConflictCommit number) n opens holds = absurd (none_some n opens)
below run entry said.Exists n opens holds = absurd (none_some n opens)
below run entry said.Missing n opens holds = absurd (none_some n opens)
below run entry said.Full n opens holds = absurd (none_some n opens)
below run entry (said.Freezing table block stamp) n opens holds = absurd (none_some n opens)
below run entry (said.Cooling count) n opens holds = absurd (none_some n opens)
below run entry (said.Pruned count) n opens holds = absurd (none_some n opens)
below run entry (said.Moved count) n opens holds = absurd (none_some n opens)
below run entry (said.Sealed table block stamp) n opens holds = absurd (none_some n opens)
below run entry (said.NotSealed cause) n opens holds = absurd (none_some n opens)
below run entry (said.Frozen table block rows) n opens holds = absurd (none_some n opens)
below run entry said.NotFrozen n opens holds = absurd (none_some n opens)
below run entry (said.Exported number rows batches frozen) n opens holds = absurd (none_some n opens)
below run entry (said.Dirty key) n opens holds = absurd (none_some n opens)
below run entry said.Memory n opens holds = absurd (none_some n opens)

-- what is found among some is one of them
pub found-among : (entry : Entry) (xs : List Entry) → find (λ (e : Entry). is_end e.reply.said) xs ≡ Some entry → Among entry xs
found-among entry [] is = absurd (let never : ⊥ = cc in never)
found-among entry (x ∷ xs) is = go (is_end x.reply.said) (λ rest. found-among entry xs rest) is
  where
    go : (b : Bool) → (find (λ (e : Entry). is_end e.reply.said) xs ≡ Some entry → Among entry xs) → cond b (Some x) (find (λ (e : Entry). is_end e.reply.said) xs) ≡ Some entry → Among entry (x ∷ xs)
    go true further e = let same : x ≡ entry = cc in inl (sym same)
    go false further e = inr (further e)

-- what rises, its rest does
pub rises-rest : (xs ys : List Entry) → Rises (xs ++ ys) → Rises ys
rises-rest [] ys h = h
rises-rest (x ∷ xs) ys h = rises-rest xs ys h.1

-- of one session what stands ahead is before
pub before-own : (x y : Entry) → is_ahead x y ≡ true → y.reply.who ≡ x.reply.who → is_before x y ≡ true
before-own x y ahead who = go (ahead-cases x y ahead)
  where
    same : is_same x.reply.who y.reply.who ≡ true
    same = subst (λ (w : Who). is_same x.reply.who w ≡ true) (sym who) (same-itself x.reply.who)

    go : Behind x y ⊎ (Beside x y ⊎ Own x y) → is_before x y ≡ true
    go (inl b) =
        let less : nat_lt x.reply.round y.reply.round ≡ true = grind (arith, nat_tests, b.later) in
        rw less refl
    go (inr (inl b)) = absurd (true_false (sym (subst (λ (w : Who). is_earlier x.reply.who w ≡ true) who b.who) ∙ earlier-itself x.reply.who))
    go (inr (inr o)) =
        let less : nat_lt x.reply.round y.reply.round ≡ false = grind (arith, nat_tests, o.round) in
        let equal : (x.reply.round == y.reply.round) ≡ true = grind (arith, nat_tests, o.round) in
        let index : nat_lt x.reply.index y.reply.index ≡ true = grind (arith, nat_tests, o.index) in
        rw (less, equal, same, index) refl

module _ (script : Script) (text : List ℕ) (explained : Explained script text) (t : Span) (among : Among t (run_in script text).transactions) where
  -- The replies that were read.
  abbrev entries : List Entry
  entries = (run_in script text).entries

  read : replies_of script text ≡ Ok entries
  read = ok-is (replies_of script text) explained.forms

  pub rises : Rises entries
  rises = read-rise script.tables (dues_of script) (lines_of text) entries (dues-rise script) read

  outside : OpensOutside entries
  outside = read-outside script.tables (dues_of script) (lines_of text) entries (dues-upkeep script) read

  pub its : Opening entries t
  its = opened entries t among

  pub is_of : (entry : Entry) → Among entry t.replies → IsOf (run_in script text) t entry
  is_of entry of = record { printed = printed entries t its entry of; of = of; belongs = belongs entries rises outside t its entry of }

  -- it ends behind the reply that opens it
  behind : (ending : Entry) (number : ℕ) → ending.reply.said ≡ said.Committed (Some number) → Among ending t.replies → Among ending its.behind × (ending.reply.who ≡ its.opening.reply.who)
  behind ending number is of = (go (among-up_to ending (its.opening ∷ thread its.opening.reply.who its.behind) (subst (λ (u : Span). Among ending u.replies) its.span of)), own-session entries t its ending of)
    where
      go : Among ending (its.opening ∷ thread its.opening.reply.who its.behind) → Among ending its.behind
      go (inl here) = absurd (none_some its.number (sym (ap snapshot_in is) ∙ ap (λ (e : Entry). snapshot_in e.reply.said) here ∙ its.opens))
      go (inr rest) = among-filter (λ (e : Entry). is_same e.reply.who its.opening.reply.who) ending its.behind rest

  pub above : (ending : Entry) (number : ℕ) → ending.reply.said ≡ said.Committed (Some number) → Among ending t.replies → t.snapshot < number
  above ending number is of =
      let stands = behind ending number is of in
      let order = rises-rest its.ahead (its.opening ∷ its.behind) (subst Rises its.whole rises) in
      let ahead : is_ahead its.opening ending ≡ true = all-among (is_ahead its.opening) ending its.behind stands.0 order.0 in
      let first : Among its.opening entries = subst (Among its.opening) (sym its.whole) (among-behind its.opening its.ahead (its.opening ∷ its.behind) (inl refl)) in
      let sound : is_sound (run_in script text) its.opening ≡ true = all-among (is_sound (run_in script text)) its.opening entries first explained.replies in
      let shown : snapshot_numbers_hold (run_in script text) its.opening ≡ true = second-of (commit_numbers_hold (run_in script text) its.opening) (snapshot_numbers_hold (run_in script text) its.opening) (reads_hold (run_in script text) its.opening) (writes_hold (run_in script text) its.opening) (conflicts_hold (run_in script text) its.opening)
      (freezing_holds (run_in script text) its.opening) (full_holds (run_in script text) its.opening) (exports_hold (run_in script text) its.opening) (upkeep_holds (run_in script text) its.opening) (reads_last (run_in script text) its.opening) sound in
      let low : nat_lt its.number number ≡ true = shown-among number (is_before its.opening) ending entries (printed entries t its ending of) (before-own its.opening ending ahead stands.1) (ap commit_in is) its.number
      (below (run_in script text) its.opening its.opening.reply.said its.number its.opens shown) in
      let at : t.snapshot ≡ its.number = ap (λ (u : Span). u.snapshot) its.span in
      grind (arith, nat_tests, low, at)

  pub commits_as : (ending : Entry) (number : ℕ) → ending_of t ≡ Some ending → ending.reply.said ≡ said.Committed (Some number) → CommitsAs (run_in script text) t number
  commits_as ending number ends is =
      let of = found-among ending t.replies ends in
      record { ending = ending; is_of = is_of ending of; ends = ends; said = is; above = above ending number is of }
