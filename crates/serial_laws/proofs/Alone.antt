-- Each transaction of an explained output is a run of the machine alone: a checked one that wrote in
-- front of its number, one that left nothing behind the commits that it saw.
use Rattle.std.proofs.Common.{◌≡◌, ◌⊎◌, inl, inr, ℕ, zero, suc, ◌+◌, ◌-◌, ◌<◌, ◌≤◌, Bool, true, false, cond, ◌&&◌, not, ◌==◌, nat_lt, nat_le, List, [], ◌∷◌, ◌++◌, take, length, get_or, map, count_by, Option, None, Some, is_some, refl, sym, ap, subst, ◌∙◌, arith, length-append}
use Rattle.std.specs.Prelude.{All}
use Rattle.std.proofs.lemmas.List.{get_or-append_right}
use Rattle.isolation_spec.specs.Order.{InOrder}
use Rattle.std.specs.Prelude.{find, option_and_then}
use Rattle.std.specs.List.{list_all, list_any, range_with_len}
use Rattle.std.specs.Option.{option_map_or}
use Rattle.std.proofs.lemmas.Bool.{and_parts}
use Rattle.std.proofs.lemmas.Bool.Decides.{nat_tests}
use Rattle.std.proofs.lemmas.List.{take_more}
use Rattle.std.proofs.lemmas.Option.{same_Some}
use Rattle.isolation_spec.specs.Contents.{WriteSet}
use Rattle.isolation_spec.specs.declared.command.Act.{Act}
use Rattle.isolation_spec.specs.declared.command.Act.TheVariants as act
use Rattle.isolation_spec.specs.declared.command.Answer.{Answer}
use Rattle.isolation_spec.specs.declared.command.Answer.TheVariants as answer
use Rattle.workload_spec.specs.declared.reply.Said.{Said}
use Rattle.workload_spec.specs.declared.reply.Said.TheVariants as said
use Rattle.workload_spec.specs.declared.script.Script.{Script}
use Rattle.outcome_spec.specs.Answers.{read_holds, reads_hold, write_holds, writes_hold, is_acceptable}
use Rattle.outcome_spec.specs.Conflicts.{conflicts_hold}
use Rattle.outcome_spec.specs.Entries.{Entry, before, after, commit_in, shown_in, snapshot_in}
use Rattle.outcome_spec.specs.Explained.{Explained, run_in, is_sound}
use Rattle.outcome_spec.specs.Numbers.{commit_holds, commit_numbers_hold, has_written, is_commit_number, number_shown, snapshot_holds, snapshot_numbers_hold}
use Rattle.outcome_spec.specs.Runs.{Run, Span, accepted_write, commit_count, commit_line, commits_as, committed_writes, ending_of, transaction_of, writes_in}
use Rattle.outcome_spec.specs.Stale.{is_checked, reads_last}
use Rattle.outcome_spec.specs.Upkeep.{freezing_holds, full_holds, exports_hold, upkeep_holds}
use Rattle.order_laws.proofs.Pieces.{count-cons}
use Rattle.order_laws.specs.Places.{Rises}
use Rattle.serial_laws.specs.Serial.{Among, IsServed, seen_from}
use Rattle.serial_laws.specs.Alone.{Runs, alone, alone_steps, commit_number, end_alone, number_of, served_steps, step_of}
use Rattle.serial_laws.proofs.Members.{all-among, among-behind, own-session, printed}
use Rattle.serial_laws.proofs.Serial.{served, shown-order}
use Rattle.serial_laws.proofs.Whole.{commits_as as committed_as, found-among, is_of, its, rises}
use Rattle.serial_laws.proofs.Steps.{aborts, amid, commits, idles}
use Rattle.serial_laws.proofs.Walked.{none-written, rises-own, runs-alone, some-written}

-- True is not the same as false.
true_false : true ≡ false → ⊥
true_false e = cc

-- Nothing is not something.
none_some : (n : ℕ) → None ≡ Some n → ⊥
none_some n e = cc

-- ---- the history of an output

-- So many are taken of a list that has them.
pub length-taken : {X : Type 0} (n : ℕ) (xs : List X) → n ≤ length xs → length (take n xs) ≡ n
length-taken zero xs h = refl
length-taken (suc n) [] h = absurd (omega (arith, h))
length-taken (suc n) (x ∷ xs) h = ap suc (length-taken n xs (omega (arith, h)))

-- A history has a write set for each number.
pub length-history : (f : ℕ → WriteSet) (at len : ℕ) → length (map f (range_with_len at len)) ≡ len
length-history f at zero = refl
length-history f at (suc len) = ap suc (length-history f (at + 1) len)

-- That of a number is at its place.
history-at : (f : ℕ → WriteSet) (at len i : ℕ) → i < len → get_or (map f (range_with_len at len)) i [] ≡ f (at + i)
history-at f at zero i h = absurd (omega (arith, h))
history-at f at (suc len) zero h = ap f (omega arith)
history-at f at (suc len) (suc i) h = history-at f (at + 1) len i (omega (arith, h)) ∙ ap f (omega arith)

-- Where some element passes a test, one does.
counted : (p : Entry → Bool) (e : Entry) (xs : List Entry) → Among e xs → p e ≡ true → 1 ≤ count_by p xs
counted p e [] in' is = absurd in'
counted p e (x ∷ xs) in' is = by (p x) refl in' (λ rest. counted p e xs rest is)
  where
    by : (b : Bool) → p x ≡ b → (e ≡ x) ⊎ Among e xs → (Among e xs → 1 ≤ count_by p xs) → 1 ≤ count_by p (x ∷ xs)
    by true passes of further =
        let whole : count_by p (x ∷ xs) ≡ 1 + count_by p xs = count-cons p x xs ∙ ap (λ (b : Bool). cond b 1 0 + count_by p xs) passes in
        omega (arith, whole)
    by false passes (inl same) further = absurd (true_false (sym is ∙ ap p same ∙ passes))
    by false passes (inr rest) further =
        let whole : count_by p (x ∷ xs) ≡ 0 + count_by p xs = count-cons p x xs ∙ ap (λ (b : Bool). cond b 1 0 + count_by p xs) passes in
        let h = further rest in
        omega (arith, whole, h)

-- The only one that passes a test is the one that is found.
only-found : (p : Entry → Bool) (e : Entry) (xs : List Entry) → count_by p xs ≡ 1 → Among e xs → p e ≡ true → find p xs ≡ Some e
only-found p e [] one in' is = absurd in'
only-found p e (x ∷ xs) one in' is = by (p x) refl in' (λ k rest. only-found p e xs k rest is)
  where
    by : (b : Bool) → p x ≡ b → (e ≡ x) ⊎ Among e xs → (count_by p xs ≡ 1 → Among e xs → find p xs ≡ Some e) → find p (x ∷ xs) ≡ Some e
    by true passes (inl same) further = rw passes (ap (λ y. Some y) (sym same))
    by true passes (inr rest) further =
        let more = counted p e xs rest is in
        let whole : count_by p (x ∷ xs) ≡ 1 + count_by p xs = count-cons p x xs ∙ ap (λ (b : Bool). cond b 1 0 + count_by p xs) passes in
        absurd (omega (arith, more, whole, one))
    by false passes (inl same) further = absurd (true_false (sym is ∙ ap p same ∙ passes))
    by false passes (inr rest) further =
        let whole : count_by p (x ∷ xs) ≡ 0 + count_by p xs = count-cons p x xs ∙ ap (λ (b : Bool). cond b 1 0 + count_by p xs) passes in
        rw passes (further (omega (arith, whole, one)) rest)

-- ---- what is sound of a reply

-- what is true of ten parts is true of some of them
parts : (a b c d e f g h i j : Bool) → (a && b && c && d && e && f && g && h && i && j) ≡ true → (a ≡ true) × (b ≡ true) × (c ≡ true) × (d ≡ true)
parts true true true true e f g h i j all = (refl, refl, refl, refl)
parts true true true false e f g h i j all = absurd (true_false (sym all))
parts true true false d e f g h i j all = absurd (true_false (sym all))
parts true false c d e f g h i j all = absurd (true_false (sym all))
parts false b c d e f g h i j all = absurd (true_false (sym all))

-- what is true of four parts is true of the first three
pub three : (a b c d : Bool) → (a && b && c && d) ≡ true → (a ≡ true) × (b ≡ true) × (c ≡ true)
three true true true d all = (refl, refl, refl)
three true true false d all = absurd (true_false (sym all))
three true false c d all = absurd (true_false (sym all))
three false b c d all = absurd (true_false (sym all))

-- What is not true is false.
not-so : (b : Bool) → not b ≡ true → b ≡ false
not-so true h = absurd (true_false (sym h))
not-so false h = refl

-- A snapshot that is shown is one of the commits.
in-count : (run : Run) (entry : Entry) (told : Said) (n : ℕ) → snapshot_in told ≡ Some n → snapshot_holds run entry told ≡ true → n ≤ length run.history
in-count run entry (said.At number) n opens holds =
    let same : number ≡ n = same_Some number n opens in
    let low = (three (nat_le number (length run.history)) (nat_le (length run.first) number) (list_all (λ earlier. nat_le earlier number) (shown_in number_shown (before run.entries entry)))
    (list_all (λ later. nat_lt number later) (shown_in commit_in (after run.entries entry))) holds).0 in
    grind (arith, nat_tests, same, low)
in-count run entry _ n opens holds = absurd (none_some n opens)

-- A reply that shows a number commits with it.
pub commit-shown : (told : Said) (n : ℕ) → commit_in told ≡ Some n → told ≡ said.Committed (Some n)
commit-shown (said.Committed (Some m)) n h = ap (λ (o : Option ℕ). said.Committed o) h
commit-shown (said.Committed None) n h = absurd (none_some n h)
commit-shown _ n h = absurd (none_some n h)

-- Its number is the one with which its ending commits.
pub ending-shown : (t : Span) (number : ℕ) → commit_number t ≡ Some number → (ending : Entry) × (ending_of t ≡ Some ending) × (ending.reply.said ≡ said.Committed (Some number))
ending-shown t number is = by (ending_of t) refl is
  where
    by : (o : Option Entry) → ending_of t ≡ o → option_and_then (λ (e : Entry). commit_in e.reply.said) o ≡ Some number → (ending : Entry) × (ending_of t ≡ Some ending) × (ending.reply.said ≡ said.Committed (Some number))
    by (Some ending) e h = (ending, e, commit-shown ending.reply.said number h)
    by None e h = absurd (none_some number h)

module _ (script : Script) (text : List ℕ) (explained : Explained script text) where
  -- what the output shows
  abbrev pub run : Run
  run = run_in script text

  -- Its history has its numbers, behind the commits that the store began with.
  pub many : length run.history ≡ length script.begun + commit_count run.entries
  many =
      length-append script.begun (map (committed_writes run.entries run.transactions) (range_with_len (length script.begun + 1) (commit_count run.entries)))
      ∙ ap (λ (n : ℕ). length script.begun + n) (length-history (committed_writes run.entries run.transactions) (length script.begun + 1) (commit_count run.entries))

  -- What is sound of a reply.
  pub sound : (e : Entry) → Among e run.entries → (commit_numbers_hold run e ≡ true) × (snapshot_numbers_hold run e ≡ true) × (reads_hold run e ≡ true) × (writes_hold run e ≡ true)
  sound e in' = parts (commit_numbers_hold run e) (snapshot_numbers_hold run e) (reads_hold run e) (writes_hold run e) (conflicts_hold run e)
      (freezing_holds run e) (full_holds run e) (exports_hold run e) (upkeep_holds run e) (reads_last run e) (all-among (is_sound run) e run.entries in' explained.replies)

  module _ (t : Span) (among : Among t run.transactions) where
    -- A reply of it is one of its session's.
    own : (e : Entry) → Among e t.replies → e.reply.who ≡ (its script text explained t among).opening.reply.who
    own e in' = own-session run.entries t (its script text explained t among) e in'

    -- Its replies rise.
    order : Rises t.replies
    order = rises-own run.entries t (its script text explained t among) (rises script text explained t among)

    -- Its snapshot is one of the commits.
    snapshot-low : t.snapshot ≤ length run.history
    snapshot-low =
        let o = its script text explained t among in
        let in' : Among o.opening run.entries = subst (Among o.opening) (sym o.whole) (among-behind o.opening o.ahead (o.opening ∷ o.behind) (inl refl)) in
        let low = in-count run o.opening o.opening.reply.said o.number o.opens (sound o.opening in').1 in
        let at : t.snapshot ≡ o.number = ap (λ (u : Span). u.snapshot) o.span in
        omega (arith, low, at)

    -- What it was told at its snapshot.
    served-there : (e : Entry) → Among e t.replies → IsServed run t t.snapshot e
    served-there e in' = record {
      read = subst (λ (o : Option Span). option_map_or (λ (u : Span). read_holds (seen_from run u u.snapshot e) e.command e.reply.said) o true ≡ true) (is_of script text explained t among e in').belongs
          (sound e (printed run.entries t (its script text explained t among) e in')).2;
      write = λ is. subst (λ (told : Said). write_holds (is_acceptable (seen_from run t t.snapshot e) e.command) told ≡ true) is
          (subst (λ (o : Option Span). option_map_or (λ (u : Span). write_holds (is_acceptable (seen_from run u u.snapshot e) e.command) e.reply.said) o true ≡ true) (is_of script text explained t among e in').belongs
          (sound e (printed run.entries t (its script text explained t among) e in')).3);
    }

    -- Whether it wrote, as a reply that belongs to it says.
    wrote-so : (e : Entry) → Among e t.replies → has_written run e ≡ list_any (λ (other : Entry). is_some (accepted_write other)) t.replies
    wrote-so e in' = ap (λ (o : Option Span). option_map_or (λ (u : Span). list_any (λ (other : Entry). is_some (accepted_write other)) u.replies) o false) (is_of script text explained t among e in').belongs

    -- What a commit says of the numbers.
    commit-sound : (e : Entry) → Among e t.replies → (told : Said) → e.reply.said ≡ told → commit_holds run e told ≡ true
    commit-sound e in' told is = subst (λ (s : Said). commit_holds run e s ≡ true) is (sound e (printed run.entries t (its script text explained t among) e in')).0

    -- ---- one that left nothing

    -- How it ends.
    quiet-end : (told : Said) → commit_in told ≡ None → (told ≡ said.Committed None → writes_in t.replies ≡ [])
        → Runs (amid run.history t.snapshot (number_of t.who) (writes_in t.replies)) (step_of (number_of t.who) (end_alone told) ∷ []) (alone run.history t.snapshot)
    quiet-end (said.Committed None) none empty =
        subst (λ (ws : WriteSet). Runs (amid run.history t.snapshot (number_of t.who) ws) (step_of (number_of t.who) (act.Commit, answer.Committed None) ∷ []) (alone run.history t.snapshot)) (sym (empty refl))
        (idles run.history t.snapshot (number_of t.who))
    quiet-end (said.Committed (Some n)) none empty = absurd (none_some n (sym none))
    quiet-end _ none empty = aborts run.history t.snapshot (number_of t.who) (writes_in t.replies)

    -- It ends so whether the output shows its end or not.
    ends-quiet : (o : Option Entry) → ending_of t ≡ o → option_and_then (λ (e : Entry). commit_in e.reply.said) o ≡ None
        → Runs (amid run.history t.snapshot (number_of t.who) (writes_in t.replies)) (step_of (number_of t.who) (option_map_or (λ (ending : Entry). end_alone ending.reply.said) o (act.Abort, answer.Aborted)) ∷ []) (alone run.history t.snapshot)
    ends-quiet None e none = aborts run.history t.snapshot (number_of t.who) (writes_in t.replies)
    ends-quiet (Some ending) e none =
        let in' = found-among ending t.replies e in
        quiet-end ending.reply.said none
        (λ is. none-written t.replies (sym (wrote-so ending in') ∙ not-so (has_written run ending) (commit-sound ending in' (said.Committed None) is)))

    pub reads-alone : commit_number t ≡ None → Runs (alone run.history t.snapshot) (alone_steps t t.snapshot) (alone run.history t.snapshot)
    reads-alone none =
        let low = snapshot-low in
        runs-alone run t t.snapshot (number_of t.who) (its script text explained t among).opening.reply.who order own served-there
        (length-taken t.snapshot run.history (omega (arith, low)))
        (step_of (number_of t.who) (option_map_or (λ (ending : Entry). end_alone ending.reply.said) (ending_of t) (act.Abort, answer.Aborted))) (alone run.history t.snapshot)
        (ends-quiet (ending_of t) refl none)

    -- ---- one that wrote

    module _ (number : ℕ) (ending : Entry) (ends : ending_of t ≡ Some ending) (told : ending.reply.said ≡ said.Committed (Some number)) where
      -- Its ending is one of its replies.
      last-in : Among ending t.replies
      last-in = found-among ending t.replies ends

      -- What its number is.
      numbered : (has_written run ending ≡ true) × (is_commit_number run ending number ≡ true)
      numbered = and_parts (has_written run ending) (is_commit_number run ending number) (commit-sound ending last-in (said.Committed (Some number)) told)

      -- It is one of the numbers, on one line alone.
      number-facts : (nat_lt (length script.begun) number ≡ true) × (nat_le number (length run.history) ≡ true) × ((count_by (commits_as number) run.entries == 1) ≡ true)
      number-facts = three (nat_lt (length script.begun) number) (nat_le number (length run.history)) (count_by (commits_as number) run.entries == 1)
          (list_all (λ earlier. nat_lt earlier number) (shown_in commit_in (before run.entries ending))) numbered.1

      -- It is above those that the store began with.
      above : length script.begun < number
      above = let h = number-facts.0 in grind (arith, nat_tests, h)

      -- It is one of them.
      below : number ≤ length script.begun + commit_count run.entries
      below = let h = number-facts.1 in let all = many in grind (arith, nat_tests, h, all)

      -- Its line is the ending.
      line : commit_line run.entries number ≡ Some ending
      line =
          let h = number-facts.2 in
          let one : count_by (commits_as number) run.entries ≡ 1 = grind (arith, nat_tests, h) in
          let passes : commits_as number ending ≡ true = ap (λ (s : Said). option_map_or (λ (shown : ℕ). shown == number) (commit_in s) false) told ∙ grind (arith, nat_tests) in
          only-found (commits_as number) ending run.entries one (printed run.entries t (its script text explained t among) ending last-in) passes

      -- Its number is its own.
      owner : option_and_then (transaction_of run) (commit_line run.entries number) ≡ Some t
      owner = ap (option_and_then (transaction_of run)) line ∙ (is_of script text explained t among ending last-in).belongs

      -- Its write set is that of its number.
      set-is : get_or run.history (number - 1) [] ≡ writes_in t.replies
      set-is =
          get_or-append_right script.begun (map (committed_writes run.entries run.transactions) (range_with_len (length script.begun + 1) (commit_count run.entries)))
          (length script.begun) (number - 1) [] refl (omega (arith, above))
          ∙ history-at (committed_writes run.entries run.transactions) (length script.begun + 1) (commit_count run.entries) (number - 1 - length script.begun) (omega (arith, above, below))
          ∙ ap (committed_writes run.entries run.transactions) (omega (arith, above))
          ∙ ap (λ (o : Option Span). option_map_or (λ (u : Span). writes_in u.replies) o []) owner

      -- With it the history up to its number is that before it.
      taken : take number run.history ≡ take (number - 1) run.history ++ writes_in t.replies ∷ []
      taken =
          ap (λ (n : ℕ). take n run.history) (let e : number ≡ number - 1 + 1 = omega (arith, above) in e)
          ∙ take_more run.history (number - 1) [] (omega (arith, above, below, many))
          ∙ ap (λ (ws : WriteSet). take (number - 1) run.history ++ ws ∷ []) set-is

      -- So many are in front.
      front-many : length (take (number - 1) run.history) ≡ number - 1
      front-many = length-taken (number - 1) run.history (omega (arith, below, many))

      pub writes-alone : All InOrder script.begun → is_checked t ≡ true → Runs (alone run.history (number - 1)) (alone_steps t (number - 1)) (alone run.history number)
      writes-alone ordered checked =
          let some = some-written t.replies (sym (wrote-so ending last-in) ∙ numbered.0) in
          let is : option_map_or (λ (e : Entry). end_alone e.reply.said) (ending_of t) (act.Abort, answer.Aborted) ≡ (act.Commit, answer.Committed (Some number)) =
          ap (λ (o : Option Entry). option_map_or (λ (e : Entry). end_alone e.reply.said) o (act.Abort, answer.Aborted)) ends ∙ ap end_alone told in
          subst (λ (last : Act × Answer). Runs (alone run.history (number - 1)) (step_of (number_of t.who) (act.Begin (is_checked t), answer.At (number - 1)) ∷ (served_steps (number_of t.who) t.replies ++ step_of (number_of t.who) last ∷ [])) (alone run.history number)) (sym is)
          (runs-alone run t (number - 1) (number_of t.who) (its script text explained t among).opening.reply.who order own
          (λ e in'. served run t number (shown-order run ordered (range_with_len (length script.begun + 1) (commit_count run.entries))) explained.replies checked
          (committed_as script text explained t among ending number ends told) e (is_of script text explained t among e in'))
          front-many (step_of (number_of t.who) (act.Commit, answer.Committed (Some number))) (alone run.history number)
          (commits run.history (number - 1) (number_of t.who) (writes_in t.replies) some.0 some.1 some.2 number (let m = front-many in omega (arith, m, above)) taken))
