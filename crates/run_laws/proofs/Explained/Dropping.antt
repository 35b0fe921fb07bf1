-- What prunings dropped and the stamped entries that stand are no more than the lines in front
-- tell.
use Rattle.std.proofs.Common.{◌≡◌, ◌≢◌, ℕ, ◌+◌, ◌*◌, ◌≤◌, Bool, true, false, cond, ◌==◌, List, [], ◌∷◌, ◌++◌, Option, None, Some, is_some, sum_by, refl, sym, ap, ◌∙◌, arith}
use Rattle.std.specs.Prelude.{option_map, sum}
use Rattle.std.proofs.lemmas.Bool.Decides.{nat_tests}
use Rattle.run_laws.proofs.Counts.Versions.{idle_owns_none, opens_without, sum_least, sum_moves, sum_none, sum_only, versions_are_counted}
use Rattle.run_laws.specs.Counts.Versions.{dropped_by, own_entries, stamped_by, stamped_entries, written_by}
use Rattle.core_laws.proofs.Events.Lists.{below_member}
use Rattle.core_laws.specs.Events.Named.{FollowsMachine}
use Rattle.event_spec.specs.declared.own.OwnTransaction.{OwnTransaction}
use Rattle.event_spec.specs.Effects.{CoreEvent}
use Rattle.event_spec.specs.Lawful.{IsLawful}
use Rattle.event_spec.specs.Parts.{Parts, Shape, desk_at}
use Rattle.event_spec.specs.Replay.{after, opening, reply_after}
use Rattle.event_spec.specs.Replies.{CoreReply}
use Rattle.event_spec.specs.Sound.{IsShape, Sound}
use Rattle.isolation_spec.specs.Machine.{IsolationMachine, Transaction, transaction_of}
use Rattle.outcome_spec.specs.Entries.{Entry, shown_in}
use Rattle.outcome_spec.specs.Runs.{writes_committed_in}
use Rattle.outcome_spec.specs.Upkeep.{moved_in, pruned_in}
use Rattle.txn_desk.specs.declared.Snapshot.{Snapshot}
use Rattle.txn_desk.specs.Oldest.{snapshot_of}
use Rattle.workload_spec.specs.declared.script.Script.{Script}
use Rattle.run_spec.specs.Occurrences.{Logged, Occurrence, occurrence_of, under}
use Rattle.run_spec.specs.Opened.{own_after}
use Rattle.run_spec.specs.Ran.{shape_of}
use Rattle.run_laws.specs.Calls.Open.{AgreesWith}
use Rattle.run_laws.specs.Moments.Moments.{seats_of, who_at}
use Rattle.run_laws.proofs.Moments.Standing.{other_last, own_last}
use Rattle.run_laws.proofs.Explained.Pruning.{all_blocks, goes_on, untold, way_last, way_of}
use Rattle.run_laws.proofs.Explained.Spans.{open_spans, open_writes}

-- What is true is not false.
true_false : true ≡ false → ⊥
true_false e = cc

-- ---- what is untold, over all sessions and workers

-- what the prunings of a session or a worker dropped and have not told
abbrev pub untold_at : Script → List Occurrence → ℕ → ℕ
untold_at script front seat = untold (all_blocks (shape_of script)) (way_of (under seat front))

-- that of all sessions and workers
abbrev pub all_untold : Script → List Occurrence → ℕ
all_untold script front = sum_by (untold_at script front) (seats_of script)

-- What prunings dropped, told or not, and what stands with a stamp, is no more than was committed
-- and twice the moved; a session's own entries are writes of its open spans.
pub record Kept (script : Script) (parts : Parts) (front : List Occurrence) (lines : List Entry) : Type 0 where
  pub stood : sum (shown_in pruned_in lines) + all_untold script front + stamped_entries (shape_of script) parts
      ≤ writes_committed_in lines + 2 * sum (shown_in moved_in lines)
  pub owned : (q : ℕ) → 1 ≤ q → own_entries (shape_of script) parts q ≤ open_writes (who_at script q) lines
  pub spans : (q : ℕ) → 1 ≤ q → is_some (own_after (under q front)) ≡ true → 1 ≤ open_spans (who_at script q) lines

-- where a session has nothing open, it has no entry
idle_by_own : (shape : Shape) (parts : Parts) (front : List Occurrence) (at : IsolationMachine) (q : ℕ)
    → IsShape shape → Sound shape parts → FollowsMachine shape parts at → AgreesWith front at → 1 ≤ q
    → is_some (own_after (under q front)) ≡ false → own_entries shape parts q ≡ 0
idle_by_own shape parts front at q is_shape ok follows agrees low none =
    idle_owns_none shape parts q is_shape ok low (go (snapshot_of (desk_at shape parts) q) refl)
  where
    some_none : (own : Option OwnTransaction) (open' : Option Transaction) (t : Transaction) → is_some own ≡ false
        → option_map (λ t. t.snapshot.number) own ≡ option_map (λ t. t.snapshot) open' → open' ≡ Some t → ⊥
    some_none (Some o) open' t n e is = true_false n
    some_none None open' t n e is = let never : None ≡ Some t.snapshot = e ∙ ap (option_map (λ (t : Transaction). t.snapshot)) is in let no : ⊥ = cc in no

    go : (o : Option Snapshot) → snapshot_of (desk_at shape parts) q ≡ o → snapshot_of (desk_at shape parts) q ≡ None
    go None e = e
    go (Some s) e =
        let open' = follows.follows.desked.begun q s low e in
        absurd (some_none (own_after (under q front)) (transaction_of q at) open'.0 none (agrees q).snapshot open'.1)

-- the counts are right before the first moment
pub kept_first : (script : Script) (at : IsolationMachine) → IsShape (shape_of script) → Sound (shape_of script) (opening (shape_of script))
    → FollowsMachine (shape_of script) (opening (shape_of script)) at → AgreesWith [] at → Kept script (opening (shape_of script)) [] []
kept_first script at is_shape ok follows agrees = record {
  stood =
      let none = opens_without (shape_of script) is_shape in
      let way = sum_none (untold_at script []) (seats_of script) (λ q a. zero_if (Rattle.std.proofs.Common.nat_lt 0 (all_blocks (shape_of script)))) in
      omega (arith, none, way);
  owned = λ q low. let none = idle_by_own (shape_of script) (opening (shape_of script)) [] at q is_shape ok follows agrees low refl in omega (arith, none);
  spans = λ q low e. absurd (true_false (sym e));
}
  where
    zero_if : (b : Bool) → cond {A = ℕ} b 0 0 ≡ 0
    zero_if true = refl
    zero_if false = refl

-- ---- one moment: the facts that it needs

-- what an event and its line bring
pub record Brings (script : Script) (parts : Parts) (front : List Occurrence) (lines after_lines : List Entry) (seat : ℕ) (e : CoreEvent) (r : CoreReply) : Type 0 where
  pub counted : sum (shown_in pruned_in after_lines) + untold (all_blocks (shape_of script)) (goes_on (way_of (under seat front)) e r)
      + stamped_by (shape_of script) parts e r + writes_committed_in lines + 2 * sum (shown_in moved_in lines)
      ≤ sum (shown_in pruned_in lines) + untold_at script front seat + dropped_by e r + writes_committed_in after_lines + 2 * sum (shown_in moved_in after_lines)
  pub opened : (q : ℕ) → 1 ≤ q → is_some (own_after (under q (front ++ record { session = seat; before = parts; event = e; reply = r } ∷ []))) ≡ true
      → (open_writes (who_at script q) lines + written_by q e r ≤ open_writes (who_at script q) after_lines) × (1 ≤ open_spans (who_at script q) after_lines)

module _ (script : Script) (parts : Parts) (front : List Occurrence) (lines after_lines : List Entry) (entry : Logged)
    (low : 1 ≤ entry.session) (high : entry.session ≤ script.sessions + script.workers) where
  -- The event of the moment's entry.
  abbrev e : CoreEvent
  e = entry.made.event

  -- With one event more, all that is untold rises by no more than its own session's.
  untold_all : all_untold script (front ++ occurrence_of (shape_of script) parts entry ∷ []) + untold_at script front entry.session
      ≤ all_untold script front + untold (all_blocks (shape_of script)) (goes_on (way_of (under entry.session front)) entry.made.event (reply_after (shape_of script) parts entry.made))
  untold_all =
      let s = sum_moves (untold_at script (front ++ occurrence_of (shape_of script) parts entry ∷ [])) (λ q. cond (q == entry.session) (untold_at script front entry.session) 0)
      (untold_at script front) (λ q. cond (q == entry.session) (untold (all_blocks (shape_of script)) (goes_on (way_of (under entry.session front)) entry.made.event (reply_after (shape_of script) parts entry.made))) 0) (seats_of script) (λ q a. each q (q == entry.session) refl) in
      let more = sum_least (λ q. cond (q == entry.session) (untold_at script front entry.session) 0) entry.session (seats_of script)
      (below_member 1 (script.sessions + script.workers) entry.session low (omega (arith, high))) in
      let here : cond {A = ℕ} (entry.session == entry.session) (untold_at script front entry.session) 0 ≡ untold_at script front entry.session = ap (λ b. cond {A = ℕ} b (untold_at script front entry.session) 0) (same_self entry.session) in
      let most = sum_only entry.session (untold (all_blocks (shape_of script)) (goes_on (way_of (under entry.session front)) entry.made.event (reply_after (shape_of script) parts entry.made))) 1 (script.sessions + script.workers) in
      omega (arith, s, more, here, most)
    where
      same_self : (n : ℕ) → (n == n) ≡ true
      same_self n = grind (arith, nat_tests)

      each : (q : ℕ) (b : Bool) → (q == entry.session) ≡ b
          → untold_at script (front ++ occurrence_of (shape_of script) parts entry ∷ []) q + cond (q == entry.session) (untold_at script front entry.session) 0
          ≤ untold_at script front q + cond (q == entry.session) (untold (all_blocks (shape_of script)) (goes_on (way_of (under entry.session front)) entry.made.event (reply_after (shape_of script) parts entry.made))) 0
      each q true is =
          let same : q ≡ entry.session = grind (arith, nat_tests, is) in
          let a : cond {A = ℕ} (q == entry.session) (untold_at script front entry.session) 0 ≡ untold_at script front entry.session = ap (λ b. cond {A = ℕ} b (untold_at script front entry.session) 0) is in
          let c : cond {A = ℕ} (q == entry.session) (untold (all_blocks (shape_of script)) (goes_on (way_of (under entry.session front)) entry.made.event (reply_after (shape_of script) parts entry.made))) 0 ≡ untold (all_blocks (shape_of script)) (goes_on (way_of (under entry.session front)) entry.made.event (reply_after (shape_of script) parts entry.made)) =
          ap (λ b. cond {A = ℕ} b (untold (all_blocks (shape_of script)) (goes_on (way_of (under entry.session front)) entry.made.event (reply_after (shape_of script) parts entry.made))) 0) is in
          let old : untold_at script front q ≡ untold_at script front entry.session = ap (untold_at script front) same in
          let new : untold_at script (front ++ occurrence_of (shape_of script) parts entry ∷ []) q ≡ untold (all_blocks (shape_of script)) (goes_on (way_of (under entry.session front)) entry.made.event (reply_after (shape_of script) parts entry.made)) =
          ap (untold_at script (front ++ occurrence_of (shape_of script) parts entry ∷ [])) same
          ∙ ap (λ os. untold (all_blocks (shape_of script)) (way_of os)) (own_last front (occurrence_of (shape_of script) parts entry))
          ∙ ap (untold (all_blocks (shape_of script))) (way_last (under entry.session front) (occurrence_of (shape_of script) parts entry)) in
          omega (arith, a, c, old, new)
      each q false is =
          let ne : entry.session ≢ q = λ same. (let never : ⊥ = grind (arith, nat_tests, is, same) in never) in
          let a : cond {A = ℕ} (q == entry.session) (untold_at script front entry.session) 0 ≡ 0 = ap (λ b. cond {A = ℕ} b (untold_at script front entry.session) 0) is in
          let new : untold_at script (front ++ occurrence_of (shape_of script) parts entry ∷ []) q ≡ untold_at script front q =
          ap (λ os. untold (all_blocks (shape_of script)) (way_of os)) (other_last q front (occurrence_of (shape_of script) parts entry) ne) in
          omega (arith, a, new)

  -- the counts stay right with one moment more
  pub next_kept : (next : IsolationMachine) → IsShape (shape_of script) → Sound (shape_of script) parts → IsLawful (shape_of script) entry.made.event parts
      → Sound (shape_of script) (after (shape_of script) parts entry.made) → FollowsMachine (shape_of script) (after (shape_of script) parts entry.made) next
      → AgreesWith (front ++ occurrence_of (shape_of script) parts entry ∷ []) next
      → Brings script parts front lines after_lines entry.session entry.made.event (reply_after (shape_of script) parts entry.made)
      → Kept script parts front lines → Kept script (after (shape_of script) parts entry.made) (front ++ occurrence_of (shape_of script) parts entry ∷ []) after_lines
  next_kept next is_shape ok lawful then follows agrees brings kept = record {
    stood =
        let v = (versions_are_counted (shape_of script) parts entry.made ok lawful).stamped in
        let u = untold_all in let k = kept.stood in let c = brings.counted in omega (arith, v, u, k, c);
    owned = λ q one. owned q one (is_some (own_after (under q (front ++ occurrence_of (shape_of script) parts entry ∷ [])))) refl;
    spans = λ q one some. (brings.opened q one some).1;
  }
    where
      owned : (q : ℕ) → 1 ≤ q → (b : Bool) → is_some (own_after (under q (front ++ occurrence_of (shape_of script) parts entry ∷ []))) ≡ b
          → own_entries (shape_of script) (after (shape_of script) parts entry.made) q ≤ open_writes (who_at script q) after_lines
      owned q one true is =
          let v = (versions_are_counted (shape_of script) parts entry.made ok lawful).own q in
          let k = kept.owned q one in let b = (brings.opened q one is).0 in omega (arith, v, k, b)
      owned q one false is =
          let none = idle_by_own (shape_of script) (after (shape_of script) parts entry.made) (front ++ occurrence_of (shape_of script) parts entry ∷ []) next q is_shape then follows agrees one is in
          omega (arith, none)
