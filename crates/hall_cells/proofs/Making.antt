-- What a pass knows of the marks after an event of its own.
use Rattle.std.proofs.Common.{eqb, ne_eqb, true≢false, ◌≡◌, ℕ, zero, suc, ◌+◌, ◌<◌, true, false, List, [], ◌∷◌, ◌++◌, Option, None, Some, length, set, get_or-set_same, refl, sym, ap, subst, ◌∙◌, arith}
use Rattle.std.specs.Prelude.{MatchOption, slice_index}
use Rattle.hall_cells.specs.Laws.{ended_closed, opened, raise_leaves}
use Rattle.hall_cells.specs.Made.{MakesDeed, MakesNone}
use Rattle.hall_cells.specs.Marks.{TookOnly, meaning_of, open_of, touches_part}
use Rattle.hall_cells.specs.declared.deed.Deed.{Deed}
use Rattle.hall_cells.specs.declared.deed.Deed.TheVariants.{Begin, End, Raise}
use Rattle.hall_cells.specs.declared.deed.Least.{Least}
use Rattle.hall_rule.specs.EventLog.{after, has, replay}
use Rattle.hall_rule.specs.Hands.{Holds}
use Rattle.hall_rule.specs.Meaning.{Meaning}
use Rattle.hall_rule.specs.Views.{entry_of, given}
use Rattle.hall_rule.specs.declared.view.Entry.{Entry}
use Rattle.hall_rule.specs.declared.view.View.{View}
use Rattle.hall_rule.proofs.Lists.{by_cases}
use Rattle.hall_rule.proofs.Logs.{replay_append}
use Rattle.hall_steps.specs.Hall.{EndsWith, LooksOn, TookParts}

-- The transaction of a session is the same for any count of parts.
open_any : (sh parts : ℕ) (s : List ℕ) (q : ℕ) → open_of sh s q ≡ open_of parts s q
open_any sh parts s zero = refl
open_any sh parts s (suc q) = refl

module _ (parts : ℕ) (start : List ℕ) (passes : ℕ) where
  -- What marks mean to the hall, with these parts, this start and these passes.
  abbrev M : Meaning ℕ Deed ℕ Least
  M = meaning_of parts start passes

  -- a pass that looks on finds the transactions of its sessions as they were, whatever other passes
  -- did
  pub looked_open : (sh id : ℕ) (v w : View Deed) → LooksOn M id v w → (r : ℕ) → has r v.sessions ≡ true → open_of sh (replay M w.log) r ≡ open_of sh (replay M v.log) r
  looked_open sh id v w looks r mine = open_any sh parts (replay M w.log) r ∙ (looks.learned.transactions r mine ∙ open_any parts sh (replay M v.log) r)

  -- and a mark that it raises leaves them so
  pub raised_open : (sh id : ℕ) (v w : View Deed) (before : List (Entry Deed)) (q p by : ℕ) → EndsWith M id v before (entry_of id v false (Raise q p by)) w → 0 < p
      → (r : ℕ) → has r v.sessions ≡ true → open_of sh (replay M w.log) r ≡ open_of sh (replay M v.log) r
  raised_open sh id v w before q p by ends low r mine =
      let s : List ℕ = replay M before in
      let e : Entry Deed = entry_of id v false (Raise q p by) in
      let state : replay M w.log ≡ after M e s = ap (replay M) ends.log ∙ replay_append M M.start before (e ∷ []) in
      ap (λ (x : List ℕ). open_of sh x r) state ∙ (raise_leaves sh s p (slice_index s p + by) r low ∙ (open_any sh parts s r ∙ (ends.learned.transactions r mine ∙ open_any parts sh (replay M v.log) r)))

  -- a session that began has its transaction open
  pub begun_open : (sh id : ℕ) (v w : View Deed) (before : List (Entry Deed)) (q : ℕ) → EndsWith M id v before (entry_of id v false (Begin q)) w → 0 < q → 0 < length start → open_of sh (replay M w.log) q ≡ Some q
  begun_open sh id v w before q ends low some' =
      let s : List ℕ = replay M before in
      let e : Entry Deed = entry_of id v false (Begin q) in
      let state : replay M w.log ≡ set s 0 q = ap (replay M) ends.log ∙ replay_append M M.start before (e ∷ []) in
      let room = ends.learned.room in
      ap (λ (x : List ℕ). open_of sh x q) state ∙ opened sh (set s 0 q) q (get_or-set_same s 0 q 0 (omega (arith, room, some'))) low

  -- and a session that ended has none
  pub ended_none : (sh id : ℕ) (v w : View Deed) (before : List (Entry Deed)) (q : ℕ) → EndsWith M id v before (entry_of id v false (End q)) w → 0 < length start → open_of sh (replay M w.log) q ≡ None
  ended_none sh id v w before q ends some' =
      let s : List ℕ = replay M before in
      let e : Entry Deed = entry_of id v false (End q) in
      let state : replay M w.log ≡ set s 0 0 = ap (replay M) ends.log ∙ replay_append M M.start before (e ∷ []) in
      let room = ends.learned.room in
      ap (λ (x : List ℕ). open_of sh x q) state ∙ ended_closed sh s q (omega (arith, room, some'))

  -- the same over a take before the event and a give after it
  pub made_between : (deed : Deed) (said : List ℕ → Type 0) (v u w x : View Deed) (k : ℕ) → u.mine ≡ v.mine → x ≡ given w k → MakesDeed M deed said u w → MakesDeed M deed said v x
  made_between deed said v u w x k same gave made = subst (MakesDeed M deed said v) (sym gave) (record {
    before = made.before;
    entry = made.entry;
    event = made.event;
    log = made.log;
    mine = made.mine ∙ ap (λ (l : List (Entry Deed)). l ++ made.entry ∷ []) same;
    state = made.state;
  })

  -- where no event was made, none was over a take before and a give after
  pub none_between : (said : List ℕ → Type 0) (v u w x : View Deed) (k : ℕ) → u.mine ≡ v.mine → x ≡ given w k → MakesNone M said u w → MakesNone M said v x
  none_between said v u w x k same gave made = subst (MakesNone M said v) (sym gave) (record { mine = made.mine ∙ same; state = made.state })

  -- a raise, made or not, over a take before and a give after
  pub raise_between : (r : Option ℕ) (deed : Deed) (full : List ℕ → Type 0) (said : ℕ → List ℕ → Type 0) (v u w x : View Deed) (k : ℕ) → u.mine ≡ v.mine → x ≡ given w k
      → MatchOption r (MakesNone M full u w) (λ was. MakesDeed M deed (said was) u w) → MatchOption r (MakesNone M full v x) (λ was. MakesDeed M deed (said was) v x)
  raise_between None deed full said v u w x k same gave m = none_between full v u w x k same gave m
  raise_between (Some was) deed full said v u w x k same gave m = made_between deed (said was) v u w x k same gave m

-- A number that passes the test for zero is zero.
only_zero : (k : ℕ) → eqb k 0 ≡ true → k ≡ 0
only_zero k e = by_cases k 0 (k ≡ 0) (λ x. x) (λ ne. absurd (true≢false (sym e ∙ ne_eqb k 0 ne)))

-- the parts that an end took
pub took_zero : (hand : List (Option ℕ)) (sh q : ℕ) (v w x : View Deed) → ((k : ℕ) → Holds hand k → touches_part sh (End q) hand k ≡ true) → TookParts hand v w → x.taken ≡ w.taken → TookOnly 0 v x
took_zero hand sh q v w x only took same = record { parts = took.parts; taken = same ∙ took.taken; only = λ k h. only_zero k (only k (took.held k h)) }
