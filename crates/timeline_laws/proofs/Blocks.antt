-- What a timeline's replies say of blocks: freezing, full tables, exports and upkeep.
use Rattle.std.proofs.Common.{suc, length-append, ◌≡◌, ℕ, ◌+◌, ◌*◌, ◌-◌, ◌<◌, ◌≤◌, Bool, true, false, cond, eqb, nat_lt, nat_le, List, [], ◌∷◌, ◌++◌, length, Option, None, Some, refl, sym, ap, ◌∙◌, subst, arith, append_assoc, append-nil, ℤ}
use Rattle.std.specs.Prelude.{is_some, is_none, sum, unwrap_or, count_by}
use Rattle.std.specs.Option.{option_map_or}
use Rattle.std.specs.Ordering.{int_eq}
use Rattle.std.specs.Cmp.{int_eq_equiv}
use Rattle.std.specs.List.{list_all, sum_by, cons_option, range_with_len}
use Rattle.std.proofs.lemmas.Bool.Decides.{nat_tests}
use Rattle.std.proofs.lemmas.Bool.{eqb-true, and_from}
use Rattle.std.proofs.lemmas.List.{length_push}
use Rattle.std.proofs.lemmas.List.Elements.{filter_map-append}
use Rattle.std.proofs.Math.Nat.{le_trans}
use Rattle.std.proofs.lemmas.List.Sorted.{sum_by-IsPermutation}
use Rattle.std.proofs.lemmas.List.Sums.{sum_by-cons, sum_by-append, sum_by-le-sum_by}
use Rattle.cell_model.specs.declared.table.TableDecl.{TableDecl}
use Rattle.isolation_spec.specs.Contents.{History, rows_left, state_at, contents_of, State, WriteSet}
use Rattle.isolation_spec.specs.Machine.{IsolationMachine, opening_from, Transaction}
use Rattle.workload_spec.specs.declared.command.Command.{Command}
use Rattle.workload_spec.specs.declared.command.Command.TheVariants as command
use Rattle.workload_spec.specs.declared.reply.Who.{Who}
use Rattle.workload_spec.specs.declared.reply.Who.TheVariants.{Session, Worker}
use Rattle.workload_spec.specs.declared.reply.Said.{Said}
use Rattle.workload_spec.specs.declared.reply.Said.TheVariants as said
use Rattle.outcome_spec.specs.Entries.{Entry, is_before, is_not_after, before, not_after, shown_in}
use Rattle.outcome_spec.specs.Runs.{Span, Run, writes_in}
use Rattle.outcome_spec.specs.Tables.{slots_at, blocks_at}
use Rattle.outcome_spec.specs.Upkeep.{stamp_in, rows_in, seals_in, freezes_in, stamp_count, freezing_reply_holds, freezing_holds, is_accepted_insert, full_reply_holds, full_holds, frozen_blocks, summary_holds, exports_hold, seal_holds, freeze_holds, pruned_in, moved_in, prune_holds, most_moved, upkeep_reply_holds, upkeep_holds, export_reply_holds, exported_table, inserted_table, inserts_in, capacity_at, gathered_block}
use Rattle.isolation_spec.specs.Contents.{least_key}
use Rattle.timeline_laws.proofs.Threads.{same-of}
use Rattle.timeline_spec.specs.Timeline.{open_of, TimelineFrom, RunsFrom, CountsFrom, FindsUnsealed, Exports, ExportsWithin, ExportsBy, Aside, request_of, TakesAs, FindsFull}
use Rattle.outcome_spec.specs.Entries.{thread}
use Rattle.outcome_spec.specs.Runs.{writes_committed_in}
use Rattle.outcome_spec.specs.Upkeep.{frozen_blocks}
use Rattle.timeline_laws.proofs.Tests.{at_most, same_number, all-three, all-four, all-seven}
use Rattle.timeline_laws.proofs.Ranges.{range-push, range-append, all-below, all-above, count-below, count-above}
use Rattle.timeline_laws.proofs.Order.{before-each, shown-each, shown-filter, shows_only}
use Rattle.timeline_laws.proofs.Unique.{Only}
use Rattle.timeline_laws.proofs.Sums.{sum-before, sum-not_after, sum-at-most, counted, summed}
use Rattle.timeline_laws.proofs.Walk.{Within, shown-more}
use Rattle.timeline_laws.proofs.Committed.{committed-in_front}
use Rattle.timeline_laws.proofs.Cuts.{Cut}
use Rattle.timeline_laws.proofs.Histories.{run, last, shown-length}
use Rattle.timeline_laws.proofs.Views.{belongs, by-transaction, before-is, bound-is, state-is}

-- ---- the stamps of a block

-- the stamps of the seals of a block go up by one from 1, and its seals are its gatherings, or one
-- more
pub record Stamped (entries : List Entry) (table block : ℕ) : Type 0 where
  pub stamps : shown_in (stamp_in table block) entries ≡ range_with_len 1 (seals_in table block entries)
  pub low : freezes_in table block entries ≤ seals_in table block entries
  pub high : seals_in table block entries ≤ freezes_in table block entries + 1

-- a reply that is no seal and no gathering of the block
stamped-still : (front : List Entry) (entry : Entry) (table block : ℕ) → Stamped front table block → stamp_in table block entry.reply.said ≡ None → rows_in table block entry.reply.said ≡ None
    → Stamped (front ++ entry ∷ []) table block
stamped-still front entry table block h seal freeze =
    let seals : shown_in (stamp_in table block) (front ++ entry ∷ []) ≡ shown_in (stamp_in table block) front =
    shown-more (stamp_in table block) front entry ∙ ap (λ (o : Option ℕ). shown_in (stamp_in table block) front ++ cons_option o []) seal ∙ append-nil (shown_in (stamp_in table block) front) in
    let freezes : shown_in (rows_in table block) (front ++ entry ∷ []) ≡ shown_in (rows_in table block) front =
    shown-more (rows_in table block) front entry ∙ ap (λ (o : Option ℕ). shown_in (rows_in table block) front ++ cons_option o []) freeze ∙ append-nil (shown_in (rows_in table block) front) in
    record {
      stamps = seals ∙ h.stamps ∙ ap (λ (xs : List ℕ). range_with_len 1 (length xs)) (sym seals);
      low = let l : freezes_in table block front ≤ seals_in table block front = h.low in omega (arith, l, ap length seals, ap length freezes);
      high = let l : seals_in table block front ≤ freezes_in table block front + 1 = h.high in omega (arith, l, ap length seals, ap length freezes);
    }

-- A seal with the next stamp keeps the stamps of its block in order.
stamped-sealed : (front : List Entry) (entry : Entry) (table block stamp : ℕ) → Stamped front table block → stamp_in table block entry.reply.said ≡ Some stamp → rows_in table block entry.reply.said ≡ None
    → seals_in table block front ≡ freezes_in table block front → stamp ≡ seals_in table block front + 1 → Stamped (front ++ entry ∷ []) table block
stamped-sealed front entry table block stamp h seal freeze same next =
    let seals : shown_in (stamp_in table block) (front ++ entry ∷ []) ≡ shown_in (stamp_in table block) front ++ stamp ∷ [] =
    shown-more (stamp_in table block) front entry ∙ ap (λ (o : Option ℕ). shown_in (stamp_in table block) front ++ cons_option o []) seal in
    let freezes : shown_in (rows_in table block) (front ++ entry ∷ []) ≡ shown_in (rows_in table block) front =
    shown-more (rows_in table block) front entry ∙ ap (λ (o : Option ℕ). shown_in (rows_in table block) front ++ cons_option o []) freeze ∙ append-nil (shown_in (rows_in table block) front) in
    let longer : seals_in table block (front ++ entry ∷ []) ≡ seals_in table block front + 1 = ap length seals ∙ length_push (shown_in (stamp_in table block) front) stamp in
    record {
      stamps = seals ∙ ap (λ (n : ℕ). shown_in (stamp_in table block) front ++ n ∷ []) next ∙ ap (λ (xs : List ℕ). xs ++ (seals_in table block front + 1) ∷ []) h.stamps
          ∙ sym (range-push (seals_in table block front)) ∙ ap (range_with_len 1) (sym longer);
      low = omega (arith, longer, same, ap length freezes);
      high = omega (arith, longer, same, ap length freezes);
    }

-- A gathering of a sealed block keeps the stamps of the block in order.
stamped-frozen : (front : List Entry) (entry : Entry) (table block rows : ℕ) → Stamped front table block → stamp_in table block entry.reply.said ≡ None → rows_in table block entry.reply.said ≡ Some rows
    → seals_in table block front ≡ freezes_in table block front + 1 → Stamped (front ++ entry ∷ []) table block
stamped-frozen front entry table block rows h seal freeze more =
    let seals : shown_in (stamp_in table block) (front ++ entry ∷ []) ≡ shown_in (stamp_in table block) front =
    shown-more (stamp_in table block) front entry ∙ ap (λ (o : Option ℕ). shown_in (stamp_in table block) front ++ cons_option o []) seal ∙ append-nil (shown_in (stamp_in table block) front) in
    let freezes : shown_in (rows_in table block) (front ++ entry ∷ []) ≡ shown_in (rows_in table block) front ++ rows ∷ [] =
    shown-more (rows_in table block) front entry ∙ ap (λ (o : Option ℕ). shown_in (rows_in table block) front ++ cons_option o []) freeze in
    let longer : freezes_in table block (front ++ entry ∷ []) ≡ freezes_in table block front + 1 = ap length freezes ∙ length_push (shown_in (rows_in table block) front) rows in
    record {
      stamps = seals ∙ h.stamps ∙ ap (λ (xs : List ℕ). range_with_len 1 (length xs)) (sym seals);
      low = omega (arith, longer, more, ap length seals);
      high = omega (arith, longer, more, ap length seals);
    }

-- the block of a reply, against one
module _ (start : History) (tables : List TableDecl) (front : List Entry) (entry : Entry) (table block : ℕ) (h : Stamped front table block) where
  -- A seal, of this block or of another, keeps this block's stamps in order.
  sealed-by : (t b g : ℕ) (x y : Bool) → eqb t table ≡ x → eqb b block ≡ y → entry.reply.said ≡ said.Sealed t b g
      → seals_in t b front ≡ freezes_in t b front → g ≡ seals_in t b front + 1 → Stamped (front ++ entry ∷ []) table block
  sealed-by t b g true true is_t is_b is same next =
      let of_t : t ≡ table = eqb-true t table is_t in
      let of_b : b ≡ block = eqb-true b block is_b in
      stamped-sealed front entry table block g h (ap (stamp_in table block) is ∙ (rw (is_t, is_b) refl)) (ap (rows_in table block) is)
      (subst (λ (x : ℕ). seals_in x block front ≡ freezes_in x block front) of_t (subst (λ (x : ℕ). seals_in t x front ≡ freezes_in t x front) of_b same))
      (subst (λ (x : ℕ). g ≡ seals_in x block front + 1) of_t (subst (λ (x : ℕ). g ≡ seals_in t x front + 1) of_b next))
  sealed-by t b g true false is_t is_b is same next = stamped-still front entry table block h (ap (stamp_in table block) is ∙ (rw (is_t, is_b) refl)) (ap (rows_in table block) is)
  sealed-by t b g false y is_t is_b is same next = stamped-still front entry table block h (ap (stamp_in table block) is ∙ (rw is_t refl)) (ap (rows_in table block) is)

  -- A gathering, of this block or of another, keeps this block's stamps in order.
  frozen-by : (t b r : ℕ) (x y : Bool) → eqb t table ≡ x → eqb b block ≡ y → entry.reply.said ≡ said.Frozen t b r
      → seals_in t b front ≡ freezes_in t b front + 1 → Stamped (front ++ entry ∷ []) table block
  frozen-by t b r true true is_t is_b is more =
      let of_t : t ≡ table = eqb-true t table is_t in
      let of_b : b ≡ block = eqb-true b block is_b in
      stamped-frozen front entry table block r h (ap (stamp_in table block) is) (ap (rows_in table block) is ∙ (rw (is_t, is_b) refl))
      (subst (λ (x : ℕ). seals_in x block front ≡ freezes_in x block front + 1) of_t (subst (λ (x : ℕ). seals_in t x front ≡ freezes_in t x front + 1) of_b more))
  frozen-by t b r true false is_t is_b is more = stamped-still front entry table block h (ap (stamp_in table block) is) (ap (rows_in table block) is ∙ (rw (is_t, is_b) refl))
  frozen-by t b r false y is_t is_b is more = stamped-still front entry table block h (ap (stamp_in table block) is) (ap (rows_in table block) is ∙ (rw is_t refl))

  -- One more reply of a timeline keeps the stamps of each block in order.
  stamped-step : (told : Said) → entry.reply.said ≡ told → CountsFrom start tables front entry.command told → Stamped (front ++ entry ∷ []) table block
  stamped-step (said.Sealed t b g) is counts = sealed-by t b g (eqb t table) (eqb b block) refl refl is counts.0 counts.1
  stamped-step (said.Frozen t b r) is counts = frozen-by t b r (eqb t table) (eqb b block) refl refl is counts.0
  stamped-step _ is counts = stamped-still front entry table block h (ap (stamp_in table block) is) (ap (rows_in table block) is)

-- the blocks behind each reply
stamped-from : (start : History) (tables : List TableDecl) (front : List Entry) (machine : IsolationMachine) (rest : List Entry) → ((table block : ℕ) → Stamped front table block) → RunsFrom start tables front machine rest
    → (table block : ℕ) → Stamped (front ++ rest) table block
stamped-from start tables front machine [] h runs table block = subst (λ (es : List Entry). Stamped es table block) (sym (append-nil front)) (h table block)
stamped-from start tables front machine (entry ∷ rest) h runs table block =
    subst (λ (es : List Entry). Stamped es table block) (append_assoc front (entry ∷ []) rest)
    (stamped-from start tables (front ++ entry ∷ []) runs.0 rest (λ t b. stamped-step start tables front entry t b (h t b) entry.reply.said refl runs.2) runs.3 table block)

-- Where replies come about one behind the other, so do the first of them.
runs-front : (start : History) (tables : List TableDecl) (past : List Entry) (machine : IsolationMachine) (front rest : List Entry) → RunsFrom start tables past machine (front ++ rest) → RunsFrom start tables past machine front
runs-front start tables past machine [] rest h = tt
runs-front start tables past machine (entry ∷ front) rest h = (h.0, h.1, h.2, runs-front start tables (past ++ entry ∷ []) h.0 front rest h.3)

-- Before any reply the stamps of each block are in order.
stamped-nothing : (table block : ℕ) → Stamped [] table block
stamped-nothing table block = record { stamps = refl; low = omega arith; high = omega arith }

-- Where a number is above zero, so is each that is no less, told by two tests.
one-by : (m n : ℕ) → m ≤ n → (b c : Bool) → nat_lt 0 m ≡ b → nat_lt 0 n ≡ c → cond b 1 0 ≤ cond c 1 0
one-by m n h true true is is_n = omega arith
one-by m n h true false is is_n =
    let more : 0 < m = grind (arith, nat_tests, is) in
    let none : n ≤ 0 = grind (arith, nat_tests, is_n) in
    absurd (omega (arith, more, none, h))
one-by m n h false c is is_n = omega arith

-- What counts one if a number is above zero counts no less for a greater number.
one-more : (m n : ℕ) → m ≤ n → (b : Bool) → nat_lt 0 m ≡ b → cond (nat_lt 0 m) 1 0 ≤ cond (nat_lt 0 n) 1 0
one-more m n h b is = one-by m n h (nat_lt 0 m) (nat_lt 0 n) refl refl

-- A number stands once in lesser numbers and a range that begins with it.
count-parts : (g a n : ℕ) (below : List ℕ) → a ≡ g → list_all (λ x. nat_lt x g) below ≡ true
    → sum_by (λ x. cond (eqb x g) 1 0) below + sum_by (λ x. cond (eqb x g) 1 0) (range_with_len a (1 + n)) ≡ 1
count-parts g a n below is low =
    let e : 1 + n ≡ suc n = omega arith in
    let first : eqb a g ≡ true = same_number a g is in
    let none : sum_by (λ x. cond (eqb x g) 1 0) below ≡ 0 = count-below g below low in
    let rest : sum_by (λ x. cond (eqb x g) 1 0) (range_with_len (a + 1) n) ≡ 0 = count-above g (range_with_len (a + 1) n) (all-above g (a + 1) n (omega (arith, is))) in
    let split : sum_by (λ x. cond (eqb x g) 1 0) (range_with_len a (1 + n)) ≡ 1 =
    ap (λ (m : ℕ). sum_by (λ x. cond (eqb x g) 1 0) (range_with_len a m)) e ∙ sum_by-cons (λ x. cond (eqb x g) 1 0) a (range_with_len (a + 1) n) ∙ (rw (first, rest) refl) in
    omega (arith, none, split)

-- a number stands once in a range from 1 that reaches it
count-range : (g n : ℕ) → 1 ≤ g → g ≤ n → count_by (λ x. eqb x g) (range_with_len 1 n) ≡ 1
count-range g n least most =
    let e : (g - 1) + (1 + (n - g)) ≡ n = omega (arith, least, most) in
    ap (λ (m : ℕ). count_by (λ x. eqb x g) (range_with_len 1 m)) (sym e)
    ∙ ap (count_by (λ x. eqb x g)) (range-append 1 (g - 1) (1 + (n - g)))
    ∙ sum_by-append (λ x. cond (eqb x g) 1 0) (range_with_len 1 (g - 1)) (range_with_len (1 + (g - 1)) (1 + (n - g)))
    ∙ count-parts g (1 + (g - 1)) (n - g) (range_with_len 1 (g - 1)) (omega (arith, least)) (all-below g 1 (g - 1) (omega (arith, least)))

module _ (start : History) (tables : List TableDecl) (printed timeline : List Entry) (t : TimelineFrom start tables printed timeline) (entry : Entry) (only : Only printed entry)
    (cut : Cut start tables timeline (last start tables printed timeline t) entry) where
  -- The run that is read from the printed replies.
  abbrev the_run : Run
  the_run = run start tables printed timeline t

  -- sums over the replies before it, and over those not after it
  less-before : (f : Entry → ℕ) → sum_by f (before printed entry) ≤ sum_by f cut.front
  less-before f = sum-before printed timeline cut.front entry cut.rest (same-of start tables printed timeline t) cut.whole t.order f

  -- A sum over the replies in front is at most that over those not after.
  more-not_after : (f : Entry → ℕ) → sum_by f cut.front ≤ sum_by f (not_after printed entry)
  more-not_after f = sum-not_after printed timeline cut.front entry cut.rest (same-of start tables printed timeline t) cut.whole t.order f

  -- how many replies show a number
  fewer-shown : (shown : Said → Option ℕ) → length (shown_in shown (before printed entry)) ≤ length (shown_in shown cut.front)
  fewer-shown shown = omega (arith, shown-length shown (before printed entry), shown-length shown cut.front, less-before (λ other. cond (is_some (shown other.reply.said)) 1 0))

  -- The replies in front show at most as many numbers as those not after.
  more-shown : (shown : Said → Option ℕ) → length (shown_in shown cut.front) ≤ length (shown_in shown (not_after printed entry))
  more-shown shown = omega (arith, shown-length shown cut.front, shown-length shown (not_after printed entry), more-not_after (λ other. cond (is_some (shown other.reply.said)) 1 0))

  -- In front of the reply the stamps of each block are in order.
  front-stamped : (table block : ℕ) → Stamped cut.front table block
  front-stamped table block =
      stamped-from start tables [] (opening_from start) cut.front stamped-nothing
      (runs-front start tables [] (opening_from start) cut.front (entry ∷ cut.rest) (subst (RunsFrom start tables [] (opening_from start)) cut.whole t.runs)) table block

  -- In the whole timeline the stamps of each block are in order.
  whole-stamped : (table block : ℕ) → Stamped timeline table block
  whole-stamped table block = stamped-from start tables [] (opening_from start) timeline stamped-nothing t.runs table block

  -- the stamps that are printed
  printed-stamps : (table block stamp : ℕ) → stamp_count table block stamp printed ≡ stamp_count table block stamp timeline
  printed-stamps table block stamp =
      let f : Entry → ℕ = λ other. option_map_or (λ n. cond (eqb n stamp) 1 0) (stamp_in table block other.reply.said) 0 in
      counted (λ n. eqb n stamp) (stamp_in table block) printed ∙ sum_by-IsPermutation f timeline printed (same-of start tables printed timeline t) ∙ sym (counted (λ n. eqb n stamp) (stamp_in table block) timeline)

  -- Each stamp up to the number of a block's seals is printed once.
  once : (table block stamp : ℕ) → 1 ≤ stamp → stamp ≤ seals_in table block timeline → stamp_count table block stamp printed ≡ 1
  once table block stamp least most =
      printed-stamps table block stamp ∙ ap (count_by (λ n. eqb n stamp)) (whole-stamped table block).stamps ∙ count-range stamp (seals_in table block timeline) least most

  -- As many seals of a block are printed as are in the timeline.
  seals-printed : (table block : ℕ) → seals_in table block printed ≡ seals_in table block timeline
  seals-printed table block =
      let f : Entry → ℕ = λ other. cond (is_some (stamp_in table block other.reply.said)) 1 0 in
      shown-length (stamp_in table block) printed ∙ sum_by-IsPermutation f timeline printed (same-of start tables printed timeline t) ∙ sym (shown-length (stamp_in table block) timeline)

  -- The seals of a block are those in front and those from the reply on.
  seals-more : (table block : ℕ) → seals_in table block timeline ≡ seals_in table block cut.front + (length (shown_in (stamp_in table block) (entry ∷ cut.rest)))
  seals-more table block =
      ap (seals_in table block) cut.whole ∙ ap length (filter_map-append (λ other. stamp_in table block other.reply.said) cut.front (entry ∷ cut.rest))
      ∙ length-append (shown_in (stamp_in table block) cut.front) (shown_in (stamp_in table block) (entry ∷ cut.rest))

  -- ---- freezing

  -- Where the block's last seal is not gathered yet, the rule of freezing holds.
  freezing-at : (table block stamp : ℕ) → seals_in table block cut.front ≡ stamp → freezes_in table block cut.front + 1 ≡ stamp → freezing_reply_holds the_run entry (said.Freezing table block stamp) ≡ true
  freezing-at table block stamp seals freezes =
      let least : 1 ≤ stamp = omega (arith, freezes) in
      let most : stamp ≤ seals_in table block timeline = omega (arith, seals, seals-more table block) in
      let f : Entry → ℕ = λ other. option_map_or (λ n. cond (eqb n stamp) 1 0) (stamp_in table block other.reply.said) 0 in
      let in_all : stamp_count table block stamp printed ≡ 1 = once table block stamp least most in
      let in_front : stamp_count table block stamp cut.front ≡ 1 =
      ap (count_by (λ n. eqb n stamp)) (front-stamped table block).stamps ∙ count-range stamp (seals_in table block cut.front) least (omega (arith, seals)) in
      let a : sum_by f cut.front ≤ sum_by f (not_after printed entry) = more-not_after f in
      let b : sum_by f (not_after printed entry) ≤ sum_by f printed = sum-at-most printed timeline cut.front entry cut.rest (same-of start tables printed timeline t) cut.whole t.order f (λ other. is_not_after other entry) in
      let c : stamp_count table block stamp cut.front ≡ sum_by f cut.front = counted (λ n. eqb n stamp) (stamp_in table block) cut.front in
      let d : stamp_count table block stamp (not_after printed entry) ≡ sum_by f (not_after printed entry) = counted (λ n. eqb n stamp) (stamp_in table block) (not_after printed entry) in
      let e : stamp_count table block stamp printed ≡ sum_by f printed = counted (λ n. eqb n stamp) (stamp_in table block) printed in
      let not_later : stamp_count table block stamp (not_after printed entry) ≡ 1 = omega (arith, a, b, c, d, e, in_all, in_front) in
      let fewer : freezes_in table block (before printed entry) ≤ freezes_in table block cut.front = fewer-shown (rows_in table block) in
      let less : nat_lt (freezes_in table block (before printed entry)) stamp ≡ true = grind (arith, nat_tests, fewer, freezes) in
      all-three (eqb (stamp_count table block stamp printed) 1) (eqb (stamp_count table block stamp (not_after printed entry)) 1) (nat_lt (freezes_in table block (before printed entry)) stamp)
      (same_number (stamp_count table block stamp printed) 1 in_all) (same_number (stamp_count table block stamp (not_after printed entry)) 1 not_later) less

  -- The rule of freezing holds of whatever the reply tells at its place.
  freezing-by : (told : Said) → CountsFrom start tables cut.front entry.command told → freezing_reply_holds the_run entry told ≡ true
  freezing-by (said.Freezing table block stamp) counts = freezing-at table block stamp counts.0 counts.1
  freezing-by _ counts = refl

  -- Freezing.
  pub freezing : freezing_holds the_run entry ≡ true
  freezing = freezing-by entry.reply.said cut.counts

  -- ---- full tables

  -- Where a table is found full, enough accepted inserts are not after the reply.
  full-of : (asked : Command) → FindsFull start tables cut.front asked
      → option_map_or (λ table. nat_le (capacity_at tables table) (length (rows_left start table) + inserts_in table (not_after printed entry))) (inserted_table asked) true ≡ true
  full-of (command.Insert table row) counts =
      let f : Entry → ℕ = λ other. cond (is_accepted_insert table other.command other.reply.said) 1 0 in
      let more : sum_by f cut.front ≤ sum_by f (not_after printed entry) = more-not_after f in
      let least : capacity_at tables table ≤ length (rows_left start table) + sum_by f cut.front = counts in
      at_most (capacity_at tables table) (length (rows_left start table) + sum_by f (not_after printed entry)) (omega (arith, least, more))
  full-of _ counts = refl

  -- The rule of full tables holds of whatever the reply tells at its place.
  full-by : (told : Said) → CountsFrom start tables cut.front entry.command told → full_reply_holds the_run entry told ≡ true
  full-by said.Full counts = full-of entry.command counts
  full-by _ counts = refl

  -- Full tables.
  pub full : full_holds the_run entry ≡ true
  full = full-by entry.reply.said cut.counts

  -- ---- exports

  -- No more blocks of a table are frozen in front than not after the reply.
  frozen-more : (table : ℕ) → frozen_blocks tables table cut.front ≤ frozen_blocks tables table (not_after printed entry)
  frozen-more table =
      sum_by-le-sum_by (λ block. cond (nat_lt 0 (freezes_in table block cut.front)) 1 0) (λ block. cond (nat_lt 0 (freezes_in table block (not_after printed entry))) 1 0) (range_with_len 0 (blocks_at tables table))
      (λ block. one-more (freezes_in table block cut.front) (freezes_in table block (not_after printed entry)) (more-shown (rows_in table block)) (nat_lt 0 (freezes_in table block cut.front)) refl)

  -- the condition of a command in a transaction
  abbrev export_by : Span → Command → Bool
  export_by u asked = option_map_or (λ table. export_reply_holds the_run u entry table entry.reply.said) (exported_table asked) true

  module _ (o : Transaction) (at : open_of entry.reply.who cut.machine ≡ Some o) (within : Within entry.reply.who (thread entry.reply.who cut.front) o) where
    abbrev its : Span
    its = belongs start tables printed timeline t entry only cut o within

    own-is : writes_in (before its.replies entry) ≡ o.own
    own-is = ap writes_in (before-is start tables printed timeline t entry only cut o within) ∙ within.writes_are

    summary-at : (table number rows batches frozen : ℕ) → Exports tables cut.front cut.machine o table number rows batches frozen → summary_holds the_run its entry table number rows batches frozen ≡ true
    summary-at table number rows batches frozen h =
        let bound : number ≤ length (cut.machine).history = omega (arith, h.snapshot, bound-is start tables printed timeline t entry only cut o at) in
        let rows_are : rows ≡ length (contents_of table (state_at (the_run).history number)) =
        h.rows_are ∙ ap (λ (n : ℕ). length (contents_of table (state_at (cut.machine).history n))) (sym h.snapshot) ∙ ap (λ (s : State). length (contents_of table s)) (sym (state-is start tables printed timeline t entry only cut number bound)) in
        let a : frozen ≤ batches = h.images in
        let b : batches ≤ rows = h.some_rows in
        let c : rows ≤ batches * slots_at tables table = h.full_blocks in
        let d : batches ≤ blocks_at tables table = h.blocks in
        let e : frozen ≤ frozen_blocks tables table cut.front = h.were_frozen in
        all-seven (eqb number o.snapshot) (eqb rows (length (contents_of table (state_at (the_run).history number)))) (nat_le frozen batches) (nat_le batches rows) (nat_le rows (batches * slots_at tables table))
        (nat_le batches (blocks_at tables table)) (nat_le frozen (frozen_blocks tables table (not_after printed entry)))
        (same_number number o.snapshot h.snapshot) (same_number rows (length (contents_of table (state_at (the_run).history number))) rows_are)
        (at_most frozen batches a) (at_most batches rows b) (at_most rows (batches * slots_at tables table) c) (at_most batches (blocks_at tables table) d)
        (at_most frozen (frozen_blocks tables table (not_after printed entry)) (le_trans e (frozen-more table)))

    export-told : (table : ℕ) (told : Said) → ExportsWithin tables cut.front cut.machine o table told → export_reply_holds the_run its entry table told ≡ true
    export-told table (said.Exported number rows batches frozen) h =
        and_from (is_none (least_key table (writes_in (before its.replies entry)))) (summary_holds the_run its entry table number rows batches frozen)
        (ap (λ (own : WriteSet). is_none (least_key table own)) own-is ∙ ap is_none h.clean) (summary-at table number rows batches frozen h)
    export-told table (said.Dirty key) h =
        ap (λ (own : WriteSet). option_map_or (int_eq key) (least_key table own) false) own-is ∙ ap (λ (found : Option ℤ). option_map_or (int_eq key) found false) h ∙ int_eq_equiv.refl key
    export-told table said.Memory h = refl
    export-told table _ h = absurd h

    export-takes : (who : Who) (asked : Command) → open_of who cut.machine ≡ Some o → entry.reply.who ≡ who → entry.command ≡ asked → TakesAs tables cut.front cut.machine entry cut.after (request_of who asked)
        → export_by its asked ≡ true
    export-takes (Worker worker) asked is_open is_who is_asked h = absurd (let never : ⊥ = cc in never)
    export-takes (Session session) (command.Export table) is_open is_who is_asked h =
        let aside : Aside tables cut.front cut.machine entry.reply.who (command.Export table) entry.reply.said = subst (λ (c : Command). Aside tables cut.front cut.machine entry.reply.who c entry.reply.said) is_asked h.0 in
        export-told table entry.reply.said (subst (λ (found : Option Transaction). ExportsBy tables cut.front cut.machine found table entry.reply.said) at aside)
    export-takes (Session session) _ is_open is_who is_asked h = refl

  -- Exports.
  pub exports : exports_hold the_run entry ≡ true
  exports =
      by-transaction start tables printed timeline t entry only cut (λ u. export_by u entry.command)
      (λ o at within. export-takes o at within entry.reply.who entry.command at refl refl cut.takes)
      (λ u checked is_asked is. ap (λ (asked : Command). export_by u asked) is_asked)
      (open_of entry.reply.who cut.machine) refl cut.change

  -- ---- upkeep

  -- A seal with the next stamp of an unsealed block keeps the rule of seals.
  seal-at : (table block stamp : ℕ) → entry.reply.said ≡ said.Sealed table block stamp → seals_in table block cut.front ≡ freezes_in table block cut.front → stamp ≡ seals_in table block cut.front + 1
      → seal_holds the_run entry table block stamp ≡ true
  seal-at table block stamp is same next =
      let here : stamp_in table block entry.reply.said ≡ Some stamp = ap (stamp_in table block) is ∙ (rw (same_number table table refl, same_number block block refl) refl) in
      let longer : length (shown_in (stamp_in table block) (entry ∷ cut.rest)) ≡ 1 + length (shown_in (stamp_in table block) cut.rest) =
      ap (λ (o : Option ℕ). length (cons_option o (shown_in (stamp_in table block) cut.rest))) here ∙ (let e : length (stamp ∷ shown_in (stamp_in table block) cut.rest) ≡ 1 + length (shown_in (stamp_in table block) cut.rest) = omega arith in e) in
      let least : 1 ≤ stamp = omega (arith, next) in
      let most : stamp ≤ seals_in table block timeline = omega (arith, next, seals-more table block, longer) in
      let low : list_all (λ n. nat_lt n stamp) (shown_in (stamp_in table block) cut.front) ≡ true = rw (front-stamped table block).stamps (all-below stamp 1 (seals_in table block cut.front) (omega (arith, next))) in
      all-four (nat_le 1 stamp) (nat_le stamp (seals_in table block printed)) (eqb (stamp_count table block stamp printed) 1) (list_all (λ earlier. nat_lt earlier stamp) (shown_in (stamp_in table block) (before printed entry)))
      (at_most 1 stamp least) (at_most stamp (seals_in table block printed) (omega (arith, most, seals-printed table block)))
      (same_number (stamp_count table block stamp printed) 1 (once table block stamp least most))
      (shown-filter (λ n. nat_lt n stamp) (stamp_in table block) (λ other. is_before other entry) printed
      (before-each printed timeline cut.front entry cut.rest t.threads cut.whole t.order (λ other. shows_only (λ n. nat_lt n stamp) (stamp_in table block) other ≡ true) (shown-each (λ n. nat_lt n stamp) (stamp_in table block) cut.front low)))

  -- A gathering of a sealed block, with rows within its slots, keeps its rule.
  freeze-at : (table block rows : ℕ) → seals_in table block cut.front ≡ freezes_in table block cut.front + 1 → 1 ≤ rows → rows ≤ slots_at tables table → freeze_holds the_run entry table block rows ≡ true
  freeze-at table block rows more least most =
      let a : freezes_in table block (before printed entry) ≤ freezes_in table block cut.front = fewer-shown (rows_in table block) in
      let b : seals_in table block cut.front ≤ seals_in table block (not_after printed entry) = more-shown (stamp_in table block) in
      all-three (nat_le 1 rows) (nat_le rows (slots_at tables table)) (nat_le (1 + freezes_in table block (before printed entry)) (seals_in table block (not_after printed entry)))
      (at_most 1 rows least) (at_most rows (slots_at tables table) most)
      (at_most (1 + freezes_in table block (before printed entry)) (seals_in table block (not_after printed entry)) (omega (arith, a, b, more)))

  -- Of a block found unsealed, no more seals are before than gatherings not after.
  idle-of : (asked : Command) → FindsUnsealed cut.front asked
      → option_map_or (λ block. nat_le (seals_in block.0 block.1 (before printed entry)) (freezes_in block.0 block.1 (not_after printed entry))) (gathered_block asked) true ≡ true
  idle-of (command.Gather table block) same =
      let a : seals_in table block (before printed entry) ≤ seals_in table block cut.front = fewer-shown (stamp_in table block) in
      let b : freezes_in table block cut.front ≤ freezes_in table block (not_after printed entry) = more-shown (rows_in table block) in
      let e : seals_in table block cut.front ≡ freezes_in table block cut.front = same in
      at_most (seals_in table block (before printed entry)) (freezes_in table block (not_after printed entry)) (omega (arith, a, b, e))
  idle-of _ same = refl

  -- A pruning within the writes and moves in front keeps its rule.
  prune-at : (count : ℕ) → count + sum (shown_in pruned_in cut.front) ≤ writes_committed_in cut.front + 2 * sum (shown_in moved_in cut.front)
      → writes_committed_in cut.front ≤ writes_committed_in (not_after printed entry) → prune_holds the_run entry count ≡ true
  prune-at count h committed =
      let a : sum (shown_in pruned_in (before printed entry)) ≤ sum (shown_in pruned_in cut.front) = omega (arith, summed pruned_in (before printed entry), summed pruned_in cut.front, less-before (λ other. unwrap_or (pruned_in other.reply.said) 0)) in
      let b : sum (shown_in moved_in cut.front) ≤ sum (shown_in moved_in (not_after printed entry)) = omega (arith, summed moved_in cut.front, summed moved_in (not_after printed entry), more-not_after (λ other. unwrap_or (moved_in other.reply.said) 0)) in
      let all : count + sum (shown_in pruned_in (before printed entry)) ≤ writes_committed_in (not_after printed entry) + 2 * sum (shown_in moved_in (not_after printed entry)) = omega (arith, a, b, h, committed) in
      at_most (count + sum (shown_in pruned_in (before printed entry))) (writes_committed_in (not_after printed entry) + 2 * sum (shown_in moved_in (not_after printed entry))) all

  -- The rules of upkeep hold of whatever the reply tells at its place.
  upkeep-by : writes_committed_in cut.front ≤ writes_committed_in (not_after printed entry)
      → (told : Said) → entry.reply.said ≡ told → CountsFrom start tables cut.front entry.command told → upkeep_reply_holds the_run entry told ≡ true
  upkeep-by committed (said.Sealed table block stamp) is counts = seal-at table block stamp is counts.0 counts.1
  upkeep-by committed (said.Frozen table block rows) is counts = freeze-at table block rows counts.0 counts.1 counts.2
  upkeep-by committed said.NotFrozen is counts = idle-of entry.command counts
  upkeep-by committed (said.Moved count) is counts = at_most count most_moved counts
  upkeep-by committed (said.Pruned count) is counts = prune-at count counts committed
  upkeep-by committed _ is counts = refl

  -- Upkeep.
  pub upkeep : upkeep_holds the_run entry ≡ true
  upkeep = upkeep-by (committed-in_front start tables printed timeline t entry only cut) entry.reply.said refl cut.counts
