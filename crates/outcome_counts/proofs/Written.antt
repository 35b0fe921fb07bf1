-- The writes of a transaction, counted.
use Rattle.std.proofs.Common.{◌≡◌, ℕ, ◌+◌, ◌-◌, ◌<◌, ◌≤◌, ◌⊎◌, inl, inr, min, zero, suc, Bool, true, false, cond, ◌&&◌, ◌||◌, List, [], ◌∷◌, ◌++◌, length, take, drop, nat_lt, Option, None, Some, refl, sym, ap, ◌∙◌, arith}
use Rattle.std.specs.List.{count_by, filter, list_any}
use Rattle.std.specs.Option.{option_map_or}
use Rattle.std.specs.Ordering.{nat_cmp}
use Rattle.std.specs.Prelude.{is_some, option_map, option_and_then, if◌then◌else◌, ◌==◌, slice_index_or, slice_get, unwrap_or}
use Rattle.std.proofs.lemmas.Bool.{cases_lt}
use Rattle.std.proofs.lemmas.Bool.Decides.{nat_tests}
use Rattle.std.proofs.lemmas.List.{take_min, drop_all, length-append, get_or_default}
use Rattle.workload_spec.specs.declared.reply.Who.{Who}
use Rattle.workload_spec.specs.declared.reply.Who.TheVariants.{Session, Worker}
use Rattle.outcome_spec.specs.Entries.{Entry, is_same, thread, snapshot_in}
use Rattle.outcome_spec.specs.Forms.{is_worker}
use Rattle.outcome_spec.specs.Runs.{Span, span_from, accepted_write, ending_of}
use Rattle.order_laws.specs.Opened.{OpensOutside}
use Rattle.order_laws.specs.Places.{between}
use Rattle.order_laws.proofs.Pieces.{count-cons, count-append, cut-between}
use Rattle.mark_index.specs.Marks.{AreCounted, count_below}
use Rattle.outcome_counts.specs.Keys.{is_keyed}
use Rattle.outcome_counts.proofs.Counts.{count-agree}
use Rattle.outcome_counts.proofs.Keyed.{nat-same}
use Rattle.timeline_laws.proofs.Tests.{and-true, and-false}
use Rattle.outcome_counts.specs.Ends.{next_end}
use Rattle.outcome_spec.specs.Runs.{transactions_of, transaction_with}
use Rattle.output_read.specs.Kept.{entries_of}
use Rattle.output_read.specs.declared.kept.KeptReply.{KeptReply}
use Rattle.outcome_counts.specs.Asked.{asked_at}
use Rattle.outcome_counts.proofs.Starts.{kept-at}
use Rattle.outcome_counts.specs.Openings.{opened_at, opened_by, opening_of, AreOpenings}
use Rattle.outcome_counts.specs.Written.{is_write, session_of, is_write_by, writes_of}
use Rattle.outcome_counts.proofs.Ended.{span-replies, span-ending}
use Rattle.outcome_counts.proofs.Held.{opened-there}

-- ---- counts

-- Some element passes with one more in front, where more than none are counted with it.
any-step : {X : Type 0} (p : X → Bool) (x : X) (xs : List X) (b : Bool) → list_any p xs ≡ nat_lt 0 (count_by p xs) → (b || list_any p xs) ≡ nat_lt 0 (cond b 1 0 + count_by p xs)
any-step p x xs true h = let e : nat_lt 0 (1 + count_by p xs) ≡ true = grind (arith, nat_tests) in sym e
any-step p x xs false h = h ∙ (let e : 0 + count_by p xs ≡ count_by p xs = omega arith in ap (nat_lt 0) (sym e))

-- some element passes where more than none are counted
pub any-counted : {X : Type 0} (p : X → Bool) (xs : List X) → list_any p xs ≡ nat_lt 0 (count_by p xs)
any-counted p [] = refl
any-counted p (x ∷ xs) = any-step p x xs (p x) (any-counted p xs) ∙ ap (nat_lt 0) (sym (count-cons p x xs))

-- One element more is counted among those kept where it passes both tests.
filter-step : {X : Type 0} (p q : X → Bool) (x : X) (xs : List X) (b : Bool) → q x ≡ b → count_by p (filter q xs) ≡ count_by (λ y. q y && p y) xs
    → count_by p (cond b (x ∷ filter q xs) (filter q xs)) ≡ cond (b && p x) 1 0 + count_by (λ y. q y && p y) xs
filter-step p q x xs true is h = count-cons p x (filter q xs) ∙ ap (λ (n : ℕ). cond (p x) 1 0 + n) h
filter-step p q x xs false is h = h ∙ (let e : 0 + count_by (λ y. q y && p y) xs ≡ count_by (λ y. q y && p y) xs = omega arith in sym e)

-- of those that a filter keeps are counted those that pass both
pub count-filter : {X : Type 0} (p q : X → Bool) (xs : List X) → count_by p (filter q xs) ≡ count_by (λ x. q x && p x) xs
count-filter p q [] = refl
count-filter p q (x ∷ xs) = filter-step p q x xs (q x) refl (count-filter p q xs) ∙ sym (count-cons (λ y. q y && p y) x xs)

-- the places counted below one are those below an earlier, and those between
pub counted-between : {X : Type 0} (test : X → Bool) (xs : List X) (taken : ℕ) (places : List ℕ) → AreCounted test xs taken places → (from to : ℕ) → from ≤ to → to ≤ taken
    → count_below to places ≡ count_below from places + count_by test (drop from (take to xs))
counted-between test xs taken places counted from to h k =
    counted.count to k ∙ ap (count_by test) (cut-between from to xs h) ∙ count-append test (take from xs) (drop from (take to xs))
    ∙ ap (λ (n : ℕ). n + count_by test (drop from (take to xs))) (sym (counted.count from (omega (arith, h, k))))

-- ---- whose writes

-- A reply is a write of a session's where it accepts one and is to that session.
by-write : (who : Who) (k : ℕ) (w : Bool) → is_keyed nat_cmp k (if w then session_of who else None) ≡ (is_same who (Session k) && w)
by-write (Session n) k true = nat-same n k ∙ sym (and-true (n == k))
by-write (Session n) k false = sym (and-false (n == k))
by-write (Worker n) k true = refl
by-write (Worker n) k false = refl

-- a session's writes are those of its thread
pub writes-by : (k : ℕ) (entries : List Entry) → count_by is_write (thread (Session k) entries) ≡ count_by (is_write_by k) entries
writes-by k entries =
    count-filter is_write (λ e. is_same e.reply.who (Session k)) entries
    ∙ count-agree (λ e. is_same e.reply.who (Session k) && is_write e) (is_write_by k) (λ e. sym (by-write e.reply.who k (is_write e))) entries

-- ---- the transaction that a reply opens

-- What a mapped option holds is the image of what the option holds.
some-mapped : {A B : Type 0} (f : A → B) (o : Option A) (b : B) → option_map f o ≡ Some b → (a : A) × (o ≡ Some a) × (f a ≡ b)
some-mapped f None b h = absurd (let never : ⊥ = cc in never)
some-mapped f (Some a) b h = (a, refl, (let e : f a ≡ b = cc in e))

-- From one who is neither a session nor a worker anything follows.
worker-not : {P : Type 0} (who : Who) → ((k : ℕ) → who ≡ Session k → ⊥) → is_worker who ≡ false → P
worker-not (Session n) never h = absurd (never n refl)
worker-not (Worker n) never h = absurd (let impossible : ⊥ = cc in impossible)

module _ (entries front : List Entry) (entry : Entry) (rest : List Entry) (whole : entries ≡ front ++ entry ∷ rest) (outside : OpensOutside entries) (t : Span)
    (opened : opened_at (length front) entries ≡ Some t) where
  -- The reply that opens the transaction shows a snapshot, and the transaction begins there with
  -- it.
  shown : (n : ℕ) × (snapshot_in entry.reply.said ≡ Some n) × (span_from entry rest n ≡ t)
  shown = some-mapped (span_from entry rest) (snapshot_in entry.reply.said) t (sym (opened-there entries front entry rest (length front) whole refl) ∙ opened)

  -- a transaction is opened by a session
  pub opens-session : is_worker entry.reply.who ≡ false
  opens-session = (outside front entry rest whole (ap is_some shown.1)).1

  -- and not by a worker
  pub opens-not-worker : {P : Type 0} → ((k : ℕ) → entry.reply.who ≡ Session k → ⊥) → P
  opens-not-worker never = worker-not entry.reply.who never opens-session

  -- the snapshot that is told at the opening is the transaction's
  pub snapshot-is : unwrap_or (snapshot_in entry.reply.said) 0 ≡ t.snapshot
  snapshot-is = ap (λ (o : Option ℕ). unwrap_or o 0) shown.1 ∙ ap (λ (u : Span). u.snapshot) shown.2

  -- the transaction ends with the reply at its end's place, or has no end
  pub ending-is : (end : ℕ) → end ≡ length front + next_end entry.reply.who (entry ∷ rest) → ending_of t ≡ slice_get entries end
  ending-is end is = ap ending_of (sym shown.2) ∙ span-ending entries front entry rest shown.0 whole ∙ ap (slice_get entries) (sym is)

  -- what it wrote, by the places of its session's writes
  pub writes-counted : (k taken end from : ℕ) (places : List ℕ) → entry.reply.who ≡ Session k → length entries ≡ taken → length front ≡ from
      → end ≡ length front + next_end entry.reply.who (entry ∷ rest) → AreCounted (is_write_by k) entries taken places
      → count_below (min (end + 1) taken) places - count_below from places ≡ writes_of t
  writes-counted k taken end from places is long at ends counted =
      let inside = length-append front (entry ∷ rest) in
      let w = ap length whole in
      let split = counted-between (is_write_by k) entries taken places counted (length front) (min (end + 1) taken) (omega (arith, inside, w, long, ends)) (omega arith) in
      let cut : drop (length front) (take (min (end + 1) taken) entries) ≡ between (length front) (end + 1) entries =
      ap (λ (n : ℕ). drop (length front) (take (min (end + 1) n) entries)) (sym long) ∙ ap (drop (length front)) (take_min (end + 1) entries) in
      let replies : t.replies ≡ thread (Session k) (between (length front) (end + 1) entries) =
      ap (λ (u : Span). u.replies) (sym shown.2) ∙ span-replies entries front entry rest shown.0 whole
      ∙ ap (λ (n : ℕ). thread entry.reply.who (between (length front) (n + 1) entries)) (sym ends)
      ∙ ap (λ (who : Who). thread who (between (length front) (end + 1) entries)) is in
      let its : writes_of t ≡ count_by (is_write_by k) (drop (length front) (take (min (end + 1) taken) entries)) =
      ap (count_by is_write) replies ∙ writes-by k (between (length front) (end + 1) entries) ∙ ap (count_by (is_write_by k)) (sym cut) in
      let here = ap (λ (n : ℕ). count_below n places) at in
      omega (arith, split, its, here)

-- ---- what is there

-- the place at which a transaction is opened is one of a reply
pub opened-inside : (entries : List Entry) (place : ℕ) → is_some (opened_at place entries) ≡ true → place < length entries
opened-inside entries place h = by (cases_lt place (length entries))
  where
    by : (place < length entries) ⊎ (length entries ≤ place) → place < length entries
    by (inl low) = low
    by (inr high) =
        let e : is_some (opened_at place entries) ≡ false = ap (λ (es : List Entry). is_some (opened_by es)) (drop_all place entries high) in
        absurd (let f : true ≡ false = sym h ∙ e in let never : ⊥ = cc in never)

-- a write of the transaction that is found, by their count
pub written-by : (o : Option Span) (n : ℕ) → is_some o ≡ true → ((t : Span) → o ≡ Some t → n ≡ writes_of t)
    → nat_lt 0 n ≡ option_map_or (λ t. list_any (λ other. is_some (accepted_write other)) t.replies) o false
written-by None n h counted = absurd (let never : ⊥ = cc in never)
written-by (Some t) n h counted = ap (nat_lt 0) (counted t refl) ∙ sym (any-counted is_write t.replies)

-- the transaction of the reply that is judged
pub transaction-asked : (replies : List KeptReply) (openings : List (Option ℕ)) → AreOpenings (entries_of replies) openings → (at : ℕ) → at < length replies → (none : KeptReply)
    → transaction_with (transactions_of (entries_of replies)) (asked_at replies at none) ≡ option_and_then (λ place. opened_at place (entries_of replies)) (opening_of openings at)
transaction-asked replies openings opened at inside none =
    let its = kept-at replies at (slice_index_or replies at none) inside (get_or_default replies at none (slice_index_or replies at none) inside) in
    opened.own its.front (asked_at replies at none) its.rest its.whole ∙ ap (λ (n : ℕ). option_and_then (λ place. opened_at place (entries_of replies)) (opening_of openings n)) its.far

-- what is read of the openings is what they say
pub got-opening : (openings : List (Option ℕ)) (at : ℕ) (o : Option ℕ) → at < length openings → o ≡ slice_index_or openings at o → opening_of openings at ≡ o
got-opening [] at o h is = absurd (omega (arith, h))
got-opening (x ∷ openings) zero o h is = sym is
got-opening (x ∷ openings) (suc at) o h is = got-opening openings at o (omega (arith, h)) is

-- the writes of the transaction that is found
pub writes-found : (o : Option Span) (n : ℕ) → is_some o ≡ true → ((t : Span) → o ≡ Some t → n ≡ writes_of t) → n ≡ option_map_or writes_of o 0
writes-found None n h counted = absurd (let never : ⊥ = cc in never)
writes-found (Some t) n h counted = counted t refl
