-- The writes of the transactions that commit among replies, by their commits.
use Rattle.std.proofs.Common.{◌≡◌, ℕ, ◌+◌, ◌≤◌, zero, suc, Bool, true, false, cond, ◌||◌, not, List, [], ◌∷◌, ◌++◌, length, take, drop, eqb, Option, None, Some, refl, sym, ap, ◌∙◌, subst, arith, append_assoc, append-nil}
use Rattle.std.specs.List.{filter, filter_map, cons_option, find, list_all, list_any, sum_by, count_by}
use Rattle.std.specs.Option.{option_map_or}
use Rattle.std.specs.Prelude.{is_some, option_map, slice_index_or, if◌then◌else◌}
use Rattle.std.proofs.lemmas.Bool.{and_parts, not-true, or_parts}
use Rattle.std.proofs.lemmas.List.{take-append-drop, get_or_default}
use Rattle.std.proofs.lemmas.List.Elements.{filter-append}
use Rattle.std.proofs.lemmas.List.Filters.{sum_by-filter_both}
use Rattle.std.proofs.lemmas.List.Sums.{sum_by-cons, sum_by-append, length-filter, count_by-le-length}
use Rattle.workload_spec.specs.declared.reply.Who.{Who}
use Rattle.workload_spec.specs.declared.reply.Said.{Said}
use Rattle.workload_spec.specs.declared.reply.Said.TheVariants as said
use Rattle.outcome_spec.specs.Entries.{Entry, is_same, not_after, thread, snapshot_in, is_end, is_commit}
use Rattle.outcome_spec.specs.Runs.{Span, up_to_end, transactions_of, transaction_with, accepted_write, writes_committed, writes_committed_in}
use Rattle.outcome_spec.specs.Forms.{is_within}
use Rattle.order_laws.specs.Opened.{OpensOutside}
use Rattle.order_laws.specs.Places.{Rises, between, own_end, round_end}
use Rattle.order_laws.specs.Sides.{is_own, is_beside}
use Rattle.order_laws.proofs.Order.{keep-none}
use Rattle.order_laws.proofs.Places.{by-places, behind-places}
use Rattle.order_laws.proofs.Pieces.{count-cons, cut-between}
use Rattle.outcome_counts.proofs.Counts.{InOrder, in-order}
use Rattle.timeline_laws.proofs.Order.{same-is, same-itself}
use Rattle.timeline_laws.proofs.Spans.{span, spans, spans-is, Past}
use Rattle.timeline_laws.proofs.Belongs.{At, found-open, found-none}
use Rattle.output_read.specs.Kept.{entries_of}
use Rattle.output_read.specs.declared.kept.KeptReply.{KeptReply}
use Rattle.outcome_counts.specs.Asked.{IsAsked, asked_at}
use Rattle.outcome_counts.specs.declared.stretch.Stretch.{Stretch}
use Rattle.outcome_counts.proofs.Starts.{kept-at}
use Rattle.outcome_counts.specs.Written.{writes_of, is_write}
use Rattle.outcome_counts.specs.Weights.{committed_by}
use Rattle.outcome_counts.proofs.Ordered.{at-rising}
use Rattle.outcome_counts.proofs.Held.{Standing, standing-nil, standing-other, standing-own, thread-own, thread-other, opens-not-end}

-- ---- sums that are equal for each session or worker

module _ {X : Type 0} (key : X → Who) where
  -- An element is of this session or worker.
  abbrev own : Who → X → Bool
  own who x = is_same (key x) who

  -- An element is of another session or worker.
  abbrev others : Who → X → Bool
  others who x = not (is_same (key x) who)

  -- With one element more that is kept only if another's, still none is one's own.
  none-step : (w who : Who) (x : X) (kept : List X) → is_same who w ≡ true → (b : Bool) → is_same (key x) w ≡ b → filter (own who) kept ≡ []
      → filter (own who) (cond (not b) (x ∷ kept) kept) ≡ []
  none-step w who x kept same true is rest = rest
  none-step w who x kept same false is rest =
      let apart : is_same (key x) who ≡ false = ap (is_same (key x)) (same-is who w same) ∙ is in
      rw apart rest

  -- Among the elements of others none is one's own.
  none-left : (w who : Who) → is_same who w ≡ true → (xs : List X) → filter (own who) (filter (others w) xs) ≡ []
  none-left w who same [] = refl
  none-left w who same (x ∷ xs) = none-step w who x (filter (others w) xs) same (is_same (key x) w) refl (none-left w who same xs)

  -- With one element more, taking out another's still leaves all of one's own.
  all-step : (w who : Who) (x : X) (kept all : List X) → is_same who w ≡ false → (a b : Bool) → is_same (key x) who ≡ a → is_same (key x) w ≡ b → filter (own who) kept ≡ filter (own who) all
      → filter (own who) (cond (not b) (x ∷ kept) kept) ≡ cond a (x ∷ filter (own who) all) (filter (own who) all)
  all-step w who x kept all apart true true is_a is_b rest =
      absurd (let e : is_same who w ≡ true = ap (λ (v : Who). is_same v w) (sym (same-is (key x) who is_a)) ∙ is_b in let f : true ≡ false = sym e ∙ apart in let never : ⊥ = cc in never)
  all-step w who x kept all apart false true is_a is_b rest = rest
  all-step w who x kept all apart true false is_a is_b rest = rw is_a (ap (λ ys. x ∷ ys) rest)
  all-step w who x kept all apart false false is_a is_b rest = rw is_a rest

  -- Taking out another's elements leaves all of one's own.
  all-left : (w who : Who) → is_same who w ≡ false → (xs : List X) → filter (own who) (filter (others w) xs) ≡ filter (own who) xs
  all-left w who apart [] = refl
  all-left w who apart (x ∷ xs) = all-step w who x (filter (others w) xs) xs apart (is_same (key x) who) (is_same (key x) w) refl refl (all-left w who apart xs)

  -- The elements of others are no more than all.
  fewer : (w : Who) (xs : List X) → length (filter (others w) xs) ≤ length xs
  fewer w xs = let a = length-filter (others w) xs in let b = count_by-le-length (others w) xs in omega (arith, a, b)

  -- Taking out the elements of the first one's session or worker drops the first.
  drops : (x : X) (xs : List X) → filter (others (key x)) (x ∷ xs) ≡ filter (others (key x)) xs
  drops x xs = ap (λ (b : Bool). cond (not b) (x ∷ filter (others (key x)) xs) (filter (others (key x)) xs)) (same-itself (key x))

  -- The sum over one's own and the sum over the others' make the sum over all.
  parted : (f : X → ℕ) (w : Who) (xs : List X) → sum_by f (filter (own w) xs) + sum_by f (filter (others w) xs) ≡ sum_by f xs
  parted f w xs = sum_by-filter_both (own w) (others w) (λ x. refl) f xs

module _ {X Y : Type 0} (kx : X → Who) (ky : Y → Who) (f : X → ℕ) (g : Y → ℕ) where
  -- The sums of two lists are equal for each session or worker.
  abbrev Agrees : List X → List Y → Type 0
  Agrees xs ys = (who : Who) → sum_by f (filter (λ x. is_same (kx x) who) xs) ≡ sum_by g (filter (λ y. is_same (ky y) who) ys)

  -- Where two lists agree for each one, they do without one of them.
  others-agree : (w : Who) (xs : List X) (ys : List Y) → Agrees xs ys → (who : Who) (b : Bool) → is_same who w ≡ b
      → sum_by f (filter (λ x. is_same (kx x) who) (filter (λ x. not (is_same (kx x) w)) xs)) ≡ sum_by g (filter (λ y. is_same (ky y) who) (filter (λ y. not (is_same (ky y) w)) ys))
  others-agree w xs ys h who true is = ap (sum_by f) (none-left kx w who is xs) ∙ sym (ap (sum_by g) (none-left ky w who is ys))
  others-agree w xs ys h who false is = ap (sum_by f) (all-left kx w who is xs) ∙ h who ∙ sym (ap (sum_by g) (all-left ky w who is ys))

  -- Where two lists agree for one, and in sum for the others, their sums are equal.
  by-own : (w : Who) (xs : List X) (ys : List Y) → Agrees xs ys
      → sum_by f (filter (λ x. not (is_same (kx x) w)) xs) ≡ sum_by g (filter (λ y. not (is_same (ky y) w)) ys) → sum_by f xs ≡ sum_by g ys
  by-own w xs ys h rest =
      let a = parted kx f w xs in
      let b = parted ky g w ys in
      let c = h w in
      omega (arith, a, b, c, rest)

  -- Sums are equal where they are for each session or worker.
  pub equal-by-who : (fuel : ℕ) (xs : List X) (ys : List Y) → length xs + length ys ≤ fuel → Agrees xs ys → sum_by f xs ≡ sum_by g ys
  equal-by-who fuel [] [] short h = refl
  equal-by-who zero (x ∷ xs) ys short h = absurd (omega (arith, short))
  equal-by-who zero [] (y ∷ ys) short h = absurd (omega (arith, short))
  equal-by-who (suc fuel) (x ∷ xs) ys short h =
      let w = kx x in
      let a = ap length (drops kx x xs) in
      let b = fewer kx w xs in
      let c = fewer ky w ys in
      by-own w (x ∷ xs) ys h
      (equal-by-who fuel (filter (λ x. not (is_same (kx x) w)) (x ∷ xs)) (filter (λ y. not (is_same (ky y) w)) ys) (omega (arith, short, a, b, c)) (λ who. others-agree w (x ∷ xs) ys h who (is_same who w) refl))
  equal-by-who (suc fuel) [] (y ∷ ys) short h =
      let w = ky y in
      let a = ap length (drops ky y ys) in
      let b = fewer ky w ys in
      by-own w [] (y ∷ ys) h
      (equal-by-who fuel [] (filter (λ y. not (is_same (ky y) w)) (y ∷ ys)) (omega (arith, short, a, b)) (λ who. others-agree w [] (y ∷ ys) h who (is_same who w) refl))

-- ---- what is said

-- What does not end a transaction does not commit it.
commit-ends : (told : Said) → is_end told ≡ false → is_commit told ≡ false
commit-ends (said.Committed number) h = h
commit-ends _ h = refl

-- What shows a snapshot does not commit.
opens-no-commit : (told : Said) (n : ℕ) → snapshot_in told ≡ Some n → is_commit told ≡ false
opens-no-commit (said.At number) n h = refl
opens-no-commit (said.Committed number) n h = absurd (let never : ⊥ = cc in never)
opens-no-commit _ n h = refl

-- One option more adds one to the length where it holds something, else nothing.
mapped-step : {X Y : Type 0} (f : X → Option Y) (o : Option Y) (others : List Y) → length (cons_option o others) ≡ cond (is_some o) 1 0 + length others
mapped-step f None others = omega arith
mapped-step f (Some y) others = omega arith

-- As many results are kept as there are elements that give one.
mapped-count : {X Y : Type 0} (f : X → Option Y) (xs : List X) → length (filter_map f xs) ≡ count_by (λ x. is_some (f x)) xs
mapped-count f [] = refl
mapped-count f (x ∷ xs) =
    mapped-step f (f x) (filter_map f xs) ∙ ap (λ (n : ℕ). cond (is_some (f x)) 1 0 + n) (mapped-count f xs) ∙ sym (count-cons (λ y. is_some (f y)) x xs)

-- ---- one more reply

-- Where no element passes, none is found.
none-found : {X : Type 0} (p : X → Bool) (xs : List X) → list_any p xs ≡ false → find p xs ≡ None
none-found p [] h = refl
none-found p (x ∷ xs) h = let parts = or_parts (p x) (list_any p xs) h in rw parts.0 (none-found p xs parts.1)

-- Where none in front passes, the last element is found if it passes.
found-last : {X : Type 0} (p : X → Bool) (xs : List X) (x : X) → list_any p xs ≡ false → find p (xs ++ x ∷ []) ≡ cond (p x) (Some x) None
found-last p [] x h = refl
found-last p (y ∷ xs) x h = let parts = or_parts (p y) (list_any p xs) h in rw parts.0 (found-last p xs x parts.1)

-- The reply ends a transaction.
abbrev ends : Entry → Bool
ends e = is_end e.reply.said

-- what a transaction has committed where none of its replies ends it, and where the last does
open-none : (who : Who) (n : ℕ) (replies : List Entry) → list_any ends replies ≡ false → writes_committed (span who n replies) ≡ 0
open-none who n replies h =
    ap (λ (o : Option Entry). if option_map_or (λ ending. is_commit ending.reply.said) o false then length (filter_map accepted_write replies) else 0) (none-found ends replies h)

-- A transaction that no reply ends, not even the last one, has committed nothing.
still-none : (who : Who) (n : ℕ) (replies : List Entry) (x : Entry) → list_any ends replies ≡ false → ends x ≡ false → writes_committed (span who n (replies ++ x ∷ [])) ≡ 0
still-none who n replies x h on =
    ap (λ (o : Option Entry). if option_map_or (λ ending. is_commit ending.reply.said) o false then length (filter_map accepted_write (replies ++ x ∷ [])) else 0)
    (found-last ends replies x h ∙ ap (λ (b : Bool). cond b (Some x) None) on)

-- A transaction that its last reply ends has committed all its writes if that commits.
now-ended : (who : Who) (n : ℕ) (replies : List Entry) (x : Entry) → list_any ends replies ≡ false → ends x ≡ true
    → writes_committed (span who n (replies ++ x ∷ [])) ≡ (if is_commit x.reply.said then count_by is_write (replies ++ x ∷ []) else 0)
now-ended who n replies x h on =
    ap (λ (o : Option Entry). if option_map_or (λ ending. is_commit ending.reply.said) o false then length (filter_map accepted_write (replies ++ x ∷ [])) else 0)
    (found-last ends replies x h ∙ ap (λ (b : Bool). cond b (Some x) None) on)
    ∙ ap (λ (k : ℕ). if is_commit x.reply.said then k else 0) (mapped-count accepted_write (replies ++ x ∷ []))

-- ---- along the replies

-- The writes that the transactions of one among replies have committed.
abbrev total : Who → List Entry → ℕ
total who replies = sum_by writes_committed (spans who replies)

-- what the transactions of one have committed, by what is open
idle-total : (who : Who) (replies : List Entry) (past : Past who replies None) → total who replies ≡ sum_by writes_committed past.done
idle-total who replies past =
    ap (total who) (sym (append-nil replies)) ∙ ap (sum_by writes_committed) (past.parts [] ∙ append-nil past.done)

-- Where none is open, one reply more adds what it commits by itself to the total.
idle-more : (who : Who) (replies : List Entry) (past : Past who replies None) (x : Entry) → total who (replies ++ x ∷ []) ≡ sum_by writes_committed past.done + total who (x ∷ [])
idle-more who replies past x = ap (sum_by writes_committed) (past.parts (x ∷ [])) ∙ sum_by-append writes_committed past.done (spans who (x ∷ []))

-- An open transaction adds nothing to what those that are done have committed.
open-total : (who : Who) (replies : List Entry) (n : ℕ) (its : List Entry) (past : Past who replies (Some (n, its))) → list_any ends its ≡ false → total who replies ≡ sum_by writes_committed past.done
open-total who replies n its past on =
    let whole : total who replies ≡ sum_by writes_committed past.done + sum_by writes_committed (span who n (its ++ []) ∷ []) =
    ap (total who) (sym (append-nil replies)) ∙ ap (sum_by writes_committed) (past.parts []) ∙ sum_by-append writes_committed past.done (span who n (its ++ []) ∷ []) in
    let one = sum_by-cons writes_committed (span who n (its ++ [])) [] in
    let none : sum_by writes_committed [] ≡ 0 = refl in
    let quiet : writes_committed (span who n (its ++ [])) ≡ 0 = ap (λ (es : List Entry). writes_committed (span who n es)) (append-nil its) ∙ open-none who n its on in
    omega (arith, whole, one, none, quiet)

-- With one reply more the open transaction adds what it has committed with it.
open-more : (who : Who) (replies : List Entry) (n : ℕ) (its : List Entry) (past : Past who replies (Some (n, its))) (x : Entry) → snapshot_in x.reply.said ≡ None
    → total who (replies ++ x ∷ []) ≡ sum_by writes_committed past.done + writes_committed (span who n (its ++ x ∷ []))
open-more who replies n its past x none =
    let cut : up_to_end (x ∷ []) ≡ x ∷ [] = cut-one x (is_end x.reply.said) in
    let rest : spans who (x ∷ []) ≡ [] = ap (λ (o : Option ℕ). cons_option (option_map (λ s. span who s (up_to_end (x ∷ []))) o) []) none in
    let whole : total who (replies ++ x ∷ []) ≡ sum_by writes_committed past.done + sum_by writes_committed (span who n (its ++ x ∷ []) ∷ []) =
    ap (sum_by writes_committed) (past.parts (x ∷ []) ∙ ap (λ (es : List Entry). past.done ++ span who n (its ++ es) ∷ spans who (x ∷ [])) cut ∙ ap (λ (ts : List Span). past.done ++ span who n (its ++ x ∷ []) ∷ ts) rest)
    ∙ sum_by-append writes_committed past.done (span who n (its ++ x ∷ []) ∷ []) in
    let one = sum_by-cons writes_committed (span who n (its ++ x ∷ [])) [] in
    let zero_sum : sum_by writes_committed [] ≡ 0 = refl in
    omega (arith, whole, one, zero_sum)
  where
    cut-one : (x : Entry) (b : Bool) → cond b (x ∷ []) (x ∷ []) ≡ x ∷ []
    cut-one x true = refl
    cut-one x false = refl

-- a transaction that was just opened has committed nothing
opened-total : (who : Who) (x : Entry) (n : ℕ) → snapshot_in x.reply.said ≡ Some n → total who (x ∷ []) ≡ 0
opened-total who x n opens =
    let on : is_end x.reply.said ≡ false = opens-not-end x.reply.said n opens in
    let cut : up_to_end (x ∷ []) ≡ x ∷ [] = ap (λ (b : Bool). cond b (x ∷ []) (x ∷ [])) on in
    let one : total who (x ∷ []) ≡ sum_by writes_committed (span who n (x ∷ []) ∷ []) =
    ap (λ (o : Option ℕ). sum_by writes_committed (cons_option (option_map (λ s. span who s (up_to_end (x ∷ []))) o) [])) opens ∙ ap (λ (es : List Entry). sum_by writes_committed (span who n es ∷ [])) cut in
    let sum = sum_by-cons writes_committed (span who n (x ∷ [])) [] in
    let none : sum_by writes_committed [] ≡ 0 = refl in
    let quiet : writes_committed (span who n (x ∷ [])) ≡ 0 = open-none who n (x ∷ []) (ap (λ (b : Bool). b || false) on) in
    omega (arith, one, sum, none, quiet)

-- A choice between a number and itself is that number.
either-one : (b : Bool) (n : ℕ) → (if b then n else n) ≡ n
either-one true n = refl
either-one false n = refl

-- the state of one behind a front of the replies
pub record Counted (entries : List Entry) (who : Who) (front : List Entry) : Type 0 where
  pub held : Option ℕ
  pub standing : Standing who front held
  pub same : total who (thread who front) ≡ sum_by (committed_by entries) (thread who front)

-- before all replies nothing was committed
pub counted-nil : (entries : List Entry) (who : Who) → Counted entries who []
counted-nil entries who = record { held = None; standing = standing-nil who; same = refl }

module _ (entries front : List Entry) (x : Entry) (rest : List Entry) (whole : entries ≡ front ++ x ∷ rest) (rises : Rises entries) (outside : OpensOutside entries) where
  -- The session or worker of the reply that is added.
  abbrev its : Who
  its = x.reply.who

  -- The added reply stands in the timeline of the replies at its place.
  at : At entries entries front x rest
  at = at-rising entries front x rest whole rises

  -- The replies in front to the session or worker of the added one.
  abbrev V : List Entry
  V = thread its front

  -- The added reply is the last of its thread.
  longer : thread its (front ++ x ∷ []) ≡ V ++ x ∷ []
  longer = thread-own its front x (same-itself its)

  -- The weights of a thread with the added reply are those of the thread and its own.
  weight-more : sum_by (committed_by entries) (V ++ x ∷ []) ≡ sum_by (committed_by entries) V + committed_by entries x
  weight-more =
      let one = sum_by-cons (committed_by entries) x [] in
      let none : sum_by (committed_by entries) [] ≡ 0 = refl in
      let split = sum_by-append (committed_by entries) V (x ∷ []) in
      omega (arith, one, none, split)

  -- A reply that does not commit has no weight.
  no-weight : is_commit x.reply.said ≡ false → committed_by entries x ≡ 0
  no-weight h = ap (λ (b : Bool). if b then option_map_or writes_of (transaction_with (transactions_of entries) x) 0 else 0) h

  -- A reply in no transaction has no weight.
  none-weight : transaction_with (transactions_of entries) x ≡ None → committed_by entries x ≡ 0
  none-weight h = ap (λ (o : Option Span). if is_commit x.reply.said then option_map_or writes_of o 0 else 0) h ∙ either-one (is_commit x.reply.said) 0

  -- The total and the weights stay equal with one reply more, whatever is open and whatever it
  -- ends.
  total-by : (held shown : Option ℕ) → snapshot_in x.reply.said ≡ shown → (is_some shown ≡ true → is_within its front ≡ false) → (ending : Bool) → is_end x.reply.said ≡ ending → Standing its front held
      → total its V ≡ sum_by (committed_by entries) V → total its (V ++ x ∷ []) ≡ sum_by (committed_by entries) (V ++ x ∷ [])
  total-by (Some s) (Some n) opens out ending is h same = absurd (let e : true ≡ false = sym h.within ∙ out refl in let never : ⊥ = cc in never)
  total-by None (Some n) opens out ending is h same =
      let a = idle-total its V h.spanned in
      let b = idle-more its V h.spanned x in
      let w = weight-more in
      let quiet = no-weight (opens-no-commit x.reply.said n opens) in
      let mine : total its (x ∷ []) ≡ 0 = opened-total its x n opens in
      omega (arith, a, b, w, quiet, mine, same)
  total-by None None opens out ending is h same =
      let a = idle-total its V h.spanned in
      let b = idle-more its V h.spanned x in
      let w = weight-more in
      let quiet = none-weight (found-none entries entries front x rest at h.spanned opens) in
      let mine : total its (x ∷ []) ≡ 0 = ap (λ (o : Option ℕ). sum_by writes_committed (cons_option (option_map (λ s. span its s (up_to_end (x ∷ []))) o) [])) opens in
      omega (arith, a, b, w, quiet, mine, same)
  total-by (Some s) None opens out false is h same =
      let a = open-total its V h.snapshot (h.opening ∷ thread its h.mid) h.spanned h.on in
      let b = open-more its V h.snapshot (h.opening ∷ thread its h.mid) h.spanned x opens in
      let w = weight-more in
      let quiet = no-weight (commit-ends x.reply.said is) in
      let still = still-none its h.snapshot (h.opening ∷ thread its h.mid) x h.on is in
      omega (arith, a, b, w, quiet, still, same)
  total-by (Some s) None opens out true is h same =
      let a = open-total its V h.snapshot (h.opening ∷ thread its h.mid) h.spanned h.on in
      let b = open-more its V h.snapshot (h.opening ∷ thread its h.mid) h.spanned x opens in
      let w = weight-more in
      let ended = now-ended its h.snapshot (h.opening ∷ thread its h.mid) x h.on is in
      let found : transaction_with (transactions_of entries) x ≡ Some (span its h.snapshot ((h.opening ∷ thread its h.mid) ++ x ∷ [])) =
      found-open entries entries front x rest at h.snapshot (h.opening ∷ thread its h.mid) h.spanned
      ∙ ap (λ (b : Bool). Some (span its h.snapshot ((h.opening ∷ thread its h.mid) ++ cond b (x ∷ []) (x ∷ up_to_end (thread its rest))))) is in
      let weighs : committed_by entries x ≡ (if is_commit x.reply.said then count_by is_write ((h.opening ∷ thread its h.mid) ++ x ∷ []) else 0) =
      ap (λ (o : Option Span). if is_commit x.reply.said then option_map_or writes_of o 0 else 0) found in
      let equal : writes_committed (span its h.snapshot ((h.opening ∷ thread its h.mid) ++ x ∷ [])) ≡ committed_by entries x = ended ∙ sym weighs in
      omega (arith, a, b, w, equal, same)

  -- The writes of the reply's own session or worker stay counted with the reply.
  counted-own : Counted entries its front → Counted entries its (front ++ x ∷ [])
  counted-own c = record {
    held = if is_some (snapshot_in x.reply.said) then Some (length front) else (if is_end x.reply.said then None else c.held);
    standing = standing-own its front x (same-itself its) c.held (length front) refl (snapshot_in x.reply.said) refl (λ some. (outside front x rest whole some).0) (is_end x.reply.said) refl c.standing;
    same = ap (total its) longer
        ∙ total-by c.held (snapshot_in x.reply.said) refl (λ some. (outside front x rest whole some).0) (is_end x.reply.said) refl c.standing c.same
        ∙ ap (sum_by (committed_by entries)) (sym longer);
  }

  -- The writes of another session or worker stay counted with the reply.
  counted-other : (who : Who) → is_same its who ≡ false → Counted entries who front → Counted entries who (front ++ x ∷ [])
  counted-other who apart c =
      let same = thread-other who front x apart in
      record {
        held = c.held;
        standing = standing-other who front x c.held apart c.standing;
        same = ap (total who) same ∙ c.same ∙ ap (sum_by (committed_by entries)) (sym same);
      }

  -- what one has committed, with one reply more
  pub counted-step : (who : Who) → Counted entries who front → Counted entries who (front ++ x ∷ [])
  counted-step who c = by (is_same its who) refl
    where
      by : (b : Bool) → is_same its who ≡ b → Counted entries who (front ++ x ∷ [])
      by true is = subst (λ (w : Who). Counted entries w (front ++ x ∷ [])) (same-is its who is) (counted-own (subst (λ (w : Who). Counted entries w front) (sym (same-is its who is)) c))
      by false is = counted-other who is c

-- So it is of each front of them.
pub counted-front : (entries front mid rest : List Entry) → entries ≡ front ++ (mid ++ rest) → Rises entries → OpensOutside entries → (who : Who) → Counted entries who front → Counted entries who (front ++ mid)
counted-front entries front [] rest whole rises outside who c = subst (Counted entries who) (sym (append-nil front)) c
counted-front entries front (x ∷ mid) rest whole rises outside who c =
    subst (Counted entries who) (append_assoc front (x ∷ []) mid)
    (counted-front entries (front ++ x ∷ []) mid rest (whole ∙ sym (append_assoc front (x ∷ []) (mid ++ rest))) rises outside who (counted-step entries front x (mid ++ rest) whole rises outside who c))

-- ---- what is not after a reply

module _ (entries front : List Entry) (x : Entry) (rest : List Entry) (whole : entries ≡ front ++ x ∷ rest) (rises : Rises entries) (outside : OpensOutside entries) where
  -- The place where the reply's own in its round end.
  abbrev oe : ℕ
  oe = own_end entries x

  -- The place where the reply's round ends.
  abbrev re : ℕ
  re = round_end entries x

  -- The places about the reply stand in order.
  order : InOrder entries x (length front)
  order = in-order entries front x rest whole rises

  -- replies that are not after it are, of its own, those up to it, and of each other, those up to
  -- the end of its round
  behind : (list_all (is_own x) (between (length front + 1) oe entries) ≡ true) × (list_all (is_beside x) (between oe re entries) ≡ true)
  behind = behind-places front x rest entries whole rises

  -- Not after a reply are those up to it, and those of its round behind its own.
  not-after-is : not_after entries x ≡ take (length front + 1) entries ++ between oe re entries
  not-after-is = (by-places front x rest entries whole rises).1

  -- Behind its own in the round stands none of its own session or worker.
  none-beside : (who : Who) → is_same x.reply.who who ≡ true → thread who (between oe re entries) ≡ []
  none-beside who same =
      keep-none (is_beside x) (λ e. is_same e.reply.who who)
      (λ e h. ap (is_same e.reply.who) (sym (same-is x.reply.who who same)) ∙ not-true (is_same e.reply.who x.reply.who) (and_parts (eqb e.reply.round x.reply.round) (not (is_same e.reply.who x.reply.who)) h).1)
      (between oe re entries) behind.1

  -- Among its own behind it in the round stands none of another.
  none-own : (who : Who) → is_same x.reply.who who ≡ false → thread who (between (length front + 1) oe entries) ≡ []
  none-own who apart =
      keep-none (is_own x) (λ e. is_same e.reply.who who)
      (λ e h. ap (λ (w : Who). is_same w who) (same-is e.reply.who x.reply.who (and_parts (eqb e.reply.round x.reply.round) (is_same e.reply.who x.reply.who) h).1) ∙ apart)
      (between (length front + 1) oe entries) behind.0

  -- One's replies not after it are those up to it, and those of its round behind its own.
  thread-not-after : (who : Who) → thread who (not_after entries x) ≡ thread who (take (length front + 1) entries) ++ thread who (between oe re entries)
  thread-not-after who = ap (thread who) not-after-is ∙ filter-append (λ e. is_same e.reply.who who) (take (length front + 1) entries) (between oe re entries)

  -- One's replies not after it are one's own up to some place.
  reach : (who : Who) → (k : ℕ) × (thread who (not_after entries x) ≡ thread who (take k entries))
  reach who = by (is_same x.reply.who who) refl
    where
      by : (b : Bool) → is_same x.reply.who who ≡ b → (k : ℕ) × (thread who (not_after entries x) ≡ thread who (take k entries))
      by true is = (length front + 1, thread-not-after who ∙ ap (λ (es : List Entry). thread who (take (length front + 1) entries) ++ es) (none-beside who is) ∙ append-nil (thread who (take (length front + 1) entries)))
      by false is =
          let low : length front + 1 ≤ oe = let e = order.ends in omega (arith, e) in
          let high : oe ≤ re = order.closes in
          let cut : take re entries ≡ (take (length front + 1) entries ++ between (length front + 1) oe entries) ++ between oe re entries =
          cut-between oe re entries high ∙ ap (λ (es : List Entry). es ++ between oe re entries) (cut-between (length front + 1) oe entries low) in
          let its : thread who (take re entries) ≡ (thread who (take (length front + 1) entries) ++ thread who (between (length front + 1) oe entries)) ++ thread who (between oe re entries) =
          ap (thread who) cut ∙ filter-append (λ e. is_same e.reply.who who) (take (length front + 1) entries ++ between (length front + 1) oe entries) (between oe re entries)
          ∙ ap (λ (es : List Entry). es ++ thread who (between oe re entries)) (filter-append (λ e. is_same e.reply.who who) (take (length front + 1) entries) (between (length front + 1) oe entries)) in
          let short : thread who (take re entries) ≡ thread who (take (length front + 1) entries) ++ thread who (between oe re entries) =
          its ∙ ap (λ (es : List Entry). (thread who (take (length front + 1) entries) ++ es) ++ thread who (between oe re entries)) (none-own who is)
          ∙ ap (λ (es : List Entry). es ++ thread who (between oe re entries)) (append-nil (thread who (take (length front + 1) entries))) in
          (re, thread-not-after who ∙ sym short)

  -- For each one, the writes committed not after the reply are the weights of one's commits there.
  each-equal : (who : Who) → sum_by writes_committed (filter (λ t. is_same t.who who) (transactions_of (not_after entries x))) ≡ sum_by (committed_by entries) (filter (λ e. is_same e.reply.who who) (not_after entries x))
  each-equal who =
      let r = reach who in
      let counted = counted-front entries [] (take r.0 entries) (drop r.0 entries) (sym (take-append-drop r.0 entries)) rises outside who (counted-nil entries who) in
      ap (sum_by writes_committed) (spans-is who (not_after entries x)) ∙ ap (total who) r.1 ∙ counted.same ∙ sym (ap (sum_by (committed_by entries)) r.1)

  -- The writes committed among them are those that their commits commit.
  pub committed-not-after : writes_committed_in (not_after entries x) ≡ sum_by (committed_by entries) (not_after entries x)
  committed-not-after =
      equal-by-who (λ (t : Span). t.who) (λ (e : Entry). e.reply.who) writes_committed (committed_by entries)
      (length (transactions_of (not_after entries x)) + length (not_after entries x)) (transactions_of (not_after entries x)) (not_after entries x) (omega arith) each-equal

-- so of the reply that is judged
pub committed-asked : (replies : List KeptReply) (at : ℕ) (stretch : Stretch) → IsAsked replies at stretch → OpensOutside (entries_of replies) → (none : KeptReply)
    → writes_committed_in (not_after (entries_of replies) (asked_at replies at none)) ≡ sum_by (committed_by (entries_of replies)) (not_after (entries_of replies) (asked_at replies at none))
committed-asked replies at stretch asked outside none =
    let its = kept-at replies at (slice_index_or replies at none) asked.inside (get_or_default replies at none (slice_index_or replies at none) asked.inside) in
    committed-not-after (entries_of replies) its.front (asked_at replies at none) its.rest its.whole asked.rises outside
