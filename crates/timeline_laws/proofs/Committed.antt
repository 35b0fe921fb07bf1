-- The accepted writes of the transactions that committed in front of a reply are among those of all
-- transactions.
use Rattle.std.proofs.Common.{◌≡◌, ℕ, ◌≤◌, zero, suc, Bool, true, false, cond, not, List, [], ◌∷◌, ◌++◌, length, Option, None, Some, refl, sym, ap, ◌∙◌, arith, append-nil}
use Rattle.std.specs.List.{filter, find, sum_by}
use Rattle.std.proofs.lemmas.List.Sums.{sum_by-cons, sum_by-append}
use Rattle.std.proofs.lemmas.List.Filters.{sum_by-filter_both}
use Rattle.cell_model.specs.declared.table.TableDecl.{TableDecl}
use Rattle.isolation_spec.specs.Contents.{History}
use Rattle.isolation_spec.specs.Machine.{Transaction}
use Rattle.workload_spec.specs.declared.reply.Who.{Who}
use Rattle.outcome_spec.specs.Entries.{Entry, is_same, is_not_after, not_after, is_end}
use Rattle.outcome_spec.specs.Runs.{Span, up_to_end, transactions_of, writes_committed}
use Rattle.std.proofs.lemmas.List.Elements.{filter-append}
use Rattle.timeline_spec.specs.Timeline.{open_of, Each, Follows, TimelineFrom}
use Rattle.outcome_spec.specs.Entries.{thread}
use Rattle.outcome_spec.specs.Runs.{writes_committed_in}
use Rattle.timeline_laws.proofs.Order.{Each-weaker, Each-filter, same-is, same-itself}
use Rattle.timeline_laws.proofs.Spans.{span, spans, spans-is}
use Rattle.timeline_laws.proofs.Unique.{Only}
use Rattle.timeline_laws.proofs.Belongs.{its-thread}
use Rattle.timeline_laws.proofs.Walk.{Stands}
use Rattle.timeline_laws.proofs.Cuts.{Cut}
use Rattle.timeline_laws.proofs.Histories.{last, at-cut}
use Rattle.timeline_laws.proofs.Chosen.{filter-each}
use Rattle.timeline_laws.proofs.Views.{front-follows}

-- ---- a sum session by session

-- One more transaction keeps that a wider test in front changes nothing for a narrower one.
both-kept-step : (p q : Span → Bool) (a b : Bool) (t : Span) (kept all : List Span) → p t ≡ a → q t ≡ b → (a ≡ true → b ≡ true) → filter p kept ≡ filter p all
    → filter p (cond b (t ∷ kept) kept) ≡ cond a (t ∷ filter p all) (filter p all)
both-kept-step p q true true t kept all is_p is_q h rest = rw is_p (ap (λ ts. t ∷ ts) rest)
both-kept-step p q true false t kept all is_p is_q h rest = absurd (let e : false ≡ true = h refl in let never : ⊥ = cc in never)
both-kept-step p q false true t kept all is_p is_q h rest = rw is_p rest
both-kept-step p q false false t kept all is_p is_q h rest = rest

-- what passes a test among those that pass another, which it passes too
both-kept : (p q : Span → Bool) → ((t : Span) → p t ≡ true → q t ≡ true) → (ts : List Span) → filter p (filter q ts) ≡ filter p ts
both-kept p q h [] = refl
both-kept p q h (t ∷ ts) = both-kept-step p q (p t) (q t) t (filter q ts) ts refl refl (h t) (both-kept p q h ts)

-- One more transaction keeps that two tests that exclude each other leave none.
none-kept-step : (p q : Span → Bool) (a b : Bool) (t : Span) (kept : List Span) → p t ≡ a → q t ≡ b → (a ≡ true → b ≡ false) → filter p kept ≡ [] → filter p (cond b (t ∷ kept) kept) ≡ []
none-kept-step p q true true t kept is_p is_q h rest = absurd (let e : true ≡ false = h refl in let never : ⊥ = cc in never)
none-kept-step p q true false t kept is_p is_q h rest = rest
none-kept-step p q false true t kept is_p is_q h rest = rw is_p rest
none-kept-step p q false false t kept is_p is_q h rest = rest

-- Two tests that exclude each other leave no transaction.
none-kept : (p q : Span → Bool) → ((t : Span) → p t ≡ true → q t ≡ false) → (ts : List Span) → filter p (filter q ts) ≡ []
none-kept p q h [] = refl
none-kept p q h (t ∷ ts) = none-kept-step p q (p t) (q t) t (filter q ts) refl refl (h t) (none-kept p q h ts)

-- One more transaction, kept or not, makes those kept one more at most.
shorter-step : (b : Bool) (t : Span) (kept : List Span) (n : ℕ) → length kept ≤ n → length (cond b (t ∷ kept) kept) ≤ suc n
shorter-step true t kept n h = let e : length (t ∷ kept) ≡ suc (length kept) = refl in omega (arith, e, h)
shorter-step false t kept n h = omega (arith, h)

-- No more transactions are kept than there are.
shorter : (p : Span → Bool) (ts : List Span) → length (filter p ts) ≤ length ts
shorter p [] = omega arith
shorter p (t ∷ ts) = let e : length (t ∷ ts) ≡ suc (length ts) = refl in let h : length (filter p (t ∷ ts)) ≤ suc (length ts) = shorter-step (p t) t (filter p ts) (length ts) (shorter p ts) in h

-- Whether a transaction is this session's or worker's.
abbrev of_who : Who → Span → Bool
of_who who t = is_same t.who who

-- Whether a transaction is that of another session or worker.
abbrev of_others : Who → Span → Bool
of_others who t = not (is_same t.who who)

-- a session's are among those of others where it isn't that one, and else none of them is
kept-other : (w who : Who) → is_same who w ≡ false → (t : Span) → of_who who t ≡ true → of_others w t ≡ true
kept-other w who apart t h = ap not (ap (λ (v : Who). is_same v w) (same-is t.who who h) ∙ apart)

-- A transaction of the one left out is none of the others'.
kept-not : (w who : Who) → is_same who w ≡ true → (t : Span) → of_who who t ≡ true → of_others w t ≡ false
kept-not w who same t h = ap not (ap (λ (v : Who). is_same v w) (same-is t.who who h) ∙ same)

-- A sum over one's transactions at most another is so once someone's are left out.
others-by : (f g : Span → ℕ) (w who : Who) (a b : List Span) → sum_by f (filter (of_who who) a) ≤ sum_by g (filter (of_who who) b) → (same : Bool) → is_same who w ≡ same
    → sum_by f (filter (of_who who) (filter (of_others w) a)) ≤ sum_by g (filter (of_who who) (filter (of_others w) b))
others-by f g w who a b h true same =
    let e : sum_by f (filter (of_who who) (filter (of_others w) a)) ≡ 0 = ap (sum_by f) (none-kept (of_who who) (of_others w) (kept-not w who same) a) in
    omega (arith, e)
others-by f g w who a b h false same =
    let e = ap (sum_by f) (both-kept (of_who who) (of_others w) (kept-other w who same) a) in
    let k = ap (sum_by g) (both-kept (of_who who) (of_others w) (kept-other w who same) b) in
    omega (arith, e, k, h)

-- A list no longer than the rest behind a first one needs one step less.
fewer : (a b : List Span) (t : Span) (rest : List Span) (fuel : ℕ) → a ≡ b → length b ≤ length rest → length (t ∷ rest) ≤ suc fuel → length a ≤ fuel
fewer a b t rest fuel is h short = let e : length (t ∷ rest) ≡ suc (length rest) = refl in omega (arith, ap length is, h, e, short)

-- a sum is at most another where it is session by session
by-who : (f g : Span → ℕ) (fuel : ℕ) (a b : List Span) → length a ≤ fuel → ((who : Who) → sum_by f (filter (of_who who) a) ≤ sum_by g (filter (of_who who) b)) → sum_by f a ≤ sum_by g b
by-who f g fuel [] b short h = omega arith
by-who f g zero (t ∷ a) b short h = absurd (let e : length (t ∷ a) ≡ suc (length a) = refl in omega (arith, e, short))
by-who f g (suc fuel) (t ∷ a) b short h =
    let w = t.who in
    let own : sum_by f (filter (of_who w) (t ∷ a)) ≤ sum_by g (filter (of_who w) b) = h w in
    let dropped : filter (of_others w) (t ∷ a) ≡ filter (of_others w) a = ap (λ (s : Bool). cond (not s) (t ∷ filter (of_others w) a) (filter (of_others w) a)) (same-itself w) in
    let short_others : length (filter (of_others w) (t ∷ a)) ≤ fuel = fewer (filter (of_others w) (t ∷ a)) (filter (of_others w) a) t a fuel dropped (shorter (of_others w) a) short in
    let others : sum_by f (filter (of_others w) (t ∷ a)) ≤ sum_by g (filter (of_others w) b) =
    by-who f g fuel (filter (of_others w) (t ∷ a)) (filter (of_others w) b) short_others (λ who. others-by f g w who (t ∷ a) b (h who) (is_same who w) refl) in
    omega (arith, own, others, sum_by-filter_both (of_who w) (of_others w) (λ u. refl) f (t ∷ a), sum_by-filter_both (of_who w) (of_others w) (λ u. refl) g b)

-- ---- the transactions in front

-- one that goes on has not committed
open-none : (t : Span) → find (λ e. is_end e.reply.said) t.replies ≡ None → writes_committed t ≡ 0
open-none t none = rw none refl

-- One more reply keeps that two tests may be taken either way round.
filters-turned-step : (p q : Entry → Bool) (a b : Bool) (entry : Entry) (entries : List Entry) → p entry ≡ a → q entry ≡ b → filter p (filter q entries) ≡ filter q (filter p entries)
    → filter p (cond b (entry ∷ filter q entries) (filter q entries)) ≡ filter q (cond a (entry ∷ filter p entries) (filter p entries))
filters-turned-step p q true true entry entries is_p is_q rest = rw (is_p, is_q) (ap (λ es. entry ∷ es) rest)
filters-turned-step p q true false entry entries is_p is_q rest = rw is_q rest
filters-turned-step p q false true entry entries is_p is_q rest = rw is_p rest
filters-turned-step p q false false entry entries is_p is_q rest = rest

-- those that pass two tests, taken either way round
filters-turned : (p q : Entry → Bool) (entries : List Entry) → filter p (filter q entries) ≡ filter q (filter p entries)
filters-turned p q [] = refl
filters-turned p q (entry ∷ entries) = filters-turned-step p q (p entry) (q entry) entry entries refl refl (filters-turned p q entries)

module _ (start : History) (tables : List TableDecl) (printed timeline : List Entry) (t : TimelineFrom start tables printed timeline) (entry : Entry) (only : Only printed entry)
    (cut : Cut start tables timeline (last start tables printed timeline t) entry) where
  -- Whether another reply is not after the reply.
  abbrev kept : Entry → Bool
  kept other = is_not_after other entry

  -- Of each one's replies in front, none is after the reply.
  not-after-it : (who : Who) → Each (λ e. kept e ≡ true) (thread who cut.front)
  not-after-it who =
      Each-filter (λ e. kept e ≡ true) (λ e. is_same e.reply.who who) cut.front
      (Each-weaker (λ earlier. Follows earlier entry) (λ e. kept e ≡ true) (λ e follows. ap not follows.not_before) cut.front (front-follows start tables printed timeline t entry only cut))

  -- what is not after the reply begins with what is in front of it
  begins-with-front : (who : Who) → thread who (not_after printed entry) ≡ thread who cut.front ++ filter kept (thread who (entry ∷ cut.rest))
  begins-with-front who =
      let here = at-cut start tables printed timeline t entry only cut in
      filters-turned (λ other. is_same other.reply.who who) kept printed
      ∙ ap (filter kept) (its-thread printed timeline cut.front entry cut.rest here who)
      ∙ filter-append kept (thread who cut.front) (thread who (entry ∷ cut.rest))
      ∙ ap (λ (es : List Entry). es ++ filter kept (thread who (entry ∷ cut.rest))) (filter-each kept (thread who cut.front) (not-after-it who))

  -- Later replies do not lessen the writes that one committed in front.
  going-none : (who : Who) (found : Option Transaction) (later : List Entry) → Stands who (thread who cut.front) found
      → sum_by writes_committed (spans who (thread who cut.front ++ [])) ≤ sum_by writes_committed (spans who (thread who cut.front ++ later))
  going-none who None later past =
      let a = ap (sum_by writes_committed) (past.parts []) ∙ sum_by-append writes_committed past.done [] in
      let b = ap (sum_by writes_committed) (past.parts later) ∙ sum_by-append writes_committed past.done (spans who later) in
      let none : sum_by writes_committed [] ≡ 0 = refl in
      omega (arith, a, b, none)
  going-none who (Some o) later within =
      let past = within.spanned in
      let open_one = span who o.snapshot (within.replies ++ []) in
      let goes : writes_committed open_one ≡ 0 = open-none open_one (ap (find (λ e. is_end e.reply.said)) (append-nil within.replies) ∙ within.on) in
      let a = ap (sum_by writes_committed) (past.parts []) ∙ sum_by-append writes_committed past.done (open_one ∷ []) in
      let one = sum_by-cons writes_committed open_one [] in
      let none : sum_by writes_committed [] ≡ 0 = refl in
      let b = ap (sum_by writes_committed) (past.parts later)
      ∙ sum_by-append writes_committed past.done (span who o.snapshot (within.replies ++ up_to_end later) ∷ spans who later) in
      omega (arith, a, b, goes, one, none)

  -- One's writes committed in front are at most those committed not after the reply.
  front-less : (who : Who) → sum_by writes_committed (filter (of_who who) (transactions_of cut.front)) ≤ sum_by writes_committed (filter (of_who who) (transactions_of (not_after printed entry)))
  front-less who =
      let a = ap (sum_by writes_committed) (spans-is who cut.front ∙ ap (spans who) (sym (append-nil (thread who cut.front)))) in
      let b = ap (sum_by writes_committed) (spans-is who (not_after printed entry) ∙ ap (spans who) (begins-with-front who)) in
      let less = going-none who (open_of who cut.machine) (filter kept (thread who (entry ∷ cut.rest))) (cut.shown.stands who) in
      omega (arith, a, b, less)

  -- The writes of the transactions that committed in front are among those of what is not after the
  -- reply.
  pub committed-in_front : writes_committed_in cut.front ≤ writes_committed_in (not_after printed entry)
  committed-in_front = by-who writes_committed writes_committed (length (transactions_of cut.front)) (transactions_of cut.front) (transactions_of (not_after printed entry)) (omega arith) front-less
