-- The transaction that a reply belongs to, by what is open behind the replies in front of it.
use Rattle.std.proofs.Common.{◌≡◌, ℕ, Bool, true, false, cond, ◌||◌, List, [], ◌∷◌, ◌++◌, Option, None, Some, refl, sym, ap, ◌∙◌, subst}
use Rattle.std.specs.Prelude.{option_map}
use Rattle.std.specs.Option.{option_or}
use Rattle.std.specs.List.{filter, find, list_any, cons_option}
use Rattle.std.proofs.lemmas.List.Folds.{list_any-append, find-append}
use Rattle.std.proofs.lemmas.List.Elements.{filter-append}
use Rattle.std.proofs.lemmas.Bool.{or_right}
use Rattle.workload_spec.specs.declared.reply.Who.{Who}
use Rattle.outcome_spec.specs.Entries.{Entry, is_same, is_reply, snapshot_in, is_end}
use Rattle.outcome_spec.specs.Runs.{Span, up_to_end, span_from, transactions_of, transaction_with}
use Rattle.timeline_spec.specs.Timeline.{Each, InOrder}
use Rattle.outcome_spec.specs.Entries.{thread}
use Rattle.timeline_laws.proofs.Order.{Each-first, Each-second, Each-filter, Each-printed, same-is, same-itself}
use Rattle.timeline_laws.proofs.Spans.{span, spans, EachSpan, Ended, Past, spans-is, thread-of}
use Rattle.timeline_laws.proofs.Unique.{Only, none-in_front, none-behind, itself, any-none}

-- what is found is found among those that pass a test which it passes
find-kept-step : (a b : Bool) (t : Span) (kept all : List Span) (test : Span → Bool) → test t ≡ b → (b ≡ true → a ≡ true) → find test all ≡ find test kept
    → cond b (Some t) (find test all) ≡ find test (cond a (t ∷ kept) kept)
find-kept-step true b t kept all test is h rest = rw is (ap (cond b (Some t)) rest)
find-kept-step false true t kept all test is h rest = absurd (let e : false ≡ true = h refl in let never : ⊥ = cc in never)
find-kept-step false false t kept all test is h rest = rest

-- what is found among all is found among those that are kept, where all that pass are kept
pub find-kept : (test choice : Span → Bool) (ts : List Span) → EachSpan (λ t. test t ≡ true → choice t ≡ true) ts → find test ts ≡ find test (filter choice ts)
find-kept test choice [] h = refl
find-kept test choice (t ∷ ts) h = find-kept-step (choice t) (test t) t (filter choice ts) ts test refl h.0 (find-kept test choice ts h.1)

-- Where the first reply or one behind it is the reply, it is to the same one.
any-of-step : (b : Bool) (entry : Entry) (who : Who) (other : Entry) (entries : List Entry) → is_reply entry other ≡ b → (is_reply entry other ≡ true → other ≡ entry) → is_same other.reply.who who ≡ true
    → (list_any (is_reply entry) entries ≡ true → is_same entry.reply.who who ≡ true) → (b || list_any (is_reply entry) entries) ≡ true → is_same entry.reply.who who ≡ true
any-of-step true entry who other entries is only of rest h = subst (λ (o : Entry). is_same o.reply.who who ≡ true) (only is) of
any-of-step false entry who other entries is only of rest h = rest h

-- replies to one, of which one is the reply, are to the reply's session or worker
any-of : (entry : Entry) (who : Who) (entries : List Entry) → Each (λ other. is_reply entry other ≡ true → other ≡ entry) entries → Each (λ other. is_same other.reply.who who ≡ true) entries
    → list_any (is_reply entry) entries ≡ true → is_same entry.reply.who who ≡ true
any-of entry who [] only of h = absurd (let never : ⊥ = cc in never)
any-of entry who (other ∷ entries) only of h = any-of-step (is_reply entry other) entry who other entries refl only.0 of.0 (any-of entry who entries only.1 of.1) h

-- Cutting behind a reply, if it is an end, keeps what holds of each.
cut-each : (P : Entry → Type 0) (ends : Bool) (entry : Entry) (others : List Entry) → P entry → Each P others → Each P (cond ends (entry ∷ []) (entry ∷ others))
cut-each P true entry others h k = (h, tt)
cut-each P false entry others h k = (h, k)

-- what holds of each reply holds of each up to the first end
pub Each-up_to_end : (P : Entry → Type 0) (entries : List Entry) → Each P entries → Each P (up_to_end entries)
Each-up_to_end P [] h = h
Each-up_to_end P (entry ∷ entries) h = cut-each P (is_end entry.reply.said) entry (up_to_end entries) h.0 (Each-up_to_end P entries h.1)

-- Two that are one session or worker are so the other way round.
same-turned : (a b : Who) → is_same a b ≡ true → is_same b a ≡ true
same-turned a b h = subst (λ (w : Who). is_same w a ≡ true) (same-is a b h) (same-itself a)

-- Where the transaction that a reply opens has the reply, both are to the same one.
from-whom : (entry o : Entry) (behind : List Entry) → Only (o ∷ behind) entry → (snapshot : ℕ)
    → list_any (is_reply entry) (span_from o behind snapshot).replies ≡ true → is_same o.reply.who entry.reply.who ≡ true
from-whom entry o behind only snapshot h =
    let its = o ∷ thread o.reply.who behind in
    let among = Each-up_to_end (λ other. is_reply entry other ≡ true → other ≡ entry) its (only.0, Each-filter (λ other. is_reply entry other ≡ true → other ≡ entry) (λ other. is_same other.reply.who o.reply.who) behind only.1) in
    let passes = Each-up_to_end (λ other. is_same other.reply.who o.reply.who ≡ true) its (same-itself o.reply.who, thread-of o.reply.who behind) in
    same-turned entry.reply.who o.reply.who (any-of entry o.reply.who (up_to_end its) among passes h)

-- One more reply in front keeps that transactions with the reply are its session's or worker's.
from-holds-step : (entry o : Entry) (entries : List Entry) → Only (o ∷ entries) entry → (shown : Option ℕ)
    → EachSpan (λ t. list_any (is_reply entry) t.replies ≡ true → is_same t.who entry.reply.who ≡ true) (transactions_of entries)
    → EachSpan (λ t. list_any (is_reply entry) t.replies ≡ true → is_same t.who entry.reply.who ≡ true) (cons_option (option_map (span_from o entries) shown) (transactions_of entries))
from-holds-step entry o entries only None rest = rest
from-holds-step entry o entries only (Some snapshot) rest = (from-whom entry o entries only snapshot, rest)

-- a transaction with the reply among its own is of the reply's session or worker
from-holds : (entry : Entry) (entries : List Entry) → Only entries entry
    → EachSpan (λ t. list_any (is_reply entry) t.replies ≡ true → is_same t.who entry.reply.who ≡ true) (transactions_of entries)
from-holds entry [] only = tt
from-holds entry (o ∷ entries) only = from-holds-step entry o entries only (snapshot_in o.reply.said) (from-holds entry entries only.1)

-- none of the transactions that ended in front has the reply
done-misses : (who : Who) (front : List Entry) (entry : Entry) (ts : List Span) → Each (λ other. is_reply entry other ≡ false) front → EachSpan (Ended who front) ts
    → find (λ t. list_any (is_reply entry) t.replies) ts ≡ None
done-misses who front entry [] none h = refl
done-misses who front entry (t ∷ ts) none h =
    let inside : Each (λ other. is_reply entry other ≡ false) t.replies =
    Each-first (λ other. is_reply entry other ≡ false) t.replies h.0.behind (Each-second (λ other. is_reply entry other ≡ false) h.0.ahead (t.replies ++ h.0.behind) (subst (Each (λ other. is_reply entry other ≡ false)) h.0.stands none)) in
    rw (any-none (is_reply entry) t.replies inside) (done-misses who front entry ts none h.1)

-- nor one that is opened behind it
find-past : (test : Span → Bool) (made : ℕ → Span) (shown : Option ℕ) (others : List Span)
    → ((snapshot : ℕ) → test (made snapshot) ≡ false) → find test (cons_option (option_map made shown) others) ≡ find test others
find-past test made None others fails = refl
find-past test made (Some snapshot) others fails = rw (fails snapshot) refl

-- Where none of the replies is the reply, no transaction opened among them has it.
none-opened : (who : Who) (entry : Entry) (rest : List Entry) → Each (λ other. is_reply entry other ≡ false) rest → find (λ t. list_any (is_reply entry) t.replies) (spans who rest) ≡ None
none-opened who entry [] h = refl
none-opened who entry (other ∷ rest) h =
    find-past (λ t. list_any (is_reply entry) t.replies) (λ snapshot. span who snapshot (up_to_end (other ∷ rest))) (snapshot_in other.reply.said) (spans who rest)
    (λ snapshot. any-none (is_reply entry) (up_to_end (other ∷ rest)) (Each-up_to_end (λ o. is_reply entry o ≡ false) (other ∷ rest) h))
    ∙ none-opened who entry rest h.1

-- A reply is among those from it on, cut behind it or not.
cut-has : (entry : Entry) (ends : Bool) (others : List Entry) → list_any (is_reply entry) (cond ends (entry ∷ []) (entry ∷ others)) ≡ true
cut-has entry true others = rw (itself entry) refl
cut-has entry false others = rw (itself entry) refl

-- a reply is among those before it and those from it up to the first end
pub has-itself : (entry : Entry) (replies rest : List Entry) → list_any (is_reply entry) (replies ++ up_to_end (entry ∷ rest)) ≡ true
has-itself entry replies rest =
    list_any-append (is_reply entry) replies (up_to_end (entry ∷ rest))
    ∙ or_right (list_any (is_reply entry) replies) (list_any (is_reply entry) (up_to_end (entry ∷ rest))) (cut-has entry (is_end entry.reply.said) (up_to_end rest))

-- Where the first list has none, what is found is found in the second.
find-behind : (test : Span → Bool) (a b : List Span) → find test a ≡ None → find test (a ++ b) ≡ find test b
find-behind test a b none = find-append test a b ∙ ap (λ (o : Option Span). option_or o (find test b)) none

-- The reply stands in a timeline at this place.
pub record At (printed timeline front : List Entry) (entry : Entry) (rest : List Entry) : Type 0 where
  pub threads : (who : Who) → thread who printed ≡ thread who timeline
  pub whole : timeline ≡ front ++ entry ∷ rest
  pub order : InOrder timeline
  pub only : Only printed entry

module _ (printed timeline front : List Entry) (entry : Entry) (rest : List Entry) (at : At printed timeline front entry rest) where
  -- The session or worker that the reply is to.
  abbrev its : Who
  its = entry.reply.who

  -- the timeline, parted at the reply, is in order
  pub its-order : InOrder (front ++ entry ∷ rest)
  its-order = subst InOrder at.whole at.order

  -- the replies to one are those in front of the reply's place and those from it on
  pub its-thread : (who : Who) → thread who printed ≡ thread who front ++ thread who (entry ∷ rest)
  its-thread who = at.threads who ∙ ap (thread who) at.whole ∙ filter-append (λ other. is_same other.reply.who who) front (entry ∷ rest)

  -- the replies to the reply's session or worker, parted at the reply
  pub own-thread : thread its printed ≡ thread its front ++ entry ∷ thread its rest
  own-thread = its-thread its ∙ ap (λ (b : Bool). thread its front ++ cond b (entry ∷ thread its rest) (thread its rest)) (same-itself its)

  -- where no other printed reply is the same, none of the timeline is
  pub timeline-only : Only (front ++ entry ∷ rest) entry
  timeline-only = subst (λ (es : List Entry). Only es entry) at.whole (Each-printed (λ other. is_reply entry other ≡ true → other ≡ entry) timeline printed (λ who. sym (at.threads who)) at.only)

  -- Whether a transaction has the reply among its own.
  abbrev holds : Span → Bool
  holds t = list_any (is_reply entry) t.replies

  -- the reply's transaction is one of its session's or worker's
  found-own : transaction_with (transactions_of printed) entry ≡ find holds (spans its (thread its front ++ entry ∷ thread its rest))
  found-own =
      find-kept holds (λ t. is_same t.who its) (transactions_of printed) (from-holds entry printed at.only)
      ∙ ap (find holds) (spans-is its printed ∙ ap (spans its) own-thread)

  -- Of its session's or worker's replies in front, none is the reply.
  misses-front : Each (λ other. is_reply entry other ≡ false) (thread its front)
  misses-front = Each-filter (λ other. is_reply entry other ≡ false) (λ other. is_same other.reply.who its) front (none-in_front front entry rest its-order timeline-only)

  -- Of its session's or worker's replies behind, none is the reply.
  misses-rest : Each (λ other. is_reply entry other ≡ false) (thread its rest)
  misses-rest = Each-filter (λ other. is_reply entry other ≡ false) (λ other. is_same other.reply.who its) rest (none-behind front entry rest its-order timeline-only)

  -- Where a transaction is open in front, the reply is one of its.
  pub found-open : (snapshot : ℕ) (replies : List Entry) → Past its (thread its front) (Some (snapshot, replies))
      → transaction_with (transactions_of printed) entry ≡ Some (span its snapshot (replies ++ up_to_end (entry ∷ thread its rest)))
  found-open snapshot replies past =
      found-own
      ∙ ap (find holds) (past.parts (entry ∷ thread its rest))
      ∙ find-behind holds past.done (span its snapshot (replies ++ up_to_end (entry ∷ thread its rest)) ∷ spans its (entry ∷ thread its rest)) (done-misses its (thread its front) entry past.done misses-front past.ended)
      ∙ ap (λ (b : Bool). cond b (Some (span its snapshot (replies ++ up_to_end (entry ∷ thread its rest)))) (find holds (spans its (entry ∷ thread its rest)))) (has-itself entry replies (thread its rest))

  -- Where none is open in front, and the reply opens none, it belongs to none.
  pub found-none : Past its (thread its front) None → snapshot_in entry.reply.said ≡ None → transaction_with (transactions_of printed) entry ≡ None
  found-none past none =
      found-own
      ∙ ap (find holds) (past.parts (entry ∷ thread its rest))
      ∙ find-behind holds past.done (spans its (entry ∷ thread its rest)) (done-misses its (thread its front) entry past.done misses-front past.ended)
      ∙ ap (λ (o : Option ℕ). find holds (cons_option (option_map (λ snapshot. span its snapshot (up_to_end (entry ∷ thread its rest))) o) (spans its (thread its rest)))) none
      ∙ none-opened its entry (thread its rest) misses-rest

  -- Where none is open in front, the transaction that the reply opens is its own.
  pub found-opened : Past its (thread its front) None → (snapshot : ℕ) → snapshot_in entry.reply.said ≡ Some snapshot
      → transaction_with (transactions_of printed) entry ≡ Some (span its snapshot (up_to_end (entry ∷ thread its rest)))
  found-opened past snapshot opens =
      found-own
      ∙ ap (find holds) (past.parts (entry ∷ thread its rest))
      ∙ find-behind holds past.done (spans its (entry ∷ thread its rest)) (done-misses its (thread its front) entry past.done misses-front past.ended)
      ∙ ap (λ (o : Option ℕ). find holds (cons_option (option_map (λ snapshot. span its snapshot (up_to_end (entry ∷ thread its rest))) o) (spans its (thread its rest)))) opens
      ∙ ap (λ (b : Bool). cond b (Some (span its snapshot (up_to_end (entry ∷ thread its rest)))) (find holds (spans its (thread its rest)))) (has-itself entry [] (thread its rest))
