-- The transactions of one session or worker, read along its replies, and that those of an output
-- are these.
use Rattle.std.proofs.Common.{◌≡◌, ℕ, Bool, true, false, cond, List, [], ◌∷◌, ◌++◌, Option, None, Some, refl, sym, ap, ◌∙◌, append_assoc, append-nil}
use Rattle.std.specs.Prelude.{option_map}
use Rattle.std.specs.List.{filter, list_any, cons_option}
use Rattle.std.proofs.lemmas.List.Folds.{list_any-append}
use Rattle.workload_spec.specs.declared.reply.Who.{Who}
use Rattle.outcome_spec.specs.Entries.{Entry, is_same, snapshot_in, is_end}
use Rattle.outcome_spec.specs.Runs.{Span, up_to_end, span_from, transactions_of}
use Rattle.timeline_spec.specs.Timeline.{Each, Follows, InOrder}
use Rattle.outcome_spec.specs.Entries.{thread}
use Rattle.timeline_laws.proofs.Tests.{or-last}
use Rattle.timeline_laws.proofs.Order.{Each-filter, same-is}

-- the transaction of a session
abbrev pub span : Who → ℕ → List Entry → Span
span who snapshot replies = record { who = who; snapshot = snapshot; replies = replies }

-- the transactions of a session, each of the replies from its first on
abbrev pub spans : Who → List Entry → List Span
spans who [] = []
spans who (entry ∷ entries) = cons_option (option_map (λ snapshot. span who snapshot (up_to_end (entry ∷ entries))) (snapshot_in entry.reply.said)) (spans who entries)

-- the fact holds of each transaction
abbrev pub EachSpan : (Span → Type 0) → List Span → Type 0
EachSpan P [] = Unit {0}
EachSpan P (t ∷ ts) = P t × EachSpan P ts

-- what holds of each transaction of two lists holds of each of both in a row
pub EachSpan-append : (P : Span → Type 0) (a b : List Span) → EachSpan P a → EachSpan P b → EachSpan P (a ++ b)
EachSpan-append P [] b h k = k
EachSpan-append P (t ∷ a) b h k = (h.0, EachSpan-append P a b h.1 k)

-- what follows from a fact of each transaction holds of each
pub EachSpan-weaker : (P Q : Span → Type 0) → ((t : Span) → P t → Q t) → (ts : List Span) → EachSpan P ts → EachSpan Q ts
EachSpan-weaker P Q weaker [] h = tt
EachSpan-weaker P Q weaker (t ∷ ts) h = (weaker t h.0, EachSpan-weaker P Q weaker ts h.1)

-- a transaction that ended among these replies
pub record Ended (who : Who) (front : List Entry) (t : Span) : Type 0 where
  pub ahead : List Entry
  pub behind : List Entry
  pub stands : front ≡ ahead ++ (t.replies ++ behind)
  pub ends : list_any (λ entry. is_end entry.reply.said) t.replies ≡ true
  pub of : t.who ≡ who

-- the transaction that is open behind some replies goes on with those that are later
abbrev pub going_on : Who → Option (ℕ × List Entry) → List Entry → Option Span
going_on who on later = option_map (λ o. span who o.0 (o.1 ++ up_to_end later)) on

-- the transactions that ended among these replies, and the one that is open behind them
pub record Past (who : Who) (front : List Entry) (on : Option (ℕ × List Entry)) : Type 0 where
  pub done : List Span
  pub parts : (later : List Entry) → spans who (front ++ later) ≡ done ++ cons_option (going_on who on later) (spans who later)
  pub ended : EachSpan (Ended who front) done

-- before any reply no transaction ended and none is open
pub past-nil : (who : Who) → Past who [] None
past-nil who = record { done = []; parts = λ later. refl; ended = tt }

-- A transaction that ended among replies ended among them and one more.
ended-more : (who : Who) (front : List Entry) (last : Entry) (t : Span) → Ended who front t → Ended who (front ++ last ∷ []) t
ended-more who front last t h = record {
  ahead = h.ahead;
  behind = h.behind ++ last ∷ [];
  stands = ap (λ es. es ++ last ∷ []) h.stands ∙ append_assoc h.ahead (t.replies ++ h.behind) (last ∷ []) ∙ ap (λ es. h.ahead ++ es) (append_assoc t.replies h.behind (last ∷ []));
  ends = h.ends;
  of = h.of;
}

-- Transactions that all ended among replies ended among them and one more.
still-ended : (who : Who) (front : List Entry) (last : Entry) (ts : List Span) → EachSpan (Ended who front) ts → EachSpan (Ended who (front ++ last ∷ [])) ts
still-ended who front last ts h = EachSpan-weaker (Ended who front) (Ended who (front ++ last ∷ [])) (ended-more who front last) ts h

-- a reply that opens none, where none is open
pub past-idle : (who : Who) (front : List Entry) (last : Entry) → Past who front None → snapshot_in last.reply.said ≡ None → Past who (front ++ last ∷ []) None
past-idle who front last past none = record {
  done = past.done;
  parts = λ later. rw (append_assoc front (last ∷ []) later, past.parts (last ∷ later), none) refl;
  ended = still-ended who front last past.done past.ended;
}

-- a reply that opens a transaction and does not end it
pub past-opens : (who : Who) (front : List Entry) (last : Entry) (snapshot : ℕ) → Past who front None
    → snapshot_in last.reply.said ≡ Some snapshot → is_end last.reply.said ≡ false → Past who (front ++ last ∷ []) (Some (snapshot, last ∷ []))
past-opens who front last snapshot past opens on = record {
  done = past.done;
  parts = λ later. rw (append_assoc front (last ∷ []) later, past.parts (last ∷ later), opens, on) refl;
  ended = still-ended who front last past.done past.ended;
}

-- a reply within a transaction, which goes on
pub past-goes_on : (who : Who) (front : List Entry) (last : Entry) (snapshot : ℕ) (replies : List Entry) → Past who front (Some (snapshot, replies))
    → snapshot_in last.reply.said ≡ None → is_end last.reply.said ≡ false → Past who (front ++ last ∷ []) (Some (snapshot, replies ++ last ∷ []))
past-goes_on who front last snapshot replies past none on = record {
  done = past.done;
  parts = λ later. rw (append_assoc front (last ∷ []) later, past.parts (last ∷ later), none, on, append_assoc replies (last ∷ []) (up_to_end later)) refl;
  ended = still-ended who front last past.done past.ended;
}

-- a reply that ends the transaction that was open
pub past-ends : (who : Who) (front : List Entry) (last : Entry) (snapshot : ℕ) (replies ahead : List Entry) → Past who front (Some (snapshot, replies))
    → front ≡ ahead ++ replies → snapshot_in last.reply.said ≡ None → is_end last.reply.said ≡ true → Past who (front ++ last ∷ []) None
past-ends who front last snapshot replies ahead past at none ends = record {
  done = past.done ++ span who snapshot (replies ++ last ∷ []) ∷ [];
  parts = λ later. rw (append_assoc front (last ∷ []) later, past.parts (last ∷ later), none, ends, append_assoc past.done (span who snapshot (replies ++ last ∷ []) ∷ []) (spans who later)) refl;
  ended = EachSpan-append (Ended who (front ++ last ∷ [])) past.done (span who snapshot (replies ++ last ∷ []) ∷ []) (still-ended who front last past.done past.ended) (
    record {
      ahead = ahead;
      behind = [];
      stands = ap (λ es. es ++ last ∷ []) at ∙ append_assoc ahead replies (last ∷ []) ∙ ap (λ es. ahead ++ es) (sym (append-nil (replies ++ last ∷ [])));
      ends = rw (list_any-append (λ entry. is_end entry.reply.said) replies (last ∷ []), ends) (or-last (list_any (λ entry. is_end entry.reply.said) replies));
      of = refl;
    },
    tt,
  );
}

-- a thread is in order where its timeline is
order-step : (kept : Bool) (entry : Entry) (entries : List Entry) → Each (Follows entry) entries → InOrder entries → InOrder (cond kept (entry ∷ entries) entries)
order-step true entry entries h k = (h, k)
order-step false entry entries h k = k

-- what is kept of replies in order is in order
pub order-filter : (p : Entry → Bool) (entries : List Entry) → InOrder entries → InOrder (filter p entries)
order-filter p [] h = tt
order-filter p (entry ∷ entries) h = order-step (p entry) entry (filter p entries) (Each-filter (Follows entry) p entries h.0) (order-filter p entries h.1)

-- each reply of a thread is that one's
kept-of : (who : Who) (kept : Bool) (entry : Entry) (entries : List Entry) → is_same entry.reply.who who ≡ kept → Each (λ other. is_same other.reply.who who ≡ true) entries
    → Each (λ other. is_same other.reply.who who ≡ true) (cond kept (entry ∷ entries) entries)
kept-of who true entry entries is h = (is, h)
kept-of who false entry entries is h = h

-- the replies to one are all to that one
pub thread-of : (who : Who) (entries : List Entry) → Each (λ entry. is_same entry.reply.who who ≡ true) (thread who entries)
thread-of who [] = tt
thread-of who (entry ∷ entries) = kept-of who (is_same entry.reply.who who) entry (thread who entries) refl (thread-of who entries)

-- the transaction that a reply of a thread opens
opened : (who : Who) (entry : Entry) (entries : List Entry) (snapshot : ℕ) → entry.reply.who ≡ who → span_from entry entries snapshot ≡ span who snapshot (up_to_end (entry ∷ thread who entries))
opened who entry entries snapshot is = ap (λ (w : Who). span w snapshot (up_to_end (entry ∷ thread w entries))) is

-- One more reply keeps that one's transactions are those of one's replies.
spans-step : (who : Who) (entry : Entry) (entries : List Entry) (shown : Option ℕ) (kept : Bool) → snapshot_in entry.reply.said ≡ shown → is_same entry.reply.who who ≡ kept
    → filter (λ t. is_same t.who who) (transactions_of entries) ≡ spans who (thread who entries)
    → filter (λ t. is_same t.who who) (transactions_of (entry ∷ entries)) ≡ spans who (thread who (entry ∷ entries))
spans-step who entry entries None true shows is rest = rw (shows, is, shows) rest
spans-step who entry entries None false shows is rest = rw (shows, is) rest
spans-step who entry entries (Some n) true shows is rest = rw (shows, is, shows) (ap (λ ts. span_from entry entries n ∷ ts) rest ∙ ap (λ t. t ∷ spans who (thread who entries)) (opened who entry entries n (same-is entry.reply.who who is)))
spans-step who entry entries (Some n) false shows is rest = rw (shows, is) rest

-- The transactions of one session or worker are those of its replies.
pub spans-is : (who : Who) (entries : List Entry) → filter (λ t. is_same t.who who) (transactions_of entries) ≡ spans who (thread who entries)
spans-is who [] = refl
spans-is who (entry ∷ entries) = spans-step who entry entries (snapshot_in entry.reply.said) (is_same entry.reply.who who) refl refl (spans-is who entries)
