-- Whose a transaction is, its snapshot, and the number as which it commits.
use Rattle.std.proofs.Common.{◌≡◌, ℕ, ◌<◌, Bool, true, false, cond, ◌&&◌, eqb, List, [], ◌∷◌, length, drop, ◌⊎◌, inl, inr, Option, None, Some, refl, sym, ap, ◌∙◌, subst}
use Rattle.std.specs.List.{find, list_any}
use Rattle.std.specs.Prelude.{option_map, option_and_then}
use Rattle.std.proofs.lemmas.Bool.{and_parts, or_cases}
use Rattle.workload_spec.specs.declared.reply.Who.{Who}
use Rattle.outcome_spec.specs.Entries.{Entry, is_same, is_reply, thread, snapshot_in}
use Rattle.outcome_spec.specs.Runs.{Span, span_from, transactions_of}
use Rattle.timeline_spec.specs.Timeline.{Each}
use Rattle.timeline_laws.proofs.Order.{same-is, same-itself}
use Rattle.timeline_laws.proofs.Spans.{thread-of}
use Rattle.timeline_laws.proofs.Belongs.{Each-up_to_end}
use Rattle.output_read.specs.Kept.{entries_of}
use Rattle.output_read.specs.declared.kept.KeptReply.{KeptReply}
use Rattle.outcome_counts.specs.Asked.{asked_at}
use Rattle.outcome_counts.specs.Openings.{opened_at, opened_by, opening_of, AreOpenings}
use Rattle.outcome_counts.proofs.Written.{transaction-asked}

-- what is found passes the test
found-step : {X : Type 0} (p : X → Bool) (x y : X) (xs : List X) (b : Bool) → p x ≡ b → cond b (Some x) (find p xs) ≡ Some y → (find p xs ≡ Some y → p y ≡ true) → p y ≡ true
found-step p x y xs true is h rest = let e : x ≡ y = cc in ap p (sym e) ∙ is
found-step p x y xs false is h rest = rest h

-- what is found passes the test
pub found-passes : {X : Type 0} (p : X → Bool) (xs : List X) (y : X) → find p xs ≡ Some y → p y ≡ true
found-passes p [] y h = absurd (let never : ⊥ = cc in never)
found-passes p (x ∷ xs) y h = found-step p x y xs (p x) refl h (found-passes p xs y)

-- Replies that are one are of one session or worker.
same-reply : (a b : Entry) → is_reply a b ≡ true → is_same a.reply.who b.reply.who ≡ true
same-reply a b h = (and_parts (eqb a.reply.round b.reply.round) (is_same a.reply.who b.reply.who) (and_parts (eqb a.reply.round b.reply.round && is_same a.reply.who b.reply.who) (eqb a.reply.index b.reply.index) h).0).1

-- A reply that is among those of one session or worker is of that one.
any-same : (entry : Entry) (who : Who) (xs : List Entry) → Each (λ x. is_same x.reply.who who ≡ true) xs → list_any (is_reply entry) xs ≡ true → entry.reply.who ≡ who
any-same entry who [] each h = absurd (let never : ⊥ = cc in never)
any-same entry who (x ∷ xs) each h = by (or_cases (is_reply entry x) (list_any (is_reply entry) xs) h) (any-same entry who xs each.1)
  where
    by : (is_reply entry x ≡ true) ⊎ (list_any (is_reply entry) xs ≡ true) → (list_any (is_reply entry) xs ≡ true → entry.reply.who ≡ who) → entry.reply.who ≡ who
    by (inl here) rest = same-is entry.reply.who x.reply.who (same-reply entry x here) ∙ same-is x.reply.who who each.0
    by (inr later) rest = rest later

-- a transaction that a reply opens is its own
all-its : (opening : Entry) (behind : List Entry) (n : ℕ) → Each (λ x. is_same x.reply.who opening.reply.who ≡ true) (span_from opening behind n).replies
all-its opening behind n =
    Each-up_to_end (λ x. is_same x.reply.who opening.reply.who ≡ true) (opening ∷ thread opening.reply.who behind) (same-itself opening.reply.who, thread-of opening.reply.who behind)

-- The replies of the transaction that is opened are all of its session or worker.
opened-by-own : (xs : List Entry) (t : Span) → opened_by xs ≡ Some t → Each (λ x. is_same x.reply.who t.who ≡ true) t.replies
opened-by-own [] t h = absurd (let never : ⊥ = cc in never)
opened-by-own (opening ∷ behind) t h = by (snapshot_in opening.reply.said) h
  where
    by : (o : Option ℕ) → option_map (span_from opening behind) o ≡ Some t → Each (λ x. is_same x.reply.who t.who ≡ true) t.replies
    by None k = absurd (let never : ⊥ = cc in never)
    by (Some n) k =
        let e : span_from opening behind n ≡ t = cc in
        subst (λ (u : Span). Each (λ x. is_same x.reply.who u.who ≡ true) u.replies) e (all-its opening behind n)

-- The transaction of a reply is of the reply's own session.
pub own-session : (replies : List KeptReply) (openings : List (Option ℕ)) → AreOpenings (entries_of replies) openings → (at : ℕ) → at < length replies → (none : KeptReply) (opening : ℕ) (t : Span)
    → opening_of openings at ≡ Some opening → opened_at opening (entries_of replies) ≡ Some t → t.who ≡ (asked_at replies at none).reply.who
own-session replies openings opened at inside none opening t is there =
    let found = transaction-asked replies openings opened at inside none ∙ ap (option_and_then (λ place. opened_at place (entries_of replies))) is ∙ there in
    let has = found-passes (λ u. list_any (is_reply (asked_at replies at none)) u.replies) (transactions_of (entries_of replies)) t found in
    sym (any-same (asked_at replies at none) t.who t.replies (opened-by-own (drop opening (entries_of replies)) t there) has)
