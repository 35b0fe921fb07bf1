-- What replies tell of a question of a transaction.
use Rattle.std.proofs.Common.{◌≡◌, ℕ, ◌+◌, ◌<◌, ◌≤◌, zero, suc, Bool, true, false, cond, List, [], ◌∷◌, ◌++◌, length, drop, Option, None, Some, refl, sym, ap, ◌∙◌, arith, append_assoc}
use Rattle.std.specs.List.{list_any}
use Rattle.std.specs.Option.{option_map_or}
use Rattle.std.specs.Prelude.{is_some, option_map, slice_index_or, unwrap_or, if◌then◌else◌}
use Rattle.std.proofs.lemmas.List.{drop_at, length-append, length-map, get_or_default}
use Rattle.workload_spec.specs.declared.reply.Who.{Who}
use Rattle.outcome_spec.specs.Entries.{Entry, is_end, is_same, snapshot_in, thread}
use Rattle.outcome_spec.specs.Runs.{Span, span_from, up_to_end}
use Rattle.output_read.specs.Kept.{entries_of, entry_of}
use Rattle.output_read.specs.declared.kept.KeptReply.{KeptReply}
use Rattle.outcome_counts.specs.Asked.{asked_at}
use Rattle.outcome_counts.specs.Openings.{opened_at, opened_by}
use Rattle.outcome_counts.proofs.Starts.{kept-at, KeptAt}
use Rattle.timeline_laws.proofs.Order.{same-itself}
use Rattle.outcome_judge.specs.Stale.{commit_shown}
use Rattle.outcome_judge.specs.Threads.{told_by}
use Rattle.outcome_judge.specs.declared.stale.Commit.{Commit}

module _ (who : Who) (test : Entry → Bool) where
  -- one of one's replies up to the first that ends a transaction passes the test
  abbrev pub any_own : List Entry → Bool
  any_own entries = list_any test (up_to_end (thread who entries))

  -- With a reply in front it is as the reply tells, or else as those behind it do.
  own-next : (entry : Entry) (entries : List Entry) → any_own (entry ∷ entries) ≡ unwrap_or (told_by who test entry) (any_own entries)
  own-next entry entries = by (is_same entry.reply.who who) (test entry) (is_end entry.reply.said) refl refl
    where
      by : (same passes ends : Bool) → test entry ≡ passes → is_end entry.reply.said ≡ ends
          → list_any test (up_to_end (cond same (entry ∷ thread who entries) (thread who entries)))
          ≡ unwrap_or (if same then (if passes then Some true else (if ends then Some false else None)) else None) (any_own entries)
      by false passes ends t e = refl
      by true true true t e = rw (e, t) refl
      by true true false t e = rw (e, t) refl
      by true false true t e = rw (e, t) refl
      by true false false t e = rw (e, t) refl

  module _ (replies : List KeptReply) (place : ℕ) (inside : place < length replies) (none : KeptReply) where
    -- The reply at the place.
    its : KeptAt replies place (slice_index_or replies place none)
    its = kept-at replies place (slice_index_or replies place none) inside (get_or_default replies place none (slice_index_or replies place none) inside)

    -- From the place on stand the reply and those behind it.
    here : drop place (entries_of replies) ≡ asked_at replies place none ∷ its.rest
    here = ap (drop place) its.whole ∙ drop_at its.front (asked_at replies place none ∷ its.rest) place its.far

    -- Behind it stand those.
    behind : drop (place + 1) (entries_of replies) ≡ its.rest
    behind =
        let l = length-append its.front (asked_at replies place none ∷ []) in
        let f = its.far in
        ap (drop (place + 1)) (its.whole ∙ sym (append_assoc its.front (asked_at replies place none ∷ []) its.rest))
        ∙ drop_at (its.front ++ asked_at replies place none ∷ []) its.rest (place + 1) (omega (arith, l, f))

    -- from a place on it is as the reply there tells, or else as from the next on
    pub own-step : any_own (drop place (entries_of replies)) ≡ unwrap_or (told_by who test (asked_at replies place none)) (any_own (drop (place + 1) (entries_of replies)))
    own-step =
        ap any_own here ∙ own-next (asked_at replies place none) its.rest
        ∙ ap (λ (es : List Entry). unwrap_or (told_by who test (asked_at replies place none)) (any_own es)) (sym behind)

  -- Behind all replies none passes.
  none-left : (entries : List Entry) (place : ℕ) → length entries ≤ place → any_own (drop place entries) ≡ false
  none-left [] place h = by place
    where
      by : (n : ℕ) → any_own (drop n []) ≡ false
      by zero = refl
      by (suc n) = refl
  none-left (entry ∷ entries) zero h = absurd (omega (arith, h))
  none-left (entry ∷ entries) (suc place) h = none-left entries place (omega (arith, h))

  -- nor behind all that are kept
  pub none-kept : (replies : List KeptReply) (place : ℕ) → length replies ≤ place → any_own (drop place (entries_of replies)) ≡ false
  none-kept replies place h = let l = length-map replies entry_of in none-left (entries_of replies) place (omega (arith, l, h))

-- a reply of the transaction that is opened at a place passes exactly where one of its session's
-- own from there on does
pub opened-any : (test : Entry → Bool) (replies : List KeptReply) (place : ℕ) → place < length replies → (none : KeptReply) → (t : Span) → opened_at place (entries_of replies) ≡ Some t
    → any_own (asked_at replies place none).reply.who test (drop place (entries_of replies)) ≡ list_any test t.replies
opened-any test replies place inside none t h =
    let its : KeptAt replies place (slice_index_or replies place none) = kept-at replies place (slice_index_or replies place none) inside (get_or_default replies place none (slice_index_or replies place none) inside) in
    let entry : Entry = asked_at replies place none in
    let there : drop place (entries_of replies) ≡ entry ∷ its.rest = ap (drop place) its.whole ∙ drop_at its.front (entry ∷ its.rest) place its.far in
    ap (any_own entry.reply.who test) there
    ∙ ap (λ (b : Bool). list_any test (up_to_end (cond b (entry ∷ thread entry.reply.who its.rest) (thread entry.reply.who its.rest)))) (same-itself entry.reply.who)
    ∙ by entry its.rest (snapshot_in entry.reply.said) (sym (ap opened_by there) ∙ h)
  where
    by : (entry : Entry) (rest : List Entry) (shown : Option ℕ) → option_map (span_from entry rest) shown ≡ Some t → list_any test (up_to_end (entry ∷ thread entry.reply.who rest)) ≡ list_any test t.replies
    by entry rest None h = absurd (let never : ⊥ = cc in never)
    by entry rest (Some number) h = let e : span_from entry rest number ≡ t = cc in ap (λ (s : Span). list_any test s.replies) e

-- ---- the transaction of a reply

-- outside of a transaction nothing is asked
pub no-span : (f : Span → Bool) (own : Option Span) → own ≡ None → true ≡ option_map_or f own true
no-span f None h = refl
no-span f (Some t) h = absurd (let never : ⊥ = cc in never)

-- in one that is there what is asked of it is the answer, by what is shown
pub told-span : (f : Span → Commit → Bool) (own opened : Option Span) (its shown : Commit) (answer : Bool) → own ≡ opened → is_some opened ≡ true → its ≡ shown → ((t : Span) → opened ≡ Some t → answer ≡ f t its)
    → answer ≡ option_map_or (λ t. f t shown) own true
told-span f None None its shown answer same there is holds = absurd (let never : ⊥ = cc in never)
told-span f None (Some t) its shown answer same there is holds = absurd (let never : ⊥ = cc in never)
told-span f (Some t) None its shown answer same there is holds = absurd (let never : ⊥ = cc in never)
told-span f (Some t) (Some other) its shown answer same there is holds =
    let one : other ≡ t = cc in
    holds other refl ∙ ap (λ (s : Span). f s its) one ∙ ap (f t) is

-- what the reply that is asked shows of a commit
pub commit-by : (asked entry : Entry) (told its : Commit) → entry ≡ asked → told ≡ commit_shown entry.reply.said → told ≡ its → its ≡ commit_shown asked.reply.said
commit-by asked entry told its same is at = sym at ∙ is ∙ ap (λ (e : Entry). commit_shown e.reply.said) same
