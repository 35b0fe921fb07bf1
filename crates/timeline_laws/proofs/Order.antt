-- The order of a timeline against that of the lines: what is before a reply came about in front of
-- it, and what came about in front of it is not after it.
use Rattle.std.proofs.Common.{◌≡◌, ℕ, Bool, true, false, cond, ◌&&◌, eqb, nat_lt, List, [], ◌∷◌, ◌++◌, Option, None, Some, refl, sym, ap, ◌∙◌, subst, arith}
use Rattle.std.specs.List.{filter, list_all, cons_option}
use Rattle.std.specs.Option.{option_map_or}
use Rattle.std.proofs.lemmas.Bool.Decides.{nat_tests}
use Rattle.std.proofs.lemmas.Bool.{eqb-true, and_from}
use Rattle.workload_spec.specs.declared.reply.Who.{Who}
use Rattle.workload_spec.specs.declared.reply.Who.TheVariants.{Session, Worker}
use Rattle.workload_spec.specs.declared.reply.Said.{Said}
use Rattle.outcome_spec.specs.Entries.{Entry, is_same, is_before, shown_in}
use Rattle.outcome_spec.proofs.Conditions.{both-left, both-right}
use Rattle.timeline_spec.specs.Timeline.{Each, Follows, InOrder}
use Rattle.outcome_spec.specs.Entries.{thread}
use Rattle.timeline_laws.proofs.Tests.{and-false}

-- what holds of each of two lists holds of each of both in a row
pub Each-append : (P : Entry → Type 0) (a b : List Entry) → Each P a → Each P b → Each P (a ++ b)
Each-append P [] b h k = k
Each-append P (entry ∷ a) b h k = (h.0, Each-append P a b h.1 k)

-- what holds of each of two lists in a row holds of each of the first
pub Each-first : (P : Entry → Type 0) (a b : List Entry) → Each P (a ++ b) → Each P a
Each-first P [] b h = tt
Each-first P (entry ∷ a) b h = (h.0, Each-first P a b h.1)

-- and of each of the second
pub Each-second : (P : Entry → Type 0) (a b : List Entry) → Each P (a ++ b) → Each P b
Each-second P [] b h = h
Each-second P (entry ∷ a) b h = Each-second P a b h.1

-- what follows from a fact of each reply holds of each
pub Each-weaker : (P Q : Entry → Type 0) (weaker : (entry : Entry) → P entry → Q entry) (entries : List Entry) → Each P entries → Each Q entries
Each-weaker P Q weaker [] h = tt
Each-weaker P Q weaker (entry ∷ entries) h = (weaker entry h.0, Each-weaker P Q weaker entries h.1)

-- what holds of each of a list holds of a reply at whose place it is split
pub Each-at : (P : Entry → Type 0) (front : List Entry) (entry : Entry) (rest : List Entry) → Each P (front ++ entry ∷ rest) → P entry
Each-at P front entry rest h = (Each-second P front (entry ∷ rest) h).0

-- who is who
pub same-itself : (who : Who) → is_same who who ≡ true
same-itself (Session a) = let e : eqb a a ≡ true = grind (arith, nat_tests) in e
same-itself (Worker a) = let e : eqb a a ≡ true = grind (arith, nat_tests) in e

-- sessions or workers that are taken as one are one
pub same-is : (a b : Who) → is_same a b ≡ true → a ≡ b
same-is (Session a) (Session b) h = ap Session (eqb-true a b h)
same-is (Session a) (Worker b) h = absurd (let never : ⊥ = cc in never)
same-is (Worker a) (Session b) h = absurd (let never : ⊥ = cc in never)
same-is (Worker a) (Worker b) h = ap Worker (eqb-true a b h)

-- a choice whether the first stands in the list
head-kept : (P : Entry → Type 0) (kept : Bool) (entry : Entry) (entries : List Entry) → kept ≡ true → Each P (cond kept (entry ∷ entries) entries) → P entry
head-kept P true entry entries is h = h.0
head-kept P false entry entries is h = absurd (let never : ⊥ = cc in never)

-- What holds of each, the first kept or not, holds of each behind it.
tail-kept : (P : Entry → Type 0) (kept : Bool) (entry : Entry) (entries : List Entry) → Each P (cond kept (entry ∷ entries) entries) → Each P entries
tail-kept P true entry entries h = h.1
tail-kept P false entry entries h = h

-- What holds of the first and of the others holds with it kept or not.
put-kept : (P : Entry → Type 0) (kept : Bool) (entry : Entry) (entries : List Entry) → P entry → Each P entries → Each P (cond kept (entry ∷ entries) entries)
put-kept P true entry entries h k = (h, k)
put-kept P false entry entries h k = k

-- what holds of each reply holds of each that passes a test
pub Each-filter : (P : Entry → Type 0) (test : Entry → Bool) (entries : List Entry) → Each P entries → Each P (filter test entries)
Each-filter P test [] h = tt
Each-filter P test (entry ∷ entries) h = put-kept P (test entry) entry (filter test entries) h.0 (Each-filter P test entries h.1)

-- what holds of each reply in every thread holds of each
pub Each-threads : (P : Entry → Type 0) (entries : List Entry) → ((who : Who) → Each P (thread who entries)) → Each P entries
Each-threads P [] h = tt
Each-threads P (entry ∷ entries) h = (
  head-kept P (is_same entry.reply.who entry.reply.who) entry (thread entry.reply.who entries) (same-itself entry.reply.who) (h entry.reply.who),
  Each-threads P entries (λ who. tail-kept P (is_same entry.reply.who who) entry (thread who entries) (h who)),
)

-- what holds of each reply of a timeline holds of each printed one, and the other way round
pub Each-printed : (P : Entry → Type 0) (printed timeline : List Entry) → ((who : Who) → thread who printed ≡ thread who timeline) → Each P timeline → Each P printed
Each-printed P printed timeline threads h =
    Each-threads P printed (λ who. subst (Each P) (sym (threads who)) (Each-filter P (λ entry. is_same entry.reply.who who) timeline h))

-- what holds of each printed reply holds of each of the timeline
pub Each-timeline : (P : Entry → Type 0) (printed timeline : List Entry) → ((who : Who) → thread who printed ≡ thread who timeline) → Each P printed → Each P timeline
Each-timeline P printed timeline threads h =
    Each-threads P timeline (λ who. subst (Each P) (threads who) (Each-filter P (λ entry. is_same entry.reply.who who) printed h))

-- a reply follows those in front, and those behind follow it
pub order-front : (front : List Entry) (entry : Entry) (rest : List Entry) → InOrder (front ++ entry ∷ rest) → Each (λ earlier. Follows earlier entry) front
order-front [] entry rest h = tt
order-front (first ∷ front) entry rest h = (Each-at (Follows first) front entry rest h.0, order-front front entry rest h.1)

-- in a list that is in order each reply behind one may come about behind it
pub order-rest : (front : List Entry) (entry : Entry) (rest : List Entry) → InOrder (front ++ entry ∷ rest) → Each (Follows entry) rest
order-rest [] entry rest h = h.0
order-rest (first ∷ front) entry rest h = order-rest front entry rest h.1

-- no reply is before itself
pub before-itself : (entry : Entry) → is_before entry entry ≡ false
before-itself entry =
    let round : nat_lt entry.reply.round entry.reply.round ≡ false = grind (arith, nat_tests) in
    let index : nat_lt entry.reply.index entry.reply.index ≡ false = grind (arith, nat_tests) in
    rw (round, index) (and-false (eqb entry.reply.round entry.reply.round && is_same entry.reply.who entry.reply.who))

-- From a test that fails and passes anything follows.
false-true : {P : Type 0} (b : Bool) → b ≡ false → b ≡ true → P
false-true b h k = absurd (let never : ⊥ = cc in never)

-- A fact of the replies in front holds of those before the reply; one of those behind holds of
-- those after it.
module _ (printed timeline front : List Entry) (entry : Entry) (rest : List Entry) (threads : (who : Who) → thread who printed ≡ thread who timeline)
    (whole : timeline ≡ front ++ entry ∷ rest) (order : InOrder timeline) where
  -- The timeline, cut at the reply, is in order.
  in_order : InOrder (front ++ entry ∷ rest)
  in_order = subst InOrder whole order

  -- a fact of the replies in front holds of all printed before the reply
  pub before-each : (P : Entry → Type 0) → Each P front → Each (λ other. is_before other entry ≡ true → P other) printed
  before-each P h =
      Each-printed (λ other. is_before other entry ≡ true → P other) printed timeline threads
      (subst (Each (λ other. is_before other entry ≡ true → P other)) (sym whole)
      (Each-append (λ other. is_before other entry ≡ true → P other) front (entry ∷ rest)
      (Each-weaker P (λ other. is_before other entry ≡ true → P other) (λ other h is. h) front h) (
        false-true (is_before entry entry) (before-itself entry),
        Each-weaker (Follows entry) (λ other. is_before other entry ≡ true → P other) (λ other follows. false-true (is_before other entry) follows.not_before) rest (order-rest front entry rest in_order),
      )))

  -- a fact of the replies behind holds of all printed after the reply
  pub after-each : (P : Entry → Type 0) → Each P rest → Each (λ other. is_before entry other ≡ true → P other) printed
  after-each P h =
      Each-printed (λ other. is_before entry other ≡ true → P other) printed timeline threads
      (subst (Each (λ other. is_before entry other ≡ true → P other)) (sym whole)
      (Each-append (λ other. is_before entry other ≡ true → P other) front (entry ∷ rest)
      (Each-weaker (λ earlier. Follows earlier entry) (λ other. is_before entry other ≡ true → P other) (λ other follows. false-true (is_before entry other) follows.not_before) front (order-front front entry rest in_order)) (
        false-true (is_before entry entry) (before-itself entry),
        Each-weaker P (λ other. is_before entry other ≡ true → P other) (λ other h is. h) rest h,
      )))

-- tests of those that pass another test
all-filter-step : (test choice : Bool) (entry : Entry) (p : Entry → Bool) (entries : List Entry) → p entry ≡ test → (choice ≡ true → test ≡ true) → list_all p entries ≡ true
    → list_all p (cond choice (entry ∷ entries) entries) ≡ true
all-filter-step test true entry p entries is h k = and_from (p entry) (list_all p entries) (is ∙ h refl) k
all-filter-step test false entry p entries is h k = k

-- all that are chosen pass, where each passes if it is chosen
pub all-filter : (p choice : Entry → Bool) (entries : List Entry) → Each (λ entry. choice entry ≡ true → p entry ≡ true) entries → list_all p (filter choice entries) ≡ true
all-filter p choice [] h = refl
all-filter p choice (entry ∷ entries) h = all-filter-step (p entry) (choice entry) entry p (filter choice entries) refl h.0 (all-filter p choice entries h.1)

-- where each passes, all pass
pub each-all : (p : Entry → Bool) (entries : List Entry) → Each (λ entry. p entry ≡ true) entries → list_all p entries ≡ true
each-all p [] h = refl
each-all p (entry ∷ entries) h = and_from (p entry) (list_all p entries) h.0 (each-all p entries h.1)

-- the number that a reply shows, if it shows one, passes
abbrev pub shows_only : (ℕ → Bool) → (Said → Option ℕ) → Entry → Bool
shows_only p shown entry = option_map_or p (shown entry.reply.said) true

-- Where all that are shown pass, the first one does, if it is there, and the others.
shown-head : (p : ℕ → Bool) (o : Option ℕ) (others : List ℕ) → list_all p (cons_option o others) ≡ true → (option_map_or p o true ≡ true) × (list_all p others ≡ true)
shown-head p None others h = (refl, h)
shown-head p (Some n) others h = (both-left (p n) (list_all p others) h, both-right (p n) (list_all p others) h)

-- One or none that passes, in front of others that pass, passes with them.
shown-put : (p : ℕ → Bool) (o : Option ℕ) (others : List ℕ) → option_map_or p o true ≡ true → list_all p others ≡ true → list_all p (cons_option o others) ≡ true
shown-put p None others h k = k
shown-put p (Some n) others h k = and_from (p n) (list_all p others) h k

-- where all shown numbers pass, the number of each reply passes
pub shown-each : (p : ℕ → Bool) (shown : Said → Option ℕ) (entries : List Entry) → list_all p (shown_in shown entries) ≡ true → Each (λ entry. shows_only p shown entry ≡ true) entries
shown-each p shown [] h = tt
shown-each p shown (entry ∷ entries) h =
    let parts = shown-head p (shown entry.reply.said) (shown_in shown entries) h in
    (parts.0, shown-each p shown entries parts.1)

-- One more reply whose number passes where it is chosen keeps that all pass.
shown-filter-step : (p : ℕ → Bool) (shown : Said → Option ℕ) (choice : Bool) (entry : Entry) (entries : List Entry) → (choice ≡ true → shows_only p shown entry ≡ true)
    → list_all p (shown_in shown entries) ≡ true → list_all p (shown_in shown (cond choice (entry ∷ entries) entries)) ≡ true
shown-filter-step p shown true entry entries h k = shown-put p (shown entry.reply.said) (shown_in shown entries) (h refl) k
shown-filter-step p shown false entry entries h k = k

-- the numbers of chosen replies pass, where each reply's passes if it is chosen
pub shown-filter : (p : ℕ → Bool) (shown : Said → Option ℕ) (choice : Entry → Bool) (entries : List Entry) → Each (λ entry. choice entry ≡ true → shows_only p shown entry ≡ true) entries
    → list_all p (shown_in shown (filter choice entries)) ≡ true
shown-filter p shown choice [] h = refl
shown-filter p shown choice (entry ∷ entries) h = shown-filter-step p shown (choice entry) entry (filter choice entries) h.0 (shown-filter p shown choice entries h.1)
