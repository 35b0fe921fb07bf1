-- No two replies of a timeline have one round, session or worker, and index.
use Rattle.std.proofs.Common.{◌≡◌, Bool, true, false, ◌&&◌, eqb, nat_lt, List, [], ◌∷◌, ◌++◌, refl, sym, ◌∙◌, subst, arith, append_assoc}
use Rattle.std.specs.List.{list_any}
use Rattle.std.proofs.lemmas.Bool.{and_parts, eqb-true, eq-eqb}
use Rattle.std.proofs.lemmas.Bool.Decides.{nat_tests}
use Rattle.workload_spec.specs.declared.reply.Who.{Who}
use Rattle.outcome_spec.specs.Entries.{Entry, is_same, is_before}
use Rattle.outcome_spec.specs.Entries.{is_reply}
use Rattle.timeline_spec.specs.Timeline.{Each, Follows, InOrder}
use Rattle.outcome_spec.specs.Entries.{thread}
use Rattle.timeline_laws.proofs.Tests.{and-false}
use Rattle.timeline_laws.proofs.Order.{Each-append, Each-weaker, Each-printed, Each-first, Each-second, before-itself, order-front, order-rest, same-is, same-itself}

-- no other reply among these is the same one
abbrev pub Only : List Entry → Entry → Type 0
Only entries entry = Each (λ other. is_reply entry other ≡ true → other ≡ entry) entries

-- a reply that is the same one has its round, session or worker, and index
same-parts : (a b : Entry) → is_reply a b ≡ true → (a.reply.round ≡ b.reply.round) × (a.reply.who ≡ b.reply.who) × (a.reply.index ≡ b.reply.index)
same-parts a b h =
    let outer = and_parts (eqb a.reply.round b.reply.round && is_same a.reply.who b.reply.who) (eqb a.reply.index b.reply.index) h in
    let inner = and_parts (eqb a.reply.round b.reply.round) (is_same a.reply.who b.reply.who) outer.0 in
    (eqb-true a.reply.round b.reply.round inner.0, same-is a.reply.who b.reply.who inner.1, eqb-true a.reply.index b.reply.index outer.1)

-- so it isn't before that
not-before-same : (a b : Entry) → is_reply a b ≡ true → is_before a b ≡ false
not-before-same a b h =
    let same = same-parts a b h in
    let round : nat_lt a.reply.round b.reply.round ≡ false = grind (arith, nat_tests, same.0) in
    let index : nat_lt a.reply.index b.reply.index ≡ false = grind (arith, nat_tests, same.2) in
    rw (round, index) (and-false (eqb a.reply.round b.reply.round && is_same a.reply.who b.reply.who))

-- Two replies that are one are so the other way round.
turned : (a b : Entry) → is_reply a b ≡ true → is_reply b a ≡ true
turned a b h =
    let same = same-parts a b h in
    let round : eqb b.reply.round a.reply.round ≡ true = eq-eqb b.reply.round a.reply.round (sym same.0) in
    let who : is_same b.reply.who a.reply.who ≡ true = subst (λ (w : Who). is_same w a.reply.who ≡ true) same.1 (same-itself a.reply.who) in
    let index : eqb b.reply.index a.reply.index ≡ true = eq-eqb b.reply.index a.reply.index (sym same.2) in
    rw (round, who, index) refl

-- of two replies in order one is not the other
apart-behind : (earlier later : Entry) → Follows earlier later → is_reply earlier later ≡ true → later ≡ earlier
apart-behind earlier later follows h =
    let same = same-parts earlier later h in
    let who : is_same later.reply.who earlier.reply.who ≡ true = subst (λ (w : Who). is_same w earlier.reply.who ≡ true) same.1 (same-itself earlier.reply.who) in
    let is_not : is_before earlier later ≡ false = not-before-same earlier later h in
    absurd (let f : true ≡ false = sym (follows.in_turn who) ∙ is_not in let never : ⊥ = cc in never)

-- Of two replies in order, the earlier is taken for the later only where they are equal.
apart-ahead : (earlier later : Entry) → Follows earlier later → is_reply later earlier ≡ true → earlier ≡ later
apart-ahead earlier later follows h = sym (apart-behind earlier later follows (turned later earlier h))

-- each reply behind these, which all follow those, is the only one of its round, session or worker,
-- and index
unique-from : (front rest : List Entry) → InOrder (front ++ rest) → Each (Only (front ++ rest)) rest
unique-from front [] order = tt
unique-from front (entry ∷ rest) order = (
  Each-append (λ other. is_reply entry other ≡ true → other ≡ entry) front (entry ∷ rest)
      (Each-weaker (λ earlier. Follows earlier entry) (λ other. is_reply entry other ≡ true → other ≡ entry) (λ other follows. apart-ahead other entry follows) front (order-front front entry rest order)) (
        λ same. refl,
        Each-weaker (Follows entry) (λ other. is_reply entry other ≡ true → other ≡ entry) (λ other follows. apart-behind entry other follows) rest (order-rest front entry rest order),
      ),
  subst (λ (whole : List Entry). Each (Only whole) rest) (append_assoc front (entry ∷ []) rest)
      (unique-from (front ++ entry ∷ []) rest (subst InOrder (sym (append_assoc front (entry ∷ []) rest)) order)),
)

-- Each reply of a timeline is the only printed one of its round, session or worker, and index.
pub unique : (printed timeline : List Entry) → ((who : Who) → thread who printed ≡ thread who timeline) → InOrder timeline → Each (Only printed) timeline
unique printed timeline threads order =
    Each-weaker (Only timeline) (Only printed) (λ entry only. Each-printed (λ other. is_reply entry other ≡ true → other ≡ entry) printed timeline threads only) timeline (unique-from [] timeline order)

-- no reply in front of one, nor behind it, is that one
earlier-by : (entry other : Entry) → Follows other entry → (is_reply entry other ≡ true → other ≡ entry) → (b : Bool) → is_reply entry other ≡ b → is_reply entry other ≡ false
earlier-by entry other follows only true is =
    let e : other ≡ entry = only is in
    let f : is_before other entry ≡ true = follows.in_turn (subst (λ (o : Entry). is_same entry.reply.who o.reply.who ≡ true) (sym e) (same-itself entry.reply.who)) in
    let g : is_before other entry ≡ false = subst (λ (o : Entry). is_before o entry ≡ false) (sym e) (before-itself entry) in
    let never : true ≡ false = sym f ∙ g in
    absurd (let impossible : ⊥ = cc in impossible)
earlier-by entry other follows only false is = is

-- A reply that may come about behind another is not that one.
later-by : (entry other : Entry) → Follows entry other → (is_reply entry other ≡ true → other ≡ entry) → (b : Bool) → is_reply entry other ≡ b → is_reply entry other ≡ false
later-by entry other follows only true is =
    let e : other ≡ entry = only is in
    let f : is_before entry other ≡ true = follows.in_turn (subst (λ (o : Entry). is_same o.reply.who entry.reply.who ≡ true) (sym e) (same-itself entry.reply.who)) in
    let g : is_before entry other ≡ false = subst (λ (o : Entry). is_before entry o ≡ false) (sym e) (before-itself entry) in
    let never : true ≡ false = sym f ∙ g in
    absurd (let impossible : ⊥ = cc in impossible)
later-by entry other follows only false is = is

-- Of the replies that one follows, none is that one.
none-earlier : (front : List Entry) (entry : Entry) → Each (λ earlier. Follows earlier entry) front → Only front entry → Each (λ other. is_reply entry other ≡ false) front
none-earlier [] entry h only = tt
none-earlier (other ∷ front) entry h only = (earlier-by entry other h.0 only.0 (is_reply entry other) refl, none-earlier front entry h.1 only.1)

-- Of the replies that follow one, none is that one.
none-later : (entry : Entry) (rest : List Entry) → Each (Follows entry) rest → Only rest entry → Each (λ other. is_reply entry other ≡ false) rest
none-later entry [] h only = tt
none-later entry (other ∷ rest) h only = (later-by entry other h.0 only.0 (is_reply entry other) refl, none-later entry rest h.1 only.1)

-- in a timeline no reply in front has the reply's round, session and index
pub none-in_front : (front : List Entry) (entry : Entry) (rest : List Entry) → InOrder (front ++ entry ∷ rest) → Only (front ++ entry ∷ rest) entry → Each (λ other. is_reply entry other ≡ false) front
none-in_front front entry rest order only =
    none-earlier front entry (order-front front entry rest order) (Each-first (λ other. is_reply entry other ≡ true → other ≡ entry) front (entry ∷ rest) only)

-- and none behind it has them
pub none-behind : (front : List Entry) (entry : Entry) (rest : List Entry) → InOrder (front ++ entry ∷ rest) → Only (front ++ entry ∷ rest) entry → Each (λ other. is_reply entry other ≡ false) rest
none-behind front entry rest order only =
    none-later entry rest (order-rest front entry rest order) (Each-second (λ other. is_reply entry other ≡ true → other ≡ entry) front (entry ∷ rest) only).1

-- a reply has its own round, session and index
pub itself : (entry : Entry) → is_reply entry entry ≡ true
itself entry =
    let round : eqb entry.reply.round entry.reply.round ≡ true = eq-eqb entry.reply.round entry.reply.round refl in
    let index : eqb entry.reply.index entry.reply.index ≡ true = eq-eqb entry.reply.index entry.reply.index refl in
    rw (round, same-itself entry.reply.who, index) refl

-- where each fails the test none passes it
pub any-none : (p : Entry → Bool) (entries : List Entry) → Each (λ entry. p entry ≡ false) entries → list_any p entries ≡ false
any-none p [] h = refl
any-none p (entry ∷ entries) h = rw (h.0) (any-none p entries h.1)
