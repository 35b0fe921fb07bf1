-- Which replies stand before one in the order of lines, and what those before it, or not after it,
-- show.
use Rattle.std.proofs.Common.{◌≡◌, ◌⊎◌, inl, inr, ℕ, ◌<◌, Bool, true, false, cond, ◌&&◌, ◌||◌, eqb, nat_lt, List, [], ◌∷◌, ◌++◌, Option, None, Some, refl, sym, ap, ◌∙◌, subst, arith, append_assoc, append-nil}
use Rattle.std.specs.List.{filter, list_all, cons_option}
use Rattle.std.proofs.lemmas.Bool.{eq-eqb, lt-ltb, le-ltb, ne_eqb, not_from_false, not_from_true}
use Rattle.std.proofs.lemmas.List.Elements.{filter-append, filter_map-append}
use Rattle.workload_spec.specs.declared.reply.Who.{Who}
use Rattle.workload_spec.specs.declared.reply.Said.{Said}
use Rattle.outcome_spec.specs.Entries.{Entry, before, not_after, is_before, is_not_after, is_same, shown_in}
use Rattle.order_laws.specs.Places.{Rises, is_ahead, is_earlier}
use Rattle.order_laws.proofs.Places.{Behind, Beside, Own, ahead-cases, earlier-itself, front-ahead, rest-behind, same-is}
use Rattle.order_laws.proofs.Order.{same-itself}
use Rattle.timeline_laws.proofs.Order.{before-itself}
use Rattle.bench_laws.proofs.Every.{Every, Has, all-has}

-- ---- tests of two replies

-- Whether one reply is before another, by the tests of rounds, sessions and indices.
before-test : (a b : Entry) (lower level same less : Bool) → nat_lt a.reply.round b.reply.round ≡ lower → eqb a.reply.round b.reply.round ≡ level
    → is_same a.reply.who b.reply.who ≡ same → nat_lt a.reply.index b.reply.index ≡ less → is_before a b ≡ (lower || level && same && less)
before-test a b lower level same less e f g h = rw (e, f, g, h) refl

-- A conjunction whose middle is false is false.
middle : (a c : Bool) → (a && false && c) ≡ false
middle true c = refl
middle false c = refl

-- A conjunction whose last part is false is false.
later : (a b : Bool) → (a && b && false) ≡ false
later true true = refl
later true false = refl
later false b = refl

-- a reply of an earlier round is before one of a later round
pub before-round : (a b : Entry) → a.reply.round < b.reply.round → is_before a b ≡ true
before-round a b h = let e : nat_lt a.reply.round b.reply.round ≡ true = lt-ltb a.reply.round b.reply.round h in rw e refl

-- and no reply of a later round is
pub not-before-round : (a b : Entry) → b.reply.round < a.reply.round → is_before a b ≡ false
not-before-round a b h =
    before-test a b false false (is_same a.reply.who b.reply.who) (nat_lt a.reply.index b.reply.index)
    (le-ltb a.reply.round b.reply.round (omega (arith, h))) (ne_eqb a.reply.round b.reply.round (λ e. omega (arith, h, e))) refl refl

-- A session that is earlier than another is not the same.
different : (a b : Who) → is_earlier a b ≡ true → (s : Bool) → is_same b a ≡ s → is_same b a ≡ false
different a b early true is =
    let same : b ≡ a = same-is b a is in
    let e : is_earlier a a ≡ true = subst (λ (w : Who). is_earlier a w ≡ true) same early in
    let never : true ≡ false = sym e ∙ earlier-itself a in
    absurd (let impossible : ⊥ = cc in impossible)
different a b early false is = is

-- what is ahead of a reply is not behind it
pub ahead-not : (a b : Entry) → is_ahead a b ≡ true → is_before b a ≡ false
ahead-not a b h = by (ahead-cases a b h)
  where
    by : Behind a b ⊎ (Beside a b ⊎ Own a b) → is_before b a ≡ false
    by (inl x) = not-before-round b a x.later
    by (inr (inl x)) =
        before-test b a false (eqb b.reply.round a.reply.round) false (nat_lt b.reply.index a.reply.index)
        (le-ltb b.reply.round a.reply.round (let e = x.round in omega (arith, e))) refl (different a.reply.who b.reply.who x.who (is_same b.reply.who a.reply.who) refl) refl
        ∙ middle (eqb b.reply.round a.reply.round) (nat_lt b.reply.index a.reply.index)
    by (inr (inr x)) =
        before-test b a false (eqb b.reply.round a.reply.round) (is_same b.reply.who a.reply.who) false
        (le-ltb b.reply.round a.reply.round (let e = x.round in omega (arith, e))) refl refl (le-ltb b.reply.index a.reply.index (let e = x.index in omega (arith, e)))
        ∙ later (eqb b.reply.round a.reply.round) (is_same b.reply.who a.reply.who)

-- it is before one to the same session
pub ahead-own : (a b : Entry) → is_ahead a b ≡ true → a.reply.who ≡ b.reply.who → is_before a b ≡ true
ahead-own a b h who = by (ahead-cases a b h)
  where
    by : Behind a b ⊎ (Beside a b ⊎ Own a b) → is_before a b ≡ true
    by (inl x) = before-round a b x.later
    by (inr (inl x)) =
        let e : is_earlier b.reply.who b.reply.who ≡ true = subst (λ (w : Who). is_earlier w b.reply.who ≡ true) who x.who in
        let never : true ≡ false = sym e ∙ earlier-itself b.reply.who in
        absurd (let impossible : ⊥ = cc in impossible)
    by (inr (inr x)) =
        before-test a b false true true true (le-ltb a.reply.round b.reply.round (let e = x.round in omega (arith, e))) (eq-eqb a.reply.round b.reply.round x.round)
        (subst (λ (w : Who). is_same w b.reply.who ≡ true) (sym who) (same-itself b.reply.who)) (lt-ltb a.reply.index b.reply.index x.index)

-- ---- of the replies in front of one and behind it

-- Where all elements pass a test, what follows from it holds of each.
every-of : {X : Type 0} (p : X → Bool) (P : X → Type 0) → ((x : X) → p x ≡ true → P x) → (xs : List X) → list_all p xs ≡ true → Every P xs
every-of p P so [] h = tt
every-of p P so (x ∷ xs) h = (so x (all-has p (x ∷ xs) x h (inl refl)), every-of p P so xs (rest h))
  where
    tail : (a b : Bool) → (a && b) ≡ true → b ≡ true
    tail true b k = k
    tail false b k = absurd (let never : ⊥ = cc in never)

    rest : (p x && list_all p xs) ≡ true → list_all p xs ≡ true
    rest k = tail (p x) (list_all p xs) k

module _ (front : List Entry) (e : Entry) (rest : List Entry) (rises : Rises (front ++ e ∷ rest)) where
  -- those in front of a reply are all ahead of it
  pub front-are : Every (λ x. is_ahead x e ≡ true) front
  front-are = every-of (λ x. is_ahead x e) (λ x. is_ahead x e ≡ true) (λ x h. h) front (front-ahead front e rest rises)

  -- and it is ahead of all those behind it
  pub rest-are : Every (λ x. is_ahead e x ≡ true) rest
  rest-are = every-of (is_ahead e) (λ x. is_ahead e x ≡ true) (λ x h. h) rest (rest-behind front e rest rises)

-- ---- what some of the replies show

-- the reply shows nothing of this kind, or the test has this answer of it
abbrev pub Kept : (Said → Option ℕ) → (Entry → Bool) → Bool → Entry → Type 0
Kept shown p b x = (shown x.reply.said ≡ None) ⊎ (p x ≡ b)

module _ (shown : Said → Option ℕ) (p : Entry → Bool) where
  -- One reply more: a filter that passes all that show something leaves what is shown.
  kept-step : (x : Entry) (xs : List Entry) (b : Bool) → (shown x.reply.said ≡ None) ⊎ (b ≡ true) → shown_in shown (filter p xs) ≡ shown_in shown xs
      → shown_in shown (cond b (x ∷ filter p xs) (filter p xs)) ≡ shown_in shown (x ∷ xs)
  kept-step x xs true h k = ap (cons_option (shown x.reply.said)) k
  kept-step x xs false (inl none) k = rw none k
  kept-step x xs false (inr never) k = absurd (let impossible : ⊥ = cc in impossible)

  -- a filter that passes all that show something leaves what is shown
  pub shown-kept : (xs : List Entry) → Every (Kept shown p true) xs → shown_in shown (filter p xs) ≡ shown_in shown xs
  shown-kept [] h = refl
  shown-kept (x ∷ xs) h = kept-step x xs (p x) h.0 (shown-kept xs h.1)

  -- One reply more: a filter that passes none that show something leaves nothing shown.
  dropped-step : (x : Entry) (xs : List Entry) (b : Bool) → (shown x.reply.said ≡ None) ⊎ (b ≡ false) → shown_in shown (filter p xs) ≡ []
      → shown_in shown (cond b (x ∷ filter p xs) (filter p xs)) ≡ []
  dropped-step x xs false h k = k
  dropped-step x xs true (inl none) k = rw none k
  dropped-step x xs true (inr never) k = absurd (let impossible : ⊥ = cc in impossible)

  -- a filter that passes none of them leaves nothing
  pub shown-dropped : (xs : List Entry) → Every (Kept shown p false) xs → shown_in shown (filter p xs) ≡ []
  shown-dropped [] h = refl
  shown-dropped (x ∷ xs) h = dropped-step x xs (p x) h.0 (shown-dropped xs h.1)

  -- what passes only those in front leaves what they show
  pub shown-both : (front rest : List Entry) → Every (Kept shown p true) front → Every (Kept shown p false) rest → shown_in shown (filter p (front ++ rest)) ≡ shown_in shown front
  shown-both front rest h k =
      ap (shown_in shown) (filter-append p front rest) ∙ filter_map-append (λ (x : Entry). shown x.reply.said) (filter p front) (filter p rest)
      ∙ ap (λ (xs : List ℕ). shown_in shown (filter p front) ++ xs) (shown-dropped rest k) ∙ append-nil (shown_in shown (filter p front)) ∙ shown-kept front h

-- Where one property follows from another, it holds of each reply that has the other.
every-so : (P Q : Entry → Type 0) → ((x : Entry) → P x → Q x) → (xs : List Entry) → Every P xs → Every Q xs
every-so P Q so [] h = tt
every-so P Q so (x ∷ xs) h = (so x h.0, every-so P Q so xs h.1)

-- What stands before the reply shows what those in front show, where each of these that shows
-- something is before it.
pub shown-before : (shown : Said → Option ℕ) (front : List Entry) (e : Entry) (rest : List Entry) → Rises (front ++ e ∷ rest)
    → Every (Kept shown (λ x. is_before x e) true) front → shown_in shown (before (front ++ e ∷ rest) e) ≡ shown_in shown front
shown-before shown front e rest rises h =
    shown-both shown (λ x. is_before x e) front (e ∷ rest) h
    (inr (before-itself e), every-so (λ x. is_ahead e x ≡ true) (Kept shown (λ x. is_before x e) false) (λ x ahead. inr (ahead-not e x ahead)) rest (rest-are front e rest rises))

-- What holds of each reply and of one more holds of each with it at the end.
every-push : (P : Entry → Type 0) (xs : List Entry) (x : Entry) → Every P xs → P x → Every P (xs ++ x ∷ [])
every-push P [] x h k = (k, tt)
every-push P (y ∷ xs) x h k = (h.0, every-push P xs x h.1 k)

-- And what is not after it shows what those in front and it show, where it is before each behind it
-- that shows something.
pub shown-not_after : (shown : Said → Option ℕ) (front : List Entry) (e : Entry) (rest : List Entry) → Rises (front ++ e ∷ rest)
    → Every (Kept shown (λ x. is_before e x) true) rest → shown_in shown (not_after (front ++ e ∷ rest) e) ≡ shown_in shown (front ++ e ∷ [])
shown-not_after shown front e rest rises h =
    ap (λ (es : List Entry). shown_in shown (not_after es e)) (sym (append_assoc front (e ∷ []) rest))
    ∙ shown-both shown (λ x. is_not_after x e) (front ++ e ∷ []) rest
    (every-push (Kept shown (λ x. is_not_after x e) true) front e
    (every-so (λ x. is_ahead x e ≡ true) (Kept shown (λ x. is_not_after x e) true) (λ x ahead. inr (not_from_false (is_before e x) (ahead-not x e ahead))) front (front-are front e rest rises))
    (inr (not_from_false (is_before e e) (before-itself e))))
    (every-so (Kept shown (λ x. is_before e x) true) (Kept shown (λ x. is_not_after x e) false) turn rest h)
  where
    turn : (x : Entry) → Kept shown (λ x. is_before e x) true x → Kept shown (λ x. is_not_after x e) false x
    turn x (inl none) = inl none
    turn x (inr is) = inr (not_from_true (is_before e x) is)

-- A number that an option shows is in the list that it begins.
has-step : (o : Option ℕ) (k : ℕ) (xs : List ℕ) → o ≡ Some k → Has k (cons_option o xs)
has-step None k xs h = absurd (let never : ⊥ = cc in never)
has-step (Some n) k xs h = inl (let e : n ≡ k = cc in e)

-- What a list has it still has with an option in front.
has-behind : (o : Option ℕ) (k : ℕ) (xs : List ℕ) → Has k xs → Has k (cons_option o xs)
has-behind None k xs h = h
has-behind (Some n) k xs h = inr h

-- what a reply shows is among what all show
pub has-shown : (shown : Said → Option ℕ) (xs : List Entry) (x : Entry) (k : ℕ) → Has x xs → shown x.reply.said ≡ Some k → Has k (shown_in shown xs)
has-shown shown [] x k h is = absurd h
has-shown shown (y ∷ xs) x k (inl same) is = has-step (shown y.reply.said) k (shown_in shown xs) (ap (λ (e : Entry). shown e.reply.said) same ∙ is)
has-shown shown (y ∷ xs) x k (inr rest) is = has-behind (shown y.reply.said) k (shown_in shown xs) (has-shown shown xs x k rest is)
