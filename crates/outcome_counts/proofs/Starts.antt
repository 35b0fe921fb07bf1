-- Where the own replies of each reply begin, for replies that rise.
use Rattle.std.proofs.Common.{◌≡◌, ℕ, ◌+◌, ◌<◌, ◌≤◌, ◌⊎◌, inl, inr, zero, suc, true, ◌&&◌, ◌||◌, eqb, nat_lt, List, [], ◌∷◌, ◌++◌, length, slice_get, slice_index_or, Option, Some, refl, sym, ap, ◌∙◌, subst, arith, append_assoc}
use Rattle.std.specs.List.{list_all, count_by}
use Rattle.std.specs.Option.{option_map_or}
use Rattle.std.proofs.lemmas.Bool.{and_parts, or_left, or_right, and_from}
use Rattle.std.proofs.lemmas.Bool.Decides.{nat_tests}
use Rattle.std.proofs.lemmas.List.{length-append}
use Rattle.workload_spec.specs.declared.reply.Who.{Who}
use Rattle.outcome_spec.specs.Entries.{Entry}
use Rattle.order_laws.specs.Places.{Rises, is_ahead, is_earlier, is_in_front, own_start}
use Rattle.order_laws.specs.Sides.{is_past}
use Rattle.order_laws.proofs.Pieces.{back-reaches, parted-back}
use Rattle.order_laws.proofs.Places.{Behind, Beside, Own, ahead-cases, rest-behind, os-at, front-parts}
use Rattle.mark_index.specs.Marks.{AreStarts}
use Rattle.output_read.specs.Kept.{entries_of, entry_of}
use Rattle.output_read.specs.declared.kept.KeptReply.{KeptReply}
use Rattle.outcome_counts.specs.BlockMarks.{starts_in}

-- an element with those in front of it and those behind it
pub record At {X : Type 0} (xs : List X) (place : ℕ) : Type 0 where
  pub front : List X
  pub item : X
  pub rest : List X
  pub whole : xs ≡ front ++ item ∷ rest
  pub far : length front ≡ place
  pub found : slice_get xs place ≡ Some item

-- each place of a list has an element, with those in front of it and behind it
pub at-place : {X : Type 0} (xs : List X) (place : ℕ) → place < length xs → At xs place
at-place [] place h = absurd (omega (arith, h))
at-place (x ∷ xs) zero h = record { front = []; item = x; rest = xs; whole = refl; far = refl; found = refl }
at-place (x ∷ xs) (suc place) h =
    let later = at-place xs place (omega (arith, h)) in
    record {
      front = x ∷ later.front;
      item = later.item;
      rest = later.rest;
      whole = ap (λ ys. x ∷ ys) later.whole;
      far = ap suc later.far;
      found = later.found;
    }

-- behind a front stands the element that follows it
pub get-at : {X : Type 0} (front : List X) (x : X) (rest : List X) → slice_get (front ++ x ∷ rest) (length front) ≡ Some x
get-at [] x rest = refl
get-at (y ∷ front) x rest = get-at front x rest

-- what starts at a place of these replies
pub start-at : (entries front : List Entry) (entry : Entry) (rest : List Entry) (place : ℕ) → entries ≡ front ++ entry ∷ rest → length front ≡ place → starts_in entries place ≡ own_start entries entry
start-at entries front entry rest place whole far =
    let found : slice_get entries place ≡ Some entry = ap (λ (es : List Entry). slice_get es place) whole ∙ ap (λ (n : ℕ). slice_get (front ++ entry ∷ rest) n) (sym far) ∙ get-at front entry rest in
    ap (λ (o : Option Entry). option_map_or (own_start entries) o 0) found

-- A reply's own begin no further on than at it.
low-at : (entries front : List Entry) (entry : Entry) (rest : List Entry) → entries ≡ front ++ entry ∷ rest → Rises entries → own_start entries entry ≤ length front
low-at entries front entry rest whole rises =
    subst (λ (es : List Entry). own_start es entry ≤ length front) (sym whole) (os-at front entry rest (subst Rises whole rises))

-- replies of one round and to one session or worker have the same ones in front
same-front : (x y : Entry) → x.reply.round ≡ y.reply.round → x.reply.who ≡ y.reply.who → (entries : List Entry) → own_start entries y ≡ own_start entries x
same-front x y round who entries =
    ap (λ (n : ℕ). count_by (λ (o : Entry). nat_lt o.reply.round n || eqb o.reply.round n && is_earlier o.reply.who y.reply.who) entries) (sym round)
    ∙ ap (λ (w : Who). count_by (λ (o : Entry). nat_lt o.reply.round x.reply.round || eqb o.reply.round x.reply.round && is_earlier o.reply.who w) entries) (sym who)

-- A reply behind or beside another has the other in front.
in-front : (x y : Entry) → Behind x y ⊎ Beside x y → is_in_front y x ≡ true
in-front x y (inl b) = or_left (is_past y x) (eqb x.reply.round y.reply.round && is_earlier x.reply.who y.reply.who) (let l = b.later in grind (arith, nat_tests, l))
in-front x y (inr b) = or_right (is_past y x) (eqb x.reply.round y.reply.round && is_earlier x.reply.who y.reply.who)
    (and_from (eqb x.reply.round y.reply.round) (is_earlier x.reply.who y.reply.who) (let r = b.round in grind (arith, nat_tests, r)) b.who)

-- The next reply's own begin at it, or where those of the one in front of it do.
next-start : (front : List Entry) (x y : Entry) (rest : List Entry) → Rises (front ++ x ∷ y ∷ rest) → Behind x y ⊎ (Beside x y ⊎ Own x y)
    → (own_start (front ++ x ∷ y ∷ rest) y ≡ length front + 1) ⊎ (own_start (front ++ x ∷ y ∷ rest) y ≡ own_start (front ++ x ∷ y ∷ rest) x)
next-start front x y rest rises how = by how
  where
    fresh : Behind x y ⊎ Beside x y → own_start (front ++ x ∷ y ∷ rest) y ≡ length front + 1
    fresh h =
        let high : length front < own_start (front ++ x ∷ y ∷ rest) y =
        back-reaches (is_in_front y) (own_start (front ++ x ∷ y ∷ rest) y) front x (y ∷ rest) (in-front x y h) (parted-back (is_in_front y) (front ++ x ∷ y ∷ rest) (front-parts y (front ++ x ∷ y ∷ rest) rises)) in
        let low : own_start (front ++ x ∷ y ∷ rest) y ≤ length (front ++ x ∷ []) = low-at (front ++ x ∷ y ∷ rest) (front ++ x ∷ []) y rest (sym (append_assoc front (x ∷ []) (y ∷ rest))) rises in
        let far = length-append front (x ∷ []) in
        omega (arith, high, low, far)

    by : Behind x y ⊎ (Beside x y ⊎ Own x y) → (own_start (front ++ x ∷ y ∷ rest) y ≡ length front + 1) ⊎ (own_start (front ++ x ∷ y ∷ rest) y ≡ own_start (front ++ x ∷ y ∷ rest) x)
    by (inl b) = inl (fresh (inl b))
    by (inr (inl b)) = inl (fresh (inr b))
    by (inr (inr o)) = inr (same-front x y o.round o.who (front ++ x ∷ y ∷ rest))

-- What starts at the next place is this place, or what starts at the one in front.
go-on : (entries front : List Entry) (x : Entry) (rest : List Entry) (place : ℕ) → entries ≡ front ++ x ∷ rest → length front ≡ place → Rises entries → place + 1 < length entries
    → (starts_in entries (place + 1) ≡ place + 1) ⊎ (starts_in entries (place + 1) ≡ starts_in entries place)
go-on entries front x [] place whole far rises inside =
    let l = ap length whole in let m = length-append front (x ∷ []) in absurd (omega (arith, inside, far, l, m))
go-on entries front x (y ∷ rest) place whole far rises inside = to (next-start front x y rest (subst Rises whole rises) (ahead-cases x y (and_parts (is_ahead x y) (list_all (is_ahead x) rest) (rest-behind front x (y ∷ rest) (subst Rises whole rises))).0))
  where
    here : starts_in entries place ≡ own_start (front ++ x ∷ y ∷ rest) x
    here = start-at entries front x (y ∷ rest) place whole far ∙ ap (λ (es : List Entry). own_start es x) whole

    next : starts_in entries (place + 1) ≡ own_start (front ++ x ∷ y ∷ rest) y
    next =
        start-at entries (front ++ x ∷ []) y rest (place + 1) (whole ∙ sym (append_assoc front (x ∷ []) (y ∷ rest))) (length-append front (x ∷ []) ∙ ap (λ (n : ℕ). n + 1) far)
        ∙ ap (λ (es : List Entry). own_start es y) whole

    to : (own_start (front ++ x ∷ y ∷ rest) y ≡ length front + 1) ⊎ (own_start (front ++ x ∷ y ∷ rest) y ≡ own_start (front ++ x ∷ y ∷ rest) x)
        → (starts_in entries (place + 1) ≡ place + 1) ⊎ (starts_in entries (place + 1) ≡ starts_in entries place)
    to (inl fresh) = inl (next ∙ fresh ∙ ap (λ (n : ℕ). n + 1) far)
    to (inr same) = inr (next ∙ same ∙ sym here)

-- The own replies of each reply begin at it, or where those of the one in front of it do.
pub starts-are : (entries : List Entry) → Rises entries → AreStarts entries (starts_in entries)
starts-are entries rises = record {
  up_to = λ place inside.
      let at = at-place entries place inside in
      let here = start-at entries at.front at.item at.rest place at.whole at.far in
      let low = low-at entries at.front at.item at.rest at.whole rises in
      let far = at.far in
      omega (arith, here, low, far);
  go_on = λ place inside.
      let at = at-place entries place (omega (arith, inside)) in
      go-on entries at.front at.item at.rest place at.whole at.far rises inside;
}

-- A kept reply at a place, among the replies that kept ones are.
pub record KeptAt (replies : List KeptReply) (place : ℕ) (reply : KeptReply) : Type 0 where
  pub front : List Entry
  pub rest : List Entry
  pub whole : entries_of replies ≡ front ++ entry_of reply ∷ rest
  pub far : length front ≡ place
  pub there : (none : KeptReply) → slice_index_or replies place none ≡ reply

-- A kept reply that is found at its place is kept there.
kept-front : (replies : List KeptReply) (place : ℕ) (reply : KeptReply) → place < length replies → slice_index_or replies place reply ≡ reply → KeptAt replies place reply
kept-front [] place reply within is = absurd (omega (arith, within))
kept-front (kept ∷ replies) zero reply within is = record {
  front = [];
  rest = entries_of replies;
  whole = ap (λ (k : KeptReply). entry_of k ∷ entries_of replies) is;
  far = refl;
  there = λ none. is;
}
kept-front (kept ∷ replies) (suc place) reply within is =
    let later = kept-front replies place reply (omega (arith, within)) is in
    record {
      front = entry_of kept ∷ later.front;
      rest = later.rest;
      whole = ap (λ (es : List Entry). entry_of kept ∷ es) later.whole;
      far = ap suc later.far;
      there = later.there;
    }

-- each kept reply is found at its place among the replies
pub kept-at : (replies : List KeptReply) (place : ℕ) (reply : KeptReply) → place < length replies → reply ≡ slice_index_or replies place reply → KeptAt replies place reply
kept-at replies place reply within is = kept-front replies place reply within (sym is)
