-- Peaks from the end, and the highest after the reply that is judged.
use Rattle.std.proofs.Common.{◌≡◌, ℕ, ◌+◌, ◌-◌, ◌<◌, ◌≤◌, ◌⊎◌, inl, inr, max, Bool, true, false, ◌&&◌, ◌||◌, eqb, nat_lt, List, [], ◌∷◌, ◌++◌, length, take, drop, reverse, slice_get, Option, None, Some, refl, sym, ap, ◌∙◌, subst, arith, append_assoc}
use Rattle.std.specs.List.{count_by, list_all, filter_map, cons_option}
use Rattle.std.specs.Option.{option_map_or}
use Rattle.std.specs.Prelude.{slice_index_or, is_some}
use Rattle.std.proofs.lemmas.Bool.{and_parts, false_from_ne_true, or_from, and_right}
use Rattle.std.proofs.lemmas.Bool.Decides.{nat_tests}
use Rattle.std.proofs.lemmas.List.{length-append, length-reverse, length-drop, length-map, reverse-append, take_at, drop_at, take-append-drop, get_or_default}
use Rattle.workload_spec.specs.declared.reply.Who.{Who}
use Rattle.outcome_spec.specs.Entries.{Entry, is_same, after}
use Rattle.order_laws.specs.Places.{Rises, is_ahead, is_earlier, is_up_to, is_up_to_own, own_end, round_end, between}
use Rattle.order_laws.proofs.Pieces.{front-reaches, parted-front, drop-between}
use Rattle.order_laws.proofs.Places.{Behind, Beside, Own, ahead-cases, rest-behind, at-oe, own-parts, by-places, earlier-not, earlier-itself, same-is}
use Rattle.mark_index.specs.Marks.{AreStarts, highest, most_below, own_below, part}
use Rattle.mark_index.specs.declared.marks.Peak.{Peak}
use Rattle.mark_index.proofs.Noted.{highest-append, highest-push}
use Rattle.output_read.specs.Kept.{entries_of, entry_of}
use Rattle.output_read.specs.declared.kept.KeptReply.{KeptReply}
use Rattle.outcome_counts.specs.Asked.{IsAsked, asked_at}
use Rattle.outcome_counts.specs.LaterCommits.{AreLater, below_commit, ends_in, below}
use Rattle.outcome_counts.specs.declared.stretch.Stretch.{Stretch}
use Rattle.outcome_counts.proofs.Counts.{InOrder, in-order}
use Rattle.outcome_counts.proofs.Starts.{at-place, get-at, KeptAt, kept-at}

-- ---- lists from their ends

-- a list that is turned around has the same element where it is split
pub turned-at : {X : Type 0} (front : List X) (x : X) (rest : List X) → reverse (front ++ x ∷ rest) ≡ reverse rest ++ x ∷ reverse front
turned-at front x rest =
    ap reverse (sym (append_assoc front (x ∷ []) rest)) ∙ reverse-append (front ++ x ∷ []) rest ∙ ap (λ ys. reverse rest ++ ys) (reverse-append front (x ∷ []))

-- the highest of a list that is turned around is the same
pub highest-reverse : {X : Type 0} (f : X → ℕ) (xs : List X) → highest f (reverse xs) ≡ highest f xs
highest-reverse f [] = refl
highest-reverse f (x ∷ xs) =
    let rest = highest-reverse f xs in
    let whole : highest f (reverse (x ∷ xs)) ≡ max (highest f (reverse xs)) (f x) = ap (highest f) (reverse-append (x ∷ []) xs) ∙ highest-push f (reverse xs) x in
    omega (arith, rest, whole)

-- the front of a list that is turned around is the turned rest
pub take-reverse : {X : Type 0} (n : ℕ) (xs : List X) → n ≤ length xs → take (length xs - n) (reverse xs) ≡ reverse (drop n xs)
take-reverse n xs h =
    ap (λ ys. take (length xs - n) ys) (ap reverse (sym (take-append-drop n xs)) ∙ reverse-append (take n xs) (drop n xs))
    ∙ take_at (reverse (drop n xs)) (reverse (take n xs)) (length xs - n) (length-reverse (drop n xs) ∙ length-drop n xs)

-- ---- where own replies begin from the end

-- where the own replies of a reply begin from the end, by where they end
pub end-at : (entries front : List Entry) (entry : Entry) (rest : List Entry) (back : ℕ) → entries ≡ front ++ entry ∷ rest → length rest ≡ back → ends_in entries back ≡ length entries - own_end entries entry
end-at entries front entry rest back whole far =
    let found : slice_get (reverse entries) back ≡ Some entry =
    ap (λ (es : List Entry). slice_get (reverse es) back) whole ∙ ap (λ (es : List Entry). slice_get es back) (turned-at front entry rest)
    ∙ ap (λ (n : ℕ). slice_get (reverse rest ++ entry ∷ reverse front) n) (sym (length-reverse rest ∙ far)) ∙ get-at (reverse rest) entry (reverse front) in
    ap (λ (o : Option Entry). length entries - option_map_or (own_end entries) o 0) found

-- A reply stands in front of where its own end.
high-at : (entries front : List Entry) (entry : Entry) (rest : List Entry) → entries ≡ front ++ entry ∷ rest → Rises entries → length front < own_end entries entry
high-at entries front entry rest whole rises =
    subst (λ (es : List Entry). length front < own_end es entry) (sym whole) (at-oe front entry rest (subst Rises whole rises))

-- Replies of one round to one session or worker have their own end at one place.
same-end : (x y : Entry) → x.reply.round ≡ y.reply.round → x.reply.who ≡ y.reply.who → (entries : List Entry) → own_end entries x ≡ own_end entries y
same-end x y round who entries =
    ap (λ (n : ℕ). count_by (λ (o : Entry). nat_lt o.reply.round n || eqb o.reply.round n && is_up_to o.reply.who x.reply.who) entries) round
    ∙ ap (λ (w : Who). count_by (λ (o : Entry). nat_lt o.reply.round y.reply.round || eqb o.reply.round y.reply.round && is_up_to o.reply.who w) entries) who

-- Where one is earlier than another, this other is not up to the one.
up-not : (a b : Who) → is_earlier a b ≡ true → is_up_to b a ≡ false
up-not a b h = or_from (is_earlier b a) (is_same b a) (earlier-not a b h) (false_from_ne_true (is_same b a) (λ same. never (same-is b a same)))
  where
    never : b ≡ a → ⊥
    never e =
        let k : is_earlier a a ≡ true = subst (λ (w : Who). is_earlier a w ≡ true) e h in
        let f : true ≡ false = sym k ∙ earlier-itself a in
        let impossible : ⊥ = cc in impossible

-- A reply of a later round, or to a later one in the round, is not up to one's own.
behind-not : (x y : Entry) → Behind x y ⊎ Beside x y → is_up_to_own x y ≡ false
behind-not x y (inl b) =
    let l = b.later in
    let less : nat_lt y.reply.round x.reply.round ≡ false = grind (arith, nat_tests, l) in
    let equal : eqb y.reply.round x.reply.round ≡ false = grind (arith, nat_tests, l) in
    rw (less, equal) refl
behind-not x y (inr b) =
    let r = b.round in
    let less : nat_lt y.reply.round x.reply.round ≡ false = grind (arith, nat_tests, r) in
    or_from (nat_lt y.reply.round x.reply.round) (eqb y.reply.round x.reply.round && is_up_to y.reply.who x.reply.who) less
    (ap (λ (t : Bool). eqb y.reply.round x.reply.round && t) (up-not x.reply.who y.reply.who b.who) ∙ and_right (eqb y.reply.round x.reply.round) false refl)

-- Where the next reply is none of its own, a reply's own end behind it.
fresh-end : (entries front : List Entry) (x y : Entry) (rest : List Entry) → entries ≡ front ++ x ∷ y ∷ rest → Rises entries → Behind x y ⊎ Beside x y → own_end entries x ≡ length front + 1
fresh-end entries front x y rest whole rises how =
    let low = high-at entries front x (y ∷ rest) whole rises in
    let split : entries ≡ (front ++ x ∷ []) ++ y ∷ rest = whole ∙ sym (append_assoc front (x ∷ []) (y ∷ rest)) in
    let passed : list_all (is_up_to_own x) (take (own_end entries x) ((front ++ x ∷ []) ++ y ∷ rest)) ≡ true =
    subst (λ (es : List Entry). list_all (is_up_to_own x) (take (own_end entries x) es) ≡ true) split (parted-front (is_up_to_own x) entries (own-parts x entries rises)) in
    let high : own_end entries x ≤ length (front ++ x ∷ []) = front-reaches (is_up_to_own x) (own_end entries x) (front ++ x ∷ []) y rest (behind-not x y how) passed in
    let far = length-append front (x ∷ []) in
    omega (arith, low, high, far)

-- From the end, a reply's own begin at it, or where those of the one behind it do.
ends-go-on : (entries front : List Entry) (x : Entry) (rest : List Entry) (back : ℕ) → entries ≡ front ++ x ∷ rest → length rest ≡ back + 1 → Rises entries
    → (ends_in entries (back + 1) ≡ back + 1) ⊎ (ends_in entries (back + 1) ≡ ends_in entries back)
ends-go-on entries front x [] back whole far rises = absurd (omega (arith, far))
ends-go-on entries front x (y ∷ rest) back whole far rises = to (ahead-cases x y (and_parts (is_ahead x y) (list_all (is_ahead x) rest) (rest-behind front x (y ∷ rest) (subst Rises whole rises))).0)
  where
    long : length entries ≡ length front + 1 + (back + 1)
    long = let l = ap length whole in let m = length-append front (x ∷ y ∷ rest) in omega (arith, l, m, far)

    here : ends_in entries (back + 1) ≡ length entries - own_end entries x
    here = end-at entries front x (y ∷ rest) (back + 1) whole far

    next : ends_in entries back ≡ length entries - own_end entries y
    next = end-at entries (front ++ x ∷ []) y rest back (whole ∙ sym (append_assoc front (x ∷ []) (y ∷ rest))) (omega (arith, far))

    fresh : Behind x y ⊎ Beside x y → ends_in entries (back + 1) ≡ back + 1
    fresh how = let e = fresh-end entries front x y rest whole rises how in let l = long in let h = here in omega (arith, e, l, h)

    to : Behind x y ⊎ (Beside x y ⊎ Own x y) → (ends_in entries (back + 1) ≡ back + 1) ⊎ (ends_in entries (back + 1) ≡ ends_in entries back)
    to (inl b) = inl (fresh (inl b))
    to (inr (inl b)) = inl (fresh (inr b))
    to (inr (inr o)) = inr (here ∙ ap (λ (n : ℕ). length entries - n) (same-end x y o.round o.who entries) ∙ sym next)

-- a reply by its place from the end
pub record FromEnd (entries : List Entry) (back : ℕ) : Type 0 where
  pub front : List Entry
  pub entry : Entry
  pub rest : List Entry
  pub whole : entries ≡ front ++ entry ∷ rest
  pub far : length rest ≡ back

-- each place from the end has a reply, with those in front of it and behind it
pub from-end : (entries : List Entry) (back : ℕ) → back < length entries → FromEnd entries back
from-end entries back h =
    let at = at-place entries (length entries - 1 - back) (omega (arith, h)) in
    let l = ap length at.whole in
    let m = length-append at.front (at.item ∷ at.rest) in
    let far = at.far in
    record { front = at.front; entry = at.item; rest = at.rest; whole = at.whole; far = omega (arith, h, l, m, far) }

-- from the end, too, each reply's own begin at it or where those of the one in front do
pub ends-are : (entries : List Entry) → Rises entries → AreStarts (reverse entries) (ends_in entries)
ends-are entries rises = record {
  up_to = λ back inside.
      let long = length-reverse entries in
      let e = from-end entries back (omega (arith, inside, long)) in
      let here = end-at entries e.front e.entry e.rest back e.whole e.far in
      let high = high-at entries e.front e.entry e.rest e.whole rises in
      let l = ap length e.whole in
      let m = length-append e.front (e.entry ∷ e.rest) in
      let far = e.far in
      omega (arith, here, high, l, m, far);
  go_on = λ back inside.
      let long = length-reverse entries in
      let e = from-end entries (back + 1) (omega (arith, inside, long)) in
      ends-go-on entries e.front e.entry e.rest back e.whole e.far rises;
}

-- ---- the highest after a reply

module _ (replies : List KeptReply) (at : ℕ) (stretch : Stretch) (asked : IsAsked replies at stretch)
    (peaks : List Peak) (later : AreLater (entries_of replies) (length replies) peaks) (none : KeptReply) where
  -- The replies as they are judged.
  abbrev es : List Entry
  es = entries_of replies

  -- The reply that is judged.
  abbrev e : Entry
  e = asked_at replies at none

  -- The judged reply is kept at its place.
  its : KeptAt replies at (slice_index_or replies at none)
  its = kept-at replies at (slice_index_or replies at none) asked.inside (get_or_default replies at none (slice_index_or replies at none) asked.inside)

  -- The places about the judged reply stand in order.
  order : InOrder es e (length its.front)
  order = in-order es its.front e its.rest its.whole asked.rises

  -- The replies to judge are as many as the kept ones.
  long : length es ≡ length replies
  long = length-map replies entry_of

  -- In front of the judged reply are as many as its place tells.
  far : length its.front ≡ at
  far = its.far

  -- The peaks from the end up to where its round ends give the highest behind the round.
  behind : most_below (length replies - round_end es e) peaks ≡ highest below_commit (drop (round_end es e) es)
  behind =
      let within = order.within in
      let l = long in
      later.most (length replies - round_end es e) (omega arith)
      ∙ ap (λ (n : ℕ). highest below_commit (take (n - round_end es e) (reverse es))) (sym l)
      ∙ ap (highest below_commit) (take-reverse (round_end es e) es within)
      ∙ highest-reverse below_commit (drop (round_end es e) es)

  -- Behind the judged reply are as many as its place from the end tells.
  rest-far : length its.rest ≡ length replies - 1 - at
  rest-far =
      let w = ap length its.whole in
      let m = length-append its.front (e ∷ its.rest) in
      let l = long in
      let f = far in
      omega (arith, w, m, l, f)

  -- From the end, the judged reply's own begin where they end from the start.
  start : ends_in es (length replies - 1 - at) ≡ length es - own_end es e
  start = end-at es its.front e its.rest (length replies - 1 - at) its.whole rest-far

  -- Its own behind the judged reply, turned around, are a part of the turned replies.
  own-list : part (length es - own_end es e) (length replies - 1 - at) (reverse es) ≡ reverse (between (at + 1) (own_end es e) es)
  own-list =
      let l = long in
      let i = asked.inside in
      let ends = order.ends in
      let closes = order.closes in
      let within = order.within in
      let f = far in
      let high : own_end es e ≤ length es = omega (arith, closes, within) in
      let up : length replies - 1 - at ≡ length es - (at + 1) = omega (arith, l, i) in
      let low : at + 1 ≤ own_end es e = omega (arith, ends, f) in
      ap (λ (n : ℕ). drop (length es - own_end es e) (take n (reverse es))) up
      ∙ ap (drop (length es - own_end es e)) (take-reverse (at + 1) es (omega (arith, l, i)))
      ∙ ap (λ (ys : List Entry). drop (length es - own_end es e) (reverse ys)) (drop-between (at + 1) (own_end es e) es low)
      ∙ ap (drop (length es - own_end es e)) (reverse-append (between (at + 1) (own_end es e) es) (drop (own_end es e) es))
      ∙ drop_at (reverse (drop (own_end es e) es)) (reverse (between (at + 1) (own_end es e) es)) (length es - own_end es e) (length-reverse (drop (own_end es e) es) ∙ length-drop (own_end es e) es)

  -- The peaks from the end give the highest of its own behind the judged reply.
  own : own_below (length replies - own_end es e) (length replies - 1 - at) peaks ≡ highest below_commit (between (at + 1) (own_end es e) es)
  own =
      let l = long in
      let i = asked.inside in
      let turned = length-reverse es in
      ap (λ (n : ℕ). own_below (n - own_end es e) (length replies - 1 - at) peaks) (sym l)
      ∙ ap (λ (n : ℕ). own_below n (length replies - 1 - at) peaks) (sym start)
      ∙ later.own (length replies - 1 - at) (omega arith) (omega (arith, l, i, turned))
      ∙ ap (λ (n : ℕ). highest below_commit (part n (length replies - 1 - at) (reverse es))) start
      ∙ ap (highest below_commit) own-list
      ∙ highest-reverse below_commit (between (at + 1) (own_end es e) es)

  -- The greater of two numbers is the same either way around.
  swapped : (a b : ℕ) → max a b ≡ max b a
  swapped a b = omega arith

  -- the peaks from the end give the highest after the reply that is judged
  pub peaks-after : max (most_below (length replies - stretch.round_end) peaks) (own_below (length replies - stretch.own_end) (length replies - 1 - at) peaks) ≡ highest below_commit (after es e)
  peaks-after =
      ap (λ (s : Stretch). max (most_below (length replies - s.round_end) peaks) (own_below (length replies - s.own_end) (length replies - 1 - at) peaks)) (asked.places none)
      ∙ ap (λ (n : ℕ). max n (own_below (length replies - own_end es e) (length replies - 1 - at) peaks)) behind
      ∙ ap (λ (n : ℕ). max (highest below_commit (drop (round_end es e) es)) n) own
      ∙ swapped (highest below_commit (drop (round_end es e) es)) (highest below_commit (between (at + 1) (own_end es e) es))
      ∙ sym (highest-append below_commit (between (at + 1) (own_end es e) es) (drop (round_end es e) es))
      ∙ ap (λ (n : ℕ). highest below_commit (between (n + 1) (own_end es e) es ++ drop (round_end es e) es)) (sym far)
      ∙ sym (ap (highest below_commit) (by-places its.front e its.rest es its.whole asked.rises).2)

-- ---- numbers that are all above one

-- With a number more in front, all are above one where none is too far from the top.
above-step : (top number : ℕ) → number < top → (o : Option ℕ) (others : List ℕ) (high : ℕ) → list_all (λ n. nat_lt number n) others ≡ nat_lt high (top - number)
    → list_all (λ n. nat_lt number n) (cons_option o others) ≡ nat_lt (max (option_map_or (λ n. top - n) o 0) high) (top - number)
above-step top number small None others high h = h ∙ (let e : max 0 high ≡ high = omega arith in rw e refl)
above-step top number small (Some n) others high h = ap (λ (b : Bool). nat_lt number n && b) h ∙ both top number n high small
  where
    both : (top number n high : ℕ) → number < top → (nat_lt number n && nat_lt high (top - number)) ≡ nat_lt (max (top - n) high) (top - number)
    both top number n high small = grind (arith, nat_tests)

-- numbers are all above one exactly where none of them is as far below a top
pub all-above : {X : Type 0} (top number : ℕ) → number < top → (shown : X → Option ℕ) (xs : List X)
    → list_all (λ n. nat_lt number n) (filter_map shown xs) ≡ nat_lt (highest (λ x. option_map_or (λ n. top - n) (shown x) 0) xs) (top - number)
all-above top number small shown [] = let e : nat_lt 0 (top - number) ≡ true = grind (arith, nat_tests) in sym e
all-above top number small shown (x ∷ xs) = above-step top number small (shown x) (filter_map shown xs) (highest (λ y. option_map_or (λ n. top - n) (shown y) 0) xs) (all-above top number small shown xs)

-- ---- one reply more, from the end

-- a list that is split at an element, turned around, is split at it
pub turned-front : (entries front : List Entry) (entry : Entry) (rest : List Entry) → entries ≡ front ++ entry ∷ rest → reverse entries ≡ reverse rest ++ entry ∷ reverse front
turned-front entries front entry rest whole = ap reverse whole ∙ turned-at front entry rest

-- where no number is, the distance is 0
pub none-below : (number : Option ℕ) → is_some number ≡ false → below number ≡ 0
none-below None h = refl
none-below (Some n) h = absurd (let never : ⊥ = cc in never)
