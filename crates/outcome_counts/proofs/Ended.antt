-- The ends of transactions, from the last reply on.
use Rattle.std.proofs.Common.{◌≡◌, ℕ, ◌+◌, ◌<◌, ◌≤◌, ◌⊎◌, inl, inr, zero, suc, Bool, true, false, cond, ◌&&◌, not, List, [], ◌∷◌, ◌++◌, length, drop, take, Option, Some, refl, sym, ap, ◌∙◌, arith}
use Rattle.std.specs.List.{slice_get, find}
use Rattle.std.specs.Prelude.{unwrap_or, if◌then◌else◌}
use Rattle.std.proofs.lemmas.Bool.{cases_lt}
use Rattle.std.proofs.lemmas.List.{length-append, drop_at, drop-take}
use Rattle.workload_spec.specs.declared.reply.Who.{Who}
use Rattle.workload_spec.specs.declared.reply.Who.TheVariants.{Session, Worker}
use Rattle.outcome_spec.specs.Entries.{Entry, is_same, is_end, thread}
use Rattle.outcome_spec.specs.Forms.{is_worker}
use Rattle.outcome_spec.specs.Runs.{span_from, up_to_end, ending_of}
use Rattle.order_laws.specs.Places.{between}
use Rattle.timeline_laws.proofs.Order.{same-itself}
use Rattle.outcome_counts.proofs.Starts.{get-at}
use Rattle.outcome_counts.specs.Ends.{ends_of, next_end, AreEnds, ended_next}

-- for each session the place of its first end among the last replies, the count of all where there
-- is none
abbrev pub Known : List Entry → List Entry → List Entry → (Who → Option ℕ) → Type 0
Known entries front rest ended = (k : ℕ) → unwrap_or (ended (Session k)) (length entries) ≡ length front + next_end (Session k) rest

-- A reply in front that ends none of one's transactions puts the next end one further on.
passed : (p : ℕ) (rest : List Entry) (entry : Entry) (who : Who) → ends_of who entry ≡ false → p + 1 + next_end who rest ≡ p + next_end who (entry ∷ rest)
passed p rest entry who is =
    let next : next_end who (entry ∷ rest) ≡ 1 + next_end who rest = ap (λ (b : Bool). cond (not b) (1 + next_end who rest) 0) is in
    omega (arith, next)

-- Where the first reply ends one's transaction, the next end is at its place.
here : (p : ℕ) (rest : List Entry) (entry : Entry) (who : Who) → ends_of who entry ≡ true → p ≡ p + next_end who (entry ∷ rest)
here p rest entry who is =
    let next : next_end who (entry ∷ rest) ≡ 0 = ap (λ (b : Bool). cond (not b) (1 + next_end who rest) 0) is in
    omega (arith, next)

-- The known end is right with one reply more in front, by whether that is a worker's or ends one.
known-step : (n p : ℕ) (rest : List Entry) (entry : Entry) (who : Who) (old : Option ℕ) (worker ends : Bool) → (worker ≡ true → ends ≡ false) → ends_of who entry ≡ ends
    → unwrap_or old n ≡ p + 1 + next_end who rest
    → unwrap_or (if worker then old else (if ends then Some p else old)) n ≡ p + next_end who (entry ∷ rest)
known-step n p rest entry who old true true quiet is h = absurd (let e : true ≡ false = quiet refl in let never : ⊥ = cc in never)
known-step n p rest entry who old true false quiet is h = h ∙ passed p rest entry who is
known-step n p rest entry who old false true quiet is h = here p rest entry who is
known-step n p rest entry who old false false quiet is h = h ∙ passed p rest entry who is

-- A worker is not the same as a session.
worker-quiet : (a : Who) (k : ℕ) → is_worker a ≡ true → is_same a (Session k) ≡ false
worker-quiet (Session n) k h = absurd (let never : ⊥ = cc in never)
worker-quiet (Worker n) k h = refl

-- with one reply more in front, the ends are known from it on
pub known-next : (entries front : List Entry) (entry : Entry) (rest : List Entry) (place : ℕ) → length front ≡ place → (ended : Who → Option ℕ)
    → Known entries (front ++ entry ∷ []) rest ended → Known entries front (entry ∷ rest) (ended_next entry place ended)
known-next entries front entry rest place far ended known k =
    let long : length (front ++ entry ∷ []) ≡ place + 1 = length-append front (entry ∷ []) ∙ ap (λ (n : ℕ). n + 1) far in
    known-step (length entries) place rest entry (Session k) (ended (Session k)) (is_worker entry.reply.who) (ends_of (Session k) entry)
    (λ worker. ap (λ (b : Bool). b && is_end entry.reply.said) (worker-quiet entry.reply.who k worker)) refl
    (known k ∙ ap (λ (n : ℕ). n + next_end (Session k) rest) long)
    ∙ ap (λ (n : ℕ). n + next_end (Session k) (entry ∷ rest)) (sym far)

-- What is known of the ends of sessions holds for whoever is no worker.
own-of : (entries front rest : List Entry) (who : Who) (ended : Who → Option ℕ) → is_worker who ≡ false → Known entries front rest ended → unwrap_or (ended who) (length entries) ≡ length front + next_end who rest
own-of entries front rest (Session k) ended h known = known k
own-of entries front rest (Worker k) ended h known = absurd (let never : ⊥ = cc in never)

-- an element in front of an append is that of the first list
pub get-before : {X : Type 0} (xs ys : List X) (i : ℕ) → i < length xs → slice_get (xs ++ ys) i ≡ slice_get xs i
get-before [] ys i h = absurd (omega (arith, h))
get-before (x ∷ xs) ys zero h = refl
get-before (x ∷ xs) ys (suc i) h = get-before xs ys i (omega (arith, h))

-- a number below the next one is below this one or is it
pub up-to-next : (i n : ℕ) → i < n + 1 → (i < n) ⊎ (i ≡ n)
up-to-next i n h = from (cases_lt i n)
  where
    from : (i < n) ⊎ (n ≤ i) → (i < n) ⊎ (i ≡ n)
    from (inl low) = inl low
    from (inr high) = inr (omega (arith, high, h))

-- One end more, of the reply in front of those whose ends are known.
pub ends-next : (entries : List Entry) (n : ℕ) (backs : List ℕ) (end : ℕ) → AreEnds entries n backs
    → ((front : List Entry) (entry : Entry) (rest : List Entry) → entries ≡ front ++ entry ∷ rest → is_worker entry.reply.who ≡ false → length rest ≡ n → end ≡ length front + next_end entry.reply.who (entry ∷ rest))
    → AreEnds entries (n + 1) (backs ++ end ∷ [])
ends-next entries n backs end old here = record {
  long = length-append backs (end ∷ []) ∙ ap (λ (k : ℕ). k + 1) old.long;
  own = λ front entry rest whole session below. by front entry rest whole session (up-to-next (length rest) n below);
}
  where
    by : (front : List Entry) (entry : Entry) (rest : List Entry) → entries ≡ front ++ entry ∷ rest → is_worker entry.reply.who ≡ false → (length rest < n) ⊎ (length rest ≡ n)
        → slice_get (backs ++ end ∷ []) (length rest) ≡ Some (length front + next_end entry.reply.who (entry ∷ rest))
    by front entry rest whole session (inl low) =
        let l = old.long in
        get-before backs (end ∷ []) (length rest) (omega (arith, low, l)) ∙ old.own front entry rest whole session low
    by front entry rest whole session (inr at) =
        ap (slice_get (backs ++ end ∷ [])) (at ∙ sym old.long) ∙ get-at backs end [] ∙ ap (λ (k : ℕ). Some k) (here front entry rest whole session at)

-- the end of a reply's transaction is the first of its session's from it on
pub own-end : (entries front : List Entry) (entry : Entry) (rest : List Entry) (ended : Who → Option ℕ) → is_worker entry.reply.who ≡ false → Known entries front (entry ∷ rest) ended
    → unwrap_or (ended entry.reply.who) (length entries) ≡ length front + next_end entry.reply.who (entry ∷ rest)
own-end entries front entry rest ended session known = own-of entries front (entry ∷ rest) entry.reply.who ended session known

-- ---- a transaction by where it ends

-- One's replies up to the first end are known with one reply more in front.
cut-step : (who : Who) (x : Entry) (xs : List Entry) (same ends : Bool) → is_same x.reply.who who ≡ same → is_end x.reply.said ≡ ends
    → up_to_end (thread who xs) ≡ thread who (take (next_end who xs + 1) xs)
    → up_to_end (cond same (x ∷ thread who xs) (thread who xs)) ≡ thread who (take (cond (not (same && ends)) (1 + next_end who xs) 0 + 1) (x ∷ xs))
cut-step who x xs true true s e rest = rw (e, s) refl
cut-step who x xs true false s e rest =
    let n : 1 + next_end who xs + 1 ≡ suc (next_end who xs + 1) = omega arith in
    rw (n, e, s) (ap (λ (es : List Entry). x ∷ es) rest)
cut-step who x xs false ends s e rest =
    let n : 1 + next_end who xs + 1 ≡ suc (next_end who xs + 1) = omega arith in
    rw (n, s) rest

-- the replies of one up to its first end
pub cut-at-end : (who : Who) (xs : List Entry) → up_to_end (thread who xs) ≡ thread who (take (next_end who xs + 1) xs)
cut-at-end who [] = refl
cut-at-end who (x ∷ xs) = cut-step who x xs (is_same x.reply.who who) (is_end x.reply.said) refl refl (cut-at-end who xs)

-- The reply that ends one's transaction is found with one reply more in front.
find-step : (who : Who) (x : Entry) (xs : List Entry) (same ends : Bool) → is_same x.reply.who who ≡ same → is_end x.reply.said ≡ ends
    → find (λ e. is_end e.reply.said) (up_to_end (thread who xs)) ≡ slice_get xs (next_end who xs)
    → find (λ e. is_end e.reply.said) (up_to_end (cond same (x ∷ thread who xs) (thread who xs))) ≡ slice_get (x ∷ xs) (cond (not (same && ends)) (1 + next_end who xs) 0)
find-step who x xs true true s e rest = rw (e, e) refl
find-step who x xs true false s e rest =
    let n : 1 + next_end who xs ≡ suc (next_end who xs) = omega arith in
    rw (n, e, e) rest
find-step who x xs false ends s e rest =
    let n : 1 + next_end who xs ≡ suc (next_end who xs) = omega arith in
    rw n rest

-- the reply that ends them
pub end-found : (who : Who) (xs : List Entry) → find (λ e. is_end e.reply.said) (up_to_end (thread who xs)) ≡ slice_get xs (next_end who xs)
end-found who [] = refl
end-found who (x ∷ xs) = find-step who x xs (is_same x.reply.who who) (is_end x.reply.said) refl refl (end-found who xs)

-- An element of what is left behind some is so many places further on in the whole.
get-drop : (n i : ℕ) (es : List Entry) → slice_get (drop n es) i ≡ slice_get es (n + i)
get-drop zero i es = let e : i ≡ zero + i = omega arith in ap (slice_get es) e
get-drop (suc n) i [] = refl
get-drop (suc n) i (e ∷ es) = let k : suc n + i ≡ suc (n + i) = omega arith in rw k (get-drop n i es)

module _ (entries front : List Entry) (opening : Entry) (behind : List Entry) (snapshot : ℕ) (whole : entries ≡ front ++ opening ∷ behind) where
  -- The session or worker of the opening reply.
  abbrev its : Who
  its = opening.reply.who

  -- The place of the first end of the opener's from its opening on.
  abbrev end : ℕ
  end = length front + next_end its (opening ∷ behind)

  -- The opening reply is the first of its thread from there on.
  thread-first : thread its (opening ∷ behind) ≡ opening ∷ thread its behind
  thread-first = ap (λ (b : Bool). cond b (opening ∷ thread its behind) (thread its behind)) (same-itself its)

  -- What is left behind the front begins with the opening reply.
  from-opening : drop (length front) entries ≡ opening ∷ behind
  from-opening = ap (drop (length front)) whole ∙ drop_at front (opening ∷ behind) (length front) refl

  -- The replies of the transaction that a reply opens are those of its own up to the end.
  pub span-replies : (span_from opening behind snapshot).replies ≡ thread its (between (length front) (end + 1) entries)
  span-replies =
      let sum : length front + (next_end its (opening ∷ behind) + 1) ≡ end + 1 = omega arith in
      ap up_to_end (sym thread-first) ∙ cut-at-end its (opening ∷ behind)
      ∙ ap (λ (es : List Entry). thread its (take (next_end its (opening ∷ behind) + 1) es)) (sym from-opening)
      ∙ ap (thread its) (sym (drop-take (length front) (next_end its (opening ∷ behind) + 1) entries))
      ∙ ap (λ (n : ℕ). thread its (drop (length front) (take n entries))) sum

  -- It is ended by the reply there.
  pub span-ending : ending_of (span_from opening behind snapshot) ≡ slice_get entries end
  span-ending =
      ap (λ (es : List Entry). find (λ e. is_end e.reply.said) (up_to_end es)) (sym thread-first) ∙ end-found its (opening ∷ behind)
      ∙ ap (λ (es : List Entry). slice_get es (next_end its (opening ∷ behind))) (sym from-opening)
      ∙ get-drop (length front) (next_end its (opening ∷ behind)) entries
