-- What stands at a place of the lists that are kept beside the replies.
use Rattle.std.proofs.Common.{◌≡◌, ℕ, ◌+◌, suc, Bool, List, [], ◌∷◌, ◌++◌, take, drop, length, get_or, map, reverse, refl, sym, ap, ◌∙◌, append_assoc, append-nil}
use Rattle.std.proofs.lemmas.List.{drop_at, length-append, map-append}
use Rattle.std.proofs.lemmas.Grind.{reverse_onto}
use Rattle.std.specs.Prelude.{if◌then◌else◌}
use Rattle.workload_spec.specs.declared.reply.Who.{Who}
use Rattle.outcome_spec.specs.Entries.{Entry, is_same, is_end}
use Rattle.outcome_spec.specs.Forms.{is_within, within_behind}
use Rattle.outcome_judge.proofs.Stops.{stop-next, within-next}
use Rattle.mark_index.proofs.Noted.{take-front, take-next}
use Rattle.outcome_judge.specs.Held.{Held, stop_of, stops_of, held_at, held_behind, held_in}

module _ {X : Type 0} (xs front : List X) (x : X) (rest : List X) (place : ℕ) (whole : xs ≡ front ++ x ∷ rest) (far : length front ≡ place) where
  -- from its place on a list goes on with the element there
  pub drop-here : drop place xs ≡ x ∷ rest
  drop-here = ap (drop place) whole ∙ drop_at front (x ∷ rest) place far

  -- and then with those behind it
  pub drop-behind : drop (place + 1) xs ≡ rest
  drop-behind =
      ap (drop (place + 1)) (whole ∙ sym (append_assoc front (x ∷ []) rest))
      ∙ drop_at (front ++ x ∷ []) rest (place + 1) (length-append front (x ∷ []) ∙ ap (λ (n : ℕ). n + 1) far)

-- a list the other way round ends with its first element
pub reverse-more : {X : Type 0} (x : X) (xs : List X) → reverse (x ∷ xs) ≡ reverse xs ++ x ∷ []
reverse-more x xs = reverse_onto xs x []

-- there are as many stops as replies
pub stops-long : (entries : List Entry) → length (stops_of entries) ≡ length entries
stops-long [] = refl
stops-long (entry ∷ entries) = ap suc (stops-long entries)

-- the stop at a place is that of its reply's session or worker from there on
pub stop-at : (entries front : List Entry) (entry : Entry) (rest : List Entry) (place none : ℕ) → entries ≡ front ++ entry ∷ rest → length front ≡ place
    → get_or (stops_of entries) place none ≡ stop_of entry.reply.who (entry ∷ rest)
stop-at entries front entry rest place none whole far = ap (λ (es : List Entry). get_or (stops_of es) place none) whole ∙ ap (λ (n : ℕ). get_or (stops_of (front ++ entry ∷ rest)) n none) (sym far) ∙ by front
  where
    by : (front : List Entry) → get_or (stops_of (front ++ entry ∷ rest)) (length front) none ≡ stop_of entry.reply.who (entry ∷ rest)
    by [] = refl
    by (x ∷ front) = by front

-- ---- from the end, a reply more in front

module _ (entries front : List Entry) (entry : Entry) (rest : List Entry) (place above : ℕ) (up : place + 1 ≡ above) (whole : entries ≡ front ++ entry ∷ rest) (far : length front ≡ place) where
  -- From the place on stand the reply and those behind it.
  here : drop place entries ≡ entry ∷ rest
  here = drop-here entries front entry rest place whole far

  -- From the next place on stand those behind the reply.
  behind : drop above entries ≡ rest
  behind = ap (λ (n : ℕ). drop n entries) (sym up) ∙ drop-behind entries front entry rest place whole far

  -- up to when each one's transaction lasts is known from one reply further in front
  pub next-back : (old new : Who → ℕ) → ((who : Who) → old who ≡ stop_of who (drop above entries))
      → ((who : Who) → new who ≡ (if is_same entry.reply.who who then (if is_end entry.reply.said then entry.reply.round + 1 else old who) else old who))
      → (who : Who) → new who ≡ stop_of who (drop place entries)
  next-back old new was is who =
      is who ∙ ap (λ (n : ℕ). if is_same entry.reply.who who then (if is_end entry.reply.said then entry.reply.round + 1 else n) else n) (was who ∙ ap (stop_of who) behind)
      ∙ sym (stop-next who entry rest) ∙ ap (stop_of who) (sym here)

  -- the stops, kept from the end, take in one reply further in front
  pub stops-back : (old new : List ℕ) (got : ℕ) → old ≡ reverse (stops_of (drop above entries)) → new ≡ old ++ got ∷ [] → got ≡ stop_of entry.reply.who (drop place entries)
      → new ≡ reverse (stops_of (drop place entries))
  stops-back old new got was is stop =
      is ∙ ap (λ (xs : List ℕ). xs ++ got ∷ []) (was ∙ ap (λ (es : List Entry). reverse (stops_of es)) behind)
      ∙ ap (λ (n : ℕ). reverse (stops_of rest) ++ n ∷ []) (stop ∙ ap (stop_of entry.reply.who) here)
      ∙ sym (reverse-more (stop_of entry.reply.who (entry ∷ rest)) (stops_of rest)) ∙ ap (λ (es : List Entry). reverse (stops_of es)) (sym here)

-- ---- from the start, a reply more behind

module _ (entries front : List Entry) (entry : Entry) (rest : List Entry) (place : ℕ) (whole : entries ≡ front ++ entry ∷ rest) (far : length front ≡ place) where
  -- who is in a transaction is known behind one reply more
  pub within-on : (old new : Who → Bool) → ((who : Who) → old who ≡ is_within who (take place entries))
      → ((who : Who) → new who ≡ (if is_same entry.reply.who who then within_behind (old who) entry.reply.said else old who))
      → (who : Who) → new who ≡ is_within who (take (place + 1) entries)
  within-on old new was is who =
      is who ∙ ap (λ (b : Bool). if is_same entry.reply.who who then within_behind b entry.reply.said else b) (was who ∙ ap (is_within who) (take-front entries front entry rest place whole far))
      ∙ sym (within-next who front entry)
      ∙ ap (is_within who) (sym (take-next entries front entry rest place whole far ∙ ap (λ (es : List Entry). es ++ entry ∷ []) (take-front entries front entry rest place whole far)))

-- ---- what is held

-- there are as many that are held as replies
pub held-long : (before entries : List Entry) → length (held_behind before entries) ≡ length entries
held-long before [] = refl
held-long before (entry ∷ entries) = ap suc (held-long (before ++ entry ∷ []) entries)

-- and they are those replies
pub held-entries : (before entries : List Entry) → map (λ (held : Held). held.entry) (held_behind before entries) ≡ entries
held-entries before [] = refl
held-entries before (entry ∷ entries) = ap (λ (es : List Entry). entry ∷ es) (held-entries (before ++ entry ∷ []) entries)

-- the held ones about one of them
pub record HeldAt (helds : List Held) (held : Held) (place : ℕ) : Type 0 where
  pub front : List Held
  pub rest : List Held
  pub whole : helds ≡ front ++ held ∷ rest
  pub far : length front ≡ place

-- At a reply's place stands what is held there, by those in front and behind.
held-behind-at : (before front : List Entry) (entry : Entry) (rest : List Entry) → HeldAt (held_behind before (front ++ entry ∷ rest)) (held_at (before ++ front) entry rest) (length front)
held-behind-at before [] entry rest = record {
  front = [];
  rest = held_behind (before ++ entry ∷ []) rest;
  whole = ap (λ (b : List Entry). held_at b entry rest ∷ held_behind (before ++ entry ∷ []) rest) (sym (append-nil before));
  far = refl;
}
held-behind-at before (x ∷ front) entry rest =
    let later = held-behind-at (before ++ x ∷ []) front entry rest in
    record {
      front = held_at before x (front ++ entry ∷ rest) ∷ later.front;
      rest = later.rest;
      whole = ap (λ (hs : List Held). held_at before x (front ++ entry ∷ rest) ∷ hs) later.whole
          ∙ ap (λ (b : List Entry). held_at before x (front ++ entry ∷ rest) ∷ (later.front ++ held_at b entry rest ∷ later.rest)) (append_assoc before (x ∷ []) front);
      far = ap suc later.far;
    }

-- what is held at a place is that of the reply there
pub held-at : (entries front : List Entry) (entry : Entry) (rest : List Entry) (place : ℕ) → entries ≡ front ++ entry ∷ rest → length front ≡ place → HeldAt (held_in entries) (held_at front entry rest) place
held-at entries front entry rest place whole far =
    let its = held-behind-at [] front entry rest in
    record {
      front = its.front;
      rest = its.rest;
      whole = ap held_in whole ∙ its.whole;
      far = its.far ∙ far;
    }

-- ---- until when, a reply more behind

module _ (entries front : List Entry) (entry : Entry) (rest : List Entry) (place : ℕ) (whole : entries ≡ front ++ entry ∷ rest) (far : length front ≡ place) where
  -- until when each is held is kept for one reply more
  pub untils-on : (old new : List ℕ) (got : ℕ) → old ≡ map (λ (h : Held). h.until) (take place (held_in entries)) → new ≡ old ++ got ∷ [] → got ≡ (held_at front entry rest).until
      → new ≡ map (λ (h : Held). h.until) (take (place + 1) (held_in entries))
  untils-on old new got was is until =
      let at = held-at entries front entry rest place whole far in
      is ∙ ap (λ (xs : List ℕ). xs ++ got ∷ []) was ∙ ap (λ (n : ℕ). map (λ (h : Held). h.until) (take place (held_in entries)) ++ n ∷ []) until
      ∙ sym (map-append (λ (h : Held). h.until) (take place (held_in entries)) (held_at front entry rest ∷ []))
      ∙ ap (map (λ (h : Held). h.until)) (sym (take-next (held_in entries) at.front (held_at front entry rest) at.rest place at.whole at.far))

  -- the reply's own
  pub until-is : (within : Bool) (stop none : ℕ) → within ≡ is_within entry.reply.who (take place entries) → stop ≡ get_or (stops_of entries) place none
      → (if within then stop else 0) ≡ (held_at front entry rest).until
  until-is within stop none inside is =
      ap (λ (b : Bool). if b then stop else 0) (inside ∙ ap (is_within entry.reply.who) (take-front entries front entry rest place whole far))
      ∙ ap (λ (n : ℕ). if is_within entry.reply.who front then n else 0) (is ∙ stop-at entries front entry rest place none whole far)
