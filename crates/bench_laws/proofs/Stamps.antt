-- The stamps of a block rise by one from seal to seal.
use Rattle.std.proofs.Common.{◌≡◌, ◌⊎◌, inl, inr, ℕ, ◌+◌, ◌<◌, ◌≤◌, suc, Bool, true, false, cond, ◌&&◌, eqb, nat_lt, nat_le, List, [], ◌∷◌, ◌++◌, length, Option, None, Some, refl, sym, ap, ◌∙◌, subst, arith, append_assoc, append-nil}
use Rattle.std.specs.Prelude.{if◌then◌else◌}
use Rattle.std.specs.List.{list_all, count_by, cons_option}
use Rattle.std.proofs.lemmas.Bool.{and_parts, eqb-true, ltb-true, leb-true}
use Rattle.std.proofs.lemmas.List.{length-append}
use Rattle.std.proofs.lemmas.List.Elements.{filter_map-append}
use Rattle.std.proofs.lemmas.List.Sums.{sum_by-cons}
use Rattle.workload_spec.specs.declared.reply.Who.TheVariants.{Session}
use Rattle.workload_spec.specs.declared.reply.Said.{Said}
use Rattle.workload_spec.specs.declared.reply.Said.TheVariants as said
use Rattle.outcome_spec.specs.Entries.{Entry, before, not_after, is_before, shown_in}
use Rattle.outcome_spec.specs.Runs.{Run, run_of}
use Rattle.outcome_spec.specs.Upkeep.{stamp_in, rows_in, seals_in, stamp_count, seal_holds}
use Rattle.order_laws.specs.Places.{Rises, is_ahead}
use Rattle.bench_laws.proofs.Every.{Every, Has, every-append, every-has, every-left, every-right, every-weaker, has-here}
use Rattle.bench_laws.proofs.Replies.{IsInsertReply, IsUpdateReply}
use Rattle.bench_laws.proofs.Parts.{Part, Writing, Keeping, Freezing, Good, entries_in, entries_of, last_entries}
use Rattle.bench_laws.proofs.Order.{Kept, ahead-own, front-are, rest-are, shown-before, shown-not_after}
use Rattle.bench_laws.proofs.Told.{Told, sound-at, tables, every-reply}

-- what only lines of sealing and gathering show
pub record Mark (shown : Said → Option ℕ) : Type 0 where
  pub at_none : (number : ℕ) → shown (said.At number) ≡ None
  pub insert_none : (told : Said) → IsInsertReply told → shown told ≡ None
  pub update_none : (told : Said) → IsUpdateReply 0 told → shown told ≡ None
  pub commit_none : (number : Option ℕ) → shown (said.Committed number) ≡ None

-- What an insert is told shows no stamp of a block.
stamp-insert : (block : ℕ) (told : Said) → IsInsertReply told → stamp_in 0 block told ≡ None
stamp-insert block said.Accepted h = refl
stamp-insert block said.Exists h = refl
stamp-insert block said.Full h = refl
stamp-insert block said.Memory h = refl
stamp-insert block (said.ConflictSession session) h = refl
stamp-insert block (said.ConflictCommit number) h = refl
stamp-insert block _ h = absurd h

-- What an update is told shows no stamp of a block.
stamp-update : (block : ℕ) (told : Said) → IsUpdateReply 0 told → stamp_in 0 block told ≡ None
stamp-update block said.Accepted h = refl
stamp-update block said.Missing h = refl
stamp-update block said.Memory h = refl
stamp-update block (said.Freezing of at stamp) h = refl
stamp-update block (said.ConflictSession session) h = refl
stamp-update block (said.ConflictCommit number) h = refl
stamp-update block _ h = absurd h

-- What an insert is told shows no rows of a gathered block.
rows-insert : (block : ℕ) (told : Said) → IsInsertReply told → rows_in 0 block told ≡ None
rows-insert block said.Accepted h = refl
rows-insert block said.Exists h = refl
rows-insert block said.Full h = refl
rows-insert block said.Memory h = refl
rows-insert block (said.ConflictSession session) h = refl
rows-insert block (said.ConflictCommit number) h = refl
rows-insert block _ h = absurd h

-- What an update is told shows no rows of a gathered block.
rows-update : (block : ℕ) (told : Said) → IsUpdateReply 0 told → rows_in 0 block told ≡ None
rows-update block said.Accepted h = refl
rows-update block said.Missing h = refl
rows-update block said.Memory h = refl
rows-update block (said.Freezing of at stamp) h = refl
rows-update block (said.ConflictSession session) h = refl
rows-update block (said.ConflictCommit number) h = refl
rows-update block _ h = absurd h

-- no reply of a write round shows the stamp of a block
pub stamp-mark : (block : ℕ) → Mark (stamp_in 0 block)
stamp-mark block = record { at_none = λ number. refl; insert_none = stamp-insert block; update_none = stamp-update block; commit_none = λ number. refl }

-- nor how many rows a gathered block has
pub rows-mark : (block : ℕ) → Mark (rows_in 0 block)
rows-mark block = record { at_none = λ number. refl; insert_none = rows-insert block; update_none = rows-update block; commit_none = λ number. refl }

-- what shows the mark is session 1's
abbrev pub First : (Said → Option ℕ) → Entry → Type 0
First shown e = (shown e.reply.said ≡ None) ⊎ (e.reply.who ≡ Session 1)

-- In each part a reply that shows a mark is session 1's.
first-part : (shown : Said → Option ℕ) → Mark shown → (seed : ℕ) (part : Part) → Good seed part → Every (First shown) (entries_of part)
first-part shown mark seed (Writing w) good =
    (inl (mark.at_none w.snapshot), (inl (mark.insert_none w.insert_said good.insert_fits), (inl (mark.update_none w.update_said good.update_fits), (inl (mark.commit_none w.number), tt))))
first-part shown mark seed (Keeping k) good = (inr refl, tt)
first-part shown mark seed (Freezing f) good = (inr refl, (inr refl, tt))

-- an option is not both something and nothing
pub some-none : (o : Option ℕ) (k : ℕ) → o ≡ Some k → o ≡ None → ⊥
some-none o k h n = let e : Some k ≡ None = sym h ∙ n in let never : ⊥ = cc in never

-- ---- stamps that rise, each of them at most so many as there are

-- Each further number is above all those in front of it.
abbrev Climb : List ℕ → List ℕ → Type 0
Climb front [] = Unit {0}
Climb front (k ∷ rest) = (list_all (λ earlier. nat_lt earlier k) front ≡ true) × Climb (front ++ k ∷ []) rest

-- Numbers that climb to a bound leave room for the rest above those in front.
climbed : (most : ℕ) (rest front : List ℕ) → Climb front rest → Every (λ k. k ≤ most) (front ++ rest) → Every (λ k. k + length rest ≤ most) front
climbed most [] front h bound = every-weaker (λ k. k ≤ most) (λ k. k + 0 ≤ most) (λ k le. omega (arith, le)) front (every-left (λ k. k ≤ most) front [] bound)
climbed most (k ∷ rest) front h bound =
    let more = climbed most rest (front ++ k ∷ []) h.1 (subst (Every (λ n. n ≤ most)) (sym (append_assoc front (k ∷ []) rest)) bound) in
    let top : k + length rest ≤ most = every-has (λ n. n + length rest ≤ most) (front ++ k ∷ []) k more (has-here front k []) in
    below front h.0 top
  where
    step : (n : ℕ) → nat_lt n k ≡ true → k + length rest ≤ most → n + length (k ∷ rest) ≤ most
    step n less le = let lt : n < k = ltb-true n k less in omega (arith, lt, le)

    below : (xs : List ℕ) → list_all (λ earlier. nat_lt earlier k) xs ≡ true → k + length rest ≤ most → Every (λ n. n + length (k ∷ rest) ≤ most) xs
    below [] all le = tt
    below (x ∷ xs) all le =
        let parts = and_parts (nat_lt x k) (list_all (λ earlier. nat_lt earlier k) xs) all in
        (step x parts.0 le, below xs parts.1 le)

-- One number more: what is counted at least once is in the list.
count-step : (k x : ℕ) (xs : List ℕ) (n : ℕ) (b : Bool) → eqb x k ≡ b → cond b 1 0 + count_by (λ y. eqb y k) xs ≡ suc n → (count_by (λ y. eqb y k) xs ≡ suc n → Has k xs) → (x ≡ k) ⊎ Has k xs
count-step k x xs n true is h rest = inl (eqb-true x k is)
count-step k x xs n false is h rest = inr (rest (omega (arith, h)))

-- what is counted at least once is in the list
pub count-has : (k : ℕ) (xs : List ℕ) (n : ℕ) → count_by (λ x. eqb x k) xs ≡ suc n → Has k xs
count-has k [] n h = absurd (let never : ⊥ = omega (arith, h) in never)
count-has k (x ∷ xs) n h = count-step k x xs n (eqb x k) refl (sym (sum_by-cons (λ y. cond (eqb y k) 1 0) x xs) ∙ h) (count-has k xs n)

module _ (seed size : ℕ) (replies : List Entry) (told : Told seed size replies) where
  -- the run that the replies tell
  abbrev pub run : Run
  run = run_of tables replies

  -- each reply that shows a mark is session 1's
  pub firsts : (shown : Said → Option ℕ) → Mark shown → Every (First shown) replies
  firsts shown mark =
      subst (Every (First shown)) (sym told.whole)
      (every-append (First shown) (entries_in told.parts) (last_entries told.last) (every-reply seed (First shown) (first-part shown mark seed) told.parts told.good)
      (inr refl, (inr refl, (inr refl, (inr refl, tt)))))

  -- before a line of session 1 stand those in front, and not after it they and it
  pub before-first : (shown : Said → Option ℕ) → Mark shown → (front : List Entry) (e : Entry) (rest : List Entry) → replies ≡ front ++ e ∷ rest → e.reply.who ≡ Session 1
      → shown_in shown (before replies e) ≡ shown_in shown front
  before-first shown mark front e rest whole who =
      let rises : Rises (front ++ e ∷ rest) = subst Rises whole told.rises in
      let all = every-left (First shown) front (e ∷ rest) (subst (Every (First shown)) whole (firsts shown mark)) in
      ap (λ (es : List Entry). shown_in shown (before es e)) whole
      ∙ shown-before shown front e rest rises (both front all (front-are front e rest rises))
    where
      one : (x : Entry) → First shown x → is_ahead x e ≡ true → Kept shown (λ x. is_before x e) true x
      one x (inl none) ahead = inl none
      one x (inr is) ahead = inr (ahead-own x e ahead (is ∙ sym who))

      both : (xs : List Entry) → Every (First shown) xs → Every (λ x. is_ahead x e ≡ true) xs → Every (Kept shown (λ x. is_before x e) true) xs
      both [] h k = tt
      both (x ∷ xs) h k = (one x h.0 k.0, both xs h.1 k.1)

  -- the marks not after a line of session 1 are those of the lines in front and its own
  pub not-after-first : (shown : Said → Option ℕ) → Mark shown → (front : List Entry) (e : Entry) (rest : List Entry) → replies ≡ front ++ e ∷ rest → e.reply.who ≡ Session 1
      → shown_in shown (not_after replies e) ≡ shown_in shown (front ++ e ∷ [])
  not-after-first shown mark front e rest whole who =
      let rises : Rises (front ++ e ∷ rest) = subst Rises whole told.rises in
      let all = (every-right (First shown) front (e ∷ rest) (subst (Every (First shown)) whole (firsts shown mark))).1 in
      ap (λ (es : List Entry). shown_in shown (not_after es e)) whole
      ∙ shown-not_after shown front e rest rises (both rest all (rest-are front e rest rises))
    where
      one : (x : Entry) → First shown x → is_ahead e x ≡ true → Kept shown (λ x. is_before e x) true x
      one x (inl none) ahead = inl none
      one x (inr is) ahead = inr (ahead-own e x ahead (who ∙ sym is))

      both : (xs : List Entry) → Every (First shown) xs → Every (λ x. is_ahead e x ≡ true) xs → Every (Kept shown (λ x. is_before e x) true) xs
      both [] h k = tt
      both (x ∷ xs) h k = (one x h.0 k.0, both xs h.1 k.1)

  -- ---- the stamps of a block

  -- A reply that shows a block's stamp tells that the block was sealed with it.
  stamp-is : (block k : ℕ) (told : Said) → stamp_in 0 block told ≡ Some k → told ≡ said.Sealed 0 block k
  stamp-is block k (said.Sealed of at stamp) h = by (eqb of 0) (eqb at block) refl refl h
    where
      by : (a b : Bool) → eqb of 0 ≡ a → eqb at block ≡ b → (if a && b then Some stamp else None) ≡ Some k → said.Sealed of at stamp ≡ said.Sealed 0 block k
      by true true x y same =
          let e : of ≡ 0 = eqb-true of 0 x in
          let f : at ≡ block = eqb-true at block y in
          let g : stamp ≡ k = cc in
          cc
      by true false x y same = absurd (some-none None k same refl)
      by false b x y same = absurd (some-none None k same refl)
  stamp-is block k _ h = absurd (some-none None k h refl)

  -- A seal that a reply tells holds of the run.
  sealed-at : (block k : ℕ) (e : Entry) → e.reply.said ≡ said.Sealed 0 block k → Has e replies → seal_holds run e 0 block k ≡ true
  sealed-at block k e is has =
      let sound = sound-at seed size replies told e has in
      subst (λ (s : Said). Rattle.outcome_spec.specs.Upkeep.upkeep_reply_holds run e s ≡ true) is sound.upkeep

  -- four tests that all pass pass each
  pub four-parts : (a b c d : Bool) → (a && b && c && d) ≡ true → (a ≡ true) × (b ≡ true) × (c ≡ true) × (d ≡ true)
  four-parts true true true true h = (refl, refl, refl, refl)
  four-parts false b c d h = absurd (let never : ⊥ = cc in never)
  four-parts true false c d h = absurd (let never : ⊥ = cc in never)
  four-parts true true false d h = absurd (let never : ⊥ = cc in never)
  four-parts true true true false h = absurd (let never : ⊥ = cc in never)

  -- A block's stamp is at most the count of its seals, and above those before it.
  seal-facts : (block k : ℕ) (e : Entry) → stamp_in 0 block e.reply.said ≡ Some k → Has e replies
      → (k ≤ seals_in 0 block replies) × (list_all (λ earlier. nat_lt earlier k) (shown_in (stamp_in 0 block) (before replies e)) ≡ true)
  seal-facts block k e is has =
      let parts = four-parts (nat_le 1 k) (nat_le k (seals_in 0 block replies)) (eqb (stamp_count 0 block k replies) 1)
      (list_all (λ earlier. nat_lt earlier k) (shown_in (stamp_in 0 block) (before replies e))) (sealed-at block k e (stamp-is block k e.reply.said is) has) in
      (leb-true k (seals_in 0 block replies) parts.1, parts.3)

  -- A reply that shows a mark is session 1's.
  who-first : (shown : Said → Option ℕ) (e : Entry) (k : ℕ) → First shown e → shown e.reply.said ≡ Some k → e.reply.who ≡ Session 1
  who-first shown e k (inl none) is = absurd (some-none (shown e.reply.said) k is none)
  who-first shown e k (inr first) is = first

  -- The stamps of a block in later replies are at most the count of its seals.
  bound-from : (block : ℕ) (front rest : List Entry) → replies ≡ front ++ rest → Every (λ k. k ≤ seals_in 0 block replies) (shown_in (stamp_in 0 block) rest)
  bound-from block front [] whole = tt
  bound-from block front (e ∷ rest) whole =
      by (stamp_in 0 block e.reply.said) refl (bound-from block (front ++ e ∷ []) rest (whole ∙ sym (append_assoc front (e ∷ []) rest)))
    where
      by : (o : Option ℕ) → stamp_in 0 block e.reply.said ≡ o → Every (λ k. k ≤ seals_in 0 block replies) (shown_in (stamp_in 0 block) rest)
          → Every (λ k. k ≤ seals_in 0 block replies) (cons_option o (shown_in (stamp_in 0 block) rest))
      by None is h = h
      by (Some k) is h = ((seal-facts block k e is (subst (Has e) (sym whole) (has-here front e rest))).0, h)

  -- The stamps of a block climb in the replies behind any front.
  climb-from : (block : ℕ) (front rest : List Entry) → replies ≡ front ++ rest → Climb (shown_in (stamp_in 0 block) front) (shown_in (stamp_in 0 block) rest)
  climb-from block front [] whole = tt
  climb-from block front (e ∷ rest) whole =
      by (stamp_in 0 block e.reply.said) refl (subst (λ (xs : List ℕ). Climb xs (shown_in (stamp_in 0 block) rest)) (filter_map-append (λ (x : Entry). stamp_in 0 block x.reply.said) front (e ∷ []))
      (climb-from block (front ++ e ∷ []) rest (whole ∙ sym (append_assoc front (e ∷ []) rest))))
    where
      by : (o : Option ℕ) → stamp_in 0 block e.reply.said ≡ o → Climb (shown_in (stamp_in 0 block) front ++ cons_option (stamp_in 0 block e.reply.said) []) (shown_in (stamp_in 0 block) rest)
          → Climb (shown_in (stamp_in 0 block) front) (cons_option o (shown_in (stamp_in 0 block) rest))
      by None is h =
          subst (λ (xs : List ℕ). Climb xs (shown_in (stamp_in 0 block) rest)) (ap (λ (o : Option ℕ). shown_in (stamp_in 0 block) front ++ cons_option o []) is ∙ append-nil (shown_in (stamp_in 0 block) front)) h
      by (Some k) is h =
          let has : Has e replies = subst (Has e) (sym whole) (has-here front e rest) in
          let who = who-first (stamp_in 0 block) e k (every-has (First (stamp_in 0 block)) replies e (firsts (stamp_in 0 block) (stamp-mark block)) has) is in (
            subst (λ (xs : List ℕ). list_all (λ earlier. nat_lt earlier k) xs ≡ true) (before-first (stamp_in 0 block) (stamp-mark block) front e rest whole who) (seal-facts block k e is has).1,
            subst (λ (xs : List ℕ). Climb xs (shown_in (stamp_in 0 block) rest)) (ap (λ (o : Option ℕ). shown_in (stamp_in 0 block) front ++ cons_option o []) is) h,
          )

  -- each stamp of those in front is at most so many as these are
  pub stamps-low : (block : ℕ) (front rest : List Entry) → replies ≡ front ++ rest → Every (λ k. k ≤ seals_in 0 block front) (shown_in (stamp_in 0 block) front)
  stamps-low block front rest whole =
      let all = climbed (seals_in 0 block replies) (shown_in (stamp_in 0 block) rest) (shown_in (stamp_in 0 block) front) (climb-from block front rest whole)
      (subst (Every (λ k. k ≤ seals_in 0 block replies)) (ap (shown_in (stamp_in 0 block)) whole ∙ filter_map-append (λ (x : Entry). stamp_in 0 block x.reply.said) front rest) (bound-from block [] replies refl)) in
      let many : seals_in 0 block replies ≡ seals_in 0 block front + length (shown_in (stamp_in 0 block) rest) =
      ap (seals_in 0 block) whole ∙ ap length (filter_map-append (λ (x : Entry). stamp_in 0 block x.reply.said) front rest) ∙ length-append (shown_in (stamp_in 0 block) front) (shown_in (stamp_in 0 block) rest) in
      every-weaker (λ k. k + length (shown_in (stamp_in 0 block) rest) ≤ seals_in 0 block replies) (λ k. k ≤ seals_in 0 block front) (λ k le. omega (arith, le, many)) (shown_in (stamp_in 0 block) front) all
