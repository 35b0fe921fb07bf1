-- Reads that follow each other.
use Rattle.std.proofs.Common.{◌≡◌, ◌≢◌, ◌⊎◌, ℕ, zero, suc, ◌+◌, ◌≤◌, Bool, true, false, cond, ◌==◌, List, [], ◌∷◌, ◌++◌, Option, None, Some, length, refl, sym, ap, ◌∙◌, subst, arith}
use mathlib.Core.Logic.{inl, inr}
use Rattle.std.specs.Prelude.{IfSome}
use Rattle.std.specs.List.{cons_option, filter_map, flat_map, list_all, list_any, range_with_len}
use Rattle.std.proofs.lemmas.Bool.Decides.{nat_tests}
use Rattle.std.proofs.lemmas.Option.{none-some, same_Some}
use Rattle.std.proofs.lemmas.Bool.{or_parts, and_parts, and_from}
use Rattle.block_layout.specs.Place.{place_of}
use Rattle.block_spec.specs.Bodies.{has_row, is_front, is_imaged, is_loose, rows_of}
use Rattle.block_spec.specs.declared.phase.Phase.{Phase}
use Rattle.block_spec.specs.declared.phase.Phase.TheVariants.{Loose, Sealed, Imaged}
use Rattle.block_spec.specs.Slots.{Row}
use Rattle.core_laws.proofs.Frozen.Moments.{shared_is}
use Rattle.core_laws.proofs.Events.Lists.{split}
use Rattle.event_spec.specs.declared.event.Event.TheVariants as event
use Rattle.event_spec.specs.declared.own.OwnTransaction.{OwnTransaction}
use Rattle.event_spec.specs.declared.reply.Reply.TheVariants as reply
use Rattle.event_spec.specs.Effects.{CoreEvent, effect}
use Rattle.event_spec.specs.Lawful.{Among, IsLawful, session_of}
use Rattle.event_spec.specs.Parts.{Parts, Shape, body_at, slots_of}
use Rattle.event_spec.specs.Replay.{after}
use Rattle.event_spec.specs.Replies.{reply_to, row_read, rows_read}
use Rattle.event_spec.specs.Sound.{IsShape, Sound}
use Rattle.run_spec.specs.Calls.{is_refused}
use Rattle.run_spec.specs.Occurrences.{Logged, Occurrence, events_in, occurrence_of, replies_in, under}
use Rattle.run_spec.specs.Told.{is_some_row, rows_told}
use Rattle.run_laws.proofs.Calls.Along.{and_first, and_second}
use Rattle.run_laws.proofs.Counts.Stamps.{rows_few, rows_some}
use Rattle.run_laws.proofs.Moments.Standing.{other_last, own_last}
use Rattle.core_laws.proofs.Sound.Bodies.{true_false}
use Rattle.store_laws.proofs.Sights.{owns_still, rows_still}
use Rattle.run_laws.proofs.Told.Splits.{heads, none_some, tails}
use Rattle.run_laws.specs.Explained.Reads.{ReadsStand, Stands, StandsRead}
use Rattle.store_laws.specs.Stretches.{reads_block}

-- ---- rows of a read

-- A read finds no more rows than its block has slots.
rows_fit : (shape : Shape) (parts : Parts) (own : OwnTransaction) (table block : ℕ) → length (rows_read shape parts own table block) ≤ length (body_at shape parts table block).slots
rows_fit shape parts own table block = go 0 (length (body_at shape parts table block).slots)
  where
    go : (a n : ℕ) → length (filter_map (λ slot. row_read shape parts own table (place_of block slot)) (range_with_len a n)) ≤ n
    go a zero = omega arith
    go a (suc n) = one (row_read shape parts own table (place_of block a)) (go (a + 1) n)
      where
        one : (o : Option Row) → length (filter_map (λ slot. row_read shape parts own table (place_of block slot)) (range_with_len (a + 1) n)) ≤ n
            → length (cons_option o (filter_map (λ slot. row_read shape parts own table (place_of block slot)) (range_with_len (a + 1) n))) ≤ suc n
        one None h = omega (arith, h)
        one (Some row) h = omega (arith, h)

-- Rows that are one at least are some.
some_row : (rows : List Row) → 1 ≤ length rows → is_some_row rows ≡ true
some_row [] low = absurd (let never : ⊥ = omega (arith, low) in never)
some_row (row ∷ rows) low = refl

-- ---- an event of another session

module _ (shape : Shape) (parts : Parts) (e : CoreEvent) (is_shape : IsShape shape) (ok : Sound shape parts) (lawful : IsLawful shape e parts) where
  -- After another session's event a read stands as it did.
  stands_still : (session : ℕ) (made : Occurrence) → session_of e ≢ Some session → Stands shape parts session made → Stands shape (effect shape parts e) session made
  stands_still session made other stands own table block is =
      let old = stands own table block is in
      let apart : session_of e ≢ Some own.session = λ same. other (same ∙ ap Some old.session_is) in record {
        session_is = old.session_is;
        has = old.has;
        owns = owns_still shape parts e is_shape ok lawful own apart old.owns;
        rows = λ granted. old.rows granted ∙ sym (rows_still shape parts e is_shape ok lawful own table block apart old.owns old.has);
        few = old.few;
        some = old.some;
      }

-- ---- a read

-- A phase that is imaged is not loose.
imaged_loose : (phase : Phase) → is_imaged phase ≡ true → is_loose phase ≡ false
imaged_loose Loose e = absurd (true_false (sym e))
imaged_loose (Sealed g) e = absurd (true_false (sym e))
imaged_loose (Imaged g) e = refl

module _ (shape : Shape) (parts : Parts) (is_shape : IsShape shape) (ok : Sound shape parts) where
  -- A lawful read stands where it was made, granted or refused memory.
  read_stands : (refused : Bool) (session : ℕ) (under_it : ℕ) (own : OwnTransaction) (table block : ℕ) → IsLawful shape (event.Read own table block) parts → own.session ≡ session
      → StandsRead shape parts session
      (record { session = under_it; before = parts; event = event.Read own table block; reply = cond refused reply.Memory (reply_to shape parts (event.Read own table block)) })
      own table block
  read_stands true session under_it own table block lawful same = record {
    session_is = same;
    has = lawful.1;
    owns = lawful.0;
    rows = λ granted. absurd (true_false granted);
    few = omega arith;
    some = λ shared. absurd (true_false (sym shared));
  }
  read_stands false session under_it own table block lawful same = go (is_imaged (body_at shape parts table block).phase) refl
    where
      size : length (body_at shape parts table block).slots ≡ slots_of shape table
      size = (ok.bodies table block lawful.1).slots

      go : (imaged : Bool) → is_imaged (body_at shape parts table block).phase ≡ imaged
          → StandsRead shape parts session
          (record {
            session = under_it;
            before = parts;
            event = event.Read own table block;
            reply = cond (is_imaged (body_at shape parts table block).phase) (reply.Shared (rows_of (body_at shape parts table block))) (reply.Rows (rows_read shape parts own table block));
          }) own table block
      go true e = subst (λ b. StandsRead shape parts session
          (record {
            session = under_it;
            before = parts;
            event = event.Read own table block;
            reply = cond b (reply.Shared (rows_of (body_at shape parts table block))) (reply.Rows (rows_read shape parts own table block));
          }) own table block) (sym e)
          (let dense = (ok.bodies table block lawful.1).dense (imaged_loose (body_at shape parts table block).phase e) in
          let low = rows_some (body_at shape parts table block).slots (and_parts (has_row (body_at shape parts table block)) (is_front (body_at shape parts table block).slots) dense).0 in
          let high = rows_few (body_at shape parts table block).slots in
          record {
            session_is = same;
            has = lawful.1;
            owns = lawful.0;
            rows = λ granted. sym (shared_is shape parts is_shape ok own table block lawful.0 lawful.1 e);
            few = omega (arith, high, size);
            some = λ shared. some_row (rows_of (body_at shape parts table block)) low;
          })
      go false e = subst (λ b. StandsRead shape parts session
          (record {
            session = under_it;
            before = parts;
            event = event.Read own table block;
            reply = cond b (reply.Shared (rows_of (body_at shape parts table block))) (reply.Rows (rows_read shape parts own table block));
          }) own table block) (sym e)
          (let high = rows_fit shape parts own table block in
          record {
            session_is = same;
            has = lawful.1;
            owns = lawful.0;
            rows = λ granted. refl;
            few = omega (arith, high, size);
            some = λ shared. absurd (true_false (sym shared));
          })

-- A read leaves the parts as they are.
read_leaves : (shape : Shape) (parts : Parts) (e : CoreEvent) → reads_block e ≡ true → effect shape parts e ≡ parts
read_leaves shape parts (event.Read own table block) e = Rattle.core_laws.proofs.Events.Still.all_stay (Rattle.event_spec.specs.Parts.names shape) parts
read_leaves shape parts (event.Begin session) e = absurd (true_false (sym e))
read_leaves shape parts (event.Get own table key) e = absurd (true_false (sym e))
read_leaves shape parts (event.Range own table low high) e = absurd (true_false (sym e))
read_leaves shape parts (event.Insert own table row) e = absurd (true_false (sym e))
read_leaves shape parts (event.Update own table row) e = absurd (true_false (sym e))
read_leaves shape parts (event.Delete own table key) e = absurd (true_false (sym e))
read_leaves shape parts (event.Commit own reads) e = absurd (true_false (sym e))
read_leaves shape parts (event.Abort own) e = absurd (true_false (sym e))
read_leaves shape parts event.Oldest e = absurd (true_false (sym e))
read_leaves shape parts (event.Observe table block) e = absurd (true_false (sym e))
read_leaves shape parts (event.Prune table block oldest) e = absurd (true_false (sym e))
read_leaves shape parts (event.Look table block) e = absurd (true_false (sym e))
read_leaves shape parts (event.Move table moves) e = absurd (true_false (sym e))
read_leaves shape parts (event.Seal table block) e = absurd (true_false (sym e))
read_leaves shape parts (event.Image table block image) e = absurd (true_false (sym e))
read_leaves shape parts (event.Thaw table block) e = absurd (true_false (sym e))

-- A read in the log leaves the parts, granted or refused memory.
after_read : (shape : Shape) (parts : Parts) (entry : Logged) → reads_block entry.made.event ≡ true → after shape parts entry.made ≡ parts
after_read shape parts entry e = go entry.made.refused
  where
    go : (b : Bool) → cond b parts (effect shape parts entry.made.event) ≡ parts
    go true = refl
    go false = read_leaves shape parts entry.made.event e

-- ---- the last of some events

-- The last occurrence is the last of those done, unless none was done.
last_of : (xs : List Occurrence) (x : Occurrence) (began done : List Occurrence) → xs ++ x ∷ [] ≡ began ++ done
    → (done ≡ []) ⊎ ((less : List Occurrence) × (done ≡ less ++ x ∷ []) × (xs ≡ began ++ less))
last_of xs x [] done e = inr (xs, sym e, refl)
last_of [] x (b ∷ began) done e = inl (nothing began done (tails x b [] (began ++ done) e))
  where
    nothing : (began done : List Occurrence) → [] ≡ began ++ done → done ≡ []
    nothing [] done e = sym e
    nothing (y ∷ ys) done e = absurd (none_some y (ys ++ done) e)
last_of (y ∷ xs) x (b ∷ began) done e =
    go (last_of xs x began done (tails y b (xs ++ x ∷ []) (began ++ done) e)) (heads y b (xs ++ x ∷ []) (began ++ done) e)
  where
    go : (done ≡ []) ⊎ ((less : List Occurrence) × (done ≡ less ++ x ∷ []) × (xs ≡ began ++ less)) → y ≡ b
        → (done ≡ []) ⊎ ((less : List Occurrence) × (done ≡ less ++ x ∷ []) × (y ∷ xs ≡ (b ∷ began) ++ less))
    go (inl e) same = inl e
    go (inr h) same = inr (h.0, h.1, ap (λ z. z ∷ xs) same ∙ ap (λ zs. b ∷ zs) h.2)

-- The events of two lists of occurrences are those of the one, then of the other.
events_append : (xs ys : List Occurrence) → events_in (xs ++ ys) ≡ events_in xs ++ events_in ys
events_append [] ys = refl
events_append (x ∷ xs) ys = ap (λ es. x.event ∷ es) (events_append xs ys)

-- Where two lists of events are together all reads, each of them is.
all_front : (xs ys : List CoreEvent) → list_all reads_block (xs ++ ys) ≡ true → (list_all reads_block xs ≡ true) × (list_all reads_block ys ≡ true)
all_front [] ys e = (refl, e)
all_front (x ∷ xs) ys e =
    let rest = all_front xs ys (and_second (reads_block x) (list_all reads_block (xs ++ ys)) e) in
    (and_from (reads_block x) (list_all reads_block xs) (and_first (reads_block x) (list_all reads_block (xs ++ ys)) e) rest.0, rest.1)

-- two numbers are equal, or they are not
pub same_number : (a b : ℕ) → (a ≡ b) ⊎ (a ≢ b)
same_number a b = go (a == b) refl
  where
    go : (t : Bool) → (a == b) ≡ t → (a ≡ b) ⊎ (a ≢ b)
    go true e = inl (grind (arith, nat_tests))
    go false e = inr (λ s. absurd (grind (arith, nat_tests)))

-- An event that is named for one session is not another's.
named_other : (o : Option ℕ) (q r : ℕ) → IfSome o (λ session. session ≡ r) → (q ≡ r → ⊥) → o ≢ Some q
named_other None q r named ne e = none-some q e
named_other (Some s) q r named ne e = ne (sym (same_Some s q e) ∙ named)

-- A read stands through the events of others, and behind reads of its own session.
pub reads_stand : ReadsStand
reads_stand shape parts front entry is_shape ok lawful named stands q began done is reads made among = go (same_number q entry.session)
  where
    go : (q ≡ entry.session) ⊎ (q ≢ entry.session) → Stands shape (after shape parts entry.made) q made
    go (inr ne) =
        let old = stands q began done (sym (other_last q front (occurrence_of shape parts entry) (λ e. ne (sym e))) ∙ is) reads made among in
        at entry.made.refused old
      where
        at : (refused : Bool) → Stands shape parts q made → Stands shape (cond refused parts (effect shape parts entry.made.event)) q made
        at true old = old
        at false old = stands_still shape parts entry.made.event is_shape ok lawful q made (named_other (session_of entry.made.event) q entry.session named ne) old
    go (inl same) = at (last_of (under entry.session front) (occurrence_of shape parts entry) began done
        (sym (own_last front (occurrence_of shape parts entry)) ∙ ap (λ n. under n (front ++ occurrence_of shape parts entry ∷ [])) (sym same) ∙ is))
      where
        new : Occurrence
        new = occurrence_of shape parts entry

        at : (done ≡ []) ⊎ ((less : List Occurrence) × (done ≡ less ++ occurrence_of shape parts entry ∷ []) × (under entry.session front ≡ began ++ less))
            → Stands shape (after shape parts entry.made) q made
        at (inl none) = absurd (subst (Among made) none among)
        at (inr h) =
            let both = all_front (events_in h.0) (entry.made.event ∷ []) (ap (list_all reads_block) (sym (events_append h.0 (occurrence_of shape parts entry ∷ [])) ∙ ap events_in (sym h.1)) ∙ reads) in
            let is_one : reads_block entry.made.event ≡ true = and_first (reads_block entry.made.event) true both.1 in
            subst (λ p. Stands shape p q made) (sym (after_read shape parts entry is_one))
            (one both.0 (split h.0 (occurrence_of shape parts entry ∷ []) made (subst (Among made) h.1 among)))
          where
            one : list_all reads_block (events_in h.0) ≡ true → Among made h.0 ⊎ Among made (occurrence_of shape parts entry ∷ []) → Stands shape parts q made
            one front_reads (inl old) = stands q began h.0 (ap (λ n. under n front) same ∙ h.2) front_reads made old
            one front_reads (inr (inl e)) = subst (Stands shape parts q) (sym e) (λ own table block is.
                subst (λ x. StandsRead shape parts q (record { session = entry.session; before = parts; event = x; reply = cond entry.made.refused reply.Memory (reply_to shape parts x) }) own table block) (sym is)
                (read_stands shape parts is_shape ok entry.made.refused q entry.session own table block
                (subst (λ x. IsLawful shape x parts) is lawful)
                (subst (λ x. IfSome (session_of x) (λ session. session ≡ entry.session)) is named ∙ sym same)))
            one front_reads (inr (inr none)) = absurd none

-- ---- all reads of a scan

-- What reads of blocks in turn told, reads of them told together.
pub read_together : (shape : Shape) (parts : Parts) (session : ℕ) (own : OwnTransaction) (table : ℕ) (made : List Occurrence) (blocks : List ℕ)
    → events_in made ≡ Rattle.std.proofs.Common.map (event.Read own table) blocks → list_any is_refused made ≡ false
    → ((o : Occurrence) → Among o made → Stands shape parts session o)
    → flat_map rows_told (replies_in made) ≡ flat_map (rows_read shape parts own table) blocks
read_together shape parts session own table [] [] e granted stands = refl
read_together shape parts session own table [] (b ∷ blocks) e granted stands = absurd (none_some (event.Read own table b) (Rattle.std.proofs.Common.map (event.Read own table) blocks) e)
read_together shape parts session own table (x ∷ made) [] e granted stands = absurd (none_some x.event (events_in made) (sym e))
read_together shape parts session own table (x ∷ made) (b ∷ blocks) e granted stands =
    let here = stands x (inl refl) own table b (heads x.event (event.Read own table b) (events_in made) (Rattle.std.proofs.Common.map (event.Read own table) blocks) e) in
    let parts' = or_parts (is_refused x) (list_any is_refused made) granted in
    ap (λ rows. rows ++ flat_map rows_told (replies_in made)) (here.rows parts'.0)
    ∙ ap (λ rows. rows_read shape parts own table b ++ rows)
    (read_together shape parts session own table made blocks
    (tails x.event (event.Read own table b) (events_in made) (Rattle.std.proofs.Common.map (event.Read own table) blocks) e) parts'.1 (λ o a. stands o (inr a)))
