-- A session's reads of all blocks of a table, each made at a moment of its own.
use Rattle.std.proofs.Common.{◌≡◌, ◌≢◌, ◌⊎◌, ℕ, zero, suc, ◌+◌, ◌≤◌, Bool, true, false, cond, List, [], ◌∷◌, ◌++◌, Option, None, Some, fold, refl, sym, ap, ◌∙◌, subst, arith}
use mathlib.Core.Logic.{inl, inr}
use Rattle.std.specs.List.{flat_map, range_with_len}
use Rattle.std.proofs.lemmas.Option.{none-some, same_Some}
use Rattle.block_spec.specs.Bodies.{is_imaged, rows_of}
use Rattle.block_spec.specs.Slots.{Row}
use Rattle.core_laws.proofs.Events.Lists.{all_at}
use Rattle.core_laws.proofs.Following.Desks.{same_number}
use Rattle.core_laws.proofs.Events.Still.{all_stay}
use Rattle.core_laws.proofs.Frozen.Moments.{shared_is}
use Rattle.core_laws.proofs.Logs.Logs.{made_keeps, reaches_from}
use Rattle.core_laws.proofs.Logs.Opening.{sound}
use Rattle.core_laws.proofs.Sound.Bodies.{true_false}
use Rattle.event_spec.specs.declared.event.Event.TheVariants as event
use Rattle.event_spec.specs.declared.own.OwnTransaction.{OwnTransaction}
use Rattle.event_spec.specs.declared.reply.Reply.TheVariants as reply
use Rattle.event_spec.specs.Effects.{CoreEvent, effect}
use Rattle.event_spec.specs.Lawful.{Among, HasBlock, IsLawful, OwnsAll, session_of}
use Rattle.event_spec.specs.Parts.{Parts, Shape, blocks_of, body_at, names}
use Rattle.event_spec.specs.Replay.{IsLawfulFrom, Made, after, opening, replay}
use Rattle.event_spec.specs.Replies.{reply_to, rows_read}
use Rattle.event_spec.specs.Sound.{IsShape, Sound}
use Rattle.run_spec.specs.Told.{rows_told}
use Rattle.store_laws.proofs.Sights.{owns_still, rows_still}
use Rattle.store_laws.proofs.Scans.{reads_are_the_scan, within}
use Rattle.store_laws.specs.Reads.{AreTheScan, ReadsAreTheScanThroughout, behind, is_look, told_throughout}
use Rattle.store_laws.specs.Scans.{all_read}

-- a lawful log of two lists is lawful over the first, and over the second behind it
pub lawful_parts : (sh : Shape) (xs ys : List Made) (s : Parts) → IsLawfulFrom sh s (xs ++ ys) → IsLawfulFrom sh s xs × IsLawfulFrom sh (fold (after sh) s xs) ys
lawful_parts sh [] ys s lawful = (tt, lawful)
lawful_parts sh (made ∷ xs) ys s lawful =
    let rest = lawful_parts sh xs ys (after sh s made) lawful.2 in
    ((lawful.0, lawful.1, rest.0), rest.1)

-- A get, a read and a range leave the parts.
look_leaves : (sh : Shape) (s : Parts) (e : CoreEvent) → is_look e ≡ true → effect sh s e ≡ s
look_leaves sh s (event.Get own t key) e = all_stay (names sh) s
look_leaves sh s (event.Read own t b) e = all_stay (names sh) s
look_leaves sh s (event.Range own t low high) e = all_stay (names sh) s
look_leaves sh s (event.Begin q) e = absurd (true_false (sym e))
look_leaves sh s (event.Insert own t row) e = absurd (true_false (sym e))
look_leaves sh s (event.Update own t row) e = absurd (true_false (sym e))
look_leaves sh s (event.Delete own t key) e = absurd (true_false (sym e))
look_leaves sh s (event.Commit own reads) e = absurd (true_false (sym e))
look_leaves sh s (event.Abort own) e = absurd (true_false (sym e))
look_leaves sh s event.Oldest e = absurd (true_false (sym e))
look_leaves sh s (event.Observe t b) e = absurd (true_false (sym e))
look_leaves sh s (event.Prune t b oldest) e = absurd (true_false (sym e))
look_leaves sh s (event.Look t b) e = absurd (true_false (sym e))
look_leaves sh s (event.Move t moves) e = absurd (true_false (sym e))
look_leaves sh s (event.Seal t b) e = absurd (true_false (sym e))
look_leaves sh s (event.Image t b image) e = absurd (true_false (sym e))
look_leaves sh s (event.Thaw t b) e = absurd (true_false (sym e))

-- An event is of this session, or it is not.
of_session : (o : Option ℕ) (q : ℕ) → (o ≡ Some q) ⊎ (o ≢ Some q)
of_session None q = inr (none-some q)
of_session (Some r) q = go (same_number r q)
  where
    go : (r ≡ q) ⊎ (r ≢ q) → (Some r ≡ Some q) ⊎ (Some r ≢ Some q)
    go (inl e) = inl (ap Some e)
    go (inr n) = inr (λ e. n (same_Some r q e))

-- what stands of the reads of a table from one moment to a later one
pub record Still (sh : Shape) (own : OwnTransaction) (t : ℕ) (s later : Parts) : Type 0 where
  pub sound_is : Sound sh later
  pub owns : OwnsAll sh own later
  pub rows : (b : ℕ) → HasBlock sh t b → rows_read sh later own t b ≡ rows_read sh s own t b

module _ (sh : Shape) (own : OwnTransaction) (t : ℕ) (shape : IsShape sh) where
  -- an event that was made, of another or of the session's looks, leaves what the session reads
  pub made_still : (s : Parts) (made : Made) → Sound sh s → IsLawful sh made.event s → OwnsAll sh own s
      → (session_of made.event ≡ Some own.session → is_look made.event ≡ true) → Still sh own t s (after sh s made)
  made_still s made ok lawful owns looks = go made.refused (of_session (session_of made.event) own.session)
    where
      here : Still sh own t s s
      here = record { sound_is = ok; owns = owns; rows = λ b has. refl }

      go : (r : Bool) → (session_of made.event ≡ Some own.session) ⊎ (session_of made.event ≢ Some own.session) → Still sh own t s (cond r s (effect sh s made.event))
      go true either = here
      go false (inl mine) = subst (Still sh own t s) (sym (look_leaves sh s made.event (looks mine))) here
      go false (inr other) = record {
        sound_is = made_keeps sh s (record { event = made.event; refused = false }) shape ok lawful;
        owns = owns_still sh s made.event shape ok lawful own other owns;
        rows = λ b has. rows_still sh s made.event shape ok lawful own t b other owns has;
      }

  -- So do so many events of a log.
  log_still : (log : List Made) (s : Parts) (n : ℕ) → Sound sh s → IsLawfulFrom sh s log → OwnsAll sh own s
      → ((made : Made) → Among made log → session_of made.event ≡ Some own.session → is_look made.event ≡ true)
      → Still sh own t s (behind sh s log n)
  log_still log s zero ok lawful owns looks = record { sound_is = ok; owns = owns; rows = λ b has. refl }
  log_still [] s (suc n) ok lawful owns looks = record { sound_is = ok; owns = owns; rows = λ b has. refl }
  log_still (made ∷ log) s (suc n) ok lawful owns looks =
      let one = made_still s made ok lawful.0 owns (looks made (inl refl)) in
      let more = log_still log (after sh s made) n one.sound_is lawful.2 one.owns (λ m a. looks m (inr a)) in
      record { sound_is = more.sound_is; owns = more.owns; rows = λ b has. more.rows b has ∙ one.rows b has }

  -- the reply to a read tells the rows read, be the block imaged or not
  pub read_told : (s : Parts) (b : ℕ) → Sound sh s → OwnsAll sh own s → HasBlock sh t b → rows_told (reply_to sh s (event.Read own t b)) ≡ rows_read sh s own t b
  read_told s b ok owns has = go (is_imaged (body_at sh s t b).phase) refl
    where
      go : (imaged : Bool) → is_imaged (body_at sh s t b).phase ≡ imaged
          → rows_told (cond (is_imaged (body_at sh s t b).phase) (reply.Shared (rows_of (body_at sh s t b))) (reply.Rows (rows_read sh s own t b))) ≡ rows_read sh s own t b
      go true e = ap (λ x. rows_told (cond x (reply.Shared (rows_of (body_at sh s t b))) (reply.Rows (rows_read sh s own t b)))) e ∙ sym (shared_is sh s shape ok own t b owns has e)
      go false e = ap (λ x. rows_told (cond x (reply.Shared (rows_of (body_at sh s t b))) (reply.Rows (rows_read sh s own t b)))) e

  -- Lists that are the same for each block of the table are the same one behind the other.
  each_block : (f g : ℕ → List Row) → ((b : ℕ) → HasBlock sh t b → f b ≡ g b) → (a n : ℕ) → a + n ≤ blocks_of sh t → flat_map f (range_with_len a n) ≡ flat_map g (range_with_len a n)
  each_block f g same a zero fits = refl
  each_block f g same a (suc n) fits =
      ap (λ rows. rows ++ flat_map f (range_with_len (a + 1) n)) (same a (within sh t a (omega (arith, fits))))
      ∙ ap (λ rows. g a ++ rows) (each_block f g same (a + 1) n (omega (arith, fits)))

-- Reads of all blocks, whenever each is made between two of the session's writes, are the scan.
pub reads_are_the_scan_throughout : ReadsAreTheScanThroughout
reads_are_the_scan_throughout sh front log moment own t m open' shape lawful owns looks f is_open =
    let parts = lawful_parts sh front log (opening sh) lawful in
    let start : Parts = replay sh front in
    let ok : Sound sh start = reaches_from sh front (opening sh) shape (sound sh shape) parts.0 in
    let at : (b : ℕ) → HasBlock sh t b → rows_told (reply_to sh (behind sh start log (moment b)) (event.Read own t b)) ≡ rows_read sh start own t b = λ b has.
    let still = log_still sh own t shape log start (moment b) ok parts.1 owns (λ made a. all_at (λ (made : Made). session_of made.event ≡ Some own.session → is_look made.event ≡ true) log made looks a) in
    read_told sh own t shape (behind sh start log (moment b)) b still.sound_is still.owns has ∙ still.rows b has in
    let same : told_throughout sh start log moment own t ≡ all_read sh start own t =
    each_block sh own t shape (λ b. rows_told (reply_to sh (behind sh start log (moment b)) (event.Read own t b))) (rows_read sh start own t) at 0 (blocks_of sh t) (omega arith) in
    let scan = reads_are_the_scan sh start own t m open' shape ok owns f is_open in
    subst (λ rows. AreTheScan rows t m open') (sym same) (record { ordered = scan.rows; count = scan.count })
