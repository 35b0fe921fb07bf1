-- What a moment's line adds to the counts of lines, by its event.
use Rattle.std.proofs.Common.{◌≡◌, ◌⊎◌, ℕ, ◌+◌, ◌≤◌, Bool, true, false, cond, ◌&&◌, ◌==◌, List, [], ◌∷◌, ◌++◌, length, Option, None, Some, refl, sym, ap, ◌∙◌, subst, arith}
use mathlib.Core.Logic.{inl, inr}
use Rattle.std.specs.Prelude.{Result, Ok, Err}
use Rattle.std.specs.List.{cons_option, filter_map}
use Rattle.std.specs.Option.{option_map_or}
use Rattle.std.proofs.lemmas.Bool.Decides.{nat_tests}
use Rattle.std.proofs.lemmas.List.Elements.{filter_map-append}
use Rattle.std.proofs.lemmas.List.Sums.{sum_by-append, sum_by-cons}
use Rattle.block_spec.specs.Bodies.{seal_fault}
use Rattle.block_spec.specs.declared.phase.Phase.{Phase}
use Rattle.block_spec.specs.declared.phase.Phase.TheVariants.{Loose, Sealed, Imaged}
use Rattle.block_spec.specs.declared.phase.SealFault.{SealFault}
use Rattle.event_spec.specs.declared.event.Event.TheVariants as event
use Rattle.event_spec.specs.declared.own.OwnTransaction.{OwnTransaction}
use Rattle.event_spec.specs.declared.reply.Reply.TheVariants as reply
use Rattle.event_spec.specs.declared.reply.WriteFault.{WriteFault}
use Rattle.event_spec.specs.declared.reply.WriteFault.TheVariants as refusal
use Rattle.event_spec.specs.Effects.{CoreEvent, change_judged, insert_judged, stale_in}
use Rattle.event_spec.specs.Parts.{Parts, Shape, body_at, is_head}
use Rattle.event_spec.specs.Replies.{CoreReply, reply_to, reply_to_commit, reply_to_image, reply_to_seal, reply_to_write}
use Rattle.isolation_spec.specs.Contents.{key_of}
use Rattle.isolation_spec.specs.declared.read.Read.{Read}
use Rattle.outcome_spec.specs.Entries.{Entry, shown_in}
use Rattle.outcome_spec.specs.Forms.{is_silent}
use Rattle.outcome_spec.specs.Upkeep.{inserts_in, is_accepted_insert, rows_in, stamp_in}
use Rattle.workload_spec.specs.declared.command.Command.{Command}
use Rattle.workload_spec.specs.declared.reply.Said.{Said}
use Rattle.workload_spec.specs.declared.reply.Said.TheVariants as said
use Rattle.run_spec.specs.Calls.{line_to}
use Rattle.run_spec.specs.Occurrences.{Occurrence}
use Rattle.run_spec.specs.Told.{cause_told, stale_of, told_by}
use Rattle.store_laws.specs.Room.{inserted_by}
use Rattle.run_laws.specs.Counts.Stamps.{imaged_by, sealed_by}
use Rattle.run_laws.specs.Told.Laws.{TellsAt, TellsMove, TellsQuietly, is_plain, is_quiet}
use Rattle.run_laws.proofs.Told.Tells.{not_silent}

-- What is true is not false.
true_false : true ≡ false → ⊥
true_false e = cc

-- ---- one line more

-- 1 where what is told shows the mark, and else 0
abbrev pub shown : (Said → Option ℕ) → Option Said → ℕ
shown f None = 0
shown f (Some line) = option_map_or (λ n. 1) (f line) 0

-- one more line adds this to the count of those that show it
pub shown_more : (f : Said → Option ℕ) (lines : List Entry) (entry : Entry)
    → length (shown_in f (lines ++ entry ∷ [])) ≡ length (shown_in f lines) + shown f (Some entry.reply.said)
shown_more f lines entry =
    ap length (filter_map-append (λ (entry : Entry). f entry.reply.said) lines (entry ∷ []))
    ∙ Rattle.std.proofs.Common.length-append (filter_map (λ (entry : Entry). f entry.reply.said) lines) (filter_map (λ (entry : Entry). f entry.reply.said) (entry ∷ []))
    ∙ ap (λ n. length (shown_in f lines) + n) (go (f entry.reply.said))
  where
    go : (o : Option ℕ) → length (cons_option o []) ≡ option_map_or (λ n. 1) o 0
    go None = refl
    go (Some n) = refl

-- 1 where an insert into the table was accepted, and else 0
abbrev pub accepted : ℕ → Command → Option Said → ℕ
accepted table asked None = 0
accepted table asked (Some line) = cond (is_accepted_insert table asked line) 1 0

-- one more line adds this to the count of accepted inserts
pub inserts_more : (table : ℕ) (lines : List Entry) (entry : Entry)
    → inserts_in table (lines ++ entry ∷ []) ≡ inserts_in table lines + cond (is_accepted_insert table entry.command entry.reply.said) 1 0
inserts_more table lines entry =
    let all = sum_by-append (λ (entry : Entry). cond (is_accepted_insert table entry.command entry.reply.said) 1 0) lines (entry ∷ []) in
    let one = sum_by-cons (λ (entry : Entry). cond (is_accepted_insert table entry.command entry.reply.said) 1 0) entry [] in
    omega (arith, all, one)

-- ---- lines of no seal and no image

-- the line is of a seal or of an image
abbrev pub is_frost : Said → Bool
is_frost (said.Sealed table block stamp) = true
is_frost (said.Frozen table block rows) = true
is_frost _ = false

-- A line of no seal and no image shows no stamp of a block.
no_stamp : (table block : ℕ) (line : Said) → is_frost line ≡ false → stamp_in table block line ≡ None
no_stamp table block (said.Sealed t b stamp) e = absurd (true_false e)
no_stamp table block _ e = refl

-- A line of no seal and no image shows no rows of a block.
no_rows : (table block : ℕ) (line : Said) → is_frost line ≡ false → rows_in table block line ≡ None
no_rows table block (said.Frozen t b rows) e = absurd (true_false e)
no_rows table block _ e = refl

-- A plain line is of no seal and no image.
plain_frost : (line : Said) → is_plain line ≡ true → is_frost line ≡ false
plain_frost (said.Sealed t b stamp) e = absurd (true_false (sym e))
plain_frost (said.Frozen t b rows) e = absurd (true_false (sym e))
plain_frost _ e = refl

-- what is told adds so many seals and images
pub record Adds (table block : ℕ) (told : Option Said) (seals images : ℕ) : Type 0 where
  pub seals_are : shown (stamp_in table block) told ≡ seals
  pub images_are : shown (rows_in table block) told ≡ images

-- a line of neither adds to no count of them
pub adds_none : (table block : ℕ) (told : Option Said) (line : Said) → told ≡ Some line → is_frost line ≡ false → Adds table block told 0 0
adds_none table block told line is none = record {
  seals_are = ap (shown (stamp_in table block)) is ∙ ap (λ o. option_map_or (λ (n : ℕ). 1) o 0) (no_stamp table block line none);
  images_are = ap (shown (rows_in table block)) is ∙ ap (λ o. option_map_or (λ (n : ℕ). 1) o 0) (no_rows table block line none);
}

-- nor does a line that says nothing of counts, or one that moved nothing
pub plain_adds : (table block : ℕ) (told : Option Said) (line : Said) → told ≡ Some line
    → (is_plain line ≡ true) ⊎ (line ≡ said.Moved 0) → Adds table block told 0 0
plain_adds table block told line is (inl plain) = adds_none table block told line is (plain_frost line plain)
plain_adds table block told line is (inr moved) = adds_none table block told line is (ap is_frost moved)

-- A line that is told quietly adds no seal and no image.
quiet_adds : (table block : ℕ) (asked : Command) (made : List Occurrence) (told : Option Said) → TellsQuietly asked made told → Adds table block told 0 0
quiet_adds table block asked made told (line, is, inl plain) = adds_none table block told line is (plain_frost line plain)
quiet_adds table block asked made told (line, is, inr (inl moved)) = adds_none table block told line is (ap is_frost moved)
quiet_adds table block asked made told (line, is, inr (inr pruned)) = adds_none table block told line is (ap is_frost pruned.1)

-- ---- by the event

-- A line that is meant and never silent is told.
told_as : (worker : Bool) (told : Option Said) (meant : Option Said) (line : Said) → told ≡ line_to worker meant → meant ≡ Some line → is_silent line ≡ false → told ≡ Some line
told_as worker told meant line tells is loud = tells ∙ ap (line_to worker) is ∙ not_silent worker line loud

-- of a line that may be silent either it is told or nothing
pub silent_or : (worker : Bool) (line : Said) (told : Option Said) → told ≡ line_to worker (Some line) → (told ≡ None) ⊎ (told ≡ Some line)
silent_or false line told e = inr e
silent_or true line told e = go (is_silent line) e
  where
    go : (b : Bool) → told ≡ cond b None (Some line) → (told ≡ None) ⊎ (told ≡ Some line)
    go true e = inl e
    go false e = inr e

-- A line of no seal and no image adds none of them, told or silent.
adds_silent : (table block : ℕ) (line : Said) (told : Option Said) → is_frost line ≡ false → (told ≡ None) ⊎ (told ≡ Some line) → Adds table block told 0 0
adds_silent table block line told none (inl e) = record { seals_are = ap (shown (stamp_in table block)) e; images_are = ap (shown (rows_in table block)) e }
adds_silent table block line told none (inr e) = adds_none table block told line e none

-- The test of two numbers is the same in either order.
turn : (a b : ℕ) → (a == b) ≡ (b == a)
turn a b = go (a == b) (b == a) refl refl
  where
    go : (x y : Bool) → (a == b) ≡ x → (b == a) ≡ y → x ≡ y
    go true true e f = refl
    go true false e f = absurd (let never : ⊥ = grind (arith, nat_tests, e, f) in never)
    go false true e f = absurd (let never : ⊥ = grind (arith, nat_tests, e, f) in never)
    go false false e f = refl

-- The test of a table and a block is the same in either order.
both_turned : (t b u c : ℕ) → ((u == t) && (c == b)) ≡ ((t == u) && (b == c))
both_turned t b u c = ap (λ x. x && (c == b)) (turn u t) ∙ ap (λ x. (t == u) && x) (turn c b)

-- A number that a test lets through counts one, and else none.
one_if : (x : Bool) (n : ℕ) → option_map_or (λ (n : ℕ). 1) (cond x (Some n) None) 0 ≡ cond {A = ℕ} x 1 0
one_if true n = refl
one_if false n = refl

-- A choice between zero and zero is zero.
zero_if : (x : Bool) → cond {A = ℕ} x 0 0 ≡ 0
zero_if true = refl
zero_if false = refl

-- a write's reply is told by a line, which is of no seal and no image
pub write_line : (table : ℕ) (r : Result ℕ WriteFault) → (line : Said) × (told_by table 0 (reply_to_write r) ≡ Some line) × (is_silent line ≡ false) × (is_frost line ≡ false)
write_line table (Ok place) = (said.Accepted, refl, refl, refl)
write_line table (Err (refusal.ConflictSession q)) = (said.ConflictSession q, refl, refl, refl)
write_line table (Err (refusal.ConflictCommit n)) = (said.ConflictCommit n, refl, refl, refl)
write_line table (Err refusal.Exists) = (said.Exists, refl, refl, refl)
write_line table (Err refusal.Missing) = (said.Missing, refl, refl, refl)
write_line table (Err (refusal.Freezing block stamp)) = (said.Freezing table block stamp, refl, refl, refl)
write_line table (Err (refusal.Full n)) = (said.Full, refl, refl, refl)

module _ (shape : Shape) (parts : Parts) (t b : ℕ) (worker : Bool) (asked : Command) (made : List Occurrence) (told : Option Said) where
  -- a write, granted or refused
  write_adds : (table : ℕ) (refused : Bool) (r : Result ℕ WriteFault) → told ≡ line_to worker (told_by table 0 (cond refused reply.Memory (reply_to_write r))) → Adds t b told 0 0
  write_adds table true r tells = adds_none t b told said.Memory (tells ∙ not_silent worker said.Memory refl) refl
  write_adds table false r tells = let w = write_line table r in adds_none t b told w.0 (told_as worker told (told_by table 0 (reply_to_write r)) w.0 tells w.1 w.2) w.3

  -- A seal's line adds one to its own block's seals where it was granted.
  seal_adds : (u c : ℕ) (refused : Bool) (because : Option SealFault) (last : ℕ)
      → told ≡ line_to worker (told_by u c (cond refused reply.Memory (reply_to_seal because last)))
      → Adds t b told (cond ((t == u) && (b == c)) (Rattle.run_laws.specs.Counts.Stamps.seals_told (cond refused reply.Memory (reply_to_seal because last))) 0) 0
  seal_adds u c true because last tells =
      let none = adds_none t b told said.Memory (tells ∙ not_silent worker said.Memory refl) refl in
      record { seals_are = none.seals_are ∙ sym (zero_if ((t == u) && (b == c))); images_are = none.images_are }
  seal_adds u c false None last tells =
      let is : told ≡ Some (said.Sealed u c (last + 1)) = tells ∙ not_silent worker (said.Sealed u c (last + 1)) refl in record {
        seals_are = ap (shown (stamp_in t b)) is ∙ one_if ((u == t) && (c == b)) (last + 1) ∙ ap (λ x. cond {A = ℕ} x 1 0) (both_turned t b u c);
        images_are = ap (shown (rows_in t b)) is;
      }
  seal_adds u c false (Some fault) last tells =
      let none = adds_silent t b (said.NotSealed (cause_told fault)) told refl (silent_or worker (said.NotSealed (cause_told fault)) told tells) in
      record { seals_are = none.seals_are ∙ sym (zero_if ((t == u) && (b == c))); images_are = none.images_are }

  -- An image's line adds one to its own block's images where it was granted.
  image_adds : (u c : ℕ) (refused : Bool) (phase : Phase) (body : Rattle.block_spec.specs.Bodies.Body)
      → told ≡ line_to worker (told_by u c (cond refused reply.Memory (reply_to_image phase body)))
      → Adds t b told 0 (cond ((t == u) && (b == c)) (Rattle.run_laws.specs.Counts.Stamps.images_told (cond refused reply.Memory (reply_to_image phase body))) 0)
  image_adds u c true phase body tells =
      let none = adds_none t b told said.Memory (tells ∙ not_silent worker said.Memory refl) refl in
      record { seals_are = none.seals_are; images_are = none.images_are ∙ sym (zero_if ((t == u) && (b == c))) }
  image_adds u c false Loose body tells =
      let none = adds_silent t b said.NotFrozen told refl (silent_or worker said.NotFrozen told tells) in
      record { seals_are = none.seals_are; images_are = none.images_are ∙ sym (zero_if ((t == u) && (b == c))) }
  image_adds u c false (Imaged g) body tells =
      let none = adds_silent t b said.NotFrozen told refl (silent_or worker said.NotFrozen told tells) in
      record { seals_are = none.seals_are; images_are = none.images_are ∙ sym (zero_if ((t == u) && (b == c))) }
  image_adds u c false (Sealed g) body tells =
      let rows : ℕ = length (Rattle.block_spec.specs.Bodies.rows_of body) in
      let is : told ≡ Some (said.Frozen u c rows) = tells ∙ not_silent worker (said.Frozen u c rows) refl in record {
        seals_are = ap (shown (stamp_in t b)) is;
        images_are = ap (shown (rows_in t b)) is ∙ one_if ((u == t) && (c == b)) rows ∙ ap (λ x. cond {A = ℕ} x 1 0) (both_turned t b u c);
      }

  -- A move's line adds no seal and no image.
  move_adds : (r : CoreReply) → TellsMove r told → Adds t b told 0 0
  move_adds r (inl h) = adds_none t b told said.Memory h.1 refl
  move_adds r (inr e) = adds_none t b told (said.Moved (Rattle.run_spec.specs.Told.moved_told r)) e refl

  -- A commit's line, refused or not, adds no seal and no image.
  commit_adds : (own : OwnTransaction) (stale : Option (Read × ℕ)) → told ≡ line_to worker (told_by 0 0 (reply_to_commit shape parts own stale)) → Adds t b told 0 0
  commit_adds own (Some stale) is = adds_none t b told (said.Stale (stale_of stale.0) stale.1) (is ∙ not_silent worker (said.Stale (stale_of stale.0) stale.1) refl) refl
  commit_adds own None is =
      let n : Option ℕ = cond (Rattle.event_spec.specs.Effects.is_some_write own.writes) (Some ((Rattle.event_spec.specs.Parts.desk_at shape parts).commits + 1)) None in
      adds_none t b told (said.Committed n) (is ∙ not_silent worker (said.Committed n) refl) refl

  -- a line at an event adds as many seals and images as the event
  pub event_adds : (e : CoreEvent) (refused : Bool) → TellsAt worker made e (cond refused reply.Memory (reply_to shape parts e)) asked told
      → Adds t b told (sealed_by t b e (cond refused reply.Memory (reply_to shape parts e))) (imaged_by t b e (cond refused reply.Memory (reply_to shape parts e)))
  event_adds (event.Begin session) true h = adds_none t b told said.Memory (h.1 ∙ not_silent worker said.Memory refl) refl
  event_adds (event.Begin session) false h = adds_none t b told (said.At (Rattle.event_spec.specs.Parts.desk_at shape parts).commits)
      (h.1 ∙ not_silent worker (said.At (Rattle.event_spec.specs.Parts.desk_at shape parts).commits) refl) refl
  event_adds (event.Get own table key) refused h = quiet_adds t b asked made told h
  event_adds (event.Insert own table row) refused h = write_adds table refused (insert_judged shape parts own table (key_of row)) h.1
  event_adds (event.Update own table row) refused h = write_adds table refused (change_judged shape parts own table (key_of row)) h.1
  event_adds (event.Delete own table key) refused h = write_adds table refused (change_judged shape parts own table key) h.1
  event_adds (event.Read own table block) refused h = quiet_adds t b asked made told h
  event_adds (event.Range own table low high) refused h = quiet_adds t b asked made told h
  event_adds (event.Commit own reads) true h = adds_none t b told said.Memory (h.1 ∙ not_silent worker said.Memory refl) refl
  event_adds (event.Commit own reads) false h = commit_adds own (stale_in shape parts own reads) h.1
  event_adds (event.Abort own) true h = adds_none t b told said.Memory (h.1 ∙ not_silent worker said.Memory refl) refl
  event_adds (event.Abort own) false h = adds_none t b told said.Aborted (h.1 ∙ not_silent worker said.Aborted refl) refl
  event_adds event.Oldest refused h = quiet_adds t b asked made told h
  event_adds (event.Observe table block) refused h = quiet_adds t b asked made told h
  event_adds (event.Prune table block oldest) refused h = quiet_adds t b asked made told h
  event_adds (event.Look table block) refused h = quiet_adds t b asked made told h
  event_adds (event.Move table moves) refused h = move_adds (cond refused reply.Memory (reply_to shape parts (event.Move table moves))) h.2
  event_adds (event.Seal u c) refused h = seal_adds u c refused (seal_fault (is_head shape parts u c) (body_at shape parts u c)) (body_at shape parts u c).last h.1
  event_adds (event.Image u c image) refused h = image_adds u c refused (body_at shape parts u c).phase (body_at shape parts u c) h.1
  event_adds (event.Thaw table block) refused h = quiet_adds t b asked made told h

  -- an insert that was granted is told so
  pub insert_adds : (e : CoreEvent) (refused : Bool) → TellsAt worker made e (cond refused reply.Memory (reply_to shape parts e)) asked told
      → inserted_by t e (cond refused reply.Memory (reply_to shape parts e)) ≤ accepted t asked told
  insert_adds (event.Begin session) refused h = omega arith
  insert_adds (event.Get own table key) refused h = omega arith
  insert_adds (event.Insert own table row) true h = let none = zero_if (t == table) in omega (arith, none)
  insert_adds (event.Insert own table row) false h = go (insert_judged shape parts own table (key_of row)) refl
    where
      go : (r : Result ℕ WriteFault) → insert_judged shape parts own table (key_of row) ≡ r
          → cond (t == table) (Rattle.store_laws.specs.Room.writes_told (reply_to_write (insert_judged shape parts own table (key_of row)))) 0 ≤ accepted t asked told
      go (Err fault) e = subst (λ r. cond (t == table) (Rattle.store_laws.specs.Room.writes_told (reply_to_write r)) 0 ≤ accepted t asked told) (sym e)
          (let none = zero_if (t == table) in omega (arith, none))
      go (Ok p) e = subst (λ r. cond (t == table) (Rattle.store_laws.specs.Room.writes_told (reply_to_write r)) 0 ≤ accepted t asked told) (sym e)
          (let is : told ≡ Some said.Accepted = h.1 ∙ ap (λ r. line_to worker (told_by table 0 (reply_to_write r))) e ∙ not_silent worker said.Accepted refl in
          let counts : accepted t asked told ≡ cond {A = ℕ} (t == table) 1 0 =
          ap (accepted t asked) is ∙ ap (λ c. accepted t c (Some said.Accepted)) h.0 ∙ last (table == t) (t == table) (turn table t) in
          omega (arith, counts))
        where
          last : (x y : Bool) → x ≡ y → cond {A = ℕ} (x && true) 1 0 ≡ cond {A = ℕ} y 1 0
          last true y e = ap (λ b. cond {A = ℕ} b 1 0) e
          last false y e = ap (λ b. cond {A = ℕ} b 1 0) e
  insert_adds (event.Update own table row) refused h = omega arith
  insert_adds (event.Delete own table key) refused h = omega arith
  insert_adds (event.Read own table block) refused h = omega arith
  insert_adds (event.Range own table low high) refused h = omega arith
  insert_adds (event.Commit own reads) refused h = omega arith
  insert_adds (event.Abort own) refused h = omega arith
  insert_adds event.Oldest refused h = omega arith
  insert_adds (event.Observe table block) refused h = omega arith
  insert_adds (event.Prune table block oldest) refused h = omega arith
  insert_adds (event.Look table block) refused h = omega arith
  insert_adds (event.Move table moves) refused h = omega arith
  insert_adds (event.Seal u c) refused h = omega arith
  insert_adds (event.Image u c image) refused h = omega arith
  insert_adds (event.Thaw table block) refused h = omega arith

-- a quiet event counts nothing
pub quiet_none : (t b : ℕ) (e : CoreEvent) (r : CoreReply) → is_quiet e ≡ true → (sealed_by t b e r ≡ 0) × (imaged_by t b e r ≡ 0) × (inserted_by t e r ≡ 0)
quiet_none t b (event.Begin session) r q = absurd (true_false (sym q))
quiet_none t b (event.Get own table key) r q = (refl, refl, refl)
quiet_none t b (event.Insert own table row) r q = absurd (true_false (sym q))
quiet_none t b (event.Update own table row) r q = absurd (true_false (sym q))
quiet_none t b (event.Delete own table key) r q = absurd (true_false (sym q))
quiet_none t b (event.Read own table block) r q = (refl, refl, refl)
quiet_none t b (event.Range own table low high) r q = (refl, refl, refl)
quiet_none t b (event.Commit own reads) r q = absurd (true_false (sym q))
quiet_none t b (event.Abort own) r q = absurd (true_false (sym q))
quiet_none t b event.Oldest r q = (refl, refl, refl)
quiet_none t b (event.Observe table block) r q = (refl, refl, refl)
quiet_none t b (event.Prune table block oldest) r q = (refl, refl, refl)
quiet_none t b (event.Look table block) r q = (refl, refl, refl)
quiet_none t b (event.Move table moves) r q = absurd (true_false (sym q))
quiet_none t b (event.Seal u c) r q = absurd (true_false (sym q))
quiet_none t b (event.Image u c image) r q = absurd (true_false (sym q))
quiet_none t b (event.Thaw table block) r q = (refl, refl, refl)
