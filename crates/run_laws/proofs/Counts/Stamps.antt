-- What each event makes of a block's stamps.
use mathlib.Core.Logic.{inl, inr}
use Rattle.std.proofs.Common.{◌≡◌, ◌⊎◌, ℕ, ◌+◌, ◌≤◌, Bool, true, false, cond, ◌&&◌, ◌||◌, ◌==◌, List, [], ◌∷◌, fold, length, Option, None, Some, is_none, is_some, unwrap_or, refl, sym, ap, ◌∙◌, subst, arith}
use Rattle.std.specs.Prelude.{Result, Ok, Err}
use Rattle.std.specs.List.{filter_map, list_any}
use Rattle.std.proofs.lemmas.Bool.Decides.{nat_tests}
use Rattle.std.proofs.lemmas.Bool.{and_parts}
use Rattle.block_layout.specs.Place.{block_of, slot_of}
use Rattle.block_spec.specs.Bodies.{Body, committed_in, has_row, imaged, imaged_phase, is_front, is_imaged, is_loose, is_quiet, is_sealed, is_written_by, last_stamp, modified, observed, pruned_in, rolled_back_in, rows_of, seal_fault, sealed, thawed, with_slot}
use Rattle.block_spec.specs.declared.change.Change.{Change}
use Rattle.block_spec.specs.declared.change.Change.TheVariants as change
use Rattle.block_spec.specs.declared.phase.Phase.{Phase}
use Rattle.block_spec.specs.declared.phase.Phase.TheVariants.{Loose, Sealed, Imaged}
use Rattle.block_spec.specs.declared.phase.SealFault.{SealFault}
use Rattle.block_spec.specs.Slots.{Row, Slot, moved_in, moved_out, rolled_back, written}
use Rattle.core_laws.proofs.Events.Moved.{halves}
use Rattle.core_laws.proofs.Events.Naming.{body_named}
use Rattle.event_spec.specs.declared.event.Event.TheVariants as event
use Rattle.event_spec.specs.declared.event.MovePair.{MovePair}
use Rattle.event_spec.specs.declared.own.OwnKey.{OwnKey}
use Rattle.event_spec.specs.declared.reply.Reply.TheVariants as reply
use Rattle.event_spec.specs.declared.reply.WriteFault.{WriteFault}
use Rattle.event_spec.specs.declared.own.OwnTransaction.{OwnTransaction}
use Rattle.event_spec.specs.Effects.{CoreEvent, after_change, after_insert, after_judged, after_move, at_both, change_judged, changes_of, effect, held_pairs, insert_judged, is_some_write, moved_row, stale_in}
use Rattle.event_spec.specs.Judged.{differences}
use Rattle.event_spec.specs.Lawful.{IsLawful}
use Rattle.event_spec.specs.Parts.{Parts, Shape, BodyOf, nothing, body_at, body_from, desk_at, is_head, names, slot_at, slots_of}
use Rattle.event_spec.specs.Replay.{opening_part}
use Rattle.event_spec.specs.Replies.{reply_to, reply_to_image, reply_to_seal}
use Rattle.event_spec.specs.Sound.{Sound}
use Rattle.isolation_spec.specs.declared.read.Read.{Read}
use Rattle.isolation_spec.specs.Contents.{key_of}
use Rattle.core_laws.proofs.Logs.Opening.{part_there}
use Rattle.core_laws.proofs.Sound.Bodies.{true_false}
use Rattle.core_laws.proofs.Sound.Held.{none_by}
use Rattle.core_laws.proofs.Sound.Keeps.{shaped}
use Rattle.core_laws.proofs.Sound.Kept.{body_after}
use Rattle.run_laws.specs.Counts.Stamps.{CountsStamps, ImagesAreTold, OpensLoose, SealsAreTold, StampsAreCounted, imaged_by, images_told, sealed_by, sealed_now, seals_told}

-- Numbers that are tested to be equal are.
num : (a b : ℕ) → (a == b) ≡ true → a ≡ b
num a b e = grind (arith, nat_tests, e)

-- A choice between zero and zero is zero.
zero_if : (e : Bool) → cond {A = ℕ} e 0 0 ≡ 0
zero_if true = refl
zero_if false = refl

-- ---- bodies that keep both

record Keeps (x y : Body) : Type 0 where
  last : y.last ≡ x.last
  phase : sealed_now y ≡ sealed_now x
  loose : is_loose y.phase ≡ false → is_loose x.phase ≡ false

-- A body without a change keeps its stamp and its phase.
keeps : (x : Body) → Keeps x x
keeps x = record { last = refl; phase = refl; loose = λ e. e }

-- A change of one block keeps stamp and phase where it keeps those of that block.
at_one : (t b : ℕ) (g : Body → Body) (u c : ℕ) (y : Body) → ((u ≡ t) → (c ≡ b) → Keeps y (g y)) → Keeps y (at_both t b g u c y)
at_one t b g u c y stays = go (u == t) (c == b) refl refl
  where
    go : (m n : Bool) → (u == t) ≡ m → (c == b) ≡ n → Keeps y (cond ((u == t) && (c == b)) (g y) y)
    go true true m n = subst (λ e. Keeps y (cond (e && (c == b)) (g y) y)) (sym m) (subst (λ e. Keeps y (cond e (g y) y)) (sym n) (stays (num u t m) (num c b n)))
    go true false m n = subst (λ e. Keeps y (cond (e && (c == b)) (g y) y)) (sym m) (subst (λ e. Keeps y (cond e (g y) y)) (sym n) (keeps y))
    go false n' m n = subst (λ e. Keeps y (cond (e && (c == b)) (g y) y)) (sym m) (keeps y)

-- A change of one slot keeps its body's stamp and phase.
slotted : (j : ℕ) (g : Slot → Slot) (y : Body) → Keeps y (with_slot j g y)
slotted j g y = record { last = refl; phase = refl; loose = λ e. e }

module _ (sh : Shape) (s : Parts) (t b : ℕ) where
  -- An insert keeps a body's stamp and phase.
  insert_keeps : (own : OwnKey) (u : ℕ) (row : Row) (r : Result ℕ WriteFault) (y : Body) → Keeps y ((after_insert sh s own u row r).body t b y)
  insert_keeps own u row (Err fault) y = keeps y
  insert_keeps own u row (Ok p) y = at_one u (block_of p) (with_slot (slot_of p) (written own.session (change.Put row))) t b y
      (λ e f. slotted (slot_of p) (written own.session (change.Put row)) y)

  -- An update or a delete keeps a body's stamp and phase.
  change_keeps : (own : OwnKey) (u : ℕ) (choice : Row → Change) (r : Result ℕ WriteFault) (y : Body) → Keeps y ((after_change sh s own u choice r).body t b y)
  change_keeps own u choice (Err fault) y = keeps y
  change_keeps own u choice (Ok p) y = at_one u (block_of p) (with_slot (slot_of p) (written own.session (choice (unwrap_or (slot_at sh s u p).row [])))) t b y
      (λ e f. slotted (slot_of p) (written own.session (choice (unwrap_or (slot_at sh s u p).row []))) y)

  -- A commit keeps a body's stamp and phase, with writes or without.
  commit_keeps : (wrote : Bool) (q at number : ℕ) (y : Body) → Keeps y ((cond wrote (committed_in q at number) (λ (body : Body). body)) y)
  commit_keeps true q at number y = record { last = refl; phase = refl; loose = λ e. e }
  commit_keeps false q at number y = keeps y

  -- An abort keeps a body's stamp and phase.
  abort_keeps : (q : ℕ) (y : Body) → Keeps y (rolled_back_in q y)
  abort_keeps q y = go (is_written_by q y)
    where
      go : (e : Bool) → Keeps y (cond e (record (modified y) { slots = Rattle.std.proofs.Common.map (rolled_back q) y.slots }) y)
      go true = record { last = refl; phase = refl; loose = λ e. e }
      go false = keeps y

  -- The halves of one pair keep a body's stamp and phase.
  half_keeps : (at : ℕ) (row : MovePair → Row) (pair : MovePair) (y : Body) → Keeps y (halves at row b y pair)
  half_keeps at row pair y = go (block_of pair.target == b) (block_of pair.source == b)
    where
      go : (m n : Bool) → Keeps y (cond m (with_slot (slot_of pair.target) (moved_in at (row pair)) (cond n (with_slot (slot_of pair.source) (moved_out at (row pair)) y) y)) (cond n (with_slot (slot_of pair.source) (moved_out at (row pair)) y) y))
      go true true = record { last = refl; phase = refl; loose = λ e. e }
      go true false = record { last = refl; phase = refl; loose = λ e. e }
      go false true = record { last = refl; phase = refl; loose = λ e. e }
      go false false = keeps y

  -- The halves of several pairs keep a body's stamp and phase.
  halves_keep : (at : ℕ) (row : MovePair → Row) (pairs : List MovePair) (y : Body) → Keeps y (fold (halves at row b) y pairs)
  halves_keep at row [] y = keeps y
  halves_keep at row (first ∷ rest) y =
      let one = half_keeps at row first y in
      let more = halves_keep at row rest (halves at row b y first) in
      record { last = more.last ∙ one.last; phase = more.phase ∙ one.phase; loose = λ e. one.loose (more.loose e) }

  -- A move keeps a body's stamp and phase.
  move_keeps : (u : ℕ) (pairs : List MovePair) (y : Body) → Keeps y ((after_move sh s u pairs).body t b y)
  move_keeps u [] y = keeps y
  move_keeps u (first ∷ rest) y = go (t == u)
    where
      go : (e : Bool) → Keeps y (cond e (fold (halves ((desk_at sh s).newest + 1) (moved_row sh s u) b) y (first ∷ rest)) y)
      go true = halves_keep ((desk_at sh s).newest + 1) (moved_row sh s u) (first ∷ rest) y
      go false = keeps y

  -- ---- a seal and an image

  record Counts (x y : Body) (seals images : ℕ) : Type 0 where
    last : y.last ≡ x.last + seals
    phase : sealed_now y + images ≡ sealed_now x + seals
    frozen : is_loose y.phase ≡ false → (is_loose x.phase ≡ false) ⊎ (1 ≤ y.last)

  -- A body that keeps its stamp and phase has no seal and no image counted.
  quietly : (x y : Body) → Keeps x y → Counts x y 0 0
  quietly x y k = record { last = k.last ∙ omega arith; phase = ap (λ n. n + 0) k.phase; frozen = λ e. inl (k.loose e) }

  -- A body that has nothing against its seal is loose.
  loose_of : (head : Bool) (body : Body) → seal_fault head body ≡ None → is_loose body.phase ≡ true
  loose_of head body fine = (none_by (is_loose body.phase) head (has_row body) (is_front body.slots) (is_quiet body) body.cooling (body.last == last_stamp) fine).phase

  -- A phase that is loose is not sealed.
  not_sealed : (phase : Phase) → is_loose phase ≡ true → is_sealed phase ≡ false
  not_sealed Loose e = refl
  not_sealed (Sealed g) e = absurd (true_false (sym e))
  not_sealed (Imaged g) e = absurd (true_false (sym e))

  -- A seal that is granted moves its block's stamp on by one, and begins that it is sealed.
  seal_counts : (u c : ℕ) (x : Body) → x ≡ body_at sh s t b
      → Counts x ((changes_of sh s (event.Seal u c)).body t b x) (sealed_by t b (event.Seal u c) (reply_to sh s (event.Seal u c))) 0
  seal_counts u c x is = go (seal_fault (is_head sh s u c) (body_at sh s u c)) refl
    where
      here : (m n : Bool) → (t == u) ≡ m → (b == c) ≡ n → seal_fault (is_head sh s u c) (body_at sh s u c) ≡ None
          → Counts x (cond ((t == u) && (b == c)) (sealed x) x) (cond ((t == u) && (b == c)) 1 0) 0
      here true true m n fine =
          let loose : is_sealed x.phase ≡ false = not_sealed x.phase (ap (λ (y : Body). is_loose y.phase) is ∙ ap (λ u. is_loose (body_at sh s u b).phase) (num t u m) ∙ ap (λ c. is_loose (body_at sh s u c).phase) (num b c n) ∙ loose_of (is_head sh s u c) (body_at sh s u c) fine) in
          let zero_now : sealed_now x ≡ 0 = ap (λ b. cond b 1 0) loose in
          subst (λ e. Counts x (cond (e && (b == c)) (sealed x) x) (cond (e && (b == c)) 1 0) 0) (sym m)
          (subst (λ e. Counts x (cond e (sealed x) x) (cond e 1 0) 0) (sym n) (record { last = refl; phase = omega (arith, zero_now); frozen = λ e. inr (omega arith) }))
      here true false m n fine = subst (λ e. Counts x (cond (e && (b == c)) (sealed x) x) (cond (e && (b == c)) 1 0) 0) (sym m)
          (subst (λ e. Counts x (cond e (sealed x) x) (cond e 1 0) 0) (sym n) (quietly x x (keeps x)))
      here false n' m n fine = subst (λ e. Counts x (cond (e && (b == c)) (sealed x) x) (cond (e && (b == c)) 1 0) 0) (sym m) (quietly x x (keeps x))

      go : (o : Option SealFault) → seal_fault (is_head sh s u c) (body_at sh s u c) ≡ o
          → Counts x ((cond (is_none (seal_fault (is_head sh s u c) (body_at sh s u c))) (record nothing { body = at_both u c sealed }) nothing).body t b x)
          (cond ((t == u) && (b == c)) (seals_told (reply_to_seal (seal_fault (is_head sh s u c) (body_at sh s u c)) (body_at sh s u c).last)) 0) 0
      go None e = subst (λ o. Counts x ((cond (is_none o) (record nothing { body = at_both u c sealed }) nothing).body t b x)
          (cond ((t == u) && (b == c)) (seals_told (reply_to_seal o (body_at sh s u c).last)) 0) 0) (sym e)
          (here (t == u) (b == c) refl refl e)
      go (Some fault) e = subst (λ o. Counts x ((cond (is_none o) (record nothing { body = at_both u c sealed }) nothing).body t b x)
          (cond ((t == u) && (b == c)) (seals_told (reply_to_seal o (body_at sh s u c).last)) 0) 0) (sym e)
          (subst (λ n. Counts x x n 0) (sym (zero_if ((t == u) && (b == c)))) (quietly x x (keeps x)))

  -- An image that is granted ends that its body is sealed, and one that is not changes nothing.
  image_one : (phase : Phase) (x body : Body) → sealed_now (record x { phase = imaged_phase phase }) + images_told (reply_to_image phase body) ≡ sealed_now (record x { phase = phase }) + 0
  image_one Loose x body = refl
  image_one (Sealed g) x body = refl
  image_one (Imaged g) x body = refl

  -- A phase that is not loose behind an image was not in front of it.
  image_loose : (phase : Phase) → is_loose (imaged_phase phase) ≡ false → is_loose phase ≡ false
  image_loose Loose e = e
  image_loose (Sealed g) e = refl
  image_loose (Imaged g) e = refl

  -- An image leaves the stamps, and one that is granted ends that its block is sealed.
  image_counts : (u c : ℕ) (image : Option (List Row)) (x : Body) → x ≡ body_at sh s t b
      → Counts x ((changes_of sh s (event.Image u c image)).body t b x) 0 (imaged_by t b (event.Image u c image) (reply_to sh s (event.Image u c image)))
  image_counts u c image x is = go (t == u) (b == c) refl refl
    where
      told : Bool → ℕ
      told e = cond e (images_told (reply_to_image (body_at sh s u c).phase (body_at sh s u c))) 0

      go : (m n : Bool) → (t == u) ≡ m → (b == c) ≡ n
          → Counts x (cond ((t == u) && (b == c)) (imaged x) x) 0 (cond ((t == u) && (b == c)) (images_told (reply_to_image (body_at sh s u c).phase (body_at sh s u c))) 0)
      go true true m n =
          let same : x ≡ body_at sh s u c = is ∙ ap (λ u. body_at sh s u b) (num t u m) ∙ ap (body_at sh s u) (num b c n) in
          subst (λ e. Counts x (cond (e && (b == c)) (imaged x) x) 0 (cond (e && (b == c)) (images_told (reply_to_image (body_at sh s u c).phase (body_at sh s u c))) 0)) (sym m)
          (subst (λ e. Counts x (cond e (imaged x) x) 0 (cond e (images_told (reply_to_image (body_at sh s u c).phase (body_at sh s u c))) 0)) (sym n)
          (subst (λ y. Counts x (imaged x) 0 (images_told (reply_to_image y.phase y))) same
          (record { last = omega arith; phase = image_one x.phase x x; frozen = λ e. inl (image_loose x.phase e) })))
      go true false m n = subst (λ e. Counts x (cond (e && (b == c)) (imaged x) x) 0 (cond (e && (b == c)) (images_told (reply_to_image (body_at sh s u c).phase (body_at sh s u c))) 0)) (sym m)
          (subst (λ e. Counts x (cond e (imaged x) x) 0 (cond e (images_told (reply_to_image (body_at sh s u c).phase (body_at sh s u c))) 0)) (sym n) (quietly x x (keeps x)))
      go false n' m n = subst (λ e. Counts x (cond (e && (b == c)) (imaged x) x) 0 (cond (e && (b == c)) (images_told (reply_to_image (body_at sh s u c).phase (body_at sh s u c))) 0)) (sym m) (quietly x x (keeps x))

  -- A phase that is imaged is not sealed.
  thaw_one : (phase : Phase) → is_imaged phase ≡ true → is_sealed phase ≡ false
  thaw_one Loose e = refl
  thaw_one (Sealed g) e = absurd (true_false (sym e))
  thaw_one (Imaged g) e = refl

  -- A commit, refused or not, leaves a block's stamp and phase.
  judged_keeps : (own : OwnTransaction) (stale : Option (Read × ℕ)) (x : Body) → Keeps x ((after_judged sh s own stale).body t b x)
  judged_keeps own (Some stale) x = keeps x
  judged_keeps own None x = commit_keeps (is_some_write own.writes) own.session ((desk_at sh s).newest + 1) ((desk_at sh s).commits + 1) x

  -- Each lawful event moves a block's stamp and phase on by its seals and its images.
  event_counts : (e : CoreEvent) → IsLawful sh e s → (x : Body) → x ≡ body_at sh s t b
      → Counts x ((changes_of sh s e).body t b x) (sealed_by t b e (reply_to sh s e)) (imaged_by t b e (reply_to sh s e))
  event_counts (event.Begin q) lawful x is = quietly x x (keeps x)
  event_counts (event.Get own u key) lawful x is = quietly x x (keeps x)
  event_counts (event.Insert own u row) lawful x is = quietly x _ (insert_keeps own u row (insert_judged sh s own u (key_of row)) x)
  event_counts (event.Update own u row) lawful x is = quietly x _ (change_keeps own u (λ old. change.Patch (differences 0 old row)) (change_judged sh s own u (key_of row)) x)
  event_counts (event.Delete own u key) lawful x is = quietly x _ (change_keeps own u (λ old. change.Gone) (change_judged sh s own u key) x)
  event_counts (event.Read own u c) lawful x is = quietly x x (keeps x)
  event_counts (event.Range own u low high) lawful x is = quietly x x (keeps x)
  event_counts (event.Commit own reads) lawful x is = quietly x _ (judged_keeps own (stale_in sh s own reads) x)
  event_counts (event.Abort own) lawful x is = quietly x _ (abort_keeps own.session x)
  event_counts event.Oldest lawful x is = quietly x x (keeps x)
  event_counts (event.Observe u c) lawful x is = quietly x _ (at_one u c (observed (is_head sh s u c)) t b x (λ e f. record { last = refl; phase = refl; loose = λ e. e }))
  event_counts (event.Prune u c oldest) lawful x is = quietly x _ (at_one u c (pruned_in oldest) t b x (λ e f. record { last = refl; phase = refl; loose = λ e. e }))
  event_counts (event.Look u c) lawful x is = quietly x x (keeps x)
  event_counts (event.Move u moves) lawful x is = quietly x _ (move_keeps u (held_pairs sh s u moves) x)
  event_counts (event.Seal u c) lawful x is = seal_counts u c x is
  event_counts (event.Image u c image) lawful x is = image_counts u c image x is
  event_counts (event.Thaw u c) lawful x is = quietly x _ (at_one u c thawed t b x
      (λ e f. record {
        last = refl;
        phase = ap (λ b. cond b 1 0) (sym (thaw_one x.phase (ap (λ (y : Body). is_imaged y.phase) is ∙ ap (λ u. is_imaged (body_at sh s u b).phase) e ∙ ap (λ c. is_imaged (body_at sh s u c).phase) f ∙ lawful.1.1)));
        loose = λ g. absurd (true_false g);
      }))

-- An event that was refused memory sealed no block.
none_sealed : (t b : ℕ) (e : CoreEvent) → sealed_by t b e reply.Memory ≡ 0
none_sealed t b (event.Begin q) = refl
none_sealed t b (event.Get own u key) = refl
none_sealed t b (event.Insert own u row) = refl
none_sealed t b (event.Update own u row) = refl
none_sealed t b (event.Delete own u key) = refl
none_sealed t b (event.Read own u c) = refl
none_sealed t b (event.Range own u low high) = refl
none_sealed t b (event.Commit own reads) = refl
none_sealed t b (event.Abort own) = refl
none_sealed t b event.Oldest = refl
none_sealed t b (event.Observe u c) = refl
none_sealed t b (event.Prune u c oldest) = refl
none_sealed t b (event.Look u c) = refl
none_sealed t b (event.Move u moves) = refl
none_sealed t b (event.Seal u c) = zero_if ((t == u) && (b == c))
none_sealed t b (event.Image u c image) = refl
none_sealed t b (event.Thaw u c) = refl

-- An event that was refused memory imaged no block.
none_imaged : (t b : ℕ) (e : CoreEvent) → imaged_by t b e reply.Memory ≡ 0
none_imaged t b (event.Begin q) = refl
none_imaged t b (event.Get own u key) = refl
none_imaged t b (event.Insert own u row) = refl
none_imaged t b (event.Update own u row) = refl
none_imaged t b (event.Delete own u key) = refl
none_imaged t b (event.Read own u c) = refl
none_imaged t b (event.Range own u low high) = refl
none_imaged t b (event.Commit own reads) = refl
none_imaged t b (event.Abort own) = refl
none_imaged t b event.Oldest = refl
none_imaged t b (event.Observe u c) = refl
none_imaged t b (event.Prune u c oldest) = refl
none_imaged t b (event.Look u c) = refl
none_imaged t b (event.Move u moves) = refl
none_imaged t b (event.Seal u c) = refl
none_imaged t b (event.Image u c image) = zero_if ((t == u) && (b == c))
none_imaged t b (event.Thaw u c) = refl

-- That a block was not loose, or has a stamp, holds of an equal body too.
later : (x y z : Body) → y ≡ z → (is_loose x.phase ≡ false) ⊎ (1 ≤ z.last) → (is_loose x.phase ≡ false) ⊎ (1 ≤ y.last)
later x y z now (inl e) = inl e
later x y z now (inr low) = let same = ap (λ (y : Body). y.last) now in inr (omega (arith, low, same))

-- an event moves a block's last stamp on by its seals
pub stamps_are_counted : StampsAreCounted
stamps_are_counted sh s made t b shape ok lawful has = go made.refused
  where
    go : (refused : Bool) → CountsStamps sh s (record { event = made.event; refused = refused }) t b
    go true =
        let a = none_sealed t b made.event in let c = none_imaged t b made.event in
        record { last = omega (arith, a); phase = omega (arith, a, c); frozen = λ e. inl e }
    go false =
        let now = body_after sh s (shaped sh s ok) (changes_of sh s made.event) t b has in
        let counts = event_counts sh s t b made.event lawful (body_at sh s t b) refl in
        record {
          last = ap (λ (y : Body). y.last) now ∙ counts.last;
          phase = ap (λ (y : Body). sealed_now y + imaged_by t b made.event (reply_to sh s made.event)) now ∙ counts.phase;
          frozen = λ e. later (body_at sh s t b) (body_at sh (effect sh s made.event) t b) ((changes_of sh s made.event).body t b (body_at sh s t b)) now (counts.frozen (ap (λ (y : Body). is_loose y.phase) (sym now) ∙ e));
        }

-- in the opening core no block has a stamp
pub opens_loose : OpensLoose
opens_loose sh t b shape has =
    let is = ap body_from (part_there (opening_part sh) (names sh) (BodyOf t b) (body_named sh t b has)) in
    (ap (λ (y : Body). y.last) is, ap sealed_now is, ap (λ (y : Body). is_loose y.phase) is)

-- a seal that is granted has the next stamp, and its block was not sealed
pub seals_are_told : SealsAreTold
seals_are_told sh s t b stamp is = go (seal_fault (is_head sh s t b) (body_at sh s t b)) refl is
  where
    stamp_is : (x y : ℕ) → Rattle.event_spec.specs.Replies.reply_to_seal None x ≡ reply.Sealed y → y ≡ x + 1
    stamp_is x y e = cc

    go : (o : Option SealFault) → seal_fault (is_head sh s t b) (body_at sh s t b) ≡ o → reply_to_seal (seal_fault (is_head sh s t b) (body_at sh s t b)) (body_at sh s t b).last ≡ reply.Sealed stamp
        → (stamp ≡ (body_at sh s t b).last + 1) × (sealed_now (body_at sh s t b) ≡ 0)
    go None e told = (
      stamp_is (body_at sh s t b).last stamp (ap (λ o. reply_to_seal o (body_at sh s t b).last) (sym e) ∙ told),
      ap (λ x. cond x 1 0) (not_sealed sh s t b (body_at sh s t b).phase (loose_of sh s t b (is_head sh s t b) (body_at sh s t b) e)),
    )
    go (Some fault) e told = let never : reply_to_seal (Some fault) (body_at sh s t b).last ≡ reply.Sealed stamp = ap (λ o. reply_to_seal o (body_at sh s t b).last) (sym e) ∙ told in absurd (let no : ⊥ = cc in no)

-- the rows of a body are no more than its slots, and some where it has one
pub rows_few : (slots : List Slot) → length (filter_map (λ (slot : Slot). slot.row) slots) ≤ length slots
rows_few [] = omega arith
rows_few (x ∷ slots) = go x.row (rows_few slots)
  where
    go : (o : Option Row) → length (filter_map (λ (slot : Slot). slot.row) slots) ≤ length slots → length (Rattle.std.specs.List.cons_option o (filter_map (λ (slot : Slot). slot.row) slots)) ≤ length (x ∷ slots)
    go None h = omega (arith, h)
    go (Some row) h = omega (arith, h)

-- where one of the slots has a row, they have one row at least
pub rows_some : (slots : List Slot) → list_any (λ (slot : Slot). is_some slot.row) slots ≡ true → 1 ≤ length (filter_map (λ (slot : Slot). slot.row) slots)
rows_some [] e = absurd (true_false (sym e))
rows_some (x ∷ slots) e = go x.row e (rows_some slots)
  where
    go : (o : Option Row) → (is_some o || list_any (λ (slot : Slot). is_some slot.row) slots) ≡ true
        → (list_any (λ (slot : Slot). is_some slot.row) slots ≡ true → 1 ≤ length (filter_map (λ (slot : Slot). slot.row) slots))
        → 1 ≤ length (Rattle.std.specs.List.cons_option o (filter_map (λ (slot : Slot). slot.row) slots))
    go None e rest = rest e
    go (Some row) e rest = omega arith

-- an image is granted where the block is sealed, with 1 to as many rows as it has slots
pub images_are_told : ImagesAreTold
images_are_told sh s t b image ok has = record { granted = granted; none = none }
  where
    holds : Rattle.event_spec.specs.Sound.BodyHolds sh t (body_at sh s t b)
    holds = ok.bodies t b has

    granted : (rows : ℕ) → reply_to_image (body_at sh s t b).phase (body_at sh s t b) ≡ reply.Imaged rows
        → (sealed_now (body_at sh s t b) ≡ 1) × (1 ≤ rows) × (rows ≤ slots_of sh t)
    granted rows told = go (body_at sh s t b).phase refl told
      where
        go : (phase : Phase) → (body_at sh s t b).phase ≡ phase → reply_to_image (body_at sh s t b).phase (body_at sh s t b) ≡ reply.Imaged rows
            → (sealed_now (body_at sh s t b) ≡ 1) × (1 ≤ rows) × (rows ≤ slots_of sh t)
        go Loose is told = let never : reply_to_image Loose (body_at sh s t b) ≡ reply.Imaged rows = ap (λ p. reply_to_image p (body_at sh s t b)) (sym is) ∙ told in absurd (let no : ⊥ = cc in no)
        go (Imaged g) is told = let never : reply_to_image (Imaged g) (body_at sh s t b) ≡ reply.Imaged rows = ap (λ p. reply_to_image p (body_at sh s t b)) (sym is) ∙ told in absurd (let no : ⊥ = cc in no)
        go (Sealed g) is told =
            let count : length (rows_of (body_at sh s t b)) ≡ rows = (let e : reply_to_image (Sealed g) (body_at sh s t b) ≡ reply.Imaged rows = ap (λ p. reply_to_image p (body_at sh s t b)) (sym is) ∙ told in cc) in
            let dense = holds.dense (ap is_loose is) in
            let some = rows_some (body_at sh s t b).slots (and_parts (has_row (body_at sh s t b)) (is_front (body_at sh s t b).slots) dense).0 in
            let few = rows_few (body_at sh s t b).slots in
            let size = holds.slots in
            (ap (λ p. cond (is_sealed p) 1 0) is, omega (arith, some, count), omega (arith, few, count, size))

    none : reply_to_image (body_at sh s t b).phase (body_at sh s t b) ≡ reply.NoSeal → sealed_now (body_at sh s t b) ≡ 0
    none told = go (body_at sh s t b).phase refl told
      where
        go : (phase : Phase) → (body_at sh s t b).phase ≡ phase → reply_to_image (body_at sh s t b).phase (body_at sh s t b) ≡ reply.NoSeal → sealed_now (body_at sh s t b) ≡ 0
        go Loose is told = ap (λ p. cond (is_sealed p) 1 0) is
        go (Imaged g) is told = ap (λ p. cond (is_sealed p) 1 0) is
        go (Sealed g) is told = let never : reply_to_image (Sealed g) (body_at sh s t b) ≡ reply.NoSeal = ap (λ p. reply_to_image p (body_at sh s t b)) (sym is) ∙ told in absurd (let no : ⊥ = cc in no)
