-- The moments at which a block is frozen with one stamp.
use Rattle.std.proofs.Common.{◌≡◌, ◌≢◌, ◌⊎◌, ℕ, ◌≤◌, Bool, true, false, cond, ◌&&◌, ◌==◌, List, [], ◌∷◌, ◌++◌, fold, None, Some, refl, sym, ap, ◌∙◌, subst, arith}
use mathlib.Core.Logic.{inl, inr}
use Rattle.std.specs.List.{filter_map}
use Rattle.std.proofs.lemmas.Option.{none-some}
use Rattle.block_spec.specs.Bodies.{Body, imaged_phase, is_imaged, rows_of, thawed}
use Rattle.block_spec.specs.declared.phase.Phase.{Phase}
use Rattle.block_spec.specs.declared.phase.Phase.TheVariants.{Loose, Sealed, Imaged}
use Rattle.block_spec.specs.Slots.{Slot}
use Rattle.core_laws.proofs.Events.Naming.{follows_machine}
use Rattle.core_laws.proofs.Events.Owners.{all_open}
use Rattle.core_laws.proofs.Frozen.Frozen.{frozen_is_settled, frozen_stays}
use Rattle.core_laws.proofs.Frozen.Phases.{Goes, event_goes, stays}
use Rattle.core_laws.proofs.Frozen.Stamps.{num_refl, seals_are_new, stamps_rise}
use Rattle.core_laws.proofs.Logs.Logs.{made_keeps, reaches_from}
use Rattle.core_laws.proofs.Snapshots.BlockReads.{reads_hold_each_row}
use Rattle.core_laws.proofs.Sound.Keeps.{shaped}
use Rattle.core_laws.proofs.Sound.Kept.{body_after}
use Rattle.core_laws.specs.Frozen.Laws.{StaysAsItWas, stamp_of}
use Rattle.core_laws.specs.Frozen.Moments.{ImagedRowsStay, SealsRise, StampsStandTogether, sealing}
use Rattle.event_spec.specs.declared.event.Event.TheVariants as event
use Rattle.event_spec.specs.declared.own.OwnTransaction.{OwnTransaction}
use Rattle.event_spec.specs.Effects.{changes_of, effect}
use Rattle.event_spec.specs.Lawful.{HasBlock, IsLawful, OwnsAll}
use Rattle.event_spec.specs.Parts.{Parts, Shape, body_at}
use Rattle.event_spec.specs.Replay.{IsLawfulFrom, Made, after}
use Rattle.event_spec.specs.Replies.{rows_read}
use Rattle.event_spec.specs.Sound.{IsShape, Sound}

-- An image has the stamp of its seal.
imaged_stamp : (phase : Phase) → stamp_of (imaged_phase phase) ≡ stamp_of phase
imaged_stamp Loose = refl
imaged_stamp (Sealed g) = refl
imaged_stamp (Imaged g) = refl

-- The rows that a transaction reads of an imaged block are the block's.
pub shared_is : (sh : Shape) (s : Parts) → IsShape sh → Sound sh s → (own : OwnTransaction) (t b : ℕ)
    → OwnsAll sh own s → HasBlock sh t b → is_imaged (body_at sh s t b).phase ≡ true
    → rows_read sh s own t b ≡ rows_of (body_at sh s t b)
shared_is sh s shape ok own t b owns has imaged =
    let f = follows_machine sh s ok in
    let open' = all_open sh s ok own owns in
    let its = f.follows.desked.begun own.session own.snapshot open'.counted open'.is_open in
    (reads_hold_each_row sh s own t ok.follows.0 its.0 shape ok owns f its.1).shared b has imaged

-- The parts behind a front of a lawful log are sound.
front_sound : (sh : Shape) (middle back : List Made) (s : Parts) → IsShape sh → Sound sh s
    → IsLawfulFrom sh s (middle ++ back) → Sound sh (fold (after sh) s middle)
front_sound sh [] back s shape ok lawful = ok
front_sound sh (made ∷ middle) back s shape ok lawful =
    front_sound sh middle back (after sh s made) shape (made_keeps sh s made shape ok lawful.0) lawful.2

module _ (sh : Shape) (t b : ℕ) (shape : IsShape sh) (has : HasBlock sh t b) where
  -- the block's body
  abbrev body : Parts → Body
  body s = body_at sh s t b

  -- Where a block is frozen with a stamp, it is its last.
  newest : (s : Parts) (stamp : ℕ) → Sound sh s → stamp_of (body s).phase ≡ Some stamp → stamp ≡ (body s).last
  newest s stamp ok is = (frozen_is_settled sh s t b stamp ok has is).newest

  -- An event that was made, be it refused memory, gives no other stamp that is not above the last.
  made_goes : (s : Parts) (made : Made) → Sound sh s → Goes (body s) (body (after sh s made))
  made_goes s made ok = go made.refused
    where
      go : (r : Bool) → Goes (body s) (body (cond r s (effect sh s made.event)))
      go true = stays (body s) (body s) refl
      go false = subst (Goes (body s)) (sym (body_after sh s (shaped sh s ok) (changes_of sh s made.event) t b has)) (event_goes sh s t b made.event (body s))

  -- An event that was made lowers no last stamp.
  made_last : (s : Parts) (made : Made) → Sound sh s → IsLawful sh made.event s → (body s).last ≤ (body (after sh s made)).last
  made_last s made ok lawful = go made.refused
    where
      go : (r : Bool) → (body s).last ≤ (body (cond r s (effect sh s made.event))).last
      go true = omega arith
      go false = stamps_rise sh s made.event t b shape ok lawful has

  -- A log lowers no last stamp.
  log_last : (log : List Made) (s : Parts) → Sound sh s → IsLawfulFrom sh s log → (body s).last ≤ (body (fold (after sh) s log)).last
  log_last [] s ok lawful = omega arith
  log_last (made ∷ log) s ok lawful =
      let one = made_last s made ok lawful.0 in
      let more = log_last log (after sh s made) (made_keeps sh s made shape ok lawful.0) lawful.2 in
      omega (arith, one, more)

  -- A stamp that stands behind an event, and that the last was not below before it, is of the phase
  -- before it, or of that with an image.
  made_phase : (s : Parts) (made : Made) (stamp : ℕ) → Sound sh s → IsLawful sh made.event s → stamp ≤ (body s).last
      → stamp_of (body (after sh s made)).phase ≡ Some stamp
      → ((body (after sh s made)).phase ≡ imaged_phase (body s).phase) ⊎ ((body (after sh s made)).phase ≡ (body s).phase)
  made_phase s made stamp ok lawful low is = go (made_goes s made ok)
    where
      go : Goes (body s) (body (after sh s made))
          → ((body (after sh s made)).phase ≡ imaged_phase (body s).phase) ⊎ ((body (after sh s made)).phase ≡ (body s).phase)
      go (inl above) =
          let last = newest (after sh s made) stamp (made_keeps sh s made shape ok lawful) is in
          absurd (let never : ⊥ = omega (arith, above, low, last) in never)
      go (inr (inl none)) = absurd (none-some stamp (sym none ∙ is))
      go (inr (inr phase)) = phase

  -- So the stamp stood before it.
  before_made : (s : Parts) (made : Made) (stamp : ℕ) → Sound sh s → IsLawful sh made.event s → stamp ≤ (body s).last
      → stamp_of (body (after sh s made)).phase ≡ Some stamp → stamp_of (body s).phase ≡ Some stamp
  before_made s made stamp ok lawful low is = go (made_phase s made stamp ok lawful low is)
    where
      go : ((body (after sh s made)).phase ≡ imaged_phase (body s).phase) ⊎ ((body (after sh s made)).phase ≡ (body s).phase)
          → stamp_of (body s).phase ≡ Some stamp
      go (inl image) = sym (imaged_stamp (body s).phase) ∙ sym (ap stamp_of image) ∙ is
      go (inr same) = sym (ap stamp_of same) ∙ is

  -- So it is of whole logs.
  before_log : (log : List Made) (s : Parts) (stamp : ℕ) → Sound sh s → IsLawfulFrom sh s log → stamp ≤ (body s).last
      → stamp_of (body (fold (after sh) s log)).phase ≡ Some stamp → stamp_of (body s).phase ≡ Some stamp
  before_log [] s stamp ok lawful low is = is
  before_log (made ∷ log) s stamp ok lawful low is =
      let up = made_last s made ok lawful.0 in
      before_made s made stamp ok lawful.0 low (before_log log (after sh s made) stamp (made_keeps sh s made shape ok lawful.0) lawful.2 (omega (arith, low, up)) is)

  -- A block that is frozen with a stamp at the first and the last moment of a log is so behind its
  -- first event.
  next_stamp : (made : Made) (log : List Made) (s : Parts) (stamp : ℕ) → Sound sh s → IsLawfulFrom sh s (made ∷ log)
      → stamp_of (body s).phase ≡ Some stamp → stamp_of (body (fold (after sh) s (made ∷ log))).phase ≡ Some stamp
      → stamp_of (body (after sh s made)).phase ≡ Some stamp
  next_stamp made log s stamp ok lawful first last =
      let at = newest s stamp ok first in
      let up = made_last s made ok lawful.0 in
      before_log log (after sh s made) stamp (made_keeps sh s made shape ok lawful.0) lawful.2 (omega (arith, at, up)) last

  -- A thaw leaves no stamp.
  thaw_loses : (s : Parts) → Sound sh s → stamp_of (body (effect sh s (event.Thaw t b))).phase ≡ None
  thaw_loses s ok =
      ap (λ (y : Body). stamp_of y.phase) (body_after sh s (shaped sh s ok) (changes_of sh s (event.Thaw t b)) t b has)
      ∙ ap (λ x. stamp_of (cond (x && (b == b)) (thawed (body s)) (body s)).phase) (num_refl t)
      ∙ ap (λ x. stamp_of (cond x (thawed (body s)) (body s)).phase) (num_refl b)

  -- An event before and behind which a block is frozen with one stamp leaves its slots.
  made_slots : (s : Parts) (made : Made) (stamp : ℕ) → Sound sh s → IsLawful sh made.event s
      → stamp_of (body s).phase ≡ Some stamp → stamp_of (body (after sh s made)).phase ≡ Some stamp
      → (body (after sh s made)).slots ≡ (body s).slots
  made_slots s made stamp ok lawful first = go made.refused
    where
      no_thaw : stamp_of (body (effect sh s made.event)).phase ≡ Some stamp → made.event ≢ event.Thaw t b
      no_thaw is thaw = none-some stamp (sym (thaw_loses s ok) ∙ subst (λ e. stamp_of (body (effect sh s e)).phase ≡ Some stamp) thaw is)

      go : (r : Bool) → stamp_of (body (cond r s (effect sh s made.event))).phase ≡ Some stamp → (body (cond r s (effect sh s made.event))).slots ≡ (body s).slots
      go true is = refl
      go false is = (frozen_stays sh s made.event t b stamp shape ok lawful has (no_thaw is) first).slots

  -- Such an event leaves an image.
  made_image : (s : Parts) (made : Made) (stamp : ℕ) → Sound sh s → IsLawful sh made.event s
      → (body s).phase ≡ Imaged stamp → stamp_of (body (after sh s made)).phase ≡ Some stamp
      → (body (after sh s made)).phase ≡ Imaged stamp
  made_image s made stamp ok lawful first is = go (made_phase s made stamp ok lawful low is)
    where
      low : stamp ≤ (body s).last
      low = let at = newest s stamp ok (ap stamp_of first) in omega (arith, at)

      go : ((body (after sh s made)).phase ≡ imaged_phase (body s).phase) ⊎ ((body (after sh s made)).phase ≡ (body s).phase)
          → (body (after sh s made)).phase ≡ Imaged stamp
      go (inl image) = image ∙ ap imaged_phase first
      go (inr same) = same ∙ first

  -- The moments between two of them are such, and the slots stay.
  between : (middle back : List Made) (s : Parts) (stamp : ℕ) → Sound sh s → IsLawfulFrom sh s (middle ++ back)
      → stamp_of (body s).phase ≡ Some stamp → stamp_of (body (fold (after sh) s (middle ++ back))).phase ≡ Some stamp
      → StaysAsItWas sh s (fold (after sh) s middle) t b
  between [] back s stamp ok lawful first last = record { slots = refl; stamp = refl }
  between (made ∷ middle) back s stamp ok lawful first last =
      let next = next_stamp made (middle ++ back) s stamp ok lawful first last in
      let rest = between middle back (after sh s made) stamp (made_keeps sh s made shape ok lawful.0) lawful.2 next last in
      record {
        slots = rest.slots ∙ made_slots s made stamp ok lawful.0 first next;
        stamp = rest.stamp ∙ next ∙ sym first;
      }

  -- The image stays as well.
  imaged_between : (middle back : List Made) (s : Parts) (stamp : ℕ) → Sound sh s → IsLawfulFrom sh s (middle ++ back)
      → (body s).phase ≡ Imaged stamp → stamp_of (body (fold (after sh) s (middle ++ back))).phase ≡ Some stamp
      → (body (fold (after sh) s middle)).phase ≡ Imaged stamp
  imaged_between [] back s stamp ok lawful first last = first
  imaged_between (made ∷ middle) back s stamp ok lawful first last =
      let next = next_stamp made (middle ++ back) s stamp ok lawful (ap stamp_of first) last in
      imaged_between middle back (after sh s made) stamp (made_keeps sh s made shape ok lawful.0) lawful.2 (made_image s made stamp ok lawful.0 first next) last

-- The moments at which a block is frozen with one stamp follow one another.
pub stamps_stand_together : StampsStandTogether
stamps_stand_together sh s middle back t b stamp shape ok lawful has first last =
    between sh t b shape has middle back s stamp ok lawful first last

-- Of two seals that are granted the later has the greater stamp.
pub seals_rise : SealsRise
seals_rise sh s middle t b stamp later shape ok lawful has one two =
    let sealed : Parts = effect sh s (event.Seal t b) in
    let ok' = made_keeps sh s (sealing t b) shape ok lawful.0 in
    let here = seals_are_new sh s t b stamp shape ok has one in
    let up = log_last sh t b shape has middle sealed ok' lawful.2 in
    let there = seals_are_new sh (fold (after sh) sealed middle) t b later shape (reaches_from sh middle sealed shape ok' lawful.2) has two in
    let a = here.1 in
    let d = there.0 in
    omega (arith, a, up, d)

-- Between two moments at which a block is imaged with one stamp its image stays.
pub imaged_rows_stay : ImagedRowsStay
imaged_rows_stay sh s middle back t b stamp shape ok lawful has first last =
    let now : Parts = fold (after sh) s middle in
    let ok' : Sound sh now = front_sound sh middle back s shape ok lawful in
    let image : (body_at sh now t b).phase ≡ Imaged stamp = imaged_between sh t b shape has middle back s stamp ok lawful first (ap stamp_of last) in
    let rows : rows_of (body_at sh now t b) ≡ rows_of (body_at sh s t b) =
    ap (filter_map (λ (slot : Slot). slot.row)) (between sh t b shape has middle back s stamp ok lawful (ap stamp_of first) (ap stamp_of last)).slots in
    record {
      imaged = image;
      columns = (ok'.bodies t b has).columns ∙ sym (ok.bodies t b has).columns;
      rows = rows;
      seen = λ own owns. shared_is sh now shape ok' own t b owns has (ap is_imaged image) ∙ rows;
    }
