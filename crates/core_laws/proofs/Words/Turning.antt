-- What each event makes of the word of a body.
use Rattle.std.proofs.Common.{◌≡◌, ◌⊎◌, ℕ, ◌==◌, ◌+◌, ◌^◌, ◌<◌, ℤ, Bool, true, false, cond, List, [], ◌∷◌, map, fold, Option, None, Some, is_none, unwrap_or, refl, sym, ap, ◌∙◌, subst}
use mathlib.Core.Logic.{inl, inr}
use Rattle.std.specs.Prelude.{Result, Ok, Err, slice_get}
use Rattle.std.proofs.lemmas.Bool.{cases_Bool}
use Rattle.block_layout.specs.Place.{block_of, slot_of}
use Rattle.block_spec.specs.Bodies.{Body, committed_in, imaged, is_imaged, is_loose, is_written_by, last_stamp, modified, observed, pruned_in, rolled_back_in, seal_fault, sealed, thawed, with_slot}
use Rattle.block_spec.specs.declared.change.Change.{Change}
use Rattle.block_spec.specs.declared.change.Change.TheVariants as change
use Rattle.block_spec.specs.declared.phase.SealFault.{SealFault}
use Rattle.block_spec.specs.Slots.{Row, Slot, moved_in, moved_out, rolled_back, written}
use Rattle.core_laws.proofs.Events.Apart.{kept_among}
use Rattle.core_laws.proofs.Events.Moved.{halves, left_half}
use Rattle.core_laws.proofs.Frames.Looks.{true_false}
use Rattle.core_laws.proofs.Frozen.Loose.{insert_loose, pair_loose, sealable}
use Rattle.core_laws.proofs.Sound.Fewer.{unwritten}
use Rattle.core_laws.proofs.Sound.Written.{change_goes}
use Rattle.core_laws.proofs.Words.Bodies.{Warms, at_one, head_by, turned_imaged, turned_observed, turned_sealed, turned_thawed, turned_warm, warms_same, warms_slot, warms_twice, warms_where}
use Rattle.core_laws.proofs.Words.Numbers.{name_at, number_at}
use Rattle.core_laws.specs.Words.Words.{thawed_part, turns_words}
use Rattle.event_spec.specs.declared.event.Event.TheVariants as event
use Rattle.event_spec.specs.declared.event.MovePair.{MovePair}
use Rattle.event_spec.specs.declared.own.OwnKey.{OwnKey}
use Rattle.event_spec.specs.declared.reply.WriteFault.{WriteFault}
use Rattle.event_spec.specs.Effects.{CoreEvent, after_change, after_commit, after_insert, after_judged, after_move, at_both, change_judged, changes_of, held_pairs, holds, insert_judged, is_some_write, moved_row, stale_in}
use Rattle.event_spec.specs.Judged.{differences}
use Rattle.event_spec.specs.Lawful.{Among, HasBlock, IsLawful, IsThawed}
use Rattle.event_spec.specs.Parts.{BodyOf, Name, Parts, Shape, nothing, body_at, desk_at, is_head, names, slot_at}
use Rattle.event_spec.specs.Sound.{IsShape, Sound}
use Rattle.isolation_spec.specs.declared.read.Read.{Read}
use Rattle.hall_rule.specs.Heads.{Turns, TurnsOn}
use Rattle.isolation_spec.specs.Contents.{key_of}

-- No event's part is that of none.
not_none : (k : ℕ) → None ≡ Some k → ⊥
not_none k e = cc

-- ---- the halves of a move

module _ (at : ℕ) (row : MovePair → Row) (b : ℕ) where
  -- What must be loose where a pair has a place in the block.
  abbrev IsOpen : MovePair → Body → Type 0
  IsOpen pair x = (block_of pair.source ≡ b → is_loose x.phase ≡ true) × (block_of pair.target ≡ b → is_loose x.phase ≡ true)

  -- One pair's halves in a block leave its freeze.
  half_warms : (pair : MovePair) (x : Body) → IsOpen pair x → Warms x (halves at row b x pair)
  half_warms pair x open' =
      let left = warms_where (block_of pair.source) b (with_slot (slot_of pair.source) (moved_out at (row pair))) x (λ e. warms_slot (slot_of pair.source) (moved_out at (row pair)) x (open'.0 e)) in
      warms_twice x (left_half at row b pair x) (halves at row b x pair) left
      (warms_where (block_of pair.target) b (with_slot (slot_of pair.target) (moved_in at (row pair))) (left_half at row b pair x)
      (λ e. warms_slot (slot_of pair.target) (moved_in at (row pair)) (left_half at row b pair x) (ap is_loose left.phase ∙ open'.1 e)))

  -- The halves of some pairs leave it too.
  halves_warm : (pairs : List MovePair) (x : Body) → ((pair : MovePair) → Among pair pairs → IsOpen pair x) → Warms x (fold (halves at row b) x pairs)
  halves_warm [] x each = warms_same x
  halves_warm (first ∷ rest) x each =
      let one = half_warms first x (each first (inl refl)) in
      warms_twice x (halves at row b x first) (fold (halves at row b) (halves at row b x first) rest) one
      (halves_warm rest (halves at row b x first) (λ pair a. let o = each pair (inr a) in (λ e. ap is_loose one.phase ∙ o.0 e, λ e. ap is_loose one.phase ∙ o.1 e)))

module _ (sh : Shape) (s : Parts) (t b : ℕ) (x : Body) where
  -- an event that turns no word leaves that of a block's body
  pub body_still : (e : CoreEvent) → turns_words e ≡ false → head_by ((changes_of sh s e).body t b x) ≡ head_by x
  body_still (event.Begin q) still = refl
  body_still (event.Get own u key) still = refl
  body_still (event.Insert own u row) still = absurd (true_false still)
  body_still (event.Update own u row) still = absurd (true_false still)
  body_still (event.Delete own u key) still = absurd (true_false still)
  body_still (event.Read own u y) still = refl
  body_still (event.Range own u low high) still = refl
  body_still (event.Commit own reads) still = judged (stale_in sh s own reads)
    where
      go : (wrote : Bool) → head_by ((cond wrote (committed_in own.session ((desk_at sh s).newest + 1) ((desk_at sh s).commits + 1)) (λ (body : Body). body)) x) ≡ head_by x
      go true = refl
      go false = refl

      judged : (found : Option (Read × ℕ)) → head_by ((after_judged sh s own found).body t b x) ≡ head_by x
      judged None = go (is_some_write own.writes)
      judged (Some stale) = refl
  body_still (event.Abort own) still = absurd (true_false still)
  body_still event.Oldest still = refl
  body_still (event.Observe u y) still = absurd (true_false still)
  body_still (event.Prune u y oldest) still = at_one (λ z. head_by z ≡ head_by x) u y (pruned_in oldest) t b x (λ e f. refl) (λ away. refl)
  body_still (event.Look u y) still = refl
  body_still (event.Move u moves) still = absurd (true_false still)
  body_still (event.Seal u y) still = absurd (true_false still)
  body_still (event.Image u y image) still = absurd (true_false still)
  body_still (event.Thaw u y) still = absurd (true_false still)

module _ (sh : Shape) (s : Parts) (shape : IsShape sh) (ok : Sound sh s) (t b : ℕ) (has : HasBlock sh t b) where
  -- The body of the block before the event.
  abbrev x : Body
  x = body_at sh s t b

  -- The stamp of the block has its room.
  small : x.last < 2 ^ 30
  small = (ok.bodies t b has).last

  -- A write to a slot of a loose block leaves this one's freeze.
  write_warms : (u p : ℕ) (g : Slot → Slot) → is_loose (body_at sh s u (block_of p)).phase ≡ true → Warms x (at_both u (block_of p) (with_slot (slot_of p) g) t b x)
  write_warms u p g loose = at_one (Warms x) u (block_of p) (with_slot (slot_of p) g) t b x
      (λ e f. warms_slot (slot_of p) g x (ap (λ t. is_loose (body_at sh s t b).phase) e ∙ ap (λ b. is_loose (body_at sh s u b).phase) f ∙ loose))
      (λ away. warms_same x)

  -- An insert leaves each block's freeze.
  insert_warms : (own : OwnKey) (u : ℕ) (row : Row) → IsLawful sh (event.Insert own u row) s → Warms x ((changes_of sh s (event.Insert own u row)).body t b x)
  insert_warms own u row lawful = go (insert_judged sh s own u (key_of row)) refl
    where
      go : (r : Result ℕ WriteFault) → insert_judged sh s own u (key_of row) ≡ r → Warms x ((after_insert sh s own u row (insert_judged sh s own u (key_of row))).body t b x)
      go (Err fault) is = subst (λ r. Warms x ((after_insert sh s own u row r).body t b x)) (sym is) (warms_same x)
      go (Ok p) is = subst (λ r. Warms x ((after_insert sh s own u row r).body t b x)) (sym is)
          (write_warms u p (written own.session (change.Put row)) (insert_loose sh s shape ok own u row lawful p is))

  -- A change of a key that is thawed leaves each block's freeze.
  change_warms : (own : OwnKey) (u : ℕ) (key : ℤ) (choice : Row → Change) → IsThawed sh u key s
      → Warms x ((after_change sh s own u choice (change_judged sh s own u key)).body t b x)
  change_warms own u key choice open' = go (change_judged sh s own u key) refl
    where
      go : (r : Result ℕ WriteFault) → change_judged sh s own u key ≡ r → Warms x ((after_change sh s own u choice (change_judged sh s own u key)).body t b x)
      go (Err fault) is = subst (λ r. Warms x ((after_change sh s own u choice r).body t b x)) (sym is) (warms_same x)
      go (Ok p) is = subst (λ r. Warms x ((after_change sh s own u choice r).body t b x)) (sym is)
          (write_warms u p (written own.session (choice (unwrap_or (slot_at sh s u p).row []))) (change_goes sh s ok own u key p open' is).spot.loose)

  -- A commit, with writes or without, leaves each block's freeze.
  commit_warms : (wrote : Bool) (q at number : ℕ) → Warms x ((cond wrote (committed_in q at number) (λ (body : Body). body)) x)
  commit_warms true q at number = record { phase = refl; last = refl; cooling = inl refl }
  commit_warms false q at number = warms_same x

  -- An abort leaves each block's freeze.
  abort_warms : (q : ℕ) → Warms x (rolled_back_in q x)
  abort_warms q = go (cases_Bool (is_loose x.phase))
    where
      go : (is_loose x.phase ≡ true) ⊎ (is_loose x.phase ≡ false) → Warms x (rolled_back_in q x)
      go (inl loose) = by (is_written_by q x)
        where
          by : (e : Bool) → Warms x (cond e (record (modified x) { slots = map (rolled_back q) x.slots }) x)
          by true = record { phase = refl; last = refl; cooling = inr (loose, refl) }
          by false = warms_same x
      go (inr closed) = subst (λ e. Warms x (cond e (record (modified x) { slots = map (rolled_back q) x.slots }) x))
          (sym (unwritten q x.slots ((ok.bodies t b has).quiet closed))) (warms_same x)

  -- A pruning leaves each block's freeze.
  prune_warms : (u y oldest : ℕ) → Warms x (at_both u y (pruned_in oldest) t b x)
  prune_warms u y oldest = at_one (Warms x) u y (pruned_in oldest) t b x (λ e f. record { phase = refl; last = refl; cooling = inl refl }) (λ away. warms_same x)

  -- A move leaves each block's freeze.
  move_warms : (u : ℕ) (moves : List MovePair) → Warms x ((changes_of sh s (event.Move u moves)).body t b x)
  move_warms u moves = go (held_pairs sh s u moves) (λ pair a. (kept_among (holds sh s u) moves pair a).1)
    where
      go : (pairs : List MovePair) → ((pair : MovePair) → Among pair pairs → holds sh s u pair ≡ true) → Warms x ((after_move sh s u pairs).body t b x)
      go [] held = warms_same x
      go (first ∷ rest) held = warms_where t u (λ y. fold (halves ((desk_at sh s).newest + 1) (moved_row sh s u) b) y (first ∷ rest)) x
          (λ e. halves_warm ((desk_at sh s).newest + 1) (moved_row sh s u) b (first ∷ rest) x (λ pair a. let o = pair_loose sh s u pair (held pair a) in (
            λ f. ap (λ t. is_loose (body_at sh s t b).phase) e ∙ ap (λ b. is_loose (body_at sh s u b).phase) (sym f) ∙ o.0,
            λ f. ap (λ t. is_loose (body_at sh s t b).phase) e ∙ ap (λ b. is_loose (body_at sh s u b).phase) (sym f) ∙ o.1,
          )))

  -- ---- the events

  -- What an event makes of the body of the block.
  abbrev made : CoreEvent → Body
  made e = (changes_of sh s e).body t b x

  -- A word is left, or turned on.
  abbrev Goes : Body → Type 0
  Goes y = (head_by y ≡ head_by x) ⊎ TurnsOn (head_by x) (head_by y)

  -- A seal of any block.
  seal_goes : (u y : ℕ) → Goes (made (event.Seal u y))
  seal_goes u y = go (seal_fault (is_head sh s u y) (body_at sh s u y)) refl
    where
      go : (o : Option SealFault) → seal_fault (is_head sh s u y) (body_at sh s u y) ≡ o
          → Goes ((cond (is_none (seal_fault (is_head sh s u y) (body_at sh s u y))) (record nothing { body = at_both u y sealed }) nothing).body t b x)
      go (Some fault) is = subst (λ o. Goes ((cond (is_none o) (record nothing { body = at_both u y sealed }) nothing).body t b x)) (sym is) (inl refl)
      go None is = subst (λ o. Goes ((cond (is_none o) (record nothing { body = at_both u y sealed }) nothing).body t b x)) (sym is)
          (at_one Goes u y sealed t b x (λ e f.
          let fine = sealable (is_head sh s u y) (body_at sh s u y) is in
          inr (turned_sealed x small
          (ap (λ t. is_loose (body_at sh s t b).phase) e ∙ ap (λ b. is_loose (body_at sh s u b).phase) f ∙ fine.phase)
          (ap (λ t. (body_at sh s t b).cooling) e ∙ ap (λ b. (body_at sh s u b).cooling) f ∙ fine.cold)
          (ap (λ t. (body_at sh s t b).last == last_stamp) e ∙ ap (λ b. (body_at sh s u b).last == last_stamp) f ∙ fine.stamp)))
          (λ away. inl refl))

  module _ (k : ℕ) (at : slice_get (names sh) k ≡ Some (BodyOf t b)) where
    -- A thaw of any block.
    thaw_turns : (u y : ℕ) → IsLawful sh (event.Thaw u y) s → Turns (thawed_part sh (event.Thaw u y) ≡ Some k) (head_by x) (head_by (made (event.Thaw u y)))
    thaw_turns u y lawful = at_one (λ z. Turns (thawed_part sh (event.Thaw u y) ≡ Some k) (head_by x) (head_by z)) u y thawed t b x
        (λ e f.
        let turned = turned_thawed x small (ap (λ t. is_imaged (body_at sh s t b).phase) e ∙ ap (λ b. is_imaged (body_at sh s u b).phase) f ∙ lawful.1.1) in
        inl (number_at sh k (BodyOf u y) (at ∙ ap Some (ap (λ t. BodyOf t b) e ∙ ap (BodyOf u) f)), turned.0, turned.1))
        (λ away. inr (λ is. let same : BodyOf t b ≡ BodyOf u y = some_is (BodyOf t b) (BodyOf u y) (sym at ∙ name_at (names sh) (BodyOf u y) k is) in away (table_is t u b y same) (block_is t u b y same), inl refl))
      where
        some_is : (n w : Name) → Some n ≡ Some w → n ≡ w
        some_is n w e = cc

        table_is : (t u b y : ℕ) → BodyOf t b ≡ BodyOf u y → t ≡ u
        table_is t u b y e = cc

        block_is : (t u b y : ℕ) → BodyOf t b ≡ BodyOf u y → b ≡ y
        block_is t u b y e = cc

    -- each lawful event leaves the word of a block's body, or turns it
    pub body_turns : (e : CoreEvent) → IsLawful sh e s → Turns (thawed_part sh e ≡ Some k) (head_by x) (head_by (made e))
    body_turns (event.Begin q) lawful = inr (not_none k, inl refl)
    body_turns (event.Get own u key) lawful = inr (not_none k, inl refl)
    body_turns (event.Insert own u row) lawful = inr (not_none k, turned_warm x (made (event.Insert own u row)) small (insert_warms own u row lawful))
    body_turns (event.Update own u row) lawful = inr (not_none k, turned_warm x (made (event.Update own u row)) small (change_warms own u (key_of row) (λ old. change.Patch (differences 0 old row)) lawful.1.2))
    body_turns (event.Delete own u key) lawful = inr (not_none k, turned_warm x (made (event.Delete own u key)) small (change_warms own u key (λ old. change.Gone) lawful.1.1))
    body_turns (event.Read own u y) lawful = inr (not_none k, inl refl)
    body_turns (event.Range own u low high) lawful = inr (not_none k, inl refl)
    body_turns (event.Commit own reads) lawful = inr (not_none k, judged (stale_in sh s own reads))
      where
        judged : (found : Option (Read × ℕ))
            → (head_by ((after_judged sh s own found).body t b x) ≡ head_by x) ⊎ TurnsOn (head_by x) (head_by ((after_judged sh s own found).body t b x))
        judged None = turned_warm x ((after_commit sh s own).body t b x) small (commit_warms (is_some_write own.writes) own.session ((desk_at sh s).newest + 1) ((desk_at sh s).commits + 1))
        judged (Some stale) = inl refl
    body_turns (event.Abort own) lawful = inr (not_none k, turned_warm x (made (event.Abort own)) small (abort_warms own.session))
    body_turns event.Oldest lawful = inr (not_none k, inl refl)
    body_turns (event.Observe u y) lawful = inr (not_none k, at_one Goes u y (observed (is_head sh s u y)) t b x (λ e f. turned_observed (is_head sh s u y) x small) (λ away. inl refl))
    body_turns (event.Prune u y oldest) lawful = inr (not_none k, turned_warm x (made (event.Prune u y oldest)) small (prune_warms u y oldest))
    body_turns (event.Look u y) lawful = inr (not_none k, inl refl)
    body_turns (event.Move u moves) lawful = inr (not_none k, turned_warm x (made (event.Move u moves)) small (move_warms u moves))
    body_turns (event.Seal u y) lawful = inr (not_none k, seal_goes u y)
    body_turns (event.Image u y image) lawful = inr (not_none k, at_one Goes u y imaged t b x (λ e f. turned_imaged x small) (λ away. inl refl))
    body_turns (event.Thaw u y) lawful = thaw_turns u y lawful
