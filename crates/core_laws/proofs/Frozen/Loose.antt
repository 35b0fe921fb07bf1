-- The blocks whose slots a lawful event changes are loose.
use Rattle.std.proofs.Common.{◌≡◌, ℕ, Bool, true, cond, not, ◌&&◌, ◌==◌, Option, None, Some, is_some, refl, sym, ap, ◌∙◌}
use Rattle.std.specs.Prelude.{Ok}
use Rattle.std.specs.Option.{option_or}
use Rattle.std.proofs.lemmas.Bool.{and_parts}
use Rattle.block_layout.specs.Place.{block_of, slot_of}
use Rattle.block_spec.specs.Bodies.{Body, has_row, is_front, is_loose, is_quiet, last_stamp, seal_fault, with_slot}
use Rattle.block_spec.specs.declared.change.Change.TheVariants as change
use Rattle.block_spec.specs.Slots.{Row, has_none, is_bare, written}
use Rattle.core_laws.proofs.Events.Fitting.{fits_columns, versions_fit}
use Rattle.core_laws.proofs.Events.Owners.{key_slot}
use Rattle.core_laws.proofs.Sound.Held.{IsFine, none_by}
use Rattle.core_laws.proofs.Sound.Inserts.{spot}
use Rattle.core_laws.proofs.Sound.Keeps.{own_spot, shaped}
use Rattle.core_laws.proofs.Sound.Written.{judged_ok, put_fits}
use Rattle.event_spec.specs.declared.event.Event.TheVariants as event
use Rattle.event_spec.specs.declared.event.MovePair.{MovePair}
use Rattle.event_spec.specs.declared.own.OwnKey.{OwnKey}
use Rattle.event_spec.specs.declared.reply.WriteFault.TheVariants.{Exists, Full}
use Rattle.event_spec.specs.Effects.{at_both, found, has_key, holds, insert_judged, may_move, taken_by}
use Rattle.event_spec.specs.Judged.{fault_of, newer_by, next_place}
use Rattle.event_spec.specs.Lawful.{IsLawful}
use Rattle.event_spec.specs.Parts.{Parts, Shape, nothing, body_at, head_at, is_head, places_at, slot_at, slots_of}
use Rattle.event_spec.specs.Replay.{columns_in}
use Rattle.event_spec.specs.Sound.{IsShape, Sound}
use Rattle.isolation_spec.specs.Contents.{key_of}

-- what is not against a seal where nothing is
pub sealable : (head : Bool) (body : Body) → seal_fault head body ≡ None
    → IsFine (is_loose body.phase) head (has_row body) (is_front body.slots) (is_quiet body) body.cooling (body.last == last_stamp)
sealable head body fine = none_by (is_loose body.phase) head (has_row body) (is_front body.slots) (is_quiet body) body.cooling (body.last == last_stamp) fine

module _ (sh : Shape) (s : Parts) where
  -- A block that may give and take rows is loose.
  loose_of : (u y : ℕ) → may_move sh s u y ≡ true → is_loose (body_at sh s u y).phase ≡ true
  loose_of u y may =
      let a = and_parts (is_loose (body_at sh s u y).phase && (body_at sh s u y).cooling && not (is_head sh s u y)) (has_row (body_at sh s u y)) may in
      let b = and_parts (is_loose (body_at sh s u y).phase && (body_at sh s u y).cooling) (not (is_head sh s u y)) a.0 in
      (and_parts (is_loose (body_at sh s u y).phase) ((body_at sh s u y).cooling) b.0).0

  -- a pair of a move that holds has both its places in loose blocks
  pub pair_loose : (u : ℕ) (pair : MovePair) → holds sh s u pair ≡ true
      → (is_loose (body_at sh s u (block_of pair.source)).phase ≡ true) × (is_loose (body_at sh s u (block_of pair.target)).phase ≡ true)
  pair_loose u pair held =
      let a = and_parts (may_move sh s u (block_of pair.source) && may_move sh s u (block_of pair.target) && has_key pair.key (slot_at sh s u pair.source).row && has_none (slot_at sh s u pair.source).entries)
      (is_bare (slot_at sh s u pair.target)) held in
      let b = and_parts (may_move sh s u (block_of pair.source) && may_move sh s u (block_of pair.target) && has_key pair.key (slot_at sh s u pair.source).row) (has_none (slot_at sh s u pair.source).entries) a.0 in
      let c = and_parts (may_move sh s u (block_of pair.source) && may_move sh s u (block_of pair.target)) (has_key pair.key (slot_at sh s u pair.source).row) b.0 in
      let d = and_parts (may_move sh s u (block_of pair.source)) (may_move sh s u (block_of pair.target)) c.0 in
      (loose_of u (block_of pair.source) d.0, loose_of u (block_of pair.target) d.1)

module _ (sh : Shape) (s : Parts) (shape : IsShape sh) (ok : Sound sh s) where
  -- an insert goes to a slot of a loose block
  pub insert_loose : (own : OwnKey) (u : ℕ) (row : Row) → IsLawful sh (event.Insert own u row) s → (p : ℕ) → insert_judged sh s own u (key_of row) ≡ Ok p
      → is_loose (body_at sh s u (block_of p)).phase ≡ true
  insert_loose own u row lawful p is = go own.written refl (judged_ok
      (option_or (fault_of (newer_by (slot_at sh s u) (places_at sh s u (key_of row)) own)) (cond (is_some (found sh s own u (key_of row))) (Some Exists) None))
      (option_or own.written (next_place (head_at sh s u) (slots_of sh u))) (Full (head_at sh s u).inserts) p is).1
    where
      go : (w : Option ℕ) → own.written ≡ w → option_or own.written (next_place (head_at sh s u) (slots_of sh u)) ≡ Some p → is_loose (body_at sh s u (block_of p)).phase ≡ true
      go (Some y) e goes =
          let mine : own.written ≡ Some p = e ∙ sym (ap (λ w. option_or w (next_place (head_at sh s u) (slots_of sh u))) e) ∙ goes in
          (own_spot sh s shape ok u p own.session ((key_slot sh s ok own u (key_of row) lawful.0).there p mine).1).loose
      go None e goes =
          (spot sh s (shaped sh s ok) shape u lawful.1.0 p
          (record nothing { head = λ x h. cond (x == u) (taken_by (slots_of sh u) h) h; body = at_both u (block_of p) (with_slot (slot_of p) (written own.session (change.Put row))) })
          (written own.session (change.Put row)) (sym (ap (λ w. option_or w (next_place (head_at sh s u) (slots_of sh u))) e) ∙ goes) (λ x h. refl) (λ x y z. refl) refl
          (put_fits (columns_in sh u) own.session row (slot_at sh s u p).row (slot_at sh s u p).entries (fits_columns sh u row lawful.1.0 lawful.1.1) (versions_fit sh s ok u p))).loose
