-- What a transaction reads behind an event of another session.
use Rattle.std.proofs.Common.{◌≡◌, ◌≢◌, ℕ, cond, Option, None, Some, length, sym, ap, ◌∙◌, subst}
use Rattle.std.specs.List.{filter_map}
use Rattle.block_layout.specs.Place.{place_of}
use Rattle.block_spec.specs.Slots.{Row}
use Rattle.core_laws.proofs.Events.Owners.{all_open}
use Rattle.core_laws.proofs.Parts.Leaving.{leaves}
use Rattle.core_laws.proofs.Snapshots.Sights.{seen_stays}
use Rattle.core_laws.proofs.Sound.Invariant.{keeps}
use Rattle.event_spec.specs.declared.own.OwnTransaction.{OwnTransaction}
use Rattle.event_spec.specs.Effects.{CoreEvent, effect}
use Rattle.event_spec.specs.Lawful.{HasBlock, IsLawful, IsOwn, OwnsAll, session_of, transaction}
use Rattle.event_spec.specs.Parts.{Parts, Shape, below, body_at}
use Rattle.event_spec.specs.Replies.{row_read, rows_read}
use Rattle.event_spec.specs.Sound.{IsShape, Sound}

module _ (shape : Shape) (parts : Parts) (e : CoreEvent) (is_shape : IsShape shape) (ok : Sound shape parts) (lawful : IsLawful shape e parts) where
  -- The state after a lawful event is sound.
  next_ok : Sound shape (effect shape parts e)
  next_ok = keeps shape parts e is_shape ok lawful

  -- after another session's event a transaction owns what it did
  pub owns_still : (own : OwnTransaction) → session_of e ≢ Some own.session → OwnsAll shape own parts → OwnsAll shape own (effect shape parts e)
  owns_still own other owns = (
    owns.0,
    subst (λ o. Rattle.std.specs.Prelude.IsSomeAnd o (IsOwn shape (effect shape parts e) own)) (sym (leaves shape e parts own.session is_shape ok lawful other)) (again (transaction shape parts own.session) owns.1),
  )
    where
      again : (o : Option Rattle.event_spec.specs.Lawful.Opened) → Rattle.std.specs.Prelude.IsSomeAnd o (IsOwn shape parts own) → Rattle.std.specs.Prelude.IsSomeAnd o (IsOwn shape (effect shape parts e) own)
      again None h = absurd h
      again (Some x) h = record { snapshot = h.snapshot; writes = h.writes }

  -- After another session's event a transaction reads the same row at a place.
  row_still : (own : OwnTransaction) (table : ℕ) → session_of e ≢ Some own.session → OwnsAll shape own parts → (place : ℕ)
      → row_read shape (effect shape parts e) own table place ≡ row_read shape parts own table place
  row_still own table other owns place = ap
      (Rattle.std.specs.Prelude.option_and_then (λ row. cond (Rattle.event_spec.specs.Replies.is_elsewhere (Rattle.isolation_spec.specs.Contents.at_place own.writes (Rattle.isolation_spec.specs.Contents.place_at table (Rattle.isolation_spec.specs.Contents.key_of row))) place) None (Some row)))
      (seen_stays shape parts e own.session own.snapshot is_shape ok lawful (all_open shape parts ok own owns) other table place)

  -- after another session's event a transaction reads the same rows of a block
  pub rows_still : (own : OwnTransaction) (table block : ℕ) → session_of e ≢ Some own.session → OwnsAll shape own parts → HasBlock shape table block
      → rows_read shape (effect shape parts e) own table block ≡ rows_read shape parts own table block
  rows_still own table block other owns has =
      let count : length (body_at shape (effect shape parts e) table block).slots ≡ length (body_at shape parts table block).slots =
      (next_ok.bodies table block has).slots ∙ sym (ok.bodies table block has).slots in
      ap (λ n. filter_map (λ slot. row_read shape (effect shape parts e) own table (place_of block slot)) (below n)) count
      ∙ ap (λ (f : ℕ → Option Row). filter_map f (below (length (body_at shape parts table block).slots)))
      (λ i slot. row_still own table other owns (place_of block slot) i)
