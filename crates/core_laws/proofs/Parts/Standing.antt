-- What an event asks besides its parts.
use Rattle.std.proofs.Common.{◌≡◌, ℕ, ℤ, zero, suc, Option, None, Some, option_map, sym, ap, ◌∙◌, subst}
use Rattle.std.specs.Prelude.{IsSomeAnd}
use Rattle.event_spec.specs.declared.event.Event.TheVariants as event
use Rattle.event_spec.specs.declared.own.OwnKey.{OwnKey}
use Rattle.event_spec.specs.declared.own.OwnTransaction.{OwnTransaction}
use Rattle.event_spec.specs.Lawful.{IsOwn, IsOwnKey, Opened, OwnsAll, OwnsKey, transaction, writes_of}
use Rattle.event_spec.specs.Parts.{Parts, Shape}
use Rattle.event_spec.specs.Replay.{opening}
use Rattle.core_laws.proofs.Events.Owners.{open_with}
use Rattle.isolation_spec.specs.Contents.{key_of}
use Rattle.core_laws.specs.Parts.Laws.{Depends, Rests}
use Rattle.core_laws.proofs.Logs.Opening.{desk, idle}
use Rattle.txn_desk.specs.Desk.{DeskState}
use Rattle.txn_desk.specs.Oldest.{snapshot_of}

-- What is handed in for a key is the session's own over other parts too.
key_by : (sh : Shape) (s u : Parts) (own : OwnKey) (t : ℕ) (key : ℤ) (o : Option Opened) → IsSomeAnd o (IsOwnKey sh s own t key) → IsSomeAnd o (IsOwnKey sh u own t key)
key_by sh s u own t key None has = has
key_by sh s u own t key (Some open') has = record { snapshot = has.snapshot; written = has.written }

-- What is handed in as a transaction is the session's own over other parts too.
all_by : (sh : Shape) (s u : Parts) (own : OwnTransaction) (o : Option Opened) → IsSomeAnd o (IsOwn sh s own) → IsSomeAnd o (IsOwn sh u own)
all_by sh s u own None has = has
all_by sh s u own (Some open') has = record { snapshot = has.snapshot; writes = has.writes }

module _ (sh : Shape) (s u : Parts) where
  -- A session whose transaction stays owns the key that it owned.
  owns_key : (own : OwnKey) (t : ℕ) (key : ℤ) → transaction sh u own.session ≡ transaction sh s own.session → OwnsKey sh own t key s → OwnsKey sh own t key u
  owns_key own t key same owns = (
    owns.0,
    subst (λ o. IsSomeAnd o (IsOwnKey sh u own t key)) (sym same) (key_by sh s u own t key (transaction sh s own.session) owns.1),
  )

  -- A session whose transaction stays owns the transaction that it owned.
  owns_all : (own : OwnTransaction) → transaction sh u own.session ≡ transaction sh s own.session → OwnsAll sh own s → OwnsAll sh own u
  owns_all own same owns = (
    owns.0,
    subst (λ o. IsSomeAnd o (IsOwn sh u own)) (sym same) (all_by sh s u own (transaction sh s own.session) owns.1),
  )

-- What an event asks besides its parts depends on its session's transaction and on lasting facts
-- alone.
pub depends : Depends
depends sh (event.Begin q) s u same facts stands = (stands.0, same q (λ i. Some q) ∙ stands.1)
depends sh (event.Get own t key) s u same facts stands = owns_key sh s u own t key (same own.session (λ i. Some own.session)) stands
depends sh (event.Insert own t row) s u same facts stands = owns_key sh s u own t (key_of row) (same own.session (λ i. Some own.session)) stands
depends sh (event.Update own t row) s u same facts stands = owns_key sh s u own t (key_of row) (same own.session (λ i. Some own.session)) stands
depends sh (event.Delete own t key) s u same facts stands = owns_key sh s u own t key (same own.session (λ i. Some own.session)) stands
depends sh (event.Read own t b) s u same facts stands = owns_all sh s u own (same own.session (λ i. Some own.session)) stands
depends sh (event.Range own t low high) s u same facts stands = owns_all sh s u own (same own.session (λ i. Some own.session)) stands
depends sh (event.Commit own reads) s u same facts stands = owns_all sh s u own (same own.session (λ i. Some own.session)) stands
depends sh (event.Abort own) s u same facts stands = owns_all sh s u own (same own.session (λ i. Some own.session)) stands
depends sh event.Oldest s u same facts stands = tt
depends sh (event.Observe t b) s u same facts stands = tt
depends sh (event.Prune t b oldest) s u same facts stands = facts oldest stands
depends sh (event.Look t b) s u same facts stands = tt
depends sh (event.Move t moves) s u same facts stands = tt
depends sh (event.Seal t b) s u same facts stands = tt
depends sh (event.Image t b image) s u same facts stands = tt
depends sh (event.Thaw t b) s u same facts stands = tt

-- No session has a transaction in the opening core.
pub rests : Rests
rests sh zero shape = λ i. None
rests sh (suc n) shape =
    ap (option_map (open_with (writes_of sh (opening sh) (suc n)))) (ap (λ (d : DeskState). snapshot_of d (suc n)) (desk sh shape) ∙ idle sh shape (suc n))
