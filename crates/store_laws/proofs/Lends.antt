-- What a lend leaves: the parts, and what a session has open.
use Rattle.std.proofs.Common.{◌≡◌, ℕ, Bool, true, false, cond, Option, refl, sym}
use Rattle.std.specs.Prelude.{Result, Ok, Err, None, Some}
use Rattle.block_spec.specs.Bodies.{Body}
use Rattle.block_spec.specs.declared.phase.Phase.{Phase}
use Rattle.block_spec.specs.declared.phase.Phase.TheVariants.{Loose, Sealed, Imaged}
use Rattle.block_spec.specs.declared.phase.SealFault.{SealFault}
use Rattle.core_laws.proofs.Events.Still.{all_stay}
use Rattle.core_laws.proofs.Sound.Bodies.{true_false}
use Rattle.event_spec.specs.declared.event.Event.TheVariants as event
use Rattle.event_spec.specs.declared.own.OwnTransaction.{OwnTransaction}
use Rattle.event_spec.specs.declared.reply.Reply.TheVariants as reply
use Rattle.event_spec.specs.declared.reply.WriteFault.{WriteFault}
use Rattle.event_spec.specs.Effects.{CoreEvent, effect, stale_in}
use Rattle.event_spec.specs.Parts.{Parts, Shape, names}
use Rattle.event_spec.specs.Replay.{after, reply_after}
use Rattle.event_spec.specs.Replies.{CoreReply, reply_to, reply_to_image, reply_to_seal, reply_to_write, reply_to_commit}
use Rattle.run_spec.specs.Occurrences.{Logged}
use Rattle.run_spec.specs.Opened.{own_behind}
use Rattle.run_spec.specs.Told.{is_shared}
use Rattle.store_laws.specs.Stretches.{reads_block}
use Rattle.run_spec.specs.Traces.{MayLend}
use Rattle.isolation_spec.specs.declared.read.Read.{Read}

-- no reply to a write is an image
no_write : (told : Result ℕ WriteFault) → is_shared (reply_to_write told) ≡ true → ⊥
no_write (Ok place) e = true_false (sym e)
no_write (Err fault) e = true_false (sym e)

-- nor to a seal
no_seal : (fault : Option SealFault) (last : ℕ) → is_shared (reply_to_seal fault last) ≡ true → ⊥
no_seal None last e = true_false (sym e)
no_seal (Some fault) last e = true_false (sym e)

-- nor to an imaging
no_image : (phase : Phase) (body : Body) → is_shared (reply_to_image phase body) ≡ true → ⊥
no_image Loose body e = true_false (sym e)
no_image (Sealed stamp) body e = true_false (sym e)
no_image (Imaged stamp) body e = true_false (sym e)

no_commit : (shape : Shape) (parts : Parts) (own : OwnTransaction) (stale : Option (Read × ℕ)) → is_shared (reply_to_commit shape parts own stale) ≡ true → ⊥
no_commit shape parts own (Some stale) e = true_false (sym e)
no_commit shape parts own None e = true_false (sym e)

-- An event that tells an image is a read: it leaves the parts and what a session has open.
pub record IsRead (shape : Shape) (parts : Parts) (e : CoreEvent) : Type 0 where
  pub leaves : effect shape parts e ≡ parts
  pub keeps : (own : Option OwnTransaction) (told : CoreReply) → own_behind own e told ≡ own

images_are_read : (shape : Shape) (parts : Parts) (e : CoreEvent) → is_shared (reply_to shape parts e) ≡ true → IsRead shape parts e
images_are_read shape parts (event.Begin session) e = absurd (true_false (sym e))
images_are_read shape parts (event.Get own table key) e = absurd (true_false (sym e))
images_are_read shape parts (event.Insert own table row) e = absurd (no_write _ e)
images_are_read shape parts (event.Update own table row) e = absurd (no_write _ e)
images_are_read shape parts (event.Delete own table key) e = absurd (no_write _ e)
images_are_read shape parts (event.Read own table block) e = record { leaves = all_stay (names shape) parts; keeps = λ own told. refl }
images_are_read shape parts (event.Range own table low high) e = absurd (true_false (sym e))
images_are_read shape parts (event.Commit own reads) e = absurd (no_commit shape parts own (stale_in shape parts own reads) e)
images_are_read shape parts (event.Abort own) e = absurd (true_false (sym e))
images_are_read shape parts event.Oldest e = absurd (true_false (sym e))
images_are_read shape parts (event.Observe table block) e = absurd (true_false (sym e))
images_are_read shape parts (event.Prune table block oldest) e = absurd (true_false (sym e))
images_are_read shape parts (event.Look table block) e = absurd (true_false (sym e))
images_are_read shape parts (event.Move table moves) e = absurd (true_false (sym e))
images_are_read shape parts (event.Seal table block) e = absurd (no_seal _ _ e)
images_are_read shape parts (event.Image table block image) e = absurd (no_image _ _ e)
images_are_read shape parts (event.Thaw table block) e = absurd (true_false (sym e))

module _ (shape : Shape) where
  -- What was lent leaves the parts.
  pub lend_leaves : (parts : Parts) (entry : Logged) → MayLend shape parts entry → after shape parts entry.made ≡ parts
  lend_leaves parts entry may = go entry.made.refused may.imaged
    where
      go : (refused : Bool) → is_shared (cond refused reply.Memory (reply_to shape parts entry.made.event)) ≡ true → cond refused parts (effect shape parts entry.made.event) ≡ parts
      go true e = refl
      go false e = (images_are_read shape parts entry.made.event e).leaves

  -- Nor is it refused memory.
  pub lend_is_granted : (parts : Parts) (entry : Logged) → MayLend shape parts entry → entry.made.refused ≡ false
  lend_is_granted parts entry may = go entry.made.refused refl may.imaged
    where
      go : (refused : Bool) → entry.made.refused ≡ refused → is_shared (cond refused reply.Memory (reply_to shape parts entry.made.event)) ≡ true → entry.made.refused ≡ false
      go true is e = absurd (true_false (sym e))
      go false is e = is

  -- It leaves what a session has open.
  pub lend_keeps : (parts : Parts) (entry : Logged) → MayLend shape parts entry → (own : Option OwnTransaction) (told : CoreReply) → own_behind own entry.made.event told ≡ own
  lend_keeps parts entry may = go entry.made.refused may.imaged
    where
      go : (refused : Bool) → is_shared (cond refused reply.Memory (reply_to shape parts entry.made.event)) ≡ true → (own : Option OwnTransaction) (told : CoreReply) → own_behind own entry.made.event told ≡ own
      go true e = absurd (true_false (sym e))
      go false e = (images_are_read shape parts entry.made.event e).keeps

-- ---- events that are no reads

-- no reply to one that is not is an image
reads_alone : (shape : Shape) (parts : Parts) (e : CoreEvent) → reads_block e ≡ false → is_shared (reply_to shape parts e) ≡ true → ⊥
reads_alone shape parts (event.Begin session) other e = true_false (sym e)
reads_alone shape parts (event.Get own table key) other e = true_false (sym e)
reads_alone shape parts (event.Insert own table row) other e = no_write _ e
reads_alone shape parts (event.Update own table row) other e = no_write _ e
reads_alone shape parts (event.Delete own table key) other e = no_write _ e
reads_alone shape parts (event.Read own table block) other e = true_false other
reads_alone shape parts (event.Range own table low high) other e = true_false (sym e)
reads_alone shape parts (event.Commit own reads) other e = no_commit shape parts own (stale_in shape parts own reads) e
reads_alone shape parts (event.Abort own) other e = true_false (sym e)
reads_alone shape parts event.Oldest other e = true_false (sym e)
reads_alone shape parts (event.Observe table block) other e = true_false (sym e)
reads_alone shape parts (event.Prune table block oldest) other e = true_false (sym e)
reads_alone shape parts (event.Look table block) other e = true_false (sym e)
reads_alone shape parts (event.Move table moves) other e = true_false (sym e)
reads_alone shape parts (event.Seal table block) other e = no_seal _ _ e
reads_alone shape parts (event.Image table block image) other e = no_image _ _ e
reads_alone shape parts (event.Thaw table block) other e = true_false (sym e)

-- nor is the reply behind it, be it refused memory
pub no_image_told : (shape : Shape) (parts : Parts) (e : CoreEvent) (refused : Bool) → reads_block e ≡ false
    → is_shared (reply_after shape parts (record { event = e; refused = refused })) ≡ false
no_image_told shape parts e true other = refl
no_image_told shape parts e false other = go (is_shared (reply_to shape parts e)) refl
  where
    go : (b : Bool) → is_shared (reply_to shape parts e) ≡ b → is_shared (reply_to shape parts e) ≡ false
    go true is = absurd (reads_alone shape parts e other is)
    go false is = is
