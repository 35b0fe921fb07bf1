-- What an event of a store tells.
use Rattle.std.proofs.Common.{◌≡◌, ◌⊎◌, ℕ, ℤ, Bool, true, false, Option, None, Some, List, option_map, is_some, refl, sym, ap, ◌∙◌, subst, true≢false, arith}
use mathlib.Core.Logic.{inl, inr}
use Rattle.block_spec.specs.Bodies.{Body, is_imaged}
use Rattle.block_spec.specs.Slots.{Row}
use Rattle.block_spec.specs.declared.phase.Phase.{Phase}
use Rattle.block_spec.specs.declared.phase.Phase.TheVariants.{Loose, Sealed, Imaged}
use Rattle.block_spec.specs.declared.phase.SealFault.{SealFault}
use Rattle.core_parts.specs.Hands.{Held}
use Rattle.engine_core.specs.Core.{is_memory, parts_in}
use Rattle.event_spec.specs.declared.own.OwnKey.{OwnKey}
use Rattle.event_spec.specs.declared.own.OwnTransaction.{OwnTransaction}
use Rattle.event_spec.specs.declared.reply.Reply.TheVariants as reply
use Rattle.event_spec.specs.Effects.{CoreEvent}
use Rattle.event_spec.specs.declared.event.Event.TheVariants as event
use Rattle.event_spec.specs.Lawful.{HasBlock, HasTable, IsImageOf, OwnsAll, OwnsKey, takes_memory}
use Rattle.event_spec.specs.Parts.{Parts, Shape, body_at, desk_at}
use Rattle.event_spec.specs.Replay.{reply_after}
use Rattle.event_spec.specs.Replies.{CoreReply, reply_to, reply_to_image, reply_to_seal}
use Rattle.run_spec.specs.Opened.{own_behind, own_key}
use Rattle.sole_store.specs.Sole.{IsSole, Makes, MayMake, SoleState, made_by}
use Rattle.store_laws.proofs.Going.{keys}
use Rattle.store_laws.specs.OwnLaws.{HasOpened}
use Rattle.txn_desk.specs.Oldest.{oldest_of}

-- an event that takes no memory is told what the core replies
pub always_in : (sh : Shape) (s : Parts) (e : CoreEvent) (told : CoreReply) → told ≡ reply_after sh s (made_by e told) → (is_memory told ≡ true → takes_memory e ≡ true)
    → takes_memory e ≡ false → told ≡ reply_to sh s e
always_in sh s e told told_is memory never = go (is_memory told) refl told_is
  where
    go : (b : Bool) → is_memory told ≡ b → told ≡ reply_after sh s (record { event = e; refused = b }) → told ≡ reply_to sh s e
    go true is at = absurd (true≢false (sym (memory is) ∙ never))
    go false is at = at

module _ (old new : SoleState) (e : CoreEvent) (told : CoreReply) (made : Makes old new e told) where
  -- that there is no memory, or what the core replies
  pub either : (told ≡ reply.Memory) ⊎ (told ≡ reply_to old.shape old.parts e)
  either = go (is_memory told) made.told_is
    where
      go : (b : Bool) → told ≡ reply_after old.shape old.parts (record { event = e; refused = b }) → (told ≡ reply.Memory) ⊎ (told ≡ reply_to old.shape old.parts e)
      go true is = inl is
      go false is = inr is

  -- an event that takes no memory is told what the core replies
  pub always : takes_memory e ≡ false → told ≡ reply_to old.shape old.parts e
  always = always_in old.shape old.parts e told made.told_is made.memory

  -- so is one that was not told that there is none
  pub granted : (told ≡ reply.Memory → ⊥) → told ≡ reply_to old.shape old.parts e
  granted not = go either
    where
      go : (told ≡ reply.Memory) ⊎ (told ≡ reply_to old.shape old.parts e) → told ≡ reply_to old.shape old.parts e
      go (inl is) = absurd (not is)
      go (inr is) = is

  -- the same of the event and the reply by other names
  pub told_as : (f : CoreEvent) (line : CoreReply) → e ≡ f → told ≡ line → Makes old new f line
  told_as f line is at = subst (λ (x : CoreEvent). Makes old new x line) is (subst (Makes old new e) at made)

-- a store whose event was refused memory is as it was
pub refused : (old new : SoleState) (e : CoreEvent) → Makes old new e reply.Memory → own_behind old.own e reply.Memory ≡ old.own → new ≡ old
refused old new e made leaves = made.behind_is ∙ ap (λ (o : Option OwnTransaction). with_own' o) leaves
  where
    with_own' : Option OwnTransaction → SoleState
    with_own' o = record { shape = old.shape; parts = old.parts; own = o }

-- ---- what is open

-- where nothing is told open, nothing is
pub none_open : (o : Option OwnTransaction) → is_some o ≡ false → o ≡ None
none_open None is = refl
none_open (Some own) is = absurd (true≢false is)

-- an owner who has nothing is not busy
pub not_open : (o : Option OwnTransaction) → is_some o ≡ true → o ≡ None → ⊥
not_open o is none = true≢false (sym is ∙ ap (λ (x : Option OwnTransaction). is_some x) none)

-- what is open is one transaction
pub same_open : (own other : OwnTransaction) (o : Option OwnTransaction) → o ≡ Some own → o ≡ Some other → own ≡ other
same_open own other o is at = inner (sym is ∙ at)
  where
    inner : Some own ≡ Some other → own ≡ other
    inner h = cc

-- what the owner has open is the core's
pub owns_all : (sh : Shape) (hand : Held) (o : Option OwnTransaction) (own : OwnTransaction) → IsSole sh hand o → o ≡ Some own → (own.session ≡ 1) × OwnsAll sh own (parts_in hand)
owns_all sh hand o own sole is = subst (HasOpened sh (parts_in hand) 1) is sole.opened

-- an event on a key is handed what is the core's
pub owns_key : (sh : Shape) (hand : Held) (o : Option OwnTransaction) (own : OwnTransaction) (t : ℕ) (key : ℤ) → IsSole sh hand o → o ≡ Some own → OwnsKey sh (own_key t key own) t key (parts_in hand)
owns_key sh hand o own t key sole is = keys sh (parts_in hand) own t key (owns_all sh hand o own sole is).1

-- what an event on a key was handed is of the open transaction
pub handed : (t : ℕ) (key : ℤ) (o : Option OwnTransaction) (own : OwnTransaction) (k : OwnKey) → option_map (own_key t key) o ≡ Some k → o ≡ Some own → k ≡ own_key t key own
handed t key o own k is at = inner (sym is ∙ ap (option_map (own_key t key)) at)
  where
    inner : Some k ≡ Some (own_key t key own) → k ≡ own_key t key own
    inner h = cc

-- ---- events that leave what is open

-- a row of the transaction's own may be got
pub may_get : (v : SoleState) (k : OwnKey) (t : ℕ) (key : ℤ) → HasTable v.shape t → k.session ≡ 1 → OwnsKey v.shape k t key v.parts → MayMake v (event.Get k t key)
may_get v k t key has mine owns = record { lawful = (owns, has); owners = inl (ap Some mine); leaves = λ told. refl }

-- a block may be observed
pub may_observe : (v : SoleState) (t b : ℕ) → HasBlock v.shape t b → MayMake v (event.Observe t b)
may_observe v t b has = record { lawful = (tt, has); owners = inr refl; leaves = λ told. refl }

-- pruned up to the oldest stamp
pub may_prune : (v : SoleState) (t b oldest : ℕ) → HasBlock v.shape t b → oldest ≡ oldest_of (desk_at v.shape v.parts) → MayMake v (event.Prune t b oldest)
may_prune v t b oldest has is = record { lawful = (omega (arith, is), has); owners = inr refl; leaves = λ told. refl }

-- sealed
pub may_seal : (v : SoleState) (t b : ℕ) → HasBlock v.shape t b → MayMake v (event.Seal t b)
may_seal v t b has = record { lawful = (tt, has); owners = inr refl; leaves = λ told. refl }

-- handed its image
pub may_image : (v : SoleState) (t b : ℕ) (image : Option (List Row)) → HasBlock v.shape t b → IsImageOf image (body_at v.shape v.parts t b) (body_at v.shape v.parts t b).phase → MayMake v (event.Image t b image)
may_image v t b image has of = record { lawful = (tt, (has, of)); owners = inr refl; leaves = λ told. refl }

-- and thawed
pub may_thaw : (v : SoleState) (t b : ℕ) → HasBlock v.shape t b → is_imaged (body_at v.shape v.parts t b).phase ≡ true → MayMake v (event.Thaw t b)
may_thaw v t b has imaged = record { lawful = (tt, (has, imaged)); owners = inr refl; leaves = λ told. refl }

-- ---- a block

-- a seal replies its stamp, or the reason against it
pub seals_tell : (fault : Option SealFault) (last : ℕ) (told : CoreReply) → told ≡ reply_to_seal fault last
    → ((stamp : ℕ) → told ≡ reply.Sealed stamp → ⊥) → ((because : SealFault) → told ≡ reply.NotSealed because → ⊥) → ⊥
seals_tell None last told is sealed refused = sealed _ is
seals_tell (Some because) last told is sealed refused = refused because is

-- an image replies how many rows it has, or that there was no seal
pub images_tell : (phase : Phase) (body : Body) (told : CoreReply) → told ≡ reply_to_image phase body
    → ((rows : ℕ) → told ≡ reply.Imaged rows → ⊥) → (told ≡ reply.NoSeal → ⊥) → ⊥
images_tell Loose body told is imaged none = none is
images_tell (Sealed stamp) body told is imaged none = imaged _ is
images_tell (Imaged stamp) body told is imaged none = none is
