-- Events that change one part.
use Rattle.std.specs.Prelude.{IfErr, IfOk, MatchResult, OnErr, OnOk, cond, is_none, ◌+◌}
use Rattle.block_spec.specs.Bodies.{seal_fault, sealed}
use Rattle.block_spec.specs.declared.phase.SealFault.{SealFault}
use Rattle.core_parts.proofs.Telling.{body_is}
use Rattle.event_spec.specs.declared.event.Event.TheVariants as event
use Rattle.event_spec.specs.declared.reply.Reply.TheVariants as reply
use Rattle.event_spec.specs.Parts.{body_at, nothing}
use Rattle.core_parts.proofs.Changing.{after_nothing}
use Rattle.event_spec.specs.Replies.{reply_to_seal}
use Rattle.std.proofs.Common.{◌≡◌, ℕ, ◌==◌, None, Some, Result, Ok, Err, length, sym, ap, ◌∙◌}
use Rattle.block_spec.specs.Bodies.{Body}
use Rattle.core_parts.proofs.Changing.{body_change, body_only, desk_change, desk_only, laid_back_changed, put_back}
use Rattle.core_parts.proofs.Placing.{length-laid}
use Rattle.core_parts.proofs.Telling.{from_one, head_is, room}
use Rattle.core_parts.specs.Hands.{Held, Makes, MayRun, after, in_hand, laid}
use Rattle.event_spec.specs.declared.part.Head.{Head}
use Rattle.event_spec.specs.declared.part.Part.TheVariants as part
use Rattle.event_spec.specs.Effects.{CoreEvent, changes_of}
use Rattle.event_spec.specs.Parts.{Name, HeadOf, BodyOf, TheDesk, Shape, is_head, names}
use Rattle.event_spec.specs.Replies.{CoreReply, reply_to}
use Rattle.txn_desk.specs.Desk.{DeskState}

module _ (sh : Shape) (e : CoreEvent) (hand : Held) (m : MayRun sh e hand) where
  -- a hand has a place for each part still when one was taken out
  pub room_taken : (w : Name) (taken : Held) → taken ≡ laid sh w None hand → length taken ≡ length (names sh)
  room_taken w taken out = ap length out ∙ length-laid (names sh) hand w None ∙ room sh e hand m

  -- an event that changes the desk alone is made by taking it out, changing it and laying it back
  pub one_desk : (taken new : Held) (x y : DeskState) (g : DeskState → DeskState) (said : CoreReply) → in_hand sh hand TheDesk ≡ Some (part.Desk x) → taken ≡ laid sh TheDesk None hand
      → new ≡ laid sh TheDesk (Some (part.Desk y)) taken → y ≡ g x → changes_of sh m.parts e ≡ desk_change g → said ≡ reply_to sh m.parts e → Makes sh e hand new said
  one_desk taken new x y g said is out back same all replied = from_one sh e hand new said m
      (laid_back_changed sh (desk_change g) hand taken new TheDesk (part.Desk x) (part.Desk (g x)) (desk_only g x) is out (back ∙ ap (λ z. laid sh TheDesk (Some (part.Desk z)) taken) same)
      ∙ ap (λ c. after sh c hand) (sym all)) replied

  -- an event that changes one body alone is made by taking it out, changing it and laying it back
  pub one_body : (t b : ℕ) (taken new : Held) (x y : Body) (g : Body → Body) (said : CoreReply) → in_hand sh hand (BodyOf t b) ≡ Some (part.Body x) → taken ≡ laid sh (BodyOf t b) None hand
      → new ≡ laid sh (BodyOf t b) (Some (part.Body y)) taken → y ≡ g x → changes_of sh m.parts e ≡ body_change t b g → said ≡ reply_to sh m.parts e → Makes sh e hand new said
  one_body t b taken new x y g said is out back same all replied = from_one sh e hand new said m
      (laid_back_changed sh (body_change t b g) hand taken new (BodyOf t b) (part.Body x) (part.Body (g x)) (body_only t b g x) is out (back ∙ ap (λ z. laid sh (BodyOf t b) (Some (part.Body z)) taken) same)
      ∙ ap (λ c. after sh c hand) (sym all)) replied

  -- a body that is laid back as it was
  pub body_back : (t b : ℕ) (taken new : Held) (x y : Body) → in_hand sh hand (BodyOf t b) ≡ Some (part.Body x) → taken ≡ laid sh (BodyOf t b) None hand
      → new ≡ laid sh (BodyOf t b) (Some (part.Body y)) taken → y ≡ x → new ≡ hand
  body_back t b taken new x y is out back same = put_back sh hand taken new (BodyOf t b) (part.Body x) is out (back ∙ ap (λ z. laid sh (BodyOf t b) (Some (part.Body z)) taken) same)

  -- whether a block is the head, as the head in the hand tells
  pub head_told : (t b : ℕ) (x : Head) → in_hand sh hand (HeadOf t) ≡ Some (part.Head x) → is_head sh m.parts t b ≡ (b == x.block)
  head_told t b x is = ap (λ (h : Head). b == h.block) (head_is sh hand m.parts m.agrees t x is)

-- what holds where there is an answer gives what is to hold of it
pub ok_then : {A E : Type 0} (r : Result A E) (P : Type 0) (Q : A → Type 0) → OnOk r P → ((a : A) → P → Q a) → IfOk r Q
ok_then (Ok a) P Q on then = then a on
ok_then (Err e) P Q on then = tt

-- what holds where there is an error is weakened
pub err_then : {A E : Type 0} (r : Result A E) (P Q : Type 0) → OnErr r P → (P → Q) → OnErr r Q
err_then (Ok a) P Q on then = tt
err_then (Err e) P Q on then = then on

-- ---- a seal

module _ (sh : Shape) (t b : ℕ) (hand taken new : Held) (m : MayRun sh (event.Seal t b) hand) (h : Head) (x y : Body)
    (head : in_hand sh hand (HeadOf t) ≡ Some (part.Head h)) (body : in_hand sh hand (BodyOf t b) ≡ Some (part.Body x))
    (out : taken ≡ laid sh (BodyOf t b) None hand) (back : new ≡ laid sh (BodyOf t b) (Some (part.Body y)) taken) where
  -- What is against the seal is told by the head and the body in the hand.
  fault_is : seal_fault (is_head sh m.parts t b) (body_at sh m.parts t b) ≡ seal_fault (b == h.block) x
  fault_is =
      ap (λ c. seal_fault c (body_at sh m.parts t b)) (head_told sh (event.Seal t b) hand m t b h head)
      ∙ ap (seal_fault (b == h.block)) (body_is sh hand m.parts m.agrees t b x body)

  -- a seal is made by its block's body, whether it is granted or not
  pub seal_makes : (r : Result ℕ SealFault) → OnOk r (y ≡ sealed x) → IfOk r (λ stamp. stamp ≡ x.last + 1) → OnOk r (seal_fault (b == h.block) x ≡ None)
      → IfErr r (λ fault. seal_fault (b == h.block) x ≡ Some fault) → OnErr r (y ≡ x)
      → MatchResult r (λ stamp. Makes sh (event.Seal t b) hand new (reply.Sealed stamp)) (λ fault. Makes sh (event.Seal t b) hand new (reply.NotSealed fault))
  seal_makes (Ok stamp) is told fine against same = one_body sh (event.Seal t b) hand m t b taken new x y sealed (reply.Sealed stamp) body out back is
      (ap (λ o. cond (is_none o) (body_change t b sealed) nothing) (fault_is ∙ fine))
      (ap reply.Sealed (told ∙ ap (λ (z : Body). z.last + 1) (sym (body_is sh hand m.parts m.agrees t b x body)))
      ∙ ap (λ o. reply_to_seal o (body_at sh m.parts t b).last) (sym (fault_is ∙ fine)))
  seal_makes (Err fault) is told fine against same = from_one sh (event.Seal t b) hand new (reply.NotSealed fault) m
      (body_back sh (event.Seal t b) hand m t b taken new x y body out back same ∙ sym (after_nothing sh hand)
      ∙ ap (λ o. after sh (cond (is_none o) (body_change t b sealed) nothing) hand) (sym (fault_is ∙ against)))
      (ap (λ o. reply_to_seal o (body_at sh m.parts t b).last) (sym (fault_is ∙ against)))
