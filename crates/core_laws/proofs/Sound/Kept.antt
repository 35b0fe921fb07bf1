-- Parts that keep their invariant, from what becomes of each head and body.
use Rattle.std.proofs.Common.{◌≡◌, ◌≢◌, ℕ, ◌≤◌, Bool, true, false, cond, not, ◌&&◌, ◌==◌, List, [], ◌∷◌, Option, None, Some, option_map, length, refl, sym, ap, ◌∙◌, subst, arith}
use mathlib.Core.Logic.{inl, inr}
use Rattle.std.specs.Prelude.{filter}
use Rattle.block_spec.specs.Bodies.{Body, is_empty, is_loose, slot_in}
use Rattle.block_spec.specs.Slots.{is_bare}
use Rattle.core_laws.proofs.Events.Lists.{all_by, member_below}
use Rattle.core_laws.proofs.Events.Naming.{at_name, head_there, body_there, desk_there}
use Rattle.core_laws.proofs.Events.States.{named_changed, length-changed, desk_at_after}
use Rattle.event_spec.specs.declared.part.Head.{Head}
use Rattle.event_spec.specs.declared.part.Part.TheVariants as part
use Rattle.event_spec.specs.Lawful.{Among, HasTable, HasBlock}
use Rattle.event_spec.specs.Parts.{CorePart, Parts, Shape, Changes, Name, HeadOf, ShardOf, BodyOf, TheDesk, names, changed, each_changed, part_at, head_from, body_from, head_at, body_at, desk_at, blocks_of, slots_of, below}
use Rattle.event_spec.specs.Sound.{IsOfKind, HeadHolds, BodyHolds}
use Rattle.core_laws.specs.Sound.Shaped.{Shaped}
use Rattle.txn_desk.specs.Desk.{DeskState}

-- two tests that agree on a list leave the same of it
pub filter_same : (p q : ℕ → Bool) (xs : List ℕ) → ((x : ℕ) → Among x xs → p x ≡ q x) → filter p xs ≡ filter q xs
filter_same p q [] same = refl
filter_same p q (x ∷ xs) same =
    ap (λ b. cond b (x ∷ filter p xs) (filter p xs)) (same x (inl refl))
    ∙ ap (λ ys. cond (q x) (x ∷ ys) ys) (filter_same p q xs (λ y a. same y (inr a)))

-- A part is of its name's kind after the changes.
kind_after : (c : Changes) (name : Name) (o : Option CorePart) → IsOfKind name o → IsOfKind name (option_map (changed c name) o)
kind_after c (HeadOf t) None k = absurd k
kind_after c (HeadOf t) (Some (part.Head x)) k = tt
kind_after c (HeadOf t) (Some (part.Shard x)) k = absurd k
kind_after c (HeadOf t) (Some (part.Body x)) k = absurd k
kind_after c (HeadOf t) (Some (part.Desk x)) k = absurd k
kind_after c (ShardOf t i) None k = absurd k
kind_after c (ShardOf t i) (Some (part.Head x)) k = absurd k
kind_after c (ShardOf t i) (Some (part.Shard x)) k = tt
kind_after c (ShardOf t i) (Some (part.Body x)) k = absurd k
kind_after c (ShardOf t i) (Some (part.Desk x)) k = absurd k
kind_after c (BodyOf t b) None k = absurd k
kind_after c (BodyOf t b) (Some (part.Head x)) k = absurd k
kind_after c (BodyOf t b) (Some (part.Shard x)) k = absurd k
kind_after c (BodyOf t b) (Some (part.Body x)) k = tt
kind_after c (BodyOf t b) (Some (part.Desk x)) k = absurd k
kind_after c TheDesk None k = absurd k
kind_after c TheDesk (Some (part.Head x)) k = absurd k
kind_after c TheDesk (Some (part.Shard x)) k = absurd k
kind_after c TheDesk (Some (part.Body x)) k = absurd k
kind_after c TheDesk (Some (part.Desk x)) k = tt

-- a number below a table's blocks is one of its blocks
pub in_block : (sh : Shape) (t b : ℕ) → HasTable sh t → Among b (below (blocks_of sh t)) → HasBlock sh t b
in_block sh t b has a = (has, let r = member_below 0 (blocks_of sh t) b a in omega (arith, r))

module _ (sh : Shape) (s : Parts) (ok : Shaped sh s) (c : Changes) where
  -- the parts after the changes
  abbrev pub after : Parts
  after = each_changed c (names sh) s

  -- a body after the changes is what its change makes of it
  pub body_after : (t b : ℕ) → HasBlock sh t b → body_at sh after t b ≡ c.body t b (body_at sh s t b)
  body_after t b has =
      let there = body_there sh s ok.kinds t b has in
      ap body_from (named_changed c (names sh) s (BodyOf t b) ∙ ap (option_map (changed c (BodyOf t b))) there.1)
      ∙ ap (λ o. c.body t b (body_from o)) (sym there.1)

  -- a head after the changes is what its change makes of it
  pub head_after : (t : ℕ) → HasTable sh t → head_at sh after t ≡ c.head t (head_at sh s t)
  head_after t has =
      let there = head_there sh s ok.kinds t has in
      ap head_from (named_changed c (names sh) s (HeadOf t) ∙ ap (option_map (changed c (HeadOf t))) there.1)
      ∙ ap (λ o. c.head t (head_from o)) (sym there.1)

  -- what a head is after the changes
  pub record HeadAfter (t : ℕ) (h : Head) : Type 0 where
    pub block : HasBlock sh t h.block
    pub taken : h.taken ≤ slots_of sh t
    pub unused : (j : ℕ) → h.taken ≤ j → is_bare (slot_in (c.body t h.block (body_at sh s t h.block)) j) ≡ true
    pub loose : is_loose (c.body t h.block (body_at sh s t h.block)).phase ≡ true
    pub anew : is_empty (c.body t h.block (body_at sh s t h.block)) ≡ true → h.taken ≡ 0
    pub empty : h.empty ≡ filter (λ b. is_empty (c.body t b (body_at sh s t b)) && not (b == h.block)) (below (blocks_of sh t))

  -- What holds of a head after the changes is what is asked of heads in the parts.
  head_holds : (t : ℕ) → HasTable sh t → (h : Head) → head_at sh after t ≡ h → HeadAfter t h → HeadHolds sh after t
  head_holds t has h is new = record {
    block = subst (λ (h : Head). HasBlock sh t h.block) (sym is) new.block;
    taken = subst (λ (h : Head). h.taken ≤ slots_of sh t) (sym is) new.taken;
    unused = subst (λ (h : Head). (j : ℕ) → h.taken ≤ j → is_bare (slot_in (body_at sh after t h.block) j) ≡ true) (sym is)
        (λ j le. ap (λ x. is_bare (slot_in x j)) (body_after t h.block new.block) ∙ new.unused j le);
    loose = subst (λ (h : Head). is_loose (body_at sh after t h.block).phase ≡ true) (sym is)
        (ap (λ (x : Body). is_loose x.phase) (body_after t h.block new.block) ∙ new.loose);
    anew = subst (λ (h : Head). is_empty (body_at sh after t h.block) ≡ true → h.taken ≡ 0) (sym is)
        (λ e. new.anew (sym (ap is_empty (body_after t h.block new.block)) ∙ e));
    empty = subst (λ (h : Head). h.empty ≡ filter (λ b. is_empty (body_at sh after t b) && not (b == h.block)) (below (blocks_of sh t))) (sym is)
        (new.empty ∙ filter_same (λ b. is_empty (c.body t b (body_at sh s t b)) && not (b == h.block)) (λ b. is_empty (body_at sh after t b) && not (b == h.block)) (below (blocks_of sh t))
        (λ b a. ap (λ x. is_empty x && not (b == h.block)) (sym (body_after t b (in_block sh t b has a)))));
  }

  -- a block that is cooling or not loose after them is not the head then
  pub record NoHeadAfter (t b : ℕ) : Type 0 where
    pub cooling : (c.body t b (body_at sh s t b)).cooling ≡ true → b ≢ (c.head t (head_at sh s t)).block
    pub phase : is_loose (c.body t b (body_at sh s t b)).phase ≡ false → b ≢ (c.head t (head_at sh s t)).block

  -- parts whose heads and bodies hold after the changes, one by one, are as they should be
  pub keeps_shape : ((t : ℕ) → HasTable sh t → HeadAfter t (c.head t (head_at sh s t)))
      → ((t b : ℕ) → HasBlock sh t b → BodyHolds sh t (c.body t b (body_at sh s t b)))
      → ((t b : ℕ) → HasBlock sh t b → NoHeadAfter t b)
      → ((desk : DeskState) → length (c.desk desk).open_snapshots ≡ length desk.open_snapshots)
      → Shaped sh (each_changed c (names sh) s)
  keeps_shape heads bodies no_head desk = record {
    count = length-changed c (names sh) s ∙ ok.count;
    kinds = all_by (λ name. IsOfKind name (part_at sh after name)) (names sh) (λ name a.
        subst (IsOfKind name) (sym (named_changed c (names sh) s name)) (kind_after c name (part_at sh s name) (at_name sh s ok.kinds name a)));
    heads = λ t has. head_holds t has (c.head t (head_at sh s t)) (head_after t has) (heads t has);
    bodies = λ t b has. subst (BodyHolds sh t) (sym (body_after t b has)) (bodies t b has);
    no_head = λ t b has. record {
      cooling = λ is e. (no_head t b has).cooling (sym (ap (λ (x : Body). x.cooling) (body_after t b has)) ∙ is) (e ∙ ap (λ (h : Head). h.block) (head_after t has.0));
      phase = λ is e. (no_head t b has).phase (sym (ap (λ (x : Body). is_loose x.phase) (body_after t b has)) ∙ is) (e ∙ ap (λ (h : Head). h.block) (head_after t has.0));
    };
    sessions = ap (λ (d : DeskState). length d.open_snapshots) (desk_at_after sh s c (desk_there sh s ok.kinds).0 (desk_there sh s ok.kinds).1) ∙ desk (desk_at sh s) ∙ ok.sessions;
  }

  -- ---- where no head changes

  -- A body's change leaves the head: the block is as empty as it was, and as much the head's.
  pub record IsCalm (t b : ℕ) (y : Body) : Type 0 where
    pub holds : BodyHolds sh t y
    pub empty : is_empty y ≡ is_empty (body_at sh s t b)
    pub bare : b ≡ (head_at sh s t).block → (j : ℕ) → (head_at sh s t).taken ≤ j → is_bare (slot_in (body_at sh s t b) j) ≡ true → is_bare (slot_in y j) ≡ true
    pub loose : b ≡ (head_at sh s t).block → is_loose y.phase ≡ true
    pub cooling : y.cooling ≡ true → b ≢ (head_at sh s t).block
    pub phase : is_loose y.phase ≡ false → b ≢ (head_at sh s t).block

  -- where no body's change touches the heads, a head holds as before
  pub calm_head : (t : ℕ) → HasTable sh t → ((b : ℕ) → HasBlock sh t b → IsCalm t b (c.body t b (body_at sh s t b))) → HeadAfter t (head_at sh s t)
  calm_head t has calm = record {
    block = old.block;
    taken = old.taken;
    unused = λ j le. here.bare refl j le (old.unused j le);
    loose = here.loose refl;
    anew = λ e. old.anew (sym here.empty ∙ e);
    empty = old.empty ∙ filter_same (λ b. is_empty (body_at sh s t b) && not (b == (head_at sh s t).block)) (λ b. is_empty (c.body t b (body_at sh s t b)) && not (b == (head_at sh s t).block)) (below (blocks_of sh t))
        (λ b a. ap (λ e. e && not (b == (head_at sh s t).block)) (sym (calm b (in_block sh t b has a)).empty));
  }
    where
      old : HeadHolds sh s t
      old = ok.heads t has

      here : IsCalm t (head_at sh s t).block (c.body t (head_at sh s t).block (body_at sh s t (head_at sh s t).block))
      here = calm (head_at sh s t).block (ok.heads t has).block

  -- changes that leave the heads keep what holds of heads and bodies
  pub calm_keeps : ((t : ℕ) (h : Head) → c.head t h ≡ h) → ((t b : ℕ) → HasBlock sh t b → IsCalm t b (c.body t b (body_at sh s t b)))
      → ((desk : DeskState) → length (c.desk desk).open_snapshots ≡ length desk.open_snapshots)
      → Shaped sh (each_changed c (names sh) s)
  calm_keeps heads calm desk = keeps_shape
      (λ t has. subst (HeadAfter t) (sym (heads t (head_at sh s t))) (calm_head t has (λ b hb. calm t b hb)))
      (λ t b has. (calm t b has).holds)
      (λ t b has. record {
        cooling = λ is e. (calm t b has).cooling is (e ∙ ap (λ (h : Head). h.block) (heads t (head_at sh s t)));
        phase = λ is e. (calm t b has).phase is (e ∙ ap (λ (h : Head). h.block) (heads t (head_at sh s t)));
      })
      desk

  -- a body that stays is calm
  pub calm_same : (t b : ℕ) → HasBlock sh t b → IsCalm t b (body_at sh s t b)
  calm_same t b has = record {
    holds = ok.bodies t b has;
    empty = refl;
    bare = λ e j le is. is;
    loose = λ e. ap (λ b. is_loose (body_at sh s t b).phase) e ∙ (ok.heads t has.0).loose;
    cooling = (ok.no_head t b has).cooling;
    phase = (ok.no_head t b has).phase;
  }
