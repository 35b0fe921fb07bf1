-- The parts after an event, name by name.
use Rattle.core_laws.proofs.Events.ByKind.{twice_at}
use Rattle.event_spec.specs.Parts.{CorePart, Parts, Shape, Name, HeadOf, ShardOf, BodyOf, TheDesk, same_name, names, part_named, Changes, changed, each_changed, shard_from, body_from, desk_from, slot_at, places_at, desk_at, body_at, shard_of}
use Rattle.core_laws.specs.Events.Named.{KindIf, shard_at}
use Rattle.std.proofs.Common.{◌≡◌, ◌⊎◌, ℕ, zero, suc, ◌<◌, ℤ, Bool, true, false, cond, ◌==◌, List, [], ◌∷◌, Option, None, Some, option_map, length, map, get_or, refl, sym, ap, ◌∙◌, arith, subst}
use mathlib.Core.Logic.{inl, inr}
use Rattle.std.proofs.lemmas.Bool.Decides.{nat_tests}
use Rattle.std.proofs.lemmas.Bool.{and_parts}
use Rattle.block_layout.specs.Place.{block_of, slot_of}
use Rattle.isolation_spec.specs.Machine.{IsolationMachine}
use Rattle.key_index.specs.Candidates.{Places, candidates_of}
use Rattle.txn_desk.specs.Desk.{DeskState}
use Rattle.block_spec.specs.Slots.{Slot, bare}
use Rattle.block_spec.specs.Bodies.{Body, slot_in}
use Rattle.event_spec.specs.declared.part.Head.{Head}
use Rattle.event_spec.specs.Follows.{Follows}
use Rattle.event_spec.specs.declared.part.Part.TheVariants as part

-- Numbers that are tested to be equal are.
num : (a b : ℕ) → (a == b) ≡ true → a ≡ b
num a b e = grind (arith, nat_tests)

-- names that are tested to be one are one
pub name_is : (n w : Name) → same_name n w ≡ true → n ≡ w
name_is (HeadOf t) (HeadOf u) e = ap HeadOf (num t u e)
name_is (HeadOf t) (ShardOf u j) e = cc
name_is (HeadOf t) (BodyOf u c) e = cc
name_is (HeadOf t) TheDesk e = cc
name_is (ShardOf t i) (HeadOf u) e = cc
name_is (ShardOf t i) (ShardOf u j) e = let p = and_parts (t == u) (i == j) e in ap (λ t. ShardOf t i) (num t u p.0) ∙ ap (ShardOf u) (num i j p.1)
name_is (ShardOf t i) (BodyOf u c) e = cc
name_is (ShardOf t i) TheDesk e = cc
name_is (BodyOf t b) (HeadOf u) e = cc
name_is (BodyOf t b) (ShardOf u j) e = cc
name_is (BodyOf t b) (BodyOf u c) e = let p = and_parts (t == u) (b == c) e in ap (λ t. BodyOf t b) (num t u p.0) ∙ ap (BodyOf u) (num b c p.1)
name_is (BodyOf t b) TheDesk e = cc
name_is TheDesk (HeadOf u) e = cc
name_is TheDesk (ShardOf u j) e = cc
name_is TheDesk (BodyOf u c) e = cc
name_is TheDesk TheDesk e = refl

-- the piece of a name after changes
pub named_changed : (c : Changes) (ns : List Name) (s : Parts) (w : Name) → part_named ns (each_changed c ns s) w ≡ option_map (changed c w) (part_named ns s w)
named_changed c [] s w = refl
named_changed c (n ∷ ns) [] w = refl
named_changed c (n ∷ ns) (piece ∷ s) w = go (same_name n w) refl (named_changed c ns s w)
  where
    go : (b : Bool) → same_name n w ≡ b → part_named ns (each_changed c ns s) w ≡ option_map (changed c w) (part_named ns s w)
        → cond (same_name n w) (Some (changed c n piece)) (part_named ns (each_changed c ns s) w) ≡ option_map (changed c w) (cond (same_name n w) (Some piece) (part_named ns s w))
    go true e rest =
        ap (λ b. cond b (Some (changed c n piece)) (part_named ns (each_changed c ns s) w)) e
        ∙ ap (λ x. Some (changed c x piece)) (name_is n w e)
        ∙ ap (λ b. option_map (changed c w) (cond b (Some piece) (part_named ns s w))) (sym e)
    go false e rest =
        ap (λ b. cond b (Some (changed c n piece)) (part_named ns (each_changed c ns s) w)) e
        ∙ rest
        ∙ ap (λ b. option_map (changed c w) (cond b (Some piece) (part_named ns s w))) (sym e)

-- one change after another, as one change
pub record IsTwice (c d e : Changes) : Type 0 where
  pub head : (t : ℕ) (x : Head) → e.head t x ≡ d.head t (c.head t x)
  pub shard : (t i : ℕ) (x : Places) → e.shard t i x ≡ d.shard t i (c.shard t i x)
  pub body : (t b : ℕ) (x : Body) → e.body t b x ≡ d.body t b (c.body t b x)
  pub desk : (x : DeskState) → e.desk x ≡ d.desk (c.desk x)

-- one change after another, at one part
pub changed_twice : (c d e : Changes) → IsTwice c d e → (n : Name) (piece : CorePart) → changed e n piece ≡ changed d n (changed c n piece)
changed_twice c d e is n piece = sym (twice_at (λ n x. Unit {0}) c d e
    (record { head = λ t x h. sym (is.head t x); shard = λ t i x h. sym (is.shard t i x); body = λ t b x h. sym (is.body t b x); desk = λ x h. sym (is.desk x) }) n piece tt)

-- and at all parts
pub each_twice : (c d e : Changes) → IsTwice c d e → (ns : List Name) (s : Parts) → each_changed e ns s ≡ each_changed d ns (each_changed c ns s)
each_twice c d e is [] s = refl
each_twice c d e is (n ∷ ns) [] = refl
each_twice c d e is (n ∷ ns) (piece ∷ s) =
    ap (λ x. x ∷ each_changed e ns s) (changed_twice c d e is n piece)
    ∙ ap (λ xs. changed d n (changed c n piece) ∷ xs) (each_twice c d e is ns s)

-- changes keep how many parts there are
pub length-changed : (c : Changes) (ns : List Name) (s : Parts) → length (each_changed c ns s) ≡ length s
length-changed c [] s = refl
length-changed c (n ∷ ns) [] = refl
length-changed c (n ∷ ns) (piece ∷ s) = ap suc (length-changed c ns s)

-- and what kind each is
pub kind_changed : (c : Changes) (name : Name) (o : Option CorePart) → KindIf name o → KindIf name (option_map (changed c name) o)
kind_changed c name None k = tt
kind_changed c (HeadOf t) (Some (part.Head x)) k = tt
kind_changed c (HeadOf t) (Some (part.Shard x)) k = absurd k
kind_changed c (HeadOf t) (Some (part.Body x)) k = absurd k
kind_changed c (HeadOf t) (Some (part.Desk x)) k = absurd k
kind_changed c (ShardOf t i) (Some (part.Head x)) k = absurd k
kind_changed c (ShardOf t i) (Some (part.Shard x)) k = tt
kind_changed c (ShardOf t i) (Some (part.Body x)) k = absurd k
kind_changed c (ShardOf t i) (Some (part.Desk x)) k = absurd k
kind_changed c (BodyOf t b) (Some (part.Head x)) k = absurd k
kind_changed c (BodyOf t b) (Some (part.Shard x)) k = absurd k
kind_changed c (BodyOf t b) (Some (part.Body x)) k = tt
kind_changed c (BodyOf t b) (Some (part.Desk x)) k = absurd k
kind_changed c TheDesk (Some (part.Head x)) k = absurd k
kind_changed c TheDesk (Some (part.Shard x)) k = absurd k
kind_changed c TheDesk (Some (part.Body x)) k = absurd k
kind_changed c TheDesk (Some (part.Desk x)) k = tt

module _ (sh : Shape) (s : Parts) (c : Changes) where
  -- the parts after the changes
  abbrev pub after : Parts
  after = each_changed c (names sh) s

  -- what stands at a name is still of its kind
  pub kinds_after : ((name : Name) → KindIf name (part_named (names sh) s name)) → (name : Name) → KindIf name (part_named (names sh) after name)
  kinds_after kinds name = subst (KindIf name) (sym (named_changed c (names sh) s name)) (kind_changed c name (part_named (names sh) s name) (kinds name))

  -- the desk is still there, changed
  pub desk_after : (desk : DeskState) → part_named (names sh) s TheDesk ≡ Some (part.Desk desk) → part_named (names sh) after TheDesk ≡ Some (part.Desk (c.desk desk))
  desk_after desk is = named_changed c (names sh) s TheDesk ∙ ap (option_map (changed c TheDesk)) is

  -- each shard is still there
  pub shards_after : ((t i : ℕ) → t < length sh.tables → i < 8 → (places : Places) × (part_named (names sh) s (ShardOf t i) ≡ Some (part.Shard places)))
      → (t i : ℕ) → t < length sh.tables → i < 8 → (places : Places) × (part_named (names sh) after (ShardOf t i) ≡ Some (part.Shard places))
  shards_after shards t i a b = let old = shards t i a b in (c.shard t i old.0, named_changed c (names sh) s (ShardOf t i) ∙ ap (option_map (changed c (ShardOf t i))) old.1)

  -- the desk after the changes is the changed one
  pub desk_at_after : (desk : DeskState) → part_named (names sh) s TheDesk ≡ Some (part.Desk desk) → desk_at sh after ≡ c.desk (desk_at sh s)
  desk_at_after desk is = ap desk_from (desk_after desk is) ∙ ap (λ o. c.desk (desk_from o)) (sym is)

  -- a body that is there, and one that isn't
  pub body_cases : (t b : ℕ) → KindIf (BodyOf t b) (part_named (names sh) s (BodyOf t b))
      → ((body_at sh after t b ≡ c.body t b (body_at sh s t b)) ⊎ ((body_at sh after t b ≡ body_from None) × (body_at sh s t b ≡ body_from None)))
  body_cases t b kind = go (part_named (names sh) s (BodyOf t b)) refl kind
    where
      go : (o : Option CorePart) → part_named (names sh) s (BodyOf t b) ≡ o → KindIf (BodyOf t b) o
          → ((body_at sh after t b ≡ c.body t b (body_at sh s t b)) ⊎ ((body_at sh after t b ≡ body_from None) × (body_at sh s t b ≡ body_from None)))
      go None is k = inr (ap body_from (named_changed c (names sh) s (BodyOf t b) ∙ ap (option_map (changed c (BodyOf t b))) is), ap body_from is)
      go (Some (part.Head x)) is k = absurd k
      go (Some (part.Shard x)) is k = absurd k
      go (Some (part.Body x)) is k = inl (ap body_from (named_changed c (names sh) s (BodyOf t b) ∙ ap (option_map (changed c (BodyOf t b))) is) ∙ ap (λ o. c.body t b (body_from o)) (sym is))
      go (Some (part.Desk x)) is k = absurd k

  -- a slot after the change of its body
  pub slot_after : (g : Slot → Slot) → g bare ≡ bare → (t p : ℕ) → KindIf (BodyOf t (block_of p)) (part_named (names sh) s (BodyOf t (block_of p)))
      → slot_in (c.body t (block_of p) (body_at sh s t (block_of p))) (slot_of p) ≡ g (slot_at sh s t p) → slot_at sh after t p ≡ g (slot_at sh s t p)
  slot_after g rests t p kind is = go (body_cases t (block_of p) kind)
    where
      go : ((body_at sh after t (block_of p) ≡ c.body t (block_of p) (body_at sh s t (block_of p))) ⊎ ((body_at sh after t (block_of p) ≡ body_from None) × (body_at sh s t (block_of p) ≡ body_from None)))
          → slot_at sh after t p ≡ g (slot_at sh s t p)
      go (inl e) = ap (λ body. slot_in body (slot_of p)) e ∙ is
      go (inr e) = ap (λ body. slot_in body (slot_of p)) e.0 ∙ sym rests ∙ ap (λ body. g (slot_in body (slot_of p))) (sym e.1)

  -- where no shard is changed, the candidates stay
  pub places_stay : ((t i : ℕ) (places : Places) → c.shard t i places ≡ places) → (t : ℕ) (key : ℤ) → KindIf (ShardOf t (shard_of key)) (part_named (names sh) s (ShardOf t (shard_of key)))
      → places_at sh after t key ≡ places_at sh s t key
  places_stay same t key kind = ap (λ places. candidates_of places key) (go (part_named (names sh) s (ShardOf t (shard_of key))) refl kind)
    where
      go : (o : Option CorePart) → part_named (names sh) s (ShardOf t (shard_of key)) ≡ o → KindIf (ShardOf t (shard_of key)) o → shard_at sh after t (shard_of key) ≡ shard_at sh s t (shard_of key)
      go None is k = ap shard_from (named_changed c (names sh) s (ShardOf t (shard_of key)) ∙ ap (option_map (changed c (ShardOf t (shard_of key)))) is) ∙ ap shard_from (sym is)
      go (Some (part.Head x)) is k = absurd k
      go (Some (part.Shard x)) is k =
          ap shard_from (named_changed c (names sh) s (ShardOf t (shard_of key)) ∙ ap (option_map (changed c (ShardOf t (shard_of key)))) is) ∙ same t (shard_of key) x ∙ ap shard_from (sym is)
      go (Some (part.Body x)) is k = absurd k
      go (Some (part.Desk x)) is k = absurd k

-- what follows the machine by these slots, places and desk does so by equal ones
pub carried : {slot slot' : ℕ → ℕ → Slot} {places places' : ℕ → ℤ → List ℕ} {desk desk' : DeskState} (m : IsolationMachine)
    → ((t p : ℕ) → slot' t p ≡ slot t p) → ((t : ℕ) (key : ℤ) → places' t key ≡ places t key) → desk' ≡ desk → Follows slot places desk m → Follows slot' places' desk' m
carried {slot} {slot'} {places} {places'} {desk} {desk'} m a b c f =
    let slots : slot ≡ slot' = λ i t p. sym (a t p) i in
    let all_places : places ≡ places' = λ i t key. sym (b t key) i in
    subst (λ x. Follows x places' desk' m) slots (subst (λ x. Follows slot x desk' m) all_places (subst (λ x. Follows slot places x m) (sym c) f))

-- a slot among those changed alike
pub slot_map : (g : Slot → Slot) → g bare ≡ bare → (slots : List Slot) (j : ℕ) → get_or (map g slots) j bare ≡ g (get_or slots j bare)
slot_map g rests [] j = sym rests
slot_map g rests (x ∷ slots) zero = refl
slot_map g rests (x ∷ slots) (suc j) = slot_map g rests slots j
