-- The words of parts: how they begin, that they have room, and what events make of them.
use Rattle.std.proofs.Common.{◌≡◌, ◌⊎◌, ℕ, zero, suc, ◌^◌, ◌<◌, false, List, [], ◌∷◌, map, Option, Some, length, refl, sym, ap, ◌∙◌, arith, subst}
use mathlib.Core.Logic.{inl, inr}
use Rattle.std.specs.Prelude.{slice_get}
use Rattle.core_laws.proofs.Events.Naming.{at_name, body_is_there, body_there}
use Rattle.core_laws.proofs.Frames.Distinct.{part_is}
use Rattle.core_laws.proofs.Frames.Looks.{got_among}
use Rattle.core_laws.proofs.Words.Bodies.{frozen_where, has_room, head_by, imaged_head, imaged_where}
use Rattle.core_laws.proofs.Words.Numbers.{name_at, number_at}
use Rattle.core_laws.proofs.Words.Turning.{body_still, body_turns}
use Rattle.core_laws.specs.Words.Laws.{TellsImage, ThawsItsBody, WordsHaveRoom, WordsOpen, WordsStay, WordsTellImages, WordsTurn}
use Rattle.core_laws.specs.Words.Words.{thawed_part, turns_words, word_of}
use Rattle.event_spec.specs.declared.event.Event.TheVariants as event
use Rattle.event_spec.specs.declared.part.Part.TheVariants as part
use Rattle.event_spec.specs.Effects.{CoreEvent, changes_of, effect}
use Rattle.event_spec.specs.Lawful.{HasBlock, IsLawful}
use Rattle.event_spec.specs.Parts.{Changes, CorePart, Name, HeadOf, ShardOf, BodyOf, TheDesk, Parts, Shape, body_at, body_from, changed, each_changed, names, part_at}
use Rattle.event_spec.specs.Replay.{opening_part}
use Rattle.event_spec.specs.Sound.{IsOfKind, IsShape, Sound}
use Rattle.hall_rule.specs.Heads.{Turns, head_of}

-- ---- the opening core

-- Each part's word is hot, without a stamp, whatever its name.
opening_hot : (sh : Shape) (n : Name) → head_of (word_of (opening_part sh n)) ≡ 0
opening_hot sh (HeadOf t) = refl
opening_hot sh (ShardOf t i) = refl
opening_hot sh (BodyOf t b) = refl
opening_hot sh TheDesk = refl

-- in the opening core each word is hot, without a stamp
pub words_open : WordsOpen
words_open sh k p is = go (names sh) k is
  where
    go : (ns : List Name) (k : ℕ) → slice_get (map (opening_part sh) ns) k ≡ Some p → head_of (word_of p) ≡ 0
    go [] k is = cc
    go (n ∷ ns) zero is = let same : opening_part sh n ≡ p = cc in ap (λ q. head_of (word_of q)) (sym same) ∙ opening_hot sh n
    go (n ∷ ns) (suc k) is = go ns k is

-- ---- a part by its number

-- A list as long as another has an element where the other has.
named : {X : Type 0} (xs : List X) (ns : List Name) (k : ℕ) (x : X) → length xs ≡ length ns → slice_get xs k ≡ Some x → (n : Name) × (slice_get ns k ≡ Some n)
named [] ns k x size is = cc
named (y ∷ xs) [] k x size is = absurd (omega (arith, size))
named (y ∷ xs) (n ∷ ns) zero x size is = (n, refl)
named (y ∷ xs) (n ∷ ns) (suc k) x size is = named xs ns k x (omega (arith, size)) is

-- The part of a number after changes.
changed_at : (c : Changes) (ns : List Name) (s : Parts) (k : ℕ) (n : Name) (p q : CorePart) → slice_get ns k ≡ Some n → slice_get s k ≡ Some p
    → slice_get (each_changed c ns s) k ≡ Some q → q ≡ changed c n p
changed_at c [] s k n p q name old new = cc
changed_at c (m ∷ ns) [] k n p q name old new = cc
changed_at c (m ∷ ns) (r ∷ s) zero n p q name old new =
    let same : m ≡ n = cc in let here : r ≡ p = cc in let is : changed c m r ≡ q = cc in
    sym is ∙ ap (λ m. changed c m r) same ∙ ap (changed c n) here
changed_at c (m ∷ ns) (r ∷ s) (suc k) n p q name old new = changed_at c ns s k n p q name old new

-- What is no body by its name has no word, and none after changes.
still : (c : Changes) (n : Name) (p : CorePart) → ((t b : ℕ) → n ≡ BodyOf t b → ⊥) → head_of (word_of (changed c n p)) ≡ head_of (word_of p)
still c (HeadOf t) (part.Head x) other = refl
still c (HeadOf t) (part.Shard x) other = refl
still c (HeadOf t) (part.Body x) other = refl
still c (HeadOf t) (part.Desk x) other = refl
still c (ShardOf t i) (part.Head x) other = refl
still c (ShardOf t i) (part.Shard x) other = refl
still c (ShardOf t i) (part.Body x) other = refl
still c (ShardOf t i) (part.Desk x) other = refl
still c (BodyOf t b) p other = absurd (other t b refl)
still c TheDesk (part.Head x) other = refl
still c TheDesk (part.Shard x) other = refl
still c TheDesk (part.Body x) other = refl
still c TheDesk (part.Desk x) other = refl

-- A name is that of a body, or not.
body_or : (n : Name) → ((t : ℕ) × (b : ℕ) × (n ≡ BodyOf t b)) ⊎ ((t b : ℕ) → n ≡ BodyOf t b → ⊥)
body_or (HeadOf t) = inr (λ u c e. cc)
body_or (ShardOf t i) = inr (λ u c e. cc)
body_or (BodyOf t b) = inl (t, b, refl)
body_or TheDesk = inr (λ u c e. cc)

-- The part that an event thaws is a body.
thaws_body : (sh : Shape) (e : CoreEvent) (k : ℕ) (n : Name) → slice_get (names sh) k ≡ Some n → thawed_part sh e ≡ Some k → (t : ℕ) × (b : ℕ) × (n ≡ BodyOf t b)
thaws_body sh (event.Begin q) k n at is = cc
thaws_body sh (event.Get own u key) k n at is = cc
thaws_body sh (event.Insert own u row) k n at is = cc
thaws_body sh (event.Update own u row) k n at is = cc
thaws_body sh (event.Delete own u key) k n at is = cc
thaws_body sh (event.Read own u y) k n at is = cc
thaws_body sh (event.Range own u low high) k n at is = cc
thaws_body sh (event.Commit own reads) k n at is = cc
thaws_body sh (event.Abort own) k n at is = cc
thaws_body sh event.Oldest k n at is = cc
thaws_body sh (event.Observe u y) k n at is = cc
thaws_body sh (event.Prune u y oldest) k n at is = cc
thaws_body sh (event.Look u y) k n at is = cc
thaws_body sh (event.Move u moves) k n at is = cc
thaws_body sh (event.Seal u y) k n at is = cc
thaws_body sh (event.Image u y image) k n at is = cc
thaws_body sh (event.Thaw u y) k n at is = (u, y, some_is (sym at ∙ name_at (names sh) (BodyOf u y) k is))
  where
    some_is : {m w : Name} → Some m ≡ Some w → m ≡ w
    some_is e = cc

-- ---- sound parts

module _ (sh : Shape) (s : Parts) (ok : Sound sh s) (k : ℕ) (p : CorePart) (old : slice_get s k ≡ Some p) where
  -- The name of the part.
  name : Name
  name = (named s (names sh) k p ok.count old).0

  -- The name stands where the part does.
  at : slice_get (names sh) k ≡ Some name
  unfolding name named
  at = (named s (names sh) k p ok.count old).1

  -- What is known of a part whose name is that of a body.
  record IsBody (t b : ℕ) : Type 0 where
    has : HasBlock sh t b
    at_number : slice_get (names sh) k ≡ Some (BodyOf t b)
    is : p ≡ part.Body (body_at sh s t b)

  -- The part of a body's name is the body.
  a_body : (t b : ℕ) → name ≡ BodyOf t b → IsBody t b
  a_body t b e =
      let here : slice_get (names sh) k ≡ Some (BodyOf t b) = at ∙ ap Some e in
      let there = part_is sh s k (BodyOf t b) p here old in
      let has = body_is_there sh s t b p there in
      let body = body_there sh s ok.kinds t b has in
      record {
        has = has;
        at_number = here;
        is = same (part_at sh s (BodyOf t b)) (part.Body body.0) there body.1 ∙ ap part.Body (sym (ap body_from body.1));
      }
    where
      same : (o : Option CorePart) (q : CorePart) → o ≡ Some p → o ≡ Some q → p ≡ q
      same o q one other = cc

  -- A part that is no body has no word.
  no_word : ((t b : ℕ) → name ≡ BodyOf t b → ⊥) → head_of (word_of p) ≡ 0
  no_word other = go name p other (subst (IsOfKind name) (part_is sh s k name p at old) (at_name sh s ok.kinds name (got_among (names sh) k name at)))
    where
      go : (n : Name) (q : CorePart) → ((t b : ℕ) → n ≡ BodyOf t b → ⊥) → IsOfKind n (Some q) → head_of (word_of q) ≡ 0
      go (HeadOf t) (part.Head x) other kind = refl
      go (HeadOf t) (part.Shard x) other kind = absurd kind
      go (HeadOf t) (part.Body x) other kind = absurd kind
      go (HeadOf t) (part.Desk x) other kind = absurd kind
      go (ShardOf t i) (part.Head x) other kind = absurd kind
      go (ShardOf t i) (part.Shard x) other kind = refl
      go (ShardOf t i) (part.Body x) other kind = absurd kind
      go (ShardOf t i) (part.Desk x) other kind = absurd kind
      go (BodyOf t b) q other kind = absurd (other t b refl)
      go TheDesk (part.Head x) other kind = absurd kind
      go TheDesk (part.Shard x) other kind = absurd kind
      go TheDesk (part.Body x) other kind = absurd kind
      go TheDesk (part.Desk x) other kind = refl

  -- the part's word has room for its stamp
  pub part_room : head_of (word_of p) < 2 ^ 32
  part_room = go (body_or name)
    where
      go : ((t : ℕ) × (b : ℕ) × (name ≡ BodyOf t b)) ⊎ ((t b : ℕ) → name ≡ BodyOf t b → ⊥) → head_of (word_of p) < 2 ^ 32
      go (inl body) =
          let x = a_body body.0 body.1 body.2 in
          subst (λ q. head_of (word_of q) < 2 ^ 32) (sym x.is) (has_room (body_at sh s body.0 body.1) (ok.bodies body.0 body.1 x.has).last)
      go (inr other) = let none = no_word other in omega (arith, none)

  -- the word of a body tells of its image
  pub tells_image : (t b : ℕ) → slice_get (names sh) k ≡ Some (BodyOf t b) → TellsImage sh s t b p
  tells_image t b here =
      let x = a_body t b (some_is (sym at ∙ here)) in
      let holds = ok.bodies t b x.has in
      subst (TellsImage sh s t b) (sym x.is) (record {
        frozen = (frozen_where (body_at sh s t b) holds.last, imaged_where (body_at sh s t b) holds.last);
        stamp = λ g is. imaged_head (body_at sh s t b) g is (holds.imaged g is);
      })
    where
      some_is : {n w : Name} → Some n ≡ Some w → n ≡ w
      some_is e = cc

  module _ (q : CorePart) (e : CoreEvent) (new : slice_get (effect sh s e) k ≡ Some q) where
    -- The part after the event is what the event's changes make of it.
    after : q ≡ changed (changes_of sh s e) name p
    after = changed_at (changes_of sh s e) (names sh) s k name p q at old new

    -- What an event makes of a body.
    body_after : (t b : ℕ) → name ≡ BodyOf t b → q ≡ part.Body ((changes_of sh s e).body t b (body_at sh s t b))
    body_after t b is = after ∙ ap (λ n. changed (changes_of sh s e) n p) is ∙ ap (changed (changes_of sh s e) (BodyOf t b)) (a_body t b is).is

    -- the event leaves the part's word, or turns it
    pub part_turns : IsShape sh → IsLawful sh e s → Turns (thawed_part sh e ≡ Some k) (head_of (word_of p)) (head_of (word_of q))
    part_turns shape lawful = go (body_or name)
      where
        go : ((t : ℕ) × (b : ℕ) × (name ≡ BodyOf t b)) ⊎ ((t b : ℕ) → name ≡ BodyOf t b → ⊥) → Turns (thawed_part sh e ≡ Some k) (head_of (word_of p)) (head_of (word_of q))
        go (inl body) =
            let x = a_body body.0 body.1 body.2 in
            subst (λ q. Turns (thawed_part sh e ≡ Some k) (head_of (word_of p)) (head_of (word_of q))) (sym (body_after body.0 body.1 body.2))
            (subst (λ p. Turns (thawed_part sh e ≡ Some k) (head_of (word_of p)) (head_by ((changes_of sh s e).body body.0 body.1 (body_at sh s body.0 body.1)))) (sym x.is)
            (body_turns sh s shape ok body.0 body.1 x.has k x.at_number e lawful))
        go (inr other) = inr (
          λ is. let body = thaws_body sh e k name at is in other body.0 body.1 body.2,
          inl (ap (λ q. head_of (word_of q)) after ∙ still (changes_of sh s e) name p other),
        )

    -- an event that turns no word leaves the part's
    pub part_stays : turns_words e ≡ false → head_of (word_of q) ≡ head_of (word_of p)
    part_stays calm = go (body_or name)
      where
        go : ((t : ℕ) × (b : ℕ) × (name ≡ BodyOf t b)) ⊎ ((t b : ℕ) → name ≡ BodyOf t b → ⊥) → head_of (word_of q) ≡ head_of (word_of p)
        go (inl body) =
            ap (λ q. head_of (word_of q)) (body_after body.0 body.1 body.2)
            ∙ body_still sh s body.0 body.1 (body_at sh s body.0 body.1) e calm
            ∙ sym (ap (λ p. head_of (word_of p)) (a_body body.0 body.1 body.2).is)
        go (inr other) = ap (λ q. head_of (word_of q)) after ∙ still (changes_of sh s e) name p other

-- ---- the laws

-- state and stamp of a sound part have their room in a word
pub words_have_room : WordsHaveRoom
words_have_room sh s k p ok old = part_room sh s ok k p old

-- a lawful event leaves the word of each part, or turns it
pub words_turn : WordsTurn
words_turn sh e s k p q shape ok lawful old new = part_turns sh s ok k p old q e new shape lawful

-- one that turns no word leaves it for every part
pub words_stay : WordsStay
words_stay sh e s k p q ok calm old new = part_stays sh s ok k p old q e new calm

-- the thaw of a block thaws the block's body
pub thaws_its_body : ThawsItsBody
thaws_its_body sh t b k at = number_at sh k (BodyOf t b) at

-- the word of a block's body tells of its image
pub words_tell_images : WordsTellImages
words_tell_images sh s t b k p ok here old = tells_image sh s ok k p old t b here
