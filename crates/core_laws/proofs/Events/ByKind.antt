-- What changes do to a part, by its kind.
use Rattle.std.proofs.Common.{◌≡◌, ℕ, refl, sym, ap, ◌∙◌}
use Rattle.block_spec.specs.Bodies.{Body}
use Rattle.event_spec.specs.declared.part.Head.{Head}
use Rattle.event_spec.specs.declared.part.Part.TheVariants as part
use Rattle.event_spec.specs.Parts.{Changes, CorePart, Name, HeadOf, ShardOf, BodyOf, TheDesk, changed, nothing}
use Rattle.key_index.specs.Candidates.{Places}
use Rattle.txn_desk.specs.Desk.{DeskState}

-- A change of nothing leaves each part as it is.
pub nothing_changes : (n : Name) (x : CorePart) → changed nothing n x ≡ x
nothing_changes (HeadOf t) (part.Head x) = refl
nothing_changes (HeadOf t) (part.Shard x) = refl
nothing_changes (HeadOf t) (part.Body x) = refl
nothing_changes (HeadOf t) (part.Desk x) = refl
nothing_changes (ShardOf t i) (part.Head x) = refl
nothing_changes (ShardOf t i) (part.Shard x) = refl
nothing_changes (ShardOf t i) (part.Body x) = refl
nothing_changes (ShardOf t i) (part.Desk x) = refl
nothing_changes (BodyOf t b) (part.Head x) = refl
nothing_changes (BodyOf t b) (part.Shard x) = refl
nothing_changes (BodyOf t b) (part.Body x) = refl
nothing_changes (BodyOf t b) (part.Desk x) = refl
nothing_changes TheDesk (part.Head x) = refl
nothing_changes TheDesk (part.Shard x) = refl
nothing_changes TheDesk (part.Body x) = refl
nothing_changes TheDesk (part.Desk x) = refl

-- Two changes do the same to each part that is there.
pub record SameAt (there : Name → CorePart → Type 0) (c d : Changes) : Type 0 where
  pub head : (t : ℕ) (x : Head) → there (HeadOf t) (part.Head x) → c.head t x ≡ d.head t x
  pub shard : (t i : ℕ) (x : Places) → there (ShardOf t i) (part.Shard x) → c.shard t i x ≡ d.shard t i x
  pub body : (t b : ℕ) (x : Body) → there (BodyOf t b) (part.Body x) → c.body t b x ≡ d.body t b x
  pub desk : (x : DeskState) → there TheDesk (part.Desk x) → c.desk x ≡ d.desk x

-- The changes c, and then d.
abbrev pub in_turn : Changes → Changes → Changes
in_turn c d = record {
  head = λ t x. d.head t (c.head t x);
  shard = λ t i x. d.shard t i (c.shard t i x);
  body = λ t b x. d.body t b (c.body t b x);
  desk = λ x. d.desk (c.desk x);
}

-- What two changes in turn, and one change, do to a part, by its kind.
pub twice_at : (there : Name → CorePart → Type 0) (c d e : Changes) → SameAt there (in_turn c d) e → (n : Name) (x : CorePart) → there n x → changed d n (changed c n x) ≡ changed e n x
twice_at there c d e same (HeadOf t) (part.Head x) h = ap part.Head (same.head t x h)
twice_at there c d e same (HeadOf t) (part.Shard x) h = refl
twice_at there c d e same (HeadOf t) (part.Body x) h = refl
twice_at there c d e same (HeadOf t) (part.Desk x) h = refl
twice_at there c d e same (ShardOf t i) (part.Head x) h = refl
twice_at there c d e same (ShardOf t i) (part.Shard x) h = ap part.Shard (same.shard t i x h)
twice_at there c d e same (ShardOf t i) (part.Body x) h = refl
twice_at there c d e same (ShardOf t i) (part.Desk x) h = refl
twice_at there c d e same (BodyOf t b) (part.Head x) h = refl
twice_at there c d e same (BodyOf t b) (part.Shard x) h = refl
twice_at there c d e same (BodyOf t b) (part.Body x) h = ap part.Body (same.body t b x h)
twice_at there c d e same (BodyOf t b) (part.Desk x) h = refl
twice_at there c d e same TheDesk (part.Head x) h = refl
twice_at there c d e same TheDesk (part.Shard x) h = refl
twice_at there c d e same TheDesk (part.Body x) h = refl
twice_at there c d e same TheDesk (part.Desk x) h = ap part.Desk (same.desk x h)

-- The same, of one change and another.
pub same_at : (there : Name → CorePart → Type 0) (c d : Changes) → SameAt there c d → (n : Name) (x : CorePart) → there n x → changed c n x ≡ changed d n x
same_at there c d same n x h = ap (changed c n) (sym (nothing_changes n x)) ∙ twice_at there nothing c d same n x h

-- The same, of a change that does nothing.
pub rests_at : (there : Name → CorePart → Type 0) (c : Changes) → SameAt there c nothing → (n : Name) (x : CorePart) → there n x → changed c n x ≡ x
rests_at there c same n x h = same_at there c nothing same n x h ∙ nothing_changes n x
