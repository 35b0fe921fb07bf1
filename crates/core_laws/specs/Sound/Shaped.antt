-- What holds of parts whatever they follow: the invariant without the machine.
use Rattle.std.specs.Prelude.{◌≡◌, ℕ, All, length}
use Rattle.event_spec.specs.Lawful.{HasTable, HasBlock}
use Rattle.event_spec.specs.Parts.{Parts, Shape, names, part_at, body_at, desk_at}
use Rattle.event_spec.specs.Sound.{IsOfKind, HeadHolds, BodyHolds, IsNoHead}

pub record Shaped (shape : Shape) (parts : Parts) : Type 0 where
  pub count : length parts ≡ length (names shape)
  pub kinds : All (λ name. IsOfKind name (part_at shape parts name)) (names shape)
  pub heads : (table : ℕ) → HasTable shape table → HeadHolds shape parts table
  pub bodies : (table block : ℕ) → HasBlock shape table block
      → BodyHolds shape table (body_at shape parts table block)
  pub no_head : (table block : ℕ) → HasBlock shape table block → IsNoHead shape parts table block
  pub sessions : length (desk_at shape parts).open_snapshots ≡ shape.passes
