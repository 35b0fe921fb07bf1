-- What a crash may leave of a disk's file, at a moment of the disk's clock and from one on.
use Rattle.std.specs.Prelude.{◌≡◌, ◌⊎◌, ℕ, ◌≤◌, List}
use Rattle.disk_ports.specs.FileSteps.{Tears}

-- a crash leaves just this file
abbrev pub LeavesJust : (List ℕ → Type 0) → List ℕ → Type 0
LeavesJust may_leave file = (c : List ℕ) → may_leave c → c ≡ file

-- a crash leaves nothing that it might not have left before
abbrev pub NoMore : (List ℕ → Type 0) → (List ℕ → Type 0) → Type 0
NoMore before now = (c : List ℕ) → now c → before c

-- what a crash may leave is what it might have left before, but for a range and what stands past
-- the end
abbrev pub Leaves : ℕ → ℕ → (List ℕ → Type 0) → (List ℕ → Type 0) → Type 0
Leaves at count before now = (c : List ℕ) → now c → (d : List ℕ) × before d × Tears at count d c

-- Time goes on: a crash since a moment may have left what it might have left before, or what it may
-- leave now.
pub record Elapses
    (before now : ℕ) (past since : ℕ → List ℕ → Type 0) (may_leave : List ℕ → Type 0) : Type 0
  where
    pub later : before ≤ now
    pub nothing_else : (t : ℕ) (c : List ℕ) → t ≤ before → since t c → past t c ⊎ may_leave c
    pub keeps : (t : ℕ) (c : List ℕ) → t ≤ before → past t c → since t c

-- A crash at any moment since an earlier state leaves a file that has P.
pub record LeavesOnly
    {D : Type 0} (moment : D → ℕ) (left_since : D → ℕ → List ℕ → Type 0) (old new : D)
    (P : List ℕ → Type 0) : Type 0
  where
    pub later : moment old ≤ moment new
    pub each : (c : List ℕ) → left_since new (moment old) c → P c
    -- for what began before that state
    pub before : (t : ℕ) (c : List ℕ) → t ≤ moment old → left_since new t c
        → left_since old t c ⊎ P c
