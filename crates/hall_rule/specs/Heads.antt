-- The head of a block's word: its state, from 0 to 3, and its 30 bits of stamp, as one number. The
-- word's 32 bits below are its readers.
use Rattle.std.specs.Prelude.{◌≡◌, ◌⊎◌, ℕ, ◌+◌, ◌*◌, ◌/◌, ◌%◌, ◌^◌, ◌<◌, ◌≤◌, Option, None, Some}
use Rattle.hall_rule.specs.declared.head.Head.{Head}

abbrev pub head_in : ℕ → ℕ
head_in n = n / 2 ^ 32

abbrev pub readers_in : ℕ → ℕ
readers_in n = n % 2 ^ 32

-- The head of a state and a stamp. That of a part that is no block is 0, as of one that is hot and
-- was never sealed.
abbrev pub head_of : Option Head → ℕ
head_of None = 0
head_of (Some head) = head.state * 2 ^ 30 + head.stamp

abbrev pub IsHot : ℕ → Type 0
IsHot h = h < 2 ^ 30

abbrev pub IsCooling : ℕ → Type 0
IsCooling h = (2 ^ 30 ≤ h) × (h < 2 * 2 ^ 30)

abbrev pub IsFreezing : ℕ → Type 0
IsFreezing h = (2 * 2 ^ 30 ≤ h) × (h < 3 * 2 ^ 30)

abbrev pub IsFrozen : ℕ → Type 0
IsFrozen h = (3 * 2 ^ 30 ≤ h) × (h < 2 ^ 32)

-- Hot to cooling, cooling to hot, cooling to freezing with the next stamp, freezing to frozen.
abbrev pub TurnsOn : ℕ → ℕ → Type 0
TurnsOn h i =
    (IsHot h × (i ≡ h + 2 ^ 30))
    ⊎ (IsCooling h × (i + 2 ^ 30 ≡ h))
    ⊎ (IsCooling h × (i ≡ h + 2 ^ 30 + 1) × IsFreezing i)
    ⊎ (IsFreezing h × (i ≡ h + 2 ^ 30))

-- What an event makes of a head: it leaves it or turns it on; where it thaws the block, and only
-- there, it makes a frozen head hot.
abbrev pub Turns : Type 0 → ℕ → ℕ → Type 0
Turns Thaws h i =
    (Thaws × IsFrozen h × (i + 3 * 2 ^ 30 ≡ h))
    ⊎ ((Thaws → ⊥) × ((i ≡ h) ⊎ TurnsOn h i))

-- What the holder of a part makes of its word's head, so that it follows the part: nothing, a turn,
-- or frozen again with the same stamp, where a thaw was refused memory.
abbrev pub MayTurn : ℕ → ℕ → Type 0
MayTurn h i = (i ≡ h) ⊎ TurnsOn h i ⊎ (IsHot h × (i ≡ h + 3 * 2 ^ 30))
