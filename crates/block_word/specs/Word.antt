-- The word of a block: state, stamp and readers in 64 bits, and which moves of it are lawful.
use Rattle.std.specs.Prelude.{◌≡◌, ℕ, zero, suc, ◌+◌, ◌*◌, ◌/◌, ◌%◌, ◌^◌, ◌<◌, ◌⊎◌, Option, Some}
use Rattle.std.specs.Prelude.{None, IsSomeAnd}
use Rattle.block_word.specs.declared.State.{State}
use Rattle.block_word.specs.declared.State.TheVariants.{Hot, Cooling, Freezing, Frozen}
use Rattle.block_word.specs.declared.Word.{Word}

-- the number of a state
abbrev pub state_number : State → ℕ
state_number Hot = 0
state_number Cooling = 1
state_number Freezing = 2
state_number Frozen = 3

-- the state of a number
abbrev pub state_of : ℕ → State
state_of zero = Hot
state_of (suc zero) = Cooling
state_of (suc (suc zero)) = Freezing
state_of (suc (suc (suc _))) = Frozen

-- the word of a state, a stamp and a count of readers
abbrev pub word_of : State → ℕ → ℕ → Word
word_of state stamp readers = record { state = state; stamp = stamp; readers = readers }

-- a word whose stamp has 30 bits and whose readers have 32
pub record IsInRange (w : Word) : Type 0 where
  pub stamp : w.stamp < 2 ^ 30
  pub readers : w.readers < 2 ^ 32

-- the number that stands for a word: from the top two bits of state, 30 of stamp and 32 of readers
abbrev pub packed : Word → ℕ
packed w = state_number w.state * 2 ^ 62 + w.stamp * 2 ^ 32 + w.readers

-- the word that a number below 2 ^ 64 stands for
abbrev pub unpacked : ℕ → Word
unpacked n = word_of (state_of (n / 2 ^ 62)) (n / 2 ^ 32 % 2 ^ 30) (n % 2 ^ 32)

-- how many stamps a turn from one state to another takes, for the six turns that there are
abbrev pub stamps_taken : State → State → Option ℕ
stamps_taken Hot Cooling = Some 0
stamps_taken Cooling Hot = Some 0
stamps_taken Cooling Freezing = Some 1
stamps_taken Freezing Frozen = Some 0
stamps_taken Frozen Hot = Some 0
stamps_taken Hot Frozen = Some 0
stamps_taken _ _ = None

-- the state turns, the stamp moves by what the turn takes, and the readers stay
abbrev pub Turns : Word → Word → Type 0
Turns before after =
    IsSomeAnd (stamps_taken before.state after.state) (λ taken. after.stamp ≡ before.stamp + taken)
    × (after.readers ≡ before.readers)

-- a reader comes, and state and stamp stay
abbrev pub Enters : Word → Word → Type 0
Enters before after =
    (after.state ≡ before.state) × (after.stamp ≡ before.stamp)
    × (after.readers ≡ before.readers + 1)

-- one of the six turns, a reader that comes or a reader that leaves, with no number out of its
-- range
pub record IsLawfulMove (before after : Word) : Type 0 where
  pub from : IsInRange before
  pub to : IsInRange after
  pub move : Turns before after ⊎ Enters before after ⊎ Enters after before
