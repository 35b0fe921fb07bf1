-- What a call of a source, a sink or an outlet does to its count of faults and to what it tells.
use Rattle.std.specs.Prelude.{Bool, ◌+◌, ◌==◌, if◌then◌else◌, ◌≡◌, ◌≢◌, ℕ, ◌-◌, ◌^◌, ◌<◌, ◌≤◌, List}
use Rattle.std.specs.Prelude.{[], ◌∷◌, ◌++◌, Option, Result, MatchResult, is_some, length, take}
use Rattle.std.specs.Option.{option_map}
use Rattle.std.specs.Io.KnownBytes.{Appends, Consumes}

-- a count of faults rose from before to now, or stands at a counter's last value
abbrev pub Rose : ℕ → ℕ → Type 0
Rose before now = now ≢ 2 ^ 64 - 1 → before < now

-- one more, where a counter holds at its last value
abbrev pub counted : ℕ → ℕ
counted n = if n == 2 ^ 64 - 1 then n else n + 1

-- a count of faults after a call, which adds one where it failed
abbrev pub faults_after : ℕ → Bool → ℕ
faults_after faults failed = if failed then counted faults else faults

-- what is told after a call is told before it too, and the other way round
abbrev pub TellsAlike : {T : Type 0} → Option T → Option T → Type 0
TellsAlike before now = is_some now ≡ is_some before

-- the names that are told grow by this name at `Ok`, and stay at `Err`
abbrev pub StartAdds : {T E : Type 0} → Option (List (List ℕ)) → Option (List (List ℕ)) → Result T E
    → List ℕ → Type 0
StartAdds before now result name =
    MatchResult result (λ _. now ≡ option_map (λ names. names ++ name ∷ []) before)
    (λ _. now ≡ before)

-- the bytes that are told grow by the front of a piece, and not by all of it
abbrev pub AppendsFront : Option (List ℕ) → Option (List ℕ) → List ℕ → Type 0
AppendsFront before now piece = (count : ℕ) × (count < length piece)
    × Appends before now (take count piece)

-- all of a piece was written at `Ok`, and only a front of it at `Err`
abbrev pub WritesAll : {T E : Type 0} → Option (List ℕ) → Option (List ℕ) → Result T E → List ℕ
    → Type 0
WritesAll before now result piece =
    MatchResult result (λ _. Appends before now piece) (λ _. AppendsFront before now piece)

-- some bytes were read, a front of what was told to be left
abbrev pub ConsumesSome : Option (List ℕ) → Option (List ℕ) → Type 0
ConsumesSome before now = (bytes : List ℕ) × Consumes before now bytes

-- at least this many bytes were read, a front of what was told to be left
abbrev pub ConsumesAtLeast : Option (List ℕ) → Option (List ℕ) → ℕ → Type 0
ConsumesAtLeast before now least = (bytes : List ℕ) × (least ≤ length bytes)
    × Consumes before now bytes
