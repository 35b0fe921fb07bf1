-- The entry of a value: which value it stands for, in place or in a buffer.
use Rattle.std.specs.Prelude.{◌≡◌, ℕ, ◌+◌, ◌≤◌, ⊤, List, length, take, drop, Option, Some, None}
use Rattle.varlen_entry.specs.declared.Entry.{Entry}
use Rattle.varlen_entry.specs.declared.Entry.TheVariants.{Inline, Owned, Gathered}

-- the value stands in the entry itself
abbrev pub IsInline : Entry → Type 0
IsInline (Inline _) = ⊤
IsInline (Owned _) = ⊥
IsInline (Gathered _) = ⊥

-- the value stands among the bytes that the column owns
abbrev pub IsOwned : Entry → Type 0
IsOwned (Inline _) = ⊥
IsOwned (Owned _) = ⊤
IsOwned (Gathered _) = ⊥

-- the value stands in the gathered buffer
abbrev pub IsGathered : Entry → Type 0
IsGathered (Inline _) = ⊥
IsGathered (Owned _) = ⊥
IsGathered (Gathered _) = ⊤

-- how many bytes the value has
abbrev pub len_of : Entry → ℕ
len_of (Inline short) = short.len
len_of (Owned span) = span.len
len_of (Gathered span) = span.len

-- the first four bytes of the value, and zeros where it has fewer
abbrev pub prefix_of : Entry → List ℕ
prefix_of (Inline short) = take 4 short.bytes
prefix_of (Owned span) = span.prefix
prefix_of (Gathered span) = span.prefix

-- where the value begins in its buffer
abbrev pub place_of : Entry → Option ℕ
place_of (Inline _) = None
place_of (Owned span) = Some span.place
place_of (Gathered span) = Some span.place

-- the value that an entry names by its place stands there in full
abbrev pub IsWithin : Entry → List ℕ → List ℕ → Type 0
IsWithin (Inline _) owned gathered = ⊤
IsWithin (Owned span) owned gathered = span.place + span.len ≤ length owned
IsWithin (Gathered span) owned gathered = span.place + span.len ≤ length gathered

-- the bytes of the value, in the entry, among the owned bytes or in the gathered buffer
abbrev pub value_of : Entry → List ℕ → List ℕ → List ℕ
value_of (Inline short) owned gathered = take short.len short.bytes
value_of (Owned span) owned gathered = take span.len (drop span.place owned)
value_of (Gathered span) owned gathered = take span.len (drop span.place gathered)

-- an entry has a value, which stands in full
pub record HasValue (entry : Entry) (owned gathered value : List ℕ) : Type 0 where
  pub within : IsWithin entry owned gathered
  pub is : value_of entry owned gathered ≡ value

-- bytes stand at a place of a buffer
pub record StandsAt (bytes : List ℕ) (place : ℕ) (buffer : List ℕ) : Type 0 where
  pub within : place + length bytes ≤ length buffer
  pub is : take (length bytes) (drop place buffer) ≡ bytes
