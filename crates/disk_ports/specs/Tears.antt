-- What a crash leaves of the pieces that were written since the last sync.
use Rattle.std.specs.Prelude.{◌≡◌, ℕ, ◌/◌, List, [], ◌∷◌, ◌++◌, length, take, drop, replicate}
use Rattle.disk_ports.specs.FileSteps.{Lays}
use Rattle.disk_ports.specs.Memory.{Step, Asked, Wrote, Synced}
use Rattle.disk_ports.specs.declared.tears.Tear.{Tear}
use Rattle.disk_ports.specs.declared.tears.Tear.TheVariants as tear

-- what is left of a piece
abbrev pub part_of : Tear → List ℕ → List ℕ
part_of tear.Nothing piece = []
part_of tear.Front piece = take (length piece / 2) piece
part_of tear.Back piece =
    replicate (length piece / 2) 0 ++ drop (length piece / 2) piece
part_of tear.Whole piece = piece
part_of (tear.Filled byte) piece = replicate (length piece) byte

-- a file, and what a crash behind one call more leaves of it
abbrev pub TornStep : Tear → Step → List ℕ → List ℕ → Type 0
TornStep tear Asked file c = c ≡ file
TornStep tear (Wrote at piece) file c = Lays at (part_of tear piece) file c
TornStep tear (Synced bytes) file c = c ≡ bytes

-- what a crash behind these calls leaves, the newest of which stands first
abbrev pub TornBy : Tear → List ℕ → List Step → List ℕ → Type 0
TornBy tear first [] c = c ≡ first
TornBy tear first (step ∷ past) c =
    (file : List ℕ) × TornBy tear first past file × TornStep tear step file c
