-- Commits around that of one row.
use Rattle.std.specs.Prelude.{◌≡◌, [], ◌∷◌, ◌++◌, All, Some, false}
use Rattle.block_spec.specs.Slots.{Row}
use Rattle.isolation_spec.specs.Contents.{History}
use Rattle.isolation_spec.specs.declared.place.Place.{Place}
use Rattle.isolation_spec.specs.Machine.{writes_place}

-- commits, the row's own behind them, and later ones behind that
abbrev pub commits_around : History → Place → Row → History → History
commits_around before place row later = before ++ ((place, Some row) ∷ []) ∷ later

-- No commit of these wrote the place.
abbrev pub IsUnwritten : Place → History → Type 0
IsUnwritten place commits = All (λ own. writes_place place own ≡ false) commits
