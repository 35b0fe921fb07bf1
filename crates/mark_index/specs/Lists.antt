-- For each key the marks that stand there.
use Rattle.std.specs.Prelude.{Bool, false, List, [], ◌∷◌, ◌++◌, None, if◌then◌else◌}
use Rattle.std.specs.List.{last_or}
use Rattle.std.specs.BTreeMap.{get}
use Rattle.std.specs.Option.{option_map_or}
use Rattle.std.specs.declared.cmp.Ordering.{Ordering}
use Rattle.mark_index.specs.declared.MarkIndex.{MarkIndex}

-- the marks of a key, in order; none where the key has none
abbrev pub marks_at : {K M : Type 0} → (K → K → Ordering) → MarkIndex K M → K → List M
marks_at cmp index key = option_map_or (λ marks. marks.items) (get cmp index.lists key) []

-- the marks with one more behind them, if it is to be put there
abbrev pub with_mark : {M : Type 0} → Bool → M → List M → List M
with_mark put mark marks = if put then marks ++ mark ∷ [] else marks

-- the last passes the test
abbrev pub is_last : {X : Type 0} → (X → Bool) → List X → Bool
is_last test xs = option_map_or test (last_or None xs) false
