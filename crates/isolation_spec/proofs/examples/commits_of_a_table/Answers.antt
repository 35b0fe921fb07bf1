use Rattle.std.proofs.Common.{◌≡◌, ℕ, pos, [], ◌∷◌, refl}
use Rattle.std.specs.declared.cmp.Ordering.TheVariants.{Less}
use Rattle.std.proofs.lemmas.List.Elements.{All-nil, All-cons}
use Rattle.isolation_spec.specs.BegunExamples.{gone_at, row_at, tables}
use Rattle.isolation_spec.specs.Commits.{IsCommitOf, IsWriteOf}
use Rattle.isolation_spec.specs.Contents.{place_at, place_cmp}
use Rattle.isolation_spec.specs.declared.place.Place.{Place}
use Rattle.isolation_spec.proofs.examples.commits_of_a_table.Goals as goal

-- a place of the table is before another
abbrev IsBefore : ℕ → Place → Type 0
IsBefore key place = place_cmp (place_at 0 (pos key)) place ≡ Less

inserts : IsCommitOf tables (row_at 1 5 ∷ row_at 2 6 ∷ [])
inserts = record {
  some = λ none. let never : ⊥ = cc in never;
  rises = (All-cons (IsBefore 1) (place_at 0 (pos 2)) [] refl (All-nil (IsBefore 1)), (All-nil (IsBefore 2), tt));
  each = All-cons (IsWriteOf tables) (row_at 1 5) (row_at 2 6 ∷ [])
      (record { key = refl; row = record { cells = refl; key = refl } })
      (All-cons (IsWriteOf tables) (row_at 2 6) [] (record { key = refl; row = record { cells = refl; key = refl } }) (All-nil (IsWriteOf tables)));
}

deletes : IsCommitOf tables (gone_at (pos 2) ∷ [])
deletes = record {
  some = λ none. let never : ⊥ = cc in never;
  rises = (All-nil (IsBefore 2), tt);
  each = All-cons (IsWriteOf tables) (gone_at (pos 2)) [] (record { key = refl; row = tt }) (All-nil (IsWriteOf tables));
}

pub returns : goal.returns
returns c = (
  All-cons (IsCommitOf tables) (row_at 1 5 ∷ row_at 2 6 ∷ []) ((gone_at (pos 2) ∷ []) ∷ []) inserts (All-cons (IsCommitOf tables) (gone_at (pos 2) ∷ []) [] deletes (All-nil (IsCommitOf tables))),
  record { key = refl; row = tt },
  record { key = refl; row = tt },
)
