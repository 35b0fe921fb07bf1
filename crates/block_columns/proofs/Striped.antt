-- Values of so many bytes each, as a column keeps them.
use Rattle.std.proofs.Common.{◌≡◌, ℕ, List, ◌++◌, take, replicate, map, refl, sym, ap, ◌∙◌, subst}
use Rattle.std.specs.Prelude.{slice_set}
use Rattle.std.specs.List.{concat, flat_map}
use Rattle.std.proofs.lemmas.List.{take-map}
use Rattle.std.proofs.lemmas.List.Concat.{concat_is}
use Rattle.std.proofs.lemmas.List.Folds.{flat_map-map}
use Rattle.cell_model.specs.declared.cell.Cell.{Cell}
use Rattle.cell_model.specs.declared.cell.Cell.TheVariants.{Null}
use Rattle.arrow_spec.specs.Arrays.{strip_of}
use Rattle.flat_column.specs.Strips.{StripList}
use Rattle.block_columns.proofs.Kept.{bare_strip}
use Rattle.block_columns.proofs.Lists.{values-extend, values-set}

-- strips of nulls are added where nulls are
pub strips-extend : (old new : StripList) (cells : List Cell) (n : ℕ) → new ≡ record old { values = old.values ++ replicate n (replicate old.width 0) }
    → old.values ≡ map (strip_of old.width) cells → new.values ≡ map (strip_of new.width) (cells ++ replicate n Null)
strips-extend old new cells n is same =
    subst (λ (s : StripList). s.values ≡ map (strip_of s.width) (cells ++ replicate n Null)) (sym is)
    (ap (λ (zeros : List ℕ). old.values ++ replicate n zeros) (sym (bare_strip old.width)) ∙ values-extend (strip_of old.width) old.values cells n same)

-- a strip is put where a cell is
pub strips-set : (old new : StripList) (cells : List Cell) (at : ℕ) (c : Cell) → new ≡ record old { values = slice_set old.values at (strip_of old.width c) }
    → old.values ≡ map (strip_of old.width) cells → new.values ≡ map (strip_of new.width) (slice_set cells at c)
strips-set old new cells at c is same =
    subst (λ (s : StripList). s.values ≡ map (strip_of s.width) (slice_set cells at c)) (sym is)
    (values-set (strip_of old.width) old.values cells at c (strip_of old.width c) refl same)

-- zeros are put where a null is
pub strips-clear : (old new : StripList) (cells : List Cell) (at : ℕ) → new ≡ record old { values = slice_set old.values at (replicate old.width 0) }
    → old.values ≡ map (strip_of old.width) cells → new.values ≡ map (strip_of new.width) (slice_set cells at Null)
strips-clear old new cells at is same =
    strips-set old new cells at Null (is ∙ ap (λ (zeros : List ℕ). record old { values = slice_set old.values at zeros }) (sym (bare_strip old.width))) same

-- the bytes of the first strips are those of the first cells
pub strips-bytes : (strips : StripList) (cells : List Cell) (n width : ℕ) → strips.values ≡ map (strip_of strips.width) cells → strips.width ≡ width
    → concat (take n strips.values) ≡ flat_map (strip_of width) (take n cells)
strips-bytes strips cells n width same wide =
    ap (λ (xs : List (List ℕ)). concat (take n xs)) same
    ∙ ap concat (take-map (strip_of strips.width) n cells)
    ∙ concat_is (map (strip_of strips.width) (take n cells))
    ∙ flat_map-map (λ (x : List ℕ). x) (strip_of strips.width) (take n cells)
    ∙ ap (λ (w : ℕ). flat_map (strip_of w) (take n cells)) wide
