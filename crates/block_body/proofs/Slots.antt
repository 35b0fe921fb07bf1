-- Slots made of rows and of entries by number.
use Rattle.std.proofs.Common.{◌≡◌, ◌≢◌, ◌∙◌, ℕ, zero, suc, ◌+◌, ◌<◌, List, [], ◌∷◌, Option, None, map, length, get_or, refl, sym, ap, subst, arith, ⊎_elim}
use Rattle.std.specs.Prelude.{slice_set}
use Rattle.std.proofs.Math.ListN.{length-set}
use Rattle.std.proofs.lemmas.List.{same_lists, length-map, get_or-set_same, get_or-set_other}
use Rattle.std.proofs.lemmas.Bool.{cases_eq}
use Rattle.block_spec.specs.declared.change.Before.{Before}
use Rattle.block_spec.specs.Slots.{Row, Slot, bare}
use Rattle.undo_chain.specs.declared.undo.Undo.{Undo}
use Rattle.block_body.specs.Slots.{slot_of, slots_from}

-- there are as many slots as rows
pub slots-length : (f : ℕ → List (Undo Before)) (at : ℕ) (rows : List (Option Row)) → length (slots_from f at rows) ≡ length rows
slots-length f at [] = refl
slots-length f at (row ∷ rows) = ap suc (slots-length f (at + 1) rows)

-- a slot by its number has the row and the entries of that number
pub slots-get : (f : ℕ → List (Undo Before)) (at : ℕ) (rows : List (Option Row)) (k : ℕ) (d : Slot) → k < length rows →
    get_or (slots_from f at rows) k d ≡ slot_of (get_or rows k None) (f (at + k))
slots-get f at [] k d lt = absurd (omega arith)
slots-get f at (row ∷ rows) zero d lt = let same : at ≡ at + 0 = omega arith in ap (λ (n : ℕ). slot_of row (f n)) same
slots-get f at (row ∷ rows) (suc k) d lt =
    let same : at + 1 + k ≡ at + suc k = omega arith in
    slots-get f (at + 1) rows k d (omega arith) ∙ ap (λ (n : ℕ). slot_of (get_or rows k None) (f n)) same

-- from slot 0 on
pub slots-at : (f : ℕ → List (Undo Before)) (rows : List (Option Row)) (k : ℕ) (d : Slot) → k < length rows →
    get_or (slots_from f 0 rows) k d ≡ slot_of (get_or rows k None) (f k)
slots-at f rows k d lt =
    let same : 0 + k ≡ k = omega arith in
    slots-get f 0 rows k d lt ∙ ap (λ (n : ℕ). slot_of (get_or rows k None) (f n)) same

-- each slot is changed alike
pub slots-map : (f g : ℕ → List (Undo Before)) (rows new : List (Option Row)) (change : Slot → Slot) → length new ≡ length rows →
    ((k : ℕ) → k < length rows → slot_of (get_or new k None) (g k) ≡ change (slot_of (get_or rows k None) (f k))) →
    slots_from g 0 new ≡ map change (slots_from f 0 rows)
slots-map f g rows new change long each =
    same_lists
    (slots_from g 0 new)
    (map change (slots_from f 0 rows))
    (slots-length g 0 new ∙ long ∙ sym (length-map (slots_from f 0 rows) change ∙ slots-length f 0 rows))
    (λ k d lt.
    let less : k < length new = subst (λ n. k < n) (slots-length g 0 new) lt in
    let within : k < length rows = subst (λ n. k < n) long less in
    slots-at g new k d less
    ∙ each k within
    ∙ ap change (sym (slots-at f rows k bare within))
    ∙ mapped change (slots_from f 0 rows) k d (subst (λ n. k < n) (sym (slots-length f 0 rows)) within))
  where
    mapped : (change : Slot → Slot) (slots : List Slot) (k : ℕ) (d : Slot) → k < length slots → change (get_or slots k bare) ≡ get_or (map change slots) k d
    mapped change [] k d lt = absurd (omega arith)
    mapped change (s ∷ slots) zero d lt = refl
    mapped change (s ∷ slots) (suc k) d lt = mapped change slots k d (omega arith)

-- one slot is changed
pub slots-set : (f g : ℕ → List (Undo Before)) (rows : List (Option Row)) (j : ℕ) (row : Option Row) (entries : List (Undo Before)) →
    g j ≡ entries → ((k : ℕ) → k ≢ j → g k ≡ f k) →
    slots_from g 0 (slice_set rows j row) ≡ slice_set (slots_from f 0 rows) j (slot_of row entries)
slots-set f g rows j row entries here others =
    same_lists
    (slots_from g 0 (slice_set rows j row))
    (slice_set (slots_from f 0 rows) j (slot_of row entries))
    (slots-length g 0 (slice_set rows j row) ∙ length-set rows j row ∙ sym (length-set (slots_from f 0 rows) j (slot_of row entries) ∙ slots-length f 0 rows))
    (λ k d lt.
    let less : k < length (slice_set rows j row) = subst (λ n. k < n) (slots-length g 0 (slice_set rows j row)) lt in
    let within : k < length rows = subst (λ n. k < n) (length-set rows j row) less in
    slots-at g (slice_set rows j row) k d less ∙ at k d within)
  where
    at : (k : ℕ) (d : Slot) → k < length rows →
        slot_of (get_or (slice_set rows j row) k None) (g k) ≡ get_or (slice_set (slots_from f 0 rows) j (slot_of row entries)) k d
    at k d within = ⊎_elim same other (cases_eq k j)
      where
        same : k ≡ j → slot_of (get_or (slice_set rows j row) k None) (g k) ≡ get_or (slice_set (slots_from f 0 rows) j (slot_of row entries)) k d
        same is =
            let less : j < length rows = subst (λ n. n < length rows) is within in
            subst
            (λ n. slot_of (get_or (slice_set rows j row) n None) (g n) ≡ get_or (slice_set (slots_from f 0 rows) j (slot_of row entries)) n d)
            (sym is)
            (ap (λ r. slot_of r (g j)) (get_or-set_same rows j row None less)
            ∙ ap (slot_of row) here
            ∙ sym (get_or-set_same (slots_from f 0 rows) j (slot_of row entries) d (subst (λ n. j < n) (sym (slots-length f 0 rows)) less)))

        other : k ≢ j → slot_of (get_or (slice_set rows j row) k None) (g k) ≡ get_or (slice_set (slots_from f 0 rows) j (slot_of row entries)) k d
        other apart =
            ap (λ r. slot_of r (g k)) (get_or-set_other rows j k row None apart)
            ∙ ap (slot_of (get_or rows k None)) (others k apart)
            ∙ sym (get_or-set_other (slots_from f 0 rows) j k (slot_of row entries) d apart ∙ slots-at f rows k d within)

-- the entries are the same
pub slots-same : (f g : ℕ → List (Undo Before)) (at : ℕ) (rows : List (Option Row)) → ((k : ℕ) → g k ≡ f k) →
    slots_from g at rows ≡ slots_from f at rows
slots-same f g at [] same = refl
slots-same f g at (row ∷ rows) same =
    ap (λ (es : List (Undo Before)). slot_of row es ∷ slots_from g (at + 1) rows) (same at)
    ∙ ap (λ (slots : List Slot). slot_of row (f at) ∷ slots) (slots-same f g (at + 1) rows same)

-- the rows of the slots are those that they are made of
pub slots-rows : (f : ℕ → List (Undo Before)) (at : ℕ) (rows : List (Option Row)) → map (λ (slot : Slot). slot.row) (slots_from f at rows) ≡ rows
slots-rows f at [] = refl
slots-rows f at (row ∷ rows) = ap (λ (l : List (Option Row)). row ∷ l) (slots-rows f (at + 1) rows)
