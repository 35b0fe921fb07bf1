-- Each version of a row in a sound state fits its table.
use Rattle.std.proofs.Common.{◌≡◌, ℕ, zero, suc, ◌<◌, ℤ, Bool, true, false, cond, ◌==◌, List, [], ◌∷◌, Option, None, Some, fold, length, get_or, refl, sym, subst, arith}
use Rattle.std.specs.Prelude.{All, IfSome, slice_get}
use Rattle.std.specs.Option.{option_or}
use Rattle.std.proofs.lemmas.Bool.Decides.{nat_tests}
use Rattle.std.proofs.lemmas.List.Elements.{All-head, All-tail}
use Rattle.block_layout.specs.Place.{block_of, slot_of}
use Rattle.block_spec.specs.Bodies.{slot_in}
use Rattle.block_spec.specs.declared.change.Before.{Before}
use Rattle.block_spec.specs.Slots.{Slot, Row, bare, laid_back, seen}
use Rattle.cell_model.specs.declared.column.Column.{Column}
use Rattle.cell_model.specs.declared.row.RowFault.TheVariants.{Arity}
use Rattle.cell_model.specs.declared.table.TableDecl.{TableDecl}
use Rattle.cell_model.specs.Rows.{Fits, first_fault}
use Rattle.core_laws.proofs.Events.Naming.{body_is_there, each_kind}
use Rattle.core_laws.specs.Events.Named.{KindIf}
use Rattle.event_spec.specs.declared.own.OwnKey.{OwnKey}
use Rattle.event_spec.specs.declared.part.Part.TheVariants as part
use Rattle.event_spec.specs.Effects.{found}
use Rattle.event_spec.specs.Judged.{first_at, found_at}
use Rattle.event_spec.specs.Lawful.{FitsTable}
use Rattle.event_spec.specs.Parts.{CorePart, Parts, Shape, BodyOf, names, part_named, body_at, body_from, slot_at, places_at}
use Rattle.event_spec.specs.Replay.{columns_in}
use Rattle.event_spec.specs.SlotSound.{VersionsFit}
use Rattle.event_spec.specs.Sound.{Sound}
use Rattle.undo_chain.specs.declared.undo.Undo.{Undo}
use Rattle.undo_chain.specs.Entry.{is_in_view}
use Rattle.undo_chain.proofs.Views.{images_at_view, images_passed}

-- where each version fits, so does the row that stands there
pub current_fits : (columns : List Column) (row : Option Row) (es : List (Undo Before)) → VersionsFit columns row es → IfSome row (Fits columns)
current_fits columns row [] fit = fit
current_fits columns row (e ∷ es) fit = fit.0

-- what is seen of a slot fits
pub seen_fits : (columns : List Column) (row : Option Row) (es : List (Undo Before)) (stamp session : ℕ) → VersionsFit columns row es
    → IfSome (seen (record { row = row; entries = es }) stamp session) (Fits columns)
seen_fits columns row [] stamp session fit = fit
seen_fits columns row (e ∷ es) stamp session fit = go (is_in_view e stamp session) refl (seen_fits columns (laid_back row e.before) es stamp session fit.2)
  where
    go : (b : Bool) → is_in_view e stamp session ≡ b → IfSome (seen (record { row = laid_back row e.before; entries = es }) stamp session) (Fits columns)
        → IfSome (seen (record { row = row; entries = e ∷ es }) stamp session) (Fits columns)
    go true is rest = subst (λ images. IfSome (fold laid_back row images) (Fits columns)) (sym (images_at_view e es stamp session is)) fit.0
    go false is rest = subst (λ images. IfSome (fold laid_back row images) (Fits columns)) (sym (images_passed e es stamp session is)) rest

-- Where all slots fit, the versions of each do, as do those beyond them.
slot_fits : (columns : List Column) (slots : List Slot) (j : ℕ) → All (λ (slot : Slot). VersionsFit columns slot.row slot.entries) slots
    → VersionsFit columns (get_or slots j bare).row (get_or slots j bare).entries
slot_fits columns [] j all = tt
slot_fits columns (x ∷ slots) zero all = All-head (λ (slot : Slot). VersionsFit columns slot.row slot.entries) x slots all
slot_fits columns (x ∷ slots) (suc j) all = slot_fits columns slots j (All-tail (λ (slot : Slot). VersionsFit columns slot.row slot.entries) x slots all)

-- the versions of each slot fit its table's columns
pub versions_fit : (sh : Shape) (s : Parts) (ok : Sound sh s) (t p : ℕ) → VersionsFit (columns_in sh t) (slot_at sh s t p).row (slot_at sh s t p).entries
versions_fit sh s ok t p = go (part_named (names sh) s (BodyOf t (block_of p))) refl (each_kind sh s ok.kinds (BodyOf t (block_of p)))
  where
    go : (o : Option CorePart) → part_named (names sh) s (BodyOf t (block_of p)) ≡ o → KindIf (BodyOf t (block_of p)) o
        → VersionsFit (columns_in sh t) (slot_at sh s t p).row (slot_at sh s t p).entries
    go None is k = subst (λ o. VersionsFit (columns_in sh t) (slot_in (body_from o) (slot_of p)).row (slot_in (body_from o) (slot_of p)).entries) (sym is) tt
    go (Some (part.Head x)) is k = absurd k
    go (Some (part.Shard x)) is k = absurd k
    go (Some (part.Body x)) is k =
        slot_fits (columns_in sh t) (body_at sh s t (block_of p)).slots (slot_of p) (ok.bodies t (block_of p) (body_is_there sh s t (block_of p) (part.Body x) is)).versions
    go (Some (part.Desk x)) is k = absurd k

-- what a session finds of a key fits
first_fits : (columns : List Column) (answer : ℕ → Option Row) (places : List ℕ) → ((p : ℕ) → IfSome (answer p) (Fits columns)) → IfSome (first_at answer places) (Fits columns)
first_fits columns answer [] each = tt
first_fits columns answer (p ∷ places) each = go (answer p) (each p) (first_fits columns answer places each)
  where
    go : (o : Option Row) → IfSome o (Fits columns) → IfSome (first_at answer places) (Fits columns) → IfSome (option_or o (first_at answer places)) (Fits columns)
    go None a b = b
    go (Some row) a b = a

-- the row that a transaction finds of a key fits the columns
pub found_fits : (sh : Shape) (s : Parts) (ok : Sound sh s) (own : OwnKey) (t : ℕ) (key : ℤ) → IfSome (found sh s own t key) (Fits (columns_in sh t))
found_fits sh s ok own t key = go own.written
  where
    at : (p : ℕ) → IfSome (seen (slot_at sh s t p) own.snapshot.stamp own.session) (Fits (columns_in sh t))
    at p = seen_fits (columns_in sh t) (slot_at sh s t p).row (slot_at sh s t p).entries own.snapshot.stamp own.session (versions_fit sh s ok t p)

    go : (o : Option ℕ) → IfSome (found_at (slot_at sh s t) (places_at sh s t key) own o) (Fits (columns_in sh t))
    go None = first_fits (columns_in sh t) (λ p. seen (slot_at sh s t p) own.snapshot.stamp own.session) (places_at sh s t key) at
    go (Some p) = at p

-- a row that fits has a cell for each column
pub fits_length : (columns : List Column) (row : Row) → Fits columns row → length row ≡ length columns
fits_length columns row fit = go (length row == length columns) refl fit
  where
    go : (b : Bool) → (length row == length columns) ≡ b → cond b (first_fault 0 columns row) (Some Arity) ≡ None → length row ≡ length columns
    go true is f = grind (arith, nat_tests)
    go false is f = cc

-- a row that fits a table fits its columns
pub fits_columns : (sh : Shape) (t : ℕ) (row : Row) → t < length sh.tables → FitsTable sh t row → Fits (columns_in sh t) row
fits_columns sh t row has fit = go (slice_get sh.tables t) refl fit
  where
    inside : (tables : List TableDecl) (i : ℕ) → i < length tables → slice_get tables i ≡ None → ⊥
    inside [] i less none = absurd (omega (arith, less))
    inside (x ∷ tables) zero less none = cc
    inside (x ∷ tables) (suc i) less none = inside tables i (omega (arith, less)) none

    go : (o : Option TableDecl) → slice_get sh.tables t ≡ o → IfSome o (λ (decl : TableDecl). Fits decl.schema row) → Fits (columns_in sh t) row
    go None is f = absurd (inside sh.tables t has is)
    go (Some decl) is f =
        subst (λ (o : Option TableDecl). Fits (Rattle.std.specs.Prelude.unwrap_or (Rattle.std.specs.Prelude.option_map (λ (decl : TableDecl). decl.schema) o) []) row) (sym is) f
