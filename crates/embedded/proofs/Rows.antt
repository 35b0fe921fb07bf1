-- What later commits leave of a row that a commit left.
use Rattle.std.proofs.Common.{◌≡◌, Bool, true, false, cond, [], ◌∷◌, Option, None, Some, Ordering, Less, Equal, Greater, fold, length, refl, sym, ap, ◌∙◌, arith, true≢false}
use Rattle.std.specs.Prelude.{is_some}
use Rattle.std.specs.BTreeMap.{insert_entry}
use Rattle.std.specs.Cmp.{alike_right, tied_back, tied_itself}
use Rattle.std.specs.Map.{remove_entry}
use Rattle.std.specs.Ordering.{is_eq}
use Rattle.std.proofs.lemmas.List.{take_all}
use Rattle.std.proofs.lemmas.List.Elements.{All-head, All-tail}
use Rattle.std.proofs.lemmas.List.Sums.{fold-append}
use Rattle.block_spec.specs.Slots.{Row}
use Rattle.isolation_laws.proofs.Entries.{lookup-insert_entry}
use Rattle.isolation_laws.proofs.Rows.{place_cmp-total}
use Rattle.isolation_spec.specs.Contents.{History, State, WriteSet, at_place, is_place, laid_over, place_cmp, state_at, with_write}
use Rattle.isolation_spec.specs.Machine.{writes_place}
use Rattle.isolation_spec.specs.declared.place.Place.{Place}
use Rattle.embedded.specs.Commits.{IsUnwritten, commits_around}

-- a row that is laid at a place is there
pub laid : (rows : State) (place : Place) (row : Row) → at_place (insert_entry place_cmp rows place row) place ≡ Some row
laid rows place row =
    lookup-insert_entry place_cmp-total rows place row place
    ∙ ap (λ r. cond (is_eq r) (Some row) (at_place rows place)) (tied_itself place_cmp-total place)

-- the state behind all commits
pub behind : (h : History) → state_at h (length h) ≡ fold laid_over [] h
behind h = ap (fold laid_over []) (take_all (length h) h (omega arith))

-- a comparison that tests as equal has the answer equal
equal_from : (answer : Ordering) → is_eq answer ≡ true → answer ≡ Equal
equal_from Less is = cc
equal_from Equal is = refl
equal_from Greater is = cc

-- what is removed at another place leaves what is here
removed : (rows : State) (k q : Place) → is_place q k ≡ false → at_place (remove_entry (is_place k) rows) q ≡ at_place rows q
removed [] k q apart = refl
removed (e ∷ es) k q apart = go (is_place k e.0) refl (removed es k q apart)
  where
    go : (b : Bool) → is_place k e.0 ≡ b → at_place (remove_entry (is_place k) es) q ≡ at_place es q
        → at_place (cond (is_place k e.0) es (e ∷ remove_entry (is_place k) es)) q ≡ at_place (e ∷ es) q
    go true is rest =
        let other : is_place q e.0 ≡ false =
        ap is_eq (alike_right place_cmp-total e.0 k q (tied_back place_cmp-total k e.0 (equal_from (place_cmp k e.0) is))) ∙ apart in
        ap (λ b. at_place (cond b es (e ∷ remove_entry (is_place k) es)) q) is
        ∙ ap (λ b. cond b (Some e.1) (at_place es q)) (sym other)
    go false is rest =
        ap (λ b. at_place (cond b es (e ∷ remove_entry (is_place k) es)) q) is
        ∙ ap (cond (is_place q e.0) (Some e.1)) rest

-- a write at another place leaves what is here
elsewhere : (rows : State) (k q : Place) (value : Option Row) → is_place q k ≡ false → at_place (with_write rows k value) q ≡ at_place rows q
elsewhere rows k q (Some row) apart =
    lookup-insert_entry place_cmp-total rows k row q ∙ ap (λ b. cond b (Some row) (at_place rows q)) apart
elsewhere rows k q None apart = removed rows k q apart

-- a choice that is none chose none, and there was none
neither : {X : Type 0} (b : Bool) (x : X) (rest : Option X) → is_some (cond b (Some x) rest) ≡ false → (b ≡ false) × (is_some rest ≡ false)
neither true x rest none = absurd (true≢false none)
neither false x rest none = (refl, none)

-- a commit that did not write the place leaves what is there
unchanged : (rows : State) (own : WriteSet) (q : Place) → writes_place q own ≡ false → at_place (laid_over rows own) q ≡ at_place rows q
unchanged rows [] q none = refl
unchanged rows (e ∷ es) q none =
    let parts = neither (is_place q e.0) e.1 (at_place es q) none in
    unchanged (with_write rows e.0 e.1) es q parts.1 ∙ elsewhere rows e.0 q e.1 parts.0

pub stays : (rows : State) (later : History) (q : Place) → IsUnwritten q later → at_place (fold laid_over rows later) q ≡ at_place rows q
stays rows [] q none = refl
stays rows (own ∷ later) q none =
    stays (laid_over rows own) later q (All-tail (λ w. writes_place q w ≡ false) own later none)
    ∙ unchanged rows own q (All-head (λ w. writes_place q w ≡ false) own later none)

-- behind the row's commit, and commits that did not write its place, it is there
pub row_behind : (before later : History) (place : Place) (row : Row) → IsUnwritten place later
    → at_place (fold laid_over [] (commits_around before place row later)) place ≡ Some row
row_behind before later place row none =
    ap (λ (rows : State). at_place rows place) (fold-append laid_over [] before (((place, Some row) ∷ []) ∷ later))
    ∙ stays (insert_entry place_cmp (fold laid_over [] before) place row) later place none
    ∙ laid (fold laid_over [] before) place row
