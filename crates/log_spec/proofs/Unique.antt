-- That bytes are one log at most, and one list of commits.
use Rattle.std.proofs.Common.{◌≡◌, ℕ, ◌+◌, List, [], ◌∷◌, ◌++◌, map, length, take, drop, get_or, refl, sym, ◌∙◌, ap, arith, append_assoc, length-append, inl, inr}
use Rattle.std.specs.List.{AllByRecursion, flat_map}
use Rattle.std.specs.Int.{w32, to_le_bytes}
use Rattle.std.proofs.lemmas.List.{take_at}
use Rattle.std.proofs.lemmas.List.Elements.{recursion_from_All}
use Rattle.cell_model.specs.declared.table.TableDecl.{TableDecl}
use Rattle.isolation_spec.specs.Contents.{History}
use Rattle.log_spec.specs.Laws.{HaveSchemas, NeverBoth, OneHistory, OneLog, OnePlace}
use Rattle.log_spec.specs.LogText.{IsOpen, Record, front_text, magic, payload_text, record_text, sized}
use Rattle.log_spec.specs.Reading.{IsGroupOf, LeavesAt, LeavesForm}
use Rattle.log_spec.proofs.Commits.{one_group}
use Rattle.log_spec.proofs.Fronts.{head_is, no_nil, sized_front, tail_is}

-- two lists of open records in front of closed gates have the same payloads and the same length
same_records : (rs qs : List Record) → AllByRecursion IsOpen rs → AllByRecursion IsOpen qs → (x y : List ℕ)
    → flat_map record_text rs ++ 0 ∷ x ≡ flat_map record_text qs ++ 0 ∷ y
    → (map (λ (r : Record). r.payload) rs ≡ map (λ (r : Record). r.payload) qs) × (length (flat_map record_text rs) ≡ length (flat_map record_text qs))
same_records [] [] ors oqs x y is = (refl, refl)
same_records [] (q ∷ qs) ors oqs x y is = absurd (oqs.0.gate (sym (head_is 0 q.gate x ((sized q.payload ++ flat_map record_text qs) ++ 0 ∷ y) is)))
same_records (r ∷ rs) [] ors oqs x y is = absurd (ors.0.gate (head_is r.gate 0 ((sized r.payload ++ flat_map record_text rs) ++ 0 ∷ x) y is))
same_records (r ∷ rs) (q ∷ qs) ors oqs x y is =
    let body = tail_is r.gate q.gate ((sized r.payload ++ flat_map record_text rs) ++ 0 ∷ x) ((sized q.payload ++ flat_map record_text qs) ++ 0 ∷ y) is in
    let parted = sym (append_assoc (sized r.payload) (flat_map record_text rs) (0 ∷ x)) ∙ body ∙ append_assoc (sized q.payload) (flat_map record_text qs) (0 ∷ y) in
    let found = sized_front r.payload q.payload (flat_map record_text rs ++ 0 ∷ x) (flat_map record_text qs ++ 0 ∷ y) ors.0.short oqs.0.short parted in
    let others = same_records rs qs ors.1 oqs.1 x y found.1 in (
      (λ i. found.0 i ∷ others.0 i),
      length-append (r.gate ∷ sized r.payload) (flat_map record_text rs)
          ∙ omega (arith, ap length found.0, others.1, length-append (to_le_bytes w32 (length r.payload)) r.payload, length-append (to_le_bytes w32 (length q.payload)) q.payload)
          ∙ sym (length-append (q.gate ∷ sized q.payload) (flat_map record_text qs)),
    )

pub one_log : OneLog
one_log payloads others gate other bytes a b =
    let both : front_text a.records ++ 0 ∷ a.behind ≡ front_text b.records ++ 0 ∷ b.behind = sym a.is ∙ b.is in
    let behind_magic : flat_map record_text a.records ++ 0 ∷ a.behind ≡ flat_map record_text b.records ++ 0 ∷ b.behind = ap (λ (l : List ℕ). drop 8 l) both in
    let found = same_records a.records b.records a.are_open b.are_open a.behind b.behind behind_magic in (
      sym a.same ∙ found.0 ∙ b.same,
      sym a.place ∙ length-append magic (flat_map record_text a.records) ∙ ap (λ (n : ℕ). length magic + n) found.1 ∙ sym (length-append magic (flat_map record_text b.records)) ∙ b.place,
    )

-- ---- bytes that leave the form

-- Each payload is that of a group of the tables.
abbrev AreGroups : List TableDecl → List Record → Type 0
AreGroups tables [] = Unit {0}
AreGroups tables (r ∷ rs) = ((group : History) × IsGroupOf tables group × (r.payload ≡ payload_text group)) × AreGroups tables rs

are_groups : (tables : List TableDecl) (rs : List Record) (groups : List History) → map (λ (r : Record). r.payload) rs ≡ map payload_text groups
    → AllByRecursion (IsGroupOf tables) groups → AreGroups tables rs
are_groups tables [] groups same all = tt
are_groups tables (r ∷ rs) [] same all = absurd (no_nil r.payload (map (λ (x : Record). x.payload) rs) same)
are_groups tables (r ∷ rs) (g ∷ groups) same all =
    ((g, all.0, ap (λ (l : List (List ℕ)). get_or l 0 []) same), are_groups tables rs groups (ap (λ (l : List (List ℕ)). drop 1 l) same) all.1)

never_from : (tables : List TableDecl) (rs qs : List Record) → AllByRecursion IsOpen rs → AllByRecursion IsOpen qs → AreGroups tables rs → (x rest : List ℕ) → LeavesForm tables rest
    → flat_map record_text rs ++ 0 ∷ x ≡ flat_map record_text qs ++ rest → ⊥
never_from tables [] [] ors oqs are x [] leaves is = no_nil 0 x is
never_from tables [] [] ors oqs are x (g ∷ rest) leaves is = leaves.0 (sym (head_is 0 g x rest is))
never_from tables [] (q ∷ qs) ors oqs are x rest leaves is = oqs.0.gate (sym (head_is 0 q.gate x ((sized q.payload ++ flat_map record_text qs) ++ rest) is))
never_from tables (r ∷ rs) [] ors oqs are x [] leaves is = no_nil r.gate ((sized r.payload ++ flat_map record_text rs) ++ 0 ∷ x) is
never_from tables (r ∷ rs) [] ors oqs are x (g ∷ rest) leaves is =
    leaves.1 (record {
      gate = r.gate;
      group = are.0.0;
      behind = flat_map record_text rs ++ 0 ∷ x;
      opens = ors.0.gate;
      are = are.0.1;
      is = sym is ∙ ap (λ (l : List ℕ). r.gate ∷ l) (append_assoc (sized r.payload) (flat_map record_text rs) (0 ∷ x) ∙ ap (λ (p : List ℕ). sized p ++ (flat_map record_text rs ++ 0 ∷ x)) are.0.2);
    })
never_from tables (r ∷ rs) (q ∷ qs) ors oqs are x rest leaves is =
    let body = tail_is r.gate q.gate ((sized r.payload ++ flat_map record_text rs) ++ 0 ∷ x) ((sized q.payload ++ flat_map record_text qs) ++ rest) is in
    let parted = sym (append_assoc (sized r.payload) (flat_map record_text rs) (0 ∷ x)) ∙ body ∙ append_assoc (sized q.payload) (flat_map record_text qs) rest in
    let found = sized_front r.payload q.payload (flat_map record_text rs ++ 0 ∷ x) (flat_map record_text qs ++ rest) ors.0.short oqs.0.short parted in
    never_from tables rs qs ors.1 oqs.1 are.1 x rest leaves found.1

pub never_both : NeverBoth
never_both tables bytes commits place (gate, given) (inl (other, at')) =
    other (ap (λ (l : List ℕ). take 8 l) (given.log.is ∙ append_assoc magic (flat_map record_text given.log.records) (0 ∷ given.log.behind)) ∙ take_at magic (flat_map record_text given.log.records ++ 0 ∷ given.log.behind) 8 refl)
never_both tables bytes commits place (gate, given) (inr leaves) =
    never_from tables given.log.records leaves.records given.log.are_open leaves.are_open
    (are_groups tables given.log.records given.groups given.log.same (recursion_from_All (IsGroupOf tables) given.groups given.are))
    given.log.behind leaves.rest leaves.leaves
    (ap (λ (l : List ℕ). drop 8 l) (sym (append_assoc' given.log.records (0 ∷ given.log.behind)) ∙ sym given.log.is ∙ leaves.is ∙ append_assoc' leaves.records leaves.rest))
  where
    append_assoc' : (rs : List Record) (x : List ℕ) → front_text rs ++ x ≡ magic ++ (flat_map record_text rs ++ x)
    append_assoc' rs x = append_assoc magic (flat_map record_text rs) x

-- A record of the tables stands where bytes leave the form: that can't be.
begins_not : (tables : List TableDecl) (q : Record) (behind rest : List ℕ) → IsOpen q → ((group : History) × IsGroupOf tables group × (q.payload ≡ payload_text group))
    → LeavesForm tables rest → rest ≡ q.gate ∷ (sized q.payload ++ behind) → ⊥
begins_not tables q behind [] open' is_group leaves is = no_nil q.gate (sized q.payload ++ behind) (sym is)
begins_not tables q behind (g ∷ rest) open' is_group leaves is =
    leaves.1 (record {
      gate = q.gate;
      group = is_group.0;
      behind = behind;
      opens = open'.gate;
      are = is_group.1;
      is = is ∙ ap (λ (p : List ℕ). q.gate ∷ (sized p ++ behind)) is_group.2;
    })

place_from : (tables : List TableDecl) (rs qs : List Record) → AllByRecursion IsOpen rs → AllByRecursion IsOpen qs → AreGroups tables rs → AreGroups tables qs
    → (x y : List ℕ) → LeavesForm tables x → LeavesForm tables y → flat_map record_text rs ++ x ≡ flat_map record_text qs ++ y
    → length (flat_map record_text rs) ≡ length (flat_map record_text qs)
place_from tables [] [] ors oqs ars aqs x y lx ly is = refl
place_from tables [] (q ∷ qs) ors oqs ars aqs x y lx ly is =
    absurd (begins_not tables q (flat_map record_text qs ++ y) x oqs.0 aqs.0 lx (is ∙ ap (λ (l : List ℕ). q.gate ∷ l) (append_assoc (sized q.payload) (flat_map record_text qs) y)))
place_from tables (r ∷ rs) [] ors oqs ars aqs x y lx ly is =
    absurd (begins_not tables r (flat_map record_text rs ++ x) y ors.0 ars.0 ly (sym is ∙ ap (λ (l : List ℕ). r.gate ∷ l) (append_assoc (sized r.payload) (flat_map record_text rs) x)))
place_from tables (r ∷ rs) (q ∷ qs) ors oqs ars aqs x y lx ly is =
    let body = tail_is r.gate q.gate ((sized r.payload ++ flat_map record_text rs) ++ x) ((sized q.payload ++ flat_map record_text qs) ++ y) is in
    let parted = sym (append_assoc (sized r.payload) (flat_map record_text rs) x) ∙ body ∙ append_assoc (sized q.payload) (flat_map record_text qs) y in
    let found = sized_front r.payload q.payload (flat_map record_text rs ++ x) (flat_map record_text qs ++ y) ors.0.short oqs.0.short parted in
    let others = place_from tables rs qs ors.1 oqs.1 ars.1 aqs.1 x y lx ly found.1 in
    length-append (r.gate ∷ sized r.payload) (flat_map record_text rs)
    ∙ omega (arith, ap length found.0, others, length-append (to_le_bytes w32 (length r.payload)) r.payload, length-append (to_le_bytes w32 (length q.payload)) q.payload)
    ∙ sym (length-append (q.gate ∷ sized q.payload) (flat_map record_text qs))

begins_magic : (tables : List TableDecl) (bytes : List ℕ) (place : ℕ) → LeavesAt tables bytes place → take 8 bytes ≡ magic
begins_magic tables bytes place leaves =
    ap (λ (l : List ℕ). take 8 l) (leaves.is ∙ append_assoc magic (flat_map record_text leaves.records) leaves.rest) ∙ take_at magic (flat_map record_text leaves.records ++ leaves.rest) 8 refl

pub one_place : OnePlace
one_place tables bytes place other (inl a) (inl b) = a.1 ∙ sym b.1
one_place tables bytes place other (inl a) (inr b) = absurd (a.0 (begins_magic tables bytes other b))
one_place tables bytes place other (inr a) (inl b) = absurd (b.0 (begins_magic tables bytes place a))
one_place tables bytes place other (inr a) (inr b) =
    let both = ap (λ (l : List ℕ). drop 8 l) (sym (append_assoc magic (flat_map record_text a.records) a.rest) ∙ sym a.is ∙ b.is ∙ append_assoc magic (flat_map record_text b.records) b.rest) in
    let found = place_from tables a.records b.records a.are_open b.are_open
    (are_groups tables a.records a.groups a.same (recursion_from_All (IsGroupOf tables) a.groups a.are))
    (are_groups tables b.records b.groups b.same (recursion_from_All (IsGroupOf tables) b.groups b.are))
    a.rest b.rest a.leaves b.leaves both in
    sym a.place_is ∙ length-append magic (flat_map record_text a.records) ∙ ap (λ (n : ℕ). length magic + n) found ∙ sym (length-append magic (flat_map record_text b.records)) ∙ b.place_is

-- ---- one list of commits

-- groups of one list of payloads are the same
same_groups : (tables : List TableDecl) (groups others : List History) → HaveSchemas tables → AllByRecursion (IsGroupOf tables) groups → AllByRecursion (IsGroupOf tables) others
    → map payload_text groups ≡ map payload_text others → groups ≡ others
same_groups tables [] [] schemas a b is = refl
same_groups tables [] (h ∷ others) schemas a b is = absurd (no_nil (payload_text h) (map payload_text others) (sym is))
same_groups tables (g ∷ groups) [] schemas a b is = absurd (no_nil (payload_text g) (map payload_text groups) is)
same_groups tables (g ∷ groups) (h ∷ others) schemas a b is =
    let first = one_group tables g h schemas a.0 b.0 (ap (λ (l : List (List ℕ)). get_or l 0 []) is) in
    let behind = same_groups tables groups others schemas a.1 b.1 (ap (λ (l : List (List ℕ)). drop 1 l) is) in
    λ i. first i ∷ behind i

pub one_history : OneHistory
one_history tables bytes commits others schemas (gate, a) (other, b) =
    let found = one_log (map payload_text a.groups) (map payload_text b.groups) gate other bytes a.log b.log in
    let groups = same_groups tables a.groups b.groups schemas (recursion_from_All (IsGroupOf tables) a.groups a.are) (recursion_from_All (IsGroupOf tables) b.groups b.are) found.0 in
    sym a.same ∙ ap (λ (g : List History). flat_map (λ group. group) g) groups ∙ b.same
