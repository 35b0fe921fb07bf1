-- What is held, with a reply more.
use Rattle.std.proofs.Common.{◌≡◌, ℕ, ℤ, ◌+◌, get_or, map, Bool, true, false, ◌&&◌, List, [], ◌∷◌, ◌++◌, length, Option, None, Some, refl, sym, ap, ◌∙◌, inl, arith}
use Rattle.std.specs.Option.{option_map_or}
use Rattle.std.specs.FinMap.{nat_cmp-IsAntisymmetric, int_cmp-IsAntisymmetric}
use Rattle.std.specs.Ordering.{nat_cmp, int_cmp, ordering_then, is_eq}
use Rattle.std.specs.Prelude.{option_map, if◌then◌else◌}
use Rattle.std.specs.declared.cmp.Ordering.{Ordering}
use Rattle.std.specs.declared.cmp.Ordering.TheVariants.{Less, Equal, Greater}
use Rattle.cell_model.specs.declared.cell.Cell.{Cell}
use Rattle.isolation_spec.specs.Contents.{is_place}
use Rattle.isolation_spec.specs.declared.place.Place.{Place}
use Rattle.workload_spec.specs.declared.reply.Who.TheVariants.{Session}
use Rattle.outcome_spec.specs.Entries.{Entry, is_same}
use Rattle.mark_index.specs.Lists.{marks_at, with_mark}
use Rattle.mark_index.specs.Marks.{AreStarts, next_peak}
use Rattle.mark_index.proofs.Noted.{peaks-next, peaks-nil}
use Rattle.outcome_counts.specs.Keys.{is_keyed}
use Rattle.outcome_counts.proofs.Keyed.{nat-same}
use Rattle.outcome_judge.specs.Held.{Held, held_in}
use Rattle.outcome_judge.specs.Rivals.{AreRivals, holds_until, is_writer, IsMarked, row_of, writer_cmp, writer_until}
use Rattle.outcome_judge.specs.Written.{writes_to}
use Rattle.outcome_judge.specs.HistoryKept.{key_cmp, place_in}
use Rattle.outcome_judge.specs.declared.rivals.Rivals.{Rivals}
use Rattle.outcome_judge.specs.declared.rivals.Writer.{Writer}
use Rattle.outcome_judge.specs.declared.keys.RowKey.{RowKey}
use Rattle.outcome_judge.proofs.Leading.{leads-next, leads-nil}

-- ---- keys

-- the write of a place is by its key
pub writes-keyed : (of : RowKey) (key : Option RowKey) (write : Option (Place × Option (List Cell))) → option_map place_in key ≡ option_map (λ w. w.0) write
    → is_keyed key_cmp of key ≡ option_map_or (λ w. is_place w.0 (place_in of)) write false
writes-keyed of None None h = refl
writes-keyed of None (Some write) h = absurd (let never : ⊥ = cc in never)
writes-keyed of (Some key) None h = absurd (let never : ⊥ = cc in never)
writes-keyed of (Some key) (Some write) h = let e : place_in key ≡ write.0 = cc in ap (λ (p : Place). is_place p (place_in of)) e

-- Three comparisons in turn are equal where the second is and the others in turn are.
then-swapped : (a b c : Ordering) → is_eq (ordering_then a (ordering_then b c)) ≡ (is_eq b && is_eq (ordering_then a c))
then-swapped Less Less c = refl
then-swapped Less Equal c = refl
then-swapped Less Greater c = refl
then-swapped Equal Less c = refl
then-swapped Equal Equal c = refl
then-swapped Equal Greater c = refl
then-swapped Greater Less c = refl
then-swapped Greater Equal c = refl
then-swapped Greater Greater c = refl

-- two writers compare as one where their sessions and their rows do
pub writer-same : (a b : Writer) → is_eq (writer_cmp a b) ≡ (is_same (Session a.session) (Session b.session) && is_eq (key_cmp (row_of a) (row_of b)))
writer-same a b =
    then-swapped (nat_cmp a.table b.table) (nat_cmp a.session b.session) (int_cmp a.key b.key)
    ∙ ap (λ (t : Bool). t && is_eq (key_cmp (row_of a) (row_of b))) (nat-same a.session b.session)

-- ---- a reply more

-- Places that each begin at themselves are starts of what is held.
same-starts : (xs : List Held) → AreStarts xs (λ place. place)
same-starts xs = record {
  up_to = λ place inside. omega arith;
  go_on = λ place inside. inl refl;
}

-- where what one reply more holds is marked, the marks are those of one more
pub rivals-next : (entries : List Entry) (front : List Held) (held : Held) (rest : List Held) (n : ℕ) → held_in entries ≡ front ++ held ∷ rest → length front ≡ n
    → (before now : Rivals) → AreRivals entries n before → IsMarked held n before now → AreRivals entries (n + 1) now
rivals-next entries front held rest n whole far before now marked noted = record {
  writers = λ writer. peaks-next (writer_until writer) (λ place. place) (held_in entries) front held rest n whole far (same-starts (held_in entries))
      (marks_at writer_cmp before.writers writer) (marks_at writer_cmp now.writers writer) (marked.writers writer) (is_writer writer held.entry)
      (λ none. ap (λ (b : Bool). if b then held.until else 0) none)
      (noted.writers writer ∙ as-value (is_writer writer held.entry) held.until (λ until. next_peak (marks_at writer_cmp before.writers writer) n n until) (marks_at writer_cmp before.writers writer));
  leads = λ of. leads-next (λ (h : Held). h.entry.reply.who) (holds_until (place_in of)) (held_in entries) front held rest n whole far
      (marks_at key_cmp before.leads of) (marks_at key_cmp now.leads of) (marked.leads of) (writes_to (place_in of) held.entry) held.until refl (noted.leads of);
}
  where
    as-value : {M : Type 0} (put : Bool) (until : ℕ) (mark : ℕ → M) (marks : List M)
        → with_mark put (mark until) marks ≡ (if put then marks ++ mark (if put then until else 0) ∷ [] else marks)
    as-value true until mark marks = refl
    as-value false until mark marks = refl

-- no marks are those of no replies
pub rivals-nil : (entries : List Entry) (rivals : Rivals) → ((writer : Writer) → marks_at writer_cmp rivals.writers writer ≡ []) → ((of : RowKey) → marks_at key_cmp rivals.leads of ≡ []) → AreRivals entries 0 rivals
rivals-nil entries rivals writers leads = record {
  writers = λ writer. rw (writers writer) (peaks-nil (writer_until writer) (λ place. place) (held_in entries) (same-starts (held_in entries)));
  leads = λ of. rw (leads of) (leads-nil (λ (h : Held). h.entry.reply.who) (holds_until (place_in of)) (held_in entries));
}

-- ---- keys that compare as one are one

-- Where two comparisons in turn are equal, each of them is.
then-equal : (a b : Ordering) → is_eq (ordering_then a b) ≡ true → (a ≡ Equal) × (b ≡ Equal)
then-equal Less b h = absurd (let never : ⊥ = cc in never)
then-equal Equal Less h = absurd (let never : ⊥ = cc in never)
then-equal Equal Equal h = (refl, refl)
then-equal Equal Greater h = absurd (let never : ⊥ = cc in never)
then-equal Greater b h = absurd (let never : ⊥ = cc in never)

-- A comparison with the answer equal tests as equal.
equal-eq : (o : Ordering) → o ≡ Equal → is_eq o ≡ true
equal-eq o h = ap is_eq h

-- keys that compare as one are one
pub key-one : (a b : RowKey) → is_eq (key_cmp a b) ≡ true → a ≡ b
key-one a b h =
    let parts = then-equal (nat_cmp a.table b.table) (int_cmp a.key b.key) h in
    let table : a.table ≡ b.table = nat_cmp-IsAntisymmetric a.table b.table parts.0 in
    let key : a.key ≡ b.key = int_cmp-IsAntisymmetric a.key b.key parts.1 in
    ap (λ (n : ℕ). record a { table = n }) table ∙ ap (λ (k : ℤ). record b { key = k }) key

-- so are writers
pub writer-one : (a b : Writer) → is_eq (writer_cmp a b) ≡ true → a ≡ b
writer-one a b h =
    let parts = then-equal (nat_cmp a.table b.table) (ordering_then (nat_cmp a.session b.session) (int_cmp a.key b.key)) h in
    let others = then-equal (nat_cmp a.session b.session) (int_cmp a.key b.key) (equal-eq _ parts.1) in
    let table : a.table ≡ b.table = nat_cmp-IsAntisymmetric a.table b.table parts.0 in
    let session : a.session ≡ b.session = nat_cmp-IsAntisymmetric a.session b.session others.0 in
    let key : a.key ≡ b.key = int_cmp-IsAntisymmetric a.key b.key others.1 in
    ap (λ (n : ℕ). record { table = n; session = a.session; key = a.key }) table
    ∙ ap (λ (n : ℕ). record { table = b.table; session = n; key = a.key }) session
    ∙ ap (λ (k : ℤ). record { table = b.table; session = b.session; key = k }) key

-- a mark that is made of those of its own key
pub pushed-own : {K M : Type 0} (key other : K) (one : Bool) → (one ≡ true → key ≡ other) → (marks : K → List M) (mark : List M → M)
    → with_mark one (mark (marks key)) (marks other) ≡ with_mark one (mark (marks other)) (marks other)
pushed-own key other true same marks mark = ap (λ (k : _). marks other ++ mark (marks k) ∷ []) (same refl)
pushed-own key other false same marks mark = refl

-- the image at a place is that of the element there
pub map-got : {X Y : Type 0} (f : X → Y) (xs front : List X) (x : X) (rest : List X) (place : ℕ) (none : Y) → xs ≡ front ++ x ∷ rest → length front ≡ place → get_or (map f xs) place none ≡ f x
map-got f xs front x rest place none whole far =
    ap (λ (ys : List _). get_or (map f ys) place none) whole ∙ ap (λ (n : ℕ). get_or (map f (front ++ x ∷ rest)) n none) (sym far) ∙ by front
  where
    by : (front : List _) → get_or (map f (front ++ x ∷ rest)) (length front) none ≡ f x
    by [] = refl
    by (y ∷ front) = by front
