-- The writes of commits, laid over each other.
use Rattle.std.proofs.Common.{◌≡◌, ℕ, ◌+◌, ◌<◌, ◌≤◌, nat_le, zero, suc, Bool, true, false, cond, List, [], ◌∷◌, ◌++◌, length, map, take, get_or, Option, None, Some, refl, sym, ap, ◌∙◌, subst, arith, append_assoc, append-nil}
use Rattle.std.specs.List.{list_all}
use Rattle.std.specs.List.Sorted.{IsNonDecreasing, IsNonDecreasingBy}
use Rattle.std.specs.Option.{option_map_or, option_or}
use Rattle.std.specs.Ordering.{nat_cmp}
use Rattle.std.specs.Prelude.{◌==◌, option_map, unwrap_or, is_some, slice_get, if◌then◌else◌}
use Rattle.mark_index.specs.Lists.{marks_at, with_mark}
use Rattle.mark_index.proofs.Noted.{all-weaker, take-next, take-front, filter-all}
use Rattle.outcome_counts.specs.Keys.{is_keyed}
use Rattle.outcome_counts.proofs.Keyed.{nat-same}
use Rattle.cell_model.specs.declared.cell.Cell.{Cell}
use Rattle.isolation_spec.specs.Contents.{State, at_place}
use Rattle.isolation_spec.specs.declared.place.Place.{Place}
use Rattle.std.proofs.lemmas.Bool.Decides.{nat_tests}
use Rattle.std.proofs.lemmas.List.Elements.{filter-append}
use Rattle.std.proofs.lemmas.List.Folds.{list_all-append}
use Rattle.si_machine.proofs.Parts.{map-push}
use Rattle.outcome_spec.specs.Entries.{Entry, commit_in}
use Rattle.outcome_spec.specs.Runs.{commits_as}
use Rattle.outcome_counts.specs.Openings.{opening_of}
use Rattle.outcome_judge.specs.Spots.{row_at}
use Rattle.outcome_judge.specs.Timed.{TimedWrite, after_writes, timed, timed_one, rows_in, up_to}
use Rattle.outcome_judge.specs.HistoryKept.{AreKept, IsNoted, spot_cmp, spot_of, shelf_cmp, shelf_of, count_up_to, place_in, row_up_to, with_one, write_noted}
use Rattle.outcome_judge.specs.Commits.{places_of, first_of, made_of, commit_writes, commits_from, CanLay, IsLaid, AreLater, made_at}
use Rattle.outcome_judge.specs.Own.{changes_of, own_writes, written_by}
use Rattle.outcome_judge.specs.declared.changes.Change.{Change}
use Rattle.outcome_judge.specs.declared.keys.Shelf.{Shelf}
use Rattle.outcome_judge.specs.declared.keys.Spot.{Spot}
use Rattle.outcome_judge.specs.declared.writes.Left.{Left}
use Rattle.outcome_judge.specs.declared.writes.Writes.{Writes}
use Rattle.outcome_judge.proofs.Laid.{at-after}
use Rattle.outcome_judge.proofs.Noted.{kept-next}

-- ---- the places of replies

-- With a reply more, its place is put behind those that pass, if it passes.
places-append : (test : Entry → Bool) (place : ℕ) (front : List Entry) (entry : Entry)
    → places_of test place (front ++ entry ∷ []) ≡ with_mark (test entry) (place + length front) (places_of test place front)
places-append test place [] entry = let e : place ≡ place + 0 = omega arith in by (test entry) e
  where
    by : (b : Bool) → place ≡ place + 0 → (if b then place ∷ [] else []) ≡ with_mark b (place + 0) []
    by true e = ap (λ (n : ℕ). n ∷ []) e
    by false e = refl
places-append test place (first ∷ front) entry =
    let e : (place + 1) + length front ≡ place + suc (length front) = omega arith in
    by (test first) (places-append test (place + 1) front entry ∙ ap (λ (n : ℕ). with_mark (test entry) n (places_of test (place + 1) front)) e)
  where
    pushed : (b : Bool) (n : ℕ) (ps : List ℕ) → place ∷ with_mark b n ps ≡ with_mark b n (place ∷ ps)
    pushed true n ps = refl
    pushed false n ps = refl

    by : (b : Bool) → places_of test (place + 1) (front ++ entry ∷ []) ≡ with_mark (test entry) (place + suc (length front)) (places_of test (place + 1) front)
        → (if b then place ∷ places_of test (place + 1) (front ++ entry ∷ []) else places_of test (place + 1) (front ++ entry ∷ []))
        ≡ with_mark (test entry) (place + suc (length front)) (if b then place ∷ places_of test (place + 1) front else places_of test (place + 1) front)
    by true h = ap (λ (ps : List ℕ). place ∷ ps) h ∙ pushed (test entry) (place + suc (length front)) (places_of test (place + 1) front)
    by false h = h

-- The places among the first replies, with the next one's if it passes, are those among one more.
places-next : (test : Entry → Bool) (entries front : List Entry) (entry : Entry) (rest : List Entry) (n : ℕ) → entries ≡ front ++ entry ∷ rest → length front ≡ n
    → (old : List ℕ) (b : Bool) → test entry ≡ b → old ≡ places_of test 0 (take n entries) → with_mark b n old ≡ places_of test 0 (take (n + 1) entries)
places-next test entries front entry rest n whole far old b is are =
    let start : 0 + length front ≡ n = omega (arith, far) in
    ap (λ (ps : List ℕ). with_mark b n ps) (are ∙ ap (places_of test 0) (take-front entries front entry rest n whole far))
    ∙ sym (ap (places_of test 0) (take-next entries front entry rest n whole far ∙ ap (λ (es : List Entry). es ++ entry ∷ []) (take-front entries front entry rest n whole far))
    ∙ places-append test 0 front entry ∙ ap (λ (k : ℕ). with_mark (test entry) k (places_of test 0 front)) start
    ∙ ap (λ (b : Bool). with_mark b n (places_of test 0 front)) is)

-- the first of some places and a further one
first-pushed : (b : Bool) (n : ℕ) (places : List ℕ) → option_or (slice_get places 0) (if b then Some n else None) ≡ slice_get (with_mark b n places) 0
first-pushed true n [] = refl
first-pushed true n (place ∷ places) = refl
first-pushed false n [] = refl
first-pushed false n (place ∷ places) = refl

-- the first reply that passes, with one reply more
pub first-next : (test : Entry → Bool) (entries front : List Entry) (entry : Entry) (rest : List Entry) (n : ℕ) → entries ≡ front ++ entry ∷ rest → length front ≡ n
    → (old : Option ℕ) (b : Bool) → test entry ≡ b → old ≡ first_of test (take n entries) → option_or old (if b then Some n else None) ≡ first_of test (take (n + 1) entries)
first-next test entries front entry rest n whole far old b is are =
    ap (λ (o : Option ℕ). option_or o (if b then Some n else None)) are
    ∙ first-pushed b n (places_of test 0 (take n entries))
    ∙ ap (λ (ps : List ℕ). slice_get ps 0) (places-next test entries front entry rest n whole far (places_of test 0 (take n entries)) b is refl)

-- A number is keyed by what is told exactly where it is the one shown.
keyed-by : (number : ℕ) (told : Option ℕ) → is_keyed nat_cmp number told ≡ option_map_or (λ shown. shown == number) told false
keyed-by number None = refl
keyed-by number (Some shown) = nat-same shown number

-- a reply has a number as its key where it commits as it
pub commit-keyed : (number : ℕ) (entry : Entry) → is_keyed nat_cmp number (commit_in entry.reply.said) ≡ commits_as number entry
commit-keyed number entry = keyed-by number (commit_in entry.reply.said)

-- ---- a change is laid over the others

-- what is made of something is there where that is
pub some-mapped : {X Y : Type 0} (f : X → Y) (o : Option X) → is_some o ≡ is_some (option_map f o)
some-mapped f None = refl
some-mapped f (Some x) = refl

-- what is kept of a row goes by the time of its writes
pub lay-rise : (time : ℕ) (writes : Writes) → CanLay time writes → (spot : Spot) → IsNonDecreasingBy (λ left. left.time) (marks_at spot_cmp writes.left spot)
lay-rise time writes can spot = can.laid.kept.left_rise spot

-- the row that is found at a place is what the writes left there
pub row-of : (front : List TimedWrite) (writes : Writes) → IsLaid front writes → (spot : Spot) → spot.owner ≡ 0 → (bound : ℕ)
    → unwrap_or (row_up_to bound (marks_at spot_cmp writes.left spot)) None ≡ at_place (after_writes [] (up_to bound front)) (place_in (row_at spot))
row-of front writes laid spot owner bound =
    ap (λ (n : ℕ). unwrap_or (row_up_to bound (marks_at spot_cmp writes.left (record spot { owner = n }))) None) owner
    ∙ ap (λ (o : Option (Option (List Cell))). unwrap_or o None) (laid.kept.left 0 (place_in (row_at spot)) bound)
    ∙ sym (at-after [] (up_to bound (laid.written 0)) (place_in (row_at spot)) tt)
    ∙ ap (λ (ws : List TimedWrite). at_place (after_writes [] (up_to bound ws)) (place_in (row_at spot))) laid.own

-- what is kept with one write more, made no earlier than the others
pub laid-one : (front : List TimedWrite) (before now : Writes) (spot : Spot) (left : Left) (had : Bool) → spot.owner ≡ 0 → IsLaid front before → AreLater left.time front
    → had ≡ is_some (unwrap_or (row_up_to left.time (marks_at spot_cmp before.left spot)) None) → IsNoted spot left had before now → IsLaid (front ++ write_noted spot left ∷ []) now
laid-one front before now spot left had owner laid later has noted =
    let own : laid.written spot.owner ≡ front = ap laid.written owner ∙ laid.own in
    let all : up_to left.time front ≡ front = filter-all (λ w. nat_le w.time left.time) front later in
    let found : had ≡ is_some (at_place (after_writes [] (laid.written spot.owner)) (place_in (row_at spot))) =
    has ∙ ap is_some (row-of front before laid spot owner left.time) ∙ ap (λ (ws : List TimedWrite). is_some (at_place (after_writes [] ws) (place_in (row_at spot)))) (all ∙ sym own) in
    let latest : list_all (λ write. nat_le write.time left.time) (laid.written spot.owner) ≡ true = ap (list_all (λ write. nat_le write.time left.time)) own ∙ later in
    record {
      written = with_one spot.owner (write_noted spot left) laid.written;
      kept = kept-next (λ owner. []) laid.written before now spot left had laid.kept noted latest tt found;
      own = let same : (spot.owner == 0) ≡ true = ap (λ (n : ℕ). n == 0) owner in
          ap (λ (b : Bool). if b then laid.written 0 ++ write_noted spot left ∷ [] else laid.written 0) same ∙ ap (λ (ws : List TimedWrite). ws ++ write_noted spot left ∷ []) laid.own;
    }

-- ---- several changes

-- Of changes that are made at a time none is made behind it.
all-made : (number : ℕ) (changes : List (Place × Option (List Cell))) → AreLater number (timed number changes)
all-made number [] = refl
all-made number (change ∷ changes) = let e : nat_le number number ≡ true = grind (arith, nat_tests) in rw e (all-made number changes)

-- changes made at a time, added, leave no write behind it
pub later-with : (number : ℕ) (front : List TimedWrite) (changes : List (Place × Option (List Cell))) → AreLater number front → AreLater number (front ++ timed number changes)
later-with number front changes h = list_all-append (λ w. nat_le w.time number) front (timed number changes) ∙ rw h (all-made number changes)

-- the changes up to a bound with one more, if it is
pub made-next : (number bound : ℕ) (own : List Change) (change : Change) (b : Bool) → nat_le change.left.time bound ≡ b
    → timed number (changes_of (up_to bound (map written_by (own ++ change ∷ []))))
    ≡ timed number (changes_of (up_to bound (map written_by own))) ++ cond b (made_at number (written_by change) ∷ []) []
made-next number bound own change b is =
    ap (λ (ws : List TimedWrite). timed number (changes_of (up_to bound ws))) (map-push written_by own change)
    ∙ ap (λ (ws : List TimedWrite). timed number (changes_of ws))
    (filter-append (λ w. nat_le w.time bound) (map written_by own) (written_by change ∷ []) ∙ ap (λ (b : Bool). up_to bound (map written_by own) ++ cond b (written_by change ∷ []) []) is)
    ∙ by b
  where
    by : (b : Bool) → timed number (changes_of (up_to bound (map written_by own) ++ cond b (written_by change ∷ []) []))
        ≡ timed number (changes_of (up_to bound (map written_by own))) ++ cond b (made_at number (written_by change) ∷ []) []
    by true = ap (timed number) (map-push (λ (w : TimedWrite). (w.place, w.row)) (up_to bound (map written_by own)) (written_by change))
        ∙ map-push (timed_one number) (changes_of (up_to bound (map written_by own))) ((written_by change).place, (written_by change).row)
    by false = ap (λ (ws : List TimedWrite). timed number (changes_of ws)) (append-nil (up_to bound (map written_by own))) ∙ sym (append-nil (timed number (changes_of (up_to bound (map written_by own)))))

-- the first elements with one more
pub take-next-one : {X : Type 0} (xs : List X) (i : ℕ) (x : X) → i < length xs → x ≡ get_or xs i x → take (i + 1) xs ≡ take i xs ++ x ∷ []
take-next-one {X = X} xs i x within is = let e : i + 1 ≡ suc i = omega arith in ap (λ (n : ℕ). take n xs) e ∙ by xs i within is
  where
    by : (xs : List X) (i : ℕ) → i < length xs → x ≡ get_or xs i x → take (suc i) xs ≡ take i xs ++ x ∷ []
    by [] i within is = absurd (omega (arith, within))
    by (y ∷ xs) zero within is = ap (λ (z : X). z ∷ []) (sym is)
    by (y ∷ xs) (suc i) within is = ap (λ (zs : List X). y ∷ zs) (by xs i (omega (arith, within)) is)

-- a change more of a commit, made up to its bound
pub made-first : (front : List TimedWrite) (number bound : ℕ) (own : List Change) (i : ℕ) (change : Change) → take (i + 1) own ≡ take i own ++ change ∷ [] → change.left.time ≤ bound
    → front ++ timed number (changes_of (up_to bound (map written_by (take (i + 1) own))))
    ≡ (front ++ timed number (changes_of (up_to bound (map written_by (take i own))))) ++ made_at number (written_by change) ∷ []
made-first front number bound own i change next h =
    let test : nat_le change.left.time bound ≡ true = grind (arith, nat_tests, h) in
    ap (λ (cs : List Change). front ++ timed number (changes_of (up_to bound (map written_by cs)))) next
    ∙ ap (λ (ws : List TimedWrite). front ++ ws) (made-next number bound (take i own) change true test)
    ∙ sym (append_assoc front (timed number (changes_of (up_to bound (map written_by (take i own))))) (made_at number (written_by change) ∷ []))

-- a change made behind the bound is not the commit's
pub made-past : (front : List TimedWrite) (number bound : ℕ) (own : List Change) (i : ℕ) (change : Change) → take (i + 1) own ≡ take i own ++ change ∷ [] → bound < change.left.time
    → front ++ timed number (changes_of (up_to bound (map written_by (take (i + 1) own)))) ≡ front ++ timed number (changes_of (up_to bound (map written_by (take i own))))
made-past front number bound own i change next h =
    let test : nat_le change.left.time bound ≡ false = grind (arith, nat_tests, h) in
    ap (λ (cs : List Change). front ++ timed number (changes_of (up_to bound (map written_by cs)))) next
    ∙ ap (λ (ws : List TimedWrite). front ++ ws) (made-next number bound (take i own) change false test ∙ append-nil (timed number (changes_of (up_to bound (map written_by (take i own))))))

-- ---- nothing is laid

-- nothing is kept of owners that wrote nothing
pub laid-none : (writes : Writes) → ((spot : Spot) → marks_at spot_cmp writes.left spot ≡ []) → ((shelf : Shelf) → marks_at shelf_cmp writes.gained shelf ≡ [])
    → ((shelf : Shelf) → marks_at shelf_cmp writes.lost shelf ≡ []) → (bases : ℕ → State) → AreKept bases (λ owner. []) writes
laid-none writes left gained lost bases = record {
  left = λ owner place bound. ap (row_up_to bound) (left (spot_of owner place));
  left_rise = λ spot. subst (λ (ls : List Left). IsNonDecreasingBy (λ left. left.time) ls) (sym (left spot)) (λ i j d low within. absurd (omega (arith, within)));
  gained_rise = λ shelf. subst IsNonDecreasing (sym (gained shelf)) (λ i j d low within. absurd (omega (arith, within)));
  lost_rise = λ shelf. subst IsNonDecreasing (sym (lost shelf)) (λ i j d low within. absurd (omega (arith, within)));
  left_within = λ spot bound h. ap (list_all (λ left. nat_le left.time bound)) (left spot);
  gained_within = λ shelf bound h. ap (list_all (λ time. nat_le time bound)) (gained shelf);
  lost_within = λ shelf bound h. ap (list_all (λ time. nat_le time bound)) (lost shelf);
  rows = λ owner table bound.
      ap (λ (ts : List ℕ). rows_in table (bases owner) + count_up_to bound ts) (lost (shelf_of owner table))
      ∙ sym (ap (λ (ts : List ℕ). rows_in table (bases owner) + count_up_to bound ts) (gained (shelf_of owner table)));
}

-- ---- commits one after another

module _ (openings : List (Option ℕ)) (entries : List Entry) where
  -- the writes of one commit more
  pub commits-next : (first count : ℕ) → commits_from openings entries first (count + 1) ≡ commits_from openings entries first count ++ commit_writes openings entries (first + count)
  commits-next first zero =
      let e : first ≡ first + 0 = omega arith in
      append-nil (commit_writes openings entries first) ∙ ap (commit_writes openings entries) e
  commits-next first (suc count) =
      let e : suc count + 1 ≡ suc (count + 1) = omega arith in
      let f : (first + 1) + count ≡ first + suc count = omega arith in
      ap (commits_from openings entries first) e
      ∙ ap (λ (ws : List TimedWrite). commit_writes openings entries first ++ ws) (commits-next (first + 1) count)
      ∙ sym (append_assoc (commit_writes openings entries first) (commits_from openings entries (first + 1) count) (commit_writes openings entries ((first + 1) + count)))
      ∙ ap (λ (n : ℕ). (commit_writes openings entries first ++ commits_from openings entries (first + 1) count) ++ commit_writes openings entries n) f

  -- What a transaction made at a number, if there is one, has no write behind the number.
  made-at-by : (number place : ℕ) (opening : Option ℕ) → AreLater number (option_map_or (made_of openings entries number place) opening [])
  made-at-by number place None = refl
  made-at-by number place (Some owner) = all-made number (changes_of (up_to place (own_writes owner 0 openings entries)))

  -- What the transaction of a line made at a number, if there is one, has no write behind it.
  commit-at-by : (number : ℕ) (place : Option ℕ) → AreLater number (option_map_or (λ place. option_map_or (made_of openings entries number place) (opening_of openings place) []) place [])
  commit-at-by number None = refl
  commit-at-by number (Some place) = made-at-by number place (opening_of openings place)

  -- no write of a commit is made behind its number
  pub commit-at : (number : ℕ) → AreLater number (commit_writes openings entries number)
  commit-at number = commit-at-by number (first_of (commits_as number) entries)

  -- what has no write behind a time has none behind a later one
  pub lower : (low high : ℕ) → low ≤ high → (writes : List TimedWrite) → AreLater low writes → AreLater high writes
  lower low high h writes k = all-weaker (λ w. nat_le w.time low) (λ w. nat_le w.time high) (λ w is. grind (arith, nat_tests, h, is)) writes k

  -- no write of the commits up to a number is made behind it
  pub commits-later : (first count bound : ℕ) → first + count ≤ bound + 1 → AreLater bound (commits_from openings entries first count)
  commits-later first zero bound h = refl
  commits-later first (suc count) bound h =
      list_all-append (λ w. nat_le w.time bound) (commit_writes openings entries first) (commits_from openings entries (first + 1) count)
      ∙ rw (lower first bound (omega (arith, h)) (commit_writes openings entries first) (commit-at first), commits-later (first + 1) count bound (omega (arith, h))) refl
