-- Shards have entries of their own keys alone, and no empty one, before and after every event.
use Rattle.std.proofs.Common.{◌≡◌, ◌≢◌, ◌⊎◌, ℕ, ℤ, Bool, true, false, cond, ◌&&◌, ◌==◌, List, [], ◌∷◌, ◌++◌, Option, None, Some, option_map, is_none, is_some, map, fold, unwrap_or, refl, sym, ap, ◌∙◌, subst}
use mathlib.Core.Logic.{inl, inr}
use Rattle.std.specs.Prelude.{◌+◌, ◌/◌, ◌%◌, filter, Result, Ok, Err}
use Rattle.std.specs.List.{list_any}
use Rattle.std.specs.Ordering.{int_cmp, eq_by_cmp}
use Rattle.std.specs.Cmp.{int_cmp_total}
use Rattle.std.specs.FinMap as finite
use Rattle.std.specs.FinMap.{contains_key-keys, get-empty, get-insert, get-remove, int_cmp-IsAntisymmetric, same_map}
use Rattle.std.proofs.lemmas.Bool.{and_parts}
use Rattle.block_layout.specs.Place.{place_of}
use Rattle.block_spec.specs.Bodies.{Body, seal_fault, sealed}
use Rattle.block_spec.specs.declared.change.Change.{Change}
use Rattle.block_spec.specs.declared.change.Change.TheVariants as change
use Rattle.block_spec.specs.Slots.{Row}
use Rattle.core_laws.proofs.Events.Places.{key_cases}
use Rattle.core_laws.proofs.Events.Slots.{num}
use Rattle.core_laws.proofs.Events.States.{name_is, named_changed}
use Rattle.event_spec.specs.declared.event.Event.TheVariants as event
use Rattle.event_spec.specs.declared.event.MovePair.{MovePair}
use Rattle.event_spec.specs.declared.own.OwnKey.{OwnKey}
use Rattle.event_spec.specs.declared.part.Head.{Head}
use Rattle.event_spec.specs.declared.part.Part.TheVariants as part
use Rattle.event_spec.specs.declared.reply.WriteFault.{WriteFault}
use Rattle.event_spec.specs.Effects.{CoreEvent, after_change, after_insert, after_judged, after_move, at_both, change_judged, changes_of, held_pairs, insert_judged, kept_places, places_moved, stale_in, with_place}
use Rattle.event_spec.specs.Judged.{differences}
use Rattle.event_spec.specs.Lawful.{Among}
use Rattle.event_spec.specs.Parts.{Changes, CorePart, Parts, Shape, Name, ShardOf, nothing, names, part_named, changed, each_changed, same_name, shard_of, slots_of, is_head, body_at}
use Rattle.event_spec.specs.Replay.{opening_part, opening_shard, places_from, rows_first}
use Rattle.isolation_spec.specs.declared.read.Read.{Read}
use Rattle.core_laws.proofs.Frames.Looks.{any_true, true_false}
use Rattle.core_laws.specs.Frames.Laws.{ShardsKept, ShardsOpen}
use Rattle.core_laws.specs.Frames.Shards.{ShardHolds, ShardsHold}
use Rattle.isolation_spec.specs.Contents.{key_of}
use Rattle.key_index.specs.Candidates.{Places, candidates_of, with_candidates}
use Rattle.txn_desk.specs.Desk.{DeskState}

-- ---- changes of one shard

-- A shard in order is so with other candidates for one of its own keys.
with_holds : (i : ℕ) (ix : Places) (key : ℤ) (ps : List ℕ) → ShardHolds i ix → shard_of key ≡ i → ShardHolds i (with_candidates ix key ps)
with_holds i ix key [] h own = record {
  own = λ k cs is. h.own k cs (there (eq_by_cmp int_cmp k key) (finite.get ix k) cs (sym (get-remove int_cmp_total ix key k) ∙ is));
  some = λ k is. h.some k (there (eq_by_cmp int_cmp k key) (finite.get ix k) [] (sym (get-remove int_cmp_total ix key k) ∙ is));
}
  where
    there : (b : Bool) (o : Option (List ℕ)) (cs : List ℕ) → cond b None o ≡ Some cs → o ≡ Some cs
    there true o cs e = cc
    there false o cs e = e
with_holds i ix key (p ∷ ps) h own = record {
  own = λ k cs is. owned k cs (sym (get-insert int_cmp_total ix key (p ∷ ps) k) ∙ is) (key_cases k key);
  some = λ k is. filled k (sym (get-insert int_cmp_total ix key (p ∷ ps) k) ∙ is) (key_cases k key);
}
  where
    owned : (k : ℤ) (cs : List ℕ) → cond (eq_by_cmp int_cmp k key) (Some (p ∷ ps)) (finite.get ix k) ≡ Some cs
        → ((eq_by_cmp int_cmp k key ≡ true) × (k ≡ key)) ⊎ ((eq_by_cmp int_cmp k key ≡ false) × (k ≢ key)) → shard_of k ≡ i
    owned k cs is (inl x) = ap shard_of x.1 ∙ own
    owned k cs is (inr x) = h.own k cs (sym (ap (λ b. cond b (Some (p ∷ ps)) (finite.get ix k)) x.0) ∙ is)

    never : Some (p ∷ ps) ≡ Some [] → ⊥
    never e = cc

    filled : (k : ℤ) → cond (eq_by_cmp int_cmp k key) (Some (p ∷ ps)) (finite.get ix k) ≡ Some []
        → ((eq_by_cmp int_cmp k key ≡ true) × (k ≡ key)) ⊎ ((eq_by_cmp int_cmp k key ≡ false) × (k ≢ key)) → ⊥
    filled k is (inl x) = never (sym (ap (λ b. cond b (Some (p ∷ ps)) (finite.get ix k)) x.0) ∙ is)
    filled k is (inr x) = h.some k (sym (ap (λ b. cond b (Some (p ∷ ps)) (finite.get ix k)) x.0) ∙ is)

-- A shard in order is so with one more candidate for one of its own keys.
place_holds : (i : ℕ) (ix : Places) (key : ℤ) (p : ℕ) → ShardHolds i ix → shard_of key ≡ i → ShardHolds i (with_place key p ix)
place_holds i ix key p h own = go (list_any (λ other. other == p) (candidates_of ix key))
  where
    go : (b : Bool) → ShardHolds i (cond b ix (with_candidates ix key (candidates_of ix key ++ p ∷ [])))
    go true = h
    go false = with_holds i ix key (candidates_of ix key ++ p ∷ []) h own

-- an entry's key is there
pub entry_there : (ix : Places) (e : ℤ × List ℕ) → Among e (finite.entries ix) → (cs : List ℕ) × (finite.get ix e.0 ≡ Some cs)
entry_there ix e a = go (finite.get ix e.0) refl (contains_key-keys ix e.0 ∙ named (finite.entries ix) a)
  where
    self : eq_by_cmp int_cmp e.0 e.0 ≡ true
    self = at (key_cases e.0 e.0)
      where
        at : ((eq_by_cmp int_cmp e.0 e.0 ≡ true) × (e.0 ≡ e.0)) ⊎ ((eq_by_cmp int_cmp e.0 e.0 ≡ false) × (e.0 ≢ e.0)) → eq_by_cmp int_cmp e.0 e.0 ≡ true
        at (inl x) = x.0
        at (inr x) = absurd (x.1 refl)

    keyed : (es : List (ℤ × List ℕ)) → Among e es → Among e.0 (map (λ (x : ℤ × List ℕ). x.0) es)
    keyed [] a = absurd a
    keyed (x ∷ es) (inl same) = inl (ap (λ (x : ℤ × List ℕ). x.0) same)
    keyed (x ∷ es) (inr a) = inr (keyed es a)

    named : (es : List (ℤ × List ℕ)) → Among e es → list_any (eq_by_cmp int_cmp e.0) (map (λ (x : ℤ × List ℕ). x.0) es) ≡ true
    named es a = any_true (eq_by_cmp int_cmp e.0) (map (λ (x : ℤ × List ℕ). x.0) es) e.0 (keyed es a) self

    go : (o : Option (List ℕ)) → finite.get ix e.0 ≡ o → is_some (finite.get ix e.0) ≡ true → (cs : List ℕ) × (finite.get ix e.0 ≡ Some cs)
    go None is some = absurd (true_false (sym some ∙ ap is_some is))
    go (Some cs) is some = (cs, is)

-- A shard in order is so with those candidates alone that pass a test.
kept_holds : (i : ℕ) (keep : ℕ → Bool) (ix : Places) → ShardHolds i ix → ShardHolds i (kept_places keep ix)
kept_holds i keep ix h = go (finite.entries ix) (λ e a. let x = entry_there ix e a in h.own e.0 x.0 x.1) ix h
  where
    go : (es : List (ℤ × List ℕ)) → ((e : ℤ × List ℕ) → Among e es → shard_of e.0 ≡ i) → (now : Places) → ShardHolds i now
        → ShardHolds i (fold (λ now (e : ℤ × List ℕ). with_candidates now e.0 (filter keep (candidates_of ix e.0))) now es)
    go [] own now holds = holds
    go (e ∷ es) own now holds =
        go es (λ x a. own x (inr a)) (with_candidates now e.0 (filter keep (candidates_of ix e.0)))
        (with_holds i now e.0 (filter keep (candidates_of ix e.0)) holds (own e (inl refl)))

-- a shard in order is so after pairs moved
pub moved_holds : (sh : Shape) (s : Parts) (i : ℕ) (pairs : List MovePair) (ix : Places) → ShardHolds i ix → ShardHolds i (fold (places_moved sh s i) ix pairs)
moved_holds sh s i [] ix h = h
moved_holds sh s i (pair ∷ pairs) ix h = moved_holds sh s i pairs (places_moved sh s i ix pair) (go (shard_of pair.key == i) refl)
  where
    go : (b : Bool) → (shard_of pair.key == i) ≡ b → ShardHolds i (cond (shard_of pair.key == i) (with_place pair.key pair.target ix) ix)
    go true is = subst (λ b. ShardHolds i (cond b (with_place pair.key pair.target ix) ix)) (sym is) (place_holds i ix pair.key pair.target h (num (shard_of pair.key) i is))
    go false is = subst (λ b. ShardHolds i (cond b (with_place pair.key pair.target ix) ix)) (sym is) h

-- ---- a shard of which all candidates are kept

-- steps that change nothing leave what was there
pub fold_same : {X Y : Type 0} (step : X → Y → X) (x : X) (ys : List Y) → ((y : Y) → Among y ys → step x y ≡ x) → fold step x ys ≡ x
fold_same step x [] same = refl
fold_same step x (y ∷ ys) same = ap (λ z. fold step z ys) (same y (inl refl)) ∙ fold_same step x ys (λ z a. same z (inr a))

-- Where all places pass the test, it keeps them all.
filter_all : (keep : ℕ → Bool) (ps : List ℕ) → ((p : ℕ) → Among p ps → keep p ≡ true) → filter keep ps ≡ ps
filter_all keep [] all = refl
filter_all keep (p ∷ ps) all =
    ap (λ b. cond b (p ∷ filter keep ps) (filter keep ps)) (all p (inl refl)) ∙ ap (λ qs. p ∷ qs) (filter_all keep ps (λ q a. all q (inr a)))

-- A shard with an entry's own candidates put in again is the same.
put_same : (ix : Places) (key : ℤ) (cs : List ℕ) → finite.get ix key ≡ Some cs → finite.get ix key ≢ Some [] → with_candidates ix key cs ≡ ix
put_same ix key [] is some = absurd (some is)
put_same ix key (p ∷ ps) is some = same_map int_cmp_total int_cmp-IsAntisymmetric (finite.insert ix key (p ∷ ps)) ix
    (λ q. get-insert int_cmp_total ix key (p ∷ ps) q ∙ go q (key_cases q key))
  where
    go : (q : ℤ) → ((eq_by_cmp int_cmp q key ≡ true) × (q ≡ key)) ⊎ ((eq_by_cmp int_cmp q key ≡ false) × (q ≢ key))
        → cond (eq_by_cmp int_cmp q key) (Some (p ∷ ps)) (finite.get ix q) ≡ finite.get ix q
    go q (inl x) = ap (λ b. cond b (Some (p ∷ ps)) (finite.get ix q)) x.0 ∙ sym is ∙ ap (finite.get ix) (sym x.1)
    go q (inr x) = ap (λ b. cond b (Some (p ∷ ps)) (finite.get ix q)) x.0

-- a shard in order stays where each candidate of its keys is kept
pub kept_stays : (i : ℕ) (keep : ℕ → Bool) (ix : Places) → ShardHolds i ix
    → ((key : ℤ) (p : ℕ) → shard_of key ≡ i → Among p (candidates_of ix key) → keep p ≡ true) → kept_places keep ix ≡ ix
kept_stays i keep ix h all = fold_same (λ now (e : ℤ × List ℕ). with_candidates now e.0 (filter keep (candidates_of ix e.0))) ix (finite.entries ix) same
  where
    same : (e : ℤ × List ℕ) → Among e (finite.entries ix) → with_candidates ix e.0 (filter keep (candidates_of ix e.0)) ≡ ix
    same e a =
        let there = entry_there ix e a in
        ap (with_candidates ix e.0) (filter_all keep (candidates_of ix e.0) (λ p b. all e.0 p (h.own e.0 there.0 there.1) b) ∙ ap (λ o. unwrap_or o []) there.1)
        ∙ put_same ix e.0 there.0 there.1 (h.some e.0)

-- ---- the events

-- Where there is no part, there is not this one.
none_not : (a : Option CorePart) (x : CorePart) → a ≡ None → a ≡ Some x → ⊥
none_not a x n e = cc

-- A part that is a head is no shard.
head_not : (a : Option CorePart) (x : Head) (y : Places) → a ≡ Some (part.Head x) → a ≡ Some (part.Shard y) → ⊥
head_not a x y n e = cc

-- A part that is a body is no shard.
body_not : (a : Option CorePart) (x : Body) (y : Places) → a ≡ Some (part.Body x) → a ≡ Some (part.Shard y) → ⊥
body_not a x y n e = cc

-- A part that is the desk is no shard.
desk_not : (a : Option CorePart) (x : DeskState) (y : Places) → a ≡ Some (part.Desk x) → a ≡ Some (part.Shard y) → ⊥
desk_not a x y n e = cc

-- A part that is one shard is not another.
shard_is : (a : CorePart) (x y : Places) → a ≡ part.Shard x → a ≡ part.Shard y → x ≡ y
shard_is a x y n e = cc

-- What two equal options hold is the same part.
some_is : (a b : CorePart) → Some a ≡ Some b → a ≡ b
some_is a b e = cc

-- Where changes leave each shard in order, all shards are so after them.
shards_after : (sh : Shape) (s : Parts) (c : Changes) → ((t i : ℕ) (x : Places) → ShardHolds i x → ShardHolds i (c.shard t i x))
    → ShardsHold sh s → ShardsHold sh (each_changed c (names sh) s)
shards_after sh s c step holds t i places is = go (part_named (names sh) s (ShardOf t i)) refl
  where
    new : option_map (changed c (ShardOf t i)) (part_named (names sh) s (ShardOf t i)) ≡ Some (part.Shard places)
    new = sym (named_changed c (names sh) s (ShardOf t i)) ∙ is

    go : (o : Option CorePart) → part_named (names sh) s (ShardOf t i) ≡ o → ShardHolds i places
    go None at = absurd (none_not (option_map (changed c (ShardOf t i)) (part_named (names sh) s (ShardOf t i))) (part.Shard places) (ap (option_map (changed c (ShardOf t i))) at) new)
    go (Some (part.Head x)) at = absurd (head_not (option_map (changed c (ShardOf t i)) (part_named (names sh) s (ShardOf t i))) x places (ap (option_map (changed c (ShardOf t i))) at) new)
    go (Some (part.Body x)) at = absurd (body_not (option_map (changed c (ShardOf t i)) (part_named (names sh) s (ShardOf t i))) x places (ap (option_map (changed c (ShardOf t i))) at) new)
    go (Some (part.Desk x)) at = absurd (desk_not (option_map (changed c (ShardOf t i)) (part_named (names sh) s (ShardOf t i))) x places (ap (option_map (changed c (ShardOf t i))) at) new)
    go (Some (part.Shard x)) at =
        subst (ShardHolds i)
        (shard_is (part.Shard (c.shard t i x)) (c.shard t i x) places refl
        (some_is (part.Shard (c.shard t i x)) (part.Shard places) (sym (ap (option_map (changed c (ShardOf t i))) at) ∙ new)))
        (step t i x (holds t i x at))

module _ (sh : Shape) (s : Parts) where
  -- An insert leaves each shard in order.
  insert_holds : (own : OwnKey) (t : ℕ) (row : Row) (r : Result ℕ WriteFault) (u i : ℕ) (x : Places) → ShardHolds i x → ShardHolds i ((after_insert sh s own t row r).shard u i x)
  insert_holds own t row (Err fault) u i x h = h
  insert_holds own t row (Ok p) u i x h = go ((u == t) && (i == shard_of (key_of row))) refl
    where
      go : (b : Bool) → ((u == t) && (i == shard_of (key_of row))) ≡ b → ShardHolds i (cond ((u == t) && (i == shard_of (key_of row))) (with_place (key_of row) p x) x)
      go true is = subst (λ b. ShardHolds i (cond b (with_place (key_of row) p x) x)) (sym is)
          (place_holds i x (key_of row) p h (sym (num i (shard_of (key_of row)) (and_parts (u == t) (i == shard_of (key_of row)) is).1)))
      go false is = subst (λ b. ShardHolds i (cond b (with_place (key_of row) p x) x)) (sym is) h

  -- A change of a key leaves each shard in order.
  change_holds : (own : OwnKey) (t : ℕ) (choice : Row → Change) (r : Result ℕ WriteFault) (u i : ℕ) (x : Places) → ShardHolds i x → ShardHolds i ((after_change sh s own t choice r).shard u i x)
  change_holds own t choice (Err fault) u i x h = h
  change_holds own t choice (Ok p) u i x h = h

  -- Whichever of two shards in order is chosen, it is in order.
  one_table : (i : ℕ) (x y : Places) (b : Bool) → ShardHolds i x → ShardHolds i y → ShardHolds i (cond b x y)
  one_table i x y true h g = h
  one_table i x y false h g = g

  -- The pairs of a move leave each shard in order.
  move_holds : (t : ℕ) (pairs : List MovePair) (u i : ℕ) (x : Places) → ShardHolds i x → ShardHolds i ((after_move sh s t pairs).shard u i x)
  move_holds t [] u i x h = h
  move_holds t (first ∷ rest) u i x h = one_table i (fold (places_moved sh s i) x (first ∷ rest)) x (u == t) (moved_holds sh s i (first ∷ rest) x h) h

  -- A seal, made or refused, leaves each shard in order.
  seal_holds : (y : Bool) (t b u i : ℕ) (x : Places) → ShardHolds i x → ShardHolds i ((cond y (record nothing { body = at_both t b sealed }) nothing).shard u i x)
  seal_holds true t b u i x h = h
  seal_holds false t b u i x h = h

  -- Each event leaves a shard in order.
  event_holds : (e : CoreEvent) (u i : ℕ) (x : Places) → ShardHolds i x → ShardHolds i ((changes_of sh s e).shard u i x)
  event_holds (event.Begin q) u i x h = h
  event_holds (event.Get own t key) u i x h = h
  event_holds (event.Insert own t row) u i x h = insert_holds own t row (insert_judged sh s own t (key_of row)) u i x h
  event_holds (event.Update own t row) u i x h = change_holds own t (λ old. change.Patch (differences 0 old row)) (change_judged sh s own t (key_of row)) u i x h
  event_holds (event.Delete own t key) u i x h = change_holds own t (λ old. change.Gone) (change_judged sh s own t key) u i x h
  event_holds (event.Read own t b) u i x h = h
  event_holds (event.Range own t low high) u i x h = h
  event_holds (event.Commit own reads) u i x h = judged (stale_in sh s own reads)
    where
      judged : (found : Option (Read × ℕ)) → ShardHolds i ((after_judged sh s own found).shard u i x)
      judged None = h
      judged (Some stale) = h
  event_holds (event.Abort own) u i x h = kept_holds i _ x h
  event_holds event.Oldest u i x h = h
  event_holds (event.Observe t b) u i x h = h
  event_holds (event.Prune t b oldest) u i x h = one_table i _ x (u == t) (kept_holds i _ x h) h
  event_holds (event.Look t b) u i x h = h
  event_holds (event.Move t moves) u i x h = move_holds t (held_pairs sh s t moves) u i x h
  event_holds (event.Seal t b) u i x h = seal_holds (is_none (seal_fault (is_head sh s t b) (body_at sh s t b))) t b u i x h
  event_holds (event.Image t b image) u i x h = h
  event_holds (event.Thaw t b) u i x h = h

-- Shards that are in order are so after every event.
pub shards_kept : ShardsKept
shards_kept sh e s holds = shards_after sh s (changes_of sh s e) (event_holds sh s e) holds

-- ---- the opening core

-- Of parts that were made by their names, the part of a name is what was made by it.
opened_as : (f : Name → CorePart) (ns : List Name) (w : Name) (piece : CorePart) → part_named ns (map f ns) w ≡ Some piece → f w ≡ piece
opened_as f [] w piece is = cc
opened_as f (n ∷ ns) w piece is = go (same_name n w) refl is (opened_as f ns w piece)
  where
    go : (b : Bool) → same_name n w ≡ b → cond b (Some (f n)) (part_named ns (map f ns) w) ≡ Some piece → (part_named ns (map f ns) w ≡ Some piece → f w ≡ piece) → f w ≡ piece
    go true e x rest = ap f (sym (name_is n w e)) ∙ some_is (f n) piece x
    go false e x rest = rest x

-- Where a key has no entry, it has no list of candidates.
no_entry : (k : ℤ) (o : Option (List ℕ)) (cs : List ℕ) → o ≡ None → o ≡ Some cs → ⊥
no_entry k o cs n e = cc

-- A shard without entries is in order.
bare_holds : (i : ℕ) → ShardHolds i finite.empty
bare_holds i = record {
  own = λ k cs is. absurd (no_entry k (finite.get (finite.empty {X = List ℕ} {R = int_cmp}) k) cs (get-empty int_cmp k) is);
  some = λ k is. no_entry k (finite.get (finite.empty {X = List ℕ} {R = int_cmp}) k) [] (get-empty int_cmp k) is;
}

-- A shard over rows has entries of its own keys alone, each with a candidate.
rows_hold : (slots i at : ℕ) (rows : List Row) → ShardHolds i (finite.from_entries (filter (λ entry. shard_of entry.0 == i) (places_from slots at rows)))
rows_hold slots i at [] = bare_holds i
rows_hold slots i at (row ∷ rows) = go (shard_of (key_of row) == i) refl (rows_hold slots i (at + 1) rows)
  where
    place : ℕ
    place = place_of (at / slots) (at % slots)

    others : List (ℤ × List ℕ)
    others = filter (λ entry. shard_of entry.0 == i) (places_from slots (at + 1) rows)

    go : (own : Bool) → (shard_of (key_of row) == i) ≡ own → ShardHolds i (finite.from_entries others)
        → ShardHolds i (finite.from_entries (cond (shard_of (key_of row) == i) ((key_of row, place ∷ []) ∷ others) others))
    go true is rest =
        subst (λ (own : Bool). ShardHolds i (finite.from_entries (cond own ((key_of row, place ∷ []) ∷ others) others))) (sym is)
        (with_holds i (finite.from_entries others) (key_of row) (place ∷ []) rest (num (shard_of (key_of row)) i is))
    go false is rest = subst (λ (own : Bool). ShardHolds i (finite.from_entries (cond own ((key_of row, place ∷ []) ∷ others) others))) (sym is) rest

-- Those of the opening core are in order.
pub shards_open : ShardsOpen
shards_open sh t i places is =
    subst (ShardHolds i)
    (shard_is (opening_part sh (ShardOf t i)) (opening_shard (slots_of sh t) i (rows_first sh t)) places refl (opened_as (opening_part sh) (names sh) (ShardOf t i) (part.Shard places) is))
    (rows_hold (slots_of sh t) i 0 (rows_first sh t))
