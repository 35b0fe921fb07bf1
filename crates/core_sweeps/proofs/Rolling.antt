-- An abort that goes from write to write: what it made of the parts so far, and that it is the
-- event's at the end.
use Rattle.std.proofs.Common.{◌≡◌, ◌≢◌, ◌⊎◌, ℕ, suc, ◌<◌, ℤ, Bool, true, false, cond, not, ◌&&◌, ◌||◌, ◌==◌, List, [], ◌∷◌, ◌++◌, Option, None, Some, is_none, unwrap_or, map, get_or, length, refl, sym, ap, ◌∙◌, subst, arith}
use mathlib.Core.Logic.{inl, inr}
use Rattle.std.specs.Prelude.{filter, All, IfNone}
use Rattle.std.specs.List.{list_all, list_any}
use Rattle.std.specs.FinMap as finite
use Rattle.std.proofs.lemmas.List.Elements.{All-head, All-tail}
use Rattle.std.proofs.lemmas.List.Folds.{list_any-append}
use Rattle.std.proofs.lemmas.Bool.{and_from, cases_Bool, and_right}
use Rattle.block_layout.specs.Place.{block_of, slot_of}
use Rattle.block_spec.specs.Bodies.{Body, is_empty, is_writer, is_written_by, modified, rolled_back_in, slot_in}
use Rattle.block_spec.specs.declared.change.Before.{Before}
use Rattle.block_spec.specs.Slots.{Slot, bare, has_none, is_bare, rolled_back, writer_of}
use Rattle.core_sweeps.specs.SweepSteps.{is_left, is_rolled, is_undone, rolled, undone, undone_so_far, with_gain, without_bare}
use Rattle.core_laws.proofs.Events.Aborted.{rolled_slot}
use Rattle.core_laws.proofs.Events.ByKind.{rests_at, twice_at}
use Rattle.core_laws.proofs.Events.Lists.{member_below}
use Rattle.core_laws.proofs.Events.Naming.{body_is_there, body_there, follows_machine}
use Rattle.core_laws.proofs.Events.Owners.{all_slots}
use Rattle.core_laws.proofs.Events.Slots.{body_of, num, num_refl}
use Rattle.core_laws.specs.Events.Named.{FollowsMachine}
use Rattle.event_spec.specs.declared.own.OwnTransaction.{OwnTransaction}
use Rattle.event_spec.specs.declared.part.Head.{Head}
use Rattle.event_spec.specs.declared.part.Part.TheVariants as part
use Rattle.event_spec.specs.Effects.{after_abort, closed, kept_places, with_empty}
use Rattle.event_spec.specs.Lawful.{Among, HasBlock, HasTable, OwnsAll}
use Rattle.event_spec.specs.Parts.{CorePart, Parts, Shape, Name, HeadOf, ShardOf, BodyOf, below, blocks_of, body_at, body_from, changed, desk_at, head_at, head_from, nothing, part_at, places_at, shard_from, shard_of, slot_at}
use Rattle.event_spec.specs.Sound.{IsShape, Sound}
use Rattle.core_laws.proofs.Frames.Frames.{abort_stays, written_passes}
use Rattle.core_laws.proofs.Frames.Looks.{true_false}
use Rattle.core_laws.proofs.Frames.Makes.{head_is_there}
use Rattle.core_laws.proofs.Frames.Replies.{filter_same}
use Rattle.core_laws.specs.Frames.Shards.{ShardHolds, ShardsHold}
use Rattle.isolation_spec.specs.Contents.{PlaceMap, at_place, place_at}
use Rattle.isolation_spec.specs.declared.place.Place.{Place}
use Rattle.key_index.specs.Candidates.{Places, candidates_of}
use Rattle.core_parts.proofs.Heads.{gains_go_on, knowing_rests, swept_knows}
use Rattle.core_parts.proofs.Shards.{drops_go_on, sweep_rests, sweeps_agree}
use Rattle.core_laws.proofs.Slots.Endings.{rolled_back_other}
use Rattle.core_laws.proofs.Slots.Kept.{writer_filled}
use Rattle.core_laws.proofs.Sound.Fewer.{slots_lawful, unwritten}
use Rattle.undo_chain.specs.declared.undo.Undo.{Undo}
use Rattle.undo_chain.specs.Entry.{is_move, is_own}
use Rattle.undo_chain.specs.Lawful.{IsLawful, IsWriteOrStamped}

-- ---- tests

-- A disjunction with true behind is true.
or_true : (b : Bool) → (b || true) ≡ true
or_true true = refl
or_true false = refl

-- A disjunction with false behind is its first part.
or_none : (b : Bool) → (b || false) ≡ b
or_none true = refl
or_none false = refl

-- a test of a list with one element more
pub any_more : {X : Type 0} (test : X → Bool) (xs : List X) (x : X) → list_any test (xs ++ x ∷ []) ≡ (list_any test xs || test x)
any_more test xs x = list_any-append test xs (x ∷ []) ∙ ap (λ b. list_any test xs || b) (or_none (test x))

-- unequal numbers are tested to be so
pub differs : (a b : ℕ) → a ≢ b → (a == b) ≡ false
differs a b ne = go (a == b) refl
  where
    go : (x : Bool) → (a == b) ≡ x → (a == b) ≡ false
    go true e = absurd (ne (num a b e))
    go false e = e

-- ---- a body that is rolled back

-- no entry of the session is on top
none_left : (q : ℕ) (es : List (Undo Before)) → All IsWriteOrStamped es → is_writer q (writer_of (filter (λ undo. not (is_own undo q)) es)) ≡ false
none_left q [] each = refl
none_left q (e ∷ es) each = go (is_own e q) refl (none_left q es (All-tail IsWriteOrStamped e es each))
  where
    top : (stamp : Option ℕ) → e.stamp ≡ stamp → is_own e q ≡ false → is_writer q (cond (is_none e.stamp) (Some e.session) None) ≡ false
    top (Some n) is own = ap (λ o. is_writer q (cond (is_none o) (Some e.session) None)) is
    top None is own =
        ap (λ o. is_writer q (cond (is_none o) (Some e.session) None)) is
        ∙ write (sym (ap (λ o. is_none o && not (is_move e.kind) && (e.session == q)) is) ∙ own)
      where
        plain : is_move e.kind ≡ false
        plain = subst (λ o. IfNone o (is_move e.kind ≡ false)) is (All-head IsWriteOrStamped e es each)

        write : (not (is_move e.kind) && (e.session == q)) ≡ false → (e.session == q) ≡ false
        write x = sym (ap (λ b. not b && (e.session == q)) plain) ∙ x

    go : (b : Bool) → is_own e q ≡ b → is_writer q (writer_of (filter (λ undo. not (is_own undo q)) es)) ≡ false
        → is_writer q (writer_of (cond (not (is_own e q)) (e ∷ filter (λ undo. not (is_own undo q)) es) (filter (λ undo. not (is_own undo q)) es))) ≡ false
    go true is rest = ap (λ b. is_writer q (writer_of (cond (not b) (e ∷ filter (λ undo. not (is_own undo q)) es) (filter (λ undo. not (is_own undo q)) es)))) is ∙ rest
    go false is rest = ap (λ b. is_writer q (writer_of (cond (not b) (e ∷ filter (λ undo. not (is_own undo q)) es) (filter (λ undo. not (is_own undo q)) es)))) is ∙ top e.stamp refl is

-- After its roll-back a session writes none of the lawful slots.
all_rolled : (q : ℕ) (xs : List Slot) → ((j : ℕ) → j < length xs → IsLawful (get_or xs j bare).entries) → list_any (λ slot. is_writer q (writer_of slot.entries)) (map (rolled_back q) xs) ≡ false
all_rolled q [] lawful = refl
all_rolled q (x ∷ xs) lawful =
    ap (λ b. b || list_any (λ slot. is_writer q (writer_of slot.entries)) (map (rolled_back q) xs)) (none_left q x.entries (lawful 0 (omega arith)).writes)
    ∙ all_rolled q xs (λ j less. lawful (suc j) (omega (arith, less)))

-- a roll-back of a body that is rolled back leaves it
pub rolled_once : (q : ℕ) (body : Body) → ((j : ℕ) → j < length body.slots → IsLawful (slot_in body j).entries) → rolled_back_in q (rolled_back_in q body) ≡ rolled_back_in q body
rolled_once q body lawful = go (is_written_by q body) refl
  where
    rolled : Body
    rolled = record (modified body) { slots = map (rolled_back q) body.slots }

    go : (b : Bool) → is_written_by q body ≡ b → rolled_back_in q (rolled_back_in q body) ≡ rolled_back_in q body
    go false is = let same : rolled_back_in q body ≡ body = ap (λ b. cond b (record (modified body) { slots = map (rolled_back q) body.slots }) body) is in ap (rolled_back_in q) same
    go true is =
        let same : rolled_back_in q body ≡ record (modified body) { slots = map (rolled_back q) body.slots } = ap (λ b. cond b (record (modified body) { slots = map (rolled_back q) body.slots }) body) is in
        ap (rolled_back_in q) same
        ∙ ap (λ b. cond b (record (modified (record (modified body) { slots = map (rolled_back q) body.slots })) { slots = map (rolled_back q) (map (rolled_back q) body.slots) }) (record (modified body) { slots = map (rolled_back q) body.slots })) (all_rolled q body.slots lawful)
        ∙ sym same

-- Slots that are all bare are all without an entry.
all_none : (xs : List Slot) → list_all is_bare xs ≡ true → list_all (λ slot. has_none slot.entries) xs ≡ true
all_none [] is = refl
all_none (x ∷ xs) is = go (is_none x.row) (has_none x.entries) (list_all is_bare xs) is (all_none xs)
  where
    go : (a b c : Bool) → ((a && b) && c) ≡ true → (c ≡ true → list_all (λ slot. has_none slot.entries) xs ≡ true) → (b && list_all (λ slot. has_none slot.entries) xs) ≡ true
    go true true c e rest = rest e
    go true false c e rest = absurd (true_false (sym e))
    go false b c e rest = absurd (true_false (sym e))

-- an empty body stays empty
pub rolled_empty : (q : ℕ) (body : Body) → is_empty body ≡ true → is_empty (rolled_back_in q body) ≡ true
rolled_empty q body is =
    ap (λ b. is_empty (cond b (record (modified body) { slots = map (rolled_back q) body.slots }) body)) (unwritten q body.slots (all_none body.slots is)) ∙ is

-- ---- a head and a shard that are told of one more

-- heads that are told of the same empty blocks are the same
pub empty_same : (blocks : ℕ) (empty after : ℕ → Bool) (x : Head) → x.block < blocks → ((b : ℕ) → b < blocks → after b ≡ empty b) → with_empty blocks after x ≡ with_empty blocks empty x
empty_same blocks empty after x own same =
    ap (λ b. record x { taken = cond b 0 x.taken; empty = filter (λ b. after b && not (b == x.block)) (below blocks) }) (same x.block own)
    ∙ ap (λ bs. record x { taken = cond (empty x.block) 0 x.taken; empty = bs })
    (filter_same (λ b. empty b && not (b == x.block)) (λ b. after b && not (b == x.block)) (below blocks) (λ b a. ap (λ c. c && not (b == x.block)) (same b (let r = member_below 0 blocks b a in omega (arith, r)))))

-- a head that is told of one block more knows which are empty then
pub learns : (blocks block : ℕ) (empty after : ℕ → Bool) (x : Head) (now : Bool) → x.block < blocks → block < blocks
    → ((b : ℕ) → b ≢ block → after b ≡ empty b) → after block ≡ now → (empty block ≡ true → now ≡ true)
    → with_gain now block (with_empty blocks empty x) ≡ with_empty blocks after x
learns blocks block empty after x true own less others is more =
    gains_go_on blocks block empty after (with_empty blocks empty x) (swept_knows blocks empty x) less at own
    ∙ ap (λ n. record x { taken = n; empty = filter (λ b. after b && not (b == x.block)) (below blocks) }) (taken (after x.block) (empty x.block) refl refl)
  where
    at : (b : ℕ) → b < blocks → after b ≡ (empty b || (b == block))
    at b small = go (b == block) refl
      where
        go : (c : Bool) → (b == block) ≡ c → after b ≡ (empty b || (b == block))
        go true e = ap after (num b block e) ∙ is ∙ sym (ap (λ c. empty b || c) e ∙ or_true (empty b))
        go false e = others b (λ same. true_false (sym (ap (λ y. y == block) same ∙ num_refl block) ∙ e)) ∙ sym (ap (λ c. empty b || c) e ∙ or_none (empty b))

    stays : (b : ℕ) → empty b ≡ true → after b ≡ true
    stays b e = go (b == block) refl
      where
        go : (c : Bool) → (b == block) ≡ c → after b ≡ true
        go true same = ap after (num b block same) ∙ is
        go false apart = others b (λ same. true_false (sym (ap (λ y. y == block) same ∙ num_refl block) ∙ apart)) ∙ e

    taken : (a e : Bool) → after x.block ≡ a → empty x.block ≡ e → cond (after x.block) 0 (cond (empty x.block) 0 x.taken) ≡ cond (after x.block) 0 x.taken
    taken true e ia ie = ap (λ b. cond b 0 (cond (empty x.block) 0 x.taken)) ia ∙ sym (ap (λ b. cond b 0 x.taken) ia)
    taken false true ia ie = absurd (true_false (sym (stays x.block ie) ∙ ia))
    taken false false ia ie = ap (λ b. cond (after x.block) 0 (cond b 0 x.taken)) ie
learns blocks block empty after x false own less others is more = sym (empty_same blocks empty after x own at)
  where
    none : (b : Bool) → empty block ≡ b → empty block ≡ false
    none true e = absurd (true_false (sym (more e)))
    none false e = e

    at : (b : ℕ) → b < blocks → after b ≡ empty b
    at b small = go (b == block) refl
      where
        go : (c : Bool) → (b == block) ≡ c → after b ≡ empty b
        go true e = let same = num b block e in ap after same ∙ is ∙ sym (none (empty block) refl) ∙ ap empty (sym same)
        go false e = others b (λ same. true_false (sym (ap (λ y. y == block) same ∙ num_refl block) ∙ e))

-- a shard that loses a candidate keeps the others
pub loses : (i : ℕ) (x : Places) (keep after : ℕ → Bool) (key : ℤ) (p : ℕ) (left : Bool) → ShardHolds i x → shard_of key ≡ i
    → (keep p && not left) ≡ after p → after p ≡ not left → ((r : ℕ) → r ≢ p → after r ≡ keep r)
    → ((other : ℤ) → other ≢ key → Among p (candidates_of x other) → ⊥)
    → without_bare left key p (kept_places keep x) ≡ kept_places after x
loses i x keep after key p true h own both is others alone = drops_go_on i x keep after key p h own here (λ other r ne a. others r (λ same. alone other ne (subst (λ r. Among r (candidates_of x other)) same a)))
  where
    and_none : (b : Bool) → (b && false) ≡ false
    and_none true = refl
    and_none false = refl

    and_all : (b : Bool) → (b && true) ≡ b
    and_all true = refl
    and_all false = refl

    here : (r : ℕ) → Among r (candidates_of x key) → after r ≡ (keep r && not (r == p))
    here r a = go (r == p) refl
      where
        go : (c : Bool) → (r == p) ≡ c → after r ≡ (keep r && not (r == p))
        go true e = ap after (num r p e) ∙ is ∙ sym (ap (λ c. keep r && not c) e ∙ and_none (keep r))
        go false e = others r (λ same. true_false (sym (ap (λ y. y == p) same ∙ num_refl p) ∙ e)) ∙ sym (ap (λ c. keep r && not c) e ∙ and_all (keep r))
loses i x keep after key p false h own both is others alone = sym (sweeps_agree i x keep after h (λ k r a. at r))
  where
    and_all : (b : Bool) → (b && true) ≡ b
    and_all true = refl
    and_all false = refl

    at : (r : ℕ) → after r ≡ keep r
    at r = go (r == p) refl
      where
        go : (c : Bool) → (r == p) ≡ c → after r ≡ keep r
        go true e = let same = num r p e in ap after same ∙ sym both ∙ and_all (keep p) ∙ ap keep (sym same)
        go false e = others r (λ same. true_false (sym (ap (λ y. y == p) same ∙ num_refl p) ∙ e))

-- the shard of a key that has a candidate
pub shard_owns : (i : ℕ) (x : Places) (key : ℤ) (p : ℕ) → ShardHolds i x → Among p (candidates_of x key) → shard_of key ≡ i
shard_owns i x key p h a = go (finite.get x key) refl a
  where
    go : (o : Option (List ℕ)) → finite.get x key ≡ o → Among p (unwrap_or o []) → shard_of key ≡ i
    go None is b = absurd b
    go (Some ps) is b = h.own key ps is

module _ (sh : Shape) (s : Parts) (shape : IsShape sh) (ok : Sound sh s) (shards : ShardsHold sh s) (own : OwnTransaction) (owns : OwnsAll sh own s) where
  -- How the core before the abort follows a machine.
  abbrev f : FollowsMachine sh s ok.follows.0
  f = follows_machine sh s ok

  -- The session that is aborted.
  abbrev q : ℕ
  q = own.session

  -- The entries of each slot of a body are lawful.
  lawful_in : (t b : ℕ) → HasBlock sh t b → (j : ℕ) → j < length (body_at sh s t b).slots → IsLawful (slot_in (body_at sh s t b) j).entries
  lawful_in t b has j less = (slots_lawful sh s shape ok t b has j less).lawful

  -- ---- what a write's place is

  module _ (t : ℕ) (key : ℤ) (p : ℕ) (there : at_place own.writes (place_at t key) ≡ Some p) where
    -- a write's place is a candidate of its key
    pub candidate : Among p (places_at sh s t key)
    candidate = ((all_slots sh s ok own owns t key).there p there).0

    -- the open entries on top of its slot are the session's
    pub wrote : writer_of (slot_at sh s t p).entries ≡ Some own.session
    wrote = ((all_slots sh s ok own owns t key).there p there).1

    -- the block of the write is there
    pub block_is_there : HasBlock sh t (block_of p)
    block_is_there =
        let b = body_of sh s f.kinds t p (writer_filled (slot_at sh s t p) own.session wrote) in
        body_is_there sh s t (block_of p) (part.Body b.0) b.1

  -- ---- at first

  -- With no write undone yet a head is as it was.
  first_head : (t : ℕ) (x : Head) → part_at sh s (HeadOf t) ≡ Some (part.Head x) → (undone_so_far sh s own.session []).head t x ≡ x
  first_head t x is =
      let h = ok.heads t (head_is_there sh s t (part.Head x) is) in
      let same : head_at sh s t ≡ x = ap head_from is in
      subst (λ (x : Head). with_empty (blocks_of sh t) (λ b. is_empty (body_at sh s t b)) x ≡ x) same
      (knowing_rests (blocks_of sh t) (λ b. is_empty (body_at sh s t b)) (λ b. is_empty (body_at sh s t b)) (head_at sh s t)
      (record { others = h.empty; own = h.anew }) (h.block.1) (λ other less. refl))

  -- With no write undone yet a shard is as it was.
  first_shard : (t i : ℕ) (x : Places) → part_at sh s (ShardOf t i) ≡ Some (part.Shard x) → (undone_so_far sh s own.session []).shard t i x ≡ x
  first_shard t i x is = sweep_rests i x (λ p. not (false && is_left sh s own.session t p)) (shards t i x is) (λ key p a. refl)

  -- before the first write nothing is undone
  pub at_first : (n : Name) (x : CorePart) → part_at sh s n ≡ Some x → changed (undone_so_far sh s own.session []) n x ≡ x
  at_first = rests_at (λ n x. part_at sh s n ≡ Some x) (undone_so_far sh s own.session [])
      (record { head = first_head; shard = first_shard; body = λ t b x is. refl; desk = λ x is. refl })

  -- ---- one write more

  module _ (done : PlaceMap ℕ) (t : ℕ) (key : ℤ) (p : ℕ) (there : at_place own.writes (place_at t key) ≡ Some p) where
    abbrev after : PlaceMap ℕ
    after = done ++ (place_at t key, p) ∷ []

    rolled_after : (u b : ℕ) → is_rolled (done ++ (place_at t key, p) ∷ []) u b ≡ (is_rolled done u b || ((t == u) && (block_of p == b)))
    rolled_after u b = any_more (λ (write : Place × ℕ). (write.0.table == u) && (block_of write.1 == b)) done (place_at t key, p)

    undone_after : (u r : ℕ) → is_undone (done ++ (place_at t key, p) ∷ []) u r ≡ (is_undone done u r || ((t == u) && (p == r)))
    undone_after u r = any_more (λ (write : Place × ℕ). (write.0.table == u) && (write.1 == r)) done (place_at t key, p)

    -- the body of the write
    pub body_more : rolled_back_in own.session (rolled own.session done t (block_of p) (body_at sh s t (block_of p))) ≡ rolled_back_in own.session (body_at sh s t (block_of p))
    body_more = go (is_rolled done t (block_of p))
      where
        go : (b : Bool) → rolled_back_in own.session (cond b (rolled_back_in own.session (body_at sh s t (block_of p))) (body_at sh s t (block_of p))) ≡ rolled_back_in own.session (body_at sh s t (block_of p))
        go true = rolled_once own.session (body_at sh s t (block_of p)) (lawful_in t (block_of p) (block_is_there t key p there))
        go false = refl

    body_step : (u b : ℕ) (x : Body) → part_at sh s (BodyOf u b) ≡ Some (part.Body x)
        → cond ((u == t) && (b == block_of p)) (rolled_back_in own.session (rolled own.session done u b x)) (rolled own.session done u b x)
        ≡ rolled own.session (done ++ (place_at t key, p) ∷ []) u b x
    body_step u b x is = go (cases_Bool (u == t)) (cases_Bool (b == block_of p))
      where
        same_x : body_at sh s u b ≡ x
        same_x = ap body_from is

        next : rolled own.session (done ++ (place_at t key, p) ∷ []) u b x ≡ cond (is_rolled done u b || ((t == u) && (block_of p == b))) (rolled_back_in own.session x) x
        next = ap (λ c. cond c (rolled_back_in own.session x) x) (rolled_after u b)

        stay : ((u == t) && (b == block_of p)) ≡ false → ((t == u) && (block_of p == b)) ≡ false
            → cond ((u == t) && (b == block_of p)) (rolled_back_in own.session (rolled own.session done u b x)) (rolled own.session done u b x)
            ≡ rolled own.session (done ++ (place_at t key, p) ∷ []) u b x
        stay a c =
            ap (λ y. cond y (rolled_back_in own.session (rolled own.session done u b x)) (rolled own.session done u b x)) a
            ∙ sym (next ∙ ap (λ y. cond y (rolled_back_in own.session x) x) (ap (λ y. is_rolled done u b || y) c ∙ or_none (is_rolled done u b)))

        and_none : (a b : Bool) → a ≡ false → (a && b) ≡ false
        and_none true b e = absurd (true_false e)
        and_none false b e = refl

        apart : (a b : ℕ) → (a == b) ≡ false → (b == a) ≡ false
        apart a b e = differs b a (λ same. true_false (sym (ap (λ y. a == y) same ∙ num_refl a) ∙ e))

        go : (((u == t) ≡ true) ⊎ ((u == t) ≡ false)) → (((b == block_of p) ≡ true) ⊎ ((b == block_of p) ≡ false))
            → cond ((u == t) && (b == block_of p)) (rolled_back_in own.session (rolled own.session done u b x)) (rolled own.session done u b x)
            ≡ rolled own.session (done ++ (place_at t key, p) ∷ []) u b x
        go (inl a) (inl c) =
            let one = num u t a in let two = num b (block_of p) c in
            ap (λ y. cond y (rolled_back_in own.session (rolled own.session done u b x)) (rolled own.session done u b x)) (and_from (u == t) (b == block_of p) a c)
            ∙ again (is_rolled done u b)
            ∙ sym (next ∙ ap (λ y. cond y (rolled_back_in own.session x) x)
            (ap (λ y. is_rolled done u b || y) (and_from (t == u) (block_of p == b) (ap (λ y. t == y) one ∙ num_refl t) (ap (λ y. block_of p == y) two ∙ num_refl (block_of p))) ∙ or_true (is_rolled done u b)))
          where
            again : (c : Bool) → rolled_back_in own.session (cond c (rolled_back_in own.session x) x) ≡ rolled_back_in own.session x
            again true = subst (λ (y : Body). rolled_back_in own.session (rolled_back_in own.session y) ≡ rolled_back_in own.session y) same_x
                (rolled_once own.session (body_at sh s u b) (lawful_in u b (body_is_there sh s u b (part.Body x) is)))
            again false = refl
        go (inl a) (inr c) = stay (and_right (u == t) (b == block_of p) c) (and_right (t == u) (block_of p == b) (apart b (block_of p) c))
        go (inr a) c = stay (and_none (u == t) (b == block_of p) a) (and_none (t == u) (block_of p == b) (apart u t a))

    passing : (u r : ℕ) → ((t == u) && (p == r)) ≡ false → is_undone (done ++ (place_at t key, p) ∷ []) u r ≡ is_undone done u r
    passing u r e = undone_after u r ∙ ap (λ b. is_undone done u r || b) e ∙ or_none (is_undone done u r)

    -- the head
    head_step : (u : ℕ) (x : Head) → part_at sh s (HeadOf u) ≡ Some (part.Head x)
        → cond (u == t) (with_gain (is_empty (rolled_back_in own.session (body_at sh s t (block_of p)))) (block_of p) ((undone_so_far sh s own.session done).head u x)) ((undone_so_far sh s own.session done).head u x)
        ≡ (undone_so_far sh s own.session (done ++ (place_at t key, p) ∷ [])).head u x
    head_step u x is = go (u == t) refl
      where
        has : HasTable sh u
        has = head_is_there sh s u (part.Head x) is

        inside : x.block < blocks_of sh u
        inside = subst (λ (x : Head). x.block < blocks_of sh u) (ap head_from is) (ok.heads u has).block.1

        alone : (b : ℕ) → ((t == u) && (block_of p == b)) ≡ false → is_rolled (done ++ (place_at t key, p) ∷ []) u b ≡ is_rolled done u b
        alone b e = rolled_after u b ∙ ap (λ c. is_rolled done u b || c) e ∙ or_none (is_rolled done u b)

        go : (c : Bool) → (u == t) ≡ c
            → cond (u == t) (with_gain (is_empty (rolled_back_in own.session (body_at sh s t (block_of p)))) (block_of p) ((undone_so_far sh s own.session done).head u x)) ((undone_so_far sh s own.session done).head u x)
            ≡ (undone_so_far sh s own.session (done ++ (place_at t key, p) ∷ [])).head u x
        go true e =
            let same = num u t e in
            ap (λ c. cond c (with_gain (is_empty (rolled_back_in own.session (body_at sh s t (block_of p)))) (block_of p) ((undone_so_far sh s own.session done).head u x)) ((undone_so_far sh s own.session done).head u x)) e
            ∙ learns (blocks_of sh u) (block_of p)
            (λ b. is_empty (rolled own.session done u b (body_at sh s u b))) (λ b. is_empty (rolled own.session (done ++ (place_at t key, p) ∷ []) u b (body_at sh s u b)))
            x (is_empty (rolled_back_in own.session (body_at sh s t (block_of p)))) inside
            (subst (λ u. block_of p < blocks_of sh u) (sym same) (block_is_there t key p there).1)
            (λ b ne. ap (λ c. is_empty (cond c (rolled_back_in own.session (body_at sh s u b)) (body_at sh s u b))) (alone b (and_right (t == u) (block_of p == b) (differs (block_of p) b (λ k. ne (sym k))))))
            (ap (λ c. is_empty (cond c (rolled_back_in own.session (body_at sh s u (block_of p))) (body_at sh s u (block_of p))))
            (rolled_after u (block_of p) ∙ ap (λ c. is_rolled done u (block_of p) || c) (and_from (t == u) (block_of p == block_of p) (ap (λ y. t == y) same ∙ num_refl t) (num_refl (block_of p))) ∙ or_true (is_rolled done u (block_of p)))
            ∙ ap (λ u. is_empty (rolled_back_in own.session (body_at sh s u (block_of p)))) same)
            (λ em. subst (λ u. is_empty (rolled_back_in own.session (body_at sh s u (block_of p))) ≡ true) same (before (is_rolled done u (block_of p)) em))
          where
            before : (c : Bool) → is_empty (cond c (rolled_back_in own.session (body_at sh s u (block_of p))) (body_at sh s u (block_of p))) ≡ true → is_empty (rolled_back_in own.session (body_at sh s u (block_of p))) ≡ true
            before true em = em
            before false em = rolled_empty own.session (body_at sh s u (block_of p)) em
        go false e =
            ap (λ c. cond c (with_gain (is_empty (rolled_back_in own.session (body_at sh s t (block_of p)))) (block_of p) ((undone_so_far sh s own.session done).head u x)) ((undone_so_far sh s own.session done).head u x)) e
            ∙ sym (empty_same (blocks_of sh u) (λ b. is_empty (rolled own.session done u b (body_at sh s u b))) (λ b. is_empty (rolled own.session (done ++ (place_at t key, p) ∷ []) u b (body_at sh s u b))) x inside
            (λ b less. ap (λ c. is_empty (cond c (rolled_back_in own.session (body_at sh s u b)) (body_at sh s u b)))
            (alone b (ap (λ c. c && (block_of p == b)) (differs t u (λ same. true_false (sym (ap (λ y. u == y) same ∙ num_refl u) ∙ e)))))))

    -- the shard
    shard_step : (u i : ℕ) (x : Places) → part_at sh s (ShardOf u i) ≡ Some (part.Shard x)
        → cond ((u == t) && (i == shard_of key)) (without_bare (is_bare (slot_in (rolled_back_in own.session (body_at sh s t (block_of p))) (slot_of p))) key p ((undone_so_far sh s own.session done).shard u i x)) ((undone_so_far sh s own.session done).shard u i x)
        ≡ (undone_so_far sh s own.session (done ++ (place_at t key, p) ∷ [])).shard u i x
    shard_step u i x is = go (u == t) (i == shard_of key) refl refl
      where
        h : ShardHolds i x
        h = shards u i x is

        keep : ℕ → Bool
        keep r = not (is_undone done u r && is_left sh s own.session u r)

        among : (k : ℤ) (r : ℕ) → Among r (candidates_of x k) → Among r (places_at sh s u k)
        among k r a =
            subst (Among r) (ap (λ o. candidates_of (shard_from o) k) (sym is) ∙ ap (λ i. candidates_of (shard_from (part_at sh s (ShardOf u i))) k) (sym (shard_owns i x k r h a))) a

        -- a place of another key
        apart : (k : ℤ) → u ≡ t → k ≢ key → Among p (candidates_of x k) → ⊥
        apart k same ne a = ne (f.follows.index.one_key t p k key (subst (λ u. Among p (places_at sh s u k)) same (among k p a)) (candidate t key p there))

        rest : ((k : ℤ) (r : ℕ) → Among r (candidates_of x k) → ((t == u) && (p == r)) ≡ false)
            → kept_places (λ r. not (is_undone done u r && is_left sh s own.session u r)) x ≡ kept_places (λ r. not (is_undone (done ++ (place_at t key, p) ∷ []) u r && is_left sh s own.session u r)) x
        rest none = sym (sweeps_agree i x (λ r. not (is_undone done u r && is_left sh s own.session u r)) (λ r. not (is_undone (done ++ (place_at t key, p) ∷ []) u r && is_left sh s own.session u r)) h
            (λ k r a. ap (λ b. not (b && is_left sh s own.session u r)) (passing u r (none k r a))))

        skip : ((u == t) && (i == shard_of key)) ≡ false
            → cond ((u == t) && (i == shard_of key)) (without_bare (is_bare (slot_in (rolled_back_in own.session (body_at sh s t (block_of p))) (slot_of p))) key p ((undone_so_far sh s own.session done).shard u i x)) ((undone_so_far sh s own.session done).shard u i x)
            ≡ (undone_so_far sh s own.session done).shard u i x
        skip e = ap (λ c. cond c (without_bare (is_bare (slot_in (rolled_back_in own.session (body_at sh s t (block_of p))) (slot_of p))) key p ((undone_so_far sh s own.session done).shard u i x)) ((undone_so_far sh s own.session done).shard u i x)) e

        go : (c d : Bool) → (u == t) ≡ c → (i == shard_of key) ≡ d
            → cond ((u == t) && (i == shard_of key)) (without_bare (is_bare (slot_in (rolled_back_in own.session (body_at sh s t (block_of p))) (slot_of p))) key p ((undone_so_far sh s own.session done).shard u i x)) ((undone_so_far sh s own.session done).shard u i x)
            ≡ (undone_so_far sh s own.session (done ++ (place_at t key, p) ∷ [])).shard u i x
        go true true a b =
            let same = num u t a in let mine = num i (shard_of key) b in
            ap (λ c. cond c (without_bare (is_bare (slot_in (rolled_back_in own.session (body_at sh s t (block_of p))) (slot_of p))) key p ((undone_so_far sh s own.session done).shard u i x)) ((undone_so_far sh s own.session done).shard u i x)) (and_from (u == t) (i == shard_of key) a b)
            ∙ loses i x (λ r. not (is_undone done u r && is_left sh s own.session u r)) (λ r. not (is_undone (done ++ (place_at t key, p) ∷ []) u r && is_left sh s own.session u r)) key p (is_left sh s own.session t p) h (sym mine)
            (both (is_undone done u p) (is_left sh s own.session u p) (ap (λ u. is_left sh s own.session u p) same) ∙ sym (now same))
            (now same)
            (λ r ne. ap (λ b. not (b && is_left sh s own.session u r)) (passing u r (and_right (t == u) (p == r) (differs p r (λ k. ne (sym k))))))
            (λ k ne c. apart k same ne c)
          where
            both : (a b : Bool) {c : Bool} → b ≡ c → (not (a && b) && not c) ≡ not c
            both true true {c} e = ap not e
            both true false {c} e = refl
            both false b {c} e = refl

            now : u ≡ t → not (is_undone (done ++ (place_at t key, p) ∷ []) u p && is_left sh s own.session u p) ≡ not (is_left sh s own.session t p)
            now same =
                ap (λ b. not (b && is_left sh s own.session u p))
                (undone_after u p ∙ ap (λ b. is_undone done u p || b) (and_from (t == u) (p == p) (ap (λ y. t == y) same ∙ num_refl t) (num_refl p)) ∙ or_true (is_undone done u p))
                ∙ ap (λ u. not (is_left sh s own.session u p)) same
        go true false a b = skip (and_right (u == t) (i == shard_of key) b) ∙ rest (λ k r c. and_right (t == u) (p == r) (differs p r (λ same. far k r c same)))
          where
            far : (k : ℤ) (r : ℕ) → Among r (candidates_of x k) → p ≡ r → ⊥
            far k r c same =
                let one = num u t a in
                let key_is : k ≡ key = f.follows.index.one_key t p k key (subst (λ u. Among p (places_at sh s u k)) one (subst (λ r. Among r (places_at sh s u k)) (sym same) (among k r c))) (candidate t key p there) in
                true_false (sym (ap (λ y. i == y) (sym (ap shard_of key_is) ∙ shard_owns i x k r h c) ∙ num_refl i) ∙ b)
        go false d a b = skip (ap (λ c. c && (i == shard_of key)) a) ∙ rest (λ k r c. ap (λ c. c && (p == r)) (differs t u (λ same. true_false (sym (ap (λ y. u == y) same ∙ num_refl u) ∙ a))))

    -- undoing one write more behind those before
    pub one_more : (n : Name) (x : CorePart) → part_at sh s n ≡ Some x
        → changed (undone t key p own.session (rolled_back_in own.session (body_at sh s t (block_of p)))) n (changed (undone_so_far sh s own.session done) n x) ≡ changed (undone_so_far sh s own.session (done ++ (place_at t key, p) ∷ [])) n x
    one_more = twice_at (λ n x. part_at sh s n ≡ Some x) (undone_so_far sh s own.session done) (undone t key p own.session (rolled_back_in own.session (body_at sh s t (block_of p))))
        (undone_so_far sh s own.session (done ++ (place_at t key, p) ∷ []))
        (record { head = head_step; shard = shard_step; body = body_step; desk = λ x is. refl })

  -- ---- at the end

  -- a body that is not among those written stays
  rolled_all : (t b : ℕ) → HasBlock sh t b → rolled own.session own.writes t b (body_at sh s t b) ≡ rolled_back_in own.session (body_at sh s t b)
  rolled_all t b has = go (is_rolled own.writes t b) refl
    where
      go : (c : Bool) → is_rolled own.writes t b ≡ c → cond (is_rolled own.writes t b) (rolled_back_in own.session (body_at sh s t b)) (body_at sh s t b) ≡ rolled_back_in own.session (body_at sh s t b)
      go true e = ap (λ c. cond c (rolled_back_in own.session (body_at sh s t b)) (body_at sh s t b)) e
      go false e =
          let x = body_there sh s ok.kinds t b has in
          ap (λ c. cond c (rolled_back_in own.session (body_at sh s t b)) (body_at sh s t b)) e
          ∙ sym (subst (λ (y : Body). rolled_back_in own.session y ≡ y) (sym (ap body_from x.1)) (abort_stays sh s shape ok own owns t b x.0 x.1 e))

  -- With all writes undone a head is the one that the abort makes.
  last_head : (t : ℕ) (x : Head) → part_at sh s (HeadOf t) ≡ Some (part.Head x) → (undone_so_far sh s own.session own.writes).head t x ≡ (after_abort sh s own).head t x
  last_head t x is =
      let has = head_is_there sh s t (part.Head x) is in
      empty_same (blocks_of sh t) (λ b. is_empty (rolled_back_in own.session (body_at sh s t b))) (λ b. is_empty (rolled own.session own.writes t b (body_at sh s t b))) x
      (subst (λ (x : Head). x.block < blocks_of sh t) (ap head_from is) (ok.heads t has).block.1)
      (λ b less. ap is_empty (rolled_all t b (has, less)))

  -- With all writes undone a shard is the one that the abort makes.
  last_shard : (t i : ℕ) (x : Places) → part_at sh s (ShardOf t i) ≡ Some (part.Shard x) → (undone_so_far sh s own.session own.writes).shard t i x ≡ (after_abort sh s own).shard t i x
  last_shard t i x is = sweeps_agree i x (λ p. not (is_left sh s own.session t p)) (λ p. not (is_undone own.writes t p && is_left sh s own.session t p)) (shards t i x is)
      (λ k p a. at k p (subst (Among p) (ap (λ o. candidates_of (shard_from o) k) (sym is) ∙ ap (λ i. candidates_of (shard_from (part_at sh s (ShardOf t i))) k) (sym (shard_owns i x k p (shards t i x is) a))) a))
    where
      writer_is : (o : Option ℕ) → is_writer own.session o ≡ true → o ≡ Some own.session
      writer_is None e = absurd (true_false (sym e))
      writer_is (Some w) e = ap Some (num w own.session e)

      no_writer : (o : Option ℕ) → is_writer own.session o ≡ false → o ≢ Some own.session
      no_writer o e same = true_false (sym (ap (is_writer own.session) same ∙ num_refl own.session) ∙ e)

      and_left : (a b : Bool) → a ≡ true → not (a && b) ≡ not b
      and_left true b e = refl
      and_left false b e = absurd (true_false (sym e))

      and_rest : (a b : Bool) → b ≡ false → not (a && b) ≡ not b
      and_rest true b e = refl
      and_rest false b e = sym (ap not e)

      at : (k : ℤ) (p : ℕ) → Among p (places_at sh s t k) → not (is_undone own.writes t p && is_left sh s own.session t p) ≡ not (is_left sh s own.session t p)
      at k p a = go (cases_Bool (is_writer own.session (writer_of (slot_at sh s t p).entries)))
        where
          go : ((is_writer own.session (writer_of (slot_at sh s t p).entries) ≡ true) ⊎ (is_writer own.session (writer_of (slot_at sh s t p).entries) ≡ false))
              → not (is_undone own.writes t p && is_left sh s own.session t p) ≡ not (is_left sh s own.session t p)
          go (inl w) = and_left (is_undone own.writes t p) (is_left sh s own.session t p)
              (written_passes (λ u key r. (u == t) && (r == p)) own.writes t k p ((all_slots sh s ok own owns t k).all p a (writer_is (writer_of (slot_at sh s t p).entries) w))
              (and_from (t == t) (p == p) (num_refl t) (num_refl p)))
          go (inr n) = and_rest (is_undone own.writes t p) (is_left sh s own.session t p)
              (ap is_bare (rolled_slot own.session (desk_at sh s).newest (desk_at sh s).commits (body_at sh s t (block_of p)) (slot_of p) (f.follows.slots t p)
              ∙ rolled_back_other own.session (slot_at sh s t p) (f.follows.slots t p).lawful (no_writer (writer_of (slot_at sh s t p).entries) n))
              ∙ f.follows.index.filled t p k a)

  -- With all writes undone a body is the one that the abort makes.
  last_body : (t b : ℕ) (x : Body) → part_at sh s (BodyOf t b) ≡ Some (part.Body x) → (undone_so_far sh s own.session own.writes).body t b x ≡ (after_abort sh s own).body t b x
  last_body t b x is =
      subst (λ (y : Body). rolled own.session own.writes t b y ≡ rolled_back_in own.session y) (ap body_from is) (rolled_all t b (body_is_there sh s t b (part.Body x) is))

  -- with the desk's closing behind all writes, it is the abort's change
  pub at_last : (n : Name) (x : CorePart) → part_at sh s n ≡ Some x
      → changed (record nothing { desk = closed own.session }) n (changed (undone_so_far sh s own.session own.writes) n x) ≡ changed (after_abort sh s own) n x
  at_last = twice_at (λ n x. part_at sh s n ≡ Some x) (undone_so_far sh s own.session own.writes) (record nothing { desk = closed own.session }) (after_abort sh s own)
      (record { head = last_head; shard = last_shard; body = last_body; desk = λ x is. refl })
