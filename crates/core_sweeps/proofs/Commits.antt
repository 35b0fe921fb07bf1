-- A commit, write by write, on a hand.
use Rattle.std.proofs.Common.{◌≡◌, ℕ, zero, suc, ◌+◌, ◌-◌, ◌<◌, ◌≤◌, ◌^◌, ℤ, Bool, true, false, cond, ◌&&◌, ◌||◌, ◌==◌, List, [], ◌∷◌, ◌++◌, Option, None, Some, is_some, map, get_or, length, refl, sym, ap, ◌∙◌, subst, arith, ⊎_elim, inl, inr, All}
use Rattle.std.specs.Map.{lookup}
use Rattle.std.specs.Prelude.{IfSome, IsSome, slice_get, slice_set}
use Rattle.std.proofs.lemmas.Bool.{cases_lt, or_left, or_right, and_from}
use Rattle.std.proofs.lemmas.List.{get_or_past}
use Rattle.std.proofs.lemmas.List.Elements.{All-cons, All-head, All-nil, All-tail}
use Rattle.block_layout.specs.Place.{block_of}
use Rattle.block_spec.specs.Bodies.{Body, committed_in, slot_in}
use Rattle.block_spec.specs.declared.change.Before.{Before}
use Rattle.block_spec.specs.Slots.{Slot, bare, committed}
use Rattle.core_sweeps.specs.CommitSteps.{IsStamped, MayCommit, stamped_so_far}
use Rattle.core_parts.proofs.Changing.{after_twice, alike, desk_change, desk_only, laid_back_changed}
use Rattle.core_parts.proofs.Telling.{a_body, body_is, desk_is, from_one, has_body, has_desk, room}
use Rattle.core_parts.specs.Hands.{Has, Held, Makes, after, in_hand, laid}
use Rattle.core_sweeps.proofs.Handing.{body_in_after, body_is_in, has_still, room_still, room_taken}
use Rattle.core_sweeps.proofs.Rolling.{any_more, block_is_there, differs}
use Rattle.core_sweeps.specs.SweepSteps.{body_changed, body_in, is_rolled}
use Rattle.core_laws.proofs.Events.ByKind.{same_at}
use Rattle.core_laws.proofs.Events.Owners.{all_open}
use Rattle.core_laws.proofs.Events.Slots.{num, num_refl}
use Rattle.event_spec.specs.declared.event.Event.TheVariants as event
use Rattle.event_spec.specs.declared.own.OwnTransaction.{OwnTransaction}
use Rattle.event_spec.specs.declared.part.Part.TheVariants as part
use Rattle.event_spec.specs.declared.reply.Reply.TheVariants as reply
use Rattle.event_spec.specs.Effects.{after_commit, after_judged, closed, is_some_write, numbered, writes_table}
use Rattle.event_spec.specs.Newest.{judged_reads}
use Rattle.event_spec.specs.Replies.{reply_to_commit}
use Rattle.event_spec.specs.Lawful.{Among, HasBlock}
use Rattle.event_spec.specs.Parts.{CorePart, Shape, Name, BodyOf, TheDesk, body_at, changed, desk_at, names, part_at}
use Rattle.event_spec.specs.Touched.{is_body_written, touched_by_reads}
use Rattle.core_laws.proofs.Following.Stepping.{has_pass}
use Rattle.core_laws.proofs.Frames.Distinct.{part_is}
use Rattle.core_laws.proofs.Frames.Frames.{commit_stays, written_passes}
use Rattle.core_laws.proofs.Events.Lists.{all_by}
use Rattle.core_laws.proofs.Frames.Looks.{touches, true_false}
use Rattle.isolation_laws.proofs.Rows.{place_cmp-total}
use Rattle.std.specs.Cmp.{tied_itself}
use Rattle.std.specs.Ordering.{is_eq}
use Rattle.isolation_spec.specs.Contents.{PlaceMap, at_place, is_place, place_at}
use Rattle.isolation_spec.specs.declared.place.Place.{Place}
use Rattle.isolation_spec.specs.Reads.{ReadSet}
use Rattle.core_laws.proofs.Sound.Fewer.{slots_lawful}
use Rattle.txn_desk.specs.declared.Snapshot.{Snapshot}
use Rattle.txn_desk.proofs.Tables.{marked-same}
use Rattle.txn_desk.specs.declared.marks.TableMarks.{TableMarks}
use Rattle.txn_desk.specs.Marks.{is_marked}
use Rattle.txn_desk.specs.Desk.{DeskState, marked}
use Rattle.txn_desk.specs.Oldest.{HasPass, snapshot_of}
use Rattle.undo_chain.specs.declared.undo.Undo.{Undo}
use Rattle.undo_chain.specs.Entry.{is_own}
use Rattle.undo_chain.specs.Lawful.{IsStampedUpTo, NoneStampedAbove}
use Rattle.undo_chain.specs.Stamped.{stamped}

-- ---- stamped once more

-- An entry that is stamped twice is stamped once.
undo_twice : (q s n : ℕ) (u : Undo Before) → stamped q s n (stamped q s n u) ≡ stamped q s n u
undo_twice q s n u = go (is_own u q) refl
  where
    go : (b : Bool) → is_own u q ≡ b → stamped q s n (stamped q s n u) ≡ stamped q s n u
    go true is =
        let once : stamped q s n u ≡ record u { stamp = Some s; number = n } = ap (λ c. record u { stamp = cond c (Some s) u.stamp; number = cond c n u.number }) is in
        ap (stamped q s n) once ∙ sym once
    go false is =
        let same : stamped q s n u ≡ u = ap (λ c. record u { stamp = cond c (Some s) u.stamp; number = cond c n u.number }) is in
        ap (stamped q s n) same

-- Entries that are stamped twice are stamped once.
undos_twice : (q s n : ℕ) (es : List (Undo Before)) → map (stamped q s n) (map (stamped q s n) es) ≡ map (stamped q s n) es
undos_twice q s n [] = refl
undos_twice q s n (e ∷ es) = ap (λ x. x ∷ map (stamped q s n) (map (stamped q s n) es)) (undo_twice q s n e) ∙ ap (λ xs. stamped q s n e ∷ xs) (undos_twice q s n es)

-- Slots that are committed twice are committed once.
slots_twice : (q s n : ℕ) (xs : List Slot) → map (committed q s n) (map (committed q s n) xs) ≡ map (committed q s n) xs
slots_twice q s n [] = refl
slots_twice q s n (x ∷ xs) =
    ap (λ es. (record x { entries = es }) ∷ map (committed q s n) (map (committed q s n) xs)) (undos_twice q s n x.entries) ∙ ap (λ ys. committed q s n x ∷ ys) (slots_twice q s n xs)

-- a commit of a committed body leaves it
committed_once : (q s n : ℕ) (body : Body) → committed_in q s n (committed_in q s n body) ≡ committed_in q s n body
committed_once q s n body = ap (λ slots. record body { slots = slots }) (slots_twice q s n body.slots)

-- ---- stamps

-- Where no stamp is above a limit, none is above the next.
raised : (limit : ℕ) (es : List (Undo Before)) → NoneStampedAbove es limit → NoneStampedAbove es (limit + 1)
raised limit [] all = All-nil (IsStampedUpTo {D = Before} (limit + 1))
raised limit (e ∷ es) all = All-cons (IsStampedUpTo (limit + 1)) e es (one e.stamp (All-head (IsStampedUpTo limit) e es all)) (raised limit es (All-tail (IsStampedUpTo limit) e es all))
  where
    one : (o : Option ℕ) → IfSome o (λ stamp. stamp ≤ limit) → IfSome o (λ stamp. stamp ≤ limit + 1)
    one None x = tt
    one (Some n) x = omega (arith, x)

-- Where no stamp is above the commit's, none is after it stamped the entries.
stamped_below : (q s n : ℕ) (es : List (Undo Before)) → NoneStampedAbove es s → NoneStampedAbove (map (stamped q s n) es) s
stamped_below q s n [] all = All-nil (IsStampedUpTo {D = Before} s)
stamped_below q s n (e ∷ es) all = All-cons (IsStampedUpTo s) (stamped q s n e) (map (stamped q s n) es) (one (is_own e q) (All-head (IsStampedUpTo s) e es all)) (stamped_below q s n es (All-tail (IsStampedUpTo s) e es all))
  where
    one : (b : Bool) → IfSome e.stamp (λ stamp. stamp ≤ s) → IfSome (cond b (Some s) e.stamp) (λ stamp. stamp ≤ s)
    one true x = omega arith
    one false x = x

-- Where no slot has a stamp above the commit's, none has after the commit.
slots_below : (q s n : ℕ) (xs : List Slot) → ((j : ℕ) → NoneStampedAbove (get_or xs j bare).entries s) → (j : ℕ) → NoneStampedAbove (get_or (map (committed q s n) xs) j bare).entries s
slots_below q s n xs all j = subst (λ (x : Slot). NoneStampedAbove x.entries s) (sym (at xs j)) (stamped_below q s n (get_or xs j bare).entries (all j))
  where
    at : (xs : List Slot) (j : ℕ) → get_or (map (committed q s n) xs) j bare ≡ committed q s n (get_or xs j bare)
    at [] j = refl
    at (x ∷ xs) zero = refl
    at (x ∷ xs) (suc j) = at xs j

-- ---- blocks among writes

-- The test of two numbers is the same in either order.
flip : (a b : ℕ) → (a == b) ≡ (b == a)
flip a b = go (a == b) refl
  where
    go : (c : Bool) → (a == b) ≡ c → (a == b) ≡ (b == a)
    go true e = e ∙ sym (ap (λ y. y == a) (sym (num a b e)) ∙ num_refl a)
    go false e = e ∙ sym (differs b a (λ same. true_false (sym (ap (λ y. a == y) same ∙ num_refl a) ∙ e)))

-- what is found in the map of writes is a write of the transaction
pub there_by : (own : OwnTransaction) (entries : PlaceMap ℕ) (place : Place) (p : ℕ) → entries ≡ own.writes → lookup (is_place place) entries ≡ Some p → at_place own.writes place ≡ Some p
there_by own entries place p same found = ap (lookup (is_place place)) (sym same) ∙ found

-- a write among the writes is found at its place, or another of it
found_of : (writes : PlaceMap ℕ) (write : Place × ℕ) → Among write writes → (p : ℕ) × (at_place writes write.0 ≡ Some p)
found_of [] write a = absurd a
found_of (w ∷ writes) write a = go (is_place write.0 w.0) refl a (found_of writes write)
  where
    mine : (place : Place) → is_place place place ≡ true
    mine place = ap is_eq (tied_itself place_cmp-total place)

    go : (b : Bool) → is_place write.0 w.0 ≡ b → Among write (w ∷ writes) → (Among write writes → (p : ℕ) × (at_place writes write.0 ≡ Some p)) → (p : ℕ) × (at_place (w ∷ writes) write.0 ≡ Some p)
    go true is a rest = (w.1, ap (λ b. cond b (Some w.1) (at_place writes write.0)) is)
    go false is (inl same) rest = absurd (true_false (sym (mine write.0) ∙ ap (λ (x : Place × ℕ). is_place write.0 x.0) same ∙ is))
    go false is (inr a) rest = let r = rest a in (r.0, ap (λ b. cond b (Some w.1) (at_place writes write.0)) is ∙ r.1)

-- ---- parts that are touched, and the desk

module _ (sh : Shape) (own : OwnTransaction) (reads : Option ReadSet) (old : Held) (m : MayCommit sh own reads old) where
  -- a part in the hand is the core's part of its name
  pub part_there : (k : ℕ) (n : Name) (x : CorePart) → slice_get (names sh) k ≡ Some n → slice_get old k ≡ Some (Some x) → part_at sh m.may.parts n ≡ Some x
  part_there k n x is at = part_is sh m.may.parts k n x is (m.may.agrees.1 k x at)

  -- Whether the commit reads a part.
  abbrev reads_there : Name → Bool
  reads_there n = touched_by_reads sh (in_hand sh old) (judged_reads own.writes reads) n

  -- It touches the desk.
  desk_there : touches sh (event.Commit own reads) old TheDesk ≡ true
  desk_there = or_right (is_body_written own.writes TheDesk || reads_there TheDesk) true refl

  -- What it makes of the parts, and its reply, are those of a commit that is not refused.
  pub makes_all : (new : Held) (number : Option ℕ) → new ≡ after sh (after_commit sh m.may.parts own) old
      → number ≡ cond (is_some_write own.writes) (Some ((desk_at sh m.may.parts).commits + 1)) None
      → Makes sh (event.Commit own reads) old new (reply.Committed number)
  makes_all new number made counted = from_one sh (event.Commit own reads) old new (reply.Committed number) m.may
      (made ∙ ap (λ found. after sh (after_judged sh m.may.parts own found) old) (sym m.fresh))
      (ap reply.Committed counted ∙ ap (reply_to_commit sh m.may.parts own) (sym m.fresh))

  -- the desk is in the hand
  pub has_the_desk : Has sh old TheDesk
  has_the_desk = has_desk sh (event.Commit own reads) old m.may desk_there

  -- without the desk the hand has a place for each part still
  pub first_room : (taken : Held) → taken ≡ laid sh TheDesk None old → length taken ≡ length (names sh)
  first_room taken out = room_taken sh old taken TheDesk None out (room sh (event.Commit own reads) old m.may)

  -- The desk in the hand is the core's desk.
  desk_same : (x : DeskState) → in_hand sh old TheDesk ≡ Some (part.Desk x) → desk_at sh m.may.parts ≡ x
  desk_same x is = desk_is sh old m.may.parts m.may.agrees x is

  -- the desk has a pass for the session
  pub pass_there : (x : DeskState) → in_hand sh old TheDesk ≡ Some (part.Desk x) → HasPass x own.session
  pass_there x is = subst (λ (x : DeskState). HasPass x own.session) (desk_same x is)
      (has_pass (desk_at sh m.may.parts) own.session own.snapshot (all_open sh m.may.parts m.may.holds.sound own m.may.lawful.0))

  -- and has its transaction open
  pub is_open : (x : DeskState) → in_hand sh old TheDesk ≡ Some (part.Desk x) → IsSome (snapshot_of x own.session)
  is_open x is = subst (λ (x : DeskState). IsSome (snapshot_of x own.session)) (desk_same x is)
      (ap is_some (all_open sh m.may.parts m.may.holds.sound own m.may.lawful.0).is_open)

  -- the next stamp is below 2^63
  pub stamp_left : (x : DeskState) → in_hand sh old TheDesk ≡ Some (part.Desk x) → x.newest + 1 < 2 ^ 63
  stamp_left x is = subst (λ (x : DeskState). x.newest + 1 < 2 ^ 63) (desk_same x is) m.may.lawful.1.0

  module _ (t : ℕ) (key : ℤ) (p : ℕ) (there : at_place own.writes (place_at t key) ≡ Some p) where
    -- the block of a write is there
    pub its_block : HasBlock sh t (block_of p)
    its_block = block_is_there sh m.may.parts m.may.holds.measures m.may.holds.sound m.may.holds.shards own m.may.lawful.0 t key p there

    -- and its body is in the hand
    pub has_its_body : Has sh old (BodyOf t (block_of p))
    has_its_body = has_body sh (event.Commit own reads) old m.may t (block_of p) its_block
        (or_left (is_body_written own.writes (BodyOf t (block_of p)) || reads_there (BodyOf t (block_of p))) false (or_left (is_body_written own.writes (BodyOf t (block_of p))) (reads_there (BodyOf t (block_of p)))
        (written_passes (λ u k r. (u == t) && (block_of r == block_of p)) own.writes t key p there (and_from (t == t) (block_of p == block_of p) (num_refl t) (num_refl (block_of p))))))

  -- without writes only the session ends
  pub ends_without : own.writes ≡ [] → (taken new : Held) (x y : DeskState) → in_hand sh old TheDesk ≡ Some (part.Desk x) → taken ≡ laid sh TheDesk None old → y ≡ closed own.session x
      → new ≡ laid sh TheDesk (Some (part.Desk y)) taken → Makes sh (event.Commit own reads) old new (reply.Committed None)
  ends_without none taken new x y is out made back = makes_all new None
      (laid_back_changed sh (desk_change (closed own.session)) old taken new TheDesk (part.Desk x) (part.Desk (closed own.session x)) (desk_only (closed own.session) x) is out
      (back ∙ ap (λ y. laid sh TheDesk (Some (part.Desk y)) taken) made)
      ∙ alike (desk_change (closed own.session)) (after_commit sh m.may.parts own) (names sh) old (λ k n x at held. same n x))
      (ap (λ b. cond b (Some ((desk_at sh m.may.parts).commits + 1)) None) (sym wrote))
    where
      wrote : is_some_write own.writes ≡ false
      wrote = ap is_some_write none

      same : (n : Name) (x : CorePart) → changed (desk_change (closed own.session)) n x ≡ changed (after_commit sh m.may.parts own) n x
      same n x = same_at (λ n x. Unit {0}) (desk_change (closed own.session)) (after_commit sh m.may.parts own) (record {
        head = λ t x h. refl;
        shard = λ t i x h. refl;
        body = λ t b x h. ap (λ c. (cond c (committed_in own.session ((desk_at sh m.may.parts).newest + 1) ((desk_at sh m.may.parts).commits + 1)) (λ (body : Body). body)) x) (sym wrote);
        desk = λ x h. ap (λ c. closed own.session (cond c (numbered own.writes x) x)) (sym wrote);
      }) n x tt

  -- the desk took the stamp and the number
  pub begins : (taken now : Held) (x y : DeskState) (stamp number : ℕ) → in_hand sh old TheDesk ≡ Some (part.Desk x) → taken ≡ laid sh TheDesk None old → y ≡ closed own.session (numbered own.writes x)
      → now ≡ laid sh TheDesk (Some (part.Desk y)) taken → stamp ≡ x.newest + 1 → number ≡ x.commits + 1 → IsStamped sh own reads stamp number old now []
  begins drawn now x y stamp number is out shut back newest commits = record {
    may = m;
    taken = newest ∙ ap (λ (d : DeskState). d.newest + 1) (sym (desk_same x is));
    counted = commits ∙ ap (λ (d : DeskState). d.commits + 1) (sym (desk_same x is));
    made =
        laid_back_changed sh (desk_change (λ d. closed own.session (numbered own.writes d))) old drawn now TheDesk (part.Desk x) (part.Desk (closed own.session (numbered own.writes x))) (desk_only (λ d. closed own.session (numbered own.writes d)) x) is out
        (back ∙ ap (λ y. laid sh TheDesk (Some (part.Desk y)) drawn) shut)
        ∙ alike (desk_change (λ d. closed own.session (numbered own.writes d))) (stamped_so_far sh m.may.parts own []) (names sh) old (λ k n x at held. same n x);
  }
    where
      same : (n : Name) (x : CorePart) → changed (desk_change (λ d. closed own.session (numbered own.writes d))) n x ≡ changed (stamped_so_far sh m.may.parts own []) n x
      same n x = same_at (λ n x. Unit {0}) (desk_change (λ d. closed own.session (numbered own.writes d))) (stamped_so_far sh m.may.parts own [])
          (record { head = λ t x h. refl; shard = λ t i x h. refl; body = λ t b x h. refl; desk = λ x h. refl }) n x tt

  -- Each table that the transaction wrote is one of 16.
  pub few_tables : All (λ (write : Place × ℕ). write.0.table < 16) own.writes
  few_tables = all_by (λ (write : Place × ℕ). write.0.table < 16) own.writes (λ write a.
      let there = found_of own.writes write a in
      let has = (its_block write.0.table write.0.key there.0 there.1).0 in
      let few = m.may.holds.measures.tables in omega (arith, has, few))

-- ---- one write more

module _ (sh : Shape) (own : OwnTransaction) (reads : Option ReadSet) (stamp number : ℕ) (old now : Held) (done : PlaceMap ℕ) (u : IsStamped sh own reads stamp number old now done) where
  -- what was in the hand is in it still
  pub still : (w : Name) → Has sh old w → Has sh now w
  still w has = has_still sh (stamped_so_far sh u.may.may.parts own done) old now w u.made has

  -- the hand has a place for each part still
  pub room_now : length now ≡ length (names sh)
  room_now = room_still sh (stamped_so_far sh u.may.may.parts own done) old now u.made (room sh (event.Commit own reads) old u.may.may)

  module _ (t : ℕ) (key : ℤ) (p : ℕ) (there : at_place own.writes (place_at t key) ≡ Some p) where
    -- the body is in it still
    pub body_still : Has sh now (BodyOf t (block_of p))
    body_still = still (BodyOf t (block_of p)) (has_its_body sh own reads old u.may t key p there)

    here : body_in sh now t (block_of p)
        ≡ cond (is_rolled done t (block_of p)) (committed_in own.session ((desk_at sh u.may.may.parts).newest + 1) ((desk_at sh u.may.may.parts).commits + 1) (body_at sh u.may.may.parts t (block_of p))) (body_at sh u.may.may.parts t (block_of p))
    here =
        let has = has_its_body sh own reads old u.may t key p there in
        let x = a_body sh old t (block_of p) has in
        ap (λ h. body_in sh h t (block_of p)) u.made
        ∙ body_in_after sh (stamped_so_far sh u.may.may.parts own done) old t (block_of p) has
        ∙ ap (λ (y : Body). cond (is_rolled done t (block_of p)) (committed_in own.session ((desk_at sh u.may.may.parts).newest + 1) ((desk_at sh u.may.may.parts).commits + 1) y) y)
        (body_is_in sh old t (block_of p) x.0 x.1 ∙ sym (body_is sh old u.may.may.parts u.may.may.agrees t (block_of p) x.0 x.1))

    first_below : (j : ℕ) → NoneStampedAbove (slot_in (body_at sh u.may.may.parts t (block_of p)) j).entries ((desk_at sh u.may.may.parts).newest + 1)
    first_below j = ⊎_elim inside past (cases_lt j (length (body_at sh u.may.may.parts t (block_of p)).slots))
      where
        inside : j < length (body_at sh u.may.may.parts t (block_of p)).slots → NoneStampedAbove (slot_in (body_at sh u.may.may.parts t (block_of p)) j).entries ((desk_at sh u.may.may.parts).newest + 1)
        inside less = raised (desk_at sh u.may.may.parts).newest (slot_in (body_at sh u.may.may.parts t (block_of p)) j).entries
            (slots_lawful sh u.may.may.parts u.may.may.holds.measures u.may.may.holds.sound t (block_of p) (its_block sh own reads old u.may t key p there) j less).stamps

        past : length (body_at sh u.may.may.parts t (block_of p)).slots ≤ j → NoneStampedAbove (slot_in (body_at sh u.may.may.parts t (block_of p)) j).entries ((desk_at sh u.may.may.parts).newest + 1)
        past over = subst (λ (x : Slot). NoneStampedAbove x.entries ((desk_at sh u.may.may.parts).newest + 1)) (sym (get_or_past (body_at sh u.may.may.parts t (block_of p)).slots j bare over)) (All-nil (IsStampedUpTo {D = Before} ((desk_at sh u.may.may.parts).newest + 1)))

    -- none of the body's entries has a stamp above the commit's
    pub below_here : (j : ℕ) → NoneStampedAbove (slot_in (body_in sh now t (block_of p)) j).entries stamp
    below_here j =
        subst (λ n. NoneStampedAbove (slot_in (body_in sh now t (block_of p)) j).entries n) (sym u.taken)
        (subst (λ (x : Body). NoneStampedAbove (slot_in x j).entries ((desk_at sh u.may.may.parts).newest + 1)) (sym here) (go (is_rolled done t (block_of p))))
      where
        go : (c : Bool) → NoneStampedAbove (slot_in (cond c (committed_in own.session ((desk_at sh u.may.may.parts).newest + 1) ((desk_at sh u.may.may.parts).commits + 1) (body_at sh u.may.may.parts t (block_of p))) (body_at sh u.may.may.parts t (block_of p))) j).entries ((desk_at sh u.may.may.parts).newest + 1)
        go true = slots_below own.session ((desk_at sh u.may.may.parts).newest + 1) ((desk_at sh u.may.may.parts).commits + 1) (body_at sh u.may.may.parts t (block_of p)).slots first_below j
        go false = first_below j

    body_more : (w b : ℕ) (x : Body) → (stamped_so_far sh u.may.may.parts own (done ++ (place_at t key, p) ∷ [])).body w b x
        ≡ (body_changed t (block_of p) (committed_in own.session ((desk_at sh u.may.may.parts).newest + 1) ((desk_at sh u.may.may.parts).commits + 1))).body w b ((stamped_so_far sh u.may.may.parts own done).body w b x)
    body_more w b x =
        ap (λ c. cond c (committed_in own.session ((desk_at sh u.may.may.parts).newest + 1) ((desk_at sh u.may.may.parts).commits + 1) x) x)
        (any_more (λ (write : Place × ℕ). (write.0.table == w) && (block_of write.1 == b)) done (place_at t key, p) ∙ ap (λ c. is_rolled done w b || c) flipped)
        ∙ go (is_rolled done w b) ((w == t) && (b == block_of p))
      where
        flipped : ((t == w) && (block_of p == b)) ≡ ((w == t) && (b == block_of p))
        flipped = ap (λ c. c && (block_of p == b)) (flip t w) ∙ ap (λ c. (w == t) && c) (flip (block_of p) b)

        go : (c d : Bool) → cond (c || d) (committed_in own.session ((desk_at sh u.may.may.parts).newest + 1) ((desk_at sh u.may.may.parts).commits + 1) x) x
            ≡ cond d (committed_in own.session ((desk_at sh u.may.may.parts).newest + 1) ((desk_at sh u.may.may.parts).commits + 1) (cond c (committed_in own.session ((desk_at sh u.may.may.parts).newest + 1) ((desk_at sh u.may.may.parts).commits + 1) x) x)) (cond c (committed_in own.session ((desk_at sh u.may.may.parts).newest + 1) ((desk_at sh u.may.may.parts).commits + 1) x) x)
        go true true = sym (committed_once own.session ((desk_at sh u.may.may.parts).newest + 1) ((desk_at sh u.may.may.parts).commits + 1) x)
        go true false = refl
        go false true = refl
        go false false = refl

    -- one write more is stamped
    pub goes_on : (new : Held) → new ≡ after sh (body_changed t (block_of p) (committed_in own.session stamp number)) now → IsStamped sh own reads stamp number old new (done ++ (place_at t key, p) ∷ [])
    goes_on new is = record {
      may = u.may;
      taken = u.taken;
      counted = u.counted;
      made =
          is
          ∙ ap (λ n. after sh (body_changed t (block_of p) (committed_in own.session n number)) now) u.taken
          ∙ ap (λ n. after sh (body_changed t (block_of p) (committed_in own.session ((desk_at sh u.may.may.parts).newest + 1) n)) now) u.counted
          ∙ ap (after sh (body_changed t (block_of p) (committed_in own.session ((desk_at sh u.may.may.parts).newest + 1) ((desk_at sh u.may.may.parts).commits + 1)))) u.made
          ∙ after_twice sh (stamped_so_far sh u.may.may.parts own done) (body_changed t (block_of p) (committed_in own.session ((desk_at sh u.may.may.parts).newest + 1) ((desk_at sh u.may.may.parts).commits + 1)))
          (stamped_so_far sh u.may.may.parts own (done ++ (place_at t key, p) ∷ [])) old
          (record { head = λ w x. refl; shard = λ w i x. refl; body = body_more; desk = λ x. refl });
    }

-- ---- all of them

module _ (sh : Shape) (own : OwnTransaction) (reads : Option ReadSet) (stamp number : ℕ) (old mid : Held) (u : IsStamped sh own reads stamp number old mid own.writes) (some : own.writes ≡ [] → ⊥) where
  -- A transaction whose writes are not none wrote something.
  wrote : is_some_write own.writes ≡ true
  wrote = go own.writes some
    where
      go : (writes : PlaceMap ℕ) → (writes ≡ [] → ⊥) → is_some_write writes ≡ true
      go [] not_none = absurd (not_none refl)
      go (first ∷ rest) not_none = refl

  -- With all writes stamped, each body is the one that the commit makes.
  body_last : (t b : ℕ) (x : Body) → part_at sh u.may.may.parts (BodyOf t b) ≡ Some (part.Body x)
      → cond (is_rolled own.writes t b) (committed_in own.session ((desk_at sh u.may.may.parts).newest + 1) ((desk_at sh u.may.may.parts).commits + 1) x) x
      ≡ (cond (is_some_write own.writes) (committed_in own.session ((desk_at sh u.may.may.parts).newest + 1) ((desk_at sh u.may.may.parts).commits + 1)) (λ (body : Body). body)) x
  body_last t b x is =
      go (is_rolled own.writes t b) refl
      ∙ ap (λ c. (cond c (committed_in own.session ((desk_at sh u.may.may.parts).newest + 1) ((desk_at sh u.may.may.parts).commits + 1)) (λ (body : Body). body)) x) (sym wrote)
    where
      go : (c : Bool) → is_rolled own.writes t b ≡ c → cond (is_rolled own.writes t b) (committed_in own.session ((desk_at sh u.may.may.parts).newest + 1) ((desk_at sh u.may.may.parts).commits + 1) x) x
          ≡ committed_in own.session ((desk_at sh u.may.may.parts).newest + 1) ((desk_at sh u.may.may.parts).commits + 1) x
      go true e = ap (λ c. cond c (committed_in own.session ((desk_at sh u.may.may.parts).newest + 1) ((desk_at sh u.may.may.parts).commits + 1) x) x) e
      go false e =
          ap (λ c. cond c (committed_in own.session ((desk_at sh u.may.may.parts).newest + 1) ((desk_at sh u.may.may.parts).commits + 1) x) x) e
          ∙ sym (commit_stays sh u.may.may.parts u.may.may.holds.measures u.may.may.holds.sound own u.may.may.lawful.0 t b x is e ((desk_at sh u.may.may.parts).newest + 1) ((desk_at sh u.may.may.parts).commits + 1))

  -- With all writes stamped, each part is the one that the commit makes.
  last : (n : Name) (x : CorePart) → part_at sh u.may.may.parts n ≡ Some x → changed (stamped_so_far sh u.may.may.parts own own.writes) n x ≡ changed (after_commit sh u.may.may.parts own) n x
  last = same_at (λ n x. part_at sh u.may.may.parts n ≡ Some x) (stamped_so_far sh u.may.may.parts own own.writes) (after_commit sh u.may.may.parts own) (record {
    head = λ t x is. refl;
    shard = λ t i x is. refl;
    body = body_last;
    desk = λ x is. ap (λ c. closed own.session (cond c (numbered own.writes x) x)) (sym wrote);
  })

  -- Behind all writes, what became of the hand is what the commit makes of it.
  pub ends : Makes sh (event.Commit own reads) old mid (reply.Committed (Some number))
  ends = makes_all sh own reads old u.may mid (Some number)
      (u.made ∙ alike (stamped_so_far sh u.may.may.parts own own.writes) (after_commit sh u.may.may.parts own) (names sh) old (λ k n x at held. last n x (part_there sh own reads old u.may k n x at held)))
      (ap Some u.counted ∙ ap (λ c. cond c (Some ((desk_at sh u.may.may.parts).commits + 1)) None) (sym wrote))

-- ---- small answers

-- a desk that is equal is the hand's too
pub told : (sh : Shape) (hand : Held) (x y : DeskState) → in_hand sh hand TheDesk ≡ Some (part.Desk x) → y ≡ x → in_hand sh hand TheDesk ≡ Some (part.Desk y)
told sh hand x y there same = there ∙ ap (λ d. Some (part.Desk d)) (sym same)

-- a transaction whose map of writes is empty has none
pub none_by : (own : OwnTransaction) (entries : PlaceMap ℕ) → entries ≡ own.writes → length entries ≡ 0 → own.writes ≡ []
none_by own entries same none = sym same ∙ nil entries none
  where
    nil : (xs : PlaceMap ℕ) → length xs ≡ 0 → xs ≡ []
    nil [] e = refl
    nil (x ∷ xs) e = absurd (omega (arith, e))

-- and one whose map is not empty has some
pub some_by : (own : OwnTransaction) (entries : PlaceMap ℕ) → entries ≡ own.writes → (length entries ≡ 0 → ⊥) → own.writes ≡ [] → ⊥
some_by own entries same some none = some (ap length (same ∙ none))

-- the next stamp and number, no snapshot of the session's, and the tables that it wrote are the desk
-- numbered and closed
pub numbered_by : (own : OwnTransaction) (x y : DeskState) (s : Snapshot) (tables : TableMarks) → s ≡ record { stamp = x.newest + 1; number = x.commits + 1 }
    → y ≡ record { newest = s.stamp; commits = s.number; open_snapshots = slice_set x.open_snapshots (own.session - 1) None; wrote = marked s.number (is_marked tables) x.wrote }
    → ((table : ℕ) → table < 16 → is_marked tables table ≡ writes_table own.writes table) → y ≡ closed own.session (numbered own.writes x)
numbered_by own x y s tables taken made wrote =
    made
    ∙ ap (λ (s : Snapshot). record x { newest = s.stamp; commits = s.number; open_snapshots = slice_set x.open_snapshots (own.session - 1) None; wrote = marked s.number (is_marked tables) x.wrote }) taken
    ∙ ap (λ (last : List ℕ). record x { newest = x.newest + 1; commits = x.commits + 1; open_snapshots = slice_set x.open_snapshots (own.session - 1) None; wrote = last })
    (marked-same (x.commits + 1) (is_marked tables) (writes_table own.writes) x.wrote wrote)
