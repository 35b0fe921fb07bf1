-- No update is told that its block is freezing: a block that was sealed was gathered too, and each
-- of its stamps is spent.
use Rattle.std.proofs.Common.{◌≡◌, ◌⊎◌, inl, inr, ℕ, ◌+◌, ◌*◌, ◌<◌, ◌≤◌, Bool, true, false, ◌&&◌, eqb, nat_lt, nat_le, List, [], ◌∷◌, ◌++◌, length, Option, None, Some, refl, sym, ap, ◌∙◌, subst, arith, append_assoc, append-nil}
use Rattle.std.specs.Prelude.{if◌then◌else◌}
use Rattle.std.specs.List.{count_by, cons_option}
use Rattle.std.proofs.lemmas.Bool.{eqb-true, ltb-true, leb-true}
use Rattle.std.proofs.lemmas.List.{length-append}
use Rattle.std.proofs.lemmas.List.Elements.{filter_map-append}
use Rattle.workload_spec.specs.declared.reply.Said.{Said}
use Rattle.workload_spec.specs.declared.reply.Said.TheVariants as said
use Rattle.outcome_spec.specs.Entries.{Entry, before, not_after, is_before, shown_in}
use Rattle.outcome_spec.specs.Runs.{Run}
use Rattle.outcome_spec.specs.Tables.{slots_at}
use Rattle.outcome_spec.specs.Upkeep.{stamp_in, rows_in, seals_in, freezes_in, stamp_count, freeze_holds, idle_gather_holds, upkeep_reply_holds, freezing_reply_holds}
use Rattle.order_laws.specs.Places.{Rises}
use Rattle.bench_spec.specs.Counted.{is_refused}
use Rattle.bench_laws.proofs.Every.{Every, Has, every-append, every-has, every-left, every-right, has-here}
use Rattle.bench_laws.proofs.Replies.{IsCountReply, IsUpdateReply, IsSealReply, IsGatherReply}
use Rattle.bench_laws.proofs.Parts.{Part, Writing, Keeping, Freezing, Wrote, Kept as KeptLine, Froze, Good, GoodWrote, From, InTurn, Under, begin, insert, update, commit, replies_to, kept_entry, seal_entry, gather_entry, entries_in, entries_of, last_begin, last_scan, last_export, last_commit, last_entries}
use Rattle.bench_laws.proofs.Order.{Kept, before-round, shown-before, shown-not_after}
use Rattle.bench_laws.proofs.Places.{entries-append, About, Before, in-turn-rest, in-turn-front, every-two}
use Rattle.bench_laws.proofs.Told.{Told, sound-at, tables}
use Rattle.bench_laws.proofs.Stamps.{Mark, stamp-mark, rows-mark, run, before-first, not-after-first, stamps-low, count-has}

-- How many marks an option shows: one or none.
abbrev count : Option ℕ → ℕ
count o = length (cons_option o [])

-- An option shows at most one mark.
count-low : (o : Option ℕ) → count o ≤ 1
count-low None = omega arith
count-low (Some k) = omega arith

-- Where the second of two tests fails, no number is shown.
unchosen : (a b : Bool) (k : ℕ) → b ≡ false → (if a && b then Some k else None) ≡ None
unchosen true b k h = rw h refl
unchosen false b k h = refl

-- Where both tests pass, the number is shown.
taken : (a b : Bool) (k : ℕ) → a ≡ true → b ≡ true → (if a && b then Some k else None) ≡ Some k
taken a b k h j = rw (h, j) refl

-- Numbers that are equal are tested to be equal.
equal : (a b : ℕ) → a ≡ b → eqb a b ≡ true
equal a b h = Rattle.std.proofs.lemmas.Bool.eq-eqb a b h

-- what lines of other blocks and other upkeep show of a block
seal-other : (block other : ℕ) → eqb block other ≡ false → (told : Said) → IsSealReply 0 block told → stamp_in 0 other told ≡ None
seal-other block other apart (said.Sealed of at stamp) h = unchosen (eqb of 0) (eqb at other) stamp (ap (λ n. eqb n other) h.1 ∙ apart)
seal-other block other apart (said.NotSealed cause) h = refl
seal-other block other apart _ h = absurd h

-- Gathering one block shows no rows of another.
gather-other : (block other : ℕ) → eqb block other ≡ false → (told : Said) → IsGatherReply 0 block told → rows_in 0 other told ≡ None
gather-other block other apart (said.Frozen of at rows) h = unchosen (eqb of 0) (eqb at other) rows (ap (λ n. eqb n other) h.1 ∙ apart)
gather-other block other apart said.NotFrozen h = refl
gather-other block other apart said.Memory h = refl
gather-other block other apart _ h = absurd h

-- Gathering a block shows no stamp of any block.
gather-unstamped : (block other : ℕ) (told : Said) → IsGatherReply 0 block told → stamp_in 0 other told ≡ None
gather-unstamped block other (said.Frozen of at rows) h = refl
gather-unstamped block other said.NotFrozen h = refl
gather-unstamped block other said.Memory h = refl
gather-unstamped block other _ h = absurd h

-- Sealing a block shows no gathered rows of any block.
seal-rowless : (block other : ℕ) (told : Said) → IsSealReply 0 block told → rows_in 0 other told ≡ None
seal-rowless block other (said.Sealed of at stamp) h = refl
seal-rowless block other (said.NotSealed cause) h = refl
seal-rowless block other _ h = absurd h

-- Pruning, observing and compacting show no stamp of a block.
count-unstamped : (other : ℕ) (told : Said) → IsCountReply told → stamp_in 0 other told ≡ None
count-unstamped other (said.Cooling n) h = refl
count-unstamped other (said.Pruned n) h = refl
count-unstamped other (said.Moved n) h = refl
count-unstamped other said.Memory h = refl
count-unstamped other _ h = absurd h

-- Pruning, observing and compacting show no rows of a gathered block.
count-rowless : (other : ℕ) (told : Said) → IsCountReply told → rows_in 0 other told ≡ None
count-rowless other (said.Cooling n) h = refl
count-rowless other (said.Pruned n) h = refl
count-rowless other (said.Moved n) h = refl
count-rowless other said.Memory h = refl
count-rowless other _ h = absurd h

-- how many marks there are with one line more
more : (shown : Said → Option ℕ) (front : List Entry) (e : Entry) → length (shown_in shown (front ++ e ∷ [])) ≡ length (shown_in shown front) + count (shown e.reply.said)
more shown front e =
    ap length (filter_map-append (λ (x : Entry). shown x.reply.said) front (e ∷ [])) ∙ length-append (shown_in shown front) (cons_option (shown e.reply.said) [])

-- One reply more that shows no mark leaves the count of marks.
more-none : (shown : Said → Option ℕ) (front : List Entry) (e : Entry) → shown e.reply.said ≡ None → length (shown_in shown (front ++ e ∷ [])) ≡ length (shown_in shown front)
more-none shown front e none = let m = more shown front e in let z : count (shown e.reply.said) ≡ 0 = ap count none in omega (arith, m, z)

-- as many gathers as seals
abbrev Balanced : List Entry → Type 0
Balanced front = (block : ℕ) → seals_in 0 block front ≡ freezes_in 0 block front

module _ (seed size : ℕ) (replies : List Entry) (told : Told seed size replies) where
  -- The run that the replies tell.
  abbrev the_run : Run
  the_run = run seed size replies told

  -- ---- a gather behind its seal

  -- A gather shows rows where more seals than gathers stand, and none where no more do.
  gather-facts : (f : Froze) (gathered : Said) → f.gather_said ≡ gathered → Has (gather_entry f) replies → IsGatherReply 0 f.block gathered → is_refused gathered ≡ false
      → ((count (rows_in 0 f.block gathered) ≡ 1) × (1 + freezes_in 0 f.block (before replies (gather_entry f)) ≤ seals_in 0 f.block (not_after replies (gather_entry f))))
      ⊎ ((count (rows_in 0 f.block gathered) ≡ 0) × (seals_in 0 f.block (before replies (gather_entry f)) ≤ freezes_in 0 f.block (not_after replies (gather_entry f))))
  gather-facts f (said.Frozen of at rows) is has fits granted =
      let sound = sound-at seed size replies told (gather_entry f) has in
      let holds : freeze_holds the_run (gather_entry f) of at rows ≡ true = subst (λ (s : Said). upkeep_reply_holds the_run (gather_entry f) s ≡ true) is sound.upkeep in
      let here : freeze_holds the_run (gather_entry f) 0 f.block rows ≡ true = subst (λ n. freeze_holds the_run (gather_entry f) 0 n rows ≡ true) fits.1 (subst (λ n. freeze_holds the_run (gather_entry f) n at rows ≡ true) fits.0 holds) in
      let parts = three (nat_le 1 rows) (nat_le rows (slots_at tables 0)) (nat_le (1 + freezes_in 0 f.block (before replies (gather_entry f))) (seals_in 0 f.block (not_after replies (gather_entry f)))) here in
      inl (
        ap count (taken (eqb of 0) (eqb at f.block) rows (equal of 0 fits.0) (equal at f.block fits.1)),
        leb-true (1 + freezes_in 0 f.block (before replies (gather_entry f))) (seals_in 0 f.block (not_after replies (gather_entry f))) parts,
      )
    where
      three : (a b c : Bool) → (a && b && c) ≡ true → c ≡ true
      three true true c h = h
      three false b c h = absurd (let never : ⊥ = cc in never)
      three true false c h = absurd (let never : ⊥ = cc in never)
  gather-facts f said.NotFrozen is has fits granted =
      let sound = sound-at seed size replies told (gather_entry f) has in
      let holds : idle_gather_holds the_run (gather_entry f) ≡ true = subst (λ (s : Said). upkeep_reply_holds the_run (gather_entry f) s ≡ true) is sound.upkeep in
      inr (refl, leb-true (seals_in 0 f.block (before replies (gather_entry f))) (freezes_in 0 f.block (not_after replies (gather_entry f))) holds)
  gather-facts f said.Memory is has fits granted = absurd (let never : ⊥ = cc in never)
  gather-facts f _ is has fits granted = absurd fits

  -- the two show as much of the block
  paired-own : (front rest : List Entry) (f : Froze) → replies ≡ front ++ seal_entry f ∷ gather_entry f ∷ rest → IsSealReply 0 f.block f.seal_said → IsGatherReply 0 f.block f.gather_said → Balanced front
      → count (stamp_in 0 f.block f.seal_said) ≡ count (rows_in 0 f.block f.gather_said)
  paired-own front rest f whole seals gathers balanced =
      let a = seal_entry f in
      let b = gather_entry f in
      let split : replies ≡ (front ++ a ∷ []) ++ b ∷ rest = whole ∙ sym (append_assoc front (a ∷ []) (b ∷ rest)) in
      let has : Has b replies = subst (Has b) (sym split) (has-here (front ++ a ∷ []) b rest) in
      let rows_before = ap length (before-first seed size replies told (rows_in 0 f.block) (rows-mark f.block) (front ++ a ∷ []) b rest split refl) in
      let stamps_before = ap length (before-first seed size replies told (stamp_in 0 f.block) (stamp-mark f.block) (front ++ a ∷ []) b rest split refl) in
      let rows_until = ap length (not-after-first seed size replies told (rows_in 0 f.block) (rows-mark f.block) (front ++ a ∷ []) b rest split refl) in
      let stamps_until = ap length (not-after-first seed size replies told (stamp_in 0 f.block) (stamp-mark f.block) (front ++ a ∷ []) b rest split refl) in
      let one_a = more (stamp_in 0 f.block) front a in
      let none_a = more-none (rows_in 0 f.block) front a (seal-rowless f.block f.block f.seal_said seals) in
      let one_b = more (rows_in 0 f.block) (front ++ a ∷ []) b in
      let none_b = more-none (stamp_in 0 f.block) (front ++ a ∷ []) b (gather-unstamped f.block f.block f.gather_said gathers) in
      let low = count-low (stamp_in 0 f.block f.seal_said) in
      let level = balanced f.block in
      elim (gather-facts f f.gather_said refl has gathers (every-has (λ e. is_refused e.reply.said ≡ false) replies b told.unrefused has)) [
        | inl froze ↦ let x = froze.0 in let y = froze.1 in omega (arith, x, y, rows_before, stamps_until, one_a, none_a, none_b, low, level)
        | inr idle ↦ let x = idle.0 in let y = idle.1 in omega (arith, x, y, stamps_before, rows_until, one_a, one_b, none_a, low, level)
      ]

  -- A seal and its gather show as many marks of each block, this one or another.
  paired-by : (front rest : List Entry) (f : Froze) → replies ≡ front ++ seal_entry f ∷ gather_entry f ∷ rest → IsSealReply 0 f.block f.seal_said → IsGatherReply 0 f.block f.gather_said → Balanced front
      → (block : ℕ) (same : Bool) → eqb f.block block ≡ same → count (stamp_in 0 block f.seal_said) ≡ count (rows_in 0 block f.gather_said)
  paired-by front rest f whole seals gathers balanced block true is =
      subst (λ n. count (stamp_in 0 n f.seal_said) ≡ count (rows_in 0 n f.gather_said)) (eqb-true f.block block is) (paired-own front rest f whole seals gathers balanced)
  paired-by front rest f whole seals gathers balanced block false is =
      ap count (seal-other f.block block is f.seal_said seals) ∙ sym (ap count (gather-other f.block block is f.gather_said gathers))

  -- ---- part by part

  -- Where gathers are as many as seals, they are with one part more.
  balanced-more : (front : List Entry) (part : Part) (rest : List Entry) → replies ≡ front ++ (entries_of part ++ rest) → Good seed part → Balanced front → Balanced (front ++ entries_of part)
  balanced-more front (Writing w) rest whole good level block =
      let s = none-shown (stamp_in 0 block) (stamp-mark block) in
      let r = none-shown (rows_in 0 block) (rows-mark block) in
      ap length s ∙ level block ∙ sym (ap length r)
    where
      none-shown : (shown : Said → Option ℕ) → Mark shown → shown_in shown (front ++ replies_to w) ≡ shown_in shown front
      none-shown shown mark =
          filter_map-append (λ (x : Entry). shown x.reply.said) front (replies_to w)
          ∙ (rw (mark.at_none w.snapshot, mark.insert_none w.insert_said good.insert_fits, mark.update_none w.update_said good.update_fits, mark.commit_none w.number) (append-nil (shown_in shown front)))
  balanced-more front (Keeping k) rest whole good level block =
      more-none (stamp_in 0 block) front (kept_entry k) (count-unstamped block k.told good.1) ∙ level block ∙ sym (more-none (rows_in 0 block) front (kept_entry k) (count-rowless block k.told good.1))
  balanced-more front (Freezing f) rest whole good level block =
      let a = seal_entry f in
      let b = gather_entry f in
      let paired = paired-by front rest f whole good.0 good.1 level block (eqb f.block block) refl in
      let one_a = more (stamp_in 0 block) front a in
      let none_a = more-none (rows_in 0 block) front a (seal-rowless f.block block f.seal_said good.0) in
      let one_b = more (rows_in 0 block) (front ++ a ∷ []) b in
      let none_b = more-none (stamp_in 0 block) (front ++ a ∷ []) b (gather-unstamped f.block block f.gather_said good.1) in
      let here = level block in
      subst (λ (es : List Entry). seals_in 0 block es ≡ freezes_in 0 block es) (append_assoc front (a ∷ []) (b ∷ []))
      (omega (arith, paired, one_a, none_a, one_b, none_b, here))

  -- Part by part the gathers of each block stay as many as its seals.
  balanced-to : (front : List Entry) (parts rest : List Part) → replies ≡ front ++ (entries_in (parts ++ rest) ++ last_entries told.last) → Every (Good seed) parts → Balanced front → Balanced (front ++ entries_in parts)
  balanced-to front [] rest whole good level = subst Balanced (sym (append-nil front)) level
  balanced-to front (part ∷ parts) rest whole good level =
      let split : replies ≡ front ++ (entries_of part ++ (entries_in (parts ++ rest) ++ last_entries told.last)) =
      whole ∙ ap (λ (es : List Entry). front ++ es) (append_assoc (entries_of part) (entries_in (parts ++ rest)) (last_entries told.last)) in
      subst Balanced (append_assoc front (entries_of part) (entries_in parts))
      (balanced-to (front ++ entries_of part) parts rest (split ∙ sym (append_assoc front (entries_of part) (entries_in (parts ++ rest) ++ last_entries told.last))) good.1
      (balanced-more front part (entries_in (parts ++ rest) ++ last_entries told.last) split good.0 level))

  -- ---- about an update

  -- What a part shows of a mark passes each test that its upkeep passes.
  shown-part : (shown : Said → Option ℕ) → Mark shown → (e : Entry) (P : Part → Type 0) (p : Entry → Bool)
      → ((k : KeptLine) → P (Keeping k) → p (kept_entry k) ≡ true) → ((f : Froze) → P (Freezing f) → (p (seal_entry f) ≡ true) × (p (gather_entry f) ≡ true))
      → (part : Part) → P part → Good seed part → Every (Kept shown p true) (entries_of part)
  shown-part shown mark e P p keeps freezes (Writing v) h good =
      (inl (mark.at_none v.snapshot), (inl (mark.insert_none v.insert_said good.insert_fits), (inl (mark.update_none v.update_said good.update_fits), (inl (mark.commit_none v.number), tt))))
  shown-part shown mark e P p keeps freezes (Keeping k) h good = (inr (keeps k h), tt)
  shown-part shown mark e P p keeps freezes (Freezing f) h good = let both = freezes f h in (inr both.0, (inr both.1, tt))

  module _ (w : Wrote) (its : About w told.parts) where
    abbrev ahead_of : List Entry
    ahead_of = entries_in its.front

    abbrev behind_it : List Entry
    behind_it = entries_in its.rest ++ last_entries told.last

    -- all replies: those ahead of the transaction, its own, and those behind it
    pub stands : replies ≡ ahead_of ++ (replies_to w ++ behind_it)
    stands =
        told.whole ∙ ap (λ ps. entries_in ps ++ last_entries told.last) its.whole
        ∙ ap (λ (es : List Entry). es ++ last_entries told.last) (entries-append its.front (Writing w ∷ its.rest))
        ∙ append_assoc ahead_of (replies_to w ++ entries_in its.rest) (last_entries told.last)

    -- each of the parts is a good one
    pub good-all : Every (Good seed) (its.front ++ Writing w ∷ its.rest)
    good-all = subst (Every (Good seed)) its.whole told.good

    -- so is the transaction
    pub good-here : GoodWrote seed w
    good-here = (every-right (Good seed) its.front (Writing w ∷ its.rest) good-all).0

    turn-all : InTurn (its.front ++ Writing w ∷ its.rest)
    turn-all = subst InTurn its.whole told.in_turn

    under-here : w.round < told.last.round
    under-here = (every-right (Under told.last.round) its.front (Writing w ∷ its.rest) (subst (Every (Under told.last.round)) its.whole told.under)).0

    front-marks : (shown : Said → Option ℕ) → Mark shown → (e : Entry) → e.reply.round ≡ w.round → Every (Kept shown (λ x. is_before x e) true) ahead_of
    front-marks shown mark e round =
        every-two (Before w) (Good seed) (Kept shown (λ x. is_before x e) true)
        (shown-part shown mark e (Before w) (λ x. is_before x e) (λ k less. before-round (kept_entry k) e (subst (λ n. k.round < n) (sym round) less))
        (λ f less. (before-round (seal_entry f) e (subst (λ n. f.round < n) (sym round) less), before-round (gather_entry f) e (subst (λ n. f.round < n) (sym round) less))))
        its.front (in-turn-front its.front w its.rest turn-all good-here.session_high) (every-left (Good seed) its.front (Writing w ∷ its.rest) good-all)

    rest-marks : (shown : Said → Option ℕ) → Mark shown → (e : Entry) → e.reply.round ≡ w.round → Every (Kept shown (λ x. is_before e x) true) behind_it
    rest-marks shown mark e round =
        every-append (Kept shown (λ x. is_before e x) true) (entries_in its.rest) (last_entries told.last)
        (every-two (From (w.round + 1) (4 * w.round + w.session + 1) (4 * w.turn + w.session + 1)) (Good seed) (Kept shown (λ x. is_before e x) true)
        (shown-part shown mark e (From (w.round + 1) (4 * w.round + w.session + 1) (4 * w.turn + w.session + 1)) (λ x. is_before e x) (λ k low. before-round e (kept_entry k) (less k.round low))
        (λ f low. (before-round e (seal_entry f) (less f.round low), before-round e (gather_entry f) (less f.round low))))
        its.rest (in-turn-rest its.front w its.rest turn-all) (every-right (Good seed) its.front (Writing w ∷ its.rest) good-all).1)
        (inr (before-last (last_begin told.last) refl), (inr (before-last (last_scan told.last) refl), (inr (before-last (last_export told.last) refl), (inr (before-last (last_commit told.last) refl), tt))))
      where
        less : (n : ℕ) → w.round + 1 ≤ n → e.reply.round < n
        less n h = omega (arith, h, round)

        before-last : (x : Entry) → x.reply.round ≡ told.last.round → is_before e x ≡ true
        before-last x h = before-round e x (omega (arith, h, round, under-here))

    -- the update with the replies in front of it and behind it
    abbrev ahead_update : List Entry
    ahead_update = ahead_of ++ begin w ∷ insert w ∷ []

    stands-update : replies ≡ ahead_update ++ update w ∷ commit w ∷ behind_it
    stands-update = stands ∙ sym (append_assoc ahead_of (begin w ∷ insert w ∷ []) (update w ∷ commit w ∷ behind_it))

    front-update : (shown : Said → Option ℕ) → Mark shown → Every (Kept shown (λ x. is_before x (update w)) true) ahead_update
    front-update shown mark =
        every-append (Kept shown (λ x. is_before x (update w)) true) ahead_of (begin w ∷ insert w ∷ []) (front-marks shown mark (update w) refl)
        (inl (mark.at_none w.snapshot), (inl (mark.insert_none w.insert_said good-here.insert_fits), tt))

    rest-update : (shown : Said → Option ℕ) → Mark shown → Every (Kept shown (λ x. is_before (update w) x) true) (commit w ∷ behind_it)
    rest-update shown mark = (inl (mark.commit_none w.number), rest-marks shown mark (update w) refl)

    no-more : (shown : Said → Option ℕ) → Mark shown → shown_in shown ahead_update ≡ shown_in shown ahead_of
    no-more shown mark =
        filter_map-append (λ (x : Entry). shown x.reply.said) ahead_of (begin w ∷ insert w ∷ [])
        ∙ (rw (mark.at_none w.snapshot, mark.insert_none w.insert_said good-here.insert_fits) (append-nil (shown_in shown ahead_of)))

    marks-before : (shown : Said → Option ℕ) → Mark shown → shown_in shown (before replies (update w)) ≡ shown_in shown ahead_of
    marks-before shown mark =
        ap (λ (es : List Entry). shown_in shown (before es (update w))) stands-update
        ∙ shown-before shown ahead_update (update w) (commit w ∷ behind_it) (subst Rises stands-update told.rises) (front-update shown mark)
        ∙ no-more shown mark

    marks-until : (shown : Said → Option ℕ) → Mark shown → shown_in shown (not_after replies (update w)) ≡ shown_in shown ahead_of
    marks-until shown mark =
        ap (λ (es : List Entry). shown_in shown (not_after es (update w))) stands-update
        ∙ shown-not_after shown ahead_update (update w) (commit w ∷ behind_it) (subst Rises stands-update told.rises) (rest-update shown mark)
        ∙ filter_map-append (λ (x : Entry). shown x.reply.said) ahead_update (update w ∷ [])
        ∙ (rw (mark.update_none w.update_said good-here.update_fits) (append-nil (shown_in shown ahead_update)))
        ∙ no-more shown mark

    level : Balanced ahead_of
    level = balanced-to [] its.front (Writing w ∷ its.rest) (told.whole ∙ ap (λ ps. entries_in ps ++ last_entries told.last) its.whole) (every-left (Good seed) its.front (Writing w ∷ its.rest) good-all) (λ block. refl)

    -- the update is not told that its block is freezing
    pub not-freezing : (table block stamp : ℕ) → w.update_said ≡ said.Freezing table block stamp → ⊥
    not-freezing table block stamp is =
        let fits : table ≡ 0 = subst (IsUpdateReply 0) is good-here.update_fits in
        let has : Has (update w) replies = subst (Has (update w)) (sym stands-update) (has-here ahead_update (update w) (commit w ∷ behind_it)) in
        let sound = sound-at seed size replies told (update w) has in
        let holds : freezing_reply_holds the_run (update w) (said.Freezing table block stamp) ≡ true = subst (λ (s : Said). freezing_reply_holds the_run (update w) s ≡ true) is sound.freezes in
        let here : freezing_reply_holds the_run (update w) (said.Freezing 0 block stamp) ≡ true = subst (λ n. freezing_reply_holds the_run (update w) (said.Freezing n block stamp) ≡ true) fits holds in
        let parts = three (eqb (stamp_count 0 block stamp replies) 1) (eqb (stamp_count 0 block stamp (not_after replies (update w))) 1) (nat_lt (freezes_in 0 block (before replies (update w))) stamp) here in
        let one : stamp_count 0 block stamp (not_after replies (update w)) ≡ 1 = eqb-true (stamp_count 0 block stamp (not_after replies (update w))) 1 parts.0 in
        let among : Has stamp (shown_in (stamp_in 0 block) ahead_of) = count-has stamp (shown_in (stamp_in 0 block) ahead_of) 0 (sym (ap (count_by (λ n. eqb n stamp)) (marks-until (stamp_in 0 block) (stamp-mark block))) ∙ one) in
        let low : stamp ≤ seals_in 0 block ahead_of = every-has (λ k. k ≤ seals_in 0 block ahead_of) (shown_in (stamp_in 0 block) ahead_of) stamp (stamps-low seed size replies told block ahead_of (replies_to w ++ behind_it) stands) among in
        let less : freezes_in 0 block (before replies (update w)) < stamp = ltb-true (freezes_in 0 block (before replies (update w))) stamp parts.1 in
        let same = ap length (marks-before (rows_in 0 block) (rows-mark block)) in
        let even = level block in
        omega (arith, low, less, same, even)
      where
        three : (a b c : Bool) → (a && b && c) ≡ true → (b ≡ true) × (c ≡ true)
        three true true true h = (refl, refl)
        three false b c h = absurd (let never : ⊥ = cc in never)
        three true false c h = absurd (let never : ⊥ = cc in never)
        three true true false h = absurd (let never : ⊥ = cc in never)
