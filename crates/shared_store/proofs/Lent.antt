-- Lends: what a claim tells of its block, and that the block's image stays.
use Rattle.std.proofs.Common.{◌≡◌, ◌⊎◌, ℕ, suc, ◌+◌, ◌*◌, ◌^◌, ◌<◌, ◌≤◌, Bool, true, false, cond, List, [], ◌∷◌, ◌++◌, Option, None, Some, length, fold, refl, sym, ap, subst, ◌∙◌, append-nil, true≢false, arith}
use mathlib.Core.Logic.{inl, inr}
use Rattle.std.specs.Prelude.{Result, Ok, Err, leb, slice_get}
use Rattle.std.proofs.lemmas.Bool.Decides.{nat_tests}
use Rattle.std.proofs.lemmas.List.{map-append}
use Rattle.std.proofs.lemmas.List.Sums.{fold-append}
use Rattle.std.proofs.lemmas.Option.{slice_get_cases}
use Rattle.block_spec.specs.Bodies.{is_imaged, rows_of}
use Rattle.block_spec.specs.declared.phase.Phase.{Phase}
use Rattle.block_spec.specs.declared.phase.Phase.TheVariants.{Loose, Sealed, Imaged}
use Rattle.block_spec.specs.Slots.{Row}
use Rattle.core_laws.proofs.Frames.Distinct.{part_is}
use Rattle.core_laws.proofs.Frozen.Moments.{imaged_rows_stay, shared_is}
use Rattle.core_laws.proofs.Logs.Logs.{reaches}
use Rattle.core_laws.proofs.Words.Keeping.{words_have_room, words_tell_images}
use Rattle.core_laws.specs.Frames.Shards.{CoreHolds}
use Rattle.core_laws.specs.Words.Laws.{TellsImage}
use Rattle.core_laws.specs.Words.Words.{word_of}
use Rattle.event_spec.specs.declared.own.OwnTransaction.{OwnTransaction}
use Rattle.event_spec.specs.declared.part.Part.TheVariants.{Body}
use Rattle.event_spec.specs.Effects.{CoreEvent}
use Rattle.event_spec.specs.Lawful.{HasBlock, OwnsAll}
use Rattle.event_spec.specs.Parts.{BodyOf, CorePart, Parts, Shape, body_at, body_from, names, part_at}
use Rattle.event_spec.specs.Replay.{IsLawfulFrom, IsLawfulLog, Made, after, opening, replay}
use Rattle.event_spec.specs.Replies.{rows_read}
use Rattle.event_spec.specs.Sound.{IsShape}
use Rattle.hall_rule.specs.Heads.{IsFrozen, head_in, head_of}
use Rattle.hall_rule.specs.Views.{bumped, claimed, left, tried}
use Rattle.hall_rule.specs.declared.view.Entry.{Entry}
use Rattle.hall_rule.specs.declared.view.View.{View}
use Rattle.hall_steps.specs.Hall.{IsPass, SameClaim, first_of}
use Rattle.run_spec.specs.Occurrences.{Logged}
use Rattle.store_laws.proofs.Entries.{replay_same}
use Rattle.store_laws.proofs.Looks.{lawful_parts}
use Rattle.store_laws.specs.Logs.{log_of, made_in, store_meaning}
use Rattle.store_laws.specs.Own.{parts_after}
use Rattle.store_laws.specs.OwnLaws.{HasOpened}
use Rattle.shared_store.specs.Lending.{HasImage, HasLent, ImagedIs, LendAnswers, LendView, LendsHeld}
use Rattle.shared_store.specs.declared.lending.LendFault.{LendFault}
use Rattle.shared_store.specs.declared.lending.LendFault.TheVariants as fault
use Rattle.shared_store.specs.Making.{parts_seen}
use Rattle.shared_store.specs.Store.{HandsView, IsWithin, SeatView, StoreView, shape_in}
use Rattle.shared_store.proofs.Made.{knows_same}

-- ---- images

-- an imaged phase has a stamp
pub imaged_with : (phase : Phase) → is_imaged phase ≡ true → (stamp : ℕ) × (phase ≡ Imaged stamp)
imaged_with Loose is = absurd (true≢false (sym is))
imaged_with (Sealed g) is = absurd (true≢false (sym is))
imaged_with (Imaged g) is = (g, refl)

-- Where a block is imaged with one stamp behind two logs, it has the same rows behind both.
pub rows_stay : (sh : Shape) (old more : List Logged) (table block stamp : ℕ) → IsShape sh → IsLawfulLog sh (made_in (old ++ more)) → HasBlock sh table block
    → (body_at sh (parts_after sh old) table block).phase ≡ Imaged stamp → (body_at sh (parts_after sh (old ++ more)) table block).phase ≡ Imaged stamp
    → rows_of (body_at sh (parts_after sh (old ++ more)) table block) ≡ rows_of (body_at sh (parts_after sh old) table block)
rows_stay sh old more table block stamp shape lawful has first last =
    let all : made_in (old ++ more) ≡ made_in old ++ made_in more = map-append (λ (e : Logged). e.made) old more in
    let both = lawful_parts sh (made_in old) (made_in more) (opening sh) (subst (IsLawfulLog sh) all lawful) in
    let start : Parts = parts_after sh old in
    let none' : made_in more ++ [] ≡ made_in more = append-nil (made_in more) in
    let on : parts_after sh (old ++ more) ≡ fold (after sh) start (made_in more) = ap (replay sh) all ∙ fold-append (after sh) (opening sh) (made_in old) (made_in more) in
    let still = imaged_rows_stay sh start (made_in more) [] table block stamp shape (reaches sh (made_in old) shape both.0)
    (subst (IsLawfulFrom sh start) (sym none') both.1) has first
    (subst (λ (log : List Made). (body_at sh (fold (after sh) start log) table block).phase ≡ Imaged stamp) (sym none')
    (subst (λ s. (body_at sh s table block).phase ≡ Imaged stamp) on last)) in
    ap (λ s. rows_of (body_at sh s table block)) on ∙ still.rows

-- ---- a pass

module _ (store : StoreView) (session : ℕ) (seat : SeatView) (hands : HandsView) (own : Option OwnTransaction) (is : IsWithin store session seat hands own) where
  -- The parts that its log leaves.
  abbrev pub left_parts : Parts
  left_parts = parts_after (shape_in store) (log_of seat.me.0.log)

  -- They are those that the hall's log leaves.
  pub same_parts : parts_seen (shape_in store) seat.me.0 ≡ left_parts
  same_parts = replay_same (shape_in store) seat.me.0.log

  -- A core of these parts holds.
  pub left_holds : CoreHolds (shape_in store) left_parts
  left_holds = subst (CoreHolds (shape_in store)) same_parts is.pass.of.1.sound

  -- What is open owns there what it wrote.
  pub left_owns : (o : OwnTransaction) → own ≡ Some o → OwnsAll (shape_in store) o left_parts
  left_owns o e = subst (OwnsAll (shape_in store) o) same_parts
      (subst (HasOpened (shape_in store) (parts_seen (shape_in store) seat.me.0) session) e is.knows.opened).1

  -- where a block is imaged its image is there
  pub image_there : (table block stamp : ℕ) → HasBlock (shape_in store) table block → (body_at (shape_in store) left_parts table block).phase ≡ Imaged stamp
      → HasImage (shape_in store) seat.me.0 own table block stamp (rows_of (body_at (shape_in store) left_parts table block))
  image_there table block stamp has imaged = record {
    imaged = imaged;
    rows = refl;
    sees = λ o e. shared_is (shape_in store) left_parts left_holds.measures left_holds.sound o table block (left_owns o e) has (ap is_imaged imaged);
  }

  module _ (table block part : ℕ) (number : slice_get (names (shape_in store)) part ≡ Some (BodyOf table block)) where
    -- the part of a block's body is there
    pub body_there : part < length (names (shape_in store)) → (p : CorePart) × (slice_get (parts_seen (shape_in store) seat.me.0) part ≡ Some p)
    body_there less = go (slice_get_cases (parts_seen (shape_in store) seat.me.0) part).1
      where
        count : length (parts_seen (shape_in store) seat.me.0) ≡ length (names (shape_in store))
        count = is.pass.of.1.sound.sound.count

        go : ((p : CorePart) × (part < length (parts_seen (shape_in store) seat.me.0)) × (slice_get (parts_seen (shape_in store) seat.me.0) part ≡ Some p) × (Rattle.std.proofs.Common.get_or (parts_seen (shape_in store) seat.me.0) part p ≡ p))
            ⊎ ((length (parts_seen (shape_in store) seat.me.0) ≤ part) × (slice_get (parts_seen (shape_in store) seat.me.0) part ≡ None))
            → (p : CorePart) × (slice_get (parts_seen (shape_in store) seat.me.0) part ≡ Some p)
        go (inl some) = (some.0, some.2)
        go (inr past) = absurd (let c = count in let l = less in let p = past.0 in let never : ⊥ = omega (arith, c, l, p) in never)

    -- what its word tells
    pub body_tells : (p : CorePart) → slice_get (parts_seen (shape_in store) seat.me.0) part ≡ Some p → TellsImage (shape_in store) left_parts table block p
    body_tells p at = words_tell_images (shape_in store) left_parts table block part p left_holds.sound number (ap (λ (s : Parts). slice_get s part) (sym same_parts) ∙ at)

    -- and that state and stamp have their room in it
    pub body_room : (p : CorePart) → slice_get (parts_seen (shape_in store) seat.me.0) part ≡ Some p → head_of (word_of p) < 2 ^ 32
    body_room p at = words_have_room (shape_in store) left_parts part p left_holds.sound (ap (λ (s : Parts). slice_get s part) (sym same_parts) ∙ at)

    -- a claim on it tells that it is imaged, with the claim's stamp
    pub claim_tells : (stamp : ℕ) → stamp < 2 ^ 30 → part < length (names (shape_in store)) → seat.me.0.claim ≡ suc part → seat.me.0.claimed ≡ 3 * 2 ^ 30 + stamp
        → (body_at (shape_in store) left_parts table block).phase ≡ Imaged stamp
    claim_tells stamp small less claim claimed =
        let there = body_there less in
        let head = is.pass.of.1.imaged part there.0 claim there.1 in
        let tells = body_tells there.0 there.1 in
        let frozen : IsFrozen (head_of (word_of there.0)) = (omega (arith, head, claimed), omega (arith, head, claimed, small)) in
        let imaged = imaged_with (body_at (shape_in store) left_parts table block).phase (tells.frozen.1 frozen) in
        let same = tells.stamp imaged.0 imaged.1 in
        let one : imaged.0 ≡ stamp = omega (arith, same, head, claimed) in
        imaged.1 ∙ ap Imaged one

-- ---- a leave

-- a pass that left a block knows what it knew, and has lent nothing
pub left_within : (store : StoreView) (session : ℕ) (s t : SeatView) (hands later : HandsView) (own : Option OwnTransaction) → IsWithin store session s hands own
    → IsPass (store_meaning (shape_in store)) store.id t later → t.me.0 ≡ left s.me.0 → IsWithin store session t later own
left_within store session s t hands later own within there view = record {
  pass = there;
  knows = knows_same (shape_in store) session s.me.0 t.me.0 own (ap (λ (v : View CoreEvent). v.log) view) (ap (λ (v : View CoreEvent). v.sessions) view)
      (ap (λ (v : View CoreEvent). v.sole) view) within.knows;
}

-- ---- an enter

-- what an enter leaves of a view, found it or not
tried_same : {X : Type 0} (F : View CoreEvent → X) (v : View CoreEvent) (k n : ℕ) → F (claimed v k n) ≡ F v → F (left (bumped v k n)) ≡ F v → F (tried v k n) ≡ F v
tried_same F v k n one other = go (leb (3 * 2 ^ 30) (head_in n))
  where
    go : (b : Bool) → F (cond b (claimed v k n) (left (bumped v k n))) ≡ F v
    go true = one
    go false = other

-- who entered a word that was frozen has a claim
pub tried_frozen : (v : View CoreEvent) (k n : ℕ) → IsFrozen (head_in n) → tried v k n ≡ claimed v k n
tried_frozen v k n frozen = ap (λ b. cond b (claimed v k n) (left (bumped v k n))) (is frozen.0)
  where
    is : 3 * 2 ^ 30 ≤ head_in n → leb (3 * 2 ^ 30) (head_in n) ≡ true
    is le = grind (arith, nat_tests, le)

-- who entered another word has a claim on it, where its head is one of frozen words at least, or none
pub tried_either : (v : View CoreEvent) (k n : ℕ) → ((3 * 2 ^ 30 ≤ head_in n) × (tried v k n ≡ claimed v k n)) ⊎ (tried v k n ≡ left (bumped v k n))
tried_either v k n = go (leb (3 * 2 ^ 30) (head_in n)) refl
  where
    go : (b : Bool) → leb (3 * 2 ^ 30) (head_in n) ≡ b → ((3 * 2 ^ 30 ≤ head_in n) × (cond b (claimed v k n) (left (bumped v k n)) ≡ claimed v k n)) ⊎ (cond b (claimed v k n) (left (bumped v k n)) ≡ left (bumped v k n))
    go true is = inl (grind (arith, nat_tests, is), refl)
    go false is = inr refl

-- the answer that there is no memory
abbrev wanting : Result LendView LendFault
wanting = Err fault.Memory

abbrev is_wanting : Result LendView LendFault → Bool
is_wanting (Ok lend) = false
is_wanting (Err (fault.NotLent word)) = false
is_wanting (Err fault.Memory) = true

-- A pass that entered a word under the part's latch, and saw no more of the log by that.
module _ (store : StoreView) (session : ℕ) (s t : SeatView) (hands later : HandsView) (own : Option OwnTransaction) (part n : ℕ)
    (within : IsWithin store session s hands own) (there : IsPass (store_meaning (shape_in store)) store.id t later)
    (view : t.me.0 ≡ record (tried s.me.0 part n) { log = t.me.0.log; looks = t.me.0.looks }) (log : t.me.0.log ≡ s.me.0.log)
  where
    -- What it leaves of the view.
    entered_same : {X : Type 0} (F : View CoreEvent → X) → ((v : View CoreEvent) (l : List (Entry CoreEvent)) (m : ℕ) → F (record v { log = l; looks = m }) ≡ F v)
        → ((v : View CoreEvent) → F (claimed v part n) ≡ F v) → ((v : View CoreEvent) → F (left (bumped v part n)) ≡ F v) → F t.me.0 ≡ F s.me.0
    entered_same F apart one other = ap F view ∙ apart (tried s.me.0 part n) t.me.0.log t.me.0.looks ∙ tried_same F s.me.0 part n (one s.me.0) (other s.me.0)

    pub entered_mine : t.me.0.mine ≡ s.me.0.mine
    entered_mine = entered_same (λ (v : View CoreEvent). v.mine) (λ v l m. refl) (λ v. refl) (λ v. refl)

    pub entered_taken : t.me.0.taken ≡ s.me.0.taken
    entered_taken = entered_same (λ (v : View CoreEvent). v.taken) (λ v l m. refl) (λ v. refl) (λ v. refl)

    -- it knows what it knew
    pub entered_within : IsWithin store session t later own
    entered_within = record {
      pass = there;
      knows = knows_same (shape_in store) session s.me.0 t.me.0 own log
          (entered_same (λ (v : View CoreEvent). v.sessions) (λ v l m. refl) (λ v. refl) (λ v. refl))
          (entered_same (λ (v : View CoreEvent). v.sole) (λ v l m. refl) (λ v. refl) (λ v. refl)) within.knows;
    }

    -- The block is the part's, which lies in the hand.
    module _ (table block : ℕ) (has : HasBlock (shape_in store) table block) (number : slice_get (names (shape_in store)) part ≡ Some (BodyOf table block))
        (p : CorePart) (at : slice_get (parts_seen (shape_in store) t.me.0) part ≡ Some p)
      where
        tells : TellsImage (shape_in store) (left_parts store session t later own entered_within) table block p
        tells = body_tells store session t later own entered_within table block part number p at

        pub entered_claim : IsFrozen (head_in n) → t.me.0.claim ≡ suc part
        entered_claim frozen = ap (λ (v : View CoreEvent). v.claim) view ∙ ap (λ (v : View CoreEvent). v.claim) (tried_frozen s.me.0 part n frozen)

        -- what was found frozen is lent
        pub entered_lends : IsFrozen (head_in n) → IsFrozen (head_of (word_of p)) → (lend : LendView) → lend.part ≡ part
            → rows_of (body_at (shape_in store) (left_parts store session t later own entered_within) table block) ≡ lend.rows
            → (stamp : ℕ) × HasLent (shape_in store) t.me.0 own lend table block stamp
        entered_lends frozen head lend is rows =
            let imaged = imaged_with (body_at (shape_in store) (left_parts store session t later own entered_within) table block).phase (tells.frozen.1 head) in
            let image = image_there store session t later own entered_within table block imaged.0 has imaged.1 in
            let known : head_of (word_of p) ≡ t.me.0.claimed = there.of.1.imaged part p (entered_claim frozen) at in (
              imaged.0,
              record {
                has = has;
                part = ap (slice_get (names (shape_in store))) is ∙ number;
                claim = let c = entered_claim frozen in let i = is in omega (arith, c, i);
                claimed = sym known ∙ tells.stamp imaged.0 imaged.1;
                image = record { imaged = imaged.1; rows = rows; sees = λ o e. image.sees o e ∙ rows };
              },
            )

        -- what is frozen is imaged
        pub entered_imaged : IsFrozen (head_of (word_of p)) → ImagedIs (shape_in store) t.me.0 own table block true
        entered_imaged head = tells.frozen.1 head

        -- and what is not is not
        pub entered_loose : (IsFrozen (head_of (word_of p)) → ⊥) → ImagedIs (shape_in store) t.me.0 own table block false
        entered_loose head = go (is_imaged (body_at (shape_in store) (left_parts store session t later own entered_within) table block).phase) refl
          where
            go : (b : Bool) → is_imaged (body_at (shape_in store) (left_parts store session t later own entered_within) table block).phase ≡ b
                → is_imaged (body_at (shape_in store) (left_parts store session t later own entered_within) table block).phase ≡ false
            go true imaged = absurd (head (tells.frozen.0 imaged))
            go false imaged = imaged

        -- The part is the block's body, whose state and stamp its word follows.
        entered_head : head_of (word_of p) ≡ head_of (word_of (Body (body_at (shape_in store) (left_parts store session t later own entered_within) table block)))
        entered_head =
            let sh = shape_in store in
            let s = left_parts store session t later own entered_within in
            let here = part_is sh s part (BodyOf table block) p number (ap (λ (x : Parts). slice_get x part) (sym (same_parts store session t later own entered_within)) ∙ at) in
            let body = Rattle.core_laws.proofs.Events.Naming.body_there sh s (left_holds store session t later own entered_within).sound.kinds table block has in
            ap (λ (q : CorePart). head_of (word_of q)) (same (part_at sh s (BodyOf table block)) (Body body.0) here body.1 ∙ ap Body (sym (ap body_from body.1)))
          where
            same : (o : Option CorePart) (q : CorePart) → o ≡ Some p → o ≡ Some q → p ≡ q
            same o q one other = cc

        -- Where the word was not frozen there is no claim.
        entered_none : (IsFrozen (head_in n) → ⊥) → tried s.me.0 part n ≡ left (bumped s.me.0 part n)
        entered_none other = go (tried_either s.me.0 part n)
          where
            go : ((3 * 2 ^ 30 ≤ head_in n) × (tried s.me.0 part n ≡ claimed s.me.0 part n)) ⊎ (tried s.me.0 part n ≡ left (bumped s.me.0 part n)) → tried s.me.0 part n ≡ left (bumped s.me.0 part n)
            go (inr none') = none'
            go (inl one) =
                let claim : t.me.0.claim ≡ suc part = ap (λ (v : View CoreEvent). v.claim) view ∙ ap (λ (v : View CoreEvent). v.claim) one.1 in
                let found : t.me.0.claimed ≡ head_in n = ap (λ (v : View CoreEvent). v.claimed) view ∙ ap (λ (v : View CoreEvent). v.claimed) one.1 in
                let known : head_of (word_of p) ≡ t.me.0.claimed = there.of.1.imaged part p claim at in
                let room = body_room store session t later own entered_within table block part number p at in
                let low = one.0 in
                absurd (other (low, omega (arith, found, known, room)))

        pub entered_free : (IsFrozen (head_in n) → ⊥) → t.me.0.claim ≡ 0
        entered_free other = ap (λ (v : View CoreEvent). v.claim) view ∙ ap (λ (v : View CoreEvent). v.claim) (entered_none other)

        pub entered_kept : (IsFrozen (head_in n) → ⊥) → s.me.0.claim ≡ 0 → SameClaim s.me.0 t.me.0
        entered_kept other free = (
          entered_free other ∙ sym free,
          ap (λ (v : View CoreEvent). v.claimed) view ∙ ap (λ (v : View CoreEvent). v.claimed) (entered_none other),
        )

        never_lent : (lend : LendView) (word : ℕ) → Ok lend ≡ Err (fault.NotLent word) → ⊥
        never_lent lend word e = cc

        -- Want of memory is another answer.
        never_wanting : (word : ℕ) → wanting ≡ Err (fault.NotLent word) → ⊥
        never_wanting word e = true≢false (ap is_wanting e)

        -- the block was not lent
        pub held_not : (word : ℕ) → word ≡ n → (IsFrozen (head_in n) → ⊥) → (head_in word ≡ head_of (word_of p)) × (IsFrozen (head_of (word_of p)) → ⊥) → s.me.0.claim ≡ 0 → first_of later ≡ first_of hands
            → LendsHeld store session s t hands later own table block (Err (fault.NotLent word))
        held_not word is other head free hand = record {
          within = entered_within;
          log = log;
          mine = entered_mine;
          taken = entered_taken;
          hand = hand;
          unlent = λ w e. entered_kept other free;
          answers = (entered_free other, entered_loose head.1, (λ frozen. other (subst (λ k. IsFrozen (head_in k)) is frozen)), head.0 ∙ entered_head);
        }

        -- it was
        pub held_lent : IsFrozen (head_in n) → IsFrozen (head_of (word_of p)) → (lend : LendView) → lend.part ≡ part
            → rows_of (body_at (shape_in store) (left_parts store session t later own entered_within) table block) ≡ lend.rows → first_of later ≡ first_of hands
            → LendsHeld store session s t hands later own table block (Ok lend)
        held_lent frozen head lend is rows hand = record {
          within = entered_within;
          log = log;
          mine = entered_mine;
          taken = entered_taken;
          hand = hand;
          unlent = λ w e. absurd (never_lent lend w e);
          answers = entered_lends frozen head lend is rows;
        }

        -- there was no memory for it, and it was left again
        pub held_wanting : (w : SeatView) (last : HandsView) → IsPass (store_meaning (shape_in store)) store.id w last → w.me.0 ≡ left t.me.0 → IsFrozen (head_of (word_of p))
            → first_of last ≡ first_of hands → LendsHeld store session s w hands last own table block (Err fault.Memory)
        held_wanting w last pass is head hand = record {
          within = left_within store session t w later last own entered_within pass is;
          log = ap (λ (v : View CoreEvent). v.log) is ∙ log;
          mine = ap (λ (v : View CoreEvent). v.mine) is ∙ entered_mine;
          taken = ap (λ (v : View CoreEvent). v.taken) is ∙ entered_taken;
          hand = hand;
          unlent = λ word e. absurd (never_wanting word e);
          answers = (
            ap (λ (v : View CoreEvent). v.claim) is,
            subst (λ (l : List (Entry CoreEvent)). is_imaged (body_at (shape_in store) (parts_after (shape_in store) (log_of l)) table block).phase ≡ true)
                (sym (ap (λ (v : View CoreEvent). v.log) is)) (entered_imaged head),
          );
        }

-- ---- what was lent is so in a view that knows the same

-- an image stays one in a view with the same log
pub image_on : (sh : Shape) (v w : View CoreEvent) (own : Option OwnTransaction) (table block stamp : ℕ) (rows : List Row) → w.log ≡ v.log
    → HasImage sh v own table block stamp rows → HasImage sh w own table block stamp rows
image_on sh v w own table block stamp rows log image = record {
  imaged = subst (λ (l : List (Entry CoreEvent)). (body_at sh (parts_after sh (log_of l)) table block).phase ≡ Imaged stamp) (sym log) image.imaged;
  rows = subst (λ (l : List (Entry CoreEvent)). rows_of (body_at sh (parts_after sh (log_of l)) table block) ≡ rows) (sym log) image.rows;
  sees = λ o e. subst (λ (l : List (Entry CoreEvent)). rows_read sh (parts_after sh (log_of l)) o table block ≡ rows) (sym log) (image.sees o e);
}

-- and so does a lend
pub lend_on : (sh : Shape) (v w : View CoreEvent) (own : Option OwnTransaction) (lend : LendView) (table block stamp : ℕ) → w.log ≡ v.log → SameClaim v w
    → HasLent sh v own lend table block stamp → HasLent sh w own lend table block stamp
lend_on sh v w own lend table block stamp log same lent = record {
  has = lent.has;
  part = lent.part;
  claim = same.0 ∙ lent.claim;
  claimed = same.1 ∙ lent.claimed;
  image = image_on sh v w own table block stamp lend.rows log lent.image;
}

-- and what a lend answers
pub answers_on : (sh : Shape) (v w : View CoreEvent) (own : Option OwnTransaction) (table block : ℕ) (result : Result LendView LendFault) → w.log ≡ v.log → SameClaim v w
    → LendAnswers sh v own table block result → LendAnswers sh w own table block result
answers_on sh v w own table block (Ok lend) log same a = (a.0, lend_on sh v w own lend table block a.0 log same a.1)
answers_on sh v w own table block (Err (fault.NotLent word)) log same a = (
  same.0 ∙ a.0,
  subst (λ (l : List (Entry CoreEvent)). is_imaged (body_at sh (parts_after sh (log_of l)) table block).phase ≡ false) (sym log) a.1,
  a.2,
  subst (λ (l : List (Entry CoreEvent)). head_in word ≡ head_of (word_of (Body (body_at sh (parts_after sh (log_of l)) table block)))) (sym log) a.3,
)
answers_on sh v w own table block (Err fault.Memory) log same a = (
  same.0 ∙ a.0,
  subst (λ (l : List (Entry CoreEvent)). is_imaged (body_at sh (parts_after sh (log_of l)) table block).phase ≡ true) (sym log) a.1,
)
