-- What a pass is to its hall, and what the calls tell.
use Rattle.std.specs.Prelude.{◌≡◌, ◌≢◌, ℕ, suc, ◌+◌, ◌*◌, ◌^◌, ◌<◌, ◌≤◌, true, false, List, []}
use Rattle.std.specs.Prelude.{◌∷◌, ◌++◌, Option, None, Some, Result, Ok, Err, length, slice_get}
use Rattle.atomic_table.specs.Seated.{TableId}
use Rattle.atomic_table.specs.Table.{Me}
use Rattle.atomic_table.specs.declared.shared.Seat.{Seat}
use Rattle.hall_rule.specs.EventLog.{Distinct, LawfulFrom, Tied, has, own, replay}
use Rattle.hall_rule.specs.HallInvariant.{GoesOn, hands_of, latch_word, stage, worn_by}
use Rattle.hall_rule.specs.Hands.{Holds}
use Rattle.hall_rule.specs.Heads.{IsFrozen, IsHot, head_in, head_of, readers_in}
use Rattle.hall_rule.specs.Meaning.{Meaning, meaning}
use Rattle.hall_rule.specs.declared.parts.Parts.{Ghosts}
use Rattle.hall_rule.specs.Slots.{slot_of}
use Rattle.hall_rule.specs.Views.{KeepsClaim, Learned, Stays, among, fresh}
use Rattle.hall_rule.specs.declared.view.Entry.{Entry}
use Rattle.hall_rule.specs.declared.view.View.{View}
use Rattle.hall_steps.specs.declared.readers.Claim.{Claim}
use Rattle.hall_steps.specs.declared.readers.NotFrozen.{NotFrozen}

-- The same seat of the same table, whatever it knows.
abbrev pub IsSameSeat : {S V : Type 0} → Seat S V → Seat S V → Type 0
IsSameSeat s t = (t.table_id ≡ s.table_id) × (t.id ≡ s.id)

-- The first of a pass's hands, in which its parts lie. A pass without a hand has one without
-- places.
abbrev pub first_of : {P : Type 0} → List (List (Option P)) → List (Option P)
first_of [] = []
first_of (hand ∷ hands) = hand

-- It holds of each hand.
abbrev pub EachHand : {P : Type 0} → (List (Option P) → Type 0) → List (List (Option P)) → Type 0
EachHand holds [] = Unit {0}
EachHand holds (hand ∷ hands) = holds hand × EachHand holds hands

-- The hands behind the first.
abbrev pub spares_of : {P : Type 0} → List (List (Option P)) → List (List (Option P))
spares_of [] = []
spares_of (hand ∷ hands) = hands

-- What contracts see of a hall: the core that it was built of and for how many passes, which table
-- it is, and the core's shape.
pub record HallView (C S : Type 0) : Type 0 where
  pub core : C
  pub passes : ℕ
  pub id : TableId
  pub shape : S

-- one more than the number of the part that an event thaws, 0 where it thaws none
abbrev pub thawed_by : Option ℕ → ℕ
thawed_by None = 0
thawed_by (Some k) = suc k

-- What the core means to the hall.
abbrev pub means : {C P E R S T F : Type 0} → Ghosts C P E R S T F → HallView C S → Meaning P E T F
means core_type hall = meaning core_type hall.core hall.passes

-- The claim is as it was.
abbrev pub SameClaim : {E : Type 0} → View E → View E → Type 0
SameClaim v w = (w.claim ≡ v.claim) × (w.claimed ≡ v.claimed)

module _ {P E T F : Type 0} (M : Meaning P E T F) where
  -- The event word with fifteen behind it, for each part sixteen words, and a slot for each part,
  -- with three behind it.
  pub record IsSized (z : TableId) : Type 0 where
    pub words : z.words ≡ latch_word (length M.start)
    pub slots : z.slots ≡ slot_of (length M.start)

  -- A seat of the table z that was not joined into another, which can step on the part k.
  pub record IsAt (z : TableId) (seat : Seat (Option P) (View E)) (k : ℕ) : Type 0 where
    pub sized : IsSized z
    pub table : seat.table_id ≡ z
    pub live : seat.me.0.spent ≡ false
    pub below : k < length M.start
    pub room : k < length seat.me.0.stages

  -- What the pass id knows between two calls, whose first hand this is: its log is lawful, has of
  -- its events exactly those that it made, and leaves the parts in the hand as they are there.
  pub record Knows (id : ℕ) (me : Me (Option P) (View E)) (hand : List (Option P)) : Type 0 where
    pub none_out : me.1 ≡ []
    pub home : me.0.out ≡ 0
    pub live : me.0.spent ≡ false
    pub stages : length me.0.stages ≡ length M.start
    pub begins : M.sound M.start
    pub few_hands : length me.0.sessions ≤ 128
    pub sound : M.sound (replay M me.0.log)
    pub lawful : LawfulFrom M M.start me.0.log
    pub mine : own (id ∷ me.0.joined) me.0.log ≡ me.0.mine
    pub total : length me.0.mine ≡ me.0.made
    pub distinct : Distinct me.0.sessions
    pub room : length (replay M me.0.log) ≡ length M.start
    pub agrees : (k : ℕ) (p : P) → slice_get hand k ≡ Some (Some p)
        → slice_get (replay M me.0.log) k ≡ Some p
    pub held : (k : ℕ) → Holds hand k → stage me.0 k ≡ 2
    pub away : (k : ℕ) → ¬ Holds hand k → stage me.0 k ≡ 0
    -- it made few events for each of its hands, and so did all other passes together
    pub few : length me.0.mine ≤ 2 ^ 56 * hands_of me.0
    pub budget : length me.0.log + 2 ^ 56 * hands_of me.0 ≤ 2 ^ 56 * M.passes + length me.0.mine
    pub limit : M.passes ≤ 128
    -- each entry stands under a session, and those under its own sessions are its own
    pub tied : Tied M.passes (id ∷ me.0.joined) me.0.sessions me.0.sole me.0.log
    -- it knows a head for each part's word, and has bumped none
    pub wide : length me.0.worn ≡ length M.start
    pub no_bump : me.0.bump ≡ 0
    -- the block on which it has a claim is one of the parts, and is frozen as the claim found it
    pub claims : me.0.claim ≤ length M.start
    pub imaged : KeepsClaim M me.0 me.0.log

  -- What a pass knows of the words of the parts in its hand: they follow the parts, but for that of
  -- a block that is about to be thawed, which is hot, and which nobody reads. `thawing` is one more
  -- than the number of that block, or 0.
  pub record Settled
      (thawing : ℕ) (me : Me (Option P) (View E)) (hand : List (Option P))
      : Type 0 where
    pub worn : (k : ℕ) (p : P) → suc k ≢ thawing → slice_get hand k ≡ Some (Some p)
        → worn_by me.0 k ≡ M.head p
    pub hot : (k : ℕ) (p : P) → suc k ≡ thawing → slice_get hand k ≡ Some (Some p)
        → IsHot (worn_by me.0 k) × (worn_by me.0 k + 3 * 2 ^ 30 ≡ M.head p)
    pub drained : me.0.drained ≡ thawing

  -- A pass of the table z, and its first hand, which is about to thaw a part, or none.
  abbrev pub IsOfAt : ℕ → TableId → Seat (Option P) (View E) → List (Option P) → Type 0
  IsOfAt thawing z seat hand = (seat.table_id ≡ z) × Knows seat.id seat.me hand
      × Settled thawing seat.me hand

  abbrev pub IsOf : TableId → Seat (Option P) (View E) → List (Option P) → Type 0
  IsOf = IsOfAt 0

  -- A pass of the table z with these hands: each has a place for every part, and only the first has
  -- parts.
  pub record IsPassAt
      (thawing : ℕ) (z : TableId) (seat : Seat (Option P) (View E)) (hands : List (List (Option P)))
      : Type 0 where
    pub of : IsOfAt thawing z seat (first_of hands)
    pub count : length hands ≡ hands_of seat.me.0
    pub places : EachHand (λ hand. length hand ≡ length M.start) hands
    pub spares : EachHand (λ hand. (k : ℕ) → ¬ Holds hand k) (spares_of hands)

  abbrev pub IsPass : TableId → Seat (Option P) (View E) → List (List (Option P)) → Type 0
  IsPass = IsPassAt 0

  -- The view goes on from all that was seen, with no event of the pass's in it that is new.
  pub record LooksOn (id : ℕ) (v w : View E) : Type 0 where
    pub joined : w.joined ≡ v.joined
    pub sessions : w.sessions ≡ v.sessions
    pub mine : w.mine ≡ v.mine
    pub sole : w.sole ≡ v.sole
    pub reads : SameClaim v w
    pub learned : Learned M id v w.log

  -- The same pass, which has seen no less and made no event.
  abbrev pub Looks : Seat (Option P) (View E) → Seat (Option P) (View E) → Type 0
  Looks s t = IsSameSeat s t × LooksOn s.id s.me.0 t.me.0

  -- The same pass, which has seen no less and made no event. What it knew of its sessions, and for
  -- good, still stands.
  pub record SeesMore (v w : View E) : Type 0 where
    pub joined : w.joined ≡ v.joined
    pub sessions : w.sessions ≡ v.sessions
    pub mine : w.mine ≡ v.mine
    pub sole : w.sole ≡ v.sole
    pub reads : SameClaim v w
    pub stays : Stays M v.sessions v.log w.log

  -- The view's log goes on from all that was seen, up to `before`, and ends with the entry, which
  -- is one more of the pass's.
  pub record EndsWith
      (id : ℕ) (v : View E) (before : List (Entry E)) (e : Entry E) (w : View E)
      : Type 0 where
    pub joined : w.joined ≡ v.joined
    pub sessions : w.sessions ≡ v.sessions
    pub learned : Learned M id v before
    pub log : w.log ≡ before ++ e ∷ []
    pub mine : w.mine ≡ v.mine ++ e ∷ []
    pub sole : w.sole ≡ v.sole
    pub taken : w.taken ≡ v.taken
    pub reads : SameClaim v w

  -- The same pass, whose log ends with one event more.
  abbrev pub Extends : Seat (Option P) (View E) → List (Entry E) → Entry E
      → Seat (Option P) (View E) → Type 0
  Extends s before e t = IsSameSeat s t × EndsWith s.id s.me.0 before e t.me.0

  -- A new pass with these sessions, which has seen no less than another and made no event. What
  -- that knew of these sessions still stands.
  pub record IsNew (v w : View E) (sessions : List ℕ) : Type 0 where
    pub joined : w.joined ≡ []
    pub mine : w.mine ≡ []
    pub hands : w.sessions ≡ sessions
    pub sole : w.sole ≡ fresh v sessions
    pub taken : w.taken ≡ []
    pub free : w.claim ≡ 0
    pub goes_on : GoesOn v w.log
    pub stays : Stays M sessions v.log w.log

  -- Two passes became one: it has the numbers, the entries and the hands of both, and has seen no
  -- less than either. What each knew of its own sessions, and for good, still stands, and the parts
  -- that the first holds are as it knew them.
  pub record Joined (id other : ℕ) (v u w : View E) : Type 0 where
    pub joined : w.joined ≡ v.joined ++ other ∷ u.joined
    pub sessions : w.sessions ≡ v.sessions ++ u.sessions
    pub mine : w.mine ≡ own (id ∷ w.joined) w.log
    pub sole : w.sole ≡ among v.sessions v.sole ++ among u.sessions u.sole
    pub entries : length w.mine ≡ length v.mine + length u.mine
    pub goes_on : GoesOn v w.log
    pub theirs : GoesOn u w.log
    pub stood : Stays M v.sessions v.log w.log
    pub came : Stays M u.sessions u.log w.log
    pub parts : (k : ℕ) → stage v k ≡ 2
        → slice_get (replay M w.log) k ≡ slice_get (replay M v.log) k
    pub taken : w.taken ≡ v.taken
    pub reads : SameClaim v w

module _ {E : Type 0} where
  -- The word of the part k has this head; the other words have what they had.
  pub record Reworded (k head : ℕ) (v w : View E) : Type 0 where
    pub same : w ≡ record v { worn = w.worn; drained = w.drained }
    pub here : worn_by w k ≡ head
    pub others : (i : ℕ) → i ≢ k → worn_by w i ≡ worn_by v i
    pub room : length w.worn ≡ length v.worn
    pub drained : v.drained ≡ 0 → w.drained ≡ 0

-- The words of the parts in the hand have the heads of these.
abbrev pub FollowParts : {C P E R S T F : Type 0} → Ghosts C P E R S T F → View E
    → List (Option P) → Type 0
FollowParts {P = P} core_type v hand = (k : ℕ) (p : P) → slice_get hand k ≡ Some (Some p)
    → worn_by v k ≡ head_of (core_type.wears p)

module _ {P E : Type 0} where
  -- The parts in the hand, and no others, were taken since.
  pub record TookParts (hand : List (Option P)) (v w : View E) : Type 0 where
    pub parts : List ℕ
    pub taken : w.taken ≡ v.taken ++ parts
    pub held : (k : ℕ) → has k parts ≡ true → Holds hand k

-- What the answer to an enter of the part k tells of the number that it found in the word: a claim
-- where that is frozen, else the number.
abbrev pub EnterTells : ℕ → ℕ → Result Claim NotFrozen → Type 0
EnterTells k n (Ok claim) = (claim.part ≡ k) × IsFrozen (head_in n)
EnterTells k n (Err not_frozen) = (not_frozen.word ≡ n) × ¬ IsFrozen (head_in n)

-- What it tells of the head of a part in the hand: a claim where that is frozen, and only there;
-- else the number, which has that head.
abbrev pub EntersHeld : ℕ → Result Claim NotFrozen → Type 0
EntersHeld head (Ok claim) = IsFrozen head
EntersHeld head (Err not_frozen) = (head_in not_frozen.word ≡ head) × ¬ IsFrozen head

-- The word with another head, and with its readers.
abbrev pub with_head : ℕ → ℕ → ℕ
with_head n head = head * 2 ^ 32 + readers_in n

-- What contracts see of a closed hall: its parts, all at home, and its words as they lay.
pub record ClosedView (P : Type 0) : Type 0 where
  pub parts : List (Option P)
  pub words : List ℕ
