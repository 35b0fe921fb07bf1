-- What holds of a hall between any two atomic steps. The words are the event word, with fifteen
-- behind it that nobody uses, and for each part that of its latch, that of its block, and fourteen
-- that nobody uses. There is a slot for each part, with three behind it that no step touches, and
-- the view of each seat, whose number is the pass's.
use Rattle.std.specs.Prelude.{◌≡◌, ◌≢◌, ◌⊎◌, ℕ, suc, ◌+◌, ◌*◌, ◌^◌, ◌<◌, ◌≤◌, ◌==◌, true, false}
use Rattle.std.specs.Prelude.{cond, List, [], ◌∷◌, ◌++◌, Option, None, Some, length, drop}
use Rattle.std.specs.Prelude.{slice_get, slice_index}
use mathlib.Core.Option as maybe
use lib.ListN.{get_elem?}
use Rattle.atomic_table.specs.Table.{State}
use Rattle.hall_rule.specs.EventLog.{Distinct, LawfulFrom, MadeBelow, Spares, Tied, Untouched, has}
use Rattle.hall_rule.specs.EventLog.{own, replay}
use Rattle.hall_rule.specs.Heads.{IsFrozen, IsHot, MayTurn, head_in, readers_in}
use Rattle.hall_rule.specs.Meaning.{Meaning}
use Rattle.hall_rule.specs.Slots.{slot_of}
use Rattle.hall_rule.specs.declared.view.Entry.{Entry}
use Rattle.hall_rule.specs.declared.view.View.{View}

-- Who has what: the seat that holds a part, the seat that a number was joined into, and the seat of
-- a session.
pub record Owners : Type 0 where
  pub part : ℕ → ℕ
  pub number : ℕ → ℕ
  pub session : ℕ → ℕ

-- The word of the latch of the part k. Latches lie sixteen words apart from each other and from the
-- event word, so that no two lie in the two lines of its cache that a processor fetches together. A
-- hall of k parts has as many words in all.
abbrev pub latch_word : ℕ → ℕ
latch_word k = 16 * k + 16

-- The word of the block that the part k is. It lies in the line of the latch, which whoever turns
-- the word has touched already. That of a part that is no block stays 0.
abbrev pub block_word : ℕ → ℕ
block_word k = latch_word k + 1

-- The head of the word of the part k, and its readers.
abbrev pub head_at : List ℕ → ℕ → ℕ
head_at words k = head_in (slice_index words (block_word k))

abbrev pub readers_at : List ℕ → ℕ → ℕ
readers_at words k = readers_in (slice_index words (block_word k))

module _ {E : Type 0} where
  -- The entries that the view has not seen.
  abbrev pub since : View E → List (Entry E) → List (Entry E)
  since v log = drop (length v.log) log

  -- The log goes on from all that the view has seen.
  abbrev pub GoesOn : View E → List (Entry E) → Type 0
  GoesOn v log = log ≡ v.log ++ since v log

  -- How far the view is with the part k: 0 not held, 1 taken, 2 and the event word loaded since.
  abbrev pub stage : View E → ℕ → ℕ
  stage v k = slice_index v.stages k

  abbrev pub entries_of : View E → ℕ
  entries_of v = length v.mine

  abbrev pub hands_of : View E → ℕ
  hands_of v = length v.sessions

  -- A number of each view, added up.
  abbrev pub total_of : (View E → ℕ) → List (View E) → ℕ
  total_of f [] = 0
  total_of f (v ∷ vs) = f v + total_of f vs

  -- It holds of each seat and its view, but for views that were joined into another.
  abbrev pub EachLive : (ℕ → View E → Type 0) → List (View E) → Type 0
  EachLive holds views = (j : ℕ) (v : View E) → get_elem? views j ≡ maybe.some v → v.spent ≡ false
      → holds j v

  -- The head that a view knows of the word of a part in its hand.
  abbrev pub worn_by : View E → ℕ → ℕ
  worn_by v k = slice_index v.worn k

  -- How many claims and bumps of a view are on the part k, and how many it has.
  abbrev pub readers_on : ℕ → View E → ℕ
  readers_on k v = cond {A = ℕ} (v.claim == suc k) 1 0 + cond {A = ℕ} (v.bump == suc k) 1 0

  abbrev pub readers_of : View E → ℕ
  readers_of v = cond {A = ℕ} (v.claim == 0) 0 1 + cond {A = ℕ} (v.bump == 0) 0 1

  -- A view that drained a part holds it, the part's word is hot, and nobody has a claim on it.
  pub record Drains (views : List (View E)) (v : View E) (k : ℕ) : Type 0 where
    pub held : stage v k ≡ 2
    pub hot : IsHot (worn_by v k)
    pub alone : (j : ℕ) (u : View E) → get_elem? views j ≡ maybe.some u → u.claim ≢ suc k

  -- Drained blocks stay so.
  pub record DrainsHold (views : List (View E)) : Type 0 where
    pub each : EachLive (λ j v. (k : ℕ) → v.drained ≡ suc k → Drains views v k) views

module _ {P E T F : Type 0} (M : Meaning P E T F) where
  -- A word's readers are the claims and the bumps on its part, in all views. A view has at most one
  -- of them, and one without a hand has none.
  pub record ReadersCounted (s : State (Option P) (View E)) : Type 0 where
    pub counted : (k : ℕ) → k < length M.start → readers_at s.words k
        ≡ total_of (readers_on k) s.views
    pub one : (j : ℕ) (v : View E) → get_elem? s.views j ≡ maybe.some v → readers_of v ≤ 1
    pub idle : (j : ℕ) (v : View E) → get_elem? s.views j ≡ maybe.some v → hands_of v ≡ 0
        → readers_of v ≡ 0

module _ {P E T F : Type 0} (M : Meaning P E T F) (log : List (Entry E)) where
  -- The slot of the part k has that part of what the log leaves.
  abbrev pub AtHome : List (maybe.Option (Option P)) → ℕ → Type 0
  AtHome homes k = (p : P) × (slice_get (replay M log) k ≡ Some p)
      × (get_elem? homes (slot_of k) ≡ maybe.some (maybe.some (Some p)))

  -- The view's log is a beginning of the log, and so is what it heard; its own entries are exactly
  -- those of its numbers.
  pub record SeesLog (number : ℕ → ℕ) (seats : ℕ) (j : ℕ) (v : View E) : Type 0 where
    pub goes_on : GoesOn v log
    pub before : log ≡ v.before ++ drop (length v.before) log
    pub heard : log ≡ v.heard ++ drop (length v.heard) log
    pub mine : own (j ∷ v.joined) log ≡ v.mine
    pub seen : own (j ∷ v.joined) v.log ≡ v.mine
    pub total : length v.mine ≡ v.made
    pub numbers : (i : ℕ) → has i (j ∷ v.joined) ≡ true → (number i ≡ j) × (i < seats)

  -- One log, as long as the event word says. Each entry names a pass that was made, and no number
  -- stands in two views.
  pub record OneLog (owners : Owners) (s : State (Option P) (View E)) : Type 0 where
    pub counted : slice_index s.words 0 ≡ length log
    pub made : MadeBelow (length s.views) log
    pub each : EachLive (SeesLog owners.number (length s.views)) s.views

  -- A part that the view holds is latched, this seat alone holds it, and it is among those that it
  -- ever took. Until the event word is loaded it is at home. From then on no entry that the view
  -- has not seen changes it, nor one since the last call that changed the hand; and its value is in
  -- the hand, or out on the way there or back.
  pub record HoldsParts
      (part : ℕ → ℕ) (words : List ℕ) (homes : List (maybe.Option (Option P))) (j : ℕ) (v : View E)
      : Type 0 where
    pub holds : (k : ℕ) → stage v k ≢ 0 → (k < length M.start)
        × (slice_index words (latch_word k) ≡ 1) × (part k ≡ j)
    pub taken : (k : ℕ) → stage v k ≡ 1 → AtHome homes k
    pub loaded : (k : ℕ) → stage v k ≡ 2 → Untouched M k (replay M v.log) (since v log)
    pub kept : (k : ℕ) → stage v k ≡ 2
        → Untouched M k (replay M v.before) (drop (length v.before) log)
    pub in_hand : (k : ℕ) → stage v k ≡ 2 → v.out ≢ suc k → get_elem? homes (slot_of k)
        ≡ maybe.some (maybe.some None)
    pub out : (k : ℕ) → v.out ≡ suc k → stage v k ≡ 2
    pub ever : (k : ℕ) → stage v k ≢ 0 → has k v.taken ≡ true

  -- A part whose latch is free is at home, and one whose latch is taken is held by one view.
  pub record PartsAtHome (owners : Owners) (s : State (Option P) (View E)) : Type 0 where
    pub wide : length s.words ≡ latch_word (length M.start)
    pub deep : length s.homes ≡ slot_of (length M.start)
    pub free : (k : ℕ) → k < length M.start → slice_index s.words (latch_word k) ≡ 0
        → AtHome s.homes k
    pub latched : (k : ℕ) → k < length M.start → slice_index s.words (latch_word k) ≢ 0
        → (v : View E) × (get_elem? s.views (owners.part k) ≡ maybe.some v)
        × (v.spent ≡ false) × (stage v k ≢ 0)
    pub each : EachLive (HoldsParts owners.part s.words s.homes) s.views

  -- No other view has a session of the view's, no entry that it has not seen is of one, and the
  -- transactions of its sessions are as it knows them. Its entries are tied to it. Of a session
  -- that it had at its last join no entry is since its own log then, and of one that came with the
  -- other pass none since that pass's log.
  pub record OwnsSessions (session : ℕ → ℕ) (j : ℕ) (v : View E) : Type 0 where
    pub sessions : (q : ℕ) → has q v.sessions ≡ true → session q ≡ j
    pub distinct : Distinct v.sessions
    pub spared : (q : ℕ) → has q v.sessions ≡ true → Spares M q (since v log)
    pub transactions : (q : ℕ) → has q v.sessions ≡ true → M.transaction (replay M log) q
        ≡ M.transaction (replay M v.log) q
    pub stood : (q : ℕ) → has q v.stood ≡ true → has q v.sessions ≡ true
        → Spares M q (drop (length v.before) log)
    pub came : (q : ℕ) → has q v.came ≡ true → has q v.sessions ≡ true
        → Spares M q (drop (length v.heard) log)
    pub tied : Tied M.passes (j ∷ v.joined) v.sessions v.sole log

  -- The log is lawful, and each transaction that it leaves is in exactly one view: that of the seat
  -- of its session.
  pub record LawfulLog (owners : Owners) (s : State (Option P) (View E)) : Type 0 where
    pub begins : M.sound M.start
    pub lawful : LawfulFrom M M.start log
    pub each : EachLive (OwnsSessions owners.session) s.views
    pub owned : (q : ℕ) (t : T) → M.transaction (replay M log) q ≡ Some t → (v : View E)
        × (get_elem? s.views (owners.session q) ≡ maybe.some v) × (v.spent ≡ false)
        × (has q v.sessions ≡ true)

  -- What a view learned holds of what the log leaves.
  pub record LastingFacts (s : State (Option P) (View E)) : Type 0 where
    pub each : EachLive (λ j v. (f : F) → M.fact f (replay M v.log) → M.fact f (replay M log))
        s.views

  -- The hands are no more than were made, a view has few entries for each hand, and one without a
  -- hand holds no part. The entries are those of the views.
  pub record Hands (s : State (Option P) (View E)) : Type 0 where
    pub limit : M.passes ≤ 128
    pub handed : total_of hands_of s.views ≤ M.passes
    pub entries : length log ≡ total_of entries_of s.views
    pub few : (j : ℕ) (v : View E) → get_elem? s.views j ≡ maybe.some v
        → entries_of v ≤ 2 ^ 56 * hands_of v
    pub idle : (j : ℕ) (v : View E) → get_elem? s.views j ≡ maybe.some v → hands_of v ≡ 0 → (k : ℕ)
        → stage v k ≡ 0

  -- The word of the part k follows the part.
  abbrev pub Follows : List ℕ → ℕ → Type 0
  Follows words k = (p : P) → slice_get (replay M log) k ≡ Some p → head_at words k ≡ M.head p

  -- The words of the parts that a view holds follow the parts until the event word is loaded; from
  -- then on they have the heads that the view knows, and may be turned to those of their parts. One
  -- that is frozen follows its part, whatever the view has still to do.
  pub record WearsWords (words : List ℕ) (j : ℕ) (v : View E) : Type 0 where
    pub taken : (k : ℕ) → stage v k ≡ 1 → Follows words k
    pub worn : (k : ℕ) → stage v k ≡ 2 → head_at words k ≡ worn_by v k
    pub near : (k : ℕ) (p : P) → stage v k ≡ 2 → slice_get (replay M log) k ≡ Some p
        → MayTurn (worn_by v k) (M.head p)
    pub frozen : (k : ℕ) (p : P) → stage v k ≡ 2 → IsFrozen (worn_by v k)
        → slice_get (replay M log) k ≡ Some p → M.head p ≡ worn_by v k
    pub room : length v.worn ≡ length v.stages
    pub stages : (k : ℕ) → stage v k ≤ 2

  -- Words follow parts: that of a part whose latch is free does.
  pub record WordsFollow (s : State (Option P) (View E)) : Type 0 where
    pub free : (k : ℕ) → k < length M.start → slice_index s.words (latch_word k) ≡ 0
        → Follows s.words k
    pub each : EachLive (WearsWords s.words) s.views

  -- A claim on the part k found it frozen. The part still has that state and stamp, and its word
  -- has them too, or is hot with the same stamp, where a thaw waits.
  pub record Claims (words : List ℕ) (v : View E) (k : ℕ) : Type 0 where
    pub below : k < length M.start
    pub frozen : IsFrozen v.claimed
    pub imaged : (p : P) → slice_get (replay M log) k ≡ Some p → M.head p ≡ v.claimed
    pub word : (head_at words k ≡ v.claimed) ⊎ (head_at words k + 3 * 2 ^ 30 ≡ v.claimed)

  -- Claims are on frozen blocks.
  pub record ClaimsHold (s : State (Option P) (View E)) : Type 0 where
    pub each : (j : ℕ) (v : View E) → get_elem? s.views j ≡ maybe.some v → (k : ℕ)
        → v.claim ≡ suc k → Claims s.words v k

  -- The invariant of a hall, for its log and for who has what, in nine parts.
  pub record HallInvariant (owners : Owners) (s : State (Option P) (View E)) : Type 0 where
    pub one_log : OneLog owners s
    pub at_home : PartsAtHome owners s
    pub lawful : LawfulLog owners s
    pub facts : LastingFacts s
    pub hands : Hands s
    pub words : WordsFollow s
    pub readers : ReadersCounted M s
    pub claims : ClaimsHold s
    pub drains : DrainsHold s.views
