-- How a view changes by each kind of step, and what the step tells.
use Rattle.std.specs.Prelude.{◌≡◌, ℕ, suc, ◌+◌, ◌*◌, ◌^◌, ◌≤◌, ◌==◌, ◌&&◌, min, max, Bool, true}
use Rattle.std.specs.Prelude.{false, cond, List, [], ◌∷◌, ◌++◌, Option, None, Some, drop, length}
use Rattle.std.specs.Prelude.{fold, replicate, slice_get, slice_set, leb, ltb}
use Rattle.atomic_table.specs.Table.{Me}
use Rattle.hall_rule.specs.EventLog.{Distinct, LawfulFrom, Spares, Tied, has, is_unnamed, own}
use Rattle.hall_rule.specs.EventLog.{replay}
use Rattle.hall_rule.specs.HallInvariant.{GoesOn, hands_of, since, stage, worn_by}
use Rattle.hall_rule.specs.Heads.{head_in}
use Rattle.hall_rule.specs.Meaning.{Meaning}
use Rattle.hall_rule.specs.Slots.{slot_of}
use Rattle.hall_rule.specs.declared.view.Entry.{Entry}
use Rattle.hall_rule.specs.declared.view.View.{View}

-- The least of some sessions, 0 where there are none.
abbrev pub least : List ℕ → ℕ
least [] = 0
least (q ∷ qs) = fold min q qs

-- The greatest of some sessions, 0 where there are none.
abbrev pub greatest : List ℕ → ℕ
greatest [] = 0
greatest (q ∷ qs) = max q (greatest qs)

-- The sessions but for q, which stands there once.
abbrev pub without : ℕ → List ℕ → List ℕ
without q [] = []
without q (r ∷ rs) = cond (q == r) rs (r ∷ without q rs)

-- Those of some sessions that are among others.
abbrev pub among : List ℕ → List ℕ → List ℕ
among sessions [] = []
among sessions (q ∷ qs) = cond (has q sessions) (q ∷ among sessions qs) (among sessions qs)

module _ {E : Type 0} where
  -- The part k is taken, and gets to the stage n.
  abbrev pub staged : View E → ℕ → ℕ → View E
  staged v k n = record v { stages = slice_set v.stages k n; taken = v.taken ++ k ∷ [] }

  -- The whole log is seen, and the slot of the part k goes out, whose word has this head.
  abbrev pub loaded : View E → ℕ → ℕ → List (Entry E) → View E
  loaded v k head log = record v {
    log = log;
    before = log;
    stages = slice_set v.stages k 2;
    out = suc k;
    worn = slice_set v.worn k head;
  }

  -- The whole log is seen.
  abbrev pub looked : View E → List (Entry E) → View E
  looked v log = record v { log = log; looks = v.looks + 1 }

  -- The word of the part k gets this head.
  abbrev pub turned : View E → ℕ → ℕ → View E
  turned v k head = record v { worn = slice_set v.worn k head; drained = 0 }

  -- The word of the part k was loaded without a reader.
  abbrev pub emptied : View E → ℕ → View E
  emptied v k = record v { drained = suc k }

  -- A claim on the part k, whose word had this head.
  abbrev pub claimed : View E → ℕ → ℕ → View E
  claimed v k n = record v {
    claim = suc k;
    claimed = head_in n;
    found = v.found ++ record { part = k; word = n } ∷ [];
  }

  -- The word of the part k was bumped.
  abbrev pub bumped : View E → ℕ → ℕ → View E
  bumped v k n = record v {
    bump = suc k;
    found = v.found ++ record { part = k; word = n } ∷ [];
  }

  -- A word was entered, in which this number was found.
  abbrev pub entered : View E → ℕ → ℕ → View E
  entered v k n = cond (leb (3 * 2 ^ 30) (head_in n)) (claimed v k n) (bumped v k n)

  -- The claim is given back, or the bump is taken back.
  abbrev pub left : View E → View E
  left v = record v { claim = 0; bump = 0 }

  -- A word was entered, and left at once where it was not frozen.
  abbrev pub tried : View E → ℕ → ℕ → View E
  tried v k n = cond (leb (3 * 2 ^ 30) (head_in n)) (claimed v k n) (left (bumped v k n))

  -- The slot that is out is given home.
  abbrev pub homed : View E → View E
  homed v = record v { out = 0 }

  -- The slot of the part k goes out.
  abbrev pub drawn : View E → ℕ → View E
  drawn v k = record v { out = suc k }

  -- The slot that is out is given home with the part k, and the latch is free.
  abbrev pub given : View E → ℕ → View E
  given v k = record v { stages = slice_set v.stages k 0; out = 0 }

  -- The same view, with the hand of another.
  abbrev pub with_hand_of : View E → View E → View E
  with_hand_of w v = record v { stages = w.stages; out = w.out }

  -- An event of a pass: its entry.
  abbrev pub entry_of : ℕ → View E → Bool → E → Entry E
  entry_of id v refused event = record {
    pass = id;
    session = least v.sessions;
    count = length v.mine;
    refused = refused;
    event = event;
  }

  -- The log was seen up to `before`, and an entry was added to it.
  abbrev pub added : View E → List (Entry E) → Entry E → View E
  added v before e = record v {
    log = before ++ e ∷ [];
    before = before ++ e ∷ [];
    mine = v.mine ++ e ∷ [];
    made = v.made + 1;
    came = [];
    drained = 0;
  }

  -- Those of some sessions under which no entry stands, as a view knows.
  abbrev pub fresh : View E → List ℕ → List ℕ
  fresh v [] = []
  fresh v (q ∷ qs) = cond (has q v.sole && is_unnamed q v.mine) (q ∷ fresh v qs) (fresh v qs)

  -- A new pass, which has seen what another has, with these sessions.
  abbrev pub newcomer : View E → List ℕ → View E
  newcomer v sessions = record {
    joined = [];
    log = v.log;
    looks = 0;
    before = [];
    heard = [];
    mine = [];
    made = 0;
    stages = replicate (length v.stages) 0;
    out = 0;
    sessions = sessions;
    stood = [];
    came = [];
    sole = fresh v sessions;
    taken = [];
    worn = replicate (length v.worn) 0;
    drained = 0;
    claim = 0;
    claimed = 0;
    bump = 0;
    found = [];
    spent = false;
  }

  -- The hand of the greatest session was dealt out.
  abbrev pub dealt : View E → View E
  dealt v = record v { sessions = without (greatest v.sessions) v.sessions }

  -- The longer of two logs.
  abbrev pub longer : List (Entry E) → List (Entry E) → List (Entry E)
  longer xs ys = cond (ltb (length xs) (length ys)) ys xs

  -- The numbers, entries and hands of the pass `other` are added to those of a pass.
  abbrev pub joined_by : ℕ → ℕ → View E → View E → View E
  joined_by id other v u = record v {
    joined = v.joined ++ other ∷ u.joined;
    log = longer v.log u.log;
    before = v.log;
    heard = u.log;
    mine = own (id ∷ v.joined ++ other ∷ u.joined) (longer v.log u.log);
    made = v.made + u.made;
    sessions = v.sessions ++ u.sessions;
    stood = v.sessions;
    came = u.sessions;
    sole = among v.sessions v.sole ++ among u.sessions u.sole;
  }

  -- What is left of a pass that was joined into another.
  abbrev pub spent_view : View E
  spent_view = record {
    joined = [];
    log = [];
    looks = 0;
    before = [];
    heard = [];
    mine = [];
    made = 0;
    stages = [];
    out = 0;
    sessions = [];
    stood = [];
    came = [];
    sole = [];
    taken = [];
    worn = [];
    drained = 0;
    claim = 0;
    claimed = 0;
    bump = 0;
    found = [];
    spent = true;
  }

module _ {P E T F : Type 0} (M : Meaning P E T F) where
  -- The block on which a view has a claim is frozen by what a log leaves, with the stamp that the
  -- claim found.
  abbrev pub KeepsClaim : View E → List (Entry E) → Type 0
  KeepsClaim v log = (k : ℕ) (p : P) → v.claim ≡ suc k → slice_get (replay M log) k ≡ Some p
      → M.head p ≡ v.claimed

  -- What a pass learns when it sees a longer log: that it is lawful, has of the pass's events those
  -- that it made, and leaves the parts in its hand, the transactions of its sessions, the block on
  -- which it has a claim and all lasting facts as they were.
  pub record Learned (id : ℕ) (v : View E) (log : List (Entry E)) : Type 0 where
    pub goes_on : GoesOn v log
    pub before : log ≡ v.before ++ drop (length v.before) log
    pub heard : log ≡ v.heard ++ drop (length v.heard) log
    pub begins : M.sound M.start
    pub mine : own (id ∷ v.joined) log ≡ v.mine
    pub total : length v.mine ≡ v.made
    pub sound : M.sound (replay M log)
    pub lawful : LawfulFrom M M.start log
    pub spared : (q : ℕ) → has q v.sessions ≡ true → Spares M q (since v log)
    pub parts : (k : ℕ) → stage v k ≡ 2 → slice_get (replay M log) k ≡ slice_get (replay M v.log) k
    pub kept : (k : ℕ) → stage v k ≡ 2 → slice_get (replay M log) k
        ≡ slice_get (replay M v.before) k
    pub few_hands : length v.sessions ≤ 128
    pub transactions : (q : ℕ) → has q v.sessions ≡ true → M.transaction (replay M log) q
        ≡ M.transaction (replay M v.log) q
    pub distinct : Distinct v.sessions
    pub facts : (f : F) → M.fact f (replay M v.log) → M.fact f (replay M log)
    pub room : length (replay M log) ≡ length M.start
    -- no entry since its log at its last join is of a session that it had then, nor one since the
    -- other's log of a session that came
    pub stood : (q : ℕ) → has q v.stood ≡ true → has q v.sessions ≡ true
        → Spares M q (drop (length v.before) log)
    pub came : (q : ℕ) → has q v.came ≡ true → has q v.sessions ≡ true
        → Spares M q (drop (length v.heard) log)
    -- each entry stands under a session, and those under its own sessions are its own
    pub tied : Tied M.passes (id ∷ v.joined) v.sessions v.sole log
    -- it made few events for each of its hands, and so did all other passes together
    pub few : length v.mine ≤ 2 ^ 56 * hands_of v
    pub budget : length log + 2 ^ 56 * hands_of v ≤ 2 ^ 56 * M.passes + length v.mine
    pub limit : M.passes ≤ 128
    pub imaged : KeepsClaim v log

  -- From one log to a later one: no entry since is of these sessions, so that their transactions
  -- are as they were; and lasting facts still hold.
  pub record Stays (sessions : List ℕ) (earlier later : List (Entry E)) : Type 0 where
    pub goes_on : later ≡ earlier ++ drop (length earlier) later
    pub spared : (q : ℕ) → has q sessions ≡ true → Spares M q (drop (length earlier) later)
    pub transactions : (q : ℕ) → has q sessions ≡ true → M.transaction (replay M later) q
        ≡ M.transaction (replay M earlier) q
    pub facts : (f : F) → M.fact f (replay M earlier) → M.fact f (replay M later)

  -- A try at the latch of the part k found the number n there.
  abbrev pub Latches : View E → ℕ → ℕ → Me (Option P) (View E) → Type 0
  Latches v k n me = (me.0 ≡ cond (n == 0) (staged v k 1) v) × (me.1 ≡ [])

  -- The log was seen, which is as long as the number that the load found, and the part k, as it
  -- leaves it, is out.
  abbrev pub Loads : ℕ → View E → ℕ → ℕ → Me (Option P) (View E) → Type 0
  Loads id v k n me = (log : List (Entry E)) × (p : P) × Learned id v log
      × (slice_get (replay M log) k ≡ Some p) × (me.0 ≡ loaded v k (M.head p) log)
      × (me.1 ≡ (slot_of k, Some p) ∷ []) × (n ≡ length log)

  -- The slot that was out is home.
  abbrev pub Homes : View E → ℕ → Me (Option P) (View E) → Type 0
  Homes v n me = (me.0 ≡ homed v) × (me.1 ≡ [])

  -- The empty slot of the part k is out.
  abbrev pub Draws : View E → ℕ → ℕ → Me (Option P) (View E) → Type 0
  Draws v k n me = (me.0 ≡ drawn v k) × (me.1 ≡ (slot_of k, None) ∷ [])

  -- The part k is home, and its latch is free.
  abbrev pub Gives : View E → ℕ → ℕ → Me (Option P) (View E) → Type 0
  Gives v k n me = (me.0 ≡ given v k) × (me.1 ≡ [])

  -- The log was seen, which was as long as the number that was found, and an event is its last
  -- entry now.
  abbrev pub Adds : ℕ → View E → Entry E → ℕ → Me (Option P) (View E) → Type 0
  Adds id v e n me = (before : List (Entry E)) × Learned id v before × (me.0 ≡ added v before e)
      × (me.1 ≡ []) × KeepsClaim v (before ++ e ∷ []) × (n ≡ length before)

  -- The log was looked at: it is as long as the number that the load found.
  abbrev pub Sees : ℕ → View E → ℕ → Me (Option P) (View E) → Type 0
  Sees id v n me = (log : List (Entry E)) × Learned id v log × (me.0 ≡ looked v log) × (me.1 ≡ [])
      × (n ≡ length log)

  -- The word of the part k was entered, and the number n was found in it. Where the part is in the
  -- hand, n has the head that the pass knows.
  pub record Enters (v : View E) (k n : ℕ) (me : Me (Option P) (View E)) : Type 0 where
    pub view : me.0 ≡ entered v k n
    pub none_out : me.1 ≡ []
    pub worn : stage v k ≡ 2 → head_in n ≡ worn_by v k
