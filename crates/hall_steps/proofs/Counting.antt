-- What is known when an event was counted.
use Rattle.std.proofs.Common.{◌≡◌, ℕ, ◌+◌, ◌*◌, ◌^◌, ◌<◌, ◌≤◌, Bool, true, false, List, [], Option, Some, length, refl, sym, ap, subst, ◌∙◌, arith}
use Rattle.std.specs.Prelude.{MatchBool}
use Rattle.atomic_table.specs.Seated.{TableId}
use Rattle.atomic_table.specs.declared.shared.Seat.{Seat}
use Rattle.hall_rule.specs.EventLog.{has, replay}
use Rattle.hall_rule.specs.HallInvariant.{hands_of, worn_by}
use Rattle.hall_rule.specs.Hands.{Agrees, Covers, SameRoom}
use Rattle.hall_rule.specs.Heads.{MayTurn}
use Rattle.hall_rule.specs.Meaning.{Laws, Meaning, meaning}
use Rattle.hall_rule.specs.Views.{Adds, added, entry_of}
use Rattle.hall_rule.specs.declared.parts.Parts.{Ghosts}
use Rattle.hall_rule.specs.declared.view.Entry.{Entry}
use Rattle.hall_rule.specs.declared.view.View.{View}
use Rattle.hall_rule.proofs.Events.{Asks, stays_lawful}
use Rattle.hall_rule.proofs.Named.{least_there}
use Rattle.hall_steps.specs.Counting.{Counts}
use Rattle.hall_steps.specs.Hall.{Extends, IsOfAt, IsSameSeat, Knows, Settled, thawed_by}
use Rattle.hall_steps.proofs.Knowing.{heads_stay, heads_turn, held_there, made_at, thawed_is}

-- of two facts that hold where a test does, the first
match_first : (P Q R : Type 0) (b : Bool) → MatchBool b P (Q × R) → MatchBool b P Q
match_first P Q R true m = m
match_first P Q R false m = m.0

-- and the second
match_second : (P Q R : Type 0) (b : Bool) → MatchBool b P (Q × R) → MatchBool b P R
match_second P Q R true m = m
match_second P Q R false m = m.1

-- What the hall's step asks of an event, its caller asked.
pub asked : {C P E R S T F : Type 0} (t : Ghosts C P E R S T F) (core : C) (passes : ℕ) (laws : Laws (meaning t core passes)) (z : TableId) (s : Seat (Option P) (View E)) (hand : List (Option P)) (event : E) (sh : S) → sh ≡ t.shape_of core
    → IsOfAt (meaning t core passes) (thawed_by (t.thaws sh event)) z s hand → length hand ≡ length (t.state_of core) → Covers (t.touching sh event) hand → t.stands sh event (replay (meaning t core passes) s.me.0.log) → t.fits sh event (replay (meaning t core passes) s.me.0.log)
    → ((q : ℕ) → t.names event ≡ Some q → has q s.me.0.sessions ≡ true) → Asks (meaning t core passes) laws hand s.me.0 event
asked {S = S} t core passes laws z s hand event sh is pass room covered stands fits named =
    let log = replay (meaning t core passes) s.me.0.log in
    record {
      covers = subst (λ (x : S). Covers (t.touching x event) hand) is covered;
      agrees = (room ∙ sym pass.1.room, pass.1.agrees);
      stands = subst (λ (x : S). t.stands x event log) is stands;
      fits = subst (λ (x : S). t.fits x event log) is fits;
      names = named;
      drained = λ k thaws. pass.2.drained ∙ (ap (λ (x : S). thawed_by (t.thaws x event)) is ∙ ap thawed_by thaws);
      follows = λ k p unthawed two there.
          let held = held_there (meaning t core passes) s.id s.me hand room pass.1 k p two there in
          pass.2.worn k p (λ e. unthawed (thawed_is (t.thaws (t.shape_of core) event) k (e ∙ ap (λ (x : S). thawed_by (t.thaws x event)) is))) held;
    }

-- An event as a whole: what it made of the hand, and where it stands in the log.
module _ {C P E R S T F : Type 0} (t : Ghosts C P E R S T F) (core : C) (passes : ℕ) (laws : Laws (meaning t core passes)) (z : TableId) (s u : Seat (Option P) (View E)) (hand hand' : List (Option P)) (event : E) (reply : R) (old new : ℕ) where
  -- What the events mean to the hall, by the core and the count of passes.
  abbrev M : Meaning P E T F
  M = meaning t core passes

  -- the hand has what the event makes of its parts, or is as it was where the event was refused
  abbrev Meets : S → Type 0
  Meets sh = (x : List P) → t.sound sh x → Agrees hand x → t.stands sh event x → t.fits sh event x → MatchBool (t.refused reply) (hand' ≡ hand) (Agrees hand' (t.effect sh event x) × (reply ≡ t.reply sh event x))

  -- the event adds no more than its cost
  abbrev Costs : S → Type 0
  Costs sh = (x : List P) → t.sound sh x → Agrees hand x → t.stands sh event x → t.fits sh event x → new ≤ old + t.cost sh event x

  -- an event stands at the log's end, with its reply and what it made of the hand
  abbrev Done : S → Type 0
  Done sh = (before : List (Entry E)) × Extends M s before (entry_of s.id s.me.0 (t.refused reply) event) u × MatchBool (t.refused reply) (hand' ≡ hand) (reply ≡ t.reply sh event (replay M before)) × (new ≤ old + t.cost sh event (replay M before))

  -- An event that met its parts and costs what it may is done, and its pass knows of it.
  finish : (sh : S) → sh ≡ t.shape_of core → (s.table_id ≡ z) × Knows M s.id s.me hand → Asks M laws hand s.me.0 event → (t.refused reply ≡ true → t.takes_memory event ≡ true) → length s.me.0.mine < 2 ^ 56 * hands_of s.me.0 → SameRoom hand hand' → Meets sh → Costs sh → (n : ℕ) → Adds M s.id s.me.0 (entry_of s.id s.me.0 (t.refused reply) event) n u.me → IsSameSeat s u
      → ((u.table_id ≡ z) × Knows M u.id u.me hand') × Done sh
  finish sh is pass asks may few same meets costs n told st =
      let before : List (Entry E) = told.0 in
      let still = stays_lawful M laws s.id hand s.me.0 event before pass.1.sound pass.1.room asks pass.1.held told.1 in
      let meets' : Meets (t.shape_of core) = subst Meets is meets in
      let costs' : Costs (t.shape_of core) = subst Costs is costs in
      let x : List P = replay M before in
      let here = meets' x told.1.sound still.0 still.1 still.2 in
      let e : Entry E = entry_of s.id s.me.0 (t.refused reply) event in
      let end' : u.me ≡ (added s.me.0 before e, []) = λ i. (told.2 i, told.3 i) in
      let r = made_at M laws z s u hand hand' e before pass asks may few refl (least_there s.me.0.sessions (let f = few in omega (arith, f))) same
      (λ y ok agrees stands fits. match_first (hand' ≡ hand) (Agrees hand' (t.effect (t.shape_of core) event y)) (reply ≡ t.reply (t.shape_of core) event y) (t.refused reply) (meets' y ok agrees stands fits)) told.1 told.4 st end' in (
        r.0,
        subst Done (sym is) (before, r.1, match_second (hand' ≡ hand) (Agrees hand' (t.effect (t.shape_of core) event x)) (reply ≡ t.reply (t.shape_of core) event x) (t.refused reply) here, costs' x told.1.sound still.0 still.1 still.2),
      )

  -- Such an event is counted: the words of the parts in the hand may be turned to them.
  pub counted : (sh : S) → sh ≡ t.shape_of core → IsOfAt M (thawed_by (t.thaws sh event)) z s hand → Asks M laws hand s.me.0 event → (t.refused reply ≡ true → t.takes_memory event ≡ true) → length s.me.0.mine < 2 ^ 56 * hands_of s.me.0 → SameRoom hand hand' → Meets sh → Costs sh → (n : ℕ)
      → Adds M s.id s.me.0 (entry_of s.id s.me.0 (t.refused reply) event) n u.me → IsSameSeat s u → Counts t M z sh event reply s u hand hand' old new
  counted sh is pass asks may few same meets costs n told st =
      let v = s.me.0 in
      let e : Entry E = entry_of s.id v (t.refused reply) event in
      let x : List P = replay M told.0 in
      let sound = told.1.sound in
      let still = stays_lawful M laws s.id hand v event told.0 pass.1.sound pass.1.room asks pass.1.held told.1 in
      let meets' : Meets (t.shape_of core) = subst Meets is meets in
      let matches = match_first (hand' ≡ hand) (Agrees hand' (t.effect (t.shape_of core) event x)) (reply ≡ t.reply (t.shape_of core) event x) (t.refused reply) (meets' x sound still.0 still.1 still.2) in
      let settled = subst (λ (y : S). Settled M (thawed_by (t.thaws y event)) s.me hand) is pass.2 in
      let at_v : Settled M (thawed_by (M.thaws event)) (v, []) hand = record { worn = settled.worn; hot = settled.hot; drained = settled.drained } in
      let view : u.me.0 ≡ added v told.0 e = told.2 in
      let r = finish sh is (pass.0, pass.1) asks may few same meets costs n told st in
      record {
        table = r.0.0;
        knows = r.0.1;
        turns = λ k p at. subst (λ (y : View E). MayTurn (worn_by y k) (M.head p)) (sym view) (heads_turn M laws v hand hand' e x at_v same sound still.0 still.1 still.2 matches k p at);
        still = λ turning k p at. subst (λ (y : View E). worn_by y k ≡ M.head p) (sym view) (heads_stay M laws v hand hand' e x at_v same sound still.0 still.1 still.2 turning matches k p at);
        drained = ap (λ (y : View E). y.drained) view;
        room = same;
        before = r.1.0;
        extends = r.1.1;
        answers = r.1.2;
        costs = r.1.3;
      }
