-- The commits of a round, by what its sessions keep of them.
use Rattle.std.proofs.Common.{◌≡◌, ℕ, zero, suc, ◌+◌, ◌<◌, ◌≤◌, ◌==◌, Bool, true, false, List, [], ◌∷◌, ◌++◌, map, length, get_or, drop, take, fold, sym, ap, ◌∙◌, subst, append-nil, arith}
use Rattle.std.specs.Prelude.{All}
use Rattle.std.specs.List.{flat_map, range_with_len}
use Rattle.std.specs.List.Sorted.{IsPermutation}
use Rattle.std.proofs.lemmas.Grind.{elements, flat_map-append}
use Rattle.std.proofs.lemmas.List.{length-map}
use Rattle.std.proofs.lemmas.List.Elements.{filter-append}
use Rattle.std.proofs.lemmas.List.FromFn.{length-range_with_len}
use Rattle.std.proofs.lemmas.List.Sums.{fold-append}
use Rattle.event_spec.specs.Parts.{Shape}
use Rattle.isolation_spec.specs.Contents.{History}
use Rattle.workload_spec.specs.declared.reply.Who.{Who}
use Rattle.workload_spec.specs.declared.reply.Who.TheVariants.{Session as TheSession, Worker as TheWorker}
use Rattle.workload_spec.specs.declared.script.Script.{Script}
use Rattle.run_spec.specs.Calls.{Call}
use Rattle.run_spec.specs.Commits.{SessionWrites, writes_behind, writes_of}
use Rattle.run_spec.specs.declared.commit.Commit.{Commit}
use Rattle.run_spec.specs.Handed.{Works, own_in}
use Rattle.run_spec.specs.Occurrences.{Logged, Occurrence, under}
use Rattle.run_spec.specs.Ran.{AreRounds, IsDone, RoundRun, Share}
use Rattle.run_laws.specs.Commits.Rounds.{AreOfTheRound}
use Rattle.run_laws.specs.Commits.Shares.{commits_since}
use Rattle.shared_store.proofs.OwnCommits.{keeps_new, stretch_wrote}
use Rattle.shared_store.specs.Building.{IsNewRow, StartsKeeping}
use Rattle.shared_store.specs.Commits.{commits_in}
use Rattle.shared_store.specs.Store.{KeepsCommits, StoreView, own_writes, seen, shape_in, wrote_of}
use Rattle.shared_store.specs.declared.session.Session.{Session}
use Rattle.store_rounds.specs.Crews.{crew_of, crew_shares, shares_of}
use Rattle.store_rounds.specs.Grouped.{AreByNumber, HandedOver, kept_in}
use Rattle.store_rounds.specs.Rounds.{RowRan}
use Rattle.store_rounds.specs.Worked.{share_of}
use Rattle.store_rounds.proofs.HandedOver.{keeps_next}
use Rattle.store_rounds.proofs.Ranges.{at_front, flat_at}

-- ---- events

-- the events of some rounds
abbrev pub made_by : List RoundRun → List Occurrence
made_by rounds = flat_map (λ (round : RoundRun). round.made) rounds

-- what a session wrote by these events of the run
abbrev wrote_by : ℕ → List Occurrence → SessionWrites
wrote_by session made = writes_of (under session made)

-- The events of one round more.
pub made_further : (rounds : List RoundRun) (round : RoundRun) → made_by (rounds ++ round ∷ []) ≡ made_by rounds ++ round.made
made_further rounds round =
    flat_map-append (λ (r : RoundRun). r.made) rounds (round ∷ [])
    ∙ ap (λ (made : List Occurrence). made_by rounds ++ made) (append-nil round.made)

-- What one wrote in calls, one behind the other.
works_wrote : (shape : Shape) (worker : Bool) (session : ℕ) (old new : List Logged) (calls : List Call) → Works shape worker session old calls new
    → writes_of (own_in shape session new) ≡ fold writes_behind (writes_of (own_in shape session old)) (flat_map (λ (call : Call). call.made) calls)
works_wrote shape worker session old new [] works = ap writes_of works.1
works_wrote shape worker session old new (call ∷ calls) works =
    works_wrote shape worker session works.0 new calls works.2
    ∙ ap (λ (w : SessionWrites). fold writes_behind w (flat_map (λ (call : Call). call.made) calls)) (stretch_wrote shape session old works.0 call.made works.1.stretch)
    ∙ sym (fold-append writes_behind (writes_of (own_in shape session old)) call.made (flat_map (λ (call : Call). call.made) calls))

-- ---- a session's share

-- what a range gives, place by place
mapped_at : {X : Type 0} (f : ℕ → X) (a n k : ℕ) (d : X) → k < n → get_or (map f (range_with_len a n)) k d ≡ f (a + k)
mapped_at f a zero k d within = absurd (omega (arith, within))
mapped_at f a (suc n) zero d within = ap f (let e : a ≡ a + 0 = omega arith in e)
mapped_at f a (suc n) (suc k) d within = mapped_at f (a + 1) n k d (omega (arith, within)) ∙ ap f (let e : a + 1 + k ≡ a + suc k = omega arith in e)

-- Each did its share of the last round.
last_done : (script : Script) (front : List Occurrence) (whole : List RoundRun) (round : RoundRun) → AreRounds script front (whole ++ round ∷ [])
    → (before : List Occurrence) × All (IsDone script before round.made) round.shares
last_done script front [] round are = (front, are.0.done)
last_done script front (r ∷ whole) round are = last_done script (front ++ r.made) whole round are.1

-- A session's events in the last round are those of its calls.
share_made : (script : Script) (calls : Who → List Call) (whole : List RoundRun) (made : List Occurrence) (k : ℕ) → k < script.sessions
    → AreRounds script [] (whole ++ record { made = made; shares = crew_shares (crew_of script) calls } ∷ [])
    → under (k + 1) made ≡ flat_map (λ (call : Call). call.made) (calls (TheSession (k + 1)))
share_made script calls whole made k within are =
    let done = last_done script [] whole (record { made = made; shares = crew_shares (crew_of script) calls }) are in
    let sizes = length-map (range_with_len 1 script.sessions) own in
    let numbers = length-range_with_len 1 script.sessions in
    let inside : k < length (map own (range_with_len 1 script.sessions)) = omega (arith, within, sizes, numbers) in
    let whole_size : k < length (crew_shares (crew_of script) calls) = grind (arith, elements, inside) in
    let here : get_or (crew_shares (crew_of script) calls) k (own 0) ≡ own (k + 1) =
    at_front (map own (range_with_len 1 script.sessions)) workers k (own 0) inside
    ∙ mapped_at own 1 script.sessions k (own 0) within ∙ ap own (let e : 1 + k ≡ k + 1 = omega arith in e) in
    (subst (IsDone script done.0 made) here (done.1 k (own 0) whole_size)).events
  where
    own : ℕ → Share
    own n = share_of (TheSession n) (calls (TheSession n))

    workers : List Share
    workers = shares_of TheWorker script.workers (λ n. calls (TheWorker n))

-- ---- what a row keeps

-- So many of a row wrote what the rounds tell, and keep none of the commits that they made in them.
pub record RowKeeps (sessions : ℕ) (store : StoreView) (row : List Session) (rounds : List RoundRun) : Type 0 where
  pub wrote : (k : ℕ) (d : Session) → k < sessions → own_writes store (get_or row k d) ≡ wrote_by (k + 1) (made_by rounds)
  pub keeps : (k : ℕ) (d : Session) → k < sessions → KeepsCommits store (length (wrote_by (k + 1) (made_by rounds)).commits) (get_or row k d)

-- A new row that keeps its commits does.
pub row_begins : (sessions count : ℕ) (store : StoreView) (row : List Session) → sessions ≤ count → IsNewRow store count row → All (StartsKeeping true) row
    → RowKeeps sessions store row []
row_begins sessions count store row few new starts = record {
  wrote = λ k d within.
      let one = new.each k (get_or row k d) (let many = new.many in grind (arith, elements, within, few, many)) in
      ap (λ q. writes_of (own_in (shape_in store) q (seen (get_or row k d)))) one.numbered ∙ ap writes_of one.none;
  keeps = λ k d within.
      let many = new.many in
      keeps_new store (k + 1) (get_or row k d) (new.each k (get_or row k d) (grind (arith, elements, within, few, many))) (starts k d (omega (arith, within, few, many)));
}

module _ (script : Script) (store : StoreView) (old mid : List Session) (rounds : List RoundRun) (made : List Occurrence) (calls : Who → List Call)
    (ran : RowRan store (crew_of script) old mid calls)
    (are : AreRounds script [] (rounds ++ record { made = made; shares = crew_shares (crew_of script) calls } ∷ []))
    (keeps : RowKeeps script.sessions store old rounds) where
  -- Behind a further round a session wrote what that tells too.
  wrote_further : (k : ℕ) (d : Session) → k < script.sessions → own_writes store (get_or mid k d) ≡ wrote_by (k + 1) (made_by rounds ++ made)
  wrote_further k d within =
      let one = ran.sessions k d within in
      let was : Session = get_or old k d in
      ap writes_of one.met_in.looks_on.nothing_more
      ∙ ap (λ q. writes_of (own_in (shape_in store) q (seen one.ended))) one.worked.same
      ∙ works_wrote (shape_in store) false was.session (seen was) (seen one.ended) (calls (TheSession (k + 1))) one.worked.works
      ∙ ap (λ (w : SessionWrites). fold writes_behind w (flat_map (λ (call : Call). call.made) (calls (TheSession (k + 1))))) (keeps.wrote k d within)
      ∙ ap (fold writes_behind (wrote_by (k + 1) (made_by rounds))) (sym (share_made script calls rounds made k within are))
      ∙ sym (fold-append writes_behind (writes_of []) (under (k + 1) (made_by rounds)) (under (k + 1) made))
      ∙ ap writes_of (sym (filter-append (λ (o : Occurrence). o.session == k + 1) (made_by rounds) made))

  -- It keeps what it committed in the round,
  keeps_round : (k : ℕ) (d : Session) → k < script.sessions → KeepsCommits store (length (wrote_by (k + 1) (made_by rounds)).commits) (get_or mid k d)
  keeps_round k d within =
      let one = ran.sessions k d within in
      let taken = length (wrote_by (k + 1) (made_by rounds)).commits in
      one.met_in.looks_on.keeps taken (one.worked.keeps taken (keeps.keeps k d within))

  -- which is what the round's events tell of it.
  committed : (k : ℕ) (d : Session) → k < script.sessions → commits_in (wrote_of (get_or mid k d)) ≡ commits_since (made_by rounds) made (k + 1)
  committed k d within =
      ap commits_in (keeps_round k d within).kept
      ∙ ap (λ (w : SessionWrites). drop (length (wrote_by (k + 1) (made_by rounds)).commits) w.commits) (wrote_further k d within)

  -- So the sessions of the row keep the commits of the round.
  pub kept_is : script.sessions ≤ length mid → kept_in (take script.sessions mid) ≡ flat_map (commits_since (made_by rounds) made) (range_with_len 1 script.sessions)
  kept_is few =
      let size : length (take script.sessions mid) ≡ script.sessions = grind (arith, elements, few) in
      flat_at (λ (s : Session). commits_in (wrote_of s)) (commits_since (made_by rounds) made) 1 (take script.sessions mid)
      (λ k d within.
      let inside : k < script.sessions = omega (arith, within, size) in
      ap (λ (s : Session). commits_in (wrote_of s)) (let e : get_or (take script.sessions mid) k d ≡ get_or mid k d = grind (arith, elements, inside) in e)
      ∙ committed k d inside
      ∙ ap (commits_since (made_by rounds) made) (let e : k + 1 ≡ 1 + k = omega arith in e))
      ∙ ap (λ n. flat_map (commits_since (made_by rounds) made) (range_with_len 1 n)) size

  -- What is taken of them is what the round committed.
  pub of_the_round : (group : History) → script.sessions ≤ length mid → (sets : AreByNumber (kept_in (take script.sessions mid)) group)
      → AreOfTheRound script rounds (record { made = made; shares = crew_shares (crew_of script) calls }) sets.sorted
  of_the_round group few sets = record {
    same = subst (λ (commits : List Commit). IsPermutation commits sets.sorted) (kept_is few) sets.same;
    rises = sets.rises;
  }

  -- Once it is taken, they keep none of it.
  pub row_keeps_on : (new : List Session) → HandedOver script.sessions mid new
      → RowKeeps script.sessions store new (rounds ++ record { made = made; shares = crew_shares (crew_of script) calls } ∷ [])
  row_keeps_on new taken =
      let further : made_by rounds ++ made ≡ made_by (rounds ++ record { made = made; shares = crew_shares (crew_of script) calls } ∷ []) =
      sym (made_further rounds (record { made = made; shares = crew_shares (crew_of script) calls })) in
      record {
        wrote = λ k d within.
            ap (own_writes store) (taken.each k d within) ∙ wrote_further k d within ∙ ap (wrote_by (k + 1)) further;
        keeps = λ k d within.
            subst (λ n. KeepsCommits store n (get_or new k d))
            (ap (λ (w : SessionWrites). length w.commits) (wrote_further k d within) ∙ ap (λ (made : List Occurrence). length (wrote_by (k + 1) made).commits) further)
            (subst (KeepsCommits store (length (own_writes store (get_or mid k d)).commits)) (sym (taken.each k d within))
            (keeps_next store (length (wrote_by (k + 1) (made_by rounds)).commits) (get_or mid k d) (keeps_round k d within)));
      }
