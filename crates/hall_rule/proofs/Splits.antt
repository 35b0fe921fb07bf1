-- A new pass, which has seen what another has and takes some of its hands, keeps the invariant.
use Rattle.std.proofs.Common.{◌≡◌, ◌≢◌, ℕ, zero, suc, ◌+◌, ◌*◌, ◌^◌, ◌<◌, ◌≤◌, eqb, true, false, cond, List, [], ◌∷◌, ◌++◌, Option, Some, length, set, refl, sym, ap, subst, ◌∙◌, ◌⊎◌, inl, inr, ⊎_elim, true≢false, length-append, length-set, eq-eqb, ne_eqb, arith}
use Rattle.std.specs.Prelude.{slice_index}
use mathlib.Core.Option as maybe
use lib.ListN.{get_elem?}
use Rattle.atomic_table.specs.Table.{State}
use Rattle.atomic_table.proofs.Lists.{at_last, at_longer, at_set, set_else, set_here}
use Rattle.hall_rule.specs.EventLog.{Distinct, MadeBelow, has, is_unnamed, own, replay}
use Rattle.hall_rule.specs.HallInvariant.{EachLive, HoldsParts, Owners, OwnsSessions, SeesLog, entries_of, hands_of, latch_word, since, stage}
use Rattle.hall_rule.specs.Meaning.{Meaning}
use Rattle.hall_rule.specs.Views.{newcomer}
use Rattle.hall_rule.specs.declared.view.Entry.{Entry}
use Rattle.hall_rule.specs.declared.view.View.{View}
use Rattle.hall_rule.proofs.Named.{fresh_is, none_only}
use Rattle.hall_rule.proofs.Lists.{at_below, bool_cases, by_cases, each_set, not_true, total_set, total_snoc}
use Rattle.hall_rule.proofs.Logs.{made_more}
use Rattle.hall_rule.proofs.Numbers.{has_cons}
use Rattle.hall_rule.proofs.Opens.{zeros}
use Rattle.hall_rule.proofs.Halves.{PartsHold}

-- what is there with one more view was there before, or is the new one
pub at_snoc_index : {A : Type 0} (l : List A) (a b : A) (j : ℕ) → get_elem? (l ++ a ∷ []) j ≡ maybe.some b → (get_elem? l j ≡ maybe.some b) ⊎ ((j ≡ length l) × (a ≡ b))
at_snoc_index [] a b zero e = inr (refl, maybe.some-injective a b e)
at_snoc_index [] a b (suc j) e = absurd (maybe.some-ne-none b (sym e))
at_snoc_index (x ∷ xs) a b zero e = inl e
at_snoc_index (x ∷ xs) a b (suc j) e = ⊎_elim (λ t. inl t) (λ t. inr (ap suc t.0, t.1)) (at_snoc_index xs a b j e)

module _ {E : Type 0} where
  -- a pass that is yet to be made has no entries
  pub own_unmade : (n : ℕ) (es : List (Entry E)) → MadeBelow n es → own (n ∷ []) es ≡ []
  own_unmade n [] made = refl
  own_unmade n (e ∷ es) made =
      let b : has e.pass (n ∷ []) ≡ false = not_true (has e.pass (n ∷ [])) (λ h. ⊎_elim (λ same. absurd (let lt = made.0 in omega (arith, lt, same))) (λ z. true≢false (sym z)) (has_cons e.pass n [] h)) in
      ap (λ c. cond c (e ∷ own (n ∷ []) es) (own (n ∷ []) es)) b ∙ own_unmade n es made.1

  -- a beginning of a log has entries of passes that were made alone
  pub made_front : (n : ℕ) (xs ys : List (Entry E)) → MadeBelow n (xs ++ ys) → MadeBelow n xs
  made_front n [] ys a = tt
  made_front n (x ∷ xs) ys a = (a.0, made_front n xs ys a.1)

module _ {P E T F : Type 0} (M : Meaning P E T F) (log : List (Entry E)) (o : Owners) (s : State (Option P) (View E)) (kept : PartsHold M log o s) (id : ℕ) (v : View E)
    (at : get_elem? s.views id ≡ maybe.some v) (live : v.spent ≡ false) (ls rs : List ℕ)
    (in_left : (q : ℕ) → has q ls ≡ true → has q v.sessions ≡ true) (in_right : (q : ℕ) → has q rs ≡ true → has q v.sessions ≡ true)
    (whole : (q : ℕ) → has q v.sessions ≡ true → (has q ls ≡ true) ⊎ (has q rs ≡ true)) (apart : (q : ℕ) → has q ls ≡ true → has q rs ≡ true → ⊥) (distinct_left : Distinct ls) (distinct_right : Distinct rs)
    (count : length ls + length rs ≤ length v.sessions) (few : length v.mine ≤ 2 ^ 56 * length ls) (idle : length ls ≡ 0 → (k : ℕ) → stage v k ≡ 0) where
  -- The view of the old pass after the split, with the sessions that it keeps.
  abbrev left : View E
  left = record v { sessions = ls }

  -- The view of the new pass, with the sessions that it gets.
  abbrev right : View E
  right = newcomer v rs

  -- The number of the new pass: how many views there were.
  abbrev n : ℕ
  n = length s.views

  -- The views after the split: the old pass changed, and the new pass last.
  abbrev views : List (View E)
  views = set s.views id left ++ right ∷ []

  -- The owner of each number after the split.
  abbrev number : ℕ → ℕ
  number i = cond (eqb i n) n (o.number i)

  -- The owner of each session after the split.
  abbrev session : ℕ → ℕ
  session q = cond (has q rs) n (o.session q)

  -- After the split there is one view more.
  longer_by_one : length views ≡ n + 1
  longer_by_one = let a : length views ≡ length (set s.views id left) + 1 = length-append (set s.views id left) (right ∷ []) in let b : length (set s.views id left) ≡ n = length-set s.views id left in omega (arith, a, b)

  -- What holds of the other live views as before, and of the two passes, holds of each live view.
  each : (A B : ℕ → View E → Type 0) → EachLive A s.views → ((j : ℕ) (u : View E) → j ≢ id → get_elem? s.views j ≡ maybe.some u → u.spent ≡ false → A j u → B j u) → B id left → B n right → EachLive B views
  each A B all others here there j u found alive = ⊎_elim
      (λ t. each_set s.views id left A B all others (λ _. here) j u t alive)
      (λ t. subst (λ i. B i u) (sym (t.0 ∙ length-set s.views id left)) (subst (B n) t.1 there))
      (at_snoc_index (set s.views id left) right u j found)

  -- An old number belongs after the split to the pass that it belonged to.
  old_number : (i j : ℕ) → (o.number i ≡ j) × (i < n) → (number i ≡ j) × (i < length views)
  old_number i j t =
      let ne : i ≢ n = λ e. absurd (let lt = t.1 in omega (arith, lt, e)) in
      (ap (λ b. cond b n (o.number i)) (ne_eqb i n ne) ∙ t.0, let l = longer_by_one in let lt = t.1 in omega (arith, l, lt))

  -- A pass that saw the log sees it by the owners after the split.
  sees_other : (j : ℕ) (u : View E) → SeesLog M log o.number n j u → SeesLog M log number (length views) j u
  sees_other j u l = record { goes_on = l.goes_on; before = l.before; heard = l.heard; mine = l.mine; seen = l.seen; total = l.total; numbers = λ i h. old_number i j (l.numbers i h) }

  -- The old pass saw the log before the split.
  mine : SeesLog M log o.number n id v
  mine = kept.one_log.each id v at live

  -- The new pass sees the log.
  sees_right : SeesLog M log number (length views) n right
  sees_right =
      let front : MadeBelow n v.log = made_front n v.log (since v log) (subst (MadeBelow n) mine.goes_on kept.one_log.made) in
      record {
        goes_on = mine.goes_on;
        before = refl;
        heard = refl;
        mine = own_unmade n log kept.one_log.made;
        seen = own_unmade n v.log front;
        total = refl;
        numbers = λ i h. ⊎_elim
            (λ e. (subst (λ (x : ℕ). number x ≡ n) (sym e) (ap (λ b. cond b n (o.number n)) (eq-eqb n n refl)), let l = longer_by_one in omega (arith, l, e)))
            (λ z. absurd (true≢false (sym z))) (has_cons i n [] h);
      }

  -- The new pass holds no part.
  none_held : (k : ℕ) → stage right k ≡ 0
  none_held k = zeros (length v.stages) k

  -- The old pass held its parts before the split.
  parts : HoldsParts M log o.part s.words s.homes id v
  parts = kept.at_home.each id v at live

  -- A part whose latch is taken is held by a live view after the split too.
  latched : (k : ℕ) → k < length M.start → slice_index s.words (latch_word k) ≢ 0 → (u : View E) × (get_elem? views (o.part k) ≡ maybe.some u) × (u.spent ≡ false) × (stage u k ≢ 0)
  latched k lt taken =
      let h = kept.at_home.latched k lt taken in
      by_cases (o.part k) id ((u : View E) × (get_elem? views (o.part k) ≡ maybe.some u) × (u.spent ≡ false) × (stage u k ≢ 0))
      (λ e.
      let same : h.0 ≡ v = maybe.some-injective h.0 v (sym h.1 ∙ (ap (get_elem? s.views) e ∙ at)) in (
        left,
        ap (get_elem? views) e ∙ at_longer (set s.views id left) (right ∷ []) id left (set_here s.views id left (at_below s.views id v at)),
        live,
        (λ z. h.3 (ap (λ u. stage u k) same ∙ z)),
      ))
      (λ ne. (h.0, at_longer (set s.views id left) (right ∷ []) (o.part k) h.0 (set_else s.views id (o.part k) left ne ∙ h.1), h.2, h.3))

  -- The old pass owned its sessions before the split.
  sessions : OwnsSessions M log o.session id v
  sessions = kept.lawful.each id v at live

  -- Another pass owns its sessions after the split as before.
  session_other : (j : ℕ) (u : View E) → j ≢ id → OwnsSessions M log o.session j u → OwnsSessions M log session j u
  session_other j u ne a = record {
    sessions = λ q h.
        let b : has q rs ≡ false = not_true (has q rs) (λ r. ne (sym (a.sessions q h) ∙ sessions.sessions q (in_right q r))) in
        ap (λ c. cond c n (o.session q)) b ∙ a.sessions q h;
    distinct = a.distinct;
    spared = a.spared;
    transactions = a.transactions;
    stood = a.stood;
    came = a.came;
    tied = a.tied;
  }

  abbrev Owner : ℕ → Type 0
  Owner q = (u : View E) × (get_elem? views (session q) ≡ maybe.some u) × (u.spent ≡ false) × (has q u.sessions ≡ true)

  -- A transaction of the old pass is in one of the two views.
  owned : (q : ℕ) (t : T) → M.transaction (replay M log) q ≡ Some t → Owner q
  owned q t open' =
      let h = kept.lawful.owned q t open' in
      bool_cases (has q rs) (Owner q)
      (λ new. (right, ap (λ c. get_elem? views (cond c n (o.session q))) new ∙ at_last (set s.views id left) right n (length-set s.views id left), refl, new))
      (λ old.
      let is : session q ≡ o.session q = ap (λ c. cond c n (o.session q)) old in
      by_cases (o.session q) id (Owner q)
      (λ e.
      let same : h.0 ≡ v = maybe.some-injective h.0 v (sym h.1 ∙ (ap (get_elem? s.views) e ∙ at)) in (
        left,
        ap (get_elem? views) (is ∙ e) ∙ at_longer (set s.views id left) (right ∷ []) id left (set_here s.views id left (at_below s.views id v at)),
        live,
        ⊎_elim (λ a. a) (λ b. absurd (true≢false (sym b ∙ old))) (whole q (ap (λ (u : View E). has q u.sessions) (sym same) ∙ h.3)),
      ))
      (λ ne. (h.0, ap (get_elem? views) is ∙ at_longer (set s.views id left) (right ∷ []) (o.session q) h.0 (set_else s.views id (o.session q) left ne ∙ h.1), h.2, h.3)))

  -- What holds of the two passes and of each view before the split holds of each after it.
  all_views : (B : View E → Type 0) → B left → B right → ((j : ℕ) (u : View E) → get_elem? s.views j ≡ maybe.some u → B u) → (j : ℕ) (u : View E) → get_elem? views j ≡ maybe.some u → B u
  all_views B here there others j u found = ⊎_elim
      (λ t. ⊎_elim (λ a. subst B a.1 here) (λ a. others j u a.1) (at_set s.views id j left u t))
      (λ t. subst B t.1 there)
      (at_snoc_index (set s.views id left) right u j found)

  -- the invariant holds of the hall with the new pass
  pub split_kept : PartsHold M log record { part = o.part; number = number; session = session } record { words = s.words; homes = s.homes; views = views }
  split_kept = record {
    one_log = record {
      counted = kept.one_log.counted;
      made = made_more n (length views) log (let l = longer_by_one in omega (arith, l)) kept.one_log.made;
      each = each (SeesLog M log o.number n) (SeesLog M log number (length views)) kept.one_log.each (λ j u ne there alive l. sees_other j u l)
          (record { goes_on = mine.goes_on; before = mine.before; heard = mine.heard; mine = mine.mine; seen = mine.seen; total = mine.total; numbers = λ i h. old_number i id (mine.numbers i h) }) sees_right;
    };
    at_home = record {
      wide = kept.at_home.wide;
      deep = kept.at_home.deep;
      free = kept.at_home.free;
      latched = latched;
      each = each (HoldsParts M log o.part s.words s.homes) (HoldsParts M log o.part s.words s.homes) kept.at_home.each (λ j u ne there alive h. h)
          (record { holds = parts.holds; taken = parts.taken; loaded = parts.loaded; kept = parts.kept; in_hand = parts.in_hand; out = parts.out; ever = parts.ever })
          (record {
            holds = λ k held. absurd (held (none_held k));
            taken = λ k one. absurd (let z = none_held k in omega (arith, z, one));
            loaded = λ k two. absurd (let z = none_held k in omega (arith, z, two));
            kept = λ k two. absurd (let z = none_held k in omega (arith, z, two));
            in_hand = λ k two. absurd (let z = none_held k in omega (arith, z, two));
            out = λ k e. absurd (omega (arith, e));
            ever = λ k held. absurd (held (none_held k));
          });
    };
    lawful = record {
      begins = kept.lawful.begins;
      lawful = kept.lawful.lawful;
      each = each (OwnsSessions M log o.session) (OwnsSessions M log session) kept.lawful.each (λ j u ne there alive a. session_other j u ne a)
          (record {
            sessions = λ q h. ap (λ c. cond c n (o.session q)) (not_true (has q rs) (apart q h)) ∙ sessions.sessions q (in_left q h);
            distinct = distinct_left;
            spared = λ q h. sessions.spared q (in_left q h);
            transactions = λ q h. sessions.transactions q (in_left q h);
            stood = λ q was h. sessions.stood q was (in_left q h);
            came = λ q was h. sessions.came q was (in_left q h);
            tied = record { within = λ q h. sessions.tied.within q (in_left q h); named = sessions.tied.named; alone = λ q is h. sessions.tied.alone q is (in_left q h) };
          })
          (record {
            sessions = λ q h. ap (λ c. cond c n (o.session q)) h;
            distinct = distinct_right;
            spared = λ q h. sessions.spared q (in_right q h);
            transactions = λ q h. sessions.transactions q (in_right q h);
            stood = λ q none' h. absurd (true≢false (sym none'));
            came = λ q none' h. absurd (true≢false (sym none'));
            tied = record {
              within = λ q h. sessions.tied.within q (in_right q h);
              named = sessions.tied.named;
              alone = λ q is h. let f = fresh_is v rs q is in none_only q (id ∷ v.joined) (n ∷ []) log (sessions.tied.alone q f.0 (in_right q h)) (ap (is_unnamed q) mine.mine ∙ f.1);
            };
          });
      owned = owned;
    };
    facts = record {
      each = each (λ j u. (f : F) → M.fact f (replay M u.log) → M.fact f (replay M log)) (λ j u. (f : F) → M.fact f (replay M u.log) → M.fact f (replay M log)) kept.facts.each (λ j u ne there alive h. h)
          (kept.facts.each id v at live) (kept.facts.each id v at live);
    };
    hands = record {
      limit = kept.hands.limit;
      handed = let t = total_set hands_of s.views id v left at in let u = total_snoc hands_of (set s.views id left) right in let h = kept.hands.handed in omega (arith, t, u, h, count);
      entries = let t = total_set entries_of s.views id v left at in let u = total_snoc entries_of (set s.views id left) right in let h = kept.hands.entries in omega (arith, t, u, h);
      few = all_views (λ u. entries_of u ≤ 2 ^ 56 * hands_of u) few (omega arith) kept.hands.few;
      idle = all_views (λ u. hands_of u ≡ 0 → (k : ℕ) → stage u k ≡ 0) idle (λ _ k. none_held k) kept.hands.idle;
    };
  }
