-- A pass that takes in another's numbers, entries and hands keeps the invariant.
use Rattle.std.proofs.Common.{◌≡◌, ◌≢◌, ℕ, ◌+◌, ◌*◌, ◌^◌, ◌<◌, ◌≤◌, ltb, Bool, true, false, cond, List, [], ◌∷◌, ◌++◌, Option, Some, length, drop, set, refl, sym, ap, subst, ◌∙◌, ⊎_elim, true≢false, append-nil, length-append, length-set, ltb-false, ltb-true, arith}
use Rattle.std.specs.Prelude.{slice_index}
use mathlib.Core.Option as maybe
use lib.ListN.{get_elem?}
use Rattle.atomic_table.specs.Table.{State}
use Rattle.atomic_table.proofs.Lists.{at_set, set_else, set_here}
use Rattle.hall_rule.specs.EventLog.{MadeBelow, Spares, Tied, Untouched, after, has, own, replay, replay_from}
use Rattle.hall_rule.specs.HallInvariant.{EachLive, GoesOn, HoldsParts, Owners, OwnsSessions, SeesLog, entries_of, hands_of, latch_word, since, stage}
use Rattle.hall_rule.specs.Meaning.{Laws, Meaning}
use Rattle.hall_rule.specs.Views.{among, joined_by, longer, spent_view}
use Rattle.hall_rule.specs.declared.view.Entry.{Entry}
use Rattle.hall_rule.specs.declared.view.View.{View}
use Rattle.hall_rule.proofs.Lists.{at_below, bool_cases, by_cases, not_true, total_set}
use Rattle.hall_rule.proofs.Logs.{own_append, replay_append}
use Rattle.hall_rule.proofs.Moved.{still_open, still_true}
use Rattle.hall_rule.proofs.Named.{among_is, only_more}
use Rattle.hall_rule.proofs.Numbers.{distinct_append, has_append, has_left, has_right}
use Rattle.hall_rule.proofs.Halves.{PartsHold}

-- a list of length 0 is empty
pub length_zero : {A : Type 0} (l : List A) → length l ≡ 0 → l ≡ []
length_zero [] e = refl
length_zero (x ∷ xs) e = absurd (omega (arith, e))

-- A list without its first element.
abbrev tail_of : {A : Type 0} → List A → List A
tail_of [] = []
tail_of (x ∷ xs) = xs

-- The first element of a list, or a given one where it is empty.
abbrev head_of : {A : Type 0} → A → List A → A
head_of d [] = d
head_of d (x ∷ xs) = x

-- of two beginnings of one list the longer goes on from the shorter
pub between : {A : Type 0} (xs ys cs bs : List A) → xs ++ cs ≡ ys ++ bs → length xs ≤ length ys → (mid : List A) × (ys ≡ xs ++ mid) × (cs ≡ mid ++ bs)
between [] ys cs bs e le = (ys, refl, e)
between (x ∷ xs) [] cs bs e le = absurd (omega (arith, le))
between (x ∷ xs) (y ∷ ys) cs bs e le =
    let t = between xs ys cs bs (ap tail_of e) (omega (arith, le)) in
    (t.0, (λ i. sym (ap (head_of x) e) i ∷ t.1 i), t.2)

module _ {E : Type 0} where
  -- where more entries add none of the passes' own, none of those is theirs
  pub own_rest : (ps : List ℕ) (xs ys : List (Entry E)) → own ps (xs ++ ys) ≡ own ps xs → own ps ys ≡ []
  own_rest ps xs ys e =
      let a : length (own ps (xs ++ ys)) ≡ length (own ps xs) + length (own ps ys) = ap length (own_append ps xs ys) ∙ length-append (own ps xs) (own ps ys) in
      let b : length (own ps (xs ++ ys)) ≡ length (own ps xs) = ap length e in
      length_zero (own ps ys) (omega (arith, a, b))

  -- where none of all entries is theirs, none of the later ones is
  pub own_back : (ps : List ℕ) (xs ys : List (Entry E)) → own ps (xs ++ ys) ≡ [] → own ps ys ≡ []
  own_back ps xs ys e =
      let a : length (own ps (xs ++ ys)) ≡ length (own ps xs) + length (own ps ys) = ap length (own_append ps xs ys) ∙ length-append (own ps xs) (own ps ys) in
      let b : length (own ps (xs ++ ys)) ≡ 0 = ap length e in
      length_zero (own ps ys) (omega (arith, a, b))

  -- the entries of two groups of passes that have none in common
  pub own_sum : (xs ys : List ℕ) (es : List (Entry E)) → ((i : ℕ) → has i xs ≡ true → has i ys ≡ true → ⊥) → length (own (xs ++ ys) es) ≡ length (own xs es) + length (own ys es)
  own_sum xs ys [] apart = refl
  own_sum xs ys (e ∷ es) apart =
      let h = own_sum xs ys es apart in
      let i : ℕ = e.pass in
      let Goal : Type 0 = length (own (xs ++ ys) (e ∷ es)) ≡ length (own xs (e ∷ es)) + length (own ys (e ∷ es)) in
      let a : (b : Bool) → has i xs ≡ b → length (own xs (e ∷ es)) ≡ length (cond b (e ∷ own xs es) (own xs es)) = λ (b : Bool) is. ap (λ c. length (cond c (e ∷ own xs es) (own xs es))) is in
      let c : (b : Bool) → has i ys ≡ b → length (own ys (e ∷ es)) ≡ length (cond b (e ∷ own ys es) (own ys es)) = λ (b : Bool) is. ap (λ x. length (cond x (e ∷ own ys es) (own ys es))) is in
      let d : (b : Bool) → has i (xs ++ ys) ≡ b → length (own (xs ++ ys) (e ∷ es)) ≡ length (cond b (e ∷ own (xs ++ ys) es) (own (xs ++ ys) es)) = λ (b : Bool) is. ap (λ x. length (cond x (e ∷ own (xs ++ ys) es) (own (xs ++ ys) es))) is in
      bool_cases (has i xs) Goal
      (λ x. let a' = a true x in let c' = c false (not_true (has i ys) (apart i x)) in let d' = d true (has_left i xs ys x) in omega (arith, h, a', c', d'))
      (λ x. bool_cases (has i ys) Goal
      (λ y. let a' = a false x in let c' = c true y in let d' = d true (has_right i xs ys y) in omega (arith, h, a', c', d'))
      (λ y.
      let a' = a false x in let c' = c false y in
      let d' = d false (not_true (has i (xs ++ ys)) (λ z. ⊎_elim (λ l. true≢false (sym l ∙ x)) (λ r. true≢false (sym r ∙ y)) (has_append i xs ys z))) in
      omega (arith, h, a', c', d')))

module _ {P E T F : Type 0} (M : Meaning P E T F) where
  -- a part that no entry changes is not changed by the later ones
  pub untouched_rest : (k : ℕ) (s : List P) (xs ys : List (Entry E)) → Untouched M k s (xs ++ ys) → Untouched M k (replay_from M s xs) ys
  untouched_rest k s [] ys a = a
  untouched_rest k s (x ∷ xs) ys a = untouched_rest k (after M x s) xs ys a.1

  -- where no entry is of a session, none of the later ones is
  pub spares_rest : (q : ℕ) (xs ys : List (Entry E)) → Spares M q (xs ++ ys) → Spares M q ys
  spares_rest q [] ys a = a
  spares_rest q (x ∷ xs) ys a = spares_rest q xs ys a.1

  module _ (log : List (Entry E)) (v : View E) (l : List (Entry E)) (on : GoesOn v log) (on' : log ≡ l ++ drop (length l) log) (le : length v.log ≤ length l) where
    -- what holds of all that a view has not seen holds of what follows a log that is no shorter
    mid : (m : List (Entry E)) × (l ≡ v.log ++ m) × (since v log ≡ m ++ drop (length l) log)
    mid = between v.log l (since v log) (drop (length l) log) (sym on ∙ on') le

    -- where no entry since a log is of a session, none since a longer one is
    pub spares_later : (q : ℕ) → Spares M q (since v log) → Spares M q (drop (length l) log)
    spares_later q a = spares_rest q mid.0 (drop (length l) log) (subst (Spares M q) mid.2 a)

    -- a part that no entry since a log changes, none since a longer one changes
    pub untouched_later : (k : ℕ) → Untouched M k (replay M v.log) (since v log) → Untouched M k (replay M l) (drop (length l) log)
    untouched_later k a =
        let b : Untouched M k (replay_from M (replay M v.log) mid.0) (drop (length l) log) = untouched_rest k (replay M v.log) mid.0 (drop (length l) log) (subst (Untouched M k (replay M v.log)) mid.2 a) in
        subst (λ (t : List P). Untouched M k t (drop (length l) log)) (sym (ap (replay M) mid.1 ∙ replay_append M M.start v.log mid.0)) b

    -- where no entry since a log is the passes' own, none since a longer one is
    pub own_later : (ps : List ℕ) → own ps (since v log) ≡ [] → own ps (drop (length l) log) ≡ []
    own_later ps a = own_back ps mid.0 (drop (length l) log) (ap (own ps) (sym mid.2) ∙ a)

  module _ (laws : Laws M) (log : List (Entry E)) (o : Owners) (s : State (Option P) (View E)) (kept : PartsHold M log o s) (id : ℕ) (v : View E)
      (at : get_elem? s.views id ≡ maybe.some v) (live : v.spent ≡ false) (other : ℕ) (u : View E) (else : other ≢ id) (there : get_elem? s.views other ≡ maybe.some u) (alive : u.spent ≡ false)
      (empty : (k : ℕ) → stage u k ≡ 0) where
    abbrev both : View E
    both = joined_by id other v u

    abbrev views : List (View E)
    views = set (set s.views id both) other spent_view

    abbrev number : ℕ → ℕ
    number i = cond (has i (other ∷ u.joined)) id (o.number i)

    abbrev session : ℕ → ℕ
    session q = cond (has q u.sessions) id (o.session q)

    l1 : SeesLog M log o.number (length s.views) id v
    l1 = kept.one_log.each id v at live

    l2 : SeesLog M log o.number (length s.views) other u
    l2 = kept.one_log.each other u there alive

    same_length : length views ≡ length s.views
    same_length = length-set (set s.views id both) other spent_view ∙ length-set s.views id both

    -- each view but the two is as it was
    each : (A B : ℕ → View E → Type 0) → EachLive A s.views → ((j : ℕ) (x : View E) → j ≢ id → j ≢ other → A j x → B j x) → B id both → EachLive B views
    each A B all others here j x found lives = ⊎_elim
        (λ t. absurd (true≢false (ap (λ y. y.spent) t.1 ∙ lives)))
        (λ t. ⊎_elim (λ a. subst (λ i. B i x) (sym a.0) (subst (B id) a.1 here)) (λ a. others j x a.0 t.0 (all j x a.1 lives)) (at_set s.views id j both x t.1))
        (at_set (set s.views id both) other j spent_view x found)

    -- of the joined log: it is one of the two, and no shorter than either
    chosen : (R : List (Entry E) → Type 0) → R v.log → R u.log → R (longer v.log u.log)
    chosen R a b = elim (ltb (length v.log) (length u.log)) as (λ c. R (cond c u.log v.log)) [ true ↦ b | false ↦ a ]

    no_shorter : (length v.log ≤ length (longer v.log u.log)) × (length u.log ≤ length (longer v.log u.log))
    no_shorter = bool_cases (ltb (length v.log) (length u.log)) ((length v.log ≤ length (longer v.log u.log)) × (length u.log ≤ length (longer v.log u.log)))
        (λ e.
        let lt : length v.log < length u.log = ltb-true (length v.log) (length u.log) e in
        let n : length (longer v.log u.log) ≡ length u.log = ap (λ c. length (cond c u.log v.log)) e in
        (omega (arith, lt, n), omega (arith, n)))
        (λ e.
        let ge : length u.log ≤ length v.log = ltb-false (length v.log) (length u.log) e in
        let n : length (longer v.log u.log) ≡ length v.log = ap (λ c. length (cond c u.log v.log)) e in
        (omega (arith, n), omega (arith, ge, n)))

    goes_on : GoesOn both log
    goes_on = chosen (λ l. log ≡ l ++ drop (length l) log) l1.goes_on l2.goes_on

    mine_since : own (id ∷ v.joined) (since both log) ≡ []
    mine_since = own_later log v (longer v.log u.log) l1.goes_on goes_on no_shorter.0 (id ∷ v.joined) (own_rest (id ∷ v.joined) v.log (since v log) (ap (own (id ∷ v.joined)) (sym l1.goes_on) ∙ (l1.mine ∙ sym l1.seen)))

    theirs_since : own (other ∷ u.joined) (since both log) ≡ []
    theirs_since = own_later log u (longer v.log u.log) l2.goes_on goes_on no_shorter.1 (other ∷ u.joined) (own_rest (other ∷ u.joined) u.log (since u log) (ap (own (other ∷ u.joined)) (sym l2.goes_on) ∙ (l2.mine ∙ sym l2.seen)))

    apart : (i : ℕ) → has i (id ∷ v.joined) ≡ true → has i (other ∷ u.joined) ≡ true → ⊥
    apart i a b = else (sym (l2.numbers i b).0 ∙ (l1.numbers i a).0)

    none_since : own (id ∷ both.joined) (since both log) ≡ []
    none_since =
        let n = own_sum (id ∷ v.joined) (other ∷ u.joined) (since both log) apart in
        let a : length (own (id ∷ v.joined) (since both log)) ≡ 0 = ap length mine_since in
        let b : length (own (other ∷ u.joined) (since both log)) ≡ 0 = ap length theirs_since in
        length_zero (own (id ∷ both.joined) (since both log)) (omega (arith, n, a, b))

    mine : own (id ∷ both.joined) log ≡ both.mine
    mine = ap (own (id ∷ both.joined)) goes_on ∙ (own_append (id ∷ both.joined) both.log (since both log) ∙ (ap (λ x. own (id ∷ both.joined) both.log ++ x) none_since ∙ append-nil (own (id ∷ both.joined) both.log)))

    -- the joined pass has as many entries as the two had
    pub count : length both.mine ≡ length v.mine + length u.mine
    count =
        let n = own_sum (id ∷ v.joined) (other ∷ u.joined) log apart in
        let a : length (own (id ∷ v.joined) log) ≡ length v.mine = ap length l1.mine in
        let b : length (own (other ∷ u.joined) log) ≡ length u.mine = ap length l2.mine in
        let c : length (own (id ∷ both.joined) log) ≡ length both.mine = ap length mine in
        omega (arith, n, a, b, c)

    numbers_both : (i : ℕ) → has i (id ∷ both.joined) ≡ true → (number i ≡ id) × (i < length views)
    numbers_both i h = ⊎_elim
        (λ a.
        let t = l1.numbers i a in
        let b : has i (other ∷ u.joined) ≡ false = not_true (has i (other ∷ u.joined)) (apart i a) in
        (ap (λ c. cond c id (o.number i)) b ∙ t.0, let lt = t.1 in let n = same_length in omega (arith, lt, n)))
        (λ b. (ap (λ c. cond c id (o.number i)) b, let lt = (l2.numbers i b).1 in let n = same_length in omega (arith, lt, n)))
        (has_append i (id ∷ v.joined) (other ∷ u.joined) h)

    numbers_else : (j : ℕ) (x : View E) → j ≢ id → j ≢ other → SeesLog M log o.number (length s.views) j x → SeesLog M log number (length views) j x
    numbers_else j x ne away l = record {
      goes_on = l.goes_on;
      before = l.before;
      heard = l.heard;
      mine = l.mine;
      seen = l.seen;
      total = l.total;
      numbers = λ i h.
          let t = l.numbers i h in
          let b : has i (other ∷ u.joined) ≡ false = not_true (has i (other ∷ u.joined)) (λ y. away (sym t.0 ∙ (l2.numbers i y).0)) in
          (ap (λ c. cond c id (o.number i)) b ∙ t.0, let lt = t.1 in let n = same_length in omega (arith, lt, n));
    }

    parts : HoldsParts M log o.part s.words s.homes id v
    parts = kept.at_home.each id v at live

    here : get_elem? views id ≡ maybe.some both
    here = set_else (set s.views id both) other id spent_view (λ e. else (sym e)) ∙ set_here s.views id both (at_below s.views id v at)

    latched : (k : ℕ) → k < length M.start → slice_index s.words (latch_word k) ≢ 0 → (x : View E) × (get_elem? views (o.part k) ≡ maybe.some x) × (x.spent ≡ false) × (stage x k ≢ 0)
    latched k lt taken =
        let h = kept.at_home.latched k lt taken in
        by_cases (o.part k) id ((x : View E) × (get_elem? views (o.part k) ≡ maybe.some x) × (x.spent ≡ false) × (stage x k ≢ 0))
        (λ e.
        let same : h.0 ≡ v = maybe.some-injective h.0 v (sym h.1 ∙ (ap (get_elem? s.views) e ∙ at)) in
        (both, ap (get_elem? views) e ∙ here, live, (λ z. h.3 (ap (λ x. stage x k) same ∙ z))))
        (λ ne.
        let away : o.part k ≢ other = λ e. h.3 (ap (λ x. stage x k) (maybe.some-injective h.0 u (sym h.1 ∙ (ap (get_elem? s.views) e ∙ there))) ∙ empty k) in
        (h.0, set_else (set s.views id both) other (o.part k) spent_view away ∙ (set_else s.views id (o.part k) both ne ∙ h.1), h.2, h.3))

    s1 : OwnsSessions M log o.session id v
    s1 = kept.lawful.each id v at live

    s2 : OwnsSessions M log o.session other u
    s2 = kept.lawful.each other u there alive

    spared_both : (q : ℕ) → has q both.sessions ≡ true → Spares M q (since both log)
    spared_both q h = ⊎_elim
        (λ a. spares_later log v (longer v.log u.log) l1.goes_on goes_on no_shorter.0 q (s1.spared q a))
        (λ b. spares_later log u (longer v.log u.log) l2.goes_on goes_on no_shorter.1 q (s2.spared q b))
        (has_append q v.sessions u.sessions h)

    no_session : (q : ℕ) → has q v.sessions ≡ true → has q u.sessions ≡ true → ⊥
    no_session q a b = else (sym (s2.sessions q b) ∙ s1.sessions q a)

    tied_both : Tied M.passes (id ∷ both.joined) both.sessions both.sole log
    tied_both = record {
      within = λ q h. ⊎_elim (λ a. s1.tied.within q a) (λ b. s2.tied.within q b) (has_append q v.sessions u.sessions h);
      named = s1.tied.named;
      alone = λ q is h. ⊎_elim
          (λ a.
          let t = among_is v.sessions v.sole q a in
          only_more q (id ∷ v.joined) (id ∷ both.joined) log (λ i x. has_left i (id ∷ v.joined) (other ∷ u.joined) x) (s1.tied.alone q t.0 t.1))
          (λ b.
          let t = among_is u.sessions u.sole q b in
          only_more q (other ∷ u.joined) (id ∷ both.joined) log (λ i x. has_right i (id ∷ v.joined) (other ∷ u.joined) x) (s2.tied.alone q t.0 t.1))
          (has_append q (among v.sessions v.sole) (among u.sessions u.sole) is);
    }

    sessions_both : OwnsSessions M log session id both
    sessions_both = record {
      sessions = λ q h. ⊎_elim
          (λ a. ap (λ c. cond c id (o.session q)) (not_true (has q u.sessions) (no_session q a)) ∙ s1.sessions q a)
          (λ b. ap (λ c. cond c id (o.session q)) b)
          (has_append q v.sessions u.sessions h);
      distinct = distinct_append v.sessions u.sessions s1.distinct s2.distinct no_session;
      spared = spared_both;
      transactions = λ q h. still_open M laws log both q kept.lawful.begins goes_on kept.lawful.lawful (spared_both q h);
      stood = λ q was h. s1.spared q was;
      came = λ q was h. s2.spared q was;
      tied = tied_both;
    }

    sessions_else : (j : ℕ) (x : View E) → j ≢ id → j ≢ other → OwnsSessions M log o.session j x → OwnsSessions M log session j x
    sessions_else j x ne away a = record {
      sessions = λ q h. ap (λ c. cond c id (o.session q)) (not_true (has q u.sessions) (λ b. away (sym (a.sessions q h) ∙ s2.sessions q b))) ∙ a.sessions q h;
      distinct = a.distinct;
      spared = a.spared;
      transactions = a.transactions;
      stood = a.stood;
      came = a.came;
      tied = a.tied;
    }

    abbrev Owner : ℕ → Type 0
    Owner q = (x : View E) × (get_elem? views (session q) ≡ maybe.some x) × (x.spent ≡ false) × (has q x.sessions ≡ true)

    -- a transaction of either pass is in the joined view
    owned : (q : ℕ) (t : T) → M.transaction (replay M log) q ≡ Some t → Owner q
    owned q t open' =
        let h = kept.lawful.owned q t open' in
        bool_cases (has q u.sessions) (Owner q)
        (λ theirs. (both, ap (λ c. get_elem? views (cond c id (o.session q))) theirs ∙ here, live, has_right q v.sessions u.sessions theirs))
        (λ not_theirs.
        let is : session q ≡ o.session q = ap (λ c. cond c id (o.session q)) not_theirs in
        by_cases (o.session q) id (Owner q)
        (λ e.
        let same : h.0 ≡ v = maybe.some-injective h.0 v (sym h.1 ∙ (ap (get_elem? s.views) e ∙ at)) in
        (both, ap (get_elem? views) (is ∙ e) ∙ here, live, has_left q v.sessions u.sessions (ap (λ (x : View E). has q x.sessions) (sym same) ∙ h.3)))
        (λ ne.
        let away : o.session q ≢ other = λ e.
        true≢false (sym h.3 ∙ (ap (λ (x : View E). has q x.sessions) (maybe.some-injective h.0 u (sym h.1 ∙ (ap (get_elem? s.views) e ∙ there))) ∙ not_theirs)) in
        (h.0, ap (get_elem? views) is ∙ (set_else (set s.views id both) other (o.session q) spent_view away ∙ (set_else s.views id (o.session q) both ne ∙ h.1)), h.2, h.3)))

    all_views : (B : View E → Type 0) → B both → B spent_view → ((j : ℕ) (x : View E) → get_elem? s.views j ≡ maybe.some x → B x) → (j : ℕ) (x : View E) → get_elem? views j ≡ maybe.some x → B x
    all_views B a b others j x found = ⊎_elim
        (λ t. subst B t.1 b)
        (λ t. ⊎_elim (λ c. subst B c.1 a) (λ c. others j x c.1) (at_set s.views id j both x t.1))
        (at_set (set s.views id both) other j spent_view x found)

    there' : get_elem? (set s.views id both) other ≡ maybe.some u
    there' = set_else s.views id other both else ∙ there

    -- the invariant holds of the hall with the two passes in one
    pub join_kept : PartsHold M log record { part = o.part; number = number; session = session } record { words = s.words; homes = s.homes; views = views }
    join_kept = record {
      one_log = record {
        counted = kept.one_log.counted;
        made = subst (λ i. MadeBelow i log) (sym same_length) kept.one_log.made;
        each = each (SeesLog M log o.number (length s.views)) (SeesLog M log number (length views)) kept.one_log.each numbers_else
            (record { goes_on = goes_on; before = l1.goes_on; heard = l2.goes_on; mine = mine; seen = refl; total = (let c = count in let a = l1.total in let b = l2.total in omega (arith, c, a, b)); numbers = numbers_both });
      };
      at_home = record {
        wide = kept.at_home.wide;
        deep = kept.at_home.deep;
        free = kept.at_home.free;
        latched = latched;
        each = each (HoldsParts M log o.part s.words s.homes) (HoldsParts M log o.part s.words s.homes) kept.at_home.each (λ j x ne away h. h)
            (record {
              holds = parts.holds;
              taken = parts.taken;
              loaded = λ k two. untouched_later log v (longer v.log u.log) l1.goes_on goes_on no_shorter.0 k (parts.loaded k two);
              kept = parts.loaded;
              in_hand = parts.in_hand;
              out = parts.out;
              ever = parts.ever;
            });
      };
      lawful = record {
        begins = kept.lawful.begins;
        lawful = kept.lawful.lawful;
        each = each (OwnsSessions M log o.session) (OwnsSessions M log session) kept.lawful.each sessions_else sessions_both;
        owned = owned;
      };
      facts = record {
        each = each (λ j x. (f : F) → M.fact f (replay M x.log) → M.fact f (replay M log)) (λ j x. (f : F) → M.fact f (replay M x.log) → M.fact f (replay M log)) kept.facts.each (λ j x ne away h. h)
            (λ f h. still_true M laws log both f kept.lawful.begins goes_on kept.lawful.lawful h);
      };
      hands = record {
        limit = kept.hands.limit;
        handed =
            let t = total_set hands_of s.views id v both at in
            let x = total_set hands_of (set s.views id both) other u spent_view there' in
            let h = kept.hands.handed in
            let n : length (v.sessions ++ u.sessions) ≡ length v.sessions + length u.sessions = length-append v.sessions u.sessions in
            omega (arith, t, x, h, n);
        entries =
            let t = total_set entries_of s.views id v both at in
            let x = total_set entries_of (set s.views id both) other u spent_view there' in
            let h = kept.hands.entries in
            let c = count in
            omega (arith, t, x, h, c);
        few = all_views (λ x. entries_of x ≤ 2 ^ 56 * hands_of x)
            (let a = kept.hands.few id v at in let b = kept.hands.few other u there in let c = count in let n : length (v.sessions ++ u.sessions) ≡ length v.sessions + length u.sessions = length-append v.sessions u.sessions in omega (arith, a, b, c, n))
            (omega arith) kept.hands.few;
        idle = all_views (λ x. hands_of x ≡ 0 → (k : ℕ) → stage x k ≡ 0)
            (λ none'. kept.hands.idle id v at (let n : length (v.sessions ++ u.sessions) ≡ length v.sessions + length u.sessions = length-append v.sessions u.sessions in omega (arith, n, none')))
            (λ _ k. refl) kept.hands.idle;
      };
    }
