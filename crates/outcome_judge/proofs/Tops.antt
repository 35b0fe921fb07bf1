-- Whether another session's transaction is in the way, by how long places are held.
use Rattle.std.proofs.Common.{◌≡◌, ℕ, ◌+◌, ◌<◌, ◌^◌, max, suc, cond, Bool, true, false, ◌&&◌, ◌||◌, not, eqb, nat_lt, nat_le, List, [], ◌∷◌, Option, None, Some, refl, sym, ap, ◌∙◌, subst, arith, take}
use Rattle.std.specs.List.{filter, find, list_any, list_all, count_by}
use Rattle.std.specs.Option.{option_map_or}
use Rattle.std.specs.Prelude.{if◌then◌else◌}
use Rattle.std.proofs.lemmas.Bool.{and_parts, and_from, not-true}
use Rattle.std.proofs.lemmas.Bool.Decides.{nat_tests}
use Rattle.isolation_spec.specs.declared.place.Place.{Place}
use Rattle.workload_spec.specs.declared.reply.Who.{Who}
use Rattle.workload_spec.specs.declared.reply.Who.TheVariants.{Session}
use Rattle.outcome_spec.specs.Entries.{Entry, is_same, is_before, thread, is_end, is_accepted, before, not_after, snapshot_in}
use Rattle.outcome_spec.specs.Runs.{Span, run_of, up_to_end, span_from, transactions_of, ending_of}
use Rattle.outcome_spec.specs.Conflicts.{has_write, names_session, passes_no_session}
use Rattle.cell_model.specs.declared.table.TableDecl.{TableDecl}
use Rattle.order_laws.specs.Places.{Rises, round_start, round_end}
use Rattle.order_laws.specs.Sides.{is_past}
use Rattle.order_laws.proofs.Pieces.{Parted, count-cons, count-none}
use Rattle.order_laws.proofs.Places.{past-parts, round-parts, same-is}
use Rattle.order_laws.proofs.Order.{same-itself}
use Rattle.outcome_counts.proofs.Parts.{parted-map, count-map}
use Rattle.outcome_counts.proofs.Peaks.{highest-agree}
use Rattle.mark_index.specs.Marks.{highest}
use Rattle.outcome_judge.specs.Held.{Held, held_in, never, stop_in}
use Rattle.outcome_judge.specs.Leads.{but_own}
use Rattle.outcome_judge.specs.Rivals.{holds_until, writer_at, writer_until}
use Rattle.outcome_judge.specs.Written.{writes_to}
use Rattle.outcome_judge.specs.HistoryKept.{place_in}
use Rattle.outcome_judge.specs.declared.keys.RowKey.{RowKey}
use Rattle.outcome_judge.proofs.Splits.{held-entries}
use Rattle.outcome_judge.proofs.Spans.{any-agree, held-chosen}
use Rattle.outcome_judge.proofs.Whos.{same-turned}

-- ---- what is found among those that pass

-- one that passes among those kept is one that passes both tests
pub any-filter : {X : Type 0} (p q : X → Bool) (xs : List X) → list_any p (filter q xs) ≡ list_any (λ x. p x && q x) xs
any-filter p q [] = refl
any-filter p q (x ∷ xs) = by (p x) (q x) refl ∙ ap (λ (b : Bool). (p x && q x) || b) (any-filter p q xs)
  where
    by : (a b : Bool) → q x ≡ b → list_any p (filter q (x ∷ xs)) ≡ ((p x && b) || list_any p (filter q xs))
    by a true is = rw is (or-true (p x))
      where
        or-true : (b : Bool) → (b || list_any p (filter q xs)) ≡ ((b && true) || list_any p (filter q xs))
        or-true true = refl
        or-true false = refl
    by a false is = rw is (or-false (p x))
      where
        or-false : (b : Bool) → list_any p (filter q xs) ≡ ((b && false) || list_any p (filter q xs))
        or-false true = refl
        or-false false = refl

-- two conjunctions are the same where their seconds are, as far as the first is true
pub under : (a b c : Bool) → (a ≡ true → b ≡ c) → (a && b) ≡ (a && c)
under true b c h = h refl
under false b c h = refl

-- the first that passes is one of those that a second test passes
pub found-agree : {X : Type 0} (p s f g : X → Bool) (none : Bool) → ((x : X) → s x ≡ true → f x ≡ g x) → (xs : List X) → list_all s xs ≡ true
    → option_map_or f (find p xs) none ≡ option_map_or g (find p xs) none
found-agree p s f g none same [] h = refl
found-agree p s f g none same (x ∷ xs) h = by (p x) refl (and_parts (s x) (list_all s xs) h) (found-agree p s f g none same xs)
  where
    by : (b : Bool) → p x ≡ b → (s x ≡ true) × (list_all s xs ≡ true) → (list_all s xs ≡ true → option_map_or f (find p xs) none ≡ option_map_or g (find p xs) none)
        → option_map_or f (find p (x ∷ xs)) none ≡ option_map_or g (find p (x ∷ xs)) none
    by true is parts rest = rw is (same x parts.0)
    by false is parts rest = rw is (rest parts.1)

-- ---- the replies of a transaction are its session's

-- The replies of a thread are all to its session or worker.
same-thread : (who : Who) (entries : List Entry) → list_all (λ (x : Entry). is_same x.reply.who who) (thread who entries) ≡ true
same-thread who [] = refl
same-thread who (entry ∷ entries) = by (is_same entry.reply.who who) refl (same-thread who entries)
  where
    by : (b : Bool) → is_same entry.reply.who who ≡ b → list_all (λ (x : Entry). is_same x.reply.who who) (thread who entries) ≡ true
        → list_all (λ (x : Entry). is_same x.reply.who who) (thread who (entry ∷ entries)) ≡ true
    by true is rest = rw (is, is) rest
    by false is rest = rw is rest

-- What all of some replies pass those up to the end pass.
all-up : (s : Entry → Bool) (entries : List Entry) → list_all s entries ≡ true → list_all s (up_to_end entries) ≡ true
all-up s [] h = refl
all-up s (entry ∷ entries) h = by (is_end entry.reply.said) refl (and_parts (s entry) (list_all s entries) h) (all-up s entries)
  where
    by : (b : Bool) → is_end entry.reply.said ≡ b → (s entry ≡ true) × (list_all s entries ≡ true) → (list_all s entries ≡ true → list_all s (up_to_end entries) ≡ true) → list_all s (up_to_end (entry ∷ entries)) ≡ true
    by true is parts rest = rw (is, parts.0) refl
    by false is parts rest = rw (is, parts.0) (rest parts.1)

-- the replies of a transaction are all its session's
pub span-same : (entry : Entry) (entries : List Entry) → list_all (λ (x : Entry). is_same x.reply.who entry.reply.who) (up_to_end (entry ∷ thread entry.reply.who entries)) ≡ true
span-same entry entries =
    all-up (λ (x : Entry). is_same x.reply.who entry.reply.who) (entry ∷ thread entry.reply.who entries)
    (and_from (is_same entry.reply.who entry.reply.who) (list_all (λ (x : Entry). is_same x.reply.who entry.reply.who) (thread entry.reply.who entries)) (same-itself entry.reply.who) (same-thread entry.reply.who entries))

-- two tests of transactions that agree on each that is opened
pub spans-agree : (p q : Span → Bool) → ((entry : Entry) (entries : List Entry) (snapshot : ℕ) → p (span_from entry entries snapshot) ≡ q (span_from entry entries snapshot))
    → (entries : List Entry) → list_any p (transactions_of entries) ≡ list_any q (transactions_of entries)
spans-agree p q same [] = refl
spans-agree p q same (entry ∷ entries) = by (snapshot_in entry.reply.said) refl (spans-agree p q same entries)
  where
    by : (shown : Option ℕ) → snapshot_in entry.reply.said ≡ shown → list_any p (transactions_of entries) ≡ list_any q (transactions_of entries)
        → list_any p (transactions_of (entry ∷ entries)) ≡ list_any q (transactions_of (entry ∷ entries))
    by None is rest = rw is rest
    by (Some snapshot) is rest = rw is (ap (λ (b : Bool). b || list_any p (transactions_of entries)) (same entry entries snapshot) ∙ ap (λ (b : Bool). q (span_from entry entries snapshot) || b) rest)

-- ---- the highest tells whether one is above

-- one that is chosen is above a bound where the highest of them is
pub any-above : {X : Type 0} (c near : X → Bool) (u v : X → ℕ) (bound : ℕ) → ((x : X) → v x ≡ (if c x then u x else 0)) → (xs : List X)
    → list_any (λ x. near x && (c x && nat_lt bound (u x))) xs ≡ nat_lt bound (highest v (filter near xs))
any-above c near u v bound is [] = grind (arith, nat_tests)
any-above c near u v bound is (x ∷ xs) = by (near x) refl (any-above c near u v bound is xs)
  where
    above : (b : Bool) (n high : ℕ) → ((b && nat_lt bound n) || nat_lt bound high) ≡ nat_lt bound (max (if b then n else 0) high)
    above true n high = grind (arith, nat_tests)
    above false n high = let e : max 0 high ≡ high = omega arith in rw e refl

    by : (b : Bool) → near x ≡ b → list_any (λ y. near y && (c y && nat_lt bound (u y))) xs ≡ nat_lt bound (highest v (filter near xs))
        → list_any (λ y. near y && (c y && nat_lt bound (u y))) (x ∷ xs) ≡ nat_lt bound (highest v (filter near (x ∷ xs)))
    by true k rest = rw k (ap (λ (b : Bool). (c x && nat_lt bound (u x)) || b) rest ∙ above (c x) (u x) (highest v (filter near xs)) ∙ ap (λ (n : ℕ). nat_lt bound (max n (highest v (filter near xs)))) (sym (is x)))
    by false k rest = rw k rest

-- Where all elements fail the test, it keeps none.
filter-none : {X : Type 0} (p : X → Bool) (xs : List X) → list_all (λ x. not (p x)) xs ≡ true → filter p xs ≡ []
filter-none p [] h = refl
filter-none p (x ∷ xs) h = by (p x) refl (and_parts (not (p x)) (list_all (λ y. not (p y)) xs) h) (filter-none p xs)
  where
    by : (b : Bool) → p x ≡ b → (not (p x) ≡ true) × (list_all (λ y. not (p y)) xs ≡ true) → (list_all (λ y. not (p y)) xs ≡ true → filter p xs ≡ []) → filter p (x ∷ xs) ≡ []
    by true is parts rest = absurd (let e : not true ≡ true = ap not (sym is) ∙ parts.0 in let never : ⊥ = cc in never)
    by false is parts rest = rw is (rest parts.1)

-- where those that pass stand in front, the filter keeps the front
pub filter-parted : {X : Type 0} (p : X → Bool) (xs : List X) → Parted p xs → filter p xs ≡ take (count_by p xs) xs
filter-parted p [] h = refl
filter-parted {X = X} p (x ∷ xs) h = rw (count-cons p x xs) (by (p x) refl h.0 (filter-parted p xs h.1))
  where
    by : (b : Bool) → p x ≡ b → (p x ≡ false → list_all (λ y. not (p y)) xs ≡ true) → filter p xs ≡ take (count_by p xs) xs → filter p (x ∷ xs) ≡ take (cond b 1 0 + count_by p xs) (x ∷ xs)
    by true is stops rest = let e : 1 + count_by p xs ≡ suc (count_by p xs) = omega arith in rw (e, is) (ap (λ (ys : List X). x ∷ ys) rest)
    by false is stops rest =
        let none = count-none p xs (stops is) in
        let e : 0 + count_by p xs ≡ 0 = omega (arith, none) in
        rw (e, is) (filter-none p xs (stops is))

-- those of the held ones whose replies stand in front
pub held-front : (p : Entry → Bool) (entries : List Entry) → Parted p entries → filter (λ (h : Held). p h.entry) (held_in entries) ≡ take (count_by p entries) (held_in entries)
held-front p entries parted =
    let its = held-entries [] entries in
    filter-parted (λ (h : Held). p h.entry) (held_in entries) (parted-map (λ (h : Held). h.entry) p (held_in entries) (subst (Parted p) (sym its) parted))
    ∙ ap (λ (n : ℕ). take n (held_in entries)) (sym (count-map (λ (h : Held). h.entry) p (held_in entries)) ∙ ap (count_by p) its)

-- Which replies count and which ends do, for all but one's own.
module _ (place : Place) (own : Who) (chosen : Who → Bool) (others : (who : Who) → chosen who ≡ true → is_same who own ≡ false)
    (counts near : Entry → Bool) (counted : (x : Entry) → is_same x.reply.who own ≡ false → counts x ≡ near x)
    (ends : Entry → Bool) (bound : ℕ) (ended : (x : Entry) → is_same x.reply.who own ≡ false → ends x ≡ nat_lt bound (x.reply.round + 1)) (low : nat_lt bound never ≡ true) where
  -- The reply writes the place and counts.
  abbrev test : Entry → Bool
  test x = writes_to place x && counts x

  -- The stop is above the bound.
  abbrev far : ℕ → Bool
  far stop = nat_lt bound stop

  -- A reply that accepts no write fails the test.
  quiet : (entry : Entry) → is_accepted entry.reply.said ≡ false → test entry ≡ false
  quiet entry none = rw none refl

  -- Zero is no stop above the bound.
  nothing : far 0 ≡ false
  nothing = grind (arith, nat_tests)

  -- An end is above the bound, or missing, exactly where the stop is above the bound.
  by-stop : (found : Option Entry) → option_map_or (λ (x : Entry). nat_lt bound (x.reply.round + 1)) found true ≡ nat_lt bound (option_map_or (λ (x : Entry). x.reply.round + 1) found never)
  by-stop None = sym low
  by-stop (Some x) = refl

  -- A chosen one's transaction is in the way exactly where its replies and its stop pass.
  one-span : (who : Who) (replies : List Entry) → list_all (λ (x : Entry). is_same x.reply.who who) replies ≡ true → chosen who ≡ true
      → (has_write place (filter counts replies) && option_map_or ends (find (λ x. is_end x.reply.said) replies) true) ≡ (list_any test replies && far (stop_in replies))
  one-span who replies same is =
      ap (λ (b : Bool). b && option_map_or ends (find (λ x. is_end x.reply.said) replies) true) (any-filter (writes_to place) counts replies)
      ∙ ap (λ (b : Bool). list_any test replies && b)
      (found-agree (λ (x : Entry). is_end x.reply.said) (λ (x : Entry). is_same x.reply.who who) ends (λ (x : Entry). nat_lt bound (x.reply.round + 1)) true
      (λ x its. ended x (ap (λ (w : Who). is_same w own) (same-is x.reply.who who its) ∙ others who is)) replies same
      ∙ by-stop (find (λ x. is_end x.reply.said) replies))

  -- Of four conditions together the third may go to the front.
  moved : (c w n f : Bool) → (c && ((w && n) && f)) ≡ (n && ((c && w) && f))
  moved true true true f = refl
  moved true true false f = refl
  moved true false true f = refl
  moved true false false f = refl
  moved false w true f = refl
  moved false w false f = refl

  -- another's transaction is in the way where the highest hold is above the bound
  pub any-rival : (entries : List Entry)
      → list_any (λ t. chosen t.who && (has_write place (filter counts t.replies) && option_map_or ends (ending_of t) true)) (transactions_of entries)
      ≡ nat_lt bound (highest (λ (h : Held). if chosen h.entry.reply.who && writes_to place h.entry then h.until else 0) (filter (λ (h : Held). near h.entry) (held_in entries)))
  any-rival entries =
      spans-agree (λ t. chosen t.who && (has_write place (filter counts t.replies) && option_map_or ends (ending_of t) true)) (λ t. chosen t.who && (list_any test t.replies && far (stop_in t.replies)))
      (λ e es n. under (chosen e.reply.who) (has_write place (filter counts (span_from e es n).replies) && option_map_or ends (ending_of (span_from e es n)) true)
      (list_any test (span_from e es n).replies && far (stop_in (span_from e es n).replies)) (one-span e.reply.who (span_from e es n).replies (span-same e es))) entries
      ∙ held-chosen test quiet far nothing chosen entries
      ∙ any-agree (λ (h : Held). chosen h.entry.reply.who && (test h.entry && far h.until)) (λ (h : Held). near h.entry && ((chosen h.entry.reply.who && writes_to place h.entry) && nat_lt bound h.until))
      (λ h. under (chosen h.entry.reply.who) (test h.entry && far h.until) ((writes_to place h.entry && near h.entry) && far h.until)
      (λ is. ap (λ (b : Bool). (writes_to place h.entry && b) && far h.until) (counted h.entry (others h.entry.reply.who is)))
      ∙ moved (chosen h.entry.reply.who) (writes_to place h.entry) (near h.entry) (far h.until)) (held_in entries)
      ∙ any-above (λ (h : Held). chosen h.entry.reply.who && writes_to place h.entry) (λ (h : Held). near h.entry) (λ (h : Held). h.until)
      (λ (h : Held). if chosen h.entry.reply.who && writes_to place h.entry then h.until else 0) bound (λ h. refl) (held_in entries)

-- ---- the two conditions

-- one that isn't the reply's own: it stands not after it, or before it, by its round alone
apart-turned : (a b : Who) → is_same a b ≡ false → is_same b a ≡ false
apart-turned a b h = by (is_same b a) refl
  where
    by : (c : Bool) → is_same b a ≡ c → c ≡ false
    by true is = absurd (let e : is_same a b ≡ true = same-turned b a is in let never : true ≡ false = sym e ∙ h in let impossible : ⊥ = cc in impossible)
    by false is = refl

-- A reply is before one of another session or worker exactly where its round is earlier.
before-by-round : (a b : Entry) → is_same a.reply.who b.reply.who ≡ false → is_before a b ≡ nat_lt a.reply.round b.reply.round
before-by-round a b apart =
    ap (λ (t : Bool). nat_lt a.reply.round b.reply.round || ((eqb a.reply.round b.reply.round && t) && nat_lt a.reply.index b.reply.index)) apart
    ∙ by (nat_lt a.reply.round b.reply.round) (eqb a.reply.round b.reply.round) (nat_lt a.reply.index b.reply.index)
  where
    by : (l e i : Bool) → (l || ((e && false) && i)) ≡ l
    by true e i = refl
    by false true i = refl
    by false false i = refl

module _ (entries : List Entry) (entry : Entry) (rises : Rises entries) (round : entry.reply.round + 1 < 2 ^ 33) where
  -- The round of the reply.
  abbrev r : ℕ
  r = entry.reply.round

  -- a session may be named where its writer holds the place up to the round or beyond
  pub names-by : (tables : List TableDecl) (t : Span) (of : RowKey) (session : ℕ) → t.who ≡ entry.reply.who → is_same entry.reply.who (Session session) ≡ false
      → names_session (run_of tables entries) t (place_in of) entry session
      ≡ nat_lt r (highest (writer_until (writer_at of session)) (take (round_end entries entry) (held_in entries)))
  names-by tables t of session its apart =
      any-agree (λ rival. ((is_same rival.who (Session session) && not (is_same rival.who t.who)) && has_write (place_in of) (not_after rival.replies entry)) && option_map_or (λ ending. not (is_before ending entry)) (ending_of rival) true)
      (λ rival. is_same rival.who (Session session) && (has_write (place_in of) (not_after rival.replies entry) && option_map_or (λ ending. not (is_before ending entry)) (ending_of rival) true))
      (λ rival. dropped (is_same rival.who (Session session)) (is_same rival.who t.who) (has_write (place_in of) (not_after rival.replies entry)) (option_map_or (λ ending. not (is_before ending entry)) (ending_of rival) true)
      (λ is. ap (λ (w : Who). is_same rival.who w) its ∙ others rival.who is)) (transactions_of entries)
      ∙ any-rival (place_in of) entry.reply.who (λ who. is_same who (Session session)) others
      (λ x. not (is_before entry x)) (λ x. nat_le x.reply.round r)
      (λ x other. ap not (before-by-round entry x (apart-turned x.reply.who entry.reply.who other)) ∙ not-later x.reply.round r)
      (λ x. not (is_before x entry)) r
      (λ x other. ap not (before-by-round x entry other) ∙ not-earlier x.reply.round r)
      (let l = round in grind (arith, nat_tests, l)) entries
      ∙ ap (λ (hs : List Held). nat_lt r (highest (writer_until (writer_at of session)) hs)) (held-front (λ (x : Entry). nat_le x.reply.round r) entries (round-parts entry entries rises))
    where
      others : (who : Who) → is_same who (Session session) ≡ true → is_same who entry.reply.who ≡ false
      others who is = ap (λ (w : Who). is_same w entry.reply.who) (same-is who (Session session) is) ∙ apart-turned entry.reply.who (Session session) apart

      dropped : (a b writes stands : Bool) → (a ≡ true → b ≡ false) → (((a && not b) && writes) && stands) ≡ (a && (writes && stands))
      dropped true b writes stands h = ap (λ (c : Bool). ((not c && writes) && stands)) (h refl)
      dropped false b writes stands h = refl

      not-later : (n m : ℕ) → not (nat_lt m n) ≡ nat_le n m
      not-later n m = grind (arith, nat_tests)

      not-earlier : (n m : ℕ) → not (nat_lt n m) ≡ nat_lt m (n + 1)
      not-earlier n m = grind (arith, nat_tests)

  -- no other session is in the way where none holds the place beyond the round
  pub passes-by : (tables : List TableDecl) (t : Span) (of : RowKey) → t.who ≡ entry.reply.who
      → passes_no_session (run_of tables entries) t (place_in of) entry
      ≡ not (nat_lt (r + 1) (highest (but_own entry.reply.who (λ (h : Held). h.entry.reply.who) (holds_until (place_in of))) (take (round_start entries entry) (held_in entries))))
  passes-by tables t of its =
      ap (λ (who : Who). not (list_any (λ rival. (not (is_same rival.who who) && has_write (place_in of) (before rival.replies entry)) && option_map_or (λ ending. is_before entry ending) (ending_of rival) true) (transactions_of entries))) its
      ∙ ap not
      (any-agree (λ rival. (not (is_same rival.who entry.reply.who) && has_write (place_in of) (before rival.replies entry)) && option_map_or (λ ending. is_before entry ending) (ending_of rival) true)
      (λ rival. not (is_same rival.who entry.reply.who) && (has_write (place_in of) (before rival.replies entry) && option_map_or (λ ending. is_before entry ending) (ending_of rival) true))
      (λ rival. grouped (not (is_same rival.who entry.reply.who)) (has_write (place_in of) (before rival.replies entry)) (option_map_or (λ ending. is_before entry ending) (ending_of rival) true)) (transactions_of entries)
      ∙ any-rival (place_in of) entry.reply.who (λ who. not (is_same who entry.reply.who)) (λ who is. not-true (is_same who entry.reply.who) is)
      (λ x. is_before x entry) (λ x. nat_lt x.reply.round r) (λ x other. before-by-round x entry other)
      (λ x. is_before entry x) (r + 1) (λ x other. before-by-round entry x (apart-turned x.reply.who entry.reply.who other) ∙ later x.reply.round r)
      (let l = round in grind (arith, nat_tests, l)) entries
      ∙ ap (nat_lt (r + 1)) (highest-agree (λ (h : Held). if not (is_same h.entry.reply.who entry.reply.who) && writes_to (place_in of) h.entry then h.until else 0)
      (but_own entry.reply.who (λ (h : Held). h.entry.reply.who) (holds_until (place_in of))) (λ h. turned (is_same h.entry.reply.who entry.reply.who) (writes_to (place_in of) h.entry) h.until)
      (filter (λ (h : Held). nat_lt h.entry.reply.round r) (held_in entries)))
      ∙ ap (λ (hs : List Held). nat_lt (r + 1) (highest (but_own entry.reply.who (λ (h : Held). h.entry.reply.who) (holds_until (place_in of))) hs)) (held-front (is_past entry) entries (past-parts entry entries rises)))
    where
      grouped : (a b c : Bool) → ((a && b) && c) ≡ (a && (b && c))
      grouped true b c = refl
      grouped false b c = refl

      later : (n m : ℕ) → nat_lt m n ≡ nat_lt (m + 1) (n + 1)
      later n m = grind (arith, nat_tests)

      turned : (same writes : Bool) (until : ℕ) → (if not same && writes then until else 0) ≡ (if same then 0 else (if writes then until else 0))
      turned true writes until = refl
      turned false writes until = refl

-- its own session is never named
pub names-own : (tables : List TableDecl) (entries : List Entry) (t : Span) (place : Place) (entry : Entry) (session : ℕ) → t.who ≡ entry.reply.who → is_same entry.reply.who (Session session) ≡ true
    → false ≡ names_session (run_of tables entries) t place entry session
names-own tables entries t place entry session its own =
    sym (any-agree (λ rival. ((is_same rival.who (Session session) && not (is_same rival.who t.who)) && has_write place (not_after rival.replies entry)) && option_map_or (λ ending. not (is_before ending entry)) (ending_of rival) true)
    (λ rival. false)
    (λ rival. dropped (is_same rival.who (Session session)) (is_same rival.who t.who) (has_write place (not_after rival.replies entry)) (option_map_or (λ ending. not (is_before ending entry)) (ending_of rival) true)
    (λ is. ap (λ (w : Who). is_same rival.who w) (its ∙ same-is entry.reply.who (Session session) own) ∙ is)) (transactions_of entries)
    ∙ none-found (transactions_of entries))
  where
    dropped : (a b writes stands : Bool) → (a ≡ true → b ≡ true) → (((a && not b) && writes) && stands) ≡ false
    dropped true b writes stands h = ap (λ (c : Bool). ((not c && writes) && stands)) (h refl)
    dropped false b writes stands h = refl

    none-found : (ts : List Span) → list_any (λ (t : Span). false) ts ≡ false
    none-found [] = refl
    none-found (t ∷ ts) = none-found ts
