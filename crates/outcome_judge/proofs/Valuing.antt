-- The number that is told of a place by the reply at another.
use Rattle.std.proofs.Common.{◌≡◌, ℕ, ◌+◌, ◌<◌, ◌≤◌, zero, suc, Bool, true, false, ◌&&◌, ◌||◌, eqb, nat_lt, nat_le, List, [], ◌∷◌, ◌++◌, length, Option, None, Some, ◌⊎◌, inl, inr, refl, sym, ap, ◌∙◌, subst, arith}
use Rattle.std.specs.List.{list_all, list_any, range_with_len, slice_get}
use Rattle.std.specs.Option.{option_map_or}
use Rattle.std.specs.Prelude.{◌==◌, option_and_then, unwrap_or, if◌then◌else◌}
use Rattle.std.proofs.lemmas.Bool.{and_parts, cases_lt, eqb-true}
use Rattle.std.proofs.lemmas.Bool.Decides.{nat_tests}
use Rattle.std.proofs.lemmas.List.FromFn.{length-map-range_with_len}
use Rattle.std.proofs.lemmas.Option.{same_Some}
use Rattle.workload_spec.specs.declared.reply.Who.{Who}
use Rattle.isolation_spec.specs.Machine.{write_set_at}
use Rattle.mark_index.specs.Lists.{with_mark}
use Rattle.mark_index.specs.Marks.{next_peak}
use Rattle.mark_index.specs.declared.marks.Peak.{Peak}
use Rattle.outcome_spec.specs.Entries.{Entry, commit_in, is_reply, is_same}
use Rattle.outcome_spec.specs.Runs.{commit_count, commits_as, committed_writes, transactions_of}
use Rattle.order_laws.specs.Places.{Rises, is_ahead, is_earlier}
use Rattle.order_laws.proofs.Places.{Behind, Beside, Own, ahead-cases, earlier-itself, front-ahead, same-is}
use Rattle.outcome_counts.proofs.Starts.{get-at}
use Rattle.outcome_judge.specs.Commits.{first_of}
use Rattle.outcome_judge.specs.declared.keys.Target.{Target}
use Rattle.outcome_judge.specs.Targets.{wrote}
use Rattle.outcome_judge.proofs.History.{first-none, first-some}
use Rattle.timeline_laws.proofs.Tests.{or-false}
use Rattle.outcome_counts.proofs.Cuts.{one-cut}
use Rattle.outcome_judge.specs.Writers.{history_in, is_line_at, is_line_of, is_number_in, line_told, numbers_at, value_at}
use Rattle.outcome_judge.proofs.Committing.{reply-itself}
use Rattle.outcome_judge.proofs.Numbering.{history-at}
use Rattle.outcome_judge.proofs.Tops.{any-filter, under}

-- ---- replies at two places are two

-- Three tests that cannot all be true are false together.
apart-when : (a b c : Bool) → (a ≡ true → b ≡ true → c ≡ true → ⊥) → (a && b && c) ≡ false
apart-when true true true h = absurd (h refl refl refl)
apart-when true true false h = refl
apart-when true false c h = refl
apart-when false b c h = refl

-- Of a reply and one that it is ahead of, round, who and index are not all the same.
ahead-apart : (a b : Entry) → Behind a b ⊎ (Beside a b ⊎ Own a b) → a.reply.round ≡ b.reply.round → a.reply.who ≡ b.reply.who → a.reply.index ≡ b.reply.index → ⊥
ahead-apart a b (inl behind) round who index = let l = behind.later in omega (arith, l, round)
ahead-apart a b (inr (inl beside)) round who index =
    let e : true ≡ false = sym beside.who ∙ ap (λ (w : Who). is_earlier w b.reply.who) who ∙ earlier-itself b.reply.who in
    let never : ⊥ = cc in
    never
ahead-apart a b (inr (inr own)) round who index = let l = own.index in omega (arith, l, index)

-- A reply that is ahead of another is not this one.
ahead-not : (a b : Entry) → is_ahead a b ≡ true → is_reply a b ≡ false
ahead-not a b h = apart-when (eqb a.reply.round b.reply.round) (is_same a.reply.who b.reply.who) (eqb a.reply.index b.reply.index)
    (λ round who index. ahead-apart a b (ahead-cases a b h) (eqb-true a.reply.round b.reply.round round) (same-is a.reply.who b.reply.who who) (eqb-true a.reply.index b.reply.index index))

-- A reply that another is ahead of is not this one.
behind-not : (a b : Entry) → is_ahead b a ≡ true → is_reply a b ≡ false
behind-not a b h = apart-when (eqb a.reply.round b.reply.round) (is_same a.reply.who b.reply.who) (eqb a.reply.index b.reply.index)
    (λ round who index. ahead-apart b a (ahead-cases b a h) (sym (eqb-true a.reply.round b.reply.round round)) (sym (same-is a.reply.who b.reply.who who)) (sym (eqb-true a.reply.index b.reply.index index)))

-- At a place within the front stands the front's element.
got-front : (front rest : List Entry) (i : ℕ) → i < length front → slice_get (front ++ rest) i ≡ slice_get front i
got-front [] rest i h = absurd (omega (arith, h))
got-front (x ∷ front) rest zero h = refl
got-front (x ∷ front) rest (suc i) h = got-front front rest i (omega (arith, h))

-- Where all replies pass, the one at each place does.
got-all : (test : Entry → Bool) (xs : List Entry) (i : ℕ) (x : Entry) → list_all test xs ≡ true → slice_get xs i ≡ Some x → test x ≡ true
got-all test [] i x h got = absurd (let never : ⊥ = cc in never)
got-all test (y ∷ xs) zero x h got = ap test (sym (same_Some y x got)) ∙ (and_parts (test y) (list_all test xs) h).0
got-all test (y ∷ xs) (suc i) x h got = got-all test xs i x (and_parts (test y) (list_all test xs) h).1 got

-- of two places the reply at the first is ahead of that at the second
places-ahead : (entries fa : List Entry) (a : Entry) (ra fb : List Entry) (b : Entry) (rb : List Entry) → entries ≡ fa ++ a ∷ ra → entries ≡ fb ++ b ∷ rb → Rises entries → length fa < length fb → is_ahead a b ≡ true
places-ahead entries fa a ra fb b rb first second rises less =
    let there : slice_get fb (length fa) ≡ Some a =
    sym (got-front fb (b ∷ rb) (length fa) less) ∙ ap (λ (es : List Entry). slice_get es (length fa)) (sym second ∙ first) ∙ get-at fa a ra in
    got-all (λ other. is_ahead other b) fb (length fa) a (front-ahead fb b rb (subst Rises second rises)) there

-- one reply is another exactly where they stand at one place
reply-at : (entries fa : List Entry) (a : Entry) (ra fb : List Entry) (b : Entry) (rb : List Entry) → entries ≡ fa ++ a ∷ ra → entries ≡ fb ++ b ∷ rb → Rises entries
    → is_reply a b ≡ eqb (length fa) (length fb)
reply-at entries fa a ra fb b rb first second rises = by (cases_lt (length fa) (length fb)) (cases_lt (length fb) (length fa))
  where
    by : (length fa < length fb) ⊎ (length fb ≤ length fa) → (length fb < length fa) ⊎ (length fa ≤ length fb) → is_reply a b ≡ eqb (length fa) (length fb)
    by (inl less) other =
        let test : eqb (length fa) (length fb) ≡ false = grind (arith, nat_tests, less) in
        ahead-not a b (places-ahead entries fa a ra fb b rb first second rises less) ∙ sym test
    by (inr high) (inl more) =
        let test : eqb (length fa) (length fb) ≡ false = grind (arith, nat_tests, more) in
        behind-not a b (places-ahead entries fb b rb fa a ra second first rises more) ∙ sym test
    by (inr high) (inr low) =
        let same : length fa ≡ length fb = omega (arith, high, low) in
        let test : eqb (length fa) (length fb) ≡ true = grind (arith, nat_tests, same) in
        ap (λ (x : Entry). is_reply x b) (one-cut entries fa a ra fb b rb first second same) ∙ reply-itself b ∙ sym test

-- ---- the line of a number, and its commit

module _ (entries front : List Entry) (entry : Entry) (rest : List Entry) (place : ℕ) (whole : entries ≡ front ++ entry ∷ rest) (at : length front ≡ place) (rises : Rises entries) where
  -- The reply is the line of a number exactly where the first that commits as it stands here.
  line-is : (number : ℕ) → is_line_of entries number entry ≡ option_map_or (λ first. first == place) (first_of (commits_as number) entries) false
  line-is number = by (first_of (commits_as number) entries) refl
    where
      by : (first : Option ℕ) → first_of (commits_as number) entries ≡ first → is_line_of entries number entry ≡ option_map_or (λ f. f == place) first false
      by None is = ap (λ (o : Option Entry). option_map_or (λ line. is_reply line entry) o false) (first-none (commits_as number) 0 entries is)
      by (Some f) is =
          let first = first-some (commits_as number) 0 entries f is in
          let far : length first.front ≡ f = (let g = first.far in omega (arith, g)) in
          ap (λ (o : Option Entry). option_map_or (λ line. is_reply line entry) o false) first.found
          ∙ reply-at entries first.front first.entry first.rest front entry rest first.whole whole rises
          ∙ ap (λ (n : ℕ). eqb n (length front)) far ∙ ap (eqb f) at

-- A number of a range passes a test exactly where it lies in the range and passes it.
any-range : (test : ℕ → Bool) (number first n : ℕ) → list_any (λ x. (x == number) && test x) (range_with_len first n) ≡ ((nat_le first number && nat_lt number (first + n)) && test number)
any-range test number first zero =
    let none : (nat_le first number && nat_lt number (first + 0)) ≡ false = grind (arith, nat_tests) in
    sym (ap (λ (b : Bool). b && test number) none)
any-range test number first (suc n) = ap (λ (b : Bool). ((first == number) && test first) || b) (any-range test number (first + 1) n) ∙ by (eqb first number) refl
  where
    by : (b : Bool) → eqb first number ≡ b → ((b && test first) || ((nat_le (first + 1) number && nat_lt number ((first + 1) + n)) && test number)) ≡ ((nat_le first number && nat_lt number (first + suc n)) && test number)
    by true is =
        let same : first ≡ number = eqb-true first number is in
        let past : (nat_le (first + 1) number && nat_lt number ((first + 1) + n)) ≡ false = grind (arith, nat_tests, same) in
        let there : (nat_le first number && nat_lt number (first + suc n)) ≡ true = grind (arith, nat_tests, same) in
        ap (λ (b : Bool). test first || (b && test number)) past ∙ or-false (test first) ∙ ap test same ∙ sym (ap (λ (b : Bool). b && test number) there)
    by false is =
        let same : (nat_le (first + 1) number && nat_lt number ((first + 1) + n)) ≡ (nat_le first number && nat_lt number (first + suc n)) = grind (arith, nat_tests, is) in
        ap (λ (b : Bool). b && test number) same

-- a number is kept for a place exactly where its commit wrote it
pub number-in : (entries : List Entry) (of : Target) (number : ℕ)
    → is_number_in (numbers_at entries of) number ≡ ((nat_le 1 number && nat_le number (commit_count entries)) && wrote of (committed_writes entries (transactions_of entries) number))
number-in entries of number =
    let test = λ (n : ℕ). nat_lt 0 n && wrote of (write_set_at (history_in entries) n) in
    let count = commit_count entries in
    let its = committed_writes entries (transactions_of entries) in
    any-filter (λ its. its == number) test (range_with_len 1 (length (history_in entries)))
    ∙ ap (λ (n : ℕ). list_any (λ x. (x == number) && test x) (range_with_len 1 n)) (length-map-range_with_len its 1 count)
    ∙ any-range test number 1 count
    ∙ ap (λ (b : Bool). (nat_le 1 number && b) && test number) (grind (arith, nat_tests))
    ∙ under (nat_le 1 number && nat_le number count) (test number) (wrote of (its number)) (λ within. told number (and_parts (nat_le 1 number) (nat_le number count) within))
  where
    told : (n : ℕ) → (nat_le 1 n ≡ true) × (nat_le n (commit_count entries) ≡ true)
        → (nat_lt 0 n && wrote of (write_set_at (history_in entries) n)) ≡ wrote of (committed_writes entries (transactions_of entries) n)
    told zero within = absurd (let l = within.0 in grind (arith, nat_tests, l))
    told (suc n) within =
        let next : suc n ≡ n + 1 = omega arith in
        let above : nat_lt 0 (suc n) ≡ true = grind (arith, nat_tests) in
        let inside : n < commit_count entries = (let h = within.1 in grind (arith, nat_tests, h)) in
        ap (λ (b : Bool). b && wrote of (write_set_at (history_in entries) (suc n))) above
        ∙ ap (λ (m : ℕ). wrote of (write_set_at (history_in entries) m)) next
        ∙ ap (wrote of) (history-at entries n inside)
        ∙ ap (λ (m : ℕ). wrote of (committed_writes entries (transactions_of entries) m)) (sym next)

-- The number that is told of a place is that of which the reply is the line, if the commit wrote
-- the place.
pub value-is : (entries front : List Entry) (entry : Entry) (rest : List Entry) (place : ℕ) → entries ≡ front ++ entry ∷ rest → length front ≡ place → Rises entries → (of : Target)
    → value_at entries of entry
    ≡ option_map_or (λ number. if wrote of (committed_writes entries (transactions_of entries) number) then number else 0) (line_told entries (commit_count entries) place entry) 0
value-is entries front entry rest place whole at rises of = by (commit_in entry.reply.said)
  where
    one : (number : ℕ) (a l w : Bool) → wrote of (committed_writes entries (transactions_of entries) number) ≡ w
        → (if a && (l && w) then number else 0)
        ≡ option_map_or (λ number. if wrote of (committed_writes entries (transactions_of entries) number) then number else 0) (if l && a then Some number else None) 0
    one number true true w is = ap (λ (b : Bool). if b then number else 0) (sym is)
    one number true false w is = refl
    one number false true w is = refl
    one number false false w is = refl

    by : (shown : Option ℕ) → option_map_or (λ number. if is_line_of entries number entry && is_number_in (numbers_at entries of) number then number else 0) shown 0
        ≡ option_map_or (λ number. if wrote of (committed_writes entries (transactions_of entries) number) then number else 0)
        (option_and_then (λ number. if is_line_at entries (commit_count entries) place number then Some number else None) shown) 0
    by None = refl
    by (Some number) =
        ap (λ (b : Bool). if b && is_number_in (numbers_at entries of) number then number else 0) (line-is entries front entry rest place whole at rises number)
        ∙ ap (λ (b : Bool). if option_map_or (λ first. first == place) (first_of (commits_as number) entries) false && b then number else 0) (number-in entries of number)
        ∙ one number (option_map_or (λ first. first == place) (first_of (commits_as number) entries) false) (nat_le 1 number && nat_le number (commit_count entries))
        (wrote of (committed_writes entries (transactions_of entries) number)) refl

-- the mark of a number that is told is that of its value
pub line-marks : (w : Bool) (number value place start : ℕ) (old : List Peak) → 1 ≤ number → value ≡ (if w then number else 0)
    → with_mark w (next_peak old place start number) old ≡ with_mark (nat_lt 0 value) (next_peak old place start value) old
line-marks true number value place start old low is =
    let test : nat_lt 0 value ≡ true = grind (arith, nat_tests, low, is) in
    ap (λ (n : ℕ). old ++ next_peak old place start n ∷ []) (sym is) ∙ sym (ap (λ (b : Bool). with_mark b (next_peak old place start value) old) test)
line-marks false number value place start old low is =
    let test : nat_lt 0 value ≡ false = grind (arith, nat_tests, is) in
    sym (ap (λ (b : Bool). with_mark b (next_peak old place start value) old) test)

-- a value of 0 makes no mark
pub no-marks : (value place start : ℕ) (old : List Peak) → value ≡ 0 → old ≡ with_mark (nat_lt 0 value) (next_peak old place start value) old
no-marks value place start old is =
    let test : nat_lt 0 value ≡ false = grind (arith, nat_tests, is) in
    sym (ap (λ (b : Bool). with_mark b (next_peak old place start value) old) test)

-- where the reply at a place is the line of a number
pub record IsLineAt (entries : List Entry) (place number : ℕ) : Type 0 where
  pub first : first_of (commits_as number) entries ≡ Some place
  pub low : 1 ≤ number

-- A place that is tested to be the first one is the first.
same-first : (first : Option ℕ) (place : ℕ) → option_map_or (λ its. its == place) first false ≡ true → first ≡ Some place
same-first None place h = absurd (let never : ⊥ = cc in never)
same-first (Some first) place h = ap (λ (n : ℕ). Some n) (eqb-true first place h)

-- where a number is told, the reply is its line
pub line-first : (entries : List Entry) (count place number : ℕ) (entry : Entry) → line_told entries count place entry ≡ Some number → IsLineAt entries place number
line-first entries count place number entry = by (commit_in entry.reply.said)
  where
    one : (shown : ℕ) (b : Bool) → is_line_at entries count place shown ≡ b → (if b then Some shown else None) ≡ Some number → IsLineAt entries place number
    one shown true is h =
        let same : shown ≡ number = ap (λ (o : Option ℕ). unwrap_or o shown) h in
        let parts = and_parts (nat_le 1 shown && nat_le shown count) (option_map_or (λ its. its == place) (first_of (commits_as shown) entries) false) is in
        let within = and_parts (nat_le 1 shown) (nat_le shown count) parts.0 in
        let low : nat_le 1 shown ≡ true = within.0 in
        subst (IsLineAt entries place) same (record { first = same-first (first_of (commits_as shown) entries) place parts.1; low = grind (arith, nat_tests, low) })
    one shown false is h = absurd (let never : ⊥ = cc in never)

    by : (shown : Option ℕ) → option_and_then (λ number. if is_line_at entries count place number then Some number else None) shown ≡ Some number → IsLineAt entries place number
    by None h = absurd (let never : ⊥ = cc in never)
    by (Some shown) h = one shown (is_line_at entries count place shown) refl h
