-- All transactions of an explained output, of which each that wrote is checked, are one run of the
-- machine: each number is shown by a commit, and what stands behind another begins where it ends.
use Rattle.std.proofs.Common.{◌≡◌, ◌⊎◌, inl, inr, ℕ, zero, suc, ◌+◌, ◌-◌, ◌<◌, ◌≤◌, Bool, true, false, cond, ◌&&◌, ◌||◌, ◌==◌, eqb, nat_lt, nat_le, List, [], ◌∷◌, ◌++◌, take, length, count_by, Option, None, Some, is_some, is_none, refl, sym, ap, subst, ◌∙◌, arith}
use Rattle.std.specs.Prelude.{find, flat_map, option_and_then}
use Rattle.std.specs.List.{cons_option, filter, filter_map, list_all, list_any, range_with_len}
use Rattle.std.specs.Option.{option_map_or}
use Rattle.std.proofs.lemmas.Bool.{and_parts, eqb-true}
use Rattle.std.proofs.lemmas.Bool.Decides.{nat_tests}
use Rattle.isolation_spec.specs.Contents.{History}
use Rattle.isolation_spec.specs.Machine as machine
use Rattle.isolation_spec.specs.Order.{InOrder}
use Rattle.std.specs.Prelude.{All}
use Rattle.std.proofs.Math.Seq.{take-append_seam}
use Rattle.workload_spec.specs.declared.reply.Said.{Said}
use Rattle.workload_spec.specs.declared.reply.Who.{Who}
use Rattle.workload_spec.specs.declared.script.Script.{Script}
use Rattle.outcome_spec.specs.Entries.{Entry, before, commit_in, is_end, is_reply, is_same, shown_in, thread}
use Rattle.outcome_spec.specs.Explained.{Explained, run_in}
use Rattle.outcome_spec.specs.Numbers.{commit_holds, has_written, is_commit_number}
use Rattle.outcome_spec.specs.Runs.{Span, accepted_write, commit_count, commit_line, commits_as, ending_of, transaction_of, up_to_end}
use Rattle.outcome_spec.specs.Stale.{is_checked}
use Rattle.order_laws.proofs.Pieces.{count-cons}
use Rattle.order_laws.proofs.Places.{Behind, Beside, Own, ahead-cases, earlier-itself, same-is}
use Rattle.order_laws.specs.Places.{Rises, is_ahead, is_earlier}
use Rattle.serial_laws.specs.Serial.{Among}
use Rattle.serial_laws.specs.Alone.{Runs, alone, alone_steps, commit_number, reader_steps, serial_steps, writer_steps}
use Rattle.serial_laws.proofs.Members.{all-among, printed}
use Rattle.serial_laws.proofs.Whole.{its, rises}
use Rattle.serial_laws.proofs.Steps.{runs-append, take-all}
use Rattle.serial_laws.proofs.Alone.{commit-shown, many, reads-alone, sound, three, writes-alone}

-- True is not the same as false.
true_false : true ≡ false → ⊥
true_false e = cc

-- ---- two replies that are one

-- A reply that stands ahead of another is of another place.
not-ahead : (x y : Entry) → is_ahead x y ≡ true → x.reply.round ≡ y.reply.round → x.reply.who ≡ y.reply.who → x.reply.index ≡ y.reply.index → ⊥
not-ahead x y ahead round who index = by (ahead-cases x y ahead)
  where
    by : Behind x y ⊎ (Beside x y ⊎ Own x y) → ⊥
    by (inl b) = omega (arith, b.later, round)
    by (inr (inl b)) = true_false (sym (subst (λ (w : Who). is_earlier x.reply.who w ≡ true) (sym who) b.who) ∙ earlier-itself x.reply.who)
    by (inr (inr o)) = omega (arith, o.index, index)

-- Of replies that rise, two that are one reply are one.
same-reply : (xs : List Entry) (a b : Entry) → Rises xs → Among a xs → Among b xs → is_reply a b ≡ true → a ≡ b
same-reply [] a b order in' of is = absurd in'
same-reply (x ∷ xs) a b order in' of is = by in' of (λ p q. same-reply xs a b order.1 p q is)
  where
    outer : ((eqb a.reply.round b.reply.round && is_same a.reply.who b.reply.who) ≡ true) × (eqb a.reply.index b.reply.index ≡ true)
    outer = and_parts (eqb a.reply.round b.reply.round && is_same a.reply.who b.reply.who) (eqb a.reply.index b.reply.index) is

    inner : (eqb a.reply.round b.reply.round ≡ true) × (is_same a.reply.who b.reply.who ≡ true)
    inner = and_parts (eqb a.reply.round b.reply.round) (is_same a.reply.who b.reply.who) outer.0

    round : a.reply.round ≡ b.reply.round
    round = eqb-true a.reply.round b.reply.round inner.0

    who : a.reply.who ≡ b.reply.who
    who = same-is a.reply.who b.reply.who inner.1

    index : a.reply.index ≡ b.reply.index
    index = eqb-true a.reply.index b.reply.index outer.1

    by : (a ≡ x) ⊎ Among a xs → (b ≡ x) ⊎ Among b xs → (Among a xs → Among b xs → a ≡ b) → a ≡ b
    by (inl p) (inl q) further = p ∙ sym q
    by (inl p) (inr q) further = absurd (not-ahead a b (ap (λ (e : Entry). is_ahead e b) p ∙ all-among (is_ahead x) b xs q order.0) round who index)
    by (inr p) (inl q) further = absurd (not-ahead b a (ap (λ (e : Entry). is_ahead e a) q ∙ all-among (is_ahead x) a xs p order.0) (sym round) (sym who) (sym index))
    by (inr p) (inr q) further = further p q

-- Where some reply is one with this, it is among them.
one-of : (entry : Entry) (xs : List Entry) → list_any (is_reply entry) xs ≡ true → (x : Entry) × Among x xs × (is_reply entry x ≡ true)
one-of entry [] h = absurd (true_false (sym h))
one-of entry (x ∷ xs) h = by (is_reply entry x) refl h (one-of entry xs)
  where
    by : (b : Bool) → is_reply entry x ≡ b → (b || list_any (is_reply entry) xs) ≡ true → (list_any (is_reply entry) xs ≡ true → (y : Entry) × Among y xs × (is_reply entry y ≡ true))
        → (y : Entry) × Among y (x ∷ xs) × (is_reply entry y ≡ true)
    by true is k further = (x, inl refl, is)
    by false is k further = let found = further k in (found.0, inr found.1, found.2)

-- What is found among transactions is one of them, and passes.
found-span : (p : Span → Bool) (xs : List Span) (t : Span) → find p xs ≡ Some t → Among t xs × (p t ≡ true)
found-span p [] t h = absurd (let never : ⊥ = cc in never)
found-span p (x ∷ xs) t h = by (p x) refl h (found-span p xs t)
  where
    by : (b : Bool) → p x ≡ b → cond b (Some x) (find p xs) ≡ Some t → (find p xs ≡ Some t → Among t xs × (p t ≡ true)) → Among t (x ∷ xs) × (p t ≡ true)
    by true is k further = let same : x ≡ t = cc in (inl (sym same), subst (λ (u : Span). p u ≡ true) same is)
    by false is k further = let found = further k in (inr found.0, found.1)

-- The only end among replies up to the first end is the one that is found.
end-found : (e : Entry) (xs : List Entry) → Among e (up_to_end xs) → is_end e.reply.said ≡ true → find (λ (x : Entry). is_end x.reply.said) (up_to_end xs) ≡ Some e
end-found e [] in' ends = absurd in'
end-found e (x ∷ xs) in' ends = by (is_end x.reply.said) refl in' (λ rest. end-found e xs rest ends)
  where
    by : (b : Bool) → is_end x.reply.said ≡ b → Among e (cond b (x ∷ []) (x ∷ up_to_end xs)) → (Among e (up_to_end xs) → find (λ (y : Entry). is_end y.reply.said) (up_to_end xs) ≡ Some e)
        → find (λ (y : Entry). is_end y.reply.said) (cond b (x ∷ []) (x ∷ up_to_end xs)) ≡ Some e
    by true is (inl same) further = rw is (ap (λ y. Some y) (sym same))
    by true is (inr never) further = absurd never
    by false is (inl same) further = absurd (true_false (sym ends ∙ ap (λ (y : Entry). is_end y.reply.said) same ∙ is))
    by false is (inr rest) further = rw is (further rest)

-- ---- each number is shown

-- what an entry commits
abbrev shown_by : Entry → Option ℕ
shown_by e = commit_in e.reply.said

-- it commits as a number up to this one
abbrev is_low : ℕ → Entry → Bool
is_low m e = option_map_or (λ (k : ℕ). nat_le k m) (shown_by e) false

-- Commits up to one number more are those up to it and those as that.
count-step : (m : ℕ) (xs : List Entry) → count_by (is_low (m + 1)) xs ≡ count_by (is_low m) xs + count_by (commits_as (m + 1)) xs
count-step m [] = refl
count-step m (x ∷ xs) =
    let a = count-cons (is_low (m + 1)) x xs in
    let b = count-cons (is_low m) x xs in
    let c = count-cons (commits_as (m + 1)) x xs in
    let rest = count-step m xs in
    let here = by (shown_by x) in
    omega (arith, a, b, c, rest, here)
  where
    by : (o : Option ℕ) → cond (option_map_or (λ (k : ℕ). nat_le k (m + 1)) o false) 1 0 ≡ cond (option_map_or (λ (k : ℕ). nat_le k m) o false) 1 0 + cond (option_map_or (λ (k : ℕ). k == m + 1) o false) 1 0
    by None = refl
    by (Some k) = at (k == m + 1) refl
      where
        at : (b : Bool) → (k == m + 1) ≡ b → cond (nat_le k (m + 1)) 1 0 ≡ cond (nat_le k m) 1 0 + cond (k == m + 1) 1 0
        at true is =
            let high : nat_le k (m + 1) ≡ true = grind (arith, nat_tests, is) in
            let low : nat_le k m ≡ false = grind (arith, nat_tests, is) in
            rw (high, low, is) refl
        at false is = less (nat_le k m) refl
          where
            less : (c : Bool) → nat_le k m ≡ c → cond (nat_le k (m + 1)) 1 0 ≡ cond (nat_le k m) 1 0 + cond (k == m + 1) 1 0
            less true low = let high : nat_le k (m + 1) ≡ true = grind (arith, nat_tests, low) in rw (high, low, is) refl
            less false low = let high : nat_le k (m + 1) ≡ false = grind (arith, nat_tests, low, is) in rw (high, low, is) refl

-- Where all commits are up to a number, so many are.
count-all : (m : ℕ) (xs : List Entry) → ((e : Entry) (k : ℕ) → Among e xs → shown_by e ≡ Some k → k ≤ m) → count_by (is_low m) xs ≡ length (shown_in commit_in xs)
count-all m [] h = refl
count-all m (x ∷ xs) h =
    let a = count-cons (is_low m) x xs in
    let rest = count-all m xs (λ e k in' is. h e k (inr in') is) in
    let here = by (shown_by x) refl in
    omega (arith, a, rest, here)
  where
    by : (o : Option ℕ) → shown_by x ≡ o → cond (option_map_or (λ (k : ℕ). nat_le k m) (shown_by x) false) 1 0 + length (filter_map shown_by xs) ≡ length (cons_option (shown_by x) (filter_map shown_by xs))
    by None is = rw is (omega arith)
    by (Some k) is =
        let le = h x k (inl refl) is in
        let low : nat_le k m ≡ true = grind (arith, nat_tests, le) in
        rw (is, low) (omega arith)

-- Where all commits are above a number, none is up to it.
count-none : (m : ℕ) (xs : List Entry) → ((e : Entry) (k : ℕ) → Among e xs → shown_by e ≡ Some k → m < k) → count_by (is_low m) xs ≡ 0
count-none m [] h = refl
count-none m (x ∷ xs) h =
    let a = count-cons (is_low m) x xs in
    let rest = count-none m xs (λ e k in' is. h e k (inr in') is) in
    let here = by (shown_by x) refl in
    omega (arith, a, rest, here)
  where
    by : (o : Option ℕ) → shown_by x ≡ o → cond {A = ℕ} (option_map_or (λ (k : ℕ). nat_le k m) (shown_by x) false) 1 0 ≡ 0
    by None is = rw is refl
    by (Some k) is =
        let le = h x k (inl refl) is in
        let low : nat_le k m ≡ false = grind (arith, nat_tests, le) in
        rw (is, low) refl

-- With so many numbers more no more commits are counted.
count-up : (xs : List Entry) → ((k : ℕ) → count_by (commits_as k) xs ≤ 1) → (m d : ℕ) → count_by (is_low (m + d)) xs ≤ count_by (is_low m) xs + d
count-up xs once m zero = let e = ap (λ (n : ℕ). count_by (is_low n) xs) (let z : m + 0 ≡ m = omega arith in z) in omega (arith, e)
count-up xs once m (suc d) =
    let e = ap (λ (n : ℕ). count_by (is_low n) xs) (let z : m + suc d ≡ m + d + 1 = omega arith in z) in
    let step = count-step (m + d) xs in
    let one = once (m + d + 1) in
    let rest = count-up xs once m d in
    omega (arith, e, step, one, rest)

-- Where one passes, one is found.
first-counted : (p : Entry → Bool) (xs : List Entry) → 1 ≤ count_by p xs → (e : Entry) × Among e xs × (p e ≡ true) × (find p xs ≡ Some e)
first-counted p [] h = absurd (let never : ⊥ = omega (arith, h) in never)
first-counted p (x ∷ xs) h = by (p x) refl (first-counted p xs)
  where
    by : (b : Bool) → p x ≡ b → (1 ≤ count_by p xs → (e : Entry) × Among e xs × (p e ≡ true) × (find p xs ≡ Some e)) → (e : Entry) × Among e (x ∷ xs) × (p e ≡ true) × (find p (x ∷ xs) ≡ Some e)
    by true is further = (x, inl refl, is, ap (λ (c : Bool). cond c (Some x) (find p xs)) is)
    by false is further =
        let whole : count_by p (x ∷ xs) ≡ 0 + count_by p xs = count-cons p x xs ∙ ap (λ (b : Bool). cond b 1 0 + count_by p xs) is in
        let found = further (omega (arith, whole, h)) in
        (found.0, inr found.1, found.2, ap (λ (c : Bool). cond c (Some x) (find p xs)) is ∙ found.3)

-- A reply that commits as a number shows it.
shows : (o : Option ℕ) (k : ℕ) → option_map_or (λ (shown : ℕ). shown == k) o false ≡ true → o ≡ Some k
shows (Some n) k h = ap (λ (m : ℕ). Some m) (eqb-true n k h)
shows None k h = absurd (true_false (sym h))

module _ (script : Script) (text : List ℕ) (ordered : All InOrder script.begun) (explained : Explained script text)
    (checked : (t : Span) (number : ℕ) → Among t (run_in script text).transactions → commit_number t ≡ Some number → is_checked t ≡ true) where
  -- What a reply that shows a number says of it.
  numbered : (e : Entry) (k : ℕ) → Among e (run_in script text).entries → shown_by e ≡ Some k → (has_written (run_in script text) e ≡ true) × (is_commit_number (run_in script text) e k ≡ true)
  numbered e k in' is =
      and_parts (has_written (run_in script text) e) (is_commit_number (run_in script text) e k)
      (subst (λ (told : Said). commit_holds (run_in script text) e told ≡ true) (commit-shown e.reply.said k is) (sound script text explained e in').0)

  -- It is one of the numbers, on one line alone.
  facts : (e : Entry) (k : ℕ) → Among e (run_in script text).entries → shown_by e ≡ Some k → (length script.begun < k) × (k ≤ length script.begun + commit_count (run_in script text).entries) × (count_by (commits_as k) (run_in script text).entries ≡ 1)
  facts e k in' is =
      let all = three (nat_lt (length script.begun) k) (nat_le k (length (run_in script text).history)) (count_by (commits_as k) (run_in script text).entries == 1)
      (list_all (λ earlier. nat_lt earlier k) (shown_in commit_in (before (run_in script text).entries e))) (numbered e k in' is).1 in
      let a = all.0 in
      let b = all.1 in
      let c = all.2 in
      let long = many script text explained in
      (grind (arith, nat_tests, a), grind (arith, nat_tests, b, long), grind (arith, nat_tests, c))

  -- No number is shown twice.
  once : (k : ℕ) → count_by (commits_as k) (run_in script text).entries ≤ 1
  once k = by (count_by (commits_as k) (run_in script text).entries) refl
    where
      by : (n : ℕ) → count_by (commits_as k) (run_in script text).entries ≡ n → count_by (commits_as k) (run_in script text).entries ≤ 1
      by zero is = omega (arith, is)
      by (suc n) is =
          let found = first-counted (commits_as k) (run_in script text).entries (omega (arith, is)) in
          let one = (facts found.0 k found.1 (shows (shown_by found.0) k found.2)).2 in
          omega (arith, one)

  -- Each number is shown.
  each-shown : (k : ℕ) → length script.begun < k → k ≤ length script.begun + commit_count (run_in script text).entries → 1 ≤ count_by (commits_as k) (run_in script text).entries
  each-shown k low high = by (count_by (commits_as k) (run_in script text).entries) refl
    where
      by : (n : ℕ) → count_by (commits_as k) (run_in script text).entries ≡ n → 1 ≤ count_by (commits_as k) (run_in script text).entries
      by (suc n) is = omega (arith, is)
      by zero is =
          let least = length script.begun in
          let c = commit_count (run_in script text).entries in
          let xs = (run_in script text).entries in
          let all : count_by (is_low (least + c)) xs ≡ c = count-all (least + c) xs (λ e m in' shown. (facts e m in' shown).1) in
          let none = count-none least xs (λ e m in' shown. (facts e m in' shown).0) in
          let front = count-up xs once least (k - 1 - least) in
          let at : count_by (is_low k) xs ≡ count_by (is_low (k - 1)) xs + count_by (commits_as k) xs =
          subst (λ (n : ℕ). count_by (is_low n) xs ≡ count_by (is_low (k - 1)) xs + count_by (commits_as n) xs) (let e : k - 1 + 1 ≡ k = omega (arith, low) in e) (count-step (k - 1) xs) in
          let first = ap (λ (n : ℕ). count_by (is_low n) xs) (let e : least + (k - 1 - least) ≡ k - 1 = omega (arith, low) in e) in
          let back = count-up xs once k (least + c - k) in
          let last = ap (λ (n : ℕ). count_by (is_low n) xs) (let e : k + (least + c - k) ≡ least + c = omega (arith, high) in e) in
          absurd (omega (arith, all, none, front, at, first, back, last, is, low, high))

  -- ---- the writers

  -- The transaction that a commit belongs to ends with it.
  ending-is : (e : Entry) (t : Span) → Among e (run_in script text).entries → is_end e.reply.said ≡ true → transaction_of (run_in script text) e ≡ Some t → (among : Among t (run_in script text).transactions) × (ending_of t ≡ Some e)
  ending-is e t in' ends belongs =
      let found = found-span (λ (u : Span). list_any (is_reply e) u.replies) (run_in script text).transactions t belongs in
      let o = its script text explained t found.0 in
      let other = one-of e t.replies found.1 in
      let same = same-reply (run_in script text).entries e other.0 (rises script text explained t found.0) in' (printed (run_in script text).entries t o other.0 other.1) other.2 in
      let has : Among e t.replies = subst (λ (x : Entry). Among x t.replies) (sym same) other.1 in
      let last = end-found e (o.opening ∷ thread o.opening.reply.who o.behind) (subst (λ (u : Span). Among e u.replies) o.span has) ends in
      (found.0, subst (λ (u : Span). find (λ (x : Entry). is_end x.reply.said) u.replies ≡ Some e) (sym o.span) last)

  -- A reply that wrote belongs to a transaction.
  has-its : (e : Entry) → has_written (run_in script text) e ≡ true → (t : Span) × (transaction_of (run_in script text) e ≡ Some t)
  has-its e h = by (transaction_of (run_in script text) e) refl h
    where
      by : (o : Option Span) → transaction_of (run_in script text) e ≡ o → option_map_or (λ (u : Span). list_any (λ (other : Entry). is_some (accepted_write other)) u.replies) o false ≡ true → (t : Span) × (transaction_of (run_in script text) e ≡ Some t)
      by (Some t) is k = (t, is)
      by None is k = absurd (true_false (sym k))

  -- The transaction of a number is a run from the commit before.
  writer : (k : ℕ) → length script.begun < k → k ≤ length script.begun + commit_count (run_in script text).entries → Runs (alone (run_in script text).history (k - 1)) (writer_steps (run_in script text) k) (alone (run_in script text).history k)
  writer k low high =
      let found = first-counted (commits_as k) (run_in script text).entries (each-shown k low high) in
      let e = found.0 in
      let shown = shows (shown_by e) k found.2 in
      let told = commit-shown e.reply.said k shown in
      let t = has-its e (numbered e k found.1 shown).0 in
      let ends = ending-is e t.0 found.1 (ap is_end told) t.1 in
      let number : commit_number t.0 ≡ Some k = ap (option_and_then (λ (x : Entry). commit_in x.reply.said)) ends.1 ∙ shown in
      let steps : option_and_then (transaction_of (run_in script text)) (commit_line (run_in script text).entries k) ≡ Some t.0 = ap (option_and_then (transaction_of (run_in script text))) found.3 ∙ t.1 in
      subst (λ (o : Option Span). Runs (alone (run_in script text).history (k - 1)) (option_map_or (λ (u : Span). alone_steps u (k - 1)) o []) (alone (run_in script text).history k)) (sym steps)
      (writes-alone script text explained t.0 ends.0 k e ends.1 told ordered (checked t.0 k ends.0 number))

  -- ---- the readers

  -- What left nothing is none.
  is-none : (o : Option ℕ) → is_none o ≡ true → o ≡ None
  is-none None h = refl
  is-none (Some n) h = absurd (true_false (sym h))

  -- The transactions that left nothing and saw so many commits are a run behind them.
  readers-of : (n : ℕ) (ts : List Span) → ((t : Span) → Among t ts → Among t (run_in script text).transactions)
      → Runs (alone (run_in script text).history n) (flat_map (λ t. alone_steps t n) (filter (λ t. is_none (commit_number t) && t.snapshot == n) ts)) (alone (run_in script text).history n)
  readers-of n [] all = refl
  readers-of n (t ∷ ts) all = by (is_none (commit_number t) && t.snapshot == n) refl (readers-of n ts (λ u in'. all u (inr in')))
    where
      here : (is_none (commit_number t) && t.snapshot == n) ≡ true → Runs (alone (run_in script text).history n) (alone_steps t n) (alone (run_in script text).history n)
      here is =
          let both = and_parts (is_none (commit_number t)) (t.snapshot == n) is in
          let at : t.snapshot ≡ n = eqb-true t.snapshot n both.1 in
          subst (λ (m : ℕ). Runs (alone (run_in script text).history m) (alone_steps t m) (alone (run_in script text).history m)) at
          (reads-alone script text explained t (all t (inl refl)) (is-none (commit_number t) both.0))

      by : (b : Bool) → (is_none (commit_number t) && t.snapshot == n) ≡ b
          → Runs (alone (run_in script text).history n) (flat_map (λ t. alone_steps t n) (filter (λ t. is_none (commit_number t) && t.snapshot == n) ts)) (alone (run_in script text).history n)
          → Runs (alone (run_in script text).history n) (flat_map (λ t. alone_steps t n) (cond b (t ∷ filter (λ t. is_none (commit_number t) && t.snapshot == n) ts) (filter (λ t. is_none (commit_number t) && t.snapshot == n) ts))) (alone (run_in script text).history n)
      by true is rest = runs-append (alone (run_in script text).history n) (alone_steps t n) (flat_map (λ t. alone_steps t n) (filter (λ t. is_none (commit_number t) && t.snapshot == n) ts)) (alone (run_in script text).history n) (alone (run_in script text).history n) (here is) rest
      by false is rest = rest

  -- So are all of these.
  readers : (n : ℕ) → Runs (alone (run_in script text).history n) (reader_steps (run_in script text) n) (alone (run_in script text).history n)
  readers n = readers-of n (run_in script text).transactions (λ t in'. in')

  -- ---- all

  -- The transactions from a number on are a run from the commit before.
  onward : (at len : ℕ) → length script.begun < at → at + len ≡ length script.begun + commit_count (run_in script text).entries + 1
      → Runs (alone (run_in script text).history (at - 1)) (flat_map (λ number. writer_steps (run_in script text) number ++ reader_steps (run_in script text) number) (range_with_len at len))
      (alone (run_in script text).history (length script.begun + commit_count (run_in script text).entries))
  onward at zero low is = ap (alone (run_in script text).history) (omega (arith, is))
  onward at (suc len) low is =
      let rest = onward (at + 1) len (omega (arith, low)) (omega (arith, is)) in
      let next : Runs (alone (run_in script text).history at) (flat_map (λ number. writer_steps (run_in script text) number ++ reader_steps (run_in script text) number) (range_with_len (at + 1) len)) (alone (run_in script text).history (length script.begun + commit_count (run_in script text).entries)) =
      subst (λ (n : ℕ). Runs (alone (run_in script text).history n) (flat_map (λ number. writer_steps (run_in script text) number ++ reader_steps (run_in script text) number) (range_with_len (at + 1) len)) (alone (run_in script text).history (length script.begun + commit_count (run_in script text).entries)))
      (let e : at + 1 - 1 ≡ at = omega arith in e) rest in
      runs-append (alone (run_in script text).history (at - 1)) (writer_steps (run_in script text) at ++ reader_steps (run_in script text) at)
      (flat_map (λ number. writer_steps (run_in script text) number ++ reader_steps (run_in script text) number) (range_with_len (at + 1) len))
      (alone (run_in script text).history at) (alone (run_in script text).history (length script.begun + commit_count (run_in script text).entries))
      (runs-append (alone (run_in script text).history (at - 1)) (writer_steps (run_in script text) at) (reader_steps (run_in script text) at) (alone (run_in script text).history at) (alone (run_in script text).history at)
      (writer at low (omega (arith, is))) (readers at))
      next

  -- all of them are one run, from the commits that the store began with to all
  pub one-run : Runs (machine.opening_from script.begun) (serial_steps (run_in script text)) (record { history = (run_in script text).history; open_transactions = [] })
  one-run =
      let h = (run_in script text).history in
      let least = length script.begun in
      let c = commit_count (run_in script text).entries in
      let length-is = many script text explained in
      let all = onward (least + 1) (length h - least) (omega arith) (omega (arith, length-is)) in
      let taken : take (least + c) h ≡ h = ap (λ (n : ℕ). take n h) (sym length-is) ∙ take-all h in
      let begun : alone h least ≡ machine.opening_from script.begun = ap machine.opening_from (take-append_seam script.begun _) in
      let next = subst (λ (n : ℕ). Runs (alone h n) (flat_map (λ number. writer_steps (run_in script text) number ++ reader_steps (run_in script text) number) (range_with_len (least + 1) (length h - least))) (alone h (least + c)))
      (let e : least + 1 - 1 ≡ least = omega arith in e) all in
      subst (λ (from : machine.IsolationMachine). Runs from (serial_steps (run_in script text)) (record { history = h; open_transactions = [] })) begun
      (subst (λ (end : History). Runs (alone h least) (serial_steps (run_in script text)) (record { history = end; open_transactions = [] })) taken
      (runs-append (alone h least) (reader_steps (run_in script text) least)
      (flat_map (λ number. writer_steps (run_in script text) number ++ reader_steps (run_in script text) number) (range_with_len (least + 1) (length h - least)))
      (alone h least) (alone h (least + c)) (readers least) next))
