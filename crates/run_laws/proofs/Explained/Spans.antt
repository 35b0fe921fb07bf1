-- The accepted writes of spans that are open, and of those that committed, by one line more.
use Rattle.std.proofs.Common.{◌≡◌, ◌⊎◌, ℕ, ◌+◌, ◌≤◌, Bool, true, false, cond, ◌||◌, List, [], ◌∷◌, ◌++◌, length, Option, None, Some, is_some, sum_by, refl, sym, ap, ◌∙◌, arith}
use mathlib.Core.Logic.{inl, inr}
use Rattle.std.specs.Prelude.{find, fold, option_map, sum}
use Rattle.std.specs.List.{cons_option, filter_map, list_any}
use Rattle.std.specs.Option.{option_map_or}
use Rattle.std.proofs.lemmas.List.Elements.{filter-append, filter_map-append}
use Rattle.std.proofs.lemmas.List.Sums.{sum_by-cons}
use Rattle.std.proofs.Common.{length-append}
use Rattle.outcome_spec.specs.Entries.{Entry, is_commit, is_end, is_same, shown_in, snapshot_in, thread}
use Rattle.outcome_spec.specs.Runs.{accepted_write, span_from, transactions_of, up_to_end, writes_committed, writes_committed_in}
use Rattle.workload_spec.specs.declared.reply.Said.{Said}
use Rattle.workload_spec.specs.declared.reply.Who.{Who}
use Rattle.timeline_laws.proofs.Order.{same-itself}

-- What is true is not false.
true_false : true ≡ false → ⊥
true_false e = cc

-- ---- one span

-- one of the replies ends a transaction
abbrev pub ends_in : List Entry → Bool
ends_in replies = list_any (λ (entry : Entry). is_end entry.reply.said) replies

-- the accepted writes of a span that ends with a commit
abbrev done_in : List Entry → ℕ
done_in replies =
    cond (option_map_or (λ (ending : Entry). is_commit ending.reply.said) (find (λ (entry : Entry). is_end entry.reply.said) (up_to_end replies)) false)
    (length (filter_map accepted_write (up_to_end replies))) 0

-- those of one that has no end, and 1 for it
abbrev pub open_in : List Entry → ℕ
open_in replies = cond (ends_in replies) 0 (length (filter_map accepted_write replies))

-- 1 where none of them ends it
abbrev pub is_open_in : List Entry → ℕ
is_open_in replies = cond (ends_in replies) 0 1

-- behind the end nothing counts
after_end : (xs : List Entry) (entry : Entry) → ends_in xs ≡ true → (up_to_end (xs ++ entry ∷ []) ≡ up_to_end xs) × (ends_in (xs ++ entry ∷ []) ≡ true)
after_end [] entry e = absurd (true_false (sym e))
after_end (x ∷ xs) entry e = go (is_end x.reply.said) e (after_end xs entry)
  where
    go : (b : Bool) → (b || ends_in xs) ≡ true → (ends_in xs ≡ true → (up_to_end (xs ++ entry ∷ []) ≡ up_to_end xs) × (ends_in (xs ++ entry ∷ []) ≡ true))
        → (cond b (x ∷ []) (x ∷ up_to_end (xs ++ entry ∷ [])) ≡ cond b (x ∷ []) (x ∷ up_to_end xs)) × ((b || ends_in (xs ++ entry ∷ [])) ≡ true)
    go true e rest = (refl, refl)
    go false e rest = let h = rest e in (ap (λ ys. x ∷ ys) h.0, h.1)

record Goes (xs : List Entry) (entry : Entry) : Type 0 where
  whole : up_to_end xs ≡ xs
  longer : up_to_end (xs ++ entry ∷ []) ≡ xs ++ entry ∷ []
  none : find (λ (entry : Entry). is_end entry.reply.said) xs ≡ None
  found : find (λ (entry : Entry). is_end entry.reply.said) (xs ++ entry ∷ []) ≡ cond (is_end entry.reply.said) (Some entry) None
  ends : ends_in (xs ++ entry ∷ []) ≡ is_end entry.reply.said

-- Replies of which none is an end go on with one more, which may be one.
goes : (xs : List Entry) (entry : Entry) → ends_in xs ≡ false → Goes xs entry
goes [] entry e = first (is_end entry.reply.said) refl
  where
    first : (b : Bool) → is_end entry.reply.said ≡ b → Goes [] entry
    first true is = record {
      whole = refl;
      longer = ap (λ b. cond b (entry ∷ []) (entry ∷ [])) is;
      none = refl;
      found = refl;
      ends = ap (λ b. b || false) is ∙ sym is;
    }
    first false is = record {
      whole = refl;
      longer = ap (λ b. cond b (entry ∷ []) (entry ∷ [])) is;
      none = refl;
      found = refl;
      ends = ap (λ b. b || false) is ∙ sym is;
    }
goes (x ∷ xs) entry e = go (is_end x.reply.said) refl e (goes xs entry)
  where
    go : (b : Bool) → is_end x.reply.said ≡ b → (is_end x.reply.said || ends_in xs) ≡ false → (ends_in xs ≡ false → Goes xs entry) → Goes (x ∷ xs) entry
    go true is e rest = absurd (true_false (sym (ap (λ b. b || ends_in xs) is) ∙ e))
    go false is e rest =
        let h = rest (sym (ap (λ b. b || ends_in xs) is) ∙ e) in record {
          whole = ap (λ b. cond b (x ∷ []) (x ∷ up_to_end xs)) is ∙ ap (λ ys. x ∷ ys) h.whole;
          longer = ap (λ b. cond b (x ∷ []) (x ∷ up_to_end (xs ++ entry ∷ []))) is ∙ ap (λ ys. x ∷ ys) h.longer;
          none = ap (λ b. cond b (Some x) (find (λ (entry : Entry). is_end entry.reply.said) xs)) is ∙ h.none;
          found = ap (λ b. cond b (Some x) (find (λ (entry : Entry). is_end entry.reply.said) (xs ++ entry ∷ []))) is ∙ h.found;
          ends = ap (λ b. b || ends_in (xs ++ entry ∷ [])) is ∙ h.ends;
        }

-- One reply more adds its accepted write, if it has one.
accepts_more : (xs : List Entry) (entry : Entry) → length (filter_map accepted_write (xs ++ entry ∷ [])) ≡ length (filter_map accepted_write xs) + length (filter_map accepted_write (entry ∷ []))
accepts_more xs entry = ap length (filter_map-append accepted_write xs (entry ∷ [])) ∙ length-append (filter_map accepted_write xs) (filter_map accepted_write (entry ∷ []))

-- The accepted writes of replies whose end is a commit, and none of others.
abbrev by : List Entry → ℕ
by ys = cond (option_map_or (λ (ending : Entry). is_commit ending.reply.said) (find (λ (entry : Entry). is_end entry.reply.said) ys) false) (length (filter_map accepted_write ys)) 0

-- a span's committed writes never fall, and with its commit its open ones are committed
done_more : (xs : List Entry) (entry : Entry) → done_in xs + cond (is_commit entry.reply.said) (open_in xs) 0 ≤ done_in (xs ++ entry ∷ [])
done_more xs entry = go (ends_in xs) refl
  where
    zero_if : (b : Bool) → cond {A = ℕ} b 0 0 ≡ 0
    zero_if true = refl
    zero_if false = refl

    commit_ends : (line : Said) → is_commit line ≡ true → is_end line ≡ true
    commit_ends (Rattle.workload_spec.specs.declared.reply.Said.TheVariants.Committed n) e = refl
    commit_ends _ e = absurd (true_false (sym e))

    going : (b : Bool) → is_commit entry.reply.said ≡ b → Goes xs entry → ends_in xs ≡ false → done_in xs + cond (is_commit entry.reply.said) (open_in xs) 0 ≤ done_in (xs ++ entry ∷ [])
    going b is h e =
        let now : done_in xs ≡ 0 = ap by h.whole ∙ ap (λ o. cond {A = ℕ} (option_map_or (λ (ending : Entry). is_commit ending.reply.said) o false) (length (filter_map accepted_write xs)) 0) h.none in
        last b is now
      where
        last : (b : Bool) → is_commit entry.reply.said ≡ b → done_in xs ≡ 0 → done_in xs + cond (is_commit entry.reply.said) (open_in xs) 0 ≤ done_in (xs ++ entry ∷ [])
        last false is now = let z : cond {A = ℕ} (is_commit entry.reply.said) (open_in xs) 0 ≡ 0 = ap (λ b. cond {A = ℕ} b (open_in xs) 0) is in omega (arith, now, z)
        last true is now =
            let some : find (λ (entry : Entry). is_end entry.reply.said) (xs ++ entry ∷ []) ≡ Some entry = h.found ∙ ap (λ b. cond b (Some entry) None) (commit_ends entry.reply.said is) in
            let then : done_in (xs ++ entry ∷ []) ≡ length (filter_map accepted_write (xs ++ entry ∷ [])) =
            ap by h.longer ∙ ap (λ o. cond {A = ℕ} (option_map_or (λ (ending : Entry). is_commit ending.reply.said) o false) (length (filter_map accepted_write (xs ++ entry ∷ []))) 0) some
            ∙ ap (λ b. cond {A = ℕ} b (length (filter_map accepted_write (xs ++ entry ∷ []))) 0) is in
            let z : cond {A = ℕ} (is_commit entry.reply.said) (open_in xs) 0 ≡ length (filter_map accepted_write xs) = ap (λ b. cond {A = ℕ} b (open_in xs) 0) is ∙ ap (λ b. cond {A = ℕ} b 0 (length (filter_map accepted_write xs))) e in
            let more = accepts_more xs entry in
            omega (arith, now, then, z, more)

    go : (b : Bool) → ends_in xs ≡ b → done_in xs + cond (is_commit entry.reply.said) (open_in xs) 0 ≤ done_in (xs ++ entry ∷ [])
    go true e =
        let same : done_in (xs ++ entry ∷ []) ≡ done_in xs = ap by (after_end xs entry e).0 in
        let z : cond {A = ℕ} (is_commit entry.reply.said) (open_in xs) 0 ≡ 0 = ap (λ b. cond {A = ℕ} (is_commit entry.reply.said) (cond {A = ℕ} b 0 (length (filter_map accepted_write xs))) 0) e ∙ zero_if (is_commit entry.reply.said) in
        omega (arith, same, z)
    go false e = going (is_commit entry.reply.said) refl (goes xs entry e) e

-- a reply that is no end leaves a span open, with one accepted write more where it accepts one
open_more : (xs : List Entry) (entry : Entry) → is_end entry.reply.said ≡ false
    → (open_in xs + cond (is_some (accepted_write entry)) (is_open_in xs) 0 ≤ open_in (xs ++ entry ∷ [])) × (is_open_in xs ≤ is_open_in (xs ++ entry ∷ []))
open_more xs entry none = go (ends_in xs) refl
  where
    one : (o : Option (Rattle.isolation_spec.specs.declared.place.Place.Place × Option (List Rattle.cell_model.specs.declared.cell.Cell.Cell))) → cond {A = ℕ} (is_some o) 1 0 ≤ length (cons_option o [])
    one None = omega arith
    one (Some x) = omega arith

    zero_if : (b : Bool) → cond {A = ℕ} b 0 0 ≡ 0
    zero_if true = refl
    zero_if false = refl

    go : (b : Bool) → ends_in xs ≡ b
        → (open_in xs + cond (is_some (accepted_write entry)) (is_open_in xs) 0 ≤ open_in (xs ++ entry ∷ [])) × (is_open_in xs ≤ is_open_in (xs ++ entry ∷ []))
    go true e =
        let a : open_in xs ≡ 0 = ap (λ b. cond {A = ℕ} b 0 (length (filter_map accepted_write xs))) e in
        let n : is_open_in xs ≡ 0 = ap (λ b. cond {A = ℕ} b 0 1) e in
        let z : cond {A = ℕ} (is_some (accepted_write entry)) (is_open_in xs) 0 ≡ 0 = ap (λ n. cond {A = ℕ} (is_some (accepted_write entry)) n 0) n ∙ zero_if (is_some (accepted_write entry)) in
        (omega (arith, a, z), omega (arith, n))
    go false e =
        let h = goes xs entry e in
        let then : ends_in (xs ++ entry ∷ []) ≡ false = h.ends ∙ none in
        let a : open_in xs ≡ length (filter_map accepted_write xs) = ap (λ b. cond {A = ℕ} b 0 (length (filter_map accepted_write xs))) e in
        let c : open_in (xs ++ entry ∷ []) ≡ length (filter_map accepted_write (xs ++ entry ∷ [])) = ap (λ b. cond {A = ℕ} b 0 (length (filter_map accepted_write (xs ++ entry ∷ [])))) then in
        let n : is_open_in xs ≡ 1 = ap (λ b. cond {A = ℕ} b 0 1) e in
        let m : is_open_in (xs ++ entry ∷ []) ≡ 1 = ap (λ b. cond {A = ℕ} b 0 1) then in
        let k : cond {A = ℕ} (is_some (accepted_write entry)) (is_open_in xs) 0 ≡ cond {A = ℕ} (is_some (accepted_write entry)) 1 0 = ap (λ n. cond {A = ℕ} (is_some (accepted_write entry)) n 0) n in
        let o = one (accepted_write entry) in
        let more = accepts_more xs entry in
        (omega (arith, a, c, k, o, more), omega (arith, n, m))

-- ---- all spans

-- what is counted of the span that the line opens, 0 where it opens none
abbrev pub of_span : (Who → List Entry → ℕ) → Entry → List Entry → ℕ
of_span f x xs = option_map_or (λ (n : ℕ). f x.reply.who (x ∷ thread x.reply.who xs)) (snapshot_in x.reply.said) 0

-- the sum of it over all spans
pub over_spans : (Who → List Entry → ℕ) → List Entry → ℕ
over_spans f [] = 0
over_spans f (x ∷ xs) = of_span f x xs + over_spans f xs

-- The writes that were committed are the sum of those of all spans.
committed_sum : (lines : List Entry) → writes_committed_in lines ≡ over_spans (λ who replies. done_in replies) lines
unfolding over_spans
committed_sum [] = refl
committed_sum (x ∷ xs) = go (snapshot_in x.reply.said) (committed_sum xs)
  where
    go : (o : Option ℕ) → writes_committed_in xs ≡ over_spans (λ who replies. done_in replies) xs
        → sum_by writes_committed (cons_option (option_map (span_from x xs) o) (transactions_of xs))
        ≡ option_map_or (λ (n : ℕ). done_in (x ∷ thread x.reply.who xs)) o 0 + over_spans (λ who replies. done_in replies) xs
    go None rest = omega (arith, rest)
    go (Some n) rest = sum_by-cons writes_committed (span_from x xs n) (transactions_of xs) ∙ ap (λ k. done_in (x ∷ thread x.reply.who xs) + k) rest

-- Two counts summed together over all spans are the sums of both.
over_plus : (f g : Who → List Entry → ℕ) (lines : List Entry) → over_spans (λ who replies. f who replies + g who replies) lines ≡ over_spans f lines + over_spans g lines
unfolding over_spans
over_plus f g [] = refl
over_plus f g (x ∷ xs) = go (snapshot_in x.reply.said) (over_plus f g xs)
  where
    go : (o : Option ℕ) → over_spans (λ who replies. f who replies + g who replies) xs ≡ over_spans f xs + over_spans g xs
        → option_map_or (λ (n : ℕ). f x.reply.who (x ∷ thread x.reply.who xs) + g x.reply.who (x ∷ thread x.reply.who xs)) o 0 + over_spans (λ who replies. f who replies + g who replies) xs
        ≡ (option_map_or (λ (n : ℕ). f x.reply.who (x ∷ thread x.reply.who xs)) o 0 + over_spans f xs) + (option_map_or (λ (n : ℕ). g x.reply.who (x ∷ thread x.reply.who xs)) o 0 + over_spans g xs)
    go None rest = omega (arith, rest)
    go (Some n) rest = omega (arith, rest)

-- What bounds each span's count by one reply more bounds the sum over all spans.
over_grows : (f g : Who → List Entry → ℕ) (entry : Entry)
    → ((who : Who) (replies : List Entry) → g who replies ≤ f who (replies ++ cond (is_same entry.reply.who who) (entry ∷ []) []))
    → (lines : List Entry) → over_spans g lines + of_span f entry [] ≤ over_spans f (lines ++ entry ∷ [])
unfolding over_spans
over_grows f g entry each [] = omega arith
over_grows f g entry each (x ∷ xs) = go (snapshot_in x.reply.said) (over_grows f g entry each xs)
  where
    rest_of : thread x.reply.who (xs ++ entry ∷ []) ≡ thread x.reply.who xs ++ cond (is_same entry.reply.who x.reply.who) (entry ∷ []) []
    rest_of = filter-append (λ (entry : Entry). is_same entry.reply.who x.reply.who) xs (entry ∷ [])

    go : (o : Option ℕ) → over_spans g xs + of_span f entry [] ≤ over_spans f (xs ++ entry ∷ [])
        → (option_map_or (λ (n : ℕ). g x.reply.who (x ∷ thread x.reply.who xs)) o 0 + over_spans g xs) + of_span f entry []
        ≤ option_map_or (λ (n : ℕ). f x.reply.who (x ∷ thread x.reply.who (xs ++ entry ∷ []))) o 0 + over_spans f (xs ++ entry ∷ [])
    go None rest = omega (arith, rest)
    go (Some n) rest =
        let here = each x.reply.who (x ∷ thread x.reply.who xs) in
        let same = ap (λ ys. f x.reply.who (x ∷ ys)) rest_of in
        omega (arith, rest, here, same)

-- the accepted writes of one's open spans, and their count
abbrev pub open_of : Who → Who → List Entry → ℕ
open_of q who replies = cond (is_same q who) (open_in replies) 0

-- 1 for a span of one's own that is open
abbrev pub is_open_of : Who → Who → List Entry → ℕ
is_open_of q who replies = cond (is_same q who) (is_open_in replies) 0

-- the accepted writes of all open spans of one's
abbrev pub open_writes : Who → List Entry → ℕ
open_writes q lines = over_spans (open_of q) lines

-- how many spans one has open
abbrev pub open_spans : Who → List Entry → ℕ
open_spans q lines = over_spans (is_open_of q) lines

-- A list with nothing behind it is itself.
none_behind : (xs : List Entry) → xs ++ [] ≡ xs
none_behind [] = refl
none_behind (x ∷ xs) = ap (λ ys. x ∷ ys) (none_behind xs)

-- a line more takes no committed write away
pub committed_rises : (lines : List Entry) (entry : Entry) → writes_committed_in lines ≤ writes_committed_in (lines ++ entry ∷ [])
committed_rises lines entry =
    let a = committed_sum lines in let c = committed_sum (lines ++ entry ∷ []) in
    let h = over_grows (λ who replies. done_in replies) (λ who replies. done_in replies) entry each lines in
    omega (arith, a, c, h)
  where
    each : (who : Who) (replies : List Entry) → done_in replies ≤ done_in (replies ++ cond (is_same entry.reply.who who) (entry ∷ []) [])
    each who replies = go (is_same entry.reply.who who)
      where
        go : (b : Bool) → done_in replies ≤ done_in (replies ++ cond b (entry ∷ []) [])
        go true = let h = done_more replies entry in omega (arith, h)
        go false = let same = ap (λ ys. done_in ys) (none_behind replies) in omega (arith, same)

-- with one's commit, one's open writes are committed
pub commit_rises : (lines : List Entry) (entry : Entry) (q : Who) → entry.reply.who ≡ q → is_commit entry.reply.said ≡ true
    → writes_committed_in lines + open_writes q lines ≤ writes_committed_in (lines ++ entry ∷ [])
commit_rises lines entry q whose commits =
    let a = committed_sum lines in let c = committed_sum (lines ++ entry ∷ []) in
    let p = over_plus (λ who replies. done_in replies) (open_of q) lines in
    let h = over_grows (λ who replies. done_in replies) (λ who replies. done_in replies + open_of q who replies) entry each lines in
    omega (arith, a, c, p, h)
  where
    each : (who : Who) (replies : List Entry) → done_in replies + open_of q who replies ≤ done_in (replies ++ cond (is_same entry.reply.who who) (entry ∷ []) [])
    each who replies = go (is_same q who) (ap (λ w. is_same w who) whose)
      where
        go : (b : Bool) → is_same entry.reply.who who ≡ b → done_in replies + cond b (open_in replies) 0 ≤ done_in (replies ++ cond (is_same entry.reply.who who) (entry ∷ []) [])
        go true is =
            let h = done_more replies entry in
            let z : cond {A = ℕ} (is_commit entry.reply.said) (open_in replies) 0 ≡ open_in replies = ap (λ b. cond {A = ℕ} b (open_in replies) 0) commits in
            let same = ap (λ b. done_in (replies ++ cond b (entry ∷ []) [])) is in
            omega (arith, h, z, same)
        go false is =
            let same = ap (λ b. done_in (replies ++ cond b (entry ∷ []) [])) is ∙ ap (λ ys. done_in ys) (none_behind replies) in
            omega (arith, same)

-- a line that is no end of one's, or another's, leaves one's open spans
pub record StaysOpen (lines : List Entry) (entry : Entry) (q : Who) : Type 0 where
  pub writes : open_writes q lines ≤ open_writes q (lines ++ entry ∷ [])
  pub spans : open_spans q lines ≤ open_spans q (lines ++ entry ∷ [])

-- a line that ends none of one's spans leaves them open
pub stays_open : (lines : List Entry) (entry : Entry) (q : Who) → (is_end entry.reply.said ≡ false) ⊎ ((who : Who) → is_same q who ≡ true → is_same entry.reply.who who ≡ false) → StaysOpen lines entry q
stays_open lines entry q why = record {
  writes = let h = over_grows (open_of q) (open_of q) entry (λ who replies. (each who replies).0) lines in omega (arith, h);
  spans = let h = over_grows (is_open_of q) (is_open_of q) entry (λ who replies. (each who replies).1) lines in omega (arith, h);
}
  where
    each : (who : Who) (replies : List Entry)
        → (open_of q who replies ≤ open_of q who (replies ++ cond (is_same entry.reply.who who) (entry ∷ []) []))
        × (is_open_of q who replies ≤ is_open_of q who (replies ++ cond (is_same entry.reply.who who) (entry ∷ []) []))
    each who replies = go (is_same q who) refl (is_same entry.reply.who who) refl why
      where
        go : (a : Bool) → is_same q who ≡ a → (b : Bool) → is_same entry.reply.who who ≡ b
            → (is_end entry.reply.said ≡ false) ⊎ ((who : Who) → is_same q who ≡ true → is_same entry.reply.who who ≡ false)
            → (cond a (open_in replies) 0 ≤ cond a (open_in (replies ++ cond b (entry ∷ []) [])) 0)
            × (cond a (is_open_in replies) 0 ≤ cond a (is_open_in (replies ++ cond b (entry ∷ []) [])) 0)
        go false e b f w = (omega arith, omega arith)
        go true e false f w =
            let x = ap (λ ys. open_in ys) (none_behind replies) in let y = ap (λ ys. is_open_in ys) (none_behind replies) in (omega (arith, x), omega (arith, y))
        go true e true f (inl no_end) = let h = open_more replies entry no_end in let x = h.0 in (omega (arith, x), h.1)
        go true e true f (inr other) = absurd (true_false (sym f ∙ other who e))

-- an accepted write is one more
pub accepted_rises : (lines : List Entry) (entry : Entry) (q : Who) → entry.reply.who ≡ q → is_end entry.reply.said ≡ false → is_some (accepted_write entry) ≡ true
    → open_writes q lines + open_spans q lines ≤ open_writes q (lines ++ entry ∷ [])
accepted_rises lines entry q whose no_end accepts =
    let p = over_plus (open_of q) (is_open_of q) lines in
    let h = over_grows (open_of q) (λ who replies. open_of q who replies + is_open_of q who replies) entry each lines in
    omega (arith, p, h)
  where
    each : (who : Who) (replies : List Entry) → open_of q who replies + is_open_of q who replies ≤ open_of q who (replies ++ cond (is_same entry.reply.who who) (entry ∷ []) [])
    each who replies = go (is_same q who) (ap (λ w. is_same w who) whose)
      where
        go : (b : Bool) → is_same entry.reply.who who ≡ b → cond b (open_in replies) 0 + cond b (is_open_in replies) 0 ≤ cond b (open_in (replies ++ cond (is_same entry.reply.who who) (entry ∷ []) [])) 0
        go true is =
            let h = (open_more replies entry no_end).0 in
            let z : cond {A = ℕ} (is_some (accepted_write entry)) (is_open_in replies) 0 ≡ is_open_in replies = ap (λ b. cond {A = ℕ} b (is_open_in replies) 0) accepts in
            let same = ap (λ b. open_in (replies ++ cond b (entry ∷ []) [])) is in
            omega (arith, h, z, same)
        go false is = omega arith

-- a transaction's first line opens a span
pub begin_opens : (lines : List Entry) (entry : Entry) (q : Who) (n : ℕ) → entry.reply.who ≡ q → entry.reply.said ≡ Rattle.workload_spec.specs.declared.reply.Said.TheVariants.At n
    → 1 ≤ open_spans q (lines ++ entry ∷ [])
begin_opens lines entry q n whose at =
    let h = over_grows (is_open_of q) (λ who replies. 0) entry (λ who replies. omega arith) lines in
    let here : of_span (is_open_of q) entry [] ≡ 1 =
    ap (λ s. option_map_or (λ (n : ℕ). cond {A = ℕ} (is_same q entry.reply.who) (cond {A = ℕ} (is_end entry.reply.said || false) 0 1) 0) (snapshot_in s) 0) at
    ∙ ap (λ s. cond {A = ℕ} (is_same q entry.reply.who) (cond {A = ℕ} (is_end s || false) 0 1) 0) at
    ∙ ap (λ w. cond {A = ℕ} (is_same q w) 1 0) whose ∙ ap (λ b. cond {A = ℕ} b 1 0) (same-itself q) in
    omega (arith, h, here)

-- ---- lines that show a count

-- a line adds its count to the sum of those shown
pub sum_more : (f : Said → Option ℕ) (lines : List Entry) (entry : Entry) → sum (shown_in f (lines ++ entry ∷ [])) ≡ sum (shown_in f lines) + option_map_or (λ n. n) (f entry.reply.said) 0
sum_more f lines entry =
    ap sum (filter_map-append (λ (entry : Entry). f entry.reply.said) lines (entry ∷ []))
    ∙ Rattle.std.proofs.lemmas.List.Sums.fold-append (λ a x. a + x) 0 (filter_map (λ (entry : Entry). f entry.reply.said) lines) (filter_map (λ (entry : Entry). f entry.reply.said) (entry ∷ []))
    ∙ last (f entry.reply.said)
  where
    last : (o : Option ℕ) → fold (λ a x. a + x) (sum (shown_in f lines)) (cons_option o []) ≡ sum (shown_in f lines) + option_map_or (λ n. n) o 0
    last None = omega arith
    last (Some n) = refl
