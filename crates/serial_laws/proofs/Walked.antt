-- A transaction's replies one after another are a run of the machine in which no other is open.
use Rattle.std.proofs.Common.{◌≡◌, ◌⊎◌, inl, inr, ℕ, Bool, true, false, cond, ◌||◌, eqb, nat_lt, List, [], ◌∷◌, ◌++◌, take, length, fold, Option, None, Some, is_some, option_map, refl, sym, ap, subst, ◌∙◌, arith, append_assoc, append-nil}
use Rattle.std.specs.BTreeMap.{insert_entry}
use Rattle.std.specs.List.{cons_option, filter, filter_map, list_all, list_any}
use Rattle.std.specs.Option.{option_map_or}
use Rattle.std.specs.Ordering.{match_ordering}
use Rattle.std.specs.declared.cmp.Ordering.{Ordering}
use Rattle.std.specs.declared.cmp.Ordering.TheVariants.{Less, Equal, Greater}
use Rattle.std.proofs.lemmas.Bool.{and_parts, and_from, eq-eqb}
use Rattle.std.proofs.lemmas.Bool.Decides.{nat_tests}
use Rattle.std.proofs.lemmas.List.Elements.{filter-append, filter_map-append}
use Rattle.std.proofs.lemmas.List.Sums.{fold-append}
use Rattle.cell_model.specs.declared.cell.Cell.{Cell}
use Rattle.isolation_spec.specs.Contents.{place_cmp, State, WriteSet, laid_over, state_at}
use Rattle.isolation_spec.specs.Machine.{IsolationMachine}
use Rattle.isolation_spec.specs.declared.command.Act.TheVariants as act
use Rattle.isolation_spec.specs.declared.command.Answer.TheVariants as answer
use Rattle.isolation_spec.specs.declared.place.Place.{Place}
use Rattle.workload_spec.specs.declared.reply.Who.{Who}
use Rattle.outcome_spec.specs.Answers.{read_holds, is_acceptable}
use Rattle.outcome_spec.specs.Entries.{Entry, before, is_before, is_end, is_same, thread}
use Rattle.outcome_spec.specs.Runs.{Run, Span, accepted_write, up_to_end, writes_in}
use Rattle.outcome_spec.specs.Stale.{is_checked}
use Rattle.order_laws.proofs.Order.{same-itself}
use Rattle.order_laws.proofs.Places.{Behind, Beside, Own, ahead-cases, earlier-itself}
use Rattle.order_laws.specs.Places.{Rises, is_ahead, is_earlier}
use Rattle.serial_laws.specs.Serial.{Among, seen_from, IsServed}
use Rattle.serial_laws.specs.Alone.{Step, Runs, alone, served_steps, step_alone, step_of}
use Rattle.serial_laws.proofs.Members.{Opening, among-behind, crossed}
use Rattle.serial_laws.proofs.Whole.{before-own, rises-rest}
use Rattle.serial_laws.proofs.Steps.{amid, seen, one-step, own_behind, begins}

-- True is not the same as false.
true_false : true ≡ false → ⊥
true_false e = cc

-- ---- the replies before one

-- What all pass, all that are chosen pass.
all-filter : {X : Type 0} (p q : X → Bool) (xs : List X) → list_all q xs ≡ true → list_all q (filter p xs) ≡ true
all-filter p q [] h = refl
all-filter p q (x ∷ xs) h = by (p x) (all-filter p q xs (and_parts (q x) (list_all q xs) h).1)
  where
    by : (b : Bool) → list_all q (filter p xs) ≡ true → list_all q (cond b (x ∷ filter p xs) (filter p xs)) ≡ true
    by true rest = and_from (q x) (list_all q (filter p xs)) (and_parts (q x) (list_all q xs) h).0 rest
    by false rest = rest

-- What rises does so where some are chosen.
rises-filter : (p : Entry → Bool) (xs : List Entry) → Rises xs → Rises (filter p xs)
rises-filter p [] h = tt
rises-filter p (x ∷ xs) h = by (p x) (rises-filter p xs h.1)
  where
    by : (b : Bool) → Rises (filter p xs) → Rises (cond b (x ∷ filter p xs) (filter p xs))
    by true rest = (all-filter p (is_ahead x) xs h.0, rest)
    by false rest = rest

-- What all pass, all up to the first end pass.
all-up : (q : Entry → Bool) (xs : List Entry) → list_all q xs ≡ true → list_all q (up_to_end xs) ≡ true
all-up q [] h = refl
all-up q (x ∷ xs) h = by (is_end x.reply.said) (all-up q xs (and_parts (q x) (list_all q xs) h).1)
  where
    by : (b : Bool) → list_all q (up_to_end xs) ≡ true → list_all q (cond b (x ∷ []) (x ∷ up_to_end xs)) ≡ true
    by true rest = and_from (q x) true (and_parts (q x) (list_all q xs) h).0 refl
    by false rest = and_from (q x) (list_all q (up_to_end xs)) (and_parts (q x) (list_all q xs) h).0 rest

-- What rises does so up to the first end.
rises-up : (xs : List Entry) → Rises xs → Rises (up_to_end xs)
rises-up [] h = tt
rises-up (x ∷ xs) h = by (is_end x.reply.said) (rises-up xs h.1)
  where
    by : (b : Bool) → Rises (up_to_end xs) → Rises (cond b (x ∷ []) (x ∷ up_to_end xs))
    by true rest = (refl, tt)
    by false rest = (all-up (is_ahead x) xs h.0, rest)

-- The replies of a transaction rise.
pub rises-own : (entries : List Entry) (t : Span) (o : Opening entries t) → Rises entries → Rises t.replies
rises-own entries t o rises =
    let behind = rises-rest o.ahead (o.opening ∷ o.behind) (subst Rises o.whole rises) in
    let own : Rises (o.opening ∷ thread o.opening.reply.who o.behind) =
    (all-filter (λ (e : Entry). is_same e.reply.who o.opening.reply.who) (is_ahead o.opening) o.behind behind.0, rises-filter (λ (e : Entry). is_same e.reply.who o.opening.reply.who) o.behind behind.1) in
    subst (λ (u : Span). Rises u.replies) (sym o.span) (rises-up (o.opening ∷ thread o.opening.reply.who o.behind) own)

-- Where each passes a test, all are chosen.
filter-all : (p : Entry → Bool) (xs : List Entry) → ((x : Entry) → Among x xs → p x ≡ true) → filter p xs ≡ xs
filter-all p [] h = refl
filter-all p (x ∷ xs) h = rw (h x (inl refl)) (ap (λ ys. x ∷ ys) (filter-all p xs (λ y in'. h y (inr in'))))

-- Where none passes, none is chosen.
filter-none : (p : Entry → Bool) (xs : List Entry) → ((x : Entry) → Among x xs → p x ≡ false) → filter p xs ≡ []
filter-none p [] h = refl
filter-none p (x ∷ xs) h = rw (h x (inl refl)) (filter-none p xs (λ y in'. h y (inr in')))

-- What is among the first of two lists is among both put together.
among-front : (x : Entry) (xs ys : List Entry) → Among x xs → Among x (xs ++ ys)
among-front x [] ys in' = absurd in'
among-front x (y ∷ xs) ys (inl is) = inl is
among-front x (y ∷ xs) ys (inr rest) = inr (among-front x xs ys rest)

-- No reply is before itself.
not-itself : (e : Entry) → is_before e e ≡ false
not-itself e =
    let round : nat_lt e.reply.round e.reply.round ≡ false = grind (arith, nat_tests) in
    let equal : eqb e.reply.round e.reply.round ≡ true = eq-eqb e.reply.round e.reply.round refl in
    let index : nat_lt e.reply.index e.reply.index ≡ false = grind (arith, nat_tests) in
    rw (round, equal, same-itself e.reply.who, index) refl

-- Of one session what stands behind is not before.
not-behind : (x y : Entry) → is_ahead x y ≡ true → y.reply.who ≡ x.reply.who → is_before y x ≡ false
not-behind x y ahead who = go (ahead-cases x y ahead)
  where
    same : is_same y.reply.who x.reply.who ≡ true
    same = subst (λ (w : Who). is_same w x.reply.who ≡ true) (sym who) (same-itself x.reply.who)

    go : Behind x y ⊎ (Beside x y ⊎ Own x y) → is_before y x ≡ false
    go (inl b) =
        let less : nat_lt y.reply.round x.reply.round ≡ false = grind (arith, nat_tests, b.later) in
        let equal : eqb y.reply.round x.reply.round ≡ false = grind (arith, nat_tests, b.later) in
        rw (less, equal) refl
    go (inr (inl b)) = absurd (true_false (sym (subst (λ (w : Who). is_earlier x.reply.who w ≡ true) who b.who) ∙ earlier-itself x.reply.who))
    go (inr (inr o)) =
        let less : nat_lt y.reply.round x.reply.round ≡ false = grind (arith, nat_tests, o.round) in
        let equal : eqb y.reply.round x.reply.round ≡ true = grind (arith, nat_tests, o.round) in
        let index : nat_lt y.reply.index x.reply.index ≡ false = grind (arith, nat_tests, o.index) in
        rw (less, equal, same, index) refl

-- Of replies to one that rise, those before one are those in front of it.
before-front : (who : Who) (front : List Entry) (e : Entry) (rest : List Entry) → Rises (front ++ e ∷ rest) → ((x : Entry) → Among x (front ++ e ∷ rest) → x.reply.who ≡ who)
    → before (front ++ e ∷ rest) e ≡ front
before-front who front e rest rises own =
    let its : e.reply.who ≡ who = own e (among-behind e front (e ∷ rest) (inl refl)) in
    let order = rises-rest front (e ∷ rest) rises in
    filter-append (λ (x : Entry). is_before x e) front (e ∷ rest)
    ∙ ap (λ (xs : List Entry). xs ++ filter (λ (x : Entry). is_before x e) (e ∷ rest))
    (filter-all (λ (x : Entry). is_before x e) front (λ x in'. before-own x e (crossed x e front (e ∷ rest) rises in' (inl refl)) (its ∙ sym (own x (among-front x front (e ∷ rest) in')))))
    ∙ ap (λ (xs : List Entry). front ++ xs) (filter-none (λ (x : Entry). is_before x e) (e ∷ rest) (λ x in'. by order x in' its))
    ∙ append-nil front
  where
    ahead-of : (x : Entry) (xs : List Entry) → list_all (is_ahead e) xs ≡ true → Among x xs → is_ahead e x ≡ true
    ahead-of x [] all in' = absurd in'
    ahead-of x (y ∷ ys) all (inl is) = ap (is_ahead e) is ∙ (and_parts (is_ahead e y) (list_all (is_ahead e) ys) all).0
    ahead-of x (y ∷ ys) all (inr more) = ahead-of x ys (and_parts (is_ahead e y) (list_all (is_ahead e) ys) all).1 more

    by : (list_all (is_ahead e) rest ≡ true) × Rises rest → (x : Entry) → Among x (e ∷ rest) → e.reply.who ≡ who → is_before x e ≡ false
    by order x (inl is) its = ap (λ (y : Entry). is_before y e) is ∙ not-itself e
    by order x (inr more) its = not-behind e x (ahead-of x rest order.0 more) (own x (among-behind x front (e ∷ rest) (inr more)) ∙ sym its)

-- ---- what the replies wrote

-- One write more.
abbrev entered : WriteSet → Place × Option (List Cell) → WriteSet
entered writes w = insert_entry place_cmp writes w.0 w.1

-- With one reply more, what was written is that with its write.
writes-more : (front : List Entry) (e : Entry) → writes_in (front ++ e ∷ []) ≡ option_map_or (λ (w : Place × Option (List Cell)). insert_entry place_cmp (writes_in front) w.0 w.1) (accepted_write e) (writes_in front)
writes-more front e = ap (fold entered []) (filter_map-append accepted_write front (e ∷ [])) ∙ by (accepted_write e)
  where
    by : (o : Option (Place × Option (List Cell))) → fold entered [] (filter_map accepted_write front ++ cons_option o []) ≡ option_map_or (λ (w : Place × Option (List Cell)). insert_entry place_cmp (writes_in front) w.0 w.1) o (writes_in front)
    by (Some w) = fold-append entered [] (filter_map accepted_write front) (w ∷ [])
    by None = ap (fold entered []) (append-nil (filter_map accepted_write front))

-- Where no reply was an accepted write, nothing was written.
pub none-written : (replies : List Entry) → list_any (λ (other : Entry). is_some (accepted_write other)) replies ≡ false → writes_in replies ≡ []
none-written replies h = ap (fold entered []) (none replies h)
  where
    none : (xs : List Entry) → list_any (λ (other : Entry). is_some (accepted_write other)) xs ≡ false → filter_map accepted_write xs ≡ []
    none [] k = refl
    none (x ∷ xs) k = by (accepted_write x) k (none xs)
      where
        by : (o : Option (Place × Option (List Cell))) → (is_some o || list_any (λ (other : Entry). is_some (accepted_write other)) xs) ≡ false
            → (list_any (λ (other : Entry). is_some (accepted_write other)) xs ≡ false → filter_map accepted_write xs ≡ []) → cons_option o (filter_map accepted_write xs) ≡ []
        by (Some w) k rest = absurd (true_false k)
        by None k rest = rest k

-- the write set is not empty
abbrev pub HasSome : WriteSet → Type 0
HasSome writes = (w : Place × Option (List Cell)) × (ws : WriteSet) × (writes ≡ w ∷ ws)

-- A write set with one write more is not empty.
insert-some : (writes : WriteSet) (w : Place × Option (List Cell)) → HasSome (entered writes w)
insert-some [] w = ((w.0, w.1), [], refl)
insert-some (e ∷ es) w = by (place_cmp w.0 e.0)
  where
    by : (o : Ordering) → HasSome (match_ordering o ((w.0, w.1) ∷ e ∷ es) ((e.0, w.1) ∷ es) (e ∷ insert_entry place_cmp es w.0 w.1))
    by Less = ((w.0, w.1), e ∷ es, refl)
    by Equal = ((e.0, w.1), es, refl)
    by Greater = (e, insert_entry place_cmp es w.0 w.1, refl)

-- Nor is it with more of them.
fold-some : (writes : WriteSet) (ws : List (Place × Option (List Cell))) → HasSome writes → HasSome (fold entered writes ws)
fold-some writes [] h = h
fold-some writes (w ∷ ws) h = fold-some (entered writes w) ws (insert-some writes w)

-- Where a reply was an accepted write, something was written.
pub some-written : (replies : List Entry) → list_any (λ (other : Entry). is_some (accepted_write other)) replies ≡ true → HasSome (writes_in replies)
some-written replies h = from (some replies h)
  where
    some : (xs : List Entry) → list_any (λ (other : Entry). is_some (accepted_write other)) xs ≡ true → HasSome (filter_map accepted_write xs)
    some [] k = absurd (true_false (sym k))
    some (x ∷ xs) k = by (accepted_write x) k (some xs)
      where
        by : (o : Option (Place × Option (List Cell))) → (is_some o || list_any (λ (other : Entry). is_some (accepted_write other)) xs) ≡ true
            → (list_any (λ (other : Entry). is_some (accepted_write other)) xs ≡ true → HasSome (filter_map accepted_write xs)) → HasSome (cons_option o (filter_map accepted_write xs))
        by (Some w) k rest = (w, filter_map accepted_write xs, refl)
        by None k rest = rest k

    from : HasSome (filter_map accepted_write replies) → HasSome (writes_in replies)
    from its = subst (λ ws. HasSome (fold entered [] ws)) (sym its.2) (fold-some (entered [] its.0) its.1 (insert-some [] its.0))

-- ---- the run

-- One step in front of some and of more is in front of all of them.
cons-more : {X : Type 0} (o : Option X) (xs more : List X) → cons_option o xs ++ more ≡ cons_option o (xs ++ more)
cons-more (Some x) xs more = refl
cons-more None xs more = refl

module _ (run : Run) (t : Span) (number session : ℕ) (who : Who) (rises : Rises t.replies) (own : (x : Entry) → Among x t.replies → x.reply.who ≡ who)
    (served : (entry : Entry) → Among entry t.replies → IsServed run t number entry) where
  -- the steps at a reply
  abbrev at : Entry → Option Step
  at e = option_map (step_of session) (step_alone e.command e.reply.said)

  -- The rest of the replies is a run from what those in front wrote.
  walked : (front rest : List Entry) → t.replies ≡ front ++ rest → (more : List Step) (to : IsolationMachine)
      → Runs (amid run.history number session (writes_in t.replies)) more to → Runs (amid run.history number session (writes_in front)) (served_steps session rest ++ more) to
  walked front [] whole more to ends = subst (λ (es : List Entry). Runs (amid run.history number session (writes_in es)) more to) (whole ∙ append-nil front) ends
  walked front (e ∷ rest) whole more to ends =
      let in' : Among e t.replies = subst (Among e) (sym whole) (among-behind e front (e ∷ rest) (inl refl)) in
      let its = served e in' in
      let earlier : before t.replies e ≡ front = ap (λ (es : List Entry). before es e) whole ∙ before-front who front e rest (subst Rises whole rises) (λ x of. own x (subst (Among x) (sym whole) of)) in
      let seen-so : seen_from run t number e ≡ seen run.history number session (writes_in front) = ap (λ (es : List Entry). laid_over (state_at run.history number) (writes_in es)) earlier in
      let read : read_holds (seen run.history number session (writes_in front)) e.command e.reply.said ≡ true = subst (λ (s : State). read_holds s e.command e.reply.said ≡ true) seen-so its.read in
      let next : Runs (amid run.history number session (own_behind run.history number session (writes_in front) e.command e.reply.said)) (served_steps session rest ++ more) to =
      subst (λ (ws : WriteSet). Runs (amid run.history number session ws) (served_steps session rest ++ more) to) (writes-more front e)
      (walked (front ++ e ∷ []) rest (whole ∙ sym (append_assoc front (e ∷ []) rest)) more to ends) in
      subst (λ (steps : List Step). Runs (amid run.history number session (writes_in front)) steps to) (sym (cons-more (at e) (served_steps session rest) more))
      (one-step run.history number session (writes_in front) e.command e.reply.said read (λ is. subst (λ (s : State). is_acceptable s e.command ≡ true) seen-so (its.write is)) (served_steps session rest ++ more) to next)

  -- the transaction is a run, where its end is one
  pub runs-alone : length (take number run.history) ≡ number → (ending : Step) (to : IsolationMachine)
      → Runs (amid run.history number session (writes_in t.replies)) (ending ∷ []) to
      → Runs (alone run.history number) (step_of session (act.Begin (is_checked t), answer.At number) ∷ (served_steps session t.replies ++ ending ∷ [])) to
  runs-alone many ending to ends =
      begins run.history number session (is_checked t) many (served_steps session t.replies ++ ending ∷ []) to
      (walked [] t.replies refl (ending ∷ []) to ends)
