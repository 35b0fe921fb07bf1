-- The replies of a transaction are printed, belong to it and to no other, and its snapshot is below
-- the number with which it commits.
use Rattle.std.proofs.Common.{◌≡◌, ℕ, Bool, true, false, cond, ◌||◌, ◌&&◌, eqb, nat_lt, List, [], ◌∷◌, ◌++◌, Option, None, Some, fold, map, is_some, option_map, refl, sym, ap, ◌∙◌, subst, arith, ◌⊎◌, inl, inr}
use Rattle.std.specs.Prelude.{find}
use Rattle.std.specs.List.{cons_option, filter, list_all, list_any}
use Rattle.std.proofs.lemmas.Bool.{and_parts, eq-eqb, eqb-true, false_from_ne_true}
use Rattle.std.proofs.lemmas.List.Elements.{filter-append}
use Rattle.workload_spec.specs.declared.reply.Who.{Who}
use Rattle.workload_spec.specs.declared.reply.Said.{Said}
use Rattle.workload_spec.specs.declared.reply.Said.TheVariants as said
use Rattle.outcome_spec.specs.Entries.{Entry, is_same, is_reply, thread, snapshot_in, commit_in, shown_in, is_end}
use Rattle.outcome_spec.specs.Forms.{within_behind}
use Rattle.outcome_spec.specs.Runs.{Span, up_to_end, span_from, transactions_of, transaction_with}
use Rattle.order_laws.proofs.Order.{same-itself}
use Rattle.order_laws.proofs.Places.{Behind, Beside, Own, ahead-cases, same-is, earlier-itself}
use Rattle.order_laws.specs.Opened.{OpensOutside}
use Rattle.order_laws.specs.Places.{Rises, is_ahead, is_earlier}
use Rattle.serial_laws.specs.Serial.{Among}

-- True is not the same as false.
true_false : true ≡ false → ⊥
true_false e = cc

-- Nothing is not something.
none_some : (n : ℕ) → None ≡ Some n → ⊥
none_some n e = cc

-- ---- which replies are one

-- a reply that stands ahead of another is not that one
pub apart : (x y : Entry) → is_ahead x y ≡ true → is_reply y x ≡ false
apart x y ahead = false_from_ne_true (is_reply y x) (λ is. never is (ahead-cases x y ahead))
  where
    never : is_reply y x ≡ true → Behind x y ⊎ (Beside x y ⊎ Own x y) → ⊥
    never is cases =
        let outer = and_parts (eqb y.reply.round x.reply.round && is_same y.reply.who x.reply.who) (eqb y.reply.index x.reply.index) is in
        let inner = and_parts (eqb y.reply.round x.reply.round) (is_same y.reply.who x.reply.who) outer.0 in
        by (eqb-true y.reply.round x.reply.round inner.0) (same-is y.reply.who x.reply.who inner.1) (eqb-true y.reply.index x.reply.index outer.1) cases
      where
        by : y.reply.round ≡ x.reply.round → y.reply.who ≡ x.reply.who → y.reply.index ≡ x.reply.index → Behind x y ⊎ (Beside x y ⊎ Own x y) → ⊥
        by round who index (inl b) = omega (arith, b.later, round)
        by round who index (inr (inl b)) =
            true_false (sym (subst (λ (w : Who). is_earlier x.reply.who w ≡ true) who b.who) ∙ earlier-itself x.reply.who)
        by round who index (inr (inr o)) = omega (arith, o.index, index)

-- what all pass, each does
pub all-among : {X : Type 0} (p : X → Bool) (x : X) (xs : List X) → Among x xs → list_all p xs ≡ true → p x ≡ true
all-among p x [] in' all = absurd in'
all-among p x (y ∷ ys) (inl is) all = ap p is ∙ (and_parts (p y) (list_all p ys) all).0
all-among p x (y ∷ ys) (inr in') all = all-among p x ys in' (and_parts (p y) (list_all p ys) all).1

-- where none passes, no one of them does
abbrev pub NoneOf : Entry → List Entry → Type 0
NoneOf entry others = (other : Entry) → Among other others → is_reply entry other ≡ false

-- replies of which none is this one are not this one's
any-none : (entry : Entry) (others : List Entry) → NoneOf entry others → list_any (is_reply entry) others ≡ false
any-none entry [] none = refl
any-none entry (x ∷ xs) none = ap (λ b. b || list_any (is_reply entry) xs) (none x (inl refl)) ∙ any-none entry xs (λ other in'. none other (inr in'))

-- ---- what is among parts

-- What is among those chosen is among all.
pub among-filter : (p : Entry → Bool) (x : Entry) (xs : List Entry) → Among x (filter p xs) → Among x xs
among-filter p x [] in' = in'
among-filter p x (y ∷ ys) in' = go (p y) (λ rest. among-filter p x ys rest) in'
  where
    go : (b : Bool) → (Among x (filter p ys) → Among x ys) → Among x (cond b (y ∷ filter p ys) (filter p ys)) → Among x (y ∷ ys)
    go true further (inl is) = inl is
    go true further (inr rest) = inr (further rest)
    go false further rest = inr (further rest)

-- What is among those up to the first end is among all.
pub among-up_to : (x : Entry) (xs : List Entry) → Among x (up_to_end xs) → Among x xs
among-up_to x [] in' = in'
among-up_to x (y ∷ ys) in' = go (is_end y.reply.said) (λ rest. among-up_to x ys rest) in'
  where
    go : (b : Bool) → (Among x (up_to_end ys) → Among x ys) → Among x (cond b (y ∷ []) (y ∷ up_to_end ys)) → Among x (y ∷ ys)
    go true further (inl is) = inl is
    go true further (inr never) = absurd never
    go false further (inl is) = inl is
    go false further (inr rest) = inr (further rest)

-- What is among the second of two lists is among both put together.
pub among-behind : (x : Entry) (xs ys : List Entry) → Among x ys → Among x (xs ++ ys)
among-behind x [] ys in' = in'
among-behind x (y ∷ xs) ys in' = inr (among-behind x xs ys in')

-- ---- where a transaction is opened

-- A transaction is opened by one of the replies, and its replies are that one and those behind it to
-- its session, up to the first end.
pub record Opening (entries : List Entry) (t : Span) : Type 0 where
  pub ahead : List Entry
  pub opening : Entry
  pub behind : List Entry
  pub number : ℕ
  pub whole : entries ≡ ahead ++ opening ∷ behind
  pub opens : snapshot_in opening.reply.said ≡ Some number
  pub span : t ≡ span_from opening behind number

pub opened : (entries : List Entry) (t : Span) → Among t (transactions_of entries) → Opening entries t
opened [] t in' = absurd in'
opened (e ∷ es) t in' = go (snapshot_in e.reply.said) refl (λ rest. opened es t rest) in'
  where
    later : Opening es t → Opening (e ∷ es) t
    later o = record {
      ahead = e ∷ o.ahead;
      opening = o.opening;
      behind = o.behind;
      number = o.number;
      whole = ap (λ (xs : List Entry). e ∷ xs) o.whole;
      opens = o.opens;
      span = o.span;
    }

    go : (shown : Option ℕ) → snapshot_in e.reply.said ≡ shown → (Among t (transactions_of es) → Opening es t) → Among t (cons_option (option_map (span_from e es) shown) (transactions_of es)) → Opening (e ∷ es) t
    go None is further rest = later (further rest)
    go (Some n) is further (inl here) = record { ahead = []; opening = e; behind = es; number = n; whole = refl; opens = is; span = here }
    go (Some n) is further (inr rest) = later (further rest)

-- a reply of a transaction is the one that opens it or stands behind that
pub behind-opening : (entries : List Entry) (t : Span) (o : Opening entries t) (entry : Entry) → Among entry t.replies → Among entry (o.opening ∷ o.behind)
behind-opening entries t o entry in' =
    go (among-up_to entry (o.opening ∷ thread o.opening.reply.who o.behind) (subst (λ (u : Span). Among entry u.replies) o.span in'))
  where
    go : Among entry (o.opening ∷ thread o.opening.reply.who o.behind) → Among entry (o.opening ∷ o.behind)
    go (inl is) = inl is
    go (inr rest) = inr (among-filter (λ other. is_same other.reply.who o.opening.reply.who) entry o.behind rest)

-- it is printed
pub printed : (entries : List Entry) (t : Span) (o : Opening entries t) (entry : Entry) → Among entry t.replies → Among entry entries
printed entries t o entry in' = subst (Among entry) (sym o.whole) (among-behind entry o.ahead (o.opening ∷ o.behind) (behind-opening entries t o entry in'))

-- ---- within a transaction

-- A reply that ends nothing leaves its session within.
stays : (told : Said) → is_end told ≡ false → within_behind true told ≡ true
stays (said.At number) is = refl
stays (said.Committed number) is = absurd (true_false is)
stays (said.Stale what number) is = refl
stays (said.Totalled count sum) is = refl
stays said.Aborted is = absurd (true_false is)
stays said.InTransaction is = refl
stays said.NoTransaction is = refl
stays (said.Found row) is = refl
stays said.Absent is = refl
stays (said.Scanned rows) is = refl
stays said.Accepted is = refl
stays (said.ConflictSession session) is = refl
stays (said.ConflictCommit number) is = refl
stays said.Exists is = refl
stays said.Missing is = refl
stays said.Full is = refl
stays (said.Freezing table block stamp) is = refl
stays (said.Cooling count) is = refl
stays (said.Pruned count) is = refl
stays (said.Moved count) is = refl
stays (said.Sealed table block stamp) is = refl
stays (said.NotSealed cause) is = refl
stays (said.Frozen table block rows) is = refl
stays said.NotFrozen is = refl
stays (said.Exported number rows batches frozen) is = refl
stays (said.Dirty key) is = refl
stays said.Memory is = refl

-- A reply that shows a snapshot puts its session within.
enters : (within : Bool) (told : Said) (n : ℕ) → snapshot_in told ≡ Some n → within_behind within told ≡ true
enters within (said.At number) n is = refl
enters within (said.Committed number) n is = absurd (none_some n is)
enters within (said.Stale what number) n is = absurd (none_some n is)
enters within (said.Totalled count sum) n is = absurd (none_some n is)
enters within said.Aborted n is = absurd (none_some n is)
enters within said.InTransaction n is = absurd (none_some n is)
enters within said.NoTransaction n is = absurd (none_some n is)
enters within (said.Found row) n is = absurd (none_some n is)
enters within said.Absent n is = absurd (none_some n is)
enters within (said.Scanned rows) n is = absurd (none_some n is)
enters within said.Accepted n is = absurd (none_some n is)
enters within (said.ConflictSession session) n is = absurd (none_some n is)
enters within (said.ConflictCommit number) n is = absurd (none_some n is)
enters within said.Exists n is = absurd (none_some n is)
enters within said.Missing n is = absurd (none_some n is)
enters within said.Full n is = absurd (none_some n is)
enters within (said.Freezing table block stamp) n is = absurd (none_some n is)
enters within (said.Cooling count) n is = absurd (none_some n is)
enters within (said.Pruned count) n is = absurd (none_some n is)
enters within (said.Moved count) n is = absurd (none_some n is)
enters within (said.Sealed table block stamp) n is = absurd (none_some n is)
enters within (said.NotSealed cause) n is = absurd (none_some n is)
enters within (said.Frozen table block rows) n is = absurd (none_some n is)
enters within said.NotFrozen n is = absurd (none_some n is)
enters within (said.Exported number rows batches frozen) n is = absurd (none_some n is)
enters within (said.Dirty key) n is = absurd (none_some n is)
enters within said.Memory n is = absurd (none_some n is)

-- whether its session is within, behind these of its replies
abbrev within_from : Bool → List Entry → Bool
within_from within replies = fold within_behind within (map (λ entry. entry.reply.said) replies)

-- Up to the first end of replies to a session within, there is one where it is not within behind
-- them.
ends-within : (replies later : List Entry) → within_from true replies ≡ false → up_to_end (replies ++ later) ≡ up_to_end replies
ends-within [] later is = absurd (true_false is)
ends-within (x ∷ xs) later is = go (is_end x.reply.said) refl (λ on. ends-within xs later on)
  where
    go : (b : Bool) → is_end x.reply.said ≡ b → (within_from true xs ≡ false → up_to_end (xs ++ later) ≡ up_to_end xs) → cond b (x ∷ []) (x ∷ up_to_end (xs ++ later)) ≡ cond b (x ∷ []) (x ∷ up_to_end xs)
    go true e further = refl
    go false e further = ap (λ (ys : List Entry). x ∷ ys) (further (sym (ap (λ (w : Bool). within_from w xs) (stays x.reply.said e)) ∙ is))

-- ---- which transaction a reply belongs to

-- of the first list each stands ahead of what stands in the second
pub crossed : (x y : Entry) (xs ys : List Entry) → Rises (xs ++ ys) → Among x xs → Among y ys → is_ahead x y ≡ true
crossed x y [] ys rises in' of = absurd in'
crossed x y (z ∷ xs) ys rises (inl is) of = ap (λ (w : Entry). is_ahead w y) is ∙ all-among (is_ahead z) y (xs ++ ys) (among-behind y xs ys of) rises.0
crossed x y (z ∷ xs) ys rises (inr in') of = crossed x y xs ys rises.1 in' of

-- What is among the replies to one is to that one.
pub to-whom : (x : Entry) (who : Who) (replies : List Entry) → Among x (thread who replies) → is_same x.reply.who who ≡ true
to-whom x who [] in' = absurd in'
to-whom x who (y ∷ ys) in' = go (is_same y.reply.who who) refl (λ rest. to-whom x who ys rest) in'
  where
    go : (b : Bool) → is_same y.reply.who who ≡ b → (Among x (thread who ys) → is_same x.reply.who who ≡ true) → Among x (cond b (y ∷ thread who ys) (thread who ys)) → is_same x.reply.who who ≡ true
    go true is further (inl here) = ap (λ (e : Entry). is_same e.reply.who who) here ∙ is
    go true is further (inr rest) = further rest
    go false is further rest = further rest

-- replies to another are not this one
others : (entry : Entry) (who : Who) (replies : List Entry) → is_same entry.reply.who who ≡ false → NoneOf entry (thread who replies)
others entry who replies not-its x in' = false_from_ne_true (is_reply entry x) (λ is. never is)
  where
    never : is_reply entry x ≡ true → ⊥
    never is =
        let outer = and_parts (eqb entry.reply.round x.reply.round && is_same entry.reply.who x.reply.who) (eqb entry.reply.index x.reply.index) is in
        let inner = and_parts (eqb entry.reply.round x.reply.round) (is_same entry.reply.who x.reply.who) outer.0 in
        let to : is_same x.reply.who who ≡ true = to-whom x who replies in' in
        true_false (sym (subst (λ (w : Who). is_same entry.reply.who w ≡ true) (same-is x.reply.who who to) inner.1) ∙ not-its)

module _ (entry opening : Entry) (behind : List Entry) (in' : Among entry (opening ∷ behind)) (its : entry.reply.who ≡ opening.reply.who) where
  -- whether a transaction has the reply
  abbrev has : Span → Bool
  has u = list_any (is_reply entry) u.replies

  -- A transaction that is opened in front, where its session is in none behind the replies in front
  -- of this one, does not have it.
  misses : (a : Entry) (ahead : List Entry) (n : ℕ) → snapshot_in a.reply.said ≡ Some n → Rises (a ∷ (ahead ++ opening ∷ behind))
      → (is_same a.reply.who opening.reply.who ≡ true → within_from true (thread opening.reply.who ahead) ≡ false)
      → has (span_from a (ahead ++ opening ∷ behind) n) ≡ false
  misses a ahead n opens rises out = go (is_same a.reply.who opening.reply.who) refl
    where
      its-own : a.reply.who ≡ opening.reply.who → within_from true (thread opening.reply.who ahead) ≡ false → has (span_from a (ahead ++ opening ∷ behind) n) ≡ false
      its-own same ended =
          let parted : thread a.reply.who (ahead ++ opening ∷ behind) ≡ thread a.reply.who ahead ++ thread a.reply.who (opening ∷ behind) = filter-append (λ (e : Entry). is_same e.reply.who a.reply.who) ahead (opening ∷ behind) in
          let on : within_from true (a ∷ thread a.reply.who ahead) ≡ false =
          ap (λ (w : Bool). within_from w (thread a.reply.who ahead)) (enters true a.reply.said n opens) ∙ ap (λ (w : Who). within_from true (thread w ahead)) same ∙ ended in
          let cut : up_to_end (a ∷ thread a.reply.who (ahead ++ opening ∷ behind)) ≡ up_to_end (a ∷ thread a.reply.who ahead) =
          ap (λ (es : List Entry). up_to_end (a ∷ es)) parted ∙ ends-within (a ∷ thread a.reply.who ahead) (thread a.reply.who (opening ∷ behind)) on in
          ap (list_any (is_reply entry)) cut
          ∙ any-none entry (up_to_end (a ∷ thread a.reply.who ahead)) (λ x of. apart x entry (crossed x entry (a ∷ ahead) (opening ∷ behind) rises (inside x of) in'))
        where
          inside : (x : Entry) → Among x (up_to_end (a ∷ thread a.reply.who ahead)) → Among x (a ∷ ahead)
          inside x of = first (among-up_to x (a ∷ thread a.reply.who ahead) of)
            where
              first : Among x (a ∷ thread a.reply.who ahead) → Among x (a ∷ ahead)
              first (inl is) = inl is
              first (inr rest) = inr (among-filter (λ (e : Entry). is_same e.reply.who a.reply.who) x ahead rest)

      another : is_same a.reply.who opening.reply.who ≡ false → has (span_from a (ahead ++ opening ∷ behind) n) ≡ false
      another apart' =
          any-none entry (up_to_end (a ∷ thread a.reply.who (ahead ++ opening ∷ behind))) (λ x of. by x (among-up_to x (a ∷ thread a.reply.who (ahead ++ opening ∷ behind)) of))
        where
          not-its : is_same entry.reply.who a.reply.who ≡ false
          not-its = false_from_ne_true (is_same entry.reply.who a.reply.who) (λ same. true_false (sym (subst (λ (w : Who). is_same w opening.reply.who ≡ true) (same-is entry.reply.who a.reply.who same) (subst (λ (w : Who). is_same entry.reply.who w ≡ true) its (same-itself entry.reply.who))) ∙ apart'))

          by : (x : Entry) → Among x (a ∷ thread a.reply.who (ahead ++ opening ∷ behind)) → is_reply entry x ≡ false
          by x (inl is) = apart x entry (crossed x entry (a ∷ ahead) (opening ∷ behind) rises (inl is) in')
          by x (inr rest) = others entry a.reply.who (ahead ++ opening ∷ behind) not-its x rest

      go : (b : Bool) → is_same a.reply.who opening.reply.who ≡ b → has (span_from a (ahead ++ opening ∷ behind) n) ≡ false
      go true is = its-own (same-is a.reply.who opening.reply.who is) (out is)
      go false is = another is

  -- So what has the reply is found behind those.
  pub found-behind : (within : Bool) (ahead : List Entry) → within_from within (thread opening.reply.who ahead) ≡ false → Rises (ahead ++ opening ∷ behind)
      → transaction_with (transactions_of (ahead ++ opening ∷ behind)) entry ≡ transaction_with (transactions_of (opening ∷ behind)) entry
  found-behind within [] out rises = refl
  found-behind within (a ∷ ahead) out rises =
      step (snapshot_in a.reply.said) refl (is_same a.reply.who opening.reply.who) refl
      (λ w ended. found-behind w ahead ended rises.1)
    where
      pass : (shown : Option ℕ) → ((n : ℕ) → shown ≡ Some n → has (span_from a (ahead ++ opening ∷ behind) n) ≡ false)
          → find has (cons_option (option_map (span_from a (ahead ++ opening ∷ behind)) shown) (transactions_of (ahead ++ opening ∷ behind))) ≡ find has (transactions_of (ahead ++ opening ∷ behind))
      pass None fails = refl
      pass (Some n) fails = ap (λ (b : Bool). cond b (Some (span_from a (ahead ++ opening ∷ behind) n)) (find has (transactions_of (ahead ++ opening ∷ behind)))) (fails n refl)

      further : (b : Bool) → is_same a.reply.who opening.reply.who ≡ b → (w : Bool) × (within_from w (thread opening.reply.who ahead) ≡ false) × (b ≡ true → w ≡ within_behind within a.reply.said)
      further true is = (within_behind within a.reply.said, sym (ap (λ (b : Bool). within_from within (cond b (a ∷ thread opening.reply.who ahead) (thread opening.reply.who ahead))) is) ∙ out, λ e. refl)
      further false is = (within, sym (ap (λ (b : Bool). within_from within (cond b (a ∷ thread opening.reply.who ahead) (thread opening.reply.who ahead))) is) ∙ out, λ e. absurd (true_false (sym e)))

      step : (shown : Option ℕ) → snapshot_in a.reply.said ≡ shown → (b : Bool) → is_same a.reply.who opening.reply.who ≡ b
          → ((w : Bool) → within_from w (thread opening.reply.who ahead) ≡ false → transaction_with (transactions_of (ahead ++ opening ∷ behind)) entry ≡ transaction_with (transactions_of (opening ∷ behind)) entry)
          → transaction_with (transactions_of (a ∷ (ahead ++ opening ∷ behind))) entry ≡ transaction_with (transactions_of (opening ∷ behind)) entry
      step shown opens b same rest =
          let on = further b same in
          pass (snapshot_in a.reply.said)
          (λ n is. misses a ahead n is rises (λ its'.
          let t : b ≡ true = sym same ∙ its' in
          let w : on.0 ≡ true = on.2 t ∙ enters within a.reply.said n is in
          subst (λ (v : Bool). within_from v (thread opening.reply.who ahead) ≡ false) w on.1))
          ∙ rest on.0 on.1

-- a reply is itself
itself : (entry : Entry) → is_reply entry entry ≡ true
itself entry =
    let round : eqb entry.reply.round entry.reply.round ≡ true = eq-eqb entry.reply.round entry.reply.round refl in
    let index : eqb entry.reply.index entry.reply.index ≡ true = eq-eqb entry.reply.index entry.reply.index refl in
    rw (round, same-itself entry.reply.who, index) refl

-- a list with a reply has it
has-one : (entry : Entry) (xs : List Entry) → Among entry xs → list_any (is_reply entry) xs ≡ true
has-one entry [] in' = absurd in'
has-one entry (x ∷ xs) (inl is) = ap (λ b. b || list_any (is_reply entry) xs) (ap (is_reply entry) (sym is) ∙ itself entry)
has-one entry (x ∷ xs) (inr rest) = go (is_reply entry x) (has-one entry xs rest)
  where
    go : (b : Bool) → list_any (is_reply entry) xs ≡ true → (b || list_any (is_reply entry) xs) ≡ true
    go true e = refl
    go false e = e

-- a reply of a transaction is to the session of the one that opens it
pub own-session : (entries : List Entry) (t : Span) (o : Opening entries t) (entry : Entry) → Among entry t.replies → entry.reply.who ≡ o.opening.reply.who
own-session entries t o entry in' =
    go (among-up_to entry (o.opening ∷ thread o.opening.reply.who o.behind) (subst (λ (u : Span). Among entry u.replies) o.span in'))
  where
    go : Among entry (o.opening ∷ thread o.opening.reply.who o.behind) → entry.reply.who ≡ o.opening.reply.who
    go (inl is) = ap (λ (e : Entry). e.reply.who) is
    go (inr rest) = same-is entry.reply.who o.opening.reply.who (to-whom entry o.opening.reply.who o.behind rest)

-- a reply of a transaction belongs to it, and to no other
pub belongs : (entries : List Entry) → Rises entries → OpensOutside entries → (t : Span) (o : Opening entries t) (entry : Entry) → Among entry t.replies
    → transaction_with (transactions_of entries) entry ≡ Some t
belongs entries rises outside t o entry in' =
    ap (λ (es : List Entry). transaction_with (transactions_of es) entry) o.whole
    ∙ found-behind entry o.opening o.behind (behind-opening entries t o entry in') (own-session entries t o entry in') false o.ahead
    (outside o.ahead o.opening o.behind o.whole (ap is_some o.opens)).0
    (subst Rises o.whole rises)
    ∙ ap (λ (shown : Option ℕ). find (λ u. list_any (is_reply entry) u.replies) (cons_option (option_map (span_from o.opening o.behind) shown) (transactions_of o.behind))) o.opens
    ∙ ap (λ (b : Bool). cond b (Some (span_from o.opening o.behind o.number)) (find (λ u. list_any (is_reply entry) u.replies) (transactions_of o.behind)))
    (has-one entry (span_from o.opening o.behind o.number).replies (subst (λ (u : Span). Among entry u.replies) o.span in'))
    ∙ ap Some (sym o.span)

-- what is shown by one of them is shown
pub shown-among : (number : ℕ) (p : Entry → Bool) (entry : Entry) (xs : List Entry) → Among entry xs → p entry ≡ true → commit_in entry.reply.said ≡ Some number
    → (low : ℕ) → list_all (nat_lt low) (shown_in commit_in (filter p xs)) ≡ true → nat_lt low number ≡ true
shown-among number p entry [] in' passes shows low all = absurd in'
shown-among number p entry (x ∷ xs) (inl is) passes shows low all =
    let chosen : p x ≡ true = ap p (sym is) ∙ passes in
    let here : commit_in x.reply.said ≡ Some number = ap (λ (e : Entry). commit_in e.reply.said) (sym is) ∙ shows in
    let whole : list_all (nat_lt low) (shown_in commit_in (x ∷ filter p xs)) ≡ true = sym (ap (λ (b : Bool). list_all (nat_lt low) (shown_in commit_in (cond b (x ∷ filter p xs) (filter p xs)))) chosen) ∙ all in
    let told : (nat_lt low number && list_all (nat_lt low) (shown_in commit_in (filter p xs))) ≡ true = sym (ap (λ (o : Option ℕ). list_all (nat_lt low) (cons_option o (shown_in commit_in (filter p xs)))) here) ∙ whole in
    (and_parts (nat_lt low number) (list_all (nat_lt low) (shown_in commit_in (filter p xs))) told).0
shown-among number p entry (x ∷ xs) (inr rest) passes shows low all = further (p x) refl (λ a. shown-among number p entry xs rest passes shows low a)
  where
    later : (o : Option ℕ) → list_all (nat_lt low) (cons_option o (shown_in commit_in (filter p xs))) ≡ true → list_all (nat_lt low) (shown_in commit_in (filter p xs)) ≡ true
    later None a = a
    later (Some n) a = (and_parts (nat_lt low n) (list_all (nat_lt low) (shown_in commit_in (filter p xs))) a).1

    further : (b : Bool) → p x ≡ b → (list_all (nat_lt low) (shown_in commit_in (filter p xs)) ≡ true → nat_lt low number ≡ true) → nat_lt low number ≡ true
    further true is step = step (later (commit_in x.reply.said) (sym (ap (λ (b : Bool). list_all (nat_lt low) (shown_in commit_in (cond b (x ∷ filter p xs) (filter p xs)))) is) ∙ all))
    further false is step = step (sym (ap (λ (b : Bool). list_all (nat_lt low) (shown_in commit_in (cond b (x ∷ filter p xs) (filter p xs)))) is) ∙ all)
