-- Which transactions a test of their replies and of their ends finds, by the replies that are held.
use Rattle.std.proofs.Common.{◌≡◌, ℕ, ◌+◌, Bool, true, false, cond, ◌&&◌, ◌||◌, List, [], ◌∷◌, ◌++◌, Option, None, Some, refl, sym, ap, ◌∙◌, subst}
use Rattle.std.specs.List.{list_any, cons_option}
use Rattle.std.specs.Prelude.{option_map, is_some, if◌then◌else◌}
use Rattle.std.proofs.lemmas.Bool.{and_from, or_right, and_parts}
use Rattle.workload_spec.specs.declared.reply.Who.{Who}
use Rattle.outcome_spec.specs.Entries.{Entry, is_same, thread, is_end, is_accepted, snapshot_in}
use Rattle.outcome_spec.specs.Forms.{is_within, within_behind}
use Rattle.outcome_spec.specs.Runs.{Span, up_to_end, span_from, transactions_of}
use Rattle.timeline_laws.proofs.Tests.{and-false}
use Rattle.order_laws.proofs.Places.{same-is}
use Rattle.order_laws.proofs.Order.{same-itself}
use Rattle.outcome_counts.proofs.Shown.{both-ways}
use Rattle.outcome_judge.specs.Held.{Held, held_at, held_behind, held_in, stop_in, stop_of}
use Rattle.outcome_judge.proofs.Stops.{stop-cons, within-next, within-by, opening-is-no-end, opening-accepts-none, end-accepts-none}

-- ---- where something is found

pub record Found {X : Type 0} (p : X → Bool) (xs : List X) : Type 0 where
  pub item : X
  pub passes : p item ≡ true
  pub found : (q : X → Bool) → q item ≡ true → list_any q xs ≡ true

-- where some element passes there is one, and each test that it passes finds one
pub found-in : {X : Type 0} (p : X → Bool) (xs : List X) → list_any p xs ≡ true → Found p xs
found-in p [] h = absurd (let never : ⊥ = cc in never)
found-in p (x ∷ xs) h = by (p x) refl h (found-in p xs)
  where
    by : (b : Bool) → p x ≡ b → (b || list_any p xs) ≡ true → (list_any p xs ≡ true → Found p xs) → Found p (x ∷ xs)
    by true is k behind = record { item = x; passes = is; found = λ q its. rw its refl }
    by false is k behind =
        let later = behind k in
        record { item = later.item; passes = later.passes; found = λ q its. or_right (q x) (list_any q xs) (later.found q its) }

-- two tests that agree on each element find one in the same lists
pub any-agree : {X : Type 0} (p q : X → Bool) → ((x : X) → p x ≡ q x) → (xs : List X) → list_any p xs ≡ list_any q xs
any-agree p q same [] = refl
any-agree p q same (x ∷ xs) = ap (λ (b : Bool). b || list_any p xs) (same x) ∙ ap (λ (b : Bool). q x || b) (any-agree p q same xs)

-- ---- up to the end

-- up to its end a transaction lasts as long as it does with what follows
pub stop-up : (entries : List Entry) → stop_in (up_to_end entries) ≡ stop_in entries
stop-up [] = refl
stop-up (entry ∷ entries) = by (is_end entry.reply.said) refl (stop-up entries)
  where
    by : (b : Bool) → is_end entry.reply.said ≡ b → stop_in (up_to_end entries) ≡ stop_in entries → stop_in (cond b (entry ∷ []) (entry ∷ up_to_end entries)) ≡ stop_in (entry ∷ entries)
    by true is rest =
        stop-cons entry [] ∙ ap (λ (c : Bool). if c then entry.reply.round + 1 else stop_in []) is
        ∙ sym (stop-cons entry entries ∙ ap (λ (c : Bool). if c then entry.reply.round + 1 else stop_in entries) is)
    by false is rest =
        stop-cons entry (up_to_end entries) ∙ ap (λ (c : Bool). if c then entry.reply.round + 1 else stop_in (up_to_end entries)) is ∙ rest
        ∙ sym (stop-cons entry entries ∙ ap (λ (c : Bool). if c then entry.reply.round + 1 else stop_in entries) is)

-- A test of replies that only an accepted one may pass, and one of the end.
module _ (test : Entry → Bool) (quiet : (entry : Entry) → is_accepted entry.reply.said ≡ false → test entry ≡ false) (far : ℕ → Bool) (none : far 0 ≡ false) where
  -- the replies up to the end pass
  abbrev pub passes : List Entry → Bool
  passes entries = list_any test (up_to_end entries) && far (stop_in entries)

  -- one's transaction passes
  abbrev pub is_passing : Who → Span → Bool
  is_passing who t = is_same t.who who && (list_any test t.replies && far (stop_in t.replies))

  -- the reply is one's own and passes, and so does how long it is held
  abbrev pub is_held : Who → Held → Bool
  is_held who held = is_same held.entry.reply.who who && (test held.entry && far held.until)

  -- the transactions that are opened, or one that is open in front, by what a reply's kind is
  opened : (who : Who) (entry : Entry) (entries : List Entry) (shown : Option ℕ)
      → list_any (is_passing who) (cons_option (option_map (span_from entry entries) shown) (transactions_of entries))
      ≡ ((is_some shown && is_passing who (span_from entry entries 0)) || list_any (is_passing who) (transactions_of entries))
  opened who entry entries None = refl
  opened who entry entries (Some snapshot) = refl

  -- The transaction that a reply opens passes where the reply and its thread behind it do.
  span-passes : (entry : Entry) (entries : List Entry) → is_passing entry.reply.who (span_from entry entries 0) ≡ passes (entry ∷ thread entry.reply.who entries)
  span-passes entry entries =
      ap (λ (b : Bool). b && (list_any test (up_to_end (entry ∷ thread entry.reply.who entries)) && far (stop_in (up_to_end (entry ∷ thread entry.reply.who entries))))) (same-itself entry.reply.who)
      ∙ ap (λ (n : ℕ). list_any test (up_to_end (entry ∷ thread entry.reply.who entries)) && far n) (stop-up (entry ∷ thread entry.reply.who entries))

  -- what passes with a reply more in front
  passes-step : (entry : Entry) (thread : List Entry) (ends : Bool) → is_end entry.reply.said ≡ ends
      → passes (entry ∷ thread) ≡ (if ends then test entry && far (entry.reply.round + 1) else (test entry || list_any test (up_to_end thread)) && far (stop_in thread))
  passes-step entry thread true is = ap (λ (n : ℕ). list_any test (up_to_end (entry ∷ thread)) && far n) (stop-cons entry thread) ∙ rw is (by (test entry) (far (entry.reply.round + 1)))
    where
      by : (a b : Bool) → ((a || false) && b) ≡ (a && b)
      by true b = refl
      by false b = refl
  passes-step entry thread false is = ap (λ (n : ℕ). list_any test (up_to_end (entry ∷ thread)) && far n) (stop-cons entry thread) ∙ rw is refl

  -- ---- a reply of one's own, by its kind: all as truth values

  -- it opens a transaction
  as-opening : (trans within held any reach : Bool) → (trans || (true && (any && reach))) ≡ held
      → (((any && reach) || trans) || (within && (any && reach))) ≡ held
  as-opening true true held true true h = h
  as-opening true true held true false h = h
  as-opening true true held false reach h = h
  as-opening true false held true true h = h
  as-opening true false held true false h = h
  as-opening true false held false reach h = h
  as-opening false true held true true h = h
  as-opening false true held true false h = h
  as-opening false true held false reach h = h
  as-opening false false held true true h = h
  as-opening false false held true false h = h
  as-opening false false held false reach h = h

  -- it ends one
  as-end : (trans within held rest : Bool) → (trans || (false && rest)) ≡ held → (trans || (within && false)) ≡ held
  as-end true within held rest h = h
  as-end false true held rest h = h
  as-end false false held rest h = h

  -- any other
  as-other : (trans within held its any : Bool) (stop : ℕ) → (trans || (within && (any && far stop))) ≡ held
      → (trans || (within && ((its || any) && far stop))) ≡ ((its && far (if within then stop else 0)) || held)
  as-other trans true held true any stop h = by trans any (far stop) ∙ ap (λ (b : Bool). far stop || b) h
    where
      by : (t a r : Bool) → (t || r) ≡ (r || (t || (a && r)))
      by true a true = refl
      by true a false = refl
      by false a true = refl
      by false true false = refl
      by false false false = refl
  as-other trans true held false any stop h = h
  as-other trans false held true any stop h = h ∙ ap (λ (b : Bool). b || held) (sym none)
  as-other trans false held false any stop h = h

  module _ (front : List Entry) (entry : Entry) (entries : List Entry) where
    abbrev its : Who
    its = entry.reply.who

    abbrev behind : List Entry
    behind = thread its entries

    abbrev trans : Bool
    trans = list_any (is_passing its) (transactions_of entries)

    abbrev within : Bool
    within = is_within its front

    abbrev holds : Bool
    holds = list_any (is_held its) (held_behind (front ++ entry ∷ []) entries)

    abbrev shows : Bool
    shows = is_some (snapshot_in entry.reply.said)

    own-thread : thread its (entry ∷ entries) ≡ entry ∷ behind
    own-thread = ap (λ (b : Bool). cond b (entry ∷ behind) behind) (same-itself its)

    left : (list_any (is_passing its) (transactions_of (entry ∷ entries)) || (within && passes (thread its (entry ∷ entries))))
        ≡ (((shows && passes (entry ∷ behind)) || trans) || (within && passes (entry ∷ behind)))
    left =
        ap (λ (b : Bool). b || (within && passes (thread its (entry ∷ entries))))
        (opened its entry entries (snapshot_in entry.reply.said) ∙ ap (λ (b : Bool). (shows && b) || trans) (span-passes entry entries))
        ∙ ap (λ (es : List Entry). ((shows && passes (entry ∷ behind)) || trans) || (within && passes es)) own-thread

    right : list_any (is_held its) (held_behind front (entry ∷ entries)) ≡ ((test entry && far (if within then stop_in (entry ∷ behind) else 0)) || holds)
    right =
        ap (λ (b : Bool). (b && (test entry && far (if within then stop_of its (entry ∷ entries) else 0))) || holds) (same-itself its)
        ∙ ap (λ (es : List Entry). (test entry && far (if within then stop_in es else 0)) || holds) own-thread

    within-behind : is_within its (front ++ entry ∷ []) ≡ (if shows then true else (if is_end entry.reply.said then false else within))
    within-behind =
        within-next its front entry
        ∙ ap (λ (b : Bool). if b then within_behind within entry.reply.said else within) (same-itself its)
        ∙ within-by within entry.reply.said

    module _ (rest : (trans || (is_within its (front ++ entry ∷ []) && passes behind)) ≡ holds) where
      by-kind : (shown ends : Bool) → shows ≡ shown → is_end entry.reply.said ≡ ends
          → (((shows && passes (entry ∷ behind)) || trans) || (within && passes (entry ∷ behind)))
          ≡ ((test entry && far (if within then stop_in (entry ∷ behind) else 0)) || holds)
      by-kind true ends shown is =
          let nothing = quiet entry (opening-accepts-none entry.reply.said shown) in
          let stands = opening-is-no-end entry.reply.said shown in
          let whole : passes (entry ∷ behind) ≡ passes behind = passes-step entry behind false stands ∙ ap (λ (b : Bool). (b || list_any test (up_to_end behind)) && far (stop_in behind)) nothing in
          let after : (trans || (true && passes behind)) ≡ holds = ap (λ (b : Bool). trans || (b && passes behind)) (sym (within-behind ∙ ap (λ (b : Bool). if b then true else (if is_end entry.reply.said then false else within)) shown)) ∙ rest in
          ap (λ (b : Bool). ((b && passes (entry ∷ behind)) || trans) || (within && passes (entry ∷ behind))) shown
          ∙ ap (λ (b : Bool). (b || trans) || (within && b)) whole
          ∙ as-opening trans within holds (list_any test (up_to_end behind)) (far (stop_in behind)) after
          ∙ ap (λ (b : Bool). (b && far (if within then stop_in (entry ∷ behind) else 0)) || holds) (sym nothing)
      by-kind false true shown is =
          let nothing = quiet entry (end-accepts-none entry.reply.said is) in
          let whole : passes (entry ∷ behind) ≡ false = passes-step entry behind true is ∙ ap (λ (b : Bool). b && far (entry.reply.round + 1)) nothing in
          let after : (trans || (false && passes behind)) ≡ holds =
          ap (λ (b : Bool). trans || (b && passes behind)) (sym (within-behind ∙ ap (λ (b : Bool). if b then true else (if is_end entry.reply.said then false else within)) shown ∙ ap (λ (b : Bool). if b then false else within) is)) ∙ rest in
          ap (λ (b : Bool). ((b && passes (entry ∷ behind)) || trans) || (within && passes (entry ∷ behind))) shown
          ∙ ap (λ (b : Bool). trans || (within && b)) whole
          ∙ as-end trans within holds (passes behind) after
          ∙ ap (λ (b : Bool). (b && far (if within then stop_in (entry ∷ behind) else 0)) || holds) (sym nothing)
      by-kind false false shown is =
          let whole = passes-step entry behind false is in
          let stop : stop_in (entry ∷ behind) ≡ stop_in behind = stop-cons entry behind ∙ ap (λ (b : Bool). if b then entry.reply.round + 1 else stop_in behind) is in
          let after : (trans || (within && passes behind)) ≡ holds =
          ap (λ (b : Bool). trans || (b && passes behind)) (sym (within-behind ∙ ap (λ (b : Bool). if b then true else (if is_end entry.reply.said then false else within)) shown ∙ ap (λ (b : Bool). if b then false else within) is)) ∙ rest in
          ap (λ (b : Bool). ((b && passes (entry ∷ behind)) || trans) || (within && passes (entry ∷ behind))) shown
          ∙ ap (λ (b : Bool). trans || (within && b)) whole
          ∙ as-other trans within holds (test entry) (list_any test (up_to_end behind)) (stop_in behind) after
          ∙ ap (λ (n : ℕ). (test entry && far (if within then n else 0)) || holds) (sym stop)

      own-step : (list_any (is_passing its) (transactions_of (entry ∷ entries)) || (within && passes (thread its (entry ∷ entries))))
          ≡ list_any (is_held its) (held_behind front (entry ∷ entries))
      own-step = left ∙ by-kind shows (is_end entry.reply.said) refl refl ∙ sym right

  -- another's
  other-step : (who : Who) (front : List Entry) (entry : Entry) (entries : List Entry) → is_same entry.reply.who who ≡ false
      → (list_any (is_passing who) (transactions_of entries) || (is_within who (front ++ entry ∷ []) && passes (thread who entries))) ≡ list_any (is_held who) (held_behind (front ++ entry ∷ []) entries)
      → (list_any (is_passing who) (transactions_of (entry ∷ entries)) || (is_within who front && passes (thread who (entry ∷ entries)))) ≡ list_any (is_held who) (held_behind front (entry ∷ entries))
  other-step who front entry entries apart rest =
      let span = span_from entry entries 0 in
      let same : is_within who (front ++ entry ∷ []) ≡ is_within who front = within-next who front entry ∙ ap (λ (b : Bool). if b then within_behind (is_within who front) entry.reply.said else is_within who front) apart in
      ap (λ (b : Bool). b || (is_within who front && passes (thread who (entry ∷ entries))))
      (opened who entry entries (snapshot_in entry.reply.said)
      ∙ ap (λ (b : Bool). (is_some (snapshot_in entry.reply.said) && (b && (list_any test span.replies && far (stop_in span.replies)))) || list_any (is_passing who) (transactions_of entries)) apart
      ∙ by (is_some (snapshot_in entry.reply.said)) (list_any (is_passing who) (transactions_of entries)))
      ∙ ap (λ (b : Bool). list_any (is_passing who) (transactions_of entries) || (is_within who front && passes (cond b (entry ∷ thread who entries) (thread who entries)))) apart
      ∙ ap (λ (b : Bool). list_any (is_passing who) (transactions_of entries) || (b && passes (thread who entries))) (sym same)
      ∙ rest
      ∙ ap (λ (b : Bool). (b && (test entry && far (held_at front entry entries).until)) || list_any (is_held who) (held_behind (front ++ entry ∷ []) entries)) (sym apart)
    where
      by : (shown rest : Bool) → ((shown && false) || rest) ≡ rest
      by true rest = refl
      by false rest = refl

  -- one's transactions pass exactly where one of one's replies that are held does
  pub held-behind : (who : Who) (front entries : List Entry)
      → (list_any (is_passing who) (transactions_of entries) || (is_within who front && passes (thread who entries))) ≡ list_any (is_held who) (held_behind front entries)
  held-behind who front [] = and-false (is_within who front)
  held-behind who front (entry ∷ entries) =
      by (is_same entry.reply.who who) refl (held-behind entry.reply.who (front ++ entry ∷ []) entries) (held-behind who (front ++ entry ∷ []) entries)
    where
      Stands : Who → List Entry → List Entry → Type 0
      Stands who front entries = (list_any (is_passing who) (transactions_of entries) || (is_within who front && passes (thread who entries))) ≡ list_any (is_held who) (held_behind front entries)

      by : (b : Bool) → is_same entry.reply.who who ≡ b → Stands entry.reply.who (front ++ entry ∷ []) entries → Stands who (front ++ entry ∷ []) entries → Stands who front (entry ∷ entries)
      by true is own other = subst (λ (w : Who). Stands w front (entry ∷ entries)) (same-is entry.reply.who who is) (own-step front entry entries own)
      by false is own other = other-step who front entry entries is other

  -- one's transactions among all
  pub held-all : (who : Who) (entries : List Entry) → list_any (is_passing who) (transactions_of entries) ≡ list_any (is_held who) (held_in entries)
  held-all who entries = by (list_any (is_passing who) (transactions_of entries)) ∙ held-behind who [] entries
    where
      by : (b : Bool) → b ≡ (b || false)
      by true = refl
      by false = refl

  -- those of all that are chosen
  pub held-chosen : (chosen : Who → Bool) (entries : List Entry)
      → list_any (λ t. chosen t.who && (list_any test t.replies && far (stop_in t.replies))) (transactions_of entries)
      ≡ list_any (λ h. chosen h.entry.reply.who && (test h.entry && far h.until)) (held_in entries)
  held-chosen chosen entries = both-ways _ _ there back
    where
      its : Span → Bool
      its t = list_any test t.replies && far (stop_in t.replies)

      theirs : Held → Bool
      theirs h = test h.entry && far h.until

      there : list_any (λ t. chosen t.who && (list_any test t.replies && far (stop_in t.replies))) (transactions_of entries) ≡ true
          → list_any (λ h. chosen h.entry.reply.who && (test h.entry && far h.until)) (held_in entries) ≡ true
      there h =
          let at = found-in (λ (t : Span). chosen t.who && its t) (transactions_of entries) h in
          let who = at.item.who in
          let is = and_parts (chosen who) (its at.item) at.passes in
          let one = at.found (is_passing who) (and_from (is_same who who) (its at.item) (same-itself who) is.1) in
          let one_held = found-in (is_held who) (held_in entries) (sym (held-all who entries) ∙ one) in
          let both = and_parts (is_same one_held.item.entry.reply.who who) (theirs one_held.item) one_held.passes in
          one_held.found (λ h. chosen h.entry.reply.who && theirs h)
          (and_from (chosen one_held.item.entry.reply.who) (theirs one_held.item) (ap chosen (same-is one_held.item.entry.reply.who who both.0) ∙ is.0) both.1)

      back : list_any (λ h. chosen h.entry.reply.who && (test h.entry && far h.until)) (held_in entries) ≡ true
          → list_any (λ t. chosen t.who && (list_any test t.replies && far (stop_in t.replies))) (transactions_of entries) ≡ true
      back h =
          let one_held = found-in (λ (h : Held). chosen h.entry.reply.who && theirs h) (held_in entries) h in
          let who = one_held.item.entry.reply.who in
          let is = and_parts (chosen who) (theirs one_held.item) one_held.passes in
          let one = one_held.found (is_held who) (and_from (is_same who who) (theirs one_held.item) (same-itself who) is.1) in
          let at = found-in (is_passing who) (transactions_of entries) (held-all who entries ∙ one) in
          let both = and_parts (is_same at.item.who who) (its at.item) at.passes in
          at.found (λ t. chosen t.who && its t)
          (and_from (chosen at.item.who) (its at.item) (ap chosen (same-is at.item.who who both.0) ∙ is.0) both.1)
