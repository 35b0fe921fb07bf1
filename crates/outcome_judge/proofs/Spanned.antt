-- The transaction of a reply, and what it has accepted in front of it.
use Rattle.std.proofs.Common.{◌≡◌, ℕ, ◌+◌, ◌≤◌, nat_le, Bool, true, false, cond, List, [], ◌∷◌, ◌++◌, length, drop, Option, None, Some, refl, sym, ap, ◌∙◌, subst, arith, append_assoc, append-nil}
use Rattle.std.specs.List.{filter_map, list_any, slice_get}
use Rattle.std.specs.Option.{option_map_or}
use Rattle.std.specs.Prelude.{is_some, option_map, option_and_then, if◌then◌else◌}
use Rattle.std.proofs.lemmas.Bool.Decides.{nat_tests}
use Rattle.std.proofs.lemmas.List.{drop_at}
use Rattle.std.proofs.lemmas.List.Elements.{filter-append, filter_map-append}
use Rattle.std.proofs.lemmas.Option.{same_Some}
use Rattle.cell_model.specs.declared.cell.Cell.{Cell}
use Rattle.isolation_spec.specs.declared.place.Place.{Place}
use Rattle.workload_spec.specs.declared.reply.Who.{Who}
use Rattle.workload_spec.specs.declared.reply.Said.{Said}
use Rattle.workload_spec.specs.declared.reply.Said.TheVariants as said
use Rattle.outcome_spec.specs.Entries.{Entry, is_same, is_before, before, thread, snapshot_in, is_end, is_accepted}
use Rattle.outcome_spec.specs.Runs.{Span, accepted_write, write_of, span_from, up_to_end, transactions_of, transaction_with}
use Rattle.order_laws.specs.Opened.{OpensOutside}
use Rattle.order_laws.specs.Places.{Rises}
use Rattle.outcome_counts.proofs.Starts.{get-at}
use Rattle.outcome_counts.specs.Openings.{AreOpenings, opened_at, opened_by, opening_of, openings_from, openings_in}
use Rattle.outcome_counts.proofs.Held.{IsOpen, Standing, up-to-append, opens-not-end}
use Rattle.outcome_counts.proofs.Ordered.{rises-in-order}
use Rattle.timeline_spec.specs.Timeline.{Each, Follows, InOrder}
use Rattle.timeline_laws.proofs.Order.{same-is, same-itself, before-itself}
use Rattle.timeline_laws.proofs.Spans.{order-filter, thread-of}
use Rattle.timeline_laws.proofs.Belongs.{Each-up_to_end}
use Rattle.outcome_judge.specs.Own.{is_opened, own_one, own_writes, changes_of}
use Rattle.outcome_judge.specs.Timed.{TimedWrite, timed_one, up_to}
use Rattle.outcome_judge.proofs.Own.{own-append}
use Rattle.outcome_judge.proofs.WritesHeld.{held_behind, opening_here, so_far, openings-append, openings-long, Stands, stands-behind}

-- ---- which replies of one are before a reply to it

-- Of replies in order those behind a front are in order.
order-back : (front back : List Entry) → InOrder (front ++ back) → InOrder back
order-back [] back h = h
order-back (x ∷ front) back h = order-back front back h.1

-- Where all replies follow one, that at a place does.
follows-at : (x : Entry) (front : List Entry) (entry : Entry) (rest : List Entry) → Each (Follows x) (front ++ entry ∷ rest) → Follows x entry
follows-at x [] entry rest h = h.0
follows-at x (y ∷ front) entry rest h = follows-at x front entry rest h.1

-- Of one's replies in order, all that stand in front of a reply are before it.
front-before : (front : List Entry) (entry : Entry) (rest : List Entry) → InOrder (front ++ entry ∷ rest) → Each (λ other. is_same other.reply.who entry.reply.who ≡ true) front → before front entry ≡ front
front-before [] entry rest h of = refl
front-before (x ∷ front) entry rest h of =
    let same : is_same entry.reply.who x.reply.who ≡ true = ap (λ (w : Who). is_same w x.reply.who) (sym (same-is x.reply.who entry.reply.who of.0)) ∙ same-itself x.reply.who in
    let first : is_before x entry ≡ true = (follows-at x front entry rest h.0).in_turn same in
    rw first (ap (λ (es : List Entry). x ∷ es) (front-before front entry rest h.1 of.1))

-- Replies that follow a reply are not before it.
rest-not-before : (entry : Entry) (rest : List Entry) → Each (Follows entry) rest → Each (λ other. is_before other entry ≡ false) rest
rest-not-before entry [] h = tt
rest-not-before entry (x ∷ rest) h = (h.0.not_before, rest-not-before entry rest h.1)

-- Where none of some replies is before one, those before it are none.
none-before : (entry : Entry) (rest : List Entry) → Each (λ other. is_before other entry ≡ false) rest → before rest entry ≡ []
none-before entry [] h = refl
none-before entry (x ∷ rest) h = rw h.0 (none-before entry rest h.1)

-- ---- what a transaction accepts up to a place

-- Of what a transaction writes from a place on, none is up to a bound that is no further on.
own-late : (bound owner place : ℕ) (openings : List (Option ℕ)) (entries : List Entry) → bound ≤ place → up_to bound (own_writes owner place openings entries) ≡ []
own-late bound owner place [] entries h = refl
own-late bound owner place (o ∷ openings) [] h = refl
own-late bound owner place (o ∷ openings) (e ∷ entries) h =
    filter-append (λ w. nat_le w.time bound) (own_one owner place o e) (own_writes owner (place + 1) openings entries)
    ∙ ap (λ (ws : List TimedWrite). ws ++ up_to bound (own_writes owner (place + 1) openings entries)) (one (is_opened owner o) (accepted_write e))
    ∙ own-late bound owner (place + 1) openings entries (omega (arith, h))
  where
    late : nat_le (place + 1) bound ≡ false
    late = grind (arith, nat_tests, h)

    one : (b : Bool) (change : Option (Place × Option (List Cell))) → up_to bound (if b then option_map_or (λ change. timed_one (place + 1) change ∷ []) change [] else []) ≡ []
    one true (Some change) = rw late refl
    one true None = refl
    one false change = refl

-- all that is written in front of a bound is written up to it
pub own-early : (bound owner place : ℕ) (openings : List (Option ℕ)) (entries : List Entry) → place + length entries ≤ bound → up_to bound (own_writes owner place openings entries) ≡ own_writes owner place openings entries
own-early bound owner place [] entries h = refl
own-early bound owner place (o ∷ openings) [] h = refl
own-early bound owner place (o ∷ openings) (e ∷ entries) h =
    filter-append (λ w. nat_le w.time bound) (own_one owner place o e) (own_writes owner (place + 1) openings entries)
    ∙ ap (λ (ws : List TimedWrite). ws ++ up_to bound (own_writes owner (place + 1) openings entries)) (one (is_opened owner o) (accepted_write e))
    ∙ ap (λ (ws : List TimedWrite). own_one owner place o e ++ ws) (own-early bound owner (place + 1) openings entries (omega (arith, h)))
  where
    early : nat_le (place + 1) bound ≡ true
    early = grind (arith, nat_tests, h)

    one : (b : Bool) (change : Option (Place × Option (List Cell)))
        → up_to bound (if b then option_map_or (λ change. timed_one (place + 1) change ∷ []) change [] else []) ≡ (if b then option_map_or (λ change. timed_one (place + 1) change ∷ []) change [] else [])
    one true (Some change) = rw early refl
    one true None = refl
    one false change = refl

-- the writes up to a place are those in front of it
pub own-up-to : (owner : ℕ) (front rest : List Entry) → up_to (length front) (own_writes owner 0 (openings_in (front ++ rest)) (front ++ rest)) ≡ so_far owner front
own-up-to owner front rest =
    let start : 0 + length front ≡ length front = omega arith in
    ap (λ (os : List (Option ℕ)). up_to (length front) (own_writes owner 0 os (front ++ rest))) (openings-append 0 (λ who. None) front rest)
    ∙ ap (up_to (length front)) (own-append owner 0 (openings_in front) (openings_from (0 + length front) (held_behind front) rest) front rest (openings-long 0 (λ who. None) front))
    ∙ filter-append (λ w. nat_le w.time (length front)) (so_far owner front) (own_writes owner (0 + length front) (openings_from (0 + length front) (held_behind front) rest) rest)
    ∙ ap (λ (ws : List TimedWrite). ws ++ up_to (length front) (own_writes owner (0 + length front) (openings_from (0 + length front) (held_behind front) rest) rest))
    (own-early (length front) owner 0 (openings_in front) front (omega arith))
    ∙ ap (λ (ws : List TimedWrite). so_far owner front ++ ws) (own-late (length front) owner (0 + length front) (openings_from (0 + length front) (held_behind front) rest) rest (omega (arith, start)))
    ∙ append-nil (so_far owner front)

-- the opening at a reply's place is the one that the replies in front of it tell
pub opening-at : (front : List Entry) (entry : Entry) (rest : List Entry) → opening_of (openings_in (front ++ entry ∷ rest)) (length front) ≡ opening_here front entry
opening-at front entry rest =
    let start : 0 + length front ≡ length front = omega arith in
    ap (λ (os : List (Option ℕ)). opening_of os (length front)) (openings-append 0 (λ who. None) front (entry ∷ rest))
    ∙ ap (λ (n : ℕ). opening_of (openings_in front ++ openings_from n (held_behind front) (entry ∷ rest)) (length front)) start
    ∙ ap (λ (n : ℕ). opening_of (openings_in front ++ openings_from (length front) (held_behind front) (entry ∷ rest)) n) (sym (openings-long 0 (λ who. None) front))
    ∙ ap (option_and_then (λ (o : Option ℕ). o)) (get-at (openings_in front) (opening_here front entry) (openings_from (length front + 1) _ rest))

-- ---- the transaction of a reply

-- What ends a transaction accepts no change.
ends-accept-none : (told : Said) (change : Option (Place × Option (List Cell))) → is_end told ≡ true → (if is_accepted told then change else None) ≡ None
ends-accept-none said.Accepted change h = absurd (let never : false ≡ true = h in let no : ⊥ = cc in no)
ends-accept-none _ change h = refl

-- The transaction that is opened at a place, of a reply: its snapshot, and what it has accepted in
-- front of the reply, which is all that it accepts where the reply ends it.
pub record IsSpan (entries : List Entry) (place : ℕ) (entry : Entry) (owner : ℕ) : Type 0 where
  pub span : Span
  pub found : transaction_with (transactions_of entries) entry ≡ Some span
  pub opening : Entry
  pub there : slice_get entries owner ≡ Some opening
  pub shown : snapshot_in opening.reply.said ≡ Some span.snapshot
  pub accepted : filter_map accepted_write (before span.replies entry) ≡ changes_of (up_to place (own_writes owner 0 (openings_in entries) entries))
  pub ended : is_end entry.reply.said ≡ true → filter_map accepted_write span.replies ≡ changes_of (up_to place (own_writes owner 0 (openings_in entries) entries))

module _ (entries front : List Entry) (entry : Entry) (rest : List Entry) (whole : entries ≡ front ++ entry ∷ rest) (rises : Rises entries) (outside : OpensOutside entries)
    (are : AreOpenings entries (openings_in entries)) where
  -- The session or worker of the reply.
  abbrev its : Who
  its = entry.reply.who

  -- What is open and accepted stands behind the replies in front.
  stands : Stands front
  stands = stands-behind entries front (entry ∷ rest) whole outside

  -- The place of the reply.
  abbrev place : ℕ
  place = length front

  -- The opening at the reply's place is the one that the replies in front tell.
  here : opening_of (openings_in entries) place ≡ opening_here front entry
  here = ap (λ (es : List Entry). opening_of (openings_in es) place) whole ∙ opening-at front entry rest

  -- A transaction's writes up to the reply's place are those that it has accepted so far.
  own-so-far : (owner : ℕ) → up_to place (own_writes owner 0 (openings_in entries) entries) ≡ so_far owner front
  own-so-far owner = ap (λ (es : List Entry). up_to place (own_writes owner 0 (openings_in es) es)) whole ∙ own-up-to owner front (entry ∷ rest)

  -- The reply belongs to the transaction that is opened where its opening is, if it has one.
  belongs : transaction_with (transactions_of entries) entry ≡ option_and_then (λ at. opened_at at entries) (opening_here front entry)
  belongs = are.own front entry rest whole ∙ ap (option_and_then (λ at. opened_at at entries)) here

  -- the replies of the transaction are those in front, and then those from the reply on
  replies-cut : (front-own : List Entry) (own-rest : List Entry) → list_any (λ e. is_end e.reply.said) front-own ≡ false
      → InOrder (front-own ++ entry ∷ own-rest) → Each (λ other. is_same other.reply.who its ≡ true) front-own
      → before (up_to_end (front-own ++ entry ∷ own-rest)) entry ≡ front-own
  replies-cut front-own own-rest on order of =
      ap (λ (es : List Entry). before es entry) (up-to-append front-own (entry ∷ own-rest) on)
      ∙ filter-append (λ other. is_before other entry) front-own (up_to_end (entry ∷ own-rest))
      ∙ ap (λ (es : List Entry). es ++ before (up_to_end (entry ∷ own-rest)) entry) (front-before front-own entry own-rest order of)
      ∙ ap (λ (es : List Entry). front-own ++ es)
      (none-before entry (up_to_end (entry ∷ own-rest))
      (Each-up_to_end (λ other. is_before other entry ≡ false) (entry ∷ own-rest) (before-itself entry, rest-not-before entry own-rest (order-back front-own (entry ∷ own-rest) order).0)))
      ∙ append-nil front-own

  -- all that it accepts, where the reply ends it
  ended-cut : (front-own : List Entry) (own-rest : List Entry) → list_any (λ e. is_end e.reply.said) front-own ≡ false → is_end entry.reply.said ≡ true
      → filter_map accepted_write (up_to_end (front-own ++ entry ∷ own-rest)) ≡ filter_map accepted_write front-own
  ended-cut front-own own-rest on ends =
      ap (filter_map accepted_write) (up-to-append front-own (entry ∷ own-rest) on ∙ ap (λ (b : Bool). front-own ++ cond b (entry ∷ []) (entry ∷ up_to_end own-rest)) ends)
      ∙ filter_map-append accepted_write front-own (entry ∷ [])
      ∙ ap (λ (cs : List (Place × Option (List Cell))). filter_map accepted_write front-own ++ cs) none
      ∙ append-nil (filter_map accepted_write front-own)
    where
      none : filter_map accepted_write (entry ∷ []) ≡ []
      none = let n = ends-accept-none entry.reply.said (write_of entry.command) ends in rw n refl

  -- a transaction that the reply opens
  opens-own : (number : ℕ) → snapshot_in entry.reply.said ≡ Some number → IsSpan entries place entry place
  opens-own number opens =
      let told : opening_here front entry ≡ Some place = ap (λ (o : Option ℕ). if is_some o then Some place else held_behind front its) opens in
      let at : opened_at place entries ≡ Some (span_from entry rest number) =
      ap opened_by (ap (drop place) whole ∙ drop_at front (entry ∷ rest) place refl) ∙ ap (option_map (span_from entry rest)) opens in
      let order : InOrder (thread its entries) = order-filter (λ e. is_same e.reply.who its) entries (rises-in-order entries rises) in
      let cut : thread its entries ≡ thread its front ++ entry ∷ thread its rest =
      ap (thread its) whole ∙ filter-append (λ e. is_same e.reply.who its) front (entry ∷ rest) ∙ ap (λ (b : Bool). thread its front ++ cond b (entry ∷ thread its rest) (thread its rest)) (same-itself its) in
      let none : so_far place front ≡ [] = stands.fresh place (omega arith) in
      record {
        span = span_from entry rest number;
        found = belongs ∙ ap (option_and_then (λ at. opened_at at entries)) told ∙ at;
        opening = entry;
        there = ap (λ (es : List Entry). slice_get es place) whole ∙ get-at front entry rest;
        shown = opens;
        accepted = ap (filter_map accepted_write) (replies-cut [] (thread its rest) refl (order-back (thread its front) (entry ∷ thread its rest) (subst InOrder cut order)) tt)
            ∙ sym (ap changes_of (own-so-far place ∙ none));
        ended = λ ends. absurd (let e : true ≡ false = sym ends ∙ opens-not-end entry.reply.said number opens in let never : ⊥ = cc in never);
      }

  -- one that is open in front of it
  held-own : (owner : ℕ) → snapshot_in entry.reply.said ≡ None → held_behind front its ≡ Some owner → IsSpan entries place entry owner
  held-own owner quiet held =
      let told : opening_here front entry ≡ Some owner = ap (λ (o : Option ℕ). if is_some o then Some place else held_behind front its) quiet ∙ held in
      let o : IsOpen its front owner = subst (Standing its front) held (stands.standing its) in
      let dropped : drop owner front ≡ o.opening ∷ o.mid = ap (drop owner) o.whole ∙ drop_at o.ahead (o.opening ∷ o.mid) owner o.far in
      let cut : entries ≡ o.ahead ++ o.opening ∷ (o.mid ++ entry ∷ rest) = whole ∙ ap (λ (es : List Entry). es ++ entry ∷ rest) o.whole ∙ append_assoc o.ahead (o.opening ∷ o.mid) (entry ∷ rest) in
      let at : opened_at owner entries ≡ Some (span_from o.opening (o.mid ++ entry ∷ rest) o.snapshot) =
      ap opened_by (ap (drop owner) cut ∙ drop_at o.ahead (o.opening ∷ (o.mid ++ entry ∷ rest)) owner o.far) ∙ ap (option_map (span_from o.opening (o.mid ++ entry ∷ rest))) o.opens in
      let behind : thread its (o.mid ++ entry ∷ rest) ≡ thread its o.mid ++ entry ∷ thread its rest =
      filter-append (λ e. is_same e.reply.who its) o.mid (entry ∷ rest) ∙ ap (λ (b : Bool). thread its o.mid ++ cond b (entry ∷ thread its rest) (thread its rest)) (same-itself its) in
      let replies : up_to_end (o.opening ∷ thread o.opening.reply.who (o.mid ++ entry ∷ rest)) ≡ up_to_end ((o.opening ∷ thread its o.mid) ++ entry ∷ thread its rest) =
      ap (λ (w : Who). up_to_end (o.opening ∷ thread w (o.mid ++ entry ∷ rest))) o.of ∙ ap (λ (es : List Entry). up_to_end (o.opening ∷ es)) behind in
      let same : is_same o.opening.reply.who its ≡ true = ap (λ (w : Who). is_same w its) o.of ∙ same-itself its in
      let threaded : thread its (drop owner front) ≡ o.opening ∷ thread its o.mid = ap (thread its) dropped ∙ ap (λ (b : Bool). cond b (o.opening ∷ thread its o.mid) (thread its o.mid)) same in
      let own : changes_of (up_to place (own_writes owner 0 (openings_in entries) entries)) ≡ filter_map accepted_write (o.opening ∷ thread its o.mid) =
      ap changes_of (own-so-far owner) ∙ stands.own its owner held ∙ ap (filter_map accepted_write) threaded in
      let order : InOrder (thread its entries) = order-filter (λ e. is_same e.reply.who its) entries (rises-in-order entries rises) in
      let whole-cut : thread its entries ≡ thread its o.ahead ++ ((o.opening ∷ thread its o.mid) ++ entry ∷ thread its rest) =
      ap (thread its) cut ∙ filter-append (λ e. is_same e.reply.who its) o.ahead (o.opening ∷ (o.mid ++ entry ∷ rest))
      ∙ ap (λ (b : Bool). thread its o.ahead ++ cond b (o.opening ∷ thread its (o.mid ++ entry ∷ rest)) (thread its (o.mid ++ entry ∷ rest))) same
      ∙ ap (λ (es : List Entry). thread its o.ahead ++ o.opening ∷ es) behind in
      record {
        span = span_from o.opening (o.mid ++ entry ∷ rest) o.snapshot;
        found = belongs ∙ ap (option_and_then (λ at. opened_at at entries)) told ∙ at;
        opening = o.opening;
        there = ap (λ (es : List Entry). slice_get es owner) cut ∙ ap (slice_get (o.ahead ++ o.opening ∷ (o.mid ++ entry ∷ rest))) (sym o.far) ∙ get-at o.ahead o.opening (o.mid ++ entry ∷ rest);
        shown = o.opens;
        accepted = ap (filter_map accepted_write)
            (ap (λ (es : List Entry). before es entry) replies
            ∙ replies-cut (o.opening ∷ thread its o.mid) (thread its rest) o.on
            (order-back (thread its o.ahead) ((o.opening ∷ thread its o.mid) ++ entry ∷ thread its rest) (subst InOrder whole-cut order)) (same, thread-of its o.mid))
            ∙ sym own;
        ended = λ ends. ap (filter_map accepted_write) replies ∙ ended-cut (o.opening ∷ thread its o.mid) (thread its rest) o.on ends ∙ sym own;
      }

  -- The reply's transaction, where one is opened.
  pub spanned : (owner : ℕ) → opening_of (openings_in entries) place ≡ Some owner → IsSpan entries place entry owner
  spanned owner h = by (snapshot_in entry.reply.said) refl
    where
      by : (shown : Option ℕ) → snapshot_in entry.reply.said ≡ shown → IsSpan entries place entry owner
      by (Some number) is =
          let told : Some place ≡ Some owner = sym (ap (λ (o : Option ℕ). if is_some o then Some place else held_behind front its) is) ∙ sym here ∙ h in
          subst (IsSpan entries place entry) (same_Some place owner told) (opens-own number is)
      by None is =
          let told : held_behind front its ≡ Some owner = sym (ap (λ (o : Option ℕ). if is_some o then Some place else held_behind front its) is) ∙ sym here ∙ h in
          held-own owner is told

  -- and it has none where none is
  pub unspanned : opening_of (openings_in entries) place ≡ None → transaction_with (transactions_of entries) entry ≡ None
  unspanned h = are.own front entry rest whole ∙ ap (option_and_then (λ at. opened_at at entries)) h
