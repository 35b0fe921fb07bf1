-- What the open transactions have accepted behind replies.
use Rattle.std.proofs.Common.{◌≡◌, ℕ, ◌+◌, ◌<◌, ◌≤◌, ◌⊎◌, inl, inr, suc, Bool, true, false, cond, eqb, List, [], ◌∷◌, ◌++◌, length, drop, Option, None, Some, refl, sym, ap, ◌∙◌, subst, arith, append_assoc, append-nil}
use Rattle.std.specs.List.{filter_map, slice_get}
use Rattle.std.specs.Option.{option_map_or}
use Rattle.std.specs.Prelude.{is_some, if◌then◌else◌}
use Rattle.std.proofs.lemmas.Bool.{cases_eq, ne_eqb}
use Rattle.std.proofs.lemmas.Bool.Decides.{nat_tests}
use Rattle.std.proofs.lemmas.List.{length-append, map-append, drop-append-le, drop_at}
use Rattle.std.proofs.lemmas.List.Elements.{filter-append, filter_map-append}
use Rattle.std.proofs.lemmas.Option.{same_Some}
use Rattle.cell_model.specs.declared.cell.Cell.{Cell}
use Rattle.isolation_spec.specs.declared.place.Place.{Place}
use Rattle.workload_spec.specs.declared.reply.Who.{Who}
use Rattle.workload_spec.specs.declared.reply.Who.TheVariants.{Session, Worker}
use Rattle.workload_spec.specs.declared.reply.Said.{Said}
use Rattle.workload_spec.specs.declared.reply.Said.TheVariants as said
use Rattle.outcome_spec.specs.Entries.{Entry, is_same, thread, snapshot_in, is_end, is_accepted}
use Rattle.outcome_spec.specs.Forms.{is_worker}
use Rattle.outcome_spec.specs.Runs.{accepted_write, write_of}
use Rattle.order_laws.specs.Opened.{OpensOutside}
use Rattle.outcome_counts.proofs.Starts.{get-at}
use Rattle.outcome_counts.specs.Openings.{opening_next, own_next, open_next, openings_from, openings_in}
use Rattle.outcome_counts.proofs.Held.{IsOpen, Standing, standing-nil, standing-next, impossible}
use Rattle.timeline_laws.proofs.Order.{same-is, same-itself}
use Rattle.outcome_judge.specs.Own.{is_opened, own_one, own_writes, changes_of}
use Rattle.outcome_judge.specs.Timed.{TimedWrite, timed_one}
use Rattle.outcome_judge.proofs.Own.{own-append}

-- where the open transactions are opened behind replies
abbrev pub held_from : ℕ → (Who → Option ℕ) → List Entry → Who → Option ℕ
held_from place held [] = held
held_from place held (entry ∷ entries) = held_from (place + 1) (open_next entry place held) entries

-- where the open transaction of each session is opened, behind these replies
abbrev pub held_behind : List Entry → Who → Option ℕ
held_behind entries = held_from 0 (λ who. None) entries

-- Behind a reply more, what is open from a place on is what the reply makes of it.
held-append : (place : ℕ) (held : Who → Option ℕ) (front : List Entry) (entry : Entry) → held_from place held (front ++ entry ∷ []) ≡ open_next entry (place + length front) (held_from place held front)
held-append place held [] entry = let e : place ≡ place + 0 = omega arith in ap (λ (n : ℕ). open_next entry n held) e
held-append place held (first ∷ front) entry =
    let e : (place + 1) + length front ≡ place + suc (length front) = omega arith in
    held-append (place + 1) (open_next first place held) front entry ∙ ap (λ (n : ℕ). open_next entry n (held_from (place + 1) (open_next first place held) front)) e

-- the openings of two lists of replies in a row
pub openings-append : (place : ℕ) (held : Who → Option ℕ) (front back : List Entry)
    → openings_from place held (front ++ back) ≡ openings_from place held front ++ openings_from (place + length front) (held_from place held front) back
openings-append place held [] back = let e : place ≡ place + 0 = omega arith in ap (λ (n : ℕ). openings_from n held back) e
openings-append place held (first ∷ front) back =
    let e : (place + 1) + length front ≡ place + suc (length front) = omega arith in
    ap (λ (os : List (Option ℕ)). opening_next first place held ∷ os)
    (openings-append (place + 1) (open_next first place held) front back
    ∙ ap (λ (n : ℕ). openings_from (place + 1) (open_next first place held) front ++ openings_from n (held_from (place + 1) (open_next first place held) front) back) e)

-- each reply has an opening or none
pub openings-long : (place : ℕ) (held : Who → Option ℕ) (entries : List Entry) → length (openings_from place held entries) ≡ length entries
openings-long place held [] = refl
openings-long place held (entry ∷ entries) = ap suc (openings-long (place + 1) (open_next entry place held) entries)

-- the writes that the transaction opened at a place has accepted
abbrev pub so_far : ℕ → List Entry → List TimedWrite
so_far owner front = own_writes owner 0 (openings_in front) front

-- where the transaction of the next reply is opened, if it has one
abbrev pub opening_here : List Entry → Entry → Option ℕ
opening_here front entry = opening_next entry (length front) (held_behind front)

-- the openings with a reply more
pub openings-push : (front : List Entry) (entry : Entry) → openings_in (front ++ entry ∷ []) ≡ openings_in front ++ opening_here front entry ∷ []
openings-push front entry =
    openings-append 0 (λ who. None) front (entry ∷ [])
    ∙ (let e : 0 + length front ≡ length front = omega arith in ap (λ (n : ℕ). openings_in front ++ opening_next entry n (held_behind front) ∷ []) e)

-- With a reply more, the open transactions are what it makes of those behind the front.
held-push : (front : List Entry) (entry : Entry) → held_behind (front ++ entry ∷ []) ≡ open_next entry (length front) (held_behind front)
held-push front entry =
    held-append 0 (λ who. None) front entry
    ∙ (let e : 0 + length front ≡ length front = omega arith in ap (λ (n : ℕ). open_next entry n (held_behind front)) e)

-- With a reply more, a transaction has accepted what it had and what the reply adds.
so-far-push : (owner : ℕ) (front : List Entry) (entry : Entry) → so_far owner (front ++ entry ∷ []) ≡ so_far owner front ++ own_one owner (length front) (opening_here front entry) entry
so-far-push owner front entry =
    ap (λ (os : List (Option ℕ)). own_writes owner 0 os (front ++ entry ∷ [])) (openings-push front entry)
    ∙ own-append owner 0 (openings_in front) (opening_here front entry ∷ []) front (entry ∷ []) (openings-long 0 (λ who. None) front)
    ∙ (let e : 0 + length front ≡ length front = omega arith in ap (λ (n : ℕ). so_far owner front ++ (own_one owner n (opening_here front entry) entry ++ [])) e)
    ∙ ap (λ (ws : List TimedWrite). so_far owner front ++ ws) (append-nil (own_one owner (length front) (opening_here front entry) entry))

-- ---- what is accepted

-- The changes of the one write that is accepted, if there is one, are its change.
accepted-one : (place : ℕ) (change : Option (Place × Option (List Cell))) → changes_of (option_map_or (λ its. timed_one place its ∷ []) change []) ≡ option_map_or (λ its. its ∷ []) change []
accepted-one place None = refl
accepted-one place (Some change) = refl

-- Of a single reply is kept what it shows, if it shows something.
kept-one : (f : Entry → Option (Place × Option (List Cell))) (entry : Entry) (shown : Option (Place × Option (List Cell))) → f entry ≡ shown → filter_map f (entry ∷ []) ≡ option_map_or (λ its. its ∷ []) shown []
kept-one f entry None is = rw is refl
kept-one f entry (Some change) is = rw is refl

-- What opens a transaction accepts no change.
opens-accepts-none : (told : Said) (change : Option (Place × Option (List Cell))) → is_some (snapshot_in told) ≡ true → (if is_accepted told then change else None) ≡ None
opens-accepts-none (said.At number) change h = refl
opens-accepts-none _ change h = absurd (let never : ⊥ = cc in never)

-- where there are no writes, a choice of them has none
pub none-of : (b : Bool) (ws : List TimedWrite) → ws ≡ [] → (if b then ws else []) ≡ []
none-of true ws h = h
none-of false ws h = refl

-- What stands behind replies: the open transactions, and what each has accepted; none that is
-- opened later has.
pub record Stands (front : List Entry) : Type 0 where
  pub idle : (k : ℕ) → held_behind front (Worker k) ≡ None
  pub standing : (who : Who) → Standing who front (held_behind front who)
  pub own : (who : Who) (owner : ℕ) → held_behind front who ≡ Some owner → changes_of (so_far owner front) ≡ filter_map accepted_write (thread who (drop owner front))
  pub fresh : (owner : ℕ) → length front ≤ owner → so_far owner front ≡ []

-- Before all replies no transaction is open, and none has accepted anything.
stands-nil : Stands []
stands-nil = record { idle = λ k. refl; standing = standing-nil; own = λ who owner h. absurd (let never : ⊥ = cc in never); fresh = λ owner h. refl }

module _ (entries front : List Entry) (entry : Entry) (rest : List Entry) (whole : entries ≡ front ++ entry ∷ rest) (outside : OpensOutside entries) (stands : Stands front) where
  -- Where the open transaction of each session is opened, behind the replies in front.
  abbrev held : Who → Option ℕ
  held = held_behind front

  -- The session or worker of the reply.
  abbrev its : Who
  its = entry.reply.who

  -- A transaction that one has open behind the front is open there.
  open-of : (who : Who) (owner : ℕ) → held who ≡ Some owner → IsOpen who front owner
  open-of who owner h = subst (Standing who front) h (stands.standing who)

  -- A transaction that somebody has open began at one of the replies in front.
  inside : (who : Who) (owner : ℕ) → held who ≡ Some owner → owner < length front
  inside who owner h =
      let open_ = open-of who owner h in
      let l = ap length open_.whole in
      let m = length-append open_.ahead (open_.opening ∷ open_.mid) in
      let far = open_.far in
      omega (arith, l, m, far)

  -- of two that are opened at one place, the first is the second
  one-who : (a b : Who) (owner : ℕ) → held a ≡ Some owner → held b ≡ Some owner → a ≡ b
  one-who a b owner h k =
      let x = open-of a owner h in
      let y = open-of b owner k in
      let one : x.opening ≡ y.opening = same_Some x.opening y.opening
      (sym (get-at x.ahead x.opening x.mid) ∙ ap (λ (es : List Entry). slice_get es (length x.ahead)) (sym x.whole ∙ y.whole)
      ∙ ap (slice_get (y.ahead ++ y.opening ∷ y.mid)) (x.far ∙ sym y.far) ∙ get-at y.ahead y.opening y.mid) in
      sym x.of ∙ ap (λ (e : Entry). e.reply.who) one ∙ y.of

  -- A worker has no transaction open.
  worker-none : (who : Who) → is_worker who ≡ true → held who ≡ None
  worker-none (Session n) h = impossible (sym h)
  worker-none (Worker n) h = stands.idle n

  -- There is no place where a worker's transaction is opened.
  no-owner : (who : Who) (owner : ℕ) → is_worker who ≡ true → held who ≡ Some owner → ⊥
  no-owner who owner h k = let e : None ≡ Some owner = sym (worker-none who h) ∙ k in let never : ⊥ = cc in never

  -- the reply is none of the transaction that another has open
  other-opening : (owner : ℕ) (o : Option ℕ) → (held its ≡ o) → (held its ≡ Some owner → ⊥) → option_map_or (λ at. eqb at owner) o false ≡ false
  other-opening owner None is never = refl
  other-opening owner (Some at) is never = by (cases_eq at owner)
    where
      by : (at ≡ owner) ⊎ (at ≡ owner → ⊥) → eqb at owner ≡ false
      by (inl e) = absurd (never (is ∙ ap Some e))
      by (inr n) = ne_eqb at owner n

  -- A transaction that is neither opened at the reply nor open to its session is not the reply's.
  not-opened : (owner : ℕ) (opens : Bool) → is_some (snapshot_in entry.reply.said) ≡ opens → (length front ≡ owner → ⊥) → (held its ≡ Some owner → ⊥)
      → is_opened owner (if opens then Some (length front) else held its) ≡ false
  not-opened owner true is here never = ne_eqb (length front) owner here
  not-opened owner false is here never = other-opening owner (held its) refl never

  -- A transaction that is neither opened at the reply nor its session's accepts nothing by it.
  none-more : (owner : ℕ) → (length front ≡ owner → ⊥) → (held its ≡ Some owner → ⊥) → so_far owner (front ++ entry ∷ []) ≡ so_far owner front
  none-more owner here never =
      so-far-push owner front entry
      ∙ ap (λ (b : Bool). so_far owner front ++ (if b then option_map_or (λ change. timed_one (length front + 1) change ∷ []) (accepted_write entry) [] else []))
      (not-opened owner (is_some (snapshot_in entry.reply.said)) refl here never)
      ∙ append-nil (so_far owner front)

  -- With a reply more, those from a place in front on are the same and the reply.
  dropped : (owner : ℕ) → owner ≤ length front → drop owner (front ++ entry ∷ []) ≡ drop owner front ++ entry ∷ []
  dropped owner h = drop-append-le owner front (entry ∷ []) h

  -- With a reply more, one's own from a place on have it too, if it is to him.
  thread-more : (who : Who) (owner : ℕ) (b : Bool) → owner ≤ length front → is_same its who ≡ b → thread who (drop owner (front ++ entry ∷ [])) ≡ thread who (drop owner front) ++ cond b (entry ∷ []) []
  thread-more who owner b h is =
      ap (thread who) (dropped owner h) ∙ filter-append (λ e. is_same e.reply.who who) (drop owner front) (entry ∷ [])
      ∙ ap (λ (b : Bool). thread who (drop owner front) ++ cond b (entry ∷ []) []) is

  -- another's reply changes nothing
  stays : (who : Who) (owner : ℕ) → held who ≡ Some owner → is_same its who ≡ false
      → changes_of (so_far owner (front ++ entry ∷ [])) ≡ filter_map accepted_write (thread who (drop owner (front ++ entry ∷ [])))
  stays who owner h apart =
      let within = inside who owner h in
      let never : held its ≡ Some owner → ⊥ = λ k. (let e : true ≡ false = sym (same-itself who) ∙ ap (λ (w : Who). is_same w who) (one-who who its owner h k) ∙ apart in let no : ⊥ = cc in no) in
      ap changes_of (none-more owner (λ e. let no : ⊥ = omega (arith, e, within) in no) never)
      ∙ stands.own who owner h
      ∙ ap (filter_map accepted_write) (sym (thread-more who owner false (omega (arith, within)) apart ∙ append-nil (thread who (drop owner front))))

  -- its own that goes on
  goes-on : (who : Who) (owner : ℕ) → held who ≡ Some owner → is_same its who ≡ true → is_some (snapshot_in entry.reply.said) ≡ false
      → changes_of (so_far owner (front ++ entry ∷ [])) ≡ filter_map accepted_write (thread who (drop owner (front ++ entry ∷ [])))
  goes-on who owner h same quiet =
      let within = inside who owner h in
      let here : opening_here front entry ≡ Some owner =
      ap (λ (b : Bool). if b then Some (length front) else held its) quiet ∙ ap held (same-is its who same) ∙ h in
      ap changes_of (so-far-push owner front entry)
      ∙ map-append (λ (w : TimedWrite). (w.place, w.row)) (so_far owner front) (own_one owner (length front) (opening_here front entry) entry)
      ∙ ap (λ (o : Option ℕ). changes_of (so_far owner front) ++ changes_of (own_one owner (length front) o entry)) here
      ∙ ap (λ (b : Bool). changes_of (so_far owner front) ++ changes_of (if b then option_map_or (λ change. timed_one (length front + 1) change ∷ []) (accepted_write entry) [] else []))
      (let e : eqb owner owner ≡ true = grind (arith, nat_tests) in e)
      ∙ ap (λ (cs : List (Place × Option (List Cell))). changes_of (so_far owner front) ++ cs) (accepted-one (length front + 1) (accepted_write entry))
      ∙ ap (λ (cs : List (Place × Option (List Cell))). cs ++ option_map_or (λ its. its ∷ []) (accepted_write entry) []) (stands.own who owner h)
      ∙ ap (λ (cs : List (Place × Option (List Cell))). filter_map accepted_write (thread who (drop owner front)) ++ cs) (sym (kept-one accepted_write entry (accepted_write entry) refl))
      ∙ sym (filter_map-append accepted_write (thread who (drop owner front)) (entry ∷ []))
      ∙ ap (filter_map accepted_write) (sym (thread-more who owner true (omega (arith, within)) same))

  -- its own that it opens
  opens : (who : Who) (owner : ℕ) → length front ≡ owner → is_same its who ≡ true → is_some (snapshot_in entry.reply.said) ≡ true
      → changes_of (so_far owner (front ++ entry ∷ [])) ≡ filter_map accepted_write (thread who (drop owner (front ++ entry ∷ [])))
  opens who owner far same told =
      let none : accepted_write entry ≡ None = opens-accepts-none entry.reply.said (write_of entry.command) told in
      let empty : own_one owner (length front) (opening_here front entry) entry ≡ [] =
      ap (λ (o : Option (Place × Option (List Cell))). if is_opened owner (opening_here front entry) then option_map_or (λ change. timed_one (length front + 1) change ∷ []) o [] else []) none
      ∙ none-of (is_opened owner (opening_here front entry)) [] refl in
      ap changes_of (so-far-push owner front entry ∙ ap (λ (ws : List TimedWrite). so_far owner front ++ ws) empty ∙ append-nil (so_far owner front) ∙ stands.fresh owner (omega (arith, far)))
      ∙ sym (ap (λ (es : List Entry). filter_map accepted_write (thread who es)) (drop_at front (entry ∷ []) owner far)
      ∙ ap (λ (b : Bool). filter_map accepted_write (cond b (entry ∷ []) [])) same ∙ kept-one accepted_write entry None none)

  -- By whose the reply is, an open transaction has accepted the writes of its session from there
  -- on.
  own-by : (who : Who) (owner : ℕ) (worker same : Bool) → is_worker its ≡ worker → is_same its who ≡ same
      → (if worker then held who else (if same then own_next entry (length front) (held who) else held who)) ≡ Some owner
      → changes_of (so_far owner (front ++ entry ∷ [])) ≡ filter_map accepted_write (thread who (drop owner (front ++ entry ∷ [])))
  own-by who owner true true w s h = absurd (no-owner its owner w (ap held (same-is its who s) ∙ h))
  own-by who owner true false w s h = stays who owner h s
  own-by who owner false false w s h = stays who owner h s
  own-by who owner false true w s h = by (is_some (snapshot_in entry.reply.said)) (is_end entry.reply.said) refl refl h
    where
      by : (told ends : Bool) → is_some (snapshot_in entry.reply.said) ≡ told → is_end entry.reply.said ≡ ends → (if told then Some (length front) else (if ends then None else held who)) ≡ Some owner
          → changes_of (so_far owner (front ++ entry ∷ [])) ≡ filter_map accepted_write (thread who (drop owner (front ++ entry ∷ [])))
      by true ends t e h = opens who owner (same_Some (length front) owner h) s t
      by false true t e h = absurd (let never : ⊥ = cc in never)
      by false false t e h = goes-on who owner h s t

  -- By whose the reply is, a worker has no transaction open behind it.
  idle-by : (k : ℕ) (worker same : Bool) → is_worker its ≡ worker → is_same its (Worker k) ≡ same
      → (if worker then held (Worker k) else (if same then own_next entry (length front) (held (Worker k)) else held (Worker k))) ≡ None
  idle-by k true same w s = stands.idle k
  idle-by k false false w s = stands.idle k
  idle-by k false true w s = impossible (sym (ap is_worker (same-is its (Worker k) s)) ∙ w)

  -- With a reply more, what stands behind the replies still does.
  pub stands-next : Stands (front ++ entry ∷ [])
  stands-next = record {
    idle = λ k. ap (λ (h : Who → Option ℕ). h (Worker k)) (held-push front entry) ∙ idle-by k (is_worker its) (is_same its (Worker k)) refl refl;
    standing = λ who. subst (λ (h : Who → Option ℕ). Standing who (front ++ entry ∷ []) (h who)) (sym (held-push front entry))
        (standing-next entries front entry rest whole outside held stands.idle stands.standing who);
    own = λ who owner h. own-by who owner (is_worker its) (is_same its who) refl refl (sym (ap (λ (h : Who → Option ℕ). h who) (held-push front entry)) ∙ h);
    fresh = λ owner h.
        let l = length-append front (entry ∷ []) in
        let high : length front + 1 ≤ owner = omega (arith, h, l) in
        none-more owner (λ e. let no : ⊥ = omega (arith, e, high) in no) (λ k. let within = inside its owner k in let no : ⊥ = omega (arith, within, high) in no)
        ∙ stands.fresh owner (omega (arith, high));
  }

-- What stands behind a front stands behind it and further replies.
stands-on : (entries front back rest : List Entry) → entries ≡ (front ++ back) ++ rest → OpensOutside entries → Stands front → Stands (front ++ back)
stands-on entries front [] rest whole outside stands = subst Stands (sym (append-nil front)) stands
stands-on entries front (entry ∷ back) rest whole outside stands =
    let next = stands-next entries front entry (back ++ rest) (whole ∙ append_assoc front (entry ∷ back) rest) outside stands in
    subst Stands (append_assoc front (entry ∷ []) back)
    (stands-on entries (front ++ entry ∷ []) back rest (whole ∙ ap (λ (es : List Entry). es ++ rest) (sym (append_assoc front (entry ∷ []) back))) outside next)

-- so it is behind the replies in front of each
pub stands-behind : (entries front rest : List Entry) → entries ≡ front ++ rest → OpensOutside entries → Stands front
stands-behind entries front rest whole outside = stands-on entries [] front rest whole outside stands-nil
