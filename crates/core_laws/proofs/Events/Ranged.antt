-- What a session finds of the keys of a range is what the machine answers.
use Rattle.std.proofs.Common.{◌≡◌, ◌⊎◌, ℕ, ℤ, Bool, true, cond, ◌==◌, List, [], ◌∷◌, Option, None, Some, refl, sym, ap, ◌∙◌, All, arith}
use mathlib.Core.Logic.{inl, inr}
use Rattle.std.specs.BTreeMap.{insert_entry}
use Rattle.std.specs.List.{cons_option, filter_map}
use Rattle.std.specs.Map.{keys_of}
use Rattle.std.specs.Option.{option_or}
use Rattle.std.proofs.lemmas.Bool.{and_from, and_parts}
use Rattle.std.proofs.lemmas.Bool.Decides.{nat_tests}
use Rattle.std.proofs.lemmas.List.Elements.{All-head, All-nil, All-tail}
use Rattle.block_spec.specs.Slots.{Row, seen}
use Rattle.cell_model.specs.Values.{is_between}
use Rattle.core_laws.proofs.Events.Lists.{kept_member, member_kept}
use Rattle.core_laws.proofs.Events.Puts.{order_put, put, put_has}
use Rattle.core_laws.proofs.Events.Slots.{num_refl}
use Rattle.core_laws.proofs.Events.Still.{stays}
use Rattle.core_laws.proofs.Following.Finds.{found_is}
use Rattle.core_laws.proofs.Following.Sessions as sessions
use Rattle.core_laws.proofs.Following.Sessions.{option_cases}
use Rattle.core_laws.proofs.Stale.Keys.{lists_keys}
use Rattle.core_laws.specs.Events.Laws.{Serves}
use Rattle.core_laws.specs.Events.Named.{FollowsMachine}
use Rattle.core_laws.specs.Following.Laws.{command_of}
use Rattle.core_laws.specs.Following.Owned.{HasOpen, OwnSlot}
use Rattle.event_spec.specs.declared.event.Event.TheVariants as event
use Rattle.event_spec.specs.declared.own.OwnTransaction.{OwnTransaction}
use Rattle.event_spec.specs.Effects.{found, range_found, range_keys}
use Rattle.event_spec.specs.Judged.{first_at, found_at, own_key}
use Rattle.event_spec.specs.Lawful.{Among}
use Rattle.event_spec.specs.Parts.{Parts, Shape, desk_at, places_at, slot_at}
use Rattle.event_spec.specs.Replies.{by_place, in_key_order}
use Rattle.std.proofs.lemmas.Map.Views.{All-keys-insert_entry}
use Rattle.isolation_laws.proofs.Maps.{itself, one_place, same_chosen}
use Rattle.isolation_spec.specs.Contents.{State, at_place, contents_between, is_in_range, is_place, key_of, place_at, place_cmp, place_of}
use Rattle.isolation_spec.specs.declared.command.Act.TheVariants as act
use Rattle.isolation_spec.specs.declared.command.Answer.TheVariants as answer
use Rattle.isolation_spec.specs.declared.place.Place.{Place}
use Rattle.isolation_spec.specs.Machine.{IsolationMachine, Transaction, seen_rows, step_of}

-- the first answer of some places is one of a place
first_shown : {X : Type 0} (shown : ℕ → Option X) (ps : List ℕ) (x : X) → first_at shown ps ≡ Some x → (p : ℕ) × Among p ps × (shown p ≡ Some x)
first_shown shown [] x is = cc
first_shown {X} shown (p ∷ ps) x is = go (shown p) refl is (first_shown shown ps x)
  where
    go : (o : Option X) → shown p ≡ o → option_or o (first_at shown ps) ≡ Some x → (first_at shown ps ≡ Some x → (q : ℕ) × Among q ps × (shown q ≡ Some x))
        → (q : ℕ) × Among q (p ∷ ps) × (shown q ≡ Some x)
    go None here is rest = let r = rest is in (r.0, inr r.1, r.2)
    go (Some y) here is rest = (p, inl refl, here ∙ is)

-- what a test of the places lets through of a map, where it is told alike of all its places
alike_chosen : (test other : Place → Bool) (rows : State) → All (λ place. other place ≡ test place) (keys_of rows)
    → filter_map (λ (entry : Place × Row). cond (other entry.0) (Some entry.1) None) rows ≡ filter_map (λ (entry : Place × Row). cond (test entry.0) (Some entry.1) None) rows
alike_chosen test other [] same = refl
alike_chosen test other (e ∷ rows) same =
    ap (λ b. cons_option (cond b (Some e.1) None) (filter_map (λ (entry : Place × Row). cond (other entry.0) (Some entry.1) None) rows))
    (All-head (λ place. other place ≡ test place) e.0 (keys_of rows) same)
    ∙ ap (cons_option (cond (test e.0) (Some e.1) None)) (alike_chosen test other rows (All-tail (λ place. other place ≡ test place) e.0 (keys_of rows) same))

-- what holds of the place of each row holds of all places where the rows are put
all_put : (t : ℕ) (P : Place → Type 0) (rows : List Row) (acc : State) → ((row : Row) → Among row rows → P (place_of t row)) → All P (keys_of acc) → All P (keys_of (put t acc rows))
all_put t P [] acc each all = all
all_put t P (row ∷ rows) acc each all =
    all_put t P rows (insert_entry place_cmp acc (place_of t row) row) (λ r a. each r (inr a))
    (All-keys-insert_entry place_cmp (place_of t row) row P acc all (each row (inl refl)))

module _ (sh : Shape) (s : Parts) (own : OwnTransaction) (t : ℕ) (low high : ℤ) (m : IsolationMachine) (f : FollowsMachine sh s m)
    (has : HasOpen (desk_at sh s) own.session own.snapshot)
    (slots : (key : ℤ) → OwnSlot (slot_at sh s) (places_at sh s) own.session t key (at_place own.writes (place_at t key))) where
  -- The machine's transaction of the session, and what it sees.
  abbrev the : Transaction
  the = sessions.tr (slot_at sh s) (places_at sh s) (desk_at sh s) m f.follows own.session own.snapshot has

  abbrev view : State
  view = seen_rows m the

  -- what the session finds of a key
  abbrev row_of : ℤ → Option Row
  row_of key = found sh s (own_key t key own) t key

  -- It is the machine's.
  pub row_is : (key : ℤ) → row_of key ≡ at_place view (place_at t key)
  row_is key = found_is (slot_at sh s) (places_at sh s) (desk_at sh s) m f.follows own.session own.snapshot has t key (at_place own.writes (place_at t key)) (slots key)

  -- A row that is found is shown at a candidate of its key.
  shown_at : (key : ℤ) (row : Row) → row_of key ≡ Some row
      → (p : ℕ) × Among p (places_at sh s t key) × (seen (slot_at sh s t p) own.snapshot.stamp own.session ≡ Some row)
  shown_at key row is = go (option_cases (at_place own.writes (place_at t key)))
    where
      by : Option ℕ → Option Row
      by written = found_at (slot_at sh s t) (places_at sh s t key) (own_key t key own) written

      go : (at_place own.writes (place_at t key) ≡ None) ⊎ ((w : ℕ) × (at_place own.writes (place_at t key) ≡ Some w))
          → (p : ℕ) × Among p (places_at sh s t key) × (seen (slot_at sh s t p) own.snapshot.stamp own.session ≡ Some row)
      go (inl none) = first_shown (λ p. seen (slot_at sh s t p) own.snapshot.stamp own.session) (places_at sh s t key) row (sym (ap by none) ∙ is)
      go (inr w) = (w.0, ((slots key).there w.0 w.1).0, sym (ap by w.1) ∙ is)

  -- So it has that key.
  pub keyed : (key : ℤ) (row : Row) → row_of key ≡ Some row → key_of row ≡ key
  keyed key row is =
      let at = shown_at key row is in
      sessions.key_shown (slot_at sh s) (places_at sh s) (desk_at sh s) m f.follows own.session own.snapshot has t at.0 key own.snapshot.stamp own.session row at.1 at.2

  -- The rows that are found, and the places where they are put.
  abbrev rows : List Row
  rows = range_found sh s own t low high

  -- Each is the row of a key of the range.
  from_key : (row : Row) → Among row rows → (row_of (key_of row) ≡ Some row) × (is_between low high (key_of row) ≡ true)
  from_key row a =
      let key = kept_member row_of (range_keys sh s t low high) row a in
      let same = keyed key.0 row key.2 in
      (ap row_of same ∙ key.2, ap (is_between low high) same ∙ (lists_keys sh s).within t low high key.0 key.1)

  -- A place of the range has its row among these exactly where the machine has it.
  put_is : (p : Place) → is_in_range t low high p ≡ true → at_place (by_place t rows) p ≡ at_place view p
  put_is p inside = put_has t p (at_place view p) rows [] each (go (option_cases (row_of p.key)))
    where
      both : ((p.table == t) ≡ true) × (is_between low high p.key ≡ true)
      both = and_parts (p.table == t) (is_between low high p.key) inside

      here : p ≡ place_at t p.key
      here = ap (λ (n : ℕ). record { table = n; key = p.key }) (num p.table t both.0)
        where
          num : (a b : ℕ) → (a == b) ≡ true → a ≡ b
          num a b e = grind (arith, nat_tests, e)

      found_here : row_of p.key ≡ at_place view p
      found_here = row_is p.key ∙ ap (at_place view) (sym here)

      each : (row : Row) → Among row rows → is_place p (place_of t row) ≡ true → at_place view p ≡ Some row
      each row a at = ap (at_place view) (one_place p (place_of t row) at) ∙ sym (row_is (key_of row)) ∙ (from_key row a).0

      go : (row_of p.key ≡ None) ⊎ ((row : Row) × (row_of p.key ≡ Some row))
          → (at_place [] p ≡ at_place view p) ⊎ ((row : Row) × Among row rows × (is_place p (place_of t row) ≡ true))
      go (inl none) = inl (sym none ∙ found_here)
      go (inr row) =
          let at = shown_at p.key row.0 row.1 in
          inr (
            row.0,
            member_kept row_of (range_keys sh s t low high) p.key row.0 ((lists_keys sh s).all t low high p.key at.0 at.1 both.1) row.1,
            ap (λ q. is_place p q) (ap (place_at t) (keyed p.key row.0 row.1) ∙ sym here) ∙ itself p,
          )

  -- In the order of their keys the rows are the machine's of the range.
  pub in_range : in_key_order t rows ≡ contents_between t low high view
  in_range =
      alike_chosen (is_in_range t low high) (λ place. place.table == t) (by_place t rows)
      (all_put t (λ place. (place.table == t) ≡ is_in_range t low high place) rows [] each (All-nil _))
      ∙ same_chosen (is_in_range t low high) (by_place t rows) view (order_put t rows [] tt)
      (sessions.seen_order (slot_at sh s) (places_at sh s) (desk_at sh s) m f.follows own.session own.snapshot has)
      put_is
    where
      each : (row : Row) → Among row rows → (t == t) ≡ is_in_range t low high (place_of t row)
      each row a = num_refl t ∙ sym (and_from (t == t) (is_between low high (key_of row)) (num_refl t) (from_key row a).1)

-- A range is answered as the machine may, and the parts follow.
pub range_serves : (sh : Shape) (s : Parts) (own : OwnTransaction) (t : ℕ) (low high : ℤ) → HasOpen (desk_at sh s) own.session own.snapshot
    → ((key : ℤ) → OwnSlot (slot_at sh s) (places_at sh s) own.session t key (at_place own.writes (place_at t key)))
    → Serves sh s (event.Range own t low high) (command_of own.session (act.Range t low high))
range_serves sh s own t low high has slots m f = (
  m,
  ap (step_of m (command_of own.session (act.Range t low high))) (sessions.mine (slot_at sh s) (places_at sh s) (desk_at sh s) m f.follows own.session own.snapshot has)
      ∙ ap (λ rows. (answer.Rows rows, m)) (sym (in_range sh s own t low high m f has slots)),
  stays sh s m f,
)
