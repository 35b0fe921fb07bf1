-- A row's entry for which room was made, and which is then filled or taken away.
use Rattle.std.proofs.Common.{◌≡◌, ℕ, Bool, true, false, cond, [], ◌∷◌, Option, None, Some, is_some, Ordering, Less, Equal, Greater, refl, sym, ap, ◌∙◌, true≢false}
use Rattle.std.specs.BTreeMap.{insert_entry}
use Rattle.std.specs.Map.{remove_entry}
use Rattle.std.specs.Cmp.{tied_itself}
use Rattle.std.specs.Ordering.{is_eq, match_ordering}
use Rattle.isolation_laws.proofs.Overlays.{at-insert}
use Rattle.isolation_laws.proofs.Rows.{place_cmp-total}
use Rattle.isolation_spec.specs.Contents.{PlaceMap, at_place, is_place, place_cmp}
use Rattle.isolation_spec.specs.declared.place.Place.{Place}
use Rattle.store_laws.proofs.Maps.{itself}
use Rattle.event_spec.specs.declared.reply.Reply.TheVariants as reply
use Rattle.event_spec.specs.Replies.{CoreReply}
use Rattle.sole_store.specs.Writing.{settled, with_room}

-- a place compares as equal to itself
same : (p : Place) → place_cmp p p ≡ Equal
same p = tied_itself place_cmp-total p

-- The last of two values laid at one place stands.
twice : (m : PlaceMap ℕ) (p : Place) (one other : ℕ) → insert_entry place_cmp (insert_entry place_cmp m p one) p other ≡ insert_entry place_cmp m p other
twice [] p one other = ap (λ r. match_ordering r ((p, other) ∷ (p, one) ∷ []) ((p, other) ∷ []) ((p, one) ∷ (p, other) ∷ [])) (same p)
twice (e ∷ m) p one other = go (place_cmp p e.0) refl (twice m p one other)
  where
    go : (r : Ordering) → place_cmp p e.0 ≡ r → insert_entry place_cmp (insert_entry place_cmp m p one) p other ≡ insert_entry place_cmp m p other
        → insert_entry place_cmp (match_ordering r ((p, one) ∷ e ∷ m) ((e.0, one) ∷ m) (e ∷ insert_entry place_cmp m p one)) p other
        ≡ match_ordering r ((p, other) ∷ e ∷ m) ((e.0, other) ∷ m) (e ∷ insert_entry place_cmp m p other)
    go Less is rest = ap (λ r. match_ordering r ((p, other) ∷ (p, one) ∷ e ∷ m) ((p, other) ∷ e ∷ m) ((p, one) ∷ insert_entry place_cmp (e ∷ m) p other)) (same p)
    go Equal is rest = ap (λ r. match_ordering r ((p, other) ∷ (e.0, one) ∷ m) ((e.0, other) ∷ m) ((e.0, one) ∷ insert_entry place_cmp m p other)) is
    go Greater is rest =
        ap (λ r. match_ordering r ((p, other) ∷ e ∷ insert_entry place_cmp m p one) ((e.0, other) ∷ insert_entry place_cmp m p one) (e ∷ insert_entry place_cmp (insert_entry place_cmp m p one) p other)) is
        ∙ ap (λ (es : PlaceMap ℕ). e ∷ es) rest

-- What was laid where nothing lay is taken away again.
gone : (m : PlaceMap ℕ) (p : Place) (one : ℕ) → at_place m p ≡ None → remove_entry (is_place p) (insert_entry place_cmp m p one) ≡ m
gone [] p one none' = ap (λ b. cond {A = PlaceMap ℕ} b [] ((p, one) ∷ [])) (itself p)
gone (e ∷ m) p one none' = go (place_cmp p e.0) refl none' (gone m p one)
  where
    some_none : (x : ℕ) → Some x ≡ None → ⊥
    some_none x h = cc

    go : (r : Ordering) → place_cmp p e.0 ≡ r → cond (is_eq r) (Some e.1) (at_place m p) ≡ None → (at_place m p ≡ None → remove_entry (is_place p) (insert_entry place_cmp m p one) ≡ m)
        → remove_entry (is_place p) (match_ordering r ((p, one) ∷ e ∷ m) ((e.0, one) ∷ m) (e ∷ insert_entry place_cmp m p one)) ≡ e ∷ m
    go Less is away later = ap (λ b. cond b (e ∷ m) ((p, one) ∷ remove_entry (is_place p) (e ∷ m))) (itself p)
    go Equal is away later = absurd (some_none e.1 away)
    go Greater is away later =
        ap (λ r. cond (is_eq r) (insert_entry place_cmp m p one) (e ∷ remove_entry (is_place p) (insert_entry place_cmp m p one))) is
        ∙ ap (λ (es : PlaceMap ℕ). e ∷ es) (later away)

-- a row for which room was made has an entry
pub has_room : (m : PlaceMap ℕ) (p : Place) (had : Bool) → is_some (at_place m p) ≡ had → at_place (with_room m p had) p ≡ None → ⊥
has_room m p false is none' = go 0 (sym (at-insert m p 0 p ∙ ap (λ b. cond b (Some 0) (at_place m p)) (itself p)) ∙ none')
  where
    go : (x : ℕ) → Some x ≡ None → ⊥
    go x h = cc
has_room m p true is none' = true≢false (sym is ∙ ap (λ (o : Option ℕ). is_some o) none')

-- its slot is laid as if no room had been made
pub filled : (m : PlaceMap ℕ) (p : Place) (had : Bool) (slot : ℕ) → insert_entry place_cmp (with_room m p had) p slot ≡ insert_entry place_cmp m p slot
filled m p false slot = twice m p 0 slot
filled m p true slot = refl

-- room that was made is taken away again
pub taken_back : (m before now : PlaceMap ℕ) (p : Place) (had : Bool) → is_some (at_place before p) ≡ had → m ≡ with_room before p had
    → (had ≡ true → now ≡ m) → (had ≡ false → now ≡ remove_entry (is_place p) m) → now ≡ before
taken_back m before now p true is room some none = some refl ∙ room
taken_back m before now p false is room some none = none refl ∙ ap (remove_entry (is_place p)) room ∙ gone before p 0 (go (at_place before p) is)
  where
    go : (o : Option ℕ) → is_some o ≡ false → o ≡ None
    go None h = refl
    go (Some x) h = absurd (true≢false h)

-- a reply of which no slot was written settles nothing
pub settles_else : (writes : PlaceMap ℕ) (place : Place) (told : CoreReply) → ((slot : ℕ) → told ≡ reply.Written slot → ⊥) → settled writes place told ≡ writes
settles_else writes place (reply.Written slot) other = absurd (other slot refl)
settles_else writes place (reply.Begun begun) other = refl
settles_else writes place (reply.Found row) other = refl
settles_else writes place (reply.Refused fault) other = refl
settles_else writes place (reply.Rows rows) other = refl
settles_else writes place (reply.Shared rows) other = refl
settles_else writes place (reply.Committed number) other = refl
settles_else writes place (reply.Stale what number) other = refl
settles_else writes place reply.Aborted other = refl
settles_else writes place (reply.Oldest oldest) other = refl
settles_else writes place (reply.Turned turned) other = refl
settles_else writes place (reply.Dropped count) other = refl
settles_else writes place (reply.Looked look) other = refl
settles_else writes place (reply.Moved count) other = refl
settles_else writes place (reply.Sealed stamp) other = refl
settles_else writes place (reply.NotSealed because) other = refl
settles_else writes place (reply.Imaged rows) other = refl
settles_else writes place reply.NoSeal other = refl
settles_else writes place reply.Thawed other = refl
settles_else writes place reply.Memory other = refl
