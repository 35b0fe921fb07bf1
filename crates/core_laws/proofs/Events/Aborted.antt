-- Candidates that are swept, slots that are rolled back, and an abort on the parts.
use Rattle.core_laws.specs.Events.Laws.{Serves}
use Rattle.event_spec.specs.declared.own.OwnTransaction.{OwnTransaction}
use Rattle.core_laws.proofs.Following.Stepping.{has_pass}
use Rattle.core_laws.specs.Following.Laws.{command_of}
use Rattle.core_laws.specs.Following.Owned.{HasOpen}
use Rattle.event_spec.specs.Parts.{Shape, Parts, CorePart, Parts, ShardOf, BodyOf, names, part_named, Changes, changed, slot_at, places_at, desk_at, body_at, shard_from, shard_of}
use Rattle.core_laws.specs.Events.Named.{KindIf}
use Rattle.std.proofs.Common.{◌≡◌, ◌≢◌, ◌⊎◌, ℕ, zero, suc, ℤ, Bool, true, false, cond, not, ◌||◌, ◌==◌, List, [], ◌∷◌, Option, None, Some, option_map, unwrap_or, is_some, map, get_or, fold, refl, sym, ap, ◌∙◌, arith, subst}
use mathlib.Core.Logic.{inl, inr}
use Rattle.std.specs.Prelude.{filter}
use Rattle.std.specs.List.{list_any}
use Rattle.std.specs.Ordering.{int_cmp, eq_by_cmp}
use Rattle.std.specs.FinMap.{get-insert, get-remove, contains_key-keys}
use Rattle.std.specs.Cmp.{int_cmp_total}
use Rattle.std.proofs.lemmas.Bool.Decides.{nat_tests}
use Rattle.block_layout.specs.Place.{block_of, slot_of}
use Rattle.isolation_spec.specs.Machine.{step_of, without}
use Rattle.key_index.specs.Candidates.{Places, candidates_of, with_candidates}
use Rattle.block_spec.specs.Slots.{Slot, bare, is_bare, rolled_back, writer_of}
use Rattle.block_spec.specs.Bodies.{Body, slot_in, rolled_back_in, is_written_by, is_writer, modified}
use Rattle.event_spec.specs.Effects.{effect, changes_of, kept_places, closed}
use Rattle.event_spec.specs.SlotSound.{IsSoundSlot}
use Rattle.event_spec.specs.Lawful.{Among}
use Rattle.event_spec.specs.Follows.{StandsBefore}
use Rattle.core_laws.proofs.Slots.Ages.{before_filter}
use Rattle.core_laws.proofs.Slots.Endings.{rolled_back_other}
use Rattle.core_laws.proofs.Following.Aborts.{abort_keeps}
use Rattle.core_laws.proofs.Events.States.{named_changed, kinds_after, shards_after, desk_after, desk_at_after, slot_after, carried, slot_map}
use Rattle.core_laws.proofs.Events.Places.{key_cases}
use Rattle.event_spec.specs.declared.event.Event.TheVariants as event
use Rattle.core_laws.proofs.Following.Sessions as sessions
use Rattle.event_spec.specs.declared.part.Part.TheVariants as part
use Rattle.std.specs.FinMap as finite
use Rattle.std.proofs.lemmas.Bool.{not-true}
use Rattle.isolation_spec.specs.declared.command.Act.TheVariants as act
use Rattle.isolation_spec.specs.declared.command.Answer.TheVariants as answer

-- ---- candidates that are kept

-- A key that is given candidates has these, and each other key its own.
put_is : (ix : Places) (key k : ℤ) (ps : List ℕ) → candidates_of (with_candidates ix key ps) k ≡ cond (eq_by_cmp int_cmp k key) ps (candidates_of ix k)
put_is ix key k [] = ap (λ o. unwrap_or o []) (get-remove int_cmp_total ix key k) ∙ go (eq_by_cmp int_cmp k key)
  where
    go : (b : Bool) → unwrap_or (cond b None (finite.get ix k)) [] ≡ cond b [] (candidates_of ix k)
    go true = refl
    go false = refl
put_is ix key k (p ∷ ps) = ap (λ o. unwrap_or o []) (get-insert int_cmp_total ix key (p ∷ ps) k) ∙ go (eq_by_cmp int_cmp k key)
  where
    go : (b : Bool) → unwrap_or (cond b (Some (p ∷ ps)) (finite.get ix k)) [] ≡ cond b (p ∷ ps) (candidates_of ix k)
    go true = refl
    go false = refl

-- The candidates of one entry's key are cut to those that are kept.
abbrev step_by : (ℕ → Bool) → Places → Places → ℤ × List ℕ → Places
step_by keep ix now entry = with_candidates now entry.0 (filter keep (candidates_of ix entry.0))

-- Keys that are gone through have the candidates that are kept, and others their own.
kept_from : (keep : ℕ → Bool) (ix now : Places) (es : List (ℤ × List ℕ)) (k : ℤ)
    → candidates_of (fold (step_by keep ix) now es) k ≡ cond (list_any (eq_by_cmp int_cmp k) (map (λ e. e.0) es)) (filter keep (candidates_of ix k)) (candidates_of now k)
kept_from keep ix now [] k = refl
kept_from keep ix now (e ∷ es) k = kept_from keep ix (step_by keep ix now e) es k ∙ go (key_cases k e.0)
  where
    same : (b : Bool) (x : List ℕ) → cond b x x ≡ x
    same true x = refl
    same false x = refl

    here : candidates_of (step_by keep ix now e) k ≡ cond (eq_by_cmp int_cmp k e.0) (filter keep (candidates_of ix e.0)) (candidates_of now k)
    here = put_is now e.0 k (filter keep (candidates_of ix e.0))

    go : ((eq_by_cmp int_cmp k e.0 ≡ true) × (k ≡ e.0)) ⊎ ((eq_by_cmp int_cmp k e.0 ≡ false) × (k ≢ e.0))
        → cond (list_any (eq_by_cmp int_cmp k) (map (λ e. e.0) es)) (filter keep (candidates_of ix k)) (candidates_of (step_by keep ix now e) k)
        ≡ cond (eq_by_cmp int_cmp k e.0 || list_any (eq_by_cmp int_cmp k) (map (λ e. e.0) es)) (filter keep (candidates_of ix k)) (candidates_of now k)
    go (inl x) =
        ap (cond (list_any (eq_by_cmp int_cmp k) (map (λ e. e.0) es)) (filter keep (candidates_of ix k)))
        (here ∙ ap (λ b. cond b (filter keep (candidates_of ix e.0)) (candidates_of now k)) x.0 ∙ ap (λ k. filter keep (candidates_of ix k)) (sym x.1))
        ∙ same (list_any (eq_by_cmp int_cmp k) (map (λ e. e.0) es)) (filter keep (candidates_of ix k))
        ∙ ap (λ b. cond (b || list_any (eq_by_cmp int_cmp k) (map (λ e. e.0) es)) (filter keep (candidates_of ix k)) (candidates_of now k)) (sym x.0)
    go (inr x) =
        ap (cond (list_any (eq_by_cmp int_cmp k) (map (λ e. e.0) es)) (filter keep (candidates_of ix k))) (here ∙ ap (λ b. cond b (filter keep (candidates_of ix e.0)) (candidates_of now k)) x.0)
        ∙ ap (λ b. cond (b || list_any (eq_by_cmp int_cmp k) (map (λ e. e.0) es)) (filter keep (candidates_of ix k)) (candidates_of now k)) (sym x.0)

-- a key's candidates are those that pass
pub kept_is : (keep : ℕ → Bool) (ix : Places) (k : ℤ) → candidates_of (kept_places keep ix) k ≡ filter keep (candidates_of ix k)
kept_is keep ix k =
    kept_from keep ix ix (finite.entries ix) k
    ∙ ap (λ b. cond b (filter keep (candidates_of ix k)) (candidates_of ix k)) (sym (contains_key-keys ix k))
    ∙ go (finite.get ix k)
  where
    go : (o : Option (List ℕ)) → cond (is_some o) (filter keep (unwrap_or o [])) (unwrap_or o []) ≡ filter keep (unwrap_or o [])
    go None = refl
    go (Some ps) = refl

-- a place that is kept is one of the places, and passes
pub among_filter : (keep : ℕ → Bool) (p : ℕ) (ps : List ℕ) → Among p (filter keep ps) → Among p ps × (keep p ≡ true)
among_filter keep p [] a = absurd a
among_filter keep p (x ∷ ps) a = go (keep x) refl a (among_filter keep p ps)
  where
    go : (b : Bool) → keep x ≡ b → Among p (cond b (x ∷ filter keep ps) (filter keep ps)) → (Among p (filter keep ps) → Among p ps × (keep p ≡ true)) → Among p (x ∷ ps) × (keep p ≡ true)
    go true is (inl e) rest = (inl e, ap keep e ∙ is)
    go true is (inr b) rest = let r = rest b in (inr r.0, r.1)
    go false is b rest = let r = rest b in (inr r.0, r.1)

-- one of the places that passes is kept
pub filter_among : (keep : ℕ → Bool) (p : ℕ) (ps : List ℕ) → Among p ps → keep p ≡ true → Among p (filter keep ps)
filter_among keep p [] a k = absurd a
filter_among keep p (x ∷ ps) a k = go (keep x) refl a (λ b. filter_among keep p ps b k)
  where
    true_false : true ≡ false → ⊥
    true_false e = cc

    go : (b : Bool) → keep x ≡ b → Among p (x ∷ ps) → (Among p ps → Among p (filter keep ps)) → Among p (cond b (x ∷ filter keep ps) (filter keep ps))
    go true is (inl e) rest = inl e
    go true is (inr b) rest = inr (rest b)
    go false is (inl e) rest = absurd (true_false (sym k ∙ ap keep e ∙ is))
    go false is (inr b) rest = rest b

-- ---- slots that are rolled back

-- Where a session wrote no slot, it did not write this one.
unwritten : (q : ℕ) (slots : List Slot) (j : ℕ) → list_any (λ slot. is_writer q (writer_of slot.entries)) slots ≡ false → is_writer q (writer_of (get_or slots j bare).entries) ≡ false
unwritten q [] j is = refl
unwritten q (x ∷ slots) zero is = go (is_writer q (writer_of x.entries)) is
  where
    go : (b : Bool) → (b || list_any (λ slot. is_writer q (writer_of slot.entries)) slots) ≡ false → b ≡ false
    go true e = e
    go false e = refl
unwritten q (x ∷ slots) (suc j) is = unwritten q slots j (go (is_writer q (writer_of x.entries)) is)
  where
    go : (b : Bool) → (b || list_any (λ slot. is_writer q (writer_of slot.entries)) slots) ≡ false → list_any (λ slot. is_writer q (writer_of slot.entries)) slots ≡ false
    go true e = cc
    go false e = e

-- The session that is a slot's writer is tested to be.
writer_is : (q : ℕ) (o : Option ℕ) → o ≡ Some q → is_writer q o ≡ true
writer_is q o is = ap (is_writer q) is ∙ self q
  where
    self : (q : ℕ) → (q == q) ≡ true
    self q = grind (arith, nat_tests)

-- In a body that is rolled back each sound slot is rolled back.
pub rolled_slot : (q newest commits : ℕ) (body : Body) (j : ℕ) → IsSoundSlot newest commits (slot_in body j) → slot_in (rolled_back_in q body) j ≡ rolled_back q (slot_in body j)
rolled_slot q newest commits body j ok = go (is_written_by q body) refl
  where
    true_false : true ≡ false → ⊥
    true_false e = cc

    go : (b : Bool) → is_written_by q body ≡ b → slot_in (rolled_back_in q body) j ≡ rolled_back q (slot_in body j)
    go true is =
        ap (λ b. slot_in (cond b (record (modified body) { slots = map (rolled_back q) body.slots }) body) j) is
        ∙ slot_map (rolled_back q) refl body.slots j
    go false is =
        ap (λ b. slot_in (cond b (record (modified body) { slots = map (rolled_back q) body.slots }) body) j) is
        ∙ sym (rolled_back_other q (slot_in body j) ok.lawful (λ w. true_false (sym (writer_is q (writer_of (slot_in body j).entries) w) ∙ unwritten q body.slots j is)))

-- ---- abort

-- An abort is answered as the machine may, and the parts follow.
pub abort_serves : (sh : Shape) (s : Parts) (me : OwnTransaction) → HasOpen (desk_at sh s) me.session me.snapshot
    → Serves sh s (event.Abort me) (command_of me.session act.Abort)
abort_serves sh s me has m f = (
  without me.session m,
  ap (step_of m (record { session = me.session; act = act.Abort })) (sessions.mine (slot_at sh s) (places_at sh s) (desk_at sh s) m f.follows me.session me.snapshot has)
      ∙ ap (λ x. (answer.Aborted, without x m)) (sessions.of_session (slot_at sh s) (places_at sh s) (desk_at sh s) m f.follows me.session me.snapshot has),
  record {
    kinds = kinds_after sh s c f.kinds;
    desk = (closed me.session f.desk.0, desk_after sh s c f.desk.0 f.desk.1);
    shards = shards_after sh s c f.shards;
    follows = carried (without me.session m) slots (λ t key. refl) (desk_at_after sh s c f.desk.0 f.desk.1)
        (abort_keeps (slot_at sh s) (places_at sh s) (places_at sh (effect sh s (event.Abort me))) (desk_at sh s) m f.follows me.session (has_pass (desk_at sh s) me.session me.snapshot has) kept stays order);
  },
)
  where
    c : Changes
    c = changes_of sh s (event.Abort me)

    slots : (t p : ℕ) → slot_at sh (effect sh s (event.Abort me)) t p ≡ rolled_back me.session (slot_at sh s t p)
    slots t p = slot_after sh s (changes_of sh s (event.Abort me)) (rolled_back me.session) refl t p (f.kinds (BodyOf t (block_of p)))
        (rolled_slot me.session (desk_at sh s).newest (desk_at sh s).commits (body_at sh s t (block_of p)) (slot_of p) (f.follows.slots t p))

    -- the test of a candidate
    keep : ℕ → ℕ → Bool
    keep t p = not (is_bare (slot_in (rolled_back_in me.session (body_at sh s t (block_of p))) (slot_of p)))

    keep_is : (t p : ℕ) → not (is_bare (slot_in (rolled_back_in me.session (body_at sh s t (block_of p))) (slot_of p))) ≡ not (is_bare (rolled_back me.session (slot_at sh s t p)))
    keep_is t p = ap (λ x. not (is_bare x)) (rolled_slot me.session (desk_at sh s).newest (desk_at sh s).commits (body_at sh s t (block_of p)) (slot_of p) (f.follows.slots t p))

    places : (t : ℕ) (key : ℤ) → places_at sh (effect sh s (event.Abort me)) t key ≡ filter (λ p. not (is_bare (slot_in (rolled_back_in me.session (body_at sh s t (block_of p))) (slot_of p)))) (places_at sh s t key)
    places t key = go (part_named (names sh) s (ShardOf t (shard_of key))) refl (f.kinds (ShardOf t (shard_of key)))
      where
        go : (o : Option CorePart) → part_named (names sh) s (ShardOf t (shard_of key)) ≡ o → KindIf (ShardOf t (shard_of key)) o
            → places_at sh (effect sh s (event.Abort me)) t key ≡ filter (λ p. not (is_bare (slot_in (rolled_back_in me.session (body_at sh s t (block_of p))) (slot_of p)))) (places_at sh s t key)
        go None is k =
            ap (λ o. candidates_of (shard_from o) key) (named_changed (changes_of sh s (event.Abort me)) (names sh) s (ShardOf t (shard_of key)) ∙ ap (option_map (changed (changes_of sh s (event.Abort me)) (ShardOf t (shard_of key)))) is)
            ∙ no_candidates key
            ∙ ap (filter (λ p. not (is_bare (slot_in (rolled_back_in me.session (body_at sh s t (block_of p))) (slot_of p))))) (sym (no_candidates key) ∙ ap (λ o. candidates_of (shard_from o) key) (sym is))
          where
            no_candidates : (key : ℤ) → candidates_of (shard_from None) key ≡ []
            no_candidates key = ap (λ o. unwrap_or o []) (finite.get-empty int_cmp key)
        go (Some (part.Head x)) is k = absurd k
        go (Some (part.Shard x)) is k =
            ap (λ o. candidates_of (shard_from o) key) (named_changed (changes_of sh s (event.Abort me)) (names sh) s (ShardOf t (shard_of key)) ∙ ap (option_map (changed (changes_of sh s (event.Abort me)) (ShardOf t (shard_of key)))) is)
            ∙ kept_is (λ p. not (is_bare (slot_in (rolled_back_in me.session (body_at sh s t (block_of p))) (slot_of p)))) x key
            ∙ ap (λ o. filter (λ p. not (is_bare (slot_in (rolled_back_in me.session (body_at sh s t (block_of p))) (slot_of p)))) (candidates_of (shard_from o) key)) (sym is)
        go (Some (part.Body x)) is k = absurd k
        go (Some (part.Desk x)) is k = absurd k

    kept : (t p : ℕ) (key : ℤ) → Among p (places_at sh (effect sh s (event.Abort me)) t key) → Among p (places_at sh s t key) × (is_bare (rolled_back me.session (slot_at sh s t p)) ≡ false)
    kept t p key a =
        let r = among_filter (λ p. not (is_bare (slot_in (rolled_back_in me.session (body_at sh s t (block_of p))) (slot_of p)))) p (places_at sh s t key) (subst (Among p) (places t key) a) in
        (r.0, not-true (is_bare (rolled_back me.session (slot_at sh s t p))) (sym (keep_is t p) ∙ r.1))

    stays : (t p : ℕ) (key : ℤ) → Among p (places_at sh s t key) → is_bare (rolled_back me.session (slot_at sh s t p)) ≡ false → Among p (places_at sh (effect sh s (event.Abort me)) t key)
    stays t p key a is =
        subst (Among p) (sym (places t key))
        (filter_among (λ p. not (is_bare (slot_in (rolled_back_in me.session (body_at sh s t (block_of p))) (slot_of p)))) p (places_at sh s t key) a (keep_is t p ∙ ap not is))

    order : (t a b : ℕ) (key : ℤ) → StandsBefore a b (places_at sh (effect sh s (event.Abort me)) t key) → StandsBefore a b (places_at sh s t key)
    order t a b key x =
        before_filter (λ p. not (is_bare (slot_in (rolled_back_in me.session (body_at sh s t (block_of p))) (slot_of p)))) a b (places_at sh s t key)
        (subst (StandsBefore a b) (places t key) x)
