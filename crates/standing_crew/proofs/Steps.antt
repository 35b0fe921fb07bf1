-- Each step at a desk keeps its rule.
use Rattle.std.proofs.Common.{◌≡◌, ℕ, ◌<◌, zero, suc, Bool, true, false, true≢false, List, [], ◌∷◌, ◌++◌, length, set}
use Rattle.std.proofs.Common.{Option, None, Some, is_some, sym, refl, ap, ◌∙◌, subst, inl, inr, ⊎_elim}
use mathlib.Core.Option.{some, some-ne-none, some-injective}
use lib.ListN.{get_elem?}
use Rattle.crossbeam_queue.specs.Fifo.{Pushes, Pops, Forks, Learns}
use Rattle.crossbeam_queue.specs.Passes.{IsPassOf, IsSamePass, Pass}
use Rattle.standing_crew.specs.declared.rule.Item.{Item}
use Rattle.standing_crew.specs.declared.rule.Item.TheVariants as item
use Rattle.standing_crew.specs.declared.rule.View.{View}
use Rattle.standing_crew.specs.declared.rule.View.TheVariants as view
use Rattle.standing_crew.specs.Rule.{Answers, HasOne, HasTwo, Lies, MayTake, Shows, Stands, Tells, asks, parcel_of, serves}

module _ {P : Type 0} where
  abbrev pub is_both : View P → Bool
  is_both view.Both = true
  is_both (view.Client asked) = false
  is_both (view.Helper hand) = false

  abbrev pub is_client : View P → Bool
  is_client view.Both = false
  is_client (view.Client asked) = true
  is_client (view.Helper hand) = false

  abbrev pub asked_in : View P → Option P
  asked_in view.Both = None
  asked_in (view.Client asked) = asked
  asked_in (view.Helper hand) = None

  abbrev pub hand_in : View P → Option (Item P)
  hand_in view.Both = None
  hand_in (view.Client asked) = None
  hand_in (view.Helper hand) = hand

  abbrev pub or_else : P → Option P → P
  or_else other None = other
  or_else other (Some x) = x

  some_is : (a b : P) → Some a ≡ Some b → a ≡ b
  some_is a b e = ap (or_else a) e

  abbrev pub first_view : List (View P)
  first_view = view.Both ∷ []

  abbrev pub two_views : Option P → Option (Item P) → List (View P)
  two_views asked hand = asks asked ∷ serves hand ∷ []

module _ {X : Type 0} where
  abbrev pub first_or : X → List X → X
  first_or other [] = other
  first_or other (x ∷ xs) = x

  abbrev pub rest_of : List X → List X
  rest_of [] = []
  rest_of (x ∷ xs) = xs

  abbrev pub is_empty : List X → Bool
  is_empty [] = true
  is_empty (x ∷ xs) = false

module _ {P : Type 0} (may : P → Type 0) (does : P → P → Type 0) where
  -- a fact of a desk with two passes, for whoever holds one of them
  by_two : (v : View P) (G : List (View P) → Type 0) (items : List (Item P)) (views : List (View P)) (pass : ℕ)
      → is_both v ≡ false
      → ((asked : Option P) (hand : Option (Item P)) → Lies may does items asked hand
      → get_elem? (two_views asked hand) pass ≡ some v → G (two_views asked hand))
      → Stands may does items views → get_elem? views pass ≡ some v → G views
  by_two v G items views pass other each stands at = ⊎_elim
      (λ (h : HasOne may does items views). absurd (one_is pass (subst (λ vs. get_elem? vs pass ≡ some v) h.one at)))
      (λ (h : HasTwo may does items views). subst G (sym h.two)
      (each h.asked h.hand h.lies (subst (λ vs. get_elem? vs pass ≡ some v) h.two at)))
      stands
    where
      one_is : (k : ℕ) → get_elem? first_view k ≡ some v → ⊥
      one_is zero e = true≢false (ap is_both (some-injective view.Both v e) ∙ other)
      one_is (suc k) e = some-ne-none v (sym e)

  pub begins : Stands may does [] (view.Both ∷ [])
  begins = inl (record { one = refl; none = refl })

  -- what stands where the two passes know this
  two : (items : List (Item P)) (asked : Option P) (hand : Option (Item P))
      → Lies may does items asked hand → Stands may does items (two_views asked hand)
  two items asked hand lies = inr (record { asked = asked; hand = hand; two = refl; lies = lies })

  -- who has a client's view is the client, and knows what was asked
  the_client : (asked known : Option P) (hand : Option (Item P)) (pass : ℕ)
      → get_elem? (two_views asked hand) pass ≡ some (asks known) → (pass ≡ 0) × (asked ≡ known)
  the_client asked known hand zero e = (refl, ap asked_in (some-injective (asks asked) (asks known) e))
  the_client asked known hand (suc zero) e =
      absurd (true≢false (sym (ap is_client (some-injective (serves hand) (asks known) e))))
  the_client asked known hand (suc (suc k)) e = absurd (some-ne-none (asks known) (sym e))

  the_helper : (asked : Option P) (hand known : Option (Item P)) (pass : ℕ)
      → get_elem? (two_views asked hand) pass ≡ some (serves known) → (pass ≡ 1) × (hand ≡ known)
  the_helper asked hand known zero e =
      absurd (true≢false (ap is_client (some-injective (asks asked) (serves known) e)))
  the_helper asked hand known (suc zero) e =
      (refl, ap hand_in (some-injective (serves hand) (serves known) e))
  the_helper asked hand known (suc (suc k)) e = absurd (some-ne-none (serves known) (sym e))

  -- where nothing was asked there is nothing, also in the helper's hand
  idle : (items : List (Item P)) (hand : Option (Item P)) → Lies may does items None hand
      → (items ≡ []) × (hand ≡ None)
  idle items None lies = (lies, refl)
  idle items (Some held) lies = absurd lies

  -- where the helper has something in hand, it answers what was asked, and nothing lies there
  in_hand : (items : List (Item P)) (asked : Option P) (held : Item P) → Lies may does items asked (Some held)
      → (a : P) × (asked ≡ Some a) × (items ≡ []) × Answers may does a held
  in_hand items None held lies = absurd lies
  in_hand items (Some a) held lies = (a, refl, lies.0, lies.1)

  -- what lies there answers what was asked, alone, and the helper has nothing in hand
  on_desk : (it : Item P) (items : List (Item P)) (asked : Option P) (hand : Option (Item P))
      → Lies may does (it ∷ items) asked hand
      → (a : P) × (asked ≡ Some a) × (hand ≡ None) × (items ≡ []) × Answers may does a it
  on_desk it items None None lies = absurd (true≢false (sym (ap is_empty lies)))
  on_desk it items None (Some held) lies = absurd lies
  on_desk it items (Some a) None lies =
      (a, refl, refl, ap rest_of lies.1, subst (Answers may does a) (sym (ap (first_or it) lies.1)) lies.2)
  on_desk it items (Some a) (Some held) lies = absurd (true≢false (sym (ap is_empty lies.0)))

  no_both : (asked : Option P) (hand : Option (Item P)) (k : ℕ)
      → get_elem? (two_views asked hand) k ≡ some view.Both → ⊥
  no_both asked hand zero e = true≢false (sym (ap is_both (some-injective (asks asked) view.Both e)))
  no_both asked hand (suc zero) e = true≢false (sym (ap is_both (some-injective (serves hand) view.Both e)))
  no_both asked hand (suc (suc k)) e = some-ne-none view.Both (sym e)

  parted : (items : List (Item P)) (k : ℕ) → items ≡ [] → get_elem? (first_view {P = P}) k ≡ some view.Both
      → Stands may does items (set (first_view {P = P}) k (asks None) ++ serves None ∷ [])
  parted items zero none e = two items None None none
  parted items (suc k) none e = absurd (some-ne-none view.Both (sym e))

  pub forks : (pass : ℕ) → Forks (Stands may does) pass view.Both (asks None) (serves None)
  forks pass items views stands at = ⊎_elim
      (λ (h : HasOne may does items views).
      subst
      (λ vs. get_elem? vs pass ≡ some view.Both → Stands may does items (set vs pass (asks None) ++ serves None ∷ []))
      (sym h.one) (parted items pass h.none) at)
      (λ (h : HasTwo may does items views).
      absurd (no_both h.asked h.hand pass (subst (λ vs. get_elem? vs pass ≡ some view.Both) h.two at)))
      stands

  -- a client may hand over what may be done
  pub hands_over : (n pass : ℕ) (parcel : P) → may parcel
      → Pushes (Stands may does) n pass (asks None) (item.Job parcel) (Tells may does (asks None) (item.Job parcel))
  hands_over n pass parcel ok items views room stands at = by_two
      (asks None)
      (λ vs. (w : View P) × Stands may does (items ++ item.Job parcel ∷ []) (set vs pass w) × Tells may does (asks None) (item.Job parcel) w)
      items views pass refl
      (λ asked hand lies e.
      let own = the_client asked None hand pass e in
      let none = idle items hand (subst (λ a. Lies may does items a hand) own.1 lies) in (
        asks (Some parcel),
        subst (λ k. Stands may does (items ++ item.Job parcel ∷ []) (set (two_views asked hand) k (asks (Some parcel)))) (sym own.0)
            (two (items ++ item.Job parcel ∷ []) (Some parcel) hand
            (subst (Lies may does (items ++ item.Job parcel ∷ []) (Some parcel)) (sym none.1)
            (item.Job parcel, ap (λ l. l ++ item.Job parcel ∷ []) none.0, (refl, ok)))),
        refl,
      ))
      stands at

  -- a client gets back what answers it
  pub gets_back : (pass : ℕ) (a : P)
      → Pops (Stands may does) pass (asks (Some a)) (Tells may does (asks (Some a)))
  gets_back pass a it items views stands at = by_two
      (asks (Some a))
      (λ vs. (w : View P) × Stands may does items (set vs pass w) × Tells may does (asks (Some a)) it w)
      (it ∷ items) views pass refl
      (λ asked hand lies e.
      let own = the_client asked (Some a) hand pass e in
      let there = on_desk it items (Some a) hand (subst (λ x. Lies may does (it ∷ items) x hand) own.1 lies) in (
        asks None,
        subst (λ k. Stands may does items (set (two_views asked hand) k (asks None))) (sym own.0)
            (two items None hand (subst (Lies may does items None) (sym there.2) there.3)),
        (refl, subst (λ x. Answers may does x it) (sym (some_is a there.0 there.1)) there.4),
      ))
      stands at

  -- a helper takes what lies there,
  pub takes : (pass : ℕ) → Pops (Stands may does) pass (serves None) (Tells may does (serves None))
  takes pass it items views stands at = by_two
      (serves None)
      (λ vs. (w : View P) × Stands may does items (set vs pass w) × Tells may does (serves None) it w)
      (it ∷ items) views pass refl
      (λ asked hand lies e.
      let own = the_helper asked hand None pass e in
      let there = on_desk it items asked hand lies in (
        serves (Some it),
        subst (λ k. Stands may does items (set (two_views asked hand) k (serves (Some it)))) (sym own.0)
            (two items asked (Some it)
            (subst (λ x. Lies may does items x (Some it)) (sym there.1) (there.3, there.4))),
        (refl, may_do it there.0 there.4),
      ))
      stands at
    where
      may_do : (held : Item P) (a : P) → Answers may does a held → MayTake may held
      may_do (item.Job parcel) a answers = answers.1
      may_do (item.Done parcel) a answers = tt

  -- and puts back what answers whatever that answered
  pub puts_back : (n pass : ℕ) (held it : Item P)
      → ((a : P) → Answers may does a held → Answers may does a it)
      → Pushes (Stands may does) n pass (serves (Some held)) it (Tells may does (serves (Some held)) it)
  puts_back n pass held it follows items views room stands at = by_two
      (serves (Some held))
      (λ vs. (w : View P) × Stands may does (items ++ it ∷ []) (set vs pass w) × Tells may does (serves (Some held)) it w)
      items views pass refl
      (λ asked hand lies e.
      let own = the_helper asked hand (Some held) pass e in
      let there = in_hand items asked held (subst (Lies may does items asked) own.1 lies) in (
        serves None,
        subst (λ k. Stands may does (items ++ it ∷ []) (set (two_views asked hand) k (serves None))) (sym own.0)
            (two (items ++ it ∷ []) asked None
            (subst (λ x. Lies may does (items ++ it ∷ []) x None) (sym there.1)
            (it, ap (λ l. l ++ it ∷ []) there.2, follows there.0 there.3))),
        refl,
      ))
      stands at

  -- where something is about to be put there, nothing lies there
  pub shows : (v : View P) (pass : ℕ) → is_both v ≡ false → Learns (Stands may does) pass v (Shows v)
  shows v pass other items views stands at =
      by_two v (λ _. Shows v items) items views pass other (λ asked hand lies e. at_two v asked hand e lies) stands at
    where
      at_two : (u : View P) (asked : Option P) (hand : Option (Item P))
          → get_elem? (two_views asked hand) pass ≡ some u → Lies may does items asked hand → Shows u items
      at_two view.Both asked hand e lies = tt
      at_two (view.Client None) asked hand e lies =
          (idle items hand (subst (λ x. Lies may does items x hand) (the_client asked None hand pass e).1 lies)).0
      at_two (view.Client (Some a)) asked hand e lies = tt
      at_two (view.Helper None) asked hand e lies = tt
      at_two (view.Helper (Some held)) asked hand e lies =
          (in_hand items asked held (subst (Lies may does items asked) (the_helper asked hand (Some held) pass e).1 lies)).2

  -- ---- what is owed at a call, where this is what the pass knows

  abbrev pub MayPut : ℕ → ℕ → View P → Item P → Type 0
  MayPut n pass v it =
      Pushes (Stands may does) n pass v it (Tells may does v it) × Learns (Stands may does) pass v (Shows v)

  abbrev pub MayGet : ℕ → View P → Type 0
  MayGet pass v = Pops (Stands may does) pass v (Tells may does v) × Learns (Stands may does) pass v (Shows v)

  pub may_hand_over : (n pass : ℕ) (v : View P) (parcel : P) → v ≡ asks None → may parcel
      → MayPut n pass v (item.Job parcel)
  may_hand_over n pass v parcel is ok = subst (λ u. MayPut n pass u (item.Job parcel)) (sym is)
      (hands_over n pass parcel ok, shows (asks None) pass refl)

  pub may_get_back : (pass : ℕ) (v : View P) (asked : P) → v ≡ asks (Some asked) → MayGet pass v
  may_get_back pass v asked is = subst (MayGet pass) (sym is)
      (gets_back pass asked, shows (asks (Some asked)) pass refl)

  pub may_take : (pass : ℕ) (v : View P) → v ≡ serves None → MayGet pass v
  may_take pass v is = subst (MayGet pass) (sym is) (takes pass, shows (serves None) pass refl)

  pub may_put_back : (n pass : ℕ) (v : View P) (held it : Item P) → v ≡ serves (Some held)
      → ((a : P) → Answers may does a held → Answers may does a it)
      → MayPut n pass v it
  may_put_back n pass v held it is follows = subst (λ u. MayPut n pass u it) (sym is)
      (puts_back n pass held it follows, shows (serves (Some held)) pass refl)

  -- ---- what is told by a call, where this is what the pass knew

  pub handed_over : (v w : View P) (it : Item P) → v ≡ asks None → Tells may does v it w
      → w ≡ asks (Some (parcel_of it))
  handed_over v w it is told = subst (λ u. Tells may does u it w) is told

  pub got_back : (v w : View P) (it : Item P) (asked : P) → v ≡ asks (Some asked) → Tells may does v it w
      → (w ≡ asks None) × Answers may does asked it
  got_back v w it asked is told = subst (λ u. Tells may does u it w) is told

  pub taken : (v w : View P) (it : Item P) → v ≡ serves None → Tells may does v it w
      → (w ≡ serves (Some it)) × MayTake may it
  taken v w it is told = subst (λ u. Tells may does u it w) is told

  pub put_back : (v w : View P) (held it : Item P) → v ≡ serves (Some held) → Tells may does v it w
      → w ≡ serves None
  put_back v w held it is told = subst (λ u. Tells may does u it w) is told
