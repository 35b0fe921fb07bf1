-- The table that a hall begins with keeps the invariant.
use Rattle.std.proofs.Common.{◌≡◌, ℕ, zero, suc, ◌+◌, ◌*◌, ◌^◌, ◌<◌, ◌≤◌, true, List, [], ◌∷◌, ◌++◌, Option, None, Some, length, map, refl, sym, ap, subst, ◌∙◌, length-append, true≢false, ⊎_elim, arith}
use Rattle.std.specs.Prelude.{replicate, slice_get, slice_index}
use mathlib.Core.Option as maybe
use lib.ListN.{get_elem?}
use Rattle.atomic_table.specs.Table.{State, opening}
use Rattle.hall_rule.specs.EventLog.{Distinct, has, replay}
use Rattle.hall_rule.specs.HallInvariant.{HoldsParts, Owners, OwnsSessions, SeesLog, entries_of, hands_of, latch_word, stage}
use Rattle.hall_rule.specs.Hands.{all_in}
use Rattle.hall_rule.specs.Meaning.{Meaning}
use Rattle.hall_rule.specs.Opening.{first_view, sessions_to}
use Rattle.hall_rule.specs.Slots.{slot_of, spread}
use Rattle.hall_rule.specs.declared.view.View.{View}
use Rattle.hall_rule.proofs.Numbers.{distinct_append, has_append, has_cons}
use Rattle.hall_rule.proofs.Halves.{PartsHold}

-- the sessions 1 to n are n
pub sessions_to-length : (n : ℕ) → length (sessions_to n) ≡ n
sessions_to-length zero = refl
sessions_to-length (suc n) = let h = sessions_to-length n in let e : length (sessions_to n ++ suc n ∷ []) ≡ length (sessions_to n) + 1 = length-append (sessions_to n) (suc n ∷ []) in omega (arith, h, e)

-- a list of zeros has 0 everywhere
pub zeros : (n k : ℕ) → slice_index (replicate n 0) k ≡ 0
zeros zero k = refl
zeros (suc n) zero = refl
zeros (suc n) (suc k) = zeros n k

-- each part of the first state is at home in its slot
pub in_all : {P : Type 0} (xs : List P) (k : ℕ) → k < length xs → (p : P) × (slice_get xs k ≡ Some p) × (get_elem? (map maybe.some (spread (map Some xs))) (slot_of k) ≡ maybe.some (maybe.some (Some p)))
in_all [] k lt = absurd (omega arith)
in_all (x ∷ xs) zero lt = (x, refl, refl)
in_all (x ∷ xs) (suc k) lt =
    let h = in_all xs k (omega (arith, lt)) in
    let next : slot_of (suc k) ≡ suc (suc (suc (suc (slot_of k)))) = omega arith in
    (h.0, h.1, ap (get_elem? (map maybe.some (spread (map Some (x ∷ xs))))) next ∙ h.2)

-- There are four slots for each place.
pub spread-length : {P : Type 0} (xs : List (Option P)) → length (spread xs) ≡ slot_of (length xs)
spread-length [] = refl
spread-length (x ∷ xs) = let h = spread-length xs in omega (arith, h)

-- In a list of one, what is found is its element, at the first place.
only_one : {A : Type 0} (x y : A) (j : ℕ) → get_elem? (x ∷ []) j ≡ maybe.some y → (j ≡ 0) × (x ≡ y)
only_one x y zero e = (refl, maybe.some-injective x y e)
only_one x y (suc j) e = absurd (maybe.some-ne-none y (sym e))

-- A list of images is as long as the list.
map-length : {A B : Type 0} (f : A → B) (xs : List A) → length (map f xs) ≡ length xs
map-length f [] = refl
map-length f (x ∷ xs) = let h = map-length f xs in omega (arith, h)

-- each of the first sessions is above 0
pub above_to : (n q : ℕ) → has q (sessions_to n) ≡ true → 0 < q
above_to zero q h = absurd (true≢false (sym h))
above_to (suc n) q h = ⊎_elim (λ a. above_to n q a) (λ b. ⊎_elim (λ e. omega (arith, e)) (λ z. absurd (true≢false (sym z))) (has_cons q (suc n) [] b)) (has_append q (sessions_to n) (suc n ∷ []) h)

-- and at most their count
pub below_to : (n q : ℕ) → has q (sessions_to n) ≡ true → q ≤ n
below_to zero q h = absurd (true≢false (sym h))
below_to (suc n) q h = ⊎_elim (λ a. let r = below_to n q a in omega (arith, r)) (λ b. ⊎_elim (λ e. omega (arith, e)) (λ z. absurd (true≢false (sym z))) (has_cons q (suc n) [] b)) (has_append q (sessions_to n) (suc n ∷ []) h)

-- each of the first sessions stands once
pub sessions_to-distinct : (n : ℕ) → Distinct (sessions_to n)
sessions_to-distinct zero = tt
sessions_to-distinct (suc n) = distinct_append (sessions_to n) (suc n ∷ []) (sessions_to-distinct n) (refl, tt) (λ q a b. ⊎_elim (λ e. absurd (let r = below_to n q a in omega (arith, r, e))) (λ z. true≢false (sym z)) (has_cons q (suc n) [] b))

module _ {P E T F : Type 0} (M : Meaning P E T F) (begins : M.sound M.start) (rests : (q : ℕ) → M.transaction M.start q ≡ None) (some' : 1 ≤ M.passes) (limit : M.passes ≤ 128)
    (words : List ℕ) (wide : length words ≡ latch_word (length M.start)) (zero' : (k : ℕ) → slice_index words k ≡ 0) where
  -- The table that the hall begins with: all parts in it, and the first view.
  abbrev at_first : State (Option P) (View E)
  at_first = opening words (spread (all_in M.start)) (first_view M.start M.passes)

  -- what holds of the first view holds of each
  alone : (B : ℕ → View E → Type 0) → B 0 (first_view M.start M.passes) → (j : ℕ) (v : View E) → get_elem? (first_view {E = E} M.start M.passes ∷ []) j ≡ maybe.some v → B j v
  alone B b j v there = let t = only_one (first_view M.start M.passes) v j there in subst (λ i. B i v) (sym t.0) (subst (B 0) t.1 b)

  -- The first view holds no part.
  none_held : (k : ℕ) → stage {E = E} (first_view M.start M.passes) k ≡ 0
  none_held k = zeros (length M.start) k

  -- The first pass owns all parts, numbers and sessions.
  abbrev pub owners : Owners
  owners = record { part = (λ k. 0); number = (λ i. 0); session = (λ q. 0) }

  -- The table that the hall begins with keeps the invariant with an empty log.
  pub kept : PartsHold M [] owners at_first
  kept = record {
    one_log = record {
      counted = zero' 0;
      made = tt;
      each = λ j v there live. alone (SeesLog M [] owners.number 1) (record {
        goes_on = refl;
        before = refl;
        heard = refl;
        mine = refl;
        seen = refl;
        total = refl;
        numbers = λ i h. (refl, ⊎_elim (λ e. omega (arith, e)) (λ n. absurd (true≢false (sym n))) (has_cons i 0 [] h));
      }) j v there;
    };
    at_home = record {
      wide = wide;
      deep = map-length maybe.some (spread (all_in M.start)) ∙ (spread-length (all_in M.start) ∙ ap slot_of (map-length Some M.start));
      free = λ k lt none'. in_all M.start k lt;
      latched = λ k lt taken. absurd (taken (zero' (latch_word k)));
      each = λ j v there live. alone (HoldsParts M [] owners.part words (map maybe.some (spread (all_in M.start)))) (record {
        holds = λ k held. absurd (held (none_held k));
        taken = λ k one. absurd (let z = none_held k in omega (arith, z, one));
        loaded = λ k two. absurd (let z = none_held k in omega (arith, z, two));
        kept = λ k two. absurd (let z = none_held k in omega (arith, z, two));
        in_hand = λ k two. absurd (let z = none_held k in omega (arith, z, two));
        out = λ k e. absurd (omega (arith, e));
        ever = λ k held. absurd (held (none_held k));
      }) j v there;
    };
    lawful = record {
      begins = begins;
      lawful = tt;
      each = λ j v there live. alone (OwnsSessions M [] owners.session) (record { sessions = λ q h. refl; distinct = sessions_to-distinct M.passes; spared = λ q h. tt; transactions = λ q h. refl; stood = λ q was h. tt; came = λ q was h. tt; tied = record { within = λ q h. (above_to M.passes q h, below_to M.passes q h); named = tt; alone = λ q is h. tt } }) j v there;
      owned = λ q t open'. absurd (let e : None ≡ Some t = sym (rests q) ∙ open' in cc);
    };
    facts = record { each = λ j v there live. alone (λ i u. (f : F) → M.fact f (replay M u.log) → M.fact f (replay M [])) (λ f h. h) j v there };
    hands = record {
      limit = limit;
      handed = let n = sessions_to-length M.passes in omega (arith, n);
      entries = refl;
      few = alone (λ i u. entries_of u ≤ 2 ^ 56 * hands_of u) (omega arith);
      idle = alone (λ i u. hands_of u ≡ 0 → (k : ℕ) → stage u k ≡ 0) (λ none' k. none_held k);
    };
  }
