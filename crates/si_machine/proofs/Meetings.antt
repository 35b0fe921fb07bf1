-- Which commits wrote into a read, and which of some reads is the first that is stale.
use Rattle.std.proofs.Common.{◌≡◌, ℕ, ◌+◌, ◌-◌, ◌<◌, ◌≤◌, Bool, true, false, cond, ◌&&◌, ◌||◌, List, [], ◌∷◌, ◌++◌, length, take, drop, get_or, Option, None, Some, ℤ, refl, sym, ap, ◌∙◌, subst, arith, suc}
use Rattle.std.specs.Prelude.{◌==◌, is_some, option_map}
use Rattle.std.specs.List.{list_any}
use Rattle.std.specs.Map.{keys_of}
use Rattle.std.specs.Option.{option_or}
use Rattle.std.specs.Ordering.{int_eq}
use Rattle.std.specs.Cmp.{int_eq_equiv}
use Rattle.std.proofs.lemmas.Bool.{and_parts, and_from, eqb-true}
use Rattle.std.proofs.lemmas.Bool.Decides.{Decides-int_eq}
use Rattle.std.proofs.lemmas.List.{length-drop, length-take-le, get_or-drop, take_all}
use Rattle.std.proofs.Math.Seq.{take-suc}
use Rattle.isolation_spec.specs.Contents.{is_place, place_at, History, WriteSet}
use Rattle.isolation_spec.specs.Reads.{first_stale, last_meeting, meets}
use Rattle.isolation_spec.specs.declared.place.Place.{Place}
use Rattle.isolation_spec.specs.declared.read.Read.{Read}
use Rattle.isolation_spec.specs.declared.read.Read.TheVariants as read
use Rattle.isolation_laws.proofs.Later.{last_passing, last-commit}
use Rattle.timeline_laws.proofs.Machine.{eqb-itself}
use Rattle.si_machine.specs.Met.{is_met_at}
use Rattle.si_machine.proofs.Rising.{same-place, itself}

-- ---- writes into a read

-- The test of a place with a key, by what the comparison of places answers.
key-met-by : (place : Place) (table : ℕ) (key : ℤ) (one met : Bool) → is_place (place_at table key) place ≡ one → (place.table == table && int_eq place.key key) ≡ met → met ≡ one
key-met-by place table key true true is_one is_met = refl
key-met-by place table key false false is_one is_met = refl
key-met-by place table key true false is_one is_met =
    let same : place_at table key ≡ place = same-place (place_at table key) place is_one in
    let met : (place.table == table && int_eq place.key key) ≡ true =
    subst (λ (p : Place). (p.table == table && int_eq p.key key) ≡ true) same (and_from (table == table) (int_eq key key) (eqb-itself table) (int_eq_equiv.refl key)) in
    absurd (let e : true ≡ false = sym met ∙ is_met in let never : ⊥ = cc in never)
key-met-by place table key false true is_one is_met =
    let parts = and_parts (place.table == table) (int_eq place.key key) is_met in
    let same : place_at table key ≡ place = ap (λ (t : ℕ). place_at t key) (sym (eqb-true place.table table parts.0)) ∙ ap (place_at place.table) (sym ((Decides-int_eq place.key key).0 parts.1)) in
    let one : is_place (place_at table key) place ≡ true = ap (λ (p : Place). is_place p place) same ∙ itself place in
    absurd (let e : true ≡ false = sym one ∙ is_one in let never : ⊥ = cc in never)

-- A choice that something is there.
some-chosen : {X : Type 0} (b : Bool) (x : X) (later : Option X) → is_some (cond b (Some x) later) ≡ (b || is_some later)
some-chosen true x later = refl
some-chosen false x later = refl

-- a write set meets a read where one of its writes is into it
pub met-is : (what : Read) (writes : WriteSet) → list_any (is_met_at what) (keys_of writes) ≡ meets what writes
met-is (read.Key table key) [] = refl
met-is (read.Key table key) (write ∷ writes) =
    ap (λ (b : Bool). b || list_any (is_met_at (read.Key table key)) (keys_of writes)) (key-met-by write.0 table key (is_place (place_at table key) write.0) (is_met_at (read.Key table key) write.0) refl refl)
    ∙ ap (λ (b : Bool). is_place (place_at table key) write.0 || b) (met-is (read.Key table key) writes)
    ∙ sym (some-chosen (is_place (place_at table key) write.0) write.1 _)
met-is (read.Table table) [] = refl
met-is (read.Table table) (write ∷ writes) = ap (λ (b : Bool). write.0.table == table || b) (met-is (read.Table table) writes)
met-is (read.Range table low high) [] = refl
met-is (read.Range table low high) (write ∷ writes) = ap (λ (b : Bool). is_met_at (read.Range table low high) write.0 || b) (met-is (read.Range table low high) writes)

-- ---- the last commit

-- The last of a choice, or what was before it.
last-by : {X : Type 0} (b : Bool) (later more first : Option X) → option_or (cond b more later) first ≡ cond b (option_or more first) (option_or later first)
last-by true later more first = refl
last-by false later more first = refl

-- with one more write set, which passes or not
pub last-push : (test : WriteSet → Bool) (at : ℕ) (sets : History) (writes : WriteSet) → last_passing test at (sets ++ writes ∷ []) ≡ cond (test writes) (Some (at + length sets)) (last_passing test at sets)
last-push test at [] writes = let e : at ≡ at + 0 = omega arith in ap (λ (n : ℕ). cond (test writes) (Some n) None) e
last-push test at (first ∷ sets) writes =
    let e : at + 1 + length sets ≡ at + suc (length sets) = omega arith in
    ap (λ (o : Option ℕ). option_or o (cond (test first) (Some at) None)) (last-push test (at + 1) sets writes)
    ∙ last-by (test writes) (last_passing test (at + 1) sets) (Some (at + 1 + length sets)) (cond (test first) (Some at) None)
    ∙ ap (λ (n : ℕ). cond (test writes) (Some n) (option_or (last_passing test (at + 1) sets) (cond (test first) (Some at) None))) e

module _ (history : History) (n : ℕ) (test : WriteSet → Bool) where
  -- the last of the commits behind the snapshot, up to a number
  abbrev pub last_up_to : ℕ → Option ℕ
  last_up_to number = last_passing test (n + 1) (take (number - n) (drop n history))

  -- one commit more
  pub last-more : (number : ℕ) → n ≤ number → number < length history → last_up_to (number + 1) ≡ cond (test (get_or history number [])) (Some (number + 1)) (last_up_to number)
  last-more number low high =
      let d = number - n in
      let size : length (drop n history) ≡ length history - n = length-drop n history in
      let inside : d < length (drop n history) = omega (arith, size, low, high) in
      let next : (number + 1) - n ≡ suc d = omega (arith, low) in
      let there : n + d ≡ number = omega (arith, low) in
      let taken : length (take d (drop n history)) ≡ d = length-take-le d (drop n history) (omega (arith, inside)) in
      let at : n + 1 + length (take d (drop n history)) ≡ number + 1 = omega (arith, taken, there) in
      ap (λ (k : ℕ). last_passing test (n + 1) (take k (drop n history))) next
      ∙ ap (last_passing test (n + 1)) (take-suc (drop n history) d [] inside)
      ∙ last-push test (n + 1) (take d (drop n history)) (get_or (drop n history) d [])
      ∙ ap (λ (w : WriteSet). cond (test w) (Some (n + 1 + length (take d (drop n history)))) (last_up_to number)) (get_or-drop n history d [] ∙ ap (λ (i : ℕ). get_or history i []) there)
      ∙ ap (λ (k : ℕ). cond (test (get_or history number [])) (Some k) (last_up_to number)) at

  -- none at first
  pub last-first : last_up_to n ≡ None
  last-first = let e : n - n ≡ 0 = omega arith in ap (λ (k : ℕ). last_passing test (n + 1) (take k (drop n history))) e

-- up to the last commit all are told
pub last-whole : (history : History) (n number : ℕ) (what : Read) → length history ≤ number → last_up_to history n (meets what) number ≡ last_meeting history n what
last-whole history n number what all =
    let size : length (drop n history) ≡ length history - n = length-drop n history in
    ap (last_passing (meets what) (n + 1)) (take_all (number - n) (drop n history) (omega (arith, size, all))) ∙ sym (last-commit history n (meets what))

-- ---- the first stale read

-- of two lists of reads
pub stale-append : (last_of : Read → Option ℕ) (a b : List Read) → first_stale last_of (a ++ b) ≡ option_or (first_stale last_of a) (first_stale last_of b)
stale-append last_of [] b = refl
stale-append last_of (what ∷ a) b =
    ap (option_or (option_map (λ number. (what, number)) (last_of what))) (stale-append last_of a b) ∙ once-more (option_map (λ number. (what, number)) (last_of what)) (first_stale last_of a) (first_stale last_of b)
  where
    once-more : (x y z : Option (Read × ℕ)) → option_or x (option_or y z) ≡ option_or (option_or x y) z
    once-more None y z = refl
    once-more (Some s) y z = refl
