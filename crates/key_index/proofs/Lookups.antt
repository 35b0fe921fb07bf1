-- What the map of an index answers at each key, and that it is the finite map that contracts see.
use Rattle.std.proofs.Common.{◌≡◌, ◌≢◌, ℕ, ℤ, Bool, true, false, cond, List, [], ◌∷◌, Option, None, Some, ◌++◌, unwrap_or, Result, Ok, Err, OnErr, refl, sym, ◌∙◌, ap}
use Rattle.std.specs.Ordering.{int_cmp, int_eq}
use Rattle.std.specs.FinMap as map
use Rattle.std.specs.FinMap.{same_map, get-from_entries, get-insert, get-remove, int_cmp-IsAntisymmetric}
use Rattle.std.specs.Cmp.{int_cmp_total, int_eq_equiv, signed_Decides}
use Rattle.std.specs.Map.{lookup}
use Rattle.key_index.specs.Candidates.{Places, candidates_of, with_candidates}

-- the entries of a map, with the places of each key
abbrev pub Entries : Type 0
Entries = List (ℤ × List ℕ)

-- the finite map of some entries
abbrev pub seen : Entries → Places
seen es = map.from_entries {R = int_cmp} es

-- The finite map's search finds what a look-up in the entries does.
find-lookup : (es : Entries) (q : ℤ) → map.find int_cmp q es ≡ lookup (int_eq q) es
find-lookup [] q = refl
find-lookup (e ∷ es) q = ap (λ o. cond (int_eq q e.0) (Some e.1) o) (find-lookup es q)

-- the finite map answers what the entries do
pub get-seen : (es : Entries) (q : ℤ) → map.get (seen es) q ≡ lookup (int_eq q) es
get-seen es q = get-from_entries int_cmp_total es q ∙ find-lookup es q

-- the candidates of a key, by the entries
pub candidates_of-seen : (es : Entries) (key : ℤ) → candidates_of (seen es) key ≡ unwrap_or (lookup (int_eq key) es) []
candidates_of-seen es key = ap (λ o. unwrap_or o []) (get-seen es key)

-- two lists of entries with the same at each key
pub seen-same : (old new : Entries) → ((q : ℤ) → lookup (int_eq q) new ≡ lookup (int_eq q) old) → seen new ≡ seen old
seen-same old new is =
    same_map int_cmp_total int_cmp-IsAntisymmetric (seen new) (seen old) (λ q. get-seen new q ∙ is q ∙ sym (get-seen old q))

-- entries with other places at one key
pub seen-put : (old new : Entries) (key : ℤ) (places : List ℕ) →
    ((q : ℤ) → lookup (int_eq q) new ≡ cond (int_eq key q) (Some places) (lookup (int_eq q) old)) →
    seen new ≡ map.insert (seen old) key places
seen-put old new key places is =
    same_map int_cmp_total int_cmp-IsAntisymmetric (seen new) (map.insert (seen old) key places)
    (λ q.
    get-seen new q
    ∙ is q
    ∙ sym (get-insert int_cmp_total (seen old) key places q
    ∙ ap (λ b. cond b (Some places) (map.get (seen old) q)) (int_eq_equiv.symm q key)
    ∙ ap (λ o. cond (int_eq key q) (Some places) o) (get-seen old q)))

-- entries without one key
pub seen-remove : (old new : Entries) (key : ℤ) →
    ((q : ℤ) → lookup (int_eq q) new ≡ cond (int_eq key q) None (lookup (int_eq q) old)) →
    seen new ≡ map.remove (seen old) key
seen-remove old new key is =
    same_map int_cmp_total int_cmp-IsAntisymmetric (seen new) (map.remove (seen old) key)
    (λ q.
    get-seen new q
    ∙ is q
    ∙ sym (get-remove int_cmp_total (seen old) key q
    ∙ ap (λ b. cond b None (map.get (seen old) q)) (int_eq_equiv.symm q key)
    ∙ ap (λ o. cond (int_eq key q) None o) (get-seen old q)))

-- At a key that is the same as another is found what the other has.
lookup-tied : (es : Entries) (key q : ℤ) (had : Option (List ℕ)) → lookup (int_eq key) es ≡ had →
    (b : Bool) → int_eq key q ≡ b → cond b had (lookup (int_eq q) es) ≡ lookup (int_eq q) es
lookup-tied es key q had is true tied = sym is ∙ ap (λ (k : ℤ). lookup (int_eq k) es) ((signed_Decides key q).0 tied)
lookup-tied es key q had is false tied = refl

-- what a key had, written back, changes nothing
pub lookup-rewritten : (es : Entries) (key q : ℤ) (had : Option (List ℕ)) → lookup (int_eq key) es ≡ had →
    cond (int_eq key q) had (lookup (int_eq q) es) ≡ lookup (int_eq q) es
lookup-rewritten es key q had is = lookup-tied es key q had is (int_eq key q) refl

-- a key that has candidates once more is added is one of the map's
pub with_candidates-push : (index : Places) (key : ℤ) (places : List ℕ) (place : ℕ) →
    with_candidates index key (places ++ place ∷ []) ≡ map.insert index key (places ++ place ∷ [])
with_candidates-push index key [] place = refl
with_candidates-push index key (p ∷ places) place = refl

-- a key with candidates is one of the map's
pub with_candidates-some : (index : Places) (key : ℤ) (places : List ℕ) → places ≢ [] →
    with_candidates index key places ≡ map.insert index key places
with_candidates-some index key [] some = absurd (some refl)
with_candidates-some index key (p ∷ places) some = refl

-- what holds anyway holds where there is a fault
pub OnErr-from : {X E : Type 0} (P : Type 0) (r : Result X E) → P → OnErr r P
OnErr-from P (Ok x) holds = tt
OnErr-from P (Err e) holds = holds
