-- A list that one key has with one mark more.
use Rattle.std.proofs.Common.{◌≡◌, Bool, true, false, cond, ◌&&◌, not, List, [], ◌∷◌, ◌++◌, Option, Some, None, Vec, Global, unwrap_or, refl, ap, ◌∙◌}
use Rattle.std.specs.BTreeMap.{BTreeMap, get, is_at}
use Rattle.std.specs.Cmp.{IsTotalOrder}
use Rattle.std.specs.Map.{lookup}
use Rattle.std.specs.Option.{option_map_or}
use Rattle.std.specs.Ordering.{is_eq}
use Rattle.std.specs.declared.cmp.Ordering.{Ordering}
use Rattle.std.specs.declared.cmp.Ordering.TheVariants.{Equal, Less, Greater}
use Rattle.mark_index.specs.Lists.{with_mark}

-- Tests that agree on each key find the same among entries.
same-lookup : {K X : Type 0} (p q : K → Bool) → ((x : K) → p x ≡ q x) → (es : List (K × X)) → lookup p es ≡ lookup q es
same-lookup p q same [] = refl
same-lookup p q same (e ∷ es) = rw (same e.0, same-lookup p q same es) refl

-- A comparison that tests as equal has the answer equal.
equal : (o : Ordering) → is_eq o ≡ true → o ≡ Equal
equal Equal h = refl
equal Less h = absurd (let never : ⊥ = cc in never)
equal Greater h = absurd (let never : ⊥ = cc in never)

-- the marks of what a key has
abbrev pub marks_of : {M : Type 0} → Option (Vec M Global) → List M
marks_of list = option_map_or (λ marks. marks.items) list []

-- where none is there, an empty list is taken
pub marks-or-none : {M : Type 0} (list : Option (Vec M Global)) (none : Vec M Global) → none.items ≡ [] → (unwrap_or list none).items ≡ marks_of list
marks-or-none (Some marks) none is = refl
marks-or-none None none is = is

-- where a list is put at a key, equal keys have it
module _ {K M : Type 0} (cmp : K → K → Ordering) (total : IsTotalOrder cmp) (before now : BTreeMap K (Vec M Global)) (key other : K) (list : Vec M Global)
    (put : get cmp now other ≡ cond (is_at (cmp key) other) (Some list) (get cmp before other)) where
  -- Equal keys had the same list before.
  same : is_eq (cmp key other) ≡ true → get cmp before key ≡ get cmp before other
  same h = same-lookup (is_at (cmp key)) (is_at (cmp other)) (λ x. ap is_eq (total.congr key other x (equal (cmp key other) h))) before.entries

  -- a mark behind those of one key stands behind its own and leaves those of the others
  pub pushed : (mark : M) → list.items ≡ marks_of (get cmp before key) ++ mark ∷ [] → marks_of (get cmp now other) ≡ with_mark (is_eq (cmp key other)) mark (marks_of (get cmp before other))
  pushed mark is = ap marks_of put ∙ by (is_eq (cmp key other)) refl
    where
      by : (b : Bool) → is_eq (cmp key other) ≡ b → marks_of (cond b (Some list) (get cmp before other)) ≡ with_mark b mark (marks_of (get cmp before other))
      by true e = is ∙ ap (λ (o : Option (Vec M Global)). marks_of o ++ mark ∷ []) (same e)
      by false e = refl

-- the marks of a list that was there, or of an empty one
pub read-is : {M : Type 0} (list none : Vec M Global) (found : Option (Vec M Global)) → list ≡ unwrap_or found none → none.items ≡ [] → list.items ≡ marks_of found
read-is list none found had is = ap (λ its. its.items) had ∙ marks-or-none found none is

-- where another is the last, it is put
pub put-one : {M : Type 0} (put last : Bool) (mark : M) (marks : List M) → last ≡ false → with_mark put mark marks ≡ with_mark (put && not last) mark marks
put-one true false mark marks h = refl
put-one false false mark marks h = refl
put-one put true mark marks h = absurd (let never : ⊥ = cc in never)
