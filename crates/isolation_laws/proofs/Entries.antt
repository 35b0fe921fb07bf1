-- Insertions into entries that are kept in an order: look-ups, and that insertions at other keys
-- change places.
use Rattle.std.proofs.Common.{◌≡◌, Bool, true, false, cond, List, [], ◌∷◌, Option, None, Some, Ordering, Less, Equal, Greater, fold, All, filter_map, map, true≢false, refl, sym, ap, ◌∙◌, subst}
use Rattle.std.specs.BTreeMap.{insert_entry, is_at}
use Rattle.std.specs.Cmp.{IsTotalOrder, alike_right, tied_back, eq_by_cmp_equiv}
use Rattle.std.specs.List.{cons_option}
use Rattle.std.specs.List.Sorted.{IsPermutation}
use Rattle.std.specs.Map.{lookup, keys_of}
use Rattle.std.specs.Option.{option_or}
use Rattle.std.specs.Ordering.{match_ordering, is_eq, ordering_reverse}
use Rattle.std.proofs.lemmas.List.Elements.{All-head, All-tail}
use Rattle.std.proofs.lemmas.List.Sorted.{IsPermutation-refl, IsPermutation-cons, IsPermutation-trans, IsPermutation-middle}
use Rattle.std.proofs.lemmas.Map.Views.{All-keys-insert_entry}

-- A comparison that tests as equal has the answer equal.
Equal-from_is_eq : (answer : Ordering) → is_eq answer ≡ true → answer ≡ Equal
Equal-from_is_eq Less is = cc
Equal-from_is_eq Equal is = refl
Equal-from_is_eq Greater is = cc

-- the second of two choices by one test
cond_twice : {X : Type 0} (b : Bool) (x y z : X) → cond b x z ≡ cond b x (cond b y z)
cond_twice true x y z = refl
cond_twice false x y z = refl

-- two choices by tests that never both hold
cond_apart : {X : Type 0} (b c : Bool) (x y z : X) → (b ≡ true → c ≡ true → ⊥) → cond b x (cond c y z) ≡ cond c y (cond b x z)
cond_apart true true x y z apart = absurd (apart refl refl)
cond_apart true false x y z apart = refl
cond_apart false c x y z apart = refl

module _ {K : Type 0} {R : K → K → Ordering} (o : IsTotalOrder R) where
  -- a key cannot be tied to two keys that are not
  apart : (q k l : K) → R k l ≡ Greater → is_eq (R q l) ≡ true → is_eq (R q k) ≡ true → ⊥
  apart q k l greater is_l is_k =
      let tied = Equal-from_is_eq (R q k) is_k in
      let same : R k l ≡ R q l = sym (o.congr q k l tied) in
      let never : Greater ≡ Equal = sym greater ∙ same ∙ Equal-from_is_eq (R q l) is_l in
      cc

module _ {K X : Type 0} {R : K → K → Ordering} (o : IsTotalOrder R) where
  -- What is found after an insertion, by its key's answer at the first entry.
  found_at : (q k : K) (v : X) (e : K × X) (es : List (K × X)) (answer : Ordering) → R k e.0 ≡ answer
      → lookup (is_at (R q)) (insert_entry R es k v) ≡ cond (is_eq (R q k)) (Some v) (lookup (is_at (R q)) es)
      → lookup (is_at (R q)) (match_ordering answer ((k, v) ∷ e ∷ es) ((e.0, v) ∷ es) (e ∷ insert_entry R es k v))
      ≡ cond (is_eq (R q k)) (Some v) (cond (is_eq (R q e.0)) (Some e.1) (lookup (is_at (R q)) es))
  found_at q k v e es Less is rest = refl
  found_at q k v e es Equal is rest =
      let same : R q k ≡ R q e.0 = alike_right o k e.0 q is in
      ap (λ (t : Ordering). cond (is_eq t) (Some v) (lookup (is_at (R q)) es)) (sym same)
      ∙ cond_twice (is_eq (R q k)) (Some v) (Some e.1) (lookup (is_at (R q)) es)
      ∙ ap (λ (t : Ordering). cond (is_eq (R q k)) (Some v) (cond (is_eq t) (Some e.1) (lookup (is_at (R q)) es))) same
  found_at q k v e es Greater is rest =
      ap (cond (is_eq (R q e.0)) (Some e.1)) rest
      ∙ cond_apart (is_eq (R q e.0)) (is_eq (R q k)) (Some e.1) (Some v) (lookup (is_at (R q)) es) (apart o q k e.0 is)

  -- what is found after an insertion
  pub lookup-insert_entry : (es : List (K × X)) (k : K) (v : X) (q : K)
      → lookup (is_at (R q)) (insert_entry R es k v) ≡ cond (is_eq (R q k)) (Some v) (lookup (is_at (R q)) es)
  lookup-insert_entry [] k v q = refl
  lookup-insert_entry (e ∷ es) k v q = found_at q k v e es (R k e.0) refl (lookup-insert_entry es k v q)

  -- an insertion where the answer at the first entry is known
  insert-Less : (e : K × X) (es : List (K × X)) (k : K) (v : X) → R k e.0 ≡ Less → insert_entry R (e ∷ es) k v ≡ (k, v) ∷ e ∷ es
  insert-Less e es k v is = ap (λ (answer : Ordering). match_ordering answer ((k, v) ∷ e ∷ es) ((e.0, v) ∷ es) (e ∷ insert_entry R es k v)) is

  -- An insertion at the first entry's key takes the entry's place.
  insert-Equal : (e : K × X) (es : List (K × X)) (k : K) (v : X) → R k e.0 ≡ Equal → insert_entry R (e ∷ es) k v ≡ (e.0, v) ∷ es
  insert-Equal e es k v is = ap (λ (answer : Ordering). match_ordering answer ((k, v) ∷ e ∷ es) ((e.0, v) ∷ es) (e ∷ insert_entry R es k v)) is

  -- An insertion at a greater key goes on behind the first entry.
  insert-Greater : (e : K × X) (es : List (K × X)) (k : K) (v : X) → R k e.0 ≡ Greater → insert_entry R (e ∷ es) k v ≡ e ∷ insert_entry R es k v
  insert-Greater e es k v is = ap (λ (answer : Ordering). match_ordering answer ((k, v) ∷ e ∷ es) ((e.0, v) ∷ es) (e ∷ insert_entry R es k v)) is

  -- the lesser of two keys stands before what it was inserted before
  before_both : (e : K × X) (es : List (K × X)) (k l : K) (v w : X) (answer : Ordering) → R k l ≡ Less → R k e.0 ≡ Less → R l e.0 ≡ answer
      → (k, v) ∷ insert_entry R (e ∷ es) l w ≡ insert_entry R (insert_entry R (e ∷ es) l w) k v
  before_both e es k l v w Less less first is =
      let put = insert-Less e es l w is in
      ap (λ (fs : List (K × X)). (k, v) ∷ fs) put ∙ sym (insert-Less (l, w) (e ∷ es) k v less) ∙ ap (λ (fs : List (K × X)). insert_entry R fs k v) (sym put)
  before_both e es k l v w Equal less first is =
      let put = insert-Equal e es l w is in
      ap (λ (fs : List (K × X)). (k, v) ∷ fs) put ∙ sym (insert-Less (e.0, w) es k v first) ∙ ap (λ (fs : List (K × X)). insert_entry R fs k v) (sym put)
  before_both e es k l v w Greater less first is =
      let put = insert-Greater e es l w is in
      ap (λ (fs : List (K × X)). (k, v) ∷ fs) put ∙ sym (insert-Less e (insert_entry R es l w) k v first) ∙ ap (λ (fs : List (K × X)). insert_entry R fs k v) (sym put)

  -- the greater of two keys is above what the lesser is above or tied to
  above_both : (e : K × X) (k l : K) → R k l ≡ Less → R e.0 k ≡ Less → R l e.0 ≡ Greater
  above_both e k l less above = o.antisymm l e.0 ∙ ap ordering_reverse (o.trans e.0 k l above less)

  -- Insertions at two keys change places, by the lesser key's answer at the first entry.
  swapped : (e : K × X) (es : List (K × X)) (k l : K) (v w : X) (answer : Ordering) → R k l ≡ Less → R k e.0 ≡ answer
      → insert_entry R (insert_entry R es k v) l w ≡ insert_entry R (insert_entry R es l w) k v
      → insert_entry R (insert_entry R (e ∷ es) k v) l w ≡ insert_entry R (insert_entry R (e ∷ es) l w) k v
  swapped e es k l v w Less less is rest =
      ap (λ (fs : List (K × X)). insert_entry R fs l w) (insert-Less e es k v is)
      ∙ insert-Greater (k, v) (e ∷ es) l w (o.antisymm l k ∙ ap ordering_reverse less)
      ∙ before_both e es k l v w (R l e.0) less is refl
  swapped e es k l v w Equal less is rest =
      let above : R l e.0 ≡ Greater = alike_right o e.0 k l (tied_back o k e.0 is) ∙ o.antisymm l k ∙ ap ordering_reverse less in
      ap (λ (fs : List (K × X)). insert_entry R fs l w) (insert-Equal e es k v is)
      ∙ insert-Greater (e.0, v) es l w above
      ∙ sym (insert-Equal e (insert_entry R es l w) k v is)
      ∙ ap (λ (fs : List (K × X)). insert_entry R fs k v) (sym (insert-Greater e es l w above))
  swapped e es k l v w Greater less is rest =
      let above : R l e.0 ≡ Greater = above_both e k l less (o.antisymm e.0 k ∙ ap ordering_reverse is) in
      ap (λ (fs : List (K × X)). insert_entry R fs l w) (insert-Greater e es k v is)
      ∙ insert-Greater e (insert_entry R es k v) l w above
      ∙ ap (λ (fs : List (K × X)). e ∷ fs) rest
      ∙ sym (insert-Greater e (insert_entry R es l w) k v is)
      ∙ ap (λ (fs : List (K × X)). insert_entry R fs k v) (sym (insert-Greater e es l w above))

  -- insertions at two keys, the lesser first or the greater
  insert-insert_less : (es : List (K × X)) (k l : K) (v w : X) → R k l ≡ Less
      → insert_entry R (insert_entry R es k v) l w ≡ insert_entry R (insert_entry R es l w) k v
  insert-insert_less [] k l v w less =
      insert-Greater (k, v) [] l w (o.antisymm l k ∙ ap ordering_reverse less) ∙ sym (insert-Less (l, w) [] k v less)
  insert-insert_less (e ∷ es) k l v w less = swapped e es k l v w (R k e.0) less refl (insert-insert_less es k l v w less)

  -- Insertions at two keys that differ may be made in either order.
  insert-insert_by : (es : List (K × X)) (k l : K) (v w : X) (answer : Ordering) → R k l ≡ answer → is_eq answer ≡ false
      → insert_entry R (insert_entry R es k v) l w ≡ insert_entry R (insert_entry R es l w) k v
  insert-insert_by es k l v w Less is untied = insert-insert_less es k l v w is
  insert-insert_by es k l v w Equal is untied = cc
  insert-insert_by es k l v w Greater is untied = sym (insert-insert_less es l k w v (o.antisymm l k ∙ ap ordering_reverse is))

  -- insertions at two keys change places
  pub insert-insert : (es : List (K × X)) (k l : K) (v w : X) → is_eq (R k l) ≡ false
      → insert_entry R (insert_entry R es k v) l w ≡ insert_entry R (insert_entry R es l w) k v
  insert-insert es k l v w untied = insert-insert_by es k l v w (R k l) refl untied

-- the entries with others inserted in turn
abbrev pub inserted : {K X : Type 0} → (K → K → Ordering) → List (K × X) → List (K × X) → List (K × X)
inserted R before es = fold (λ now e. insert_entry R now e.0 e.1) before es

-- the entries with f at each value
abbrev pub map_values : {K X Y : Type 0} → (X → Y) → List (K × X) → List (K × Y)
map_values f es = map (λ e. (e.0, f e.1)) es

-- no two of the entries have one key
abbrev pub AreApart : {K X : Type 0} → (K → K → Ordering) → List (K × X) → Type 0
AreApart R [] = Unit {0}
AreApart R (e ∷ es) = (lookup (is_at (R e.0)) es ≡ None) × AreApart R es

-- none of the entries has a key of these
abbrev pub HasNone : {K X : Type 0} → (K → K → Ordering) → List (K × X) → List (K × X) → Type 0
HasNone R before [] = Unit {0}
HasNone R before (e ∷ es) = (lookup (is_at (R e.0)) before ≡ None) × HasNone R before es

-- Where nothing is found, the first entry does not pass the test.
none_first : {X : Type 0} (b : Bool) (x : X) (found : Option X) → cond b (Some x) found ≡ None → b ≡ false
none_first true x found none = cc
none_first false x found none = refl

-- Where nothing is found, nothing is found behind the first entry.
none_rest : {X : Type 0} (b : Bool) (x : X) (found : Option X) → cond b (Some x) found ≡ None → found ≡ None
none_rest true x found none = cc
none_rest false x found none = none

-- Where the first entry does not pass and nothing is found behind it, nothing is found.
none_both : {X : Type 0} (b : Bool) (x : X) (found : Option X) → b ≡ false → found ≡ None → cond b (Some x) found ≡ None
none_both true x found untied none = cc
none_both false x found untied none = none

-- an element goes to the front past what is kept of another entry
kept_past : {Y : Type 0} (y : Y) (kept now : List Y) (found : Option Y) → IsPermutation (y ∷ kept) now
    → IsPermutation (y ∷ cons_option found kept) (cons_option found now)
kept_past y kept now None moved = moved
kept_past y kept now (Some z) moved =
    IsPermutation-trans (y ∷ z ∷ kept) (z ∷ y ∷ kept) (z ∷ now) (IsPermutation-middle (y ∷ []) z kept) (IsPermutation-cons z (y ∷ kept) now moved)

module _ {K X : Type 0} {R : K → K → Ordering} (o : IsTotalOrder R) where
  -- an insertion at another key comes first or last
  pub inserted-insert : (before es : List (K × X)) (k : K) (v : X) → lookup (is_at (R k)) es ≡ None
      → inserted R (insert_entry R before k v) es ≡ insert_entry R (inserted R before es) k v
  inserted-insert before [] k v none = refl
  inserted-insert before (e ∷ es) k v none =
      ap (λ (now : List (K × X)). inserted R now es) (insert-insert o before k e.0 v e.1 (none_first (is_eq (R k e.0)) e.1 (lookup (is_at (R k)) es) none))
      ∙ inserted-insert (insert_entry R before e.0 e.1) es k v (none_rest (is_eq (R k e.0)) e.1 (lookup (is_at (R k)) es) none)

  -- An entry more among those inserted is inserted last, by its key's answer at the first.
  one_more : (before : List (K × X)) (e : K × X) (es : List (K × X)) (k : K) (v : X) (answer : Ordering) → R k e.0 ≡ answer
      → lookup (is_at (R k)) (e ∷ es) ≡ None
      → inserted R (insert_entry R before e.0 e.1) (insert_entry R es k v) ≡ insert_entry R (inserted R (insert_entry R before e.0 e.1) es) k v
      → inserted R before (match_ordering answer ((k, v) ∷ e ∷ es) ((e.0, v) ∷ es) (e ∷ insert_entry R es k v))
      ≡ insert_entry R (inserted R before (e ∷ es)) k v
  one_more before e es k v Less is none rest = inserted-insert before (e ∷ es) k v none
  one_more before e es k v Equal is none rest =
      let untied : is_eq (R k e.0) ≡ false = none_first (is_eq (R k e.0)) e.1 (lookup (is_at (R k)) es) none in
      let never : true ≡ false = ap is_eq (sym is) ∙ untied in
      cc
  one_more before e es k v Greater is none rest = rest

  -- an entry more among those inserted
  pub inserted-more : (before es : List (K × X)) (k : K) (v : X) → lookup (is_at (R k)) es ≡ None
      → inserted R before (insert_entry R es k v) ≡ insert_entry R (inserted R before es) k v
  inserted-more before [] k v none = refl
  inserted-more before (e ∷ es) k v none =
      one_more before e es k v (R k e.0) refl none
      (inserted-more (insert_entry R before e.0 e.1) es k v (none_rest (is_eq (R k e.0)) e.1 (lookup (is_at (R k)) es) none))

  -- entries that have none of the keys still have none with another key more
  pub has_none-insert : (before : List (K × X)) (k : K) (v : X) (es : List (K × X)) → lookup (is_at (R k)) es ≡ None → HasNone R before es
      → HasNone R (insert_entry R before k v) es
  has_none-insert before k v [] none had = tt
  has_none-insert before k v (e ∷ es) none had = (
    lookup-insert_entry o before k v e.0
        ∙ none_both (is_eq (R e.0 k)) v (lookup (is_at (R e.0)) before)
        ((eq_by_cmp_equiv o).symm e.0 k ∙ none_first (is_eq (R k e.0)) e.1 (lookup (is_at (R k)) es) none)
        had.0,
    has_none-insert before k v es (none_rest (is_eq (R k e.0)) e.1 (lookup (is_at (R k)) es) none) had.1,
  )

  -- entries gathered first and then inserted are as inserted one by one
  inserted-inserted_onto : (before gathered es : List (K × X)) → AreApart R es → HasNone R gathered es
      → inserted R before (inserted R gathered es) ≡ inserted R (inserted R before gathered) es
  inserted-inserted_onto before gathered [] apart none = refl
  inserted-inserted_onto before gathered (e ∷ es) apart none =
      inserted-inserted_onto before (insert_entry R gathered e.0 e.1) es apart.1 (has_none-insert gathered e.0 e.1 es apart.0 none.1)
      ∙ ap (λ (now : List (K × X)). inserted R now es) (inserted-more before gathered e.0 e.1 none.0)

  -- no entry has a key among none
  pub none_in_none : (es : List (K × X)) → HasNone R [] es
  none_in_none [] = tt
  none_in_none (e ∷ es) = (refl, none_in_none es)

  -- entries gathered among themselves and then inserted are as inserted one by one
  pub inserted-inserted : (before es : List (K × X)) → AreApart R es → inserted R before (inserted R [] es) ≡ inserted R before es
  inserted-inserted before es apart = inserted-inserted_onto before [] es apart (none_in_none es)

  -- what is found at a key that another is tied to
  none_at_tied : (es : List (K × X)) (q k : K) → R q k ≡ Equal → lookup (is_at (R k)) es ≡ None → lookup (is_at (R q)) es ≡ None
  none_at_tied [] q k tied none = refl
  none_at_tied (e ∷ es) q k tied none =
      none_both (is_eq (R q e.0)) e.1 (lookup (is_at (R q)) es)
      (ap is_eq (o.congr q k e.0 tied) ∙ none_first (is_eq (R k e.0)) e.1 (lookup (is_at (R k)) es) none)
      (none_at_tied es q k tied (none_rest (is_eq (R k e.0)) e.1 (lookup (is_at (R k)) es) none))

  -- An entry whose key no later one has may be looked for before them or after them.
  found_first : (q : K) (e : K × X) (es : List (K × X)) (had : Option X) (b : Bool) → is_eq (R q e.0) ≡ b → lookup (is_at (R e.0)) es ≡ None
      → option_or (lookup (is_at (R q)) es) (cond b (Some e.1) had) ≡ option_or (cond b (Some e.1) (lookup (is_at (R q)) es)) had
  found_first q e es had true is none =
      ap (λ (found : Option X). option_or found (Some e.1)) (none_at_tied es q e.0 (Equal-from_is_eq (R q e.0) is) none)
  found_first q e es had false is none = refl

  -- what is found after insertions: what was inserted, or else what was there
  pub lookup-inserted : (before es : List (K × X)) (q : K) → AreApart R es
      → lookup (is_at (R q)) (inserted R before es) ≡ option_or (lookup (is_at (R q)) es) (lookup (is_at (R q)) before)
  lookup-inserted before [] q apart = refl
  lookup-inserted before (e ∷ es) q apart =
      lookup-inserted (insert_entry R before e.0 e.1) es q apart.1
      ∙ ap (option_or (lookup (is_at (R q)) es)) (lookup-insert_entry o before e.0 e.1 q)
      ∙ found_first q e es (lookup (is_at (R q)) before) (is_eq (R q e.0)) refl apart.0

  -- ---- what is kept of entries

  -- An entry in front adds what is kept of it.
  kept_first : {Y : Type 0} (keep : K × X → Option Y) (k : K) (v : X) (y : Y) (es : List (K × X)) → keep (k, v) ≡ Some y
      → IsPermutation (y ∷ filter_map keep es) (filter_map keep ((k, v) ∷ es))
  kept_first {Y = Y} keep k v y es kept =
      subst (λ (found : Option Y). IsPermutation (y ∷ filter_map keep es) (cons_option found (filter_map keep es))) (sym kept) (IsPermutation-refl (y ∷ filter_map keep es))

  -- An inserted entry adds what is kept of it, by its key's answer at the first entry.
  kept_by : {Y : Type 0} (keep : K × X → Option Y) (e : K × X) (es : List (K × X)) (k : K) (v : X) (y : Y) (answer : Ordering) → R k e.0 ≡ answer
      → keep (k, v) ≡ Some y → lookup (is_at (R k)) (e ∷ es) ≡ None
      → IsPermutation (y ∷ filter_map keep es) (filter_map keep (insert_entry R es k v))
      → IsPermutation (y ∷ filter_map keep (e ∷ es)) (filter_map keep (match_ordering answer ((k, v) ∷ e ∷ es) ((e.0, v) ∷ es) (e ∷ insert_entry R es k v)))
  kept_by keep e es k v y Less is kept none rest = kept_first keep k v y (e ∷ es) kept
  kept_by keep e es k v y Equal is kept none rest =
      let untied : is_eq (R k e.0) ≡ false = none_first (is_eq (R k e.0)) e.1 (lookup (is_at (R k)) es) none in
      let never : true ≡ false = ap is_eq (sym is) ∙ untied in
      absurd (true≢false never)
  kept_by keep e es k v y Greater is kept none rest =
      kept_past y (filter_map keep es) (filter_map keep (insert_entry R es k v)) (keep e) rest

  -- an entry of a new key adds what is kept of it
  pub IsPermutation-insert_entry : {Y : Type 0} (keep : K × X → Option Y) (es : List (K × X)) (k : K) (v : X) (y : Y)
      → keep (k, v) ≡ Some y → lookup (is_at (R k)) es ≡ None
      → IsPermutation (y ∷ filter_map keep es) (filter_map keep (insert_entry R es k v))
  IsPermutation-insert_entry keep [] k v y kept none = kept_first keep k v y [] kept
  IsPermutation-insert_entry keep (e ∷ es) k v y kept none =
      kept_by keep e es k v y (R k e.0) refl kept none
      (IsPermutation-insert_entry keep es k v y kept (none_rest (is_eq (R k e.0)) e.1 (lookup (is_at (R k)) es) none))

-- ---- values rewritten, and keys

-- An insertion goes with f at each value, by the answer at the first entry.
map_by : {K X Y : Type 0} (R : K → K → Ordering) (f : X → Y) (e : K × X) (es : List (K × X)) (k : K) (v : X) (answer : Ordering)
    → insert_entry R (map_values f es) k (f v) ≡ map_values f (insert_entry R es k v)
    → match_ordering answer ((k, f v) ∷ (e.0, f e.1) ∷ map_values f es) ((e.0, f v) ∷ map_values f es) ((e.0, f e.1) ∷ insert_entry R (map_values f es) k (f v))
    ≡ map_values f (match_ordering answer ((k, v) ∷ e ∷ es) ((e.0, v) ∷ es) (e ∷ insert_entry R es k v))
map_by R f e es k v Less rest = refl
map_by R f e es k v Equal rest = refl
map_by R f e es k v Greater rest = ap (λ fs. (e.0, f e.1) ∷ fs) rest

-- an insertion into entries with f at each value
pub insert_entry-map_values : {K X Y : Type 0} (R : K → K → Ordering) (f : X → Y) (es : List (K × X)) (k : K) (v : X)
    → insert_entry R (map_values f es) k (f v) ≡ map_values f (insert_entry R es k v)
insert_entry-map_values R f [] k v = refl
insert_entry-map_values R f (e ∷ es) k v = map_by R f e es k v (R k e.0) (insert_entry-map_values R f es k v)

-- what holds of the keys of entries holds after insertions
pub All-keys-inserted : {K X : Type 0} (R : K → K → Ordering) (P : K → Type 0) (before es : List (K × X))
    → All P (keys_of before) → All P (keys_of es) → All P (keys_of (inserted R before es))
All-keys-inserted R P before [] all more = all
All-keys-inserted R P before (e ∷ es) all more =
    All-keys-inserted R P (insert_entry R before e.0 e.1) es
    (All-keys-insert_entry R e.0 e.1 P before all (All-head P e.0 (keys_of es) more))
    (All-tail P e.0 (keys_of es) more)
