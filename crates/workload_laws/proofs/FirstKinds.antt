-- The kinds of the first version by their names.
use Rattle.std.proofs.Common.{◌≡◌, ℕ, Bool, true, false, cond, List, [], ◌∷◌, ◌++◌, refl, sym, ap, ◌∙◌}
use Rattle.std.specs.Prelude.{not, ◌||◌, Option, None, Some, option_map, is_none, bytes_eq, codes, find, take, drop, if◌then◌else◌}
use Rattle.std.specs.Option.{option_or}
use Rattle.std.specs.List.{list_all}
use Rattle.std.proofs.lemmas.Bool.{and_parts}
use Rattle.std.proofs.lemmas.Slice.Eq.{bytes_eq-Decides}
use Rattle.cell_model.specs.declared.kind.Kind.{Kind}
use Rattle.cell_model.specs.declared.kind.Kind.TheVariants as kind
use Rattle.workload_spec.specs.Valid.{is_later, is_taken_kind}
use Rattle.workload_spec.specs.ScriptText.{kind_text}
use Rattle.workload_spec.specs.Reading.{natural_within}
use Rattle.workload_spec.specs.Grammar.{fixed_named, taken_kind, before_mark, kind_of}
use Rattle.workload_laws.specs.Laws.{first_kinds}
use Rattle.workload_laws.proofs.Results.{eq_of}
use Rattle.workload_laws.proofs.KindNames.{Taken, kind_by, mark_is, mark_back}

-- Where none of the further kinds is taken, the kinds that are taken are the first ones.
first_taken : (p : Kind → Bool) (firsts others : List Kind) (last : Option Kind) → list_all (λ k. is_taken_kind false k) firsts ≡ true → Taken false (option_or (find p others) last) ≡ None
    → Taken false (option_or (find p (firsts ++ others)) last) ≡ find p firsts
first_taken p [] others last taken none = none
first_taken p (k ∷ ks) others last taken none =
    let parts = and_parts (is_taken_kind false k) (list_all (λ k. is_taken_kind false k) ks) taken in
    by (p k) parts.0 (first_taken p ks others last parts.1 none)
  where
    by : (b : Bool) → is_taken_kind false k ≡ true → Taken false (option_or (find p (ks ++ others)) last) ≡ find p ks
        → Taken false (option_or (cond b (Some k) (find p (ks ++ others))) last) ≡ cond b (Some k) (find p ks)
    by true here behind = ap (λ (b : Bool). if b then Some k else None) here
    by false here behind = behind

-- None of later kinds is taken.
none_taken : (p : Kind → Bool) (laters : List Kind) (last : Option Kind) → list_all is_later laters ≡ true → Taken false last ≡ None → Taken false (option_or (find p laters) last) ≡ None
none_taken p [] last later none = none
none_taken p (k ∷ ks) last later none =
    let parts = and_parts (is_later k) (list_all is_later ks) later in
    by (p k) parts.0 (none_taken p ks last parts.1 none)
  where
    by : (b : Bool) → is_later k ≡ true → Taken false (option_or (find p ks) last) ≡ None → Taken false (option_or (cond b (Some k) (find p ks)) last) ≡ None
    by true here behind = ap (λ (b : Bool). if not b || false then Some k else None) here
    by false here behind = behind

-- Nor is a kind of values of so many bytes.
fixed_taken : (name : List ℕ) → Taken false (fixed_named name) ≡ None
fixed_taken name = by (bytes_eq (take 5 name) (codes "fixed")) (natural_within 1 1024 (drop 5 name))
  where
    by : (b : Bool) (o : Option ℕ) → Taken false (if b then option_map kind.Fixed o else None) ≡ None
    by true None = refl
    by true (Some bytes) = refl
    by false o = refl

-- the kind that has the name for its own
abbrev named : List ℕ → List Kind → Option Kind
named name ks = find (λ kind. bytes_eq (kind_text kind) name) ks

-- the kind whose name with a mark the word is
abbrev marked : List ℕ → List Kind → Option Kind
marked word ks = find (λ kind. bytes_eq (kind_text kind ++ codes "?") word) ks

-- Of the first version the kinds with this name are taken.
taken_named : (name : List ℕ) → taken_kind false name ≡ named name first_kinds
taken_named name =
    first_taken (λ kind. bytes_eq (kind_text kind) name) first_kinds (kind.LargeUtf8 ∷ kind.LargeBinary ∷ kind.Date ∷ []) (fixed_named name) refl
    (none_taken (λ kind. bytes_eq (kind_text kind) name) (kind.LargeUtf8 ∷ kind.LargeBinary ∷ kind.Date ∷ []) (fixed_named name) refl (fixed_taken name))

-- A word without a mark is no name with one.
none_marked : (word : List ℕ) (ks : List Kind) → before_mark word ≡ None → marked word ks ≡ None
none_marked word [] none = refl
none_marked word (k ∷ ks) none = by (bytes_eq (kind_text k ++ codes "?") word) refl (none_marked word ks none)
  where
    by : (b : Bool) → bytes_eq (kind_text k ++ codes "?") word ≡ b → marked word ks ≡ None → cond b (Some k) (marked word ks) ≡ None
    by true same behind =
        let some : None ≡ Some (kind_text k) = sym none ∙ ap before_mark (sym (eq_of (kind_text k ++ codes "?") word same)) ∙ mark_back (kind_text k) in
        absurd cc
    by false same behind = behind

-- A word with a mark is no name without one.
none_named : (word name : List ℕ) (ks : List Kind) → list_all (λ k. is_none (before_mark (kind_text k))) ks ≡ true → before_mark word ≡ Some name → named word ks ≡ None
none_named word name [] bare some = refl
none_named word name (k ∷ ks) bare some =
    let parts = and_parts (is_none (before_mark (kind_text k))) (list_all (λ k. is_none (before_mark (kind_text k))) ks) bare in
    by (bytes_eq (kind_text k) word) refl parts.0 (none_named word name ks parts.1 some)
  where
    by : (b : Bool) → bytes_eq (kind_text k) word ≡ b → is_none (before_mark (kind_text k)) ≡ true → named word ks ≡ None → cond b (Some k) (named word ks) ≡ None
    by true same none behind =
        let never : false ≡ true = ap (λ (o : Option (List ℕ)). is_none o) (sym some ∙ ap before_mark (sym (eq_of (kind_text k) word same))) ∙ none in
        absurd cc
    by false same none behind = behind

-- Bytes with a mark are those of others with one where they are the same without it.
marked_same : (a b : List ℕ) → bytes_eq (a ++ codes "?") (b ++ codes "?") ≡ bytes_eq a b
marked_same a b = by (bytes_eq (a ++ codes "?") (b ++ codes "?")) (bytes_eq a b) refl refl
  where
    by : (x y : Bool) → bytes_eq (a ++ codes "?") (b ++ codes "?") ≡ x → bytes_eq a b ≡ y → x ≡ y
    by true true with_ without = refl
    by false false with_ without = refl
    by true false with_ without =
        let fronts : Some a ≡ Some b = sym (mark_back a) ∙ ap before_mark (eq_of (a ++ codes "?") (b ++ codes "?") with_) ∙ mark_back b in
        let same : a ≡ b = cc in
        sym ((bytes_eq-Decides a b).1 same) ∙ without
    by false true with_ without =
        sym with_ ∙ (bytes_eq-Decides (a ++ codes "?") (b ++ codes "?")).1 (ap (λ (bytes : List ℕ). bytes ++ codes "?") (eq_of a b without))

-- A name with a mark names with it what it names alone.
marked_named : (name : List ℕ) (ks : List Kind) → marked (name ++ codes "?") ks ≡ named name ks
marked_named name [] = refl
marked_named name (k ∷ ks) =
    ap (λ (b : Bool). cond b (Some k) (marked (name ++ codes "?") ks)) (marked_same (kind_text k) name)
    ∙ ap (λ (o : Option Kind). cond (bytes_eq (kind_text k) name) (Some k) o) (marked_named name ks)

-- Nothing is found behind what is found.
or_none : {X : Type 0} (o : Option X) → option_or o None ≡ o
or_none None = refl
or_none (Some x) = refl

-- the kinds of the first version are those of its eleven names
pub first_kinds_stand : (word : List ℕ) → kind_of false word
    ≡ option_or (option_map (λ k. (k, false)) (named word first_kinds)) (option_map (λ k. (k, true)) (marked word first_kinds))
first_kinds_stand word = by (before_mark word) refl
  where
    by : (o : Option (List ℕ)) → before_mark word ≡ o → kind_by false word o
        ≡ option_or (option_map (λ k. (k, false)) (named word first_kinds)) (option_map (λ k. (k, true)) (marked word first_kinds))
    by None none =
        ap (λ (o : Option Kind). option_map (λ k. (k, false)) o) (taken_named word)
        ∙ sym (or_none (option_map (λ k. (k, false)) (named word first_kinds)))
        ∙ ap (λ (o : Option Kind). option_or (option_map (λ k. (k, false)) (named word first_kinds)) (option_map (λ k. (k, true)) o)) (sym (none_marked word first_kinds none))
    by (Some name) some =
        ap (λ (o : Option Kind). option_map (λ k. (k, true)) o)
        (taken_named name ∙ sym (marked_named name first_kinds) ∙ ap (λ (w : List ℕ). marked w first_kinds) (sym (mark_is word name some)))
        ∙ ap (λ (o : Option Kind). option_or (option_map (λ k. (k, false)) o) (option_map (λ k. (k, true)) (marked word first_kinds))) (sym (none_named word name first_kinds refl some))
