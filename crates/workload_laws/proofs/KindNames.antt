-- The names of kinds: what they are read as, and which of them are taken.
use Rattle.std.proofs.Common.{◌≡◌, ℕ, ◌<◌, ◌⊎◌, inl, inr, Bool, true, false, cond, List, [], ◌∷◌, ◌++◌, take, drop, refl, sym, ap, ◌∙◌, subst, arith}
use Rattle.std.specs.Prelude.{◌||◌, ◌==◌, not, None, Some, Option, option_map, option_and_then, bytes_eq, codes, decimal, find, nat_le, if◌then◌else◌}
use Rattle.std.specs.Option.{option_map_or, option_or}
use Rattle.std.specs.List.{list_all}
use Rattle.std.proofs.lemmas.Bool.{eqb-true, leb-true, ne_eqb, and_parts, or_cases, or_left, or_right}
use Rattle.std.proofs.lemmas.List.{append-nil, take-append-drop}
use Rattle.cell_model.specs.declared.kind.Kind.{Kind}
use Rattle.cell_model.specs.declared.kind.Kind.TheVariants as kind
use Rattle.cell_model.specs.Kinds.{has_width, kinds, values_of}
use Rattle.workload_spec.specs.declared.script.Cause.TheVariants as cause
use Rattle.workload_spec.specs.Valid.{is_within, is_lower_case, is_digit, underscore, is_name_byte, is_later, is_taken_kind}
use Rattle.workload_spec.specs.ScriptText.{kind_text}
use Rattle.workload_spec.specs.Reading.{natural_of, natural_within, value_of_digits}
use Rattle.workload_spec.specs.Grammar.{or_cause, fixed_named, kind_named, taken_kind, question_mark, before_mark, kind_of}
use Rattle.workload_laws.proofs.Results.{eq_of, some_of, within_some, spelled_as}
use Rattle.workload_laws.proofs.Lists.{joined, find_is}
use Rattle.workload_laws.proofs.Numbers.{are_digits, decimal_digits, within_back}
use Rattle.workload_laws.proofs.Narrows.{Narrows}

-- Names that are read.

-- the name is the kind's, and the kind's values have a width
abbrev IsNamed : List ℕ → Kind → Type 0
IsNamed name k = (kind_text k ≡ name) × (has_width (values_of k) ≡ true)

-- Kinds with names of their own have values with a width.
are_wide : list_all (λ k. has_width (values_of k)) kinds ≡ true
are_wide = refl

-- What is found passes what all pass.
find_all : {X : Type 0} (p q : X → Bool) (xs : List X) (x : X) → list_all q xs ≡ true → find p xs ≡ Some x → q x ≡ true
find_all p q [] x all e = absurd cc
find_all p q (y ∷ ys) x all e =
    let parts = and_parts (q y) (list_all q ys) all in
    by (p y) parts.0 (λ f. find_all p q ys x parts.1 f) e
  where
    by : (b : Bool) → q y ≡ true → (find p ys ≡ Some x → q x ≡ true) → cond b (Some y) (find p ys) ≡ Some x → q x ≡ true
    by true here behind f = let same : y ≡ x = cc in ap q (sym same) ∙ here
    by false here behind f = behind f

-- A kind of values of so many bytes is told by its name.
fixed_is : (name : List ℕ) (k : Kind) → fixed_named name ≡ Some k → IsNamed name k
fixed_is name k e = by (bytes_eq (take 5 name) (codes "fixed")) refl e
  where
    told : bytes_eq (take 5 name) (codes "fixed") ≡ true → (o : Option ℕ) → natural_within 1 1024 (drop 5 name) ≡ o → option_map kind.Fixed o ≡ Some k → IsNamed name k
    told front None is f = absurd cc
    told front (Some bytes) is f =
        let within = within_some 1 1024 (natural_of (drop 5 name)) bytes is in
        let digits : decimal bytes ≡ drop 5 name = spelled_as decimal (drop 5 name) (value_of_digits (drop 5 name)) bytes within.0 in
        let same : kind.Fixed bytes ≡ k = cc in
        subst (IsNamed name) same (
          ap (λ (rest : List ℕ). codes "fixed" ++ rest) digits ∙ ap (λ (first : List ℕ). first ++ drop 5 name) (sym (eq_of (take 5 name) (codes "fixed") front)) ∙ take-append-drop 5 name,
          within.1,
        )

    by : (b : Bool) → bytes_eq (take 5 name) (codes "fixed") ≡ b → (if b then option_map kind.Fixed (natural_within 1 1024 (drop 5 name)) else None) ≡ Some k → IsNamed name k
    by true front f = told front (natural_within 1 1024 (drop 5 name)) refl f
    by false front f = absurd cc

-- the kind of a name has this name, and its values a width
named_is : (name : List ℕ) (k : Kind) → kind_named name ≡ Some k → IsNamed name k
named_is name k e = by (find (λ kind. bytes_eq (kind_text kind) name) kinds) refl e
  where
    by : (o : Option Kind) → find (λ kind. bytes_eq (kind_text kind) name) kinds ≡ o → option_or o (fixed_named name) ≡ Some k → IsNamed name k
    by None is f = fixed_is name k f
    by (Some found) is f =
        let same : found ≡ k = cc in
        subst (IsNamed name) same (
          eq_of (kind_text found) name (find_is (λ kind. bytes_eq (kind_text kind) name) kinds found is),
          find_all (λ kind. bytes_eq (kind_text kind) name) (λ kind. has_width (values_of kind)) kinds found are_wide is,
        )

-- the kind, where it is taken
abbrev pub Taken : Bool → Option Kind → Option Kind
Taken later o = option_and_then (λ kind. if is_taken_kind later kind then Some kind else None) o

-- A kind that is left of those that are taken was there, and is taken.
taken_some : (later : Bool) (o : Option Kind) (k : Kind) → Taken later o ≡ Some k → (o ≡ Some k) × (is_taken_kind later k ≡ true)
taken_some later None k e = absurd cc
taken_some later (Some found) k e = by (is_taken_kind later found) refl e
  where
    by : (b : Bool) → is_taken_kind later found ≡ b → (if b then Some found else None) ≡ Some k → (Some found ≡ Some k) × (is_taken_kind later k ≡ true)
    by true taken is = let same : found ≡ k = cc in (is, ap (is_taken_kind later) (sym same) ∙ taken)
    by false taken is = absurd cc

-- A kind that is taken is left.
taken_back : (later : Bool) (o : Option Kind) (k : Kind) → o ≡ Some k → is_taken_kind later k ≡ true → Taken later o ≡ Some k
taken_back later o k is taken = ap (Taken later) is ∙ ap (λ (b : Bool). if b then Some k else None) taken

-- what stands before a mark, with the mark, is the word
pub mark_is : (word front : List ℕ) → before_mark word ≡ Some front → word ≡ front ++ question_mark ∷ []
mark_is [] front e = absurd cc
mark_is (byte ∷ []) front e = by (byte == 63) refl e
  where
    by : (b : Bool) → byte == 63 ≡ b → (if b then Some [] else None) ≡ Some front → byte ∷ [] ≡ front ++ 63 ∷ []
    by true mark is = let same : [] ≡ front = cc in ap (λ (b : ℕ). b ∷ []) (eqb-true byte 63 mark) ∙ ap (λ (f : List ℕ). f ++ 63 ∷ []) same
    by false mark is = absurd cc
mark_is (byte ∷ next ∷ bytes) front e = by (before_mark (next ∷ bytes)) (λ rest is. mark_is (next ∷ bytes) rest is) e
  where
    by : (o : Option (List ℕ)) → ((rest : List ℕ) → o ≡ Some rest → next ∷ bytes ≡ rest ++ 63 ∷ []) → option_map (λ rest. byte ∷ rest) o ≡ Some front → byte ∷ next ∷ bytes ≡ front ++ 63 ∷ []
    by None behind f = absurd cc
    by (Some rest) behind f =
        let same : byte ∷ rest ≡ front = cc in
        ap (λ (bs : List ℕ). byte ∷ bs) (behind rest refl) ∙ ap (λ (bs : List ℕ). bs ++ 63 ∷ []) same

-- the word is the kind's name, with its mark for nulls, and the kind's values have a width
pub record IsKindOf (word : List ℕ) (kind : Kind × Bool) : Type 0 where
  pub text : kind_text kind.0 ++ (if kind.1 then codes "?" else []) ≡ word
  pub wide : has_width (values_of kind.0) ≡ true

-- A kind that is found is the word's with the mark that it is given.
with_mark : (mark : Bool) (word : List ℕ) (o : Option Kind) (kind : Kind × Bool) → ((k : Kind) → o ≡ Some k → IsKindOf word (k, mark)) → option_map (λ k. (k, mark)) o ≡ Some kind → IsKindOf word kind
with_mark mark word None kind is e = absurd cc
with_mark mark word (Some k) kind is e = let same : (k, mark) ≡ kind = cc in subst (IsKindOf word) same (is k refl)

-- the kind of a word, by what stands before its mark
abbrev pub kind_by : Bool → List ℕ → Option (List ℕ) → Option (Kind × Bool)
kind_by later word o = option_map_or (λ name. option_map (λ k. (k, true)) (taken_kind later name)) o (option_map (λ k. (k, false)) (taken_kind later word))

-- the word is the name of the kind that it is read as, with its mark for nulls
pub kind_is : (later : Bool) (word : List ℕ) (kind : Kind × Bool) → kind_of later word ≡ Some kind → IsKindOf word kind
kind_is later word kind e = by (before_mark word) refl e
  where
    by : (o : Option (List ℕ)) → before_mark word ≡ o → kind_by later word o ≡ Some kind → IsKindOf word kind
    by None is f = with_mark false word (taken_kind later word) kind (λ k found.
        let named = named_is word k (taken_some later (kind_named word) k found).0 in
        record { text = append-nil (kind_text k) ∙ named.0; wide = named.1 }) f
    by (Some name) is f = with_mark true word (taken_kind later name) kind (λ k found.
        let named = named_is name k (taken_some later (kind_named name) k found).0 in
        record { text = ap (λ (text : List ℕ). text ++ codes "?") named.0 ∙ sym (mark_is word name is); wide = named.1 }) f

-- Names that are read back.

-- the name of each kind names it
name_back : (k : Kind) → has_width (values_of k) ≡ true → kind_named (kind_text k) ≡ Some k
name_back (kind.Fixed bytes) wide = ap (option_map kind.Fixed) (within_back 1 1024 bytes (omega (arith, leb-true bytes 1024 (and_parts (nat_le 1 bytes) (nat_le bytes 1024) wide).1)) wide)
name_back kind.I8 wide = refl
name_back _ wide = refl

-- Digits are bytes of names.
digits_named : (word : List ℕ) → are_digits word ≡ true → list_all is_name_byte word ≡ true
digits_named [] all = refl
digits_named (byte ∷ bytes) all =
    let d = and_parts (is_digit byte) (are_digits bytes) all in
    joined (or_left (is_lower_case byte || is_digit byte) (byte == underscore) (or_right (is_lower_case byte) (is_digit byte) d.0)) (digits_named bytes d.1)

-- it is of bytes of names
pub kind_bytes : (k : Kind) → has_width (values_of k) ≡ true → list_all is_name_byte (kind_text k) ≡ true
kind_bytes (kind.Fixed bytes) wide = digits_named (decimal bytes) (decimal_digits bytes (omega (arith, leb-true bytes 1024 (and_parts (nat_le 1 bytes) (nat_le bytes 1024) wide).1)))
kind_bytes kind.I8 wide = refl
kind_bytes _ wide = refl

-- A byte within bounds beside the mark is not the mark.
within_no_mark : (low high byte : ℕ) → (63 < low) ⊎ (high < 63) → is_within low high byte ≡ true → byte == question_mark ≡ false
within_no_mark low high byte beside within =
    let w = and_parts _ _ within in
    let l = leb-true low byte w.0 in
    let h = leb-true byte high w.1 in
    ne_eqb byte 63 (λ e. elim beside [ inl b ↦ omega (arith, b, l, e) | inr b ↦ omega (arith, b, h, e) ])

-- A byte that a name may have is not the mark.
name_no_mark : (byte : ℕ) → is_name_byte byte ≡ true → byte == question_mark ≡ false
name_no_mark byte is = elim (or_cases (is_lower_case byte || is_digit byte) (byte == underscore) is) [
  | inl letter ↦ elim (or_cases (is_lower_case byte) (is_digit byte) letter) [
    | inl lower ↦ within_no_mark 97 122 byte (inl (omega arith)) lower
    | inr digit ↦ within_no_mark 48 57 byte (inr (omega arith)) digit
  ]
  | inr e ↦ ne_eqb byte 63 (λ f. omega (arith, eqb-true byte 95 e, f))
]

-- Bytes of names end with no mark.
no_mark : (word : List ℕ) → list_all is_name_byte word ≡ true → before_mark word ≡ None
no_mark [] all = refl
no_mark (byte ∷ []) all = ap (λ (b : Bool). if b then Some [] else None) (name_no_mark byte (and_parts (is_name_byte byte) true all).0)
no_mark (byte ∷ next ∷ bytes) all = ap (λ (o : Option (List ℕ)). option_map (λ rest. byte ∷ rest) o) (no_mark (next ∷ bytes) (and_parts (is_name_byte byte) (list_all is_name_byte (next ∷ bytes)) all).1)

-- what stands before a mark is found there
pub mark_back : (front : List ℕ) → before_mark (front ++ question_mark ∷ []) ≡ Some front
mark_back [] = refl
mark_back (byte ∷ []) = refl
mark_back (byte ∷ next ∷ bytes) = ap (λ (o : Option (List ℕ)). option_map (λ rest. byte ∷ rest) o) (mark_back (next ∷ bytes))

-- a kind that is taken and its mark for nulls are read back from their text
pub kind_back : (later : Bool) (k : Kind) (nullable : Bool) → is_taken_kind later k ≡ true → has_width (values_of k) ≡ true → kind_of later (kind_text k ++ (if nullable then codes "?" else [])) ≡ Some (k, nullable)
kind_back later k true taken wide =
    ap (kind_by later (kind_text k ++ codes "?")) (mark_back (kind_text k))
    ∙ ap (λ (o : Option Kind). option_map (λ kind. (kind, true)) o) (taken_back later (kind_named (kind_text k)) k (name_back k wide) taken)
kind_back later k false taken wide =
    ap (kind_of later) (append-nil (kind_text k))
    ∙ ap (kind_by later (kind_text k)) (no_mark (kind_text k) (kind_bytes k wide))
    ∙ ap (λ (o : Option Kind). option_map (λ kind. (kind, false)) o) (taken_back later (kind_named (kind_text k)) k (name_back k wide) taken)

-- Kinds that are taken.

-- the whole format takes each kind
pub each_taken : (k : Kind) → is_taken_kind true k ≡ true
each_taken k = or_right (not (is_later k)) true refl

-- a kind with its mark, and whether it is taken
abbrev MarkTaken : Bool → Kind × Bool → Type 0
MarkTaken later kind = is_taken_kind later kind.0 ≡ true

-- A kind that is taken, with its mark, is one of all kinds.
mark_to : (later mark : Bool) (o : Option Kind) (kind : Kind × Bool) → option_map (λ k. (k, mark)) (Taken later o) ≡ Some kind
    → (option_map (λ k. (k, mark)) (Taken true o) ≡ Some kind) × MarkTaken later kind
mark_to later mark o kind e = by (Taken later o) refl e
  where
    by : (t : Option Kind) → Taken later o ≡ t → option_map (λ k. (k, mark)) t ≡ Some kind → (option_map (λ k. (k, mark)) (Taken true o) ≡ Some kind) × MarkTaken later kind
    by None is f = absurd cc
    by (Some k) is f =
        let found = taken_some later o k is in
        let same : (k, mark) ≡ kind = cc in
        (ap (λ (t : Option Kind). option_map (λ k. (k, mark)) t) (taken_back true o k found.0 (each_taken k)) ∙ f, ap (λ (p : Kind × Bool). is_taken_kind later p.0) (sym same) ∙ found.1)

-- One of all kinds is left where it is taken.
mark_from : (later mark : Bool) (o : Option Kind) (kind : Kind × Bool) → option_map (λ k. (k, mark)) (Taken true o) ≡ Some kind → MarkTaken later kind
    → option_map (λ k. (k, mark)) (Taken later o) ≡ Some kind
mark_from later mark o kind e taken = by (Taken true o) refl e
  where
    by : (t : Option Kind) → Taken true o ≡ t → option_map (λ k. (k, mark)) t ≡ Some kind → option_map (λ k. (k, mark)) (Taken later o) ≡ Some kind
    by None is f = absurd cc
    by (Some k) is f =
        let found = taken_some true o k is in
        let same : (k, mark) ≡ kind = cc in
        ap (λ (t : Option Kind). option_map (λ k. (k, mark)) t) (taken_back later o k found.0 (ap (λ (p : Kind × Bool). is_taken_kind later p.0) same ∙ taken)) ∙ f

-- The kind of a word is one of all kinds that is taken, and nothing else.
kinds_to : (later : Bool) (word : List ℕ) (o : Option (List ℕ)) (kind : Kind × Bool) → kind_by later word o ≡ Some kind → (kind_by true word o ≡ Some kind) × MarkTaken later kind
kinds_to later word None kind e = mark_to later false (kind_named word) kind e
kinds_to later word (Some name) kind e = mark_to later true (kind_named name) kind e

-- One of all kinds that is taken is the kind of the word.
kinds_from : (later : Bool) (word : List ℕ) (o : Option (List ℕ)) (kind : Kind × Bool) → kind_by true word o ≡ Some kind → MarkTaken later kind → kind_by later word o ≡ Some kind
kinds_from later word None kind e taken = mark_from later false (kind_named word) kind e taken
kinds_from later word (Some name) kind e taken = mark_from later true (kind_named name) kind e taken

-- a kind within an extent is the whole format's that it takes
pub narrow_kind : (later : Bool) (word : List ℕ) → Narrows (or_cause cause.Kind (kind_of later word)) (or_cause cause.Kind (kind_of true word)) (MarkTaken later)
narrow_kind later word = record {
  to = λ kind e. let t = kinds_to later word (before_mark word) kind (some_of cause.Kind (kind_of later word) kind e) in (ap (or_cause cause.Kind) t.0, t.1);
  back = λ kind e taken. ap (or_cause cause.Kind) (kinds_from later word (before_mark word) kind (some_of cause.Kind (kind_of true word) kind e) taken);
}
