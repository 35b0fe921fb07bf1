-- Bytes are read piece by piece, and a piece is read back where it stands.
use Rattle.std.proofs.Common.{◌≡◌, ℕ, Bool, true, false, List, [], ◌∷◌, ◌++◌, length, take, drop, refl, sym, ap, ◌∙◌, arith}
use Rattle.std.specs.Prelude.{◌==◌, not, Option, Some, None, option_map, bytes_eq, if◌then◌else◌}
use Rattle.std.specs.List.{list_all}
use Rattle.std.proofs.lemmas.List.{take-append-drop}
use Rattle.std.proofs.lemmas.Bool.{eq-eqb, eqb-true, ltb-true, ne_eqb, and_parts, not-true}
use Rattle.workload_spec.specs.Words.{space}
use Rattle.workload_laws.proofs.Lists.{joined}
use Rattle.workload_laws.proofs.Results.{eq_of}
use Rattle.workload_laws.proofs.Apart.{is_plain}
use Rattle.reply_text.specs.Readers.{◌>>=◌, where_true, behind, cut}

-- what was read, where something was
pub step : {A B P : Type 0} (first : Option A) (next : A → Option B) (b : B) → (first >>= next) ≡ Some b → ((a : A) → first ≡ Some a → next a ≡ Some b → P) → P
step None next b e take = absurd cc
step (Some a) next b e take = take a refl e

-- what is made of a piece came of one that was read
pub mapped : {A B P : Type 0} (make : A → B) (first : Option A) (b : B) → option_map make first ≡ Some b → ((a : A) → first ≡ Some a → make a ≡ b → P) → P
mapped make None b e take = absurd cc
mapped make (Some a) b e take = take a refl (let same : make a ≡ b = cc in same)

-- a first piece that is read goes on to the next
pub gives : {A B : Type 0} (first : Option A) (next : A → Option B) (r : Option B) (a : A) → first ≡ Some a → next a ≡ r → (first >>= next) ≡ r
gives first next r a is e = rw is e

-- what is read under a test has passed it
pub where_is : {A : Type 0} (b : Bool) (value found : A) → where_true b value ≡ Some found → (b ≡ true) × (value ≡ found)
where_is true value found e = (refl, let same : value ≡ found = cc in same)
where_is false value found e = absurd cc

-- bytes behind a front are the front and what is left
pub behind_is : (front bytes rest : List ℕ) → behind front bytes ≡ Some rest → bytes ≡ front ++ rest
behind_is front bytes rest e =
    let w = where_is (bytes_eq (take (length front) bytes) front) (drop (length front) bytes) rest e in
    sym (take-append-drop (length front) bytes) ∙ ap (λ (first : List ℕ). first ++ drop (length front) bytes) (eq_of (take (length front) bytes) front w.0) ∙ ap (λ (r : List ℕ). front ++ r) w.1

-- bytes that are cut are the two parts with the separator between
pub cut_is : (separator : ℕ) (bytes : List ℕ) (parts : List ℕ × List ℕ) → cut separator bytes ≡ Some parts → bytes ≡ parts.0 ++ separator ∷ parts.1
cut_is separator [] parts e = absurd cc
cut_is separator (byte ∷ bytes) parts e = by (byte == separator) refl (λ p at. cut_is separator bytes p at) e
  where
    by : (b : Bool) → byte == separator ≡ b → ((p : List ℕ × List ℕ) → cut separator bytes ≡ Some p → bytes ≡ p.0 ++ separator ∷ p.1)
        → (if b then Some ([], bytes) else option_map (λ p. (byte ∷ p.0, p.1)) (cut separator bytes)) ≡ Some parts → byte ∷ bytes ≡ parts.0 ++ separator ∷ parts.1
    by true is later f = let same : ([], bytes) ≡ parts = cc in ap (λ (b : ℕ). b ∷ bytes) (eqb-true byte separator is) ∙ ap (λ (p : List ℕ × List ℕ). p.0 ++ separator ∷ p.1) same
    by false is later f = mapped (λ p. (byte ∷ p.0, p.1)) (cut separator bytes) parts f (λ p at same.
        ap (λ (bs : List ℕ). byte ∷ bs) (later p at) ∙ ap (λ (q : List ℕ × List ℕ). q.0 ++ separator ∷ q.1) same)

-- a word without the separator is cut off before one
pub cut_back : (separator : ℕ) (word rest : List ℕ) → list_all (λ byte. not (byte == separator)) word ≡ true → cut separator (word ++ separator ∷ rest) ≡ Some (word, rest)
cut_back separator [] rest all = rw (eq-eqb separator separator refl) refl
cut_back separator (byte ∷ bytes) rest all =
    let b = and_parts (not (byte == separator)) (list_all (λ byte. not (byte == separator)) bytes) all in
    rw (not-true (byte == separator) b.0, cut_back separator bytes rest b.1) refl

-- no space stands among plain bytes
pub plain_apart : (word : List ℕ) → list_all is_plain word ≡ true → list_all (λ byte. not (byte == space)) word ≡ true
plain_apart [] all = refl
plain_apart (byte ∷ bytes) all =
    let b = and_parts (is_plain byte) (list_all is_plain bytes) all in
    let n : byte == 32 ≡ false = ne_eqb byte 32 (λ e. omega (arith, e, ltb-true 34 byte b.0)) in
    joined (ap not n) (plain_apart bytes b.1)
