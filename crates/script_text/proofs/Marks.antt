-- The question mark at the end of a column's word.
use Rattle.std.proofs.Common.{◌≡◌, ◌≢◌, ℕ, Bool, false, List, [], ◌∷◌, ◌++◌, ap, ◌∙◌}
use Rattle.std.specs.Prelude.{◌==◌, Option, None, Some, option_map, if◌then◌else◌}
use Rattle.std.proofs.lemmas.Bool.{ne_eqb}
use Rattle.workload_spec.specs.Grammar.{question_mark, before_mark}
use Rattle.workload_laws.proofs.KindNames.{mark_back}

-- what stands before a mark at the end
pub found : (word front : List ℕ) (last : ℕ) → word ≡ front ++ last ∷ [] → last ≡ question_mark → before_mark word ≡ Some front
found word front last is mark = ap before_mark (is ∙ ap (λ (byte : ℕ). front ++ byte ∷ []) mark) ∙ mark_back front

-- Another byte at the end is no mark.
other_at : (front : List ℕ) (last : ℕ) → last == question_mark ≡ false → before_mark (front ++ last ∷ []) ≡ None
other_at [] last none = ap (λ (b : Bool). if b then Some [] else None) none
other_at (byte ∷ []) last none = ap (λ (o : Option (List ℕ)). option_map (λ rest. byte ∷ rest) o) (other_at [] last none)
other_at (byte ∷ next ∷ bytes) last none = ap (λ (o : Option (List ℕ)). option_map (λ rest. byte ∷ rest) o) (other_at (next ∷ bytes) last none)

-- nothing stands before another byte at the end
pub other : (word front : List ℕ) (last : ℕ) → word ≡ front ++ last ∷ [] → last ≢ question_mark → before_mark word ≡ None
other word front last is none = ap before_mark is ∙ other_at front last (ne_eqb last 63 none)
