-- Where the line of a number stands, with a reply more.
use Rattle.std.proofs.Common.{◌≡◌, ℕ, ◌+◌, Bool, true, false, List, [], ◌∷◌, ◌++◌, length, take, Option, None, Some, refl, sym, ap, ◌∙◌}
use Rattle.std.specs.List.{find, slice_get}
use Rattle.std.specs.Option.{option_map_or, option_or}
use Rattle.std.specs.Ordering.{nat_cmp}
use Rattle.std.specs.Prelude.{is_some, option_and_then, if◌then◌else◌, ◌==◌}
use Rattle.std.proofs.lemmas.List.Folds.{find-append}
use Rattle.mark_index.proofs.Noted.{take-next}
use Rattle.outcome_spec.specs.Entries.{Entry, commit_in}
use Rattle.outcome_spec.specs.Runs.{commits_as}
use Rattle.outcome_counts.specs.Keys.{is_keyed}
use Rattle.outcome_counts.proofs.Keyed.{nat-same}
use Rattle.outcome_counts.proofs.Starts.{get-at}

-- Where the line of a number stands among the first so many replies.
pub record IsLine (entries : List Entry) (taken number : ℕ) (place : Option ℕ) : Type 0 where
  pub line : option_and_then (slice_get entries) place ≡ find (commits_as number) (take taken entries)
  pub there : is_some place ≡ is_some (find (commits_as number) (take taken entries))

-- A number is keyed by what is shown exactly where it is the one shown.
keyed-as : (number : ℕ) (shown : Option ℕ) → is_keyed nat_cmp number shown ≡ option_map_or (λ n. n == number) shown false
keyed-as number None = refl
keyed-as number (Some n) = nat-same n number

-- With a reply more, the place that is kept has the line found before, or else this reply.
step-line : (entries : List Entry) (n : ℕ) (entry : Entry) (old : Option ℕ) (found : Option Entry) (keyed : Bool) → option_and_then (slice_get entries) old ≡ found → is_some old ≡ is_some found → slice_get entries n ≡ Some entry
    → option_and_then (slice_get entries) (option_or old (if keyed then Some n else None)) ≡ option_or found (if keyed then Some entry else None)
step-line entries n entry None None true is there at = at
step-line entries n entry None None false is there at = refl
step-line entries n entry None (Some found) keyed is there at = absurd (let never : ⊥ = cc in never)
step-line entries n entry (Some old) None keyed is there at = absurd (let never : ⊥ = cc in never)
step-line entries n entry (Some old) (Some found) keyed is there at = is

-- With a reply more, a place is kept exactly where a line is found.
step-there : (n : ℕ) (entry : Entry) (old : Option ℕ) (found : Option Entry) (keyed : Bool) → is_some old ≡ is_some found
    → is_some (option_or old (if keyed then Some n else None)) ≡ is_some (option_or found (if keyed then Some entry else None))
step-there n entry None None true there = refl
step-there n entry None None false there = refl
step-there n entry None (Some found) keyed there = absurd (let never : ⊥ = cc in never)
step-there n entry (Some old) None keyed there = absurd (let never : ⊥ = cc in never)
step-there n entry (Some old) (Some found) keyed there = refl

-- with one more reply a number's line stays the old one, or is this one where it has the number
pub line-next : (entries front : List Entry) (entry : Entry) (rest : List Entry) (n : ℕ) → entries ≡ front ++ entry ∷ rest → length front ≡ n → (number : ℕ) (old new : Option ℕ) → IsLine entries n number old
    → new ≡ option_or old (if is_keyed nat_cmp number (commit_in entry.reply.said) then Some n else None) → IsLine entries (n + 1) number new
line-next entries front entry rest n whole far number old new line is =
    let before = find (commits_as number) (take n entries) in
    let keyed = is_keyed nat_cmp number (commit_in entry.reply.said) in
    let here : slice_get entries n ≡ Some entry = ap (λ (es : List Entry). slice_get es n) whole ∙ ap (λ (k : ℕ). slice_get (front ++ entry ∷ rest) k) (sym far) ∙ get-at front entry rest in
    let now : find (commits_as number) (take (n + 1) entries) ≡ option_or before (if keyed then Some entry else None) =
    ap (find (commits_as number)) (take-next entries front entry rest n whole far) ∙ find-append (commits_as number) (take n entries) (entry ∷ [])
    ∙ ap (λ (b : Bool). option_or before (if b then Some entry else None)) (sym (keyed-as number (commit_in entry.reply.said))) in
    record {
      line = ap (option_and_then (slice_get entries)) is ∙ step-line entries n entry old before keyed line.line line.there here ∙ sym now;
      there = ap is_some is ∙ step-there n entry old before keyed line.there ∙ ap is_some (sym now);
    }
