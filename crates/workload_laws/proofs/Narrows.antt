-- A reading within an extent beside the same of the whole format: it gives the same, where that
-- keeps the extent's bounds.
use Rattle.std.proofs.Common.{◌≡◌, ℕ, ◌≤◌, Bool, true, false, List, refl, sym, ap, ◌∙◌, subst, arith}
use Rattle.std.specs.Prelude.{Option, Some, None, nat_le, Result, Ok, Err, option_and_then, if◌then◌else◌}
use Rattle.std.proofs.lemmas.Bool.{leb-true, le-leb, and_parts}
use Rattle.workload_spec.specs.declared.extent.Extent.{Extent}
use Rattle.workload_spec.specs.declared.script.Cause.{Cause}
use Rattle.workload_spec.specs.declared.script.Cause.TheVariants as cause
use Rattle.workload_spec.specs.Extents.{whole}
use Rattle.workload_spec.specs.Valid.{is_within, most_sessions, most_workers, most_turns}
use Rattle.workload_spec.specs.Reading.{natural_of, natural_within}
use Rattle.workload_spec.specs.Grammar.{◌>>=◌, or_cause, rule, word, no_word, keyword, number, on_line, sessions_of, workers_of}
use Rattle.workload_laws.proofs.Results.{step, gives}
use Rattle.workload_laws.proofs.Lists.{joined}

-- the first reading gives what the second gives and that keeps the bounds, and nothing else
pub record Narrows {A E : Type 0} (first second : Result A E) (keeps : A → Type 0) : Type 0 where
  pub to : (a : A) → first ≡ Ok a → (second ≡ Ok a) × keeps a
  pub back : (a : A) → second ≡ Ok a → keeps a → first ≡ Ok a

-- one and the same reading, all of whose values keep the bounds
pub alike : {A E : Type 0} (reading : Result A E) (keeps : A → Type 0) → ((a : A) → reading ≡ Ok a → keeps a) → Narrows reading reading keeps
alike reading keeps each = record { to = λ a is. (is, each a is); back = λ a is kept. is }

-- what is read behind one and the same reading
pub behind : {A B E : Type 0} (first : Result A E) (next wide : A → Result B E) (keeps : B → Type 0)
    → ((a : A) → first ≡ Ok a → Narrows (next a) (wide a) keeps) → Narrows (first >>= next) (first >>= wide) keeps
behind first next wide keeps each = record {
  to = λ b e. step first next b e (λ a is rest. let n = (each a is).to b rest in (gives first wide (Ok b) a is n.0, n.1));
  back = λ b e kept. step first wide b e (λ a is rest. gives first next (Ok b) a is ((each a is).back b rest kept));
}

-- what is read behind a narrower reading, where bounds that the last value keeps are kept by the
-- first too
pub joint : {A B E : Type 0} (first second : Result A E) (keeps_first : A → Type 0) (next wide : A → Result B E) (keeps : B → Type 0)
    → Narrows first second keeps_first → ((a : A) → second ≡ Ok a → keeps_first a → Narrows (next a) (wide a) keeps)
    → ((a : A) (b : B) → second ≡ Ok a → wide a ≡ Ok b → keeps b → keeps_first a) → Narrows (first >>= next) (second >>= wide) keeps
joint first second keeps_first next wide keeps narrow each kept_first = record {
  to = λ b e. step first next b e (λ a is rest.
      let n = narrow.to a is in
      let m = (each a n.0 n.1).to b rest in
      (gives second wide (Ok b) a n.0 m.0, m.1));
  back = λ b e kept. step second wide b e (λ a is rest.
      let k = kept_first a b is rest kept in
      gives first next (Ok b) a (narrow.back a is k) ((each a is k).back b rest kept));
}

-- a stricter rule gives what the rule gives where the stricter one is kept
pub narrow_rule : (cause : Cause) (narrow wide : Bool) → (narrow ≡ true → wide ≡ true) → Narrows (rule cause narrow) (rule cause wide) (λ _. narrow ≡ true)
narrow_rule cause true wide known = record { to = λ a is. (ap (rule cause) (known refl) ∙ is, refl); back = λ a is kept. is_unit a }
  where
    is_unit : (a : Unit {0}) → rule cause true ≡ Ok a
    is_unit tt = refl
narrow_rule cause false wide known = record { to = λ a is. absurd cc; back = λ a is kept. absurd cc }

-- a reading stays the narrower one where its fault is told with the line
pub narrow_on_line : {A : Type 0} (at : ℕ) (narrow wide : Result A Cause) (keeps : A → Type 0) → Narrows narrow wide keeps → Narrows (on_line at narrow) (on_line at wide) keeps
narrow_on_line {A} at narrow wide keeps known = record {
  to = λ a is. let n = known.to a (line_of_ok narrow a is) in (ap (on_line at) n.0, n.1);
  back = λ a is kept. ap (on_line at) (known.back a (line_of_ok wide a is) kept);
}
  where
    line_of_ok : (r : Result A Cause) (a : A) → on_line at r ≡ Ok a → r ≡ Ok a
    line_of_ok (Ok b) a e = cc
    line_of_ok (Err cause) a e = absurd cc

-- Numbers with a lower bound.

-- A number, if there is one, where it is within two bounds.
abbrev Within : ℕ → ℕ → Option ℕ → Option ℕ
Within low high o = option_and_then (λ value. if is_within low high value then Some value else None) o

-- A number within two bounds is so with a higher upper one.
within_test : (low high most value : ℕ) → high ≤ most → is_within low high value ≡ true → is_within low most value ≡ true
within_test low high most value le within =
    let w = and_parts (nat_le low value) (nat_le value high) within in
    let h = leb-true value high w.1 in
    joined w.0 (le-leb value most (omega arith))

-- What a stricter test takes is what the other takes of values up to a bound.
narrow_test : (cause : Cause) (value high : ℕ) (narrow wide : Bool) → (narrow ≡ true → wide ≡ true) → (narrow ≡ true → nat_le value high ≡ true) → (wide ≡ true → nat_le value high ≡ true → narrow ≡ true)
    → Narrows (or_cause cause (if narrow then Some value else None)) (or_cause cause (if wide then Some value else None)) (λ n. nat_le n high ≡ true)
narrow_test cause value high true wide widened low back = record {
  to = λ a is. let same : value ≡ a = cc in (rw (widened refl) is, subst (λ (n : ℕ). nat_le n high ≡ true) same (low refl));
  back = λ a is kept. let e = rw (widened refl) at is in e;
}
narrow_test cause value high false true widened low back = record {
  to = λ a is. absurd cc;
  back = λ a is kept. let same : value ≡ a = cc in absurd (let f = back refl (subst (λ (n : ℕ). nat_le n high ≡ true) (sym same) kept) in cc);
}
narrow_test cause value high false false widened low back = record { to = λ a is. absurd cc; back = λ a is kept. absurd cc }

-- A number within lower bounds is one within higher ones that is low enough.
narrow_within : (cause : Cause) (low high most : ℕ) (o : Option ℕ) → high ≤ most → Narrows (or_cause cause (Within low high o)) (or_cause cause (Within low most o)) (λ n. nat_le n high ≡ true)
narrow_within cause low high most None le = record { to = λ a is. absurd cc; back = λ a is kept. absurd cc }
narrow_within cause low high most (Some value) le =
    narrow_test cause value high (is_within low high value) (is_within low most value) (within_test low high most value le)
    (λ within. (and_parts (nat_le low value) (nat_le value high) within).1)
    (λ within kept. joined (and_parts (nat_le low value) (nat_le value most) within).0 kept)

-- a number with a lower limit is one of the whole format's up to that limit
pub narrow_number : (cause : Cause) (low high most : ℕ) (words : List (List ℕ)) → high ≤ most → Narrows (number cause low high words) (number cause low most words) (λ read. nat_le read.0 high ≡ true)
narrow_number cause low high most words le =
    let Kept : ℕ × List (List ℕ) → Type 0 = λ read. nat_le read.0 high ≡ true in
    behind (word cause words) _ _ Kept (λ first is.
    joint (or_cause cause (natural_within low high first.0)) (or_cause cause (natural_within low most first.0)) (λ value. nat_le value high ≡ true) _ _ Kept
    (narrow_within cause low high most (natural_of first.0) le)
    (λ value read kept. alike (Ok (value, first.1)) Kept (λ a same. let e : (value, first.1) ≡ a = cc in subst Kept e kept))
    (λ value a read same kept. let e : (value, first.1) ≡ a = cc in subst Kept (sym e) kept))

-- how many sessions there are, with fewer at most
pub narrow_sessions : (extent : Extent) (words : List (List ℕ)) → extent.sessions ≤ most_sessions → Narrows (sessions_of extent words) (sessions_of whole words) (λ sessions. nat_le sessions extent.sessions ≡ true)
narrow_sessions extent words le =
    let Kept : ℕ → Type 0 = λ sessions. nat_le sessions extent.sessions ≡ true in
    behind (keyword cause.Sessions _ words) _ _ Kept (λ rest is.
    joint (number cause.Sessions 1 extent.sessions rest) (number cause.Sessions 1 most_sessions rest) (λ read. nat_le read.0 extent.sessions ≡ true) _ _ Kept
    (narrow_number cause.Sessions 1 extent.sessions most_sessions rest le)
    (λ read is1 kept. behind (no_word cause.Sessions read.1) _ _ Kept (λ end is2. alike (Ok read.0) Kept (λ a same. let e : read.0 ≡ a = cc in subst Kept e kept)))
    (λ read a is1 made kept. step (no_word cause.Sessions read.1) _ a made (λ end is2 same. let e : read.0 ≡ a = cc in subst Kept (sym e) kept)))

-- workers and turns that keep an extent's bounds
abbrev pub FewWorkers : Extent → ℕ × ℕ → Type 0
FewWorkers extent workers = (nat_le workers.0 extent.workers ≡ true) × (nat_le workers.1 extent.turns ≡ true)

-- workers and turns within an extent are the whole format's that keep its bounds
pub narrow_workers : (extent : Extent) (words : List (List ℕ)) → extent.workers ≤ most_workers → extent.turns ≤ most_turns → Narrows (workers_of extent words) (workers_of whole words) (FewWorkers extent)
narrow_workers extent words le few =
    let Kept : ℕ × ℕ → Type 0 = FewWorkers extent in
    behind (keyword cause.Workers _ words) _ _ Kept (λ rest is.
    joint (number cause.Workers 0 extent.workers rest) (number cause.Workers 0 most_workers rest) (λ read. nat_le read.0 extent.workers ≡ true) _ _ Kept
    (narrow_number cause.Workers 0 extent.workers most_workers rest le)
    (λ workers is1 low.
    joint (number cause.Workers 0 extent.turns workers.1) (number cause.Workers 0 most_turns workers.1) (λ read. nat_le read.0 extent.turns ≡ true) _ _ Kept
    (narrow_number cause.Workers 0 extent.turns most_turns workers.1 few)
    (λ turns is2 short. behind (no_word cause.Workers turns.1) _ _ Kept (λ end is3.
    alike (Ok (workers.0, turns.0)) Kept (λ a same. let e : (workers.0, turns.0) ≡ a = cc in subst Kept e (low, short))))
    (λ turns a is2 made kept. step (no_word cause.Workers turns.1) _ a made (λ end is3 same. let e : (workers.0, turns.0) ≡ a = cc in (subst Kept (sym e) kept).1)))
    (λ workers a is1 made kept. step (number cause.Workers 0 most_turns workers.1) _ a made (λ turns is2 rest.
    step (no_word cause.Workers turns.1) _ a rest (λ end is3 same. let e : (workers.0, turns.0) ≡ a = cc in (subst Kept (sym e) kept).0))))
