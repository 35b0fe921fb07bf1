-- One reply more, and how many commits there are.
use Rattle.std.proofs.Common.{◌≡◌, ℕ, ◌+◌, ◌<◌, List, [], ◌∷◌, ◌++◌, Option, None, Some, length, take, get_or, refl, sym, ap, ◌∙◌, length-append}
use Rattle.std.specs.Prelude.{is_some, if◌then◌else◌}
use Rattle.std.specs.List.{cons_option}
use Rattle.std.proofs.lemmas.List.{map-append, take_more}
use Rattle.std.proofs.lemmas.List.Elements.{filter_map-append}
use Rattle.outcome_spec.specs.Entries.{Entry, commit_in, shown_in}
use Rattle.outcome_spec.specs.Runs.{commit_count}
use Rattle.output_read.specs.declared.kept.KeptReply.{KeptReply}
use Rattle.output_read.specs.Kept.{entries_of, entry_of, said_of}

-- An option makes a list of one element, or of none.
one : {X : Type 0} (o : Option X) → length (cons_option o []) ≡ (if is_some o then 1 else 0)
one None = refl
one (Some x) = refl

-- Two lists of replies have together the commits of both.
commits_append : (xs ys : List Entry) → commit_count (xs ++ ys) ≡ commit_count xs + commit_count ys
commits_append xs ys = ap length (filter_map-append (λ (e : Entry). commit_in e.reply.said) xs ys) ∙ length-append (shown_in commit_in xs) (shown_in commit_in ys)

-- one reply more is one commit more, if it commits with a number
pub commits_more : (xs : List KeptReply) (i : ℕ) (x : KeptReply) → i < length xs → x ≡ get_or xs i x
    → commit_count (entries_of (take (i + 1) xs)) ≡ commit_count (entries_of (take i xs)) + (if is_some (commit_in (said_of x.told)) then 1 else 0)
commits_more xs i x inside is =
    let grown : take (i + 1) xs ≡ take i xs ++ x ∷ [] = take_more xs i x inside ∙ ap (λ (y : KeptReply). take i xs ++ y ∷ []) (sym is) in
    ap (λ (l : List KeptReply). commit_count (entries_of l)) grown ∙ ap commit_count (map-append entry_of (take i xs) (x ∷ []))
    ∙ commits_append (entries_of (take i xs)) (entry_of x ∷ []) ∙ ap (λ (n : ℕ). commit_count (entries_of (take i xs)) + n) (one (commit_in (said_of x.told)))
