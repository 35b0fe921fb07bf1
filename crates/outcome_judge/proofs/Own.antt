-- The writes of transactions with a reply more.
use Rattle.std.proofs.Common.{◌≡◌, ℕ, ◌+◌, suc, Bool, true, false, List, [], ◌∷◌, ◌++◌, length, map, take, Option, None, Some, sym, ap, ◌∙◌, arith, append_assoc, append-nil}
use Rattle.std.specs.Option.{option_map_or}
use Rattle.std.specs.Ordering.{nat_cmp}
use Rattle.std.specs.Prelude.{option_map, unwrap_or, if◌then◌else◌}
use Rattle.std.proofs.lemmas.List.{take_all}
use Rattle.cell_model.specs.declared.cell.Cell.{Cell}
use Rattle.isolation_spec.specs.declared.place.Place.{Place}
use Rattle.mark_index.specs.Lists.{marks_at}
use Rattle.mark_index.proofs.Noted.{take-next, take-front}
use Rattle.si_machine.proofs.Parts.{map-push}
use Rattle.outcome_spec.specs.Entries.{Entry}
use Rattle.outcome_spec.specs.Runs.{accepted_write}
use Rattle.outcome_judge.specs.Own.{AreChanges, is_opened, own_one, own_writes, with_change, written_by}
use Rattle.outcome_judge.specs.Timed.{TimedWrite, timed_one}
use Rattle.outcome_judge.specs.declared.changes.Change.{Change}
use Rattle.outcome_judge.specs.declared.changes.Changes.{Changes}

-- a transaction's writes in two lists of replies in a row
pub own-append : (owner place : ℕ) (openings openings2 : List (Option ℕ)) (entries entries2 : List Entry) → length openings ≡ length entries
    → own_writes owner place (openings ++ openings2) (entries ++ entries2) ≡ own_writes owner place openings entries ++ own_writes owner (place + length entries) openings2 entries2
own-append owner place [] openings2 [] entries2 long = let e : place + 0 ≡ place = omega arith in ap (λ (n : ℕ). own_writes owner n openings2 entries2) (sym e)
own-append owner place [] openings2 (e ∷ entries) entries2 long = absurd (omega (arith, long))
own-append owner place (o ∷ openings) openings2 [] entries2 long = absurd (omega (arith, long))
own-append owner place (o ∷ openings) openings2 (e ∷ entries) entries2 long =
    let next : (place + 1) + length entries ≡ place + suc (length entries) = omega arith in
    ap (λ (ws : List TimedWrite). own_one owner place o e ++ ws) (own-append owner (place + 1) openings openings2 entries entries2 (omega (arith, long)))
    ∙ ap (λ (n : ℕ). own_one owner place o e ++ (own_writes owner (place + 1) openings entries ++ own_writes owner n openings2 entries2)) next
    ∙ sym (append_assoc (own_one owner place o e) (own_writes owner (place + 1) openings entries) (own_writes owner (place + suc (length entries)) openings2 entries2))

-- The writes that two equal options hold are the same.
some-timed : (a b : TimedWrite) → Some a ≡ Some b → a ≡ b
some-timed a b h = ap (λ (o : Option TimedWrite). unwrap_or o a) h

-- With a change more, if there is one, the changes are the writes with its write behind them.
pushed : (time : ℕ) (change : Option Change) (told : Option (Place × Option (List Cell))) (changes : List Change) → option_map written_by change ≡ option_map (timed_one time) told
    → map written_by (option_map_or (λ its. changes ++ its ∷ []) change changes) ≡ map written_by changes ++ option_map_or (λ its. timed_one time its ∷ []) told []
pushed time None None changes h = sym (append-nil (map written_by changes))
pushed time None (Some told) changes h = absurd (let never : ⊥ = cc in never)
pushed time (Some change) None changes h = absurd (let never : ⊥ = cc in never)
pushed time (Some change) (Some told) changes h =
    map-push written_by changes change ∙ ap (λ (w : TimedWrite). map written_by changes ++ w ∷ []) (some-timed (written_by change) (timed_one time told) h)

-- With a change more, if a test puts it, the changes are the writes with its write behind them.
pushed-by : (b : Bool) (time : ℕ) (change : Option Change) (told : Option (Place × Option (List Cell))) (changes : List Change) → option_map written_by change ≡ option_map (timed_one time) told
    → map written_by (if b then option_map_or (λ its. changes ++ its ∷ []) change changes else changes)
    ≡ map written_by changes ++ (if b then option_map_or (λ its. timed_one time its ∷ []) told [] else [])
pushed-by true time change told changes h = pushed time change told changes h
pushed-by false time change told changes h = sym (append-nil (map written_by changes))

-- a transaction's writes with a reply more
pub own-next : (owner : ℕ) (entries front : List Entry) (entry : Entry) (rest : List Entry) (openings ofront : List (Option ℕ)) (opening : Option ℕ) (orest : List (Option ℕ)) (n : ℕ)
    → entries ≡ front ++ entry ∷ rest → length front ≡ n → openings ≡ ofront ++ opening ∷ orest → length ofront ≡ n
    → own_writes owner 0 (take (n + 1) openings) (take (n + 1) entries) ≡ own_writes owner 0 (take n openings) (take n entries) ++ own_one owner n opening entry
own-next owner entries front entry rest openings ofront opening orest n whole far owhole ofar =
    let os : take (n + 1) openings ≡ ofront ++ opening ∷ [] = take-next openings ofront opening orest n owhole ofar ∙ ap (λ (xs : List (Option ℕ)). xs ++ opening ∷ []) (take-front openings ofront opening orest n owhole ofar) in
    let es : take (n + 1) entries ≡ front ++ entry ∷ [] = take-next entries front entry rest n whole far ∙ ap (λ (xs : List Entry). xs ++ entry ∷ []) (take-front entries front entry rest n whole far) in
    ap (λ (xs : List (Option ℕ)). own_writes owner 0 xs (take (n + 1) entries)) os
    ∙ ap (λ (xs : List Entry). own_writes owner 0 (ofront ++ opening ∷ []) xs) es
    ∙ own-append owner 0 ofront (opening ∷ []) front (entry ∷ []) (ofar ∙ sym far)
    ∙ (let e : 0 + length front ≡ n = omega (arith, far) in ap (λ (k : ℕ). own_writes owner 0 ofront front ++ (own_one owner k opening entry ++ [])) e)
    ∙ ap (λ (ws : List TimedWrite). own_writes owner 0 ofront front ++ ws) (append-nil (own_one owner n opening entry))
    ∙ ap (λ (xs : List (Option ℕ)). own_writes owner 0 xs front ++ own_one owner n opening entry) (sym (take-front openings ofront opening orest n owhole ofar))
    ∙ ap (λ (xs : List Entry). own_writes owner 0 (take n openings) xs ++ own_one owner n opening entry) (sym (take-front entries front entry rest n whole far))

-- what is kept of the changes with a reply more
pub changes-next : (entries front : List Entry) (entry : Entry) (rest : List Entry) (openings ofront : List (Option ℕ)) (opening : Option ℕ) (orest : List (Option ℕ)) (n : ℕ)
    → entries ≡ front ++ entry ∷ rest → length front ≡ n → openings ≡ ofront ++ opening ∷ orest → length ofront ≡ n
    → (before now : Changes) (given : Option ℕ) (change : Option Change) → given ≡ opening → option_map written_by change ≡ option_map (timed_one (n + 1)) (accepted_write entry)
    → AreChanges openings entries n before
    → ((owner : ℕ) → marks_at nat_cmp now.own owner ≡ with_change owner given change (marks_at nat_cmp before.own owner))
    → AreChanges openings entries (n + 1) now
changes-next entries front entry rest openings ofront opening orest n whole far owhole ofar before now given change is told are noted owner =
    ap (map written_by) (noted owner)
    ∙ pushed-by (is_opened owner given) (n + 1) change (accepted_write entry) (marks_at nat_cmp before.own owner) told
    ∙ ap (λ (o : Option ℕ). map written_by (marks_at nat_cmp before.own owner) ++ own_one owner n o entry) is
    ∙ ap (λ (ws : List TimedWrite). ws ++ own_one owner n opening entry) (are owner)
    ∙ sym (own-next owner entries front entry rest openings ofront opening orest n whole far owhole ofar)

-- those of all replies
pub changes-all : (openings : List (Option ℕ)) (entries : List Entry) → length openings ≡ length entries → (changes : Changes) → AreChanges openings entries (length entries) changes
    → (owner : ℕ) → map written_by (marks_at nat_cmp changes.own owner) ≡ own_writes owner 0 openings entries
changes-all openings entries long changes are owner =
    are owner
    ∙ ap (λ (os : List (Option ℕ)). own_writes owner 0 os (take (length entries) entries)) (take_all (length entries) openings (omega (arith, long)))
    ∙ ap (own_writes owner 0 openings) (take_all (length entries) entries (omega arith))
