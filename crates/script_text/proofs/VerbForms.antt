-- The form of a command's first word.
use Rattle.std.proofs.Common.{◌≡◌, ℕ, Bool, true, false, cond, List, [], ◌∷◌, map, refl, ap, subst}
use Rattle.std.specs.Prelude.{◌&&◌, Option, None, Some, option_map, option_and_then, find, bytes_eq, if◌then◌else◌}
use Rattle.workload_spec.specs.declared.extent.Commands.{Commands}
use Rattle.workload_spec.specs.declared.extent.Extent.{Extent}
use Rattle.workload_spec.specs.Grammar.{Form, form_of}
use Rattle.script_text.specs.declared.verbs.Verb.{Verb}
use Rattle.script_text.specs.declared.verbs.Verb.TheVariants as verb
use Rattle.script_text.specs.Verbs.{verbs, verb_text, verb_form, takes}
use Rattle.workload_laws.proofs.Results.{eq_of}
use Rattle.workload_laws.proofs.Lists.{find_is}

-- A word, the form of its command, and whether it is taken.
abbrev Entry : Type 0
Entry = List ℕ × Form × Bool

-- The entry of a verb by its word, its form and whether the commands take it.
abbrev entry_of : Commands → Verb → Entry
entry_of taken verb = (verb_text verb, verb_form taken verb, takes taken verb)

-- Where the verbs give none with one more in front, the entries give none with its own.
none_by : (taken : Commands) (first : List ℕ) (is rest : Bool) (entry : Entry) (more : Option Entry) (verb : Verb) (others : Option Verb) → cond is (Some verb) others ≡ None → (others ≡ None → more ≡ None) → cond (is && rest) (Some entry) more ≡ None
none_by taken first true rest entry more verb others e later = absurd cc
none_by taken first false rest entry more verb others e later = later e

-- where no verb has the word, no entry has it
none_found : (taken : Commands) (first : List ℕ) (all : List Verb) → find (λ verb. bytes_eq (verb_text verb) first) all ≡ None → find (λ entry. bytes_eq entry.0 first && entry.2) (map (entry_of taken) all) ≡ None
none_found taken first [] e = refl
none_found taken first (verb ∷ all) e =
    none_by taken first (bytes_eq (verb_text verb) first) (takes taken verb) (entry_of taken verb) (find (λ (entry : Entry). bytes_eq entry.0 first && entry.2) (map (entry_of taken) all)) verb (find (λ verb. bytes_eq (verb_text verb) first) all) e
    (none_found taken first all)

-- A verb's word has the verb's form where the verb is taken.
form_at : (extent : Extent) (verb : Verb) (taken : Bool) → takes extent.commands verb ≡ taken → form_of extent (verb_text verb) ≡ (if taken then Some (verb_form extent.commands verb) else None)
form_at extent verb.Begin true e = rw e refl
form_at extent verb.Begin false e = rw e refl
form_at extent verb.Get true e = rw e refl
form_at extent verb.Get false e = rw e refl
form_at extent verb.Scan true e = rw e refl
form_at extent verb.Scan false e = rw e refl
form_at extent verb.Insert true e = rw e refl
form_at extent verb.Insert false e = rw e refl
form_at extent verb.Update true e = rw e refl
form_at extent verb.Update false e = rw e refl
form_at extent verb.Delete true e = rw e refl
form_at extent verb.Delete false e = rw e refl
form_at extent verb.Commit true e = rw e refl
form_at extent verb.Commit false e = rw e refl
form_at extent verb.Abort true e = rw e refl
form_at extent verb.Abort false e = rw e refl
form_at extent verb.Observe true e = rw e refl
form_at extent verb.Observe false e = rw e refl
form_at extent verb.Prune true e = rw e refl
form_at extent verb.Prune false e = rw e refl
form_at extent verb.Compact true e = rw e refl
form_at extent verb.Compact false e = rw e refl
form_at extent verb.Seal true e = rw e refl
form_at extent verb.Seal false e = rw e refl
form_at extent verb.Gather true e = rw e refl
form_at extent verb.Gather false e = rw e refl
form_at extent verb.Export true e = rw e refl
form_at extent verb.Export false e = rw e refl
form_at extent verb.Range true e = rw e refl
form_at extent verb.Range false e = rw e refl
form_at extent verb.Total true e = rw e refl
form_at extent verb.Total false e = rw e refl

-- the form that a verb has within an extent
abbrev pub form_by : Extent → Option Verb → Option Form
form_by extent o = option_and_then (λ verb. if takes extent.commands verb then Some (verb_form extent.commands verb) else None) o

-- The form of a first word is that of the verb that was found for it.
by_found : (extent : Extent) (first : List ℕ) (o : Option Verb) → find (λ verb. bytes_eq (verb_text verb) first) verbs ≡ o → form_of extent first ≡ form_by extent o
by_found extent first None e = ap (option_map (λ (entry : Entry). entry.1)) (none_found extent.commands first verbs e)
by_found extent first (Some verb) e =
    let same = eq_of (verb_text verb) first (find_is (λ verb. bytes_eq (verb_text verb) first) verbs verb e) in
    subst (λ (text : List ℕ). form_of extent text ≡ form_by extent (Some verb)) same (form_at extent verb (takes extent.commands verb) refl)

-- the form of a first word, by the verb that it is
pub form_by_verb : (extent : Extent) (first : List ℕ) → form_of extent first ≡ form_by extent (find (λ verb. bytes_eq (verb_text verb) first) verbs)
form_by_verb extent first = by_found extent first (find (λ verb. bytes_eq (verb_text verb) first) verbs) refl
