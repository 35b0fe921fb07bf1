-- The printed replies of a run, call by call.
use Rattle.std.proofs.Common.{◌≡◌, ℕ, ◌+◌, List, [], ◌∷◌, ◌++◌, map, Option, None, Some, refl, sym, ap, ◌∙◌, append_assoc, append-nil}
use Rattle.std.specs.List.{cons_option, enumerate_from, flat_map}
use Rattle.cell_model.specs.declared.table.TableDecl.{TableDecl}
use Rattle.outcome_spec.specs.Entries.{Entry}
use Rattle.outcome_spec.specs.Forms.{Due}
use Rattle.timeline_spec.specs.Printed.{printed_from, printed_of}
use Rattle.workload_spec.specs.declared.reply.Said.{Said}
use Rattle.workload_spec.specs.declared.reply.Who.{Who}
use Rattle.workload_spec.specs.declared.script.Script.{Script}
use Rattle.run_spec.specs.Calls.{Call}
use Rattle.run_spec.specs.Ran.{RoundRun, Share, agenda_of, agendas_in, told_in}
use Rattle.run_laws.proofs.Calls.Dues.{calls_answer}
use Rattle.run_laws.specs.Calls.Dues.{dues_answered}
use Rattle.run_laws.specs.Moments.Moments.{all_printed, due_of, lined, printed_by, printed_in, shares_lined, with_reply}

-- what is put in front goes before what follows too
pub cons_append : {X : Type 0} (o : Option X) (xs ys : List X) → cons_option o xs ++ ys ≡ cons_option o (xs ++ ys)
cons_append None xs ys = refl
cons_append (Some x) xs ys = refl

-- A reply put in front of later ones is put as well behind the earlier ones.
with_cons : (earlier : List Entry) (o : Option Entry) (more : List Entry) → earlier ++ cons_option o more ≡ with_reply earlier o ++ more
with_cons earlier None more = refl
with_cons earlier (Some entry) more = sym (append_assoc earlier (entry ∷ []) more)

-- The first printed reply is what is first due, and the others follow behind it.
first_printed : (tables : List TableDecl) (earlier : List Entry) (due : Due) (dues : List Due) (told : Option Said) (rest : List (Option Said))
    → printed_from tables earlier (due ∷ dues) (told ∷ rest)
    ≡ cons_option (printed_by tables earlier due told) (printed_from tables (with_reply earlier (printed_by tables earlier due told)) dues rest)
first_printed tables earlier due dues None rest = refl
first_printed tables earlier due dues (Some told) rest = refl

-- What is printed of one's calls and of what follows is the calls' replies, then the rest.
calls_printed : (tables : List TableDecl) (earlier : List Entry) (number : ℕ) (who : Who) (calls : List Call) (dues : List Due) (rest : List (Option Said))
    → printed_from tables earlier (map (due_of number who) calls ++ dues) (map (λ (call : Call). call.told) calls ++ rest)
    ≡ printed_in (lined tables earlier number who calls)
    ++ printed_from tables (earlier ++ printed_in (lined tables earlier number who calls)) dues rest
calls_printed tables earlier number who [] dues rest = ap (λ es. printed_from tables es dues rest) (sym (append-nil earlier))
calls_printed tables earlier number who (call ∷ calls) dues rest =
    let here : Option Entry = printed_by tables earlier (due_of number who call) call.told in
    let more : List Entry = printed_in (lined tables (with_reply earlier here) number who calls) in
    first_printed tables earlier (due_of number who call) (map (due_of number who) calls ++ dues) call.told (map (λ (call : Call). call.told) calls ++ rest)
    ∙ ap (cons_option here) (calls_printed tables (with_reply earlier here) number who calls dues rest)
    ∙ ap (λ es. cons_option here (more ++ printed_from tables es dues rest)) (sym (with_cons earlier here more))
    ∙ sym (cons_append here more (printed_from tables (earlier ++ cons_option here more) dues rest))

-- what is due for the calls of a share
abbrev pub share_dues : ℕ → Share → List Due
share_dues number share = map (due_of number share.who) share.calls

-- what they told
abbrev pub share_told : Share → List (Option Said)
share_told share = map (λ (call : Call). call.told) share.calls

-- What is printed of some shares and of what follows is the shares' replies, then the rest.
shares_printed : (tables : List TableDecl) (earlier : List Entry) (number : ℕ) (shares : List Share) (dues : List Due) (rest : List (Option Said))
    → printed_from tables earlier (flat_map (share_dues number) shares ++ dues) (flat_map share_told shares ++ rest)
    ≡ all_printed (shares_lined tables earlier number shares)
    ++ printed_from tables (earlier ++ all_printed (shares_lined tables earlier number shares)) dues rest
shares_printed tables earlier number [] dues rest = ap (λ es. printed_from tables es dues rest) (sym (append-nil earlier))
shares_printed tables earlier number (share ∷ shares) dues rest =
    let here : List Entry = printed_in (lined tables earlier number share.who share.calls) in
    let more : List Entry = all_printed (shares_lined tables (earlier ++ here) number shares) in
    ap (λ ds. printed_from tables earlier ds ((share_told share ++ flat_map share_told shares) ++ rest))
    (append_assoc (share_dues number share) (flat_map (share_dues number) shares) dues)
    ∙ ap (printed_from tables earlier (share_dues number share ++ (flat_map (share_dues number) shares ++ dues)))
    (append_assoc (share_told share) (flat_map share_told shares) rest)
    ∙ calls_printed tables earlier number share.who share.calls (flat_map (share_dues number) shares ++ dues) (flat_map share_told shares ++ rest)
    ∙ ap (λ es. here ++ es) (shares_printed tables (earlier ++ here) number shares dues rest)
    ∙ ap (λ es. here ++ (more ++ printed_from tables es dues rest)) (append_assoc earlier here more)
    ∙ sym (append_assoc here more (printed_from tables (earlier ++ (here ++ more)) dues rest))

-- the replies of rounds
abbrev pub rounds_printed : List TableDecl → List Entry → ℕ → List RoundRun → List Entry
rounds_printed tables earlier number [] = []
rounds_printed tables earlier number (round ∷ rounds) =
    all_printed (shares_lined tables earlier number round.shares)
    ++ rounds_printed tables (earlier ++ all_printed (shares_lined tables earlier number round.shares)) (number + 1) rounds

-- What is printed of rounds is the replies of their shares, round by round.
rounds_are : (tables : List TableDecl) (earlier : List Entry) (number : ℕ) (rounds : List RoundRun)
    → printed_from tables earlier (flat_map (λ (entry : ℕ × RoundRun). dues_answered entry.0 entry.1) (enumerate_from number rounds)) (told_in rounds)
    ≡ rounds_printed tables earlier number rounds
rounds_are tables earlier number [] = refl
rounds_are tables earlier number (round ∷ rounds) =
    shares_printed tables earlier number round.shares
    (flat_map (λ (entry : ℕ × RoundRun). dues_answered entry.0 entry.1) (enumerate_from (number + 1) rounds)) (told_in rounds)
    ∙ ap (λ es. all_printed (shares_lined tables earlier number round.shares) ++ es)
    (rounds_are tables (earlier ++ all_printed (shares_lined tables earlier number round.shares)) (number + 1) rounds)

-- The printed replies of a run are those of its rounds.
pub printed_are : (script : Script) (rounds : List RoundRun)
    → map (λ (round : RoundRun). map agenda_of round.shares) rounds ≡ map (agendas_in script) script.rounds
    → printed_of script (told_in rounds) ≡ rounds_printed script.tables [] 1 rounds
printed_are script rounds asked =
    ap (λ dues. printed_from script.tables [] dues (told_in rounds)) (calls_answer script rounds asked)
    ∙ rounds_are script.tables [] 1 rounds
