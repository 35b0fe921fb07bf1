-- The text of a run is that of its lines, and is explained.
use Rattle.std.proofs.Common.{◌≡◌, ◌⊎◌, ℕ, zero, suc, ◌+◌, ◌<◌, ◌≤◌, ◌^◌, Bool, true, false, cond, ◌&&◌, ◌==◌, List, [], ◌∷◌, ◌++◌, map, Option, None, Some, refl, sym, ap, ◌∙◌, subst, arith}
use mathlib.Core.Logic.{inl, inr}
use Rattle.std.specs.Prelude.{All}
use Rattle.std.specs.List.{cons_option, count_by, enumerate_from, flat_map}
use Rattle.std.proofs.lemmas.Bool.Decides.{nat_tests}
use Rattle.std.proofs.lemmas.Grind.{flat_map-append}
use Rattle.std.proofs.lemmas.List.{map-append}
use Rattle.std.proofs.lemmas.List.Elements.{All-cons, All-head, All-nil, All-tail}
use Rattle.std.proofs.lemmas.List.Sums.{sum_by-append, sum_by-cons, sum_by_push}
use Rattle.cell_model.specs.declared.table.TableDecl.{TableDecl}
use Rattle.event_spec.specs.Lawful.{Among}
use Rattle.run_laws.proofs.Explained.Explaining.{runs_are_explained}
use Rattle.run_laws.specs.Explained.Timelines.{PruningsFit}
use Rattle.run_laws.proofs.Moments.Printing.{printed_are, rounds_printed}
use Rattle.run_laws.proofs.Moments.Seats.{Aligned, aligned, same_seat}
use Rattle.run_laws.specs.Moments.Moments.{all_printed, due_of, lined, printed_by, printed_in, shares_lined, who_at, with_reply}
use Rattle.outcome_spec.specs.Entries.{Entry, is_same}
use Rattle.outcome_spec.specs.Forms.{entry_behind}
use Rattle.timeline_laws.proofs.Order.{same-itself}
use Rattle.workload_spec.specs.ReplyText.{replies_text, reply_text}
use Rattle.workload_spec.specs.declared.reply.ReplyLine.{ReplyLine}
use Rattle.workload_spec.specs.declared.reply.Said.{Said}
use Rattle.workload_spec.specs.declared.reply.Said.TheVariants as said
use Rattle.workload_spec.specs.declared.reply.Who.{Who}
use Rattle.workload_spec.specs.declared.script.Line.{Line}
use Rattle.workload_spec.specs.declared.script.Script.{Script}
use Rattle.run_spec.specs.Calls.{Call}
use Rattle.run_spec.specs.Occurrences.{Occurrence}
use Rattle.run_spec.specs.Ran.{Agenda, AreRounds, IsDone, RoundRun, Share, agenda_of, agendas_in, told_in}
use Rattle.run_laws.specs.Rounds.Fronts.{with_rounds}
use Rattle.run_laws.specs.Rounds.Lines.{line_of, round_text, rounds_text, share_text, told_by}
use Rattle.run_laws.specs.Rounds.Texts.{AreCounted, CountsFit, IsCounted, NothingIsExplained, RoundsAreExplained, RoundsRan, TextsAreLines}

-- ---- indexes

-- how many replies of a round there are to one
abbrev replies_to : ℕ → Who → List Entry → ℕ
replies_to number who entries =
    count_by (λ (entry : Entry). entry.reply.round == number && is_same entry.reply.who who) entries

-- A reply counts as one where it is of this round to this one.
abbrev counts : ℕ → Who → Entry → ℕ
counts number who entry = cond (entry.reply.round == number && is_same entry.reply.who who) 1 0

-- The replies of a round to one among two lists are those of each.
replies_append : (number : ℕ) (who : Who) (xs ys : List Entry)
    → replies_to number who (xs ++ ys) ≡ replies_to number who xs + replies_to number who ys
replies_append number who xs ys = sum_by-append (counts number who) xs ys

-- Of the printed replies of calls none is counted, where none of this round to this one is.
calls_uncounted : (tables : List TableDecl) (earlier : List Entry) (number : ℕ) (who : Who) (calls : List Call) (other : ℕ) (one : Who)
    → (number == other && is_same who one) ≡ false
    → replies_to other one (printed_in (lined tables earlier number who calls)) ≡ 0
calls_uncounted tables earlier number who [] other one apart = refl
calls_uncounted tables earlier number who (call ∷ calls) other one apart =
    go call.told (λ behind. calls_uncounted tables behind number who calls other one apart)
  where
    go : (told : Option Said)
        → ((behind : List Entry) → replies_to other one (printed_in (lined tables behind number who calls)) ≡ 0)
        → replies_to other one (cons_option (printed_by tables earlier (due_of number who call) told)
        (printed_in (lined tables (with_reply earlier (printed_by tables earlier (due_of number who call) told)) number who calls))) ≡ 0
    go None rest = rest earlier
    go (Some told) rest =
        let entry : Entry = entry_behind tables earlier (due_of number who call) told in
        let more : List Entry = printed_in (lined tables (earlier ++ entry ∷ []) number who calls) in
        let split : replies_to other one (entry ∷ more) ≡ counts other one entry + replies_to other one more = sum_by-cons (counts other one) entry more in
        let here : counts other one entry ≡ 0 = ap (λ b. cond b 1 0) apart in
        let none : replies_to other one (entry ∷ more) ≡ 0 = omega (arith, split, here, rest (earlier ++ entry ∷ [])) in
        none

-- Of those of a round none is counted for another round.
round_uncounted : (tables : List TableDecl) (earlier : List Entry) (number : ℕ) (shares : List Share) (other : ℕ) (one : Who)
    → (number == other) ≡ false
    → replies_to other one (all_printed (shares_lined tables earlier number shares)) ≡ 0
round_uncounted tables earlier number [] other one apart = refl
round_uncounted tables earlier number (share ∷ shares) other one apart =
    let here : List Entry = printed_in (lined tables earlier number share.who share.calls) in
    let more : List Entry = all_printed (shares_lined tables (earlier ++ here) number shares) in
    let split : replies_to other one (here ++ more) ≡ replies_to other one here + replies_to other one more = replies_append other one here more in
    let first : replies_to other one here ≡ 0 = calls_uncounted tables earlier number share.who share.calls other one (ap (λ b. b && is_same share.who one) apart) in
    let rest : replies_to other one more ≡ 0 = round_uncounted tables (earlier ++ here) number shares other one apart in
    let none : replies_to other one (here ++ more) ≡ 0 = omega (arith, split, first, rest) in
    none

-- ---- the text of calls

-- The text of some replies, one behind the other.
abbrev text_at : List TableDecl → List Entry → List ℕ
text_at tables entries = replies_text tables (map (λ (entry : Entry). entry.reply) entries)

-- The text of two lists of replies is that of the first and that of the second.
text_append : (tables : List TableDecl) (xs ys : List Entry) → text_at tables (xs ++ ys) ≡ text_at tables xs ++ text_at tables ys
text_append tables xs ys =
    ap (replies_text tables) (map-append (λ (entry : Entry). entry.reply) xs ys)
    ∙ flat_map-append (reply_text tables) (map (λ (entry : Entry). entry.reply) xs) (map (λ (entry : Entry). entry.reply) ys)

-- The lines of one's replies in a round, numbered from an index on.
abbrev lines_from : ℕ → Who → ℕ → List Said → List ReplyLine
lines_from round who index told = map (λ (entry : ℕ × Said). line_of round who entry.0 entry.1) (enumerate_from index told)

-- With one reply of the round to one there is one more.
one_more : (number : ℕ) (who : Who) (earlier : List Entry) (entry : Entry) → entry.reply.round ≡ number → entry.reply.who ≡ who
    → replies_to number who (earlier ++ entry ∷ []) ≡ replies_to number who earlier + 1
one_more number who earlier entry round whose =
    let own : (entry.reply.round == number) ≡ true = grind (arith, nat_tests, round) in
    let same : is_same entry.reply.who who ≡ true = ap (λ w. is_same w who) whose ∙ same-itself who in
    let both : (entry.reply.round == number && is_same entry.reply.who who) ≡ true = ap (λ b. b && is_same entry.reply.who who) own ∙ same in
    sum_by_push (counts number who) earlier entry
    ∙ ap (λ b. replies_to number who earlier + cond b 1 0) both

-- The text of the printed replies of calls is that of what they told, numbered on.
calls_text : (tables : List TableDecl) (earlier : List Entry) (number : ℕ) (who : Who) (calls : List Call)
    → text_at tables (printed_in (lined tables earlier number who calls))
    ≡ replies_text tables (lines_from number who (1 + replies_to number who earlier) (told_by calls))
calls_text tables earlier number who [] = refl
calls_text tables earlier number who (call ∷ calls) = go call.told (λ behind. calls_text tables behind number who calls)
  where
    go : (told : Option Said)
        → ((behind : List Entry) → text_at tables (printed_in (lined tables behind number who calls))
        ≡ replies_text tables (lines_from number who (1 + replies_to number who behind) (told_by calls)))
        → text_at tables (cons_option (printed_by tables earlier (due_of number who call) told)
        (printed_in (lined tables (with_reply earlier (printed_by tables earlier (due_of number who call) told)) number who calls)))
        ≡ replies_text tables (lines_from number who (1 + replies_to number who earlier) (cons_option told (told_by calls)))
    go None rest = rest earlier
    go (Some told) rest =
        let entry : Entry = entry_behind tables earlier (due_of number who call) told in
        ap (λ text. reply_text tables entry.reply ++ text)
        (rest (earlier ++ entry ∷ [])
        ∙ ap (λ n. replies_text tables (lines_from number who n (told_by calls)))
        (let next : 1 + replies_to number who (earlier ++ entry ∷ []) ≡ (1 + replies_to number who earlier) + 1 = omega (arith, one_more number who earlier entry refl refl) in next))

-- ---- the text of a round

-- The text of the printed replies of a round's shares is the round's text.
shares_text : (script : Script) (lines : List Line) (earlier : List Entry) (number a n : ℕ) (shares : List Share)
    → Aligned script lines a n shares
    → ((q : ℕ) → a ≤ q → replies_to number (who_at script q) earlier ≡ 0)
    → text_at script.tables (all_printed (shares_lined script.tables earlier number shares)) ≡ round_text script.tables number shares
shares_text script lines earlier number a zero [] al none = refl
shares_text script lines earlier number a zero (share ∷ shares) al none = absurd al
shares_text script lines earlier number a (suc n) [] al none = absurd al
shares_text script lines earlier number a (suc n) (share ∷ shares) al none =
    let here : List Entry = printed_in (lined script.tables earlier number share.who share.calls) in
    let more : List Entry = all_printed (shares_lined script.tables (earlier ++ here) number shares) in
    let fresh : replies_to number share.who earlier ≡ 0 = ap (λ w. replies_to number w earlier) al.0 ∙ none a (omega arith) in
    let later : (q : ℕ) → a + 1 ≤ q → replies_to number (who_at script q) (earlier ++ here) ≡ 0 =
    λ (q : ℕ) (low : a + 1 ≤ q).
    let split : replies_to number (who_at script q) (earlier ++ here) ≡ replies_to number (who_at script q) earlier + replies_to number (who_at script q) here =
    replies_append number (who_at script q) earlier here in
    let before : replies_to number (who_at script q) earlier ≡ 0 = none q (omega (arith, low)) in
    let now : replies_to number (who_at script q) here ≡ 0 =
    calls_uncounted script.tables earlier number share.who share.calls number (who_at script q) (other_who q low) in
    let all : replies_to number (who_at script q) (earlier ++ here) ≡ 0 = omega (arith, split, before, now) in
    all in
    text_append script.tables here more
    ∙ ap (λ text. text ++ text_at script.tables more)
    (calls_text script.tables earlier number share.who share.calls
    ∙ ap (λ k. replies_text script.tables (lines_from number share.who (1 + k) (told_by share.calls))) fresh)
    ∙ ap (λ text. share_text script.tables number share ++ text) (shares_text script lines (earlier ++ here) number (a + 1) n shares al.2 later)
  where
    other_who : (q : ℕ) → a + 1 ≤ q → (number == number && is_same share.who (who_at script q)) ≡ false
    other_who q low =
        let own : (number == number) ≡ true = grind (arith, nat_tests) in
        ap (λ b. b && is_same share.who (who_at script q)) own
        ∙ ap (λ w. is_same w (who_at script q)) al.0
        ∙ apart (is_same (who_at script a) (who_at script q)) refl
      where
        apart : (b : Bool) → is_same (who_at script a) (who_at script q) ≡ b → is_same (who_at script a) (who_at script q) ≡ false
        apart false e = e
        apart true e = absurd (let same : a ≡ q = same_seat script a q e in omega (arith, same, low))

-- Lists of agendas that are one begin with the same agendas.
heads : (a b : List Agenda) (xs ys : List (List Agenda)) → a ∷ xs ≡ b ∷ ys → a ≡ b
heads a b xs ys e = cc

-- Lists of agendas that are one go on alike behind the first.
tails : (a b : List Agenda) (xs ys : List (List Agenda)) → a ∷ xs ≡ b ∷ ys → xs ≡ ys
tails a b xs ys e = cc

-- ---- the text of rounds

-- The text of the printed replies of rounds is the text of the rounds.
all_text : (script : Script) (earlier : List Entry) (number : ℕ) (asked : List (List Line)) (rounds : List RoundRun)
    → map (λ (round : RoundRun). map agenda_of round.shares) rounds ≡ map (agendas_in script) asked
    → ((other : ℕ) (who : Who) → number ≤ other → replies_to other who earlier ≡ 0)
    → text_at script.tables (rounds_printed script.tables earlier number rounds) ≡ rounds_text script.tables number rounds
all_text script earlier number [] [] e none = refl
all_text script earlier number [] (round ∷ rounds) e none = absurd (let never : ⊥ = cc e in never)
all_text script earlier number (lines ∷ asked) [] e none = absurd (let never : ⊥ = cc e in never)
all_text script earlier number (lines ∷ asked) (round ∷ rounds) e none =
    let first = heads (map agenda_of round.shares) (agendas_in script lines) (map (λ (round : RoundRun). map agenda_of round.shares) rounds) (map (agendas_in script) asked) e in
    let rest = tails (map agenda_of round.shares) (agendas_in script lines) (map (λ (round : RoundRun). map agenda_of round.shares) rounds) (map (agendas_in script) asked) e in
    let here : List Entry = all_printed (shares_lined script.tables earlier number round.shares) in
    let more : List Entry = rounds_printed script.tables (earlier ++ here) (number + 1) rounds in
    let later : (other : ℕ) (who : Who) → number + 1 ≤ other → replies_to other who (earlier ++ here) ≡ 0 =
    λ (other : ℕ) (who : Who) (low : number + 1 ≤ other).
    let split : replies_to other who (earlier ++ here) ≡ replies_to other who earlier + replies_to other who here = replies_append other who earlier here in
    let before : replies_to other who earlier ≡ 0 = none other who (omega (arith, low)) in
    let now : replies_to other who here ≡ 0 = round_uncounted script.tables earlier number round.shares other who
    (let apart : (number == other) ≡ false = grind (arith, nat_tests, low) in apart) in
    let all : replies_to other who (earlier ++ here) ≡ 0 = omega (arith, split, before, now) in
    all in
    text_append script.tables here more
    ∙ ap (λ text. text ++ text_at script.tables more)
    (shares_text script lines earlier number 1 (script.sessions + script.workers) round.shares (aligned script lines round.shares first)
    (λ q low. none number (who_at script q) (omega arith)))
    ∙ ap (λ text. round_text script.tables number round.shares ++ text) (all_text script (earlier ++ here) (number + 1) asked rounds rest later)

-- The text that calls told is that of their lines.
pub texts_are_lines : TextsAreLines
texts_are_lines script asked rounds e =
    ap (text_at script.tables) (printed_are (with_rounds asked script) rounds e)
    ∙ all_text script [] 1 asked rounds e (λ other who low. refl)

-- ---- runs

-- the rounds of a script do not decide what was done in them
module _ (script : Script) (asked : List (List Line)) where
  -- A share that was done is done in a script with other rounds.
  share_done : (front made : List Occurrence) (share : Share) → IsDone script front made share → IsDone (with_rounds asked script) front made share
  share_done front made share done = record { events = done.events; calls = done.calls }

  -- Shares that were done are done in a script with other rounds.
  shares_done : (front made : List Occurrence) (shares : List Share) → All (IsDone script front made) shares → All (IsDone (with_rounds asked script) front made) shares
  shares_done front made [] all = All-nil (IsDone (with_rounds asked script) front made)
  shares_done front made (share ∷ shares) all = All-cons (IsDone (with_rounds asked script) front made) share shares
      (share_done front made share (All-head (IsDone script front made) share shares all))
      (shares_done front made shares (All-tail (IsDone script front made) share shares all))

  -- Rounds that were done are done in a script with other rounds.
  rounds_done : (front : List Occurrence) (rounds : List RoundRun) → AreRounds script front rounds → AreRounds (with_rounds asked script) front rounds
  rounds_done front [] are = tt
  rounds_done front (round ∷ rounds) are = (
    record { done = shares_done front round.made round.shares are.0.done; nobody_else = are.0.nobody_else },
    rounds_done (front ++ round.made) rounds are.1,
  )

-- The rounds that ran are a run of a script of just these rounds.
pub rounds_ran : RoundsRan
rounds_ran script asked rounds finished ran kept = record {
  ran = record {
    lawful = ran.lawful;
    trace = ran.trace;
    log_is = ran.log_is;
    lends = ran.lends;
    rounds = rounds;
    asked = ran.agendas;
    parted = ran.parted;
    done = rounds_done script asked [] rounds ran.done;
    kept = kept;
    printed = sym (texts_are_lines script asked rounds ran.agendas);
  };
  rounds_are = refl;
}

-- ---- counts of prunings

-- What was told among two lists was told in one of them.
among_append : (told : Option Said) (xs ys : List (Option Said)) → Among told (xs ++ ys) → Among told xs ⊎ Among told ys
among_append told [] ys a = inr a
among_append told (x ∷ xs) ys (inl e) = inl (inl e)
among_append told (x ∷ xs) ys (inr a) = go (among_append told xs ys a)
  where
    go : Among told xs ⊎ Among told ys → Among told (x ∷ xs) ⊎ Among told ys
    go (inl a) = inl (inr a)
    go (inr a) = inr a

-- Where the prunings' counts of two lists fit, those of both in a row do.
fit_append : (xs ys : List (Option Said)) → PruningsFit xs → PruningsFit ys → PruningsFit (xs ++ ys)
fit_append xs ys first second count a = go (among_append (Some (said.Pruned count)) xs ys a)
  where
    go : Among (Some (said.Pruned count)) xs ⊎ Among (Some (said.Pruned count)) ys → count < 2 ^ 64
    go (inl a) = first count a
    go (inr a) = second count a

-- Where each call's count of a pruning fits, those of what calls told do.
calls_fit : (calls : List Call) → All IsCounted calls → PruningsFit (map (λ (call : Call). call.told) calls)
calls_fit [] all count a = absurd a
calls_fit (call ∷ calls) all count (inl e) = All-head IsCounted call calls all count (sym e)
calls_fit (call ∷ calls) all count (inr a) = calls_fit calls (All-tail IsCounted call calls all) count a

-- Each call of the share has a count that fits, if it is of a pruning.
abbrev EachCounted : Share → Type 0
EachCounted share = All IsCounted share.calls

-- What the calls of a share told, call by call.
abbrev share_told : Share → List (Option Said)
share_told share = map (λ (call : Call). call.told) share.calls

-- Where each call's count of a pruning fits, those of what shares told do.
shares_fit : (shares : List Share) → All EachCounted shares → PruningsFit (flat_map share_told shares)
shares_fit [] all = λ count a. absurd a
shares_fit (share ∷ shares) all = fit_append (share_told share) (flat_map share_told shares)
    (calls_fit share.calls (All-head EachCounted share shares all))
    (shares_fit shares (All-tail EachCounted share shares all))

-- No count that was told of a pruning is beyond 64 bits.
pub counts_fit : CountsFit
counts_fit [] all = λ count a. absurd a
counts_fit (round ∷ rounds) all = fit_append (flat_map share_told round.shares) (told_in rounds)
    (shares_fit round.shares (All-head AreCounted round rounds all))
    (counts_fit rounds (All-tail AreCounted round rounds all))

-- The text of the rounds that ran is explained, where these are a workload.
pub rounds_are_explained : RoundsAreExplained
rounds_are_explained script asked rounds finished valid ran kept counted =
    let run = rounds_ran script asked rounds finished ran kept in
    runs_are_explained (with_rounds asked script) finished (rounds_text script.tables 1 rounds) valid
    run.ran (subst (λ rounds. PruningsFit (told_in rounds)) (sym run.rounds_are) (counts_fit rounds counted))

-- Of a workload without a round the empty text is explained.
pub nothing_is_explained : NothingIsExplained
nothing_is_explained script = record { forms = refl; replies = refl }
