-- Each reply of a timeline stands at a place in it, between two machines; the history that is shown
-- is that of the last.
use Rattle.std.proofs.Common.{◌≡◌, ℕ, ◌+◌, List, [], ◌∷◌, ◌++◌, length, ◌-◌, refl, sym, ap, ◌∙◌, subst, arith, append_assoc, append-nil, length-append}
use Rattle.std.specs.List.{range_with_len}
use Rattle.std.proofs.lemmas.List.{append_cancel_left}
use Rattle.std.proofs.lemmas.List.Elements.{filter_map-append}
use Rattle.cell_model.specs.declared.table.TableDecl.{TableDecl}
use Rattle.isolation_spec.specs.Contents.{History}
use Rattle.isolation_spec.specs.Machine.{IsolationMachine, opening_from}
use Rattle.workload_spec.specs.declared.command.Command.{Command}
use Rattle.workload_spec.specs.declared.reply.Who.{Who}
use Rattle.workload_spec.specs.declared.reply.Said.{Said}
use Rattle.outcome_spec.specs.Entries.{Entry, shown_in, commit_in}
use Rattle.timeline_spec.specs.Timeline.{Each, Takes, CountsFrom, RunsFrom, TimelineFrom}
use Rattle.timeline_laws.proofs.Ranges.{range-append}
use Rattle.timeline_laws.proofs.Machine.{Sane}
use Rattle.timeline_laws.proofs.Steps.{Change, quiet, opens, writes, ends, commits, takes-change}
use Rattle.timeline_laws.proofs.Walk.{Shown, shown-opening, shown-step}

-- the machine behind all replies
abbrev pub last_of : (start : History) (tables : List TableDecl) (front : List Entry) (machine : IsolationMachine) (rest : List Entry) → RunsFrom start tables front machine rest → IsolationMachine
last_of start tables front machine [] h = machine
last_of start tables front machine (entry ∷ rest) h = last_of start tables (front ++ entry ∷ []) h.0 rest h.3

-- a history only grows
pub record Grows (before after : History) : Type 0 where
  pub more : History
  pub is : after ≡ before ++ more

-- a history that stays has grown, by nothing
pub grows-same : (before after : History) → after ≡ before → Grows before after
grows-same before after h = record { more = []; is = h ∙ sym (append-nil before) }

-- what grows twice has grown
pub grows-on : (a b c : History) → Grows a b → Grows b c → Grows a c
grows-on a b c h k = record { more = h.more ++ k.more; is = k.is ∙ ap (λ xs. xs ++ k.more) h.is ∙ append_assoc a h.more k.more }

-- what a reply makes of the machine only adds to the history
pub change-grows : (who : Who) (asked : Command) (told : Said) (machine after : IsolationMachine) → Change who asked told machine after → Grows machine.history after.history
change-grows who asked told machine after (quiet q) = grows-same machine.history after.history (ap (λ (m : IsolationMachine). m.history) q.same)
change-grows who asked told machine after (opens o) = grows-same machine.history after.history (ap (λ (m : IsolationMachine). m.history) o.is)
change-grows who asked told machine after (writes w) = grows-same machine.history after.history (ap (λ (m : IsolationMachine). m.history) w.is)
change-grows who asked told machine after (ends e) = grows-same machine.history after.history (ap (λ (m : IsolationMachine). m.history) e.is)
change-grows who asked told machine after (commits c) = record { more = c.t.own ∷ []; is = ap (λ (m : IsolationMachine). m.history) c.is }

module _ (tables : List TableDecl) where
  -- what a reply that comes about makes of the machine
  pub change-of : (front : List Entry) (machine after : IsolationMachine) (entry : Entry) → Sane machine → Takes tables front machine entry after → Change entry.reply.who entry.command entry.reply.said machine after
  change-of front machine after entry sane h = takes-change tables front machine sane entry.number entry.reply.round entry.reply.index entry.reply.who entry.command entry.reply.said after h

module _ (start : History) (tables : List TableDecl) where
  -- the history grows along all replies that come about
  pub all-grow : (front : List Entry) (machine : IsolationMachine) (rest : List Entry) → Shown start front machine → (runs : RunsFrom start tables front machine rest) → Grows machine.history (last_of start tables front machine rest runs).history
  all-grow front machine [] shown runs = grows-same machine.history machine.history refl
  all-grow front machine (entry ∷ rest) shown runs =
      let change = change-of tables front machine runs.0 entry shown.sane runs.1 in
      grows-on machine.history runs.0.history (last_of start tables (front ++ entry ∷ []) runs.0 rest runs.3).history
      (change-grows entry.reply.who entry.command entry.reply.said machine runs.0 change)
      (all-grow (front ++ entry ∷ []) runs.0 rest (shown-step start front machine runs.0 entry shown change) runs.3)

  -- what replies in front show of the machine, they show with all that come about behind them
  pub all-shown : (front : List Entry) (machine : IsolationMachine) (rest : List Entry) → Shown start front machine → (runs : RunsFrom start tables front machine rest) → Shown start (front ++ rest) (last_of start tables front machine rest runs)
  all-shown front machine [] shown runs = subst (λ (es : List Entry). Shown start es machine) (sym (append-nil front)) shown
  all-shown front machine (entry ∷ rest) shown runs =
      let change = change-of tables front machine runs.0 entry shown.sane runs.1 in
      subst (λ (es : List Entry). Shown start es (last_of start tables (front ++ entry ∷ []) runs.0 rest runs.3)) (append_assoc front (entry ∷ []) rest)
      (all-shown (front ++ entry ∷ []) runs.0 rest (shown-step start front machine runs.0 entry shown change) runs.3)

-- where a reply stands in a timeline that leaves this machine
pub record Cut (start : History) (tables : List TableDecl) (timeline : List Entry) (last : IsolationMachine) (entry : Entry) : Type 0 where
  pub front : List Entry
  pub rest : List Entry
  pub machine : IsolationMachine
  pub after : IsolationMachine
  pub whole : timeline ≡ front ++ entry ∷ rest
  pub shown : Shown start front machine
  pub takes : Takes tables front machine entry after
  pub counts : CountsFrom start tables front entry.command entry.reply.said
  pub change : Change entry.reply.who entry.command entry.reply.said machine after
  pub shown_after : Shown start (front ++ entry ∷ []) after
  pub grows : Grows machine.history last.history
  pub grows_after : Grows after.history last.history
  pub runs_after : RunsFrom start tables (front ++ entry ∷ []) after rest
  pub last_is : last_of start tables (front ++ entry ∷ []) after rest runs_after ≡ last
  pub behind : shown_in commit_in rest ≡ range_with_len (length after.history + 1) (length grows_after.more)

-- the commits that are shown behind the first ones
pub commits-behind : (front rest : List Entry) (least now more : ℕ) → shown_in commit_in front ≡ range_with_len least now
    → shown_in commit_in (front ++ rest) ≡ range_with_len least (now + more) → shown_in commit_in rest ≡ range_with_len (least + now) more
commits-behind front rest least now more first all =
    append_cancel_left (range_with_len least now) (shown_in commit_in rest) (range_with_len (least + now) more)
    (ap (λ xs. xs ++ shown_in commit_in rest) (sym first)
    ∙ sym (filter_map-append (λ entry. commit_in entry.reply.said) front rest)
    ∙ all
    ∙ range-append least now more)

module _ (start : History) (tables : List TableDecl) (timeline : List Entry) (last : IsolationMachine) (whole_shown : Shown start timeline last) where
  -- the place of a reply between the replies in front and the rest, with the machines around it
  abbrev pub cut-here : (front : List Entry) (machine : IsolationMachine) (entry : Entry) (rest : List Entry) → timeline ≡ front ++ entry ∷ rest → Shown start front machine
      → (runs : RunsFrom start tables front machine (entry ∷ rest)) → last_of start tables front machine (entry ∷ rest) runs ≡ last → Cut start tables timeline last entry
  cut-here front machine entry rest whole shown runs is =
      let change = change-of tables front machine runs.0 entry shown.sane runs.1 in
      let next = shown-step start front machine runs.0 entry shown change in
      let later = subst (λ (m : IsolationMachine). Grows runs.0.history m.history) is (all-grow start tables (front ++ entry ∷ []) runs.0 rest next runs.3) in
      let moved : timeline ≡ (front ++ entry ∷ []) ++ rest = whole ∙ sym (append_assoc front (entry ∷ []) rest) in
      let longer : length last.history ≡ length runs.0.history + length later.more = ap length later.is ∙ length-append runs.0.history later.more in
      let count_is : length last.history - length start ≡ length runs.0.history - length start + length later.more = omega (arith, longer, next.least) in
      let next_is : length start + 1 + (length runs.0.history - length start) ≡ length runs.0.history + 1 = omega (arith, next.least) in
      record {
        front = front;
        rest = rest;
        machine = machine;
        after = runs.0;
        whole = whole;
        shown = shown;
        takes = runs.1;
        counts = runs.2;
        change = change;
        shown_after = next;
        grows = grows-on machine.history runs.0.history last.history (change-grows entry.reply.who entry.command entry.reply.said machine runs.0 change) later;
        grows_after = later;
        runs_after = runs.3;
        last_is = is;
        behind = commits-behind (front ++ entry ∷ []) rest (length start + 1) (length runs.0.history - length start) (length later.more) next.commits_are
            (ap (shown_in commit_in) (sym moved) ∙ whole_shown.commits_are ∙ ap (range_with_len (length start + 1)) count_is)
            ∙ ap (λ (n : ℕ). range_with_len n (length later.more)) next_is;
      }

  -- Each reply behind a front has its place in the timeline.
  cuts-from : (front : List Entry) (machine : IsolationMachine) (rest : List Entry) → timeline ≡ front ++ rest → Shown start front machine
      → (runs : RunsFrom start tables front machine rest) → last_of start tables front machine rest runs ≡ last → Each (Cut start tables timeline last) rest
  cuts-from front machine [] whole shown runs is = tt
  cuts-from front machine (entry ∷ rest) whole shown runs is = (
    cut-here front machine entry rest whole shown runs is,
    cuts-from (front ++ entry ∷ []) runs.0 rest (whole ∙ sym (append_assoc front (entry ∷ []) rest))
        (shown-step start front machine runs.0 entry shown (change-of tables front machine runs.0 entry shown.sane runs.1)) runs.3 is,
  )

-- the machine behind a timeline
abbrev pub last_machine : (start : History) (tables : List TableDecl) (printed timeline : List Entry) → TimelineFrom start tables printed timeline → IsolationMachine
last_machine start tables printed timeline t = last_of start tables [] (opening_from start) timeline t.runs

-- Each reply of a timeline has its place in it.
pub all-cuts : (start : History) (tables : List TableDecl) (printed timeline : List Entry) (t : TimelineFrom start tables printed timeline) → Each (Cut start tables timeline (last_machine start tables printed timeline t)) timeline
all-cuts start tables printed timeline t =
    cuts-from start tables timeline (last_machine start tables printed timeline t) (all-shown start tables [] (opening_from start) timeline (shown-opening start) t.runs) [] (opening_from start) timeline refl (shown-opening start) t.runs refl
