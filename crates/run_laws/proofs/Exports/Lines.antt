-- The lines of a timeline that are to come, and what one of them says of what was sent.
use Rattle.std.proofs.Common.{◌≡◌, ℕ, List, [], ◌∷◌, ◌++◌, Option, None, Some, sym, ap, ◌∙◌, subst, append_assoc}
use Rattle.cell_model.specs.declared.table.TableDecl.{TableDecl}
use Rattle.run_laws.proofs.Exports.Saying.{SaysBy, SaysWithin}
use Rattle.export_spec.specs.Sent.{EachSays, IsFrontOf, IsStreamOf, SaysOfBytes, SaysOfExport}
use Rattle.isolation_spec.specs.Contents.{History, State, contents_of, state_at}
use Rattle.isolation_spec.specs.Machine.{IsolationMachine, Transaction}
use Rattle.outcome_spec.specs.Entries.{Entry}
use Rattle.outcome_spec.specs.Runs.{Run}
use Rattle.outcome_spec.specs.Tables.{columns_at, slots_at}
use Rattle.timeline_laws.proofs.Cuts.{Cut, change-of, cut-here, last_of}
use Rattle.timeline_laws.proofs.Histories.{last, run, whole-shown}
use Rattle.timeline_laws.proofs.Unique.{Only}
use Rattle.timeline_laws.proofs.Views.{belongs, belongs-is, bound-is, state-is, within-open}
use Rattle.timeline_laws.proofs.Walk.{Shown, shown-step}
use Rattle.timeline_spec.specs.Timeline.{Each, RunsFrom, TimelineFrom, open_of}
use Rattle.workload_spec.specs.declared.reply.Said.{Said}
use Rattle.workload_spec.specs.declared.reply.Said.TheVariants as said

module _ (start : History) (tables : List TableDecl) (printed timeline : List Entry) (t : TimelineFrom start tables printed timeline) where
  -- The lines behind these, from this machine on.
  pub record Rest (front : List Entry) (machine : IsolationMachine) (entries : List Entry) : Type 0 where
    pub runs : RunsFrom start tables front machine entries
    pub whole : timeline ≡ front ++ entries
    pub shown : Shown start front machine
    pub last_is : last_of start tables front machine entries runs ≡ last start tables printed timeline t
    pub only : Each (Only printed) entries

  -- behind the first of them
  pub rest_next : (front : List Entry) (machine : IsolationMachine) (entry : Entry) (entries : List Entry) → (rest : Rest front machine (entry ∷ entries))
      → Rest (front ++ entry ∷ []) rest.runs.0 entries
  rest_next front machine entry entries rest = record {
    runs = rest.runs.3;
    whole = rest.whole ∙ sym (append_assoc front (entry ∷ []) entries);
    shown = shown-step start front machine rest.runs.0 entry rest.shown (change-of tables front machine rest.runs.0 entry rest.shown.sane rest.runs.1);
    last_is = rest.last_is;
    only = rest.only.1;
  }

  module _ (front : List Entry) (machine : IsolationMachine) (entry : Entry) (entries : List Entry) (rest : Rest front machine (entry ∷ entries)) (bytes : List ℕ) where
    abbrev cut : Cut start tables timeline (last start tables printed timeline t) entry
    cut = cut-here start tables timeline (last start tables printed timeline t) (whole-shown start tables printed timeline t) front machine entry entries rest.whole rest.shown rest.runs rest.last_is

    -- the contents at the snapshot of its transaction are those that the run shows
    shown_state : (o : Transaction) → open_of entry.reply.who machine ≡ Some o
        → state_at machine.history o.snapshot ≡ state_at (run start tables printed timeline t).history o.snapshot
    shown_state o at = sym (state-is start tables printed timeline t entry rest.only.0 cut o.snapshot (bound-is start tables printed timeline t entry rest.only.0 cut o at))

    says_within : (o : Transaction) → open_of entry.reply.who machine ≡ Some o → (table : ℕ) (told : Said) → SaysWithin tables machine o table told bytes
        → SaysOfExport (run start tables printed timeline t) entry table told bytes
    says_within o at table (said.Exported number rows batches frozen) says =
        subst (λ (state : State). IsStreamOf (columns_at tables table) (slots_at tables table) (contents_of table state) rows batches bytes)
        (shown_state o at ∙ ap (state_at (run start tables printed timeline t).history) (sym says.0)) says.1
    says_within o at table said.Memory says = record {
      transaction = belongs start tables printed timeline t entry rest.only.0 cut o (within-open start tables printed timeline t entry rest.only.0 cut o at);
      within = belongs-is start tables printed timeline t entry rest.only.0 cut o (within-open start tables printed timeline t entry rest.only.0 cut o at);
      front = subst (λ (state : State). IsFrontOf (columns_at tables table) (slots_at tables table) (contents_of table state) bytes) (shown_state o at) says;
    }
    says_within o at table _ says = says

    -- What a line says by the machine it says by the run.
    pub says_so : (found : Option Transaction) → open_of entry.reply.who machine ≡ found → (table : ℕ) (told : Said) → SaysBy tables machine found table told bytes
        → SaysOfExport (run start tables printed timeline t) entry table told bytes
    says_so None at table told says = subst (λ (s : Said). SaysOfExport (run start tables printed timeline t) entry table s bytes) (sym says.0) says.1
    says_so (Some o) at table told says = says_within o at table told says

-- what each of some replies says
pub each_says : (shown : Run) (bytes : List ℕ) (entries : List Entry) → Each (λ entry. SaysOfBytes shown entry entry.command bytes) entries → EachSays shown bytes entries
each_says shown bytes [] says = tt
each_says shown bytes (entry ∷ entries) says = (says.0, each_says shown bytes entries says.1)
