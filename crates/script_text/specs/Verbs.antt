-- Commands by their first words.
use Rattle.std.specs.Prelude.{ℕ, Bool, List, [], ◌∷◌, codes}
use Rattle.workload_spec.specs.declared.command.Command.TheVariants as command
use Rattle.workload_spec.specs.declared.extent.Commands.{Commands}
use Rattle.workload_spec.specs.Grammar.{Form, Alone, OfTable, OfKey, OfRow, OfBlock, OfBegin}
use Rattle.workload_spec.specs.Grammar.{OfRange, OfTotal}
use Rattle.script_text.specs.declared.verbs.Verb.{Verb}
use Rattle.script_text.specs.declared.verbs.Verb.TheVariants as verb

abbrev pub verbs : List Verb
verbs = verb.Begin ∷ verb.Get ∷ verb.Scan ∷ verb.Insert ∷ verb.Update ∷ verb.Delete ∷ verb.Commit
    ∷ verb.Abort ∷ verb.Observe ∷ verb.Prune
    ∷ verb.Compact ∷ verb.Seal ∷ verb.Gather ∷ verb.Export ∷ verb.Range ∷ verb.Total ∷ []

abbrev pub verb_text : Verb → List ℕ
verb_text verb.Begin = codes "begin"
verb_text verb.Get = codes "get"
verb_text verb.Scan = codes "scan"
verb_text verb.Insert = codes "insert"
verb_text verb.Update = codes "update"
verb_text verb.Delete = codes "delete"
verb_text verb.Commit = codes "commit"
verb_text verb.Abort = codes "abort"
verb_text verb.Observe = codes "observe"
verb_text verb.Prune = codes "prune"
verb_text verb.Compact = codes "compact"
verb_text verb.Seal = codes "seal"
verb_text verb.Gather = codes "gather"
verb_text verb.Export = codes "export"
verb_text verb.Range = codes "range"
verb_text verb.Total = codes "total"

-- what stands behind the first word, where these commands are taken, and the command that it makes
abbrev pub verb_form : Commands → Verb → Form
verb_form taken verb.Begin = OfBegin taken.begin_checked
verb_form taken verb.Get = OfKey command.Get
verb_form taken verb.Scan = OfTable command.Scan
verb_form taken verb.Insert = OfRow command.Insert
verb_form taken verb.Update = OfRow command.Update
verb_form taken verb.Delete = OfKey command.Delete
verb_form taken verb.Commit = Alone command.Commit
verb_form taken verb.Abort = Alone command.Abort
verb_form taken verb.Observe = Alone command.Observe
verb_form taken verb.Prune = Alone command.Prune
verb_form taken verb.Compact = OfTable command.Compact
verb_form taken verb.Seal = OfBlock command.Seal
verb_form taken verb.Gather = OfBlock command.Gather
verb_form taken verb.Export = OfTable command.Export
verb_form taken verb.Range = OfRange
verb_form taken verb.Total = OfTotal

abbrev pub takes : Commands → Verb → Bool
takes taken verb.Begin = taken.begin
takes taken verb.Get = taken.get
takes taken verb.Scan = taken.scan
takes taken verb.Insert = taken.insert
takes taken verb.Update = taken.update
takes taken verb.Delete = taken.delete
takes taken verb.Commit = taken.commit
takes taken verb.Abort = taken.abort
takes taken verb.Observe = taken.observe
takes taken verb.Prune = taken.prune
takes taken verb.Compact = taken.compact
takes taken verb.Seal = taken.seal
takes taken verb.Gather = taken.gather
takes taken verb.Export = taken.export
takes taken verb.Range = taken.range
takes taken verb.Total = taken.total
