-- The laws of workload texts: reading within an extent is reading in the whole format what runs
-- within it, the first version has its kinds alone, and reading line by line and printing describe
-- the same texts.
use Rattle.std.specs.Prelude.{◌≡◌, ◌↔◌, ℕ, true, false, List, [], ◌∷◌, ◌++◌, find, option_map}
use Rattle.std.specs.Prelude.{bytes_eq, codes, Ok}
use Rattle.std.specs.Option.{option_or}
use Rattle.cell_model.specs.declared.kind.Kind.{Kind}
use Rattle.cell_model.specs.declared.kind.Kind.TheVariants as kind
use Rattle.workload_spec.specs.declared.extent.Extent.{Extent}
use Rattle.workload_spec.specs.declared.script.Script.{Script}
use Rattle.workload_spec.specs.Extents.{RunsWithin, is_extent, whole}
use Rattle.workload_spec.specs.Grammar.{kind_of, script_behind, script_of}
use Rattle.workload_spec.specs.ScriptText.{kind_text, script_text}
use Rattle.workload_spec.specs.Valid.{IsWritten}

-- Lines behind the first are read within an extent as a script exactly where the whole format reads
-- them as it and it runs within the extent. So a version takes of the whole format, which the
-- second takes, what runs within the version's extent, with the same meaning.
abbrev pub ReadWithinIsRead : Type 0
ReadWithinIsRead = (version : ℕ) (extent : Extent) (lines : List (List ℕ)) (script : Script)
    → is_extent extent ≡ true
    → (script_behind version extent lines ≡ Ok script) ↔
    ((script_behind version whole lines ≡ Ok script) × RunsWithin extent script)

-- the kinds of the first version, in the order of their type
abbrev pub first_kinds : List Kind
first_kinds = kind.I8 ∷ kind.I16 ∷ kind.I32 ∷ kind.I64 ∷ kind.U8 ∷ kind.U16 ∷ kind.U32 ∷ kind.U64
    ∷ kind.Bool ∷ kind.Utf8 ∷ kind.Binary ∷ []

-- A word of the first version names one of these kinds: its name alone, or with a question mark
-- where it may be null.
abbrev pub FirstVersionHasItsKinds : Type 0
FirstVersionHasItsKinds = (word : List ℕ) → kind_of false word ≡ option_or
    (option_map (λ kind. (kind, false)) (find (λ kind. bytes_eq (kind_text kind) word) first_kinds))
    (option_map (λ kind. (kind, true))
    (find (λ kind. bytes_eq (kind_text kind ++ codes "?") word) first_kinds))

-- Bytes that are read as a script are its text, and the script is a workload as it is written.
abbrev pub ReadIsText : Type 0
ReadIsText = (bytes : List ℕ) (script : Script) → script_of bytes ≡ Ok script
    → (script_text script ≡ bytes) × IsWritten script

-- The text of a workload as it is written is read as it.
abbrev pub TextIsRead : Type 0
TextIsRead = (script : Script) → IsWritten script → script_of (script_text script) ≡ Ok script
