-- How a check ends, and that what is checked has a workload.
use Rattle.std.proofs.Common.{◌≡◌, ◌<◌, ◌^◌, ℕ, suc, zero, Bool, true, false, List, [], ◌∷◌, ◌++◌, Option, None, Some, Err, length, refl, sym, ap, subst, ◌∙◌, inl, inr, arith}
use Rattle.std.specs.Prelude.{◌==◌, IfOk, Ok, Result, take}
use Rattle.std.specs.Io.KnownBytes.{Appends, Consumes, IsAtEnd}
use Rattle.std.proofs.lemmas.Bool.Decides.{nat_tests}
use lib.Seq.{take-nil}
use Rattle.byte_ports.specs.Calls.{AppendsFront}
use Rattle.workload_laws.proofs.OneGrammar.{read_is_text}
use Rattle.workload_laws.proofs.Parts.{parts_some}
use Rattle.workload_laws.proofs.Results.{step}
use Rattle.workload_spec.specs.declared.script.Script.{Script}
use Rattle.workload_spec.specs.Grammar.{checked_in, checked_of, place_of_parting, script_in}
use Rattle.workload_spec.specs.Reading.{onto_first, parted, parts}
use Rattle.workload_spec.specs.Valid.{IsWritten}
use Rattle.workload_spec.specs.Words.{line_feed}
use Rattle.script_text.specs.Answers.{LineFails, LineGives}
use Rattle.script_text.specs.declared.fault.ScriptFault.{ScriptFault}
use Rattle.script_text.specs.declared.fault.ScriptFault.TheVariants as fault
use Rattle.program.specs.Outcome.{CheckEnds, IsNoneToCheck, outside}
use Rattle.program.specs.Played.{RefusalEnds, TellsFault}
use Rattle.program.specs.Verdict.{VerdictEnds}
use Rattle.program.specs.declared.status.Status.{Status}
use Rattle.program.specs.declared.status.Status.TheVariants as status

-- bytes whose parts are the first parts of these and an empty one
record HasFront (separator : ℕ) (all : List (List ℕ)) (place : ℕ) : Type 0 where
  pub bytes : List ℕ
  pub are : parts separator bytes ≡ take place all ++ [] ∷ []

-- A number passes the test for equality with itself.
same_number : (n : ℕ) → (n == n) ≡ true
same_number n = grind (arith, nat_tests)

-- Where each front of some parts is that of bytes, so it is with one byte more in front.
put_front : (separator byte : ℕ) (b : Bool) (all : List (List ℕ)) (place : ℕ) → (byte == separator) ≡ b → 0 < length all
    → ((place : ℕ) → HasFront separator all place) → HasFront separator (parted b byte all) (suc place)
put_front separator byte true all place is some each = let front = each place in record {
  bytes = byte ∷ front.bytes;
  are = ap (λ c. parted c byte (parts separator front.bytes)) is ∙ ap (λ (ps : List (List ℕ)). [] ∷ ps) front.are;
}
put_front separator byte false [] place is some each = absurd (omega (arith, some))
put_front separator byte false (first ∷ rest) place is some each = let front = each (suc place) in record {
  bytes = byte ∷ front.bytes;
  are = ap (λ c. parted c byte (parts separator front.bytes)) is ∙ ap (onto_first byte) front.are;
}

-- For each front of the parts of bytes there are bytes with these and an empty one.
front_of : (separator : ℕ) (bytes : List ℕ) (place : ℕ) → HasFront separator (parts separator bytes) place
front_of separator bytes zero = record { bytes = []; are = refl }
front_of separator [] (suc place) = record {
  bytes = separator ∷ [];
  are = ap (λ c. parted c separator ([] ∷ [])) (same_number separator)
      ∙ sym (ap (λ (ps : List (List ℕ)). ([] ∷ ps) ++ [] ∷ []) (take-nil place));
}
front_of separator (byte ∷ bytes) (suc place) =
    put_front separator byte (byte == separator) (parts separator bytes) place refl (parts_some separator bytes) (front_of separator bytes)

-- what is checked has a workload in front, as it is written
checked_written : (bytes : List ℕ) (found : Script × List ℕ) → checked_of bytes ≡ Ok found → IsWritten found.0
checked_written bytes found is = go (place_of_parting (parts line_feed bytes)) is
  where
    go : (place : Option ℕ) → checked_in (parts line_feed bytes) place ≡ Ok found → IsWritten found.0
    go None e = step (script_in (parts line_feed bytes)) _ found e (λ script read never. absurd cc)
    go (Some place) e =
        let front = front_of line_feed bytes place in
        step (script_in (take place (parts line_feed bytes) ++ [] ∷ [])) _ found e (λ script read told.
        let same : script ≡ found.0 = cc in
        subst IsWritten same (read_is_text front.bytes script (ap script_in front.are ∙ read)).1)

-- so it has where it is read
pub written_checked : {X : Type 0} (view : X → Script × List ℕ) (bytes : List ℕ) (read : Result X ScriptFault) → LineGives view read (checked_of bytes) → IfOk read (λ x. IsWritten (view x).0)
written_checked view bytes (Ok found) gives = checked_written bytes (view found) gives
written_checked view bytes (Err bad) gives = tt

-- a fault that is told is the first of the bytes, which are refused
told_first : (Prints : Option (List ℕ) → Option (List ℕ) → List ℕ → Type 0) (bad : ScriptFault) (bytes : List ℕ) (left_old left_new printed_old printed_new exported : Option (List ℕ)) (started : Option (List (List ℕ)))
    → Consumes left_old left_new bytes → IsAtEnd left_new → length bytes < 2 ^ 32 → LineFails bad (checked_of bytes) → TellsFault Prints bad printed_old printed_new
    → IsNoneToCheck Prints (outside left_old printed_old exported started) (outside left_new printed_new exported started)
told_first Prints (fault.Bad line cause) bytes left_old left_new printed_old printed_new exported started consumes ended short first printed = record {
  bytes = bytes;
  input = record { read = consumes; ended = ended; short = short };
  fault = record { line = line; cause = cause };
  first = first;
  printed = printed;
  outlet = record { exported = refl; started = refl };
}
told_first Prints (fault.Memory refused) bytes left_old left_new printed_old printed_new exported started consumes ended short first printed = absurd printed

-- how a check ends whose input was refused
pub refused_ends : (ended : Status) (bad : ScriptFault) (bytes : List ℕ) (left_old left_new printed_old printed_new exported : Option (List ℕ)) (started : Option (List (List ℕ)))
    → Consumes left_old left_new bytes → IsAtEnd left_new → length bytes < 2 ^ 32
    → LineFails bad (checked_of bytes) → RefusalEnds bad ended printed_old printed_new
    → CheckEnds ended (outside left_old printed_old exported started) (outside left_new printed_new exported started)
refused_ends status.Refused bad bytes left_old left_new printed_old printed_new exported started consumes ended short first told =
    told_first Appends bad bytes left_old left_new printed_old printed_new exported started consumes ended short first told
refused_ends status.OutFault bad bytes left_old left_new printed_old printed_new exported started consumes ended short first told =
    inr (told_first AppendsFront bad bytes left_old left_new printed_old printed_new exported started consumes ended short first told)
refused_ends status.Memory bad bytes left_old left_new printed_old printed_new exported started consumes ended short first told =
    record { printed = told; outlet = record { exported = refl; started = refl } }
refused_ends _ bad bytes left_old left_new printed_old printed_new exported started consumes ended short first told = absurd told

-- how a check ends whose output was judged
pub judged_ends : (ended : Status) (script : Script) (output bytes : List ℕ) (left_old left_new printed_old printed_new exported : Option (List ℕ)) (started : Option (List (List ℕ)))
    → Consumes left_old left_new bytes → IsAtEnd left_new → length bytes < 2 ^ 32
    → checked_of bytes ≡ Ok (script, output) → VerdictEnds script output ended printed_old printed_new
    → CheckEnds ended (outside left_old printed_old exported started) (outside left_new printed_new exported started)
judged_ends status.Done script output bytes left_old left_new printed_old printed_new exported started consumes ended short checked told = record {
  bytes = bytes;
  input = record { read = consumes; ended = ended; short = short };
  script = script;
  output = output;
  checked = checked;
  printed = told;
  outlet = record { exported = refl; started = refl };
}
judged_ends status.OutFault script output bytes left_old left_new printed_old printed_new exported started consumes ended short checked told = inl record {
  bytes = bytes;
  input = record { read = consumes; ended = ended; short = short };
  script = script;
  output = output;
  checked = checked;
  printed = told;
  outlet = record { exported = refl; started = refl };
}
judged_ends status.Memory script output bytes left_old left_new printed_old printed_new exported started consumes ended short checked told =
    record { printed = told; outlet = record { exported = refl; started = refl } }
judged_ends _ script output bytes left_old left_new printed_old printed_new exported started consumes ended short checked told = absurd told
