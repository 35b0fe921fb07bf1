-- What the words ask for, by what `clap` makes of them.
use Rattle.std.proofs.Common.{◌≡◌, ◌≢◌, true, List, [], ◌∷◌, Option, None, Some, Result, Ok, Err, Box, refl, ap, ap₂, sym, ◌∙◌, subst, option_map, ⊎_elim, IfOk, IsErrOf}
use Rattle.std.specs.Box.{box_value}
use Rattle.clap.specs.Words.{App, FailsBy, IsAmong, Kinds, Row, Text, fault_of, found_of, is_simple, is_simple_and_free, kind_of, rows_of, subcommand_name_of, subcommand_of, subcommand_rows, subcommand_rows_of}
use Rattle.clap.specs.declared.parser.matches.ArgMatches.{ArgMatches}
use Rattle.clap.specs.declared.parser.matches.ArgMatches.TheViews.{out-ArgMatches, out-SubCommand}
use Rattle.clap.specs.declared.parser.matches.SubCommand.{SubCommand}
use Rattle.clap.specs.declared.error.Error.{Error}
use Rattle.clap.specs.declared.error.kind.ErrorKind.{ErrorKind}
use Rattle.clap.specs.declared.error.kind.ErrorKind.TheVariants as kind
use Rattle.program.specs.declared.words.Work.{Work}
use Rattle.program.specs.declared.words.WordsFault.{WordsFault}
use Rattle.program.specs.declared.words.WordsFault.TheVariants as words_fault
use Rattle.program.specs.Words.{Asked, asked_by, asked_of, mainline_app, meaning, stopped_asks, unless_stopped}
use Rattle.program.proofs.Alike.{AreAlike, stops_alike}

-- the command is one whose meaning `clap` tells
pub mainline_is_free : is_simple_and_free mainline_app ≡ true
mainline_is_free = refl

-- the app is a simple one
pub mainline_is_simple : is_simple mainline_app ≡ true
mainline_is_simple = refl

-- what words ask for at which a parse stops, for a reason of one of the kinds that it may have
stopped_among : (e : ErrorKind) (kinds : Kinds) (asked : Option Asked) → AreAlike kinds → IsAmong e kinds → unless_stopped kinds asked ≡ stopped_asks e
stopped_among e [] asked alike among = absurd among
stopped_among e (k ∷ kinds) asked alike among = sym (alike e among)

-- words at which a parse stops, and not for want of memory
pub stopped_ask : {T : Type 0} (app : App) (words : List Text) (result : Result T Error) (fault : Error)
    → app ≡ mainline_app → (is_simple_and_free app ≡ true → FailsBy (fault_of app words) result) → result ≡ Err fault
    → kind_of fault ≢ kind.OutOfMemory → asked_by words ≡ stopped_asks (kind_of fault)
stopped_ask {T = T} app words result fault app_is fails is free =
    let kinds : FailsBy {T = T} (fault_of app words) (Err fault) =
    subst (FailsBy (fault_of app words)) is (fails (ap is_simple_and_free app_is ∙ mainline_is_free)) in
    ⊎_elim (λ memory. absurd (free memory))
    (λ among. stopped_among (kind_of fault) (fault_of mainline_app words) (asked_of (subcommand_of mainline_app words)) (stops_alike words)
    (subst (λ (a : App). IsAmong (kind_of fault) (fault_of a words)) app_is among)) kinds

-- What is answered for such words is what they ask for, and `Usage` is answered where that is
-- nothing.
module _ (words : List Text) (stop : ErrorKind) (asks : stop ≢ kind.OutOfMemory → asked_by words ≡ stopped_asks stop) where
  pub stopped_well : (result : Result Work WordsFault) → (stop ≡ kind.OutOfMemory → IsErrOf result words_fault.Memory)
      → IfOk result (λ work. stopped_asks stop ≡ Some (meaning work)) → IfOk result (λ work. asked_by words ≡ Some (meaning work))
  stopped_well (Ok work) memory well = asks (λ full. let both : Ok work ≡ Err words_fault.Memory = memory full in let no : ⊥ = cc in no) ∙ well
  stopped_well (Err fault) memory well = well

  pub stopped_ill : (result : Result Work WordsFault) → (stop ≡ kind.OutOfMemory → IsErrOf result words_fault.Memory)
      → (IsErrOf result words_fault.Usage → stopped_asks stop ≡ None) → IsErrOf result words_fault.Usage → asked_by words ≡ None
  stopped_ill (Ok work) memory ill is = absurd (let no : ⊥ = cc in no)
  stopped_ill (Err fault) memory ill is =
      asks (λ full. let other = memory full in let no : ⊥ = cc in no) ∙ ill is

-- words that it takes ask for what the subcommand asks for that they name
pub taken_ask : {T : Type 0} (app : App) (words : List Text) (result : Result T Error) (matches : T) (named : Option (Text × List Row))
    → app ≡ mainline_app → (is_simple_and_free app ≡ true → FailsBy (fault_of app words) result) → result ≡ Ok matches
    → named ≡ subcommand_of app words → asked_by words ≡ asked_of named
taken_ask {T = T} app words result matches named app_is fails is named_is =
    let none : FailsBy {T = T} (fault_of app words) (Ok matches) =
    subst (FailsBy (fault_of app words)) is (fails (ap is_simple_and_free app_is ∙ mainline_is_free)) in
    ap (λ (a : App). unless_stopped (fault_of a words) (asked_of (subcommand_of a words))) (sym app_is)
    ∙ ap₂ unless_stopped none (ap asked_of (sym named_is))

-- the subcommand that a parse met, by its name and by the rows of its matches
met : {Z : Type 0} (sub : Option (Box SubCommand Z)) (name : Text) (rows : List Row)
    → Some name ≡ option_map (λ b. (out-SubCommand (box_value b)).name.now) sub
    → Some rows ≡ option_map (λ p. p.1) (subcommand_rows sub) → subcommand_rows sub ≡ Some (name, rows)
met None name rows named has = cc
met (Some b) name rows named has =
    let name_is : name ≡ (out-SubCommand (box_value b)).name.now = cc in
    let rows_are : rows ≡ rows_of (found_of (out-SubCommand (box_value b)).matches) = cc in
    ap₂ (λ (n : Text) (r : List Row). Some (n, r)) (sym name_is) (sym rows_are)

-- a subcommand that is met with its name and its rows is the one that the words name
pub subcommand_met : (matches : ArgMatches) (name : Text) (rows : List Row)
    → Some name ≡ subcommand_name_of matches → Some rows ≡ option_map (λ p. p.1) (subcommand_rows (out-ArgMatches matches).subcommand)
    → subcommand_rows_of matches ≡ Some (name, rows)
subcommand_met matches name rows named has = met (out-ArgMatches matches).subcommand name rows named has
