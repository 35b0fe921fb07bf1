-- What the words of the command line ask for.
use Rattle.std.specs.Prelude.{ℕ, ◌-◌, ◌^◌, pos, Bool, true, ◌&&◌, ◌||◌, nat_lt, nat_le, ◌≤◌, List}
use Rattle.std.specs.Prelude.{[], ◌∷◌, ◌++◌, length, Option, None, Some, bytes_eq, codes}
use Rattle.std.specs.Prelude.{if◌then◌else◌}
use Rattle.std.specs.Prelude.{option_and_then, option_map}
use Rattle.std.specs.Char.{digit_value}
use Rattle.std.specs.List.{list_all}
use Rattle.std.specs.Option.{option_map_or}
use Rattle.std.specs.Str.Parse.{digits_value, without_leading_plus}
use Rattle.bench_script.specs.Laws.{most_size}
use Rattle.clap.specs.Words.{App, Kinds, Row, Rule, Text, fault_of, first_of, new_app, new_rule}
use Rattle.clap.specs.Simple.{new_shape}
use Rattle.clap.specs.Words.{subcommand_of, with_rule, with_subcommand}
use Rattle.clap.specs.declared.builder.value_parser.ValueParser.TheVariants as parser
use Rattle.clap.specs.declared.error.kind.ErrorKind.{ErrorKind}
use Rattle.clap.specs.declared.error.kind.ErrorKind.TheVariants as kind
use Rattle.program.specs.declared.words.Work.{Work}
use Rattle.program.specs.declared.words.Work.TheVariants as work

-- What the words ask for: to run a workload, to export to a path if there is one, and to keep its
-- commits in the log at a path if there is one; to show a stream; to check an output; to run the
-- workload that a seed and a size generate; to tell what the log at a path holds; to tell what the
-- program does; to tell its version.
pub data Asked : Type 0 where
  ToRun : Option Text → Option Text → Asked
  ToShow : Asked
  ToCheck : Asked
  ToBench : ℕ → ℕ → Asked
  ToLog : Text → Asked
  ToHelp : Asked
  ToVersion : Asked

-- The program's command: `run [--export PATH] [--log PATH]`, `show`, `check`, `bench SEED SIZE` with
-- a seed of 64 bits and a size of 1 to 4,096, `log PATH`, and `help [COMMAND]`. It and each of these
-- take `--help` and `-h`, it itself `--version` and `-V`.
abbrev pub export_rule : Rule
export_rule = record (new_rule (codes "export")) { long = Some (codes "export") }

abbrev pub log_rule : Rule
log_rule = record (new_rule (codes "log")) { long = Some (codes "log") }

abbrev pub seed_rule : Rule
seed_rule = record (new_rule (codes "seed")) {
  required = true;
  parser = Some (parser.Unsigned 0 (2 ^ 64 - 1));
}

abbrev pub size_rule : Rule
size_rule = record (new_rule (codes "size")) {
  required = true;
  parser = Some (parser.Signed (pos 1) (pos most_size));
}

abbrev pub path_rule : Rule
path_rule = record (new_rule (codes "path")) { required = true }

abbrev pub run_app : App
run_app = with_rule (with_rule (new_app (codes "run")) export_rule) log_rule

abbrev pub bench_app : App
bench_app = with_rule (with_rule (new_app (codes "bench")) seed_rule) size_rule

abbrev pub log_app : App
log_app = with_rule (new_app (codes "log")) path_rule

abbrev pub help_app : App
help_app = with_rule (new_app (codes "help")) (new_rule (codes "command"))

-- `help` is a command of the program's own, so `clap` adds none.
abbrev pub named_app : App
named_app = record (new_app (codes "mainline")) {
  top = record (new_shape (codes "mainline")) {
    has_version = true;
    disable_help_subcommand = true;
  };
}

abbrev pub mainline_app : App
mainline_app =
    with_subcommand (with_subcommand (with_subcommand (with_subcommand (with_subcommand
    (with_subcommand named_app run_app.top) (new_app (codes "show")).top)
    (new_app (codes "check")).top) bench_app.top) log_app.top) help_app.top

-- there is a decimal digit, and each byte is one
abbrev pub are_digits : Text → Bool
are_digits bytes = nat_lt 0 (length bytes) && list_all (λ byte. nat_lt (digit_value byte) 10) bytes

-- the number, where it lies between these two
abbrev pub within : ℕ → ℕ → ℕ → Option ℕ
within low high number = if nat_le low number && nat_le number high then Some number else None

-- the number that a word gives, where it lies between these two: decimal digits, with a plus in
-- front or without
abbrev pub number_in : ℕ → ℕ → Text → Option ℕ
number_in low high word =
    if are_digits (without_leading_plus word)
    then within low high (digits_value 10 (without_leading_plus word)) else None

-- the number that the first word under a name gives
abbrev pub number_at : Text → ℕ → ℕ → List Row → Option ℕ
number_at name low high rows = option_and_then (number_in low high) (first_of name rows)

-- the path of an export and that of a log, of which the words name each or not
abbrev pub run_asks : List Row → Option Asked
run_asks rows = Some (ToRun (first_of (codes "export") rows) (first_of (codes "log") rows))

-- a seed of 64 bits, and a size of 1 to 4,096
abbrev pub bench_asks : List Row → Option Asked
bench_asks rows = option_and_then
    (λ seed. option_map (ToBench seed) (number_at (codes "size") 1 most_size rows))
    (number_at (codes "seed") 0 (2 ^ 64 - 1) rows)

-- the path of a log
abbrev pub log_asks : List Row → Option Asked
log_asks rows = option_map ToLog (first_of (codes "path") rows)

-- the word is a command of the program
abbrev pub is_command : Text → Bool
is_command word = bytes_eq word (codes "run") || bytes_eq word (codes "show")
    || bytes_eq word (codes "check") || bytes_eq word (codes "bench")
    || bytes_eq word (codes "log") || bytes_eq word (codes "help")

-- help, where the word after `help` is a command or there is none
abbrev pub help_asks : List Row → Option Asked
help_asks rows =
    if option_map_or is_command (first_of (codes "command") rows) true then Some ToHelp else None

-- what a subcommand asks for, with what its words give
abbrev pub command_asks : Text → List Row → Option Asked
command_asks name rows =
    if bytes_eq name (codes "run") then run_asks rows
    else (if bytes_eq name (codes "show") then Some ToShow
    else (if bytes_eq name (codes "check") then Some ToCheck
    else (if bytes_eq name (codes "bench") then bench_asks rows
    else (if bytes_eq name (codes "log") then log_asks rows
    else (if bytes_eq name (codes "help") then help_asks rows else None)))))

abbrev pub asked_of : Option (Text × List Row) → Option Asked
asked_of named = option_and_then (λ of. command_asks of.0 of.1) named

-- What words ask for at which `clap` stops for a reason of this kind: for help and for the version,
-- or for nothing, since there is a fault in them.
abbrev pub stopped_asks : ErrorKind → Option Asked
stopped_asks kind.DisplayHelp = Some ToHelp
stopped_asks kind.DisplayVersion = Some ToVersion
stopped_asks kind.InvalidValue = None
stopped_asks kind.UnknownArgument = None
stopped_asks kind.InvalidSubcommand = None
stopped_asks kind.NoEquals = None
stopped_asks kind.ValueValidation = None
stopped_asks kind.TooManyValues = None
stopped_asks kind.TooFewValues = None
stopped_asks kind.WrongNumberOfValues = None
stopped_asks kind.ArgumentConflict = None
stopped_asks kind.MissingRequiredArgument = None
stopped_asks kind.MissingSubcommand = None
stopped_asks kind.DisplayHelpOnMissingArgumentOrSubcommand = None
stopped_asks kind.Io = None
stopped_asks kind.Format = None
stopped_asks kind.OutOfMemory = None

-- Where it stops, for a reason of one of some kinds, they all ask for what the first does; where it
-- does not stop, for what its subcommand asks for.
abbrev pub unless_stopped : Kinds → Option Asked → Option Asked
unless_stopped [] asked = asked
unless_stopped (kind ∷ kinds) asked = stopped_asks kind

-- What the words ask for, the first of which is the program's name, by what `clap` makes of them
-- for this command: nothing where it finds a fault in them, or where they name no subcommand.
abbrev pub asked_by : List Text → Option Asked
asked_by words = unless_stopped (fault_of mainline_app words)
    (asked_of (subcommand_of mainline_app words))

-- what a work is
abbrev pub meaning : Work → Asked
meaning (work.Run path log) = ToRun (option_map (λ p. p.now) path) (option_map (λ p. p.now) log)
meaning work.Show = ToShow
meaning work.Check = ToCheck
meaning (work.Bench seed size) = ToBench seed size
meaning (work.Log path) = ToLog path.now
meaning work.Help = ToHelp
meaning work.Version = ToVersion

-- a generated workload has no more rounds of writes than these
abbrev pub IsSized : Work → Type 0
IsSized (work.Run path log) = Unit {0}
IsSized work.Show = Unit {0}
IsSized work.Check = Unit {0}
IsSized (work.Bench seed size) = size ≤ most_size
IsSized (work.Log path) = Unit {0}
IsSized work.Help = Unit {0}
IsSized work.Version = Unit {0}

-- the line that tells how the program is used
abbrev pub usage_line : List ℕ
usage_line =
    codes "usage: mainline run [--export PATH] [--log PATH] | show | check | bench SEED SIZE"
    ++ codes " | log PATH\n"

-- the name and the version of the program
abbrev pub version_line : List ℕ
version_line = codes "mainline 0.1.0\n"

-- what the program does, each command with a line
abbrev pub help_text : List ℕ
help_text =
    codes "mainline: a transactional storage engine in memory, whose tables stand in Arrow blocks\n"
    ++ codes "\n"
    ++ codes "usage: mainline run [--export PATH] [--log PATH] | show | check | bench SEED SIZE"
    ++ codes " | log PATH\n"
    ++ codes "\n"
    ++ codes "  run                  run a workload, print its replies\n"
    ++ codes "      [--export PATH]  and export to a file\n"
    ++ codes "      [--log PATH]     and keep its commits in a log, and go on from those there\n"
    ++ codes "  show                 print the columns and the rows of an Arrow stream\n"
    ++ codes "  check                say whether snapshot isolation explains an output\n"
    ++ codes "  bench SEED SIZE      run a generated workload, print what is counted of it\n"
    ++ codes "  log PATH             print the commits of a log\n"
    ++ codes "  help [COMMAND]       print this text, as -h and --help do\n"
    ++ codes "\n"
    ++ codes "All but help and bench read standard input. A check reads a workload, a line ====\n"
    ++ codes "and an output; log reads a workload, whose tables are the log's. SEED is below\n"
    ++ codes "2^64, SIZE 1 to 4096. --version prints the version.\n"
