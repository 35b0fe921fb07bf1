-- Where `clap` stops at words for a reason of one of some kinds, all of them ask for the same.
use Rattle.std.proofs.Common.{◌≡◌, ◌+◌, ◌==◌, ℕ, Bool, true, false, cond, codes, bytes_eq, encode_utf8, is_some, min, nat_lt, not, ◌&&◌, ◌||◌, zero, suc, List, [], ◌∷◌, Option, None, Some, drop, find, length, refl, ap, ⊎_elim}
use Rattle.std.specs.List.{list_any}
use Rattle.std.specs.Option.{option_map_or}
use Rattle.std.specs.Prelude.{slice_get}
use Rattle.std.specs.Str.{chars}
use Rattle.clap.specs.Facts.{explicit_source, parser_of_value, unwrap_or_range}
use Rattle.clap.specs.Lexer.{long_of, short_of}
use Rattle.clap.specs.Faults.{action_fault, built_fault, bundle_fault, bundle_step_fault, check_fault, count_fault, default_fault, defaults_fault, entered_fault, fault_of, flag_word_fault, flags_fault, given_default_fault, level_fault, long_fault, option_fault, other_fault, positional_fault, react_fault, repeat_fault, set_fault, settle_fault, short_fault, step_fault, stray_fault, turn_fault, use_fault, values_fault, walk_fault, word_fault}
use Rattle.clap.specs.Kinds.{IsAmong, Kinds, check_kinds, or_else, range_kinds, request_kinds, value_kinds, values_kinds}
use Rattle.clap.specs.Simple.{App, Shape, argument_words, built, entered, label_of, names_of}
use Rattle.clap.specs.Matches.{count_text}
use Rattle.clap.specs.Takes.{is_given}
use Rattle.clap.specs.Values.{refused_kind}
use Rattle.clap.specs.ValueTests.{accepts}
use Rattle.clap.specs.Walk.{Held, Names, Row, Rule, Step, Text, Waiting, Walk, action_of, answers_to, arg_by_id, arg_by_index, arg_by_long, arg_by_short, attached_value, count_of, finished, has_row, is_empty, is_pending, most_values, nothing_held, reacted, settled, subcommand_met, takes_several, takes_values, values_or_missing, walk, walk_from, walked, with_default, word_met}
use Rattle.clap.specs.Walk.{idle, next, option, positional, subcommand, trailing, value}
use Rattle.clap.specs.declared.builder.action.ArgAction.{ArgAction}
use Rattle.clap.specs.declared.builder.action.ArgAction.TheVariants as action
use Rattle.clap.specs.declared.builder.value_parser.ValueParser.{ValueParser}
use Rattle.clap.specs.declared.error.kind.ErrorKind.{ErrorKind}
use Rattle.clap.specs.declared.error.kind.ErrorKind.TheVariants as kind
use Rattle.program.specs.Words.{mainline_app, stopped_asks, unless_stopped}

-- each of the kinds asks for what the first does
abbrev pub AreAlike : Kinds → Type 0
AreAlike kinds = (k : ErrorKind) → IsAmong k kinds → stopped_asks k ≡ unless_stopped kinds None

-- No kinds are alike, and so is one.
none : AreAlike []
none k among = absurd among

one : (x : ErrorKind) → AreAlike (x ∷ [])
one x k among = ⊎_elim (λ is. ap stopped_asks is) (λ no. absurd no) among

-- Alike kinds stay so in front of others that are.
either : (a b : Kinds) → AreAlike a → AreAlike b → AreAlike (or_else a b)
either [] b first then = then
either (x ∷ xs) b first then = first

-- So they do by a test, and of what is there.
tested : (b : Bool) (x y : Kinds) → AreAlike x → AreAlike y → AreAlike (cond b x y)
tested true x y holds fails = holds
tested false x y holds fails = fails

given : {X : Type 0} (f : X → Kinds) (o : Option X) → ((x : X) → AreAlike (f x)) → AreAlike (option_map_or f o [])
given f None each = none
given f (Some x) each = each x

-- ---- one use of an argument

value_alike : (ignore_case : Bool) (parser : ValueParser) (text : Text) → AreAlike (value_kinds ignore_case parser text)
value_alike ignore_case parser text = tested (accepts ignore_case parser text) [] (refused_kind parser ∷ []) none (one (refused_kind parser))

values_alike : (ignore_case : Bool) (parser : ValueParser) (texts : List Text) → AreAlike (values_kinds ignore_case parser texts)
values_alike ignore_case parser [] = none
values_alike ignore_case parser (t ∷ ts) =
    either (value_kinds ignore_case parser t) (values_kinds ignore_case parser ts) (value_alike ignore_case parser t) (values_alike ignore_case parser ts)

range_alike : (least most n : ℕ) → AreAlike (range_kinds least most n)
range_alike least most n = go (nat_lt 0 least && n == 0) (least == most) (least == n) (nat_lt n least) (nat_lt most n)
  where
    go : (a b c d e : Bool)
        → AreAlike (cond a (kind.InvalidValue ∷ []) (cond b (cond c [] (kind.WrongNumberOfValues ∷ [])) (cond d (kind.TooFewValues ∷ []) (cond e (kind.TooManyValues ∷ []) []))))
    go true b c d e = one kind.InvalidValue
    go false true true d e = none
    go false true false d e = one kind.WrongNumberOfValues
    go false false c true e = one kind.TooFewValues
    go false false c false true = one kind.TooManyValues
    go false false c false false = none

request_alike : (x : ArgAction) → AreAlike (request_kinds x)
request_alike action.Set = none
request_alike action.Append = none
request_alike action.SetTrue = none
request_alike action.SetFalse = none
request_alike action.Count = none
request_alike action.Help = one kind.DisplayHelp
request_alike action.HelpShort = one kind.DisplayHelp
request_alike action.HelpLong = one kind.DisplayHelp
request_alike action.Version = one kind.DisplayVersion

values_of_rule : (a : Rule) (values : List Text) → AreAlike (values_fault a values)
values_of_rule a values = values_alike a.ignore_case (parser_of_value a.parser) values

count_alike : (a : Rule) (values : List Text) (rows : List Row) → AreAlike (count_fault a values rows)
count_alike a [] rows = value_alike a.ignore_case (parser_of_value a.parser) (count_text (min (count_of a.id rows + 1) 255))
count_alike a (v ∷ vs) rows = values_of_rule a (v ∷ vs)

set_alike : (again : Bool) (a : Rule) (values : List Text) (rows : List Row) → AreAlike (set_fault again a values rows)
set_alike again a values rows =
    either (repeat_fault again a.id rows) (values_fault a values)
    (tested (has_row a.id rows && not again) (kind.ArgumentConflict ∷ []) [] (one kind.ArgumentConflict) none) (values_of_rule a values)

action_alike : (x : ArgAction) (again : Bool) (a : Rule) (values : List Text) (rows : List Row) → AreAlike (action_fault x again a values rows)
action_alike action.Set again a values rows = set_alike again a values rows
action_alike action.SetTrue again a values rows = set_alike again a values rows
action_alike action.SetFalse again a values rows = set_alike again a values rows
action_alike action.Append again a values rows = values_of_rule a values
action_alike action.Count again a values rows = count_alike a values rows
action_alike action.Help again a values rows = request_alike action.Help
action_alike action.HelpShort again a values rows = request_alike action.HelpShort
action_alike action.HelpLong again a values rows = request_alike action.HelpLong
action_alike action.Version again a values rows = request_alike action.Version

use_alike : (again : Bool) (a : Rule) (values : List Text) (rows : List Row) → AreAlike (use_fault again a values rows)
use_alike again a values rows =
    either (range_kinds (unwrap_or_range a.range).start_inclusive (most_values a) (length values)) (action_fault (action_of a) again a (values_or_missing a values) rows)
    (range_alike (unwrap_or_range a.range).start_inclusive (most_values a) (length values)) (action_alike (action_of a) again a (values_or_missing a values) rows)

-- ---- the walk

module _ (c : List Rule) (again : Bool) where
  settle_alike : (h : Held) → AreAlike (settle_fault c again h)
  settle_alike h =
      given (λ p. option_map_or (λ a. use_fault again a p.1 h.rows) (arg_by_id c p.0) []) h.pending
      (λ p. given (λ a. use_fault again a p.1 h.rows) (arg_by_id c p.0) (λ a. use_alike again a p.1 h.rows))

  react_alike : (a : Rule) (values : List Text) (h : Held) → AreAlike (react_fault c again a values h)
  react_alike a values h = either (settle_fault c again h) (use_fault again a values (settled c h).rows) (settle_alike h) (use_alike again a values (settled c h).rows)

  option_alike : (a : Rule) (v : Option Text) (h : Held) → AreAlike (option_fault c again a v h)
  option_alike a (Some v) h = react_alike a (v ∷ []) h
  option_alike a None h = settle_alike h

  long_alike : (o : Option Rule) (v : Option Text) (h : Held) → AreAlike (long_fault c again o v h)
  long_alike None v h = one kind.UnknownArgument
  long_alike (Some a) v h =
      tested (takes_values a) (option_fault c again a v h) (cond (is_some v) (kind.TooManyValues ∷ []) (react_fault c again a [] h)) (option_alike a v h)
      (tested (is_some v) (kind.TooManyValues ∷ []) (react_fault c again a [] h) (one kind.TooManyValues) (react_alike a [] h))

  short_alike : (o : Option Rule) (rest : Text) (h : Held) (then : Held → Kinds) → ((h : Held) → AreAlike (then h)) → AreAlike (short_fault c again o rest h then)
  short_alike None rest h then each = one kind.UnknownArgument
  short_alike (Some a) rest h then each =
      tested (takes_values a) (option_fault c again a (attached_value rest) h) (or_else (react_fault c again a [] h) (then (reacted c a [] h))) (option_alike a (attached_value rest) h)
      (either (react_fault c again a [] h) (then (reacted c a [] h)) (react_alike a [] h) (each (reacted c a [] h)))

  bundle_step_alike : (o : Option ℕ) (flags : Text) (skip : ℕ) (h : Held) (then : Text → ℕ → Held → Kinds) → ((t : Text) (n : ℕ) (h : Held) → AreAlike (then t n h))
      → AreAlike (bundle_step_fault c again o flags skip h then)
  bundle_step_alike None flags skip h then each = none
  bundle_step_alike (Some x) flags zero h then each =
      short_alike (arg_by_short c x) (drop (length (encode_utf8 x)) flags) h (then (drop (length (encode_utf8 x)) flags) 0) (each (drop (length (encode_utf8 x)) flags) 0)
  bundle_step_alike (Some x) flags (suc skip) h then each = each (drop (length (encode_utf8 x)) flags) skip h

  flags_alike : (k : ℕ) (flags : Text) (skip : ℕ) (h : Held) → AreAlike (flags_fault c again k flags skip h)
  unfolding flags_fault
  flags_alike zero flags skip h = none
  flags_alike (suc k) flags skip h = bundle_step_alike (slice_get (chars flags) 0) flags skip h (flags_fault c again k) (flags_alike k)

  flag_word_alike : (o : Option (Text × Option Text)) (word : Text) (h : Held) → AreAlike (flag_word_fault c again o word h)
  flag_word_alike (Some p) word h = long_alike (arg_by_long c p.0) p.1 h
  flag_word_alike None word h = given (λ flags. bundle_fault c again flags h) (short_of word) (λ flags. flags_alike (length flags) flags h.skip (record h { skip = 0 }))

  positional_alike : (a : Rule) (h : Held) → AreAlike (positional_fault c again a h)
  positional_alike a h = tested (is_pending a h.pending && takes_several a) [] (settle_fault c again h) none (settle_alike h)

-- a command that adds no `help` among the subcommands that these words may name
abbrev IsSilent : Shape → Names → Type 0
IsSilent s names = (waiting : Waiting) (word name : Text) → subcommand_met names waiting word ≡ Some name → not s.disable_help_subcommand ≡ false

module _ (s : Shape) (names : Names) (silent : IsSilent s names) where
  -- A test that fails, and another beside it, do not hold together.
  fails_with : (a b : Bool) → b ≡ false → (a && b) ≡ false
  fails_with true b is = is
  fails_with false b is = refl

  never : (a b : Bool) (x : Kinds) → b ≡ false → AreAlike (cond (a && b) x [])
  never a b x is = subst-test (a && b) (fails_with a b is)
    where
      subst-test : (t : Bool) → t ≡ false → AreAlike (cond t x [])
      subst-test true e = absurd (let no : ⊥ = cc in no)
      subst-test false e = none

  other_alike : (o : Option Text) (word : Text) (h : Held) → ((name : Text) → o ≡ Some name → not s.disable_help_subcommand ≡ false) → AreAlike (other_fault s o word h)
  other_alike (Some name) word h is = never (bytes_eq name (codes "help")) (not s.disable_help_subcommand) (kind.DisplayHelp ∷ kind.InvalidSubcommand ∷ []) (is name refl)
  other_alike None word h is =
      tested (bytes_eq word (45 ∷ 45 ∷ [])) [] (flag_word_fault s.rules s.args_override_self (long_of word) word h) none
      (flag_word_alike s.rules s.args_override_self (long_of word) word h)

  word_alike : (is_trailing : Bool) (waiting : Waiting) (word : Text) (h : Held) → AreAlike (word_fault s names is_trailing waiting word h)
  word_alike is_trailing waiting word h =
      tested is_trailing [] (other_fault s (subcommand_met names waiting word) word h) none (other_alike (subcommand_met names waiting word) word h (silent waiting word))

  -- An unknown argument and a subcommand that is none both ask for nothing.
  stray_alike : AreAlike (stray_fault s)
  stray_alike = tested s.is_leaf (kind.UnknownArgument ∷ []) (kind.UnknownArgument ∷ kind.InvalidSubcommand ∷ []) (one kind.UnknownArgument)
      (λ k among. ⊎_elim (λ is. ap stopped_asks is) (λ more. ⊎_elim (λ is. ap stopped_asks is) (λ no. absurd no) more) among)

  step_alike : (position : ℕ) (h : Held) (step : Step) → AreAlike (step_fault s position h step)
  step_alike position h value = go (arg_by_index s.rules position)
    where
      go : (o : Option Rule) → AreAlike (option_map_or (λ a. positional_fault s.rules s.args_override_self a h) o (stray_fault s))
      go None = stray_alike
      go (Some a) = positional_alike s.rules s.args_override_self a h
  step_alike position h (next waiting) = none
  step_alike position h (trailing n) = none
  step_alike position h (subcommand name) = none

  turn_alike : (w : Walk) (word : Text) → AreAlike (turn_fault s names w word)
  turn_alike w word =
      let met = word_met s.rules names w.is_trailing w.waiting w.position word w.held in
      tested (is_some w.stopped) [] (or_else (word_fault s names w.is_trailing w.waiting word w.held) (step_fault s w.position met.0 met.1)) none
      (either (word_fault s names w.is_trailing w.waiting word w.held) (step_fault s w.position met.0 met.1)
      (word_alike w.is_trailing w.waiting word w.held) (step_alike w.position met.0 met.1))

  walk_alike : (w : Walk) (words : List Text) → AreAlike (walk_fault s names w words)
  unfolding walk_fault
  walk_alike w [] = none
  walk_alike w (word ∷ rest) = either (turn_fault s names w word) (walk_fault s names (walked s.rules names w word) rest) (turn_alike w word) (walk_alike (walked s.rules names w word) rest)

-- ---- after the walk

default_alike : (rows : List Row) (a : Rule) → AreAlike (default_fault rows a)
default_alike rows a =
    tested (has_row a.id rows || is_empty a.defaults) [] (given_default_fault a a.defaults) none
    (either (request_kinds (action_of a)) (values_fault a a.defaults) (request_alike (action_of a)) (values_of_rule a a.defaults))

defaults_alike : (rows : List Row) (rules : List Rule) → AreAlike (defaults_fault rows rules)
unfolding defaults_fault
defaults_alike rows [] = none
defaults_alike rows (a ∷ rest) = either (default_fault rows a) (defaults_fault (with_default rows a) rest) (default_alike rows a) (defaults_alike (with_default rows a) rest)

checks_alike : (a b c : Bool) → AreAlike (check_kinds a b c)
checks_alike true b c = one kind.DisplayHelpOnMissingArgumentOrSubcommand
checks_alike false true c = one kind.MissingSubcommand
checks_alike false false true = one kind.MissingRequiredArgument
checks_alike false false false = none

level_alike : (s : Shape) (names : Names) → IsSilent s names → (h : Held) (words : List Text) (has_subcommand : Bool) (below : Kinds) → AreAlike below
    → AreAlike (level_fault s names h words has_subcommand below)
level_alike s names silent h words has_subcommand below under =
    let end = (walk s.rules names h words).held in
    let settles = settle_fault s.rules s.args_override_self end in
    let defaults = defaults_fault (settled s.rules end).rows s.rules in
    let checks = check_fault s (finished s.rules end) has_subcommand in
    either (walk_fault s names (walk_from h) words) (or_else below (or_else settles (or_else defaults checks))) (walk_alike s names silent (walk_from h) words)
    (either below (or_else settles (or_else defaults checks)) under
    (either settles (or_else defaults checks) (settle_alike s.rules s.args_override_self end)
    (either defaults checks (defaults_alike (settled s.rules end).rows s.rules)
    (checks_alike (not has_subcommand && (s.arg_required_else_help && not (list_any (λ r. explicit_source r.source) (finished s.rules end)))) (not has_subcommand && s.subcommand_required)
    (not (s.subcommand_negates_reqs && has_subcommand) && list_any (λ a. a.required && not (is_given a.id (finished s.rules end))) s.rules)))))

-- Where no subcommand has a name, none is met.
nameless : (s : Shape) → IsSilent s []
nameless s idle word name is = absurd (let no : ⊥ = cc in no)
nameless s (option id) word name is = absurd (let no : ⊥ = cc in no)
nameless s positional word name is = absurd (let no : ⊥ = cc in no)

entered_alike : (a : App) (stop : Option (Text × List Text)) → AreAlike (entered_fault a stop)
entered_alike a stop =
    given (λ p. option_map_or (λ s. level_fault s [] nothing_held p.1 false []) (find (λ s. answers_to p.0 (label_of s)) a.subs) []) stop
    (λ p. given (λ s. level_fault s [] nothing_held p.1 false []) (find (λ s. answers_to p.0 (label_of s)) a.subs)
    (λ s. level_alike s [] (nameless s) nothing_held p.1 false [] none))

-- of a command without a `help` of `clap`'s own, all kinds at some words are alike
built_alike : (a : App) → not a.top.disable_help_subcommand ≡ false → (h : Held) (words : List Text) → AreAlike (built_fault a h words)
built_alike a silent h words =
    let stop = (walk a.top.rules (names_of a) h words).stopped in
    level_alike a.top (names_of a) (λ waiting word name is. silent) h words (is_some (entered a stop)) (entered_fault a stop) (entered_alike a stop)

-- so they are of the program's
pub stops_alike : (words : List Text) → AreAlike (fault_of mainline_app words)
stops_alike words = built_alike (built mainline_app) refl nothing_held (argument_words mainline_app words)
