-- The lines of a worker's turn: what its steps say, and that no other line is taken for one of
-- these.
use Rattle.std.proofs.Common.{◌≡◌, ℕ, ◌^◌, ◌<◌, ◌⊎◌, inl, inr, Bool, true, false, cond, ◌&&◌, ◌||◌, not, List, [], ◌∷◌, ◌++◌, map, Option, Some, refl, sym, ap, ◌∙◌, subst, arith, append_assoc}
use Rattle.std.specs.Prelude.{bytes_eq, codes, decimal, find, drop, slice_index_or}
use Rattle.std.specs.List.{filter, list_all, starts_with}
use Rattle.std.proofs.lemmas.Bool.{and_parts}
use Rattle.std.proofs.lemmas.Slice.Eq.{bytes_eq-Decides}
use Rattle.std.proofs.lemmas.Fmt.{decimal_injective}
use Rattle.cell_model.specs.declared.table.TableDecl.{TableDecl}
use Rattle.workload_spec.specs.Valid.{is_table_place}
use Rattle.workload_spec.specs.Words.{spaced, lines_text}
use Rattle.workload_spec.specs.ReplyText.{said_words, reply_lines, reply_text, who_text, lines_behind}
use Rattle.workload_spec.specs.ScriptText.{name_of_table}
use Rattle.workload_spec.specs.declared.command.Command.{Command}
use Rattle.workload_spec.specs.declared.command.Command.TheVariants as command
use Rattle.workload_spec.specs.declared.reply.ReplyLine.{ReplyLine}
use Rattle.workload_spec.specs.declared.reply.Who.{Who}
use Rattle.workload_spec.specs.declared.reply.Who.TheVariants.{Session, Worker}
use Rattle.workload_spec.specs.declared.reply.Said.{Said}
use Rattle.workload_spec.specs.declared.reply.Said.TheVariants as said
use Rattle.workload_spec.specs.declared.reply.SealCause.TheVariants.{Phase, Head, Empty, Gaps, Versions, Hot, Last}
use Rattle.workload_laws.proofs.Apart.{is_plain, is_whole, whole_append}
use Rattle.outcome_spec.specs.Entries.{Entry}
use Rattle.outcome_spec.specs.Lines.{lines_of}
use Rattle.outcome_spec.specs.Reading.{words_in}
use Rattle.outcome_spec.specs.Forms.{Due, begins_with, entry_behind, is_silent, is_upkeep, is_worker, is_within, replies_due, replies_within, replies_without, reply_at}
use Rattle.timeline_spec.specs.Forms.{IsReplyWithin}
use Rattle.timeline_laws.proofs.Tests.{or-last}
use Rattle.timeline_laws.proofs.ReadLines.{words_of_line, BeginsLine, text-begins}
use Rattle.timeline_laws.proofs.ReadNumbers.{is_digit_byte, digits_decimal, plain_decimal, u32_small, u64_small}
use Rattle.timeline_laws.proofs.Lines.{ended, lines-alone, reply-unbroken, first_line, IsSaid, is_said, all-words, said-words, a-word}
use Rattle.timeline_laws.proofs.ReadBack.{NamesPlain, memory-said, cooling-said, pruned-said, moved-said, sealed-said, frozen-said}

-- ---- the steps of a turn

-- a step of a turn over these tables, each of which may have a line of its own
abbrev pub IsStep : List TableDecl → Command → Type 0
IsStep tables (command.Compact table) = Unit {0}
IsStep tables (command.Seal table block) = (is_table_place tables table ≡ true) × (block < 2 ^ 64)
IsStep tables (command.Gather table block) = (is_table_place tables table ≡ true) × (block < 2 ^ 64)
IsStep tables _ = ⊥

-- what a step may say
abbrev pub StepSaid : List TableDecl → Said → Type 0
StepSaid tables (said.Moved count) = count < 2 ^ 64
StepSaid tables said.Memory = Unit {0}
StepSaid tables (said.Sealed table block stamp) = (is_table_place tables table ≡ true) × (block < 2 ^ 64) × (stamp < 2 ^ 64)
StepSaid tables (said.Frozen table block rows) = (is_table_place tables table ≡ true) × (block < 2 ^ 64) × (rows < 2 ^ 64)
StepSaid tables _ = ⊥

-- what begins a turn says
abbrev pub BeginSaid : Said → Type 0
BeginSaid (said.Cooling count) = Unit {0}
BeginSaid (said.Pruned count) = Unit {0}
BeginSaid _ = ⊥

-- no two tables have one name
abbrev pub Named : List TableDecl → Type 0
Named tables = (a b : ℕ) → is_table_place tables a ≡ true → is_table_place tables b ≡ true → name_of_table tables a ≡ name_of_table tables b → a ≡ b

-- what an answered step says
pub step-said : (tables : List TableDecl) (asked : Command) → IsStep tables asked → (told : Said) → IsReplyWithin asked told → is_silent told ≡ false → StepSaid tables told
step-said tables (command.Compact table) is (said.Moved n) h speaks = h
step-said tables (command.Compact table) is said.Memory h speaks = tt
step-said tables (command.Compact table) is _ h speaks = absurd h
step-said tables (command.Seal table block) is (said.Sealed of at g) h speaks =
    let small : g < 2 ^ 32 = h.2 in
    (subst (λ (t : ℕ). is_table_place tables t ≡ true) (sym h.0) is.0, subst (λ (b : ℕ). b < 2 ^ 64) (sym h.1) is.1, omega (arith, small))
step-said tables (command.Seal table block) is (said.NotSealed cause) h speaks = absurd (let never : ⊥ = cc in never)
step-said tables (command.Seal table block) is _ h speaks = absurd h
step-said tables (command.Gather table block) is (said.Frozen of at r) h speaks =
    let small : r < 2 ^ 32 = h.2 in
    (subst (λ (t : ℕ). is_table_place tables t ≡ true) (sym h.0) is.0, subst (λ (b : ℕ). b < 2 ^ 64) (sym h.1) is.1, omega (arith, small))
step-said tables (command.Gather table block) is said.NotFrozen h speaks = absurd (let never : ⊥ = cc in never)
step-said tables (command.Gather table block) is said.Memory h speaks = tt
step-said tables (command.Gather table block) is _ h speaks = absurd h
step-said tables _ is told h speaks = absurd is

-- the first of the words is this one
abbrev is_word_first : List ℕ → List (List ℕ) → Bool
is_word_first word words = bytes_eq (slice_index_or words 0 []) word

-- Words that pass a test are not words that fail it.
differ : (test : List (List ℕ) → Bool) (a b : List (List ℕ)) → a ≡ b → test a ≡ true → test b ≡ false → ⊥
differ test a b same is is_not =
    let never : true ≡ false = sym is ∙ ap test same ∙ is_not in
    (let impossible : ⊥ = cc in impossible)

-- what steps say is told apart by its words
pub said-apart : (tables : List TableDecl) → Named tables → (a b : Said) → StepSaid tables a → StepSaid tables b → said_words tables a ≡ said_words tables b → a ≡ b
said-apart tables named (said.Moved n) (said.Moved m) h k e = let same : decimal n ≡ decimal m = cc in ap said.Moved (decimal_injective n m h k same)
said-apart tables named (said.Moved n) said.Memory h k e = absurd (differ (is_word_first (codes "moved")) _ _ e refl refl)
said-apart tables named (said.Moved n) (said.Sealed t b g) h k e = absurd (differ (is_word_first (codes "moved")) _ _ e refl refl)
said-apart tables named (said.Moved n) (said.Frozen t b g) h k e = absurd (differ (is_word_first (codes "moved")) _ _ e refl refl)
said-apart tables named (said.Moved n) _ h k e = absurd k
said-apart tables named said.Memory said.Memory h k e = refl
said-apart tables named said.Memory (said.Moved m) h k e = absurd (differ (is_word_first (codes "memory")) _ _ e refl refl)
said-apart tables named said.Memory (said.Sealed t b g) h k e = absurd (differ (is_word_first (codes "memory")) _ _ e refl refl)
said-apart tables named said.Memory (said.Frozen t b g) h k e = absurd (differ (is_word_first (codes "memory")) _ _ e refl refl)
said-apart tables named said.Memory _ h k e = absurd k
said-apart tables named (said.Sealed t b g) (said.Sealed u c k) h i e =
    let name : name_of_table tables t ≡ name_of_table tables u = cc in
    let block : decimal b ≡ decimal c = cc in
    let stamp : decimal g ≡ decimal k = cc in
    ap (λ (x : ℕ). said.Sealed x b g) (named t u h.0 i.0 name) ∙ ap (λ (x : ℕ). said.Sealed u x g) (decimal_injective b c h.1 i.1 block) ∙ ap (said.Sealed u c) (decimal_injective g k h.2 i.2 stamp)
said-apart tables named (said.Sealed t b g) (said.Moved m) h k e = absurd (differ (is_word_first (codes "sealed")) _ _ e refl refl)
said-apart tables named (said.Sealed t b g) said.Memory h k e = absurd (differ (is_word_first (codes "sealed")) _ _ e refl refl)
said-apart tables named (said.Sealed t b g) (said.Frozen u c r) h k e = absurd (differ (is_word_first (codes "sealed")) _ _ e refl refl)
said-apart tables named (said.Sealed t b g) _ h k e = absurd k
said-apart tables named (said.Frozen t b g) (said.Frozen u c k) h i e =
    let name : name_of_table tables t ≡ name_of_table tables u = cc in
    let block : decimal b ≡ decimal c = cc in
    let rows : decimal g ≡ decimal k = cc in
    ap (λ (x : ℕ). said.Frozen x b g) (named t u h.0 i.0 name) ∙ ap (λ (x : ℕ). said.Frozen u x g) (decimal_injective b c h.1 i.1 block) ∙ ap (said.Frozen u c) (decimal_injective g k h.2 i.2 rows)
said-apart tables named (said.Frozen t b g) (said.Moved m) h k e = absurd (differ (is_word_first (codes "frozen")) _ _ e refl refl)
said-apart tables named (said.Frozen t b g) said.Memory h k e = absurd (differ (is_word_first (codes "frozen")) _ _ e refl refl)
said-apart tables named (said.Frozen t b g) (said.Sealed u c r) h k e = absurd (differ (is_word_first (codes "frozen")) _ _ e refl refl)
said-apart tables named (said.Frozen t b g) _ h k e = absurd k
said-apart tables named _ b h k e = absurd h

-- what steps say, and what begins a turn, differ in their words
pub begin-apart : (tables : List TableDecl) (a b : Said) → BeginSaid a → StepSaid tables b → said_words tables a ≡ said_words tables b → ⊥
begin-apart tables (said.Cooling n) (said.Moved m) h k e = differ (is_word_first (codes "cooling")) _ _ e refl refl
begin-apart tables (said.Cooling n) said.Memory h k e = differ (is_word_first (codes "cooling")) _ _ e refl refl
begin-apart tables (said.Cooling n) (said.Sealed t b g) h k e = differ (is_word_first (codes "cooling")) _ _ e refl refl
begin-apart tables (said.Cooling n) (said.Frozen t b g) h k e = differ (is_word_first (codes "cooling")) _ _ e refl refl
begin-apart tables (said.Cooling n) _ h k e = k
begin-apart tables (said.Pruned n) (said.Moved m) h k e = differ (is_word_first (codes "pruned")) _ _ e refl refl
begin-apart tables (said.Pruned n) said.Memory h k e = differ (is_word_first (codes "pruned")) _ _ e refl refl
begin-apart tables (said.Pruned n) (said.Sealed t b g) h k e = differ (is_word_first (codes "pruned")) _ _ e refl refl
begin-apart tables (said.Pruned n) (said.Frozen t b g) h k e = differ (is_word_first (codes "pruned")) _ _ e refl refl
begin-apart tables (said.Pruned n) _ h k e = k
begin-apart tables _ b h k e = h

-- ---- who is answered

-- a session's number is no worker's
pub who-apart : (session worker : ℕ) (front : List ℕ) → decimal session ≡ 119 ∷ front → ⊥
who-apart session worker front e =
    let never : false ≡ true = sym (ap (list_all is_digit_byte) e) ∙ digits_decimal session in
    (let impossible : ⊥ = cc in impossible)

-- equal texts begin alike
first-of : {x y : ℕ} {xs ys : List ℕ} → (x ∷ xs) ≡ y ∷ ys → x ≡ y
first-of e = ap (λ (bytes : List ℕ). slice_index_or bytes 0 0) e

-- a word of digits before a space is not a worker's
who-front : (word : List ℕ) → list_all is_digit_byte word ≡ true → (rest other : List ℕ) → word ++ 32 ∷ rest ≡ 119 ∷ other → ⊥
who-front [] digits rest other e = omega (arith, first-of e)
who-front (byte ∷ word) digits rest other e =
    let is : is_digit_byte byte ≡ true = (and_parts (is_digit_byte byte) (list_all is_digit_byte word) digits).0 in
    let never : false ≡ true = sym (ap is_digit_byte (first-of e)) ∙ is in
    (let impossible : ⊥ = cc in impossible)

-- no digit is a space
no-space : (byte : ℕ) (word : List ℕ) → list_all is_digit_byte (byte ∷ word) ≡ true → byte ≡ 32 → ⊥
no-space byte word digits e =
    let never : false ≡ true = sym (ap is_digit_byte e) ∙ (and_parts (is_digit_byte byte) (list_all is_digit_byte word) digits).0 in
    (let impossible : ⊥ = cc in impossible)

-- two texts that begin with a number and a space go on alike
behind-number : (a b : List ℕ) → list_all is_digit_byte a ≡ true → list_all is_digit_byte b ≡ true → (x y : List ℕ) → a ++ 32 ∷ x ≡ b ++ 32 ∷ y → x ≡ y
behind-number [] [] h k x y e = ap (λ (xs : List ℕ). drop 1 xs) e
behind-number [] (byte ∷ b) h k x y e = absurd (no-space byte b k (sym (first-of e)))
behind-number (byte ∷ a) [] h k x y e = absurd (no-space byte a h (first-of e))
behind-number (byte ∷ a) (other ∷ b) h k x y e =
    behind-number a b (and_parts (is_digit_byte byte) (list_all is_digit_byte a) h).1 (and_parts (is_digit_byte other) (list_all is_digit_byte b) k).1 x y (ap (λ (xs : List ℕ). drop 1 xs) e)

-- ---- two replies with one line

-- the words of a reply's first line
abbrev pub words_of_reply : List TableDecl → ReplyLine → List (List ℕ)
words_of_reply tables reply = decimal reply.round ∷ who_text reply.who ∷ decimal reply.index ∷ said_words tables reply.said

-- The words of a reply are read from its first line.
reply-words : (tables : List TableDecl) (reply : ReplyLine) → IsSaid tables reply.said → words_in (first_line tables reply ++ 10 ∷ []) ≡ words_of_reply tables reply
reply-words tables reply h =
    words_of_line (decimal reply.round) (who_text reply.who ∷ decimal reply.index ∷ said_words tables reply.said)
    (all-words reply.round reply.index reply.who (said_words tables reply.said) (said-words tables reply.said h))

-- a reply whose lines begin those of another has its words
pub same-words : (tables : List TableDecl) (entry : Entry) (reply : ReplyLine) (behind : List (List ℕ)) → IsSaid tables entry.reply.said → IsSaid tables reply.said
    → begins_with tables ((first_line tables reply ++ 10 ∷ []) ∷ behind) entry ≡ true → words_of_reply tables entry.reply ≡ words_of_reply tables reply
same-words tables entry reply behind h k begins =
    let line = first_line tables reply ++ 10 ∷ [] in
    let own = first_line tables entry.reply ++ 10 ∷ [] in
    let lines = lines-alone (reply_lines tables entry.reply) (reply-unbroken tables entry.reply h) in
    let first : (bytes_eq own line && starts_with bytes_eq behind (ended (lines_behind entry.reply.said))) ≡ true = sym (ap (starts_with bytes_eq (line ∷ behind)) lines) ∙ begins in
    let same : own ≡ line = (bytes_eq-Decides own line).0 (and_parts (bytes_eq own line) (starts_with bytes_eq behind (ended (lines_behind entry.reply.said))) first).0 in
    sym (reply-words tables entry.reply h) ∙ ap words_in same ∙ reply-words tables reply k

-- ---- the reply that is found

-- each of these may be said so
abbrev pub EachSaid : (Said → Type 0) → List Said → Type 0
EachSaid Q [] = Unit {0}
EachSaid Q (told ∷ saids) = Q told × EachSaid Q saids

-- One more that is fit where it is kept leaves all that are kept fit.
kept-step : (Q : Said → Type 0) (b : Bool) (told : Said) (kept : List Said) → (b ≡ true → Q told) → EachSaid Q kept → EachSaid Q (cond b (told ∷ kept) kept)
kept-step Q true told kept h rest = (h refl, rest)
kept-step Q false told kept h rest = rest

-- What holds of each that is kept holds of all that are kept.
each-kept : (Q : Said → Type 0) (keep : Said → Bool) (saids : List Said) → EachSaid (λ told. keep told ≡ true → Q told) saids → EachSaid Q (filter keep saids)
each-kept Q keep [] h = tt
each-kept Q keep (told ∷ saids) h = kept-step Q (keep told) told (filter keep saids) h.0 (each-kept Q keep saids h.1)

-- a reply that is found among those of what may be said
pub record Found (Q : Said → Type 0) (made : Said → Entry) (test : Entry → Bool) (entry : Entry) : Type 0 where
  pub told : Said
  pub is : made told ≡ entry
  pub passes : test (made told) ≡ true
  pub of : Q told

-- What is found first or behind is made of one of those that may be said.
found-step : (Q : Said → Type 0) (made : Said → Entry) (test : Entry → Bool) (entry : Entry) (told : Said) (later : Option Entry) (b : Bool) → test (made told) ≡ b → Q told
    → (later ≡ Some entry → Found Q made test entry) → cond b (Some (made told)) later ≡ Some entry → Found Q made test entry
found-step Q made test entry told later true is of rest h = record { told = told; is = let e : made told ≡ entry = cc in e; passes = is; of = of }
found-step Q made test entry told later false is of rest h = rest h

-- what is found among the entries made of what may be said is made of one of these
pub found-by : (Q : Said → Type 0) (made : Said → Entry) (test : Entry → Bool) (entry : Entry) (saids : List Said) → EachSaid Q saids → find test (map made saids) ≡ Some entry → Found Q made test entry
found-by Q made test entry [] h is = absurd (let never : ⊥ = cc in never)
found-by Q made test entry (told ∷ saids) h is =
    found-step Q made test entry told (find test (map made saids)) (test (made told)) refl h.0 (found-by Q made test entry saids h.1) is

module _ (tables : List TableDecl) (earlier : List Entry) (due : Due) (worker : ℕ) (is_who : due.who ≡ Worker worker) where
  -- nothing silent is kept
  speaks : (told : Said) → is_silent told ≡ true → is_said due told ≡ true → ⊥
  speaks told silent kept =
      let never : false ≡ true = sym (ap (λ (w : Who). not (is_worker w && is_silent told)) is_who ∙ ap not silent) ∙ kept in
      (let impossible : ⊥ = cc in impossible)

  -- What is due to upkeep is what may be told in a transaction, without what is silent.
  upkeep-due : (words behind : List (List ℕ)) → is_upkeep due.command ≡ true → replies_due tables earlier due words behind ≡ filter (is_said due) (replies_within tables words behind due.command)
  upkeep-due words behind up =
      ap (λ (b : Bool). filter (is_said due) (cond (is_within due.who earlier || b) (replies_within tables words behind due.command) (replies_without words due.command))) up
      ∙ ap (λ (b : Bool). filter (is_said due) (cond b (replies_within tables words behind due.command) (replies_without words due.command))) (or-last (is_within due.who earlier))

  -- What a line may say of a step is what a step may say.
  step-within : (words behind : List (List ℕ)) (asked : Command) → IsStep tables asked → EachSaid (λ told. is_said due told ≡ true → StepSaid tables told) (replies_within tables words behind asked)
  step-within words behind (command.Compact table) is = (λ kept. u64_small words 1, (λ kept. tt, tt))
  step-within words behind (command.Seal table block) is = (
    λ kept. (is.0, is.1, let small = u32_small words 3 in omega (arith, small)),
    (
      λ kept. absurd (speaks (said.NotSealed Phase) refl kept),
      (
        λ kept. absurd (speaks (said.NotSealed Head) refl kept),
        (
          λ kept. absurd (speaks (said.NotSealed Empty) refl kept),
          (
            λ kept. absurd (speaks (said.NotSealed Gaps) refl kept),
            (λ kept. absurd (speaks (said.NotSealed Versions) refl kept), (λ kept. absurd (speaks (said.NotSealed Hot) refl kept), (λ kept. absurd (speaks (said.NotSealed Last) refl kept), tt))),
          ),
        ),
      ),
    ),
  )
  step-within words behind (command.Gather table block) is = (
    λ kept. (is.0, is.1, let small = u32_small words 3 in omega (arith, small)),
    (λ kept. absurd (speaks said.NotFrozen refl kept), (λ kept. tt, tt)),
  )
  step-within words behind _ is = absurd is

  -- Each step of a turn is one of upkeep.
  step-upkeep : (asked : Command) → IsStep tables asked → is_upkeep asked ≡ true
  step-upkeep (command.Compact table) is = refl
  step-upkeep (command.Seal table block) is = refl
  step-upkeep (command.Gather table block) is = refl
  step-upkeep _ is = absurd is

  -- what is found for a step
  pub step-found : IsStep tables due.command → (line : List ℕ) (behind : List (List ℕ)) (entry : Entry) → reply_at tables earlier due line behind ≡ Some entry
      → Found (StepSaid tables) (entry_behind tables earlier due) (begins_with tables (line ∷ behind)) entry
  step-found is line behind entry at =
      let words = drop 3 (words_in line) in
      found-by (StepSaid tables) (entry_behind tables earlier due) (begins_with tables (line ∷ behind)) entry (replies_due tables earlier due words behind)
      (subst (EachSaid (StepSaid tables)) (sym (upkeep-due words behind (step-upkeep due.command is)))
      (each-kept (StepSaid tables) (is_said due) (replies_within tables words behind due.command) (step-within words behind due.command is))) at

  -- What a line may say of what begins a turn is what begins one.
  begin-within : (words behind : List (List ℕ)) (asked : Command) → (asked ≡ command.Observe) ⊎ (asked ≡ command.Prune) → EachSaid (λ told. is_said due told ≡ true → BeginSaid told) (replies_within tables words behind asked)
  begin-within words behind asked (inl is) = subst (λ (c : Command). EachSaid (λ told. is_said due told ≡ true → BeginSaid told) (replies_within tables words behind c)) (sym is) (λ kept. tt, tt)
  begin-within words behind asked (inr is) = subst (λ (c : Command). EachSaid (λ told. is_said due told ≡ true → BeginSaid told) (replies_within tables words behind c)) (sym is) (λ kept. tt, tt)

  -- Both commands that begin a turn are ones of upkeep.
  begin-upkeep : (asked : Command) → (asked ≡ command.Observe) ⊎ (asked ≡ command.Prune) → is_upkeep asked ≡ true
  begin-upkeep asked (inl is) = ap is_upkeep is
  begin-upkeep asked (inr is) = ap is_upkeep is

  -- what is found for what begins a turn
  pub begin-found : (due.command ≡ command.Observe) ⊎ (due.command ≡ command.Prune) → (line : List ℕ) (behind : List (List ℕ)) (entry : Entry) → reply_at tables earlier due line behind ≡ Some entry
      → Found BeginSaid (entry_behind tables earlier due) (begins_with tables (line ∷ behind)) entry
  begin-found is line behind entry at =
      let words = drop 3 (words_in line) in
      found-by BeginSaid (entry_behind tables earlier due) (begins_with tables (line ∷ behind)) entry (replies_due tables earlier due words behind)
      (subst (EachSaid BeginSaid) (sym (upkeep-due words behind (begin-upkeep due.command is)))
      (each-kept BeginSaid (is_said due) (replies_within tables words behind due.command) (begin-within words behind due.command is))) at

-- any reply that is found begins the lines, and answers what is due
pub any-found : (tables : List TableDecl) (earlier : List Entry) (due : Due) (line : List ℕ) (behind : List (List ℕ)) (entry : Entry) → reply_at tables earlier due line behind ≡ Some entry
    → Found (λ told. Unit {0}) (entry_behind tables earlier due) (begins_with tables (line ∷ behind)) entry
any-found tables earlier due line behind entry at =
    let saids = replies_due tables earlier due (drop 3 (words_in line)) behind in
    found-by (λ told. Unit {0}) (entry_behind tables earlier due) (begins_with tables (line ∷ behind)) entry saids (all saids) at
  where
    all : (saids : List Said) → EachSaid (λ told. Unit {0}) saids
    all [] = tt
    all (told ∷ saids) = (tt, all saids)

-- ---- lines of others

module _ (tables : List TableDecl) (names : NamesPlain tables) where
  -- what a step may say is of words
  pub step-is-said : (told : Said) → StepSaid tables told → IsSaid tables told
  step-is-said (said.Moved n) h = moved-said tables names n
  step-is-said said.Memory h = memory-said tables names
  step-is-said (said.Sealed t b g) h = sealed-said tables names t b g
  step-is-said (said.Frozen t b r) h = frozen-said tables names t b r
  step-is-said _ h = absurd h

  -- what begins a turn is of words
  pub begin-is-said : (told : Said) → BeginSaid told → IsSaid tables told
  begin-is-said (said.Cooling n) h = cooling-said tables names n
  begin-is-said (said.Pruned n) h = pruned-said tables names n
  begin-is-said _ h = absurd h

  -- the two have one who and one thing that they say
  pub same-parts : (a b : ReplyLine) → words_of_reply tables a ≡ words_of_reply tables b → (who_text a.who ≡ who_text b.who) × (said_words tables a.said ≡ said_words tables b.said)
  same-parts a b e =
      let tails : (who_text a.who ∷ decimal a.index ∷ said_words tables a.said) ≡ who_text b.who ∷ decimal b.index ∷ said_words tables b.said = cc in
      let who : who_text a.who ≡ who_text b.who = cc in
      let lasts : (decimal a.index ∷ said_words tables a.said) ≡ decimal b.index ∷ said_words tables b.said = cc in
      (who, (let e : said_words tables a.said ≡ said_words tables b.said = cc in e))

  -- A session and a worker are not written alike.
  who-differs : (session worker : ℕ) (a b : Who) → a ≡ Session session → b ≡ Worker worker → who_text a ≡ who_text b → ⊥
  who-differs session worker a b is_a is_b e = who-apart session worker (decimal worker) (sym (ap who_text is_a) ∙ e ∙ ap who_text is_b)

  -- a step's reply is not at the front of a line of a session
  pub step-not-session : (entry : Entry) (reply : ReplyLine) (behind : List (List ℕ)) (session worker : ℕ) → entry.reply.who ≡ Worker worker → reply.who ≡ Session session
      → StepSaid tables entry.reply.said → IsSaid tables reply.said → begins_with tables ((first_line tables reply ++ 10 ∷ []) ∷ behind) entry ≡ true → ⊥
  step-not-session entry reply behind session worker is_a is_b h k begins =
      let parts = same-parts entry.reply reply (same-words tables entry reply behind (step-is-said entry.reply.said h) k begins) in
      who-differs session worker reply.who entry.reply.who is_b is_a (sym parts.0)

  -- nor of a line that begins a turn
  pub step-not-begin : (entry : Entry) (reply : ReplyLine) (behind : List (List ℕ)) → StepSaid tables entry.reply.said → BeginSaid reply.said
      → begins_with tables ((first_line tables reply ++ 10 ∷ []) ∷ behind) entry ≡ true → ⊥
  step-not-begin entry reply behind h k begins =
      let parts = same-parts entry.reply reply (same-words tables entry reply behind (step-is-said entry.reply.said h) (begin-is-said reply.said k) begins) in
      begin-apart tables reply.said entry.reply.said k h (sym parts.1)

  -- and what begins a turn not at the front of a step's line
  pub begin-not-step : (entry : Entry) (reply : ReplyLine) (behind : List (List ℕ)) → BeginSaid entry.reply.said → StepSaid tables reply.said
      → begins_with tables ((first_line tables reply ++ 10 ∷ []) ∷ behind) entry ≡ true → ⊥
  begin-not-step entry reply behind h k begins =
      let parts = same-parts entry.reply reply (same-words tables entry reply behind (begin-is-said entry.reply.said h) (step-is-said reply.said k) begins) in
      begin-apart tables entry.reply.said reply.said h k parts.1

  -- one step's reply at the front of another's line says the same
  pub step-is-step : Named tables → (entry : Entry) (reply : ReplyLine) (behind : List (List ℕ)) → StepSaid tables entry.reply.said → StepSaid tables reply.said
      → begins_with tables ((first_line tables reply ++ 10 ∷ []) ∷ behind) entry ≡ true → entry.reply.said ≡ reply.said
  step-is-step named entry reply behind h k begins =
      let parts = same-parts entry.reply reply (same-words tables entry reply behind (step-is-said entry.reply.said h) (step-is-said reply.said k) begins) in
      said-apart tables named entry.reply.said reply.said h k parts.1

  -- A plain word has no line end in it.
  whole-digits : (word : List ℕ) → list_all is_plain word ≡ true → is_whole word ≡ true
  whole-digits word plain = (a-word word plain).whole

  -- A text that begins with two plain words has a first line that begins so.
  begins-so : (a b more : List ℕ) → list_all is_plain a ≡ true → list_all is_plain b ≡ true → BeginsLine (a ++ 32 ∷ (b ++ 32 ∷ [])) (lines_of (a ++ 32 ∷ (b ++ 32 ∷ more)))
  begins-so [] b more h k =
      subst (λ (text : List ℕ). BeginsLine (32 ∷ (b ++ 32 ∷ [])) (lines_of (32 ∷ text))) (append_assoc b (32 ∷ []) more)
      (text-begins 32 (b ++ 32 ∷ []) more (whole_append b (32 ∷ []) (whole-digits b k) refl))
  begins-so (x ∷ a) b more h k =
      let front : is_whole (x ∷ a ++ 32 ∷ (b ++ 32 ∷ [])) ≡ true = whole_append (x ∷ a) (32 ∷ (b ++ 32 ∷ [])) (whole-digits (x ∷ a) h) (whole_append b (32 ∷ []) (whole-digits b k) refl) in
      let same : (a ++ 32 ∷ (b ++ 32 ∷ [])) ++ more ≡ a ++ 32 ∷ (b ++ 32 ∷ more) = simp append_assoc in
      subst (λ (text : List ℕ). BeginsLine (x ∷ a ++ 32 ∷ (b ++ 32 ∷ [])) (lines_of (x ∷ text))) same (text-begins x (a ++ 32 ∷ (b ++ 32 ∷ [])) more front)

  -- Where lines start with others, the first of each are equal.
  first-equal : (line own : List ℕ) (behind others : List (List ℕ)) → starts_with bytes_eq (line ∷ behind) (own ∷ others) ≡ true → own ≡ line
  first-equal line own behind others h = (bytes_eq-Decides own line).0 (and_parts (bytes_eq own line) (starts_with bytes_eq behind others) h).0

  -- a session's reply is not found where a worker's line begins
  pub session-not-step : (entry : Entry) (reply : ReplyLine) (behind : List (List ℕ)) (session worker : ℕ) → entry.reply.who ≡ Session session → reply.who ≡ Worker worker
      → begins_with tables ((first_line tables reply ++ 10 ∷ []) ∷ behind) entry ≡ true → ⊥
  session-not-step entry reply behind session worker is_a is_b begins =
      let a = decimal entry.reply.round in
      let b = decimal session in
      let c = decimal entry.reply.index in
      let tail = (spaced (c ∷ said_words tables entry.reply.said) ++ 10 ∷ []) ++ lines_text (lines_behind entry.reply.said) in
      let text : reply_text tables entry.reply ≡ a ++ 32 ∷ (b ++ 32 ∷ tail) =
      ap (λ (w : Who). (spaced (a ∷ who_text w ∷ c ∷ said_words tables entry.reply.said) ++ 10 ∷ []) ++ lines_text (lines_behind entry.reply.said)) is_a
      ∙ parted a b (spaced (c ∷ said_words tables entry.reply.said)) (lines_text (lines_behind entry.reply.said)) in
      let begun = begins-so a b tail (plain_decimal entry.reply.round) (plain_decimal session) in
      let line = first_line tables reply ++ 10 ∷ [] in
      let own = first-equal line ((a ++ 32 ∷ (b ++ 32 ∷ [])) ++ begun.more) behind begun.others
      (sym (ap (starts_with bytes_eq (line ∷ behind)) (ap lines_of text ∙ begun.is)) ∙ begins) in
      let mine : (a ++ 32 ∷ (b ++ 32 ∷ [])) ++ begun.more ≡ a ++ 32 ∷ (b ++ 32 ∷ begun.more) = simp append_assoc in
      let rest = spaced (decimal reply.index ∷ said_words tables reply.said) ++ 10 ∷ [] in
      let theirs : line ≡ decimal reply.round ++ 32 ∷ (119 ∷ (decimal worker ++ 32 ∷ rest)) =
      ap (λ (w : Who). spaced (decimal reply.round ∷ who_text w ∷ decimal reply.index ∷ said_words tables reply.said) ++ 10 ∷ []) is_b
      ∙ parted_once (decimal reply.round) (119 ∷ decimal worker) (spaced (decimal reply.index ∷ said_words tables reply.said)) in
      who-front b (digits_decimal session) begun.more (decimal worker ++ 32 ∷ rest)
      (behind-number a (decimal reply.round) (digits_decimal entry.reply.round) (digits_decimal reply.round) (b ++ 32 ∷ begun.more) (119 ∷ (decimal worker ++ 32 ∷ rest))
      (sym mine ∙ own ∙ theirs))
    where
      parted : (a b c more : List ℕ) → ((a ++ 32 ∷ (b ++ 32 ∷ c)) ++ 10 ∷ []) ++ more ≡ a ++ 32 ∷ (b ++ 32 ∷ ((c ++ 10 ∷ []) ++ more))
      parted a b c more = simp append_assoc

      parted_once : (a b c : List ℕ) → (a ++ 32 ∷ (b ++ 32 ∷ c)) ++ 10 ∷ [] ≡ a ++ 32 ∷ (b ++ 32 ∷ (c ++ 10 ∷ []))
      parted_once a b c = simp append_assoc
