-- The lines of a text of replies, and the reply that is found at their front.
use Rattle.std.proofs.Common.{◌≡◌, ℕ, ◌⊎◌, Bool, true, false, cond, ◌&&◌, ◌||◌, not, List, [], ◌∷◌, ◌++◌, length, drop, map, Some, refl, sym, ap, ◌∙◌, subst, append-nil, append_assoc, inl, inr}
use Rattle.std.specs.Prelude.{bytes_eq, decimal, find}
use Rattle.std.specs.List.{starts_with, filter, list_all}
use Rattle.std.proofs.lemmas.Bool.{cond-true, cond-false}
use Rattle.std.proofs.lemmas.Slice.Eq.{bytes_eq-Decides}
use Rattle.cell_model.specs.declared.table.TableDecl.{TableDecl}
use Rattle.workload_spec.specs.declared.command.Command.{Command}
use Rattle.workload_spec.specs.declared.reply.ReplyLine.{ReplyLine}
use Rattle.workload_spec.specs.declared.reply.Who.{Who}
use Rattle.workload_spec.specs.declared.reply.Who.TheVariants.{Session, Worker}
use Rattle.workload_spec.specs.declared.reply.Said.{Said}
use Rattle.workload_spec.specs.ReplyText.{said_words, lines_behind, reply_lines, reply_text, replies_text, who_text}
use Rattle.workload_spec.specs.Words.{spaced, lines_text}
use Rattle.outcome_spec.specs.Entries.{Entry}
use Rattle.outcome_spec.specs.Lines.{lines_of}
use Rattle.outcome_spec.specs.Reading.{words_in}
use Rattle.outcome_spec.specs.Forms.{Due, begins_with, replies_due, reply_at, entry_behind, replies_within, replies_without, is_upkeep, is_worker, is_silent, is_within}
use Rattle.workload_laws.proofs.Apart.{IsWord, AreWords, is_plain, is_whole, plain_word, words_whole}
use Rattle.timeline_laws.proofs.ReadLines.{lines_behind_first, words_of_line, equal_front}
use Rattle.timeline_laws.proofs.ReadNumbers.{plain_decimal}

-- ---- words

-- plain bytes are a word
pub a-word : (word : List ℕ) → list_all is_plain word ≡ true → IsWord word
a-word word h = plain_word word h

-- ---- lines

-- no line has a line end in it
abbrev pub AreUnbroken : List (List ℕ) → Type 0
AreUnbroken [] = Unit {0}
AreUnbroken (line ∷ lines) = (is_whole line ≡ true) × AreUnbroken lines

-- the lines with their ends
abbrev pub ended : List (List ℕ) → List (List ℕ)
ended lines = map (λ line. line ++ 10 ∷ []) lines

-- The lines of a text of lines before more text.
pub lines-of : (lines : List (List ℕ)) (rest : List ℕ) → AreUnbroken lines → lines_of (lines_text lines ++ rest) ≡ ended lines ++ lines_of rest
lines-of [] rest h = refl
lines-of (line ∷ lines) rest h =
    let same : ((line ++ 10 ∷ []) ++ lines_text lines) ++ rest ≡ line ++ 10 ∷ (lines_text lines ++ rest) = simp append_assoc in
    ap lines_of same ∙ lines_behind_first line (lines_text lines ++ rest) h.0 ∙ ap (λ (ls : List (List ℕ)). (line ++ 10 ∷ []) ∷ ls) (lines-of lines rest h.1)

-- the lines of a text are those that it is made of
pub lines-alone : (lines : List (List ℕ)) → AreUnbroken lines → lines_of (lines_text lines) ≡ ended lines
lines-alone lines h = ap lines_of (sym (append-nil (lines_text lines))) ∙ lines-of lines [] h ∙ append-nil (ended lines)

-- Lines with more lines behind them start with themselves.
starts-itself : (lines rest : List (List ℕ)) → starts_with bytes_eq (lines ++ rest) lines ≡ true
starts-itself [] rest = refl
starts-itself (line ∷ lines) rest = rw ((bytes_eq-Decides line line).1 refl) (starts-itself lines rest)

-- ---- what is said

-- what is said is of words, and its further lines are unbroken
pub record IsSaid (tables : List TableDecl) (told : Said) : Type 0 where
  pub first : List ℕ
  pub others : List (List ℕ)
  pub words : said_words tables told ≡ first ∷ others
  pub read : AreWords (first ∷ others)
  pub behind : AreUnbroken (lines_behind told)

-- what stands in its line behind its index
unfoldable pub tail_of : List TableDecl → Said → List ℕ
tail_of tables told = spaced (said_words tables told) ++ 10 ∷ []

-- whom a line answers is a word
pub who-word : (who : Who) → IsWord (who_text who)
who-word (Session n) = a-word (decimal n) (plain_decimal n)
who-word (Worker n) = a-word (119 ∷ decimal n) (plain_decimal n)

-- the first line of a reply, without its end
abbrev pub first_line : List TableDecl → ReplyLine → List ℕ
first_line tables reply = spaced (decimal reply.round ∷ who_text reply.who ∷ decimal reply.index ∷ said_words tables reply.said)

-- words with a round, whom it answers and an index before them
pub all-words : (round index : ℕ) (who : Who) (words : List (List ℕ)) → AreWords words → AreWords (decimal round ∷ who_text who ∷ decimal index ∷ words)
all-words round index who words h = (a-word (decimal round) (plain_decimal round), (who-word who, (a-word (decimal index) (plain_decimal index), h)))

-- what is said is of words
pub said-words : (tables : List TableDecl) (told : Said) → IsSaid tables told → AreWords (said_words tables told)
said-words tables told h = subst AreWords (sym h.words) h.read

-- the lines of a reply are unbroken
pub reply-unbroken : (tables : List TableDecl) (reply : ReplyLine) → IsSaid tables reply.said → AreUnbroken (reply_lines tables reply)
reply-unbroken tables reply h =
    (words_whole (decimal reply.round ∷ who_text reply.who ∷ decimal reply.index ∷ said_words tables reply.said) (all-words reply.round reply.index reply.who (said_words tables reply.said) (said-words tables reply.said h)), h.behind)

-- the words of its line behind its index are those of what is said
pub words-in-line : (tables : List TableDecl) (reply : ReplyLine) → IsSaid tables reply.said → drop 3 (words_in (first_line tables reply ++ 10 ∷ [])) ≡ said_words tables reply.said
words-in-line tables reply h =
    ap (λ (words : List (List ℕ)). drop 3 words)
    (words_of_line (decimal reply.round) (who_text reply.who ∷ decimal reply.index ∷ said_words tables reply.said) (all-words reply.round reply.index reply.who (said_words tables reply.said) (said-words tables reply.said h)))

-- ---- which reply is found

-- what stands before what is said
abbrev pub front_of : ℕ → Who → ℕ → List ℕ
front_of round who index = decimal round ++ 32 ∷ (who_text who ++ 32 ∷ (decimal index ++ 32 ∷ []))

-- Three words before a text stand in front of it, and the line's end behind it.
parted : (a b c words : List ℕ) → (a ++ 32 ∷ (b ++ 32 ∷ (c ++ 32 ∷ words))) ++ 10 ∷ [] ≡ (a ++ 32 ∷ (b ++ 32 ∷ (c ++ 32 ∷ []))) ++ (words ++ 10 ∷ [])
parted a b c words = simp append_assoc

-- a reply's first line is what stands before what is said, and then that
pub line-is : (tables : List TableDecl) (reply : ReplyLine) → IsSaid tables reply.said → first_line tables reply ++ 10 ∷ [] ≡ front_of reply.round reply.who reply.index ++ tail_of tables reply.said
unfolding tail_of
line-is tables reply h =
    ap (λ (words : List (List ℕ)). spaced (decimal reply.round ∷ who_text reply.who ∷ decimal reply.index ∷ words) ++ 10 ∷ []) h.words
    ∙ parted (decimal reply.round) (who_text reply.who) (decimal reply.index) (spaced (h.first ∷ h.others))
    ∙ ap (λ (words : List (List ℕ)). front_of reply.round reply.who reply.index ++ (spaced words ++ 10 ∷ [])) (sym h.words)

-- A conjunction whose last part holds is its first part.
only : (b : Bool) → (b && true) ≡ b
only true = refl
only false = refl

-- a reply of one line, with the place of another, is found at the front of that one's lines where
-- they say the same
other-begins : (tables : List TableDecl) (number : ℕ) (asked : Command) (round index : ℕ) (who : Who) (other told : Said) (behind : List (List ℕ)) → IsSaid tables other → lines_behind other ≡ [] → IsSaid tables told
    → begins_with tables ((first_line tables (record { round = round; who = who; index = index; said = told }) ++ 10 ∷ []) ∷ behind)
    (record { number = number; command = asked; reply = record { round = round; who = who; index = index; said = other } })
    ≡ bytes_eq (tail_of tables other) (tail_of tables told)
other-begins tables number asked round index who other told behind is_other one is_told =
    let its : ReplyLine = record { round = round; who = who; index = index; said = other } in
    let line : List ℕ = first_line tables (record { round = round; who = who; index = index; said = told }) ++ 10 ∷ [] in
    let lines : lines_of (reply_text tables its) ≡ (first_line tables its ++ 10 ∷ []) ∷ [] =
    lines-alone (reply_lines tables its) (reply-unbroken tables its is_other) ∙ ap (λ (more : List (List ℕ)). (first_line tables its ++ 10 ∷ []) ∷ ended more) one in
    ap (λ (ls : List (List ℕ)). starts_with bytes_eq (line ∷ behind) ls) lines
    ∙ only (bytes_eq (first_line tables its ++ 10 ∷ []) line)
    ∙ ap (λ (l : List ℕ). bytes_eq l line) (line-is tables its is_other)
    ∙ ap (bytes_eq (front_of round who index ++ tail_of tables other)) (line-is tables (record { round = round; who = who; index = index; said = told }) is_told)
    ∙ equal_front (front_of round who index) (tail_of tables other) (tail_of tables told)

-- The first of these that may be said which is told: each before it is a line of its own, and
-- another one.
abbrev pub Picks : List TableDecl → Said → List Said → Type 0
Picks tables told [] = ⊥
Picks tables told (other ∷ others) = (other ≡ told) ⊎ (IsSaid tables other × (lines_behind other ≡ []) × (bytes_eq (tail_of tables other) (tail_of tables told) ≡ false) × Picks tables told others)

-- A reply stands at the front of its own lines, whatever follows.
own-begins : (tables : List TableDecl) (entry : Entry) (rest : List (List ℕ)) → IsSaid tables entry.reply.said
    → begins_with tables (ended (reply_lines tables entry.reply) ++ rest) entry ≡ true
own-begins tables entry rest h =
    ap (starts_with bytes_eq (ended (reply_lines tables entry.reply) ++ rest)) (lines-alone (reply_lines tables entry.reply) (reply-unbroken tables entry.reply h))
    ∙ starts-itself (ended (reply_lines tables entry.reply)) rest

module _ (tables : List TableDecl) (earlier : List Entry) (due : Due) (told : Said) (rest : List (List ℕ)) (h : IsSaid tables told) where
  -- The reply that tells this where it is due.
  abbrev the_entry : Entry
  the_entry = entry_behind tables earlier due told

  -- The lines of the reply, and those that follow.
  abbrev the_lines : List (List ℕ)
  the_lines = ended (reply_lines tables (the_entry).reply) ++ rest

  -- The reply that is picked is the one found at the front of its lines.
  picked : (others : List Said) → Picks tables told others → find (begins_with tables the_lines) (map (entry_behind tables earlier due) others) ≡ Some the_entry
  picked [] picks = absurd picks
  picked (other ∷ others) picks = elim picks [
    | inl same ↦ ap (λ (s : Said). cond (begins_with tables the_lines (entry_behind tables earlier due s)) (Some (entry_behind tables earlier due s)) (find (begins_with tables the_lines) (map (entry_behind tables earlier due) others))) same
        ∙ cond-true (begins_with tables the_lines the_entry) (Some the_entry) (find (begins_with tables the_lines) (map (entry_behind tables earlier due) others)) (own-begins tables the_entry rest h)
    | inr next ↦ cond-false (begins_with tables the_lines (entry_behind tables earlier due other)) (Some (entry_behind tables earlier due other)) (find (begins_with tables the_lines) (map (entry_behind tables earlier due) others))
        (other-begins tables (the_entry).number due.command due.round (the_entry).reply.index due.who other told (ended (lines_behind told) ++ rest) next.0 next.1 h ∙ next.2)
        ∙ picked others next.3
  ]

-- ---- the replies one after the other

-- what may be told where a command's reply is due
abbrev pub replies_at : Bool → List TableDecl → List (List ℕ) → List (List ℕ) → Command → List Said
replies_at within tables words behind asked = cond (within || is_upkeep asked) (replies_within tables words behind asked) (replies_without words asked)

-- A reply is read back where its command's is due, in a transaction or not.
pub record IsRead (tables : List TableDecl) (within : Bool) (asked : Command) (told : Said) : Type 0 where
  pub is_said : IsSaid tables told
  pub picks : (rest : List (List ℕ)) → Picks tables told (replies_at within tables (said_words tables told) (ended (lines_behind told) ++ rest) asked)

-- of these replies those that a line may say: a worker says nothing of a step that does nothing
abbrev pub is_said : Due → Said → Bool
is_said due told = not (is_worker due.who && is_silent told)

-- One more that is told otherwise, kept or not, leaves what is picked.
picks-step : (tables : List TableDecl) (keep : Said → Bool) (told other : Said) (kept : List Said) (b : Bool) → IsSaid tables other → lines_behind other ≡ [] → bytes_eq (tail_of tables other) (tail_of tables told) ≡ false
    → Picks tables told kept → Picks tables told (cond b (other ∷ kept) kept)
picks-step tables keep told other kept true said one apart h = inr (said, one, apart, h)
picks-step tables keep told other kept false said one apart h = h

-- what is told is picked among those that a line may say
picks-kept : (tables : List TableDecl) (keep : Said → Bool) (told : Said) → keep told ≡ true → (others : List Said) → Picks tables told others → Picks tables told (filter keep others)
picks-kept tables keep told kept [] h = absurd h
picks-kept tables keep told kept (other ∷ others) h = elim h [
  | inl same ↦ subst (λ (s : Said). Picks tables told (cond (keep s) (s ∷ filter keep others) (filter keep others))) (sym same)
      (subst (λ (b : Bool). Picks tables told (cond b (told ∷ filter keep others) (filter keep others))) (sym kept) (inl refl))
  | inr next ↦ picks-step tables keep told other (filter keep others) (keep other) next.0 next.1 next.2 (picks-kept tables keep told kept others next.3)
]

-- A reply that is read back where it is due is found at its own lines, whatever follows.
pub reply-read : (tables : List TableDecl) (earlier : List Entry) (due : Due) (told : Said) (rest : List (List ℕ)) → is_said due told ≡ true → (read : IsRead tables (is_within due.who earlier) due.command told)
    → reply_at tables earlier due (first_line tables (entry_behind tables earlier due told).reply ++ 10 ∷ []) (ended (lines_behind told) ++ rest) ≡ Some (entry_behind tables earlier due told)
reply-read tables earlier due told rest kept read =
    let behind = ended (lines_behind told) ++ rest in
    ap (λ (words : List (List ℕ)). find (begins_with tables ((first_line tables (entry_behind tables earlier due told).reply ++ 10 ∷ []) ∷ behind)) (map (entry_behind tables earlier due) (replies_due tables earlier due words behind)))
    (words-in-line tables (entry_behind tables earlier due told).reply read.is_said)
    ∙ picked tables earlier due told rest read.is_said (replies_due tables earlier due (said_words tables told) behind)
    (picks-kept tables (is_said due) told kept (replies_at (is_within due.who earlier) tables (said_words tables told) behind due.command) (read.picks rest))

-- behind so many lines stands the rest
pub dropped : (lines rest : List (List ℕ)) → drop (length lines) (ended lines ++ rest) ≡ rest
dropped [] rest = refl
dropped (line ∷ lines) rest = dropped lines rest

-- ---- the lines of printed replies

-- the lines of replies
abbrev pub lines_from : List TableDecl → List Entry → List (List ℕ)
lines_from tables entries = lines_of (replies_text tables (map (λ entry. entry.reply) entries))

-- the lines of the first reply, and those behind it
pub lines-first : (tables : List TableDecl) (entry : Entry) (entries : List Entry) → IsSaid tables entry.reply.said
    → lines_from tables (entry ∷ entries) ≡ (first_line tables entry.reply ++ 10 ∷ []) ∷ (ended (lines_behind entry.reply.said) ++ lines_from tables entries)
lines-first tables entry entries h =
    lines-of (reply_lines tables entry.reply) (replies_text tables (map (λ e. e.reply) entries)) (reply-unbroken tables entry.reply h)
