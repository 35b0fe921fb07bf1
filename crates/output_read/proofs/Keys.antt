-- The reply of one line at the front of lines, by what the line says.
use Rattle.std.proofs.Common.{◌≡◌, ℕ, ◌+◌, Bool, true, false, cond, ◌&&◌, ◌||◌, List, [], ◌∷◌, ◌++◌, drop, Option, None, Some, refl, sym, ap, ◌∙◌, subst, append-nil}
use Rattle.std.specs.Prelude.{◌==◌, bytes_eq, decimal}
use Rattle.std.specs.List.{starts_with, count_by}
use Rattle.std.proofs.lemmas.Bool.{and_parts, and_from, eqb-true, eq-eqb}
use Rattle.std.proofs.lemmas.Slice.Eq.{bytes_eq-Decides}
use Rattle.cell_model.specs.declared.table.TableDecl.{TableDecl}
use Rattle.workload_spec.specs.declared.command.Command.{Command}
use Rattle.workload_spec.specs.declared.command.Command.TheVariants as command
use Rattle.workload_spec.specs.declared.reply.ReplyLine.{ReplyLine}
use Rattle.workload_spec.specs.declared.reply.Who.{Who}
use Rattle.workload_spec.specs.declared.reply.Who.TheVariants.{Session, Worker}
use Rattle.workload_spec.specs.declared.reply.Said.{Said}
use Rattle.workload_spec.specs.declared.reply.Said.TheVariants as said
use Rattle.workload_spec.specs.ReplyText.{said_words, lines_behind, reply_text, who_text}
use Rattle.workload_spec.specs.Words.{spaced, lines_text}
use Rattle.workload_laws.proofs.Apart.{is_whole, whole_append}
use Rattle.outcome_spec.specs.Entries.{Entry, is_same}
use Rattle.outcome_spec.specs.Lines.{lines_of}
use Rattle.outcome_spec.specs.Reading.{words_in}
use Rattle.outcome_spec.specs.Forms.{Due, begins_with, replies_due, reply_at, entry_behind, is_upkeep, is_within}
use Rattle.reply_text.specs.Shown.{is_u32, is_u64, is_who, is_said, is_reply, are_tables}
use Rattle.reply_text.specs.Readers.{where_true, reply_in}
use Rattle.reply_text.proofs.PieceLemmas.{step, where_is, gives}
use Rattle.reply_text.proofs.Readings.{words_spaced, said_some, reply_is}
use Rattle.reply_text.proofs.SaidBack.{plain_whole, said_whole}
use Rattle.reply_text.proofs.RepliesBack.{reply_back}
use Rattle.timeline_laws.proofs.Lines.{ended, first_line, is_said as is_spoken, reply-read, who-word}
use Rattle.timeline_laws.proofs.ReadBack.{NamesPlain, reply-back}
use Rattle.timeline_laws.proofs.ReadLines.{lines_behind_first}
use Rattle.timeline_laws.proofs.ReadNumbers.{plain_decimal}
use Rattle.timeline_laws.proofs.Turns.{found-by}
use Rattle.output_read.specs.Answers.{answers, answers_within, answers_without, may_say}
use Rattle.output_read.specs.Fronts.{has_head, said_at}
use Rattle.output_read.proofs.Fitting.{never}
use Rattle.output_read.proofs.Answering.{Answered, IsListed, answer-reply, each-due}

-- something is not nothing
pub absurdly : {A : Type 0} {a : A} → Some a ≡ None → ⊥
absurdly h = let n : ⊥ = cc in n

-- ---- whom is answered

-- those who are tested as the same are the same
pub same-who : (a b : Who) → is_same a b ≡ true → a ≡ b
same-who (Session m) (Session n) h = ap Session (eqb-true m n h)
same-who (Session m) (Worker n) h = absurd (never h)
same-who (Worker m) (Session n) h = absurd (never h)
same-who (Worker m) (Worker n) h = ap Worker (eqb-true m n h)

-- everyone is tested as the same as oneself
pub who-same : (who : Who) → is_same who who ≡ true
who-same (Session n) = eq-eqb n n refl
who-same (Worker n) = eq-eqb n n refl

-- ---- no scan's rows answer in one line

-- A scan's rows answer no command without a transaction.
without-scanned : (asked : Command) (rows : List (List _)) → answers_without asked (said.Scanned rows) ≡ false
without-scanned (command.Begin checked) rows = refl
without-scanned (command.Get table key) rows = refl
without-scanned (command.Scan table) rows = refl
without-scanned (command.Range table low high) rows = refl
without-scanned (command.Total table column low high) rows = refl
without-scanned (command.Insert table row) rows = refl
without-scanned (command.Update table row) rows = refl
without-scanned (command.Delete table key) rows = refl
without-scanned command.Commit rows = refl
without-scanned command.Abort rows = refl
without-scanned command.Observe rows = refl
without-scanned command.Prune rows = refl
without-scanned (command.Compact table) rows = refl
without-scanned (command.Seal table block) rows = refl
without-scanned (command.Gather table block) rows = refl
without-scanned (command.Export table) rows = refl

-- A scan's rows answer no command in a transaction on one line.
within-scanned : (tables : List TableDecl) (asked : Command) (rows : List (List _)) → answers_within tables asked (said.Scanned rows) ≡ false
within-scanned tables (command.Begin checked) rows = refl
within-scanned tables (command.Get table key) rows = refl
within-scanned tables (command.Scan table) rows = refl
within-scanned tables (command.Range table low high) rows = refl
within-scanned tables (command.Total table column low high) rows = refl
within-scanned tables (command.Insert table row) rows = refl
within-scanned tables (command.Update table row) rows = refl
within-scanned tables (command.Delete table key) rows = refl
within-scanned tables command.Commit rows = refl
within-scanned tables command.Abort rows = refl
within-scanned tables command.Observe rows = refl
within-scanned tables command.Prune rows = refl
within-scanned tables (command.Compact table) rows = refl
within-scanned tables (command.Seal table block) rows = refl
within-scanned tables (command.Gather table block) rows = refl
within-scanned tables (command.Export table) rows = refl

-- a scan's rows answer no command in one line, in a transaction or without one
pub chosen-scanned : (tables : List TableDecl) (asked : Command) (rows : List (List _)) (b : Bool) → cond b (answers_within tables asked (said.Scanned rows)) (answers_without asked (said.Scanned rows)) ≡ true → ⊥
chosen-scanned tables asked rows true h = never (sym (within-scanned tables asked rows) ∙ h)
chosen-scanned tables asked rows false h = never (sym (without-scanned asked rows) ∙ h)

-- what answers stands on one line
pub alone : (tables : List TableDecl) (within : Bool) (asked : Command) (told : Said) → answers tables within asked told ≡ true → lines_behind told ≡ []
alone tables within asked (said.Scanned rows) h = absurd (chosen-scanned tables asked rows (within || is_upkeep asked) h)
alone tables within asked _ h = refl

-- ---- one line

module _ (tables : List TableDecl) (are : are_tables tables ≡ true) where
  -- the first line of a reply is whole
  pub first-whole : (reply : ReplyLine) → is_said tables reply.said ≡ true → is_whole (first_line tables reply) ≡ true
  first-whole reply fit =
      let words : List ℕ = spaced (said_words tables reply.said) in
      let index : is_whole (decimal reply.index ++ 32 ∷ words) ≡ true = whole_append (decimal reply.index) (32 ∷ words) (plain_whole (decimal reply.index) (plain_decimal reply.index)) (said_whole tables reply.said are fit) in
      let who : is_whole (who_text reply.who ++ 32 ∷ (decimal reply.index ++ 32 ∷ words)) ≡ true = whole_append (who_text reply.who) (32 ∷ (decimal reply.index ++ 32 ∷ words)) (who-word reply.who).whole index in
      ap is_whole (words_spaced (decimal reply.round) (who_text reply.who) (decimal reply.index) (said_words tables reply.said) (said_some tables reply.said))
      ∙ whole_append (decimal reply.round) (32 ∷ (who_text reply.who ++ 32 ∷ (decimal reply.index ++ 32 ∷ words))) (plain_whole (decimal reply.round) (plain_decimal reply.round)) who

  -- the text of a reply of one line
  pub one-text : (reply : ReplyLine) → lines_behind reply.said ≡ [] → reply_text tables reply ≡ first_line tables reply ++ 10 ∷ []
  one-text reply one =
      ap (λ (more : List (List ℕ)). (first_line tables reply ++ 10 ∷ []) ++ lines_text more) one ∙ append-nil (first_line tables reply ++ 10 ∷ [])

  -- The text of a reply of one line has that line alone.
  one-line : (reply : ReplyLine) → is_said tables reply.said ≡ true → lines_behind reply.said ≡ [] → lines_of (reply_text tables reply) ≡ (first_line tables reply ++ 10 ∷ []) ∷ []
  one-line reply fit one = ap lines_of (one-text reply one) ∙ lines_behind_first (first_line tables reply) [] (first-whole reply fit)

  module _ (earlier : List Entry) (due : Due) where
    -- the index of the next reply to whom it is due
    abbrev pub next : ℕ
    next = 1 + count_by (λ entry. entry.reply.round == due.round && is_same entry.reply.who due.who) earlier

    -- what a line says as the reply that is due
    abbrev pub said_there : List ℕ → Option Said
    said_there line = said_at tables due.round due.who next line

    -- what is due may be told this, by the replies before it
    abbrev pub may : Said → Bool
    may told = may_say tables (is_within due.who earlier) due told

    -- the reply to what is due that says this
    abbrev pub reply_of : Said → ReplyLine
    reply_of told = (entry_behind tables earlier due told).reply

    -- what the line says is a reply with this text
    pub record Says (line : List ℕ) (told : Said) : Type 0 where
      pub fits : is_said tables told ≡ true
      pub text : reply_text tables (reply_of told) ≡ line

    -- a line that says something is the text of a reply that fits the tables
    pub said-is : (line : List ℕ) (told : Said) → said_there line ≡ Some told → Says line told
    said-is line told h =
        step (reply_in tables line) _ told h (λ reply read e.
        let w = where_is (has_head due.round due.who next reply) reply.said told e in
        let is = reply_is tables line reply read in
        let a = and_parts (reply.round == due.round && is_same reply.who due.who) (reply.index == next) w.0 in
        let b = and_parts (reply.round == due.round) (is_same reply.who due.who) a.0 in
        let fit : is_said tables reply.said ≡ true = (and_parts (is_u32 reply.round && is_who reply.who && is_u64 reply.index) (is_said tables reply.said) is.0).1 in
        record {
          fits = subst (λ (s : Said). is_said tables s ≡ true) w.1 fit;
          text = sym (
              ap (λ (n : ℕ). reply_text tables (record reply { round = n })) (eqb-true reply.round due.round b.0)
              ∙ ap (λ (w : Who). reply_text tables (record reply { round = due.round; who = w })) (same-who reply.who due.who b.1)
              ∙ ap (λ (n : ℕ). reply_text tables (record reply { round = due.round; who = due.who; index = n })) (eqb-true reply.index next a.1)
              ∙ ap (λ (s : Said). reply_text tables (reply_of s)) w.1
              ) ∙ is.1;
        })

    -- a line that says what may be said is its reply
    pub matches : NamesPlain tables → (line : List ℕ) (behind : List (List ℕ)) (told : Said) → said_there line ≡ Some told → may told ≡ true
        → reply_at tables earlier due line behind ≡ Some (entry_behind tables earlier due told)
    matches names line behind told is can =
        let s = said-is line told is in
        let parts = and_parts (is_spoken due told) (answers tables (is_within due.who earlier) due.command told) can in
        let one = alone tables (is_within due.who earlier) due.command told parts.1 in
        let r = answer-reply tables (is_within due.who earlier) due.command told are parts.1 s.fits in
        let read = reply-read tables earlier due told behind parts.0 (reply-back tables names (is_within due.who earlier) due.command told r.0 r.1) in
        ap (λ (l : List ℕ). reply_at tables earlier due l behind) (sym s.text ∙ one-text (reply_of told) one)
        ∙ ap (λ (more : List (List ℕ)). reply_at tables earlier due (first_line tables (reply_of told) ++ 10 ∷ []) (ended more ++ behind)) (sym one)
        ∙ read

    -- a reply that is found is what the line says
    pub record Spoken (line : List ℕ) (entry : Entry) : Type 0 where
      pub told : Said
      pub is : entry_behind tables earlier due told ≡ entry
      pub says : said_there line ≡ Some told
      pub can : may told ≡ true

    both-true : (a b : Bool) → (a && b) ≡ true → a ≡ true
    both-true a b h = (and_parts a b h).0

    -- the text of a reply that has its widths is read as what it says
    pub reads-own : (line : List ℕ) (told : Said) → is_reply tables (reply_of told) ≡ true → reply_text tables (reply_of told) ≡ line → said_there line ≡ Some told
    reads-own line told is text =
        let read : reply_in tables line ≡ Some (reply_of told) = ap (reply_in tables) (sym text) ∙ reply_back tables (reply_of told) are is in
        let head : has_head due.round due.who next (reply_of told) ≡ true =
        and_from (due.round == due.round && is_same due.who due.who) (next == next) (and_from (due.round == due.round) (is_same due.who due.who) (eq-eqb due.round due.round refl) (who-same due.who)) (eq-eqb next next refl) in
        gives (reply_in tables line) _ (Some told) (reply_of told) read (ap (λ (b : Bool). where_true b told) head)

    -- the numbers of what is due have their widths
    pub record IsNarrow : Type 0 where
      pub round : is_u32 due.round ≡ true
      pub who : is_who due.who ≡ true
      pub index : is_u64 next ≡ true

    -- a reply to what is due has its widths where what is due has its own
    pub is-reply : IsNarrow → (told : Said) → is_said tables told ≡ true → is_reply tables (reply_of told) ≡ true
    is-reply narrow told fit =
        and_from (is_u32 due.round && is_who due.who && is_u64 next) (is_said tables told)
        (and_from (is_u32 due.round && is_who due.who) (is_u64 next) (and_from (is_u32 due.round) (is_who due.who) narrow.round narrow.who) narrow.index) fit

    -- lines that begin with a reply of one line have its text as the first of them
    pub begins-own : (line : List ℕ) (behind : List (List ℕ)) (told : Said) → is_said tables told ≡ true → lines_behind told ≡ []
        → begins_with tables (line ∷ behind) (entry_behind tables earlier due told) ≡ true → reply_text tables (reply_of told) ≡ line
    begins-own line behind told fit one h =
        let own = first_line tables (reply_of told) ++ 10 ∷ [] in
        let first : (bytes_eq own line && true) ≡ true = sym (ap (starts_with bytes_eq (line ∷ behind)) (one-line (reply_of told) fit one)) ∙ h in
        one-text (reply_of told) one ∙ (bytes_eq-Decides own line).0 (both-true (bytes_eq own line) true first)

    -- a reply that is found for what is due is what the line says, and may be said
    pub spoken : IsNarrow → (line : List ℕ) (behind : List (List ℕ)) (entry : Entry)
        → ((is_within due.who earlier || is_upkeep due.command) ≡ true → IsListed tables (drop 3 (words_in line)) behind due.command)
        → reply_at tables earlier due line behind ≡ Some entry → Spoken line entry
    spoken narrow line behind entry listed at =
        let f = found-by (Answered tables may) (entry_behind tables earlier due) (begins_with tables (line ∷ behind)) entry (replies_due tables earlier due (drop 3 (words_in line)) behind)
        (each-due tables earlier due (drop 3 (words_in line)) behind listed) at in
        record {
          told = f.told;
          is = f.is;
          says = reads-own line f.told (is-reply narrow f.told f.of.1) (begins-own line behind f.told f.of.1 f.of.2 f.passes);
          can = f.of.0;
        }

    none-by : (line : List ℕ) (behind : List (List ℕ)) (o : Option Entry) → reply_at tables earlier due line behind ≡ o → ((entry : Entry) → o ≡ Some entry → ⊥) → reply_at tables earlier due line behind ≡ None
    none-by line behind None is h = is
    none-by line behind (Some entry) is h = absurd (h entry refl)

    -- where the line says nothing, or nothing that may be said, there is none
    pub misses : IsNarrow → (line : List ℕ) (behind : List (List ℕ))
        → ((is_within due.who earlier || is_upkeep due.command) ≡ true → IsListed tables (drop 3 (words_in line)) behind due.command)
        → ((told : Said) → said_there line ≡ Some told → may told ≡ true → ⊥) → reply_at tables earlier due line behind ≡ None
    misses narrow line behind listed h =
        none-by line behind (reply_at tables earlier due line behind) refl
        (λ entry at. let s = spoken narrow line behind entry listed at in h s.told s.says s.can)
