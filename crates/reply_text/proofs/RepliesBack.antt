-- The text of a reply over tables is read as it, and as no other.
use Rattle.std.proofs.Common.{◌≡◌, ℕ, true, false, List, [], ◌∷◌, ◌++◌, refl, sym, ap, ◌∙◌, arith, append_assoc}
use Rattle.std.specs.Prelude.{◌&&◌, ◌==◌, Option, Some, None, option_map, codes, decimal}
use Rattle.std.specs.List.{list_all}
use Rattle.std.proofs.lemmas.Bool.{ne_eqb, and_parts}
use Rattle.cell_model.specs.declared.table.TableDecl.{TableDecl}
use Rattle.workload_spec.specs.declared.reply.ReplyLine.{ReplyLine}
use Rattle.workload_spec.specs.declared.reply.Who.{Who}
use Rattle.workload_spec.specs.declared.reply.Who.TheVariants.{Session, Worker}
use Rattle.workload_spec.specs.Words.{spaced, lines_text}
use Rattle.workload_spec.specs.ReplyText.{said_words, lines_behind, who_text, reply_text}
use Rattle.workload_laws.proofs.Apart.{is_plain, is_whole, whole_append}
use Rattle.workload_laws.proofs.Numbers.{Begins, decimal_begins}
use Rattle.reply_text.specs.Shown.{is_u32, is_u64, is_who, is_said, is_reply, are_tables}
use Rattle.reply_text.specs.Readers.{behind, cut, u64_in, u32_in, who_in, Heading, head_in, told_in, reply_in}
use Rattle.reply_text.specs.Replies.{ReadsReply}
use Rattle.reply_text.proofs.PieceLemmas.{gives, cut_back}
use Rattle.reply_text.proofs.Spelled.{u64_back, u32_back}
use Rattle.reply_text.proofs.Readings.{words_spaced, said_some, reply_is}
use Rattle.reply_text.proofs.SaidBack.{u32_small, u64_plain, u32_plain, word_cut, plain_whole, said_back, said_whole}

-- a number has no mark of a worker
no_mark : (word : List ℕ) → Begins word → behind (codes "w") word ≡ None
no_mark [] begins = absurd (let e = begins.is in cc)
no_mark (first ∷ rest) begins =
    let same : first ≡ begins.first = (let e = begins.is in cc) in
    let other : first == 119 ≡ false = ne_eqb first 119 (λ e. omega (arith, e, same, begins.most)) in
    rw other refl

-- A session or worker is read back from its text.
who_back : (who : Who) → is_who who ≡ true → who_in (who_text who) ≡ Some who
who_back (Session n) fits =
    ap (λ (o : Option (List ℕ)). elim o as (λ x. Option Who) [ Some digits ↦ option_map Worker (u32_in digits) | None ↦ option_map Session (u32_in (decimal n)) ]) (no_mark (decimal n) (decimal_begins n (u32_small n fits)))
    ∙ ap (option_map Session) (u32_back n fits)
who_back (Worker n) fits = ap (option_map Worker) (u32_back n fits)

-- The text of a session or worker has plain bytes alone.
who_plain : (who : Who) → is_who who ≡ true → list_all is_plain (who_text who) ≡ true
who_plain (Session n) fits = u32_plain n fits
who_plain (Worker n) fits = u32_plain n fits

record AreReply (tables : List TableDecl) (reply : ReplyLine) : Type 0 where
  round : is_u32 reply.round ≡ true
  who : is_who reply.who ≡ true
  index : is_u64 reply.index ≡ true
  told : is_said tables reply.said ≡ true

-- A reply over tables has a round, someone, an index and words that fit.
reply_parts : (tables : List TableDecl) (reply : ReplyLine) → is_reply tables reply ≡ true → AreReply tables reply
reply_parts tables reply fits =
    let b = and_parts (is_u32 reply.round && is_who reply.who && is_u64 reply.index) (is_said tables reply.said) fits in
    let c = and_parts (is_u32 reply.round && is_who reply.who) (is_u64 reply.index) b.0 in
    let d = and_parts (is_u32 reply.round) (is_who reply.who) c.0 in
    record { round = d.0; who = d.1; index = c.1; told = b.1 }

-- the line of a round, whom it answers, an index and words
abbrev pub head_text : ℕ → Who → ℕ → List ℕ → List ℕ
head_text round who index words = decimal round ++ 32 ∷ (who_text who ++ 32 ∷ (decimal index ++ 32 ∷ words))

-- a head is read back from its text
pub head_back : (round index : ℕ) (who : Who) (words : List ℕ) → is_u32 round ≡ true → is_who who ≡ true → is_u64 index ≡ true
    → head_in (head_text round who index words) ≡ Some (record { round = round; who = who; index = index; words = words })
head_back round index who words a b c =
    let head : Option Heading = Some (record { round = round; who = who; index = index; words = words }) in
    let from_who : List ℕ = who_text who ++ 32 ∷ (decimal index ++ 32 ∷ words) in
    gives (cut 32 (head_text round who index words)) _ head (decimal round, from_who) (word_cut (decimal round) from_who (u32_plain round a))
    (gives (u32_in (decimal round)) _ head round (u32_back round a)
    (gives (cut 32 from_who) _ head (who_text who, decimal index ++ 32 ∷ words) (word_cut (who_text who) (decimal index ++ 32 ∷ words) (who_plain who b))
    (gives (who_in (who_text who)) _ head who (who_back who b)
    (gives (cut 32 (decimal index ++ 32 ∷ words)) _ head (decimal index, words) (word_cut (decimal index) words (u64_plain index c))
    (gives (u64_in (decimal index)) _ head index (u64_back index c) refl)))))

-- A head with words that have no line feed has none.
head_whole : (round index : ℕ) (who : Who) (words : List ℕ) → is_u32 round ≡ true → is_who who ≡ true → is_u64 index ≡ true → is_whole words ≡ true → is_whole (head_text round who index words) ≡ true
head_whole round index who words a b c whole =
    whole_append (decimal round) (32 ∷ (who_text who ++ 32 ∷ (decimal index ++ 32 ∷ words))) (plain_whole (decimal round) (u32_plain round a))
    (whole_append (who_text who) (32 ∷ (decimal index ++ 32 ∷ words)) (plain_whole (who_text who) (who_plain who b))
    (whole_append (decimal index) (32 ∷ words) (plain_whole (decimal index) (u64_plain index c)) whole))

-- a reply's text is its first line and those behind it
reply_lined : (tables : List TableDecl) (reply : ReplyLine)
    → reply_text tables reply ≡ head_text reply.round reply.who reply.index (spaced (said_words tables reply.said)) ++ 10 ∷ lines_text (lines_behind reply.said)
reply_lined tables reply =
    append_assoc (spaced (decimal reply.round ∷ who_text reply.who ∷ decimal reply.index ∷ said_words tables reply.said)) (10 ∷ []) (lines_text (lines_behind reply.said))
    ∙ ap (λ (line : List ℕ). line ++ 10 ∷ lines_text (lines_behind reply.said))
    (words_spaced (decimal reply.round) (who_text reply.who) (decimal reply.index) (said_words tables reply.said) (said_some tables reply.said))

-- a reply over tables is read back from its text
pub reply_back : (tables : List TableDecl) (reply : ReplyLine) → are_tables tables ≡ true → is_reply tables reply ≡ true → reply_in tables (reply_text tables reply) ≡ Some reply
reply_back tables reply are fits =
    let r = reply_parts tables reply fits in
    let words : List ℕ = spaced (said_words tables reply.said) in
    let line : List ℕ = head_text reply.round reply.who reply.index words in
    let others : List ℕ = lines_text (lines_behind reply.said) in
    let head : Heading = record { round = reply.round; who = reply.who; index = reply.index; words = words } in
    ap (reply_in tables) (reply_lined tables reply)
    ∙ gives (cut 10 (line ++ 10 ∷ others)) _ (Some reply) (line, others) (cut_back 10 line others (head_whole reply.round reply.index reply.who words r.round r.who r.index (said_whole tables reply.said are r.told)))
    (gives (head_in line) _ (Some reply) head (head_back reply.round reply.index reply.who words r.round r.who r.index)
    (gives (told_in tables words others) _ (Some reply) reply.said (said_back tables reply.said are r.told) refl))

-- what is read is the reply whose text the bytes are, and nothing where there is none
pub reads_reply : (tables : List TableDecl) (bytes : List ℕ) (read : Option ReplyLine) → are_tables tables ≡ true → read ≡ reply_in tables bytes → ReadsReply tables bytes read
reads_reply tables bytes read are is = λ reply. (
  λ e. reply_is tables bytes reply (sym is ∙ e),
  λ shown. is ∙ ap (reply_in tables) (sym shown.1) ∙ reply_back tables reply are shown.0,
)
