-- What was read of one list of dues after another.
use Rattle.std.proofs.Common.{◌≡◌, ℕ, ◌+◌, Bool, true, false, cond, ◌&&◌, ◌||◌, List, [], ◌∷◌, ◌++◌, None, Some, refl, sym, ap, ◌∙◌, arith, append-nil, append_assoc}
use Rattle.std.specs.Prelude.{◌==◌, nat_lt}
use Rattle.std.specs.List.{list_all, count_by}
use Rattle.std.proofs.lemmas.Bool.{and_from, and_parts}
use Rattle.std.proofs.lemmas.Bool.Decides.{nat_tests}
use Rattle.std.proofs.lemmas.List.Folds.{list_all-append}
use Rattle.std.proofs.lemmas.List.Sums.{sum_by-cons}
use Rattle.std.proofs.lemmas.List.{map-append}
use Rattle.std.proofs.lemmas.List.Elements.{filter_map-append}
use Rattle.workload_spec.specs.declared.command.Command.{Command}
use Rattle.workload_spec.specs.declared.reply.Who.{Who}
use Rattle.workload_spec.specs.declared.reply.Who.TheVariants.{Session, Worker}
use Rattle.workload_spec.specs.declared.script.Line.{Line}
use Rattle.outcome_spec.specs.Entries.{Entry, is_same}
use Rattle.outcome_spec.specs.Forms.{Due, commands_of, dues_to, is_within}
use Rattle.output_read.specs.declared.reader.Reader.{Reader}
use Rattle.output_read.specs.Order.{AddsAll, are_ahead, comes_before, is_ahead}
use Rattle.output_read.specs.Readers.{FailsAt, Passes, is_of, next_index, read_by, reads}
use Rattle.output_read.specs.Turns.{begins_anew}
use Rattle.output_read.specs.Threads.{Adds}
use Rattle.output_read.proofs.Fitting.{never}
use Rattle.output_read.proofs.Keeping.{within-other}
use Rattle.output_read.proofs.Keys.{same-who}

-- ---- dues that begin anew

-- these dues begin anew, with a rest that does
abbrev pub OpensAnew : List Due → Type 0
OpensAnew dues = (rest : List Due) → begins_anew rest ≡ true → begins_anew (dues ++ rest) ≡ true

-- where nothing is due, what begins is the rest, which begins anew
pub anew-none : OpensAnew []
anew-none rest anew = anew

-- what is due to a session begins anew
pub anew-session : (round session : ℕ) (commands : List Command) → OpensAnew (dues_to round (Session session) commands)
anew-session round session [] rest anew = anew
anew-session round session (asked ∷ commands) rest anew = refl

-- dues behind others begin anew where both do
pub anew-append : (a b : List Due) → OpensAnew a → OpensAnew b → OpensAnew (a ++ b)
anew-append a b h k rest anew = ap begins_anew (append_assoc a b rest) ∙ h (b ++ rest) (k rest anew)

-- ---- one list after another

-- where nothing is due, the reading goes on from where it stands
pub passes-none : (reader : Reader) → Passes reader reader []
passes-none reader dues anew = refl

-- what is due passes part by part, where the second part begins anew
pub passes-append : (a b c : Reader) (p q : List Due) → Passes a b p → Passes b c q → OpensAnew q → Passes a c (p ++ q)
passes-append a b c p q h k opens dues anew = ap (reads a) (append_assoc p q dues) ∙ h (q ++ dues) (opens dues anew) ∙ k dues anew

-- behind what passed, what fails there fails the whole
pub passes-fails : (a b : Reader) (p q : List Due) (n : ℕ) → Passes a b p → FailsAt b q n → OpensAnew q → FailsAt a (p ++ q) n
passes-fails a b p q n h k opens dues anew = ap (reads a) (append_assoc p q dues) ∙ h (q ++ dues) (opens dues anew) ∙ k dues anew

-- what fails also fails with more behind it that begins anew
pub fails-more : (a : Reader) (p q : List Due) (n : ℕ) → FailsAt a p n → OpensAnew q → FailsAt a (p ++ q) n
fails-more a p q n h opens dues anew = ap (reads a) (append_assoc p q dues) ∙ h (q ++ dues) (opens dues anew)

-- ---- replies that were added

-- a reader has read no reply more than itself
pub adds-none : (reader : Reader) (round : ℕ) (who : Who) → AddsAll reader reader round who
adds-none reader round who = record { added = []; is = sym (append-nil (read_by reader)); own = refl }

-- replies of a round to one that were read in two parts are replies to that one
pub adds-append : (a b c : Reader) (round : ℕ) (who : Who) → AddsAll a b round who → AddsAll b c round who → AddsAll a c round who
adds-append a b c round who h k = record {
  added = h.added ++ k.added;
  is = k.is ∙ ap (λ (es : List Entry). es ++ k.added) h.is ∙ append_assoc (read_by a) h.added k.added;
  own = list_all-append (is_of round who) h.added k.added ∙ and_from (list_all (is_of round who) h.added) (list_all (is_of round who) k.added) h.own k.own;
}

-- one reply of a round to one, read behind the others, is a list of such replies
pub adds-one : (a b : Reader) (round : ℕ) (who : Who) → Adds a b round who → AddsAll a b round who
adds-one a b round who h = record { added = h.entry ∷ []; is = h.is; own = and_from (is_of round who h.entry) true h.own refl }

-- Replies to another one leave it as it was whether one is in a transaction.
within-apart : (who other : Who) (entries added : List Entry) (round : ℕ) → is_same other who ≡ false → list_all (is_of round other) added ≡ true → is_within who (entries ++ added) ≡ is_within who entries
within-apart who other entries [] round apart own = ap (is_within who) (append-nil entries)
within-apart who other entries (entry ∷ added) round apart own =
    let p = and_parts (is_of round other entry) (list_all (is_of round other) added) own in
    let same : entry.reply.who ≡ other = same-who entry.reply.who other (and_parts (entry.reply.round == round) (is_same entry.reply.who other) p.0).1 in
    ap (is_within who) (sym (append_assoc entries (entry ∷ []) added))
    ∙ within-apart who other (entries ++ entry ∷ []) added round apart p.1
    ∙ within-other who entries entry (ap (λ (w : Who). is_same w who) same ∙ apart)

-- others are in a transaction as before
pub within-as-before : (a b : Reader) (round : ℕ) (who other : Who) → AddsAll a b round other → is_same other who ≡ false → is_within who (read_by b) ≡ is_within who (read_by a)
within-as-before a b round who other h apart = ap (is_within who) h.is ∙ within-apart who other (read_by a) h.added round apart h.own

-- ---- what is ahead

-- A reply that is ahead of one in a round is none of the round to that one.
ahead-other : (round : ℕ) (who : Who) (entry : Entry) → is_ahead round who entry ≡ true → is_of round who entry ≡ false
ahead-other round who entry h = by entry.reply.who who h
  where
    by : (a b : Who) → (nat_lt entry.reply.round round || entry.reply.round == round && comes_before a b) ≡ true → (entry.reply.round == round && is_same a b) ≡ false
    by (Session m) (Session n) e = grind (arith, nat_tests, e)
    by (Session m) (Worker n) e = grind (arith, nat_tests, e)
    by (Worker m) (Session n) e = grind (arith, nat_tests, e)
    by (Worker m) (Worker n) e = grind (arith, nat_tests, e)

-- Of replies that are all ahead of one in a round none is of the round to that one.
count-none : (round : ℕ) (who : Who) (entries : List Entry) → are_ahead round who entries ≡ true → count_by (is_of round who) entries ≡ 0
count-none round who [] h = refl
count-none round who (entry ∷ entries) h =
    let p = and_parts (is_ahead round who entry) (are_ahead round who entries) h in
    sum_by-cons (λ e. cond (is_of round who e) 1 0) entry entries
    ∙ ap (λ (b : Bool). cond b 1 0 + count_by (is_of round who) entries) (ahead-other round who entry p.0)
    ∙ (let e = count-none round who entries p.1 in let m : 0 + count_by (is_of round who) entries ≡ 0 = omega (arith, e) in m)

-- where all that was read is ahead of one in a round, its next index is 1
pub first-index : (round : ℕ) (who : Who) (entries : List Entry) → are_ahead round who entries ≡ true → 0 + 1 ≡ next_index round who entries
first-index round who entries h = let e = count-none round who entries h in omega (arith, e)

-- A reply that is ahead of one is ahead of the next, where those before come before both.
ahead-on : (round : ℕ) (who next : Who) → ((other : Who) → comes_before other who ≡ true → comes_before other next ≡ true) → (entry : Entry) → is_ahead round who entry ≡ true → is_ahead round next entry ≡ true
ahead-on round who next on entry h = by (nat_lt entry.reply.round round) (entry.reply.round == round) (comes_before entry.reply.who who) refl h
  where
    by : (a b c : Bool) → comes_before entry.reply.who who ≡ c → (a || b && c) ≡ true → (a || b && comes_before entry.reply.who next) ≡ true
    by true b c is e = refl
    by false true true is e = on entry.reply.who is
    by false true false is e = absurd (never e)
    by false false c is e = absurd (never e)

-- A reply of the round to one is ahead of whoever comes behind that one.
own-on : (round : ℕ) (who next : Who) → comes_before who next ≡ true → (entry : Entry) → is_of round who entry ≡ true → is_ahead round next entry ≡ true
own-on round who next before entry h =
    let p = and_parts (entry.reply.round == round) (is_same entry.reply.who who) h in
    let same = same-who entry.reply.who who p.1 in
    by (nat_lt entry.reply.round round) (entry.reply.round == round) p.0 (ap (λ (w : Who). comes_before w next) same ∙ before)
  where
    by : (a b : Bool) → b ≡ true → comes_before entry.reply.who next ≡ true → (a || b && comes_before entry.reply.who next) ≡ true
    by true b e k = refl
    by false true e k = k
    by false false e k = absurd (never e)

-- Where one test passes no less than another, all that pass the one pass it.
all-on : (f g : Entry → Bool) → ((entry : Entry) → f entry ≡ true → g entry ≡ true) → (entries : List Entry) → list_all f entries ≡ true → list_all g entries ≡ true
all-on f g on [] h = refl
all-on f g on (entry ∷ entries) h = let p = and_parts (f entry) (list_all f entries) h in and_from (g entry) (list_all g entries) (on entry p.0) (all-on f g on entries p.1)

-- those of one are ahead of the next
pub ahead-next : (a b : Reader) (round : ℕ) (who next : Who) → AddsAll a b round who → are_ahead round who (read_by a) ≡ true → ((other : Who) → comes_before other who ≡ true → comes_before other next ≡ true) → comes_before who next ≡ true
    → are_ahead round next (read_by b) ≡ true
ahead-next a b round who next h ahead on before =
    ap (are_ahead round next) h.is ∙ list_all-append (is_ahead round next) (read_by a) h.added
    ∙ and_from (are_ahead round next (read_by a)) (are_ahead round next h.added) (all-on (is_ahead round who) (is_ahead round next) (ahead-on round who next on) (read_by a) ahead)
    (all-on (is_of round who) (is_ahead round next) (own-on round who next before) h.added h.own)

-- what is ahead of one is ahead of whoever comes behind that one
pub ahead-later : (round : ℕ) (who next : Who) (entries : List Entry) → ((other : Who) → comes_before other who ≡ true → comes_before other next ≡ true) → are_ahead round who entries ≡ true → are_ahead round next entries ≡ true
ahead-later round who next entries on h = all-on (is_ahead round who) (is_ahead round next) (ahead-on round who next on) entries h

-- and of the next round
pub ahead-round : (round : ℕ) (who next : Who) (entries : List Entry) → are_ahead round who entries ≡ true → are_ahead (round + 1) next entries ≡ true
ahead-round round who next entries h = all-on (is_ahead round who) (is_ahead (round + 1) next) (λ entry e. grind (arith, nat_tests, e)) entries h

-- ---- the commands of a session

-- what a session is asked in one line more stands behind its commands so far
pub commands-more : (session : ℕ) (lines : List Line) (line : Line) → commands_of session (lines ++ line ∷ []) ≡ commands_of session lines ++ commands_of session (line ∷ [])
commands-more session lines line = filter_map-append (λ l. cond (l.session == session) (Some l.command) None) lines (line ∷ [])

-- what is due of commands in two parts is due of one part after the other
pub dues-more : (round : ℕ) (who : Who) (a b : List Command) → dues_to round who (a ++ b) ≡ dues_to round who a ++ dues_to round who b
dues-more round who a b = map-append (λ (asked : Command). record { round = round; who = who; command = asked }) a b
