-- The replies of a generated workload are read as its parts.
use Rattle.std.proofs.Common.{◌≡◌, ℕ, ◌≤◌, Bool, true, false, cond, eqb, List, [], ◌∷◌, ◌++◌, Option, refl, sym, ap, ◌∙◌, subst, append_assoc}
use Rattle.std.proofs.lemmas.Bool.{cond-true, cond-false, eq-eqb}
use Rattle.cell_model.specs.declared.cell.Cell.{Cell}
use Rattle.cell_model.specs.declared.table.TableDecl.{TableDecl}
use Rattle.workload_spec.specs.declared.command.Command.{Command}
use Rattle.workload_spec.specs.declared.command.Command.TheVariants as command
use Rattle.workload_spec.specs.declared.reply.Who.{Who}
use Rattle.workload_spec.specs.declared.reply.Who.TheVariants.{Session}
use Rattle.workload_spec.specs.declared.reply.Said.{Said}
use Rattle.workload_spec.specs.declared.reply.Said.TheVariants as said
use Rattle.outcome_spec.specs.Entries.{Entry, is_end, is_same}
use Rattle.outcome_spec.specs.Forms.{Due, entry_behind, is_within, within_behind}
use Rattle.bench_laws.proofs.Replies.{due, Goes, step, within-more, within-insert, within-update, begin-shows, commit-shows, stays, fits-in, fits-out, IsStale, IsBeginReply, IsInsertReply, IsUpdateReply, IsCommitReply}
use Rattle.bench_laws.proofs.Plain.{Stands, goes-on}
use Rattle.bench_laws.proofs.Parts.{Wrote, GoodWrote, replies_to, first_row, next_row}

-- no session is in a transaction
abbrev pub AllOut : List Entry → Type 0
AllOut earlier = (session : ℕ) → is_within (Session session) earlier ≡ false

-- Each number is tested to be itself.
itself : (n : ℕ) → eqb n n ≡ true
itself n = eq-eqb n n refl

-- a session's own reply behind others, and another's
pub own-more : (session : ℕ) (earlier : List Entry) (e : Entry) (b : Bool) → e.reply.who ≡ Session session → is_within (Session session) earlier ≡ b
    → is_within (Session session) (earlier ++ e ∷ []) ≡ within_behind b e.reply.said
own-more session earlier e b who is =
    within-more (Session session) earlier e
    ∙ cond-true (is_same e.reply.who (Session session)) (within_behind (is_within (Session session) earlier) e.reply.said) (is_within (Session session) earlier)
    (ap (λ (w : Who). is_same w (Session session)) who ∙ itself session)
    ∙ ap (λ (x : Bool). within_behind x e.reply.said) is

-- A reply to another leaves whether a session is in a transaction.
other-more : (session : ℕ) (earlier : List Entry) (e : Entry) → is_same e.reply.who (Session session) ≡ false → is_within (Session session) (earlier ++ e ∷ []) ≡ is_within (Session session) earlier
other-more session earlier e other =
    within-more (Session session) earlier e
    ∙ cond-false (is_same e.reply.who (Session session)) (within_behind (is_within (Session session) earlier) e.reply.said) (is_within (Session session) earlier) other

-- a reply that opens and ends nothing
pub quiet-more : (session : ℕ) (earlier : List Entry) (e : Entry) → ((b : Bool) → within_behind b e.reply.said ≡ b) → is_within (Session session) (earlier ++ e ∷ []) ≡ is_within (Session session) earlier
quiet-more session earlier e quiet = within-more (Session session) earlier e ∙ by (is_same e.reply.who (Session session))
  where
    by : (b : Bool) → cond b (within_behind (is_within (Session session) earlier) e.reply.said) (is_within (Session session) earlier) ≡ is_within (Session session) earlier
    by true = quiet (is_within (Session session) earlier)
    by false = refl

-- Four replies put behind others one by one are all put behind them.
four : (xs : List Entry) (a b c d : Entry) → (((xs ++ a ∷ []) ++ b ∷ []) ++ c ∷ []) ++ d ∷ [] ≡ xs ++ a ∷ b ∷ c ∷ d ∷ []
four [] a b c d = refl
four (x ∷ xs) a b c d = ap (λ ys. x ∷ ys) (four xs a b c d)

-- behind a transaction that ended, no session is in one
ended-by : (session other : ℕ) (earlier : List Entry) (a b c d : Entry) (is : Bool) → eqb session other ≡ is → a.reply.who ≡ Session session → b.reply.who ≡ Session session → c.reply.who ≡ Session session → d.reply.who ≡ Session session
    → is_within (Session other) earlier ≡ false → (number : Option ℕ) → d.reply.said ≡ said.Committed number → is_within (Session other) ((((earlier ++ a ∷ []) ++ b ∷ []) ++ c ∷ []) ++ d ∷ []) ≡ false
ended-by session other earlier a b c d true is wa wb wc wd out number ends =
    within-more (Session other) (((earlier ++ a ∷ []) ++ b ∷ []) ++ c ∷ []) d
    ∙ cond-true (is_same d.reply.who (Session other)) (within_behind (is_within (Session other) (((earlier ++ a ∷ []) ++ b ∷ []) ++ c ∷ [])) d.reply.said) (is_within (Session other) (((earlier ++ a ∷ []) ++ b ∷ []) ++ c ∷ []))
    (ap (λ (w : Who). is_same w (Session other)) wd ∙ is)
    ∙ ap (within_behind (is_within (Session other) (((earlier ++ a ∷ []) ++ b ∷ []) ++ c ∷ []))) ends
ended-by session other earlier a b c d false is wa wb wc wd out number ends =
    other-more other (((earlier ++ a ∷ []) ++ b ∷ []) ++ c ∷ []) d (ap (λ (w : Who). is_same w (Session other)) wd ∙ is)
    ∙ other-more other ((earlier ++ a ∷ []) ++ b ∷ []) c (ap (λ (w : Who). is_same w (Session other)) wc ∙ is)
    ∙ other-more other (earlier ++ a ∷ []) b (ap (λ (w : Who). is_same w (Session other)) wb ∙ is)
    ∙ other-more other earlier a (ap (λ (w : Who). is_same w (Session other)) wa ∙ is)
    ∙ out

-- Behind a transaction that committed no session is in one.
ended : (session : ℕ) (earlier : List Entry) (a b c d : Entry) → a.reply.who ≡ Session session → b.reply.who ≡ Session session → c.reply.who ≡ Session session → d.reply.who ≡ Session session
    → AllOut earlier → (number : Option ℕ) → d.reply.said ≡ said.Committed number → AllOut (earlier ++ a ∷ b ∷ c ∷ d ∷ [])
ended session earlier a b c d wa wb wc wd out number ends other =
    subst (λ (es : List Entry). is_within (Session other) es ≡ false) (four earlier a b c d)
    (ended-by session other earlier a b c d (eqb session other) refl wa wb wc wd (out other) number ends)

-- A commit that is read behind a begin and two replies that end nothing is not refused.
pub committed : (tables : List TableDecl) (earlier : List Entry) (a b c d : Entry) (dues : List Due) (entries : List Entry) (session number : ℕ) → Stands entries
    → a.reply.who ≡ Session session → b.reply.who ≡ Session session → c.reply.who ≡ Session session → d.reply.who ≡ Session session
    → a.reply.said ≡ said.At number → is_end b.reply.said ≡ false → is_end c.reply.said ≡ false
    → Goes tables ((((earlier ++ a ∷ []) ++ b ∷ []) ++ c ∷ []) ++ d ∷ []) dues entries → IsStale d.reply.said → ⊥
committed tables earlier a b c d dues entries session number stands wa wb wc wd at b_quiet c_quiet goes =
    let on = goes-on tables ((((earlier ++ a ∷ []) ++ b ∷ []) ++ c ∷ []) ++ d ∷ []) dues entries goes in
    stands earlier on.0 a b c d session number
    (on.1 ∙ ap (λ (es : List Entry). es ++ on.0) (four earlier a b c d) ∙ append_assoc earlier (a ∷ b ∷ c ∷ d ∷ []) on.0)
    wa wb wc wd at b_quiet c_quiet

-- ---- one transaction

-- what is due for a session's transaction in a turn
abbrev pub tx_dues : ℕ → ℕ → ℕ → ℕ → List Due
tx_dues seed round turn session =
    due round session (command.Begin false) ∷ due round session (command.Insert 0 (first_row seed turn session))
    ∷ due round session (command.Update 0 (next_row seed turn session)) ∷ due round session command.Commit ∷ []

-- what a transaction's replies are read as
pub record Transacted (seed : ℕ) (tables : List TableDecl) (round turn session : ℕ) (earlier : List Entry) (dues : List Due) (entries : List Entry) : Type 0 where
  pub wrote : Wrote
  pub round_is : wrote.round ≡ round
  pub turn_is : wrote.turn ≡ turn
  pub session_is : wrote.session ≡ session
  pub good : GoodWrote seed wrote
  pub out : AllOut (earlier ++ replies_to wrote)
  pub rest : Goes tables (earlier ++ replies_to wrote) dues entries

module _ (seed : ℕ) (tables : List TableDecl) (round turn session : ℕ) (low : 1 ≤ session) (high : session ≤ 4) (turn_low : 1 ≤ turn) (dues : List Due) (entries : List Entry) (stands : Stands entries) where
  -- The row that the session inserts in its turn.
  abbrev row : List Cell
  row = first_row seed turn session

  -- The row that the session's update leaves in its turn.
  abbrev change : List Cell
  change = next_row seed turn session

  -- The reply to a command of the session, behind earlier replies.
  abbrev at : List Entry → Command → Said → Entry
  at earlier asked told = entry_behind tables earlier (due round session asked) told

  -- A reply to the session with the line and the index of another.
  abbrev shaped : Entry → Command → Said → Entry
  shaped e asked told = record { number = e.number; command = asked; reply = record { round = round; who = Session session; index = e.reply.index; said = told } }

  -- Behind its begin, its insert and its update a transaction's commit is read.
  commit-read : (earlier : List Entry) (number : ℕ) (inserted updated : Said) → IsInsertReply inserted → IsUpdateReply 0 updated → AllOut earlier
      → (a b c : Entry) → a ≡ at earlier (command.Begin false) (said.At number) → b ≡ at (earlier ++ a ∷ []) (command.Insert 0 row) inserted → c ≡ at ((earlier ++ a ∷ []) ++ b ∷ []) (command.Update 0 change) updated
      → is_end b.reply.said ≡ false → is_end c.reply.said ≡ false
      → is_within (Session session) (((earlier ++ a ∷ []) ++ b ∷ []) ++ c ∷ []) ≡ true
      → Goes tables (((earlier ++ a ∷ []) ++ b ∷ []) ++ c ∷ []) (due round session command.Commit ∷ dues) entries
      → Transacted seed tables round turn session earlier dues entries
  commit-read earlier number inserted updated insert_fits update_fits out a b c a_is b_is c_is b_quiet c_quiet within goes =
      let answer = step tables (((earlier ++ a ∷ []) ++ b ∷ []) ++ c ∷ []) round session command.Commit dues entries goes in
      let fits : IsCommitReply answer.told = fits-in (is_within (Session session) (((earlier ++ a ∷ []) ++ b ∷ []) ++ c ∷ [])) command.Commit answer.told within refl answer.fits in
      let told = at (((earlier ++ a ∷ []) ++ b ∷ []) ++ c ∷ []) command.Commit answer.told in
      let stood = committed tables earlier a b c told dues entries session number stands (ap (λ (e : Entry). e.reply.who) a_is) (ap (λ (e : Entry). e.reply.who) b_is) (ap (λ (e : Entry). e.reply.who) c_is) refl
      (ap (λ (e : Entry). e.reply.said) a_is) b_quiet c_quiet answer.rest in
      let shown = commit-shows answer.told (λ t. Goes tables ((((earlier ++ a ∷ []) ++ b ∷ []) ++ c ∷ []) ++ at (((earlier ++ a ∷ []) ++ b ∷ []) ++ c ∷ []) command.Commit t ∷ []) dues entries) fits stood answer.rest in
      let d = at (((earlier ++ a ∷ []) ++ b ∷ []) ++ c ∷ []) command.Commit (said.Committed shown.0) in
      let w : Wrote = record {
        round = round;
        session = session;
        turn = turn;
        row = row;
        change = change;
        snapshot = number;
        insert_said = inserted;
        update_said = updated;
        number = shown.0;
        begin_line = a.number;
        begin_index = a.reply.index;
        insert_line = b.number;
        insert_index = b.reply.index;
        update_line = c.number;
        update_index = c.reply.index;
        commit_line = d.number;
        commit_index = d.reply.index;
      } in
      let same : earlier ++ a ∷ b ∷ c ∷ d ∷ [] ≡ earlier ++ replies_to w =
      ap (λ (es : List Entry). earlier ++ es)
      (ap (λ (e : Entry). e ∷ b ∷ c ∷ d ∷ []) (shape-begin a a_is) ∙ ap (λ (e : Entry). shaped a (command.Begin false) (said.At number) ∷ e ∷ c ∷ d ∷ []) (shape-insert b b_is) ∙ ap (λ (e : Entry). shaped a (command.Begin false) (said.At number) ∷ shaped b (command.Insert 0 row) inserted ∷ e ∷ d ∷ []) (shape-update c c_is)) in
      record {
        wrote = w;
        round_is = refl;
        turn_is = refl;
        session_is = refl;
        good = record { insert_fits = insert_fits; update_fits = update_fits; session_low = low; session_high = high; turn_low = turn_low; row_is = refl; change_is = refl };
        out = subst AllOut same
            (ended session earlier a b c d (ap (λ (e : Entry). e.reply.who) a_is) (ap (λ (e : Entry). e.reply.who) b_is) (ap (λ (e : Entry). e.reply.who) c_is) refl out shown.0 refl);
        rest = subst (λ (es : List Entry). Goes tables es dues entries) (four earlier a b c d ∙ same) shown.1;
      }
    where
      shape-begin : (e : Entry) → e ≡ at earlier (command.Begin false) (said.At number) → e ≡ shaped e (command.Begin false) (said.At number)
      shape-begin e is = subst (λ (x : Entry). x ≡ shaped x (command.Begin false) (said.At number)) (sym is) refl

      shape-insert : (e : Entry) → e ≡ at (earlier ++ a ∷ []) (command.Insert 0 row) inserted → e ≡ shaped e (command.Insert 0 row) inserted
      shape-insert e is = subst (λ (x : Entry). x ≡ shaped x (command.Insert 0 row) inserted) (sym is) refl

      shape-update : (e : Entry) → e ≡ at ((earlier ++ a ∷ []) ++ b ∷ []) (command.Update 0 change) updated → e ≡ shaped e (command.Update 0 change) updated
      shape-update e is = subst (λ (x : Entry). x ≡ shaped x (command.Update 0 change) updated) (sym is) refl

  -- Behind its begin and its insert a transaction's update is read, and its commit.
  update-read : (earlier : List Entry) (number : ℕ) (inserted : Said) → IsInsertReply inserted → AllOut earlier
      → (a b : Entry) → a ≡ at earlier (command.Begin false) (said.At number) → b ≡ at (earlier ++ a ∷ []) (command.Insert 0 row) inserted
      → is_end b.reply.said ≡ false
      → is_within (Session session) ((earlier ++ a ∷ []) ++ b ∷ []) ≡ true
      → Goes tables ((earlier ++ a ∷ []) ++ b ∷ []) (due round session (command.Update 0 change) ∷ due round session command.Commit ∷ dues) entries
      → Transacted seed tables round turn session earlier dues entries
  update-read earlier number inserted insert_fits out a b a_is b_is b_quiet within goes =
      let answer = step tables ((earlier ++ a ∷ []) ++ b ∷ []) round session (command.Update 0 change) (due round session command.Commit ∷ dues) entries goes in
      let fits : IsUpdateReply 0 answer.told = fits-in (is_within (Session session) ((earlier ++ a ∷ []) ++ b ∷ [])) (command.Update 0 change) answer.told within refl answer.fits in
      let c = at ((earlier ++ a ∷ []) ++ b ∷ []) (command.Update 0 change) answer.told in
      commit-read earlier number inserted answer.told insert_fits fits out a b c a_is b_is refl
      b_quiet (stays answer.told (within-update answer.told fits))
      (own-more session ((earlier ++ a ∷ []) ++ b ∷ []) c true refl within ∙ within-update answer.told fits) answer.rest

  -- Behind its begin a transaction's insert is read, then its update and its commit.
  insert-read : (earlier : List Entry) (number : ℕ) → AllOut earlier
      → (a : Entry) → a ≡ at earlier (command.Begin false) (said.At number)
      → is_within (Session session) (earlier ++ a ∷ []) ≡ true
      → Goes tables (earlier ++ a ∷ []) (due round session (command.Insert 0 row) ∷ due round session (command.Update 0 change) ∷ due round session command.Commit ∷ dues) entries
      → Transacted seed tables round turn session earlier dues entries
  insert-read earlier number out a a_is within goes =
      let answer = step tables (earlier ++ a ∷ []) round session (command.Insert 0 row) (due round session (command.Update 0 change) ∷ due round session command.Commit ∷ dues) entries goes in
      let fits : IsInsertReply answer.told = fits-in (is_within (Session session) (earlier ++ a ∷ [])) (command.Insert 0 row) answer.told within refl answer.fits in
      let b = at (earlier ++ a ∷ []) (command.Insert 0 row) answer.told in
      update-read earlier number answer.told fits out a b a_is refl (stays answer.told (within-insert answer.told fits)) (own-more session (earlier ++ a ∷ []) b true refl within ∙ within-insert answer.told fits) answer.rest

  -- where nobody is in a transaction, the next one is read as one part
  pub transaction-read : (earlier : List Entry) → AllOut earlier → Goes tables earlier (tx_dues seed round turn session ++ dues) entries → Transacted seed tables round turn session earlier dues entries
  transaction-read earlier out goes =
      let behind = due round session (command.Insert 0 row) ∷ due round session (command.Update 0 change) ∷ due round session command.Commit ∷ dues in
      let answer = step tables earlier round session (command.Begin false) behind entries goes in
      let fits : IsBeginReply answer.told = fits-out (is_within (Session session) earlier) answer.told (out session) answer.fits in
      let shown = begin-shows answer.told (λ t. Goes tables (earlier ++ at earlier (command.Begin false) t ∷ []) behind entries) fits answer.rest in
      let a = at earlier (command.Begin false) (said.At shown.0) in
      insert-read earlier shown.0 out a refl (own-more session earlier a false refl (out session)) shown.1
