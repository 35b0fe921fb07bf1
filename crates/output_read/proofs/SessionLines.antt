-- The lines of a round, one after the other, as a session's are read.
use Rattle.std.proofs.Common.{◌≡◌, ℕ, ◌+◌, ◌<◌, ◌^◌, Bool, true, false, cond, List, [], ◌∷◌, ◌++◌, length, take, drop, get_or, None, Some, refl, sym, ap, ◌∙◌, subst, suc, arith}
use Rattle.std.specs.Prelude.{◌==◌}
use Rattle.std.specs.List.{cons_option}
use Rattle.std.proofs.lemmas.Bool.{ne_eqb, eq-eqb}
use Rattle.std.proofs.Common.{drop-cons}
use Rattle.std.proofs.lemmas.List.{take-append-drop, take_more}
use Rattle.output_read.specs.Order.{are_ahead}
use Rattle.outcome_spec.specs.Forms.{is_within}
use Rattle.output_read.proofs.Passing.{first-index}
use Rattle.workload_spec.specs.declared.reply.Who.TheVariants.{Session}
use Rattle.workload_spec.specs.declared.script.Line.{Line}
use Rattle.outcome_spec.specs.Forms.{Due, commands_of, dues_to}
use Rattle.output_read.specs.declared.reader.Reader.{Reader}
use Rattle.output_read.specs.declared.sessions.Thread.{Thread}
use Rattle.output_read.specs.Order.{AddsAll}
use Rattle.output_read.specs.Readers.{FailsAt, IsReading, Passes, read_by}
use Rattle.output_read.specs.Threads.{IsThread, LineGoes, line_dues, session_due}
use Rattle.output_read.proofs.Passing.{adds-none, adds-append, anew-session, anew-append, commands-more, dues-more, fails-more, passes-append, passes-fails, passes-none}

-- What a line has due is its command if it is the session's, and else nothing.
one-line : (thread : Thread) (line : Line) (b : Bool) → (line.session == thread.session) ≡ b → line_dues thread line ≡ dues_to thread.round (Session thread.session) (cons_option (cond b (Some line.command) None) [])
one-line thread line b is = ap (λ (x : Bool). dues_to thread.round (Session thread.session) (cons_option (cond x (Some line.command) None) [])) is

-- a line of the session has its command due
pub own-line : (thread : Thread) (line : Line) → line.session ≡ thread.session → line_dues thread line ≡ session_due thread line.command ∷ []
own-line thread line is = one-line thread line true (eq-eqb line.session thread.session is)

-- a line of another session has nothing due
pub other-line : (thread : Thread) (line : Line) → (line.session ≡ thread.session → ⊥) → line_dues thread line ≡ []
other-line thread line apart = one-line thread line false (ne_eqb line.session thread.session apart)

-- what was due of the lines so far was read
pub record LinesGo (old new : Reader) (round session : ℕ) (thread : Thread) (lines : List Line) : Type 0 where
  pub tables : new.tables.now ≡ old.tables.now
  pub reading : IsReading new
  pub thread_is : IsThread thread (read_by new)
  pub round_is : thread.round ≡ round
  pub session_is : thread.session ≡ session
  pub passes : Passes old new (dues_to round (Session session) (commands_of session lines))
  pub adds : AddsAll old new round (Session session)

module _ (old cur : Reader) (round session : ℕ) (thread : Thread) (lines : List Line) (h : LinesGo old cur round session thread lines) where
  -- What a line has due by the thread is what it has due by the round and the session.
  dues-is : (line : Line) → line_dues thread line ≡ dues_to round (Session session) (commands_of session (line ∷ []))
  dues-is line = ap (λ (r : ℕ). dues_to r (Session thread.session) (commands_of thread.session (line ∷ []))) h.round_is ∙ ap (λ (s : ℕ). dues_to round (Session s) (commands_of s (line ∷ []))) h.session_is

  -- What lines have due comes in three parts, of those in front, of one, and of those behind.
  whole : (line : Line) (rest : List Line) → dues_to round (Session session) (commands_of session (lines ++ line ∷ rest))
      ≡ dues_to round (Session session) (commands_of session lines) ++ (dues_to round (Session session) (commands_of session (line ∷ [])) ++ dues_to round (Session session) (commands_of session rest))
  whole line rest =
      ap (dues_to round (Session session)) (Rattle.std.proofs.lemmas.List.Elements.filter_map-append (λ l. cond (l.session == session) (Some l.command) None) lines (line ∷ rest))
      ∙ dues-more round (Session session) (commands_of session lines) (commands_of session (line ∷ rest))
      ∙ ap (λ (ds : List Due). dues_to round (Session session) (commands_of session lines) ++ ds)
      (ap (dues_to round (Session session)) (Rattle.std.proofs.lemmas.List.Elements.filter_map-append (λ l. cond (l.session == session) (Some l.command) None) (line ∷ []) rest)
      ∙ dues-more round (Session session) (commands_of session (line ∷ [])) (commands_of session rest))

  -- one line more was read behind those so far
  pub lines-more : (new : Reader) (after : Thread) (line : Line) → new.tables.now ≡ cur.tables.now → LineGoes cur new thread after line → LinesGo old new round session after (lines ++ line ∷ [])
  lines-more new after line tables g = record {
    tables = tables ∙ h.tables;
    reading = g.reading;
    thread_is = g.thread_on;
    round_is = g.round ∙ h.round_is;
    session_is = g.session ∙ h.session_is;
    passes = subst (Passes old new) (sym (ap (dues_to round (Session session)) (commands-more session lines line) ∙ dues-more round (Session session) (commands_of session lines) (commands_of session (line ∷ []))))
        (passes-append old cur new (dues_to round (Session session) (commands_of session lines)) (dues_to round (Session session) (commands_of session (line ∷ []))) h.passes
        (subst (Passes cur new) (dues-is line) g.passes) (anew-session round session (commands_of session (line ∷ []))));
    adds = adds-append old cur new round (Session session) h.adds (subst (λ (s : ℕ). AddsAll cur new round (Session s)) h.session_is (subst (λ (r : ℕ). AddsAll cur new r (Session thread.session)) h.round_is g.adds));
  }

  -- where the next line fails, the session's lines fail there
  pub lines-fail : (line : Line) (rest : List Line) (n : ℕ) → FailsAt cur (line_dues thread line) n → FailsAt old (dues_to round (Session session) (commands_of session (lines ++ line ∷ rest))) n
  lines-fail line rest n f =
      let own = dues_to round (Session session) (commands_of session (line ∷ [])) in
      let more = dues_to round (Session session) (commands_of session rest) in
      subst (λ (ds : List Due). FailsAt old ds n) (sym (whole line rest))
      (passes-fails old cur (dues_to round (Session session) (commands_of session lines)) (own ++ more) n h.passes
      (fails-more cur own more n (subst (λ (ds : List Due). FailsAt cur ds n) (dues-is line) f) (anew-session round session (commands_of session rest)))
      (anew-append own more (anew-session round session (commands_of session (line ∷ []))) (anew-session round session (commands_of session rest))))

-- Lines are those in front of a place, the one at it, and those behind it.
item-next : (lines : List Line) (i : ℕ) (item : Line) → i < length lines → item ≡ get_or lines i item → lines ≡ take i lines ++ item ∷ drop (i + 1) lines
item-next lines i item few is =
    sym (take-append-drop i lines)
    ∙ ap (λ (ls : List Line). take i lines ++ ls) (drop-cons lines i item few ∙ ap (λ (l : Line). l ∷ drop (suc i) lines) (sym is) ∙ ap (λ (n : ℕ). item ∷ drop n lines) (let e : suc i ≡ i + 1 = omega arith in e))

-- before the first line nothing of the session's round was read
pub lines-start : (old : Reader) (round session : ℕ) (within : Bool) → round < 2 ^ 32 → session < 2 ^ 32 → IsReading old → are_ahead round (Session session) (read_by old) ≡ true → within ≡ is_within (Session session) (read_by old)
    → LinesGo old old round session (record { round = round; session = session; index = 0; within = within }) []
lines-start old round session within small_round small_session reading ahead within_is = record {
  tables = refl;
  reading = reading;
  thread_is = record { round = small_round; session = small_session; index = first-index round (Session session) (read_by old) ahead; within = within_is };
  round_is = refl;
  session_is = refl;
  passes = passes-none old;
  adds = adds-none old round (Session session);
}

module _ (old cur : Reader) (round session : ℕ) (thread : Thread) (all : List Line) (i : ℕ) (item : Line) (few : i < length all) (is : item ≡ get_or all i item) (h : LinesGo old cur round session thread (take i all)) where
  -- the next line of the round was read, for the step of the loop
  pub lines-next : (new : Reader) (after : Thread) → new.tables.now ≡ cur.tables.now → LineGoes cur new thread after item → LinesGo old new round session after (take (i + 1) all)
  lines-next new after tables g =
      subst (LinesGo old new round session after) (sym (take_more all i item few ∙ ap (λ (l : Line). take i all ++ l ∷ []) (sym is))) (lines-more old cur round session thread (take i all) h new after item tables g)

  -- where a line of the round fails, what the session has due in the round fails
  pub lines-failed : (n : ℕ) → FailsAt cur (line_dues thread item) n → FailsAt old (dues_to round (Session session) (commands_of session all)) n
  lines-failed n f =
      subst (λ (ls : List Line). FailsAt old (dues_to round (Session session) (commands_of session ls)) n) (sym (item-next all i item few is)) (lines-fail old cur round session thread (take i all) h item (drop (i + 1) all) n f)
