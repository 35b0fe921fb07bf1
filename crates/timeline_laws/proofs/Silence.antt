-- The text of printed replies is read as these replies, also where steps of a worker's turn leave
-- no line.
use Rattle.std.proofs.Common.{◌≡◌, ℕ, ◌+◌, ◌⊎◌, inl, inr, Bool, true, false, cond, ◌&&◌, not, List, [], ◌∷◌, ◌++◌, drop, Option, None, Some, Ok, Err, refl, sym, ap, ◌∙◌, subst, append-nil, append_assoc}
use Rattle.std.specs.Prelude.{Result}
use Rattle.std.specs.List.{list_all}
use Rattle.cell_model.specs.declared.table.TableDecl.{TableDecl}
use Rattle.workload_spec.specs.ReplyText.{reply_lines, lines_behind}
use Rattle.workload_spec.specs.declared.command.Command.{Command}
use Rattle.workload_spec.specs.declared.command.Command.TheVariants as command
use Rattle.workload_spec.specs.declared.reply.Who.{Who}
use Rattle.workload_spec.specs.declared.reply.Who.TheVariants.{Session, Worker}
use Rattle.workload_spec.specs.declared.reply.Said.{Said}
use Rattle.workload_spec.specs.declared.reply.Said.TheVariants as said
use Rattle.outcome_spec.specs.Entries.{Entry}
use Rattle.outcome_spec.specs.Forms.{Due, command_shown, entry_behind, further, is_silent, is_upkeep, is_seal_or_gather, is_worker, is_within, line_count, lines_begun, may_be_silent, next_line, reading, reply_at}
use Rattle.timeline_spec.specs.Forms.{IsObserveReply, IsPruneReply, IsReplyWithin, IsReplyWithout}
use Rattle.timeline_spec.specs.Printed.{printed_from}
use Rattle.timeline_laws.proofs.Lines.{IsRead, IsSaid, is_said, dropped, ended, first_line, lines_from, lines-first, reply-read}
use Rattle.timeline_laws.proofs.Stated.{AreReplies, IsReply}
use Rattle.timeline_laws.proofs.ReadBack.{NamesPlain, reply-back}
use Rattle.timeline_laws.proofs.Turns.{IsStep, StepSaid, BeginSaid, Named, step-said, step-found, begin-found, any-found, step-not-session, step-not-begin, begin-not-step, step-is-step, session-not-step, step-is-said}

-- ---- ways of reading

-- a reading that comes to the end took the reply at the front, or passed over what is due
abbrev Reading : Type 0
Reading = Result (List Entry) ℕ

-- How a due is read: its reply is taken, or it is passed over if silent.
abbrev way : Bool → Option Entry → (Entry → Reading) → ℕ → Reading → Reading
way silent at next fail skip = elim silent as (λ b. Reading) [
  | true ↦ further (elim at as (λ o. Reading) [ Some entry ↦ next entry | None ↦ Err fail ]) skip
  | false ↦ elim at as (λ o. Reading) [ Some entry ↦ next entry | None ↦ Err fail ]
]

-- The further of two readings that comes to the end is one of the two.
further-either : (a b : Reading) (entries : List Entry) → further a b ≡ Ok entries → (a ≡ Ok entries) ⊎ (b ≡ Ok entries)
further-either (Ok x) b entries h = inl h
further-either (Err line) (Ok x) entries h = inr h
further-either (Err line) (Err other) entries h = absurd (let never : ⊥ = cc in never)

-- The further of a reading and one that comes to the end comes to the end.
further-some : (a : Reading) (entries : List Entry) → (found : List Entry) × (further a (Ok entries) ≡ Ok found)
further-some (Ok x) entries = (x, refl)
further-some (Err line) entries = (entries, refl)

-- A due whose reply is found, and is read on to the end, is so read.
way-taken : (silent : Bool) (at : Option Entry) (next : Entry → Reading) (fail : ℕ) (skip : Reading) (entry : Entry) (entries : List Entry) → at ≡ Some entry → next entry ≡ Ok entries
    → way silent at next fail skip ≡ Ok entries
way-taken true at next fail skip entry entries is h = rw (is, h) refl
way-taken false at next fail skip entry entries is h = rw (is, h) refl

-- A silent due that is passed over to the end is read to the end.
way-passed : (silent : Bool) (at : Option Entry) (next : Entry → Reading) (fail : ℕ) (skip : Reading) (entries : List Entry) → silent ≡ true → skip ≡ Ok entries
    → (found : List Entry) × (way silent at next fail skip ≡ Ok found)
way-passed true at next fail skip entries is h =
    let some = further-some (elim at as (λ o. Reading) [ Some entry ↦ next entry | None ↦ Err fail ]) entries in
    (some.0, ap (further (elim at as (λ o. Reading) [ Some entry ↦ next entry | None ↦ Err fail ])) h ∙ some.1)
way-passed false at next fail skip entries is h = absurd (let never : ⊥ = cc in never)

-- A due that is read to the end was taken, or was silent and passed over.
way-cases : (silent : Bool) (at : Option Entry) (next : Entry → Reading) (fail : ℕ) (skip : Reading) (entries : List Entry) → way silent at next fail skip ≡ Ok entries
    → ((entry : Entry) × (at ≡ Some entry) × (next entry ≡ Ok entries)) ⊎ ((silent ≡ true) × (skip ≡ Ok entries))
way-cases true (Some entry) next fail skip entries h = elim (further-either (next entry) skip entries h) [ inl taken ↦ inl (entry, refl, taken) | inr passed ↦ inr (refl, passed) ]
way-cases true None next fail skip entries h = elim (further-either (Err fail) skip entries h) [ inl taken ↦ absurd (let never : ⊥ = cc in never) | inr passed ↦ inr (refl, passed) ]
way-cases false (Some entry) next fail skip entries h = inl (entry, refl, h)
way-cases false None next fail skip entries h = absurd (let never : ⊥ = cc in never)

-- A reading that comes to the end with these replies.
abbrev finished : List Entry → Reading
finished entries = Ok entries

-- Two readings that come to the end are equal only with equal replies.
same-ok : (a b : List Entry) → finished a ≡ finished b → a ≡ b
same-ok a b e = cc

-- A reading that ends by a test, and comes to the end, gives the replies so far.
end-chosen : (b : Bool) (earlier entries : List Entry) (line : ℕ) → cond {A = Reading} b (Ok earlier) (Err line) ≡ Ok entries → entries ≡ earlier
end-chosen true earlier entries line h = sym (same-ok earlier entries h)
end-chosen false earlier entries line h = absurd (let never : ⊥ = cc in never)

-- what is due is a session's, or begins a turn: it has a line
abbrev pub IsFixed : Due → Type 0
IsFixed due = ((session : ℕ) × (due.who ≡ Session session)) ⊎ ((worker : ℕ) × (due.who ≡ Worker worker) × ((due.command ≡ command.Observe) ⊎ (due.command ≡ command.Prune)))

-- the steps of one worker's turn in a round
abbrev pub AllSteps : List TableDecl → ℕ → ℕ → List Due → Type 0
AllSteps tables round worker [] = Unit {0}
AllSteps tables round worker (due ∷ dues) = (due.round ≡ round) × (due.who ≡ Worker worker) × IsStep tables due.command × AllSteps tables round worker dues

-- Dues in pieces: one that has a line, or the steps of a turn.
abbrev pub Pieces : Type 0
Pieces = List (Due ⊎ List Due)

-- what is due in all pieces, in their order
abbrev pub dues_in_pieces : Pieces → List Due
dues_in_pieces [] = []
dues_in_pieces (inl due ∷ pieces) = due ∷ dues_in_pieces pieces
dues_in_pieces (inr steps ∷ pieces) = steps ++ dues_in_pieces pieces

-- no steps stand in front
abbrev pub BeginsFixed : Pieces → Type 0
BeginsFixed [] = Unit {0}
BeginsFixed (inl due ∷ pieces) = Unit {0}
BeginsFixed (inr steps ∷ pieces) = ⊥

-- each piece is one that has a line or the steps of one turn, and no two pieces of steps meet
abbrev pub AreFormed : List TableDecl → Pieces → Type 0
AreFormed tables [] = Unit {0}
AreFormed tables (inl due ∷ pieces) = IsFixed due × AreFormed tables pieces
AreFormed tables (inr steps ∷ pieces) = ((round : ℕ) × (worker : ℕ) × AllSteps tables round worker steps) × BeginsFixed pieces × AreFormed tables pieces

-- What is due with a line of its own may not be silent.
fixed-speaks : (due : Due) → IsFixed due → may_be_silent due ≡ true → ⊥
fixed-speaks due (inl h) silent =
    let never : true ≡ false = sym silent ∙ ap (λ (w : Who). is_worker w && is_seal_or_gather due.command) h.1 in
    (let impossible : ⊥ = cc in impossible)
fixed-speaks due (inr (worker, is_who, inl is)) silent =
    let never : true ≡ false = sym silent ∙ ap (λ (w : Who). is_worker w && is_seal_or_gather due.command) is_who ∙ ap is_seal_or_gather is in
    (let impossible : ⊥ = cc in impossible)
fixed-speaks due (inr (worker, is_who, inr is)) silent =
    let never : true ≡ false = sym silent ∙ ap (λ (w : Who). is_worker w && is_seal_or_gather due.command) is_who ∙ ap is_seal_or_gather is in
    (let impossible : ⊥ = cc in impossible)

module _ (tables : List TableDecl) (names : NamesPlain tables) (named : Named tables) where
  -- the lines of the replies to what is due
  abbrev lines_due : List Entry → List Due → List (Option Said) → List (List ℕ)
  lines_due earlier dues answers = lines_from tables (printed_from tables earlier dues answers)

  -- The lines of the replies to what is due are read as these replies.
  abbrev IsReadAs : List Entry → List Due → List (Option Said) → Type 0
  IsReadAs earlier dues answers = reading tables dues earlier (lines_due earlier dues answers) ≡ Ok (earlier ++ printed_from tables earlier dues answers)

  -- A due that is read took the reply at the front, or was passed over.
  read-cases : (due : Due) (dues : List Due) (earlier : List Entry) (line : List ℕ) (behind : List (List ℕ)) (entries : List Entry) → reading tables (due ∷ dues) earlier (line ∷ behind) ≡ Ok entries
      → ((entry : Entry) × (reply_at tables earlier due line behind ≡ Some entry) × (reading tables dues (earlier ++ entry ∷ []) (drop (line_count tables entry) (line ∷ behind)) ≡ Ok entries))
      ⊎ ((may_be_silent due ≡ true) × (reading tables dues earlier (line ∷ behind) ≡ Ok entries))
  read-cases due dues earlier line behind entries h =
      way-cases (may_be_silent due) (reply_at tables earlier due line behind) (λ entry. reading tables dues (earlier ++ entry ∷ []) (drop (line_count tables entry) (line ∷ behind)))
      (next_line tables earlier + lines_begun tables earlier due line behind) (reading tables dues earlier (line ∷ behind)) entries h

  -- Where no lines are left, only the replies so far are read.
  end-read : (dues : List Due) (earlier entries : List Entry) → reading tables dues earlier [] ≡ Ok entries → entries ≡ earlier
  end-read [] earlier entries h = sym (same-ok earlier entries h)
  end-read (due ∷ dues) earlier entries h = end-chosen (list_all may_be_silent (due ∷ dues)) earlier entries (next_line tables earlier) h

  -- one that may be silent is passed over
  some-way : (due : Due) (dues : List Due) (earlier : List Entry) (lines : List (List ℕ)) (entries : List Entry) → may_be_silent due ≡ true → reading tables dues earlier lines ≡ Ok entries
      → (found : List Entry) × (reading tables (due ∷ dues) earlier lines ≡ Ok found)
  some-way due [] earlier [] entries silent h = (earlier, rw silent refl)
  some-way due (next ∷ dues) earlier [] entries silent h = (entries, rw silent h)
  some-way due dues earlier (line ∷ behind) entries silent h =
      way-passed (may_be_silent due) (reply_at tables earlier due line behind) (λ entry. reading tables dues (earlier ++ entry ∷ []) (drop (line_count tables entry) (line ∷ behind)))
      (next_line tables earlier + lines_begun tables earlier due line behind) (reading tables dues earlier (line ∷ behind)) entries silent h

  -- an answered one takes its lines
  take-read : (due : Due) (dues : List Due) (earlier : List Entry) (told : Said) (answers : List (Option Said)) → is_said due told ≡ true → IsRead tables (is_within due.who earlier) due.command told
      → IsReadAs (earlier ++ entry_behind tables earlier due told ∷ []) dues answers → IsReadAs earlier (due ∷ dues) (Some told ∷ answers)
  take-read due dues earlier told answers kept read rest =
      let entry = entry_behind tables earlier due told in
      let others = printed_from tables (earlier ++ entry ∷ []) dues answers in
      let line = first_line tables entry.reply ++ 10 ∷ [] in
      let behind = ended (lines_behind told) ++ lines_from tables others in
      ap (reading tables (due ∷ dues) earlier) (lines-first tables entry others read.is_said)
      ∙ way-taken (may_be_silent due) (reply_at tables earlier due line behind) (λ e. reading tables dues (earlier ++ e ∷ []) (drop (line_count tables e) (line ∷ behind)))
      (next_line tables earlier + lines_begun tables earlier due line behind) (reading tables dues earlier (line ∷ behind)) entry (earlier ++ entry ∷ others)
      (reply-read tables earlier due told (lines_from tables others) kept read)
      (ap (reading tables dues (earlier ++ entry ∷ [])) (dropped (reply_lines tables entry.reply) (lines_from tables others)) ∙ rest ∙ ap Ok (append_assoc earlier (entry ∷ []) others))

  -- ---- steps

  -- Each step of a turn is one of upkeep.
  step-upkeep : (asked : Command) → IsStep tables asked → is_upkeep asked ≡ true
  step-upkeep (command.Compact table) is = refl
  step-upkeep (command.Seal table block) is = refl
  step-upkeep (command.Gather table block) is = refl
  step-upkeep _ is = absurd is

  -- A reply to upkeep is one that may stand in a transaction.
  upkeep-within : (within : Bool) (asked : Command) (told : Said) → is_upkeep asked ≡ true → IsReply within asked told → IsReplyWithin asked told
  upkeep-within true asked told up h = h
  upkeep-within false asked told up h = subst (λ (b : Bool). elim b as (λ x. Type 0) [ true ↦ IsReplyWithin asked told | false ↦ IsReplyWithout asked told ]) up h

  -- What a worker's line says is not silent.
  not-silent : (due : Due) (worker : ℕ) (told : Said) (silent : Bool) → due.who ≡ Worker worker → is_silent told ≡ silent → is_said due told ≡ true → is_silent told ≡ false
  not-silent due worker told true is silent kept =
      let never : false ≡ true = sym (ap (λ (w : Who). not (is_worker w && is_silent told)) is ∙ ap not silent) ∙ kept in
      absurd (let impossible : ⊥ = cc in impossible)
  not-silent due worker told false is silent kept = silent

  -- What answers a worker's step in a line is what a step may say.
  answered-step : (due : Due) (worker : ℕ) (earlier : List Entry) (told : Said) → due.who ≡ Worker worker → IsStep tables due.command → is_said due told ≡ true → IsReply (is_within due.who earlier) due.command told → StepSaid tables told
  answered-step due worker earlier told is step kept h =
      step-said tables due.command step told (upkeep-within (is_within due.who earlier) due.command told (step-upkeep due.command step) h) (not-silent due worker told (is_silent told) is refl kept)

  -- the same thing said at another step is the same reply
  abbrev made : List Entry → ℕ → Who → Command → Said → Entry
  made earlier round who asked told = entry_behind tables earlier (record { round = round; who = who; command = asked }) told

  -- A worker's reply shows the first command of a turn.
  shown-first : (due : Due) (worker : ℕ) → due.who ≡ Worker worker → command_shown due ≡ command.Observe
  shown-first due worker is = ap (λ (w : Who). cond (is_worker w) command.Observe due.command) is

  -- Two steps of one worker and round that tell the same have one reply.
  same-entry : (earlier : List Entry) (a b : Due) (round worker : ℕ) (told other : Said) → a.round ≡ round → b.round ≡ round → a.who ≡ Worker worker → b.who ≡ Worker worker → told ≡ other
      → entry_behind tables earlier a told ≡ entry_behind tables earlier b other
  same-entry earlier a b round worker told other round_a round_b who_a who_b same = to-first a round_a who_a told ∙ ap (made earlier round (Worker worker) command.Observe) same ∙ sym (to-first b round_b who_b other)
    where
      to-first : (due : Due) → due.round ≡ round → due.who ≡ Worker worker → (s : Said) → entry_behind tables earlier due s ≡ made earlier round (Worker worker) command.Observe s
      to-first due is_round is_who s =
          ap (λ (asked : Command). record (entry_behind tables earlier due s) { command = asked }) (shown-first due worker is_who)
          ∙ ap (λ (r : ℕ). record (made earlier r due.who command.Observe s) { command = command.Observe }) is_round
          ∙ ap (λ (w : Who). record (made earlier round w command.Observe s) { command = command.Observe }) is_who

  -- ---- two readings of one worker's steps

  module _ (pieces : Pieces) (formed : AreFormed tables pieces) (begins : BeginsFixed pieces)
      (tail_read : (earlier : List Entry) (answers : List (Option Said)) → AreReplies tables earlier (dues_in_pieces pieces) answers → IsReadAs earlier (dues_in_pieces pieces) answers)
      (round worker : ℕ) where
    abbrev tail : List Due
    tail = dues_in_pieces pieces

    -- the reading of these steps before the tail, of the lines of other steps of the turn, gives
    -- those
    abbrev Agrees : List Due → Type 0
    Agrees steps = (earlier : List Entry) (others : List Due) → AllSteps tables round worker others → (answers : List (Option Said)) → AreReplies tables earlier (others ++ tail) answers
        → (entries : List Entry) → reading tables (steps ++ tail) earlier (lines_due earlier (others ++ tail) answers) ≡ Ok entries → entries ≡ earlier ++ printed_from tables earlier (others ++ tail) answers

    abbrev behind_first : Entry → List Entry → List (List ℕ)
    behind_first entry others = ended (lines_behind entry.reply.said) ++ lines_from tables others

    -- the line of a step is not one of the tail
    tail-not-step : (ps : Pieces) → AreFormed tables ps → BeginsFixed ps → (earlier : List Entry) (entry : Entry) (behind : List (List ℕ)) → entry.reply.who ≡ Worker worker → StepSaid tables entry.reply.said → (entries : List Entry)
        → reading tables (dues_in_pieces ps) earlier ((first_line tables entry.reply ++ 10 ∷ []) ∷ behind) ≡ Ok entries → ⊥
    tail-not-step [] f b earlier entry behind is step entries read = (let never : ⊥ = cc in never)
    tail-not-step (inl head ∷ ps) f b earlier entry behind is step entries read =
        elim (read-cases head (dues_in_pieces ps) earlier (first_line tables entry.reply ++ 10 ∷ []) behind entries read) [
          | inl taken ↦ head-not-step head f.0 earlier entry behind is step taken.0 taken.1
          | inr passed ↦ fixed-speaks head f.0 passed.0
        ]
      where
        head-not-step : (head : Due) → IsFixed head → (earlier : List Entry) (entry : Entry) (behind : List (List ℕ)) → entry.reply.who ≡ Worker worker → StepSaid tables entry.reply.said → (found : Entry)
            → reply_at tables earlier head (first_line tables entry.reply ++ 10 ∷ []) behind ≡ Some found → ⊥
        head-not-step head (inl fixed) earlier entry behind is step found at =
            let f = any-found tables earlier head (first_line tables entry.reply ++ 10 ∷ []) behind found at in
            session-not-step tables names (entry_behind tables earlier head f.told) entry.reply behind fixed.0 worker fixed.1 is f.passes
        head-not-step head (inr fixed) earlier entry behind is step found at =
            let f = begin-found tables earlier head fixed.0 fixed.1 fixed.2 (first_line tables entry.reply ++ 10 ∷ []) behind found at in
            begin-not-step tables names (entry_behind tables earlier head f.told) entry.reply behind f.of step f.passes
    tail-not-step (inr steps ∷ ps) f b earlier entry behind is step entries read = b

    agree-none : Agrees []
    agree-none earlier [] alls answers h entries read = same-ok entries (earlier ++ printed_from tables earlier tail answers) (sym read ∙ tail_read earlier answers h)
    agree-none earlier (other ∷ others) alls [] h entries read = absurd h
    agree-none earlier (other ∷ others) alls (None ∷ answers) h entries read = agree-none earlier others alls.3 answers h.1 entries read
    agree-none earlier (other ∷ others) alls (Some told ∷ answers) h entries read =
        let entry = entry_behind tables earlier other told in
        let rest = printed_from tables (earlier ++ entry ∷ []) (others ++ tail) answers in
        let step = answered-step other worker earlier told alls.1 alls.2 h.0 h.1 in
        absurd (tail-not-step pieces formed begins earlier entry (behind_first entry rest) alls.1 step entries
        (subst (λ (lines : List (List ℕ)). reading tables tail earlier lines ≡ Ok entries) (lines-first tables entry rest (step-is-said tables names told step)) read))

    -- the tail's first reply, if there is one, is not a step's
    abbrev Foreign : Due → Said → Type 0
    Foreign head told = ((session : ℕ) × (head.who ≡ Session session) × IsSaid tables told) ⊎ BeginSaid told

    abbrev TailLines : List Entry → List (Option Said) → Type 0
    TailLines earlier answers =
        (printed_from tables earlier tail answers ≡ [])
        ⊎ ((head : Due) × (told : Said) × (others : List Entry) × (printed_from tables earlier tail answers ≡ entry_behind tables earlier head told ∷ others) × IsSaid tables told × Foreign head told)

    -- a step's reply that is taken for another step's is that one
    agree-taken : (due : Due) (steps : List Due) → due.round ≡ round → due.who ≡ Worker worker → IsStep tables due.command → (earlier : List Entry) (other : Due) → other.round ≡ round → other.who ≡ Worker worker
        → (told : Said) → StepSaid tables told → (rest entries : List Entry) (found : Entry)
        → reply_at tables earlier due (first_line tables (entry_behind tables earlier other told).reply ++ 10 ∷ []) (behind_first (entry_behind tables earlier other told) rest) ≡ Some found
        → reading tables (steps ++ tail) (earlier ++ found ∷ [])
        (drop (line_count tables found) ((first_line tables (entry_behind tables earlier other told).reply ++ 10 ∷ []) ∷ behind_first (entry_behind tables earlier other told) rest)) ≡ Ok entries
        → reading tables (steps ++ tail) (earlier ++ entry_behind tables earlier other told ∷ []) (lines_from tables rest) ≡ Ok entries
    agree-taken due steps is_round is_who is earlier other other_round other_who told step rest entries found at next =
        let entry = entry_behind tables earlier other told in
        let line = first_line tables entry.reply ++ 10 ∷ [] in
        let behind = behind_first entry rest in
        let f = step-found tables earlier due worker is_who is line behind found at in
        let says : f.told ≡ told = step-is-step tables names named (entry_behind tables earlier due f.told) entry.reply behind f.of step f.passes in
        let same : found ≡ entry = sym f.is ∙ same-entry earlier due other round worker f.told told is_round other_round is_who other_who says in
        let goes : reading tables (steps ++ tail) (earlier ++ entry ∷ []) (drop (line_count tables entry) (line ∷ behind)) ≡ Ok entries =
        subst (λ (e : Entry). reading tables (steps ++ tail) (earlier ++ e ∷ []) (drop (line_count tables e) (line ∷ behind)) ≡ Ok entries) same next in
        sym (ap (reading tables (steps ++ tail) (earlier ++ entry ∷ [])) (dropped (reply_lines tables entry.reply) (lines_from tables rest))) ∙ goes

    agree-step : (due : Due) (steps : List Due) → due.round ≡ round → due.who ≡ Worker worker → IsStep tables due.command
        → ((earlier : List Entry) (answers : List (Option Said)) → AreReplies tables earlier tail answers → TailLines earlier answers) → Agrees steps → Agrees (due ∷ steps)
    agree-step due steps is_round is_who is tails ih earlier [] alls answers h entries read =
        elim (tails earlier answers h) [
          | inl none ↦ end-read (due ∷ (steps ++ tail)) earlier entries (subst (λ (es : List Entry). reading tables (due ∷ (steps ++ tail)) earlier (lines_from tables es) ≡ Ok entries) none read)
              ∙ sym (append-nil earlier) ∙ ap (λ (es : List Entry). earlier ++ es) (sym none)
          | inr first ↦ behind-first first.0 first.1 first.2 first.3 first.4 first.5
        ]
      where
        behind-first : (head : Due) (told : Said) (others : List Entry) → printed_from tables earlier tail answers ≡ entry_behind tables earlier head told ∷ others → IsSaid tables told → Foreign head told
            → entries ≡ earlier ++ printed_from tables earlier tail answers
        behind-first head told others is_first is_words foreign =
            let first = entry_behind tables earlier head told in
            let line = first_line tables first.reply ++ 10 ∷ [] in
            let behind = behind_first first others in
            let lines : lines_due earlier tail answers ≡ line ∷ behind = ap (lines_from tables) is_first ∙ lines-first tables first others is_words in
            elim (read-cases due (steps ++ tail) earlier line behind entries (subst (λ (ls : List (List ℕ)). reading tables (due ∷ (steps ++ tail)) earlier ls ≡ Ok entries) lines read)) [
              | inl taken ↦ absurd (not-taken head told foreign behind taken.0 taken.1)
              | inr passed ↦ ih earlier [] tt answers h entries (subst (λ (ls : List (List ℕ)). reading tables (steps ++ tail) earlier ls ≡ Ok entries) (sym lines) passed.1)
            ]
          where
            not-taken : (head : Due) (told : Said) → Foreign head told → (behind : List (List ℕ)) (found : Entry)
                → reply_at tables earlier due (first_line tables (entry_behind tables earlier head told).reply ++ 10 ∷ []) behind ≡ Some found → ⊥
            not-taken head told (inl session) behind found at =
                let reply = (entry_behind tables earlier head told).reply in
                let f = step-found tables earlier due worker is_who is (first_line tables reply ++ 10 ∷ []) behind found at in
                step-not-session tables names (entry_behind tables earlier due f.told) reply behind session.0 worker is_who session.1 f.of session.2 f.passes
            not-taken head told (inr begin) behind found at =
                let reply = (entry_behind tables earlier head told).reply in
                let f = step-found tables earlier due worker is_who is (first_line tables reply ++ 10 ∷ []) behind found at in
                step-not-begin tables names (entry_behind tables earlier due f.told) reply behind f.of begin f.passes
    agree-step due steps is_round is_who is tails ih earlier (other ∷ others) alls [] h entries read = absurd h
    agree-step due steps is_round is_who is tails ih earlier (other ∷ others) alls (None ∷ answers) h entries read =
        agree-step due steps is_round is_who is tails ih earlier others alls.3 answers h.1 entries read
    agree-step due steps is_round is_who is tails ih earlier (other ∷ others) alls (Some told ∷ answers) h entries read =
        let entry = entry_behind tables earlier other told in
        let rest = printed_from tables (earlier ++ entry ∷ []) (others ++ tail) answers in
        let step = answered-step other worker earlier told alls.1 alls.2 h.0 h.1 in
        let lines = lines-first tables entry rest (step-is-said tables names told step) in
        elim (read-cases due (steps ++ tail) earlier (first_line tables entry.reply ++ 10 ∷ []) (behind_first entry rest) entries
        (subst (λ (ls : List (List ℕ)). reading tables (due ∷ (steps ++ tail)) earlier ls ≡ Ok entries) lines read)) [
          | inl found ↦ ih (earlier ++ entry ∷ []) others alls.3 answers h.3 entries (agree-taken due steps is_round is_who is earlier other alls.0 alls.1 told step rest entries found.0 found.1 found.2)
              ∙ append_assoc earlier (entry ∷ []) rest
          | inr passed ↦ ih earlier (other ∷ others) alls (Some told ∷ answers) h entries (subst (λ (ls : List (List ℕ)). reading tables (steps ++ tail) earlier ls ≡ Ok entries) (sym lines) passed.1)
        ]

    agrees : ((earlier : List Entry) (answers : List (Option Said)) → AreReplies tables earlier tail answers → TailLines earlier answers) → (steps : List Due) → AllSteps tables round worker steps → Agrees steps
    agrees tails [] alls = agree-none
    agrees tails (due ∷ steps) alls = agree-step due steps alls.0 alls.1 alls.2 tails (agrees tails steps alls.3)

    -- the lines of steps, and those of the tail
    steps-read : ((earlier : List Entry) (answers : List (Option Said)) → AreReplies tables earlier tail answers → TailLines earlier answers) → (steps : List Due) → AllSteps tables round worker steps
        → (earlier : List Entry) (answers : List (Option Said)) → AreReplies tables earlier (steps ++ tail) answers → IsReadAs earlier (steps ++ tail) answers
    steps-read tails [] alls earlier answers h = tail_read earlier answers h
    steps-read tails (due ∷ steps) alls earlier [] h = absurd h
    steps-read tails (due ∷ steps) alls earlier (None ∷ answers) h =
        let some = some-way due (steps ++ tail) earlier (lines_due earlier (steps ++ tail) answers) (earlier ++ printed_from tables earlier (steps ++ tail) answers) h.0 (steps-read tails steps alls.3 earlier answers h.1) in
        some.1 ∙ ap Ok (agrees tails (due ∷ steps) alls earlier steps alls.3 answers h.1 some.0 some.1)
    steps-read tails (due ∷ steps) alls earlier (Some told ∷ answers) h =
        take-read due (steps ++ tail) earlier told answers h.0 (reply-back tables names (is_within due.who earlier) due.command told h.1 h.2)
        (steps-read tails steps alls.3 (earlier ++ entry_behind tables earlier due told ∷ []) answers h.3)

  -- ---- all that is due

  -- What answers an observe is what begins a turn.
  begin-observe : (told : Said) → IsObserveReply told → BeginSaid told
  begin-observe (said.Cooling n) h = tt
  begin-observe _ h = absurd h

  -- What answers a pruning is what begins a turn.
  begin-prune : (told : Said) → IsPruneReply told → BeginSaid told
  begin-prune (said.Pruned n) h = tt
  begin-prune _ h = absurd h

  -- What answers either command that begins a turn is what begins one.
  begins-turn : (asked : Command) (told : Said) (within : Bool) → (asked ≡ command.Observe) ⊎ (asked ≡ command.Prune) → IsReply within asked told → BeginSaid told
  begins-turn asked told within (inl is) h = begin-observe told (upkeep-within within command.Observe told refl (subst (λ (c : Command). IsReply within c told) is h))
  begins-turn asked told within (inr is) h = begin-prune told (upkeep-within within command.Prune told refl (subst (λ (c : Command). IsReply within c told) is h))

  -- The first reply to pieces without steps in front, if any, is no step's.
  tail-lines : (ps : Pieces) (f : AreFormed tables ps) (b : BeginsFixed ps) (earlier : List Entry) (answers : List (Option Said)) → AreReplies tables earlier (dues_in_pieces ps) answers
      → (printed_from tables earlier (dues_in_pieces ps) answers ≡ [])
      ⊎ ((head : Due) × (told : Said) × (others : List Entry) × (printed_from tables earlier (dues_in_pieces ps) answers ≡ entry_behind tables earlier head told ∷ others) × IsSaid tables told
      × (((session : ℕ) × (head.who ≡ Session session) × IsSaid tables told) ⊎ BeginSaid told))
  tail-lines [] f b earlier [] h = inl refl
  tail-lines [] f b earlier (told ∷ answers) h = absurd h
  tail-lines (inl head ∷ ps) f b earlier [] h = absurd h
  tail-lines (inl head ∷ ps) f b earlier (None ∷ answers) h = absurd (fixed-speaks head f.0 h.0)
  tail-lines (inl head ∷ ps) f b earlier (Some told ∷ answers) h =
      let words = (reply-back tables names (is_within head.who earlier) head.command told h.1 h.2).is_said in
      inr (
        head,
        told,
        printed_from tables (earlier ++ entry_behind tables earlier head told ∷ []) (dues_in_pieces ps) answers,
        refl,
        words,
        elim f.0 [
          | inl session ↦ inl (session.0, session.1, words)
          | inr turn ↦ inr (begins-turn head.command told (is_within head.who earlier) turn.2 h.1)
        ],
      )
  tail-lines (inr steps ∷ ps) f b earlier answers h = absurd b

  -- The text of printed replies is read as these replies.
  pub pieces-read : (ps : Pieces) → AreFormed tables ps → (earlier : List Entry) (answers : List (Option Said)) → AreReplies tables earlier (dues_in_pieces ps) answers → IsReadAs earlier (dues_in_pieces ps) answers
  pieces-read [] f earlier [] h = ap Ok (sym (append-nil earlier))
  pieces-read [] f earlier (told ∷ answers) h = absurd h
  pieces-read (inl due ∷ ps) f earlier [] h = absurd h
  pieces-read (inl due ∷ ps) f earlier (None ∷ answers) h = absurd (fixed-speaks due f.0 h.0)
  pieces-read (inl due ∷ ps) f earlier (Some told ∷ answers) h =
      take-read due (dues_in_pieces ps) earlier told answers h.0 (reply-back tables names (is_within due.who earlier) due.command told h.1 h.2)
      (pieces-read ps f.1 (earlier ++ entry_behind tables earlier due told ∷ []) answers h.3)
  pieces-read (inr steps ∷ ps) f earlier answers h =
      steps-read ps f.2 f.1 (pieces-read ps f.2) f.0.0 f.0.1 (tail-lines ps f.2 f.1) steps f.0.2 earlier answers h
