-- The lines of upkeep, command by command.
use Rattle.std.proofs.Common.{◌≡◌, ℕ, Bool, true, false, cond, ◌==◌, List, [], ◌∷◌, ◌++◌, Option, None, Some, refl, sym, ap, ◌∙◌, subst}
use mathlib.Core.Logic.{inl, inr}
use Rattle.block_spec.specs.declared.phase.Phase.{Phase}
use Rattle.block_spec.specs.declared.phase.Phase.TheVariants.{Loose, Sealed, Imaged}
use Rattle.block_spec.specs.declared.phase.SealFault.{SealFault}
use Rattle.block_spec.specs.Bodies.{Body, seal_fault}
use Rattle.event_spec.specs.declared.event.Event.TheVariants as event
use Rattle.event_spec.specs.declared.own.OwnTransaction.{OwnTransaction}
use Rattle.event_spec.specs.declared.reply.Reply.TheVariants as reply
use Rattle.event_spec.specs.Effects.{CoreEvent}
use Rattle.isolation_spec.specs.Reads.{ReadSet}
use Rattle.event_spec.specs.Parts.{Parts, Shape, body_at, is_head}
use Rattle.event_spec.specs.Replies.{CoreReply, reply_to, reply_to_image, reply_to_seal}
use Rattle.outcome_spec.specs.Forms.{is_silent, is_upkeep}
use Rattle.timeline_spec.specs.Timeline.{is_of_upkeep}
use Rattle.workload_spec.specs.declared.command.Command.{Command}
use Rattle.workload_spec.specs.declared.command.Command.TheVariants as command
use Rattle.workload_spec.specs.declared.reply.Said.{Said}
use Rattle.workload_spec.specs.declared.reply.Said.TheVariants as said
use Rattle.run_spec.specs.Calls.{IsCallBy, line_to}
use Rattle.run_spec.specs.Occurrences.{Occurrence, events_in, replies_in}
use Rattle.run_spec.specs.Opened.{own_after}
use Rattle.run_spec.specs.Told.{last_told, line_of, refusal_of, told_by}
use Rattle.run_spec.specs.Calls.{Call}
use Rattle.run_spec.specs.Occurrences.{under}
use Rattle.run_spec.specs.Ran.{session_of, shape_of}
use Rattle.event_spec.specs.Replay.{after}
use Rattle.std.specs.List.{flat_map}
use Rattle.run_laws.specs.Calls.Upkeep.{AreAllReplied, AreReplied, LogsAreReplied, SharesAreReplied, UpkeepIsToldSo}

-- False is not the same as true.
not_true : false ≡ true → ⊥
not_true e = cc

-- Nothing is not a line.
none_some : (line : Said) → None ≡ Some line → ⊥
none_some line e = cc

-- What two equal options hold is the same line.
same_line : (a b : Said) → Some a ≡ Some b → a ≡ b
same_line a b e = cc

-- a line that is meant, and is one of upkeep
meant : (here line : Said) → is_of_upkeep here ≡ true → Some here ≡ Some line → is_of_upkeep line ≡ true
meant here line is e = subst (λ (x : Said). is_of_upkeep x ≡ true) (same_line here line e) is

-- a worker's line is its command's
line_is : (worker : Bool) (told : Option Said) (line : Said) → line_to worker told ≡ Some line → told ≡ Some line
line_is false told line e = e
line_is true None line e = e
line_is true (Some here) line e = go (is_silent here) e
  where
    go : (silent : Bool) → cond silent None (Some here) ≡ Some line → Some here ≡ Some line
    go true e = absurd (none_some line e)
    go false e = e

-- The line of a reply to a seal, if there is one, is one of upkeep.
sealed_line : (table block : ℕ) (because : Option SealFault) (last : ℕ) (line : Said)
    → told_by table block (reply_to_seal because last) ≡ Some line → is_of_upkeep line ≡ true
sealed_line table block None last line e = meant (said.Sealed table block _) line refl e
sealed_line table block (Some because) last line e = meant (said.NotSealed _) line refl e

-- The line of a reply to an image, if there is one, is one of upkeep.
imaged_line : (table block : ℕ) (phase : Phase) (body : Body) (line : Said)
    → told_by table block (reply_to_image phase body) ≡ Some line → is_of_upkeep line ≡ true
imaged_line table block Loose body line e = meant said.NotFrozen line refl e
imaged_line table block (Sealed stamp) body line e = meant (said.Frozen table block _) line refl e
imaged_line table block (Imaged stamp) body line e = meant said.NotFrozen line refl e

-- an event that was refused memory or replied
replied_line : (shape : Shape) (parts : Parts) (table block : ℕ) (e : CoreEvent) (refused : Bool) (told : CoreReply) (line : Said)
    → told ≡ cond refused reply.Memory (reply_to shape parts e)
    → (told_by table block (reply_to shape parts e) ≡ Some line → is_of_upkeep line ≡ true)
    → told_by table block told ≡ Some line → is_of_upkeep line ≡ true
replied_line shape parts table block e true told line is granted says =
    meant said.Memory line refl (sym (ap (told_by table block) is) ∙ says)
replied_line shape parts table block e false told line is granted says =
    granted (sym (ap (told_by table block) is) ∙ says)

-- An empty list does not begin with an event.
no_first : (e : CoreEvent) (es : List CoreEvent) → [] ≡ e ∷ es → ⊥
no_first e es h = cc

-- Lists of events that are one begin with the same event.
heads : (a b : CoreEvent) (xs ys : List CoreEvent) → a ∷ xs ≡ b ∷ ys → a ≡ b
heads a b xs ys e = cc

-- A list of two events or more is none of one.
no_more : (a b c : CoreEvent) (xs : List CoreEvent) → a ∷ c ∷ xs ≡ b ∷ [] → ⊥
no_more a b c xs e = cc

-- a command of one event
one_line : (shape : Shape) (table block : ℕ) (e : CoreEvent) (made : List Occurrence) (line : Said)
    → events_in made ≡ e ∷ [] → AreReplied shape made
    → ((parts : Parts) → told_by table block (reply_to shape parts e) ≡ Some line → is_of_upkeep line ≡ true)
    → last_told table block (replies_in made) ≡ Some line → is_of_upkeep line ≡ true
one_line shape table block e [] line events replied granted says = absurd (no_first e [] events)
one_line shape table block e (x ∷ []) line events replied granted says = replied_line
    shape
    x.before
    table
    block
    e
    replied.0.0
    x.reply
    line
    (replied.0.1 ∙ ap (λ (e : CoreEvent). cond replied.0.0 reply.Memory (reply_to shape x.before e)) (heads x.event e [] [] events))
    (granted x.before)
    says
one_line shape table block e (x ∷ y ∷ rest) line events replied granted says =
    absurd (no_more x.event e y.event (events_in rest) events)

module _ (shape : Shape) (worker : Bool) (session : ℕ) (own : Option OwnTransaction) (made : List Occurrence)
    (told : Option Said) (handed : Option ReadSet) (line : Said) (replied : AreReplied shape made) (tells : told ≡ Some line) where
  -- Where memory was wanting, the line that is told is one of upkeep.
  cut : told ≡ Some said.Memory → is_of_upkeep line ≡ true
  cut says = meant said.Memory line refl (sym says ∙ tells)

  -- What is meant for one's line is the line that is told.
  says : (meant' : Option Said) → told ≡ line_to worker meant' → meant' ≡ Some line
  says meant' is = line_is worker meant' line (sym is ∙ tells)

  -- The line of each command of upkeep, refused, whole or in part, is one of upkeep.
  told_so : (asked : Command) → is_upkeep asked ≡ true
      → IsCallBy shape worker session own (refusal_of asked own) (record { command = asked; made = made; told = told; reads = handed })
      → is_of_upkeep line ≡ true
  told_so (command.Begin checked) is h = absurd (not_true is)
  told_so (command.Get table key) is h = absurd (not_true is)
  told_so (command.Scan table) is h = absurd (not_true is)
  told_so (command.Range table low high) is h = absurd (not_true is)
  told_so (command.Total table column low high) is h = absurd (not_true is)
  told_so (command.Insert table row) is h = absurd (not_true is)
  told_so (command.Update table row) is h = absurd (not_true is)
  told_so (command.Delete table key) is h = absurd (not_true is)
  told_so command.Commit is h = absurd (not_true is)
  told_so command.Abort is h = absurd (not_true is)
  told_so (command.Export table) is h = absurd (not_true is)
  told_so command.Observe is (inl w) =
      meant (said.Cooling _) line refl (says (line_of own command.Observe (replies_in made)) w.line)
  told_so command.Observe is (inr p) = cut p.line
  told_so command.Prune is (inl w) =
      meant (said.Pruned _) line refl (says (line_of own command.Prune (replies_in made)) w.line)
  told_so command.Prune is (inr p) = cut p.line
  told_so (command.Compact table) is (inl w) =
      meant (said.Moved _) line refl (says (line_of own (command.Compact table) (replies_in made)) w.line)
  told_so (command.Compact table) is (inr p) = cut p.line
  told_so (command.Seal table block) is (inl w) = one_line
      shape
      table
      block
      (event.Seal table block)
      made
      line
      w.events
      replied
      (λ parts. sealed_line
      table
      block
      (seal_fault (is_head shape parts table block) (body_at shape parts table block))
      (body_at shape parts table block).last
      line)
      (says (line_of own (command.Seal table block) (replies_in made)) w.line)
  told_so (command.Seal table block) is (inr p) = cut p.line
  told_so (command.Gather table block) is (inl w) = one_line
      shape
      table
      block
      (event.Image table block (Rattle.run_spec.specs.Asked.image_of shape table block made))
      made
      line
      w.events
      replied
      (λ parts. imaged_line
      table
      block
      (body_at shape parts table block).phase
      (body_at shape parts table block)
      line)
      (says (line_of own (command.Gather table block) (replies_in made)) w.line)
  told_so (command.Gather table block) is (inr p) = cut p.line

-- the line of an upkeep command is one of upkeep
pub upkeep_is_told_so : UpkeepIsToldSo
upkeep_is_told_so shape worker session front call line upkeep replied is tells =
    told_so shape worker session (own_after front) call.made call.told call.reads line replied tells call.command upkeep is

-- ---- replies of a log

-- the replies of a log are the replay's
pub logs_are_replied : LogsAreReplied
logs_are_replied shape parts [] = tt
logs_are_replied shape parts (entry ∷ log) =
    ((entry.made.refused, refl), logs_are_replied shape (after shape parts entry.made) log)

-- where the replies of events are the replay's, those under one session are
pub under_replied : (shape : Shape) (session : ℕ) (made : List Occurrence) → AreReplied shape made
    → AreReplied shape (under session made)
under_replied shape session [] replied = tt
under_replied shape session (first ∷ rest) replied =
    go (first.session == session) (under_replied shape session rest replied.1)
  where
    go : (b : Bool) → AreReplied shape (under session rest)
        → AreReplied shape (cond b (first ∷ under session rest) (under session rest))
    go true later = (replied.0, later)
    go false later = later

-- where the replies of events are the replay's, those of a front of them are
pub front_replied : (shape : Shape) (xs ys : List Occurrence) → AreReplied shape (xs ++ ys) → AreReplied shape xs
front_replied shape [] ys replied = tt
front_replied shape (x ∷ xs) ys replied = (replied.0, front_replied shape xs ys replied.1)

-- where the replies of events are the replay's, those of the rest of them are
pub rest_replied : (shape : Shape) (xs ys : List Occurrence) → AreReplied shape (xs ++ ys) → AreReplied shape ys
rest_replied shape [] ys replied = replied
rest_replied shape (x ∷ xs) ys replied = rest_replied shape xs ys replied.1

-- Where the replies of calls in a row are the replay's, so are those of each call.
calls_replied : (shape : Shape) (calls : List Call) → AreReplied shape (flat_map (λ (call : Call). call.made) calls)
    → AreAllReplied shape calls
calls_replied shape [] replied = tt
calls_replied shape (call ∷ calls) replied = (
  front_replied shape call.made (flat_map (λ (call : Call). call.made) calls) replied,
  calls_replied
      shape
      calls
      (rest_replied shape call.made (flat_map (λ (call : Call). call.made) calls) replied),
)

-- where the replies of a round are the replay's, those of each call of a share are
pub shares_are_replied : SharesAreReplied
shares_are_replied script front made share replied done = calls_replied
    (shape_of script)
    share.calls
    (subst
    (λ (events : List Occurrence). AreReplied (shape_of script) events)
    done.events
    (under_replied (shape_of script) (session_of script share.who) made replied))
