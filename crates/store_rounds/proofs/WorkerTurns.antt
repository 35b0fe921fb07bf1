-- A worker's turns of a round, turn by turn.
use Rattle.std.proofs.Common.{◌≡◌, ℕ, zero, suc, ◌+◌, ◌*◌, ◌<◌, ◌≤◌, ◌^◌, Bool, true, List, [], ◌∷◌, ◌++◌, map, length, Option, None, Some, Ok, Err, refl, sym, ap, ◌∙◌, subst, append-nil, append_assoc, arith, length-append}
use Rattle.std.specs.Prelude.{All, IfOk, OnOk, Result}
use Rattle.std.specs.Global.{Vec as GlobalVec}
use Rattle.std.specs.List.{cons_option, enumerate_from, flat_map, range_with_len}
use Rattle.std.proofs.lemmas.Grind.{flat_map-append}
use Rattle.std.proofs.lemmas.List.{length-map, map-append}
use Rattle.std.proofs.lemmas.List.Elements.{All-append, All-head, All-nil, All-tail, filter_map-append}
use Rattle.cell_model.specs.declared.table.TableDecl.{TableDecl}
use Rattle.event_spec.specs.Parts.{Shape}
use Rattle.outcome_spec.specs.Forms.{turn_of}
use Rattle.workload_spec.specs.ReplyText.{replies_text, reply_text}
use Rattle.workload_spec.specs.declared.command.Command.{Command}
use Rattle.workload_spec.specs.declared.command.Command.TheVariants as command
use Rattle.workload_spec.specs.declared.reply.ReplyLine.{ReplyLine}
use Rattle.workload_spec.specs.declared.reply.Said.{Said}
use Rattle.workload_spec.specs.declared.reply.Who.{Who}
use Rattle.workload_spec.specs.declared.reply.Who.TheVariants.{Worker as TheWorker}
use Rattle.run_spec.specs.Calls.{Call}
use Rattle.run_spec.specs.Handed.{Works}
use Rattle.run_spec.specs.Occurrences.{Logged}
use Rattle.run_laws.proofs.Rounds.Lines.{enumerate_append}
use Rattle.run_laws.proofs.Rounds.Working.{further, nothing_done, work_goes_on}
use Rattle.run_laws.specs.Rounds.Lines.{line_of, share_text, told_by}
use Rattle.run_laws.specs.Rounds.Texts.{IsCounted}
use Rattle.shared_store.specs.Store.{HasRoomFor, StoreView, seen, shape_in, reads_of}
use Rattle.store_rounds.specs.Sessions.{IsFreeSession}
use Rattle.shared_store.specs.declared.session.Session.{Session}
use Rattle.store_rounds.specs.Turns.{MadeTurn, most_of_turn}
use Rattle.store_rounds.specs.Crews.{turns_in}
use Rattle.store_rounds.specs.Turned.{PutTurn, TurnsMade, lines_behind}
use Rattle.store_rounds.specs.Worked.{Worked, asked_in, share_of}
use Rattle.store_rounds.specs.declared.fault.RunFault.{RunFault}
use Rattle.store_rounds.proofs.Ranges.{one_behind}
use Rattle.store_rounds.proofs.Keeps.{along_on}

-- ---- calls behind calls

-- what one did, and then saw without an event
works_rest : (shape : Shape) (worker : Bool) (session : ℕ) (began seen new : List Logged) (calls : List Call)
    → Works shape worker session began calls seen → Works shape worker session seen [] new
    → Works shape worker session began calls new
works_rest shape worker session began seen new [] works rest = (further began seen new works.0 rest.0, rest.1 ∙ works.1)
works_rest shape worker session began seen new (call ∷ calls) works rest =
    (works.0, works.1, works_rest shape worker session works.0 seen new calls works.2 rest)

-- what one did, and then did
works_join : (shape : Shape) (worker : Bool) (session : ℕ) (began seen new : List Logged) (calls more : List Call)
    → Works shape worker session began calls seen → Works shape worker session seen more new
    → Works shape worker session began (calls ++ more) new
works_join shape worker session began seen new calls [] works rest =
    subst (λ (cs : List Call). Works shape worker session began cs new) (sym (append-nil calls))
    (works_rest shape worker session began seen new calls works rest)
works_join shape worker session began seen new calls (call ∷ more) works rest =
    subst (λ (cs : List Call). Works shape worker session began cs new) (append_assoc calls (call ∷ []) more)
    (works_join shape worker session began rest.0 new (calls ++ call ∷ []) more
    (work_goes_on shape worker session began seen rest.0 calls call works rest.1) rest.2)

-- the lines of one who was told more
module _ (tables : List TableDecl) (round : ℕ) (who : Who) (calls more : List Call) where
  -- The lines of more calls stand behind those of the first ones.
  lines_more : share_text tables round (share_of who (calls ++ more))
      ≡ share_text tables round (share_of who calls)
      ++ replies_text tables (lines_behind round who (length (told_by calls)) (told_by more))
  lines_more =
      let line = λ (entry : ℕ × Said). line_of round who entry.0 entry.1 in
      let first = told_by calls in
      let next = told_by more in
      let number : 1 + length first ≡ length first + 1 = omega arith in
      ap (λ (told : List Said). replies_text tables (map line (enumerate_from 1 told))) (filter_map-append (λ (call : Call). call.told) calls more)
      ∙ ap (λ (entries : List (ℕ × Said)). replies_text tables (map line entries)) (enumerate_append 1 first next)
      ∙ ap (λ n. replies_text tables (map line (enumerate_from 1 first ++ enumerate_from n next))) number
      ∙ ap (replies_text tables) (map-append line (enumerate_from 1 first) (enumerate_from (length first + 1) next))
      ∙ flat_map-append (reply_text tables) (map line (enumerate_from 1 first)) (lines_behind round who (length first) next)

-- one line more
pub line_more : (tables : List TableDecl) (round : ℕ) (who : Who) (count index : ℕ) (told : List Said) (next : Said) → index ≡ count + length told
    → replies_text tables (lines_behind round who count (told ++ next ∷ []))
    ≡ replies_text tables (lines_behind round who count told) ++ reply_text tables (line_of round who (index + 1) next)
line_more tables round who count index told next same =
    let line = λ (entry : ℕ × Said). line_of round who entry.0 entry.1 in
    let number : count + 1 + length told ≡ index + 1 = omega (arith, same) in
    let last : ReplyLine = line_of round who (index + 1) next in
    ap (λ (entries : List (ℕ × Said)). replies_text tables (map line entries)) (enumerate_append (count + 1) told (next ∷ []))
    ∙ ap (λ n. replies_text tables (map line (enumerate_from (count + 1) told ++ (n, next) ∷ []))) number
    ∙ ap (replies_text tables) (map-append line (enumerate_from (count + 1) told) ((index + 1, next) ∷ []))
    ∙ flat_map-append (reply_text tables) (lines_behind round who count told) (last ∷ [])
    ∙ ap (λ (text : List ℕ). replies_text tables (lines_behind round who count told) ++ text) (append-nil (reply_text tables last))

-- the lines of a turn that were put
pub put_shown : {E : Type 0} (tables : List TableDecl) (round worker count : ℕ) (shown : Result ℕ RunFault) (told : Result (GlobalVec Said) E) (lines : GlobalVec Said) (before after : List ℕ)
    → shown ≡ Ok count → told ≡ Ok lines → (r : Result ℕ RunFault)
    → OnOk r (after ≡ before ++ replies_text tables (lines_behind round (TheWorker worker) count lines.items))
    → IfOk r (λ last. last ≡ count + length lines.items)
    → IfOk r (λ last. PutTurn tables round worker shown told before after last)
put_shown tables round worker count shown told lines before after counted found (Ok last) grown now = record {
  count_before = count;
  lines = lines;
  counted = counted;
  found = found;
  grown = grown;
  counted_now = now;
}
put_shown tables round worker count shown told lines before after counted found (Err failed) grown now = tt

-- ---- how many lines a turn has at most

module _ (f : ℕ → List Command) (most : ℕ) (each : (k : ℕ) → length (f k) ≤ most) where
  -- so many of at most so many commands each
  flat_few : (a n : ℕ) → length (flat_map f (range_with_len a n)) ≤ most * n
  flat_few a zero = omega arith
  flat_few a (suc n) =
      let rest = flat_few (a + 1) n in
      let first = each a in
      let both = length-append (f a) (flat_map f (range_with_len (a + 1) n)) in
      omega (arith, rest, first, both)

-- the commands of a turn for one table
abbrev for_table : ℕ × TableDecl → List Command
for_table entry = command.Compact entry.0
    ∷ flat_map (λ block. command.Seal entry.0 block ∷ command.Gather entry.0 block ∷ []) (range_with_len 0 entry.1.blocks)

-- A turn has at most 2049 commands for a table of at most 1024 blocks.
table_short : (entry : ℕ × TableDecl) → entry.1.blocks ≤ 2 ^ 10 → length (for_table entry) ≤ 2049
table_short entry few =
    let blocks = flat_few (λ block. command.Seal entry.0 block ∷ command.Gather entry.0 block ∷ []) 2 (λ block. omega arith) 0 entry.1.blocks in
    omega (arith, blocks, few)

-- A turn has at most 2049 commands for each table of at most 1024 blocks.
tables_short : (n : ℕ) (tables : List TableDecl) → All (λ (table : TableDecl). table.blocks ≤ 2 ^ 10) tables
    → length (flat_map for_table (enumerate_from n tables)) ≤ 2049 * length tables
tables_short n [] few = omega arith
tables_short n (table ∷ tables) few =
    let rest = tables_short (n + 1) tables (All-tail (λ (table : TableDecl). table.blocks ≤ 2 ^ 10) table tables few) in
    let first = table_short (n, table) (All-head (λ (table : TableDecl). table.blocks ≤ 2 ^ 10) table tables few) in
    let both = length-append (for_table (n, table)) (flat_map for_table (enumerate_from (n + 1) tables)) in
    omega (arith, rest, first, both)

-- A turn over at most sixteen such tables has at most 65536 commands.
turn_short : (tables : List TableDecl) → All (λ (table : TableDecl). table.blocks ≤ 2 ^ 10) tables → length tables ≤ 16 → length (turn_of tables) ≤ 2 ^ 16
turn_short tables few many =
    let all = tables_short 0 tables few in
    omega (arith, all, many)

-- at most so many lines are told as calls are made
told_few : (calls : List Call) → length (told_by calls) ≤ length calls
told_few [] = omega arith
told_few (call ∷ calls) = go call.told (told_few calls)
  where
    go : (told : Option Said) → length (told_by calls) ≤ length calls → length (cons_option told (told_by calls)) ≤ suc (length calls)
    go None few = omega (arith, few)
    go (Some told) few = omega (arith, few)

-- ---- turn by turn

-- A worker within its turns: so many were made. Unless a line found no memory, the text has their
-- lines, and they were counted.
pub record Turning (store : StoreView) (round worker : ℕ) (old now : Session) (before after : List ℕ) (shown : Result ℕ RunFault) (made : ℕ) : Type 0 where
  pub calls : List Call
  pub worked : Worked store true (most_of_turn * made) old now calls
  pub asked : asked_in calls ≡ turns_in (shape_in store).tables made
  pub counted : IfOk shown (λ count. count ≡ length (told_by calls))
  pub text : OnOk shown (after ≡ before ++ share_text (shape_in store).tables round (share_of (TheWorker worker) calls))

-- before its first turn a worker has made none, and its text is as it was
pub turning_begins : (store : StoreView) (round worker : ℕ) (session : Session) (text : List ℕ)
    → IsFreeSession store session → Turning store round worker session session text text (Ok 0) 0
turning_begins store round worker session text is = record {
  calls = [];
  worked = record {
    is_session = is;
    same = refl;
    works = nothing_done (shape_in store) true session.session (seen session);
    counted = All-nil IsCounted;
    kept = refl;
    keeps = λ taken keeps. keeps;
    few = omega arith;
  };
  asked = refl;
  counted = refl;
  text = sym (append-nil text);
}

-- the turns and one more
turns_more : (tables : List TableDecl) (made : ℕ) → turns_in tables (made + 1) ≡ turns_in tables made ++ turn_of tables
turns_more tables made =
    ap (turns_in tables) (let e : made + 1 ≡ suc made = omega arith in e)
    ∙ one_behind (λ turn. turn_of tables) 1 made (made + 1) (omega arith)

module _ {E : Type 0} (store : StoreView) (round worker : ℕ) (old now new : Session) (before after later : List ℕ)
    (shown shown_now : Result ℕ RunFault) (told : Result (GlobalVec Said) E) (made : ℕ)
    (turning : Turning store round worker old now before after shown made) (turn : MadeTurn store now new told) where
  -- A turn more is carried out by no more events than one turn more may make.
  worked_more : Worked store true (most_of_turn * (made + 1)) old new (turning.calls ++ turn.calls)
  worked_more = record {
    is_session = turn.is_session;
    same = turn.same ∙ turning.worked.same;
    works = works_join (shape_in store) true old.session (seen old) (seen now) (seen new) turning.calls turn.calls turning.worked.works
        (subst (λ n. Works (shape_in store) true n (seen now) turn.calls (seen new)) turning.worked.same turn.works);
    counted = All-append IsCounted turning.calls turn.calls turning.worked.counted turn.counted;
    kept = along_on (reads_of old) turning.calls (reads_of now) turn.calls (reads_of new) turning.worked.kept turn.kept;
    keeps = λ taken keeps. turn.keeps taken (turning.worked.keeps taken keeps);
    few = let first = turning.worked.few in let next = turn.few in omega (arith, first, next);
  }

  -- The commands that were asked are those of one turn more.
  asked_more : asked_in (turning.calls ++ turn.calls) ≡ turns_in (shape_in store).tables (made + 1)
  asked_more =
      map-append (λ (call : Call). call.command) turning.calls turn.calls
      ∙ ap (λ (cs : List Command). cs ++ asked_in turn.calls) turning.asked
      ∙ ap (λ (cs : List Command). turns_in (shape_in store).tables made ++ cs) turn.asked
      ∙ sym (turns_more (shape_in store).tables made)

  -- how many lines were put, and the text with them
  module _ (count : ℕ) (put : PutTurn (shape_in store).tables round worker shown told after later count) where
    counted_before : put.count_before ≡ length (told_by turning.calls)
    counted_before = subst (λ r. IfOk r (λ count. count ≡ length (told_by turning.calls))) put.counted turning.counted

    lines_are : put.lines.items ≡ told_by turn.calls
    lines_are = subst (λ r. IfOk r (λ lines. lines.items ≡ told_by turn.calls)) put.found turn.lines

    counted_more : count ≡ length (told_by (turning.calls ++ turn.calls))
    counted_more =
        put.counted_now
        ∙ ap (λ n. n + length put.lines.items) counted_before
        ∙ ap (λ (told : List Said). length (told_by turning.calls) + length told) lines_are
        ∙ sym (length-append (told_by turning.calls) (told_by turn.calls))
        ∙ ap length (sym (filter_map-append (λ (call : Call). call.told) turning.calls turn.calls))

    text_more : later ≡ before ++ share_text (shape_in store).tables round (share_of (TheWorker worker) (turning.calls ++ turn.calls))
    text_more =
        let tables = (shape_in store).tables in
        let first = share_text tables round (share_of (TheWorker worker) turning.calls) in
        let next = replies_text tables (lines_behind round (TheWorker worker) (length (told_by turning.calls)) (told_by turn.calls)) in
        put.grown
        ∙ ap (λ n. after ++ replies_text tables (lines_behind round (TheWorker worker) n put.lines.items)) counted_before
        ∙ ap (λ (told : List Said). after ++ replies_text tables (lines_behind round (TheWorker worker) (length (told_by turning.calls)) told)) lines_are
        ∙ ap (λ (text : List ℕ). text ++ next)
        (subst (λ r. OnOk r (after ≡ before ++ first)) put.counted turning.text)
        ∙ append_assoc before first next
        ∙ ap (λ (text : List ℕ). before ++ text) (sym (lines_more tables round (TheWorker worker) turning.calls turn.calls))

  -- Where the lines of the turn were put, as many are counted as were told.
  counted_in : (r : Result ℕ RunFault) → IfOk r (λ count. PutTurn (shape_in store).tables round worker shown told after later count)
      → IfOk r (λ count. count ≡ length (told_by (turning.calls ++ turn.calls)))
  counted_in (Ok count) put = counted_more count put
  counted_in (Err failed) put = tt

  -- Where the lines of the turn were put, the text has the lines of all turns.
  text_in : (r : Result ℕ RunFault) → IfOk r (λ count. PutTurn (shape_in store).tables round worker shown told after later count)
      → OnOk r (later ≡ before ++ share_text (shape_in store).tables round (share_of (TheWorker worker) (turning.calls ++ turn.calls)))
  text_in (Ok count) put = text_more count put
  text_in (Err failed) put = tt

  -- one turn more was made, whose lines were put behind the text where they could be
  pub turning_goes_on : IfOk shown_now (λ count. PutTurn (shape_in store).tables round worker shown told after later count)
      → Turning store round worker old new before later shown_now (made + 1)
  turning_goes_on put = record {
    calls = turning.calls ++ turn.calls;
    worked = worked_more;
    asked = asked_more;
    counted = counted_in shown_now put;
    text = text_in shown_now put;
  }

  -- the count of the lines has 64 bits
  pub lines_fit : All (λ (table : TableDecl). table.blocks ≤ 2 ^ 10) (shape_in store).tables → length (shape_in store).tables ≤ 16 → made ≤ 100
      → IfOk shown (λ count. IfOk told (λ lines. count + length lines.items < 2 ^ 64))
  lines_fit few many turns = go shown told turning.counted turn.lines
    where
      go : (r : Result ℕ RunFault) (s : Result (GlobalVec Said) E)
          → IfOk r (λ count. count ≡ length (told_by turning.calls)) → IfOk s (λ lines. lines.items ≡ told_by turn.calls)
          → IfOk r (λ count. IfOk s (λ lines. count + length lines.items < 2 ^ 64))
      go (Ok count) (Ok lines) first next =
          let short = turn_short (shape_in store).tables few many in
          let all = flat_few (λ turn. turn_of (shape_in store).tables) (2 ^ 16) (λ turn. short) 1 made in
          let made_first = ap length turning.asked in
          let made_next = ap length turn.asked in
          let each_first = length-map turning.calls (λ (call : Call). call.command) in
          let each_next = length-map turn.calls (λ (call : Call). call.command) in
          let told_first = told_few turning.calls in
          let told_next = told_few turn.calls in
          let lines_next = ap length next in
          omega (arith, turns, short, all, made_first, made_next, each_first, each_next, told_first, told_next, first, lines_next)
      go (Ok count) (Err memory) first next = tt
      go (Err failed) s first next = tt

-- a worker that may make the events of all its turns may make those of the next one
pub turning_has_room : (store : StoreView) (round worker : ℕ) (old now : Session) (before after : List ℕ) (shown : Result ℕ RunFault) (made turns : ℕ)
    → Turning store round worker old now before after shown made → made < turns
    → HasRoomFor (most_of_turn * turns) old → HasRoomFor most_of_turn now
turning_has_room store round worker old now before after shown made turns turning high room =
    let few = turning.worked.few in
    omega (arith, few, high, room)

-- its turns are made
module _ {T : Type 0} (store : StoreView) (round worker : ℕ) (old new : Session) (before after : List ℕ) (turns : ℕ) where
  -- behind the last turn, the text has the lines of all the worker's turns
  pub turns_shown : (count : ℕ) (value : T) → Turning store round worker old new before after (Ok count) turns
      → TurnsMade {T = T} store round worker turns old new before after (Ok value)
  turns_shown count value turning = record { calls = turning.calls; worked = turning.worked; asked = turning.asked; text = turning.text }

  -- where a line was lost, the worker has made all its turns nevertheless
  pub turns_lost : (failed : RunFault) → Turning store round worker old new before after (Err failed) turns
      → TurnsMade {T = T} store round worker turns old new before after (Err failed)
  turns_lost failed turning = record { calls = turning.calls; worked = turning.worked; asked = turning.asked; text = tt }
