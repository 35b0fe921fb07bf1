-- A session's turn, command by command.
use Rattle.std.proofs.Common.{◌≡◌, ℕ, ◌+◌, ◌*◌, true, false, List, [], ◌∷◌, ◌++◌, length, Option, Some, Ok, Err, refl, sym, ap, ◌∙◌, subst, append-nil, append_assoc, arith, length-append, true≢false}
use Rattle.std.specs.Prelude.{◌≢◌, IfErr, OnOk, Result}
use Rattle.std.proofs.lemmas.List.{length-map, length_push, map-append}
use Rattle.std.proofs.lemmas.List.Elements.{All-append, All-cons, All-nil, filter_map-append}
use Rattle.workload_spec.specs.ReplyText.{reply_text}
use Rattle.workload_spec.specs.Valid.{is_export}
use Rattle.workload_spec.specs.declared.command.Command.{Command}
use Rattle.workload_spec.specs.declared.reply.Said.{Said}
use Rattle.workload_spec.specs.declared.reply.Said.TheVariants as said
use Rattle.workload_spec.specs.declared.reply.Who.TheVariants.{Session as TheSession}
use Rattle.run_spec.specs.Calls.{Call}
use Rattle.run_spec.specs.Handed.{Called}
use Rattle.run_laws.proofs.Rounds.Lines.{shares_grow}
use Rattle.run_laws.proofs.Rounds.Working.{nothing_done, work_goes_on}
use Rattle.run_laws.specs.Rounds.Lines.{line_behind, line_of, share_text, told_by}
use Rattle.run_laws.specs.Rounds.Texts.{IsCounted}
use Rattle.shared_store.specs.Store.{HasRoomFor, MakesAtMost, StoreView, seen, shape_in, reads_of}
use Rattle.shared_store.proofs.OwnCommits.{keeps_along}
use Rattle.store_rounds.specs.Sessions.{IsFreeSession}
use Rattle.shared_store.specs.declared.session.Session.{Session}
use Rattle.store_rounds.specs.Answered.{Answered, SentBy, most_events}
use Rattle.store_rounds.specs.Duties.{is_cut_end, is_whole_end}
use Rattle.store_rounds.specs.Served.{SessionServed}
use Rattle.store_rounds.specs.Worked.{Worked, asked_in, share_of}
use Rattle.store_rounds.specs.declared.fault.RunFault.{RunFault}
use Rattle.store_rounds.specs.declared.fault.RunFault.TheVariants as fault
use Rattle.store_rounds.proofs.Sends.{call_sent, nothing_sent}
use Rattle.store_rounds.proofs.Keeps.{along_on, along_one}

-- A session within its turn: these commands were carried out, and told so many lines. Unless one of
-- the lines was lost, the text has them.
pub record Turn {T : Type 0} (store : StoreView) (round : ℕ) (old now : Session) (commands : List Command) (before after : List ℕ) (shown : Result T RunFault) (exported exported_now : Option (List ℕ)) (index : ℕ) : Type 0 where
  pub calls : List Call
  pub worked : Worked store false (most_events * length calls) old now calls
  pub asked : asked_in calls ≡ commands
  pub text : OnOk shown (after ≡ before ++ share_text (shape_in store).tables round (share_of (TheSession old.session) calls))
  pub sent : SentBy (shape_in store).tables calls exported exported_now
  pub told : index ≡ length (told_by calls)
  pub count : index ≡ length commands

-- before its first command a session has carried out nothing, and its text is as it was
pub turn_begins : {T : Type 0} (store : StoreView) (round : ℕ) (session : Session) (text : List ℕ) (exported : Option (List ℕ)) (value : T)
    → IsFreeSession store session → Turn {T = T} store round session session [] text text (Ok value) exported exported 0
turn_begins store round session text exported value is = record {
  calls = [];
  worked = record { is_session = is; same = refl; works = nothing_done (shape_in store) false session.session (seen session); counted = All-nil IsCounted; kept = refl; keeps = λ taken keeps. keeps; few = omega arith };
  asked = refl;
  text = sym (append-nil text);
  sent = nothing_sent (shape_in store).tables exported;
  told = refl;
  count = refl;
}

-- one call more
module _ (store : StoreView) (old now new : Session) (calls : List Call) (command : Command) (told : Said) (exported exported_now exported_later : Option (List ℕ))
    (answered : Answered store now new command told exported_now exported_later) where
  -- The call of the command that was answered.
  abbrev call : Call
  call = record { command = command; made = answered.answers.made; told = Some told; reads = reads_of now }

  -- one call of few events more leaves few events for each of the calls
  pub worked_more : Worked store false (most_events * length calls) old now calls → MakesAtMost most_events now new
      → Worked store false (most_events * length (calls ++ call ∷ [])) old new (calls ++ call ∷ [])
  worked_more worked few = record {
    is_session = answered.session;
    same = answered.same ∙ worked.same;
    works = work_goes_on (shape_in store) false old.session (seen old) (seen now) (seen new) calls call worked.works
        (subst (λ n. Called (shape_in store) false n (seen now) (seen new) call) worked.same answered.answers.called);
    counted = All-append IsCounted calls (call ∷ []) worked.counted
        (All-cons IsCounted call [] (λ count e. answered.counts count (told_is count e)) (All-nil IsCounted));
    kept = along_on (reads_of old) calls (reads_of now) (call ∷ []) (reads_of new) worked.kept (along_one (reads_of now) (reads_of new) call refl answered.answers.keeps);
    keeps = λ taken keeps. keeps_along store now new command told answered.answers answered.same taken (worked.keeps taken keeps);
    few = let more = length_push calls call in let before = worked.few in omega (arith, few, before, more);
  }
    where
      told_is : (count : ℕ) → Some told ≡ Some (said.Pruned count) → told ≡ said.Pruned count
      told_is count e = cc

  -- what the session's calls sent grew by what this one did
  pub sent_more : SentBy (shape_in store).tables calls exported exported_now → SentBy (shape_in store).tables (calls ++ call ∷ []) exported exported_later
  sent_more sent = call_sent (shape_in store).tables calls call exported exported_now exported_later answered.bytes sent answered.sent answered.by_call

module _ {T : Type 0} (store : StoreView) (round : ℕ) (old now new : Session) (commands : List Command) (before after later : List ℕ) (shown shown_now : Result T RunFault)
    (exported exported_now exported_later : Option (List ℕ)) (index : ℕ) (command : Command) (told : Said)
    (turn : Turn {T = T} store round old now commands before after shown exported exported_now index)
    (answered : Answered store now new command told exported_now exported_later) (few : MakesAtMost most_events now new) where
  -- The call that is one more behind those of the turn.
  abbrev last_call : Call
  last_call = record { command = command; made = answered.answers.made; told = Some told; reads = reads_of now }

  -- The next line's number is one more than the lines that were told.
  next_index : index + 1 ≡ 1 + length (told_by turn.calls)
  next_index = omega (arith, turn.told)

  -- The text with the lines of the calls, and then the last one's, has all lines.
  text_more : after ≡ before ++ share_text (shape_in store).tables round (share_of (TheSession old.session) turn.calls)
      → later ≡ after ++ reply_text (shape_in store).tables (line_of round (TheSession new.session) (index + 1) told)
      → later ≡ before ++ share_text (shape_in store).tables round (share_of (TheSession old.session) (turn.calls ++ last_call ∷ []))
  text_more first grown =
      grown
      ∙ ap (λ (n : ℕ). after ++ reply_text (shape_in store).tables (line_of round (TheSession n) (index + 1) told)) (answered.same ∙ turn.worked.same)
      ∙ ap (λ (n : ℕ). after ++ reply_text (shape_in store).tables (line_of round (TheSession old.session) n told)) next_index
      ∙ ap (λ (text : List ℕ). text ++ line_behind (shape_in store).tables round (TheSession old.session) turn.calls (Some told)) first
      ∙ append_assoc before (share_text (shape_in store).tables round (share_of (TheSession old.session) turn.calls)) (line_behind (shape_in store).tables round (TheSession old.session) turn.calls (Some told))
      ∙ ap (λ (text : List ℕ). before ++ text) (sym (shares_grow (shape_in store).tables round (TheSession old.session) turn.calls last_call))

  -- Unless a line was lost, the text has the lines of all calls and the last.
  text_in : (r s : Result T RunFault)
      → OnOk r (after ≡ before ++ share_text (shape_in store).tables round (share_of (TheSession old.session) turn.calls))
      → OnOk s (OnOk r (later ≡ after ++ reply_text (shape_in store).tables (line_of round (TheSession new.session) (index + 1) told)))
      → IfErr r (λ failed. s ≡ Err failed)
      → OnOk s (later ≡ before ++ share_text (shape_in store).tables round (share_of (TheSession old.session) (turn.calls ++ last_call ∷ [])))
  text_in (Ok value) (Ok next) first grown kept = text_more first grown
  text_in (Err failed) (Ok next) first grown kept = absurd (let never : ⊥ = cc kept in never)
  text_in r (Err failed) first grown kept = tt

  -- a command that was carried out and whose line was kept or lost is one more of the turn
  pub turn_goes_on
      : OnOk shown_now (OnOk shown (later ≡ after ++ reply_text (shape_in store).tables (line_of round (TheSession new.session) (index + 1) told)))
      → IfErr shown (λ failed. shown_now ≡ Err failed)
      → Turn {T = T} store round old new (commands ++ command ∷ []) before later shown_now exported exported_later (index + 1)
  turn_goes_on grown kept = record {
    calls = turn.calls ++ last_call ∷ [];
    worked = worked_more store old now new turn.calls command told exported exported_now exported_later answered turn.worked few;
    asked = map-append (λ (call : Call). call.command) turn.calls (last_call ∷ []) ∙ ap (λ (cs : List Command). cs ++ command ∷ []) turn.asked;
    text = text_in shown shown_now turn.text grown kept;
    sent = sent_more store old now new turn.calls command told exported exported_now exported_later answered turn.sent;
    told = next_index ∙ (let e : 1 + length (told_by turn.calls) ≡ length (told_by turn.calls) + 1 = omega arith in e)
        ∙ sym (length_push (told_by turn.calls) told)
        ∙ ap length (sym (filter_map-append (λ (call : Call). call.told) turn.calls (last_call ∷ [])));
    count = ap (λ n. n + 1) turn.count ∙ sym (length_push commands command);
  }

  -- the turn stops behind an export, where the outlet failed
  pub turn_stops : (rest all : List Command) → commands ++ command ∷ rest ≡ all → is_export command ≡ true → told ≡ said.Memory
      → SessionServed {T = T} store round old new all before later (Err fault.Export) exported exported_later
  turn_stops rest all split asked memory = record {
    calls = turn.calls ++ last_call ∷ [];
    did = record {
      worked = worked_more store old now new turn.calls command told exported exported_now exported_later answered turn.worked few;
      rest = rest;
      asked = sym split
          ∙ sym (append_assoc commands (command ∷ []) rest)
          ∙ ap (λ (cs : List Command). cs ++ rest)
          (ap (λ (cs : List Command). cs ++ command ∷ []) (sym turn.asked)
          ∙ sym (map-append (λ (call : Call). call.command) turn.calls (last_call ∷ [])));
      whole = λ e. absurd (true≢false e);
      last = λ e. record { front = turn.calls; last = last_call; calls_are = refl; asked = asked; told = ap (λ (said : Said). Some said) memory };
      text = tt;
      not_out = λ e. absurd (let never : ⊥ = cc e in never);
    };
    sent = sent_more store old now new turn.calls command told exported exported_now exported_later answered turn.sent;
  }

-- an end that is no fault but want of memory is no stop at an export
pub never_cut : {T : Type 0} (r : Result T RunFault) → IfErr r (λ failed. failed ≡ fault.Memory) → is_cut_end r ≡ false
never_cut (Ok value) memory = refl
never_cut {T} (Err failed) memory = ap (λ (f : RunFault). is_cut_end {T = T} (Err f)) memory

-- where only memory is refused, the output never fails
pub never_out : {T : Type 0} (r : Result T RunFault) → IfErr r (λ failed. failed ≡ fault.Memory) → IfErr r (λ failed. failed ≢ fault.Out)
never_out (Ok value) memory = tt
never_out (Err failed) memory = λ e. absurd (let never : ⊥ = cc (memory, e) in never)

-- nor is one that is whole
pub whole_not_cut : {T : Type 0} (r : Result T RunFault) → is_whole_end r ≡ true → is_cut_end r ≡ false
whole_not_cut (Ok value) whole = refl
whole_not_cut (Err failed) whole = absurd (true≢false (sym whole))

-- where a turn came to its end, the output did not fail
pub whole_not_out : {T : Type 0} (r : Result T RunFault) → is_whole_end r ≡ true → IfErr r (λ failed. failed ≢ fault.Out)
whole_not_out (Ok value) whole = tt
whole_not_out (Err failed) whole = absurd (true≢false (sym whole))

-- a turn that comes to its end
pub turn_ends : {T : Type 0} (store : StoreView) (round : ℕ) (old new : Session) (commands all : List Command) (before after : List ℕ) (shown : Result T RunFault) (exported exported_now : Option (List ℕ)) (index : ℕ)
    → Turn {T = T} store round old new commands before after shown exported exported_now index → commands ≡ all
    → IfErr shown (λ failed. failed ≡ fault.Memory)
    → SessionServed {T = T} store round old new all before after shown exported exported_now
turn_ends store round old new commands all before after shown exported exported_now index turn whole memory = record {
  calls = turn.calls;
  did = record {
    worked = turn.worked;
    rest = [];
    asked = sym whole ∙ sym turn.asked ∙ sym (append-nil (asked_in turn.calls));
    whole = λ e. refl;
    last = λ e. absurd (true≢false (sym e ∙ never_cut shown memory));
    text = turn.text;
    not_out = never_out shown memory;
  };
  sent = turn.sent;
}

-- a session that may make the events of all its commands may make those of the next one
pub turn_has_room : {T : Type 0} (store : StoreView) (round : ℕ) (old now : Session) (commands rest all : List Command) (before after : List ℕ) (shown : Result T RunFault) (exported exported_now : Option (List ℕ)) (index : ℕ) (command : Command)
    → Turn {T = T} store round old now commands before after shown exported exported_now index → commands ++ command ∷ rest ≡ all
    → HasRoomFor (most_events * length all) old → HasRoomFor most_events now
turn_has_room store round old now commands rest all before after shown exported exported_now index command turn split room =
    let made = turn.worked.few in
    let each = length-map turn.calls (λ (call : Call). call.command) in
    let asked = ap length turn.asked in
    let whole = ap length split in
    let parted = length-append commands (command ∷ rest) in
    omega (arith, made, each, asked, whole, parted, room)

-- nothing is left
pub none_left : {X : Type 0} (front rest all : List X) → length rest ≡ 0 → front ++ rest ≡ all → front ≡ all
none_left front [] all e split = sym (append-nil front) ∙ split
none_left front (x ∷ rest) all e split = absurd (omega (arith, e))
