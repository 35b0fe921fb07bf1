-- What a worker did in a round, and the text of its lines.
use Rattle.std.specs.Prelude.{◌≡◌, ℕ, ◌+◌, ◌*◌, true, List, ◌++◌, Ok, OnOk, Result, length, map}
use Rattle.std.specs.Global.{Vec as GlobalVec}
use Rattle.std.specs.List.{enumerate_from}
use Rattle.cell_model.specs.declared.table.TableDecl.{TableDecl}
use Rattle.workload_spec.specs.ReplyText.{replies_text}
use Rattle.workload_spec.specs.declared.reply.ReplyLine.{ReplyLine}
use Rattle.workload_spec.specs.declared.reply.Said.{Said}
use Rattle.workload_spec.specs.declared.reply.Who.{Who}
use Rattle.workload_spec.specs.declared.reply.Who.TheVariants.{Worker as TheWorker}
use Rattle.run_spec.specs.Calls.{Call}
use Rattle.run_laws.specs.Rounds.Lines.{line_of, share_text}
use Rattle.shared_store.specs.Store.{StoreView, shape_in}
use Rattle.shared_store.specs.declared.session.Session.{Session}
use Rattle.store_rounds.specs.Turns.{most_of_turn}
use Rattle.store_rounds.specs.Crews.{turns_in}
use Rattle.store_rounds.specs.Worked.{Worked, asked_in, share_of}
use Rattle.store_rounds.specs.declared.fault.RunFault.{RunFault}

-- the lines of one who is told these, counted on from so many
abbrev pub lines_behind : ℕ → Who → ℕ → List Said → List ReplyLine
lines_behind round who count told =
    map (λ entry. line_of round who entry.0 entry.1) (enumerate_from (count + 1) told)

-- The lines of a worker's turn were put behind a text, where so many of the worker's lines stood
-- there before. So many stand there now.
pub record PutTurn
    {E : Type 0} (tables : List TableDecl) (round worker : ℕ) (before : Result ℕ RunFault)
    (told : Result (GlobalVec Said) E) (text text_now : List ℕ) (count : ℕ)
    : Type 0 where
  pub count_before : ℕ
  pub lines : GlobalVec Said
  pub counted : before ≡ Ok count_before
  pub found : told ≡ Ok lines
  pub grown
      : text_now
      ≡ text ++ replies_text tables (lines_behind round (TheWorker worker) count_before lines.items)
  pub counted_now : count ≡ count_before + length lines.items

-- A worker made all of so many turns, also where there was no memory for a line. Where there was,
-- the text grew by their lines.
pub record TurnsMade
    {T : Type 0} (store : StoreView) (round worker turns : ℕ) (old new : Session)
    (before after : List ℕ) (shown : Result T RunFault)
    : Type 0 where
  pub calls : List Call
  pub worked : Worked store true (most_of_turn * turns) old new calls
  pub asked : asked_in calls ≡ turns_in (shape_in store).tables turns
  pub text : OnOk shown (after
      ≡ before
      ++ share_text (shape_in store).tables round (share_of (TheWorker worker) calls))
