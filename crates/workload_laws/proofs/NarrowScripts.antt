-- A workload is read within an extent exactly where the whole format reads it and it runs within
-- the extent.
use Rattle.std.proofs.Common.{◌≡◌, ◌↔◌, ℕ, ◌+◌, ◌≤◌, Bool, true, false, List, [], ◌∷◌, length, refl, sym, ap, ◌∙◌, subst, arith}
use Rattle.std.specs.Prelude.{◌&&◌, ◌||◌, nat_le, bytes_eq, codes, Ok}
use Rattle.std.specs.List.{list_all}
use Rattle.std.proofs.lemmas.Bool.{leb-true, le-leb, and_parts}
use Rattle.cell_model.specs.Schemas.{most_columns}
use Rattle.cell_model.specs.declared.table.TableDecl.{TableDecl}
use Rattle.workload_spec.specs.declared.extent.Extent.{Extent}
use Rattle.workload_spec.specs.declared.script.Cause.TheVariants as cause
use Rattle.workload_spec.specs.declared.script.Line.{Line}
use Rattle.workload_spec.specs.declared.script.Script.{Script}
use Rattle.workload_spec.specs.Extents.{extent_of, whole, are_within, is_taken, runs_within, RunsWithin, is_extent}
use Rattle.workload_spec.specs.Valid.{is_within, are_taken_kinds, most_tables, most_sessions, most_workers, most_turns, all_lines}
use Rattle.workload_spec.specs.Reading.{words_of}
use Rattle.workload_spec.specs.Grammar.{rule, on_line, next_line, is_table_line, sessions_of, workers_of, tables_from, rounds_from, script_behind}
use Rattle.workload_laws.proofs.Results.{step, rule_of, on_line_is}
use Rattle.workload_laws.proofs.Lists.{joined}
use Rattle.workload_laws.proofs.ScriptsBack.{assembled}
use Rattle.workload_laws.proofs.Narrows.{Narrows, FewWorkers, narrow_sessions, narrow_workers}
use Rattle.workload_laws.proofs.NarrowTables.{FewTables, narrow_tables}
use Rattle.workload_laws.proofs.NarrowRounds.{RoundsTaken, narrow_rounds}

-- the bounds of an extent
pub record Bounds (extent : Extent) : Type 0 where
  pub tables : extent.tables ≤ most_tables
  pub some : 1 ≤ extent.columns
  pub columns : extent.columns ≤ most_columns
  pub sessions : extent.sessions ≤ most_sessions
  pub workers : extent.workers ≤ most_workers
  pub turns : extent.turns ≤ most_turns

-- an extent has at most what the whole format has of each, and at least one column
pub bounds : (extent : Extent) → is_extent extent ≡ true → Bounds extent
bounds extent is =
    let d = and_parts (nat_le extent.tables most_tables && is_within 1 most_columns extent.columns && nat_le extent.sessions most_sessions && nat_le extent.workers most_workers) (nat_le extent.turns most_turns) is in
    let c = and_parts (nat_le extent.tables most_tables && is_within 1 most_columns extent.columns && nat_le extent.sessions most_sessions) (nat_le extent.workers most_workers) d.0 in
    let b = and_parts (nat_le extent.tables most_tables && is_within 1 most_columns extent.columns) (nat_le extent.sessions most_sessions) c.0 in
    let a = and_parts (nat_le extent.tables most_tables) (is_within 1 most_columns extent.columns) b.0 in
    let w = and_parts (nat_le 1 extent.columns) (nat_le extent.columns most_columns) a.1 in
    record {
      tables = leb-true extent.tables most_tables a.0;
      some = leb-true 1 extent.columns w.0;
      columns = leb-true extent.columns most_columns w.1;
      sessions = leb-true extent.sessions most_sessions b.1;
      workers = leb-true extent.workers most_workers c.1;
      turns = leb-true extent.turns most_turns d.1;
    }

-- what a script that runs within an extent keeps, part by part
pub record Keeps (extent : Extent) (script : Script) : Type 0 where
  pub tables : FewTables extent script.tables
  pub sessions : nat_le script.sessions extent.sessions ≡ true
  pub workers : FewWorkers extent (script.workers, script.turns)
  pub rounds : RoundsTaken extent script.rounds

-- A script that runs within an extent keeps it part by part.
keeps : (extent : Extent) (script : Script) → runs_within extent script ≡ true → Keeps extent script
keeps extent script is =
    let t : TableDecl → Bool = λ table. are_within extent table.schema in
    let l : Line → Bool = λ line. is_taken extent.commands line.command in
    let f = and_parts (nat_le (length script.tables) extent.tables && list_all t script.tables && nat_le script.sessions extent.sessions && nat_le script.workers extent.workers && nat_le script.turns extent.turns && (extent.parts_rounds || nat_le (length script.rounds) 1)) (list_all l (all_lines script)) is in
    let e = and_parts (nat_le (length script.tables) extent.tables && list_all t script.tables && nat_le script.sessions extent.sessions && nat_le script.workers extent.workers && nat_le script.turns extent.turns) (extent.parts_rounds || nat_le (length script.rounds) 1) f.0 in
    let d = and_parts (nat_le (length script.tables) extent.tables && list_all t script.tables && nat_le script.sessions extent.sessions && nat_le script.workers extent.workers) (nat_le script.turns extent.turns) e.0 in
    let c = and_parts (nat_le (length script.tables) extent.tables && list_all t script.tables && nat_le script.sessions extent.sessions) (nat_le script.workers extent.workers) d.0 in
    let b = and_parts (nat_le (length script.tables) extent.tables && list_all t script.tables) (nat_le script.sessions extent.sessions) c.0 in
    let a = and_parts (nat_le (length script.tables) extent.tables) (list_all t script.tables) b.0 in
    record {
      tables = record { few = a.0; each = a.1 };
      sessions = b.1;
      workers = (c.1, d.1);
      rounds = record { few = e.1; each = f.1 };
    }

-- a script that keeps an extent part by part runs within it
pub kept : (extent : Extent) (script : Script) → Keeps extent script → runs_within extent script ≡ true
kept extent script k =
    joined (joined (joined (joined (joined (joined k.tables.few k.tables.each) k.sessions) k.workers.0) k.workers.1) k.rounds.few) k.rounds.each

-- No tables are few enough for each extent.
no_tables : (extent : Extent) → FewTables extent []
no_tables extent = record { few = le-leb 0 extent.tables (omega arith); each = refl }

-- the lines of a workload behind the first, within an extent
pub narrow_lines : (version : ℕ) (extent : Extent) (all : List (List ℕ)) → is_extent extent ≡ true → Narrows (script_behind version extent all) (script_behind version whole all) (RunsWithin extent)
narrow_lines version extent all is = let b = bounds extent is in record {
  to = λ script e.
      step (next_line 2 cause.Table all) _ script e (λ first is3 e3.
      step (on_line 2 (rule cause.Table (is_table_line first.0))) _ script e3 (λ v is4 e4.
      step (tables_from extent 2 [] all) _ script e4 (λ tables is5 e5.
      step (next_line (length tables.0 + 2) cause.Sessions tables.1) _ script e5 (λ sessions_line is6 e6.
      step (on_line (length tables.0 + 2) (sessions_of extent (words_of sessions_line.0))) _ script e6 (λ sessions is7 e7.
      step (next_line (length tables.0 + 2 + 1) cause.Workers sessions_line.1) _ script e7 (λ workers_line is8 e8.
      step (on_line (length tables.0 + 2 + 1) (workers_of extent (words_of workers_line.0))) _ script e8 (λ workers is9 e9.
      step (next_line (length tables.0 + 2 + 2) cause.Go workers_line.1) _ script e9 (λ go is10 e10.
      step (on_line (length tables.0 + 2 + 2) (rule cause.Go (bytes_eq go.0 (codes "go")))) _ script e10 (λ w is11 e11.
      step (rounds_from extent tables.0 sessions (length tables.0 + 2 + 3) false go.1) _ script e11 (λ rounds is12 e12.
      let made : Script = record { version = version; tables = tables.0; sessions = sessions; workers = workers.0; turns = workers.1; rounds = rounds; begun = [] } in
      let same : made ≡ script = cc in
      let t = (narrow_tables extent 2 [] all b.tables b.some b.columns (no_tables extent)).to tables is5 in
      let s = (narrow_sessions extent (words_of sessions_line.0) b.sessions).to sessions (on_line_is _ (sessions_of extent (words_of sessions_line.0)) sessions is7) in
      let k = (narrow_workers extent (words_of workers_line.0) b.workers b.turns).to workers (on_line_is _ (workers_of extent (words_of workers_line.0)) workers is9) in
      let r = (narrow_rounds extent tables.0 sessions (length tables.0 + 2 + 3) false go.1).to rounds is12 in (
        assembled version whole all first tables sessions_line sessions workers_line workers go rounds is3 (rule_of cause.Table _ v (on_line_is 2 _ v is4))
            t.0 is6 s.0 is8 k.0 is10 (rule_of cause.Go _ w (on_line_is _ _ w is11)) r.0 ∙ ap Ok same,
        subst (RunsWithin extent) same (kept extent made (record { tables = t.1; sessions = s.1; workers = k.1; rounds = r.1 })),
      )))))))))));
  back = λ script e within.
      step (next_line 2 cause.Table all) _ script e (λ first is3 e3.
      step (on_line 2 (rule cause.Table (is_table_line first.0))) _ script e3 (λ v is4 e4.
      step (tables_from whole 2 [] all) _ script e4 (λ tables is5 e5.
      step (next_line (length tables.0 + 2) cause.Sessions tables.1) _ script e5 (λ sessions_line is6 e6.
      step (on_line (length tables.0 + 2) (sessions_of whole (words_of sessions_line.0))) _ script e6 (λ sessions is7 e7.
      step (next_line (length tables.0 + 2 + 1) cause.Workers sessions_line.1) _ script e7 (λ workers_line is8 e8.
      step (on_line (length tables.0 + 2 + 1) (workers_of whole (words_of workers_line.0))) _ script e8 (λ workers is9 e9.
      step (next_line (length tables.0 + 2 + 2) cause.Go workers_line.1) _ script e9 (λ go is10 e10.
      step (on_line (length tables.0 + 2 + 2) (rule cause.Go (bytes_eq go.0 (codes "go")))) _ script e10 (λ w is11 e11.
      step (rounds_from whole tables.0 sessions (length tables.0 + 2 + 3) false go.1) _ script e11 (λ rounds is12 e12.
      let made : Script = record { version = version; tables = tables.0; sessions = sessions; workers = workers.0; turns = workers.1; rounds = rounds; begun = [] } in
      let same : made ≡ script = cc in
      let k = keeps extent made (subst (RunsWithin extent) (sym same) within) in
      let t = (narrow_tables extent 2 [] all b.tables b.some b.columns (no_tables extent)).back tables is5 k.tables in
      let s = (narrow_sessions extent (words_of sessions_line.0) b.sessions).back sessions (on_line_is _ (sessions_of whole (words_of sessions_line.0)) sessions is7) k.sessions in
      let n = (narrow_workers extent (words_of workers_line.0) b.workers b.turns).back workers (on_line_is _ (workers_of whole (words_of workers_line.0)) workers is9) k.workers in
      let r = (narrow_rounds extent tables.0 sessions (length tables.0 + 2 + 3) false go.1).back rounds is12 k.rounds in
      assembled version extent all first tables sessions_line sessions workers_line workers go rounds is3 (rule_of cause.Table _ v (on_line_is 2 _ v is4))
      t is6 s is8 n is10 (rule_of cause.Go _ w (on_line_is _ _ w is11)) r ∙ ap Ok same))))))))));
}

-- The lines behind the first are a workload within an extent exactly where they are one of the
-- whole format and it runs within the extent.
pub read_within : (version : ℕ) (extent : Extent) (lines : List (List ℕ)) (script : Script) → is_extent extent ≡ true
    → (script_behind version extent lines ≡ Ok script) ↔ ((script_behind version whole lines ≡ Ok script) × RunsWithin extent script)
read_within version extent lines script is =
    let n = narrow_lines version extent lines is in
    (λ e. n.to script e, λ e. n.back script e.0 e.1)

-- each version's extent is one of the format
pub extent_is : (version : ℕ) → is_extent (extent_of version) ≡ true
extent_is version = refl

-- the lines of a workload within an extent have commands that it takes
pub commands_taken : (extent : Extent) (script : Script) → runs_within extent script ≡ true → list_all (λ line. is_taken extent.commands line.command) (all_lines script) ≡ true
commands_taken extent script is = (keeps extent script is).rounds.each

-- the tables of a workload within an extent have kinds that it takes
pub kinds_taken : (extent : Extent) (script : Script) → runs_within extent script ≡ true → list_all (λ table. are_taken_kinds extent.later_kinds table.schema) script.tables ≡ true
kinds_taken extent script is = each_taken script.tables (keeps extent script is).tables.each
  where
    each_taken : (tables : List TableDecl) → list_all (λ table. are_within extent table.schema) tables ≡ true → list_all (λ table. are_taken_kinds extent.later_kinds table.schema) tables ≡ true
    each_taken [] all = refl
    each_taken (table ∷ tables) all =
        let a = and_parts (are_within extent table.schema) (list_all (λ t. are_within extent t.schema) tables) all in
        joined (and_parts (nat_le (length table.schema) extent.columns) (are_taken_kinds extent.later_kinds table.schema) a.0).1 (each_taken tables a.1)
