-- A run whose store was built, and of which nothing ran yet.
use Rattle.std.specs.Prelude.{◌≡◌, ◌+◌, Bool, All}
use Rattle.isolation_spec.specs.Contents.{History}
use Rattle.run_spec.specs.Ran.{IsRunnable, shape_of}
pub use Rattle.shared_store.specs.Building.{IsFirstFull}
use Rattle.shared_store.specs.Building.{IsNewRow, StartsKeeping}
use Rattle.shared_store.specs.Store.{shape_in}
use Rattle.store_rounds.specs.Crews.{crew_of}
use Rattle.store_rounds.specs.declared.prepared.PreparedRun.{PreparedRun}
use Rattle.workload_spec.specs.declared.script.Script.{Script}

-- the workload, over a store that begins with these commits
abbrev pub begun_with : History → Script → Script
begun_with first script = record script { begun = first }

-- The run is one of this workload, which a store can run. Its store was just built for the workload,
-- and its row are all sessions and workers, who keep their commits or none.
pub record IsPrepared (script : Script) (keeps : Bool) (run : PreparedRun) : Type 0 where
  pub script_is : run.script.value ≡ script
  pub runnable : IsRunnable script
  pub rounds : run.rounds ≡ script.rounds
  pub crew : run.crew ≡ crew_of script
  pub shape : shape_in run.store ≡ shape_of script
  pub row : IsNewRow run.store (script.sessions + script.workers) run.row.items
  pub kept : All (StartsKeeping keeps) run.row.items
