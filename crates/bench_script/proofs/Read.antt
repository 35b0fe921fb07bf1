-- The text of what is generated is read as it.
use Rattle.std.proofs.Common.{◌≡◌, ℕ, ◌≤◌, Ok, refl}
use Rattle.workload_spec.specs.Grammar.{script_of}
use Rattle.workload_spec.specs.ScriptText.{script_text}
use Rattle.workload_laws.proofs.OneGrammar.{text_is_read}
use Rattle.bench_spec.specs.Generated.{generated}
use Rattle.bench_script.proofs.Fine.{generated_valid}

-- the text of what is generated is read as it
pub generated_read : (seed size : ℕ) → size ≤ 4096 → script_of (script_text (generated seed size)) ≡ Ok (generated seed size)
generated_read seed size few = text_is_read (generated seed size) (record { valid = generated_valid seed size few; begun = refl })
