-- A block's number is small.
use Rattle.std.proofs.Common.{◌≡◌, ℕ, ◌^◌, ◌<◌, ◌≤◌, Bool, true, false, refl, arith}
use Rattle.std.specs.Prelude.{nat_lt, Option, None, Some, Ok, Err}
use Rattle.std.proofs.lemmas.Bool.{ltb-false, le-ltb}
use Rattle.workload_spec.specs.declared.command.Command.{Command}
use Rattle.workload_spec.specs.declared.script.Cause.TheVariants as cause
use Rattle.workload_spec.specs.Grammar.{◌>>=◌, or_cause, rule}
use Rattle.word_read.specs.Numbers.{is_small, small_natural}

-- A number that is not kept for being small has more than 64 bits.
large_by : (n : ℕ) (small : Bool) → is_small n ≡ small → small_natural (Some n) ≡ None → 2 ^ 64 ≤ n
large_by n true e none = absurd (let f = rw e at none in cc)
large_by n false e none = ltb-false n (2 ^ 64) e

-- a number that is not small is no block's
pub no_block : (make : ℕ → Command) (is : ℕ → Bool) (o : Option ℕ) (blocks : ℕ) → blocks < 2 ^ 32 → ((block : ℕ) → is block ≡ nat_lt block blocks) → small_natural o ≡ None
    → (or_cause cause.Block o >>= λ block. rule cause.Block (is block) >>= λ there. Ok (make block)) ≡ Err cause.Block
no_block make is None blocks few known none = refl
no_block make is (Some n) blocks few known none = rw (known n, le-ltb n blocks (omega (arith, few, large_by n (is_small n) refl none))) refl
