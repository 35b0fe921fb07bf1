-- A fault that is handed on.
use Rattle.std.proofs.Common.{◌≡◌, ℕ, Ok, Err, refl, sym, subst, true≢false}
use Rattle.std.specs.Prelude.{◌≢◌, IfErr, Result}
use Rattle.std.specs.Result.{IsErr, IsErrAnd, result_and}
use Rattle.store_rounds.specs.declared.fault.RunFault.{RunFault}
use Rattle.store_rounds.specs.declared.fault.RunFault.TheVariants as fault
use Rattle.store_rounds.specs.Workloads.{CountsExportFault, CountsOutFault}

-- what a result with this fault has, the result has that it is handed on as
pub handed_on : {T : Type 0} (P : Result T RunFault → Type 0) (r : Result T RunFault) (failed : RunFault)
    → IsErr r × IsErrAnd r (λ x. x ≡ failed) → P (Err failed) → P r
handed_on P (Ok value) failed is holds = absurd (true≢false (sym is.0))
handed_on P (Err x) failed is holds = subst (λ (f : RunFault). P (Err f)) (sym is.1) holds

-- the outlet's count says of a fault the same, whatever was to be made
pub counts_on : (T U : Type 0) (before now : ℕ) (failed : RunFault)
    → CountsExportFault {T = T} before now (Err failed) → CountsExportFault {T = U} before now (Err failed)
counts_on T U before now fault.Out same = same
counts_on T U before now fault.Export rose = rose
counts_on T U before now fault.Memory same = same
counts_on T U before now fault.Log same = same
counts_on T U before now fault.GroupTooLong same = same

-- a fault that is not the output's leaves its count
pub not_of_output : (T : Type 0) (before now : ℕ) (failed : RunFault)
    → failed ≢ fault.Out → now ≡ before → CountsOutFault {T = T} before now (Err failed)
not_of_output T before now fault.Out other same = absurd (other refl)
not_of_output T before now fault.Export other same = same
not_of_output T before now fault.Memory other same = same
not_of_output T before now fault.Log other same = same
not_of_output T before now fault.GroupTooLong other same = same

-- what both faults have, has the first of them
pub either_fault : {T U : Type 0} (P : RunFault → Type 0) (r : Result T RunFault) (s : Result U RunFault) → IfErr r P → IfErr s P → IfErr (result_and r s) P
either_fault P (Ok value) s first second = second
either_fault P (Err failed) s first second = first
