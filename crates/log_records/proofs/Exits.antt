-- What an early exit hands on.
use Rattle.std.proofs.Common.{◌≡◌, Result, Err, sym, ◌∙◌}
use Rattle.std.specs.Prelude.{IsErrAnd}
use Rattle.std.proofs.lemmas.Result.{err_from_is_err_and}
use Rattle.log_records.specs.declared.fault.RecordFault.{RecordFault}
use Rattle.log_records.specs.declared.fault.RecordFault.TheVariants.{Form, Memory}

-- the fault that is handed on is the one that was met
pub form_met : {T : Type 0} (given : Result T RecordFault) (met : RecordFault) → IsErrAnd given (λ fault. fault ≡ met) → given ≡ Err Form → met ≡ Form
form_met given met is form =
    let p = err_from_is_err_and given is in
    let same : Err p.0 ≡ Err Form = sym p.1 ∙ form in
    cc

-- want of memory is no fault of the form
pub memory_met : {T : Type 0} {P : Type 0} (given : Result T RecordFault) → IsErrAnd given (λ fault. fault ≡ Memory) → given ≡ Err Form → P
memory_met given is form =
    let p = err_from_is_err_and given is in
    let same : Err p.0 ≡ Err Form = sym p.1 ∙ form in
    let never : Memory ≡ Form = cc in
    cc
