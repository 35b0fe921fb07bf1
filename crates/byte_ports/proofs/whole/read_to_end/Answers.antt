use Rattle.std.proofs.lemmas.Result.{err_from_is_err_and}
use Rattle.std.proofs.KnownBytes.{Consumes-trans}
use Rattle.byte_ports.proofs.whole.read_to_end.Goals as goal

pub returns-in_err-extend_from_slice-clause-err : goal.returns-in_err-extend_from_slice-clause-err
returns-in_err-extend_from_slice-clause-err g c =
    let exit = c.from_residual-in_err-extend_from_slice in
    let p = err_from_is_err_and exit.result exit.ensures.1 in
    rw (p.1) (_, Consumes-trans _ _ _ _ _ c.loop-source.invariant.bytes c.in_ok-count.ensures.bytes.0)
