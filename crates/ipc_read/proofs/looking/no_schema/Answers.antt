use Rattle.std.proofs.Common.{◌∙◌, ap, sym, length, None, Err}
use Rattle.stream_pieces.specs.declared.stand.Stand.TheVariants as stand
use Rattle.stream_spec.specs.Streams.{fault_at}
use Rattle.stream_spec.specs.declared.fault.Cause.{Cause}
use Rattle.stream_spec.specs.declared.fault.Cause.TheVariants as cause
use Rattle.ipc_read.specs.Looks.{NoRows}
use Rattle.ipc_read.proofs.LookLemmas.{found-by, look-ends, look-fails, look-waits, is-short}
use Rattle.ipc_read.proofs.looking.no_schema.Goals as goal

pub returns-then-not-is_short : goal.returns-then-not-is_short
returns-then-not-is_short c =
    let bytes = c.args.bytes.now in
    found-by NoRows bytes None _ (length bytes) _ (stand.Stopped (fault_at 0 c.args.cause)) _
    (c.nothing.ensures.known) c.nothing.ensures.count c.nothing.ensures.stand
    (look-fails bytes c.args.cause c.requires (sym c.is_short.ensures ∙ c.if-not-is_short.true))

pub returns-then-tells_end : goal.returns-then-tells_end
returns-then-tells_end c =
    let bytes = c.args.bytes.now in
    let short = is-short c.args.cause (sym c.is_short.ensures ∙ c.if-not-is_short.false) in
    found-by NoRows bytes None _ (length bytes) _ (stand.Stopped (fault_at 0 cause.Short)) _
    c.nothing-then-tells_end.ensures.known
    c.nothing-then-tells_end.ensures.count
    (c.nothing-then-tells_end.ensures.stand
    ∙ ap (λ (why : Cause). stand.Stopped (fault_at 0 why)) short)
    (look-ends bytes (c.requires ∙ ap (λ (why : Cause). Err why) short) (sym c.tells_end.ensures
    ∙ c.if-tells_end.true))

pub returns : goal.returns
returns c =
    let bytes = c.args.bytes.now in
    let short = is-short c.args.cause (sym c.is_short.ensures ∙ c.if-not-is_short.false) in
    found-by NoRows bytes None _ 0 _ stand.Going _
    c.nothing-2.ensures.known c.nothing-2.ensures.count
    c.nothing-2.ensures.stand
    (look-waits bytes (c.requires ∙ ap (λ (why : Cause). Err why) short) (sym c.tells_end.ensures
    ∙ c.if-tells_end.false))
