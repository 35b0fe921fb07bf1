use Rattle.std.proofs.Common.{◌+◌, ◌-◌, ◌∙◌, ap, subst, List, ℕ, Some, drop, take, length, refl}
use Rattle.std.proofs.lemmas.List.{take_rest}
use Rattle.cell_model.specs.declared.cell.Cell.{Cell}
use Rattle.stream_spec.specs.Streams.{Known, known_by}
use Rattle.ipc_read.specs.Looks.{TakesWhole, newest_of}
use Rattle.ipc_read.proofs.LookLemmas.{look-schema, found-by, with-none}
use Rattle.ipc_read.proofs.looking.look_first.Goals as goal

pub returns-in_ok-newer-in-Ok : goal.returns-in_ok-newer-in-Ok
returns-in_ok-newer-in-Ok g c =
    let bytes = c.args.bytes.now in
    let schema = c.in-Ok.schema in
    let taken = c.in_ok-newer-in-Ok.field-0 in
    let size = c.size-size.result in
    let Took : List (List Cell) → Type 0 =
    λ rows. g.T.TakeBatches.took c.args.taker.now rows c.take_whole.new.taker in
    let OfKnown : Known → Type 0 =
    λ known. TakesWhole Took known size (take (length bytes - size) (drop size bytes)) taken.known taken.count taken.stand in
    let OfPlace : ℕ → Type 0 =
    λ place. TakesWhole Took (known_by schema) place (take (length bytes - size) (drop size bytes)) taken.known taken.count taken.stand in
    let OfBytes : List ℕ → Type 0 =
    λ rest. TakesWhole Took (known_by schema) schema.size rest taken.known taken.count taken.stand in
    found-by Took bytes (Some (newest_of (known_by schema) taken.known)) (Some c.last.result)
    (schema.size + taken.count) (size + taken.count) taken.stand taken.stand
    (ap (λ (known : Known). Some known)
    (c.last.ensures ∙ ap (λ (known : Known). newest_of known taken.known) c.in_ok-known-in-Ok.ensures))
    (ap (λ size. size + taken.count) c.size-size.ensures) refl
    (look-schema bytes schema c.in-Ok.ensures.ok c.in-Ok.ensures.inside Took taken.known taken.count taken.stand
    (subst OfBytes (take_rest bytes size ∙ ap (λ size. drop size bytes) c.size-size.ensures)
    (subst OfPlace c.size-size.ensures
    (subst OfKnown c.in_ok-known-in-Ok.ensures c.in_ok-newer-in-Ok.ensures))))

pub returns-in-Err-Fault : goal.returns-in-Err-Fault
returns-in-Err-Fault g c =
    with-none _ (g.met.T.TakeBatches.none c.args.taker.now) c.args.bytes.now _ _ _ c.no_schema.ensures
