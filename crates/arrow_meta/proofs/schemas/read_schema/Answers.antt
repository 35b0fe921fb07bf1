use Rattle.std.proofs.Common.{◌≡◌, ◌+◌, ◌*◌, ◌-◌, ℕ, List, map, sym, ap, subst, ◌∙◌, Ok, Err}
use Rattle.std.specs.List.{range_with_len}
use Rattle.arrow_spec.specs.declared.fields.Field.{Field}
use Rattle.stream_spec.specs.Metadata.{fields_behind, schema_field_at}
use Rattle.arrow_meta.proofs.ReadLemmas.{field_fails, field_next, next_range, same_fault}
use Rattle.arrow_meta.specs.declared.fields.NotRead.TheVariants as not_read
use Rattle.arrow_meta.proofs.schemas.read_schema.Goals as goal

pub returns-in-Err-clause-fault : goal.returns-in-Err-clause-fault
returns-in-Err-clause-fault c fault is =
    let bytes = c.args.bytes.now in
    let fields = c.in_ok-schema.schema.fields in
    let i = c.loop-i.i in
    let place : ℕ → ℕ = λ (j : ℕ). fields.first + 4 * j in
    let before = c.loop-i.fields.items in
    c.loop-i.invariant
    ∙ (ap (λ (r : List ℕ). fields_behind bytes before (map place r)) (next_range i fields.count c.loop-i-test.true)
    ∙ field_fails bytes before (place i) (map place (range_with_len (i + 1) (fields.count - (i + 1)))) fault
    (subst (λ (l : List Field). schema_field_at bytes l (place i) ≡ Err fault) c.deref.ensures.value
    (c.in-Err.ensures.fault fault (same_fault c.in-Err.fault (not_read.Fault fault) is))))

pub loop-i-preserved : goal.loop-i-preserved
loop-i-preserved c =
    let bytes = c.args.bytes.now in
    let fields = c.in_ok-schema.schema.fields in
    let i = c.loop-i.i in
    let place : ℕ → ℕ = λ (j : ℕ). fields.first + 4 * j in
    let before = c.loop-i.fields.items in
    let rest : List ℕ = map place (range_with_len (i + 1) (fields.count - (i + 1))) in
    c.loop-i.invariant
    ∙ (ap (λ (r : List ℕ). fields_behind bytes before (map place r)) (next_range i fields.count c.loop-i-test.true)
    ∙ (field_next bytes before (place i) rest c.in-Ok.field
    (subst (λ (l : List Field). schema_field_at bytes l (place i) ≡ Ok c.in-Ok.field) c.deref.ensures.value c.in-Ok.ensures.ok)
    ∙ ap (λ (l : List Field). fields_behind bytes l rest) (sym c.in_ok-push-in-Ok.ensures.items)))
