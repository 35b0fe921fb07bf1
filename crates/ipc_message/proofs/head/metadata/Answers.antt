use Rattle.std.proofs.Common.{◌≡◌, ℕ, ℤ, List, Option, Some, None, subst}
use Rattle.std.specs.Prelude.{IfOk}
use Rattle.arrow_spec.specs.Metadata.{flatbuffer_of}
use Rattle.arrow_spec.specs.Streams.{batch_header}
use Rattle.ipc_message.proofs.head.metadata.Goals as goal

pub returns-in-Some-clause-bytes : goal.returns-in-Some-clause-bytes
returns-in-Some-clause-bytes c =
    let given : Some c.in-Some.id ≡ c.args.id = cc (c.in-Some.is) in
    let fits : ℕ → List (ℤ × ℤ) → Option ℕ → Type 0 = λ rows places id.
    IfOk c.dictionary_message.result (λ bytes. bytes ≡ flatbuffer_of (batch_header id rows c.args.nodes.now places) c.args.body.now.size) in
    subst (λ (id : Option ℕ). fits c.args.rows c.args.body.now.places.items id) given
    (subst (λ (places : List (ℤ × ℤ)). fits c.args.rows places (Some c.in-Some.id)) c.as_slice-places.ensures.value
    (subst (λ (rows : ℕ). fits rows c.as_slice-places.result.now (Some c.in-Some.id)) c.from-rows.ensures c.dictionary_message.ensures.bytes))

pub returns-in-None-clause-bytes : goal.returns-in-None-clause-bytes
returns-in-None-clause-bytes c =
    let given : None ≡ c.args.id = cc (c.in-None.is) in
    let fits : ℕ → List (ℤ × ℤ) → Option ℕ → Type 0 = λ rows places id.
    IfOk c.batch_message.result (λ bytes. bytes ≡ flatbuffer_of (batch_header id rows c.args.nodes.now places) c.args.body.now.size) in
    subst (λ (id : Option ℕ). fits c.args.rows c.args.body.now.places.items id) given
    (subst (λ (places : List (ℤ × ℤ)). fits c.args.rows places None) c.as_slice-places.ensures.value
    (subst (λ (rows : ℕ). fits rows c.as_slice-places.result.now None) c.from-rows.ensures c.batch_message.ensures.bytes))
