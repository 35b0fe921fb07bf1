use Rattle.std.proofs.Common.{◌≡◌, ◌∙◌, ◌++◌, ◌∷◌, [], ℕ, List, Option, Some, ap, sym}
use Rattle.std.specs.Prelude.{flat_map}
use Rattle.std.proofs.lemmas.List.{flat_map_more}
use Rattle.arrow_spec.specs.Batches.{Array, batch_of_arrays}
use Rattle.arrow_spec.specs.DictBatches.{Dictionary}
use Rattle.arrow_spec.specs.Streams.{dictionary_message, message_of}
use Rattle.ipc_message.specs.Messages.{bytes_of}
use Rattle.ipc_message.proofs.messages.add_dictionary.Goals as goal

pub returns-in_ok-push-in-Some : goal.returns-in_ok-push-in-Some
returns-in_ok-push-in-Some c =
    let id : Option ℕ = Some c.args.id in
    let dictionary : Dictionary = c.in-Some.dictionary in
    let given : Some dictionary ≡ c.args.dictionary.now = cc (c.in-Some.is) in
    let made : bytes_of c.in_ok-array_message-in-Some.field-0 ≡ dictionary_message (c.args.id, c.args.dictionary.now) =
    c.in_ok-array_message-in-Some.ensures
    ∙ ap (λ (arrays : List Array). message_of id (batch_of_arrays c.size.result arrays))
    (c.from_ref-values.ensures.value ∙ ap (λ (array : Array). array ∷ []) c.array.ensures.array)
    ∙ ap (λ (size : ℕ). message_of id (batch_of_arrays size (dictionary.array ∷ []))) c.size.ensures
    ∙ ap (λ (d : Option Dictionary). dictionary_message (c.args.id, d)) given in
    ap (flat_map bytes_of) c.in_ok-push-in-Some.ensures.items
    ∙ sym (flat_map_more bytes_of [] c.args.messages.now.items c.in_ok-array_message-in-Some.field-0)
    ∙ ap (λ (bytes : List ℕ). flat_map bytes_of c.args.messages.now.items ++ bytes) made
