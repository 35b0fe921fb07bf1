use Rattle.std.proofs.Common.{◌∙◌, [], ap, sym, arith}
use Rattle.std.specs.Prelude.{flat_map}
use Rattle.std.proofs.lemmas.List.{flat_map_more}
use Rattle.ipc_message.specs.Messages.{bytes_of}
use Rattle.ipc_message.proofs.MessageLemmas.{all-messages, one-more}
use Rattle.ipc_message.proofs.messages.dict_messages.Goals as goal

pub loop-id-preserved : goal.loop-id-preserved
loop-id-preserved c =
    one-more c.dictionaries-dictionaries.result.now c.loop-id.id c.index-dictionaries-id.result
    (flat_map bytes_of c.loop-id.messages.items) (flat_map bytes_of c.add_dictionary.new.messages.items)
    c.loop-id-test.true c.index-dictionaries-id.is c.loop-id.invariant c.in_ok-add_dictionary.ensures

pub returns : goal.returns
returns c =
    ap (flat_map bytes_of) c.in_ok-push.ensures.items
    ∙ sym (flat_map_more bytes_of [] c.loop-id.messages.items c.in_ok-array_message.field-0)
    ∙ all-messages c.args.dicts.now c.dictionaries-dictionaries.result.now c.arrays-arrays.result.now c.rows.result c.loop-id.id
    (flat_map bytes_of c.loop-id.messages.items) (bytes_of c.in_ok-array_message.field-0)
    c.dictionaries-dictionaries.ensures.dictionaries c.arrays-arrays.ensures.arrays c.rows.ensures (omega arith)
    c.loop-id.invariant c.in_ok-array_message.ensures
