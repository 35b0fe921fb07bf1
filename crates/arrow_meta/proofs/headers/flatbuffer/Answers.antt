use Rattle.std.proofs.Common.{◌∙◌, ◌+◌, ap, arith, length}
use Rattle.arrow_spec.specs.Metadata.{message_table}
use Rattle.arrow_meta.specs.Headers.{header_of, most_of}
use Rattle.arrow_meta.specs.Laying.{IsLaid}
use Rattle.arrow_meta.proofs.FieldLemmas.{root-written, root-long}
use Rattle.arrow_meta.proofs.headers.flatbuffer.Goals as goal

pub returns-clause-bytes : goal.returns-clause-bytes
returns-clause-bytes c =
    c.from.ensures
    ∙ root-written (message_table (header_of c.args.header.now) c.args.body) (120 + most_of c.args.header.now)
    c.in_ok-root.root c.in_ok-build.build c.lay_message.new.build
    c.in_ok-finish.field-0.items c.in_ok-build.ensures c.in_ok-root.ensures c.in_ok-finish.ensures

pub returns-clause-short : goal.returns-clause-short
returns-clause-short c =
    let root : IsLaid (message_table (header_of c.args.header.now) c.args.body) (120 + most_of c.args.header.now) c.in_ok-build.build c.lay_message.new.build c.in_ok-root.root = c.in_ok-root.ensures in
    let long = root-long _ _ _ c.in_ok-build.build c.lay_message.new.build c.in_ok-finish.field-0.items c.in_ok-build.ensures root c.in_ok-finish.ensures in
    omega (arith, ap length c.from.ensures, long)
