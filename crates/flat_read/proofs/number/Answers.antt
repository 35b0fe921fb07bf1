use Rattle.std.proofs.Common.{◌∙◌, ap}
use Rattle.byteorder.specs.Endian.{little_number}
use Rattle.flat_read.proofs.ReadingLemmas.{number_at-held, number_from-piece}
use Rattle.flat_read.proofs.number.Goals as goal

pub returns : goal.returns
returns c =
    number_at-held c.args.bytes.now c.args.at c.args.width c.read_uint.result c.in_ok-piece.ensures.held
    (c.read_uint.ensures ∙ ap (little_number c.args.width) c.in_ok-piece.ensures.piece ∙ number_from-piece c.args.bytes.now c.args.at c.args.width)
