use Rattle.std.proofs.Common.{◌∙◌, sym, eq-eqb}
use Rattle.std.proofs.lemmas.Bool.{eqb-true}
use Rattle.flat_column.proofs.BitmapLemmas.{Holds-from, All-from_count, count-from_All}
use Rattle.flat_column.proofs.bit_list.Bits.all_ones.Goals as goal

pub returns : goal.returns
returns c =
    let size = (Holds-from c.self.inside.bytes.items c.self.inside.len c.args.self.now c.self.view_is c.self.invariant).size in (
      λ same. All-from_count c.args.self.now (sym c.count.ensures ∙ eqb-true c.count.result c.self.inside.len same ∙ size),
      λ all. eq-eqb c.count.result c.self.inside.len (c.count.ensures ∙ count-from_All c.args.self.now all ∙ sym size),
    )
