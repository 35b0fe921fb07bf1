use Rattle.std.proofs.Common.{◌++◌, replicate, false, arith}
use Rattle.flat_column.proofs.BitmapLemmas.{Holds, Holds-from, Holds-extended, Holds-view, Holds-invariant}
use Rattle.flat_column.proofs.bit_list.Bits.extend.Goals as goal

longer : (c : goal.After-self-1) → Holds c.resize.new.self.items c.in-Some.len (c.args.self.now ++ replicate c.args.n false)
longer c =
    Holds-extended c.self.inside.bytes.items c.resize.new.self.items c.self.inside.len c.in-Some.len c.args.n c.div_ceil.result
    c.self.inside.bytes.len c.args.self.now
    (Holds-from c.self.inside.bytes.items c.self.inside.len c.args.self.now c.self.view_is c.self.invariant)
    c.in-Some.ensures.1 c.div_ceil.ensures c.self.inside.bytes.ok.0 c.in_ok-resize.ensures.items

pub invariant_of-self-2 : goal.invariant_of-self-2
invariant_of-self-2 c = Holds-invariant c.resize.new.self.items c.in-Some.len (c.args.self.now ++ replicate c.args.n false) (longer c) (let fits = c.in-Some.ensures in omega arith)

pub returns-clause-ok : goal.returns-clause-ok
returns-clause-ok c = Holds-view c.resize.new.self.items c.in-Some.len (c.args.self.now ++ replicate c.args.n false) (longer c)
