use Rattle.std.proofs.Common.{◌*◌, length, arith, ap, List}
use Rattle.cell_model.specs.declared.table.TableDecl.{TableDecl}
use Rattle.core_parts.proofs.Numbering.{few_bodies}
use Rattle.core_parts.specs.Numbers.{after_bodies}
use Rattle.core_parts.proofs.shape.Shape.new.Goals as goal

pub numbers_of-requires : goal.numbers_of-requires
numbers_of-requires c =
    let few = c.requires.tables_few in
    let same = ap (λ (tables : List TableDecl). after_bodies (9 * length tables) tables) c.deref.ensures.value in
    let all = few_bodies (9 * length c.args.tables.items) c.args.tables.items c.requires.blocks_few in omega (arith, few, all, same)
