use Rattle.std.proofs.Common.{ℕ, ℤ, List, take, ap, ◌∙◌, subst}
use Rattle.std.specs.Int.{Width}
use Rattle.std.specs.List.{flat_map}
use Rattle.std.proofs.lemmas.List.{take-map}
use Rattle.std.proofs.lemmas.List.Folds.{flat_map-map}
use Rattle.cell_model.specs.declared.cell.Cell.{Cell}
use Rattle.cell_model.specs.declared.kind.Kind.{Kind}
use Rattle.cell_model.specs.Kinds.{values_of}
use Rattle.arrow_spec.specs.Arrays.{number_of}
use Rattle.arrow_spec.specs.Bytes.{number_bytes}
use Rattle.block_columns.specs.declared.store.Store.{Store}
use Rattle.block_columns.specs.Cells.{IsStoreOf, Stores}
use Rattle.block_columns.proofs.Lent.{numbers_apart, strip_width, strips_apart, width_of}
use Rattle.block_columns.proofs.Striped.{strips-bytes}
use Rattle.block_columns.proofs.store.Store.fixed_bytes.Goals as goal

pub returns-in-Numbers-clause-numbers : goal.returns-in-Numbers-clause-numbers
returns-in-Numbers-clause-numbers c = λ (kind : Kind) (width : Width) (cells : List Cell) known stored same.
    c.bytes.ensures.arrow width (width_of (values_of kind) c.in-Numbers.numbers.width c.in-Numbers.numbers.signed width (subst (λ (s : Store). IsStoreOf kind s) c.in-Numbers.is known) same)
    ∙ ap (λ (xs : List ℤ). flat_map (number_bytes width) (take c.args.n xs)) (subst (λ (s : Store). Stores s cells) c.in-Numbers.is stored)
    ∙ ap (λ (xs : List ℤ). flat_map (number_bytes width) xs) (take-map number_of c.args.n cells)
    ∙ flat_map-map (number_bytes width) number_of (take c.args.n cells)

pub returns-in-Numbers-clause-strips : goal.returns-in-Numbers-clause-strips
returns-in-Numbers-clause-strips c = λ (kind : Kind) (width : ℕ) (cells : List Cell) known stored same.
    absurd (numbers_apart (values_of kind) c.in-Numbers.numbers.width c.in-Numbers.numbers.signed width (subst (λ (s : Store). IsStoreOf kind s) c.in-Numbers.is known) same)

pub returns-in-Strips-clause-numbers : goal.returns-in-Strips-clause-numbers
returns-in-Strips-clause-numbers c = λ (kind : Kind) (width : Width) (cells : List Cell) known stored same.
    absurd (strips_apart (values_of kind) c.in-Strips.strips.width width (subst (λ (s : Store). IsStoreOf kind s) c.in-Strips.is known) same)

pub returns-in-Strips-clause-strips : goal.returns-in-Strips-clause-strips
returns-in-Strips-clause-strips c = λ (kind : Kind) (width : ℕ) (cells : List Cell) known stored same.
    c.bytes-in-Strips.ensures
    ∙ strips-bytes c.in-Strips.strips cells c.args.n width (subst (λ (s : Store). Stores s cells) c.in-Strips.is stored)
    (strip_width (values_of kind) c.in-Strips.strips.width width (subst (λ (s : Store). IsStoreOf kind s) c.in-Strips.is known) same)
