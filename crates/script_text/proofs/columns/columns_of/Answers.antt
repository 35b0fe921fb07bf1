use Rattle.std.proofs.Common.{◌≡◌, ◌∷◌, ◌++◌, [], Ok, true, sym, ◌∙◌, ap}
use Rattle.workload_spec.specs.Grammar.{has_colon, column_of}
use Rattle.word_read.specs.Cursor.{words_behind}
use Rattle.script_text.proofs.Taken.{columns_step}
use Rattle.script_text.proofs.columns.columns_of.Goals as goal

pub loop-word-preserved : goal.loop-word-preserved
loop-word-preserved c =
    let pushed : c.push-in-Some.new.self.items ≡ c.loop-word.columns.items ++ c.in_ok-column.column ∷ [] = c.in_ok-push-2.ensures.items in
    let first : words_behind c.loop-word.rest.now ≡ c.in-Some.word.now ∷ words_behind c.in-Some.behind.now = c.in-Some.ensures.some in
    let colon : has_colon c.in-Some.word.now ≡ true = sym c.has_colon.ensures ∙ c.if-not-has_colon.false in
    let read : column_of c.args.extent.now c.loop-word.columns.items c.in-Some.word.now ≡ Ok c.in_ok-column.column = ap (λ columns. column_of c.args.extent.now columns c.in-Some.word.now) (sym c.deref.ensures.value) ∙ c.in_ok-column.ensures in
    rw pushed (sym (columns_step c.args.extent.now c.loop-word.columns.items (words_behind c.loop-word.rest.now) c.in-Some.word.now (words_behind c.in-Some.behind.now) c.in_ok-column.column first colon read) ∙ c.loop-word.invariant)
