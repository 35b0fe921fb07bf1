use Rattle.word_read.specs.Cursor.{words_behind}
use Rattle.script_text.proofs.Schemas.{columns_make}
use Rattle.script_text.proofs.columns.schema_of.Goals as goal

pub new-requires : goal.new-requires
new-requires c = (columns_make c.args.extent.now (words_behind c.args.words.now) _ c.requires c.in_ok-columns.ensures).named

pub unreachable-requires : goal.unreachable-requires
unreachable-requires c =
    let sound = (columns_make c.args.extent.now (words_behind c.args.words.now) _ c.requires c.in_ok-columns.ensures).sound in
    let judged = c.in-Err.ensures.judged in
    cc
