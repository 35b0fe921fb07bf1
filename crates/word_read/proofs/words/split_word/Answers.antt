use Rattle.workload_spec.specs.Reading.{AtStart}
use Rattle.word_read.proofs.WordEnds.{words_split}
use Rattle.word_read.proofs.words.split_word.Goals as goal

pub returns-clause-words : goal.returns-clause-words
returns-clause-words c = cc (words_split AtStart c.args.line.now)
