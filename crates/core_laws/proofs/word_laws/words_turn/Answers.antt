use Rattle.core_laws.proofs.Words.Keeping.{thaws_its_body, words_stay, words_turn}
use Rattle.core_laws.proofs.word_laws.words_turn.Goals as goal

pub returns-clause-turns : goal.returns-clause-turns
returns-clause-turns c = words_turn

pub returns-clause-stay : goal.returns-clause-stay
returns-clause-stay c = words_stay

pub returns-clause-thaws : goal.returns-clause-thaws
returns-clause-thaws c = thaws_its_body
