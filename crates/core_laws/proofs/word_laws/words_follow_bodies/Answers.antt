use Rattle.core_laws.proofs.Words.Keeping.{words_have_room, words_open, words_tell_images}
use Rattle.core_laws.proofs.word_laws.words_follow_bodies.Goals as goal

pub returns-clause-opens : goal.returns-clause-opens
returns-clause-opens c = words_open

pub returns-clause-room : goal.returns-clause-room
returns-clause-room c = words_have_room

pub returns-clause-images : goal.returns-clause-images
returns-clause-images c = words_tell_images
