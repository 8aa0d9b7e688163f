use Rattle.aw_term_reader.proofs.SoundTerms as sound
use Rattle.aw_term_reader.proofs.law.tokens_are_sound.Goals as goal

pub returns-clause-lexemes : goal.returns-clause-lexemes
returns-clause-lexemes c = sound.tokens_are_sound

pub returns-clause-contents : goal.returns-clause-contents
returns-clause-contents c = sound.texts_are_contents
