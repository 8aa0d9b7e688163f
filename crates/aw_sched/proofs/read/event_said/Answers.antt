use Rattle.aw_term_reader.specs.Lexemes.{lexemes}
use Rattle.aw_term_reader.proofs.SoundTerms.{tokens_are_sound}
use Rattle.aw_sched.specs.LineSeen.{line_seen}
use Rattle.aw_sched.proofs.SoundLines.{sound_line}
use Rattle.aw_sched.proofs.read.event_said.Goals as goal

pub said_event-requires-clause-contents : goal.said_event-requires-clause-contents
said_event-requires-clause-contents c =
    let line = c.args.line.now in
    let tokens = c.args.tokens.now in
    sound_line (lexemes line tokens) (line_seen c.in-Ok.said) (tokens_are_sound line 0 tokens c.requires.slices) c.in-Ok.ensures
