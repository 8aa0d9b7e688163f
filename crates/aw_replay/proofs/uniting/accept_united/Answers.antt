use Rattle.aw_grammar.specs.GrammarOf.{grammar_of}
use Rattle.aw_replay.proofs.Circles.{never_told}
use Rattle.aw_replay.proofs.uniting.accept_united.Goals as goal

pub unreachable-requires : goal.unreachable-requires
unreachable-requires c =
    let a = c.args.accepted.now in
    let arm = c.in-Err-Circular in
    never_told (grammar_of a.grammar) c.args.one arm.field-0-0 arm.field-0-1 arm.field-0-2 arm.field-0 arm.field-0-is c.requires.grammar a.sound arm.ensures.circular
