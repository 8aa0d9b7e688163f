use Rattle.std.proofs.Common.{◌≡◌, ◌+◌, ◌∙◌, suc, sym, ap, subst, arith}
use Rattle.aw_lex.specs.Lines.{lines_of}
use Rattle.aw_grammar.specs.GrammarOf.{declarations_of}
use Rattle.aw_typed.specs.Typing.{types_of}
use Rattle.aw_sched.specs.Schedules.{in_front, read_line, read_lines}
use Rattle.aw_sched.specs.Readers.{ReadsOn, left}
use Rattle.aw_sched.proofs.ReadEvents.{reads_on}
use Rattle.aw_sched.proofs.reader.ScheduleReader.read_line.Goals as goal

pub returns-clause-next : goal.returns-clause-next
returns-clause-next c =
    let self = c.args.self.now in
    let types = types_of self.typed.now.types in
    let all = declarations_of self.grammar.now in
    let behind = lines_of c.args.behind.now in
    let said = read_line types all c.args.line.now in
    let later = read_lines types all (suc (self.line + 1)) behind in
    let one : self.line + 1 ≡ suc self.line = omega arith in
    let here : left self ≡ in_front (self.line + 1) said later =
    ap (read_lines types all (suc self.line)) c.requires.line ∙ ap (λ n. in_front n said (read_lines types all (suc n) behind)) (sym one) in
    let step = reads_on (self.line + 1) said later c.line_event-found.result c.line_event-found.ensures.reads in
    subst (λ before. ReadsOn before c.at_line.result later) (sym here) (subst (λ r. ReadsOn (in_front (self.line + 1) said later) r later) (sym c.at_line.ensures) step)
