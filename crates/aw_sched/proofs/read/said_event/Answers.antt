use Rattle.std.proofs.Common.{◌≡◌, ◌∙◌, sym, ap, subst}
use Rattle.aw_term.specs.Rules as P
use Rattle.aw_grammar.specs.GrammarOf.{declarations_of, grammar_of}
use Rattle.aw_grammar.proofs.Entries.{declared_grammar}
use Rattle.aw_typed.specs.Typing.{types_of}
use Rattle.aw_sched.specs.Answers.{event_seen}
use Rattle.aw_sched.specs.Events.{event_of, line_kind}
use Rattle.aw_sched.specs.LineEvents.{ReadsLine}
use Rattle.aw_sched.specs.LineSeen.{line_seen}
use Rattle.aw_sched.specs.Schedules.{LineRead, by_kind, by_type}
use Rattle.aw_sched.proofs.read.said_event.Goals as goal

pub returns-in-Ok-clause-reads : goal.returns-in-Ok-clause-reads
returns-in-Ok-clause-reads c =
    let g = c.args.g.now in
    let d = declarations_of g in
    let t = types_of c.args.t.now.types in
    let line = line_seen c.args.line in
    let gives = c.in-Ok.ensures.gives in
    let same : by_kind t d line (line_kind d line) ≡ by_type t (grammar_of g) (event_seen c.in-Ok.event) =
    ap (by_kind t d line) gives.0 ∙ ap (λ (h : P.Grammar). by_type t h (event_of d line)) (sym (declared_grammar g)) ∙ ap (by_type t (grammar_of g)) gives.1 in
    subst (λ (r : LineRead). ReadsLine r c.typed_event.result) (sym same) c.typed_event.ensures.reads
