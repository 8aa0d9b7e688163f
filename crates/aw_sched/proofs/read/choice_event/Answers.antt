use Rattle.std.proofs.Common.{◌∙◌, refl, sym, ap, subst}
use Rattle.std.specs.Prelude.{IfSome}
use Rattle.aw_grammar.specs.GrammarOf.{declarations_of, grammar_of}
use Rattle.aw_typed.specs.Typing.{types_of}
use Rattle.aw_sched.specs.Answers.{MayCome, event_seen}
use Rattle.aw_sched.specs.Lines.{choice_at}
use Rattle.aw_sched.specs.Schedules.{by_form, by_type}
use Rattle.aw_sched.proofs.ChoiceLines.{cut_choice_reads}
use Rattle.aw_sched.proofs.read.choice_event.Goals as goal

pub returns-in-Ok-typed_event-clause-reads : goal.returns-in-Ok-typed_event-clause-reads
returns-in-Ok-typed_event-clause-reads c =
    let t = types_of c.args.t.now.types in
    let g = c.args.g.now in
    let rest = c.in_ok-node.rest.now in
    let named = c.in_ok-node.ensures.names in
    let known = c.in-Ok.ensures in
    cut_choice_reads t (declarations_of g) c.args.line.now named.text rest known.says.0 known.says.0
    (by_type t (grammar_of g) (event_seen c.in-Ok.event)) c.in-Ok-typed_event.event named.cut known.says.1 refl
    (ap (λ ls. by_form t (declarations_of g) (choice_at named.text ls)) known.says.2 ∙ known.gives t named.text named.names) c.in-Ok-typed_event.ensures.reads

pub returns-in-Ok-typed_event-clause-fits : goal.returns-in-Ok-typed_event-clause-fits
returns-in-Ok-typed_event-clause-fits c =
    let g = c.args.g.now in
    let named = c.in_ok-node.ensures.names in
    subst (λ o. IfSome o (MayCome (grammar_of g))) (sym c.in-Ok-typed_event.ensures.same) (c.in-Ok.ensures.fits named.text named.names)
