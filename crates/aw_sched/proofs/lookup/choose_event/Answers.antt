use Rattle.std.proofs.Common.{sym, map, subst}
use Rattle.std.specs.Prelude.{Ok}
use Rattle.aw_grammar.specs.Written.{written_of}
use Rattle.aw_grammar.specs.GrammarOf.{declarations_of, grammar_of, words_of}
use Rattle.aw_base.specs.NodeNames.{node_named}
use Rattle.aw_sched.specs.Lines.{ChooseLine}
use Rattle.aw_sched.specs.Events.{event_of, is_long, line_kind}
use Rattle.aw_sched.specs.LineEvents.{GivesEvent, SaysNode}
use Rattle.aw_sched.specs.declared.lookup.NodeSaid.TheVariants.{Valid, Faulty}
use Rattle.aw_sched.proofs.LineLaws.{choose_fault, choose_good, choose_name}
use Rattle.aw_sched.proofs.lookup.choose_event.Goals as goal
use Rattle.aw_sched.proofs.lookup.choose_event.Goals.{in-Ok, in-Err}

pub returns-after-chosen_args-clause-gives : goal.returns-after-chosen_args-clause-gives
returns-after-chosen_args-clause-gives c =
    let g = c.args.g.now in
    let n = c.args.node.now in
    let args = map written_of c.args.args in
    let line = ChooseLine n c.args.rule.now args in
    let says = SaysNode (grammar_of g) (is_long n) (node_named (words_of g) (grammar_of g) n) in
    let said : says Faulty = subst says c.in-Faulty.is c.in_ok-said_node.ensures.ok in
    let gives = GivesEvent (line_kind (declarations_of g) line) (event_of (declarations_of g) line) in
    elim c.match-chosen_args.branch [
      | in-Ok w ↦ subst gives (sym w.result-is) (choose_name g n c.args.rule.now args said.0 w.in-Ok.ensures.kind said.1)
      | in-Err w ↦ subst gives (sym w.result-is) (choose_fault g n c.args.rule.now args (event_of (declarations_of g) line) w.in-Err.fault said.0 w.in-Err.ensures)
    ]

pub returns-in_ok-of_choice-in-Ok-chosen_args-clause-gives : goal.returns-in_ok-of_choice-in-Ok-chosen_args-clause-gives
returns-in_ok-of_choice-in-Ok-chosen_args-clause-gives c =
    let g = c.args.g.now in
    let n = c.args.node.now in
    let node = c.in-Valid.node in
    let says = SaysNode (grammar_of g) (is_long n) (node_named (words_of g) (grammar_of g) n) in
    let said : says (Valid node) = subst says c.in-Valid.is c.in_ok-said_node.ensures.ok in
    let line = ChooseLine n c.args.rule.now (map written_of c.args.args) in
    subst (λ e. GivesEvent (line_kind (declarations_of g) line) (event_of (declarations_of g) line) (Ok e)) (sym c.in_ok-of_choice-in-Ok-chosen_args.ensures)
    (choose_good g n c.args.rule.now (map written_of c.args.args) node c.in-Ok-chosen_args.rule c.in-Ok-chosen_args.args said.0 said.1.0 c.in-Ok-chosen_args.ensures)

pub returns-in-Err-chosen_args-clause-gives : goal.returns-in-Err-chosen_args-clause-gives
returns-in-Err-chosen_args-clause-gives c =
    let g = c.args.g.now in
    let n = c.args.node.now in
    let args = map written_of c.args.args in
    let line = ChooseLine n c.args.rule.now args in
    let says = SaysNode (grammar_of g) (is_long n) (node_named (words_of g) (grammar_of g) n) in
    let said : says (Valid c.in-Valid.node) = subst says c.in-Valid.is c.in_ok-said_node.ensures.ok in
    choose_fault g n c.args.rule.now args (event_of (declarations_of g) line) c.in-Err-chosen_args.fault said.0 c.in-Err-chosen_args.ensures
