use Rattle.std.proofs.Common.{◌∙◌}
use Rattle.aw_choice.specs.ChoiceView.{choice_of}
use Rattle.aw_grammar.specs.GrammarOf.{grammar_of}
use Rattle.aw_law_sites.specs.Worlds.{node_of}
use Rattle.aw_list.proofs.Fronts.{on_err_held as err_any}
use Rattle.aw_node.proofs.SiteReplies.{here_at}
use Rattle.aw_node.proofs.sites.SiteNodeWorkspace.choose.Goals as goal

pub choose-requires-clause-here : goal.choose-requires-clause-here
choose-requires-clause-here g c = here_at g.F.Facts c.args.self.now (grammar_of c.args.g.now.grammar) (node_of (choice_of c.args.c.now)) c.requires.here

pub returns-in_err-answer-clause-err : goal.returns-in_err-answer-clause-err
returns-in_err-answer-clause-err g c = λ s shown. err_any c.from_residual.result (c.in_err-answer.ensures.err ∙ shown)
