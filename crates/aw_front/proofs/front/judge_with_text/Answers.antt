use Rattle.std.proofs.Common.{subst}
use Rattle.std.specs.Prelude.{IfOk}
use Rattle.std.proofs.lemmas.Result.{IfOk-weaker}
use Rattle.aw_grammar.specs.declared.grammar.Grammar.{Grammar}
use Rattle.aw_front.specs.Fronts.{IsJudged}
use Rattle.aw_front.proofs.front.judge_with_text.Goals as goal

pub returns-clause-judged : goal.returns-clause-judged
returns-clause-judged c = subst (λ (g : Grammar). IfOk c.judge_behind.result (λ r. IsJudged g r.0)) c.grammar_alone-grammar.ensures c.judge_behind.ensures.judged

pub returns-clause-text : goal.returns-clause-text
returns-clause-text c = IfOk-weaker c.judge_behind.result _ _ (λ r is. rw is at c.text_of-text.ensures) c.judge_behind.ensures.text
