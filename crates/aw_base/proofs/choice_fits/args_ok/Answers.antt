use Rattle.std.proofs.Common.{◌∙◌, ap, is_some, map, arith}
use Rattle.aw_term.specs.Views.{ground_of}
use Rattle.aw_grammar.specs.GrammarOf.{grammar_of}
use Rattle.aw_base.specs.Allowance.{left_after_all}
use Rattle.aw_base.proofs.Allowances.{few_left}
use Rattle.aw_base.proofs.choice_fits.args_ok.Goals as goal

pub returns-then-len-le-MOST_ARGUMENTS : goal.returns-then-len-le-MOST_ARGUMENTS
returns-then-len-le-MOST_ARGUMENTS c =
    let g = grammar_of c.args.g.now in
    c.is_some.ensures
    ∙ ap is_some (c.left_after_all.ensures ∙ ap (λ ts. left_after_all g.arities 32 256 (map ground_of ts)) c.as_slice.ensures)
    ∙ few_left ground_of g c.args.args.now (omega arith)
