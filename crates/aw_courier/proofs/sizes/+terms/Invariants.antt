use Rattle.std.proofs.Common.{drop, map}
use Rattle.aw_term.specs.Views.{term_of}
use Rattle.aw_term.specs.WellFormed.{Each}
use Rattle.aw_law_nodes.specs.Sizes.{TreeSized}
use Rattle.aw_courier.proofs.sizes.+terms.Given as goal

abbrev pub invariant-see_terms-loop-term : goal.invariant-see_terms-loop-term
invariant-see_terms-loop-term l = Each TreeSized (map term_of (drop l.term-index l.term-items)) → Each TreeSized (map term_of l.terms)
