use Rattle.std.proofs.Common.{◌+◌, ◌≤◌, subst}
use Rattle.aw_grammar.specs.GrammarOf.{grammar_of}
use Rattle.aw_node_list.specs.HeldView.{all_of}
use Rattle.aw_law_sites.specs.Worklists.{site_worklist}
use Rattle.aw_standing.specs.Items.{waiting_on}
use Rattle.aw_space.proofs.Waking.{fits_named, grown_same}
use Rattle.aw_space.proofs.learning.learn.Goals as goal

pub returns-in-Err-clause-kept : goal.returns-in-Err-clause-kept
returns-in-Err-clause-kept g c row w = grown_same (grammar_of c.args.grammar.now) row _ _ _ _ c.args.kept.now c.intern.ensures.map c.intern.ensures.names w

pub tell-requires-clause-fits : goal.tell-requires-clause-fits
tell-requires-clause-fits g c = fits_named (grammar_of c.args.grammar.now) _ _ c.args.kept.now c.intern.ensures.names c.requires.fits

pub returns-in-Ok-clause-kept : goal.returns-in-Ok-clause-kept
returns-in-Ok-clause-kept g c row w = c.tell.ensures.kept row (grown_same (grammar_of c.args.grammar.now) row _ _ _ _ c.args.kept.now c.intern.ensures.map c.intern.ensures.names w)

pub returns-in-Ok-clause-steps : goal.returns-in-Ok-clause-steps
returns-in-Ok-clause-steps g c row w =
    let gr = grammar_of c.args.grammar.now in
    subst (λ k. c.tell.new.steps ≤ c.args.steps.now + waiting_on c.args.e.left (site_worklist gr k (all_of gr row.items))) c.intern.ensures.map
    (c.tell.ensures.steps row (grown_same gr row _ _ _ _ c.args.kept.now c.intern.ensures.map c.intern.ensures.names w))
