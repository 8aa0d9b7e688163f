use Rattle.std.proofs.Common.{◌≡◌, ◌+◌, ◌≤◌, ◌∙◌, sym, subst, false, true}
use Rattle.aw_grammar.specs.GrammarOf.{grammar_of}
use Rattle.aw_node_list.specs.HeldView.{all_of}
use Rattle.aw_store.specs.EquationView.{equation_of}
use Rattle.aw_store.proofs.NameLemmas.{all_named-grown}
use Rattle.aw_law_sites.specs.ValidNames.{equation_ok}
use Rattle.aw_law_sites.specs.Worklists.{site_worklist}
use Rattle.aw_standing.specs.Items.{waiting_on}
use Rattle.aw_standing.specs.KeptStates.{IsFitKept, IsKept}
use Rattle.aw_space.specs.Sound.{all_inherited}
use Rattle.aw_space.specs.Spaces.{is_home}
use Rattle.aw_space.proofs.FewParts.{few_valid}
use Rattle.aw_space.proofs.Keeping.{learnt_done, learnt_valid, learnt_facts}
use Rattle.aw_space.proofs.space.Space.learn.Goals as goal

pub learn-requires-clause-few : goal.learn-requires-clause-few
learn-requires-clause-few g c = few_valid c.args.g.now.grammar (equation_of c.args.e) c.requires.ok

pub learn-requires-clause-fits : goal.learn-requires-clause-fits
learn-requires-clause-fits g c =
    let old = c.args.self.now in
    subst (λ x. IsFitKept (grammar_of x) (g.F.Facts.names old.facts) old.kept) (sym (c.grammar.ensures.value ∙ c.requires.grammar)) (old.held.numbers, old.stands.fits)

pub returns-clause-facts : goal.returns-clause-facts
returns-clause-facts g c = learnt_facts _ _ c.args.e c.learn.result c.learn.ensures.added c.learn.ensures.err

pub returns-clause-steps : goal.returns-clause-steps
returns-clause-steps g c =
    let old = c.args.self.now in
    let k = g.F.Facts.map old.facts in
    let hs = old.held.items in
    let r = c.grammar.ensures.value in
    let s = r ∙ c.requires.grammar in
    subst (λ n. c.learn.new.steps ≤ c.args.steps.now + n) (λ i. waiting_on c.args.e.left (site_worklist (grammar_of (r i)) k (all_of (grammar_of (s i)) hs)))
    (c.learn.ensures.steps old.held (subst (λ x. IsKept (grammar_of x) old.held k (g.F.Facts.names old.facts) old.kept) (sym s) old.stands))

pub invariant_of-self : goal.invariant_of-self
invariant_of-self g c =
    let old = c.args.self.now in
    let gr = grammar_of old.accepted.now.grammar in
    let s = c.grammar.ensures.value ∙ c.requires.grammar in
    let hs = old.held.items in
    let facts = c.learn.new.facts in
    let other = subst (λ x. is_home (grammar_of x) old.role c.args.e.left.node ≡ false) c.requires.grammar c.requires.other in
    let ok = subst (λ x. equation_ok (grammar_of x) (equation_of c.args.e) ≡ true) c.requires.grammar c.requires.ok in
    record {
      sound = record {
        ordered = old.sound.ordered;
        own = old.sound.own;
        done = learnt_done gr old.role hs _ _ c.args.e c.learn.result c.learn.ensures.added c.learn.ensures.err other old.sound.done;
        rooted = old.sound.rooted;
        named = all_named-grown _ _ (all_inherited hs) c.learn.ensures.names old.sound.named;
      };
      valid = record {
        nodes = old.valid.nodes;
        equations = learnt_valid gr _ _ c.args.e c.learn.result c.learn.ensures.added c.learn.ensures.err ok old.valid.equations;
      };
      stands = subst (λ x. IsKept (grammar_of x) old.held (g.F.Facts.map facts) (g.F.Facts.names facts) c.learn.new.kept) s
          (c.learn.ensures.kept old.held (subst (λ x. IsKept (grammar_of x) old.held (g.F.Facts.map old.facts) (g.F.Facts.names old.facts) old.kept) (sym s) old.stands));
    }
