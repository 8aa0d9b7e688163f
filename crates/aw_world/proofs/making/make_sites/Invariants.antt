use Rattle.std.proofs.Common.{◌≡◌, ℕ, Some, true, length, map}
use Rattle.std.specs.Prelude.{slice_get}
use Rattle.aw_grammar.specs.GrammarOf.{grammar_of}
use Rattle.aw_term.specs.Rules.{upto}
use Rattle.aw_law_sites.specs.Sites as P
use Rattle.aw_term.specs.SameGrammar.{same_grammar}
use Rattle.aw_world.proofs.making.make_sites.Given as goal

abbrev pub invariant-loop-role : goal.invariant-loop-role
invariant-loop-role g l = record {
  count : length l.sites.items ≡ l.role;
  shown : map (λ w. g.W.Workspace.seen w) l.sites.items ≡ map (P.empty_site l.loads) (upto 0 l.role);
  role : (i : ℕ) (x : g.row.W.Denot) → slice_get l.sites.items i ≡ Some x → g.W.Workspace.its_role x ≡ i;
  grammar : (i : ℕ) (x : g.row.W.Denot) → slice_get l.sites.items i ≡ Some x → same_grammar (g.W.Workspace.its_grammar x) (grammar_of l.accepted.grammar) ≡ true;
}
