-- What the program finds in its grammar tells the role of a parent, and which names of a valid message are valid.
use Rattle.std.proofs.Common.{◌≡◌, ℕ, ◌-◌, true, false, ◌&&◌, not, nat_eq, length, Option, Some, None, is_some, slice_get, option_map, refl, sym, ap, ◌∙◌}
use Rattle.std.specs.Option.{unwrap_or}
use Rattle.std.proofs.lemmas.Bool.{and_parts}
use Rattle.std.proofs.lemmas.Option.{slice_get-map}
use Rattle.aw_term.specs.Names.{Step, Node}
use Rattle.aw_term.specs.Rules as P
use Rattle.aw_term.specs.Rules.{role_of, sort_of, last_step}
use Rattle.aw_term.proofs.LastSteps.{last_step_at}
use Rattle.aw_grammar.specs.GrammarView.{rule_of}
use Rattle.aw_grammar.specs.GrammarOf.{grammar_of}
use Rattle.aw_grammar.specs.declared.grammar.Grammar.{Grammar}
use Rattle.aw_grammar.specs.declared.rule.Rule.{Rule}
use Rattle.aw_apply.specs.Made.{Call}
use Rattle.aw_law_sites.specs.Homes.{home, parent, has_steps}
use Rattle.aw_law_sites.specs.ValidNames.{refs_ok, takes_as, call_ok}
use Rattle.aw_site.specs.Parents.{home_before}
use Rattle.aw_site.proofs.ParentHomes.{home_of_parent, steps_exact}

-- the role behind a rule that may be there
abbrev role_behind : Grammar → Option P.Rule → ℕ
role_behind g o = unwrap_or (option_map (λ (r : P.Rule). role_of (grammar_of g).sorts r.sort) o) 0

pub home_before_rule : (g : Grammar) (step : Step) (r : Rule) (role : ℕ) → Some r ≡ slice_get g.rules step.rule → role ≡ role_of (grammar_of g).sorts r.sort → role ≡ home_before (grammar_of g) step
home_before_rule g step r role e is =
    is ∙ ap (role_behind g) (sym (slice_get-map (rule_of g.sorts) g.rules step.rule ∙ ap (option_map (rule_of g.sorts)) (sym e)))

pub home_before_none : (g : Grammar) (step : Step) → None ≡ slice_get g.rules step.rule → 0 ≡ home_before (grammar_of g) step
home_before_none g step e = ap (role_behind g) (sym (slice_get-map (rule_of g.sorts) g.rules step.rule ∙ ap (option_map (rule_of g.sorts)) (sym e)))

-- a child of another role is called, by the last step of its name
pub called_by_last : (g : P.Grammar) (role : ℕ) (n : Node) (last : Step) (r : ℕ) → is_some (sort_of g n) ≡ true → Some last ≡ slice_get n.steps (length n.steps - 1) → r ≡ home_before g last
    → not (nat_eq r role) ≡ (has_steps n.steps && not (nat_eq (home g (parent n)) role))
called_by_last g role n last r valid at is =
    let found : last_step n.steps ≡ Some last = last_step_at n.steps ∙ sym at in
    ap (λ x. not (nat_eq x role)) (is ∙ sym (home_of_parent g n last valid found))
    ∙ ap (λ b. b && not (nat_eq (home g (parent n)) role)) (sym (steps_exact n.steps ∙ ap is_some found))

-- a start node is not called
pub start_not_called : (n : Node) → None ≡ slice_get n.steps (length n.steps - 1) → has_steps n.steps ≡ false
start_not_called n at = steps_exact n.steps ∙ ap is_some (last_step_at n.steps ∙ sym at)

sort_where_takes : (g : P.Grammar) (o : Option ℕ) (c : Call) → takes_as g o c.inherited ≡ true → is_some o ≡ true
sort_where_takes g None c e = absurd cc
sort_where_takes g (Some s) c e = refl

-- the node of a valid call is valid
pub called_valid : (g : P.Grammar) (c : Call) → call_ok g c ≡ true → is_some (sort_of g c.node) ≡ true
called_valid g c e =
    let (takes, refs) = and_parts (takes_as g (sort_of g c.node) c.inherited) (refs_ok g c.inherited) e in
    sort_where_takes g (sort_of g c.node) c takes
