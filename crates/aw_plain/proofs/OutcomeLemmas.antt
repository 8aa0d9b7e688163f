-- What a choice leads to at a row that is found.
use Rattle.std.proofs.Common.{◌≡◌, ◌<◌, ℕ, Bool, true, false, cond, List, [], ◌∷◌, length, Option, Some, None, slice_get, option_map, sym, ap, ◌∙◌, subst}
use Rattle.std.proofs.lemmas.Option.{slice_get-map}
use Rattle.std.specs.Option.{option_copied}
use Rattle.std.specs.Borrow.{Bor}
use Rattle.aw_term.specs.Names.{Node, node_eq}
use Rattle.aw_term.specs.Rules.{Ground}
use Rattle.aw_term.specs.Configs as Q
use Rattle.aw_term.specs.Configs.{Config, row_of}
use Rattle.aw_term.specs.Choices.{at_rule, at_state, at_row}
use Rattle.aw_term.specs.WellFormed.{Each}
use Rattle.aw_grammar.specs.declared.grammar.Grammar.{Grammar}
use Rattle.aw_grammar.specs.declared.rule.Rule.{Rule}
use Rattle.aw_grammar.specs.GrammarView.{rule_of}
use Rattle.aw_grammar.specs.GrammarOf.{grammar_of}
use Rattle.aw_plain_rows.specs.declared.tree.Tree.{Tree}
use Rattle.aw_plain_rows.specs.declared.row.Row.{Row}
use Rattle.aw_plain_rows.specs.declared.row.State.TheVariants.{Pending}
use Rattle.aw_plain.specs.declared.outcome.Outcome.{Outcome}
use Rattle.aw_plain.specs.declared.outcome.Outcome.TheVariants.{Refused, Takes}
use Rattle.aw_plain_rows.specs.RowView.{plain_row, plain_state}
use Rattle.aw_plain.specs.OutcomeView.{IsTakable}

-- what a look-up gives, through the view
pub found_row : (n : Node) (c : Config) (found : Option (Bor Row)) (row : Bor Row) → option_map plain_row (option_copied found) ≡ row_of n c → found ≡ Some row → row_of n c ≡ Some (plain_row row.now)
found_row n c found row e f = sym e ∙ ap (λ o. option_map plain_row (option_copied o)) f

pub found_rule : (rules : List Rule) (number : ℕ) (found : Option (Bor Rule)) (rule : Bor Rule) → option_copied found ≡ slice_get rules number →
    found ≡ Some rule → slice_get rules number ≡ Some rule.now
found_rule rules number found rule e f = sym e ∙ ap option_copied f

pub no_rule : (rules : List Rule) (number : ℕ) (found : Option (Bor Rule)) → option_copied found ≡ slice_get rules number → found ≡ None → slice_get rules number ≡ None
no_rule rules number found e f = sym e ∙ ap option_copied f

pub at_open : (g : Grammar) (number : ℕ) (rule : Option Rule) (n : Node) (args : List Ground) (row : Row) (c : Config) →
    slice_get g.rules number ≡ rule → row.state ≡ Pending → row_of n c ≡ Some (plain_row row) → at_rule (option_map (rule_of g.sorts) rule) n args
    (plain_row row) ≡ at_row (row_of n c) (grammar_of g) n number args
at_open g number rule n args row c here pending found =
    sym (ap (λ o. at_row o (grammar_of g) n number args) found
    ∙ ap (λ s. at_state (plain_state s) (grammar_of g) n number args (plain_row row)) pending
    ∙ ap (λ o. at_rule o n args (plain_row row)) (slice_get-map (rule_of g.sorts) g.rules number ∙ ap (option_map (rule_of g.sorts)) here))

pub takable_here : (rules : List Rule) (number : ℕ) (rule : Rule) (n : Node) (o : Outcome) → slice_get rules number ≡ Some rule →
    IsTakable (λ r. r ≡ rule) n o → IsTakable (λ r. slice_get rules number ≡ Some r) n o
takable_here rules number rule n (Refused answer) here w = tt
takable_here rules number rule n (Takes taken bound) here w = (here ∙ ap Some (sym w.0), w.1)

-- what is known of the rule that is taken
pub of_taken : (IsIt : Rule → Type 0) (n : Node) (o : Outcome) (rule : Bor Rule) (bound : List Tree) → o ≡ Takes rule bound → IsTakable IsIt n o →
    IsIt rule.now × (0 < length rule.now.children → length n.steps < 250)
of_taken IsIt n o rule bound e w = subst (IsTakable IsIt n) e w

found_cases : (P : Q.Row → Type 0) (x q : Q.Row) (later : Option Q.Row) (b : Bool) → cond b (Some x) later ≡ Some q → P x → (later ≡ Some q → P q) → P q
found_cases P x q later true e here next = let same : x ≡ q = cc in subst P same here
found_cases P x q later false e here next = next e

-- what holds of each row holds of the one of a node
pub found_each : (P : Q.Row → Type 0) (n : Node) (c : Config) (q : Q.Row) → row_of n c ≡ Some q → Each P c → P q
found_each P n [] q e each = absurd cc
found_each P n (x ∷ xs) q e each = found_cases P x q (row_of n xs) (node_eq n x.node) e each.0 (λ f. found_each P n xs q f each.1)
