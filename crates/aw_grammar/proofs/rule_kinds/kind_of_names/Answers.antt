use Rattle.std.proofs.Common.{◌≡◌, ◌∙◌, ◌≤◌, length, false, nat_lt, sym, ap, refl, subst}
use Rattle.std.proofs.lemmas.Bool.{le-ltb}
use Rattle.aw_name_index.specs.Places.{stands}
use Rattle.aw_term.specs.Limits.{most_variables}
use Rattle.aw_grammar.specs.Written.{rule_of_raw}
use Rattle.aw_grammar.specs.Resolved.{entering}
use Rattle.aw_grammar.specs.Declarations.{rule_names}
use Rattle.aw_grammar.specs.GrammarOf.{words_of, declarations_of}
use Rattle.aw_grammar.proofs.Entries.{names_of_entries}
use Rattle.aw_grammar.proofs.Tests.{skip_test, stop_test}
use Rattle.aw_grammar.proofs.rule_kinds.kind_of_names.Goals as goal

pub returns-then-contains : goal.returns-then-contains
returns-then-contains c =
    let g = c.args.grammar.now in let w = rule_of_raw c.args.rule.now in
    let few : nat_lt most_variables (length (entering (words_of g).cons w)) ≡ false =
    le-ltb most_variables _ (subst (λ n. n ≤ most_variables) (c.len.ensures ∙ ap length c.requires) c.if-len-gt-MOST_VARIABLES.false) in
    skip_test _ _ _ _ few (stop_test _ _ _
    (ap (stands w.name) (sym (names_of_entries g.sorts g.rules) ∙ sym g.rule_names) ∙ ap (λ n. stands n g.rule_index) (sym c.as_slice.ensures) ∙ sym c.contains.ensures ∙ c.if-contains.true))

pub returns-then-clashes : goal.returns-then-clashes
returns-then-clashes c =
    let g = c.args.grammar.now in let w = rule_of_raw c.args.rule.now in
    let few : nat_lt most_variables (length (entering (words_of g).cons w)) ≡ false =
    le-ltb most_variables _ (subst (λ n. n ≤ most_variables) (c.len.ensures ∙ ap length c.requires) c.if-len-gt-MOST_VARIABLES.false) in
    let new : stands w.name (rule_names (declarations_of g)) ≡ false =
    ap (stands w.name) (sym (names_of_entries g.sorts g.rules) ∙ sym g.rule_names) ∙ ap (λ n. stands n g.rule_index) (sym c.as_slice.ensures) ∙ sym c.contains.ensures ∙ c.if-contains.false in
    skip_test _ _ _ _ few (skip_test _ _ _ _ new (stop_test _ _ _ (sym c.clashes.ensures ∙ c.if-clashes.true)))

pub returns : goal.returns
returns c =
    let g = c.args.grammar.now in let w = rule_of_raw c.args.rule.now in
    let few : nat_lt most_variables (length (entering (words_of g).cons w)) ≡ false =
    le-ltb most_variables _ (subst (λ n. n ≤ most_variables) (c.len.ensures ∙ ap length c.requires) c.if-len-gt-MOST_VARIABLES.false) in
    let new : stands w.name (rule_names (declarations_of g)) ≡ false =
    ap (stands w.name) (sym (names_of_entries g.sorts g.rules) ∙ sym g.rule_names) ∙ ap (λ n. stands n g.rule_index) (sym c.as_slice.ensures) ∙ sym c.contains.ensures ∙ c.if-contains.false in
    skip_test _ _ _ _ few (skip_test _ _ _ _ new (skip_test _ _ _ _ (sym c.clashes.ensures ∙ c.if-clashes.false) refl))
