use Rattle.std.proofs.Common.{◌≡◌, ◌∙◌, false, ◌||◌, sym, ap}
use Rattle.std.proofs.lemmas.Bool.{or_from}
use Rattle.aw_name_index.specs.Places.{any_stands, has_double}
use Rattle.aw_grammar.specs.Written.{rule_of_raw}
use Rattle.aw_grammar.specs.Resolved.{entering}
use Rattle.aw_grammar.specs.Declarations.{entry_of}
use Rattle.aw_grammar.specs.Kinds.{is_past_counts, is_past_terms}
use Rattle.aw_grammar.specs.Faultless.{is_faultless_rule}
use Rattle.aw_grammar.specs.GrammarOf.{declarations_of, words_of, entry}
use Rattle.aw_grammar.proofs.RuleTold.{found_variables, few_params}
use Rattle.aw_grammar.proofs.FaultlessTerms.{made_none, made_some}
use Rattle.aw_grammar.proofs.FaultlessRule.{entering_free, no_fault_told, never_told_late}
use Rattle.aw_grammar.proofs.made.checked_rule.Goals as goal

pub faultless_rule-requires-clause-few : goal.faultless_rule-requires-clause-few
faultless_rule-requires-clause-few c =
    few_params (declarations_of c.args.grammar.now) (rule_of_raw c.args.rule.now) (sym c.is_past_counts.ensures ∙ c.if-is_past_counts.false)

pub faultless_rule-requires-clause-free : goal.faultless_rule-requires-clause-free
faultless_rule-requires-clause-free c =
    let g = c.args.grammar.now in
    let found = found_variables c.as_slice.result.now c.in_ok-variables.field-0 c.in-Some-2.variables c.in-Some-2.is c.in_ok-variables.ensures in
    ap (λ ns. any_stands ns (words_of g).cons) (found.1 ∙ c.as_slice.ensures ∙ c.in_ok-names.ensures)
    ∙ entering_free (declarations_of g) (rule_of_raw c.args.rule.now) c.in_default.ensures

pub returns-in-Some-3 : goal.returns-in-Some-3
returns-in-Some-3 c =
    let g = c.args.grammar.now in let d = declarations_of g in let w = rule_of_raw c.args.rule.now in
    let fits : (is_past_counts d w || is_past_terms w) ≡ false =
    or_from (is_past_counts d w) (is_past_terms w) (sym c.is_past_counts.ensures ∙ c.if-is_past_counts.false) (sym c.is_past_terms.ensures ∙ c.if-is_past_terms.false) in
    let found = found_variables c.as_slice.result.now c.in_ok-variables.field-0 c.in-Some-2.variables c.in-Some-2.is c.in_ok-variables.ensures in
    let once : has_double (entering (words_of g).cons w) ≡ false = ap has_double (sym (c.as_slice.ensures ∙ c.in_ok-names.ensures)) ∙ found.0 in
    let made = made_some (is_faultless_rule d w) (λ r. entry g.sorts r ≡ entry_of d w) c.in_ok-made.field-0 c.in-Some-3.made c.in-Some-3.is c.in_ok-made.ensures in
    (no_fault_told d w fits c.in_default.ensures once made.0, made.1)

pub returns : goal.returns
returns c =
    let g = c.args.grammar.now in let d = declarations_of g in let w = rule_of_raw c.args.rule.now in
    let fits : (is_past_counts d w || is_past_terms w) ≡ false =
    or_from (is_past_counts d w) (is_past_terms w) (sym c.is_past_counts.ensures ∙ c.if-is_past_counts.false) (sym c.is_past_terms.ensures ∙ c.if-is_past_terms.false) in
    let found = found_variables c.as_slice.result.now c.in_ok-variables.field-0 c.in-Some-2.variables c.in-Some-2.is c.in_ok-variables.ensures in
    let once : has_double (entering (words_of g).cons w) ≡ false = ap has_double (sym (c.as_slice.ensures ∙ c.in_ok-names.ensures)) ∙ found.0 in
    let wrong = made_none (is_faultless_rule d w) (λ r. entry g.sorts r ≡ entry_of d w) c.in_ok-made.field-0 c.in-None.is c.in_ok-made.ensures in
    never_told_late d w c.late_kind-in-None.result fits c.in_default.ensures once wrong c.late_kind-in-None.ensures
