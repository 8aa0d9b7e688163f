use Rattle.std.proofs.Common.{◌≡◌, ◌∙◌, ◌&&◌, true, false, map, length, sym, ap}
use Rattle.aw_term.specs.Trees.{Made, Nil}
use Rattle.aw_term.specs.Views.{pattern_of, head_of}
use Rattle.aw_grammar.specs.Written.{written_of}
use Rattle.aw_grammar.specs.Resolved.{numbered}
use Rattle.aw_grammar.specs.Kinds.{con_called}
use Rattle.aw_grammar.specs.Faultless.{is_declared, is_faultless, all_faultless}
use Rattle.aw_grammar.specs.GrammarOf.{words_of}
use Rattle.aw_grammar.proofs.MadeLemmas.{made_pattern}
use Rattle.aw_grammar.proofs.FaultlessTerms.{faultless_apply, made_none, made_some, placed_number}
use Rattle.aw_grammar.proofs.resolve.+patterns.Goals as goal

pub to_pattern-returns-in_default : goal.to_pattern-returns-in_default
to_pattern-returns-in_default t c =
    let g = c.args.grammar.now in let names = c.args.variables.now.names in
    let name = c.in-Apply.name in let parts = c.in-Apply.parts in
    let here : is_declared (length parts) (con_called name g.cons) ≡ false = ap (λ n. is_declared n (con_called name g.cons)) (sym c.len.ensures) ∙ c.in_default.ensures in
    faultless_apply g.cons names c.args.term.now name parts c.in-Apply.is ∙ ap (λ b. b && all_faultless g.cons names (map written_of parts)) here

pub to_pattern-returns-in_default-2 : goal.to_pattern-returns-in_default-2
to_pattern-returns-in_default-2 t c =
    let g = c.args.grammar.now in let names = c.args.variables.now.names in
    let name = c.in-Apply.name in let parts = c.in-Apply.parts in
    let all = all_faultless g.cons names (map written_of parts) in
    let here : is_declared (length parts) (con_called name g.cons) ≡ true = ap (λ n. is_declared n (con_called name g.cons)) (sym c.len.ensures) ∙ c.in-Some.ensures.0 in
    faultless_apply g.cons names c.args.term.now name parts c.in-Apply.is ∙ ap (λ b. b && all) here
    ∙ made_none all (λ made. map pattern_of made ≡ map (numbered (words_of g).cons names) (map written_of parts)) c.in_ok-made-in-Apply.field-0 c.in_default-2.is c.in_ok-made-in-Apply.ensures

pub to_pattern-returns-in_ok-copy_lit-in-Lit : goal.to_pattern-returns-in_ok-copy_lit-in-Lit
to_pattern-returns-in_ok-copy_lit-in-Lit t c =
    let g = c.args.grammar.now in let names = c.args.variables.now.names in (
      ap (λ w. is_faultless g.cons names (written_of w)) c.in-Lit.is,
      ap (λ l. Made (head_of l) Nil) c.in_ok-copy_lit-in-Lit.ensures ∙ sym (ap (λ w. numbered (words_of g).cons names (written_of w)) c.in-Lit.is),
    )

pub to_pattern-returns-in-Some-2 : goal.to_pattern-returns-in-Some-2
to_pattern-returns-in-Some-2 t c =
    let g = c.args.grammar.now in let names = c.args.variables.now.names in
    let name = c.in-Apply.name in let parts = c.in-Apply.parts in
    let all = all_faultless g.cons names (map written_of parts) in
    let here : is_declared (length parts) (con_called name g.cons) ≡ true = ap (λ n. is_declared n (con_called name g.cons)) (sym c.len.ensures) ∙ c.in-Some.ensures.0 in
    let made = made_some all (λ made. map pattern_of made ≡ map (numbered (words_of g).cons names) (map written_of parts))
    c.in_ok-made-in-Apply.field-0 c.in-Some-2.made c.in-Some-2.is c.in_ok-made-in-Apply.ensures in (
      faultless_apply g.cons names c.args.term.now name parts c.in-Apply.is ∙ ap (λ b. b && all) here ∙ made.0,
      made_pattern (words_of g).cons names c.args.term.now name parts c.in-Some.con c.in-Some-2.made c.in-Apply.is
          (placed_number (words_of g).cons name c.in-Some.con c.in-Some.ensures.1) made.1,
    )
