use Rattle.std.proofs.Common.{◌≡◌, true, ◌&&◌, map, ap, sym, ◌∙◌}
use Rattle.aw_name_index.specs.Places.{stands}
use Rattle.aw_grammar.specs.Written.{written_of}
use Rattle.aw_grammar.specs.Kinds.{is_known, all_known}
use Rattle.aw_grammar.proofs.TermLemmas.{known_apply}
use Rattle.aw_grammar.proofs.terms.+known.Goals as goal

pub is_known-returns-then-contains : goal.is_known-returns-then-contains
is_known-returns-then-contains t c =
    let cons = c.args.cons.now in
    let here : stands c.in-Apply.name cons ≡ true = ap (λ n. stands n cons) (sym c.as_slice.ensures) ∙ sym c.contains.ensures ∙ c.if-contains.true in
    c.are_known.ensures
    ∙ sym (ap (λ b. b && all_known cons (map written_of c.in-Apply.parts)) here)
    ∙ sym (ap (λ w. is_known cons (written_of w)) c.in-Apply.is ∙ known_apply cons c.in-Apply.name c.in-Apply.parts)
