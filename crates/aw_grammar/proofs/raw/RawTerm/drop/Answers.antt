use Rattle.std.proofs.Common.{◌≡◌, ◌+◌, ◌≤◌, ◌∷◌, [], ◌++◌, suc, arith, ap, sym, ◌∙◌}
use Rattle.std.specs.declared.vec.Vec.{Vec}
use Rattle.std.specs.declared.alloc.Global.{Global}
use Rattle.aw_grammar.specs.declared.raw.RawTerm.{RawTerm}
use Rattle.aw_grammar.specs.Written.{written_of}
use Rattle.aw_grammar.specs.Terms.{symbols_in}
use Rattle.aw_grammar.proofs.TermLemmas.{symbols_apply}
use Rattle.aw_grammar.proofs.Emptying.{symbols_left, symbols_open, left_append, some_symbols, falls_hand, falls_all}
use Rattle.aw_grammar.proofs.raw.RawTerm.drop.Goals as goal
use Rattle.aw_grammar.proofs.raw.RawTerm.drop.Goals.{in-Some-open, in_default}

pub loop-self-smaller-in-Some : goal.loop-self-smaller-in-Some
loop-self-smaller-in-Some c =
    let kids = c.pop.new.self.items in
    let whole : symbols_in (written_of c.loop-self.self) ≡ suc (symbols_left (kids ++ c.in-Some.last ∷ [])) =
    ap (λ t. symbols_in (written_of t)) c.in-Apply.is ∙ symbols_apply c.in-Apply.name c.in-Apply.parts ∙ ap (λ ts. suc (symbols_left ts)) (sym c.into_vec-parts.ensures ∙ c.in-Some.ensures.items) in
    let split : symbols_left (kids ++ c.in-Some.last ∷ []) ≡ symbols_left kids + (symbols_in (written_of c.in-Some.last) + 0) = left_append kids (c.in-Some.last ∷ []) in
    let hung : symbols_left c.match-open.parts.items ≤ symbols_left kids + symbols_open c.loop-self.open + 1 =
    elim c.match-open.branch [
      | in-Some-open w ↦ omega (arith, ap (λ (v : Vec RawTerm Global). symbols_left v.items) w.parts-is, w.hang_rest-parts.ensures, ap symbols_open w.in-Some-open.is)
      | in_default w ↦ omega (arith, ap (λ (v : Vec RawTerm Global). symbols_left v.items) w.parts-is)
    ] in
    falls_hand _ _ _ _ (omega (arith, whole, split, hung)) (omega (arith, whole, split))

pub loop-self-smaller : goal.loop-self-smaller
loop-self-smaller c =
    let rest = c.pop-in-Some-open-2.new.self.items in
    let split : symbols_left (rest ++ c.in-Some-pop.last ∷ []) ≡ symbols_left rest + (symbols_in (written_of c.in-Some-pop.last) + 0) = left_append rest (c.in-Some-pop.last ∷ []) in
    let was : symbols_open c.loop-self.open ≡ symbols_left (rest ++ c.in-Some-pop.last ∷ []) = ap symbols_open c.in-Some-open-2.is ∙ ap symbols_left c.in-Some-pop.ensures.items in
    falls_all _ _ _ _ (omega (arith, split, was, some_symbols (written_of c.loop-self.self))) (omega arith)
