-- Widening in steps.
use Rattle.std.proofs.Common.{ℕ, ◌≤◌, Bool, true, false, refl, ◌∙◌, subst, sym, arith}
use Rattle.aw_grammar.specs.declared.grammar.Grammar.{Grammar}
use Rattle.aw_grammar.specs.GrammarOf.{grammar_of}
use Rattle.aw_iograph.specs.declared.io.Io.{Io}
use Rattle.aw_iograph.specs.Growth.{Grown, unset}
use Rattle.aw_iograph.specs.Dependence.{Follows}
use Rattle.aw_iograph.specs.Pairs.{Has}
use Rattle.aw_iograph.specs.Widening.{IsWidened}
use Rattle.aw_iograph.proofs.Sweeps.{has_grown}
use Rattle.aw_iograph.proofs.Relations.{follows_again}

pub widened_same : (g : Grammar) (io : Io) → IsWidened g io io
widened_same g io = record { size = refl; held = λ s i j has. has; follows = λ s i j has. (0, has); left = omega arith }

pub widened_both : (g : Grammar) (a b c : Io) → IsWidened g a b → IsWidened g b c → IsWidened g a c
widened_both g a b c p q = record {
  size = q.size ∙ p.size;
  held = λ s i j has. q.held s i j (p.held s i j has);
  follows = λ s i j has. follows_again (grammar_of g) (Has a) (Has b) p.follows s i j (q.follows s i j has);
  left = (let x = p.left in let y = q.left in omega arith);
}

grown_left : (old new : Io) (b : Bool) → Grown old.marks.items new.marks.items b → unset new.marks.items ≤ unset old.marks.items
grown_left old new true grown = let x = grown.fewer refl in omega arith
grown_left old new false grown = subst (λ ms. unset ms ≤ unset old.marks.items) (sym (grown.same refl)) (omega arith)

pub widened_swept : (g : Grammar) (old new : Io) (b : Bool) → Grown old.marks.items new.marks.items b → ((s i j : ℕ) → Has new s i j → Follows (grammar_of g) (Has old) s i j) → IsWidened g old new
widened_swept g old new b grown follows = record { size = grown.size; held = has_grown old new b grown; follows = follows; left = grown_left old new b grown }
