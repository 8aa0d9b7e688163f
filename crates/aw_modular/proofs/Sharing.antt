-- The derived tests of declarations are exact.
use Rattle.std.proofs.Common.{◌≡◌, Decides, ap}
use Rattle.std.specs.Cmp.{booleans_Decides}
use Rattle.std.specs.Cmp.Lexicographic.{pointwise_decides}
use Rattle.std.proofs.lemmas.Bool.Decides.{Decides-eqb, Decides-and, Decides-like}
use Rattle.aw_base.specs.declared.declared.Triple.{Triple}
use Rattle.aw_base.specs.contracts.declared.TriplePartialEq.TheImpl as triples
use Rattle.aw_grammar.specs.declared.rule.Con.{Con}
use Rattle.aw_grammar.specs.declared.rule.Sort.{Sort}
use Rattle.aw_grammar.specs.contracts.rule.ConPartialEq.TheImpl as cons
use Rattle.aw_grammar.specs.contracts.rule.SortPartialEq.TheImpl as sorts

pub con_exact : (a b : Con) → Decides ((cons.ghosts).eq a b) (a ≡ b)
con_exact a b =
    Decides-like _ (λ z. λ i. record { name = z.0 i; arity = z.1 i }) (λ e. (ap (λ (x : Con). x.name) e, ap (λ (x : Con). x.arity) e))
    (Decides-and _ _ (pointwise_decides Decides-eqb a.name b.name) (Decides-eqb a.arity b.arity))

pub triple_exact : (a b : Triple) → Decides ((triples.ghosts).eq a b) (a ≡ b)
triple_exact a b =
    Decides-like _ (λ z. λ k. record { sort = z.0 k; i = z.1.0 k; j = z.1.1 k }) (λ e. (ap (λ (x : Triple). x.sort) e, (ap (λ (x : Triple). x.i) e, ap (λ (x : Triple). x.j) e)))
    (Decides-and _ _ (Decides-eqb a.sort b.sort) (Decides-and _ _ (Decides-eqb a.i b.i) (Decides-eqb a.j b.j)))

pub sort_exact : (a b : Sort) → Decides ((sorts.ghosts).eq a b) (a ≡ b)
sort_exact a b =
    Decides-like _ (λ z. λ k. record { name = z.0 k; role = z.1.0 k; takes = z.1.1.0 k; gives = z.1.1.1.0 k; start = z.1.1.1.1 k })
    (λ e. (ap (λ (x : Sort). x.name) e, (ap (λ (x : Sort). x.role) e, (ap (λ (x : Sort). x.takes) e, (ap (λ (x : Sort). x.gives) e, ap (λ (x : Sort). x.start) e)))))
    (Decides-and _ _ (pointwise_decides Decides-eqb a.name b.name)
    (Decides-and _ _ (Decides-eqb a.role b.role) (Decides-and _ _ (Decides-eqb a.takes b.takes) (Decides-and _ _ (Decides-eqb a.gives b.gives) (booleans_Decides a.start b.start)))))
