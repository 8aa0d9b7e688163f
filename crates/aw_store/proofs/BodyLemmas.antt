-- Two bodies with one view are one, and the derived test of bodies is exact.
use Rattle.std.proofs.Common.{◌≡◌, Decides, refl, ap}
use Rattle.std.specs.Cmp.Lexicographic.{pointwise_decides}
use Rattle.std.proofs.lemmas.Bool.Decides.{Decides-eqb, Decides-and, Decides-like}
use Rattle.aw_name.specs.contracts.node.RefPartialEq.TheImpl as reference
use Rattle.aw_name.specs.SameRefs.{ref_exact}
use Rattle.aw_store.specs.declared.equation.Body.{Body}
use Rattle.aw_store.specs.declared.equation.Body.TheVariants.{Same, Con, Num, Text}
use Rattle.aw_store.specs.contracts.equation.BodyPartialEq.TheImpl as bodies

pub body_exact : (a b : Body) → Decides ((bodies.ghosts).eq a b) (a ≡ b)
body_exact (Same r) (Same s) = Decides-like _ (ap Same) (λ e. cc) (ref_exact r s ((reference.ghosts).eq r s) refl)
body_exact (Con c p) (Con d q) = Decides-like _ (λ z. λ i. Con (z.0 i) (z.1 i)) (λ e. ((cc), (cc)))
    (Decides-and _ _ (Decides-eqb c d) (pointwise_decides (λ a b. ref_exact a b ((reference.ghosts).eq a b) refl) p q))
body_exact (Num m) (Num n) = Decides-like _ (ap Num) (λ e. cc) (Decides-eqb m n)
body_exact (Text t) (Text u) = Decides-like _ (ap Text) (λ e. cc) (pointwise_decides Decides-eqb t u)
body_exact (Same r) (Con d q) = (λ e. cc, λ e. cc)
body_exact (Same r) (Num n) = (λ e. cc, λ e. cc)
body_exact (Same r) (Text u) = (λ e. cc, λ e. cc)
body_exact (Con c p) (Same s) = (λ e. cc, λ e. cc)
body_exact (Con c p) (Num n) = (λ e. cc, λ e. cc)
body_exact (Con c p) (Text u) = (λ e. cc, λ e. cc)
body_exact (Num m) (Same s) = (λ e. cc, λ e. cc)
body_exact (Num m) (Con d q) = (λ e. cc, λ e. cc)
body_exact (Num m) (Text u) = (λ e. cc, λ e. cc)
body_exact (Text t) (Same s) = (λ e. cc, λ e. cc)
body_exact (Text t) (Con d q) = (λ e. cc, λ e. cc)
body_exact (Text t) (Num n) = (λ e. cc, λ e. cc)
