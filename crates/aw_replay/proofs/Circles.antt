-- Dependence and circles are those of the rules alone.
use Rattle.std.proofs.Common.{◌≡◌, ℕ, zero, suc, refl, sym, subst}
use Rattle.std.specs.Prelude.{◌↔◌, Some}
use Rattle.std.proofs.Math.Logic.{∥∥₁_elim}
use Rattle.std.proofs.Props.{props}
use Rattle.aw_list.specs.Members.{Member}
use Rattle.aw_list.proofs.Members.{never, member_got}
use Rattle.aw_term.specs.Rules.{Grammar}
use Rattle.aw_iograph.specs.Dependence.{io, IO, HasNoCircle}
use Rattle.aw_iograph.proofs.Relations.{plus_map}
use Rattle.aw_accept.specs.Circular.{LeastFault}
use Rattle.aw_accept.specs.Refusals.{Tells}
use Rattle.aw_accept.specs.declared.refused.Fault.{Fault}
use Rattle.aw_accept.specs.declared.refused.Refused.{Refused}
use Rattle.aw_accept.specs.declared.refused.Refused.TheVariants.{Circular}
use Rattle.aw_grammar.specs.GrammarOf.{grammar_of}
use Rattle.aw_grammar.specs.declared.grammar.Grammar.{Grammar as GrammarValue}
use Rattle.aw_iograph.specs.declared.occ.Occ.{Occ}
use Rattle.aw_replay.specs.United.{united}

module _ (g h : Grammar) (same : g.rules ≡ h.rules) where
  round_kept : (n s i j : ℕ) → io g n s i j → io h n s i j
  round_kept zero s i j x = x
  round_kept (suc n) s i j (r, m, e, w) = (r, subst (Member r) same m, e, plus_map r (io g n) (io h n) (round_kept n) w)

  pub dependence_kept : (s i j : ℕ) → IO g s i j → IO h s i j
  dependence_kept s i j (n, x) = (n, round_kept n s i j x)

pub circles_kept : (g h : Grammar) → g.rules ≡ h.rules → HasNoCircle g (IO g) → HasNoCircle h (IO h)
circles_kept g h same none r m o circle = none r (subst (Member r) (sym same) m) o (plus_map r (IO h) (IO g) (dependence_kept h g (sym same)) circle)

pub dependence_same : (g : Grammar) (s i j : ℕ) → IO (united g) s i j ↔ IO g s i j
dependence_same g s i j = (dependence_kept (united g) g refl s i j, dependence_kept g (united g) refl s i j)

pub circles_same : (g : Grammar) → HasNoCircle (united g) (IO (united g)) ↔ HasNoCircle g (IO g)
circles_same g = (circles_kept (united g) g refl, circles_kept g (united g) refl)

-- where the one has no circle, the other is not refused
pub not_refused : (g h : Grammar) (fault : Fault) → h ≡ united g → ∥ HasNoCircle g (IO g) ∥₁ → LeastFault h (Some fault) → ⊥
not_refused g h fault e sound ((r, got, least), below) =
    ∥∥₁_elim sound (hlevel props) (λ none.
    let free = subst (λ u. HasNoCircle u (IO u)) (sym e) (circles_kept g (united g) refl none) in
    never (free r (member_got h.rules fault.rule r got) fault.occ least.0))

-- so no circle of it is told
pub never_told : (g : Grammar) (h given : GrammarValue) (rule : ℕ) (occ : Occ) (e : Refused) → e ≡ Circular given rule occ → grammar_of h ≡ united g → ∥ HasNoCircle g (IO g) ∥₁ → Tells h e → ⊥
never_told g h given rule occ e is one sound tells =
    let told : Tells h (Circular given rule occ) = subst (Tells h) is tells in
    not_refused g (grammar_of h) (record { rule = rule; occ = occ }) one sound told.1
