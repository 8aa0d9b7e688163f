-- One thing is told of roles that are checked apart, and one of waiting.
use Rattle.std.proofs.Common.{◌≡◌, ℕ, suc, ◌<◌, ◌≤◌, List, [], ◌∷◌, length, refl, sym, ap, ◌∙◌, inl, inr, arith}
use Rattle.std.specs.Prelude.{◌⊎◌}
use Rattle.aw_list.proofs.Members.{never}
use Rattle.aw_base.specs.declared.declared.Triple.{Triple}
use Rattle.aw_term.specs.Rules.{Grammar}
use Rattle.aw_check_text.proofs.OneTold.{fault-none, one-fault, one-found-over}
use Rattle.aw_wait.specs.Waiting.{WaitingRelation}
use Rattle.aw_modular.specs.Roles.{Known}
use Rattle.aw_modular.specs.Refusals.{IsUpToPair}
use Rattle.aw_check_text.specs.declared.finding.Finding.{Finding}
use Rattle.aw_check_text.specs.declared.finding.Finding.TheVariants.{Yes, Circle, Excess}
use Rattle.aw_check_text.specs.ApartTold.{part_at, IsFound, AreFindings, roles_text, wait_line}
use Rattle.aw_check_text.specs.ApartLaws.{RolesAreToldOnce, WaitingIsToldOnce}

-- a pair that comes up to another, and that one up to it, is that one
made : (t u : Triple) → t.sort ≡ u.sort → t.i ≡ u.i → t.j ≡ u.j → t ≡ u
made t u sort i j = λ k. record { sort = sort k; i = i k; j = j k }

of-value : (t u : Triple) → t.sort ≡ u.sort → ((t.i < u.i) ⊎ ((t.i ≡ u.i) × (t.j ≤ u.j))) → ((u.i < t.i) ⊎ ((u.i ≡ t.i) × (u.j ≤ t.j))) → t ≡ u
of-value t u sort (inl there) (inl back) = absurd (omega (arith, there, back))
of-value t u sort (inl there) (inr back) = let e : u.i ≡ t.i = back.0 in absurd (omega (arith, there, e))
of-value t u sort (inr there) (inl back) = let e : t.i ≡ u.i = there.0 in absurd (omega (arith, back, e))
of-value t u sort (inr there) (inr back) = let e : t.j ≤ u.j = there.1 in let f : u.j ≤ t.j = back.1 in made t u sort there.0 (omega (arith, e, f))

one-pair : (t u : Triple) → IsUpToPair t u → IsUpToPair u t → t ≡ u
one-pair t u (inl there) (inl back) = absurd (omega (arith, there, back))
one-pair t u (inl there) (inr back) = let e : u.sort ≡ t.sort = back.0 in absurd (omega (arith, there, e))
one-pair t u (inr there) (inl back) = let e : t.sort ≡ u.sort = there.0 in absurd (omega (arith, back, e))
one-pair t u (inr there) (inr back) = of-value t u there.0 there.1 back.1

-- a role finds one thing
one-found : (offers : List ℕ) (declared : List Triple) (g : Grammar) (role : ℕ) (a b : Finding) → IsFound offers declared g role a → IsFound offers declared g role b → a ≡ b
one-found offers declared g role Yes Yes x y = refl
one-found offers declared g role Yes (Circle b) x y = never (fault-none g (Known g role declared) b x.0 y)
one-found offers declared g role Yes (Excess b) x y = never (x.1 b y.1.0)
one-found offers declared g role (Circle a) Yes x y = never (fault-none g (Known g role declared) a y.0 x)
one-found offers declared g role (Circle a) (Circle b) x y = ap Circle (one-fault g (Known g role declared) a b x y)
one-found offers declared g role (Circle a) (Excess b) x y = never (fault-none g (Known g role declared) a y.0 x)
one-found offers declared g role (Excess a) Yes x y = never (y.1 a x.1.0)
one-found offers declared g role (Excess a) (Circle b) x y = never (fault-none g (Known g role declared) b x.0 y)
one-found offers declared g role (Excess a) (Excess b) x y = ap Excess (one-pair a b (x.1.1 b y.1.0) (y.1.1 a x.1.0))

-- and so do all
one-findings : (offers : List ℕ) (declared : List Triple) (g : Grammar) (role : ℕ) (xs ys : List Finding) → length xs ≡ length ys →
    AreFindings offers declared g role xs → AreFindings offers declared g role ys → xs ≡ ys
one-findings offers declared g role [] [] len x y = refl
one-findings offers declared g role [] (b ∷ bs) len x y = absurd (omega (arith, len))
one-findings offers declared g role (a ∷ as') [] len x y = absurd (omega (arith, len))
one-findings offers declared g role (a ∷ as') (b ∷ bs) len x y =
    ap (λ (f : Finding). f ∷ as') (one-found offers declared (part_at g role) role a b x.0 y.0) ∙ ap (λ (fs : List Finding). b ∷ fs)
    (one-findings offers declared g (suc role) as' bs (omega (arith, len)) x.1 y.1)

pub one-roles : RolesAreToldOnce
one-roles offers declared w g a b (xs, len, are, told) (ys, len', are', told') =
    told ∙ ap (roles_text w g) (one-findings offers declared g 0 xs ys (len ∙ sym len') are are') ∙ sym told'

pub one-waiting : WaitingIsToldOnce
one-waiting w g a b x y = x.2 ∙ ap (wait_line w) (one-found-over g (WaitingRelation g) x.0 y.0 x.1 y.1) ∙ sym y.2
