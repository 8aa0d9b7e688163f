use Rattle.std.proofs.Common.{◌≡◌, ℕ, true, List, [], ◌∷◌, refl, inl, arith}
use Rattle.aw_list.specs.Members.{Member}
use Rattle.aw_term.specs.WellFormed.{Each}
use Rattle.aw_accept.proofs.Fitting.{each_member}
use Rattle.aw_law_nodes.specs.Crashes.{Posted, is_dropped, MayGoBack}
use Rattle.aw_law_nodes.specs.Worked.{before_it, calls_test, posted_by}
use Rattle.aw_law_nodes.proofs.worked.worked_crashes.Goals as goal

pub returns-clause-is_back : goal.returns-clause-is_back
returns-clause-is_back c = (refl, refl)

pub returns-clause-goes_on : goal.returns-clause-goes_on
returns-clause-goes_on c = (refl, refl, refl)

may : (r n : ℕ) (ps : List Posted) → Each (λ (p : Posted). is_dropped r n p.from p.event ≡ true → p.deliveries ≡ []) ps → (p : Posted) → Member p ps →
    is_dropped r n p.from p.event ≡ true → p.deliveries ≡ []
may r n ps e p m = each_member (λ (p : Posted). is_dropped r n p.from p.event ≡ true → p.deliveries ≡ []) ps p e m

lab_may : MayGoBack 1 1 before_it
lab_may = (omega arith, may 1 1 before_it.posted ((λ e. absurd cc), ((λ e. absurd cc), ((λ e. refl), tt))))

pub returns-clause-allowed : goal.returns-clause-allowed
returns-clause-allowed c = (refl, (refl, (tt, (tt, (refl, (tt, (lab_may, (tt, (refl, (tt, tt))))))))))

pub returns-clause-may_not : goal.returns-clause-may_not
returns-clause-may_not c m = let z = m.1 (posted_by 0 1 calls_test (1 ∷ 3 ∷ [])) (inl refl) refl in absurd cc
