use Rattle.std.proofs.Common.{◌≡◌, ℕ, List, [], ◌∷◌, refl, ap, inl, inr, arith}
use Rattle.aw_list.proofs.Members.{never}
use Rattle.aw_term.specs.Trees.{Never}
use Rattle.aw_iograph.specs.Graphs.{Plus, step, more}
use Rattle.aw_iograph.specs.Occurrences.{inherited}
use Rattle.aw_iograph.specs.Dependence.{Edge, text, call}
use Rattle.aw_base.specs.declared.declared.Triple.{Triple}
use Rattle.aw_iograph.specs.Decided.{Pair}
use Rattle.aw_iograph.specs.Grammars.{analyse, skip, file, clinic_of, ring}
use Rattle.aw_modular.specs.Roles.{Declares, Mixed, RoleRelation}
use Rattle.aw_modular.specs.Worked.{triple, few, front, lab, desk, store, trial_offers, ring_part}
use Rattle.aw_modular.proofs.Trying.{says_yes}
use Rattle.aw_modular.proofs.worked.worked_roles.Goals as goal

abbrev pair : ℕ → ℕ → ℕ → Pair
pair s i j = record { sort = s; i = i; j = j }

abbrev few_pairs : List Pair
few_pairs = pair 1 1 1 ∷ pair 2 1 1 ∷ pair 3 1 1 ∷ []

abbrev all_pairs : List Pair
all_pairs = pair 2 2 1 ∷ few_pairs

pub returns-clause-clinic_says_yes : goal.returns-clause-clinic_says_yes
returns-clause-clinic_says_yes c = (
  (says_yes (1 ∷ []) (triple 1 1 1 ∷ []) 0 _ (pair 1 1 1 ∷ []) refl refl refl refl refl, (says_yes (1 ∷ []) (triple 1 1 1 ∷ []) 1 _ (pair 1 1 1 ∷ []) refl refl refl refl refl, tt)),
  record { sorts = (refl, (refl, tt)); rules = refl },
)

lab_found : RoleRelation (clinic_of (analyse ∷ skip ∷ [])) 1 (Declares []) 1 1 1
lab_found = (1, (refl, (analyse, inl refl, refl, step (text 0 _ refl refl (inl refl)))))

pub returns-clause-lab_exceeds : goal.returns-clause-lab_exceeds
returns-clause-lab_exceeds c says = never (says.declares 1 1 1 refl lab_found)

pub returns-clause-others_say_yes : goal.returns-clause-others_say_yes
returns-clause-others_say_yes c = (
  says_yes trial_offers few 0 front few_pairs refl refl refl refl refl,
  says_yes trial_offers few 1 lab few_pairs refl refl refl refl refl,
  says_yes trial_offers few 3 store few_pairs refl refl refl refl refl,
)

desk_found : RoleRelation desk.grammar 2 (Declares few) 2 2 1
desk_found = (
  1,
  (
    refl,
    (
      file,
      inr (inl refl),
      refl,
      more (text 1 _ refl refl (inr (inl refl)))
          (more (call 1 1 1 _ refl (inr ((λ e. absurd cc), inr (inr (inl refl))))) (step (text 2 _ refl refl refl))),
    ),
  ),
)

not_declared : Declares few 2 2 1 → Never
not_declared (inl e) = let f : 2 ≡ 1 = ap (λ (t : Triple). t.sort) e in absurd (omega (arith, f))
not_declared (inr (inl e)) = let f : 2 ≡ 1 = ap (λ (t : Triple). t.i) e in absurd (omega (arith, f))
not_declared (inr (inr (inl e))) = let f : 2 ≡ 3 = ap (λ (t : Triple). t.sort) e in absurd (omega (arith, f))
not_declared (inr (inr (inr m))) = never m

pub returns-clause-desk_exceeds : goal.returns-clause-desk_exceeds
returns-clause-desk_exceeds c = (desk_found, λ says. not_declared (says.declares 2 2 1 refl desk_found))

pub returns-clause-all_of_trial_say_yes : goal.returns-clause-all_of_trial_say_yes
returns-clause-all_of_trial_say_yes c = (
  (
    says_yes trial_offers (triple 2 2 1 ∷ few) 0 front all_pairs refl refl refl refl refl,
    (
      says_yes trial_offers (triple 2 2 1 ∷ few) 1 lab all_pairs refl refl refl refl refl,
      (
        says_yes trial_offers (triple 2 2 1 ∷ few) 2 desk all_pairs refl refl refl refl refl,
        (says_yes trial_offers (triple 2 2 1 ∷ few) 3 store all_pairs refl refl refl refl refl, tt),
      ),
    ),
  ),
  record { sorts = (refl, (refl, (refl, (refl, tt)))); rules = refl },
)

over_ring : Plus (Edge ring (Mixed ring_part.grammar 0 (RoleRelation ring_part.grammar 0 (Declares (triple 1 1 1 ∷ []))) (Declares (triple 1 1 1 ∷ [])))) (inherited 1 1) (inherited 1 1)
over_ring =
    more (call 1 1 1 _ refl (inr ((λ e. absurd cc), inl refl)))
    (more (text 0 _ refl refl refl) (more (call 2 1 1 _ refl (inr ((λ e. absurd cc), inl refl))) (step (text 1 _ refl refl refl))))

pub returns-clause-declared_too_much : goal.returns-clause-declared_too_much
returns-clause-declared_too_much c = (says_yes (1 ∷ []) [] 0 ring_part [] refl refl refl refl refl, λ says. says.no_circle ring (inl refl) (inherited 1 1) over_ring)
