-- Lists that grow at their end.
use Rattle.std.proofs.Common.{◌≡◌, ◌≢◌, ℕ, false, List, [], ◌∷◌, ◌++◌}
use Rattle.aw_name_index.specs.Places.{stands}
use Rattle.aw_name_index.proofs.Same.{stands_apart}
use Rattle.aw_term.specs.WellFormed.{Each, Differ}
use Rattle.aw_term.proofs.Eaches.{each_append, each_left, each_right, each_push}

pub differ_push : (names : List (List ℕ)) (x : List ℕ) → Differ names → stands x names ≡ false → Differ (names ++ x ∷ [])
differ_push [] x differ absent = (tt, tt)
differ_push (y ∷ names) x differ absent =
    let apart = stands_apart x y names absent in
    (each_push (λ z. y ≢ z) names x differ.0 apart.0, differ_push names x differ.1 apart.1)

-- the names of roles, constructors, sorts and rules, class by class
pub record FourClasses (P : List ℕ → Type 0) (roles cons sorts rules : List (List ℕ)) : Type 0 where
  pub roles_fit : Each P roles
  pub cons_fit : Each P cons
  pub sorts_fit : Each P sorts
  pub rules_fit : Each P rules

pub four_from : (P : List ℕ → Type 0) (roles cons sorts rules : List (List ℕ)) → Each P (roles ++ (cons ++ (sorts ++ rules))) → FourClasses P roles cons sorts rules
four_from P roles cons sorts rules each =
    let later = each_right P roles (cons ++ (sorts ++ rules)) each in
    let last = each_right P cons (sorts ++ rules) later in
    record {
      roles_fit = each_left P roles (cons ++ (sorts ++ rules)) each;
      cons_fit = each_left P cons (sorts ++ rules) later;
      sorts_fit = each_left P sorts rules last;
      rules_fit = each_right P sorts rules last;
    }

pub four_to : (P : List ℕ → Type 0) (roles cons sorts rules : List (List ℕ)) → Each P roles → Each P cons → Each P sorts → Each P rules → Each P (roles ++ (cons ++ (sorts ++ rules)))
four_to P roles cons sorts rules r c s u = each_append P roles (cons ++ (sorts ++ rules)) r (each_append P cons (sorts ++ rules) c (each_append P sorts rules s u))
