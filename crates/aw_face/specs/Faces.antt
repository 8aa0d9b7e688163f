-- Which sorts a role offers to others, which sorts it uses, and the rules that keep to that.
use Rattle.std.specs.Prelude.{◌≡◌, ℕ, suc, Bool, ◌&&◌, List, [], ◌∷◌, Option, None, Some, Result, Ok, Err, nat_eq, if◌then◌else◌}
use Rattle.std.specs.List.{list_any}
use Rattle.aw_term.specs.Rules.{Child, Rule, Sort, Grammar}
pub use Rattle.aw_term.specs.Rules.{role_or_0, role_of}
use Rattle.aw_face.specs.declared.faces.Using.{Using}
use Rattle.aw_face.specs.declared.faces.FaceKind.{FaceKind}
use Rattle.aw_face.specs.declared.faces.FaceKind.TheVariants.{NotUsed, NotOffered}
use Rattle.aw_face.specs.declared.faces.FaceFault.{FaceFault}

-- the sort is offered
abbrev pub is_offered : ℕ → List ℕ → Bool
is_offered sort offers = list_any (λ o. nat_eq o sort) offers

-- the role uses the sort
abbrev pub is_used : ℕ → ℕ → List Using → Bool
is_used role sort uses = list_any (λ (u : Using). nat_eq u.role role && nat_eq u.sort sort) uses

-- the same role uses the same sort
abbrev pub same_use : Using → Using → Bool
same_use u v = nat_eq u.role v.role && nat_eq u.sort v.sort

-- What is wrong with a child of a sort in a rule of a role: nothing where the sort is of the same role. Else the role has to use it, and it has to be offered.
abbrev pub kind_between : List ℕ → List Using → (role child_role sort : ℕ) → Option FaceKind
kind_between offers uses role child_role sort =
    if nat_eq child_role role then None else
    if is_used role sort uses then (if is_offered sort offers then None else Some NotOffered) else Some NotUsed

-- the first child at fault, counted on from k
abbrev pub here_or_later : ℕ → Option FaceKind → Option (ℕ × FaceKind) → Option (ℕ × FaceKind)
here_or_later k None later = later
here_or_later k (Some kind) later = Some (k, kind)

-- the first child at fault of these, which stand in a rule of this role and are counted from k
abbrev pub children_fault : List Sort → List ℕ → List Using → (role k : ℕ) → List Child → Option (ℕ × FaceKind)
children_fault sorts offers uses role k [] = None
children_fault sorts offers uses role k (c ∷ cs) =
    here_or_later k (kind_between offers uses role (role_of sorts c.sort) c.sort) (children_fault sorts offers uses role (suc k) cs)

-- the first child of a rule at fault, counted from 1
abbrev pub rule_fault : List Sort → List ℕ → List Using → Rule → Option (ℕ × FaceKind)
rule_fault sorts offers uses r = children_fault sorts offers uses (role_of sorts r.sort) 1 r.children

-- the fault in rule i, or else what is found in a later rule
abbrev pub at_rule : ℕ → Option (ℕ × FaceKind) → Option (ℕ × ℕ × FaceKind) → Option (ℕ × ℕ × FaceKind)
at_rule i None later = later
at_rule i (Some fault) later = Some (i, fault.0, fault.1)

-- the first of these rules, counted from i, in which a child is at fault, and the first such child there
abbrev pub rules_fault : List Sort → List ℕ → List Using → ℕ → List Rule → Option (ℕ × ℕ × FaceKind)
rules_fault sorts offers uses i [] = None
rules_fault sorts offers uses i (r ∷ rs) = at_rule i (rule_fault sorts offers uses r) (rules_fault sorts offers uses (suc i) rs)

-- the first fault in order of rules, from 0, and then of children
abbrev pub face_fault : Grammar → List ℕ → List Using → Option (ℕ × ℕ × FaceKind)
face_fault g offers uses = rules_fault g.sorts offers uses 0 g.rules

-- a fault as it is told
abbrev pub told : FaceFault → ℕ × ℕ × FaceKind
told f = (f.rule, f.child, f.kind)

-- the answer is the first fault, or there is none
abbrev pub Checked : {A : Type 0} → Result A FaceFault → Option (ℕ × ℕ × FaceKind) → Type 0
Checked (Ok done) fault = fault ≡ None
Checked (Err f) fault = fault ≡ Some (told f)
