-- What is told of roles that are checked apart, and of waiting.
use Rattle.std.specs.Prelude.{◌≡◌, ℕ, suc, Bool, true, false, ◌&&◌, List, [], ◌∷◌, ◌++◌, length, Option, None, Some, codes, if◌then◌else◌}
use Rattle.std.specs.Fmt.{decimal}
use Rattle.aw_base.specs.declared.declared.Triple.{Triple}
use Rattle.aw_term.specs.Rules.{Sort, Rule, Grammar, get, some_rules}
use Rattle.aw_term.specs.Artifacts.{Words}
use Rattle.aw_grammar.specs.SomeRules.{is_at}
use Rattle.aw_iograph.specs.Dependence.{HasNoCircle}
use Rattle.aw_accept.specs.declared.refused.Fault.{Fault}
use Rattle.aw_accept.specs.Circular.{LeastFaultOver}
use Rattle.aw_check_text.specs.Told.{circle_text}
use Rattle.aw_modular.specs.Roles.{Known}
use Rattle.aw_modular.specs.Refusals.{IsExcess, LeastPair}
use Rattle.aw_wait.specs.Waiting.{WaitingRelation}
use Rattle.aw_check_text.specs.declared.finding.Finding.{Finding}
use Rattle.aw_check_text.specs.declared.finding.Finding.TheVariants.{Yes, Circle, Excess}

-- the names of those of the rules that are at a role
abbrev pub names_at : List Sort → ℕ → List Rule → List (List ℕ) → List (List ℕ)
names_at sorts role [] names = []
names_at sorts role (r ∷ rs) [] = []
names_at sorts role (r ∷ rs) (name ∷ names) = if is_at sorts role r then name ∷ names_at sorts role rs names else names_at sorts role rs names

-- the rules of one role, with the declarations of all
abbrev pub part_at : Grammar → ℕ → Grammar
part_at g role = some_rules (is_at g.sorts role) g

-- and their names
abbrev pub words_at : Words → Grammar → ℕ → Words
words_at w g role = record w { rules = names_at g.sorts role g.rules w.rules }

-- what checking the rules of one role finds: a circle before an excess, and of each the least
abbrev pub IsFound : (offers : List ℕ) (declared : List Triple) → Grammar → (role : ℕ) → Finding → Type 0
IsFound offers declared g role Yes = HasNoCircle g (Known g role declared) × LeastPair (IsExcess offers declared role g) None
IsFound offers declared g role (Circle fault) = LeastFaultOver g (Known g role declared) (Some fault)
IsFound offers declared g role (Excess pair) = HasNoCircle g (Known g role declared) × LeastPair (IsExcess offers declared role g) (Some pair)

-- what checking a role of a grammar finds
abbrev pub IsFinding : (offers : List ℕ) (declared : List Triple) → Grammar → (role : ℕ) → Finding → Type 0
IsFinding offers declared g role found = IsFound offers declared (part_at g role) role found

-- what each role finds, the first with this number
abbrev pub AreFindings : (offers : List ℕ) (declared : List Triple) → Grammar → (role : ℕ) → List Finding → Type 0
AreFindings offers declared g role [] = Unit {0}
AreFindings offers declared g role (found ∷ later) = IsFinding offers declared g role found × AreFindings offers declared g (suc role) later

-- `ok`, `circular loop at 1.in1`, or `exceeds note 2 1`
abbrev pub finding_text : Words → Finding → List ℕ
finding_text w Yes = codes "ok"
finding_text w (Circle fault) = codes "circular " ++ circle_text w fault
finding_text w (Excess pair) = codes "exceeds " ++ (get [] w.sorts pair.sort ++ (codes " " ++ (decimal pair.i ++ (codes " " ++ decimal pair.j))))

-- `role lab ok`: the line of a role, where these are the names of its rules
abbrev pub finding_line : Words → ℕ → Finding → List ℕ
finding_line w role found = codes "role " ++ (get [] w.roles role ++ (codes " " ++ (finding_text w found ++ codes "\n")))

-- the lines of roles, the first with this number
abbrev pub finding_lines : Words → Grammar → ℕ → List Finding → List ℕ
finding_lines w g role [] = []
finding_lines w g role (found ∷ later) = finding_line (words_at w g role) role found ++ finding_lines w g (suc role) later

-- the role says yes
abbrev pub is_yes : Finding → Bool
is_yes Yes = true
is_yes (Circle fault) = false
is_yes (Excess pair) = false

-- each role says yes
abbrev pub all_yes : List Finding → Bool
all_yes [] = true
all_yes (found ∷ later) = is_yes found && all_yes later

-- `joined`, where each role says yes
abbrev pub joined_line : Bool → List ℕ
joined_line joined = if joined then codes "joined\n" else []

-- a line for each role, and then perhaps `joined`
abbrev pub roles_text : Words → Grammar → List Finding → List ℕ
roles_text w g found = finding_lines w g 0 found ++ joined_line (all_yes found)

-- what is told of the roles of a grammar
abbrev pub TellsRoles : (offers : List ℕ) (declared : List Triple) → Words → Grammar → List ℕ → Type 0
TellsRoles offers declared w g text = (found : List Finding) × (length found ≡ g.roles) × AreFindings offers declared g 0 found × (text ≡ roles_text w g found)

-- `wait free`, or `wait circle ring at 1.in1`
abbrev pub wait_line : Words → Option Fault → List ℕ
wait_line w None = codes "wait free\n"
wait_line w (Some fault) = codes "wait circle " ++ (circle_text w fault ++ codes "\n")

-- what is told of waiting: its least circle, or that there is none
abbrev pub TellsWaiting : Words → Grammar → List ℕ → Type 0
TellsWaiting w g text = (found : Option Fault) × LeastFaultOver g (WaitingRelation g) found × (text ≡ wait_line w found)
