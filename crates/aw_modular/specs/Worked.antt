-- Small cases on which the definitions of roles checked apart are tried.
use Rattle.std.specs.Prelude.{ℕ, List, [], ◌∷◌}
use Rattle.aw_term.specs.Trees.{Never}
use Rattle.aw_term.specs.Rules.{Grammar}
use Rattle.aw_base.specs.declared.declared.Triple.{Triple}
use Rattle.aw_face.specs.declared.faces.Using.{Using}
use Rattle.aw_iograph.specs.Grammars.{clinic, clinic_of, admit, analyse, skip, trial, trial_of, begin, measure, refer, write, file, hold, split, rings_of, ring}
use Rattle.aw_modular.specs.Roles.{Declares, RoleRelation, Part, SaysYes, AllSayYes, IsJoined}

-- result j of a sort may depend on its inherited value i
abbrev pub triple : ℕ → ℕ → ℕ → Triple
triple s i j = record { sort = s; i = i; j = j }

-- a role uses a sort
abbrev pub uses : ℕ → ℕ → Using
uses role s = record { role = role; sort = s }

-- the rules of one role, in a grammar that declares what all have in common, and the uses
abbrev pub part : Grammar → List Using → Part
part g us = record { grammar = g; uses = us }

-- the clinic and its laboratory, with `depends test 1 1`
abbrev pub clinic_uses : List Using
clinic_uses = uses 0 1 ∷ []

-- the rules of the clinic, and those of its laboratory
abbrev pub clinic_parts : List Part
clinic_parts = part (clinic_of (admit ∷ [])) clinic_uses ∷ part (clinic_of (analyse ∷ skip ∷ [])) clinic_uses ∷ []

-- both say yes, and joined they are the whole grammar
abbrev pub ClinicSaysYes : Type 0
ClinicSaysYes = AllSayYes (1 ∷ []) (triple 1 1 1 ∷ []) 0 clinic_parts × IsJoined clinic_parts clinic

-- with nothing declared the laboratory does not say yes
abbrev pub LabExceeds : Type 0
LabExceeds = SaysYes (1 ∷ []) [] 1 (part (clinic_of (analyse ∷ skip ∷ [])) clinic_uses) → Never

-- the four roles, with `depends test 1 1`, `depends note 1 1`, `depends keep 1 1`
abbrev pub trial_uses : List Using
trial_uses = uses 0 1 ∷ uses 0 2 ∷ uses 1 2 ∷ uses 2 3 ∷ []

-- test, note and keep are offered
abbrev pub trial_offers : List ℕ
trial_offers = 1 ∷ 2 ∷ 3 ∷ []

-- the dependences that are declared at first
abbrev pub few : List Triple
few = triple 1 1 1 ∷ triple 2 1 1 ∷ triple 3 1 1 ∷ []

-- the rules of the role front
abbrev pub front : Part
front = part (trial_of (begin ∷ [])) trial_uses

-- the rules of the role lab
abbrev pub lab : Part
lab = part (trial_of (measure ∷ refer ∷ [])) trial_uses

-- the rules of the role desk
abbrev pub desk : Part
desk = part (trial_of (write ∷ file ∷ [])) trial_uses

-- the rules of the role store
abbrev pub store : Part
store = part (trial_of (hold ∷ split ∷ [])) trial_uses

-- all but the desk say yes; the desk finds a pair of the offered sort note that is not declared
abbrev pub OthersSayYes : Type 0
OthersSayYes = SaysYes trial_offers few 0 front × SaysYes trial_offers few 1 lab × SaysYes trial_offers few 3 store

-- at the desk the result of note depends on its second inherited value, which is not declared, and so it does not say yes
abbrev pub DeskExceeds : Type 0
DeskExceeds = RoleRelation desk.grammar 2 (Declares few) 2 2 1 × (SaysYes trial_offers few 2 desk → Never)

-- with `depends note 2 1` too, all do
abbrev pub AllOfTrialSayYes : Type 0
AllOfTrialSayYes = AllSayYes trial_offers (triple 2 2 1 ∷ few) 0 (front ∷ lab ∷ desk ∷ store ∷ []) × IsJoined (front ∷ lab ∷ desk ∷ store ∷ []) trial

-- With more declared than is so a role may be refused that has no circle: two tasks that would wait for each other, of another role.
abbrev pub ring_part : Part
ring_part = part (rings_of (ring ∷ [])) (uses 0 1 ∷ [])

-- it says yes where nothing is declared, and not where result 1 of the other role's sort is declared to depend on its inherited value
abbrev pub DeclaredTooMuch : Type 0
DeclaredTooMuch = SaysYes (1 ∷ []) [] 0 ring_part × (SaysYes (1 ∷ []) (triple 1 1 1 ∷ []) 0 ring_part → Never)
