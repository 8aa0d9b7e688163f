-- Small cases that were worked by hand, on which the definitions over references are tried.
use Rattle.std.specs.Prelude.{◌≡◌, ℕ, true, false, List, [], ◌∷◌, ◌++◌, map, codes, Option, Some, option_map}
use Rattle.aw_term.specs.Trees.{Tree, Con, Num, Text, Leaf, Made, Nil, More}
use Rattle.aw_term.specs.Names.{Node, Ref, root, below, result, part}
use Rattle.aw_term.specs.Rules.{Value, Grammar, upto}
use Rattle.aw_term.specs.Configs.{Done}
use Rattle.aw_term.specs.Choices.{Choice, Start, Develop, Answer, Taken, WaitsFor, answer_of}
use Rattle.aw_store.specs.Equations.{Same, Is, Equation}
use Rattle.aw_store.specs.Unfold.{unfold_in}
use Rattle.aw_accept.specs.Acyclic.{gives}
use Rattle.aw_term.specs.Artifacts.{Words}
pub use Rattle.aw_term.specs.Worked.{con, con1, con2, sort, call, rule}
use Rattle.aw_law_sites.specs.Laws.{IsAccepted}
use Rattle.aw_law_sites.specs.Joint.{Held, Joint, empty_joint, joint_outcome, joint_run}

-- one value is another
abbrev pub equals : Ref → Ref → Equation
equals r s = record { left = r; body = Same s }

-- a value is a constructor with these parts
abbrev pub names : Ref → ℕ → List Ref → Equation
names r c parts = record { left = r; body = Is (Con c) parts }

-- the inherited values and the results of each node, unfolded
abbrev pub values : Grammar → Joint → List (List (Option Value))
values g w = map (λ (h : Held). map (unfold_in 9 w.equations) (h.inherited ++ map (result h.node) (upto 1 (gives g h.sort)))) w.held

-- the answer to a choice after some others
abbrev pub answer_after : Grammar → List Choice → Choice → Option (Answer Ref)
answer_after g cs x = option_map (λ (w : Joint). answer_of (joint_outcome w g x)) (joint_run g empty_joint cs)

-- A test at a clinic and its laboratory.
--   role clinic · role lab · con blood 1 · con report 2 · con found 2 · con none 0
--   sort visit clinic 0 1 · sort test lab 1 1 · start visit
--   rule admit {who} : visit()<report(who, r)> = test(blood(who))<r>
--   rule analyse {v} : test(blood(w))<found(w, v)> · rule skip : test(x)<none>
abbrev pub clinic : Grammar
clinic = record {
  roles = 2;
  arities = 1 ∷ 2 ∷ 2 ∷ 0 ∷ [];
  sorts = sort 0 0 1 true ∷ sort 1 1 1 false ∷ [];
  rules = rule 0 [] 1 (con2 1 (Leaf 0) (Leaf 1) ∷ []) (call 1 (con1 0 (Leaf 0) ∷ []) 1 ∷ [])
      ∷ rule 1 (con1 0 (Leaf 0) ∷ []) 1 (con2 2 (Leaf 0) (Leaf 1) ∷ []) []
      ∷ rule 1 (Leaf 0 ∷ []) 0 (con 3 ∷ []) []
      ∷ [];
}

-- visit#1
abbrev pub visit : Node
visit = root 0 1

-- visit#1/admit.1
abbrev pub test : Node
test = below visit 0 1

-- the text `Ada`
abbrev pub ada : {A : Type 0} → Tree A
ada = Made (Text (codes "Ada")) Nil

-- the number 7
abbrev pub seven : {A : Type 0} → Tree A
seven = Made (Num 7) Nil

-- start visit 1, choose visit#1 admit {"Ada"}, choose visit#1/admit.1 analyse {7}
abbrev pub clinic_choices : List Choice
clinic_choices = Start 0 1 ∷ Develop visit 0 (ada ∷ []) ∷ Develop test 1 (seven ∷ []) ∷ []

-- visit#1:p1 = "Ada" · visit#1:p2 = blood(visit#1:p1) · visit#1:r1 = report(visit#1:p1, visit#1/admit.1:r1)
-- visit#1/admit.1:p1 = 7 · visit#1/admit.1:r1 = found(visit#1:p1, visit#1/admit.1:p1)
abbrev pub Clinic : Type 0
Clinic = joint_run clinic empty_joint clinic_choices ≡ Some (record {
  held = record { node = visit; sort = 0; inherited = []; state = Done 0 (ada ∷ []) }
      ∷ record { node = test; sort = 1; inherited = part visit 2 ∷ []; state = Done 1 (seven ∷ []) }
      ∷ [];
  equations = record { left = part visit 1; body = Is (Text (codes "Ada")) [] }
      ∷ names (part visit 2) 0 (part visit 1 ∷ [])
      ∷ names (result visit 1) 1 (part visit 1 ∷ result test 1 ∷ [])
      ∷ record { left = part test 1; body = Is (Num 7) [] }
      ∷ names (result test 1) 2 (part visit 1 ∷ part test 1 ∷ [])
      ∷ [];
})

-- visit#1 <report("Ada", found("Ada", 7))> · visit#1/admit.1 (blood("Ada")) <found("Ada", 7)>
abbrev pub ClinicValues : Type 0
ClinicValues = option_map (values clinic) (joint_run clinic empty_joint clinic_choices)
    ≡ Some ((Some (con2 1 ada (con2 2 ada seven)) ∷ []) ∷ (Some (con1 0 ada) ∷ Some (con2 2 ada seven) ∷ []) ∷ [])

-- A subtask waits for the result of another.
--   role r · con ok 0 · sort top r 0 0 · sort p r 0 1 · sort q r 1 0 · start top
--   rule two : top()<> = p()<y> ; q(y)<> · rule make : p()<ok> · rule take : q(ok)<>
abbrev pub hole_first : Grammar
hole_first = record {
  roles = 1;
  arities = 0 ∷ [];
  sorts = sort 0 0 0 true ∷ sort 0 0 1 false ∷ sort 0 1 0 false ∷ [];
  rules = rule 0 [] 0 [] (call 1 [] 1 ∷ call 2 (Leaf 0 ∷ []) 0 ∷ []) ∷ rule 1 [] 0 (con 0 ∷ []) [] ∷ rule 2 (con 0 ∷ []) 0 [] [] ∷ [];
}

-- top#1
abbrev pub top : Node
top = root 0 1

-- choose top#1/two.2 take: waits top#1/two.1:r1
abbrev pub Waiting : Type 0
Waiting = answer_after hole_first (Start 0 1 ∷ Develop top 0 [] ∷ []) (Develop (below top 0 2) 2 []) ≡ Some (WaitsFor (result (below top 0 1) 1))

-- choose top#1/two.2 take, once top#1/two.1 has made its result: taken
abbrev pub WaitingNoMore : Type 0
WaitingNoMore = answer_after hole_first (Start 0 1 ∷ Develop top 0 [] ∷ Develop (below top 0 1) 1 [] ∷ []) (Develop (below top 0 2) 2 []) ≡ Some Taken

-- A node is fed by its own result.
--   role r · con ok 0 · con two 2 · sort top r 0 1 · sort s r 1 2 · start top
--   rule call : top()<two(y1, y2)> = s(y2)<y1, y2> · rule body : s(x)<x, ok>
abbrev pub own_result : Grammar
own_result = record {
  roles = 1;
  arities = 0 ∷ 2 ∷ [];
  sorts = sort 0 0 1 true ∷ sort 0 1 2 false ∷ [];
  rules = rule 0 [] 0 (con2 1 (Leaf 0) (Leaf 1) ∷ []) (call 1 (Leaf 1 ∷ []) 2 ∷ []) ∷ rule 1 (Leaf 0 ∷ []) 0 (Leaf 0 ∷ con 0 ∷ []) [] ∷ [];
}

-- top#1/call.1
abbrev pub fed : Node
fed = below top 0 1

-- start top 1, choose top#1 call, choose top#1/call.1 body
abbrev pub own_choices : List Choice
own_choices = Start 0 1 ∷ Develop top 0 [] ∷ Develop fed 1 [] ∷ []

-- top#1:r1 = two(top#1/call.1:r1, top#1/call.1:r2) · top#1/call.1:r1 = top#1/call.1:r2 · top#1/call.1:r2 = ok
abbrev pub OwnResult : Type 0
OwnResult = joint_run own_result empty_joint own_choices ≡ Some (record {
  held = record { node = top; sort = 0; inherited = []; state = Done 0 [] }
      ∷ record { node = fed; sort = 1; inherited = result fed 2 ∷ []; state = Done 1 [] }
      ∷ [];
  equations = names (result top 1) 1 (result fed 1 ∷ result fed 2 ∷ []) ∷ equals (result fed 1) (result fed 2) ∷ names (result fed 2) 0 [] ∷ [];
})

-- top#1 <two(ok, ok)> · top#1/call.1 (ok) <ok, ok>
abbrev pub OwnResultValues : Type 0
OwnResultValues = option_map (values own_result) (joint_run own_result empty_joint own_choices)
    ≡ Some ((Some (con2 1 (con 0) (con 0)) ∷ []) ∷ (Some (con 0) ∷ Some (con 0) ∷ Some (con 0) ∷ []) ∷ [])

-- the names that the grammar declares
abbrev pub own_words : Words
own_words = record { roles = codes "r" ∷ []; cons = codes "ok" ∷ codes "two" ∷ []; sorts = codes "top" ∷ codes "s" ∷ []; rules = codes "call" ∷ codes "body" ∷ [] }

-- the grammar is one of which the laws speak
abbrev pub OwnResultAccepted : Type 0
OwnResultAccepted = IsAccepted own_words own_result
