-- Small cases that were worked by hand, on which the definitions are tried.
use Rattle.std.specs.Prelude.{◌≡◌, ℕ, Bool, true, false, List, [], ◌∷◌, codes}
use Rattle.aw_term.specs.Trees.{Tree, Con, Num, Text, Leaf, Made, Nil, More}
use Rattle.aw_term.specs.Names.{Node, root, below}
use Rattle.aw_term.specs.Rules.{Term, Child, Rule, Sort, Grammar}
use Rattle.aw_term.specs.Choices.{Choice, Start, Develop}
use Rattle.aw_term.specs.Artifacts.{Words}
use Rattle.aw_term.specs.Runs.{plain_text}

-- a constructor without parts, and with one and two
abbrev pub con : {A : Type 0} → ℕ → Tree A
con c = Made (Con c) Nil

-- a constructor with one part
abbrev pub con1 : {A : Type 0} → ℕ → Tree A → Tree A
con1 c a = Made (Con c) (More a Nil)

-- a constructor with two parts
abbrev pub con2 : {A : Type 0} → ℕ → Tree A → Tree A → Tree A
con2 c a b = Made (Con c) (More a (More b Nil))

-- a sort at a role, with how many values it takes and gives, and whether cases start with it
abbrev pub sort : ℕ → ℕ → ℕ → Bool → Sort
sort role takes gives start = record { role = role; takes = takes; gives = gives; start = start }

-- a subtask of a sort, with its arguments and how many results it gives
abbrev pub call : ℕ → List Term → ℕ → Child
call s args outs = record { sort = s; args = args; outs = outs }

-- a rule of a sort
abbrev pub rule : ℕ → List Term → ℕ → List Term → List Child → Rule
rule s patterns params results children = record { sort = s; patterns = patterns; params = params; results = results; children = children }

-- A note is left on a task, and the call that it asks for is made.
--   role desk · con memo 1 · sort task desk 0 0 · sort call desk 1 0 · start task
--   rule note {t} : task()<> = call(memo(t))<> · rule ring : call(memo(x))<> · rule odd : call(7)<>
abbrev memo : Grammar
memo = record {
  roles = 1;
  arities = 1 ∷ [];
  sorts = sort 0 0 0 true ∷ sort 0 1 0 false ∷ [];
  rules = rule 0 [] 1 [] (call 1 (con1 0 (Leaf 0) ∷ []) 0 ∷ []) ∷ rule 1 (con1 0 (Leaf 0) ∷ []) 0 [] [] ∷ rule 1 (Made (Num 7) Nil ∷ []) 0 [] [] ∷ [];
}

-- the names that it declares
abbrev memo_words : Words
memo_words = record { roles = codes "desk" ∷ []; cons = codes "memo" ∷ []; sorts = codes "task" ∷ codes "call" ∷ []; rules = codes "note" ∷ codes "ring" ∷ codes "odd" ∷ [] }

-- the node with which case 1 begins, here a task of the desk
abbrev task : Node
task = root 0 1

-- the note `back` is left on the task
abbrev note : Choice
note = Develop task 0 (Made (Text (codes "back")) Nil ∷ [])

-- the note is left and the call is made: each choice is taken, and the call has the note as its value
abbrev pub Memo : Type 0
Memo = plain_text memo_words memo (Start 0 1 ∷ note ∷ Develop (below task 0 1) 1 [] ∷ [])
    ≡ codes "start task 1: taken\nchoose task#1 note: taken\nchoose task#1/note.1 ring: taken\nartifacts 2\ntask#1 note {\"back\"} () <>\ntask#1/note.1 ring {} (memo(\"back\")) <>\n"

-- a case that is started twice, a rule that expects another value and a rule for another sort: each is refused, and the call stays open
abbrev pub MemoOdd : Type 0
MemoOdd = plain_text memo_words memo (Start 0 1 ∷ Start 0 1 ∷ note ∷ Develop (below task 0 1) 2 [] ∷ Develop (below task 0 1) 0 [] ∷ [])
    ≡ codes "start task 1: taken\nstart task 1: known\nchoose task#1 note: taken\nchoose task#1/note.1 odd: mismatch 1\nchoose task#1/note.1 note: wrong rule\nartifacts 2\ntask#1 note {\"back\"} () <>\ntask#1/note.1 open (memo(\"back\")) <>\n"

-- A subtask waits for the result of another.
--   role r · con ok 0 · sort top r 0 0 · sort p r 0 1 · sort q r 1 0 · start top
--   rule two : top()<> = p()<y> ; q(y)<> · rule make : p()<ok> · rule take : q(ok)<>
abbrev hole_first : Grammar
hole_first = record {
  roles = 1;
  arities = 0 ∷ [];
  sorts = sort 0 0 0 true ∷ sort 0 0 1 false ∷ sort 0 1 0 false ∷ [];
  rules = rule 0 [] 0 [] (call 1 [] 1 ∷ call 2 (Leaf 0 ∷ []) 0 ∷ []) ∷ rule 1 [] 0 (con 0 ∷ []) [] ∷ rule 2 (con 0 ∷ []) 0 [] [] ∷ [];
}

-- the names that it declares
abbrev hole_first_words : Words
hole_first_words = record { roles = codes "r" ∷ []; cons = codes "ok" ∷ []; sorts = codes "top" ∷ codes "p" ∷ codes "q" ∷ []; rules = codes "two" ∷ codes "make" ∷ codes "take" ∷ [] }

-- the node with which case 1 begins
abbrev top : Node
top = root 0 1

-- the second subtask is refused until the first has given its result, and then it is taken
abbrev pub HoleFirst : Type 0
HoleFirst = plain_text hole_first_words hole_first (Start 0 1 ∷ Develop top 0 [] ∷ Develop (below top 0 2) 2 [] ∷ Develop (below top 0 1) 1 [] ∷ Develop (below top 0 2) 2 [] ∷ [])
    ≡ codes "start top 1: taken\nchoose top#1 two: taken\nchoose top#1/two.2 take: waits top#1/two.1:r1\nchoose top#1/two.1 make: taken\nchoose top#1/two.2 take: taken\nartifacts 3\ntop#1 two {} () <>\ntop#1/two.1 make {} () <ok>\ntop#1/two.2 take {} (ok) <>\n"

-- A node is fed by its own result.
--   role r · con ok 0 · con two 2 · sort top r 0 1 · sort s r 1 2 · start top
--   rule call : top()<two(y1, y2)> = s(y2)<y1, y2> · rule body : s(x)<x, ok>
abbrev own_result : Grammar
own_result = record {
  roles = 1;
  arities = 0 ∷ 2 ∷ [];
  sorts = sort 0 0 1 true ∷ sort 0 1 2 false ∷ [];
  rules = rule 0 [] 0 (con2 1 (Leaf 0) (Leaf 1) ∷ []) (call 1 (Leaf 1 ∷ []) 2 ∷ []) ∷ rule 1 (Leaf 0 ∷ []) 0 (Leaf 0 ∷ con 0 ∷ []) [] ∷ [];
}

-- the names that it declares
abbrev own_result_words : Words
own_result_words = record { roles = codes "r" ∷ []; cons = codes "ok" ∷ codes "two" ∷ []; sorts = codes "top" ∷ codes "s" ∷ []; rules = codes "call" ∷ codes "body" ∷ [] }

-- the subtask inherits its own second result: once its rule is taken, no hole is left
abbrev pub OwnResult : Type 0
OwnResult = plain_text own_result_words own_result (Start 0 1 ∷ Develop top 0 [] ∷ Develop (below top 0 1) 1 [] ∷ [])
    ≡ codes "start top 1: taken\nchoose top#1 call: taken\nchoose top#1/call.1 body: taken\nartifacts 2\ntop#1 call {} () <two(ok, ok)>\ntop#1/call.1 body {} (ok) <ok, ok>\n"

-- A value is doubled at each step down, and comes back up.
--   role r · con z 0 · con d 2 · sort s r 0 1 · sort t r 1 1 · start s
--   rule go : s()<y> = t(z)<y> · rule more : t(x)<y> = t(d(x, x))<y> · rule end : t(x)<x>
abbrev doubling : Grammar
doubling = record {
  roles = 1;
  arities = 0 ∷ 2 ∷ [];
  sorts = sort 0 0 1 true ∷ sort 0 1 1 false ∷ [];
  rules = rule 0 [] 0 (Leaf 0 ∷ []) (call 1 (con 0 ∷ []) 1 ∷ []) ∷ rule 1 (Leaf 0 ∷ []) 0 (Leaf 1 ∷ []) (call 1 (con2 1 (Leaf 0) (Leaf 0) ∷ []) 1 ∷ []) ∷ rule 1 (Leaf 0 ∷ []) 0 (Leaf 0 ∷ []) [] ∷ [];
}

-- the names that it declares
abbrev doubling_words : Words
doubling_words = record { roles = codes "r" ∷ []; cons = codes "z" ∷ codes "d" ∷ []; sorts = codes "s" ∷ codes "t" ∷ []; rules = codes "go" ∷ codes "more" ∷ codes "end" ∷ [] }

-- the subtask of the first task
abbrev first : Node
first = below top 0 1

-- after two doublings the doubled value has come back to each task of the case
abbrev pub Doubling : Type 0
Doubling = plain_text doubling_words doubling (Start 0 1 ∷ Develop top 0 [] ∷ Develop first 1 [] ∷ Develop (below first 1 1) 1 [] ∷ Develop (below (below first 1 1) 1 1) 2 [] ∷ [])
    ≡ codes "start s 1: taken\nchoose s#1 go: taken\nchoose s#1/go.1 more: taken\nchoose s#1/go.1/more.1 more: taken\nchoose s#1/go.1/more.1/more.1 end: taken\nartifacts 4\ns#1 go {} () <d(d(z, z), d(z, z))>\ns#1/go.1 more {} (z) <d(d(z, z), d(z, z))>\ns#1/go.1/more.1 more {} (d(z, z)) <d(d(z, z), d(z, z))>\ns#1/go.1/more.1/more.1 end {} (d(d(z, z), d(z, z))) <d(d(z, z), d(z, z))>\n"
