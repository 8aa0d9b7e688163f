-- Going through a tree on a stack: what is left to be done, and what it will have made.
use Rattle.std.specs.Prelude.{◌≡◌, ℕ, ◌+◌, ◌-◌, ◌*◌, List, [], ◌∷◌, ◌++◌, take, drop, length}
use Rattle.aw_term.specs.Trees as P
use Rattle.aw_term.specs.Trees.{Leaf, Made, Nil, More, bind, join}
use Rattle.aw_term.specs.Names.{Ref}
use Rattle.aw_term.specs.Rules.{Value}
use Rattle.aw_plain_rows.specs.declared.tree.Tree.{Tree}
use Rattle.aw_plain_rows.specs.declared.put.Job.{Job}
use Rattle.aw_plain_rows.specs.declared.put.Job.TheVariants.{Visit, Make}
use Rattle.aw_plain_rows.specs.TreeView.{value_of, values_of}
use Rattle.aw_plain_rows.specs.Places.{places}

-- the last n values become the parts of one
abbrev pub made : ℕ → ℕ → List Value → List Value
made c n ts = take (length ts - n) ts ++ Made (P.Con c) (join (drop (length ts - n) ts)) ∷ []

-- what one job does to the values that are made: a tree is added to them, or the last of them become the parts of one
abbrev pub do_job : (Ref → Value) → Job → List Value → List Value
do_job f (Visit t) ts = ts ++ bind f (value_of t.now) ∷ []
do_job f (Make c n) ts = made c n ts

-- what all jobs do, the last one first
abbrev pub finish : (Ref → Value) → List Job → List Value → List Value
finish f [] ts = ts
finish f (j ∷ js) ts = do_job f j (finish f js ts)

-- what is left to be done now makes what the old jobs make where the value of this tree has come last
abbrev pub HasBegun : (Ref → Value) → Tree → List Job → List Tree → List Job → List Tree → Type 0
HasBegun f t jobs values todo left = finish f todo (values_of left) ≡ finish f jobs (values_of values ++ bind f (value_of t) ∷ [])

-- how much is to be done for one job: more than for all jobs that come in its place
abbrev pub work_of : Job → ℕ
work_of (Visit t) = 2 * places t.now
work_of (Make c n) = 1

-- how much is to be done for all these jobs
abbrev pub work : List Job → ℕ
work [] = 0
work (j ∷ js) = work_of j + work js
