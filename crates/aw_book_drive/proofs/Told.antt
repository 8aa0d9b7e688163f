-- A plain message tells the message of the program that it stands for.
use Rattle.std.proofs.Common.{◌≡◌, ℕ, List, [], ◌∷◌, map, refl, ap}
use Rattle.aw_store.specs.EquationView.{body_of, equation_of}
use Rattle.aw_store.specs.declared.equation.Body.{Body}
use Rattle.aw_store.specs.declared.equation.Body.TheVariants.{Same, Con, Num, Text}
use Rattle.aw_store.specs.declared.equation.Equation.{Equation}
use Rattle.aw_store.specs.Equations as P
use Rattle.aw_apply.specs.Messages as M
use Rattle.aw_apply.specs.Made.{Call as PlainCall}
use Rattle.aw_term.specs.Names.{Node}
use Rattle.aw_term.specs.Rules.{Grammar}
use Rattle.aw_msg.specs.MessageView.{kind_with, message_of, sort_or_zero}
use Rattle.aw_msg.specs.declared.message.MsgKind.{MsgKind}
use Rattle.aw_msg.specs.declared.message.MsgKind.TheVariants.{Call, Ask, Tell}
use Rattle.aw_msg.specs.declared.message.Message.{Message}

body-told : (a b : Body) → body_of a ≡ body_of b → a ≡ b
body-told (Same r) (Same s) e = cc
body-told (Same r) (Con c rs) e = absurd cc
body-told (Same r) (Num n) e = absurd cc
body-told (Same r) (Text t) e = absurd cc
body-told (Con c rs) (Same s) e = absurd cc
body-told (Con c rs) (Con d ss) e = cc
body-told (Con c rs) (Num n) e = absurd cc
body-told (Con c rs) (Text t) e = absurd cc
body-told (Num n) (Same s) e = absurd cc
body-told (Num n) (Con d ss) e = absurd cc
body-told (Num n) (Num m) e = cc
body-told (Num n) (Text t) e = absurd cc
body-told (Text t) (Same s) e = absurd cc
body-told (Text t) (Con d ss) e = absurd cc
body-told (Text t) (Num m) e = absurd cc
body-told (Text t) (Text u) e = cc

equation-told : (a b : Equation) → equation_of a ≡ equation_of b → a ≡ b
equation-told a b e =
    let left = ap (λ (x : P.Equation). x.left) e in
    let body = body-told a.body b.body (ap (λ (x : P.Equation). x.body) e) in
    λ i. record { left = left i; body = body i }

load-told : (xs ys : List Equation) → map equation_of xs ≡ map equation_of ys → xs ≡ ys
load-told [] [] e = refl
load-told [] (y ∷ ys) e = absurd cc
load-told (x ∷ xs) [] e = absurd cc
load-told (x ∷ xs) (y ∷ ys) e =
    let here : equation_of x ≡ equation_of y = cc in
    let rest : map equation_of xs ≡ map equation_of ys = cc in
    let a = equation-told x y here in
    let b = load-told xs ys rest in
    λ i. a i ∷ b i

kind-told : (sort : Node → ℕ) (a b : MsgKind) → kind_with sort a ≡ kind_with sort b → a ≡ b
kind-told sort (Call n rs load) (Call m ss other) e =
    let call : ◌≡◌ {A = PlainCall} (record { node = n; sort = sort n; inherited = rs }) (record { node = m; sort = sort m; inherited = ss }) = cc in
    let loads : map equation_of load ≡ map equation_of other = cc in
    let p = ap (λ (x : PlainCall). x.node) call in
    let q = ap (λ (x : PlainCall). x.inherited) call in
    let l = load-told load other loads in
    λ i. Call (p i) (q i) (l i)
kind-told sort (Call n rs load) (Ask r from) e = absurd cc
kind-told sort (Call n rs load) (Tell x load') e = absurd cc
kind-told sort (Ask r from) (Call n rs load) e = absurd cc
kind-told sort (Ask r from) (Ask s role) e = cc
kind-told sort (Ask r from) (Tell x load) e = absurd cc
kind-told sort (Tell x load) (Call n rs load') e = absurd cc
kind-told sort (Tell x load) (Ask r from) e = absurd cc
kind-told sort (Tell x load) (Tell y other) e =
    let equations : equation_of x ≡ equation_of y = cc in
    let loads : map equation_of load ≡ map equation_of other = cc in
    let p = equation-told x y equations in
    let l = load-told load other loads in
    λ i. Tell (p i) (l i)

pub message-told : (g : Grammar) (a b : Message) → message_of g a ≡ message_of g b → a ≡ b
message-told g a b e =
    let to = ap (λ (x : M.Message). x.to) e in
    let kind = kind-told (sort_or_zero g) a.kind b.kind (ap (λ (x : M.Message). x.kind) e) in
    λ i. record { to = to i; kind = kind i }
