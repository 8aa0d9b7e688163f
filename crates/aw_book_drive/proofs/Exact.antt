-- The derived test of messages is exact.
use Rattle.std.proofs.Common.{◌≡◌, Decides, ap}
use Rattle.std.specs.Cmp.Lexicographic.{pointwise_decides}
use Rattle.std.proofs.lemmas.Bool.Decides.{Decides-eqb, Decides-and, Decides-like}
use Rattle.aw_name.specs.SameNodes.{derived_node_Decides}
use Rattle.aw_name.specs.SameRefs.{derived_ref_Decides}
use Rattle.aw_store.proofs.BodyLemmas.{body_exact}
use Rattle.aw_store.specs.declared.equation.Equation.{Equation}
use Rattle.aw_store.specs.contracts.equation.EquationPartialEq.TheImpl as equations
use Rattle.aw_msg.specs.declared.message.MsgKind.{MsgKind}
use Rattle.aw_msg.specs.declared.message.MsgKind.TheVariants.{Call, Ask, Tell}
use Rattle.aw_msg.specs.declared.message.Message.{Message}
use Rattle.aw_msg.specs.contracts.message.MsgKindPartialEq.TheImpl as kinds
use Rattle.aw_msg.specs.contracts.message.MessagePartialEq.TheImpl as messages

pub equation_exact : (a b : Equation) → Decides ((equations.ghosts).eq a b) (a ≡ b)
equation_exact a b =
    Decides-like _ (λ z. λ i. record { left = z.0 i; body = z.1 i }) (λ e. (ap (λ (x : Equation). x.left) e, ap (λ (x : Equation). x.body) e))
    (Decides-and _ _ (derived_ref_Decides a.left b.left) (body_exact a.body b.body))

kind_exact : (a b : MsgKind) → Decides ((kinds.ghosts).eq a b) (a ≡ b)
kind_exact (Call n rs load) (Call m ss other) =
    Decides-like _ (λ z. λ i. Call (z.0 i) (z.1.0 i) (z.1.1 i)) (λ e. ((cc), ((cc), (cc))))
    (Decides-and _ _ (derived_node_Decides n m)
    (Decides-and _ _ (pointwise_decides derived_ref_Decides rs ss) (pointwise_decides equation_exact load other)))
kind_exact (Ask r from) (Ask s role) =
    Decides-like _ (λ z. λ i. Ask (z.0 i) (z.1 i)) (λ e. ((cc), (cc))) (Decides-and _ _ (derived_ref_Decides r s) (Decides-eqb from role))
kind_exact (Tell e load) (Tell f other) =
    Decides-like _ (λ z. λ i. Tell (z.0 i) (z.1 i)) (λ e. ((cc), (cc))) (Decides-and _ _ (equation_exact e f) (pointwise_decides equation_exact load other))
kind_exact (Call n rs load) (Ask s role) = (λ e. cc, λ e. cc)
kind_exact (Call n rs load) (Tell f other) = (λ e. cc, λ e. cc)
kind_exact (Ask r from) (Call m ss other) = (λ e. cc, λ e. cc)
kind_exact (Ask r from) (Tell f other) = (λ e. cc, λ e. cc)
kind_exact (Tell e load) (Call m ss other) = (λ e. cc, λ e. cc)
kind_exact (Tell e load) (Ask s role) = (λ e. cc, λ e. cc)

pub message_exact : (a b : Message) → Decides ((messages.ghosts).eq a b) (a ≡ b)
message_exact a b =
    Decides-like _ (λ z. λ i. record { to = z.0 i; kind = z.1 i }) (λ e. (ap (λ (x : Message). x.to) e, ap (λ (x : Message). x.kind) e))
    (Decides-and _ _ (Decides-eqb a.to b.to) (kind_exact a.kind b.kind))
