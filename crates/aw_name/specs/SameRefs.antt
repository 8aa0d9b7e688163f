-- When two names of values are one.
use Rattle.std.specs.Prelude.{◌≡◌, ℕ, ◌&&◌, Bool, false, nat_eq}
use Rattle.std.specs.Bool.{Decides}
use Rattle.std.proofs.Common.{refl, ap, ◌∙◌}
use Rattle.std.proofs.lemmas.Bool.Decides.{Decides-eqb, Decides-and, Decides-like, Decides-at}
use Rattle.aw_name.specs.contracts.node.SlotPartialEq.TheImpl as slot
use Rattle.aw_name.specs.contracts.node.RefPartialEq.TheImpl as reference
use Rattle.aw_name.specs.declared.node.Slot.{Slot}
use Rattle.aw_name.specs.declared.node.Slot.TheVariants.{Result, Part}
use Rattle.aw_name.specs.declared.node.Ref.{Ref}
use Rattle.aw_name.specs.SameNodes.{node_eq, node_Decides, node_same}

-- whether two slots are one: both of results or both of parts, with the same number
abbrev pub slot_eq : Slot → Slot → Bool
slot_eq (Result i) (Result j) = nat_eq i j
slot_eq (Result i) (Part k) = false
slot_eq (Part k) (Result j) = false
slot_eq (Part k) (Part l) = nat_eq k l

-- the number of a slot, of whichever kind
abbrev number_of : Slot → ℕ
number_of (Result i) = i
number_of (Part k) = k

-- this test tells whether two slots are one
pub slot_Decides : (a b : Slot) → Decides (slot_eq a b) (a ≡ b)
slot_Decides (Result i) (Result j) = Decides-like _ (ap Result) (ap number_of) (Decides-eqb i j)
slot_Decides (Result i) (Part k) = (λ e. cc, λ e. cc)
slot_Decides (Part k) (Result j) = (λ e. cc, λ e. cc)
slot_Decides (Part k) (Part l) = Decides-like _ (ap Part) (ap number_of) (Decides-eqb k l)

-- whether two references are one: the same slot of the same node
abbrev pub ref_eq : Ref → Ref → Bool
ref_eq a b = node_eq a.node b.node && slot_eq a.slot b.slot

-- this test tells whether two references are one
pub ref_Decides : (a b : Ref) → Decides (ref_eq a b) (a ≡ b)
ref_Decides a b =
    Decides-like _ (λ p. λ i. record { node = p.0 i; slot = p.1 i }) (λ e. (ap (λ (s : Ref). s.node) e, ap (λ (s : Ref). s.slot) e))
    (Decides-and _ _ (node_Decides a.node b.node) (slot_Decides a.slot b.slot))

-- the derived test of slots is this one
pub slot_same : (a b : Slot) → (slot.ghosts).eq a b ≡ slot_eq a b
slot_same (Result i) (Result j) = refl
slot_same (Result i) (Part k) = refl
slot_same (Part k) (Result j) = refl
slot_same (Part k) (Part l) = refl

-- the derived test of references is this one
pub ref_same : (a b : Ref) → (reference.ghosts).eq a b ≡ ref_eq a b
ref_same a b = ap (λ t. t && (slot.ghosts).eq a.slot b.slot) (node_same a.node b.node) ∙ ap (λ t. node_eq a.node b.node && t) (slot_same a.slot b.slot)

-- what the derived test of references gives tells whether two are one
pub ref_exact : (a b : Ref) (r : Bool) → r ≡ (reference.ghosts).eq a b → Decides r (a ≡ b)
ref_exact a b r e = Decides-at r _ (e ∙ ref_same a b) (ref_Decides a b)

-- the derived test of references tells whether two are one
pub derived_ref_Decides : (a b : Ref) → Decides ((reference.ghosts).eq a b) (a ≡ b)
derived_ref_Decides a b = ref_exact a b _ refl
