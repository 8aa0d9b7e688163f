-- The invariant of a world as it is proved: over its sites, its messages, which of them were delivered, and the joint configuration of the choices taken.
use Rattle.std.specs.Prelude.{slice_get, ◌⊎◌}
use Rattle.std.proofs.Common.{Bool, List, Some, [], false, length, true, ℕ, ◌<◌, ◌∷◌, ◌≡◌}
use Rattle.aw_list.specs.Members.{Member}
use Rattle.aw_term.specs.Names.{Node, Ref, below, node_lt}
use Rattle.aw_term.specs.Rules.{Grammar}
use Rattle.aw_term.specs.Trees.{Never}
use Rattle.aw_term.specs.WellFormed.{Each, Later}
use Rattle.aw_term.specs.Held.{Held}
use Rattle.aw_store.specs.Equations.{Body, Equation, Map, find}
use Rattle.aw_apply.specs.Made.{Call}
use Rattle.aw_apply.specs.Messages.{Asks, Calls, Kind, Message, Tells, carried}
use Rattle.aw_law_sites.specs.Joint.{Joint, called_held}
use Rattle.aw_law_sites.specs.Asking.{ask_message}
use Rattle.aw_law_sites.specs.Homes.{home}
use Rattle.aw_law_sites.specs.Sites.{Site}
use Rattle.aw_law_worlds.specs.Invariant.{IsBrought, sender}
use Rattle.aw_law_worlds.specs.Mentioned.{IsMentioned}

abbrev pub KindKin : Kind → Kind → Type 0
KindKin (Calls c load) (Calls d load') = c.node ≡ d.node
KindKin (Asks r a) (Asks s b) = (r ≡ s) × (a ≡ b)
KindKin (Tells e load) (Tells f load') = e.left ≡ f.left
KindKin _ _ = Never

-- what one role may have sent another once at most: the child called, the reference asked, the reference told
abbrev pub Kin : Message → Message → Type 0
Kin m n = (m.to ≡ n.to) × KindKin m.kind n.kind

abbrev pub Apart : Message → Message → Type 0
Apart m n = Kin m n → Never

-- a reference that needs no further asking
abbrev pub Settled : Grammar → Site → Ref → Type 0
Settled g s r = (home g r.node ≡ s.role) ⊎ ((s.asked r ≡ true) ⊎ ((b : Body) × (find s.equations r ≡ Some b)))

abbrev pub Is_held : Call → List Held → Type 0
Is_held c hs = (h : Held) × Member h hs × (h.node ≡ c.node) × (h.sort ≡ c.sort) × (h.inherited ≡ c.inherited)

abbrev pub HoldsAll : Map → List Equation → Type 0
HoldsAll k es = Each (λ (e : Equation). find k e.left ≡ Some e.body) es

-- what a delivered message has left at its site
abbrev pub Effect : Site → Kind → Type 0
Effect s (Calls c load) = Is_held c s.held × HoldsAll s.equations load
Effect s (Asks r b) = (s.watches r b ≡ true)
Effect s (Tells e load) = HoldsAll s.equations (e ∷ load)

-- what is found at its site only after it was delivered; with loads an equation may come before its Tell
abbrev pub Mark : Bool → Site → Kind → Type 0
Mark loads s (Calls c load) = (h : Held) × Member h s.held × (h.node ≡ c.node)
Mark loads s (Asks r b) = (s.watches r b ≡ true)
Mark loads s (Tells e load) = (loads ≡ false) × ((b : Body) × (find s.equations e.left ≡ Some b))

abbrev pub IsLight : Kind → Type 0
IsLight (Calls c load) = load ≡ []
IsLight (Asks r b) = Unit {0}
IsLight (Tells e load) = load ≡ []

-- what is carried is known, and of another home
abbrev pub Carries : Grammar → Joint → ℕ → List Equation → Type 0
Carries g x to es = Each (λ (e : Equation). Member e x.equations × (home g e.left.node ≡ to → Never)) es

-- what a sent message is about
abbrev pub Sound : Grammar → (ℕ → Site) → Joint → ℕ → Kind → Type 0
Sound g S x to (Calls c load) =
    (to ≡ home g c.node) × ((p : Node) × (r : ℕ) × (k : ℕ) × (c.node ≡ below p r k) × (home g p ≡ to → Never)) × (Member (called_held c) x.held ⊎ Is_held c (S to).held) × Carries g x to load
Sound g S x to (Asks r b) = (to ≡ home g r.node) × (to ≡ b → Never) × ((S b).asked r ≡ true)
Sound g S x to (Tells e load) = ((S (home g e.left.node)).watches e.left to ≡ true) × Carries g x to (e ∷ load)

abbrev pub Sends_own : Grammar → Kind → Type 0
Sends_own g k = Each (λ (e : Equation). home g e.left.node ≡ sender g k) (carried k)

abbrev pub IsTold : Equation → ℕ → List Message → Type 0
IsTold e b M = (load : List Equation) × Member (record { to = b; kind = Tells e load }) M

abbrev pub IsCalled : Grammar → Held → List Message → Type 0
IsCalled g h M = (load : List Equation) × Member (record { to = home g h.node; kind = Calls (record { node = h.node; sort = h.sort; inherited = h.inherited }) load }) M

-- nodes in order
abbrev pub HeldBefore : Held → Held → Type 0
HeldBefore h k = node_lt h.node k.node ≡ true

-- The invariant over the sites, the messages, which of them were delivered, and all nodes and equations
pub record Inv (g : Grammar) (loads : Bool) (S : ℕ → Site) (M : List Message) (D : ℕ → Type 0) (x : Joint) : Type 0 where
  pub roles : (a : ℕ) → (S a).role ≡ a
  pub ordered : (a : ℕ) → Later HeldBefore (S a).held
  pub flags : (a : ℕ) → loads ≡ false → (S a).loads ≡ false
  -- a site holds a part of the whole, and a home has its own
  pub parts : (a : ℕ) (e : Equation) → Member e (S a).equations → Member e x.equations
  pub homes : (r : Ref) (b : Body) → find x.equations r ≡ Some b → find (S (home g r.node)).equations r ≡ Some b
  -- a site holds nodes of its role
  pub held : (a : ℕ) (h : Held) → Member h (S a).held → Member h x.held × (home g h.node ≡ a)
  -- each node is held at its home, or called there
  pub called : (h : Held) → Member h x.held → Member h (S (home g h.node)).held ⊎ IsCalled g h M
  -- what is mentioned is settled
  pub settled : (a : ℕ) (r : Ref) → IsMentioned r (S a).equations (S a).held → Settled g (S a) r
  -- what is asked for
  pub asked : (a : ℕ) (r : Ref) → ((S a).asked r ≡ true) → Member (ask_message g a r) M × IsMentioned r x.equations x.held
  pub range : (a : ℕ) (r : Ref) → ((S a).asked r ≡ true) → a < g.roles
  pub watched : (a : ℕ) (r : Ref) (to : ℕ) → ((S a).watches r to ≡ true) → (home g r.node ≡ a) × ((S to).asked r ≡ true)
  -- what is told
  pub tells : (a : ℕ) (r : Ref) (to : ℕ) (b : Body) → ((S a).watches r to ≡ true) → find (S a).equations r ≡ Some b → IsTold (record { left = r; body = b }) to M
  -- equations of other roles
  pub foreign : (a : ℕ) (r : Ref) (b : Body) → find (S a).equations r ≡ Some b → (home g r.node ≡ a) ⊎ IsBrought D M a r b
  -- every message
  pub sound : (m : Message) → Member m M → Sound g S x m.to m.kind
  -- what a message carries is its sender's own
  pub senders : (m : Message) → Member m M → Sends_own g m.kind
  -- the messages are those of the outboxes
  pub boxes : (a : ℕ) (m : Message) → Member m (S a).outbox → Member m M × (sender g m.kind ≡ a)
  pub boxed : (m : Message) → Member m M → Member m (S (sender g m.kind)).outbox
  pub effect : (k : ℕ) (m : Message) → slice_get M k ≡ Some m → (D k → Effect (S m.to) m.kind) × (Mark loads (S m.to) m.kind → D k)
  pub light : loads ≡ false → (m : Message) → Member m M → IsLight m.kind
  pub before : (k : ℕ) → D k → k < length M
  pub apart : Later Apart M
