-- What holds of a world at every moment.
use Rattle.std.specs.Prelude.{◌≡◌, ℕ, ◌<◌, Bool, true, false, List, Some, slice_get, ◌⊎◌, length}
use Rattle.aw_list.specs.Members.{Member}
use Rattle.aw_term.specs.Trees.{Never}
use Rattle.aw_term.specs.Names.{Ref}
use Rattle.aw_term.specs.Rules.{Grammar, sort_of}
use Rattle.aw_term.specs.Held.{Held}
use Rattle.aw_store.specs.Equations.{Body, Equation, find}
use Rattle.aw_apply.specs.Made.{Call}
use Rattle.aw_apply.specs.Messages.{Kind, Calls, Asks, Tells, Message, carried}
use Rattle.aw_law_sites.specs.Joint.{Joint, empty_joint, joint_run}
use Rattle.aw_law_sites.specs.Homes.{home, parent}
use Rattle.aw_law_sites.specs.Asking.{ask_message}
use Rattle.aw_law_sites.specs.ValidNames.{call_ok, equation_ok}
use Rattle.aw_law_sites.specs.Worlds.{World, site_at}
use Rattle.aw_law_worlds.specs.Mentioned.{IsMentioned, IsRooted}

-- the message with this number was delivered
abbrev pub IsDelivered : World → ℕ → Type 0
IsDelivered w k = slice_get w.delivered k ≡ Some true

-- the message was sent with this number
abbrev pub IsSent : World → Message → ℕ → Type 0
IsSent w m k = slice_get w.messages k ≡ Some m

-- it was sent with this number, and with no other
abbrev pub IsSentOnce : World → Message → ℕ → Type 0
IsSentOnce w m k = IsSent w m k × ((j : ℕ) → IsSent w m j → j ≡ k)

-- the reference has this body
abbrev pub equation : Ref → Body → Equation
equation r b = record { left = r; body = b }

-- the child that a held node is
abbrev pub as_call : Held → Call
as_call h = record { node = h.node; sort = h.sort; inherited = h.inherited }

-- a call for a role, with a load
abbrev pub calls_at : ℕ → Call → List Equation → Message
calls_at to c load = record { to = to; kind = Calls c load }

-- the call of a held node, with a load
abbrev pub call_message : Grammar → Held → List Equation → Message
call_message g h load = calls_at (home g h.node) (as_call h) load

-- an equation for a role, with a load
abbrev pub tell_message : ℕ → Equation → List Equation → Message
tell_message role e load = record { to = role; kind = Tells e load }

-- the role that sends a message of this kind
abbrev pub sender : Grammar → Kind → ℕ
sender g (Calls c load) = home g (parent c.node)
sender g (Asks r from) = from
sender g (Tells e load) = home g e.left.node

-- a message that carries the equation was delivered to the role
abbrev pub IsBrought : (ℕ → Type 0) → List Message → ℕ → Ref → Body → Type 0
IsBrought D messages role r b = (k : ℕ) × (m : Message) × (slice_get messages k ≡ Some m) × D k × (m.to ≡ role) × Member (equation r b) (carried m.kind)

-- the names of all nodes, references and constructors are valid, and each node has its sort
pub record IsValid (g : Grammar) (x : Joint) : Type 0 where
  pub held : (h : Held) → Member h x.held → call_ok g (as_call h) ≡ true
  pub sorts : (h : Held) → Member h x.held → sort_of g h.node ≡ Some h.sort
  pub equations : (e : Equation) → Member e x.equations → equation_ok g e ≡ true

-- x has all nodes and equations of the choices taken in the world w
pub record IsInvariant (g : Grammar) (loads : Bool) (w : World) (x : Joint) : Type 0 where
  pub taken : joint_run g empty_joint w.taken ≡ Some x
  pub sites : length w.sites ≡ g.roles
  pub marks : length w.delivered ≡ length w.messages
  pub roles : (a : ℕ) → (site_at w a).role ≡ a
  pub valid : IsValid g x
  -- an equation is the only one of its left side; a site holds a part of them, and a home holds its own
  pub keyed : (e : Equation) → Member e x.equations → find x.equations e.left ≡ Some e.body
  pub known : (a : ℕ) (r : Ref) (b : Body) → find (site_at w a).equations r ≡ Some b → find x.equations r ≡ Some b
  pub homes : (r : Ref) (b : Body) → find x.equations r ≡ Some b → find (site_at w (home g r.node)).equations r ≡ Some b
  -- a site holds nodes of its role, with the references that they inherited
  pub held : (a : ℕ) (h : Held) → Member h (site_at w a).held → Member h x.held × (home g h.node ≡ a)
  -- each node is held at its home, or its call was sent and not delivered
  pub called : (h : Held) → Member h x.held → Member h (site_at w (home g h.node)).held
      ⊎ ((k : ℕ) × (load : List Equation) × IsSent w (call_message g h load) k × (IsDelivered w k → Never))
  -- each mentioned reference was created
  pub rooted : IsRooted g x
  -- each mentioned reference of another role was asked for, or its equation is held at the site that mentions it; without loads it was asked for
  pub asked : (a : ℕ) (r : Ref) → IsMentioned r (site_at w a).equations (site_at w a).held
      → (home g r.node ≡ a) ⊎ (((site_at w a).asked r ≡ true) ⊎ ((b : Body) × (find (site_at w a).equations r ≡ Some b)))
  pub asked_all : loads ≡ false → (a : ℕ) (r : Ref) → IsMentioned r (site_at w a).equations (site_at w a).held →
      (home g r.node ≡ a) ⊎ ((site_at w a).asked r ≡ true)
  -- for each reference that was asked for there is one question, and it was delivered exactly where the asker is a watcher
  pub one_ask : (a : ℕ) (r : Ref) → ((site_at w a).asked r ≡ true) → (k : ℕ) × IsSentOnce w (ask_message g a r) k
      × (IsDelivered w k → ((site_at w (home g r.node)).watches r a ≡ true))
      × (((site_at w (home g r.node)).watches r a ≡ true) → IsDelivered w k)
  -- for each watcher whose equation is at its home there is one tell, and no other tell was sent
  pub one_tell : (a : ℕ) (r : Ref) (to : ℕ) (b : Body) → ((site_at w a).watches r to ≡ true) → find (site_at w a).equations r ≡ Some b
      → (k : ℕ) × (load : List Equation) × IsSent w (tell_message to (equation r b) load) k
      × ((j : ℕ) (e : Equation) (other : List Equation) → e.left ≡ r → IsSent w (tell_message to e other) j → j ≡ k)
  pub told : (k : ℕ) (role : ℕ) (e : Equation) (load : List Equation) → IsSent w (tell_message role e load) k
      → ((site_at w (home g e.left.node)).watches e.left role ≡ true) × (find (site_at w (home g e.left.node)).equations e.left ≡ Some e.body)
  -- an equation of another role is held exactly where a message that carries it was delivered
  pub brought : (a : ℕ) (r : Ref) (b : Body) → (home g r.node ≡ a → Never)
      → (find (site_at w a).equations r ≡ Some b → IsBrought (IsDelivered w) w.messages a r b)
      × (IsBrought (IsDelivered w) w.messages a r b → find (site_at w a).equations r ≡ Some b)
  -- each equation that a message carries is held at its sender
  pub sender_has : (k : ℕ) (m : Message) → IsSent w m k → (e : Equation) → Member e (carried m.kind) →
      find (site_at w (sender g m.kind)).equations e.left ≡ Some e.body
  -- what a site has in its outbox is what it sent, and each message is in the outbox of its sender
  pub boxes : (a : ℕ) (m : Message) → Member m (site_at w a).outbox → Member m w.messages × (sender g m.kind ≡ a)
  pub boxed : (m : Message) → Member m w.messages → Member m (site_at w (sender g m.kind)).outbox
  -- each message is for a role that is declared, and was sent with one number; and no node is called twice, whatever the loads
  pub addressed : (m : Message) → Member m w.messages → m.to < g.roles
  pub once : (k : ℕ) (m : Message) → IsSent w m k → IsSentOnce w m k
  pub one_call : (j k a b : ℕ) (c d : Call) (load other : List Equation) → IsSent w (calls_at a c load) j → IsSent w (calls_at b d other) k →
      c.node ≡ d.node → j ≡ k
