-- What workspaces tell each other, and what the one that is told answers.
use Rattle.std.specs.Prelude.{ℕ, List, [], ◌∷◌}
use Rattle.aw_term.specs.Names.{Ref}
use Rattle.aw_store.specs.Equations.{Body, Equation}
use Rattle.aw_apply.specs.Made.{Call}

-- A child to be worked on, a question for a reference, from a role, or an equation that was asked for. A call and a tell carry a load: equations
-- that the receiver may soon need.
pub data Kind : Type 0 where
  Calls : (call : Call) → (load : List Equation) → Kind
  Asks : (reference : Ref) → (from : ℕ) → Kind
  Tells : (equation : Equation) → (load : List Equation) → Kind

-- with the role that it is for
pub record Message : Type 0 where
  pub to : ℕ
  pub kind : Kind

-- the equations that a message carries
abbrev pub carried : Kind → List Equation
carried (Calls call load) = load
carried (Asks r from) = []
carried (Tells e load) = e ∷ load

-- what can contradict: the references that a node inherited, or the body of a reference
pub data Content : Type 0 where
  OfNode : (references : List Ref) → Content
  OfReference : (body : Body) → Content

-- what is held, or stands earlier in the message, and what came
pub record Clash : Type 0 where
  pub kept : Content
  pub came : Content

-- The five answers to a message, of which the first that holds is given: a name in it is not valid, it is about nothing of this role, it contradicts,
-- nothing of it is new, or something is, and then the receiver reacts.
pub data Received (R : Type 0) : Type 0 where
  BadName : Received R
  NotMine : Received R
  Conflict : (kept came : Content) → Received R
  Repeat : Received R
  New : (reaction : R) → Received R
