-- A circle of the new configuration gives one of the old, or within the rule.
use Rattle.std.proofs.Common.{◌≡◌, ℕ, Some, inl, inr}
use Rattle.std.specs.Prelude.{◌⊎◌}
use Rattle.aw_list.specs.Members.{Member}
use Rattle.aw_term.specs.Trees.{In}
use Rattle.aw_term.specs.Names.{Ref, result}
use Rattle.aw_term.specs.Rules.{Value, Rule}
use Rattle.aw_term.specs.Configs.{Pending, Row, Config}
use Rattle.aw_iograph.specs.Graphs.{Plus, step, more}
use Rattle.aw_iograph.specs.Occurrences.{item}
use Rattle.aw_accept.specs.Acyclic.{Needs, need}
use Rattle.aw_accept.proofs.Spots.{Spot, Inh, Out, Move}
use Rattle.aw_iograph.proofs.Reaching.{join}

-- the old holes and the occurrences of the rule that is taken
pub data Vertex : Type 0 where
  H : (h : Ref) → Vertex
  O : (o : Spot) → Vertex

module _ (r : Rule) (rel : ℕ → ℕ → ℕ → Type 0) (c : Config) (q : Row) where
  -- each depends on the next
  pub data Way : Vertex → Vertex → Type 0 where
    outer : {a b : Ref} → Needs rel c a b → Way (H a) (H b)
    enter : (j : ℕ) → Way (H (result q.node j)) (O (Out 0 j))
    inner : {o u : Spot} → Move r rel o u → Way (O u) (O o)
    leave : {h : Ref} → (i : ℕ) → (t : Value) → item q.inherited i ≡ Some t → In h t → Way (O (Inh 0 i)) (H h)

  -- from o one comes, within the rule, to result j, in no step or more
  pub data Reaches (j : ℕ) : Spot → Type 0 where
    there : Reaches j (Out 0 j)
    goes : {o : Spot} → Plus (Move r rel) o (Out 0 j) → Reaches j o

  abbrev Contracted : Ref → Vertex → Type 0
  Contracted b (H a) = Plus (Needs rel c) a b
  Contracted b (O o) = (j : ℕ) → Reaches j o → Plus (Needs rel c) (result q.node j) b

  back_one : {o u : Spot} {j : ℕ} → Move r rel o u → Reaches j u → Reaches j o
  back_one e there = goes (step e)
  back_one e (goes w) = goes (more e w)

  module _ (m : Member q c) (p : q.state ≡ Pending) (closed : (i j : ℕ) → Plus (Move r rel) (Inh 0 i) (Out 0 j) → rel q.sort i j) where
    out_need : {h : Ref} (i j : ℕ) (t : Value) → item q.inherited i ≡ Some t → In h t → Reaches j (Inh 0 i) → Needs rel c (result q.node j) h
    out_need i j t e x (goes w) = need q i j t m p (closed i j w) e x

    pub contract : {v : Vertex} {b : Ref} → Plus Way v (H b) → Contracted b v
    contract (step (outer n)) = step n
    contract (step (leave i t e x)) = λ j w. step (out_need i j t e x w)
    contract (more (outer n) w) = more n (contract w)
    contract (more (enter j) w) = contract w j there
    contract (more (inner e) w) = λ j u. contract w j (back_one e u)
    contract (more (leave i t e x) w) = λ j u. more (out_need i j t e x u) (contract w)

  abbrev Within : Vertex → Spot → Type 0
  Within (H a) o = Unit {0}
  Within (O u) o = Plus (Move r rel) o u ⊎ ((a : Ref) × Plus Way (O u) (H a) × Plus Way (H a) (O o))

  snoc : {o u w : Spot} → Plus (Move r rel) o u → Move r rel u w → Plus (Move r rel) o w
  snoc w e = join w (step e)

  first : {u v o : Spot} → Move r rel v u → Within (O v) o → Within (O u) o
  first e (inl w) = inl (snoc w e)
  first e (inr (a, w, x)) = inr (a, more (inner e) w, x)

  pub within : {v : Vertex} {o : Spot} → Plus Way v (O o) → Within v o
  within (step (enter j)) = tt
  within (step (inner e)) = inl (step e)
  within (more (outer n) w) = tt
  within (more (enter j) w) = tt
  within (more (inner e) w) = first e (within w)
  within (more (leave i t e x) w) = inr (_, step (leave i t e x), w)
