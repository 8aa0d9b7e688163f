-- One delivery of settling, over a world of the program.
use Rattle.std.proofs.Common.{◌≡◌, ℕ, suc, ◌-◌, ◌<◌, ◌≤◌, arith, List, map, ap, sym, ◌∙◌, subst}
use Rattle.std.specs.Prelude.{Some, None}
use Rattle.std.proofs.Math.Logic.{∥∥₁_elim}
use Rattle.std.specs.Coded.{le_prop}
use Rattle.aw_term.specs.Rules.{Grammar}
use Rattle.aw_term.specs.WellFormed.{Each}
use Rattle.aw_grammar.specs.GrammarOf.{grammar_of, words_of}
use Rattle.aw_choice.specs.ChoiceView.{choice_of}
use Rattle.aw_law_sites.specs.Laws.{IsAccepted}
use Rattle.aw_law_sites.specs.Worlds as V
use Rattle.aw_law_sites.specs.Worlds.{MayCome, world_after}
use Rattle.aw_world.specs.declared.workspace.Workspace.{Ghosts}
use Rattle.aw_world.specs.declared.world.World.{World}
use Rattle.aw_law_sites.specs.Worlds.{count_set}
use Rattle.aw_world.specs.Marks.{marks}
use Rattle.aw_law_sites.specs.Bounds.{bound_of}
use Rattle.aw_world.specs.Shown.{Shows}
use Rattle.aw_world.proofs.MarkLemmas.{marks_count}
use Rattle.aw_law_worlds.proofs.Nearing.{nearer, count_bounded}
use Rattle.aw_law_worlds.proofs.Settling.{settle_more, settle_done, settle_taken, deliver_taken}

module _ {W : Type 0} (f : Ghosts W) (w : World W f) where
  -- a bound that holds of the plain world that events lead to
  at_reached : (m n : ℕ) → ((es : List V.Move) → Each (MayCome (grammar_of w.accepted.now.grammar)) es →
      Shows f w (world_after (grammar_of w.accepted.now.grammar) w.loads es) → IsAccepted (words_of w.accepted.now.grammar)
      (grammar_of w.accepted.now.grammar) → m ≤ n) → m ≤ n
  at_reached m n go = ∥∥₁_elim w.accepted.now.grammar.well_formed le_prop (λ formed. ∥∥₁_elim w.accepted.now.sound le_prop (λ sound. ∥∥₁_elim w.reached le_prop (λ r. go r.0 r.1 r.2 (formed, sound))))

  pub counted : (v : V.World) → Shows f w v → count_set v.delivered ≡ count_set w.marks.delivered.items
  counted v S = ap (λ (u : V.World). count_set u.delivered) (sym S) ∙ marks_count w.messages w.marks.delivered.items w.marked

  -- the choices taken bound what is delivered
  pub bounded : count_set w.marks.delivered.items ≤ bound_of (grammar_of w.accepted.now.grammar) (map choice_of w.taken.items)
  bounded = at_reached _ _ (λ es may S accepted.
      let p = grammar_of w.accepted.now.grammar in
      let b = count_bounded (words_of w.accepted.now.grammar) p accepted w.loads es may in
      let c = counted (world_after p w.loads es) S in
      let t = ap (λ (u : V.World). bound_of p u.taken) (sym S) in
      omega (arith, b, c, t))

-- a message that was not delivered leaves room for one delivery more
pub room_left : {W : Type 0} (f : Ghosts W) (w : World W f) (k : ℕ) → V.first_false 0 (marks w.messages w.marks.delivered.items) ≡ Some k
    → suc (count_set w.marks.delivered.items) ≤ bound_of (grammar_of w.accepted.now.grammar) (map choice_of w.taken.items)
room_left f w k first = at_reached f w _ _ (λ es may S accepted.
    let p = grammar_of w.accepted.now.grammar in
    let v = world_after p w.loads es in
    let n = nearer (words_of w.accepted.now.grammar) p accepted w.loads es may k (ap (λ (u : V.World). V.first_false 0 u.delivered) (sym S) ∙ first) in
    let c = counted f w v S in
    let t = ap (λ (u : V.World). bound_of p u.taken) (sym S) in
    omega (arith, n.1, c, t))

module _ {W : Type 0} (f : Ghosts W) (w x : World W f) (k : ℕ) (first : V.first_false 0 (marks w.messages w.marks.delivered.items) ≡ Some k)
    (stepped : (v : V.World) → Shows f w v → Shows f x (V.deliver (grammar_of w.accepted.now.grammar) v k).world) where
  is_first : (v : V.World) → Shows f w v → V.undelivered v ≡ Some k
  is_first v S = ap (λ (u : V.World). V.first_false 0 u.delivered) (sym S) ∙ first

  -- one more is delivered
  pub one_more : (suc (count_set w.marks.delivered.items) ≤ count_set x.marks.delivered.items) × (count_set x.marks.delivered.items ≤ suc (count_set w.marks.delivered.items))
  one_more =
      let p = grammar_of w.accepted.now.grammar in (
        at_reached f w _ _ (λ es may S accepted.
            let v = world_after p w.loads es in
            let n = nearer (words_of w.accepted.now.grammar) p accepted w.loads es may k (is_first v S) in
            let a = counted f w v S in
            let b = counted f x (V.deliver p v k).world (stepped v S) in
            omega (arith, n.0, a, b)),
        at_reached f w _ _ (λ es may S accepted.
            let v = world_after p w.loads es in
            let n = nearer (words_of w.accepted.now.grammar) p accepted w.loads es may k (is_first v S) in
            let a = counted f w v S in
            let b = counted f x (V.deliver p v k).world (stepped v S) in
            omega (arith, n.0, a, b)),
      )

  -- so the deliveries that are left come down
  pub fewer_left : bound_of (grammar_of w.accepted.now.grammar) (map choice_of x.taken.items) - count_set x.marks.delivered.items < bound_of
      (grammar_of w.accepted.now.grammar) (map choice_of w.taken.items) - count_set w.marks.delivered.items
  fewer_left =
      let p = grammar_of w.accepted.now.grammar in
      at_reached f w _ _ (λ es may S accepted.
      let v = world_after p w.loads es in
      let n = nearer (words_of w.accepted.now.grammar) p accepted w.loads es may k (is_first v S) in
      let a = counted f w v S in
      let b = counted f x (V.deliver p v k).world (stepped v S) in
      let t : bound_of p (map choice_of x.taken.items) ≡ bound_of p (map choice_of w.taken.items) =
      ap (bound_of p) (ap (λ (u : V.World). u.taken) (stepped v S) ∙ deliver_taken p v k ∙ ap (λ (u : V.World). u.taken) (sym S)) in
      let s : bound_of p v.taken ≡ bound_of p (map choice_of w.taken.items) = ap (λ (u : V.World). bound_of p u.taken) (sym S) in
      omega (arith, n.0, n.1, a, b, t, s))

  pub settled_more : (start : V.World → Type 0) (n : ℕ) → n ≤ count_set w.marks.delivered.items
      → ((v : V.World) → start v → Shows f w (V.settle (count_set w.marks.delivered.items - n) (grammar_of w.accepted.now.grammar) v))
      → (v : V.World) → start v → Shows f x (V.settle (count_set x.marks.delivered.items - n) (grammar_of w.accepted.now.grammar) v)
  settled_more start n l so v s =
      let p = grammar_of w.accepted.now.grammar in
      let m = count_set w.marks.delivered.items - n in
      let o = one_more in
      let e : suc m ≡ count_set x.marks.delivered.items - n = omega (arith, l, o.0, o.1) in
      subst (λ j. Shows f x (V.settle j p v)) e (subst (Shows f x) (sym (settle_more p m v k (is_first (V.settle m p v) (so v s)))) (stepped (V.settle m p v) (so v s)))

  pub settled_on : (p : Grammar) → grammar_of w.accepted.now.grammar ≡ p → (start : V.World → Type 0) (n : ℕ) → n ≤ count_set w.marks.delivered.items
      → ((v : V.World) → start v → Shows f w (V.settle (count_set w.marks.delivered.items - n) p v))
      → (v : V.World) → start v → Shows f x (V.settle (count_set x.marks.delivered.items - n) p v)
  settled_on p e = subst (λ q. (start : V.World → Type 0) (n : ℕ) → n ≤ count_set w.marks.delivered.items
      → ((v : V.World) → start v → Shows f w (V.settle (count_set w.marks.delivered.items - n) q v))
      → (v : V.World) → start v → Shows f x (V.settle (count_set x.marks.delivered.items - n) q v)) e settled_more

-- where none is left, so many deliveries are as good as the bound
pub settled_all : {W : Type 0} (f : Ghosts W) (w : World W f) (n : ℕ) (v : V.World) → V.first_false 0 (marks w.messages w.marks.delivered.items) ≡ None
    → Shows f w (V.settle (count_set w.marks.delivered.items - n) (grammar_of w.accepted.now.grammar) v)
    → Shows f w (V.settle (bound_of (grammar_of w.accepted.now.grammar) v.taken) (grammar_of w.accepted.now.grammar) v)
settled_all f w n v quiet S =
    let p = grammar_of w.accepted.now.grammar in
    let m = count_set w.marks.delivered.items - n in
    let b = bounded f w in
    let t : bound_of p (map choice_of w.taken.items) ≡ bound_of p v.taken = ap (bound_of p) (ap (λ (u : V.World). u.taken) S ∙ settle_taken p m v) in
    subst (Shows f w) (sym (settle_done p m (bound_of p v.taken) v (omega (arith, b, t)) (ap (λ (u : V.World). V.first_false 0 u.delivered) (sym S) ∙ quiet))) S

pub settled_whole : {W : Type 0} (f : Ghosts W) (w : World W f) (p : Grammar) → grammar_of w.accepted.now.grammar ≡ p → (n : ℕ) (v : V.World) →
    V.first_false 0 (marks w.messages w.marks.delivered.items) ≡ None
    → Shows f w (V.settle (count_set w.marks.delivered.items - n) p v) → Shows f w (V.settle (bound_of p v.taken) p v)
settled_whole f w p e n v quiet = subst (λ q. Shows f w (V.settle (count_set w.marks.delivered.items - n) q v) → Shows f w (V.settle (bound_of q v.taken) q v)) e (settled_all f w n v quiet)
