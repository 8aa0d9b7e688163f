-- Each delivery of a message that was not delivered comes nearer to the bound.
use Rattle.std.proofs.Common.{◌≡◌, ℕ, suc, ◌<◌, ◌≤◌, arith, Bool, List, [], ◌∷◌, ◌++◌, length, ap, subst}
use Rattle.std.specs.Prelude.{slice_get, Some}
use Rattle.aw_list.proofs.Members.{member_got}
use Rattle.aw_term.specs.Artifacts.{Words}
use Rattle.aw_term.specs.Rules.{Grammar}
use Rattle.aw_term.specs.WellFormed.{Each}
use Rattle.aw_term.proofs.Eaches.{each_push}
use Rattle.aw_apply.specs.Messages.{Message}
use Rattle.aw_law_sites.specs.Laws.{IsAccepted}
use Rattle.aw_law_sites.specs.Worlds.{World, Move, Delivers, MayCome, count_set, deliver, step, undelivered, empty_world, world_after}
use Rattle.aw_law_sites.specs.Bounds.{bound_of}
use Rattle.aw_law_worlds.proofs.Counting.{count_within}
use Rattle.aw_law_worlds.proofs.Settling.{deliver_counts, deliver_taken, run_more}
use Rattle.aw_law_worlds.proofs.WorldLaws.{bound_law, invariant_law}

-- one event more
pub after_more : (g : Grammar) (loads : Bool) (es : List Move) (e : Move) → Each (MayCome g) es → MayCome g e → Each (MayCome g) (es ++ e ∷ [])
    × (world_after g loads (es ++ e ∷ []) ≡ (step g (world_after g loads es) e).world)
after_more g loads es e a p = (each_push (MayCome g) es e a p, run_more g (empty_world g loads) es e)

module _ (words : Words) (g : Grammar) (accepted : IsAccepted words g) (loads : Bool) (es : List Move) (may : Each (MayCome g) es) where
  abbrev w : World
  w = world_after g loads es

  pub marks_all : length w.delivered ≡ length w.messages
  marks_all = let (x, I) = invariant_law words g accepted loads es may in I.marks

  -- no more messages than the bound
  pub within_bound : length w.messages ≤ bound_of g w.taken
  within_bound = (bound_law words g accepted loads es may).0

  pub count_bounded : count_set w.delivered ≤ bound_of g w.taken
  count_bounded = let c = count_within w.delivered in let l = within_bound in let m = marks_all in omega (arith, c, l, m)

-- delivering the first undelivered message comes nearer to the bound
pub nearer : (words : Words) (g : Grammar) (accepted : IsAccepted words g) (loads : Bool) (es : List Move) → Each (MayCome g) es → (k : ℕ) → undelivered (world_after g loads es) ≡ Some k
    → (count_set (deliver g (world_after g loads es) k).world.delivered ≡ suc (count_set (world_after g loads es).delivered))
    × (suc (count_set (world_after g loads es).delivered) ≤ bound_of g (world_after g loads es).taken)
nearer words g accepted loads es may k e =
    let v = world_after g loads es in
    let c = deliver_counts g v k e (marks_all words g accepted loads es may) in
    let (a, f) = after_more g loads es (Delivers k) may tt in
    let b = count_bounded words g accepted loads (es ++ Delivers k ∷ []) a in
    let b' : count_set (deliver g v k).world.delivered ≤ bound_of g (deliver g v k).world.taken = subst (λ u. count_set u.delivered ≤ bound_of g u.taken) f b in
    let t : bound_of g (deliver g v k).world.taken ≡ bound_of g v.taken = ap (bound_of g) (deliver_taken g v k) in
    (c, omega (arith, c, b', t))

-- each message is for one of the roles
pub addressed : (words : Words) (g : Grammar) (accepted : IsAccepted words g) (loads : Bool) (es : List Move) → Each (MayCome g) es →
    (k : ℕ) (m : Message) → slice_get (world_after g loads es).messages k ≡ Some m → m.to < g.roles
addressed words g accepted loads es may k m e =
    let (x, I) = invariant_law words g accepted loads es may in I.addressed m (member_got (world_after g loads es).messages k m e)
