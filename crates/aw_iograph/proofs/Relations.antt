-- The dependence relation is closed under the rules, and the least such relation; the same of what follows from a given one.
use Rattle.std.proofs.Common.{◌≡◌, ℕ, zero, suc, ◌+◌, refl, subst, inl, inr, arith}
use Rattle.std.specs.Prelude.{◌⊎◌}
use Rattle.aw_list.proofs.Members.{never}
use Rattle.aw_term.specs.Rules.{Rule, Grammar}
use Rattle.aw_iograph.specs.declared.occ.Occ.{Occ}
use Rattle.aw_iograph.specs.Graphs.{Plus, step, more}
use Rattle.aw_iograph.specs.Dependence.{Edge, text, call, Walk, io, IO, io_from, Follows, IsClosedUnder}

pub edge_map : (r : Rule) (rel rel' : ℕ → ℕ → ℕ → Type 0) → ((s i j : ℕ) → rel s i j → rel' s i j) → {o u : Occ} → Edge r rel o u → Edge r rel' o u
edge_map r rel rel' f (text v t a b x) = text v t a b x
edge_map r rel rel' f (call k i l c a x) = call k i l c a (f c.sort i l x)

pub plus_map : (r : Rule) (rel rel' : ℕ → ℕ → ℕ → Type 0) → ((s i j : ℕ) → rel s i j → rel' s i j) → {o u : Occ} → Plus (Edge r rel) o u → Plus (Edge r rel') o u
plus_map r rel rel' f (step e) = step (edge_map r rel rel' f e)
plus_map r rel rel' f (more e w) = more (edge_map r rel rel' f e) (plus_map r rel rel' f w)

pub walk_map : (g : Grammar) (rel rel' : ℕ → ℕ → ℕ → Type 0) → ((s i j : ℕ) → rel s i j → rel' s i j) → (s i j : ℕ) → Walk g rel s i j → Walk g rel' s i j
walk_map g rel rel' f s i j (r, m, e, w) = (r, m, e, plus_map r rel rel' f w)

closed_walk : (g : Grammar) (rel : ℕ → ℕ → ℕ → Type 0) → IsClosedUnder g rel → (s i j : ℕ) → Walk g rel s i j → rel s i j
closed_walk g rel closed s i j (r, m, e, w) = subst (λ t. rel t i j) e (closed r m i j w)

-- rounds of any growing relation: a step over all rounds is one over some round
module _ (g : Grammar) (rounds : ℕ → ℕ → ℕ → ℕ → Type 0) (grows : (h s i j : ℕ) → rounds h s i j → rounds (suc h) s i j) where
  abbrev Some_round : ℕ → ℕ → ℕ → Type 0
  Some_round s i j = (h : ℕ) × rounds h s i j

  up : (d h s i j : ℕ) → rounds h s i j → rounds (d + h) s i j
  up zero h s i j x = subst (λ n. rounds n s i j) (omega arith) x
  up (suc d) h s i j x = let e : suc (d + h) ≡ suc d + h = omega arith in subst (λ n. rounds n s i j) e (grows (d + h) s i j (up d h s i j x))

  edge_round : (r : Rule) {o u : Occ} → Edge r Some_round o u → (h : ℕ) × Edge r (rounds h) o u
  edge_round r (text v t a b x) = (0, text v t a b x)
  edge_round r (call k i l c a (h, x)) = (h, call k i l c a x)

  pub plus_round : (r : Rule) {o u : Occ} → Plus (Edge r Some_round) o u → (h : ℕ) × Plus (Edge r (rounds h)) o u
  plus_round r (step e) = let (h, x) = edge_round r e in (h, step x)
  plus_round r (more e w) =
      let (h, x) = edge_round r e in
      let (k, y) = plus_round r w in (
        k + h,
        more (edge_map r (rounds h) (rounds (k + h)) (up k h) x)
            (plus_map r (rounds k) (rounds (k + h)) (λ s i j z. let e : h + k ≡ k + h = omega arith in subst (λ n. rounds n s i j) e (up h k s i j z)) y),
      )

io_grows : (g : Grammar) (h s i j : ℕ) → io g h s i j → io g (suc h) s i j
io_grows g zero s i j x = never x
io_grows g (suc h) s i j x = walk_map g (io g h) (io g (suc h)) (io_grows g h) s i j x

pub io_closed : (g : Grammar) → IsClosedUnder g (IO g)
io_closed g r m i j w = let (h, x) = plus_round g (io g) (io_grows g) r w in (suc h, (r, m, refl, x))

io_round_least : (g : Grammar) (rel : ℕ → ℕ → ℕ → Type 0) → IsClosedUnder g rel → (h s i j : ℕ) → io g h s i j → rel s i j
io_round_least g rel closed zero s i j x = never x
io_round_least g rel closed (suc h) s i j x = closed_walk g rel closed s i j (walk_map g (io g h) rel (io_round_least g rel closed h) s i j x)

pub io_least : (g : Grammar) (rel : ℕ → ℕ → ℕ → Type 0) → IsClosedUnder g rel → (s i j : ℕ) → IO g s i j → rel s i j
io_least g rel closed s i j (h, x) = io_round_least g rel closed h s i j x

pub follows_held : (g : Grammar) (seed : ℕ → ℕ → ℕ → Type 0) (s i j : ℕ) → seed s i j → Follows g seed s i j
follows_held g seed s i j x = (0, x)

pub follows_closed : (g : Grammar) (seed : ℕ → ℕ → ℕ → Type 0) → IsClosedUnder g (Follows g seed)
follows_closed g seed r m i j w = let (h, x) = plus_round g (io_from g seed) (λ h s i j x. inl x) r w in (suc h, inr (r, m, refl, x))

follows_round_least : (g : Grammar) (seed rel : ℕ → ℕ → ℕ → Type 0) → IsClosedUnder g rel → ((s i j : ℕ) → seed s i j → rel s i j) → (h s i j : ℕ) → io_from g seed h s i j → rel s i j
follows_round_least g seed rel closed held zero s i j x = held s i j x
follows_round_least g seed rel closed held (suc h) s i j (inl x) = follows_round_least g seed rel closed held h s i j x
follows_round_least g seed rel closed held (suc h) s i j (inr x) = closed_walk g rel closed s i j (walk_map g (io_from g seed h) rel (follows_round_least g seed rel closed held h) s i j x)

pub follows_least : (g : Grammar) (seed rel : ℕ → ℕ → ℕ → Type 0) → IsClosedUnder g rel → ((s i j : ℕ) → seed s i j → rel s i j) → (s i j : ℕ) → Follows g seed s i j → rel s i j
follows_least g seed rel closed held s i j (h, x) = follows_round_least g seed rel closed held h s i j x

-- what follows from what follows from a seed follows from the seed
pub follows_again : (g : Grammar) (seed next : ℕ → ℕ → ℕ → Type 0) → ((s i j : ℕ) → next s i j → Follows g seed s i j) → (s i j : ℕ) → Follows g next s i j → Follows g seed s i j
follows_again g seed next from s i j x = follows_least g next (Follows g seed) (follows_closed g seed) from s i j x

-- a walk over what follows from a seed
pub follows_walk : (g : Grammar) (seed rel : ℕ → ℕ → ℕ → Type 0) → ((s i j : ℕ) → rel s i j → Follows g seed s i j) → (s i j : ℕ) → rel s i j ⊎ Walk g rel s i j → Follows g seed s i j
follows_walk g seed rel from s i j (inl x) = from s i j x
follows_walk g seed rel from s i j (inr x) = closed_walk g (Follows g seed) (follows_closed g seed) s i j (walk_map g rel (Follows g seed) from s i j x)

-- from nothing just the dependence relation follows
pub follows_none : (g : Grammar) (seed : ℕ → ℕ → ℕ → Type 0) → ((s i j : ℕ) → seed s i j → ⊥) → (s i j : ℕ) → Follows g seed s i j → IO g s i j
follows_none g seed none s i j x = follows_least g seed (IO g) (io_closed g) (λ s i j y. absurd (none s i j y)) s i j x
