-- What a site may learn: only what its own tasks lead to.
use Rattle.std.specs.Prelude.{◌≡◌, ℕ, true, Some}
use Rattle.aw_list.specs.Members.{Member}
use Rattle.aw_term.specs.Held.{Held}
use Rattle.aw_term.specs.Names.{Ref}
use Rattle.aw_term.specs.Rules.{Grammar}
use Rattle.aw_term.specs.Trees.{Never}
use Rattle.aw_store.specs.Equations.{Body, Equation, find, mentions}
use Rattle.aw_law_sites.specs.Homes.{home}
use Rattle.aw_law_sites.specs.Sites.{Site}
use Rattle.aw_law_sites.specs.Worlds.{site_at}
use Rattle.aw_law_worlds.specs.Laws.{InEachWorld}
use Rattle.aw_law_worlds.specs.Mentioned.{IsMentioned}

-- A site is led to a reference: one of its tasks inherited it, an equation of its own mentions it, or one of a reference to which it is led.
pub data IsLedTo (g : Grammar) (s : Site) : Ref → Type 0 where
  inherited : {r : Ref} (h : Held) → Member h s.held → Member r h.inherited → IsLedTo g s r
  own : {r : Ref} (e : Equation) → Member e s.equations → home g e.left.node ≡ s.role → Member r (mentions e.body) → IsLedTo g s r
  further : {r : Ref} (e : Equation) → IsLedTo g s e.left → Member e s.equations → Member r (mentions e.body) → IsLedTo g s r

-- each equation of another role is of a reference to which its site is led, and which is mentioned there
abbrev pub OfficesLearnTheirOwn : Grammar → Type 0
OfficesLearnTheirOwn g = InEachWorld g (λ loads w. (a : ℕ) (r : Ref) (b : Body) → find (site_at w a).equations r ≡ Some b → (home g r.node ≡ a → Never) →
    IsLedTo g (site_at w a) r × IsMentioned r (site_at w a).equations (site_at w a).held)

-- and so is each reference that a site asked for
abbrev pub OfficesAskTheirOwn : Grammar → Type 0
OfficesAskTheirOwn g = InEachWorld g (λ loads w. (a : ℕ) (r : Ref) → (site_at w a).asked r ≡ true →
    IsLedTo g (site_at w a) r × IsMentioned r (site_at w a).equations (site_at w a).held)
