-- What was written stays.
use Rattle.std.proofs.Common.{◌≡◌, ℕ, Bool, List, [], ◌∷◌, ◌++◌, refl, sym, ap, ◌∙◌, subst, inl}
use Rattle.aw_list.specs.Members.{Member}
use Rattle.aw_list.proofs.Members.{member_left, member_right}
use Rattle.aw_term.specs.Rules.{Grammar}
use Rattle.aw_law_sites.specs.Homes.{home}
use Rattle.aw_law_sites.specs.SiteEvents.{Chose}
use Rattle.aw_law_sites.specs.Worlds.{node_of}
use Rattle.aw_law_worlds.specs.Laws.{RefusalsAreNotTaken}
use Rattle.aw_law_nodes.specs.Couriers.{IsPrefix}
use Rattle.aw_law_nodes.specs.Crashes.{Kept}
use Rattle.aw_law_nodes.specs.Nodes.{Choose}
use Rattle.aw_law_system.specs.Systems.{System, node_at, safe_at, first_system, Act, Asks, act, acts_on, system_after, IsRun}
use Rattle.aw_law_system.specs.Laws.{WrittenStays, TakenRemains}
use Rattle.aw_law_system.proofs.Acting.{safe_events, prefix-on, prefix-take, acts-append, allowed-append, sound-first, sound-acts, sound-act, acts-extend, asked-here, written-events}
use Rattle.aw_law_system.proofs.Framing.{taken-kept}

-- what stands in a list stands in one that begins with it
pub prefix-member : {A : Type 0} (x : A) (xs ys : List A) → IsPrefix xs ys → Member x xs → Member x ys
prefix-member x xs ys (zs, e) i = subst (Member x) (sym e) (member_left x xs zs i)

pub written_stays : (g : Grammar) → WrittenStays g
written_stays g loads as_ later r f x w run =
    let z = allowed-append g loads (first_system g loads) as_ (Asks r f x ∷ later) run in
    let s = system_after g loads as_ in
    let S = sound-acts g loads (first_system g loads) (sound-first g loads) as_ z.0 in
    let t = act g loads s (Asks r f x) in
    let T = sound-act g loads s S (Asks r f x) z.1.0 in
    let u = acts_on g loads t later in
    let all : safe_events t r ≡ (node_at t r).events = written-events g loads s S r f x z.1.0.0 w ∙ ap (λ (k : Kept). k.events) (sym (asked-here g loads s S r f x z.1.0.0)) in
    let more = prefix-on (safe_events t r) (safe_events u r) (node_at u r).events (acts-extend g loads t T later z.1.1 r z.1.0.0) (prefix-take (safe_at u r) (node_at u r).events) in
    subst (λ (v : System). IsPrefix (node_at v r).events (node_at (system_after g loads (as_ ++ Asks r f x ∷ later)) r).events) (sym (acts-append g loads (first_system g loads) as_ (Asks r f x ∷ [])))
    (subst (λ (v : System). IsPrefix (node_at t r).events (node_at v r).events) (sym (acts-append g loads (first_system g loads) as_ (Asks r f x ∷ later)))
    (subst (λ hs. IsPrefix hs (node_at u r).events) all more))

module _ (g : Grammar) (refusals : RefusalsAreNotTaken g) (role : (loads : Bool) (as_ : List Act) → IsRun g loads as_ → (r : ℕ) → (node_at (system_after g loads as_) r).site.role ≡ r) where
  pub taken_remains : TakenRemains g
  taken_remains loads as_ later r c x w run h =
      let z = allowed-append g loads (first_system g loads) as_ (Asks r (Choose c) x ∷ later) run in
      let s = system_after g loads as_ in
      let S = sound-acts g loads (first_system g loads) (sound-first g loads) as_ z.0 in
      let (k, at) = taken-kept g (node_at s r).site refusals c h in
      let here : home g (node_of c) ≡ r = at ∙ role loads as_ z.0 r in
      let t = act g loads s (Asks r (Choose c) x) in
      let now : Member (Chose c) (node_at t r).events =
      subst (λ (n : Kept). Member (Chose c) n.events) (sym (asked-here g loads s S r (Choose c) x z.1.0.0))
      (member_right (Chose c) (node_at s r).events _ (subst (Member (Chose c)) (sym k) (inl refl))) in
      let soon : Member (Chose c) (node_at (system_after g loads (as_ ++ Asks r (Choose c) x ∷ [])) r).events =
      subst (λ (v : System). Member (Chose c) (node_at v r).events) (sym (acts-append g loads (first_system g loads) as_ (Asks r (Choose c) x ∷ []))) now in
      subst (λ a. Member (Chose c) (node_at (system_after g loads (as_ ++ Asks r (Choose c) x ∷ later)) a).events) (sym here)
      (prefix-member (Chose c) _ _ (written_stays g loads as_ later r (Choose c) x w run) soon)
