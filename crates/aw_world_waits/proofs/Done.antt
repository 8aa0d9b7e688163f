-- A node on which a choice was taken is held at its home, and developed.
use Rattle.std.proofs.Common.{◌≡◌, ℕ, ◌<◌, arith, Bool, true, false, cond, List, [], ◌∷◌, map, length, Option, Some, None, refl, sym, ap, ◌∙◌, subst, inl, inr}
use Rattle.aw_list.specs.Members.{Member}
use Rattle.aw_list.proofs.Members.{never, member_map, member_split}
use Rattle.aw_term.specs.Artifacts.{Words}
use Rattle.aw_term.specs.Choices.{Choice, Develop, Outcome, Refused, Starts, Takes}
use Rattle.aw_term.specs.Configs.{State, Done}
use Rattle.aw_term.specs.Held.{Held, held_of, mark}
use Rattle.aw_term.specs.Names.{Node, Ref, node_eq}
use Rattle.aw_term.specs.Rules.{Grammar, Ground, Rule}
use Rattle.aw_term.specs.WellFormed.{Each}
use Rattle.aw_name.specs.SameNodes.{node_self}
use Rattle.aw_store.specs.Equations.{Map}
use Rattle.aw_apply.specs.Made.{made}
use Rattle.aw_law_sites.specs.Joint.{Joint, empty_joint, by_held}
use Rattle.aw_law_sites.specs.Laws.{IsAccepted}
use Rattle.aw_law_sites.proofs.AnyOrders.{held_of-found, Member-all_held}
use Rattle.aw_law_sites.specs.Homes.{home}
use Rattle.aw_law_sites.specs.Sites.{Site, Reaction, empty_site}
use Rattle.aw_law_sites.specs.Choosing.{Chosen, No, Did, outcome, choose, choose_on}
use Rattle.aw_law_sites.specs.Telling.{calls_in}
use Rattle.aw_law_sites.specs.Worlds.{World, Move, Chooses, Delivers, MayCome, empty_world, site_at, node_of, chosen_at, step, run, world_after}
use Rattle.aw_law_worlds.proofs.Places.{get-set}
use Rattle.aw_law_worlds.proofs.Runs.{IsWorld, empty-world, node-stays, step-kept}
use Rattle.aw_law_worlds.proofs.Settling.{deliver_taken}
use Rattle.aw_law_worlds.proofs.WorldLaws.{homes_law}
use Rattle.aw_law_worlds.proofs.Growing.{did-inj}

-- held at this site, and developed so
abbrev pub IsDoneAt : Site → Node → ℕ → List Ground → Type 0
IsDoneAt s n r args = (h : Held) × Member h s.held × (h.node ≡ n) × (h.state ≡ Done r args)

held_there : (o : Option Held) (g : Grammar) (k : Map) (n : Node) (r : ℕ) (args : List Ground) (rule : Rule) (bound : List Ref) → by_held o g k n r args ≡ Takes rule bound → (h : Held) × (o ≡ Some h)
held_there None g k n r args rule bound e = absurd cc
held_there (Some h) g k n r args rule bound e = (h, refl)

marked : (h : Held) (n : Node) (st : State) → h.node ≡ n → mark n st h ≡ record h { state = st }
marked h n st e = ap (λ b. cond b (record h { state = st }) h) (subst (λ m. node_eq n m ≡ true) (sym e) (node_self n))

-- a choice that is taken develops its node
done_by : (g : Grammar) (s : Site) (n : Node) (r : ℕ) (args : List Ground) (o : Outcome Ref Ref) (y : Reaction) → outcome g s (Develop n r args) ≡ o →
    choose_on g s (Develop n r args) o ≡ Did y → IsDoneAt y.site n r args
done_by g s n r args (Refused a) y e d = absurd cc
done_by g s n r args Starts y e d = absurd cc
done_by g s n r args (Takes rule bound) y e d =
    let (h, found) = held_there (held_of n s.held) g s.equations n r args rule bound e in
    let (m, same) = held_of-found n s.held h found in
    let is = marked h n (Done r args) same in
    subst (λ (y : Reaction). IsDoneAt y.site n r args) (did-inj d) (
      mark n (Done r args) h,
      Member-all_held (mark n (Done r args) h) (calls_in g s.role (made n r rule args bound).calls)
          (map (mark n (Done r args)) s.held) (inr (member_map (mark n (Done r args)) h s.held m)),
      ap (λ (h : Held). h.node) is ∙ same,
      ap (λ (h : Held). h.state) is,
    )

module _ (words : Words) (g : Grammar) (accepted : IsAccepted words g) (loads : Bool) where
  -- each node on which a choice was taken is held at its home, and developed
  abbrev pub AreDone : World → Type 0
  AreDone w = (n : Node) (r : ℕ) (args : List Ground) → Member (Develop n r args) w.taken → IsDoneAt (site_at w (home g n)) n r args

  module _ (v : World) (x : Joint) (W : IsWorld words g accepted loads v x) where
    stays_done : (e : Move) → MayCome g e → (n : Node) (r : ℕ) (args : List Ground) → IsDoneAt (site_at v (home g n)) n r args → IsDoneAt (site_at (step g v e).world (home g n)) n r args
    stays_done e k n r args (h, m, p, s) = elim (node-stays words g accepted loads v x W e k (home g n) h m) [
      | inl o ↦ (h, o, p, s)
      | inr o ↦ (let open_ = o.0 in absurd cc)
    ]

    fresh : (n : Node) (r : ℕ) (args : List Ground) → MayCome g (Chooses (Develop n r args)) → (y : Reaction) → choose g (site_at v (home g n)) (Develop n r args) ≡ Did y
        → IsDoneAt (site_at (step g v (Chooses (Develop n r args))).world (home g n)) n r args
    fresh n r args k y e =
        let a = home g n in
        let low = homes_law words g accepted (Develop n r args) k in
        let l : a < length v.sites = omega (arith, low, W.size) in
        let is : site_at (step g v (Chooses (Develop n r args))).world a ≡ y.site = ap (λ o. site_at (chosen_at v a (Develop n r args) o).world a) e
        ∙ get-set (empty_site false a) v.sites a y.site l in
        subst (λ (s : Site). IsDoneAt s n r args) (sym is) (done_by g (site_at v a) n r args (outcome g (site_at v a) (Develop n r args)) y refl e)

    chose_done : AreDone v → (c : Choice) → MayCome g (Chooses c) → AreDone (step g v (Chooses c)).world
    chose_done done c k n r args m = go (choose g (site_at v (home g (node_of c))) c) refl m
      where
        old : Member (Develop n r args) v.taken → IsDoneAt (site_at (step g v (Chooses c)).world (home g n)) n r args
        old i = stays_done (Chooses c) k n r args (done n r args i)

        go : (o : Chosen) → choose g (site_at v (home g (node_of c))) c ≡ o → Member (Develop n r args) (chosen_at v (home g (node_of c)) c o).world.taken
            → IsDoneAt (site_at (step g v (Chooses c)).world (home g n)) n r args
        go (No a) e i = old i
        go (Did y) e i = elim (member_split (Develop n r args) v.taken (c ∷ []) i) [
          | inl j ↦ old j
          | inr j ↦ elim j [
            | inl p ↦ subst (λ c. MayCome g (Chooses c) → choose g (site_at v (home g (node_of c))) c ≡ Did y →
                IsDoneAt (site_at (step g v (Chooses c)).world (home g n)) n r args) p (λ k e. fresh n r args k y e) k e
            | inr z ↦ never z
          ]
        ]

    step_done : AreDone v → (e : Move) → MayCome g e → AreDone (step g v e).world
    step_done done (Chooses c) k = chose_done done c k
    step_done done (Delivers k) u = λ n r args m. stays_done (Delivers k) u n r args (done n r args (subst (λ cs. Member (Develop n r args) cs) (deliver_taken g v k) m))

  run_done : (v : World) (x : Joint) → IsWorld words g accepted loads v x → AreDone v → (es : List Move) → Each (MayCome g) es → AreDone (run g v es)
  run_done v x W done [] may = done
  run_done v x W done (e ∷ es) may =
      let (y, V) = step-kept words g accepted loads v x W e may.0 in
      run_done (step g v e).world y V (step_done v x W done e may.0) es may.1

  pub all_done : (es : List Move) → Each (MayCome g) es → AreDone (world_after g loads es)
  all_done es may = run_done (empty_world g loads) empty_joint (empty-world words g accepted loads) (λ n r args m. never m) es may
