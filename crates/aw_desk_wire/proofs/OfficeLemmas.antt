-- What an office does is what each site does that it shows.
use Rattle.std.proofs.Common.{◌≡◌, ℕ, List, refl, ap, subst, ◌∙◌}
use Rattle.aw_desk_wire.specs.Alike.{AllAre, HonestAlike}
use Rattle.aw_desk_wire.specs.Honest.{AreHonest}
use Rattle.aw_out.specs.Wires.{Session}
use Rattle.aw_desk_wire.proofs.AlikeLemmas.{honest-as, honest-alike}
use Rattle.aw_grammar.specs.declared.grammar.Grammar.{Grammar}
use Rattle.aw_msg.specs.Frames.{Frame}
use Rattle.aw_node.specs.TypedNodes.{Rules, rules_of, handle, answers, AnswersAs}
use Rattle.aw_law_sites.specs.Sites.{Site}
use Rattle.aw_typed.specs.declared.data.Typed.{Typed}

module _
    (O : Type 0)
    (shows : O → Site → Type 0)
    (grammar : O → Grammar)
    (typed : O → Typed)
    (A : O → Frame → List ℕ → O → Type 0)
    (step : (o p : O) (f : Frame) (x : List ℕ) → A o f x p → AnswersAs (rules_of (grammar o) (typed o)) f (shows o) (shows p) x × (grammar p ≡ grammar o) × (typed p ≡ typed o))
    (r : Rules)
  where
    office-sim : (o p : O) (s : Site) (f : Frame) (x : List ℕ) → A o f x p → shows o s × (rules_of (grammar o) (typed o) ≡ r) → (t : Site)
        × answers r s f x t × (shows p t × (rules_of (grammar p) (typed p) ≡ r))
    office-sim o p s f x a k =
        let all = step o p f x a in
        let h = subst (λ (q : Rules). AnswersAs q f (shows o) (shows p) x) k.1 all.0 s k.0 in
        let same = ap (λ (g : Grammar). rules_of g (typed p)) all.1 ∙ ap (λ (t : Typed). rules_of (grammar o) t) all.2 in
        ((handle r s f).site, (h.0, refl), (h.1, same ∙ k.1))

    -- offices answer as the sites that they show, and so does a wire over them
    pub offices-honest : HonestAlike (λ (o : O) (s : Site). shows o s × (rules_of (grammar o) (typed o) ≡ r)) A (answers r)
    offices-honest = honest-alike O Site (λ (o : O) (s : Site). shows o s × (rules_of (grammar o) (typed o) ≡ r)) A (answers r) office-sim

    -- and so they do in some sessions
    pub offices-over : (os us : List O) (ss : List Site) (xs : List Session) → AllAre (λ (o : O) (s : Site). shows o s × (rules_of (grammar o) (typed o) ≡ r)) os ss → AreHonest A os us xs →
        (zs : List Site) × AreHonest (answers r) ss zs xs × AllAre (λ (o : O) (s : Site). shows o s × (rules_of (grammar o) (typed o) ≡ r)) us zs
    offices-over = honest-as O Site (λ (o : O) (s : Site). shows o s × (rules_of (grammar o) (typed o) ≡ r)) A (answers r) office-sim
