-- What a node does is what each site does that it shows.
use Rattle.std.proofs.Common.{◌≡◌, ℕ, List, Option, refl, ap, subst, ◌∙◌}
use Rattle.aw_out.specs.Wires.{Content}
use Rattle.aw_msg.specs.Frames.{Frame}
use Rattle.aw_law_sites.specs.Sites.{Site}
use Rattle.aw_accept.specs.declared.accepted.Accepted.{Accepted}
use Rattle.aw_typed.specs.declared.data.Typed.{Typed}
use Rattle.aw_node.specs.TypedNodes.{Rules, rules_of, handle, answers, AnswersAs}
use Rattle.aw_node.specs.Serving.{Serves, Stops}
use Rattle.aw_node.specs.declared.serving.ServeFault.TheVariants.{NetFault, NoMemory}
use Rattle.aw_session.specs.Sessions.{IsServing, IsUnopened, IsCutOff}
use Rattle.aw_session.specs.declared.log.SessionLog.{SessionLog}
use Rattle.aw_session.proofs.Simulations.{serving-as, unopened-as, cut-off-as}

-- a node shows a site and stands on these rules
abbrev pub ShowsBy : {N : Type 0} → (N → Site → Type 0) → (N → Rules) → Rules → N → Site → Type 0
ShowsBy {N} shows rules r n s = shows n s × (rules n ≡ r)

-- the same grammar and the same types are the same rules
pub rules-same : (a b : Accepted) (t u : Typed) → a ≡ b → t ≡ u → rules_of a.grammar t ≡ rules_of b.grammar u
rules-same a b t u e f = ap (λ (x : Accepted). rules_of x.grammar t) e ∙ ap (λ (y : Typed). rules_of b.grammar y) f

module _
    (N : Type 0)
    (shows : N → Site → Type 0)
    (rules : N → Rules)
    (A : N → Frame → List ℕ → N → Type 0)
    (step : (n m : N) (f : Frame) (x : List ℕ) → A n f x m → AnswersAs (rules n) f (shows n) (shows m) x × (rules m ≡ rules n))
    (r : Rules)
  where
    node-sim : (n m : N) (s : Site) (f : Frame) (x : List ℕ) → A n f x m → ShowsBy shows rules r n s → (t : Site) × answers r s f x t × ShowsBy shows rules r m t
    node-sim n m s f x a k =
        let both = step n m f x a in
        let h = subst (λ (q : Rules). AnswersAs q f (shows n) (shows m) x) k.1 both.0 s k.0 in
        ((handle r s f).site, (h.0, refl), (h.1, both.1 ∙ k.1))

    -- sessions
    pub node-serves : (W : Type 0) (content : W → Option Content) (faults failed_openings : W → ℕ) (role : ℕ) (n m : N) (s : Site) (u v : W)
        (log : List SessionLog) → IsServing A content faults failed_openings role n m u v log →
        shows n s → rules n ≡ r → Serves content faults failed_openings r role s u v log
    node-serves W content faults failed_openings role n m s u v log h k e = serving-as N Site A (answers r) (ShowsBy shows rules r) node-sim W content
        faults failed_openings role n m s u v log h (k, e)

    -- before none could be opened
    pub node-unopened : (W : Type 0) (content : W → Option Content) (failed_openings : W → ℕ) (role : ℕ) (n m : N) (s : Site) (u v : W) → IsUnopened A content failed_openings role n m u v →
        shows n s → rules n ≡ r → Stops content failed_openings r role s u v NetFault
    node-unopened W content failed_openings role n m s u v h k e = unopened-as N Site A (answers r) (ShowsBy shows rules r) node-sim W content failed_openings role n m s u v h (k, e)

    -- before memory ran out
    pub node-cut-off : {F : Type 0} (breaks : N → Frame → F → N → Type 0) (W : Type 0) (content : W → Option Content) (failed_openings : W → ℕ)
        (role : ℕ) (n m : N) (s : Site) (u v : W) (fault : F) → IsCutOff A breaks content role n m u v fault →
        shows n s → rules n ≡ r → Stops content failed_openings r role s u v NoMemory
    node-cut-off {F} breaks W content failed_openings role n m s u v fault h k e =
        cut-off-as N Site A (answers r) (ShowsBy shows rules r) node-sim breaks W content role n m s u v fault (Unit {0}) tt h (k, e)
