-- A choice was taken on a node exactly where its home holds it as developed.
use Rattle.std.proofs.Common.{◌≡◌, ℕ, Bool, true, false, List, [], ◌∷◌, Option, Some, None, refl, sym, ap, ◌∙◌, subst, inl, inr}
use Rattle.aw_list.specs.Members.{Member}
use Rattle.aw_list.proofs.Members.{never}
use Rattle.aw_term.specs.Artifacts.{Words}
use Rattle.aw_term.specs.Choices.{undivided}
use Rattle.aw_term.specs.Configs.{Pending, Config}
use Rattle.aw_term.specs.Held.{Held}
use Rattle.aw_term.specs.Names.{Node}
use Rattle.aw_term.specs.Rules.{Grammar}
use Rattle.aw_term.specs.WellFormed.{Each}
use Rattle.aw_accept.specs.Acyclic.{Pairs}
use Rattle.aw_law_sites.specs.Joint.{Joint, empty_joint, joint_run}
use Rattle.aw_law_sites.specs.Laws.{IsAccepted, Agree, AgreeWhereTaken}
use Rattle.aw_law_sites.proofs.Agreement.{flat_law}
use Rattle.aw_law_sites.specs.Homes.{home}
use Rattle.aw_law_sites.specs.Worlds.{World, Move, MayCome, site_at, world_after}
use Rattle.aw_law_worlds.proofs.Enabled.{one_each}
use Rattle.aw_law_worlds.proofs.Runs.{invariant_holds}
use Rattle.aw_law_worlds.proofs.WorldLaws.{headline}
use Rattle.aw_world_waits.specs.SiteWaits.{IsUntaken}
use Rattle.aw_world_waits.proofs.TakenRows.{untaken_pending}
use Rattle.aw_world_waits.specs.Waiters.{is_done, holds_done, is_developed}
use Rattle.aw_world_waits.proofs.Done.{all_done}
use Rattle.aw_world_waits.proofs.HeldDone.{done_here, done_found}
use Rattle.aw_world_waits.proofs.Taken.{developed_by, untaken}

beside : {A B : Type 0} (P : A → B → Type 0) (xs : List A) (ys : List B) (x : A) → Pairs P xs ys → Member x xs → (y : B) × Member y ys × P x y
beside P [] ys x w m = never m
beside P (a ∷ xs) [] x w m = never w
beside P (a ∷ xs) (y ∷ ys) x w (inl e) = (y, inl refl, subst (λ z. P z y) (sym e) w.0)
beside P (a ∷ xs) (y ∷ ys) x w (inr m) = let (z, n, p) = beside P xs ys x w.1 m in (z, inr n, p)

agree_of : (o : Option Joint) (o' : Option Config) (x : Joint) (c : Config) → o ≡ Some x → o' ≡ Some c → AgreeWhereTaken o o' → Pairs (λ h q. Agree x.equations h q) x.held c
agree_of None o' x c e f a = absurd cc
agree_of (Some y) None x c e f a = absurd cc
agree_of (Some y) (Some d) x c e f a =
    let p : y ≡ x = cc in
    let q : d ≡ c = cc in
    subst (λ (x : Joint). Pairs (λ h q. Agree x.equations h q) x.held c) p (subst (λ (c : Config). Pairs (λ h q. Agree y.equations h q) y.held c) q a)

module _ (words : Words) (g : Grammar) (accepted : IsAccepted words g) (loads : Bool) (es : List Move) (may : Each (MayCome g) es) where
  abbrev w : World
  w = world_after g loads es

  -- a node on which no choice was taken is nowhere held as developed
  open_everywhere : (a : ℕ) (h : Held) → Member h (site_at w a).held → IsUntaken w.taken h.node → h.state ≡ Pending
  open_everywhere a h m none =
      let (x, W) = invariant_holds words g accepted loads es may in
      let (c, e, i, f) = headline words g accepted loads es may in
      let all = agree_of (joint_run g empty_joint w.taken) (undivided g [] w.taken) x c W.whole e (flat_law words g accepted w.taken) in
      let (q, mq, A) = beside (λ h q. Agree x.equations h q) x.held c h all (W.inv.held a h m).0 in
      A.state ∙ untaken_pending g w.taken c e q mq (subst (IsUntaken w.taken) A.node none)

  pub developed_is_done : (m : Node) → is_developed w.taken m ≡ holds_done m (site_at w (home g m)).held
  developed_is_done m = go (is_developed w.taken m) (holds_done m (site_at w (home g m)).held) refl refl
    where
      go : (a b : Bool) → is_developed w.taken m ≡ a → holds_done m (site_at w (home g m)).held ≡ b → a ≡ b
      go true true e f = refl
      go false false e f = refl
      go true false e f =
          let (r, args, i) = developed_by w.taken m e in
          let (h, mh, p, s) = all_done words g accepted loads es may m r args i in
          let (x, W) = invariant_holds words g accepted loads es may in
          let here = done_here (site_at w (home g m)).held h mh (λ k mk q. one_each words g accepted loads w x W (home g m) k h mk mh q) in
          let z : holds_done m (site_at w (home g m)).held ≡ true = ap (λ n. holds_done n (site_at w (home g m)).held) (sym p) ∙ here ∙ ap is_done s in
          absurd cc
      go false true e f =
          let (h, mh, p, s) = done_found (site_at w (home g m)).held m f in
          let open_ = open_everywhere (home g m) h mh (subst (IsUntaken w.taken) (sym p) (untaken w.taken m e)) in
          let z : is_done h.state ≡ false = ap is_done open_ in
          absurd cc
