-- Frames in turn at one typed node, and honest frames at all of them.
use Rattle.std.proofs.Common.{◌≡◌, ℕ, Bool, true, false, cond, List, [], ◌∷◌, map, refl, ap, sym, ◌∙◌, subst}
use Rattle.std.specs.Prelude.{◌&&◌, slice_set}
use Rattle.aw_term.specs.Choices.{Answer}
use Rattle.aw_term.specs.Names.{Ref}
use Rattle.aw_base.specs.ChoiceFits.{choice_ok}
use Rattle.aw_typed.specs.TypeFaults.{arg_ok}
use Rattle.aw_law_sites.specs.Sites.{Site}
use Rattle.aw_law_sites.specs.Worlds.{empty_world}
use Rattle.aw_law_nodes.specs.Nodes as N
use Rattle.aw_law_nodes.specs.Nodes.{site_of}
use Rattle.aw_msg.specs.Frames as F
use Rattle.aw_node.specs.TypedNodes.{Rules, handle, replies, site_after}
use Rattle.aw_node.specs.TypedRuns.{InTurn, Asked, plain_frame, plain_asked, ask, sites_after, IsHonestFrame, AreHonest, AreOneWorld}

-- ---- one node

pub in_turn : (r : Rules) → InTurn r
in_turn r s t [] [] h = (refl, h)
in_turn r s t [] (x ∷ xs) h = elim h [ ]
in_turn r s t (f ∷ fs) [] h = elim h [ ]
in_turn r s t (f ∷ fs) (x ∷ xs) (m, (here, site), later) =
    let (bytes, after) = in_turn r m t fs xs later in
    ((λ i. here i ∷ (bytes ∙ ap (λ (u : Site). replies r u fs) site) i), after ∙ ap (λ (u : Site). site_after r u fs) site)

-- ---- all nodes

-- a choice that gets an answer fits, and is answered as by a site
answered_cases : (b : Bool) (s : Site) (h : N.Handled) (x : Answer Ref) → (cond b h (record { site = s; response = N.NotValid })).response ≡ N.Answers
    x → cond b h (record { site = s; response = N.NotValid }) ≡ h
answered_cases true s h x e = refl
answered_cases false s h x e = absurd cc

same_handled : (r : Rules) (ss : List Site) (role : ℕ) (f : F.Frame) → IsHonestFrame r ss role f → handle r (site_of ss role) f ≡ N.handle r.grammar (site_of ss role) (plain_frame r.grammar f)
same_handled r ss role (F.Push m) h = refl
same_handled r ss role (F.Choose c) h = answered_cases (choice_ok r.grammar c && arg_ok r.types r.grammar c) (site_of ss role) (N.handle r.grammar (site_of ss role) (N.Choose c)) h.0 h.1
same_handled r ss role (F.Pull k) h = refl
same_handled r ss role (F.Listed k) h = refl

honest_there : (r : Rules) (ss : List Site) (role : ℕ) (f : F.Frame) → IsHonestFrame r ss role f → N.IsHonestFrame r.grammar ss role (plain_frame r.grammar f)
honest_there r ss role (F.Push m) h = h
honest_there r ss role (F.Choose c) h = (h.0, sym (ap (λ (x : N.Handled). x.response) (same_handled r ss role (F.Choose c) h)) ∙ h.1)
honest_there r ss role (F.Pull k) h = tt
honest_there r ss role (F.Listed k) h = tt

same_ask : (r : Rules) (ss : List Site) (a : Asked) → IsHonestFrame r ss a.role a.frame → ask r ss a ≡ N.ask r.grammar ss (plain_asked r.grammar a)
same_ask r ss a h = ap (λ (x : N.Handled). slice_set ss a.role x.site) (same_handled r ss a.role a.frame h)

honest_run : (r : Rules) (ss : List Site) (as_ : List Asked) → AreHonest r ss as_ → N.AreHonest r.grammar ss (map (plain_asked r.grammar) as_)
honest_run r ss [] h = tt
honest_run r ss (a ∷ as_) h =
    (honest_there r ss a.role a.frame h.0, subst (λ us. N.AreHonest r.grammar us (map (plain_asked r.grammar) as_)) (same_ask r ss a h.0) (honest_run r (ask r ss a) as_ h.1))

same_run : (r : Rules) (ss : List Site) (as_ : List Asked) → AreHonest r ss as_ → N.sites_after r.grammar ss (map (plain_asked r.grammar) as_) ≡ sites_after r ss as_
same_run r ss [] h = refl
same_run r ss (a ∷ as_) h = ap (λ us. N.sites_after r.grammar us (map (plain_asked r.grammar) as_)) (sym (same_ask r ss a h.0)) ∙ same_run r (ask r ss a) as_ h.1

pub one_world : (r : Rules) → N.ServedNodes r.grammar → AreOneWorld r
one_world r law loads as_ h =
    let ss = (empty_world r.grammar loads).sites in
    let w = law loads (map (plain_asked r.grammar) as_) (honest_run r ss as_ h) in
    (w.0, w.1, w.2, w.3 ∙ same_run r ss as_ h)
