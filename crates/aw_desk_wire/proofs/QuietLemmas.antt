-- The turns of a courier over a wire of desks that answer as typed sites.
use Rattle.std.proofs.Common.{◌≡◌, ℕ, ◌<◌, List, [], ◌∷◌, map, length, refl, sym, ap, subst, ◌∙◌}
use Rattle.aw_list.proofs.Everyday.{get_within as get-within, length-slice_set as length-set}
use Rattle.aw_term.specs.Rules.{Grammar}
use Rattle.aw_term.specs.WellFormed.{Each}
use Rattle.aw_law_sites.specs.Sites.{Site}
use Rattle.aw_law_nodes.specs.Couriers.{session_frames, visit_frames}
use Rattle.aw_law_nodes.specs.Nodes.{Asked, handled, ask, sites_after}
use Rattle.aw_law_nodes.proofs.Runs.{sites-append}
use Rattle.aw_courier.specs.Honest.{visit_of, IsHonest}
use Rattle.aw_courier.specs.Turns.{Turn}
use Rattle.aw_node.specs.TypedNodes.{Rules}
use Rattle.aw_desk_wire.specs.Quiet.{alone, all_alone, TurnsAreHonest}
use Rattle.aw_desk_wire.proofs.ReadLemmas.{turn-honest}

-- there are as many sites as before
asked-size : (g : Grammar) (ss : List Site) (xs : List Asked) → length (sites_after g ss xs) ≡ length ss
asked-size g ss [] = refl
asked-size g ss (a ∷ xs) = asked-size g (ask g ss a) xs ∙ length-set ss a.role (handled g ss a).site

-- also behind some of them
pub size-after : (g : Grammar) (ss us : List Site) (xs : List Asked) → us ≡ sites_after g ss xs → length us ≡ length ss
size-after g ss us xs e = ap length e ∙ asked-size g ss xs

pub roles-stay : (n k : ℕ) → k ≡ n → (ts : List Turn) → Each (λ (t : Turn). t.session.role < n) ts → Each (λ (t : Turn). t.session.role < k) ts
roles-stay n k e ts l = subst (λ (m : ℕ). Each (λ (t : Turn). t.session.role < m) ts) (sym e) l

pub turns-honest : (r : Rules) → TurnsAreHonest r
turns-honest r ss us [] l k h = (tt, h)
turns-honest r ss us (t ∷ ts) l k h =
    let g = r.grammar in
    let frames = session_frames (visit_of (alone t)) in
    let (s, e) = get-within ss t.session.role l.0 in
    let one = turn-honest r ss h.0 t s e k.0 h.1 in
    let others = turns-honest r h.0 us ts (roles-stay (length ss) (length h.0) (size-after g ss h.0 frames one.1) ts l.1) k.1 h.2 in (
      (one.0, subst (λ (zs : List Site). IsHonest r.words g zs (map alone ts)) one.1 others.0),
      others.1 ∙ ap (λ (zs : List Site). sites_after g zs (visit_frames g (all_alone ts))) one.1
          ∙ sym (sites-append g ss frames (visit_frames g (all_alone ts))),
    )
