-- The turns of a courier at the sites of a world, over a wire of desks that answer as typed sites.
use Rattle.std.proofs.Common.{◌≡◌, ◌<◌, List, [], ◌∷◌, map, length, refl, sym, ap, subst}
use Rattle.aw_list.proofs.Members.{never}
use Rattle.aw_list.proofs.Everyday.{get_within as get-within}
use Rattle.aw_term.specs.Rules.{Grammar}
use Rattle.aw_term.specs.WellFormed.{Each}
use Rattle.aw_law_sites.specs.Sites.{Site}
use Rattle.aw_law_worlds.specs.Laws.{world_after, InvariantHolds}
use Rattle.aw_law_nodes.specs.Couriers as C
use Rattle.aw_law_nodes.specs.Couriers.{Heard, Courier, new_courier, after_session, session_frames, AreTurns, AreReplies, HasRole, ChoicesOk}
use Rattle.aw_law_nodes.specs.Encodable.{PushHasBytes, PushesHaveBytes, IsHonestInBytes, BytesAreHonest}
use Rattle.aw_law_nodes.specs.Nodes.{Frame, Push, Choose, Pull, Listed, all_replies}
use Rattle.aw_law_nodes.specs.Sizes.{ChoicesSized}
use Rattle.aw_courier.specs.Carrying.{sessions_of}
use Rattle.aw_courier.specs.Frames.{size, PlaceFits}
use Rattle.aw_courier.specs.Honest.{visit_of}
use Rattle.aw_courier.specs.Turns.{Turn, told_as, IsHeard}
use Rattle.aw_courier.proofs.HonestLemmas.{all-heard}
use Rattle.aw_node.specs.TypedNodes.{Rules, answers}
use Rattle.aw_desk_wire.specs.Honest.{AreHonest}
use Rattle.aw_desk_wire.specs.Quiet.{IsReadable, AreReadable, alone, all_alone, WorldIsHonest}
use Rattle.aw_desk_wire.proofs.QuietLemmas.{turns-honest, roles-stay, size-after}
use Rattle.aw_desk_wire.proofs.ReadLemmas.{turn-honest}

-- ---- the turns as visits

alone-sessions : (ts : List Turn) → map C.session_of (all_alone ts) ≡ sessions_of ts
alone-sessions [] = refl
alone-sessions (t ∷ ts) = ap (λ ss. t.session ∷ ss) (alone-sessions ts)

alone-roles : (g : Grammar) (ts : List Turn) → Each (λ (t : Turn). t.session.role < g.roles) ts → Each (HasRole g) (all_alone ts)
alone-roles g [] l = tt
alone-roles g (t ∷ ts) l = (l.0, alone-roles g ts l.1)

pub alone-ok : (g : Grammar) (ts : List Turn) → Each (ChoicesOk g) (all_alone ts)
alone-ok g [] = tt
alone-ok g (t ∷ ts) = (tt, alone-ok g ts)

pub alone-sized : (ts : List Turn) → Each ChoicesSized (all_alone ts)
alone-sized [] = tt
alone-sized (t ∷ ts) = (tt, alone-sized ts)

-- ---- requests that have bytes

-- a courier asks pushes and pulls
readable : (g : Grammar) (fs : List Frame) (xs : List Heard) → AreReplies size g fs xs → Each (PushHasBytes g) fs → Each PlaceFits fs → Each (IsReadable g) fs
readable g [] xs a k p = tt
readable g (f ∷ fs) [] a k p = never a
readable g (Push m ∷ fs) (x ∷ xs) a k p = (k.0, readable g fs xs a.1 k.1 p.1)
readable g (Pull n ∷ fs) (x ∷ xs) a k p = (p.0, readable g fs xs a.1 k.1 p.1)
readable g (Choose c ∷ fs) (x ∷ xs) a k p = never a.0
readable g (Listed n ∷ fs) (x ∷ xs) a k p = never a.0

all-readable : (g : Grammar) (c : Courier) (ts : List Turn) → AreTurns size g c (sessions_of ts) → Each (IsHeard g) ts → Each (PushesHaveBytes g) (all_alone ts) → Each (AreReadable g) ts
all-readable g c [] t k b = tt
all-readable g c (x ∷ ts) t k b = (readable g x.session.asked x.session.heard t.1 b.0 k.0.1, all-readable g (after_session c x.session) ts t.2 k.1 b.1)

-- ---- honest in bytes

in-bytes : (r : Rules) (ss us : List Site) (c : Courier) (ts : List Turn) → Each (λ (t : Turn). t.session.role < length ss) ts →
    AreTurns size r.grammar c (sessions_of ts) → Each (IsHeard r.grammar) ts →
    AreHonest (answers r) ss us (map told_as ts) → IsHonestInBytes r.grammar ss (all_alone ts)
in-bytes r ss us c [] l t k h = tt
in-bytes r ss us c (x ∷ ts) l t k h = λ asked has.
    let g = r.grammar in
    let frames = session_frames (visit_of (alone x)) in
    let (s, e) = get-within ss x.session.role l.0 in
    let one = turn-honest r ss h.0 x s e (readable g x.session.asked x.session.heard t.1 asked k.0.1) h.1 in
    let others = in-bytes r h.0 us (after_session c x.session) ts (roles-stay (length ss) (length h.0) (size-after g ss h.0 frames one.1) ts l.1) t.2 k.1 h.2 in (
      all-heard r.words g x.session.asked x.session.heard x.replies (all_replies g ss frames) k.0.0 has one.0,
      subst (λ zs. IsHonestInBytes g zs (all_alone ts)) one.1 others,
    )

-- turns at the sites of a world
pub world-honest : (r : Rules) → InvariantHolds r.grammar → BytesAreHonest r.grammar → WorldIsHonest r
world-honest r holds law sized loads es ok moves us ts t l k h =
    let g = r.grammar in
    let ss = (world_after g loads es).sites in
    let few = roles-stay g.roles (length ss) (holds loads es ok).1.sites ts l in
    let turns = subst (λ xs. AreTurns size g (new_courier g) xs) (sym (alone-sessions ts)) t in
    let bytes = law sized size loads es ok moves (all_alone ts) turns (alone-roles g ts l) (alone-ok g ts) (alone-sized ts) (in-bytes r ss us (new_courier g) ts few t k h) in
    turns-honest r ss us ts few (all-readable g (new_courier g) ts t k bytes.1) h
