-- The requests of a courier, read back as the frames that they are, and what typed sites reply to them.
use Rattle.std.proofs.Common.{◌≡◌, ℕ, false, List, [], ◌∷◌, ◌++◌, map, length, Option, Some, refl, sym, ap, subst, ◌∙◌}
use Rattle.std.specs.Prelude.{slice_get, slice_set}
use Rattle.std.specs.Int.{w32, to_be_bytes}
use Rattle.aw_list.proofs.Members.{never}
use Rattle.aw_term.specs.Rules.{Grammar}
use Rattle.aw_term.specs.WellFormed.{Each}
use Rattle.aw_term.proofs.Gets.{get_some as got-at}
use Rattle.aw_law_sites.specs.Sites.{Site, empty_site}
use Rattle.aw_law_nodes.specs.Couriers.{IsPrefix, asked_at}
use Rattle.aw_law_nodes.specs.Nodes as N
use Rattle.aw_law_nodes.specs.Told.{told}
use Rattle.aw_law_nodes.proofs.ListParts.{set-set, set-get}
use Rattle.aw_courier.specs.Frames.{spelled_frame, spelled_frames}
use Rattle.aw_courier.specs.Honest.{reply_bytes}
use Rattle.aw_courier.specs.Turns.{Turn, told_as}
use Rattle.aw_courier.proofs.BroughtLemmas.{same-spelling}
use Rattle.aw_msg.specs.Frames as F
use Rattle.aw_msg.specs.Pieces.{Yields, Splits}
use Rattle.aw_msg.specs.Replies.{spelled_reply}
use Rattle.aw_msg.specs.Spelling as S
use Rattle.aw_msg.proofs.Extensions.{split_once, nothing_ended}
use Rattle.aw_msg.proofs.FrameLaws.{frame_law}
use Rattle.aw_node.specs.TypedNodes.{Rules, handle, answers}
use Rattle.aw_session.specs.Frames.{joined, AreAnswered}
use Rattle.aw_desk_wire.specs.Asking.{AskedOf, AreAsked}
use Rattle.aw_desk_wire.specs.Honest.{IsHonest}
use Rattle.aw_desk_wire.specs.Quiet.{IsReadable}
use Rattle.aw_desk_wire.proofs.AskLemmas.{got-set as set-at}

-- ---- one request

-- the frame that is read where it was written: a typed site answers it as a site does
record IsRead (r : Rules) (f : N.Frame) : Type 0 where
  pub one : F.Frame
  pub spelled : F.spelled_frame one ≡ spelled_frame f
  pub sized : F.FrameSized one
  pub range : F.FrameInRange one
  pub same : (s : Site) → handle r s one ≡ N.handle r.grammar s f

read-one : (r : Rules) (f : N.Frame) → IsReadable r.grammar f → IsRead r f
read-one r (N.Push m) (k, e, fits, range) = record {
  one = F.Push k;
  spelled = ap (λ t. 1 ∷ (to_be_bytes w32 (length t) ++ t)) (sym (ap S.spelled_message e ∙ same-spelling r.grammar k));
  sized = fits;
  range = range;
  same = λ s. ap (λ m. N.handle r.grammar s (N.Push m)) (sym e);
}
read-one r (N.Choose c) h = never h
read-one r (N.Pull place) h = record { one = F.Pull place; spelled = refl; sized = h; range = tt; same = λ s. refl }
read-one r (N.Listed place) h = never h

-- ---- requests one behind the other

record AreRead (r : Rules) (fs : List N.Frame) : Type 0 where
  pub frames : List F.Frame
  pub yields : Yields (spelled_frames fs) frames []
  pub answered : (s t : Site) (xs : List (List ℕ)) → AreAnswered (answers r) s frames xs t →
      (xs ≡ map (reply_bytes r.words) (N.replies r.grammar s fs)) × (t ≡ N.site_after r.grammar s fs)

all-read : (r : Rules) (fs : List N.Frame) → Each (IsReadable r.grammar) fs → AreRead r fs
all-read r [] k = record { frames = []; yields = refl; answered = none }
  where
    none : (s t : Site) (xs : List (List ℕ)) → AreAnswered (answers r) s [] xs t → (xs ≡ []) × (t ≡ s)
    none s t [] a = (refl, a)
    none s t (x ∷ xs) a = absurd a
all-read r (f ∷ fs) k =
    let here = read-one r f k.0 in
    let others = all-read r fs k.1 in
    record {
      frames = here.one ∷ others.frames;
      yields = (
        spelled_frames fs,
        ap (λ t. F.frame (t ++ spelled_frames fs)) (sym here.spelled) ∙ frame_law.again here.one (spelled_frames fs) here.sized here.range,
        others.yields,
      );
      answered = some here others;
    }
  where
    some : (here : IsRead r f) (others : AreRead r fs) (s t : Site) (xs : List (List ℕ)) → AreAnswered (answers r) s (here.one ∷ others.frames) xs t →
        (xs ≡ map (reply_bytes r.words) (N.replies r.grammar s (f ∷ fs))) × (t ≡ N.site_after r.grammar s (f ∷ fs))
    some here others s t [] a = absurd a
    some here others s t (x ∷ xs) a =
        let first : x ≡ reply_bytes r.words (N.handle r.grammar s f).response = a.1.0 ∙ ap (λ (h : N.Handled). spelled_reply r.words (told h.response)) (here.same s) in
        let next : a.0 ≡ (N.handle r.grammar s f).site = a.1.1 ∙ ap (λ (h : N.Handled). h.site) (here.same s) in
        let more = others.answered a.0 t xs a.2 in (
          ap (λ y. y ∷ xs) first ∙ ap (λ ys. reply_bytes r.words (N.handle r.grammar s f).response ∷ ys) (more.0 ∙ ap (λ z. map (reply_bytes r.words) (N.replies r.grammar z fs)) next),
          more.1 ∙ ap (λ z. N.site_after r.grammar z fs) next,
        )

-- ---- the site of a role among those of all roles

at-role : (g : Grammar) (role : ℕ) (fs : List N.Frame) (ss : List Site) (s : Site) → slice_get ss role ≡ Some s →
    (N.all_replies g ss (map (asked_at role) fs) ≡ N.replies g s fs) × (N.sites_after g ss (map (asked_at role) fs) ≡ slice_set ss role (N.site_after g s fs))
at-role g role [] ss s e = (refl, sym (set-get ss role s e))
at-role g role (f ∷ fs) ss s e =
    let here : N.site_of ss role ≡ s = got-at (empty_site false role) ss role s e in
    let z = (N.handle g s f).site in
    let same : N.ask g ss (asked_at role f) ≡ slice_set ss role z = ap (λ (t : Site). slice_set ss role (N.handle g t f).site) here in
    let others = at-role g role fs (slice_set ss role z) z (set-at ss role s z e) in (
      ap (λ (t : Site). (N.handle g t f).response ∷ N.all_replies g (N.ask g ss (asked_at role f)) (map (asked_at role) fs)) here
          ∙ ap (λ (us : List Site). (N.handle g s f).response ∷ N.all_replies g us (map (asked_at role) fs)) same ∙ ap (λ xs. (N.handle g s f).response ∷ xs) others.0,
      ap (λ (us : List Site). N.sites_after g us (map (asked_at role) fs)) same ∙ others.1 ∙ set-set ss role z (N.site_after g z fs),
    )

-- ---- one turn

-- what was read in it begins what the sites reply, and the sites are then those behind its requests
pub turn-honest : (r : Rules) (ss us : List Site) (t : Turn) (s : Site) → slice_get ss t.session.role ≡ Some s → Each (IsReadable r.grammar) t.session.asked → IsHonest (answers r) ss us (told_as t) →
    IsPrefix (joined t.replies) (joined (map (reply_bytes r.words) (N.all_replies r.grammar ss (map (asked_at t.session.role) t.session.asked))))
    × (us ≡ N.sites_after r.grammar ss (map (asked_at t.session.role) t.session.asked))
turn-honest r ss us t s e k h =
    let role = t.session.role in
    let fs = t.session.asked in
    let all = all-read r fs k in
    let split : Splits (spelled_frames fs) all.frames false = record { rest = []; yields = all.yields; ended = nothing_ended } in
    let same = (split_once (spelled_frames fs) h.frames all.frames h.bad false h.splits split).0 in
    let asked : AreAsked (answers r) role ss us all.frames h.replies = subst (λ gs. AreAsked (answers r) role ss us gs h.replies) same h.asked in
    let there = subst (λ (o : Option Site). AskedOf (answers r) role ss o all.frames h.replies us) e asked in
    let said = all.answered s there.0 h.replies there.1 in
    let place = at-role r.grammar role fs ss s e in (
      (h.later, ap (λ xs. joined (map (reply_bytes r.words) xs)) place.0 ∙ ap joined (sym said.0) ∙ h.read),
      there.2 ∙ ap (λ (z : Site). slice_set ss role z) said.1 ∙ sym place.1,
    )
