-- Two still worlds with the same choices ask, watch and call alike, and without loads they send the same.
use Rattle.std.specs.Prelude.{nat_eq, IsPermutation}
use Rattle.std.proofs.Common.{◌≡◌, ℕ, Bool, true, false, List, None, refl, sym, ◌∙◌, subst}
use Rattle.aw_list.specs.Members.{Member}
use Rattle.aw_term.specs.Artifacts.{Words}
use Rattle.aw_term.specs.Names.{Ref}
use Rattle.aw_term.specs.Rules.{Grammar}
use Rattle.aw_term.specs.Trees.{Never}
use Rattle.aw_term.specs.WellFormed.{Each}
use Rattle.aw_store.specs.Equations.{find}
use Rattle.aw_apply.specs.Messages.{Kind, Calls, Asks, Tells, Message}
use Rattle.aw_law_sites.specs.Laws.{IsAccepted, SameChoices}
use Rattle.aw_law_sites.specs.Sites.{Site}
use Rattle.aw_law_sites.specs.Worlds.{World, site_at, Move, MayCome, world_after}
use Rattle.aw_law_worlds.specs.Invariant.{sender}
use Rattle.aw_law_worlds.specs.Laws.{InvariantHolds}
use Rattle.aw_law_worlds.proofs.Lists.{Later-filter, Later-map, Member-filter, Member-filtered}
use Rattle.aw_law_worlds.proofs.Parts.{Apart, Kin, KindKin}
use Rattle.aw_law_worlds.proofs.Runs.{invariant_holds}
use Rattle.aw_law_nodes.specs.Nodes.{MessagesAreOutboxes, sent_by}
use Rattle.aw_law_settling.specs.Still.{IsStill, QuietIsStill, StillBecomesQuiet}
use Rattle.aw_law_learning.specs.Learning.{OfficesAskTheirOwn, OfficesLearnTheirOwn}
use Rattle.aw_law_learning.specs.Working.{OfficesWorkByCall}
use Rattle.aw_law_lateness.specs.Sending.{OpenQuestionsAreTheSame, SameOpenQuestions, CallsAreTheSame, SameCalls, LoadsAskNoMore, AsksNoMore, BareMessagesAreTheSame}
use Rattle.aw_law_lateness.proofs.Orders.{AreOnce, same_members}
use Rattle.aw_law_lateness.proofs.Sending.{MentionsAsked, OneWay, one_way}
use Rattle.aw_law_lateness.proofs.Traces.{IsQuietOf, quiet-of, quiet-held, quiet-equations, at-w, at-v, same-back}

bool-same : (b c : Bool) → (b ≡ true → c ≡ true) → (c ≡ true → b ≡ true) → b ≡ c
bool-same true c f h = sym (f refl)
bool-same false true f h = h refl
bool-same false false f h = refl

-- a message is its own kin
kind-self : (k : Kind) → KindKin k k
kind-self (Calls c load) = refl
kind-self (Asks r a) = (refl, refl)
kind-self (Tells e load) = refl

kin-of : (m n : Message) → m ≡ n → Kin m n
kin-of m n p = subst (Kin m) p (refl, kind-self m.kind)

module _ (words : Words) (g : Grammar) (accepted : IsAccepted words g) (learns : OfficesLearnTheirOwn g) (becomes : StillBecomesQuiet g)
    (asks : OfficesAskTheirOwn g) (works : OfficesWorkByCall g) (invariant : InvariantHolds g) where
  abbrev QuietOf : Bool → World → Type 0
  QuietOf loads w = IsQuietOf words g accepted learns becomes loads w

  mentions-asked : (loads : Bool) (es : List Move) → Each (MayCome g) es → loads ≡ false → MentionsAsked g (world_after g loads es)
  mentions-asked loads es may bare = let (x, I) = invariant loads es may in I.asked_all bare

  -- each message was sent once
  are-once : (loads : Bool) (es : List Move) → Each (MayCome g) es → AreOnce (world_after g loads es).messages
  are-once loads es may =
      let (x, W) = invariant_holds words g accepted loads es may in
      Later-map Apart (λ (m n : Message). m ≡ n → Never) (λ m n apart p. apart (kin-of m n p)) (world_after g loads es).messages W.inv.apart

  module _ (loads other : Bool) (w v : World) (Q : QuietOf loads w) (P : QuietOf other v) (same : SameChoices w.taken v.taken) where
    abbrev pub wq : World
    wq = world_after g loads Q.moves

    abbrev pub vq : World
    vq = world_after g other P.moves

    way : OneWay loads other wq vq
    way =
        let (x, W) = invariant_holds words g accepted loads Q.moves Q.may in
        let (y, V) = invariant_holds words g accepted other P.moves P.may in
        one_way words g accepted loads other wq vq x y W V
        (quiet-held words g accepted learns becomes loads other w v Q P same) (quiet-equations words g accepted learns becomes loads other w v Q P same)
        Q.quiet P.quiet (λ a r q. (asks loads Q.moves Q.may a r q).1) (mentions-asked other P.moves P.may) (works other P.moves P.may)

    at-rest : (R : Site → Site → Type 0) (a : ℕ) → R (site_at wq a) (site_at vq a) → R (site_at w a) (site_at v a)
    at-rest R a q =
        subst (λ s. R s (site_at v a)) (at-w words g accepted learns becomes loads other w v Q P same a)
        (subst (R (site_at wq a)) (at-v words g accepted learns becomes loads other w v Q P same a) q)

    same-map : (a : ℕ) (r : Ref) → find (site_at wq a).equations r ≡ None → find (site_at vq a).equations r ≡ None
    same-map a r none = sym (quiet-equations words g accepted learns becomes loads other w v Q P same a r) ∙ none

  -- both ways
  module _ (loads other : Bool) (w v : World) (Q : QuietOf loads w) (P : QuietOf other v) (same : SameChoices w.taken v.taken) where
    abbrev to : OneWay loads other (wq loads other w v Q P same) (vq loads other w v Q P same)
    to = way loads other w v Q P same

    abbrev fro : OneWay other loads (vq loads other w v Q P same) (wq loads other w v Q P same)
    fro = way other loads v w P Q (same-back words g accepted w.taken v.taken same)

    open-questions : (a : ℕ) → SameOpenQuestions (site_at w a) (site_at v a)
    open-questions a = at-rest loads other w v Q P same SameOpenQuestions a (record {
      asked = λ r none. bool-same _ _ (to.asked a r none) (fro.asked a r (same-map loads other w v Q P same a r none));
      watched = λ r b none. bool-same _ _ (to.watched a r b none) (fro.watched a r b (same-map loads other w v Q P same a r none));
    })

    calls : (a : ℕ) → SameCalls (site_at w a) (site_at v a)
    calls a = at-rest loads other w v Q P same SameCalls a (λ b c. (to.called a b c, fro.called a b c))

    ask-no-more : other ≡ false → (a : ℕ) → AsksNoMore (site_at w a) (site_at v a)
    ask-no-more light a = at-rest loads other w v Q P same AsksNoMore a (to.more light a)

  pub open_questions_are_the_same : OpenQuestionsAreTheSame g
  open_questions_are_the_same loads other es fs may might still rests same =
      open-questions loads other (world_after g loads es) (world_after g other fs)
      (quiet-of words g accepted learns becomes loads es may still) (quiet-of words g accepted learns becomes other fs might rests) same

  pub calls_are_the_same : CallsAreTheSame g
  calls_are_the_same loads other es fs may might still rests same =
      calls loads other (world_after g loads es) (world_after g other fs)
      (quiet-of words g accepted learns becomes loads es may still) (quiet-of words g accepted learns becomes other fs might rests) same

  pub loads_ask_no_more : LoadsAskNoMore g
  loads_ask_no_more loads other es fs may might still rests same =
      ask-no-more loads other (world_after g loads es) (world_after g other fs)
      (quiet-of words g accepted learns becomes loads es may still) (quiet-of words g accepted learns becomes other fs might rests) same

  -- without loads a still world is quiet
  module _ (quiet : QuietIsStill g) (outboxes : MessagesAreOutboxes g) where
    abbrev as-it-is : (loads : Bool) (es : List Move) → Each (MayCome g) es → loads ≡ false → IsStill g (world_after g loads es) → QuietOf loads (world_after g loads es)
    as-it-is loads es may bare still = record { moves = es; may = may; quiet = (quiet loads es may).1 bare still; sites = refl; taken = refl }

    same-outbox : (w v : World) → AreOnce w.messages → AreOnce v.messages → ((m : Message) → Member m w.messages → Member m v.messages) → ((m : Message) → Member m v.messages → Member m w.messages)
        → (a : ℕ) → IsPermutation (sent_by g a w.messages) (sent_by g a v.messages)
    same-outbox w v o q f h a =
        let p : Message → Bool = λ m. nat_eq (sender g m.kind) a in
        same_members (sent_by g a w.messages) (sent_by g a v.messages)
        (Later-filter (λ (m n : Message). m ≡ n → Never) p w.messages o) (Later-filter (λ (m n : Message). m ≡ n → Never) p v.messages q)
        (λ m i. let (j, e) = Member-filtered p m w.messages i in Member-filter p m v.messages (f m j) e)
        (λ m i. let (j, e) = Member-filtered p m v.messages i in Member-filter p m w.messages (h m j) e)

    pub bare_messages_are_the_same : BareMessagesAreTheSame g
    bare_messages_are_the_same loads other es fs may might still rests same bare light =
        let w = world_after g loads es in
        let v = world_after g other fs in
        let Q = as-it-is loads es may bare still in
        let P = as-it-is other fs might light rests in
        let there = way loads other w v Q P same in
        let back = way other loads v w P Q (same-back words g accepted w.taken v.taken same) in
        let o = are-once loads es may in
        let q = are-once other fs might in (
          (λ a. record {
            asked = λ r. bool-same _ _ ((there.more light a).asked r) ((back.more bare a).asked r);
            watched = λ r b. bool-same _ _ ((there.more light a).watched r b) ((back.more bare a).watched r b);
            outbox = subst (λ ms. IsPermutation ms (site_at v a).outbox) (sym (outboxes loads es may a))
                (subst (IsPermutation (sent_by g a w.messages)) (sym (outboxes other fs might a)) (same-outbox w v o q (there.sent bare light) (back.sent light bare) a));
          }),
          same_members w.messages v.messages o q (there.sent bare light) (back.sent light bare),
        )
