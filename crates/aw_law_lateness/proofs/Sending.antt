-- What is asked, watched, called and sent in the one of two quiet worlds is so in the other.
use Rattle.std.specs.Prelude.{◌⊎◌}
use Rattle.std.proofs.Common.{◌≡◌, ℕ, ◌<◌, Bool, true, false, List, [], length, Option, Some, None, refl, sym, ap, ◌∙◌, subst, arith, inl, inr}
use Rattle.std.proofs.lemmas.Option.{slice_get_within}
use Rattle.aw_list.specs.Members.{Member}
use Rattle.aw_list.proofs.Members.{never}
use Rattle.aw_term.specs.Artifacts.{Words}
use Rattle.aw_term.specs.Held.{Held}
use Rattle.aw_term.specs.Names.{Ref, below}
use Rattle.aw_term.specs.Rules.{Grammar}
use Rattle.aw_term.specs.Trees.{Never}
use Rattle.aw_store.specs.Equations.{Body, Equation, find}
use Rattle.aw_apply.specs.Made.{Call}
use Rattle.aw_apply.specs.Messages.{Kind, Calls, Asks, Tells, Message}
use Rattle.aw_law_sites.specs.Asking.{ask_message}
use Rattle.aw_law_sites.specs.Homes.{home, parent, has_steps}
use Rattle.aw_law_sites.specs.Joint.{Joint}
use Rattle.aw_law_sites.specs.Laws.{IsAccepted}
use Rattle.aw_law_sites.specs.Worlds.{World, site_at, IsQuiet}
use Rattle.aw_law_worlds.specs.Invariant.{call_message, calls_at, equation, tell_message}
use Rattle.aw_law_worlds.specs.Mentioned.{IsMentioned}
use Rattle.aw_law_worlds.proofs.Delivering.{has-end, parent-below}
use Rattle.aw_law_worlds.proofs.Learning.{find-member, member-found}
use Rattle.aw_law_worlds.proofs.Parts.{Effect, Is_held, Sound}
use Rattle.aw_law_worlds.proofs.Places.{member-get}
use Rattle.aw_law_worlds.proofs.Quieting.{all-true, knows}
use Rattle.aw_law_worlds.proofs.Runs.{IsWorld}
use Rattle.aw_law_learning.specs.Working.{IsItsWork}
use Rattle.aw_law_lateness.specs.Sending.{AsksNoMore, HasCalled}

-- each site mentions what it asked for
abbrev pub AsksMentioned : World → Type 0
AsksMentioned w = (a : ℕ) (r : Ref) → (site_at w a).asked r ≡ true → IsMentioned r (site_at w a).equations (site_at w a).held

-- and asked for what it mentions
abbrev pub MentionsAsked : Grammar → World → Type 0
MentionsAsked g w = (a : ℕ) (r : Ref) → IsMentioned r (site_at w a).equations (site_at w a).held → (home g r.node ≡ a) ⊎ ((site_at w a).asked r ≡ true)

-- what it holds is its work
abbrev pub IsAllWork : Grammar → World → Type 0
IsAllWork g w = (a : ℕ) (h : Held) → Member h (site_at w a).held → IsItsWork g w.messages a h

-- what was delivered has had its effect
had-effect : (words : Words) (g : Grammar) (accepted : IsAccepted words g) (loads : Bool) (w : World) (x : Joint) → IsWorld words g accepted loads w x → IsQuiet w
    → (m : Message) → Member m w.messages → Effect (site_at w m.to) m.kind
had-effect words g accepted loads w x W quiet m i =
    let (k, e) = member-get w.messages m i in
    let l : k < length w.delivered = (let z = slice_get_within w.messages k m e in omega (arith, z, W.marks)) in
    (W.inv.effect k m e).0 (all-true w.delivered 0 k quiet l)

-- the call of this child
call-is : (g : Grammar) (h : Held) (to : ℕ) (c : Call) (load : List Equation) → h.node ≡ c.node → h.sort ≡ c.sort → h.inherited ≡ c.inherited → to ≡ home g c.node
    → call_message g h load ≡ calls_at to c load
call-is g h to c load n s r t = (λ i. calls_at (home g (n i)) (record { node = n i; sort = s i; inherited = r i }) load) ∙ ap (λ b. calls_at b c load) (sym t)

module _ (words : Words) (g : Grammar) (accepted : IsAccepted words g) (loads other : Bool) (w v : World) (x y : Joint)
    (W : IsWorld words g accepted loads w x) (V : IsWorld words g accepted other v y)
    (held : (a : ℕ) → (site_at w a).held ≡ (site_at v a).held) (equations : (a : ℕ) (r : Ref) → find (site_at w a).equations r ≡ find (site_at v a).equations r) where
  -- what the one mentions the other mentions
  is-found : (a : ℕ) (e : Equation) → Member e (site_at w a).equations → find (site_at w a).equations e.left ≡ Some e.body
  is-found a e i =
      let (b, f) = member-found (site_at w a).equations e i in
      let p = W.keyed e (W.inv.parts a e i) in
      let q = W.keyed (equation e.left b) (W.inv.parts a (equation e.left b) (find-member (site_at w a).equations e.left b f)) in
      f ∙ (sym q ∙ p)

  mentioned-there : (a : ℕ) (r : Ref) → IsMentioned r (site_at w a).equations (site_at w a).held → IsMentioned r (site_at v a).equations (site_at v a).held
  mentioned-there a r (inl m) = inl (m.0, find-member (site_at v a).equations m.0.left m.0.body (sym (equations a m.0.left) ∙ is-found a m.0 m.1), m.2)
  mentioned-there a r (inr m) = inr (m.0, subst (Member m.0) (held a) m.1, m.2)

  -- no role asks for what is its own
  not-own : (a : ℕ) (r : Ref) → (site_at w a).asked r ≡ true → home g r.node ≡ a → Never
  not-own a r q e = (W.inv.sound (ask_message g a r) (W.inv.asked a r q).0).1 e

  module _ (asks : AsksMentioned w) where
    -- without an equation it was asked for
    open-asked : (a : ℕ) (r : Ref) → find (site_at w a).equations r ≡ None → (site_at w a).asked r ≡ true → (site_at v a).asked r ≡ true
    open-asked a r none q = elim (V.inv.settled a r (mentioned-there a r (asks a r q))) [
      | inl h ↦ never (not-own a r q (h ∙ V.inv.roles a))
      | inr z ↦ elim z [ inl i ↦ i | inr f ↦ (let t : None ≡ Some f.0 = sym none ∙ (equations a r ∙ f.1) in absurd cc) ]
    ]

    -- and without loads always
    module _ (all : MentionsAsked g v) where
      more-asked : (a : ℕ) (r : Ref) → (site_at w a).asked r ≡ true → (site_at v a).asked r ≡ true
      more-asked a r q = elim (all a r (mentioned-there a r (asks a r q))) [ inl h ↦ never (not-own a r q h) | inr i ↦ i ]

    -- who watches
    module _ (quiet : IsQuiet v) where
      asked-watched : (a : ℕ) (r : Ref) (b : ℕ) → (site_at w a).watches r b ≡ true → (site_at v b).asked r ≡ true → (site_at v a).watches r b ≡ true
      asked-watched a r b q i =
          let e : (site_at v (home g r.node)).watches r b ≡ true = had-effect words g accepted other v y V quiet (ask_message g b r) (V.inv.asked b r i).0 in
          subst (λ a. (site_at v a).watches r b ≡ true) (W.inv.watched a r b q).0 e

      none-asker : (a : ℕ) (r : Ref) (b : ℕ) → home g r.node ≡ a → find (site_at w a).equations r ≡ None → find (site_at w b).equations r ≡ None
      none-asker a r b h none = by (find (site_at w b).equations r) refl
        where
          by : (o : Option Body) → find (site_at w b).equations r ≡ o → o ≡ None
          by None e = refl
          by (Some c) e =
              let f : find (site_at w a).equations r ≡ Some c = subst (λ a. find (site_at w a).equations r ≡ Some c) h (W.inv.homes r c (knows words g accepted loads w x W b r c e)) in
              let t : None ≡ Some c = sym none ∙ f in absurd cc

      open-watched : (a : ℕ) (r : Ref) (b : ℕ) → find (site_at w a).equations r ≡ None → (site_at w a).watches r b ≡ true → (site_at v a).watches r b ≡ true
      open-watched a r b none q =
          let (h, i) = W.inv.watched a r b q in
          asked-watched a r b q (open-asked b r (none-asker a r b h none) i)

      module _ (all : MentionsAsked g v) where
        more-watched : (a : ℕ) (r : Ref) (b : ℕ) → (site_at w a).watches r b ≡ true → (site_at v a).watches r b ≡ true
        more-watched a r b q = asked-watched a r b q (more-asked all b r (W.inv.watched a r b q).1)

  -- who was called
  module _ (rests : IsQuiet w) (works : IsAllWork g v) where
    called-there : (to : ℕ) (c : Call) (load : List Equation) → Member (calls_at to c load) w.messages → (load' : List Equation) × Member (calls_at to c load') v.messages
    called-there to c load i =
        let s : Sound g (site_at w) x to (Calls c load) = W.inv.sound (calls_at to c load) i in
        let e : Effect (site_at w to) (Calls c load) = had-effect words g accepted loads w x W rests (calls_at to c load) i in
        there s.0 s.1.0 s.1.1 s.1.2 s.1.3 s.1.4 e.0
      where
        there : to ≡ home g c.node → (p : _) (r k : ℕ) → c.node ≡ below p r k → (home g p ≡ to → Never) → Is_held c (site_at w to).held
            → (load' : List Equation) × Member (calls_at to c load') v.messages
        there at p r k n away (h, m, is, sort, refs) =
            elim (works to h (subst (Member h) (held to) m)) [
              | inl z ↦ (let t : true ≡ false = sym (has-end p.steps _) ∙ (sym (ap (λ n. has_steps n.steps) (is ∙ n)) ∙ z) in absurd cc)
              | inr z ↦ elim z [
                | inl q ↦ never (away (ap (home g) (sym (parent-below p r k)) ∙ (sym (ap (λ n. home g (parent n)) (is ∙ n)) ∙ q)))
                | inr j ↦ (j.0, subst (λ m. Member m v.messages) (call-is g h to c j.0 is sort refs at) j.1)
              ]
            ]

    calls-there : (a to : ℕ) (c : Call) → HasCalled (site_at w a) to c → HasCalled (site_at v a) to c
    calls-there a to c i =
        let (sent, from) = W.inv.boxes a (calls_at to c i.0) i.1 in
        let (load, j) = called-there to c i.0 sent in
        (load, subst (λ a. Member (calls_at to c load) (site_at v a).outbox) from (V.inv.boxed (calls_at to c load) j))

    -- without loads each message was sent there too
    module _ (bare : loads ≡ false) (light : other ≡ false) (asks : AsksMentioned w) (all : MentionsAsked g v) (quiet : IsQuiet v) where
      by-kind : (to : ℕ) (k : Kind) → Member (record { to = to; kind = k }) w.messages → Member (record { to = to; kind = k }) v.messages
      by-kind to (Calls c load) i =
          let none : load ≡ [] = W.inv.light bare (calls_at to c load) i in
          let (l, u) = called-there to c load i in
          let none' : l ≡ [] = V.inv.light light (calls_at to c l) u in
          subst (λ l. Member (calls_at to c l) v.messages) (none' ∙ sym none) u
      by-kind to (Asks r b) i =
          let s : Sound g (site_at w) x to (Asks r b) = W.inv.sound (record { to = to; kind = Asks r b }) i in
          subst (λ t. Member (record { to = t; kind = Asks r b }) v.messages) (sym s.0) (V.inv.asked b r (more-asked asks all b r s.2)).0
      by-kind to (Tells q load) i =
          let s : Sound g (site_at w) x to (Tells q load) = W.inv.sound (tell_message to q load) i in
          let none : load ≡ [] = W.inv.light bare (tell_message to q load) i in
          let known : find (site_at w (home g q.left.node)).equations q.left ≡ Some q.body = W.inv.homes q.left q.body (W.keyed q s.1.0.0) in
          let (l, u) = V.inv.tells (home g q.left.node) q.left to q.body (more-watched asks quiet all (home g q.left.node) q.left to s.0) (sym (equations (home g q.left.node) q.left) ∙ known) in
          let none' : l ≡ [] = V.inv.light light (tell_message to q l) u in
          subst (λ l. Member (tell_message to q l) v.messages) (none' ∙ sym none) u

      sent-there : (m : Message) → Member m w.messages → Member m v.messages
      sent-there m i = by-kind m.to m.kind i

-- what is so in the one is so in the other
pub record OneWay (loads other : Bool) (w v : World) : Type 0 where
  pub asked : (a : ℕ) (r : Ref) → find (site_at w a).equations r ≡ None → (site_at w a).asked r ≡ true → (site_at v a).asked r ≡ true
  pub watched : (a : ℕ) (r : Ref) (b : ℕ) → find (site_at w a).equations r ≡ None → (site_at w a).watches r b ≡ true → (site_at v a).watches r b ≡ true
  pub called : (a to : ℕ) (c : Call) → HasCalled (site_at w a) to c → HasCalled (site_at v a) to c
  pub more : other ≡ false → (a : ℕ) → AsksNoMore (site_at w a) (site_at v a)
  pub sent : loads ≡ false → other ≡ false → (m : Message) → Member m w.messages → Member m v.messages

pub one_way : (words : Words) (g : Grammar) (accepted : IsAccepted words g) (loads other : Bool) (w v : World) (x y : Joint) → IsWorld words g accepted loads w x → IsWorld words g accepted other v y
    → ((a : ℕ) → (site_at w a).held ≡ (site_at v a).held) → ((a : ℕ) (r : Ref) → find (site_at w a).equations r ≡ find (site_at v a).equations r)
    → IsQuiet w → IsQuiet v → AsksMentioned w → (other ≡ false → MentionsAsked g v) → IsAllWork g v → OneWay loads other w v
one_way words g accepted loads other w v x y W V held equations rests quiet asks all works = record {
  asked = open-asked words g accepted loads other w v x y W V held equations asks;
  watched = open-watched words g accepted loads other w v x y W V held equations asks quiet;
  called = calls-there words g accepted loads other w v x y W V held equations rests works;
  more = λ light a. record {
    asked = more-asked words g accepted loads other w v x y W V held equations asks (all light) a;
    watched = more-watched words g accepted loads other w v x y W V held equations asks quiet (all light) a;
  };
  sent = λ bare light. sent-there words g accepted loads other w v x y W V held equations rests works bare light asks (all light) quiet;
}
