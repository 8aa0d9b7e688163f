-- What a courier knows of a system in which nodes crash, and others act between its frames.
use Rattle.std.specs.Prelude.{slice_get, slice_set, nat_eq, ◌⊎◌}
use Rattle.std.proofs.Common.{◌≡◌, ℕ, zero, suc, ◌<◌, ◌≤◌, Bool, true, false, cond, List, [], ◌∷◌, ◌++◌, map, length, Option, Some, None, refl, sym, ap, ◌∙◌, subst, inl, inr, arith}
use Rattle.std.proofs.lemmas.Bool.{cases_lt}
use Rattle.aw_list.specs.Members.{Member}
use Rattle.aw_list.proofs.Members.{never, member_left, member_right, member_split}
use Rattle.aw_list.proofs.Everyday.{length-slice_set as length-set}
use Rattle.aw_term.specs.Rules.{Grammar, get, upto}
use Rattle.aw_apply.specs.Messages.{Message}
use Rattle.aw_law_sites.specs.Sites.{Site}
use Rattle.aw_law_worlds.specs.Laws.{Repeats}
use Rattle.aw_law_worlds.proofs.Places.{get-set, get-set_other, same_or_not}
use Rattle.aw_law_nodes.specs.Couriers.{Heard, Pushed, Gave, NoMore, hear, Courier, new_courier, for_role, without, turn_room, note, IsReplyTo}
use Rattle.aw_law_nodes.specs.Crashes.{Kept, CrashesLeaveAWorld}
use Rattle.aw_law_nodes.specs.Nodes.{Frame, Push, Choose, Pull, Listed, Sends, at_place, handle}
use Rattle.aw_law_nodes.proofs.Knowing.{first-waits}
use Rattle.aw_law_nodes.proofs.ListParts.{cons-inj}
use Rattle.aw_law_nodes.proofs.Mail.{Given}
use Rattle.aw_law_system.specs.Systems as systems
use Rattle.aw_law_system.specs.Systems.{System, node_at, Act, Asks, act, acts_on, IsAllowed, AreAllowed}
use Rattle.aw_law_system.specs.Resting.{Deed, Mine, Others, act_of, Exchange, exchanged}
use Rattle.aw_law_system.proofs.Acting.{safe_site, asked-here}
use Rattle.aw_law_system.proofs.Feeding.{IsFed, fed-act, IsSettled, settled-act, pushed-settles, safe-box, written-site, prefix-get}
use Rattle.aw_law_system.proofs.Leaving.{IsHeld, held-act}
use Rattle.aw_law_system.proofs.Turning.{IsNext, AllNext, noted_all}

-- a message that is heard is the one at the place
sends-at : (n : ℕ) (o : Option Message) (m : Message) → Gave m ≡ hear (at_place Sends n o) → o ≡ Some m
sends-at n None m e = absurd cc
sends-at n (Some x) m e = ap Some (sent-inj (sym e))
  where
    sent-inj : {x y : Message} → Gave x ≡ Gave y → x ≡ y
    sent-inj e = cc

-- what is taken out of what waits is the first
others-wait : (r : ℕ) (ws ms : List Message) (m n : Message) → for_role r ws ≡ m ∷ ms → Member n ws → Member n (without r ws) ⊎ (n ≡ m)
others-wait r [] ms m n e i = never i
others-wait r (w ∷ ws) ms m n e i = go (nat_eq w.to r) e i (others-wait r ws ms m n)
  where
    go : (b : Bool) → cond b (w ∷ for_role r ws) (for_role r ws) ≡ m ∷ ms → Member n (w ∷ ws) →
        (for_role r ws ≡ m ∷ ms → Member n ws → Member n (without r ws) ⊎ (n ≡ m)) → Member n (cond b ws (w ∷ without r ws)) ⊎ (n ≡ m)
    go true e (inl p) f = inr (p ∙ (cons-inj e).0)
    go true e (inr i) f = inl i
    go false e (inl p) f = inl (inl p)
    go false e (inr i) f = elim (f e i) [ inl j ↦ inl (inr j) | inr p ↦ inr p ]

still-waits : (r : ℕ) (ws : List Message) (n : Message) → Member n (without r ws) → Member n ws
still-waits r [] n i = i
still-waits r (w ∷ ws) n i = go (nat_eq w.to r) i (still-waits r ws n)
  where
    go : (b : Bool) → Member n (cond b ws (w ∷ without r ws)) → (Member n (without r ws) → Member n ws) → Member n (w ∷ ws)
    go true i f = inr i
    go false (inl p) f = inl p
    go false (inr i) f = inr (f i)

first-none : (i n r : ℕ) → get 0 (map (λ (k : ℕ). zero) (upto i n)) r ≡ zero
first-none i zero r = refl
first-none i (suc n) zero = refl
first-none i (suc n) (suc r) = first-none (suc i) n r

none-count : (i n : ℕ) → length (map (λ (k : ℕ). zero) (upto i n)) ≡ n
none-count i zero = refl
none-count i (suc n) = ap suc (none-count (suc i) n)

module _ (g : Grammar) (G : Given g) (law : CrashesLeaveAWorld g) (loads : Bool) (repeats : Repeats g) (size : Frame → ℕ) where
  -- each message that was pulled waits, or is a repeat at its addressee for ever; what waits can be pushed
  pub record Knows (s : System) (c : Courier) : Type 0 where
    pub count : length c.places ≡ g.roles
    pub pulled : (a p : ℕ) → a < g.roles → p < get 0 c.places a → (m : Message) × (slice_get (safe_site g loads s a).outbox p ≡ Some m) × (Member m c.waiting ⊎ IsSettled g G law loads repeats s m)
    pub waits : (m : Message) → Member m c.waiting → (m.to < g.roles) × (size (Push m) ≤ turn_room)

  pub knows-first : (s : System) → Knows s (new_courier g)
  knows-first s = record {
    count = none-count 0 g.roles;
    pulled = λ a p l i. let z = first-none 0 g.roles a in absurd (omega (arith, z, i));
    waits = λ m i. never i;
  }

  module _ (s : System) (H : IsHeld g G law loads s) (F : IsFed g G law loads s) (c : Courier) (K : Knows s c) where
    -- whatever others do
    pub knows-act : (a : Act) → IsAllowed g s a → Knows (act g loads s a) c
    knows-act a h = record {
      count = K.count;
      pulled = λ b p l i.
          let (m, e, w) = K.pulled b p l i in (
            m,
            prefix-get (safe_site g loads s b).outbox (safe_site g loads (act g loads s a) b).outbox p m (safe-box g G law loads s H F a h b l) e,
            elim w [ inl j ↦ inl j | inr j ↦ inr (settled-act g G law loads repeats s H F a h m j) ],
          );
      waits = K.waits;
    }

    -- a push was answered
    knows-push : (r : ℕ) (m : Message) (x : Heard) → IsAllowed g s (Asks r (Push m) systems.Heard) → (ms : List Message) →
        for_role r c.waiting ≡ m ∷ ms → Knows (act g loads s (Asks r (Push m) systems.Heard)) (note r (Push m) x c)
    knows-push r m x h ms e =
        let U = knows-act (Asks r (Push m) systems.Heard) h in record {
          count = U.count;
          pulled = λ b p l i.
              let (n, o, w) = U.pulled b p l i in (
                n,
                o,
                elim w [
                  | inl j ↦ elim (others-wait r c.waiting ms m n e j) [
                    | inl k ↦ inl k
                    | inr q ↦ inr (subst (IsSettled g G law loads repeats (act g loads s (Asks r (Push m) systems.Heard))) (sym q)
                        (pushed-settles g G law loads repeats s H F r m systems.Heard h.0 h.1 (first-waits r c.waiting ms m e).1 tt))
                  ]
                  | inr k ↦ inr k
                ],
              );
          waits = λ n i. U.waits n (still-waits r c.waiting n i);
        }

    -- a message was pulled
    knows-pull : (r p : ℕ) (m : Message) → IsAllowed g s (Asks r (Pull p) systems.Heard) → p ≡ get 0 c.places r → slice_get (node_at s r).site.outbox
        p ≡ Some m → (m.to < g.roles) × (size (Push m) ≤ turn_room)
        → Knows (act g loads s (Asks r (Pull p) systems.Heard)) (note r (Pull p) (Gave m) c)
    knows-pull r p m h at e fits =
        let a = Asks r (Pull p) systems.Heard in
        let t = act g loads s a in
        let U = knows-act a h in
        let n = K.count in
        let l : r < length c.places = (let z = h.0 in omega (arith, n, z)) in
        let here : slice_get (safe_site g loads t r).outbox p ≡ Some m =
        subst (λ (u : Site). slice_get u.outbox p ≡ Some m) (sym (written-site g G law loads s H F r (Pull p) systems.Heard h.0 tt
        ∙ ap (λ (k : Kept). k.site) (asked-here g loads s H.sound r (Pull p) systems.Heard h.0))) e in
        record {
          count = length-set c.places r (suc p) ∙ U.count;
          pulled = λ b q b-in i. elim (same_or_not r b) [
            | inr f ↦ later b q (U.pulled b q b-in (let z = get-set_other 0 c.places r b (suc p) f in omega (arith, z, i)))
            | inl f ↦ subst (λ b. (o : Message) × (slice_get (safe_site g loads t b).outbox q ≡ Some o) × (Member o (c.waiting ++ m ∷ []) ⊎ IsSettled g G law loads repeats t o)) f
                (let i' : q < get 0 (slice_set c.places r (suc p)) r = subst (λ b. q < get 0 (slice_set c.places r (suc p)) b) (sym f) i in
                let z = get-set 0 c.places r (suc p) l in
                elim (cases_lt q p) [
                  | inl k ↦ later r q (U.pulled r q h.0 (omega (arith, at, k)))
                  | inr k ↦ (let same : p ≡ q = omega (arith, z, i', k) in
                      (m, subst (λ q. slice_get (safe_site g loads t r).outbox q ≡ Some m) same here, inl (member_right m c.waiting (m ∷ []) (inl refl))))
                ])
          ];
          waits = λ o i. elim (member_split o c.waiting (m ∷ []) i) [
            | inl j ↦ U.waits o j
            | inr j ↦ elim j [ inl q ↦ subst (λ (o : Message). (o.to < g.roles) × (size (Push o) ≤ turn_room)) (sym q) fits | inr z ↦ never z ]
          ];
        }
      where
        later : (b q : ℕ) → ((o : Message) × (slice_get (safe_site g loads (act g loads s (Asks r (Pull p) systems.Heard)) b).outbox q ≡ Some o)
            × (Member o c.waiting ⊎ IsSettled g G law loads repeats (act g loads s (Asks r (Pull p) systems.Heard)) o))
            → (o : Message) × (slice_get (safe_site g loads (act g loads s (Asks r (Pull p) systems.Heard)) b).outbox q ≡ Some o)
            × (Member o (c.waiting ++ m ∷ []) ⊎ IsSettled g G law loads repeats (act g loads s (Asks r (Pull p) systems.Heard)) o)
        later b q (o, e, w) = (o, e, elim w [ inl j ↦ inl (member_left o c.waiting (m ∷ []) j) | inr j ↦ inr j ])

    -- an exchange of its own
    pub knows-mine : (r : ℕ) (f : Frame) (x : Heard) → x ≡ hear (handle g (node_at s r).site f).response → IsAllowed g s (Asks r f systems.Heard) → IsNext g size c r f → IsReplyTo size g f x
        → Knows (act g loads s (Asks r f systems.Heard)) (note r f x c)
    knows-mine r (Push m) x e h (ms, w) k = knows-push r m x h ms w
    knows-mine r (Pull p) (Gave m) e h w k = knows-pull r p m h w (sends-at _ (slice_get (node_at s r).site.outbox p) m e) k
    knows-mine r (Pull p) NoMore e h w k = knows-act (Asks r (Pull p) systems.Heard) h
    knows-mine r (Pull p) (Pushed n) e h w k = never k
    knows-mine r (Choose d) x e h w k = never w
    knows-mine r (Listed n) x e h w k = never w

  -- while it carries
  pub record GoesOn (t : System) (c : Courier) : Type 0 where
    pub held : IsHeld g G law loads t
    pub fed : IsFed g G law loads t
    pub knows : Knows t c

  pub goes-act : (s : System) (c : Courier) → GoesOn s c → (a : Act) → IsAllowed g s a → GoesOn (act g loads s a) c
  goes-act s c O a h = record { held = held-act g G law loads s O.held a h; fed = fed-act g G law loads s O.held O.fed a h; knows = knows-act s O.held O.fed c O.knows a h }

  pub deeds-known : (ds : List Deed) (s : System) (c : Courier) → GoesOn s c → AreAllowed g loads s (map act_of ds) → (es : List Exchange) → exchanged g loads s ds ≡ es → AllNext g size c es
      → GoesOn (acts_on g loads s (map act_of ds)) (noted_all c es)
  deeds-known [] s c O h [] e n = O
  deeds-known [] s c O h (x ∷ es) e n = absurd cc
  deeds-known (Others a ∷ ds) s c O h es e n = deeds-known ds (act g loads s a) c (goes-act s c O a h.0) h.1 es e n
  deeds-known (Mine r f ∷ ds) s c O h [] e n = absurd cc
  deeds-known (Mine r f ∷ ds) s c O h (x ∷ es) e n =
      let (p, q) = cons-inj e in
      let t = act g loads s (act_of (Mine r f)) in
      deeds-known ds t (note x.role x.frame x.heard c)
      (record {
        held = held-act g G law loads s O.held (act_of (Mine r f)) h.0;
        fed = fed-act g G law loads s O.held O.fed (act_of (Mine r f)) h.0;
        knows = subst (λ (y : Exchange). Knows t (note y.role y.frame y.heard c)) p
            (knows-mine s O.held O.fed c O.knows r f (hear (handle g (node_at s r).site f).response) refl h.0
            (subst (λ (y : Exchange). IsNext g size c y.role y.frame) (sym p) n.1) (subst (λ (y : Exchange). IsReplyTo size g y.frame y.heard) (sym p) n.2));
      }) h.1 es q n.3
