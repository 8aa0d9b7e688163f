-- What waits in the mail of a courier, and what the courier knows of the world.
use Rattle.std.specs.Prelude.{slice_get, slice_set, ◌⊎◌, nat_eq}
use Rattle.std.proofs.lemmas.Option.{slice_get_within}
use Rattle.std.proofs.Common.{◌≡◌, ℕ, zero, suc, ◌<◌, ◌≤◌, Bool, true, false, cond, List, [], ◌∷◌, ◌++◌, map, length, Some, refl, sym, ap, ◌∙◌, subst, inl, inr, arith}
use Rattle.std.proofs.lemmas.Bool.{eqb-true, cases_lt}
use Rattle.aw_list.specs.Members.{Member}
use Rattle.aw_list.proofs.Members.{never, member_split, member_left, member_right, member_got}
use Rattle.aw_list.proofs.Everyday.{get_within as get-within, length-slice_set as length-set, some-inj}
use Rattle.aw_term.specs.Rules.{Grammar, get, upto}
use Rattle.aw_term.specs.Trees.{Never}
use Rattle.aw_apply.specs.Messages.{Message}
use Rattle.aw_law_sites.specs.Worlds.{World, site_at}
use Rattle.aw_law_worlds.specs.Invariant.{IsSent, IsDelivered}
use Rattle.aw_law_worlds.proofs.Places.{get-set, get-set_other, member-get, same_or_not}
use Rattle.aw_law_nodes.specs.Couriers.{Heard, Gave, Courier, new_courier, for_role, without, turn_room, note}
use Rattle.aw_law_nodes.specs.Nodes.{Frame, Push, Pull}
use Rattle.aw_law_nodes.proofs.Mail.{Given}
use Rattle.aw_law_nodes.proofs.Served.{IsReached, reached-mail}
use Rattle.aw_law_nodes.proofs.ListParts.{cons-inj}
use Rattle.aw_law_nodes.proofs.Following.{Follows}

-- the waiting messages of a role
pub first-waits : (r : ℕ) (ws ms : List Message) (m : Message) → for_role r ws ≡ m ∷ ms → Member m ws × (m.to ≡ r)
first-waits r [] ms m e = absurd cc
first-waits r (w ∷ ws) ms m e = go (nat_eq w.to r) refl e (first-waits r ws ms m)
  where
    go : (b : Bool) → nat_eq w.to r ≡ b → cond b (w ∷ for_role r ws) (for_role r ws) ≡ m ∷ ms → (for_role r ws ≡ m ∷ ms → Member m ws × (m.to ≡ r)) → Member m (w ∷ ws) × (m.to ≡ r)
    go true d e f = let p = (cons-inj e).0 in (inl (sym p), ap (λ (m : Message). m.to) (sym p) ∙ eqb-true w.to r d)
    go false d e f = let z = f e in (inr z.0, z.1)

pub rest-waits : (r : ℕ) (ws ms : List Message) (m : Message) → for_role r ws ≡ m ∷ ms → for_role r (without r ws) ≡ ms
rest-waits r [] ms m e = absurd cc
rest-waits r (w ∷ ws) ms m e = go (nat_eq w.to r) refl e (rest-waits r ws ms m)
  where
    go : (b : Bool) → nat_eq w.to r ≡ b → cond b (w ∷ for_role r ws) (for_role r ws) ≡ m ∷ ms →
        (for_role r ws ≡ m ∷ ms → for_role r (without r ws) ≡ ms) → for_role r (cond b ws (w ∷ without r ws)) ≡ ms
    go true d e f = (cons-inj e).1
    go false d e f = ap (λ b. cond b (w ∷ for_role r (without r ws)) (for_role r (without r ws))) d ∙ f e

-- what is taken out is the first
others-wait : (r : ℕ) (ws ms : List Message) (m n : Message) → for_role r ws ≡ m ∷ ms → Member n ws → Member n (without r ws) ⊎ (n ≡ m)
others-wait r [] ms m n e i = never i
others-wait r (w ∷ ws) ms m n e i = go (nat_eq w.to r) e i (others-wait r ws ms m n)
  where
    go : (b : Bool) → cond b (w ∷ for_role r ws) (for_role r ws) ≡ m ∷ ms → Member n (w ∷ ws) →
        (for_role r ws ≡ m ∷ ms → Member n ws → Member n (without r ws) ⊎ (n ≡ m)) → Member n (cond b ws (w ∷ without r ws)) ⊎ (n ≡ m)
    go true e (inl p) f = inr (p ∙ (cons-inj e).0)
    go true e (inr i) f = inl i
    go false e (inl p) f = inl (inl p)
    go false e (inr i) f = elim (f e i) [ inl j ↦ inl (inr j) | inr p ↦ inr p ]

still-waits : (r : ℕ) (ws : List Message) (n : Message) → Member n (without r ws) → Member n ws
still-waits r [] n i = i
still-waits r (w ∷ ws) n i = go (nat_eq w.to r) i (still-waits r ws n)
  where
    go : (b : Bool) → Member n (cond b ws (w ∷ without r ws)) → (Member n (without r ws) → Member n ws) → Member n (w ∷ ws)
    go true i f = inr i
    go false (inl p) f = inl p
    go false (inr i) f = inr (f i)

-- a message was sent and is delivered
abbrev pub IsThere : World → Message → Type 0
IsThere w m = (k : ℕ) × IsSent w m k × IsDelivered w k

there-on : (w v : World) → Follows w v → (m : Message) → IsThere w m → IsThere v m
there-on w v F m (k, e, d) = (k, F.sent k m e, F.delivered k d)

first-empty : (i n r : ℕ) → get {A = ℕ} 0 (map (λ r. 0) (upto i n)) r ≡ 0
first-empty i zero r = refl
first-empty i (suc n) zero = refl
first-empty i (suc n) (suc r) = first-empty (suc i) n r

zeros-count : (i n : ℕ) → length {A = ℕ} (map (λ r. 0) (upto i n)) ≡ n
zeros-count i zero = refl
zeros-count i (suc n) = ap suc (zeros-count (suc i) n)

longer-box : (xs ys : List Message) → ((p : ℕ) (m : Message) → slice_get xs p ≡ Some m → slice_get ys p ≡ Some m) → length xs ≤ length ys
longer-box xs ys f = elim (cases_lt (length ys) (length xs)) [
  | inl l ↦ (let (m, e) = get-within xs (length ys) l in let z = slice_get_within ys (length ys) m (f (length ys) m e) in absurd (omega (arith, z)))
  | inr l ↦ l
]

module _ (g : Grammar) (size : Frame → ℕ) where
  -- what the courier knows of the world: what it pulled waits or is delivered
  pub record Knows (w : World) (c : Courier) : Type 0 where
    pub count : length c.places ≡ g.roles
    pub within : (r : ℕ) → r < g.roles → get 0 c.places r ≤ length (site_at w r).outbox
    pub pulled : (r p : ℕ) (m : Message) → r < g.roles → p < get 0 c.places r → slice_get (site_at w r).outbox p ≡ Some m → Member m c.waiting ⊎ IsThere w m
    pub waits : (m : Message) → Member m c.waiting → Member m w.messages × (m.to < g.roles) × (size (Push m) ≤ turn_room)

  pub knows-start : (w : World) → Knows w (new_courier g)
  knows-start w = record {
    count = zeros-count 0 g.roles;
    within = λ r l. let z = first-empty 0 g.roles r in omega (arith, z);
    pulled = λ r p m l k e. let z = first-empty 0 g.roles r in absurd (omega (arith, z, k));
    waits = λ m i. never i;
  }

  pub knows-on : (w v : World) → Follows w v → (c : Courier) → Knows w c → Knows v c
  knows-on w v F c K = record {
    count = K.count;
    within = λ r l. let z = K.within r l in let q = longer-box (site_at w r).outbox (site_at v r).outbox (F.boxes r) in omega (arith, z, q);
    pulled = λ r p m l k e.
        let z = K.within r l in
        let (n, d) = get-within (site_at w r).outbox p (omega (arith, z, k)) in
        let q : n ≡ m = some-inj (sym (F.boxes r p n d) ∙ e) in
        elim (K.pulled r p n l k d) [
          | inl i ↦ inl (subst (λ (m : Message). Member m c.waiting) q i)
          | inr t ↦ inr (subst (IsThere v) q (there-on w v F n t))
        ];
    waits = λ m i. let z = K.waits m i in let (k, e) = member-get w.messages m z.0 in (member_got v.messages k m (F.sent k m e), z.1, z.2);
  }

  pub knows-push : (w : World) (c : Courier) → Knows w c → (r : ℕ) (m : Message) (ms : List Message) (x : Heard) → for_role r c.waiting ≡ m ∷ ms → IsThere w m → Knows w (note r (Push m) x c)
  knows-push w c K r m ms x e t = record {
    count = K.count;
    within = K.within;
    pulled = λ a p n l k d. elim (K.pulled a p n l k d) [
      | inl i ↦ elim (others-wait r c.waiting ms m n e i) [ inl j ↦ inl j | inr q ↦ inr (subst (IsThere w) (sym q) t) ]
      | inr z ↦ inr z
    ];
    waits = λ n i. K.waits n (still-waits r c.waiting n i);
  }

  module _ (G : Given g) (loads : Bool) where
    pub knows-pull : (w : World) → IsReached g G loads w → (c : Courier) → Knows w c → (r p : ℕ) (m : Message) → r < g.roles → p ≡ get 0 c.places r →
        slice_get (site_at w r).outbox p ≡ Some m → m.to < g.roles → size (Push m) ≤ turn_room → Knows w (note r (Pull p) (Gave m) c)
    knows-pull w R c K r p m l e d t s =
        let n = K.count in
        let l' : r < length c.places = omega (arith, n, l) in
        record {
          count = length-set c.places r (suc p) ∙ K.count;
          within = λ a b. elim (same_or_not r a) [
            | inl q ↦ subst (λ a. get 0 (slice_set c.places r (suc p)) a ≤ length (site_at w a).outbox) q
                (let z = slice_get_within (site_at w r).outbox p m d in let y = get-set 0 c.places r (suc p) l' in omega (arith, z, y))
            | inr q ↦ (let y = get-set_other 0 c.places r a (suc p) q in let z = K.within a b in omega (arith, y, z))
          ];
          pulled = λ a q o b k f. elim (same_or_not r a) [
            | inr z ↦ (let y = get-set_other 0 c.places r a (suc p) z in old a q o b (omega (arith, y, k)) f)
            | inl z ↦ (let y = get-set 0 c.places r (suc p) l' in
                let k' : q < get 0 (slice_set c.places r (suc p)) r = subst (λ a. q < get 0 (slice_set c.places r (suc p)) a) (sym z) k in
                let f' : slice_get (site_at w r).outbox q ≡ Some o = subst (λ a. slice_get (site_at w a).outbox q ≡ Some o) (sym z) f in
                elim (same_or_not q p) [
                  | inl u ↦ (let v : o ≡ m = some-inj (sym f' ∙ (ap (slice_get (site_at w r).outbox) u ∙ d)) in inl (member_right o c.waiting (m ∷ []) (inl v)))
                  | inr u ↦ old r q o l (below q p (get 0 (slice_set c.places r (suc p)) r) (get 0 c.places r) y e k' u) f'
                ])
          ];
          waits = λ o i. elim (member_split o c.waiting (m ∷ []) i) [
            | inl j ↦ K.waits o j
            | inr j ↦ elim j [ inl q ↦ subst (λ (o : Message). Member o w.messages × (o.to < g.roles) × (size (Push o) ≤ turn_room)) (sym q) (sent-there, t, s) | inr z ↦ never z ]
          ];
        }
      where
        below : (q p a b : ℕ) → a ≡ suc p → p ≡ b → q < a → (q ≡ p → Never) → q < b
        below q p a b y e k u = elim (cases_lt q p) [ inl z ↦ omega arith | inr z ↦ never (u (omega arith)) ]

        old : (a q : ℕ) (o : Message) → a < g.roles → q < get 0 c.places a → slice_get (site_at w a).outbox q ≡ Some o → Member o (c.waiting ++ m ∷ []) ⊎ IsThere w o
        old a q o b k f = elim (K.pulled a q o b k f) [ inl i ↦ inl (member_left o c.waiting (m ∷ []) i) | inr z ↦ inr z ]

        sent-there : Member m w.messages
        sent-there = let M = reached-mail g G loads w R in (M.boxes r m (member_got (site_at w r).outbox p m d)).0
