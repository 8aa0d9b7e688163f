-- The messages of a world are at most its bound, and settling leaves none undelivered.
use Rattle.std.specs.Prelude.{filter, nat_eq, not, ◌⊎◌}
use Rattle.std.proofs.Common.{Bool, List, None, Option, Some, [], ap, arith, cond, inl, inr, length, length-append, map, refl, subst, suc, sym, true, zero, ℕ, ◌*◌, ◌++◌, ◌+◌, ◌<◌, ◌∙◌, ◌∷◌, ◌≡◌, ◌≤◌}
use Rattle.std.proofs.lemmas.Bool.{and_from, cases_lt}
use Rattle.aw_list.specs.Members.{Member}
use Rattle.aw_list.proofs.Members.{member_left, member_map, member_right, member_unmap, never}
use Rattle.aw_term.specs.Artifacts.{Words}
use Rattle.aw_term.specs.Names.{Node, Part, Ref, Result, Slot, below, result}
use Rattle.aw_term.specs.Rules.{Grammar, upto}
use Rattle.aw_term.specs.Trees.{Never}
use Rattle.aw_term.specs.Held.{Held}
use Rattle.aw_accept.specs.Acyclic.{gives}
use Rattle.aw_accept.proofs.ConfigLemmas.{Member-upto, length-upto}
use Rattle.aw_accept.proofs.Pigeonholes.{pigeon}
use Rattle.aw_store.specs.Equations.{Equation, Map}
use Rattle.aw_apply.specs.Messages.{Asks, Calls, Kind, Message, Tells}
use Rattle.aw_law_sites.specs.Joint.{Joint, called_held}
use Rattle.aw_law_sites.specs.Laws.{IsAccepted}
use Rattle.aw_law_sites.proofs.Lists.{each_of}
use Rattle.aw_law_sites.specs.Bounds.{bound, child_results, created, is_called, part_lefts, part_on}
use Rattle.aw_law_sites.specs.Homes.{has_steps, home, parent}
use Rattle.aw_law_sites.specs.Worlds.{IsQuiet, World, deliver, settle, site_at, undelivered, count_set}
use Rattle.aw_law_worlds.specs.Mentioned.{IsCreated, IsPartSlot}
use Rattle.aw_law_worlds.proofs.Counting.{count_all}
use Rattle.aw_law_worlds.proofs.Delivering.{has-end, not-eq, parent-below}
use Rattle.aw_law_worlds.proofs.Lists.{Later-mapped, Member-filter, length-mapped}
use Rattle.aw_law_worlds.proofs.Parts.{Apart, KindKin, Sound}
use Rattle.aw_law_worlds.proofs.Runs.{IsWorld, deliver-kept}
use Rattle.aw_law_worlds.proofs.Settling.{deliver_counts}

-- what tells messages apart
data Key : Type 0 where
  CallKey : (to : ℕ) → (node : Node) → Key
  AskKey : (to : ℕ) → (reference : Ref) → (from : ℕ) → Key
  TellKey : (to : ℕ) → (reference : Ref) → Key

abbrev key_on : ℕ → Kind → Key
key_on to (Calls c load) = CallKey to c.node
key_on to (Asks r b) = AskKey to r b
key_on to (Tells e load) = TellKey to e.left

abbrev key : Message → Key
key m = key_on m.to m.kind

call_inj : {a b : ℕ} {n m : Node} → CallKey a n ≡ CallKey b m → (a ≡ b) × (n ≡ m)
call_inj e = (cc, cc)

ask_inj : {a b c d : ℕ} {r s : Ref} → AskKey a r c ≡ AskKey b s d → (a ≡ b) × ((r ≡ s) × (c ≡ d))
ask_inj e = (cc, (cc, cc))

tell_inj : {a b : ℕ} {r s : Ref} → TellKey a r ≡ TellKey b s → (a ≡ b) × (r ≡ s)
tell_inj e = (cc, cc)

key-kin : (a b : ℕ) (k l : Kind) → key_on a k ≡ key_on b l → (a ≡ b) × KindKin k l
key-kin a b (Calls c u) (Calls d v) e = call_inj e
key-kin a b (Asks r i) (Asks s j) e = ask_inj e
key-kin a b (Tells f u) (Tells h v) e = tell_inj e
key-kin a b (Calls c u) (Asks s j) e = absurd cc
key-kin a b (Calls c u) (Tells h v) e = absurd cc
key-kin a b (Asks r i) (Calls d v) e = absurd cc
key-kin a b (Asks r i) (Tells h v) e = absurd cc
key-kin a b (Tells f u) (Calls d v) e = absurd cc
key-kin a b (Tells f u) (Asks s j) e = absurd cc

each_role : (Ref → ℕ → Key) → List Ref → ℕ → List Key
each_role f [] n = []
each_role f (r ∷ rs) n = map (f r) (upto 0 n) ++ each_role f rs n

each_role-length : (f : Ref → ℕ → Key) (rs : List Ref) (n : ℕ) → length (each_role f rs n) ≡ length rs * n
unfolding each_role
each_role-length f [] n = zero_times n
  where
    zero_times : (n : ℕ) → 0 ≡ 0 * n
    zero_times n = grind arith
each_role-length f (r ∷ rs) n =
    length-append (map (f r) (upto 0 n)) (each_role f rs n) ∙ ((λ i. (length-mapped (f r) (upto 0 n) ∙ length-upto 0 n) i + each_role-length f rs n i) ∙ suc_times (length rs) n)
  where
    suc_times : (a n : ℕ) → n + a * n ≡ suc a * n
    suc_times a n = grind arith

each_role-member : (f : Ref → ℕ → Key) (rs : List Ref) (n : ℕ) (r : Ref) (b : ℕ) → Member r rs → b < n → Member (f r b) (each_role f rs n)
unfolding each_role
each_role-member f [] n r b m l = never m
each_role-member f (s ∷ rs) n r b (inl p) l = subst (λ r. Member (f r b) (map (f s) (upto 0 n) ++ each_role f rs n)) (sym p)
    (member_left (f s b) (map (f s) (upto 0 n)) (each_role f rs n) (member_map (f s) b (upto 0 n) (Member-upto 0 n b (omega arith) (omega (arith, l)))))
each_role-member f (s ∷ rs) n r b (inr m) l = member_right (f r b) (map (f s) (upto 0 n)) (each_role f rs n) (each_role-member f rs n r b m l)

part-cases : (s : Slot) (q r : Ref) (rs : List Ref) → (r ≡ q) ⊎ Member r rs → (r ≡ q → IsPartSlot s) → Member r (part_on s q rs)
part-cases (Part k) q r rs m f = m
part-cases (Result j) q r rs (inl e) f = never (f e)
part-cases (Result j) q r rs (inr m) f = m

part-there : (k : Map) (e : Equation) → Member e k → IsPartSlot e.left.slot → Member e.left (part_lefts k)
part-there [] e m s = never m
part-there (q ∷ k) e (inl p) s = part-cases q.left.slot q.left e.left (part_lefts k) (inl (ap (λ (e : Equation). e.left) p)) (λ z. subst (λ (r : Ref). IsPartSlot r.slot) z s)
part-there (q ∷ k) e (inr m) s = part-cases q.left.slot q.left e.left (part_lefts k) (inr (part-there k e m s)) (λ z. subst (λ (r : Ref). IsPartSlot r.slot) z s)

result-there : (g : Grammar) (hs : List Held) (h : Held) (j : ℕ) → Member h hs → has_steps h.node.steps ≡ true → 0 < j → j ≤ gives g h.sort → Member (result h.node j) (child_results g hs)
result-there g [] h j m s lo l = never m
result-there g (q ∷ hs) h j (inl p) s lo l =
    subst (λ (q : Held). Member (result h.node j) (cond (has_steps q.node.steps) (map (result q.node) (upto 1 (gives g q.sort))) [] ++ child_results g hs)) p
    (member_left (result h.node j) (cond (has_steps h.node.steps) (map (result h.node) (upto 1 (gives g h.sort))) []) (child_results g hs)
    (subst (λ b. Member (result h.node j) (cond b (map (result h.node) (upto 1 (gives g h.sort))) [])) (sym s)
    (member_map (result h.node) j (upto 1 (gives g h.sort)) (Member-upto 1 (gives g h.sort) j lo (omega (arith, l))))))
result-there g (q ∷ hs) h j (inr m) s lo l = member_right (result h.node j)
    (cond (has_steps q.node.steps) (map (result q.node) (upto 1 (gives g q.sort))) []) (child_results g hs) (result-there g hs h j m s lo l)

pub created-there : (g : Grammar) (x : Joint) (r : Ref) → IsCreated g x r → Member r (created g x)
created-there g x r (inl (e, m, p, s)) = member_left r (part_lefts x.equations) (child_results g x.held)
    (subst (λ r. Member r (part_lefts x.equations)) p (part-there x.equations e m (subst (λ (r : Ref). IsPartSlot r.slot) (sym p) s)))
created-there g x r (inr (h, j, m, s, lo, l, p)) = member_right r (part_lefts x.equations) (child_results g x.held)
    (subst (λ r. Member r (child_results g x.held)) (sym p) (result-there g x.held h j m s lo l))

no_more : (n m : ℕ) → (m < n → Never) → n ≤ m
no_more n m f = elim (cases_lt m n) [ inl a ↦ never (f a) | inr a ↦ a ]

module _ (words : Words) (g : Grammar) (accepted : IsAccepted words g) (loads : Bool) where
  abbrev Good : World → Joint → Type 0
  Good w x = IsWorld words g accepted loads w x

  abbrev possible : Joint → List Key
  possible x = map (λ (h : Held). CallKey (home g h.node) h.node) (filter (is_called g) x.held) ++ (each_role (λ r b. AskKey (home g r.node) r b)
      (created g x) g.roles ++ each_role (λ r b. TellKey b r) (created g x) g.roles)

  possible-length : (x : Joint) → length (possible x) ≡ bound g x
  possible-length x =
      let a = length-append (map (λ (h : Held). CallKey (home g h.node) h.node) (filter (is_called g) x.held))
      (each_role (λ r b. AskKey (home g r.node) r b) (created g x) g.roles ++ each_role (λ r b. TellKey b r) (created g x) g.roles) in
      let b = length-append (each_role (λ r b. AskKey (home g r.node) r b) (created g x) g.roles) (each_role (λ r b. TellKey b r) (created g x) g.roles) in
      let c = length-mapped (λ (h : Held). CallKey (home g h.node) h.node) (filter (is_called g) x.held) in
      let d = each_role-length (λ r b. AskKey (home g r.node) r b) (created g x) g.roles in
      let e = each_role-length (λ r b. TellKey b r) (created g x) g.roles in
      sum_up (length (filter (is_called g) x.held)) (length (created g x) * g.roles) _ _ _ _ _ a b c d e
    where
      sum_up : (p t all rest u v w : ℕ) → all ≡ u + rest → rest ≡ v + w → u ≡ p → v ≡ t → w ≡ t → all ≡ p + 2 * t
      sum_up p t all rest u v w a b c d e = omega (arith, a, b, c, d, e)

  called-is : (h : Held) (p : Node) (r k to : ℕ) → h.node ≡ below p r k → to ≡ home g h.node → (home g p ≡ to → Never) → is_called g h ≡ true
  called-is h p r k to e t n =
      and_from (has_steps h.node.steps) (not (nat_eq (home g (parent h.node)) (home g h.node)))
      (subst (λ nd. has_steps nd.steps ≡ true) (sym e) (has-end p.steps (record { rule = r; child = k })))
      (not-eq (home g (parent h.node)) (home g h.node) (λ q. n (ap (home g) (sym (parent-below p r k)) ∙ (ap (λ nd. home g (parent nd)) (sym e) ∙ (q ∙ sym t)))))

  module _ (w : World) (x : Joint) (W : Good w x) where
    asked-created : (a : ℕ) (r : Ref) → ((site_at w a).asked r ≡ true) → Member r (created g x)
    asked-created a r m = created-there g x r (W.valid.1 r (W.inv.asked a r m).1)

    key-possible : (to : ℕ) (k : Kind) → Sound g (site_at w) x to k → Member (key_on to k) (possible x)
    key-possible to (Calls c load) (t, (p, r, i, e, n), z, cs) =
        let known : (h : Held) × Member h x.held × (h.node ≡ c.node) = elim z [ inl m ↦ (called_held c, m, refl) | inr u ↦ (u.0, (W.inv.held to u.0 u.1).0, u.2) ] in
        let q = member_map (λ (h : Held). CallKey (home g h.node) h.node) known.0 (filter (is_called g) x.held)
        (Member-filter (is_called g) known.0 x.held known.1 (called-is known.0 p r i to (known.2 ∙ e) (t ∙ ap (home g) (sym known.2)) n)) in
        member_left (CallKey to c.node) (map (λ (h : Held). CallKey (home g h.node) h.node) (filter (is_called g) x.held)) _
        (subst (λ k. Member k (map (λ (h : Held). CallKey (home g h.node) h.node) (filter (is_called g) x.held))) (λ i. CallKey ((ap (home g) known.2 ∙ sym t) i) (known.2 i)) q)
    key-possible to (Asks r b) (t, n, m) =
        member_right (AskKey to r b) (map (λ (h : Held). CallKey (home g h.node) h.node) (filter (is_called g) x.held)) _
        (member_left (AskKey to r b) (each_role (λ r b. AskKey (home g r.node) r b) (created g x) g.roles) (each_role (λ r b. TellKey b r) (created g x) g.roles)
        (subst (λ to. Member (AskKey to r b) (each_role (λ r b. AskKey (home g r.node) r b) (created g x) g.roles)) (sym t)
        (each_role-member (λ r b. AskKey (home g r.node) r b) (created g x) g.roles r b (asked-created b r m) (W.inv.range b r m))))
    key-possible to (Tells e load) (v, cs) =
        let m = (W.inv.watched (home g e.left.node) e.left to v).1 in
        member_right (TellKey to e.left) (map (λ (h : Held). CallKey (home g h.node) h.node) (filter (is_called g) x.held)) _
        (member_right (TellKey to e.left) (each_role (λ r b. AskKey (home g r.node) r b) (created g x) g.roles) (each_role (λ r b. TellKey b r) (created g x) g.roles)
        (each_role-member (λ r b. TellKey b r) (created g x) g.roles e.left to (asked-created to e.left m) (W.inv.range to e.left m)))

    -- Bound
    pub bounded : length w.messages ≤ bound g x
    bounded =
        let l = length-mapped key w.messages in
        let p = possible-length x in
        let z = no_more (length (map key w.messages)) (length (possible x)) (λ lt.
        (pigeon (λ a b. a ≡ b → Never) (possible x) (map key w.messages)
        (each_of (λ k. Member k (possible x)) (map key w.messages) (λ k i. let (m, j, e) = member_unmap key k w.messages i in
        subst (λ k. Member k (possible x)) (sym e) (key-possible m.to m.kind (W.inv.sound m j))))
        (Later-mapped Apart (λ a b. a ≡ b → Never) key (λ m n f e. f (key-kin m.to n.to m.kind n.kind e)) w.messages W.inv.apart) lt).1 refl) in
        omega (arith, l, p, z)

  -- Settle leaves nothing undelivered
  settle_on : (n : ℕ) (w : World) (x : Joint) → Good w x → bound g x ≤ suc n + count_set w.delivered → ((v : World) → Good v x → bound g x ≤ n + count_set v.delivered → IsQuiet (settle n g v))
      → (o : Option ℕ) → undelivered w ≡ o → IsQuiet (elim o [ None ↦ w | Some k ↦ settle n g (deliver g w k).world ])
  settle_on n w x W l ih None e = e
  settle_on n w x W l ih (Some k) e =
      let c = deliver_counts g w k e W.marks in
      ih (deliver g w k).world (deliver-kept words g accepted loads w x W k) (omega (arith, c, l))

  pub settles_quiet : (n : ℕ) (w : World) (x : Joint) → Good w x → bound g x ≤ n + count_set w.delivered → IsQuiet (settle n g w)
  settles_quiet zero w x W l = count_all w.delivered 0 (let b = bounded w x W in omega (arith, b, l, W.marks))
  settles_quiet (suc n) w x W l = settle_on n w x W l (λ v V m. settles_quiet n v x V m) (undelivered w) refl

  pub settled : (w : World) (x : Joint) → Good w x → IsQuiet (settle (bound g x) g w)
  settled w x W = settles_quiet (bound g x) w x W (omega arith)
