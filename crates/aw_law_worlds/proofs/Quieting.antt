-- A quiet world holds the undivided configuration, and no guard meets a circle.
use Rattle.std.specs.Prelude.{is_some, nat_eq, slice_get, ◌&&◌, ◌⊎◌}
use Rattle.std.proofs.Common.{Bool, List, None, Option, Some, [], ap, arith, cond, false, inl, inr, length, refl, subst, suc, sym, true, zero, ℕ, ◌<◌, ◌∙◌, ◌∷◌, ◌≡◌}
use Rattle.std.proofs.lemmas.Option.{same_Some, slice_get_within}
use Rattle.aw_list.specs.Members.{Member}
use Rattle.aw_list.proofs.Members.{never}
use Rattle.aw_term.specs.Artifacts.{Words}
use Rattle.aw_term.specs.Choices.{undivided}
use Rattle.aw_term.specs.Configs.{Config, Row}
use Rattle.aw_term.specs.Matching.{Circle, Differs, Matched, Waits, Yes, and_then, under}
use Rattle.aw_term.specs.Names.{Ref, node_lt}
use Rattle.aw_term.specs.Rules.{Grammar, Term, get}
use Rattle.aw_term.specs.Trees.{Head, Leaf, Made, More, Never, Nil, Tree, Trees, count, head_eq}
use Rattle.aw_term.specs.WellFormed.{Later}
use Rattle.aw_term.specs.Held.{Held}
use Rattle.aw_iograph.specs.Dependence.{HasNoCircle, IO}
use Rattle.aw_accept.specs.Acyclic.{IsGivenGrammar, Pairs}
use Rattle.aw_accept.proofs.Fitting.{each_member, given_of}
use Rattle.aw_store.specs.Chase.{Found, chase}
use Rattle.aw_store.proofs.Ends.{At_body, At_missing, End, Ends, as_chased, follows, lacks, stands}
use Rattle.aw_store.specs.Equations.{Body, Map, Same, find, mentions}
use Rattle.aw_store.specs.Unfold.{UnfoldAll, Unfolds, is, missing, none, one, same}
use Rattle.aw_store.proofs.ChaseEnds.{ends-chase, found-more}
use Rattle.aw_apply.specs.Guard.{guard, guard_all, guard_end, guard_parts}
use Rattle.aw_apply.specs.Messages.{Message}
use Rattle.aw_law_sites.specs.Joint.{Joint, empty_joint, joint_run}
use Rattle.aw_law_sites.specs.Laws.{Agree, AgreeWhereTaken, AllUnfold, IsAccepted}
use Rattle.aw_law_sites.proofs.Entering.{VariablesEnter, variables_enter}
use Rattle.aw_law_sites.proofs.Guarding.{EndOf, end_of}
use Rattle.aw_law_sites.proofs.Lists.{each_of}
use Rattle.aw_law_sites.proofs.Lockstep.{flat_is_substitution}
use Rattle.aw_law_sites.proofs.Ordering.{Before, IsInOrder}
use Rattle.aw_law_sites.proofs.SameConfigs.{fit_of, row_for}
use Rattle.aw_law_sites.specs.Homes.{home}
use Rattle.aw_law_sites.specs.Sites.{Site}
use Rattle.aw_law_sites.specs.Worlds.{IsQuiet, World, first_false, gather, site_at}
use Rattle.aw_law_worlds.specs.Mentioned.{IsMentioned}
use Rattle.aw_law_worlds.proofs.HeldOrdering.{gather-member, gather-ordered, gather-there, same_held}
use Rattle.aw_law_worlds.proofs.Learning.{find-member}
use Rattle.aw_law_worlds.proofs.Parts.{Effect, HeldBefore}
use Rattle.aw_law_worlds.proofs.Runs.{IsWorld, homes}
use Rattle.aw_law_worlds.proofs.Places.{member-get}

-- at quiet: what is mentioned here has its equation here, if there is one at all
module _ (e k : Map) (Mention : Ref → Type 0)
    (here_ : (r : Ref) (b : Body) → Mention r → find e r ≡ Some b → find k r ≡ Some b)
    (gone : (r : Ref) → find e r ≡ None → find k r ≡ None)
    (on_ : (r s : Ref) (b : Body) → Mention r → find e r ≡ Some b → Member s (mentions b) → Mention s) where
  mutual
    pub own_value : {r : Ref} {t : Tree Ref} → Unfolds e r t → Mention r → Unfolds k r t
    own_value (missing f) m = missing (gone _ f)
    own_value (same f d) m = same (here_ _ _ m f) (own_value d (on_ _ _ _ m f (inl refl)))
    own_value (is f d) m = is (here_ _ _ m f) (own_values d (λ s i. on_ _ s _ m f i))

    pub own_values : {rs : List Ref} {ts : Trees Ref} → UnfoldAll e rs ts → ((s : Ref) → Member s rs → Mention s) → UnfoldAll k rs ts
    own_values none m = none
    own_values (one d ds) m = one (own_value d (m _ (inl refl))) (own_values ds (λ s i. m s (inr i)))

  pub own_list : (rs : List Ref) (ts : List (Tree Ref)) → AllUnfold e rs ts → ((s : Ref) → Member s rs → Mention s) → AllUnfold k rs ts
  own_list [] [] a m = tt
  own_list [] (t ∷ ts) a m = never a
  own_list (r ∷ rs) [] a m = never a
  own_list (r ∷ rs) (t ∷ ts) a m = (own_value a.0 (m r (inl refl)), own_list rs ts a.1 (λ s i. m s (inr i)))

pub all-true : (ds : List Bool) (i k : ℕ) → first_false i ds ≡ None → k < length ds → slice_get ds k ≡ Some true
all-true [] i k e l = absurd (omega arith)
all-true (true ∷ ds) i zero e l = refl
all-true (true ∷ ds) i (suc k) e l = all-true ds (suc i) k e (omega arith)
all-true (false ∷ ds) i k e l = absurd cc

module _ (words : Words) (g : Grammar) (accepted : IsAccepted words g) (loads : Bool)
    (w : World) (x : Joint) (W : IsWorld words g accepted loads w x) where
  abbrev fit : IsGivenGrammar g
  fit = given_of words g accepted.0

  abbrev enter : VariablesEnter g
  enter = variables_enter words g accepted.0

  abbrev ok : HasNoCircle g (IO g)
  ok = accepted.1

  abbrev AllAgree : Map → List Held → Config → Type 0
  AllAgree k hs c = Pairs (λ h q. Agree k h q) hs c

  abbrev S : ℕ → Site
  S = site_at w

  -- Knowledge: a site's equations are known, and a home has its own
  pub knows : (a : ℕ) (r : Ref) (b : Body) → find (S a).equations r ≡ Some b → find x.equations r ≡ Some b
  knows a r b f = W.keyed (record { left = r; body = b }) (W.inv.parts a (record { left = r; body = b }) (find-member (S a).equations r b f))

  unknown : (a : ℕ) (r : Ref) → find x.equations r ≡ None → find (S a).equations r ≡ None
  unknown a r e = go (find (S a).equations r) refl
    where
      go : (o : Option Body) → find (S a).equations r ≡ o → find (S a).equations r ≡ None
      go None f = f
      go (Some b) f = let z = knows a r b f in absurd cc

  module _ (quiet : IsQuiet w) where
    done : (m : Message) → Member m w.messages → Effect (S m.to) m.kind
    done m i =
        let (k, e) = member-get w.messages m i in
        let l : k < length w.delivered = (let z = slice_get_within w.messages k m e in omega (arith, z, W.marks)) in
        (W.inv.effect k m e).0 (all-true w.delivered 0 k quiet l)

    -- every node is held at its home
    pub at_home : (h : Held) → Member h x.held → Member h (S (home g h.node)).held
    at_home h i = elim (W.inv.called h i) [
      | inl j ↦ j
      | inr c ↦ (let z = done _ c.1 in
          let h' = z.0.0 in
          let j = z.0.1 in
          let p = (fit_of g fit enter ok x W.fit_).apart z.0.0 h (W.inv.held (home g h.node) z.0.0 z.0.1).0 i z.0.2 in
          subst (λ (u : Held). Member u (S (home g h.node)).held) p z.0.1)
    ]

    abbrev Known : ℕ → Ref → Type 0
    Known a r = (home g r.node ≡ a) ⊎ IsMentioned r (S a).equations (S a).held

    pub has_it : (a : ℕ) (r : Ref) (b : Body) → Known a r → find x.equations r ≡ Some b → find (S a).equations r ≡ Some b
    has_it a r b (inl h) f = subst (λ a. find (S a).equations r ≡ Some b) h (W.inv.homes r b f)
    has_it a r b (inr m) f =
        elim (W.inv.settled a r m) [
          | inl h ↦ subst (λ a. find (S a).equations r ≡ Some b) (h ∙ W.inv.roles a) (W.inv.homes r b f)
          | inr z ↦ elim z [
            | inl i ↦ (let v = done _ (W.inv.asked a r i).0 in
                let (l, j) = W.inv.tells (home g r.node) r a b v (W.inv.homes r b f) in
                (done _ j).0)
            | inr i ↦ (let p = knows a r i.0 i.1 in i.1 ∙ (sym p ∙ f))
          ]
        ]

    goes_on : (a : ℕ) (r s : Ref) (b : Body) → Known a r → find x.equations r ≡ Some b → Member s (mentions b) → Known a s
    goes_on a r s b m f i = inr (inl (record { left = r; body = b }, find-member (S a).equations r b (has_it a r b m f), i))

    -- its values over its own site's equations are those of the row
    pub agrees : (h : Held) (q : Row) → Member h x.held → Agree x.equations h q → Agree (S (home g h.node)).equations h q
    agrees h q i A = record {
      node = A.node;
      sort = A.sort;
      state = A.state;
      inherited = own_list x.equations (S (home g h.node)).equations (Known (home g h.node)) (has_it (home g h.node)) (unknown (home g h.node))
          (goes_on (home g h.node)) h.inherited q.inherited A.inherited
          (λ s j. inr (inr (h, at_home h i, j)));
      results = λ j t e. own_value x.equations (S (home g h.node)).equations (Known (home g h.node)) (has_it (home g h.node))
          (unknown (home g h.node)) (goes_on (home g h.node)) (A.results j t e) (inl refl);
    }

  abbrev IsUndivided : Option Config → Type 0
  IsUndivided o = (c : Config) × (o ≡ Some c) × AllAgree x.equations x.held c

  undivided_on : (o : Option Joint) (o' : Option Config) → o ≡ Some x → AgreeWhereTaken o o' → IsUndivided o'
  undivided_on None None e l = absurd cc
  undivided_on (Some v) (Some c) e l = (c, refl, subst (λ (v : Joint). AllAgree v.equations v.held c) (same_Some _ _ e) l)
  undivided_on None (Some c) e l = never l
  undivided_on (Some v) None e l = never l

  -- the undivided configuration of what was taken is defined, at every moment
  pub is_undivided : IsUndivided (undivided g [] w.taken)
  is_undivided = undivided_on (joint_run g empty_joint w.taken) (undivided g [] w.taken) W.whole (flat_is_substitution g fit enter ok w.taken)

  pairs_ordered : (k : Map) (hs : List Held) (c : Config) → Pairs (λ h q. Agree k h q) hs c → IsInOrder c → Later HeldBefore hs
  pairs_ordered k [] c p o = tt
  pairs_ordered k (h ∷ hs) [] p o = never p
  pairs_ordered k (h ∷ hs) (q ∷ c) p o = (
    each_of (HeldBefore h) hs (λ u m. let (z, mz, az) = row_for g fit enter ok k hs c p.1 u m in
        subst (λ n. node_lt n u.node ≡ true) (sym p.0.node) (subst (λ n. node_lt q.node n ≡ true) (sym az.node) (each_member (Before q) c z o.0 mz))),
    pairs_ordered k hs c p.1 o.1,
  )

  get-at : (d : Site) (ss : List Site) (a : ℕ) (s : Site) → slice_get ss a ≡ Some s → get d ss a ≡ s
  get-at d [] a s e = absurd cc
  get-at d (t ∷ ss) zero s e = same_Some _ _ e
  get-at d (t ∷ ss) (suc a) s e = get-at d ss a s e

  get-in : (d : Site) (ss : List Site) (a : ℕ) → a < length ss → Member (get d ss a) ss
  get-in d [] a l = absurd (omega arith)
  get-in d (t ∷ ss) zero l = inl refl
  get-in d (t ∷ ss) (suc a) l = inr (get-in d ss a (omega arith))

  later_of : (R : Site → Site → Type 0) (ss : List Site) → ((j k : ℕ) (s t : Site) → slice_get ss j ≡ Some s → slice_get ss k ≡ Some t → (j ≡ k → Never) → R s t) → Later R ss
  later_of R [] f = tt
  later_of R (s ∷ ss) f = (
    each_of (R s) ss (λ t m. let (k, e) = member-get ss t m in f 0 (suc k) s t refl e (λ z. absurd (omega (arith, z)))),
    later_of R ss (λ j k s t e h n. f (suc j) (suc k) s t e h (λ z. n (suc-inj j k z))),
  )
    where
      suc-inj : (j k : ℕ) → suc j ≡ suc k → j ≡ k
      suc-inj j k e = omega (arith, e)

  site-is : (a : ℕ) (s : Site) → slice_get w.sites a ≡ Some s → site_at w a ≡ s
  site-is a s e = get-at _ w.sites a s e

  held-at : (a : ℕ) (s : Site) → slice_get w.sites a ≡ Some s → (h : Held) → Member h s.held → Member h x.held × (home g h.node ≡ a)
  held-at a s e h m = W.inv.held a h (subst (λ (s : Site). Member h s.held) (sym (site-is a s e)) m)

  pairs_on : (P Q : Held → Row → Type 0) (hs : List Held) (c : Config) → ((h : Held) (q : Row) → Member h hs → P h q → Q h q) → Pairs P hs c → Pairs Q hs c
  pairs_on P Q [] [] f p = tt
  pairs_on P Q [] (q ∷ c) f p = never p
  pairs_on P Q (h ∷ hs) [] f p = never p
  pairs_on P Q (h ∷ hs) (q ∷ c) f p = (f h q (inl refl) p.0, pairs_on P Q hs c (λ u v m. f u v (inr m)) p.1)

  -- at quiet all sites together hold the nodes of the whole, in order
  pub gathered : IsQuiet w → gather w.sites ≡ x.held
  gathered quiet =
      same_held (gather w.sites) x.held
      (gather-ordered w.sites
      (λ s m. let (a, e) = member-get w.sites s m in subst (λ (s : Site). Later HeldBefore s.held) (site-is a s e) (W.inv.ordered a))
      (later_of (λ (s t : Site). (h k : Held) → Member h s.held → Member k t.held → h.node ≡ k.node → Never) w.sites
      (λ i j s t e f n h k mh mk p. n (sym (held-at i s e h mh).1 ∙ (ap (home g) p ∙ (held-at j t f k mk).1)))))
      (pairs_ordered x.equations x.held W.fit_.config W.fit_.joint.pairs W.fit_.in_order)
      (λ h m. let (s, i, j) = gather-member w.sites h m in let (a, e) = member-get w.sites s i in (held-at a s e h j).0)
      (λ h m. gather-there w.sites (S (home g h.node)) h (get-in _ w.sites (home g h.node) (let l = (homes words g accepted loads).within h.node
      (ap is_some (W.valid.0.sorts h m)) in omega (arith, l, W.size))) (at_home quiet h m))

  pub quiet_pairs : IsQuiet w → (c : Config) → AllAgree x.equations x.held c → Pairs (λ h q. Agree (S (home g h.node)).equations h q) (gather w.sites)
      c × ((h : Held) → Member h (gather w.sites) → Member h (S (home g h.node)).held)
  quiet_pairs quiet c A = (
    subst (λ hs. Pairs (λ h q. Agree (S (home g h.node)).equations h q) hs c) (sym (gathered quiet))
        (pairs_on (λ h q. Agree x.equations h q) (λ h q. Agree (S (home g h.node)).equations h q) x.held c (λ h q m a. agrees quiet h q m a) A),
    λ h m. at_home quiet h (subst (Member h) (gathered quiet) m),
  )

  -- no chase of a known value comes to a circle
  module _ (a : ℕ) where
    abbrev K : Map
    K = (S a).equations

    back_same : (r s : Ref) (b : Body) → find x.equations r ≡ Some (Same s) → find K r ≡ Some b → find K r ≡ Some (Same s)
    back_same r s b e f = f ∙ (sym (knows a r b f) ∙ e)

    chase_end : {r : Ref} {t : Tree Ref} → Unfolds x.equations r t → (z : End) × (n : ℕ) × Ends K z n r
    chase_end (missing {r = r} f) = (At_missing r, 0, lacks (unknown a r f) refl)
    chase_end (same {r = r} {s = s} f d) = pick (find K r) refl (chase_end d)
      where
        pick : (o : Option Body) → find K r ≡ o → ((z : End) × (n : ℕ) × Ends K z n s) → (z : End) × (n : ℕ) × Ends K z n r
        pick None e y = (At_missing r, 0, lacks e refl)
        pick (Some b) e y = (y.0, suc y.1, follows (back_same r s b f e) y.2)
    chase_end (is {r = r} {h = h} {rs = rs} f d) = pick (find K r) refl
      where
        pick : (o : Option Body) → find K r ≡ o → (z : End) × (n : ℕ) × Ends K z n r
        pick None e = (At_missing r, 0, lacks e refl)
        pick (Some b) e = (At_body h rs, 0, stands (e ∙ (sym (knows a r b e) ∙ f)) refl)

    found_parts : (r : Ref) (t : Tree Ref) (h : Head) (rs : List Ref) → EndOf x.equations r t → chase x.equations r ≡ Found h rs → (ts : Trees Ref) × UnfoldAll x.equations rs ts
    found_parts r (Leaf s) h rs (n, d) e = let z = ends-chase x.equations (At_missing s) d in absurd cc
    found_parts r (Made h' ts) h rs (rs', n, d, u) e =
        let z = sym (ends-chase x.equations (At_body h' rs') d) ∙ e in
        let p : rs' ≡ rs = found_inj z in
        (ts, subst (λ rs. UnfoldAll x.equations rs ts) p u)
      where
        found_inj : {h h' : Head} {rs rs' : List Ref} → Found h rs ≡ Found h' rs' → rs ≡ rs'
        found_inj e = cc

    and-circle : (m m' : Matched Ref Ref) (u : Ref) → and_then m m' ≡ Circle u → (m ≡ Circle u) ⊎ (m' ≡ Circle u)
    and-circle (Yes xs) (Yes ys) u e = absurd cc
    and-circle (Yes xs) (Waits y) u e = absurd cc
    and-circle (Yes xs) (Differs y) u e = absurd cc
    and-circle (Yes xs) (Circle y) u e = inr e
    and-circle (Waits y) m u e = absurd cc
    and-circle (Differs y) m u e = absurd cc
    and-circle (Circle y) m u e = inl e

    under-circle : (i : ℕ) (m : Matched Ref Ref) (u : Ref) → under i m ≡ Circle u → m ≡ Circle u
    under-circle i (Yes xs) u e = absurd cc
    under-circle i (Waits xs) u e = absurd cc
    under-circle i (Differs xs) u e = absurd cc
    under-circle i (Circle xs) u e = e

    cond-circle : (b : Bool) (m : Matched Ref Ref) (u : Ref) → cond b m (Differs []) ≡ Circle u → m ≡ Circle u
    cond-circle true m u e = e
    cond-circle false m u e = absurd cc

    end_circle : (z : End) (r : Ref) (h : Head) (ps : Trees ℕ) (u : Ref) → ((h' : Head) (rs : List Ref) → z ≡ At_body h' rs →
        guard_parts K 1 ps rs ≡ Circle u → Never) → guard_end (as_chased z) (guard_parts K 1 ps) h (count ps) r ≡ Circle u → Never
    end_circle (At_missing s) r h ps u f e = absurd cc
    end_circle (At_body h' rs) r h ps u f e = f h' rs refl (cond-circle (head_eq h h' && nat_eq (count ps) (length rs)) (guard_parts K 1 ps rs) u e)

    body_at : {z : End} {n : ℕ} {r : Ref} (h : Head) (rs : List Ref) → Ends K z n r → z ≡ At_body h rs → chase K r ≡ Found h rs
    body_at {z} {n} {r} h rs d e = ends-chase K z d ∙ ap as_chased e

    mutual
      no_circle : (p : Term) (r : Ref) (t : Tree Ref) → Unfolds x.equations r t → (u : Ref) → guard K p r ≡ Circle u → Never
      no_circle (Leaf v) r t d u e = absurd cc
      no_circle (Made h ps) r t d u e =
          let y = chase_end d in
          end_circle y.0 r h ps u
          (λ h' rs q f.
          let c = found-more K x.equations (knows a) r h' rs (body_at h' rs y.2 q) in
          let (ts, us) = found_parts r t h' rs (end_of x.equations d) c in
          no_circles ps 1 rs ts us u f)
          (ap (λ c. guard_end c (guard_parts K 1 ps) h (count ps) r) (sym (ends-chase K y.0 y.2)) ∙ e)

      no_circles : (ps : Trees ℕ) (n : ℕ) (rs : List Ref) (ts : Trees Ref) → UnfoldAll x.equations rs ts → (u : Ref) → guard_parts K n ps rs ≡ Circle u → Never
      no_circles Nil n rs ts us u e = absurd cc
      no_circles (More p ps) n [] ts us u e = absurd cc
      no_circles (More p ps) n (r ∷ rs) Nil us u e = elim us [ ]
      no_circles (More p ps) n (r ∷ rs) (More t ts) (one d ds) u e =
          elim (and-circle (under n (guard K p r)) (guard_parts K (suc n) ps rs) u e) [
            | inl f ↦ no_circle p r t d u (under-circle n (guard K p r) u f)
            | inr f ↦ no_circles ps (suc n) rs ts ds u f
          ]

    pub all_no_circle : (n : ℕ) (ps : List Term) (rs : List Ref) (ts : List (Tree Ref)) → AllUnfold x.equations rs ts → (u : Ref) → guard_all K n ps rs ≡ Circle u → Never
    all_no_circle n [] rs ts us u e = absurd cc
    all_no_circle n (p ∷ ps) [] ts us u e = absurd cc
    all_no_circle n (p ∷ ps) (r ∷ rs) [] us u e = never us
    all_no_circle n (p ∷ ps) (r ∷ rs) (t ∷ ts) us u e =
        elim (and-circle (under n (guard K p r)) (guard_all K (suc n) ps rs) u e) [
          | inl f ↦ no_circle p r t us.0 u (under-circle n (guard K p r) u f)
          | inr f ↦ all_no_circle (suc n) ps rs ts us.1 u f
        ]

    -- no guard of a held node meets a circle
    pub never_circle : (h : Held) → Member h (S a).held → (n : ℕ) (ps : List Term) (u : Ref) → guard_all K n ps h.inherited ≡ Circle u → Never
    never_circle h i n ps u e =
        let (c, q, A) = is_undivided in
        let (row, m, B) = row_for g fit enter ok x.equations x.held c A h (W.inv.held a h i).0 in
        all_no_circle n ps h.inherited row.inherited B.inherited u e
