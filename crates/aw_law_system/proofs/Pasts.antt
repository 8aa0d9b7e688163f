-- The past of a world with crashes in which each event was one of its site: at each role it is the events that remain there.
use Rattle.std.specs.Prelude.{not, nat_eq, filter, take, ◌⊎◌}
use Rattle.std.proofs.Common.{◌≡◌, ℕ, zero, suc, ◌+◌, ◌<◌, ◌≤◌, Bool, true, false, cond, List, [], ◌∷◌, ◌++◌, map, length, Some, refl, sym, ap, ◌∙◌, subst, inl, inr, arith, eq-eqb, eqb-true}
use Rattle.std.proofs.lemmas.Bool.{cases_lt}
use Rattle.std.proofs.lemmas.List.{append-nil}
use Rattle.aw_list.specs.Members.{Member}
use Rattle.aw_list.proofs.Members.{never, member_split}
use Rattle.aw_term.specs.Rules.{Grammar, upto}
use Rattle.aw_term.specs.Trees.{Never}
use Rattle.aw_law_sites.specs.Homes.{home}
use Rattle.aw_law_sites.specs.SiteEvents.{SiteEvent, Chose, Got}
use Rattle.aw_law_sites.specs.Sites.{Reaction}
use Rattle.aw_law_sites.specs.Worlds.{node_of}
use Rattle.aw_law_worlds.proofs.Lists.{Member-filtered}
use Rattle.aw_law_worlds.proofs.Places.{get-set, get-set_other, same_or_not}
use Rattle.aw_law_nodes.specs.Crashes.{Kept, Posted, Past, Frail, new_kept, kept_at, start_at, kept_after, happen, is_dropped, back_kept, back_past, go_back}
use Rattle.aw_law_nodes.proofs.Dropped.{drop-other, drop-early, drop-late}
use Rattle.aw_law_nodes.proofs.ListParts.{filter-append, get-short}
use Rattle.aw_law_nodes.proofs.OwnEvents.{empty-size, start-kept}

-- the role at which something happens
abbrev pub role_of : Grammar → SiteEvent → ℕ
role_of g (Chose c) = home g (node_of c)
role_of g (Got m) = m.to

-- the past of one role
abbrev pub of_past : ℕ → List Past → List Past
of_past r es = filter (λ (e : Past). nat_eq e.role r) es

-- events of a role, counted from i on
abbrev pub numbered : ℕ → ℕ → List SiteEvent → List Past
numbered r i [] = []
numbered r i (h ∷ hs) = record { role = r; before = i; happening = h } ∷ numbered r (suc i) hs

-- the past of each role is its events, and each event is of its own role
pub record IsTidy (g : Grammar) (w : Frail) : Type 0 where
  pub parts : (r : ℕ) → of_past r w.past ≡ numbered r 0 (kept_at w r).events
  pub homes : (e : Past) → Member e w.past → (role_of g e.happening ≡ e.role) × (e.role < g.roles)

numbered-more : (r i n : ℕ) (hs : List SiteEvent) (h : SiteEvent) → i + length hs ≡ n → numbered r i (hs ++ h ∷ []) ≡ numbered r i hs ++ record { role = r; before = n; happening = h } ∷ []
numbered-more r i n [] h e = let z : i ≡ n = omega (arith, e) in ap (λ n. record { role = r; before = n; happening = h } ∷ []) z
numbered-more r i n (x ∷ hs) h e = ap (◌∷◌ (record { role = r; before = i; happening = x })) (numbered-more r (suc i) n hs h (omega (arith, e)))

-- one more event of the past, at one role
one-here : (r : ℕ) (e : Past) → e.role ≡ r → of_past r (e ∷ []) ≡ e ∷ []
one-here r e p = ap (λ b. cond b (e ∷ []) []) (eq-eqb e.role r p)

pub not-same : (a b : ℕ) → (a ≡ b → Never) → nat_eq a b ≡ false
not-same a b f = go (nat_eq a b) refl
  where
    go : (t : Bool) → nat_eq a b ≡ t → nat_eq a b ≡ false
    go true e = never (f (eqb-true a b e))
    go false e = e

one-there : (a : ℕ) (e : Past) → (e.role ≡ a → Never) → of_past a (e ∷ []) ≡ []
one-there a e f = ap (λ b. cond b (e ∷ []) []) (not-same e.role a f)

-- two filters one after the other
filter-swap : {A : Type 0} (p q : A → Bool) (xs : List A) → filter p (filter q xs) ≡ filter q (filter p xs)
filter-swap {A} p q [] = refl
filter-swap {A} p q (x ∷ xs) = go (p x) (q x) refl refl (filter-swap p q xs)
  where
    kept-by : (f : A → Bool) (b : Bool) → f x ≡ b → (ys : List A) → filter f (x ∷ ys) ≡ cond b (x ∷ filter f ys) (filter f ys)
    kept-by f b e ys = ap (λ t. cond t (x ∷ filter f ys) (filter f ys)) e

    go : (b c : Bool) → p x ≡ b → q x ≡ c → filter p (filter q xs) ≡ filter q (filter p xs)
        → filter p (cond (q x) (x ∷ filter q xs) (filter q xs)) ≡ filter q (cond (p x) (x ∷ filter p xs) (filter p xs))
    go true true e f i =
        ap (λ t. filter p (cond t (x ∷ filter q xs) (filter q xs))) f ∙ (kept-by p true e (filter q xs) ∙ (ap (◌∷◌ x) i
        ∙ (sym (kept-by q true f (filter p xs)) ∙ ap (λ t. filter q (cond t (x ∷ filter p xs) (filter p xs))) (sym e))))
    go true false e f i =
        ap (λ t. filter p (cond t (x ∷ filter q xs) (filter q xs))) f ∙ (i
        ∙ (sym (kept-by q false f (filter p xs)) ∙ ap (λ t. filter q (cond t (x ∷ filter p xs) (filter p xs))) (sym e)))
    go false true e f i =
        ap (λ t. filter p (cond t (x ∷ filter q xs) (filter q xs))) f ∙ (kept-by p false e (filter q xs)
        ∙ (i ∙ ap (λ t. filter q (cond t (x ∷ filter p xs) (filter p xs))) (sym e)))
    go false false e f i =
        ap (λ t. filter p (cond t (x ∷ filter q xs) (filter q xs))) f ∙ (i ∙ ap (λ t. filter q (cond t (x ∷ filter p xs) (filter p xs))) (sym e))

-- what is dropped of numbered events
back-cons : (r n : ℕ) (e : Past) (es : List Past) (b : Bool) → is_dropped r n e.role e.before ≡ b → back_past r n (e ∷ es) ≡ cond (not b) (e ∷ back_past r n es) (back_past r n es)
back-cons r n e es b d = ap (λ t. cond (not t) (e ∷ back_past r n es) (back_past r n es)) d

back-other : (r n a i : ℕ) (hs : List SiteEvent) → (a ≡ r → Never) → back_past r n (numbered a i hs) ≡ numbered a i hs
back-other r n a i [] f = refl
back-other r n a i (h ∷ hs) f =
    back-cons r n (record { role = a; before = i; happening = h }) (numbered a (suc i) hs) false (drop-other r n a i f)
    ∙ ap (◌∷◌ (record { role = a; before = i; happening = h })) (back-other r n a (suc i) hs f)

back-late : (r n i : ℕ) (hs : List SiteEvent) → n ≤ i → back_past r n (numbered r i hs) ≡ []
back-late r n i [] l = refl
back-late r n i (h ∷ hs) l =
    back-cons r n (record { role = r; before = i; happening = h }) (numbered r (suc i) hs) true (drop-late r n i l) ∙ back-late r n (suc i) hs (omega arith)

back-first : (r n k i : ℕ) (hs : List SiteEvent) → k + i ≡ n → back_past r n (numbered r i hs) ≡ numbered r i (take k hs)
back-first r n zero i hs e = back-late r n i hs (omega (arith, e))
back-first r n (suc k) i [] e = refl
back-first r n (suc k) i (h ∷ hs) e =
    back-cons r n (record { role = r; before = i; happening = h }) (numbered r (suc i) hs) false (drop-early r n r i (omega (arith, e)))
    ∙ ap (◌∷◌ (record { role = r; before = i; happening = h })) (back-first r n k (suc i) hs (omega (arith, e)))

pub names-numbered : (r i : ℕ) (hs : List SiteEvent) → map (λ (e : Past). e.happening) (numbered r i hs) ≡ hs
names-numbered r i [] = refl
names-numbered r i (h ∷ hs) = ap (◌∷◌ h) (names-numbered r (suc i) hs)

module _ (g : Grammar) where
  pub tidy-start : (loads : Bool) → IsTidy g (start_at g loads)
  tidy-start loads = record {
    parts = λ r. ap (numbered r 0) (sym (no-events r));
    homes = λ e i. never i;
  }
    where
      no-events : (r : ℕ) → (kept_at (start_at g loads) r).events ≡ []
      no-events r = elim (cases_lt r g.roles) [
        | inl l ↦ ap (λ (k : Kept). k.events) (start-kept g loads r l)
        | inr l ↦ (let n = empty-size loads 0 g.roles in ap (λ (k : Kept). k.events) (get-short (new_kept false r) (map (new_kept loads) (upto 0 g.roles)) r (omega (arith, n, l))))
      ]

  -- one more event
  pub tidy-happen : (w : Frail) (r : ℕ) (h : SiteEvent) (x : Reaction) (ps : List Posted) → IsTidy g w → length w.kept ≡ g.roles → r < g.roles → role_of g h ≡ r → IsTidy g (happen w r h (Some x) ps)
  tidy-happen w r h x ps T n l at = record {
    parts = λ a. filter-append (λ (e : Past). nat_eq e.role a) w.past (new ∷ []) ∙ each a (same_or_not r a);
    homes = λ e i. elim (member_split e w.past (new ∷ []) i) [
      | inl j ↦ T.homes e j
      | inr j ↦ elim j [ inl p ↦ subst (λ (e : Past). (role_of g e.happening ≡ e.role) × (e.role < g.roles)) (sym p) (at, l) | inr z ↦ never z ]
    ];
  }
    where
      new : Past
      new = record { role = r; before = length (kept_at w r).events; happening = h }

      v : Frail
      v = happen w r h (Some x) ps

      same : kept_at v r ≡ kept_after (kept_at w r) h (Some x)
      same = get-set (new_kept false r) w.kept r (kept_after (kept_at w r) h (Some x)) (omega (arith, n, l))

      here : of_past r w.past ++ of_past r (new ∷ []) ≡ numbered r 0 (kept_at v r).events
      here =
          (λ i. T.parts r i ++ one-here r new refl i)
          ∙ (sym (numbered-more r 0 (length (kept_at w r).events) (kept_at w r).events h (omega arith)) ∙ ap (λ (k : Kept). numbered r 0 k.events) (sym same))

      there : (a : ℕ) → (r ≡ a → Never) → of_past a w.past ++ of_past a (new ∷ []) ≡ numbered a 0 (kept_at v a).events
      there a d =
          (λ i. T.parts a i ++ one-there a new d i)
          ∙ (append-nil (numbered a 0 (kept_at w a).events) ∙ ap (λ (k : Kept). numbered a 0 k.events) (sym (get-set_other (new_kept false a) w.kept r a (kept_after (kept_at w r) h (Some x)) d)))

      each : (a : ℕ) → (r ≡ a) ⊎ (r ≡ a → Never) → of_past a w.past ++ of_past a (new ∷ []) ≡ numbered a 0 (kept_at v a).events
      each a (inl e) = subst (λ a. of_past a w.past ++ of_past a (new ∷ []) ≡ numbered a 0 (kept_at v a).events) e here
      each a (inr d) = there a d

  -- a site goes back
  pub tidy-back : (loads : Bool) (w : Frail) (r n : ℕ) → IsTidy g w → length w.kept ≡ g.roles → r < g.roles → IsTidy g (go_back g loads r n w)
  tidy-back loads w r n T s l = record {
    parts = λ a. filter-swap (λ (e : Past). nat_eq e.role a) (λ (e : Past). not (is_dropped r n e.role e.before)) w.past ∙ (ap (back_past r n) (T.parts a) ∙ each a (same_or_not r a));
    homes = λ e i. T.homes e (Member-filtered (λ (e : Past). not (is_dropped r n e.role e.before)) e w.past i).0;
  }
    where
      v : Frail
      v = go_back g loads r n w

      same : kept_at v r ≡ back_kept g loads r n (kept_at w r)
      same = get-set (new_kept false r) w.kept r (back_kept g loads r n (kept_at w r)) (omega (arith, s, l))

      each : (a : ℕ) → (r ≡ a) ⊎ (r ≡ a → Never) → back_past r n (numbered a 0 (kept_at w a).events) ≡ numbered a 0 (kept_at v a).events
      each a (inl e) = subst (λ a. back_past r n (numbered a 0 (kept_at w a).events) ≡ numbered a 0 (kept_at v a).events) e
          (back-first r n n 0 (kept_at w r).events (omega arith) ∙ ap (λ (k : Kept). numbered r 0 k.events) (sym same))
      each a (inr d) = back-other r n a 0 (kept_at w a).events (λ e. d (sym e)) ∙ ap (λ (k : Kept). numbered a 0 k.events)
          (sym (get-set_other (new_kept false a) w.kept r a (back_kept g loads r n (kept_at w r)) d))
