-- The calls and tells of a choice.
use Rattle.std.specs.Prelude.{nat_eq, slice_get, ◌⊎◌}
use Rattle.std.proofs.Common.{Bool, List, Some, [], ap, arith, cond, false, inl, inr, map, refl, subst, suc, sym, true, zero, ℕ, ◌+◌, ◌<◌, ◌∙◌, ◌∷◌, ◌≡◌, ◌≤◌}
use Rattle.std.proofs.lemmas.Bool.{cases_lt, eq-eqb, eqb-true}
use Rattle.aw_list.specs.Members.{Member}
use Rattle.aw_list.proofs.Members.{member_left, member_map, member_right, member_split, member_unmap, never}
use Rattle.aw_term.specs.Names.{Node, Ref, below}
use Rattle.aw_term.specs.Rules.{Child, Grammar}
use Rattle.aw_term.specs.Trees.{Never}
use Rattle.aw_term.specs.WellFormed.{Each, Later}
use Rattle.aw_term.specs.Held.{Held}
use Rattle.aw_accept.proofs.ConfigLemmas.{below-child}
use Rattle.aw_accept.proofs.Fitting.{each_member}
use Rattle.aw_store.specs.Equations.{Equation}
use Rattle.aw_apply.specs.Made.{Call, lay_children, lay_list}
use Rattle.aw_apply.specs.Messages.{Message}
use Rattle.aw_law_sites.specs.Joint.{called_held}
use Rattle.aw_law_sites.proofs.Lists.{each_of}
use Rattle.aw_law_sites.specs.Homes.{home}
use Rattle.aw_law_sites.specs.Sites.{Site}
use Rattle.aw_law_sites.specs.Telling.{call_out, calls_in, calls_out, tell, tells, watchers_from}
use Rattle.aw_law_worlds.proofs.Lists.{Later-mapped, later_both}
use Rattle.aw_law_worlds.proofs.Parts.{Apart, Kin}

module _ (g : Grammar) (s : Site) where
  out_step : (t : Bool) (c : Call) (cs : List Call) (m : Message) → nat_eq (home g c.node) s.role ≡ t →
      (Member m (calls_out g s cs) → (d : Call) × Member d cs × (home g d.node ≡ s.role → Never) × (m ≡ call_out g s d))
      → Member m (cond t (calls_out g s cs) (call_out g s c ∷ calls_out g s cs)) → (d : Call) × Member d (c ∷ cs) × (home g d.node ≡ s.role → Never) × (m ≡ call_out g s d)
  out_step true c cs m e f i = let (d, j, n, p) = f i in (d, inr j, n, p)
  out_step false c cs m e f (inl p) = (c, inl refl, λ q. (let z = eq-eqb (home g c.node) s.role q in absurd cc), p)
  out_step false c cs m e f (inr i) = let (d, j, n, p) = f i in (d, inr j, n, p)

  pub out_case : (cs : List Call) (m : Message) → Member m (calls_out g s cs) → (d : Call) × Member d cs × (home g d.node ≡ s.role → Never) × (m ≡ call_out g s d)
  out_case [] m i = never i
  out_case (c ∷ cs) m i = out_step (nat_eq (home g c.node) s.role) c cs m refl (out_case cs m) i

  has_step : (t : Bool) (c d : Call) (cs : List Call) → nat_eq (home g c.node) s.role ≡ t → (home g d.node ≡ s.role → Never) → (d ≡ c)
      ⊎ Member (call_out g s d) (calls_out g s cs) → Member (call_out g s d) (cond t (calls_out g s cs) (call_out g s c ∷ calls_out g s cs))
  has_step true c d cs e n (inl p) = never (n (ap (λ (c : Call). home g c.node) p ∙ eqb-true (home g c.node) s.role e))
  has_step true c d cs e n (inr i) = i
  has_step false c d cs e n (inl p) = inl (ap (call_out g s) p)
  has_step false c d cs e n (inr i) = inr i

  pub out_has : (cs : List Call) (d : Call) → Member d cs → (home g d.node ≡ s.role → Never) → Member (call_out g s d) (calls_out g s cs)
  out_has [] d i n = never i
  out_has (c ∷ cs) d (inl p) n = has_step (nat_eq (home g c.node) s.role) c d cs refl n (inl p)
  out_has (c ∷ cs) d (inr i) n = has_step (nat_eq (home g c.node) s.role) c d cs refl n (inr (out_has cs d i n))

  apart_step : (t : Bool) (c : Call) (cs : List Call) → Each (λ (d : Call). c.node ≡ d.node → Never) cs → Later Apart (calls_out g s cs) →
      Later Apart (cond t (calls_out g s cs) (call_out g s c ∷ calls_out g s cs))
  apart_step true c cs e l = l
  apart_step false c cs e l = (
    each_of (Apart (call_out g s c)) (calls_out g s cs) (λ m i k. let (d, j, n, p) = out_case cs m i in
        each_member (λ (d : Call). c.node ≡ d.node → Never) cs d e j (subst (λ (m : Message). Kin (call_out g s c) m → c.node ≡ d.node) (sym p) (λ k. k.1) k)),
    l,
  )

  pub out_apart : (cs : List Call) → Later (λ (c d : Call). c.node ≡ d.node → Never) cs → Later Apart (calls_out g s cs)
  out_apart [] l = tt
  out_apart (c ∷ cs) l = apart_step (nat_eq (home g c.node) s.role) c cs l.0 (out_apart cs l.1)

  from_cases : (t : Bool) (i j : ℕ) (ws : ℕ → Bool) (zs : List ℕ) → ws i ≡ t → (Member j zs → (suc i ≤ j) × (ws j ≡ true)) → Member j (cond t (i ∷ zs) zs) → (i ≤ j) × (ws j ≡ true)
  from_cases true i j ws zs e f (inl p) = (omega (arith, p), subst (λ j. ws j ≡ true) (sym p) e)
  from_cases true i j ws zs e f (inr m) = let (a, b) = f m in (omega (arith, a), b)
  from_cases false i j ws zs e f m = let (a, b) = f m in (omega (arith, a), b)

  from_case : (n i j : ℕ) (ws : ℕ → Bool) → Member j (watchers_from n i ws) → (i ≤ j) × (ws j ≡ true)
  from_case zero i j ws m = never m
  from_case (suc n) i j ws m = from_cases (ws i) i j ws (watchers_from n (suc i) ws) refl (from_case n (suc i) j ws) m

  skip_cases : (t : Bool) (i j : ℕ) (zs : List ℕ) → (i ≡ j → t ≡ true) → (i ≡ j) ⊎ Member j zs → Member j (cond t (i ∷ zs) zs)
  skip_cases true i j zs f (inl e) = inl (sym e)
  skip_cases true i j zs f (inr m) = inr m
  skip_cases false i j zs f (inl e) = let z = f e in absurd cc
  skip_cases false i j zs f (inr m) = m

  le_cases : (i j : ℕ) → i ≤ j → (i ≡ j) ⊎ (suc i ≤ j)
  le_cases i j l = elim (cases_lt i j) [ inl a ↦ inr a | inr a ↦ inl (omega (arith, a, l)) ]

  from_has : (n i j : ℕ) (ws : ℕ → Bool) → i ≤ j → j < i + n → ws j ≡ true → Member j (watchers_from n i ws)
  from_has zero i j ws a b h = absurd (omega (arith, a, b))
  from_has (suc n) i j ws a b h =
      skip_cases (ws i) i j (watchers_from n (suc i) ws) (λ e. subst (λ i. ws i ≡ true) (sym e) h)
      (elim (le_cases i j a) [ inl e ↦ inl e | inr l ↦ inr (from_has n (suc i) j ws l (omega (arith, b)) h) ])

  differ_cases : (t : Bool) (i : ℕ) (zs : List ℕ) → ((j : ℕ) → Member j zs → suc i ≤ j) → Later (λ (a b : ℕ). a ≡ b → Never) zs → Later (λ (a b : ℕ). a ≡ b → Never) (cond t (i ∷ zs) zs)
  differ_cases true i zs f l = (each_of (λ b. i ≡ b → Never) zs (λ b m e. let z = f b m in absurd (omega (arith, z, e))), l)
  differ_cases false i zs f l = l

  from_differ : (n i : ℕ) (ws : ℕ → Bool) → Later (λ (a b : ℕ). a ≡ b → Never) (watchers_from n i ws)
  from_differ zero i ws = tt
  from_differ (suc n) i ws = differ_cases (ws i) i (watchers_from n (suc i) ws) (λ j m. (from_case n (suc i) j ws m).0) (from_differ n (suc i) ws)

  pub tell_case : (es : List Equation) (m : Message) → Member m (tells g s es) → (e : Equation) × Member e es × (n : ℕ) × (s.watches e.left n ≡ true) × (m ≡ tell g s e n)
  tell_case [] m i = never i
  tell_case (e ∷ es) m i = elim (member_split m (map (tell g s e) (watchers_from 64 0 (s.watches e.left))) (tells g s es) i) [
    | inl a ↦ (let (n, j, p) = member_unmap (tell g s e) m (watchers_from 64 0 (s.watches e.left)) a in
        (e, inl refl, n, (from_case 64 0 n (s.watches e.left) j).1, p))
    | inr a ↦ (let (d, j, n, w, p) = tell_case es m a in (d, inr j, n, w, p))
  ]

  pub tell_has : (es : List Equation) (e : Equation) (n : ℕ) → Member e es → (s.watches e.left n ≡ true) → n < 64 → Member (tell g s e n) (tells g s es)
  tell_has [] e n i w l = never i
  tell_has (d ∷ es) e n (inl p) w l =
      subst (λ d. Member (tell g s e n) (tells g s (d ∷ es))) p
      (member_left (tell g s e n) (map (tell g s e) (watchers_from 64 0 (s.watches e.left))) (tells g s es)
      (member_map (tell g s e) n (watchers_from 64 0 (s.watches e.left)) (from_has 64 0 n (s.watches e.left) (omega arith) (omega (arith, l)) w)))
  tell_has (d ∷ es) e n (inr i) w l = member_right (tell g s e n) (map (tell g s d) (watchers_from 64 0 (s.watches d.left))) (tells g s es) (tell_has es e n i w l)

  pub tells_apart : (es : List Equation) → Later (λ (e f : Equation). e.left ≡ f.left → Never) es → Later Apart (tells g s es)
  tells_apart [] l = tt
  tells_apart (e ∷ es) l =
      later_both Apart (map (tell g s e) (watchers_from 64 0 (s.watches e.left))) (tells g s es)
      (Later-mapped (λ (a b : ℕ). a ≡ b → Never) Apart (tell g s e) (λ a b n k. n k.0) (watchers_from 64 0 (s.watches e.left)) (from_differ 64 0 (s.watches e.left)))
      (tells_apart es l.1)
      (λ m n i j k.
      let (a, ia, p) = member_unmap (tell g s e) m (watchers_from 64 0 (s.watches e.left)) i in
      let (f, jf, b, w, q) = tell_case es n j in
      each_member (λ (f : Equation). e.left ≡ f.left → Never) es f l.0 jf
      (subst (λ (m : Message). Kin m n → e.left ≡ f.left) (sym p) (subst (λ (n : Message). Kin (tell g s e a) n → e.left ≡ f.left) (sym q) (λ k. k.1)) k))

module _ (g : Grammar) (role : ℕ) where
  in_step : (t : Bool) (c : Call) (cs : List Call) (h : Held) → nat_eq (home g c.node) role ≡ t →
      (Member h (calls_in g role cs) → (d : Call) × Member d cs × (home g d.node ≡ role) × (h ≡ called_held d))
      → Member h (cond t (called_held c ∷ calls_in g role cs) (calls_in g role cs)) → (d : Call) × Member d (c ∷ cs) × (home g d.node ≡ role) × (h ≡ called_held d)
  in_step true c cs h e f (inl p) = (c, inl refl, eqb-true (home g c.node) role e, p)
  in_step true c cs h e f (inr i) = let (d, j, n, p) = f i in (d, inr j, n, p)
  in_step false c cs h e f i = let (d, j, n, p) = f i in (d, inr j, n, p)

  pub in_case : (cs : List Call) (h : Held) → Member h (calls_in g role cs) → (d : Call) × Member d cs × (home g d.node ≡ role) × (h ≡ called_held d)
  in_case [] h i = never i
  in_case (c ∷ cs) h i = in_step (nat_eq (home g c.node) role) c cs h refl (in_case cs h) i

  there_step : (t : Bool) (c d : Call) (cs : List Call) → nat_eq (home g c.node) role ≡ t → home g d.node ≡ role → (d ≡ c) ⊎ Member (called_held d)
      (calls_in g role cs) → Member (called_held d) (cond t (called_held c ∷ calls_in g role cs) (calls_in g role cs))
  there_step true c d cs e h (inl p) = inl (ap called_held p)
  there_step true c d cs e h (inr i) = inr i
  there_step false c d cs e h (inl p) = let z = eq-eqb (home g c.node) role (ap (λ (c : Call). home g c.node) (sym p) ∙ h) in absurd cc
  there_step false c d cs e h (inr i) = i

  pub in_has : (cs : List Call) (d : Call) → Member d cs → home g d.node ≡ role → Member (called_held d) (calls_in g role cs)
  in_has [] d i h = never i
  in_has (c ∷ cs) d (inl p) h = there_step (nat_eq (home g c.node) role) c d cs refl h (inl p)
  in_has (c ∷ cs) d (inr i) h = there_step (nat_eq (home g c.node) role) c d cs refl h (inr (in_has cs d i h))

-- the calls of a choice
module _ (n : Node) (ri : ℕ) (f : ℕ → Ref) where
  pub call_case : (cs : List Child) (i k : ℕ) (c : Call) → Member c (lay_children n ri f i k cs).roots → (j : ℕ) × (d : Child)
      × (slice_get cs j ≡ Some d) × (c.node ≡ below n ri (i + j)) × (c.sort ≡ d.sort)
  call_case [] i k c m = never m
  call_case (d ∷ cs) i k c (inl p) =
      let z : i ≡ i + 0 = omega arith in
      (0, d, refl, ap (λ (c : Call). c.node) p ∙ ap (below n ri) z, ap (λ (c : Call). c.sort) p)
  call_case (d ∷ cs) i k c (inr m) =
      let (j, d', e, a, b) = call_case cs (suc i) (lay_list n f k d.args).next c m in
      let z : suc i + j ≡ i + suc j = omega arith in
      (suc j, d', e, a ∙ ap (below n ri) z, b)

  pub calls_differ : (cs : List Child) (i k : ℕ) → Later (λ (c d : Call). c.node ≡ d.node → Never) (lay_children n ri f i k cs).roots
  calls_differ [] i k = tt
  calls_differ (d ∷ cs) i k = (
    each_of (λ (c : Call). below n ri i ≡ c.node → Never) (lay_children n ri f (suc i) (lay_list n f k d.args).next cs).roots
        (λ c m e. let (j, d', g, a, b) = call_case cs (suc i) (lay_list n f k d.args).next c m in
        no_self i j (below-child n ri i (suc i + j) (e ∙ a))),
    calls_differ cs (suc i) (lay_list n f k d.args).next,
  )
    where
      no_self : (k j : ℕ) → k ≡ suc k + j → Never
      no_self k j e = absurd (omega arith)
