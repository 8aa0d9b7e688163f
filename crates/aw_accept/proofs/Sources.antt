-- Each hole in the value of a variable comes from where the variable enters.
use Rattle.std.proofs.Common.{◌≡◌, ℕ, zero, suc, ◌+◌, ◌<◌, ◌≤◌, Bool, true, false, List, [], ◌∷◌, ◌++◌, map, length, Option, Some, None, slice_get, replicate, refl, subst, arith}
use Rattle.aw_list.proofs.Members.{never}
use Rattle.aw_term.specs.Trees.{Never, Leaf, In}
use Rattle.aw_term.specs.Names.{Ref, below, result}
use Rattle.aw_term.specs.Rules.{Term, Ground, Value, Child, Rule, get, upto}
use Rattle.aw_term.specs.Matching.{Yes, under, match, match_all}
use Rattle.aw_term.specs.Configs.{Row, lift, holes, child_holes, env, nothing}
use Rattle.aw_term.specs.WellFormed.{leaves}
use Rattle.aw_iograph.specs.declared.occ.Occ.{Occ}
use Rattle.aw_iograph.specs.Occurrences.{inherited, given, item, pattern_entries, child_entries, entries}
use Rattle.aw_accept.specs.Acyclic.{Pairs}
use Rattle.aw_accept.proofs.Binding.{In-bind, Pairs-append, Pairs-map, Piece, match-parts, under-yes, and_then-yes, yes-inj}

module _ (q : Row) (ri : ℕ) (r : Rule) where
  abbrev pub Source_at : ℕ → Bool → ℕ → Ref → Type 0
  Source_at zero false i h = (t : Value) × (item q.inherited i ≡ Some t) × In h t
  Source_at (suc k) false i h = Never
  Source_at zero true j h = Never
  Source_at (suc k) true l h = (c : Child) × (slice_get r.children k ≡ Some c) × (0 < l) × (l ≤ c.outs) × (h ≡ result (below q.node ri (suc k)) l)

  abbrev pub Source : Occ → Ref → Type 0
  Source o h = Source_at o.child o.result o.number h

  abbrev pub EntersAt : Option Occ → Value → Type 0
  EntersAt None b = (h : Ref) → In h b → Never
  EntersAt (Some o) b = (h : Ref) → In h b → Source o h

  pub patterns_enter : (ps : List Term) (ts : List Value) (n i : ℕ) (bs : List Value) → match_all n ps ts ≡ Yes bs →
      ((k : ℕ) (t : Value) → slice_get ts k ≡ Some t → item q.inherited (i + k) ≡ Some t) → Pairs EntersAt (pattern_entries i ps) bs
  patterns_enter [] ts n i bs e at = subst (λ l. Pairs EntersAt [] l) (yes-inj e) tt
  patterns_enter (p ∷ ps) [] n i bs e at = absurd cc
  patterns_enter (p ∷ ps) (t ∷ ts) n i bs e at =
      let (xs, ys, a, b, j) = and_then-yes (under n (match p t)) (match_all (suc n) ps ts) bs e in
      let u = match-parts p t xs (under-yes n (match p t) xs a) in
      let z : i + 0 ≡ i = omega arith in
      let here : item q.inherited i ≡ Some t = subst (λ k. item q.inherited k ≡ Some t) z (at 0 t refl) in
      let rest = patterns_enter ps ts (suc n) (suc i) ys b (λ k t' e'. let s : i + suc k ≡ suc i + k = omega arith in subst (λ k'. item q.inherited k' ≡ Some t') s (at (suc k) t' e')) in
      subst (λ l. Pairs EntersAt (pattern_entries i (p ∷ ps)) l) j
      (Pairs-append EntersAt (map (λ v. Some (inherited 0 i)) (leaves p)) xs (pattern_entries (suc i) ps) ys
      (Pairs-map (λ v b'. Piece t b') EntersAt (λ v. Some (inherited 0 i)) (λ v b' w h x. (t, here, w h x)) (leaves p) xs u) rest)

  pub params_enter : (args : List Ground) → Pairs EntersAt (replicate (length args) None) (map lift args)
  params_enter [] = tt
  params_enter (t ∷ ts) = ((λ h w. let (x, y, z) = In-bind (λ x. elim x [ ]) h t w in elim x [ ]), params_enter ts)

  pub outs_enter : (k : ℕ) (c : Child) → slice_get r.children k ≡ Some c → (i m : ℕ) → 0 < i → i + m ≤ suc c.outs →
      Pairs EntersAt (map (λ l. Some (given (suc k) l)) (upto i m)) (map (λ j. Leaf (result (below q.node ri (suc k)) j)) (upto i m))
  outs_enter k c e i zero pos le = tt
  outs_enter k c e i (suc m) pos le =
      let lt : i ≤ c.outs = omega arith in
      let le' : suc i + m ≤ suc c.outs = omega arith in
      let up : 0 < suc i = omega arith in
      ((λ h w. (c, e, pos, lt, w)), outs_enter k c e (suc i) m up le')

  children_enter : (cs : List Child) (k : ℕ) → ((j : ℕ) (c : Child) → slice_get cs j ≡ Some c → slice_get r.children (k + j) ≡ Some c) →
      Pairs EntersAt (child_entries (suc k) cs) (child_holes q.node ri (suc k) cs)
  children_enter [] k at = tt
  children_enter (c ∷ cs) k at =
      let z : k + 0 ≡ k = omega arith in
      let here : slice_get r.children k ≡ Some c = subst (λ k'. slice_get r.children k' ≡ Some c) z (at 0 c refl) in
      let le : 1 + c.outs ≤ suc c.outs = omega arith in let pos : 0 < 1 = omega arith in
      Pairs-append EntersAt (map (λ l. Some (given (suc k) l)) (upto 1 c.outs)) (holes (below q.node ri (suc k)) c.outs) (child_entries (suc (suc k)) cs) (child_holes q.node ri (suc (suc k)) cs)
      (outs_enter k c here 1 c.outs pos le)
      (children_enter cs (suc k) (λ j c' e'. let s : k + suc j ≡ suc k + j = omega arith in subst (λ k'. slice_get r.children k' ≡ Some c') s (at (suc j) c' e')))

  pub env_enters : (bs : List Value) (args : List Ground) → match_all 1 r.patterns q.inherited ≡ Yes bs → length args ≡ r.params → Pairs EntersAt (entries r) (env q.node ri r bs args)
  env_enters bs args e l =
      Pairs-append EntersAt (pattern_entries 1 r.patterns) bs _ (map lift args ++ child_holes q.node ri 1 r.children)
      (patterns_enter r.patterns q.inherited 1 1 bs e (λ k t e'. let s : suc k ≡ 1 + k = omega arith in subst (λ k'. item q.inherited k' ≡ Some t) s e'))
      (Pairs-append EntersAt (replicate r.params None) (map lift args) (child_entries 1 r.children) (child_holes q.node ri 1 r.children)
      (subst (λ m. Pairs EntersAt (replicate m None) (map lift args)) l (params_enter args))
      (children_enter r.children 0 (λ j c e'. let s : j ≡ 0 + j = omega arith in subst (λ k'. slice_get r.children k' ≡ Some c) s e')))

  pub entered : (es : List (Option Occ)) (vs : List Value) (v : ℕ) (h : Ref) → Pairs EntersAt es vs → In h (get nothing vs v) → (o : Occ) × (get None es v ≡ Some o) × Source o h
  entered [] [] v h w x = never x
  entered (e ∷ es) [] v h w x = never w
  entered [] (b ∷ bs) v h w x = never w
  entered (None ∷ es) (b ∷ bs) zero h w x = never (w.0 h x)
  entered (Some o ∷ es) (b ∷ bs) zero h w x = (o, refl, w.0 h x)
  entered (e ∷ es) (b ∷ bs) (suc v) h w x = entered es bs v h w.1 x
