-- What is printed from the equations of each site.
use Rattle.std.specs.Prelude.{slice_get}
use Rattle.std.proofs.Common.{List, Some, [], ap, arith, inl, inr, length, map, refl, subst, suc, sym, zero, ℕ, ◌+◌, ◌∙◌, ◌∷◌, ◌≡◌}
use Rattle.aw_list.specs.Members.{Member}
use Rattle.aw_list.proofs.Members.{never}
use Rattle.aw_term.specs.Artifacts.{Words, artifact_text}
use Rattle.aw_term.specs.Configs.{Config, Row}
use Rattle.aw_term.specs.Names.{Node, Ref, result}
use Rattle.aw_term.specs.Rules.{Grammar, Value, upto}
use Rattle.aw_term.specs.Held.{Held}
use Rattle.aw_accept.specs.Acyclic.{IsTree, Pairs, gives}
use Rattle.aw_store.specs.Equations.{Map}
use Rattle.aw_store.specs.Unfold.{Unfolds}
use Rattle.aw_law_sites.specs.Laws.{Agree, AllUnfold}
use Rattle.aw_law_sites.proofs.Unfolding.{one_value}
use Rattle.aw_law_sites.specs.Homes.{home}
use Rattle.aw_law_sites.specs.Worlds.{World, gather, site_at}
use Rattle.aw_law_worlds.specs.ReadRows.{AreRead, IsPrinted, IsRead}

-- a reference has one value, and a list of references one list of values
same_values : (k : Map) (rs : List Ref) (ts us : List Value) → AllUnfold k rs ts → AllUnfold k rs us → ts ≡ us
same_values k [] [] [] a b = refl
same_values k [] (t ∷ ts) us a b = never a
same_values k [] [] (u ∷ us) a b = never b
same_values k (r ∷ rs) [] us a b = never a
same_values k (r ∷ rs) (t ∷ ts) [] a b = never b
same_values k (r ∷ rs) (t ∷ ts) (u ∷ us) a b = let p = one_value k k (λ r b f. f) (λ r f. f) a.0 u b.0 in let q = same_values k rs ts us a.1 b.1 in λ i. p i ∷ q i

same_row : (g : Grammar) (k : Map) (h : Held) (p q : Row) → IsRead g k h p → IsRead g k h q → p ≡ q
same_row g k h p q a b =
    let n = sym a.node ∙ b.node in
    let s = sym a.sort ∙ b.sort in
    let t = sym a.state ∙ b.state in
    let i = same_values k h.inherited p.inherited q.inherited a.inherited b.inherited in
    let r = same_values k (map (result h.node) (upto 1 (gives g h.sort))) p.results q.results a.results b.results in
    λ z. record { node = n z; sort = s z; inherited = i z; results = r z; state = t z }

same_rows_read : (P : Held → Row → Type 0) → ((h : Held) (p q : Row) → P h p → P h q → p ≡ q) → (hs : List Held) (c d : Config) → Pairs P hs c → Pairs P hs d → c ≡ d
same_rows_read P f [] [] [] a b = refl
same_rows_read P f [] (q ∷ c) d a b = never a
same_rows_read P f [] [] (q ∷ d) a b = never b
same_rows_read P f (h ∷ hs) [] d a b = never a
same_rows_read P f (h ∷ hs) (p ∷ c) [] a b = never b
same_rows_read P f (h ∷ hs) (p ∷ c) (q ∷ d) a b = let e = f h p q a.0 b.0 in let t = same_rows_read P f hs c d a.1 b.1 in λ i. e i ∷ t i

results_from : (k : Map) (n : Node) (i m : ℕ) (ts : List Value) → length ts ≡ m → ((j : ℕ) (t : Value) → slice_get ts j ≡ Some t →
    Unfolds k (result n (i + j)) t) → AllUnfold k (map (result n) (upto i m)) ts
results_from k n i zero [] e f = tt
results_from k n i zero (t ∷ ts) e f = absurd (omega (arith, e))
results_from k n i (suc m) [] e f = absurd (omega (arith, e))
results_from k n i (suc m) (t ∷ ts) e f =
    let z : i + 0 ≡ i = omega arith in (
      subst (λ j. Unfolds k (result n j) t) z (f 0 t refl),
      results_from k n (suc i) m ts (omega (arith, e)) (λ j u a. let y : i + suc j ≡ suc i + j = omega arith in subst (λ j. Unfolds k (result n j) u) y (f (suc j) u a)),
    )

read_one : (g : Grammar) (k : Map) (h : Held) (q : Row) → Agree k h q → length q.results ≡ gives g q.sort → IsRead g k h q
read_one g k h q a l = record {
  node = a.node;
  sort = a.sort;
  state = a.state;
  inherited = a.inherited;
  results = results_from k h.node 1 (gives g h.sort) q.results (l ∙ ap (gives g) (sym a.sort)) (λ j t e. let z : suc j ≡ 1 + j = omega arith in
      subst (λ i. Unfolds k (result h.node i) t) z (a.results (suc j) t e));
}

read_all : (P Q : Held → Row → Type 0) (hs : List Held) (c : Config) → ((h : Held) (q : Row) → Member q c → P h q → Q h q) → Pairs P hs c → Pairs Q hs c
read_all P Q [] [] f p = tt
read_all P Q [] (q ∷ c) f p = never p
read_all P Q (h ∷ hs) [] f p = never p
read_all P Q (h ∷ hs) (q ∷ c) f p = (f h q (inl refl) p.0, read_all P Q hs c (λ h q m. f h q (inr m)) p.1)

-- no other text is printed
pub read_only : (words : Words) (g : Grammar) (v : World) (c : Config) → AreRead g v c → (text : List ℕ) → IsPrinted words g v text → text ≡ artifact_text words c
read_only words g v c read text (rows, r, e) =
    e ∙ ap (artifact_text words) (same_rows_read (λ h q. IsRead g (site_at v (home g h.node)).equations h q)
    (λ h p q a b. same_row g (site_at v (home g h.node)).equations h p q a b) (gather v.sites) rows c r read)

-- where the sites hold a configuration, its artifact text is what is printed from them, and no other text is
module _ (words : Words) (g : Grammar) (v : World) (c : Config) (tree : IsTree g c) (holds : Pairs (λ h q. Agree (site_at v (home g h.node)).equations h q) (gather v.sites) c) where
  read : AreRead g v c
  read = read_all (λ h q. Agree (site_at v (home g h.node)).equations h q) (λ h q. IsRead g (site_at v (home g h.node)).equations h q) (gather v.sites) c
      (λ h q m a. read_one g (site_at v (home g h.node)).equations h q a (tree.many q m)) holds

  pub printed : IsPrinted words g v (artifact_text words c)
  printed = (c, read, refl)

  pub printed_only : (text : List ℕ) → IsPrinted words g v text → text ≡ artifact_text words c
  printed_only text p = read_only words g v c read text p
