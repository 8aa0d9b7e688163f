-- Over a part of acyclic equations each reference has a value.
use Rattle.std.proofs.Common.{List, None, Option, Some, [], ap, map, refl, sym, ◌∙◌, ◌∷◌, ◌≡◌}
use Rattle.std.proofs.lemmas.Option.{same_Some}
use Rattle.aw_term.specs.Configs.{Config, Row}
use Rattle.aw_term.specs.Names.{Ref, result}
use Rattle.aw_term.specs.Rules.{Grammar, Value, upto}
use Rattle.aw_term.specs.Trees.{Head, Leaf, Made, More, Nil, Trees}
use Rattle.aw_term.specs.Held.{Held}
use Rattle.aw_iograph.specs.Graphs.{Plus, more, step}
use Rattle.aw_accept.specs.Acyclic.{Pairs, gives}
use Rattle.aw_store.specs.Equations.{Body, Is, Map, Same, find}
use Rattle.aw_store.specs.Unfold.{UnfoldAll, Unfolds, is, missing, none, one, same}
use Rattle.aw_law_sites.specs.Laws.{AllUnfold, AreAcyclic, Leads}
use Rattle.aw_law_worlds.specs.ReadRows.{IsRead}

-- equations that are part of others
module _ (e k : Map) (part_of : (r : Ref) (b : Body) → find k r ≡ Some b → find e r ≡ Some b) where
  on_same : (r s : Ref) (o : Option Body) → find k r ≡ o → find e r ≡ Some (Same s) → ((u : Value) × Unfolds k s u) → (u : Value) × Unfolds k r u
  on_same r s None g f y = (Leaf r, missing g)
  on_same r s (Some b) g f y = let p = same_Some _ _ (sym (part_of r b g) ∙ f) in (y.0, same (g ∙ ap Some p) y.1)

  on_head : (r : Ref) (h : Head) (rs : List Ref) (o : Option Body) → find k r ≡ o → find e r ≡ Some (Is h rs) → ((us : Trees Ref) × UnfoldAll k rs us) → (u : Value) × Unfolds k r u
  on_head r h rs None g f y = (Leaf r, missing g)
  on_head r h rs (Some b) g f y = let p = same_Some _ _ (sym (part_of r b g) ∙ f) in (Made h y.0, is (g ∙ ap Some p) y.1)

  on_none : (r : Ref) (o : Option Body) → find k r ≡ o → find e r ≡ None → (u : Value) × Unfolds k r u
  on_none r None g f = (Leaf r, missing g)
  on_none r (Some b) g f = let z = part_of r b g in absurd cc

  -- a value over the whole is there over the part, with more holes
  mutual
    part_value : {r : Ref} {t : Value} → Unfolds e r t → (u : Value) × Unfolds k r u
    part_value (missing {r = r} f) = on_none r (find k r) refl f
    part_value (same {r = r} {s = s} f d) = on_same r s (find k r) refl f (part_value d)
    part_value (is {r = r} {h = h} {rs = rs} f d) = on_head r h rs (find k r) refl f (part_values d)

    part_values : {rs : List Ref} {ts : Trees Ref} → UnfoldAll e rs ts → (us : Trees Ref) × UnfoldAll k rs us
    part_values none = (Nil, none)
    part_values (one d ds) = let (u, a) = part_value d in let (us, b) = part_values ds in (More u us, one a b)

  part_walk : {r s : Ref} → Plus (Leads k) r s → Plus (Leads e) r s
  part_walk (step {a = r} (b, f, m)) = step (b, part_of r b f, m)
  part_walk (more {a = r} (b, f, m) w) = more (b, part_of r b f, m) (part_walk w)

  pub part_acyclic : AreAcyclic e → AreAcyclic k
  part_acyclic a = record { values = λ r. part_value (a.values r).1; no_circle = λ r w. a.no_circle r (part_walk w) }

-- each reference of a list has a value
list_of_values : (k : Map) → ((r : Ref) → (t : Value) × Unfolds k r t) → (rs : List Ref) → (ts : List Value) × AllUnfold k rs ts
list_of_values k f [] = ([], tt)
list_of_values k f (r ∷ rs) = let (t, a) = f r in let (ts, b) = list_of_values k f rs in (t ∷ ts, (a, b))

row_of_values : (g : Grammar) (k : Map) → ((r : Ref) → (t : Value) × Unfolds k r t) → (h : Held) → (q : Row) × IsRead g k h q
row_of_values g k f h =
    let (is', a) = list_of_values k f h.inherited in
    let (rs, b) = list_of_values k f (map (result h.node) (upto 1 (gives g h.sort))) in
    (record { node = h.node; sort = h.sort; inherited = is'; results = rs; state = h.state }, record { node = refl; sort = refl; state = refl; inherited = a; results = b })

-- so there are rows to be read
pub rows_of_values : (g : Grammar) (k : Held → Map) → ((h : Held) (r : Ref) → (t : Value) × Unfolds (k h) r t) → (hs : List Held) → (c : Config) × Pairs (λ h q. IsRead g (k h) h q) hs c
rows_of_values g k f [] = ([], tt)
rows_of_values g k f (h ∷ hs) = let (q, a) = row_of_values g (k h) (f h) h in let (c, b) = rows_of_values g k f hs in (q ∷ c, (a, b))
