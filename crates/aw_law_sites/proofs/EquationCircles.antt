-- A reference with a value is on no circle.
use Rattle.std.proofs.Common.{◌≡◌, List, Option, Some, None, refl, sym, ◌∙◌, subst, inl, inr}
use Rattle.std.specs.Prelude.{◌⊎◌}
use Rattle.std.proofs.lemmas.Option.{same_Some}
use Rattle.aw_list.specs.Members.{Member}
use Rattle.aw_list.proofs.Members.{never}
use Rattle.aw_term.specs.Trees.{Never, Tree, Trees}
use Rattle.aw_term.specs.Names.{Ref}
use Rattle.aw_term.specs.Configs.{Config}
use Rattle.aw_store.specs.Equations.{Body, Map, find, mentions}
use Rattle.aw_store.specs.Unfold.{Unfolds, UnfoldAll, missing, same, is, none, one}
use Rattle.aw_iograph.specs.Graphs.{Plus, step, more}
use Rattle.aw_law_sites.specs.Laws.{Leads, AreAcyclic}
use Rattle.aw_law_sites.proofs.EquationValues.{HaveValues}

module _ (k : Map) where
  -- nothing that it reaches, in no step or more, is on a circle
  abbrev IsFree : Ref → Type 0
  IsFree r = (s : Ref) → (r ≡ s) ⊎ Plus (Leads k) r s → Plus (Leads k) s s → Never

  free_from : (r : Ref) → ((u : Ref) → Leads k r u → IsFree u) → IsFree r
  free_from r h s (inl e) w = round (subst (λ s. Plus (Leads k) s s) (sym e) w)
    where
      round : Plus (Leads k) r r → Never
      round (step m) = h r m r (inl refl) (step m)
      round (more m w) = h _ m r (inr w) (more m w)
  free_from r h s (inr (step m)) w = h s m s (inl refl) w
  free_from r h s (inr (more m v)) w = h _ m s (inr v) w

  mutual
    free : {r : Ref} {t : Tree Ref} → Unfolds k r t → IsFree r
    free (missing f) = free_from _ (λ u m. let z : None ≡ Some m.0 = sym f ∙ m.1 in absurd cc)
    free (same f d) = free_from _ (λ u m. elim (subst (λ b. Member u (mentions b)) (same_Some _ _ (sym m.1 ∙ f)) m.2) [ inl e ↦ subst IsFree (sym e) (free d) | inr n ↦ never n ])
    free (is f ds) = free_from _ (λ u m. all_free ds u (subst (λ b. Member u (mentions b)) (same_Some _ _ (sym m.1 ∙ f)) m.2))

    all_free : {rs : List Ref} {ts : Trees Ref} → UnfoldAll k rs ts → (u : Ref) → Member u rs → IsFree u
    all_free none u m = never m
    all_free (one d ds) u (inl e) = subst IsFree (sym e) (free d)
    all_free (one d ds) u (inr m) = all_free ds u m

  value_at : (c : Config) → HaveValues k c → (r : Ref) (o : Option Body) → find k r ≡ o → (t : Tree Ref) × Unfolds k r t
  value_at c h r None e = (_, missing e)
  value_at c h r (Some b) e = let (t, d, o) = h r b e in (t, d)

  pub acyclic : (c : Config) → HaveValues k c → AreAcyclic k
  acyclic c h = record {
    values = λ r. value_at c h r (find k r) refl;
    no_circle = λ r w. let (t, d) = value_at c h r (find k r) refl in free d r (inl refl) w;
  }
