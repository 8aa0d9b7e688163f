-- Bodies by slots beside bodies by references.
use Rattle.std.proofs.Common.{◌≡◌, ℕ, suc, Bool, true, false, List, [], ◌∷◌, length, Option, Some, None, refl, ap, sym, ◌∙◌, subst, Decides}
use Rattle.std.specs.Prelude.{slice_get, ◌&&◌, nat_lt, option_map}
use Rattle.std.specs.Cmp.Lexicographic.{pointwise_decides}
use Rattle.std.proofs.lemmas.Bool.{and_parts}
use Rattle.std.proofs.lemmas.Bool.Decides.{Decides-eqb, Decides-and, Decides-like}
use Rattle.aw_list.proofs.Everyday.{get_within as here}
use Rattle.aw_term.specs.Trees as T
use Rattle.aw_term.specs.Names.{Ref}
use Rattle.aw_store.specs.Refs.{ref_eq}
use Rattle.aw_store.specs.Equations as P
use Rattle.aw_store.specs.EquationView.{body_of}
use Rattle.aw_store.specs.declared.equation.Body.{Body}
use Rattle.aw_store.specs.declared.equation.Body.TheVariants as body
use Rattle.aw_name.specs.SameRefs.{ref_Decides}
use Rattle.aw_cells.specs.declared.stored.Stored.{Stored}
use Rattle.aw_cells.specs.declared.stored.Stored.TheVariants.{Missing, Same, Con, Num, Text}
use Rattle.aw_cells.specs.StoredBodies.{with_ref, refs_of, body_from, all_below, fits, is_at, are_at, is_body}
use Rattle.aw_cells.proofs.BodyLemmas.{below}

-- the test of a body is exact
at_Decides : (o : Option Ref) (n r : Ref) → o ≡ Some n → Decides (is_at o r) (n ≡ r)
at_Decides None n r e = absurd cc
at_Decides (Some m) n r e = let f : m ≡ n = cc in subst (λ x. Decides (ref_eq m r) (x ≡ r)) f (ref_Decides m r)

head_tail : (o : Option Ref) (n r : Ref) (ns rs : List Ref) (a b : Bool) → o ≡ Some n → Decides a (n ≡ r) → Decides b (ns ≡ rs) → Decides (a && b) (with_ref o ns ≡ r ∷ rs)
head_tail o n r ns rs a b e d f =
    let g : with_ref o ns ≡ n ∷ ns = ap (λ x. with_ref x ns) e in
    Decides-like _ (λ p. g ∙ (λ i. p.0 i ∷ p.1 i)) (λ h. let k = sym g ∙ h in (cc, cc)) (Decides-and _ _ d f)

are_Decides : (ns : List Ref) (ss : List ℕ) (rs : List Ref) → all_below (length ns) ss ≡ true → Decides (are_at ns ss rs) (refs_of ns ss ≡ rs)
are_Decides ns [] [] w = (λ e. refl, λ e. refl)
are_Decides ns [] (r ∷ rs) w = (λ e. cc, λ e. cc)
are_Decides ns (s ∷ ss) [] w =
    let h = here ns s (below s _ (and_parts (nat_lt s (length ns)) _ w).0) in
    (λ e. cc, λ e. let k = sym (ap (λ x. with_ref x (refs_of ns ss)) h.1) ∙ e in cc)
are_Decides ns (s ∷ ss) (r ∷ rs) w =
    let (a, b) = and_parts (nat_lt s (length ns)) _ w in
    let h = here ns s (below s _ a) in
    head_tail (slice_get ns s) h.0 r (refs_of ns ss) rs (is_at (slice_get ns s) r) (are_at ns ss rs) h.1 (at_Decides (slice_get ns s) h.0 r h.1) (are_Decides ns ss rs b)

same_Decides : (o : Option Ref) (n r : Ref) → o ≡ Some n → Decides (is_at o r) (option_map P.Same o ≡ Some (P.Same r))
same_Decides o n r e = Decides-like _ (λ p. ap (option_map P.Same) e ∙ ap (λ x. Some (P.Same x)) p) (λ h. let k = sym (ap (option_map P.Same) e) ∙ h in cc) (at_Decides o n r e)

pub body_Decides : (ns : List Ref) (c : Stored) (b : Body) → fits (length ns) c ≡ true → Decides (is_body ns c b) (body_from ns c ≡ Some (body_of b))
body_Decides ns (Same s) (body.Same r) w = let h = here ns s (below s _ w) in same_Decides (slice_get ns s) h.0 r h.1
body_Decides ns (Con c parts) (body.Con d rs) w =
    Decides-like _ (λ z. λ i. Some (P.Is (T.Con (z.0 i)) (z.1 i))) (λ e. (cc, cc))
    (Decides-and _ _ (Decides-eqb c d) (are_Decides ns parts.items rs (and_parts (all_below (length ns) parts.items) _ w).0))
body_Decides ns (Num m) (body.Num n) w = Decides-like _ (ap (λ x. Some (P.Is (T.Num x) []))) (λ e. cc) (Decides-eqb m n)
body_Decides ns (Text t) (body.Text u) w = Decides-like _ (ap (λ x. Some (P.Is (T.Text x) []))) (λ e. cc) (pointwise_decides Decides-eqb t u)
body_Decides ns Missing b w = (λ e. cc, λ e. cc)
body_Decides ns (Same s) (body.Con d rs) w = let h = here ns s (below s _ w) in (λ e. cc, λ e. let k = sym (ap (option_map P.Same) h.1) ∙ e in cc)
body_Decides ns (Same s) (body.Num n) w = let h = here ns s (below s _ w) in (λ e. cc, λ e. let k = sym (ap (option_map P.Same) h.1) ∙ e in cc)
body_Decides ns (Same s) (body.Text t) w = let h = here ns s (below s _ w) in (λ e. cc, λ e. let k = sym (ap (option_map P.Same) h.1) ∙ e in cc)
body_Decides ns (Con c parts) (body.Same r) w = (λ e. cc, λ e. cc)
body_Decides ns (Con c parts) (body.Num n) w = (λ e. cc, λ e. cc)
body_Decides ns (Con c parts) (body.Text t) w = (λ e. cc, λ e. cc)
body_Decides ns (Num m) (body.Same r) w = (λ e. cc, λ e. cc)
body_Decides ns (Num m) (body.Con d rs) w = (λ e. cc, λ e. cc)
body_Decides ns (Num m) (body.Text t) w = (λ e. cc, λ e. cc)
body_Decides ns (Text t) (body.Same r) w = (λ e. cc, λ e. cc)
body_Decides ns (Text t) (body.Con d rs) w = (λ e. cc, λ e. cc)
body_Decides ns (Text t) (body.Num n) w = (λ e. cc, λ e. cc)

pub are_at-longer : (ns : List Ref) (ss : List ℕ) (rs : List Ref) → (length ss ≡ length rs → ⊥) → false ≡ are_at ns ss rs
are_at-longer ns [] [] f = absurd (f refl)
are_at-longer ns [] (r ∷ rs) f = refl
are_at-longer ns (s ∷ ss) [] f = refl
are_at-longer ns (s ∷ ss) (r ∷ rs) f = by (is_at (slice_get ns s) r) (are_at-longer ns ss rs (λ e. f (ap suc e)))
  where
    by : (b : Bool) → false ≡ are_at ns ss rs → false ≡ (b && are_at ns ss rs)
    by true e = e
    by false e = refl
