-- What the printers keep, one beside each workspace.
use Rattle.std.proofs.Common.{◌≡◌, ℕ, zero, suc, ◌<◌, arith, List, [], ◌∷◌, ◌++◌, length, sym, refl, subst, Option, Some, slice_get}
use Rattle.std.specs.Prelude.{Result, Err, None, IsSome, slice_set, option_and_then}
use Rattle.std.proofs.lemmas.Option.{same_Some, slice_get_within}
use Rattle.aw_accept.specs.Acyclic.{Pairs}
use Rattle.aw_out.specs.declared.error.PrintFault.{PrintFault}
use Rattle.aw_out.specs.declared.error.PrintFault.TheVariants.{NoMemory}
use Rattle.aw_out.specs.Report.{Bounded, Prints}
use Rattle.aw_out.proofs.Printing.{printed-nil}
use Rattle.aw_grammar.specs.declared.grammar.Grammar.{Grammar}
use Rattle.aw_print.specs.declared.stack.Printer.{Printer}
use Rattle.aw_print.specs.Growing.{HasGrown}
use Rattle.aw_print.specs.Stacks.{IsNew}
use Rattle.aw_world.specs.declared.workspace.Workspace.{Ghosts}
use Rattle.aw_world.specs.declared.merging.Spot.{Spot}
use Rattle.aw_world.specs.Merged.{held_at}
use Rattle.aw_world.specs.Seen.{KeepEach}

module _ {A B : Type 0} (R : A → B → Type 0) where
  pub pairs_got : (xs : List A) (ys : List B) (i : ℕ) (x : A) (y : B) → Pairs R xs ys → slice_get xs i ≡ Some x → slice_get ys i ≡ Some y → R x y
  pairs_got [] ys i x y p e f = absurd cc
  pairs_got (a ∷ xs) [] i x y p e f = elim p [ ]
  pairs_got (a ∷ xs) (b ∷ ys) zero x y p e f = subst (λ z. R z y) (same_Some a x e) (subst (R a) (same_Some b y f) p.0)
  pairs_got (a ∷ xs) (b ∷ ys) (suc i) x y p e f = pairs_got xs ys i x y p.1 e f

  pub pairs_renewed : (xs : List A) (ys : List B) (i : ℕ) (x : A) (y : B) → Pairs R xs ys → slice_get xs i ≡ Some x → R x y → Pairs R xs (slice_set ys i y)
  pairs_renewed [] ys i x y p e r = absurd cc
  pairs_renewed (a ∷ xs) [] i x y p e r = elim p [ ]
  pairs_renewed (a ∷ xs) (b ∷ ys) zero x y p e r = (subst (λ z. R z y) (sym (same_Some a x e)) r, p.1)
  pairs_renewed (a ∷ xs) (b ∷ ys) (suc i) x y p e r = (p.0, pairs_renewed xs ys i x y p.1 e r)

some_within : {A : Type 0} (xs : List A) (i : ℕ) (o : Option A) → slice_get xs i ≡ o → IsSome o → i < length xs
some_within xs i None e h = absurd cc
some_within xs i (Some x) e h = slice_get_within xs i x e

-- the place is one of the workspace
pub place_within : {W : Type 0} (f : Ghosts W) (ws : List W) (s : Spot) (w : W) → slice_get ws s.site ≡ Some w → IsSome (held_at f ws s) → s.place < length (f.its_nodes w)
place_within f ws s w here h = some_within (f.its_nodes w) s.place (slice_get (f.its_nodes w) s.place) refl (subst (λ o. IsSome (option_and_then (λ x. slice_get (f.its_nodes x) s.place) o)) here h)

-- each keeps nothing yet
abbrev pub AreNew : List Printer → Type 0
AreNew [] = Unit {0}
AreNew (p ∷ ps) = IsNew p × AreNew ps

pub new_more : (ps : List Printer) (p : Printer) → AreNew ps → IsNew p → AreNew (ps ++ p ∷ [])
new_more [] p all new = (new, tt)
new_more (x ∷ ps) p all new = (all.0, new_more ps p all.1 new)

pub keep_new : {W : Type 0} (f : Ghosts W) → ((w : W) (g : Grammar) (report : Bounded) (p : Printer) → IsNew p → f.keeps w g report p) →
    (g : Grammar) (report : Bounded) (ws : List W) (ps : List Printer) → length ps ≡ length ws → AreNew ps → KeepEach f g report ws ps
keep_new f law g report [] [] l all = tt
keep_new f law g report [] (p ∷ ps) l all = absurd (omega (arith, l))
keep_new f law g report (w ∷ ws) [] l all = absurd (omega (arith, l))
keep_new f law g report (w ∷ ws) (p ∷ ps) l all = (law w g report p all.0, keep_new f law g report ws ps (omega (arith, l)) all.1)

-- all that is kept stays so where the report grows
pub keep_on : {W : Type 0} (f : Ghosts W) → ((w : W) (g : Grammar) (old new : Bounded) (p : Printer) → HasGrown old new → f.keeps w g old p →
    f.keeps w g new p) → (g : Grammar) (old new : Bounded) → HasGrown old new → (ws : List W) (ps : List Printer) →
    KeepEach f g old ws ps → KeepEach f g new ws ps
keep_on f law g old new grown [] [] kept = tt
keep_on f law g old new grown [] (p ∷ ps) kept = kept
keep_on f law g old new grown (w ∷ ws) [] kept = kept
keep_on f law g old new grown (w ∷ ws) (p ∷ ps) kept = (law w g old new p grown kept.0, keep_on f law g old new grown ws ps kept.1)

-- nothing was printed, since memory is missing
pub nothing_printed : (t : List ℕ) (report : Bounded) (r : Result Unit PrintFault) → r ≡ Err NoMemory → Prints t report report r
nothing_printed t report r e = subst (Prints t report report) (sym e) (record {
  ok = tt;
  too_large = λ f. absurd (cc f);
  front = (0, omega arith, sym (printed-nil report));
})
