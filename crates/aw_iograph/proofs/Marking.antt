-- Setting one mark.
use Rattle.std.proofs.Common.{◌≡◌, ℕ, zero, suc, ◌<◌, Bool, true, false, List, [], ◌∷◌, length, slice_set, refl, sym, ap, ◌∙◌, subst, arith, get_or}
use Rattle.std.specs.Prelude.{◌||◌}
use Rattle.aw_iograph.specs.Growth.{Marked, Grown, unset}

pub set_length : (marks : List Bool) (at : ℕ) → length (slice_set marks at true) ≡ length marks
set_length [] at = refl
set_length (m ∷ ms) zero = refl
set_length (m ∷ ms) (suc at) = ap suc (set_length ms at)

pub set_kept : (marks : List Bool) (at k : ℕ) → Marked marks k → Marked (slice_set marks at true) k
set_kept [] at k e = e
set_kept (m ∷ ms) zero zero e = refl
set_kept (m ∷ ms) zero (suc k) e = e
set_kept (m ∷ ms) (suc at) zero e = e
set_kept (m ∷ ms) (suc at) (suc k) e = set_kept ms at k e

pub set_fewer : (marks : List Bool) (at : ℕ) → at < length marks → get_or marks at false ≡ false → unset (slice_set marks at true) < unset marks
set_fewer [] at lt e = absurd (omega arith)
set_fewer (true ∷ ms) zero lt e = cc
set_fewer (false ∷ ms) zero lt e = omega arith
set_fewer (true ∷ ms) (suc at) lt e = let below : at < length ms = omega arith in set_fewer ms at below e
set_fewer (false ∷ ms) (suc at) lt e =
    let below : at < length ms = omega arith in
    let less : unset (slice_set ms at true) < unset ms = set_fewer ms at below e in omega arith

pub grown_set : (marks : List Bool) (at : ℕ) → at < length marks → get_or marks at false ≡ false → Grown marks (slice_set marks at true) true
grown_set marks at lt e = record {
  size = set_length marks at;
  kept = set_kept marks at;
  same = λ off. cc;
  fewer = λ on. set_fewer marks at lt e;
}

pub grown_trans : (a b c : List Bool) (x y z : Bool) → z ≡ (y || x) → Grown a b x → Grown b c y → Grown a c z
grown_trans a b c true true z e p q = record {
  size = q.size ∙ p.size;
  kept = λ k m. q.kept k (p.kept k m);
  same = λ off. cc;
  fewer = λ on. let one =
      p.fewer refl in let two = q.fewer refl in omega arith;
}
grown_trans a b c true false z e p q = record {
  size = q.size ∙ p.size;
  kept = λ k m. q.kept k (p.kept k m);
  same = λ off. cc;
  fewer =
      λ on. subst (λ (m : List Bool). unset m < unset a) (sym (q.same refl)) (p.fewer refl);
}
grown_trans a b c false true z e p q = record {
  size = q.size ∙ p.size;
  kept = λ k m. q.kept k (p.kept k m);
  same = λ off. cc;
  fewer =
      λ on. subst (λ (m : List Bool). unset c < unset m) (p.same refl) (q.fewer refl);
}
grown_trans a b c false false z e p q = record { size = q.size ∙ p.size; kept = λ k m. q.kept k (p.kept k m); same = λ off. q.same refl ∙ p.same refl; fewer = λ on. cc }
