-- The order of pairs is that of their marks.
use Rattle.std.proofs.Common.{◌≡◌, ℕ, ◌+◌, ◌<◌, ◌≤◌, length, true, Option, Some, None, sym, ◌∙◌, subst, inl, inr, arith}
use Rattle.std.specs.Prelude.{◌⊎◌}
use Rattle.std.proofs.lemmas.Option.{slice_get_within}
use Rattle.aw_list.proofs.Members.{never, below_or_at}
use Rattle.aw_base.specs.declared.declared.Triple.{Triple}
use Rattle.aw_term.specs.Trees.{Never}
use Rattle.aw_iograph.specs.declared.io.Io.{Io}
use Rattle.aw_iograph.specs.Pairs.{IsNumber, mark_of}
use Rattle.aw_modular.specs.declared.part.Part.{Part}
use Rattle.aw_modular.specs.Exceeding.{IsLoose}
use Rattle.aw_modular.specs.Refusals.{IsUpToPair, LeastPair}

order : (a b : ℕ) → a ≤ b → (a < b) ⊎ (a ≡ b)
order a b le = let lt : a < b + 1 = omega (arith, le) in below_or_at a b lt

abbrev mark : Triple → ℕ
mark t = mark_of t.sort t.i t.j

-- a pair whose mark does not come behind that of another is up to it
pub up_to : (t u : Triple) → IsNumber t.i → IsNumber t.j → IsNumber u.i → IsNumber u.j → mark t ≤ mark u → IsUpToPair t u
up_to t u ti tj ui uj le =
    let a : t.sort ≤ u.sort = omega (arith, le, ti.counted, ti.few, tj.counted, tj.few, ui.counted, ui.few, uj.counted, uj.few) in
    elim (order t.sort u.sort a) [
      | inl less ↦ inl less
      | inr same ↦
          (let b : t.i ≤ u.i = omega (arith, le, same, ti.counted, ti.few, tj.counted, tj.few, ui.counted, ui.few, uj.counted, uj.few) in
          elim (order t.i u.i b) [
            | inl less ↦ inr (same, inl less)
            | inr equal ↦ inr (same, inr (equal, omega (arith, le, same, equal, ti.counted, tj.counted, ui.counted, uj.counted)))
          ])
    ]

-- two pairs with one mark are one
pub one_pair : (t u : Triple) → IsNumber t.i → IsNumber t.j → IsNumber u.i → IsNumber u.j → mark t ≡ mark u → t ≡ u
one_pair t u ti tj ui uj e =
    let a : t.sort ≡ u.sort = omega (arith, e, ti.counted, ti.few, tj.counted, tj.few, ui.counted, ui.few, uj.counted, uj.few) in
    let b : t.i ≡ u.i = omega (arith, e, a, ti.counted, ti.few, tj.counted, tj.few, ui.counted, ui.few, uj.counted, uj.few) in
    let c : t.j ≡ u.j = omega (arith, e, a, b, ti.counted, tj.counted, ui.counted, uj.counted) in
    λ k. record { sort = a k; i = b k; j = c k }

-- the same of equal tests
pub least_same : (P Q : Triple → Type 0) (o : Option Triple) → ((t : Triple) → P t → Q t) → ((t : Triple) → Q t → P t) → LeastPair P o → LeastPair Q o
least_same P Q None there back none = λ t q. none t (back t q)
least_same P Q (Some t) there back least = (there t least.0, λ u q. least.1 u (back u q))

-- the pairs with P are of numbers, and none is before a place
module _ (P : Triple → Type 0) (numbers : (t : Triple) → P t → IsNumber t.i × IsNumber t.j) (n : ℕ) (before : (t : Triple) → P t → mark t < n → Never)
    (t : Triple) (at : mark t ≡ n) (i : IsNumber t.i) (j : IsNumber t.j) where
  pub here_least : P t → LeastPair P (Some t)
  here_least p = (p, λ u q. elim (cases (mark u) n) [ inl less ↦ never (before u q less) | inr le ↦ up_to t u i j (numbers u q).0 (numbers u q).1 (omega (arith, at, le)) ])
    where
      cases : (a b : ℕ) → (a < b) ⊎ (b ≤ a)
      cases a b = grind arith

  pub not_here : (P t → Never) → (u : Triple) → P u → mark u < n + 1 → Never
  not_here without u q lt = elim (below_or_at (mark u) n lt) [ inl less ↦ before u q less | inr same ↦ without (subst P (one_pair u t (numbers u q).0 (numbers u q).1 i j (same ∙ sym at)) q) ]

pub loose_numbers : (p : Part) (all found : Io) (t : Triple) → IsLoose p all found t → IsNumber t.i × IsNumber t.j
loose_numbers p all found t loose = (loose.0.inherited, loose.0.result)

-- the mark of a found pair is one of the relation's
pub loose_within : (p : Part) (all found : Io) (t : Triple) → IsLoose p all found t → mark t < length found.marks.items
loose_within p all found t loose = slice_get_within found.marks.items (mark t) true loose.0.marked
