-- What the patterns of a rule bind is a part of some inherited value.
use Rattle.std.proofs.Common.{◌≡◌, ℕ, suc, List, [], ◌∷◌, refl, sym, subst, inl, inr}
use Rattle.aw_list.specs.Members.{Member}
use Rattle.aw_list.proofs.Members.{never, member_split}
use Rattle.aw_term.specs.Trees.{In}
use Rattle.aw_term.specs.Names.{Ref}
use Rattle.aw_term.specs.Rules.{Term, Value}
use Rattle.aw_term.specs.Matching.{Yes, under, match, match_all}
use Rattle.aw_accept.specs.Acyclic.{Pairs}
use Rattle.aw_term.specs.WellFormed.{leaves}
use Rattle.aw_accept.proofs.Binding.{Piece, match-parts, under-yes, and_then-yes, yes-inj}

-- what a match binds is a part of some tree
pub match_all-parts : (n : ℕ) (ps : List Term) (ts : List Value) (bs : List Value) → match_all n ps ts ≡ Yes bs → (b : Value) → Member b bs → (h : Ref) → In h b → (t : Value) × Member t ts × In h t
match_all-parts n [] ts bs e b m h w = never (subst (Member b) (sym (yes-inj e)) m)
match_all-parts n (p ∷ ps) [] bs e b m h w = absurd cc
match_all-parts n (p ∷ ps) (t ∷ ts) bs e b m h w =
    let (xs, ys, x, y, j) = and_then-yes (under n (match p t)) (match_all (suc n) ps ts) bs e in
    let u = match-parts p t xs (under-yes n (match p t) xs x) in
    elim (member_split b xs ys (subst (Member b) (sym j) m)) [
      | inl o ↦ (t, inl refl, of_pairs (leaves p) xs u o)
      | inr o ↦ (let (t', m', i) = match_all-parts (suc n) ps ts ys y b o h w in (t', inr m', i))
    ]
  where
    of_pairs : (vs : List ℕ) (xs : List Value) → Pairs (λ v b. Piece t b) vs xs → Member b xs → In h t
    of_pairs [] [] p m = never m
    of_pairs [] (x ∷ xs) p m = never p
    of_pairs (v ∷ vs) [] p m = never p
    of_pairs (v ∷ vs) (x ∷ xs) p (inl e) = p.0 h (subst (In h) e w)
    of_pairs (v ∷ vs) (x ∷ xs) p (inr m) = of_pairs vs xs p.1 m
