-- Where a reference unfolds to a value, its drafts come to the text of the value.
use Rattle.std.proofs.Common.{◌≡◌, ℕ, zero, suc, ◌+◌, ◌≤◌, List, [], ◌∷◌, ◌++◌, map, codes, Some, refl, ap, ◌∙◌, arith, append_assoc, append-nil}
use Rattle.aw_term.specs.Trees.{Tree, Leaf, Made, Trees}
use Rattle.aw_term.specs.Names.{Node, Ref}
use Rattle.aw_term.specs.Rules.{Value}
use Rattle.aw_term.specs.Configs.{State}
use Rattle.aw_term.specs.Artifacts as A
use Rattle.aw_term.specs.Artifacts.{Words, head_text, ref_text, value_text, trees_texts, node_text, state_text}
use Rattle.aw_store.specs.Equations.{Same, Map, find}
use Rattle.aw_store.proofs.Ends.{At_body, At_missing, Ends, stands, lacks, follows}
use Rattle.aw_store.specs.Unfold.{Unfolds, UnfoldAll, missing, same, is, none, one}
use Rattle.aw_print.specs.Drafts.{Whole, then, listed, with_parts, draft_on, draft}
use Rattle.aw_print.specs.Rows.{AllUnfold, opening_of_row, row_draft, line_text}
use Rattle.aw_store.proofs.ChaseEnds.{ends-chase}

listed_whole : (ts : List (List ℕ)) → listed (map Whole ts) ≡ Whole (A.listed ts)
listed_whole [] = refl
listed_whole (t ∷ []) = ap Whole (append-nil t)
listed_whole (t ∷ u ∷ us) = ap (λ d. then (Whole t) (then (Whole (codes ", ")) d)) (listed_whole (u ∷ us))

parts_whole : (head : List ℕ) (ts : List (List ℕ)) → with_parts head (map Whole ts) ≡ Whole (A.with_parts head ts)
parts_whole head [] = refl
parts_whole head (t ∷ ts) =
    ap (λ d. then (Whole (head ++ codes "(")) (then d (Whole (codes ")")))) (listed_whole (t ∷ ts))
    ∙ ap Whole (append_assoc head (codes "(") (A.listed (t ∷ ts) ++ codes ")"))

module _ (w : Words) (k : Map) where
  abbrev leaf : Ref → List ℕ
  leaf r = codes "?" ++ ref_text w r

  -- from some depth on the drafts are whole
  abbrev WholeFrom : ℕ → Ref → Tree Ref → Type 0
  WholeFrom l r t = (n : ℕ) → l ≤ n → draft n w k r ≡ Whole (value_text w t)

  abbrev AllFrom : ℕ → List Ref → Trees Ref → Type 0
  AllFrom l rs ts = (n : ℕ) → l ≤ n → map (draft n w k) rs ≡ map Whole (trees_texts w leaf ts)

  -- where the chase of a reference with this value ends
  abbrev EndOf : Ref → Tree Ref → Type 0
  EndOf r (Leaf s) = (n : ℕ) × Ends k (At_missing s) n r
  EndOf r (Made h ts) = (rs : List Ref) × (n : ℕ) × Ends k (At_body h rs) n r × (l : ℕ) × AllFrom l rs ts

  bump : (r s : Ref) (t : Tree Ref) → find k r ≡ Some (Same s) → EndOf s t → EndOf r t
  bump r s (Leaf x) f (n, d) = (suc n, follows f d)
  bump r s (Made h ts) f (rs, n, d, l, a) = (rs, suc n, follows f d, l, a)

  whole_from : (r : Ref) (t : Tree Ref) → EndOf r t → (l : ℕ) × WholeFrom l r t
  whole_from r (Leaf s) (m, d) = (1, go)
    where
      go : (n : ℕ) → 1 ≤ n → draft n w k r ≡ Whole (leaf s)
      go zero le = absurd (omega (arith, le))
      go (suc n) le = ap (draft_on w (draft n w k) r) (ends-chase k (At_missing s) d)
  whole_from r (Made h ts) (rs, m, d, l, a) = (suc l, go)
    where
      go : (n : ℕ) → suc l ≤ n → draft n w k r ≡ Whole (value_text w (Made h ts))
      go zero le = absurd (omega (arith, le))
      go (suc n) le = ap (draft_on w (draft n w k) r) (ends-chase k (At_body h rs) d) ∙ ap (with_parts (head_text w h)) (a n (omega (arith, le))) ∙ parts_whole (head_text w h) (trees_texts w leaf ts)

  mutual
    end_of : {r : Ref} {t : Tree Ref} → Unfolds k r t → EndOf r t
    end_of (missing f) = (0, lacks f refl)
    end_of (same {r = r} {s = s} {t = t} f d) = bump r s t f (end_of d)
    end_of (is {rs = rs} f ds) = let (l, a) = all_from ds in (rs, 0, stands f refl, l, a)

    all_from : {rs : List Ref} {ts : Trees Ref} → UnfoldAll k rs ts → (l : ℕ) × AllFrom l rs ts
    all_from none = (0, λ n le. refl)
    all_from (one {r = r} {t = t} d ds) =
        let (l, a) = whole_from r t (end_of d) in
        let (m, b) = all_from ds in
        (l + m, λ n le. let p = a n (omega (arith, le)) in let q = b n (omega (arith, le)) in λ i. p i ∷ q i)

  pub values_from : (rs : List Ref) (ts : List Value) → AllUnfold k rs ts → (l : ℕ) × ((n : ℕ) → l ≤ n → map (draft n w k) rs ≡ map Whole (map (value_text w) ts))
  values_from [] [] a = (0, λ n le. refl)
  values_from [] (t ∷ ts) a = elim a [ ]
  values_from (r ∷ rs) [] a = elim a [ ]
  values_from (r ∷ rs) (t ∷ ts) (u, a) =
      let (l, h) = whole_from r t (end_of u) in
      let (m, b) = values_from rs ts a in
      (l + m, λ n le. let p = h n (omega (arith, le)) in let q = b n (omega (arith, le)) in λ i. p i ∷ q i)

  -- from some depth on the line is that of the values
  pub line_from : (node : Node) (s : State) (from outs_of : List Ref) (ins outs : List Value) → AllUnfold k from ins → AllUnfold k outs_of outs →
      (l : ℕ) × ((n : ℕ) → l ≤ n → row_draft n w k node s from outs_of ≡ Whole (line_text w node s ins outs))
  line_from node s from outs_of ins outs a b =
      let (l, f) = values_from from ins a in
      let (m, g) = values_from outs_of outs b in (
        l + m,
        λ n le.
            let p : listed (map (draft n w k) from) ≡ Whole (A.listed (map (value_text w) ins)) = ap listed (f n (omega (arith, le))) ∙ listed_whole (map (value_text w) ins) in
            let q : listed (map (draft n w k) outs_of) ≡ Whole (A.listed (map (value_text w) outs)) = ap listed (g n (omega (arith, le))) ∙ listed_whole (map (value_text w) outs) in
            (λ i. then (Whole (opening_of_row w node s)) (then (p i) (then (Whole (codes ") <")) (then (q i) (Whole (codes ">\n"))))))
            ∙ ap Whole (regroup (node_text w node) (state_text w s) (A.listed (map (value_text w) ins) ++ (codes ") <" ++ (A.listed (map (value_text w) outs) ++ codes ">\n")))),
      )
    where
      regroup : (a b c : List ℕ) → (a ++ (codes " " ++ (b ++ codes " ("))) ++ c ≡ a ++ (codes " " ++ (b ++ (codes " (" ++ c)))
      regroup a b c = append_assoc a (codes " " ++ (b ++ codes " (")) c ∙ ap (λ t. a ++ (codes " " ++ t)) (append_assoc b (codes " (") c)
