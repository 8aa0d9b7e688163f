-- The text of a name and where its fronts end in it.
use Rattle.std.proofs.Common.{◌≡◌, ℕ, suc, ◌+◌, ◌-◌, ◌≤◌, ◌<◌, List, [], ◌∷◌, ◌++◌, length, take, drop, get_or, codes, refl, ap, sym, subst, ◌∙◌, arith}
use Rattle.std.proofs.Common.{append_assoc, append-nil, inl, inr, slice_get, Some}
use Rattle.std.specs.Fmt.{decimal}
use Rattle.std.proofs.lemmas.List.{take-append-drop, take-take, length-append, length-take-le}
use Rattle.std.proofs.lemmas.Option.{slice_get_within}
use Rattle.std.proofs.Math.Seq.{take-append_seam, take-suc}
use Rattle.aw_term.specs.Names.{Node, Step}
use Rattle.aw_term.specs.Rules.{get}
use Rattle.aw_term.specs.Artifacts.{Words, step_text, steps_text, node_text}
use Rattle.aw_base.specs.NameFronts.{front, AreFronts}
use Rattle.aw_base.proofs.ItemsAt.{in_front, pushed}

-- the texts of steps in two parts
pub steps_join : (w : Words) (ss ts : List Step) → steps_text w (ss ++ ts) ≡ steps_text w ss ++ steps_text w ts
steps_join w [] ts = refl
steps_join w (s ∷ ss) ts = ap (λ t. step_text w s ++ t) (steps_join w ss ts) ∙ sym (append_assoc (step_text w s) (steps_text w ss) (steps_text w ts))

-- the name of a node with more steps
abbrev pub with_steps : Node → List Step → Node
with_steps n ss = record { start = n.start; case = n.case; steps = ss }

pub name_join : (w : Words) (n : Node) (ss ts : List Step) → node_text w (with_steps n (ss ++ ts)) ≡ node_text w (with_steps n ss) ++ steps_text w ts
name_join w n ss ts =
    let s = get [] w.sorts n.start in
    let d = decimal n.case in
    ap (λ t. s ++ (codes "#" ++ (d ++ t))) (steps_join w ss ts)
    ∙ ap (λ t. s ++ (codes "#" ++ t)) (sym (append_assoc d (steps_text w ss) (steps_text w ts)))
    ∙ ap (λ t. s ++ t) (sym (append_assoc (codes "#") (d ++ steps_text w ss) (steps_text w ts)))
    ∙ sym (append_assoc s (codes "#" ++ (d ++ steps_text w ss)) (steps_text w ts))

-- two nodes whose first steps are the same have the same fronts up to there
pub fronts_same : (a b : Node) (c j : ℕ) → a.start ≡ b.start → a.case ≡ b.case → take c a.steps ≡ take c b.steps → j ≤ c → front j a ≡ front j b
fronts_same a b c j s k t l =
    let e = sym (take-take j c a.steps l) ∙ ap (take j) t ∙ take-take j c b.steps l in
    λ i. record { start = s i; case = k i; steps = e i }

-- the name of a front is the name of a shorter front, and more behind it
front_longer : (w : Words) (n : Node) (k m : ℕ) → k ≤ m → node_text w (front m n) ≡ node_text w (front k n) ++ steps_text w (drop k (take m n.steps))
front_longer w n k m l =
    ap (λ ss. node_text w (with_steps n ss)) (sym (take-append-drop k (take m n.steps)) ∙ ap (λ t. t ++ drop k (take m n.steps)) (take-take k m n.steps l))
    ∙ name_join w n (take k n.steps) (drop k (take m n.steps))

-- the name of a front stands in the text up to its end
pub front_stands : (w : Words) (n : Node) (text ends : List ℕ) (k end : ℕ) → AreFronts w n text ends → slice_get ends k ≡ Some end
    → (end ≤ length text) × (take end text ≡ node_text w (front k n))
front_stands w n text ends k end f e =
    let within = slice_get_within ends k end e in
    let m = length ends - 1 in
    let whole = f.last m (omega (arith, within)) ∙ front_longer w n k m (omega (arith, within)) in
    let name = node_text w (front k n) in
    let rest = steps_text w (drop k (take m n.steps)) in
    let at = f.each k end e in (
      subst (λ x. x ≤ length text) (sym at) (subst (λ t. length name ≤ length t) (sym whole) (subst (λ x. length name ≤ x) (sym (length-append name rest)) (omega arith))),
      ap (take end) whole ∙ ap (λ x. take x (name ++ rest)) at ∙ take-append_seam name rest,
    )

-- fewer fronts are known, and the text ends with the last of them
pub fronts_cut : (w : Words) (n : Node) (text ends : List ℕ) (k end : ℕ) (cut fewer : List ℕ) → AreFronts w n text ends → slice_get ends k ≡ Some end
    → cut ≡ take end text → fewer ≡ take (k + 1) ends → AreFronts w n cut fewer
fronts_cut w n text ends k end cut fewer f e t g = record {
  last = λ m l.
      let within = slice_get_within ends k end e in
      let same : m ≡ k = omega (arith, l, ap length g, length-take-le (k + 1) ends (omega (arith, within))) in
      t ∙ (front_stands w n text ends k end f e).1 ∙ ap (λ x. node_text w (front x n)) (sym same);
  each = λ j x h. f.each j x ((in_front (k + 1) ends j x (ap (λ y. slice_get y j) (sym g) ∙ h)).0);
}

-- one more front is known, where the text goes on with the next step
pub fronts_more : (w : Words) (n : Node) (text ends : List ℕ) (at : ℕ) (d : Step) (longer more : List ℕ) → AreFronts w n text ends → length ends ≡ at + 1 → at < length n.steps
    → longer ≡ text ++ step_text w (get_or n.steps at d) → more ≡ ends ++ length longer ∷ [] → AreFronts w n longer more
fronts_more w n text ends at d longer more f l within t e =
    let s = get_or n.steps at d in
    let l' : length ends ≡ suc at = omega (arith, l) in
    let whole : longer ≡ node_text w (front (suc at) n) =
    t ∙ ap (λ x. x ++ step_text w s) (f.last at l')
    ∙ ap (λ x. node_text w (front at n) ++ x) (sym (append-nil (step_text w s)))
    ∙ sym (name_join w n (take at n.steps) (s ∷ []))
    ∙ ap (λ ss. node_text w (with_steps n ss)) (sym (take-suc n.steps at d within)) in
    record {
      last = λ k g.
          let same : k ≡ suc at = omega (arith, l', g, ap length e, length-append ends (length longer ∷ [])) in
          whole ∙ ap (λ x. node_text w (front x n)) (sym same);
      each = λ j end g. elim (pushed ends (length longer) j end (ap (λ x. slice_get x j) (sym e) ∙ g))
          [ inl p ↦ f.each j end p | inr p ↦ p.1 ∙ ap length whole ∙ ap (λ x. length (node_text w (front x n))) (sym l' ∙ sym p.0) ];
    }
