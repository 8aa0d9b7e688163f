-- The texts of constructors with and without parts.
use Rattle.std.proofs.Common.{◌≡◌, ℕ, refl, sym, ap, ◌∙◌, subst, List, [], ◌∷◌, ◌++◌, codes, map, append_assoc}
use Rattle.aw_term.specs.Trees.{Con, Made, join}
use Rattle.aw_term.specs.Rules.{Term, get}
use Rattle.aw_term.specs.WellFormed.{Each}
use Rattle.aw_grammar.specs.Written.{Then, side_by_side}
use Rattle.aw_spec_writer.specs.LineTexts.{term_text, parts_text, terms_text}
use Rattle.aw_spec_writer.specs.SpecLines.{named, named_parts}
use Rattle.aw_spec_writer.specs.Writable.{NumbersFit, PartsFit}

named_join : (cons vars : List (List ℕ)) (ts : List Term) → named_parts cons vars (join ts) ≡ side_by_side (map (named cons vars) ts)
named_join cons vars [] = refl
named_join cons vars (t ∷ ts) = ap (Then (named cons vars t)) (named_join cons vars ts)

bare_text : (cons vars : List (List ℕ)) (c : ℕ) (ts : List Term) → ts ≡ [] → term_text (named cons vars (Made (Con c) (join ts))) ≡ get [] cons c
bare_text cons vars c [] e = refl
bare_text cons vars c (t ∷ ts) e = cc

full_text : (cons vars : List (List ℕ)) (c : ℕ) (ts : List Term) → (ts ≡ [] → ⊥) → term_text (named cons vars (Made (Con c) (join ts))) ≡ get [] cons
    c ++ (codes "(" ++ (terms_text (map (named cons vars) ts) ++ codes ")"))
full_text cons vars c [] some = absurd (some refl)
full_text cons vars c (t ∷ ts) some = ap (λ ps. get [] cons c ++ (codes "(" ++ (parts_text ps ++ codes ")"))) (named_join cons vars (t ∷ ts))

parts_fit : (ts : List Term) → Each NumbersFit ts → PartsFit (join ts)
parts_fit [] each = tt
parts_fit (t ∷ ts) each = (each.0, parts_fit ts each.1)

no_parts : {A : Type 0} (view : A → Term) (parts : List A) → parts ≡ [] → map view parts ≡ []
no_parts view parts e = ap (map view) e

some_parts : {A : Type 0} (view : A → Term) (parts : List A) → (parts ≡ [] → ⊥) → map view parts ≡ [] → ⊥
some_parts view [] some e = some refl
some_parts view (p ∷ parts) some e = absurd cc

-- a constructor without parts was added
pub bare_added : {A : Type 0} (view : A → Term) (cons vars : List (List ℕ)) (t : Term) (c : ℕ) (parts : List A) (text name new : List ℕ) →
    t ≡ Made (Con c) (join (map view parts)) → parts ≡ [] → name ≡ get [] cons c → new ≡ text ++ name →
    new ≡ text ++ term_text (named cons vars t)
bare_added view cons vars t c parts text name new e none n h =
    h ∙ ap (λ u. text ++ u) (n ∙ sym (ap (λ u. term_text (named cons vars u)) e ∙ bare_text cons vars c (map view parts) (no_parts view parts none)))

-- a constructor with parts was added
pub full_added : {A : Type 0} (view : A → Term) (cons vars : List (List ℕ)) (t : Term) (c : ℕ) (parts : List A) (text name t1 t2 t3 t4 : List ℕ) →
    t ≡ Made (Con c) (join (map view parts)) → (parts ≡ [] → ⊥) → name ≡ get [] cons c →
    t1 ≡ text ++ name → t2 ≡ t1 ++ codes "(" → t3 ≡ t2 ++ terms_text (map (named cons vars) (map view parts)) → t4 ≡ t3 ++ codes ")" → t4 ≡ text ++ term_text (named cons vars t)
full_added view cons vars t c parts text name t1 t2 t3 t4 e some n e1 e2 e3 e4 =
    let x = get [] cons c in
    let ps = terms_text (map (named cons vars) (map view parts)) in
    e4 ∙ ap (λ u. u ++ codes ")") (e3 ∙ ap (λ u. u ++ ps) (e2 ∙ ap (λ u. u ++ codes "(") (e1 ∙ ap (λ u. text ++ u) n)))
    ∙ regroup text x (codes "(") ps (codes ")")
    ∙ ap (λ u. text ++ u) (sym (ap (λ u. term_text (named cons vars u)) e ∙ full_text cons vars c (map view parts) (some_parts view parts some)))
  where
    regroup : (a b c d e : List ℕ) → (((a ++ b) ++ c) ++ d) ++ e ≡ a ++ (b ++ (c ++ (d ++ e)))
    regroup a b c d e = simp append_assoc

pub made_fits : {A : Type 0} (view : A → Term) (t : Term) (c : ℕ) (parts : List A) → t ≡ Made (Con c) (join (map view parts)) → Each NumbersFit (map view parts) → NumbersFit t
made_fits view t c parts e each = subst NumbersFit (sym e) (tt, parts_fit (map view parts) each)

pub bare_fits : {A : Type 0} (view : A → Term) (t : Term) (c : ℕ) (parts : List A) → t ≡ Made (Con c) (join (map view parts)) → parts ≡ [] → NumbersFit t
bare_fits view t c parts e none = made_fits view t c parts e (subst (Each NumbersFit) (sym (no_parts view parts none)) tt)
