-- The texts of held nodes, one behind the other.
use Rattle.std.proofs.Common.{◌≡◌, ℕ, ◌+◌, Bool, true, false, cond, List, [], ◌∷◌, ◌++◌, drop, refl, sym, ap, ◌∙◌, subst, append_assoc}
use Rattle.std.specs.Prelude.{filter, slice_get, Some}
use Rattle.std.specs.List.{concat}
use Rattle.aw_accept.specs.Acyclic.{Pairs}
use Rattle.aw_grammar.specs.declared.grammar.Grammar.{Grammar}
use Rattle.aw_grammar.specs.GrammarOf.{grammar_of, words_of}
use Rattle.aw_law_worlds.specs.ReadRows.{IsRead}
use Rattle.aw_store.specs.Equations.{Map}
use Rattle.aw_term.specs.Artifacts.{Words, row_text, artifact_text}
use Rattle.aw_term.specs.Configs.{Row, Config}
use Rattle.aw_term.specs.Held.{Held}
use Rattle.aw_book_join.specs.declared.view.View.{View}
use Rattle.aw_book_join.specs.Lines.{IsLine, Told, IsTold}
use Rattle.aw_book_join.specs.Tasks.{row_lines}
use Rattle.aw_book_join.specs.Views.{is_asked}
use Rattle.aw_world.proofs.Lines.{row_here}

-- ---- from texts to what is asked for

-- a line that is asked for, or nothing
told-line : (b : Bool) (line : List ℕ → Type 0) (text : List ℕ) → line text → Told b line (cond b text [])
told-line true line text l = l
told-line false line text l = refl

first-row : (w : Words) (b : Bool) (q : Row) (qs : Config) → cond b (row_text w q) [] ++ artifact_text w qs ≡ artifact_text w (cond b (q ∷ qs) qs)
first-row w true q qs = refl
first-row w false q qs = refl

-- the lines of rows that are read are such texts
pub told-rows : (d : Grammar) (v : View) (k : Map) (hs : List Held) (rows : Config) → Pairs (λ h q. IsRead (grammar_of d) k h q) hs rows →
    (texts : List (List ℕ)) × Pairs (IsTold d v k) hs texts × (concat texts ≡ row_lines (words_of d) v rows)
told-rows d v k [] [] p = ([], tt, refl)
told-rows d v k [] (q ∷ rows) p = elim p [ ]
told-rows d v k (h ∷ hs) [] p = elim p [ ]
told-rows d v k (h ∷ hs) (q ∷ rows) p =
    let rest = told-rows d v k hs rows p.1 in
    let asked = is_asked v h.node h.state in
    let text = row_text (words_of d) q in
    let same : asked ≡ is_asked v q.node q.state = λ i. is_asked v (p.0.node i) (p.0.state i) in
    let line : IsLine d k h text = (q, p.0, refl) in (
      cond (is_asked v q.node q.state) text [] ∷ rest.0,
      (subst (λ (b : Bool). Told asked (IsLine d k h) (cond b text [])) same (told-line asked (IsLine d k h) text line), rest.1),
      ap (λ (t : List ℕ). cond (is_asked v q.node q.state) text [] ++ t) rest.2
          ∙ first-row (words_of d) (is_asked v q.node q.state) q (filter (λ (x : Row). is_asked v x.node x.state) rows),
    )

-- ---- in the middle of texts

-- In front of place i of some texts stand these ones, which make up this text with those behind.
pub record AreFront (texts : List (List ℕ)) (i : ℕ) (front : List ℕ) : Type 0 where
  pub whole : concat texts ≡ front ++ concat (drop i texts)

pub front-none : (texts : List (List ℕ)) → AreFront texts 0 []
front-none texts = record { whole = refl }

-- the text at a place, and those up to it
pub front-more : {H : Type 0} (R : H → List ℕ → Type 0) (hs : List H) (texts : List (List ℕ)) (i j : ℕ) (h : H) (front : List ℕ) → Pairs R hs texts → slice_get hs i ≡ Some h → j ≡ i + 1 →
    AreFront texts i front →
    (text : List ℕ) × R h text × AreFront texts j (front ++ text)
front-more R hs texts i j h front p at next f =
    let here = row_here R hs texts i j h p at next in
    (here.0, here.1, record { whole = f.whole ∙ (ap (λ (ts : List (List ℕ)). front ++ concat ts) here.2 ∙ sym (append_assoc front here.0 (concat (drop j texts)))) })

-- all of them
pub front-all : (texts : List (List ℕ)) (i : ℕ) (front : List ℕ) → drop i texts ≡ [] → AreFront texts i front → concat texts ≡ front ++ []
front-all texts i front none f = f.whole ∙ ap (λ (ts : List (List ℕ)). front ++ concat ts) none
