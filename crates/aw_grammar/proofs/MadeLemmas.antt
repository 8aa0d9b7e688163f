-- Patterns and expressions made from what their parts stand for.
use Rattle.std.proofs.Common.{◌≡◌, ℕ, List, [], map, Some, sym, ap, ◌∙◌}
use Rattle.aw_name_index.specs.Places.{place_of, number_of}
use Rattle.aw_term.specs.Trees.{Con, Leaf, Made, Nil, bind, join}
use Rattle.aw_term.specs.Views.{pattern_of, term_of}
use Rattle.aw_term.specs.declared.term.Pattern as pattern
use Rattle.aw_term.specs.declared.term.Expr as expr
use Rattle.aw_term.proofs.ViewLemmas.{pattern_con, term_con}
use Rattle.aw_grammar.specs.declared.raw.RawTerm.{RawTerm}
use Rattle.aw_grammar.specs.declared.raw.RawTerm as raw
use Rattle.aw_grammar.specs.Written.{Word, written_of}
use Rattle.aw_grammar.specs.Resolved.{word_tree, numbered}
use Rattle.aw_grammar.proofs.TermLemmas.{numbered_apply}

word_con : (cons variables : List (List ℕ)) (x : List ℕ) (c : ℕ) → Some c ≡ place_of x cons → Made (Con c) Nil ≡ numbered cons variables (Word x)
word_con cons variables x c h = ap (λ o. bind (λ y. Leaf (number_of y variables)) (word_tree x o)) h

pub word_pattern : (cons variables : List (List ℕ)) (x : List ℕ) (c : ℕ) (ps : List pattern.Pattern) → ps ≡ [] → Some c ≡ place_of x cons →
    pattern_of (pattern.Con c ps) ≡ numbered cons variables (Word x)
word_pattern cons variables x c ps none h = pattern_con c ps ∙ ap (λ qs. Made (Con c) (join (map pattern_of qs))) none ∙ word_con cons variables x c h

pub word_term : (cons variables : List (List ℕ)) (x : List ℕ) (c : ℕ) (ps : List expr.Expr) → ps ≡ [] → Some c ≡ place_of x cons → term_of (expr.Con c ps) ≡ numbered cons variables (Word x)
word_term cons variables x c ps none h = term_con c ps ∙ ap (λ qs. Made (Con c) (join (map term_of qs))) none ∙ word_con cons variables x c h

pub made_pattern : (cons variables : List (List ℕ)) (t : RawTerm) (name : List ℕ) (parts : List RawTerm) (c : ℕ) (ps : List pattern.Pattern) →
    t ≡ raw.Apply name parts → c ≡ number_of name cons → map pattern_of ps ≡ map (numbered cons variables) (map written_of parts) →
    pattern_of (pattern.Con c ps) ≡ numbered cons variables (written_of t)
made_pattern cons variables t name parts c ps e number each =
    pattern_con c ps ∙ ap (λ n. Made (Con n) (join (map pattern_of ps))) number ∙ ap (λ ts. Made (Con (number_of name cons)) (join ts)) each
    ∙ sym (ap (λ w. numbered cons variables (written_of w)) e ∙ numbered_apply cons variables name parts)

pub made_term : (cons variables : List (List ℕ)) (t : RawTerm) (name : List ℕ) (parts : List RawTerm) (c : ℕ) (ps : List expr.Expr) →
    t ≡ raw.Apply name parts → c ≡ number_of name cons → map term_of ps ≡ map (numbered cons variables) (map written_of parts) →
    term_of (expr.Con c ps) ≡ numbered cons variables (written_of t)
made_term cons variables t name parts c ps e number each =
    term_con c ps ∙ ap (λ n. Made (Con n) (join (map term_of ps))) number ∙ ap (λ ts. Made (Con (number_of name cons)) (join ts)) each
    ∙ sym (ap (λ w. numbered cons variables (written_of w)) e ∙ numbered_apply cons variables name parts)
