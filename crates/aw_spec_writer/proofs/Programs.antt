-- Specifications of the program, written and read.
use Rattle.std.proofs.Common.{◌≡◌, ℕ, Bool, false, List, [], ◌∷◌, ◌++◌, map, length, refl, sym, ap, ◌∙◌, subst}
use Rattle.std.specs.Prelude.{Result, Ok, Err, IfOk, IfErr}
use Rattle.std.proofs.Math.Logic.{∥∥₁_elim}
use Rattle.aw_lex.specs.Lines.{lines_of}
use Rattle.aw_term.specs.WellFormed.{Each, IsWellFormed}
use Rattle.aw_grammar.specs.declared.grammar.Grammar.{Grammar}
use Rattle.aw_grammar.specs.Declarations.{Entry, grammar_in, words_in}
use Rattle.aw_grammar.specs.declared.rule.Con.{Con}
use Rattle.aw_grammar.specs.declared.rule.Sort.{Sort}
use Rattle.aw_grammar.specs.declared.rule.Rule.{Rule}
use Rattle.aw_grammar.specs.GrammarView.{rule_of}
use Rattle.aw_grammar.specs.GrammarOf.{grammar_of, words_of, entry, declarations_of}
use Rattle.aw_grammar.proofs.Entries.{declared_grammar, declared_words}
use Rattle.aw_grammar.specs.Variables.{VariablesFit}
use Rattle.aw_spec.specs.declared.fault.SpecFault.{SpecFault}
use Rattle.aw_spec.specs.declared.fault.SpecFault.TheVariants.{Bad, NoMemory}
use Rattle.aw_spec.specs.declared.spec_text.SpecText.{SpecText}
use Rattle.aw_spec.specs.Answers.{Spells}
use Rattle.aw_spec.specs.Lines.{Line}
use Rattle.aw_spec.specs.Reading.{Spec, Reading, Good, specification}
use Rattle.aw_spec.specs.TypesFit.{TypesFit}
use Rattle.aw_spec.specs.Views.{spec_seen}
use Rattle.aw_spec_writer.specs.LineTexts.{text_of_lines}
use Rattle.aw_spec_writer.specs.SpecLines.{spec_lines, written}
use Rattle.aw_spec_writer.specs.Writable.{SmallNumbers, VariablesNamed, FacesFit}
use Rattle.aw_spec_writer.proofs.Formed.{law}
use Rattle.aw_spec_writer.proofs.Props.{formed_prop, named_prop}
use Rattle.aw_spec_writer.proofs.Pushing.{two_added as joined}

-- the grammar's declarations are well formed
formed_of : (g : Grammar) → IsWellFormed (words_in (declarations_of g)) (grammar_in (declarations_of g))
formed_of g =
    let w = ∥∥₁_elim g.well_formed (formed_prop (words_of g) (grammar_of g)) (λ x. x) in
    subst (λ x. IsWellFormed x (grammar_in (declarations_of g))) (declared_words g) (subst (IsWellFormed (words_of g)) (declared_grammar g) w)

-- the variables of its rules have names
each_named : (cons : List (List ℕ)) (sorts : List Sort) (rules : List Rule) → Each (λ (r : Rule). VariablesFit cons r.vars (rule_of sorts r)) rules →
    Each (λ (e : Entry). VariablesFit cons e.vars e.rule) (map (entry sorts) rules)
each_named cons sorts [] each = tt
each_named cons sorts (r ∷ rules) each = (each.0, each_named cons sorts rules each.1)

variables_of : (g : Grammar) → VariablesNamed (declarations_of g)
variables_of g =
    each_named (map (λ (c : Con). c.name) g.cons) g.sorts g.rules (∥∥₁_elim g.variables_fit (named_prop g.cons g.sorts g.rules) (λ x. x))

pub again : (s : SpecText) → Each (λ (e : Entry). SmallNumbers e.rule) (declarations_of s.grammar).rules → FacesFit (spec_seen s) → TypesFit (spec_seen s) →
    specification (lines_of (written (spec_seen s))) ≡ Good (spec_seen s) (length (spec_lines (spec_seen s))) false
again s numbers faces types = law (spec_seen s) (record { formed = formed_of s.grammar; numbers = numbers; variables = variables_of s.grammar; faces = faces; types = types })

pub whole_text : (declared faces typing wish rules : List Line) (t0 t1 t2 t3 t4 t5 : List ℕ) → t0 ≡ [] → t1 ≡ t0 ++ text_of_lines declared →
    t2 ≡ t1 ++ text_of_lines faces → t3 ≡ t2 ++ text_of_lines typing → t4 ≡ t3 ++ text_of_lines wish → t5 ≡ t4 ++ text_of_lines rules →
    t5 ≡ text_of_lines (declared ++ (faces ++ (typing ++ (wish ++ rules))))
whole_text declared faces typing wish rules t0 t1 t2 t3 t4 t5 e0 e1 e2 e3 e4 e5 =
    joined declared (faces ++ (typing ++ (wish ++ rules))) t0 t1 t5 e1 (joined faces (typing ++ (wish ++ rules)) t1 t2 t5 e2
    (joined typing (wish ++ rules) t2 t3 t5 e3 (joined wish rules t3 t4 t5 e4 e5)))
    ∙ ap (λ u. u ++ text_of_lines (declared ++ (faces ++ (typing ++ (wish ++ rules))))) e0

-- what reading answers where the text spells a specification
pub ok_read : (r : Result SpecText SpecFault) (reading : Reading) (s : Spec) (n : ℕ) → reading ≡ Good s n false → Spells r reading → IfOk r (λ t. spec_seen t ≡ s)
ok_read (Ok t) reading s n e h = same (spec_seen t) s t.lines n t.loads (sym h ∙ e)
  where
    same : (x y : Spec) (m k : ℕ) (b : Bool) → Good x m b ≡ Good y k false → x ≡ y
    same x y m k b p = cc
ok_read (Err f) reading s n e h = tt

-- and on how many lines
pub lines_read : (r : Result SpecText SpecFault) (reading : Reading) (s : Spec) (n : ℕ) → reading ≡ Good s n false → Spells r reading → IfOk r (λ t. t.lines ≡ n)
lines_read (Ok t) reading s n e h = same (spec_seen t) s t.lines n t.loads (sym h ∙ e)
  where
    same : (x y : Spec) (m k : ℕ) (b : Bool) → Good x m b ≡ Good y k false → m ≡ k
    same x y m k b p = cc
lines_read (Err f) reading s n e h = tt

-- and that it asks for no loads
pub loads_read : (r : Result SpecText SpecFault) (reading : Reading) (s : Spec) (n : ℕ) → reading ≡ Good s n false → Spells r reading → IfOk r (λ t. t.loads ≡ false)
loads_read (Ok t) reading s n e h = same (spec_seen t) s t.lines n t.loads (sym h ∙ e)
  where
    same : (x y : Spec) (m k : ℕ) (b : Bool) → Good x m b ≡ Good y k false → b ≡ false
    same x y m k b p = cc
loads_read (Err f) reading s n e h = tt

pub err_read : (r : Result SpecText SpecFault) (reading : Reading) (s : Spec) (n : ℕ) → reading ≡ Good s n false → Spells r reading → IfErr r (λ f. f ≡ NoMemory)
err_read (Ok t) reading s n e h = tt
err_read (Err (Bad line kind)) reading s n e h = absurd cc
err_read (Err NoMemory) reading s n e h = refl
