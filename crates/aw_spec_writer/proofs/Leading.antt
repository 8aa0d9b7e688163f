-- Lines that lead from one draft to another are read so from their text.
use Rattle.std.proofs.Common.{◌≡◌, ℕ, suc, ◌+◌, ◌≤◌, refl, sym, ap, ◌∙◌, subst, true, false, cond, ◌==◌, not, List, [], ◌∷◌, ◌++◌, map, length, Some, option_map, arith, append_assoc, append-nil}
use Rattle.std.proofs.lemmas.Bool.{and_parts, not-true, le-ltb}
use Rattle.aw_spelling.specs.Spelling.{cut, with_front}
use Rattle.aw_spelling.proofs.NodeNames.{lacks}
use Rattle.aw_lex.specs.Lines.{lines_of, passed_over}
use Rattle.aw_lex.specs.Tokens.{tokens_of}
use Rattle.aw_lex.proofs.LineCuts.{lines_by_cut}
use Rattle.aw_term.specs.Trees as P
use Rattle.aw_term.specs.WellFormed.{Each}
use Rattle.aw_grammar.specs.Written.{Written, Word, Apply, Literal, Writtens, Empty, Then, WrittenChild, side_by_side}
use Rattle.aw_term_reader.specs.Laws.{IsWritten, AreWritten}
use Rattle.aw_spec.specs.Laws.{IsWrittenChild, IsWrittenLine}
use Rattle.aw_spec.specs.Lines.{Line, RoleLine, ConLine, SortLine, StartLine, OfferLine, UseLine, TypeLine, ShapeLine, CarryLine, DependsLine, FreeLine, RuleLine, ScheduleLine}
use Rattle.aw_spec.specs.ReadLine.{line_of}
use Rattle.aw_spec.specs.declared.fault.SpecKind.TheVariants.{Order}
use Rattle.aw_spec.specs.Reading.{Spec, On, says, stage_of, Draft, Next, Fault, at_stage, in_order, if_line, if_tokens, read_line, Good, after_line, read_lines}
use Rattle.aw_spec.proofs.ReadLines.{line_reads}
use Rattle.aw_spec_writer.specs.LineTexts.{line_text, text_of_lines}
use Rattle.aw_spec_writer.proofs.SaysTerms.{IsSpelledTerm, AreSpelledParts, IsSpelledChild, IsSpelledLine, line_says}

-- lines cut at their line feeds

cut_here : (front rest : List ℕ) → lacks 10 front ≡ true → cut 10 (front ++ 10 ∷ rest) ≡ Some (front, rest)
cut_here [] rest h = refl
cut_here (b ∷ bs) rest h =
    let each = and_parts (not (b == 10)) (lacks 10 bs) h in
    ap (λ t. cond t (Some ([], bs ++ 10 ∷ rest)) (option_map (with_front b) (cut 10 (bs ++ 10 ∷ rest)))) (not-true (b == 10) each.0)
    ∙ ap (option_map (with_front b)) (cut_here bs rest each.1)

pub lines_again : (ls : List Line) → Each IsSpelledLine ls → lines_of (text_of_lines ls) ≡ map line_text ls
lines_again [] h = refl
lines_again (l ∷ ls) h =
    lines_by_cut (line_text l) (line_text l ++ 10 ∷ text_of_lines ls) (text_of_lines ls) (cut_here (line_text l) (text_of_lines ls) (line_says l h.0).unbroken)
    ∙ ap (λ xs. line_text l ∷ xs) (lines_again ls h.1)

-- one line

not_passed : (l : Line) → passed_over (line_text l) ≡ false
not_passed (RoleLine name) = refl
not_passed (ConLine name arity) = refl
not_passed (SortLine name role takes gives) = refl
not_passed (StartLine sort) = refl
not_passed (OfferLine sort) = refl
not_passed (UseLine role sort) = refl
not_passed (TypeLine name) = refl
not_passed (ShapeLine con parts own) = refl
not_passed (CarryLine sort takes gives) = refl
not_passed (DependsLine sort i j) = refl
not_passed FreeLine = refl
not_passed (RuleLine rule) = refl
not_passed (ScheduleLine false) = refl
not_passed (ScheduleLine true) = refl

mutual
  term_written : (t : Written) → IsSpelledTerm t → IsWritten t
  term_written (Word n) h = tt
  term_written (Apply n ts) h = parts_written ts h.1
  term_written (Literal (P.Con c)) h = elim h [ ]
  term_written (Literal (P.Num n)) h = tt
  term_written (Literal (P.Text t)) h = tt

  parts_written : (ts : Writtens) → AreSpelledParts ts → AreWritten ts
  parts_written Empty h = tt
  parts_written (Then t ts) h = (term_written t h.0, parts_written ts h.1)

children_written : (cs : List WrittenChild) → Each IsSpelledChild cs → Each IsWrittenChild cs
children_written [] h = tt
children_written (c ∷ cs) h = (parts_written (side_by_side c.args) h.0.args, children_written cs h.1)

line_written : (l : Line) → IsSpelledLine l → IsWrittenLine l
line_written (RoleLine name) h = tt
line_written (ConLine name arity) h = tt
line_written (SortLine name role takes gives) h = tt
line_written (StartLine sort) h = tt
line_written (OfferLine sort) h = tt
line_written (UseLine role sort) h = tt
line_written (TypeLine name) h = tt
line_written (ShapeLine con parts own) h = tt
line_written (CarryLine sort takes gives) h = tt
line_written (DependsLine sort i j) h = tt
line_written FreeLine h = tt
line_written (RuleLine rule) h = (parts_written (side_by_side rule.patterns) h.patterns, parts_written (side_by_side rule.results) h.results, children_written rule.children h.children)
line_written (ScheduleLine loads) h = tt

pub line_again : (d : Draft) (l : Line) → IsSpelledLine l → read_line d (line_text l) ≡ in_order d l
line_again d l h =
    let bytes = line_text l in
    let said = (line_says l h).lexed [] in
    ap (λ b. cond b (Next d) (if_tokens d bytes (tokens_of bytes))) (not_passed l)
    ∙ ap (if_tokens d bytes) said.1
    ∙ ap (λ ls. if_line d (line_of ls)) said.2
    ∙ ap (if_line d) (line_reads l (line_written l h))

-- many lines

abbrev pub Leads : Draft → List Line → Draft → Type 0
Leads d [] e = d ≡ e
Leads d (l ∷ ls) e = (mid : Draft) × (in_order d l ≡ Next mid) × Leads mid ls e

pub leads_read : (d e : Draft) (n : ℕ) (ls : List Line) → Each IsSpelledLine ls → Leads d ls e → read_lines d n (map line_text ls) ≡ Good e.spec (n + length ls) false
leads_read d e n [] h leads =
    let same : n ≡ n + 0 = omega arith in
    ap (λ (x : Draft). Good x.spec n false) leads ∙ ap (λ k. Good e.spec k false) same
leads_read d e n (l ∷ ls) h leads =
    let same : suc n + length ls ≡ n + suc (length ls) = omega arith in
    ap (λ r. after_line d (suc n) r (λ next. read_lines next (suc n) (map line_text ls))) (line_again d l h.0 ∙ leads.1)
    ∙ leads_read leads.0 e (suc n) ls h.1 leads.2
    ∙ ap (λ k. Good e.spec k false) same

leads_both : (d m e : Draft) (xs ys : List Line) → Leads d xs m → Leads m ys e → Leads d (xs ++ ys) e
leads_both d m e [] ys first then = subst (λ x. Leads x ys e) (sym first) then
leads_both d m e (l ∷ xs) ys first then = (first.0, first.1, leads_both first.0 m e xs ys first.2 then)

-- Lines lead from a specification to another, where the last line before them is of a kind up to the first number; their own last is of one up to the second.
abbrev pub Between : ℕ → ℕ → Spec → List Line → Spec → Type 0
Between j k s ls t = (stage : ℕ) → stage ≤ j → (after : ℕ) × (after ≤ k) × Leads (record { spec = s; stage = stage }) ls (record { spec = t; stage = after })

abbrev pub Through : ℕ → Spec → List Line → Spec → Type 0
Through k s ls t = Between k k s ls t

pub through_none : (k : ℕ) (s : Spec) → Through k s [] s
through_none k s = λ stage h. (stage, h, refl)

step_on : (s t : Spec) (stage : ℕ) (l : Line) → stage ≤ stage_of l → says s l ≡ On t → in_order (record { spec = s; stage = stage }) l ≡ Next (record { spec = t; stage = stage_of l })
step_on s t stage l h e =
    ap (λ b. cond b (Fault Order) (at_stage (stage_of l) (says s l))) (le-ltb (stage_of l) stage h) ∙ ap (at_stage (stage_of l)) e

pub through_line : (k : ℕ) (s t : Spec) (l : Line) → stage_of l ≡ k → says s l ≡ On t → Through k s (l ∷ []) t
through_line k s t l at e = λ stage h. (stage_of l, omega (arith, at), (record { spec = t; stage = stage_of l }, step_on s t stage l (omega (arith, at, h)) e, refl))

pub between_both : (j k m n : ℕ) (s t u : Spec) (xs ys : List Line) → k ≤ m → Between j k s xs t → Between m n t ys u → Between j n s (xs ++ ys) u
between_both j k m n s t u xs ys le first then = λ stage h.
    let a = first stage h in
    let b = then a.0 (omega (arith, a.1, le)) in
    (b.0, b.1, leads_both (record { spec = s; stage = stage }) (record { spec = t; stage = a.0 }) (record { spec = u; stage = b.0 }) xs ys a.2 b.2)

pub through_same : (k : ℕ) (s t u : Spec) (xs ys : List Line) → Through k s xs t → Through k t ys u → Through k s (xs ++ ys) u
through_same k s t u xs ys first then = between_both k k k k s t u xs ys (omega arith) first then

-- lines, one for each item
pub all_through : {A : Type 0} (k : ℕ) (line : A → Line) (state : List A → Spec) (all : List A) → ((x : A) → stage_of (line x) ≡ k) →
    ((pre : List A) (x : A) (post : List A) → all ≡ pre ++ x ∷ post → says (state pre) (line x) ≡ On (state (pre ++ x ∷ []))) → Through k (state [])
    (map line all) (state all)
all_through {A} k line state all at step = go [] all refl
  where
    go : (pre rest : List A) → all ≡ pre ++ rest → Through k (state pre) (map line rest) (state all)
    go pre [] e = subst (λ xs. Through k (state pre) [] (state xs)) (sym (e ∙ append-nil pre)) (through_none k (state pre))
    go pre (x ∷ rest) e =
        through_same k (state pre) (state (pre ++ x ∷ [])) (state all) (line x ∷ []) (map line rest) (through_line k (state pre) (state (pre ++ x ∷ [])) (line x) (at x) (step pre x rest e))
        (go (pre ++ x ∷ []) rest (e ∙ sym (append_assoc pre (x ∷ []) rest)))
