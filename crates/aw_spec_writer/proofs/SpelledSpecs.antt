-- The lines of a specification can be spelled: their names are names, their texts are contents, and their numbers have 64 bits.
use Rattle.std.proofs.Common.{◌≡◌, ℕ, ◌+◌, ◌-◌, ◌<◌, ◌≤◌, nat_eq, refl, sym, subst, Bool, true, false, cond, List, [], ◌∷◌, ◌++◌, length, map, drop, arith}
use Rattle.std.proofs.lemmas.List.{length-map}
use Rattle.std.proofs.lemmas.Bool.{and_parts}
use Rattle.aw_spelling.specs.Spelling.{is_content}
use Rattle.aw_term.specs.Trees.{Head, Con, Num, Text, Leaf, Made, Trees, Nil, More, count}
use Rattle.aw_term.specs.Rules as P
use Rattle.aw_term.specs.Rules.{Term}
use Rattle.aw_term.specs.WellFormed.{Each, leaves, all_leaves, leaves_of, heads_fit, all_heads_fit, head_fits, TermFits, ChildFits, RuleFits, SortFits, outs_of}
use Rattle.aw_term.proofs.Eaches.{each_append, each_get, each_left, each_right}
use Rattle.aw_grammar.specs.declared.rule.Con as decl
use Rattle.aw_grammar.specs.declared.rule.Sort.{Sort}
use Rattle.aw_grammar.specs.GrammarView.{sort_of}
use Rattle.aw_grammar.specs.Declarations.{Entry, Declarations, con_names, sort_names, rule_names, grammar_in}
use Rattle.aw_face.specs.declared.faces.Using.{Using}
use Rattle.aw_spec.specs.Lines.{RoleLine, StartLine, FreeLine, RuleLine}
use Rattle.aw_spec.specs.Reading.{Spec}
use Rattle.aw_spec_writer.specs.SpecLines.{named, named_parts, named_children, later_variables, named_rule, con_line, sort_line, start_line}
use Rattle.aw_spec_writer.specs.SpecLines.{start_lines, offer_line, use_line, declaration_lines, face_lines, typing_lines, free_lines, rule_lines}
use Rattle.aw_spec_writer.specs.SpecLines.{spec_lines}
use Rattle.aw_grammar.specs.Variables.{VariablesFit}
use Rattle.aw_spec_writer.specs.Writable.{IsSmall, NumbersFit, PartsFit, SmallNumbers, FacesFit}
use Rattle.aw_spec_writer.proofs.Placed.{each_take, each_drop, each_upto}
use Rattle.aw_spec_writer.proofs.SaysTerms.{IsName, IsSpelledTerm, AreSpelledParts, AreSpelled, IsSpelledChild, IsSpelledRule, IsSpelledLine}
use Rattle.aw_spec_writer.proofs.NamedTerms.{names_in, arities_in, found}
use Rattle.aw_spec_writer.proofs.Declaring.{Fine, named_below}
use Rattle.aw_spec.specs.TypesFit.{TypesFit}
use Rattle.aw_spec_writer.proofs.SpelledTypes.{typing_spelled}

made_spelled : (cons : List decl.Con) (vars : List (List ℕ)) → Each IsName (names_in cons) → (h : Head) (ts : Trees ℕ) → head_fits (arities_in cons) h
    (count ts) ≡ true → IsSmall h → AreSpelledParts (named_parts (names_in cons) vars ts) → IsSpelledTerm (named (names_in cons) vars (Made h ts))
made_spelled cons vars names (Con c) Nil fits small parts = each_get IsName [] (names_in cons) c names (found cons c 0 fits).below
made_spelled cons vars names (Con c) (More t ts) fits small parts = (each_get IsName [] (names_in cons) c names (found cons c (count (More t ts)) fits).below, parts)
made_spelled cons vars names (Num n) ts fits small parts = small
made_spelled cons vars names (Text t) ts fits small parts = (and_parts (nat_eq (count ts) 0) (is_content t) fits).1

mutual
  term_spelled : (cons : List decl.Con) (vars : List (List ℕ)) → Each IsName (names_in cons) → Each IsName vars → (t : Term) →
      heads_fit (arities_in cons) t ≡ true → Each (λ v. v < length vars) (leaves t) → NumbersFit t → IsSpelledTerm (named (names_in cons) vars t)
  term_spelled cons vars names all (Leaf v) fits below small = each_get IsName [] vars v all below.0
  term_spelled cons vars names all (Made h ts) fits below small =
      let parts = and_parts (head_fits (arities_in cons) h (count ts)) (all_heads_fit (arities_in cons) ts) fits in
      made_spelled cons vars names h ts parts.0 small.0 (parts_spelled cons vars names all ts parts.1 below small.1)

  parts_spelled : (cons : List decl.Con) (vars : List (List ℕ)) → Each IsName (names_in cons) → Each IsName vars → (ts : Trees ℕ) →
      all_heads_fit (arities_in cons) ts ≡ true → Each (λ v. v < length vars) (all_leaves ts) → PartsFit ts →
      AreSpelledParts (named_parts (names_in cons) vars ts)
  parts_spelled cons vars names all Nil fits below small = tt
  parts_spelled cons vars names all (More t ts) fits below small =
      let parts = and_parts (heads_fit (arities_in cons) t) (all_heads_fit (arities_in cons) ts) fits in (
        term_spelled cons vars names all t parts.0 (each_left (λ v. v < length vars) (leaves t) (all_leaves ts) below) small.0,
        parts_spelled cons vars names all ts parts.1 (each_right (λ v. v < length vars) (leaves t) (all_leaves ts) below) small.1,
      )

terms_spelled : (cons : List decl.Con) (vars : List (List ℕ)) → Each IsName (names_in cons) → Each IsName vars → (ts : List Term) →
    Each (TermFits (arities_in cons)) ts → Each (λ v. v < length vars) (leaves_of ts) → Each NumbersFit ts → AreSpelled (map (named (names_in cons) vars) ts)
terms_spelled cons vars names all [] fit below small = tt
terms_spelled cons vars names all (t ∷ ts) fit below small = (
  term_spelled cons vars names all t fit.0.heads (each_left (λ v. v < length vars) (leaves t) (leaves_of ts) below) small.0,
  terms_spelled cons vars names all ts fit.1 (each_right (λ v. v < length vars) (leaves t) (leaves_of ts) below) small.1,
)

-- names of what a specification declares are names, and numbers have 64 bits
pub record Spelled (d : Declarations) : Type 0 where
  pub roles : Each IsName d.roles
  pub cons : Each IsName (con_names d)
  pub sorts : Each IsName (sort_names d)
  pub rules : Each IsName (rule_names d)
  pub numbers : Each (λ (e : Entry). SmallNumbers e.rule) d.rules

children_spelled : (d : Declarations) (vars left : List (List ℕ)) → Each IsName (con_names d) → Each IsName (sort_names d) → Each IsName vars →
    Each IsName left → (g : P.Grammar) → g.arities ≡ arities_in d.cons → length g.sorts ≡ length d.sorts → (cs : List P.Child) →
    Each (ChildFits g (length vars)) cs → Each (λ (c : P.Child). Each NumbersFit c.args) cs →
    Each IsSpelledChild (named_children (con_names d) (sort_names d) vars left cs)
children_spelled d vars left cons sorts all names g ga gs [] fits small = tt
children_spelled d vars left cons sorts all names g ga gs (c ∷ cs) fits small = (
  record {
    sort = each_get IsName [] (sort_names d) c.sort sorts (named_below d.sorts c.sort (omega (arith, gs, fits.0.declared)));
    args = terms_spelled d.cons vars cons all c.args (subst (λ a. Each (TermFits a) c.args) ga fits.0.terms) fits.0.enter small.0;
    results = each_take IsName c.outs left names;
  },
  children_spelled d vars (drop c.outs left) cons sorts all (each_drop IsName c.outs left names) g ga gs cs fits.1 small.1,
)

rule_spelled : (d : Declarations) (e : Entry) → Spelled d → IsName e.name → RuleFits (grammar_in d) e.rule → VariablesFit (con_names d) e.vars
    e.rule → SmallNumbers e.rule → IsSpelledRule (named_rule (con_names d) (sort_names d) e)
rule_spelled d e spelled name fits vars small =
    let r = e.rule in
    let k = length (leaves_of r.patterns) in
    let later = later_variables e in
    let later_names : Each IsName later = each_drop IsName (length e.vars - (r.params + outs_of r.children)) e.vars vars.names in
    let sorts_length : length (grammar_in d).sorts ≡ length d.sorts = length-map d.sorts sort_of in
    record {
      name = name;
      params = each_take IsName r.params later later_names;
      sort = each_get IsName [] (sort_names d) r.sort spelled.sorts (named_below d.sorts r.sort (omega (arith, sorts_length, fits.declared)));
      patterns = terms_spelled d.cons e.vars spelled.cons vars.names r.patterns fits.patterns
          (subst (Each (λ v. v < length e.vars)) (sym fits.numbered) (each_upto 0 k (length e.vars) (omega (arith, vars.count)))) small.patterns;
      results = terms_spelled d.cons e.vars spelled.cons vars.names r.results fits.results (subst (λ n. Each (λ v. v < n) (leaves_of r.results)) (sym vars.count) fits.enter) small.results;
      children = children_spelled d e.vars (drop r.params later) spelled.cons spelled.sorts vars.names (each_drop IsName r.params later later_names) (grammar_in d) refl sorts_length r.children
          (subst (λ n. Each (ChildFits (grammar_in d) n) r.children) (sym vars.count) fits.children) small.children;
    }

rules_spelled : (d : Declarations) (es : List Entry) → Spelled d → Each IsName (map (λ (e : Entry). e.name) es) →
    Each (λ (e : Entry). RuleFits (grammar_in d) e.rule) es → Each (λ (e : Entry). VariablesFit (con_names d) e.vars e.rule) es →
    Each (λ (e : Entry). SmallNumbers e.rule) es →
    Each IsSpelledLine (map (λ (e : Entry). RuleLine (named_rule (con_names d) (sort_names d) e)) es)
rules_spelled d [] spelled names fits vars small = tt
rules_spelled d (e ∷ es) spelled names fits vars small = (rule_spelled d e spelled names.0 fits.0 vars.0 small.0, rules_spelled d es spelled names.1 fits.1 vars.1 small.1)

roles_spelled : (roles : List (List ℕ)) → Each IsName roles → Each IsSpelledLine (map (λ name. RoleLine name) roles)
roles_spelled [] names = tt
roles_spelled (r ∷ roles) names = (names.0, roles_spelled roles names.1)

cons_spelled : (cons : List decl.Con) → Each IsName (names_in cons) → Each (λ (c : decl.Con). c.arity ≤ 8) cons → Each IsSpelledLine (map con_line cons)
cons_spelled [] names small = tt
cons_spelled (c ∷ cons) names small = ((names.0, omega (arith, small.0)), cons_spelled cons names.1 small.1)

sorts_spelled : (roles : List (List ℕ)) (sorts : List Sort) → Each IsName roles → Each IsName (map (λ (s : Sort). s.name) sorts) →
    Each (λ (s : Sort). SortFits (length roles) (sort_of s)) sorts → Each IsSpelledLine (map (sort_line roles) sorts)
sorts_spelled roles [] names own fits = tt
sorts_spelled roles (s ∷ sorts) names own fits =
    let f = fits.0 in
    ((own.0, each_get IsName [] roles s.role names f.declared, omega (arith, f.few_takes), omega (arith, f.few_gives)), sorts_spelled roles sorts names own.1 fits.1)

starts_spelled : (sorts : List Sort) → Each IsName (map (λ (s : Sort). s.name) sorts) → Each IsSpelledLine (start_lines sorts)
starts_spelled [] own = tt
starts_spelled (s ∷ sorts) own = each_append IsSpelledLine (start_line s) (start_lines sorts) (one s.start) (starts_spelled sorts own.1)
  where
    one : (b : Bool) → Each IsSpelledLine (cond b (StartLine s.name ∷ []) [])
    one true = (own.0, tt)
    one false = tt

offers_spelled : (d : Declarations) (offers : List ℕ) → Each IsName (sort_names d) → Each (λ sort. sort < length d.sorts) offers → Each IsSpelledLine (map (offer_line (sort_names d)) offers)
offers_spelled d [] sorts declared = tt
offers_spelled d (o ∷ offers) sorts declared = (each_get IsName [] (sort_names d) o sorts (named_below d.sorts o declared.0), offers_spelled d offers sorts declared.1)

uses_spelled : (d : Declarations) (uses : List Using) → Each IsName d.roles → Each IsName (sort_names d) →
    Each (λ (u : Using). (u.role < length d.roles) × (u.sort < length d.sorts)) uses → Each IsSpelledLine (map (use_line d.roles (sort_names d)) uses)
uses_spelled d [] roles sorts declared = tt
uses_spelled d (u ∷ uses) roles sorts declared =
    ((each_get IsName [] d.roles u.role roles declared.0.0, each_get IsName [] (sort_names d) u.sort sorts (named_below d.sorts u.sort declared.0.1)), uses_spelled d uses roles sorts declared.1)

free_spelled : (free : Bool) → Each IsSpelledLine (cond free (FreeLine ∷ []) [])
free_spelled true = (tt, tt)
free_spelled false = tt

pub spec_spelled : (s : Spec) → Fine s.declared → Spelled s.declared → FacesFit s → TypesFit s → Each IsSpelledLine (spec_lines s)
spec_spelled s fine spelled faces types =
    let d = s.declared in
    each_append IsSpelledLine (declaration_lines d) (face_lines s ++ (typing_lines s ++ (free_lines s ++ rule_lines d)))
    (each_append IsSpelledLine (map (λ name. RoleLine name) d.roles) (map con_line d.cons ++ (map (sort_line d.roles) d.sorts ++ start_lines d.sorts)) (roles_spelled d.roles spelled.roles)
    (each_append IsSpelledLine (map con_line d.cons) (map (sort_line d.roles) d.sorts ++ start_lines d.sorts) (cons_spelled d.cons spelled.cons fine.arities)
    (each_append IsSpelledLine (map (sort_line d.roles) d.sorts) (start_lines d.sorts) (sorts_spelled d.roles d.sorts spelled.roles spelled.sorts fine.sorts) (starts_spelled d.sorts spelled.sorts))))
    (each_append IsSpelledLine (face_lines s) (typing_lines s ++ (free_lines s ++ rule_lines d))
    (each_append IsSpelledLine (map (offer_line (sort_names d)) s.offers) (map (use_line d.roles (sort_names d)) s.uses)
    (offers_spelled d s.offers spelled.sorts faces.offers) (uses_spelled d s.uses spelled.roles spelled.sorts faces.uses))
    (each_append IsSpelledLine (typing_lines s) (free_lines s ++ rule_lines d) (typing_spelled s spelled.cons spelled.sorts fine.sorts types)
    (each_append IsSpelledLine (free_lines s) (rule_lines d) (free_spelled s.free) (rules_spelled d d.rules spelled spelled.rules fine.rules fine.variables spelled.numbers))))
