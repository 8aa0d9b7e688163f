-- What is made of written terms and children: it is made just where nothing is at fault, and then it is what they stand for.
use Rattle.std.specs.Prelude.{◌≡◌, ℕ, false, List, Option, map}
use Rattle.aw_name_index.specs.Places.{any_stands}
use Rattle.aw_term.specs.declared.term.Pattern.{Pattern}
use Rattle.aw_term.specs.declared.term.Expr.{Expr}
use Rattle.aw_term.specs.Views.{pattern_of, term_of}
use Rattle.aw_grammar.specs.declared.grammar.Grammar.{Grammar}
use Rattle.aw_grammar.specs.declared.rule.Child.{Child}
use Rattle.aw_grammar.specs.Written.{Written, WrittenChild}
use Rattle.aw_grammar.specs.Terms.{args_of}
use Rattle.aw_grammar.specs.Resolved.{numbered, child_numbered, children_numbered}
use Rattle.aw_grammar.specs.Faultless.{is_faultless, all_faultless, IsMade}
use Rattle.aw_grammar.specs.GrammarView.{child_of}
use Rattle.aw_grammar.specs.GrammarOf.{words_of}

-- no variable has the name of a constructor
abbrev pub AreNoCons : Grammar → List (List ℕ) → Type 0
AreNoCons g variables = any_stands variables (words_of g).cons ≡ false

-- the pattern that a written term stands for is made, unless a word in it is at fault
abbrev pub MakesPattern : Grammar → List (List ℕ) → Written → Option Pattern → Type 0
MakesPattern g variables t = IsMade (is_faultless g.cons variables t) (λ made. pattern_of made ≡ numbered (words_of g).cons variables t)

-- those that written terms stand for are made, unless a word in one is at fault
abbrev pub MakesPatterns : Grammar → List (List ℕ) → List Written → Option (List Pattern) → Type 0
MakesPatterns g variables ts = IsMade (all_faultless g.cons variables ts) (λ made. map pattern_of made ≡ map (numbered (words_of g).cons variables) ts)

-- the expression that a written term stands for is made, unless a word in it is at fault
abbrev pub MakesTerm : Grammar → List (List ℕ) → Written → Option Expr → Type 0
MakesTerm g variables t = IsMade (is_faultless g.cons variables t) (λ made. term_of made ≡ numbered (words_of g).cons variables t)

-- those that written terms stand for are made, unless a word in one is at fault
abbrev pub MakesTerms : Grammar → List (List ℕ) → List Written → Option (List Expr) → Type 0
MakesTerms g variables ts = IsMade (all_faultless g.cons variables ts) (λ made. map term_of made ≡ map (numbered (words_of g).cons variables) ts)

-- the child that a written one stands for is made, unless a word in its arguments is at fault
abbrev pub MakesChild : Grammar → List (List ℕ) → WrittenChild → Option Child → Type 0
MakesChild g variables c = IsMade (all_faultless g.cons variables c.args) (λ made. child_of g.sorts made ≡ child_numbered (words_of g).cons (words_of g).sorts variables c)

-- the children that written ones stand for are made, unless a word in an argument is at fault
abbrev pub MakesChildren : Grammar → List (List ℕ) → List WrittenChild → Option (List Child) → Type 0
MakesChildren g variables cs =
    IsMade (all_faultless g.cons variables (args_of cs)) (λ made. map (child_of g.sorts) made ≡ children_numbered (words_of g) variables cs)
