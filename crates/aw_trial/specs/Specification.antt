-- The specification of a trial: four roles, one of which is called by itself.
use Rattle.std.specs.Prelude.{◌≡◌, ℕ, List, [], ◌∷◌, ◌++◌, map, codes}
use Rattle.aw_term.specs.Rules.{Grammar}
use Rattle.aw_term.specs.Artifacts.{Words}
use Rattle.aw_grammar.specs.declared.raw.RawCon.{RawCon}
use Rattle.aw_grammar.specs.declared.raw.RawSort.{RawSort}
use Rattle.aw_grammar.specs.declared.raw.Parts.{Parts}
use Rattle.aw_grammar.specs.declared.fault.DeclPlace.{DeclPlace}
use Rattle.aw_grammar.specs.declared.fault.DeclPlace.TheVariants as place
use Rattle.aw_grammar.specs.Written.{Written, Word, Apply, Empty, Then, WrittenRule, rule_of_raw}
use Rattle.aw_grammar.specs.Declarations.{Declarations, no_declarations, grammar_in, words_in}
use Rattle.aw_grammar.specs.Build.{Declaration, Rule, roles_placed, cons_placed, sorts_placed, starts_placed, placed, declare_all}

-- role front · role lab · role desk · role store
abbrev pub trial_roles : List (List ℕ)
trial_roles = codes "front" ∷ codes "lab" ∷ codes "desk" ∷ codes "store" ∷ []

-- con ok 0 · con pair 2 · con item 2
abbrev pub trial_cons : List RawCon
trial_cons = record { name = codes "ok"; arity = 0 } ∷ record { name = codes "pair"; arity = 2 } ∷ record { name = codes "item"; arity = 2 } ∷ []

-- sort case front 0 1 · sort test lab 1 1 · sort note desk 2 1 · sort keep store 1 1
abbrev pub trial_sorts : List RawSort
trial_sorts =
    record { name = codes "case"; role = codes "front"; takes = 0; gives = 1 }
    ∷ record { name = codes "test"; role = codes "lab"; takes = 1; gives = 1 }
    ∷ record { name = codes "note"; role = codes "desk"; takes = 2; gives = 1 }
    ∷ record { name = codes "keep"; role = codes "store"; takes = 1; gives = 1 }
    ∷ []

-- start case
abbrev pub trial_starts : List (List ℕ)
trial_starts = codes "case" ∷ []

-- a constructor with two parts
abbrev pub apply_2 : List ℕ → Written → Written → Written
apply_2 name a b = Apply name (Then a (Then b Empty))

-- rule begin {n} : case()<pair(a, b)> = test(item(n, ok))<a> ; note(a, n)<b>
abbrev pub begin_rule : WrittenRule
begin_rule = record {
  name = codes "begin";
  params = codes "n" ∷ [];
  sort = codes "case";
  patterns = [];
  results = apply_2 (codes "pair") (Word (codes "a")) (Word (codes "b")) ∷ [];
  children =
      record { sort = codes "test"; args = apply_2 (codes "item") (Word (codes "n")) (Word (codes "ok")) ∷ []; results = codes "a" ∷ [] }
      ∷ record { sort = codes "note"; args = Word (codes "a") ∷ Word (codes "n") ∷ []; results = codes "b" ∷ [] }
      ∷ [];
}

-- rule measure {v} : test(item(x, y))<pair(x, v)>
abbrev pub measure_rule : WrittenRule
measure_rule = record {
  name = codes "measure";
  params = codes "v" ∷ [];
  sort = codes "test";
  patterns = apply_2 (codes "item") (Word (codes "x")) (Word (codes "y")) ∷ [];
  results = apply_2 (codes "pair") (Word (codes "x")) (Word (codes "v")) ∷ [];
  children = [];
}

-- rule refer : test(item(x, ok))<b> = note(x, x)<b>
abbrev pub refer_rule : WrittenRule
refer_rule = record {
  name = codes "refer";
  params = [];
  sort = codes "test";
  patterns = apply_2 (codes "item") (Word (codes "x")) (Word (codes "ok")) ∷ [];
  results = Word (codes "b") ∷ [];
  children = record { sort = codes "note"; args = Word (codes "x") ∷ Word (codes "x") ∷ []; results = codes "b" ∷ [] } ∷ [];
}

-- rule write {t} : note(pair(x, y), z)<item(x, t)>
abbrev pub write_rule : WrittenRule
write_rule = record {
  name = codes "write";
  params = codes "t" ∷ [];
  sort = codes "note";
  patterns = apply_2 (codes "pair") (Word (codes "x")) (Word (codes "y")) ∷ Word (codes "z") ∷ [];
  results = apply_2 (codes "item") (Word (codes "x")) (Word (codes "t")) ∷ [];
  children = [];
}

-- rule file : note(x, y)<k> = keep(pair(x, y))<k>
abbrev pub file_rule : WrittenRule
file_rule = record {
  name = codes "file";
  params = [];
  sort = codes "note";
  patterns = Word (codes "x") ∷ Word (codes "y") ∷ [];
  results = Word (codes "k") ∷ [];
  children = record { sort = codes "keep"; args = apply_2 (codes "pair") (Word (codes "x")) (Word (codes "y")) ∷ []; results = codes "k" ∷ [] } ∷ [];
}

-- rule hold : keep(x)<x>
abbrev pub hold_rule : WrittenRule
hold_rule = record {
  name = codes "hold";
  params = [];
  sort = codes "keep";
  patterns = Word (codes "x") ∷ [];
  results = Word (codes "x") ∷ [];
  children = [];
}

-- rule split : keep(pair(x, y))<pair(a, b)> = keep(x)<a> ; keep(y)<b>
abbrev pub split_rule : WrittenRule
split_rule = record {
  name = codes "split";
  params = [];
  sort = codes "keep";
  patterns = apply_2 (codes "pair") (Word (codes "x")) (Word (codes "y")) ∷ [];
  results = apply_2 (codes "pair") (Word (codes "a")) (Word (codes "b")) ∷ [];
  children =
      record { sort = codes "keep"; args = Word (codes "x") ∷ []; results = codes "a" ∷ [] }
      ∷ record { sort = codes "keep"; args = Word (codes "y") ∷ []; results = codes "b" ∷ [] }
      ∷ [];
}

-- all rules, in the order in which they are declared
abbrev pub trial_rules : List WrittenRule
trial_rules = begin_rule ∷ measure_rule ∷ refer_rule ∷ write_rule ∷ file_rule ∷ hold_rule ∷ split_rule ∷ []

-- these are the declarations of the trial
pub record AreDeclared (p : Parts) : Type 0 where
  pub roles : p.roles ≡ trial_roles
  pub cons : p.cons ≡ trial_cons
  pub sorts : p.sorts ≡ trial_sorts
  pub starts : p.starts ≡ trial_starts
  pub rules : map rule_of_raw p.rules ≡ trial_rules

-- all of them, each at its place
abbrev pub trial_placed : List (DeclPlace × Declaration)
trial_placed =
    roles_placed 0 trial_roles
    ++ (cons_placed 0 trial_cons ++ (sorts_placed 0 trial_sorts ++ (starts_placed 0 trial_starts ++ placed (λ n. place.Rule n) (λ r. Rule r) 0 trial_rules)))

-- what is declared after all of them
abbrev pub trial_declarations : Declarations
trial_declarations = declare_all no_declarations trial_placed

-- the grammar that they make, and its names
abbrev pub trial_grammar : Grammar
trial_grammar = grammar_in trial_declarations

-- the names that they declare
abbrev pub trial_words : Words
trial_words = words_in trial_declarations
