-- What is told of a specification that is accepted.
use Rattle.std.proofs.Common.{◌≡◌, ℕ, ◌≤◌, Bool, List, [], ◌∷◌, map, Option, Some, slice_get, refl, sym, subst, arith}
use Rattle.std.proofs.lemmas.Option.{slice_get_within}
use Rattle.aw_list.proofs.Members.{got_map, got_unmap}
use Rattle.aw_term.specs.Rules as P
use Rattle.aw_term.specs.Choices.{gives_of}
use Rattle.aw_term.specs.WellFormed.{Each, takes_of}
use Rattle.aw_term.specs.Artifacts.{Words}
use Rattle.aw_base.specs.declared.declared.Triple.{Triple}
use Rattle.aw_grammar.specs.declared.rule.Sort.{Sort}
use Rattle.aw_grammar.specs.declared.grammar.Grammar.{Grammar}
use Rattle.aw_grammar.specs.GrammarView.{sort_of, sorts_of}
use Rattle.aw_grammar.specs.GrammarOf.{grammar_of, words_of, declarations_of}
use Rattle.aw_grammar.specs.Declarations.{grammar_in, words_in}
use Rattle.aw_grammar.proofs.Entries.{declared_words, declared_grammar}
use Rattle.aw_modular.specs.Refusals.{IsPosition}
use Rattle.aw_spec.specs.TypesFit.{IsOfSort}
use Rattle.aw_run.specs.Checked.{TellsChecked}
use Rattle.aw_front.specs.declared.reply.Status.TheVariants.{Done}
use Rattle.aw_front.specs.Output.{Output, Writes}
use Rattle.aw_run.specs.Output.{WritesChecked}
use Rattle.aw_front.specs.Replies.{Replies, reply}

-- how many inherited values and results a sort has
abbrev counts : Sort → ℕ × ℕ
counts s = (s.takes, s.gives)

-- a dependence of a sort that has such an inherited value and such a result is of a position
position : (ss : List Sort) (t : Triple) → IsOfSort (map counts ss) t → IsPosition (sorts_of ss) t
position ss t (c, got, i, takes, j, gives) =
    let (s, at, is) = got_unmap counts ss t.sort c got in
    let here : slice_get (sorts_of ss) t.sort ≡ Some (sort_of s) = got_map sort_of ss t.sort s at in
    let few : t.i ≤ s.takes = subst (λ (p : ℕ × ℕ). t.i ≤ p.0) is takes in
    let less : t.j ≤ s.gives = subst (λ (p : ℕ × ℕ). t.j ≤ p.1) is gives in
    record {
      sort = slice_get_within (sorts_of ss) t.sort (sort_of s) here;
      inherited = omega (arith, i);
      takes = subst (λ (o : Option P.Sort). t.i ≤ takes_of o) (sym here) few;
      result = omega (arith, j);
      gives = subst (λ (o : Option P.Sort). t.j ≤ gives_of o) (sym here) less;
    }

pub positions : (ss : List Sort) (ds : List Triple) → Each (IsOfSort (map counts ss)) ds → Each (IsPosition (sorts_of ss)) ds
positions ss [] all = tt
positions ss (d ∷ ds) all = (position ss d all.0, positions ss ds all.1)

-- what is told of a grammar is told of what it declares
told_of_declared : (g : Grammar) (ds : List Triple) (offers : List ℕ) (free : Bool) (text : List ℕ) → TellsChecked ds offers free (words_of g)
    (grammar_of g) text → TellsChecked ds offers free (words_in (declarations_of g)) (grammar_in (declarations_of g)) text
told_of_declared g ds offers free text told =
    subst (λ (w : Words). TellsChecked ds offers free w (grammar_in (declarations_of g)) text) (declared_words g)
    (subst (λ (h : P.Grammar). TellsChecked ds offers free (words_of g) h text) (declared_grammar g) told)

pub declared_too : (g : Grammar) (ds : List Triple) (offers : List ℕ) (free : Bool) (output : Output) → WritesChecked ds offers free (words_of g)
    (grammar_of g) output → WritesChecked ds offers free (words_in (declarations_of g)) (grammar_in (declarations_of g)) output
declared_too g ds offers free output (text, told, is) = (text, told_of_declared g ds offers free text told, is)

-- it is written
pub written : (ds : List Triple) (offers : List ℕ) (free : Bool) (w : Words) (g : P.Grammar) (text : List ℕ) → TellsChecked ds offers free w g text →
    Replies (WritesChecked ds offers free w g) (reply Done text)
written ds offers free w g text told = (Writes text, (text, told, refl), refl)
