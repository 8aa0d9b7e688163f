-- Arguments as written terms: they are laid out alike, can be spelled, are within the limits, and mean the arguments again.
use Rattle.std.proofs.Common.{◌≡◌, ℕ, suc, ◌+◌, ◌<◌, ◌≤◌, max, nat_eq, nat_le, refl, sym, ap, ◌∙◌, subst, true, ◌&&◌, List, [], ◌∷◌, ◌++◌, map, codes, arith, append-nil}
use Rattle.std.proofs.lemmas.Bool.{and_parts}
use Rattle.std.proofs.lemmas.Bool.Decides.{nat_tests}
use Rattle.aw_spelling.specs.Spelling.{is_content}
use Rattle.aw_name_index.specs.Places.{number_of}
use Rattle.aw_term.specs.Trees.{Never, Head, Con, Num, Text, Tree, Leaf, Made, Trees, Nil, More, bind, binds, count}
use Rattle.aw_term.specs.Rules.{Ground, Term, get}
use Rattle.aw_term.specs.Rules as R
use Rattle.aw_term.specs.Artifacts.{Words, listed, trees_texts, ground_text}
use Rattle.aw_term.specs.WellFormed.{Each, Differ, leaves, all_leaves, leaves_of, symbols, all_symbols, symbols_of, nesting, all_nesting, head_fits, heads_fit, all_heads_fit, TermFits}
use Rattle.aw_term.proofs.Eaches.{each_get}
use Rattle.aw_grammar.specs.declared.rule.Con as decl
use Rattle.aw_grammar.specs.Written.{Written, side_by_side}
use Rattle.aw_grammar.specs.Resolved.{resolved, numbered}
use Rattle.aw_base.specs.ChoiceFits.{ground_ok, grounds_ok}
use Rattle.aw_sched.specs.Events.{ground_named}
use Rattle.aw_spec_writer.specs.LineTexts.{term_text, parts_behind, terms_text}
use Rattle.aw_spec_writer.specs.SpecLines.{named, named_parts}
use Rattle.aw_spec_writer.specs.Writable.{IsSmall, NumbersFit, PartsFit}
use Rattle.aw_spec_writer.proofs.NamedTerms.{names_in, arities_in, found, AllWell, all_well, never_zero}
use Rattle.aw_spec_writer.proofs.SaysTerms.{IsName, IsSpelledTerm, AreSpelledParts, AreSpelled}

-- ---- an argument as a term without variables
abbrev mutual
  pub as_term : Ground → Term
  as_term (Leaf x) = elim x [ ]
  as_term (Made h ts) = Made h (as_terms ts)

  pub as_terms : Trees Never → Trees ℕ
  as_terms Nil = Nil
  as_terms (More t ts) = More (as_term t) (as_terms ts)

-- arguments with their constructors by name
abbrev pub written_args : List (List ℕ) → List Ground → List Written
written_args cons args = map (named cons []) (map as_term args)

-- ---- the bytes are the same
mutual
  text_same : (w : Words) (arities : List ℕ) (t : Ground) → heads_fit arities t ≡ true → term_text (named w.cons [] (as_term t)) ≡ ground_text w t
  text_same w arities (Leaf x) h = elim x [ ]
  text_same w arities (Made (Con c) Nil) h = refl
  text_same w arities (Made (Con c) (More t ts)) h =
      let parts = and_parts (heads_fit arities t) (all_heads_fit arities ts) (and_parts (head_fits arities (Con c) (count (More t ts))) (all_heads_fit arities (More t ts)) h).1 in
      ap (λ xs. get [] w.cons c ++ (codes "(" ++ (xs ++ codes ")"))) (ap (λ x. x ++ parts_behind (named_parts w.cons [] (as_terms ts)))
      (text_same w arities t parts.0) ∙ behind_same w arities (ground_text w t) ts parts.1)
  text_same w arities (Made (Num n) Nil) h = refl
  text_same w arities (Made (Num n) (More t ts)) h = absurd (never_zero (count ts) (and_parts (nat_eq (count (More t ts)) 0) (all_heads_fit arities (More t ts)) h).0)
  text_same w arities (Made (Text x) Nil) h = refl
  text_same w arities (Made (Text x) (More t ts)) h =
      absurd (never_zero (count ts) (and_parts (nat_eq (count (More t ts)) 0) (is_content x) (and_parts (nat_eq (count (More t ts)) 0 && is_content x) (all_heads_fit arities (More t ts)) h).0).0)

  behind_same : (w : Words) (arities : List ℕ) (front : List ℕ) (ts : Trees Never) → all_heads_fit arities ts ≡ true →
      front ++ parts_behind (named_parts w.cons [] (as_terms ts)) ≡ listed (front ∷ trees_texts w (λ (x : Never). elim x [ ]) ts)
  behind_same w arities front Nil h = append-nil front
  behind_same w arities front (More t ts) h =
      let parts = and_parts (heads_fit arities t) (all_heads_fit arities ts) h in
      ap (λ xs. front ++ (codes ", " ++ xs)) (ap (λ x. x ++ parts_behind (named_parts w.cons [] (as_terms ts))) (text_same w arities t parts.0) ∙ behind_same w arities (ground_text w t) ts parts.1)

args_behind : (w : Words) (g : R.Grammar) (front : List ℕ) (args : List Ground) → grounds_ok g args ≡ true →
    front ++ parts_behind (side_by_side (written_args w.cons args)) ≡ listed (front ∷ map (ground_text w) args)
args_behind w g front [] h = append-nil front
args_behind w g front (t ∷ ts) h =
    let parts = and_parts (ground_ok g t) (grounds_ok g ts) h in
    let heads = (and_parts (heads_fit g.arities t) (nat_le (nesting t) 32) parts.0).0 in
    ap (λ xs. front ++ (codes ", " ++ xs))
    (ap (λ x. x ++ parts_behind (side_by_side (written_args w.cons ts))) (text_same w g.arities t heads) ∙ args_behind w g (ground_text w t) ts parts.1)

pub args_same : (w : Words) (g : R.Grammar) (args : List Ground) → grounds_ok g args ≡ true → terms_text (written_args w.cons args) ≡ listed (map (ground_text w) args)
args_same w g [] h = refl
args_same w g (t ∷ ts) h =
    let parts = and_parts (ground_ok g t) (grounds_ok g ts) h in
    let heads = (and_parts (heads_fit g.arities t) (nat_le (nesting t) 32) parts.0).0 in
    ap (λ x. x ++ parts_behind (side_by_side (written_args w.cons ts))) (text_same w g.arities t heads) ∙ args_behind w g (ground_text w t) ts parts.1

-- ---- what is so of an argument is so of the term
record Same (arities : List ℕ) (t : Ground) : Type 0 where
  pub heads : heads_fit arities (as_term t) ≡ heads_fit arities t
  pub depth : nesting (as_term t) ≡ nesting t
  pub symbols : symbols (as_term t) ≡ symbols t
  pub closed : leaves (as_term t) ≡ []

record SameParts (arities : List ℕ) (ts : Trees Never) : Type 0 where
  pub heads : all_heads_fit arities (as_terms ts) ≡ all_heads_fit arities ts
  pub depth : all_nesting (as_terms ts) ≡ all_nesting ts
  pub symbols : all_symbols (as_terms ts) ≡ all_symbols ts
  pub closed : all_leaves (as_terms ts) ≡ []
  pub count : count (as_terms ts) ≡ count ts

mutual
  same : (arities : List ℕ) (t : Ground) → Same arities t
  same arities (Leaf x) = elim x [ ]
  same arities (Made h ts) =
      let s = same_parts arities ts in
      record {
        heads = λ i. head_fits arities h (s.count i) && s.heads i;
        depth = ap (λ n. suc n) s.depth;
        symbols = ap (λ n. suc n) s.symbols;
        closed = s.closed;
      }

  same_parts : (arities : List ℕ) (ts : Trees Never) → SameParts arities ts
  same_parts arities Nil = record { heads = refl; depth = refl; symbols = refl; closed = refl; count = refl }
  same_parts arities (More t ts) =
      let a = same arities t in
      let b = same_parts arities ts in
      record {
        heads = λ i. a.heads i && b.heads i;
        depth = λ i. max (a.depth i) (b.depth i);
        symbols = λ i. a.symbols i + b.symbols i;
        closed = λ i. a.closed i ++ b.closed i;
        count = ap (λ n. suc n) b.count;
      }

terms_closed : (arities : List ℕ) (args : List Ground) → leaves_of (map as_term args) ≡ []
terms_closed arities [] = refl
terms_closed arities (t ∷ ts) = λ i. (same arities t).closed i ++ terms_closed arities ts i

terms_symbols : (arities : List ℕ) (args : List Ground) → symbols_of (map as_term args) ≡ symbols_of args
terms_symbols arities [] = refl
terms_symbols arities (t ∷ ts) = λ i. (same arities t).symbols i + terms_symbols arities ts i

terms_fit : (g : R.Grammar) (args : List Ground) → grounds_ok g args ≡ true → Each (TermFits g.arities) (map as_term args)
terms_fit g [] h = tt
terms_fit g (t ∷ ts) h =
    let parts = and_parts (ground_ok g t) (grounds_ok g ts) h in
    let one = and_parts (heads_fit g.arities t) (nat_le (nesting t) 32) parts.0 in
    let s = same g.arities t in
    let shallow : nesting (as_term t) ≤ 32 = let h : nat_le (nesting t) 32 ≡ true = one.1 in let e : nesting (as_term t) ≡ nesting t = s.depth in grind (arith, nat_tests) in
    (record { heads = s.heads ∙ one.0; depth = shallow }, terms_fit g ts parts.1)

-- ---- it can be spelled
made_spelled : (cons : List decl.Con) → Each IsName (names_in cons) → (h : Head) (ts : Trees Never) → head_fits (arities_in cons) h
    (count ts) ≡ true → IsSmall h → AreSpelledParts (named_parts (names_in cons) [] (as_terms ts)) →
    IsSpelledTerm (named (names_in cons) [] (Made h (as_terms ts)))
made_spelled cons names (Con c) Nil fits small parts = each_get IsName [] (names_in cons) c names (found cons c 0 fits).below
made_spelled cons names (Con c) (More t ts) fits small parts = (each_get IsName [] (names_in cons) c names (found cons c (count (More t ts)) fits).below, parts)
made_spelled cons names (Num n) ts fits small parts = small
made_spelled cons names (Text x) ts fits small parts = (and_parts (nat_eq (count ts) 0) (is_content x) fits).1

mutual
  term_spelled : (cons : List decl.Con) → Each IsName (names_in cons) → (t : Ground) → heads_fit (arities_in cons) t ≡ true → NumbersFit t → IsSpelledTerm (named (names_in cons) [] (as_term t))
  term_spelled cons names (Leaf x) fits small = elim x [ ]
  term_spelled cons names (Made h ts) fits small =
      let parts = and_parts (head_fits (arities_in cons) h (count ts)) (all_heads_fit (arities_in cons) ts) fits in
      made_spelled cons names h ts parts.0 small.0 (parts_spelled cons names ts parts.1 small.1)

  parts_spelled : (cons : List decl.Con) → Each IsName (names_in cons) → (ts : Trees Never) → all_heads_fit (arities_in cons) ts ≡ true →
      PartsFit ts → AreSpelledParts (named_parts (names_in cons) [] (as_terms ts))
  parts_spelled cons names Nil fits small = tt
  parts_spelled cons names (More t ts) fits small =
      let parts = and_parts (heads_fit (arities_in cons) t) (all_heads_fit (arities_in cons) ts) fits in
      (term_spelled cons names t parts.0 small.0, parts_spelled cons names ts parts.1 small.1)

pub args_spelled : (cons : List decl.Con) (g : R.Grammar) → g.arities ≡ arities_in cons → Each IsName (names_in cons) → (args : List Ground) →
    grounds_ok g args ≡ true → Each NumbersFit args → AreSpelled (written_args (names_in cons) args)
args_spelled cons g same names [] ok small = tt
args_spelled cons g same names (t ∷ ts) ok small =
    let parts = and_parts (ground_ok g t) (grounds_ok g ts) ok in
    let heads = (and_parts (heads_fit g.arities t) (nat_le (nesting t) 32) parts.0).0 in
    (term_spelled cons names t (subst (λ a. heads_fit a t ≡ true) same heads) small.0, args_spelled cons g same names ts parts.1 small.1)

-- ---- it means the argument again: where a term with numbers for its names has none, it has no names
mutual
  bound_back : (f : List ℕ → ℕ) (r : Tree (List ℕ)) (t : Ground) → bind (λ x. Leaf (f x)) r ≡ as_term t → bind (λ x. Made (Num 0) Nil) r ≡ t
  bound_back f (Leaf x) (Leaf y) e = elim y [ ]
  bound_back f (Leaf x) (Made h ts) e = cc
  bound_back f (Made k rs) (Leaf y) e = elim y [ ]
  bound_back f (Made k rs) (Made h ts) e =
      let heads : k ≡ h = cc in
      let parts : binds (λ x. Leaf (f x)) rs ≡ as_terms ts = cc in
      λ i. Made (heads i) (binds_back f rs ts parts i)

  binds_back : (f : List ℕ → ℕ) (rs : Trees (List ℕ)) (ts : Trees Never) → binds (λ x. Leaf (f x)) rs ≡ as_terms ts → binds (λ x. Made (Num 0) Nil) rs ≡ ts
  binds_back f Nil Nil e = refl
  binds_back f Nil (More t ts) e = cc
  binds_back f (More r rs) Nil e = cc
  binds_back f (More r rs) (More t ts) e =
      let first : bind (λ x. Leaf (f x)) r ≡ as_term t = cc in
      let rest : binds (λ x. Leaf (f x)) rs ≡ as_terms ts = cc in
      λ i. More (bound_back f r t first i) (binds_back f rs ts rest i)

all_back : (names : List (List ℕ)) (ws : List Written) (args : List Ground) → map (numbered names []) ws ≡ map as_term args → map (ground_named names) ws ≡ args
all_back names [] [] e = refl
all_back names [] (t ∷ ts) e = cc
all_back names (x ∷ ws) [] e = cc
all_back names (x ∷ ws) (t ∷ ts) e =
    let first : numbered names [] x ≡ as_term t = cc in
    let rest : map (numbered names []) ws ≡ map as_term ts = cc in
    λ i. bound_back (λ y. number_of y []) (resolved names x) t first i ∷ all_back names ws ts rest i

-- ---- all of it
pub record ArgsWell (cons : List decl.Con) (args : List Ground) : Type 0 where
  pub well : AllWell cons [] (map as_term args)
  pub closed : leaves_of (map as_term args) ≡ []
  pub symbols : symbols_of (map as_term args) ≡ symbols_of args
  pub back : map (ground_named (names_in cons)) (written_args (names_in cons) args) ≡ args

pub args_well : (cons : List decl.Con) (g : R.Grammar) → g.arities ≡ arities_in cons → Differ (names_in cons) → (args : List Ground) → grounds_ok g args ≡ true → ArgsWell cons args
args_well cons g same differ args ok =
    let closed = terms_closed g.arities args in
    let fit = subst (λ a. Each (TermFits a) (map as_term args)) same (terms_fit g args ok) in
    let well = all_well cons [] differ tt tt (map as_term args) fit (subst (Each (λ v. v < 0)) (sym closed) tt) in
    record { well = well; closed = closed; symbols = terms_symbols g.arities args; back = all_back (names_in cons) (written_args (names_in cons) args) args well.back }
