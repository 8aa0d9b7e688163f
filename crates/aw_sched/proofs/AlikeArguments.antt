-- Arguments with their names looked up are like the terms that are written.
use Rattle.std.proofs.Common.{◌≡◌, ℕ, zero, suc, ◌+◌, ◌≤◌, ◌<◌, refl, sym, ap, ◌∙◌, subst, Bool, true, false, ◌&&◌, ◌||◌, List, [], ◌∷◌, map, length}
use Rattle.std.proofs.Common.{max, Option, Some, None, is_some, option_map, option_and_then, slice_get, arith, nat_lt, nat_le}
use Rattle.std.proofs.Math.Bool.{and-true}
use Rattle.std.proofs.lemmas.Bool.{and_parts, le-leb}
use Rattle.std.proofs.lemmas.Bool.Decides.{nat_tests}
use Rattle.std.proofs.lemmas.List.{length-map}
use Rattle.aw_spelling.specs.Spelling.{is_content}
use Rattle.aw_term.specs.Trees.{Never, Head, Con, Num, Text, Made, Trees, Nil, More, count}
use Rattle.aw_term.specs.Rules.{Ground}
use Rattle.aw_term.specs.Rules as P
use Rattle.aw_term.specs.WellFormed.{head_fits, heads_fit, all_heads_fit, symbols, all_symbols, symbols_of, nesting, all_nesting}
use Rattle.aw_grammar.specs.declared.rule.Con as declared
use Rattle.aw_grammar.specs.Written.{Written, Word, Apply, Literal, Writtens, Empty, Then}
use Rattle.aw_grammar.specs.Terms.{symbols_in, symbols_in_parts, symbols_in_all, depth_of, depth_of_parts, depth_of_all, is_literal, has_contents, parts_have_contents, all_have_contents}
use Rattle.aw_grammar.specs.Kinds.{has_arity, con_called, count_parts, has_arities, parts_have_arities, all_have_arities}
use Rattle.aw_base.specs.ChoiceFits.{grounds_ok, args_ok}
use Rattle.aw_grammar.specs.Named.{number_named}
use Rattle.aw_grammar.proofs.Numbers.{number_is_place}
use Rattle.aw_sched.specs.Arguments.{names_of}
use Rattle.aw_sched.specs.Events.{args_are_past}
use Rattle.aw_sched.specs.Grounds.{known_ground, known_parts, known_grounds}
use Rattle.aw_sched.proofs.LookedUp.{found_below, named_within}

abbrev pub arities_of : List declared.Con → List ℕ
arities_of cons = map (λ (c : declared.Con). c.arity) cons

record Alike (cons : List declared.Con) (t : Written) (g : Ground) : Type 0 where
  symbol : symbols g ≡ symbols_in t
  level : nesting g ≡ depth_of t
  head : has_contents t ≡ true → heads_fit (arities_of cons) g ≡ has_arities cons t

record PartsAlike (cons : List declared.Con) (ts : Writtens) (gs : Trees Never) : Type 0 where
  symbol : all_symbols gs ≡ symbols_in_parts ts
  level : all_nesting gs ≡ depth_of_parts ts
  number : count gs ≡ count_parts ts
  head : parts_have_contents ts ≡ true → all_heads_fit (arities_of cons) gs ≡ parts_have_arities cons ts

-- a constructor that is found has the arity of its declaration
arity_at : (cons : List declared.Con) (i n : ℕ) (found : Option declared.Con) → slice_get cons i ≡ found → is_some found ≡ true → head_fits (arities_of cons) (Con i) n ≡ has_arity n found
arity_at [] i n found e h = absurd (cc (ap is_some e, h))
arity_at (c ∷ cs) zero n found e h = ap (has_arity n) e
arity_at (c ∷ cs) (suc i) n found e h = arity_at cs i n found e h

head_law : (cons : List declared.Con) (x : List ℕ) (i n : ℕ) → Some i ≡ number_named (names_of cons) x → head_fits (arities_of cons) (Con i) n ≡ has_arity n (con_called x cons)
head_law cons x i n e =
    let below : i < length cons = omega (arith, named_within (names_of cons) x i e, length-map cons (λ (c : declared.Con). c.name)) in
    arity_at cons i n (slice_get cons i) refl (found_below cons i below)
    ∙ ap (λ o. has_arity n (option_and_then (λ k. slice_get cons k) o)) (e ∙ sym (number_is_place (names_of cons) x))

word_alike : (cons : List declared.Con) (x : List ℕ) (g : Ground) (found : Option ℕ) → found ≡ number_named (names_of cons) x →
    option_map (λ c. let h : Ground = Made (Con c) Nil in h) found ≡ Some g → Alike cons (Word x) g
word_alike cons x g None e h = cc
word_alike cons x g (Some c) e h =
    let same : Made (Con c) Nil ≡ g = cc in
    subst (Alike cons (Word x)) same (record {
      symbol = refl;
      level = refl;
      head = λ fine. and-true (head_fits (arities_of cons) (Con c) 0) ∙ head_law cons x c 0 e;
    })

apply_alike : (cons : List declared.Con) (x : List ℕ) (ts : Writtens) (g : Ground) (found : Option ℕ) (parts : Option (Trees Never)) → found ≡ number_named (names_of cons) x
    → option_and_then (λ c. option_map (λ ps. let h : Ground = Made (Con c) ps in h) parts) found ≡ Some g
    → ((ps : Trees Never) → parts ≡ Some ps → PartsAlike cons ts ps) → Alike cons (Apply x ts) g
apply_alike cons x ts g None parts e h deeper = cc
apply_alike cons x ts g (Some c) None e h deeper = cc
apply_alike cons x ts g (Some c) (Some ps) e h deeper =
    let same : Made (Con c) ps ≡ g = cc in
    let a = deeper ps refl in
    subst (Alike cons (Apply x ts)) same (record {
      symbol = ap (λ n. suc n) a.symbol;
      level = ap (λ n. suc n) a.level;
      head = λ fine. ap (λ n. head_fits (arities_of cons) (Con c) n && all_heads_fit (arities_of cons) ps) a.number
          ∙ ap (λ b. b && all_heads_fit (arities_of cons) ps) (head_law cons x c (count_parts ts) e)
          ∙ ap (λ b. has_arity (count_parts ts) (con_called x cons) && b) (a.head fine);
    })

literal_alike : (cons : List declared.Con) (h : Head) (g : Ground) → Some (Made h Nil) ≡ Some g → Alike cons (Literal h) g
literal_alike cons h g e =
    let same : Made h Nil ≡ g = cc in
    subst (Alike cons (Literal h)) same (record { symbol = refl; level = refl; head = fits h })
  where
    fits : (h : Head) → is_literal h ≡ true → (head_fits (arities_of cons) h 0 && true) ≡ true
    fits (Con c) f = cc
    fits (Num n) f = refl
    fits (Text t) f = and-true (is_content t) ∙ f

then_alike : (cons : List declared.Con) (t : Written) (ts : Writtens) (gs : Trees Never) (first : Option Ground) (more : Option (Trees Never))
    → option_and_then (λ g. option_map (λ rest. More g rest) more) first ≡ Some gs
    → ((g : Ground) → first ≡ Some g → Alike cons t g) → ((rest : Trees Never) → more ≡ Some rest → PartsAlike cons ts rest) → PartsAlike cons (Then t ts) gs
then_alike cons t ts gs None more h one rest = cc
then_alike cons t ts gs (Some g) None h one rest = cc
then_alike cons t ts gs (Some g) (Some ps) h one rest =
    let same : More g ps ≡ gs = cc in
    let a = one g refl in
    let b = rest ps refl in
    subst (PartsAlike cons (Then t ts)) same (record {
      symbol = ap (λ n. n + all_symbols ps) a.symbol ∙ ap (λ n. symbols_in t + n) b.symbol;
      level = ap (λ n. max n (all_nesting ps)) a.level ∙ ap (λ n. max (depth_of t) n) b.level;
      number = ap (λ n. suc n) b.number;
      head = λ fine. let f = and_parts (has_contents t) (parts_have_contents ts) fine in
          ap (λ c. c && all_heads_fit (arities_of cons) ps) (a.head f.0) ∙ ap (λ c. has_arities cons t && c) (b.head f.1);
    })

mutual
  alike : (cons : List declared.Con) (t : Written) (g : Ground) → known_ground (names_of cons) t ≡ Some g → Alike cons t g
  alike cons (Word x) g h = word_alike cons x g (number_named (names_of cons) x) refl h
  alike cons (Apply x ts) g h = apply_alike cons x ts g (number_named (names_of cons) x) (known_parts (names_of cons) ts) refl h (λ ps e. parts_alike cons ts ps e)
  alike cons (Literal l) g h = literal_alike cons l g h

  parts_alike : (cons : List declared.Con) (ts : Writtens) (gs : Trees Never) → known_parts (names_of cons) ts ≡ Some gs → PartsAlike cons ts gs
  parts_alike cons Empty gs h =
      let same : Nil ≡ gs = cc in
      subst (PartsAlike cons Empty) same (record { symbol = refl; level = refl; number = refl; head = λ fine. refl })
  parts_alike cons (Then t ts) gs h =
      then_alike cons t ts gs (known_ground (names_of cons) t) (known_parts (names_of cons) ts) h (λ g e. alike cons t g e) (λ ps e. parts_alike cons ts ps e)

record AllAlike (cons : List declared.Con) (g : P.Grammar) (ts : List Written) (gs : List Ground) : Type 0 where
  number : length gs ≡ length ts
  symbol : symbols_of gs ≡ symbols_in_all ts
  fit : all_have_contents ts ≡ true → depth_of_all ts ≤ 32 → grounds_ok g gs ≡ all_have_arities cons ts

fit_one : (a b c d : Bool) → b ≡ true → a ≡ c → ((a && b) && d) ≡ (c && d)
fit_one true true true d e f = refl
fit_one false true false d e f = refl
fit_one a false c d e f = cc
fit_one true true false d e f = cc
fit_one false true true d e f = cc

cons_alike : (cons : List declared.Con) (g : P.Grammar) (t : Written) (ts : List Written) (found : List Ground) (first : Option Ground) (more : Option (List Ground)) → g.arities ≡ arities_of cons
    → option_and_then (λ x. option_map (λ rest. x ∷ rest) more) first ≡ Some found
    → ((x : Ground) → first ≡ Some x → Alike cons t x) → ((rest : List Ground) → more ≡ Some rest → AllAlike cons g ts rest) → AllAlike cons g (t ∷ ts) found
cons_alike cons g t ts found None more k h one rest = cc
cons_alike cons g t ts found (Some x) None k h one rest = cc
cons_alike cons g t ts found (Some x) (Some xs) k h one rest =
    let same : x ∷ xs ≡ found = cc in
    let a = one x refl in
    let b = rest xs refl in
    subst (AllAlike cons g (t ∷ ts)) same (record {
      number = omega (arith, b.number);
      symbol = ap (λ n. n + symbols_of xs) a.symbol ∙ ap (λ n. symbols_in t + n) b.symbol;
      fit = λ fine few. let f = and_parts (has_contents t) (all_have_contents ts) fine in
          fit_one (heads_fit g.arities x) (nat_le (nesting x) 32) (has_arities cons t) (grounds_ok g xs) (le-leb (nesting x) 32 (omega (arith, a.level, few)))
          (ap (λ ks. heads_fit ks x) k ∙ a.head f.0)
          ∙ ap (λ c. has_arities cons t && c) (b.fit f.1 (omega (arith, few)));
    })

all_alike : (cons : List declared.Con) (g : P.Grammar) (ts : List Written) (gs : List Ground) → g.arities ≡ arities_of cons → known_grounds (names_of cons) ts ≡ Some gs → AllAlike cons g ts gs
all_alike cons g [] gs k h =
    let same : [] ≡ gs = cc in
    subst (AllAlike cons g []) same (record { number = refl; symbol = refl; fit = λ fine few. refl })
all_alike cons g (t ∷ ts) gs k h =
    cons_alike cons g t ts gs (known_ground (names_of cons) t) (known_grounds (names_of cons) ts) k h (λ x e. alike cons t x e) (λ rest e. all_alike cons g ts rest k e)

few_of : (n m l : ℕ) → (nat_lt 8 n || (nat_lt 256 m || nat_lt 32 l)) ≡ false → (n ≤ 8) × ((m ≤ 256) × (l ≤ 32))
few_of n m l h = (grind (arith, nat_tests), (grind (arith, nat_tests), grind (arith, nat_tests)))

-- what tells whether the arguments of a choice keep their limits and arities tells the arities of what is written within the limits
pub args_fit : (cons : List declared.Con) (g : P.Grammar) (ts : List Written) (gs : List Ground) → g.arities ≡ arities_of cons → known_grounds (names_of cons) ts ≡ Some gs
    → all_have_contents ts ≡ true → args_are_past ts ≡ false → args_ok g gs ≡ all_have_arities cons ts
args_fit cons g ts gs k h fine past =
    let a = all_alike cons g ts gs k h in
    let few = few_of (length ts) (symbols_in_all ts) (depth_of_all ts) past in
    ap (λ b. b && (nat_le (symbols_of gs) 256 && grounds_ok g gs)) (le-leb (length gs) 8 (omega (arith, a.number, few.0)))
    ∙ ap (λ b. b && grounds_ok g gs) (le-leb (symbols_of gs) 256 (omega (arith, a.symbol, few.1.0)))
    ∙ a.fit fine few.1.1
