-- Arguments that are read from lexemes at once, part by part.
use Rattle.std.proofs.Common.{◌≡◌, ℕ, suc, ◌+◌, ◌≤◌, ◌<◌, refl, sym, ap, ◌∙◌, true, false, ◌&&◌, ◌||◌, List, [], ◌∷◌, ◌++◌, Some, subst, append_assoc, append-nil, arith}
use Rattle.std.specs.Prelude.{map, length, option_map, option_and_then, nat_lt, Result, Ok, Err, IfOk}
use Rattle.std.specs.List.{AllZip}
use Rattle.std.proofs.lemmas.Bool.{and_from}
use Rattle.std.proofs.lemmas.Bool.Decides.{nat_tests}
use Rattle.aw_term.specs.Trees as P
use Rattle.aw_term.specs.Views.{ground_of}
use Rattle.aw_term.specs.declared.ground.Ground.{Ground}
use Rattle.aw_term.specs.declared.ground.Ground as grounds
use Rattle.aw_grammar.specs.declared.rule.Con.{Con}
use Rattle.aw_grammar.specs.Written.{Written, Word, Apply, Literal, side_by_side}
use Rattle.aw_grammar.specs.Terms.{symbols_in, symbols_in_all, depth_of_all}
use Rattle.aw_grammar.specs.Kinds.{has_arity, con_called, has_arities, parts_have_arities, all_have_arities}
use Rattle.aw_grammar.proofs.TermLemmas.{count_side, symbols_side, depth_side}
use Rattle.aw_grammar.proofs.Emptying.{some_symbols}
use Rattle.aw_term_reader.specs.Lexemes.{Lexeme, Name, Number, Quoted, Mark}
use Rattle.aw_term_reader.specs.Laws.{AreWritten}
use Rattle.aw_term_reader.specs.Terms.{spelling, spellings, spellings_behind}
use Rattle.aw_sched.specs.Arguments.{names_of, IsCon, Means}
use Rattle.aw_sched.specs.ArgumentFronts.{AreInBraces, IsFront, OpensParts}
use Rattle.aw_sched.specs.ByteArguments.{Says, SaysBefore, TakesArgument, TakesArguments, TakesAll}
use Rattle.aw_sched.proofs.ByteFronts.{says_nothing, says_same}
use Rattle.aw_sched.specs.Grounds.{known_grounds}
use Rattle.aw_sched.specs.LineSpelling.{args_spelling}
use Rattle.aw_sched.specs.declared.known.ArgumentFront.{ArgumentFront}
use Rattle.aw_sched.specs.declared.known.ArgumentFront.TheVariants.{Whole, Parts}
use Rattle.aw_sched.proofs.KnownGrounds.{word_known, apply_known}

arities_side : (cons : List Con) (ts : List Written) → parts_have_arities cons (side_by_side ts) ≡ all_have_arities cons ts
arities_side cons [] = refl
arities_side cons (t ∷ ts) = ap (λ b. has_arities cons t && b) (arities_side cons ts)

-- what holds of all terms that mean arguments
pub written_all : (cons : List Con) (depth : ℕ) (ts : List Written) (xs : List Ground) → AllZip (Means cons depth) ts xs → AreWritten (side_by_side ts)
written_all cons depth [] xs h = tt
written_all cons depth (t ∷ ts) [] h = elim h [ ]
written_all cons depth (t ∷ ts) (x ∷ xs) h = (h.0.written, written_all cons depth ts xs h.1)

shallow_all : (cons : List Con) (depth : ℕ) (ts : List Written) (xs : List Ground) → AllZip (Means cons depth) ts xs → depth_of_all ts ≤ depth
shallow_all cons depth [] xs h = omega arith
shallow_all cons depth (t ∷ ts) [] h = elim h [ ]
shallow_all cons depth (t ∷ ts) (x ∷ xs) h = omega (arith, h.0.shallow, shallow_all cons depth ts xs h.1)

known_all : (cons : List Con) (depth : ℕ) (ts : List Written) (xs : List Ground) → AllZip (Means cons depth) ts xs → known_grounds (names_of cons) ts ≡ Some (map ground_of xs)
known_all cons depth [] [] h = refl
known_all cons depth [] (x ∷ xs) h = elim h [ ]
known_all cons depth (t ∷ ts) [] h = elim h [ ]
known_all cons depth (t ∷ ts) (x ∷ xs) h =
    ap (λ o. option_and_then (λ g. option_map (λ gs. g ∷ gs) (known_grounds (names_of cons) ts)) o) h.0.known
    ∙ ap (λ o. option_map (λ gs. ground_of x ∷ gs) o) (known_all cons depth ts xs h.1)

arities_all : (cons : List Con) (depth : ℕ) (ts : List Written) (xs : List Ground) → AllZip (Means cons depth) ts xs → all_have_arities cons ts ≡ true
arities_all cons depth [] xs h = refl
arities_all cons depth (t ∷ ts) [] h = elim h [ ]
arities_all cons depth (t ∷ ts) (x ∷ xs) h = and_from _ _ h.0.arities (arities_all cons depth ts xs h.1)

length_all : (cons : List Con) (depth : ℕ) (ts : List Written) (xs : List Ground) → AllZip (Means cons depth) ts xs → length ts ≡ length xs
length_all cons depth [] [] h = refl
length_all cons depth [] (x ∷ xs) h = elim h [ ]
length_all cons depth (t ∷ ts) [] h = elim h [ ]
length_all cons depth (t ∷ ts) (x ∷ xs) h = ap (λ n. suc n) (length_all cons depth ts xs h.1)

means_last : (cons : List Con) (depth : ℕ) (ts : List Written) (xs : List Ground) (t : Written) (x : Ground) → AllZip (Means cons depth) ts xs → Means cons depth t x
    → AllZip (Means cons depth) (ts ++ t ∷ []) (xs ++ x ∷ [])
means_last cons depth [] [] t x h m = (m, tt)
means_last cons depth [] (y ∷ ys) t x h m = elim h [ ]
means_last cons depth (u ∷ us) [] t x h m = elim h [ ]
means_last cons depth (u ∷ us) (y ∷ ys) t x h m = (h.0, means_last cons depth us ys t x h.1 m)

symbols_last : (ts : List Written) (t : Written) → symbols_in_all (ts ++ t ∷ []) ≡ symbols_in_all ts + symbols_in t
symbols_last [] t = omega arith
symbols_last (u ∷ us) t = omega (arith, symbols_last us t)

-- terms, with a comma behind each
abbrev pub with_commas : List Written → List Lexeme
with_commas [] = []
with_commas (t ∷ ts) = spelling t ++ Mark 44 ∷ with_commas ts

comma_last : (ts : List Written) (t : Written) (later : List Lexeme) → with_commas (ts ++ t ∷ []) ++ later ≡ with_commas ts ++ (spelling t ++ Mark 44 ∷ later)
comma_last [] t later = append_assoc (spelling t) (Mark 44 ∷ []) later
comma_last (u ∷ us) t later =
    append_assoc (spelling u) (Mark 44 ∷ with_commas (us ++ t ∷ [])) later
    ∙ ap (λ k. spelling u ++ Mark 44 ∷ k) (comma_last us t later)
    ∙ sym (append_assoc (spelling u) (Mark 44 ∷ with_commas us) (spelling t ++ Mark 44 ∷ later))

behind_last : (ts : List Written) (t : Written) → spellings_behind (side_by_side (ts ++ t ∷ [])) ≡ Mark 44 ∷ spellings (side_by_side (ts ++ t ∷ []))
behind_last [] t = refl
behind_last (u ∷ us) t = refl

spelled_last : (ts : List Written) (t : Written) (later : List Lexeme) → spellings (side_by_side (ts ++ t ∷ [])) ++ later ≡ with_commas ts ++ (spelling t ++ later)
spelled_last [] t later = ap (λ k. k ++ later) (append-nil (spelling t))
spelled_last (u ∷ us) t later =
    ap (λ k. (spelling u ++ k) ++ later) (behind_last us t)
    ∙ append_assoc (spelling u) (Mark 44 ∷ spellings (side_by_side (us ++ t ∷ []))) later
    ∙ ap (λ k. spelling u ++ Mark 44 ∷ k) (spelled_last us t later)
    ∙ sym (append_assoc (spelling u) (Mark 44 ∷ with_commas us) (spelling t ++ later))

-- arguments that were read so far, each with a comma behind it, and what is left
pub record ReadSoFar (cons : List Con) (depth room : ℕ) (bytes : List ℕ) (xs : List Ground) (left : ℕ) (rest : List ℕ) : Type 0 where
  pub terms : List Written
  pub means : AllZip (Means cons depth) terms xs
  pub spelled : SaysBefore bytes (with_commas terms) rest
  pub symbols : left + symbols_in_all terms ≡ room

pub none_yet : (cons : List Con) (depth room : ℕ) (bytes : List ℕ) (xs : List Ground) → xs ≡ [] → ReadSoFar cons depth room bytes xs room bytes
none_yet cons depth room bytes [] e = record { terms = []; means = tt; spelled = says_same bytes; symbols = omega arith }
none_yet cons depth room bytes (x ∷ xs) e = cc

pub one_more : (cons : List Con) (depth room : ℕ) (bytes : List ℕ) (xs ys : List Ground) (x : Ground) (left less : ℕ) (rest behind more : List ℕ)
    → ReadSoFar cons depth room bytes xs left rest → TakesArgument cons depth left rest x less behind → SaysBefore behind (Mark 44 ∷ []) more → ys ≡ xs ++ x ∷ []
    → ReadSoFar cons depth room bytes ys less more
one_more cons depth room bytes xs ys x left less rest behind more so_far next comma all =
    let t = next.term in
    let ts = so_far.terms in
    record {
      terms = ts ++ t ∷ [];
      means = rw all (means_last cons depth ts xs t x so_far.means next.means);
      spelled = λ ls s. subst (Says bytes) (sym (comma_last ts t ls)) (so_far.spelled (spelling t ++ Mark 44 ∷ ls) (next.spelled (Mark 44 ∷ ls) (comma ls s)));
      symbols = omega (arith, symbols_last ts t, so_far.symbols, next.symbols);
    }

pub at_close : (cons : List Con) (close depth room : ℕ) (bytes : List ℕ) (xs ys : List Ground) (x : Ground) (left less : ℕ) (rest behind more : List ℕ)
    → ReadSoFar cons depth room bytes xs left rest → TakesArgument cons depth left rest x less behind → SaysBefore behind (Mark close ∷ []) more → ys ≡ xs ++ x ∷ []
    → TakesArguments cons close depth room bytes ys less more
at_close cons close depth room bytes xs ys x left less rest behind more so_far next closed all =
    let t = next.term in
    let ts = so_far.terms in
    let inside = spellings (side_by_side (ts ++ t ∷ [])) in
    record {
      terms = ts ++ t ∷ [];
      means = rw all (means_last cons depth ts xs t x so_far.means next.means);
      spelled = λ ls s. subst (Says bytes) (sym (spelled_last ts t (Mark close ∷ ls)) ∙ sym (append_assoc inside (Mark close ∷ []) ls))
          (so_far.spelled (spelling t ++ Mark close ∷ ls) (next.spelled (Mark close ∷ ls) (closed ls s)));
      symbols = omega (arith, symbols_last ts t, so_far.symbols, next.symbols);
      some = omega (arith, so_far.symbols, next.symbols, some_symbols t);
    }

-- a literal is read
pub number_read : (cons : List Con) (depth room left n : ℕ) (bytes rest : List ℕ) → 0 < depth → left + 1 ≡ room → SaysBefore bytes (Number n ∷ [])
    rest → TakesArgument cons depth room bytes (grounds.Num n) left rest
number_read cons depth room left n bytes rest some e front = record {
  term = Literal (P.Num n);
  means = record { written = tt; shallow = omega (arith, some); known = refl; arities = refl };
  spelled = front;
  symbols = e;
}

pub text_read : (cons : List Con) (depth room left : ℕ) (text bytes rest : List ℕ) → 0 < depth → left + 1 ≡ room → SaysBefore bytes (Quoted text ∷ [])
    rest → TakesArgument cons depth room bytes (grounds.Text text) left rest
text_read cons depth room left text bytes rest some e front = record {
  term = Literal (P.Text text);
  means = record { written = tt; shallow = omega (arith, some); known = refl; arities = refl };
  spelled = front;
  symbols = e;
}

-- a constructor without parts is read
pub word_read : (cons : List Con) (depth room left : ℕ) (name : List ℕ) (con parts : ℕ) (none : List Ground) (bytes rest : List ℕ) → 0 < depth → left + 1 ≡ room
    → IsCon cons name con parts → parts ≡ 0 → none ≡ [] → SaysBefore bytes (Name name ∷ []) rest → TakesArgument cons depth room bytes (grounds.Con con none) left rest
word_read cons depth room left name con parts none bytes rest some e is no_parts empty front = record {
  term = Word name;
  means = record {
    written = tt;
    shallow = omega (arith, some);
    known = word_known (names_of cons) name con none is.number empty;
    arities = ap (λ n. has_arity n (con_called name cons)) (sym no_parts) ∙ is.arity;
  };
  spelled = front;
  symbols = e;
}

-- a constructor with parts is read
pub parts_read : (cons : List Con) (depth room within inside left : ℕ) (con parts : ℕ) (xs : List Ground) (bytes first rest : List ℕ) → within + 1 ≡ depth → inside + 1 ≡ room
    → OpensParts cons bytes con parts first → length xs ≡ parts → TakesArguments cons 41 within inside first xs left rest
    → TakesArgument cons depth room bytes (grounds.Con con xs) left rest
parts_read cons depth room within inside left con parts xs bytes first rest d e opened number read =
    let ts = read.terms in
    let all = spellings (side_by_side ts) ++ Mark 41 ∷ [] in
    record {
      term = Apply opened.name (side_by_side ts);
      means = record {
        written = written_all cons within ts xs read.means;
        shallow = omega (arith, d, depth_side ts, shallow_all cons within ts xs read.means);
        known = apply_known (names_of cons) opened.name con ts xs opened.is.number (known_all cons within ts xs read.means);
        arities = and_from _ _ (ap (λ n. has_arity n (con_called opened.name cons)) (count_side ts ∙ length_all cons within ts xs read.means ∙ number) ∙ opened.is.arity)
            (arities_side cons ts ∙ arities_all cons within ts xs read.means);
      };
      spelled = λ ls s. opened.spelled (all ++ ls) (read.spelled ls s);
      symbols = omega (arith, e, symbols_side ts, read.symbols);
    }

-- an argument whose parts were read, where they are as many as they have to be
pub with_parts_read : {E : Type 0} (cons : List Con) (depth room within inside left : ℕ) (con parts : ℕ) (xs : List Ground)
    (bytes first rest : List ℕ) (r : Result Ground E) → within + 1 ≡ depth → inside + 1 ≡ room
    → OpensParts cons bytes con parts first → TakesArguments cons 41 within inside first xs left rest → IfOk r (λ x. (x ≡ grounds.Con con xs) × (length xs ≡ parts))
    → IfOk r (λ x. TakesArgument cons depth room bytes x left rest)
with_parts_read cons depth room within inside left con parts xs bytes first rest (Ok x) d e opened read made =
    subst (λ y. TakesArgument cons depth room bytes y left rest) (sym made.0) (parts_read cons depth room within inside left con parts xs bytes first rest d e opened made.1 read)
with_parts_read cons depth room within inside left con parts xs bytes first rest (Err f) d e opened read made = tt

-- what stands at the front of an argument stands there behind blanks
pub front_behind : (cons : List Con) (line bytes : List ℕ) (x : ArgumentFront) (rest : List ℕ) → SaysBefore line [] bytes → IsFront cons bytes x rest → IsFront cons line x rest
front_behind cons line bytes (Whole x) rest blanks is = λ depth room left some e.
    let read = is depth room left some e in
    record { term = read.term; means = read.means; spelled = λ ls s. blanks (spelling read.term ++ ls) (read.spelled ls s); symbols = read.symbols }
front_behind cons line bytes (Parts con arity parts) rest blanks is =
    (record { name = is.0.name; is = is.0.is; spelled = λ ls s. blanks (Name is.0.name ∷ Mark 40 ∷ ls) (is.0.spelled ls s) }, is.1)

-- no arguments, or some between braces, behind which nothing is left
pub none_read : (cons : List Con) (xs : List Ground) (bytes : List ℕ) → xs ≡ [] → SaysBefore bytes [] [] → TakesAll cons bytes xs
none_read cons [] bytes e blank = record {
  spelled = [];
  says = blank [] says_nothing;
  reads = record { terms = []; written = tt; spelled = refl; within = refl; known = refl; arities = refl };
}
none_read cons (x ∷ xs) bytes e blank = cc

spelled_some : (ts : List Written) → 0 < symbols_in_all ts → Mark 123 ∷ (spellings (side_by_side ts) ++ Mark 125 ∷ []) ≡ args_spelling ts
spelled_some [] some = absurd (omega (arith, some))
spelled_some (t ∷ ts) some = refl

pub few_is : (number symbols depth : ℕ) → number ≤ 8 → symbols ≤ 256 → depth ≤ 32 → (nat_lt 8 number || (nat_lt 256 symbols || nat_lt 32 depth)) ≡ false
few_is number symbols depth a b c = grind (arith, nat_tests)

pub some_read : (cons : List Con) (bytes first : List ℕ) (xs : List Ground) → SaysBefore bytes (Mark 123 ∷ []) first → AreInBraces cons first xs → TakesAll cons bytes xs
some_read cons bytes first xs opened braces =
    let read = braces.reads in
    let ts = read.terms in
    let inside = spellings (side_by_side ts) ++ Mark 125 ∷ [] in
    record {
      spelled = Mark 123 ∷ inside;
      says = subst (λ k. Says bytes (Mark 123 ∷ k)) (append-nil inside) (opened (inside ++ []) (read.spelled [] (braces.ends [] says_nothing)));
      reads = record {
        terms = ts;
        written = written_all cons 32 ts xs read.means;
        spelled = spelled_some ts (omega (arith, read.symbols, read.some));
        within = few_is (length ts) (symbols_in_all ts) (depth_of_all ts) (omega (arith, braces.few, length_all cons 32 ts xs read.means))
            (omega (arith, read.symbols)) (shallow_all cons 32 ts xs read.means);
        known = known_all cons 32 ts xs read.means;
        arities = arities_all cons 32 ts xs read.means;
      };
    }
