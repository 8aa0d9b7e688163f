-- Allowances of symbols.
use Rattle.std.proofs.Common.{◌≡◌, ℕ, suc, ◌+◌, ◌-◌, ◌≤◌, refl, sym, ap, ◌∙◌, Bool, true, false, ◌&&◌, cond, List, [], ◌∷◌, map, length, max, Option}
use Rattle.std.proofs.Common.{Some, None, is_some, option_and_then, arith, nat_le}
use Rattle.std.proofs.lemmas.Bool.{lt-leb, le-leb, and_right}
use Rattle.std.proofs.lemmas.Bool.Decides.{nat_tests}
use Rattle.std.proofs.lemmas.List.{length-map}
use Rattle.aw_term.specs.Trees.{Con, Leaf, Made, join}
use Rattle.aw_term.specs.Rules.{Ground, Grammar}
use Rattle.aw_term.specs.WellFormed.{head_fits, heads_fit, all_heads_fit, symbols, all_symbols, symbols_of, nesting, all_nesting}
use Rattle.aw_term.proofs.Joined.{count_join, symbols_join}
use Rattle.aw_term.specs.Limits.{most_levels, most_symbols, most_arguments}
use Rattle.aw_base.specs.ChoiceFits.{ground_ok, grounds_ok, args_ok}
use Rattle.aw_base.specs.Allowance.{spare, fits_levels, left_after, left_after_all}

-- each of some arguments fits
abbrev pub fit_levels : List ℕ → ℕ → List Ground → Bool
fit_levels arities levels [] = true
fit_levels arities levels (t ∷ ts) = fits_levels arities levels t && fit_levels arities levels ts

spare_none : (allowed : ℕ) → Some allowed ≡ spare true 0 allowed
spare_none allowed = grind (arith, nat_tests)

spare_two : (n m allowed : ℕ) → option_and_then (λ left. spare true m left) (spare true n allowed) ≡ spare true (n + m) allowed
spare_two n m allowed = grind (arith, nat_tests)

spare_bad : (m : ℕ) (o : Option ℕ) → option_and_then (λ left. spare false m left) o ≡ None
spare_bad m None = refl
spare_bad m (Some left) = refl

spare_more : (a b : Bool) (n m allowed : ℕ) → option_and_then (λ left. spare b m left) (spare a n allowed) ≡ spare (a && b) (n + m) allowed
spare_more true true n m allowed = spare_two n m allowed
spare_more true false n m allowed = spare_bad m (spare true n allowed)
spare_more false b n m allowed = refl

and_then_same : (f h : ℕ → Option ℕ) (o : Option ℕ) → ((x : ℕ) → f x ≡ h x) → option_and_then f o ≡ option_and_then h o
and_then_same f h None e = refl
and_then_same f h (Some x) e = e x

pub all_spare : (arities : List ℕ) (levels allowed : ℕ) (ts : List Ground) → left_after_all arities levels allowed ts ≡ spare (fit_levels arities levels ts) (symbols_of ts) allowed
all_spare arities levels allowed [] = spare_none allowed
all_spare arities levels allowed (t ∷ ts) =
    and_then_same _ _ (left_after arities levels allowed t) (λ left. all_spare arities levels left ts)
    ∙ spare_more (fits_levels arities levels t) (fit_levels arities levels ts) (symbols t) (symbols_of ts) allowed

-- of no symbol, or no level, nothing is left
some_symbol : (t : Ground) → nat_le (symbols t) 0 ≡ false
some_symbol (Leaf x) = grind (arith, nat_tests)
some_symbol (Made h ts) = lt-leb (suc (all_symbols ts)) 0 (omega arith)

some_level : (t : Ground) → nat_le (nesting t) 0 ≡ false
some_level (Leaf x) = grind (arith, nat_tests)
some_level (Made h ts) = lt-leb (suc (all_nesting ts)) 0 (omega arith)

pub no_levels : (arities : List ℕ) (allowed : ℕ) (t : Ground) → left_after arities 0 allowed t ≡ None
no_levels arities allowed t = rw (some_level t, and_right (heads_fit arities t) false refl) refl

pub no_symbols : (arities : List ℕ) (levels : ℕ) (t : Ground) → left_after arities levels 0 t ≡ None
no_symbols arities levels t = rw (some_symbol t, and_right (fits_levels arities levels t) false refl) refl

-- a constructor with parts
max_test : (n m levels : ℕ) → nat_le (max n m) levels ≡ (nat_le n levels && nat_le m levels)
max_test n m levels = grind (arith, nat_tests)

regroup : (a b c d : Bool) → ((a && b) && (c && d)) ≡ ((a && c) && (b && d))
regroup true true c d = refl
regroup true false true d = refl
regroup true false false d = refl
regroup false b c d = refl

fit_join : (arities : List ℕ) (levels : ℕ) (ts : List Ground) → (all_heads_fit arities (join ts) && nat_le (all_nesting (join ts)) levels) ≡ fit_levels arities levels ts
fit_join arities levels [] = le-leb 0 levels (omega arith)
fit_join arities levels (t ∷ ts) =
    ap (λ b. (heads_fit arities t && all_heads_fit arities (join ts)) && b) (max_test (nesting t) (all_nesting (join ts)) levels)
    ∙ regroup (heads_fit arities t) (all_heads_fit arities (join ts)) (nat_le (nesting t) levels) (nat_le (all_nesting (join ts)) levels)
    ∙ ap (λ b. fits_levels arities levels t && b) (fit_join arities levels ts)

nested_one : (n levels below : ℕ) → levels ≡ below + 1 → nat_le (suc n) levels ≡ nat_le n below
nested_one n levels below e = grind (arith, nat_tests)

spare_one : (good : Bool) (n allowed left : ℕ) → allowed ≡ left + 1 → spare good (suc n) allowed ≡ spare good n left
spare_one true n allowed left e = grind (arith, nat_tests)
spare_one false n allowed left e = refl

spare_if : (a b : Bool) (n left : ℕ) → spare (a && b) n left ≡ cond a (spare b n left) None
spare_if true b n left = refl
spare_if false b n left = refl

and_three : (a b c : Bool) → ((a && b) && c) ≡ (a && (b && c))
and_three true b c = refl
and_three false b c = refl

pub made_of : (arities : List ℕ) (levels below allowed left : ℕ) (k : ℕ) (ts : List Ground) → levels ≡ below + 1 → allowed ≡ left + 1
    → left_after arities levels allowed (Made (Con k) (join ts)) ≡ cond (head_fits arities (Con k) (length ts)) (left_after_all arities below left ts) None
made_of arities levels below allowed left k ts e f =
    let fits = head_fits arities (Con k) (length ts) in
    ap (λ n. spare ((head_fits arities (Con k) n && all_heads_fit arities (join ts)) && nat_le (suc (all_nesting (join ts))) levels) (suc (all_symbols (join ts))) allowed) (count_join ts)
    ∙ ap (λ b. spare ((fits && all_heads_fit arities (join ts)) && b) (suc (all_symbols (join ts))) allowed) (nested_one (all_nesting (join ts)) levels below e)
    ∙ ap (λ b. spare b (suc (all_symbols (join ts))) allowed) (and_three fits (all_heads_fit arities (join ts)) (nat_le (all_nesting (join ts)) below))
    ∙ ap (λ b. spare (fits && b) (suc (all_symbols (join ts))) allowed) (fit_join arities below ts)
    ∙ spare_one (fits && fit_levels arities below ts) (all_symbols (join ts)) allowed left f
    ∙ ap (λ n. spare (fits && fit_levels arities below ts) n left) (symbols_join ts)
    ∙ spare_if fits (fit_levels arities below ts) (symbols_of ts) left
    ∙ ap (λ o. cond fits o None) (sym (all_spare arities below left ts))

pub made_by : {G : Type 0} (f : G → Ground) (parts : List G) (arities : List ℕ) (levels below allowed left k n : ℕ) (fits : Bool)
    → levels ≡ below + 1 → allowed ≡ left + 1 → n ≡ length parts → fits ≡ head_fits arities (Con k) n
    → cond fits (left_after_all arities below left (map f parts)) None ≡ left_after arities levels allowed (Made (Con k) (join (map f parts)))
made_by f parts arities levels below allowed left k n fits e d many test =
    let rest = left_after_all arities below left (map f parts) in
    ap (λ b. cond b rest None) (test ∙ ap (λ m. head_fits arities (Con k) m) (many ∙ sym (length-map parts f)))
    ∙ sym (made_of arities levels below allowed left k (map f parts) e d)

-- all arguments of a choice
fit_all : (g : Grammar) (ts : List Ground) → fit_levels g.arities 32 ts ≡ grounds_ok g ts
fit_all g [] = refl
fit_all g (t ∷ ts) = ap (λ b. ground_ok g t && b) (fit_all g ts)

some_spare : (good : Bool) (n allowed : ℕ) → is_some (spare good n allowed) ≡ (nat_le n allowed && good)
some_spare true n allowed = either (nat_le n allowed)
  where
    either : (b : Bool) → is_some (cond b (Some (allowed - n)) None) ≡ (b && true)
    either true = refl
    either false = refl
some_spare false n allowed = sym (and_right (nat_le n allowed) false refl)

pub all_left : (g : Grammar) (ts : List Ground) → is_some (left_after_all g.arities most_levels most_symbols ts) ≡ (nat_le (symbols_of ts) 256 && grounds_ok g ts)
all_left g ts =
    ap is_some (all_spare g.arities most_levels most_symbols ts)
    ∙ some_spare (fit_levels g.arities 32 ts) (symbols_of ts) 256
    ∙ ap (λ b. nat_le (symbols_of ts) 256 && b) (fit_all g ts)

pub few_left : {G : Type 0} (f : G → Ground) (g : Grammar) (xs : List G) → length xs ≤ most_arguments → is_some (left_after_all g.arities most_levels most_symbols (map f xs)) ≡ args_ok g (map f xs)
few_left f g xs h =
    all_left g (map f xs)
    ∙ ap (λ b. b && (nat_le (symbols_of (map f xs)) most_symbols && grounds_ok g (map f xs))) (sym (le-leb (length (map f xs)) most_arguments (omega (arith, length-map xs f, h))))
