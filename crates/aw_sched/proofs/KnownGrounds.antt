-- Arguments with their names looked up, by their parts.
use Rattle.std.proofs.Common.{◌≡◌, ℕ, suc, ◌+◌, ◌≤◌, ◌<◌, ◌⊎◌, inl, inr, refl, sym, ap, ◌∙◌, Bool, true, false, ◌||◌, not, List, [], ◌∷◌, map, length}
use Rattle.std.proofs.Common.{Option, Some, None, is_some, option_map, option_and_then, arith, nat_lt}
use Rattle.std.specs.Prelude.{Result, Ok, Err, is_none, IsErrAnd, MatchOption}
use Rattle.std.proofs.lemmas.Bool.{le-ltb}
use Rattle.std.proofs.lemmas.Bool.Decides.{nat_tests}
use Rattle.std.proofs.lemmas.List.{length-map}
use Rattle.aw_term.specs.Trees as P
use Rattle.aw_term.specs.Trees.{Made, Nil, More, join}
use Rattle.aw_term.specs.Rules as R
use Rattle.aw_term.specs.Views.{ground_of}
use Rattle.aw_term.proofs.ViewLemmas.{ground_con}
use Rattle.aw_term.specs.declared.ground.Ground as grounds
use Rattle.aw_grammar.specs.Written.{Written, Word, Apply, side_by_side}
use Rattle.aw_grammar.specs.Named.{number_named}
use Rattle.aw_grammar.specs.Terms.{symbols_in, symbols_in_all, depth_of_all}
use Rattle.aw_grammar.proofs.TermLemmas.{symbols_side}
use Rattle.aw_sched.specs.Events.{args_are_past}
use Rattle.aw_sched.specs.ArgumentRoots.{FindsRoot, HasParts}
use Rattle.aw_sched.specs.Grounds.{known_ground, known_parts, known_grounds, Finds}
use Rattle.aw_sched.specs.declared.fault.LineFault.{LineFault}
use Rattle.aw_sched.specs.declared.fault.LineFault.TheVariants.{Bad, NoMemory}

joined : (first : Option R.Ground) (more : Option (List R.Ground)) → option_and_then (λ g. option_map (λ gs. More g gs) (option_map join more))
    first ≡ option_map join (option_and_then (λ g. option_map (λ gs. g ∷ gs) more) first)
joined None more = refl
joined (Some g) None = refl
joined (Some g) (Some gs) = refl

pub known_side : (cons : List (List ℕ)) (ts : List Written) → known_parts cons (side_by_side ts) ≡ option_map join (known_grounds cons ts)
known_side cons [] = refl
known_side cons (t ∷ ts) =
    ap (λ more. option_and_then (λ g. option_map (λ gs. More g gs) more) (known_ground cons t)) (known_side cons ts) ∙ joined (known_ground cons t) (known_grounds cons ts)

pub word_known : (cons : List (List ℕ)) (x : List ℕ) (c : ℕ) (parts : List grounds.Ground) → number_named cons x ≡ Some c → parts ≡ []
    → known_ground cons (Word x) ≡ Some (ground_of (grounds.Con c parts))
word_known cons x c parts e none =
    ap (option_map (λ k. let g : R.Ground = Made (P.Con k) Nil in g)) e
    ∙ ap Some (sym (ap (λ ps. ground_of (grounds.Con c ps)) none ∙ ground_con c []))

apply_is : (cons : List (List ℕ)) (x : List ℕ) (c : ℕ) (ts : List Written) → number_named cons x ≡ Some c
    → known_ground cons (Apply x (side_by_side ts)) ≡ option_map (λ parts. Made (P.Con c) parts) (option_map join (known_grounds cons ts))
apply_is cons x c ts e =
    ap (λ o. option_and_then (λ k. option_map (λ parts. Made (P.Con k) parts) (known_parts cons (side_by_side ts))) o) e
    ∙ ap (λ o. option_map (λ parts. Made (P.Con c) parts) o) (known_side cons ts)

pub apply_known : (cons : List (List ℕ)) (x : List ℕ) (c : ℕ) (ts : List Written) (parts : List grounds.Ground) → number_named cons x ≡ Some c
    → known_grounds cons ts ≡ Some (map ground_of parts)
    → known_ground cons (Apply x (side_by_side ts)) ≡ Some (ground_of (grounds.Con c parts))
apply_known cons x c ts parts e f =
    apply_is cons x c ts e ∙ ap (λ o. option_map (λ ps. Made (P.Con c) ps) (option_map join o)) f ∙ ap Some (sym (ground_con c parts))

-- what holds of a term by its root and its parts
module _ (cons : List (List ℕ)) (t : Written) (c : ℕ) (ts : List Written) (root : HasParts cons t c ts) where
  pub root_symbols : symbols_in t ≡ suc (symbols_in_all ts)
  root_symbols = ap symbols_in root.is ∙ ap (λ n. suc n) (symbols_side ts)

  pub root_known : (parts : List grounds.Ground) → known_grounds cons ts ≡ Some (map ground_of parts) → known_ground cons t ≡ Some (ground_of (grounds.Con c parts))
  root_known parts f = ap (known_ground cons) root.is ∙ apply_known cons root.name c ts parts root.number f

  pub root_unknown : {X : Type 0} (view : X → List R.Ground) (e : LineFault) → Finds view (known_grounds cons ts) (Err e) → Finds ground_of (known_ground cons t) (Err e)
  root_unknown view (Bad k) f = (ap (known_ground cons) root.is ∙ apply_is cons root.name c ts root.number ∙ ap (λ o. option_map (λ ps. Made (P.Con c) ps) (option_map join o)) f.0, f.1)
  root_unknown view NoMemory f = tt

pub no_root : (cons : List (List ℕ)) (t : Written) (e : LineFault) → FindsRoot cons t (Err e) → Finds ground_of (known_ground cons t) (Err e)
no_root cons t (Bad k) h = h
no_root cons t NoMemory h = tt

-- the limits of arguments
past : (depth symbols : ℕ) → (32 < depth) ⊎ (256 < symbols) → true ≡ (nat_lt 256 symbols || nat_lt 32 depth)
past depth symbols (inl h) = grind (arith, nat_tests)
past depth symbols (inr h) = grind (arith, nat_tests)

within : (depth symbols left : ℕ) → depth ≤ 32 → left + symbols ≡ 256 → false ≡ (nat_lt 256 symbols || nat_lt 32 depth)
within depth symbols left h e = grind (arith, nat_tests)

room_is : (depth symbols : ℕ) (left : Option ℕ) → MatchOption left ((32 < depth) ⊎ (256 < symbols)) (λ n. (depth ≤ 32) × (n + symbols ≡ 256)) → is_none left ≡ (nat_lt 256 symbols || nat_lt 32 depth)
room_is depth symbols None h = past depth symbols h
room_is depth symbols (Some n) h = within depth symbols n h.0 h.1

pub past_is : {T : Type 0} (f : T → Written) (ts : List T) (left : Option ℕ) → length ts ≤ 8
    → MatchOption left ((32 < depth_of_all (map f ts)) ⊎ (256 < symbols_in_all (map f ts))) (λ n. (depth_of_all (map f ts) ≤ 32) × (n + symbols_in_all (map f ts) ≡ 256))
    → is_none left ≡ args_are_past (map f ts)
past_is f ts left h room =
    let written = map f ts in
    room_is (depth_of_all written) (symbols_in_all written) left room
    ∙ ap (λ b. b || (nat_lt 256 (symbols_in_all written) || nat_lt 32 (depth_of_all written))) (sym (ap (λ n. nat_lt 8 n) (length-map ts f) ∙ le-ltb 8 (length ts) h))

pub none_is : {A : Type 0} (o : Option A) (b : Bool) → is_some o ≡ not b → b ≡ is_none o
none_is None true e = refl
none_is None false e = cc
none_is (Some x) true e = cc
none_is (Some x) false e = refl

pub error_is : {A : Type 0} (r : Result A LineFault) (e : LineFault) → IsErrAnd r (λ x. x ≡ e) → r ≡ Err e
error_is (Ok x) e h = absurd h
error_is (Err x) e h = ap Err h
