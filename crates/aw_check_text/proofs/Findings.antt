-- What roles find, one after the other.
use Rattle.std.proofs.Common.{◌≡◌, ℕ, suc, ◌+◌, Bool, true, false, List, [], ◌∷◌, ◌++◌, map, length, None, Some, Result, Ok, Err, IfOk, cond, refl, sym}
use Rattle.std.proofs.Common.{ap, ◌∙◌, subst, arith, append_assoc, append-nil}
use Rattle.std.specs.Prelude.{◌&&◌}
use Rattle.aw_base.specs.declared.declared.Triple.{Triple}
use Rattle.aw_term.specs.Rules as P
use Rattle.aw_term.specs.Artifacts.{Words}
use Rattle.aw_grammar.specs.declared.rule.Sort.{Sort}
use Rattle.aw_grammar.specs.declared.rule.Rule.{Rule}
use Rattle.aw_grammar.specs.declared.grammar.Grammar.{Grammar}
use Rattle.aw_grammar.specs.GrammarView.{plain_words, rule_of, sorts_of}
use Rattle.aw_grammar.specs.GrammarOf.{grammar_of, words_of}
use Rattle.aw_grammar.specs.SomeRules.{is_at, rules_at}
use Rattle.aw_iograph.specs.Dependence.{HasNoCircle}
use Rattle.aw_face.specs.declared.faces.Faces.{Faces}
use Rattle.aw_accept.specs.declared.refused.Fault.{Fault}
use Rattle.aw_wait.specs.declared.refused.WaitFault.{WaitFault}
use Rattle.aw_wait.specs.declared.refused.WaitFault.TheVariants.{Circle}
use Rattle.aw_wait.specs.Refusals.{TellsWait}
use Rattle.aw_modular.specs.Roles.{Known, SaysYes, Part}
use Rattle.aw_modular.specs.declared.part.Part.{Part as PartValue}
use Rattle.aw_modular.specs.Refusals.{IsExcess, LeastPair}
use Rattle.aw_check_text.specs.declared.finding.Finding.{Finding}
use Rattle.aw_check_text.specs.ApartTold.{names_at, part_at, words_at, IsFound, IsFinding, AreFindings, finding_line, finding_lines, is_yes, all_yes, joined_line, TellsRoles, TellsWaiting, wait_line}
use Rattle.aw_check_text.specs.Telling.{TellsOne, TellsPart, TellsFirst}

-- a role that says yes finds no circle and no excess
pub yes_found : (offers : List ℕ) (declared : List Triple) (role : ℕ) (p : Part) → SaysYes offers declared role p
    → HasNoCircle p.grammar (Known p.grammar role declared) × LeastPair (IsExcess offers declared role p.grammar) None
yes_found offers declared role p says = (says.no_circle, λ t (off, found, not). not (says.declares t.sort t.i t.j off found))

-- the names of the rules of one role
names_cases : (sorts : List Sort) (role : ℕ) (b : Bool) (r : Rule) (rs : List Rule) (names : List (List ℕ)) → map (λ (x : Rule). x.name) rs ≡ names →
    map (λ (x : Rule). x.name) (cond b (r ∷ rs) rs) ≡ cond b (r.name ∷ names) names
names_cases sorts role true r rs names e = ap (λ ns. r.name ∷ ns) e
names_cases sorts role false r rs names e = e

names_same : (sorts : List Sort) (role : ℕ) (rules : List Rule) → map (λ (x : Rule). x.name) (rules_at sorts role rules) ≡ names_at (sorts_of sorts)
    role (map (rule_of sorts) rules) (map (λ (x : Rule). x.name) rules)
names_same sorts role [] = refl
names_same sorts role (r ∷ rs) = names_cases sorts role (is_at (sorts_of sorts) role (rule_of sorts r)) r (rules_at sorts role rs)
    (names_at (sorts_of sorts) role (map (rule_of sorts) rs) (map (λ (x : Rule). x.name) rs)) (names_same sorts role rs)

pub words_same : (g : Grammar) (role : ℕ) → plain_words g.roles g.cons g.sorts (rules_at g.sorts role g.rules) ≡ words_at (words_of g) (grammar_of g) role
words_same g role = ap (λ (ns : List (List ℕ)). record (words_of g) { rules = ns }) (names_same g.sorts role g.rules)

-- one role more
findings_more : (offers : List ℕ) (declared : List Triple) (g : P.Grammar) (k n : ℕ) (found : List Finding) (f : Finding) → k + length found ≡ n →
    AreFindings offers declared g k found → IsFinding offers declared g n f → AreFindings offers declared g k (found ++ f ∷ [])
findings_more offers declared g k n [] f at are is = let e : n ≡ k = omega (arith, at) in (subst (λ m. IsFinding offers declared g m f) e is, tt)
findings_more offers declared g k n (x ∷ xs) f at are is = (are.0, findings_more offers declared g (suc k) n xs f (omega (arith, at)) are.1 is)

lines_more : (w : Words) (g : P.Grammar) (k n : ℕ) (found : List Finding) (f : Finding) → k + length found ≡ n →
    finding_lines w g k (found ++ f ∷ []) ≡ finding_lines w g k found ++ finding_line (words_at w g n) n f
lines_more w g k n [] f at = let e : k ≡ n = omega (arith, at) in append-nil (finding_line (words_at w g k) k f) ∙ ap (λ m. finding_line (words_at w g m) m f) e
lines_more w g k n (x ∷ xs) f at =
    ap (λ ls. finding_line (words_at w g k) k x ++ ls) (lines_more w g (suc k) n xs f (omega (arith, at)))
    ∙ sym (append_assoc (finding_line (words_at w g k) k x) (finding_lines w g (suc k) xs) (finding_line (words_at w g n) n f))

and_true : (a b : Bool) → b ≡ true → a ≡ (a && b)
and_true true b e = sym e
and_true false b e = refl

and_assoc : (a b c : Bool) → (a && (b && c)) ≡ ((a && b) && c)
and_assoc true b c = refl
and_assoc false b c = refl

all_more : (found : List Finding) (f : Finding) → all_yes (found ++ f ∷ []) ≡ (all_yes found && is_yes f)
all_more [] f = sym (and_true (is_yes f) true refl)
all_more (x ∷ xs) f = ap (λ b. is_yes x && b) (all_more xs f) ∙ and_assoc (is_yes x) (all_yes xs) (is_yes f)

pub length_more : {A : Type 0} (xs : List A) (x : A) → length (xs ++ x ∷ []) ≡ length xs + 1
length_more [] x = refl
length_more (y ∷ ys) x = omega (arith, length_more ys x)

pub tells_more : (offers : List ℕ) (declared : List Triple) (w : Words) (g : P.Grammar) (n : ℕ) (text next : List ℕ) (joined yes : Bool) →
    TellsFirst offers declared w g n text joined → TellsOne offers declared w g n text next yes
    → TellsFirst offers declared w g (n + 1) next (joined && yes)
tells_more offers declared w g n text next joined says (found, len, are, told, all) (f, is, step, so) = (
  found ++ f ∷ [],
  length_more found f ∙ ap (λ m. m + 1) len,
  findings_more offers declared g 0 n found f (omega (arith, len)) are is,
  step ∙ ap (λ t. t ++ finding_line (words_at w g n) n f) told ∙ sym (lines_more w g 0 n found f (omega (arith, len))),
  ap (λ b. b && says) all ∙ ap (λ b. all_yes found && b) so ∙ sym (all_more found f),
)

-- what a part finds is what the role of the whole finds, with its names
pub found_of_part : (offers : List ℕ) (declared : List Triple) (g h : Grammar) (f k : Faces) (role n : ℕ) (found : Finding) → k ≡ f → n ≡ role →
    grammar_of h ≡ part_at (grammar_of g) role → IsFound k.offers declared (grammar_of h) n found → IsFinding f.offers declared (grammar_of g) role found
found_of_part offers declared g h f k role n found faces at is x =
    subst (λ (z : Faces). IsFound z.offers declared (part_at (grammar_of g) role) role found) faces
    (subst (λ m. IsFound k.offers declared (part_at (grammar_of g) role) m found) at (subst (λ z. IsFound k.offers declared z n found) is x))

pub words_of_part : (g h : Grammar) (role : ℕ) → h.roles ≡ g.roles → h.cons ≡ g.cons → h.sorts ≡ g.sorts → h.rules ≡ rules_at g.sorts role g.rules →
    words_of h ≡ words_at (words_of g) (grammar_of g) role
words_of_part g h role a b c d = (λ i. plain_words (a i) (b i) (c i) (d i)) ∙ words_same g role

-- after all
pub tells_all : (offers : List ℕ) (declared : List Triple) (w : Words) (g : P.Grammar) (n : ℕ) (text next : List ℕ) (joined : Bool) → n ≡ g.roles →
    next ≡ text ++ joined_line joined → TellsFirst offers declared w g n text joined → TellsRoles offers declared w g next
tells_all offers declared w g n text next joined count step (found, len, are, told, all) =
    (found, len ∙ count, are, step ∙ ap (λ t. t ++ joined_line joined) told ∙ ap (λ b. finding_lines w g 0 found ++ joined_line b) all)

-- what is told of the part of a role is told of the role
pub role_of_part : (g : Grammar) (f : Faces) (p : PartValue) (declared : List Triple) (role : ℕ) (old new : List ℕ) (yes' : Bool) → p.faces ≡ f →
    p.role ≡ role → grammar_of p.grammar ≡ part_at (grammar_of g) role → words_of p.grammar ≡ words_at (words_of g) (grammar_of g) role
    → TellsPart p declared old new yes' → TellsOne f.offers declared (words_of g) (grammar_of g) role old new yes'
role_of_part g f p declared role old new yes' faces at is named (found, x, step, so) = (
  found,
  found_of_part f.offers declared g p.grammar f p.faces role p.role found faces at is x,
  step ∙ ap (λ w. old ++ finding_line w p.role found) named ∙ ap (λ k. old ++ finding_line (words_at (words_of g) (grammar_of g) role) k found) at,
  so,
)

pub role_if_ok : {E : Type 0} (g : Grammar) (f : Faces) (p : PartValue) (declared : List Triple) (role : ℕ) (old new : List ℕ) (r : Result Bool E) →
    p.faces ≡ f → p.role ≡ role → grammar_of p.grammar ≡ part_at (grammar_of g) role → words_of p.grammar ≡ words_at (words_of g) (grammar_of g) role
    → IfOk r (λ yes'. TellsPart p declared old new yes') → IfOk r (λ yes'. TellsOne f.offers declared (words_of g) (grammar_of g) role old new yes')
role_if_ok g f p declared role old new (Ok yes') faces at is named told = role_of_part g f p declared role old new yes' faces at is named told
role_if_ok g f p declared role old new (Err e) faces at is named told = tt

-- the least circle of waiting is told
pub waits_if_ok : {E : Type 0} (g h : Grammar) (fault : Fault) (e : WaitFault) (r : Result (List ℕ) E) → h ≡ g → e ≡ Circle fault.rule fault.occ →
    TellsWait (grammar_of g) e → IfOk r (λ text. text ≡ wait_line (words_of h) (Some fault))
    → IfOk r (λ text. TellsWaiting (words_of g) (grammar_of g) text)
waits_if_ok g h fault e (Ok text) same is told line = (Some fault, subst (TellsWait (grammar_of g)) is told, line ∙ ap (λ (x : Grammar). wait_line (words_of x) (Some fault)) same)
waits_if_ok g h fault e (Err error) same is told line = tt
