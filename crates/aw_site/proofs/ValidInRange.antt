-- A message whose names are valid for a grammar of the program is in the range of those that have a spelling.
use Rattle.std.proofs.Common.{◌≡◌, ℕ, zero, suc, ◌≤◌, true, cond, nat_le, nat_eq, List, [], ◌∷◌, length, Option, Some, None, is_some, slice_get, option_map, refl, arith, ap, subst, sym}
use Rattle.std.specs.Coded.{le_prop}
use Rattle.std.proofs.Math.Logic.{∥∥₁_elim}
use Rattle.std.proofs.Math.Bool.{Bool-set}
use Rattle.std.proofs.Math.Nat.{ℕ_set}
use Rattle.std.proofs.lemmas.Bool.{eqb-true, leb-true, and_parts}
use Rattle.std.proofs.lemmas.Option.{slice_get_within}
use Rattle.aw_name_index.proofs.Lookups.{some_of as is_there}
use Rattle.aw_term.specs.Trees.{Head, Con, Num, Text}
use Rattle.aw_term.specs.Names.{Step, Node, Slot, Result, Part, Ref}
use Rattle.aw_term.specs.Rules.{Child, Rule, Sort, Grammar, child_at, sort_of_step, sort_after, sort_of}
use Rattle.aw_term.specs.Choices.{gives_of}
use Rattle.aw_term.specs.Artifacts.{Words}
use Rattle.aw_term.specs.WellFormed.{Each, head_fits, takes_of, SortFits, RuleFits, IsWellFormed}
use Rattle.aw_term.proofs.LastSteps.{followed, mapped, where_true}
use Rattle.aw_grammar.specs.declared.grammar.Grammar as program
use Rattle.aw_grammar.specs.GrammarOf.{grammar_of, words_of}
use Rattle.aw_grammar.proofs.Fits.{each_at}
use Rattle.aw_base.specs.ChoiceFits.{slot_ok, ref_ok}
use Rattle.aw_codec.specs.Ranges.{From1To, StepInRange, NodeInRange, SlotInRange, RefInRange, HeadInRange, RefsInRange}
use Rattle.aw_term.proofs.Eaches.{each_map}
use Rattle.aw_term.specs.Limits.{most_children, most_results, most_node_parts, most_parts, most_inherited, most_references}
use Rattle.aw_store.specs.Equations.{Body, Same, Is, Equation}
use Rattle.aw_apply.specs.Made.{Call}
use Rattle.aw_apply.specs.Messages.{Kind, Calls, Asks, Tells, Message}
use Rattle.aw_space.proofs.FewParts.{few_parts}
use Rattle.aw_site.proofs.NamedHomes.{sort_where_slot as has_sort}
use Rattle.aw_msg.specs.MessageRanges.{BodyInRange, EquationInRange, LoadInRange, KindInRange, MessageInRange}
use Rattle.aw_msg.proofs.ValidMessages.{IsValidRef, IsValidBody, IsValidEquation, IsValidLoad, IsValidCall, IsValidKind}

-- ---- the name of a node

numbered : (cs : List Child) (k : ℕ) (c : Child) → child_at cs k ≡ Some c → length cs ≤ most_children → From1To most_children k
numbered cs zero c e few = absurd cc
numbered cs (suc k) c e few = let within = slice_get_within cs k c e in (omega arith, omega arith)

step_in_range : (g : Grammar) (s : ℕ) (step : Step) (t : ℕ) → Each (RuleFits g) g.rules → sort_of_step g s step ≡ Some t → StepInRange step
step_in_range g s step t rules e =
    let child = λ (r : Rule). option_map (λ (c : Child). c.sort) (child_at r.children step.child) in
    let (r, here, f) = followed (λ (r : Rule). cond (nat_eq r.sort s) (child r) None) (slice_get g.rules step.rule) t e in
    let (c, at, same) = mapped (λ (c : Child). c.sort) (child_at r.children step.child) t (where_true (nat_eq r.sort s) (child r) t f) in
    numbered r.children step.child c at (each_at (RuleFits g) g.rules step.rule r rules here).few_children

steps_in_range : (g : Grammar) (s : ℕ) (steps : List Step) (t : ℕ) → Each (RuleFits g) g.rules → sort_after g s steps ≡ Some t → Each StepInRange steps
steps_in_range g s [] t rules e = tt
steps_in_range g s (step ∷ steps) t rules e =
    let (u, f, h) = followed (λ t. sort_after g t steps) (sort_of_step g s step) t e in
    (step_in_range g s step u rules f, steps_in_range g u steps t rules h)

node_in_range : (w : Words) (g : Grammar) (n : Node) → IsWellFormed w g → length n.steps ≤ 250 → is_some (sort_of g n) ≡ true → NodeInRange n
node_in_range w g n formed few valid =
    let (s, e) = is_there (sort_of g n) valid in
    let (start, here, f) = followed (λ (s : Sort). cond s.start (sort_after g n.start n.steps) None) (slice_get g.sorts n.start) s e in
    (few, steps_in_range g n.start n.steps s formed.rules (where_true start.start (sort_after g n.start n.steps) s f))

-- ---- a reference

few_given : (roles : ℕ) (sorts : List Sort) (s : ℕ) → Each (SortFits roles) sorts → gives_of (slice_get sorts s) ≤ most_results
few_given roles [] s fits = omega arith
few_given roles (x ∷ xs) zero fits = fits.0.few_gives
few_given roles (x ∷ xs) (suc s) fits = few_given roles xs s fits.1

slot_in_range : (g : Grammar) (s : Option ℕ) (slot : Slot) → Each (SortFits g.roles) g.sorts → slot_ok g s slot ≡ true → SlotInRange slot
slot_in_range g None slot fits e = absurd cc
slot_in_range g (Some s) (Result j) fits e =
    let p = and_parts (nat_le 1 j) (nat_le j (gives_of (slice_get g.sorts s))) e in
    (leb-true 1 j p.0, omega (arith, leb-true j (gives_of (slice_get g.sorts s)) p.1, few_given g.roles g.sorts s fits))
slot_in_range g (Some s) (Part k) fits e = let p = and_parts (nat_le 1 k) (nat_le k most_node_parts) e in (leb-true 1 k p.0, leb-true k most_node_parts p.1)

valid_ref_in_range : (w : Words) (g : Grammar) (r : Ref) → IsWellFormed w g → length r.node.steps ≤ 250 → ref_ok g r ≡ true → RefInRange r
valid_ref_in_range w g r formed few ok =
    (node_in_range w g r.node formed few (has_sort g (sort_of g r.node) r.slot ok), slot_in_range g (sort_of g r.node) r.slot formed.sorts ok)

-- ---- a head with its parts

head_in_range : (arities : List ℕ) (h : Head) (n : ℕ) → Each (λ m. m ≤ most_parts) arities → head_fits arities h n ≡ true → HeadInRange h n
head_in_range arities (Con c) n few e = few_parts arities c n few e
head_in_range arities (Num m) n few e = eqb-true n 0 e
head_in_range arities (Text t) n few e = let p = and_parts _ _ e in (eqb-true n 0 p.0, p.1)

-- ---- over a grammar of the program, whose form is known without its proof

each_prop : {A : Type 0} (P : A → Type 0) → ((x : A) → IsProp (P x)) → (xs : List A) → IsProp (Each P xs)
each_prop P h [] = λ a b. refl
each_prop P h (x ∷ xs) = λ a b i. (h x a.0 b.0 i, each_prop P h xs a.1 b.1 i)

node_prop : (n : Node) → IsProp (NodeInRange n)
node_prop n = λ a b i. (le_prop a.0 b.0 i, each_prop StepInRange (λ s. hlevel le_prop) n.steps a.1 b.1 i)

slot_prop : (slot : Slot) → IsProp (SlotInRange slot)
slot_prop (Result j) = hlevel le_prop
slot_prop (Part k) = hlevel le_prop

ref_prop : (r : Ref) → IsProp (RefInRange r)
ref_prop r = λ a b i. (node_prop r.node a.0 b.0 i, slot_prop r.slot a.1 b.1 i)

head_prop : (h : Head) (n : ℕ) → IsProp (HeadInRange h n)
head_prop (Con c) n = le_prop
head_prop (Num m) n = ℕ_set _ _
head_prop (Text t) n = λ a b i. (ℕ_set _ _ a.0 b.0 i, Bool-set _ _ a.1 b.1 i)

-- the name of a reference of the program has at most 250 steps
ref_in_range : (g : program.Grammar) (r : Ref) → length r.node.steps ≤ 250 → ref_ok (grammar_of g) r ≡ true → RefInRange r
ref_in_range g r few ok = ∥∥₁_elim g.well_formed (ref_prop r) (λ formed. valid_ref_in_range (words_of g) (grammar_of g) r formed few ok)

-- the same of the name of a node
node_is_in_range : (g : program.Grammar) (n : Node) → length n.steps ≤ 250 → is_some (sort_of (grammar_of g) n) ≡ true → NodeInRange n
node_is_in_range g n few valid = ∥∥₁_elim g.well_formed (node_prop n) (λ formed. node_in_range (words_of g) (grammar_of g) n formed few valid)

-- a head that has as many parts as are declared
head_is_in_range : (g : program.Grammar) (h : Head) (n : ℕ) → head_fits (grammar_of g).arities h n ≡ true → HeadInRange h n
head_is_in_range g h n fits = ∥∥₁_elim g.well_formed (head_prop h n) (λ formed. head_in_range (grammar_of g).arities h n formed.arities fits)

few_taken : (roles : ℕ) (sorts : List Sort) (s : ℕ) → Each (SortFits roles) sorts → takes_of (slice_get sorts s) ≤ most_inherited
few_taken roles [] s fits = omega arith
few_taken roles (x ∷ xs) zero fits = fits.0.few_takes
few_taken roles (x ∷ xs) (suc s) fits = few_taken roles xs s fits.1

-- a node of any sort inherits at most 8 references
few_are_inherited : (g : program.Grammar) (s : ℕ) → takes_of (slice_get (grammar_of g).sorts s) ≤ most_inherited
few_are_inherited g s = ∥∥₁_elim g.well_formed le_prop (λ formed. few_taken (grammar_of g).roles (grammar_of g).sorts s formed.sorts)

-- ---- a message

ref_is_in_range : (g : program.Grammar) (r : Ref) → IsValidRef (grammar_of g) r → RefInRange r
ref_is_in_range g r v = ref_in_range g r v.0 v.1

refs_are_in_range : (g : program.Grammar) (rs : List Ref) → length rs ≤ most_references → Each (IsValidRef (grammar_of g)) rs → RefsInRange rs
refs_are_in_range g rs few v = (few, each_map (IsValidRef (grammar_of g)) RefInRange rs (ref_is_in_range g) v)

few_of_head : (h : Head) (n : ℕ) → HeadInRange h n → n ≤ most_parts
few_of_head (Con c) n range = range
few_of_head (Num m) n range = omega (arith, range)
few_of_head (Text t) n range = omega (arith, range.0)

body_is_in_range : (g : program.Grammar) (b : Body) → IsValidBody (grammar_of g) b → BodyInRange b
body_is_in_range g (Same r) v = ref_is_in_range g r v
body_is_in_range g (Is h rs) v =
    let head = head_is_in_range g h (length rs) v.0 in
    (head, refs_are_in_range g rs (few_of_head h (length rs) head) v.1)

equation_is_in_range : (g : program.Grammar) (e : Equation) → IsValidEquation (grammar_of g) e → EquationInRange e
equation_is_in_range g e v = (ref_is_in_range g e.left v.0, body_is_in_range g e.body v.1)

load_is_in_range : (g : program.Grammar) (es : List Equation) → IsValidLoad (grammar_of g) es → LoadInRange es
load_is_in_range g es v = (v.0, each_map (IsValidEquation (grammar_of g)) EquationInRange es (equation_is_in_range g) v.1)

call_is_in_range : (g : program.Grammar) (c : Call) → IsValidCall (grammar_of g) c → NodeInRange c.node × RefsInRange c.inherited
call_is_in_range g c v = (
  node_is_in_range g c.node v.short (ap is_some v.has_sort),
  refs_are_in_range g c.inherited (subst (λ n. n ≤ most_inherited) (sym v.count) (few_are_inherited g v.sort)) v.references,
)

kind_is_in_range : (g : program.Grammar) (k : Kind) → IsValidKind (grammar_of g) k → KindInRange k
kind_is_in_range g (Calls c load) v = let call = call_is_in_range g c v.0 in (call.0, (call.1, load_is_in_range g load v.1))
kind_is_in_range g (Asks r from) v = ref_is_in_range g r v
kind_is_in_range g (Tells e load) v = (equation_is_in_range g e v.0, load_is_in_range g load v.1)

pub message_is_in_range : (g : program.Grammar) (m : Message) → IsValidKind (grammar_of g) m.kind → MessageInRange m
message_is_in_range g m v = kind_is_in_range g m.kind v
