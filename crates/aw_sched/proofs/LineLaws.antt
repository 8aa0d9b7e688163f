-- What a line gives, where its names were looked up.
use Rattle.std.proofs.Common.{◌≡◌, ℕ, ◌<◌, refl, sym, ap, ◌∙◌, Bool, true, false, ◌||◌, not, cond, List, [], ◌∷◌, map, length, Option, Some, None, slice_get, arith}
use Rattle.std.specs.Prelude.{Err, is_none}
use Rattle.std.proofs.lemmas.List.{length-map}
use Rattle.std.proofs.lemmas.Bool.{or_right}
use Rattle.aw_name_index.specs.Places.{number_of, stands, first_told}
use Rattle.aw_term.specs.Names.{Node}
use Rattle.aw_term.specs.Choices.{Start, Develop}
use Rattle.aw_term.specs.Views.{ground_of}
use Rattle.aw_term.specs.declared.ground.Ground.{Ground}
use Rattle.aw_grammar.specs.declared.rule.Rule.{Rule}
use Rattle.aw_grammar.specs.declared.grammar.Grammar.{Grammar}
use Rattle.aw_grammar.specs.Written.{Written}
use Rattle.aw_grammar.specs.Terms.{all_have_contents}
use Rattle.aw_grammar.specs.Kinds.{all_have_arities}
use Rattle.aw_grammar.specs.GrammarView.{rule_of}
use Rattle.aw_grammar.specs.GrammarOf.{grammar_of, words_of, declarations_of}
use Rattle.aw_grammar.specs.Declarations.{grammar_in, words_in, con_names, rule_names}
use Rattle.aw_grammar.proofs.Entries.{names_of_entries, declared_grammar, declared_words}
use Rattle.aw_base.specs.NodeNames.{node_named, is_start}
use Rattle.aw_grammar.specs.Named.{number_named}
use Rattle.aw_base.specs.ChoiceFits.{args_ok}
use Rattle.aw_sched.specs.Lines.{StartLine, ChooseLine, ListLine}
use Rattle.aw_sched.specs.Events as P
use Rattle.aw_sched.specs.Events.{event_of, line_kind, is_long, args_are_past, args_unknown, ground_named, node_or_none}
use Rattle.aw_sched.specs.Grounds.{known_grounds, Finds}
use Rattle.aw_sched.specs.LineEvents.{GivesEvent, args_kind, AreFound, GivesArgs}
use Rattle.aw_sched.specs.declared.fault.SchedKind.{SchedKind}
use Rattle.aw_sched.specs.declared.fault.SchedKind.TheVariants.{Limit, Unknown, Arity, NotStart, Name}
use Rattle.aw_sched.specs.declared.fault.LineFault.{LineFault}
use Rattle.aw_sched.specs.declared.fault.LineFault.TheVariants.{Bad, NoMemory}
use Rattle.aw_sched.proofs.LookedUp.{unnamed, named_stands, named_number, named_within, found_below}
use Rattle.aw_sched.proofs.KnownLaw.{unknown_when, known_when}
use Rattle.aw_sched.proofs.AlikeArguments.{args_fit}

first_is : (a : Bool) (k : SchedKind) (rest : List (Bool × SchedKind)) → a ≡ true → first_told ((a, k) ∷ rest) ≡ Some k
first_is a k rest e = ap (λ b. cond b (Some k) (first_told rest)) e

next_is : (a : Bool) (k : SchedKind) (rest : List (Bool × SchedKind)) → a ≡ false → first_told ((a, k) ∷ rest) ≡ first_told rest
next_is a k rest e = ap (λ b. cond b (Some k) (first_told rest)) e

-- a start
pub start_unknown : (g : Grammar) (sort : List ℕ) (case : ℕ) → None ≡ number_named (words_of g).sorts sort → line_kind (declarations_of g) (StartLine sort case) ≡ Some Unknown
start_unknown g sort case e = first_is (not (stands sort (words_of g).sorts)) Unknown
    ((not (is_start (slice_get (grammar_of g).sorts (number_of sort (words_of g).sorts))), NotStart) ∷ []) (ap not (unnamed (words_of g).sorts sort e))

starts : (g : Grammar) (sort : List ℕ) (i : ℕ) (b : Bool) → Some i ≡ number_named (words_of g).sorts sort → is_start (slice_get (grammar_of g).sorts i) ≡ b
    → is_start (slice_get (grammar_of g).sorts (number_of sort (words_of g).sorts)) ≡ b
starts g sort i b e h = ap (λ k. is_start (slice_get (grammar_of g).sorts k)) (named_number (words_of g).sorts sort i e) ∙ h

declared_start : (g : Grammar) (sort : List ℕ) (case i : ℕ) → Some i ≡ number_named (words_of g).sorts sort
    → line_kind (declarations_of g) (StartLine sort case) ≡ first_told ((not (is_start (slice_get (grammar_of g).sorts (number_of sort (words_of g).sorts))), NotStart) ∷ [])
declared_start g sort case i e = next_is (not (stands sort (words_of g).sorts)) Unknown
    ((not (is_start (slice_get (grammar_of g).sorts (number_of sort (words_of g).sorts))), NotStart) ∷ []) (ap not (named_stands (words_of g).sorts sort i e))

pub start_good : (g : Grammar) (sort : List ℕ) (case i : ℕ) → Some i ≡ number_named (words_of g).sorts sort → is_start (slice_get (grammar_of g).sorts i) ≡ true
    → (line_kind (declarations_of g) (StartLine sort case) ≡ None) × (event_of (declarations_of g) (StartLine sort case) ≡ P.Chooses (Start i case))
start_good g sort case i e h = (
  declared_start g sort case i e ∙ next_is (not (is_start (slice_get (grammar_of g).sorts (number_of sort (words_of g).sorts)))) NotStart [] (ap not (starts g sort i true e h)),
  ap (λ k. P.Chooses (Start k case)) (named_number (words_of g).sorts sort i e),
)

pub start_bad : (g : Grammar) (sort : List ℕ) (case i : ℕ) → Some i ≡ number_named (words_of g).sorts sort → is_start (slice_get (grammar_of g).sorts i) ≡ false
    → line_kind (declarations_of g) (StartLine sort case) ≡ Some NotStart
start_bad g sort case i e h =
    declared_start g sort case i e ∙ first_is (not (is_start (slice_get (grammar_of g).sorts (number_of sort (words_of g).sorts)))) NotStart [] (ap not (starts g sort i false e h))

-- a list
pub list_unknown : (g : Grammar) (role : List ℕ) → None ≡ number_named (words_of g).roles role → line_kind (declarations_of g) (ListLine role) ≡ Some Unknown
list_unknown g role e = first_is (not (stands role (words_of g).roles)) Unknown [] (ap not (unnamed (words_of g).roles role e))

pub list_good : (g : Grammar) (role : List ℕ) (i : ℕ) → Some i ≡ number_named (words_of g).roles role
    → (line_kind (declarations_of g) (ListLine role) ≡ None) × (event_of (declarations_of g) (ListLine role) ≡ P.Lists i)
list_good g role i e =
    (next_is (not (stands role (words_of g).roles)) Unknown [] (ap not (named_stands (words_of g).roles role i e)), ap P.Lists (named_number (words_of g).roles role i e))

-- a choice: its kind by that of its arguments and its node
abbrev three : Bool → Bool → Bool → Option SchedKind
three p u a = first_told ((p, Limit) ∷ (u, Unknown) ∷ (a, Arity) ∷ [])

abbrev four : Bool → Bool → Bool → Bool → Bool → Option SchedKind
four p l u a m = first_told ((p || l, Limit) ∷ (u, Unknown) ∷ (a, Arity) ∷ (m, Name) ∷ [])

four_args : (p l u a m : Bool) (k : SchedKind) → l ≡ false → three p u a ≡ Some k → four p l u a m ≡ Some k
four_args true l u a m k e h = h
four_args false true u a m k e h = cc
four_args false false true a m k e h = h
four_args false false false true m k e h = h
four_args false false false false m k e h = cc

four_name : (p l u a m : Bool) → l ≡ false → three p u a ≡ None → four p l u a m ≡ cond m (Some Name) None
four_name true l u a m e h = cc
four_name false true u a m e h = cc
four_name false false true a m e h = cc
four_name false false false true m e h = cc
four_name false false false false m e h = refl

node_same : (g : Grammar) (n : List ℕ) → node_named (words_in (declarations_of g)) (grammar_in (declarations_of g)) n ≡ node_named (words_of g) (grammar_of g) n
node_same g n = sym (λ i. node_named (declared_words g i) (declared_grammar g i) n)

abbrev unknown_of : Grammar → List ℕ → List Written → Bool
unknown_of g rule args = not (stands rule (rule_names (declarations_of g))) || args_unknown (declarations_of g) args

abbrev misfit_of : Grammar → List Written → Bool
misfit_of g args = not (all_have_arities g.cons args)

pub choose_fault : (g : Grammar) (n rule : List ℕ) (args : List Written) (event : P.Event) (fault : LineFault) → is_long n ≡ false
    → GivesArgs (declarations_of g) (grammar_of g) rule args (Err fault) → GivesEvent (line_kind (declarations_of g) (ChooseLine n rule args)) event (Err fault)
choose_fault g n rule args event (Bad k) e h =
    four_args (args_are_past args) (is_long n) (unknown_of g rule args) (misfit_of g args) (is_none (node_named (words_in (declarations_of g)) (grammar_in (declarations_of g)) n)) k e h
choose_fault g n rule args event NoMemory e h = tt

by_node : (g : Grammar) (n rule : List ℕ) (args : List Written) (named : Option Node) → is_long n ≡ false → args_kind (declarations_of g) rule args ≡ None
    → node_named (words_of g) (grammar_of g) n ≡ named → line_kind (declarations_of g) (ChooseLine n rule args) ≡ cond (is_none named) (Some Name) None
by_node g n rule args named e h k =
    four_name (args_are_past args) (is_long n) (unknown_of g rule args) (misfit_of g args) (is_none (node_named (words_in (declarations_of g)) (grammar_in (declarations_of g)) n)) e h
    ∙ ap (λ o. cond (is_none o) (Some Name) None) (node_same g n ∙ k)

pub choose_name : (g : Grammar) (n rule : List ℕ) (args : List Written) → is_long n ≡ false → args_kind (declarations_of g) rule args ≡ None
    → node_named (words_of g) (grammar_of g) n ≡ None → line_kind (declarations_of g) (ChooseLine n rule args) ≡ Some Name
choose_name g n rule args e h k = by_node g n rule args None e h k

pub choose_good : (g : Grammar) (n rule : List ℕ) (args : List Written) (node : Node) (i : ℕ) (found : List Ground) → is_long n ≡ false → node_named (words_of g) (grammar_of g) n ≡ Some node
    → AreFound (declarations_of g) (grammar_of g) rule args i found
    → (line_kind (declarations_of g) (ChooseLine n rule args) ≡ None) × (event_of (declarations_of g) (ChooseLine n rule args) ≡ P.Chooses (Develop node i (map ground_of found)))
choose_good g n rule args node i found e k a = (
  by_node g n rule args (Some node) e a.kind k,
  ap (λ o. P.Chooses (Develop (node_or_none o) (number_of rule (rule_names (declarations_of g))) (map (ground_named (con_names (declarations_of g))) args))) (node_same g n ∙ k)
      ∙ ap (λ r. P.Chooses (Develop node r (map (ground_named (con_names (declarations_of g))) args))) a.number
      ∙ ap (λ gs. P.Chooses (Develop node i gs)) a.found,
)

unknown_kind : (p u a : Bool) → p ≡ false → u ≡ true → three p u a ≡ Some Unknown
unknown_kind p u a e f = ap (λ b. three b u a) e ∙ ap (λ b. three false b a) f

last_kind : (p u a : Bool) → p ≡ false → u ≡ false → three p u a ≡ cond a (Some Arity) None
last_kind p u a e f = ap (λ b. three b u a) e ∙ ap (λ b. three false b a) f

rule_stands : (g : Grammar) (rule : List ℕ) (b : Bool) → stands rule (words_of g).rules ≡ b → stands rule (rule_names (declarations_of g)) ≡ b
rule_stands g rule b e = ap (stands rule) (sym (names_of_entries g.sorts g.rules)) ∙ e

pub rule_unknown : (g : Grammar) (rule : List ℕ) (args : List Written) → args_are_past args ≡ false → None ≡ number_named (words_of g).rules rule
    → args_kind (declarations_of g) rule args ≡ Some Unknown
rule_unknown g rule args e h =
    unknown_kind (args_are_past args) (unknown_of g rule args) (misfit_of g args) e
    (ap (λ b. not b || args_unknown (declarations_of g) args) (rule_stands g rule false (unnamed (words_of g).rules rule h)))

pub args_fault : (g : Grammar) (rule : List ℕ) (args : List Written) (fault : LineFault) → args_are_past args ≡ false
    → Finds (λ (found : List Ground). map ground_of found) (known_grounds (words_of g).cons args) (Err fault) → GivesArgs (declarations_of g) (grammar_of g) rule args (Err fault)
args_fault g rule args (Bad k) e h =
    unknown_kind (args_are_past args) (unknown_of g rule args) (misfit_of g args) e
    (or_right (not (stands rule (rule_names (declarations_of g)))) (args_unknown (declarations_of g) args) (unknown_when (words_of g).cons args h.0))
    ∙ ap Some (sym h.1)
args_fault g rule args NoMemory e h = tt

found_known : (g : Grammar) (rule : List ℕ) (args : List Written) (i : ℕ) (found : List Ground) → args_are_past args ≡ false → Some i ≡ number_named (words_of g).rules rule
    → known_grounds (words_of g).cons args ≡ Some (map ground_of found) → all_have_contents args ≡ true
    → args_kind (declarations_of g) rule args ≡ cond (not (args_ok (grammar_of g) (map ground_of found))) (Some Arity) None
found_known g rule args i found e h k fine =
    last_kind (args_are_past args) (unknown_of g rule args) (misfit_of g args) e
    (ap (λ b. not b || args_unknown (declarations_of g) args) (rule_stands g rule true (named_stands (words_of g).rules rule i h)) ∙ (known_when (words_of g).cons args (map ground_of found) k).0)
    ∙ ap (λ b. cond (not b) (Some Arity) None) (sym (args_fit g.cons (grammar_of g) args (map ground_of found) refl k fine e))

pub args_misfit : (g : Grammar) (rule : List ℕ) (args : List Written) (i : ℕ) (found : List Ground) → args_are_past args ≡ false → Some i ≡ number_named (words_of g).rules rule
    → known_grounds (words_of g).cons args ≡ Some (map ground_of found) → all_have_contents args ≡ true → args_ok (grammar_of g) (map ground_of found) ≡ false
    → args_kind (declarations_of g) rule args ≡ Some Arity
args_misfit g rule args i found e h k fine bad = found_known g rule args i found e h k fine ∙ ap (λ b. cond (not b) (Some Arity) None) bad

pub args_found : (g : Grammar) (rule : List ℕ) (args : List Written) (i : ℕ) (found : List Ground) → args_are_past args ≡ false → Some i ≡ number_named (words_of g).rules rule
    → known_grounds (words_of g).cons args ≡ Some (map ground_of found) → all_have_contents args ≡ true → args_ok (grammar_of g) (map ground_of found) ≡ true
    → AreFound (declarations_of g) (grammar_of g) rule args i found
args_found g rule args i found e h k fine good =
    let names = (words_of g).rules in
    let below : i < length (grammar_of g).rules = omega (arith, named_within names rule i h, length-map g.rules (λ (r : Rule). r.name), length-map g.rules (rule_of g.sorts)) in
    record {
      kind = found_known g rule args i found e h k fine ∙ ap (λ b. cond (not b) (Some Arity) None) good;
      number = ap (number_of rule) (sym (names_of_entries g.sorts g.rules)) ∙ named_number names rule i h;
      found = (known_when (words_of g).cons args (map ground_of found) k).1;
      declared = found_below (grammar_of g).rules i below;
      fit = good;
    }
