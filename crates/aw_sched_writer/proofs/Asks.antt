-- The line that is written for an event asks for this event, and nothing is wrong with it.
use Rattle.std.proofs.Common.{◌≡◌, ℕ, zero, suc, ◌<◌, ◌^◌, refl, ap, ◌∙◌, Bool, true, false, cond, not, ◌&&◌, ◌||◌, nat_lt, nat_le, List, [], ◌∷◌, map}
use Rattle.std.proofs.Common.{length, Option, Some, None, is_some, slice_get, arith}
use Rattle.std.specs.Prelude.{is_none}
use Rattle.std.proofs.lemmas.Bool.{and_parts}
use Rattle.std.proofs.lemmas.Bool.Decides.{nat_tests}
use Rattle.std.proofs.lemmas.List.{length-map}
use Rattle.aw_name_index.specs.Places.{number_of, stands, first_told}
use Rattle.aw_term.specs.Rules.{Ground, Sort, get, sort_of}
use Rattle.aw_term.specs.Choices.{Start, Develop}
use Rattle.aw_term.specs.Artifacts.{node_text}
use Rattle.aw_term.specs.Names.{Node}
use Rattle.aw_term.specs.WellFormed.{IsWellFormed, leaves_of, symbols_of}
use Rattle.aw_term.proofs.Eaches.{each_get}
use Rattle.aw_choice.specs.Events.{Event, Chooses, Delivers, Settles, Lists}
use Rattle.aw_grammar.specs.Terms.{symbols_in_all, depth_of_all}
use Rattle.aw_grammar.specs.Kinds.{all_known, all_have_arities}
use Rattle.aw_grammar.specs.Resolved.{all_resolved}
use Rattle.aw_grammar.specs.Declarations.{Declarations, con_names, sort_names, rule_names, grammar_in, words_in}
use Rattle.aw_grammar.proofs.Growth.{FourClasses, four_from}
use Rattle.aw_base.specs.NodeNames.{node_named, is_start}
use Rattle.aw_base.specs.ChoiceFits.{choice_ok, args_ok, grounds_ok}
use Rattle.aw_typed.specs.Types.{Types}
use Rattle.aw_sched.specs.Events.{event_of, line_kind, args_are_past, args_unknown, is_long, node_or_none}
use Rattle.aw_sched.specs.Schedules.{event_fits}
use Rattle.aw_sched.specs.declared.fault.SchedKind.TheVariants.{Limit, Unknown, Arity, NotStart, Name}
use Rattle.aw_spec_writer.proofs.Placed.{number_again, stands_at}
use Rattle.aw_spec_writer.proofs.SaysTerms.{IsName}
use Rattle.aw_sched.proofs.ReadArguments.{few_is as is_past}
use Rattle.aw_sched_writer.specs.Laws.{CanBeWritten, IsSmallChoice}
use Rattle.aw_sched_writer.proofs.Terms.{written_args, args_same, args_spelled, ArgsWell, args_well}
use Rattle.aw_sched_writer.proofs.Nodes.{node_lacks, node_is_read}
use Rattle.aw_sched_writer.proofs.Says.{line_for, IsSaid}

-- an item that is there stands below the length
item_below : {A : Type 0} (xs : List A) (i : ℕ) → is_some (slice_get xs i) ≡ true → i < length xs
item_below [] zero h = cc
item_below [] (suc i) h = cc
item_below (x ∷ xs) zero h = omega arith
item_below (x ∷ xs) (suc i) h = let less = item_below xs i h in omega arith

start_there : (o : Option Sort) → is_start o ≡ true → is_some o ≡ true
start_there None h = cc
start_there (Some s) h = refl

names_of : (d : Declarations) → IsWellFormed (words_in d) (grammar_in d) → FourClasses IsName d.roles (con_names d) (sort_names d) (rule_names d)
names_of d formed = four_from IsName d.roles (con_names d) (sort_names d) (rule_names d) formed.names

-- what is asked for again
pub record IsAsked (d : Declarations) (e : Event) : Type 0 where
  pub said : IsSaid (words_in d) e
  pub kind : line_kind d (line_for (words_in d) e) ≡ None
  pub event : event_of d (line_for (words_in d) e) ≡ e

-- a start
start_asked : (d : Declarations) (s k : ℕ) → IsWellFormed (words_in d) (grammar_in d) → is_start (slice_get (grammar_in d).sorts s) ≡ true → k < 2 ^ 64 → IsAsked d (Chooses (Start s k))
start_asked d s k formed start small =
    let names = sort_names d in
    let sorts = (grammar_in d).sorts in
    let below : s < length names = omega (arith, item_below sorts s (start_there (slice_get sorts s) start), formed.all_sorts) in
    let number = number_again names s formed.sorts_differ below in
    record {
      said = (each_get IsName [] names s (names_of d formed).sorts_fit below, small);
      kind = ap (λ b. cond (not b) (Some Unknown) (first_told ((not (is_start (slice_get sorts (number_of (get [] names s) names))), NotStart) ∷ []))) (stands_at names s formed.sorts_differ below)
          ∙ ap (λ n. first_told ((not (is_start (slice_get sorts n)), NotStart) ∷ [])) number
          ∙ ap (λ b. first_told ((not b, NotStart) ∷ [])) start;
      event = ap (λ n. Chooses (Start n k)) number;
    }

-- a worklist
list_asked : (d : Declarations) (role : ℕ) → IsWellFormed (words_in d) (grammar_in d) → role < length d.roles → IsAsked d (Lists role)
list_asked d role formed below = record {
  said = each_get IsName [] d.roles role (names_of d formed).roles_fit below;
  kind = ap (λ b. first_told ((not b, Unknown) ∷ [])) (stands_at d.roles role formed.roles_differ below);
  event = ap Lists (number_again d.roles role formed.roles_differ below);
}

-- a rule on a node
four_none : (a b c e : Bool) → a ≡ false → b ≡ false → c ≡ false → e ≡ false → first_told ((a, Limit) ∷ (b, Unknown) ∷ (c, Arity) ∷ (e, Name) ∷ []) ≡ None
four_none a b c e ha hb hc he =
    ap (λ x. first_told ((x, Limit) ∷ (b, Unknown) ∷ (c, Arity) ∷ (e, Name) ∷ [])) ha
    ∙ ap (λ x. first_told ((x, Unknown) ∷ (c, Arity) ∷ (e, Name) ∷ [])) hb
    ∙ ap (λ x. first_told ((x, Arity) ∷ (e, Name) ∷ [])) hc
    ∙ ap (λ x. first_told ((x, Name) ∷ [])) he

neither : (a b : Bool) → a ≡ false → b ≡ false → (a || b) ≡ false
neither a b h k = ap (λ x. x || b) h ∙ k

args_within : (d : Declarations) (args : List Ground) → args_ok (grammar_in d) args ≡ true → ArgsWell d.cons args → args_are_past (written_args (con_names d) args) ≡ false
args_within d args ok well =
    let ws = written_args (con_names d) args in
    let few = and_parts (nat_le (length args) 8) (nat_le (symbols_of args) 256 && grounds_ok (grammar_in d) args) ok in
    let small = and_parts (nat_le (symbols_of args) 256) (grounds_ok (grammar_in d) args) few.1 in
    let count : length ws ≡ length args = length-map _ _ ∙ length-map args _ in
    is_past (length ws) (symbols_in_all ws) (depth_of_all ws)
    (let h : nat_le (length args) 8 ≡ true = few.0 in grind (arith, nat_tests))
    (let h : nat_le (symbols_of args) 256 ≡ true = small.0 in let e : symbols_in_all ws ≡ symbols_of args = well.well.symbols ∙ well.symbols in grind (arith, nat_tests))
    well.well.depth

none_unknown : (d : Declarations) (args : List Ground) → ArgsWell d.cons args → args_unknown d (written_args (con_names d) args) ≡ false
none_unknown d args well =
    let leaves = well.well.leaves ∙ ap (map (get [] [])) well.closed in
    neither (not (all_known (con_names d) (written_args (con_names d) args))) (nat_lt 0 (length (leaves_of (all_resolved (con_names d) (written_args (con_names d) args)))))
    (ap not well.well.known) (ap (λ xs. nat_lt 0 (length xs)) leaves)

develop_asked : (d : Declarations) (n : Node) (r : ℕ) (args : List Ground) → IsWellFormed (words_in d) (grammar_in d) → choice_ok (grammar_in d)
    (Develop n r args) ≡ true → IsSmallChoice (Develop n r args) → IsAsked d (Chooses (Develop n r args))
develop_asked d n r args formed ok small =
    let w = words_in d in
    let g = grammar_in d in
    let names = rule_names d in
    let ws = written_args (con_names d) args in
    let valid = and_parts (is_some (sort_of g n)) (is_some (slice_get g.rules r) && args_ok g args) ok in
    let rest = and_parts (is_some (slice_get g.rules r)) (args_ok g args) valid.1 in
    let grounds = (and_parts (nat_le (symbols_of args) 256) (grounds_ok g args) (and_parts (nat_le (length args) 8) (nat_le (symbols_of args) 256 && grounds_ok g args) rest.1).1).1 in
    let classes = names_of d formed in
    let below : r < length names = omega (arith, item_below g.rules r rest.0, formed.all_rules) in
    let read = node_is_read w g n formed small.0 valid.0 in
    let well = args_well d.cons g refl formed.cons_differ args grounds in
    let number = number_again names r formed.rules_differ below in
    record {
      said = (
        read.1.name,
        node_lacks w n classes.sorts_fit classes.rules_fit small.0.case small.1,
        each_get IsName [] names r classes.rules_fit below,
        args_spelled d.cons g refl classes.cons_fit args grounds small.2,
        args_same w g args grounds,
      );
      kind = four_none (args_are_past ws || is_long (node_text w n)) (not (stands (get [] names r) names) || args_unknown d ws)
          (not (all_have_arities d.cons ws)) (is_none (node_named w g (node_text w n)))
          (neither (args_are_past ws) (is_long (node_text w n)) (args_within d args rest.1 well) read.1.short)
          (neither (not (stands (get [] names r) names)) (args_unknown d ws) (ap not (stands_at names r formed.rules_differ below)) (none_unknown d args well))
          (ap not well.well.arities)
          (ap is_none read.0);
      event = λ i. Chooses (Develop (ap node_or_none read.0 i) (number i) (well.back i));
    }

pub event_asked : (t : Types) (d : Declarations) (e : Event) → IsWellFormed (words_in d) (grammar_in d) → CanBeWritten t (grammar_in d) e → IsAsked d e
event_asked t d (Chooses (Start s k)) formed can = start_asked d s k formed can.0 can.2
event_asked t d (Chooses (Develop n r args)) formed can = develop_asked d n r args formed can.0 can.2
event_asked t d (Delivers k) formed can = record { said = can; kind = refl; event = refl }
event_asked t d Settles formed can = record { said = tt; kind = refl; event = refl }
event_asked t d (Lists role) formed can = list_asked d role formed can

pub event_typed : (t : Types) (d : Declarations) (e : Event) → CanBeWritten t (grammar_in d) e → event_fits t (grammar_in d) e ≡ true
event_typed t d (Chooses c) can = can.1
event_typed t d (Delivers k) can = refl
event_typed t d Settles can = refl
event_typed t d (Lists role) can = refl
