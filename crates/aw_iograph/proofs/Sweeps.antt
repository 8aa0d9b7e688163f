-- Rules that are visited in turn.
use Rattle.std.proofs.Common.{◌≡◌, ℕ, ◌+◌, ◌<◌, ◌≤◌, Bool, true, false, List, length, Some, slice_get, refl, sym, subst, inl, inr, arith, ◌∙◌}
use Rattle.std.specs.Prelude.{◌⊎◌, ◌||◌}
use Rattle.std.proofs.lemmas.Bool.{or_parts, cases_lt}
use Rattle.std.proofs.lemmas.Option.{slice_get_within}
use Rattle.aw_list.proofs.Members.{member_place, member_map, member_unmap, member_got}
use Rattle.aw_term.specs.Rules as P
use Rattle.aw_grammar.specs.declared.rule.Rule.{Rule}
use Rattle.aw_grammar.specs.declared.rule.Sort.{Sort}
use Rattle.aw_grammar.specs.declared.grammar.Grammar.{Grammar}
use Rattle.aw_grammar.specs.GrammarView.{rule_of}
use Rattle.aw_grammar.specs.GrammarOf.{grammar_of}
use Rattle.aw_iograph.specs.declared.io.Io.{Io}
use Rattle.aw_iograph.specs.Graphs.{Plus}
use Rattle.aw_iograph.specs.Growth.{Grown}
use Rattle.aw_iograph.specs.Occurrences.{inherited, given, place_of}
use Rattle.aw_iograph.specs.Dependence.{Edge, Walk, Follows, IsKept, IsClosedUnder}
use Rattle.aw_iograph.specs.Pairs.{Has, HasMark, IsNumber}
use Rattle.aw_iograph.specs.Rows.{IsIn, HasEachWalk, HasOnlyWalks, bit_of}
use Rattle.aw_iograph.proofs.Marking.{grown_trans}
use Rattle.aw_iograph.proofs.Placing.{number_place}
use Rattle.aw_iograph.proofs.Relations.{follows_walk}

pub has_grown : (old new : Io) (b : Bool) → Grown old.marks.items new.marks.items b → (s i j : ℕ) → Has old s i j → Has new s i j
has_grown old new b grown s i j has = record { inherited = has.inherited; result = has.result; marked = grown.kept _ has.marked }

-- a walk of the rule gives a pair that was added
pub visit_kept : (r s : Rule) (sorts : List Sort) (old new : Io) (rows slice : List ℕ) → r ≡ s → slice ≡ rows →
    HasEachWalk (rule_of sorts r) (Has old) rows →
    ((i j : ℕ) → IsNumber i → IsNumber j → IsIn slice (place_of (given 0 j)) (place_of (inherited 0 i)) → Has new r.sort i j) →
    (i j : ℕ) → Plus (Edge (rule_of sorts s) (Has old)) (inherited 0 i) (given 0 j) → Has new s.sort i j
visit_kept r s sorts old new rows slice same at joined there i j w =
    let w' : Plus (Edge (rule_of sorts r) (Has old)) (inherited 0 i) (given 0 j) = subst (λ (x : Rule). Plus (Edge (rule_of sorts x) (Has old)) (inherited 0 i) (given 0 j)) (sym same) w in
    let (p, q, on) = joined 0 i (given 0 j) w' in
    let bit : bit_of 0 i ≡ place_of (inherited 0 i) = omega arith in
    subst (λ (x : Rule). Has new x.sort i j) same
    (there i j (record { counted = p.counted; few = p.number }) (record { counted = q.counted; few = q.number })
    (subst (λ (rs : List ℕ). IsIn rs (place_of (given 0 j)) (place_of (inherited 0 i))) (sym at) (subst (λ n. IsIn rows (place_of (given 0 j)) n) bit on)))

-- a pair that was added has a walk of the rule
pub visit_only : (g : Grammar) (n : ℕ) (r : Rule) (old new : Io) (rows slice : List ℕ) → slice_get g.rules n ≡ Some r → slice ≡ rows →
    HasOnlyWalks (rule_of g.sorts r) (Has old) rows →
    ((s i j : ℕ) → Has new s i j → Has old s i j ⊎ ((s ≡ r.sort) × IsIn slice (place_of (given 0 j)) (place_of (inherited 0 i)))) →
    (s i j : ℕ) → Has new s i j → Has old s i j ⊎ Walk (grammar_of g) (Has old) s i j
visit_only g n r old new rows slice here at led only s i j has = elim (only s i j has) [
  | inl was ↦ inl was
  | inr now ↦ (let bit : place_of (inherited 0 i) ≡ bit_of 0 i = omega arith in
      inr (
        rule_of g.sorts r,
        member_map (rule_of g.sorts) r g.rules (member_got g.rules n r here),
        sym now.0,
        led 0 i (given 0 j) (number_place false i has.inherited.counted has.inherited.few) (number_place true j has.result.counted has.result.few)
            (subst (λ m. IsIn rows (place_of (given 0 j)) m) bit (subst (λ (rs : List ℕ). IsIn rs (place_of (given 0 j)) (place_of (inherited 0 i))) at now.1)),
      ))
]

-- the last n rules were looked at
pub record Sweeping (g : Grammar) (start io : Io) (added : Bool) (n : ℕ) : Type 0 where
  pub grown : Grown start.marks.items io.marks.items added
  pub follows : (s i j : ℕ) → Has io s i j → Follows (grammar_of g) (Has start) s i j
  pub kept : added ≡ false → (k : ℕ) → length g.rules ≤ k + n → (r : Rule) → slice_get g.rules k ≡ Some r → IsKept (HasMark io.marks.items) (rule_of g.sorts r)

pub sweep_start : (g : Grammar) (io : Io) → Sweeping g io io false 0
sweep_start g io = record {
  grown = record { size = refl; kept = λ k on. on; same = λ off. refl; fewer = λ on. cc };
  follows = λ s i j has. (0, has);
  kept = λ off k le r got. (let lt : k < length g.rules = slice_get_within g.rules k r got in absurd (omega arith));
}

pub sweep_step : (g : Grammar) (start io next : Io) (added one both : Bool) (n m : ℕ) → m + (n + 1) ≡ length g.rules → both ≡ (one || added) →
    Sweeping g start io added n → Grown io.marks.items next.marks.items one →
    (one ≡ false → (r : Rule) → slice_get g.rules m ≡ Some r → IsKept (Has next) (rule_of g.sorts r)) →
    ((s i j : ℕ) → Has next s i j → Has io s i j ⊎ Walk (grammar_of g) (Has io) s i j) → Sweeping g start next both (n + 1)
sweep_step g start io next added one both n m at e so grown kept only = record {
  grown = grown_trans start.marks.items io.marks.items next.marks.items added one both e so.grown grown;
  follows = λ s i j has. follows_walk (grammar_of g) (Has start) (Has io) so.follows s i j (only s i j has);
  kept = λ off k le r got.
      let (calm, before) = or_parts one added (sym e ∙ off) in
      elim (cases_lt (k + n) (length g.rules)) [
        | inl less ↦ (let same : k ≡ m = omega arith in kept calm r (subst (λ j. slice_get g.rules j ≡ Some r) same got))
        | inr done ↦ subst (λ (ms : List Bool). IsKept (HasMark ms) (rule_of g.sorts r)) (sym (grown.same calm)) (so.kept before k done r got)
      ];
}

-- all rules were looked at
pub swept : (g : Grammar) (marks : List Bool) (n : ℕ) → length g.rules ≤ n → ((k : ℕ) → length g.rules ≤ k + n → (r : Rule) →
    slice_get g.rules k ≡ Some r → IsKept (HasMark marks) (rule_of g.sorts r)) → IsClosedUnder (grammar_of g) (HasMark marks)
swept g marks n le all r m =
    let (d, here, same) = member_unmap (rule_of g.sorts) r g.rules m in
    let (k, lt, got) = member_place g.rules d here in
    let below : length g.rules ≤ k + n = omega arith in
    subst (λ (x : P.Rule). IsKept (HasMark marks) x) (sym same) (all k below d got)
