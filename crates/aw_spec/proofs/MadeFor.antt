-- Types that fit a specification are for its grammar, as the checker of types asks.
use Rattle.std.proofs.Common.{◌≡◌, ℕ, Result, Ok, Err, IfOk, ◌+◌, sym, ap, ◌∙◌, List, [], ◌∷◌, map, length, Option, Some, None, option_map, slice_get, option_and_then}
use Rattle.std.proofs.lemmas.List.{length-map}
use Rattle.aw_list.proofs.Members.{got_map as get_map}
use Rattle.aw_term.specs.Rules as P
use Rattle.aw_term.specs.WellFormed.{Each}
use Rattle.aw_grammar.specs.declared.rule.Sort.{Sort}
use Rattle.aw_grammar.specs.GrammarView.{sort_of}
use Rattle.aw_grammar.specs.GrammarOf.{grammar_of}
use Rattle.aw_typed.specs.Types as T
use Rattle.aw_typed.specs.Typing.{shape_of, carry_of, types_of, ShapeInRange, CarryInRange, NumbersInRange}
use Rattle.aw_typed.specs.declared.data.Shape.{Shape}
use Rattle.aw_typed.specs.declared.data.Carry.{Carry}
use Rattle.aw_spec.specs.declared.fault.SpecFault.{SpecFault}
use Rattle.aw_spec.specs.declared.spec_text.SpecText.{SpecText}
use Rattle.aw_spec.specs.TypesFit.{ShapeFits, CarryFits, arities_in, counts_in, TypesFit}
use Rattle.aw_spec.specs.Views.{spec_seen}
use Rattle.aw_spec.proofs.TypeSteps.{alongside_at, alongside_length, alongside_each, mapped_at}

-- what stands at a place of a mapped list
at_mapped : {A B : Type 0} (f : A → B) (xs : List (Option A)) (i : ℕ) (o : Option A) → slice_get xs i ≡ Some o → option_and_then T.same
    (slice_get (map (λ (x : Option A). option_map f x) xs) i) ≡ option_map f o
at_mapped {A} f xs i o e = ap (option_and_then T.same) (get_map (λ (x : Option A). option_map f x) xs i o e)

same_parts : (n arity : ℕ) (o : Option Shape) (x : T.Shape) → ShapeFits n arity o → option_map shape_of o ≡ Some x → length x.parts ≡ arity
same_parts n arity None x fit e = cc
same_parts n arity (Some y) x fit e =
    let same : shape_of y ≡ x = cc in ap (λ (z : T.Shape). length z.parts) (sym same) ∙ fit.0

same_carry : (n : ℕ) (c : ℕ × ℕ) (o : Option Carry) (k : T.Carry) → CarryFits n c o → option_map carry_of o ≡ Some k → (length k.takes ≡ c.0) × (length k.gives ≡ c.1)
same_carry n c None k fit e = cc
same_carry n c (Some y) k fit e =
    let same : carry_of y ≡ k = cc in
    (ap (λ (z : T.Carry). length z.takes) (sym same) ∙ fit.0, ap (λ (z : T.Carry). length z.gives) (sym same) ∙ fit.1)

abbrev counts : Sort → ℕ × ℕ
counts s = (s.takes, s.gives)

parts_are : (s : SpecText) → TypesFit (spec_seen s) → (c n : ℕ) (x : T.Shape) → slice_get (grammar_of s.grammar).arities c ≡ Some n → T.shape_of (types_of s.types) c ≡ Some x → length x.parts ≡ n
parts_are s fit c n x e h =
    let d = (spec_seen s).declared in
    let at = alongside_at (ShapeFits (2 + length s.types.names)) (arities_in d) s.types.shapes c n fit.shapes e in
    same_parts (2 + length s.types.names) n at.0 x at.2 (sym (at_mapped shape_of s.types.shapes c at.0 at.1) ∙ h)

carry_is : (s : SpecText) → TypesFit (spec_seen s) → (i : ℕ) (t : P.Sort) (k : T.Carry) → slice_get (grammar_of s.grammar).sorts i ≡ Some t →
    T.carry_of (types_of s.types) i ≡ Some k → (length k.takes ≡ t.takes) × (length k.gives ≡ t.gives)
carry_is s fit i t k e h =
    let d = (spec_seen s).declared in
    let n = 2 + length s.types.names in
    let from = mapped_at sort_of s.grammar.sorts i t e in
    let at = alongside_at (CarryFits n) (counts_in d) s.types.carries i (counts from.0) fit.carries (get_map counts s.grammar.sorts i from.0 from.1) in
    let both = same_carry n (counts from.0) at.0 k at.2 (sym (at_mapped carry_of s.types.carries i at.0 at.1) ∙ h) in
    (both.0 ∙ ap (λ (u : P.Sort). u.takes) from.2, both.1 ∙ ap (λ (u : P.Sort). u.gives) from.2)

pub made_for : (s : SpecText) → TypesFit (spec_seen s) → T.AreFor (grammar_of s.grammar) (types_of s.types)
made_for s fit =
    let d = (spec_seen s).declared in
    let n = 2 + length s.types.names in
    record {
      shapes = length-map s.types.shapes (λ (x : Option Shape). option_map shape_of x) ∙ alongside_length (ShapeFits n) (arities_in d) s.types.shapes fit.shapes;
      carries = length-map s.types.carries (λ (x : Option Carry). option_map carry_of x) ∙ alongside_length (CarryFits n) (counts_in d) s.types.carries fit.carries
          ∙ length-map s.grammar.sorts counts ∙ sym (length-map s.grammar.sorts sort_of);
      parts = λ c n x e h. parts_are s fit c n x e h;
      takes = λ i t k e h. (carry_is s fit i t k e h).0;
      gives = λ i t k e h. (carry_is s fit i t k e h).1;
    }

shape_in : (n arity : ℕ) (o : Option Shape) → ShapeFits n arity o → ShapeInRange n (option_map shape_of o)
shape_in n arity None h = tt
shape_in n arity (Some x) h = (h.1, h.2)

carry_in : (n : ℕ) (c : ℕ × ℕ) (o : Option Carry) → CarryFits n c o → CarryInRange n (option_map carry_of o)
carry_in n c None h = tt
carry_in n c (Some k) h = (h.2, h.3)

each_mapped : {A B : Type 0} (f : A → B) (P : B → Type 0) (xs : List A) → Each (λ x. P (f x)) xs → Each P (map f xs)
each_mapped f P [] h = tt
each_mapped f P (x ∷ xs) h = (h.0, each_mapped f P xs h.1)

pub in_range : (s : SpecText) → TypesFit (spec_seen s) → NumbersInRange (types_of s.types)
in_range s fit =
    let d = (spec_seen s).declared in
    let n = 2 + length s.types.names in
    record {
      shapes = each_mapped (λ (x : Option Shape). option_map shape_of x) (ShapeInRange n) s.types.shapes
          (alongside_each (ShapeFits n) (λ o. ShapeInRange n (option_map shape_of o)) (arities_in d) s.types.shapes (λ a o h. shape_in n a o h) fit.shapes);
      carries = each_mapped (λ (x : Option Carry). option_map carry_of x) (CarryInRange n) s.types.carries
          (alongside_each (CarryFits n) (λ o. CarryInRange n (option_map carry_of o)) (counts_in d) s.types.carries (λ c o h. carry_in n c o h) fit.carries);
    }

pub read_made : (r : Result SpecText SpecFault) → IfOk r (λ s. TypesFit (spec_seen s)) → IfOk r (λ s. T.AreFor (grammar_of s.grammar) (types_of s.types))
read_made (Ok s) fit = made_for s fit
read_made (Err f) fit = tt

pub read_in_range : (r : Result SpecText SpecFault) → IfOk r (λ s. TypesFit (spec_seen s)) → IfOk r (λ s. NumbersInRange (types_of s.types))
read_in_range (Ok s) fit = in_range s fit
read_in_range (Err f) fit = tt
