-- Types of a grammar that has none.
use Rattle.std.proofs.Common.{◌≡◌, ℕ, zero, suc, ◌+◌, refl, sym, ap, ◌∙◌, subst, List, replicate, map, length, Option, Some, None, option_map, slice_get, option_and_then}
use Rattle.std.proofs.lemmas.List.{length-map}
use Rattle.aw_term.specs.WellFormed.{Each}
use Rattle.aw_grammar.specs.declared.rule.Con.{Con}
use Rattle.aw_grammar.specs.declared.grammar.Grammar.{Grammar}
use Rattle.aw_grammar.specs.GrammarView.{sort_of}
use Rattle.aw_grammar.specs.GrammarOf.{grammar_of}
use Rattle.aw_typed.specs.declared.data.Shape.{Shape}
use Rattle.aw_typed.specs.declared.data.Carry.{Carry}
use Rattle.aw_typed.specs.declared.data.Types.{Types}
use Rattle.aw_typed.specs.Types.{AreFor, same}
use Rattle.aw_typed.specs.Typing.{types_of, shape_of, carry_of, ShapeInRange, CarryInRange, NumbersInRange}

length_none : {A B : Type 0} (f : A → B) (n : ℕ) → length (map (λ (o : Option A). option_map f o) (replicate n None)) ≡ n
length_none f zero = refl
length_none f (suc n) = ap (λ k. suc k) (length_none f n)

-- nothing stands at any place
none_at : {A B : Type 0} (f : A → B) (n i : ℕ) (x : B) → option_and_then same (slice_get (map (λ (o : Option A). option_map f o) (replicate n None)) i) ≡ Some x → ⊥
none_at f zero i x e = cc
none_at f (suc n) zero x e = cc
none_at f (suc n) (suc i) x e = none_at f n i x e

each_none : {A B : Type 0} (f : A → B) (P : Option B → Type 0) (n : ℕ) → P None → Each P (map (λ (o : Option A). option_map f o) (replicate n None))
each_none f P zero h = tt
each_none f P (suc n) h = (h, each_none f P n h)

pub for_grammar : (g : Grammar) (t : Types) → t.shapes ≡ replicate (length g.cons) None → t.carries ≡ replicate (length g.sorts) None → AreFor (grammar_of g) (types_of t)
for_grammar g t es ek =
    let shapes = λ (xs : List (Option Shape)). map (λ (o : Option Shape). option_map shape_of o) xs in
    let carries = λ (xs : List (Option Carry)). map (λ (o : Option Carry). option_map carry_of o) xs in
    record {
      shapes = ap (λ xs. length (shapes xs)) es ∙ length_none shape_of (length g.cons) ∙ sym (length-map g.cons (λ (c : Con). c.arity));
      carries = ap (λ xs. length (carries xs)) ek ∙ length_none carry_of (length g.sorts) ∙ sym (length-map g.sorts sort_of);
      parts = λ c n x e h. absurd (none_at shape_of (length g.cons) c x (ap (λ xs. option_and_then same (slice_get (shapes xs) c)) (sym es) ∙ h));
      takes = λ s u k e h. absurd (none_at carry_of (length g.sorts) s k (ap (λ xs. option_and_then same (slice_get (carries xs) s)) (sym ek) ∙ h));
      gives = λ s u k e h. absurd (none_at carry_of (length g.sorts) s k (ap (λ xs. option_and_then same (slice_get (carries xs) s)) (sym ek) ∙ h));
    }

pub in_range : (n m : ℕ) (t : Types) → t.shapes ≡ replicate n None → t.carries ≡ replicate m None → NumbersInRange (types_of t)
in_range n m t es ek = record {
  shapes = subst (λ (xs : List (Option Shape)). Each (ShapeInRange (2 + length t.names)) (map (λ (o : Option Shape). option_map shape_of o) xs))
      (sym es) (each_none shape_of (ShapeInRange (2 + length t.names)) n tt);
  carries = subst (λ (xs : List (Option Carry)). Each (CarryInRange (2 + length t.names)) (map (λ (o : Option Carry). option_map carry_of o) xs))
      (sym ek) (each_none carry_of (CarryInRange (2 + length t.names)) m tt);
}
