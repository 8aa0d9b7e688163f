-- The lines of types, shapes, carries and dependences lead from a specification without them to the specification.
use Rattle.std.proofs.Common.{◌≡◌, ℕ, suc, ◌+◌, ◌<◌, ◌≤◌, nat_eq, nat_le, refl, sym, ap, ◌∙◌, subst, Bool, true, false, not, ◌&&◌, ◌||◌, List, [], ◌∷◌}
use Rattle.std.proofs.Common.{◌++◌, length, map, Option, Some, None, is_some, option_and_then, slice_get, arith, append_assoc, length-append}
use Rattle.std.proofs.lemmas.List.{map-append, length-map, set_at}
use Rattle.std.proofs.lemmas.Bool.{eqb-true, eq-eqb, ne_eqb, lt-leb, le-leb, and_from}
use Rattle.std.specs.List.{list_any}
use Rattle.aw_name_index.specs.Places.{place_of}
use Rattle.aw_term.specs.Rules.{get}
use Rattle.aw_term.specs.WellFormed.{Each, Later, Differ}
use Rattle.aw_term.proofs.Eaches.{each_map}
use Rattle.aw_grammar.specs.declared.rule.Con as decl
use Rattle.aw_grammar.specs.declared.rule.Sort.{Sort}
use Rattle.aw_grammar.specs.Declarations.{Declarations, con_names, sort_names}
use Rattle.aw_grammar.proofs.PlacedNames.{place_again}
use Rattle.aw_grammar.proofs.FaultlessRule.{or_true}
use Rattle.aw_face.specs.declared.faces.Using.{Using}
use Rattle.aw_base.specs.declared.declared.Triple.{Triple}
use Rattle.aw_typed.specs.declared.data.Shape.{Shape}
use Rattle.aw_typed.specs.declared.data.Carry.{Carry}
use Rattle.aw_typed.specs.declared.data.Types.{Types}
use Rattle.aw_spec.specs.Lines.{TypeLine, ShapeLine, CarryLine}
use Rattle.aw_spec.specs.Stages.{types_stage, shapes_stage, carries_stage, depends_stage}
use Rattle.aw_spec.specs.TypeLines.{type_names, types_named, shape_named, carry_named, is_other_arity, are_other_counts, are_no_positions, is_position, is_dependence}
use Rattle.aw_spec.specs.TypesFit.{is_empty, Alongside, ShapeFits, CarryFits, IsOfSort, AreTwo, arities_in, counts_in, TypesFit}
use Rattle.aw_spec.specs.Reading.{Spec, On, says, shaping, carrying, depending, type_tests, with_type, shape_tests, with_shape, carry_tests, with_carry, depends_tests, with_depends}
use Rattle.aw_spec.proofs.ReadLines.{then}
use Rattle.aw_spec.proofs.Tested.{tested_none}
use Rattle.aw_spec.proofs.TypeSteps.{mapped_at, some_within}
use Rattle.aw_spec.proofs.KeptTypes.{not_empty}
use Rattle.aw_spec_writer.specs.SpecLines.{shape_line, shape_lines, carry_line, carry_lines, depends_line, type_lines, typing_lines}
use Rattle.aw_spec_writer.proofs.Placed.{each_mid, new_name, place_mid}
use Rattle.aw_spec_writer.proofs.Declaring.{no_shape, no_carry, untyped, with_typing, named_below, none_any, before_mid}
use Rattle.aw_spec_writer.proofs.Leading.{Between, between_both, Through, through_none, through_line, through_same, all_through}

-- what was declared of types so far, where a line of types stands as soon as something was
abbrev any_shape : List (Option Shape) → Bool
any_shape os = list_any (λ (o : Option Shape). is_some o) os

abbrev any_carry : List (Option Carry) → Bool
any_carry os = list_any (λ (o : Option Carry). is_some o) os

abbrev typed_by : List (List ℕ) → List (Option Shape) → List (Option Carry) → Types
typed_by names shapes carries = record { typed = not (is_empty names) || (any_shape shapes || any_carry carries); names = names; shapes = shapes; carries = carries }

no_shapes : (cons : List decl.Con) → any_shape (map no_shape cons) ≡ false
no_shapes [] = refl
no_shapes (c ∷ cons) = no_shapes cons

no_carries : (sorts : List Sort) → any_carry (map no_carry sorts) ≡ false
no_carries [] = refl
no_carries (s ∷ sorts) = no_carries sorts

untyped_is : (cons : List decl.Con) (sorts : List Sort) → untyped cons sorts ≡ typed_by [] (map no_shape cons) (map no_carry sorts)
untyped_is cons sorts = ap (λ b. record (untyped cons sorts) { typed = b }) (sym (ap (λ b. b || any_carry (map no_carry sorts)) (no_shapes cons) ∙ no_carries sorts))

-- types

type_said : (d : Declarations) (offers : List ℕ) (uses : List Using) (all pre : List (List ℕ)) (x : List ℕ) (post : List (List ℕ)) →
    length all ≤ 256 → Differ (type_names (typed_by all [] [])) → all ≡ pre ++ x ∷ post →
    says (with_typing d offers uses (typed_by pre (map no_shape d.cons) (map no_carry d.sorts)) []) (TypeLine x) ≡ On
    (with_typing d offers uses (typed_by (pre ++ x ∷ []) (map no_shape d.cons) (map no_carry d.sorts)) [])
type_said d offers uses all pre x post few differ e =
    let shapes = map no_shape d.cons in
    let carries = map no_carry d.sorts in
    let s = with_typing d offers uses (typed_by pre shapes carries) [] in
    let less : length pre < 256 = omega (arith, ap length e, length-append pre (x ∷ post), few) in
    let differ_so : Differ (type_names (typed_by pre [] []) ++ x ∷ post) = subst (λ names. Differ (type_names (typed_by names [] []))) e differ in
    tested_none (type_tests s x) (with_type s x) (lt-leb 256 (length pre) less, (new_name (type_names (typed_by pre [] [])) x post differ_so, tt))
    ∙ ap (λ b. On (with_typing d offers uses (record (typed_by (pre ++ x ∷ []) shapes carries) { typed = b }) [])) (sym (ap (λ b. not b || (any_shape shapes || any_carry carries)) (not_empty pre x)))

types_lead : (d : Declarations) (offers : List ℕ) (uses : List Using) (names : List (List ℕ)) → length names ≤ 256 → Differ (type_names (typed_by names [] [])) →
    Through types_stage (with_typing d offers uses (typed_by [] (map no_shape d.cons) (map no_carry d.sorts)) []) (map (λ name. TypeLine name) names)
    (with_typing d offers uses (typed_by names (map no_shape d.cons) (map no_carry d.sorts)) [])
types_lead d offers uses names few differ =
    all_through types_stage (λ name. TypeLine name) (λ pre. with_typing d offers uses (typed_by pre (map no_shape d.cons) (map no_carry d.sorts)) [])
    names (λ x. refl) (λ pre x post e. type_said d offers uses names pre x post few differ e)

-- the types of numbers below how many there are are found by their names
numbers_again : (all : List (List ℕ)) (is : List ℕ) → Differ all → Each (λ t. t < length all) is → types_named all (map (get [] all) is) ≡ Some is
numbers_again all [] differ less = refl
numbers_again all (i ∷ is) differ less =
    then (place_of (get [] all i) all) i _ (Some (i ∷ is)) (place_again all i differ less.0)
    (then (types_named all (map (get [] all) is)) is _ (Some (i ∷ is)) (numbers_again all is differ less.1) refl)

shape_again : (all : List (List ℕ)) (x : Shape) → Differ all → x.own < length all → Each (λ t. t < length all) x.parts → shape_named all (map (get [] all) x.parts) (get [] all x.own) ≡ Some x
shape_again all x differ own parts =
    then (types_named all (map (get [] all) x.parts)) x.parts _ (Some x) (numbers_again all x.parts differ parts)
    (then (place_of (get [] all x.own) all) x.own _ (Some x) (place_again all x.own differ own) refl)

carry_again : (all : List (List ℕ)) (k : Carry) → Differ all → Each (λ t. t < length all) k.takes → Each (λ t. t < length all) k.gives →
    carry_named all (map (get [] all) k.takes) (map (get [] all) k.gives) ≡ Some k
carry_again all k differ takes gives =
    then (types_named all (map (get [] all) k.takes)) k.takes _ (Some k) (numbers_again all k.takes differ takes)
    (then (types_named all (map (get [] all) k.gives)) k.gives _ (Some k) (numbers_again all k.gives differ gives) refl)

-- numbers below two more than the declared names are those of types
below_all : (names : List (List ℕ)) (is : List ℕ) → Each (λ t. t < 2 + length names) is → Each (λ t. t < suc (suc (length names))) is
below_all names is each = each_map (λ t. t < 2 + length names) (λ t. t < suc (suc (length names))) is (λ t less. omega (arith, less)) each

-- what stands between others
get_mid : {A : Type 0} (pre : List A) (x : A) (post : List A) → slice_get (pre ++ x ∷ post) (length pre) ≡ Some x
get_mid [] x post = refl
get_mid (y ∷ pre) x post = get_mid pre x post

any_mid : {A : Type 0} (pre : List (Option A)) (x : A) (post : List (Option A)) → list_any (λ (o : Option A). is_some o) (pre ++ Some x ∷ post) ≡ true
any_mid [] x post = refl
any_mid (y ∷ pre) x post = ap (λ b. is_some y || b) (any_mid pre x post) ∙ or_true (is_some y)

-- of a name between others that all differ, the place
place_at : {A : Type 0} (name : A → List ℕ) (pre : List A) (x : A) (post : List A) → Differ (map name (pre ++ x ∷ post)) → place_of (name x) (map name (pre ++ x ∷ post)) ≡ Some (length pre)
place_at name pre x post differ =
    let split = map-append name pre (x ∷ post) in
    ap (place_of (name x)) split ∙ place_mid (map name pre) (name x) (map name post) (new_name (map name pre) (name x) (map name post) (subst Differ split differ)) ∙ ap Some (length-map pre name)

-- shapes

shape_said : (d : Declarations) (offers : List ℕ) (uses : List Using) (names : List (List ℕ)) (carries : List (Option Carry)) (pre : List decl.Con)
    (c : decl.Con) (post : List decl.Con) (done rest : List (Option Shape)) (x : Shape) →
    Differ (con_names d) → Differ (type_names (typed_by names [] [])) → d.cons ≡ pre ++ c ∷ post → length done ≡ length pre → ShapeFits (2 + length names) c.arity (Some x) →
    says (with_typing d offers uses (typed_by names (done ++ None ∷ rest) carries) [])
    (ShapeLine c.name (map (get [] (type_names (typed_by names [] []))) x.parts) (get [] (type_names (typed_by names [] [])) x.own))
    ≡ On (with_typing d offers uses (typed_by names (done ++ Some x ∷ rest) carries) [])
shape_said d offers uses names carries pre c post done rest x cons_differ differ e size fit =
    let all = type_names (typed_by names [] []) in
    let i = length done in
    let t = typed_by names (done ++ None ∷ rest) carries in
    let s = with_typing d offers uses t [] in
    let parts = map (get [] all) x.parts in
    let own = get [] all x.own in
    let name = λ (k : decl.Con). k.name in
    let split : Differ (map name (pre ++ c ∷ post)) = subst (λ cs. Differ (map name cs)) e cons_differ in
    let placed : place_of c.name (con_names d) ≡ Some i = ap (λ cs. place_of c.name (map name cs)) e ∙ place_at name pre c post split ∙ ap Some (sym size) in
    let here : slice_get d.cons i ≡ Some c = ap (λ cs. slice_get cs i) e ∙ ap (slice_get (pre ++ c ∷ post)) size ∙ get_mid pre c post in
    let named : shape_named all parts own ≡ Some x = shape_again all x differ (omega (arith, fit.1)) (below_all names x.parts fit.2) in
    let fresh = ap (λ o. is_some (option_and_then (λ (y : Option Shape). y) o)) (get_mid done None rest) in
    let arity = ap (λ o. is_other_arity o (Some x)) here ∙ ap not (eq-eqb (length x.parts) c.arity fit.0) in
    let some : any_shape (done ++ Some x ∷ rest) ≡ true = any_mid done x rest in
    let typed : (not (is_empty names) || (any_shape (done ++ Some x ∷ rest) || any_carry carries)) ≡ true =
    ap (λ b. not (is_empty names) || (b || any_carry carries)) some ∙ or_true (not (is_empty names)) in
    ap (λ at. shaping s at (shape_named all parts own)) placed
    ∙ ap (shaping s (Some i)) named
    ∙ tested_none (shape_tests s (Some i) (Some x)) (with_shape s (Some i) (Some x)) (fresh, (refl, (arity, tt)))
    ∙ ap (λ os. On (with_typing d offers uses (record t { typed = true; shapes = os }) [])) (set_at done None rest (Some x) i refl)
    ∙ ap (λ b. On (with_typing d offers uses (record (typed_by names (done ++ Some x ∷ rest) carries) { typed = b }) [])) (sym typed)

-- the line of one shape, or none
shape_leads : (d : Declarations) (offers : List ℕ) (uses : List Using) (names : List (List ℕ)) (carries : List (Option Carry)) (pre : List decl.Con)
    (c : decl.Con) (left : List decl.Con) (done : List (Option Shape)) → Differ (con_names d) → Differ (type_names (typed_by names [] [])) →
    d.cons ≡ pre ++ c ∷ left → length done ≡ length pre → (p : Option Shape) → ShapeFits (2 + length names) c.arity p →
    Through shapes_stage (with_typing d offers uses (typed_by names (done ++ None ∷ map no_shape left) carries) [])
    (shape_line (type_names (typed_by names [] [])) c.name p) (with_typing d offers uses (typed_by names (done ++ p ∷ map no_shape left) carries) [])
shape_leads d offers uses names carries pre c left done cons_differ differ e size None k = through_none shapes_stage
    (with_typing d offers uses (typed_by names (done ++ None ∷ map no_shape left) carries) [])
shape_leads d offers uses names carries pre c left done cons_differ differ e size (Some x) k =
    through_line shapes_stage (with_typing d offers uses (typed_by names (done ++ None ∷ map no_shape left) carries) [])
    (with_typing d offers uses (typed_by names (done ++ Some x ∷ map no_shape left) carries) [])
    (ShapeLine c.name (map (get [] (type_names (typed_by names [] []))) x.parts) (get [] (type_names (typed_by names [] [])) x.own)) refl
    (shape_said d offers uses names carries pre c left done (map no_shape left) x cons_differ differ e size k)

shapes_lead : (d : Declarations) (offers : List ℕ) (uses : List Using) (names : List (List ℕ)) (carries : List (Option Carry))
    (shapes : List (Option Shape)) → Differ (con_names d) → Differ (type_names (typed_by names [] [])) →
    Alongside (ShapeFits (2 + length names)) (arities_in d) shapes →
    Through shapes_stage (with_typing d offers uses (typed_by names (map no_shape d.cons) carries) [])
    (shape_lines (type_names (typed_by names [] [])) shapes d.cons) (with_typing d offers uses (typed_by names shapes carries) [])
shapes_lead d offers uses names carries shapes cons_differ differ fit = go [] d.cons [] shapes refl refl fit
  where
    go : (pre left : List decl.Con) (done todo : List (Option Shape)) → d.cons ≡ pre ++ left → length done ≡ length pre →
        Alongside (ShapeFits (2 + length names)) (map (λ (c : decl.Con). c.arity) left) todo →
        Through shapes_stage (with_typing d offers uses (typed_by names (done ++ map no_shape left) carries) [])
        (shape_lines (type_names (typed_by names [] [])) todo left) (with_typing d offers uses (typed_by names (done ++ todo) carries) [])
    go pre [] done [] e size f = through_none shapes_stage (with_typing d offers uses (typed_by names (done ++ []) carries) [])
    go pre [] done (o ∷ todo) e size f = absurd f
    go pre (c ∷ left) done [] e size f = absurd f
    go pre (c ∷ left) done (o ∷ todo) e size f =
        let state = λ (os : List (Option Shape)). with_typing d offers uses (typed_by names os carries) [] in
        let types = type_names (typed_by names [] []) in
        let longer : length (done ++ o ∷ []) ≡ length (pre ++ c ∷ []) = omega (arith, size, length-append done (o ∷ []), length-append pre (c ∷ [])) in
        through_same shapes_stage (state (done ++ None ∷ map no_shape left)) (state (done ++ o ∷ map no_shape left)) (state (done ++ o ∷ todo))
        (shape_line types c.name o) (shape_lines types todo left)
        (shape_leads d offers uses names carries pre c left done cons_differ differ e size o f.0)
        (subst (λ os. Through shapes_stage (state os) (shape_lines types todo left) (state (done ++ o ∷ todo))) (append_assoc done (o ∷ []) (map no_shape left))
        (subst (λ os. Through shapes_stage (state ((done ++ o ∷ []) ++ map no_shape left)) (shape_lines types todo left) (state os)) (append_assoc done (o ∷ []) todo)
        (go (pre ++ c ∷ []) left (done ++ o ∷ []) todo (e ∙ sym (append_assoc pre (c ∷ []) left)) longer f.1)))

-- carries

carry_said : (d : Declarations) (offers : List ℕ) (uses : List Using) (names : List (List ℕ)) (shapes : List (Option Shape)) (pre : List Sort)
    (c : Sort) (post : List Sort) (done rest : List (Option Carry)) (k : Carry) →
    Differ (sort_names d) → Differ (type_names (typed_by names [] [])) → d.sorts ≡ pre ++ c ∷ post → length done ≡ length pre → CarryFits (2 + length names) (c.takes, c.gives) (Some k) →
    says (with_typing d offers uses (typed_by names shapes (done ++ None ∷ rest)) [])
    (CarryLine c.name (map (get [] (type_names (typed_by names [] []))) k.takes) (map (get [] (type_names (typed_by names [] []))) k.gives))
    ≡ On (with_typing d offers uses (typed_by names shapes (done ++ Some k ∷ rest)) [])
carry_said d offers uses names shapes pre c post done rest k sorts_differ differ e size fit =
    let all = type_names (typed_by names [] []) in
    let i = length done in
    let t = typed_by names shapes (done ++ None ∷ rest) in
    let s = with_typing d offers uses t [] in
    let takes = map (get [] all) k.takes in
    let gives = map (get [] all) k.gives in
    let name = λ (x : Sort). x.name in
    let split : Differ (map name (pre ++ c ∷ post)) = subst (λ ss. Differ (map name ss)) e sorts_differ in
    let placed : place_of c.name (sort_names d) ≡ Some i = ap (λ ss. place_of c.name (map name ss)) e ∙ place_at name pre c post split ∙ ap Some (sym size) in
    let here : slice_get d.sorts i ≡ Some c = ap (λ ss. slice_get ss i) e ∙ ap (slice_get (pre ++ c ∷ post)) size ∙ get_mid pre c post in
    let named : carry_named all takes gives ≡ Some k = carry_again all k differ (below_all names k.takes fit.2) (below_all names k.gives fit.3) in
    let fresh = ap (λ o. is_some (option_and_then (λ (y : Option Carry). y) o)) (get_mid done None rest) in
    let counts = ap (λ o. are_other_counts o (Some k)) here ∙ ap not (and_from (nat_eq (length k.takes) c.takes) (nat_eq (length k.gives) c.gives)
    (eq-eqb (length k.takes) c.takes fit.0) (eq-eqb (length k.gives) c.gives fit.1)) in
    let some : any_carry (done ++ Some k ∷ rest) ≡ true = any_mid done k rest in
    let typed : (not (is_empty names) || (any_shape shapes || any_carry (done ++ Some k ∷ rest))) ≡ true =
    ap (λ b. not (is_empty names) || (any_shape shapes || b)) some ∙ ap (λ b. not (is_empty names) || b) (or_true (any_shape shapes)) ∙ or_true (not (is_empty names)) in
    ap (λ at. carrying s at (carry_named all takes gives)) placed
    ∙ ap (carrying s (Some i)) named
    ∙ tested_none (carry_tests s (Some i) (Some k)) (with_carry s (Some i) (Some k)) (fresh, (refl, (counts, tt)))
    ∙ ap (λ os. On (with_typing d offers uses (record t { typed = true; carries = os }) [])) (set_at done None rest (Some k) i refl)
    ∙ ap (λ b. On (with_typing d offers uses (record (typed_by names shapes (done ++ Some k ∷ rest)) { typed = b }) [])) (sym typed)

-- the line of one carry, or none
carry_leads : (d : Declarations) (offers : List ℕ) (uses : List Using) (names : List (List ℕ)) (shapes : List (Option Shape)) (pre : List Sort)
    (c : Sort) (left : List Sort) (done : List (Option Carry)) → Differ (sort_names d) → Differ (type_names (typed_by names [] [])) →
    d.sorts ≡ pre ++ c ∷ left → length done ≡ length pre → (p : Option Carry) → CarryFits (2 + length names) (c.takes, c.gives) p →
    Through carries_stage (with_typing d offers uses (typed_by names shapes (done ++ None ∷ map no_carry left)) [])
    (carry_line (type_names (typed_by names [] [])) c.name p) (with_typing d offers uses (typed_by names shapes (done ++ p ∷ map no_carry left)) [])
carry_leads d offers uses names shapes pre c left done sorts_differ differ e size None k = through_none carries_stage
    (with_typing d offers uses (typed_by names shapes (done ++ None ∷ map no_carry left)) [])
carry_leads d offers uses names shapes pre c left done sorts_differ differ e size (Some x) k =
    through_line carries_stage (with_typing d offers uses (typed_by names shapes (done ++ None ∷ map no_carry left)) [])
    (with_typing d offers uses (typed_by names shapes (done ++ Some x ∷ map no_carry left)) [])
    (CarryLine c.name (map (get [] (type_names (typed_by names [] []))) x.takes) (map (get [] (type_names (typed_by names [] []))) x.gives)) refl
    (carry_said d offers uses names shapes pre c left done (map no_carry left) x sorts_differ differ e size k)

carries_lead : (d : Declarations) (offers : List ℕ) (uses : List Using) (names : List (List ℕ)) (shapes : List (Option Shape))
    (carries : List (Option Carry)) → Differ (sort_names d) → Differ (type_names (typed_by names [] [])) →
    Alongside (CarryFits (2 + length names)) (counts_in d) carries →
    Through carries_stage (with_typing d offers uses (typed_by names shapes (map no_carry d.sorts)) [])
    (carry_lines (type_names (typed_by names [] [])) carries d.sorts) (with_typing d offers uses (typed_by names shapes carries) [])
carries_lead d offers uses names shapes carries sorts_differ differ fit = go [] d.sorts [] carries refl refl fit
  where
    go : (pre left : List Sort) (done todo : List (Option Carry)) → d.sorts ≡ pre ++ left → length done ≡ length pre →
        Alongside (CarryFits (2 + length names)) (map (λ (c : Sort). (c.takes, c.gives)) left) todo →
        Through carries_stage (with_typing d offers uses (typed_by names shapes (done ++ map no_carry left)) [])
        (carry_lines (type_names (typed_by names [] [])) todo left) (with_typing d offers uses (typed_by names shapes (done ++ todo)) [])
    go pre [] done [] e size f = through_none carries_stage (with_typing d offers uses (typed_by names shapes (done ++ [])) [])
    go pre [] done (o ∷ todo) e size f = absurd f
    go pre (c ∷ left) done [] e size f = absurd f
    go pre (c ∷ left) done (o ∷ todo) e size f =
        let state = λ (os : List (Option Carry)). with_typing d offers uses (typed_by names shapes os) [] in
        let types = type_names (typed_by names [] []) in
        let longer : length (done ++ o ∷ []) ≡ length (pre ++ c ∷ []) = omega (arith, size, length-append done (o ∷ []), length-append pre (c ∷ [])) in
        through_same carries_stage (state (done ++ None ∷ map no_carry left)) (state (done ++ o ∷ map no_carry left)) (state (done ++ o ∷ todo))
        (carry_line types c.name o) (carry_lines types todo left)
        (carry_leads d offers uses names shapes pre c left done sorts_differ differ e size o f.0)
        (subst (λ os. Through carries_stage (state os) (carry_lines types todo left) (state (done ++ o ∷ todo))) (append_assoc done (o ∷ []) (map no_carry left))
        (subst (λ os. Through carries_stage (state ((done ++ o ∷ []) ++ map no_carry left)) (carry_lines types todo left) (state os)) (append_assoc done (o ∷ []) todo)
        (go (pre ++ c ∷ []) left (done ++ o ∷ []) todo (e ∙ sym (append_assoc pre (c ∷ []) left)) longer f.1)))

-- dependences

other_dependence : (a b : Triple) → AreTwo a b → (nat_eq a.sort b.sort && (nat_eq a.i b.i && nat_eq a.j b.j)) ≡ false
other_dependence a b h = by_sort (nat_eq a.sort b.sort) refl
  where
    by_place : (t : Bool) → nat_eq a.i b.i ≡ t → a.sort ≡ b.sort → (nat_eq a.i b.i && nat_eq a.j b.j) ≡ false
    by_place true e same = ap (λ x. x && nat_eq a.j b.j) e ∙ ne_eqb a.j b.j (h same (eqb-true a.i b.i e))
    by_place false e same = ap (λ x. x && nat_eq a.j b.j) e

    by_sort : (t : Bool) → nat_eq a.sort b.sort ≡ t → (nat_eq a.sort b.sort && (nat_eq a.i b.i && nat_eq a.j b.j)) ≡ false
    by_sort true e = ap (λ x. x && (nat_eq a.i b.i && nat_eq a.j b.j)) e ∙ by_place (nat_eq a.i b.i) refl (eqb-true a.sort b.sort e)
    by_sort false e = ap (λ x. x && (nat_eq a.i b.i && nat_eq a.j b.j)) e

depends_said : (d : Declarations) (offers : List ℕ) (uses : List Using) (types : Types) (all pre : List Triple) (x : Triple) (post : List Triple) →
    Differ (sort_names d) → Each (IsOfSort (counts_in d)) all → Later AreTwo all → all ≡ pre ++ x ∷ post →
    says (with_typing d offers uses types pre) (depends_line (sort_names d) x) ≡ On (with_typing d offers uses types (pre ++ x ∷ []))
depends_said d offers uses types all pre x post differ declared once e =
    let s = with_typing d offers uses types pre in
    let found = each_mid (IsOfSort (counts_in d)) pre x post (subst (Each (IsOfSort (counts_in d))) e declared) in
    let from = mapped_at (λ (c : Sort). (c.takes, c.gives)) d.sorts x.sort found.0 found.1 in
    let sort = from.0 in
    let takes : sort.takes ≡ found.0.0 = ap (λ (c : ℕ × ℕ). c.0) from.2 in
    let gives : sort.gives ≡ found.0.1 = ap (λ (c : ℕ × ℕ). c.1) from.2 in
    let less : x.sort < length d.sorts = some_within d.sorts x.sort sort from.1 in
    let new : is_dependence pre (Some x.sort) x.i x.j ≡ false =
    none_any (λ (a : Triple). nat_eq a.sort x.sort && (nat_eq a.i x.i && nat_eq a.j x.j)) pre
    (each_map (λ a. AreTwo a x) (λ a. (nat_eq a.sort x.sort && (nat_eq a.i x.i && nat_eq a.j x.j)) ≡ false) pre (λ a h. other_dependence a x h)
    (before_mid AreTwo pre x post (subst (Later AreTwo) e once))) in
    let first = and_from (nat_le 1 x.i) (nat_le x.i sort.takes) (le-leb 1 x.i found.2) (le-leb x.i sort.takes (omega (arith, takes, found.3))) in
    let last = and_from (nat_le 1 x.j) (nat_le x.j sort.gives) (le-leb 1 x.j found.4) (le-leb x.j sort.gives (omega (arith, gives, found.5))) in
    let counted : are_no_positions (slice_get d.sorts x.sort) x.i x.j ≡ false = ap (λ o. are_no_positions o x.i x.j) from.1
    ∙ ap not (and_from (is_position sort.takes x.i) (is_position sort.gives x.j) first last) in
    ap (λ at. depending s at x.i x.j) (place_again (sort_names d) x.sort differ (named_below d.sorts x.sort less))
    ∙ tested_none (depends_tests s (Some x.sort) x.i x.j) (with_depends s (Some x.sort) x.i x.j) (new, (refl, (counted, tt)))

depends_lead : (d : Declarations) (offers : List ℕ) (uses : List Using) (types : Types) (ds : List Triple) → Differ (sort_names d) → Each (IsOfSort (counts_in d)) ds → Later AreTwo ds →
    Through depends_stage (with_typing d offers uses types []) (map (depends_line (sort_names d)) ds) (with_typing d offers uses types ds)
depends_lead d offers uses types ds differ declared once =
    all_through depends_stage (depends_line (sort_names d)) (with_typing d offers uses types) ds (λ x. refl) (λ pre x post e. depends_said d offers uses types ds pre x post differ declared once e)

-- all of them

pub typing_leads : (s : Spec) → Differ (con_names s.declared) → Differ (sort_names s.declared) → TypesFit s →
    Between types_stage depends_stage (with_typing s.declared s.offers s.uses (untyped s.declared.cons s.declared.sorts) []) (typing_lines s) (with_typing s.declared s.offers s.uses s.types s.depends)
typing_leads s cons_differ sorts_differ fit =
    let d = s.declared in
    let t = s.types in
    let all = type_names t in
    let state = λ (types : Types) (ds : List Triple). with_typing d s.offers s.uses types ds in
    let none = map no_shape d.cons in
    let nothing = map no_carry d.sorts in
    let shape = shape_lines all t.shapes d.cons in
    let carry = carry_lines all t.carries d.sorts in
    let depends = map (depends_line (sort_names d)) s.depends in
    let whole = typed_by t.names t.shapes t.carries in
    let same : whole ≡ t = ap (λ b. record whole { typed = b }) (sym fit.typed) in
    subst (λ from. Between types_stage depends_stage from (typing_lines s) (state t s.depends)) (ap (λ types. state types []) (sym (untyped_is d.cons d.sorts)))
    (subst (λ types. Between types_stage depends_stage (state (typed_by [] none nothing) []) (typing_lines s) (state types s.depends)) same
    (between_both types_stage types_stage shapes_stage depends_stage (state (typed_by [] none nothing) []) (state (typed_by t.names none nothing) [])
    (state whole s.depends) (type_lines t) (shape ++ (carry ++ depends)) (omega arith)
    (types_lead d s.offers s.uses t.names fit.few_types fit.differ)
    (between_both shapes_stage shapes_stage carries_stage depends_stage (state (typed_by t.names none nothing) [])
    (state (typed_by t.names t.shapes nothing) []) (state whole s.depends) shape (carry ++ depends) (omega arith)
    (shapes_lead d s.offers s.uses t.names nothing t.shapes cons_differ fit.differ fit.shapes)
    (between_both carries_stage carries_stage depends_stage depends_stage (state (typed_by t.names t.shapes nothing) []) (state whole []) (state whole s.depends) carry depends (omega arith)
    (carries_lead d s.offers s.uses t.names t.shapes t.carries sorts_differ fit.differ fit.carries)
    (depends_lead d s.offers s.uses whole s.depends sorts_differ fit.depends fit.declared_once)))))
