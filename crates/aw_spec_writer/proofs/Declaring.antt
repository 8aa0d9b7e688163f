-- The lines of a well-formed specification lead from nothing to the specification.
use Rattle.std.proofs.Common.{◌≡◌, ℕ, zero, suc, ◌<◌, ◌≤◌, nat_eq, nat_lt, refl, sym, ap, ◌∙◌, subst, Bool, true, false, cond, not, ◌&&◌, ◌||◌, List}
use Rattle.std.proofs.Common.{[], ◌∷◌, ◌++◌, length, map, Option, Some, None, option_and_then, slice_get, arith, append_assoc, length-append}
use Rattle.std.proofs.lemmas.List.{map-append, length-map}
use Rattle.std.proofs.lemmas.Bool.{eqb-true, ne_eqb, lt-leb, le-ltb, or_from}
use Rattle.std.specs.List.{list_any}
use Rattle.aw_name_index.specs.Places.{place_of, or_else, number_of, stands}
use Rattle.aw_term.specs.Rules as P
use Rattle.aw_term.specs.Rules.{get}
use Rattle.aw_term.specs.WellFormed.{Each, Later, Differ, RuleFits, SortFits}
use Rattle.aw_term.proofs.Eaches.{each_map}
use Rattle.aw_grammar.specs.declared.rule.Con as decl
use Rattle.aw_grammar.specs.declared.rule.Sort.{Sort}
use Rattle.aw_grammar.specs.declared.raw.RawCon.{RawCon}
use Rattle.aw_grammar.specs.declared.raw.RawSort.{RawSort}
use Rattle.aw_grammar.specs.declared.fault.DeclKind.TheVariants.{Inherits}
use Rattle.aw_grammar.specs.GrammarView.{sort_of, sorts_of}
use Rattle.aw_grammar.specs.Declarations.{Entry, Declarations, con_names, sort_names, rule_names, grammar_in, with_role, with_con, sort_declared}
use Rattle.aw_grammar.specs.Declarations.{with_sort, with_start, with_start_at, with_rule, entry_of}
use Rattle.aw_grammar.specs.Kinds.{start_kind, start_kind_of, role_tests, con_tests, sort_tests}
use Rattle.aw_grammar.proofs.PlacedNames.{place_again}
use Rattle.aw_face.specs.declared.faces.Using.{Using}
use Rattle.aw_face.specs.declared.faces.FaceKind.{FaceKind}
use Rattle.aw_face.specs.Faces.{is_offered, is_used, rule_fault, at_rule, rules_fault, face_fault}
use Rattle.aw_spec.specs.declared.fault.SpecKind.TheVariants as kind
use Rattle.aw_spec.specs.Lines.{RoleLine, StartLine, FreeLine, RuleLine}
use Rattle.aw_spec.proofs.Tested.{offer_by, use_by}
use Rattle.aw_spec.specs.Placed.{offering, using_sort, using_by}
use Rattle.aw_spec.specs.Stages.{roles_stage, cons_stage, sorts_stage, starts_stage, offers_stage, uses_stage, free_stage, rules_stage}
use Rattle.aw_base.specs.declared.declared.Triple.{Triple}
use Rattle.aw_typed.specs.declared.data.Shape.{Shape}
use Rattle.aw_typed.specs.declared.data.Carry.{Carry}
use Rattle.aw_typed.specs.declared.data.Types.{Types}
use Rattle.aw_spec.specs.Reading.{Spec, no_spec, On, Wrong, with_no_shape, with_no_carry, declaring, if_kept, keeping, says}
use Rattle.aw_spec_writer.specs.SpecLines.{named_rule, con_line, sort_line, start_line, start_lines, offer_line, use_line}
use Rattle.aw_grammar.specs.Variables.{VariablesFit}
use Rattle.aw_spec_writer.specs.Writable.{VariablesNamed, AreApart}
use Rattle.aw_spec_writer.proofs.Placed.{each_mid, number_again, stands_at, new_name, place_mid}
use Rattle.aw_name_index.proofs.FirstTold.{none_told}
use Rattle.aw_spec_writer.proofs.NamedRules.{entry_again, no_fault}
use Rattle.aw_spec_writer.proofs.Leading.{Through, through_none, through_line, through_same, all_through}

-- what reading needs of declarations
pub record Fine (d : Declarations) : Type 0 where
  pub few_roles : length d.roles ≤ 64
  pub few_cons : length d.cons ≤ 1024
  pub few_sorts : length d.sorts ≤ 256
  pub few_rules : length d.rules ≤ 1024
  pub roles_differ : Differ d.roles
  pub cons_differ : Differ (con_names d)
  pub sorts_differ : Differ (sort_names d)
  pub rules_differ : Differ (rule_names d)
  pub arities : Each (λ (c : decl.Con). c.arity ≤ 8) d.cons
  pub sorts : Each (λ (s : Sort). SortFits (length d.roles) (sort_of s)) d.sorts
  pub rules : Each (λ (e : Entry). RuleFits (grammar_in d) e.rule) d.rules
  pub variables : VariablesNamed d

-- how many stand before one of some
below_all : {A : Type 0} (all pre : List A) (x : A) (post : List A) (n : ℕ) → all ≡ pre ++ x ∷ post → length all ≤ n → length pre < n
below_all all pre x post n e h = omega (arith, ap length e, length-append pre (x ∷ post))

split_names : {A : Type 0} (name : A → List ℕ) (all pre : List A) (x : A) (post : List A) → all ≡ pre ++ x ∷ post → Differ (map name all) → stands (name x) (map name pre) ≡ false
split_names name all pre x post e differ = new_name (map name pre) (name x) (map name post) (subst Differ (ap (map name) e ∙ map-append name pre (x ∷ post)) differ)

-- nothing is typed: no shape of a constructor is declared, and no carry of a sort
abbrev pub no_shape : decl.Con → Option Shape
no_shape c = None

abbrev pub no_carry : Sort → Option Carry
no_carry s = None

abbrev pub untyped : List decl.Con → List Sort → Types
untyped cons sorts = record { typed = false; names = []; shapes = map no_shape cons; carries = map no_carry sorts }

-- roles

abbrev pub with_roles : List (List ℕ) → Spec
with_roles roles = record { declared = record { roles = roles; cons = []; sorts = []; rules = [] }; offers = []; uses = []; types = untyped [] []; depends = []; free = false }

role_said : (all pre : List (List ℕ)) (x : List ℕ) (post : List (List ℕ)) → length all ≤ 64 → Differ all → all ≡ pre ++ x ∷ post → says (with_roles pre) (RoleLine x) ≡ On (with_roles (pre ++ x ∷ []))
role_said all pre x post few differ e =
    let s = with_roles pre in
    ap (λ k. declaring s k (with_role s.declared x))
    (none_told (role_tests s.declared x) (lt-leb 64 (length pre) (below_all all pre x post 64 e few), (new_name pre x post (subst Differ e differ), tt)))

pub roles_lead : (roles : List (List ℕ)) → length roles ≤ 64 → Differ roles → Through roles_stage no_spec (map (λ name. RoleLine name) roles) (with_roles roles)
roles_lead roles few differ = all_through roles_stage (λ name. RoleLine name) with_roles roles (λ x. refl) (λ pre x post e. role_said roles pre x post few differ e)

-- constructors

abbrev pub with_cons : List (List ℕ) → List decl.Con → Spec
with_cons roles cons = record { declared = record { roles = roles; cons = cons; sorts = []; rules = [] }; offers = []; uses = []; types = untyped cons []; depends = []; free = false }

con_said : (roles : List (List ℕ)) (all pre : List decl.Con) (c : decl.Con) (post : List decl.Con) → length all ≤ 1024 →
    Differ (map (λ (k : decl.Con). k.name) all) → Each (λ (k : decl.Con). k.arity ≤ 8) all → all ≡ pre ++ c ∷ post →
    says (with_cons roles pre) (con_line c) ≡ On (with_cons roles (pre ++ c ∷ []))
con_said roles all pre c post few differ small e =
    let s = with_cons roles pre in
    let raw : RawCon = record { name = c.name; arity = c.arity } in
    ap (λ k. declaring (with_no_shape s) k (with_con s.declared raw))
    (none_told (con_tests s.declared raw) (
      or_from _ _ (lt-leb 1024 (length pre) (below_all all pre c post 1024 e few))
          (le-ltb 8 c.arity (each_mid (λ (k : decl.Con). k.arity ≤ 8) pre c post (subst (Each (λ (k : decl.Con). k.arity ≤ 8)) e small))),
      (split_names (λ (k : decl.Con). k.name) all pre c post e differ, tt),
    ))
    ∙ ap (λ os. On (record (with_cons roles (pre ++ c ∷ [])) { types = record (untyped [] []) { shapes = os } })) (sym (map-append no_shape pre (c ∷ [])))

pub cons_lead : (roles : List (List ℕ)) (cons : List decl.Con) → length cons ≤ 1024 → Differ (map (λ (k : decl.Con). k.name) cons) →
    Each (λ (k : decl.Con). k.arity ≤ 8) cons → Through cons_stage (with_roles roles) (map con_line cons) (with_cons roles cons)
cons_lead roles cons few differ small = all_through cons_stage con_line (with_cons roles) cons (λ c. refl) (λ pre c post e. con_said roles cons pre c post few differ small e)

-- sorts, which are no start sorts at first

abbrev pub unstarted : Sort → Sort
unstarted s = record s { start = false }

abbrev pub with_sorts : List (List ℕ) → List decl.Con → List Sort → Spec
with_sorts roles cons sorts = record { declared = record { roles = roles; cons = cons; sorts = sorts; rules = [] }; offers = []; uses = []; types = untyped cons sorts; depends = []; free = false }

names_unstarted : (sorts : List Sort) → map (λ (s : Sort). s.name) (map unstarted sorts) ≡ map (λ (s : Sort). s.name) sorts
names_unstarted [] = refl
names_unstarted (s ∷ sorts) = ap (λ ns. s.name ∷ ns) (names_unstarted sorts)

sort_said : (roles : List (List ℕ)) (cons : List decl.Con) (all pre : List Sort) (s : Sort) (post : List Sort) → Differ roles → length all ≤ 256 →
    Differ (map (λ (t : Sort). t.name) all) → Each (λ (t : Sort). SortFits (length roles) (sort_of t)) all → all ≡ pre ++ s ∷ post →
    says (with_sorts roles cons (map unstarted pre)) (sort_line roles s) ≡ On (with_sorts roles cons (map unstarted (pre ++ s ∷ [])))
sort_said roles cons all pre s post roles_differ few differ fit e =
    let at = with_sorts roles cons (map unstarted pre) in
    let raw : RawSort = record { name = s.name; role = get [] roles s.role; takes = s.takes; gives = s.gives } in
    let fits = each_mid (λ (t : Sort). SortFits (length roles) (sort_of t)) pre s post (subst (Each (λ (t : Sort). SortFits (length roles) (sort_of t))) e fit) in
    let few_before : length (map unstarted pre) < 256 = omega (arith, length-map pre unstarted, below_all all pre s post 256 e few) in
    ap (λ k. declaring (with_no_carry at) k (with_sort at.declared raw))
    (none_told (sort_tests at.declared raw) (
      or_from _ _ (lt-leb 256 (length (map unstarted pre)) few_before) (or_from _ _ (le-ltb 8 s.takes fits.few_takes) (le-ltb 8 s.gives fits.few_gives)),
      (
        ap (stands s.name) (names_unstarted pre) ∙ split_names (λ (t : Sort). t.name) all pre s post e differ,
        (ap not (stands_at roles s.role roles_differ fits.declared), tt),
      ),
    ))
    ∙ ap (λ ks. On (record (with_sorts roles cons (map unstarted pre ++ sort_declared at.declared raw ∷ []))
    { types = record (untyped cons []) { carries = ks } })) (sym (map-append no_carry (map unstarted pre) (sort_declared at.declared raw ∷ [])))
    ∙ ap (λ r. On (with_sorts roles cons (map unstarted pre ++ record {
      name = s.name;
      role = r;
      takes = s.takes;
      gives = s.gives;
      start =
          false;
    } ∷ []))) (number_again roles s.role roles_differ fits.declared)
    ∙ ap (λ ss. On (with_sorts roles cons ss)) (sym (map-append unstarted pre (s ∷ [])))

pub sorts_lead : (roles : List (List ℕ)) (cons : List decl.Con) (sorts : List Sort) → Differ roles → length sorts ≤ 256 →
    Differ (map (λ (t : Sort). t.name) sorts) → Each (λ (t : Sort). SortFits (length roles) (sort_of t)) sorts →
    Through sorts_stage (with_cons roles cons) (map (sort_line roles) sorts) (with_sorts roles cons (map unstarted sorts))
sorts_lead roles cons sorts roles_differ few differ fit =
    all_through sorts_stage (sort_line roles) (λ pre. with_sorts roles cons (map unstarted pre)) sorts (λ s. refl) (λ pre s post e. sort_said roles cons sorts pre s post roles_differ few differ fit e)

-- starts

abbrev partly : List (List ℕ) → List decl.Con → List Sort → List Sort → Spec
partly roles cons done left = with_sorts roles cons (done ++ map unstarted left)

get_mid : (pre : List Sort) (s : Sort) (post : List Sort) → slice_get (pre ++ s ∷ post) (length pre) ≡ Some s
get_mid [] s post = refl
get_mid (t ∷ pre) s post = get_mid pre s post

started_mid : (pre : List Sort) (s : Sort) (post : List Sort) → with_start_at (pre ++ s ∷ post) (length pre) ≡ pre ++ record s { start = true } ∷ post
started_mid [] s post = refl
started_mid (t ∷ pre) s post = ap (λ ss. t ∷ ss) (started_mid pre s post)

-- which sorts are start sorts does not matter to carries
uncarried : (sorts : List Sort) (i : ℕ) → map no_carry (with_start_at sorts i) ≡ map no_carry sorts
uncarried [] i = refl
uncarried (s ∷ sorts) zero = refl
uncarried (s ∷ sorts) (suc i) = ap (λ ks. None ∷ ks) (uncarried sorts i)

start_said : (roles : List (List ℕ)) (cons : List decl.Con) (done : List Sort) (s : Sort) (left : List Sort) → stands s.name (map (λ (t : Sort). t.name) done) ≡ false → s.takes ≡ 0 → s.start ≡ true →
    says (partly roles cons done (s ∷ left)) (StartLine s.name) ≡ On (partly roles cons (done ++ s ∷ []) left)
start_said roles cons done s left new none started =
    let at = partly roles cons done (s ∷ left) in
    let rest = map unstarted left in
    let sorts = done ++ unstarted s ∷ rest in
    let name = λ (t : Sort). t.name in
    let placed : place_of s.name (map name sorts) ≡ Some (length done) =
    ap (place_of s.name) (map-append name done (unstarted s ∷ rest)) ∙ place_mid (map name done) s.name (map name rest) new ∙ ap Some (length-map done name) in
    let kept : start_kind at.declared s.name ≡ None =
    ap (λ o. start_kind_of (option_and_then (λ i. slice_get sorts i) o)) placed ∙ ap start_kind_of (get_mid done (unstarted s) rest) ∙ ap (λ n. cond (nat_lt 0 n) (Some Inherits) None) none in
    ap (λ k. declaring at k (with_start at.declared s.name)) kept
    ∙ ap (λ ks. On (record (with_sorts roles cons (with_start at.declared s.name).sorts) { types = record (untyped cons []) { carries = ks } }))
    (sym (uncarried sorts (number_of s.name (map name sorts))))
    ∙ ap (λ i. On (with_sorts roles cons (with_start_at sorts i))) (ap (or_else (length (map name sorts))) placed)
    ∙ ap (λ ss. On (with_sorts roles cons ss)) (started_mid done (unstarted s) rest)
    ∙ ap (λ b. On (with_sorts roles cons (done ++ record s { start = b } ∷ rest))) (sym started)
    ∙ ap (λ ss. On (with_sorts roles cons ss)) (sym (append_assoc done (s ∷ []) rest))

start_leads : (roles : List (List ℕ)) (cons : List decl.Con) (done : List Sort) (s : Sort) (left : List Sort) →
    stands s.name (map (λ (t : Sort). t.name) done) ≡ false → SortFits (length roles) (sort_of s) → (b : Bool) → s.start ≡ b →
    Through starts_stage (partly roles cons done (s ∷ left)) (cond b (StartLine s.name ∷ []) []) (partly roles cons (done ++ s ∷ []) left)
start_leads roles cons done s left new fits true e =
    through_line starts_stage (partly roles cons done (s ∷ left)) (partly roles cons (done ++ s ∷ []) left) (StartLine s.name) refl (start_said roles cons done s left new (fits.start e) e)
start_leads roles cons done s left new fits false e =
    subst (λ t. Through starts_stage (partly roles cons done (s ∷ left)) [] t) same (through_none starts_stage (partly roles cons done (s ∷ left)))
  where
    same : partly roles cons done (s ∷ left) ≡ partly roles cons (done ++ s ∷ []) left
    same =
        ap (λ b. with_sorts roles cons (done ++ record s { start = b } ∷ map unstarted left)) (sym e)
        ∙ ap (λ ss. with_sorts roles cons ss) (sym (append_assoc done (s ∷ []) (map unstarted left)))

pub starts_lead : (roles : List (List ℕ)) (cons : List decl.Con) (sorts : List Sort) → Differ (map (λ (t : Sort). t.name) sorts) → Each (λ (t : Sort). SortFits (length roles) (sort_of t)) sorts →
    Through starts_stage (with_sorts roles cons (map unstarted sorts)) (start_lines sorts) (with_sorts roles cons sorts)
starts_lead roles cons sorts differ fit = go [] sorts refl
  where
    go : (done left : List Sort) → sorts ≡ done ++ left → Through starts_stage (partly roles cons done left) (start_lines left) (with_sorts roles cons sorts)
    go done [] e = subst (λ ss. Through starts_stage (partly roles cons done []) [] (with_sorts roles cons ss)) (sym e) (through_none starts_stage (partly roles cons done []))
    go done (s ∷ left) e =
        through_same 4 (partly roles cons done (s ∷ left)) (partly roles cons (done ++ s ∷ []) left) (with_sorts roles cons sorts) (start_line s) (start_lines left)
        (start_leads roles cons done s left (split_names (λ (t : Sort). t.name) sorts done s left e differ)
        (each_mid (λ (t : Sort). SortFits (length roles) (sort_of t)) done s left
        (subst (Each (λ (t : Sort). SortFits (length roles) (sort_of t))) e fit)) s.start refl)
        (go (done ++ s ∷ []) left (e ∙ sym (append_assoc done (s ∷ []) left)))

-- offers

abbrev pub with_offers : Declarations → List ℕ → Spec
with_offers d offers = record { declared = record d { rules = [] }; offers = offers; uses = []; types = untyped d.cons d.sorts; depends = []; free = false }

-- a test that fails for each
pub none_any : {A : Type 0} (p : A → Bool) (xs : List A) → Each (λ x. p x ≡ false) xs → list_any p xs ≡ false
none_any p [] each = refl
none_any p (x ∷ xs) each = ap (λ b. b || list_any p xs) each.0 ∙ none_any p xs each.1

-- those before one are related to it
pub before_mid : {A : Type 0} (R : A → A → Type 0) (pre : List A) (x : A) (post : List A) → Later R (pre ++ x ∷ post) → Each (λ a. R a x) pre
before_mid R [] x post later = tt
before_mid R (y ∷ pre) x post later = (each_mid (R y) pre x post later.0, before_mid R pre x post later.1)

pub named_below : (sorts : List Sort) (i : ℕ) → i < length sorts → i < length (map (λ (s : Sort). s.name) sorts)
named_below sorts i h = omega (arith, h, length-map sorts (λ (s : Sort). s.name))

offer_said : (d : Declarations) (all pre : List ℕ) (o : ℕ) (post : List ℕ) → Differ (sort_names d) → Each (λ sort. sort < length d.sorts) all → Later (λ a b. a ≡ b → ⊥) all → all ≡ pre ++ o ∷ post →
    says (with_offers d pre) (offer_line (sort_names d) o) ≡ On (with_offers d (pre ++ o ∷ []))
offer_said d all pre o post differ declared once e =
    let s = with_offers d pre in
    let less = each_mid (λ sort. sort < length d.sorts) pre o post (subst (Each (λ sort. sort < length d.sorts)) e declared) in
    let new : is_offered o pre ≡ false = none_any (λ a. nat_eq a o) pre (each_map (λ a. a ≡ o → ⊥) (λ a. nat_eq a o ≡ false) pre (λ a h. ne_eqb a o h)
    (before_mid (λ a b. a ≡ b → ⊥) pre o post (subst (Later (λ a b. a ≡ b → ⊥)) e once))) in
    offer_by s (get [] (sort_names d) o)
    ∙ ap (offering s) (place_again (sort_names d) o differ (named_below d.sorts o less))
    ∙ ap (λ b. cond b (Wrong kind.Double) (On (with_offers d (pre ++ o ∷ [])))) new

pub offers_lead : (d : Declarations) (offers : List ℕ) → Differ (sort_names d) → Each (λ sort. sort < length d.sorts) offers → Later (λ a b. a ≡ b → ⊥) offers →
    Through offers_stage (with_sorts d.roles d.cons d.sorts) (map (offer_line (sort_names d)) offers) (with_offers d offers)
offers_lead d offers differ declared once = all_through offers_stage (offer_line (sort_names d)) (with_offers d) offers (λ o. refl)
    (λ pre o post e. offer_said d offers pre o post differ declared once e)

-- uses

abbrev pub with_uses : Declarations → List ℕ → List Using → Spec
with_uses d offers uses = record { declared = record d { rules = [] }; offers = offers; uses = uses; types = untyped d.cons d.sorts; depends = []; free = false }

abbrev IsDeclaredUse : Declarations → Using → Type 0
IsDeclaredUse d u = (u.role < length d.roles) × (u.sort < length d.sorts)

other_use : (u v : Using) → AreApart u v → (nat_eq u.role v.role && nat_eq u.sort v.sort) ≡ false
other_use u v h = by_test (nat_eq u.role v.role) refl
  where
    by_test : (t : Bool) → nat_eq u.role v.role ≡ t → (nat_eq u.role v.role && nat_eq u.sort v.sort) ≡ false
    by_test true e = ap (λ b. b && nat_eq u.sort v.sort) e ∙ ne_eqb u.sort v.sort (h (eqb-true u.role v.role e))
    by_test false e = ap (λ b. b && nat_eq u.sort v.sort) e

use_said : (d : Declarations) (offers : List ℕ) (all pre : List Using) (u : Using) (post : List Using) → Differ d.roles → Differ (sort_names d) →
    Each (IsDeclaredUse d) all → Later AreApart all → all ≡ pre ++ u ∷ post →
    says (with_uses d offers pre) (use_line d.roles (sort_names d) u) ≡ On (with_uses d offers (pre ++ u ∷ []))
use_said d offers all pre u post roles_differ differ declared once e =
    let s = with_uses d offers pre in
    let less = each_mid (IsDeclaredUse d) pre u post (subst (Each (IsDeclaredUse d)) e declared) in
    let new : is_used u.role u.sort pre ≡ false =
    none_any (λ (v : Using). nat_eq v.role u.role && nat_eq v.sort u.sort) pre
    (each_map (λ v. AreApart v u) (λ v. (nat_eq v.role u.role && nat_eq v.sort u.sort) ≡ false) pre (λ v h. other_use v u h) (before_mid AreApart pre u post (subst (Later AreApart) e once))) in
    use_by s (get [] d.roles u.role) (get [] (sort_names d) u.sort)
    ∙ ap (λ o. using_by s o (place_of (get [] (sort_names d) u.sort) (sort_names d))) (place_again d.roles u.role roles_differ less.0)
    ∙ ap (using_sort s u.role) (place_again (sort_names d) u.sort differ (named_below d.sorts u.sort less.1))
    ∙ ap (λ b. cond b (Wrong kind.Double) (On (with_uses d offers (pre ++ u ∷ [])))) new

pub uses_lead : (d : Declarations) (offers : List ℕ) (uses : List Using) → Differ d.roles → Differ (sort_names d) → Each (IsDeclaredUse d) uses → Later AreApart uses →
    Through uses_stage (with_offers d offers) (map (use_line d.roles (sort_names d)) uses) (with_uses d offers uses)
uses_lead d offers uses roles_differ differ declared once = all_through uses_stage (use_line d.roles (sort_names d)) (with_uses d offers) uses
    (λ u. refl) (λ pre u post e. use_said d offers uses pre u post roles_differ differ declared once e)

-- types and dependences, and then the line `free`

abbrev pub with_typing : Declarations → List ℕ → List Using → Types → List Triple → Spec
with_typing d offers uses types depends = record { declared = record d { rules = [] }; offers = offers; uses = uses; types = types; depends = depends; free = false }

abbrev pub with_rules : Spec → List Entry → Spec
with_rules s rules = record s { declared = record s.declared { rules = rules } }

pub free_leads : (s : Spec) (free : Bool) → s.free ≡ free → Through free_stage (with_typing s.declared s.offers s.uses s.types s.depends) (cond free (FreeLine ∷ []) []) (with_rules s [])
free_leads s true e =
    let from = with_typing s.declared s.offers s.uses s.types s.depends in
    through_line free_stage from (with_rules s []) FreeLine refl (ap (λ b. On (record from { free = b })) (sym e))
free_leads s false e =
    let from = with_typing s.declared s.offers s.uses s.types s.depends in
    subst (λ b. Through free_stage from [] (record from { free = b })) (sym e) (through_none free_stage from)

-- rules

-- no rule is at fault where none of all is
no_rule_fault : (sorts : List P.Sort) (offers : List ℕ) (uses : List Using) (i : ℕ) (pre : List Entry) (e : Entry) (post : List Entry) →
    rules_fault sorts offers uses i (map (λ (x : Entry). x.rule) (pre ++ e ∷ post)) ≡ None → rule_fault sorts offers uses e.rule ≡ None
no_rule_fault sorts offers uses i [] e post h = here (rule_fault sorts offers uses e.rule) h
  where
    here : (o : Option (ℕ × FaceKind)) → at_rule i o (rules_fault sorts offers uses (suc i) (map (λ (x : Entry). x.rule) post)) ≡ None → o ≡ None
    here None k = refl
    here (Some fault) k = cc
no_rule_fault sorts offers uses i (x ∷ pre) e post h = no_rule_fault sorts offers uses (suc i) pre e post (later (rule_fault sorts offers uses x.rule) h)
  where
    later : (o : Option (ℕ × FaceKind)) → at_rule i o (rules_fault sorts offers uses (suc i) (map (λ (y : Entry). y.rule) (pre ++ e ∷ post))) ≡ None →
        rules_fault sorts offers uses (suc i) (map (λ (y : Entry). y.rule) (pre ++ e ∷ post)) ≡ None
    later None k = k
    later (Some fault) k = cc

rule_said : (s : Spec) → Fine s.declared → face_fault (grammar_in s.declared) s.offers s.uses ≡ None → (pre : List Entry) (e : Entry) (post : List Entry) → s.declared.rules ≡ pre ++ e ∷ post →
    says (with_rules s pre) (RuleLine (named_rule (con_names s.declared) (sort_names s.declared) e)) ≡ On (with_rules s (pre ++ e ∷ []))
rule_said s fine kept pre e post all =
    let d = s.declared in
    let before = record d { rules = pre } in
    let at = with_rules s pre in
    let w = named_rule (con_names d) (sort_names d) e in
    let fits_all = each_mid (λ (x : Entry). RuleFits (grammar_in d) x.rule) pre e post (subst (Each (λ (x : Entry). RuleFits (grammar_in d) x.rule)) all fine.rules) in
    let fits : RuleFits (grammar_in before) e.rule = other_rules d pre e.rule fits_all in
    let vars = each_mid (λ (x : Entry). VariablesFit (con_names d) x.vars x.rule) pre e post (subst (Each (λ (x : Entry). VariablesFit (con_names d) x.vars x.rule)) all fine.variables) in
    let few : length pre < 1024 = below_all d.rules pre e post 1024 all fine.few_rules in
    let new = split_names (λ (x : Entry). x.name) d.rules pre e post all fine.rules_differ in
    let same : entry_of before w ≡ e = entry_again before e fine.cons_differ fine.sorts_differ fits vars in
    let fault : rule_fault (sorts_of d.sorts) s.offers s.uses e.rule ≡ None = no_rule_fault (sorts_of d.sorts) s.offers s.uses 0 pre e post
    (ap (λ rs. rules_fault (sorts_of d.sorts) s.offers s.uses 0 (map (λ (x : Entry). x.rule) rs)) (sym all) ∙ kept) in
    ap (λ k. keeping at w (declaring at k (with_rule before w))) (no_fault before e fine.cons_differ fine.sorts_differ fine.sorts fits vars few new)
    ∙ ap (λ x. if_kept (with_rules s (pre ++ x ∷ [])) (rule_fault (sorts_of d.sorts) s.offers s.uses x.rule)) same
    ∙ ap (if_kept (with_rules s (pre ++ e ∷ []))) fault
  where
    other_rules : (d : Declarations) (rules : List Entry) (r : P.Rule) → RuleFits (grammar_in d) r → RuleFits (grammar_in (record d { rules = rules })) r
    other_rules d rules r f = record {
      declared = f.declared;
      takes = f.takes;
      gives = f.gives;
      few_params = f.few_params;
      few_children = f.few_children;
      few_variables = f.few_variables;
      few_symbols = f.few_symbols;
      numbered = f.numbered;
      patterns = f.patterns;
      results = f.results;
      enter = f.enter;
      children = each_map _ _ r.children (λ c h. record { declared = h.declared; takes = h.takes; gives = h.gives; terms = h.terms; enter = h.enter }) f.children;
    }

pub rules_lead : (s : Spec) → Fine s.declared → face_fault (grammar_in s.declared) s.offers s.uses ≡ None →
    Through rules_stage (with_rules s []) (map (λ (e : Entry). RuleLine (named_rule (con_names s.declared) (sort_names s.declared) e)) s.declared.rules) (with_rules s s.declared.rules)
rules_lead s fine kept = all_through rules_stage (λ (e : Entry). RuleLine (named_rule (con_names s.declared) (sort_names s.declared) e))
    (with_rules s) s.declared.rules (λ e. refl) (λ pre e post all. rule_said s fine kept pre e post all)
