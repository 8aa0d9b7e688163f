-- The name of a node is read from any of its steps on.
use Rattle.std.proofs.Common.{◌≡◌, ℕ, zero, suc, ◌+◌, ◌-◌, ◌≤◌, ◌<◌, refl, sym, ap, subst, ◌∙◌, inl, inr, Bool, true, false, cond, ◌==◌, List, [], ◌∷◌}
use Rattle.std.proofs.Common.{◌++◌, length, take, drop, get_or, slice_get, Option, Some, None, option_map, option_and_then, count_by, arith, add-one}
use Rattle.std.proofs.Common.{length-append}
use Rattle.std.specs.List.{slice_split, onto_first}
use Rattle.std.proofs.lemmas.List.{length-take, length-take-le, take_all, take-take, take-append-le, take-append-drop, drop-take}
use Rattle.std.proofs.lemmas.List.Sums.{sum_by-take-le}
use Rattle.std.proofs.lemmas.Bool.{cases_lt}
use Rattle.std.proofs.lemmas.Option.{slice_get_within}
use Rattle.std.proofs.lemmas.List.Splits.{slice_split-cons_yes, length-slice_split}
use Rattle.aw_spelling.specs.Spelling.{parts, steps_of, step_of, name_from, start_of, parts_of_name}
use Rattle.aw_term.specs.Names.{Step, Node}
use Rattle.aw_term.specs.Rules.{Grammar, sort_of_step, sort_after}
use Rattle.aw_term.specs.Artifacts.{Words}
use Rattle.aw_grammar.specs.Named.{number_named}
use Rattle.aw_base.specs.NodeNames.{Named, steps_named, misfit_or, first_misfit, fitted, with_parts, node_read}
use Rattle.aw_base.specs.NodeReading.{start_named, steps_behind}
use Rattle.aw_base.specs.ReadFronts.{IsNamed, AreReadFronts, IsLast, GoesOn, WithinCommon}
use Rattle.aw_base.specs.declared.node_reader.Front.{Front}
use Rattle.aw_base.proofs.ItemsAt.{in_front, pushed}
use Rattle.aw_base.proofs.NodeReads.{all_declared, length_named, slashes_are_steps}

onto_join : {X : Type 0} (x : X) (ps qs : List (List X)) → 0 < length ps → onto_first x (ps ++ qs) ≡ onto_first x ps ++ qs
onto_join x [] qs h = absurd (omega (arith, h))
onto_join x (p ∷ ps) qs h = refl

-- what a mark parts is split into the parts before it and those behind it
split_join : {X : Type 0} (p : X → Bool) (a : List X) (m : X) (b : List X) → p m ≡ true → slice_split p (a ++ m ∷ b) ≡ slice_split p a ++ slice_split p b
split_join p [] m b e = slice_split-cons_yes p m b e
split_join p (x ∷ a) m b e =
    let some : 0 < length (slice_split p a) = omega (arith, length-slice_split p a) in
    ap (λ ps. cond (p x) ([] ∷ ps) (onto_first x ps)) (split_join p a m b e) ∙ by (p x) some
  where
    by : (c : Bool) → 0 < length (slice_split p a)
        → cond c ([] ∷ (slice_split p a ++ slice_split p b)) (onto_first x (slice_split p a ++ slice_split p b)) ≡ cond c ([] ∷ slice_split p a) (onto_first x (slice_split p a)) ++ slice_split p b
    by true some = refl
    by false some = onto_join x (slice_split p a) (slice_split p b) some

-- a list that is found item by item, where more items follow
more_found : {A B : Type 0} (make : A → B) (o : Option A) (found longer : Option (List B)) (s t : List B)
    → option_and_then (λ x. option_map (λ ss. make x ∷ ss) found) o ≡ Some s
    → ((u : List B) → found ≡ Some u → longer ≡ Some (u ++ t))
    → option_and_then (λ x. option_map (λ ss. make x ∷ ss) longer) o ≡ Some (s ++ t)
more_found make None found longer s t e deeper = cc
more_found make (Some x) None longer s t e deeper = cc
more_found make (Some x) (Some u) longer s t e deeper =
    let same : make x ∷ u ≡ s = cc in
    ap (option_map (λ ss. make x ∷ ss)) (deeper u refl) ∙ ap (λ l. Some (l ++ t)) same

steps_join : (ps qs : List (List ℕ)) (s t : List (List ℕ × ℕ)) → steps_of ps ≡ Some s → steps_of qs ≡ Some t → steps_of (ps ++ qs) ≡ Some (s ++ t)
steps_join [] qs [] t e f = f
steps_join [] qs (x ∷ s) t e f = cc
steps_join (p ∷ ps) qs s t e f =
    more_found (λ (x : List ℕ × ℕ). x) (step_of p) (steps_of ps) (steps_of (ps ++ qs)) s t e (λ u d. steps_join ps qs u t d f)

named_join : (w : Words) (ps qs : List (List ℕ × ℕ)) (s t : List Step) → steps_named w ps ≡ Some s → steps_named w qs ≡ Some t → steps_named w (ps ++ qs) ≡ Some (s ++ t)
named_join w [] qs [] t e f = f
named_join w [] qs (x ∷ s) t e f = cc
named_join w (p ∷ ps) qs s t e f =
    more_found (λ (r : ℕ). let step : Step = record { rule = r; child = p.1 } in step) (number_named w.rules p.0) (steps_named w ps) (steps_named w (ps ++ qs)) s t e
    (λ u d. named_join w ps qs u t d f)

sort_join : (g : Grammar) (s : ℕ) (steps more : List Step) (t : ℕ) → sort_after g s steps ≡ Some t → sort_after g s (steps ++ more) ≡ sort_after g t more
sort_join g s [] more t e = let same : s ≡ t = cc in ap (λ k. sort_after g k more) same
sort_join g s (x ∷ steps) more t e = by (sort_of_step g s x) e (λ k. sort_join g k steps more t)
  where
    by : (o : Option ℕ) → option_and_then (λ k. sort_after g k steps) o ≡ Some t
        → ((k : ℕ) → sort_after g k steps ≡ Some t → sort_after g k (steps ++ more) ≡ sort_after g t more)
        → option_and_then (λ k. sort_after g k (steps ++ more)) o ≡ sort_after g t more
    by None e deeper = cc
    by (Some k) e deeper = deeper k e

abbrev Parts : Type 0
Parts = List ℕ × ℕ × List (List ℕ × ℕ)

name_join : (ps qs : List (List ℕ)) (name : List ℕ) (case : ℕ) (s t : List (List ℕ × ℕ)) → name_from ps ≡ Some (name, case, s) → steps_of qs ≡ Some t
    → name_from (ps ++ qs) ≡ Some (name, case, s ++ t)
name_join [] qs name case s t e f = cc
name_join (p ∷ ps) qs name case s t e f = by (start_of p) (steps_of ps) e (λ u d. steps_join ps qs u t d f)
  where
    by : (first : Option (List ℕ × ℕ)) (found : Option (List (List ℕ × ℕ)))
        → option_and_then (λ (start : List ℕ × ℕ). option_map (λ (l : List (List ℕ × ℕ)). let parts : Parts = (start.0, start.1, l) in parts) found) first ≡ Some (name, case, s)
        → ((u : List (List ℕ × ℕ)) → found ≡ Some u → steps_of (ps ++ qs) ≡ Some (u ++ t))
        → option_and_then (λ (start : List ℕ × ℕ). option_map (λ (l : List (List ℕ × ℕ)). let parts : Parts = (start.0, start.1, l) in parts) (steps_of (ps ++ qs))) first
        ≡ Some (name, case, s ++ t)
    by None found e deeper = cc
    by (Some x) None e deeper = cc
    by (Some x) (Some u) e deeper =
        let here : Parts = (x.0, x.1, u) in
        let there : Parts = (name, case, s) in
        let same : here ≡ there = cc in
        ap (option_map (λ (l : List (List ℕ × ℕ)). let parts : Parts = (x.0, x.1, l) in parts)) (deeper u refl)
        ∙ ap (λ (p : Parts). let parts : Parts = (p.0, p.1, p.2 ++ t) in Some parts) same

-- behind the name of a node and a slash, steps that fit name the node to which they lead from there
pub leads_to : (w : Words) (g : Grammar) (a b : List ℕ) (start case : ℕ) (steps : List Step) (sort : ℕ) (more : List Step) (next : ℕ)
    → IsNamed w g a start case steps sort → steps_behind w (Some b) ≡ Some more → sort_after g sort more ≡ Some next
    → IsNamed w g (a ++ 47 ∷ b) start case (steps ++ more) next
leads_to w g a b start case steps sort more next h e f = by (steps_of (parts b)) refl e
  where
    by : (found : Option (List (List ℕ × ℕ))) → steps_of (parts b) ≡ found → option_and_then (steps_named w) found ≡ Some more → IsNamed w g (a ++ 47 ∷ b) start case (steps ++ more) next
    by None d e = absurd cc
    by (Some t) d e = record {
      name = h.name;
      trail = h.trail ++ t;
      spelled = ap name_from (split_join (λ c. c == 47) a 47 b refl) ∙ name_join (parts a) (parts b) h.name case h.trail t h.spelled d;
      begun = h.begun;
      stepped = named_join w h.trail t steps more h.stepped e;
      sorted = sort_join g start steps more sort h.sorted ∙ f;
    }

-- where a sort follows all steps, each of them fits
each_fits : (g : Grammar) (at s : ℕ) (steps : List Step) (t : ℕ) → sort_after g s steps ≡ Some t → first_misfit g at s steps ≡ None
each_fits g at s [] t e = refl
each_fits g at s (x ∷ steps) t e = by (sort_of_step g s x) e (λ k. each_fits g (at + 1) k steps t)
  where
    by : (o : Option ℕ) → option_and_then (λ k. sort_after g k steps) o ≡ Some t → ((k : ℕ) → sort_after g k steps ≡ Some t → first_misfit g (at + 1) k steps ≡ None)
        → misfit_or at (λ k. first_misfit g (at + 1) k steps) o ≡ None
    by None e deeper = absurd cc
    by (Some k) e deeper = deeper k e

-- what is named by a text of few steps is read of it
pub read_whole : (w : Words) (g : Grammar) (text : List ℕ) (start case : ℕ) (steps : List Step) (sort : ℕ) → IsNamed w g text start case steps sort → length steps ≤ 250
    → node_read w g text ≡ Named (record { start = start; case = case; steps = steps })
read_whole w g text start case steps sort h few =
    let short : length h.trail ≤ 250 = omega (arith, few, length_named w h.trail steps h.stepped) in
    let n : Node = record { start = start; case = case; steps = steps } in
    ap (with_parts w g) h.spelled ∙ all_declared w g h.name case start (Some h.trail) steps short h.begun h.stepped ∙ ap (fitted n) (each_fits g 0 start steps sort h.sorted)

-- a name has as many slashes as steps
slashes : (w : Words) (g : Grammar) (text : List ℕ) (start case : ℕ) (steps : List Step) (sort : ℕ) → IsNamed w g text start case steps sort → count_by (λ b. b == 47) text ≡ length steps
slashes w g text start case steps sort h = sym (slashes_are_steps text (h.name, case, h.trail) h.spelled) ∙ sym (length_named w h.trail steps h.stepped)

-- a text has no more slashes before the nearer of two places
fewer : (text : List ℕ) (a b : ℕ) → a ≤ b → count_by (λ c. c == 47) (take a text) ≤ count_by (λ c. c == 47) (take b text)
fewer text a b h =
    let same = ap (count_by (λ (c : ℕ). c == 47)) (take-take a b text h) in
    omega (arith, same, sum_by-take-le (λ (c : ℕ). cond (c == 47) 1 0) (take b text) a)

-- each place in a list has something
has : {A : Type 0} (xs : List A) (k : ℕ) → k < length xs → (x : A) × (slice_get xs k ≡ Some x)
has [] k h = absurd (omega (arith, h))
has (x ∷ xs) zero h = (x, refl)
has (x ∷ xs) (suc k) h = has xs k (omega (arith, h))

-- a later front ends no earlier: up to there stand more slashes
rising : (w : Words) (g : Grammar) (text : List ℕ) (start case : ℕ) (steps : List Step) (fronts : List Front) → AreReadFronts w g text start case steps fronts
    → (k m : ℕ) (f e : Front) → slice_get fronts k ≡ Some f → slice_get fronts m ≡ Some e → k ≤ m → f.end ≤ e.end
rising w g text start case steps fronts h k m f e p q l = elim (cases_lt e.end f.end) as (λ _. f.end ≤ e.end) [ inl less ↦ nearer less | inr more ↦ more ]
  where
    nearer : e.end < f.end → f.end ≤ e.end
    nearer less =
        let few = fewer text e.end f.end (omega (arith, less)) in
        let a = slashes w g (take f.end text) start case (take k steps) f.sort (h.each k f p) in
        let b = slashes w g (take e.end text) start case (take m steps) e.sort (h.each m e q) in
        let c = length-take-le k steps (omega (arith, l, slice_get_within fronts m e q, h.paired)) in
        let d = length-take-le m steps (omega (arith, slice_get_within fronts m e q, h.paired)) in
        let same : k ≡ m = omega (arith, few, a, b, c, d, l) in
        let one : Some f ≡ Some e = sym p ∙ ap (slice_get fronts) same ∙ q in
        let alike : f ≡ e = cc in
        omega (arith, ap (λ (x : Front). x.end) alike)

-- the fronts within the bytes that two texts have in common are fronts of the other one too
pub fronts_kept : (w : Words) (g : Grammar) (old new : List ℕ) (start case : ℕ) (steps : List Step) (fronts : List Front) (common kept : ℕ) → AreReadFronts w g old start case steps fronts
    → kept ≤ length fronts → WithinCommon fronts common kept → take common new ≡ take common old → AreReadFronts w g new start case (take (kept - 1) steps) (take kept fronts)
fronts_kept w g old new start case steps fronts common kept h few within same = record {
  each = λ k f e. let at = in_front kept fronts k f e in
      let short : f.end ≤ common = near k f at.0 at.1 in
      let a : take k (take (kept - 1) steps) ≡ take k steps = take-take k (kept - 1) steps (omega (arith, at.1)) in
      let b : take f.end new ≡ take f.end old = sym (take-take f.end common new short) ∙ ap (take f.end) same ∙ take-take f.end common old short in
      subst (λ ss. IsNamed w g (take f.end new) start case ss f.sort) (sym a) (subst (λ t. IsNamed w g t start case (take k steps) f.sort) (sym b) (h.each k f at.0));
  few = omega (arith, h.few, length-take (kept - 1) steps);
  paired = omega (arith, h.paired, few, length-take (kept - 1) steps, length-take kept fronts);
}
  where
    near : (k : ℕ) (f : Front) → slice_get fronts k ≡ Some f → k < kept → f.end ≤ common
    near k f e l =
        let last = has fronts (kept - 1) (omega (arith, few, l)) in
        let bound = within (kept - 1) last.0 (omega (arith, l)) last.1 in
        omega (arith, bound, rising w g old start case steps fronts h k (kept - 1) f last.0 e last.1 (omega (arith, l)))

-- the last of them names the node to which all steps lead that are kept
pub last_kept : (w : Words) (g : Grammar) (old new : List ℕ) (start case : ℕ) (steps : List Step) (fronts : List Front) (common kept : ℕ) → AreReadFronts w g old start case steps fronts
    → kept ≤ length fronts → WithinCommon fronts common kept → take common new ≡ take common old → common ≤ length new
    → (f : Front) → slice_get (take kept fronts) (length (take kept fronts) - 1) ≡ Some f → IsLast w g new start case (take (kept - 1) steps) (take kept fronts) f
last_kept w g old new start case steps fronts common kept h few within same short f e =
    let many = length-take-le kept fronts few in
    let at = in_front kept fronts (length (take kept fronts) - 1) f e in
    let all = take_all (length (take kept fronts) - 1) (take (kept - 1) steps) (omega (arith, many, length-take (kept - 1) steps)) in
    let last : slice_get fronts (kept - 1) ≡ Some f = ap (λ n. slice_get fronts (n - 1)) (sym many) ∙ at.0 in
    record {
      named = subst (λ ss. IsNamed w g (take f.end new) start case ss f.sort) all
          ((fronts_kept w g old new start case steps fronts common kept h few within same).each (length (take kept fronts) - 1) f e);
      all = omega (arith, many, at.1, few, h.paired, length-take (kept - 1) steps);
      within = omega (arith, short, within (kept - 1) f (omega (arith, many, at.1)) last);
    }

-- one more step leaves the fronts as they were
pub step_added : (w : Words) (g : Grammar) (text : List ℕ) (start case : ℕ) (steps : List Step) (fronts : List Front) (step : Step) → AreReadFronts w g text start case steps fronts
    → length steps < 250 → AreReadFronts w g text start case (steps ++ step ∷ []) fronts
step_added w g text start case steps fronts step h short = record {
  each = λ k f e. let a : take k (steps ++ step ∷ []) ≡ take k steps = take-append-le k steps (step ∷ []) (omega (arith, slice_get_within fronts k f e, h.paired)) in
      subst (λ ss. IsNamed w g (take f.end text) start case ss f.sort) (sym a) (h.each k f e);
  few = omega (arith, short, length-append steps (step ∷ []));
  paired = omega (arith, h.paired, length-append steps (step ∷ []));
}

-- and its front is one more
pub front_added : (w : Words) (g : Grammar) (text : List ℕ) (start case : ℕ) (steps : List Step) (fronts : List Front) (last : Front) (step : Step) (front : Front)
    → AreReadFronts w g text start case steps fronts → length steps < 250 → IsLast w g text start case steps fronts last → GoesOn w g text last step front
    → AreReadFronts w g text start case (steps ++ step ∷ []) (fronts ++ front ∷ [])
front_added w g text start case steps fronts last step front h short at on = record {
  each = λ k f e. elim (pushed fronts front k f e) as (λ _. IsNamed w g (take f.end text) start case (take k (steps ++ step ∷ [])) f.sort) [
    | inl old ↦ (step_added w g text start case steps fronts step h short).each k f old
    | inr new ↦ newest k f new.0 new.1
  ];
  few = omega (arith, short, length-append steps (step ∷ []));
  paired = omega (arith, h.paired, length-append steps (step ∷ []), length-append fronts (front ∷ []));
}
  where
    newest : (k : ℕ) (f : Front) → k ≡ length fronts → f ≡ front → IsNamed w g (take f.end text) start case (take k (steps ++ step ∷ [])) f.sort
    newest k f s e =
        let all : take k (steps ++ step ∷ []) ≡ steps ++ step ∷ [] = take_all k (steps ++ step ∷ []) (omega (arith, s, at.all, length-append steps (step ∷ []))) in
        subst (λ ss. IsNamed w g (take f.end text) start case ss f.sort) (sym all)
        (subst (λ (x : Front). IsNamed w g (take x.end text) start case (steps ++ step ∷ []) x.sort) (sym e) (on.leads start case steps at.named))

-- a start with no step names its start node
pub start_is_named : (w : Words) (g : Grammar) (text name : List ℕ) (case sort : ℕ) → parts_of_name text ≡ Some (name, case, []) → start_named w g name ≡ Some sort → IsNamed w g text sort case [] sort
start_is_named w g text name case sort e f = record { name = name; trail = []; spelled = e; begun = f; stepped = refl; sorted = refl }

-- which is the only front so far
pub first_front : (w : Words) (g : Grammar) (text : List ℕ) (case : ℕ) (f : Front) → IsNamed w g (take f.end text) f.sort case [] f.sort → AreReadFronts w g text f.sort case [] (f ∷ [])
first_front w g text case f h = record {
  each = by;
  few = omega arith;
  paired = omega arith;
}
  where
    by : (k : ℕ) (e : Front) → slice_get (f ∷ []) k ≡ Some e → IsNamed w g (take e.end text) f.sort case (take k []) e.sort
    by zero e p = let same : f ≡ e = cc in subst (λ (x : Front). IsNamed w g (take x.end text) f.sort case [] x.sort) same h
    by (suc k) e p = absurd cc

-- a list up to a later place, cut at an earlier one
cut_there : (text : List ℕ) (i j n : ℕ) → i < length text → j ≡ i + suc n → take j text ≡ take i text ++ get_or text i 0 ∷ take n (drop (suc i) text)
cut_there [] i j n h e = absurd (omega (arith, h))
cut_there (x ∷ text) zero zero n h e = absurd (omega (arith, e))
cut_there (x ∷ text) zero (suc j) n h e = let same : j ≡ n = omega (arith, e) in ap (λ k. x ∷ take k text) same
cut_there (x ∷ text) (suc i) zero n h e = absurd (omega (arith, e))
cut_there (x ∷ text) (suc i) (suc j) n h e = ap (λ l. x ∷ l) (cut_there text i j n (omega (arith, h)) (omega (arith, e)))

-- a step between slashes that fits goes on from a front
pub goes_on : (w : Words) (g : Grammar) (text : List ℕ) (last : Front) (step : Step) (next : Front) (n : ℕ) → last.end < length text → get_or text last.end 0 ≡ 47
    → next.end ≡ last.end + suc n → next.end ≤ length text → steps_behind w (Some (take n (drop (last.end + 1) text))) ≡ Some (step ∷ []) → sort_of_step g last.sort step ≡ Some next.sort
    → GoesOn w g text last step next
goes_on w g text last step next n h slash ends within e f =
    let behind = take n (drop (last.end + 1) text) in
    let cut : take next.end text ≡ take last.end text ++ 47 ∷ behind =
    cut_there text last.end next.end n h ends ∙ ap (λ k. take last.end text ++ get_or text last.end 0 ∷ take n (drop k text)) (sym (add-one last.end))
    ∙ ap (λ c. take last.end text ++ c ∷ behind) slash in
    record {
      leads = λ start case steps named.
          subst (λ t. IsNamed w g t start case (steps ++ step ∷ []) next.sort) (sym cut)
          (leads_to w g (take last.end text) behind start case steps last.sort (step ∷ []) next.sort named e (ap (option_and_then Some) f));
      further = omega (arith, ends);
      within = within;
    }

-- the front of a list, cut at an earlier place
cut_front : {A : Type 0} (xs : List A) (at end : ℕ) → at ≤ end → take end xs ≡ take at xs ++ take (end - at) (drop at xs)
cut_front xs at end h =
    let e : end ≡ at + (end - at) = omega (arith, h) in
    sym (take-append-drop at (take end xs)) ∙ ap (λ t. t ++ drop at (take end xs)) (take-take at end xs h)
    ∙ ap (λ n. take at xs ++ drop at (take n xs)) e ∙ ap (λ t. take at xs ++ t) (drop-take at (end - at) xs)

-- two lists that are the same up to a place, and from there to a later one, are the same up to that
pub same_further : {A : Type 0} (xs ys : List A) (at end : ℕ) → at ≤ end → take at xs ≡ take at ys → take (end - at) (drop at xs) ≡ take (end - at) (drop at ys) → take end xs ≡ take end ys
same_further xs ys at end h e f = cut_front xs at end h ∙ (λ i. e i ++ f i) ∙ sym (cut_front ys at end h)
