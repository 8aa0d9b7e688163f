-- A dependence is found among those that are named where it is declared.
use Rattle.std.proofs.Common.{◌≡◌, Bool, false, cond, List, [], ◌∷◌, ◌++◌, map, ◌&&◌, ◌||◌, Some, nat_eq, refl, sym, ap, ◌∙◌}
use Rattle.std.proofs.lemmas.List.{map-append}
use Rattle.std.specs.List.{list_any}
use Rattle.aw_face.proofs.Pairs.{turned}
use Rattle.aw_base.specs.declared.declared.Triple.{Triple}
use Rattle.aw_spec.specs.declared.dependences.Dependence.{Dependence}
use Rattle.aw_spec.specs.Named.{named_by}
use Rattle.aw_spec.specs.TypeLines.{is_dependence}

-- two lines name the same dependence
abbrev same : Dependence → Dependence → Bool
same a b = nat_eq a.sort b.sort && (nat_eq a.i b.i && nat_eq a.j b.j)

among : (d : Dependence) (ts : List Triple) → list_any (same d) (map named_by ts) ≡ is_dependence ts (Some d.sort) d.i d.j
among d [] = refl
among d (t ∷ ts) = λ k. (turned d.sort t.sort k && (turned d.i t.i k && turned d.j t.j k)) || among d ts k

pub is_found : (d : Dependence) (named : List Dependence) (inside ts : List Triple) → named ≡ map named_by inside → inside ≡ ts → list_any (same d) named ≡ is_dependence ts (Some d.sort) d.i d.j
is_found d named inside ts kept view = ap (λ ds. list_any (same d) ds) (kept ∙ ap (λ us. map named_by us) view) ∙ among d ts

-- one that is not declared yet goes last in both rows
pub both_pushed : (t : Triple) (d : Dependence) (named room new : List Dependence) (inside ts more : List Triple) → d ≡ named_by t → named ≡ map named_by inside → inside ≡ ts → room ≡ named
    → is_dependence ts (Some t.sort) t.i t.j ≡ false → more ≡ inside ++ t ∷ [] → new ≡ cond (list_any (same d) room) room (room ++ d ∷ []) → new ≡ map named_by more
both_pushed t d named room new inside ts more is kept view same_room none pushed inserted =
    let absent : list_any (same (named_by t)) room ≡ false = ap (λ ds. list_any (same (named_by t)) ds) same_room ∙ is_found (named_by t) named inside ts kept view ∙ none in
    inserted ∙ ap (λ e. cond (list_any (same e) room) room (room ++ e ∷ [])) is
    ∙ ap (λ b. cond b room (room ++ named_by t ∷ [])) absent ∙ ap (λ ds. ds ++ named_by t ∷ []) (same_room ∙ kept)
    ∙ sym (map-append named_by inside (t ∷ [])) ∙ ap (λ us. map named_by us) (sym pushed)
