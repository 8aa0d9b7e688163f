-- Adding arguments at the end of a text.
use Rattle.std.proofs.Common.{◌≡◌, ℕ, ◌≤◌, ◌<◌, ◌^◌, List, [], ◌∷◌, ◌++◌, length, map, Result, sym, ap, subst, ◌∙◌}
use Rattle.std.specs.Prelude.{OnOk}
use Rattle.std.specs.List.{flat_map}
use Rattle.std.specs.Int.{w16, to_be_bytes}
use Rattle.std.proofs.lemmas.List.{length-map}
use Rattle.std.proofs.lemmas.Result.{on_ok_weaker}
use Rattle.aw_term.specs.Trees.{Made, Con, join, count}
use Rattle.aw_term.specs.Rules.{Ground}
use Rattle.aw_term.specs.WellFormed.{Each}
use Rattle.aw_term.specs.Views.{ground_of}
use Rattle.aw_term.specs.declared.ground.Ground as grounds
use Rattle.aw_term.proofs.Joined.{count_join}
use Rattle.aw_term.proofs.ViewLemmas.{ground_con}
use Rattle.aw_term.specs.Limits.{most_parts}
use Rattle.aw_codec.specs.Grounds.{spelled_head, spelled_ground, spelled_parts}
use Rattle.aw_codec.specs.Ranges.{HeadsInRange, PartsInRange, GroundSized}
use Rattle.aw_codec.proofs.GroundLaws.{parts_join, sized_join}
use Rattle.aw_codec.proofs.Adding.{two}

parts_each : (ts : List Ground) → PartsInRange (join ts) → Each HeadsInRange ts
parts_each [] h = tt
parts_each (t ∷ ts) h = (h.0, parts_each ts h.1)

-- a constructor behind a text: its tag, its number, how many parts it has, and the parts
pub con_added : {A E : Type 0} (r : Result A E) (g : grounds.Ground) (c : ℕ) (parts qs : List grounds.Ground) (n k : ℕ) (old t1 t2 t3 new : List ℕ) →
    g ≡ grounds.Con c parts → qs ≡ parts → n ≡ length parts → (n ≤ 8 → k ≡ n)
    → t1 ≡ old ++ 1 ∷ [] → t2 ≡ t1 ++ to_be_bytes w16 c → t3 ≡ t2 ++ k ∷ []
    → (Each HeadsInRange (map ground_of qs) → OnOk r (new ≡ t3 ++ flat_map spelled_ground (map ground_of qs)))
    → HeadsInRange (ground_of g) → OnOk r (new ≡ old ++ spelled_ground (ground_of g))
con_added r g c parts qs n k old t1 t2 t3 new is qs-is n-is few e1 e2 e3 others range =
    let us = map ground_of parts in
    let view : ground_of g ≡ Made (Con c) (join us) = ap ground_of is ∙ ground_con c parts in
    let known = subst HeadsInRange view range in
    let many : count (join us) ≡ n = count_join us ∙ length-map parts ground_of ∙ sym n-is in
    let number : k ≡ count (join us) = few (subst (λ m. m ≤ most_parts) many known.0) ∙ sym many in
    let front : t3 ≡ old ++ spelled_head (Con c) (count (join us)) =
    two old (1 ∷ []) (to_be_bytes w16 c ++ count (join us) ∷ []) t1 t3 e1 (two t1 (to_be_bytes w16 c) (count (join us) ∷ []) t2 t3 e2 (e3 ∙ ap (λ m. t2 ++ m ∷ []) number)) in
    on_ok_weaker r
    (λ e. two old (spelled_head (Con c) (count (join us))) (spelled_parts (join us)) t3 new front
    (e ∙ ap (λ ps. t3 ++ flat_map spelled_ground (map ground_of ps)) qs-is ∙ ap (λ t. t3 ++ t) (sym (parts_join us)))
    ∙ ap (λ t. old ++ spelled_ground t) (sym view))
    (others (subst (λ ps. Each HeadsInRange (map ground_of ps)) (sym qs-is) (parts_each us known.1)))

-- a constructor whose parts are sized
pub con_sized : {A E : Type 0} (r : Result A E) (g : grounds.Ground) (c : ℕ) (parts qs : List grounds.Ground) → g ≡ grounds.Con c parts → qs ≡ parts → c < 2 ^ 16
    → OnOk r (Each GroundSized (map ground_of qs)) → OnOk r (GroundSized (ground_of g))
con_sized r g c parts qs is qs-is small others =
    on_ok_weaker r
    (λ each. subst GroundSized (sym (ap ground_of is ∙ ground_con c parts)) (small, sized_join (map ground_of parts) (subst (λ ps. Each GroundSized (map ground_of ps)) qs-is each)))
    others
