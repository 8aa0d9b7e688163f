-- A triple that was taken out, under its key still.
use Rattle.std.proofs.Common.{◌≡◌, ℕ, ◌+◌, ◌%◌, ◌<◌, inl, inr, cond, List, ◌∷◌, set, get_or, length, Option, Some, None, count_by, is_some, sym, ap}
use Rattle.std.proofs.Common.{◌∙◌, subst, arith, get_or-set_same, get_or-set_other}
use Rattle.std.proofs.lemmas.Bool.{cases_eq, cases_lt}
use Rattle.std.proofs.lemmas.List.{get_or_past}
use Rattle.std.proofs.lemmas.List.Sums.{sum_by-set}
use Rattle.std.proofs.lemmas.Option.{none-some}
use Rattle.std.specs.Option.{option_map}
use Rattle.std.specs.List.Sorted.{IsPermutation}
use Rattle.std.proofs.lemmas.List.Sorted.{IsPermutation-sym}
use Rattle.slab.specs.Slab.{Slab, get, with_value}
use Rattle.futures.specs.LinkedLists.{LinkedLists, list_of, list_count, Moves}
use Rattle.aw_work.specs.declared.block.Triple.{Triple}
use Rattle.aw_work.specs.Triples.{triple, values, IsIndexed}
use Rattle.aw_work.proofs.ValueLemmas.{values_added}

module _ {T : Type 0} (xs : List (Option T)) (key : ℕ) (t : T) (here : get_or xs key None ≡ Some t) where
  pub within : key < length xs
  within = elim (cases_lt key (length xs)) [
    | inl is ↦ is
    | inr past ↦ absurd (none-some t (sym (get_or_past xs key None past) ∙ here))
  ]

  -- one less without it
  pub fewer_out : count_by is_some (set xs key None) + 1 ≡ count_by is_some xs
  fewer_out = omega (arith, sum_by-set (λ (o : Option T). cond (is_some o) 1 0) xs key None None within, ap {B = ℕ} (λ (o : Option T). cond (is_some o) 1 0) here)

  -- as many with another one in its place
  pub as_many : (u : T) → count_by is_some (set xs key (Some u)) ≡ count_by is_some xs
  as_many u = omega (arith, sum_by-set (λ (o : Option T). cond (is_some o) 1 0) xs key (Some u) None within, ap {B = ℕ} (λ (o : Option T). cond (is_some o) 1 0) here)

  -- it and those that are left are all
  pub all_out : IsPermutation (values xs) (t ∷ values (set xs key None))
  all_out = IsPermutation-sym _ _ (values_added key (set xs key None) xs t (get_or-set_same xs key None None within) here (λ i d. sym (get_or-set_other xs key i None None d)))

  -- another one in its place is one beside those that were left
  pub all_again : (u : T) → IsPermutation (u ∷ values (set xs key None)) (values (set xs key (Some u)))
  all_again u =
      values_added key (set xs key None) (set xs key (Some u)) u (get_or-set_same xs key None None within) (get_or-set_same xs key (Some u) None within)
      (λ i d. get_or-set_other xs key i (Some u) None d ∙ sym (get_or-set_other xs key i None None d))

-- what was taken out is listed again by its new slot
pub again_indexed : (s : Slab Triple) (slots slots' nodes : LinkedLists) (key slot : ℕ) (t : Triple) → IsIndexed s slots nodes (Some key) →
    get s key ≡ Some t → Moves slots slots' key (Some (slot % list_count slots)) → IsIndexed (with_value s key (triple slot t.node t.rule)) slots' nodes None
again_indexed s slots slots' nodes key slot t i here m =
    record {
      by_slot = λ k. elim (cases_eq k key) [
        | inl e ↦
            subst (λ q. list_of slots' q ≡ option_map (λ n. n % list_count slots') (option_map (λ (u : Triple). u.slot) (get_or after q None))) (sym e)
            (m.moved ∙ ap (λ c. Some (slot % c)) (sym m.count)
            ∙ sym (ap (λ o. option_map (λ n. n % list_count slots') (option_map (λ (u : Triple). u.slot) o))
            (get_or-set_same s.slots key (Some again) None inside)))
        | inr d ↦
            m.others k d ∙ i.by_slot k ∙ ap (λ c. option_map (λ n. n % c) (option_map (λ (u : Triple). u.slot) (get_or (set s.slots key None) k None))) (sym m.count)
            ∙ ap (λ o. option_map (λ n. n % list_count slots') (option_map (λ (u : Triple). u.slot) o)) (get_or-set_other s.slots key k None None d
            ∙ sym (get_or-set_other s.slots key k (Some again) None d))
      ];
      by_node = λ k. i.by_node k ∙ ap (option_map (λ n. n % list_count nodes)) (same_node k);
      slot_room = omega (arith, i.slot_room, m.limit);
      node_room = i.node_room;
      fits = omega (arith, i.fits, as_many s.slots key t here again);
      held = tt;
      held_room = tt;
    }
  where
    again : Triple
    again = triple slot t.node t.rule

    after : List (Option Triple)
    after = set s.slots key (Some again)

    inside : key < length s.slots
    inside = within s.slots key t here

    same_node : (k : ℕ) → option_map (λ (u : Triple). u.node) (get_or s.slots k None) ≡ option_map (λ (u : Triple). u.node) (get_or after k None)
    same_node k = elim (cases_eq k key) [
      | inl e ↦
          subst (λ q. option_map (λ (u : Triple). u.node) (get_or s.slots q None) ≡ option_map (λ (u : Triple). u.node) (get_or after q None)) (sym e)
          (ap (option_map (λ (u : Triple). u.node)) here ∙ sym (ap (option_map (λ (u : Triple). u.node)) (get_or-set_same s.slots key (Some again) None inside)))
      | inr d ↦ ap (option_map (λ (u : Triple). u.node)) (sym (get_or-set_other s.slots key k (Some again) None d))
    ]
