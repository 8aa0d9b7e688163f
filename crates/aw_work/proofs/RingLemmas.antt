-- Links in less room lead where those of the kit lead.
use Rattle.std.proofs.Common.{◌≡◌, ℕ, zero, suc, ◌+◌, ◌<◌, List, [], ◌∷◌, length, get_or, replicate, Option, None, cond, refl, sym, ap, ◌∙◌, arith}
use Rattle.std.proofs.lemmas.List.{length-replicate}
use Rattle.std.proofs.lemmas.List.Folds.{sum_by-replicate}
use Rattle.std.proofs.lemmas.Option.{none-some}
use Rattle.futures.specs.declared.util.linked_list.Link.{Link as Wide}
use Rattle.futures.specs.Links as kit
use Rattle.futures.specs.Links.{next_of, prev_of, Joins, is_list, keys_of, IsSound}
use Rattle.futures.proofs.LinkedListsLemmas.{keys_of_ring}
use Rattle.aw_work.specs.declared.lists.Link.{Link}
use Rattle.aw_work.specs.Rings.{no_link, after, before, Skips, Splices, wide, all_wide}

wide_or : (links : List Link) (at : ℕ) (d : Link) → get_or (all_wide links) at (wide d) ≡ wide (get_or links at d)
wide_or [] at d = refl
wide_or (l ∷ ls) zero d = refl
wide_or (l ∷ ls) (suc at) d = wide_or ls at d

pub wide_length : (links : List Link) → length (all_wide links) ≡ length links
wide_length [] = refl
wide_length (l ∷ ls) = ap suc (wide_length ls)

pub wide_read : (links : List Link) (at : ℕ) (l : Link) → l ≡ get_or links at l → wide l ≡ get_or (all_wide links) at (wide l)
wide_read links at l e = ap wide e ∙ sym (wide_or links at l)

pub wide_next : (links : List Link) (at : ℕ) → next_of (all_wide links) at ≡ after links at
wide_next links at = ap (λ (l : Wide). l.next) (wide_or links at no_link)

pub wide_prev : (links : List Link) (at : ℕ) → prev_of (all_wide links) at ≡ before links at
wide_prev links at = ap (λ (l : Wide). l.prev) (wide_or links at no_link)

joins_same : (f f' g g' : ℕ → ℕ) (from to from' to' : ℕ) → ((i : ℕ) → g i ≡ f i) → ((i : ℕ) → g' i ≡ f' i) → from' ≡ from → to' ≡ to → Joins f f' from to → Joins g g' from' to'
joins_same f f' g g' from to from' to' same same' p q j =
    record {
      here = same' from' ∙ ap f' p ∙ j.here ∙ sym q;
      others = λ at d. same' at ∙ j.others at (λ e. d (e ∙ sym p)) ∙ sym (same at);
    }

pub wide_skips : (old new : List Link) (at : ℕ) → Skips old new at → kit.Skips (all_wide old) (all_wide new) at
wide_skips old new at s =
    record {
      next = joins_same (after old) (after new) (next_of (all_wide old)) (next_of (all_wide new)) _ _ _ _ (wide_next old) (wide_next new) (wide_prev old at) (wide_next old at) s.next;
      prev = joins_same (before old) (before new) (prev_of (all_wide old)) (prev_of (all_wide new)) _ _ _ _ (wide_prev old) (wide_prev new) (wide_next old at) (wide_prev old at) s.prev;
    }

pub wide_splices : (old new : List Link) (at next : ℕ) → Splices old new at next → kit.Splices (all_wide old) (all_wide new) at next
wide_splices old new at next s =
    let first : prev_of (all_wide old) next ≡ before old next = wide_prev old next in
    record {
      into = wide_next new _ ∙ ap (after new) first ∙ s.into;
      out = wide_next new at ∙ s.out;
      back_into = wide_prev new next ∙ s.back_into;
      back_out = wide_prev new at ∙ s.back_out ∙ sym first;
      nexts = λ other d apart. wide_next new other ∙ s.nexts other (λ e. d (e ∙ sym first)) apart ∙ sym (wide_next old other);
      prevs = λ other d apart. wide_prev new other ∙ s.prevs other d apart ∙ sym (wide_prev old other);
    }

-- each of so many places leads to itself
abbrev pub AreClosed : List Link → ℕ → Type 0
AreClosed links n = (at : ℕ) → at < n → (after links at ≡ at) × (before links at ≡ at)

abbrev pub nobody : Option ℕ
nobody = None

none_owned : (keys k : ℕ) → get_or (replicate keys nobody) k None ≡ None
none_owned zero k = refl
none_owned (suc keys) zero = refl
none_owned (suc keys) (suc k) = none_owned keys k

-- places that lead to themselves are empty lists
pub closed_sound : (links : List Link) (heads keys : ℕ) → length links ≡ heads + keys → AreClosed links (heads + keys) → IsSound (all_wide links) (replicate keys nobody) heads
closed_sound links heads keys sized closed =
    record {
      sized = omega (arith, wide_length links, length-replicate keys nobody);
      known = λ k list owned. absurd (none-some list (sym (none_owned keys k) ∙ owned));
      rings = λ list head. rw (no_keys list head) (record {
        chained = chain list head;
        apart = tt;
        owned = λ k nowhere. absurd nowhere;
        listed = λ k owned. none-some list (sym (none_owned keys k) ∙ owned);
      });
    }
  where
    chain : (list : ℕ) → list < heads → (next_of (all_wide links) list ≡ list) × (prev_of (all_wide links) list ≡ list)
    chain list head = let c = closed list (omega (arith, head)) in (wide_next links list ∙ c.0, wide_prev links list ∙ c.1)

    no_keys : (list : ℕ) → list < heads → keys_of (all_wide links) (replicate keys nobody) heads list ≡ []
    no_keys list head = keys_of_ring (all_wide links) (replicate keys nobody) heads list [] (chain list head)
        (omega (arith, sum_by-replicate (λ (o : Option ℕ). cond (is_list list o) 1 0) keys nobody))
