-- How lists of keys lie in links, with the words that the kit has for its own linked lists.
use Rattle.std.specs.Prelude.{ℕ, ◌^◌, ◌≤◌, List, map, length, Option, slice_index_or}
use Rattle.futures.specs.declared.util.linked_list.Link.{Link as Wide}
use Rattle.futures.specs.Links.{Joins, Inserts, IsSound}
use Rattle.aw_work.specs.declared.lists.Link.{Link}

-- what a read past the links gives
abbrev pub no_link : Link
no_link = record { prev = 0; next = 0 }

-- the place after a place
abbrev pub after : List Link → ℕ → ℕ
after links at = (slice_index_or links at no_link).next

-- the place before a place
abbrev pub before : List Link → ℕ → ℕ
before links at = (slice_index_or links at no_link).prev

-- the neighbours of the place now lead to each other
pub record Skips (old new : List Link) (at : ℕ) : Type 0 where
  pub next : Joins (after old) (after new) (before old at) (after old at)
  pub prev : Joins (before old) (before new) (after old at) (before old at)

-- the first place now stands just before the second
abbrev pub Splices : List Link → List Link → ℕ → ℕ → Type 0
Splices old new at next = Inserts (after old) (before old) (after new) (before new) (before old next) at next

-- a link of the kit
abbrev pub wide : Link → Wide
wide l = record { prev = l.prev; next = l.next }

abbrev pub all_wide : List Link → List Wide
all_wide links = map wide links

-- the lists are sound as those of the kit are, and each place has a number
pub record IsSmall (links : List Link) (owners : List (Option ℕ)) (heads : ℕ) : Type 0 where
  pub sound : IsSound (all_wide links) owners heads
  pub few : length links ≤ 2 ^ 32
