-- What is looked up of a sort is the same where all sorts are at one role.
use Rattle.std.proofs.Common.{◌≡◌, ℕ, List, map, Option, None, Some, slice_get, refl, ap, ◌∙◌}
use Rattle.std.specs.Prelude.{option_map}
use Rattle.std.proofs.lemmas.Option.{slice_get-map}
use Rattle.aw_term.specs.Rules.{Sort}
use Rattle.aw_term.specs.Choices.{gives_of}
use Rattle.aw_term.specs.WellFormed.{takes_of}
use Rattle.aw_base.specs.NodeNames.{is_start}
use Rattle.aw_replay.specs.United.{at_one_role}

-- what does not look at the role
module _ {A : Type 0} (look : Option Sort → A) (same : (o : Option Sort) → look (option_map at_one_role o) ≡ look o) where
  pub looked_up : (sorts : List Sort) (s : ℕ) → look (slice_get (map at_one_role sorts) s) ≡ look (slice_get sorts s)
  looked_up sorts s = ap look (slice_get-map at_one_role sorts s) ∙ same (slice_get sorts s)

gives_alike : (o : Option Sort) → gives_of (option_map at_one_role o) ≡ gives_of o
gives_alike None = refl
gives_alike (Some s) = refl

takes_alike : (o : Option Sort) → takes_of (option_map at_one_role o) ≡ takes_of o
takes_alike None = refl
takes_alike (Some s) = refl

start_alike : (o : Option Sort) → is_start (option_map at_one_role o) ≡ is_start o
start_alike None = refl
start_alike (Some s) = refl

pub gives_same : (sorts : List Sort) (s : ℕ) → gives_of (slice_get (map at_one_role sorts) s) ≡ gives_of (slice_get sorts s)
gives_same sorts s = looked_up gives_of gives_alike sorts s

pub takes_same : (sorts : List Sort) (s : ℕ) → takes_of (slice_get (map at_one_role sorts) s) ≡ takes_of (slice_get sorts s)
takes_same sorts s = looked_up takes_of takes_alike sorts s

pub start_same : (sorts : List Sort) (s : ℕ) → is_start (slice_get (map at_one_role sorts) s) ≡ is_start (slice_get sorts s)
start_same sorts s = looked_up is_start start_alike sorts s
