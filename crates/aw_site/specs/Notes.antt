-- What a site asked for, and who watches there: valid references, and declared roles.
use Rattle.std.specs.Prelude.{◌≡◌, ℕ, Bool, true, ◌&&◌, nat_lt}
use Rattle.aw_term.specs.Names.{Ref}
use Rattle.aw_term.specs.Rules.{Grammar}
use Rattle.aw_base.specs.ChoiceFits.{ref_ok}

-- each reference that was asked for is valid
abbrev pub AsksValid : Grammar → (Ref → Bool) → Type 0
AsksValid g asked = (r : Ref) → asked r ≡ true → ref_ok g r ≡ true

-- each reference that is watched is valid, and each role that watches is declared
abbrev pub WatchedValid : Grammar → (Ref → ℕ → Bool) → Type 0
WatchedValid g watches = (r : Ref) (role : ℕ) → watches r role ≡ true → (ref_ok g r && nat_lt role g.roles) ≡ true
