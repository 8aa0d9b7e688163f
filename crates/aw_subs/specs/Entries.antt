-- What is noted of references: one entry for each that is known.
use Rattle.std.specs.Prelude.{◌≡◌, ℕ, if◌then◌else◌, Bool, false, ◌||◌, Option, None, Some, is_some, nat_eq, bit_or}
use Rattle.std.specs.Int.{bit_at}
use Rattle.std.specs.HashMap.{HashMap, get}
use Rattle.aw_term.specs.Names.{Ref, ref_eq}
use Rattle.aw_subs.specs.declared.subs.Sub.{Sub}

-- the entry of a reference, where it has one
abbrev pub entry_of : {S : Type 0} → HashMap Ref Sub S → Ref → Option Sub
entry_of m r = get ref_eq m r

-- without an entry, a reference was not asked for
abbrev pub asked_in : Option Sub → Bool
asked_in None = false
asked_in (Some s) = s.asked

-- without an entry, no role watches a reference
abbrev pub watchers_in : Option Sub → ℕ
watchers_in None = 0
watchers_in (Some s) = s.watchers

-- the entry, or that of a reference that was not asked for and that nobody watches
abbrev pub entry_or : Option Sub → Sub
entry_or None = record { asked = false; watchers = 0 }
entry_or (Some s) = s

-- the reference was asked for
abbrev pub is_asked : {S : Type 0} → HashMap Ref Sub S → Ref → Bool
is_asked m r = asked_in (entry_of m r)

-- the roles that watch the reference, one bit each
abbrev pub watchers : {S : Type 0} → HashMap Ref Sub S → Ref → ℕ
watchers m r = watchers_in (entry_of m r)

-- the bit of the role is 1
abbrev pub has_bit : ℕ → ℕ → Bool
has_bit bits role = nat_eq (bit_at bits role) 1

-- the role watches the reference
abbrev pub watches : {S : Type 0} → HashMap Ref Sub S → Ref → ℕ → Bool
watches m r role = has_bit (watchers m r) role

-- the reference has an entry, so that it can be asked for and watched without memory
abbrev pub is_ready : {S : Type 0} → HashMap Ref Sub S → Ref → Bool
is_ready m r = is_some (entry_of m r)

-- an entry that was amended: asked for if it was before or is now, with the watchers from before and these
abbrev pub amended : Sub → Bool → ℕ → Sub
amended s asked watchers = record { asked = s.asked || asked; watchers = bit_or s.watchers watchers }

-- one entry is written at k, and each other stays
abbrev pub Writes : {S : Type 0} → HashMap Ref Sub S → HashMap Ref Sub S → Ref → Sub → Type 0
Writes m n k w = (q : Ref) → entry_of n q ≡ (if ref_eq k q then Some w else entry_of m q)
