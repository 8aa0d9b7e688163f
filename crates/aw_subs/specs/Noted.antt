-- What is noted of references, as functions of them.
use Rattle.std.specs.Prelude.{ℕ, Bool}
use Rattle.aw_term.specs.Names.{Ref}
use Rattle.aw_subs.specs.Entries.{is_asked, watches}
use Rattle.aw_subs.specs.declared.subs.Subs.{Subs}

-- which references were asked for
abbrev pub asked_in : Subs → Ref → Bool
asked_in subs r = is_asked subs.subs r

-- which roles watch which references
abbrev pub watches_in : Subs → Ref → ℕ → Bool
watches_in subs r role = watches subs.subs r role
