-- How long a name may be.
use Rattle.std.specs.Prelude.{ℕ}

-- steps of a node, as `Trail::MOST`
abbrev pub most_steps : ℕ
most_steps = 250
