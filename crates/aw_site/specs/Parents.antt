-- The role of a parent, by the last step of its child's name.
use Rattle.std.specs.Prelude.{ℕ, slice_get, option_map}
use Rattle.std.specs.Option.{unwrap_or}
use Rattle.aw_term.specs.Names.{Step}
use Rattle.aw_term.specs.Rules.{Rule, Grammar, role_of}

-- the role of the sort of the rule that a step names, or 0 where there is none
abbrev pub home_before : Grammar → Step → ℕ
home_before g step = unwrap_or (option_map (λ (r : Rule). role_of g.sorts r.sort) (slice_get g.rules step.rule)) 0
