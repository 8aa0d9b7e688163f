-- The order of the kinds of line; no text shows these numbers.
use Rattle.std.specs.Prelude.{ℕ}

-- lines of roles come first
abbrev pub roles_stage : ℕ
roles_stage = 1

-- constructors
abbrev pub cons_stage : ℕ
cons_stage = 2

-- sorts are declared at this stage or never
abbrev pub sorts_stage : ℕ
sorts_stage = 3

-- with which sorts cases start
abbrev pub starts_stage : ℕ
starts_stage = 4

-- which sorts are offered to other roles
abbrev pub offers_stage : ℕ
offers_stage = 5

-- which role uses which sort
abbrev pub uses_stage : ℕ
uses_stage = 6

-- types, the shapes of constructors, and the carries of sorts
abbrev pub types_stage : ℕ
types_stage = 7

-- the types of the parts of constructors
abbrev pub shapes_stage : ℕ
shapes_stage = 8

-- the types of the values of sorts
abbrev pub carries_stage : ℕ
carries_stage = 9

-- which results may depend on which inherited values
abbrev pub depends_stage : ℕ
depends_stage = 10

-- the line that asks for a check of waiting
abbrev pub free_stage : ℕ
free_stage = 11

-- rules are declared at this stage or never
abbrev pub rules_stage : ℕ
rules_stage = 12

-- the line behind which the schedule stands
abbrev pub end_stage : ℕ
end_stage = 13
