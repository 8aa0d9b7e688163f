-- Cases, and rows whose values hold holes of their own case alone.
use Rattle.std.specs.Prelude.{◌≡◌, ℕ, Bool, ◌&&◌, ◌||◌, nat_eq, nat_lt, take, drop}
use Rattle.aw_list.specs.Members.{Member}
use Rattle.aw_term.specs.Names.{Node, Ref}
use Rattle.aw_term.specs.Configs.{Row, Config}
use Rattle.aw_term.specs.WellFormed.{Each}
use Rattle.aw_accept.specs.Acyclic.{Stands}

-- two nodes of one case
abbrev pub IsSameCase : Node → Node → Type 0
IsSameCase a b = (a.start ≡ b.start) × (a.case ≡ b.case)

-- whether the case of a node comes before that of another: all its nodes do then
abbrev pub case_lt : Node → Node → Bool
case_lt a b = nat_lt a.start b.start || (nat_eq a.start b.start && nat_lt a.case b.case)

-- each hole in a row is of the row's case
abbrev pub KeepsToCase : Row → Type 0
KeepsToCase q = (h : Ref) → Stands h q → IsSameCase q.node h.node

-- rows of one case hold no holes of another
abbrev pub AreApart : Config → Type 0
AreApart c = (q : Row) → Member q c → KeepsToCase q

-- all rows in front of a place, and all from another place on, are such rows
abbrev pub AreOutside : (Row → Type 0) → ℕ → ℕ → Config → Type 0
AreOutside P start stop c = Each P (take start c) × Each P (drop stop c)
