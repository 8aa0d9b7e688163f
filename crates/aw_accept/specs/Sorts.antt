-- Rows that have the sorts of their nodes' names.
use Rattle.std.specs.Prelude.{◌≡◌, true, List, [], Some, slice_get}
use Rattle.aw_list.specs.Members.{Member}
use Rattle.aw_term.specs.Rules.{Sort, Grammar, sort_of}
use Rattle.aw_term.specs.Configs.{Row, Config}
use Rattle.aw_term.specs.Choices.{Choice, Start, Develop, outcome, taken, undivided}
use Rattle.aw_term.specs.WellFormed.{Each}

-- the sort of each row is that of its node's name
abbrev pub HaveTheirSorts : Grammar → Config → Type 0
HaveTheirSorts g c = (q : Row) → Member q c → sort_of g q.node ≡ Some q.sort

-- where the choice is a start, it is at a start sort
abbrev pub IsAtStart : Grammar → Choice → Type 0
IsAtStart g (Start s k) = (t : Sort) × (slice_get g.sorts s ≡ Some t) × (t.start ≡ true)
IsAtStart g (Develop n r args) = Unit {0}

-- a taken choice keeps that rows have their sorts
abbrev pub KeepsSorts : Grammar → Type 0
KeepsSorts g = (c d : Config) (x : Choice) → IsAtStart g x → HaveTheirSorts g c → taken g c x (outcome g c x) ≡ Some d → HaveTheirSorts g d

-- in each configuration of an undivided run rows have their sorts
abbrev pub RowsHaveTheirSorts : Grammar → Type 0
RowsHaveTheirSorts g = (cs : List Choice) (c : Config) → Each (IsAtStart g) cs → undivided g [] cs ≡ Some c → HaveTheirSorts g c
