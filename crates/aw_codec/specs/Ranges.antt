-- Which values have a spelling in bytes. The sizes are those of the program's types (one, two and eight bytes); the ranges say the rest.
use Rattle.std.specs.Prelude.{◌≡◌, ℕ, ◌<◌, ◌≤◌, ◌^◌, true, List, length}
use Rattle.aw_spelling.specs.Spelling.{is_content}
use Rattle.aw_term.specs.Trees.{Never, Head, Con, Num, Text, Leaf, Made, Trees, Nil, More, count}
use Rattle.aw_term.specs.Names.{Step, Node, Slot, Result, Part, Ref}
use Rattle.aw_term.specs.Rules.{Ground}
use Rattle.aw_term.specs.Choices.{Choice, Start, Develop}
use Rattle.aw_term.specs.WellFormed.{Each, symbols_of, nesting}
use Rattle.aw_term.specs.Limits.{most_children, most_results, most_node_parts, most_references, most_parts, most_arguments, most_symbols, most_levels}
use Rattle.aw_name.specs.Limits.{most_steps}

-- ---- names

-- from 1 to most
abbrev pub From1To : ℕ → ℕ → Type 0
From1To most n = (1 ≤ n) × (n ≤ most)

-- the rule of a step has two bytes, and its child one
abbrev pub StepSized : Step → Type 0
StepSized s = (s.rule < 2 ^ 16) × (s.child < 2 ^ 8)

-- its child is one of a rule
abbrev pub StepInRange : Step → Type 0
StepInRange s = From1To most_children s.child

-- the start sort of a node has two bytes, its case eight, and its steps have their sizes
abbrev pub NodeSized : Node → Type 0
NodeSized n = (n.start < 2 ^ 16) × (n.case < 2 ^ 64) × Each StepSized n.steps

-- few steps
abbrev pub NodeInRange : Node → Type 0
NodeInRange n = (length n.steps ≤ most_steps) × Each StepInRange n.steps

-- the number of a slot has two bytes
abbrev pub SlotSized : Slot → Type 0
SlotSized (Result j) = j < 2 ^ 16
SlotSized (Part k) = k < 2 ^ 16

-- a result of a sort, and a part of a node
abbrev pub SlotInRange : Slot → Type 0
SlotInRange (Result j) = From1To most_results j
SlotInRange (Part k) = From1To most_node_parts k

-- the numbers of a reference have their sizes
abbrev pub RefSized : Ref → Type 0
RefSized r = NodeSized r.node × SlotSized r.slot

-- the node of a reference is in range, and so is its slot
abbrev pub RefInRange : Ref → Type 0
RefInRange r = NodeInRange r.node × SlotInRange r.slot

-- the numbers of these references have their sizes
abbrev pub RefsSized : List Ref → Type 0
RefsSized rs = Each RefSized rs

-- few references
abbrev pub RefsInRange : List Ref → Type 0
RefsInRange rs = (length rs ≤ most_references) × Each RefInRange rs

-- ---- texts and arguments

-- each number of a text is a byte
abbrev pub TextSized : List ℕ → Type 0
TextSized t = Each (λ b. b < 2 ^ 8) t

-- a content of at most 1024 bytes
abbrev pub TextInRange : List ℕ → Type 0
TextInRange t = is_content t ≡ true

-- a constructor has two bytes, a number eight, and each number of a text is a byte
abbrev pub HeadSized : Head → Type 0
HeadSized (Con c) = c < 2 ^ 16
HeadSized (Num n) = n < 2 ^ 64
HeadSized (Text t) = TextSized t

-- a constructor has few parts, a number and a text have none
abbrev pub HeadInRange : Head → ℕ → Type 0
HeadInRange (Con c) parts = parts ≤ most_parts
HeadInRange (Num n) parts = parts ≡ 0
HeadInRange (Text t) parts = (parts ≡ 0) × TextInRange t

-- each head of an argument has its size, and so have those of its parts
abbrev mutual
  pub GroundSized : Ground → Type 0
  GroundSized (Leaf x) = Never
  GroundSized (Made h ts) = HeadSized h × PartsSized ts

  pub PartsSized : Trees Never → Type 0
  PartsSized Nil = Unit {0}
  PartsSized (More t ts) = GroundSized t × PartsSized ts

-- each head of an argument is in range with its parts, and so are those of its parts
abbrev mutual
  pub HeadsInRange : Ground → Type 0
  HeadsInRange (Leaf x) = Never
  HeadsInRange (Made h ts) = HeadInRange h (count ts) × PartsInRange ts

  pub PartsInRange : Trees Never → Type 0
  PartsInRange Nil = Unit {0}
  PartsInRange (More t ts) = HeadsInRange t × PartsInRange ts

-- at most so many levels
abbrev pub GroundInRange : ℕ → Ground → Type 0
GroundInRange levels t = HeadsInRange t × (nesting t ≤ levels)

-- each head of these arguments has its size
abbrev pub GroundsSized : List Ground → Type 0
GroundsSized ts = Each GroundSized ts

-- arguments within their limits
abbrev pub GroundsInRange : List Ground → Type 0
GroundsInRange ts = (length ts ≤ most_arguments) × (symbols_of ts ≤ most_symbols) × Each (GroundInRange most_levels) ts

-- ---- choices

-- the numbers of a choice have their sizes
abbrev pub ChoiceSized : Choice → Type 0
ChoiceSized (Start sort case) = (sort < 2 ^ 16) × (case < 2 ^ 64)
ChoiceSized (Develop n rule args) = NodeSized n × (rule < 2 ^ 16) × GroundsSized args

-- the node of a choice and its arguments are in range; of a start, nothing more is asked
abbrev pub ChoiceInRange : Choice → Type 0
ChoiceInRange (Start sort case) = Unit {0}
ChoiceInRange (Develop n rule args) = NodeInRange n × GroundsInRange args
