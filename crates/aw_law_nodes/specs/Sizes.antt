-- Numbers and texts that have the sizes of the program's types.
use Rattle.aw_term.specs.Trees.{Tree, Leaf, Made, Trees, Nil, More}
use Rattle.aw_term.specs.Rules.{Child, Rule, Grammar}
use Rattle.aw_term.specs.WellFormed.{Each}
use Rattle.aw_codec.specs.Ranges.{HeadSized, ChoiceSized}
use Rattle.aw_law_sites.specs.Worlds.{Move, Chooses, Delivers}
use Rattle.aw_law_nodes.specs.Couriers.{Visit}

-- each number of a tree has its size, and so has each byte of its texts
abbrev mutual
  pub TreeSized : {A : Type 0} → Tree A → Type 0
  TreeSized {A} (Leaf x) = Unit {0}
  TreeSized {A} (Made h ts) = HeadSized h × TreesSized ts

  pub TreesSized : {A : Type 0} → Trees A → Type 0
  TreesSized {A} Nil = Unit {0}
  TreesSized {A} (More t ts) = TreeSized t × TreesSized ts

-- what a rule writes in its results, and gives its children
pub record RuleSized (r : Rule) : Type 0 where
  pub results : Each TreeSized r.results
  pub children : Each (λ (c : Child). Each TreeSized c.args) r.children

-- each number that a rule of the grammar writes has its size
abbrev pub GrammarSized : Grammar → Type 0
GrammarSized g = Each RuleSized g.rules

-- the numbers of a choice have their sizes
abbrev pub MoveSized : Move → Type 0
MoveSized (Chooses c) = ChoiceSized c
MoveSized (Delivers k) = Unit {0}

-- the choices before a session have their sizes
abbrev pub ChoicesSized : Visit → Type 0
ChoicesSized v = Each ChoiceSized v.choices
