-- What a reader of names keeps: names that it read last, and where the first steps of each end.
use Rattle.std.specs.Prelude.{◌≡◌, ◌≤◌, ◌<◌, ◌+◌, ◌-◌, ◌++◌, ℕ, List, [], ◌∷◌, Some, All, length, take, slice_get}
use Rattle.aw_spelling.specs.Spelling.{parts_of_name}
use Rattle.aw_term.specs.Names.{Step}
use Rattle.aw_term.specs.Rules.{Grammar, sort_after}
use Rattle.aw_term.specs.Artifacts.{Words}
use Rattle.aw_name.specs.Limits.{most_steps}
use Rattle.aw_grammar.specs.GrammarOf.{grammar_of, words_of}
use Rattle.aw_grammar.specs.declared.grammar.Grammar.{Grammar as GivenGrammar}
use Rattle.aw_base.specs.NodeNames.{steps_named}
use Rattle.aw_base.specs.NodeReading.{start_named}
use Rattle.aw_base.specs.declared.node_reader.Front.{Front}
use Rattle.aw_base.specs.declared.node_reader.ReadName.{ReadName}
use Rattle.aw_base.specs.declared.node_reader.NodeReader.{NodeReader}

-- the text names the node with this start sort, this case and these steps, and this is the sort of the node
pub record IsNamed (w : Words) (g : Grammar) (text : List ℕ) (start case : ℕ) (steps : List Step) (sort : ℕ) : Type 0 where
  pub name : List ℕ
  pub trail : List (List ℕ × ℕ)
  pub spelled : parts_of_name text ≡ Some (name, case, trail)
  pub begun : start_named w g name ≡ Some start
  pub stepped : steps_named w trail ≡ Some steps
  pub sorted : sort_after g start steps ≡ Some sort

-- front k of the text names the node that the first k steps lead to
pub record AreReadFronts (w : Words) (g : Grammar) (text : List ℕ) (start case : ℕ) (steps : List Step) (fronts : List Front) : Type 0 where
  pub each : (k : ℕ) (f : Front) → slice_get fronts k ≡ Some f → IsNamed w g (take f.end text) start case (take k steps) f.sort
  pub few : length steps ≤ most_steps
  pub paired : length fronts ≤ length steps + 1

-- this front is the last one, and all steps lead to its node
pub record IsLast (w : Words) (g : Grammar) (text : List ℕ) (start case : ℕ) (steps : List Step) (fronts : List Front) (f : Front) : Type 0 where
  pub named : IsNamed w g (take f.end text) start case steps f.sort
  pub all : length fronts ≡ length steps + 1
  pub within : f.end ≤ length text

-- what is kept of the name was read over these declarations
abbrev pub IsReadOver : Words → Grammar → ReadName → Type 0
IsReadOver w g r = AreReadFronts w g r.text.items r.start r.case r.steps.items r.fronts.items

-- the text was read up to this front
abbrev pub StandsAt : Words → Grammar → ReadName → Front → Type 0
StandsAt w g r f = IsLast w g r.text.items r.start r.case r.steps.items r.fronts.items f

-- and this is the last front that is kept, where one is
abbrev pub MayStandAtLast : Words → Grammar → ReadName → Type 0
MayStandAtLast w g r = (f : Front) → slice_get r.fronts.items (length r.fronts.items - 1) ≡ Some f → StandsAt w g r f

-- the whole of the text was read
abbrev pub HasReadAll : Words → Grammar → ReadName → Type 0
HasReadAll w g r = (sort : ℕ) × IsNamed w g r.text.items r.start r.case r.steps.items sort

-- what is kept of the name was read by this grammar
abbrev pub IsReadBy : GivenGrammar → ReadName → Type 0
IsReadBy g r = IsReadOver (words_of g) (grammar_of g) r

-- what the reader keeps of each name was read over these declarations
pub record HasRead (w : Words) (g : Grammar) (r : NodeReader) : Type 0 where
  pub each : All (IsReadOver w g) r.names.items

-- what the reader keeps was read by this grammar
abbrev pub IsReaderOf : GivenGrammar → NodeReader → Type 0
IsReaderOf g r = HasRead (words_of g) (grammar_of g) r

-- the last of so many fronts ends within so many bytes
abbrev pub WithinCommon : List Front → ℕ → ℕ → Type 0
WithinCommon fronts common kept = (k : ℕ) (f : Front) → kept ≡ k + 1 → slice_get fronts k ≡ Some f → f.end ≤ common

-- wherever the text up to the one front names a node, up to the other it names that node's child at this step
pub record GoesOn (w : Words) (g : Grammar) (text : List ℕ) (last : Front) (step : Step) (next : Front) : Type 0 where
  pub leads : (start case : ℕ) (steps : List Step) → IsNamed w g (take last.end text) start case steps last.sort → IsNamed w g (take next.end text) start case (steps ++ step ∷ []) next.sort
  pub further : last.end < next.end
  pub within : next.end ≤ length text
