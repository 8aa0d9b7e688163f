-- Reading the name of a node, part by part.
use Rattle.std.specs.Prelude.{◌≡◌, ℕ, Bool, List, ◌∷◌, Option, None, Some, Result, Ok, Err, slice_get, if◌then◌else◌, option_map, option_and_then, option_copied}
use Rattle.aw_spelling.specs.Spelling.{steps_of, parts_behind}
use Rattle.aw_term.specs.Names.{Step, Node}
use Rattle.aw_term.specs.Rules.{Grammar}
use Rattle.aw_term.specs.Artifacts.{Words}
use Rattle.aw_base.specs.NodeNames.{NodeRead, Named, NoNodeName, TooLong, NotDeclared, NoFit, steps_named, is_start}
use Rattle.aw_grammar.specs.Named.{number_named}
use Rattle.aw_base.specs.declared.read_node.NameFault.{NameFault}
use Rattle.aw_base.specs.declared.read_node.NameFault.TheVariants.{Form, Long, Unknown, Step as Misfit, NoMemory}
use Rattle.aw_base.specs.declared.read_node.NamedStep.{NamedStep}

-- What reading answers: the node, or why there is none. Want of memory says nothing.
abbrev pub Reads : NodeRead → Result Node NameFault → Type 0
Reads read (Ok node) = read ≡ Named node
Reads read (Err Form) = read ≡ NoNodeName
Reads read (Err Long) = read ≡ TooLong
Reads read (Err Unknown) = read ≡ NotDeclared
Reads read (Err (Misfit at)) = read ≡ NoFit at
Reads read (Err NoMemory) = Unit {0}

-- why a text of few steps names no node, where no node was found by its parts and it is a node name, or is none
abbrev pub name_fault : Bool → NameFault
name_fault spelled = if spelled then Unknown else Form

-- why a text of too many steps names no node, where it is a node name, or is none
abbrev pub long_fault : Bool → NameFault
long_fault spelled = if spelled then Long else Form

-- the start sort of a name
abbrev pub start_named : Words → Grammar → List ℕ → Option ℕ
start_named w g name = option_and_then (λ s. if is_start (slice_get g.sorts s) then Some s else None) (number_named w.sorts name)

-- the steps behind a slash, where there is one, and each rule is declared
abbrev pub steps_behind : Words → Option (List ℕ) → Option (List Step)
steps_behind w rest = option_and_then (steps_named w) (steps_of (parts_behind rest))

-- all steps, where this is the first
abbrev pub leads_on : Words → NamedStep → Option (List Step)
leads_on w s = option_map (λ more. s.step ∷ more) (steps_behind w (option_copied s.more))
