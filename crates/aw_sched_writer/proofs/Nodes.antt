-- The printed name of a valid node, in a line of a schedule.
use Rattle.std.proofs.Common.{◌≡◌, ℕ, zero, suc, ◌<◌, ◌^◌, refl, ap, Bool, true, false, cond, nat_lt, List, [], ◌∷◌, ◌++◌, length, Option, Some, None, is_some}
use Rattle.std.specs.Fmt.{decimal}
use Rattle.aw_spelling.specs.Spelling.{parts_of_name, node_name}
use Rattle.aw_spelling.proofs.NodeNames.{lacks}
use Rattle.aw_term.specs.Names.{Step, Node}
use Rattle.aw_term.specs.Rules.{Grammar, get, sort_of}
use Rattle.aw_term.specs.Artifacts.{Words, steps_text, node_text}
use Rattle.aw_term.specs.WellFormed.{Each, IsWellFormed}
use Rattle.aw_term_reader.proofs.Lexing.{name_unbroken, number_unbroken}
use Rattle.aw_grammar.specs.Named.{number_named}
use Rattle.aw_base.specs.NodeNames.{Named, TooLong, with_start, with_parts, node_in, node_named}
use Rattle.aw_term_reader.proofs.SaysTokens.{all_unbroken as both_lack}
use Rattle.aw_sched.specs.Events.{has_many, is_long}
use Rattle.aw_sched.specs.Printed.{IsHeld}
use Rattle.aw_sched.proofs.Reading.{node_again}
use Rattle.aw_spec_writer.proofs.SaysTerms.{IsName}

name_lacks : (names : List (List ℕ)) (i : ℕ) → Each IsName names → lacks 10 (get [] names i) ≡ true
name_lacks [] i each = refl
name_lacks (n ∷ names) zero each = name_unbroken n each.0
name_lacks (n ∷ names) (suc i) each = name_lacks names i each.1

steps_lack : (w : Words) (steps : List Step) → Each IsName w.rules → Each (λ (s : Step). s.child < 2 ^ 64) steps → lacks 10 (steps_text w steps) ≡ true
steps_lack w [] rules small = refl
steps_lack w (s ∷ ss) rules small =
    both_lack (47 ∷ (get [] w.rules s.rule ++ (46 ∷ decimal s.child))) (steps_text w ss)
    (both_lack (get [] w.rules s.rule) (46 ∷ decimal s.child) (name_lacks w.rules s.rule rules) (number_unbroken s.child small.0))
    (steps_lack w ss rules small.1)

pub node_lacks : (w : Words) (n : Node) → Each IsName w.sorts → Each IsName w.rules → n.case < 2 ^ 64 → Each (λ (s : Step). s.child < 2 ^ 64) n.steps → lacks 10 (node_text w n) ≡ true
node_lacks w n sorts rules case small =
    both_lack (get [] w.sorts n.start) (35 ∷ (decimal n.case ++ steps_text w n.steps)) (name_lacks w.sorts n.start sorts)
    (both_lack (decimal n.case) (steps_text w n.steps) (number_unbroken n.case case) (steps_lack w n.steps rules small))

-- it is a node name, and no long one
abbrev NameParts : Type 0
NameParts = List ℕ × ℕ × List (List ℕ × ℕ)

short_parts : (w : Words) (g : Grammar) (n : Node) (parts : NameParts) (t : Bool) → cond t TooLong (with_start w g parts.1 parts.2 (number_named w.sorts parts.0)) ≡ Named n → t ≡ false
short_parts w g n parts true e = cc
short_parts w g n parts false e = refl

pub record IsShortName (text : List ℕ) : Type 0 where
  pub name : node_name text ≡ true
  pub short : is_long text ≡ false

short_of : (w : Words) (g : Grammar) (n : Node) (o : Option NameParts) → with_parts w g o ≡ Named n → (is_some o ≡ true) × (has_many o ≡ false)
short_of w g n None e = cc
short_of w g n (Some parts) e = (refl, short_parts w g n parts (nat_lt 250 (length parts.2)) e)

pub node_is_read : (w : Words) (g : Grammar) (n : Node) → IsWellFormed w g → IsHeld n → is_some (sort_of g n) ≡ true → (node_named w g (node_text w n) ≡ Some n) × IsShortName (node_text w n)
node_is_read w g n formed held valid =
    let read = node_again w g n formed held valid in
    let short = short_of w g n (parts_of_name (node_text w n)) read in
    (ap node_in read, record { name = short.0; short = short.1 })
