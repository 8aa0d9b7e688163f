-- What is told of one role.
use Rattle.std.specs.Prelude.{◌≡◌, ℕ, Bool, List, ◌++◌, length}
use Rattle.aw_base.specs.declared.declared.Triple.{Triple}
use Rattle.aw_term.specs.Rules.{Grammar}
use Rattle.aw_term.specs.Artifacts.{Words}
use Rattle.aw_grammar.specs.GrammarOf.{grammar_of, words_of}
use Rattle.aw_modular.specs.declared.part.Part.{Part}
use Rattle.aw_check_text.specs.declared.finding.Finding.{Finding}
use Rattle.aw_check_text.specs.ApartTold.{AreFindings, IsFinding, IsFound, all_yes, finding_line, finding_lines, is_yes, words_at}

-- what one role finds was added, and whether it says yes
abbrev pub TellsOne : (offers : List ℕ) (declared : List Triple) → Words → Grammar → (role : ℕ) → List ℕ → List ℕ → Bool → Type 0
TellsOne offers declared w g role old new says =
    (found : Finding) × IsFinding offers declared g role found × (new ≡ old ++ finding_line (words_at w g role) role found) × (says ≡ is_yes found)

-- what a part finds was added, and whether its role says yes
abbrev pub TellsPart : Part → List Triple → List ℕ → List ℕ → Bool → Type 0
TellsPart p declared old new says =
    (found : Finding) × IsFound p.faces.offers declared (grammar_of p.grammar) p.role found × (new ≡ old ++ finding_line (words_of p.grammar) p.role found) × (says ≡ is_yes found)

-- what the first n roles find was told, and whether each of them says yes
abbrev pub TellsFirst : (offers : List ℕ) (declared : List Triple) → Words → Grammar → (n : ℕ) → List ℕ → Bool → Type 0
TellsFirst offers declared w g n text joined =
    (found : List Finding) × (length found ≡ n) × AreFindings offers declared g 0 found × (text ≡ finding_lines w g 0 found) × (joined ≡ all_yes found)
