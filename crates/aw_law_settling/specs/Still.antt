-- Still: nothing new can come at any site, whatever was delivered.
use Rattle.std.specs.Prelude.{◌≡◌, ℕ, false, List, [], map, Some}
use Rattle.aw_list.specs.Members.{Member}
use Rattle.aw_term.specs.Artifacts.{Words, artifact_text}
use Rattle.aw_term.specs.Choices.{Choice, undivided, answer}
use Rattle.aw_term.specs.Configs.{Config}
use Rattle.aw_term.specs.Rules.{Grammar}
use Rattle.aw_term.specs.Runs.{worklist}
use Rattle.aw_apply.specs.Messages.{Message, Repeat}
use Rattle.aw_law_sites.specs.Choosing.{answer_to, choose}
use Rattle.aw_law_sites.specs.Homes.{home}
use Rattle.aw_law_sites.specs.Laws.{SameChoices}
use Rattle.aw_law_sites.specs.Reacting.{receive}
use Rattle.aw_law_sites.specs.Worlds.{World, node_of, site_at, gather, Delivers, run, IsQuiet}
use Rattle.aw_law_worlds.specs.Laws.{InEachWorld, HoldsConfig, own_items}
use Rattle.aw_law_worlds.specs.ReadRows.{IsPrinted}

-- each message in each outbox is a repeat where it comes; this speaks of sites alone, and not of what was delivered
abbrev pub IsStill : Grammar → World → Type 0
IsStill g w = (a : ℕ) (m : Message) → Member m (site_at w a).outbox → receive g (site_at w m.to) m ≡ Repeat

-- a quiet world is still, and without loads no other is
abbrev pub QuietIsStill : Grammar → Type 0
QuietIsStill g = InEachWorld g (λ loads w. (IsQuiet w → IsStill g w) × (loads ≡ false → IsStill g w → IsQuiet w))

-- of a still world, deliveries alone make a quiet one, and no site changes
abbrev pub StillBecomesQuiet : Grammar → Type 0
StillBecomesQuiet g = InEachWorld g (λ loads w. IsStill g w →
    (ks : List ℕ) × IsQuiet (run g w (map Delivers ks)) × ((run g w (map Delivers ks)).sites ≡ w.sites) × ((run g w (map Delivers ks)).taken ≡ w.taken))

-- the sites hold the undivided configuration of the choices taken, in any order that is allowed
abbrev pub StillHolds : Grammar → Type 0
StillHolds g = InEachWorld g (λ loads w. IsStill g w → (ds : List Choice) → SameChoices w.taken ds → (d : Config) → undivided g [] ds ≡ Some d → HoldsConfig g w d)

-- a choice has the answer of that configuration
abbrev pub StillAnswers : Grammar → Type 0
StillAnswers g = InEachWorld g (λ loads w. (c : Config) × (undivided g [] w.taken ≡ Some c)
    × (IsStill g w → (x : Choice) → answer_to (choose g (site_at w (home g (node_of x))) x) ≡ answer g c x))

-- the worklists of all sites are that of the configuration
abbrev pub StillWorklists : Grammar → Type 0
StillWorklists g = InEachWorld g (λ loads w. (c : Config) × (undivided g [] w.taken ≡ Some c) × (IsStill g w → own_items g w (gather w.sites) ≡ worklist g c))

-- what is printed from each site's own equations is its artifact text
abbrev pub StillArtifacts : Words → Grammar → Type 0
StillArtifacts words g = InEachWorld g (λ loads w. IsStill g w → (ds : List Choice) → SameChoices w.taken ds → (d : Config) → undivided g [] ds ≡ Some d →
    IsPrinted words g w (artifact_text words d) × ((text : List ℕ) → IsPrinted words g w text → text ≡ artifact_text words d))
