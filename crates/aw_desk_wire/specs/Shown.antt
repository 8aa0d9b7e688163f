-- What an office shows, and what it answers.
use Rattle.std.specs.Prelude.{◌≡◌, ℕ, List}
use Rattle.aw_msg.specs.Frames.{Frame}
use Rattle.aw_node.specs.TypedNodes.{Rules, rules_of, AnswersAs}
use Rattle.aw_law_sites.specs.Sites.{Site}
use Rattle.aw_site.specs.Seen.{IsShown}
use Rattle.aw_desk_wire.specs.declared.office.Office.{Office}

-- the office shows this site, and answers by these rules
abbrev pub ShowsBy : Rules → Office → Site → Type 0
ShowsBy r o s = IsShown _ o.site s × (rules_of o.site.space.accepted.now.grammar o.typed.now ≡ r)

-- what a reply does: each site that the office showed replies so, and is shown behind the frame; the grammar and the types stay
abbrev pub OfficeAnswers : Office → Frame → List ℕ → Office → Type 0
OfficeAnswers o f x p =
    AnswersAs (rules_of o.site.space.accepted.now.grammar o.typed.now) f (IsShown _ o.site) (IsShown _ p.site) x
    × (p.site.space.accepted.now.grammar ≡ o.site.space.accepted.now.grammar) × (p.typed.now ≡ o.typed.now)
