-- What a site makes of a message before it reacts, and what it does where something of it is new.
use Rattle.std.specs.Prelude.{◌≡◌, true, false, [], map, Option, None, Some}
use Rattle.aw_term.specs.Rules.{Grammar}
use Rattle.aw_store.specs.EquationView.{equation_of}
use Rattle.aw_apply.specs.Messages as P
use Rattle.aw_apply.specs.Messages.{carried}
use Rattle.aw_msg.specs.declared.message.MsgKind.{MsgKind}
use Rattle.aw_law_sites.specs.Reacting.{receive}
use Rattle.aw_law_sites.specs.Receiving.{is_mine, clash, is_repeat}
use Rattle.aw_law_sites.specs.SiteEvents.{after_message}
use Rattle.aw_law_sites.specs.Sites.{Site}
use Rattle.aw_law_sites.specs.ValidNames.{message_ok}
use Rattle.aw_site_repeat.specs.Views.{kind_of}
use Rattle.aw_site.specs.Answers.{IsReceived, sent_for}
use Rattle.aw_site.specs.Views.{clash_of}
use Rattle.aw_site.specs.declared.judging.Judged.{Judged}
use Rattle.aw_site.specs.declared.judging.Judged.TheVariants.{BadName, NotMine, Clashes, Repeat, Fresh}
use Rattle.aw_site.specs.declared.judging.Sight.{Sight}
use Rattle.aw_site.specs.declared.judging.Sight.TheVariants as sight
use Rattle.aw_site.specs.declared.received.Received.{Received}
use Rattle.aw_site.specs.declared.received.Received.TheVariants as answer

-- the message is valid and about this role, nothing of it contradicts, and something of it is new
pub record IsFresh (g : Grammar) (s : Site) (m : P.Message) : Type 0 where
  pub ok : message_ok g s.role m ≡ true
  pub mine : is_mine g s.role m ≡ true
  pub free : clash s m.kind ≡ None
  pub new : is_repeat s m.kind ≡ false

-- the first that holds
abbrev pub Judges : Grammar → Site → P.Message → Judged → Type 0
Judges g s m BadName = message_ok g s.role m ≡ false
Judges g s m NotMine = (message_ok g s.role m ≡ true) × (is_mine g s.role m ≡ false)
Judges g s m (Clashes c) = (message_ok g s.role m ≡ true) × (is_mine g s.role m ≡ true) × (clash s m.kind ≡ Some (clash_of c))
Judges g s m Repeat = (message_ok g s.role m ≡ true) × (is_mine g s.role m ≡ true) × (clash s m.kind ≡ None) × (is_repeat s m.kind ≡ true)
Judges g s m Fresh = IsFresh g s m

-- the answer where nothing is new
abbrev pub answered : Judged → Option Received
answered BadName = Some answer.BadName
answered NotMine = Some answer.NotMine
answered (Clashes c) = Some (answer.Conflict c.kept c.came)
answered Repeat = Some answer.Repeat
answered Fresh = None

-- the plain site answers so, stays as it is and sends nothing, or something of the message is new
abbrev pub Sees : Grammar → Site → P.Message → Sight → Type 0
Sees g s m (sight.Answered r) = IsReceived r (receive g s m) × (after_message s (receive g s m) ≡ s) × (sent_for (receive g s m) ≡ [])
Sees g s m (sight.Fresh es) = IsFresh g s m

-- where something is new, these equations came
abbrev pub Carries : Grammar → MsgKind → Sight → Type 0
Carries g kind (sight.Answered r) = Unit {0}
Carries g kind (sight.Fresh es) = map equation_of es ≡ carried (kind_of g kind)
