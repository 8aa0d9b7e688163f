-- A node whose choices are typed, and its replies as bytes.
use Rattle.std.specs.Prelude.{◌≡◌, ℕ, List, [], ◌∷◌, ◌&&◌, if◌then◌else◌}
use Rattle.aw_term.specs.Artifacts.{Words}
use Rattle.aw_term.specs.Rules.{Grammar}
use Rattle.aw_base.specs.ChoiceFits.{choice_ok}
use Rattle.aw_grammar.specs.GrammarOf.{grammar_of, words_of}
use Rattle.aw_grammar.specs.declared.grammar.Grammar as declared
use Rattle.aw_typed.specs.Types.{Types}
use Rattle.aw_typed.specs.TypeFaults.{arg_ok}
use Rattle.aw_typed.specs.Typing.{types_of}
use Rattle.aw_typed.specs.declared.data.Typed.{Typed}
use Rattle.aw_law_sites.specs.Sites.{Site}
use Rattle.aw_law_nodes.specs.Nodes as N
use Rattle.aw_law_nodes.specs.Told.{told}
use Rattle.aw_msg.specs.Frames as F
use Rattle.aw_msg.specs.MessageView.{message_of}
use Rattle.aw_msg.specs.declared.message.Message.{Message}
use Rattle.aw_msg.specs.Replies.{spelled_reply}
use Rattle.aw_msg.specs.Responses as R

-- what a node stands on: the words of its specification, its types and its grammar
pub record Rules : Type 0 where
  pub words : Words
  pub types : Types
  pub grammar : Grammar

-- those of a grammar of the program and its types
abbrev pub rules_of : declared.Grammar → Typed → Rules
rules_of g t = record { words = words_of g; types = types_of t.types; grammar = grammar_of g }

-- One frame asked of a site. A choice that does not fit the grammar or its types is not valid and changes nothing; all else is as a site answers.
abbrev pub handle : Rules → Site → F.Frame → N.Handled
handle r s (F.Push m) = N.handle r.grammar s (N.Push (message_of r.grammar m))
handle r s (F.Choose c) =
    if choice_ok r.grammar c && arg_ok r.types r.grammar c then N.handle r.grammar s (N.Choose c) else record { site = s; response = N.NotValid }
handle r s (F.Pull place) = N.handle r.grammar s (N.Pull place)
handle r s (F.Listed place) = N.handle r.grammar s (N.Listed place)

-- the bytes of the reply
abbrev pub reply : Rules → Site → F.Frame → List ℕ
reply r s f = spelled_reply r.words (told (handle r s f).response)

-- what a reply does: these are its bytes, and the site is then the one behind the frame
abbrev pub answers : Rules → Site → F.Frame → List ℕ → Site → Type 0
answers r s f x t = (x ≡ reply r s f) × (t ≡ (handle r s f).site)

-- the replies to some frames, and the site behind them
abbrev pub replies : Rules → Site → List F.Frame → List (List ℕ)
replies r s [] = []
replies r s (f ∷ fs) = reply r s f ∷ replies r (handle r s f).site fs

-- the site behind some frames
abbrev pub site_after : Rules → Site → List F.Frame → Site
site_after r s [] = s
site_after r s (f ∷ fs) = site_after r (handle r s f).site fs

-- it replies as each site that it showed, and shows then the site behind the frame
abbrev pub RepliesAs : Grammar → N.Frame → (Site → Type 0) → (Site → Type 0) → R.Response → Type 0
RepliesAs g f old new response = (s : Site) → old s → (response ≡ told (N.handle g s f).response) × new (N.handle g s f).site

-- the same of a message that is pushed
abbrev pub RepliesToPush : Grammar → Message → (Site → Type 0) → (Site → Type 0) → R.Response → Type 0
RepliesToPush g m old new response = RepliesAs g (N.Push (message_of g m)) old new response

-- the same of a typed node
abbrev pub HandlesAs : Rules → F.Frame → (Site → Type 0) → (Site → Type 0) → R.Response → Type 0
HandlesAs r f old new response = (s : Site) → old s → (response ≡ told (handle r s f).response) × new (handle r s f).site

-- and of its bytes
abbrev pub AnswersAs : Rules → F.Frame → (Site → Type 0) → (Site → Type 0) → List ℕ → Type 0
AnswersAs r f old new bytes = (s : Site) → old s → (bytes ≡ reply r s f) × new (handle r s f).site
