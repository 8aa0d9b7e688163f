-- A world of the program stays one that events lead to.
use Rattle.std.proofs.Common.{◌≡◌, ℕ, ◌<◌, Bool, List, [], ◌∷◌, ◌++◌, ap, sym, ◌∙◌}
use Rattle.std.specs.Prelude.{slice_get, Some, Result, Ok, Err, IfOk, OnErr, option_map}
use Rattle.std.proofs.Math.Logic.{∥∥₁_elim, ∥∥₁_map}
use Rattle.std.specs.Coded.{le_prop}
use Rattle.std.proofs.lemmas.Option.{slice_get-map}
use Rattle.aw_grammar.specs.declared.grammar.Grammar.{Grammar}
use Rattle.aw_grammar.specs.GrammarOf.{grammar_of, words_of}
use Rattle.aw_choice.specs.declared.choice.Choice.{Choice}
use Rattle.aw_accept.specs.declared.accepted.Accepted.{Accepted}
use Rattle.aw_law_sites.specs.Worlds as V
use Rattle.aw_law_sites.specs.Worlds.{MayCome}
use Rattle.aw_world.specs.declared.workspace.Workspace.{Ghosts}
use Rattle.aw_msg.specs.declared.message.Message.{Message}
use Rattle.aw_world.specs.declared.moves.Reply.{Reply}
use Rattle.aw_msg.specs.MessageView.{message_of}
use Rattle.aw_world.specs.Seen.{Steps, IsReached, world_of}
use Rattle.aw_law_worlds.proofs.Nearing.{after_more, addressed}

pub reached_next : {W E : Type 0} (f : Ghosts W) (d : Grammar) (loads : Bool) (ws xs : List W) (ms ns : List Message) (bs cs : List Bool) (ts us : List Choice) (e : V.Move) (r : Result Reply E)
    → MayCome (grammar_of d) e
    → IfOk r (λ x. Steps f d xs ns cs us (V.step (grammar_of d) (world_of f d ws ms bs ts) e) x)
    → OnErr r (world_of f d xs ns cs us ≡ world_of f d ws ms bs ts)
    → ∥ IsReached f d loads ws ms bs ts ∥₁ → ∥ IsReached f d loads xs ns cs us ∥₁
reached_next f d loads ws xs ms ns bs cs ts us e (Ok x) may ok err h = ∥∥₁_map h (λ r.
    let es = r.0 in
    let n = after_more (grammar_of d) loads es e r.1 may in
    (es ++ e ∷ [], n.0, ok.world ∙ ap (λ (v : V.World). (V.step (grammar_of d) v e).world) r.2 ∙ sym n.1))
reached_next f d loads ws xs ms ns bs cs ts us e (Err x) may ok err h = ∥∥₁_map h (λ r. (r.0, r.1, err ∙ r.2))

-- each message is for one of the roles
pub reached_addressed : {W : Type 0} (f : Ghosts W) (a : Accepted) (loads : Bool) (ws : List W) (ms : List Message) (bs : List Bool) (ts : List Choice)
    → ∥ IsReached f a.grammar loads ws ms bs ts ∥₁ → (i : ℕ) (m : Message) → slice_get ms i ≡ Some m → m.to < (grammar_of a.grammar).roles
reached_addressed f a loads ws ms bs ts h i m e =
    let d = a.grammar in
    let p = grammar_of d in
    ∥∥₁_elim d.well_formed le_prop (λ w. ∥∥₁_elim a.sound le_prop (λ s. ∥∥₁_elim h le_prop (λ r.
    addressed (words_of d) p (w, s) loads r.0 r.1 i (message_of p m) (ap (λ (u : V.World). slice_get u.messages i) (sym r.2) ∙ slice_get-map (message_of p) ms i ∙ ap (option_map (message_of p)) e))))
