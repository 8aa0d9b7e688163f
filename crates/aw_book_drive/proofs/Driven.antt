-- A driver behind one move more.
use Rattle.std.proofs.Common.{◌≡◌, List, [], ◌∷◌, ◌++◌, map, sym, ap, ◌∙◌, subst}
use Rattle.std.proofs.lemmas.List.{map-append}
use Rattle.aw_apply.specs.Messages.{Message}
use Rattle.aw_grammar.specs.GrammarOf.{grammar_of}
use Rattle.aw_law_sites.specs.Worlds as V
use Rattle.aw_msg.specs.MessageView.{message_of}
use Rattle.aw_term.specs.Rules.{Grammar}
use Rattle.aw_world.specs.MoveView.{move_of}
use Rattle.aw_world.specs.declared.moves.Move.{Move}
use Rattle.aw_world.specs.declared.workspace.Workspace.{Ghosts}
use Rattle.aw_world.specs.declared.world.World.{World}
use Rattle.aw_book_drive.specs.Driving.{Nearly, Drives}
use Rattle.aw_book_drive.specs.Indexes.{Covers}
use Rattle.aw_book_drive.specs.declared.driver.Driver.{Driver}
use Rattle.aw_book_drive.specs.declared.index.Index.{Index}
use Rattle.aw_book_drive.proofs.Nearly.{step-sends}

module _ {W : Type 0} (f : Ghosts W) where
  -- the messages of a world that is nearly this one
  pub near-messages : (w : World W f) (v : V.World) (g : Grammar) → grammar_of w.accepted.now.grammar ≡ g → Nearly f w v → v.messages ≡ map (message_of g) w.messages
  near-messages w v g same near = sym (ap (λ (u : V.World). u.messages) near.1) ∙ ap (λ g. map (message_of g) w.messages) same

  -- all that is known stays where the world is nearly the same
  pub drives-still : (x y : Driver W f) (v : V.World) (moves : List V.Move) → Drives f x v moves → Nearly f y.world v → y.index ≡ x.index → y.moves.items ≡ x.moves.items → Drives f y v moves
  drives-still x y v moves d near index steps = record {
    world = near;
    index = subst (λ (i : Index). Covers i v.messages) (sym index) d.index;
    moves_are = ap (map move_of) steps ∙ d.moves_are;
  }

  -- and behind a step, once its messages are noted
  pub drives-on : (x y : Driver W f) (v : V.World) (moves : List V.Move) (g : Grammar) (step : Move) (e : V.Move) → grammar_of y.world.accepted.now.grammar ≡ g → Drives f x v moves →
      Nearly f y.world (V.step g v e).world →
      ((front more : List Message) → map (message_of g) y.world.messages ≡ front ++ more → Covers x.index front → Covers y.index (map (message_of g) y.world.messages)) →
      move_of step ≡ e → y.moves.items ≡ x.moves.items ++ step ∷ [] → Drives f y (V.step g v e).world (moves ++ e ∷ [])
  drives-on x y v moves g step e same d near note is all =
      let after = (V.step g v e).world in
      let messages = near-messages y.world after g same near in
      let (sent, more) = step-sends g v e in
      record {
        world = near;
        index = subst (λ (ms : List Message). Covers y.index ms) (sym messages) (note v.messages sent (sym messages ∙ more) d.index);
        moves_are = ap (map move_of) all ∙ (map-append move_of x.moves.items (step ∷ []) ∙ (λ i. d.moves_are i ++ is i ∷ []));
      }
