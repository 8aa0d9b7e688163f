-- What stays from one step to the next.
use Rattle.std.proofs.Common.{◌≡◌, List, length, refl, sym, ap, ◌∙◌, subst}
use Rattle.aw_accept.specs.declared.accepted.Accepted.{Accepted}
use Rattle.aw_grammar.specs.GrammarOf.{grammar_of}
use Rattle.aw_term.specs.Rules.{Grammar}
use Rattle.aw_typed.specs.Types.{Types}
use Rattle.aw_typed.specs.Typing.{IsMadeFor, types_of}
use Rattle.aw_typed.specs.declared.data.Typed.{Typed}
use Rattle.aw_world.specs.declared.workspace.Workspace.{Ghosts}
use Rattle.aw_book_drive.specs.Driving.{grammar_in, types_in, IsUsable, Uses}
use Rattle.aw_book_drive.specs.Joins.{IsSet}
use Rattle.aw_book_drive.specs.declared.driver.Driver.{Driver}
use Rattle.aw_book_drive.specs.declared.joining.Joined.{Joined}

module _ {W : Type 0} {f : Ghosts W} where
  pub same-grammar : (x y : Driver W f) → y.world.accepted.now ≡ x.world.accepted.now → grammar_in y ≡ grammar_in x
  same-grammar x y e = ap (λ (a : Accepted). grammar_of a.grammar) e

  pub same-types : (x y : Driver W f) → y.typed.now ≡ x.typed.now → types_in y ≡ types_in x
  same-types x y e = ap (λ (t : Typed). types_of t.types) e

  pub usable-on : (x y : Driver W f) → y.world.accepted.now ≡ x.world.accepted.now → y.typed.now ≡ x.typed.now → IsUsable x → IsUsable y
  usable-on x y a t u = subst (λ g. IsMadeFor g y.typed.now) (sym (same-grammar x y a)) (subst (λ (t : Typed). IsMadeFor (grammar_in x) t) (sym t) u)

  pub set-on : {S : Type 0} (x y : Joined W f) (sources new : List S) → y.driver.world.accepted.now ≡ x.driver.world.accepted.now → y.driver.typed.now ≡ x.driver.typed.now →
      length y.lanes.items ≡ length x.lanes.items → length new ≡ length sources → IsSet x sources → IsSet y new
  set-on x y sources new a t lanes many s = record { usable = usable-on x.driver y.driver a t s.usable; many = lanes ∙ (s.many ∙ sym many) }

-- what holds of its own types and grammar holds of those that it uses
pub uses-all : {W : Type 0} {f : Ghosts W} (x : Driver W f) (t : Types) (g : Grammar) (P : Types → Grammar → Type 0) → Uses x t g → P (types_in x) (grammar_in x) → P t g
uses-all x t g P u p = subst (λ (s : Types). P s g) u.types (subst (λ (d : Grammar). P (types_in x) d) u.grammar p)

-- it uses the same as before
pub uses-on : {W : Type 0} {f : Ghosts W} (x y : Driver W f) (t : Types) (g : Grammar) → y.world.accepted.now ≡ x.world.accepted.now → y.typed.now ≡ x.typed.now → Uses x t g → Uses y t g
uses-on x y t g a b u = record { types = same-types x y b ∙ u.types; grammar = same-grammar x y a ∙ u.grammar }

-- it uses its own
pub uses-own : {W : Type 0} {f : Ghosts W} (x : Driver W f) → Uses x (types_in x) (grammar_in x)
uses-own x = record { types = refl; grammar = refl }
