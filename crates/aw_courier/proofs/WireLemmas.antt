-- What a wire tells of a session that was dialed.
use Rattle.std.proofs.Common.{◌≡◌, ℕ, List, [], ◌∷◌, true, Option, None, Some, sym, ap, subst, ◌∙◌}
use Rattle.aw_out.specs.Wires.{Session, Content, Both, unread, Opens, Dials}
use Rattle.aw_out.specs.declared.edge.Dialed.TheVariants.{Opened}
use Rattle.aw_session.specs.Sessions.{Follow}
use Rattle.aw_session.specs.Talking.{Grows}
use Rattle.aw_session.proofs.Servings.{session_with, follow-one}

dialed-opens : (role : ℕ) (a b : Option Content) → Both (Dials role Opened) a b → Both (Opens role true) a b
dialed-opens role None None g = tt
dialed-opens role None (Some b) g = absurd g
dialed-opens role (Some a) None g = absurd g
dialed-opens role (Some a) (Some b) g = g.0

dialed-is : (x : Session) (role : ℕ) (left : List ℕ) → x.role ≡ role → x.dialed ≡ true → session_with role true x.read x.written x.failed left ≡ record x { left = left }
dialed-is x role left i d =
    ap (λ q. session_with q true x.read x.written x.failed left) (sym i) ∙ ap (λ e. session_with x.role e x.read x.written x.failed left) (sym d)

-- a session was dialed, and this went over the wire in it
pub follow-dialed : (x : Session) (role : ℕ) (a b c : Option Content) → x.role ≡ role → x.dialed ≡ true → Both (Dials role Opened) a b → Both (Grows x.read x.written x.failed) b c →
    Both (Follow (record x { left = unread c } ∷ [])) a c
follow-dialed x role a b c i d g h =
    subst (λ (y : Session). Both (Follow (y ∷ [])) a c) (dialed-is x role (unread c) i d) (follow-one role true x.read x.written x.failed a b c (dialed-opens role a b g) h)
