-- The last session of a wire.
use Rattle.std.proofs.Common.{◌≡◌, ℕ, List, [], ◌∷◌, ◌++◌, Option, None, Some, refl, ap, ◌∙◌}
use Rattle.aw_out.specs.Wires.{Session, Content, Both, with_last, last_left, unread, ReadsInSession}
use Rattle.aw_out.specs.declared.edge.Got.TheVariants.{End}

-- the last of some sessions is changed
pub with_last-append : (f : Session → Session) (xs : List Session) (x : Session) → with_last f (xs ++ x ∷ []) ≡ xs ++ f x ∷ []
with_last-append f [] x = refl
with_last-append f (y ∷ []) x = refl
with_last-append f (y ∷ z ∷ zs) x = ap (λ (t : List Session). y ∷ t) (with_last-append f (z ∷ zs) x)

-- what is left in the last of some sessions
pub last_left-append : (xs : List Session) (x : Session) → last_left (xs ++ x ∷ []) ≡ x.left
last_left-append [] x = refl
last_left-append (y ∷ []) x = refl
last_left-append (y ∷ z ∷ zs) x = last_left-append (z ∷ zs) x

-- nothing is left where a read told the end
pub end-unread : (buf : List ℕ) (a b : Option Content) → Both (ReadsInSession End buf) a b → unread b ≡ []
end-unread buf None None h = refl
end-unread buf None (Some b) h = absurd h
end-unread buf (Some a) None h = absurd h
end-unread buf (Some a) (Some b) h = ap (λ (c : Content). last_left c.passed) h.1 ∙ h.0
