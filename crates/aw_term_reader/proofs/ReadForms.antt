-- What a form read stands in front of what it left.
use Rattle.std.proofs.Common.{◌≡◌, ℕ, Bool, true, false, cond, List, [], ◌∷◌, None, Some, nat_eq, refl, ap, ◌∙◌}
use Rattle.std.proofs.lemmas.Bool.{eqb-true}
use Rattle.std.proofs.lemmas.Option.{same_Some}
use Rattle.aw_term_reader.specs.Lexemes.{Lexeme, Name, Number, Node, Quoted, Mark}
use Rattle.aw_term_reader.specs.Forms.{name, number, node, mark, end}

pub name_is : (ls : List Lexeme) (x : List ℕ × List Lexeme) → name ls ≡ Some x → ls ≡ Name x.0 ∷ x.1
name_is [] x e = cc
name_is (Name n ∷ ls) x e = ap (λ (p : List ℕ × List Lexeme). Name p.0 ∷ p.1) (same_Some (n, ls) x e)
name_is (Number n ∷ ls) x e = cc
name_is (Node n ∷ ls) x e = cc
name_is (Quoted n ∷ ls) x e = cc
name_is (Mark n ∷ ls) x e = cc

pub node_is : (ls : List Lexeme) (x : List ℕ × List Lexeme) → node ls ≡ Some x → ls ≡ Node x.0 ∷ x.1
node_is [] x e = cc
node_is (Node n ∷ ls) x e = ap (λ (p : List ℕ × List Lexeme). Node p.0 ∷ p.1) (same_Some (n, ls) x e)
node_is (Name n ∷ ls) x e = cc
node_is (Number n ∷ ls) x e = cc
node_is (Quoted n ∷ ls) x e = cc
node_is (Mark n ∷ ls) x e = cc

pub number_is : (ls : List Lexeme) (x : ℕ × List Lexeme) → number ls ≡ Some x → ls ≡ Number x.0 ∷ x.1
number_is [] x e = cc
number_is (Number n ∷ ls) x e = ap (λ (p : ℕ × List Lexeme). Number p.0 ∷ p.1) (same_Some (n, ls) x e)
number_is (Name n ∷ ls) x e = cc
number_is (Node n ∷ ls) x e = cc
number_is (Quoted n ∷ ls) x e = cc
number_is (Mark n ∷ ls) x e = cc

marked : (byte b : ℕ) (ls rest : List Lexeme) (t : Bool) → nat_eq b byte ≡ t → cond t (Some ls) None ≡ Some rest → Mark b ∷ ls ≡ Mark byte ∷ rest
marked byte b ls rest true h e = let same : ls ≡ rest = cc in ap (λ m. Mark m ∷ ls) (eqb-true b byte h) ∙ ap (λ k. Mark byte ∷ k) same
marked byte b ls rest false h e = cc

pub mark_is : (byte : ℕ) (ls rest : List Lexeme) → mark byte ls ≡ Some rest → ls ≡ Mark byte ∷ rest
mark_is byte [] rest e = cc
mark_is byte (Mark b ∷ ls) rest e = marked byte b ls rest (nat_eq b byte) refl e
mark_is byte (Name n ∷ ls) rest e = cc
mark_is byte (Number n ∷ ls) rest e = cc
mark_is byte (Node n ∷ ls) rest e = cc
mark_is byte (Quoted n ∷ ls) rest e = cc

pub end_is : (ls : List Lexeme) (u : Unit {0}) → end ls ≡ Some u → ls ≡ []
end_is [] u e = refl
end_is (l ∷ ls) u e = cc
