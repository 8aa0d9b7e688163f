use Rattle.std.proofs.Common.{◌≡◌, ℕ, List, [], ◌∷◌, ◌++◌, Some, cond, ap, ◌∙◌, rules}
use Rattle.std.specs.HashMap.{get}
use Rattle.aw_name.specs.contracts.node.RefPartialEq.TheImpl as reference
use Rattle.aw_term.specs.Names.{Ref}
use Rattle.aw_book_drive.proofs.Noting.{notes_from}
use Rattle.aw_book_drive.proofs.index.note.Goals as goal

pub returns : goal.returns
returns c =
    let list = c.push.new.self in
    let written : (q : Ref) → get (reference.ghosts).eq c.insert.new.self q ≡ cond ((reference.ghosts).eq c.args.subject q) (Some list) (get (reference.ghosts).eq c.args.numbers.now q) = search rules in
    notes_from c.args.numbers.now c.insert.new.self c.args.subject c.args.number list written
    (c.in_ok-push.ensures.ok ∙ ap (λ (ns : List ℕ). ns ++ c.args.number ∷ []) c.in_ok-noted.ensures)
