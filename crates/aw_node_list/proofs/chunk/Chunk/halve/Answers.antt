use Rattle.std.proofs.Common.{◌≡◌, ◌-◌, ◌++◌, [], length, take, drop, sym, ap, ◌∙◌}
use Rattle.std.proofs.lemmas.List.{take-append-drop, take_rest}
use Rattle.aw_node_list.proofs.chunk.Chunk.halve.Goals as goal

pub returns-clause-whole : goal.returns-clause-whole
returns-clause-whole c =
    let xs = c.self.inside.numbers.items in
    let ds = c.deref.result.now in
    let e : c.upper.inside.numbers.items ≡ [] = c.upper.view_is ∙ c.requires.empty in
    let f : c.extend_from_slice.new.self.items ≡ drop 256 xs =
    c.in-Ok.ensures.items ∙ ap (λ z. z ++ take (length ds - 256) (drop 256 ds)) e ∙ take_rest ds 256 ∙ ap (drop 256) c.deref.ensures.value in
    sym c.self.view_is ∙ sym (take-append-drop 256 xs) ∙ ap (λ z. z ++ drop 256 xs) (sym c.truncate.ensures.items) ∙ ap (λ z. c.truncate.new.self.items ++ z) (sym f)
