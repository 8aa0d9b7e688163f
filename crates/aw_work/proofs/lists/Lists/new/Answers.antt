use Rattle.std.proofs.Common.{◌≡◌, ◌∙◌, ◌++◌, ◌-◌, ℕ, List, [], Option, take, take_all, replicate, vec_len, arith, ap, subst, sym}
use Rattle.futures.proofs.LinkedListsLemmas.{list_count-lists_of}
use Rattle.futures.specs.Links.{IsSound}
use Rattle.aw_work.specs.Rings.{all_wide}
use Rattle.aw_work.proofs.RingLemmas.{nobody, closed_sound}
use Rattle.aw_work.proofs.lists.Lists.new.Goals as goal

pub invariant_of-result : goal.invariant_of-result
invariant_of-result c =
    let more = c.args.keys - vec_len c.new-owners.result in
    let all : more ≡ c.args.keys = omega (arith, c.new-owners.ensures.len) in
    let nothing : List (Option ℕ) = [] in
    let made : c.resize.new.self.items ≡ replicate c.args.keys nobody =
    c.in_ok-resize.ensures.items ∙ ap (λ xs. take c.args.keys xs ++ replicate more nobody) c.new-owners.ensures.items
    ∙ ap (λ xs. xs ++ replicate more nobody) (take_all c.args.keys nothing (omega arith)) ∙ ap (λ n. replicate n nobody) all in
    record {
      sound = subst (λ owners. IsSound (all_wide c.loop-at.links.items) owners c.args.lists) (sym made)
          (closed_sound c.loop-at.links.items c.args.lists c.args.keys (omega arith) (λ at below. c.loop-at.invariant.closed at (omega (arith, below))));
      few = omega arith;
    }

pub returns-clause-count : goal.returns-clause-count
returns-clause-count c = list_count-lists_of _ _ _
