use Rattle.std.proofs.Common.{◌≡◌, ◌∷◌, ◌∙◌, List, length, sym, ap, subst, arith, remove, slice_index_or}
use Rattle.aw_modular.specs.declared.yes.RoleYes.{RoleYes}
use Rattle.aw_modular.proofs.Wholes.{first_one, first_and_others, gathered_all, gathered_other}
use Rattle.aw_modular.proofs.join_parts.gathered.Goals as goal

pub remove-first-requires : goal.remove-first-requires
remove-first-requires c = omega (arith, first_one c.args.parts c.requires, ap length c.into_vec-others.ensures, c.into_vec-others.result.ok.0)

pub returns-in-Some-clause-differs : goal.returns-in-Some-clause-differs
returns-in-Some-clause-differs c =
    let parts = c.args.parts in
    let first = c.remove-first.result in
    let items = c.into_vec-others.ensures in
    let value = subst (λ (ps : List RoleYes). first ≡ slice_index_or ps 0 first) items c.remove-first.ensures.value in
    let is = first_and_others parts first c.requires value ∙ ap (λ ys. first ∷ ys) (sym (c.remove-first.ensures.items ∙ ap (λ ps. remove ps 0) items)) in
    gathered_other parts first c.remove-first.new.self.items c.taken_apart-kept.result.0 c.in-Some.came c.taken_apart-kept.result.1
    c.take_all_in.new.rules c.in_ok-came.field-0 is c.taken_apart-kept.ensures.shared c.in-Some.is c.in_ok-came.ensures

pub returns-clause-same : goal.returns-clause-same
returns-clause-same c =
    let parts = c.args.parts in
    let first = c.remove-first.result in
    let items = c.into_vec-others.ensures in
    let value = subst (λ (ps : List RoleYes). first ≡ slice_index_or ps 0 first) items c.remove-first.ensures.value in
    let is = first_and_others parts first c.requires value ∙ ap (λ ys. first ∷ ys) (sym (c.remove-first.ensures.items ∙ ap (λ ps. remove ps 0) items)) in
    gathered_all parts first c.remove-first.new.self.items c.taken_apart-kept.result.0 c.taken_apart-kept.result.1 c.take_all_in.new.rules
    c.in_ok-came.field-0 is c.taken_apart-kept.ensures.shared c.taken_apart-kept.ensures.rules c.in_default.is c.in_ok-came.ensures
