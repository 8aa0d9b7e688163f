use Rattle.std.proofs.Common.{rules, ◌≡◌, ◌∙◌, false, length, None, slice_get, refl, sym, subst}
use Rattle.std.proofs.lemmas.List.Sorted.{IsPartitionPoint-from_clause}
use Rattle.std.proofs.lemmas.Option.{slice_get_read, slice_get_past, same_Some}
use Rattle.aw_term.specs.Names.{Ref, ref_lt, ref_eq}
use Rattle.aw_site.proofs.Ordering.{before_first, put_at, stands_at}
use Rattle.aw_site.proofs.wanted.place_of.Goals as goal

pub returns-in-Some-clause-stands : goal.returns-in-Some-clause-stands
returns-in-Some-clause-stands c = λ e.
    let xs = c.args.refs.now in
    let r = c.args.r.now in
    let at = c.partition_point-at.result in
    let point = IsPartitionPoint-from_clause (λ (x : Ref). ref_lt x r) _ _ c.partition_point-at.ensures.partitioned (before_first xs r c.requires) (λ a q p k. search rules) in
    let found = c.in-Some.ensures.lookup in
    sym (stands_at xs r at c.in-Some.x.now point.0 (slice_get_read xs (length xs) at c.in-Some.x.now refl found.3.0 found.1) (sym c.is_ref.ensures ∙ c.if-is_ref.true))

pub returns-in_default-clause-goes : goal.returns-in_default-clause-goes
returns-in_default-clause-goes c =
    let xs = c.args.refs.now in
    let r = c.args.r.now in
    let at = c.partition_point-at.result in
    let point = IsPartitionPoint-from_clause (λ (x : Ref). ref_lt x r) _ _ c.partition_point-at.ensures.partitioned (before_first xs r c.requires) (λ a q p k. search rules) in
    let found = c.in-Some.ensures.lookup in
    let here = slice_get_read xs (length xs) at c.in-Some.x.now refl found.3.0 found.1 in
    let differ = sym c.is_ref.ensures ∙ c.if-is_ref.false in
    put_at xs r at c.partition_point-at.ensures.bound point.0 point.1 (λ x there. subst (λ (y : Ref). ref_eq r y ≡ false) (same_Some _ _ (sym here ∙ there)) differ)

pub returns-in_default-2-clause-goes : goal.returns-in_default-2-clause-goes
returns-in_default-2-clause-goes c =
    let xs = c.args.refs.now in
    let r = c.args.r.now in
    let at = c.partition_point-at.result in
    let point = IsPartitionPoint-from_clause (λ (x : Ref). ref_lt x r) _ _ c.partition_point-at.ensures.partitioned (before_first xs r c.requires) (λ a q p k. search rules) in
    let past : slice_get xs at ≡ None = slice_get_past xs at (rw c.in_default.is at c.get.ensures.lookup.3) in
    put_at xs r at c.partition_point-at.ensures.bound point.0 point.1 (λ x there. absurd cc)
