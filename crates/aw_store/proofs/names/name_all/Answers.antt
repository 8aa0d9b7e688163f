use Rattle.aw_store.proofs.NameLemmas.{grows_more, all_named-grown, all_named-take, is_named-at, is_named-grown, named_at, not_ok, only_at}
use Rattle.aw_store.proofs.names.name_all.Goals as goal

pub loop-r-preserved : goal.loop-r-preserved
loop-r-preserved c =
    let inv = c.loop-r.invariant in
    let new = c.name_one.new.names.items in (
      c.name_one.ensures.once,
      grows_more _ _ _ inv.1 c.name_one.ensures.grows,
      only_at c.name_one.result c.args.names.now.items c.loop-r.names.items c.name_one.new.names.items c.args.refs.now c.loop-r.r-index
          c.r-item.result c.loop-r-test.true c.r-item.is inv.2 c.name_one.ensures.ok c.name_one.ensures.err,
      all_named-take new c.args.refs.now c.loop-r.r-index c.r-item.result c.loop-r-test.true c.r-item.is
          (all_named-grown _ new _ c.name_one.ensures.grows inv.3)
          (is_named-at new _ _ c.in_ok-name_one.ensures.slot),
    )

pub returns-in_err-name_one-clause-named : goal.returns-in_err-name_one-clause-named
returns-in_err-name_one-clause-named c = λ w.
    let inv = c.loop-r.invariant in
    absurd (not_ok _ _ c.in_err-name_one.was
    (c.name_one.ensures.named (is_named-grown _ _ _ inv.1 (named_at c.args.names.now.items c.args.refs.now c.loop-r.r-index c.r-item.result c.loop-r-test.true c.r-item.is w))))

pub returns-in_err-name_one-clause-only : goal.returns-in_err-name_one-clause-only
returns-in_err-name_one-clause-only c =
    only_at c.name_one.result c.args.names.now.items c.loop-r.names.items c.name_one.new.names.items c.args.refs.now c.loop-r.r-index c.r-item.result
    c.loop-r-test.true c.r-item.is c.loop-r.invariant.2 c.name_one.ensures.ok c.name_one.ensures.err
