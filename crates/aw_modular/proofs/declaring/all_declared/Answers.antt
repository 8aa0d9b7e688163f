use Rattle.std.specs.Prelude.{slice_index_or}
use Rattle.aw_base.specs.declared.declared.Triple.{Triple}
use Rattle.aw_grammar.specs.GrammarOf.{grammar_of}
use Rattle.aw_grammar.proofs.Fits.{each_at}
use Rattle.aw_modular.specs.Declaring.{IsAny}
use Rattle.aw_modular.specs.Refusals.{IsPosition}
use Rattle.aw_modular.proofs.Declarings.{declares_more, declares_all, item_got, all_read}
use Rattle.aw_modular.proofs.declaring.all_declared.Goals as goal

abbrev zeros : Triple
zeros = record { sort = 0; i = 0; j = 0 }

pub add-requires-clause-within : goal.add-requires-clause-within
add-requires-clause-within c =
    let xs = c.as_slice-triple-items.result.now in
    each_at (IsPosition (grammar_of c.args.g.now).sorts) c.args.declared.now c.loop-triple.triple-index _ c.requires
    (item_got xs c.args.declared.now c.loop-triple.triple-index zeros c.as_slice-triple-items.ensures c.loop-triple-test.true)

pub loop-triple-preserved : goal.loop-triple-preserved
loop-triple-preserved c =
    let xs = c.as_slice-triple-items.result.now in
    record {
      made = c.add.ensures.made;
      pairs = declares_more IsAny c.args.declared.now c.loop-triple.triple-index (slice_index_or xs c.loop-triple.triple-index zeros)
          c.loop-triple.all c.add.new.io (item_got xs c.args.declared.now c.loop-triple.triple-index zeros c.as_slice-triple-items.ensures
          c.loop-triple-test.true) c.loop-triple.invariant.pairs c.add.ensures.pairs;
    }

pub returns : goal.returns
returns c s i j =
    let x = declares_all IsAny c.args.declared.now c.loop-triple.triple-index c.loop-triple.all
    (all_read c.as_slice-triple-items.result.now c.args.declared.now c.loop-triple.triple-index c.as_slice-triple-items.ensures
    c.loop-triple-test.false) c.loop-triple.invariant.pairs s i j in
    ((λ has. (x.0 has).1), (λ m. x.1 (tt, m)))
