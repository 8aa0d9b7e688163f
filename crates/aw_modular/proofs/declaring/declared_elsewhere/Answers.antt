use Rattle.std.specs.Prelude.{slice_index_or}
use Rattle.aw_base.specs.declared.declared.Triple.{Triple}
use Rattle.aw_grammar.specs.GrammarOf.{grammar_of}
use Rattle.aw_grammar.proofs.Fits.{each_at}
use Rattle.aw_modular.specs.Declaring.{IsElsewhere}
use Rattle.aw_modular.specs.Refusals.{IsPosition}
use Rattle.aw_modular.proofs.Declarings.{declares_more, declares_all, item_got, all_read}
use Rattle.aw_modular.proofs.declaring.declared_elsewhere.Goals as goal

abbrev zeros : Triple
zeros = record { sort = 0; i = 0; j = 0 }

pub add_elsewhere-requires-clause-within : goal.add_elsewhere-requires-clause-within
add_elsewhere-requires-clause-within c =
    let xs = c.as_slice-triple-items.result.now in
    each_at (IsPosition (grammar_of c.args.g.now).sorts) c.args.declared.now c.loop-triple.triple-index _ c.requires
    (item_got xs c.args.declared.now c.loop-triple.triple-index zeros c.as_slice-triple-items.ensures c.loop-triple-test.true)

pub loop-triple-preserved : goal.loop-triple-preserved
loop-triple-preserved c =
    let xs = c.as_slice-triple-items.result.now in
    record {
      made = c.add_elsewhere.ensures.made;
      pairs = declares_more (IsElsewhere (grammar_of c.args.g.now) c.args.role) c.args.declared.now c.loop-triple.triple-index
          (slice_index_or xs c.loop-triple.triple-index zeros) c.loop-triple.others c.add_elsewhere.new.io
          (item_got xs c.args.declared.now c.loop-triple.triple-index zeros c.as_slice-triple-items.ensures c.loop-triple-test.true)
          c.loop-triple.invariant.pairs c.add_elsewhere.ensures.pairs;
    }

pub returns-clause-exact : goal.returns-clause-exact
returns-clause-exact c = declares_all (IsElsewhere (grammar_of c.args.g.now) c.args.role) c.args.declared.now c.loop-triple.triple-index
    c.loop-triple.others (all_read c.as_slice-triple-items.result.now c.args.declared.now c.loop-triple.triple-index c.as_slice-triple-items.ensures
    c.loop-triple-test.false) c.loop-triple.invariant.pairs
