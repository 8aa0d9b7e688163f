use Rattle.std.proofs.Common.{refl, sym, ◌∙◌}
use Rattle.std.specs.Prelude.{slice_index_or}
use Rattle.std.proofs.lemmas.Bool.{false≢true}
use Rattle.aw_base.specs.declared.declared.Triple.{Triple}
use Rattle.aw_grammar.specs.GrammarOf.{grammar_of}
use Rattle.aw_grammar.proofs.Fits.{each_at}
use Rattle.aw_modular.specs.Refusals.{IsPosition}
use Rattle.aw_modular.proofs.Declarings.{item_got, each_got, positions_more, all_read}
use Rattle.aw_modular.proofs.positions.are_positions.Goals as goal

abbrev zeros : Triple
zeros = record { sort = 0; i = 0; j = 0 }

pub loop-triple-preserved : goal.loop-triple-preserved
loop-triple-preserved c =
    let xs = c.as_slice-triple-items.result.now in
    positions_more (IsPosition (grammar_of c.args.g.now).sorts) c.args.declared.now c.loop-triple.triple-index (slice_index_or xs c.loop-triple.triple-index zeros)
    (item_got xs c.args.declared.now c.loop-triple.triple-index zeros c.as_slice-triple-items.ensures c.loop-triple-test.true) c.loop-triple.invariant
    (c.is_position.ensures.0 c.if-not-is_position.false)

pub returns : goal.returns
returns c = (
  λ yes'. each_got (IsPosition (grammar_of c.args.g.now).sorts) c.args.declared.now c.loop-triple.triple-index
      (all_read c.as_slice-triple-items.result.now c.args.declared.now c.loop-triple.triple-index c.as_slice-triple-items.ensures
      c.loop-triple-test.false) c.loop-triple.invariant,
  λ each. refl,
)

pub returns-then-not-is_position : goal.returns-then-not-is_position
returns-then-not-is_position c = (
  λ e. absurd (false≢true e),
  λ each.
      let xs = c.as_slice-triple-items.result.now in
      absurd (false≢true (sym c.if-not-is_position.true ∙ c.is_position.ensures.1 (each_at (IsPosition (grammar_of c.args.g.now).sorts)
      c.args.declared.now c.loop-triple.triple-index (slice_index_or xs c.loop-triple.triple-index zeros) each
      (item_got xs c.args.declared.now c.loop-triple.triple-index zeros c.as_slice-triple-items.ensures c.loop-triple-test.true)))),
)
