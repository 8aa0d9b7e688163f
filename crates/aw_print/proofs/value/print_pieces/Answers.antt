use Rattle.std.proofs.Common.{◌++◌, ◌∷◌, [], Err, ap, ◌∙◌, refl, sym, arith, rules}
use Rattle.std.proofs.lemmas.List.{nil_from_length}
use Rattle.aw_print.specs.Stacks.{origin, desk, stack_draft}
use Rattle.aw_print.proofs.StackLemmas.{popped, emptied}
use Rattle.aw_print.proofs.PieceLemmas.{made_flushed, sound_same}
use Rattle.aw_print.proofs.GrowingLemmas.{flushed, not_flushed, goes_on, stops_later, hands_on}
use Rattle.aw_print.proofs.value.print_pieces.Goals as goal

pub loop-piece-init : goal.loop-piece-init
loop-piece-init g c =
    let o = origin c.args.g.now (g.F.Facts.map c.args.f.now) (g.F.Facts.names c.args.f.now) in
    let (taken, e, f) = c.in_ok-add_gathered.ensures.ok in
    record {
      underway = flushed (stack_draft o c.args.printer.now) c.args.text.now c.add_gathered.new.text taken c.args.report.now c.add_gathered.new.report e f;
      sound = sound_same o (desk c.args.text.now c.args.report.now c.args.printer.now) (desk c.add_gathered.new.text c.add_gathered.new.report
          c.args.printer.now) refl refl (made_flushed c.args.text.now c.add_gathered.new.text taken c.args.report.now c.add_gathered.new.report e f) c.requires;
      short = c.in_ok-add_gathered.ensures.short;
      within = c.add_gathered.ensures.within;
    }

pub returns-in_err-add_gathered-clause-prints : goal.returns-in_err-add_gathered-clause-prints
returns-in_err-add_gathered-clause-prints g c =
    let o = origin c.args.g.now (g.F.Facts.map c.args.f.now) (g.F.Facts.names c.args.f.now) in
    hands_on _ _ _ _ _ c.from_residual.result (search rules)
    (not_flushed (stack_draft o c.args.printer.now) c.args.text.now c.args.report.now c.add_gathered.new.report _ c.in_err-add_gathered.ensures.err
    (λ e. c.add_gathered.ensures.too_large (c.in_err-add_gathered.was ∙ ap Err e)))

pub print_piece-requires : goal.print_piece-requires
print_piece-requires g c =
    let o = origin c.args.g.now (g.F.Facts.map c.args.f.now) (g.F.Facts.names c.args.f.now) in
    let d = desk c.loop-piece.text c.loop-piece.report c.loop-piece.printer in
    sound_same o d (record d { pieces = c.pop.new.self.items ++ c.in-Some.piece ∷ [] }) (sym c.in-Some.ensures.items) refl refl c.loop-piece.invariant.sound

pub loop-piece-preserved : goal.loop-piece-preserved
loop-piece-preserved g c =
    let o = origin c.args.g.now (g.F.Facts.map c.args.f.now) (g.F.Facts.names c.args.f.now) in
    record {
      underway = goes_on _ _ _ _ _ _ (popped o.words o.equations o.names _ _ _ c.loop-piece.printer.pieces.items c.pop.new.self.items c.in-Some.piece
          c.in-Some.ensures.items c.loop-piece.invariant.underway) c.in_ok-print_piece.ensures.prints;
      sound = c.in_ok-print_piece.ensures.sound;
      short = c.in_ok-print_piece.ensures.work.short;
      within = c.in_ok-print_piece.ensures.work.within;
    }

pub returns-in_err-print_piece-clause-prints : goal.returns-in_err-print_piece-clause-prints
returns-in_err-print_piece-clause-prints g c =
    let o = origin c.args.g.now (g.F.Facts.map c.args.f.now) (g.F.Facts.names c.args.f.now) in
    hands_on _ _ _ _ _ c.from_residual-in_err-print_piece.result (search rules)
    (stops_later _ _ _ _ _ _ (popped o.words o.equations o.names _ _ _ c.loop-piece.printer.pieces.items c.pop.new.self.items c.in-Some.piece
    c.in-Some.ensures.items c.loop-piece.invariant.underway) c.in_err-print_piece.ensures.prints)

pub returns-clause-prints : goal.returns-clause-prints
returns-clause-prints g c =
    let o = origin c.args.g.now (g.F.Facts.map c.args.f.now) (g.F.Facts.names c.args.f.now) in
    let none = nil_from_length c.loop-piece.printer.pieces.items (omega (arith, c.in_default.ensures.cases.0, c.loop-piece.printer.pieces.ok.0)) in
    emptied o.words o.equations o.names _ _ _ c.loop-piece.printer.pieces.items none c.loop-piece.invariant.underway
