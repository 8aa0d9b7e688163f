use Rattle.std.proofs.Common.{◌∙◌, ◌+◌, ◌≤◌, map, drop, ap, subst}
use Rattle.aw_grammar.specs.Written.{written_of, child_of_raw}
use Rattle.aw_grammar.specs.Terms.{args_of, depth_of_all, symbols_in_all}
use Rattle.aw_grammar.proofs.Appends.{depth_append, symbols_append}
use Rattle.aw_grammar.proofs.Steps.{rest_is}
use Rattle.aw_grammar.proofs.SizeLemmas.{room_stops, goes_symbols, goes_shallow, goes_among}
use Rattle.aw_grammar.proofs.children.room_after_args.Goals as goal

pub returns-in_err-left : goal.returns-in_err-left
returns-in_err-left c =
    let xs = c.as_slice-child-items.result.now in
    let i = c.loop-child.child-index in
    let args = map written_of c.child-item.result.args in
    let rest = args_of (map child_of_raw (drop (i + 1) xs)) in
    let inv = c.loop-child.invariant in
    let deep = rest_is (λ cs. depth_of_all (args_of (map child_of_raw cs))) xs i c.child-item.result c.loop-child-test.true c.child-item.is ∙ depth_append args rest in
    let many = rest_is (λ cs. symbols_in_all (args_of (map child_of_raw cs))) xs i c.child-item.result c.loop-child-test.true c.child-item.is ∙ symbols_append args rest in
    let all = args_of (map child_of_raw c.args.children.now) in
    room_stops c.args.room c.loop-child.left (depth_of_all all) (symbols_in_all all) (depth_of_all args) (symbols_in_all args) (depth_of_all rest) (symbols_in_all rest)
    c.from_residual.result c.from_residual.ensures (inv.symbols ∙ ap (λ n. c.args.room + n) many) (subst (λ n. n ≤ depth_of_all all) deep inv.among) c.in_err-left.ensures

pub loop-child-preserved : goal.loop-child-preserved
loop-child-preserved c =
    let xs = c.as_slice-child-items.result.now in
    let i = c.loop-child.child-index in
    let args = map written_of c.child-item.result.args in
    let rest = args_of (map child_of_raw (drop (i + 1) xs)) in
    let inv = c.loop-child.invariant in
    let fits = c.in_ok-left.ensures in
    let deep = rest_is (λ cs. depth_of_all (args_of (map child_of_raw cs))) xs i c.child-item.result c.loop-child-test.true c.child-item.is ∙ depth_append args rest in
    let many = rest_is (λ cs. symbols_in_all (args_of (map child_of_raw cs))) xs i c.child-item.result c.loop-child-test.true c.child-item.is ∙ symbols_append args rest in
    record {
      symbols = goes_symbols _ _ _ _ _ _ _ inv.symbols many fits.1;
      shallow = goes_shallow _ _ _ _ inv.shallow deep fits.0;
      among = goes_among _ _ _ _ inv.among deep;
    }
