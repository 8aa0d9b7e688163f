use Rattle.std.proofs.Common.{map}
use Rattle.aw_grammar.specs.Written.{written_of, child_of_raw}
use Rattle.aw_grammar.specs.Terms.{args_of, depth_of_all, symbols_in_all}
use Rattle.aw_grammar.proofs.ThreeLists.{depth_three, symbols_three}
use Rattle.aw_grammar.proofs.Tests.{room_first, room_second, room_last, none_leaves}
use Rattle.aw_grammar.proofs.rule_kinds.room_after_rule.Goals as goal

pub returns-in_err-left : goal.returns-in_err-left
returns-in_err-left c =
    let w = c.args.rule.now in
    let ps = map written_of w.patterns in let xs = args_of (map child_of_raw w.children) in let rs = map written_of w.results in
    none_leaves _ _ c.from_residual.result c.from_residual.ensures
    (room_first (depth_of_all ps) (depth_of_all xs) (depth_of_all rs) (symbols_in_all ps) (symbols_in_all xs) (symbols_in_all rs) _ _
    (depth_three ps xs rs) (symbols_three ps xs rs) c.in_err-left.ensures)

pub returns-in_err-left-2 : goal.returns-in_err-left-2
returns-in_err-left-2 c =
    let w = c.args.rule.now in
    let ps = map written_of w.patterns in let xs = args_of (map child_of_raw w.children) in let rs = map written_of w.results in
    none_leaves _ _ c.from_residual-in_err-left-2.result c.from_residual-in_err-left-2.ensures
    (room_second (depth_of_all ps) (depth_of_all xs) (depth_of_all rs) (symbols_in_all ps) (symbols_in_all xs) (symbols_in_all rs) _ _
    c.in_ok-left.left (depth_three ps xs rs) (symbols_three ps xs rs) c.in_ok-left.ensures.1 c.in_err-left-2.ensures)

pub returns : goal.returns
returns c =
    let w = c.args.rule.now in
    let ps = map written_of w.patterns in let xs = args_of (map child_of_raw w.children) in let rs = map written_of w.results in
    room_last (depth_of_all ps) (depth_of_all xs) (depth_of_all rs) (symbols_in_all ps) (symbols_in_all xs) (symbols_in_all rs) _ _ c.in_ok-left.left c.in_ok-left-2.left c.room_after_all-2.result
    (depth_three ps xs rs) (symbols_three ps xs rs) c.in_ok-left.ensures.0 c.in_ok-left.ensures.1 c.in_ok-left-2.ensures.0 c.in_ok-left-2.ensures.1 c.room_after_all-2.ensures
