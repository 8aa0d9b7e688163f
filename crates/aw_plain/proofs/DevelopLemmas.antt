-- Rows that are done.
use Rattle.std.proofs.Common.{◌≡◌, Bool, true, false, cond}
use Rattle.aw_term.specs.Names.{Node, node_eq}
use Rattle.aw_term.specs.Configs.{State, Row, done_row}

-- a row with these parts is the row done
pub done_parts : (n : Node) (s : State) (q r : Row) → r.node ≡ q.node → r.sort ≡ q.sort → r.inherited ≡ q.inherited → r.results ≡ q.results → r.state ≡ (done_row n s q).state → r ≡ done_row n s q
done_parts n s q r en es ei er et = cases (node_eq n q.node) et
  where
    cases : (b : Bool) → r.state ≡ (cond b (record q { state = s }) q).state → r ≡ cond b (record q { state = s }) q
    cases true e = λ i. record { node = en i; sort = es i; inherited = ei i; results = er i; state = e i }
    cases false e = λ i. record { node = en i; sort = es i; inherited = ei i; results = er i; state = e i }
