use Rattle.std.proofs.Common.{◌≡◌, ◌∙◌, sym, arith, nat_cmp, inl, inr}
use Rattle.std.specs.Cmp.Lexicographic.{slice_cmp}
use Rattle.aw_name.specs.Front.{front_of}
use Rattle.aw_name.specs.Steps.{step_cmp}
use Rattle.aw_name.proofs.Fronts.{lead_in}
use Rattle.aw_name.proofs.Leads.{by_leads, by_ends, by_rows}
use Rattle.aw_name.proofs.node.TrailOrd.cmp.Goals as goal
use Rattle.aw_name.proofs.node.TrailOrd.cmp.Goals.{then-is_short-via-then-is_short, then-is_short-via-else-is_short+then-is_short-2, then-is_short-via-else-is_short+else-is_short-2+then-mine-theirs}

pub returns-then-is_short : goal.returns-then-is_short
returns-then-is_short c =
    let xs = c.args.self.now in
    let ys = c.args.other.now in
    let mine = c.front-mine.ensures in
    let theirs = c.front-theirs.ensures in
    let first = lead_in xs c.front-mine.result mine.short mine.value in
    let second = lead_in ys c.front-theirs.result theirs.short theirs.value in
    let decided : nat_cmp (front_of xs) (front_of ys) ≡ slice_cmp step_cmp xs ys =
    elim c.then-is_short.branch [
      | then-is_short-via-then-is_short w ↦ by_ends xs ys mine.small theirs.small mine.short theirs.short (inl (c.is_short.ensures.short w.if-is_short.true))
      | then-is_short-via-else-is_short+then-is_short-2 w ↦ by_ends xs ys mine.small theirs.small mine.short theirs.short (inr (w.is_short-else-is_short.ensures.short w.if-is_short-2.true))
      | then-is_short-via-else-is_short+else-is_short-2+then-mine-theirs w ↦ by_leads xs ys mine.small theirs.small mine.short theirs.short (λ e. w.if-mine-theirs.true (first ∙ e ∙ sym second))
    ] in
    c.cmp.ensures ∙ (λ i. nat_cmp (mine.value i) (theirs.value i)) ∙ decided

pub returns : goal.returns
returns c =
    let xs = c.args.self.now in
    let ys = c.args.other.now in
    let mine = c.front-mine.ensures in
    let theirs = c.front-theirs.ensures in
    let first = lead_in xs c.front-mine.result mine.short mine.value in
    let second = lead_in ys c.front-theirs.result theirs.short theirs.value in
    let row = c.rest.ensures in
    let other = c.rest-2.ensures in
    let long = c.is_short.ensures.long c.if-is_short.false in
    let too = c.is_short-else-is_short.ensures.long c.if-is_short-2.false in
    c.cmp-2.ensures ∙ (λ i. slice_cmp nat_cmp (row i) (other i))
    ∙ by_rows xs ys mine.small theirs.small (sym first ∙ c.if-mine-theirs.false ∙ second) (omega (arith, long)) (omega (arith, too))
