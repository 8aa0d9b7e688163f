use Rattle.std.proofs.Common.{List, map, ap, sym, ◌∙◌}
use Rattle.std.proofs.lemmas.List.{length-map}
use Rattle.aw_term.specs.Names.{Ref}
use Rattle.aw_term.specs.Trees.{Con}
use Rattle.aw_term.specs.Rules.{get}
use Rattle.aw_term.specs.Views.{term_of}
use Rattle.aw_store.specs.Equations.{Is}
use Rattle.aw_store.specs.EquationView.{equation_of}
use Rattle.aw_apply.specs.Made.{Laid, lay_list, no_ref}
use Rattle.aw_apply.specs.MadeView.{with_body}
use Rattle.aw_apply.proofs.LayLemmas.{written}
use Rattle.aw_apply.proofs.make.lay_con.Goals as goal

pub returns-clause-equations : goal.returns-clause-equations
returns-clause-equations c =
    let n = c.args.node.now in
    let l = lay_list n (get (no_ref n) c.args.refs.now) c.args.k (map term_of c.args.parts.now) in
    written (map equation_of c.args.equations.now.items) (map equation_of c.add_place.new.equations.items)
    (map equation_of c.write_con.new.equations.items) c.in_ok-at.at (record { left = c.args.left; body = _ })
    (Is (Con c.args.con) l.roots) l.equations (c.in_ok-at.ensures.place ∙ sym (length-map c.args.equations.now.items equation_of)) c.in_ok-at.ensures.equations
    (c.in_ok-write_con.ensures ∙ ap (λ (z : Laid (List Ref)). with_body c.in_ok-at.at (Is (Con c.args.con) z.roots) z.equations) c.in_ok-all.ensures)

pub returns-clause-next : goal.returns-clause-next
returns-clause-next c = ap (λ (z : Laid (List Ref)). z.next) c.in_ok-all.ensures
