use Rattle.std.proofs.Common.{◌≡◌, [], refl, sym, ap, ◌∙◌, subst, rules}
use Rattle.aw_accept.specs.declared.accepted.Accepted.{Accepted}
use Rattle.aw_grammar.specs.GrammarOf.{grammar_of}
use Rattle.aw_typed.specs.Typing.{IsMadeFor, types_of}
use Rattle.aw_book_drive.specs.Driving.{Uses}
use Rattle.aw_book_drive.specs.declared.joining.Joined.{Joined}
use Rattle.aw_book_drive.proofs.Beginning.{nothing, stands-first}
use Rattle.aw_book_drive.proofs.Ending.{all-joined}
use Rattle.aw_book_drive.proofs.joining.join.Goals as goal

pub go_through-requires : goal.go_through-requires
go_through-requires g c = record {
  set = record {
    usable = subst (λ (a : Accepted). IsMadeFor (grammar_of a.grammar) c.args.typed.now) (sym c.in_ok-new.ensures.accepted) c.requires;
    many = c.in_ok-lanes.ensures.lanes.many;
  };
}

pub returns-clause-joined : goal.returns-clause-joined
returns-clause-joined g c =
    let f = g.W.Workspace in
    let gives = g.S.EventSource.gives in
    let firsts = c.args.sources.now in
    let sources = c.open_lanes.new.sources in
    let t = types_of c.args.typed.now.types in
    let d = grammar_of c.args.accepted.now.grammar in
    let many = c.open_lanes.ensures.many in
    let fresh = c.in_ok-lanes.ensures.lanes in
    let same = ap (λ (a : Accepted). grammar_of a.grammar) c.in_ok-new.ensures.accepted in
    let x : Joined g.row.W.Denot f = record { driver = record { typed = c.args.typed; world = c.in_ok-new.field-0; index = c.new-2.result; moves = c.new-3.result }; lanes = c.in_ok-lanes.lanes } in
    let none : c.new-3.result.items ≡ [] = search rules in
    let u : Uses x.driver t d = record { types = refl; grammar = same } in
    all-joined f gives g.met.S.EventSource.some t d firsts c.go_through.new.joined c.go_through.new.sources (c.go_through.ensures.many ∙ many) (c.go_through.ensures.lanes ∙ (fresh.many ∙ sym c.go_through.ensures.many))
    (c.in_ok-go_through.ensures.goes t d u firsts (nothing sources) []
    (stands-first f gives t d x firsts sources many fresh c.in_ok-new.ensures.empty c.new-2.ensures none))
