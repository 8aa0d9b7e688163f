use Rattle.std.proofs.Common.{rules, ◌≡◌, ◌∷◌, [], refl, get_or}
use Rattle.aw_term_reader.specs.Lexemes.{Name, Mark}
use Rattle.aw_sched.proofs.ByteFronts.{mark_passed, others, says_then}
use Rattle.aw_sched.proofs.ReadArguments.{word_read}
use Rattle.aw_sched.proofs.known.constructor_front.Goals as goal

pub returns-in_ok-with_capacity-in-40 : goal.returns-in_ok-with_capacity-in-40
returns-in_ok-with_capacity-in-40 c =
    let name = c.in-Some.name.now in
    let rest = c.in-Some.rest.now in
    let behind = c.behind_blanks.result.now in
    let opened : get_or behind 0 0 ≡ 40 = search rules in (
      record {
        name = name;
        is = c.in_ok-con.ensures;
        spelled = says_then c.args.bytes.now rest (others behind) (Name name ∷ []) (Mark 40 ∷ []) c.in-Some.ensures
            (mark_passed rest behind 0 40 c.behind_blanks.ensures c.in-40.len_at_least opened (refl, refl));
      },
      search rules,
    )

pub returns-in_default-behind_blanks : goal.returns-in_default-behind_blanks
returns-in_default-behind_blanks c depth room left some e =
    let is = c.in_ok-con in
    word_read c.args.g.now.cons depth room left c.in-Some.name.now is.con is.arity c.new.result c.args.bytes.now c.in-Some.rest.now some e is.ensures
    c.if-arity-eq0.true c.new.ensures c.in-Some.ensures
