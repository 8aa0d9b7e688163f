use Rattle.std.proofs.Common.{◌≤◌, ◌+◌, map, ap, ◌∙◌, arith, vec_len, vec_capacity}
use Rattle.std.proofs.lemmas.List.{map_push}
use Rattle.aw_store.specs.EquationView.{equation_of}
use Rattle.aw_store.specs.NamedRefs.{has_names}
use Rattle.aw_store.specs.StoreView.{all_few}
use Rattle.aw_store.specs.ListStore.{lacking}
use Rattle.aw_store.proofs.NameLemmas.{has_names-grown, has_names-push, not_ok}
use Rattle.aw_store.proofs.StoreLemmas.{all_few-push}
use Rattle.aw_store.proofs.AddLemmas.{has_names-member, member_lacks, kept_all, kept_named, kept_lacking, kept_room}
use Rattle.aw_store.proofs.adding.add_new.Goals as goal

pub returns-in_err-name_equation-clause-sound : goal.returns-in_err-name_equation-clause-sound
returns-in_err-name_equation-clause-sound c =
    let s = c.requires.sound in
    let ms = c.name_equation.new.names.items in
    let g = c.name_equation.ensures.grows in
    record {
      once = c.name_equation.ensures.once;
      named = has_names-grown _ ms _ g s.named;
      few = s.few;
      ready_named =
          has_names-grown _ ms _ g (kept_named _ _ _ _ c.keep_ready.ensures s.ready_named);
    }

pub returns-in_err-name_equation-clause-room : goal.returns-in_err-name_equation-clause-room
returns-in_err-name_equation-clause-room c = omega (
  arith,
  c.requires.room,
  kept_lacking (map equation_of c.args.equations.now.items)
      c.args.ready.now.items c.keep_ready.new.ready.items c.args.e.left c.keep_ready.ensures,
)

pub returns-in_err-name_equation-clause-ready : goal.returns-in_err-name_equation-clause-ready
returns-in_err-name_equation-clause-ready c = λ m. kept_all _ _ c.args.e c.keep_ready.ensures m

pub returns-in_err-name_equation-clause-sure : goal.returns-in_err-name_equation-clause-sure
returns-in_err-name_equation-clause-sure c = λ m. absurd (not_ok _ _ c.in_err-name_equation.was (c.name_equation.ensures.named (has_names-member _ _ _ m c.requires.sound.ready_named)))

pub returns-in_err-push-clause-sound : goal.returns-in_err-push-clause-sound
returns-in_err-push-clause-sound c =
    let s = c.requires.sound in
    let ms = c.name_equation.new.names.items in
    let g = c.name_equation.ensures.grows in
    let same = ap (map equation_of) c.in_err-push.ensures.items in
    record {
      once = c.name_equation.ensures.once;
      named = ap (has_names ms) same ∙ has_names-grown _ ms _ g s.named;
      few = ap all_few same ∙ s.few;
      ready_named = has_names-grown _ ms _ g (kept_named _ _ _ _ c.keep_ready.ensures s.ready_named);
    }

pub returns-in_err-push-clause-room : goal.returns-in_err-push-clause-room
returns-in_err-push-clause-room c =
    let same = ap (λ es. lacking (map equation_of es) (map equation_of c.keep_ready.new.ready.items)) c.in_err-push.ensures.items in
    omega (
      arith,
      c.requires.room,
      same,
      c.in_err-push.ensures.len,
      c.push.ensures.capacity,
      kept_lacking (map equation_of c.args.equations.now.items)
          c.args.ready.now.items c.keep_ready.new.ready.items c.args.e.left c.keep_ready.ensures,
    )

pub returns-in_err-push-clause-ready : goal.returns-in_err-push-clause-ready
returns-in_err-push-clause-ready c = λ m. kept_all _ _ c.args.e c.keep_ready.ensures m

pub returns-in_err-push-clause-sure : goal.returns-in_err-push-clause-sure
returns-in_err-push-clause-sure c = λ m.
    absurd (not_ok _ _ c.in_err-push.was
    (c.push.ensures.succeeds (omega (
      arith,
      c.requires.room,
      member_lacks (map equation_of c.args.equations.now.items)
          (map equation_of c.args.ready.now.items) (equation_of c.args.e) m c.requires.lacks,
    ))))

pub returns-clause-sound : goal.returns-clause-sound
returns-clause-sound c =
    let s = c.requires.sound in
    let ms = c.name_equation.new.names.items in
    let g = c.name_equation.ensures.grows in
    let more = ap (map equation_of) c.in_ok-push.ensures.items ∙ map_push equation_of c.args.equations.now.items c.args.e in
    record {
      once = c.name_equation.ensures.once;
      named = ap (has_names ms) more ∙ has_names-push ms (map equation_of c.args.equations.now.items) (equation_of c.args.e) (has_names-grown _ ms _ g s.named) c.in_ok-name_equation.ensures.ok;
      few = ap all_few more ∙ all_few-push (map equation_of c.args.equations.now.items) (equation_of c.args.e) s.few c.requires.few;
      ready_named = has_names-grown _ ms _ g (kept_named _ _ _ _ c.keep_ready.ensures s.ready_named);
    }

pub returns-clause-room : goal.returns-clause-room
returns-clause-room c =
    let k = map equation_of c.args.equations.now.items in
    let ready = c.keep_ready.new.ready.items in
    let more = ap (λ es. lacking es (map equation_of ready)) (ap (map equation_of) c.in_ok-push.ensures.items ∙ map_push equation_of c.args.equations.now.items c.args.e) in
    let before : vec_len c.args.equations.now + lacking k (map equation_of c.args.ready.now.items) ≤ vec_capacity c.push.new.self = omega (arith, c.requires.room, c.push.ensures.capacity) in
    let fits : vec_len c.args.equations.now + 1 ≤ vec_capacity c.push.new.self = omega (arith, c.in_ok-push.ensures.len) in
    omega (arith, more, c.in_ok-push.ensures.len, kept_room k c.args.ready.now.items ready c.args.e _ _ c.keep_ready.ensures c.requires.lacks before fits)

pub returns-clause-ready : goal.returns-clause-ready
returns-clause-ready c = λ m. kept_all _ _ c.args.e c.keep_ready.ensures m
