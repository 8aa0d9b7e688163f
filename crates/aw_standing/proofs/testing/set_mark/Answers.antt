use Rattle.std.proofs.Common.{◌∙◌, ◌+◌, refl, length, ap}
use Rattle.std.specs.Prelude.{count_by}
use Rattle.std.proofs.lemmas.Option.{slice_get_read}
use Rattle.aw_standing.specs.declared.record.Mark.{Mark}
use Rattle.aw_standing.specs.Due.{due_of}
use Rattle.aw_standing.proofs.KeptLemmas.{set_stand}
use Rattle.aw_standing.proofs.MarkLemmas.{one_mark}
use Rattle.aw_standing.proofs.testing.set_mark.Goals as goal

pub returns-clause-set : goal.returns-clause-set
returns-clause-set c m here =
    let ms = c.args.entry.now.marks.items in
    let mark = c.index_mut-mark.result.now in
    let s = c.args.stands in
    let there = slice_get_read ms (length ms) c.args.at mark refl c.requires.within c.index_mut-mark.ensures.value in
    record {
      marks = set_stand s c.args.at ms mark c.requires.within c.index_mut-mark.ensures.value;
      slots = refl;
      sort = refl;
      deep = refl;
      waiting = λ p.
          c.wait_for.ensures.waiting p
          ∙ ap (λ (z : Mark). count_by p (due_of c.args.number z.rule s) + count_by p c.args.work.now.waiting) (one_mark ms c.args.at mark m there here);
    }
