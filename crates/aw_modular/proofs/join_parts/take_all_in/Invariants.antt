use Rattle.std.proofs.Common.{◌≡◌, ◌++◌}
use Rattle.std.specs.Vec.Iter.{into_iter_items}
use Rattle.aw_modular.specs.declared.shared.Shared.{Shared}
use Rattle.aw_modular.specs.Wholes.{AllHave, FirstOther, all_rules}
use Rattle.aw_modular.proofs.join_parts.take_all_in.Given as goal

abbrev pub invariant-loop-part : goal.invariant-loop-part
invariant-loop-part l = record {
  have : AllHave l.kept (into_iter_items l.part-iterator) → AllHave l.kept l.fn.parts.items;
  other : (came : Shared) → FirstOther l.kept came (into_iter_items l.part-iterator) → FirstOther l.kept came l.fn.parts.items;
  rules : l.rules ++ all_rules (into_iter_items l.part-iterator) ≡ l.initial.rules ++ all_rules l.fn.parts.items;
}
