use Rattle.std.proofs.Common.{◌≡◌, take, true}
use Rattle.aw_store.specs.NamedRefs.{all_named, IsNamedOnce, Grows, NamesOnly}
use Rattle.aw_store.proofs.names.name_all.Given as goal

abbrev pub invariant-loop-r : goal.invariant-loop-r
invariant-loop-r l = IsNamedOnce l.names.items × Grows l.fn.names.items l.names.items × NamesOnly l.fn.names.items l.names.items l.refs × (all_named l.names.items (take l.r-index l.refs) ≡ true)
