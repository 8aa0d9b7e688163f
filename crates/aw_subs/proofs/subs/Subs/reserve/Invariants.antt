use Rattle.std.proofs.Common.{◌≡◌, take, true}
use Rattle.std.specs.Prelude.{All}
use Rattle.aw_name.specs.declared.node.Ref.{Ref}
use Rattle.aw_subs.specs.Entries.{is_asked, watchers, is_ready}
use Rattle.aw_subs.proofs.subs.Subs.reserve.Given as goal

abbrev pub invariant-loop-r : goal.invariant-loop-r
invariant-loop-r l = record {
  asked : (x : Ref) → is_asked l.self.subs x ≡ is_asked l.fn.self.subs x;
  watched : (x : Ref) → watchers l.self.subs x ≡ watchers l.fn.self.subs x;
  kept : (x : Ref) → is_ready l.fn.self.subs x ≡ true → is_ready l.self.subs x ≡ true;
  ready : All (λ x. is_ready l.self.subs x ≡ true) (take l.r-index l.refs);
}
