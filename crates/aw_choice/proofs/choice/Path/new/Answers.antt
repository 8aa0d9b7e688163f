use Rattle.std.proofs.Common.{lit≤}
use Rattle.std.proofs.lemmas.List.{get_or-replicate}
use Rattle.aw_choice.proofs.choice.Path.new.Goals as goal

pub invariant_of-result : goal.invariant_of-result
invariant_of-result c = record { within = lit≤ tt; rest = λ k low high. get_or-replicate 32 k 0 0 high }
