-- The words by which faults of a schedule are told.
use Rattle.std.specs.Prelude.{ℕ, List, codes}
use Rattle.aw_sched.specs.declared.fault.SchedKind.{SchedKind}
use Rattle.aw_sched.specs.declared.fault.SchedKind.TheVariants as kind

-- the word by which a kind of fault is told
abbrev pub kind_name : SchedKind → List ℕ
kind_name kind.Token = codes "token"
kind_name kind.Form = codes "form"
kind_name kind.Limit = codes "limit"
kind_name kind.Unknown = codes "unknown"
kind_name kind.Arity = codes "arity"
kind_name kind.NotStart = codes "notstart"
kind_name kind.Name = codes "name"
kind_name kind.Misfit = codes "type"
