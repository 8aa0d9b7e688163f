-- The words by which faults of a specification are told.
use Rattle.std.specs.Prelude.{ℕ, List, codes}
use Rattle.aw_spec.specs.declared.fault.SpecKind.{SpecKind}
use Rattle.aw_spec.specs.declared.fault.SpecKind.TheVariants as kind

-- the word by which a kind of fault is told
abbrev pub kind_name : SpecKind → List ℕ
kind_name kind.Token = codes "token"
kind_name kind.Form = codes "form"
kind_name kind.Order = codes "order"
kind_name kind.Limit = codes "limit"
kind_name kind.Double = codes "double"
kind_name kind.Clash = codes "clash"
kind_name kind.Unknown = codes "unknown"
kind_name kind.Arity = codes "arity"
kind_name kind.Twice = codes "twice"
kind_name kind.Never = codes "never"
kind_name kind.Inherits = codes "inherits"
kind_name kind.NotUsed = codes "notused"
kind_name kind.NotOffered = codes "notoffered"
