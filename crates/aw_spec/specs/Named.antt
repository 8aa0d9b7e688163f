-- A dependence as a line names it.
use Rattle.aw_base.specs.declared.declared.Triple.{Triple}
use Rattle.aw_spec.specs.declared.dependences.Dependence.{Dependence}

-- a dependence that is declared, as its line names it
abbrev pub named_by : Triple → Dependence
named_by t = record { sort = t.sort; i = t.i; j = t.j }
