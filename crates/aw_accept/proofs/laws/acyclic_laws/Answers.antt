use Rattle.aw_iograph.specs.Dependence.{IO}
use Rattle.aw_iograph.proofs.Relations.{io_closed}
use Rattle.aw_accept.proofs.Fitting.{given_of}
use Rattle.aw_accept.proofs.UndividedRuns.{acyclic_runs}
use Rattle.aw_accept.proofs.laws.acyclic_laws.Goals as goal

pub returns-clause-given : goal.returns-clause-given
returns-clause-given c w g formed = given_of w g formed

pub returns-clause-keeps : goal.returns-clause-keeps
returns-clause-keeps c g given accepted = (acyclic_runs g given (IO g) (io_closed g) accepted).keeps

pub returns-clause-all : goal.returns-clause-all
returns-clause-all c g given accepted = (acyclic_runs g given (IO g) (io_closed g) accepted).all

pub returns-clause-leaves_no_hole : goal.returns-clause-leaves_no_hole
returns-clause-leaves_no_hole c g given accepted = (acyclic_runs g given (IO g) (io_closed g) accepted).leaves_none
