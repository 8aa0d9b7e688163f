-- What reading answers where the text names a node.
use Rattle.std.proofs.Common.{◌≡◌, refl}
use Rattle.std.specs.Prelude.{Result, Ok, Err, IfOk, IfErr}
use Rattle.aw_term.specs.Names.{Node}
use Rattle.aw_base.specs.NodeNames.{NodeRead, Named}
use Rattle.aw_base.specs.NodeReading.{Reads}
use Rattle.aw_base.specs.declared.read_node.NameFault.{NameFault}
use Rattle.aw_base.specs.declared.read_node.NameFault.TheVariants.{Form, Long, Unknown, Step as Misfit, NoMemory}

pub ok_named : (read : NodeRead) (n : Node) (r : Result Node NameFault) → read ≡ Named n → Reads read r → IfOk r (λ m. m ≡ n)
ok_named read n (Ok m) e h = let same : m ≡ n = cc in same
ok_named read n (Err f) e h = tt

pub err_named : (read : NodeRead) (n : Node) (r : Result Node NameFault) → read ≡ Named n → Reads read r → IfErr r (λ f. f ≡ NoMemory)
err_named read n (Ok m) e h = tt
err_named read n (Err Form) e h = absurd cc
err_named read n (Err Long) e h = absurd cc
err_named read n (Err Unknown) e h = absurd cc
err_named read n (Err (Misfit at)) e h = absurd cc
err_named read n (Err NoMemory) e h = refl
