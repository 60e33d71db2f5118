-- `put_name` meets its promise: what is put is the algorithm's name.
use Rattle.password.proofs.algorithm_names.put_name.Goals as goal

pub returns : goal.returns
returns c = rw c.name_of.ensures at c.copy_and.ensures
