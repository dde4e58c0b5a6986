use Rattle.model_disk.proofs.LawLemmas.{parts_are_honest, parts_of_one_are_honest}
use Rattle.model_disk.proofs.laws.parts_are_honest.Goals as goal

pub returns-clause-all : goal.returns-clause-all
returns-clause-all c = parts_are_honest

pub returns-clause-one : goal.returns-clause-one
returns-clause-one c = parts_of_one_are_honest
