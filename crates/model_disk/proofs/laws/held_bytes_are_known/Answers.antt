use Rattle.model_disk.proofs.RunLemmas.{is_held, clean_is_untorn, settled_bytes_are_held, held_is_old_or_written}
use Rattle.model_disk.proofs.laws.held_bytes_are_known.Goals as goal

pub returns-clause-held : goal.returns-clause-held
returns-clause-held c = is_held

pub returns-clause-untorn : goal.returns-clause-untorn
returns-clause-untorn c = clean_is_untorn

pub returns-clause-settled : goal.returns-clause-settled
returns-clause-settled c = settled_bytes_are_held

pub returns-clause-in_a_run : goal.returns-clause-in_a_run
returns-clause-in_a_run c = held_is_old_or_written
