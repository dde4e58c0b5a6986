use Rattle.model_disk.proofs.LawLemmas.{writes_add_images}
use Rattle.model_disk.proofs.laws.writes_add_images.Goals as goal

pub returns : goal.returns
returns c = writes_add_images
