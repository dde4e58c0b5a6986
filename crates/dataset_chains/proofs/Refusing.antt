-- Records and dead lists that were lost, behind other reads.
use Rattle.std.proofs.Common.{ℕ, [], refl, inr, ◌∙◌}
use Rattle.block_store.specs.declared.refusal.Refusal.{Refusal}
use Rattle.block_store.specs.Steps.{OnlyReadsBlocks}
use Rattle.block_store.specs.Store.{Store}
use Rattle.block_store.proofs.Steps.{reads_none, reads_on}
use Rattle.dataset_changes.specs.Refused.{IsListEndUnread, IsRecordUnread}
use Rattle.dataset_changes.specs.States.{AreOfOneSet}
use Rattle.dataset_changes.specs.declared.changes.DatasetChanges.{DatasetChanges}
use Rattle.dataset_chains.specs.Refused.{IsListLost, IsRecordLost}

pub lost_first : (old new : Store) (changes : DatasetChanges) (number : ℕ) (refusal : Refusal) → IsRecordUnread old new changes number refusal → IsRecordLost old new changes refusal
lost_first old new changes number refusal why = record { mid = old; before = reads_none old []; far = changes; one_set = (refl, refl); number = number; why = why }

module _ (old mid new : Store) (changes far : DatasetChanges) (refusal : Refusal) (reads : OnlyReadsBlocks old mid []) (same : AreOfOneSet changes far) where
  pub lost_later : IsRecordLost mid new far refusal → IsRecordLost old new changes refusal
  lost_later lost = record {
    mid = lost.mid;
    before = reads_on old mid lost.mid [] reads lost.before;
    far = lost.far;
    one_set = (lost.one_set.0 ∙ same.0, lost.one_set.1 ∙ same.1);
    number = lost.number;
    why = lost.why;
  }

  pub end_lost : (number : ℕ) → IsListEndUnread mid new far number refusal → IsListLost old new changes refusal
  end_lost number why = record { mid = mid; before = reads; far = far; one_set = same; number = number; why = inr why }
