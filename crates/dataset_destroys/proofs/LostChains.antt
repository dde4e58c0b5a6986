-- Records and dead lists that are not read for lack of disks: a block is lost.
use Rattle.std.proofs.Common.{ℕ, ◌≡◌, inl, inr, [], sym, ◌∙◌}
use Rattle.block_store.proofs.Losses.{lost_behind_reads}
use Rattle.block_store.specs.Losses.{IsBlockLost}
use Rattle.block_store.specs.Store.{Store}
use Rattle.block_store.specs.declared.refusal.Refusal.{Refusal}
use Rattle.block_store.specs.declared.refusal.Refusal.TheVariants.{DiskFault}
use Rattle.dataset_chains.specs.Refused.{IsChainRefused}
use Rattle.dataset_chains.specs.ChangesRefused.{IsListEndUnread, IsListUnread, IsRecordUnread, of_list}
use Rattle.dataset_chains.specs.States.{birth_of, set_of}
use Rattle.dataset_chains.specs.DatasetChanges.{DatasetChanges}
use Rattle.dataset_chains.specs.Lists.{IsEndUnread, IsListRefused, dead_list_kind}
use Rattle.dataset_chains.specs.ListRefusal.{Refusal as ListRefusal}
use Rattle.dataset_chains.specs.ListRefusal.TheVariants as of_lists
use Rattle.dnode.specs.declared.object_set.ObjectSet.{ObjectSet}
use Rattle.meta_objset.proofs.Losses.{record_lost}
use Rattle.meta_objset.specs.declared.record.DatasetKind.{DatasetKind}
use Rattle.object_table.proofs.Losses.{end_lost, table_lost}

-- ---- dead lists

list_lost : (old new : Store) (set : ObjectSet) (birth number : ℕ) (why : ListRefusal) → IsListRefused old new [] set birth number why → of_list why ≡ DiskFault → IsBlockLost old new []
list_lost old new set birth number of_lists.NoMemory refused is = absurd (cc)
list_lost old new set birth number of_lists.BadList refused is = absurd (cc)
list_lost old new set birth number (of_lists.Unread cause) (inr (bad, rows)) is = absurd (cc)
list_lost old new set birth number (of_lists.Unread cause) (inl (inl memory)) is = absurd (cc)
list_lost old new set birth number (of_lists.Unread cause) (inl (inr (why, unread, table))) is =
    table_lost old new [] set birth dead_list_kind number why table (let it : cause ≡ DiskFault = is in cc)

end_of_list_lost : (old new : Store) (set : ObjectSet) (birth number : ℕ) (why : ListRefusal) → IsEndUnread old new [] set birth number why → of_list why ≡ DiskFault → IsBlockLost old new []
end_of_list_lost old new set birth number of_lists.NoMemory refused is = absurd (cc)
end_of_list_lost old new set birth number of_lists.BadList refused is = absurd (cc)
end_of_list_lost old new set birth number (of_lists.Unread cause) (inl memory) is = absurd (cc)
end_of_list_lost old new set birth number (of_lists.Unread cause) (inr (why, unread, end)) is =
    end_lost old new [] set birth dead_list_kind number why end (let it : cause ≡ DiskFault = is in cc)

list_unread_lost : (old new : Store) (changes : DatasetChanges) (number : ℕ) (refusal : Refusal) → IsListUnread old new changes number refusal → refusal ≡ DiskFault → IsBlockLost old new []
list_unread_lost old new changes number refusal (inl memory) is = absurd (cc)
list_unread_lost old new changes number refusal (inr (inl (why, same, refused))) is = list_lost old new (set_of changes) (birth_of changes) number why refused (sym same ∙ is)
list_unread_lost old new changes number refusal (inr (inr (bad, none))) is = absurd (cc)

end_unread_lost : (old new : Store) (changes : DatasetChanges) (number : ℕ) (refusal : Refusal) → IsListEndUnread old new changes number refusal → refusal ≡ DiskFault → IsBlockLost old new []
end_unread_lost old new changes number refusal (inl memory) is = absurd (cc)
end_unread_lost old new changes number refusal (inr (inl (why, same, refused))) is = end_of_list_lost old new (set_of changes) (birth_of changes) number why refused (sym same ∙ is)
end_unread_lost old new changes number refusal (inr (inr (bad, none))) is = absurd (cc)

-- ---- records

pub record_unread_lost : (old new : Store) (changes : DatasetChanges) (number : ℕ) (refusal : Refusal) → IsRecordUnread old new changes number refusal → refusal ≡ DiskFault → IsBlockLost old new []
record_unread_lost old new changes number refusal (inl memory) is = absurd (cc)
record_unread_lost old new changes number refusal (inr (inl refused)) is = record_lost old new [] (set_of changes) (birth_of changes) number refusal refused is
record_unread_lost old new changes number refusal (inr (inr (bad, none))) is = absurd (cc)

-- ---- chains

pub chain_lost : (old new : Store) (changes far : DatasetChanges) (number : ℕ) (kind : DatasetKind) (refusal : Refusal) → IsChainRefused old new changes far number kind refusal → refusal ≡ DiskFault
    → IsBlockLost old new []
chain_lost old new changes far number kind refusal (inl memory) is = absurd (cc)
chain_lost old new changes far number kind refusal (inr (inl lost)) is =
    lost_behind_reads old lost.mid new [] lost.before (record_unread_lost lost.mid new lost.far lost.number refusal lost.why is)
chain_lost old new changes far number kind refusal (inr (inr (inl lost))) is =
    lost_behind_reads old lost.mid new [] lost.before (elim lost.why [
      | inl whole ↦ list_unread_lost lost.mid new lost.far lost.number refusal whole is
      | inr end ↦ end_unread_lost lost.mid new lost.far lost.number refusal end is
    ])
chain_lost old new changes far number kind refusal (inr (inr (inr (bad, other)))) is = absurd (cc)
