-- Heads that are refused for lack of disks: a block is lost.
use Rattle.std.proofs.Common.{ℕ, ◌≡◌, inl, inr, List, [], sym, ◌∙◌}
use Rattle.block_store.proofs.Losses.{lost_behind_reads, lost_later}
use Rattle.block_store.specs.declared.refusal.Refusal.{Refusal}
use Rattle.block_store.specs.declared.refusal.Refusal.TheVariants.{DiskFault}
use Rattle.block_store.specs.Losses.{IsBlockLost}
use Rattle.block_store.specs.Store.{Store}
use Rattle.dataset_groups.specs.ChainRefused.{IsChainRefused}
use Rattle.dataset_groups.specs.ChangesRefused.{IsListEndUnread, IsListUnread, IsRecordUnread, of_list}
use Rattle.dataset_groups.specs.States.{birth_of, set_of}
use Rattle.dataset_groups.specs.DatasetChanges.{DatasetChanges}
use Rattle.dataset_groups.specs.Demands.{IsHeadUnchanged, IsHeadUnplaced}
use Rattle.dataset_groups.specs.declared.writing.WrittenHead.{WrittenHead}
use Rattle.dataset_groups.specs.Lists.{IsEndUnread, IsListRefused, dead_list_kind}
use Rattle.dataset_groups.specs.ListRefusal.{Refusal as ListRefusal}
use Rattle.dataset_groups.specs.ListRefusal.TheVariants as of_lists
use Rattle.dnode.specs.declared.object_set.ObjectSet.{ObjectSet}
use Rattle.meta_objset.proofs.Losses.{record_lost}
use Rattle.meta_objset.specs.declared.record.DatasetKind.{DatasetKind}
use Rattle.object_table.proofs.Losses.{end_lost, table_lost}
use Rattle.volume.proofs.Losses.{placing_lost}

-- ---- dead lists

list_lost : (old new : Store) (set : ObjectSet) (birth number : ℕ) (why : ListRefusal) → IsListRefused old new [] set birth number why → of_list why ≡ DiskFault → IsBlockLost old new []
list_lost old new set birth number of_lists.NoMemory refused is = absurd (cc)
list_lost old new set birth number of_lists.BadList refused is = absurd (cc)
list_lost old new set birth number (of_lists.Unread cause) (inr (bad, rows)) is = absurd (cc)
list_lost old new set birth number (of_lists.Unread cause) (inl (inl memory)) is = absurd (cc)
list_lost old new set birth number (of_lists.Unread cause) (inl (inr (why, unread, table))) is =
    table_lost old new [] set birth dead_list_kind number why table (let it : cause ≡ DiskFault = is in cc)

end_of_list_lost : (old new : Store) (set : ObjectSet) (birth number : ℕ) (why : ListRefusal) → IsEndUnread old new [] set birth number why → of_list why ≡ DiskFault → IsBlockLost old new []
end_of_list_lost old new set birth number of_lists.NoMemory refused is = absurd (cc)
end_of_list_lost old new set birth number of_lists.BadList refused is = absurd (cc)
end_of_list_lost old new set birth number (of_lists.Unread cause) (inl memory) is = absurd (cc)
end_of_list_lost old new set birth number (of_lists.Unread cause) (inr (why, unread, end)) is =
    end_lost old new [] set birth dead_list_kind number why end (let it : cause ≡ DiskFault = is in cc)

-- ---- records and dead lists of a group

record_unread_lost : (old new : Store) (changes : DatasetChanges) (number : ℕ) (refusal : Refusal) → IsRecordUnread old new changes number refusal → refusal ≡ DiskFault → IsBlockLost old new []
record_unread_lost old new changes number refusal (inl memory) is = absurd (cc)
record_unread_lost old new changes number refusal (inr (inl refused)) is = record_lost old new [] (set_of changes) (birth_of changes) number refusal refused is
record_unread_lost old new changes number refusal (inr (inr (bad, none))) is = absurd (cc)

list_unread_lost : (old new : Store) (changes : DatasetChanges) (number : ℕ) (refusal : Refusal) → IsListUnread old new changes number refusal → refusal ≡ DiskFault → IsBlockLost old new []
list_unread_lost old new changes number refusal (inl memory) is = absurd (cc)
list_unread_lost old new changes number refusal (inr (inl (why, same, refused))) is = list_lost old new (set_of changes) (birth_of changes) number why refused (sym same ∙ is)
list_unread_lost old new changes number refusal (inr (inr (bad, none))) is = absurd (cc)

end_unread_lost : (old new : Store) (changes : DatasetChanges) (number : ℕ) (refusal : Refusal) → IsListEndUnread old new changes number refusal → refusal ≡ DiskFault → IsBlockLost old new []
end_unread_lost old new changes number refusal (inl memory) is = absurd (cc)
end_unread_lost old new changes number refusal (inr (inl (why, same, refused))) is = end_of_list_lost old new (set_of changes) (birth_of changes) number why refused (sym same ∙ is)
end_unread_lost old new changes number refusal (inr (inr (bad, none))) is = absurd (cc)

-- ---- chains

pub chain_lost : (old new : Store) (changes far : DatasetChanges) (number : ℕ) (kind : DatasetKind) (refusal : Refusal) → IsChainRefused old new changes far number kind refusal → refusal ≡ DiskFault
    → IsBlockLost old new []
chain_lost old new changes far number kind refusal (inl memory) is = absurd (cc)
chain_lost old new changes far number kind refusal (inr (inl record_is)) is =
    lost_behind_reads old record_is.mid new [] record_is.before (record_unread_lost record_is.mid new record_is.far record_is.number refusal record_is.why is)
chain_lost old new changes far number kind refusal (inr (inr (inl list))) is =
    lost_behind_reads old list.mid new [] list.before (elim list.why [
      | inl whole ↦ list_unread_lost list.mid new list.far list.number refusal whole is
      | inr end ↦ end_unread_lost list.mid new list.far list.number refusal end is
    ])
chain_lost old new changes far number kind refusal (inr (inr (inr (bad, other)))) is = absurd (cc)

-- ---- heads

unchanged_lost : (old new : Store) (changes : DatasetChanges) (head : WrittenHead) (refusal : Refusal) → IsHeadUnchanged old new changes head refusal → refusal ≡ DiskFault → IsBlockLost old new []
unchanged_lost old new changes head refusal unchanged is = elim unchanged.why [
  | inl misfit ↦ absurd (let bad = misfit.1.0 in cc)
  | inr refused ↦ lost_later old unchanged.placed new [] unchanged.before (chain_lost unchanged.placed new unchanged.far unchanged.last head.number _ refusal refused is)
]

pub head_lost : (old new : Store) (changes : DatasetChanges) (group : ℕ) (heads : List WrittenHead) (refusal : Refusal) → IsHeadUnplaced old new changes group heads refusal → refusal ≡ DiskFault
    → IsBlockLost old new []
head_lost old new changes group heads refusal unplaced is = lost_later old unplaced.mid new [] unplaced.before (elim unplaced.why [
  | inl refused ↦ placing_lost unplaced.mid new unplaced.next.volume group unplaced.next.blocks refusal refused is
  | inr unchanged ↦ unchanged_lost unplaced.mid new changes unplaced.next refusal unchanged is
])
