-- What a refusal that is passed on says.
use Rattle.std.proofs.Common.{◌≡◌, ℕ, List, Ok, Err, Result, sym, subst}
use Rattle.std.specs.Result.{IsErrAnd, IfErr}
use Rattle.block_store.specs.declared.refusal.Refusal.{Refusal}
use Rattle.block_store.specs.Store.{Store}
use Rattle.dnode.specs.declared.object_set.ObjectSet.{ObjectSet}
use Rattle.volume.specs.declared.volume.VolumeSet.{VolumeSet}
use Rattle.volume.specs.Reading.{IsUnread}

pub passed_on : {T E : Type 0} (result : Result T E) (refusal : E) (P : E → Type 0) → IsErrAnd result (λ e. e ≡ refusal) → P refusal → IfErr result P
passed_on (Ok x) refusal P h there = tt
passed_on (Err e) refusal P h there = subst (λ r. P r) (sym h) there

-- the same of more blocks
pub unread_among : (old new : Store) (missing : List ℕ) (volume : VolumeSet) (set : ObjectSet) (Wanted Other : ℕ → Type 0) (refusal : Refusal) → ((id : ℕ) → Wanted id → Other id)
    → IsUnread old new missing volume set Wanted refusal → IsUnread old new missing volume set Other refusal
unread_among old new missing volume set Wanted Other refusal so unread = record {
  id = unread.id;
  is_wanted = so unread.id unread.is_wanted;
  mid = unread.mid;
  before = unread.before;
  why = unread.why;
}
