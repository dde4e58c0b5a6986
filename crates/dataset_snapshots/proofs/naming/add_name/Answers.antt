use Rattle.std.proofs.Common.{◌≡◌, None, refl, subst}
use Rattle.pool_model.specs.Pools.{volume_at}
use Rattle.dataset_snapshots.proofs.NamedRows.{named_so}
use Rattle.dataset_snapshots.proofs.Rows.{names_same}
use Rattle.dataset_snapshots.proofs.naming.add_name.Goals as goal

pub returns : goal.returns
returns c = λ pool volume known named none same bare.
    let name_is = names_same _ volume.name c.in_ok-name.name named c.in_ok-name.ensures in
    c.add.ensures pool volume ((c.in_ok-reserve.ensures.same pool).0 known) (subst (λ name. volume_at name pool ≡ None) name_is none) (named_so _ volume _ name_is refl refl same bare)
