use Rattle.std.proofs.Common.{◌≡◌, ◌∙◌, true, false, true≢false, inl, inr, refl, sym, ap}
use Rattle.volume.proofs.Putting.{set_later}
use Rattle.volume.proofs.Refusing.{passed_on}
use Rattle.volume.proofs.volume.VolumeSet.count_set.Goals as goal

pub returns-in_err-set-clause-refused : goal.returns-in_err-set-clause-refused
returns-in_err-set-clause-refused g c = passed_on _ _ _ c.from_residual.ensures.1 (inr (inl c.in_err-set.ensures.refused))

pub returns-in_err-set-clause-known : goal.returns-in_err-set-clause-known
returns-in_err-set-clause-known g c =
    passed_on _ _ _ c.from_residual.ensures.1 (λ stored bound array held is le some tell.
    c.in_err-set.ensures.known stored is.set held (set_later stored bound c.args.birth c.args.self.now.block is.set le is.is_set) tell)

pub returns-then-not-is_of_volume-clause-refused : goal.returns-then-not-is_of_volume-clause-refused
returns-then-not-is_of_volume-clause-refused g c =
    inr (inr (refl, (c.in_ok-set.set, c.in_ok-set.ensures.found, λ same. let no : false ≡ true = c.if-not-is_of_volume.ensures.1 same in true≢false (sym no))))

pub returns-then-not-is_of_volume-clause-known : goal.returns-then-not-is_of_volume-clause-known
returns-then-not-is_of_volume-clause-known g c = λ stored bound array held is le some tell.
    let same : c.in_ok-set.set ≡ is.set =
    c.in_ok-set.ensures.value stored is.set held (set_later stored bound c.args.birth c.args.self.now.block is.set le is.is_set) tell in
    let no : false ≡ true = c.if-not-is_of_volume.ensures.1 (ap (λ set. set.kind) same ∙ is.kind) in
    absurd (true≢false (sym no))

pub returns-clause-value : goal.returns-clause-value
returns-clause-value g c = λ stored bound array held is le tell.
    c.in_ok-set.ensures.value stored is.set held (set_later stored bound c.args.birth c.args.self.now.block is.set le is.is_set) tell

pub returns-clause-found : goal.returns-clause-found
returns-clause-found g c = (c.in_ok-set.ensures.found, c.is_of_volume.ensures.0 c.if-not-is_of_volume.false)

pub returns-in_err-set-clause-caused : goal.returns-in_err-set-clause-caused
returns-in_err-set-clause-caused g c = passed_on _ _ _ c.from_residual.ensures.1 c.in_err-set.ensures.caused
