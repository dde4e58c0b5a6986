use Rattle.std.proofs.Common.{◌≡◌, ◌<◌, List, ap, ◌∙◌, subst, arith}
use Rattle.std.proofs.lemmas.Bool.Decides.{nat_tests}
use Rattle.block_store.specs.Maps.{HasMetaslab}
use Rattle.block_store.specs.Shapes.{metaslabs}
use Rattle.block_store.specs.Spaces.{VdevSpace}
use Rattle.block_store.specs.Store.{Store}
use Rattle.block_store.proofs.Loading.{there_at, none_there}
use Rattle.block_store.proofs.store.BlockStore.has_metaslab.Goals as goal

pub returns-in-Some : goal.returns-in-Some
returns-in-Some g c =
    let spaces : c.deref.result.now ≡ c.args.self.now.spaces = c.deref.ensures.value ∙ ap (λ (s : Store). s.spaces) c.self.view_is in
    let size = metaslabs c.in-Some.space.now.shape in
    let P : List VdevSpace → Type 0 = λ xs. (c.args.metaslab < size → HasMetaslab xs c.args.vdev c.args.metaslab) × (HasMetaslab xs c.args.vdev c.args.metaslab → c.args.metaslab < size) in
    let both : P c.args.self.now.spaces = subst P spaces (there_at c.deref.result.now c.args.vdev c.args.metaslab c.in-Some.space.now c.in-Some.ensures.lookup.3.0 c.in-Some.ensures.lookup.1) in
    let count = c.count.ensures in
    (λ yes. both.0 (grind (arith, nat_tests, count)), λ there. (let less : c.args.metaslab < size = both.1 there in grind (arith, nat_tests, count)))

pub returns-in-None : goal.returns-in-None
returns-in-None g c =
    let spaces : c.deref.result.now ≡ c.args.self.now.spaces = c.deref.ensures.value ∙ ap (λ (s : Store). s.spaces) c.self.view_is in
    let P : List VdevSpace → Type 0 = λ xs. ¬ HasMetaslab xs c.args.vdev c.args.metaslab in
    let none : P c.args.self.now.spaces = subst P spaces (none_there c.deref.result.now c.args.vdev c.args.metaslab c.in-None.ensures.lookup.3) in
    (λ yes. absurd (cc), λ there. absurd (none there))
