use Rattle.std.proofs.Common.{◌≡◌, refl, rules}
use Rattle.std.proofs.lemmas.Fn.{filter_same}
use Rattle.metaslab.specs.Spaces.{without}
use Rattle.metaslab.proofs.group.MetaslabGroup.unpin.Goals as goal

pub returns : goal.returns
returns c =
    let left : c.retain.new.self.items ≡ without c.self.inside.pins.items c.args.group = filter_same _ _ _ (λ x b f' k. search rules) _ _ c.retain.ensures.filtered in
    rw (← c.self.view_is, left) refl
