use Rattle.std.proofs.Common.{◌≡◌, Some, None, sym, ap, ◌∙◌, subst}
use Rattle.std.specs.Prelude.{is_some}
use Rattle.std.specs.Map.{lookup}
use Rattle.std.specs.Option.{option_copied_mut, option_map}
use Rattle.pool_model.specs.Names.{same}
use Rattle.volume_rules.specs.declared.shape.VolumeEntry.{VolumeEntry}
use Rattle.volume_rules.proofs.Indexes.{ascending_cloned, cloned_entry, entries_cloned}
use Rattle.volume_rules.proofs.index.NameIndex.set_origin.Goals as goal

pub returns-in-Some : goal.returns-in-Some
returns-in-Some c = λ pool k.
    let name = c.args.name.now in
    let old = c.args.self.now.entries.entries in
    let entry : VolumeEntry = cloned_entry c.args.origin c.in-Some.entry.now in
    let new = (c.get_mut.follows.lender entry).entries in
    let was : lookup (λ key. same c.as_slice.result.now key.items) old ≡ Some c.in-Some.entry.now = sym c.get_mut.ensures.value ∙ ap option_copied_mut c.in-Some.is in
    let updates = (c.get_mut.follows.holds entry).3 (ap is_some was) in
    record {
      entries = entries_cloned (λ key. key.items) old new name c.args.origin pool k.entries
          (subst (λ n. lookup (λ key. same n key.items) new ≡ option_map (cloned_entry c.args.origin) (lookup (λ key. same n key.items) old)) c.as_slice.ensures
          (updates.1 ∙ sym (ap (option_map (cloned_entry c.args.origin)) was)))
          (λ q e. updates.2 q (ap (λ n. same n q.items) c.as_slice.ensures ∙ e));
      ascending = ascending_cloned name c.args.origin pool k.ascending;
    }

pub returns-in_default : goal.returns-in_default
returns-in_default c = λ pool k.
    let name = c.args.name.now in
    let old = c.args.self.now.entries.entries in
    let new = c.get_mut.follows.lender-at-none.entries in
    let stays : new ≡ old = ap (λ m. m.entries) c.get_mut.follows.holds-at-none in
    let none : lookup (λ key. same name key.items) old ≡ None =
    ap (λ n. lookup (λ key. same n key.items) old) (sym c.as_slice.ensures) ∙ (sym c.get_mut.ensures.value ∙ ap option_copied_mut c.in_default.is) in
    record {
      entries = entries_cloned (λ key. key.items) old new name c.args.origin pool k.entries
          (ap (lookup (λ key. same name key.items)) stays ∙ (none ∙ sym (ap (option_map (cloned_entry c.args.origin)) none)))
          (λ q e. ap (lookup (λ key. same q.items key.items)) stays);
      ascending = ascending_cloned name c.args.origin pool k.ascending;
    }
