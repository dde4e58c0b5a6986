use Rattle.std.proofs.Common.{◌≡◌, ◌⊎◌, ℕ, List, inl, inr, ⊎_elim, sym, subst, ◌∙◌}
use Rattle.std.proofs.lemmas.Result.{IfOk-weaker, IfErr-weaker}
use Rattle.dnode_tree.proofs.Refusing.{passed_on}
use Rattle.object_table.specs.Found.{IsTableFound}
use Rattle.object_table.specs.Tables.{HasTable}
use Rattle.space_map_objects.proofs.Unread.{unread, unread_is_caused, judged_is_caused, lossy}
use Rattle.space_map_objects.specs.Maps.{LeavesFree, SpellsNoMap}
use Rattle.space_map_objects.proofs.reading.read_free_set.Goals as goal

pub returns-in_err-rows-clause-known : goal.returns-in_err-rows-clause-known
returns-in_err-rows-clause-known g c =
    passed_on _ _ _ c.from_residual.ensures.1
    (λ stored objects own blocks held are tell.
    ⊎_elim (λ loss. inl (lossy _ loss)) (λ bad. inr (λ map. bad.1 map.1.0 map.1.1))
    (c.in_err-rows.ensures.known stored objects own blocks held are tell))

pub returns-in_err-rows-clause-refused : goal.returns-in_err-rows-clause-refused
returns-in_err-rows-clause-refused g c =
    passed_on _ _ _ c.from_residual.ensures.1 (inl (unread _ _ _ _ _ _ _ c.in_err-rows.ensures.refused))

pub returns-clause-value : goal.returns-clause-value
returns-clause-value g c =
    IfOk-weaker c.free_set_of.result _ _
    (λ free leaves stored objects own blocks held are tell. (
      c.in_ok-rows.rows.items,
      c.in_ok-rows.ensures.value stored objects own blocks held are tell,
      subst (λ (bytes : List ℕ). LeavesFree bytes c.args.sectors free) c.deref.ensures.value leaves,
    ))
    c.free_set_of.ensures.found

pub returns-clause-found : goal.returns-clause-found
returns-clause-found g c =
    IfOk-weaker c.free_set_of.result _ _
    (λ free leaves. (
      c.in_ok-rows.rows.items,
      c.in_ok-rows.ensures.found,
      subst (λ (bytes : List ℕ). LeavesFree bytes c.args.sectors free) c.deref.ensures.value leaves,
    ))
    c.free_set_of.ensures.found

pub returns-clause-refused : goal.returns-clause-refused
returns-clause-refused g c =
    IfErr-weaker c.free_set_of.result _ _
    (λ refusal. ⊎_elim (λ memory. inl (inl memory))
    (λ bad. inr (
      bad.0,
      (
        c.in_ok-rows.rows.items,
        c.in_ok-rows.ensures.found,
        subst (λ (bytes : List ℕ). SpellsNoMap bytes c.args.sectors) c.deref.ensures.value bad.1,
      ),
    )))
    c.free_set_of.ensures.refused

pub returns-clause-known : goal.returns-clause-known
returns-clause-known g c =
    IfErr-weaker c.free_set_of.result _ _
    (λ refusal why stored objects own blocks held are tell.
    ⊎_elim (λ memory. inl (inl memory))
    (λ bad. inr (λ map.
    let same = c.deref.ensures.value ∙ c.in_ok-rows.ensures.one stored objects own blocks held are tell map.1.0 map.1.1 in
    subst (λ (bytes : List ℕ). SpellsNoMap bytes c.args.sectors) same bad.1 map.1.2.entries map.1.2.spelled map.1.2.is_map))
    why)
    c.free_set_of.ensures.refused

pub returns-in_err-rows-clause-caused : goal.returns-in_err-rows-clause-caused
returns-in_err-rows-clause-caused g c =
    passed_on _ _ _ c.from_residual.ensures.1 (unread_is_caused _ _ _ _ c.in_err-rows.ensures.caused)

pub returns-clause-caused : goal.returns-clause-caused
returns-clause-caused g c =
    IfErr-weaker c.free_set_of.result _ _ (λ refusal why. judged_is_caused _ _ _ _ refusal why) c.free_set_of.ensures.refused
