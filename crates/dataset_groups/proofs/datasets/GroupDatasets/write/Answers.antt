use Rattle.std.proofs.Common.{◌≡◌, ◌≢◌, ◌⊎◌, [], ◌∷◌, List, Bool, true, false, length, vec_len, ◌==◌, arith, inl, inr, ⊎_elim, eqb-true, eq-eqb, true≢false, ap, refl, sym, subst, ◌∙◌}
use Rattle.std.proofs.lemmas.List.{append-nil}
use Rattle.std.specs.Prelude.{Vec}
use Rattle.std.specs.declared.alloc.Global.{Global}
use Rattle.block_pointer.specs.Block.{FitsBlock}
use Rattle.block_store.specs.Losses.{IsForLoss}
use Rattle.block_store.specs.Spaces.{VdevSpace}
use Rattle.block_store.specs.declared.refusal.Refusal.{Refusal}
use Rattle.block_store.specs.declared.refusal.Refusal.TheVariants.{DiskFault}
use Rattle.block_store.specs.Demands.{Demand, HavePlaces}
use Rattle.block_store.proofs.Steps.{steps_none, steps_on, steps_read}
use Rattle.block_store.proofs.Telling.{tell_after, tell_before}
use Rattle.dnode_tree.proofs.Refusing.{passed_on}
use Rattle.dnode_tree.specs.Writes.{IsForRoom}
use Rattle.dnode_tree.specs.declared.writes.BlockWrite.{BlockWrite}
use Rattle.object_table.proofs.Tables.{spaces_stay}
use Rattle.volume.specs.Writing.{IsArrayWith}
use Rattle.dataset_groups.specs.Demands.{HasHeadDemands}
use Rattle.dataset_groups.proofs.Asking.{volume_places}
use Rattle.dataset_groups.proofs.Copied.{adds_of_set}
use Rattle.dataset_groups.proofs.OneHead.{entered_new, leads_after, left_was, newly_known, not_written, put_to, record_after, rewritten, size_after}
use Rattle.dataset_groups.proofs.TouchedHeads.{one_touched}
use Rattle.dataset_groups.specs.Heads.{reading_with}
use Rattle.block_store.proofs.Causes.{caused_behind}
use Rattle.dataset_groups.proofs.datasets.GroupDatasets.write.Goals as goal

-- ---- whether there are blocks

none_in : (blocks : List BlockWrite) → length blocks ≡ 0 → blocks ≡ []
none_in [] e = refl
none_in (block ∷ blocks) e = absurd (omega (arith, e))

none_of : (blocks : Vec BlockWrite Global) (empty : Bool) → empty ≡ (vec_len blocks == 0) → empty ≡ true → blocks.items ≡ []
none_of blocks empty is so =
    let none : vec_len blocks ≡ 0 = eqb-true (vec_len blocks) 0 (sym is ∙ so) in
    none_in blocks.items (omega (arith, none, blocks.ok.0))

some_of : (blocks : Vec BlockWrite Global) (empty : Bool) → empty ≡ (vec_len blocks == 0) → empty ≡ false → blocks.items ≢ []
some_of blocks empty is not none =
    let zero : vec_len blocks ≡ 0 = omega (arith, ap length none, blocks.ok.0) in
    true≢false (sym (eq-eqb (vec_len blocks) 0 zero) ∙ sym is ∙ not)

for_room : (refusal : Refusal) → IsForLoss refusal → IsForRoom refusal ⊎ (refusal ≡ DiskFault)
for_room refusal (inl memory) = inl (inl memory)
for_room refusal (inr fault) = inr fault

pub returns-then-is_empty-clause-steps : goal.returns-then-is_empty-clause-steps
returns-then-is_empty-clause-steps g c = steps_none c.args.store.now []

pub returns-then-is_empty-clause-value : goal.returns-then-is_empty-clause-value
returns-then-is_empty-clause-value g c = λ stored planned bound objects own blocks pool readings array plans are tell le spells to.
    let none : c.args.head.blocks.items ≡ [] = none_of c.args.head.blocks c.is_empty.result c.is_empty.ensures c.if-is_empty.true in
    let n = c.args.head.number in
    let same = not_written planned c.args.group objects c.args.self.now.changes pool readings spells n array
    (subst (λ (bs : List BlockWrite). IsArrayWith (readings n).array (readings n).block_size bs array) none to.after) in
    (planned, plans, λ block bytes known. known, [], sym (append-nil c.args.freed.now.items), same.0, same.1)

pub returns-in_err-placed-clause-known : goal.returns-in_err-placed-clause-known
returns-in_err-placed-clause-known g c =
    passed_on _ _ _ c.from_residual.ensures.1 (λ stored planned bound objects own blocks pool readings array plans are tell le spells to.
    c.in_err-placed.ensures.known stored planned bound (readings c.args.head.number).array plans to.read.is le tell)

pub returns-in_err-placed-clause-refused : goal.returns-in_err-placed-clause-refused
returns-in_err-placed-clause-refused g c = passed_on _ _ _ c.from_residual.ensures.1 (inl c.in_err-placed.ensures.refused)

pub overwrite-requires : goal.overwrite-requires
overwrite-requires g c =
    record { fits = subst FitsBlock (sym c.block.ensures) (c.in_ok-placed.ensures.fits (some_of c.args.head.blocks c.is_empty.result c.is_empty.ensures c.if-is_empty.false)) }

pub returns-in_err-overwrite-clause-steps : goal.returns-in_err-overwrite-clause-steps
returns-in_err-overwrite-clause-steps g c = steps_on _ _ _ _ c.placed.ensures.steps (steps_read _ _ _ c.overwrite.ensures.reads)

pub returns-in_err-overwrite-clause-known : goal.returns-in_err-overwrite-clause-known
returns-in_err-overwrite-clause-known g c =
    passed_on _ _ _ c.from_residual-in_err-overwrite.ensures.1 (λ stored planned bound objects own blocks pool readings array plans are tell le spells to.
    let reads = c.overwrite.ensures.reads in
    let before = tell_before c.args.store.now c.placed.new.store c.overwrite.new.store [] c.placed.ensures.steps (steps_read _ _ _ reads) tell in
    let after = tell_after c.args.store.now c.placed.new.store c.overwrite.new.store [] c.placed.ensures.steps (steps_read _ _ _ reads) tell in
    let n = c.args.head.number in
    let done = c.in_ok-placed.placed in
    let some = some_of c.args.head.blocks c.is_empty.result c.is_empty.ensures c.if-is_empty.false in
    let placed = c.in_ok-placed.ensures.value stored planned bound (readings n).array plans to.read.is le before in
    let put = put_to stored planned placed.0 bound c.args.group pool readings c.args.head array done c.requires.fits to c.in_ok-placed.ensures.shape (placed.4 some) in
    for_room _ (c.in_err-overwrite.ensures.known stored planned c.args.group objects own blocks pool readings placed.1.held are after spells to.is
    (left_was planned c.args.group objects c.args.self.now.changes pool readings spells n placed.0 done.volume.block array done.replaced.items to.is put)))

pub returns-in_err-overwrite-clause-refused : goal.returns-in_err-overwrite-clause-refused
returns-in_err-overwrite-clause-refused g c =
    passed_on _ _ _ c.from_residual-in_err-overwrite.ensures.1
    (inr (record {
      placed = c.placed.new.store;
      before = c.placed.ensures.steps;
      far = c.args.self.now.changes;
      one_set = (refl, refl);
      last = c.overwrite.new.changes;
      why = ⊎_elim (λ misfit. inl (c.in_ok-placed.placed.replaced.items, misfit)) (λ why. inr why) c.in_err-overwrite.ensures.refused;
    }))

pub returns-clause-steps : goal.returns-clause-steps
returns-clause-steps g c = steps_on _ _ _ _ c.placed.ensures.steps (steps_read _ _ _ c.overwrite.ensures.reads)

pub returns-clause-value : goal.returns-clause-value
returns-clause-value g c = λ stored planned bound objects own blocks pool readings array plans are tell le spells to.
    let reads = c.overwrite.ensures.reads in
    let before = tell_before c.args.store.now c.placed.new.store c.overwrite.new.store [] c.placed.ensures.steps (steps_read _ _ _ reads) tell in
    let after = tell_after c.args.store.now c.placed.new.store c.overwrite.new.store [] c.placed.ensures.steps (steps_read _ _ _ reads) tell in
    let n = c.args.head.number in
    let group = c.args.group in
    let changes = c.args.self.now.changes in
    let done = c.in_ok-placed.placed in
    let left = done.replaced.items in
    let some = some_of c.args.head.blocks c.is_empty.result c.is_empty.ensures c.if-is_empty.false in
    let placed = c.in_ok-placed.ensures.value stored planned bound (readings n).array plans to.read.is le before in
    let later = placed.0 in
    let put = put_to stored planned later bound group pool readings c.args.head array done c.requires.fits to c.in_ok-placed.ensures.shape (placed.4 some) in
    let b = done.volume.block in
    let was = c.in_ok-overwrite.ensures.value stored planned later group objects own blocks pool readings
    (record_after planned group objects changes pool readings spells n later b array left to.is put) put.after put.given.added (reading_with (readings n) array)
    placed.1.held are after placed.2 spells to.is to.writable (entered_new planned group objects changes pool readings spells n later b array left to.is put) (sym c.block.ensures)
    (leads_after planned group objects changes pool readings spells n later b array left to.is put) refl
    (size_after planned group objects changes pool readings spells n later b array left to.is put)
    (rewritten planned group objects changes pool readings spells n later b array left to.is put) in (
      later,
      reads.plans stored later placed.1,
      placed.2,
      was.0,
      was.1,
      was.2,
      record {
        left = left;
        entered = put.given.added;
        made = was.3;
        entered_are = newly_known planned group objects changes pool readings spells n later b array left to.is put;
        adds = adds_of_set planned later group _ _ _ _ _ _ _ (placed.4 some).planned_is;
        chains = was.4;
        list = was.5;
      },
    )

pub returns-clause-touched : goal.returns-clause-touched
returns-clause-touched g c = one_touched c.args.self.now.changes c.overwrite.new.changes c.args.head.number c.in_ok-overwrite.ensures.touched

pub returns-clause-places : goal.returns-clause-places
returns-clause-places g c =
    let head = c.args.head in
    let places = volume_places c.args.store.now c.placed.new.store c.args.group head (λ none. (c.in_ok-placed.ensures.idle none).0) c.in_ok-placed.ensures.places in
    subst (λ (spaces : List VdevSpace). (demands : List Demand) × HasHeadDemands c.args.store.now.spaces c.args.group head demands × HavePlaces c.args.store.now.spaces demands spaces)
    (sym (spaces_stay c.placed.new.store c.overwrite.new.store [] c.overwrite.ensures.reads)) places

pub returns-in_err-placed-clause-caused : goal.returns-in_err-placed-clause-caused
returns-in_err-placed-clause-caused g c = passed_on _ _ _ c.from_residual.ensures.1 c.in_err-placed.ensures.caused

pub returns-in_err-overwrite-clause-caused : goal.returns-in_err-overwrite-clause-caused
returns-in_err-overwrite-clause-caused g c =
    passed_on _ _ _ c.from_residual-in_err-overwrite.ensures.1
    (caused_behind c.args.store.now c.placed.new.store c.overwrite.new.store [] _ c.placed.ensures.steps c.in_err-overwrite.ensures.caused)
