use Rattle.std.proofs.Common.{◌∙◌, ◌≡◌, ◌⊎◌, ◌-◌, ◌^◌, Bool, Option, List, [], inl, refl, subst, sym}
use Rattle.block_store.specs.declared.shape.VdevShape.{VdevShape}
use Rattle.disk_set.specs.declared.stale.GroupSpan.{GroupSpan}
use Rattle.model_disk.specs.Joint.{Disks}
use Rattle.pool_open.specs.CoreStateOf.{state_of}
use Rattle.pool_open.specs.Opening.{AreMisplacedOver}
use Rattle.pool_open.specs.Roots.{AreReadBeside, IsReadOfRoot, IsRootNotRead}
use Rattle.pool_open.specs.declared.refusal.Refusal.{Refusal}
use Rattle.pool_open.specs.declared.refusal.Refusal.TheVariants.{NoMemory, BadPointer}
use Rattle.pool_slots.proofs.Results.{if_err_is}
use Rattle.pool_open.proofs.Representing.{CoreRepresents}
use Rattle.pool_create.specs.ReadingBack.{IsUnread}
use Rattle.pool_create.proofs.Alone.{none_made}
use Rattle.pool_create.proofs.Backs.{AreRead, IsCoreOf, back_of, unread_core, unread_root}
use Rattle.pool_create.proofs.reading_back.read_back.Goals as goal

pub returns-in-Err-clause-refused : goal.returns-in-Err-clause-refused
returns-in-Err-clause-refused g c = (c.survey_alone.ensures.only, c.in-Err.ensures.refused)

pub returns-in-Err-read_root-clause-refused : goal.returns-in-Err-read_root-clause-refused
returns-in-Err-read_root-clause-refused g c =
    let cause = c.in-Err-read_root.refusal in
    let new = c.in-Err-read_root.disks in
    let it = c.args.pool.now in
    let surveyed = c.survey_alone.new.disks in
    let W : List VdevShape → List Bool → Type 0 = λ ss xs. IsRootNotRead surveyed new ss xs [] 3 c.args.root (2 ^ 64 - 1) cause in
    let why = subst (λ (ss : List VdevShape). W ss it.out.items) c.deref.ensures.value
    (subst (λ (xs : List Bool). W c.deref.result.now xs) c.deref-2.ensures.value c.in-Err-read_root.ensures.refused) in
    subst (λ (r : Refusal). IsUnread c.args.disks it c.args.root new r) (sym c.from.ensures)
    (unread_root c.args.disks surveyed new it c.args.root cause c.survey_alone.ensures.only
    (record { u = c.in-Ok-survey_alone.taken; taken = c.in-Ok-survey_alone.ensures.taken; is = c.in-Ok-survey_alone.ensures.is }) why)

pub returns-in_err-core-clause-refused : goal.returns-in_err-core-clause-refused
returns-in_err-core-clause-refused g c =
    let failed = c.in_err-core.field-0.0 in
    let cause = failed.0 in
    let it = c.args.pool.now in
    let surveyed = c.survey_alone.new.disks in
    let read = c.in-Ok-read_root.read.disks in
    let contents = c.in-Ok-read_root.read.contents in
    let R : List VdevShape → List Bool → Type 0 = λ ss xs. IsReadOfRoot surveyed read ss xs [] 3 c.args.root contents in
    let are : AreRead c.args.disks surveyed read it c.args.root c.in-Ok-survey_alone.taken contents = record {
      laid = c.requires.laid;
      only = c.survey_alone.ensures.only;
      taken = c.in-Ok-survey_alone.ensures.taken;
      is = c.in-Ok-survey_alone.ensures.is;
      alone = c.in-Ok-survey_alone.ensures.alone;
      beside = subst (λ (xs : List Bool). AreReadBeside xs surveyed read) c.deref-2.ensures.value c.in-Ok-read_root.ensures.only;
      contents_are = subst (λ (ss : List VdevShape). R ss it.out.items) c.deref.ensures.value (subst (λ (xs : List Bool). R c.deref.result.now xs) c.deref-2.ensures.value c.in-Ok-read_root.ensures.contents);
    } in
    let W : List VdevShape → List Bool → List (Option GroupSpan) → Type 0 =
    λ ss xs stale. (cause ≡ NoMemory) ⊎ ((cause ≡ BadPointer) × AreMisplacedOver read ss xs stale contents) in
    let why = subst (λ (ss : List VdevShape). W ss it.out.items []) c.deref-3.ensures.value
    (subst (λ (xs : List Bool). W c.deref-3.result.now xs []) c.deref-4.ensures.value
    (subst (λ (stale : List (Option GroupSpan)). W c.deref-3.result.now c.deref-4.result.now stale) c.new.ensures.items c.in_err-core.ensures.refused)) in
    if_err_is c.from_residual.result failed (λ f. IsUnread c.args.disks it c.args.root f.1 f.0) c.from_residual.ensures.1
    (subst (λ (d : Disks). IsUnread c.args.disks it c.args.root d cause) (sym c.in_err-core.ensures.back)
    (unread_core c.args.disks surveyed read it c.args.root c.in-Ok-survey_alone.taken contents cause are why))

pub returns-clause-read : goal.returns-clause-read
returns-clause-read g c =
    let it = c.args.pool.now in
    let surveyed = c.survey_alone.new.disks in
    let read = c.in-Ok-read_root.read.disks in
    let contents = c.in-Ok-read_root.read.contents in
    let core = state_of c.in_ok-core.core in
    let u = c.in-Ok-survey_alone.taken in
    let R : List VdevShape → List Bool → Type 0 = λ ss xs. IsReadOfRoot surveyed read ss xs [] 3 c.args.root contents in
    let are : AreRead c.args.disks surveyed read it c.args.root u contents = record {
      laid = c.requires.laid;
      only = c.survey_alone.ensures.only;
      taken = c.in-Ok-survey_alone.ensures.taken;
      is = c.in-Ok-survey_alone.ensures.is;
      alone = c.in-Ok-survey_alone.ensures.alone;
      beside = subst (λ (xs : List Bool). AreReadBeside xs surveyed read) c.deref-2.ensures.value c.in-Ok-read_root.ensures.only;
      contents_are = subst (λ (ss : List VdevShape). R ss it.out.items) c.deref.ensures.value (subst (λ (xs : List Bool). R c.deref.result.now xs) c.deref-2.ensures.value c.in-Ok-read_root.ensures.contents);
    } in
    let M : List VdevShape → List Bool → List (Option GroupSpan) → Type 0 = λ ss xs stale. CoreRepresents read ss xs stale u contents core in
    let made : IsCoreOf read it u contents core = record {
      disks = c.in_ok-core.ensures.disks;
      stamped = c.in_ok-core.ensures.stamped;
      root_is = c.in_ok-core.ensures.root;
      outs = c.in_ok-core.ensures.out ∙ c.deref-4.ensures.value;
      vdevs = c.in_ok-core.ensures.shapes ∙ c.deref-3.ensures.value;
      config = c.in_ok-core.ensures.config ∙ c.in-Ok.ensures;
      fresh = c.in_ok-core.ensures.stale ∙ c.new.ensures.items;
      untouched = λ none. c.in_ok-core.ensures.untouched none c.new-spans.ensures;
      represents = subst (λ (ss : List VdevShape). M ss it.out.items []) c.deref-3.ensures.value
          (subst (λ (xs : List Bool). M c.deref-3.result.now xs []) c.deref-4.ensures.value
          (subst (λ (stale : List (Option GroupSpan)). M c.deref-3.result.now c.deref-4.result.now stale) c.new.ensures.items c.in_ok-core.ensures.represents));
    } in
    back_of c.writes_elsewhere_keep.ensures c.args.disks surveyed read it c.args.root u contents core are made

pub returns-in_default-clause-refused : goal.returns-in_default-clause-refused
returns-in_default-clause-refused g c = (none_made c.args.disks, inl refl)
