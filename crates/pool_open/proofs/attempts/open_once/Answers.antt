use Rattle.std.proofs.Common.{◌≡◌, ◌⊎◌, Bool, List, sym, subst}
use Rattle.model_disk.specs.Joint.{Disks}
use Rattle.pool_core.specs.StateOf.{state_of}
use Rattle.pool_slots.specs.Labels.{IsClaimWrite}
use Rattle.pool_slots.specs.Opens.{OpenGives}
use Rattle.pool_slots.specs.Slots.{InUse}
use Rattle.pool_slots.specs.Surveys.{OfSurveyed}
use Rattle.pool_slots.proofs.Results.{if_err_is}
use Rattle.uberblock_ring.specs.declared.uberblock.Uberblock.{Uberblock}
use Rattle.pool_open.specs.Opening.{AreMisplacedOver, IsNotOpenedOver, IsOpenedOver}
use Rattle.pool_open.specs.declared.refusal.Refusal.TheVariants.{NoMemory, BadPointer}
use Rattle.stale_disks.specs.Rules.{guids_in}
use Rattle.vdev_label.specs.Plain.{config_view}
use Rattle.pool_open.proofs.FailedCalls.{failed_in_use}
use Rattle.pool_open.proofs.Knowing.{missed_by}
use Rattle.pool_open.proofs.Stages.{AreBegun, AreDone, IsMadeCore, claim_fails, opened_over, refused_by_core, surveyed_of}
use Rattle.pool_open.proofs.attempts.open_once.Goals as goal

pub returns-in_err-core-in-Ok-clause-refused : goal.returns-in_err-core-in-Ok-clause-refused
returns-in_err-core-in-Ok-clause-refused g c =
    let failed = c.in_err-core-in-Ok.field-0.0 in
    let cause = failed.0 in
    let it = c.in_ok-read.ensures.read in
    let s = c.in_ok-read.read.survey in
    let later = c.in_ok-read.read.out.items in
    let read = c.in_ok-read.read.disks in
    let root = c.in_ok-read.read.root in
    let new = c.claim.new.disks in
    let are = surveyed_of c.args.disks c.args.shapes.now c.args.out.items later c.args.rewind s root.contents root.stale.items read it in
    let here : AreBegun c.deref.result.now s read new = record {
      makes = c.claim.ensures.makes;
      leads = c.claim.ensures.any_moment;
      marks = c.claim.ensures.labels_any_moment;
      configures = c.claim.ensures.configured_any_moment;
      rewrites = c.claim.ensures.rewrites;
    } in
    let begun = subst (λ (xs : List Bool). AreBegun xs s read new) c.deref.ensures.value here in
    let G : List Bool → Type 0 = λ xs. OfSurveyed xs s read (λ rewind first. OpenGives xs rewind first s.claimed new) in
    let gives = subst G c.deref.ensures.value c.in-Ok.ensures.opened in
    let W : List Bool → Type 0 = λ xs. (cause ≡ NoMemory) ⊎ ((cause ≡ BadPointer) × AreMisplacedOver new c.args.shapes.now xs root.stale.items root.contents) in
    let why = subst W c.deref-in-Ok.ensures.value c.in_err-core-in-Ok.ensures.refused in
    if_err_is c.from_residual-in_err-core-in-Ok.result failed (λ f. IsNotOpenedOver (guids_in (config_view c.args.config.now.value)) c.args.disks c.args.shapes.now c.args.out.items c.args.rewind f.1 f.0) c.from_residual-in_err-core-in-Ok.ensures.1
    (subst (λ (d : Disks). IsNotOpenedOver (guids_in (config_view c.args.config.now.value)) c.args.disks c.args.shapes.now c.args.out.items c.args.rewind d cause) (sym c.in_err-core-in-Ok.ensures.back)
    (refused_by_core (guids_in (config_view c.args.config.now.value)) c.args.out.items later c.args.rewind c.args.disks it.surveyed read new c.args.shapes.now s root.contents root.stale.items cause c.requires.rewind are it.blocks begun gives it.root
    (missed_by later s.claimed.group root c.args.config.now.value c.in_ok-read.ensures.config c.in_ok-read.ensures.known) why))

pub returns-in_ok-core-in-Ok-clause-attempted : goal.returns-in_ok-core-in-Ok-clause-attempted
returns-in_ok-core-in-Ok-clause-attempted g c =
    let it = c.in_ok-read.ensures.read in
    let s = c.in_ok-read.read.survey in
    let later = c.in_ok-read.read.out.items in
    let read = c.in_ok-read.read.disks in
    let root = c.in_ok-read.read.root in
    let new = c.claim.new.disks in
    let core = state_of c.in_ok-core-in-Ok.core in
    let shapes = c.args.shapes.now in
    let are = surveyed_of c.args.disks shapes c.args.out.items later c.args.rewind s root.contents root.stale.items read it in
    let here : AreBegun c.deref.result.now s read new = record {
      makes = c.claim.ensures.makes;
      leads = c.claim.ensures.any_moment;
      marks = c.claim.ensures.labels_any_moment;
      configures = c.claim.ensures.configured_any_moment;
      rewrites = c.claim.ensures.rewrites;
    } in
    let begun = subst (λ (xs : List Bool). AreBegun xs s read new) c.deref.ensures.value here in
    let ended : AreDone c.deref.result.now s read new = record {
      gives = c.in-Ok.ensures.opened;
      slotted = c.in-Ok.ensures.slotted;
      labeled = c.in-Ok.ensures.labeled;
      relabels = c.in-Ok.ensures.relabeled;
    } in
    let done = subst (λ (xs : List Bool). AreDone xs s read new) c.deref.ensures.value ended in
    let M : List Bool → Uberblock → Type 0 = λ xs u. IsMadeCore xs new shapes u root core in
    let is : M c.deref-in-Ok.result.now c.in-Ok.claimed = record {
      disks = c.in_ok-core-in-Ok.ensures.disks;
      stamped = c.in_ok-core-in-Ok.ensures.stamped;
      root = c.in_ok-core-in-Ok.ensures.root;
      outs = c.in_ok-core-in-Ok.ensures.out;
      vdevs = c.in_ok-core-in-Ok.ensures.shapes;
      config = c.in_ok-core-in-Ok.ensures.config;
      table = c.in_ok-core-in-Ok.ensures.table;
      spans = c.in_ok-core-in-Ok.ensures.spans;
      stale = c.in_ok-core-in-Ok.ensures.stale;
      untouched = c.in_ok-core-in-Ok.ensures.untouched;
      represents = c.in_ok-core-in-Ok.ensures.represents;
    } in
    let made = subst (λ (u : Uberblock). M later u) c.in-Ok.ensures.answer
    (subst (λ (xs : List Bool). M xs c.in-Ok.claimed) c.deref-in-Ok.ensures.value is) in
    subst (λ (u : Uberblock). IsOpenedOver c.args.disks shapes c.args.out.items c.args.rewind u core) (sym c.in-Ok.ensures.answer)
    (opened_over c.writes_elsewhere_keep.ensures c.args.out.items later c.args.rewind c.args.disks it.surveyed read new shapes s root core c.requires.rewind c.requires.may c.requires.laid
    it.tolerable are it.blocks it.root c.in_ok-read.ensures.known begun done made)

pub settle_without-requires-clause-used : goal.settle_without-requires-clause-used
settle_without-requires-clause-used g c =
    let read = c.in_ok-read.read.disks in
    let s = c.in_ok-read.read.survey in
    subst (λ (xs : List Bool). InUse xs c.in-Err.failure.disk) c.deref.ensures.value
    (failed_in_use c.deref.result.now (IsClaimWrite read.starts c.deref.result.now s.claimed) read c.claim.new.disks c.in-Err.failure.disk c.claim.ensures.makes c.in-Err.ensures.fault)

pub returns-in-Err-clause-attempted : goal.returns-in-Err-clause-attempted
returns-in-Err-clause-attempted g c =
    let it = c.in_ok-read.ensures.read in
    let s = c.in_ok-read.read.survey in
    let later = c.in_ok-read.read.out.items in
    let read = c.in_ok-read.read.disks in
    let root = c.in_ok-read.read.root in
    let ended = c.claim.new.disks in
    let are = surveyed_of c.args.disks c.args.shapes.now c.args.out.items later c.args.rewind s root.contents root.stale.items read it in
    let here : AreBegun c.deref.result.now s read ended = record {
      makes = c.claim.ensures.makes;
      leads = c.claim.ensures.any_moment;
      marks = c.claim.ensures.labels_any_moment;
      configures = c.claim.ensures.configured_any_moment;
      rewrites = c.claim.ensures.rewrites;
    } in
    let begun = subst (λ (xs : List Bool). AreBegun xs s read ended) c.deref.ensures.value here in
    claim_fails c.args.out.items later c.settle_without.new.out.items c.args.rewind c.args.disks it.surveyed read ended c.settle_without.new.disks c.args.shapes.now s c.in-Err.failure.disk
    c.requires.rewind are it.blocks it.tolerable begun c.in-Err.ensures.fault c.settle_without.ensures
