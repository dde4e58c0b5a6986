-- An export: the reads, and then the writes.
use Rattle.std.proofs.Common.{◌≡◌, ◌≤◌, ◌∙◌, ℕ, Bool, List, length, slice_get, Result, Ok, Err, IfErr, sym, ap, subst, arith}
use Rattle.uberblock_ring.specs.declared.uberblock.Uberblock.{Uberblock}
use Rattle.uberblock_ring.specs.Uberblock.{IsNumber}
use Rattle.model_disk.specs.Joint.{Disks, bytes_of, content, AreHonestSince}
use Rattle.model_disk.specs.Runs.{EachSince, Makes, no_write}
use Rattle.model_disk.proofs.RunLemmas.{Makes-more, Makes-wider}
use Rattle.pool_slots.specs.Configs.{LeavesConfigured, of_config}
use Rattle.pool_slots.specs.Marks.{LeavesMarked}
use Rattle.pool_slots.specs.Opens.{AreKnown}
use Rattle.pool_slots.specs.Phases.{IsRelabel}
use Rattle.pool_slots.specs.Present.{is_out}
use Rattle.pool_slots.specs.Reads.{OnlyReads}
use Rattle.pool_slots.specs.Slots.{AreThere, InUse, MakesOn, StayOut}
use Rattle.pool_slots.proofs.Finding.{honest_before}
use Rattle.pool_slots.proofs.LabelAreas.{area_len}
use Rattle.pool_slots.proofs.Phases.{MakesOn-more, MakesOn-wider, none_wider}
use Rattle.pool_export.specs.Moments.{AllSpell, ExportConfigures, ExportMarks, WritesConfigure, WritesMark, of_claim_from}
use Rattle.pool_export.specs.Reads.{AreToldOf, ReadsAreas}
use Rattle.pool_export.specs.Refusals.{ExportRefuses}
use Rattle.pool_export.specs.Taken.{AreExported, ExportTakes, IsMadeOf, IsTakenWrite}
use Rattle.pool_export.specs.Writes.{AreWhole, Areas, AreasFit, AreasOn, AreasStandOn, IsExportWrite, IsPutAway, IsUsedWrite, is_any}
use Rattle.pool_export.specs.declared.refusal.Refusal.{Refusal}
use Rattle.pool_export.specs.declared.refusal.Refusal.TheVariants.{NoMemory, NoLabel, NoDisk}
use Rattle.pool_export.proofs.Best.{exported_valid}
use Rattle.pool_export.proofs.Moments.{as_configured, as_marked, even_fewer, even_later, export_always, of_configured, of_marked, unwritten_always}

-- ---- which writes

pub are_whole : (u : Uberblock) (areas : Areas) → AreasFit u areas → AreWhole areas
are_whole u areas fit which area at = let it = fit which area at in ap length it.1.spells ∙ area_len it.0 it.1.valid

export_writes : (starts : List (List ℕ)) (out later : List Bool) (u : Uberblock) (areas : Areas) → StayOut out later → AreasFit u areas → (which at : ℕ) (bytes : List ℕ)
    → IsUsedWrite later starts areas is_any which at bytes → IsExportWrite starts out u which at bytes
export_writes starts out later u areas stay fit which at bytes it_is =
    let write = it_is.write in
    let it = fit which write.area write.has in
    let P : List ℕ → Type 0 = IsPutAway u it.0 in
    record {
      number = write.copy.number;
      is_label = write.copy.is_label;
      used = stay which it_is.used;
      place = write.copy.place;
      label = it.0;
      put_away = subst P (sym write.copy.same) it.1;
    }

pub export_made : (out later : List Bool) (u : Uberblock) (areas : Areas) (old read new : Disks) → StayOut out later → AreasFit u areas → MakesOn (InUse out) no_write old read
    → MakesOn (InUse later) (IsUsedWrite later read.starts areas is_any) read new → MakesOn (InUse out) (IsExportWrite old.starts out u) old new
export_made out later u areas old read new stay fit reads makes =
    let P : List (List ℕ) → Type 0 = λ starts. MakesOn (InUse out) (IsExportWrite starts out u) read new in
    MakesOn-more (InUse out) (IsExportWrite old.starts out u) old read new (none_wider (InUse out) (IsExportWrite old.starts out u) old read reads)
    (subst P reads.makes.starts
    (MakesOn-wider (InUse later) (InUse out) (IsUsedWrite later read.starts areas is_any) (IsExportWrite read.starts out u) read new stay (export_writes read.starts out later u areas stay fit) makes))

pub export_relabels : (starts : List (List ℕ)) (out : List Bool) (u : Uberblock) (which at : ℕ) (bytes : List ℕ) → IsExportWrite starts out u which at bytes → IsRelabel starts which at bytes
export_relabels starts out u which at bytes write =
    record { number = write.number; is_label = write.is_label; place = write.place; whole = ap length write.put_away.spells ∙ area_len write.label write.put_away.valid }

-- each is of the label that was taken
pub takes_none : (out : List Bool) (u : Uberblock) (old read : Disks) → Makes no_write old read → ExportTakes out old u read
takes_none out u old read reads = λ known honest. Makes-wider no_write (IsTakenWrite old u) old read (λ which at bytes none. absurd none) reads

pub export_takes : (out later : List Bool) (u : Uberblock) (areas : Areas) (old read new : Disks) → StayOut out later → Makes no_write old read → AreToldOf u old read areas
    → Makes (IsUsedWrite later read.starts areas is_any) read new → ExportTakes out old u new
export_takes out later u areas old read new stay reads told makes = λ known honest.
    let before = honest_before (length old.calls) (IsUsedWrite later read.starts areas is_any) read new makes honest in
    let M : List (List ℕ) → Type 0 = λ starts. Makes (IsUsedWrite later starts areas is_any) read new in
    Makes-more (IsTakenWrite old u) old read new (takes_none out u old read reads known before)
    (Makes-wider (IsUsedWrite later old.starts areas is_any) (IsTakenWrite old u) read new
    (λ which at bytes it.
    let write = it.write in
    let P : List ℕ → Type 0 = λ them. IsMadeOf u them (length (bytes_of old.starts which)) (content old which) in
    record {
      number = write.copy.number;
      is_label = write.copy.is_label;
      place = write.copy.place;
      made = subst P (sym write.copy.same) (told which write.area write.has (known which (stay which it.used)) before);
    })
    (subst M reads.starts makes))

-- ---- what is shown

pub are_exported : (out later : List Bool) (u : Uberblock) (areas : Areas) (old read new : Disks) → IsNumber u.claim → IsNumber u.group → AreasOn out areas → StayOut out later → Makes no_write old read
    → AreToldOf u old read areas → Makes (IsUsedWrite out read.starts areas is_any) read new → AreasStandOn later (content new) read.starts areas is_any → AreExported later old u new
are_exported out later u areas old read new claim group on stay reads told makes stand known honest which used =
    let area = on which (stay which used) in
    let it = told which area.0 area.1 (known which used) (honest_before (length old.calls) (IsUsedWrite out read.starts areas is_any) read new makes honest) in
    let P : List (List ℕ) → Type 0 = λ starts. AreasStandOn later (content new) starts areas is_any in
    record {
      number = it.number;
      label = it.label;
      taken = it.taken;
      each = λ other is. record {
        is_label = is;
        valid = exported_valid it.label u it.taken.shown.valid claim group;
        bytes = λ i below. (subst P (sym makes.starts) stand) which used area.0 area.1 other is is i below ∙ ap (λ (them : List ℕ). slice_get them i) it.spells;
      };
    }

-- ---- at each moment

config_spelled : (u : Uberblock) (areas : Areas) → AreasFit u areas → AllSpell (of_config u.config_digest) areas
config_spelled u areas fit which area at = let it = fit which area at in record { label = it.0; valid = it.1.valid; spells = it.1.spells; has = it.1.config }

claim_spelled : (u : Uberblock) (areas : Areas) (claim : ℕ) → claim ≤ u.claim → AreasFit u areas → AllSpell (of_claim_from claim) areas
claim_spelled u areas claim below fit which area at = let it = fit which area at in record { label = it.0; valid = it.1.valid; spells = it.1.spells; has = omega (arith, below, it.1.claim) }

pub configured_read : (out : List Bool) (u : Uberblock) (old read : Disks) → AreThere out old.starts → Makes no_write old read → ExportConfigures out old u read
configured_read out u old read there reads = λ even. as_configured out old read u.config_digest (unwritten_always (of_config u.config_digest) out old read there even reads)

pub marked_read : (out : List Bool) (u : Uberblock) (old read : Disks) → AreThere out old.starts → Makes no_write old read → ExportMarks out old u read
marked_read out u old read there reads = λ claim below even. as_marked out old read claim (unwritten_always (of_claim_from claim) out old read there even reads)

pub export_configures : (out later : List Bool) (u : Uberblock) (areas : Areas) (old read new : Disks) → AreThere out old.starts → StayOut out later → AreasFit u areas → Makes no_write old read
    → Makes (IsUsedWrite later read.starts areas is_any) read new → WritesConfigure later read areas new → ExportConfigures out old u new
export_configures out later u areas old read new there stay fit reads makes writes = λ even.
    let digest = u.config_digest in
    as_configured out old new digest
    (export_always (of_config digest) out later old read new areas there even reads makes
    (of_configured later read new digest
    (writes digest (even_fewer (of_config digest) out later read stay (even_later (of_config digest) out old read reads even)) (config_spelled u areas fit))))

pub export_marks : (out later : List Bool) (u : Uberblock) (areas : Areas) (old read new : Disks) → AreThere out old.starts → StayOut out later → AreasFit u areas → Makes no_write old read
    → Makes (IsUsedWrite later read.starts areas is_any) read new → WritesMark later read areas new → ExportMarks out old u new
export_marks out later u areas old read new there stay fit reads makes writes = λ claim below even.
    as_marked out old new claim
    (export_always (of_claim_from claim) out later old read new areas there even reads makes
    (of_marked later read new claim
    (writes claim (even_fewer (of_claim_from claim) out later read stay (even_later (of_claim_from claim) out old read reads even)) (claim_spelled u areas claim below fit))))

-- ---- why it is refused

pub read_refused : (out later : List Bool) (u : Uberblock) (old read : Disks) (refusal : Refusal) → OnlyReads (InUse out) (is_out later) old read → ReadsAreas later u old read (Err refusal)
    → ExportRefuses out later u old read refusal
read_refused out later u old read NoMemory only it = only
read_refused out later u old read NoDisk only it = absurd it
read_refused out later u old read (NoLabel d) only it = (only, it.0, it.1)

-- or no disk is left
pub left_refused : {T : Type 0} (r : Result T Refusal) (out marks later : List Bool) (u : Uberblock) (old new : Disks) → marks ≡ later
    → IfErr r (λ refusal. (refusal ≡ NoDisk) × ((which : ℕ) → is_out marks which)) → IfErr r (ExportRefuses out later u old new)
left_refused (Ok x) out marks later u old new same it = tt
left_refused (Err e) out marks later u old new same it =
    let P : Refusal → Type 0 = ExportRefuses out later u old new in
    let Q : List Bool → Type 0 = λ them. (which : ℕ) → is_out them which in
    subst P (sym it.0) (subst Q same it.1)
