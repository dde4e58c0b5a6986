-- What a new pool's disks show.
use Rattle.std.proofs.Common.{◌≡◌, inl, inr, ◌<◌, ℕ, Bool, List, length, Option, sym, ◌∙◌, subst, arith}
use Rattle.model_disk.specs.Joint.{Disks, bytes_of, content}
use Rattle.model_disk.specs.Runs.{Makes, no_write}
use Rattle.pool_slots.specs.Opens.{AreKnown, IsHighestShown, IsRead, IsReadOn, IsShown, IsShownOn}
use Rattle.pool_slots.specs.Slots.{InUse}
use Rattle.pool_slots.proofs.OpenSteps.{highest_shown}
use Rattle.pool_slots.proofs.Phases.{none_same}
use Rattle.raidz_io.specs.Reads.{IsHonestSince}
use Rattle.uberblock_ring.specs.Ranking.{IsRewound, RanksUpTo}
use Rattle.uberblock_ring.specs.Uberblock.{Fits}
use Rattle.uberblock_ring.specs.declared.uberblock.Uberblock.{Uberblock}
use Rattle.pool_create.specs.Alone.{AreReadAlone, ShowsAlone}
use Rattle.pool_create.specs.Creating.{IsShownAlone}
use Rattle.pool_create.specs.Planning.{none_out}
use Rattle.pool_create.specs.ReadingBack.{IsTakenOf}
use Rattle.pool_create.proofs.Backs.{used_at}

-- what ranks up to an uberblock ranks up to another of the same claim and group
same_rank : (v from u : Uberblock) → IsRewound from 0 u → RanksUpTo v from → RanksUpTo v u
same_rank v from u is (inl less) = inl (omega (arith, less, is.0))
same_rank v from u is (inr same) = inr (same.0 ∙ sym is.0, omega (arith, same.1, is.1))

-- ---- behind reads

same_content : (old new : Disks) (which : ℕ) → Makes no_write old new → content new which ≡ content old which
same_content old new which makes = λ i k. none_same old new which k makes i

shown_on : (old new : Disks) (u : Uberblock) (out : List Bool) → Makes no_write old new → IsShown out new u → IsShown out old u
shown_on old new u out makes it =
    let sized : IsShownOn (length (bytes_of old.starts it.which)) (content new it.which) u =
    subst (λ (starts : List (List ℕ)). IsShownOn (length (bytes_of starts it.which)) (content new it.which) u) makes.starts it.on in
    record {
      which = it.which;
      used = it.used;
      on = subst (λ (held : ℕ → Option ℕ). IsShownOn (length (bytes_of old.starts it.which)) held u) (same_content old new it.which makes) sized;
    }

read_on : (old new : Disks) (u : Uberblock) (out : List Bool) → Makes no_write old new → IsRead out old u → IsRead out new u
read_on old new u out makes it =
    let sized : IsReadOn (length (bytes_of new.starts it.which)) (content old it.which) u =
    subst (λ (starts : List (List ℕ)). IsReadOn (length (bytes_of starts it.which)) (content old it.which) u) (sym makes.starts) it.on in
    record {
      which = it.which;
      used = it.used;
      on = subst (λ (held : ℕ → Option ℕ). IsReadOn (length (bytes_of new.starts it.which)) held u) (sym (same_content old new it.which makes)) sized;
    }

-- what was taken is the highest that is shown
pub taken_shown : (old new last : Disks) (out : List Bool) (u : Uberblock) → IsTakenOf old new out u → Makes no_write old last → AreKnown out old → IsHonestSince old new → IsHighestShown out last u
taken_shown old new last out u taken makes known honest =
    let s = taken.s in
    let says = taken.surveyed.says known honest in
    let top = highest_shown out old s.found s.highest says.found taken.whole.found_on says.highest in
    subst (λ (v : Uberblock). IsHighestShown out last v) (sym taken.taken_is) (record {
      shown = read_on old last s.taken out makes says.taken;
      greatest = λ v shown. same_rank v s.highest s.taken says.rewound (top.greatest v (shown_on old last v out makes shown));
    })

-- ---- alone

alone_on : (old new : Disks) (which : ℕ) (u : Uberblock) → Makes no_write old new → ShowsAlone u (length (bytes_of old.starts which)) (content old which)
    → ShowsAlone u (length (bytes_of new.starts which)) (content new which)
alone_on old new which u makes it =
    let sized = subst (λ (starts : List (List ℕ)). ShowsAlone u (length (bytes_of starts which)) (content old which)) (sym makes.starts) it in
    subst (λ (held : ℕ → Option ℕ). ShowsAlone u (length (bytes_of new.starts which)) held) (sym (same_content old new which makes)) sized

-- what each disk was read to show alone, it shows behind the reads
pub alone_shown : (old new : Disks) (out : List Bool) (u : Uberblock) → Makes no_write old new → out ≡ none_out (length old.starts) → AreReadAlone u old new → AreKnown out old → IsHonestSince old new
    → IsShownAlone (length old.starts) new u
alone_shown old new out u makes none alone known honest =
    let each : (which : ℕ) → which < length old.starts → ShowsAlone u (length (bytes_of new.starts which)) (content new which) = λ which below.
    alone_on old new which u makes
    ((alone which below).1 (known which (subst (λ (flags : List Bool). InUse flags which) (sym none) (used_at (length old.starts) which below))) honest) in
    record {
      only = λ which label slot v below is shows. (each which below).only label slot v is shows;
      each = λ which below. (each which below).on;
    }

-- an uberblock that a disk was read to show has a spelling
pub alone_fits : (old new : Disks) (u : Uberblock) → 0 < length old.starts → AreReadAlone u old new → Fits u
alone_fits old new u some alone = (alone 0 some).0
