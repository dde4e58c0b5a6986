-- Stores over the same disks hold the same blocks.
use Rattle.std.proofs.Common.{◌≡◌, ℕ, suc, Bool, false, Option, List, [], ◌∷◌, ◌++◌, length, filter, nat_le, refl, sym, ap, ◌∙◌, subst, if◌then◌else◌}
use Rattle.std.specs.Prelude.{replicate, slice_index}
use Rattle.model_disk.specs.Joint.{Disks, content}
use Rattle.raidz_io.specs.Stands.{ExtentStands}
use Rattle.block_pointer.specs.Copies.{dvas}
use Rattle.block_store.specs.Blocks.{Contents}
use Rattle.block_store.specs.Elsewhere.{IsForBlocks, WritesElsewhereKeep}
use Rattle.block_store.specs.Places.{shapes_of, IsCopy}
use Rattle.block_store.specs.declared.shape.VdevShape.{VdevShape}
use Rattle.disk_set.specs.declared.stale.GroupSpan.{GroupSpan}
use Rattle.block_store.specs.Store.{Store, Holds, is_out, is_stale, lost, outs_from, stale_from}
use Rattle.block_store.proofs.Steps.{shape_found}
use Rattle.block_store.proofs.Taking.{places_too}
use Rattle.pool_open.specs.Held.{AlikeStoresHoldAlike, ClaimsKeepWhatIsHeld, HoldOver, IsStoreOver}
use Rattle.pool_open.proofs.Claiming.{claims_spare_blocks}

held_alike : (one other : Store) (stored : Contents) → other.disks ≡ one.disks → shapes_of other.spaces ≡ shapes_of one.spaces
    → ((birth : ℕ) → lost other birth ≡ lost one birth) → Holds one stored → Holds other stored
held_alike one other stored disks shapes lose held = record {
  blocks = held.blocks;
  places = λ block bytes known.
      places_too one.spaces other.spaces block.property.sectors (dvas block.copies) shapes (held.places block bytes known);
  stand = λ block bytes i extent known copy.
      let at = copy.extent_is in
      let there = shape_found one.spaces other.spaces copy.place.vdev at.space shapes at.found in
      let was : IsCopy one.spaces block i extent = record {
        place = copy.place;
        is_copy = copy.is_copy;
        extent_is = record {
          space = there.0;
          found = there.1;
          vdev = at.vdev ∙ ap (λ shape. shape.vdev) (sym there.2);
          start = at.start;
          sectors_are = at.sectors_are;
        };
      } in
      let E : Disks → List ℕ → Type 0 = λ d gone. ExtentStands (content d) gone extent bytes in
      subst (λ (d : Disks). E d (lost other block.birth)) (sym disks)
      (subst (λ (gone : List ℕ). E one.disks gone) (sym (lose block.birth)) (held.stand block bytes i extent known was));
}

-- they lack the same where the same disks are out since the same groups, and missed the same
same_lost : (one other : Store) → other.out ≡ one.out → other.spans.since ≡ one.spans.since → other.spans.stale ≡ one.spans.stale → (birth : ℕ)
    → lost other birth ≡ lost one birth
same_lost one other out since stale birth = λ i. filter (λ disk. nat_le (slice_index (since i) disk) birth) (outs_from 0 (out i)) ++ stale_from 0 (stale i) birth

none_from : (first : ℕ) (out : List Bool) → ((disk : ℕ) → is_out out disk ≡ false) → outs_from first out ≡ []
none_from first [] none = refl
none_from first (flag ∷ out) none =
    ap (λ (b : Bool). if b then first ∷ outs_from (suc first) out else outs_from (suc first) out) (none 0) ∙ none_from (suc first) out (λ disk. none (suc disk))

-- no disk missed a group
abbrev pub MissedNone : Store → Type 0
MissedNone store = (disk birth : ℕ) → is_stale store.spans.stale disk birth ≡ false

pub none_missed : (stale : List (Option GroupSpan)) (first birth : ℕ) → ((disk : ℕ) → is_stale stale disk birth ≡ false) → stale_from first stale birth ≡ []
none_missed [] first birth none = refl
none_missed (span ∷ stale) first birth none =
    ap (λ (b : Bool). if b then first ∷ stale_from (suc first) stale birth else stale_from (suc first) stale birth) (none 0)
    ∙ none_missed stale (suc first) birth (λ disk. none (suc disk))

-- and nothing where none is out, and none missed a group
whole_lost : (one other : Store) → ((disk : ℕ) → is_out one.out disk ≡ false) → ((disk : ℕ) → is_out other.out disk ≡ false) → MissedNone one → MissedNone other
    → (birth : ℕ) → lost other birth ≡ lost one birth
whole_lost one other mine others fresh clean birth =
    let F : List ℕ → List ℕ → List ℕ → List ℕ = λ s gone stale. filter (λ disk. nat_le (slice_index s disk) birth) gone ++ stale in
    let nothing : (store : Store) → ((disk : ℕ) → is_out store.out disk ≡ false) → MissedNone store → lost store birth ≡ [] = λ store none unmissed.
    (λ i. F store.spans.since (none_from 0 store.out none i) (none_missed store.spans.stale 0 birth (λ disk. unmissed disk birth) i)) in
    nothing other others clean ∙ sym (nothing one mine fresh)

pub held_whole : (one other : Store) (stored : Contents) → other.disks ≡ one.disks → shapes_of other.spaces ≡ shapes_of one.spaces
    → ((disk : ℕ) → is_out one.out disk ≡ false) → ((disk : ℕ) → is_out other.out disk ≡ false) → MissedNone one → MissedNone other → Holds one stored
    → Holds other stored
held_whole one other stored disks shapes mine others fresh clean held = held_alike one other stored disks shapes (whole_lost one other mine others fresh clean) held

pub alike_stores_hold_alike : AlikeStoresHoldAlike
alike_stores_hold_alike disks shapes out stale stored store over holds other too =
    held_alike store other stored (too.disks_are ∙ sym over.disks_are) (too.shapes_are ∙ sym over.shapes_are)
    (same_lost store other (too.out_is ∙ sym over.out_is) (too.since ∙ sym over.since) (too.stale_is ∙ sym over.stale_is)) holds

-- and of disks whose bytes for blocks are the same
pub held_where_same : WritesElsewhereKeep → (shapes : List VdevShape) (out : List Bool) (stale : List (Option GroupSpan)) (old new : Disks) (stored : Contents) (store : Store)
    → IsStoreOver old shapes out stale store → Holds store stored → new.starts ≡ old.starts
    → ((disk i : ℕ) → IsForBlocks store.spaces disk i → content new disk i ≡ content old disk i) → HoldOver new shapes out stale stored
held_where_same keep shapes out stale old new stored store over holds starts same other too =
    let moved : Store = record store { disks = new } in
    let here : (disk i : ℕ) → IsForBlocks store.spaces disk i → content new disk i ≡ content store.disks disk i = λ disk i is.
    same disk i is ∙ ap (λ (d : Disks). content d disk i) (sym over.disks_are) in
    let kept : Holds moved stored = (keep store moved refl refl refl refl refl here).0 stored holds in
    held_alike moved other stored too.disks_are (too.shapes_are ∙ sym over.shapes_are)
    (same_lost moved other (too.out_is ∙ sym over.out_is) (too.since ∙ ap (λ (them : List (List ℕ)). replicate (length them) 0) starts ∙ sym over.since)
    (too.stale_is ∙ sym over.stale_is)) kept

pub claims_keep_what_is_held : WritesElsewhereKeep → ClaimsKeepWhatIsHeld
claims_keep_what_is_held keep shapes out stale u old new stored store over holds lie count fits made =
    held_where_same keep shapes out stale old new stored store over holds made.makes.starts (claims_spare_blocks store.spaces out u old new lie count fits made)

-- what whatever store over the disks may read, it may read of others with the same bytes
pub held_on : WritesElsewhereKeep → (shapes : List VdevShape) (out : List Bool) (stale : List (Option GroupSpan)) (old new : Disks) (stored : Contents)
    → new.starts ≡ old.starts → ((disk i : ℕ) → content new disk i ≡ content old disk i) → HoldOver old shapes out stale stored → HoldOver new shapes out stale stored
held_on keep shapes out stale old new stored starts same hold other too =
    let before : Store = record other { disks = old } in
    let over : IsStoreOver old shapes out stale before = record {
      disks_are = refl;
      shapes_are = too.shapes_are;
      out_is = too.out_is;
      since = too.since ∙ ap (λ (them : List (List ℕ)). replicate (length them) 0) starts;
      stale_is = too.stale_is;
    } in
    held_where_same keep shapes out stale old new stored before over (hold before over) starts (λ disk i is. same disk i) other too
