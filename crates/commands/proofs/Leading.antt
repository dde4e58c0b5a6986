-- What the calls of a device lead to, one after another.
use Rattle.std.proofs.Common.{◌≡◌, ◌+◌, ◌-◌, ℕ, List, [], ◌++◌, take, drop, slice_range, Option, None, Some, refl, sym, ap, ◌∙◌, subst, arith, append_assoc, append-nil}
use Rattle.std.proofs.Math.Seq.{take-add}
use Rattle.std.specs.Io.KnownBytes.{Appends}
use Rattle.pool_model.specs.declared.volume.PlainVolume.{PlainVolume}
use Rattle.pool_model.specs.Pools.{volume_at}
use Rattle.pool_steps.specs.declared.steps.PoolSteps.{Ghosts}
use Rattle.volume_device.specs.Contents.{AreRead, Contents}
use Rattle.volume_device.specs.Devices.{Leads, name_of}
use Rattle.volume_device.specs.declared.device.Device.{Device}
use Rattle.commands.specs.Pouring.{AreFront, IsPouredOut}

pub appends_nothing : (now : Option (List ℕ)) → Appends now now []
appends_nothing None = tt
appends_nothing (Some x) = sym (append-nil x)

appends_more : (a b c : Option (List ℕ)) (xs ys : List ℕ) → Appends a b xs → Appends b c ys → Appends a c (xs ++ ys)
appends_more None b c xs ys f g = tt
appends_more (Some x) None c xs ys f g = absurd f
appends_more (Some x) (Some y) None xs ys f g = absurd g
appends_more (Some x) (Some y) (Some z) xs ys f g = g ∙ (ap (λ l. l ++ ys) f ∙ append_assoc x xs ys)

abbrev got : {A : Type 0} → A → Option A → A
got y None = y
got y (Some x) = x

pub some_is : {A : Type 0} (x y : A) → Some x ≡ Some y → x ≡ y
some_is x y e = ap (got x) e

-- the next bytes of a volume behind its first ones
more_is : (n len : ℕ) (all : List ℕ) → take n all ++ slice_range all n (n + len) ≡ take (n + len) all
more_is n len all =
    let e : n + len - n ≡ len = omega arith in
    ap (λ k. take n all ++ take k (drop n all)) e ∙ sym (take-add n len all)

front_more : (name : List ℕ) (n len : ℕ) (xs ys : List ℕ) (c d e : Contents) → AreFront name n xs c d → AreRead name n len ys d e → AreFront name (n + len) (xs ++ ys) c e
front_more name n len xs ys c d e front read = (
  read.1 ∙ front.0,
  λ volume there.
      let here : volume_at name d.now ≡ Some volume = ap (λ (x : Contents). volume_at name x.now) front.0 ∙ there in
      let same : read.0.0 ≡ volume = some_is read.0.0 volume (sym read.0.1 ∙ here) in
      let more : ys ≡ slice_range volume.bytes n (n + len) = read.0.2 ∙ ap (λ (x : PlainVolume). slice_range x.bytes n (n + len)) same in
      ap (λ l. l ++ ys) (front.1 volume there) ∙ (ap (λ l. take n volume.bytes ++ l) more ∙ more_is n len volume.bytes),
)

module _ {P : Type 0} (g : Ghosts P) where
  abbrev pub PartsTell : Type 0
  PartsTell = (first mid last : P) → g.came_from first mid → g.came_from mid last → g.answers_tell first last → g.answers_tell first mid × g.answers_tell mid last

  abbrev pub CameFurther : Type 0
  CameFurther = (first mid last : P) → g.came_from first mid → g.came_from mid last → g.came_from first last

  -- one behind another
  pub leads_on : PartsTell → (first mid last : Device P) (r s t : Contents → Contents → Type 0) → g.came_from first.core mid.core → g.came_from mid.core last.core
      → ((c d e : Contents) → r c d → s d e → t c e) → Leads g first mid r → Leads g mid last s → Leads g first last t
  leads_on parts first mid last r s t from to join one other =
      λ c shown tell.
      let both = parts first.core mid.core last.core from to tell in
      let a = one c shown both.0 in
      let b = other a.0 a.1 both.1 in
      (b.0, b.1, join c a.0 b.0 a.2 b.2)

  -- so far the first n bytes were read and printed
  pub record PouredSoFar (old now : Device P) (n : ℕ) (before after : Option (List ℕ)) : Type 0 where
    pub follows : g.came_from old.core now.core
    pub named : name_of now ≡ name_of old
    pub poured : IsPouredOut g old now n before after

  pub none_poured : (device : Device P) (now : Option (List ℕ)) → g.came_from device.core device.core → PouredSoFar device device 0 now now
  none_poured device now still = record {
    follows = still;
    named = refl;
    poured = record { bytes = []; appends = appends_nothing now; reads = λ c shown tell. (c, shown, (refl, λ volume there. refl)) };
  }

  pub poured_more : PartsTell → CameFurther → (old mid new : Device P) (n len : ℕ) (a b c : Option (List ℕ)) (bytes : List ℕ) → PouredSoFar old mid n a b → g.came_from mid.core new.core → name_of new ≡ name_of mid
      → Leads g mid new (AreRead (name_of mid) n len bytes) → Appends b c bytes → PouredSoFar old new (n + len) a c
  poured_more parts further old mid new n len a b c bytes so_far follows named reads printed = record {
    follows = further old.core mid.core new.core so_far.follows follows;
    named = named ∙ so_far.named;
    poured = record {
      bytes = so_far.poured.bytes ++ bytes;
      appends = appends_more a b c so_far.poured.bytes bytes so_far.poured.appends printed;
      reads = leads_on parts old mid new (AreFront (name_of old) n so_far.poured.bytes) (AreRead (name_of old) n len bytes) (AreFront (name_of old) (n + len) (so_far.poured.bytes ++ bytes)) so_far.follows follows
          (front_more (name_of old) n len so_far.poured.bytes bytes) so_far.poured.reads (subst (λ name. Leads g mid new (AreRead name n len bytes)) so_far.named reads);
    };
  }

  -- a call that changed nothing
  pub poured_still : PartsTell → (old mid new : Device P) (n : ℕ) (a b : Option (List ℕ)) → PouredSoFar old mid n a b → g.came_from mid.core new.core → Leads g mid new (λ c d. d ≡ c) → IsPouredOut g old new n a b
  poured_still parts old mid new n a b so_far follows still = record {
    bytes = so_far.poured.bytes;
    appends = so_far.poured.appends;
    reads = leads_on parts old mid new (AreFront (name_of old) n so_far.poured.bytes) (λ c d. d ≡ c) (AreFront (name_of old) n so_far.poured.bytes) so_far.follows follows
        (λ c d e front same. (same ∙ front.0, front.1)) so_far.poured.reads still;
  }
