-- Disks that were called come back, all of them.
use Rattle.std.proofs.Common.{◌≡◌, ◌∙◌, ℕ, zero, suc, List, [], ◌∷◌, ◌++◌, length, slice_get, Option, Some, ap, sym, refl}
use Rattle.std.specs.Option.{option_and_then, option_to_list}
use Rattle.model_disk.specs.Absent.{HaveFailed}
use Rattle.model_disk.specs.Member.{calls_of, disk_of}
use Rattle.model_disk.specs.declared.disk.Disk as disk
use Rattle.model_disk.specs.declared.member.Member.{Member}
use Rattle.model_disk.specs.declared.member.Member.TheVariants.{Present, Absent}
use Rattle.pool_members.specs.HandedIn.{CalledDisksComeBack, IsCalled, disk_back, disks_back}
use Rattle.pool_members.specs.declared.handed_in.Place.{Place}
use Rattle.pool_members.specs.declared.handed_in.Place.TheVariants.{OfChild, Unnamed}
use Rattle.pool_members.proofs.Restoring.{the_some}

module _ {D : Type 0} where
  is_there : (g : disk.Ghosts D) (member : Member D) → ¬ HaveFailed (calls_of g member) → (d : D) × (disk_of member ≡ Some d)
  is_there g (Present d) called = (d, refl)
  is_there g (Absent it) called = absurd (called it.failed)

  comes_back : (g : disk.Ghosts D) (members : List (Member D)) (place : Place D) → ((child : ℕ) → place ≡ OfChild child → IsCalled g members child)
      → (d : D) × (disk_back members place ≡ Some d)
  comes_back g members (Unnamed d) called = (d, refl)
  comes_back g members (OfChild child) called =
      let it = called child refl in
      let there = is_there g it.0 it.2 in
      (there.0, ap (option_and_then disk_of) it.1 ∙ there.1)

  one_back : (taken : Option D) (d : D) (rest : List D) → taken ≡ Some d → option_to_list taken ++ rest ≡ d ∷ rest
  one_back taken d rest is = ap (λ (t : Option D). option_to_list t ++ rest) is

  at_place : (g : disk.Ghosts D) (members : List (Member D)) (place : Place D) (places : List (Place D)) (d : D) → disk_back members place ≡ Some d
      → disks_back members (place ∷ places) ≡ d ∷ disks_back members places
      → ((i : ℕ) (other : Place D) → slice_get places i ≡ Some other → slice_get (disks_back members places) i ≡ disk_back members other)
      → (i : ℕ) (other : Place D) → slice_get (place ∷ places) i ≡ Some other → slice_get (disks_back members (place ∷ places)) i ≡ disk_back members other
  at_place g members place places d is one rest zero other at =
      ap (λ (l : List D). slice_get l zero) one ∙ sym is ∙ ap (disk_back members) (the_some place other at)
  at_place g members place places d is one rest (suc i) other at = ap (λ (l : List D). slice_get l (suc i)) one ∙ rest i other at

  pub all_come_back : (g : disk.Ghosts D) → CalledDisksComeBack g
  all_come_back g members [] called = (refl, λ i place at. absurd cc)
  all_come_back g members (place ∷ places) called =
      let here = comes_back g members place (λ child is. called zero child (ap Some is)) in
      let rest = all_come_back g members places (λ i child at. called (suc i) child at) in
      let one = one_back (disk_back members place) here.0 (disks_back members places) here.1 in
      (ap length one ∙ ap suc rest.0, at_place g members place places here.0 here.1 one rest.1)
