-- The pairs of a vdev.
use Rattle.std.proofs.Common.{◌≡◌, ◌≢◌, ◌≤◌, ℕ, List, [], Some, refl, ap, sym, ◌∙◌, arith}
use Rattle.std.specs.Prelude.{codes}
use Rattle.nvlist.specs.Find.{find}
use Rattle.nvlist.specs.Grammar.{FitsBehind, FitsLists}
use Rattle.nvlist.specs.Plain.{PlainList, PlainLists, number, text, lists, pair_count}
use Rattle.nvlist.specs.View.{lists_of}
use Rattle.vdev_label.proofs.Children.{refuses}
use Rattle.vdev_label.proofs.Found.{exactly, fits_ascend, find_fits}
use Rattle.vdev_label.specs.Pairs.{numbered, child_pairs, vdev_pairs, tree_pairs}
use Rattle.vdev_label.specs.Plain.{PlainVdev}
use Rattle.vdev_label.specs.Refuses.{Refuses}
use Rattle.vdev_label.specs.declared.refusal.Refusal.{Refusal}

abbrev NoNumber : Refusal → PlainList → List ℕ → Type 0
NoNumber r l name = Refuses r ((n : ℕ) → find name l ≢ Some (number n))

abbrev NoVdev : Refusal → PlainList → ℕ → Type 0
NoVdev r l id = Refuses r ((v : PlainVdev) → l ≢ vdev_pairs id v)

pub no_asize : (r : Refusal) (l : PlainList) (id : ℕ) → NoNumber r l (codes "asize") → NoVdev r l id
no_asize r l id = refuses r _ _ (λ none v is. none _ (ap (find (codes "asize")) is))

pub no_guid : (r : Refusal) (l : PlainList) (id : ℕ) → NoNumber r l (codes "guid") → NoVdev r l id
no_guid r l id = refuses r _ _ (λ none v is. none _ (ap (find (codes "guid")) is))

pub no_meta_slabs : (r : Refusal) (l : PlainList) (id : ℕ) → NoNumber r l (codes "meta_slabs") → NoVdev r l id
no_meta_slabs r l id = refuses r _ _ (λ none v is. none _ (ap (find (codes "meta_slabs")) is))

pub no_ms_shift : (r : Refusal) (l : PlainList) (id : ℕ) → NoNumber r l (codes "ms_shift") → NoVdev r l id
no_ms_shift r l id = refuses r _ _ (λ none v is. none _ (ap (find (codes "ms_shift")) is))

pub no_nparity : (r : Refusal) (l : PlainList) (id : ℕ) → NoNumber r l (codes "nparity") → NoVdev r l id
no_nparity r l id = refuses r _ _ (λ none v is. none _ (ap (find (codes "nparity")) is))

same_lists_value : (xs ys : PlainLists) → Some (lists xs) ≡ Some (lists ys) → xs ≡ ys
same_lists_value xs ys same = cc

pub children_fit : (l : PlainList) (ls : PlainLists) → FitsBehind [] l → find (codes "children") l ≡ Some (lists ls) → FitsLists ls
children_fit l ls fits has = (find_fits [] l (codes "children") (lists ls) fits has).1

-- the disks of a vdev
abbrev pub HasDisks : PlainList → List ℕ → Type 0
HasDisks l guids = find (codes "children") l ≡ Some (lists (lists_of (numbered child_pairs 0 guids)))

abbrev NoDisks : Refusal → PlainList → Type 0
NoDisks r l = Refuses r ((guids : List ℕ) → ¬ HasDisks l guids)

pub no_children : (r : Refusal) (l : PlainList) → Refuses r ((ls : PlainLists) → find (codes "children") l ≢ Some (lists ls)) → NoDisks r l
no_children r l = refuses r _ _ (λ none guids is. none _ is)

pub bad_children : (r : Refusal) (l : PlainList) (ls : PlainLists) → find (codes "children") l ≡ Some (lists ls)
    → Refuses r ((guids : List ℕ) → ls ≢ lists_of (numbered child_pairs 0 guids)) → NoDisks r l
bad_children r l ls has =
    refuses r _ _ (λ none guids is. none guids (same_lists_value ls (lists_of (numbered child_pairs 0 guids)) (sym has ∙ is)))

pub has_children : (l : PlainList) (ls : PlainLists) (guids : List ℕ) → find (codes "children") l ≡ Some (lists ls) → ls ≡ lists_of (numbered child_pairs 0 guids)
    → HasDisks l guids
has_children l ls guids has are = has ∙ ap (λ it. Some (lists it)) are

pub no_disks : (r : Refusal) (l : PlainList) (id : ℕ) → NoDisks r l → NoVdev r l id
no_disks r l id = refuses r _ _ (λ none v is. none v.children (ap (find (codes "children")) is))

-- what was looked up is all
pub is_vdev : (l : PlainList) (id : ℕ) (v : PlainVdev) → FitsBehind [] l → pair_count l ≡ 9
    → find (codes "ashift") l ≡ Some (number 9) → find (codes "asize") l ≡ Some (number v.child_sectors)
    → HasDisks l v.children
    → find (codes "guid") l ≡ Some (number v.guid) → find (codes "id") l ≡ Some (number id)
    → find (codes "meta_slabs") l ≡ Some (number v.meta_slabs) → find (codes "ms_shift") l ≡ Some (number v.slab_shift)
    → find (codes "nparity") l ≡ Some (number v.parity) → find (codes "type") l ≡ Some (text (codes "raidz"))
    → l ≡ vdev_pairs id v
is_vdev l id v fits count ashift asize children guid own meta_slabs ms_shift nparity kind =
    exactly [] l (vdev_pairs id v) (fits_ascend [] l fits) (refl, (refl, (refl, (refl, (refl, (refl, (refl, (refl, (refl, tt)))))))))
    (ashift, (asize, (children, (guid, (own, (meta_slabs, (ms_shift, (nparity, (kind, tt))))))))) (omega (arith, count))

-- a configuration, which has one pair
pub no_vdevs : (r : Refusal) (l : PlainList) → Refuses r ((ls : PlainLists) → find (codes "children") l ≢ Some (lists ls))
    → Refuses r ((vdevs : List PlainVdev) → l ≢ tree_pairs vdevs)
no_vdevs r l = refuses r _ _ (λ none v is. none _ (ap (find (codes "children")) is))

pub bad_vdevs : (r : Refusal) (l : PlainList) (ls : PlainLists) → find (codes "children") l ≡ Some (lists ls)
    → Refuses r ((vdevs : List PlainVdev) → ls ≢ lists_of (numbered vdev_pairs 0 vdevs)) → Refuses r ((vdevs : List PlainVdev) → l ≢ tree_pairs vdevs)
bad_vdevs r l ls has =
    refuses r _ _ (λ none vdevs is. none vdevs (same_lists_value ls (lists_of (numbered vdev_pairs 0 vdevs)) (sym has ∙ ap (find (codes "children")) is)))

pub is_tree : (l : PlainList) (vdevs : List PlainVdev) (ls : PlainLists) → FitsBehind [] l → pair_count l ≤ 1
    → find (codes "children") l ≡ Some (lists ls) → ls ≡ lists_of (numbered vdev_pairs 0 vdevs) → l ≡ tree_pairs vdevs
is_tree l vdevs ls fits count children are =
    exactly [] l (tree_pairs vdevs) (fits_ascend [] l fits) (refl, tt) (children ∙ ap (λ it. Some (lists it)) are, tt) count

pub ruleset disks_causes = (no_children, bad_children, children_fit, has_children)

pub ruleset vdev_causes = (no_asize, no_guid, no_meta_slabs, no_ms_shift, no_nparity, no_disks)

pub ruleset tree_causes = (no_vdevs, bad_vdevs, children_fit, is_tree)
