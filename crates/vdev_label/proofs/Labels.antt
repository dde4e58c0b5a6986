-- The pairs of a label.
use Rattle.std.proofs.Common.{◌≡◌, ◌≢◌, ◌≤◌, ℕ, List, [], Some, refl, ap, sym, ◌∙◌}
use Rattle.std.specs.Prelude.{codes, IsTrue}
use Rattle.nvlist.specs.Find.{find}
use Rattle.nvlist.specs.Grammar.{FitsBehind}
use Rattle.nvlist.specs.Plain.{PlainList, number, text, list, pair_count}
use Rattle.vdev_label.proofs.Children.{refuses}
use Rattle.vdev_label.proofs.Found.{exactly, fits_ascend, find_fits}
use Rattle.vdev_label.specs.Pairs.{tree_pairs, state_number, label_pairs, is_name, IsCount, InRange}
use Rattle.vdev_label.specs.Plain.{PlainVdev, PlainLabel}
use Rattle.vdev_label.specs.Refuses.{Refuses}
use Rattle.vdev_label.specs.declared.label.State.{State}
use Rattle.vdev_label.specs.declared.refusal.Refusal.{Refusal}

abbrev NoNumber : Refusal → PlainList → List ℕ → Type 0
NoNumber r l name = Refuses r ((n : ℕ) → find name l ≢ Some (number n))

abbrev NoCount : Refusal → PlainList → List ℕ → Type 0
NoCount r l name = Refuses r ((n : ℕ) → IsCount n → find name l ≢ Some (number n))

abbrev NoLabel : Refusal → PlainList → Type 0
NoLabel r l = Refuses r ((v : PlainLabel) → InRange v → l ≢ label_pairs v)

pub no_guid : (r : Refusal) (l : PlainList) → NoNumber r l (codes "guid") → NoLabel r l
no_guid r l = refuses r _ _ (λ none v ok is. none _ (ap (find (codes "guid")) is))

pub no_pool_guid : (r : Refusal) (l : PlainList) → NoNumber r l (codes "pool_guid") → NoLabel r l
no_pool_guid r l = refuses r _ _ (λ none v ok is. none _ (ap (find (codes "pool_guid")) is))

pub no_top_guid : (r : Refusal) (l : PlainList) → NoNumber r l (codes "top_guid") → NoLabel r l
no_top_guid r l = refuses r _ _ (λ none v ok is. none _ (ap (find (codes "top_guid")) is))

pub no_claim : (r : Refusal) (l : PlainList) → NoCount r l (codes "claim") → NoLabel r l
no_claim r l = refuses r _ _ (λ none v ok is. none _ (ok.claim_from, ok.claim_to) (ap (find (codes "claim")) is))

pub no_group : (r : Refusal) (l : PlainList) → NoCount r l (codes "txg") → NoLabel r l
no_group r l = refuses r _ _ (λ none v ok is. none _ (ok.group_from, ok.group_to) (ap (find (codes "txg")) is))

pub no_state : (r : Refusal) (l : PlainList) → Refuses r ((s : State) → find (codes "state") l ≢ Some (number (state_number s))) → NoLabel r l
no_state r l = refuses r _ _ (λ none v ok is. none v.state (ap (find (codes "state")) is))

pub no_name : (r : Refusal) (l : PlainList) → Refuses r ((t : List ℕ) → IsTrue (is_name t) → find (codes "name") l ≢ Some (text t)) → NoLabel r l
no_name r l = refuses r _ _ (λ none v ok is. none _ ok.name (ap (find (codes "name")) is))

same_list_value : (xs ys : PlainList) → Some (list xs) ≡ Some (list ys) → xs ≡ ys
same_list_value xs ys same = cc

-- the configuration of a label
abbrev pub HasTree : PlainList → List PlainVdev → Type 0
HasTree l vdevs = find (codes "vdev_tree") l ≡ Some (list (tree_pairs vdevs))

abbrev NoTree : Refusal → PlainList → Type 0
NoTree r l = Refuses r ((vdevs : List PlainVdev) → ¬ HasTree l vdevs)

pub no_list : (r : Refusal) (l : PlainList) → Refuses r ((t : PlainList) → find (codes "vdev_tree") l ≢ Some (list t)) → NoTree r l
no_list r l = refuses r _ _ (λ none vdevs is. none _ is)

pub bad_list : (r : Refusal) (l tree : PlainList) → find (codes "vdev_tree") l ≡ Some (list tree)
    → Refuses r ((vdevs : List PlainVdev) → tree ≢ tree_pairs vdevs) → NoTree r l
bad_list r l tree has =
    refuses r _ _ (λ none vdevs is. none vdevs (same_list_value tree (tree_pairs vdevs) (sym has ∙ is)))

pub has_list : (l tree : PlainList) (vdevs : List PlainVdev) → find (codes "vdev_tree") l ≡ Some (list tree) → tree ≡ tree_pairs vdevs → HasTree l vdevs
has_list l tree vdevs has are = has ∙ ap (λ it. Some (list it)) are

pub tree_fits : (l tree : PlainList) → FitsBehind [] l → find (codes "vdev_tree") l ≡ Some (list tree) → FitsBehind [] tree
tree_fits l tree fits has = (find_fits [] l (codes "vdev_tree") (list tree) fits has).1

pub no_tree : (r : Refusal) (l : PlainList) → NoTree r l → NoLabel r l
no_tree r l = refuses r _ _ (λ none v ok is. none v.vdevs (ap (find (codes "vdev_tree")) is))

-- what was looked up is all
pub is_label : (l : PlainList) (v : PlainLabel) → FitsBehind [] l → pair_count l ≤ 9
    → find (codes "claim") l ≡ Some (number v.claim) → find (codes "guid") l ≡ Some (number v.guid)
    → find (codes "name") l ≡ Some (text v.name) → find (codes "pool_guid") l ≡ Some (number v.pool_guid)
    → find (codes "state") l ≡ Some (number (state_number v.state)) → find (codes "top_guid") l ≡ Some (number v.top_guid)
    → find (codes "txg") l ≡ Some (number v.group) → HasTree l v.vdevs
    → find (codes "version") l ≡ Some (number 1) → l ≡ label_pairs v
is_label l v fits count claim guid name pool_guid state top_guid group tree version =
    exactly [] l (label_pairs v) (fits_ascend [] l fits) (refl, (refl, (refl, (refl, (refl, (refl, (refl, (refl, (refl, tt)))))))))
    (claim, (guid, (name, (pool_guid, (state, (top_guid, (group, (tree, (version, tt))))))))) count

pub ruleset tree_causes = (no_list, bad_list, has_list, tree_fits)

pub ruleset label_causes = (no_guid, no_pool_guid, no_top_guid, no_claim, no_group, no_state, no_name, no_tree)
