-- Rows that are a pool's.
use Rattle.std.proofs.Common.{◌≡◌, ◌≢◌, ℕ, ◌+◌, ◌<◌, List, [], ◌∷◌, ◌++◌, take, drop, get_or, length, All, AllPairs, Contains, inl, inr, sym, ap, subst, ◌∙◌, arith}
use Rattle.std.proofs.lemmas.List.{drop_more, take-append-drop, take_more}
use Rattle.std.proofs.lemmas.List.Elements.{All-append, All-cons, All-contains, All-nil, Contains-append_left}
use Rattle.block_store.specs.Spaces.{VdevSpace}
use Rattle.meta_objset.proofs.Edits.{in_middle, pairs_head, pairs_tail, the_middle}
use Rattle.meta_objset.proofs.Ordered.{in_front, pushed_order}
use Rattle.meta_objset.specs.SpaceMaps.{AreSpaceMaps, IsEarlier}
use Rattle.meta_objset.specs.declared.space_maps.MetaslabMap.{MetaslabMap}
use Rattle.pool_maps.specs.Maps.{AreRowsOf, HasMapPlace}
use Rattle.pool_maps.proofs.Planned.{all_from, never_earlier}

-- the rows so far are a pool's
pub record JudgedTo (spaces : List VdevSpace) (rows : List MetaslabMap) : Type 0 where
  pub places : All (λ (m : MetaslabMap). HasMapPlace spaces m.metaslab) rows
  pub behind : All (λ (m : MetaslabMap). 4 < m.object) rows
  pub apart : AllPairs (λ (m n : MetaslabMap). m.object ≢ n.object) rows

pub none_judged : (spaces : List VdevSpace) → JudgedTo spaces []
none_judged spaces = record {
  places = All-nil (λ (m : MetaslabMap). HasMapPlace spaces m.metaslab);
  behind = All-nil (λ (m : MetaslabMap). 4 < m.object);
  apart = λ i j d less low. absurd (omega (arith, low));
}

pub one_judged : (spaces : List VdevSpace) (rows : List MetaslabMap) (i : ℕ) (row : MetaslabMap) → i < length rows → get_or rows i row ≡ row → JudgedTo spaces (take i rows)
    → HasMapPlace spaces row.metaslab → 4 < row.object → All (λ (m : MetaslabMap). m.object ≢ row.object) (take i rows) → JudgedTo spaces (take (i + 1) rows)
one_judged spaces rows i row low is before place behind apart =
    subst (JudgedTo spaces) (sym (take_more rows i row low ∙ ap (λ m. take i rows ++ m ∷ []) is)) (record {
      places = All-append (λ (m : MetaslabMap). HasMapPlace spaces m.metaslab) (take i rows) (row ∷ []) before.places
          (All-cons (λ (m : MetaslabMap). HasMapPlace spaces m.metaslab) row [] place (All-nil (λ (m : MetaslabMap). HasMapPlace spaces m.metaslab)));
      behind = All-append (λ (m : MetaslabMap). 4 < m.object) (take i rows) (row ∷ []) before.behind
          (All-cons (λ (m : MetaslabMap). 4 < m.object) row [] behind (All-nil (λ (m : MetaslabMap). 4 < m.object)));
      apart = pushed_order (λ (m n : MetaslabMap). m.object ≢ n.object) (take i rows) row before.apart apart;
    })

apart_rows : (rows : List MetaslabMap) (row other : MetaslabMap) → AllPairs (λ (m n : MetaslabMap). m.object ≢ n.object) rows → Contains rows row → Contains rows other
    → row.object ≡ other.object → row ≡ other
apart_rows [] row other apart (k, low, is) that same = absurd (omega (arith, low))
apart_rows (first ∷ rows) row other apart this that same =
    let ahead = pairs_head (λ (m n : MetaslabMap). m.object ≢ n.object) first rows apart in
    elim (in_middle [] rows first row this) [
      | inl later ↦ elim (in_middle [] rows first other that) [
        | inl after ↦ apart_rows rows row other (pairs_tail (λ (m n : MetaslabMap). m.object ≢ n.object) first rows apart) later after same
        | inr here ↦ absurd (All-contains (λ (n : MetaslabMap). first.object ≢ n.object) rows row ahead later (ap (λ (m : MetaslabMap). m.object) here ∙ sym same))
      ]
      | inr this_is ↦ elim (in_middle [] rows first other that) [
        | inl after ↦ absurd (All-contains (λ (n : MetaslabMap). first.object ≢ n.object) rows other ahead after (ap (λ (m : MetaslabMap). m.object) this_is ∙ same))
        | inr here ↦ sym this_is ∙ here
      ]
    ]

pub all_judged : (spaces : List VdevSpace) (rows : List MetaslabMap) → JudgedTo spaces rows → AreRowsOf spaces rows
all_judged spaces rows is = record { places = is.places; behind = is.behind; apart = λ row other this that same. apart_rows rows row other is.apart this that same }

-- in rows of a pool no row before names the same object
pub none_names : (spaces : List VdevSpace) (rows : List MetaslabMap) (i : ℕ) (row : MetaslabMap) → i < length rows → get_or rows i row ≡ row → AreSpaceMaps rows → AreRowsOf spaces rows
    → All (λ (m : MetaslabMap). m.object ≢ row.object) (take i rows)
none_names spaces rows i row low is maps are =
    let split : rows ≡ take i rows ++ row ∷ drop (i + 1) rows =
    sym (take-append-drop i rows) ∙ ap (λ rest. take i rows ++ rest) (drop_more rows i row low ∙ ap (λ m. m ∷ drop (i + 1) rows) is) in
    let before = in_front (λ (m n : MetaslabMap). IsEarlier m.metaslab n.metaslab) (take i rows) (drop (i + 1) rows) row
    (subst (AllPairs (λ (m n : MetaslabMap). IsEarlier m.metaslab n.metaslab)) split maps.order) in
    all_from (λ (m : MetaslabMap). m.object ≢ row.object) (take i rows) (λ other held same.
    let among : Contains rows other = subst (λ all. Contains all other) (take-append-drop i rows) (Contains-append_left (take i rows) (drop i rows) other held) in
    let there : Contains rows row = subst (λ all. Contains all row) (sym split) (the_middle (take i rows) (drop (i + 1) rows) row) in
    never_earlier other.metaslab row.metaslab (ap (λ (m : MetaslabMap). m.metaslab) (are.apart other row among there same))
    (All-contains (λ (m : MetaslabMap). IsEarlier m.metaslab row.metaslab) (take i rows) other before held))
