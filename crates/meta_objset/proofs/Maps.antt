-- Space maps in the order of their metaslabs.
use Rattle.std.proofs.Common.{◌≡◌, ◌≢◌, List, length, inl, inr, sym, ap, ◌∙◌, arith, rules}
use Rattle.std.proofs.lemmas.Bool.{cases_lt}
use Rattle.words.specs.Words.{AreWords}
use Rattle.words.proofs.WordLemmas.{length-word_bytes}
use Rattle.meta_objset.specs.declared.space_maps.MetaslabMap.{MetaslabMap}
use Rattle.meta_objset.specs.declared.space_maps.MetaslabPlace.{MetaslabPlace}
use Rattle.meta_objset.specs.SpaceMaps.{FitsMap, AreSpaceMaps, IsEarlier, map_bytes, map_words}
use Rattle.meta_objset.proofs.Ordered.{IsOrder, AreOrdered}

abbrev pub metaslab_of : MetaslabMap → MetaslabPlace
metaslab_of map = map.metaslab

abbrev pub Earlier : MetaslabMap → MetaslabMap → Type 0
Earlier map later = IsEarlier map.metaslab later.metaslab

apart : (a b : MetaslabPlace) → IsEarlier a b → a ≢ b
apart a b (inl lt) same = absurd (omega (arith, lt, ap (λ (p : MetaslabPlace). p.vdev) same))
apart a b (inr (there, lt)) same = absurd (omega (arith, lt, ap (λ (p : MetaslabPlace). p.index) same))

same_place : (a b : MetaslabPlace) → a.vdev ≡ b.vdev → a.index ≡ b.index → a ≡ b
same_place a b vdev index = λ i. record { vdev = vdev i; index = index i }

behind : (a b : MetaslabPlace) → ¬ IsEarlier a b → a ≢ b → IsEarlier b a
behind a b not differ =
    elim (cases_lt b.vdev a.vdev) [
      | inl lt ↦ inl lt
      | inr most ↦
          elim (cases_lt a.vdev b.vdev) [
            | inl lt ↦ absurd (not (inl lt))
            | inr least ↦
                let same : a.vdev ≡ b.vdev = omega (arith, most, least) in
                elim (cases_lt b.index a.index) [
                  | inl lt ↦ inr (sym same, lt)
                  | inr below ↦
                      elim (cases_lt a.index b.index) [
                        | inl lt ↦ absurd (not (inr (same, lt)))
                        | inr above ↦ absurd (differ (same_place a b same (omega (arith, below, above))))
                      ]
                ]
          ]
    ]

through : (a b c : MetaslabPlace) → IsEarlier a b → IsEarlier b c → IsEarlier a c
through a b c (inl first) (inl second) = inl (omega (arith, first, second))
through a b c (inl first) (inr (there, second)) = inl (omega (arith, first, there))
through a b c (inr (here, first)) (inl second) = inl (omega (arith, here, second))
through a b c (inr (here, first)) (inr (there, second)) = inr (here ∙ there, omega (arith, first, second))

pub place_order : IsOrder IsEarlier
place_order = record { apart = apart; behind = behind; through = through }

pub in_order : (maps : List MetaslabMap) → AreSpaceMaps maps → AreOrdered FitsMap Earlier maps
in_order maps is = record { each = is.each; order = is.order }

pub are_maps : (maps : List MetaslabMap) → AreOrdered FitsMap Earlier maps → AreSpaceMaps maps
are_maps maps is = record { each = is.each; order = is.order }

pub map_len : (map : MetaslabMap) → length (map_bytes map) ≡ 32
map_len map = length-word_bytes (map_words map)

pub are_words : (map : MetaslabMap) → FitsMap map → AreWords (map_words map)
are_words map fits = let vdev = fits.metaslab.vdev in let index = fits.metaslab.index in search rules
