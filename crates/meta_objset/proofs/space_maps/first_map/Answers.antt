use Rattle.std.proofs.Common.{refl}
use Rattle.meta_objset.specs.SpaceMaps.{map_words}
use Rattle.meta_objset.proofs.Maps.{are_words}
use Rattle.meta_objset.proofs.space_maps.first_map.Goals as goal

pub returns-in_err-words-clause-only : goal.returns-in_err-words-clause-only
returns-in_err-words-clause-only c = λ map rest fits e. absurd (c.in_err-words.ensures.only (map_words map) rest (are_words map fits) refl e)

pub returns-in_err-map-clause-only : goal.returns-in_err-map-clause-only
returns-in_err-map-clause-only c = λ map rest fits e.
    let read = c.in_ok-words.ensures.only (map_words map) rest (are_words map fits) refl e in
    let made = c.in_err-map.ensures.only map read.0 in
    absurd cc
