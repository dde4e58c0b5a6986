use Rattle.std.proofs.Common.{◌≡◌, ℕ, List, ◌++◌, take, drop, sym, ap, ◌∙◌}
use Rattle.std.proofs.lemmas.List.{take_at, drop_at, take-append-drop}
use Rattle.block_pointer.specs.Pointer.{spelling}
use Rattle.dnode.proofs.indirect.first_pointer.Goals as goal

pub returns-in_default-decode-clause-only : goal.returns-in_default-decode-clause-only
returns-in_default-decode-clause-only c = λ pointer rest fits e.
    let first : c.in-Some.first.now ≡ spelling pointer = c.in-Some.ensures.cases.0 ∙ ap (take 128) e ∙ take_at (spelling pointer) rest 128 fits.1 in
    let read = c.in_default-decode.ensures.only pointer (fits.0, first) in
    absurd cc

pub returns-clause-found : goal.returns-clause-found
returns-clause-found c =
    let bytes = c.args.bytes.now in
    let cases = c.in-Some.ensures.cases in
    let first : take 128 bytes ≡ spelling c.in-Ok.pointer = sym cases.0 ∙ c.in-Ok.ensures.found.1 in
    sym (take-append-drop 128 bytes) ∙ ap (λ (x : List ℕ). x ++ drop 128 bytes) first ∙ ap (λ (x : List ℕ). spelling c.in-Ok.pointer ++ x) (sym cases.1)

pub returns-clause-only : goal.returns-clause-only
returns-clause-only c = λ pointer rest fits e.
    let first : c.in-Some.first.now ≡ spelling pointer = c.in-Some.ensures.cases.0 ∙ ap (take 128) e ∙ take_at (spelling pointer) rest 128 fits.1 in
    let read = c.in-Ok.ensures.only pointer (fits.0, first) in
    let behind : c.in-Some.rest.now ≡ rest = c.in-Some.ensures.cases.1 ∙ ap (drop 128) e ∙ drop_at (spelling pointer) rest 128 fits.1 in
    (cc, behind)
