use Rattle.std.proofs.Common.{◌≡◌, ℕ, List, ◌++◌, length, take, drop, sym, ap, ◌∙◌, arith}
use Rattle.std.proofs.lemmas.List.{take_at, drop_at, take-append-drop, length-append}
use Rattle.words.specs.Words.{word_bytes}
use Rattle.words.proofs.WordLemmas.{length-word_bytes}
use Rattle.meta_objset.proofs.word_rows.first_words.Goals as goal

pub returns-in_default-clause-only : goal.returns-in_default-clause-only
returns-in_default-clause-only c = λ words rest fit four e.
    absurd (omega (arith, ap length e, length-append (word_bytes words) rest, length-word_bytes words, four, c.in_default.ensures.cases))

pub returns-clause-found : goal.returns-clause-found
returns-clause-found c =
    let bytes = c.args.bytes.now in
    let cases = c.in-Some.ensures.cases in
    let first : take 32 bytes ≡ word_bytes c.read_words.new.words = sym cases.0 ∙ c.read_words.ensures.found in
    sym (take-append-drop 32 bytes) ∙ ap (λ (x : List ℕ). x ++ drop 32 bytes) first ∙ ap (λ (x : List ℕ). word_bytes c.read_words.new.words ++ x) (sym cases.1)

pub returns-clause-only : goal.returns-clause-only
returns-clause-only c = λ words rest fit four e.
    let len : length (word_bytes words) ≡ 32 = omega (arith, length-word_bytes words, four) in
    let first : c.in-Some.first.now ≡ word_bytes words = c.in-Some.ensures.cases.0 ∙ ap (take 32) e ∙ take_at (word_bytes words) rest 32 len in
    let behind : c.in-Some.rest.now ≡ rest = c.in-Some.ensures.cases.1 ∙ ap (drop 32) e ∙ drop_at (word_bytes words) rest 32 len in
    (c.read_words.ensures.only words fit first, behind)
