-- Where there are no spans no disk lacks a block, and none come of them.
use Rattle.std.proofs.Common.{ℕ, zero, suc, ◌≡◌, inl, inr, Bool, false, true≢false, None, List, [], ◌∷◌, refl, sym, ap, ◌∙◌, arith}
use Rattle.std.specs.Prelude.{Contains, slice_index_or}
use Rattle.disk_set.specs.Outs.{is_in, is_out, is_stale, stale_from}
use Rattle.meta_objset.specs.declared.stale_spans.StaleSpan.{StaleSpan}
use Rattle.stale_disks.specs.Rules.{AreSpansAfter, AreSpansOpened, AreSpansWithout, stale_groups}

-- ---- groups

no_groups : (guids : List ℕ) (disk : ℕ) → slice_index_or (stale_groups [] guids) disk None ≡ None
no_groups [] disk = refl
no_groups (guid ∷ guids) zero = refl
no_groups (guid ∷ guids) (suc disk) = no_groups guids disk

-- no disk lacks the blocks of a group
pub none_stale : (guids : List ℕ) (disk birth : ℕ) → is_stale (stale_groups [] guids) disk birth ≡ false
none_stale guids disk birth = ap (λ span. is_in span birth) (no_groups guids disk)

-- no number is of a disk that does
pub none_missed : (guids : List ℕ) (first birth : ℕ) → stale_from first (stale_groups [] guids) birth ≡ []
none_missed [] first birth = refl
none_missed (guid ∷ guids) first birth = none_missed guids (suc first) birth

-- ---- spans

no_span_in : (span : StaleSpan) → Contains [] span → ⊥
no_span_in span (k, within, is) = omega (arith, within)

nothing : (spans : List StaleSpan) → ((span : StaleSpan) → ¬ Contains spans span) → spans ≡ []
nothing [] none = refl
nothing (span ∷ spans) none = absurd (none span (0, omega arith, refl))

-- a table without rows opens as no spans
pub nothing_opened : (guids : List ℕ) (out : List Bool) (group : ℕ) (spans : List StaleSpan) → AreSpansOpened guids out group [] spans → spans ≡ []
nothing_opened guids out group spans are = nothing spans (λ span held. let it = (are span).0 held in no_span_in it.0 it.1)

-- while no disk is out, no span comes of none
pub nothing_after : (guids : List ℕ) (out : List Bool) (group : ℕ) (spans : List StaleSpan) → ((disk : ℕ) → is_out out disk ≡ false)
    → AreSpansAfter guids out group [] spans → spans ≡ []
nothing_after guids out group spans there are = nothing spans (λ span held. elim ((are span).0 held) [
  | inl (away, end, since) ↦ true≢false (sym away.2 ∙ there away.0)
  | inr (other, before) ↦ no_span_in span before
])

-- nor do any come of none where those of marked disks go
pub nothing_without : (guids : List ℕ) (marks : List Bool) (spans : List StaleSpan) → AreSpansWithout guids marks [] spans → spans ≡ []
nothing_without guids marks spans are = nothing spans (λ span held. no_span_in span ((are span).0 held).1)
