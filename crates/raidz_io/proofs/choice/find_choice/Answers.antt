use Rattle.std.proofs.Common.{ℕ, ◌≡◌, ◌≤◌, ◌<◌, ◌+◌, ◌∷◌, [], ◌++◌, List, length, arith}
use Rattle.sha2.specs.Sha256.{sha256}
use Rattle.raidz_parity.specs.Layout.{Block, columns_of}
use Rattle.raidz_io.specs.Places.{sizes_of}
use Rattle.raidz_io.specs.Stripe.{stripe_sizes, read_columns, MatchesBut}
use Rattle.raidz_io.specs.Choices.{IsWhole, HasNone, AreFurther}
use Rattle.raidz_io.proofs.Found.{none_at, none_further, none_lost, IfSome-each, IfNone-map}
use Rattle.raidz_io.proofs.choice.find_choice.Goals as goal

pub returns-then-lost-parity-clause-none : goal.returns-then-lost-parity-clause-none
returns-then-lost-parity-clause-none c =
    none_further c.args.digest.now c.args.parity (length c.args.data.now + c.args.parity) (sizes_of c.args.data.now) c.args.bytes.now c.args.lost.now
    c.requires.stripe.most_parity (none_at c.in_ok-block.field-0 _ c.in_default.is c.in_ok-block.ensures.none)
    (λ fewer. absurd (omega (arith, fewer, c.if-lost-parity.true)))
    (λ fewer. absurd (omega (arith, fewer, c.if-lost-parity.true)))

pub returns-then-lost-parity-2-clause-none : goal.returns-then-lost-parity-2-clause-none
returns-then-lost-parity-2-clause-none c =
    none_further c.args.digest.now c.args.parity (length c.args.data.now + c.args.parity) (sizes_of c.args.data.now) c.args.bytes.now c.args.lost.now
    c.requires.stripe.most_parity (none_at c.in_ok-block.field-0 _ c.in_default.is c.in_ok-block.ensures.none)
    (λ fewer k below. none_at c.in_ok-block-2.field-0 _ c.in_default-2.is c.in_ok-block-2.ensures.none k (omega arith) below)
    (λ fewer. absurd (omega (arith, fewer, c.if-lost-parity-2.true)))

pub returns-clause-first : goal.returns-clause-first
returns-clause-first c =
    IfSome-each c.in_ok-found.found
    (λ block. (other : List ℕ) (right : Block) → IsWhole c.args.parity (sizes_of c.args.data.now) other right
    → MatchesBut c.args.lost.now (read_columns right) (columns_of (stripe_sizes c.args.parity (sizes_of c.args.data.now)) c.args.bytes.now)
    → sha256 other ≡ c.args.digest.now → block.items ≡ other)
    (λ block. none_lost c.args.parity (sizes_of c.args.data.now) c.args.bytes.now c.args.lost.now block.items c.args.digest.now
    (none_at c.in_ok-block.field-0 _ c.in_default.is c.in_ok-block.ensures.none))

pub returns-clause-none : goal.returns-clause-none
returns-clause-none c =
    IfNone-map c.in_ok-found.found
    ((i k : ℕ) → i < k → k < length c.args.data.now + c.args.parity
    → HasNone c.args.digest.now c.args.parity (sizes_of c.args.data.now) c.args.bytes.now ((c.args.lost.now ++ i ∷ []) ++ k ∷ []))
    ((further : List ℕ) → AreFurther 0 (length c.args.data.now + c.args.parity) further → length c.args.lost.now + length further ≤ c.args.parity
    → HasNone c.args.digest.now c.args.parity (sizes_of c.args.data.now) c.args.bytes.now (c.args.lost.now ++ further))
    (λ two. none_further c.args.digest.now c.args.parity (length c.args.data.now + c.args.parity) (sizes_of c.args.data.now) c.args.bytes.now c.args.lost.now
    c.requires.stripe.most_parity (none_at c.in_ok-block.field-0 _ c.in_default.is c.in_ok-block.ensures.none)
    (λ fewer k below. none_at c.in_ok-block-2.field-0 _ c.in_default-2.is c.in_ok-block-2.ensures.none k (omega arith) below)
    (λ fewer. two))
    c.in_ok-found.ensures.none
