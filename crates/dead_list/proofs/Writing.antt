-- What becomes of a pool where a head is written.
use Rattle.std.proofs.Common.{ℕ, ◌≡◌, ◌≢◌, ◌<◌, ◌⊎◌, inl, inr, List, Contains, refl, sym, ap, ◌∙◌, subst, arith}
use Rattle.std.proofs.lemmas.Bool.{cases_eq}
use Rattle.block_pointer.specs.declared.block.Block.{Block}
use Rattle.dead_list.specs.Blocks.{IsDifference}
use Rattle.dead_list.specs.Datasets.{Head, Snapshot, Dataset, Datasets, Pool, IsReached, IsBornIn, AreFreed, group_before, updated}
use Rattle.dead_list.specs.Operations.{IsWritable, AreNew, IsOverwritten, with_dataset}
use Rattle.dead_list.specs.Sound.{IsSound, Fits}
use Rattle.dead_list.proofs.Climbing.{not_behind, only_there}
use Rattle.dead_list.proofs.Fitting.{until_head, not_none, before_born, reached_other, reached_here}
use Rattle.dead_list.proofs.Parts.{split_cases, split_after, split_until, split_once, joined_cases, joined_left, joined_right, joined_once}
use Rattle.dead_list.proofs.Updates.{other_at, at_each}

module _ (pool : Pool) (sound : IsSound pool) (h : ℕ) (head : (pool.datasets h).kind ≡ Head) (later : IsWritable pool h)
    (left entered freed : List Block) (fresh : AreNew pool entered) (new : Pool) (is : IsOverwritten pool h left entered freed new) where
  some : h ≢ 0
  some = not_none pool sound h (λ e. cc)

  none_behind : (m : ℕ) → (pool.datasets m).before ≢ h
  none_behind m = not_behind pool sound h m some (λ e. cc)

  abbrev written : Dataset
  written = record (pool.datasets h) { blocks = is.blocks; dead = is.dead }

  abbrev after : Datasets
  after = updated pool.datasets h written

  other_before : (m : ℕ) → after (pool.datasets m).before ≡ pool.datasets (pool.datasets m).before
  other_before m = other_at pool.datasets h written (pool.datasets m).before (none_behind m)

  -- a block that is reached stayed or is new
  cases_of : (b : Block) → Contains is.blocks b → Contains (pool.datasets h).blocks b ⊎ Contains entered b
  cases_of b held = is.enter.each b held

  -- what the snapshot before reaches didn't enter
  not_entered : (b : Block) → Contains (pool.datasets (pool.datasets h).before).blocks b → ¬ Contains entered b
  not_entered b there came = (fresh b came).1 ((pool.datasets h).before, there)

  dead_are : IsDifference (pool.datasets (pool.datasets h).before).blocks is.blocks is.dead
  dead_are = record {
    each = λ b there. elim ((sound.fits h).dead.each b there) [
      | inr dead ↦ inr (joined_left (pool.datasets h).dead is.older is.dead is.dead_are b dead)
      | inl here ↦ elim (is.leave.each b here) [
        | inl still ↦ inl still
        | inr gone ↦ elim (split_cases (group_before pool.datasets h) left freed is.older is.split b gone) [
          | inl young ↦ absurd (omega (arith, young.0, before_born pool sound h b there))
          | inr old ↦ inr (joined_right (pool.datasets h).dead is.older is.dead is.dead_are b old.1)
        ]
      ]
    ];
    from = λ b dead. elim (joined_cases (pool.datasets h).dead is.older is.dead is.dead_are b dead) [
      | inl was ↦
          let (there, not_here) = (sound.fits h).dead.from b was in (
            there,
            λ now. elim (cases_of b now) [
              | inl stayed ↦ not_here stayed
              | inr came ↦ not_entered b there came
            ],
          )
      | inr gone ↦
          let (early, in_left) = split_until (group_before pool.datasets h) left freed is.older is.split b gone in
          let (here, not_now) = is.leave.from b in_left in
          ((sound.fits h).shared b here early, not_now)
    ];
    once = joined_once (pool.datasets h).dead is.older is.dead is.dead_are (sound.fits h).dead.once
        (split_once (group_before pool.datasets h) left freed is.older is.split is.leave.once).1
        (λ b was gone. ((sound.fits h).dead.from b was).1 (is.leave.from b (split_until (group_before pool.datasets h) left freed is.older is.split b gone).1).0);
  }

  fits_here : Fits pool.group written (pool.datasets (pool.datasets h).before)
  fits_here = record {
    made = (sound.fits h).made;
    past = (sound.fits h).past;
    born = λ b held. elim (cases_of b held) [
      | inl old ↦ (sound.fits h).born b old
      | inr came ↦ let e = until_head pool.group (pool.datasets h) head in omega (arith, e, (fresh b came).0)
    ];
    once = is.once;
    shared = λ b held early. elim (cases_of b held) [
      | inl old ↦ (sound.fits h).shared b old early
      | inr came ↦ absurd (omega (arith, (fresh b came).0, early, later))
    ];
    dead = dead_are;
  }

  written_fits : (m : ℕ) → Fits pool.group (after m) (after (after m).before)
  written_fits = at_each pool.datasets h written (λ m x. Fits pool.group x (after x.before))
      (subst (λ p. Fits pool.group written p) (sym (other_before h)) fits_here)
      (λ m ne. subst (λ p. Fits pool.group (pool.datasets m) p) (sym (other_before m)) (sound.fits m))

  written_linked : (m : ℕ) → ((after m).before ≡ 0) ⊎ (((after (after m).before).kind ≡ Snapshot) × (sound.rank (after m).before < sound.rank m))
  written_linked = at_each pool.datasets h written (λ m x. (x.before ≡ 0) ⊎ (((after x.before).kind ≡ Snapshot) × (sound.rank x.before < sound.rank m)))
      (as_before h) (λ m ne. as_before m)
    where
      as_before : (m : ℕ) → ((pool.datasets m).before ≡ 0) ⊎ (((after (pool.datasets m).before).kind ≡ Snapshot) × (sound.rank (pool.datasets m).before < sound.rank m))
      as_before m = elim (sound.linked m) [
        | inl first ↦ inl first
        | inr link ↦ inr (ap (λ (x : Dataset). x.kind) (other_before m) ∙ link.0, link.1)
      ]

  -- a block that is born in a dataset was before, or entered the head
  born_before : (m : ℕ) (b : Block) → IsBornIn after m b → IsBornIn pool.datasets m b ⊎ ((m ≡ h) × Contains entered b)
  born_before m b = at_each pool.datasets h written (λ m x. Contains x.blocks b × ((after x.before).group < b.birth) → IsBornIn pool.datasets m b ⊎ ((m ≡ h) × Contains entered b))
      (λ born. elim (cases_of b born.0) [
        | inl old ↦ inl (old, subst (λ (x : Dataset). x.group < b.birth) (other_before h) born.1)
        | inr came ↦ inr (refl, came)
      ])
      (λ m ne born. inl (born.0, subst (λ (x : Dataset). x.group < b.birth) (other_before m) born.1)) m

  written_one : (m n : ℕ) (b : Block) → IsBornIn after m b → IsBornIn after n b → m ≡ n
  written_one m n b first second = elim (born_before m b first) [
    | inl was ↦ elim (born_before n b second) [
      | inl also ↦ sound.one m n b was also
      | inr came ↦ absurd ((fresh b came.1).1 (m, was.0))
    ]
    | inr came ↦ elim (born_before n b second) [
      | inl was ↦ absurd ((fresh b came.1).1 (n, was.0))
      | inr also ↦ came.0 ∙ sym also.0
    ]
  ]

  pub head_written : IsSound (with_dataset pool h written)
  head_written = record {
    none = other_at pool.datasets h written 0 (λ e. some (sym e)) ∙ sound.none;
    rank = sound.rank;
    linked = written_linked;
    fits = written_fits;
    one = written_one;
    followed = at_each pool.datasets h written (λ m y. y.kind ≡ Snapshot → (after (pool.next m)).before ≡ m)
        (λ e. absurd (cc))
        (λ m ne kind. at_each pool.datasets h written (λ n y. y.before ≡ (pool.datasets n).before) refl (λ n ne. refl) (pool.next m) ∙ sound.followed m kind);
  }

  written_to : (b : Block) → Contains freed b → IsReached pool.datasets b × ¬ IsReached after b
  written_to b held =
      let (young, in_left) = split_after (group_before pool.datasets h) left freed is.older is.split b held in
      let (was, not_now) = is.leave.from b in_left in (
        (h, was),
        λ (m, now). at_each pool.datasets h written (λ k y. Contains y.blocks b → ⊥) not_now
            (λ k ne here. ne (only_there pool sound b h k (was, young) (λ behind. none_behind behind.at behind.before) here)) m now,
      )

  written_from : (b : Block) → IsReached pool.datasets b × ¬ IsReached after b → Contains freed b
  written_from b ((m, was), now) = elim (cases_eq m h) [
    | inr ne ↦ absurd (now (reached_other pool.datasets h written m b ne was))
    | inl e ↦
        let here : Contains (pool.datasets h).blocks b = subst (λ k. Contains (pool.datasets k).blocks b) e was in
        elim (is.leave.each b here) [
          | inl still ↦ absurd (now (reached_here pool.datasets h written b still))
          | inr gone ↦ elim (split_cases (group_before pool.datasets h) left freed is.older is.split b gone) [
            | inl young ↦ young.1
            | inr old ↦ absurd (now (reached_other pool.datasets h written (pool.datasets h).before b (none_behind h) ((sound.fits h).shared b here old.0)))
          ]
        ]
  ]

  pub written_freed : AreFreed pool.datasets after freed
  written_freed = record {
    which = λ b. (written_to b, written_from b);
    once = (split_once (group_before pool.datasets h) left freed is.older is.split is.leave.once).0;
  }

  -- what is reached then was reached or entered
  pub written_back : (b : Block) → IsReached after b → IsReached pool.datasets b ⊎ Contains entered b
  written_back b (m, now) = at_each pool.datasets h written (λ k y. Contains y.blocks b → IsReached pool.datasets b ⊎ Contains entered b)
      (λ here. elim (cases_of b here) [
        | inl old ↦ inl (h, old)
        | inr came ↦ inr came
      ])
      (λ k ne there. inl (k, there)) m now
