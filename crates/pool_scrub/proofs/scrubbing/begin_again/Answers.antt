use Rattle.pool_scrub.proofs.Begun.{begun, not_begun}
use Rattle.pool_scrub.proofs.scrubbing.begin_again.Goals as goal

pub returns-in-Ok-core_again-clause-again : goal.returns-in-Ok-core_again-clause-again
returns-in-Ok-core_again-clause-again g c =
    begun c.args.disks c.args.layout.now c.args.uberblock.now c.args.known.config.value _ c.args.known.spans _ c.args.looked.now _ _ _ _
    c.as_slice-2.ensures.value c.as_slice-3.ensures.value c.as_slice.ensures.value c.in-Ok.ensures.config c.in-Ok.ensures.spans c.in-Ok.ensures.once c.in-Ok-core_again.ensures.again

pub returns-in-Err-clause-refused : goal.returns-in-Err-clause-refused
returns-in-Err-clause-refused g c =
    not_begun c.args.disks c.args.layout.now c.args.uberblock.now c.args.known.config.value _ c.args.known.spans _ c.args.looked.now _ _ _ _ _
    c.as_slice-2.ensures.value c.as_slice-3.ensures.value c.as_slice.ensures.value c.in-Ok.ensures.config c.in-Ok.ensures.spans c.in-Err.ensures.refused
