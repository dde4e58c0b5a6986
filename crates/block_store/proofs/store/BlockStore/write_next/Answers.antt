use Rattle.std.proofs.Common.{◌≡◌, ◌∷◌, IfErr, OnOk, sym, ap, ◌∙◌, subst}
use Rattle.model_disk.specs.Call.{write_call}
use Rattle.model_disk.specs.Joint.{on}
use Rattle.raidz_io.specs.Writes.{ColumnWrite}
use Rattle.block_store.specs.Places.{IsLaidOut}
use Rattle.block_store.specs.Store.{Store, IsOutToo, Spares, SparesBut, spans_without}
use Rattle.block_store.proofs.Calling.{made, on_disk}
use Rattle.block_store.proofs.Writing.{Makes, write_keeps, write_spares}
use Rattle.block_store.proofs.store.BlockStore.write_next.Given.{Over}
use Rattle.block_store.proofs.store.BlockStore.write_next.Goals as goal

pub invariant_of-self : goal.invariant_of-self
invariant_of-self g c = record {
  laid_out = subst (λ starts. IsLaidOut starts c.self.inside.spaces.items) (sym c.write_next.ensures.starts) c.self.invariant.laid_out;
}

-- the store behind the call
abbrev after : (g : Over) (c : goal.After-write_next g) → Store
after g c = record {
  disks = c.write_next.new.self.disks;
  spaces = c.self.inside.spaces.items;
  out = c.write_next.new.self.out;
  spans = c.write_next.new.self.spans;
  due = c.write_next.new.self.due;
  stray = c.self.inside.stray;
}

-- the write that was made
abbrev its_write : (g : Over) (c : goal.After-write_next g) → ColumnWrite
its_write g c = c.write_next.ensures.call.0

its_due : (g : Over) (c : goal.After-write_next g) → c.args.self.now.due ≡ its_write g c ∷ c.write_next.new.self.due
its_due g c = ap (λ (s : Store). s.due) (sym c.self.view_is) ∙ c.write_next.ensures.call.1

its_calls : (g : Over) (c : goal.After-write_next g) → c.write_next.new.self.disks.calls
    ≡ on (its_write g c).disk (write_call c.write_next.result (its_write g c).offset (its_write g c).bytes) ∷ c.args.self.now.disks.calls
its_calls g c =
    let write : ColumnWrite = its_write g c in
    c.write_next.ensures.call.2
    ∙ ap (λ (s : Store). on write.disk (write_call c.write_next.result write.offset write.bytes) ∷ s.disks.calls) c.self.view_is

its_out : (g : Over) (c : goal.After-write_next g) → IfErr c.write_next.result (λ failed. IsOutToo c.args.self.now.out (its_write g c).disk c.write_next.new.self.out)
its_out g c =
    subst (λ (s : Store). IfErr c.write_next.result (λ failed. IsOutToo s.out (its_write g c).disk c.write_next.new.self.out)) c.self.view_is
    c.write_next.ensures.call.4

laid_out : (g : Over) (c : goal.After-write_next g) → IsLaidOut c.args.self.now.disks.starts c.args.self.now.spaces
laid_out g c = subst (λ (s : Store). IsLaidOut s.disks.starts s.spaces) c.self.view_is c.self.invariant.laid_out

makes : (g : Over) (c : goal.After-write_next g) → Makes c.args.self.now (after g c) (its_write g c)
makes g c =
    made c.args.self.now (after g c) (its_write g c) c.write_next.result (c.write_next.ensures.starts ∙ ap (λ (s : Store). s.disks.starts) c.self.view_is)
    (ap (λ (s : Store). s.spaces) c.self.view_is) (its_due g c) (its_calls g c)
    (subst (λ (s : Store). OnOk c.write_next.result (c.write_next.new.self.out ≡ s.out)) c.self.view_is c.write_next.ensures.out) (its_out g c)
    (subst (λ (s : Store). OnOk c.write_next.result (c.write_next.new.self.spans ≡ s.spans)) c.self.view_is c.write_next.ensures.spans)
    (subst (λ (s : Store). IfErr c.write_next.result (λ failed. c.write_next.new.self.spans ≡ spans_without s.out s.spans (its_write g c).disk)) c.self.view_is
    (on_disk c.write_next.result (its_write g c).disk (λ disk. c.write_next.new.self.spans ≡ spans_without c.self.inside.set.out c.self.inside.set.spans disk)
    c.write_next.ensures.call.3 c.write_next.ensures.gone))
    (ap (λ (s : Store). s.stray) c.self.view_is)

pub returns-clause-call : goal.returns-clause-call
returns-clause-call g c = (its_write g c, its_due g c, its_calls g c, c.write_next.ensures.call.3, its_out g c)

pub returns-clause-plans : goal.returns-clause-plans
returns-clause-plans g c stored planned plans =
    write_keeps c.blocks_beside_others.ensures c.args.self.now (after g c) (its_write g c) stored planned (laid_out g c) (makes g c) plans

pub returns-clause-spares : goal.returns-clause-spares
returns-clause-spares g c write stored planned due plans =
    let both : its_write g c ∷ c.write_next.new.self.due ≡ write ∷ c.write_next.new.self.due = sym (its_due g c) ∙ due in
    let same : its_write g c ≡ write = cc in
    subst (λ (w : ColumnWrite). Spares stored c.args.self.now (after g c) × SparesBut w planned c.args.self.now (after g c)) same
    (write_spares c.blocks_beside_others.ensures c.args.self.now (after g c) (its_write g c) stored planned (laid_out g c) (makes g c) plans)
