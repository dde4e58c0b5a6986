use Rattle.std.proofs.Common.{◌≡◌, ◌∷◌, length, Contains, IfErr, is_ok, sym, ap, ◌∙◌, subst}
use Rattle.model_disk.specs.Call.{write_call}
use Rattle.model_disk.specs.Joint.{Disks, on}
use Rattle.raidz_io.specs.Stands.{IsWithin}
use Rattle.disk_set.specs.Outs.{IsOutToo}
use Rattle.disk_set.specs.Set.{PoolDisks}
use Rattle.disk_set.proofs.Calls.{later_too, same_write_call}
use Rattle.disk_set.proofs.set.DiskSet.write_next.Goals as goal

pub invariant_of-self-2 : goal.invariant_of-self-2
invariant_of-self-2 g c = record {
  marks = c.self.invariant.marks ∙ ap length (sym c.write_on-answer.ensures.starts);
  spans = c.self.invariant.spans ∙ ap length (sym c.write_on-answer.ensures.starts);
  reached = c.self.invariant.reached;
  due = λ write held.
      let was : Contains c.self.inside.due.items write =
      subst (λ xs. Contains xs write) (sym c.in-Some.ensures.items) (later_too c.in-Some.write write c.pop_front.new.self.items held) in
      subst (λ starts. IsWithin starts write) (sym c.write_on-answer.ensures.starts) (c.self.invariant.due write was);
}

pub returns-clause-call : goal.returns-clause-call
returns-clause-call g c =
    let write = c.in-Some.write in
    let answers : is_ok c.note.result ≡ is_ok c.write_on-answer.result = c.note.ensures.ok ∙ c.is_ok.ensures.value in
    let call = same_write_call c.note.result c.write_on-answer.result write.offset write.bytes answers in
    let disk = c.disk-disk.ensures in (
      write,
      ap (λ (s : PoolDisks). s.due) (sym c.self.view_is) ∙ c.in-Some.ensures.items ∙ ap (λ xs. write ∷ xs) (sym c.note.ensures.due),
      ap (λ (d : Disks). d.calls) c.note.ensures.disks ∙ c.write_on-answer.ensures.calls
          ∙ ap (λ made. on write.disk made ∷ c.self.inside.disks.calls) (sym call)
          ∙ ap (λ (s : PoolDisks). on write.disk (write_call c.note.result write.offset write.bytes) ∷ s.disks.calls) c.self.view_is,
      subst (λ d. IfErr c.note.result (λ failed. failed.disk ≡ d)) disk c.note.ensures.failed,
      subst (λ d. IfErr c.note.result (λ failed. IsOutToo c.args.self.now.out d c.note.new.self.out)) disk
          (subst (λ (s : PoolDisks). IfErr c.note.result (λ failed. IsOutToo s.out c.disk-disk.result c.note.new.self.out)) c.self.view_is c.note.ensures.out_too),
    )
