use Rattle.std.proofs.Common.{◌≡◌, List, length, map, inl, refl, sym, ap, subst}
use Rattle.model_disk.specs.Member.{calls_of, disk_of, start_of}
use Rattle.pool_members.specs.Arranged.{AreArranged, AreEachOnce, disk_for}
use Rattle.pool_members.specs.HandedIn.{AreHandedIn}
use Rattle.pool_members.specs.declared.arranging.Child.{Child}
use Rattle.pool_open.specs.Finding.{IsArrayOf}
use Rattle.pool_open.proofs.Once.{layout_once}
use Rattle.pool_open.proofs.finding.find.Goals as goal

pub returns-in-Err-clause-refused : goal.returns-in-Err-clause-refused
returns-in-Err-clause-refused g c = record {
  old = c.new-array.result;
  new = c.lay_out.new.disks;
  read = record { before = (c.new-array.ensures.starts, c.new-array.ensures.calls); only = c.lay_out.ensures.only; few = c.lay_out.ensures.few };
  cause = c.in-Err.ensures.refused;
  given = (sym c.into_disks.ensures.starts, λ which. sym (c.into_disks.ensures.calls which));
}

pub returns-in-Err-NoMemory-default-clause-refused : goal.returns-in-Err-NoMemory-default-clause-refused
returns-in-Err-NoMemory-default-clause-refused g c =
    let P : List g.row.D.Denot → Type 0 = λ back. IsArrayOf {D = g.row.D.Denot} g.D.Disk back c.lay_out.new.disks in
    record {
      old = c.new-array.result;
      new = c.lay_out.new.disks;
      read = record { before = (c.new-array.ensures.starts, c.new-array.ensures.calls); only = c.lay_out.ensures.only; few = c.lay_out.ensures.few };
      cause = inl refl;
      given = subst P (sym (ap (λ disks. disks.items) c.in-Err-NoMemory-default.ensures.back)) (sym c.into_disks-2.ensures.starts, λ which. sym (c.into_disks-2.ensures.calls which));
    }

pub returns-in-Ok-arrange-clause-found : goal.returns-in-Ok-arrange-clause-found
returns-in-Ok-arrange-clause-found g c =
    let after = c.into_disks-2.result.items in
    let P : List Child → Type 0 = λ them. map disk_of c.in-Ok-arrange.field-0.disks.items ≡ map (disk_for after) them in
    let Q : List Child → Type 0 = λ them. AreArranged (map g.D.Disk.start after) (map g.D.Disk.calls after) them (map (start_of g.D.Disk) c.in-Ok-arrange.field-0.disks.items)
    (map (calls_of g.D.Disk) c.in-Ok-arrange.field-0.disks.items) c.in-Ok-arrange.field-0.out.items in
    let H : List Child → Type 0 = λ them. AreHandedIn after them c.in-Ok-arrange.field-0.handed in
    record {
      found = record {
        old = c.new-array.result;
        new = c.lay_out.new.disks;
        read = record { before = (c.new-array.ensures.starts, c.new-array.ensures.calls); only = c.lay_out.ensures.only; few = c.lay_out.ensures.few };
        layout = c.in-Ok.layout;
        laid_out = c.in-Ok.ensures.laid_out;
        highest_is = refl;
        taken_is = refl;
        shapes_are = refl;
        config_is = refl;
        after = after;
        array = (sym c.into_disks-2.ensures.starts, λ which. sym (c.into_disks-2.ensures.calls which));
        members_are = subst P c.deref.ensures.value c.in-Ok-arrange.ensures.disks;
        arranged = subst Q c.deref.ensures.value c.in-Ok-arrange.ensures.arranged;
      };
      handed = subst H c.deref.ensures.value c.in-Ok-arrange.ensures.handed;
      named = refl;
    }

pub unreachable-requires : goal.unreachable-requires
unreachable-requires g c =
    let after = c.into_disks-2.result.items in
    let once : AreEachOnce (length after) c.in-Ok.layout.children.items =
    layout_once g.D.Disk after c.new-array.result c.lay_out.new.disks c.args.rewind c.in-Ok.layout c.in-Ok.ensures.laid_out
    (sym c.into_disks-2.ensures.starts, λ which. sym (c.into_disks-2.ensures.calls which)) c.lay_out.ensures.only.starts in
    let P : List Child → Type 0 = λ them. AreEachOnce (length after) them in
    c.in-Err-NotEachOnce-default.ensures.refused c.in-Err-NotEachOnce-default.field-0-0-is (subst P (sym c.deref.ensures.value) once)
