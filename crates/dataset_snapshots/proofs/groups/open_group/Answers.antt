use Rattle.std.proofs.Common.{◌<◌, ◌≤◌, ◌-◌, ◌++◌, ℕ, List, length, ap, sym, subst, ◌∙◌, arith}
use Rattle.block_pointer.specs.declared.block.Block.{Block}
use Rattle.block_store.proofs.Steps.{reads_on}
use Rattle.dataset_groups.specs.declared.datasets.GroupDatasets.{GroupDatasets}
use Rattle.dnode_tree.proofs.FurtherReads.{told_before, told_after}
use Rattle.dnode_tree.proofs.Refusing.{passed_on}
use Rattle.meta_objset.specs.declared.directory.DirectoryRow.{DirectoryRow}
use Rattle.pool_model.specs.declared.item.Write.{Write}
use Rattle.pool_model.specs.Pools.{MayBeDestroyed}
use Rattle.dataset_snapshots.specs.declared.groups.Begun.{Begun}
use Rattle.dataset_snapshots.specs.declared.groups.Opened.{Opened}
use Rattle.dataset_snapshots.specs.Groups.{AreRowsLeft, HasRoomFor, IsOpenedFrom}
use Rattle.dataset_snapshots.specs.Opening.{IsGroupFound}
use Rattle.dataset_snapshots.proofs.GroupDemands.{begun_unread, names_kept, names_unread, renamed_by}
use Rattle.dataset_snapshots.proofs.GroupsOpened.{bounds_left, exchanged_from, next_left, not_renamed, objects_begun, rows_left, set_begun, written_but, written_from}
use Rattle.dataset_snapshots.proofs.Renumbered.{found_so, from_so, numbered, numbers_left, room_left}
use Rattle.dataset_snapshots.proofs.groups.open_group.Goals as goal

-- ---- what was begun

pub returns-in_err-begun-clause-known : goal.returns-in_err-begun-clause-known
returns-in_err-begun-clause-known g c =
    passed_on _ _ _ c.from_residual.ensures.1 (λ stored pool held is same may few tell. c.in_err-begun.ensures.known stored pool held is same tell)

pub returns-in_err-begun-clause-refused : goal.returns-in_err-begun-clause-refused
returns-in_err-begun-clause-refused g c =
    passed_on _ _ _ c.from_residual.ensures.1
    (begun_unread c.args.store.now c.begin_group.new.store c.args.root.now c.args.kept.now c.args.group c.destroyed-destroyed.result.now c.args.parted.now.destroyed c.args.items.now.writes _
    c.destroyed-destroyed.ensures c.in_err-begun.ensures.refused)

-- ---- with other numbers

pub returns-in_err-renamed-clause-reads : goal.returns-in_err-renamed-clause-reads
returns-in_err-renamed-clause-reads g c = reads_on _ _ _ _ (reads_on _ _ _ _ c.in_ok-begun.ensures.reads c.reuse_numbers.ensures.reads) c.destroy_all.ensures.reads

pub returns-in_err-renamed-clause-known : goal.returns-in_err-renamed-clause-known
returns-in_err-renamed-clause-known g c =
    let first = c.in_ok-begun.ensures.reads in
    let second = c.reuse_numbers.ensures.reads in
    let both = reads_on _ _ _ _ first second in
    let third = c.destroy_all.ensures.reads in
    let begun : Begun = c.in_ok-begun.begun in
    let new : GroupDatasets = c.reuse_numbers.new.datasets in
    let group = c.args.group in
    let root : Block = c.args.root.now in
    let rows : List DirectoryRow = c.args.kept.now in
    let names : List (List ℕ) = c.destroyed-destroyed.result.now in
    let writes : List Write = c.args.items.now.writes in
    let is_new = c.reuse_numbers.ensures in
    let found = c.in_ok-begun.ensures.found in
    passed_on _ _ _ c.from_residual-in_err-renamed.ensures.1
    (λ stored pool held is same may few tell.
    let so_far = told_before _ _ _ _ both third tell in
    let begins = c.in_ok-begun.ensures.value stored pool held is same (told_before _ _ _ _ first second so_far) in
    let from = from_so c.begin_group.new.store c.reuse_numbers.new.store _ root rows names writes begun new found.begins c.in_ok-begun.ensures.numbers is_new.directory is_new.changes is_new.numbers
    is_new.unused stored pool is (first.keeps stored held) (told_after _ _ _ _ first second so_far) begins in
    let early = c.in_ok-begun.ensures.early in
    let le : root.birth ≤ group = omega (arith, early) in
    c.in_err-renamed.ensures.known stored is.objects is.own is.blocks (record is.datasets { group = group }) is.readings pool (both.keeps stored held)
    (objects_begun c.args.store.now.spaces _ root rows names writes (numbered begun new)
    (found_so c.args.store.now.spaces _ root rows names writes begun new is_new.directory is_new.changes is_new.numbers found) stored group pool is from)
    (told_after _ _ _ _ both third tell) (from.begins group le) (subst (λ (list : List (List ℕ)). MayBeDestroyed list pool) (sym c.destroyed-destroyed.ensures) may) few)

pub returns-in_err-renamed-clause-refused : goal.returns-in_err-renamed-clause-refused
returns-in_err-renamed-clause-refused g c =
    let begun : Begun = c.in_ok-begun.begun in
    let new : GroupDatasets = c.reuse_numbers.new.datasets in
    let is_new = c.reuse_numbers.ensures in
    let names : List (List ℕ) = c.destroyed-destroyed.result.now in
    passed_on _ _ _ c.from_residual-in_err-renamed.ensures.1
    (names_unread c.args.store.now c.destroy_all.new.store c.args.root.now c.args.kept.now c.args.group names c.args.parted.now.destroyed c.args.items.now.writes _ c.destroyed-destroyed.ensures
    (names_kept c.args.store.now c.reuse_numbers.new.store c.destroy_all.new.store c.args.root.now c.args.kept.now c.args.group names c.args.items.now.writes (numbered begun new) _
    (reads_on _ _ _ _ c.in_ok-begun.ensures.reads is_new.reads)
    (found_so c.args.store.now.spaces _ c.args.root.now c.args.kept.now names c.args.items.now.writes begun new is_new.directory is_new.changes is_new.numbers c.in_ok-begun.ensures.found)
    c.in_err-renamed.ensures.refused))

-- ---- it is opened

pub returns-clause-reads : goal.returns-clause-reads
returns-clause-reads g c = reads_on _ _ _ _ (reads_on _ _ _ _ c.in_ok-begun.ensures.reads c.reuse_numbers.ensures.reads) c.destroy_all.ensures.reads

pub returns-clause-opened : goal.returns-clause-opened
returns-clause-opened g c =
    let begun : Begun = numbered c.in_ok-begun.begun c.reuse_numbers.new.datasets in
    let new : GroupDatasets = c.destroy_all.new.self in
    let is = c.in_ok-begun.ensures.begun in
    let is_new = c.reuse_numbers.ensures in
    let names : List (List ℕ) = c.destroyed-destroyed.result.now in
    let rows : List DirectoryRow = c.args.kept.now in
    let writes : List Write = c.args.items.now.writes in
    let found = found_so c.args.store.now.spaces _ c.args.root.now rows names writes c.in_ok-begun.begun c.reuse_numbers.new.datasets is_new.directory is_new.changes is_new.numbers
    c.in_ok-begun.ensures.found in
    let which = c.in_ok-renamed.ensures.which in
    let left = subst (λ (list : List DirectoryRow). AreRowsLeft list names new.directory) found.begins.directory (rows_left begun.datasets new names which) in
    record {
      set = is.set;
      of_set = c.destroy_all.ensures.one_set.0 ∙ set_begun c.args.store.now.spaces _ c.args.root.now rows names writes begun found;
      numbers = numbers_left begun.set begun.datasets new (next_left begun.datasets new names which) (bounds_left begun.datasets new names which) is_new.numbers;
      once = is.once;
      within = is.within;
      each = is.each;
      all = λ object named. (found.which object).1 (written_but rows new.directory names writes object left named);
    }

pub returns-clause-room : goal.returns-clause-room
returns-clause-room g c =
    let names : List (List ℕ) = c.destroyed-destroyed.result.now in
    let which = c.in_ok-renamed.ensures.which in
    let mid : GroupDatasets = c.reuse_numbers.new.datasets in
    let new : GroupDatasets = c.destroy_all.new.self in
    room_left mid new (length c.args.parted.now.made) (next_left mid new names which) (bounds_left mid new names which)
    (subst (HasRoomFor mid) (ap length c.made-made.ensures) c.reuse_numbers.ensures.room)

pub returns-clause-value : goal.returns-clause-value
returns-clause-value g c = λ stored pool held is same may tell.
    let first = c.in_ok-begun.ensures.reads in
    let second = c.reuse_numbers.ensures.reads in
    let both = reads_on _ _ _ _ first second in
    let third = c.destroy_all.ensures.reads in
    let was : Begun = c.in_ok-begun.begun in
    let mid : GroupDatasets = c.reuse_numbers.new.datasets in
    let begun : Begun = numbered was mid in
    let new : GroupDatasets = c.destroy_all.new.self in
    let group = c.args.group in
    let root : Block = c.args.root.now in
    let rows : List DirectoryRow = c.args.kept.now in
    let names : List (List ℕ) = c.destroyed-destroyed.result.now in
    let writes : List Write = c.args.items.now.writes in
    let is_new = c.reuse_numbers.ensures in
    let found = found_so c.args.store.now.spaces _ root rows names writes was mid is_new.directory is_new.changes is_new.numbers c.in_ok-begun.ensures.found in
    let which = c.in_ok-renamed.ensures.which in
    let so_far = told_before _ _ _ _ both third tell in
    let from = from_so c.begin_group.new.store c.reuse_numbers.new.store _ root rows names writes was mid c.in_ok-begun.ensures.found.begins c.in_ok-begun.ensures.numbers is_new.directory is_new.changes
    is_new.numbers is_new.unused stored pool is (first.keeps stored held) (told_after _ _ _ _ first second so_far)
    (c.in_ok-begun.ensures.value stored pool held is same (told_before _ _ _ _ first second so_far)) in
    let early = c.in_ok-begun.ensures.early in
    let born = c.requires.born in
    let le : root.birth ≤ group = omega (arith, early) in
    let lt : root.birth < group = omega (arith, early, born) in
    let may_too = subst (λ (list : List (List ℕ)). MayBeDestroyed list pool) (sym c.destroyed-destroyed.ensures) may in
    let done = c.in_ok-renamed.ensures.value stored is.objects is.own is.blocks (record is.datasets { group = group }) is.readings pool (both.keeps stored held)
    (objects_begun c.args.store.now.spaces _ root rows names writes begun found stored group pool is from) (told_after _ _ _ _ both third tell) (from.begins group le) may_too in
    let freed_is = done.1 ∙ ap (λ (front : List Block). front ++ done.0) c.new-freed.ensures.items in
    let opened : Opened = record {
      set = was.set;
      datasets = new;
      written = was.written;
      freed = c.destroy_all.new.freed;
      renamed = c.in_ok-renamed.renamed;
    } in
    subst (λ (list : List (List ℕ)). IsOpenedFrom stored group (group - 1) root pool is list writes opened) c.destroyed-destroyed.ensures
    (record {
      set = from.set;
      born = c.destroy_all.ensures.one_set.1 ∙ from.born;
      same = λ none. not_renamed begun.datasets new names c.in_ok-renamed.renamed which c.in_ok-renamed.ensures.renamed none ∙ from.directory;
      datasets = done.2.after;
      begins = done.2.spells;
      exchanged = exchanged_from c.args.store.now.spaces _ root rows names writes begun found stored group pool is from new which _ done.0 done.2 _ freed_is;
      written = written_from c.args.store.now.spaces _ root rows names writes begun found stored group pool is from new which _ done.0 done.2 lt;
    })

pub returns-clause-found : goal.returns-clause-found
returns-clause-found g c =
    let was : Begun = c.in_ok-begun.begun in
    let mid : GroupDatasets = c.reuse_numbers.new.datasets in
    let names : List (List ℕ) = c.destroyed-destroyed.result.now in
    let rows : List DirectoryRow = c.args.kept.now in
    let is_new = c.reuse_numbers.ensures in
    let found = found_so c.args.store.now.spaces _ c.args.root.now rows names c.args.items.now.writes was mid is_new.directory is_new.changes is_new.numbers c.in_ok-begun.ensures.found in
    let opened : Opened = record {
      set = was.set;
      datasets = c.destroy_all.new.self;
      written = was.written;
      freed = c.destroy_all.new.freed;
      renamed = c.in_ok-renamed.renamed;
    } in
    subst (λ (list : List (List ℕ)). IsGroupFound c.args.store.now.spaces (c.args.group - 1) c.args.root.now rows list c.args.items.now.writes opened) c.destroyed-destroyed.ensures
    (record {
      meta = found.meta;
      is = returns-clause-opened g c;
      which = found.which;
      each = found.each;
      begun = mid;
      begins = found.begins;
      destroys = c.in_ok-renamed.ensures.which;
      renamed = renamed_by mid.directory rows names c.in_ok-renamed.renamed found.begins.directory c.in_ok-renamed.ensures.renamed;
    })
