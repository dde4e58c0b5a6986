-- A list that was found.
use Rattle.std.specs.Prelude.{◌≡◌, Result, Ok, Err}
use Rattle.nvlist.specs.Plain.{PlainList}
use Rattle.nvlist.specs.View.{list_view}
use Rattle.nvlist.specs.declared.list.NvList.{NvList}
use Rattle.vdev_label.specs.declared.refusal.Refusal.{Refusal}
use Rattle.vdev_label.specs.declared.refusal.Refusal.TheVariants.{NoMemory}

-- this list was found, unless memory ran out
abbrev pub FindsList : Result NvList Refusal → PlainList → Type 0
FindsList (Ok it) l = list_view it ≡ l
FindsList (Err refusal) l = refusal ≡ NoMemory
