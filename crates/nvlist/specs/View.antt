-- What a list of the code stands for, apart from where it lies in memory.
use Rattle.std.specs.Prelude.{◌≡◌, ℕ, List, [], ◌∷◌, length, map, string_bytes, Result, Ok, Err}
use Rattle.nvlist.specs.Plain.{PlainValue, number, text, list, lists, PlainList, no_pairs, pair, PlainLists, no_lists, next}
use Rattle.nvlist.specs.Grammar.{spelling}
use Rattle.nvlist.specs.declared.refusal.Refusal.{Refusal}
use Rattle.nvlist.specs.declared.refusal.Refusal.TheVariants.{NoMemory}
use Rattle.nvlist.specs.declared.list.NvList.{NvList}
use Rattle.nvlist.specs.declared.list.Pair.{Pair}
use Rattle.nvlist.specs.declared.list.Value.{Value}
use Rattle.nvlist.specs.declared.list.Value.TheFolds.{fold-Value, fold-NvList, fold-Pair}
use Rattle.nvlist.specs.declared.list.Value.TheOpen.{Value-F, NvList-F, Pair-F}

-- a name and a value
abbrev pub PlainPair : Type 0
PlainPair = List ℕ × PlainValue

-- the plain list of these pairs, in order
abbrev pub pairs_of : List PlainPair → PlainList
pairs_of [] = no_pairs
pairs_of (p ∷ ps) = pair p.0 p.1 (pairs_of ps)

-- these plain lists in order, as plain lists one behind another
abbrev pub lists_of : List PlainList → PlainLists
lists_of [] = no_lists
lists_of (l ∷ ls) = next l (lists_of ls)

-- one level of each type, with what lies inside already seen as plain values
abbrev pub value_step : Value-F PlainValue PlainList PlainPair → PlainValue
value_step (Value-F.Number n) = number n
value_step (Value-F.Text t) = text (string_bytes t)
value_step (Value-F.List l) = list l
value_step (Value-F.Lists ls) = lists (lists_of ls.items)

-- one level of a list: its pairs were already seen as plain
abbrev pub list_step : NvList-F PlainValue PlainList PlainPair → PlainList
list_step l = pairs_of l.pairs.items

-- one level of a pair: its value was already seen as plain
abbrev pub pair_step : Pair-F PlainValue PlainList PlainPair → PlainPair
pair_step p = (string_bytes p.name, p.value)

-- the plain value that a value of the code stands for
abbrev pub value_view : Value → PlainValue
value_view = fold-Value PlainValue PlainList PlainPair value_step list_step pair_step

-- the plain list that a list of the code stands for
abbrev pub list_view : NvList → PlainList
list_view = fold-NvList PlainValue PlainList PlainPair value_step list_step pair_step

-- the plain pair that a pair of the code stands for: its name as bytes, and its value
abbrev pub pair_view : Pair → PlainPair
pair_view = fold-Pair PlainValue PlainList PlainPair value_step list_step pair_step

-- the pairs of a list, and several lists
abbrev pub pairs_view : List Pair → PlainList
pairs_view ps = pairs_of (map pair_view ps)

-- the plain lists that these lists of the code stand for, in order
abbrev pub lists_view : List NvList → PlainLists
lists_view ls = lists_of (map list_view ls)

-- a decoder found this list at the front, and how many bytes spell it, unless memory ran out
abbrev pub GivesFront : Result (NvList × ℕ) Refusal → PlainList → Type 0
GivesFront (Ok found) l = (list_view found.0 ≡ l) × (found.1 ≡ length (spelling l))
GivesFront (Err refusal) l = refusal ≡ NoMemory
