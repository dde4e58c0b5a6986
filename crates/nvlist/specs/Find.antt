-- Looking into a list, and adding to it.
use Rattle.std.specs.Prelude.{ℕ, List, Option, Some, None, if◌then◌else◌}
use Rattle.std.specs.Str.{bytes_eq}
use Rattle.nvlist.specs.Plain.{PlainValue, number, text, list, lists, PlainList, no_pairs, pair, PlainLists}

-- the value of a name; no name stands twice in a list that fits
abbrev pub find : List ℕ → PlainList → Option PlainValue
find name no_pairs = None
find name (pair first value others) = if bytes_eq first name then Some value else find name others

-- the number that a value is; None where there is no value, or one of another type
abbrev pub number_in : Option PlainValue → Option ℕ
number_in None = None
number_in (Some (number n)) = Some n
number_in (Some (text t)) = None
number_in (Some (list l)) = None
number_in (Some (lists ls)) = None

-- the bytes of the text that a value is; None where there is no value, or one of another type
abbrev pub text_in : Option PlainValue → Option (List ℕ)
text_in None = None
text_in (Some (number n)) = None
text_in (Some (text t)) = Some t
text_in (Some (list l)) = None
text_in (Some (lists ls)) = None

-- the list that a value is; None where there is no value, or one of another type
abbrev pub list_in : Option PlainValue → Option PlainList
list_in None = None
list_in (Some (number n)) = None
list_in (Some (text t)) = None
list_in (Some (list l)) = Some l
list_in (Some (lists ls)) = None

-- the lists that a value is, as an array; None where there is no value, or one of another type
abbrev pub lists_in : Option PlainValue → Option PlainLists
lists_in None = None
lists_in (Some (number n)) = None
lists_in (Some (text t)) = None
lists_in (Some (list l)) = None
lists_in (Some (lists ls)) = Some ls

-- a list with one more pair at its end
abbrev pub with_pair : PlainList → List ℕ → PlainValue → PlainList
with_pair no_pairs name value = pair name value no_pairs
with_pair (pair first v others) name value = pair first v (with_pair others name value)
