-- A name-value list as a plain value, apart from memory.
use Rattle.std.specs.Prelude.{ℕ, suc, max, List, []}

mutual
  pub data PlainValue : Type 0 where
    number : ℕ → PlainValue
    text : List ℕ → PlainValue
    list : PlainList → PlainValue
    lists : PlainLists → PlainValue

  -- pairs of a name and a value, in order
  pub data PlainList : Type 0 where
    no_pairs : PlainList
    pair : List ℕ → PlainValue → PlainList → PlainList

  pub data PlainLists : Type 0 where
    no_lists : PlainLists
    next : PlainList → PlainLists → PlainLists

-- how many pairs a list has
abbrev pub pair_count : PlainList → ℕ
pair_count no_pairs = 0
pair_count (pair name value others) = suc (pair_count others)

-- how many lists there are, not counting those inside them
abbrev pub list_count : PlainLists → ℕ
list_count no_lists = 0
list_count (next first others) = suc (list_count others)

-- how deep lists lie in lists, the outermost counted
abbrev mutual
  pub value_depth : PlainValue → ℕ
  value_depth (number n) = 0
  value_depth (text t) = 0
  value_depth (list inner) = depth inner
  value_depth (lists inner) = lists_depth inner

  pub depth : PlainList → ℕ
  depth no_pairs = 1
  depth (pair name value others) = max (suc (value_depth value)) (depth others)

  pub lists_depth : PlainLists → ℕ
  lists_depth no_lists = 0
  lists_depth (next first others) = max (depth first) (lists_depth others)

-- the last name behind a first one
abbrev pub last_from : List ℕ → PlainList → List ℕ
last_from last no_pairs = last
last_from last (pair name value others) = last_from name others

-- the last name, or no bytes
abbrev pub last_name : PlainList → List ℕ
last_name l = last_from [] l
