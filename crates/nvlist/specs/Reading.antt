-- Reading as functions on lists of bytes: what stands at the front, and the bytes after it.
use Rattle.std.specs.Prelude.{◌≡◌, ℕ, zero, suc, ◌+◌, Bool, ◌==◌, ◌&&◌, nat_lt, nat_le, List, [], length, take, drop, Option, Some, None, option_map, Result, Ok, Err, if◌then◌else◌}
use Rattle.std.specs.List.{list_all}
use Rattle.std.specs.Int.{w32, w64, from_be_bytes}
use Rattle.nvlist.specs.declared.refusal.Refusal.{Refusal}
use Rattle.nvlist.specs.declared.refusal.Refusal.TheVariants.{BadLabel, NoMemory}
use Rattle.nvlist.specs.Plain.{PlainValue, number, text, list, lists, PlainList, no_pairs, pair, PlainLists, no_lists, next}
use Rattle.nvlist.specs.Grammar.{padding_of, is_printable, is_behind}

infixl 10 ◌>>=◌
-- one reading after another: f goes on from what the first gave; None where either gives None
abbrev pub ◌>>=◌ : {A B : Type 0} → Option A → (A → Option B) → Option B
(Some x) >>= f = f x
None >>= f = None

-- a reader: from bytes, Some of what stands at their front and the bytes after it; None where no such thing stands there
abbrev pub Parse : Type 0 → Type 0
Parse A = List ℕ → Option (A × List ℕ)

-- 32 bits
abbrev pub word_at : Parse ℕ
word_at bytes = if nat_lt (length bytes) 4 then None else Some (from_be_bytes w32 (take 4 bytes), drop 4 bytes)

-- 64 bits
abbrev pub number_at : Parse ℕ
number_at bytes = if nat_lt (length bytes) 8 then None else Some (from_be_bytes w64 (take 8 bytes), drop 8 bytes)

-- a printable text of this length, and zeros behind it
abbrev pub is_padded_text : ℕ → List ℕ → Bool
is_padded_text n bytes = is_printable (take n bytes) && list_all (λ b. b == 0) (drop n bytes)

unfoldable pub padded_at : ℕ → Parse (List ℕ)
padded_at n bytes = if nat_lt (length bytes) (n + padding_of n) then None else (if is_padded_text n (take (n + padding_of n) bytes) then Some (take n (take (n + padding_of n) bytes), drop (n + padding_of n) bytes) else None)

unfoldable pub text_at : Parse (List ℕ)
text_at bytes = do
  n ← word_at bytes
  padded_at n.0 n.1

-- the lists that a reader reads, this many
unfoldable pub lists_at : Parse PlainList → ℕ → Parse PlainLists
lists_at read zero bytes = Some (no_lists, bytes)
lists_at read (suc n) bytes = do
  first ← read bytes
  others ← lists_at read n first.1
  Some (next first.0 others.0, others.1)

-- what was read, made a value by f, and the bytes after it; None where nothing was read
abbrev pub option_value : {A : Type 0} → (A → PlainValue) → Option (A × List ℕ) → Option (PlainValue × List ℕ)
option_value f read = option_map (λ x. (f x.0, x.1)) read

unfoldable pub lists_value_at : Parse PlainList → Parse PlainLists
lists_value_at read bytes = do
  n ← word_at bytes
  lists_at read n.0 n.1

unfoldable pub value_of_type_at : Parse PlainList → ℕ → Parse PlainValue
value_of_type_at read kind bytes =
    if kind == 8 then option_value number (number_at bytes)
    else (if kind == 9 then option_value text (text_at bytes)
    else (if kind == 19 then option_value list (read bytes)
    else (if kind == 20 then option_value lists (lists_value_at read bytes) else None)))

unfoldable pub value_at : Parse PlainList → Parse PlainValue
value_at read bytes = do
  kind ← word_at bytes
  value_of_type_at read kind.0 kind.1

-- a name of at most 64 bytes that stands behind the last in byte order
abbrev pub is_name_behind : List ℕ → List ℕ → Bool
is_name_behind last name = nat_le (length name) 64 && is_behind name last

-- a name that stands behind the last
unfoldable pub name_at : List ℕ → Parse (List ℕ)
name_at last bytes = do
  name ← text_at bytes
  if is_name_behind last name.0 then Some name else None

unfoldable pub pair_at : Parse PlainList → List ℕ → Parse (List ℕ × PlainValue)
pair_at read last bytes = do
  name ← name_at last bytes
  value ← value_at read name.1
  Some ((name.0, value.0), value.1)

-- this many pairs, whose names stand behind the last
unfoldable pub pairs_at : Parse PlainList → ℕ → List ℕ → Parse PlainList
pairs_at read zero last bytes = Some (no_pairs, bytes)
pairs_at read (suc n) last bytes = do
  first ← pair_at read last bytes
  others ← pairs_at read n first.0.0 first.1
  Some (pair first.0.0 first.0.1 others.0, others.1)

-- a list with no more than this many lists in one another, itself counted
unfoldable pub list_at : ℕ → Parse PlainList
list_at zero bytes = None
list_at (suc depth) bytes = do
  n ← word_at bytes
  pairs_at (list_at depth) n.0 [] n.1

-- why reading is refused: memory ran out, or reading gives nothing
abbrev pub Fails : {A : Type 0} → Refusal → Option A → Type 0
Fails NoMemory read = Unit {0}
Fails BadLabel read = read ≡ None

-- a function returned what reading gives, seen by view; or it refused, as Fails allows
abbrev pub Gives : {X A : Type 0} → (X → A) → Result X Refusal → Option A → Type 0
Gives view (Ok x) read = read ≡ Some (view x)
Gives view (Err e) read = Fails e read
