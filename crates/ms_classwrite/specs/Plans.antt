-- What a class file is to say: its name, the first entries of its constant pool, its fields and its methods.
use Rattle.std.specs.Prelude.{◌≢◌, ℕ, zero, suc, ◌+◌, List, Bool, false, ◌&&◌, ◌==◌, IsTrue, Option, Some, None, slice_get, AllPairs}
use Rattle.std.specs.Int.{cast_unsigned, w32}
use Rattle.std.specs.List.{list_all, position_or_len}
use Rattle.std.specs.Ordering.{int_eq}
use Rattle.std.specs.Str.{bytes_eq}
use Rattle.ms_pool.specs.Pools as pools
use Rattle.ms_pool.specs.Pools.{Entry, tag_of, wanted}
use Rattle.ms_classwrite.specs.declared.plan.PlanField.{PlanField}
use Rattle.ms_classwrite.specs.declared.plan.PlanMethod.{PlanMethod}
use Rattle.ms_classwrite.specs.declared.plan.PoolLine.{PoolLine}
use Rattle.ms_classwrite.specs.declared.plan.PoolLine.TheVariants.{Utf8, Integer, Class, Text, NameAndType, Field, Method}

-- a plan: the name of the class, its pool lines, its fields and its methods, in order
pub record Plan : Type 0 where
  pub name : List ℕ
  pub lines : List PoolLine
  pub fields : List PlanField
  pub methods : List PlanMethod

-- POOL LINES

-- the entry of the constant pool that a line is (JVMS SE 8, table 4.4-A)
abbrev pub entry_of : PoolLine → Entry
entry_of (Utf8 text) = pools.Utf8 text
entry_of (Integer int) = pools.Word 3 (cast_unsigned w32 int)
entry_of (Class name) = pools.One 7 name
entry_of (Text utf8) = pools.One 8 utf8
entry_of (NameAndType name desc) = pools.Two 12 name desc
entry_of (Field class member) = pools.Two 9 class member
entry_of (Method class member) = pools.Two 10 class member

-- whether two lines are one
abbrev pub same_line : PoolLine → PoolLine → Bool
same_line (Utf8 s) (Utf8 t) = bytes_eq s t
same_line (Integer m) (Integer n) = int_eq m n
same_line (Class i) (Class j) = i == j
same_line (Text i) (Text j) = i == j
same_line (NameAndType i k) (NameAndType j l) = i == j && k == l
same_line (Field i k) (Field j l) = i == j && k == l
same_line (Method i k) (Method j l) = i == j && k == l
same_line one other = false

-- the number of a line among these, counted from 1; of one that isn't there, the number that it would get at the end
abbrev pub number_in : List PoolLine → PoolLine → ℕ
number_in lines line = position_or_len (same_line line) lines + 1

-- the line of this number, counted from 1
abbrev pub line_at : List PoolLine → ℕ → Option PoolLine
line_at lines zero = None
line_at lines (suc i) = slice_get lines i

-- whether there is a line, and its entry has this tag
abbrev pub is_tagged : ℕ → Option PoolLine → Bool
is_tagged tag None = false
is_tagged tag (Some line) = tag_of (entry_of line) == tag

-- whether each number in a line is that of one of these lines that has the tag that is wanted there: 1 of a text for a
-- Class, a String and a NameAndType, 7 and 12 of a class and a name with its type for a field and a method
abbrev pub is_linked : List PoolLine → PoolLine → Bool
is_linked lines line = list_all (λ reference. is_tagged reference.1 (line_at lines reference.0)) (wanted (entry_of line))

-- no two lines are the same
abbrev pub AreDifferent : List PoolLine → Type 0
AreDifferent lines = AllPairs (λ one other. one ≢ other) lines

-- each number in a line is that of a line of the wanted kind
abbrev pub AreLinked : List PoolLine → Type 0
AreLinked lines = IsTrue (list_all (is_linked lines) lines)
