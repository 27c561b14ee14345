-- 01, List, classes, planes, boxes: the class of each triangle, from the entries of all parts, one part after the other, and the end of each part. Definitions only.
use Rattle.std.specs.Prelude.{Bool, not, cond, ◌&&◌, ◌||◌, List, [], ◌∷◌, ◌≡◌, ℕ, zero, suc, ◌+◌, ◌-◌, ◌≤◌, ◌<◌, eqb, ltb, length, get_or, Ok}
use Rattle.grid.specs.Answers.{Outcome, fault_if, ◌and_then◌, lent_after, Checked}
use Rattle.grid.specs.First.{first_not, some_below}
use Rattle.grid.specs.Grid.{first_ones}
use Rattle.grid.specs.Checks.{first_fault}
use Rattle.marking_mesh.specs.Faults.{names}
use Rattle.order.specs.Order.{chosen}
use Rattle.order.specs.Output.{room_fault, over}
use Rattle.grid.specs.declared.Reason.TheVariants.{BadCount, MissingName, BadRange}

-- ---- parts

-- part p: the entries from where the part before it ends up to, not including, its own end
abbrev pub begin_of : List ℕ → ℕ → ℕ
begin_of ends zero = 0
begin_of ends (suc p) = get_or ends p 0

abbrev pub end_of : List ℕ → ℕ → ℕ
end_of ends p = get_or ends p 0

-- one of the n entries from a place on is t
abbrev pub some_entry : List ℕ → ℕ → ℕ → ℕ → Bool
some_entry entries from n t = some_below n (λ e. eqb (get_or entries (from + e) 0) t)

-- part p names triangle t
abbrev pub part_names : List ℕ → List ℕ → ℕ → ℕ → Bool
part_names entries ends p t = some_entry entries (begin_of ends p) (end_of ends p - begin_of ends p) t

-- ---- classes: "none, one part's number, or 4,294,967,295 for several. None is 4,294,967,294 (added)."

abbrev pub no_class : ℕ
no_class = 4294967294

abbrev pub several : ℕ
several = 4294967295

-- by the parts that name a triangle
unfoldable pub class_by : List ℕ → ℕ
class_by [] = no_class
class_by (p ∷ []) = p
class_by (p ∷ q ∷ ps) = several

-- those of the first n parts that name t
abbrev pub parts_of : List ℕ → List ℕ → ℕ → ℕ → List ℕ
parts_of entries ends n t = chosen (λ p. part_names entries ends p t) n

abbrev pub class_of : List ℕ → List ℕ → ℕ → ℕ
class_of entries ends t = class_by (parts_of entries ends (length ends) t)

-- the classes of the triangles below `count`
abbrev pub classes_of : List ℕ → List ℕ → ℕ → List ℕ
classes_of entries ends count = first_ones count (class_of entries ends)

-- ---- refusals

-- "1: .. more than 65,536 of either (in classes: the triangle count)"
abbrev pub count_fault : ℕ → Checked
count_fault count = fault_if (ltb 65536 count) BadCount 0 (Ok tt)

-- "4: .. in classes, an entry names a missing triangle"; the place is the entry
abbrev pub entry_fault : ℕ → List ℕ → Checked
entry_fault count entries = first_fault MissingName (λ n. n) (names count) entries

-- "15: part ends fall back, do not end at the list's length (no parts: list not empty), or number over 65,535"; the place is the part end: of a fall the end that falls, of a stray last end the last, of too many the one past 65,535
abbrev pub bad_end : List ℕ → ℕ → ℕ → Bool
bad_end ends len p = (ltb (end_of ends p) (begin_of ends p) || eqb p 65535) || (eqb (p + 1) (length ends) && not (eqb (end_of ends p) len))

-- the first of them, or how many there are
abbrev pub first_bad_end : List ℕ → ℕ → ℕ
first_bad_end ends len = first_not (λ p. not (bad_end ends len p)) (first_ones (length ends) (λ p. p))

abbrev pub ends_fault : List ℕ → ℕ → Checked
ends_fault ends len =
    fault_if (ltb (first_bad_end ends len) (length ends) || (eqb (length ends) 0 && not (eqb len 0))) BadRange (first_bad_end ends len) (Ok tt)

-- the whole call: 1, 4, 14 and 15, of an output of length len
abbrev pub class_fault : List ℕ → List ℕ → ℕ → ℕ → Checked
class_fault entries ends count len = count_fault count and_then entry_fault count entries and_then room_fault len count and_then ends_fault ends (length entries)

abbrev pub class_answer : List ℕ → List ℕ → ℕ → List ℕ → Outcome Unit
class_answer entries ends count o = class_fault entries ends count (length o) and_then Ok tt

abbrev pub class_buffer : List ℕ → List ℕ → ℕ → List ℕ → List ℕ
class_buffer entries ends count o = lent_after (class_fault entries ends count (length o)) o (over (classes_of entries ends count) o)

-- ---- what the loops say to each other

-- a class and one part more: as H has it
unfoldable pub with_part : ℕ → ℕ → ℕ
with_part part class = cond (eqb class no_class) part (cond (eqb class part) class several)

-- every entry is below n
pub record NamedBelow (entries : List ℕ) (n : ℕ) : Type 0 where
  pub names : (e : ℕ) → e < length entries → get_or entries e 0 < n

-- ends without fault
pub record Ended (ends : List ℕ) (len : ℕ) : Type 0 where
  pub up : (p : ℕ) → p < length ends → begin_of ends p ≤ end_of ends p
  pub within : (p : ℕ) → p < length ends → end_of ends p ≤ len
  pub few : length ends ≤ 65535

-- the classes below count go by a rule, and the others are as they were
pub record Classes (count : ℕ) (rule : ℕ → ℕ) (before after : List ℕ) : Type 0 where
  pub size : length after ≡ length before
  pub each : (t : ℕ) → t < count → get_or after t 0 ≡ rule t
  pub others : (t : ℕ) → count ≤ t → get_or after t 0 ≡ get_or before t 0

-- the entries from one place up to, not including, another have been met: those that they name go by `with_part`
pub record Classified (entries : List ℕ) (from to part : ℕ) (before after : List ℕ) : Type 0 where
  pub size : length after ≡ length before
  pub each : (t : ℕ) → get_or after t 0 ≡ cond (some_entry entries from (to - from) t) (with_part part (get_or before t 0)) (get_or before t 0)
