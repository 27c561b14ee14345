-- 01, Input bounds and refusals: the numbers of the table. When each reason is given, the definition says that cites it, with its line. Definitions only.
use Rattle.std.specs.Prelude.{ℕ, List, [], ◌∷◌, get_or}
use Rattle.grid.specs.declared.Reason.{Reason}
use Rattle.grid.specs.declared.Reason.TheVariants.{BadCount, NoPoints, BadNumber, MissingName, BadSize, BadResolution, NoExtent, BadAxis, BadBuffer, OffGrid, BadLabel, OutOfRange, WrongKind, NoRoom, BadRange, BadRecord, CutInput}

abbrev pub number_of : Reason → ℕ
number_of BadCount = 1
number_of NoPoints = 2
number_of BadNumber = 3
number_of MissingName = 4
number_of BadSize = 5
number_of BadResolution = 6
number_of NoExtent = 7
number_of BadAxis = 8
number_of BadBuffer = 9
number_of OffGrid = 10
number_of BadLabel = 11
number_of OutOfRange = 12
number_of WrongKind = 13
number_of NoRoom = 14
number_of BadRange = 15
number_of BadRecord = 16
number_of CutInput = 17

-- the reason that has a number: the table, from 0, which no reason has
abbrev pub reasons : List Reason
reasons = BadCount ∷ BadCount ∷ NoPoints ∷ BadNumber ∷ MissingName ∷ BadSize ∷ BadResolution ∷ NoExtent ∷ BadAxis ∷ BadBuffer ∷ OffGrid ∷ BadLabel ∷ OutOfRange ∷ WrongKind ∷ NoRoom ∷ BadRange ∷ BadRecord ∷ CutInput ∷ []

abbrev pub reason_numbered : ℕ → Reason
reason_numbered n = get_or reasons n BadCount
