-- What each refusal says: its number, its wording and the value that it carries. Assumes nothing.
use Rattle.std.specs.Prelude.{ℕ, Bool, ◌==◌, List, [], ◌++◌, Some, None, codes, decimal, Option}
use Rattle.std.specs.Option.{option_eq}
use Rattle.std.specs.Ordering.{eq_of_both, on}
use Rattle.refusal.specs.declared.Refusal.{Refusal}
use Rattle.refusal.specs.declared.Refusal.TheVariants.{DurationOutOfRange, TooManyTasks, NoSuchTask, ArcNotForward, ArcRepeated, TooManyArcs, AmountNotCarried, BoundMemoryTooSmall, WorkMemoryTooSmall, RowMemoryTooSmall, RowWithoutTask, RowRepeated, RowsOverlap, InputMissing, TaskWithoutRow, TooManySteps, StepAmountOutOfRange, StepDelayOutOfRange, LineBroken, LineOutOfOrder, AnswerMemoryTooSmall, TextTooLong}

-- The wording is the text that a person reads; a value stands right behind it.
pub record Meaning : Type 0 where
  pub number : ℕ
  pub wording : List ℕ
  pub value : Option ℕ

abbrev pub plain : ℕ → List ℕ → Meaning
plain n text = record { number = n; wording = text; value = None }

abbrev pub valued : ℕ → List ℕ → ℕ → Meaning
valued n text v = record { number = n; wording = text; value = Some v }

abbrev pub meaning_of : Refusal → Meaning
meaning_of DurationOutOfRange = plain 1 (codes "the duration is not 1 to 1,000,000")
meaning_of TooManyTasks = plain 2 (codes "the sheet has 256 tasks")
meaning_of NoSuchTask = plain 3 (codes "there is no such task")
meaning_of ArcNotForward = plain 4 (codes "the first task is not below the second")
meaning_of ArcRepeated = plain 5 (codes "the two tasks have an arc already")
meaning_of TooManyArcs = plain 6 (codes "the sheet has 1,024 arcs")
meaning_of AmountNotCarried = plain 7 (codes "the link does not carry so many words")
meaning_of BoundMemoryTooSmall = plain 8 (codes "the bound memory has fewer places than there are tasks")
meaning_of WorkMemoryTooSmall = plain 9 (codes "a work memory has fewer than 512 places")
meaning_of (RowMemoryTooSmall needed) = valued 10 (codes "the row memory is too small; rows needed: ") needed
meaning_of (RowWithoutTask row) = valued 11 (codes "a row names no task of the graph: row ") row
meaning_of (RowRepeated row) = valued 12 (codes "a row repeats the processor and task of an earlier one: row ") row
meaning_of (RowsOverlap row) = valued 13 (codes "a row overlaps an earlier one on its processor: row ") row
meaning_of (InputMissing row) = valued 14 (codes "a row starts before an input of its task has come: row ") row
meaning_of (TaskWithoutRow task) = valued 15 (codes "a task has no row: task ") task
meaning_of TooManySteps = plain 16 (codes "the step table has 16 steps")
meaning_of StepAmountOutOfRange = plain 17 (codes "the amount of the step is above 65,535 or not above that of the last step")
meaning_of StepDelayOutOfRange = plain 18 (codes "the delay of the step is above 1,000,000")
meaning_of LineBroken = plain 19 (codes "the line is broken")
meaning_of LineOutOfOrder = plain 20 (codes "the line is out of order")
meaning_of (AnswerMemoryTooSmall needed) = valued 21 (codes "the answer memory is too small; bytes needed: ") needed
meaning_of TextTooLong = plain 22 (codes "the text has more than 20,480 bytes")

-- whether two refusals have the same number and the same value
abbrev pub same_refusal : Refusal → Refusal → Bool
same_refusal = eq_of_both (on (λ r. (meaning_of r).number) ◌==◌) (on (λ r. (meaning_of r).value) (option_eq ◌==◌))

abbrev pub value_text : Option ℕ → List ℕ
value_text None = []
value_text (Some v) = decimal v

-- What a person reads, as `refusal 10: the row memory is too small; rows needed: 5`.
abbrev pub shown_text : Refusal → List ℕ
shown_text r = codes "refusal " ++ (decimal (meaning_of r).number ++ (codes ": " ++ ((meaning_of r).wording ++ value_text (meaning_of r).value)))
