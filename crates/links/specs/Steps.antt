-- What a table of steps holds and means, and when it refuses a step. Assumes nothing.
use Rattle.std.specs.Prelude.{◌≡◌, ℕ, ◌-◌, ◌<◌, ◌≤◌, min, Bool, not, ◌||◌, List, [], ◌∷◌, length, reverse, take, Some, None, Option, Result, ◌==◌, nat_le, nat_lt, slice_index_or}
use Rattle.std.specs.Option.{option_map}
use Rattle.std.specs.List.{All, AllPairs, Contains, find}
use Rattle.refusal.specs.Checks.{Check, checked}
use Rattle.refusal.specs.declared.Refusal.{Refusal}
use Rattle.refusal.specs.declared.Refusal.TheVariants.{TooManySteps, StepAmountOutOfRange, StepDelayOutOfRange}
use Rattle.links.specs.declared.steps.Step.{Step}
use Rattle.links.specs.declared.steps.StepTable.{StepTable}
use Rattle.links.specs.Meaning.{within_size, within_time}

-- The steps in the table: the first `count` of its 16 places.
abbrev pub kept : StepTable → List Step
kept table = take (min table.count 16) table.steps

-- The delay of the last step, in their order, whose amount is not above `words`.
abbrev pub last_reached : ℕ → List Step → Option ℕ
last_reached words steps = option_map (λ step. step.delay) (find (λ step. nat_le step.amount words) (reverse steps))

abbrev pub table_delay : StepTable → ℕ → Option ℕ
table_delay table words = within_size words (within_time (last_reached words (kept table)))

abbrev pub new_step : ℕ → ℕ → Step
new_step amount delay = record { amount = amount; delay = delay }

-- Whether `amount` is above that of the last step, if there is one.
abbrev pub above_last : ℕ → List Step → Bool
above_last amount steps = length steps == 0 || nat_lt (slice_index_or steps (length steps - 1) (new_step 0 0)).amount amount

-- The checks of a step that is to be added to `steps`, and its answer.
abbrev pub step_checks : List Step → ℕ → ℕ → List Check
step_checks steps amount delay = (nat_le 16 (length steps), TooManySteps) ∷ (nat_lt 65535 amount || not (above_last amount steps), StepAmountOutOfRange) ∷ (nat_lt 1000000 delay, StepDelayOutOfRange) ∷ []

abbrev pub step_answer : List Step → ℕ → ℕ → Result (Unit {0}) Refusal
step_answer steps amount delay = checked (step_checks steps amount delay) tt

-- Steps as `new` and `step` put them into a table: the amounts rise, and each amount and delay is within its limit.
abbrev pub Made : List Step → Type 0
Made steps = All (λ step. (step.amount ≤ 65535) × (step.delay ≤ 1000000)) steps × AllPairs (λ earlier later. earlier.amount < later.amount) steps

-- `delay` is that of the step with the greatest amount not above `words`, and None where every amount is above `words`.
abbrev pub Greatest : ℕ → List Step → Option ℕ → Type 0
Greatest words steps None = All (λ step. words < step.amount) steps
Greatest words steps (Some delay) =
    (step : Step) × (Contains steps step × (step.delay ≡ delay) × (step.amount ≤ words) × All (λ other. other.amount ≤ words → other.amount ≤ step.amount) steps)
