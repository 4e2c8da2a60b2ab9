-- The plan ends within its factor of every valid schedule.
use Rattle.std.proofs.Common.{◌≡◌, ℕ, ◌+◌, ◌*◌, ◌<◌, ◌≤◌, true, List, subst, mul-le-mul_left, arith}
use Rattle.std.proofs.lemmas.List.Elements.{Contains-get_or}
use Rattle.std.specs.Option.{unwrap_or}
use Rattle.schedule.specs.declared.Row.{Row}
use Rattle.schedule.specs.Graph.{Forward, Graph, duration, is_end, tasks}
use Rattle.schedule.specs.Schedule.{Valid, at, earliest, makespan, no_row}
use Rattle.schedule.specs.Bounds.{Bounds, bound}
use Rattle.schedule.specs.Plan.{plan}
use Rattle.schedule.specs.Theorems.{Grain, PlanIsShort}
use Rattle.schedule.proofs.Homes.{home_end, home_timely}
use Rattle.schedule.proofs.Lists.{read_at}
use Rattle.schedule.proofs.Makespans.{First, first_end, span_high, span_low}
use Rattle.schedule.proofs.Marks.{marked_end}
use Rattle.schedule.proofs.NoEarlier.{no_schedule_starts_earlier_lem}
use Rattle.schedule.proofs.PlanValid.{Own, own}

-- a task's own factor
factor : (p q h e d o m : ℕ) → (p + q) * h ≤ (p + 2 * q) * e + (p + q) * d → e + d ≤ o → o ≤ m → (p + q) * h ≤ (p + 2 * q) * m
factor p q h e d o m a b c = omega (arith, a, mul-le-mul_left (p + 2 * q) b, mul-le-mul_left (p + 2 * q) c)

module _ (g : Graph) (es : List ℕ) (fw : Forward g) (bs : Bounds g es) where
  -- a valid schedule ends each task no sooner than its bound and duration say
  ends_late : (rows : List Row) → Valid g rows → (k : ℕ) → k < tasks g → bound es k + duration g k ≤ unwrap_or (earliest g k rows) 0
  ends_late rows valid k l =
      let c = valid.complete k l in
      let f : First g k rows (unwrap_or (earliest g k rows) 0) = first_end g k rows (at rows c.0) (Contains-get_or rows c.0 no_row c.1) c.2 in
      let late : bound es f.row.task ≤ f.row.start = subst (λ r. bound es r.task ≤ r.start) (read_at rows f.row no_row f.has)
      (no_schedule_starts_earlier_lem g es fw bs rows valid f.has.0 f.has.1) in
      subst (λ x. bound es x + duration g x ≤ unwrap_or (earliest g k rows) 0) f.of (omega (arith, late, f.ends))

  -- the plan ends an end task first no later than at its home
  pub ends_by_home : (k : ℕ) → k < tasks g → is_end g k ≡ true → unwrap_or (earliest g k (plan g es)) 0 ≤ home_end g es k
  ends_by_home k l e =
      let o : Own g es fw bs k = own g es fw bs k (marked_end g es k l e) in
      omega (arith, o.ends, (first_end g k (plan g es) o.row o.planned o.of).none_sooner o.row o.planned o.of)

  plan_short : (p q : ℕ) → Grain g p q → (other : List Row) → Valid g other
      → (p + q) * makespan g (plan g es) ≤ (p + 2 * q) * makespan g other
  plan_short p q grain other valid = span_low g (plan g es) (p + q) ((p + 2 * q) * makespan g other) (tasks g) each
    where
      each : (k : ℕ) → k < tasks g → is_end g k ≡ true → (p + q) * unwrap_or (earliest g k (plan g es)) 0 ≤ (p + 2 * q) * makespan g other
      each k l e =
          omega (
            arith,
            mul-le-mul_left (p + q) (ends_by_home k l e),
            factor p q (home_end g es k) (bound es k) (duration g k) (unwrap_or (earliest g k other) 0) (makespan g other)
                (home_timely g es fw bs p q grain k l) (ends_late other valid k l) (span_high g other (tasks g) k l e),
          )

pub plan_is_short_lem : PlanIsShort
plan_is_short_lem g es fw bs p q low grain other valid = plan_short g es fw bs p q grain other valid
