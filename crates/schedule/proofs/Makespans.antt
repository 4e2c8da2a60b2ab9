-- The makespan is the least tick by which each end task has a row that has ended.
use Rattle.std.proofs.Common.{◌≡◌, ℕ, zero, suc, ◌*◌, ◌<◌, ◌≤◌, true, cond, eqb, List, [], ◌∷◌, Some, None, Option, sym, refl, ap, ◌∙◌, subst, ⊎_elim, arith, below_more}
use Rattle.std.specs.List.{Contains}
use Rattle.std.specs.Option.{unwrap_or}
use Rattle.std.proofs.lemmas.List.Elements.{Contains-get_or}
use Rattle.std.proofs.lemmas.Bool.{cases_lt, cond_both, cond-true, eqb-false, eqb-true}
use Rattle.schedule.specs.declared.Row.{Row}
use Rattle.schedule.specs.Graph.{Graph, is_end, tasks}
use Rattle.schedule.specs.Schedule.{at, earlier, earliest, end, makespan, no_row, span}
use Rattle.schedule.specs.Laws.{EndedBy, MakespanIsLeast}
use Rattle.schedule.proofs.Lists.{each_more, has_here, has_there, read_at}
use Rattle.schedule.proofs.Multiples.{mul-max}

module _ (g : Graph) (t : ℕ) where
  -- n is the earliest end among the rows of t: a row has it, and no row of t ends sooner
  pub record First (rows : List Row) (n : ℕ) : Type 0 where
    pub row : Row
    pub has : Contains rows row
    pub of : row.task ≡ t
    pub ends : end g row ≡ n
    pub none_sooner : (r : Row) → Contains rows r → r.task ≡ t → n ≤ end g r

  -- an answer is the earliest end, or there is no row of t
  abbrev Earliest : List Row → Option ℕ → Type 0
  Earliest rows None = (r : Row) → Contains rows r → r.task ≡ t → ⊥
  Earliest rows (Some n) = First rows n

  earliest_more : (s : Row) (rows : List Row) → s.task ≡ t → (o : Option ℕ) → Earliest rows o → Earliest (s ∷ rows) (earlier (end g s) o)
  earliest_more s rows e None h = record {
    row = s;
    has = has_here s rows;
    of = e;
    ends = refl;
    none_sooner = each_more (λ r. r.task ≡ t → end g s ≤ end g r) s rows (λ _. omega arith) (λ r i p. absurd (h r i p));
  }
  earliest_more s rows e (Some n) h =
      ⊎_elim
      (λ l. record { row = h.row; has = has_there s h.row rows h.has; of = h.of; ends = omega (arith, l, h.ends); none_sooner = sooner })
      (λ l. record { row = s; has = has_here s rows; of = e; ends = omega (arith, l); none_sooner = sooner })
      (cases_lt n (end g s))
    where
      sooner : (r : Row) → Contains (s ∷ rows) r → r.task ≡ t → unwrap_or (earlier (end g s) (Some n)) 0 ≤ end g r
      sooner =
          each_more (λ r. r.task ≡ t → unwrap_or (earlier (end g s) (Some n)) 0 ≤ end g r) s rows (λ _. omega arith)
          (λ r i p. omega (arith, h.none_sooner r i p))

  earliest_pass : (s : Row) (rows : List Row) → (s.task ≡ t → ⊥) → (o : Option ℕ) → Earliest rows o → Earliest (s ∷ rows) o
  earliest_pass s rows ne None h = each_more (λ r. r.task ≡ t → ⊥) s rows ne h
  earliest_pass s rows ne (Some n) h = record {
    row = h.row;
    has = has_there s h.row rows h.has;
    of = h.of;
    ends = h.ends;
    none_sooner = each_more (λ r. r.task ≡ t → n ≤ end g r) s rows (λ p. absurd (ne p)) h.none_sooner;
  }

  earliest_is : (rows : List Row) → Earliest rows (earliest g t rows)
  earliest_is [] = λ r i e. omega (arith, i.1)
  earliest_is (s ∷ rows) =
      cond_both (eqb s.task t) (earlier (end g s) (earliest g t rows)) (earliest g t rows) (Earliest (s ∷ rows))
      (λ e. earliest_more s rows (eqb-true s.task t e) (earliest g t rows) (earliest_is rows))
      (λ e. earliest_pass s rows (eqb-false s.task t e) (earliest g t rows) (earliest_is rows))

  -- a task that has a row ends first by some row, and by no row sooner
  pub first_end : (rows : List Row) (r : Row) → Contains rows r → r.task ≡ t → First rows (unwrap_or (earliest g t rows) 0)
  first_end rows r i e = go (earliest g t rows) (earliest_is rows)
    where
      go : (o : Option ℕ) → Earliest rows o → First rows (unwrap_or o 0)
      go None h = absurd (h r i e)
      go (Some n) h = h

module _ (g : Graph) (rows : List Row) where
  -- c times the span is at most m, if c times the first end of each end task is
  pub span_low : (c m n : ℕ) → ((k : ℕ) → k < n → is_end g k ≡ true → c * unwrap_or (earliest g k rows) 0 ≤ m) → c * span g rows n ≤ m
  span_low c m zero f = omega arith
  span_low c m (suc n) f =
      mul-max c (span g rows n) (cond (is_end g n) (unwrap_or (earliest g n rows) 0) 0) m
      (span_low c m n (λ k l e. f k (omega (arith, l)) e))
      (cond_both (is_end g n) (unwrap_or (earliest g n rows) 0) 0 (λ x. c * x ≤ m) (λ e. f n (omega arith) e) (λ _. omega arith))

  -- no end task ends first after the span
  pub span_high : (n k : ℕ) → k < n → is_end g k ≡ true → unwrap_or (earliest g k rows) 0 ≤ span g rows n
  span_high zero k l = absurd (omega (arith, l))
  span_high (suc n) k l =
      below_more (λ t. is_end g t ≡ true → unwrap_or (earliest g t rows) 0 ≤ span g rows (suc n)) n
      (λ t m e. omega (arith, span_high n t m e))
      (λ e. omega (arith, cond-true (is_end g n) (unwrap_or (earliest g n rows) 0) 0 e))
      k (omega (arith, l))

pub makespan_is_least_lem : MakespanIsLeast
makespan_is_least_lem g rows valid m = (down, up)
  where
    first : (t : ℕ) → t < tasks g → First g t rows (unwrap_or (earliest g t rows) 0)
    first t l =
        let c = valid.complete t l in
        first_end g t rows (at rows c.0) (Contains-get_or rows c.0 no_row c.1) c.2

    down : makespan g rows ≤ m → EndedBy g rows m
    down h t l e =
        let f = first t l in
        let r : at rows f.has.0 ≡ f.row = read_at rows f.row no_row f.has in (
          f.has.0,
          f.has.1,
          ap (λ r. r.task) r ∙ f.of,
          subst (λ r. end g r ≤ m) (sym r) (omega (arith, h, f.ends, span_high g rows (tasks g) t l e)),
        )

    up : EndedBy g rows m → makespan g rows ≤ m
    up f =
        let s = span_low g rows 1 m (tasks g)
        (λ t l e. let r = f t l e in omega (arith, r.3, (first t l).none_sooner (at rows r.0) (Contains-get_or rows r.0 no_row r.1) r.2)) in
        omega (arith, s)
