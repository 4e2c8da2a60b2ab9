-- The rows of one processor of the plan, and of all: what holds of each row, and of two rows of one processor.
use Rattle.std.proofs.Common.{◌≡◌, ℕ, zero, suc, ◌+◌, ◌<◌, ◌≤◌, true, false, ◌⊎◌, List, [], ◌∷◌, ◌++◌, length, get_or, filter, sym, refl, ap, ◌∙◌, subst, subst₂, inl, inr, ⊎_elim, arith}
use Rattle.std.specs.List.{AllPairs, Contains}
use Rattle.std.proofs.lemmas.List.Elements.{Contains-append_cases, Contains-append_left, Contains-append_right, Contains-get_or}
use Rattle.std.proofs.lemmas.List.Kept.{AllPairs-filter}
use Rattle.schedule.specs.declared.Row.{Row}
use Rattle.schedule.specs.declared.Arc.{Arc}
use Rattle.schedule.specs.Graph.{Forward, Graph, duration, tasks}
use Rattle.schedule.specs.Schedule.{end}
use Rattle.schedule.specs.Bounds.{Bounds, Set, order}
use Rattle.schedule.specs.Growth.{cluster}
use Rattle.schedule.specs.Laws.{Before, Home}
use Rattle.schedule.specs.Plan.{finish, home_rows, homes, inputs, marks, members, plan, rows_from, starts, timed}
use Rattle.schedule.proofs.Clusters.{members_are, others}
use Rattle.schedule.proofs.Homes.{home_end, homes_at}
use Rattle.schedule.proofs.Inputs.{inputs_all, starts_fed, starts_free, starts_soon}
use Rattle.schedule.proofs.Lists.{has_cases, has_here, has_kept, has_there, kept_has, pairs-append, pairs_first, pairs_cases, pairs_more, pairs_rest, pairs_short, pairs_weaker}
use Rattle.schedule.proofs.RunningOrder.{before_one_way, before_other, has_order, order_below, order_rises}

-- row r ends no later than row s starts, and their tasks are related by R
abbrev pub Follows : Graph → (ℕ → ℕ → Type 0) → Row → Row → Type 0
Follows g R r s = (end g r ≤ s.start) × R r.task s.task

module _ (g : Graph) (C : Set) (hs : List ℕ) (p : ℕ) where
  -- when the processor is free again after w
  abbrev freed : ℕ → ℕ → ℕ
  freed t w = starts g C hs t w + duration g w

  -- the row that runs w on a processor that is free from tick t on
  abbrev copy : ℕ → ℕ → Row
  copy t w = record { processor = p; task = w; start = starts g C hs t w }

  pub finish_low : (t : ℕ) (ws : List ℕ) → t ≤ finish g C hs t ws
  finish_low t [] = omega arith
  finish_low t (w ∷ ws) = omega (arith, finish_low (freed t w) ws)

  -- what holds of each row of a processor that is free from tick t on and has run ws
  pub record Timed (t : ℕ) (ws : List ℕ) (r : Row) : Type 0 where
    pub on : r.processor ≡ p
    pub of : Contains ws r.task
    pub from : t ≤ r.start
    pub fed : inputs C hs r.task g.arcs ≤ r.start
    pub by : end g r ≤ finish g C hs t ws

  pub timed_each : (t : ℕ) (ws : List ℕ) (r : Row) → Contains (timed g C hs p t ws) r → Timed t ws r
  timed_each t [] r h = absurd (omega (arith, h.1))
  timed_each t (w ∷ ws) r h =
      ⊎_elim
      (λ e. subst (Timed t (w ∷ ws)) e
      (record { on = refl; of = has_here w ws; from = starts_free C hs w g t; fed = starts_fed C hs w g t; by = finish_low (freed t w) ws }))
      (λ i. let k = timed_each (freed t w) ws r i in
      record { on = k.on; of = has_there w r.task ws k.of; from = omega (arith, k.from); fed = k.fed; by = k.by })
      (has_cases (copy t w) r (timed g C hs p (freed t w) ws) h)

  pub timed_pairs : (R : ℕ → ℕ → Type 0) (t : ℕ) (ws : List ℕ) → AllPairs R ws → AllPairs (Follows g R) (timed g C hs p t ws)
  timed_pairs R t [] h = pairs_short (Follows g R) [] (omega arith)
  timed_pairs R t (w ∷ ws) h =
      pairs_more (Follows g R) (copy t w) (timed g C hs p (freed t w) ws)
      (λ s i. let k = timed_each (freed t w) ws s i in (k.from, pairs_first R w ws h s.task k.of))
      (timed_pairs R (freed t w) ws (pairs_rest R w ws h))

  -- a row starts as soon as the processor is free, the rows before it have ended, and its inputs have come
  pub timed_soon : (R : ℕ → ℕ → Type 0) (m t : ℕ) (ws : List ℕ) → AllPairs R ws → (r : Row) → Contains (timed g C hs p t ws) r → t ≤ m
      → ((s : Row) → Contains (timed g C hs p t ws) s → R s.task r.task → end g s ≤ m) → inputs C hs r.task g.arcs ≤ m → r.start ≤ m
  timed_soon R m t [] h r i l f n = absurd (omega (arith, i.1))
  timed_soon R m t (w ∷ ws) h r i l f n =
      ⊎_elim
      (λ e. subst (λ x. inputs C hs x.task g.arcs ≤ m → x.start ≤ m) e (starts_soon C hs w g t m l) n)
      (λ j. timed_soon R m (freed t w) ws (pairs_rest R w ws h) r j
      (f row (has_here row rest) (pairs_first R w ws h r.task (timed_each (freed t w) ws r j).of))
      (λ s k. f s (has_there row s rest k)) n)
      (has_cases row r rest i)
    where
      row : Row
      row = copy t w

      rest : List Row
      rest = timed g C hs p (freed t w) ws

  pub timed_has : (t w : ℕ) (ws : List ℕ) → Contains ws w → (r : Row) × Contains (timed g C hs p t ws) r × (r.task ≡ w)
  timed_has t w [] i = absurd (omega (arith, i.1))
  timed_has t w (x ∷ ws) i =
      let row : Row = copy t x in
      let rest : List Row = timed g C hs p (freed t x) ws in
      ⊎_elim
      (λ e. (row, has_here row rest, e))
      (λ j. let f = timed_has (freed t x) w ws j in (f.0, has_there row f.0 rest f.1, f.2))
      (has_cases x w ws i)

  pub timed_last : (t : ℕ) (ws : List ℕ) (v : ℕ)
      → (r : Row) × Contains (timed g C hs p t (ws ++ v ∷ [])) r × (r.task ≡ v) × (end g r ≡ finish g C hs t (ws ++ v ∷ []))
  timed_last t [] v = (copy t v, has_here (copy t v) [], refl, refl)
  timed_last t (x ∷ ws) v =
      let f = timed_last (freed t x) ws v in
      (f.0, has_there (copy t x) f.0 (timed g C hs p (freed t x) (ws ++ v ∷ [])) f.1, f.2, f.3)

module _ (g : Graph) (es : List ℕ) where
  -- the tasks that the home of v runs are those of its cluster
  pub members_in : (v u : ℕ) → Contains (members g es v) u → (u < suc v) × (cluster g es v u ≡ true)
  members_in v u h =
      let k = kept_has (cluster g es v) u (order es (suc v)) h in
      (order_below es (suc v) u k.1, k.0)

  pub members_rise : (v : ℕ) → AllPairs (Before es) (members g es v)
  members_rise v = AllPairs-filter (Before es) (cluster g es v) (order es (suc v)) (order_rises es (suc v))

  pub has_members : (v u : ℕ) → u ≤ v → cluster g es v u ≡ true → Contains (members g es v) u
  has_members v u l c = has_kept (cluster g es v) u (order es (suc v)) c (has_order es (suc v) u (omega (arith, l)))

  -- a row of processor p, the home of v
  abbrev pub HomeRow : ℕ → ℕ → Row → Type 0
  HomeRow p v r = Timed g (cluster g es v) (homes g es v) p 0 (members g es v) r

  pub home_row : (p v : ℕ) (r : Row) → Contains (home_rows g es p v) r → HomeRow p v r
  home_row p v r h = timed_each g (cluster g es v) (homes g es v) p 0 (members g es v) r h

  pub home_pairs : (p v : ℕ) → AllPairs (Follows g (Before es)) (home_rows g es p v)
  home_pairs p v = timed_pairs g (cluster g es v) (homes g es v) p (Before es) 0 (members g es v) (members_rise v)

  -- of two rows of one home, one whose task runs before the other's has ended when the other starts
  pub ended_before : (p v : ℕ) (s r : Row) → Contains (home_rows g es p v) s → Contains (home_rows g es p v) r → Before es s.task r.task
      → end g s ≤ r.start
  ended_before p v s r i j b =
      ⊎_elim
      (λ e. absurd (before_other es s.task r.task b (ap (λ x. x.task) e)))
      (λ q. ⊎_elim (λ f. f.0) (λ f. absurd (before_one_way es s.task r.task b f.1)) q)
      (pairs_cases (Follows g (Before es)) (home_rows g es p v) s r (home_pairs p v) i j)

  -- two rows of one home that run the same task are the same
  pub one_row : (p v : ℕ) (s r : Row) → Contains (home_rows g es p v) s → Contains (home_rows g es p v) r → s.task ≡ r.task → s ≡ r
  one_row p v s r i j e =
      ⊎_elim
      (λ q. q)
      (λ q. absurd (⊎_elim (λ f. before_other es s.task r.task f.1 e) (λ f. before_other es r.task s.task f.1 (sym e)) q))
      (pairs_cases (Follows g (Before es)) (home_rows g es p v) s r (home_pairs p v) i j)

  pub rows_has : (p : ℕ) (vs : List ℕ) (i : ℕ) (r : Row) → i < length vs → Contains (home_rows g es (p + i) (get_or vs i 0)) r
      → Contains (rows_from g es p vs) r
  rows_has p [] i r l h = absurd (omega arith)
  rows_has p (v ∷ vs) zero r l h =
      Contains-append_left (home_rows g es p v) (rows_from g es (suc p) vs) r
      (subst (λ x. Contains (home_rows g es x v) r) {x = p + 0} {y = p} (omega arith) h)
  rows_has p (v ∷ vs) (suc i) r l h =
      Contains-append_right (home_rows g es p v) (rows_from g es (suc p) vs) r (rows_has (suc p) vs i r (omega (arith, l))
      (subst (λ x. Contains (home_rows g es x (get_or vs i 0)) r) {x = p + suc i} {y = suc p + i} (omega arith) h))

  -- a row of the homes of vs, from processor p on, belongs to one of them
  abbrev pub Homed : ℕ → List ℕ → Row → Type 0
  Homed p vs r = (i : ℕ) × (i < length vs) × Contains (home_rows g es (p + i) (get_or vs i 0)) r

  pub rows_homed : (p : ℕ) (vs : List ℕ) (r : Row) → Contains (rows_from g es p vs) r → Homed p vs r
  rows_homed p [] r h = absurd (omega (arith, h.1))
  rows_homed p (v ∷ vs) r h =
      ⊎_elim
      (λ j. (0, omega arith, subst (λ x. Contains (home_rows g es x v) r) {x = p} {y = p + 0} (omega arith) j))
      (λ j. let f = rows_homed (suc p) vs r j in (
        suc f.0,
        omega (arith, f.1),
        subst (λ x. Contains (home_rows g es x (get_or vs f.0 0)) r) {x = suc p + f.0} {y = p + suc f.0} (omega arith) f.2,
      ))
      (Contains-append_cases (home_rows g es p v) (rows_from g es (suc p) vs) r h)

  -- the rows of the plan on the home of v are that home's rows
  pub from_home : (v p : ℕ) (r : Row) → Home g es v p → Contains (home_rows g es p v) r → Contains (plan g es) r
  from_home v p r home h =
      rows_has 0 (marks g es) p r home.0
      (subst₂ (λ q w. Contains (home_rows g es q w) r) {x = p} {y = 0 + p} (omega arith) (sym home.1) h)

  pub at_home : (v : ℕ) (r : Row) → Contains (plan g es) r → Home g es v r.processor → Contains (home_rows g es r.processor v) r
  at_home v r h home =
      let f = rows_homed 0 (marks g es) r h in
      let e : r.processor ≡ f.0 = omega (arith, (home_row (0 + f.0) (get_or (marks g es) f.0 0) r f.2).on) in
      subst₂ (λ p w. Contains (home_rows g es p w) r) {x = 0 + f.0} {y = r.processor} (omega (arith, e))
      (sym (ap (λ p. get_or (marks g es) p 0) e) ∙ home.1) f.2

  -- the marked task whose home runs a row of the plan
  abbrev pub host : Row → ℕ
  host r = get_or (marks g es) r.processor 0

  pub hosted : (r : Row) → Contains (plan g es) r → Home g es (host r) r.processor
  hosted r h =
      let f = rows_homed 0 (marks g es) r h in
      (omega (arith, f.1, (home_row (0 + f.0) (get_or (marks g es) f.0 0) r f.2).on), refl)

  pub host_marked : (r : Row) → Contains (plan g es) r → Contains (marks g es) (host r)
  host_marked r h = Contains-get_or (marks g es) r.processor 0 (hosted r h).0

  module _ (fw : Forward g) (p v : ℕ) (r : Row) (m : Contains (home_rows g es p v) r) (a : Arc) (h : Contains g.arcs a) (e : a.second ≡ r.task) where
    -- an input of a row of the home of v is a task below v
    pub input_below : a.first < v
    input_below = omega (arith, fw a h, e, (members_in v r.task (home_row p v r m).of).0)

    -- if it is outside the cluster, it has come from its home when the row starts
    pub input_come : cluster g es v a.first ≡ false → home_end g es a.first + a.delay ≤ r.start
    input_come f =
        omega (
          arith,
          homes_at g es v a.first input_below,
          inputs_all (cluster g es v) (homes g es v) r.task r.start g.arcs (home_row p v r m).fed a h e f,
        )

  -- the first of two rows has a lower processor, or it has the same one, ends before the second starts, and its task runs before
  abbrev pub InTurn : Row → Row → Type 0
  InTurn r s = (r.processor < s.processor) ⊎ ((r.processor ≡ s.processor) × Follows g (Before es) r s)

  pub rows_in_turn : (p : ℕ) (vs : List ℕ) → AllPairs InTurn (rows_from g es p vs)
  rows_in_turn p [] = pairs_short InTurn [] (omega arith)
  rows_in_turn p (v ∷ vs) =
      pairs-append InTurn (home_rows g es p v) (rows_from g es (suc p) vs)
      (pairs_weaker (Follows g (Before es)) InTurn (home_rows g es p v)
      (λ r s i j f. inr ((home_row p v r i).on ∙ sym (home_row p v s j).on, f)) (home_pairs p v))
      (rows_in_turn (suc p) vs)
      (λ r s i j. let f = rows_homed (suc p) vs s j in
      inl (omega (arith, (home_row p v r i).on, (home_row (suc p + f.0) (get_or vs f.0 0) s f.2).on)))

  module _ (fw : Forward g) (bs : Bounds g es) where
    -- the row of a task at its home
    pub home_last : (p v : ℕ) → v < tasks g → (r : Row) × Contains (home_rows g es p v) r × (r.task ≡ v) × (end g r ≡ home_end g es v)
    home_last p v small =
        subst (λ ws. (r : Row) × Contains (timed g (cluster g es v) (homes g es v) p 0 ws) r × (r.task ≡ v) ×
        (end g r ≡ finish g (cluster g es v) (homes g es v) 0 ws))
        (sym (members_are g es fw bs v small))
        (timed_last g (cluster g es v) (homes g es v) p 0 (filter (others g es v) (order es v)) v)
