-- Which clusters run: those of the end tasks, and of every task that feeds a cluster that runs.
use Rattle.std.proofs.Common.{◌≡◌, ℕ, zero, suc, ◌+◌, ◌-◌, ◌<◌, ◌≤◌, Bool, true, false, cond, not, ◌&&◌, eqb, ◌⊎◌, List, [], ◌∷◌, length, get_or, sym, subst, inl, inr, ⊎_elim, arith}
use Rattle.std.specs.List.{AllPairs, Contains, list_any}
use Rattle.std.proofs.lemmas.List.Elements.{Contains-append_cases, Contains-append_left, Contains-append_right, Contains-get_or}
use Rattle.std.proofs.lemmas.List.{length-append}
use Rattle.std.proofs.lemmas.Bool.{and_from, and_parts, both_ways, cases_eq, cond_both, cond-true, eq-eqb, eqb-true, not-false, not_from_false, not-true, or_cases, or_left, or_right, true_from_ne_false}
use Rattle.schedule.specs.declared.Arc.{Arc}
use Rattle.schedule.specs.Graph.{Forward, Graph, is_end, tasks}
use Rattle.schedule.specs.Bounds.{Set}
use Rattle.schedule.specs.Growth.{cluster}
use Rattle.schedule.specs.Laws.{EndsHaveNoArcOut, Feeds, MarksAreNeeded}
use Rattle.schedule.specs.Plan.{feeds, feeds_any, is_marked, marked, marks}
use Rattle.schedule.proofs.Clusters.{cluster_most}
use Rattle.schedule.proofs.Lists.{any_has, has_any, has_cases, has_here, pairs-append, pairs_short}

-- a task with an outgoing arc
pub arc_from : (g : Graph) (t : ℕ) → is_end g t ≡ false → (a : Arc) × Contains g.arcs a × (a.first ≡ t)
arc_from g t e =
    let s = any_has (λ a. eqb a.first t) g.arcs (not-false (list_any (λ a. eqb a.first t) g.arcs) e) in
    (s.0, s.1, eqb-true s.0.first t s.2)

pub ends_have_no_arc_out_lem : EndsHaveNoArcOut
ends_have_no_arc_out_lem g t = (
  (λ e a i p. both_ways (list_any (λ a. eqb a.first t) g.arcs) (not-true (list_any (λ a. eqb a.first t) g.arcs) e)
      (has_any (λ a. eqb a.first t) g.arcs a i (eq-eqb a.first t p))),
  λ f. true_from_ne_false (is_end g t) (λ e. let a = arc_from g t e in f a.0 a.1 a.2),
)

-- the test of feeding finds every arc that feeds, and no other
feeds_by : (C : Set) (u : ℕ) (arcs : List Arc) → feeds C u arcs ≡ true
    → (a : Arc) × Contains arcs a × (a.first ≡ u) × (C a.second ≡ true) × (C u ≡ false)
feeds_by C u arcs h =
    let s = any_has (λ a. eqb a.first u && (C a.second && not (C u))) arcs h in
    let a : Arc = s.0 in
    let p = and_parts (eqb a.first u) (C a.second && not (C u)) s.2 in
    let q = and_parts (C a.second) (not (C u)) p.1 in
    (a, s.1, eqb-true a.first u p.0, q.0, not-true (C u) q.1)

feeds_from : (C : Set) (u : ℕ) (arcs : List Arc) (a : Arc) → Contains arcs a → a.first ≡ u → C a.second ≡ true → C u ≡ false
    → feeds C u arcs ≡ true
feeds_from C u arcs a i e c f =
    has_any (λ a. eqb a.first u && (C a.second && not (C u))) arcs a i
    (and_from (eqb a.first u) (C a.second && not (C u)) (eq-eqb a.first u e) (and_from (C a.second) (not (C u)) c (not_from_false (C u) f)))

module _ (g : Graph) (es : List ℕ) where
  -- whether the task that is k-th from the end, counted from 0, is marked
  abbrev chosen : ℕ → Bool
  chosen k = is_marked g es (marked g es k) (tasks g - suc k)

  abbrev newly : ℕ → List ℕ
  newly k = cond (chosen k) ((tasks g - suc k) ∷ []) []

  newly_is : (k v : ℕ) → Contains (newly k) v → (chosen k ≡ true) × (v ≡ tasks g - suc k)
  newly_is k v =
      cond_both (chosen k) ((tasks g - suc k) ∷ []) [] (λ l. Contains l v → (chosen k ≡ true) × (v ≡ tasks g - suc k))
      (λ c h. (c, ⊎_elim (λ e. sym e) (λ n. absurd (omega (arith, n.1))) (has_cases (tasks g - suc k) v [] h)))
      (λ _ h. absurd (omega (arith, h.1)))

  newly_one : (k : ℕ) → length (newly k) ≤ 1
  newly_one k = cond_both (chosen k) ((tasks g - suc k) ∷ []) [] (λ l. length l ≤ 1) (λ _. omega arith) (λ _. omega arith)

  marked_range : (k : ℕ) → k ≤ tasks g → (v : ℕ) → Contains (marked g es k) v → (v < tasks g) × (tasks g ≤ v + k)
  marked_range zero l v h = absurd (omega (arith, h.1))
  marked_range (suc k) l v h =
      ⊎_elim
      (λ i. let r = marked_range k (omega (arith, l)) v i in (r.0, omega (arith, r.1)))
      (λ i. let e = (newly_is k v i).1 in (omega (arith, e, l), omega (arith, e, l)))
      (Contains-append_cases (marked g es k) (newly k) v h)

  pub marks_below : (v : ℕ) → Contains (marks g es) v → v < tasks g
  marks_below v h = (marked_range (tasks g) (omega arith) v h).0

  pub mark_below : (i : ℕ) → i < length (marks g es) → get_or (marks g es) i 0 < tasks g
  mark_below i l = marks_below (get_or (marks g es) i 0) (Contains-get_or (marks g es) i 0 l)

  pub length_marked : (k : ℕ) → length (marked g es k) ≤ k
  length_marked zero = omega arith
  length_marked (suc k) =
      omega (arith, length-append (marked g es k) (newly k), length_marked k, newly_one k)

  -- marks stay
  marked_stays : (v k n : ℕ) → k ≤ n → Contains (marked g es k) v → Contains (marked g es n) v
  marked_stays v k zero h i = subst (λ x. Contains (marked g es x) v) {x = k} {y = 0} (omega arith) i
  marked_stays v k (suc n) h i =
      ⊎_elim
      (λ e. subst (λ x. Contains (marked g es x) v) e i)
      (λ ne. Contains-append_left (marked g es n) (newly n) v (marked_stays v k n (omega (arith, h, ne)) i))
      (cases_eq k (suc n))

  -- a task is marked when its turn comes, or never
  marked_early : (v k n : ℕ) → n ≤ tasks g → k ≤ n → tasks g ≤ v + k → Contains (marked g es n) v → Contains (marked g es k) v
  marked_early v k zero s h l i = absurd (omega (arith, i.1))
  marked_early v k (suc n) s h l i =
      ⊎_elim
      (λ e. subst (λ x. Contains (marked g es x) v) (sym e) i)
      (λ ne. ⊎_elim
      (λ j. marked_early v k n (omega (arith, s)) (omega (arith, h, ne)) l j)
      (λ j. absurd (omega (arith, (newly_is n v j).1, s, h, l, ne)))
      (Contains-append_cases (marked g es n) (newly n) v i))
      (cases_eq k (suc n))

  mark : (k : ℕ) → chosen k ≡ true → Contains (marked g es (suc k)) (tasks g - suc k)
  mark k c =
      Contains-append_right (marked g es k) (newly k) (tasks g - suc k)
      (subst (λ l. Contains l (tasks g - suc k)) (sym (cond-true (chosen k) ((tasks g - suc k) ∷ []) [] c)) (has_here (tasks g - suc k) []))

  -- a task whose test holds at its turn is marked
  mark_task : (t : ℕ) → t < tasks g → is_marked g es (marked g es (tasks g - suc t)) t ≡ true → Contains (marks g es) t
  mark_task t small e =
      subst (Contains (marks g es)) same
      (marked_stays (tasks g - suc k) (suc k) (tasks g) (omega (arith, small))
      (mark k (subst (λ x. is_marked g es (marked g es k) x ≡ true) (sym same) e)))
    where
      k : ℕ
      k = tasks g - suc t

      same : tasks g - suc k ≡ t
      same = omega (arith, small)

  pub marked_end : (t : ℕ) → t < tasks g → is_end g t ≡ true → Contains (marks g es) t
  marked_end t small e = mark_task t small (or_left (is_end g t) _ e)

  module _ (fw : Forward g) where
    -- what feeds a marked cluster is marked
    pub marked_feeds : (v u : ℕ) → Contains (marks g es) v → Feeds g es v u → Contains (marks g es) u
    marked_feeds v u i f =
        mark_task u (omega (arith, low, small)) (or_right (is_end g u) (feeds_any g es u (marked g es k))
        (has_any (λ w. feeds (cluster g es w) u g.arcs) (marked g es k) v
        (marked_early v k (tasks g) (omega arith) (omega arith) (omega (arith, low, small)) i)
        (feeds_from (cluster g es v) u g.arcs f.0 f.1 f.2 f.3 f.4)))
      where
        k : ℕ
        k = tasks g - suc u

        small : v < tasks g
        small = marks_below v i

        low : u < v
        low = omega (arith, f.2, fw f.0 f.1, cluster_most g es fw v f.0.second f.3)

    -- a marked task is an end task, or feeds a marked cluster
    marked_why : (k u : ℕ) → k ≤ tasks g → Contains (marked g es k) u → (is_end g u ≡ true) ⊎ ((v : ℕ) × Contains (marks g es) v × Feeds g es v u)
    marked_why zero u l h = absurd (omega (arith, h.1))
    marked_why (suc k) u l h =
        ⊎_elim
        (λ i. marked_why k u (omega (arith, l)) i)
        (λ i. let n = newly_is k u i in
        ⊎_elim
        (λ e. inl (subst (λ x. is_end g x ≡ true) (sym n.1) e))
        (λ e. let a = any_has (λ w. feeds (cluster g es w) (tasks g - suc k) g.arcs) (marked g es k) e in
        inr (
          a.0,
          marked_stays a.0 k (tasks g) (omega (arith, l)) a.1,
          subst (Feeds g es a.0) (sym n.1)
              (feeds_by (cluster g es a.0) (tasks g - suc k) g.arcs a.2),
        ))
        (or_cases (is_end g (tasks g - suc k)) (feeds_any g es (tasks g - suc k) (marked g es k)) n.0))
        (Contains-append_cases (marked g es k) (newly k) u h)

    marked_falls : (k : ℕ) → k ≤ tasks g → AllPairs (λ u w. w < u) (marked g es k)
    marked_falls zero l = pairs_short (λ u w. w < u) [] (omega arith)
    marked_falls (suc k) l =
        pairs-append (λ u w. w < u) (marked g es k) (newly k) (marked_falls k (omega (arith, l)))
        (pairs_short (λ u w. w < u) (newly k) (newly_one k))
        (λ u w i j. omega (arith, (newly_is k w j).1, marked_range k (omega (arith, l)) u i, l))

pub marks_are_needed_lem : MarksAreNeeded
marks_are_needed_lem g es fw = record {
  falling = λ i j. marked_falls g es fw (tasks g) (omega arith) i j 0;
  tasks_only = marks_below g es;
  ends = marked_end g es;
  fed = λ v u i f. marked_feeds g es fw v u i f;
  needed = λ u h. marked_why g es fw (tasks g) u (omega arith) h;
}
