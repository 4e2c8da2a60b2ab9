-- The front of a set is the greatest arrival of an arc that enters it, and the next task to be added is the lowest that has it.
use Rattle.std.proofs.Common.{◌≡◌, ℕ, ◌<◌, ◌≤◌, min, max, Bool, true, cond, ◌&&◌, eqb, List, [], ◌∷◌, ⊎_elim, arith}
use Rattle.std.specs.List.{Contains}
use Rattle.std.proofs.lemmas.Bool.{and_from, and_parts, cases_Bool, cases_lt, cond_both, cond-false, cond-true, eq-eqb, eqb-true}
use Rattle.schedule.specs.declared.Arc.{Arc}
use Rattle.schedule.specs.Graph.{Forward, Graph, tasks}
use Rattle.schedule.specs.Bounds.{Set, arrival, enters, front, latest}
use Rattle.schedule.specs.Growth.{lowest, next}
use Rattle.schedule.proofs.Lists.{each_more, has_here, has_there}

module _ (g : Graph) (es : List ℕ) where
  latest_high : (K : Set) (m : ℕ) (arcs : List Arc) → latest g es K arcs ≤ m
      → (a : Arc) → Contains arcs a → enters K a ≡ true → arrival g es a ≤ m
  latest_high K m [] h = λ a i e. absurd (omega (arith, i.1))
  latest_high K m (b ∷ rest) h =
      each_more (λ a. enters K a ≡ true → arrival g es a ≤ m) b rest
      (λ e. omega (arith, h, cond-true (enters K b) (arrival g es b) 0 e))
      (latest_high K m rest (omega (arith, h)))

  latest_low : (K : Set) (m : ℕ) (arcs : List Arc) → ((a : Arc) → Contains arcs a → enters K a ≡ true → arrival g es a ≤ m)
      → latest g es K arcs ≤ m
  latest_low K m [] f = omega arith
  latest_low K m (a ∷ rest) f =
      let here = cond_both (enters K a) (arrival g es a) 0 (λ x. x ≤ m) (f a (has_here a rest)) (λ _. omega arith) in
      omega (arith, here, latest_low K m rest (λ b i. f b (has_there a b rest i)))

  -- an arrival is at most the front
  pub front_high : (K : Set) (a : Arc) → Contains g.arcs a → enters K a ≡ true → arrival g es a ≤ front g es K
  front_high K = latest_high K (front g es K) g.arcs (omega arith)

  -- the front is at most whatever all arrivals are
  pub front_low : (K : Set) (m : ℕ) → ((a : Arc) → Contains g.arcs a → enters K a ≡ true → arrival g es a ≤ m) → front g es K ≤ m
  front_low K m f = latest_low K m g.arcs f

  -- an arc that enters K and arrives at f
  abbrev Arrives : Set → ℕ → List Arc → Arc → Type 0
  Arrives K f arcs a = Contains arcs a × (enters K a ≡ true) × (arrival g es a ≡ f)

  arrives_there : (K : Set) (f : ℕ) (b : Arc) (arcs : List Arc) (a : Arc) → Arrives K f arcs a → Arrives K f (b ∷ arcs) a
  arrives_there K f b arcs a h = (has_there b a arcs h.0, h.1, h.2)

  latest_found : (K : Set) (arcs : List Arc) → 0 < latest g es K arcs → (a : Arc) × Arrives K (latest g es K arcs) arcs a
  latest_found K [] h = absurd (omega arith)
  latest_found K (a ∷ rest) h =
      ⊎_elim
      (λ l. ⊎_elim
      (λ e. (a, (has_here a rest, e, here e l)))
      (λ e. absurd (omega (arith, l, cond-false (enters K a) (arrival g es a) 0 e)))
      (cases_Bool (enters K a)))
      (λ l. let f = latest_found K rest (omega (arith, h)) in
      (f.0, (has_there a f.0 rest f.1.0, f.1.1, omega (arith, l, f.1.2))))
      (cases_lt (latest g es K rest) (cond (enters K a) (arrival g es a) 0))
    where
      here : enters K a ≡ true → latest g es K rest < cond (enters K a) (arrival g es a) 0
          → arrival g es a ≡ max (cond (enters K a) (arrival g es a) 0) (latest g es K rest)
      here e l = let c = cond-true (enters K a) (arrival g es a) 0 e in omega (arith, c, l)

  abbrev fits : Set → ℕ → Arc → Bool
  fits S f a = enters S a && eqb (arrival g es a) f

  lowest_low : (S : Set) (f m : ℕ) (arcs : List Arc) → m ≤ lowest g es S f arcs
      → (a : Arc) → Contains arcs a → enters S a ≡ true → arrival g es a ≡ f → m ≤ a.first
  lowest_low S f m [] h = λ a i e p. absurd (omega (arith, i.1))
  lowest_low S f m (a ∷ rest) h =
      each_more (λ b. enters S b ≡ true → arrival g es b ≡ f → m ≤ b.first) a rest
      (λ e p. let c = and_from (enters S a) (eqb (arrival g es a) f) e (eq-eqb (arrival g es a) f p) in
      omega (arith, h, cond-true (fits S f a) (min a.first (lowest g es S f rest)) (lowest g es S f rest) c))
      (lowest_low S f m rest (omega (arith, h, less)))
    where
      less : lowest g es S f (a ∷ rest) ≤ lowest g es S f rest
      less =
          cond_both (fits S f a) (min a.first (lowest g es S f rest)) (lowest g es S f rest) (λ x. x ≤ lowest g es S f rest)
          (λ _. omega arith) (λ _. omega arith)

  -- an arc from the lowest task
  abbrev Lowest : Set → ℕ → List Arc → Type 0
  Lowest S f arcs = (a : Arc) × Arrives S f arcs a × (a.first ≡ lowest g es S f arcs)

  lowest_found : (S : Set) (f : ℕ) (arcs : List Arc) → lowest g es S f arcs < tasks g → Lowest S f arcs
  lowest_found S f [] h = absurd (omega arith)
  lowest_found S f (a ∷ rest) h =
      ⊎_elim
      (λ c. let p = cond-true (fits S f a) (min a.first (lowest g es S f rest)) (lowest g es S f rest) c in
      ⊎_elim
      (λ l. there (omega (arith, p, l)) (lowest_found S f rest (omega (arith, h, p, l))))
      (λ l. let e = and_parts (enters S a) (eqb (arrival g es a) f) c in
      (a, (has_here a rest, e.0, eqb-true (arrival g es a) f e.1), omega (arith, p, l)))
      (cases_lt (lowest g es S f rest) a.first))
      (λ c. let p = cond-false (fits S f a) (min a.first (lowest g es S f rest)) (lowest g es S f rest) c in there p
      (lowest_found S f rest (omega (arith, h, p))))
      (cases_Bool (fits S f a))
    where
      there : lowest g es S f (a ∷ rest) ≡ lowest g es S f rest → Lowest S f rest → Lowest S f (a ∷ rest)
      there p l = (l.0, arrives_there S f a rest l.0 l.1, omega (arith, p, l.2))

  -- no arc whose arrival is the front comes from a task below the next one
  pub next_low : (S : Set) (a : Arc) → Contains g.arcs a → enters S a ≡ true → arrival g es a ≡ front g es S → next g es S ≤ a.first
  next_low S = lowest_low S (front g es S) (next g es S) g.arcs (omega arith)

  -- what growth adds to a set: the first task of an arc that enters it and whose arrival is its front
  pub record Brought (S : Set) : Type 0 where
    pub arc : Arc
    pub has : Contains g.arcs arc
    pub into : enters S arc ≡ true
    pub arrives : arrival g es arc ≡ front g es S
    pub is : arc.first ≡ next g es S

  pub next_found : Forward g → (S : Set) → 0 < front g es S → Brought S
  next_found fw S h = record { arc = n.0; has = n.1.0; into = n.1.1; arrives = n.1.2; is = n.2 }
    where
      some : (a : Arc) × Arrives S (front g es S) g.arcs a
      some = latest_found S g.arcs h

      n : Lowest S (front g es S) g.arcs
      n = lowest_found S (front g es S) g.arcs
          (omega (arith, fw some.0 some.1.0, next_low S some.0 some.1.0 some.1.1 some.1.2))
