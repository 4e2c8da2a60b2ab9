-- Ancestors: they have lower numbers, and a test tells who is one.
use Rattle.std.proofs.Common.{◌≡◌, ℕ, zero, suc, ◌<◌, Bool, true, false, ◌&&◌, ◌||◌, eqb, refl, sym, ◌∙◌, inl, inr, arith}
use Rattle.std.specs.List.{Contains, list_any}
use Rattle.std.proofs.lemmas.Bool.{and_from, and_parts, both_ways, eq-eqb, eqb-true, or_cases, or_left, or_right}
use Rattle.schedule.specs.declared.Arc.{Arc}
use Rattle.schedule.specs.Graph.{Ancestor, Forward, Graph, by_arc, through}
use Rattle.schedule.proofs.Lists.{any_has, has_any}

pub ancestor_below : (g : Graph) → Forward g → {u v : ℕ} → Ancestor g u v → u < v
ancestor_below g fw (by_arc a h p q) = omega (arith, (fw a h).0)
ancestor_below g fw (through a h r q) = omega (arith, (fw a h).0, ancestor_below g fw r)

-- one arc in front
pub ancestor_before : (g : Graph) (a : Arc) → Contains g.arcs a → {w v : ℕ} → a.second ≡ w → Ancestor g w v → Ancestor g a.first v
ancestor_before g a h e (by_arc b k p q) = through b k (by_arc a h refl (e ∙ sym p)) q
ancestor_before g a h e (through b k r q) = through b k (ancestor_before g a h e r) q

abbrev leads : (ℕ → Bool) → ℕ → ℕ → Arc → Bool
leads before u v a = eqb a.second v && (eqb a.first u || before a.first)

-- whether arcs lead from u to v, at most n of them
pub leads_to : Graph → ℕ → ℕ → ℕ → Bool
leads_to g u zero v = false
leads_to g u (suc n) v = list_any (leads (leads_to g u n) u v) g.arcs

pub leads_sound : (g : Graph) (u n v : ℕ) → leads_to g u n v ≡ true → Ancestor g u v
unfolding leads_to
leads_sound g u zero v h = absurd (both_ways false refl h)
leads_sound g u (suc n) v h =
    let s = any_has (leads (leads_to g u n) u v) g.arcs h in
    let a : Arc = s.0 in
    let p = and_parts (eqb a.second v) (eqb a.first u || leads_to g u n a.first) s.2 in
    elim (or_cases (eqb a.first u) (leads_to g u n a.first) p.1) [
      | inl e ↦ by_arc a s.1 (eqb-true a.first u e) (eqb-true a.second v p.0)
      | inr e ↦ through a s.1 (leads_sound g u n a.first e) (eqb-true a.second v p.0)
    ]

-- an arc of the graph that leads passes the test
leads_by : (g : Graph) (u n v : ℕ) (a : Arc) → Contains g.arcs a → leads (leads_to g u n) u v a ≡ true → leads_to g u (suc n) v ≡ true
unfolding leads_to
leads_by g u n v a h t = has_any (leads (leads_to g u n) u v) g.arcs a h t

pub leads_complete : (g : Graph) → Forward g → (u n v : ℕ) → v < n → Ancestor g u v → leads_to g u n v ≡ true
leads_complete g fw u zero v l r = absurd (omega arith)
leads_complete g fw u (suc n) v l (by_arc a h p q) =
    leads_by g u n v a h
    (and_from (eqb a.second v) (eqb a.first u || leads_to g u n a.first) (eq-eqb a.second v q)
    (or_left (eqb a.first u) (leads_to g u n a.first) (eq-eqb a.first u p)))
leads_complete g fw u (suc n) v l (through a h r q) =
    leads_by g u n v a h
    (and_from (eqb a.second v) (eqb a.first u || leads_to g u n a.first) (eq-eqb a.second v q)
    (or_right (eqb a.first u) (leads_to g u n a.first) (leads_complete g fw u n a.first (omega (arith, (fw a h).0)) r)))
