-- The climb from the leaf to the root, step by step, and what it leaves.
use Rattle.std.proofs.Common.{◌≡◌, ◌+◌, ◌/◌, drop, set, sym, refl, ap, ◌∙◌, subst, inr, ⊎_elim, arith, length-set, drop-set-lt}
use mathlib.Core.Path.{transport}
use Rattle.segment_tree.specs.Tree.{joined_at}
use Rattle.segment_tree.specs.Tree.Above.{parent, higher}
use Rattle.segment_tree.proofs.Climb.{Climbed, climbed_more, leaf_set}
use Rattle.segment_tree.proofs.tree.set_leaf.Goals as goal

pub loop-place-preserved : goal.loop-place-preserved
loop-place-preserved g c =
    let kind = g.K.Record.kind in
    let first = 256 + c.from-place.result in
    let start = set c.args.places.now first c.to_row.result in
    let now = c.loop-place.places in
    let p = c.loop-place.place in
    let inv = c.loop-place.invariant in
    let is : c.join_children.new.places ≡ set now (p / 2) (joined_at kind now (p / 2)) = c.join_children.ensures in
    let long = length-set c.args.places.now first c.to_row.result in
    let climbed = climbed_more kind start first p now (omega arith) (omega arith) inv.3 inv.4 in (
      omega arith,
      omega arith,
      ap (drop 256) is ∙ drop-set-lt 256 now (p / 2) _ (omega arith) ∙ inv.2,
      inr (⊎_elim (λ e. parent (omega arith) (ap (λ m. m / 2) e)) (λ a. higher a (omega arith) refl) inv.3),
      subst (Climbed kind start first (p / 2)) (sym is) climbed,
    )

pub returns : goal.returns
returns g c =
    let kind = g.K.Record.kind in
    let old = c.args.places.now in
    let new = c.loop-place.places in
    let ended : c.loop-place.place ≡ 1 = omega arith in
    let leaf : c.from-place.result ≡ c.args.leaf = omega (arith, c.from-place.ensures) in
    let row = c.to_row.ensures in
    let upper = transport (λ i. drop 256 new ≡ drop 256 (set old (256 + leaf i) (row i))) c.loop-place.invariant.2 in
    let climbed = transport (λ i. Climbed kind (set old (256 + leaf i) (row i)) (256 + leaf i) (ended i) new) c.loop-place.invariant.4 in
    leaf_set kind old new c.args.leaf c.args.record (omega arith) (omega (arith, length-set old (256 + c.from-place.result) c.to_row.result)) upper climbed
