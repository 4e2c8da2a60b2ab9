-- In a sound tree one level joins to what the level below joins to, so the root is the join of the leaves.
use Rattle.std.proofs.Common.{◌≡◌, ℕ, zero, suc, ◌+◌, ◌*◌, ◌<◌, ◌≤◌, List, map, length, take, drop, sym, refl, ap, ◌∙◌, ap₂, arith, drop-cons}
use Rattle.segment_tree.specs.Kind.{Kind}
use Rattle.segment_tree.specs.Tree.{leaves, record_at, total, Joins, Sound}

module _ {K R : Type 0} (kind : Kind K R)
    (right : (x : K) → kind.joined x kind.blank ≡ x)
    (associative : (x y z : K) → kind.joined (kind.joined x y) z ≡ kind.joined x (kind.joined y z))
    (kept : (x : K) → kind.read (kind.written x) ≡ x)
    (rows : List R) where
  -- what the m places from n on join to
  over : ℕ → ℕ → K
  over m n = total kind (map kind.read (take m (drop n rows)))

  over_none : (n : ℕ) → over 0 n ≡ kind.blank
  unfolding over
  over_none n = refl

  over_more : (m n : ℕ) → n < length rows → over (suc m) n ≡ kind.joined (record_at kind rows n) (over m (suc n))
  unfolding over
  over_more m n within = ap (λ part. total kind (map kind.read (take (suc m) part))) (drop-cons rows n (kind.written kind.blank) within)

  -- m places from n on, and their children
  one_down : (m n : ℕ) → 2 * (n + m) ≤ length rows → ((k : ℕ) → n ≤ k → k < n + m → Joins kind rows k) → over m n ≡ over (2 * m) (2 * n)
  one_down zero n within joins = over_none n ∙ sym (over_none (2 * n))
  one_down (suc m) n within joins =
      let left = record_at kind rows (2 * n) in
      let rest = over (2 * m) (2 * suc n) in
      let here : record_at kind rows n ≡ kind.joined left (record_at kind rows (2 * n + 1)) =
      ap kind.read (joins n (omega arith) (omega arith)) ∙ kept _ in
      let two : over (2 * suc m) (2 * n) ≡ kind.joined left (kind.joined (record_at kind rows (2 * n + 1)) rest) =
      ap (λ k. over k (2 * n)) (omega arith) ∙ over_more (suc (2 * m)) (2 * n) (omega arith)
      ∙ ap (kind.joined _) (over_more (2 * m) (suc (2 * n)) (omega arith))
      ∙ ap₂ (λ i j. kind.joined left (kind.joined (record_at kind rows i) (over (2 * m) j))) (omega arith) (omega arith) in
      let below = one_down m (suc n) (omega arith) (λ k h l. joins k (omega arith) (omega arith)) in
      over_more m n (omega arith) ∙ ap₂ kind.joined here below ∙ associative _ _ _ ∙ sym two

  pub root_is_total : 512 ≤ length rows → Sound kind rows → record_at kind rows 1 ≡ total kind (leaves kind rows)
  unfolding over
  root_is_total room sound =
      let down : (n : ℕ) → 1 ≤ n → n ≤ 128 → over n n ≡ over (2 * n) (2 * n) =
      λ n low high. one_down n n (omega arith) (λ k h l. sound k (omega arith) (omega arith)) in
      let top : over 1 1 ≡ record_at kind rows 1 = over_more 0 1 (omega arith) ∙ ap (kind.joined _) (over_none 2) ∙ right _ in
      sym top ∙ down 1 (omega arith) (omega arith) ∙ down 2 (omega arith) (omega arith) ∙ down 4 (omega arith) (omega arith)
      ∙ down 8 (omega arith) (omega arith) ∙ down 16 (omega arith) (omega arith) ∙ down 32 (omega arith) (omega arith)
      ∙ down 64 (omega arith) (omega arith) ∙ down 128 (omega arith) (omega arith)
