-- The climb from a leaf to the root: what is joined anew, and what stays.
use Rattle.std.proofs.Common.{◌≡◌, ℕ, ◌+◌, ◌*◌, ◌/◌, ◌<◌, ◌≤◌, ◌≢◌, ◌⊎◌, List, length, take, drop, set, sym, refl, ap, ◌∙◌, subst, ap₂, inl, inr, ⊎_elim, arith, get_or-set_other, get_or-set_same, drop-drop, drop-set-lt}
use lib.Seq.{drop-set-add, take-set-lt}
use Rattle.std.proofs.lemmas.Bool.{cases_eq}
use Rattle.segment_tree.specs.Kind.{Kind}
use Rattle.segment_tree.specs.Tree.{joined_at, row_at, Above, Joins, LeafSet, Sound}
use Rattle.segment_tree.specs.Tree.Above.{parent, higher}

-- What is above a place is its parent or above its parent.
next : (p k : ℕ) → Above p k → (k ≡ p / 2) ⊎ Above (p / 2) k
next p k (parent two is) = inl is
next p k (higher {j} above two is) = ⊎_elim (λ e. inr (parent (subst (λ m. 2 ≤ m) e two) (is ∙ ap (λ m. m / 2) e))) (λ a. inr (higher a two is)) (next p j above)

-- Nothing is above the root.
root_has_none : (k : ℕ) → Above 1 k → ⊥
root_has_none k (parent two is) = omega arith
root_has_none k (higher {j} above two is) = root_has_none j above

module _ {K R : Type 0} (kind : Kind K R) where
  -- The climb from s has come to p: what is above s is joined if it was passed, or still above p; all else is as it was at the start.
  abbrev pub Climbed : List R → ℕ → ℕ → List R → Type 0
  Climbed start s p now = (k : ℕ) → (Above s k × (p ≤ k) × Joins kind now k) ⊎ ((Above s k → Above p k) × (row_at kind now k ≡ row_at kind start k))

  stays : (rows : List R) (p k : ℕ) (row : R) → k ≢ p → row_at kind (set rows p row) k ≡ row_at kind rows k
  stays rows p k row apart = get_or-set_other rows p k row _ apart

  -- A write to no child of k leaves what k should hold.
  children_stay : (rows : List R) (p k : ℕ) (row : R) → 2 * k ≢ p → 2 * k + 1 ≢ p → joined_at kind (set rows p row) k ≡ joined_at kind rows k
  children_stay rows p k row l r = ap₂ (λ x y. kind.written (kind.joined (kind.read x) (kind.read y))) (stays rows p (2 * k) row l) (stays rows p (2 * k + 1) row r)

  pub climbed_more : (start : List R) (s p : ℕ) (now : List R) → 2 ≤ p → p / 2 < length now → (p ≡ s) ⊎ Above s p → Climbed start s p now
      → Climbed start s (p / 2) (set now (p / 2) (joined_at kind now (p / 2)))
  climbed_more start s p now two within reached before k = ⊎_elim here elsewhere (cases_eq k (p / 2))
    where
      row : R
      row = joined_at kind now (p / 2)

      Done : Type 0
      Done = (Above s k × (p / 2 ≤ k) × Joins kind (set now (p / 2) row) k) ⊎ ((Above s k → Above (p / 2) k) × (row_at kind (set now (p / 2) row) k ≡ row_at kind start k))

      above : Above s (p / 2)
      above = ⊎_elim (λ e. parent (subst (λ m. 2 ≤ m) e two) (ap (λ m. m / 2) e)) (λ a. higher a two refl) reached

      joins : Joins kind (set now (p / 2) row) (p / 2)
      joins = get_or-set_same now (p / 2) row _ within ∙ sym (children_stay now (p / 2) (p / 2) row (omega arith) (omega arith))

      here : k ≡ p / 2 → Done
      here e = inl (subst (Above s) (sym e) above, omega arith, subst (Joins kind (set now (p / 2) row)) (sym e) joins)

      elsewhere : k ≢ p / 2 → Done
      elsewhere apart = ⊎_elim
          (λ done. inl (done.0, omega (arith, done.1), stays now (p / 2) k row apart ∙ done.2 ∙ sym (children_stay now (p / 2) k row (omega (arith, done.1)) (omega (arith, done.1)))))
          (λ kept. inr ((λ a. ⊎_elim (λ e. absurd (apart e)) (λ b. b) (next p k (kept.0 a))), stays now (p / 2) k row apart ∙ kept.1))
          (before k)

  module _ (old new : List R) (s : ℕ) (row : R) (done : Climbed (set old s row) s 1 new) where
    all_above : (k : ℕ) → Above s k → Joins kind new k
    all_above k above = ⊎_elim (λ d. d.2) (λ kept. absurd (root_has_none k (kept.0 above))) (done k)

    all_others : (k : ℕ) → k ≢ s → (Above s k → ⊥) → row_at kind new k ≡ row_at kind old k
    all_others k apart not = ⊎_elim (λ d. absurd (not d.0)) (λ kept. kept.1 ∙ stays old s k row apart) (done k)

    -- What is not above s has its row and its children's rows as they were.
    all_sound : 256 ≤ s → Sound kind old → Sound kind new
    all_sound leaf sound k low high = ⊎_elim (λ d. d.2) (λ kept. unmoved (λ a. root_has_none k (kept.0 a))) (done k)
      where
        child : (i : ℕ) → i / 2 ≡ k → 2 ≤ i → (Above s k → ⊥) → row_at kind new i ≡ row_at kind old i
        child i half i-two not = all_others i (λ e. not (parent (omega arith) (sym half ∙ ap (λ m. m / 2) e))) (λ a. not (higher a i-two (sym half)))

        unmoved : (Above s k → ⊥) → Joins kind new k
        unmoved not =
            all_others k (omega arith) not ∙ sound k low high
            ∙ sym (ap₂ (λ x y. kind.written (kind.joined (kind.read x) (kind.read y))) (child (2 * k) (omega arith) (omega arith) not) (child (2 * k + 1) (omega arith) (omega arith) not))

  pub leaf_set : (old new : List R) (leaf : ℕ) (x : K) → leaf < 256 → length new ≡ length old → drop 256 new ≡ drop 256 (set old (256 + leaf) (kind.written x))
      → Climbed (set old (256 + leaf) (kind.written x)) (256 + leaf) 1 new → LeafSet kind old new leaf x
  leaf_set old new leaf x within long upper done =
      let row = kind.written x in
      let leaves : drop 256 new ≡ set (drop 256 old) leaf row = upper ∙ drop-set-add 256 old leaf row in
      record {
        holds = ap (take 256) leaves ∙ take-set-lt 256 (drop 256 old) leaf row within;
        above = all_above old new (256 + leaf) row done;
        others = all_others old new (256 + leaf) row done;
        rest = sym (drop-drop 256 256 new) ∙ ap (drop 256) leaves ∙ drop-set-lt 256 (drop 256 old) leaf row within ∙ drop-drop 256 256 old;
        len = long;
        sound = all_sound old new (256 + leaf) row done (omega arith);
      }
