-- A tree of one kind of record: 256 leaves in the first 512 of its rows, the places. The root is at place 1, the children of
-- place k are at 2 k and 2 k + 1, so the leaves are the places from 256 on. Place 0 is not used. Assumes nothing.
use Rattle.std.specs.Prelude.{◌≡◌, ℕ, ◌+◌, ◌*◌, ◌/◌, ◌<◌, ◌≤◌, ◌≢◌, List, [], ◌∷◌, ◌++◌, length, map, take, drop, replicate, slice_index_or, slice_set}
use Rattle.segment_tree.specs.Kind.{Kind}

-- Halving a place gives its parent. Above a place are its parent, and the parent of what is above it.
pub data Above (place : ℕ) : ℕ → Type 0 where
  parent : {k : ℕ} → 2 ≤ place → k ≡ place / 2 → Above place k
  higher : {j k : ℕ} → Above place j → 2 ≤ j → k ≡ j / 2 → Above place k

-- the rows of the leaves
abbrev pub leaf_rows : {R : Type 0} → List R → List R
leaf_rows rows = take 256 (drop 256 rows)

module _ {K R : Type 0} (kind : Kind K R) where
  -- The join of records, in order.
  abbrev pub total : List K → K
  total [] = kind.blank
  total (x ∷ xs) = kind.joined x (total xs)

  -- the records at the leaves, in order
  abbrev pub leaves : List R → List K
  leaves rows = map kind.read (leaf_rows rows)

  abbrev pub row_at : List R → ℕ → R
  row_at rows k = slice_index_or rows k (kind.written kind.blank)

  abbrev pub record_at : List R → ℕ → K
  record_at rows k = kind.read (row_at rows k)

  -- the row of the join of the two children of place k
  abbrev pub joined_at : List R → ℕ → R
  joined_at rows k = kind.written (kind.joined (record_at rows (2 * k)) (record_at rows (2 * k + 1)))

  -- Place k holds the join of its two children.
  abbrev pub Joins : List R → ℕ → Type 0
  Joins rows k = row_at rows k ≡ joined_at rows k

  -- A tree is sound if every place above the leaves holds the join of its two children.
  abbrev pub Sound : List R → Type 0
  Sound rows = (k : ℕ) → 1 ≤ k → k < 256 → Joins rows k

  -- 512 blanks, and the rest as it was.
  abbrev pub blanked : List R → List R
  blanked rows = replicate 512 (kind.written kind.blank) ++ drop 512 rows

  -- What blanking leaves of the old rows.
  pub record AllBlank (old new : List R) : Type 0 where
    pub rows : new ≡ blanked old
    pub len : length new ≡ length old
    pub blanks : leaves new ≡ replicate 256 kind.blank
    pub rest : drop 512 new ≡ drop 512 old
    pub sound : Sound new

  -- What setting a leaf leaves of the old rows.
  pub record LeafSet (old new : List R) (leaf : ℕ) (x : K) : Type 0 where
    -- this leaf holds the record, the other leaves are as they were
    pub holds : leaf_rows new ≡ slice_set (leaf_rows old) leaf (kind.written x)
    -- what is above the leaf is joined anew
    pub above : (k : ℕ) → Above (256 + leaf) k → Joins new k
    -- every other place is as it was
    pub others : (k : ℕ) → k ≢ 256 + leaf → (Above (256 + leaf) k → ⊥) → row_at new k ≡ row_at old k
    pub rest : drop 512 new ≡ drop 512 old
    pub len : length new ≡ length old
    -- so a sound tree stays sound
    pub sound : Sound old → Sound new
