-- A tree of blanks: how it is written, and what it holds.
use Rattle.std.proofs.Common.{length-append, length-drop, ◌≡◌, ℕ, zero, suc, ◌+◌, ◌*◌, ◌<◌, ◌≤◌, List, ◌∷◌, ◌++◌, map, length, take, drop, replicate, sym, refl, ap, ◌∙◌, subst, ap₂, arith}
use lib.Seq.{drop-append-le, take-append-le}
use Rattle.std.proofs.lemmas.List.{drop_at, drop-replicate, get_or_append_left, get_or-replicate, length-replicate, length-take-le, take-replicate}
use Rattle.segment_tree.specs.Kind.{Kind}
use Rattle.segment_tree.specs.Tree.{blanked, leaf_rows, leaves, row_at, AllBlank, Sound}

map-replicate : {X Y : Type 0} (f : X → Y) (n : ℕ) (x : X) → map f (replicate n x) ≡ replicate n (f x)
map-replicate f zero x = refl
map-replicate f (suc n) x = ap (λ ys. f x ∷ ys) (map-replicate f n x)

module _ {K R : Type 0} (kind : Kind K R) (rows : List R) where
  pub blanked_rest : drop 512 (blanked kind rows) ≡ drop 512 rows
  blanked_rest = drop_at (replicate 512 (kind.written kind.blank)) (drop 512 rows) 512 (length-replicate 512 (kind.written kind.blank))

  blanked_at : (k : ℕ) → k < 512 → row_at kind (blanked kind rows) k ≡ kind.written kind.blank
  blanked_at k within =
      let blank = kind.written kind.blank in
      get_or_append_left (replicate 512 blank) (drop 512 rows) blank k (omega (arith, length-replicate 512 blank)) ∙ get_or-replicate 512 k blank blank within

  pub blanked_leaves : kind.read (kind.written kind.blank) ≡ kind.blank → leaves kind (blanked kind rows) ≡ replicate 256 kind.blank
  blanked_leaves kept =
      let blank = kind.written kind.blank in
      let blanks = replicate 512 blank in
      let dropped : drop 256 (blanked kind rows) ≡ replicate 256 blank ++ drop 512 rows =
      drop-append-le 256 blanks (drop 512 rows) (omega (arith, length-replicate 512 blank)) ∙ ap (λ part. part ++ drop 512 rows) (drop-replicate 256 512 blank) in
      let taken : leaf_rows (blanked kind rows) ≡ replicate 256 blank =
      ap (take 256) dropped ∙ take-append-le 256 (replicate 256 blank) (drop 512 rows) (omega (arith, length-replicate 256 blank)) ∙ take-replicate 256 256 blank (omega arith) in
      ap (map kind.read) taken ∙ map-replicate kind.read 256 blank ∙ ap (replicate 256) kept

  pub blanked_sound : kind.read (kind.written kind.blank) ≡ kind.blank → kind.joined kind.blank kind.blank ≡ kind.blank → Sound kind (blanked kind rows)
  blanked_sound kept both k low high =
      let child : (i : ℕ) → i < 512 → kind.read (row_at kind (blanked kind rows) i) ≡ kind.blank = λ i within. ap kind.read (blanked_at i within) ∙ kept in
      blanked_at k (omega arith) ∙ sym (ap kind.written (ap₂ kind.joined (child (2 * k) (omega arith)) (child (2 * k + 1) (omega arith)) ∙ both))

  -- The first 512 rows hold the blank, so the rows are a tree of blanks.
  pub all_blank : (row : R) (now : List R) → ((x : K) → kind.read (kind.written x) ≡ x) → ((x : K) → kind.joined kind.blank x ≡ x) → 512 ≤ length rows → row ≡ kind.written kind.blank → now ≡ replicate (length (take 512 rows)) row → AllBlank kind rows (now ++ drop 512 rows)
  all_blank row now kept left room blank is = record {
    rows = new;
    len = omega (arith, ap length new, length-append (replicate 512 (kind.written kind.blank)) (drop 512 rows), length-replicate 512 (kind.written kind.blank), length-drop 512 rows, room);
    blanks = ap (leaves kind) new ∙ blanked_leaves (kept _);
    rest = ap (drop 512) new ∙ blanked_rest;
    sound = subst (Sound kind) (sym new) (blanked_sound (kept _) (left _));
  }
    where
      new : now ++ drop 512 rows ≡ blanked kind rows
      new = ap (λ first. first ++ drop 512 rows) (is ∙ ap₂ replicate (length-take-le 512 rows room) blank)
