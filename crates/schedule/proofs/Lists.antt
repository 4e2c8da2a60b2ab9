-- Lists: who stands in one, and what holds between each element and each later one. The library says who stands in a list that was made
-- longer at its end; the lists here go from the front.
use Rattle.std.proofs.Common.{◌≡◌, ℕ, zero, suc, ◌<◌, ◌≤◌, Bool, true, ◌⊎◌, List, [], ◌∷◌, ◌++◌, map, length, get_or, filter, sym, ap, ◌∙◌, subst, subst₂, inl, inr, ⊎_elim, arith}
use Rattle.std.specs.List.{AllPairs, Contains, list_any}
use Rattle.std.proofs.lemmas.Bool.{both_ways, cases_order, cond_both}
use Rattle.std.proofs.lemmas.List.{get_or-map, get_or_default, length-map}
use Rattle.std.proofs.lemmas.List.Elements.{All-contains, All-contains_itself, All-filter, Contains-append_cases, Contains-append_right, Contains-get_or, filter_passes}
use Rattle.std.proofs.lemmas.List.Folds.{Any-from_list_any, list_any_at}
use Rattle.std.proofs.lemmas.List.Kept.{AllPairs-cons}

module _ {X : Type 0} where
  pub has_here : (x : X) (xs : List X) → Contains (x ∷ xs) x
  has_here x xs = Contains-get_or (x ∷ xs) 0 x (omega arith)

  pub has_there : (y x : X) (xs : List X) → Contains xs x → Contains (y ∷ xs) x
  has_there y x xs h = Contains-append_right (y ∷ []) xs x h

  pub has_cases : (y x : X) (xs : List X) → Contains (y ∷ xs) x → (y ≡ x) ⊎ Contains xs x
  has_cases y x xs h = go h.0 h.1 h.2
    where
      go : (k : ℕ) → k < length (y ∷ xs) → get_or (y ∷ xs) k x ≡ x → (y ≡ x) ⊎ Contains xs x
      go zero l e = inl e
      go (suc k) l e = inr (k, omega (arith, l), e)

  -- what holds of the first element and of each later one holds of each
  pub each_more : (P : X → Type 0) (y : X) (xs : List X) → P y → ((x : X) → Contains xs x → P x) → (x : X) → Contains (y ∷ xs) x → P x
  each_more P y xs p f x h = ⊎_elim (λ e. subst P e p) (λ i. f x i) (has_cases y x xs h)

  -- where x stands, x is read, whatever is read past the end
  pub read_at : (xs : List X) (x d : X) (h : Contains xs x) → get_or xs h.0 d ≡ x
  read_at xs x d h = get_or_default xs h.0 d x h.1 ∙ h.2

  -- the library says what holds of the elements that a filter keeps, and not that those that pass are kept
  pub has_kept : (C : X → Bool) (x : X) (xs : List X) → C x ≡ true → Contains xs x → Contains (filter C xs) x
  has_kept C x [] c h = h
  has_kept C x (y ∷ ys) c h =
      cond_both (C y) (y ∷ filter C ys) (filter C ys) (λ l. Contains l x)
      (λ _. ⊎_elim (λ e. subst (Contains (y ∷ filter C ys)) e (has_here y (filter C ys)))
      (λ t. has_there y x (filter C ys) (has_kept C x ys c t)) (has_cases y x ys h))
      (λ f. ⊎_elim (λ e. absurd (both_ways (C y) f (ap C e ∙ c))) (λ t. has_kept C x ys c t) (has_cases y x ys h))

  pub kept_has : (C : X → Bool) (x : X) (xs : List X) → Contains (filter C xs) x → (C x ≡ true) × Contains xs x
  kept_has C x xs h = (
    All-contains (λ y. C y ≡ true) (filter C xs) x (filter_passes C xs) h,
    All-contains (Contains xs) (filter C xs) x (All-filter C (Contains xs) xs (All-contains_itself xs)) h,
  )

  -- some element passes a test: what the library says of places, said of elements
  pub any_has : (q : X → Bool) (xs : List X) → list_any q xs ≡ true → (x : X) × Contains xs x × (q x ≡ true)
  any_has q xs e = let s = Any-from_list_any q xs e in (s.1, (s.0, s.2, s.3), s.4)

  pub has_any : (q : X → Bool) (xs : List X) (x : X) → Contains xs x → q x ≡ true → list_any q xs ≡ true
  has_any q xs x i e = list_any_at q xs i.0 x i.1 (ap q i.2 ∙ e)

  -- R holds between each element and each later one: the library has such lists with one element more in front, and filtered; here are the
  -- first element and the rest, and two lists in a row.
  module _ (R : X → X → Type 0) where
    pub pairs_short : (xs : List X) → length xs ≤ 1 → AllPairs R xs
    pairs_short xs h i j d l m = absurd (omega (arith, h, l, m))

    pub pairs_more : (x : X) (xs : List X) → ((y : X) → Contains xs y → R x y) → AllPairs R xs → AllPairs R (x ∷ xs)
    pairs_more x xs f h = AllPairs-cons R x xs (λ k d l. f (get_or xs k d) (Contains-get_or xs k d l)) h

    pub pairs_first : (x : X) (xs : List X) → AllPairs R (x ∷ xs) → (y : X) → Contains xs y → R x y
    pairs_first x xs h y i = subst (R x) i.2 (h 0 (suc i.0) y (omega arith) (omega (arith, i.1)))

    pub pairs_rest : (x : X) (xs : List X) → AllPairs R (x ∷ xs) → AllPairs R xs
    pairs_rest x xs h i j d l m = h (suc i) (suc j) d (omega (arith, l)) (omega (arith, m))

    pub pairs_weaker : (S : X → X → Type 0) (xs : List X) → ((x y : X) → Contains xs x → Contains xs y → R x y → S x y) → AllPairs R xs
        → AllPairs S xs
    pairs_weaker S xs f h i j d l m =
        f (get_or xs i d) (get_or xs j d) (Contains-get_or xs i d (omega (arith, l, m))) (Contains-get_or xs j d m) (h i j d l m)

    pub pairs-append : (xs ys : List X) → AllPairs R xs → AllPairs R ys → ((x y : X) → Contains xs x → Contains ys y → R x y) → AllPairs R (xs ++ ys)
    pairs-append [] ys h k f = k
    pairs-append (x ∷ xs) ys h k f =
        pairs_more x (xs ++ ys)
        (λ y i. ⊎_elim (λ a. pairs_first x xs h y a) (λ b. f x y (has_here x xs) b) (Contains-append_cases xs ys y i))
        (pairs-append xs ys (pairs_rest x xs h) k (λ z y i j. f z y (has_there x z xs i) j))

    -- two elements are the same, or one stands before the other
    pub pairs_cases : (xs : List X) (x y : X) → AllPairs R xs → Contains xs x → Contains xs y → (x ≡ y) ⊎ (R x y ⊎ R y x)
    pairs_cases xs x y h i j = go (cases_order i.0 j.0)
      where
        go : (i.0 ≡ j.0) ⊎ ((i.0 < j.0) ⊎ (j.0 < i.0)) → (x ≡ y) ⊎ (R x y ⊎ R y x)
        go (inl e) = inl (sym i.2 ∙ ap (λ k. get_or xs k x) e ∙ read_at xs y x j)
        go (inr (inl l)) = inr (inl (subst₂ R i.2 (read_at xs y x j) (h i.0 j.0 x l j.1)))
        go (inr (inr l)) = inr (inr (subst₂ R (read_at xs y x j) i.2 (h j.0 i.0 x l i.1)))

-- the library says what is read from a mapped list, and not who stands in it
pub has_map : {X Y : Type 0} (f : Y → X) (ys : List Y) (y : Y) → Contains ys y → Contains (map f ys) (f y)
has_map f ys y h =
    (h.0, omega (arith, h.1, length-map ys f), get_or-map f ys h.0 y (f y) h.1 ∙ ap f h.2)

pub has_unmap : {X Y : Type 0} (f : Y → X) (ys : List Y) (x : X) → Contains (map f ys) x → (y : Y) × Contains ys y × (f y ≡ x)
has_unmap f [] x h = absurd (omega (arith, h.1))
has_unmap f (y ∷ ys) x h =
    ⊎_elim
    (λ e. (y, has_here y ys, e))
    (λ t. let r = has_unmap f ys x t in (r.0, has_there y r.0 ys r.1, r.2))
    (has_cases (f y) x (map f ys) h)
