-- The steps of a table: what one more changes, and which of them is reached. Assumes nothing.
use Rattle.std.proofs.Common.{◌≡◌, ℕ, Bool, suc, ◌+◌, ◌-◌, ◌<◌, ◌≤◌, min, leb, List, [], ◌∷◌, ◌++◌, length, reverse, get_or, take, set, Some, None, Ok, Option, Result, sym, refl, ap, ◌∙◌, subst, ⊎_elim, arith}
use Rattle.std.proofs.lemmas.List.{reverse-append, take_more_set}
use Rattle.std.proofs.lemmas.List.Elements.{All-nil, All-cons, All-push, All-from_get_or, All-contains, Contains-get_or, Contains-append_right}
use Rattle.std.proofs.lemmas.List.Folds.{find-append}
use Rattle.std.proofs.lemmas.List.Quantifiers.{all_pairs_push}
use Rattle.std.proofs.lemmas.Bool.{cases_lt, cond_both, leb-true, leb-false}
use Rattle.std.proofs.lemmas.Bool.Decides.{nat_tests}
use Rattle.std.specs.Option.{option_map, option_or}
use Rattle.std.specs.List.{All, AllPairs, find}
use Rattle.refusal.proofs.FirstCheck.{Answers-checked}
use Rattle.refusal.specs.Checks.{Answers, Rising}
use Rattle.refusal.specs.declared.Refusal.{Refusal}
use Rattle.links.specs.declared.steps.Step.{Step}
use Rattle.links.specs.declared.steps.StepTable.{StepTable}
use Rattle.links.specs.Meaning.{within_time}
use Rattle.links.specs.Steps.{kept, last_reached, table_delay, step_checks, step_answer, new_step, Made, Greatest}

abbrev Limited : Step → Type 0
Limited s = (s.amount ≤ 65535) × (s.delay ≤ 1000000)

abbrev Below : Step → Step → Type 0
Below s t = s.amount < t.amount

-- One step more.

abbrev last_of : List Step → Step
last_of xs = get_or xs (length xs - 1) (new_step 0 0)

-- The answer is that of the lowest number that is due.
pub step_lowest : (xs : List Step) (amount delay : ℕ) (r : Result (Unit {0}) Refusal) → r ≡ step_answer xs amount delay → Answers (step_checks xs amount delay) tt r
step_lowest xs amount delay r is =
    let rising : Rising (step_checks xs amount delay) = search arith in
    subst (Answers (step_checks xs amount delay) tt) (sym is) (Answers-checked (step_checks xs amount delay) tt rising)

-- What holds where a step is taken.
taken_size : (xs : List Step) (amount delay : ℕ) → Ok tt ≡ step_answer xs amount delay → amount ≤ 65535
taken_size xs amount delay ok = grind (arith, nat_tests)

taken_time : (xs : List Step) (amount delay : ℕ) → Ok tt ≡ step_answer xs amount delay → delay ≤ 1000000
taken_time xs amount delay ok = grind (arith, nat_tests)

taken_last : (xs : List Step) (amount delay : ℕ) → Ok tt ≡ step_answer xs amount delay → 0 < length xs → (last_of xs).amount < amount
taken_last xs amount delay ok some = grind (arith, nat_tests)

-- What is above the last amount is above them all.
all_under : (amount : ℕ) (xs : List Step) → AllPairs Below xs → (0 < length xs → (last_of xs).amount < amount) → All (λ t. t.amount < amount) xs
all_under amount xs rising last =
    All-from_get_or (λ t. t.amount < amount) xs (new_step 0 0) (λ i within. ⊎_elim
    (λ (before : i < length xs - 1). omega (arith, rising i (length xs - 1) (new_step 0 0) before (omega arith), last (omega arith)))
    (λ (end : length xs - 1 ≤ i).
    let at : i ≡ length xs - 1 = omega arith in
    omega (arith, last (omega arith), ap (λ k. (get_or xs k (new_step 0 0)).amount) at))
    (cases_lt i (length xs - 1)))

pub Made-push : (xs : List Step) (amount delay : ℕ) → Ok tt ≡ step_answer xs amount delay → Made xs → Made (xs ++ (new_step amount delay ∷ []))
Made-push xs amount delay ok (limited, rising) =
    let s = new_step amount delay in
    let under = all_under amount xs rising (taken_last xs amount delay ok) in
    (All-push Limited xs s limited (taken_size xs amount delay ok, taken_time xs amount delay ok), all_pairs_push Below xs s rising under)

-- A step written behind the kept ones is kept.
pub kept_more : (steps : List Step) (count : ℕ) (s : Step) → count < 16 → count < length steps → take (min (count + 1) 16) (set steps count s) ≡ take (min count 16) steps ++ (s ∷ [])
kept_more steps count s room within =
    let more : min (count + 1) 16 ≡ count + 1 = omega arith in
    let all : min count 16 ≡ count = omega arith in
    rw (more, all) (take_more_set steps count s within)

pub kept_made : (table : StepTable) (amount delay : ℕ) → Ok tt ≡ step_answer (kept table) amount delay → table.count < 16 → table.count < length table.steps → Made (kept table) → Made (kept record { steps = set table.steps table.count (new_step amount delay); count = table.count + 1 })
kept_made table amount delay ok room within made =
    subst Made (sym (kept_more table.steps table.count (new_step amount delay) room within)) (Made-push (kept table) amount delay ok made)

-- The step that is reached.

map_or : (o p : Option Step) → option_map (λ s. s.delay) (option_or o p) ≡ option_or (option_map (λ s. s.delay) o) (option_map (λ s. s.delay) p)
map_or None p = refl
map_or (Some s) p = refl

-- Only where no later step is reached is the first one.
reached-cons : (words : ℕ) (s : Step) (rest : List Step) → last_reached words (s ∷ rest) ≡ option_or (last_reached words rest) (last_reached words (s ∷ []))
reached-cons words s rest =
    let reach : Step → Bool = λ t. leb t.amount words in
    let turned : reverse (s ∷ rest) ≡ reverse rest ++ (s ∷ []) = reverse-append (s ∷ []) rest in
    ap (λ l. option_map (λ t. t.delay) (find reach l)) turned ∙ ap (option_map (λ t. t.delay)) (find-append reach (reverse rest) (s ∷ [])) ∙ map_or (find reach (reverse rest)) (find reach (s ∷ []))

-- Where amounts rise, the last step reached is the one with the greatest amount.
greatest : (words : ℕ) (xs : List Step) → AllPairs Below xs → Greatest words xs (last_reached words xs)
greatest words [] rising = All-nil (λ t. words < t.amount)
greatest words (s ∷ rest) rising = subst (Greatest words (s ∷ rest)) (sym (reached-cons words s rest)) (with_first (last_reached words rest) (greatest words rest tail))
  where
    tail : AllPairs Below rest
    tail i j d before within = rising (suc i) (suc j) d (omega arith) (omega arith)

    above : All (Below s) rest
    above k d within = rising 0 (suc k) d (omega arith) (omega arith)

    Under : Step → Step → Type 0
    Under t other = other.amount ≤ words → other.amount ≤ t.amount

    with_first : (o : Option ℕ) → Greatest words rest o → Greatest words (s ∷ rest) (option_or o (last_reached words (s ∷ [])))
    with_first None past =
        cond_both (leb s.amount words) (Some s) None (λ o. Greatest words (s ∷ rest) (option_map (λ t. t.delay) o))
        (λ e. (s, (Contains-get_or (s ∷ rest) 0 s (omega arith), refl, leb-true s.amount words e, All-cons (Under s) s rest (λ _. omega arith) (λ k d within upto. absurd (omega (arith, past k d within))))))
        (λ e. All-cons (λ t. words < t.amount) s rest (leb-false s.amount words e) past)
    with_first (Some d) (t, (has, is, upto, most)) =
        let first : Under t s = λ _. omega (arith, All-contains (Below s) rest t above has) in
        (t, (Contains-append_right (s ∷ []) rest t has, is, upto, All-cons (Under t) s rest first most))

timely : (words : ℕ) (xs : List Step) (o : Option ℕ) → All Limited xs → Greatest words xs o → within_time o ≡ o
timely words xs None limited past = refl
timely words xs (Some d) limited (t, (has, is, _, _)) =
    let small : d ≤ 1000000 = omega (arith, is, (All-contains Limited xs t limited has).1) in
    grind (arith, nat_tests)

pub table_greatest : (table : StepTable) (words : ℕ) (r : Option ℕ) → r ≡ table_delay table words → Made (kept table) → words ≤ 65535 → Greatest words (kept table) r
table_greatest table words r is (limited, rising) size =
    let most = greatest words (kept table) rising in
    let same : table_delay table words ≡ last_reached words (kept table) = grind (arith, nat_tests, timely words (kept table) (last_reached words (kept table)) limited most) in
    subst (Greatest words (kept table)) (sym (is ∙ same)) most
