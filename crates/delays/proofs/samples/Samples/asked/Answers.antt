-- The sum that is capped at each link is the sum capped once.
use Rattle.std.proofs.Common.{◌≡◌, ℕ, ◌+◌, ◌-◌, ◌^◌, ◌≤◌, min, List, [], ◌∷◌, map, sum, rules, arith}
use Rattle.std.proofs.lemmas.Grind.{common_steps}
use Rattle.std.proofs.iter.runs.Made.{chains}
use Rattle.std.specs.List.{fold}
use Rattle.delays.proofs.samples.Samples.asked.Goals as goal

capped : (most a : ℕ) (xs : List ℕ) → a ≤ most → fold (λ sum x. min (sum + x) most) a xs ≡ min (a + sum xs) most
capped most a [] small = grind arith
capped most a (x ∷ xs) small = let rest = capped most (min (a + x) most) xs (omega arith) in grind (arith, common_steps)

pub returns : goal.returns
returns c =
    let counts = map (λ link. link.asked) c.args.self.now.links in
    let folded : c.fold.result ≡ fold (λ sum x. min (sum + x) (2 ^ 64 - 1)) 0 counts = search (rules, chains) in
    grind (arith, folded, capped (2 ^ 64 - 1) 0 counts)
