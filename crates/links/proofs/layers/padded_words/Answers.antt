-- The library's next multiple is the least.
use Rattle.std.proofs.Common.{rules}
use Rattle.links.proofs.LeastMultiples.{least_padded}
use Rattle.links.proofs.layers.padded_words.Goals as goal

pub returns-clause-least : goal.returns-clause-least
returns-clause-least c = least_padded c.args.size c.args.words c.next_multiple_of.result (search rules)
