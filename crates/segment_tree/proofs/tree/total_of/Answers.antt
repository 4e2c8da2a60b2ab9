-- The root of a sound tree is the join of its leaves.
use Rattle.std.proofs.Common.{◌≡◌, ◌∙◌, rules}
use Rattle.std.proofs.lemmas.List.{get_or_default}
use Rattle.segment_tree.specs.Tree.{record_at}
use Rattle.segment_tree.proofs.Levels.{root_is_total}
use Rattle.segment_tree.proofs.tree.total_of.Goals as goal

pub returns : goal.returns
returns g c =
    let kind = g.K.Record.kind in
    let laws = g.met.K.Record in
    let rows = c.args.places.now in
    let root : c.from_row.result ≡ record_at kind rows 1 = search (rules, get_or_default) in
    record {
      root = root;
      total = λ sound. root ∙ root_is_total kind laws.right laws.associative laws.kept rows c.requires.room sound;
    }
