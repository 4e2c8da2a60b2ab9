-- The tree holds the same rows throughout, and its end blanks them.
use Rattle.std.proofs.Common.{◌++◌, replicate, sym, ap, ◌∙◌}
use Rattle.segment_tree.specs.RunSummaries.{no_run, run_written}
use Rattle.segment_tree.proofs.tests.end_of_two.Goals as goal

pub returns-in_err-second : goal.returns-in_err-second
returns-in_err-second c =
    let named = c.set.ensures.same ∙ c.over-tree.ensures.same in
    let rest = c.set.ensures.set.rest ∙ c.over-tree.ensures.blank.rest in
    c.rows-1.given.1.1 (sym named) ∙ c.drop-tree.ensures.rows ∙ ap (λ l. replicate 512 (run_written no_run) ++ l) rest

pub returns : goal.returns
returns c =
    let named = c.set-2.ensures.same ∙ c.set.ensures.same ∙ c.over-tree.ensures.same in
    let rest = c.set-2.ensures.set.rest ∙ c.set.ensures.set.rest ∙ c.over-tree.ensures.blank.rest in
    c.rows-2-1.given.1.1 (sym named) ∙ c.drop-tree-2.ensures.rows ∙ ap (λ l. replicate 512 (run_written no_run) ++ l) rest
