-- The places hold the blank, so they are a tree of blanks.
use Rattle.std.proofs.Common.{◌≡◌, length, take, replicate, ap, ◌∙◌, rules}
use Rattle.segment_tree.proofs.Blanks.{all_blank}
use Rattle.segment_tree.proofs.tree.blank_places.Goals as goal

pub returns : goal.returns
returns g c =
    let kind = g.K.Record.kind in
    let laws = g.met.K.Record in
    let old = c.args.places.now in
    let filled : c.fill.new.rows ≡ replicate (length (take 512 old)) c.to_row.result = search rules in
    all_blank kind old c.to_row.result c.fill.new.rows laws.kept laws.left c.requires.room (c.to_row.ensures ∙ ap kind.written c.blank.ensures) filled
