-- The link at i has answered, and means what it did.
use Rattle.std.proofs.Common.{rules, arith, map, ◌∙◌}
use Rattle.std.proofs.Math.Seq.{map-set_same}
use Rattle.std.proofs.lemmas.List.{get_or-map}
use Rattle.std.proofs.lemmas.Grind.{common_steps}
use Rattle.delays.specs.declared.report.Delay.{Delay}
use Rattle.delays.proofs.report.ask_each.Goals as goal

pub loop-i-preserved : goal.loop-i-preserved
loop-i-preserved g c =
    let m = g.L.Link.meaning in
    let link = c.index-links-i.result in
    let same = map-set_same m c.loop-i.links c.loop-i.i _ _ c.ask.ensures.same ∙ c.loop-i.invariant.same in
    let delay : Delay = record { ticks = m link c.args.words } in
    record {
      size = search rules;
      same = same;
      told = grind (arith, common_steps, same, get_or-map m c.loop-i.links c.loop-i.i link (m link), get_or-map {Y = Delay} (λ f. record { ticks = f c.args.words }) (map m c.loop-i.links) c.loop-i.i (m link) delay);
    }
