-- The links so far have answered, and no link has another meaning.
use Rattle.std.proofs.Common.{◌≡◌, length, map, take}
use Rattle.delays.specs.Report.{delays_by}
use Rattle.delays.proofs.report.ask_each.Given as goal

abbrev pub invariant-loop-i : goal.invariant-loop-i
invariant-loop-i g l = record {
  size : length l.delays ≡ g.row.N;
  same : map g.L.Link.meaning l.links ≡ map g.L.Link.meaning l.fn.links;
  told : take l.i l.delays ≡ take l.i (delays_by (map g.L.Link.meaning l.fn.links) l.words);
}
