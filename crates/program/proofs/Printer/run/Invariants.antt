-- `run`: what is left between turns is what the turns made so far leave, over as many reads and as many bytes as were counted, none of these at the input's end. What the reader gave and the writer got are these reads and their texts.
use Rattle.std.proofs.Common.{◌<◌, ◌≡◌, false}
use Rattle.tapes.proofs.Blocks.{Passed}
use Rattle.program.specs.Turns.{PartOfRecord, between_of, BlockPerRead, HasReached}
use Rattle.program.proofs.Streamed.{Streamed}
use Rattle.program.proofs.Printer.run.Given as goal

abbrev pub invariant-loop : goal.invariant-loop
invariant-loop g l = record {
  style : l.self.style ≡ l.fn.self.style;
  reads : l.self.reads ≡ l.counter;
  block_per_read : BlockPerRead l.self;
  part : PartOfRecord l.self.held;
  reached : 0 < l.counter → HasReached l.fn.self.style false l.self;
  passed : Passed l.fn.self.style l.self.reads l.self.bytes (between_of l.self);
  streamed : Streamed l.fn.self.style (g.I.Read.remaining l.fn.input) (g.I.Read.remaining l.input) (g.O.Write.contents l.fn.output) (g.O.Write.contents l.output) (between_of l.self);
}
