-- The claims are proved, each by the constant of the crate that it belongs to. Assumes nothing.
use Rattle.rules.proofs.Theorem as Rules
use Rattle.cases.proofs.Table as Table
use Rattle.cases.proofs.Runs as Runs
use Rattle.any_state.proofs.Entries as Entries
use Rattle.any_state.proofs.Leaving as Leaving
use Rattle.any_state.proofs.SoundKept as Sound
use Rattle.wrong.proofs.Refuted as Refuted
use Rattle.wrong.proofs.Fixed as Fixed
use Rattle.wrong.proofs.Engines as Engines
use Rattle.queues.proofs.QueuesAgree as Queues
use Rattle.queues.proofs.BenchUnaltered as Bench
use Rattle.clock.proofs.Cases as Figure
use Rattle.choose.proofs.Lines as Lines
use Rattle.display.proofs.Shown as Display
use Rattle.pages.proofs.AsTicksCome as AsTicksCome
use Rattle.tapes.proofs.Blocks as Reads
use Rattle.readback.proofs.TapePrinted as Tape
use Rattle.readback.proofs.OnlyPrinter as Only
use Rattle.readback.proofs.Example as Example
use Rattle.readback.proofs.PagesPrinted as Pages
use Rattle.claims.specs.Claims.{Claims}

pub claims : Claims
claims = record {
  demand_3 = Rules.demand3;
  refusals_and_faults = Entries.entries;
  what_a_call_leaves = Leaving.calls_leave;
  layout = Rules.layout;
  sound_kept = Sound.sound_kept;
  agreement_from_any_sound_state = Sound.agrees_from_sound;
  cases = Table.cases;
  runs = Runs.runs;
  display = Display.display-shown;
  exactly_one_case = Figure.exactly-one;
  lines_of_the_figure = Lines.candidates-are-lines;
  wrong_routers_shut_out = Refuted.shut_out;
  ours_of_its_parts = Refuted.own_parts;
  replies_as_ours = Refuted.replies_as_ours;
  numbers_fixed = Fixed.numbers_fixed;
  queues_agree = Queues.queues_agree;
  engine_unaltered = Bench.bench-unaltered;
  engine_keeps_its_queues = Engines.engines-shut-out;
  tape = Tape.tape-printed;
  only_tape = Only.only-printer;
  tape_example = Example.example-printed;
  pages = Pages.pages-printed;
  pages_as_ticks_come = AsTicksCome.pages_as_ticks_come;
  reads_print_the_tape = Reads.reads_print_the_tape;
  no_byte_lost = Reads.no_byte_lost;
}
