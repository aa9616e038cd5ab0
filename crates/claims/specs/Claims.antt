-- Every claim of the project, by name, with the demand of the letter, the section of document 01 or the request of document 02 that it answers. A promise of one function stands at that function, as an equation with a definition; what is claimed of all of them, of lists of calls and of whole tapes is here.
-- Each is proved, in proofs/Claims. Assumes nothing.
use Rattle.std.specs.Prelude.{ℕ}
use Rattle.rules.specs.Board.{board8, LaidOut8}
use Rattle.rules.specs.Demand3.{Demand3}
use Rattle.cases.specs.Table.{Cases}
use Rattle.cases.specs.Runs.{Runs}
use Rattle.any_state.specs.Entries.{EntryLaws}
use Rattle.any_state.specs.SoundKept.{SoundKept}
use Rattle.any_state.specs.AnySound.{AgreesFromSound, Leaves}
use Rattle.wrong.specs.ShutOut.{OwnParts, RepliesAsOurs, NumbersFixed, ShutOut}
use Rattle.wrong.specs.Engines.{EnginesShutOut}
use Rattle.queues.specs.QueuesAgree.{QueuesAgree}
use Rattle.queues.specs.BenchUnaltered.{BenchUnaltered}
use Rattle.clock.specs.Cases.{ExactlyOne}
use Rattle.choose.specs.Lines.{CandidatesAreLines}
use Rattle.display.specs.Display.{DisplayShown}
use Rattle.pages.specs.Claims.{PagesAsTicksCome}
use Rattle.tapes.specs.declared.printing.Style.TheVariants.{Lines, Pages}
use Rattle.tapes.specs.Printed.{printed}
use Rattle.tapes.specs.Blocks.{ReadsPrintTheTape, NoByteLost}
use Rattle.readback.specs.TapePrinted.{TapePrinted, OnlyPrinter}
use Rattle.readback.specs.Example.{PrintsTheExample}
use Rattle.readback.specs.PagesPrinted.{PagesPrinted}

pub record Claims : Type 0 where
  -- ---- the router

  -- Demand 3: over any list of calls from a fresh router, numbers, answers and outgoing bytes are those of a router whose clock never turns over, every accepted packet has on each port exactly one fate, and no slot is lost.
  pub demand_3 : Demand3
  -- Demand 1 and request [2]: each entry's number on any bytes, the part of the state that is at fault and the lowest bad slot; a refused call alters nothing.
  pub refusals_and_faults : EntryLaws board8
  -- Demand 2, "every byte of state after": what an accepted control write or tick leaves as it was, field by field.
  pub what_a_call_leaves : Leaves board8
  -- Document 01, "Bytes and areas": the state's fields and the fresh state, in its numbers.
  pub layout : LaidOut8
  -- Document 01, "Is the state sound?", and demand 3, "No slot is lost": a fresh router is sound, and so is whatever calls leave of any sound state.
  pub sound_kept : SoundKept board8
  -- Demand 3's agreement from any sound state, whatever made it so.
  pub agreement_from_any_sound_state : AgreesFromSound board8
  -- Document 01, "Cases (P: proved)", with the ties of request [4]; and two runs in full, across a turn of the clock and below zero.
  pub cases : Cases
  pub runs : Runs
  -- Document 01, "The display software gets the 18 data bytes of one port".
  pub display : DisplayShown
  -- Request [5]: of each time at each clock reading exactly one case of Fig. 7 holds, for a clock of b bits; and what the comparator gets of a slot is its line of the figure, or nothing where it is ineligible.
  pub exactly_one_case : (b : ℕ) → ExactlyOne b
  pub lines_of_the_figure : CandidatesAreLines
  -- ---- wrong routers

  -- Document 01, "What these promises must hold fast", 2, and "Wrong routers that look sound": demand 3 fails of each of them, and of others that agree in being wrong. Each is ours but for one part.
  pub wrong_routers_shut_out : ShutOut
  pub ours_of_its_parts : OwnParts
  -- Whoever meets demand 3 beside our router of whole numbers replies as our router over bytes does; and whoever meets the entries' laws gives our numbers.
  pub replies_as_ours : RepliesAsOurs
  pub numbers_fixed : NumbersFixed
  -- ---- the queue engine

  -- Request [1]: from queues filled from any sound state, over any list of calls, the engine is the comparator, every queue holds its port's slots in order, and a port sends a queue's first.
  pub queues_agree : QueuesAgree
  -- Demand 1, of the engine's entries: a refused call alters nothing.
  pub engine_unaltered : BenchUnaltered board8
  -- Request [1], "kept over the calls after it": a tick goes by the queues lent to it; engines that fill them anew or ask the comparator are shut out.
  pub engine_keeps_its_queues : EnginesShutOut
  -- ---- the tape and the page

  -- Document 01, "Tape program": what `tape` prints, from the bytes of the input; nothing else that prints meets this; and the worked example.
  pub tape : TapePrinted (printed Lines)
  pub only_tape : OnlyPrinter (printed Lines)
  pub tape_example : PrintsTheExample (printed Lines)
  -- Request [3]: what `page` prints are pages of the T lines that `tape` prints of the same input, each once, with what they say was withdrawn; and text that goes out as the ticks come makes these pages.
  pub pages : PagesPrinted (printed Lines) (printed Pages)
  pub pages_as_ticks_come : PagesAsTicksCome
  -- However reads cut the input, both programs' loop prints what is printed of it as a whole; and a loop that meets its contract loses no byte that it held.
  pub reads_print_the_tape : ReadsPrintTheTape
  pub no_byte_lost : NoByteLost
