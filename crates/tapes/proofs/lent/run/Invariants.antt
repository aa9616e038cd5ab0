-- `run` meets its contract. The loop's invariant: what the chunks have left is the block after the records passed; the place is that after these, and their text stands in the area from the first place to the one at hand, at most 161 characters each. Assumes nothing.
use Rattle.std.proofs.Common.{◌≡◌, ◌+◌, ◌*◌, ◌≤◌, length, drop}
use Rattle.std.specs.Slice.Iter.{chunks_rest, chunks_size}
use Rattle.records.specs.Records.{record_length, records_in}
use Rattle.events.specs.Tape.{after}
use Rattle.events.specs.Values.{tape_in}
use Rattle.pages.specs.Values.{PutPagedAt}
use Rattle.tapes.specs.Printed.{print_events}
use Rattle.tapes.proofs.lent.run.Given as goal

abbrev pub invariant-loop-record : goal.invariant-loop-record
invariant-loop-record l =
    let i = length l.yielded in
    let o = after (tape_in l.initial.state l.initial.memory l.initial.arrivals l.initial.pending) l.initial.number l.block i in record {
      size : chunks_size l.record-iterator ≡ record_length;
      rest : chunks_rest l.record-iterator ≡ drop (record_length * i) l.block;
      passed : i ≤ records_in l.block;
      number : l.number ≡ l.initial.number + i;
      room : l.place ≤ l.at + 161 * i;
      area : length l.lines ≡ length l.initial.lines;
      tape : tape_in l.state l.memory l.arrivals l.pending ≡ o.tape;
      text : PutPagedAt (print_events l.style l.initial.page o.events) l.page l.at l.initial.lines l.lines l.place;
    }
