-- `run` meets its contract (see Invariants). Assumes nothing.
use Rattle.std.proofs.Common.{◌≡◌, ◌+◌, ◌*◌, [], ◌∷◌, length, take, drop, refl, sym, ap, ◌∙◌, arith, rules, length-append, length-drop, drop-drop, add-zero}
use Rattle.std.specs.Slice.Iter.{chunks_rest}
use Rattle.records.specs.Records.{record_length, records_in, record_at}
use Rattle.events.specs.Tape.{after}
use Rattle.pages.specs.Printing.{in_order}
use Rattle.tapes.specs.Blocks.{turned}
use Rattle.tapes.proofs.Chunks.{chunk-first, chunk-leaves}
use Rattle.tapes.proofs.Texts.{tape-then, lent-then}
use Rattle.tapes.proofs.lent.run.Goals as goal

pub loop-record-init : goal.loop-record-init
unfolding after in_order
loop-record-init c = record {
  size = search rules;
  rest = search rules;
  passed = search rules;
  number = search rules;
  room = search rules;
  area = search rules;
  tape = refl;
  text = record { page = refl; text = record { stored = refl; ends = sym (add-zero _) } };
}

pub loop-record-preserved : goal.loop-record-preserved
loop-record-preserved c =
    let loop = c.loop-record.invariant in
    let i = length c.loop-record.yielded in
    let steps = c.in-Some.ensures.steps in
    let size = rw loop.size at steps.1.1 in
    let same : c.in-Some.record.now ≡ record_at c.args.block.now i = chunk-first _ _ (chunks_rest c.next.new.self) record_length steps.1.0 size ∙ ap (take record_length) loop.rest in
    let leaves = chunk-leaves _ c.in-Some.record.now (chunks_rest c.next.new.self) record_length steps.1.0 size ∙ ap (drop record_length) loop.rest in
    let left = ap length loop.rest ∙ length-drop (record_length * i) c.args.block.now in
    let number : c.loop-record.number + 1 ≡ c.args.number.now + i + 1 = omega (arith, loop.number) in
    rw (length-append c.loop-record.yielded (c.in-Some.record ∷ [])) (record {
      size = steps.0 ∙ loop.size;
      rest = leaves ∙ drop-drop record_length (record_length * i) c.args.block.now ∙ ap (λ n. drop n c.args.block.now) (omega arith);
      passed = omega (arith, left);
      number = omega (arith, loop.number);
      room = omega (arith, loop.room, c.step-place.ensures.upper_bound);
      area = search rules;
      tape = tape-then _ _ _ i _ loop.tape _ _ number same _ c.step-place.ensures.tape_after;
      text = lent-then _ _ _ i _ loop.tape _ _ number same _ _ _ _ loop.text c.step-place.ensures.put_paged;
    })

pub returns-clause-place_after : goal.returns-clause-place_after
unfolding turned
returns-clause-place_after c =
    let loop = c.loop-record.invariant in
    let left = ap length loop.rest ∙ length-drop (record_length * length c.loop-record.yielded) c.args.block.now in
    let all : length c.loop-record.yielded ≡ records_in c.args.block.now = omega (arith, left, loop.passed, c.in-None.ensures.steps) in
    rw (← all, loop.tape, loop.number, loop.text.page)

pub returns-clause-put : goal.returns-clause-put
unfolding turned
returns-clause-put c =
    let loop = c.loop-record.invariant in
    let left = ap length loop.rest ∙ length-drop (record_length * length c.loop-record.yielded) c.args.block.now in
    let all : length c.loop-record.yielded ≡ records_in c.args.block.now = omega (arith, left, loop.passed, c.in-None.ensures.steps) in
    rw (← all) loop.text.text
