-- `run` meets its contract: before the first turn nothing has come in, and a turn more is a read more in what is reached; a read that failed brought no byte, and leaves all as it was.
use Rattle.std.proofs.Common.{ℕ, ◌+◌, ◌*◌, ◌/◌, ◌≤◌, ◌<◌, ◌≡◌, Bool, false, true≢false, not, [], ◌++◌, length, take, drop, is_none, unwrap_or, append-nil, add-zero, sym, ap, ◌∙◌, subst, arith, rules}
use Rattle.std.proofs.lemmas.List.{length-take, length-drop}
use Rattle.records.specs.Records.{record_length}
use Rattle.std.proofs.lemmas.Result.{err_from_is_err_and}
use Rattle.std.specs.declared.option.Option.{Option}
use Rattle.events.specs.Tape.{after}
use Rattle.pages.specs.Printing.{in_order}
use Rattle.tapes.specs.declared.printing.Style.{Style}
use Rattle.tapes.specs.Blocks.{turned, with_end, Between, to_take, Turn, turn}
use Rattle.tapes.proofs.Blocks.{Passed, passed_none, passed_on, reached_then}
use Rattle.program.specs.declared.Printer.{Printer}
use Rattle.program.specs.Turns.{brought, between_of, HasReached}
use Rattle.program.proofs.Streamed.{streamed_none, streamed_then, streamed_end}
use Rattle.program.proofs.Printer.run.Goals as goal

-- A turn that reads nothing, not at the input's end, leaves a part of a record held, and all as it was.
nothing-read : (style : Style) (b : Between) → length b.held < record_length → (turn style false b []).left ≡ b
unfolding turn with_end turned to_take after in_order
nothing-read style b part =
    let none : record_length * (length b.held / record_length) ≡ 0 = omega arith in
    rw (append-nil b.held, none, add-zero)

-- A turn more, whose read brought so many bytes.
module _ (style : Style) (before p : Printer) (passed : Passed style before.reads before.bytes (between_of before)) (sum : p.reads ≡ before.reads + 1) where
  reached-further : (r : Option ℕ) → take (length before.held.items + unwrap_or r 0) p.block ≡ before.held.items ++ brought before.held.items r p.block
      → ◌≡◌ {A = Turn} (record { left = between_of p; text = p.lines.items }) (turn style (is_none r) (between_of before) (brought before.held.items r p.block))
      → length before.held.items + unwrap_or r 0 ≤ length p.block → p.bytes ≡ before.bytes + unwrap_or r 0 → HasReached style (is_none r) p
  reached-further r joined e fits bytes =
      let filled = length before.held.items + unwrap_or r 0 in
      let read = brought before.held.items r p.block in
      let count : p.bytes ≡ before.bytes + length read = omega (arith, length-take (unwrap_or r 0) (drop (length before.held.items) p.block), length-drop (length before.held.items) p.block) in
      (filled, rw (sum, count) (reached_then passed (is_none r) read (take filled p.block) (between_of p) joined (ap (λ (o : Turn). o.left) e)))

  -- A read that failed.
  reached-again : length before.held.items < record_length → take (length before.held.items) p.block ≡ before.held.items → p.bytes ≡ before.bytes → between_of p ≡ between_of before → HasReached style false p
  reached-again part front bytes same =
      let none : p.bytes ≡ before.bytes + 0 = omega arith in
      (length before.held.items, rw (sum, none) (reached_then passed false [] (take (length before.held.items) p.block) (between_of p) (front ∙ sym (append-nil before.held.items)) (same ∙ sym (nothing-read style (between_of before) part))))

pub loop-init : goal.loop-init
loop-init g c =
    let r = c.requires in
    record {
      style = λ i. c.args.self.now.style;
      reads = r.0;
      block_per_read = (omega (arith, ap (λ (b : Between). b.place.number) r.2), omega arith);
      part = omega (arith, ap (λ (b : Between). length b.held) r.2);
      reached = λ some. absurd (omega arith);
      passed = rw (r.0, r.1) (passed_none c.args.self.now.style _ r.2);
      streamed = streamed_none c.args.self.now.style (g.I.Read.remaining c.args.input.now) (g.O.Write.contents c.args.output.now) _ r.2;
    }

pub returns-in_err-read-clause-stopped : goal.returns-in_err-read-clause-stopped
returns-in_err-read-clause-stopped g c =
    let a = c.in_err-read.ensures in
    let p = err_from_is_err_and c.from_residual.result c.from_residual.ensures.1 in
    rw (p.1)
    (false, (λ ended. absurd (true≢false (sym ended))), reached-again c.args.self.now.style c.loop.self c.turn.new.self c.loop.invariant.passed a.reads c.loop.invariant.part a.as_before.2 a.as_before.1 a.as_before.0)

pub returns-then-is_none-clause-printed : goal.returns-then-is_none-clause-printed
returns-then-is_none-clause-printed g c =
    let a = c.in_ok-read.ensures in
    let s = c.loop in
    let ended = c.if-is_none.ensures in
    let turned = rw (s.invariant.style) at a.turned in
    streamed_end s.invariant.streamed (is_none c.in_ok-read.read) (brought s.self.held.items c.in_ok-read.read c.turn.new.self.block) c.turn.new.self.lines.items (between_of c.turn.new.self)
    (g.I.Read.remaining c.turn.new.input) _ (ap not ended) turned a.consumed (a.at_end ended) (search rules)

pub loop-preserved : goal.loop-preserved
loop-preserved g c =
    let a = c.in_ok-read.ensures in
    let s = c.loop in
    let more = c.if-is_none.ensures in
    let turned = rw (s.invariant.style) at a.turned in
    let reached : HasReached c.args.self.now.style false c.turn.new.self =
    subst (λ (k : Bool). HasReached c.args.self.now.style k c.turn.new.self) (ap not more) (reached-further c.args.self.now.style s.self c.turn.new.self s.invariant.passed a.reads c.in_ok-read.read a.block_after turned a.fits a.bytes) in
    record {
      style = a.style ∙ s.invariant.style;
      reads = omega (arith, a.reads);
      block_per_read = a.block_per_read;
      part = a.part;
      reached = λ _. reached;
      passed = passed_on {block = take reached.0 c.turn.new.self.block} reached.1 (λ i. false);
      streamed = streamed_then s.invariant.streamed (is_none c.in_ok-read.read) (brought s.self.held.items c.in_ok-read.read c.turn.new.self.block) c.turn.new.self.lines.items (between_of c.turn.new.self)
          (g.I.Read.remaining c.turn.new.input) _ (ap not more) turned a.consumed (search rules);
    }
