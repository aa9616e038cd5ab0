-- `turn` meets its contract: the read leaves what was held at the block's start, what is held after it is the block's end, and the text is that of `take_records`.
use Rattle.std.proofs.Common.{ℕ, ◌+◌, ◌-◌, ◌≤◌, ◌≡◌, Bool, List, ◌++◌, length, take, drop, is_none, unwrap_or, sym, ap, ◌∙◌, arith}
use Rattle.std.proofs.Math.Seq.{take-add}
use Rattle.std.proofs.lemmas.List.{length-take-le, take-take, drop-take}
use Rattle.tapes.specs.declared.printing.Style.{Style}
use Rattle.tapes.specs.Blocks.{Place, Turned, turned, with_end, to_take, Turn, turn}
use Rattle.tapes.specs.Values.{place_of}
use Rattle.program.specs.Turns.{brought}
use Rattle.program.proofs.Printer.turn.Goals as goal

-- Where f bytes of a block are those held and those read, and t of them are taken, the turn is that over the bytes held and read.
as-turn : (style : Style) (ended : Bool) (p q : Place) (held read block rest l : List ℕ) (t f : ℕ)
    → take f block ≡ held ++ read → f ≤ length block → t ≤ f → t ≡ to_take ended f → rest ≡ drop t (take f block) → ◌≡◌ {A = Turned} (record { place = q; text = l }) (with_end style ended (turned style p (take t block)))
    → ◌≡◌ {A = Turn} (record { left = record { place = q; held = rest }; text = l }) (turn style ended (record { place = p; held = held }) read)
unfolding turn
as-turn style ended p q held read block rest l t f joined fits part taken kept printed =
    let many : length (held ++ read) ≡ f = ap length (sym joined) ∙ length-take-le f block fits in
    rw (many, ← taken, ← joined, ← kept, take-take t f block part)
    (ap (λ (o : Turned). record { left = record { place = o.place; held = rest }; text = o.text }) printed)

-- The bytes held, and those read after them.
joined : (held block : List ℕ) (k : ℕ) → take (length held) block ≡ held → take (length held + k) block ≡ held ++ take k (drop (length held) block)
joined held block k e = rw (take-add (length held) k block, e)

-- What is left of the first f after t.
rest-of : (block : List ℕ) (t f : ℕ) → t ≤ f → take (f - t) (drop t block) ≡ drop t (take f block)
rest-of block t f part =
    let sum : t + (f - t) ≡ f = omega arith in
    sym (drop-take t (f - t) block) ∙ ap (λ (k : ℕ). drop t (take k block)) sum

pub returns-clause-block_after : goal.returns-clause-block_after
returns-clause-block_after g c =
    let front : take (length c.args.self.now.held.items) c.take_records.new.self.block ≡ c.args.self.now.held.items = cc in
    joined c.args.self.now.held.items c.take_records.new.self.block (unwrap_or c.in_ok-read.read 0) front

pub returns-clause-turned : goal.returns-clause-turned
returns-clause-turned g c =
    let held = c.args.self.now.held.items in
    let r = c.in_ok-read.read in
    let took = c.take_records.new.self in
    let many : length held + unwrap_or r 0 ≤ length took.block = omega (arith, c.in_ok-read.ensures.fits, ap length c.take_records.ensures.others_kept.2, ap length c.deref.ensures.0) in
    let front : take (length held) took.block ≡ held = cc in
    let taken : c.to_take-taken.result ≡ to_take (is_none r) (length held + unwrap_or r 0) = cc in
    let filled : c.len.result + c.unwrap_or.result ≡ length held + unwrap_or r 0 = cc in
    let after : c.hold-self.result.items ≡ take (c.len.result + c.unwrap_or.result - c.to_take-taken.result) (drop c.to_take-taken.result took.block) = cc in
    let rest : c.hold-self.result.items ≡ drop c.to_take-taken.result (take (length held + unwrap_or r 0) took.block) =
    after ∙ rest-of took.block c.to_take-taken.result (c.len.result + c.unwrap_or.result) (omega arith) ∙ ap (λ (k : ℕ). drop c.to_take-taken.result (take k took.block)) filled in
    let text : ◌≡◌ {A = Turned} (record { place = place_of took.place; text = took.lines.items }) (with_end c.args.self.now.style (is_none r) (turned c.args.self.now.style (place_of c.args.self.now.place) (take c.to_take-taken.result took.block))) = cc in
    as-turn c.args.self.now.style (is_none r) _ _ held (brought held r took.block) took.block _ _ c.to_take-taken.result (length held + unwrap_or r 0) (joined held took.block (unwrap_or r 0) front) many (omega arith) taken rest text
