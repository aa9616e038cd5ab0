-- What is seen of a row at the router over bytes, in terms of the router that never turns over: store and places are related once the arrivals are stored, and at the tick's end. Assumes nothing.
use Prim.Native.Nat.{ℕ, zero, suc, ◌<◌}
use mathlib.Core.Path.{◌≡◌, refl, ◌∙◌}
use mathlib.Core.Bool.{Bool, true, cond, ◌&&◌}
use mathlib.Core.List.{List, [], ◌∷◌, ◌++◌, map}
use mathlib.Core.Option.{Option, none, some}
use native.Mathlib.Omega.{arith}
use lib.Dec.{ltb, eqb}
use lib.IntN.{pos}
use lib.Signed.{lt_z}
use borrow.Author.Tests.{ltb-true, eqb-true}
use Rattle.rules.specs.Clock.{cut, minus, offset}
use Rattle.rules.specs.Areas.{Store, bits, packet, has}
use Rattle.rules.specs.Board.{Mask, clock, board8}
use Rattle.rules.specs.Tick as Bytes
use Rattle.rules.specs.Whole.{Router, Held, packet_bytes}
use Rattle.rules.specs.Calls.{refusal, whole_step}
use Rattle.rules.specs.Given.{Proper}
use Rattle.rules.specs.Demand3.{byte_step}
use Rattle.rules.proofs.Booleans.{and_left, and_right, cons-first, cons-rest}
use Rattle.rules.proofs.Masks.{has-zero}
use Rattle.rules.proofs.Relation.{SlotShows, Rel}
use Rattle.rules.proofs.Board8Laws.{lawful8}
use Rattle.rules.proofs.Agreement.{Agree}
use Rattle.cases.specs.Shorthand.{nines, lent}
use Rattle.cases.specs.Rows.{Candidate, Seen, Row, expected_on_bytes, expected_on_whole, listed, before, outcome, arrived, same_bytes, fate_of, candidate_on_bytes, on_bytes, before_whole, arrived_whole, on_whole}
use Rattle.cases.specs.Table.{AllMeet}
use Rattle.cases.proofs.Proper.{is_proper, proper}
use Rattle.cases.proofs.Reached.{met, ended, arrived-related}

listed_same : (f g : ℕ → Option Candidate) (n : ℕ) → ((i : ℕ) → i < n → f i ≡ g i) → listed f n ≡ listed g n
unfolding listed
listed_same f g zero e = refl
listed_same f g (suc n) e = rw (listed_same f g n (λ i l. e i (omega arith)), e n (omega arith))

-- The packet in slot i by what the fields read: the clock t, and the slot's mask m, time v, deadline D and bytes k; m' is its mask after the tick, and `out` went out on port 0.
abbrev by-fields : ℕ → ℕ → List ℕ → ℕ → ℕ → ℕ → ℕ → List ℕ → Option Candidate
by-fields t i out m v D m' k =
    let o = offset (bits 1) v t in
    let e = lt_z (pos 0) o in
    cond (has m 0)
    (some (record {
      slot = i;
      bytes = k;
      key = record { early = e; key = pos (minus (bits 1) (cond e v D) t); second = cond e (pos (minus (bits 1) D t)) o };
      fate = fate_of (has m' 0) (same_bytes k out);
    })) none

-- The ports left at a place.
unfoldable pub ports-left : Option Held → ℕ
ports-left none = 0
ports-left (some x) = x.left

-- The same by what its place holds, before the ports are served and at the end.
unfoldable pub by-places : ℕ → ℕ → List ℕ → Option Held → Option Held → Option Candidate
by-places t i out none v = none
by-places t i out (some x) v = by-fields t i out x.left (cut (bits 1) x.packet.time) (cut (bits 1) x.packet.deadline) (ports-left v) (packet_bytes 1 x.packet)

unfoldable pub by-router : Row → Seen
by-router r =
    let o = whole_step 1 (before_whole r) (lent r.tick) in
    record {
      clock = pos (cut (bits 1) (before_whole r).clock);
      reply = o.reply;
      candidates = listed (λ i. by-places (cut (bits 1) (arrived_whole r).clock) i (packet o.reply.outgoing 0) ((arrived_whole r).place i) (o.after.place i)) 256;
    }

module _ (r : Row) (h : r.from < 256) (P : Proper 1 (pos r.from) (r.earlier ++ (lent r.tick ∷ []))) (e : refusal 1 (before_whole r) (lent r.tick) ≡ 0) where
  abbrev end : Router
  end = (whole_step 1 (before_whole r) (lent r.tick)).after

  -- What both routers do in the tick.
  done : Agree board8 lawful8 (before_whole r) (lent r.tick) (byte_step board8 (before r) (lent r.tick)) (whole_step 1 (before_whole r) (lent r.tick))
  unfolding before before_whole
  done = ended r.from h r.earlier r.tick (nines 100) (nines 20) P

  -- A slot's mask is what its place has left.
  mask-left : (s : Store) (i : ℕ) (v : Option Held) → SlotShows board8 lawful8 s i v → board8.get s.state (Mask, i) ≡ ports-left v
  unfolding ports-left
  mask-left s i none S = S
  mask-left s i (some x) S = S.left

  -- Field by field.
  slot_seen : (i : ℕ) → i < 256 → candidate_on_bytes r i ≡ by-places (cut (bits 1) (arrived_whole r).clock) i (packet (outcome r).reply.outgoing 0) ((arrived_whole r).place i) (end.place i)
  unfolding candidate_on_bytes before outcome arrived before_whole arrived_whole byte_step Bytes.slot_key by-places
  slot_seen i l = go ((arrived_whole r).place i) (R.place i l)
    where
      R : Rel board8 lawful8 (arrived r) (arrived_whole r)
      R = arrived-related r.from h r.earlier r.tick (nines 100) (nines 20) P e

      go : (v : Option Held) → SlotShows board8 lawful8 (arrived r) i v → candidate_on_bytes r i ≡ by-places (cut (bits 1) (arrived_whole r).clock) i (packet (outcome r).reply.outgoing 0) v (end.place i)
      go none H = rw (H, has-zero 0 (omega arith))
      go (some x) H = rw (R.settings.reads clock refl (omega arith), H.left, H.time, H.deadline, H.bytes, mask-left (outcome r).after i (end.place i) (done.rel.place i l))

  -- All that is seen.
  bytes-seen : on_bytes r ≡ by-router r
  unfolding on_bytes by-router before outcome before_whole byte_step
  bytes-seen = rw (listed_same (candidate_on_bytes r) _ 256 slot_seen, (met r.from h r.earlier r.tick (nines 100) (nines 20) P).rel.settings.reads clock refl (omega arith), done.reply)

-- ---- a table of rows, by tests computed over the whole of it

-- The rows start at clock readings, their calls are proper, and their ticks are accepted.
unfoldable pub runnable : List Row → Bool
runnable [] = true
runnable (r ∷ rs) = ltb r.from 256 && (is_proper 1 (pos r.from) (r.earlier ++ (lent r.tick ∷ [])) && (eqb (refusal 1 (before_whole r) (lent r.tick)) 0 && runnable rs))

-- Rows are met where the router that never turns over shows them: by what it does, and by what its times cut to a byte make of it.
pub all_meet : (rs : List Row) → runnable rs ≡ true → map by-router rs ≡ map expected_on_bytes rs → map on_whole rs ≡ map expected_on_whole rs → AllMeet rs
unfolding runnable AllMeet
all_meet [] e b w = tt
all_meet (r ∷ rs) e b w =
    let P = proper 1 (r.earlier ++ (lent r.tick ∷ [])) (pos r.from) (search (and_left, and_right)) in
    let seen = bytes-seen r (search (ltb-true, and_left)) P (search (eqb-true, and_left, and_right)) in
    (record { bytes = seen ∙ cons-first b; whole = cons-first w; proper = P }, all_meet rs (search and_right) (cons-rest b) (cons-rest w))
