-- The cases marked P of document 01 ("Cases") and the ties of document 02, [4], in one table, and the claim about them. Assumes nothing.
use Rattle.std.specs.Prelude.{ℕ, ◌+◌, ◌<◌, ◌≡◌, true, false, replicate, ℤ, pos, neg_ℤ}
use mathlib.Core.List.{List, [], ◌∷◌, ◌++◌, Memᴰ}
use Rattle.rules.specs.Clock.{cut}
use Rattle.rules.specs.Order.{counted}
use Rattle.rules.specs.Areas.{Reply, bits, no_packet, has}
use Rattle.rules.specs.Board.{board8}
use Rattle.rules.specs.Questions.{fresh}
use Rattle.rules.specs.Whole.{Packet, start}
use Rattle.rules.specs.Calls.{Call, control}
use Rattle.rules.specs.Given.{Proper}
use Rattle.rules.specs.Account.{NotedTick, Accepted, is_sent, times, PacketAt}
use Rattle.rules.specs.Demand3.{our_bytes, our_whole, history}
use Rattle.cases.specs.Shorthand.{connect, packet_with, five, ticking, lent, ticked}
use Rattle.cases.specs.Rows.{Fate, sent, withdrawn, left, Candidate, Row, expected_on_bytes, expected_on_whole, on_bytes, on_whole}

-- ---- what is seen

-- The reply: port 0 has a code and sends the bytes k, the arrivals meet `met`, and n packets are withdrawn on port 0. The other ports are idle.
abbrev pub says : ℕ → List ℕ → List ℕ → ℕ → Reply
says code k met n = ticked (k ++ replicate 80 0) (code ∷ replicate 4 0 ++ met ++ (0 ∷ n ∷ replicate 8 0))

abbrev pub idle : List ℕ → Reply
idle met = says 0 no_packet met 0

abbrev pub sends_on_time : List ℕ → List ℕ → Reply
sends_on_time k met = says 1 k met 0

abbrev pub sends_early : List ℕ → List ℕ → Reply
sends_early k met = says 3 k met 0

-- What the arrivals meet: one alone, on port 0, is stored or refused by its number.
abbrev pub stored : List ℕ
stored = 1 ∷ replicate 4 0

abbrev pub refused : ℕ → List ℕ
refused q = q ∷ replicate 4 0

-- The packet k in a slot, its keys, and its fate: on time, deadline - t, and how many ticks ago its time was; early, time - t, and deadline - t.
abbrev pub is_on_time : ℕ → List ℕ → ℕ → ℕ → Fate → Candidate
is_on_time i k key ago f = record { slot = i; bytes = k; key = record { early = false; key = pos key; second = neg_ℤ (pos ago) }; fate = f }

abbrev pub is_early : ℕ → List ℕ → ℕ → ℕ → Fate → Candidate
is_early i k key due f = record { slot = i; bytes = k; key = record { early = true; key = pos key; second = pos due }; fate = f }

-- ---- one packet

-- Connection 5 has the delay d and goes out as 33 on port 0, whose horizon is h.
abbrev pub opened : ℕ → ℕ → List Call
opened d h = connect 5 33 d 1 (control 4 1 ∷ control 5 h ∷ [])

-- The packet as it goes out, under its deadline D.
abbrev pub as33 : ℕ → List ℕ
as33 D = packet_with 1 33 D

-- A packet of connection 5, whose true time is u and `time` the byte in its header, arrives on port 0 of a router fresh at t = 240.
pub record Arriving : Type 0 where
  pub d : ℕ
  pub horizon : ℕ
  pub time : ℕ
  pub u : ℤ

abbrev pub case : Arriving → Reply → List Candidate → Row
case a reply candidates = record {
  from = 240;
  earlier = opened a.d a.horizon;
  clock = pos 240;
  tick = ticking 1 0 (packet_with 1 5 a.time ++ replicate 80 0) (a.u ∷ []);
  reply = reply;
  candidates = candidates;
}

-- "time 80: early, key 96. Sent at horizon 96, not at 95."
unfoldable pub horizon96 : Row
horizon96 = case (record { d = 40; horizon = 96; time = 80; u = pos 336 }) (sends_early (as33 120) stored) (is_early 0 (as33 120) 96 136 sent ∷ [])

unfoldable pub horizon95 : Row
horizon95 = case (record { d = 40; horizon = 95; time = 80; u = pos 336 }) (idle stored) (is_early 0 (as33 120) 96 136 left ∷ [])

-- "time 210: on time, deadline 250, key 10."
unfoldable pub time210 : Row
time210 = case (record { d = 40; horizon = 0; time = 210; u = pos 210 }) (sends_on_time (as33 250) stored) (is_on_time 0 (as33 250) 10 30 sent ∷ [])

-- "time 200: accepted, key 0. time 199: 7."
unfoldable pub time200 : Row
time200 = case (record { d = 40; horizon = 0; time = 200; u = pos 200 }) (sends_on_time (as33 240) stored) (is_on_time 0 (as33 240) 0 40 sent ∷ [])

unfoldable pub time199 : Row
time199 = case (record { d = 40; horizon = 0; time = 199; u = pos 199 }) (idle (refused 7)) []

-- "time 111: early, key 127. time 112: 7, also at d = 127. time 113, d = 127: accepted, key 0."
unfoldable pub time111 : Row
time111 = case (record { d = 40; horizon = 0; time = 111; u = pos 367 }) (idle stored) (is_early 0 (as33 151) 127 167 left ∷ [])

unfoldable pub time112 : Row
time112 = case (record { d = 40; horizon = 0; time = 112; u = pos 112 }) (idle (refused 7)) []

unfoldable pub time112_d127 : Row
time112_d127 = case (record { d = 127; horizon = 0; time = 112; u = pos 112 }) (idle (refused 7)) []

unfoldable pub time113_d127 : Row
time113_d127 = case (record { d = 127; horizon = 0; time = 113; u = pos 113 }) (sends_on_time (as33 240) stored) (is_on_time 0 (as33 240) 0 127 sent ∷ [])

-- "time 240, d = 0: sent in this tick or withdrawn in it": sent.
unfoldable pub time240_sent : Row
time240_sent = case (record { d = 0; horizon = 0; time = 240; u = pos 240 }) (sends_on_time (as33 240) stored) (is_on_time 0 (as33 240) 0 0 sent ∷ [])

-- ---- two packets for port 0

-- Another packet of connection 5, with other data.
abbrev pub other33 : ℕ → List ℕ
other33 D = packet_with 101 33 D

-- And withdrawn: two such packets arrive, on ports 0 and 1; slot 0's is sent, and slot 1's withdrawn.
unfoldable pub time240_withdrawn : Row
time240_withdrawn = record {
  from = 240;
  earlier = opened 0 0;
  clock = pos 240;
  tick = ticking 3 0 (packet_with 1 5 240 ++ packet_with 101 5 240 ++ replicate 60 0) (pos 240 ∷ pos 240 ∷ []);
  reply = says 1 (as33 240) (1 ∷ 1 ∷ replicate 3 0) 1;
  candidates = is_on_time 0 (as33 240) 0 0 sent ∷ is_on_time 1 (other33 240) 0 0 withdrawn ∷ [];
}

-- ---- equal keys in slots 9 and 2

-- A packet: the delay of its connection, the byte in its header, and its true time.
pub record Timed : Type 0 where
  pub d : ℕ
  pub time : ℕ
  pub u : ℤ

-- Ten packets arrive, in the tick at `from` for slots 0 to 4, and in the row's tick, the next, for slots 5 to 9. Those of slots 2 and 9 are for port 0, of connections 7 (goes out as 35) and 5;
-- at `from` that of slot 2 is early, beyond the horizon. The others are of connection 6, early in both ticks, and for port 1, whose horizon is 0.
pub record Tied : Type 0 where
  pub from : ℕ
  pub horizon : ℕ
  pub slot2 : Timed
  pub slot9 : Timed

abbrev pub tie : Tied → Reply → List Candidate → Row
tie a reply candidates =
    let v = pos (a.from + 11) in
    let k = packet_with 1 6 (cut (bits 1) v) in
    let two = a.slot2 in
    let nine = a.slot9 in
    record {
      from = a.from;
      earlier = connect 6 34 40 2 (connect 7 35 two.d 1 (opened nine.d a.horizon)) ++ (lent (ticking 31 0 (five k k (packet_with 1 7 two.time) k k) (v ∷ v ∷ two.u ∷ v ∷ v ∷ [])) ∷ []);
      clock = pos (a.from + 1);
      tick = ticking 31 0 (five k k k k (packet_with 101 5 nine.time)) (v ∷ v ∷ v ∷ v ∷ nine.u ∷ []);
      reply = reply;
      candidates = candidates;
    }

-- The packet of slot 2 as it goes out.
abbrev pub as35 : ℕ → List ℕ
as35 D = packet_with 1 35 D

-- "equal keys in slots 9 and 2: slot 2", where both packets have one time and one deadline: on time, and early.
unfoldable pub tie_on_time : Row
tie_on_time =
    tie (record { from = 239; horizon = 0; slot2 = record { d = 10; time = 240; u = pos 240 }; slot9 = record { d = 10; time = 240; u = pos 240 } })
    (sends_on_time (as35 250) (replicate 5 1)) (is_on_time 2 (as35 250) 10 0 sent ∷ is_on_time 9 (other33 250) 10 0 left ∷ [])

unfoldable pub tie_early : Row
tie_early =
    tie (record { from = 239; horizon = 96; slot2 = record { d = 40; time = 80; u = pos 336 }; slot9 = record { d = 40; time = 80; u = pos 336 } })
    (sends_early (as35 120) (replicate 5 1)) (is_early 2 (as35 120) 96 136 sent ∷ is_early 9 (other33 120) 96 136 left ∷ [])

-- Among equal on-time keys the earlier time goes first (document 02, [4]): slot 9's, 30 ticks ago. The slot alone would choose slot 2, and so would the time's offset without sign, 226 and 0.
unfoldable pub time_decides : Row
time_decides =
    tie (record { from = 239; horizon = 0; slot2 = record { d = 10; time = 240; u = pos 240 }; slot9 = record { d = 40; time = 210; u = pos 210 } })
    (sends_on_time (other33 250) (replicate 5 1)) (is_on_time 2 (as35 250) 10 0 left ∷ is_on_time 9 (other33 250) 10 30 sent ∷ [])

-- The same after the clock's turn, at t = 0: the plain bytes, 246 in slot 9 and 0 in slot 2, would choose slot 2.
unfoldable pub time_decides_after_turn : Row
time_decides_after_turn =
    tie (record { from = 255; horizon = 0; slot2 = record { d = 10; time = 0; u = pos 256 }; slot9 = record { d = 20; time = 246; u = pos 246 } })
    (sends_on_time (other33 10) (replicate 5 1)) (is_on_time 2 (as35 10) 10 0 left ∷ is_on_time 9 (other33 10) 10 10 sent ∷ [])

-- Among equal early keys the earlier deadline goes first (document 02, [4]): slot 9's, at t + 106. The slot alone would choose slot 2, and so would the deadlines' offsets with sign:
-- slot 2's deadline is at t + 136, past t + 127, and its offset -120.
unfoldable pub deadline_decides_past_127 : Row
deadline_decides_past_127 =
    tie (record { from = 239; horizon = 96; slot2 = record { d = 40; time = 80; u = pos 336 }; slot9 = record { d = 10; time = 80; u = pos 336 } })
    (sends_early (other33 90) (replicate 5 1)) (is_early 2 (as35 120) 96 136 left ∷ is_early 9 (other33 90) 96 106 sent ∷ [])

-- Deadlines on both sides of the clock's turn: the plain bytes, 251 in slot 9 and 25 in slot 2, would choose slot 2.
unfoldable pub deadline_decides_across_turn : Row
deadline_decides_across_turn =
    tie (record { from = 239; horizon = 1; slot2 = record { d = 40; time = 241; u = pos 241 }; slot9 = record { d = 10; time = 241; u = pos 241 } })
    (sends_early (other33 251) (replicate 5 1)) (is_early 2 (as35 25) 1 41 left ∷ is_early 9 (other33 251) 1 11 sent ∷ [])

-- After the clock's turn, at t = 0, both deadlines past t + 127, with the offsets -128 in slot 9 and -33 in slot 2: an order that treats -128 as 128 would choose slot 2,
-- and so would one that takes all deadlines past t + 127 for the same.
unfoldable pub deadline_decides_after_turn : Row
deadline_decides_after_turn =
    tie (record { from = 255; horizon = 96; slot2 = record { d = 127; time = 96; u = pos 352 }; slot9 = record { d = 32; time = 96; u = pos 352 } })
    (sends_early (other33 128) (replicate 5 1)) (is_early 2 (as35 223) 96 223 left ∷ is_early 9 (other33 128) 96 128 sent ∷ [])

-- ---- the table

unfoldable pub table : List Row
table =
    horizon96 ∷ horizon95 ∷ time210 ∷ time200 ∷ time199 ∷ time111 ∷ time112 ∷ time112_d127 ∷ time113_d127 ∷ time240_sent ∷ time240_withdrawn
    ∷ tie_on_time ∷ tie_early ∷ time_decides ∷ time_decides_after_turn ∷ deadline_decides_past_127 ∷ deadline_decides_across_turn ∷ deadline_decides_after_turn ∷ []

-- What has to be seen is seen at both routers, and the calls are proper: their times are true.
pub record Meets (r : Row) : Type 0 where
  pub bytes : on_bytes r ≡ expected_on_bytes r
  pub whole : on_whole r ≡ expected_on_whole r
  pub proper : Proper 1 (pos r.from) (r.earlier ++ (lent r.tick ∷ []))

unfoldable pub AllMeet : List Row → Type 0
AllMeet [] = Unit {0}
AllMeet (r ∷ rs) = Meets r × AllMeet rs

-- ---- no third

-- "sent in this tick or withdrawn in it": on port p the tick d does one of the two with x, once, if the mask of x has p, and neither if it hasn't. What is sent goes out with its bytes.
pub record SentOrWithdrawn (d : NotedTick) (x : Packet) (p : ℕ) : Type 0 where
  pub one : counted (is_sent x (d.report.grant p)) + times x (d.report.withdrawn p) ≡ counted (has x.mask p)
  pub bytes : is_sent x (d.report.grant p) ≡ true → PacketAt 1 d.outgoing p x

-- In every run from a fresh router: a packet that arrives in its deadline tick, as one of time 240 and d = 0 at t = 240, and is accepted, is sent or withdrawn in that tick.
unfoldable pub NoThird : Type 0
NoThird = (t : ℕ) → t < 256 → (ks : List Call) → Proper 1 (pos t) ks → let h = history (our_bytes board8) (our_whole board8) [] (fresh board8 t) (start t) ks in
    (x : Packet) (i : ℕ) → Accepted h x i → x.deadline ≡ x.arrived → (d : NotedTick) → Memᴰ d h → d.met.clock ≡ x.arrived → (p : ℕ) → p < 5 → SentOrWithdrawn d x p

-- Every case marked P, and the ties.
unfoldable pub Cases : Type 0
Cases = AllMeet table × NoThird
