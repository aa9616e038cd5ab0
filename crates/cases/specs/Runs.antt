-- Two runs from a fresh router, with the replies to their calls in full: one across a turn of the clock, one with true times below zero. Assumes nothing.
use Rattle.std.specs.Prelude.{ℕ, ◌≡◌, List, [], ◌∷◌, replicate, pos, negsuc}
use Rattle.rules.specs.Areas.{Reply, number_reply, no_packet}
use Rattle.rules.specs.Board.{free, board8}
use Rattle.rules.specs.Questions.{fresh}
use Rattle.rules.specs.Whole.{start}
use Rattle.rules.specs.Calls.{Call, control, after_all, replies, whole_step}
use Rattle.rules.specs.Demand3.{byte_step}
use Rattle.cases.specs.Shorthand.{connect, packet_with, five, nines, ticking, lent, ticked, empty}

-- Replies to four control writes, and to a tick refused.
abbrev pub connected : List Reply → List Reply
connected rs = number_reply 0 ∷ number_reply 0 ∷ number_reply 0 ∷ number_reply 0 ∷ rs

abbrev pub turned_away : ℕ → Reply
turned_away n = record { number = n; outgoing = nines 100; answers = nines 20 }

-- ---- across a turn of the clock, from 254

-- Connection 5 is multicast, to ports 1 and 3; 6 goes to port 1, 7 to port 4, and 9 is closed. Port 3 has horizon 3.
unfoldable pub turning : List Call
turning =
    connect 5 33 2 10 (connect 6 34 1 2 (connect 7 35 100 16
    (control 4 8 ∷ control 5 3
    -- No such register, and a d that doesn't fit.
    ∷ control 6 0 ∷ control 1 128
    -- T = 254: a packet of time 256 comes for ports 1 and 3, one of time 354 for port 4; those on ports 2 and 4 meet 6 and 7. Best-effort waits on ports 2 and 3.
    ∷ lent (ticking 29 12 (five (packet_with 1 5 0) no_packet (packet_with 2 9 254) (packet_with 3 7 98) (packet_with 4 6 252)) (pos 256 ∷ pos 0 ∷ pos 254 ∷ pos 354 ∷ pos 252 ∷ []))
    -- A mask above 31, and an area too short.
    ∷ lent (ticking 0 32 empty [])
    ∷ lent (ticking 0 0 (replicate 99 0) [])
    -- T = 255: best-effort waits on port 1.
    ∷ lent (ticking 0 2 empty [])
    -- T = 256: two packets of time 255 come for port 1, and best-effort waits there.
    ∷ lent (ticking 18 2 (five no_packet (packet_with 5 6 255) no_packet no_packet (packet_with 6 6 255)) (pos 0 ∷ pos 255 ∷ pos 0 ∷ pos 0 ∷ pos 255 ∷ []))
    -- T = 257.
    ∷ lent (ticking 0 0 empty [])
    ∷ [])))

unfoldable pub turning_replies : List Reply
turning_replies =
    connected (connected (connected
    (number_reply 0 ∷ number_reply 0
    ∷ number_reply 4 ∷ number_reply 5
    -- The early packet doesn't pass best-effort on port 3.
    ∷ ticked empty (0 ∷ 0 ∷ 2 ∷ 2 ∷ 0 ∷ 1 ∷ 0 ∷ 6 ∷ 1 ∷ 7 ∷ replicate 10 0)
    ∷ turned_away 3
    ∷ turned_away 1
    -- Port 3 sends it early.
    ∷ ticked (five no_packet no_packet no_packet (packet_with 1 33 2) no_packet) (0 ∷ 2 ∷ 0 ∷ 3 ∷ replicate 16 0)
    -- Port 1 sends the first of the two, and the second is withdrawn.
    ∷ ticked (five no_packet (packet_with 5 34 0) no_packet no_packet no_packet) (0 ∷ 1 ∷ 0 ∷ 0 ∷ 0 ∷ 0 ∷ 1 ∷ 0 ∷ 0 ∷ 1 ∷ 0 ∷ 0 ∷ 0 ∷ 1 ∷ replicate 6 0)
    -- Port 1 sends the multicast packet too, on time. That for port 4 is still stored.
    ∷ ticked (five no_packet (packet_with 1 33 2) no_packet no_packet no_packet) (0 ∷ 1 ∷ replicate 18 0)
    ∷ [])))

-- ---- true times below zero, from 2

-- Connection 5 goes to port 0, 6 to port 2.
unfoldable pub below_zero : List Call
below_zero =
    connect 5 33 6 1 (connect 6 34 127 4
    -- T = 2: packets of the times -3, -125 and -126.
    (lent (ticking 7 0 (five (packet_with 1 5 253) (packet_with 2 6 131) (packet_with 3 6 130) no_packet no_packet) (negsuc 2 ∷ negsuc 124 ∷ negsuc 125 ∷ []))
    ∷ []))

unfoldable pub below_zero_replies : List Reply
below_zero_replies =
    connected (connected
    (ticked (five (packet_with 1 33 3) no_packet (packet_with 2 34 2) no_packet no_packet) (1 ∷ 0 ∷ 1 ∷ 0 ∷ 0 ∷ 1 ∷ 1 ∷ 7 ∷ replicate 12 0)
    ∷ []))

-- ---- what is claimed

-- From a fresh router at t both routers give the replies rs to the calls ks, and the router over bytes has n free slots left.
pub record Gives (t : ℕ) (ks : List Call) (rs : List Reply) (n : ℕ) : Type 0 where
  pub whole : replies (whole_step 1) (start t) ks ≡ rs
  pub bytes : replies (byte_step board8) (fresh board8 t) ks ≡ rs
  pub left : board8.get (after_all (byte_step board8) (fresh board8 t) ks).state free ≡ n

unfoldable pub Runs : Type 0
Runs = Gives 254 turning turning_replies 255 × Gives 2 below_zero below_zero_replies 256
