-- The slots that arrivals take: each accepted packet takes the top address of the stack, whose entries stay, and no other slot changes. Assumes nothing.
use Prim.Native.Nat.{ℕ, zero, suc, ◌-◌, ◌<◌, ◌≤◌}
use mathlib.Core.Path.{◌≡◌, refl, sym, ap, ◌∙◌}
use mathlib.Core.Logic.{◌≢◌}
use mathlib.Core.List.{List}
use mathlib.Core.Bool.{cond}
use native.Mathlib.Decide.{ℕ_discrete}
use native.Mathlib.Omega.{arith}
use lib.ListN.{length}
use borrow.Author.Tests.{eq-eqb, ne_eqb}
use Rattle.rules.specs.Areas.{Store, byte, bits, packet, stamp, payload, packed, elem}
use Rattle.rules.specs.Board.{Board, Idle, Time, Deadline, Mask, Outgoing, Delay, Routes, clock, free}
use Rattle.rules.specs.Clock.{plus}
use Rattle.any_state.specs.Entries.{StackSound}
use Rattle.rules.specs.Questions.{stack}
use Rattle.rules.specs.Tick.{arrival, placed, admitted, arrived}
use Rattle.rules.specs.Whole.{Router}
use Rattle.rules.proofs.AreaLaws.{length-packet, length-payload, length-packed, packet-other}
use Rattle.rules.proofs.BoardLaws.{Laws, same_field}
use Rattle.rules.proofs.Good.{Good}
use Rattle.rules.proofs.Refine.{rel-sound}
use Rattle.rules.proofs.Relation.{Untouched, Rel}
use Rattle.rules.proofs.Soundness.{elem_at}
use Rattle.any_state.proofs.Entries.{sound-iff}
use Rattle.rules.proofs.StateLaws.{Reads, none_out, reads_self, reads-put}
use Rattle.passes.proofs.Arrivals.{stored-has-free}

module _ (B : Board) (L : Laws B) where
  open B use {clock_bytes as c, state_length, get}

  -- From r to r' addresses were taken from the stack, whose entries stay, and no slot has changed but theirs.
  pub record Taken (r r' : Store) : Type 0 where
    pub sized : length r'.state ≡ state_length
    pub fewer : get r'.state free ≤ get r.state free
    pub entries : (j : ℕ) → j < 256 → get r'.state (Idle, j) ≡ get r.state (Idle, j)
    pub clock : get r'.state clock ≡ get r.state clock
    pub others : (i : ℕ) → i < 256 → ((j : ℕ) → get r'.state free ≤ j → j < get r.state free → get r.state (Idle, j) ≢ i) → Untouched B L r r' i

  module _ {r : Store} {w : Router} (R : Rel B L r w) (G : Good c w) where
    abbrev s : List ℕ
    s = r.state

    -- The stack is sound, and its entries are slots.
    pub stack-sound : StackSound B r.state
    stack-sound = ((sound-iff B r).0 (rel-sound B L R G)).stack

    pub addresses : (j : ℕ) → j < get r.state free → get r.state (Idle, j) < 256
    unfolding stack
    addresses j l = G.kept.places (get s (Idle, j)) (ap (elem (get s (Idle, j))) (sym R.stack) ∙ elem_at (λ j. get s (Idle, j)) (get s (Idle, j)) (get s free) j l refl)

    module _ (arriving : ℕ) (area : List ℕ) (whole : length area ≡ 100) where
      -- A packet placed takes the top address.
      placed-taken : (r' : Store) (k : List ℕ) → length k ≡ 20 → Taken r r' → 0 < get r'.state free → Taken r (placed B r' k)
      unfolding placed
      placed-taken r' k size T some = record {
        sized = stores.sized;
        fewer = omega (arith, stores.reads free refl (omega arith), T.fewer);
        entries = λ j l. stores.reads (Idle, j) refl l ∙ T.entries j l;
        clock = stores.reads clock refl (omega arith) ∙ T.clock;
        others = λ j l n.
            let less = stores.reads free refl (omega arith) in
            let O = T.others j l (λ q a b. n q (omega arith) b) in
            let apart : i ≢ j = λ e. n top (omega arith) top_lt (sym at_top ∙ e) in
            let no = ne_eqb i j apart in
            record {
              time = stores.reads (Time, j) refl l ∙ rw no O.time;
              deadline = stores.reads (Deadline, j) refl l ∙ rw no O.deadline;
              mask = stores.reads (Mask, j) refl l ∙ rw no O.mask;
              bytes = packet-other r'.memory bytes i j (λ e. apart (sym e)) (length-packed c (get s' (Outgoing, byte k 0)) d (payload c k) (length-payload c k size) L.few_bytes) ∙ O.bytes;
            };
      }
        where
          s' : List ℕ
          s' = r'.state

          top : ℕ
          top = get s' free - 1

          top_lt : top < get s free
          top_lt = let h = T.fewer in omega arith

          i : ℕ
          i = get s' (Idle, top)

          at_top : i ≡ get s (Idle, top)
          at_top = T.entries top (let h = stack-sound.count in let l = top_lt in omega arith)

          hi : i < 256
          hi = let e = at_top in let h = addresses top top_lt in omega arith

          d : ℕ
          d = plus (bits c) (stamp c k) (get s' (Delay, byte k 0))

          m : ℕ
          m = get s' (Routes, byte k 0)

          bytes : List ℕ
          bytes = packed c (get s' (Outgoing, byte k 0)) d (payload c k)

          -- Four stores, read back.
          stores : Reads B L none_out (placed B r' k).state (λ f. cond (same_field (Mask, i) f) m (cond (same_field (Deadline, i) f) d (cond (same_field (Time, i) f) (stamp c k) (cond (same_field free f) top (get s' f)))))
          stores = reads-put B L (reads-put B L (reads-put B L (reads-put B L (reads_self B L s' T.sized) free top (omega arith)) (Time, i) (stamp c k) hi) (Deadline, i) d hi) (Mask, i) m hi

      -- The arrivals on the ports below p.
      pub arrivals-taken : (p : ℕ) → p ≤ 5 → Taken r (arrived B p arriving area r)
      unfolding arrived
      arrivals-taken zero l = record { sized = R.settings.sized; fewer = omega arith; entries = λ j l. refl; clock = refl; others = λ i l n. record { time = refl; deadline = refl; mask = refl; bytes = refl } }
      arrivals-taken (suc p) l = go (arrived B p arriving area r) (arrivals-taken p (omega arith)) (ℕ_discrete (arrival B (arrived B p arriving area r).state arriving p (packet area p)) 1)
        where
          go : (r' : Store) → Taken r r' → Dec (arrival B r'.state arriving p (packet area p) ≡ 1) → Taken r (admitted B r' arriving p (packet area p))
          go r' T (yes e) = rw (eq-eqb (arrival B r'.state arriving p (packet area p)) 1 e) (placed-taken r' (packet area p) (length-packet area p (omega arith)) T (stored-has-free B r'.state (packet area p) arriving p e))
          go r' T (no n) = rw (ne_eqb (arrival B r'.state arriving p (packet area p)) 1 n) T
