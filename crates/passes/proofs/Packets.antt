-- Packets in an area, as code cuts them out, stores and sends them: a packet's 20 bytes are its own; and what the ports give one after the other. Assumes nothing.
use Prim.Native.Nat.{ℕ, suc, ◌+◌, ◌-◌, ◌*◌, ◌<◌, ◌≤◌}
use mathlib.Core.Path.{◌≡◌, refl, sym, ap, ◌∙◌}
use mathlib.Core.List.{List, [], ◌∷◌}
use native.Mathlib.Numerals.{add-one}
use native.Mathlib.Omega.{arith}
use lib.ListN.{length, set, take, drop}
use lib.Seq.{sets, set_comm, set-set}
use Rattle.rules.specs.Areas.{packet_length, memory_length, packet, Grant, nobody, best_effort, on_time, early}
use Rattle.rules.specs.Board.{Board}
use Rattle.rules.specs.Tick.{grant_bytes}
use Rattle.rules.proofs.AreaLaws.{length-packet, filled, filled_next}
use Rattle.passes.specs.Sends.{Winner}

-- Packet p, a port's or a slot's, as the part from its first byte up to the next one's.
pub part-packet : (area : List ℕ) (p : ℕ) → take (packet_length * p + packet_length - packet_length * p) (drop (packet_length * p) area) ≡ packet area p
unfolding packet
part-packet area p = let e : packet_length * p + packet_length - packet_length * p ≡ packet_length = omega arith in rw e

-- A store before a run of stores, and after it.
set_before : (l m : List ℕ) (a i v : ℕ) → i + 1 ≤ a → set (sets m a l) i v ≡ sets (set m i v) a l
set_before [] m a i v h = refl
set_before (x ∷ l) m a i v h = set_before l (set m a x) (suc a) i v (omega arith) ∙ rw (set_comm m a i x v (λ e. omega arith))

-- A packet stored, and then a header of two bytes.
pub sets-header : (m : List ℕ) (a o y : ℕ) (k : List ℕ) → 2 ≤ length k → set (set (sets m a k) a o) (a + 1) y ≡ sets m a (o ∷ y ∷ drop 2 k)
sets-header m a o y [] h = absurd (omega arith)
sets-header m a o y (x ∷ []) h = absurd (omega arith)
sets-header m a o y (x ∷ z ∷ k) h =
    let n = set (set m a x) (suc a) z in
    rw (add-one a, set_before k n (suc (suc a)) a o (omega arith), set_before k (set n a o) (suc (suc a)) (suc a) y (omega arith), set_comm (set m a x) (suc a) a z o (λ e. omega arith), set-set m a x o, set-set (set m a o) (suc a) z y)

-- A winner's packet is in the memory.
pub length-won : (B : Board) (s m : List ℕ) (p : ℕ) → length m ≡ memory_length → (g : Grant ℕ) → Winner B s p g → length (grant_bytes m g) ≡ packet_length
unfolding grant_bytes
length-won B s m p e nobody w = refl
length-won B s m p e best_effort w = refl
length-won B s m p e (on_time i) w = let h = w.0 in length-packet m i (omega arith)
length-won B s m p e (early i) w = let h = w.0 in length-packet m i (omega arith)

-- Numbers filled in one after the other.
pub filled-number : (f : ℕ → ℕ) (d : List ℕ) (p : ℕ) → p < length d → set (filled 1 (λ q. f q ∷ []) d p) p (f p) ≡ filled 1 (λ q. f q ∷ []) d (suc p)
filled-number f d p h =
    let e : 1 * p ≡ p = omega arith in
    ap (λ (i : ℕ). sets (filled 1 (λ q. f q ∷ []) d p) i (f p ∷ [])) (sym e) ∙ filled_next 1 (λ q. f q ∷ []) d p (λ q l. refl) (omega arith)
