-- What the claims say byte by byte, from the parts of areas: numbers of several bytes, packets, answers, and the entries of a stack. Assumes nothing.
use Prim.Native.Nat.{ℕ, zero, suc, ◌+◌, ◌-◌, ◌*◌, ◌/◌, ◌%◌, ◌^◌, ◌<◌, ◌≤◌}
use mathlib.Core.Path.{◌≡◌, refl, sym, ap, ap₂, ◌∙◌}
use mathlib.Core.List.{List, ◌∷◌, ◌++◌}
use native.Mathlib.Omega.{arith}
use lib.ListN.{length, get_or, take, drop, replicate, length-drop, length-append, get_or-replicate}
use lib.Seq.{length-take-le, drop-cons, take_at, get_or-drop, get_or-append-add}
use Rattle.rules.specs.Account.{PacketAt, ZerosAt}
use Rattle.rules.specs.Areas.{byte, bits, value, digits, packet, stamp, payload, packed, ports_below, answers_area}
use Rattle.rules.specs.Clock.{cut}
use Rattle.rules.specs.Given.{number}
use Rattle.rules.specs.Order.{top_first}
use Rattle.rules.specs.Whole.{Packet, packet_bytes}
use Rattle.rules.proofs.AreaLaws.{length-packet, length_digits, value-digits}
use Rattle.rules.proofs.FieldBytes.{packet-byte}

-- ---- numbers

-- The bytes of a part make its number: by induction over how many.
number-part : (n : ℕ) (area : List ℕ) (i : ℕ) → i + n ≤ length area → number n area i ≡ value (take n (drop i area))
unfolding number value
number-part zero area i l = refl
number-part (suc n) area i l =
    let e = number-part n area (suc i) (omega arith) in
    let k : length (take n (drop (suc i) area)) ≡ n = length-take-le n (drop (suc i) area) (omega (arith, length-drop (suc i) area)) in
    rw (drop-cons area i 0 (omega arith), k, e)

-- A number in a packet is one in its area.
number-packet : (n : ℕ) (area : List ℕ) (p j : ℕ) → j + n ≤ 20 → number n (packet area p) j ≡ number n area (20 * p + j)
unfolding number
number-packet zero area p j l = refl
number-packet (suc n) area p j l =
    let k : 20 * p + suc j ≡ suc (20 * p + j) = omega arith in
    ap₂ (λ (x y : ℕ). x * 256 ^ n + y) (packet-byte area p j (omega arith)) (number-packet n area p (suc j) (omega arith) ∙ ap (number n area) k)

-- So is the time in a packet's header.
pub stamp-number : (c : ℕ) (area : List ℕ) (p : ℕ) → c < 20 → 20 * p + 20 ≤ length area → stamp c (packet area p) ≡ number c area (20 * p + 1)
unfolding stamp
stamp-number c area p l h = sym (number-part c (packet area p) 1 (omega (arith, length-packet area p h))) ∙ number-packet c area p 1 (omega arith)

-- ---- packets

-- A packet's identifier, deadline and data stand where they are packed.
pub packet-at : (c : ℕ) (area : List ℕ) (i : ℕ) (x : Packet) → 0 < c → c < 20 → length x.payload ≡ 20 - (1 + c) → packet area i ≡ packet_bytes c x → PacketAt c area i x
unfolding packet_bytes packed
packet-at c area i x hc lc size e =
    let v = cut (bits c) x.deadline in
    let k = length_digits c v in
    record {
      identifier = ap (byte area) (omega arith) ∙ sym (packet-byte area i 0 (omega arith)) ∙ ap (λ (l : List ℕ). byte l 0) e;
      deadline =
          sym (number-packet c area i 1 (omega arith)) ∙ ap (λ (l : List ℕ). number c l 1) e
          ∙ number-part c (x.identifier ∷ digits c v ++ x.payload) 1 (omega (arith, length-append (digits c v) x.payload))
          ∙ ap value (take_at (digits c v) x.payload c k) ∙ value-digits c v hc;
      payload = λ j l.
          sym (packet-byte area i (1 + c + j) (omega arith)) ∙ ap (λ (l : List ℕ). byte l (1 + c + j)) e
          ∙ ap (byte (x.identifier ∷ digits c v ++ x.payload)) (let s : 1 + c + j ≡ suc (length (digits c v) + j) = omega arith in s)
          ∙ get_or-append-add (digits c v) x.payload j 0;
    }

-- An empty packet is 20 zeros.
pub zeros-at : (area : List ℕ) (i : ℕ) → packet area i ≡ replicate 20 0 → ZerosAt area i
zeros-at area i e j l = sym (packet-byte area i j l) ∙ ap (λ (l : List ℕ). byte l j) e ∙ get_or-replicate 20 j 0 0 l

-- The data of the packet on port p are the bytes after its header.
pub payload-byte : (c : ℕ) (area : List ℕ) (p j : ℕ) → j < 19 - c → byte (payload c (packet area p)) j ≡ byte area (20 * p + (1 + c + j))
unfolding payload
payload-byte c area p j l = get_or-drop (1 + c) (packet area p) j 0 ∙ packet-byte area p (1 + c + j) (omega arith)

-- ---- answers

-- Port by port.
pub answer_at : (port arrival withdrawn : ℕ → ℕ) (p : ℕ) → p < 5 → let a = answers_area port arrival withdrawn in
    (byte a p ≡ port p) × (byte a (5 + p) ≡ arrival p) × (byte a (10 + 2 * p) ≡ withdrawn p / 256) × (byte a (11 + 2 * p) ≡ withdrawn p % 256)
unfolding answers_area ports_below
answer_at f g h zero l = (refl, refl, refl, refl)
answer_at f g h (suc zero) l = (refl, refl, refl, refl)
answer_at f g h (suc (suc zero)) l = (refl, refl, refl, refl)
answer_at f g h (suc (suc (suc zero))) l = (refl, refl, refl, refl)
answer_at f g h (suc (suc (suc (suc zero)))) l = (refl, refl, refl, refl)
answer_at f g h (suc (suc (suc (suc (suc p))))) l = absurd (omega arith)

-- ---- stacks

-- Entry i from the top: by induction over the entries.
pub top_first-at : (f : ℕ → ℕ) (n i : ℕ) → i < n → get_or (top_first f n) i 0 ≡ f (n - 1 - i)
unfolding top_first
top_first-at f zero i l = absurd (omega arith)
top_first-at f (suc n) zero l = ap f (omega arith)
top_first-at f (suc n) (suc i) l = top_first-at f n i (omega arith) ∙ ap f (omega arith)
