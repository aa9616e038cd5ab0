-- Stores into byte areas, the packets in them, and numbers as bytes: a store changes its own bytes and no other, and a number is its digits by powers of 256. Assumes nothing.
use Prim.Native.Nat.{ℕ, zero, suc, ◌+◌, ◌-◌, ◌*◌, ◌/◌, ◌%◌, ◌^◌, ◌<◌, ◌≤◌}
use mathlib.Core.Path.{◌≡◌, refl, sym, ap, ap₂, subst, ◌∙◌}
use mathlib.Core.Logic.{◌≢◌}
use mathlib.Core.List.{List, [], ◌∷◌, ◌++◌, append_assoc, append-nil}
use native.Mathlib.Decide.{dec_lt}
use native.Mathlib.Nat.{mul-zero, mul-suc, div-add-mod', mod-one, mod-eq_of_lt, div-eq_of_lt, mul-add-div_right, mul-add-mod_self_right, mul-le-mul_left, mul-le-mul_right, pow-suc}
use native.Mathlib.Omega.{arith}
use lib.Pow.{pow-add}
use lib.ListN.{length, take, drop, set, length-append, length-take, length-drop, take-append-drop, drop_of_length-le}
use lib.Seq.{set-set, set_comm, get_or-set_other, sets, length-sets, sets-eq, get_or-take, get_or-drop, ext_get_or, take_at, drop_at, length-take-le, take-append-le, drop-append-le, drop-append-add, drop-drop, take_all}
use Rattle.rules.specs.Areas.{byte, Bytes, bits, value, digits, packet, stamp, payload, packed, ports_below, per_port}

-- ---- a run of stores

-- It leaves what stands elsewhere.
pub sets-other : (vs s : List ℕ) (i k : ℕ) → ((j : ℕ) → j < length vs → k ≢ i + j) → byte (sets s i vs) k ≡ byte s k
sets-other [] s i k h = refl
sets-other (v ∷ vs) s i k h =
    sets-other vs (set s i v) (suc i) k (λ j l e. h (suc j) (omega arith) (omega arith))
    ∙ get_or-set_other s i k v 0 (λ e. h 0 (omega arith) (omega arith))

-- It commutes with a store elsewhere, and with a run of stores elsewhere; of two at one place the later stands.
sets-set : (vs s : List ℕ) (i k v : ℕ) → ((j : ℕ) → j < length vs → k ≢ i + j) → sets (set s k v) i vs ≡ set (sets s i vs) k v
sets-set [] s i k v h = refl
sets-set (w ∷ vs) s i k v h =
    ap (λ (x : List ℕ). sets x (suc i) vs) (set_comm s k i v w (λ e. h 0 (omega arith) (omega arith)))
    ∙ sets-set vs (set s i w) (suc i) k v (λ j l e. h (suc j) (omega arith) (omega arith))

pub sets-comm : (vs ws s : List ℕ) (i j : ℕ) → ((k l : ℕ) → k < length vs → l < length ws → j + l ≢ i + k) → sets (sets s i vs) j ws ≡ sets (sets s j ws) i vs
sets-comm [] ws s i j h = refl
sets-comm (v ∷ vs) ws s i j h =
    sets-comm vs ws (set s i v) (suc i) j (λ k l a b e. h (suc k) l (omega arith) b (omega arith))
    ∙ ap (λ (x : List ℕ). sets x (suc i) vs) (sets-set ws s j i v (λ l b e. h 0 l (omega arith) b (omega arith)))

pub sets-sets : (vs ws s : List ℕ) (i : ℕ) → length vs ≡ length ws → sets (sets s i vs) i ws ≡ sets s i ws
sets-sets [] [] s i e = refl
sets-sets [] (w ∷ ws) s i e = absurd (omega arith)
sets-sets (v ∷ vs) [] s i e = absurd (omega arith)
sets-sets (v ∷ vs) (w ∷ ws) s i e =
    ap (λ (x : List ℕ). sets x (suc i) ws) (sym (sets-set vs (set s i v) (suc i) i w (λ j l q. absurd (omega arith))) ∙ ap (λ (x : List ℕ). sets x (suc i) vs) (set-set s i v w))
    ∙ sets-sets vs ws (set s i w) (suc i) (omega arith)

-- One over a whole area leaves what was stored, and one after another is one of both.
pub sets-all : (d s : List ℕ) → length d ≡ length s → sets d 0 s ≡ s
sets-all d s e = sets-eq s d 0 (omega arith) ∙ rw (drop_of_length-le d {i = 0 + length s} (omega arith)) (append-nil s)

-- The part that it wrote is what was written, and a part apart from it is as before.
pub part_same : (s vs : List ℕ) (i n : ℕ) → length vs ≡ n → i + n ≤ length s → take n (drop i (sets s i vs)) ≡ vs
part_same s vs i n e h =
    let k : i ≤ length s = omega arith in
    ap (λ (l : List ℕ). take n (drop i l)) (sets-eq vs s i (omega arith) ∙ append_assoc (take i s) vs (drop (i + length vs) s))
    ∙ ap (take n) (drop_at (take i s) (vs ++ drop (i + length vs) s) i (length-take-le i s k))
    ∙ take_at vs (drop (i + length vs) s) n e

pub part-other : (s vs : List ℕ) (i j n : ℕ) → ((k l : ℕ) → k < length vs → l < n → j + l ≢ i + k) → take n (drop j (sets s i vs)) ≡ take n (drop j s)
part-other s vs i j n h =
    ext_get_or 0 (take n (drop j (sets s i vs))) (take n (drop j s)) same_length (λ k l.
    get_or-take n (drop j (sets s i vs)) k 0 (below k l) ∙ get_or-drop j (sets s i vs) k 0
    ∙ sets-other vs s i (j + k) (λ m q. h m k q (below k l))
    ∙ sym (get_or-take n (drop j s) k 0 (below k l) ∙ get_or-drop j s k 0))
  where
    same_length : length (take n (drop j (sets s i vs))) ≡ length (take n (drop j s))
    same_length = rw (length-take n (drop j (sets s i vs)), length-take n (drop j s), length-drop j (sets s i vs), length-drop j s, length-sets s i vs)

    below : (k : ℕ) → k < length (take n (drop j (sets s i vs))) → k < n
    below k l = let e = length-take n (drop j (sets s i vs)) in omega arith

-- ---- packets

-- A packet inside its area has 20 bytes.
pub length-packet : (area : List ℕ) (i : ℕ) → 20 * i + 20 ≤ length area → length (packet area i) ≡ 20
unfolding packet
length-packet area i h = length-take-le 20 (drop (20 * i) area) (omega (arith, length-drop (20 * i) area))

-- Its data are what the identifier and the time leave.
pub length-payload : (c : ℕ) (k : List ℕ) → length k ≡ 20 → length (payload c k) ≡ 20 - (1 + c)
unfolding payload
length-payload c k e = length-drop (1 + c) k ∙ ap (λ (n : ℕ). n - (1 + c)) e

-- The packet written is there.
pub packet-same : (m ds : List ℕ) (i : ℕ) → length m ≡ 5120 → i < 256 → length ds ≡ 20 → packet (sets m (20 * i) ds) i ≡ ds
unfolding packet
packet-same m ds i e h l = part_same m ds (20 * i) 20 l (omega arith)

-- Any other packet is as before.
pub packet-other : (m ds : List ℕ) (i j : ℕ) → j ≢ i → length ds ≡ 20 → packet (sets m (20 * i) ds) j ≡ packet m j
unfolding packet
packet-other m ds i j n l = part-other m ds (20 * i) (20 * j) 20 (λ k q hk hq e. n (omega arith))

-- ---- numbers as bytes

-- A count of k bytes has k.
pub length_digits : (k v : ℕ) → length (digits k v) ≡ k
unfolding digits
length_digits zero v = refl
length_digits (suc k) v = ap suc (length_digits k (v % 256 ^ k))

-- Bytes of a count make it.
pub value-digits : (k v : ℕ) → 0 < k → value (digits k v) ≡ v
unfolding value digits
value-digits zero v h = absurd (omega arith)
value-digits (suc zero) v h = omega (arith, div-add-mod' v 1, mod-one v)
value-digits (suc (suc k)) v h =
    let e = value-digits (suc k) (v % 256 ^ suc k) (omega arith) in
    let d = div-add-mod' v (256 ^ suc k) in
    ap₂ (λ (n x : ℕ). v / 256 ^ suc k * 256 ^ n + x) (length_digits (suc k) (v % 256 ^ suc k)) e ∙ d

-- A number of k bytes is below 256 ^ k.
pub value-lt : (l : List ℕ) → Bytes l → value l < 256 ^ length l
unfolding value Bytes
value-lt [] h = omega arith
value-lt (x ∷ l) h =
    let a = value-lt l (λ i m. h (suc i) (omega arith)) in
    let b : x < 256 = h 0 (omega arith) in
    let d = mul-le-mul_right {m = x} {n = 255} (256 ^ length l) (omega arith) in
    let e = pow-suc 256 (length l) in
    omega arith

-- Its bytes are those that made it.
pub digits_value : (l : List ℕ) → Bytes l → digits (length l) (value l) ≡ l
unfolding value digits Bytes
digits_value [] h = refl
digits_value (x ∷ l) h =
    let m = 256 ^ length l in
    let v = value-lt l (λ i n. h (suc i) (omega arith)) in
    let q : (x * m + value l) / m ≡ x = mul-add-div_right {m = m} (omega arith) x (value l) ∙ omega (arith, div-eq_of_lt v) in
    let r : (x * m + value l) % m ≡ value l = mul-add-mod_self_right x m (value l) ∙ mod-eq_of_lt v in
    ap₂ (λ (n : ℕ) (k : List ℕ). n ∷ k) q (ap (digits (length l)) r ∙ digits_value l (λ i n. h (suc i) (omega arith)))

-- A part of bytes is bytes, and the number that they make is below 256 to their count.
pub bytes-part : (n i : ℕ) (l : List ℕ) → Bytes l → Bytes (take n (drop i l))
unfolding Bytes
bytes-part n i l h j m =
    let e = length-take n (drop i l) in
    let f = length-drop i l in
    subst (λ (x : ℕ). x < 256) (sym (get_or-take n (drop i l) j 0 (omega arith) ∙ get_or-drop i l j 0)) (h (i + j) (omega arith))

pub part-lt : (n i : ℕ) (l : List ℕ) → Bytes l → i + n ≤ length l → value (take n (drop i l)) < 256 ^ n
part-lt n i l h m =
    let e : length (take n (drop i l)) ≡ n = length-take-le n (drop i l) (omega (arith, length-drop i l)) in
    subst (λ (k : ℕ). value (take n (drop i l)) < 256 ^ k) e (value-lt (take n (drop i l)) (bytes-part n i l h))

-- By induction over the bytes.
byte-bits : (c : ℕ) → 256 ^ c ≡ 2 ^ (8 * c)
byte-bits zero = refl
byte-bits (suc c) =
    let e : 2 ^ (8 * c + 8) ≡ 2 ^ (8 * c) * 256 = pow-add 2 (8 * c) 8 in
    pow-suc 256 c ∙ ap (λ (n : ℕ). n * 256) (byte-bits c) ∙ sym e ∙ ap (λ (n : ℕ). 2 ^ n) (omega arith)

-- A clock reading of c bytes has all their bits.
pub full-bits : (c : ℕ) → 0 < c → 256 ^ c ≡ 2 ^ bits c
unfolding bits
full-bits c h = byte-bits c ∙ ap (λ (n : ℕ). 2 ^ n) (omega arith)

-- A packed packet has 20 bytes.
pub length-packed : (c i v : ℕ) (l : List ℕ) → length l ≡ 20 - (1 + c) → c < 20 → length (packed c i v l) ≡ 20
unfolding packed
length-packed c i v l e h = ap suc (length-append (digits c v) l) ∙ omega (arith, length_digits c v)

-- A packet of bytes is made of its identifier, time and data.
pub packed-parts : (c : ℕ) (k : List ℕ) → Bytes k → length k ≡ 20 → c < 20 → packed c (byte k 0) (stamp c k) (payload c k) ≡ k
unfolding packed stamp payload
packed-parts c [] b e h = absurd (omega arith)
packed-parts c (x ∷ l) b e h =
    let n : length (take c l) ≡ c = length-take-le c l (omega arith) in
    let d : digits c (value (take c l)) ≡ take c l = ap (λ (n : ℕ). digits n (value (take c l))) (sym n) ∙ digits_value (take c l) (bytes-part c 1 (x ∷ l) b) in
    let s : 1 + c ≡ suc c = omega arith in
    rw (s, d) (ap (λ (m : List ℕ). x ∷ m) (take-append-drop c l))

-- ---- what each port gives, one after the other

-- Port by port.
pub ports_below-same : (f g : ℕ → List ℕ) (n : ℕ) → ((p : ℕ) → p < n → f p ≡ g p) → ports_below f n ≡ ports_below g n
unfolding ports_below
ports_below-same f g zero h = refl
ports_below-same f g (suc n) h = ap₂ (λ (l m : List ℕ). l ++ m) (ports_below-same f g n (λ p l. h p (omega arith))) (h n (omega arith))

-- Each port gives k bytes.
module _ (k : ℕ) (f : ℕ → List ℕ) where
  pub length-ports_below : (n : ℕ) → ((p : ℕ) → p < n → length (f p) ≡ k) → length (ports_below f n) ≡ k * n
  unfolding ports_below
  length-ports_below zero h = omega (arith, mul-zero k)
  length-ports_below (suc n) h =
      rw length-append (let a = length-ports_below n (λ p l. h p (omega arith)) in let b = h n (omega arith) in omega (arith, mul-suc k n))

  -- The part at k * p is what port p gives: in what the lower ports give, or after all of that.
  pub part-ports_below : (n : ℕ) → ((p : ℕ) → p < n → length (f p) ≡ k) → (p : ℕ) → p < n → take k (drop (k * p) (ports_below f n)) ≡ f p
  unfolding ports_below
  part-ports_below zero h p l = absurd (omega arith)
  part-ports_below (suc n) h p l = go (λ m. part-ports_below n (λ q i. h q (omega arith)) p m) (dec_lt p n)
    where
      a : length (ports_below f n) ≡ k * n
      a = length-ports_below n (λ q i. h q (omega arith))

      go : (p < n → take k (drop (k * p) (ports_below f n)) ≡ f p) → Dec (p < n) → take k (drop (k * p) (ports_below f n ++ f n)) ≡ f p
      go below (yes m) =
          let s = a in
          let b = mul-le-mul_left {m = suc p} {n = n} k m in
          let e = mul-suc k p in
          let d = length-drop (k * p) (ports_below f n) in
          rw (drop-append-le (k * p) (ports_below f n) (f n) (omega arith)) (take-append-le k (drop (k * p) (ports_below f n)) (f n) (omega arith) ∙ below m)
      go below (no m) =
          let e : p ≡ n = omega arith in
          let b = h n (omega arith) in
          rw (e, drop_at (ports_below f n) (f n) (k * n) a) (take_all k (f n) (omega arith))

  -- An area that the ports below p have filled, each its part, and port p fills on.
  abbrev pub filled : List ℕ → ℕ → List ℕ
  filled d p = ports_below f p ++ drop (k * p) d

  pub filled_next : (d : List ℕ) (p : ℕ) → ((q : ℕ) → q < suc p → length (f q) ≡ k) → k * suc p ≤ length d → sets (filled d p) (k * p) (f p) ≡ filled d (suc p)
  unfolding ports_below
  filled_next d p h l =
      let a = length-ports_below p (λ q i. h q (omega arith)) in
      let b = h p (omega arith) in
      let e = mul-suc k p in
      let n = length-drop (k * p) d in
      let s : k * p + k ≡ k * suc p = omega arith in
      sets-eq (f p) (filled d p) (k * p) (rw length-append (omega arith))
      ∙ rw (take_at (ports_below f p) (drop (k * p) d) (k * p) a, b, ← a, drop-append-add (ports_below f p) (drop (length (ports_below f p)) d) k, a, drop-drop k (k * p) d, s)

  pub filled-all : (d : List ℕ) (n : ℕ) → length d ≡ k * n → filled d n ≡ ports_below f n
  filled-all d n e = rw (drop_of_length-le d {i = k * n} (omega arith)) (append-nil (ports_below f n))

-- Packet p of what five ports give is port p's.
pub packet-per_port : (f : ℕ → List ℕ) → ((q : ℕ) → q < 5 → length (f q) ≡ 20) → (p : ℕ) → p < 5 → packet (per_port f) p ≡ f p
unfolding packet
packet-per_port f h p l = part-ports_below 20 f 5 h p l
