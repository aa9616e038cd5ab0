-- What both routers share: bytes and areas (document 01, "Bytes and areas"), that is numbers in bytes, packets, port masks, and how outgoing and answers are laid out; and questions. Assumes nothing.
use Rattle.std.specs.Prelude.{ℕ, zero, suc, ◌+◌, ◌-◌, ◌*◌, ◌/◌, ◌%◌, ◌^◌, ◌<◌, Bool, true, false, cond, not, ◌&&◌, ◌||◌, List, [], ◌∷◌, ◌++◌, length, get_or, take, drop, replicate, leb, ltb, eqb}

-- State and packet memory, which every entry of the router is lent.
pub record Store : Type 0 where
  pub state : List ℕ
  pub memory : List ℕ

-- What a caller sees of a call besides these.
pub record Reply : Type 0 where
  pub number : ℕ
  pub outgoing : List ℕ
  pub answers : List ℕ

-- The reply of a call that is lent neither.
abbrev pub number_reply : ℕ → Reply
number_reply n = record { number = n; outgoing = []; answers = [] }

-- What a call gives, and leaves of the router that it is made to.
pub record Outcome (R : Type 0) : Type 0 where
  pub reply : Reply
  pub after : R

-- Lengths: of a packet, and of each area but the state, whose length is the board's.
abbrev pub packet_length : ℕ
packet_length = 20

abbrev pub memory_length : ℕ
memory_length = 5120

abbrev pub arrivals_length : ℕ
arrivals_length = 100

abbrev pub outgoing_length : ℕ
outgoing_length = 100

abbrev pub answers_length : ℕ
answers_length = 20

abbrev pub byte : List ℕ → ℕ → ℕ
byte l i = get_or l i 0

-- What the list holds are bytes.
unfoldable pub Bytes : List ℕ → Type 0
Bytes l = (i : ℕ) → i < length l → byte l i < 256

-- The bits of a clock reading of c bytes, and the bound of delays and horizons: 8 and 128 for one byte.
unfoldable pub bits : ℕ → ℕ
bits c = suc (8 * c - 1)

unfoldable pub half : ℕ → ℕ
half c = 2 ^ (8 * c - 1)

-- The number that bytes make, high first, and the k bytes of a number.
unfoldable pub value : List ℕ → ℕ
value [] = 0
value (x ∷ xs) = x * 256 ^ length xs + value xs

unfoldable pub digits : ℕ → ℕ → List ℕ
digits zero v = []
digits (suc k) v = v / 256 ^ k ∷ digits k (v % 256 ^ k)

-- A packet has 20 bytes: connection identifier, a time of c bytes, data. Packet i of an area is slot i's in the memory, port i's in arrivals and outgoing.
unfoldable pub packet : List ℕ → ℕ → List ℕ
packet area i = take packet_length (drop (packet_length * i) area)

-- The time in a packet's header, and its data.
unfoldable pub stamp : ℕ → List ℕ → ℕ
stamp c k = value (take c (drop 1 k))

unfoldable pub payload : ℕ → List ℕ → List ℕ
payload c k = drop (1 + c) k

unfoldable pub packed : ℕ → ℕ → ℕ → List ℕ → List ℕ
packed c identifier v data' = identifier ∷ digits c v ++ data'

-- A port mask has bit p for port p, 0 to 4.
unfoldable pub has : ℕ → ℕ → Bool
has mask p = eqb (mask / 2 ^ p % 2) 1

unfoldable pub without : ℕ → ℕ → ℕ
without mask p = cond (has mask p) (mask - 2 ^ p) mask

-- The value fits the register, at a clock reading of c bytes: d (1) and a horizon (5) are below the half, masks (2, 4) at most 31, identifiers (0, 3) are bytes.
unfoldable pub fits : ℕ → ℕ → ℕ → Bool
fits c register v =
    cond (eqb register 1 || eqb register 5) (ltb v (half c))
    (cond (eqb register 2 || eqb register 4) (leb v 31) (ltb v 256))

-- Where a stored register waits in the control latch: registers 0, 1 and 2 in order, then register 4.
abbrev pub latch_place : ℕ → ℕ
latch_place register = cond (eqb register 4) 3 register

-- What f gives for the ports below p, one after the other, and for ports 0 to 4.
unfoldable pub ports_below : (ℕ → List ℕ) → ℕ → List ℕ
ports_below f zero = []
ports_below f (suc p) = let l = ports_below f p in l ++ f p

abbrev pub per_port : (ℕ → List ℕ) → List ℕ
per_port f = ports_below f 5

-- Who has a port in a tick: a packet on time or early, best-effort, or nobody; and its code in the answers.
pub data Grant (A : Type 0) : Type 0 where
  nobody best_effort : Grant A
  on_time early : A → Grant A

unfoldable pub grant_code : {A : Type 0} → Grant A → ℕ
grant_code nobody = 0
grant_code (on_time x) = 1
grant_code best_effort = 2
grant_code (early x) = 3

-- For a port without a packet.
abbrev pub no_packet : List ℕ
no_packet = replicate packet_length 0

-- The arrivals, outgoing and answers areas of a tick have their lengths.
unfoldable pub areas_full : List ℕ → List ℕ → List ℕ → Bool
areas_full area out ans = eqb (length area) arrivals_length && eqb (length out) outgoing_length && eqb (length ans) answers_length

-- Per port who has it, what its arrival met, and how many were withdrawn, in two bytes, high first.
unfoldable pub answers_area : (ℕ → ℕ) → (ℕ → ℕ) → (ℕ → ℕ) → List ℕ
answers_area port arrival withdrawn = per_port (λ p. port p ∷ []) ++ per_port (λ p. arrival p ∷ []) ++ per_port (λ p. withdrawn p / 256 ∷ withdrawn p % 256 ∷ [])

-- Lists of slot addresses.
unfoldable pub elem : ℕ → List ℕ → Bool
elem a [] = false
elem a (x ∷ xs) = eqb a x || elem a xs

unfoldable pub distinct : List ℕ → Bool
distinct [] = true
distinct (x ∷ xs) = not (elem x xs) && distinct xs

-- ---- questions in their order, and those that both routers ask of a call (document 01, "The questions, in order")

-- A question is its answer and the number of a no. The first no stops the call with its number; 0 means accepted.
unfoldable pub asked : List (Bool × ℕ) → ℕ
asked [] = 0
asked ((passed, n) ∷ qs) = cond (not passed) n (asked qs)

-- A control write, at a clock reading of c bytes: is the register 0-5 (4), does the value fit it (5)?
abbrev pub control_questions : ℕ → ℕ → ℕ → List (Bool × ℕ)
control_questions c register v = (leb register 5, 4) ∷ (fits c register v, 5) ∷ []

-- Per arrival: is the entry's mask nonzero (6), is the offset at least - d (7), is n above 0 (8)? An accepted one is answered by 1.
abbrev pub arrival_questions : Bool → Bool → Bool → List (Bool × ℕ)
arrival_questions routed in_time room = (routed, 6) ∷ (in_time, 7) ∷ (room, 8) ∷ []

unfoldable pub arrival_answer : ℕ → ℕ
arrival_answer n = cond (eqb n 0) 1 n

-- A tick: are both masks at most 31 (3)?
abbrev pub tick_questions : ℕ → ℕ → List (Bool × ℕ)
tick_questions arriving waiting = (leb arriving 31 && leb waiting 31, 3) ∷ []
