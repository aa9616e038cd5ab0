-- What a reader finds in what `tape` prints, from the bytes of the input (document 01, "Tape program" and "Per tape record"): over the router's own calls, and in no word of the definitions that print. Assumes nothing.
use Rattle.std.specs.Prelude.{ℕ, suc, ◌+◌, ◌*◌, ◌^◌, ◌≤◌, ◌<◌, ◌≡◌, true, false, ◌≢◌, ◌⊎◌, List, [], ◌∷◌, ◌++◌, length, get_or, take, drop, set, replicate}
use Rattle.std.proofs.Math.Option.{Option, none, some}
use Rattle.rules.specs.Areas.{Store, Bytes, byte, has}
use Rattle.rules.specs.Board.{board8}
use Rattle.rules.specs.Questions.{make_fresh}
use Rattle.rules.specs.Whole.{TickCall}
use Rattle.rules.specs.Calls.{control, tick}
use Rattle.rules.specs.Demand3.{byte_step}
use Rattle.text.specs.Characters.{cut_from, Reads}

-- ---- lines

-- `R`, the record's number k in at least six digits, and the refusal q in two.
pub record RefusedLine (k q : ℕ) (line : List ℕ) : Type 0 where
  pub number : List ℕ
  pub refusal : List ℕ
  pub parts : line ≡ 82 ∷ 32 ∷ number ++ (32 ∷ refusal)
  pub number_reads : Reads number k
  pub six : 6 ≤ length number
  pub unpadded : 6 < length number → byte number 0 ≢ 48
  pub refusal_reads : Reads refusal q
  pub two : length refusal ≡ 2

-- A capital hex digit of the value d.
abbrev pub HexDigit : ℕ → ℕ → Type 0
HexDigit d c = ((d < 10) × (c ≡ 48 + d)) ⊎ ((10 ≤ d) × (d < 16) × (c ≡ 55 + d))

-- The identifier i as two capital hex digits, and a letter.
pub record Identifier (i letter : ℕ) (field : List ℕ) : Type 0 where
  pub high : ℕ
  pub low : ℕ
  pub value : i ≡ 16 * high + low
  pub first : HexDigit high (byte field 0)
  pub second : HexDigit low (byte field 1)
  pub third : byte field 2 ≡ letter

-- A port's field, from its answer and the identifier in the outgoing area: `---` nobody, `bef` best-effort, an identifier with N on time or with E early.
pub record PortField (answer identifier : ℕ) (field : List ℕ) : Type 0 where
  pub known : answer ≤ 3
  pub nobody : answer ≡ 0 → field ≡ 45 ∷ 45 ∷ 45 ∷ []
  pub on_time : answer ≡ 1 → Identifier identifier 78 field
  pub when_best_effort : answer ≡ 2 → field ≡ 98 ∷ 101 ∷ 102 ∷ []
  pub early : answer ≡ 3 → Identifier identifier 69 field

-- How many packets the answers say were withdrawn on port p.
abbrev pub withdrawn_on : List ℕ → ℕ → ℕ
withdrawn_on ans p = 256 * byte ans (10 + 2 * p) + byte ans (11 + 2 * p)

-- `T`, the clock before the tick in three digits, the five fields, and all withdrawn in four digits, a space between each two.
pub record TickLine (clock : ℕ) (out ans line : List ℕ) : Type 0 where
  pub width : length line ≡ 30
  pub letter : byte line 0 ≡ 84
  pub spaces : (i : ℕ) → i < 7 → byte line (1 + 4 * i) ≡ 32
  pub clock_reads : Reads (take 3 (drop 2 line)) clock
  pub ports : (p : ℕ) → p < 5 → PortField (byte ans p) (byte out (20 * p)) (take 3 (drop (6 + 4 * p) line))
  pub withdrawn_reads : Reads (drop 26 line) (withdrawn_on ans 0 + withdrawn_on ans 1 + withdrawn_on ans 2 + withdrawn_on ans 3 + withdrawn_on ans 4)

-- ---- records

-- An arrival that waits for the coming tick: the number of its record, and its packet.
abbrev pub Waiting : Type 0
Waiting = Option (ℕ × List ℕ)

-- Between two records: the router's state and memory, and what waits on each port.
pub record Between : Type 0 where
  pub store : Store
  pub waits : List Waiting

abbrev pub waits_on : Between → ℕ → Waiting
waits_on σ p = get_or σ.waits p none

-- The kinds of record, 43h control, 41h arrival and 54h tick, their unused bytes being zero.
abbrev pub ZeroFrom : ℕ → List ℕ → Type 0
ZeroFrom i r = (j : ℕ) → i ≤ j → j < 24 → byte r j ≡ 0

pub record IsControl (r : List ℕ) : Type 0 where
  pub kind : byte r 0 ≡ 67
  pub unused : ZeroFrom 3 r

pub record IsArrival (r : List ℕ) : Type 0 where
  pub kind : byte r 0 ≡ 65
  pub port : byte r 1 ≤ 4
  pub unused : (byte r 2 ≡ 0) × (byte r 3 ≡ 0)

pub record IsTick (r : List ℕ) : Type 0 where
  pub kind : byte r 0 ≡ 84
  pub unused : ZeroFrom 2 r

-- Why a whole record has the refusal n: 10 another kind, 11 an unused byte that isn't zero or an arrival's port above 4, 12 a port that has a packet for the coming tick.
pub data Unfit (σ : Between) (r : List ℕ) (n : ℕ) : Type 0 where
  no_kind : n ≡ 10 → byte r 0 ≢ 67 → byte r 0 ≢ 65 → byte r 0 ≢ 84 → Unfit σ r n
  no_control : n ≡ 11 → byte r 0 ≡ 67 → (IsControl r → ⊥) → Unfit σ r n
  no_arrival : n ≡ 11 → byte r 0 ≡ 65 → (IsArrival r → ⊥) → Unfit σ r n
  no_tick : n ≡ 11 → byte r 0 ≡ 84 → (IsTick r → ⊥) → Unfit σ r n
  occupied : n ≡ 12 → IsArrival r → waits_on σ (byte r 1) ≢ none → Unfit σ r n

-- ---- calls

-- What is printed of a call of record k by its number: nothing where it is accepted, else its refusal.
pub data Answered (k n : ℕ) (ls : List (List ℕ)) : Type 0 where
  accepted : n ≡ 0 → ls ≡ [] → Answered k n ls
  refused : n ≢ 0 → (l : List ℕ) → RefusedLine k n l → ls ≡ l ∷ [] → Answered k n ls

-- The call of a tick brings just the arrivals that wait, each in its port's place; best-effort's mask is b.
pub record Brings (σ : Between) (b : ℕ) (k : TickCall) : Type 0 where
  pub when_best_effort : k.best_effort ≡ b
  pub ports : k.arriving < 32
  pub whole : length k.arrivals ≡ 100
  pub none_else : (p : ℕ) → p < 5 → waits_on σ p ≡ none → has k.arriving p ≡ false
  pub arrival : (p : ℕ) → p < 5 → (n : ℕ) (x : List ℕ) → waits_on σ p ≡ some (n, x) → (has k.arriving p ≡ true) × ((j : ℕ) → j < 20 → byte k.arrivals (20 * p + j) ≡ byte x j)

-- The refusals 6 to 8 of a tick on the ports below p, in port order, each under its arrival's record.
pub data Refusals (σ : Between) (ans : List ℕ) : ℕ → List (List ℕ) → Type 0 where
  no_port : Refusals σ ans 0 []
  taken : {p : ℕ} {ls : List (List ℕ)} → byte ans (5 + p) < 6 → Refusals σ ans p ls → Refusals σ ans (suc p) ls
  refused : {p : ℕ} {ls : List (List ℕ)} (n : ℕ) (x l : List ℕ) → waits_on σ p ≡ some (n, x) → (6 ≤ byte ans (5 + p)) × (byte ans (5 + p) ≤ 8) → RefusedLine n (byte ans (5 + p)) l → Refusals σ ans p ls
      → Refusals σ ans (suc p) (ls ++ (l ∷ []))

-- ---- the tape

-- Record k, whole, of the bytes r: the lines that it prints, and what is after it.
pub data Step (k : ℕ) (σ : Between) (r : List ℕ) (ls : List (List ℕ)) (σ' : Between) : Type 0 where
  -- A record that is refused changes nothing.
  unfit : (n : ℕ) (l : List ℕ) → Unfit σ r n → RefusedLine k n l → ls ≡ l ∷ [] → σ' ≡ σ → Step k σ r ls σ'
  -- A control write is a call.
  written : IsControl r → (let o = byte_step board8 σ.store (control (byte r 1) (byte r 2)) in Answered k o.reply.number ls × (σ' ≡ record { store = o.after; waits = σ.waits })) → Step k σ r ls σ'
  -- An arrival waits for the coming tick.
  kept : IsArrival r → waits_on σ (byte r 1) ≡ none → ls ≡ [] → σ' ≡ record { store = σ.store; waits = set σ.waits (byte r 1) (some (k, drop 4 r)) } → Step k σ r ls σ'
  -- An accepted tick takes the arrivals: their refusals come before its own line.
  ticked : IsTick r → (b : TickCall) (out ans : List ℕ) → Brings σ (byte r 1) b → length out ≡ 100 → length ans ≡ 20 → (before : List (List ℕ)) (l : List ℕ)
      → (let o = byte_step board8 σ.store (tick b out ans) in
      (o.reply.number ≡ 0) × Refusals σ o.reply.answers 5 before × TickLine (byte σ.store.state 0) o.reply.outgoing o.reply.answers l × (σ' ≡ record { store = o.after; waits = replicate 5 none }))
      → ls ≡ before ++ (l ∷ []) → Step k σ r ls σ'
  -- A refused one keeps them.
  turned_away : IsTick r → (b : TickCall) (out ans : List ℕ) → Brings σ (byte r 1) b → length out ≡ 100 → length ans ≡ 20 → (l : List ℕ)
      → (let o = byte_step board8 σ.store (tick b out ans) in (o.reply.number ≢ 0) × RefusedLine k o.reply.number l × (σ' ≡ record { store = o.after; waits = σ.waits }))
      → ls ≡ l ∷ [] → Step k σ r ls σ'

-- What is printed of the input after k records: its records of 24 bytes in order; a rest of fewer gets 9, and reading ends; an input that ends after a whole record gets none.
pub data Prints : ℕ → Between → List ℕ → List (List ℕ) → Type 0 where
  ended : {k : ℕ} {σ : Between} → Prints k σ [] []
  short : {k : ℕ} {σ : Between} {r : List ℕ} (l : List ℕ) → (0 < length r) × (length r < 24) → RefusedLine (suc k) 9 l → Prints k σ r (l ∷ [])
  next : {k : ℕ} {σ σ' : Between} {r input : List ℕ} {ls more : List (List ℕ)} → length r ≡ 24 → Step (suc k) σ r ls σ' → Prints (suc k) σ' input more → Prints k σ (r ++ input) (ls ++ more)

-- Before the first record: what `make_fresh` leaves of any areas at clock 0, and no arrival.
abbrev pub begun : Store → Between
begun r = record { store = (make_fresh board8 r 0).after; waits = replicate 5 none }

-- ---- the claim, of what prints a tape: cut at its line feeds, the output is these lines, and nothing after the last
unfoldable pub TapePrinted : (List ℕ → List ℕ) → Type 0
TapePrinted print = (r : Store) → length r.state ≡ 1804 → length r.memory ≡ 5120 → (input : List ℕ) → Bytes input → length input < 2 ^ 64
    → (ls : List (List ℕ)) × (cut_from [] (print input) ≡ ls ++ ([] ∷ [])) × Prints 0 (begun r) input ls

-- Whatever meets the claim prints what `ours` does, of every tape.
unfoldable pub OnlyPrinter : (List ℕ → List ℕ) → Type 0
OnlyPrinter ours = (print : List ℕ → List ℕ) → TapePrinted print → (input : List ℕ) → Bytes input → length input < 2 ^ 64 → print input ≡ ours input
