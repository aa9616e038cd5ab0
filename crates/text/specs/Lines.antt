-- The lines that `tape` prints, as bytes (document 01, "Tape program"). Assumes nothing.
use Rattle.std.specs.Prelude.{ℕ, zero, suc, max, ◌+◌, ◌*◌, ◌/◌, ◌%◌, cond, List, [], ◌∷◌, ◌++◌, ltb, eqb}
use Rattle.rules.specs.Areas.{packet_length, byte, per_port}

-- The last k decimal digits of v.
unfoldable pub decimal : ℕ → ℕ → List ℕ
decimal zero v = []
decimal (suc k) v = decimal k (v / 10) ++ ((48 + v % 10) ∷ [])

-- How many digits v has without zeros in front, up to k more than one.
unfoldable pub digits_up_to : ℕ → ℕ → ℕ
digits_up_to zero v = 1
digits_up_to (suc k) v = cond (ltb v 10) 1 (suc (digits_up_to k (v / 10)))

-- Twenty digits hold every number of 64 bits.
abbrev pub digits_of : ℕ → ℕ
digits_of v = digits_up_to 19 v

-- A number without zeros in front.
unfoldable pub unpadded : ℕ → List ℕ
unpadded v = decimal (digits_of v) v

-- A record's number, in at least six digits.
abbrev pub record_number : ℕ → List ℕ
record_number v = decimal (max 6 (digits_of v)) v

-- A capital hex digit.
abbrev pub hex : ℕ → ℕ
hex d = cond (ltb d 10) (48 + d) (55 + d)

-- A port's field, from its answer and the outgoing identifier: `---`, `bef`, or two hex digits with N or E.
unfoldable pub field : ℕ → ℕ → List ℕ
field code identifier =
    cond (eqb code 0) (45 ∷ 45 ∷ 45 ∷ [])
    (cond (eqb code 2) (98 ∷ 101 ∷ 102 ∷ [])
    (hex (identifier / 16) ∷ hex (identifier % 16) ∷ cond (eqb code 1) 78 69 ∷ []))

-- A space and port p's field, from the outgoing and the answer bytes.
unfoldable pub port_field : List ℕ → List ℕ → ℕ → List ℕ
port_field out ans p = 32 ∷ field (byte ans p) (byte out (packet_length * p))

-- How many were withdrawn on port p, on the ports below p, and in all, from the ten bytes of the answers.
abbrev pub withdrawn : List ℕ → ℕ → ℕ
withdrawn ans p = byte ans (10 + 2 * p) * 256 + byte ans (11 + 2 * p)

unfoldable pub withdrawn_below : List ℕ → ℕ → ℕ
withdrawn_below ans zero = 0
withdrawn_below ans (suc p) = withdrawn_below ans p + withdrawn ans p

abbrev pub withdrawn_sum : List ℕ → ℕ
withdrawn_sum ans = withdrawn_below ans 5

-- `R`, the record's number and the refusal in two digits.
unfoldable pub refused_line : ℕ → ℕ → List ℕ
refused_line k q = (82 ∷ []) ++ (32 ∷ record_number k) ++ (32 ∷ decimal 2 q) ++ (10 ∷ [])

-- `T`, the clock before the tick in three digits, the five fields and all withdrawn in four; and with the line feed that ends it.
unfoldable pub tick_text : ℕ → List ℕ → List ℕ → List ℕ
tick_text t out ans = (84 ∷ []) ++ (32 ∷ decimal 3 t) ++ per_port (port_field out ans) ++ (32 ∷ decimal 4 (withdrawn_sum ans))

unfoldable pub tick_line : ℕ → List ℕ → List ℕ → List ℕ
tick_line t out ans = tick_text t out ans ++ (10 ∷ [])
